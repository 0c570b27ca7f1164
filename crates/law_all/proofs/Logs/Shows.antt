-- A row that shows a version of a bucket is that bucket's row of this version, where changes come only where they are due.
use Rattle.std.proofs.Common.{ℕ, ◌≡◌, ◌≤◌, ◌<◌, ◌+◌, Bool, true, false, List, [], ◌∷◌, ◌++◌, length, Option, Some, None, refl, sym, ap, ◌∙◌, subst, arith, length-append}
use Rattle.std.proofs.lemmas.Bool.Decides.{nat_tests}
use Rattle.std.specs.Prelude.{◌==◌, if◌then◌else◌, nat_le}
use Rattle.law_scans.proofs.laws.records.defs.Facts.{first_of, le_of_test, number_is, rest_of, same_number, same_test}
use Rattle.law_scans.specs.laws.defs.declared.event.Event.{Event}
use Rattle.law_scans.specs.laws.defs.declared.event.Event.TheVariants as events
use Rattle.law_scans.specs.laws.defs.declared.event.Root.TheVariants as roots
use Rattle.law_scans.specs.laws.defs.declared.fold.Change.{Change}
use Rattle.law_scans.specs.laws.defs.declared.fold.Change.TheVariants as changes
use Rattle.law_scans.specs.laws.MapLaw.{map_ok}
use Rattle.law_scans.specs.laws.Once.Due.{ChangeDue, CutDue}
use Rattle.law_scans.specs.laws.Once.{Due, due_at, due_cut, due_linked, is_free, meets_due, order_ok}
use Rattle.law_scans.specs.laws.StructuresAt.RowShows.{LinkedAt, ShowsVersion, Unlinked}
use Rattle.law_scans.specs.laws.StateAt.{bucket_at}
use Rattle.law_scans.specs.laws.StructuresAt.{RowShows, bucket_of, changed_to, changes_of, count_of, row_at, row_changed, shows_of}
use Rattle.law_scans.specs.laws.records.Record.Past.{Start, Then}
use Rattle.law_scans.specs.laws.records.Record.{Each, Past}
use Rattle.law_all.proofs.Logs.Grows.{grows_entry, more_count, same_row}
use Rattle.law_all.proofs.Logs.Roots.{is_change, is_linking}

-- the row of a version that the bucket has had, and of no later one
pub record IsVersion (b version slot : ℕ) (p : Past) : Type 0 where
  pub some : 1 ≤ version
  pub had : version ≤ count_of b p
  pub row_is : row_at b version p ≡ Some slot
  pub last : (other : ℕ) → other ≤ count_of b p → row_at b other p ≡ Some slot → other ≤ version

-- a row that was linked at the bucket's root last: a change of the bucket is due, or will be after a cut
abbrev IsDue : ℕ → Due → (linking : Bool) → Type 0
IsDue b (ChangeDue seat bucket) linking = b ≡ bucket
IsDue b (CutDue seat old) linking = linking ≡ true
IsDue b due linking = ⊥

record IsLinked (slots b slot : ℕ) (p : Past) : Type 0 where
  root : bucket_at b p ≡ Some slot
  due : IsDue b (due_at slots p) (is_linking b p)

abbrev Is : (slots slot : ℕ) → Past → RowShows → Type 0
Is slots slot p Unlinked = Unit {0}
Is slots slot p (LinkedAt b) = IsLinked slots b slot p
Is slots slot p (ShowsVersion b version) = IsVersion b version slot p

count_still : (b i : ℕ) (p : Past) (event : Event) → is_change b event ≡ false → count_of b (Then p i event) ≡ count_of b p
count_still b i p (events.Put bucket version key value) h = rw h refl
count_still b i p (events.Removed bucket version key) h = rw h refl
count_still b i p event h = refl

version_still : (b version slot i : ℕ) (p : Past) (event : Event) → is_change b event ≡ false → IsVersion b version slot p
    → IsVersion b version slot (Then p i event)
version_still b version slot i p event h s =
    let q : Past = Then p i event in
    let g = grows_entry p i event in
    let m = more_count b p q g in
    let same = count_still b i p event h in
    record {
      some = s.some;
      had = omega (arith, m, s.had);
      row_is = same_row b version p q g s.had ∙ s.row_is;
      last = λ other low row.
          let before : other ≤ count_of b p = omega (arith, low, same) in
          s.last other before (sym (same_row b other p q g before) ∙ row);
    }

-- a change of the bucket, whose row is another one
version_changed : (b version slot i : ℕ) (p : Past) (event : Event) → count_of b (Then p i event) ≡ count_of b p + 1
    → row_at b (count_of b p + 1) (Then p i event) ≡ bucket_at b p → (bucket_at b p ≡ Some slot → ⊥) → IsVersion b version slot p
    → IsVersion b version slot (Then p i event)
version_changed b version slot i p event more new fresh s =
    let q : Past = Then p i event in
    let g = grows_entry p i event in
    record {
      some = s.some;
      had = omega (arith, more, s.had);
      row_is = same_row b version p q g s.had ∙ s.row_is;
      last = λ other low row. by other low row (nat_le other (count_of b p)) refl;
    }
  where
    by : (other : ℕ) → other ≤ count_of b (Then p i event) → row_at b other (Then p i event) ≡ Some slot → (old : Bool) → nat_le other (count_of b p) ≡ old
        → other ≤ version
    by other low row true e =
        let before : other ≤ count_of b p = le_of_test other (count_of b p) e in
        s.last other before (sym (same_row b other p (Then p i event) (grows_entry p i event) before) ∙ row)
    by other low row false e =
        let above : count_of b p < other = grind (arith, nat_tests) in
        let next : count_of b p + 1 ≡ other = omega (arith, low, more, above) in
        absurd (fresh (sym new ∙ ap (λ (x : ℕ). row_at b x (Then p i event)) next ∙ row))

-- where a change is due, the row at the bucket's root was linked last
record HasLinked (b : ℕ) (p : Past) : Type 0 where
  slot : ℕ
  root : bucket_at b p ≡ Some slot
  shows : shows_of slot p ≡ LinkedAt b

linked_root : (bucket slot i : ℕ) (p : Past) → HasLinked bucket (Then p i (events.Link (roots.Bucket bucket) slot))
linked_root bucket slot i p = record { slot = slot; root = rw (same_number bucket) refl; shows = rw (same_number slot) refl }

cut_has : (b seat i other : ℕ) (q : Past) → due_cut i q ≡ ChangeDue seat b → HasLinked b (Then q i (events.Cut other))
cut_has b seat i other (Then p k (events.Link (roots.Bucket bucket) slot)) e =
    let same : bucket ≡ b = cc in
    let l = linked_root bucket slot k p in
    let h : HasLinked bucket (Then (Then p k (events.Link (roots.Bucket bucket) slot)) i (events.Cut other)) =
    record { slot = l.slot; root = l.root; shows = l.shows } in
    subst (λ (x : ℕ). HasLinked x (Then (Then p k (events.Link (roots.Bucket bucket) slot)) i (events.Cut other))) same h
cut_has b seat i other (Then p k (events.Link roots.Head slot)) e = absurd (cc)
cut_has b seat i other (Then p k event) e = absurd (cc)
cut_has b seat i other Start e = absurd (cc)

link_bucket : (b seat i bucket : ℕ) (old : Option ℕ) → due_linked i bucket old ≡ ChangeDue seat b → bucket ≡ b
link_bucket b seat i bucket None e = cc
link_bucket b seat i bucket (Some old) e = absurd (cc)

due_has : (slots b seat : ℕ) (p : Past) → due_at slots p ≡ ChangeDue seat b → HasLinked b p
due_has slots b seat Start e = absurd (cc)
due_has slots b seat (Then q i (events.Link (roots.Bucket bucket) slot)) e =
    subst (λ (x : ℕ). HasLinked x (Then q i (events.Link (roots.Bucket bucket) slot))) (link_bucket b seat i bucket (bucket_at bucket q) e) (linked_root bucket slot i q)
due_has slots b seat (Then q i (events.Cut other)) e = cut_has b seat i other q e
due_has slots b seat (Then q i event) e = absurd (cc)

put_due : (due : Due) (i bucket version key value : ℕ) → meets_due due i (events.Put bucket version key value) ≡ true → (seat : ℕ) × (due ≡ ChangeDue seat bucket)
put_due (ChangeDue seat other) i bucket version key value m = (seat, ap (ChangeDue seat) (sym (number_is bucket other (rest_of (i == seat) (bucket == other) m))))
put_due due i bucket version key value m = absurd (cc)

removed_due : (due : Due) (i bucket version key : ℕ) → meets_due due i (events.Removed bucket version key) ≡ true → (seat : ℕ) × (due ≡ ChangeDue seat bucket)
removed_due (ChangeDue seat other) i bucket version key m = (seat, ap (ChangeDue seat) (sym (number_is bucket other (rest_of (i == seat) (bucket == other) m))))
removed_due due i bucket version key m = absurd (cc)

not_fresh : (b slot version : ℕ) (p : Past) → HasLinked b p → shows_of slot p ≡ ShowsVersion b version → bucket_at b p ≡ Some slot → ⊥
not_fresh b slot version p h e r =
    let one : h.slot ≡ slot = cc in
    let linked : shows_of slot p ≡ LinkedAt b = subst (λ (x : ℕ). shows_of x p ≡ LinkedAt b) one h.shows in
    cc

-- any other entry
no_due : (b : ℕ) (due : Due) (linking : Bool) (i : ℕ) (event : Event) → is_free event ≡ true → meets_due due i event ≡ true → IsDue b due linking → ⊥
no_due b (ChangeDue seat bucket) linking i (events.Put other version key value) f m d = absurd (cc)
no_due b (ChangeDue seat bucket) linking i (events.Removed other version key) f m d = absurd (cc)
no_due b (ChangeDue seat bucket) linking i event f m d = absurd (cc)
no_due b (CutDue seat old) linking i (events.Cut slot) f m d = absurd (cc)
no_due b (CutDue seat old) linking i event f m d = absurd (cc)
no_due b due linking i event f m d = d

free_change : (b : ℕ) (event : Event) → is_free event ≡ true → is_change b event ≡ false
free_change b (events.Put bucket version key value) f = absurd (cc)
free_change b (events.Removed bucket version key) f = absurd (cc)
free_change b event f = refl

free_stays : (slots slot i : ℕ) (p : Past) (event : Event) (before : RowShows) → is_free event ≡ true → order_ok slots p i event ≡ true → Is slots slot p before
    → Is slots slot (Then p i event) before
free_stays slots slot i p event Unlinked f o s = tt
free_stays slots slot i p event (LinkedAt b) f o s = absurd (no_due b (due_at slots p) (is_linking b p) i event f o s.due)
free_stays slots slot i p event (ShowsVersion b version) f o s = version_still b version slot i p event (free_change b event f) s

-- a link at a bucket's root
linked_due : (b i : ℕ) (old : Option ℕ) (linking : Bool) → linking ≡ true → IsDue b (due_linked i b old) linking
linked_due b i None linking h = refl
linked_due b i (Some old) linking h = h

linked : (slots bucket slot i : ℕ) (p : Past) → IsLinked slots bucket slot (Then p i (events.Link (roots.Bucket bucket) slot))
linked slots bucket slot i p = record { root = rw (same_number bucket) refl; due = linked_due bucket i (bucket_at bucket p) (bucket == bucket) (same_number bucket) }

link_shows : (slots slot bucket other i : ℕ) (p : Past) (same : Bool) → (slot == other) ≡ same → order_ok slots p i (events.Link (roots.Bucket bucket) other) ≡ true
    → Is slots slot p (shows_of slot p) → Is slots slot (Then p i (events.Link (roots.Bucket bucket) other)) (if same then LinkedAt bucket else shows_of slot p)
link_shows slots slot bucket other i p true e o s =
    subst (λ (x : ℕ). IsLinked slots bucket slot (Then p i (events.Link (roots.Bucket bucket) x))) (number_is slot other e) (linked slots bucket slot i p)
link_shows slots slot bucket other i p false e o s = free_stays slots slot i p (events.Link (roots.Bucket bucket) other) (shows_of slot p) refl o s

-- a cut leaves the change due
cut_linked : (slots b slot i other : ℕ) (p : Past) (due : Due) → due_at slots p ≡ due → order_ok slots p i (events.Cut other) ≡ true → IsLinked slots b slot p
    → IsDue b due (is_linking b p) → meets_due due i (events.Cut other) ≡ true → IsLinked slots b slot (Then p i (events.Cut other))
cut_linked slots b slot i other p (ChangeDue seat bucket) e o s d m = absurd (cc)
cut_linked slots b slot i other (Then q k (events.Link (roots.Bucket bucket) row)) (CutDue seat old) e o s d m =
    record { root = s.root; due = number_is b bucket d }
cut_linked slots b slot i other p (CutDue seat old) e o s d m = absurd (cc)
cut_linked slots b slot i other p due e o s d m = absurd (cc)

cut_shows : (slots slot i other : ℕ) (p : Past) (before : RowShows) → order_ok slots p i (events.Cut other) ≡ true → Is slots slot p before
    → Is slots slot (Then p i (events.Cut other)) before
cut_shows slots slot i other p Unlinked o s = tt
cut_shows slots slot i other p (LinkedAt b) o s = cut_linked slots b slot i other p (due_at slots p) refl o s s.due o
cut_shows slots slot i other p (ShowsVersion b version) o s = version_still b version slot i p (events.Cut other) refl s

-- a change is that of the row that was linked
row_made : (b bucket version slot : ℕ) (p : Past) (old : Option ℕ) → bucket ≡ b → version ≡ count_of bucket p + 1 → bucket_at b p ≡ Some slot
    → row_changed b version p bucket old ≡ Some slot
row_made b bucket version slot p old e v r =
    let here : (b == bucket) ≡ true = same_test b bucket (sym e) in
    let next : count_of b p + 1 ≡ version = sym (subst (λ (x : ℕ). version ≡ count_of x p + 1) e v) in
    let now : (count_of b p + 1 == version) ≡ true = same_test (count_of b p + 1) version next in
    rw (here, now) r

count_made : (b bucket : ℕ) (all : List Change) (change : Change) → bucket ≡ b → length (if b == bucket then all ++ change ∷ [] else all) ≡ length all + 1
count_made b bucket all change e = let here : (b == bucket) ≡ true = same_test b bucket (sym e) in rw here (length-append all (change ∷ []))

version_made : (b bucket version slot count : ℕ) (p q : Past) → bucket ≡ b → version ≡ count_of bucket p + 1 → count_of b q ≡ count_of b p + 1
    → row_at b version q ≡ Some slot → IsVersion b version slot q
version_made b bucket version slot count p q e v more row =
    let next : version ≡ count_of b p + 1 = subst (λ (x : ℕ). version ≡ count_of x p + 1) e v in
    record { some = omega (arith, next); had = omega (arith, next, more); row_is = row; last = λ other low is. omega (arith, next, more, low) }

due_bucket : (b : ℕ) (due : Due) (linking : Bool) (i bucket version key value : ℕ) → IsDue b due linking
    → meets_due due i (events.Put bucket version key value) ≡ true → bucket ≡ b
due_bucket b (ChangeDue seat other) linking i bucket version key value d m = number_is bucket other (rest_of (i == seat) (bucket == other) m) ∙ sym d
due_bucket b (CutDue seat old) linking i bucket version key value d m = absurd (cc)
due_bucket b due linking i bucket version key value d m = absurd d

due_removed : (b : ℕ) (due : Due) (linking : Bool) (i bucket version key : ℕ) → IsDue b due linking → meets_due due i (events.Removed bucket version key) ≡ true
    → bucket ≡ b
due_removed b (ChangeDue seat other) linking i bucket version key d m = number_is bucket other (rest_of (i == seat) (bucket == other) m) ∙ sym d
due_removed b (CutDue seat old) linking i bucket version key d m = absurd (cc)
due_removed b due linking i bucket version key d m = absurd d

row_changed_to : (b bucket : ℕ) (old : Option ℕ) (p : Past) → (b == bucket) ≡ true → row_changed b (count_of b p + 1) p bucket old ≡ bucket_at b p
row_changed_to b bucket old p h = rw (h, same_number (count_of b p + 1)) refl

put_shows : (n slots slot i bucket version key value : ℕ) (p : Past) (before : RowShows) → order_ok slots p i (events.Put bucket version key value) ≡ true
    → map_ok n p i (events.Put bucket version key value) ≡ true → shows_of slot p ≡ before → Is slots slot p before
    → Is slots slot (Then p i (events.Put bucket version key value)) (changed_to version before)
put_shows n slots slot i bucket version key value p Unlinked o m e s = tt
put_shows n slots slot i bucket version key value p (LinkedAt b) o m e s =
    let here : bucket ≡ b = due_bucket b (due_at slots p) (is_linking b p) i bucket version key value s.due o in
    let next : version ≡ count_of bucket p + 1 = number_is version (count_of bucket p + 1) (first_of (version == count_of bucket p + 1) (bucket == bucket_of n key) m) in
    version_made b bucket version slot 0 p (Then p i (events.Put bucket version key value)) here next
    (count_made b bucket (changes_of b p) (changes.Put key value) here) (row_made b bucket version slot p (row_at b version p) here next s.root)
put_shows n slots slot i bucket version key value p (ShowsVersion b first) o m e s = by (b == bucket) refl
  where
    by : (same : Bool) → (b == bucket) ≡ same → IsVersion b first slot (Then p i (events.Put bucket version key value))
    by true h =
        let here : bucket ≡ b = sym (number_is b bucket h) in
        let due = put_due (due_at slots p) i bucket version key value o in
        version_changed b first slot i p (events.Put bucket version key value) (count_made b bucket (changes_of b p) (changes.Put key value) here)
        (row_changed_to b bucket (row_at b (count_of b p + 1) p) p h)
        (λ r. not_fresh b slot first p (due_has slots b due.0 p (subst (λ (x : ℕ). due_at slots p ≡ ChangeDue due.0 x) here due.1)) e r) s
    by false h = version_still b first slot i p (events.Put bucket version key value) h s

removed_shows : (n slots slot i bucket version key : ℕ) (p : Past) (before : RowShows) → order_ok slots p i (events.Removed bucket version key) ≡ true
    → map_ok n p i (events.Removed bucket version key) ≡ true → shows_of slot p ≡ before → Is slots slot p before
    → Is slots slot (Then p i (events.Removed bucket version key)) (changed_to version before)
removed_shows n slots slot i bucket version key p Unlinked o m e s = tt
removed_shows n slots slot i bucket version key p (LinkedAt b) o m e s =
    let here : bucket ≡ b = due_removed b (due_at slots p) (is_linking b p) i bucket version key s.due o in
    let next : version ≡ count_of bucket p + 1 = number_is version (count_of bucket p + 1) (first_of (version == count_of bucket p + 1) (bucket == bucket_of n key) m) in
    version_made b bucket version slot 0 p (Then p i (events.Removed bucket version key)) here next
    (count_made b bucket (changes_of b p) (changes.Removed key) here) (row_made b bucket version slot p (row_at b version p) here next s.root)
removed_shows n slots slot i bucket version key p (ShowsVersion b first) o m e s = by (b == bucket) refl
  where
    by : (same : Bool) → (b == bucket) ≡ same → IsVersion b first slot (Then p i (events.Removed bucket version key))
    by true h =
        let here : bucket ≡ b = sym (number_is b bucket h) in
        let due = removed_due (due_at slots p) i bucket version key o in
        version_changed b first slot i p (events.Removed bucket version key) (count_made b bucket (changes_of b p) (changes.Removed key) here)
        (row_changed_to b bucket (row_at b (count_of b p + 1) p) p h)
        (λ r. not_fresh b slot first p (due_has slots b due.0 p (subst (λ (x : ℕ). due_at slots p ≡ ChangeDue due.0 x) here due.1)) e r) s
    by false h = version_still b first slot i p (events.Removed bucket version key) h s

entry_shows : (n slots slot i : ℕ) (p : Past) (event : Event) → order_ok slots p i event ≡ true → map_ok n p i event ≡ true → Is slots slot p (shows_of slot p)
    → Is slots slot (Then p i event) (shows_of slot (Then p i event))
entry_shows n slots slot i p (events.Link (roots.Bucket bucket) other) o m s = link_shows slots slot bucket other i p (slot == other) refl o s
entry_shows n slots slot i p (events.Link root other) o m s = free_stays slots slot i p (events.Link root other) (shows_of slot p) refl o s
entry_shows n slots slot i p (events.Put bucket version key value) o m s = put_shows n slots slot i bucket version key value p (shows_of slot p) o m refl s
entry_shows n slots slot i p (events.Removed bucket version key) o m s = removed_shows n slots slot i bucket version key p (shows_of slot p) o m refl s
entry_shows n slots slot i p (events.Cut other) o m s = cut_shows slots slot i other p (shows_of slot p) o s
entry_shows n slots slot i p (events.Queued number value) o m s = queued_shows (shows_of slot p) s
  where
    queued_shows : (before : RowShows) → Is slots slot p before → Is slots slot (Then p i (events.Queued number value)) before
    queued_shows Unlinked s = tt
    queued_shows (LinkedAt b) s = absurd (no_queued (due_at slots p) s.due o)
      where
        no_queued : (due : Due) → IsDue b due (is_linking b p) → meets_due due i (events.Queued number value) ≡ true → ⊥
        no_queued (ChangeDue seat bucket) d m = absurd (cc)
        no_queued (CutDue seat old) d m = absurd (cc)
        no_queued due d m = d
    queued_shows (ShowsVersion b version) s = version_still b version slot i p (events.Queued number value) refl s
entry_shows n slots slot i p (events.Taken number value) o m s = taken_shows (shows_of slot p) s
  where
    taken_shows : (before : RowShows) → Is slots slot p before → Is slots slot (Then p i (events.Taken number value)) before
    taken_shows Unlinked s = tt
    taken_shows (LinkedAt b) s = absurd (no_taken (due_at slots p) s.due o)
      where
        no_taken : (due : Due) → IsDue b due (is_linking b p) → meets_due due i (events.Taken number value) ≡ true → ⊥
        no_taken (ChangeDue seat bucket) d m = absurd (cc)
        no_taken (CutDue seat old) d m = absurd (cc)
        no_taken due d m = d
    taken_shows (ShowsVersion b version) s = version_still b version slot i p (events.Taken number value) refl s
entry_shows n slots slot i p event o m s = free_stays slots slot i p event (shows_of slot p) refl o s

rows_show : (n slots slot : ℕ) (p : Past) → Each (order_ok slots) p → Each (map_ok n) p → Is slots slot p (shows_of slot p)
rows_show n slots slot Start o m = tt
rows_show n slots slot (Then p i event) o m = entry_shows n slots slot i p event o.0 m.0 (rows_show n slots slot p o.1 m.1)

pub shown_version : (n slots slot b version : ℕ) (p : Past) → Each (order_ok slots) p → Each (map_ok n) p → shows_of slot p ≡ ShowsVersion b version
    → IsVersion b version slot p
shown_version n slots slot b version p o m e = subst (Is slots slot p) e (rows_show n slots slot p o m)
