-- At each position of a record, what a seat keeps at the indexes that its call leaves alone is what its log tells.
use Rattle.std.proofs.Common.{ℕ, ◌≡◌, ◌≤◌, ◌<◌, ◌+◌, Bool, true, false, List, [], ◌∷◌, ◌++◌, length, Option, Some, None, refl, sym, ap, ◌∙◌, subst, arith, length-append}
use Rattle.std.proofs.lemmas.Bool.Decides.{nat_tests}
use Rattle.std.proofs.Math.Nat.{max-le}
use Rattle.std.specs.Prelude.{◌==◌, ◌&&◌, if◌then◌else◌, max, nat_le, nat_lt, is_none, not}
use Rattle.law_all.proofs.inv.model.Facts.{false_of_not, first_of, le_of_test, number_is, rest_of, same_number}
use Rattle.law_all.specs.inv.model.Desks.{noted}
use Rattle.law_all.specs.inv.model.Locals.{Group, may_begin}
use Rattle.law_all.specs.inv.model.defs.Entry.{Entry}
use Rattle.law_all.specs.inv.model.defs.Events.{is_held}
use Rattle.law_all.specs.inv.model.defs.declared.call.Answer.TheVariants as answers
use Rattle.law_all.specs.inv.model.defs.declared.call.Answer.{Answer}
use Rattle.law_all.specs.inv.model.defs.declared.call.Call.TheVariants as calls
use Rattle.law_all.specs.inv.model.defs.declared.call.Call.{Call}
use Rattle.law_all.specs.inv.model.defs.declared.event.Event.TheVariants as events
use Rattle.law_all.specs.inv.model.defs.declared.event.Event.{Event}
use Rattle.law_all.specs.inv.model.words.declared.config.Config.{Config}
use Rattle.law_all.specs.laws.AnswerLaw.{suits, tells_none}
use Rattle.law_all.specs.laws.HistoryAnswers.{answer_right, owes, reason, same_told}
use Rattle.law_all.specs.laws.HistoryHolds.{clears_at, copies_ok, indexes_ok, protects_at}
use Rattle.law_all.specs.laws.HistoryTable.{is_in_range, ranges_ok}
use Rattle.law_all.specs.laws.Standing.{is_copy}
use Rattle.law_all.specs.laws.StructuresAt.RowShows.{LinkedAt, ShowsVersion, Unlinked}
use Rattle.law_all.specs.laws.Lists.{has_left}
use Rattle.law_all.specs.laws.StateAt.{began_of, has_told, is_open, is_row, stood_at, stood_by, told_of}
use Rattle.law_all.specs.laws.StructuresAt.{RowShows, bucket_of, count_of, shows_of}
use Rattle.law_all.specs.inv.history.Record.Past.{Start, Then}
use Rattle.law_all.specs.inv.history.Record.{Each, Past, begins, own, tells, told_since}
use Rattle.law_all.specs.Logs.Answered.{IsRow, IsShown, Says, SaysOfRows}
use Rattle.law_all.specs.Kept.{Keeping, kept_by, kept_in, looked_at, looked_by, looked_in}
use Rattle.law_all.specs.Logs.Ledgers.{log_of, notes_of}
use Rattle.law_all.specs.RunLaw.{bucket_kept}
use Rattle.law_all.specs.Logs.Shown.{is_bucket_link, links_ok, misses_for, misses_ok, shows_bucket, shows_for, shows_ok, starts_ok}
use Rattle.law_all.specs.Logs.Versions.{Counts, seen_in}
use Rattle.law_all.proofs.Logs.Counts.{begun_counts}
use Rattle.law_all.proofs.Logs.Grows.{grows_entry, more_count}
use Rattle.law_all.proofs.Logs.Holds.{same_call}
use Rattle.law_all.proofs.Logs.Knows.{Answers, Inner, Lawful, answers_of, end_log, inner_own, is_inner, knows, lawful_before, other_inner, own_begun, own_log, own_open}
use Rattle.law_all.proofs.Runs.Shelves.{Keeps, KeepsAt, held_now, held_version, kept_more, looked_more, keeps_moved, keeps_on, no_link, still_shows, version_shown}
use Rattle.law_all.proofs.Logs.Shows.{IsVersion, shown_version}

-- the laws that a record keeps
pub record Laws (c : Config) (r : Past) : Type 0 where
  pub lawful : Lawful c r
  pub indexes : Each indexes_ok r
  pub copies : Each copies_ok r
  pub links : (k j s : ℕ) → Each (links_ok k j s) r
  pub shows : Each (shows_ok c.buckets) r
  pub misses : Each misses_ok r
  pub starts : Each (starts_ok c) r
  pub ranges : Each (ranges_ok c) r

pub laws_before : (c : Config) (p : Past) (i : ℕ) (event : Event) → Laws c (Then p i event) → Laws c p
laws_before c p i event l = record {
  lawful = lawful_before c p i event l.lawful;
  indexes = l.indexes.1;
  copies = l.copies.1;
  links = λ k j s. (l.links k j s).1;
  shows = l.shows.1;
  misses = l.misses.1;
  starts = l.starts.1;
  ranges = l.ranges.1;
}

-- the call that a seat is in, and the index from 2 on at which it may change what stands
abbrev calling : Bool → Option Call → Option Call
calling false began = None
calling true began = began

abbrev pub touches : Option Call → ℕ → Bool
touches (Some (calls.Hold key)) j = j == 2
touches (Some calls.Release) j = j == 2
touches (Some (calls.DropIndex index)) j = j == index
touches (Some (calls.Copy from index)) j = j == index
touches (Some calls.Leave) j = true
touches call j = false

-- looks have told no version that the bucket did not have where the present call began
pub record Looked (c : Config) (k : ℕ) (p : Past) : Type 0 where
  pub had : (b : ℕ) → looked_in c.buckets b (log_of k p) ≤ count_of b p
  pub begun : is_open k p ≡ true → (b : ℕ) → looked_in c.buckets b (log_of k p) ≤ (begun_counts k p).versions b

pub record Holds (c : Config) (k : ℕ) (p : Past) : Type 0 where
  pub keeps : (j : ℕ) → 2 ≤ j → touches (calling (is_open k p) (began_of k p)) j ≡ false → KeepsAt c k j p (kept_in j (log_of k p))
  pub copies : (from index : ℕ) → began_of k p ≡ Some (calls.Copy from index) → is_open k p ≡ true → tells_none k p ≡ true
      → KeepsAt c k index p (kept_in index (log_of k p))
  pub held : (key slot : ℕ) → began_of k p ≡ Some (calls.Hold key) → has_told k (is_held 2 slot) p ≡ true → stood_at k 2 p ≡ Some slot
      → shows_bucket (bucket_of c.buckets key) (shows_of slot p) ≡ true
  pub starts : (call : Call) → began_of k p ≡ Some call → may_begin c call ≡ true
  pub looked : Looked c k p

-- a call protects and clears at no other index from 2 on
no_protect : (began : Option Call) (j : ℕ) → 2 ≤ j → protects_at began j ≡ true → touches began j ≡ false → ⊥
no_protect (Some (calls.Get key)) j low h t = grind (arith, nat_tests)
no_protect (Some (calls.Put key value)) j low h t = grind (arith, nat_tests)
no_protect (Some (calls.Remove key)) j low h t = grind (arith, nat_tests)
no_protect (Some (calls.PutIf key value wanted)) j low h t = grind (arith, nat_tests)
no_protect (Some (calls.Enqueue value)) j low h t = grind (arith, nat_tests)
no_protect (Some calls.Dequeue) j low h t = grind (arith, nat_tests)
no_protect (Some (calls.Hold key)) j low h t = absurd (cc)
no_protect began j low h t = absurd (cc)

no_clear : (began : Option Call) (j : ℕ) → 2 ≤ j → clears_at began j ≡ true → touches began j ≡ false → ⊥
no_clear (Some calls.Release) j low h t = absurd (cc)
no_clear (Some (calls.DropIndex dropped)) j low h t = let e = first_of (j == dropped) (nat_le 2 dropped) h in absurd (cc)
no_clear (Some (calls.Copy from to)) j low h t = let e = first_of (j == to) (nat_le 2 from && nat_lt from to) h in absurd (cc)
no_clear (Some calls.Leave) j low h t = absurd (cc)
no_clear began j low h t = no_protect began j low h t

no_copy : (began : Option Call) (from j : ℕ) → is_copy from j began ≡ true → touches began j ≡ false → ⊥
no_copy (Some (calls.Copy one other)) from j h t =
    let e : other ≡ j = number_is other j (rest_of (one == from) (other == j) h) in grind (arith, nat_tests)
no_copy began from j h t = absurd (cc)

unless_same : (j index : ℕ) (new old : Option ℕ) (same : Bool) → (j == index) ≡ same → (j ≡ index → ⊥) → (if same then new else old) ≡ old
unless_same j index new old true e f = absurd (f (number_is j index e))
unless_same j index new old false e f = refl

stood_inner : (k j : ℕ) (p : Past) (event : Event) → 2 ≤ j → indexes_ok p k event ≡ true → copies_ok p k event ≡ true → touches (began_of k p) j ≡ false
    → stood_at k j (Then p k event) ≡ stood_at k j p
stood_inner k j p (events.Held index slot steps) low h c t =
    rw (same_number k)
    (unless_same j index (Some slot) (stood_at k j p) (j == index) refl
    (λ e. no_protect (began_of k p) j low (subst (λ (x : ℕ). protects_at (began_of k p) x ≡ true) (sym e) h) t))
stood_inner k j p (events.Clear index slot) low h c t =
    rw (same_number k)
    (unless_same j index None (stood_at k j p) (j == index) refl
    (λ e. no_clear (began_of k p) j low (subst (λ (x : ℕ). clears_at (began_of k p) x ≡ true) (sym e) h) t))
stood_inner k j p (events.Copied from index slot) low h c t =
    rw (same_number k)
    (unless_same j index (Some slot) (stood_at k j p) (j == index) refl
    (λ e. no_copy (began_of k p) from j
    (subst (λ (x : ℕ). is_copy from x (began_of k p) ≡ true) (sym e)
    (first_of (is_copy from index (began_of k p)) (is_row slot (stood_at k from p) && (nat_le 2 from && nat_lt from index)) c)) t))
stood_inner k j p event low h c t = rw (same_number k) refl

-- what a hold's row shows stays
bucket_still : (b s i : ℕ) (p : Past) (event : Event) (shows : RowShows) → shows_of s p ≡ shows → shows_bucket b shows ≡ true → is_bucket_link s event ≡ false
    → shows_bucket b (shows_of s (Then p i event)) ≡ true
bucket_still b s i p event Unlinked e h l = absurd (cc)
bucket_still b s i p event (LinkedAt bucket) e h l = absurd (cc)
bucket_still b s i p event (ShowsVersion bucket version) e h l = ap (shows_bucket b) (still_shows s bucket version i p event e l) ∙ h

stood_before : (k slot : ℕ) (p : Past) (event : Event) (key : ℕ) → began_of k p ≡ Some (calls.Hold key) → copies_ok p k event ≡ true
    → own k (is_held 2 slot) p k event ≡ false → stood_at k 2 (Then p k event) ≡ Some slot → stood_at k 2 p ≡ Some slot
stood_before k slot p (events.Held index other steps) key b c o e = by (2 == index) refl
  where
    here : (if 2 == index then Some other else stood_at k 2 p) ≡ Some slot
    here = rw (same_number k) at e

    by : (same : Bool) → (2 == index) ≡ same → stood_at k 2 p ≡ Some slot
    by true s =
        let row : ◌≡◌ {A = Option ℕ} (Some other) (Some slot) = rw s at here in
        let same : other ≡ slot = cc in
        let two : index ≡ 2 = sym (number_is 2 index s) in
        let told : own k (is_held 2 slot) p k (events.Held index other steps) ≡ true = rw (two, same, same_number slot, same_number k) refl in
        absurd (cc)
    by false s = rw s at here
stood_before k slot p (events.Clear index other) key b c o e = by (2 == index) refl
  where
    here : (if 2 == index then None else stood_at k 2 p) ≡ Some slot
    here = rw (same_number k) at e

    by : (same : Bool) → (2 == index) ≡ same → stood_at k 2 p ≡ Some slot
    by true s = let none : ◌≡◌ {A = Option ℕ} None (Some slot) = rw s at here in absurd (cc)
    by false s = rw s at here
stood_before k slot p (events.Copied from index other) key b c o e =
    let copy : is_copy from index (began_of k p) ≡ true =
    first_of (is_copy from index (began_of k p)) (is_row other (stood_at k from p) && (nat_le 2 from && nat_lt from index)) c in
    let never : is_copy from index (Some (calls.Hold key)) ≡ true = subst (λ (x : Option Call). is_copy from index x ≡ true) b copy in absurd (cc)
stood_before k slot p event key b c o e = rw (same_number k) at e

-- A row that a hold has told to stand shows a version of the bucket of its key.
abbrev Shows : (c : Config) (k : ℕ) (p : Past) → Type 0
Shows c k p =
    (key slot : ℕ) → began_of k p ≡ Some (calls.Hold key) → has_told k (is_held 2 slot) p ≡ true → stood_at k 2 p ≡ Some slot
    → shows_bucket (bucket_of c.buckets key) (shows_of slot p) ≡ true

stood_since : (k i slot : ℕ) (p : Past) (event : Event) (key : ℕ) (same : Bool) → (k == i) ≡ same → began_of k p ≡ Some (calls.Hold key) → copies_ok p i event ≡ true
    → own k (is_held 2 slot) p i event ≡ false → stood_at k 2 (Then p i event) ≡ Some slot → stood_at k 2 p ≡ Some slot
stood_since k i slot p event key true e b c o s =
    let one : i ≡ k = sym (number_is k i e) in
    stood_before k slot p event key b (subst (λ (x : ℕ). copies_ok p x event ≡ true) one c)
    (subst (λ (x : ℕ). own k (is_held 2 slot) p x event ≡ false) one o) (subst (λ (x : ℕ). stood_at k 2 (Then p x event) ≡ Some slot) one s)
stood_since k i slot p event key false e b c o s = rw e at s

row_shows : (c : Config) (k i : ℕ) (p : Past) (event : Event) (key slot : ℕ) → shows_ok c.buckets p i event ≡ true → began_of k p ≡ Some (calls.Hold key)
    → own k (is_held 2 slot) p i event ≡ true → shows_bucket (bucket_of c.buckets key) (shows_of slot (Then p i event)) ≡ true
row_shows c k i p (events.Held index other steps) key slot h b o =
    let x : (index == 2 && other == slot) ≡ true = first_of (index == 2 && other == slot) (k == i) o in
    let row : other ≡ slot = number_is other slot (rest_of (index == 2) (other == slot) x) in
    let seat : k ≡ i = number_is k i (rest_of (index == 2 && other == slot) (k == i) o) in
    let mine : shows_for c.buckets (began_of k p) (shows_of other p) ≡ true =
    subst (λ (n : ℕ). shows_for c.buckets (began_of n p) (shows_of other p) ≡ true) (sym seat) h in
    let held : shows_for c.buckets (Some (calls.Hold key)) (shows_of other p) ≡ true =
    subst (λ (y : Option Call). shows_for c.buckets y (shows_of other p) ≡ true) b mine in
    subst (λ (n : ℕ). shows_bucket (bucket_of c.buckets key) (shows_of n p) ≡ true) row held
row_shows c k i p event key slot h b o = absurd (cc)

shows_entry : (c : Config) (k i : ℕ) (p : Past) (event : Event) (key slot count : ℕ) (begun told : Bool) → begins k p i event ≡ begun
    → own k (is_held 2 slot) p i event ≡ told → nat_lt 0 (if begun then 0 else if told then count + 1 else count) ≡ true → shows_ok c.buckets p i event ≡ true
    → copies_ok p i event ≡ true → links_ok k 2 slot p i event ≡ true → began_of k (Then p i event) ≡ Some (calls.Hold key)
    → stood_at k 2 (Then p i event) ≡ Some slot
    → (began_of k p ≡ Some (calls.Hold key) → nat_lt 0 count ≡ true → stood_at k 2 p ≡ Some slot → shows_bucket (bucket_of c.buckets key) (shows_of slot p) ≡ true)
    → shows_bucket (bucket_of c.buckets key) (shows_of slot (Then p i event)) ≡ true
shows_entry c k i p event key slot count true told e t h w q l b s f = absurd (cc)
shows_entry c k i p event key slot count false true e t h w q l b s f = row_shows c k i p event key slot w (sym (same_call k i p event e) ∙ b) t
shows_entry c k i p event key slot count false false e t h w q l b s f =
    let began : began_of k p ≡ Some (calls.Hold key) = sym (same_call k i p event e) ∙ b in
    let before : stood_at k 2 p ≡ Some slot = stood_since k i slot p event key (k == i) refl began q t s in
    bucket_still (bucket_of c.buckets key) slot i p event (shows_of slot p) refl (f began h before) (no_link k 2 slot i p event l before)

shows_more : (c : Config) (k i : ℕ) (p : Past) (event : Event) → Laws c (Then p i event) → Shows c k p → Shows c k (Then p i event)
shows_more c k i p event l g = λ key slot b t s.
    shows_entry c k i p event key slot (told_since (begins k) (own k (is_held 2 slot)) p) (begins k p i event) (own k (is_held 2 slot) p i event) refl refl t
    l.shows.0 l.copies.0 (l.links k 2 slot).0 b s (λ c n e. g key slot c n e)

-- A call that a seat has begun may begin.
starts_more : (c : Config) (k i : ℕ) (p : Past) (event : Event) → starts_ok c p i event ≡ true → ((call : Call) → began_of k p ≡ Some call → may_begin c call ≡ true)
    → (call : Call) → began_of k (Then p i event) ≡ Some call → may_begin c call ≡ true
starts_more c k i p (events.Begin told) h f call b = by (k == i) refl
  where
    by : (same : Bool) → (k == i) ≡ same → may_begin c call ≡ true
    by true e =
        let some : ◌≡◌ {A = Option Call} (Some told) (Some call) = rw e at b in
        let same : told ≡ call = cc in
        subst (λ (x : Call). may_begin c x ≡ true) same h
    by false e = let before : began_of k p ≡ Some call = rw e at b in f call before
starts_more c k i p event h f call b = f call (sym (same_call k i p event refl) ∙ b)

-- What looks have told.
looked_inner : (c : Config) (k i : ℕ) (p : Past) (event : Event) → Inner k i p event → Looked c k p → Looked c k (Then p i event)
looked_inner c k i p event n g =
    record {
      had = λ b.
          let more = more_count b p (Then p i event) (grows_entry p i event) in
          let low = g.had b in
          subst (λ (x : List Group). looked_in c.buckets b x ≤ count_of b (Then p i event)) (sym n.log) (omega (arith, low, more));
      begun = λ o b.
          subst (λ (x : List Group). looked_in c.buckets b x ≤ (begun_counts k (Then p i event)).versions b) (sym n.log)
          (subst (λ (x : Counts). looked_in c.buckets b (log_of k p) ≤ x.versions b) (sym n.begun) (g.begun (sym n.opened ∙ o) b));
    }

looked_begin : (c : Config) (k : ℕ) (p : Past) (call : Call) → Looked c k p → Looked c k (Then p k (events.Begin call))
looked_begin c k p call g =
    let same : log_of k (Then p k (events.Begin call)) ≡ log_of k p = own_log k p (events.Begin call) in
    record {
      had = λ b. subst (λ (x : List Group). looked_in c.buckets b x ≤ count_of b p) (sym same) (g.had b);
      begun = λ o b.
          subst (λ (x : List Group). looked_in c.buckets b x ≤ (begun_counts k (Then p k (events.Begin call))).versions b) (sym same)
          (subst (λ (x : Counts). looked_in c.buckets b (log_of k p) ≤ x.versions b) (sym (own_begun k p call)) (g.had b));
    }

pub look_low : (c : Config) (index key : ℕ) → may_begin c (calls.Look index key) ≡ true → 2 ≤ index
look_low c index key h = le_of_test 2 index (first_of _ _ h)

-- a version that the bucket had, where the row is from a hold of the bucket
most_of : (b bucket version most count : ℕ) → (bucket ≡ b → version ≤ count) → most ≤ count → (same : Bool) → (bucket == b) ≡ same
    → (if same then max version most else most) ≤ count
most_of b bucket version most count f h true e = max-le (f (number_is bucket b e)) h
most_of b bucket version most count f h false e = h

look_most : (c : Config) (k b index key slot version most : ℕ) (value : Option ℕ) (p : Past) (x : Option Keeping) → Laws c p → KeepsAt c k index p x
    → IsShown k index key p slot version value → most ≤ count_of b p → looked_at c.buckets b x version most ≤ count_of b p
look_most c k b index key slot version most value p None l g s h = h
look_most c k b index key slot version most value p (Some kept) l g s h =
    let stands = g.stands in
    let there = s.stands in
    let row : kept.slot ≡ slot = cc in
    let held : ℕ = held_version k (length kept.before) p in
    let shows : shows_of slot p ≡ ShowsVersion (bucket_kept c kept) held =
    subst (λ (y : ℕ). shows_of y p ≡ ShowsVersion (bucket_kept c kept) held) row g.shows in
    let both : ShowsVersion (bucket_kept c kept) held ≡ ShowsVersion s.bucket version = sym shows ∙ s.shows in
    let bucket : s.bucket ≡ bucket_kept c kept = cc in
    let v : IsVersion s.bucket version slot p = shown_version c.buckets c.slots slot s.bucket version p l.lawful.order l.lawful.map s.shows in
    most_of b (bucket_kept c kept) version most (count_of b p) (λ e. subst (λ (y : ℕ). version ≤ count_of y p) (bucket ∙ e) v.had) h
    (bucket_kept c kept == b) refl

looks_most : (c : Config) (k b most : ℕ) (p : Past) (call : Call) (answer : Answer) → Laws c p → SaysOfRows c k p call answer → may_begin c call ≡ true
    → ((j : ℕ) → 2 ≤ j → touches (Some call) j ≡ false → KeepsAt c k j p (kept_in j (log_of k p))) → most ≤ count_of b p
    → looked_by c.buckets b (log_of k p) call answer most ≤ count_of b p
looks_most c k b most p (calls.Look index key) (answers.Looked slot version value) l rows may keeps h =
    look_most c k b index key slot version most value p (kept_in index (log_of k p)) l (keeps index (look_low c index key may) refl) rows h
looks_most c k b most p call answer l rows may keeps h = h

-- An entry of another seat.
holds_other : (c : Config) (k i : ℕ) (p : Past) (event : Event) → (k == i) ≡ false → Laws c (Then p i event) → Holds c k p → Holds c k (Then p i event)
holds_other c k i p event e l g =
    let n : Inner k i p event = other_inner k i p event e in
    let began : began_of k (Then p i event) ≡ began_of k p = rw e refl in
    let on = (λ (j : ℕ) (s : KeepsAt c k j p (kept_in j (log_of k p))).
    subst (λ (x : List Group). KeepsAt c k j (Then p i event) (kept_in j x)) (sym n.log)
    (keeps_on c k j i p event (kept_in j (log_of k p)) (rw e refl) (λ row. (l.links k j row).0) s)) in
    record {
      keeps = λ j low t. on j (g.keeps j low (sym (ap (λ (x : Bool). touches (calling x (began_of k (Then p i event))) j) n.opened
          ∙ ap (λ (x : Option Call). touches (calling (is_open k p) x) j) began) ∙ t));
      copies = λ from index b o t. on index (g.copies from index (sym began ∙ b) (sym n.opened ∙ o) (sym (none_other k i p event e) ∙ t));
      held = shows_more c k i p event l g.held;
      starts = starts_more c k i p event l.starts.0 g.starts;
      looked = looked_inner c k i p event n g.looked;
    }
  where
    none_other : (k i : ℕ) (p : Past) (event : Event) → (k == i) ≡ false → tells_none k (Then p i event) ≡ tells_none k p
    none_other k i p (events.Begin call) e = rw e refl
    none_other k i p event e = rw e refl

-- An entry of the seat within its call.
began_inner : (k : ℕ) (p : Past) (event : Event) → is_inner event ≡ true → began_of k (Then p k event) ≡ began_of k p
began_inner k p (events.Begin call) h = absurd (cc)
began_inner k p (events.End steps answer) h = absurd (cc)
began_inner k p event h = rw (same_number k) refl

tells_some : (k : ℕ) (p : Past) (event : Event) → is_inner event ≡ true → tells_none k (Then p k event) ≡ true → ⊥
tells_some k p (events.Begin call) h t = absurd (cc)
tells_some k p (events.End steps answer) h t = absurd (cc)
tells_some k p event h t =
    let more : (told_since (begins k) (own k (λ (other : Event). true)) p + 1 == 0) ≡ true = rw (same_number k) at t in
    grind (arith, nat_tests)

holds_inner : (c : Config) (k : ℕ) (p : Past) (event : Event) → is_inner event ≡ true → is_open k p ≡ true → Laws c (Then p k event) → Holds c k p
    → Holds c k (Then p k event)
holds_inner c k p event h o l g =
    let n : Inner k k p event = inner_own k p event h in
    let began : began_of k (Then p k event) ≡ began_of k p = began_inner k p event h in
    record {
      keeps = λ j low t.
          let mine : touches (calling (is_open k p) (began_of k p)) j ≡ false =
          sym (ap (λ (x : Bool). touches (calling x (began_of k (Then p k event))) j) n.opened
          ∙ ap (λ (x : Option Call). touches (calling (is_open k p) x) j) began) ∙ t in
          let untouched : touches (began_of k p) j ≡ false = rw o at mine in
          subst (λ (x : List Group). KeepsAt c k j (Then p k event) (kept_in j x)) (sym n.log)
          (keeps_on c k j k p event (kept_in j (log_of k p)) (stood_inner k j p event low l.indexes.0 l.copies.0 untouched) (λ row. (l.links k j row).0)
          (g.keeps j low mine));
      copies = λ from index b q t. absurd (tells_some k p event h t);
      held = shows_more c k k p event l g.held;
      starts = starts_more c k k p event l.starts.0 g.starts;
      looked = looked_inner c k k p event n g.looked;
    }

-- A call begins.
pub copy_low : (c : Config) (from index : ℕ) → may_begin c (calls.Copy from index) ≡ true → (2 ≤ from) × (from < index)
copy_low c from index h =
    let a = first_of (nat_le 2 from) (nat_lt from index && nat_lt index c.indexes) h in
    let b = first_of (nat_lt from index) (nat_lt index c.indexes) (rest_of (nat_le 2 from) (nat_lt from index && nat_lt index c.indexes) h) in
    (le_of_test 2 from a, grind (arith, nat_tests))

pub apart_of : (from index : ℕ) → from < index → (from == index) ≡ false
apart_of from index h = grind (arith, nat_tests)

holds_begin : (c : Config) (k : ℕ) (p : Past) (call : Call) → is_open k p ≡ false → Laws c (Then p k (events.Begin call)) → Holds c k p
    → Holds c k (Then p k (events.Begin call))
holds_begin c k p call o l g =
    let event : Event = events.Begin call in
    let log : log_of k (Then p k event) ≡ log_of k p = own_log k p event in
    let all = (λ (j : ℕ) (low : 2 ≤ j).
    subst (λ (x : List Group). KeepsAt c k j (Then p k event) (kept_in j x)) (sym log)
    (keeps_on c k j k p event (kept_in j (log_of k p)) (rw (same_number k) refl) (λ row. (l.links k j row).0) (g.keeps j low (rw o refl)))) in
    let starts = starts_more c k k p event l.starts.0 g.starts in
    record {
      keeps = λ j low t. all j low;
      copies = λ from index b q t. let low = copy_low c from index (starts (calls.Copy from index) b) in all index (omega (arith, low.0, low.1));
      held = shows_more c k k p event l g.held;
      starts = starts;
      looked = looked_begin c k p call g.looked;
    }

-- A call ends.
shown_of : (b : ℕ) (shows : RowShows) → shows_bucket b shows ≡ true → shows ≡ ShowsVersion b (version_shown shows)
shown_of b Unlinked h = absurd (cc)
shown_of b (LinkedAt bucket) h = absurd (cc)
shown_of b (ShowsVersion bucket version) h = ap (λ (x : ℕ). ShowsVersion x version) (number_is bucket b h)

hold_kept : (c : Config) (k steps key slot : ℕ) (p : Past) → Laws c (Then p k (events.End steps (answers.Holding slot))) → Holds c k p
    → began_of k p ≡ Some (calls.Hold key) → is_open k p ≡ true → has_told k (is_held 2 slot) p ≡ true → stood_at k 2 p ≡ Some slot
    → IsRow (begun_counts k p) p (bucket_of c.buckets key) slot → length (log_of k p) < length (log_of k (Then p k (events.End steps (answers.Holding slot))))
    → Keeps c k 2 (Then p k (events.End steps (answers.Holding slot))) (record { key = key; slot = slot; before = log_of k p })
hold_kept c k steps key slot p l g b o t e r m =
    let n : ℕ = c.buckets in
    let place : ℕ = bucket_of n key in
    let version : ℕ = version_shown (shows_of slot p) in
    let shows : shows_of slot p ≡ ShowsVersion place version = shown_of place (shows_of slot p) (g.held key slot b t e) in
    let same = held_now k steps slot p (answers.Holding slot) e in
    let last : r.version ≤ version =
    (shown_version n c.slots slot place version p l.lawful.order.1 l.lawful.map.1 shows).last r.version r.met.until r.row_is in
    let met = ((knows c k p (lawful_before c p k (events.End steps (answers.Holding slot)) l.lawful)).before o).versions place in
    let low : seen_in n place (log_of k p) ≤ version = omega (arith, met, r.met.since, last) in
    let looks = g.looked.begun o place in
    let looked : looked_in n place (log_of k p) ≤ version = omega (arith, looks, r.met.since, last) in
    record {
      stands = rw (same_number k) e;
      old = m;
      shows = shows ∙ ap (ShowsVersion place) (sym same);
      since = subst (λ (x : ℕ). seen_in n place (log_of k p) ≤ x) (sym same) low;
      since_looks = subst (λ (x : ℕ). looked_in n place (log_of k p) ≤ x) (sym same) looked;
    }

-- nothing stands at an index that the table does not have
above_by : (c : Config) (j : ℕ) (event : Event) (x : Option ℕ) → is_in_range c event ≡ true → c.indexes ≤ j → x ≡ None → stood_by j event x ≡ None
above_by c j (events.Held index slot steps) x h low e =
    let below : nat_lt index c.indexes ≡ true = first_of (nat_lt index c.indexes) (nat_le slot c.slots) h in
    let other : (j == index) ≡ false = grind (arith, nat_tests) in
    rw other e
above_by c j (events.Copied from index slot) x h low e =
    let below : nat_lt index c.indexes ≡ true =
    first_of (nat_lt index c.indexes) (nat_le slot c.slots) (rest_of (nat_lt from c.indexes) (nat_lt index c.indexes && nat_le slot c.slots) h) in
    let other : (j == index) ≡ false = grind (arith, nat_tests) in
    rw other e
above_by c j (events.Clear index slot) x h low e = by (j == index)
  where
    by : (same : Bool) → (if same then None else x) ≡ None
    by true = refl
    by false = e
above_by c j event x h low e = e

none_above : (c : Config) (k j : ℕ) (p : Past) → Each (ranges_ok c) p → c.indexes ≤ j → stood_at k j p ≡ None
none_above c k j Start l low = refl
none_above c k j (Then p i event) l low = by (k == i) (none_above c k j p l.1 low)
  where
    by : (same : Bool) → stood_at k j p ≡ None → (if same then stood_by j event (stood_at k j p) else stood_at k j p) ≡ None
    by true e = above_by c j event (stood_at k j p) (rest_of (nat_lt i c.seats) (is_in_range c event) l.0) low e
    by false e = e

-- what is known where a call ends, of a seat whose log was this
record Ends (c : Config) (k : ℕ) (p q : Past) (call : Call) (answer : Answer) : Type 0 where
  suits : suits call answer ≡ true
  rows : SaysOfRows c k p call answer
  stays : (j : ℕ) → stood_at k j q ≡ stood_at k j p
  rest : (j : ℕ) → 2 ≤ j → touches (Some call) j ≡ false → KeepsAt c k j q (kept_in j (log_of k p))
  held : (key slot : ℕ) → call ≡ calls.Hold key → answer ≡ answers.Holding slot → Keeps c k 2 q (record { key = key; slot = slot; before = log_of k p })
  missed : (key : ℕ) → call ≡ calls.Hold key → answer ≡ answers.Nothing → stood_at k 2 p ≡ None
  copied : (from index : ℕ) → call ≡ calls.Copy from index → answer ≡ answers.Nothing → KeepsAt c k index q (kept_in index (log_of k p))
  may : may_begin c call ≡ true
  above : (j : ℕ) → c.indexes ≤ j → stood_at k j p ≡ None

abbrev Left : Config → ℕ → Past → Past → Call → Answer → (j : ℕ) → Type 0
Left c k p q call answer j = KeepsAt c k j q (kept_by (log_of k p) call answer (λ (i : ℕ). kept_in i (log_of k p)) j)

one_way : (c : Config) (k j index : ℕ) (q : Past) (new old : Option Keeping) (same : Bool) → (j == index) ≡ same → KeepsAt c k index q new
    → ((j == index) ≡ false → KeepsAt c k j q old) → KeepsAt c k j q (if same then new else old)
one_way c k j index q new old true e n f = subst (λ (x : ℕ). KeepsAt c k x q new) (sym (number_is j index e)) n
one_way c k j index q new old false e n f = f e

left_by : (c : Config) (k j : ℕ) (p q : Past) (call : Call) (answer : Answer) → 2 ≤ j → Ends c k p q call answer → Left c k p q call answer j
left_by c k j p q (calls.Hold key) (answers.Holding slot) low g =
    one_way c k j 2 q (Some (record { key = key; slot = slot; before = log_of k p })) (kept_in j (log_of k p)) (j == 2) refl (g.held key slot refl refl)
    (λ t. g.rest j low t)
left_by c k j p q (calls.Hold key) answers.Nothing low g =
    one_way c k j 2 q None (kept_in j (log_of k p)) (j == 2) refl (g.stays 2 ∙ g.missed key refl refl) (λ t. g.rest j low t)
left_by c k j p q (calls.Hold key) answer low g = let s = g.suits in absurd (cc)
left_by c k j p q calls.Release answers.Released low g =
    one_way c k j 2 q None (kept_in j (log_of k p)) (j == 2) refl (g.stays 2 ∙ g.rows) (λ t. g.rest j low t)
left_by c k j p q calls.Release answer low g = let s = g.suits in absurd (cc)
left_by c k j p q (calls.DropIndex index) answers.Dropped low g =
    one_way c k j index q None (kept_in j (log_of k p)) (j == index) refl (g.stays index ∙ g.rows) (λ t. g.rest j low t)
left_by c k j p q (calls.DropIndex index) answer low g = let s = g.suits in absurd (cc)
left_by c k j p q (calls.Copy from index) (answers.Copied slot) low g =
    let m = copy_low c from index g.may in
    let apart : (from == index) ≡ false = let b = m.1 in grind (arith, nat_tests) in
    one_way c k j index q (kept_in from (log_of k p)) (kept_in j (log_of k p)) (j == index) refl
    (keeps_moved c k from index slot q (kept_in from (log_of k p)) (g.stays from ∙ g.rows.stood) (g.stays index ∙ g.rows.stands) (g.rest from m.0 apart))
    (λ t. g.rest j low t)
left_by c k j p q (calls.Copy from index) answers.Nothing low g = by (j == index) refl
  where
    by : (same : Bool) → (j == index) ≡ same → KeepsAt c k j q (kept_in j (log_of k p))
    by true e = subst (λ (x : ℕ). KeepsAt c k x q (kept_in x (log_of k p))) (sym (number_is j index e)) (g.copied from index refl refl)
    by false e = g.rest j low e
left_by c k j p q (calls.Copy from index) answer low g = let s = g.suits in absurd (cc)
left_by c k j p q calls.Leave (answers.Left count) low g = g.stays j ∙ by (nat_lt j c.indexes) refl
  where
    by : (within : Bool) → nat_lt j c.indexes ≡ within → stood_at k j p ≡ None
    by true e = g.rows.bare j (grind (arith, nat_tests))
    by false e = g.above j (grind (arith, nat_tests))
left_by c k j p q calls.Leave answer low g = let s = g.suits in absurd (cc)
left_by c k j p q call answer low g = g.rest j low refl

held_by : (c : Config) (k steps : ℕ) (p : Past) (call : Call) (answer : Answer) → Laws c (Then p k (events.End steps answer)) → Holds c k p
    → began_of k p ≡ Some call → is_open k p ≡ true → Says c (begun_counts k p) p call answer → SaysOfRows c k p call answer
    → length (log_of k p) < length (log_of k (Then p k (events.End steps answer))) → (key slot : ℕ) → call ≡ calls.Hold key → answer ≡ answers.Holding slot
    → Keeps c k 2 (Then p k (events.End steps answer)) (record { key = key; slot = slot; before = log_of k p })
held_by c k steps p (calls.Hold other) (answers.Holding row) l g b o says rows m key slot e f =
    let q : Past = Then p k (events.End steps (answers.Holding row)) in
    let same : other ≡ key = cc in
    let one : row ≡ slot = cc in
    subst (λ (x : ℕ). Keeps c k 2 q (record { key = x; slot = slot; before = log_of k p })) same
    (subst (λ (x : ℕ). Keeps c k 2 q (record { key = other; slot = x; before = log_of k p })) one
    (hold_kept c k steps other row p l g b o rows.told rows.stands says m))
held_by c k steps p call answer l g b o says rows m key slot e f = absurd (cc)

none_is : (x : Option ℕ) → is_none x ≡ true → x ≡ None
none_is None h = refl
none_is (Some n) h = absurd (cc)

missed_by : (k steps : ℕ) (p : Past) (call : Call) (answer : Answer) → misses_ok p k (events.End steps answer) ≡ true → began_of k p ≡ Some call → (key : ℕ)
    → call ≡ calls.Hold key → answer ≡ answers.Nothing → stood_at k 2 p ≡ None
missed_by k steps p call answer h b key e f =
    let began : began_of k p ≡ Some (calls.Hold key) = b ∙ ap (λ (x : Call). Some x) e in
    let nothing : misses_ok p k (events.End steps answers.Nothing) ≡ true = subst (λ (x : Answer). misses_ok p k (events.End steps x) ≡ true) f h in
    none_is (stood_at k 2 p) (subst (λ (x : Option Call). misses_for x (stood_at k 2 p) ≡ true) began nothing)

copied_by : (c : Config) (k : ℕ) (p : Past) (call : Call) (answer : Answer) → Holds c k p → reason c k p (Some call) answer ≡ true → began_of k p ≡ Some call
    → is_open k p ≡ true → (from index : ℕ) → call ≡ calls.Copy from index → answer ≡ answers.Nothing → KeepsAt c k index p (kept_in index (log_of k p))
copied_by c k p call answer g r b o from index e f =
    let began : began_of k p ≡ Some (calls.Copy from index) = b ∙ ap (λ (x : Call). Some x) e in
    let copy : reason c k p (Some (calls.Copy from index)) answer ≡ true = subst (λ (x : Call). reason c k p (Some x) answer ≡ true) e r in
    let none : reason c k p (Some (calls.Copy from index)) answers.Nothing ≡ true =
    subst (λ (x : Answer). reason c k p (Some (calls.Copy from index)) x ≡ true) f copy in
    g.copies from index began o (rest_of (is_none (stood_at k from p)) (tells_none k p) none)

suits_by : (c : Config) (k : ℕ) (p : Past) (call : Call) (answer : Answer) (began : Option Call) → began ≡ Some call
    → answer_right c.buckets began (told_of k p) answer ≡ true → suits call answer ≡ true
suits_by c k p call answer began e h =
    let one : answer_right c.buckets (Some call) (told_of k p) answer ≡ true =
    subst (λ (x : Option Call). answer_right c.buckets x (told_of k p) answer ≡ true) e h in
    first_of (suits call answer) (same_told (told_of k p) (owes c.buckets call answer)) one

holds_end : (c : Config) (k steps : ℕ) (p : Past) (answer : Answer) → Laws c (Then p k (events.End steps answer)) → Holds c k p
    → Holds c k (Then p k (events.End steps answer))
holds_end c k steps p answer l g =
    let event : Event = events.End steps answer in
    let q : Past = Then p k event in
    let o : is_open k p ≡ true = l.lawful.open_calls.0 in
    let a : Answers c k steps p answer = answers_of c k steps p answer l.lawful (knows c k p (lawful_before c p k event l.lawful)) in
    let group : Group = record { call = a.call; answer = answer; notes = noted (notes_of k p) event } in
    let log : log_of k q ≡ log_of k p ++ group ∷ [] = end_log c k steps p answer a in
    let count : length (log_of k q) ≡ length (log_of k p) + 1 = ap (λ (x : List Group). length x) log ∙ length-append (log_of k p) (group ∷ []) in
    let longer : length (log_of k p) < length (log_of k q) = omega (arith, count) in
    let stays = (λ (j : ℕ). stood_end k j steps p answer) in
    let on = (λ (j : ℕ) (s : KeepsAt c k j p (kept_in j (log_of k p))). keeps_on c k j k p event (kept_in j (log_of k p)) (stays j) (λ row. (l.links k j row).0) s) in
    let reasons : reason c k p (Some a.call) answer ≡ true = subst (λ (x : Option Call). reason c k p x answer ≡ true) a.began l.lawful.reasons.0 in
    let ends : Ends c k p q a.call answer = record {
      suits = suits_by c k p a.call answer (began_of k p) a.began l.lawful.told.0;
      rows = a.rows;
      stays = stays;
      rest = λ j low t. on j (g.keeps j low (rw (o, a.began) t));
      held = held_by c k steps p a.call answer l g a.began o a.says a.rows longer;
      missed = missed_by k steps p a.call answer l.misses.0 a.began;
      copied = λ from index e f. on index (copied_by c k p a.call answer g reasons a.began o from index e f);
      may = g.starts a.call a.began;
      above = λ j low. none_above c k j p l.ranges.1 low;
    } in
    record {
      keeps = λ j low t.
          subst (λ (x : List Group). KeepsAt c k j q (kept_in j x)) (sym log)
          (subst (λ (x : Option Keeping). KeepsAt c k j q x) (sym (kept_more (log_of k p) group j)) (left_by c k j p q a.call answer low ends));
      copies = λ from index b r t. let closed : false ≡ true = sym (own_open k p event) ∙ r in absurd (cc);
      held = shows_more c k k p event l g.held;
      starts = starts_more c k k p event l.starts.0 g.starts;
      looked = record {
        had = λ b.
            subst (λ (x : List Group). looked_in c.buckets b x ≤ count_of b p) (sym log)
            (subst (λ (x : ℕ). x ≤ count_of b p) (sym (looked_more c.buckets b (log_of k p) group))
            (looks_most c k b (looked_in c.buckets b (log_of k p)) p a.call answer (laws_before c p k event l) a.rows (g.starts a.call a.began)
            (λ j low t. g.keeps j low (rw (o, a.began) t)) (g.looked.had b)));
        begun = λ r b. let closed : false ≡ true = sym (own_open k p event) ∙ r in absurd (cc);
      };
    }
  where
    stood_end : (k j steps : ℕ) (p : Past) (answer : Answer) → stood_at k j (Then p k (events.End steps answer)) ≡ stood_at k j p
    stood_end k j steps p answer = rw (same_number k) refl

-- at each position
holds_own : (c : Config) (k : ℕ) (p : Past) (event : Event) → Laws c (Then p k event) → Holds c k p → Holds c k (Then p k event)
holds_own c k p (events.Begin call) l g = holds_begin c k p call (false_of_not (is_open k p) (first_of (not (is_open k p)) (not (has_left k p)) l.lawful.open_calls.0)) l g
holds_own c k p (events.End steps answer) l g = holds_end c k steps p answer l g
holds_own c k p event l g = holds_inner c k p event refl l.lawful.open_calls.0 l g

holds_entry : (c : Config) (k i : ℕ) (p : Past) (event : Event) (same : Bool) → (k == i) ≡ same → Laws c (Then p i event) → Holds c k p → Holds c k (Then p i event)
holds_entry c k i p event true e l g =
    let one : k ≡ i = number_is k i e in
    subst (λ (j : ℕ). Holds c k (Then p j event)) one (holds_own c k p event (subst (λ (j : ℕ). Laws c (Then p j event)) (sym one) l) g)
holds_entry c k i p event false e l g = holds_other c k i p event e l g

pub holds : (c : Config) (k : ℕ) (p : Past) → Laws c p → Holds c k p
holds c k Start l =
    record { keeps = λ j low t. refl; copies = λ from index b o t. absurd (cc); held = λ key slot b t s. absurd (cc); starts = λ call b. absurd (cc); looked = record { had = λ b. omega arith; begun = λ o b. absurd (cc) } }
holds c k (Then p i event) l = holds_entry c k i p event (k == i) refl l (holds c k p (laws_before c p i event l))

pub laws_tells : (c : Config) (p : Past) (xs : List Entry) → Laws c (tells p xs) → Laws c p
laws_tells c p [] l = l
laws_tells c p (x ∷ xs) l = laws_before c p x.seat x.event (laws_tells c (Then p x.seat x.event) xs l)
