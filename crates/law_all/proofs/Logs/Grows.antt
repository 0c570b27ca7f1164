-- Records grow: what was told stays, and the first items of a history tell the first entries of its record.
use Rattle.std.proofs.Common.{ℕ, ◌≡◌, ◌≤◌, ◌<◌, ◌+◌, Bool, true, false, List, [], ◌∷◌, ◌++◌, length, take, Option, refl, sym, ap, ◌∙◌, arith, length-append}
use Rattle.std.proofs.lemmas.Bool.Decides.{nat_tests}
use Rattle.std.proofs.lemmas.List.{append-nil, append_assoc, take-append-le, get_or_append_left}
use Rattle.std.specs.Prelude.{◌==◌, if◌then◌else◌, slice_index_or}
use Rattle.law_scans.specs.inv.model.World.{told_in}
use Rattle.law_scans.specs.laws.defs.Entry.{Entry}
use Rattle.law_scans.specs.laws.defs.declared.event.Event.{Event}
use Rattle.law_scans.specs.laws.defs.declared.event.Event.TheVariants as events
use Rattle.law_scans.specs.laws.defs.declared.fold.Change.{Change}
use Rattle.law_scans.specs.laws.defs.declared.fold.Change.TheVariants as the_changes
use Rattle.law_scans.specs.laws.StateAt.{bucket_at}
use Rattle.law_scans.specs.laws.StructuresAt.{changes_of, count_of, queued_of, row_at, taken_of, with_change}
use Rattle.law_scans.specs.inv.history.History.{Item, Begins, Steps, Made, did, done_if, fits, first_made, made_from, made_of}
use Rattle.law_scans.specs.laws.records.Record.{Past, tells, tells_of}
use Rattle.law_scans.specs.laws.records.Record.Past.{Then}
use Rattle.law_scans.proofs.inv.Finish.{made_along}
use Rattle.law_all.specs.Logs.Records.{IsBeginning, RecordsGrow}

-- a later position, and what it has of the map and of the queue
pub record Grows (p q : Past) : Type 0 where
  pub entries : (later : List Entry) × (q ≡ tells p later)
  pub changes : (b : ℕ) → (more : List Change) × (changes_of b q ≡ changes_of b p ++ more)
  pub queued : (more : List ℕ) × (queued_of q ≡ queued_of p ++ more)
  pub taken : taken_of p ≤ taken_of q

one_change : (b : ℕ) (before : List Change) (event : Event) → (more : List Change) × (with_change b before event ≡ before ++ more)
one_change b before (events.Put bucket version key value) = by (b == bucket)
  where
    by : (same : Bool) → (more : List Change) × ((if same then before ++ the_changes.Put key value ∷ [] else before) ≡ before ++ more)
    by true = (the_changes.Put key value ∷ [], refl)
    by false = ([], sym (append-nil before))
one_change b before (events.Removed bucket version key) = by (b == bucket)
  where
    by : (same : Bool) → (more : List Change) × ((if same then before ++ the_changes.Removed key ∷ [] else before) ≡ before ++ more)
    by true = (the_changes.Removed key ∷ [], refl)
    by false = ([], sym (append-nil before))
one_change b before event = ([], sym (append-nil before))

one_queued : (p : Past) (i : ℕ) (event : Event) → (more : List ℕ) × (queued_of (Then p i event) ≡ queued_of p ++ more)
one_queued p i (events.Queued number value) = (value ∷ [], refl)
one_queued p i event = ([], sym (append-nil (queued_of p)))

one_taken : (p : Past) (i : ℕ) (event : Event) → taken_of p ≤ taken_of (Then p i event)
one_taken p i (events.Taken number value) = omega arith
one_taken p i event = omega arith

pub grows_entry : (p : Past) (i : ℕ) (event : Event) → Grows p (Then p i event)
grows_entry p i event = record { entries = (record { seat = i; event = event } ∷ [], refl); changes = λ b. one_change b (changes_of b p) event; queued = one_queued p i event; taken = one_taken p i event }

pub grows_same : (p : Past) → Grows p p
grows_same p = record { entries = ([], refl); changes = λ b. ([], sym (append-nil (changes_of b p))); queued = ([], sym (append-nil (queued_of p))); taken = omega arith }

more_both : {X : Type 0} (xs ys zs us vs : List X) → ys ≡ xs ++ us → zs ≡ ys ++ vs → zs ≡ xs ++ (us ++ vs)
more_both {X = X} xs ys zs us vs h k = k ∙ ap (λ (all : List X). all ++ vs) h ∙ append_assoc xs us vs

pub tells_along : (xs ys : List Entry) (p : Past) → tells p (xs ++ ys) ≡ tells (tells p xs) ys
tells_along [] ys p = refl
tells_along (x ∷ xs) ys p = tells_along xs ys (Then p x.seat x.event)

pub grows_along : (p q r : Past) → Grows p q → Grows q r → Grows p r
grows_along p q r g h = record {
  entries = let x = g.entries in let y = h.entries in (x.0 ++ y.0, y.1 ∙ ap (λ (s : Past). tells s y.0) x.1 ∙ sym (tells_along x.0 y.0 p));
  changes = λ b. let x = g.changes b in let y = h.changes b in (x.0 ++ y.0, more_both (changes_of b p) (changes_of b q) (changes_of b r) x.0 y.0 x.1 y.1);
  queued = let x = g.queued in let y = h.queued in (x.0 ++ y.0, more_both (queued_of p) (queued_of q) (queued_of r) x.0 y.0 x.1 y.1);
  taken = let x = g.taken in let y = h.taken in omega arith;
}

pub grows_tells : (xs : List Entry) (p : Past) → Grows p (tells p xs)
grows_tells [] p = grows_same p
grows_tells (x ∷ xs) p = grows_along p (Then p x.seat x.event) (tells (Then p x.seat x.event) xs) (grows_entry p x.seat x.event) (grows_tells xs (Then p x.seat x.event))

-- counts do not fall, and what was so at a version stays so
pub more_count : (b : ℕ) (p q : Past) → Grows p q → count_of b p ≤ count_of b q
more_count b p q g = let m = g.changes b in let e = ap length m.1 in let s = length-append (changes_of b p) m.0 in omega arith

pub more_queued : (p q : Past) → Grows p q → length (queued_of p) ≤ length (queued_of q)
more_queued p q g = let m = g.queued in let e = ap length m.1 in let s = length-append (queued_of p) m.0 in omega arith

pub same_changes : (b version : ℕ) (p q : Past) → Grows p q → version ≤ count_of b p → take version (changes_of b q) ≡ take version (changes_of b p)
same_changes b version p q g h = let m = g.changes b in ap (λ (all : List Change). take version all) m.1 ∙ take-append-le version (changes_of b p) m.0 h

pub same_queued : (n : ℕ) (p q : Past) → Grows p q → n < length (queued_of p) → slice_index_or (queued_of q) n 0 ≡ slice_index_or (queued_of p) n 0
same_queued n p q g h = let m = g.queued in ap (λ (all : List ℕ). slice_index_or all n 0) m.1 ∙ get_or_append_left (queued_of p) m.0 0 n h

-- the row of a version stays the same once the version is there
row_stays : (count version : ℕ) (new old : Option ℕ) (same : Bool) → version ≤ count → (if same then (if count + 1 == version then new else old) else old) ≡ old
row_stays count version new old true h = let e : (count + 1 == version) ≡ false = grind (arith, nat_tests) in rw e refl
row_stays count version new old false h = refl

row_entry : (b version : ℕ) (p : Past) (i : ℕ) (event : Event) → version ≤ count_of b p → row_at b version (Then p i event) ≡ row_at b version p
row_entry b version p i (events.Put bucket number key value) h = row_stays (count_of b p) version (bucket_at b p) (row_at b version p) (b == bucket) h
row_entry b version p i (events.Removed bucket number key) h = row_stays (count_of b p) version (bucket_at b p) (row_at b version p) (b == bucket) h
row_entry b version p i event h = refl

row_tells : (b version : ℕ) (xs : List Entry) (p : Past) → version ≤ count_of b p → row_at b version (tells p xs) ≡ row_at b version p
row_tells b version [] p h = refl
row_tells b version (x ∷ xs) p h =
    let next : Past = Then p x.seat x.event in
    let m : count_of b p ≤ count_of b next = more_count b p next (grows_entry p x.seat x.event) in
    row_tells b version xs next (omega (arith, h, m)) ∙ row_entry b version p x.seat x.event h

pub same_row : (b version : ℕ) (p q : Past) → Grows p q → version ≤ count_of b p → row_at b version q ≡ row_at b version p
same_row b version p q g h = let e = g.entries in ap (λ (x : Past). row_at b version x) e.1 ∙ row_tells b version e.0 p h

-- histories
pub snoc_tells : (xs : List Entry) (x : Entry) (p : Past) → tells p (xs ++ x ∷ []) ≡ Then (tells p xs) x.seat x.event
snoc_tells [] x p = refl
snoc_tells (y ∷ xs) x p = snoc_tells xs x (Then p y.seat y.event)

begins_along : (p q r : Past) → IsBeginning p q → IsBeginning q r → IsBeginning p r
begins_along p q r g h = record { later = g.later ++ h.later; cut = h.cut ∙ ap (λ (x : Past). tells x h.later) g.cut ∙ sym (tells_along g.later h.later p) }

told_grows : (i : ℕ) (told : List Event) (p : Past) → IsBeginning p (tells_of p i told)
told_grows i [] p = record { later = []; cut = refl }
told_grows i (event ∷ told) p =
    let g = told_grows i told (Then p i event) in
    record { later = record { seat = i; event = event } ∷ g.later; cut = g.cut }

item_grows : (made : Made) (item : Item) (fit : Bool) → IsBeginning made.past (done_if made item fit).past
item_grows made item false = record { later = []; cut = refl }
item_grows made (Begins i call) true = record { later = record { seat = i; event = events.Begin call } ∷ []; cut = refl }
item_grows made (Steps i) true = told_grows i (told_in made.world i) made.past

items_grow : (items : List Item) (made : Made) → IsBeginning made.past (made_from made items).past
items_grow [] made = record { later = []; cut = refl }
items_grow (item ∷ items) made = begins_along made.past (did made item).past (made_from (did made item) items).past (item_grows made item (fits made.world item)) (items_grow items (did made item))

pub records_grow : RecordsGrow
records_grow layout items more =
    let g = items_grow more (made_of layout items) in
    record { later = g.later; cut = ap (λ (m : Made). m.past) (made_along items more (first_made layout)) ∙ g.cut }
