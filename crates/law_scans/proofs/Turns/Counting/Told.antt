-- What the events of a step make of what its seat has published at its index words, and that only protections tell numbers.
use Rattle.std.proofs.Common.{ℕ, ◌≡◌, ◌≤◌, ◌+◌, Bool, true, false, List, [], ◌∷◌, ◌++◌, Option, Some, None, refl, ap, ◌∙◌, arith}
use Rattle.std.proofs.lemmas.Bool.Decides.{nat_tests}
use Rattle.std.specs.Prelude.{◌==◌, ◌&&◌, ◌||◌, ◌-◌, drop, if◌then◌else◌, not, is_some}
use Rattle.law_reuse.specs.laws.words.declared.config.SchemeKind.{SchemeKind}
use Rattle.law_reuse.specs.laws.defs.declared.event.Event.{Event}
use Rattle.law_reuse.specs.laws.defs.declared.event.Event.TheVariants as events
use Rattle.law_reuse.specs.laws.defs.declared.event.Guard.TheVariants.{Helper, Index, Whole}
use Rattle.law_reuse.specs.laws.defs.declared.event.Root.{Root}
use Rattle.law_reuse.specs.laws.defs.declared.event.Root.TheVariants as roots
use Rattle.law_reuse.specs.laws.defs.declared.lifetime.Interval.{Interval}
use Rattle.law_reuse.specs.inv.model.declared.post.Post.{Post}
use Rattle.law_reuse.specs.inv.model.Guards.{linked_row, one_era}
use Rattle.law_reuse.specs.inv.model.Machine as machine
use Rattle.law_reuse.specs.inv.model.Posts.{cleared, cleared_from, publishes_index, reserves_span, stands}
use Rattle.law_reuse.specs.inv.model.Protect as protects
use Rattle.law_reuse.specs.inv.model.Rounds.{scheme_of, clear_told, let_index}
use Rattle.law_reuse.specs.laws.words.Schemes.{has_one_interval, publishes_rows}
use Rattle.law_reuse.specs.inv.model.Calls.{KeepAt, Loosens, LoadHeld, StoreHeld, Looks, Misses, HideSpan, MarkLeft, TakeList, MarkTaken, Work, Keeping}
use Rattle.law_reuse.specs.inv.model.Phases.{Base}
use Rattle.law_reuse.proofs.laws.records.defs.Facts.{same_number, both, first_of, rest_of, and_true, or_more}
use Rattle.law_reuse.specs.laws.records.Record.{Past, tells_of}
use Rattle.law_reuse.specs.laws.records.Record.Past.{Then}
use Rattle.law_reuse.proofs.history.Passes.{is_quiet, all_quiet, Closed, copied_told, keep_told, work_told}
use Rattle.law_reuse.specs.laws.StateAt.{hazards_by, hazards_of, one_hazard, one_more, reserves_by, reserves_of}
use Rattle.law_reuse.specs.laws.HistoryTurns.{number_right}
use Rattle.law_reuse.proofs.history.MayTell.{Tells, base_all, held_any, cleared_all, cleared_from_all, clear_all, is_find, is_index, finds, stores_index, no_find, no_index, work_all}
use Rattle.law_reuse.proofs.history.AllOf.{all_of, of_along, of_weaker, of_both}
use Rattle.law_reuse.specs.inv.shapes.Frame.{KeepFits, WorkFits}
use Rattle.law_scans.proofs.Turns.Counting.Fits.{copied_x, work_x}

-- one era, or where rows are published one row, is one more; none begins anew
abbrev pub counted_by : (rows : Bool) → (seat index : ℕ) → Event → ℕ → ℕ
counted_by false i j event n = reserves_by i j event n
counted_by true i j event n = hazards_by i j event n

abbrev pub counted_of : (rows : Bool) → (seat index : ℕ) → Past → ℕ
counted_of false i j p = reserves_of i j p
counted_of true i j p = hazards_of i j p

-- along what a step tells
abbrev pub reserved_along : (rows : Bool) → (seat index : ℕ) → List Event → ℕ → ℕ
reserved_along rows i j [] n = n
reserved_along rows i j (event ∷ told) n = reserved_along rows i j told (counted_by rows i j event n)

pub reserved_tells : (rows : Bool) (i j : ℕ) (told : List Event) (p : Past) → counted_of rows i j (tells_of p i told) ≡ reserved_along rows i j told (counted_of rows i j p)
reserved_tells rows i j [] p = refl
reserved_tells rows i j (event ∷ told) p = reserved_tells rows i j told (Then p i event) ∙ ap (reserved_along rows i j told) (here rows)
  where
    here : (rows : Bool) → counted_of rows i j (Then p i event) ≡ counted_by rows i j event (counted_of rows i j p)
    here false = rw (same_number i) refl
    here true = rw (same_number i) refl

pub reserved_stays : (rows : Bool) (k i j : ℕ) (told : List Event) (p : Past) → (k == i) ≡ false → counted_of rows k j (tells_of p i told) ≡ counted_of rows k j p
reserved_stays rows k i j [] p e = refl
reserved_stays rows k i j (event ∷ told) p e = reserved_stays rows k i j told (Then p i event) e ∙ there rows
  where
    there : (rows : Bool) → counted_of rows k j (Then p i event) ≡ counted_of rows k j p
    there false = rw e refl
    there true = rw e refl

pub reserved_both : (rows : Bool) (i j : ℕ) (xs ys : List Event) (n : ℕ) → reserved_along rows i j (xs ++ ys) n ≡ reserved_along rows i j ys (reserved_along rows i j xs n)
reserved_both rows i j [] ys n = refl
reserved_both rows i j (x ∷ xs) ys n = reserved_both rows i j xs ys (counted_by rows i j x n)

-- events that tell nothing of index words, no numbers and no copies
abbrev pub is_dull : Event → Bool
is_dull (events.Reserve (Helper seat) span) = true
is_dull (events.Reserve (Index seat index) span) = false
is_dull (events.Reserve (Whole seat) span) = true
is_dull (events.Hazard guard slot) = false
is_dull (events.Held index slot steps) = false
is_dull (events.Null index steps) = false
is_dull (events.Copied from index slot) = false
is_dull event = true

abbrev pub all_dull : List Event → Bool
all_dull told = all_of is_dull told

unindexed_one : (rows : Bool) (i j : ℕ) (event : Event) (n : ℕ) → not (is_index event) ≡ true → counted_by rows i j event n ≡ n
unindexed_one false i j (events.Reserve (Helper seat) span) n h = refl
unindexed_one false i j (events.Reserve (Index seat index) span) n h = absurd (cc)
unindexed_one false i j (events.Reserve (Whole seat) span) n h = refl
unindexed_one true i j (events.Hazard guard slot) n h = absurd (cc)
unindexed_one false i j event n h = refl
unindexed_one true i j event n h = refl

unindexed_along : (rows : Bool) (i j : ℕ) (told : List Event) (n : ℕ) → all_of (λ event. not (is_index event)) told ≡ true → reserved_along rows i j told n ≡ n
unindexed_along rows i j [] n h = refl
unindexed_along rows i j (event ∷ told) n h = ap (reserved_along rows i j told) (unindexed_one rows i j event n (first_of (not (is_index event)) (all_of (λ other. not (is_index other)) told) h)) ∙ unindexed_along rows i j told n (rest_of (not (is_index event)) (all_of (λ other. not (is_index other)) told) h)

pub unindexed_reserved : (rows : Bool) (i j : ℕ) (base : Base) (post : Post) (found : ℕ) (n : ℕ) → stores_index base ≡ false → reserved_along rows i j (machine.after base post found).told n ≡ n
unindexed_reserved rows i j base post found n f = unindexed_along rows i j (machine.after base post found).told n (no_index base post found f)

dull_unindexed : (event : Event) → is_dull event ≡ true → not (is_index event) ≡ true
dull_unindexed (events.Reserve (Helper seat) span) h = refl
dull_unindexed (events.Reserve (Index seat index) span) h = absurd (cc)
dull_unindexed (events.Reserve (Whole seat) span) h = refl
dull_unindexed (events.Hazard guard slot) h = absurd (cc)
dull_unindexed event h = refl

pub dull_reserved : (rows : Bool) (i j : ℕ) (told : List Event) (n : ℕ) → all_dull told ≡ true → reserved_along rows i j told n ≡ n
dull_reserved rows i j told n h = unindexed_along rows i j told n (of_weaker is_dull (λ event. not (is_index event)) told dull_unindexed h)

-- The number of a Held or Null is that of the turns since the one that published, and the one before it. Where rows are published, a Null
-- of a protection that published nothing has number 1.
abbrev pub event_numbered : (rows : Bool) → (published turns : ℕ → ℕ) → (call : ℕ) → Event → Bool
event_numbered rows published turns call (events.Held index slot steps) = number_right (published index) (turns index) call steps
event_numbered rows published turns call (events.Null index steps) = (rows && (published index == 0 && steps == 1)) || number_right (published index) (turns index) call steps
event_numbered rows published turns call event = true

abbrev pub events_numbered : (rows : Bool) → (published turns : ℕ → ℕ) → (call : ℕ) → List Event → Bool
events_numbered rows published turns call [] = true
events_numbered rows published turns call (event ∷ told) = event_numbered rows published turns call event && events_numbered rows published turns call told

unfound_right : (rows : Bool) (x u : ℕ → ℕ) (call : ℕ) (event : Event) → not (is_find event) ≡ true → event_numbered rows x u call event ≡ true
unfound_right rows x u call (events.Held index slot steps) h = absurd (cc)
unfound_right rows x u call (events.Null index steps) h = absurd (cc)
unfound_right rows x u call event h = refl

pub unfound_rights : (rows : Bool) (x u : ℕ → ℕ) (call : ℕ) (told : List Event) → all_of (λ event. not (is_find event)) told ≡ true → events_numbered rows x u call told ≡ true
unfound_rights rows x u call [] h = refl
unfound_rights rows x u call (event ∷ told) h =
    both (event_numbered rows x u call event) (events_numbered rows x u call told) (unfound_right rows x u call event (first_of (not (is_find event)) (all_of (λ other. not (is_find other)) told) h)) (unfound_rights rows x u call told (rest_of (not (is_find event)) (all_of (λ other. not (is_find other)) told) h))

-- a step that finds nothing tells no number
pub base_rights : (rows : Bool) (x u : ℕ → ℕ) (call : ℕ) (base : Base) (post : Post) (found : ℕ) → finds base ≡ false → events_numbered rows x u call (machine.after base post found).told ≡ true
base_rights rows x u call base post found f = unfound_rights rows x u call (machine.after base post found).told (no_find base post found f)

pub dull_unfound : (event : Event) → is_dull event ≡ true → not (is_find event) ≡ true
dull_unfound (events.Held index slot steps) h = absurd (cc)
dull_unfound (events.Null index steps) h = absurd (cc)
dull_unfound event h = refl

pub right_along : (rows : Bool) (x u : ℕ → ℕ) (call : ℕ) (xs ys : List Event) → events_numbered rows x u call xs ≡ true → events_numbered rows x u call ys ≡ true → events_numbered rows x u call (xs ++ ys) ≡ true
right_along rows x u call [] ys h k = k
right_along rows x u call (e ∷ xs) ys h k = both (event_numbered rows x u call e) (events_numbered rows x u call (xs ++ ys)) (first_of (event_numbered rows x u call e) (events_numbered rows x u call xs) h) (right_along rows x u call xs ys (rest_of (event_numbered rows x u call e) (events_numbered rows x u call xs) h) k)

dull_rights : (rows : Bool) (x u : ℕ → ℕ) (call : ℕ) (told : List Event) → all_dull told ≡ true → events_numbered rows x u call told ≡ true
dull_rights rows x u call told h = unfound_rights rows x u call told (of_weaker is_dull (λ event. not (is_find event)) told dull_unfound h)

quiet_one : (event : Event) → is_quiet event ≡ true → is_dull event ≡ true
quiet_one (events.Reserve guard span) h = absurd (cc)
quiet_one (events.Hazard guard slot) h = absurd (cc)
quiet_one (events.Held index slot steps) h = absurd (cc)
quiet_one (events.Null index steps) h = absurd (cc)
quiet_one (events.Copied from index slot) h = absurd (cc)
quiet_one event h = refl

pub quiet_dull : (told : List Event) → all_quiet told ≡ true → all_dull told ≡ true
quiet_dull told h = of_weaker is_quiet is_dull told quiet_one h

pub cleared_dull : (index : ℕ) (o : Option ℕ) → all_dull (cleared index o) ≡ true
cleared_dull index o = cleared_all is_dull index o (λ index slot. refl)

pub clear_dull : (scheme : SchemeKind) (post : Post) (index : ℕ) → all_dull (clear_told scheme post index) ≡ true
clear_dull scheme post index = clear_all is_dull scheme post index (λ index slot. refl)

-- nor does a call on what is kept tell a number
pub work_rights : (rows : Bool) (x u : ℕ → ℕ) (call : ℕ) (work : Work) (post : Post) → events_numbered rows x u call (work_told work post) ≡ true
work_rights rows x u call work post = unfound_rights rows x u call (work_told work post) (work_all (λ event. not (is_find event)) (λ index slot. refl) (λ from index slot. refl) (λ seat index era. refl) (λ seat. refl) (λ seat index link. refl) work post)

-- what comes after a machine changes neither
abbrev pub Comes : (rows : Bool) → (i j n m : ℕ) → Post → List Event → Type 0
Comes rows i j n m post told = reserved_along rows i j told n ≡ m

pub comes_closed : (rows : Bool) (i j n m : ℕ) → Closed (Comes rows i j n m)
comes_closed rows i j n m = record {
  calm = λ post told more q h. reserved_both rows i j told more n ∙ dull_reserved rows i j more (reserved_along rows i j told n) (quiet_dull more q) ∙ h;
  clears = λ post told index h. reserved_both rows i j told (clear_told (scheme_of post) post index) n ∙ dull_reserved rows i j (clear_told (scheme_of post) post index) (reserved_along rows i j told n) (clear_dull (scheme_of post) post index) ∙ h;
}

abbrev pub Rights : (rows : Bool) (x u : ℕ → ℕ) (call : ℕ) → Post → List Event → Type 0
Rights rows x u call post told = events_numbered rows x u call told ≡ true

pub rights_closed : (rows : Bool) (x u : ℕ → ℕ) (call : ℕ) → Closed (Rights rows x u call)
rights_closed rows x u call = record {
  calm = λ post told more q h. right_along rows x u call told more h (dull_rights rows x u call more (quiet_dull more q));
  clears = λ post told index h. right_along rows x u call told (clear_told (scheme_of post) post index) h (dull_rights rows x u call (clear_told (scheme_of post) post index) (clear_dull (scheme_of post) post index));
}

-- the machines that tell neither
abbrev is_copied : Event → Bool
is_copied (events.Copied from index slot) = true
is_copied event = false

no_copy : (base : Base) (post : Post) (found : ℕ) (event : Event) → Tells base post found event → not (is_copied event) ≡ true
no_copy base post found (events.Copied from index slot) t = absurd (cc)
no_copy base post found event t = refl

one_dull : (event : Event) → not (is_copied event) ≡ true → (not (is_find event) && not (is_index event)) ≡ true → is_dull event ≡ true
one_dull (events.Reserve (Helper seat) span) c f = refl
one_dull (events.Reserve (Index seat index) span) c f = absurd (cc)
one_dull (events.Reserve (Whole seat) span) c f = refl
one_dull (events.Hazard guard slot) c f = absurd (cc)
one_dull (events.Held index slot steps) c f = absurd (cc)
one_dull (events.Null index steps) c f = absurd (cc)
one_dull (events.Copied from index slot) c f = absurd (cc)
one_dull event c f = refl

pub base_dull : (base : Base) (post : Post) (found : ℕ) → finds base ≡ false → stores_index base ≡ false → all_dull (machine.after base post found).told ≡ true
base_dull base post found f k =
    let told : List Event = (machine.after base post found).told in
    of_both (λ event. not (is_copied event)) (λ event. not (is_find event) && not (is_index event)) is_dull told one_dull (base_all (λ event. not (is_copied event)) base post found (no_copy base post found))
    (of_both (λ event. not (is_find event)) (λ event. not (is_index event)) (λ event. not (is_find event) && not (is_index event)) told (λ event a b. both (not (is_find event)) (not (is_index event)) a b) (no_find base post found f) (no_index base post found k))

-- an index word of the seat
pub era_more : (era n : ℕ) → 1 ≤ era → one_more (one_era era) n ≡ n + 1
era_more era n h = by (era == 0) refl
  where
    by : (none : Bool) → (era == 0) ≡ none → one_more (if none then None else Some (record { lo = era; hi = era })) n ≡ n + 1
    by true e = absurd (grind (arith, nat_tests))
    by false e = refl

pub index_more : (i j seat index era n : ℕ) → seat ≡ i → 1 ≤ era → reserves_by i j (events.Reserve (Index seat index) (one_era era)) n ≡ (if index == j then n + 1 else n)
index_more i j seat index era n s h = by (seat == i) (index == j) (grind (arith, nat_tests))
  where
    by : (a b : Bool) → a ≡ true → (if a && b then one_more (one_era era) n else n) ≡ (if b then n + 1 else n)
    by true true e = era_more era n h
    by true false e = refl
    by false b e = absurd (cc)

-- whatever is published there
pub index_any : (i j seat index n : ℕ) (span : Option Interval) → seat ≡ i → reserves_by i j (events.Reserve (Index seat index) span) n ≡ (if index == j then one_more span n else n)
index_any i j seat index n span s = by (seat == i) (index == j) (grind (arith, nat_tests))
  where
    by : (a b : Bool) → a ≡ true → (if a && b then one_more span n else n) ≡ (if b then one_more span n else n)
    by true true e = refl
    by true false e = refl
    by false b e = absurd (cc)

pub index_none : (i j seat index n : ℕ) → seat ≡ i → reserves_by i j (events.Reserve (Index seat index) None) n ≡ (if index == j then 0 else n)
index_none i j seat index n s = by (seat == i) (index == j) (grind (arith, nat_tests))
  where
    by : (a b : Bool) → a ≡ true → (if a && b then 0 else n) ≡ (if b then 0 else n)
    by true true e = refl
    by true false e = refl
    by false b e = absurd (cc)

-- a row
pub hazard_any : (i j seat index n link : ℕ) → seat ≡ i → hazards_by i j (events.Hazard (Index seat index) (linked_row link)) n ≡ (if index == j then copied_x link n else n)
hazard_any i j seat index n link s = by (seat == i) (index == j) (link == 0) (grind (arith, nat_tests))
  where
    by : (a b none : Bool) → a ≡ true → (if a && b then one_hazard (if none then None else Some (link - 1)) n else n) ≡ (if b then (if none then 0 else n + 1) else n)
    by true true true e = refl
    by true true false e = refl
    by true false none e = refl
    by false b none e = absurd (cc)

pub hazard_more : (i j seat index link n : ℕ) → seat ≡ i → (link == 0) ≡ false → hazards_by i j (events.Hazard (Index seat index) (linked_row link)) n ≡ (if index == j then n + 1 else n)
hazard_more i j seat index link n s h = hazard_any i j seat index n link s ∙ rw h refl

pub hazard_none : (i j seat index n : ℕ) → seat ≡ i → hazards_by i j (events.Hazard (Index seat index) None) n ≡ (if index == j then 0 else n)
hazard_none i j seat index n s = by (seat == i) (index == j) (grind (arith, nat_tests))
  where
    by : (a b : Bool) → a ≡ true → (if a && b then 0 else n) ≡ (if b then 0 else n)
    by true true e = refl
    by true false e = refl
    by false b e = absurd (cc)

pub index_other : (i j seat index n : ℕ) (span : Option Interval) → (seat == i) ≡ false → reserves_by i j (events.Reserve (Index seat index) span) n ≡ n
index_other i j seat index n span e = rw e refl

-- what a protection tells where it ends its search changes nothing of index words
pub held_reserved : (rows : Bool) (i j index : ℕ) (root : Root) (link m n : ℕ) → reserved_along rows i j (protects.told_held index root link m) n ≡ n
held_reserved false i j index root link m n = held_any (λ told. reserved_along false i j told n ≡ n) index root link m refl refl (λ slot. refl)
held_reserved true i j index root link m n = held_any (λ told. reserved_along true i j told n ≡ n) index root link m refl refl (λ slot. refl)

pub held_right : (rows : Bool) (x u : ℕ → ℕ) (call index : ℕ) (root : Root) (link m : ℕ) → number_right (x index) (u index) call m ≡ true → events_numbered rows x u call (protects.told_held index root link m) ≡ true
held_right rows x u call index root link m h =
    held_any (λ told. events_numbered rows x u call told ≡ true) index root link m refl
    (and_true (event_numbered rows x u call (events.Null index m)) (or_more (rows && (x index == 0 && m == 1)) (number_right (x index) (u index) call m) h))
    (λ slot. and_true (number_right (x index) (u index) call m) h)

-- a link that is null where it is loaded first
pub null_right : (x u : ℕ → ℕ) (call index : ℕ) (root : Root) (link : ℕ) → x index ≡ 0 → link ≡ 0 → events_numbered true x u call (protects.told_held index root link 1) ≡ true
null_right x u call index (roots.Next parent) link z e = rw e (rw z refl)
null_right x u call index (roots.Bucket bucket) link z e = rw e (rw z refl)
null_right x u call index roots.Head link z e = rw e (rw z refl)
null_right x u call index roots.Tail link z e = rw e (rw z refl)

-- a call on what is kept publishes at the index to which it copies
copied_unindexed : (from index : ℕ) (post : Post) (o : Option ℕ) → all_of (λ event. not (is_index event)) (copied_told from index post [] o) ≡ true
copied_unindexed from index post None = refl
copied_unindexed from index post (Some slot) =
    let plain : Event → Bool = λ event. not (is_index event) in
    of_along plain (cleared index (stands post index) ++ []) (events.Copied from index slot ∷ []) (of_along plain (cleared index (stands post index)) [] (cleared_all plain index (stands post index) (λ index slot. refl)) refl) refl

-- what it publishes there
number_comes : (rows : Bool) (i j n index number : ℕ) (post : Post) → post.seat ≡ i → reserved_along rows i j (publishes_index rows post index number) n ≡ (if index == j then copied_x number n else n)
number_comes false i j n index number post s = index_any i j post.seat index n (one_era number) s ∙ by (index == j) (number == 0)
  where
    by : (own none : Bool) → (if own then one_more (if none then None else Some (record { lo = number; hi = number })) n else n) ≡ (if own then (if none then 0 else n + 1) else n)
    by true true = refl
    by true false = refl
    by false none = refl
number_comes true i j n index number post s = hazard_any i j post.seat index n number s

store_comes : (rows : Bool) (i j n from index number : ℕ) (post : Post) (o : Option ℕ) → post.seat ≡ i → is_some o ≡ true → reserved_along rows i j (copied_told from index post (publishes_index rows post index number) o) n ≡ (if index == j then copied_x number n else n)
store_comes rows i j n from index number post None s h = absurd (cc)
store_comes rows i j n from index number post (Some slot) s h =
    reserved_both rows i j (cleared index (stands post index) ++ publishes_index rows post index number) (events.Copied from index slot ∷ []) n
    ∙ copy_told rows (reserved_along rows i j (cleared index (stands post index) ++ publishes_index rows post index number) n)
    ∙ reserved_both rows i j (cleared index (stands post index)) (publishes_index rows post index number) n
    ∙ ap (reserved_along rows i j (publishes_index rows post index number)) (dull_reserved rows i j (cleared index (stands post index)) n (cleared_dull index (stands post index)))
    ∙ number_comes rows i j n index number post s
  where
    copy_told : (rows : Bool) (m : ℕ) → counted_by rows i j (events.Copied from index slot) m ≡ m
    copy_told false m = refl
    copy_told true m = refl

-- nor does a seat that leaves, where all is let go with the interval
pub hide_dull : (post : Post) → all_dull (keep_told HideSpan post) ≡ true
hide_dull post = of_along is_dull (cleared_from 2 (drop 2 post.standing)) (reserves_span post None) (cleared_from_all is_dull 2 (drop 2 post.standing) (λ index slot. refl)) refl

keep_comes : (rows : Bool) (i j n : ℕ) (at : KeepAt) (post : Post) → publishes_rows (scheme_of post) ≡ rows → post.seat ≡ i → KeepFits post at → reserved_along rows i j (keep_told at post) n ≡ work_x (Keeping at) j n
keep_comes rows i j n (Loosens let_go) post q s f = dull_reserved rows i j (cleared (let_index let_go) (stands post (let_index let_go))) n (cleared_dull (let_index let_go) (stands post (let_index let_go)))
keep_comes rows i j n (LoadHeld from index) post q s f = by (has_one_interval (scheme_of post))
  where
    by : (one : Bool) → reserved_along rows i j (if one then copied_told from index post [] (stands post from) else []) n ≡ n
    by true = unindexed_along rows i j (copied_told from index post [] (stands post from)) n (copied_unindexed from index post (stands post from))
    by false = refl
keep_comes rows i j n (StoreHeld from index era) post q s f = rw q (store_comes rows i j n from index era post (stands post from) s f.kept)
keep_comes rows i j n (Looks index key at) post q s f = refl
keep_comes rows i j n (Misses index) post q s f = refl
keep_comes rows i j n HideSpan post q s f = dull_reserved rows i j (keep_told HideSpan post) n (hide_dull post)
keep_comes rows i j n MarkLeft post q s f = refl
keep_comes rows i j n (TakeList place) post q s f = refl
keep_comes rows i j n (MarkTaken place count) post q s f = refl

pub work_comes : (rows : Bool) (i j n : ℕ) (work : Work) (post : Post) → publishes_rows (scheme_of post) ≡ rows → post.seat ≡ i → WorkFits post work → reserved_along rows i j (work_told work post) n ≡ work_x work j n
work_comes rows i j n (Keeping at) post q s f = keep_comes rows i j n at post q s f
work_comes rows i j n work post q s f = refl
