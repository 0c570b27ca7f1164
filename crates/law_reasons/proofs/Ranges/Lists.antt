-- How many entries of a list a seat leaves or takes over: no more than there are rows; and whose list it is.
use Rattle.std.proofs.Common.{ℕ, ◌≡◌, ◌≤◌, ◌<◌, ◌+◌, Bool, true, false, List, [], ◌∷◌, ◌++◌, length, Option, Some, None, refl, sym, ap, subst, arith}
use Rattle.std.proofs.lemmas.List.{length-append}
use Rattle.std.specs.Prelude.{◌==◌, ◌&&◌, nat_le, nat_lt, if◌then◌else◌}
use Rattle.law_scans.specs.inv.model.words.declared.config.Config.{Config}
use Rattle.law_scans.specs.inv.model.defs.declared.call.Answer.TheVariants as answers
use Rattle.law_scans.specs.inv.model.defs.declared.call.Call.{Call}
use Rattle.law_scans.specs.inv.model.defs.declared.call.Call.TheVariants as calls
use Rattle.law_scans.specs.inv.model.defs.declared.event.Event.{Event}
use Rattle.law_scans.specs.inv.model.defs.declared.event.Event.TheVariants as events
use Rattle.law_scans.specs.inv.model.defs.declared.lifetime.Lifetime.{Lifetime}
use Rattle.law_scans.specs.inv.model.Calls.{KeepAt, MarkLeft, TakeList, Work, Keeping, Phase, Works}
use Rattle.law_scans.specs.inv.model.Locals.{busy_in}
use Rattle.law_scans.specs.inv.model.World.{World, finds, offered, told_in}
use Rattle.law_scans.proofs.inv.model.Facts.{and_true, both, first_of, le_test, lt_test, number_is, rest_of}
use Rattle.law_scans.specs.inv.shapes.Slots.{KeepIn, PhaseIn, Slots}
use Rattle.law_scans.specs.inv.rows.Agree.{Agree}
use Rattle.law_scans.specs.inv.rows.Rows.{View}
use Rattle.law_scans.proofs.inv.rows.Facts.{rows_show}
use Rattle.law_scans.specs.inv.ends.Lists.{is_of_lists, keep_lists, list_events}
use Rattle.law_scans.proofs.inv.ends.Ends.Lists.{lists_told}
use Rattle.law_scans.proofs.inv.history.AllOf.{all_of, of_along}
use Rattle.law_scans.specs.inv.history.Record.{Past}
use Rattle.law_scans.specs.inv.history.Record.Past.{Start, Then}
use Rattle.law_scans.specs.laws.AnswerLaw.{same_event}
use Rattle.law_scans.specs.laws.HistoryAnswers.{answer_right, same_told}
use Rattle.law_scans.specs.laws.StateAt.{told_of, with_told}
use Rattle.law_reasons.proofs.Ranges.Rows.{filtered_all}

abbrev pub lists_in : Config → Event → Bool
lists_in c (events.Left count) = nat_le count (c.slots + 1)
lists_in c (events.Adopted place count) = nat_lt place c.seats && nat_le count (c.slots + 1)
lists_in c event = true

others_in : (c : Config) (event : Event) → is_of_lists event ≡ false → lists_in c event ≡ true
others_in c (events.Left count) h = absurd (cc)
others_in c (events.Adopted place count) h = absurd (cc)
others_in c event h = refl

-- what the seat's list, and the one that it may take over, have to be
record Few (c : Config) (phase : Phase) (found own gift : ℕ) : Type 0 where
  leaves : phase ≡ Works (Keeping MarkLeft) → own ≤ c.slots + 1
  takes : (place : ℕ) → phase ≡ Works (Keeping (TakeList place)) → found ≡ 1 → (place < c.seats) × (gift ≤ c.slots + 1)

taken_in : (c : Config) (place found gift : ℕ) (left : Bool) → (found == 1) ≡ left → (found ≡ 1 → (place < c.seats) × (gift ≤ c.slots + 1)) → all_of (lists_in c) (if left then events.Adopted place gift ∷ [] else []) ≡ true
taken_in c place found gift true e f =
    let h = f (number_is found 1 e) in
    and_true (nat_lt place c.seats && nat_le gift (c.slots + 1)) (both (nat_lt place c.seats) (nat_le gift (c.slots + 1)) (lt_test place c.seats h.0) (le_test gift (c.slots + 1) h.1))
taken_in c place found gift false e f = refl

keep_in : (c : Config) (at : KeepAt) (found own gift : ℕ) → Few c (Works (Keeping at)) found own gift → all_of (lists_in c) (keep_lists at found own gift) ≡ true
keep_in c MarkLeft found own gift f = and_true (nat_le own (c.slots + 1)) (le_test own (c.slots + 1) (f.leaves refl))
keep_in c (TakeList place) found own gift f = taken_in c place found gift (found == 1) refl (f.takes place refl)
keep_in c at found own gift f = refl

work_in : (c : Config) (work : Work) (found own gift : ℕ) → Few c (Works work) found own gift → all_of (lists_in c) (list_events (Works work) found own gift) ≡ true
work_in c (Keeping at) found own gift f = keep_in c at found own gift f
work_in c work found own gift f = refl

phase_in : (c : Config) (phase : Phase) (found own gift : ℕ) → Few c phase found own gift → all_of (lists_in c) (list_events phase found own gift) ≡ true
phase_in c (Works work) found own gift f = work_in c work found own gift f
phase_in c phase found own gift f = refl

gift_few : (list gift : List Lifetime) (most : ℕ) → length (list ++ gift) ≤ most → length gift ≤ most
gift_few list gift most h = let e = length-append list gift in omega (arith, e, h)

few_of : (w : World) (i : ℕ) (v : View) → Agree w v → Slots w → Few w.layout.config (w.seat i).phase (finds w i) (length (w.seat i).desk.list) (length (offered w i).desk.gift)
few_of w i v a s =
    let r = rows_show w v i a in
    record {
      leaves = λ e. (r.kept (ap busy_in e)).short;
      takes = λ place e found.
          let k : KeepIn w.layout.config (TakeList place) = subst (PhaseIn w.layout (w.seat i).desk) e (s.seats i).phase in
          (k, gift_few (w.seat i).desk.list (offered w i).desk.gift (w.layout.config.slots + 1) (r.gains place e found).short);
    }

pub step_lists : (w : World) (i : ℕ) (v : View) → Agree w v → Slots w → all_of (lists_in w.layout.config) (told_in w i) ≡ true
step_lists w i v a s =
    filtered_all (lists_in w.layout.config) is_of_lists (others_in w.layout.config) (told_in w i)
    (subst (λ (told : List Event). all_of (lists_in w.layout.config) told ≡ true) (sym (lists_told w i))
    (phase_in w.layout.config (w.seat i).phase (finds w i) (length (w.seat i).desk.list) (length (offered w i).desk.gift) (few_of w i v a s)))

-- what a call has told of lists was so
more_low : (c : Config) (before : List Event) (event : Event) → lists_in c event ≡ true → all_of (lists_in c) before ≡ true → all_of (lists_in c) (before ++ event ∷ []) ≡ true
more_low c before event f h = of_along (lists_in c) before (event ∷ []) h (and_true (lists_in c event) f)

with_low : (c : Config) (event : Event) (before : List Event) → lists_in c event ≡ true → all_of (lists_in c) before ≡ true → all_of (lists_in c) (with_told event before) ≡ true
with_low c (events.Begin call) before f h = refl
with_low c (events.Got bucket version key value) before f h = more_low c before (events.Got bucket version key value) f h
with_low c (events.Put bucket version key value) before f h = more_low c before (events.Put bucket version key value) f h
with_low c (events.Removed bucket version key) before f h = more_low c before (events.Removed bucket version key) f h
with_low c (events.Queued number value) before f h = more_low c before (events.Queued number value) f h
with_low c (events.Taken number value) before f h = more_low c before (events.Taken number value) f h
with_low c (events.Copied from index slot) before f h = more_low c before (events.Copied from index slot) f h
with_low c (events.Left count) before f h = more_low c before (events.Left count) f h
with_low c (events.Adopted place count) before f h = more_low c before (events.Adopted place count) f h
with_low c event before f h = h

low_if : (c : Config) (same : Bool) (xs ys : List Event) → all_of (lists_in c) xs ≡ true → all_of (lists_in c) ys ≡ true → all_of (lists_in c) (if same then xs else ys) ≡ true
low_if c true xs ys a b = a
low_if c false xs ys a b = b

-- each entry of a record names such a list
abbrev pub EachLow : Config → Past → Type 0
EachLow c Start = Unit {0}
EachLow c (Then p i event) = (lists_in c event ≡ true) × EachLow c p

told_low : (c : Config) (i : ℕ) (p : Past) → EachLow c p → all_of (lists_in c) (told_of i p) ≡ true
told_low c i Start g = refl
told_low c i (Then p k event) g = low_if c (i == k) (with_told event (told_of i p)) (told_of i p) (with_low c event (told_of i p) g.0 (told_low c i p g.1)) (told_low c i p g.1)

-- and so is what a call answers of it
left_low : (c : Config) (told : List Event) (count : ℕ) → same_told told (events.Left count ∷ []) ≡ true → all_of (lists_in c) told ≡ true → nat_le count (c.slots + 1) ≡ true
left_low c [] count s h = absurd (cc)
left_low c (event ∷ told) count s h = by event (first_of (same_event event (events.Left count)) (same_told told []) s) (first_of (lists_in c event) (all_of (lists_in c) told) h)
  where
    by : (event : Event) → same_event event (events.Left count) ≡ true → lists_in c event ≡ true → nat_le count (c.slots + 1) ≡ true
    by (events.Left other) e f = subst (λ (n : ℕ). nat_le n (c.slots + 1) ≡ true) (number_is other count e) f
    by event e f = absurd (cc)

adopted_low : (c : Config) (told : List Event) (place count : ℕ) → same_told told (events.Adopted place count ∷ []) ≡ true → all_of (lists_in c) told ≡ true → nat_le count (c.slots + 1) ≡ true
adopted_low c [] place count s h = absurd (cc)
adopted_low c (event ∷ told) place count s h = by event (first_of (same_event event (events.Adopted place count)) (same_told told []) s) (first_of (lists_in c event) (all_of (lists_in c) told) h)
  where
    by : (event : Event) → same_event event (events.Adopted place count) ≡ true → lists_in c event ≡ true → nat_le count (c.slots + 1) ≡ true
    by (events.Adopted from other) e f = subst (λ (n : ℕ). nat_le n (c.slots + 1) ≡ true) (number_is other count (rest_of (from == place) (other == count) e)) (rest_of (nat_lt from c.seats) (nat_le other (c.slots + 1)) f)
    by event e f = absurd (cc)

pub left_answer : (c : Config) (i : ℕ) (p : Past) (call : Option Call) (count : ℕ) → answer_right c.buckets call (told_of i p) (answers.Left count) ≡ true → EachLow c p → nat_le count (c.slots + 1) ≡ true
left_answer c i p (Some calls.Leave) count a g = left_low c (told_of i p) count a (told_low c i p g)
left_answer c i p (Some call) count a g = absurd (cc)
left_answer c i p None count a g = absurd (cc)

pub adopted_answer : (c : Config) (i : ℕ) (p : Past) (call : Option Call) (count : ℕ) → answer_right c.buckets call (told_of i p) (answers.Adopted count) ≡ true → EachLow c p → nat_le count (c.slots + 1) ≡ true
adopted_answer c i p (Some (calls.Adopt place)) count a g = adopted_low c (told_of i p) place count a (told_low c i p g)
adopted_answer c i p (Some call) count a g = absurd (cc)
adopted_answer c i p None count a g = absurd (cc)
