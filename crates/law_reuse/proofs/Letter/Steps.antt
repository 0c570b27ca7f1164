-- The steps of protections and calls, from what histories keep.
use Rattle.std.proofs.Common.{ℕ, ◌≡◌, Bool, true, false, refl, None, Some, Option, arith}
use Rattle.std.proofs.lemmas.Bool.Decides.{nat_tests}
use Rattle.std.specs.Prelude.{◌==◌, ◌&&◌, ◌||◌, ◌+◌, is_none, nat_le, not, if◌then◌else◌}
use Rattle.laws.proofs.records.defs.Facts.{or_more}
use Rattle.laws.specs.HistorySteps as strong
use Rattle.laws.specs.HistorySteps.{is_era_spent}
use Rattle.laws.specs.StateAt.{began_of, backs_of, is_index_word, own_rising_of, tried_by, tried_of, value_of}
use Rattle.laws.specs.StepLaw as weak
use Rattle.laws.specs.defs.Bounds.{clock_most}
use Rattle.laws.specs.defs.declared.call.Answer.{Answer}
use Rattle.laws.specs.defs.declared.call.Call.{Call}
use Rattle.laws.specs.defs.declared.call.Call.TheVariants as calls
use Rattle.laws.specs.defs.declared.event.Event.{Event}
use Rattle.laws.specs.defs.declared.event.Event.TheVariants as events
use Rattle.laws.specs.defs.declared.event.Guard.TheVariants.{Helper, Index}
use Rattle.laws.specs.defs.declared.lifetime.Interval.{Interval}
use Rattle.laws.specs.records.Record.{Past, Each}
use Rattle.laws.specs.records.Record.Past.{Start, Then}
use Rattle.laws.specs.words.Schemes.{is_wfe}
use Rattle.laws.specs.words.declared.config.Config.{Config}
use Rattle.law_reuse.proofs.Letter.Each.{each_weaker}

advance_few : (helps spent : Bool) (steps most : ℕ) → (if helps then nat_le steps most else steps == (if spent then 1 else 2)) ≡ true → (if helps then nat_le steps most else nat_le steps 2) ≡ true
advance_few true spent steps most h = h
advance_few false true steps most h = grind (arith, nat_tests)
advance_few false false steps most h = grind (arith, nat_tests)

steps_by : (config : Config) (call : Call) (backs : ℕ) (answer : Answer) (steps : ℕ) → strong.steps_right config call backs answer steps ≡ true → weak.steps_right config call backs answer steps ≡ true
steps_by config calls.Release backs answer steps h = h
steps_by config calls.Scan backs answer steps h = h
steps_by config calls.Advance backs answer steps h = advance_few (is_wfe config.scheme) (is_era_spent answer) steps (clock_most config.seats) h
steps_by config (calls.Hold key) backs answer steps h = h
steps_by config (calls.Get key) backs answer steps h = h
steps_by config (calls.Put key value) backs answer steps h = refl
steps_by config (calls.Remove key) backs answer steps h = refl
steps_by config (calls.Enqueue value) backs answer steps h = refl
steps_by config calls.Dequeue backs answer steps h = refl
steps_by config (calls.Copy from index) backs answer steps h = h
steps_by config (calls.DropIndex index) backs answer steps h = h
steps_by config (calls.Look index key) backs answer steps h = h
steps_by config calls.Leave backs answer steps h = h
steps_by config (calls.Adopt place) backs answer steps h = h
steps_by config (calls.PutIf key value version) backs answer steps h = refl

began_by : (config : Config) (call : Option Call) (backs : ℕ) (answer : Answer) (steps : ℕ) → strong.began_steps config call backs answer steps ≡ true → weak.began_steps config call backs answer steps ≡ true
began_by config None backs answer steps h = refl
began_by config (Some call) backs answer steps h = steps_by config call backs answer steps h

end_part : (config : Config) (p : Past) (i : ℕ) (event : Event) → strong.end_ok config p i event ≡ true → weak.end_ok config p i event ≡ true
end_part config p i (events.End steps answer) h = began_by config (began_of i p) (backs_of i p) answer steps h
end_part config p i event h = refl

pub ends_kept : (config : Config) (r : Past) → Each (strong.end_ok config) r → Each (weak.end_ok config) r
ends_kept config r h = each_weaker (strong.end_ok config) (weak.end_ok config) (end_part config) r h

-- a protection is over
over_one : (here was : Bool) (n : ℕ) → (was ≡ true → (n == 0) ≡ false) → (if here then false else was) ≡ true → ((if here then 0 else n) == 0) ≡ false
over_one true was n f h = absurd (cc)
over_one false was n f h = f h

-- a protection that is under way has published its index word
tried_by_one : (i j : ℕ) (there : Option Interval) (event : Event) (was : Bool) (n : ℕ) → (was ≡ true → (n == 0) ≡ false) → weak.under_way_by i j there event was ≡ true → (tried_by i j event n == 0) ≡ false
tried_by_one i j there (events.Reserve guard None) was n f h = by (is_index_word i j guard) h
  where
    by : (here : Bool) → (if here then false else was) ≡ true → ((if here then 0 else n) == 0) ≡ false
    by true e = absurd (cc)
    by false e = f e
tried_by_one i j there (events.Reserve guard (Some span)) was n f h = by (is_index_word i j guard) h
  where
    by : (here : Bool) → (if here then was || is_none there else was) ≡ true → ((if here then n + 1 else n) == 0) ≡ false
    by true e = grind (arith, nat_tests)
    by false e = f e
tried_by_one i j there (events.Held index slot steps) was n f h = over_one (index == j) was n f h
tried_by_one i j there (events.Null index steps) was n f h = over_one (index == j) was n f h
tried_by_one i j there (events.Copied from index slot) was n f h = over_one (index == j) was n f h
tried_by_one i j there event was n f h = f h

tried_entry : (i j k : ℕ) (p : Past) (event : Event) (same : Bool) → (i == k) ≡ same → (weak.is_under_way i j p ≡ true → (tried_of i j p == 0) ≡ false) → weak.is_under_way i j (Then p k event) ≡ true → (tried_of i j (Then p k event) == 0) ≡ false
tried_entry i j k p event true e f h = rw e (tried_by_one i j (value_of (Index i j) p) event (weak.is_under_way i j p) (tried_of i j p) f (rw e at h))
tried_entry i j k p event false e f h = rw e (f (rw e at h))

tried_before : (i j : ℕ) (p : Past) → weak.is_under_way i j p ≡ true → (tried_of i j p == 0) ≡ false
tried_before i j Start h = absurd (cc)
tried_before i j (Then p k event) h = tried_entry i j k p event (i == k) refl (tried_before i j p) h

unless_none : (under none enough : Bool) → (under ≡ true → none ≡ false) → (none || enough) ≡ true → (not under || enough) ≡ true
unless_none false none enough f h = refl
unless_none true none enough f h = let n : none ≡ false = f refl in rw n at h

-- a helper word that is the seat's own
ask_part : (tries j : ℕ) (p : Past) (i : ℕ) (event : Event) → strong.asks_ok tries j p i event ≡ true → weak.ask_ok tries j p i event ≡ true
ask_part tries j p i (events.Reserve (Helper k) (Some span)) h =
    or_more (not (k == i)) (weak.has_tried tries i j p)
    (unless_none (weak.is_under_way i j p) (tried_of i j p == 0) (nat_le (tries + 1) (tried_of i j p) && own_rising_of i j p) (tried_before i j p) h)
ask_part tries j p i event h = refl

pub asks_kept : (tries j : ℕ) (r : Past) → Each (strong.asks_ok tries j) r → Each (weak.ask_ok tries j) r
asks_kept tries j r h = each_weaker (strong.asks_ok tries j) (weak.ask_ok tries j) (ask_part tries j) r h
