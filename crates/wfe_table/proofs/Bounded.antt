-- How many steps a call that a seat has made took, whatever the other seats did meanwhile.
use Rattle.std.proofs.Common.{Bool, Option, [], ap, arith, false, length, subst, true, ℕ, ◌*◌, ◌+◌, ◌∙◌, ◌≡◌, ◌≤◌}
use Rattle.std.proofs.lemmas.Bool.Decides.{nat_tests}
use Rattle.std.specs.Prelude.{if◌then◌else◌, nat_le, not, ◌&&◌, ◌==◌, ◌||◌}
use Rattle.wfe_core.proofs.Facts.{le_of_test, number_is}
use Rattle.wfe_core.specs.Guards.{guards}
use Rattle.wfe_core.specs.Locals.{Local}
use Rattle.wfe_core.specs.defs.declared.call.Answer.{Answer}
use Rattle.wfe_core.specs.defs.declared.call.Answer.TheVariants as answers
use Rattle.wfe_core.specs.defs.declared.call.Call.{Call}
use Rattle.wfe_core.specs.defs.declared.call.Call.TheVariants as calls
use Rattle.wfe_core.specs.words.Schemes.{has_one_interval, is_wfe}
use Rattle.wfe_core.specs.words.declared.config.Config.{Config}
use Rattle.wfe_core.specs.words.declared.config.SchemeKind.{SchemeKind}
use Rattle.wfe_core.specs.words.declared.config.SchemeKind.TheVariants.{Wfe}
use Rattle.wfe_core.specs.words.declared.layout.Layout.{Layout}
use Rattle.laws.specs.StepLaw.{steps_right}
use Rattle.law_bounds.proofs.all.Steps.{logs_take_few_steps, scans_tell_backs}
use Rattle.wfe_drive_rule.specs.Views.{seat_of}
use Rattle.wfe_table.specs.Calls.{IsMade, group_of}
use Rattle.wfe_table.specs.Public.{SeatNow, steps_of}
use Rattle.wfe_table.specs.Steps.{FewSteps}

-- the steps are those that the law allows the call
bounded : (layout : Layout) (old new : SeatNow) (call : Call) (answer : Answer) → IsMade layout old new call answer
    → steps_right layout.config call (length new.track.local.desk.notes.back) answer (steps_of new) ≡ true
bounded layout old new call answer m =
    let t = m.tracked in
    logs_take_few_steps layout new.track.past (seat_of new.track) old.track.local.log [] (group_of call answer new) t.valid
    (ap (λ (l : Local). l.log) t.stood ∙ m.ends.left.log)

-- a bound of Wait-Free Eras
most : (scheme : SchemeKind) (steps bound : ℕ) → (not (is_wfe scheme) || nat_le steps bound) ≡ true → scheme ≡ Wfe → steps ≤ bound
most scheme steps bound h e =
    let low : nat_le steps bound ≡ true = subst (λ (s : SchemeKind). (not (is_wfe s) || nat_le steps bound) ≡ true) e h in
    grind (arith, nat_tests, low)

pub get_bounded : (layout : Layout) (old new : SeatNow) (key : ℕ) (answer : Answer) → IsMade layout old new (calls.Get key) answer
    → layout.config.scheme ≡ Wfe → steps_of new ≤ 3 * layout.config.tries + 18 + layout.config.pairs
get_bounded layout old new key answer m =
    let bound : ℕ = 3 * layout.config.tries + 18 + layout.config.pairs in
    most layout.config.scheme (steps_of new) bound (bounded layout old new (calls.Get key) answer m)

pub hold_bounded : (layout : Layout) (old new : SeatNow) (key : ℕ) (answer : Answer) → IsMade layout old new (calls.Hold key) answer
    → layout.config.scheme ≡ Wfe → steps_of new ≤ 3 * layout.config.tries + 16
hold_bounded layout old new key answer m =
    let bound : ℕ = 3 * layout.config.tries + 16 in
    most layout.config.scheme (steps_of new) bound (bounded layout old new (calls.Hold key) answer m)

-- bounds under each scheme
pub release_bounded : (layout : Layout) (old new : SeatNow) (answer : Answer) → IsMade layout old new calls.Release answer → steps_of new ≡ 1
release_bounded layout old new answer m = number_is (steps_of new) 1 (bounded layout old new calls.Release answer m)

pub drop_bounded : (layout : Layout) (old new : SeatNow) (index : ℕ) (answer : Answer) → IsMade layout old new (calls.DropIndex index) answer → steps_of new ≡ 1
drop_bounded layout old new index answer m = number_is (steps_of new) 1 (bounded layout old new (calls.DropIndex index) answer m)

-- a copy that is made takes a step more where an index publishes by itself
one_or_two : (one : Bool) (steps : ℕ) → (steps == (if not one && true then 2 else 1)) ≡ true → steps ≡ (if one then 1 else 2)
one_or_two true steps h = number_is steps 1 h
one_or_two false steps h = number_is steps 2 h

pub copied_bounded : (layout : Layout) (old new : SeatNow) (from index slot : ℕ) → IsMade layout old new (calls.Copy from index) (answers.Copied slot)
    → steps_of new ≡ (if has_one_interval layout.config.scheme then 1 else 2)
copied_bounded layout old new from index slot m =
    one_or_two (has_one_interval layout.config.scheme) (steps_of new) (bounded layout old new (calls.Copy from index) (answers.Copied slot) m)

one_step : (many : Bool) (steps : ℕ) → (steps == (if many && false then 2 else 1)) ≡ true → steps ≡ 1
one_step true steps h = number_is steps 1 h
one_step false steps h = number_is steps 1 h

pub uncopied_bounded : (layout : Layout) (old new : SeatNow) (from index : ℕ) → IsMade layout old new (calls.Copy from index) answers.Nothing → steps_of new ≡ 1
uncopied_bounded layout old new from index m =
    one_step (not (has_one_interval layout.config.scheme)) (steps_of new) (bounded layout old new (calls.Copy from index) answers.Nothing m)

-- a look reads a version, a count, the keys and a value
pub looked_bounded : (layout : Layout) (old new : SeatNow) (index key slot version : ℕ) (value : Option ℕ) → IsMade layout old new (calls.Look index key) (answers.Looked slot version value)
    → steps_of new ≤ 3 + layout.config.pairs
looked_bounded layout old new index key slot version value m =
    le_of_test (steps_of new) (3 + layout.config.pairs) (bounded layout old new (calls.Look index key) (answers.Looked slot version value) m)

pub unlooked_bounded : (layout : Layout) (old new : SeatNow) (index key : ℕ) → IsMade layout old new (calls.Look index key) answers.Nothing → steps_of new ≡ 1
unlooked_bounded layout old new index key m = number_is (steps_of new) 1 (bounded layout old new (calls.Look index key) answers.Nothing m)

few : (helped : Bool) (steps more less : ℕ) → (if helped then nat_le steps more else nat_le steps less) ≡ true
    → steps ≤ (if helped then more else less)
few true steps more less h = grind (arith, nat_tests)
few false steps more less h = grind (arith, nat_tests)

pub advance_bounded : (layout : Layout) (old new : SeatNow) (answer : Answer) → IsMade layout old new calls.Advance answer
    → steps_of new ≤ (if is_wfe layout.config.scheme then 7 * layout.config.seats + 3 else 2)
advance_bounded layout old new answer m =
    let c : Config = layout.config in
    few (is_wfe c.scheme) (steps_of new) (7 * c.seats + 3) 2 (bounded layout old new calls.Advance answer m)

-- as many rows went back as a scan answers
backs_told : (layout : Layout) (old new : SeatNow) (kept back : ℕ) → IsMade layout old new calls.Scan (answers.Scanned kept back)
    → length new.track.local.desk.notes.back ≡ back
backs_told layout old new kept back m =
    let t = m.tracked in
    scans_tell_backs layout new.track.past (seat_of new.track) old.track.local.log [] kept back new.track.local.desk.notes t.valid
    (ap (λ (l : Local). l.log) t.stood ∙ m.ends.left.log)

pub scan_bounded : (layout : Layout) (old new : SeatNow) (kept back : ℕ) → IsMade layout old new calls.Scan (answers.Scanned kept back)
    → steps_of new ≡ guards layout.config + back
scan_bounded layout old new kept back m =
    let all : ℕ = guards layout.config in
    let told : ℕ = length new.track.local.desk.notes.back in
    let right : (steps_of new == all + told) ≡ true = bounded layout old new calls.Scan (answers.Scanned kept back) m in
    number_is (steps_of new) (all + told) right ∙ ap (λ (x : ℕ). all + x) (backs_told layout old new kept back m)

-- of whichever call
pub call_bounded : (layout : Layout) (old new : SeatNow) (call : Call) (answer : Answer) → IsMade layout old new call answer → FewSteps layout.config call answer (steps_of new)
call_bounded layout old new (calls.Get key) answer m = get_bounded layout old new key answer m
call_bounded layout old new (calls.Hold key) answer m = hold_bounded layout old new key answer m
call_bounded layout old new calls.Release answer m = release_bounded layout old new answer m
call_bounded layout old new (calls.DropIndex index) answer m = drop_bounded layout old new index answer m
call_bounded layout old new (calls.Copy from index) (answers.Copied slot) m = copied_bounded layout old new from index slot m
call_bounded layout old new (calls.Copy from index) answers.Nothing m = uncopied_bounded layout old new from index m
call_bounded layout old new (calls.Copy from index) answer m = tt
call_bounded layout old new (calls.Look index key) answers.Nothing m = unlooked_bounded layout old new index key m
call_bounded layout old new (calls.Look index key) answer m = le_of_test (steps_of new) (3 + layout.config.pairs) (bounded layout old new (calls.Look index key) answer m)
call_bounded layout old new calls.Advance answer m = advance_bounded layout old new answer m
call_bounded layout old new calls.Scan (answers.Scanned kept back) m = scan_bounded layout old new kept back m
call_bounded layout old new calls.Scan answer m = tt
call_bounded layout old new call answer m = tt
