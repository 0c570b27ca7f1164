-- How many steps calls take, whatever other threads do; and where others may hold a call up, by what they did during it.
use Rattle.std.specs.Prelude.{drop, false, filter, if◌then◌else◌, is_some, length, ℕ, ◌+◌, ◌≡◌, ◌≤◌}
use Rattle.wfe_core.specs.Guards.{guards}
use Rattle.wfe_core.specs.defs.Bounds.{clock_most, get_most, hold_most, look_most}
use Rattle.wfe_core.specs.defs.declared.call.Answer.{Answer}
use Rattle.wfe_core.specs.defs.declared.call.Answer.TheVariants as answers
use Rattle.wfe_core.specs.defs.declared.call.Call.{Call}
use Rattle.wfe_core.specs.defs.declared.call.Call.TheVariants as calls
use Rattle.wfe_core.specs.words.Schemes.{has_one_interval, is_wfe}
use Rattle.wfe_core.specs.words.declared.config.Config.{Config}
use Rattle.wfe_core.specs.words.declared.config.SchemeKind.TheVariants as schemes
use Rattle.wfe_core.specs.words.declared.layout.Layout.{Layout}
use Rattle.laws.specs.StructuresAt.{bucket_of}
use Rattle.law_bounds.specs.Changes.{change_most}
use Rattle.law_bounds.specs.Gets.{get_more, hold_more, tries_most}
use Rattle.wfe_drive_rule.specs.Views.{seat_of}
use Rattle.wfe_drive_rule.specs.history.Record.{Past}
use Rattle.wfe_table.specs.Calls.{IsMade}
use Rattle.wfe_table.specs.Public.{SeatNow, steps_of}

-- how many rows stand at a seat's indexes from 2 on
abbrev pub rows_standing : SeatNow → ℕ
rows_standing seat = length (filter is_some (drop 2 seat.track.local.post.standing))

-- The steps of a leave: one for each of them, and one. Under 2GE no index publishes by itself: there it is one where the seat's interval
-- stands, and one.
abbrev pub leave_steps : SeatNow → ℕ
leave_steps seat =
    (if has_one_interval seat.track.local.post.layout.config.scheme then (if is_some seat.track.local.post.span then 1 else 0) else rows_standing seat) + 1

-- The steps of a call with this answer, whatever others do. For a put, a put at a version, a remove, an enqueue and a dequeue no number is
-- known that holds whatever others do.
abbrev pub FewSteps : Config → Call → Answer → (steps : ℕ) → Type 0
FewSteps config (calls.Get key) answer steps = config.scheme ≡ schemes.Wfe → steps ≤ get_most config.tries config.pairs
FewSteps config (calls.Hold key) answer steps = config.scheme ≡ schemes.Wfe → steps ≤ hold_most config.tries
FewSteps config calls.Release answer steps = steps ≡ 1
FewSteps config (calls.DropIndex index) answer steps = steps ≡ 1
FewSteps config (calls.Copy from index) (answers.Copied slot) steps = steps ≡ (if has_one_interval config.scheme then 1 else 2)
FewSteps config (calls.Copy from index) answers.Nothing steps = steps ≡ 1
FewSteps config (calls.Look index key) answers.Nothing steps = steps ≡ 1
FewSteps config (calls.Look index key) answer steps = steps ≤ look_most config.pairs
FewSteps config calls.Advance answer steps = steps ≤ (if is_wfe config.scheme then clock_most config.seats else 2)
FewSteps config calls.Scan (answers.Scanned kept back) steps = steps ≡ guards config + back
FewSteps config call answer steps = Unit {0}

-- The steps of a call of seat i, by what was told during it: where it ends the record comes to p. A get and a hold are held up by moves of the
-- clock, or under hazard pointers by changes of their bucket's root; a put, a put at a version, a remove, an enqueue and a dequeue by changes of
-- their bucket or of the queue, and by moves of the clock.
abbrev pub PacedSteps : Config → (i : ℕ) → Past → Call → (steps : ℕ) → Type 0
PacedSteps config i p (calls.Get key) steps = is_wfe config.scheme ≡ false → steps ≤ tries_most config i (bucket_of config.buckets key) p + get_more config.pairs
PacedSteps config i p (calls.Hold key) steps = is_wfe config.scheme ≡ false → steps ≤ tries_most config i (bucket_of config.buckets key) p + hold_more
PacedSteps config i p (calls.Put key value) steps = steps ≤ change_most config i p
PacedSteps config i p (calls.PutIf key value version) steps = steps ≤ change_most config i p
PacedSteps config i p (calls.Remove key) steps = steps ≤ change_most config i p
PacedSteps config i p (calls.Enqueue value) steps = steps ≤ change_most config i p
PacedSteps config i p calls.Dequeue steps = steps ≤ change_most config i p
PacedSteps config i p call steps = Unit {0}

-- each call that was made has taken no more
abbrev pub CallsKeepPace : Type 0
CallsKeepPace =
    (layout : Layout) (old new : SeatNow) (call : Call) (answer : Answer) (made : IsMade layout old new call answer)
    → PacedSteps layout.config (seat_of new.track) made.answered.end.at call (steps_of new)
