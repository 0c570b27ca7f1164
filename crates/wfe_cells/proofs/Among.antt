-- Calls on one seat, one after another.
use Rattle.std.proofs.Common.{List, None, Option, [], ap, arith, refl, sym, ℕ, ◌+◌, ◌∙◌, ◌≡◌}
use Rattle.std.proofs.lemmas.List.{append-nil}
use Rattle.std.proofs.lemmas.List.Sums.{sum_by_push}
use Rattle.std.specs.Prelude.{sum_by}
use Rattle.wfe_table.proofs.all.Logs.Grows.{Grows}
use Rattle.wfe_core.specs.Locals.{Group}
use Rattle.wfe_core.specs.defs.declared.call.Answer.{Answer}
use Rattle.wfe_core.specs.defs.declared.call.Answer.TheVariants as answers
use Rattle.wfe_core.specs.defs.declared.call.Call.{Call}
use Rattle.wfe_core.specs.defs.declared.call.Call.TheVariants as calls
use Rattle.wfe_core.specs.words.declared.layout.Layout.{Layout}
use Rattle.wfe_table.specs.Calls.{IsMade}
use Rattle.wfe_table.specs.Public.{SeatNow}
use Rattle.wfe_table.specs.history.History.{record_of}
use Rattle.wfe_cells.proofs.Words.{grown, onward}
use Rattle.wfe_cells.specs.Reasons.{IsAmong, IsLater, IsQuiet, queued_by, queues, taken_by, takes, value_queued, value_taken}
use Rattle.wfe_cells.specs.Stores.{is_object}

-- one after another
pub later_self : (seat : SeatNow) → IsLater seat seat
later_self seat = record { seat = refl; past = ([], sym (append-nil seat.track.past)) }

pub later_by : (layout : Layout) (old new : SeatNow) (call : Call) (answer : Answer) → IsMade layout old new call answer → IsLater old new
later_by layout old new call answer made = record { seat = made.ends.left.place.seat; past = (made.more, made.grows) }

pub later_on : (a b c : SeatNow) → IsLater a b → IsLater b c → IsLater a c
later_on a b c g h = record { seat = h.seat ∙ g.seat; past = onward a.track.past b.track.past c.track.past g.past h.past }

-- so the record has grown
pub later_grows : (layout : Layout) (a b : SeatNow) → IsLater a b → Grows (record_of layout a.track.past) (record_of layout b.track.past)
later_grows layout a b l = grown layout a.track.past b.track.past l.past.0 l.past.1

-- a call among others
pub among : (layout : Layout) (a b c d : SeatNow) (call : Call) (answer : Answer) → IsLater a b → IsMade layout b c call answer → IsLater c d → IsAmong layout a d call answer
among layout a b c d call answer since made until = record { before = b; after = c; since = since; made = made; until = until }

pub among_one : (layout : Layout) (old new : SeatNow) (call : Call) (answer : Answer) → IsMade layout old new call answer → IsAmong layout old new call answer
among_one layout old new call answer made = among layout old old new new call answer (later_self old) made (later_self new)

pub among_last : (layout : Layout) (a b c : SeatNow) (call : Call) (answer : Answer) → IsLater a b → IsMade layout b c call answer → IsAmong layout a c call answer
among_last layout a b c call answer since made = among layout a b c c call answer since made (later_self c)

pub among_within : (layout : Layout) (a b c d : SeatNow) (call : Call) (answer : Answer) → IsLater a b → IsAmong layout b c call answer → IsLater c d → IsAmong layout a d call answer
among_within layout a b c d call answer since one until = among layout a one.before one.after d call answer (later_on a b one.before since one.since) one.made (later_on one.after c d one.until until)

-- what a call took from the queue, and what it queued
pub takes_by : (layout : Layout) (old new : SeatNow) (call : Call) (answer : Answer) (block : ℕ) → IsMade layout old new call answer → takes block new ≡ takes block old + is_object block (value_taken call answer)
takes_by layout old new call answer block made =
    ap (λ (log : List Group). sum_by (taken_by block) log) made.ends.left.log ∙ sum_by_push (taken_by block) old.track.local.log (record { call = call; answer = answer; notes = new.track.local.desk.notes })

pub queues_by : (layout : Layout) (old new : SeatNow) (call : Call) (answer : Answer) (block : ℕ) → IsMade layout old new call answer → queues block new ≡ queues block old + is_object block (value_queued call answer)
queues_by layout old new call answer block made =
    ap (λ (log : List Group). sum_by (queued_by block) log) made.ends.left.log ∙ sum_by_push (queued_by block) old.track.local.log (record { call = call; answer = answer; notes = new.track.local.desk.notes })

-- calls that leave the queue alone
pub quiet_self : (seat : SeatNow) → IsQuiet seat seat
quiet_self seat = record { later = later_self seat; takes_same = λ block. refl; queues_same = λ block. refl }

pub quiet_by : (layout : Layout) (old new : SeatNow) (call : Call) (answer : Answer) → value_taken call answer ≡ None → value_queued call answer ≡ None → IsMade layout old new call answer → IsQuiet old new
quiet_by layout old new call answer took queued made = record {
  later = later_by layout old new call answer made;
  takes_same = λ block. omega (arith, takes_by layout old new call answer block made, ap (is_object block) took);
  queues_same = λ block. omega (arith, queues_by layout old new call answer block made, ap (is_object block) queued);
}

pub quiet_get : (layout : Layout) (old new : SeatNow) (key version : ℕ) (value : Option ℕ) → IsMade layout old new (calls.Get key) (answers.Got version value) → IsQuiet old new
quiet_get layout old new key version value made = quiet_by layout old new (calls.Get key) (answers.Got version value) refl refl made

pub quiet_put : (layout : Layout) (old new : SeatNow) (key value version : ℕ) (answer : Answer) → IsMade layout old new (calls.PutIf key value version) answer → IsQuiet old new
quiet_put layout old new key value version answer made = quiet_by layout old new (calls.PutIf key value version) answer refl refl made

pub quiet_on : (a b c : SeatNow) → IsQuiet a b → IsQuiet b c → IsQuiet a c
quiet_on a b c g h = record {
  later = later_on a b c g.later h.later;
  takes_same = λ block. h.takes_same block ∙ g.takes_same block;
  queues_same = λ block. h.queues_same block ∙ g.queues_same block;
}
