-- The words that were put stay while the cell is changed.
use Rattle.std.proofs.Common.{Err, Ok, inl}
use Rattle.wfe_cells.proofs.Among.{quiet_on}
use Rattle.wfe_cells.proofs.Only.{only_place, only_words}
use Rattle.wfe_cells.proofs.Refusals.{not_given}
use Rattle.wfe_cells.proofs.Words.{placed}
use Rattle.wfe_cells.specs.declared.wide.SwapRefusal.TheVariants as refusals
use Rattle.wfe_cells.proofs.swaps.place.Goals as goal

pub returns-in-Err-clause-refused : goal.returns-in-Err-clause-refused
returns-in-Err-clause-refused c = inl c.in-Err.ensures.refused

pub returns-in-Err-clause-only : goal.returns-in-Err-clause-only
returns-in-Err-clause-only c =
    only_words c.args.shared.now.layout.config.buckets c.args.block c.args.seen (Err (refusals.Refused c.in-Err.refusal)) c.args.seat.now c.write.new.seat c.write.ensures.only

pub returns-in-Ok-exchange-clause-quiet : goal.returns-in-Ok-exchange-clause-quiet
returns-in-Ok-exchange-clause-quiet c = quiet_on c.args.seat.now c.write.new.seat c.exchange.new.seat c.write.ensures.quiet c.exchange.ensures.quiet

pub returns-in-Ok-exchange-clause-only : goal.returns-in-Ok-exchange-clause-only
returns-in-Ok-exchange-clause-only c =
    only_place c.args.shared.now.layout.config.buckets c.args.block c.args.seen (Ok c.in-Ok-exchange.now) c.args.seat.now c.write.new.seat c.exchange.new.seat c.write.ensures.only c.in-Ok-exchange.ensures.only

pub returns-in-Ok-exchange-clause-placed : goal.returns-in-Ok-exchange-clause-placed
returns-in-Ok-exchange-clause-placed c =
    let grows = c.exchange.ensures.quiet.later.past in
    placed c.args.shared.now.layout c.args.seat.now c.write.new.seat c.exchange.new.seat grows.0 c.args.seen c.args.block c.in-Ok.object c.args.words.now c.in-Ok-exchange.now c.in-Ok.ensures.written grows.1 c.in-Ok-exchange.ensures.next

pub returns-in-Err-exchange-clause-quiet : goal.returns-in-Err-exchange-clause-quiet
returns-in-Err-exchange-clause-quiet c = quiet_on c.args.seat.now c.write.new.seat c.exchange.new.seat c.write.ensures.quiet c.exchange.ensures.quiet

pub returns-in-Err-exchange-clause-only : goal.returns-in-Err-exchange-clause-only
returns-in-Err-exchange-clause-only c =
    only_place c.args.shared.now.layout.config.buckets c.args.block c.args.seen (Err c.in-Err-exchange.refusal) c.args.seat.now c.write.new.seat c.exchange.new.seat c.write.ensures.only c.in-Err-exchange.ensures.only

pub returns-in-Err-exchange-clause-refused : goal.returns-in-Err-exchange-clause-refused
returns-in-Err-exchange-clause-refused c =
    not_given c.args.shared.now.layout c.args.seat.now c.write.new.seat c.exchange.new.seat c.args.seen c.args.block c.in-Ok.object c.args.words.now c.in-Err-exchange.refusal c.requires.some c.write.ensures.quiet.later c.in-Ok.ensures.written c.in-Err-exchange.ensures.refused
