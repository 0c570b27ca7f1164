use Rattle.std.proofs.Common.{◌≡◌, ◌<◌, ◌^◌, ap, sym, ◌∙◌, arith, Some}
use Rattle.std.specs.Fmt.{decimal}
use Rattle.std.proofs.lemmas.Fmt.{decimal_injective}
use Rattle.wfe_text.specs.Record.{event_words}
use Rattle.wfe_text.proofs.Decimals.{lacks-decimal}
use Rattle.wfe_text.proofs.EventReader.{event_from}
use Rattle.wfe_text.proofs.EventTexts.{event-read}
use Rattle.wfe_text.proofs.EventWords.{event-plain, line_of-injective}
use Rattle.wfe_text.proofs.law.event_line_is_of_one_event.Goals as goal

pub returns : goal.returns
returns c =
    let seat_fits : c.args.seat < 2 ^ 64 = omega arith in
    let other_fits : c.args.other_seat < 2 ^ 64 = omega arith in
    let parts = line_of-injective (decimal c.args.seat) (decimal c.args.other_seat) (event_words c.args.event) (event_words c.args.other)
    (lacks-decimal 32 c.args.seat (omega arith) seat_fits) (lacks-decimal 32 c.args.other_seat (omega arith) other_fits)
    (event-plain c.args.event c.requires.event) (event-plain c.args.other c.requires.other) c.requires.same in
    let read : Some c.args.event ≡ Some c.args.other = sym (event-read c.args.event c.requires.event) ∙ ap event_from parts.1 ∙ event-read c.args.other c.requires.other in
    record { seat = decimal_injective c.args.seat c.args.other_seat seat_fits other_fits parts.0; event = cc }
