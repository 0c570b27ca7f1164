-- Its call begins, and the two steps of an adoption follow, or one that finds no list.
use Rattle.std.proofs.Common.{ap, sym, ◌∙◌}
use Rattle.wfe_core.proofs.Facts.{lt_test}
use Rattle.wfe_core.specs.Held.{ListHeld}
use Rattle.wfe_core.specs.Locals.{Local}
use Rattle.wfe_table.proofs.Made.{stands_at}
use Rattle.wfe_table.proofs.Takes.{missed_by, missed_rests, next_mark, next_take, took_by}
use Rattle.wfe_table.proofs.take.take_on.Goals as goal

pub begin-requires-clause-there : goal.begin-requires-clause-there
begin-requires-clause-there c = λ e. c.requires.there (sym (ap (λ (l : Local). l.call) (stands_at c.args.handle.now.me c.requires.resting)) ∙ e)

pub begin-requires-clause-may : goal.begin-requires-clause-may
begin-requires-clause-may c = lt_test c.args.place c.args.ledger.now.key.config.seats c.requires.place

pub adopt_list-requires-clause-takes : goal.adopt_list-requires-clause-takes
adopt_list-requires-clause-takes c =
    (next_take c.args.ledger.now.key c.args.seat c.args.place c.args.word c.args.handle.now.me c.begin.new.handle.me c.requires.seated c.requires.resting c.requires.word c.begin.ensures.view c.begin.ensures.begins).0

pub adopt_list-requires-clause-asks : goal.adopt_list-requires-clause-asks
adopt_list-requires-clause-asks c =
    (next_take c.args.ledger.now.key c.args.seat c.args.place c.args.word c.args.handle.now.me c.begin.new.handle.me c.requires.seated c.requires.resting c.requires.word c.begin.ensures.view c.begin.ensures.begins).1

pub mark_place-requires-clause-asks : goal.mark_place-requires-clause-asks
mark_place-requires-clause-asks c = next_mark c.args.ledger.now.key c.args.seat c.args.place c.args.word c.adopt_list.new.handle.me c.in-Ok.ensures.taken.0 c.requires.word

pub returns-in-Ok-clause-taken : goal.returns-in-Ok-clause-taken
returns-in-Ok-clause-taken c =
    let taken = c.in-Ok.ensures.taken in (
      ap (λ (list : ListHeld). list.slots) taken.2,
      took_by c.args.ledger.now.key c.args.seat c.args.place c.args.word c.args.handle.now.me c.begin.new.handle.me c.adopt_list.new.handle.me c.mark_place.new.handle.me _ c.requires.seated c.requires.resting c.requires.word c.begin.ensures.view c.begin.ensures.begins c.begin.ensures.seated
          taken.0 taken.1 (ap (λ (list : ListHeld). list.lives) taken.2) c.mark_place.ensures.resting c.mark_place.ensures.told,
    )

pub returns-in-Err-clause-missed : goal.returns-in-Err-clause-missed
returns-in-Err-clause-missed c =
    let missed = c.in-Err.ensures.missed in (
      missed.0,
      missed_by c.args.ledger.now.key c.args.seat c.args.place c.args.word _ c.args.handle.now.me c.begin.new.handle.me c.adopt_list.new.handle.me c.requires.seated c.requires.resting c.requires.word c.begin.ensures.view c.begin.ensures.begins c.begin.ensures.seated
          missed.0 missed.2 missed.3,
    )

pub returns-in-Err-clause-resting : goal.returns-in-Err-clause-resting
returns-in-Err-clause-resting c =
    let missed = c.in-Err.ensures.missed in
    missed_rests c.args.place _ _ c.adopt_list.new.handle.me missed.2
    (missed_by c.args.ledger.now.key c.args.seat c.args.place c.args.word _ c.args.handle.now.me c.begin.new.handle.me c.adopt_list.new.handle.me c.requires.seated c.requires.resting c.requires.word c.begin.ensures.view c.begin.ensures.begins c.begin.ensures.seated missed.0 missed.2 missed.3)
