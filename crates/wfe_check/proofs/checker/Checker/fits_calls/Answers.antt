use Rattle.std.proofs.Common.{◌∙◌, sym}
use Rattle.wfe_check.proofs.Ranges.{calls_range}
use Rattle.wfe_check.proofs.Tests.{both, two, unless, unless_by}
use Rattle.wfe_check.proofs.checker.Checker.fits_calls.Goals as goal

pub fits-requires : goal.fits-requires
fits-requires c = record { range = calls_range c.args.self.now c.args.seat c.args.event.now c.requires.may }

pub returns-clause-there : goal.returns-clause-there
returns-clause-there c config p shows holds =
    let (open_, more) = two _ _ (sym (c.fits.ensures config p shows.calls) ∙ holds) in
    let (placing, more_two) = two _ _ more in
    let (retiring, more_three) = two _ _ more_two in
    let (due, more_four) = two _ _ more_three in
    let (moves, more_five) = two _ _ more_four in
    let (finds, advances) = two _ _ more_five in
    record { calls = open_; placing = placing; retiring = retiring; due = due; moves = moves; finds = finds; advances = unless _ _ advances }

pub returns-clause-back : goal.returns-clause-back
returns-clause-back c config p shows fits =
    c.fits.ensures config p shows.calls
    ∙ both _ _ fits.calls (both _ _ fits.placing (both _ _ fits.retiring (both _ _ fits.due (both _ _ fits.moves (both _ _ fits.finds (unless_by _ _ fits.advances))))))
