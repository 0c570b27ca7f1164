use Rattle.std.proofs.Common.{◌∙◌, sym, refl, []}
use Rattle.wfe_check_held.specs.Protections.{AllHeld}
use Rattle.wfe_check.specs.Groups.{FitsParts}
use Rattle.wfe_check.proofs.Parts.{fits_of, parts_of}
use Rattle.wfe_check.proofs.Ranges.{range_of}
use Rattle.wfe_check.proofs.Tests.{both, two}
use Rattle.wfe_check.proofs.checker.Checker.fits.Goals as goal

pub returns-clause-there : goal.returns-clause-there
returns-clause-there c version config p is holds =
    let range = range_of c.args.self.now c.args.seat c.args.event.now c.requires.may config p is.shows in
    let (parts, held) = two _ _ (sym c.both.ensures ∙ holds) in
    let f : FitsParts c.args.self.now.version config p c.args.seat c.args.event.now = c.fits_parts-parts.ensures.there config p is.shows parts in
    let now : AllHeld config p = λ k j s. is.good.throughout p [] k j s refl in
    fits_of c.args.self.now.version version config p c.args.seat c.args.event.now is.version_is f
    ((c.holds-held.ensures.now config p is.shows.protections is.shows.rows range now f.in_standing.reuse).0 held)

pub returns-clause-back : goal.returns-clause-back
returns-clause-back c version config p is fits =
    let range = range_of c.args.self.now c.args.seat c.args.event.now c.requires.may config p is.shows in
    let now : AllHeld config p = λ k j s. is.good.throughout p [] k j s refl in
    c.both.ensures
    ∙ both _ _ (c.fits_parts-parts.ensures.back config p is.shows (parts_of c.args.self.now.version version config p c.args.seat c.args.event.now is.version_is fits))
    ((c.holds-held.ensures.now config p is.shows.protections is.shows.rows range now fits.reuse).1 fits.covered)
