use Rattle.std.proofs.Common.{◌∙◌, sym}
use Rattle.wfe_check.proofs.Tests.{both, two}
use Rattle.wfe_check.proofs.checker.Checker.fits_parts.Goals as goal

pub returns-clause-there : goal.returns-clause-there
returns-clause-there c config p shows holds =
    let (one, other) = two _ _ (sym c.both-4.ensures ∙ holds) in
    let (first, second) = two _ _ (sym c.both-one.ensures ∙ one) in
    let (rows, calls) = two _ _ (sym c.both.ensures ∙ first) in
    let (steps, guards) = two _ _ (sym c.both-2.ensures ∙ second) in
    let (standing, third) = two _ _ (sym c.both-other.ensures ∙ other) in
    let (contents, times) = two _ _ (sym c.both-3.ensures ∙ third) in
    record {
      in_rows = c.fits_rows-rows.ensures.there config p shows rows;
      in_calls = c.fits_calls-calls.ensures.there config p shows calls;
      in_steps = c.fits_steps-steps.ensures.there config p shows steps;
      in_guards = c.fits_guards-guards.ensures.there config p shows guards;
      in_standing = c.fits_standing-standing.ensures.there config p shows standing;
      in_contents = c.fits_contents-contents.ensures.there config p shows contents;
      in_times = c.fits_times-times.ensures.there config p shows times;
    }

pub returns-clause-back : goal.returns-clause-back
returns-clause-back c config p shows fits =
    c.both-4.ensures
    ∙ both _ _
    (c.both-one.ensures ∙ both _ _ (c.both.ensures ∙ both _ _ (c.fits_rows-rows.ensures.back config p shows fits.in_rows) (c.fits_calls-calls.ensures.back config p shows fits.in_calls))
    (c.both-2.ensures ∙ both _ _ (c.fits_steps-steps.ensures.back config p shows fits.in_steps) (c.fits_guards-guards.ensures.back config p shows fits.in_guards)))
    (c.both-other.ensures ∙ both _ _ (c.fits_standing-standing.ensures.back config p shows fits.in_standing)
    (c.both-3.ensures ∙ both _ _ (c.fits_contents-contents.ensures.back config p shows fits.in_contents) (c.fits_times-times.ensures.back config p shows fits.in_times)))
