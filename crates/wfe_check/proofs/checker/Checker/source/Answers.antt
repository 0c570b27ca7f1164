use Rattle.std.proofs.Common.{Some, ◌∙◌, ◌≡◌}
use Rattle.wfe_defs.specs.declared.call.Call.TheVariants.{Copy}
use Rattle.wfe_check.proofs.checker.Checker.source.Goals as goal

pub returns-in-Some : goal.returns-in-Some
returns-in-Some c config p shows from index e =
    let began : Some c.in-Some.call ≡ Some (Copy from index) = c.in-Some.ensures config p shows.calls ∙ e in
    let same : c.in-Some.call ≡ Copy from index = cc in
    c.source_of.ensures config p shows from index same (shows.copies c.args.seat from index e)
