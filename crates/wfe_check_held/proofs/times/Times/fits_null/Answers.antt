use Rattle.std.proofs.Common.{ℕ, not, ◌||◌, ◌==◌, ap, sym, ◌∙◌}
use Rattle.std.specs.List.{list_any}
use Rattle.wfe_check_held.specs.Tests.{was_last_at}
use Rattle.wfe_check_held.proofs.FitsAt.{null_is}
use Rattle.wfe_check_held.proofs.times.Times.fits_null.Goals as goal

pub returns-else-index-ne1 : goal.returns-else-index-ne1
returns-else-index-ne1 c = λ config p steps is l among.
    let times = c.args.self.now in
    c.was_last.ensures
    ∙ ap (λ (n : ℕ). not (n == 1) || list_any (was_last_at times c.args.seat c.args.last) c.args.standing.now) (sym c.if-index-ne1.false)
    ∙ null_is config p times c.args.seat c.args.index steps c.args.last c.args.standing.now is c.requires.seat c.requires.standing l among
