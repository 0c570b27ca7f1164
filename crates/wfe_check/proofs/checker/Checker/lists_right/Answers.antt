use Rattle.std.proofs.Common.{◌∙◌, sym, ap}
use Rattle.laws.specs.Once.{lists_ok}
use Rattle.wfe_check_map.specs.ListStanding.{AdoptedIs, LeftIs}
use Rattle.wfe_check.proofs.Lists.{adopted_is, left_is, other_adopted, other_left}
use Rattle.wfe_check.proofs.checker.Checker.lists_right.Goals as goal

pub returns-in-Adopted : goal.returns-in-Adopted
returns-in-Adopted c config p shows =
    c.fits_lists.ensures config p shows.lists (c.began-began.ensures config p shows.calls)
    (left_is c.has_left-left.result c.args.event.now c.in-Adopted.place c.in-Adopted.count p c.in-Adopted.is (c.has_left-left.ensures config p shows.calls))
    (adopted_is c.is_adopted-adopted.result c.args.event.now c.in-Adopted.place c.in-Adopted.count p c.in-Adopted.is (c.is_adopted-adopted.ensures config p shows.calls))

pub returns-in_default : goal.returns-in_default
returns-in_default c config p shows =
    c.fits_lists-in_default.ensures config p shows.lists (c.began-began.ensures config p shows.calls)
    (other_left _ c.args.event.now p c.in_default.not-Adopted)
    (other_adopted _ c.args.event.now p c.in_default.not-Adopted)
