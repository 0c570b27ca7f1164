use Rattle.std.proofs.Common.{◌<◌, ◌∙◌, sym, ap, arith}
use Rattle.laws.specs.HoldLaw.{stands_as}
use Rattle.wfe_check.proofs.Places.{got_none, got_row}
use Rattle.wfe_check.proofs.Ranges.{range_of}
use Rattle.wfe_check.proofs.checker.Checker.has_got.Goals as goal

pub returns-then-version-eq0 : goal.returns-then-version-eq0
returns-then-version-eq0 c config p shows =
    c.has_null.ensures config p shows.calls ∙ got_none c.args.seat p c.args.event.now c.in-Got.bucket c.in-Got.version c.in-Got.key c.in-Got.value c.in-Got.is c.if-version-eq0.true

pub returns-in-Some : goal.returns-in-Some
returns-in-Some c config p shows =
    let range = range_of c.args.self.now c.args.seat c.args.event.now c.requires.may config p shows in
    let some : 0 < config.indexes = omega (arith, shows.protections.indexes) in
    c.stands.ensures.told config p shows.protections range.seated some
    ∙ ap (stands_as c.args.seat 0 p) (sym c.in-Some.is)
    ∙ got_row c.args.seat p c.args.event.now c.in-Got.bucket c.in-Got.version c.in-Got.key c.in-Got.value c.row.result c.in-Got.is c.if-version-eq0.false (c.row.ensures config p shows.contents)

pub returns-in-None : goal.returns-in-None
returns-in-None c config p shows =
    ap (stands_as c.args.seat 0 p) (sym c.in-None.is)
    ∙ got_row c.args.seat p c.args.event.now c.in-Got.bucket c.in-Got.version c.in-Got.key c.in-Got.value c.row.result c.in-Got.is c.if-version-eq0.false (c.row.ensures config p shows.contents)
