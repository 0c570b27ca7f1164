use Rattle.std.proofs.Common.{◌<◌, ◌≡◌, ◌∙◌, get_or, true, sym, ap, arith, subst, ◌≤◌}
use Rattle.laws.specs.HoldLaw.{behind_ok}
use Rattle.laws.specs.StateAt.{stands}
use Rattle.wfe_check.proofs.Places.{member_at}
use Rattle.wfe_check.proofs.Ranges.{range_of}
use Rattle.wfe_check.proofs.checker.Checker.is_behind.Goals as goal

pub fits_null-requires-clause-standing : goal.fits_null-requires-clause-standing
fits_null-requires-clause-standing c k d within =
    let (config, before, shows, range) = c.requires.may in
    let some : 0 < config.indexes = omega (arith, shows.protections.indexes) in
    let row = get_or c.rows-standing.result.now k d in
    let there : stands c.args.seat 0 row before ≡ true =
    sym (c.rows-standing.ensures.told config before shows.protections range.seated some row) ∙ member_at c.rows-standing.result.now k d within in
    subst (λ s. row ≤ s.slots) (sym shows.times.setting) (shows.protections.within c.args.seat 0 row there).slot_in

pub returns-in-Held : goal.returns-in-Held
returns-in-Held c config p shows =
    let range = range_of c.args.self.now c.args.seat c.args.event.now c.requires.may config p shows in
    c.held_behind.ensures config p shows.protections shows.rows range.seated c.in-Held.steps ∙ ap (behind_ok config.slots p c.args.seat) (sym c.in-Held.is)

pub returns-in-Null : goal.returns-in-Null
returns-in-Null c config p shows =
    let range = range_of c.args.self.now c.args.seat c.args.event.now c.requires.may config p shows in
    let some : 0 < config.indexes = omega (arith, shows.protections.indexes) in
    c.fits_null.ensures config p c.in-Null.steps shows.times (c.last_row.ensures config p shows) (c.rows-standing.ensures.told config p shows.protections range.seated some)
    ∙ ap (behind_ok config.slots p c.args.seat) (sym c.in-Null.is)
