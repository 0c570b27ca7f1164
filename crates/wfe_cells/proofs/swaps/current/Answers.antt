-- A get of the cell tells its version and its object.
use Rattle.std.proofs.Common.{◌∙◌, ◌≡◌}
use Rattle.wfe_cells.specs.Wide.{named}
use Rattle.wfe_cells.proofs.Among.{quiet_get}
use Rattle.wfe_cells.proofs.Only.{only_get}
use Rattle.wfe_cells.proofs.Refusals.{stale_got}
use Rattle.wfe_cells.proofs.Words.{got_now, named_is}
use Rattle.wfe_cells.proofs.swaps.current.Goals as goal

pub returns-then-got-seen-clause-quiet : goal.returns-then-got-seen-clause-quiet
returns-then-got-seen-clause-quiet c =
    let got = c.get-got.result in
    quiet_get c.args.shared.now.layout c.args.seat.now c.get-got.new.seat c.args.seen.cell got.version got.value c.get-got.ensures.made

pub returns-then-got-seen-clause-only : goal.returns-then-got-seen-clause-only
returns-then-got-seen-clause-only c =
    let got = c.get-got.result in
    only_get c.args.shared.now.layout c.args.seat.now c.get-got.new.seat c.args.seen.cell got.version got.value c.get-got.ensures.made

pub returns-then-got-seen-clause-refused : goal.returns-then-got-seen-clause-refused
returns-then-got-seen-clause-refused c =
    let got = c.get-got.result in
    stale_got c.args.shared.now.layout c.args.seat.now c.get-got.new.seat c.args.seen.cell c.args.seen.version got.version got.value c.requires.cell c.get-got.ensures.made c.if-got-seen.true

pub returns-clause-quiet : goal.returns-clause-quiet
returns-clause-quiet c =
    let got = c.get-got.result in
    quiet_get c.args.shared.now.layout c.args.seat.now c.get-got.new.seat c.args.seen.cell got.version got.value c.get-got.ensures.made

pub returns-clause-only : goal.returns-clause-only
returns-clause-only c =
    let got = c.get-got.result in
    only_get c.args.shared.now.layout c.args.seat.now c.get-got.new.seat c.args.seen.cell got.version got.value c.get-got.ensures.made

pub returns-clause-named : goal.returns-clause-named
returns-clause-named c =
    let got = c.get-got.result in
    let e : c.unwrap_or.result ≡ named got.value = c.unwrap_or.ensures ∙ named_is got.value in
    got_now c.args.shared.now.layout c.args.seat.now c.get-got.new.seat c.args.seen got.version c.unwrap_or.result got.value c.requires.cell e c.if-got-seen.false c.get-got.ensures.made
