-- What was read of the cell, and then of its object.
use Rattle.wfe_table.specs.history.History.{record_of}
use Rattle.wfe_cells.specs.Only.{IsGet}
use Rattle.wfe_cells.specs.Wide.{named}
use Rattle.std.proofs.Common.{length, ◌∙◌, ◌≡◌, ◌≢◌}
use Rattle.wfe_cells.proofs.Among.{later_grows, quiet_get, quiet_on}
use Rattle.wfe_cells.proofs.Only.{only_get, only_on}
use Rattle.wfe_cells.proofs.Refusals.{disturbed}
use Rattle.wfe_cells.proofs.Words.{met_cell, met_still, named_is, shows_none, shows_words}
use Rattle.wfe_cells.proofs.blocks.try_load.Goals as goal

pub read-requires-clause-valid : goal.read-requires-clause-valid
read-requires-clause-valid c = c.get-got.ensures.made.tracked.valid

pub returns-then-object-eq0-clause-quiet : goal.returns-then-object-eq0-clause-quiet
returns-then-object-eq0-clause-quiet c =
    let got = c.get-got.result in
    quiet_get c.args.shared.now.layout c.args.seat.now c.get-got.new.seat c.args.cell got.version got.value c.get-got.ensures.made

pub returns-then-object-eq0-clause-only : goal.returns-then-object-eq0-clause-only
returns-then-object-eq0-clause-only c =
    let got = c.get-got.result in
    only_get c.args.shared.now.layout c.args.seat.now c.get-got.new.seat c.args.cell got.version got.value c.get-got.ensures.made

pub returns-then-object-eq0-clause-shown : goal.returns-then-object-eq0-clause-shown
returns-then-object-eq0-clause-shown c =
    let layout = c.args.shared.now.layout in
    let got = c.get-got.result in
    let object = c.unwrap_or-object.result in
    let e : object ≡ named got.value = c.unwrap_or-object.ensures ∙ named_is got.value in
    let z : object ≡ 0 = c.if-object-eq0.true in
    shows_none layout c.args.seat.now c.get-got.new.seat c.args.cell got.version object got.value c.args.words.now c.requires.cell e z c.get-got.ensures.made

pub returns-then-object-eq0-clause-current : goal.returns-then-object-eq0-clause-current
returns-then-object-eq0-clause-current c =
    let got = c.get-got.result in
    met_cell c.args.shared.now.layout c.args.seat.now c.get-got.new.seat c.args.cell got.version got.value c.requires.cell c.get-got.ensures.made

pub returns-then-read-clause-quiet : goal.returns-then-read-clause-quiet
returns-then-read-clause-quiet c =
    let got = c.get-got.result in
    quiet_on c.args.seat.now c.get-got.new.seat c.read.new.seat (quiet_get c.args.shared.now.layout c.args.seat.now c.get-got.new.seat c.args.cell got.version got.value c.get-got.ensures.made) c.read.ensures.quiet

pub returns-then-read-clause-only : goal.returns-then-read-clause-only
returns-then-read-clause-only c =
    let got = c.get-got.result in
    only_on IsGet c.args.seat.now c.get-got.new.seat c.read.new.seat (only_get c.args.shared.now.layout c.args.seat.now c.get-got.new.seat c.args.cell got.version got.value c.get-got.ensures.made) c.read.ensures.only

pub returns-then-read-clause-shown : goal.returns-then-read-clause-shown
returns-then-read-clause-shown c =
    let layout = c.args.shared.now.layout in
    let got = c.get-got.result in
    let object = c.unwrap_or-object.result in
    let grows = c.read.ensures.quiet.later.past in
    let e : object ≡ named got.value = c.unwrap_or-object.ensures ∙ named_is got.value in
    shows_words layout c.args.seat.now c.get-got.new.seat c.read.new.seat grows.0 c.args.cell got.version object got.value c.read.new.words c.requires.cell e c.get-got.ensures.made grows.1 (c.read.ensures.words c.if-read.true)

pub returns-then-read-clause-current : goal.returns-then-read-clause-current
returns-then-read-clause-current c =
    let layout = c.args.shared.now.layout in
    let got = c.get-got.result in
    let mid = c.get-got.new.seat in
    let last = c.read.new.seat in
    met_still (record_of layout c.args.seat.now.track.past) (record_of layout mid.track.past) (record_of layout last.track.past) c.args.cell got.version (later_grows layout mid last c.read.ensures.quiet.later) (met_cell layout c.args.seat.now mid c.args.cell got.version got.value c.requires.cell c.get-got.ensures.made)

pub returns-else-read-clause-quiet : goal.returns-else-read-clause-quiet
returns-else-read-clause-quiet c =
    let got = c.get-got.result in
    quiet_on c.args.seat.now c.get-got.new.seat c.read.new.seat (quiet_get c.args.shared.now.layout c.args.seat.now c.get-got.new.seat c.args.cell got.version got.value c.get-got.ensures.made) c.read.ensures.quiet

pub returns-else-read-clause-only : goal.returns-else-read-clause-only
returns-else-read-clause-only c =
    let got = c.get-got.result in
    only_on IsGet c.args.seat.now c.get-got.new.seat c.read.new.seat (only_get c.args.shared.now.layout c.args.seat.now c.get-got.new.seat c.args.cell got.version got.value c.get-got.ensures.made) c.read.ensures.only

pub returns-else-read-clause-disturbed : goal.returns-else-read-clause-disturbed
returns-else-read-clause-disturbed c =
    let layout = c.args.shared.now.layout in
    let got = c.get-got.result in
    let object = c.unwrap_or-object.result in
    let e : object ≡ named got.value = c.unwrap_or-object.ensures ∙ named_is got.value in
    let some : object ≢ 0 = c.if-object-eq0.false in
    disturbed layout c.args.seat.now c.get-got.new.seat c.read.new.seat c.args.cell got.version object (length c.args.words.now) got.value e some c.get-got.ensures.made (c.read.ensures.lost c.if-read.false)
