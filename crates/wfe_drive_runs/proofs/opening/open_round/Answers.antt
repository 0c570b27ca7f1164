-- The round begins as the scheme has it.
use Rattle.std.proofs.Common.{ap, sym, ◌∙◌}
use Rattle.wfe_core.specs.words.declared.config.Config.{Config}
use Rattle.wfe_core.specs.Calls.{Opens}
use Rattle.wfe_drive_words.proofs.Beginnings.{clears_else}
use Rattle.wfe_drive_words.proofs.Leading.{here_as}
use Rattle.wfe_drive_runs.proofs.Followings.{room_as, so_from}
use Rattle.wfe_drive_runs.proofs.Rounding.{round_as}
use Rattle.wfe_drive_runs.proofs.Spanning.{free_without, spanned_without}
use Rattle.wfe_drive_runs.proofs.opening.open_round.Goals as goal

pub open_ibr-requires-clause-scheme : goal.open_ibr-requires-clause-scheme
open_ibr-requires-clause-scheme g c = ap (λ (config : Config). config.scheme) (sym c.config.ensures) ∙ c.in-Ibr.is

pub returns-in-Ibr-clause-room : goal.returns-in-Ibr-clause-room
returns-in-Ibr-clause-room g c = room_as c.open_ibr.ensures.layout c.requires.room

pub hold_by_index-requires-clause-clears : goal.hold_by_index-requires-clause-clears
hold_by_index-requires-clause-clears g c = clears_else c.args.post.now.layout.config c.config.result (sym c.config.ensures) c.in_default.not-Ibr

pub hold_by_index-requires-clause-here : goal.hold_by_index-requires-clause-here
hold_by_index-requires-clause-here g c =
    let clears = clears_else c.args.post.now.layout.config c.config.result (sym c.config.ensures) c.in_default.not-Ibr in
    let (task, p, h) = c.requires.here in
    (Opens task, here_as _ _ (round_as task c.args.root c.args.post.now c.args.desk.now clears p) h)

pub returns-in_default-clause-free : goal.returns-in_default-clause-free
returns-in_default-clause-free g c = free_without c.args.post.now c.hold_by_index.new.post c.hold_by_index.ensures.layout (clears_else c.args.post.now.layout.config c.config.result (sym c.config.ensures) c.in_default.not-Ibr)

pub returns-in_default-clause-spanned : goal.returns-in_default-clause-spanned
returns-in_default-clause-spanned g c = spanned_without c.args.post.now c.hold_by_index.new.post c.hold_by_index.ensures.layout (clears_else c.args.post.now.layout.config c.config.result (sym c.config.ensures) c.in_default.not-Ibr)

pub returns-in_default-clause-leads : goal.returns-in_default-clause-leads
returns-in_default-clause-leads g c = λ task p h.
    let clears = clears_else c.args.post.now.layout.config c.config.result (sym c.config.ensures) c.in_default.not-Ibr in
    let is = round_as task c.args.root c.args.post.now c.args.desk.now clears p in
    let (era, x) = c.hold_by_index.ensures.leads (Opens task) (here_as _ _ is h) in
    (era, so_from _ _ (sym is) x)
