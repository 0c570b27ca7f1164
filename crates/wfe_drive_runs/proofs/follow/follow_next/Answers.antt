-- The protection is the scheme's.
use Rattle.std.proofs.Common.{ap, sym, ◌∙◌, ◌≡◌}
use Rattle.wfe_core.specs.words.Schemes.{has_one_interval}
use Rattle.wfe_core.specs.words.declared.config.Config.{Config}
use Rattle.wfe_core.specs.words.declared.config.SchemeKind.{SchemeKind}
use Rattle.wfe_core.specs.words.declared.config.SchemeKind.TheVariants.{Ibr}
use Rattle.wfe_core.specs.Calls.{Runs}
use Rattle.wfe_core.specs.Dequeue.{follow_base}
use Rattle.wfe_drive_words.specs.Called.{at_phase}
use Rattle.wfe_drive_runs.proofs.Followings.{room_as, so_from}
use Rattle.wfe_drive_runs.proofs.Spanning.{free_kept, free_without}
use Rattle.wfe_drive_words.proofs.Beginnings.{clears_else}
use Rattle.wfe_drive_words.proofs.Leading.{here_as}
use Rattle.wfe_drive_runs.proofs.follow.follow_next.Goals as goal

pub follow_ibr-requires-clause-scheme : goal.follow_ibr-requires-clause-scheme
follow_ibr-requires-clause-scheme g c = ap (λ (config : Config). config.scheme) (sym c.config.ensures) ∙ c.in-Ibr.is

pub follow_ibr-requires-clause-span : goal.follow_ibr-requires-clause-span
follow_ibr-requires-clause-span g c = c.requires.spanned (ap has_one_interval (ap (λ (config : Config). config.scheme) (sym c.config.ensures) ∙ c.in-Ibr.is))

pub follow_ibr-requires-clause-here : goal.follow_ibr-requires-clause-here
follow_ibr-requires-clause-here g c =
    let kind : c.args.post.now.layout.config.scheme ≡ Ibr = ap (λ (config : Config). config.scheme) (sym c.config.ensures) ∙ c.in-Ibr.is in
    let (why, h) = c.requires.here in
    (why, here_as _ _ (ap (λ (scheme : SchemeKind). at_phase (Runs why (follow_base scheme c.args.parent)) c.args.post.now c.args.desk.now) kind) h)

pub returns-in-Ibr-clause-room : goal.returns-in-Ibr-clause-room
returns-in-Ibr-clause-room g c = room_as c.follow_ibr.ensures.layout c.requires.room

pub returns-in-Ibr-clause-free : goal.returns-in-Ibr-clause-free
returns-in-Ibr-clause-free g c = free_kept c.args.post.now c.follow_ibr.new.post c.follow_ibr.ensures.layout c.follow_ibr.ensures.kept c.requires.free

pub returns-in-Ibr-clause-leads : goal.returns-in-Ibr-clause-leads
returns-in-Ibr-clause-leads g c = λ why h.
    let kind : c.args.post.now.layout.config.scheme ≡ Ibr = ap (λ (config : Config). config.scheme) (sym c.config.ensures) ∙ c.in-Ibr.is in
    let is = ap (λ (scheme : SchemeKind). at_phase (Runs why (follow_base scheme c.args.parent)) c.args.post.now c.args.desk.now) kind in
    so_from _ _ (sym is) (c.follow_ibr.ensures.leads why (here_as _ _ is h))

pub follow_by_index-requires-clause-clears : goal.follow_by_index-requires-clause-clears
follow_by_index-requires-clause-clears g c = clears_else c.args.post.now.layout.config c.config.result (sym c.config.ensures) c.in_default.not-Ibr

pub returns-in_default-clause-free : goal.returns-in_default-clause-free
returns-in_default-clause-free g c = free_without c.args.post.now c.follow_by_index.new.post c.follow_by_index.ensures.layout (clears_else c.args.post.now.layout.config c.config.result (sym c.config.ensures) c.in_default.not-Ibr)
