-- The round is over once index 0 is cleared.
use Rattle.wfe_core.specs.declared.post.Post.{Post}
use Rattle.wfe_core.specs.words.Schemes.{has_one_interval}
use Rattle.std.proofs.Common.{ap, sym, ◌∙◌, []}
use Rattle.wfe_core.specs.Calls.{Clears}
use Rattle.wfe_core.specs.Rounds.{closed, scheme_of}
use Rattle.wfe_drive_words.specs.drive_cells.Unit.{kept_desk, seat_after}
use Rattle.wfe_core.specs.Desks.{Desk}
use Rattle.wfe_drive_runs.proofs.Closing.{clears_is, closed_noted, closed_outcome, finishing_closed}
use Rattle.wfe_drive_words.proofs.Leading.{here_as}
use Rattle.wfe_drive_runs.proofs.Turning.{turns_as, turns_from, turns_same}
use Rattle.wfe_drive_runs.proofs.round_end.close.Goals as goal

pub clear-requires-clause-here : goal.clear-requires-clause-here
clear-requires-clause-here g c =
    let (task, next, desk, i, h) = c.requires.here in
    (Clears task next, desk, here_as _ _ (clears_is task next c.args.post.now desk i c.requires.clears) h)

pub returns-clause-turns : goal.returns-clause-turns
returns-clause-turns g c = λ task next desk i h.
    let is = clears_is task next c.args.post.now desk i c.requires.clears in
    let (told, quiet, x) = c.clear.ensures.turns (Clears task next) desk (here_as _ _ is h) in
    let post = c.clear.new.post in
    let same = closed_noted task next post (kept_desk desk) told ∙ ap (λ (d : Desk). seat_after (closed task next post d [])) quiet in
    turns_from _ _ (sym is) (turns_same _ _ same (closed_outcome task next post (kept_desk desk) (kept_desk desk) told) (turns_as _ _ (finishing_closed task next post (kept_desk desk) told (ap (λ (p : Post). has_one_interval (scheme_of p)) c.clear.ensures.post ∙ c.requires.clears)) x))
