-- The link was null, or its row is read.
use Rattle.std.proofs.Common.{sym, ◌∙◌}
use Rattle.wfe_drive_words.specs.Path.{held_reader}
use Rattle.wfe_drive_words.proofs.Endings.{found_ends, null_ends}
use Rattle.wfe_drive_words.proofs.Getting.{held_row, layout_stays}
use Rattle.wfe_drive_words.proofs.Leading.{here_as, leads_as, leads_from, leads_none}
use Rattle.wfe_drive_words.proofs.get_span.find_within.Goals as goal

pub returns-then-link-eq0-clause-leads : goal.returns-then-link-eq0-clause-leads
returns-then-link-eq0-clause-leads g c = λ p desk bucket n era steps e kind free h.
    leads_as _ _ (null_ends c.args.key p bucket c.args.link n era desk steps kind free c.if-link-eq0.true) (leads_none (g.W.Words.at c.args.words.now) (g.W.Words.stands c.args.words.now) _)

pub find-requires-clause-here : goal.find-requires-clause-here
find-requires-clause-here g c =
    let (p, e, desk, bucket, n, era, steps, h) = c.requires.here in
    (held_reader p bucket c.args.link desk steps, layout_stays p bucket c.args.link desk steps ∙ e, here_as _ _ (held_row c.args.key p bucket c.args.link n era desk steps c.if-link-eq0.false) h)

pub returns-clause-leads : goal.returns-clause-leads
returns-clause-leads g c = λ p desk bucket n era steps e kind free h.
    let row = held_row c.args.key p bucket c.args.link n era desk steps c.if-link-eq0.false in
    leads_from _ _ (sym row)
    (leads_as _ _ (found_ends c.args.key p bucket c.args.link desk steps c.find.result kind free)
    (c.find.ensures.leads (held_reader p bucket c.args.link desk steps) (layout_stays p bucket c.args.link desk steps ∙ e) (here_as _ _ row h)))
