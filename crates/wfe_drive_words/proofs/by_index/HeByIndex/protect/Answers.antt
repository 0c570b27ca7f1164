-- The protection from its own first step.
use Rattle.std.proofs.Common.{sym}
use Rattle.wfe_core.specs.words.declared.config.SchemeKind.TheVariants.{He}
use Rattle.wfe_drive_words.specs.Path.{asks_from}
use Rattle.wfe_drive_words.proofs.Beginnings.{first_of}
use Rattle.wfe_drive_words.proofs.Leading.{here_as, leads_from}
use Rattle.wfe_drive_words.proofs.by_index.HeByIndex.protect.Goals as goal

pub protect_he-requires-clause-here : goal.protect_he-requires-clause-here
protect_he-requires-clause-here g c =
    let (t, h) = c.requires.here in
    (asks_from t, here_as _ _ (first_of He t c.args.index c.args.root c.args.post.now c.requires.scheme) h)

pub returns-clause-leads : goal.returns-clause-leads
returns-clause-leads g c = λ t h.
    let is = first_of He t c.args.index c.args.root c.args.post.now c.requires.scheme in
    let (n, x) = c.protect_he.ensures.leads (asks_from t) (here_as _ _ is h) in
    (n, leads_from _ _ (sym is) x)
