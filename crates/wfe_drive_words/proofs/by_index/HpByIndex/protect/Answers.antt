-- The protection from its own first step.
use Rattle.std.proofs.Common.{sym}
use Rattle.wfe_core.specs.words.declared.config.SchemeKind.TheVariants.{Hp}
use Rattle.wfe_drive_words.specs.Path.{asks_from}
use Rattle.wfe_drive_words.proofs.Beginnings.{first_of}
use Rattle.wfe_drive_words.proofs.Leading.{here_as, leads_from}
use Rattle.wfe_drive_words.proofs.by_index.HpByIndex.protect.Goals as goal

pub protect_hp-requires-clause-here : goal.protect_hp-requires-clause-here
protect_hp-requires-clause-here g c =
    let (t, h) = c.requires.here in
    (asks_from t, here_as _ _ (first_of Hp t c.args.index c.args.root c.args.post.now c.requires.scheme) h)

pub returns-clause-leads : goal.returns-clause-leads
returns-clause-leads g c = λ t h.
    let is = first_of Hp t c.args.index c.args.root c.args.post.now c.requires.scheme in
    let (n, x) = c.protect_hp.ensures.leads (asks_from t) (here_as _ _ is h) in
    (n, leads_from _ _ (sym is) x)
