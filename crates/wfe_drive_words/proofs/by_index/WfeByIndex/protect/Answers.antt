-- The protection from its own first step.
use Rattle.std.proofs.Common.{sym}
use Rattle.wfe_core.specs.words.declared.config.SchemeKind.TheVariants.{Wfe}
use Rattle.wfe_drive_words.proofs.Beginnings.{first_of, fits_more, used_under}
use Rattle.wfe_drive_words.proofs.Leading.{here_as, leads_from}
use Rattle.wfe_drive_words.proofs.by_index.WfeByIndex.protect.Goals as goal

pub protect_wfe-requires-clause-here : goal.protect_wfe-requires-clause-here
protect_wfe-requires-clause-here g c =
    let (t, h) = c.requires.here in
    (t, here_as _ _ (first_of Wfe t c.args.index c.args.root c.args.post.now c.requires.scheme) h)

pub returns-clause-leads : goal.returns-clause-leads
returns-clause-leads g c = λ t h.
    let is = first_of Wfe t c.args.index c.args.root c.args.post.now c.requires.scheme in
    let (n, x) = c.protect_wfe.ensures.leads t (here_as _ _ is h) in
    (n, leads_from _ _ (sym is) x)

pub returns-clause-fits : goal.returns-clause-fits
returns-clause-fits g c = fits_more c.args.post.now c.protect_wfe.result c.protect_wfe.ensures.fits

pub returns-clause-used : goal.returns-clause-used
returns-clause-used g c = used_under c.args.post.now.layout.config.scheme c.protect_wfe.result c.requires.scheme
