use Rattle.std.proofs.Common.{◌∙◌, sym}
use Rattle.wfe_check.proofs.Ranges.{range_of}
use Rattle.wfe_check.proofs.Tests.{both, two}
use Rattle.wfe_check.proofs.checker.Checker.fits_standing.Goals as goal

pub returns-clause-there : goal.returns-clause-there
returns-clause-there c config p shows holds =
    let range = range_of c.args.self.now c.args.seat c.args.event.now c.requires.may config p shows in
    let (one, other) = two _ _ (sym c.both-3.ensures ∙ holds) in
    let (reuse, links) = two _ _ (sym c.both.ensures ∙ one) in
    let (behind, got) = two _ _ (sym c.both-2.ensures ∙ other) in
    record {
      reuse = (c.reuses_none-reuse.ensures config p shows.protections).0 reuse;
      links = sym (c.links_right-links.ensures config p shows.protections shows.rows range (c.began-began.ensures config p shows.calls)) ∙ links;
      behind = sym (c.is_behind-behind.ensures config p shows) ∙ behind;
      gots = sym (c.has_got-got.ensures config p shows) ∙ got;
    }

pub returns-clause-back : goal.returns-clause-back
returns-clause-back c config p shows fits =
    let range = range_of c.args.self.now c.args.seat c.args.event.now c.requires.may config p shows in
    c.both-3.ensures
    ∙ both _ _
    (c.both.ensures ∙ both _ _ ((c.reuses_none-reuse.ensures config p shows.protections).1 fits.reuse)
    (c.links_right-links.ensures config p shows.protections shows.rows range (c.began-began.ensures config p shows.calls) ∙ fits.links))
    (c.both-2.ensures ∙ both _ _ (c.is_behind-behind.ensures config p shows ∙ fits.behind) (c.has_got-got.ensures config p shows ∙ fits.gots))
