use Rattle.std.proofs.Common.{◌∙◌, sym}
use Rattle.wfe_check_held.proofs.Rights.{reuses_is}
use Rattle.wfe_check_held.proofs.protections.Protections.reuses_none.Goals as goal

pub returns : goal.returns
returns c config p r =
    let whole = reuses_is config c.args.self.now p c.args.seat c.args.event.now r in
    ((λ h. whole.0 (sym c.reuses.ensures ∙ h)), (λ h. c.reuses.ensures ∙ whole.1 h))
