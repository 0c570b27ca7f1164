use Rattle.wfe_draw.proofs.record.close.Goals as goal

pub returns-in-Ok-close : goal.returns-in-Ok-close
returns-in-Ok-close c last taken h =
    let (p, whole, shows) = c.in-Ok.ensures last taken h in
    (p, whole, c.in-Ok-close.ensures p shows)
