use Rattle.wfe_draw_lives.proofs.rows.Rows.scan.Goals as goal

pub loop-place-preserved : goal.loop-place-preserved
loop-place-preserved c = λ p lived. c.scan_one.ensures p (c.loop-place.invariant p lived)
