use Rattle.std.proofs.Common.{rules, ◌≡◌, Err, sym}
use Rattle.wfe_server_out.proofs.Emits.{emits_of, emits_then, emits_within}
use Rattle.wfe_server_out.proofs.Texts.{told_pieces-more, told_pieces-split, if_err}
use Rattle.wfe_server_out.proofs.Stops.{fails_to_write, fails_to_tell, split_after}
use Rattle.wfe_server_out.proofs.telling.tell_all.Goals as goal

pub returns-in_err-tell-clause-emits : goal.returns-in_err-tell-clause-emits
returns-in_err-tell-clause-emits g c =
    emits_within _ (search rules) (split_after _ _ _ _ (told_pieces-split c.args.seat c.args.told.now c.loop-place.place c.get.result.now c.get.ensures)) c.loop-place.invariant c.in_err-tell.ensures.emits

pub returns-in_err-tell-clause-heard_before : goal.returns-in_err-tell-clause-heard_before
returns-in_err-tell-clause-heard_before g c =
    let came : c.from_residual.result ≡ Err c.in_err-tell.field-0.0 = search rules in
    if_err _ c.from_residual.result c.in_err-tell.field-0.0 came (λ at_write.
    fails_to_write _ _ _ _ _ _ _ _ _ _ _ (told_pieces-split c.args.seat c.args.told.now c.loop-place.place c.get.result.now c.get.ensures)
    c.loop-place.invariant.put c.in_err-tell.ensures.emits.some (c.in_err-tell.ensures.heard_before at_write))

pub returns-in_err-tell-clause-unwritten : goal.returns-in_err-tell-clause-unwritten
returns-in_err-tell-clause-unwritten g c =
    let came : c.from_residual.result ≡ Err c.in_err-tell.field-0.0 = search rules in
    if_err _ c.from_residual.result c.in_err-tell.field-0.0 came (λ at_memory.
    fails_to_tell _ _ _ _ _ _ _ _ _ _ _ (told_pieces-split c.args.seat c.args.told.now c.loop-place.place c.get.result.now c.get.ensures)
    c.loop-place.invariant.put c.in_err-tell.ensures.emits.some (c.in_err-tell.ensures.unwritten at_memory))

pub loop-place-preserved : goal.loop-place-preserved
loop-place-preserved g c = emits_of (sym (told_pieces-more c.args.seat c.args.told.now c.loop-place.place c.get.result.now c.get.ensures)) (emits_then c.loop-place.invariant c.in_ok-tell.ensures.emits)
