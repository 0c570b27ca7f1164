use Rattle.std.proofs.Common.{inl, inr, rules}
use Rattle.std.proofs.KnownBytes.{Keeps-refl}
use Rattle.wfe_outside.specs.defs.Entry.{entry}
use Rattle.wfe_server_out.proofs.Puts.{puts_told_some}
use Rattle.wfe_server_out.proofs.Texts.{on_err}
use Rattle.wfe_server_out.proofs.telling.tell.Goals as goal

pub returns-in_err-tell_watchers-clause-emits : goal.returns-in_err-tell_watchers-clause-emits
returns-in_err-tell_watchers-clause-emits g c = record {
  put = search rules;
  some = on_err c.from_residual.result (puts_told_some _ _ _ _ _ (entry c.args.seat c.args.event.now) (inl (Keeps-refl _, c.in_err-tell_watchers.ensures.some)));
  later = search rules;
  cause = search rules;
}

pub returns-in_err-put_event-clause-emits : goal.returns-in_err-put_event-clause-emits
returns-in_err-put_event-clause-emits g c = record {
  put = search rules;
  some = on_err c.from_residual-in_err-put_event.result (puts_told_some _ _ _ _ _ (entry c.args.seat c.args.event.now) (inr (c.in_err-put_event.ensures.some, c.in_ok-tell_watchers.ensures.ok)));
  later = search rules;
  cause = search rules;
}
