use Rattle.std.proofs.Common.{append-nil, refl, rules, sym, Err, ◌≡◌, ◌∙◌}
use Rattle.wfe_server_out.specs.declared.fault.Fault.TheVariants as faults
use Rattle.wfe_server_out.proofs.Emits.{emits_text}
use Rattle.wfe_server_out.proofs.Puts.{puts_some_none}
use Rattle.wfe_server_out.proofs.Texts.{on_err}
use Rattle.wfe_server_out.proofs.Written.{writes_fault, writes_of}
use Rattle.wfe_server_replay.proofs.progress.Work.open.Goals as goal

pub returns-in_err-open-clause-emits : goal.returns-in_err-open-clause-emits
returns-in_err-open-clause-emits g c = record {
  put = search rules;
  some = on_err c.from_residual.result (puts_some_none _ _ _ _);
  later = search rules;
  cause = search rules;
}

pub returns-in_err-put_line-clause-emits : goal.returns-in_err-put_line-clause-emits
returns-in_err-put_line-clause-emits g c =
    let came : c.from_residual-in_err-put_line.result ≡ Err faults.Write = search rules in
    emits_text refl (writes_fault came (writes_of (c.print_header.ensures.text ∙ sym (append-nil _)) c.in_err-put_line.ensures))
