use Rattle.std.proofs.Common.{List, ap, rules, ◌≡◌, Err}
use Rattle.wfe_server_out.proofs.Emits.{emits_fault, emits_more, emits_of, emits_then}
use Rattle.wfe_server_out.specs.declared.fault.Fault.TheVariants as faults
use Rattle.wfe_server_lines.specs.Scripted.{lists_in}
use Rattle.wfe_server.specs.Text.{seat_pieces}
use Rattle.wfe_server.proofs.Reports.{text_fails, text_put}
use Rattle.wfe_server.proofs.report.put_run.Goals as goal

pub returns-in_err-put_setting : goal.returns-in_err-put_setting
returns-in_err-put_setting g c =
    let came : c.from_residual.result ≡ Err faults.Write = search rules in
    emits_fault came (emits_more _ (text_fails c.in_err-put_setting.ensures))

pub returns-in_err-tell_seats : goal.returns-in_err-tell_seats
returns-in_err-tell_seats g c =
    emits_fault (search rules) (emits_then (text_put c.in_ok-put_setting.ensures) (emits_more _ (emits_of (ap (λ (seats : List _). seat_pieces 0 (lists_in seats)) c.as_slice.ensures.value) c.in_err-tell_seats.ensures)))

pub returns-in_err-put_closed : goal.returns-in_err-put_closed
returns-in_err-put_closed g c =
    let came : c.from_residual-in_err-put_closed.result ≡ Err faults.Write = search rules in
    emits_fault came (emits_then (text_put c.in_ok-put_setting.ensures) (emits_then (emits_of (ap (λ (seats : List _). seat_pieces 0 (lists_in seats)) c.as_slice.ensures.value) c.in_ok-tell_seats.ensures) (text_fails c.in_err-put_closed.ensures)))

pub returns : goal.returns
returns g c =
    emits_then (text_put c.in_ok-put_setting.ensures) (emits_then (emits_of (ap (λ (seats : List _). seat_pieces 0 (lists_in seats)) c.as_slice.ensures.value) c.in_ok-tell_seats.ensures) (text_put c.in_ok-put_closed.ensures))
