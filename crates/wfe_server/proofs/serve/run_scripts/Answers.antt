use Rattle.std.proofs.Common.{arith, inl}
use Rattle.std.proofs.lemmas.List.{length-map}
use Rattle.wfe_table.specs.Closing.{closing_of}
use Rattle.wfe_server_lines.specs.Scripted.{lists_in}
use Rattle.wfe_server.proofs.Coming.{run_few}
use Rattle.wfe_server.proofs.Running.{printed_by}
use Rattle.wfe_server.proofs.serve.run_scripts.Goals as goal

pub print_run-requires-clause-few : goal.print_run-requires-clause-few
print_run-requires-clause-few g c =
    let vectors = c.in-Ok.record.seats.items in
    omega (arith, length-map vectors (λ v. v.items), run_few _ _ (lists_in vectors) _ c.in-Ok.ensures.comes)

pub returns-clause-made : goal.returns-clause-made
returns-clause-made g c =
    let parts = c.parts-version in
    inl
    (printed_by _ c.print_run.result _ _ _ c.args.scripts parts.result.0 parts.result.1 (lists_in parts.result.2.items) (lists_in c.in-Ok.record.seats.items) (closing_of c.in-Ok.record.closed) parts.ensures.version parts.ensures.config.0 parts.ensures.calls.0
    c.in-Ok.ensures.comes c.print_run.ensures.prints)
