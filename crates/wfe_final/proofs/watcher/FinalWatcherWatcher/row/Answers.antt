-- The row of a call.
use Rattle.std.proofs.Common.{ap, arith, get_or, sym, ℕ, ◌+◌, ◌≡◌, ◌∙◌}
use Rattle.std.proofs.lemmas.Option.{get_or_from_slice_get}
use Rattle.wfe_outside.specs.declared.watcher.WatchRow.{WatchRow}
use Rattle.wfe_final.specs.Watching.{Watching}
use Rattle.wfe_final.proofs.watcher.FinalWatcherWatcher.row.Goals as goal

pub overflow_add-result : goal.overflow_add-result
overflow_add-result g c = omega (arith, c.rows-rows.type_inv, c.rows-rows.ensures, c.requires)

pub returns : goal.returns
returns g c =
    let call : get_or c.args.self.now.calls c.args.place (0, 0) ≡ c.get-id.result =
    ap (λ (w : Watching). get_or w.calls c.args.place (0, 0)) (sym c.self.view_is)
    ∙ get_or_from_slice_get c.self.inside.ledger.calls c.args.place c.get-id.result (0, 0) c.get-id.ensures in
    ap (λ (b : ℕ). let row : WatchRow = record { a = c.get-id.result.0; b = b; c = c.args.place + 1 } in row) c.into.ensures
    ∙ ap (λ (x : ℕ × ℕ). let row : WatchRow = record { a = x.0; b = x.1; c = c.args.place + 1 } in row) (sym call)
