use Rattle.std.proofs.Common.{◌≡◌, ◌++◌, ◌∷◌, [], true, is_ok, not, ap, ◌∙◌}
use Rattle.wfe_check_calls.proofs.SeatsAfter.{fresh_push}
use Rattle.wfe_check_calls.proofs.seat.new_seats.Goals as goal

pub loop-preserved : goal.loop-preserved
loop-preserved c =
    let done : is_ok c.push.result ≡ true = c.is_err.ensures.negation ∙ ap not c.if-is_err.false in
    let items : c.push.new.self.items ≡ c.loop.all.items ++ c.new.result ∷ [] = rw done at c.push.ensures.items in
    rw items (fresh_push c.loop.counter c.loop.all.items c.new.result c.loop.invariant c.new.ensures)
