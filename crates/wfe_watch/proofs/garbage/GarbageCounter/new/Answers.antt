use Rattle.std.proofs.Common.{◌≡◌, ℕ, [], length, sym, ap, ◌∙◌, arith}
use Rattle.wfe_watch.specs.Garbage.{garbage_rows}
use Rattle.wfe_watch.proofs.GarbageLemmas.{length-garbage_rows}
use Rattle.wfe_watch.proofs.garbage.GarbageCounter.new.Goals as goal

pub returns-clause-seats : goal.returns-clause-seats
returns-clause-seats c =
    let made : length c.loop-seat.rows.items ≡ c.loop-seat.seat = ap length c.loop-seat.invariant ∙ length-garbage_rows c.loop-seat.seat [] in
    omega arith

pub returns-clause-counted : goal.returns-clause-counted
returns-clause-counted c =
    let made : length c.loop-seat.rows.items ≡ c.loop-seat.seat = ap length c.loop-seat.invariant ∙ length-garbage_rows c.loop-seat.seat [] in
    c.loop-seat.invariant ∙ ap (λ (n : ℕ). garbage_rows n []) (sym made)
