-- The buckets so far are queued, once, and the others not.
use Rattle.std.proofs.Common.{ℕ, ◌+◌, ◌<◌, ◌≡◌, ◌≤◌}
use Rattle.wfe_table.specs.Public.{IsOf}
use Rattle.wfe_cells.specs.Reasons.{queues, takes}
use Rattle.wfe_cells.proofs.blocks.offer.Given as goal

abbrev pub invariant-loop-block : goal.invariant-loop-block
invariant-loop-block l = record {
  of : IsOf l.seat l.shared;
  least : l.first ≤ l.block;
  most : l.block ≤ l.end;
  done : (block : ℕ) → l.first ≤ block → block < l.block → queues block l.seat ≡ queues block l.fn.seat + 1;
  before : (block : ℕ) → block < l.first → queues block l.seat ≡ queues block l.fn.seat;
  left : (block : ℕ) → l.block ≤ block → queues block l.seat ≡ queues block l.fn.seat;
  takes : (block : ℕ) → takes block l.seat ≡ takes block l.fn.seat;
}
