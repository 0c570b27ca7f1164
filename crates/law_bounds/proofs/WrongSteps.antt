-- The wrong records are refused, each by the sentence that it breaks.
use Rattle.std.proofs.Common.{arith, refl}
use Rattle.law_held.proofs.inv.model.Facts.{no_truth}
use Rattle.law_bounds.specs.WrongSteps.{ChangesRefused, LeavesRefused, ReadsRefused, TailsRefused, WrongRefused}
use Rattle.law_bounds.proofs.Free.Idle.{idle_refused, swings_refused}

reads : ReadsRefused
reads = record {
  get = record { refused = λ h. no_truth h; taken = refl; lawful = refl };
  get_within = record { refused = λ h. no_truth h; taken = refl; lawful = refl };
  get_hazard = record { refused = λ h. no_truth h; taken = refl; lawful = refl };
  hold = record { refused = λ h. no_truth h; taken = refl; lawful = refl };
  hold_hazard = record { refused = λ h. no_truth h; taken = refl; lawful = refl };
  moved = record { refused = λ h. no_truth h; taken = refl; lawful = refl };
  moved_hazard = record { refused = λ h. no_truth h; taken = refl; lawful = refl };
  changed = record { refused = λ h. no_truth h; taken = refl; lawful = refl };
  changed_hazard = record { refused = λ h. no_truth h; taken = refl; lawful = refl };
  other_hazard = record { refused = λ h. no_truth h; taken = refl; lawful = refl };
}

changes : ChangesRefused
changes = record {
  put = record { refused = λ h. no_truth h; taken = refl; lawful = refl };
  put_hazard = record { refused = λ h. no_truth h; taken = refl; lawful = refl };
  moved = record { refused = λ h. no_truth h; taken = refl; lawful = refl };
  changed = record { refused = λ h. no_truth h; taken = refl; lawful = refl };
  removed = record { refused = λ h. no_truth h; taken = refl; lawful = refl };
  other = record { refused = λ h. no_truth h; taken = refl; lawful = refl };
  queue = record { refused = λ h. no_truth h; taken = refl; lawful = refl };
  queued = record { refused = λ h. no_truth h; taken = refl; lawful = refl };
  taken = record { refused = λ h. no_truth h; taken = refl; lawful = refl };
}

leaves : LeavesRefused
leaves = record {
  none = record { refused = λ h. no_truth h; taken = refl; lawful = refl };
  none_hazard = record { refused = λ h. no_truth h; taken = refl; lawful = refl };
  row = record { refused = λ h. no_truth h; taken = refl; lawful = refl };
  within = record { refused = λ h. no_truth h; taken = refl; lawful = refl };
}

tails : TailsRefused
tails = record {
  two_behind = λ h. absurd (let a = h.high in omega (arith, a));
  ahead = λ h. absurd (let a = h.low in omega (arith, a));
  taken = record { low = omega arith; high = omega arith };
}

pub wrong_refused : WrongRefused
wrong_refused = record { reads = reads; changes = changes; leaves = leaves; tails = tails; idle = idle_refused; swings = swings_refused }
