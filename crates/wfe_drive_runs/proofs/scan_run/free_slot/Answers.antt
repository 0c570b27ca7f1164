-- Claim words lie side by side.
use Rattle.std.proofs.Common.{arith, ◌≤◌}
use Rattle.wfe_drive_words.proofs.drive_cells.Lying.{claim_dense}
use Rattle.wfe_core.specs.words.Place.{claim_word}
use Rattle.wfe_drive_runs.proofs.scan_run.free_slot.Goals as goal

pub dense-requires-clause-from : goal.dense-requires-clause-from
dense-requires-clause-from c = omega (arith, claim_dense c.args.post.now.layout (claim_word c.args.slot), c.claim-word.ensures)
