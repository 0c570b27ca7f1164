-- So far the first words have the values with which they start, each at its spot.
use Rattle.std.proofs.Common.{length, slice_index, ℕ, ◌<◌, ◌≡◌}
use Rattle.wfe_core.specs.words.Place.{start_at}
use Rattle.wfe_drive_cells.specs.Spots.{spot}
use Rattle.wfe_drive_rule.specs.Spots.{spots}
use Rattle.wfe_drive_rule.proofs.block.start_block.Given as goal

abbrev pub invariant-loop-word : goal.invariant-loop-word
invariant-loop-word l = record {
  count : length l.block.items ≡ spots l.layout;
  starts : (word : ℕ) → word < l.word → slice_index l.block.items (spot l.layout word) ≡ start_at l.layout word;
}
