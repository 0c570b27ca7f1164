-- Words that are read are words of the table, and the model's memory.
use Rattle.std.proofs.Common.{List, arith, sym, true, ℕ, ◌*◌, ◌+◌, ◌/◌, ◌<◌, ◌≡◌}
use Rattle.std.proofs.lemmas.Bool.Decides.{nat_tests}
use Rattle.std.specs.Prelude.{length, slice_index}
use Rattle.wfe_core.specs.words.Place.{Place, claim_word, claim_words, has, number, row_count}
use Rattle.wfe_core.specs.words.Place.Place.{Bucket, Claim, Row}
use Rattle.wfe_core.specs.words.declared.layout.Layout.{Layout}
use Rattle.wfe_core.proofs.words.Numbers.{number_below}
use Rattle.wfe_core.proofs.Facts.{lt_test}
use Rattle.wfe_drive_cells.specs.Memory.{memory}
use Rattle.wfe_drive_cells.proofs.Bridge.{memory-there}
use Rattle.wfe_table_end.specs.Contents.{IsWhole}

pub place_read : (layout : Layout) (list : List ℕ) (place : Place) → has layout place ≡ true → slice_index list (number layout place) ≡ memory layout list place
place_read layout list place h = sym (memory-there layout list place h)

pub place_within : (layout : Layout) (list : List ℕ) (place : Place) → IsWhole layout list → has layout place ≡ true → number layout place < length list
place_within layout list place w h = omega (arith, number_below layout place h, w.count)

pub row_there : (layout : Layout) (slot place : ℕ) → slot < row_count layout → place < 3 + 2 * layout.config.pairs → has layout (Row slot place) ≡ true
row_there layout slot place s p = grind (arith, nat_tests)

pub claim_there : (layout : Layout) (slot : ℕ) → slot < row_count layout → has layout (Claim (claim_word slot)) ≡ true
claim_there layout slot s = lt_test (slot / 64) (claim_words layout) (omega arith)

pub bucket_there : (layout : Layout) (bucket : ℕ) → bucket < layout.config.buckets → has layout (Bucket bucket) ≡ true
bucket_there layout bucket h = lt_test bucket layout.config.buckets h
