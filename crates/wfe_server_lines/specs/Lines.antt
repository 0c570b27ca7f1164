-- The lines of a closed table.
use Rattle.std.specs.Prelude.{List, [], codes, if◌then◌else◌, ℕ, ◌+◌, ◌++◌, ◌==◌, ◌∷◌}
use Rattle.std.specs.Fmt.{decimal}
use Rattle.laws.specs.StructuresAt.{Filling}
use Rattle.wfe_core.specs.defs.Pairs.{Pair}
use Rattle.wfe_trace.specs.Record.{line_of}

-- keys with their values
abbrev pub pair_words : List Pair → List (List ℕ)
pair_words [] = []
pair_words (pair ∷ pairs) = decimal pair.0 ∷ decimal pair.1 ∷ pair_words pairs

-- a bucket with its version and its pairs
abbrev pub bucket_line : ℕ → Filling → List ℕ
bucket_line bucket row = line_of (codes "bucket") (decimal bucket ∷ decimal row.version ∷ pair_words row.pairs)

-- one that was never changed has no line
abbrev pub bucket_text : ℕ → Filling → List ℕ
bucket_text bucket row = if row.version == 0 then [] else bucket_line bucket row

-- the buckets from this one on
abbrev pub bucket_lines : ℕ → List Filling → List ℕ
bucket_lines bucket [] = []
bucket_lines bucket (row ∷ rows) = bucket_text bucket row ++ bucket_lines (bucket + 1) rows

-- a number and a value that are left in the queue
abbrev pub queue_line : ℕ → ℕ → List ℕ
queue_line number value = line_of (codes "queue") (decimal number ∷ decimal value ∷ [])

abbrev pub queue_lines : List (ℕ × ℕ) → List ℕ
queue_lines [] = []
queue_lines (item ∷ items) = queue_line item.0 item.1 ++ queue_lines items

-- a row that is taken still
abbrev pub used_line : ℕ → List ℕ
used_line slot = line_of (codes "used") (decimal slot ∷ [])

abbrev pub used_lines : List ℕ → List ℕ
used_lines [] = []
used_lines (slot ∷ slots) = used_line slot ++ used_lines slots
