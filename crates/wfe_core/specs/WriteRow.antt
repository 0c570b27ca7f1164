-- Write a row: a map row's version, count and pairs from place 1 on, a queue row's next link, number and value.
use Rattle.std.specs.Prelude.{ℕ, ◌==◌, ◌+◌, ◌-◌, ◌*◌, ◌/◌, ◌%◌, if◌then◌else◌, List, [], length, slice_index_or}
use Rattle.wfe_defs.specs.Pairs.{Pair}
use Rattle.wfe_core.specs.declared.post.Post.{Post}
use Rattle.wfe_core.specs.Phases.{RowOf, MapRow, QueueRow, Base, Turn, goes, ends}
use Rattle.wfe_core.specs.Phases.Base.{Write}
use Rattle.wfe_core.specs.Phases.Ending.{Done}

-- the key or the value of a pair
abbrev pub side_of : Pair → ℕ → ℕ
side_of pair side = if side == 0 then pair.0 else pair.1

-- the word at a place of a map row from place 3 on: keys and values take turns
abbrev pub pair_word : List Pair → ℕ → ℕ
pair_word pairs place = side_of (slice_index_or pairs ((place - 3) / 2) (0, 0)) ((place - 3) % 2)

-- the word at a place of a row
abbrev pub row_word : RowOf → ℕ → ℕ
row_word (MapRow version pairs) place =
    if place == 1 then version
    else if place == 2 then length pairs
    else pair_word pairs place
row_word (QueueRow number value) place =
    if place == 0 then 0
    else if place == 1 then number
    else value

-- the places at which writing begins and ends
abbrev pub first_written : RowOf → ℕ
first_written (MapRow version pairs) = 1
first_written (QueueRow number value) = 0

abbrev pub last_written : RowOf → ℕ
last_written (MapRow version pairs) = 2 + 2 * length pairs
last_written (QueueRow number value) = 2

-- the first store of a row
abbrev pub writing : ℕ → RowOf → Base
writing slot row = Write slot row (first_written row)

-- Store the word of a place.
abbrev pub after_write : ℕ → RowOf → ℕ → Post → Turn
after_write slot row place post =
    if place == last_written row then ends post [] Done else goes post [] (Write slot row (place + 1))
