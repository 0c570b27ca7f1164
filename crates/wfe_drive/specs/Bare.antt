-- A table as it would be if no seat had left: each place word reads 0. Calls of seats that stay read and write no other word
-- than they would there.
use Rattle.std.specs.Prelude.{Bool, List, false, if◌then◌else◌, length, map, slice_index, true, ℕ}
use Rattle.std.specs.List.{range_with_len}
use Rattle.wfe_core.specs.words.Place.{Place, place_at}
use Rattle.wfe_core.specs.words.Place.Place.{PlaceOf}
use Rattle.wfe_core.specs.words.declared.layout.Layout.{Layout}
use Rattle.wfe_drive_cells.specs.Unit.{TableView}

-- the place of a seat
abbrev pub is_of_seat : Place → Bool
is_of_seat (PlaceOf seat) = true
is_of_seat place = false

-- the word of this number is the place word of a seat
abbrev pub is_place : Layout → ℕ → Bool
is_place layout word = is_of_seat (place_at layout word)

abbrev pub bare_word : Layout → List ℕ → ℕ → ℕ
bare_word layout list word = if is_place layout word then 0 else slice_index list word

abbrev pub bare_words : Layout → List ℕ → List ℕ
bare_words layout list = map (bare_word layout list) (range_with_len 0 (length list))

abbrev pub bare : TableView → TableView
bare table = record { layout = table.layout; words = bare_words table.layout table.words; seats = table.seats }
