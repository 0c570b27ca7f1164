-- A list of words as the memory of the model, by place.
use Rattle.std.specs.Prelude.{List, if◌then◌else◌, length, slice_index, ℕ, ◌<◌, ◌≡◌, ◌^◌}
use Rattle.wfe_core.specs.words.Place.{Place, has, number, start_at, words}
use Rattle.wfe_core.specs.words.declared.layout.Layout.{Layout}

-- the word of a place is that of its number; a place that there is not reads 0
abbrev pub memory : Layout → List ℕ → Place → ℕ
memory layout list place = if has layout place then slice_index list (number layout place) else 0

-- the list has the words of a table, each as it starts, and no others
pub record HoldsStart (layout : Layout) (list : List ℕ) : Type 0 where
  pub count : length list ≡ words layout
  pub starts : (word : ℕ) → word < words layout → slice_index list word ≡ start_at layout word

-- the word of each place has 64 bits
abbrev pub AreNarrow : (Place → ℕ) → Type 0
AreNarrow mem = (place : Place) → mem place < 2 ^ 64
