-- What words by number owe to words by place.
use Rattle.std.specs.Prelude.{List, length, slice_index, true, ℕ, ◌<◌, ◌≡◌, ◌^◌}
use Rattle.wfe_core.specs.words.Place.{Place, has, place_at, words}
use Rattle.wfe_core.specs.words.declared.layout.Layout.{Layout}
use Rattle.wfe_core.specs.declared.op.Op.{Op}
use Rattle.wfe_core.specs.Locals.{asks, move}
use Rattle.wfe_core.specs.Memory.{Move, found, numbered, place_in, written}
use Rattle.wfe_core.specs.World.{World, finds, first_word, step}
use Rattle.wfe_drive_cells.specs.Memory.{AreNarrow, HoldsStart, memory}
use Rattle.wfe_drive_cells.specs.Operations.{IsNarrow, answered, performed, word_in, writes_narrow}

-- a list with as many words as the table has is a memory, and an operation on it is the move of the place
pub record IsBridge (layout : Layout) : Type 0 where
  -- each word is that of its number's place, and the words of a start are the model's
  pub shows : (list : List ℕ) (word : ℕ) → word < words layout → memory layout list (place_at layout word) ≡ slice_index list word
  pub starts : (list : List ℕ) → HoldsStart layout list → memory layout list ≡ first_word layout
  -- the move of a place of the table is an operation on a word of the list, the number's
  pub within : (list : List ℕ) (m : Move) → length list ≡ words layout → has layout (place_in m) ≡ true → word_in (numbered layout m) < length list
  pub placed : (m : Move) → has layout (place_in m) ≡ true → place_at layout (word_in (numbered layout m)) ≡ place_in m
  -- it answers what the move finds, leaves what the move writes, and as many words as there were
  pub answers : (list : List ℕ) (m : Move) → has layout (place_in m) ≡ true → answered list (numbered layout m) ≡ found m (memory layout list (place_in m))
  pub performs : (list : List ℕ) (m : Move) → length list ≡ words layout → has layout (place_in m) ≡ true → memory layout (performed list (numbered layout m)) ≡ written (memory layout list) m
  pub stays : (list : List ℕ) (op : Op) → length (performed list op) ≡ length list

-- words have 64 bits at the start, and after an operation that writes no more; so has the memory, and each answer
pub record StaysNarrow (layout : Layout) : Type 0 where
  pub starts : (list : List ℕ) → HoldsStart layout list → IsNarrow list
  pub answers : (list : List ℕ) (op : Op) → IsNarrow list → answered list op < 2 ^ 64
  pub performs : (list : List ℕ) (op : Op) → IsNarrow list → writes_narrow op ≡ true → IsNarrow (performed list op)
  pub shows : (list : List ℕ) → IsNarrow list → AreNarrow (memory layout list)
  pub finds : (mem : Place → ℕ) (m : Move) → AreNarrow mem → found m (mem (place_in m)) < 2 ^ 64
  pub writes : (mem : Place → ℕ) (m : Move) → AreNarrow mem → writes_narrow (numbered layout m) ≡ true → AreNarrow (written mem m)

-- the seat's operation is numbered by the World's layout, and on a word of its table
pub record AsksWithin (w : World) (i : ℕ) : Type 0 where
  pub layout : (w.seat i).post.layout ≡ w.layout
  pub there : has w.layout (place_in (move (w.seat i))) ≡ true

-- where the list is a World's memory, performing the operation that a seat asks for answers what the seat finds, and
-- leaves the memory of the World after its step
pub record MakesSteps (w : World) (i : ℕ) (list : List ℕ) : Type 0 where
  pub within : word_in (asks (w.seat i)) < length list
  pub answers : answered list (asks (w.seat i)) ≡ finds w i
  pub performs : memory w.layout (performed list (asks (w.seat i))) ≡ (step w i).mem
  pub stays : length (performed list (asks (w.seat i))) ≡ words w.layout
