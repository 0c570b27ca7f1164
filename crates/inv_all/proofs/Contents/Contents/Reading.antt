-- The words of a row that shows its pairs, as a call reads them, and a row written word by word.
use Rattle.std.proofs.Common.{ℕ, ◌+◌, ◌-◌, ◌*◌, ◌/◌, ◌%◌, ◌<◌, ◌≤◌, ◌≡◌, Bool, true, false, ◌&&◌, arith, refl, ap, ◌∙◌, sym, List, length}
use Rattle.std.proofs.lemmas.Bool.Decides.{nat_tests}
use Rattle.std.specs.Prelude.{◌==◌}
use Rattle.inv_ends.specs.model.words.Place.{Place}
use Rattle.inv_ends.specs.model.words.Place.Place.{Row}
use Rattle.inv_ends.specs.model.defs.Pairs.{Pair}
use Rattle.inv_ends.specs.model.Get.{key_place, value_place}
use Rattle.inv_ends.specs.model.Memory.{put}
use Rattle.inv_ends.specs.model.Phases.{RowOf, MapRow}
use Rattle.inv_ends.specs.model.WriteRow.{row_word, pair_word, side_of}
use Rattle.inv_all.specs.Contents.Shelf.{Filled, Shows}
use Rattle.inv_all.specs.Contents.Knows.{pair_at}

past_count : (version : ℕ) (pairs : List Pair) (place : ℕ) → 3 ≤ place → row_word (MapRow version pairs) place ≡ pair_word pairs place
past_count version pairs place h =
    let a : (place == 1) ≡ false = grind (arith, nat_tests) in
    let b : (place == 2) ≡ false = grind (arith, nat_tests) in
    rw (a, b) refl

side_word : (pairs : List Pair) (place n side : ℕ) → (place - 3) / 2 ≡ n → (place - 3) % 2 ≡ side → pair_word pairs place ≡ side_of (pair_at pairs n) side
side_word pairs place n side h k = rw (h, k) refl

key_word : (version : ℕ) (pairs : List Pair) (n : ℕ) → row_word (MapRow version pairs) (key_place n) ≡ (pair_at pairs n).0
key_word version pairs n =
    let a : (3 + 2 * n - 3) / 2 ≡ n = omega arith in
    let b : (3 + 2 * n - 3) % 2 ≡ 0 = omega arith in
    past_count version pairs (3 + 2 * n) (omega arith) ∙ side_word pairs (3 + 2 * n) n 0 a b

value_word : (version : ℕ) (pairs : List Pair) (n : ℕ) → row_word (MapRow version pairs) (value_place n) ≡ (pair_at pairs n).1
value_word version pairs n =
    let a : (4 + 2 * n - 3) / 2 ≡ n = omega arith in
    let b : (4 + 2 * n - 3) % 2 ≡ 1 = omega arith in
    past_count version pairs (4 + 2 * n) (omega arith) ∙ side_word pairs (4 + 2 * n) n 1 a b

-- what a load of each place of the row finds
pub version_shown : (mem : Place → ℕ) (slot version : ℕ) (pairs : List Pair) → Shows mem slot version pairs → mem (Row slot 1) ≡ version
version_shown mem slot version pairs h = h 1 (omega arith) (omega arith)

pub count_shown : (mem : Place → ℕ) (slot version : ℕ) (pairs : List Pair) → Shows mem slot version pairs → mem (Row slot 2) ≡ length pairs
count_shown mem slot version pairs h = h 2 (omega arith) (omega arith)

pub key_shown : (mem : Place → ℕ) (slot version : ℕ) (pairs : List Pair) (n : ℕ) → n < length pairs → Shows mem slot version pairs → mem (Row slot (key_place n)) ≡ (pair_at pairs n).0
key_shown mem slot version pairs n lt h = h (3 + 2 * n) (omega arith) (omega arith) ∙ key_word version pairs n

pub value_shown : (mem : Place → ℕ) (slot version : ℕ) (pairs : List Pair) (n : ℕ) → n < length pairs → Shows mem slot version pairs → mem (Row slot (value_place n)) ≡ (pair_at pairs n).1
value_shown mem slot version pairs n lt h = h (4 + 2 * n) (omega arith) (omega arith) ∙ value_word version pairs n

-- one word more is written
pub filled_next : (mem : Place → ℕ) (slot : ℕ) (row : RowOf) (place : ℕ) → Filled mem slot row place → Filled (put mem (Row slot place) (row_word row place)) slot row (place + 1)
filled_next mem slot row place h q low high = by_place (q == place) refl
  where
    by_place : (x : Bool) → (q == place) ≡ x → put mem (Row slot place) (row_word row place) (Row slot q) ≡ row_word row q
    by_place true e =
        let is : q ≡ place = grind (arith, nat_tests) in
        let own : (slot == slot && q == place) ≡ true = grind (arith, nat_tests) in
        rw own (ap (λ (n : ℕ). row_word row n) (sym is))
    by_place false e =
        let other : (slot == slot && q == place) ≡ false = grind (arith, nat_tests) in
        let below : q < place = grind (arith, nat_tests) in
        rw other (h q low below)
