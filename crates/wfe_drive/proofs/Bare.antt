-- What a table's words are where each place word reads 0, and how operations change them.
use Rattle.std.proofs.Common.{Bool, List, ap, arith, false, get_or, get_or-set_other, get_or-set_same, if◌then◌else◌, length, length-set, refl, subst, sym, true, ℕ, ◌<◌, ◌≤◌, ◌∙◌, ◌≡◌, ◌≢◌}
use Rattle.std.proofs.lemmas.Bool.Decides.{nat_tests}
use Rattle.std.proofs.lemmas.List.{ext_get_or, get_or_past}
use Rattle.std.proofs.lemmas.List.FromFn.{get_or-map-range_with_len, length-map-range_with_len}
use Rattle.std.specs.Prelude.{nat_lt, not, slice_index, slice_set, ◌==◌}
use Rattle.wfe_core.specs.words.Place.{Place, has, number}
use Rattle.wfe_core.specs.words.Place.Place.{PlaceOf}
use Rattle.wfe_core.specs.words.declared.layout.Layout.{Layout}
use Rattle.wfe_core.proofs.words.Numbers.{place_at-number}
use Rattle.wfe_core.specs.declared.op.Op.{Op}
use Rattle.wfe_drive_cells.specs.Memory.{memory}
use Rattle.wfe_drive_cells.specs.Operations.{answer_of, answered, changed, performed, word_in}
use Rattle.wfe_drive_cells.specs.Unit.{TableView, is_gone}
use Rattle.wfe_drive.specs.Bare.{bare, bare_word, bare_words, is_of_seat, is_place}

pub bare_length : (layout : Layout) (list : List ℕ) → length (bare_words layout list) ≡ length list
bare_length layout list = length-map-range_with_len (bare_word layout list) 0 (length list)

zero_word : (b : Bool) (word : ℕ) → word ≡ 0 → (if b then 0 else word) ≡ word
zero_word true word e = sym e
zero_word false word e = refl

bare_by : (layout : Layout) (list : List ℕ) (word : ℕ) (within : Bool) → nat_lt word (length list) ≡ within → get_or (bare_words layout list) word 0 ≡ bare_word layout list word
bare_by layout list word true e = get_or-map-range_with_len (bare_word layout list) 0 (length list) word word 0 (grind (arith, nat_tests)) (omega arith)
bare_by layout list word false e =
    let past : length list ≤ word = grind (arith, nat_tests) in
    let none : get_or list word 0 ≡ 0 = get_or_past list word 0 past in
    get_or_past (bare_words layout list) word 0 (subst (λ (n : ℕ). n ≤ word) (sym (bare_length layout list)) past)
    ∙ sym (zero_word (is_place layout word) (slice_index list word) none ∙ none)

pub bare_at : (layout : Layout) (list : List ℕ) (word : ℕ) → slice_index (bare_words layout list) word ≡ bare_word layout list word
bare_at layout list word = bare_by layout list word (nat_lt word (length list)) refl

pub bare_other : (layout : Layout) (list : List ℕ) (word : ℕ) → is_place layout word ≡ false → slice_index (bare_words layout list) word ≡ slice_index list word
bare_other layout list word e = bare_at layout list word ∙ rw e refl

-- a word that is no place word changes there as it does here, and place words change nothing there
set_one : (layout : Layout) (list : List ℕ) (word value i : ℕ) (one : Bool) → is_place layout word ≡ false → word < length list → (i == word) ≡ one
    → get_or (slice_set (bare_words layout list) word value) i 0 ≡ bare_word layout (slice_set list word value) i
set_one layout list word value i true off below e =
    let is : i ≡ word = grind (arith, nat_tests) in
    let within : word < length (bare_words layout list) = subst (λ (n : ℕ). word < n) (sym (bare_length layout list)) below in
    rw (is, off, get_or-set_same (bare_words layout list) word value 0 within, get_or-set_same list word value 0 below) refl
set_one layout list word value i false off below e =
    let apart : i ≢ word = grind (arith, nat_tests) in
    get_or-set_other (bare_words layout list) word i value 0 apart ∙ bare_at layout list i
    ∙ ap (λ (n : ℕ). if is_place layout i then 0 else n) (sym (get_or-set_other list word i value 0 apart))

pub bare_set : (layout : Layout) (list : List ℕ) (word value : ℕ) → is_place layout word ≡ false → word < length list → slice_set (bare_words layout list) word value ≡ bare_words layout (slice_set list word value)
bare_set layout list word value off below =
    ext_get_or 0 (slice_set (bare_words layout list) word value) (bare_words layout (slice_set list word value))
    (length-set (bare_words layout list) word value ∙ bare_length layout list ∙ sym (length-set list word value) ∙ sym (bare_length layout (slice_set list word value)))
    (λ i l. set_one layout list word value i (i == word) off below refl ∙ sym (bare_at layout (slice_set list word value) i))

place_one : (layout : Layout) (list : List ℕ) (word value i : ℕ) (one : Bool) → is_place layout word ≡ true → (i == word) ≡ one → bare_word layout (slice_set list word value) i ≡ bare_word layout list i
place_one layout list word value i true on e =
    let is : i ≡ word = grind (arith, nat_tests) in
    let here : is_place layout i ≡ true = ap (is_place layout) is ∙ on in
    rw here refl
place_one layout list word value i false on e =
    let apart : i ≢ word = grind (arith, nat_tests) in
    ap (λ (n : ℕ). if is_place layout i then 0 else n) (get_or-set_other list word i value 0 apart)

pub place_set : (layout : Layout) (list : List ℕ) (word value : ℕ) → is_place layout word ≡ true → bare_words layout (slice_set list word value) ≡ bare_words layout list
place_set layout list word value on =
    ext_get_or 0 (bare_words layout (slice_set list word value)) (bare_words layout list)
    (bare_length layout (slice_set list word value) ∙ length-set list word value ∙ sym (bare_length layout list))
    (λ i l. bare_at layout (slice_set list word value) i ∙ place_one layout list word value i (i == word) on refl ∙ sym (bare_at layout list i))

pub bare_answered : (layout : Layout) (list : List ℕ) (op : Op) → is_place layout (word_in op) ≡ false → answered (bare_words layout list) op ≡ answered list op
bare_answered layout list op off = ap (answer_of op) (bare_other layout list (word_in op) off)

pub bare_performed : (layout : Layout) (list : List ℕ) (op : Op) → is_place layout (word_in op) ≡ false → word_in op < length list → performed (bare_words layout list) op ≡ bare_words layout (performed list op)
bare_performed layout list op off below =
    ap (λ (n : ℕ). slice_set (bare_words layout list) (word_in op) (changed op n)) (bare_other layout list (word_in op) off)
    ∙ bare_set layout list (word_in op) (changed op (slice_index list (word_in op))) off below

pub place_performed : (layout : Layout) (list : List ℕ) (op : Op) → is_place layout (word_in op) ≡ true → bare_words layout (performed list op) ≡ bare_words layout list
place_performed layout list op on = place_set layout list (word_in op) (changed op (slice_index list (word_in op))) on

-- the number of a place
pub number_place : (layout : Layout) (place : Place) → has layout place ≡ true → is_place layout (number layout place) ≡ is_of_seat place
number_place layout place h = ap is_of_seat (place_at-number layout place h)

-- no seat has left
gone_by : (layout : Layout) (list : List ℕ) (seat : ℕ) (there : Bool) → has layout (PlaceOf seat) ≡ there → memory layout (bare_words layout list) (PlaceOf seat) ≡ 0
gone_by layout list seat true h = rw h (bare_at layout list (number layout (PlaceOf seat)) ∙ rw (number_place layout (PlaceOf seat) h) refl)
gone_by layout list seat false h = rw h refl

pub bare_place : (layout : Layout) (list : List ℕ) (seat : ℕ) → memory layout (bare_words layout list) (PlaceOf seat) ≡ 0
bare_place layout list seat = gone_by layout list seat (has layout (PlaceOf seat)) refl

pub bare_gone : (table : TableView) (seat : ℕ) → is_gone (bare table) seat ≡ false
bare_gone table seat = ap (λ (n : ℕ). not (n == 0)) (bare_place table.layout table.words seat)

-- words none of which is a place word but those that read 0
same_one : (layout : Layout) (list : List ℕ) (i : ℕ) (on : Bool) → is_place layout i ≡ on → (is_place layout i ≡ true → slice_index list i ≡ 0) → bare_word layout list i ≡ get_or list i 0
same_one layout list i true e h = rw e (sym (h e))
same_one layout list i false e h = rw e refl

pub bare_same : (layout : Layout) (list : List ℕ) → ((word : ℕ) → is_place layout word ≡ true → slice_index list word ≡ 0) → bare_words layout list ≡ list
bare_same layout list h = ext_get_or 0 (bare_words layout list) list (bare_length layout list) (λ i l. bare_at layout list i ∙ same_one layout list i (is_place layout i) refl (h i))
