-- Each word has a spot of its own in the block, and what is proved of words by number holds of them by spot.
use Rattle.std.proofs.Common.{Bool, List, [], ap, arith, false, get_or, length, refl, set, subst, suc, sym, true, zero, ℕ, ◌∷◌, ◌*◌, ◌+◌, ◌<◌, ◌^◌, ◌∙◌, ◌≡◌, ◌≢◌, ◌≤◌}
use Rattle.std.proofs.lemmas.Bool.Decides.{nat_tests}
use Rattle.std.proofs.lemmas.List.{get_or-set_other, get_or-set_same, length-set, same_lists}
use Rattle.std.proofs.lemmas.List.FromFn.{get_or-map-range_with_len, length-map-range_with_len}
use Rattle.std.specs.Prelude.{slice_index, ◌==◌}
use mathlib.Core.Option.{some, some-injective}
use lib.ListN.{get_elem?}
use Rattle.atomic_table.specs.Table.{Allows, Joins, Splits, carried_after, homes_after}
use Rattle.wfe_core.proofs.Facts.{number_is}
use Rattle.wfe_core.proofs.words.Numbers.{number_below}
use Rattle.wfe_core.specs.words.Place.Place.{Clock}
use Rattle.wfe_core.specs.words.Place.{first_bucket, head_number, words}
use Rattle.wfe_core.specs.words.declared.layout.Layout.{Layout}
use Rattle.wfe_drive_rule.specs.Rule.{ByNumber, Holds, Rules, by_number}
use Rattle.wfe_drive_cells.specs.Spots.{spot, spot_by}
use Rattle.wfe_drive_rule.specs.Spots.{shown, spots}
use Rattle.wfe_drive_rule.specs.Views.{Handle, View}

-- a spot is one of the block, and later words lie at later spots
below_by : (roots head word n : ℕ) → word < n → spot_by roots head word < n + 7 * (roots + 3)
below_by roots head word n low = omega arith

rises_by : (roots head word later : ℕ) → word < later → spot_by roots head word < spot_by roots head later
rises_by roots head word later low = omega arith

pub spot_below : (layout : Layout) (word : ℕ) → word < words layout → spot layout word < spots layout
spot_below layout word low = below_by (first_bucket layout) (head_number layout) word (words layout) low

apart_by : (roots head word other : ℕ) → word ≢ other → spot_by roots head word ≢ spot_by roots head other
apart_by roots head word other ne e = omega (arith, ne, e)

-- words of different numbers have different spots
pub spot_apart : (layout : Layout) (word other : ℕ) → word ≢ other → spot layout word ≢ spot layout other
spot_apart layout word other ne = apart_by (first_bucket layout) (head_number layout) word other ne

-- the clock lies first
pub spot_first : (layout : Layout) → spot layout 0 ≡ 0
spot_first layout = omega arith

-- what is shown at a number
pub length-shown : (layout : Layout) (block : List ℕ) → length (shown layout block) ≡ words layout
length-shown layout block = length-map-range_with_len (λ word. slice_index block (spot layout word)) 0 (words layout)

shown_or : (layout : Layout) (block : List ℕ) (word d : ℕ) → word < words layout → get_or (shown layout block) word d ≡ get_or block (spot layout word) 0
shown_or layout block word d low = get_or-map-range_with_len (λ word. slice_index block (spot layout word)) 0 (words layout) word word d low (omega arith)

pub shown_at : (layout : Layout) (block : List ℕ) (word : ℕ) → word < words layout → slice_index (shown layout block) word ≡ slice_index block (spot layout word)
shown_at layout block word low = shown_or layout block word 0 low

-- to set a spot is to set its number
set_at : (layout : Layout) (block : List ℕ) (word value k d : ℕ) → length block ≡ spots layout → word < words layout → k < words layout → (same : Bool) → (k == word) ≡ same
    → get_or (shown layout (set block (spot layout word) value)) k d ≡ get_or (set (shown layout block) word value) k d
set_at layout block word value k d long low there true q =
    let is : k ≡ word = number_is k word q in
    let inside : spot layout word < length block = subst (λ (n : ℕ). spot layout word < n) (sym long) (spot_below layout word low) in
    let shows : word < length (shown layout block) = subst (λ (n : ℕ). word < n) (sym (length-shown layout block)) low in
    ap (λ (n : ℕ). get_or (shown layout (set block (spot layout word) value)) n d) is
    ∙ shown_or layout (set block (spot layout word) value) word d low
    ∙ get_or-set_same block (spot layout word) value 0 inside
    ∙ sym (get_or-set_same (shown layout block) word value d shows)
    ∙ ap (λ (n : ℕ). get_or (set (shown layout block) word value) n d) (sym is)
set_at layout block word value k d long low there false q =
    let other : k ≢ word = (λ e. grind (arith, nat_tests)) in
    shown_or layout (set block (spot layout word) value) k d there
    ∙ get_or-set_other block (spot layout word) (spot layout k) value 0 (spot_apart layout k word other)
    ∙ sym (shown_or layout block k d there)
    ∙ sym (get_or-set_other (shown layout block) word k value d other)

pub shown_set : (layout : Layout) (block : List ℕ) (word value : ℕ) → length block ≡ spots layout → word < words layout → shown layout (set block (spot layout word) value) ≡ set (shown layout block) word value
shown_set layout block word value long low =
    same_lists (shown layout (set block (spot layout word) value)) (set (shown layout block) word value)
    (length-shown layout (set block (spot layout word) value) ∙ sym (length-set (shown layout block) word value ∙ length-shown layout block))
    (λ k d there. set_at layout block word value k d long low (subst (λ (n : ℕ). k < n) (length-shown layout (set block (spot layout word) value)) there) (k == word) refl)

-- a step that is allowed on a number's word is allowed on its spot
pub at_spot : (layout : Layout) (slots id word : ℕ) (handle : Handle) (changes : ℕ → ℕ) (Tells : ℕ → Handle → Type 0) → word < words layout → Allows (ByNumber layout) slots id handle word changes Tells
    → Allows (Holds layout) slots id handle (spot layout word) changes Tells
at_spot layout slots id word handle changes Tells low allowed s h ls e bound =
    let is : slice_index (shown layout s.words) word ≡ slice_index s.words (spot layout word) = shown_at layout s.words word low in
    let a = allowed (by_number layout s) h.1 ls e (subst (λ (n : ℕ). n < 2 ^ 64) (sym is) bound) in
    let value : ℕ = changes (slice_index s.words (spot layout word)) in
    let list : set (shown layout s.words) word (changes (slice_index (shown layout s.words) word)) ≡ shown layout (set s.words (spot layout word) value) =
    ap (λ (n : ℕ). set (shown layout s.words) word (changes n)) is ∙ sym (shown_set layout s.words word value h.0 low) in (
      a.0,
      a.1,
      a.2,
      (length-set s.words (spot layout word) value ∙ h.0, subst (λ (l : List ℕ). Rules layout l (homes_after s.homes handle.1 a.1) (set s.views id a.0)) list a.3),
      subst (λ (n : ℕ). Tells n (a.0, carried_after handle.1 a.1)) is a.4,
    )

pub at_words : (layout : Layout) (slots id word n : ℕ) (handle : Handle) (changes : ℕ → ℕ) (Tells : ℕ → Handle → Type 0) → word < words layout → n ≡ spot layout word → Allows (ByNumber layout) slots id handle word changes Tells
    → Allows (Holds layout) slots id handle n changes Tells
at_words layout slots id word n handle changes Tells low at allowed = subst (λ (k : ℕ). Allows (Holds layout) slots id handle k changes Tells) (sym at) (at_spot layout slots id word handle changes Tells low allowed)

-- the same of a load of the first word, and of what leaves the words
pub at_first : (layout : Layout) (slots id : ℕ) (handle : Handle) (changes : ℕ → ℕ) (Tells : ℕ → Handle → Type 0) → Allows (ByNumber layout) slots id handle 0 changes Tells → Allows (Holds layout) slots id handle 0 changes Tells
at_first layout slots id handle changes Tells allowed =
    subst (λ (n : ℕ). Allows (Holds layout) slots id handle n changes Tells) (spot_first layout) (at_spot layout slots id 0 handle changes Tells (omega (arith, number_below layout Clock refl)) allowed)

pub splits_shown : (layout : Layout) (id : ℕ) (v left right : View) → Splits (ByNumber layout) id v left right → Splits (Holds layout) id v left right
splits_shown layout id v left right splits s h e = (h.0, splits (by_number layout s) h.1 e)

pub joins_shown : (layout : Layout) (id other : ℕ) (v w both spent : View) → Joins (ByNumber layout) id v other w both spent → Joins (Holds layout) id v other w both spent
joins_shown layout id other v w both spent joins s h e ne g = (h.0, joins (by_number layout s) h.1 e ne g)

-- what is read at a spot is shown at its number
got_or : (list : List ℕ) (i d value : ℕ) → get_elem? list i ≡ some value → get_or list i d ≡ value
got_or [] i d value e = absurd (cc)
got_or (x ∷ xs) zero d value e = some-injective x value e
got_or (x ∷ xs) (suc i) d value e = got_or xs i d value e

or_got : (list : List ℕ) (i d value : ℕ) → i < length list → get_or list i d ≡ value → get_elem? list i ≡ some value
or_got [] i d value low e = absurd (omega (arith, low))
or_got (x ∷ xs) zero d value low e = ap some e
or_got (x ∷ xs) (suc i) d value low e = or_got xs i d value (omega (arith, low)) e

pub shown_get : (layout : Layout) (block : List ℕ) (word value : ℕ) → word < words layout → get_elem? block (spot layout word) ≡ some value → get_elem? (shown layout block) word ≡ some value
shown_get layout block word value low e =
    or_got (shown layout block) word 0 value (subst (λ (n : ℕ). word < n) (sym (length-shown layout block)) low) (shown_at layout block word low ∙ got_or block (spot layout word) 0 value e)
