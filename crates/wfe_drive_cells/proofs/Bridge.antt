-- Words by number are words by place.
use Rattle.std.proofs.Common.{Bool, List, ap, arith, bit_and, bit_or, false, get_or-set_other, get_or-set_same, length, length-set, refl, sym, true, ℕ, ◌<◌, ◌∙◌, ◌≡◌, ◌≢◌}
use Rattle.std.proofs.lemmas.List.{set-get_or}
use Rattle.std.specs.Prelude.{slice_index, slice_set}
use mathlib.Core.Path.{fun_ext}
use Rattle.wfe_core.specs.words.Place.{Place, has, number, place_at, same, start_of, words}
use Rattle.wfe_core.specs.words.declared.layout.Layout.{Layout}
use Rattle.wfe_core.proofs.words.Numbers.{number-place_at, number_below, number_one, place_at-number, place_at_there}
use Rattle.wfe_core.proofs.words.Places.{same_one, same_self}
use Rattle.wfe_core.specs.Memory.{Move, change, found, numbered, place_in, put, written}
use Rattle.wfe_core.specs.Memory.Move.{And, Cas, Load, Or, Store}
use Rattle.wfe_core.specs.World.{first_word}
use Rattle.wfe_core.specs.declared.op.Op.{Op}
use Rattle.wfe_drive_cells.specs.Memory.{HoldsStart, memory}
use Rattle.wfe_drive_cells.specs.Operations.{answered, performed, word_in}

-- the word of a place of the table
pub memory-there : (layout : Layout) (list : List ℕ) (p : Place) → has layout p ≡ true → memory layout list p ≡ slice_index list (number layout p)
memory-there layout list p h = rw h refl

-- a place that there is not
pub memory-none : (layout : Layout) (list : List ℕ) (p : Place) → has layout p ≡ false → memory layout list p ≡ 0
memory-none layout list p h = rw h refl

pub memory-place_at : (layout : Layout) (list : List ℕ) (word : ℕ) → word < words layout → memory layout list (place_at layout word) ≡ slice_index list word
memory-place_at layout list word h =
    memory-there layout list (place_at layout word) (place_at_there layout word h) ∙ ap (slice_index list) (number-place_at layout word h)

-- the words of a start
start_by : (layout : Layout) (list : List ℕ) → HoldsStart layout list → (p : Place) (there : Bool) → has layout p ≡ there → memory layout list p ≡ first_word layout p
start_by layout list s p true h =
    memory-there layout list p h ∙ s.starts (number layout p) (number_below layout p h) ∙ ap (start_of layout) (place_at-number layout p h) ∙ sym (rw h refl)
start_by layout list s p false h = memory-none layout list p h ∙ sym (rw h refl)

pub memory-start : (layout : Layout) (list : List ℕ) → HoldsStart layout list → memory layout list ≡ first_word layout
memory-start layout list s = fun_ext (λ p. start_by layout list s p (has layout p) refl)

-- a word that changes in the list is the place that changes, and no other
set_here : (layout : Layout) (list : List ℕ) (p q : Place) (value : ℕ) → length list ≡ words layout → has layout p ≡ true → same q p ≡ true
    → memory layout (slice_set list (number layout p) value) q ≡ put (memory layout list) p value q
set_here layout list p q value l h e =
    let is : q ≡ p = same_one q p e in
    let there : has layout q ≡ true = ap (has layout) is ∙ h in
    let at : number layout q ≡ number layout p = ap (number layout) is in
    let low : number layout p < words layout = number_below layout p h in
    let within : number layout p < length list = omega arith in
    rw (e, there, at) (get_or-set_same list (number layout p) value 0 within)

set_there : (layout : Layout) (list : List ℕ) (p q : Place) (value : ℕ) → has layout p ≡ true → same q p ≡ false → has layout q ≡ true
    → memory layout (slice_set list (number layout p) value) q ≡ put (memory layout list) p value q
set_there layout list p q value h e g =
    let other : number layout q ≢ number layout p =
    (λ at. let is : q ≡ p = number_one layout q p g h at in let t : same q p ≡ true = ap (λ x. same x p) is ∙ same_self p in cc) in
    rw (e, g) (get_or-set_other list (number layout p) (number layout q) value 0 other)

set_by : (layout : Layout) (list : List ℕ) (p q : Place) (value : ℕ) → length list ≡ words layout → has layout p ≡ true → (one there : Bool) → same q p ≡ one → has layout q ≡ there
    → memory layout (slice_set list (number layout p) value) q ≡ put (memory layout list) p value q
set_by layout list p q value l h true there e g = set_here layout list p q value l h e
set_by layout list p q value l h false true e g = set_there layout list p q value h e g
set_by layout list p q value l h false false e g = rw (e, g) refl

pub memory-set : (layout : Layout) (list : List ℕ) (p : Place) (value : ℕ) → length list ≡ words layout → has layout p ≡ true
    → memory layout (slice_set list (number layout p) value) ≡ put (memory layout list) p value
memory-set layout list p value l h = fun_ext (λ q. set_by layout list p q value l h (same q p) (has layout q) refl refl)

-- a move is an operation on the word of its place's number
pub word_in-numbered : (layout : Layout) (m : Move) → word_in (numbered layout m) ≡ number layout (place_in m)
word_in-numbered layout (Load p) = refl
word_in-numbered layout (Store p value) = refl
word_in-numbered layout (Cas p old new) = refl
word_in-numbered layout (Or p bits) = refl
word_in-numbered layout (And p bits) = refl

pub word_within : (layout : Layout) (list : List ℕ) (m : Move) → length list ≡ words layout → has layout (place_in m) ≡ true → word_in (numbered layout m) < length list
word_within layout list m l h = omega (arith, word_in-numbered layout m, number_below layout (place_in m) h)

pub place_at-numbered : (layout : Layout) (m : Move) → has layout (place_in m) ≡ true → place_at layout (word_in (numbered layout m)) ≡ place_in m
place_at-numbered layout m h = ap (place_at layout) (word_in-numbered layout m) ∙ place_at-number layout (place_in m) h

pub answered-numbered : (layout : Layout) (list : List ℕ) (m : Move) → has layout (place_in m) ≡ true → answered list (numbered layout m) ≡ found m (memory layout list (place_in m))
answered-numbered layout list (Load p) h = sym (memory-there layout list p h)
answered-numbered layout list (Store p value) h = refl
answered-numbered layout list (Cas p old new) h = sym (memory-there layout list p h)
answered-numbered layout list (Or p bits) h = sym (memory-there layout list p h)
answered-numbered layout list (And p bits) h = sym (memory-there layout list p h)

-- the place changes as the word does
changes : (layout : Layout) (list : List ℕ) (p : Place) (f : ℕ → ℕ) → length list ≡ words layout → has layout p ≡ true
    → memory layout (slice_set list (number layout p) (f (slice_index list (number layout p)))) ≡ put (memory layout list) p (f (memory layout list p))
changes layout list p f l h =
    memory-set layout list p (f (slice_index list (number layout p))) l h ∙ ap (λ (n : ℕ). put (memory layout list) p (f n)) (sym (memory-there layout list p h))

pub memory-performed : (layout : Layout) (list : List ℕ) (m : Move) → length list ≡ words layout → has layout (place_in m) ≡ true
    → memory layout (performed list (numbered layout m)) ≡ written (memory layout list) m
memory-performed layout list (Load p) l h = ap (memory layout) (set-get_or list (number layout p) 0)
memory-performed layout list (Store p value) l h = memory-set layout list p value l h
memory-performed layout list (Cas p old new) l h = changes layout list p (change (Cas p old new)) l h
memory-performed layout list (Or p bits) l h = changes layout list p (λ n. bit_or n bits) l h
memory-performed layout list (And p bits) l h = changes layout list p (λ n. bit_and n bits) l h

pub length-performed : (list : List ℕ) (op : Op) → length (performed list op) ≡ length list
length-performed list op = length-set list (word_in op) _
