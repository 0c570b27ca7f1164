-- The word of a place is a place word, and one of the table's.
use Rattle.std.proofs.Common.{List, ap, arith, length, subst, sym, true, ℕ, ◌<◌, ◌∙◌, ◌≡◌}
use Rattle.std.proofs.lemmas.Bool.Decides.{nat_tests}
use Rattle.wfe_core.specs.words.Place.{has, number, words}
use Rattle.wfe_core.specs.words.Place.Place.{PlaceOf}
use Rattle.wfe_core.specs.words.declared.layout.Layout.{Layout}
use Rattle.wfe_core.proofs.words.Numbers.{number_below}
use Rattle.wfe_drive.specs.Bare.{is_place}
use Rattle.wfe_drive.proofs.Bare.{number_place}

-- by the code's setting, and the rig's, which is the same before and after a unit
pub place_from : (own layout now : Layout) (seat word : ℕ) → own ≡ layout → now ≡ layout → word ≡ number own (PlaceOf seat) → seat < layout.config.seats → is_place now word ≡ true
place_from own layout now seat word e f w h =
    let there : has layout (PlaceOf seat) ≡ true = grind (arith, nat_tests) in
    ap (λ (n : ℕ). is_place now n) (w ∙ ap (λ (l : Layout). number l (PlaceOf seat)) e) ∙ ap (λ (l : Layout). is_place l (number layout (PlaceOf seat))) f ∙ number_place layout (PlaceOf seat) there

pub word_from : (own layout : Layout) (list : List ℕ) (seat word : ℕ) → own ≡ layout → word ≡ number own (PlaceOf seat) → seat < layout.config.seats → length list ≡ words layout → word < length list
word_from own layout list seat word e w h c =
    let there : has layout (PlaceOf seat) ≡ true = grind (arith, nat_tests) in
    let low : number layout (PlaceOf seat) < words layout = number_below layout (PlaceOf seat) there in
    subst (λ (n : ℕ). n < length list) (sym (w ∙ ap (λ (l : Layout). number l (PlaceOf seat)) e)) (subst (λ (n : ℕ). number layout (PlaceOf seat) < n) (sym c) low)
