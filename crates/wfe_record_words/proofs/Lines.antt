-- A line is its words with single spaces between them.
use Rattle.std.proofs.Common.{◌≡◌, ◌==◌, ◌&&◌, ◌∙◌, not, ℕ, List, [], ◌∷◌, ◌++◌, Bool, true, false, Some, None, refl, sym, ap, arith, append-nil, if◌then◌else◌}
use Rattle.std.proofs.lemmas.Bool.Decides.{nat_tests}
use Rattle.wfe_trace.specs.Record.{spaced}
use Rattle.wfe_trace.specs.Words.{words, onto_first}
use Rattle.wfe_trace.proofs.Decimals.{lacks}
use Rattle.wfe_trace.proofs.EventWords.{Plain}
use Rattle.wfe_record_words.specs.Reader.{Read, is_over, whole}
use Rattle.wfe_record_words.proofs.Cuts.{words_left}
use Rattle.wfe_record_words.proofs.Joined.{Reads, given-some}
use Rattle.wfe_record_words.proofs.Parts.{chosen, same_some}

abbrev join : List (List ℕ) → List ℕ
join [] = []
join (w ∷ ws) = w ++ spaced ws

join-more : (at : Bool) (b : ℕ) (line : List ℕ) (ws : List (List ℕ)) → (b == 32) ≡ at → is_over ws ≡ false → join ws ≡ line → join (if at then [] ∷ ws else onto_first b ws) ≡ b ∷ line
join-more true b line [] e some h = absurd (cc)
join-more true b line (v ∷ vs) e some h =
    let space : b ≡ 32 = grind (arith, nat_tests) in
    rw (sym h, space) refl
join-more false b line [] e some h = absurd (cc)
join-more false b line (v ∷ vs) e some h = ap (λ t. b ∷ t) h

join-words : (line : List ℕ) → join (words line) ≡ line
join-words [] = refl
join-words (b ∷ line) = join-more (b == 32) b line (words line) refl (words_left line) (join-words line)

-- the text of a line by its words
pub line_by_words : (line w : List ℕ) (ws : List (List ℕ)) → words line ≡ w ∷ ws → line ≡ w ++ spaced ws
line_by_words line w ws e = sym (join-words line) ∙ ap join e

both : (t u : Bool) → (not t && u) ≡ true → (t ≡ false) × (u ≡ true)
both true u h = absurd (cc)
both false u h = (refl, h)

words-onto : (w rest : List ℕ) (ws : List (List ℕ)) → lacks 32 w ≡ true → words rest ≡ [] ∷ ws → words (w ++ rest) ≡ w ∷ ws
words-onto [] rest ws none e = e
words-onto (b ∷ w) rest ws none e =
    let parts : ((b == 32) ≡ false) × (lacks 32 w ≡ true) = both (b == 32) (lacks 32 w) none in
    rw (parts.0, words-onto w rest ws parts.1 e) refl

-- words without spaces are found again in their line
pub words_by_line : (w : List ℕ) (ws : List (List ℕ)) → lacks 32 w ≡ true → Plain ws → words (w ++ spaced ws) ≡ w ∷ ws
words_by_line w [] first others = words-onto w [] [] first refl
words_by_line w (v ∷ vs) first others = words-onto w (spaced (v ∷ vs)) (v ∷ vs) first (ap (λ ws. [] ∷ ws) (words_by_line v vs others.0 others.1))

over-none : (ws : List (List ℕ)) → is_over ws ≡ true → ws ≡ []
over-none [] h = refl
over-none (w ∷ ws) h = absurd (cc)

-- what all words of a line say
pub whole_sound : {A : Type 0} {read : Read A} {text : A → List (List ℕ)} {Is : A → Type 0} → Reads read text Is → (ws : List (List ℕ)) (x : A) → whole (read ws) ≡ Some x → (ws ≡ text x) × Is x
whole_sound {read = read} {text = text} {Is = Is} reads ws x h =
    let (p, e, h1) = given-some (read ws) (λ p. if is_over p.1 then Some p.0 else None) x h in
    let (same, is) = reads.sound ws p.0 p.1 e in
    chosen (λ y. (ws ≡ text y) × Is y) (is_over p.1) (Some p.0) None
    (λ t y f. same_some (λ y. (ws ≡ text y) × Is y) p.0 y f (same ∙ ap (λ v. text p.0 ++ v) (over-none p.1 t) ∙ append-nil (text p.0), is)) (λ y f. absurd (cc)) x h1

pub whole_found : {A : Type 0} {read : Read A} {text : A → List (List ℕ)} {Is : A → Type 0} → Reads read text Is → (x : A) → Is x → whole (read (text x)) ≡ Some x
whole_found {read = read} {text = text} reads x is =
    ap (λ ws. whole (read ws)) (sym (append-nil (text x))) ∙ ap whole (reads.complete x [] is)
