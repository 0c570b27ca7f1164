-- The events of a call, added one after another.
use Rattle.std.proofs.Common.{Err, List, Ok, OnOk, Result, [], ap, get_or, length, min, refl, sym, take, ℕ, ◌++◌, ◌+◌, ◌<◌, ◌∙◌, ◌∷◌, ◌≡◌}
use Rattle.std.proofs.lemmas.List.{append_assoc, drop_min, take_min, take_more}
use Rattle.std.specs.Prelude.{drop}
use Rattle.law_all.specs.RunLaw.{backs}
use Rattle.wfe_core.specs.defs.declared.event.Event.{Event}
use Rattle.wfe_core.specs.defs.declared.event.Event.TheVariants as events

backs-append : (xs ys : List ℕ) → backs (xs ++ ys) ≡ backs xs ++ backs ys
backs-append [] ys = refl
backs-append (x ∷ xs) ys = ap (λ (told : List Event). events.Back x ∷ told) (backs-append xs ys)

-- one slot more
pub backs_more : (slots : List ℕ) (place : ℕ) → place < length slots → backs (take (place + 1) slots) ≡ backs (take place slots) ++ events.Back (get_or slots place 0) ∷ []
backs_more slots place within = ap backs (take_more slots place 0 within) ∙ backs-append (take place slots) (get_or slots place 0 ∷ [])

-- the same of a list that has those before
pub backs_pushed : (old before after : List Event) (slots : List ℕ) (place : ℕ) → place < length slots → before ≡ old ++ backs (take place slots) → after ≡ before ++ events.Back (get_or slots place 0) ∷ []
    → after ≡ old ++ backs (take (place + 1) slots)
backs_pushed old before after slots place within b a =
    a ∙ ap (λ (told : List Event). told ++ events.Back (get_or slots place 0) ∷ []) b ∙ append_assoc old (backs (take place slots)) (events.Back (get_or slots place 0) ∷ [])
    ∙ ap (λ (told : List Event). old ++ told) (sym (backs_more slots place within))

-- the early ones of the slots that went back, and the others
pub early_taken : (count early : ℕ) (first slots back : List ℕ) → count ≡ min early (length slots) → slots ≡ back → first ≡ take count slots → backs first ≡ backs (take early back)
early_taken count early first slots back c same f = ap backs (f ∙ ap (λ (n : ℕ). take n slots) c ∙ take_min early slots ∙ ap (take early) same)

pub late_left : (count early : ℕ) (last slots back : List ℕ) → count ≡ min early (length slots) → slots ≡ back → last ≡ drop count slots → backs last ≡ backs (drop early back)
late_left count early last slots back c same f = ap backs (f ∙ ap (λ (n : ℕ). drop n slots) c ∙ drop_min early slots ∙ ap (drop early) same)

-- lists that are added one after another
pub joined : (old a b c d e f g h : List Event) (x y : Event) (backs_early given owed unused retired backs_late : List Event)
    → a ≡ old ++ x ∷ [] → b ≡ a ++ backs_early → c ≡ b ++ given → d ≡ c ++ owed → e ≡ d ++ unused → f ≡ e ++ retired → g ≡ f ++ backs_late → h ≡ g ++ y ∷ []
    → h ≡ old ++ x ∷ (backs_early ++ (given ++ (owed ++ (unused ++ (retired ++ (backs_late ++ y ∷ []))))))
joined old a b c d e f g h x y early given owed unused retired late ha hb hc hd he hf hg hh =
    let all : h ≡ (((((((old ++ x ∷ []) ++ early) ++ given) ++ owed) ++ unused) ++ retired) ++ late) ++ y ∷ [] = cc in
    let regroup : (((((((old ++ x ∷ []) ++ early) ++ given) ++ owed) ++ unused) ++ retired) ++ late) ++ y ∷ [] ≡ old ++ x ∷ (early ++ (given ++ (owed ++ (unused ++ (retired ++ (late ++ y ∷ [])))))) = simp append_assoc in
    all ∙ regroup

-- what follows where it went well
pub on_ok : {T E : Type 0} {P Q : Type 0} (r : Result T E) → OnOk r P → (P → Q) → OnOk r Q
on_ok (Ok x) p f = f p
on_ok (Err e) p f = tt
