-- The text of numbers, one after the other.
use Rattle.std.proofs.Common.{◌≡◌, ◌+◌, ◌<◌, ℕ, List, [], ◌∷◌, ◌++◌, refl, ap, sym, ◌∙◌, append_assoc, append-nil, take, map, length, get_or}
use Rattle.std.proofs.lemmas.List.{take_more}
use Rattle.std.specs.Fmt.{decimal}
use Rattle.wfe_text.specs.Record.{spaced}

-- one more number at the end
spaced-push : (ns : List ℕ) (n : ℕ) → spaced (map decimal (ns ++ n ∷ [])) ≡ spaced (map decimal ns) ++ (32 ∷ decimal n)
spaced-push [] n = append-nil (32 ∷ decimal n)
spaced-push (m ∷ ns) n = ap (λ t. (32 ∷ decimal m) ++ t) (spaced-push ns n) ∙ sym (append_assoc (32 ∷ decimal m) (spaced (map decimal ns)) (32 ∷ decimal n))

pub spaced_more : (ns : List ℕ) (i : ℕ) → i < length ns → spaced (map decimal (take (i + 1) ns)) ≡ spaced (map decimal (take i ns)) ++ (32 ∷ decimal (get_or ns i 0))
spaced_more ns i within = ap (λ ms. spaced (map decimal ms)) (take_more ns i 0 within) ∙ spaced-push (take i ns) (get_or ns i 0)

-- the words of two texts, one after the other
pub spaced-append : (vs ws : List (List ℕ)) → spaced (vs ++ ws) ≡ spaced vs ++ spaced ws
spaced-append [] ws = refl
spaced-append (v ∷ vs) ws = ap (λ t. (32 ∷ v) ++ t) (spaced-append vs ws) ∙ sym (append_assoc (32 ∷ v) (spaced vs) (spaced ws))

pub spaced_then : (a b c : List ℕ) (vs ws us : List (List ℕ)) → us ≡ vs ++ ws → b ≡ a ++ spaced vs → c ≡ b ++ spaced ws → c ≡ a ++ spaced us
spaced_then a b c vs ws us parts first second = rw (parts, spaced-append vs ws, ← append_assoc a (spaced vs) (spaced ws), ← first) second
