-- Watchers that hear the same entries one after another.
use Rattle.std.proofs.Common.{◌≡◌, ◌≢◌, ◌≤◌, ◌<◌, ◌+◌, ℕ, List, [], ◌∷◌, length, Some, slice_get, slice_set, get_or, map, refl, sym, ap, ◌∙◌, subst, arith, inl, inr, Bool, true, false, take, zero, suc, length-set, get_or-set_same}
use Rattle.std.proofs.lemmas.Bool.Decides.{nat_tests}
use Rattle.std.proofs.lemmas.Bool.{cases_lt}
use Rattle.std.proofs.lemmas.Option.{slice_get_within, slice_get-get_or}
use Rattle.std.specs.Prelude.{if◌then◌else◌, nat_lt}
use Rattle.wfe_outside.specs.defs.Entry.{Entry}
use Rattle.wfe_server_out.specs.Heard.{Gains, Hears, HearsSome, Seen}
use Rattle.wfe_server_out.proofs.Hearing.{gains_none}

-- the first few watchers have heard the entries, and the rest are as they were
pub record HeardFirst {W : Type 0} (seen : Seen W) (xs : List Entry) (few : ℕ) (old new : List W) : Type 0 where
  pub count : length new ≡ length old
  pub boxes : map seen.place new ≡ map seen.place old
  pub told : (k : ℕ) (v w : W) → k < few → slice_get old k ≡ Some v → slice_get new k ≡ Some w → Gains seen.stands v w xs
  pub rest : (k : ℕ) → few ≤ k → slice_get new k ≡ slice_get old k

get_other : {W : Type 0} (ws : List W) (i k : ℕ) (w : W) → k ≢ i → slice_get (slice_set ws i w) k ≡ slice_get ws k
get_other [] i k w ne = refl
get_other (v ∷ ws) zero zero w ne = absurd (ne refl)
get_other (v ∷ ws) zero (suc k) w ne = refl
get_other (v ∷ ws) (suc i) zero w ne = refl
get_other (v ∷ ws) (suc i) (suc k) w ne = get_other ws i k w (λ q. ne (ap suc q))

get_same : {W : Type 0} (ws : List W) (i : ℕ) (w : W) → i < length ws → slice_get (slice_set ws i w) i ≡ Some w
get_same ws i w within = slice_get-get_or (slice_set ws i w) i w (omega (arith, length-set ws i w)) ∙ ap Some (get_or-set_same ws i w w within)

-- a box in its own place changes no place
map_set_same : {W P : Type 0} (f : W → P) (ws : List W) (i : ℕ) (d w : W) → f w ≡ f (get_or ws i d) → map f (slice_set ws i w) ≡ map f ws
map_set_same f [] i d w same = refl
map_set_same f (v ∷ ws) zero d w same = ap (λ x. x ∷ map f ws) same
map_set_same f (v ∷ ws) (suc i) d w same = ap (λ xs. f v ∷ xs) (map_set_same f ws i d w same)

pub first_none : {W : Type 0} (seen : Seen W) (xs : List Entry) (ws : List W) → HeardFirst seen xs 0 ws ws
first_none seen xs ws = record { count = refl; boxes = refl; told = λ k v w less e f. absurd (omega arith); rest = λ k more. refl }

-- at the place that is set, the old list has the item before and the new one the item after
at_turn : {W : Type 0} (seen : Seen W) (xs ys : List Entry) (i : ℕ) (old mid : List W) (d w v x : W) → HeardFirst seen xs i old mid → i < length mid →
    slice_get old i ≡ Some v → slice_get (slice_set mid i w) i ≡ Some x → Gains seen.stands (get_or mid i d) w ys → Gains seen.stands v x ys
at_turn seen xs ys i old mid d w v x first within e f gains =
    let at : slice_get mid i ≡ Some (get_or mid i d) = slice_get-get_or mid i d within in
    let kept : slice_get mid i ≡ slice_get old i = first.rest i (omega arith) in
    let now : slice_get (slice_set mid i w) i ≡ Some w = get_same mid i w within in
    let same_old : get_or mid i d ≡ v = cc in
    let same_new : w ≡ x = cc in
    subst (λ y. Gains seen.stands v y ys) same_new (subst (λ y. Gains seen.stands y w ys) same_old gains)

-- the next one hears them
pub first_more : {W : Type 0} (seen : Seen W) (xs : List Entry) (i : ℕ) (old mid : List W) (d w : W) →
    HeardFirst seen xs i old mid → i < length mid → seen.place w ≡ seen.place (get_or mid i d) → Gains seen.stands (get_or mid i d) w xs → HeardFirst seen xs (i + 1) old (slice_set mid i w)
first_more seen xs i old mid d w first within at gains = record {
  count = length-set mid i w ∙ first.count;
  boxes = map_set_same seen.place mid i d w at ∙ first.boxes;
  told = λ k v x less e f.
      elim (cases_lt k i) [
        | inl before ↦ first.told k v x before e (sym (get_other mid i k w (λ q. absurd (omega arith))) ∙ f)
        | inr after ↦
            let here : k ≡ i = omega arith in
            at_turn seen xs xs i old mid d w v x first within (subst (λ j. slice_get old j ≡ Some v) here e) (subst (λ j. slice_get (slice_set mid i w) j ≡ Some x) here f) gains
      ];
  rest = λ k more. get_other mid i k w (λ q. absurd (omega arith)) ∙ first.rest k (omega arith);
}

-- each has heard them
pub first_all : {W : Type 0} (seen : Seen W) (xs : List Entry) (few : ℕ) (old new : List W) → length new ≤ few → HeardFirst seen xs few old new → Hears seen old new xs
first_all seen xs few old new all first = record {
  count = first.count;
  boxes = first.boxes;
  each = λ k v w e f. let within : k < length new = slice_get_within new k w f in first.told k v w (omega arith) e f;
}

-- the next one stays as it was, and it ends there: those before it are ahead by this entry
pub first_stays : {W : Type 0} (seen : Seen W) (x : Entry) (i : ℕ) (old mid : List W) (d w : W) →
    HeardFirst seen (x ∷ []) i old mid → i < length mid → w ≡ get_or mid i d → HearsSome seen old (slice_set mid i w) (x ∷ [])
first_stays seen x i old mid d w first within same = record {
  count = length-set mid i w ∙ first.count;
  boxes = map_set_same seen.place mid i d w (ap seen.place same) ∙ first.boxes;
  all = 0;
  ahead = i;
  each = λ k v y e f.
      elim (cases_lt k i) [
        | inl before ↦
            let less : nat_lt k i ≡ true = grind (arith, nat_tests) in
            subst (λ (ahead : Bool). Gains seen.stands v y (take (if ahead then 1 else 0) (x ∷ []))) (sym less)
            (first.told k v y before e (sym (get_other mid i k w (λ q. absurd (omega arith))) ∙ f))
        | inr after ↦
            let less : nat_lt k i ≡ false = grind (arith, nat_tests) in
            subst (λ (ahead : Bool). Gains seen.stands v y (take (if ahead then 1 else 0) (x ∷ []))) (sym less)
            (elim (cases_lt i k) [
              | inl later ↦
                  let kept : slice_get (slice_set mid i w) k ≡ slice_get old k = get_other mid i k w (λ q. absurd (omega arith)) ∙ first.rest k (omega arith) in
                  let kept_same : v ≡ y = cc in
                  gains_none seen.stands v y kept_same
              | inr not_later ↦
                  let here : k ≡ i = omega arith in
                  at_turn seen (x ∷ []) [] i old mid d w v y first within (subst (λ j. slice_get old j ≡ Some v) here e) (subst (λ j. slice_get (slice_set mid i w) j ≡ Some y) here f)
                  (gains_none seen.stands (get_or mid i d) w (sym same))
            ])
      ];
}
