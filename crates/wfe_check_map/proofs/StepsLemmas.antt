-- Links stay right where a change is added.
use Rattle.std.proofs.Common.{◌≡◌, ℕ, ◌<◌, ◌≤◌, ◌+◌, List, [], ◌∷◌, ◌++◌, length, suc, refl, sym, ap, subst, ◌∙◌, arith, Option, Some, nat_eq}
use Rattle.std.specs.Prelude.{◌==◌, if◌then◌else◌, Bool, true, false, ◌⊎◌}
use Rattle.std.specs.Option.{unwrap_or}
use Rattle.std.proofs.Common.{inl, inr}
use Rattle.std.specs.Map.{update}
use Rattle.indexmap.specs.IndexMap.{IndexMap, get}
use Rattle.std.proofs.lemmas.Bool.{cases_lt, cases_eq, eq-eqb, ne_eqb}
use Rattle.std.proofs.lemmas.List.{get_or_append_left, get_or_push, length_push}
use Rattle.wfe_check_map.specs.declared.bucket.Step.{Step}
use Rattle.wfe_check_map.specs.Steps.{no_step, numbered, key_at, SkipsTo, IsLast, EndsAt, LinksAt, AreLinked, last_of}

pub numbered_kept : (steps : List Step) (step : Step) (j : ℕ) → j ≤ length steps → numbered (steps ++ step ∷ []) j ≡ numbered steps j
numbered_kept steps step j h = get_or_append_left (no_step ∷ steps) (step ∷ []) no_step j (omega arith)

pub numbered_new : (steps : List Step) (step : Step) → numbered (steps ++ step ∷ []) (suc (length steps)) ≡ step
numbered_new steps step = get_or_push (no_step ∷ steps) step no_step (suc (length steps)) refl

pub skips_kept : (key number bound : ℕ) (steps : List Step) (step : Step) → bound ≤ length steps → SkipsTo key number bound steps → SkipsTo key number bound (steps ++ step ∷ [])
skips_kept key number bound steps step h s =
    record { within = s.within; same = λ k. let within = s.within in ap (λ (x : Step). x.mark.key) (numbered_kept steps step number (omega arith)) ∙ s.same k }

pub last_kept : (key number bound : ℕ) (steps : List Step) (step : Step) → bound ≤ length steps → IsLast key number bound steps → IsLast key number bound (steps ++ step ∷ [])
last_kept key number bound steps step h s =
    record { here = skips_kept key number bound steps step h s.here; none = λ j a b e. s.none j a b (sym (ap (λ (x : Step). x.mark.key) (numbered_kept steps step j (omega arith))) ∙ e) }

links_kept : (steps : List Step) (step : Step) (earlier : ℕ) → earlier < length steps → LinksAt steps earlier → LinksAt (steps ++ step ∷ []) earlier
links_kept steps step earlier h s =
    let P : Step → Type 0 = λ x. (IsLast x.mark.key x.before earlier (steps ++ step ∷ [])) × (SkipsTo x.mark.key x.skip earlier (steps ++ step ∷ [])) in
    let here : P (numbered steps (suc earlier)) = (last_kept _ _ earlier steps step (omega arith) s.before, skips_kept _ _ earlier steps step (omega arith) s.skip) in
    let there = subst P (sym (numbered_kept steps step (suc earlier) (omega arith))) here in
    record { before = there.0; skip = there.1 }

links_new : (steps : List Step) (step : Step) → EndsAt step.mark.key step.before steps → SkipsTo step.mark.key step.skip (length steps) steps → LinksAt (steps ++ step ∷ []) (length steps)
links_new steps step last skip =
    let P : Step → Type 0 = λ x. (IsLast x.mark.key x.before (length steps) (steps ++ step ∷ [])) × (SkipsTo x.mark.key x.skip (length steps) (steps ++ step ∷ [])) in
    let here : P step = (last_kept _ _ (length steps) steps step (omega arith) last, skips_kept _ _ (length steps) steps step (omega arith) skip) in
    let there = subst P (sym (numbered_new steps step)) here in
    record { before = there.0; skip = there.1 }

pub links_pushed : (steps : List Step) (step : Step) → AreLinked steps → EndsAt step.mark.key step.before steps → SkipsTo step.mark.key step.skip (length steps) steps → AreLinked (steps ++ step ∷ [])
links_pushed steps step links last skip earlier h =
    elim (cases_lt earlier (length steps)) [
      | inl below ↦ links_kept steps step earlier below (links earlier below)
      | inr past ↦
          let more = length_push steps step in
          let at : earlier ≡ length steps = omega arith in
          let P : ℕ → Type 0 = LinksAt (steps ++ step ∷ []) in
          subst P (sym at) (links_new steps step last skip)
    ]

cases_le : (m n : ℕ) → (m ≤ n) ⊎ (n < m)
cases_le m n = elim (cases_lt n m) [ inl a ↦ inr a | inr a ↦ inl a ]

chosen : (same : Bool) (value : ℕ) (before : Option ℕ) → unwrap_or (if same then Some value else before) 0 ≡ (if same then value else unwrap_or before 0)
chosen true value before = refl
chosen false value before = refl

-- the last change of the key that was added, and of any other
pub ends_here : (steps : List Step) (step : Step) (number : ℕ) → number ≡ length steps + 1 → EndsAt step.mark.key number (steps ++ step ∷ [])
ends_here steps step number h =
    let more = length_push steps step in
    let at : number ≡ suc (length steps) = omega arith in
    let P : ℕ → Type 0 = λ (n : ℕ). key_at (steps ++ step ∷ []) n ≡ step.mark.key in
    record { here = record { within = omega arith; same = λ k. subst P (sym at) (ap (λ (x : Step). x.mark.key) (numbered_new steps step)) }; none = λ j a b e. omega arith }

pub ends_there : (steps : List Step) (step : Step) (key number : ℕ) → (step.mark.key ≡ key → ⊥) → EndsAt key number steps → EndsAt key number (steps ++ step ∷ [])
ends_there steps step key number apart ends =
    let more = length_push steps step in
    let within = ends.here.within in
    let kept = last_kept key number (length steps) steps step (omega arith) ends in
    record {
      here = record { within = omega arith; same = kept.here.same };
      none = λ j a b e. elim (cases_le j (length steps)) [
        | inl below ↦ kept.none j a below e
        | inr past ↦
            let at : j ≡ suc (length steps) = omega arith in
            let P : ℕ → Type 0 = λ (n : ℕ). key_at (steps ++ step ∷ []) n ≡ key in
            apart (sym (ap (λ (x : Step). x.mark.key) (numbered_new steps step)) ∙ subst P at e)
      ];
    }

pub last_updated : {S : Type 0} (old new : IndexMap ℕ ℕ S) (key value other : ℕ) → get nat_eq new other ≡ update nat_eq (get nat_eq old) key (Some value) other → last_of new other ≡ (if key == other then value else last_of old other)
last_updated old new key value other h = ap (λ (x : Option ℕ). unwrap_or x 0) h ∙ chosen (nat_eq key other) value (get nat_eq old other)

-- so it is of each key
pub ends_pushed : {S : Type 0} (old new : IndexMap ℕ ℕ S) (steps : List Step) (step : Step) (value : ℕ) → ((key : ℕ) → EndsAt key (last_of old key) steps) → value ≡ length steps + 1
    → ((other : ℕ) → get nat_eq new other ≡ update nat_eq (get nat_eq old) step.mark.key (Some value) other) → (key : ℕ) → EndsAt key (last_of new key) (steps ++ step ∷ [])
ends_pushed old new steps step value ends at updates key =
    let P : ℕ → Type 0 = λ (n : ℕ). EndsAt key n (steps ++ step ∷ []) in
    subst P (sym (last_updated old new step.mark.key value key (updates key)))
    (elim (cases_eq step.mark.key key) [
      | inl same ↦ rw (eq-eqb step.mark.key key same) (let Q : ℕ → Type 0 = λ (k : ℕ). EndsAt k value (steps ++ step ∷ []) in subst Q same (ends_here steps step value at))
      | inr apart ↦ rw (ne_eqb step.mark.key key apart) (ends_there steps step key (last_of old key) apart (ends key))
    ])

-- a way that leads no further than the last change of a key leads to one of all changes
pub skips_within : (key number bound : ℕ) (steps : List Step) → EndsAt key bound steps → SkipsTo key number bound steps → SkipsTo key number (length steps) steps
skips_within key number bound steps ends s = let a = ends.here.within in let b = s.within in record { within = omega arith; same = s.same }
