-- No object is lost or there twice.
use Rattle.std.proofs.Common.{Bool, List, None, Option, Some, [], ap, arith, false, length, refl, true, ℕ, ◌+◌, ◌<◌, ◌==◌, ◌∙◌, ◌∷◌, ◌≡◌, ◌≤◌, ◌⊎◌, cond, inl, inr}
use Rattle.std.proofs.lemmas.Bool.{cases_lt}
use Rattle.std.proofs.lemmas.List.{get_or_past, length-set, set_past}
use Rattle.std.proofs.lemmas.List.Sums.{sum_by-set, sum_by_push}
use Rattle.std.specs.Prelude.{IfSome, count_by, if◌then◌else◌, is_some, slice_set, sum_by}
use Rattle.wfe_core.specs.defs.declared.lifetime.Lifetime.{Lifetime}
use Rattle.wfe_table.specs.all.RunLaw.{early_backs, late_backs}
use Rattle.wfe_cells.specs.Stores.{NoneLost, StoreNow, freed, is_object, left_over, object_at, retired, times_in, unkept, with_back, with_backs, with_kept}

freed_long : (o : Option ℕ) (slot : ℕ) (s : StoreNow) → length (freed o slot s).kept ≡ length s.kept
freed_long None slot s = length-set s.kept slot None
freed_long (Some object) slot s = length-set s.kept slot None

pub back_long : (slot : ℕ) (s : StoreNow) → length (with_back slot s).kept ≡ length s.kept
back_long slot s = by (s.spare == 0)
  where
    by : (b : Bool) → length (if b then s else freed (object_at s.kept slot) slot s).kept ≡ length s.kept
    by true = refl
    by false = freed_long (object_at s.kept slot) slot s

pub backs_long : (slots : List ℕ) (s : StoreNow) → length (with_backs slots s).kept ≡ length s.kept
backs_long [] s = refl
backs_long (slot ∷ slots) s = backs_long slots (with_back slot s) ∙ back_long slot s

module _ (object : ℕ) where
  set_same : (kept : List (Option ℕ)) (slot : ℕ) (o : Option ℕ) → slot < length kept → sum_by (is_object object) (slice_set kept slot o) + is_object object (object_at kept slot) ≡ sum_by (is_object object) kept + is_object object o
  set_same kept slot o within = sum_by-set (is_object object) kept slot o None within

  freed_same : (o : Option ℕ) (slot : ℕ) (s : StoreNow) → object_at s.kept slot ≡ o → times_in object (freed o slot s) ≡ times_in object s
  freed_same None slot s e = by (cases_lt slot (length s.kept))
    where
      by : (slot < length s.kept) ⊎ (length s.kept ≤ slot) → times_in object (freed None slot s) ≡ times_in object s
      by (inl within) = omega (arith, set_same s.kept slot None within, ap (is_object object) e)
      by (inr past) = ap (λ (kept : List (Option ℕ)). sum_by (is_object object) kept + count_by (λ other. other == object) s.free) (set_past s.kept slot None past)
  freed_same (Some other) slot s e = by (cases_lt slot (length s.kept))
    where
      by : (slot < length s.kept) ⊎ (length s.kept ≤ slot) → times_in object (freed (Some other) slot s) ≡ times_in object s
      by (inl within) = omega (arith, set_same s.kept slot None within, ap (is_object object) e, sum_by_push (λ (x : ℕ). cond (x == object) 1 0) s.free other)
      by (inr past) = let none : object_at s.kept slot ≡ None = get_or_past s.kept slot None past in absurd (cc)

  back_same : (slot : ℕ) (s : StoreNow) → times_in object (with_back slot s) ≡ times_in object s
  back_same slot s = by (s.spare == 0)
    where
      by : (b : Bool) → times_in object (if b then s else freed (object_at s.kept slot) slot s) ≡ times_in object s
      by true = refl
      by false = freed_same (object_at s.kept slot) slot s refl

  backs_same : (slots : List ℕ) (s : StoreNow) → times_in object (with_backs slots s) ≡ times_in object s
  backs_same [] s = refl
  backs_same (slot ∷ slots) s = backs_same slots (with_back slot s) ∙ back_same slot s

  kept_same : (slot other : ℕ) (s : StoreNow) → slot < length s.kept → times_in object (with_kept slot other s) + is_object object (unkept slot other s) ≡ times_in object s + is_object object (Some other)
  kept_same slot other s within = by (object_at s.kept slot) refl
    where
      by : (o : Option ℕ) → object_at s.kept slot ≡ o
          → times_in object (if is_some o then s else record { kept = slice_set s.kept slot (Some other); free = s.free; spare = s.spare }) + is_object object (if is_some o then Some other else None) ≡ times_in object s + is_object object (Some other)
      by (Some there) e = refl
      by None e = omega (arith, set_same s.kept slot (Some other) within, ap (is_object object) e)

  retired_same : (life : Option Lifetime) (o : Option ℕ) (s : StoreNow) → IfSome life (λ l. l.slot < length s.kept) → times_in object (retired life o s) + is_object object (left_over life o s) ≡ times_in object s + is_object object o
  retired_same None o s within = refl
  retired_same (Some life) None s within = refl
  retired_same (Some life) (Some other) s within = kept_same life.slot other s within

within_after : (life : Option Lifetime) (s t : StoreNow) → length t.kept ≡ length s.kept → IfSome life (λ l. l.slot < length s.kept) → IfSome life (λ l. l.slot < length t.kept)
within_after None s t e within = tt
within_after (Some life) s t e within = omega (arith, e, within)

pub none_lost : NoneLost
none_lost notes replaced s object within =
    let first : StoreNow = with_backs (early_backs notes) s in
    omega (arith, backs_same object (late_backs notes) (retired notes.retired replaced first), retired_same object notes.retired replaced first (within_after notes.retired s first (backs_long (early_backs notes) s) within), backs_same object (early_backs notes) s)
