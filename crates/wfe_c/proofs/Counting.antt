-- Each step on a tally keeps its rule.
use Rattle.std.proofs.Common.{Bool, List, ap, arith, eq-eqb, get_or, inl, inr, length, length-append, length-set, ne_eqb, refl, set, subst, sym, ⊎_elim, ℕ, zero, suc, [], ◌%◌, ◌+◌, ◌++◌, ◌<◌, ◌^◌, ◌∙◌, ◌∷◌, ◌≡◌, ◌≢◌, ◌≤◌, ◌⊎◌}
use Rattle.std.specs.Prelude.{if◌then◌else◌}
use mathlib.Core.Option.{none, some, some-injective, some-ne-none}
use lib.ListN.{get_elem?}
use Rattle.atomic_table.specs.Table.{Allows, Enters, keeps, opening, step}
use Rattle.atomic_table.proofs.Lists.{at_set, set_again}
use Rattle.wfe_c.specs.Tally.{Event, IsCounted, Knows, comes, counted_in, counts, finds, found_by, goes, looks}

module _ {A : Type 0} where
  -- where something is found in a list
  within : (l : List A) (i : ℕ) (a : A) → get_elem? l i ≡ some a → i < length l
  within [] i a e = absurd (some-ne-none a (sym e))
  within (x ∷ xs) zero a e = omega arith
  within (x ∷ xs) (suc i) a e = let r = within xs i a e in omega (arith, r)

  at_end : (l : List A) (a b : A) (i : ℕ) → get_elem? (l ++ a ∷ []) i ≡ some b → (get_elem? l i ≡ some b) ⊎ ((a ≡ b) × (length l ≡ i))
  at_end [] a b zero e = inr (some-injective a b e, refl)
  at_end [] a b (suc i) e = absurd (some-ne-none b (sym e))
  at_end (x ∷ xs) a b zero e = inl e
  at_end (x ∷ xs) a b (suc i) e = ⊎_elim inl (λ p. inr (p.0, ap suc p.1)) (at_end xs a b i e)

-- a look is found by the member that looks, and by no other
found_own : (log : List Event) (by : ℕ) → found_by by (looks by ∷ log) ≡ counted_in log ∷ found_by by log
found_own log by = ap (λ (b : Bool). if b then counted_in log ∷ found_by by log else found_by by log) (eq-eqb by by refl)

found_other : (log : List Event) (by member : ℕ) → by ≢ member → found_by member (looks by ∷ log) ≡ found_by member log
found_other log by member apart = ap (λ (b : Bool). if b then counted_in log ∷ found_by member log else found_by member log) (ne_eqb by member apart)

-- a new tally
pub opens : IsCounted (opening (0 ∷ []) [] [])
opens = record {
  log = [];
  word = refl;
  found = λ member view at. ⊎_elim (λ none. absurd (some-ne-none view (sym none))) (λ p. sym p.0) (at_end {A = List ℕ} [] [] view member at);
  none = λ member far. refl;
}

pub comes_in : (slots : ℕ) → Enters IsCounted slots 0 (λ found view. comes (step slots 0 0 0 none) ([], []) found (view, []))
comes_in slots s r _ _ = (
  [],
  record {
    log = r.log;
    word = r.word;
    found = λ member view at. ⊎_elim (λ there. r.found member view there) (λ p. sym p.0 ∙ sym (r.none member (omega (arith, p.1)))) (at_end s.views [] view member at);
    none = λ member far. r.none member (omega (arith, far, length-append s.views ([] ∷ [])));
  },
  refl,
)

pub looks_on : (slots id : ℕ) (me : Knows) → Allows IsCounted slots id me 0 (λ n. n) (finds (step slots 0 0 0 none) me)
looks_on slots id me s r _ at _ =
    let n : ℕ = get_or s.words 0 0 in
    let is : n ≡ counted_in r.log = ap (λ (words : List ℕ). get_or words 0 0) r.word in
    let low : id < length s.views = within s.views id me.0 at in
    let new : n ∷ me.0 ≡ found_by id (looks id ∷ r.log) = (λ i. is i ∷ r.found id me.0 at i) ∙ sym (found_own r.log id) in (
      n ∷ me.0,
      keeps,
      tt,
      record {
        log = looks id ∷ r.log;
        word = ap (λ (words : List ℕ). set words 0 (get_or words 0 0)) r.word;
        found = λ member view there. ⊎_elim
            (λ p. sym p.1 ∙ new ∙ ap (λ (m : ℕ). found_by m (looks id ∷ r.log)) (sym p.0))
            (λ p. r.found member view p.1 ∙ sym (found_other r.log id member (λ e. p.0 (sym e))))
            (at_set s.views id member (n ∷ me.0) view there);
        none = λ member far.
            let size : length (set s.views id (n ∷ me.0)) ≡ length s.views = length-set s.views id (n ∷ me.0) in
            found_other r.log id member (λ e. omega (arith, e, far, low, size)) ∙ r.none member (omega (arith, far, size));
      },
      refl,
    )

pub counts_one : (slots id : ℕ) (me : Knows) → Allows IsCounted slots id me 0 (λ n. (n + 1) % 2 ^ 64) (goes (step slots 0 1 0 none) me)
counts_one slots id me s r _ at _ =
    let same : set s.views id me.0 ≡ s.views = set_again s.views id me.0 at in (
      me.0,
      keeps,
      tt,
      record {
        log = counts ∷ r.log;
        word = ap (λ (words : List ℕ). set words 0 ((get_or words 0 0 + 1) % 2 ^ 64)) r.word;
        found = λ member view there. r.found member view (subst (λ (views : List (List ℕ)). get_elem? views member ≡ some view) same there);
        none = λ member far. r.none member (subst (λ (views : List (List ℕ)). length views ≤ member) same far);
      },
      refl,
    )
