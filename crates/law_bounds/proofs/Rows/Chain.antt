-- From the head the next links lead through all rows of the queue, one for each number.
use Rattle.std.proofs.Common.{ℕ, zero, suc, ◌≡◌, ◌≤◌, ◌+◌, Bool, true, false, List, [], ◌∷◌, length, Option, Some, None, refl, sym, ap, ◌∙◌, subst, arith, ◌⊎◌, inl, inr}
use Rattle.std.proofs.lemmas.Bool.Decides.{nat_tests}
use Rattle.std.specs.Prelude.{◌==◌, ◌||◌, not}
use Rattle.law_all.proofs.inv.model.Facts.{both, either_true, false_by, not_of_false, number_is, or_more}
use Rattle.law_all.specs.inv.history.Record.{Past}
use Rattle.law_all.specs.inv.rows.Queue.{InLine, Line}
use Rattle.law_all.specs.laws.StateAt.{is_one_of, next_at}
use Rattle.law_scans.proofs.Ordering.Ordered.{word_of}
use Rattle.law_bounds.specs.Rows.{are_apart, rows_from}

-- what the record says of next links is so, and numbers end with the number of all queued
pub record Leading (q past : ℕ → Bool) (l : Line) (next : ℕ → ℕ) (head tail most : ℕ) (p : Past) : Type 0 where
  pub line : InLine q past l next head tail
  pub links : (s : ℕ) → q s ≡ true → word_of (next_at s p) ≡ next s
  pub last : (s : ℕ) → q s ≡ true → next s ≡ 0 → l.number s ≡ most
  pub within : (s : ℕ) → q s ≡ true → l.number s ≤ most

-- these are the rows of the queue with numbers from this one on
pub record Follows (q : ℕ → Bool) (number : ℕ → ℕ) (low count : ℕ) (rows : List ℕ) : Type 0 where
  pub long : length rows ≡ count
  pub within : (s : ℕ) → is_one_of s rows ≡ true → (q s ≡ true) × (low ≤ number s)
  pub all : (s : ℕ) → q s ≡ true → low ≤ number s → is_one_of s rows ≡ true
  pub apart : are_apart rows ≡ true

one_here : (s h : ℕ) (more : Bool) → s ≡ h → ((s == h) || more) ≡ true
one_here s h more e = grind (arith, nat_tests)

alone : (s h : ℕ) → ((s == h) || false) ≡ true → s ≡ h
alone s h e = grind (arith, nat_tests)

module _ (q past : ℕ → Bool) (l : Line) (next : ℕ → ℕ) (head tail most : ℕ) (p : Past) (g : Leading q past l next head tail most p) where
  last_follows : (h : ℕ) → q h ≡ true → l.number h + 0 ≡ most → Follows q l.number (l.number h) 1 (h ∷ [])
  last_follows h i n = record {
    long = refl;
    within = λ s e. let same : h ≡ s = sym (alone s h e) in (ap q (sym same) ∙ i, subst (λ (x : ℕ). l.number h ≤ l.number x) same (omega arith));
    all = λ s e low. let high = g.within s e in one_here s h false (g.line.one s h e i (omega (arith, low, high, n)));
    apart = refl;
  }

  more_follows : (h t m : ℕ) (rows : List ℕ) → q h ≡ true → l.number t ≡ l.number h + 1 → Follows q l.number (l.number t) (suc m) rows → Follows q l.number (l.number h) (suc (suc m)) (h ∷ rows)
  more_follows h t m rows i n f = record {
    long = ap suc f.long;
    within = λ s e. in_more s (either_true (s == h) (is_one_of s rows) e);
    all = λ s e low. all_more s e low (l.number h == l.number s) refl;
    apart = both (not (is_one_of h rows)) (are_apart rows) (not_of_false (is_one_of h rows) (false_by (is_one_of h rows) (λ e. let w = f.within h e in let low = w.1 in omega (arith, low, n)))) f.apart;
  }
    where
      in_more : (s : ℕ) → ((s == h) ≡ true) ⊎ (is_one_of s rows ≡ true) → (q s ≡ true) × (l.number h ≤ l.number s)
      in_more s (inl e) = let same : h ≡ s = sym (number_is s h e) in (ap q (sym same) ∙ i, subst (λ (x : ℕ). l.number h ≤ l.number x) same (omega arith))
      in_more s (inr e) = let w = f.within s e in let low = w.1 in (w.0, omega (arith, low, n))

      all_more : (s : ℕ) → q s ≡ true → l.number h ≤ l.number s → (same : Bool) → (l.number h == l.number s) ≡ same → ((s == h) || is_one_of s rows) ≡ true
      all_more s e low true k = one_here s h (is_one_of s rows) (g.line.one s h e i (sym (number_is (l.number h) (l.number s) k)))
      all_more s e low false k = or_more (s == h) (is_one_of s rows) (f.all s e (grind (arith, nat_tests, n, low, k)))

  pub chain : (n h : ℕ) → q h ≡ true → l.number h + n ≡ most → Follows q l.number (l.number h) (suc n) (rows_from (suc n) (Some h) p)
  chain zero h i e = last_follows h i e
  chain (suc m) h i e = by (next_at h p) refl (λ t there f. chain m t there f)
    where
      by : (x : Option ℕ) → next_at h p ≡ x → ((t : ℕ) → q t ≡ true → l.number t + m ≡ most → Follows q l.number (l.number t) (suc m) (rows_from (suc m) (Some t) p))
          → Follows q l.number (l.number h) (suc (suc m)) (h ∷ rows_from (suc m) (next_at h p) p)
      by None o f =
          let null : next h ≡ 0 = sym (g.links h i) ∙ ap word_of o in
          let all : l.number h ≡ most = g.last h i null in
          absurd (omega (arith, all, e))
      by (Some t) o f =
          let to : next h ≡ t + 1 = sym (g.links h i) ∙ ap word_of o in
          let there : q t ≡ true = g.line.links h t i to in
          let rises : l.number t ≡ l.number h + 1 = g.line.rises h t i to in
          subst (λ (x : Option ℕ). Follows q l.number (l.number h) (suc (suc m)) (h ∷ rows_from (suc m) x p)) (sym o)
          (more_follows h t m (rows_from (suc m) (Some t) p) i rises (f t there (omega (arith, rises, e))))
