-- Rows and cuts after an entry.
use Rattle.std.proofs.Common.{◌≡◌, ◌≢◌, ℕ, Bool, true, false, not, ◌&&◌, ◌+◌, ◌==◌, Option, Some, None, is_none, if◌then◌else◌, refl, ap, sym, subst, ◌∙◌, arith}
use Rattle.std.proofs.lemmas.Bool.Decides.{nat_tests}
use Rattle.laws.specs.records.Record.{Past}
use Rattle.laws.specs.records.Record.Past.{Then}
use Rattle.wfe_defs.specs.declared.event.Event.{Event}
use Rattle.wfe_defs.specs.declared.event.Event.TheVariants as events
use Rattle.wfe_defs.specs.declared.event.Root.TheVariants as roots
use Rattle.laws.specs.HoldLaw.{is_last}
use Rattle.laws.specs.StateAt.{clock_of, head_at, is_row, next_at, taken_at}
use Rattle.wfe_check_rows.specs.Positions.{entries}
use Rattle.wfe_check_held.specs.Roots.{last_row}
use Rattle.wfe_check_held.specs.Steps.{cut_after, row_after}
use Rattle.wfe_check_held.specs.Times.{IsRow, cut_clock}
use Rattle.wfe_check_held.specs.declared.rows.Row.{Row}

-- a row
stays : (b : Bool) (x y z : ℕ) → z ≡ y → z ≡ (if b && not b then x else y)
stays true x y z e = e
stays false x y z e = e

-- a row that is the last one of the queue is the head's row, where that has no next one
pub last-row : (slots s : ℕ) (p : Past) → is_last slots s p ≡ is_row s (last_row slots p)
last-row slots s p = at_head (head_at slots p) s (λ n. is_none (next_at n p))
  where
    here : (s : ℕ) (b : Bool) → b ≡ is_row s (if b then Some s else None)
    here s true = grind (arith, nat_tests)
    here s false = refl

    apart : (h s : ℕ) (b : Bool) → h ≢ s → false ≡ is_row s (if b then Some h else None)
    apart h s true ne = grind (arith, nat_tests)
    apart h s false ne = refl

    at_head : (h s : ℕ) (f : ℕ → Bool) → (h == s && f s) ≡ is_row s (if f h then Some h else None)
    at_head h s f = elim (h == s) as (λ b. (h == s) ≡ b → (b && f s) ≡ is_row s (if f h then Some h else None)) [
      | true ↦ λ t.
          let e : h ≡ s = grind (arith, nat_tests) in
          subst (λ (n : ℕ). f s ≡ is_row s (if f n then Some n else None)) (sym e) (here s (f s))
      | false ↦ λ t. let ne : h ≢ s = λ e. grind (arith, nat_tests) in apart h s (f h) ne
    ] refl

pub row_told : (slots s k : ℕ) (p : Past) (event : Event) (last : Option ℕ) (cell : Row) → last ≡ last_row slots p → IsRow slots s p cell →
    IsRow slots s (Then p k event) (row_after s event (entries p + 1) last cell)
row_told slots s k p (events.Give slot birth) last cell e is = record {
  taken = grind (arith, nat_tests, is.taken);
  freed = grind (arith, nat_tests, is.freed, is.taken);
  passed = grind (arith, nat_tests, is.passed);
}
row_told slots s k p (events.Unused slot) last cell e is = record {
  taken = grind (arith, nat_tests, is.taken);
  freed = grind (arith, nat_tests, is.freed, is.taken);
  passed = grind (arith, nat_tests, is.passed);
}
row_told slots s k p (events.Back slot) last cell e is = record {
  taken = grind (arith, nat_tests, is.taken);
  freed = grind (arith, nat_tests, is.freed, is.taken);
  passed = grind (arith, nat_tests, is.passed);
}
row_told slots s k p (events.Link roots.Head slot) last cell e is =
    let was : is_last slots s p ≡ is_row s last = last-row slots s p ∙ ap (λ o. is_row s o) (sym e) in
    record {
      taken = grind (arith, nat_tests, is.taken);
      freed = grind (arith, nat_tests, is.freed, is.taken);
      passed = grind (arith, nat_tests, is.passed, was);
    }
row_told slots s k p (events.Link (roots.Next parent) slot) last cell e is =
    let was : is_last slots s p ≡ is_row s last = last-row slots s p ∙ ap (λ o. is_row s o) (sym e) in
    record {
      taken = grind (arith, nat_tests, is.taken);
      freed = grind (arith, nat_tests, is.freed, is.taken);
      passed = grind (arith, nat_tests, is.passed, was);
    }
row_told slots s k p (events.Link root slot) last cell e is = record {
  taken = is.taken;
  freed = stays (taken_at slots s p) _ _ _ is.freed;
  passed = stays (is_last slots s p) _ _ _ is.passed;
}
row_told slots s k p event last cell e is = record {
  taken = is.taken;
  freed = stays (taken_at slots s p) _ _ _ is.freed;
  passed = stays (is_last slots s p) _ _ _ is.passed;
}

-- a cut
pub cut_told : (i s k : ℕ) (p : Past) (event : Event) (cell : ℕ) → cell ≡ cut_clock i s p → cut_after i s k event (clock_of p) cell ≡ cut_clock i s (Then p k event)
cut_told i s k p (events.Cut slot) cell e = ap (λ n. if i == k && s == slot then clock_of p else n) e
cut_told i s k p event cell e = e ∙ never (i == k) (clock_of p) (cut_clock i s p)
  where
    never : (b : Bool) (x y : ℕ) → y ≡ (if b && false then x else y)
    never true x y = refl
    never false x y = refl
