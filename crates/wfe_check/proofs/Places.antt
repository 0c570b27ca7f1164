-- What stands, and what is linked, is of the table.
use Rattle.std.proofs.Common.{ℕ, zero, suc, ◌≡◌, ◌<◌, ◌==◌, ◌||◌, ◌∙◌, List, [], ◌∷◌, length, get_or, Bool, true, false, Option, Some, None, refl, sym, ap, arith}
use Rattle.std.proofs.lemmas.Bool.Decides.{nat_tests}
use Rattle.std.specs.Prelude.{is_none, if◌then◌else◌}
use Rattle.laws.specs.records.Record.{Past}
use Rattle.laws.specs.HoldLaw.{got_right, gots_ok, stands_as}
use Rattle.laws.specs.ScanLaw.{Blocks, seeks_room}
use Rattle.laws.specs.StateAt.{has_told, head_at, is_one_of, next_at}
use Rattle.laws.specs.StructuresAt.{row_at}
use Rattle.wfe_defs.proofs.Facts.{same_number}
use Rattle.wfe_defs.specs.Events.{is_null}
use Rattle.wfe_defs.specs.declared.call.Call.{Call}
use Rattle.wfe_defs.specs.declared.event.Event.{Event}
use Rattle.wfe_defs.specs.declared.event.Event.TheVariants as events
use Rattle.wfe_check_calls.specs.Sought.{seeks_by}
use Rattle.wfe_check_held.specs.Roots.{last_row}
use Rattle.wfe_check_held.specs.Tests.{IsSought}

-- no row is next to the head's
pub last_none : (slots head : ℕ) (p : Past) → head ≡ head_at slots p → next_at head p ≡ None → Some head ≡ last_row slots p
last_none slots head p h n =
    let none : is_none (next_at (head_at slots p) p) ≡ true = ap (λ s. is_none (next_at s p)) (sym h) ∙ ap is_none n in
    ap Some h ∙ sym (ap (λ b. if b then Some (head_at slots p) else None) none)

-- one is
pub last_some : (slots head next : ℕ) (p : Past) → head ≡ head_at slots p → next_at head p ≡ Some next → None ≡ last_row slots p
last_some slots head next p h n =
    sym (ap (λ b. if b then Some (head_at slots p) else None) (ap (λ s. is_none (next_at s p)) (sym h) ∙ ap is_none n))

-- a row of a list is one of it
pub member_at : (rows : List ℕ) (k d : ℕ) → k < length rows → is_one_of (get_or rows k d) rows ≡ true
member_at [] k d h = absurd (omega (arith, h))
member_at (row ∷ rows) zero d h = first row (is_one_of row rows)
  where
    first : (s : ℕ) (rest : Bool) → ((s == s) || rest) ≡ true
    first s rest = rw (same_number s) refl
member_at (row ∷ rows) (suc k) d h = later (get_or rows k d == row) (is_one_of (get_or rows k d) rows) (member_at rows k d (omega (arith, h)))
  where
    later : (a b : Bool) → b ≡ true → (a || b) ≡ true
    later true b e = refl
    later false b e = e

-- whether a block seeks room, where the entry reads
pub sought_is : (event : Event) (seeks : Bool) (call : Option Call) (blocks : Blocks) → seeks ≡ seeks_by event call blocks → IsSought event seeks (seeks_room call blocks)
sought_is (events.Read guard span) seeks call blocks e = e
sought_is (events.Saw guard slot) seeks call blocks e = e
sought_is event seeks call blocks e = tt

-- a get that tells version 0
pub got_none : (i : ℕ) (p : Past) (event : Event) (bucket version key : ℕ) (value : Option ℕ) → event ≡ events.Got bucket version key value → version ≡ 0 → has_told i (is_null 0) p ≡ gots_ok p i event
got_none i p event bucket version key value e z = sym (ap (gots_ok p i) e ∙ ap (λ v. got_right bucket v i p) z)

-- and one that tells a later one
pub got_row : (i : ℕ) (p : Past) (event : Event) (bucket version key : ℕ) (value : Option ℕ) (row : Option ℕ) → event ≡ events.Got bucket version key value → (version ≡ 0 → ⊥) → row ≡ row_at bucket version p → stands_as i 0 p row ≡ gots_ok p i event
got_row i p event bucket version key value row e never is =
    let later : (version == 0) ≡ false = not_zero version never in
    ap (stands_as i 0 p) is ∙ sym (ap (gots_ok p i) e ∙ ap (λ b. if b then has_told i (is_null 0) p else stands_as i 0 p (row_at bucket version p)) later)
  where
    not_zero : (n : ℕ) → (n ≡ 0 → ⊥) → (n == 0) ≡ false
    not_zero n never = grind (arith, nat_tests)
