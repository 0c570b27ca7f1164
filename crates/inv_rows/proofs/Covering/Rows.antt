-- A move of rows leaves a row that was linked in its life: what keeps that life keeps it still, unless the row goes back.
use Rattle.std.proofs.Common.{ℕ, ◌≡◌, Bool, true, false, subst, sym, arith, refl}
use Rattle.std.proofs.lemmas.Bool.Decides.{nat_tests}
use Rattle.std.specs.Prelude.{◌==◌, if◌then◌else◌}
use Rattle.inv_rows.specs.defs.declared.shown.Shown.{Shown}
use Rattle.inv_rows.specs.defs.Shown.{keeps}
use Rattle.inv_rows.specs.Rows.{Status, View, RowMove, made, is_settled, passed}
use Rattle.inv_rows.specs.Rows.Status.{Free, Claimed, Born, Linked, InQueue, Cut, Sealed, Listed}
use Rattle.inv_rows.specs.Rows.RowMove.{Stays, Claims, Bears, Drops, Links, Replaces, Appends, Pops, Reads, Seals, Lists, Returns, Adopts}
use Rattle.inv_rows.proofs.Fits.{MoveFits}
use Rattle.inv_rows.specs.Covering.Covers.{life_in, life_of, retired_at, Late, frees}

-- a row whose list another seat takes over is as it was, but for whose list it is on
passed_settled : (from to : ℕ) (status : Status) → is_settled status ≡ true → is_settled (passed from to status) ≡ true
passed_settled from to Free h = h
passed_settled from to (Claimed by) h = h
passed_settled from to (Born by) h = h
passed_settled from to (Linked bucket) h = h
passed_settled from to InQueue h = h
passed_settled from to (Cut by) h = h
passed_settled from to (Sealed by retire) h = h
passed_settled from to (Listed by retire) h = h

passed_retired : (from to : ℕ) (status : Status) → retired_at (passed from to status) ≡ retired_at status
passed_retired from to Free = refl
passed_retired from to (Claimed by) = refl
passed_retired from to (Born by) = refl
passed_retired from to (Linked bucket) = refl
passed_retired from to InQueue = refl
passed_retired from to (Cut by) = refl
passed_retired from to (Sealed by retire) = refl
passed_retired from to (Listed by retire) = refl

listed_on : (to by k retire r : ℕ) (taken : Bool) → (k == to) ≡ false → Listed (if taken then to else by) retire ≡ Listed k r → Listed by retire ≡ Listed k r
listed_on to by k retire r true o e = let z : to ≡ k = cc in absurd (grind (arith, nat_tests))
listed_on to by k retire r false o e = e

passed_listed : (from to k r : ℕ) (status : Status) → (k == to) ≡ false → passed from to status ≡ Listed k r → status ≡ Listed k r
passed_listed from to k r Free o h = h
passed_listed from to k r (Claimed by) o h = h
passed_listed from to k r (Born by) o h = h
passed_listed from to k r (Linked bucket) o h = h
passed_listed from to k r InQueue o h = h
passed_listed from to k r (Cut by) o h = h
passed_listed from to k r (Sealed by retire) o h = h
passed_listed from to k r (Listed by retire) o h = listed_on to by k retire r (by == from) o h

-- a row that was linked keeps its birth and is not free, unless it goes back
pub past_kept : (i : ℕ) (v : View) (m : RowMove) (s : ℕ) → MoveFits i v m → frees m s ≡ false → is_settled (v.status s) ≡ true → is_settled ((made i v m).status s) ≡ true
past_kept i v Stays s b f h = h
past_kept i v (Claims slot) s b f h = grind (arith, nat_tests)
past_kept i v (Bears slot birth) s b f h = grind (arith, nat_tests)
past_kept i v (Drops slot) s b f h = grind (arith, nat_tests)
past_kept i v (Links bucket slot) s b f h = grind (arith, nat_tests)
past_kept i v (Replaces bucket slot old) s b f h = grind (arith, nat_tests)
past_kept i v (Appends slot) s b f h = grind (arith, nat_tests)
past_kept i v (Pops slot next) s b f h = grind (arith, nat_tests)
past_kept i v (Reads slot birth) s b f h = h
past_kept i v (Seals slot birth retire) s b f h = grind (arith, nat_tests)
past_kept i v (Lists slot birth retire) s b f h = grind (arith, nat_tests)
past_kept i v (Returns slot) s b f h = grind (arith, nat_tests)
past_kept i v (Adopts from) s b f h = passed_settled from i (v.status s) h

pub birth_kept : (i : ℕ) (v : View) (m : RowMove) (s : ℕ) → MoveFits i v m → is_settled (v.status s) ≡ true → (made i v m).birth s ≡ v.birth s
birth_kept i v Stays s b h = refl
birth_kept i v (Claims slot) s b h = refl
birth_kept i v (Bears slot birth) s b h = grind (arith, nat_tests)
birth_kept i v (Drops slot) s b h = refl
birth_kept i v (Links bucket slot) s b h = refl
birth_kept i v (Replaces bucket slot old) s b h = refl
birth_kept i v (Appends slot) s b h = refl
birth_kept i v (Pops slot next) s b h = refl
birth_kept i v (Reads slot birth) s b h = refl
birth_kept i v (Seals slot birth retire) s b h = refl
birth_kept i v (Lists slot birth retire) s b h = refl
birth_kept i v (Returns slot) s b h = refl
birth_kept i v (Adopts from) s b h = refl

-- what keeps its life keeps it after the move
pub life_kept : (i : ℕ) (v : View) (m : RowMove) (s : ℕ) (value : Shown) → MoveFits i v m → Late value m → frees m s ≡ false → is_settled (v.status s) ≡ true → keeps (life_in v s) value ≡ true → keeps (life_in (made i v m) s) value ≡ true
life_kept i v Stays s value b l f p h = h
life_kept i v (Claims slot) s value b l f p h = grind (arith, nat_tests)
life_kept i v (Bears slot birth) s value b l f p h = grind (arith, nat_tests)
life_kept i v (Drops slot) s value b l f p h = grind (arith, nat_tests)
life_kept i v (Links bucket slot) s value b l f p h = grind (arith, nat_tests)
life_kept i v (Replaces bucket slot old) s value b l f p h = grind (arith, nat_tests)
life_kept i v (Appends slot) s value b l f p h = grind (arith, nat_tests)
life_kept i v (Pops slot next) s value b l f p h = grind (arith, nat_tests)
life_kept i v (Reads slot birth) s value b l f p h = h
life_kept i v (Seals slot birth retire) s value b l f p h = let k = l s (v.birth s) in grind (arith, nat_tests, k)
life_kept i v (Lists slot birth retire) s value b l f p h = grind (arith, nat_tests)
life_kept i v (Returns slot) s value b l f p h = grind (arith, nat_tests)
life_kept i v (Adopts from) s value b l f p h = subst (λ (r : ℕ). keeps (life_of s (v.birth s) r) value ≡ true) (sym (passed_retired from i (v.status s))) h

pub listed_other : (i k r : ℕ) (v : View) (m : RowMove) (s : ℕ) → (k == i) ≡ false → (made i v m).status s ≡ Listed k r → v.status s ≡ Listed k r
listed_other i k r v Stays s e h = h
listed_other i k r v (Claims slot) s e h = grind (arith, nat_tests)
listed_other i k r v (Bears slot birth) s e h = grind (arith, nat_tests)
listed_other i k r v (Drops slot) s e h = grind (arith, nat_tests)
listed_other i k r v (Links bucket slot) s e h = grind (arith, nat_tests)
listed_other i k r v (Replaces bucket slot old) s e h = grind (arith, nat_tests)
listed_other i k r v (Appends slot) s e h = grind (arith, nat_tests)
listed_other i k r v (Pops slot next) s e h = grind (arith, nat_tests)
listed_other i k r v (Reads slot birth) s e h = h
listed_other i k r v (Seals slot birth retire) s e h = grind (arith, nat_tests)
listed_other i k r v (Lists slot birth retire) s e h = grind (arith, nat_tests)
listed_other i k r v (Returns slot) s e h = grind (arith, nat_tests)
listed_other i k r v (Adopts from) s e h = passed_listed from i k r (v.status s) e h
