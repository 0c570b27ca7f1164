-- Each guard that a scan reads has its word in the table.
use Rattle.std.proofs.Common.{ℕ, ◌≡◌, ◌<◌, ◌-◌, ◌*◌, ◌/◌, true, false, Bool, arith, refl}
use Rattle.std.proofs.lemmas.Bool.Decides.{nat_tests}
use Rattle.std.proofs.Math.Nat.{div-lt_iff_lt-mul}
use Rattle.std.specs.Prelude.{nat_lt}
use Rattle.wfe_words.specs.Place.{has}
use Rattle.wfe_words.specs.declared.config.SchemeKind.{SchemeKind}
use Rattle.wfe_words.specs.declared.config.SchemeKind.TheVariants.{He, Hp, Ibr, Wfe}
use Rattle.wfe_words.specs.declared.layout.Layout.{Layout}
use Rattle.wfe_core.specs.Guards.{index_at, guard_by, guard_at, guards, guards_by, guard_place}
use Rattle.wfe_core.specs.Valid.{Bounds}

index_there : (layout : Layout) (k : ℕ) → Bounds layout.config → k < layout.config.seats * layout.config.indexes → has layout (guard_place (index_at layout.config k)) ≡ true
index_there layout k b h =
    let some : 0 < layout.config.indexes = omega (arith, b.indexes) in
    let seat : k / layout.config.indexes < layout.config.seats = (div-lt_iff_lt-mul some).1 h in
    grind (arith, nat_tests)

there_by : (scheme : SchemeKind) (layout : Layout) (k : ℕ) → Bounds layout.config → k < guards_by scheme layout.config → has layout (guard_place (guard_by scheme layout.config k)) ≡ true
there_by He layout k b h = index_there layout k b h
there_by Hp layout k b h = index_there layout k b h
there_by Ibr layout k b h = grind (arith, nat_tests)
there_by Wfe layout k b h = by_first (nat_lt k layout.config.seats) refl
  where
    by_first : (first : Bool) → nat_lt k layout.config.seats ≡ first → has layout (guard_place (guard_by Wfe layout.config k)) ≡ true
    by_first true e = rw e (rw e refl)
    by_first false e = rw e (index_there layout (k - layout.config.seats) b (grind (arith, nat_tests)))

pub guard_there : (layout : Layout) (k : ℕ) → Bounds layout.config → k < guards layout.config → has layout (guard_place (guard_at layout.config k)) ≡ true
guard_there layout k b h = there_by layout.config.scheme layout k b h
