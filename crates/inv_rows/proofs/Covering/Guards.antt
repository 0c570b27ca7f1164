-- The numbers of guards, and a cover that is handed over.
use Rattle.std.proofs.Common.{ℕ, ◌≤◌, ◌<◌, ◌+◌, ◌*◌, ◌-◌, ◌≡◌, ◌∙◌, true, false, arith, refl}
use Rattle.std.proofs.lemmas.Bool.Decides.{nat_tests}
use Rattle.std.proofs.lemmas.Nat.{div-mul-add, mod-mul-add}
use Rattle.std.proofs.Math.Nat.{mul-le-mul_right}
use Rattle.std.specs.Prelude.{nat_lt}
use Rattle.inv_rows.specs.words.declared.config.Config.{Config}
use Rattle.inv_rows.specs.words.declared.config.SchemeKind.{SchemeKind}
use Rattle.inv_rows.specs.words.declared.config.SchemeKind.TheVariants.{He, Hp, Ibr, Wfe}
use Rattle.inv_rows.specs.defs.declared.event.Guard.{Guard}
use Rattle.inv_rows.specs.defs.declared.event.Guard.TheVariants.{Helper, Index}
use Rattle.inv_rows.specs.defs.declared.lifetime.Lifetime.{Lifetime}
use Rattle.inv_rows.specs.model.Guards.{index_at, guards, guards_by, guard_by, own_guard}
use Rattle.inv_rows.specs.model.Desks.{Report}
use Rattle.inv_rows.specs.model.Calls.{Phase}
use Rattle.inv_rows.specs.words.Schemes.{helps}
use Rattle.inv_rows.specs.Covering.Covers.{has_met, number_by, number_of, life_of}
use Rattle.inv_rows.specs.model.World.{step}
use Rattle.inv_rows.specs.Agree.{rows_after}
use Rattle.inv_rows.proofs.Covering.Kept.{covers_kept}
use Rattle.inv_rows.specs.Covering.Held.{GuardsFit, HelpersFit, HelpersFirst, HandedCovers, HandedKept}

record Fits (scheme : SchemeKind) (config : Config) (guard : Guard) : Type 0 where
  below : number_by scheme config guard < guards_by scheme config
  is : guard_by scheme config (number_by scheme config guard) ≡ guard

pair_below : (seats indexes k j : ℕ) → k < seats → j < indexes → k * indexes + j < seats * indexes
pair_below seats indexes k j h l =
    let m : (k + 1) * indexes ≤ seats * indexes = mul-le-mul_right indexes (omega arith) in
    let e : (k + 1) * indexes ≡ k * indexes + indexes = grind arith in omega (arith, m, e)

index_is : (config : Config) (k j : ℕ) → j < config.indexes → index_at config (k * config.indexes + j) ≡ Index k j
index_is config k j l = rw (div-mul-add k config.indexes j l, mod-mul-add k config.indexes j l) refl

late_index : (config : Config) (n : ℕ) → guard_by Wfe config (config.seats + n) ≡ index_at config n
late_index config n =
    let e : nat_lt (config.seats + n) config.seats ≡ false = grind (arith, nat_tests) in
    let q : config.seats + n - config.seats ≡ n = omega arith in rw (e, q) refl

own_fits_by : (scheme : SchemeKind) (config : Config) (k j : ℕ) → k < config.seats → j < config.indexes → Fits scheme config (own_guard scheme k j)
own_fits_by He config k j h l = record { below = pair_below config.seats config.indexes k j h l; is = index_is config k j l }
own_fits_by Hp config k j h l = record { below = pair_below config.seats config.indexes k j h l; is = index_is config k j l }
own_fits_by Ibr config k j h l = record { below = h; is = refl }
own_fits_by Wfe config k j h l = record {
  below = let b = pair_below config.seats config.indexes k j h l in omega (arith, b);
  is = late_index config (k * config.indexes + j) ∙ index_is config k j l;
}

pub guards_fit : GuardsFit
guards_fit config k j h l = let f = own_fits_by config.scheme config k j h l in record { below = f.below; is = f.is }

helper_fits_by : (scheme : SchemeKind) (config : Config) (k : ℕ) → helps scheme ≡ true → k < config.seats → Fits scheme config (Helper k)
helper_fits_by He config k w h = absurd (cc)
helper_fits_by Ibr config k w h = absurd (cc)
helper_fits_by Hp config k w h = absurd (cc)
helper_fits_by Wfe config k w h = record { below = omega (arith, h); is = (let e : nat_lt k config.seats ≡ true = grind (arith, nat_tests) in rw e refl) }

pub helpers_fit : HelpersFit
helpers_fit config k w h = let f = helper_fits_by config.scheme config k w h in record { below = f.below; is = f.is }

-- a scan that has come to a guard has come to each one before it
met_later : (all one two : ℕ) (phase : Phase) (report : Report) (life : Lifetime) → one ≤ two → has_met all phase report one life ≡ true → has_met all phase report two life ≡ true
met_later all one two phase report life l h = grind (arith, nat_tests)

first_by : (scheme : SchemeKind) (config : Config) (m k j : ℕ) → helps scheme ≡ true → m < config.seats → number_by scheme config (Helper m) ≤ number_by scheme config (Index k j)
first_by He config m k j w h = absurd (cc)
first_by Ibr config m k j w h = absurd (cc)
first_by Hp config m k j w h = absurd (cc)
first_by Wfe config m k j w h = omega (arith, h)

rises_by : (scheme : SchemeKind) (config : Config) (k i j : ℕ) → i ≤ j → number_by scheme config (Index k i) ≤ number_by scheme config (Index k j)
rises_by He config k i j h = omega (arith, h)
rises_by Ibr config k i j h = omega (arith, h)
rises_by Hp config k i j h = omega (arith, h)
rises_by Wfe config k i j h = omega (arith, h)

-- a scan reads a seat's indexes upwards
pub index_rises : (config : Config) (k i j : ℕ) → i ≤ j → number_of config (Index k i) ≤ number_of config (Index k j)
index_rises config k i j h = rises_by config.scheme config k i j h

pub helpers_first : HelpersFirst
helpers_first config m k j w h = first_by config.scheme config m k j w h

pub handed_covers : HandedCovers
handed_covers w v a b slot l e c = record {
  settled = c.settled;
  kept = rw e c.kept;
  scans = λ k r h. met_later (guards w.layout.config) (number_of w.layout.config a) (number_of w.layout.config b) (w.seat k).phase (w.seat k).desk.report (life_of slot (v.birth slot) r) l (c.scans k r h);
}

pub handed_kept : HandedKept
handed_kept w i v a b slot n u f l d e c = handed_covers (step w i) (rows_after w i v) a b slot l e (covers_kept w i v a slot n u f d c)
