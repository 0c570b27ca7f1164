-- What guards hold at the start and where a call begins, and what that gives.
use Rattle.std.proofs.Common.{ℕ, zero, suc, ◌≡◌, ◌∙◌, sym, subst, true, false, arith, refl, Bool, Some}
use Rattle.std.proofs.lemmas.Bool.Decides.{nat_tests}
use Rattle.std.specs.Prelude.{◌==◌, if◌then◌else◌}
use Rattle.inv_rows.specs.words.Place.Place.{Clock}
use Rattle.inv_rows.specs.words.declared.layout.Layout.{Layout}
use Rattle.inv_rows.specs.defs.declared.call.Call.{Call}
use Rattle.inv_rows.specs.defs.declared.event.Guard.{Guard}
use Rattle.inv_rows.specs.defs.declared.lifetime.Lifetime.{Lifetime}
use Rattle.inv_rows.specs.model.Guards.{guards, own_guard}
use Rattle.inv_rows.specs.model.Posts.{new_post, stands}
use Rattle.inv_rows.specs.model.Phases.{Base}
use Rattle.inv_rows.specs.model.Steps.{first_phase}
use Rattle.inv_rows.specs.model.Calls.{Why, Phase, Runs}
use Rattle.inv_rows.specs.model.Locals.{Local, begun, begun_post}
use Rattle.inv_rows.specs.model.World.{World, begin}
use Rattle.inv_rows.specs.Rows.{View}
use Rattle.inv_rows.specs.Covering.Covers.{has_met, life_of, number_of, Covers}
use Rattle.inv_rows.specs.Covering.Tries.{is_start, starts_base}
use Rattle.inv_rows.specs.Covering.Held.{tries_base, index_base, Holds, Held, HeldStart, HeldBegin, StandingStays}
pub use Rattle.inv_rows.proofs.Covering.Fresh.{first_begins}
use Rattle.inv_rows.proofs.Covering.Kept.{not_reused}
use Rattle.inv_rows.proofs.Covering.Scans.{fresh_met}
use Rattle.inv_rows.proofs.Covering.Tried.{start_untried}
use Rattle.inv_rows.proofs.model.Facts.{no_truth}

-- nothing stands in a new post
pub new_stands : (seat : ℕ) (layout : Layout) (j s : ℕ) → stands (new_post seat layout) j ≡ Some s → false ≡ true
new_stands seat layout zero s h = absurd (cc)
new_stands seat layout (suc zero) s h = absurd (cc)
new_stands seat layout (suc (suc zero)) s h = absurd (cc)
new_stands seat layout (suc (suc (suc zero))) s h = absurd (cc)
new_stands seat layout (suc (suc (suc (suc zero)))) s h = absurd (cc)
new_stands seat layout (suc (suc (suc (suc (suc zero))))) s h = absurd (cc)
new_stands seat layout (suc (suc (suc (suc (suc (suc zero)))))) s h = absurd (cc)
new_stands seat layout (suc (suc (suc (suc (suc (suc (suc zero))))))) s h = absurd (cc)
new_stands seat layout (suc (suc (suc (suc (suc (suc (suc (suc j)))))))) s h = absurd (cc)

pub held_start : HeldStart
held_start layout v = record {
  stood = λ k j s h. absurd (no_truth (new_stands k layout j s h));
  tried = λ k why base s e t. absurd (cc);
}

-- a call begins
abbrev MetOf : ℕ → ℕ → Lifetime → Local → Type 0
MetOf all number life l = has_met all l.phase l.desk.report number life ≡ true

met_pick : (all number : ℕ) (life : Lifetime) (old new : Local) (same : Bool) → MetOf all number life old → MetOf all number life new → MetOf all number life (if same then new else old)
met_pick all number life old new true a b = b
met_pick all number life old new false a b = a

pub covers_begin : (w : World) (i : ℕ) (call : Call) (v : View) (guard : Guard) (s : ℕ) → Covers w v guard s → Covers (begin w i call) v guard s
covers_begin w i call v guard s c = record {
  settled = c.settled;
  kept = c.kept;
  scans = λ k r h. met_pick (guards w.layout.config) (number_of w.layout.config guard) (life_of s (v.birth s) r) (w.seat k) (begun (w.seat i) call) (k == i) (c.scans k r h) (fresh_met (guards w.layout.config) (first_phase call (begun_post (w.seat i).post)) (begun (w.seat i) call).desk.report (number_of w.layout.config guard) (life_of s (v.birth s) r) (first_begins call (begun_post (w.seat i).post)).fresh);
}

pub holds_begin : (w : World) (i : ℕ) (call : Call) (v : View) (guard : Guard) (s : ℕ) → Holds w v guard s → Holds (begin w i call) v guard s
holds_begin w i call v guard s h = record { fits = h.fits; covers = covers_begin w i call v guard s h.covers }

begun_stood : (w : World) (i : ℕ) (call : Call) (v : View) (k j s : ℕ) (same : Bool) → (k == i) ≡ same → Held w v → stands (if same then begun (w.seat i) call else w.seat k).post j ≡ Some s → Holds w v (own_guard w.layout.config.scheme k j) s
begun_stood w i call v k j s true e h y = let q : k ≡ i = grind (arith, nat_tests) in rw q (h.stood i j s y)
begun_stood w i call v k j s false e h y = h.stood k j s y

begun_tried : (w : World) (i : ℕ) (call : Call) (v : View) (k : ℕ) (why : Why) (base : Base) (s : ℕ) (same : Bool) → Held w v → (if same then begun (w.seat i) call else w.seat k).phase ≡ Runs why base → tries_base (w.mem Clock) v.status (if same then begun (w.seat i) call else w.seat k).post base s ≡ true → Holds w v (own_guard w.layout.config.scheme k (index_base base)) s
begun_tried w i call v k why base s true h e t =
    let b : starts_base base ≡ true = subst (λ (p : Phase). is_start p ≡ true) e (first_begins call (begun_post (w.seat i).post)).starts in
    let z = start_untried (w.mem Clock) v.status (begun (w.seat i) call).post base s b in absurd (no_truth (sym z ∙ t))
begun_tried w i call v k why base s false h e t = h.tried k why base s e t

pub held_begin : HeldBegin
held_begin w i call v h = record {
  stood = λ k j s y. holds_begin w i call v (own_guard w.layout.config.scheme k j) s (begun_stood w i call v k j s (k == i) refl h y);
  tried = λ k why base s e t. holds_begin w i call v (own_guard w.layout.config.scheme k (index_base base)) s (begun_tried w i call v k why base s (k == i) h e t);
}

-- no step frees a row that stands
pub standing_stays : StandingStays
standing_stays w i k j slot v n u h e =
    let x = h.stood k j slot e in not_reused w i v (own_guard w.layout.config.scheme k j) slot n u x.fits x.covers
