-- What words hold stays held over each step under Wait-Free Eras, and no step takes or frees a row that they hold.
use Rattle.std.proofs.Common.{ℕ, ◌≡◌, Bool, true, false, Some, refl, sym, subst, arith}
use Rattle.std.proofs.lemmas.Bool.Decides.{nat_tests}
use Rattle.std.specs.Prelude.{◌==◌}
use Rattle.inv_rows.specs.words.Place.Place.{Clock}
use Rattle.inv_rows.specs.defs.declared.event.Guard.{Guard}
use Rattle.inv_rows.specs.defs.declared.event.Guard.TheVariants.{Helper, Index}
use Rattle.inv_rows.specs.model.Posts.{stands}
use Rattle.inv_rows.specs.model.Phases.{Base}
use Rattle.inv_rows.specs.model.Calls.{Why, Runs}
use Rattle.inv_rows.specs.model.World.{World, step, finds}
use Rattle.inv_rows.specs.words.Schemes.{helps}
use Rattle.inv_rows.specs.Covering.Requests.NextDeals.{next_deals}
use Rattle.inv_rows.specs.Covering.Requests.Views.{View as Asked}
use Rattle.inv_rows.specs.Rows.{View}
use Rattle.inv_rows.specs.Hands.{row_move}
use Rattle.inv_rows.specs.Agree.{rows_after}
use Rattle.inv_rows.specs.Covering.Covers.{CoversNeeds, Scanning, takes_or_frees}
use Rattle.inv_rows.specs.model.Guards.{own_guard}
use Rattle.inv_rows.specs.Covering.Held.{tries_base, index_base, Holds, Held}
use Rattle.inv_ends.specs.Helped.{helper_holds, Helped}
use Rattle.inv_ends.specs.Handover.{HandoverNeeds, HandoverKept, AnsweredRowsStay}
use Rattle.inv_rows.proofs.Covering.Kept.{not_reused}
use Rattle.inv_ends.proofs.Handover.Others.{other_stands, other_tries_hold, other_loaded}
use Rattle.inv_ends.proofs.Handover.Helps.{own_loaded, answers_hold, passed_hold}
use Rattle.inv_ends.proofs.Handover.Shown.{helped_guard}
use Rattle.inv_ends.proofs.Handover.Own.{own_stands, own_tries}

own_holds : (w : World) (i : ℕ) (v : View) (k j s : ℕ) → helps w.layout.config.scheme ≡ true → Holds (step w i) (rows_after w i v) (Index k j) s → Holds (step w i) (rows_after w i v) (own_guard w.layout.config.scheme k j) s
own_holds w i v k j s f h = subst (λ (g : Guard). Holds (step w i) (rows_after w i v) g s) (sym (helped_guard w.layout.config.scheme k j f)) h

-- each seat, by whether it is the one that steps
stands_at : (w : World) (i : ℕ) (v : View) (z : Asked) (k j s : ℕ) (own : Bool) → (k == i) ≡ own → helps w.layout.config.scheme ≡ true → HandoverNeeds w i v z → Held w v → Helped w v z.deal → stands ((step w i).seat k).post j ≡ Some s → Holds (step w i) (rows_after w i v) (Index k j) s
stands_at w i v z k j s true o f n h g y =
    let q : k ≡ i = grind (arith, nat_tests) in
    subst (λ (m : ℕ). stands ((step w i).seat m).post j ≡ Some s → Holds (step w i) (rows_after w i v) (Index m j) s) (sym q) (own_stands w i v z j s f n h g) y
stands_at w i v z k j s false o f n h g y = other_stands w i v z k j s o f n h y

tries_at : (w : World) (i : ℕ) (v : View) (z : Asked) (k : ℕ) (why : Why) (base : Base) (s : ℕ) (own : Bool) → (k == i) ≡ own → helps w.layout.config.scheme ≡ true → HandoverNeeds w i v z → Held w v → Helped w v z.deal → ((step w i).seat k).phase ≡ Runs why base → tries_base ((step w i).mem Clock) (rows_after w i v).status ((step w i).seat k).post base s ≡ true
    → Holds (step w i) (rows_after w i v) (Index k (index_base base)) s
tries_at w i v z k why base s true o f n h g e t =
    let q : k ≡ i = grind (arith, nat_tests) in
    subst (λ (m : ℕ). ((step w i).seat m).phase ≡ Runs why base → tries_base ((step w i).mem Clock) (rows_after w i v).status ((step w i).seat m).post base s ≡ true → Holds (step w i) (rows_after w i v) (Index m (index_base base)) s) (sym q) (own_tries w i v z why base s f n h g) e t
tries_at w i v z k why base s false o f n h g e t = other_tries_hold w i v z k why base s o f n h e t

loaded_at : (w : World) (i : ℕ) (v : View) (z : Asked) (k : ℕ) (why : Why) (base : Base) (s : ℕ) (own : Bool) → (k == i) ≡ own → helps w.layout.config.scheme ≡ true → HandoverNeeds w i v z → Held w v → Helped w v z.deal → ((step w i).seat k).phase ≡ Runs why base
    → helper_holds w.layout ((step w i).mem Clock) (rows_after w i v).status (next_deals w i z.deal) base s ≡ true → Holds (step w i) (rows_after w i v) (Helper k) s
loaded_at w i v z k why base s true o f n h g e t =
    let q : k ≡ i = grind (arith, nat_tests) in
    subst (λ (m : ℕ). ((step w i).seat m).phase ≡ Runs why base → Holds (step w i) (rows_after w i v) (Helper m) s) (sym q) (λ x. own_loaded w i v z why base s f n g x t) e
loaded_at w i v z k why base s false o f n h g e t = other_loaded w i v z k why base s o f n h g e t

pub handover_kept : HandoverKept
handover_kept w i v z f n h g = (
  record {
    stood = λ k j s y. own_holds w i v k j s f (stands_at w i v z k j s (k == i) refl f n h g y);
    tried = λ k why base s e t. own_holds w i v k (index_base base) s f (tries_at w i v z k why base s (k == i) refl f n h g e t);
  },
  record {
    loaded = λ k why base s e t. loaded_at w i v z k why base s (k == i) refl f n h g e t;
    answered = λ k by s a. answers_hold w i v z k by s f n h g a;
    passed = λ k index s a. passed_hold w i v z k index s f n h g a;
  },
)

-- no step takes or frees such a row
row_left : (w : World) (i : ℕ) (v : View) (guard : Guard) (s : ℕ) → CoversNeeds w i v → Scanning w → Holds w v guard s → takes_or_frees (row_move (w.seat i).phase (w.seat i).post (finds w i)) s ≡ false
row_left w i v guard s n u h = not_reused w i v guard s n u h.fits h.covers

pub rows_stay : AnsweredRowsStay
rows_stay w i v deal n u h g = record {
  stood = λ k j s y. row_left w i v (own_guard w.layout.config.scheme k j) s n u (h.stood k j s y);
  tried = λ k why base s e t. row_left w i v (own_guard w.layout.config.scheme k (index_base base)) s n u (h.tried k why base s e t);
  loaded = λ k why base s e t. row_left w i v (Helper k) s n u (g.loaded k why base s e t);
  answered = λ k by s a. row_left w i v (Helper by) s n u (g.answered k by s a);
  passed = λ k index s a. row_left w i v (Index k index) s n u (g.passed k index s a);
}
