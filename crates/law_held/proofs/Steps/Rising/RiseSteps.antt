-- What an index word and a helper word publish along the steps of a protection.
use Rattle.std.proofs.Common.{ℕ, ◌≡◌, ◌≤◌, ◌<◌, ◌⊎◌, inl, inr, Bool, true, false, Option, Some, None, refl, sym, ◌∙◌, subst, arith}
use Rattle.std.proofs.lemmas.Bool.Decides.{nat_tests}
use Rattle.std.specs.Prelude.{◌==◌, ◌&&◌, is_some, if◌then◌else◌}
use Rattle.law_scans.specs.inv.model.words.Place.Place.{Clock}
use Rattle.law_scans.specs.inv.model.defs.declared.event.Guard.TheVariants.{Helper, Index}
use Rattle.law_scans.specs.inv.model.defs.declared.event.Root.{Root}
use Rattle.law_scans.specs.inv.model.defs.declared.lifetime.Interval.{Interval}
use Rattle.law_scans.specs.inv.model.Calls.{Why, Phase, Idle, Runs, Scans, Works}
use Rattle.law_scans.specs.inv.model.Guards.{one_era, from_to}
use Rattle.law_scans.specs.inv.model.Phases.{Aim, Tries, ProtectAt}
use Rattle.law_scans.specs.inv.model.Phases.ProtectAt.{LoadClock, PublishEra, CheckClock, CheckOwnClock, AnswerOwn, LoadAnswer, TakeAnswer, CheckUpper, RaiseUpper}
use Rattle.law_scans.specs.inv.model.Phases.Base.{Protect}
use Rattle.law_scans.specs.inv.model.Posts.{counted, upper}
use Rattle.law_scans.specs.inv.model.World.{World, step, finds}
use Rattle.law_scans.specs.inv.model.words.Schemes.{publishes_rows}
use Rattle.law_scans.specs.inv.shapes.Eras.{SpanIn, PhaseEras}
use Rattle.law_scans.specs.inv.requests.Deals.{is_quiet}
use Rattle.law_scans.specs.inv.requests.Roles.{shows, publishes}
use Rattle.law_scans.specs.inv.requests.Standing.{Requests}
use Rattle.law_scans.specs.inv.requests.Views.{View as Asked, Deal, Role}
use Rattle.law_scans.specs.inv.requests.Views.Deal.{Answered}
use Rattle.law_scans.specs.inv.rows.Rows.{View}
use Rattle.law_scans.specs.inv.covers.Covers.{eras_shown}
use Rattle.law_scans.proofs.inv.covers.Held.{finds_at}
use Rattle.law_scans.proofs.inv.ends.Handover.Deals.{handed_deal}
use Rattle.law_scans.proofs.inv.ends.Handover.Others.{other_index, other_helper}
use Rattle.law_scans.proofs.inv.ends.Handover.Shown.{helper_shows, index_shows}
use Rattle.law_scans.proofs.inv.ends.Handover.Words.{Handed, index_stays, helper_stays}
use Rattle.law_scans.specs.inv.ends.Handover.{HandoverNeeds}
use Rattle.law_scans.proofs.inv.ends.Origins.Opened.{fit_of}
use Rattle.law_held.proofs.Steps.Rising.Rises.{era_under, protect_risen, PhaseRisen, protect_raises}
use Rattle.law_scans.proofs.inv.requests.Known.{stands_as}

-- what the words of a seat publish
abbrev pub SeatRisen : World → ℕ → Type 0
SeatRisen w k = PhaseRisen (λ (j : ℕ). eras_shown w (Index k j)) (eras_shown w (Helper k)) (w.seat k).post (w.seat k).phase

-- another seat's step hands nothing over to a seat that has no request
quiet_answered : (t j u l e m : ℕ) (d : Deal) → is_quiet d ≡ true → d ≡ Answered t j u l e m → false ≡ true
quiet_answered t j u l e m d q a = cc

pub no_hand : (w : World) (i : ℕ) (v : View) (z : Asked) (k j : ℕ) → HandoverNeeds w i v z → is_quiet (z.deal k) ≡ true → (eras_shown (step w i) (Index k j) ≡ eras_shown w (Index k j)) ⊎ Handed w i k j → eras_shown (step w i) (Index k j) ≡ eras_shown w (Index k j)
no_hand w i v z k j n q (inl e) = e
no_hand w i v z k j n q (inr h) = absurd (no (quiet_answered _ _ _ _ _ _ (z.deal k) q (handed_deal w i v z k j n h)))
  where
    no : false ≡ true → ⊥
    no x = cc

other_protect : (w : World) (i k : ℕ) (v : View) (z : Asked) (why : Why) (aim : Aim) (index : ℕ) (root : Root) (n : ℕ) (at : ProtectAt) → (k == i) ≡ false → HandoverNeeds w i v z → (w.seat i).post.seat ≡ i → Requests w z → (w.seat k).phase ≡ Runs why (Protect aim index root n at)
    → protect_risen (λ (j : ℕ). eras_shown w (Index k j)) (eras_shown w (Helper k)) (w.seat k).post index at → protect_risen (λ (j : ℕ). eras_shown (step w i) (Index k j)) (eras_shown (step w i) (Helper k)) (w.seat k).post index at
other_protect w i k v z why aim index root n (PublishEra era tries) o needs s r q h =
    let e = no_hand w i v z k index needs (fit_of w z k (Runs why (Protect aim index root n (PublishEra era tries))) r q) (index_stays w i k index (w.seat i).phase s refl (other_index i k index (w.seat i).phase o)) in
    subst (λ (x : Option Interval). era_under x era ≡ true) (sym e) h
other_protect w i k v z why aim index root n (LoadAnswer first) o needs s r q h = subst (λ (x : Option Interval). is_some x ≡ true) (sym (helper_stays w i k (w.seat i).phase s refl (other_helper i k (w.seat i).phase o))) h
other_protect w i k v z why aim index root n (TakeAnswer link era) o needs s r q h = subst (λ (x : Option Interval). is_some x ≡ true) (sym (helper_stays w i k (w.seat i).phase s refl (other_helper i k (w.seat i).phase o))) h
other_protect w i k v z why aim index root n (RaiseUpper era) o needs s r q h = h
other_protect w i k v z why aim index root n at o needs s r q h = tt

pub other_phase : (w : World) (i k : ℕ) (v : View) (z : Asked) (phase : Phase) → (k == i) ≡ false → HandoverNeeds w i v z → (w.seat i).post.seat ≡ i → Requests w z → (w.seat k).phase ≡ phase
    → PhaseRisen (λ (j : ℕ). eras_shown w (Index k j)) (eras_shown w (Helper k)) (w.seat k).post phase → PhaseRisen (λ (j : ℕ). eras_shown (step w i) (Index k j)) (eras_shown (step w i) (Helper k)) (w.seat k).post phase
other_phase w i k v z (Runs why (Protect aim index root n at)) o needs s r q h = other_protect w i k v z why aim index root n at o needs s r q h
other_phase w i k v z (Runs why base) o needs s r q h = tt
other_phase w i k v z Idle o needs s r q h = tt
other_phase w i k v z (Scans later at) o needs s r q h = tt
other_phase w i k v z (Works work) o needs s r q h = tt

-- the seat that steps
pub some_era : (helper era first : ℕ) → (helper == era) ≡ true → 1 ≤ first → first ≤ era → is_some (one_era helper) ≡ true
some_era helper era first h a b = by (helper == 0) refl
  where
    by : (none : Bool) → (helper == 0) ≡ none → is_some (if none then None else from_to helper helper) ≡ true
    by true e = absurd (grind (arith, nat_tests))
    by false e = refl

later_era : (value era found : ℕ) → (value == era) ≡ true → era ≤ found → (found == era) ≡ false → era_under (one_era value) found ≡ true
later_era value era found h m e = by (value == 0) refl
  where
    by : (none : Bool) → (value == 0) ≡ none → era_under (if none then None else from_to value value) found ≡ true
    by true z = refl
    by false z = grind (arith, nat_tests)

pub own_protect : (w : World) (i : ℕ) (v : View) (z : Asked) (why : Why) (aim : Aim) (index : ℕ) (root : Root) (n : ℕ) (at : ProtectAt) → publishes_rows w.layout.config.scheme ≡ false → HandoverNeeds w i v z → (w.seat i).post.seat ≡ i → Requests w z → PhaseEras w.layout (w.mem Clock) (w.seat i).post (w.seat i).phase → SpanIn (w.mem Clock) (w.seat i).post.span
    → ((tries : Tries) → at ≡ LoadClock tries → eras_shown w (Index i index) ≡ None) → (w.seat i).phase ≡ Runs why (Protect aim index root n at) → SeatRisen w i
    → protect_raises (λ (j : ℕ). eras_shown (step w i) (Index i j)) (eras_shown (step w i) (Helper i)) (counted (w.seat i).post) index at (finds w i)
own_protect w i v z why aim index root n (LoadClock tries) y needs s r c span f q h =
    let p : Phase = Runs why (Protect aim index root n (LoadClock tries)) in
    no_hand w i v z i index needs (fit_of w z i p r q) (index_stays w i i index p s q (no_store (i == i))) ∙ f tries refl
  where
    no_store : (b : Bool) → (b && false) ≡ false
    no_store true = refl
    no_store false = refl
own_protect w i v z why aim index root n (CheckClock era tries link) y needs s r c span f q h = λ e.
    let p : Phase = Runs why (Protect aim index root n (CheckClock era tries link)) in
    let o : (z.era i index == era) ≡ true = subst (λ (x : Role). publishes x (z.era i) ≡ true) (stands_as w z i p r q) (r.parts.published i) in
    let m = subst (λ (x : Phase). PhaseEras w.layout (w.mem Clock) (w.seat i).post x) q c in
    let k : finds w i ≡ w.mem Clock = finds_at w i p q in
    let t = no_hand w i v z i index needs (fit_of w z i p r q) (index_stays w i i index p s q (no_store (i == i))) ∙ index_shows w i v z i index needs y in
    subst (λ (x : Option Interval). era_under x (finds w i) ≡ true) (sym t) (later_era (z.era i index) era (finds w i) o (subst (λ (x : ℕ). era ≤ x) (sym k) m.most) e)
  where
    no_store : (b : Bool) → (b && false) ≡ false
    no_store true = refl
    no_store false = refl
own_protect w i v z why aim index root n (CheckOwnClock first era last link) y needs s r c span f q h =
    let p : Phase = Runs why (Protect aim index root n (CheckOwnClock first era last link)) in
    let o : (z.helper i == era) ≡ true = subst (λ (x : Role). shows x (z.helper i) ≡ true) (stands_as w z i p r q) (r.parts.shown i) in
    let m = subst (λ (x : Phase). PhaseEras w.layout (w.mem Clock) (w.seat i).post x) q c in
    let t = helper_stays w i i p s q (no_store (i == i)) ∙ helper_shows w z i r in
    subst (λ (x : Option Interval). is_some x ≡ true) (sym t) (some_era (z.helper i) era first o m.began m.rises)
  where
    no_store : (b : Bool) → (b && false) ≡ false
    no_store true = refl
    no_store false = refl
own_protect w i v z why aim index root n (AnswerOwn first era link) y needs s r c span f q h =
    let p : Phase = Runs why (Protect aim index root n (AnswerOwn first era link)) in
    let o : (z.helper i == era) ≡ true = subst (λ (x : Role). shows x (z.helper i) ≡ true) (stands_as w z i p r q) (r.parts.shown i) in
    let m = subst (λ (x : Phase). PhaseEras w.layout (w.mem Clock) (w.seat i).post x) q c in
    let t = helper_stays w i i p s q (no_store (i == i)) ∙ helper_shows w z i r in
    subst (λ (x : Option Interval). is_some x ≡ true) (sym t) (some_era (z.helper i) era first o m.began m.rises)
  where
    no_store : (b : Bool) → (b && false) ≡ false
    no_store true = refl
    no_store false = refl
own_protect w i v z why aim index root n (LoadAnswer first) y needs s r c span f q h =
    let p : Phase = Runs why (Protect aim index root n (LoadAnswer first)) in
    let o : is_some (eras_shown w (Helper i)) ≡ true = subst (PhaseRisen (λ (j : ℕ). eras_shown w (Index i j)) (eras_shown w (Helper i)) (w.seat i).post) q h in
    subst (λ (x : Option Interval). is_some x ≡ true) (sym (helper_stays w i i p s q (no_store (i == i)))) o
  where
    no_store : (b : Bool) → (b && false) ≡ false
    no_store true = refl
    no_store false = refl
own_protect w i v z why aim index root n (CheckUpper link) y needs s r c span f q h = λ e. raised (w.seat i).post.span (w.mem Clock) (finds w i) span (finds_at w i (Runs why (Protect aim index root n (CheckUpper link))) q) e
  where
    raised : (x : Option Interval) (clock found : ℕ) → SpanIn clock x → found ≡ clock → (found == upper x) ≡ false → upper x < found
    raised None clock found s e n = grind (arith, nat_tests)
    raised (Some x) clock found s e n = let m = s.2 in grind (arith, nat_tests)
own_protect w i v z why aim index root n at y needs s r c span f q h = tt
