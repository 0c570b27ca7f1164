-- What the words of the other seats hold after a step held before it.
use Rattle.std.proofs.Common.{ℕ, ◌≡◌, ◌≤◌, ◌<◌, ◌∙◌, Bool, true, false, Some, refl, ap, sym, subst, arith, ◌&&◌}
use Rattle.std.proofs.lemmas.Bool.Decides.{nat_tests}
use Rattle.std.specs.Prelude.{◌==◌, ◌||◌, nat_lt}
use Rattle.inv_rows.specs.words.Place.{has}
use Rattle.inv_rows.specs.words.Place.Place.{Clock}
use Rattle.inv_rows.specs.defs.declared.event.Guard.TheVariants.{Helper, Index}
use Rattle.inv_rows.specs.defs.declared.event.Root.{Root}
use Rattle.inv_rows.specs.model.declared.post.Post.{Post}
use Rattle.inv_rows.specs.model.Links.{link_place, link_number, root_at}
use Rattle.inv_rows.specs.model.Posts.{stands, tag_of, upper}
use Rattle.inv_rows.specs.model.Phases.{Aim, ProtectAt, MoveAt, Base}
use Rattle.inv_rows.specs.model.Phases.ProtectAt.{CheckClock, PublishRequest, CheckOwnClock, AnswerOwn}
use Rattle.inv_rows.specs.model.Phases.MoveAt.{CheckEra, AnswerAsked}
use Rattle.inv_rows.specs.model.Phases.Base.{Protect, Move}
use Rattle.inv_rows.specs.model.Calls.{Why, Phase, Idle, Runs, Scans, Works}
use Rattle.inv_rows.specs.model.Locals.{Local}
use Rattle.inv_rows.specs.model.World.{World, step}
use Rattle.inv_rows.proofs.model.Roots.{root_at_link}
use Rattle.inv_rows.specs.Shapes.Eras.{Eras, protect_eras, PhaseEras}
use Rattle.inv_rows.specs.words.Schemes.{helps}
use Rattle.inv_rows.proofs.Shapes.Frame.{seat_stays}
use Rattle.inv_rows.proofs.Shapes.Decode.{clock_next}
use Rattle.inv_rows.specs.Covering.Requests.Deals.{is_quiet, asked_at, asked_by}
use Rattle.inv_rows.specs.Covering.Requests.NextDeals.{next_deals}
use Rattle.inv_rows.specs.Covering.Requests.Standing.{asked_there, is_there, Requests}
use Rattle.inv_rows.specs.Covering.Requests.Views.{Deal, View as Asked}
use Rattle.inv_rows.specs.Covering.Requests.Views.Deal.{Quiet, Open, Answered, Passed, Taken}
use Rattle.inv_rows.specs.Rows.{View}
use Rattle.inv_rows.specs.Agree.{rows_after}
use Rattle.inv_rows.specs.Covering.Held.{leads, under, tries_base, index_base, Holds, Held, era_protect, era_base}
use Rattle.inv_ends.specs.Helped.{open_by, turn_holds, move_holds, helper_holds, Helped}
use Rattle.inv_ends.specs.Handover.{HandoverNeeds}
use Rattle.inv_rows.proofs.Covering.Tried.{tries_back}
use Rattle.inv_ends.proofs.Handover.Asks.{fits_at}
use Rattle.inv_ends.proofs.Handover.Back.{followed_rows_stand, stood_back, asked_under, own_under}
use Rattle.inv_ends.proofs.Handover.Deals.{DealStep, deal_step, SameDeal, NewAsk, OwnAnswer, AnswerTaken, AskLeft, HelpedAnswer, HandedOver}
use Rattle.inv_ends.proofs.Handover.Words.{own_index, own_helper, helper_stays}
use Rattle.inv_ends.proofs.Handover.Shown.{holds_stay}
use Rattle.inv_ends.proofs.Handover.Own.{stood_stays, tried_stays}
use Rattle.inv_rows.proofs.Covering.Requests.Known.{stands_as}
use Rattle.inv_rows.proofs.model.Facts.{by_cases, first_of, rest_of, both, no_truth}
use Rattle.inv_rows.proofs.Shapes.Steps.{upper_in}

pub other_index : (i k j : ℕ) (phase : Phase) → (k == i) ≡ false → own_index i phase k j ≡ false
other_index i k j Idle o = refl
other_index i k j (Runs why base) o = rw o refl
other_index i k j (Scans later at) o = refl
other_index i k j (Works work) o = rw o refl

pub other_helper : (i k : ℕ) (phase : Phase) → (k == i) ≡ false → own_helper i phase k ≡ false
other_helper i k Idle o = refl
other_helper i k (Runs why base) o = rw o refl
other_helper i k (Scans later at) o = refl
other_helper i k (Works work) o = refl

pub other_stands : (w : World) (i : ℕ) (v : View) (z : Asked) (k j s : ℕ) → (k == i) ≡ false → helps w.layout.config.scheme ≡ true → HandoverNeeds w i v z → Held w v → stands ((step w i).seat k).post j ≡ Some s → Holds (step w i) (rows_after w i v) (Index k j) s
other_stands w i v z k j s o f n d y =
    stood_stays w i v z k j s (w.seat i).phase f n d refl (other_index i k j (w.seat i).phase o) (subst (λ (l : Local). stands l.post j ≡ Some s) (seat_stays w i k o) y)

protect_low : (w : World) (k : ℕ) (post : Post) (at : ProtectAt) → upper post.span ≤ w.mem Clock → protect_eras (w.mem Clock) post at → era_protect post at ≤ w.mem Clock
protect_low w k post (CheckClock era tries link) u e = let q = e.most in omega (arith, q)
protect_low w k post at u e = u

base_low : (w : World) (k : ℕ) (why : Why) (base : Base) → Eras w → (w.seat k).phase ≡ Runs why base → era_base (w.seat k).post base ≤ w.mem Clock
base_low w k why (Protect aim index root steps at) n e =
    protect_low w k (w.seat k).post at (upper_in (w.mem Clock) (w.seat k).post.span (n.seats k).post.span) (subst (λ (p : Phase). PhaseEras w.layout (w.mem Clock) (w.seat k).post p) e (n.seats k).phase)
base_low w k why base n e = omega arith

tries_before : (w : World) (i : ℕ) (v : View) (z : Asked) (k : ℕ) (why : Why) (base : Base) (s : ℕ) → HandoverNeeds w i v z → Held w v → (w.seat k).phase ≡ Runs why base → tries_base ((step w i).mem Clock) (rows_after w i v).status (w.seat k).post base s ≡ true → tries_base (w.mem Clock) v.status (w.seat k).post base s ≡ true
tries_before w i v z k why base s n d e t =
    tries_back (w.mem Clock) ((step w i).mem Clock) v.status (rows_after w i v).status (w.seat k).post base s (clock_next w i n.eras).rises (base_low w k why base n.eras e)
    (λ p r q. stood_back w i v k p n.covers d (followed_rows_stand w k why base p n.seats n.parents e r) q) t

pub other_tries_hold : (w : World) (i : ℕ) (v : View) (z : Asked) (k : ℕ) (why : Why) (base : Base) (s : ℕ) → (k == i) ≡ false → helps w.layout.config.scheme ≡ true → HandoverNeeds w i v z → Held w v → ((step w i).seat k).phase ≡ Runs why base → tries_base ((step w i).mem Clock) (rows_after w i v).status ((step w i).seat k).post base s ≡ true
    → Holds (step w i) (rows_after w i v) (Index k (index_base base)) s
other_tries_hold w i v z k why base s o f n d e t =
    let q : (w.seat k).phase ≡ Runs why base = sym (ap (λ (l : Local). l.phase) (seat_stays w i k o)) ∙ e in
    tried_stays w i v z k why base s (w.seat i).phase f n d refl (other_index i k (index_base base) (w.seat i).phase o) q
    (tries_before w i v z k why base s n d q (subst (λ (l : Local). tries_base ((step w i).mem Clock) (rows_after w i v).status l.post base s ≡ true) (seat_stays w i k o) t))

-- a request that is open is the one that it was, for a mover that knows it
open_is : (t j word : ℕ) (d : Deal) → asked_by t j word d ≡ true → is_quiet d ≡ false
open_is t j word Quiet h = absurd (cc)
open_is t j word (Open t' j' w') h = refl
open_is t j word (Answered t' j' w' l e m) h = refl
open_is t j word (Passed t' j' w' l e) h = refl
open_is t j word (Taken t' j' w' l e) h = refl

known_tag : (a b : Bool) → (a || b) ≡ true → b ≡ false → a ≡ true
known_tag true b h n = refl
known_tag false b h n = absurd (cc)

open_before : (w : World) (i : ℕ) (v : View) (z : Asked) (k t j word : ℕ) → HandoverNeeds w i v z → (nat_lt t (z.tag k j) || asked_by t j word (z.deal k)) ≡ true → DealStep w i k z.deal → open_by t j word (next_deals w i z.deal k) ≡ true → open_by t j word (z.deal k) ≡ true
open_before w i v z k t j word n a (SameDeal e) h = rw e at h
open_before w i v z k t j word n a (NewAsk why aim index root steps o q e) h =
    let x : open_by t j word (Open (tag_of (w.seat i).post index) index (link_number (w.seat i).post.layout root)) ≡ true = rw e at h in
    let y : is_quiet (z.deal i) ≡ true = fits_at w z i (Runs why (Protect aim index root steps PublishRequest)) n.requests q in
    let u : is_quiet (z.deal k) ≡ true = rw o y in
    let c : asked_by t j word (z.deal k) ≡ false = by_cases (asked_by t j word (z.deal k)) (asked_by t j word (z.deal k) ≡ false) (λ g. absurd (no_truth (sym (open_is t j word (z.deal k) g) ∙ u))) (λ g. g) in
    let l : t < z.tag k j = let g = known_tag (nat_lt t (z.tag k j)) (asked_by t j word (z.deal k)) a c in grind (arith, nat_tests) in
    let r : tag_of (w.seat i).post index ≡ t = grind (arith, nat_tests) in
    let p : index ≡ j = grind (arith, nat_tests) in
    let m : tag_of (w.seat k).post j ≡ t = rw (o, sym p) r in
    let b = n.requests.locals.tags k j in
    absurd (omega (arith, l, m, b))
open_before w i v z k t j word n a (OwnAnswer why aim index root steps first era link o q e) h = absurd (let x = rw e at h in no_truth x)
open_before w i v z k t j word n a (AnswerTaken tag index number link era e) h = absurd (let x = rw e at h in no_truth x)
open_before w i v z k t j word n a (AskLeft e) h = absurd (let x = rw e at h in no_truth x)
open_before w i v z k t j word n a (HelpedAnswer why era tag index root link q m e) h = absurd (let x = rw e at h in no_truth x)
open_before w i v z k t j word n a (HandedOver why era tag index root link old q m e) h = absurd (let x = rw e at h in no_truth x)

open_asks : (t j word : ℕ) (d : Deal) → open_by t j word d ≡ true → asked_at j word d ≡ true
open_asks t j word Quiet h = absurd (cc)
open_asks t j word (Open t' j' w') h = grind (arith, nat_tests)
open_asks t j word (Answered t' j' w' l e m) h = absurd (cc)
open_asks t j word (Passed t' j' w' l e) h = absurd (cc)
open_asks t j word (Taken t' j' w' l e) h = absurd (cc)

-- the root of a mover's request is one of the table's
pub move_root : (w : World) (z : Asked) (k : ℕ) (why : Why) (at : MoveAt) → Requests w z → (w.seat k).phase ≡ Runs why (Move at) → asked_there w.layout at ≡ true
move_root w z k why at q e = subst (λ (p : Phase). is_there w.layout p ≡ true) e (q.locals.there k)

mover_under : (w : World) (i : ℕ) (v : View) (z : Asked) (k t j : ℕ) (root : Root) → HandoverNeeds w i v z → Held w v → has w.layout (link_place root) ≡ true → open_by t j (link_number w.layout root) (z.deal k) ≡ true → under (rows_after w i v).status root ≡ true → under v.status root ≡ true
mover_under w i v z k t j root n d p o u =
    let r = root_at_link w.layout root p in
    let x : under (rows_after w i v).status (root_at w.layout (link_number w.layout root)) ≡ true = rw r u in
    let y = asked_under w i v z k j (link_number w.layout root) n d (open_asks t j (link_number w.layout root) (z.deal k) o) x in
    subst (λ (g : Root). under v.status g ≡ true) r y

pub all_true : (a b c d : Bool) → a ≡ true → b ≡ true → c ≡ true → d ≡ true → (a && (b && (c && d))) ≡ true
all_true a b c d p q r s = grind (arith, nat_tests)

-- an era that is the clock later, and was at most the clock, was the clock
clock_before : (clock later era : ℕ) → clock ≤ later → era ≤ clock → (later == era) ≡ true → (clock == era) ≡ true
clock_before clock later era a b h = grind (arith, nat_tests)

move_before : (w : World) (i : ℕ) (v : View) (z : Asked) (m : ℕ) (why : Why) (at : MoveAt) (s : ℕ) → HandoverNeeds w i v z → Held w v → (w.seat m).phase ≡ Runs why (Move at) → move_holds w.layout ((step w i).mem Clock) (rows_after w i v).status (next_deals w i z.deal) at s ≡ true → move_holds w.layout (w.mem Clock) v.status z.deal at s ≡ true
move_before w i v z m why (CheckEra e k t j root link) s n d q h =
    let p = move_root w z m why (CheckEra e k t j root link) n.requests q in
    let r = stands_as w z m (Runs why (Move (CheckEra e k t j root link))) n.requests q in
    let a : (nat_lt t (z.tag k j) || asked_by t j (link_number w.layout root) (z.deal k)) ≡ true = rw r at (n.requests.parts.known m) in
    let c : e ≤ z.clock = rw r at (n.requests.parts.eras m) in
    let b = n.requests.words.clocks in
    let h1 = rest_of (open_by t j (link_number w.layout root) (next_deals w i z.deal k)) (leads link s && ((step w i).mem Clock == e && under (rows_after w i v).status root)) h in
    let h2 = rest_of (leads link s) ((step w i).mem Clock == e && under (rows_after w i v).status root) h1 in
    let o = open_before w i v z k t j (link_number w.layout root) n a (deal_step w i k z.deal) (first_of (open_by t j (link_number w.layout root) (next_deals w i z.deal k)) (leads link s && ((step w i).mem Clock == e && under (rows_after w i v).status root)) h) in
    all_true (open_by t j (link_number w.layout root) (z.deal k)) (leads link s) (w.mem Clock == e) (under v.status root) o
    (first_of (leads link s) ((step w i).mem Clock == e && under (rows_after w i v).status root) h1)
    (clock_before (w.mem Clock) ((step w i).mem Clock) e (clock_next w i n.eras).rises (omega (arith, b, c)) (first_of ((step w i).mem Clock == e) (under (rows_after w i v).status root) h2))
    (mover_under w i v z k t j root n d p o (rest_of ((step w i).mem Clock == e) (under (rows_after w i v).status root) h2))
move_before w i v z m why (AnswerAsked e k t j root link) s n d q h =
    let p = move_root w z m why (AnswerAsked e k t j root link) n.requests q in
    let r = stands_as w z m (Runs why (Move (AnswerAsked e k t j root link))) n.requests q in
    let a : (nat_lt t (z.tag k j) || asked_by t j (link_number w.layout root) (z.deal k)) ≡ true = rw r at (n.requests.parts.known m) in
    let h1 = rest_of (open_by t j (link_number w.layout root) (next_deals w i z.deal k)) (leads link s && under (rows_after w i v).status root) h in
    let o = open_before w i v z k t j (link_number w.layout root) n a (deal_step w i k z.deal) (first_of (open_by t j (link_number w.layout root) (next_deals w i z.deal k)) (leads link s && under (rows_after w i v).status root) h) in
    rw o (both (leads link s) (under v.status root) (first_of (leads link s) (under (rows_after w i v).status root) h1) (mover_under w i v z k t j root n d p o (rest_of (leads link s) (under (rows_after w i v).status root) h1)))
move_before w i v z m why at s n d q h = absurd (cc)

turn_before : (w : World) (i : ℕ) (v : View) (z : Asked) (k : ℕ) (why : Why) (aim : Aim) (index : ℕ) (root : Root) (steps : ℕ) (at : ProtectAt) (s : ℕ) → HandoverNeeds w i v z → Held w v → (w.seat k).phase ≡ Runs why (Protect aim index root steps at) → turn_holds ((step w i).mem Clock) (rows_after w i v).status root at s ≡ true → turn_holds (w.mem Clock) v.status root at s ≡ true
turn_before w i v z k why aim index root steps (CheckOwnClock first era last link) s n d q h =
    let r = stands_as w z k (Runs why (Protect aim index root steps (CheckOwnClock first era last link))) n.requests q in
    let c : era ≤ z.clock = rw r at (n.requests.parts.eras k) in
    let b = n.requests.words.clocks in
    let l = (clock_next w i n.eras).rises in
    let u : under (rows_after w i v).status root ≡ true = grind (arith, nat_tests) in
    let x = own_under w i v z k why aim index root steps (CheckOwnClock first era last link) n d q u in
    grind (arith, nat_tests)
turn_before w i v z k why aim index root steps (AnswerOwn first era link) s n d q h =
    let u : under (rows_after w i v).status root ≡ true = grind (arith, nat_tests) in
    let x = own_under w i v z k why aim index root steps (AnswerOwn first era link) n d q u in
    grind (arith, nat_tests)
turn_before w i v z k why aim index root steps at s n d q h = absurd (cc)

holds_before : (w : World) (i : ℕ) (v : View) (z : Asked) (k : ℕ) (why : Why) (base : Base) (s : ℕ) → HandoverNeeds w i v z → Held w v → (w.seat k).phase ≡ Runs why base → helper_holds w.layout ((step w i).mem Clock) (rows_after w i v).status (next_deals w i z.deal) base s ≡ true → helper_holds w.layout (w.mem Clock) v.status z.deal base s ≡ true
holds_before w i v z k why (Protect aim index root steps at) s n d q h = turn_before w i v z k why aim index root steps at s n d q h
holds_before w i v z k why (Move at) s n d q h = move_before w i v z k why at s n d q h
holds_before w i v z k why base s n d q h = absurd (cc)

pub other_loaded : (w : World) (i : ℕ) (v : View) (z : Asked) (k : ℕ) (why : Why) (base : Base) (s : ℕ) → (k == i) ≡ false → helps w.layout.config.scheme ≡ true → HandoverNeeds w i v z → Held w v → Helped w v z.deal → ((step w i).seat k).phase ≡ Runs why base → helper_holds w.layout ((step w i).mem Clock) (rows_after w i v).status (next_deals w i z.deal) base s ≡ true
    → Holds (step w i) (rows_after w i v) (Helper k) s
other_loaded w i v z k why base s o f n d g e h =
    let q : (w.seat k).phase ≡ Runs why base = sym (ap (λ (l : Local). l.phase) (seat_stays w i k o)) ∙ e in
    holds_stay w i v (Helper k) s f n.covers n.scans (helper_stays w i k (w.seat i).phase (n.seats.fits i).post.seat refl (other_helper i k (w.seat i).phase o)) (g.loaded k why base s q (holds_before w i v z k why base s n d q h))
