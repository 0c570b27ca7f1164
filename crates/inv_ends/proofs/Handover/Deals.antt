-- How a seat's deal comes to be what it is after a step, and what each of these steps finds.
use Rattle.inv_rows.proofs.Shapes.Tries.{helps_plain}
use Rattle.std.proofs.Common.{ℕ, ◌≡◌, ◌≤◌, ◌<◌, ◌+◌, ◌^◌, ◌∙◌, Bool, true, false, refl, ap, sym, arith, ◌&&◌}
use Rattle.std.proofs.lemmas.Bool.Decides.{nat_tests}
use Rattle.std.specs.Prelude.{◌==◌, ◌||◌, if◌then◌else◌, nat_lt}
use Rattle.inv_rows.specs.words.Place.{has, Place as places}
use Rattle.inv_rows.specs.words.Packed.{halves, pending_word}
use Rattle.inv_rows.specs.words.declared.layout.Layout.{Layout}
use Rattle.inv_rows.proofs.words.Parts.{halves_one, pending_one, pending_some, pending≢answered}
use Rattle.inv_rows.proofs.words.Numbers.{number_below, words_few}
use Rattle.inv_rows.specs.defs.declared.event.Root.{Root}
use Rattle.inv_rows.specs.model.Links.{link_place, link_number}
use Rattle.inv_rows.specs.model.Memory.{upd}
use Rattle.inv_rows.specs.model.Posts.{tag_of}
use Rattle.inv_rows.specs.model.Phases.{Aim, ProtectAt, MoveAt}
use Rattle.inv_rows.specs.model.Phases.ProtectAt.{LoadClock, PublishEra, LoadLink, CheckClock, PublishRequest, LoadOwnClock, PublishHelper, LoadOwnLink, CheckOwnClock, AnswerOwn, LoadAnswer, TakeAnswer, WithdrawRequest, WithdrawHelper, LoadWithin, CheckUpper, RaiseUpper, ByHazard}
use Rattle.inv_rows.specs.model.Phases.MoveAt.{LoadEra, LoadRequest, ShowEra, LoadAsked, CheckEra, AnswerAsked, LoadReserved, HandOver, HideEra, HideLate, ExchangeClock}
use Rattle.inv_rows.specs.model.Phases.Base.{Protect, Move}
use Rattle.inv_rows.specs.model.SlowPath.{asking, own_request}
use Rattle.inv_rows.specs.model.Calls.{Why, Phase, Idle, Runs, Scans, Works}
use Rattle.inv_rows.specs.model.World.{World}
use Rattle.inv_rows.proofs.model.Ranges.{bounds_of}
use Rattle.inv_rows.specs.Covering.Requests.Deals.{asked_at, gave_by, ahead}
use Rattle.inv_rows.specs.Covering.Requests.NextDeals.{protect_deals, move_deals, phase_deals, next_deals}
use Rattle.inv_rows.specs.Covering.Requests.Standing.{request_of}
use Rattle.inv_rows.specs.Covering.Requests.Views.{Deal, View as Asked}
use Rattle.inv_rows.specs.Covering.Requests.Views.Deal.{Quiet, Open, Answered, Passed, Taken}
use Rattle.inv_rows.specs.Rows.{View}
use Rattle.inv_ends.specs.Handover.{HandoverNeeds}
use Rattle.inv_ends.proofs.Handover.Asks.{asker, run_of}
use Rattle.inv_ends.proofs.Handover.Back.{inside_of}
use Rattle.inv_ends.proofs.Handover.Words.{Handed}
use Rattle.inv_rows.proofs.Covering.Requests.Known.{stands_as}
use Rattle.inv_rows.proofs.model.Facts.{rest_of}
use Rattle.inv_rows.proofs.Covering.Requests.Handing.{gave_is}

-- a deal stays, or is published, answered, handed over, taken or withdrawn
pub data DealStep (w : World) (i k : ℕ) (deal : ℕ → Deal) : Type 0 where
  SameDeal : next_deals w i deal k ≡ deal k → DealStep w i k deal
  NewAsk : (why : Why) (aim : Aim) (index : ℕ) (root : Root) (steps : ℕ) → k ≡ i → (w.seat i).phase ≡ Runs why (Protect aim index root steps PublishRequest)
      → next_deals w i deal k ≡ Open (tag_of (w.seat i).post index) index (link_number (w.seat i).post.layout root) → DealStep w i k deal
  OwnAnswer : (why : Why) (aim : Aim) (index : ℕ) (root : Root) (steps first era link : ℕ) → k ≡ i → (w.seat i).phase ≡ Runs why (Protect aim index root steps (AnswerOwn first era link))
      → next_deals w i deal k ≡ Answered (tag_of (w.seat i).post index) index (link_number (w.seat i).post.layout root) link era i → DealStep w i k deal
  AnswerTaken : (tag index word link era : ℕ) → next_deals w i deal k ≡ Taken tag index word link era → DealStep w i k deal
  AskLeft : next_deals w i deal k ≡ Quiet → DealStep w i k deal
  HelpedAnswer : (why : Why) (e t j : ℕ) (root : Root) (link : ℕ) → (w.seat i).phase ≡ Runs why (Move (AnswerAsked e k t j root link))
      → (w.mem (places.Request k) == asking (w.seat i).post.layout t j root) ≡ true
      → next_deals w i deal k ≡ Answered t j (link_number (w.seat i).post.layout root) link e i → DealStep w i k deal
  HandedOver : (why : Why) (e t j : ℕ) (root : Root) (link old : ℕ) → (w.seat i).phase ≡ Runs why (Move (HandOver e k t j root link old))
      → (w.mem (places.Index k j) == halves old t) ≡ true
      → next_deals w i deal k ≡ Passed t j (link_number (w.seat i).post.layout root) link e → DealStep w i k deal

pub deals_at : (w : World) (i k : ℕ) (deal : ℕ → Deal) (phase : Phase) → (w.seat i).phase ≡ phase → next_deals w i deal k ≡ phase_deals w.mem i (w.seat i).post phase deal k
deals_at w i k deal phase e = ap (λ (p : Phase). phase_deals w.mem i (w.seat i).post p deal k) e

-- the deal of one seat changes
upd_step : (w : World) (i k m : ℕ) (deal : ℕ → Deal) (d : Deal) (own : Bool) → (k == m) ≡ own → next_deals w i deal k ≡ upd deal m d k → (k ≡ m → next_deals w i deal k ≡ d → DealStep w i k deal) → DealStep w i k deal
upd_step w i k m deal d true o e f = f (grind (arith, nat_tests)) (rw o at e)
upd_step w i k m deal d false o e f = SameDeal (rw o at e)

upd_if : (w : World) (i k m : ℕ) (deal : ℕ → Deal) (d : Deal) (same : Bool) → next_deals w i deal k ≡ (if same then upd deal m d else deal) k → (same ≡ true → k ≡ m → next_deals w i deal k ≡ d → DealStep w i k deal) → DealStep w i k deal
upd_if w i k m deal d true e f = upd_step w i k m deal d (k == m) refl e (f refl)
upd_if w i k m deal d false e f = SameDeal e

protect_step : (w : World) (i k : ℕ) (deal : ℕ → Deal) (why : Why) (aim : Aim) (index : ℕ) (root : Root) (steps : ℕ) (at : ProtectAt) → (w.seat i).phase ≡ Runs why (Protect aim index root steps at) → next_deals w i deal k ≡ protect_deals w.mem i (w.seat i).post index root at deal k → DealStep w i k deal
protect_step w i k deal why aim index root steps (LoadClock tries) q e = SameDeal e
protect_step w i k deal why aim index root steps (PublishEra era tries) q e = SameDeal e
protect_step w i k deal why aim index root steps (LoadLink era tries) q e = SameDeal e
protect_step w i k deal why aim index root steps (CheckClock era tries link) q e = SameDeal e
protect_step w i k deal why aim index root steps PublishRequest q e =
    upd_step w i k i deal (Open (tag_of (w.seat i).post index) index (link_number (w.seat i).post.layout root)) (k == i) refl e (λ o d. NewAsk why aim index root steps o q d)
protect_step w i k deal why aim index root steps LoadOwnClock q e = SameDeal e
protect_step w i k deal why aim index root steps (PublishHelper first era last) q e = SameDeal e
protect_step w i k deal why aim index root steps (LoadOwnLink first era last) q e = SameDeal e
protect_step w i k deal why aim index root steps (CheckOwnClock first era last link) q e = SameDeal e
protect_step w i k deal why aim index root steps (AnswerOwn first era link) q e =
    upd_if w i k i deal (Answered (tag_of (w.seat i).post index) index (link_number (w.seat i).post.layout root) link era i) (w.mem (places.Request (w.seat i).post.seat) == own_request (w.seat i).post index root) e (λ s o d. OwnAnswer why aim index root steps first era link o q d)
protect_step w i k deal why aim index root steps (LoadAnswer first) q e = SameDeal e
protect_step w i k deal why aim index root steps (TakeAnswer link era) q e =
    upd_step w i k i deal (Taken (tag_of (w.seat i).post index) index (link_number (w.seat i).post.layout root) link era) (k == i) refl e (λ o d. AnswerTaken (tag_of (w.seat i).post index) index (link_number (w.seat i).post.layout root) link era d)
protect_step w i k deal why aim index root steps (WithdrawRequest link era) q e = upd_step w i k i deal Quiet (k == i) refl e (λ o d. AskLeft d)
protect_step w i k deal why aim index root steps (WithdrawHelper link era) q e = SameDeal e
protect_step w i k deal why aim index root steps LoadWithin q e = SameDeal e
protect_step w i k deal why aim index root steps (CheckUpper link) q e = SameDeal e
protect_step w i k deal why aim index root steps (RaiseUpper era) q e = SameDeal e
protect_step w i k deal why aim index root steps (ByHazard at) q e = SameDeal e

asked_step : (w : World) (i k : ℕ) (deal : ℕ → Deal) (why : Why) (e m t j : ℕ) (root : Root) (link : ℕ) → (w.seat i).phase ≡ Runs why (Move (AnswerAsked e m t j root link)) → (w.mem (places.Request m) == asking (w.seat i).post.layout t j root) ≡ true → k ≡ m → next_deals w i deal k ≡ Answered t j (link_number (w.seat i).post.layout root) link e i → DealStep w i k deal
asked_step w i k deal why e m t j root link q s o d = HelpedAnswer why e t j root link (q ∙ ap (λ (n : ℕ). Runs why (Move (AnswerAsked e n t j root link))) (sym o)) (rw o s) d

hand_step : (w : World) (i k : ℕ) (deal : ℕ → Deal) (why : Why) (e m t j : ℕ) (root : Root) (link old : ℕ) → (w.seat i).phase ≡ Runs why (Move (HandOver e m t j root link old)) → (w.mem (places.Index m j) == halves old t) ≡ true → k ≡ m → next_deals w i deal k ≡ Passed t j (link_number (w.seat i).post.layout root) link e → DealStep w i k deal
hand_step w i k deal why e m t j root link old q s o d = HandedOver why e t j root link old (q ∙ ap (λ (n : ℕ). Runs why (Move (HandOver e n t j root link old))) (sym o)) (rw o s) d

move_step : (w : World) (i k : ℕ) (deal : ℕ → Deal) (why : Why) (at : MoveAt) → (w.seat i).phase ≡ Runs why (Move at) → next_deals w i deal k ≡ move_deals w.mem i (w.seat i).post at deal k → DealStep w i k deal
move_step w i k deal why (LoadEra helps) q e = SameDeal e
move_step w i k deal why (LoadRequest era m shown) q e = SameDeal e
move_step w i k deal why (ShowEra era m t j root) q e = SameDeal e
move_step w i k deal why (LoadAsked era m t j root) q e = SameDeal e
move_step w i k deal why (CheckEra era m t j root link) q e = SameDeal e
move_step w i k deal why (AnswerAsked era m t j root link) q e =
    upd_if w i k m deal (Answered t j (link_number (w.seat i).post.layout root) link era i) (w.mem (places.Request m) == asking (w.seat i).post.layout t j root) e (λ s o d. asked_step w i k deal why era m t j root link q s o d)
move_step w i k deal why (LoadReserved era m t j root link) q e = SameDeal e
move_step w i k deal why (HandOver era m t j root link old) q e =
    upd_if w i k m deal (Passed t j (link_number (w.seat i).post.layout root) link era) (w.mem (places.Index m j) == halves old t) e (λ s o d. hand_step w i k deal why era m t j root link old q s o d)
move_step w i k deal why (HideEra era) q e = SameDeal e
move_step w i k deal why (HideLate seen) q e = SameDeal e
move_step w i k deal why (ExchangeClock era) q e = SameDeal e

phase_step : (w : World) (i k : ℕ) (deal : ℕ → Deal) (phase : Phase) → (w.seat i).phase ≡ phase → next_deals w i deal k ≡ phase_deals w.mem i (w.seat i).post phase deal k → DealStep w i k deal
phase_step w i k deal Idle q e = SameDeal e
phase_step w i k deal (Scans later at) q e = SameDeal e
phase_step w i k deal (Works work) q e = SameDeal e
phase_step w i k deal (Runs why (Protect aim index root steps at)) q e = protect_step w i k deal why aim index root steps at q e
phase_step w i k deal (Runs why (Move at)) q e = move_step w i k deal why at q e
phase_step w i k deal (Runs why base) q e = SameDeal e

pub deal_step : (w : World) (i k : ℕ) (deal : ℕ → Deal) → DealStep w i k deal
deal_step w i k deal = phase_step w i k deal (w.seat i).phase refl (deals_at w i k deal (w.seat i).phase refl)

-- tags in index words have 32 bits
pub few_ahead : (d : Deal) (j : ℕ) → ahead d j ≤ 1
few_ahead Quiet j = omega arith
few_ahead (Open t i n) j = omega arith
few_ahead (Answered t i n l e m) j = omega arith
few_ahead (Passed t i n l e) j = grind (arith, nat_tests)
few_ahead (Taken t i n l e) j = omega arith

pub mark_few : (w : World) (i : ℕ) (v : View) (z : Asked) (k j : ℕ) → HandoverNeeds w i v z → z.mark k j < 2 ^ 32
mark_few w i v z k j n = let b = bounds_of w.layout n.valid in omega (arith, n.requests.parts.marks k j, few_ahead (z.deal k) j, n.requests.parts.low k j, n.requests.parts.clock, b.eras)

last_first : (a b c : Bool) → (a || (b && c)) ≡ true → a ≡ false → b ≡ true
last_first true b c h n = absurd (cc)
last_first false true c h n = refl
last_first false false c h n = h

pub handed_deal : (w : World) (i : ℕ) (v : View) (z : Asked) (k j : ℕ) → HandoverNeeds w i v z → (h : Handed w i k j) → z.deal k ≡ Answered h.tag j (link_number w.layout h.root) h.link h.era i
handed_deal w i v z k j n h =
    let r = stands_as w z i (Runs h.why (Move (HandOver h.era k h.tag j h.root h.link h.old))) n.requests h.is in
    let s : nat_lt (h.tag + 1) h.era ≡ true = rw r at (n.requests.parts.spare i) in
    let c : h.era ≤ z.clock = rw r at (n.requests.parts.eras i) in
    let b = bounds_of w.layout n.valid in
    let m = n.requests.parts.clock in
    let f : h.tag < 2 ^ 32 = grind (arith, nat_tests, b.eras) in
    let plain = helps_plain w.layout.config.scheme (nat_lt k w.layout.config.seats) (run_of w i h.why (Move (HandOver h.era k h.tag j h.root h.link h.old)) n.seats h.is).fits in
    let e : w.mem (places.Index k j) ≡ halves h.old h.tag = let y = h.same in grind (arith, nat_tests) in
    let x = halves_one (z.era k j) (z.mark k j) h.old h.tag (mark_few w i v z k j n) f (sym (n.requests.words.indexes plain k j) ∙ e) in
    let q = n.requests.parts.marks k j in
    let u : nat_lt h.tag (z.tag k j) ≡ false = let y = x.1 in grind (arith, nat_tests) in
    gave_is h.tag j (link_number w.layout h.root) h.link h.era i (z.deal k) (last_first (nat_lt h.tag (z.tag k j)) (gave_by h.tag j (link_number w.layout h.root) h.link h.era i (z.deal k)) (z.era k j == h.old) (rw r at (n.requests.parts.known i)) u)

-- a request word with a pending request has just that deal
open_deal : (w : World) (i : ℕ) (v : View) (z : Asked) (k t j word : ℕ) (d : Deal) → HandoverNeeds w i v z → z.deal k ≡ d → t < 2 ^ 32 → j < 2 ^ 4 → word < 2 ^ 26 → request_of d ≡ pending_word t j word → d ≡ Open t j word
open_deal w i v z k t j word Quiet n q a b c e = absurd (let p = pending_some t j word in omega (arith, p, e))
open_deal w i v z k t j word (Open t' j' w') n q a b c e =
    let x : asked_at j' w' (z.deal k) ≡ true = rw q (grind (arith, nat_tests)) in
    let s = asker w z k j' w' n.requests x in
    let o = inside_of w i v z k s.why s.aim j' s.root s.steps s.at n s.is in
    let f : j' < w.layout.config.indexes = grind (arith, nat_tests) in
    let g = rest_of (nat_lt j' w.layout.config.indexes) (has w.layout (link_place s.root)) o in
    let y : w' < 2 ^ 26 = let l = number_below w.layout (link_place s.root) g in let m = words_few w.layout n.valid in let u = s.number in omega (arith, l, m, u) in
    let r = bounds_of w.layout n.valid in
    let p = pending_one t' j' w' t j word (let h = r.indexes in omega (arith, f, h)) y b c e in same p.0 p.1 p.2
  where
    same : t' ≡ t → j' ≡ j → w' ≡ word → Open t' j' w' ≡ Open t j word
    same p q r = cc
open_deal w i v z k t j word (Answered t' j' w' l' e' m') n q a b c e = absurd (pending≢answered t j word l' e' a b c (sym e))
open_deal w i v z k t j word (Passed t' j' w' l' e') n q a b c e = absurd (pending≢answered t j word l' e' a b c (sym e))
open_deal w i v z k t j word (Taken t' j' w' l' e') n q a b c e = absurd (pending≢answered t j word l' e' a b c (sym e))

pub helped_deal : (w : World) (i : ℕ) (v : View) (z : Asked) (k : ℕ) (why : Why) (e t j : ℕ) (root : Root) (link : ℕ) → HandoverNeeds w i v z → (w.seat i).phase ≡ Runs why (Move (AnswerAsked e k t j root link)) → (w.mem (places.Request k) == asking (w.seat i).post.layout t j root) ≡ true → z.deal k ≡ Open t j (link_number w.layout root)
helped_deal w i v z k why e t j root link n q s =
    let r = stands_as w z i (Runs why (Move (AnswerAsked e k t j root link))) n.requests q in
    let o : (nat_lt k w.layout.config.seats && (nat_lt j w.layout.config.indexes && nat_lt (link_number w.layout root) (2 ^ 26))) ≡ true = rw r at (n.requests.parts.whom i) in
    let p : nat_lt (t + 1) e ≡ true = rw r at (n.requests.parts.spare i) in
    let c : e ≤ z.clock = rw r at (n.requests.parts.eras i) in
    let b = bounds_of w.layout n.valid in
    let m = n.requests.parts.clock in
    let f : t < 2 ^ 32 = grind (arith, nat_tests, b.eras) in
    let g : j < 2 ^ 4 = grind (arith, nat_tests, b.indexes) in
    let h : link_number w.layout root < 2 ^ 26 = grind (arith, nat_tests) in
    let x : w.mem (places.Request k) ≡ asking (w.seat i).post.layout t j root = grind (arith, nat_tests) in
    let y : asking (w.seat i).post.layout t j root ≡ pending_word t j (link_number w.layout root) = ap (λ (l : Layout). pending_word t j (link_number l root)) (n.seats.fits i).post.layout in
    open_deal w i v z k t j (link_number w.layout root) (z.deal k) n refl f g h (sym (n.requests.words.requests k) ∙ x ∙ y)
