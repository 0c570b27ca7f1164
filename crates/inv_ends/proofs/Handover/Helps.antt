-- What helper words hold after a step, and an index word from the hand-over on.
use Rattle.inv_rows.proofs.words.Schemes.{helps_not_rows}
use Rattle.std.proofs.Common.{ℕ, ◌≡◌, ◌∙◌, Bool, true, false, List, refl, ap, sym, subst, arith, ◌⊎◌, inl, inr, ◌&&◌}
use Rattle.std.proofs.lemmas.Bool.Decides.{nat_tests}
use Rattle.std.specs.Prelude.{◌==◌, nat_lt}
use Rattle.inv_rows.specs.words.Place.{has}
use Rattle.inv_rows.specs.words.Place.Place.{Clock}
use Rattle.inv_rows.specs.words.declared.layout.Layout.{Layout}
use Rattle.inv_rows.specs.defs.declared.event.Event.{Event}
use Rattle.inv_rows.specs.defs.declared.event.Guard.TheVariants.{Helper, Index}
use Rattle.inv_rows.specs.defs.declared.event.Root.{Root}
use Rattle.inv_rows.specs.model.declared.post.Post.{Post}
use Rattle.inv_rows.specs.model.Desks.{Desk}
use Rattle.inv_rows.specs.model.Guards.{from_to, one_era}
use Rattle.inv_rows.specs.model.Links.{link_place, link_number, root_at}
use Rattle.inv_rows.specs.model.Memory.{Move as Act, upd, written, bump}
use Rattle.inv_rows.specs.model.Posts.{counted, tag_of}
use Rattle.inv_rows.specs.model.Phases.{Aim, ProtectAt, MoveAt, Base, Outcome, Goes, Ends, Turn}
use Rattle.inv_rows.specs.model.Phases.ProtectAt.{PublishEra, PublishHelper, LoadOwnLink, CheckOwnClock, AnswerOwn, TakeAnswer, WithdrawHelper, ByHazard}
use Rattle.inv_rows.specs.model.Phases.HazardAt.{PublishLink}
use Rattle.inv_rows.specs.model.Phases.MoveAt.{ShowEra, LoadAsked, CheckEra, AnswerAsked, HideEra, HideLate}
use Rattle.inv_rows.specs.model.Phases.Base.{Protect, Move}
use Rattle.inv_rows.specs.model.Machine.{after}
use Rattle.inv_rows.specs.model.Scan.{scan_turn}
use Rattle.inv_rows.specs.model.Steps.{phase_turn, resumed}
use Rattle.inv_rows.specs.model.Calls.{Why, Phase, Idle, Runs, Scans, Works}
use Rattle.inv_rows.specs.model.World.{World, step, finds, offered}
use Rattle.inv_rows.proofs.model.Roots.{root_at_link}
use Rattle.inv_rows.specs.Shapes.Frame.{phase_left}
use Rattle.inv_rows.specs.words.Schemes.{helps}
use Rattle.inv_rows.specs.Covering.Requests.Deals.{asked_at, stays}
use Rattle.inv_rows.specs.Covering.Requests.NextDeals.{next_deals}
use Rattle.inv_rows.specs.Covering.Requests.Standing.{protect_role, move_role, base_role, role_of}
use Rattle.inv_rows.specs.Covering.Requests.Views.{Deal, View as Asked}
use Rattle.inv_rows.specs.Covering.Requests.Views.Deal.{Quiet, Open, Answered, Passed, Taken}
use Rattle.inv_rows.specs.Rows.{Status, View, made}
use Rattle.inv_rows.specs.Hands.{row_move}
use Rattle.inv_rows.specs.Agree.{rows_after}
use Rattle.inv_rows.specs.Covering.Covers.{eras_shown}
use Rattle.inv_rows.specs.Covering.Held.{leads, under, Holds, Held}
use Rattle.inv_ends.specs.Helped.{open_by, helper_holds, answered_from, passed_to, Helped}
use Rattle.inv_ends.specs.Handover.{HandoverNeeds}
use Rattle.inv_rows.proofs.Covering.Held.{stepped_phase, move_is, finds_at, protect_stays, protect_rows, loads_cover, same_run, eras_reaches}
use Rattle.inv_rows.proofs.Covering.Guards.{helpers_fit}
use Rattle.inv_rows.proofs.Covering.Fresh.{works_start, resume_fresh}
use Rattle.inv_rows.proofs.Covering.Scans.{scan_starts}
use Rattle.inv_ends.proofs.Handover.Asks.{in_slow, asker}
use Rattle.inv_ends.proofs.Handover.Back.{inside_of, asked_under, own_under}
use Rattle.inv_ends.proofs.Handover.Deals.{DealStep, deals_at, deal_step, handed_deal, helped_deal, SameDeal, NewAsk, OwnAnswer, AnswerTaken, AskLeft, HelpedAnswer, HandedOver}
use Rattle.inv_ends.proofs.Handover.Words.{stores_protect, shows_protect, shows_move, stores_helper, own_index, own_helper, Handed, index_stays, helper_stays}
use Rattle.inv_ends.proofs.Handover.Shown.{helper_shows, one_from, holds_stay, no_store, handed_holds, giver_below}
use Rattle.inv_ends.proofs.Handover.Own.{own_stores}
use Rattle.inv_ends.proofs.Handover.Loads.{out_holds, turn_from_link, move_from_link, starts_unheld, protect_loads, move_loads, may_load, other_unheld}
use Rattle.inv_ends.proofs.Handover.Others.{other_index, other_helper, move_root, all_true}
use Rattle.inv_rows.proofs.Covering.Requests.Known.{stands_as}
use Rattle.inv_rows.proofs.model.Facts.{first_of, rest_of, both, no_truth}

-- a helper word that its own seat leaves
still_helper : (w : World) (i : ℕ) (v : View) (z : Asked) (why : Why) (base : Base) (s : ℕ) → helps w.layout.config.scheme ≡ true → HandoverNeeds w i v z → (w.seat i).phase ≡ Runs why base → stores_helper base ≡ false → Holds w v (Helper i) s → Holds (step w i) (rows_after w i v) (Helper i) s
still_helper w i v z why base s f n e o h = holds_stay w i v (Helper i) s f n.covers n.scans (helper_stays w i i (Runs why base) (n.seats.fits i).post.seat e (rw o (no_store i i))) h

-- a link that is loaded under the own helper word
helper_load : (w : World) (i : ℕ) (v : View) (z : Asked) (root : Root) (era s : ℕ) → helps w.layout.config.scheme ≡ true → HandoverNeeds w i v z → z.helper i ≡ era → w.mem Clock ≡ era → leads (w.mem (link_place root)) s ≡ true → under v.status root ≡ true → Holds w v (Helper i) s
helper_load w i v z root era s f n h c l u =
    let m = n.eras.some in
    let x : eras_shown w (Helper i) ≡ from_to era era = helper_shows w z i n.requests ∙ ap one_era h ∙ one_from era (omega (arith, c, m)) in
    record { fits = helpers_fit w.layout.config i f n.below; covers = loads_cover w v (Helper i) root s n.roots (eras_reaches w (Helper i) era era s (helps_not_rows w.layout.config.scheme f) x (omega (arith, c))) (grind (arith, nat_tests)) u }

-- a mover leaves the rows
move_rows : (w : World) (i : ℕ) (v : View) (why : Why) (at : MoveAt) → (w.seat i).phase ≡ Runs why (Move at) → rows_after w i v ≡ v
move_rows w i v why at e = ap (λ (p : Phase). made i v (row_move p (w.seat i).post (finds w i))) e

turn_loads : (w : World) (i : ℕ) (v : View) (z : Asked) (why : Why) (aim : Aim) (index : ℕ) (root : Root) (steps : ℕ) (at : ProtectAt) (s : ℕ) → helps w.layout.config.scheme ≡ true → HandoverNeeds w i v z → Helped w v z.deal → (w.seat i).phase ≡ Runs why (Protect aim index root steps at)
    → turn_from_link (w.mem Clock) v.status root at (finds w i) s ≡ true → Holds (step w i) (rows_after w i v) (Helper i) s
turn_loads w i v z why aim index root steps (LoadOwnLink first era last) s f n g e h =
    let r = stands_as w z i (Runs why (Protect aim index root steps (LoadOwnLink first era last))) n.requests e in
    let p : (z.helper i == era) ≡ true = rw r at (n.requests.parts.shown i) in
    let x = finds_at w i (Runs why (Protect aim index root steps (LoadOwnLink first era last))) e in
    let l : leads (finds w i) s ≡ true = first_of (leads (finds w i) s) (w.mem Clock == era && under v.status root) h in
    let q : (w.mem Clock == era && under v.status root) ≡ true = rest_of (leads (finds w i) s) (w.mem Clock == era && under v.status root) h in
    let c : (w.mem Clock == era) ≡ true = first_of (w.mem Clock == era) (under v.status root) q in
    still_helper w i v z why (Protect aim index root steps (LoadOwnLink first era last)) s f n e refl
    (helper_load w i v z root era s f n (grind (arith, nat_tests)) (grind (arith, nat_tests)) (subst (λ (k : ℕ). leads k s ≡ true) x l) (rest_of (w.mem Clock == era) (under v.status root) q))
turn_loads w i v z why aim index root steps (CheckOwnClock first era last link) s f n g e h =
    let x : finds w i ≡ w.mem Clock = finds_at w i (Runs why (Protect aim index root steps (CheckOwnClock first era last link))) e in
    let c : (w.mem Clock == era) ≡ true = rw (sym x) (first_of (finds w i == era) (leads link s && under v.status root) h) in
    let q = rest_of (finds w i == era) (leads link s && under v.status root) h in
    still_helper w i v z why (Protect aim index root steps (CheckOwnClock first era last link)) s f n e refl
    (g.loaded i why (Protect aim index root steps (CheckOwnClock first era last link)) s e
    (both (leads link s) (w.mem Clock == era && under v.status root) (first_of (leads link s) (under v.status root) q) (both (w.mem Clock == era) (under v.status root) c (rest_of (leads link s) (under v.status root) q))))
turn_loads w i v z why aim index root steps at s f n g e h = absurd (cc)

move_loads_held : (w : World) (i : ℕ) (v : View) (z : Asked) (why : Why) (at : MoveAt) (clock s : ℕ) → helps w.layout.config.scheme ≡ true → HandoverNeeds w i v z → Helped w v z.deal → (w.seat i).phase ≡ Runs why (Move at) → clock ≡ (step w i).mem Clock
    → move_from_link w.layout clock v.status (next_deals w i z.deal) at (finds w i) s ≡ true → Holds (step w i) (rows_after w i v) (Helper i) s
move_loads_held w i v z why (LoadAsked era k t j root) clock s f n g e d h =
    let r = stands_as w z i (Runs why (Move (LoadAsked era k t j root))) n.requests e in
    let p : (z.helper i == era) ≡ true = rw r at (n.requests.parts.shown i) in
    let x = finds_at w i (Runs why (Move (LoadAsked era k t j root))) e in
    let y : (step w i).mem Clock ≡ w.mem Clock = ap (λ (m : Act). written w.mem m Clock) (move_is w i (Runs why (Move (LoadAsked era k t j root))) e) in
    let l : leads (finds w i) s ≡ true = first_of (leads (finds w i) s) (clock == era && under v.status root) h in
    let q : (clock == era && under v.status root) ≡ true = rest_of (leads (finds w i) s) (clock == era && under v.status root) h in
    let c : (clock == era) ≡ true = first_of (clock == era) (under v.status root) q in
    still_helper w i v z why (Move (LoadAsked era k t j root)) s f n e refl
    (helper_load w i v z root era s f n (grind (arith, nat_tests)) (sym y ∙ sym d ∙ grind (arith, nat_tests)) (subst (λ (k : ℕ). leads k s ≡ true) x l) (rest_of (clock == era) (under v.status root) q))
move_loads_held w i v z why (CheckEra era k t j root link) clock s f n g e d h =
    let x : finds w i ≡ w.mem Clock = finds_at w i (Runs why (Move (CheckEra era k t j root link))) e in
    let u : next_deals w i z.deal k ≡ z.deal k = deals_at w i k z.deal (Runs why (Move (CheckEra era k t j root link))) e in
    let c : (w.mem Clock == era) ≡ true = rw (sym x) (first_of (finds w i == era) (open_by t j (link_number w.layout root) (next_deals w i z.deal k) && (leads link s && under v.status root)) h) in
    let q = rest_of (finds w i == era) (open_by t j (link_number w.layout root) (next_deals w i z.deal k) && (leads link s && under v.status root)) h in
    let o : open_by t j (link_number w.layout root) (z.deal k) ≡ true = subst (λ (b : Deal). open_by t j (link_number w.layout root) b ≡ true) u (first_of (open_by t j (link_number w.layout root) (next_deals w i z.deal k)) (leads link s && under v.status root) q) in
    let m = rest_of (open_by t j (link_number w.layout root) (next_deals w i z.deal k)) (leads link s && under v.status root) q in
    still_helper w i v z why (Move (CheckEra era k t j root link)) s f n e refl
    (g.loaded i why (Move (CheckEra era k t j root link)) s e
    (all_true (open_by t j (link_number w.layout root) (z.deal k)) (leads link s) (w.mem Clock == era) (under v.status root) o (first_of (leads link s) (under v.status root) m) c (rest_of (leads link s) (under v.status root) m)))
move_loads_held w i v z why at clock s f n g e d h = absurd (cc)

resumed_holds : (layout : Layout) (clock : ℕ) (status : ℕ → Status) (deal : ℕ → Deal) (why : Why) (desk : Desk) (post : Post) (told : List Event) (outcome : Outcome) (other : Why) (base : Base) (s : ℕ) → phase_left (resumed why desk post told outcome).outcome ≡ Runs other base → helper_holds layout clock status deal base s ≡ true → out_holds layout clock status deal outcome s ≡ true
resumed_holds layout clock status deal why desk post told (Goes one) other base s e h = let q = same_run why other one base e in rw q h
resumed_holds layout clock status deal why desk post told (Ends ending) other base s e h =
    absurd (no_truth (starts_unheld layout clock status deal (phase_left (resumed why desk post told (Ends ending)).outcome) other base s (resume_fresh why ending post desk told).starts e h))

run_loads : (w : World) (i : ℕ) (v : View) (z : Asked) (reason : Why) (one : Base) (s : ℕ) (may : Bool) → may_load one ≡ may → helps w.layout.config.scheme ≡ true → HandoverNeeds w i v z → Helped w v z.deal → (w.seat i).phase ≡ Runs reason one
    → out_holds w.layout ((step w i).mem Clock) (rows_after w i v).status (next_deals w i z.deal) (after one (counted (w.seat i).post) (finds w i)).outcome s ≡ true → Holds (step w i) (rows_after w i v) (Helper i) s
run_loads w i v z reason (Protect aim index root steps at) s may p f n g e h =
    let c = protect_stays w i reason aim index root steps at e in
    let r = protect_rows w i v reason aim index root steps at e in
    let x = protect_loads w.layout ((step w i).mem Clock) (rows_after w i v).status (next_deals w i z.deal) aim index root (bump steps) at (counted (w.seat i).post) (finds w i) s h in
    let y : turn_from_link (w.mem Clock) (rows_after w i v).status root at (finds w i) s ≡ true = subst (λ (k : ℕ). turn_from_link k (rows_after w i v).status root at (finds w i) s ≡ true) c x in
    turn_loads w i v z reason aim index root steps at s f n g e (subst (λ (u : View). turn_from_link (w.mem Clock) u.status root at (finds w i) s ≡ true) r y)
run_loads w i v z reason (Move at) s may p f n g e h =
    let r = move_rows w i v reason at e in
    let x = move_loads w.layout ((step w i).mem Clock) (rows_after w i v).status (next_deals w i z.deal) at (counted (w.seat i).post) (finds w i) s h in
    move_loads_held w i v z reason at ((step w i).mem Clock) s f n g e refl (subst (λ (u : View). move_from_link w.layout ((step w i).mem Clock) u.status (next_deals w i z.deal) at (finds w i) s ≡ true) r x)
run_loads w i v z reason one s true p f n g e h = absurd (cc)
run_loads w i v z reason one s false p f n g e h =
    absurd (no_truth (sym (other_unheld w.layout ((step w i).mem Clock) (rows_after w i v).status (next_deals w i z.deal) one (counted (w.seat i).post) (finds w i) s p) ∙ h))

phase_loads : (w : World) (i : ℕ) (v : View) (z : Asked) (phase : Phase) (why : Why) (base : Base) (s : ℕ) → helps w.layout.config.scheme ≡ true → HandoverNeeds w i v z → Helped w v z.deal → (w.seat i).phase ≡ phase
    → phase_left (phase_turn phase (counted (w.seat i).post) (offered w i).desk (finds w i)).outcome ≡ Runs why base
    → helper_holds w.layout ((step w i).mem Clock) (rows_after w i v).status (next_deals w i z.deal) base s ≡ true → Holds (step w i) (rows_after w i v) (Helper i) s
phase_loads w i v z Idle why base s f n g e o h = absurd (cc)
phase_loads w i v z (Scans later at) why base s f n g e o h =
    absurd (no_truth (starts_unheld w.layout ((step w i).mem Clock) (rows_after w i v).status (next_deals w i z.deal) (phase_left (scan_turn later at (counted (w.seat i).post) (offered w i).desk (finds w i)).outcome) why base s (scan_starts later at (counted (w.seat i).post) (offered w i).desk (finds w i)) o h))
phase_loads w i v z (Works work) why base s f n g e o h =
    absurd (no_truth (starts_unheld w.layout ((step w i).mem Clock) (rows_after w i v).status (next_deals w i z.deal) (Runs why base) why base s (works_start work (counted (w.seat i).post) (offered w i).desk (finds w i) why base o) refl h))
phase_loads w i v z (Runs reason one) why base s f n g e o h =
    let u : Turn = after one (counted (w.seat i).post) (finds w i) in
    run_loads w i v z reason one s (may_load one) refl f n g e
    (resumed_holds w.layout ((step w i).mem Clock) (rows_after w i v).status (next_deals w i z.deal) reason (offered w i).desk u.post u.told u.outcome why base s o h)

pub own_loaded : (w : World) (i : ℕ) (v : View) (z : Asked) (why : Why) (base : Base) (s : ℕ) → helps w.layout.config.scheme ≡ true → HandoverNeeds w i v z → Helped w v z.deal → ((step w i).seat i).phase ≡ Runs why base
    → helper_holds w.layout ((step w i).mem Clock) (rows_after w i v).status (next_deals w i z.deal) base s ≡ true → Holds (step w i) (rows_after w i v) (Helper i) s
own_loaded w i v z why base s f n g e h = phase_loads w i v z (w.seat i).phase why base s f n g refl (sym (stepped_phase w i) ∙ e) h

-- who gave an answer does not store its helper word
protect_still : (layout : Layout) (index : ℕ) (root : Root) (at : ProtectAt) (m k t j word l e : ℕ) → stays (protect_role layout index root at) m k t j word l e ≡ true → shows_protect at ≡ false
protect_still layout index root (PublishHelper first era last) m k t j word l e h = absurd (cc)
protect_still layout index root (WithdrawHelper link era) m k t j word l e h = absurd (cc)
protect_still layout index root at m k t j word l e h = refl

move_still : (layout : Layout) (at : MoveAt) (m k t j word l e : ℕ) → stays (move_role layout at) m k t j word l e ≡ true → shows_move at ≡ false
move_still layout (ShowEra era seat tag index root) m k t j word l e h = absurd (cc)
move_still layout (HideEra era) m k t j word l e h = absurd (cc)
move_still layout (HideLate seen) m k t j word l e h = absurd (cc)
move_still layout at m k t j word l e h = refl

base_still : (layout : Layout) (base : Base) (m k t j word l e : ℕ) → stays (base_role layout base) m k t j word l e ≡ true → stores_helper base ≡ false
base_still layout (Protect aim index root steps at) m k t j word l e h = protect_still layout index root at m k t j word l e h
base_still layout (Move at) m k t j word l e h = move_still layout at m k t j word l e h
base_still layout base m k t j word l e h = refl

phase_still : (layout : Layout) (i m k t j word l e : ℕ) (phase : Phase) → stays (role_of layout phase) m k t j word l e ≡ true → own_helper i phase i ≡ false
phase_still layout i m k t j word l e Idle h = refl
phase_still layout i m k t j word l e (Runs why base) h = rw (base_still layout base m k t j word l e h) (no_store i i)
phase_still layout i m k t j word l e (Scans later at) h = refl
phase_still layout i m k t j word l e (Works work) h = refl

giver_still : (w : World) (i : ℕ) (v : View) (z : Asked) (k t j word l e m : ℕ) (own : Bool) → (m == i) ≡ own → HandoverNeeds w i v z → z.deal k ≡ Answered t j word l e m → own_helper i (w.seat i).phase m ≡ false
giver_still w i v z k t j word l e m false o n q = other_helper i m (w.seat i).phase o
giver_still w i v z k t j word l e m true o n q =
    let x : m ≡ i = grind (arith, nat_tests) in
    let h = (giver_below w i v z k t j word l e m n q).0 in
    let r : z.role m ≡ role_of w.layout (w.seat i).phase = ap z.role x ∙ stands_as w z i (w.seat i).phase n.requests refl in
    rw x (phase_still w.layout i m k t j word l e (w.seat i).phase (rw (sym r) h))

-- an answer that was given before
same_answer : (w : World) (i : ℕ) (v : View) (z : Asked) (k by s : ℕ) (d : Deal) → helps w.layout.config.scheme ≡ true → HandoverNeeds w i v z → Held w v → Helped w v z.deal → z.deal k ≡ d → answered_from w.layout (rows_after w i v).status by d s ≡ true → Holds (step w i) (rows_after w i v) (Helper by) s
same_answer w i v z k by s Quiet helping n h g q a = absurd (cc)
same_answer w i v z k by s (Open t j word) helping n h g q a = absurd (cc)
same_answer w i v z k by s (Passed t j word l e) helping n h g q a = absurd (cc)
same_answer w i v z k by s (Taken t j word l e) helping n h g q a = absurd (cc)
same_answer w i v z k by s (Answered t j word l e m) helping n h g q a =
    let o : (m == by) ≡ true = first_of (m == by) (leads l s && under (rows_after w i v).status (root_at w.layout word)) a in
    let x : m ≡ by = grind (arith, nat_tests) in
    let b = rest_of (m == by) (leads l s && under (rows_after w i v).status (root_at w.layout word)) a in
    let c : asked_at j word (z.deal k) ≡ true = rw q (grind (arith, nat_tests)) in
    let u = asked_under w i v z k j word n h c (rest_of (leads l s) (under (rows_after w i v).status (root_at w.layout word)) b) in
    let y : answered_from w.layout v.status by (z.deal k) s ≡ true = rw q (both (m == by) (leads l s && under v.status (root_at w.layout word)) o (both (leads l s) (under v.status (root_at w.layout word)) (first_of (leads l s) (under (rows_after w i v).status (root_at w.layout word)) b) u)) in
    let f : own_helper i (w.seat i).phase by ≡ false = rw (sym x) (giver_still w i v z k t j word l e m (m == i) refl n q) in
    holds_stay w i v (Helper by) s helping n.covers n.scans (helper_stays w i by (w.seat i).phase (n.seats.fits i).post.seat refl f) (g.answered k by s y)

-- the parts of a new answer
new_by : (layout : Layout) (status : ℕ → Status) (by t j word l e m s : ℕ) → answered_from layout status by (Answered t j word l e m) s ≡ true → m ≡ by
new_by layout status by t j word l e m s h = grind (arith, nat_tests)

new_leads : (layout : Layout) (status : ℕ → Status) (by t j word l e m s : ℕ) → answered_from layout status by (Answered t j word l e m) s ≡ true → leads l s ≡ true
new_leads layout status by t j word l e m s h = first_of (leads l s) (under status (root_at layout word)) (rest_of (m == by) (leads l s && under status (root_at layout word)) h)

new_under : (layout : Layout) (status : ℕ → Status) (by t j word l e m s : ℕ) → answered_from layout status by (Answered t j word l e m) s ≡ true → under status (root_at layout word) ≡ true
new_under layout status by t j word l e m s h = rest_of (leads l s) (under status (root_at layout word)) (rest_of (m == by) (leads l s && under status (root_at layout word)) h)

own_number : (w : World) (i : ℕ) (v : View) (z : Asked) (root : Root) → HandoverNeeds w i v z → link_number (w.seat i).post.layout root ≡ link_number w.layout root
own_number w i v z root n = ap (λ (l : Layout). link_number l root) (n.seats.fits i).post.layout

answer_from : (w : World) (i : ℕ) (v : View) (z : Asked) (k by s : ℕ) → helps w.layout.config.scheme ≡ true → HandoverNeeds w i v z → Held w v → Helped w v z.deal → DealStep w i k z.deal → answered_from w.layout (rows_after w i v).status by (next_deals w i z.deal k) s ≡ true → Holds (step w i) (rows_after w i v) (Helper by) s
answer_from w i v z k by s f n h g (SameDeal e) a = same_answer w i v z k by s (z.deal k) f n h g refl (subst (λ (d : Deal). answered_from w.layout (rows_after w i v).status by d s ≡ true) e a)
answer_from w i v z k by s f n h g (NewAsk why aim index root steps o q e) a = absurd (let x = rw e at a in no_truth x)
answer_from w i v z k by s f n h g (AnswerTaken tag index number link era e) a = absurd (let x = rw e at a in no_truth x)
answer_from w i v z k by s f n h g (AskLeft e) a = absurd (let x = rw e at a in no_truth x)
answer_from w i v z k by s f n h g (HandedOver why era tag index root link old q m e) a = absurd (let x = rw e at a in no_truth x)
answer_from w i v z k by s f n h g (OwnAnswer why aim index root steps first era link o q e) a =
    let b : answered_from w.layout (rows_after w i v).status by (Answered (tag_of (w.seat i).post index) index (link_number w.layout root) link era i) s ≡ true = subst (λ (d : Deal). answered_from w.layout (rows_after w i v).status by d s ≡ true) (e ∙ ap (λ (c : ℕ). Answered (tag_of (w.seat i).post index) index c link era i) (own_number w i v z root n)) a in
    let x = new_by w.layout (rows_after w i v).status by (tag_of (w.seat i).post index) index (link_number w.layout root) link era i s b in
    let l = new_leads w.layout (rows_after w i v).status by (tag_of (w.seat i).post index) index (link_number w.layout root) link era i s b in
    let u = new_under w.layout (rows_after w i v).status by (tag_of (w.seat i).post index) index (link_number w.layout root) link era i s b in
    let p = inside_of w i v z i why aim index root steps (AnswerOwn first era link) n q in
    let r : root_at w.layout (link_number w.layout root) ≡ root = root_at_link w.layout root (rest_of (nat_lt index w.layout.config.indexes) (has w.layout (link_place root)) p) in
    let y = own_under w i v z i why aim index root steps (AnswerOwn first era link) n h q (subst (λ (c : Root). under (rows_after w i v).status c ≡ true) r u) in
    rw (sym x) (still_helper w i v z why (Protect aim index root steps (AnswerOwn first era link)) s f n q refl (g.loaded i why (Protect aim index root steps (AnswerOwn first era link)) s q (both (leads link s) (under v.status root) l y)))
answer_from w i v z k by s f n h g (HelpedAnswer why era t j root link q m e) a =
    let b : answered_from w.layout (rows_after w i v).status by (Answered t j (link_number w.layout root) link era i) s ≡ true = subst (λ (d : Deal). answered_from w.layout (rows_after w i v).status by d s ≡ true) (e ∙ ap (λ (c : ℕ). Answered t j c link era i) (own_number w i v z root n)) a in
    let x = new_by w.layout (rows_after w i v).status by t j (link_number w.layout root) link era i s b in
    let l = new_leads w.layout (rows_after w i v).status by t j (link_number w.layout root) link era i s b in
    let u = new_under w.layout (rows_after w i v).status by t j (link_number w.layout root) link era i s b in
    let d = helped_deal w i v z k why era t j root link n q m in
    let o : open_by t j (link_number w.layout root) (z.deal k) ≡ true = rw d (grind (arith, nat_tests)) in
    let c : asked_at j (link_number w.layout root) (z.deal k) ≡ true = rw d (grind (arith, nat_tests)) in
    let r : root_at w.layout (link_number w.layout root) ≡ root = root_at_link w.layout root (move_root w z i why (AnswerAsked era k t j root link) n.requests q) in
    let y = subst (λ (f : Root). under v.status f ≡ true) r (asked_under w i v z k j (link_number w.layout root) n h c u) in
    rw (sym x) (still_helper w i v z why (Move (AnswerAsked era k t j root link)) s f n q refl (g.loaded i why (Move (AnswerAsked era k t j root link)) s q
    (both (open_by t j (link_number w.layout root) (z.deal k)) (leads link s && under v.status root) o (both (leads link s) (under v.status root) l y))))

pub answers_hold : (w : World) (i : ℕ) (v : View) (z : Asked) (k by s : ℕ) → helps w.layout.config.scheme ≡ true → HandoverNeeds w i v z → Held w v → Helped w v z.deal → answered_from w.layout (rows_after w i v).status by (next_deals w i z.deal k) s ≡ true → Holds (step w i) (rows_after w i v) (Helper by) s
answers_hold w i v z k by s f n h g a = answer_from w i v z k by s f n h g (deal_step w i k z.deal) a

-- an answer that was handed over before: its seat does not store its index word, unless it takes the answer
self_upd : (i : ℕ) (deal : ℕ → Deal) (d : Deal) → upd deal i d i ≡ d
self_upd i deal d = let e : (i == i) ≡ true = grind (arith, nat_tests) in rw e refl

not_taken : (w : World) (i : ℕ) (deal : ℕ → Deal) (why : Why) (aim : Aim) (index : ℕ) (root : Root) (steps : ℕ) (at : ProtectAt) (t j word l e : ℕ) → (w.seat i).phase ≡ Runs why (Protect aim index root steps at) → in_slow at ≡ true → next_deals w i deal i ≡ Passed t j word l e → stores_protect index at index ≡ false
not_taken w i deal why aim index root steps (TakeAnswer link era) t j word l e q o p =
    let x = deals_at w i i deal (Runs why (Protect aim index root steps (TakeAnswer link era))) q ∙ self_upd i deal (Taken (tag_of (w.seat i).post index) index (link_number (w.seat i).post.layout root) link era) in absurd (other_deal (sym x ∙ p))
  where
    other_deal : Taken (tag_of (w.seat i).post index) index (link_number (w.seat i).post.layout root) link era ≡ Passed t j word l e → ⊥
    other_deal y = cc
not_taken w i deal why aim index root steps (PublishEra era tries) t j word l e q o p = absurd (cc)
not_taken w i deal why aim index root steps (ByHazard (PublishLink link)) t j word l e q o p = absurd (cc)
not_taken w i deal why aim index root steps at t j word l e q o p = refl

passed_own : (w : World) (i : ℕ) (v : View) (z : Asked) (k t j word l e : ℕ) (own : Bool) → (k == i) ≡ own → HandoverNeeds w i v z → next_deals w i z.deal k ≡ z.deal k → z.deal k ≡ Passed t j word l e → own_index i (w.seat i).phase k j ≡ false
passed_own w i v z k t j word l e false o n x q = other_index i k j (w.seat i).phase o
passed_own w i v z k t j word l e true o n x q =
    let y : k ≡ i = grind (arith, nat_tests) in
    let c : asked_at j word (z.deal i) ≡ true = rw (sym y, q) (grind (arith, nat_tests)) in
    let a = asker w z i j word n.requests c in
    let p : next_deals w i z.deal i ≡ Passed t j word l e = ap (λ (m : ℕ). next_deals w i z.deal m) (sym y) ∙ x ∙ q in
    let s = not_taken w i z.deal a.why a.aim j a.root a.steps a.at t j word l e a.is a.slow p in
    rw (y, a.is) (own_stores i (stores_protect j a.at j) s)

-- a hand-over is of an answer that is not handed over yet
handed_once : (w : World) (i : ℕ) (v : View) (z : Asked) (k j t word l e : ℕ) → HandoverNeeds w i v z → Handed w i k j → z.deal k ≡ Passed t j word l e → false ≡ true
handed_once w i v z k j t word l e n h q = let d = handed_deal w i v z k j n h in absurd (other_deal (sym d ∙ q))
  where
    other_deal : Answered h.tag j (link_number w.layout h.root) h.link h.era i ≡ Passed t j word l e → ⊥
    other_deal y = cc

same_passed : (w : World) (i : ℕ) (v : View) (z : Asked) (k index s : ℕ) (d : Deal) → helps w.layout.config.scheme ≡ true → HandoverNeeds w i v z → Held w v → Helped w v z.deal → next_deals w i z.deal k ≡ z.deal k → z.deal k ≡ d → passed_to w.layout (rows_after w i v).status index d s ≡ true → Holds (step w i) (rows_after w i v) (Index k index) s
same_passed w i v z k index s Quiet helping n h g x q a = absurd (cc)
same_passed w i v z k index s (Open t j word) helping n h g x q a = absurd (cc)
same_passed w i v z k index s (Answered t j word l e m) helping n h g x q a = absurd (cc)
same_passed w i v z k index s (Taken t j word l e) helping n h g x q a = absurd (cc)
same_passed w i v z k index s (Passed t j word l e) helping n h g x q a =
    let o : (j == index) ≡ true = first_of (j == index) (leads l s && under (rows_after w i v).status (root_at w.layout word)) a in
    let y : j ≡ index = grind (arith, nat_tests) in
    let b = rest_of (j == index) (leads l s && under (rows_after w i v).status (root_at w.layout word)) a in
    let c : asked_at j word (z.deal k) ≡ true = rw q (grind (arith, nat_tests)) in
    let u = asked_under w i v z k j word n h c (rest_of (leads l s) (under (rows_after w i v).status (root_at w.layout word)) b) in
    let p : passed_to w.layout v.status j (z.deal k) s ≡ true = rw q (both (j == j) (leads l s && under v.status (root_at w.layout word)) (grind (arith, nat_tests)) (both (leads l s) (under v.status (root_at w.layout word)) (first_of (leads l s) (under (rows_after w i v).status (root_at w.layout word)) b) u)) in
    rw (sym y) (by (g.passed k j s p) (index_stays w i k j (w.seat i).phase (n.seats.fits i).post.seat refl (passed_own w i v z k t j word l e (k == i) refl n x q)))
  where
    by : Holds w v (Index k j) s → (eras_shown (step w i) (Index k j) ≡ eras_shown w (Index k j)) ⊎ Handed w i k j → Holds (step w i) (rows_after w i v) (Index k j) s
    by r (inl f) = holds_stay w i v (Index k j) s helping n.covers n.scans f r
    by r (inr f) = absurd (no_truth (handed_once w i v z k j t word l e n f q))

passed_from : (w : World) (i : ℕ) (v : View) (z : Asked) (k index s : ℕ) → helps w.layout.config.scheme ≡ true → HandoverNeeds w i v z → Held w v → Helped w v z.deal → DealStep w i k z.deal → passed_to w.layout (rows_after w i v).status index (next_deals w i z.deal k) s ≡ true → Holds (step w i) (rows_after w i v) (Index k index) s
passed_from w i v z k index s f n h g (SameDeal e) a = same_passed w i v z k index s (z.deal k) f n h g e refl (subst (λ (d : Deal). passed_to w.layout (rows_after w i v).status index d s ≡ true) e a)
passed_from w i v z k index s f n h g (NewAsk why aim place root steps o q e) a = absurd (let x = rw e at a in no_truth x)
passed_from w i v z k index s f n h g (OwnAnswer why aim place root steps first era link o q e) a = absurd (let x = rw e at a in no_truth x)
passed_from w i v z k index s f n h g (AnswerTaken tag place number link era e) a = absurd (let x = rw e at a in no_truth x)
passed_from w i v z k index s f n h g (AskLeft e) a = absurd (let x = rw e at a in no_truth x)
passed_from w i v z k index s f n h g (HelpedAnswer why era t j root link q m e) a = absurd (let x = rw e at a in no_truth x)
passed_from w i v z k index s f n h g (HandedOver why era t j root link old q m e) a =
    let b : passed_to w.layout (rows_after w i v).status index (Passed t j (link_number w.layout root) link era) s ≡ true = subst (λ (d : Deal). passed_to w.layout (rows_after w i v).status index d s ≡ true) (e ∙ ap (λ (c : ℕ). Passed t j c link era) (own_number w i v z root n)) a in
    let o : (j == index) ≡ true = first_of (j == index) (leads link s && under (rows_after w i v).status (root_at w.layout (link_number w.layout root))) b in
    let y : j ≡ index = grind (arith, nat_tests) in
    let c = rest_of (j == index) (leads link s && under (rows_after w i v).status (root_at w.layout (link_number w.layout root))) b in
    let t1 : Handed w i k j = record { why = why; era = era; tag = t; root = root; link = link; old = old; is = q; same = m } in
    let d : z.deal k ≡ Answered t j (link_number w.layout root) link era i = handed_deal w i v z k j n t1 in
    let x : asked_at j (link_number w.layout root) (z.deal k) ≡ true = rw d (grind (arith, nat_tests)) in
    let u = asked_under w i v z k j (link_number w.layout root) n h x (rest_of (leads link s) (under (rows_after w i v).status (root_at w.layout (link_number w.layout root))) c) in
    rw (sym y) (handed_holds w i v z k j s f n g t1 (first_of (leads link s) (under (rows_after w i v).status (root_at w.layout (link_number w.layout root))) c) u)

pub passed_hold : (w : World) (i : ℕ) (v : View) (z : Asked) (k index s : ℕ) → helps w.layout.config.scheme ≡ true → HandoverNeeds w i v z → Held w v → Helped w v z.deal → passed_to w.layout (rows_after w i v).status index (next_deals w i z.deal k) s ≡ true → Holds (step w i) (rows_after w i v) (Index k index) s
passed_hold w i v z k index s f n h g a = passed_from w i v z k index s f n h g (deal_step w i k z.deal) a
