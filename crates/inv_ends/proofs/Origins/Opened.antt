-- A request that is open after a step and was loaded by a mover was open before; and a seat that has a request protects the
-- same root after its own step.
use Rattle.std.proofs.Common.{ℕ, ◌≡◌, ◌⊎◌, inl, inr, Bool, true, false, List, arith, refl, sym, ap, subst, ◌∙◌}
use Rattle.std.proofs.lemmas.Bool.Decides.{nat_tests}
use Rattle.std.specs.Prelude.{◌==◌, ◌&&◌, ◌||◌, nat_lt, if◌then◌else◌}
use Rattle.inv_rows.specs.words.Place.Place.{Index, Request}
use Rattle.inv_rows.specs.words.Packed.{halves}
use Rattle.inv_rows.specs.defs.declared.event.Event.{Event}
use Rattle.inv_rows.specs.defs.declared.event.Root.{Root}
use Rattle.inv_rows.specs.model.declared.post.Post.{Post}
use Rattle.inv_rows.specs.model.Desks.{Desk}
use Rattle.inv_rows.specs.model.Links.{link_number}
use Rattle.inv_rows.specs.model.Machine.{protect_turn, after}
use Rattle.inv_rows.specs.model.Memory.{upd, bump}
use Rattle.inv_rows.specs.model.Posts.{counted, tag_of}
use Rattle.inv_rows.specs.model.SlowPath.{asking, own_request}
use Rattle.inv_rows.specs.model.Phases.{Aim, ProtectAt, MoveAt, Base, Turn, Outcome, Goes, Ends}
use Rattle.inv_rows.specs.model.Phases.ProtectAt.{LoadClock, PublishEra, LoadLink, CheckClock, PublishRequest, LoadOwnClock, PublishHelper, LoadOwnLink, CheckOwnClock, AnswerOwn, LoadAnswer, TakeAnswer, WithdrawRequest, WithdrawHelper, LoadWithin, CheckUpper, RaiseUpper, ByHazard}
use Rattle.inv_rows.specs.model.Phases.MoveAt.{LoadEra, LoadRequest, ShowEra, LoadAsked, CheckEra, AnswerAsked, LoadReserved, HandOver, HideEra, HideLate, ExchangeClock}
use Rattle.inv_rows.specs.model.Phases.Base.{Begin, Protect, Reload, Clear, Finish, Release, Allocate, Write, GiveUp, Retire, Move}
use Rattle.inv_rows.specs.model.Calls.{Why, Work, Phase, Idle, Runs, Scans, Works, CallTurn}
use Rattle.inv_rows.specs.model.Steps.{resumed, phase_turn}
use Rattle.inv_rows.specs.model.World.{World, step, finds, offered}
use Rattle.inv_rows.specs.Shapes.Frame.{phase_left}
use Rattle.inv_rows.specs.Covering.Requests.Deals.{is_quiet, asked_by, fits}
use Rattle.inv_rows.specs.Covering.Requests.NextDeals.{protect_deals, move_deals, base_deals, phase_deals, next_deals}
use Rattle.inv_rows.specs.Covering.Requests.Standing.{work_role}
use Rattle.inv_rows.specs.Covering.Requests.Views.{View, Deal, Role}
use Rattle.inv_rows.specs.Covering.Requests.Views.Deal.{Quiet, Open, Answered, Passed, Taken}
use Rattle.inv_rows.proofs.Covering.Requests.Kept.{at_of}
use Rattle.inv_rows.proofs.Covering.Requests.Turns.{each_work_role}
use Rattle.inv_ends.specs.Tracked.{opened_by, root_base, root_for, root_in}
use Rattle.inv_ends.specs.Origins.{OriginsNeeds}
use Rattle.inv_ends.proofs.Origins.Deals.{answered_is, passed_is, hands_plain, other_deal}
use Rattle.inv_rows.proofs.Covering.Held.{stepped_phase}
use Rattle.inv_rows.specs.words.declared.layout.Layout.{Layout}
pub use Rattle.inv_rows.proofs.Covering.Requests.Known.{fits_at as fit_of}

quiet_asked : (t j u : ℕ) (d : Deal) → is_quiet d ≡ true → asked_by t j u d ≡ false
quiet_asked t j u Quiet h = refl
quiet_asked t j u (Open t' j' w') h = absurd (cc)
quiet_asked t j u (Answered t' j' w' l' e' m') h = absurd (cc)
quiet_asked t j u (Passed t' j' w' l' e') h = absurd (cc)
quiet_asked t j u (Taken t' j' w' l' e') h = absurd (cc)

-- what a mover knows of the request that it has loaded
abbrev pub knows_of : View → ℕ → ℕ → ℕ → ℕ → Bool
knows_of z k t j u = nat_lt t (z.tag k j) || asked_by t j u (z.deal k)

-- another deal is made of that of seat s
open_other : (z : View) (s k t j u : ℕ) (D : Deal) → (k ≡ s → opened_by t j u D ≡ true → opened_by t j u (z.deal k) ≡ true) → ((k ≡ s) × (opened_by t j u D ≡ true)) ⊎ (opened_by t j u (z.deal k) ≡ true) → opened_by t j u (z.deal k) ≡ true
open_other z s k t j u D g (inl p) = g p.0 p.1
open_other z s k t j u D g (inr h) = h

open_made : (z : View) (s k t j u : ℕ) (D : Deal) → (k ≡ s → opened_by t j u D ≡ true → opened_by t j u (z.deal k) ≡ true) → opened_by t j u (upd z.deal s D k) ≡ true → opened_by t j u (z.deal k) ≡ true
open_made z s k t j u D g h = open_other z s k t j u D g (other_deal (λ (d : Deal). opened_by t j u d ≡ true) z.deal s D k (k == s) refl h)

open_if : (z : View) (s k t j u : ℕ) (D : Deal) (c : Bool) → (k ≡ s → opened_by t j u D ≡ true → opened_by t j u (z.deal k) ≡ true) → opened_by t j u ((if c then upd z.deal s D else z.deal) k) ≡ true → opened_by t j u (z.deal k) ≡ true
open_if z s k t j u D true g h = open_made z s k t j u D g h
open_if z s k t j u D false g h = h

not_open : (z : View) (k t j u : ℕ) → false ≡ true → opened_by t j u (z.deal k) ≡ true
not_open z k t j u h = absurd (cc)

-- a request that its owner publishes has a new tag
same_index : (own t j u index word : ℕ) → (own == t && (index == j && word == u)) ≡ true → (j ≡ index) × (own ≡ t)
same_index own t j u index word h = (grind (arith, nat_tests), grind (arith, nat_tests))

tag_apart : (t low own : ℕ) (asked : Bool) → low ≡ own → own ≡ t → asked ≡ false → (nat_lt t low || asked) ≡ true → false ≡ true
tag_apart t low own asked l e a k = grind (arith, nat_tests)

publish_open : (w : World) (i : ℕ) (z : View) (why : Why) (aim : Aim) (index : ℕ) (root : Root) (steps k t j u : ℕ) → OriginsNeeds w i z → (w.seat i).phase ≡ Runs why (Protect aim index root steps PublishRequest) → knows_of z k t j u ≡ true → k ≡ i
    → opened_by t j u (Open (tag_of (w.seat i).post index) index (link_number (w.seat i).post.layout root)) ≡ true → opened_by t j u (z.deal k) ≡ true
publish_open w i z why aim index root steps k t j u n q known e o =
    let f : is_quiet (z.deal i) ≡ true = fit_of w z i (Runs why (Protect aim index root steps PublishRequest)) n.requests q in
    let a : asked_by t j u (z.deal i) ≡ false = quiet_asked t j u (z.deal i) f in
    let s = same_index (tag_of (w.seat i).post index) t j u index (link_number (w.seat i).post.layout root) o in
    let here : (nat_lt t (z.tag i j) || asked_by t j u (z.deal i)) ≡ true = subst (λ (x : ℕ). knows_of z x t j u ≡ true) e known in
    let low : z.tag i j ≡ tag_of (w.seat i).post index = ap (z.tag i) s.0 ∙ sym (n.requests.locals.tags i index) in
    not_open z k t j u (tag_apart t (z.tag i j) (tag_of (w.seat i).post index) (asked_by t j u (z.deal i)) low s.1 a here)

open_protect : (w : World) (i : ℕ) (z : View) (why : Why) (aim : Aim) (index : ℕ) (root : Root) (steps : ℕ) (at : ProtectAt) (k t j u : ℕ) → OriginsNeeds w i z → (w.seat i).phase ≡ Runs why (Protect aim index root steps at) → knows_of z k t j u ≡ true
    → opened_by t j u (protect_deals w.mem i (w.seat i).post index root at z.deal k) ≡ true → opened_by t j u (z.deal k) ≡ true
open_protect w i z why aim index root steps (LoadClock tries) k t j u n q known h = h
open_protect w i z why aim index root steps (PublishEra era tries) k t j u n q known h = h
open_protect w i z why aim index root steps (LoadLink era tries) k t j u n q known h = h
open_protect w i z why aim index root steps (CheckClock era tries link) k t j u n q known h = h
open_protect w i z why aim index root steps PublishRequest k t j u n q known h =
    open_made z i k t j u (Open (tag_of (w.seat i).post index) index (link_number (w.seat i).post.layout root)) (λ e o. publish_open w i z why aim index root steps k t j u n q known e o) h
open_protect w i z why aim index root steps LoadOwnClock k t j u n q known h = h
open_protect w i z why aim index root steps (PublishHelper first era last) k t j u n q known h = h
open_protect w i z why aim index root steps (LoadOwnLink first era last) k t j u n q known h = h
open_protect w i z why aim index root steps (CheckOwnClock first era last link) k t j u n q known h = h
open_protect w i z why aim index root steps (AnswerOwn first era link) k t j u n q known h =
    open_if z i k t j u (Answered (tag_of (w.seat i).post index) index (link_number (w.seat i).post.layout root) link era i) (w.mem (Request (w.seat i).post.seat) == own_request (w.seat i).post index root) (λ e o. not_open z k t j u o) h
open_protect w i z why aim index root steps (LoadAnswer first) k t j u n q known h = h
open_protect w i z why aim index root steps (TakeAnswer link era) k t j u n q known h =
    open_made z i k t j u (Taken (tag_of (w.seat i).post index) index (link_number (w.seat i).post.layout root) link era) (λ e o. not_open z k t j u o) h
open_protect w i z why aim index root steps (WithdrawRequest link era) k t j u n q known h = open_made z i k t j u Quiet (λ e o. not_open z k t j u o) h
open_protect w i z why aim index root steps at k t j u n q known h = h

open_move : (w : World) (i : ℕ) (z : View) (why : Why) (at : MoveAt) (k t j u : ℕ) → (w.seat i).phase ≡ Runs why (Move at) → opened_by t j u (move_deals w.mem i (w.seat i).post at z.deal k) ≡ true → opened_by t j u (z.deal k) ≡ true
open_move w i z why (LoadEra helps) k t j u q h = h
open_move w i z why (LoadRequest e s shown) k t j u q h = h
open_move w i z why (ShowEra e s t' j' r) k t j u q h = h
open_move w i z why (LoadAsked e s t' j' r) k t j u q h = h
open_move w i z why (CheckEra e s t' j' r link) k t j u q h = h
open_move w i z why (AnswerAsked e s t' j' r link) k t j u q h =
    open_if z s k t j u (Answered t' j' (link_number (w.seat i).post.layout r) link e i) (w.mem (Request s) == asking (w.seat i).post.layout t' j' r) (λ x o. not_open z k t j u o) h
open_move w i z why (LoadReserved e s t' j' r link) k t j u q h = h
open_move w i z why (HandOver e s t' j' r link old) k t j u q h =
    open_if z s k t j u (Passed t' j' (link_number (w.seat i).post.layout r) link e) (w.mem (Index s j') == halves old t') (λ x o. not_open z k t j u o) h
open_move w i z why (HideEra e) k t j u q h = h
open_move w i z why (HideLate seen) k t j u q h = h
open_move w i z why (ExchangeClock e) k t j u q h = h

open_base : (w : World) (i : ℕ) (z : View) (why : Why) (base : Base) (k t j u : ℕ) → OriginsNeeds w i z → (w.seat i).phase ≡ Runs why base → knows_of z k t j u ≡ true → opened_by t j u (base_deals w.mem i (w.seat i).post base z.deal k) ≡ true → opened_by t j u (z.deal k) ≡ true
open_base w i z why (Begin at) k t j u n q known h = h
open_base w i z why (Protect aim index root steps at) k t j u n q known h = open_protect w i z why aim index root steps at k t j u n q known h
open_base w i z why (Reload parent index slot era steps) k t j u n q known h = h
open_base w i z why (Clear rows index) k t j u n q known h = h
open_base w i z why Finish k t j u n q known h = h
open_base w i z why (Release index) k t j u n q known h = h
open_base w i z why (Allocate at) k t j u n q known h = h
open_base w i z why (Write slot row place) k t j u n q known h = h
open_base w i z why (GiveUp slot) k t j u n q known h = h
open_base w i z why (Retire at) k t j u n q known h = h
open_base w i z why (Move at) k t j u n q known h = open_move w i z why at k t j u q h

open_phase : (w : World) (i : ℕ) (z : View) (phase : Phase) (k t j u : ℕ) → OriginsNeeds w i z → (w.seat i).phase ≡ phase → knows_of z k t j u ≡ true → opened_by t j u (phase_deals w.mem i (w.seat i).post phase z.deal k) ≡ true → opened_by t j u (z.deal k) ≡ true
open_phase w i z Idle k t j u n q known h = h
open_phase w i z (Runs why base) k t j u n q known h = open_base w i z why base k t j u n q known h
open_phase w i z (Scans later at) k t j u n q known h = h
open_phase w i z (Works work) k t j u n q known h = h

-- what is open after the step was open before
pub open_back : (w : World) (i : ℕ) (z : View) (k t j u : ℕ) → OriginsNeeds w i z → knows_of z k t j u ≡ true → opened_by t j u (next_deals w i z.deal k) ≡ true → opened_by t j u (z.deal k) ≡ true
open_back w i z k t j u n known h = open_phase w i z (w.seat i).phase k t j u n refl known h

-- what the seat's turn leaves, by its phase
abbrev pub turn_of : World → ℕ → Phase → CallTurn
turn_of w i phase = phase_turn phase (counted (w.seat i).post) (offered w i).desk (finds w i)

pub stepped_by : (w : World) (i : ℕ) (phase : Phase) → (w.seat i).phase ≡ phase → ((step w i).seat i).phase ≡ phase_left (turn_of w i phase).outcome
stepped_by w i phase q = stepped_phase w i ∙ ap (λ (p : Phase). phase_left (turn_of w i p).outcome) q

-- the machine goes on for the same root
abbrev pub OutSame : Outcome → Root → Type 0
OutSame (Goes base) root = root_base base ≡ root
OutSame (Ends ending) root = ⊥

same_if : (root : Root) (one two : Turn) (c : Bool) → OutSame one.outcome root → OutSame two.outcome root → OutSame (if c then one else two).outcome root
same_if root one two true a b = a
same_if root one two false a b = b

-- a protection whose request is published, answered or taken
pub quiet_busy : (d : Deal) → is_quiet d ≡ true → is_quiet d ≡ false → ⊥
quiet_busy d a b = cc

busy_protect : (w : World) (i : ℕ) (z : View) (why : Why) (aim : Aim) (index : ℕ) (root : Root) (steps n : ℕ) (at : ProtectAt) (post : Post) (found : ℕ) → OriginsNeeds w i z → (w.seat i).phase ≡ Runs why (Protect aim index root steps at)
    → is_quiet (protect_deals w.mem i (w.seat i).post index root at z.deal i) ≡ false → OutSame (protect_turn aim index root n at post found).outcome root
busy_protect w i z why aim index root steps n (LoadClock tries) post found needs q h = absurd (quiet_busy (z.deal i) (fit_of w z i (Runs why (Protect aim index root steps (LoadClock tries))) needs.requests q) h)
busy_protect w i z why aim index root steps n (PublishEra era tries) post found needs q h = absurd (quiet_busy (z.deal i) (fit_of w z i (Runs why (Protect aim index root steps (PublishEra era tries))) needs.requests q) h)
busy_protect w i z why aim index root steps n (LoadLink era tries) post found needs q h = absurd (quiet_busy (z.deal i) (fit_of w z i (Runs why (Protect aim index root steps (LoadLink era tries))) needs.requests q) h)
busy_protect w i z why aim index root steps n (CheckClock era tries link) post found needs q h = absurd (quiet_busy (z.deal i) (fit_of w z i (Runs why (Protect aim index root steps (CheckClock era tries link))) needs.requests q) h)
busy_protect w i z why aim index root steps n PublishRequest post found needs q h = refl
busy_protect w i z why aim index root steps n LoadOwnClock post found needs q h = refl
busy_protect w i z why aim index root steps n (PublishHelper first era last) post found needs q h = refl
busy_protect w i z why aim index root steps n (LoadOwnLink first era last) post found needs q h = refl
busy_protect w i z why aim index root steps n (CheckOwnClock first era last link) post found needs q h = same_if root _ _ (found == era) refl refl
busy_protect w i z why aim index root steps n (AnswerOwn first era link) post found needs q h = same_if root _ _ (found == own_request post index root) refl refl
busy_protect w i z why aim index root steps n (LoadAnswer first) post found needs q h = refl
busy_protect w i z why aim index root steps n (TakeAnswer link era) post found needs q h = refl
busy_protect w i z why aim index root steps n (WithdrawRequest link era) post found needs q h = refl
busy_protect w i z why aim index root steps n (WithdrawHelper link era) post found needs q h = absurd (quiet_busy (z.deal i) (fit_of w z i (Runs why (Protect aim index root steps (WithdrawHelper link era))) needs.requests q) h)
busy_protect w i z why aim index root steps n LoadWithin post found needs q h = absurd (quiet_busy (z.deal i) (fit_of w z i (Runs why (Protect aim index root steps LoadWithin)) needs.requests q) h)
busy_protect w i z why aim index root steps n (CheckUpper link) post found needs q h = absurd (quiet_busy (z.deal i) (fit_of w z i (Runs why (Protect aim index root steps (CheckUpper link))) needs.requests q) h)
busy_protect w i z why aim index root steps n (RaiseUpper era) post found needs q h = absurd (quiet_busy (z.deal i) (fit_of w z i (Runs why (Protect aim index root steps (RaiseUpper era))) needs.requests q) h)
busy_protect w i z why aim index root steps n (ByHazard at) post found needs q h = absurd (quiet_busy (z.deal i) (fit_of w z i (Runs why (Protect aim index root steps (ByHazard at))) needs.requests q) h)

-- a mover has no request of its own, and makes none
own_quiet : (z : View) (s i : ℕ) (D : Deal) (c same : Bool) → (i == s) ≡ same → is_quiet (z.deal i) ≡ true → (c ≡ true → is_quiet (z.deal s) ≡ false) → is_quiet ((if c then upd z.deal s D else z.deal) i) ≡ true
own_quiet z s i D false same e f g = f
own_quiet z s i D true false e f g = rw e f
own_quiet z s i D true true e f g = let p : i ≡ s = grind (arith, nat_tests) in let x : is_quiet (z.deal s) ≡ true = subst (λ (n : ℕ). is_quiet (z.deal n) ≡ true) p f in absurd (quiet_busy (z.deal s) x (g refl))

quiet_move : (w : World) (i : ℕ) (z : View) (why : Why) (at : MoveAt) → OriginsNeeds w i z → (w.seat i).phase ≡ Runs why (Move at) → is_quiet (z.deal i) ≡ true → is_quiet (move_deals w.mem i (w.seat i).post at z.deal i) ≡ true
quiet_move w i z why (LoadEra helps) n q f = f
quiet_move w i z why (LoadRequest e s shown) n q f = f
quiet_move w i z why (ShowEra e s t j r) n q f = f
quiet_move w i z why (LoadAsked e s t j r) n q f = f
quiet_move w i z why (CheckEra e s t j r link) n q f = f
quiet_move w i z why (AnswerAsked e s t j r link) n q f =
    let a = at_of w i z n.valid n.below n.seats n.needs n.requests in
    own_quiet z s i (Answered t j (link_number (w.seat i).post.layout r) link e i) (w.mem (Request s) == asking (w.seat i).post.layout t j r) (i == s) refl f (λ c. ap is_quiet (answered_is w.mem w.seat i z why e s t j r link a q c))
quiet_move w i z why (LoadReserved e s t j r link) n q f = f
quiet_move w i z why (HandOver e s t j r link old) n q f =
    let a = at_of w i z n.valid n.below n.seats n.needs n.requests in
    own_quiet z s i (Passed t j (link_number (w.seat i).post.layout r) link e) (w.mem (Index s j) == halves old t) (i == s) refl f (λ c. ap is_quiet (passed_is w.mem w.seat i z why e s t j r link old a q (hands_plain w i why e s t j r link old n.seats q) c))
quiet_move w i z why (HideEra e) n q f = f
quiet_move w i z why (HideLate seen) n q f = f
quiet_move w i z why (ExchangeClock e) n q f = f

pub move_fit : (w : World) (i : ℕ) (z : View) (why : Why) (at : MoveAt) → OriginsNeeds w i z → (w.seat i).phase ≡ Runs why (Move at) → is_quiet (z.deal i) ≡ true
move_fit w i z why (LoadEra helps) n q = fit_of w z i (Runs why (Move (LoadEra helps))) n.requests q
move_fit w i z why (LoadRequest e s shown) n q = fit_of w z i (Runs why (Move (LoadRequest e s shown))) n.requests q
move_fit w i z why (ShowEra e s t j r) n q = fit_of w z i (Runs why (Move (ShowEra e s t j r))) n.requests q
move_fit w i z why (LoadAsked e s t j r) n q = fit_of w z i (Runs why (Move (LoadAsked e s t j r))) n.requests q
move_fit w i z why (CheckEra e s t j r link) n q = fit_of w z i (Runs why (Move (CheckEra e s t j r link))) n.requests q
move_fit w i z why (AnswerAsked e s t j r link) n q = fit_of w z i (Runs why (Move (AnswerAsked e s t j r link))) n.requests q
move_fit w i z why (LoadReserved e s t j r link) n q = fit_of w z i (Runs why (Move (LoadReserved e s t j r link))) n.requests q
move_fit w i z why (HandOver e s t j r link old) n q = fit_of w z i (Runs why (Move (HandOver e s t j r link old))) n.requests q
move_fit w i z why (HideEra e) n q = fit_of w z i (Runs why (Move (HideEra e))) n.requests q
move_fit w i z why (HideLate seen) n q = fit_of w z i (Runs why (Move (HideLate seen))) n.requests q
move_fit w i z why (ExchangeClock e) n q = fit_of w z i (Runs why (Move (ExchangeClock e))) n.requests q

left_root : (why : Why) (desk : Desk) (post : Post) (told : List Event) (outcome : Outcome) (root : Root) → OutSame outcome root → root_for (phase_left (resumed why desk post told outcome).outcome) ≡ root
left_root why desk post told (Goes base) root s = s
left_root why desk post told (Ends ending) root s = absurd s

busy_base : (w : World) (i : ℕ) (z : View) (why : Why) (base : Base) → OriginsNeeds w i z → (w.seat i).phase ≡ Runs why base → is_quiet (base_deals w.mem i (w.seat i).post base z.deal i) ≡ false → OutSame (after base (counted (w.seat i).post) (finds w i)).outcome (root_base base)
busy_base w i z why (Begin at) n q h = absurd (quiet_busy (z.deal i) (fit_of w z i (Runs why (Begin at)) n.requests q) h)
busy_base w i z why (Protect aim index root steps at) n q h = busy_protect w i z why aim index root steps (bump steps) at (counted (w.seat i).post) (finds w i) n q h
busy_base w i z why (Reload parent index slot era steps) n q h = absurd (quiet_busy (z.deal i) (fit_of w z i (Runs why (Reload parent index slot era steps)) n.requests q) h)
busy_base w i z why (Clear rows index) n q h = absurd (quiet_busy (z.deal i) (fit_of w z i (Runs why (Clear rows index)) n.requests q) h)
busy_base w i z why Finish n q h = absurd (quiet_busy (z.deal i) (fit_of w z i (Runs why Finish) n.requests q) h)
busy_base w i z why (Release index) n q h = absurd (quiet_busy (z.deal i) (fit_of w z i (Runs why (Release index)) n.requests q) h)
busy_base w i z why (Allocate at) n q h = absurd (quiet_busy (z.deal i) (fit_of w z i (Runs why (Allocate at)) n.requests q) h)
busy_base w i z why (Write slot row place) n q h = absurd (quiet_busy (z.deal i) (fit_of w z i (Runs why (Write slot row place)) n.requests q) h)
busy_base w i z why (GiveUp slot) n q h = absurd (quiet_busy (z.deal i) (fit_of w z i (Runs why (GiveUp slot)) n.requests q) h)
busy_base w i z why (Retire at) n q h = absurd (quiet_busy (z.deal i) (fit_of w z i (Runs why (Retire at)) n.requests q) h)
busy_base w i z why (Move at) n q h = absurd (quiet_busy (move_deals w.mem i (w.seat i).post at z.deal i) (quiet_move w i z why at n q (move_fit w i z why at n q)) h)

-- nor has a call's own step a request
pub work_quiet : (layout : Layout) (work : Work) (d : Deal) → fits (work_role layout work) d ≡ true → is_quiet d ≡ true
work_quiet layout work d f = each_work_role layout work (λ (r : Role). fits r d ≡ true → is_quiet d ≡ true) (λ g. g) (λ from era g. g) f

busy_phase : (w : World) (i : ℕ) (z : View) (phase : Phase) → OriginsNeeds w i z → (w.seat i).phase ≡ phase → is_quiet (phase_deals w.mem i (w.seat i).post phase z.deal i) ≡ false → root_in (step w i) i ≡ root_for phase
busy_phase w i z Idle n q h = absurd (quiet_busy (z.deal i) (fit_of w z i Idle n.requests q) h)
busy_phase w i z (Runs why base) n q h =
    let t : Turn = after base (counted (w.seat i).post) (finds w i) in
    ap root_for (stepped_by w i (Runs why base) q) ∙ left_root why (offered w i).desk t.post t.told t.outcome (root_base base) (busy_base w i z why base n q h)
busy_phase w i z (Scans later at) n q h = absurd (quiet_busy (z.deal i) (fit_of w z i (Scans later at) n.requests q) h)
busy_phase w i z (Works work) n q h = absurd (quiet_busy (z.deal i) (work_quiet w.layout work (z.deal i) (fit_of w z i (Works work) n.requests q)) h)

-- a seat that has a request after its step protects the same root
pub busy_root : (w : World) (i : ℕ) (z : View) → OriginsNeeds w i z → is_quiet (next_deals w i z.deal i) ≡ false → root_in (step w i) i ≡ root_in w i
busy_root w i z n h = busy_phase w i z (w.seat i).phase n refl h
