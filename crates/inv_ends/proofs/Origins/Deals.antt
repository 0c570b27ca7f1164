-- The answer that a request has after a step it had before, or its owner or a mover carries it and gives it in this step.
use Rattle.std.proofs.Common.{ℕ, ◌≡◌, ◌⊎◌, inl, inr, Bool, true, false, arith, refl, sym, ap, subst, ◌∙◌}
use Rattle.std.proofs.lemmas.Bool.Decides.{nat_tests}
use Rattle.std.specs.Prelude.{◌==◌, ◌&&◌, ◌||◌, nat_lt, if◌then◌else◌}
use Rattle.inv_rows.specs.words.Place.{Place}
use Rattle.inv_rows.specs.words.Place.Place.{Clock, Index, Request}
use Rattle.inv_rows.specs.words.Packed.{halves}
use Rattle.inv_rows.specs.words.declared.layout.Layout.{Layout}
use Rattle.inv_rows.proofs.words.Parts.{halves_one}
use Rattle.inv_rows.specs.defs.declared.event.Root.{Root}
use Rattle.inv_rows.specs.model.Links.{link_number}
use Rattle.inv_rows.specs.model.Locals.{Local}
use Rattle.inv_rows.specs.model.Memory.{upd}
use Rattle.inv_rows.specs.model.Posts.{upper, tag_of}
use Rattle.inv_rows.specs.model.SlowPath.{asking, own_request}
use Rattle.inv_rows.specs.model.Phases.{Aim, ProtectAt, MoveAt, Base}
use Rattle.inv_rows.specs.model.Phases.ProtectAt.{LoadClock, PublishEra, LoadLink, CheckClock, PublishRequest, LoadOwnClock, PublishHelper, LoadOwnLink, CheckOwnClock, AnswerOwn, LoadAnswer, TakeAnswer, WithdrawRequest, WithdrawHelper, LoadWithin, CheckUpper, RaiseUpper, ByHazard}
use Rattle.inv_rows.specs.model.Phases.MoveAt.{LoadEra, LoadRequest, ShowEra, LoadAsked, CheckEra, AnswerAsked, LoadReserved, HandOver, HideEra, HideLate, ExchangeClock}
use Rattle.inv_rows.specs.model.Phases.Base.{Begin, Protect, Reload, Clear, Finish, Release, Allocate, Write, GiveUp, Retire, Move}
use Rattle.inv_rows.specs.model.Calls.{Why, Phase, Idle, Runs, Scans, Works}
use Rattle.inv_rows.specs.model.World.{World}
use Rattle.inv_rows.specs.Covering.Requests.Context.{At}
use Rattle.inv_rows.specs.Covering.Requests.Deals.{gave_by}
use Rattle.inv_rows.specs.Covering.Requests.NextDeals.{protect_deals, move_deals, base_deals, phase_deals, next_deals}
use Rattle.inv_rows.specs.Covering.Requests.Views.{View, Deal}
use Rattle.inv_rows.specs.Covering.Requests.Views.Deal.{Quiet, Open, Answered, Passed, Taken}
use Rattle.inv_rows.proofs.Covering.Requests.Going.{stands_in}
use Rattle.inv_rows.proofs.Covering.Requests.Kept.{at_of}
use Rattle.inv_ends.specs.Tracked.{carries_in, carries_at, has_link, helps_at, helps_in, Tracked, Carried, Given, Helped}
use Rattle.inv_ends.specs.Origins.{OriginsNeeds}
use Rattle.inv_rows.proofs.Covering.Requests.Handing.{mark_few, open_exact, asked_bits, gave_is}
use Rattle.inv_rows.proofs.model.Facts.{number_is}
use Rattle.inv_rows.specs.words.Schemes.{publishes_rows}
use Rattle.inv_rows.specs.Shapes.Seats.{Seats, PhaseFits}
use Rattle.inv_rows.proofs.Shapes.Tries.{helps_plain}

-- a mover answers a request that is open
pub answered_is : (mem : Place → ℕ) (seat : ℕ → Local) (i : ℕ) (v : View) (why : Why) (e k t j : ℕ) (root : Root) (link : ℕ) → At mem seat i v → (seat i).phase ≡ Runs why (Move (AnswerAsked e k t j root link))
    → (mem (Request k) == asking (seat i).post.layout t j root) ≡ true → v.deal k ≡ Open t j (link_number (seat i).post.layout root)
answered_is mem seat i v why e k t j root link a q h =
    let r = stands_in mem seat i v (Runs why (Move (AnswerAsked e k t j root link))) a q in
    let b = asked_bits mem seat i v e k t j (link_number (seat i).post.layout root) a (rw r at (a.facts.parts.whom i)) (rw r at (a.facts.parts.spare i)) (rw r at (a.facts.parts.eras i)) in
    open_exact mem seat i v k t j (link_number (seat i).post.layout root) (v.deal k) a b refl (sym (a.facts.words.requests k) ∙ number_is (mem (Request k)) (asking (seat i).post.layout t j root) h)

-- a mover that hands over helps, and where seats help no rows are published
pub hands_plain : (w : World) (i : ℕ) (why : Why) (e k t j : ℕ) (root : Root) (link old : ℕ) → Seats w → (w.seat i).phase ≡ Runs why (Move (HandOver e k t j root link old)) → publishes_rows (w.seat i).post.layout.config.scheme ≡ false
hands_plain w i why e k t j root link old s q =
    let r : PhaseFits w.layout (w.seat i).post (Runs why (Move (HandOver e k t j root link old))) = subst (λ (p : Phase). PhaseFits w.layout (w.seat i).post p) q (s.fits i).phase in
    subst (λ (l : Layout). publishes_rows l.config.scheme ≡ false) (sym (s.fits i).post.layout) (helps_plain w.layout.config.scheme (nat_lt k w.layout.config.seats) r.fits)

-- and hands over the answer that it gave
pub passed_is : (mem : Place → ℕ) (seat : ℕ → Local) (i : ℕ) (v : View) (why : Why) (e k t j : ℕ) (root : Root) (link old : ℕ) → At mem seat i v → (seat i).phase ≡ Runs why (Move (HandOver e k t j root link old))
    → publishes_rows (seat i).post.layout.config.scheme ≡ false → (mem (Index k j) == halves old t) ≡ true → v.deal k ≡ Answered t j (link_number (seat i).post.layout root) link e i
passed_is mem seat i v why e k t j root link old a q p h =
    let r = stands_in mem seat i v (Runs why (Move (HandOver e k t j root link old))) a q in
    let b = asked_bits mem seat i v e k t j (link_number (seat i).post.layout root) a (rw r at (a.facts.parts.whom i)) (rw r at (a.facts.parts.spare i)) (rw r at (a.facts.parts.eras i)) in
    let x : halves (v.era k j) (v.mark k j) ≡ halves old t = sym (a.facts.words.indexes p k j) ∙ number_is (mem (Index k j)) (halves old t) h in
    let y = halves_one (v.era k j) (v.mark k j) old t (mark_few mem seat i v k j a) b.tag_in x in
    let z = y.1 in
    let f : (nat_lt t (v.tag k j) || (gave_by t j (link_number (seat i).post.layout root) link e i (v.deal k) && v.era k j == old)) ≡ true = rw r at (a.facts.parts.known i) in
    gave_is t j (link_number (seat i).post.layout root) link e i (v.deal k) (grind (arith, nat_tests, a.facts.parts.marks k j))

-- one deal is another
pub other_deal : (P : Deal → Type 0) (deals : ℕ → Deal) (i : ℕ) (d : Deal) (k : ℕ) (same : Bool) → (k == i) ≡ same → P (if same then d else deals k) → ((k ≡ i) × P d) ⊎ (P (deals k))
other_deal P deals i d k true e h = inl ((grind (arith, nat_tests)), h)
other_deal P deals i d k false e h = inr h

-- the seat's own protection carries the link of the deal that it makes
carried_by : (w : World) (i : ℕ) (z : View) (why : Why) (aim : Aim) (index : ℕ) (root : Root) (steps : ℕ) (at : ProtectAt) (x : ℕ) → (w.seat i).phase ≡ Runs why (Protect aim index root steps at) → carries_at (w.mem Clock) (upper (w.seat i).post.span) at x ≡ true → Tracked w z i x
carried_by w i z why aim index root steps at x q c = Carried (subst (λ (f : Phase). carries_in (w.mem Clock) (upper (w.seat i).post.span) f x ≡ true) (sym q) c)

own_deal : (w : World) (i : ℕ) (z : View) (k x : ℕ) (D : Deal) → (has_link D x ≡ true → Tracked w z i x) → ((k ≡ i) × (has_link D x ≡ true)) ⊎ (has_link (z.deal k) x ≡ true) → Tracked w z k x
own_deal w i z k x D g (inl p) = subst (λ (n : ℕ). Tracked w z n x) (sym p.0) (g p.1)
own_deal w i z k x D g (inr h) = Given h

own_given : (w : World) (i : ℕ) (z : View) (k x : ℕ) (D : Deal) → (has_link D x ≡ true → Tracked w z i x) → has_link (upd z.deal i D k) x ≡ true → Tracked w z k x
own_given w i z k x D g h = own_deal w i z k x D g (other_deal (λ (d : Deal). has_link d x ≡ true) z.deal i D k (k == i) refl h)

own_given_if : (w : World) (i : ℕ) (z : View) (k x : ℕ) (D : Deal) (c : Bool) → (has_link D x ≡ true → Tracked w z i x) → has_link ((if c then upd z.deal i D else z.deal) k) x ≡ true → Tracked w z k x
own_given_if w i z k x D true g h = own_given w i z k x D g h
own_given_if w i z k x D false g h = Given h

no_link : (w : World) (z : View) (i x : ℕ) → false ≡ true → Tracked w z i x
no_link w z i x h = absurd (cc)

given_protect : (w : World) (i : ℕ) (z : View) (why : Why) (aim : Aim) (index : ℕ) (root : Root) (steps : ℕ) (at : ProtectAt) (k x : ℕ) → (w.seat i).phase ≡ Runs why (Protect aim index root steps at)
    → has_link (protect_deals w.mem i (w.seat i).post index root at z.deal k) x ≡ true → Tracked w z k x
given_protect w i z why aim index root steps (LoadClock tries) k x q h = Given h
given_protect w i z why aim index root steps (PublishEra era tries) k x q h = Given h
given_protect w i z why aim index root steps (LoadLink era tries) k x q h = Given h
given_protect w i z why aim index root steps (CheckClock era tries link) k x q h = Given h
given_protect w i z why aim index root steps PublishRequest k x q h = own_given w i z k x (Open (tag_of (w.seat i).post index) index (link_number (w.seat i).post.layout root)) (λ c. no_link w z i x c) h
given_protect w i z why aim index root steps LoadOwnClock k x q h = Given h
given_protect w i z why aim index root steps (PublishHelper first era last) k x q h = Given h
given_protect w i z why aim index root steps (LoadOwnLink first era last) k x q h = Given h
given_protect w i z why aim index root steps (CheckOwnClock first era last link) k x q h = Given h
given_protect w i z why aim index root steps (AnswerOwn first era link) k x q h =
    own_given_if w i z k x (Answered (tag_of (w.seat i).post index) index (link_number (w.seat i).post.layout root) link era i) (w.mem (Request (w.seat i).post.seat) == own_request (w.seat i).post index root) (λ c. carried_by w i z why aim index root steps (AnswerOwn first era link) x q c) h
given_protect w i z why aim index root steps (LoadAnswer first) k x q h = Given h
given_protect w i z why aim index root steps (TakeAnswer link era) k x q h =
    own_given w i z k x (Taken (tag_of (w.seat i).post index) index (link_number (w.seat i).post.layout root) link era) (λ c. carried_by w i z why aim index root steps (TakeAnswer link era) x q c) h
given_protect w i z why aim index root steps (WithdrawRequest link era) k x q h = own_given w i z k x Quiet (λ c. no_link w z i x c) h
given_protect w i z why aim index root steps (WithdrawHelper link era) k x q h = Given h
given_protect w i z why aim index root steps LoadWithin k x q h = Given h
given_protect w i z why aim index root steps (CheckUpper link) k x q h = Given h
given_protect w i z why aim index root steps (RaiseUpper era) k x q h = Given h
given_protect w i z why aim index root steps (ByHazard at) k x q h = Given h

-- a mover has loaded the link of the answer that it gives, for the request that is open
helps_open : (layout : Layout) (clock k e t j : ℕ) (root : Root) (link : ℕ) (d : Deal) (x : ℕ) → d ≡ Open t j (link_number layout root) → (link == x) ≡ true → helps_at layout clock k (AnswerAsked e k t j root link) d x ≡ true
helps_open layout clock k e t j root link d x o h = rw o (grind (arith, nat_tests))

helped_by : (w : World) (i : ℕ) (z : View) (why : Why) (e k t j : ℕ) (root : Root) (link x : ℕ) → OriginsNeeds w i z → (w.seat i).phase ≡ Runs why (Move (AnswerAsked e k t j root link)) → (w.mem (Request k) == asking (w.seat i).post.layout t j root) ≡ true → (link == x) ≡ true → Tracked w z k x
helped_by w i z why e k t j root link x n q h c =
    let a = at_of w i z n.valid n.below n.seats n.needs n.requests in
    let o = answered_is w.mem w.seat i z why e k t j root link a q h in
    let p : z.deal k ≡ Open t j (link_number w.layout root) = o ∙ ap (λ (l : Layout). Open t j (link_number l root)) (n.seats.fits i).post.layout in
    Helped i (subst (λ (f : Phase). helps_in w.layout (w.mem Clock) k f (z.deal k) x ≡ true) (sym q) (helps_open w.layout (w.mem Clock) k e t j root link (z.deal k) x p c))

-- and hands over the answer that the request has
passed_by : (w : World) (i : ℕ) (z : View) (why : Why) (e k t j : ℕ) (root : Root) (link old x : ℕ) → OriginsNeeds w i z → (w.seat i).phase ≡ Runs why (Move (HandOver e k t j root link old)) → (w.mem (Index k j) == halves old t) ≡ true → (link == x) ≡ true → Tracked w z k x
passed_by w i z why e k t j root link old x n q h c =
    let a = at_of w i z n.valid n.below n.seats n.needs n.requests in
    let o = passed_is w.mem w.seat i z why e k t j root link old a q (hands_plain w i why e k t j root link old n.seats q) h in
    Given (rw o c)

mover_given : (w : World) (i s : ℕ) (z : View) (k x : ℕ) (D : Deal) (c : Bool) → (c ≡ true → has_link D x ≡ true → Tracked w z s x) → has_link ((if c then upd z.deal s D else z.deal) k) x ≡ true → Tracked w z k x
mover_given w i s z k x D true g h = own_given w s z k x D (g refl) h
mover_given w i s z k x D false g h = Given h

given_move : (w : World) (i : ℕ) (z : View) (why : Why) (at : MoveAt) (k x : ℕ) → OriginsNeeds w i z → (w.seat i).phase ≡ Runs why (Move at) → has_link (move_deals w.mem i (w.seat i).post at z.deal k) x ≡ true → Tracked w z k x
given_move w i z why (LoadEra helps) k x n q h = Given h
given_move w i z why (LoadRequest e s shown) k x n q h = Given h
given_move w i z why (ShowEra e s t j r) k x n q h = Given h
given_move w i z why (LoadAsked e s t j r) k x n q h = Given h
given_move w i z why (CheckEra e s t j r link) k x n q h = Given h
given_move w i z why (AnswerAsked e s t j r link) k x n q h =
    mover_given w i s z k x (Answered t j (link_number (w.seat i).post.layout r) link e i) (w.mem (Request s) == asking (w.seat i).post.layout t j r) (λ c p. helped_by w i z why e s t j r link x n q c p) h
given_move w i z why (LoadReserved e s t j r link) k x n q h = Given h
given_move w i z why (HandOver e s t j r link old) k x n q h =
    mover_given w i s z k x (Passed t j (link_number (w.seat i).post.layout r) link e) (w.mem (Index s j) == halves old t) (λ c p. passed_by w i z why e s t j r link old x n q c p) h
given_move w i z why (HideEra e) k x n q h = Given h
given_move w i z why (HideLate seen) k x n q h = Given h
given_move w i z why (ExchangeClock e) k x n q h = Given h

given_base : (w : World) (i : ℕ) (z : View) (why : Why) (base : Base) (k x : ℕ) → OriginsNeeds w i z → (w.seat i).phase ≡ Runs why base → has_link (base_deals w.mem i (w.seat i).post base z.deal k) x ≡ true → Tracked w z k x
given_base w i z why (Begin at) k x n q h = Given h
given_base w i z why (Protect aim index root steps at) k x n q h = given_protect w i z why aim index root steps at k x q h
given_base w i z why (Reload parent index slot era steps) k x n q h = Given h
given_base w i z why (Clear rows index) k x n q h = Given h
given_base w i z why Finish k x n q h = Given h
given_base w i z why (Release index) k x n q h = Given h
given_base w i z why (Allocate at) k x n q h = Given h
given_base w i z why (Write slot row place) k x n q h = Given h
given_base w i z why (GiveUp slot) k x n q h = Given h
given_base w i z why (Retire at) k x n q h = Given h
given_base w i z why (Move at) k x n q h = given_move w i z why at k x n q h

given_phase : (w : World) (i : ℕ) (z : View) (phase : Phase) (k x : ℕ) → OriginsNeeds w i z → (w.seat i).phase ≡ phase → has_link (phase_deals w.mem i (w.seat i).post phase z.deal k) x ≡ true → Tracked w z k x
given_phase w i z Idle k x n q h = Given h
given_phase w i z (Runs why base) k x n q h = given_base w i z why base k x n q h
given_phase w i z (Scans later at) k x n q h = Given h
given_phase w i z (Works work) k x n q h = Given h

-- the link of an answer after the step was tracked before it
pub given_came : (w : World) (i : ℕ) (z : View) (k x : ℕ) → OriginsNeeds w i z → has_link (next_deals w i z.deal k) x ≡ true → Tracked w z k x
given_came w i z k x n h = given_phase w i z (w.seat i).phase k x n refl h
