-- What a seat that does not step carries, or has loaded for a request, it had before the step: the clock only rises.
use Rattle.std.proofs.Common.{ℕ, ◌≡◌, ◌≤◌, true, arith, refl, subst}
use Rattle.std.proofs.lemmas.Bool.Decides.{nat_tests}
use Rattle.std.specs.Prelude.{◌==◌, ◌&&◌}
use Rattle.inv_rows.specs.words.Place.Place.{Clock}
use Rattle.inv_rows.specs.words.declared.layout.Layout.{Layout}
use Rattle.inv_rows.specs.defs.declared.event.Root.{Root}
use Rattle.inv_rows.specs.model.declared.post.Post.{Post}
use Rattle.inv_rows.specs.model.Links.{link_number}
use Rattle.inv_rows.specs.model.Posts.{upper}
use Rattle.inv_rows.specs.model.Phases.{ProtectAt, MoveAt, Base}
use Rattle.inv_rows.specs.model.Phases.ProtectAt.{LoadClock, PublishEra, LoadLink, CheckClock, PublishRequest, LoadOwnClock, PublishHelper, LoadOwnLink, CheckOwnClock, AnswerOwn, LoadAnswer, TakeAnswer, WithdrawRequest, WithdrawHelper, LoadWithin, CheckUpper, RaiseUpper, ByHazard}
use Rattle.inv_rows.specs.model.Phases.MoveAt.{LoadEra, LoadRequest, ShowEra, LoadAsked, CheckEra, AnswerAsked, LoadReserved, HandOver, HideEra, HideLate, ExchangeClock}
use Rattle.inv_rows.specs.model.Phases.Base.{Begin, Protect, Reload, Clear, Finish, Release, Allocate, Write, GiveUp, Retire, Move}
use Rattle.inv_rows.specs.model.Calls.{Why, Phase, Idle, Runs, Scans, Works}
use Rattle.inv_rows.specs.model.World.{World, step}
use Rattle.inv_rows.proofs.Shapes.Decode.{clock_next}
use Rattle.inv_rows.specs.Shapes.Eras.{protect_eras, base_eras, PhaseEras}
use Rattle.inv_rows.specs.Covering.Requests.NextDeals.{next_deals}
use Rattle.inv_rows.specs.Covering.Requests.Roles.{knows}
use Rattle.inv_rows.specs.Covering.Requests.Views.{View, Deal, Role}
use Rattle.inv_ends.specs.Tracked.{carries_at, carries_base, carries_in, opened_by, helps_at, helps_base, helps_in}
use Rattle.inv_ends.specs.Origins.{OriginsNeeds}
use Rattle.inv_ends.proofs.Origins.Opened.{knows_of, open_back}
use Rattle.inv_rows.proofs.Covering.Requests.Known.{stands_as}
use Rattle.inv_rows.proofs.Shapes.Steps.{upper_in}

pub rises : (w : World) (i : ℕ) (z : View) → OriginsNeeds w i z → w.mem Clock ≤ (step w i).mem Clock
rises w i z n = (clock_next w i n.eras).rises

at_back : (clock later upto : ℕ) (post : Post) (at : ProtectAt) (x : ℕ) → clock ≤ later → upto ≤ clock → protect_eras clock post at → carries_at later upto at x ≡ true → carries_at clock upto at x ≡ true
at_back clock later upto post (LoadClock tries) x r u e h = h
at_back clock later upto post (PublishEra era tries) x r u e h = h
at_back clock later upto post (LoadLink era tries) x r u e h = h
at_back clock later upto post (CheckClock era tries link) x r u e h = grind (arith, nat_tests, e.most)
at_back clock later upto post PublishRequest x r u e h = h
at_back clock later upto post LoadOwnClock x r u e h = h
at_back clock later upto post (PublishHelper first era last) x r u e h = h
at_back clock later upto post (LoadOwnLink first era last) x r u e h = h
at_back clock later upto post (CheckOwnClock first era last link) x r u e h = grind (arith, nat_tests, e.most)
at_back clock later upto post (AnswerOwn first era link) x r u e h = h
at_back clock later upto post (LoadAnswer first) x r u e h = h
at_back clock later upto post (TakeAnswer link era) x r u e h = h
at_back clock later upto post (WithdrawRequest link era) x r u e h = h
at_back clock later upto post (WithdrawHelper link era) x r u e h = h
at_back clock later upto post LoadWithin x r u e h = h
at_back clock later upto post (CheckUpper link) x r u e h = grind (arith, nat_tests)
at_back clock later upto post (RaiseUpper era) x r u e h = h
at_back clock later upto post (ByHazard at) x r u e h = h

base_back : (layout : Layout) (clock later upto : ℕ) (post : Post) (base : Base) (x : ℕ) → clock ≤ later → upto ≤ clock → base_eras layout clock post base → carries_base later upto base x ≡ true → carries_base clock upto base x ≡ true
base_back layout clock later upto post (Begin at) x r u e h = h
base_back layout clock later upto post (Protect aim index root steps at) x r u e h = at_back clock later upto post at x r u e h
base_back layout clock later upto post base x r u e h = h

phase_back : (layout : Layout) (clock later upto : ℕ) (post : Post) (phase : Phase) (x : ℕ) → clock ≤ later → upto ≤ clock → PhaseEras layout clock post phase → carries_in later upto phase x ≡ true → carries_in clock upto phase x ≡ true
phase_back layout clock later upto post Idle x r u e h = h
phase_back layout clock later upto post (Runs why base) x r u e h = base_back layout clock later upto post base x r u e h
phase_back layout clock later upto post (Scans later' at) x r u e h = h
phase_back layout clock later upto post (Works work) x r u e h = h

-- what it carries
pub carries_back : (w : World) (i k : ℕ) (z : View) (x : ℕ) → OriginsNeeds w i z → carries_in ((step w i).mem Clock) (upper (w.seat k).post.span) (w.seat k).phase x ≡ true → carries_in (w.mem Clock) (upper (w.seat k).post.span) (w.seat k).phase x ≡ true
carries_back w i k z x n h =
    let s = n.eras.seats k in
    phase_back w.layout (w.mem Clock) ((step w i).mem Clock) (upper (w.seat k).post.span) (w.seat k).post (w.seat k).phase x (rises w i z n) (upper_in (w.mem Clock) (w.seat k).post.span s.post.span) s.phase h

-- the parts of what a mover has
pub checks_parts : (later k e s t j u link x : ℕ) (d : Deal) → (s == k && (link == x && (later == e && opened_by t j u d))) ≡ true → (s ≡ k) × ((link == x) ≡ true) × (later ≡ e) × (opened_by t j u d ≡ true)
checks_parts later k e s t j u link x d h = (grind (arith, nat_tests), grind (arith, nat_tests), grind (arith, nat_tests), grind (arith, nat_tests))

pub helps_parts : (k s t j u link x : ℕ) (d : Deal) → (s == k && (link == x && opened_by t j u d)) ≡ true → (s ≡ k) × ((link == x) ≡ true) × (opened_by t j u d ≡ true)
helps_parts k s t j u link x d h = (grind (arith, nat_tests), grind (arith, nat_tests), grind (arith, nat_tests))

pub checks_again : (clock k e s t j u link x : ℕ) (d : Deal) → s ≡ k → (link == x) ≡ true → clock ≡ e → opened_by t j u d ≡ true → (s == k && (link == x && (clock == e && opened_by t j u d))) ≡ true
checks_again clock k e s t j u link x d a b c o = grind (arith, nat_tests)

helps_again : (k s t j u link x : ℕ) (d : Deal) → s ≡ k → (link == x) ≡ true → opened_by t j u d ≡ true → (s == k && (link == x && opened_by t j u d)) ≡ true
helps_again k s t j u link x d a b o = grind (arith, nat_tests)

-- what a mover knows of the request that it has loaded
checks_know : (w : World) (m : ℕ) (z : View) (i : ℕ) (why : Why) (e s t j : ℕ) (r : Root) (link : ℕ) → OriginsNeeds w i z → (w.seat m).phase ≡ Runs why (Move (CheckEra e s t j r link)) → knows_of z s t j (link_number w.layout r) ≡ true
checks_know w m z i why e s t j r link n q = subst (λ (x : Role). knows x m z.tag z.era z.deal ≡ true) (stands_as w z m (Runs why (Move (CheckEra e s t j r link))) n.requests q) (n.requests.parts.known m)

helps_know : (w : World) (m : ℕ) (z : View) (i : ℕ) (why : Why) (e s t j : ℕ) (r : Root) (link : ℕ) → OriginsNeeds w i z → (w.seat m).phase ≡ Runs why (Move (AnswerAsked e s t j r link)) → knows_of z s t j (link_number w.layout r) ≡ true
helps_know w m z i why e s t j r link n q = subst (λ (x : Role). knows x m z.tag z.era z.deal ≡ true) (stands_as w z m (Runs why (Move (AnswerAsked e s t j r link))) n.requests q) (n.requests.parts.known m)

move_back : (w : World) (i m k : ℕ) (z : View) (why : Why) (at : MoveAt) (x : ℕ) → OriginsNeeds w i z → (w.seat m).phase ≡ Runs why (Move at) → helps_at w.layout ((step w i).mem Clock) k at (next_deals w i z.deal k) x ≡ true → helps_at w.layout (w.mem Clock) k at (z.deal k) x ≡ true
move_back w i m k z why (LoadEra helps) x n q h = h
move_back w i m k z why (LoadRequest e s shown) x n q h = h
move_back w i m k z why (ShowEra e s t j r) x n q h = h
move_back w i m k z why (LoadAsked e s t j r) x n q h = h
move_back w i m k z why (CheckEra e s t j r link) x n q h =
    let p = checks_parts ((step w i).mem Clock) k e s t j (link_number w.layout r) link x (next_deals w i z.deal k) h in
    let known : knows_of z k t j (link_number w.layout r) ≡ true = subst (λ (y : ℕ). knows_of z y t j (link_number w.layout r) ≡ true) p.0 (checks_know w m z i why e s t j r link n q) in
    let o = open_back w i z k t j (link_number w.layout r) n known p.3 in
    let f : PhaseEras w.layout (w.mem Clock) (w.seat m).post (Runs why (Move (CheckEra e s t j r link))) = subst (λ (y : Phase). PhaseEras w.layout (w.mem Clock) (w.seat m).post y) q (n.eras.seats m).phase in
    let c : w.mem Clock ≡ e = omega (arith, rises w i z n, p.2, f.mover.era_in.most) in
    checks_again (w.mem Clock) k e s t j (link_number w.layout r) link x (z.deal k) p.0 p.1 c o
move_back w i m k z why (AnswerAsked e s t j r link) x n q h =
    let p = helps_parts k s t j (link_number w.layout r) link x (next_deals w i z.deal k) h in
    let known : knows_of z k t j (link_number w.layout r) ≡ true = subst (λ (y : ℕ). knows_of z y t j (link_number w.layout r) ≡ true) p.0 (helps_know w m z i why e s t j r link n q) in
    let o = open_back w i z k t j (link_number w.layout r) n known p.2 in
    helps_again k s t j (link_number w.layout r) link x (z.deal k) p.0 p.1 o
move_back w i m k z why (LoadReserved e s t j r link) x n q h = h
move_back w i m k z why (HandOver e s t j r link old) x n q h = h
move_back w i m k z why (HideEra e) x n q h = h
move_back w i m k z why (HideLate seen) x n q h = h
move_back w i m k z why (ExchangeClock e) x n q h = h

helps_base_back : (w : World) (i m k : ℕ) (z : View) (why : Why) (base : Base) (x : ℕ) → OriginsNeeds w i z → (w.seat m).phase ≡ Runs why base → helps_base w.layout ((step w i).mem Clock) k base (next_deals w i z.deal k) x ≡ true → helps_base w.layout (w.mem Clock) k base (z.deal k) x ≡ true
helps_base_back w i m k z why (Begin at) x n q h = h
helps_base_back w i m k z why (Protect aim index root steps at) x n q h = h
helps_base_back w i m k z why (Reload parent index slot era steps) x n q h = h
helps_base_back w i m k z why (Clear rows index) x n q h = h
helps_base_back w i m k z why Finish x n q h = h
helps_base_back w i m k z why (Release index) x n q h = h
helps_base_back w i m k z why (Allocate at) x n q h = h
helps_base_back w i m k z why (Write slot row place) x n q h = h
helps_base_back w i m k z why (GiveUp slot) x n q h = h
helps_base_back w i m k z why (Retire at) x n q h = h
helps_base_back w i m k z why (Move at) x n q h = move_back w i m k z why at x n q h

helps_phase_back : (w : World) (i m k : ℕ) (z : View) (phase : Phase) (x : ℕ) → OriginsNeeds w i z → (w.seat m).phase ≡ phase → helps_in w.layout ((step w i).mem Clock) k phase (next_deals w i z.deal k) x ≡ true → helps_in w.layout (w.mem Clock) k phase (z.deal k) x ≡ true
helps_phase_back w i m k z Idle x n q h = h
helps_phase_back w i m k z (Runs why base) x n q h = helps_base_back w i m k z why base x n q h
helps_phase_back w i m k z (Scans later at) x n q h = h
helps_phase_back w i m k z (Works work) x n q h = h

-- what it has loaded for the request of seat k
pub helps_back : (w : World) (i m k : ℕ) (z : View) (x : ℕ) → OriginsNeeds w i z → helps_in w.layout ((step w i).mem Clock) k (w.seat m).phase (next_deals w i z.deal k) x ≡ true → helps_in w.layout (w.mem Clock) k (w.seat m).phase (z.deal k) x ≡ true
helps_back w i m k z x n h = helps_phase_back w i m k z (w.seat m).phase x n refl h
