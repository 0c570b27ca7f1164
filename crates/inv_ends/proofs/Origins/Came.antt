-- A link that is tracked after a step was tracked before it, or the step loads it.
use Rattle.std.proofs.Common.{ℕ, ◌≡◌, Bool, true, false, List, [], arith, refl, sym, ap, subst, ◌∙◌}
use Rattle.std.proofs.lemmas.Bool.Decides.{nat_tests}
use Rattle.std.specs.Prelude.{◌==◌}
use Rattle.inv_rows.specs.words.Place.Place.{Clock}
use Rattle.inv_rows.specs.words.declared.layout.Layout.{Layout}
use Rattle.inv_rows.specs.defs.declared.event.Event.{Event}
use Rattle.inv_rows.specs.defs.declared.event.Root.{Root}
use Rattle.inv_rows.specs.defs.declared.event.Root.TheVariants as roots
use Rattle.inv_rows.specs.model.declared.post.Post.{Post}
use Rattle.inv_rows.specs.model.Desks.{Desk}
use Rattle.inv_rows.specs.model.Links.{link_place, parent_of}
use Rattle.inv_rows.specs.model.Machine.{protect_move, protect_turn, after}
use Rattle.inv_rows.specs.model.Memory.{found, place_in, bump}
use Rattle.inv_rows.specs.model.Posts.{counted, upper}
use Rattle.inv_rows.specs.model.Phases.{Aim, Follows, ProtectAt, MoveAt, Base, Turn, Outcome, Goes, Ends}
use Rattle.inv_rows.specs.model.Phases.MoveAt.{LoadEra, LoadRequest, ShowEra, LoadAsked, CheckEra, AnswerAsked}
use Rattle.inv_rows.specs.model.Phases.Base.{Begin, Protect, Reload, Clear, Finish, Release, Allocate, Write, GiveUp, Retire, Move}
use Rattle.inv_rows.specs.model.Calls.{Why, Opens, FollowsHead, Fills, ClearsNext, Clears, Finishes, GivesUp, Retires, Tidies, Advances, Releases, Phase, Idle, Runs, Scans, Works}
use Rattle.inv_rows.specs.model.Locals.{Local, told_by}
use Rattle.inv_rows.specs.model.Steps.{resumed, phase_turn}
use Rattle.inv_rows.specs.model.World.{World, step, finds, offered, told_in}
use Rattle.inv_rows.specs.Shapes.Frame.{phase_left}
use Rattle.inv_rows.specs.Shapes.Seats.{Seats, Aimed, PhaseFits}
use Rattle.inv_rows.proofs.Shapes.Frame.{seat_stays}
use Rattle.inv_rows.specs.Covering.Requests.Deals.{is_quiet}
use Rattle.inv_rows.specs.Covering.Requests.NextDeals.{next_deals}
use Rattle.inv_rows.specs.Covering.Requests.Views.{View, Deal}
use Rattle.inv_rows.specs.Covering.Requests.Views.Deal.{Quiet, Open, Answered, Passed, Taken}
use Rattle.inv_ends.specs.Tracked.{carries_in, has_link, helps_at, helps_base, helps_in, root_for, root_in, Tracked, Carried, Given, Helped}
use Rattle.inv_ends.specs.Origins.{loads_at, loads_link, OriginsNeeds, Came, Before, Now, TrackedCame}
use Rattle.inv_ends.proofs.Origins.Backs.{carries_back, helps_back}
use Rattle.inv_ends.proofs.Origins.Deals.{given_came}
use Rattle.inv_ends.proofs.Origins.Heard.{hears_at}
use Rattle.inv_ends.proofs.Origins.Movers.{out_helps, move_came, no_way}
use Rattle.inv_ends.proofs.Origins.Opened.{turn_of, stepped_by, busy_root}
use Rattle.inv_ends.proofs.Origins.Own.{HearsAt, out_carries, out_root, Source, Had, Loads, Hears, protect_next, loads_none}
use Rattle.inv_ends.proofs.Origins.Plain.{out_plain, is_plain, plain_after, out_moves, moves_on, out_protects, protects_on, start_carries, start_carries_base, start_helps, start_helps_base, works_carry, works_help, move_carries, protect_helps}
use Rattle.inv_rows.proofs.Covering.Fresh.{works_start, resume_fresh}
use Rattle.inv_rows.proofs.Covering.Held.{stepped_phase, finds_at, protect_stays}
use Rattle.inv_rows.proofs.Covering.Scans.{scan_starts}

-- a protection that is followed is of a next link
why_follows : (buckets : ℕ) (why : Why) (aim : Aim) (index : ℕ) (root : Root) → Aimed buckets why aim index root → aim ≡ Follows → root ≡ roots.Next (parent_of root)
why_follows buckets (Opens task) aim index root a e = let x = a.aimed in absurd (cc)
why_follows buckets (FollowsHead head tail) aim index root a e = a.of ∙ ap (λ (r : Root). roots.Next (parent_of r)) (sym a.of)
why_follows buckets (Fills task) aim index root a e = let x = a.aimed in absurd (cc)
why_follows buckets (ClearsNext next) aim index root a e = let x = a.aimed in absurd (cc)
why_follows buckets (Clears task next) aim index root a e = let x = a.aimed in absurd (cc)
why_follows buckets (Finishes task next) aim index root a e = let x = a.aimed in absurd (cc)
why_follows buckets (GivesUp answer) aim index root a e = let x = a.aimed in absurd (cc)
why_follows buckets (Retires answer) aim index root a e = let x = a.aimed in absurd (cc)
why_follows buckets (Tidies later) aim index root a e = let x = a.aimed in absurd (cc)
why_follows buckets Advances aim index root a e = let x = a.aimed in absurd (cc)
why_follows buckets (Releases let_go) aim index root a e = let x = a.aimed in absurd (cc)

pub aimed_at : (w : World) (i : ℕ) (why : Why) (aim : Aim) (index : ℕ) (root : Root) (steps : ℕ) (at : ProtectAt) → Seats w → (w.seat i).phase ≡ Runs why (Protect aim index root steps at) → Aimed w.layout.config.buckets why aim index root
aimed_at w i why aim index root steps at s q = let r : PhaseFits w.layout (w.seat i).post (Runs why (Protect aim index root steps at)) = subst (λ (p : Phase). PhaseFits w.layout (w.seat i).post p) q (s.fits i).phase in r.shape

-- what is carried after a machine's step, its outcome carries
resumed_carries : (clock upto : ℕ) (why : Why) (desk : Desk) (post : Post) (told : List Event) (outcome : Outcome) (x : ℕ) → carries_in clock upto (phase_left (resumed why desk post told outcome).outcome) x ≡ true → out_carries clock upto outcome x ≡ true
resumed_carries clock upto why desk post told (Goes base) x h = h
resumed_carries clock upto why desk post told (Ends ending) x h =
    no_way (carries_in clock upto (phase_left (resumed why desk post told (Ends ending)).outcome) x) (start_carries clock upto (phase_left (resumed why desk post told (Ends ending)).outcome) x (resume_fresh why ending post desk told).starts) h

resumed_root : (clock upto : ℕ) (why : Why) (desk : Desk) (post : Post) (told : List Event) (outcome : Outcome) (x : ℕ) → out_carries clock upto outcome x ≡ true → root_for (phase_left (resumed why desk post told outcome).outcome) ≡ out_root outcome
resumed_root clock upto why desk post told (Goes base) x h = refl
resumed_root clock upto why desk post told (Ends ending) x h = absurd (cc)

-- where a machine goes on and tells nothing, nothing is told
goes_told : (clock upto : ℕ) (why : Why) (desk : Desk) (post : Post) (told : List Event) (outcome : Outcome) (x : ℕ) → told ≡ [] → out_carries clock upto outcome x ≡ true → told_by (resumed why desk post told outcome) ≡ []
goes_told clock upto why desk post told (Goes base) x e h = rw e refl
goes_told clock upto why desk post told (Ends ending) x e h = absurd (cc)

plain_carries : (clock upto : ℕ) (outcome : Outcome) (x : ℕ) → out_plain outcome ≡ true → out_carries clock upto outcome x ≡ false
plain_carries clock upto (Goes base) x p = start_carries_base clock upto base x p
plain_carries clock upto (Ends ending) x p = refl

moves_carries : (clock upto : ℕ) (outcome : Outcome) (x : ℕ) → out_moves outcome ≡ true → out_carries clock upto outcome x ≡ false
moves_carries clock upto (Goes base) x p = move_carries clock upto base x p
moves_carries clock upto (Ends ending) x p = refl

-- where the link of the seat's own protection comes from
came_from : (w : World) (i : ℕ) (z : View) (why : Why) (aim : Aim) (index : ℕ) (root : Root) (steps : ℕ) (at : ProtectAt) (x : ℕ) → (w.seat i).phase ≡ Runs why (Protect aim index root steps at) → root_in (step w i) i ≡ root → (loads_at at ≡ true → told_in w i ≡ []) → Source w.mem (w.mem Clock) (upper (w.seat i).post.span) root at (z.deal i) x → Came w i z i x
came_from w i z why aim index root steps at x q r t (Had c) = Before (r ∙ sym (ap root_for q)) (Carried (subst (λ (p : Phase). carries_in (w.mem Clock) (upper (w.seat i).post.span) p x ≡ true) (sym q) c))
came_from w i z why aim index root steps at x q r t (Loads l e) = Now (r ∙ sym (ap root_for q)) (subst (λ (p : Phase). loads_link p ≡ true) (sym q) l) (t l) (ap (λ (p : Phase). w.mem (link_place (root_for p))) q ∙ e)
came_from w i z why aim index root steps at x q r t (Hears h) = Before (r ∙ sym (ap root_for q)) (Given h)

protect_came : (w : World) (i : ℕ) (z : View) (why : Why) (aim : Aim) (index : ℕ) (root : Root) (steps : ℕ) (at : ProtectAt) (upto x : ℕ) → OriginsNeeds w i z → (w.seat i).phase ≡ Runs why (Protect aim index root steps at)
    → root_in (step w i) i ≡ out_root (after (Protect aim index root steps at) (counted (w.seat i).post) (finds w i)).outcome
    → out_carries ((step w i).mem Clock) upto (after (Protect aim index root steps at) (counted (w.seat i).post) (finds w i)).outcome x ≡ true → Came w i z i x
protect_came w i z why aim index root steps at upto x n q r h =
    let e = finds_at w i (Runs why (Protect aim index root steps at)) q in
    let k = why_follows w.layout.config.buckets why aim index root (aimed_at w i why aim index root steps at n.seats q) in
    let u : Turn = after (Protect aim index root steps at) (counted (w.seat i).post) (finds w i) in
    let t : loads_at at ≡ true → told_in w i ≡ [] = λ l.
    ap (λ (p : Phase). told_by (phase_turn p (counted (w.seat i).post) (offered w i).desk (finds w i))) q
    ∙ goes_told ((step w i).mem Clock) upto why (offered w i).desk u.post u.told u.outcome x (loads_none ((step w i).mem Clock) upto aim index root (bump steps) at (counted (w.seat i).post) (finds w i) x l k h) h in
    let a = subst (λ (y : ℕ). HearsAt at (counted (w.seat i).post) index root (z.deal i) y) e (hears_at w i z why aim index root steps at n q) in
    let c : out_carries (w.mem Clock) upto (protect_turn aim index root (bump steps) at (counted (w.seat i).post) (found (protect_move index root at (w.seat i).post) (w.mem (place_in (protect_move index root at (w.seat i).post))))).outcome x ≡ true =
    subst (λ (y : ℕ). out_carries (w.mem Clock) upto (protect_turn aim index root (bump steps) at (counted (w.seat i).post) y).outcome x ≡ true) e
    (subst (λ (y : ℕ). out_carries y upto (protect_turn aim index root (bump steps) at (counted (w.seat i).post) (finds w i)).outcome x ≡ true) (protect_stays w i why aim index root steps at q) h) in
    let g = protect_next w.mem (w.mem Clock) (upper (w.seat i).post.span) upto aim index root (bump steps) at (counted (w.seat i).post) (w.seat i).post (z.deal i) x refl refl
    k a c in
    let s : out_root (after (Protect aim index root steps at) (counted (w.seat i).post) (finds w i)).outcome ≡ root = ap (λ (y : ℕ). out_root (protect_turn aim index root (bump steps) at (counted (w.seat i).post) y).outcome) e ∙ g.same in
    came_from w i z why aim index root steps at x q (r ∙ s) t g.source

-- the seat that steps carries a link after a machine's step
run_came : (w : World) (i : ℕ) (z : View) (why : Why) (base : Base) (upto x : ℕ) → OriginsNeeds w i z → (w.seat i).phase ≡ Runs why base
    → root_in (step w i) i ≡ out_root (after base (counted (w.seat i).post) (finds w i)).outcome
    → out_carries ((step w i).mem Clock) upto (after base (counted (w.seat i).post) (finds w i)).outcome x ≡ true → Came w i z i x
run_came w i z why (Begin at) upto x n q r h = no_way (out_carries ((step w i).mem Clock) upto (after (Begin at) (counted (w.seat i).post) (finds w i)).outcome x) (plain_carries ((step w i).mem Clock) upto (after (Begin at) (counted (w.seat i).post) (finds w i)).outcome x (plain_after (Begin at) (counted (w.seat i).post) (finds w i) refl)) h
run_came w i z why (Protect aim index root steps at) upto x n q r h = protect_came w i z why aim index root steps at upto x n q r h
run_came w i z why (Reload parent index slot era steps) upto x n q r h = no_way (out_carries ((step w i).mem Clock) upto (after (Reload parent index slot era steps) (counted (w.seat i).post) (finds w i)).outcome x) (plain_carries ((step w i).mem Clock) upto (after (Reload parent index slot era steps) (counted (w.seat i).post) (finds w i)).outcome x (plain_after (Reload parent index slot era steps) (counted (w.seat i).post) (finds w i) refl)) h
run_came w i z why (Clear rows index) upto x n q r h = no_way (out_carries ((step w i).mem Clock) upto (after (Clear rows index) (counted (w.seat i).post) (finds w i)).outcome x) (plain_carries ((step w i).mem Clock) upto (after (Clear rows index) (counted (w.seat i).post) (finds w i)).outcome x (plain_after (Clear rows index) (counted (w.seat i).post) (finds w i) refl)) h
run_came w i z why Finish upto x n q r h = no_way (out_carries ((step w i).mem Clock) upto (after Finish (counted (w.seat i).post) (finds w i)).outcome x) (plain_carries ((step w i).mem Clock) upto (after Finish (counted (w.seat i).post) (finds w i)).outcome x (plain_after Finish (counted (w.seat i).post) (finds w i) refl)) h
run_came w i z why (Release index) upto x n q r h = no_way (out_carries ((step w i).mem Clock) upto (after (Release index) (counted (w.seat i).post) (finds w i)).outcome x) (plain_carries ((step w i).mem Clock) upto (after (Release index) (counted (w.seat i).post) (finds w i)).outcome x (plain_after (Release index) (counted (w.seat i).post) (finds w i) refl)) h
run_came w i z why (Allocate at) upto x n q r h = no_way (out_carries ((step w i).mem Clock) upto (after (Allocate at) (counted (w.seat i).post) (finds w i)).outcome x) (plain_carries ((step w i).mem Clock) upto (after (Allocate at) (counted (w.seat i).post) (finds w i)).outcome x (plain_after (Allocate at) (counted (w.seat i).post) (finds w i) refl)) h
run_came w i z why (Write slot row place) upto x n q r h = no_way (out_carries ((step w i).mem Clock) upto (after (Write slot row place) (counted (w.seat i).post) (finds w i)).outcome x) (plain_carries ((step w i).mem Clock) upto (after (Write slot row place) (counted (w.seat i).post) (finds w i)).outcome x (plain_after (Write slot row place) (counted (w.seat i).post) (finds w i) refl)) h
run_came w i z why (GiveUp slot) upto x n q r h = no_way (out_carries ((step w i).mem Clock) upto (after (GiveUp slot) (counted (w.seat i).post) (finds w i)).outcome x) (plain_carries ((step w i).mem Clock) upto (after (GiveUp slot) (counted (w.seat i).post) (finds w i)).outcome x (plain_after (GiveUp slot) (counted (w.seat i).post) (finds w i) refl)) h
run_came w i z why (Retire at) upto x n q r h = no_way (out_carries ((step w i).mem Clock) upto (after (Retire at) (counted (w.seat i).post) (finds w i)).outcome x) (plain_carries ((step w i).mem Clock) upto (after (Retire at) (counted (w.seat i).post) (finds w i)).outcome x (plain_after (Retire at) (counted (w.seat i).post) (finds w i) refl)) h
run_came w i z why (Move at) upto x n q r h = no_way (out_carries ((step w i).mem Clock) upto (after (Move at) (counted (w.seat i).post) (finds w i)).outcome x) (moves_carries ((step w i).mem Clock) upto (after (Move at) (counted (w.seat i).post) (finds w i)).outcome x (moves_on at (counted (w.seat i).post) (finds w i))) h

own_by : (w : World) (i : ℕ) (z : View) (phase : Phase) (upto x : ℕ) → OriginsNeeds w i z → (w.seat i).phase ≡ phase → carries_in ((step w i).mem Clock) upto (phase_left (turn_of w i phase).outcome) x ≡ true → Came w i z i x
own_by w i z Idle upto x n q h = absurd (cc)
own_by w i z (Runs why base) upto x n q h =
    let t : Turn = after base (counted (w.seat i).post) (finds w i) in
    let c : out_carries ((step w i).mem Clock) upto t.outcome x ≡ true = resumed_carries ((step w i).mem Clock) upto why (offered w i).desk t.post t.told t.outcome x h in
    run_came w i z why base upto x n q (ap root_for (stepped_by w i (Runs why base) q) ∙ resumed_root ((step w i).mem Clock) upto why (offered w i).desk t.post t.told t.outcome x c) c
own_by w i z (Scans later at) upto x n q h =
    no_way (carries_in ((step w i).mem Clock) upto (phase_left (turn_of w i (Scans later at)).outcome) x) (start_carries ((step w i).mem Clock) upto (phase_left (turn_of w i (Scans later at)).outcome) x (scan_starts later at (counted (w.seat i).post) (offered w i).desk (finds w i))) h
own_by w i z (Works work) upto x n q h =
    no_way (carries_in ((step w i).mem Clock) upto (phase_left (turn_of w i (Works work)).outcome) x) (works_carry ((step w i).mem Clock) upto (phase_left (turn_of w i (Works work)).outcome) x (works_start work (counted (w.seat i).post) (offered w i).desk (finds w i))) h

own_came : (w : World) (i : ℕ) (z : View) (x : ℕ) → OriginsNeeds w i z → carries_in ((step w i).mem Clock) (upper ((step w i).seat i).post.span) ((step w i).seat i).phase x ≡ true → Came w i z i x
own_came w i z x n h =
    own_by w i z (w.seat i).phase (upper ((step w i).seat i).post.span) x n refl
    (subst (λ (p : Phase). carries_in ((step w i).mem Clock) (upper ((step w i).seat i).post.span) p x ≡ true) (stepped_phase w i) h)

-- the link that the seat that steps has for a request of seat k
plain_helps : (layout : Layout) (clock k : ℕ) (outcome : Outcome) (d : Deal) (x : ℕ) (why : Why) → out_plain outcome ≡ true → out_helps layout clock k outcome d x ≡ false
plain_helps layout clock k (Goes base) d x why p = start_helps_base layout clock k why base d x p
plain_helps layout clock k (Ends ending) d x why p = refl

protects_helps : (layout : Layout) (clock k : ℕ) (outcome : Outcome) (d : Deal) (x : ℕ) → out_protects outcome ≡ true → out_helps layout clock k outcome d x ≡ false
protects_helps layout clock k (Goes base) d x p = protect_helps layout clock k base d x p
protects_helps layout clock k (Ends ending) d x p = refl

resumed_helps : (layout : Layout) (clock k : ℕ) (why : Why) (desk : Desk) (post : Post) (told : List Event) (outcome : Outcome) (d : Deal) (x : ℕ) → helps_in layout clock k (phase_left (resumed why desk post told outcome).outcome) d x ≡ true → out_helps layout clock k outcome d x ≡ true
resumed_helps layout clock k why desk post told (Goes base) d x h = h
resumed_helps layout clock k why desk post told (Ends ending) d x h =
    no_way (helps_in layout clock k (phase_left (resumed why desk post told (Ends ending)).outcome) d x) (start_helps layout clock k (phase_left (resumed why desk post told (Ends ending)).outcome) d x (resume_fresh why ending post desk told).starts) h

plain_none : (w : World) (i k : ℕ) (z : View) (why : Why) (base : Base) (x : ℕ) → is_plain base ≡ true → out_helps w.layout ((step w i).mem Clock) k (after base (counted (w.seat i).post) (finds w i)).outcome (next_deals w i z.deal k) x ≡ true → Came w i z k x
plain_none w i k z why base x p h =
    no_way (out_helps w.layout ((step w i).mem Clock) k (after base (counted (w.seat i).post) (finds w i)).outcome (next_deals w i z.deal k) x)
    (plain_helps w.layout ((step w i).mem Clock) k (after base (counted (w.seat i).post) (finds w i)).outcome (next_deals w i z.deal k) x why (plain_after base (counted (w.seat i).post) (finds w i) p)) h

run_helped : (w : World) (i k : ℕ) (z : View) (why : Why) (base : Base) (x : ℕ) → OriginsNeeds w i z → (w.seat i).phase ≡ Runs why base → root_in (step w i) k ≡ root_in w k
    → out_helps w.layout ((step w i).mem Clock) k (after base (counted (w.seat i).post) (finds w i)).outcome (next_deals w i z.deal k) x ≡ true → Came w i z k x
run_helped w i k z why (Begin at) x n q same h = plain_none w i k z why (Begin at) x refl h
run_helped w i k z why (Protect aim index root steps at) x n q same h =
    no_way (out_helps w.layout ((step w i).mem Clock) k (after (Protect aim index root steps at) (counted (w.seat i).post) (finds w i)).outcome (next_deals w i z.deal k) x)
    (protects_helps w.layout ((step w i).mem Clock) k (after (Protect aim index root steps at) (counted (w.seat i).post) (finds w i)).outcome (next_deals w i z.deal k) x (protects_on aim index root (bump steps) at (counted (w.seat i).post) (finds w i))) h
run_helped w i k z why (Reload parent index slot era steps) x n q same h = plain_none w i k z why (Reload parent index slot era steps) x refl h
run_helped w i k z why (Clear rows index) x n q same h = plain_none w i k z why (Clear rows index) x refl h
run_helped w i k z why Finish x n q same h = plain_none w i k z why Finish x refl h
run_helped w i k z why (Release index) x n q same h = plain_none w i k z why (Release index) x refl h
run_helped w i k z why (Allocate at) x n q same h = plain_none w i k z why (Allocate at) x refl h
run_helped w i k z why (Write slot row place) x n q same h = plain_none w i k z why (Write slot row place) x refl h
run_helped w i k z why (GiveUp slot) x n q same h = plain_none w i k z why (GiveUp slot) x refl h
run_helped w i k z why (Retire at) x n q same h = plain_none w i k z why (Retire at) x refl h
run_helped w i k z why (Move at) x n q same h = move_came w i k z why at x n q same h

helped_by : (w : World) (i k : ℕ) (z : View) (phase : Phase) (x : ℕ) → OriginsNeeds w i z → (w.seat i).phase ≡ phase → root_in (step w i) k ≡ root_in w k
    → helps_in w.layout ((step w i).mem Clock) k (phase_left (turn_of w i phase).outcome) (next_deals w i z.deal k) x ≡ true → Came w i z k x
helped_by w i k z Idle x n q same h = absurd (cc)
helped_by w i k z (Runs why base) x n q same h =
    let t : Turn = after base (counted (w.seat i).post) (finds w i) in
    run_helped w i k z why base x n q same (resumed_helps w.layout ((step w i).mem Clock) k why (offered w i).desk t.post t.told t.outcome (next_deals w i z.deal k) x h)
helped_by w i k z (Scans later at) x n q same h =
    no_way (helps_in w.layout ((step w i).mem Clock) k (phase_left (turn_of w i (Scans later at)).outcome) (next_deals w i z.deal k) x)
    (start_helps w.layout ((step w i).mem Clock) k (phase_left (turn_of w i (Scans later at)).outcome) (next_deals w i z.deal k) x (scan_starts later at (counted (w.seat i).post) (offered w i).desk (finds w i))) h
helped_by w i k z (Works work) x n q same h =
    no_way (helps_in w.layout ((step w i).mem Clock) k (phase_left (turn_of w i (Works work)).outcome) (next_deals w i z.deal k) x)
    (works_help w.layout ((step w i).mem Clock) k (phase_left (turn_of w i (Works work)).outcome) (next_deals w i z.deal k) x (works_start work (counted (w.seat i).post) (offered w i).desk (finds w i))) h

own_helped : (w : World) (i k : ℕ) (z : View) (x : ℕ) → OriginsNeeds w i z → root_in (step w i) k ≡ root_in w k → helps_in w.layout ((step w i).mem Clock) k ((step w i).seat i).phase (next_deals w i z.deal k) x ≡ true → Came w i z k x
own_helped w i k z x n same h =
    helped_by w i k z (w.seat i).phase x n refl same (subst (λ (p : Phase). helps_in w.layout ((step w i).mem Clock) k p (next_deals w i z.deal k) x ≡ true) (stepped_phase w i) h)

-- a seat that has a request protects the same root after the step
other_root : (w : World) (i k : ℕ) → (k == i) ≡ false → root_in (step w i) k ≡ root_in w k
other_root w i k o = ap (λ (l : Local). root_for l.phase) (seat_stays w i k o)

same_root : (w : World) (i k : ℕ) (z : View) (own : Bool) → (k == i) ≡ own → OriginsNeeds w i z → is_quiet (next_deals w i z.deal k) ≡ false → root_in (step w i) k ≡ root_in w k
same_root w i k z true o n b =
    let e : k ≡ i = grind (arith, nat_tests) in
    subst (λ (m : ℕ). root_in (step w i) m ≡ root_in w m) (sym e) (busy_root w i z n (subst (λ (m : ℕ). is_quiet (next_deals w i z.deal m) ≡ false) e b))
same_root w i k z false o n b = other_root w i k o

pub link_busy : (d : Deal) (x : ℕ) → has_link d x ≡ true → is_quiet d ≡ false
link_busy Quiet x h = cc
link_busy (Open t j u) x h = refl
link_busy (Answered t j u l e m) x h = refl
link_busy (Passed t j u l e) x h = refl
link_busy (Taken t j u l e) x h = refl

helps_busy_at : (layout : Layout) (clock k : ℕ) (at : MoveAt) (x : ℕ) → helps_at layout clock k at Quiet x ≡ true → false ≡ true
helps_busy_at layout clock k (LoadEra helps) x h = h
helps_busy_at layout clock k (LoadRequest e s shown) x h = h
helps_busy_at layout clock k (ShowEra e s t j r) x h = h
helps_busy_at layout clock k (LoadAsked e s t j r) x h = h
helps_busy_at layout clock k (CheckEra e s t j r link) x h = grind (arith, nat_tests)
helps_busy_at layout clock k (AnswerAsked e s t j r link) x h = grind (arith, nat_tests)
helps_busy_at layout clock k at x h = h

helps_busy_base : (layout : Layout) (clock k : ℕ) (base : Base) (x : ℕ) → helps_base layout clock k base Quiet x ≡ true → false ≡ true
helps_busy_base layout clock k (Begin at) x h = h
helps_busy_base layout clock k (Protect aim index root steps at) x h = h
helps_busy_base layout clock k (Reload parent index slot era steps) x h = h
helps_busy_base layout clock k (Clear rows index) x h = h
helps_busy_base layout clock k Finish x h = h
helps_busy_base layout clock k (Release index) x h = h
helps_busy_base layout clock k (Allocate at) x h = h
helps_busy_base layout clock k (Write slot row place) x h = h
helps_busy_base layout clock k (GiveUp slot) x h = h
helps_busy_base layout clock k (Retire at) x h = h
helps_busy_base layout clock k (Move at) x h = helps_busy_at layout clock k at x h

pub helps_quiet : (layout : Layout) (clock k : ℕ) (phase : Phase) (x : ℕ) → helps_in layout clock k phase Quiet x ≡ true → false ≡ true
helps_quiet layout clock k Idle x h = h
helps_quiet layout clock k (Runs why base) x h = helps_busy_base layout clock k base x h
helps_quiet layout clock k (Scans later at) x h = h
helps_quiet layout clock k (Works work) x h = h

pub helps_busy : (layout : Layout) (clock k : ℕ) (phase : Phase) (d : Deal) (x : ℕ) → helps_in layout clock k phase d x ≡ true → is_quiet d ≡ false
helps_busy layout clock k phase Quiet x h = absurd (no_way false refl (helps_quiet layout clock k phase x h))
helps_busy layout clock k phase (Open t j u) x h = refl
helps_busy layout clock k phase (Answered t j u l e m) x h = refl
helps_busy layout clock k phase (Passed t j u l e) x h = refl
helps_busy layout clock k phase (Taken t j u l e) x h = refl

-- each of the three
carried_came : (w : World) (i k : ℕ) (z : View) (x : ℕ) (own : Bool) → (k == i) ≡ own → OriginsNeeds w i z → carries_in ((step w i).mem Clock) (upper ((step w i).seat k).post.span) ((step w i).seat k).phase x ≡ true → Came w i z k x
carried_came w i k z x true o n h =
    let e : k ≡ i = grind (arith, nat_tests) in
    subst (λ (m : ℕ). carries_in ((step w i).mem Clock) (upper ((step w i).seat m).post.span) ((step w i).seat m).phase x ≡ true → Came w i z m x) (sym e) (own_came w i z x n) h
carried_came w i k z x false o n h =
    Before (other_root w i k o) (Carried (carries_back w i k z x n (subst (λ (l : Local). carries_in ((step w i).mem Clock) (upper l.post.span) l.phase x ≡ true) (seat_stays w i k o) h)))

helped_came : (w : World) (i k m : ℕ) (z : View) (x : ℕ) (own : Bool) → (m == i) ≡ own → OriginsNeeds w i z → helps_in w.layout ((step w i).mem Clock) k ((step w i).seat m).phase (next_deals w i z.deal k) x ≡ true → Came w i z k x
helped_came w i k m z x true o n h =
    let e : m ≡ i = grind (arith, nat_tests) in
    let g : helps_in w.layout ((step w i).mem Clock) k ((step w i).seat i).phase (next_deals w i z.deal k) x ≡ true = subst (λ (y : ℕ). helps_in w.layout ((step w i).mem Clock) k ((step w i).seat y).phase (next_deals w i z.deal k) x ≡ true) e h in
    own_helped w i k z x n (same_root w i k z (k == i) refl n (helps_busy w.layout ((step w i).mem Clock) k ((step w i).seat i).phase (next_deals w i z.deal k) x g)) g
helped_came w i k m z x false o n h =
    let g : helps_in w.layout ((step w i).mem Clock) k (w.seat m).phase (next_deals w i z.deal k) x ≡ true = subst (λ (l : Local). helps_in w.layout ((step w i).mem Clock) k l.phase (next_deals w i z.deal k) x ≡ true) (seat_stays w i m o) h in
    Before (same_root w i k z (k == i) refl n (helps_busy w.layout ((step w i).mem Clock) k (w.seat m).phase (next_deals w i z.deal k) x g)) (Helped m (helps_back w i m k z x n g))

given_from : (w : World) (i k : ℕ) (z : View) (x : ℕ) → OriginsNeeds w i z → has_link (next_deals w i z.deal k) x ≡ true → Came w i z k x
given_from w i k z x n h = Before (same_root w i k z (k == i) refl n (link_busy (next_deals w i z.deal k) x h)) (given_came w i z k x n h)

came_by : (w : World) (i : ℕ) (z next : View) (k x : ℕ) → OriginsNeeds w i z → next.deal ≡ next_deals w i z.deal → Tracked (step w i) next k x → Came w i z k x
came_by w i z next k x n d (Carried h) = carried_came w i k z x (k == i) refl n h
came_by w i z next k x n d (Given h) = given_from w i k z x n (subst (λ (f : ℕ → Deal). has_link (f k) x ≡ true) d h)
came_by w i z next k x n d (Helped m h) = helped_came w i k m z x (m == i) refl n (subst (λ (f : ℕ → Deal). helps_in w.layout ((step w i).mem Clock) k ((step w i).seat m).phase (f k) x ≡ true) d h)

pub tracked_came : TrackedCame
tracked_came w i z next k x n d t = came_by w i z next k x n d t
