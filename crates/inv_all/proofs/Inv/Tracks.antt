-- Under Wait-Free Eras no step takes or frees the row of a link that is tracked: words hold it.
use Rattle.std.proofs.Common.{ℕ, ◌≡◌, ◌+◌, Bool, true, false, refl, sym, subst, ap, ◌∙◌, arith}
use Rattle.std.proofs.lemmas.Bool.Decides.{nat_tests}
use Rattle.std.specs.Prelude.{◌==◌, ◌&&◌, not}
use Rattle.inv_ends.specs.model.words.Place.{is_valid, has}
use Rattle.inv_ends.specs.model.words.Place.Place.{Clock}
use Rattle.inv_ends.specs.model.words.declared.layout.Layout.{Layout}
use Rattle.inv_ends.specs.model.defs.declared.event.Root.{Root}
use Rattle.inv_ends.specs.model.declared.post.Post.{Post}
use Rattle.inv_ends.specs.model.Links.{link_place, link_number, root_at}
use Rattle.inv_ends.specs.model.Posts.{upper}
use Rattle.inv_ends.specs.model.Phases.{Aim, ProtectAt, MoveAt, Base}
use Rattle.inv_ends.specs.model.Phases.ProtectAt.{CheckClock, LoadOwnClock, PublishHelper, LoadOwnLink, CheckOwnClock, AnswerOwn, LoadAnswer, TakeAnswer, WithdrawRequest, WithdrawHelper, CheckUpper}
use Rattle.inv_ends.specs.model.Phases.MoveAt.{LoadEra, CheckEra, AnswerAsked}
use Rattle.inv_ends.specs.model.Phases.Base.{Begin, Protect, Reload, Clear, Finish, Release, Allocate, Write, GiveUp, Retire, Move}
use Rattle.inv_ends.specs.model.Calls.{Why, Work, Phase, Idle, Runs, Scans, Works}
use Rattle.inv_ends.proofs.model.Roots.{root_at_link}
use Rattle.inv_ends.specs.model.World.{World}
use Rattle.inv_ends.proofs.model.Facts.{both, first_of, same_number, rest_of}
use Rattle.inv_ends.specs.shapes.Eras.{Eras}
use Rattle.inv_ends.specs.shapes.Seats.{Seats}
use Rattle.inv_ends.specs.shapes.Slots.{Slots}
use Rattle.inv_ends.proofs.shapes.Gives.{gives_guards}
use Rattle.inv_ends.specs.requests.Deals.{fits, is_quiet, asked_at, answered_with, taken_with, is_open}
use Rattle.inv_ends.proofs.requests.Turns.{each_work_role}
use Rattle.inv_ends.specs.requests.Standing.{Requests, role_of, protect_role, move_role, base_role, work_role}
use Rattle.inv_ends.specs.requests.Views.{Deal, Role, View as Asked}
use Rattle.inv_ends.specs.requests.Views.Deal.{Quiet, Open, Answered, Passed, Taken}
use Rattle.inv_ends.specs.rows.Queue.{in_queue}
use Rattle.inv_ends.specs.rows.Rows.{Status, View}
use Rattle.inv_ends.specs.covers.Held.{under, tries_base}
use Rattle.inv_ends.specs.Helped.{open_by, helper_holds, answered_from, passed_to}
use Rattle.inv_ends.specs.Handover.{IsLeft, RowsLeft}
use Rattle.inv_ends.specs.Tracked.{carries_at, carries_in, has_link, opened_by, helps_at, helps_in, root_for, root_in, Tracked, Carried, Given, Helped}
use Rattle.inv_all.proofs.Inv.Shapes.{eras_of}

-- a request that is open, answered or handed over asks for this word
abbrev asks_word : Deal → ℕ → Bool
asks_word Quiet x = false
asks_word (Open t j w) x = w == x
asks_word (Answered t j w l e m) x = w == x
asks_word (Passed t j w l e) x = w == x
asks_word (Taken t j w l e) x = false

quiet_word : (d : Deal) (x : ℕ) → is_quiet d ≡ true → asks_word d x ≡ true → ⊥
quiet_word Quiet x h a = cc
quiet_word (Open t j w) x h a = cc
quiet_word (Answered t j w l e m) x h a = cc
quiet_word (Passed t j w l e) x h a = cc
quiet_word (Taken t j w l e) x h a = cc

asked_word : (index word : ℕ) (d : Deal) (x : ℕ) → asked_at index word d ≡ true → asks_word d x ≡ true → word ≡ x
asked_word index word Quiet x h a = absurd (cc)
asked_word index word (Open t j w) x h a = grind (arith, nat_tests)
asked_word index word (Answered t j w l e m) x h a = grind (arith, nat_tests)
asked_word index word (Passed t j w l e) x h a = grind (arith, nat_tests)
asked_word index word (Taken t j w l e) x h a = absurd (cc)

waits_word : (index word : ℕ) (d : Deal) (x : ℕ) → (asked_at index word d && not (is_open d)) ≡ true → asks_word d x ≡ true → word ≡ x
waits_word index word Quiet x h a = absurd (cc)
waits_word index word (Open t j w) x h a = grind (arith, nat_tests)
waits_word index word (Answered t j w l e m) x h a = grind (arith, nat_tests)
waits_word index word (Passed t j w l e) x h a = grind (arith, nat_tests)
waits_word index word (Taken t j w l e) x h a = absurd (cc)

answered_word : (index word link era : ℕ) (d : Deal) (x : ℕ) → answered_with index word link era d ≡ true → asks_word d x ≡ true → word ≡ x
answered_word index word link era Quiet x h a = absurd (cc)
answered_word index word link era (Open t j w) x h a = absurd (cc)
answered_word index word link era (Answered t j w l e m) x h a = grind (arith, nat_tests)
answered_word index word link era (Passed t j w l e) x h a = grind (arith, nat_tests)
answered_word index word link era (Taken t j w l e) x h a = absurd (cc)

taken_word : (index word link era : ℕ) (d : Deal) (x : ℕ) → taken_with index word link era d ≡ true → asks_word d x ≡ true → ⊥
taken_word index word link era Quiet x h a = cc
taken_word index word link era (Open t j w) x h a = cc
taken_word index word link era (Answered t j w l e m) x h a = cc
taken_word index word link era (Passed t j w l e) x h a = cc
taken_word index word link era (Taken t j w l e) x h a = cc

-- it is that of the seat's protection
asked_protect : (layout : Layout) (index : ℕ) (root : Root) (at : ProtectAt) (d : Deal) (x : ℕ) → fits (protect_role layout index root at) d ≡ true → asks_word d x ≡ true → link_number layout root ≡ x
asked_protect layout index root LoadOwnClock d x h a = asked_word index (link_number layout root) d x h a
asked_protect layout index root (PublishHelper first era last) d x h a = asked_word index (link_number layout root) d x h a
asked_protect layout index root (LoadOwnLink first era last) d x h a = asked_word index (link_number layout root) d x h a
asked_protect layout index root (CheckOwnClock first era last link) d x h a = asked_word index (link_number layout root) d x h a
asked_protect layout index root (AnswerOwn first era link) d x h a = asked_word index (link_number layout root) d x h a
asked_protect layout index root (LoadAnswer first) d x h a = waits_word index (link_number layout root) d x h a
asked_protect layout index root (TakeAnswer link era) d x h a = answered_word index (link_number layout root) link era d x h a
asked_protect layout index root (WithdrawRequest link era) d x h a = absurd (taken_word index (link_number layout root) link era d x h a)
asked_protect layout index root at d x h a = absurd (quiet_word d x h a)

asked_move : (layout : Layout) (at : MoveAt) (d : Deal) (x : ℕ) → fits (move_role layout at) d ≡ true → asks_word d x ≡ true → ⊥
asked_move layout (LoadEra helps) d x h a = quiet_word d x h a
asked_move layout at d x h a = quiet_word d x h a

asked_base : (X : Type 0) (layout : Layout) (base : Base) (d : Deal) (x : ℕ) → fits (base_role layout base) d ≡ true → asks_word d x ≡ true
    → ((aim : Aim) (index : ℕ) (root : Root) (steps : ℕ) (at : ProtectAt) → base ≡ Protect aim index root steps at → link_number layout root ≡ x → X) → X
asked_base X layout (Protect aim index root steps at) d x h a f = f aim index root steps at refl (asked_protect layout index root at d x h a)
asked_base X layout (Move at) d x h a f = absurd (asked_move layout at d x h a)
asked_base X layout base d x h a f = absurd (quiet_word d x h a)

-- a call's own step has no request
work_quiet : (layout : Layout) (work : Work) (d : Deal) → fits (work_role layout work) d ≡ true → is_quiet d ≡ true
work_quiet layout work d h = each_work_role layout work (λ (r : Role). fits r d ≡ true → is_quiet d ≡ true) (λ q. q) (λ from era q. q) h

asked_phase : (X : Type 0) (layout : Layout) (phase : Phase) (d : Deal) (x : ℕ) → fits (role_of layout phase) d ≡ true → asks_word d x ≡ true
    → ((why : Why) (aim : Aim) (index : ℕ) (root : Root) (steps : ℕ) (at : ProtectAt) → phase ≡ Runs why (Protect aim index root steps at) → link_number layout root ≡ x → X) → X
asked_phase X layout Idle d x h a f = absurd (quiet_word d x h a)
asked_phase X layout (Runs why base) d x h a f = asked_base X layout base d x h a (λ aim index root steps at e n. f why aim index root steps at (ap (Runs why) e) n)
asked_phase X layout (Scans later at) d x h a f = absurd (quiet_word d x h a)
asked_phase X layout (Works work) d x h a f = absurd (quiet_word d x (work_quiet layout work d h) a)

fits_at : (w : World) (k : ℕ) (z : Asked) → Requests w z → fits (role_of w.layout (w.seat k).phase) (z.deal k) ≡ true
fits_at w k z q = subst (λ (r : Role). fits r (z.deal k) ≡ true) (sym (q.locals.roles k)) (q.parts.fit k)

-- so a request is for the root of its seat's protection
asked_root : (w : World) (k : ℕ) (z : Asked) (x : ℕ) → is_valid w.layout ≡ true → Seats w → Slots w → Requests w z → asks_word (z.deal k) x ≡ true → root_at w.layout x ≡ root_in w k
asked_root w k z x d s t q a =
    asked_phase (root_at w.layout x ≡ root_in w k) w.layout (w.seat k).phase (z.deal k) x (fits_at w k z q) a
    (λ why aim index root steps at e n. let g = gives_guards w d s t k why aim index root steps at e in ap (root_at w.layout) (sym n) ∙ root_at_link w.layout root g.there ∙ sym (ap root_for e))

taken_link : (index word link era t j w l e x : ℕ) → taken_with index word link era (Taken t j w l e) ≡ true → (l == x) ≡ true → (link == x) ≡ true
taken_link index word link era t j w l e x h k = grind (arith, nat_tests)

taken_protect : (X : Type 0) (layout : Layout) (clock : ℕ) (status : ℕ → Status) (post : Post) (aim : Aim) (index : ℕ) (root : Root) (steps : ℕ) (at : ProtectAt) (t j w l e s : ℕ) → fits (protect_role layout index root at) (Taken t j w l e) ≡ true → (l == s + 1) ≡ true → under status root ≡ true
    → (tries_base clock status post (Protect aim index root steps at) s ≡ true → X) → X
taken_protect X layout clock status post aim index root steps (WithdrawRequest link era) t j w l e s h k u f = f (both (link == s + 1) (under status root) (taken_link index (link_number layout root) link era t j w l e (s + 1) h k) u)
taken_protect X layout clock status post aim index root steps at t j w l e s h k u f = absurd (cc)

taken_move : (layout : Layout) (at : MoveAt) (t j w l e : ℕ) → fits (move_role layout at) (Taken t j w l e) ≡ true → ⊥
taken_move layout (LoadEra helps) t j w l e h = cc
taken_move layout at t j w l e h = cc

taken_phase : (X : Type 0) (layout : Layout) (clock : ℕ) (status : ℕ → Status) (post : Post) (phase : Phase) (t j w l e s : ℕ) → fits (role_of layout phase) (Taken t j w l e) ≡ true → (l == s + 1) ≡ true → under status (root_for phase) ≡ true
    → ((why : Why) (base : Base) → phase ≡ Runs why base → tries_base clock status post base s ≡ true → X) → X
taken_phase X layout clock status post Idle t j w l e s h k u f = absurd (cc)
taken_phase X layout clock status post (Runs why (Protect aim index root steps at)) t j w l e s h k u f = taken_protect X layout clock status post aim index root steps at t j w l e s h k u (f why (Protect aim index root steps at) refl)
taken_phase X layout clock status post (Runs why (Begin at)) t j w l e s h k u f = absurd (cc)
taken_phase X layout clock status post (Runs why (Reload parent index slot era steps)) t j w l e s h k u f = absurd (cc)
taken_phase X layout clock status post (Runs why (Clear rows index)) t j w l e s h k u f = absurd (cc)
taken_phase X layout clock status post (Runs why Finish) t j w l e s h k u f = absurd (cc)
taken_phase X layout clock status post (Runs why (Release index)) t j w l e s h k u f = absurd (cc)
taken_phase X layout clock status post (Runs why (Allocate at)) t j w l e s h k u f = absurd (cc)
taken_phase X layout clock status post (Runs why (Write slot row place)) t j w l e s h k u f = absurd (cc)
taken_phase X layout clock status post (Runs why (GiveUp slot)) t j w l e s h k u f = absurd (cc)
taken_phase X layout clock status post (Runs why (Retire at)) t j w l e s h k u f = absurd (cc)
taken_phase X layout clock status post (Runs why (Move at)) t j w l e s h k u f = absurd (taken_move layout at t j w l e h)
taken_phase X layout clock status post (Scans later at) t j w l e s h k u f = absurd (cc)
taken_phase X layout clock status post (Works work) t j w l e s h k u f = let q = work_quiet layout work (Taken t j w l e) h in absurd (cc)

under_asked : (w : World) (k : ℕ) (v : View) (z : Asked) (x : ℕ) → is_valid w.layout ≡ true → Seats w → Slots w → Requests w z → asks_word (z.deal k) x ≡ true → under v.status (root_in w k) ≡ true → under v.status (root_at w.layout x) ≡ true
under_asked w k v z x d s t q a u = subst (λ (r : Root). under v.status r ≡ true) (sym (asked_root w k z x d s t q a)) u

given_left : (w : World) (i k s : ℕ) (v : View) (z : Asked) (d : Deal) → is_valid w.layout ≡ true → Seats w → Slots w → Requests w z → RowsLeft w i v z.deal → z.deal k ≡ d → has_link d (s + 1) ≡ true → under v.status (root_in w k) ≡ true → IsLeft w i s
given_left w i k s v z Quiet h c t q r e l u = absurd (cc)
given_left w i k s v z (Open tag j word) h c t q r e l u = absurd (cc)
given_left w i k s v z (Answered tag j word link era m) h c t q r e l u =
    let a : asks_word (z.deal k) word ≡ true = subst (λ (d : Deal). asks_word d word ≡ true) (sym e) (same_number word) in
    let g : answered_from w.layout v.status m (Answered tag j word link era m) s ≡ true = both (m == m) (link == s + 1 && under v.status (root_at w.layout word)) (same_number m) (both (link == s + 1) (under v.status (root_at w.layout word)) l (under_asked w k v z word h c t q a u)) in
    r.answered k m s (subst (λ (d : Deal). answered_from w.layout v.status m d s ≡ true) (sym e) g)
given_left w i k s v z (Passed tag j word link era) h c t q r e l u =
    let a : asks_word (z.deal k) word ≡ true = subst (λ (d : Deal). asks_word d word ≡ true) (sym e) (same_number word) in
    let g : passed_to w.layout v.status j (Passed tag j word link era) s ≡ true = both (j == j) (link == s + 1 && under v.status (root_at w.layout word)) (same_number j) (both (link == s + 1) (under v.status (root_at w.layout word)) l (under_asked w k v z word h c t q a u)) in
    r.passed k j s (subst (λ (d : Deal). passed_to w.layout v.status j d s ≡ true) (sym e) g)
given_left w i k s v z (Taken tag j word link era) h c t q r e l u =
    taken_phase (IsLeft w i s) w.layout (w.mem Clock) v.status (w.seat k).post (w.seat k).phase tag j word link era s (subst (λ (d : Deal). fits (role_of w.layout (w.seat k).phase) d ≡ true) e (fits_at w k z q)) l u (λ why base f g. r.tried k why base s f g)

-- a link that a protection carries was tried, is held by the own helper word, or is its answer's
answered_link : (index word link era : ℕ) (d : Deal) (x : ℕ) → answered_with index word link era d ≡ true → (link == x) ≡ true → has_link d x ≡ true
answered_link index word link era Quiet x h l = absurd (cc)
answered_link index word link era (Open t j w) x h l = absurd (cc)
answered_link index word link era (Answered t j w m e b) x h l = grind (arith, nat_tests)
answered_link index word link era (Passed t j w m e) x h l = grind (arith, nat_tests)
answered_link index word link era (Taken t j w m e) x h l = absurd (cc)

inner : (a b u : Bool) → (a && b) ≡ true → u ≡ true → (a && (b && u)) ≡ true
inner true true true h k = refl
inner true true false h k = cc
inner true false u h k = absurd (cc)
inner false b u h k = absurd (cc)

carried_protect : (X : Type 0) (layout : Layout) (clock : ℕ) (status : ℕ → Status) (deal : ℕ → Deal) (d : Deal) (post : Post) (aim : Aim) (index : ℕ) (root : Root) (steps : ℕ) (at : ProtectAt) (s : ℕ)
    → fits (protect_role layout index root at) d ≡ true → carries_at clock (upper post.span) at (s + 1) ≡ true → under status root ≡ true
    → (tries_base clock status post (Protect aim index root steps at) s ≡ true → X)
    → (helper_holds layout clock status deal (Protect aim index root steps at) s ≡ true → X)
    → (has_link d (s + 1) ≡ true → X) → X
carried_protect X layout clock status deal d post aim index root steps (CheckClock era tries link) s h c u f g a = f (inner (link == s + 1) (clock == era) (under status root) c u)
carried_protect X layout clock status deal d post aim index root steps (CheckOwnClock first era last link) s h c u f g a = g (inner (link == s + 1) (clock == era) (under status root) c u)
carried_protect X layout clock status deal d post aim index root steps (AnswerOwn first era link) s h c u f g a = g (both (link == s + 1) (under status root) c u)
carried_protect X layout clock status deal d post aim index root steps (TakeAnswer link era) s h c u f g a = a (answered_link index (link_number layout root) link era d (s + 1) h c)
carried_protect X layout clock status deal d post aim index root steps (WithdrawRequest link era) s h c u f g a = f (both (link == s + 1) (under status root) c u)
carried_protect X layout clock status deal d post aim index root steps (WithdrawHelper link era) s h c u f g a = f (both (link == s + 1) (under status root) c u)
carried_protect X layout clock status deal d post aim index root steps (CheckUpper link) s h c u f g a = f (inner (link == s + 1) (clock == upper post.span) (under status root) c u)
carried_protect X layout clock status deal d post aim index root steps at s h c u f g a = absurd (cc)

reload_same : (slot s : ℕ) (u : Bool) → (slot + 1 == s + 1) ≡ true → u ≡ true → (slot == s && u) ≡ true
reload_same slot s u h k = grind (arith, nat_tests)

carried_phase : (X : Type 0) (layout : Layout) (clock : ℕ) (status : ℕ → Status) (deal : ℕ → Deal) (d : Deal) (post : Post) (phase : Phase) (s : ℕ)
    → fits (role_of layout phase) d ≡ true → carries_in clock (upper post.span) phase (s + 1) ≡ true → under status (root_for phase) ≡ true
    → ((why : Why) (base : Base) → phase ≡ Runs why base → tries_base clock status post base s ≡ true → X)
    → ((why : Why) (base : Base) → phase ≡ Runs why base → helper_holds layout clock status deal base s ≡ true → X)
    → (has_link d (s + 1) ≡ true → X) → X
carried_phase X layout clock status deal d post Idle s h c u f g a = absurd (cc)
carried_phase X layout clock status deal d post (Runs why (Protect aim index root steps at)) s h c u f g a = carried_protect X layout clock status deal d post aim index root steps at s h c u (f why (Protect aim index root steps at) refl) (g why (Protect aim index root steps at) refl) a
carried_phase X layout clock status deal d post (Runs why (Reload parent index slot era steps)) s h c u f g a = f why (Reload parent index slot era steps) refl (reload_same slot s (in_queue (status parent)) c u)
carried_phase X layout clock status deal d post (Runs why (Begin at)) s h c u f g a = absurd (cc)
carried_phase X layout clock status deal d post (Runs why (Clear rows index)) s h c u f g a = absurd (cc)
carried_phase X layout clock status deal d post (Runs why Finish) s h c u f g a = absurd (cc)
carried_phase X layout clock status deal d post (Runs why (Release index)) s h c u f g a = absurd (cc)
carried_phase X layout clock status deal d post (Runs why (Allocate at)) s h c u f g a = absurd (cc)
carried_phase X layout clock status deal d post (Runs why (Write slot row place)) s h c u f g a = absurd (cc)
carried_phase X layout clock status deal d post (Runs why (GiveUp slot)) s h c u f g a = absurd (cc)
carried_phase X layout clock status deal d post (Runs why (Retire at)) s h c u f g a = absurd (cc)
carried_phase X layout clock status deal d post (Runs why (Move at)) s h c u f g a = absurd (cc)
carried_phase X layout clock status deal d post (Scans later at) s h c u f g a = absurd (cc)
carried_phase X layout clock status deal d post (Works work) s h c u f g a = absurd (cc)

-- a link that a mover has loaded for the request is held by the mover's helper word
opened_same : (tag index word : ℕ) (d : Deal) → opened_by tag index word d ≡ true → open_by tag index word d ≡ true
opened_same tag index word Quiet h = h
opened_same tag index word (Open t j w) h = h
opened_same tag index word (Answered t j w l e m) h = h
opened_same tag index word (Passed t j w l e) h = h
opened_same tag index word (Taken t j w l e) h = h

opened_word : (tag index word : ℕ) (d : Deal) → opened_by tag index word d ≡ true → asks_word d word ≡ true
opened_word tag index word Quiet h = h
opened_word tag index word (Open t j w) h = grind (arith, nat_tests)
opened_word tag index word (Answered t j w l e m) h = absurd (cc)
opened_word tag index word (Passed t j w l e) h = absurd (cc)
opened_word tag index word (Taken t j w l e) h = absurd (cc)

-- the root that a mover is asked for is that of the seat's protection
helps_root : (w : World) (k : ℕ) (v : View) (z : Asked) (tag index : ℕ) (root : Root) → is_valid w.layout ≡ true → Seats w → Slots w → Requests w z → has w.layout (link_place root) ≡ true → opened_by tag index (link_number w.layout root) (z.deal k) ≡ true → under v.status (root_in w k) ≡ true → under v.status root ≡ true
helps_root w k v z tag index root d s t q there o u =
    let same : root ≡ root_in w k = sym (root_at_link w.layout root there) ∙ asked_root w k z (link_number w.layout root) d s t q (opened_word tag index (link_number w.layout root) (z.deal k) o) in
    subst (λ (r : Root). under v.status r ≡ true) (sym same) u

-- the request is of seat k
of_seat : (w : World) (k seat : ℕ) (z : Asked) (tag index : ℕ) (root : Root) → (seat == k) ≡ true → opened_by tag index (link_number w.layout root) (z.deal k) ≡ true → open_by tag index (link_number w.layout root) (z.deal seat) ≡ true
of_seat w k seat z tag index root e o =
    let same : seat ≡ k = grind (arith, nat_tests) in
    opened_same tag index (link_number w.layout root) (z.deal seat) (subst (λ (y : ℕ). opened_by tag index (link_number w.layout root) (z.deal y) ≡ true) (sym same) o)

helped_move : (w : World) (i k m s : ℕ) (v : View) (z : Asked) (why : Why) (at : MoveAt) → is_valid w.layout ≡ true → Seats w → Eras w → Slots w → Requests w z → RowsLeft w i v z.deal → (w.seat m).phase ≡ Runs why (Move at) → helps_at w.layout (w.mem Clock) k at (z.deal k) (s + 1) ≡ true → under v.status (root_in w k) ≡ true → IsLeft w i s
helped_move w i k m s v z why (CheckEra era seat tag index root link) d b a t q r e h u =
    let p = rest_of (seat == k) (link == s + 1 && (w.mem Clock == era && opened_by tag index (link_number w.layout root) (z.deal k))) h in
    let l = first_of (link == s + 1) (w.mem Clock == era && opened_by tag index (link_number w.layout root) (z.deal k)) p in
    let n = rest_of (link == s + 1) (w.mem Clock == era && opened_by tag index (link_number w.layout root) (z.deal k)) p in
    let c = first_of (w.mem Clock == era) (opened_by tag index (link_number w.layout root) (z.deal k)) n in
    let o = rest_of (w.mem Clock == era) (opened_by tag index (link_number w.layout root) (z.deal k)) n in
    let j = (eras_of w m why (Move (CheckEra era seat tag index root link)) a e).asked.there in
    let x = of_seat w k seat z tag index root (first_of (seat == k) (link == s + 1 && (w.mem Clock == era && opened_by tag index (link_number w.layout root) (z.deal k))) h) o in
    let y = helps_root w k v z tag index root d b t q j o u in
    r.loaded m why (Move (CheckEra era seat tag index root link)) s e
    (both (open_by tag index (link_number w.layout root) (z.deal seat)) (link == s + 1 && (w.mem Clock == era && under v.status root)) x
    (both (link == s + 1) (w.mem Clock == era && under v.status root) l (both (w.mem Clock == era) (under v.status root) c y)))
helped_move w i k m s v z why (AnswerAsked era seat tag index root link) d b a t q r e h u =
    let p = rest_of (seat == k) (link == s + 1 && opened_by tag index (link_number w.layout root) (z.deal k)) h in
    let l = first_of (link == s + 1) (opened_by tag index (link_number w.layout root) (z.deal k)) p in
    let o = rest_of (link == s + 1) (opened_by tag index (link_number w.layout root) (z.deal k)) p in
    let j = (eras_of w m why (Move (AnswerAsked era seat tag index root link)) a e).asked.there in
    let x = of_seat w k seat z tag index root (first_of (seat == k) (link == s + 1 && opened_by tag index (link_number w.layout root) (z.deal k)) h) o in
    let y = helps_root w k v z tag index root d b t q j o u in
    r.loaded m why (Move (AnswerAsked era seat tag index root link)) s e
    (both (open_by tag index (link_number w.layout root) (z.deal seat)) (link == s + 1 && under v.status root) x (both (link == s + 1) (under v.status root) l y))
helped_move w i k m s v z why at d b a t q r e h u = absurd (cc)

helped_left : (w : World) (i k m s : ℕ) (v : View) (z : Asked) (phase : Phase) → is_valid w.layout ≡ true → Seats w → Eras w → Slots w → Requests w z → RowsLeft w i v z.deal → (w.seat m).phase ≡ phase → helps_in w.layout (w.mem Clock) k phase (z.deal k) (s + 1) ≡ true → under v.status (root_in w k) ≡ true → IsLeft w i s
helped_left w i k m s v z Idle d b a t q r e h u = absurd (cc)
helped_left w i k m s v z (Runs why (Begin at)) d b a t q r e h u = absurd (cc)
helped_left w i k m s v z (Runs why (Protect aim index root steps at)) d b a t q r e h u = absurd (cc)
helped_left w i k m s v z (Runs why (Reload parent index slot era steps)) d b a t q r e h u = absurd (cc)
helped_left w i k m s v z (Runs why (Clear rows index)) d b a t q r e h u = absurd (cc)
helped_left w i k m s v z (Runs why Finish) d b a t q r e h u = absurd (cc)
helped_left w i k m s v z (Runs why (Release index)) d b a t q r e h u = absurd (cc)
helped_left w i k m s v z (Runs why (Allocate at)) d b a t q r e h u = absurd (cc)
helped_left w i k m s v z (Runs why (Write slot row place)) d b a t q r e h u = absurd (cc)
helped_left w i k m s v z (Runs why (GiveUp slot)) d b a t q r e h u = absurd (cc)
helped_left w i k m s v z (Runs why (Retire at)) d b a t q r e h u = absurd (cc)
helped_left w i k m s v z (Runs why (Move at)) d b a t q r e h u = helped_move w i k m s v z why at d b a t q r e h u
helped_left w i k m s v z (Scans later at) d b a t q r e h u = absurd (cc)
helped_left w i k m s v z (Works work) d b a t q r e h u = absurd (cc)

-- so no step takes or frees the row of a tracked link
tracked_by : (w : World) (i k s : ℕ) (v : View) (z : Asked) (x : ℕ) → is_valid w.layout ≡ true → Seats w → Eras w → Slots w → Requests w z → RowsLeft w i v z.deal → x ≡ s + 1 → under v.status (root_in w k) ≡ true → Tracked w z k x → IsLeft w i s
tracked_by w i k s v z x d b a t q r e u (Carried c) =
    carried_phase (IsLeft w i s) w.layout (w.mem Clock) v.status z.deal (z.deal k) (w.seat k).post (w.seat k).phase s (fits_at w k z q) (subst (λ (y : ℕ). carries_in (w.mem Clock) (upper (w.seat k).post.span) (w.seat k).phase y ≡ true) e c) u
    (λ why base f g. r.tried k why base s f g) (λ why base f g. r.loaded k why base s f g) (λ h. given_left w i k s v z (z.deal k) d b t q r refl h u)
tracked_by w i k s v z x d b a t q r e u (Given h) = given_left w i k s v z (z.deal k) d b t q r refl (subst (λ (y : ℕ). has_link (z.deal k) y ≡ true) e h) u
tracked_by w i k s v z x d b a t q r e u (Helped m h) = helped_left w i k m s v z (w.seat m).phase d b a t q r refl (subst (λ (y : ℕ). helps_in w.layout (w.mem Clock) k (w.seat m).phase (z.deal k) y ≡ true) e h) u

pub tracked_left : (w : World) (i k s : ℕ) (v : View) (z : Asked) → is_valid w.layout ≡ true → Seats w → Eras w → Slots w → Requests w z → RowsLeft w i v z.deal → Tracked w z k (s + 1) → under v.status (root_in w k) ≡ true → IsLeft w i s
tracked_left w i k s v z d b a t q r h u = tracked_by w i k s v z (s + 1) d b a t q r refl u h
