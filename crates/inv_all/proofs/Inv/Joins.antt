-- Where the list of one seat goes to the end of another's, the rows of the one are the other's, and all else stays.
use Rattle.std.proofs.Common.{ℕ, ◌≡◌, ◌≤◌, ◌<◌, ◌+◌, ◌-◌, Bool, true, false, List, [], ◌∷◌, ◌++◌, refl, sym, ap, subst, ◌∙◌, arith}
use Rattle.std.proofs.lemmas.Bool.Decides.{nat_tests}
use Rattle.std.specs.Prelude.{◌==◌, nat_lt, if◌then◌else◌}
use Rattle.std.specs.List.{AllByRecursion, IsDistinct, list_any}
use Rattle.std.proofs.lemmas.List.Elements.{All-append, All-nil}
use Rattle.std.proofs.lemmas.Map.Steps.{length-le_from_distinct_below}
use Rattle.inv_ends.specs.model.words.Place.Place.{Clock, PlaceOf}
use Rattle.inv_ends.specs.model.words.declared.layout.Layout.{Layout}
use Rattle.inv_ends.specs.model.defs.declared.event.Guard.{Guard}
use Rattle.inv_ends.specs.model.defs.declared.event.Guard.TheVariants.{Helper, Index}
use Rattle.inv_ends.specs.model.defs.declared.event.Root.{Root}
use Rattle.inv_ends.specs.model.defs.declared.event.Root.TheVariants as roots
use Rattle.inv_ends.specs.model.defs.declared.lifetime.Lifetime.{Lifetime}
use Rattle.inv_ends.specs.model.defs.Shown.{keeps}
use Rattle.inv_ends.specs.model.declared.post.Post.{Post}
use Rattle.inv_ends.specs.model.CallReady.{slots_of}
use Rattle.inv_ends.specs.model.Calls.{CallTurn, Dequeues, Enqueues, FollowsHead, Gets, Changes, Holds, Opens, Phase, Task, Why, goes_on}
use Rattle.inv_ends.specs.model.Calls.Phase.{Idle, Runs, Scans, Works}
use Rattle.inv_ends.specs.model.Desks.{Desk, Report, no_notes}
use Rattle.inv_ends.specs.model.Links.{root_at}
use Rattle.inv_ends.specs.model.Guards.{guards, own_guard}
use Rattle.inv_ends.specs.model.Locals.{Local, busy_in}
use Rattle.inv_ends.specs.model.Phases.{Base, MoveAt, ProtectAt}
use Rattle.inv_ends.specs.model.Phases.Base.{Begin, Move, Protect, Reload}
use Rattle.inv_ends.specs.model.Phases.MoveAt.{AnswerAsked, CheckEra, LoadEra}
use Rattle.inv_ends.specs.model.Phases.ProtectAt.{AnswerOwn, CheckClock, CheckOwnClock, CheckUpper, LoadClock, WithdrawHelper, WithdrawRequest}
use Rattle.inv_ends.specs.model.Posts.{upper}
use Rattle.inv_ends.specs.model.World.{World, is_busy, list_in}
use Rattle.inv_ends.proofs.model.Facts.{number_is, or_more, same_number}
use Rattle.inv_ends.proofs.model.Lists.{slots_length}
use Rattle.inv_ends.specs.shapes.Noted.{Noted, NotedIn, more, size}
use Rattle.inv_ends.specs.shapes.Slots.{PhaseIn, SeatSlots, Slots}
use Rattle.inv_ends.specs.requests.Standing.{Requests}
use Rattle.inv_ends.specs.requests.Views.{Deal, View as Asked}
use Rattle.inv_ends.specs.requests.Views.Deal.{Answered, Open, Passed, Quiet, Taken}
use Rattle.inv_ends.specs.rows.Agree.{Agree, Plays}
use Rattle.inv_ends.specs.rows.Chain.{queue_of}
use Rattle.inv_ends.specs.rows.Facts.{Listing, SeatShows}
use Rattle.inv_ends.specs.rows.Hands.{is_right}
use Rattle.inv_ends.specs.rows.Queue.{Line}
use Rattle.inv_ends.specs.rows.Rows.{Status, View, made, passed}
use Rattle.inv_ends.specs.rows.Rows as rows
use Rattle.inv_ends.specs.rows.Rows.RowMove.{Adopts}
use Rattle.inv_ends.specs.rows.Rows.Status.{Born, Claimed, Cut, Free, InQueue, Linked, Listed, Sealed}
use Rattle.inv_ends.specs.rows.Tries.{PhaseTries, TaskTries, Whole, WhyTries}
use Rattle.inv_ends.proofs.rows.Facts.{rows_show}
use Rattle.inv_ends.proofs.rows.Fits.{Calm, calm_made, passed_queue}
use Rattle.inv_ends.proofs.rows.Kept.{list_here}
use Rattle.inv_ends.proofs.rows.Lists.{in_list_joined, once_joined}
use Rattle.inv_ends.proofs.rows.Made.{adopts_good, passed_linked, passed_settled}
use Rattle.inv_ends.proofs.rows.Phases.{gift_apart}
use Rattle.inv_ends.proofs.rows.Went.{went_same}
use Rattle.inv_ends.proofs.rows.Words.{words_adopts}
use Rattle.inv_ends.specs.covers.Covers.{Covers, Scanning, has_met, is_unmet, life_of, number_of, retired_at, shown}
use Rattle.inv_ends.specs.covers.Held.{Held, tries_base, tries_protect, under}
use Rattle.inv_ends.specs.covers.Held as held
use Rattle.inv_ends.proofs.covers.Rows.{listed_other}
use Rattle.inv_ends.specs.Helped.{Helped, answered_from, helper_holds, move_holds, passed_to, turn_holds}
use Rattle.inv_all.specs.Contents.Contents.{Contents}
use Rattle.inv_all.specs.Contents.Items.{Items}
use Rattle.inv_ends.specs.Links.{Links, links_to}
use Rattle.inv_ends.specs.Tracked.{Tracked, root_in}
use Rattle.inv_ends.specs.Tracked as tracked
use Rattle.inv_all.specs.Rounds.{Rounds}
use Rattle.inv_all.specs.Joins.{InvJoins, JoinsFit, ListingAdds, joined, joined_desk}
use Rattle.inv_all.specs.Known.{Known}

-- the lists that are the seats' own afterwards
joined_from : (w : World) (from to : ℕ) → list_in (joined w from to) from ≡ []
joined_from w from to = by_word (nat_lt 1 (w.mem (PlaceOf from))) (from == from) (same_number from)
  where
    by_word : (x y : Bool) → y ≡ true → (if x then [] else (if y then [] else (if from == to then (w.seat from).desk.list ++ (w.seat from).desk.list else (w.seat from).desk.list))) ≡ []
    by_word true y e = refl
    by_word false y e = rw e refl

joined_to : (w : World) (from to : ℕ) → (from == to) ≡ false → w.mem (PlaceOf to) ≡ 0 → list_in (joined w from to) to ≡ (w.seat to).desk.list ++ (w.seat from).desk.list
joined_to w from to o t = let e : (to == from) ≡ false = grind (arith, nat_tests, o) in rw (t, e, same_number to) refl

joined_other : (w : World) (from to k : ℕ) → (k == from) ≡ false → (k == to) ≡ false → list_in (joined w from to) k ≡ list_in w k
joined_other w from to k e f = rw (e, f) refl

-- rows and seats agree
idle_right : (phase : Phase) (list : List Lifetime) → busy_in phase ≡ false → is_right phase list ≡ true
idle_right Idle list h = refl
idle_right (Runs why base) list h = cc
idle_right (Scans later at) list h = cc
idle_right (Works work) list h = cc

adopted_from : (i from : ℕ) (v : View) (s b r : ℕ) → (made i v (Adopts from)).lists from s b r ≡ false
adopted_from i from v s b r = rw (same_number from) refl

adopted_to : (i from : ℕ) (v : View) (s b r : ℕ) → (from == i) ≡ false → (made i v (Adopts from)).lists i s b r ≡ rows.joined (v.lists i) (v.lists from) s b r
adopted_to i from v s b r o = grind (arith, nat_tests, o)

adopted_other : (i from k : ℕ) (v : View) (s b r : ℕ) → (k == from) ≡ false → (k == i) ≡ false → (made i v (Adopts from)).lists k s b r ≡ v.lists k s b r
adopted_other i from k v s b r e f = rw (e, f) refl

plays_joined : (w : World) (from to k : ℕ) (v : View) → is_busy w from ≡ false → is_busy w to ≡ false → (from == to) ≡ false → w.mem (PlaceOf from) ≡ 0 → w.mem (PlaceOf to) ≡ 0 → Agree w v → Plays k (w.seat k).phase (list_in (joined w from to) k) (made to v (Adopts from))
plays_joined w from to k v b c o f t a = by_from (k == from) refl
  where
    own : Plays to (w.seat to).phase (w.seat to).desk.list v
    own = subst (λ (l : List Lifetime). Plays to (w.seat to).phase l v) (list_here (w.mem (PlaceOf to)) (w.seat to).desk.list t) (a.plays to)

    gift : Plays from (w.seat from).phase (w.seat from).desk.list v
    gift = subst (λ (l : List Lifetime). Plays from (w.seat from).phase l v) (list_here (w.mem (PlaceOf from)) (w.seat from).desk.list f) (a.plays from)

    at_from : Plays from (w.seat from).phase [] (made to v (Adopts from))
    at_from = record { hand = gift.hand; lists = λ s b r. adopted_from to from v s b r; once = refl; right = idle_right (w.seat from).phase [] b }

    at_to : Plays to (w.seat to).phase ((w.seat to).desk.list ++ (w.seat from).desk.list) (made to v (Adopts from))
    at_to = record {
      hand = own.hand;
      lists = λ s b r. adopted_to to from v s b r o ∙ (rw (own.lists s b r, gift.lists s b r) (sym (in_list_joined (w.seat to).desk.list (w.seat from).desk.list s b r)));
      once = once_joined (w.seat to).desk.list (w.seat from).desk.list (gift_apart w.layout.config.slots to v (w.seat to).phase (w.seat to).desk.list (w.seat from).desk.list from a.good own gift.lists o) own.once gift.once;
      right = idle_right (w.seat to).phase ((w.seat to).desk.list ++ (w.seat from).desk.list) c;
    }

    by_to : (x : Bool) → (k == to) ≡ x → (k == from) ≡ false → Plays k (w.seat k).phase (list_in (joined w from to) k) (made to v (Adopts from))
    by_to true e h =
        let q : to ≡ k = sym (number_is k to e) in
        subst (λ (j : ℕ). Plays j (w.seat j).phase (list_in (joined w from to) j) (made to v (Adopts from))) q (subst (λ (l : List Lifetime). Plays to (w.seat to).phase l (made to v (Adopts from))) (sym (joined_to w from to o t)) at_to)
    by_to false e h =
        let p : Plays k (w.seat k).phase (list_in w k) v = a.plays k in
        subst (λ (l : List Lifetime). Plays k (w.seat k).phase l (made to v (Adopts from))) (sym (joined_other w from to k h e)) (record { hand = p.hand; lists = λ s b r. adopted_other to from k v s b r h e ∙ p.lists s b r; once = p.once; right = p.right })

    by_from : (x : Bool) → (k == from) ≡ x → Plays k (w.seat k).phase (list_in (joined w from to) k) (made to v (Adopts from))
    by_from true e =
        let q : from ≡ k = sym (number_is k from e) in
        subst (λ (j : ℕ). Plays j (w.seat j).phase (list_in (joined w from to) j) (made to v (Adopts from))) q (subst (λ (l : List Lifetime). Plays from (w.seat from).phase l (made to v (Adopts from))) (sym (joined_from w from to)) at_from)
    by_from false e = by_to (k == to) refl e

agree_joined : (w : World) (from to : ℕ) (v : View) → is_busy w from ≡ false → is_busy w to ≡ false → (from == to) ≡ false → w.mem (PlaceOf from) ≡ 0 → w.mem (PlaceOf to) ≡ 0 → Agree w v → Agree (joined w from to) (made to v (Adopts from))
agree_joined w from to v b c o f t a = record {
  good = adopts_good w.layout.config.slots v to from a.good o;
  words = words_adopts w.layout.config.slots w.mem v to from a.words;
  plays = λ k. plays_joined w from to k v b c o f t a;
  numbers = a.numbers;
  present = a.present;
}

-- the queue
task_tries : (task : Task) (base : Base) (clock upto : ℕ) (q p : ℕ → Bool) (l : Line) (head : ℕ) → ((s : ℕ) → p s ≡ true → q s ≡ true) → TaskTries task clock upto base q l head → TaskTries task clock upto base p l head
task_tries (Gets key) base clock upto q p l head f t = tt
task_tries (Changes kept) base clock upto q p l head f t = tt
task_tries (Holds key) base clock upto q p l head f t = tt
task_tries (Enqueues kept) base clock upto q p l head f t = record { right = t.right; tried = t.tried }
task_tries Dequeues base clock upto q p l head f t = record {
  right = t.right;
  tried = λ s u. record { lined = (t.tried s u).lined; first = λ e. (t.tried s u).first (f s e) };
}

why_tries : (why : Why) (base : Base) (clock upto : ℕ) (q p : ℕ → Bool) (l : Line) (head : ℕ) → ((s : ℕ) → p s ≡ true → q s ≡ true) → WhyTries why clock upto base q l head → WhyTries why clock upto base p l head
why_tries (Opens task) base clock upto q p l head f t = task_tries task base clock upto q p l head f t
why_tries (FollowsHead parent last) base clock upto q p l head f t = tt
why_tries why base clock upto q p l head f t = tt

phase_tries : (phase : Phase) (clock upto : ℕ) (q p : ℕ → Bool) (l : Line) (head : ℕ) → ((s : ℕ) → p s ≡ true → q s ≡ true) → PhaseTries phase clock upto q l head → PhaseTries phase clock upto p l head
phase_tries Idle clock upto q p l head f t = tt
phase_tries (Runs why base) clock upto q p l head f t = why_tries why base clock upto q p l head f t
phase_tries (Scans later at) clock upto q p l head f t = tt
phase_tries (Works work) clock upto q p l head f t = tt

queued : (from to : ℕ) (v : View) (s : ℕ) → queue_of (made to v (Adopts from)) s ≡ true → queue_of v s ≡ true
queued from to v s e = sym (passed_queue from to (v.status s)) ∙ e

whole_joined : (w : World) (from to : ℕ) (v : View) (l : Line) → is_busy w from ≡ false → is_busy w to ≡ false → (from == to) ≡ false → w.mem (PlaceOf from) ≡ 0 → w.mem (PlaceOf to) ≡ 0 → Whole w v l → Whole (joined w from to) (made to v (Adopts from)) l
whole_joined w from to v l b c o f t a =
    let at : ℕ → CallTurn = λ k. goes_on (w.seat k).post (w.seat k).desk [] (w.seat k).phase in
    let calm : Calm v (made to v (Adopts from)) = calm_made to v (Adopts from) tt refl in
    let went = λ (k : ℕ). went_same to v (made to v (Adopts from)) l w.mem w.mem (at k) calm (λ s. refl) refl a.both.queue.line (a.both.queue.walks k) in
    record {
      both = record {
        rows = agree_joined w from to v b c o f t a.both.rows;
        queue = record { line = (went 0).line; walks = λ k. (went k).own };
      };
      tries = λ k. phase_tries (w.seat k).phase (w.mem Clock) (upper (w.seat k).post.span) (queue_of v) (queue_of (made to v (Adopts from))) l v.head (λ s e. queued from to v s e) (a.tries k);
    }

-- what guards cover
retired : (from to : ℕ) (status : Status) → retired_at (passed from to status) ≡ retired_at status
retired from to Free = refl
retired from to (Claimed by) = refl
retired from to (Born by) = refl
retired from to (Linked bucket) = refl
retired from to InQueue = refl
retired from to (Cut by) = refl
retired from to (Sealed by retire) = refl
retired from to (Listed by retire) = refl

idle_met : (all : ℕ) (phase : Phase) (report : Report) (number : ℕ) (life : Lifetime) → busy_in phase ≡ false → has_met all phase report number life ≡ true
idle_met all Idle report number life h = grind (arith, nat_tests)
idle_met all (Runs why base) report number life h = cc
idle_met all (Scans later at) report number life h = cc
idle_met all (Works work) report number life h = cc

covers_joined : (w : World) (from to : ℕ) (v : View) (guard : Guard) (slot : ℕ) → is_busy w to ≡ false → Covers w v guard slot → Covers (joined w from to) (made to v (Adopts from)) guard slot
covers_joined w from to v guard slot b c = record {
  settled = passed_settled from to (v.status slot) ∙ c.settled;
  kept = subst (λ (r : ℕ). keeps (life_of slot (v.birth slot) r) (shown w guard) ≡ true) (sym (retired from to (v.status slot))) c.kept;
  scans = λ k r e. by_seat k r e (k == to) refl;
}
  where
    by_seat : (k r : ℕ) → passed from to (v.status slot) ≡ Listed k r → (x : Bool) → (k == to) ≡ x
        → has_met (guards w.layout.config) (w.seat k).phase (w.seat k).desk.report (number_of w.layout.config guard) (life_of slot (v.birth slot) r) ≡ true
    by_seat k r e true h =
        let idle : is_busy w k ≡ false = subst (λ (j : ℕ). is_busy w j ≡ false) (sym (number_is k to h)) b in
        idle_met (guards w.layout.config) (w.seat k).phase (w.seat k).desk.report (number_of w.layout.config guard) (life_of slot (v.birth slot) r) idle
    by_seat k r e false h = c.scans k r (listed_other to k r v (Adopts from) slot h e)

holds_joined : (w : World) (from to : ℕ) (v : View) (guard : Guard) (slot : ℕ) → is_busy w to ≡ false → held.Holds w v guard slot → held.Holds (joined w from to) (made to v (Adopts from)) guard slot
holds_joined w from to v guard slot b h = record { fits = h.fits; covers = covers_joined w from to v guard slot b h.covers }

-- what is said of a link says of its root's row only whether it is in the queue
under_same : (from to : ℕ) (status : ℕ → Status) (root : Root) → under (λ s. passed from to (status s)) root ≡ under status root
under_same from to status (roots.Bucket bucket) = refl
under_same from to status roots.Head = refl
under_same from to status roots.Tail = refl
under_same from to status (roots.Next parent) = passed_queue from to (status parent)

protect_same : (from to clock : ℕ) (status : ℕ → Status) (post : Post) (root : Root) (at : ProtectAt) (s : ℕ) → tries_protect clock (λ x. passed from to (status x)) post root at s ≡ tries_protect clock status post root at s
protect_same from to clock status post root (LoadClock tries) s = refl
protect_same from to clock status post root (CheckClock era tries link) s = rw (under_same from to status root) refl
protect_same from to clock status post root (WithdrawRequest link era) s = rw (under_same from to status root) refl
protect_same from to clock status post root (WithdrawHelper link era) s = rw (under_same from to status root) refl
protect_same from to clock status post root (CheckUpper link) s = rw (under_same from to status root) refl
protect_same from to clock status post root at s = refl

tries_same : (from to clock : ℕ) (status : ℕ → Status) (post : Post) (base : Base) (s : ℕ) → tries_base clock (λ x. passed from to (status x)) post base s ≡ tries_base clock status post base s
tries_same from to clock status post (Begin at) s = refl
tries_same from to clock status post (Protect aim index root steps at) s = protect_same from to clock status post root at s
tries_same from to clock status post (Reload parent index slot era steps) s = rw (passed_queue from to (status parent)) refl
tries_same from to clock status post base s = refl

turn_same : (from to clock : ℕ) (status : ℕ → Status) (root : Root) (at : ProtectAt) (s : ℕ) → turn_holds clock (λ x. passed from to (status x)) root at s ≡ turn_holds clock status root at s
turn_same from to clock status root (LoadClock tries) s = refl
turn_same from to clock status root (CheckOwnClock first era last link) s = rw (under_same from to status root) refl
turn_same from to clock status root (AnswerOwn first era link) s = rw (under_same from to status root) refl
turn_same from to clock status root at s = refl

move_same : (from to : ℕ) (layout : Layout) (clock : ℕ) (status : ℕ → Status) (deal : ℕ → Deal) (at : MoveAt) (s : ℕ) → move_holds layout clock (λ x. passed from to (status x)) deal at s ≡ move_holds layout clock status deal at s
move_same from to layout clock status deal (LoadEra helps) s = refl
move_same from to layout clock status deal (CheckEra e k t j root link) s = rw (under_same from to status root) refl
move_same from to layout clock status deal (AnswerAsked e k t j root link) s = rw (under_same from to status root) refl
move_same from to layout clock status deal at s = refl

helper_same : (from to : ℕ) (layout : Layout) (clock : ℕ) (status : ℕ → Status) (deal : ℕ → Deal) (base : Base) (s : ℕ) → helper_holds layout clock (λ x. passed from to (status x)) deal base s ≡ helper_holds layout clock status deal base s
helper_same from to layout clock status deal (Begin at) s = refl
helper_same from to layout clock status deal (Protect aim index root steps at) s = turn_same from to clock status root at s
helper_same from to layout clock status deal (Move at) s = move_same from to layout clock status deal at s
helper_same from to layout clock status deal base s = refl

answered_same : (from to : ℕ) (layout : Layout) (status : ℕ → Status) (by : ℕ) (deal : Deal) (s : ℕ) → answered_from layout (λ x. passed from to (status x)) by deal s ≡ answered_from layout status by deal s
answered_same from to layout status by Quiet s = refl
answered_same from to layout status by (Open t j w) s = refl
answered_same from to layout status by (Answered t j w l e m) s = rw (under_same from to status (root_at layout w)) refl
answered_same from to layout status by (Passed t j w l e) s = refl
answered_same from to layout status by (Taken t j w l e) s = refl

passed_same : (from to : ℕ) (layout : Layout) (status : ℕ → Status) (index : ℕ) (deal : Deal) (s : ℕ) → passed_to layout (λ x. passed from to (status x)) index deal s ≡ passed_to layout status index deal s
passed_same from to layout status index Quiet s = refl
passed_same from to layout status index (Open t j w) s = refl
passed_same from to layout status index (Answered t j w l e m) s = refl
passed_same from to layout status index (Passed t j w l e) s = rw (under_same from to status (root_at layout w)) refl
passed_same from to layout status index (Taken t j w l e) s = refl

held_joined : (w : World) (from to : ℕ) (v : View) → is_busy w to ≡ false → Held w v → Held (joined w from to) (made to v (Adopts from))
held_joined w from to v b h = record {
  stood = λ k j s e. holds_joined w from to v (own_guard w.layout.config.scheme k j) s b (h.stood k j s e);
  tried = λ k why base s e t. holds_joined w from to v (own_guard w.layout.config.scheme k (held.index_base base)) s b (h.tried k why base s e (sym (tries_same from to (w.mem Clock) v.status (w.seat k).post base s) ∙ t));
}

helped_joined : (w : World) (from to : ℕ) (v : View) (deal : ℕ → Deal) → is_busy w to ≡ false → Helped w v deal → Helped (joined w from to) (made to v (Adopts from)) deal
helped_joined w from to v deal b h = record {
  loaded = λ k why base s e t. holds_joined w from to v (Helper k) s b (h.loaded k why base s e (sym (helper_same from to w.layout (w.mem Clock) v.status deal base s) ∙ t));
  answered = λ k by s t. holds_joined w from to v (Helper by) s b (h.answered k by s (sym (answered_same from to w.layout v.status by (deal k) s) ∙ t));
  passed = λ k index s t. holds_joined w from to v (Index k index) s b (h.passed k index s (sym (passed_same from to w.layout v.status index (deal k) s) ∙ t));
}

-- links that are tracked
tracked_before : (w : World) (from to : ℕ) (z : Asked) (k link : ℕ) → Tracked (joined w from to) z k link → Tracked w z k link
tracked_before w from to z k link (tracked.Carried c) = tracked.Carried c
tracked_before w from to z k link (tracked.Given c) = tracked.Given c
tracked_before w from to z k link (tracked.Helped m c) = tracked.Helped m c

links_same : (w : World) (from to : ℕ) (v : View) (l : Line) (root : Root) (x : ℕ) → links_to w.book w.mem (made to v (Adopts from)) l root x ≡ links_to w.book w.mem v l root x
links_same w from to v l (roots.Bucket bucket) x = refl
links_same w from to v l roots.Head x = rw (passed_queue from to (v.status (x - 1))) refl
links_same w from to v l roots.Tail x = refl
links_same w from to v l (roots.Next parent) x = refl

links_joined : (w : World) (from to : ℕ) (v : View) (l : Line) (z : Asked) → Links w v l z → Links (joined w from to) (made to v (Adopts from)) l z
links_joined w from to v l z a = record { tracked = λ k link t. links_same w from to v l (root_in w k) link ∙ a.tracked k link (tracked_before w from to z k link t) }

rounds_joined : (w : World) (from to : ℕ) (l : Line) (z : Asked) → Rounds w l z → Rounds (joined w from to) l z
rounds_joined w from to l z a = record {
  paced = a.paced;
  links = record { tracked = λ k link t. a.links.tracked k link (tracked_before w from to z k link t) };
}

-- what rows show
contents_joined : (w : World) (from to : ℕ) (v : View) → Contents w v → Contents (joined w from to) (made to v (Adopts from))
contents_joined w from to v a =
    let r = a.rows in
    record {
      rows = record {
        shows = λ s b h. r.shows s b (sym (passed_settled from to (v.status s)) ∙ h);
        within = λ s b h. r.within s b (sym (passed_settled from to (v.status s)) ∙ h);
        root = λ s b h. r.root s b (passed_linked from to b (v.status s) h);
        latest = λ s b h. r.latest s b (passed_linked from to b (v.status s) h);
        items = λ s parent h. r.items s parent (sym (passed_settled from to (v.status s)) ∙ h);
        queued = λ s parent h. r.queued s parent (sym (passed_settled from to (v.status s)) ∙ h);
        empty = r.empty;
      };
      seats = a.seats;
      kept = a.kept;
    }

items_joined : (w : World) (from to : ℕ) (v : View) (l : Line) → Items w v l → Items (joined w from to) (made to v (Adopts from)) l
items_joined w from to v l a =
    let r = a.rows in
    record {
      rows = record { numbers = r.numbers; values = r.values; within = r.within; last = λ s e. r.last s (queued from to v s e); first = r.first; room = r.room };
      seats = a.seats;
    }

-- desks
other_desk : (gift : List Lifetime) (from to k : ℕ) (desk : Desk) → (k == from) ≡ false → (k == to) ≡ false → joined_desk gift from to k desk ≡ desk
other_desk gift from to k desk e f = rw (e, f) refl

idle_in : (layout : Layout) (desk : Desk) (phase : Phase) → busy_in phase ≡ false → PhaseIn layout desk phase
idle_in layout desk Idle h = tt
idle_in layout desk (Runs why base) h = cc
idle_in layout desk (Scans later at) h = cc
idle_in layout desk (Works work) h = cc

idle_unmet : (desk : Desk) (phase : Phase) → busy_in phase ≡ false → is_unmet phase desk ≡ true
idle_unmet desk Idle h = refl
idle_unmet desk (Runs why base) h = cc
idle_unmet desk (Scans later at) h = cc
idle_unmet desk (Works work) h = cc

idle_noted : (slots : ℕ) (desk : Desk) (phase : Phase) (l : Local) → busy_in phase ≡ false → size desk ≤ slots + 2 → NotedIn slots (record l { phase = phase; desk = desk })
idle_noted slots desk Idle l h f = record { few = omega arith; none = λ e. cc }
idle_noted slots desk (Runs why base) l h f = cc
idle_noted slots desk (Scans later at) l h f = cc
idle_noted slots desk (Works work) l h f = cc

-- of a seat afterwards, by which of the two it is, if one
by_desk : (P : ℕ → Desk → Type 0) (w : World) (from to k : ℕ) → (from == to) ≡ false
    → P from (record (w.seat from).desk { list = [] })
    → P to (record (w.seat to).desk { list = (w.seat to).desk.list ++ (w.seat from).desk.list; notes = no_notes })
    → ((k == from) ≡ false → (k == to) ≡ false → P k (w.seat k).desk)
    → P k (joined_desk (w.seat from).desk.list from to k (w.seat k).desk)
by_desk P w from to k o f t g = by_from (k == from) refl
  where
    at_from : joined_desk (w.seat from).desk.list from to from (w.seat from).desk ≡ record (w.seat from).desk { list = [] }
    at_from = rw (same_number from, o) refl

    at_to : joined_desk (w.seat from).desk.list from to to (w.seat to).desk ≡ record (w.seat to).desk { list = (w.seat to).desk.list ++ (w.seat from).desk.list; notes = no_notes }
    at_to = let e : (to == from) ≡ false = grind (arith, nat_tests, o) in rw (same_number to, e) refl

    by_to : (x : Bool) → (k == to) ≡ x → (k == from) ≡ false → P k (joined_desk (w.seat from).desk.list from to k (w.seat k).desk)
    by_to true e h = subst (λ (j : ℕ). P j (joined_desk (w.seat from).desk.list from to j (w.seat j).desk)) (sym (number_is k to e)) (subst (λ (d : Desk). P to d) (sym at_to) t)
    by_to false e h = subst (λ (d : Desk). P k d) (sym (other_desk (w.seat from).desk.list from to k (w.seat k).desk h e)) (g h e)

    by_from : (x : Bool) → (k == from) ≡ x → P k (joined_desk (w.seat from).desk.list from to k (w.seat k).desk)
    by_from true e = subst (λ (j : ℕ). P j (joined_desk (w.seat from).desk.list from to j (w.seat j).desk)) (sym (number_is k from e)) (subst (λ (d : Desk). P from d) (sym at_from) f)
    by_from false e = by_to (k == to) refl e

slots_joined : (w : World) (from to : ℕ) → is_busy w from ≡ false → is_busy w to ≡ false → (from == to) ≡ false → Slots w → Slots (joined w from to)
slots_joined w from to b c o a =
    let slots : ℕ = w.layout.config.slots in
    record {
      words = a.words;
      seats = λ k. by_desk (λ j d. SeatSlots w.layout (record (w.seat j) { desk = d })) w from to k o
          (record { post = (a.seats from).post; list = All-nil (λ (life : Lifetime). life.slot ≤ slots); phase = idle_in w.layout (record (w.seat from).desk { list = [] }) (w.seat from).phase b })
          (record {
            post = (a.seats to).post;
            list = All-append (λ (life : Lifetime). life.slot ≤ slots) (w.seat to).desk.list (w.seat from).desk.list (a.seats to).list (a.seats from).list;
            phase = idle_in w.layout (record (w.seat to).desk { list = (w.seat to).desk.list ++ (w.seat from).desk.list; notes = no_notes }) (w.seat to).phase c;
          })
          (λ e f. a.seats k);
    }

scans_joined : (w : World) (from to : ℕ) → is_busy w from ≡ false → is_busy w to ≡ false → (from == to) ≡ false → Scanning w → Scanning (joined w from to)
scans_joined w from to b c o a = record {
  unmet = λ k. by_desk (λ j d. is_unmet (w.seat j).phase d ≡ true) w from to k o
      (idle_unmet (record (w.seat from).desk { list = [] }) (w.seat from).phase b)
      (idle_unmet (record (w.seat to).desk { list = (w.seat to).desk.list ++ (w.seat from).desk.list; notes = no_notes }) (w.seat to).phase c)
      (λ e f. a.unmet k);
}

-- the lists together, as the rows say it afterwards
listing_joined : (w : World) (from to : ℕ) (v : View) → (from == to) ≡ false → w.mem (PlaceOf to) ≡ 0 → Agree (joined w from to) v → Listing w.layout.config.slots ((w.seat to).desk.list ++ (w.seat from).desk.list)
listing_joined w from to v o t a =
    let slots : ℕ = w.layout.config.slots in
    let list : List Lifetime = (w.seat to).desk.list ++ (w.seat from).desk.list in
    let e : list_in (joined w from to) to ≡ list = joined_to w from to o t in
    let s : SeatShows (joined w from to) to = rows_show (joined w from to) v to a in
    let apart : IsDistinct ◌==◌ (slots_of list) = subst (λ (l : List Lifetime). IsDistinct ◌==◌ (slots_of l)) e s.apart in
    let below : (slot : ℕ) → list_any (◌==◌ slot) (slots_of list) ≡ true → slot < slots + 1 = subst (λ (l : List Lifetime). (slot : ℕ) → list_any (◌==◌ slot) (slots_of l) ≡ true → slot < slots + 1) e s.below in
    record { apart = apart; below = below; short = rw (← slots_length list) (length-le_from_distinct_below (slots_of list) (slots + 1) apart below) }

few_of : (a b s : ℕ) → a ≤ s + 1 + b → b ≤ 1 → a ≤ s + 2
few_of a b s h k = omega (arith, h, k)

idle_more : (phase : Phase) → busy_in phase ≡ false → more phase ≤ 1
idle_more Idle h = omega arith
idle_more (Runs why base) h = cc
idle_more (Scans later at) h = cc
idle_more (Works work) h = cc

noted_joined : (w : World) (from to : ℕ) → is_busy w from ≡ false → is_busy w to ≡ false → (from == to) ≡ false → Listing w.layout.config.slots ((w.seat to).desk.list ++ (w.seat from).desk.list) → Noted w → Noted (joined w from to)
noted_joined w from to b c o h a =
    let slots : ℕ = w.layout.config.slots in
    let one : more (w.seat from).phase ≤ 1 = idle_more (w.seat from).phase b in
    let old : size (w.seat from).desk ≤ slots + 1 + more (w.seat from).phase = (a.seats from).few in
    record {
      seats = λ k. by_desk (λ j d. NotedIn slots (record (w.seat j) { desk = d })) w from to k o
          (idle_noted slots (record (w.seat from).desk { list = [] }) (w.seat from).phase (w.seat from) b (let f = few_of (size (w.seat from).desk) (more (w.seat from).phase) slots old one in omega (arith, f)))
          (idle_noted slots (record (w.seat to).desk { list = (w.seat to).desk.list ++ (w.seat from).desk.list; notes = no_notes }) (w.seat to).phase (w.seat to) c (let f = h.short in omega (arith, f)))
          (λ e f. a.seats k);
    }

requests_joined : (w : World) (from to : ℕ) (z : Asked) → Requests w z → Requests (joined w from to) z
requests_joined w from to z a = record { words = a.words; locals = record { tags = a.locals.tags; roles = a.locals.roles; there = a.locals.there }; parts = a.parts }

known_joined : (w : World) (from to : ℕ) (v : View) (l : Line) (z : Asked) → is_busy w from ≡ false → is_busy w to ≡ false → (from == to) ≡ false → w.mem (PlaceOf from) ≡ 0 → w.mem (PlaceOf to) ≡ 0 → Known w v l z → Known (joined w from to) (made to v (Adopts from)) l z
known_joined w from to v l z b c o f t k =
    let whole : Whole (joined w from to) (made to v (Adopts from)) l = whole_joined w from to v l b c o f t k.whole in
    record {
      valid = k.valid;
      seats = record { fits = λ j. record { post = (k.seats.fits j).post; phase = (k.seats.fits j).phase } };
      eras = record { some = k.eras.some; most = k.eras.most; words = k.eras.words; seats = λ j. record { post = (k.eras.seats j).post; phase = (k.eras.seats j).phase } };
      slots = slots_joined w from to b c o k.slots;
      noted = noted_joined w from to b c o (listing_joined w from to (made to v (Adopts from)) o t whole.both.rows) k.noted;
      paces = record { paced = k.paces.paced };
      parents = record { stand = k.parents.stand };
      hazards = record { shows = k.hazards.shows };
      requests = requests_joined w from to z k.requests;
      whole = whole;
      scans = scans_joined w from to b c o k.scans;
      rests = record { vacant = k.rests.vacant };
      held = held_joined w from to v c k.held;
      helped = λ h. helped_joined w from to v z.deal c (k.helped h);
      links = links_joined w from to v l z k.links;
      contents = contents_joined w from to v k.contents;
      bounded = record { versions = k.bounded.versions; pairs = k.bounded.pairs };
      stands = record { stood = k.stands.stood };
      items = items_joined w from to v l k.items;
      losses = record { few = k.losses.few; spans = k.losses.spans };
      rounds = rounds_joined w from to l z k.rounds;
    }

pub inv_joins : InvJoins
inv_joins w from to b c o f t a = record { rows = made to a.rows (Adopts from); line = a.line; asked = a.asked; known = known_joined w from to a.rows a.line a.asked b c o f t a.known }

-- of each life of a list in which no row is twice
slots_joined_at : (xs ys : List Lifetime) → slots_of (xs ++ ys) ≡ slots_of xs ++ slots_of ys
slots_joined_at [] ys = refl
slots_joined_at (x ∷ xs) ys = ap (λ (l : List ℕ). x.slot ∷ l) (slots_joined_at xs ys)

turned : (a b : ℕ) → (a == b) ≡ (b == a)
turned a b = grind (arith, nat_tests)

apart_from : (x y : ℕ) (xs ys : List ℕ) → AllByRecursion (λ z. (x == z) ≡ false) (xs ++ y ∷ ys) → (x == y) ≡ false
apart_from x y [] ys h = h.0
apart_from x y (z ∷ xs) ys h = apart_from x y xs ys h.1

apart_before : (xs ys : List ℕ) (y : ℕ) → IsDistinct ◌==◌ (xs ++ y ∷ ys) → list_any (◌==◌ y) xs ≡ false
unfolding IsDistinct
apart_before [] ys y d = refl
apart_before (x ∷ xs) ys y d = let e : (y == x) ≡ false = turned y x ∙ apart_from x y xs ys d.0 in rw (e, apart_before xs ys y d.1) refl

there_after : (xs ys : List ℕ) (y : ℕ) → list_any (◌==◌ y) (xs ++ y ∷ ys) ≡ true
there_after [] ys y = rw (same_number y) refl
there_after (x ∷ xs) ys y = or_more (y == x) (list_any (◌==◌ y) (xs ++ y ∷ ys)) (there_after xs ys y)

pub listing_adds : ListingAdds
listing_adds slots before more life h =
    let e : slots_of (before ++ life ∷ more) ≡ slots_of before ++ life.slot ∷ slots_of more = slots_joined_at before (life ∷ more) in
    let b = h.below life.slot (subst (λ (l : List ℕ). list_any (◌==◌ life.slot) l ≡ true) (sym e) (there_after (slots_of before) (slots_of more) life.slot)) in
    record { slot = omega (arith, b); apart = apart_before (slots_of before) (slots_of more) life.slot (subst (λ (l : List ℕ). IsDistinct ◌==◌ l) e h.apart) }

pub joins_fit : JoinsFit
joins_fit w from to b c o f t a = listing_joined w from to (made to a.rows (Adopts from)) o t (known_joined w from to a.rows a.line a.asked b c o f t a.known).whole.both.rows
