-- No row of the queue on which a call stands, which it found at the head or at the tail, is past the tail.
use Rattle.std.proofs.Common.{ℕ, ◌≡◌, ◌≤◌, ◌<◌, ◌+◌, ◌-◌, Bool, true, false, List, [], ◌∷◌, refl, sym, ap, ◌∙◌, subst, arith}
use Rattle.std.proofs.lemmas.Bool.Decides.{nat_tests}
use Rattle.std.specs.Prelude.{◌==◌, ◌&&◌, nat_le}
use Rattle.law_held.specs.inv.Known.{Known}
use Rattle.law_held.specs.inv.model.Calls.{Task, Gets, Changes, Holds, Enqueues, Dequeues, Again, Answering, Retiring, Why, Opens, FollowsHead, Fills, EnqueueKept, EnqueueAt, LoadNumber, LoadNext, PassTail, ExchangeNext, ExchangeTail, DequeueAt, LoadTail, SwingTail, TakeNumber, TakeValue, ExchangeHead, Work, Getting, Changing, Enqueuing, Dequeuing, Keeping, Phase, Idle, Runs, Scans, Works, CallTurn, CallOutcome, GoesOn, Answers}
use Rattle.law_held.specs.inv.model.Change as alters
use Rattle.law_held.specs.inv.model.Dequeue as dequeues
use Rattle.law_held.specs.inv.model.Desks.{Desk}
use Rattle.law_held.specs.inv.model.Enqueue as enqueues
use Rattle.law_held.specs.inv.model.Get as gets
use Rattle.law_held.specs.inv.model.Keep as keeps
use Rattle.law_held.specs.inv.model.Locals.{Local, begun_post}
use Rattle.law_held.specs.inv.model.Machine as machine
use Rattle.law_held.specs.inv.model.Phases.{Base, Ending, Outcome, Goes, Ends, Turn}
use Rattle.law_held.specs.inv.model.Phases.Ending.{Allocated, Followed, Protected}
use Rattle.law_held.specs.inv.model.Posts.{counted}
use Rattle.law_held.specs.inv.model.Scan as scan
use Rattle.law_held.specs.inv.model.Steps as steps
use Rattle.law_held.specs.inv.model.World.{World, begin, finds, offered, step}
use Rattle.law_held.specs.inv.model.declared.ends.AllocateEnd.TheVariants as allocate_ends
use Rattle.law_held.specs.inv.model.declared.ends.FollowEnd.TheVariants as follow_ends
use Rattle.law_held.specs.inv.model.declared.ends.ProtectEnd.TheVariants as protect_ends
use Rattle.law_held.specs.inv.model.declared.post.Post.{Post}
use Rattle.law_held.specs.inv.model.defs.declared.call.Answer.TheVariants as the_answers
use Rattle.law_held.specs.inv.model.defs.declared.call.Call.{Call}
use Rattle.law_held.specs.inv.model.defs.declared.call.ClockMove.TheVariants as moves
use Rattle.law_held.specs.inv.model.defs.declared.event.Event.{Event}
use Rattle.law_held.specs.inv.model.defs.declared.event.Event.TheVariants as events
use Rattle.law_held.specs.inv.model.defs.declared.event.Root.{Root}
use Rattle.law_held.specs.inv.model.defs.declared.event.Root.TheVariants as roots
use Rattle.law_held.specs.inv.model.words.Place.Place.{Row, Tail}
use Rattle.law_held.specs.inv.requests.Views.{View as Asked}
use Rattle.law_held.specs.inv.rows.Chain.{line_after, queue_of}
use Rattle.law_held.specs.inv.rows.Queue.{Line, Walks, stands_on, task_stands}
use Rattle.law_held.specs.inv.rows.Rows.{View}
use Rattle.law_held.specs.inv.shapes.Frame.{phase_left}
use Rattle.law_held.specs.inv.shapes.Seats.{root_by}
use Rattle.law_held.specs.inv.ends.Tracked.{root_in}
use Rattle.law_held.proofs.inv.Inv.Whole.{items_need}
use Rattle.law_held.proofs.inv.covers.Held.{stepped_phase}
use Rattle.law_held.proofs.inv.ends.Origins.Ends.{end_good, end_root}
use Rattle.law_held.proofs.inv.model.Facts.{both, first_of, le_test, rest_of}
use Rattle.law_held.proofs.inv.rows.Own.{Gives, fills_none, resumed_walks}
use Rattle.law_held.proofs.inv.rows.Queued.{first_quiet}
use Rattle.law_held.proofs.inv.rows.Quiet.{Quiet, change_quiet, clearing_next_quiet, clearing_quiet, closed_quiet, filled_quiet, get_quiet, keep_quiet, phase_of, quiet_walks, scan_quiet}
use Rattle.law_held.proofs.inv.shapes.Frame.{begin_begins, begin_stays, seat_stays}
use Rattle.law_bounds.proofs.Lags.Links.{LowLinks, Steady, link_low, root_low, still_low}

-- the rows on which a phase stands are not past the tail
abbrev pub StandsLow : Line → (tail : ℕ) → Phase → Type 0
StandsLow l tail phase = (h : ℕ) → stands_on phase h ≡ true → l.number h ≤ l.number (tail - 1)

-- so it is with each seat
abbrev pub AllLow : World → Line → Type 0
AllLow w l = (k : ℕ) → StandsLow l (w.mem Tail) (w.seat k).phase

-- a row of the queue that is not past the tail
abbrev is_low : Line → ℕ → ℕ → Bool
is_low l tail h = l.lined h && nat_le (l.number h) (l.number (tail - 1))

-- the queue's rows that are not
abbrev low_line : Line → ℕ → Line
low_line l tail = record { number = l.number; lined = is_low l tail }

abbrev LeavesLow : Line → ℕ → CallTurn → Type 0
LeavesLow l tail t = (h : ℕ) → stands_on (phase_of t.outcome) h ≡ true → is_low l tail h ≡ true

none_leaves : (l : Line) (tail : ℕ) (t : CallTurn) → Quiet t → LeavesLow l tail t
none_leaves l tail t q h e = let w = quiet_walks (phase_of t.outcome) (λ s. false) (low_line l tail) (λ s. 0) 0 0 q in w.stood h e

-- a row is taken or written
filled_low : (l : Line) (tail : ℕ) (task : Task) (ending : Ending) (post : Post) (desk : Desk) (told : List Event) → ((h : ℕ) → task_stands task h ≡ true → is_low l tail h ≡ true) → LeavesLow l tail (steps.filled task ending post desk told)
filled_low l tail (Gets key) ending post desk told f = none_leaves l tail (steps.filled (Gets key) ending post desk told) (filled_quiet (Gets key) ending post desk told refl)
filled_low l tail (Changes kept) ending post desk told f = none_leaves l tail (steps.filled (Changes kept) ending post desk told) (filled_quiet (Changes kept) ending post desk told refl)
filled_low l tail (Holds key) ending post desk told f = none_leaves l tail (steps.filled (Holds key) ending post desk told) (filled_quiet (Holds key) ending post desk told refl)
filled_low l tail Dequeues ending post desk told f = none_leaves l tail (steps.filled Dequeues ending post desk told) (filled_quiet Dequeues ending post desk told refl)
filled_low l tail (Enqueues kept) (Allocated (allocate_ends.Given slot birth)) post desk told f = λ h e. f h e
filled_low l tail (Enqueues kept) (Allocated allocate_ends.Full) post desk told f =
    none_leaves l tail (steps.filled (Enqueues kept) (Allocated allocate_ends.Full) post desk told) (clearing_quiet (Enqueues (enqueues.item_walked kept)) (alters.no_room kept.walked) post desk told)
filled_low l tail (Enqueues kept) ending post desk told f = λ h e. f h e

fills_low : (l : Line) (tail : ℕ) (task : Task) (desk : Desk) (post : Post) (told : List Event) (outcome : Outcome) → ((h : ℕ) → task_stands task h ≡ true → is_low l tail h ≡ true) → LeavesLow l tail (steps.resumed (Fills task) desk post told outcome)
fills_low l tail task desk post told (Goes base) f = λ h e. f h e
fills_low l tail task desk post told (Ends ending) f = filled_low l tail task ending post desk told f

-- the head's next link is followed
row_low : (l : Line) (tail head slot : ℕ) (post : Post) (desk : Desk) (told : List Event) (lags : Bool) → ((h : ℕ) → (head == h) ≡ true → is_low l tail h ≡ true) → LeavesLow l tail (dequeues.followed_row head slot post desk told lags)
row_low l tail head slot post desk told true f = λ h e. f h e
row_low l tail head slot post desk told false f = λ h e. f h e

followed_low : (l : Line) (tail head last : ℕ) (ending : Ending) (post : Post) (desk : Desk) (told : List Event) → ((h : ℕ) → (head == h) ≡ true → is_low l tail h ≡ true) → LeavesLow l tail (steps.followed_by head last ending post desk told)
followed_low l tail head last (Followed (follow_ends.Followed slot)) post desk told f = row_low l tail head slot post desk told (last == head + 1) f
followed_low l tail head last (Followed follow_ends.NoNext) post desk told f =
    none_leaves l tail (dequeues.followed head last follow_ends.NoNext post desk told) (clearing_next_quiet (Answering the_answers.Empty) post desk told)
followed_low l tail head last (Followed (follow_ends.RootMoved seen)) post desk told f =
    none_leaves l tail (dequeues.followed head last (follow_ends.RootMoved seen) post desk told) (clearing_next_quiet Again post desk told)
followed_low l tail head last ending post desk told f = none_leaves l tail (steps.followed_by head last ending post desk told) (closed_quiet Dequeues Again post desk told)

follows_low : (l : Line) (tail head last : ℕ) (desk : Desk) (post : Post) (told : List Event) (outcome : Outcome) → ((h : ℕ) → (head == h) ≡ true → is_low l tail h ≡ true) → LeavesLow l tail (steps.resumed (FollowsHead head last) desk post told outcome)
follows_low l tail head last desk post told (Goes base) f = λ h e. f h e
follows_low l tail head last desk post told (Ends ending) f = followed_low l tail head last ending post desk told f

-- other machines
abbrev opens_or_follows : Why → Bool
opens_or_follows (Opens task) = true
opens_or_follows (FollowsHead head tail) = true
opens_or_follows why = false

not_both : (b : Bool) → b ≡ true → b ≡ false → ⊥
not_both true e f = cc
not_both false e f = cc

none_gives : (why : Why) (outcome : Outcome) (q : ℕ → Bool) (l : Line) (next : ℕ → ℕ) (head : ℕ) → opens_or_follows why ≡ false → Gives why outcome q l next head
none_gives why outcome q l next head n = record {
  tails = λ kept slot era e o. absurd (not_both (opens_or_follows why) (ap opens_or_follows e) n);
  heads = λ slot era e o. absurd (not_both (opens_or_follows why) (ap opens_or_follows e) n);
  leads = λ slot era e o u. absurd (not_both (opens_or_follows why) (ap opens_or_follows e) n);
  loads = λ parent tail more e o. absurd (not_both (opens_or_follows why) (ap opens_or_follows e) n);
  follows = λ parent tail slot e o. absurd (not_both (opens_or_follows why) (ap opens_or_follows e) n);
}

-- what a seat's phase has found, of these rows only
low_walks : (phase : Phase) (q : ℕ → Bool) (l : Line) (next : ℕ → ℕ) (head tail : ℕ) → Walks phase q l next head tail → StandsLow l tail phase → Walks phase (λ s. false) (low_line l tail) next head tail
low_walks phase q l next head tail w f = record {
  stood = λ h e. both (l.lined h) (nat_le (l.number h) (l.number (tail - 1))) (w.stood h e) (le_test (l.number h) (l.number (tail - 1)) (f h e));
  heads = λ h e u. absurd (cc);
  follows = w.follows;
  some = w.some;
  leads = w.leads;
  blank = w.blank;
  items = w.items;
  loads = w.loads;
}

some_low : (l : Line) (tail slot : ℕ) → link_low l tail roots.Tail (slot + 1) ≡ true → nat_le (l.number slot) (l.number (tail - 1)) ≡ true
some_low l tail slot h = by (slot + 1 == 0) refl h
  where
    at : slot + 1 - 1 ≡ slot
    at = omega arith

    by : (null : Bool) → (slot + 1 == 0) ≡ null → link_low l tail roots.Tail (slot + 1) ≡ true → nat_le (l.number slot) (l.number (tail - 1)) ≡ true
    by true e h = absurd (grind (arith, nat_tests, e))
    by false e h = subst (λ (n : ℕ). nat_le (l.number n) (l.number (tail - 1)) ≡ true) at (rw e at h)

-- what is known where a machine runs
record Running (w : World) (i : ℕ) (v : View) (l : Line) (z : Asked) (why : Why) (base : Base) : Type 0 where
  known : Known w v l z
  below : i < w.layout.config.seats
  links : LowLinks w l z
  low : StandsLow l (w.mem Tail) (Runs why base)
  is : (w.seat i).phase ≡ Runs why base

held_low : (w : World) (i : ℕ) (v : View) (l : Line) (z : Asked) (task : Task) (base : Base) (slot era : ℕ) → Running w i v l z (Opens task) base → (machine.after base (counted (w.seat i).post) (finds w i)).outcome ≡ Ends (Protected (protect_ends.Held slot era)) → link_low l (w.mem Tail) (root_by w.layout.config.buckets (Opens task)) (slot + 1) ≡ true
held_low w i v l z task base slot era r o =
    subst (λ (x : Root). link_low l (w.mem Tail) x (slot + 1) ≡ true) (end_root w i (Opens task) base (Protected (protect_ends.Held slot era)) (slot + 1) r.known.seats r.is o refl)
    (end_good (λ k. link_low l (w.mem Tail)) w i z (Opens task) base (Protected (protect_ends.Held slot era)) (slot + 1) r.links (root_low w v l z (root_in w i) r.known) r.is o refl)

opens_gives : (w : World) (i : ℕ) (v : View) (l : Line) (z : Asked) (task : Task) (base : Base) (next : ℕ → ℕ) → Running w i v l z (Opens task) base → Gives (Opens task) (machine.after base (counted (w.seat i).post) (finds w i)).outcome (λ s. false) (low_line l (w.mem Tail)) next v.head
opens_gives w i v l z task base next r =
    let n = items_need w i v l z r.below r.known in
    record {
      tails = λ kept slot era e o.
          let p : (w.seat i).phase ≡ Runs (Opens (Enqueues kept)) base = r.is ∙ ap (λ (y : Why). Runs y base) e in
          let x : link_low l (w.mem Tail) (root_by w.layout.config.buckets (Opens (Enqueues kept))) (slot + 1) ≡ true = subst (λ (y : Why). link_low l (w.mem Tail) (root_by w.layout.config.buckets y) (slot + 1) ≡ true) e (held_low w i v l z task base slot era r o) in
          both (l.lined slot) (nat_le (l.number slot) (l.number (w.mem Tail - 1))) (n.queue.own.tails kept base slot era p o) (some_low l (w.mem Tail) slot x);
      heads = λ slot era e o.
          let p : (w.seat i).phase ≡ Runs (Opens Dequeues) base = r.is ∙ ap (λ (y : Why). Runs y base) e in
          let x : link_low l (w.mem Tail) (root_by w.layout.config.buckets (Opens Dequeues)) (slot + 1) ≡ true = subst (λ (y : Why). link_low l (w.mem Tail) (root_by w.layout.config.buckets y) (slot + 1) ≡ true) e (held_low w i v l z task base slot era r o) in
          both (l.lined slot) (nat_le (l.number slot) (l.number (w.mem Tail - 1))) (n.queue.own.heads base slot era p o) (some_low l (w.mem Tail) slot x);
      leads = λ slot era e o u. absurd (cc);
      loads = λ parent tail more e o. absurd (cc);
      follows = λ parent tail slot e o. absurd (cc);
    }

-- the phase of seat i, of these rows only
walks_of : (w : World) (i : ℕ) (v : View) (l : Line) (z : Asked) (why : Why) (base : Base) → Running w i v l z why base → Walks (Runs why base) (λ s. false) (low_line l (w.mem Tail)) (λ s. w.mem (Row s 0)) v.head (w.mem Tail)
walks_of w i v l z why base r = low_walks (Runs why base) (queue_of v) l (λ s. w.mem (Row s 0)) v.head (w.mem Tail) (subst (λ (x : Phase). Walks x (queue_of v) l (λ s. w.mem (Row s 0)) v.head (w.mem Tail)) r.is (r.known.whole.both.queue.walks i)) r.low

run_low : (w : World) (i : ℕ) (v : View) (l : Line) (z : Asked) (why : Why) (base : Base) (desk : Desk) → Running w i v l z why base → LeavesLow l (w.mem Tail) (steps.run_turn why desk (machine.after base (counted (w.seat i).post) (finds w i)))
run_low w i v l z (Opens task) base desk r =
    let t : Turn = machine.after base (counted (w.seat i).post) (finds w i) in
    let a = resumed_walks (Opens task) base desk t.post t.told t.outcome (λ s. false) (low_line l (w.mem Tail)) (λ s. w.mem (Row s 0)) v.head (w.mem Tail) refl (walks_of w i v l z (Opens task) base r) (opens_gives w i v l z task base (λ s. w.mem (Row s 0)) r) in
    λ h e. a.stood h e
run_low w i v l z (FollowsHead head last) base desk r =
    let t : Turn = machine.after base (counted (w.seat i).post) (finds w i) in
    let a = walks_of w i v l z (FollowsHead head last) base r in
    follows_low l (w.mem Tail) head last desk t.post t.told t.outcome (λ h e. a.stood h e)
run_low w i v l z (Fills task) base desk r =
    let t : Turn = machine.after base (counted (w.seat i).post) (finds w i) in
    let a = walks_of w i v l z (Fills task) base r in
    fills_low l (w.mem Tail) task desk t.post t.told t.outcome (λ h e. a.stood h e)
run_low w i v l z why base desk r = none_low w i v l z why base desk refl refl r
  where
    none_low : (w : World) (i : ℕ) (v : View) (l : Line) (z : Asked) (why : Why) (base : Base) (desk : Desk) → fills_none why ≡ true → opens_or_follows why ≡ false → Running w i v l z why base → LeavesLow l (w.mem Tail) (steps.run_turn why desk (machine.after base (counted (w.seat i).post) (finds w i)))
    none_low w i v l z why base desk f n r =
        let t : Turn = machine.after base (counted (w.seat i).post) (finds w i) in
        let a = resumed_walks why base desk t.post t.told t.outcome (λ s. false) (low_line l (w.mem Tail)) (λ s. w.mem (Row s 0)) v.head (w.mem Tail) f (walks_of w i v l z why base r) (none_gives why t.outcome (λ s. false) (low_line l (w.mem Tail)) (λ s. w.mem (Row s 0)) v.head n) in
        λ h e. a.stood h e

-- the calls' own steps
append_low : (l : Line) (tail : ℕ) (kept : EnqueueKept) (post : Post) (desk : Desk) (spent : Bool) → ((h : ℕ) → (kept.tail == h) ≡ true → is_low l tail h ≡ true) → LeavesLow l tail (enqueues.appending kept post desk spent)
append_low l tail kept post desk true f = none_leaves l tail (enqueues.appending kept post desk true) (clearing_quiet (Enqueues kept) (Answering (the_answers.Spent kept.number)) post desk [])
append_low l tail kept post desk false f = λ h e. f h e

next_low : (l : Line) (tail : ℕ) (kept : EnqueueKept) (next : ℕ) (post : Post) (desk : Desk) (none : Bool) → ((h : ℕ) → (kept.tail == h) ≡ true → is_low l tail h ≡ true) → LeavesLow l tail (enqueues.at_next kept next post desk none)
next_low l tail kept next post desk true f = append_low l tail kept post desk (kept.number == post.layout.config.last_version) f
next_low l tail kept next post desk false f = λ h e. f h e

appended_low : (l : Line) (tail : ℕ) (kept : EnqueueKept) (slot : ℕ) (post : Post) (desk : Desk) (same : Bool) → ((h : ℕ) → (kept.tail == h) ≡ true → is_low l tail h ≡ true) → LeavesLow l tail (enqueues.appended kept slot post desk same)
appended_low l tail kept slot post desk true f = λ h e. f h e
appended_low l tail kept slot post desk false f = none_leaves l tail (enqueues.appended kept slot post desk false) (clearing_quiet (Enqueues kept) Again post desk [])

enqueue_low : (l : Line) (tail : ℕ) (kept : EnqueueKept) (at : EnqueueAt) (post : Post) (desk : Desk) (found : ℕ) → ((h : ℕ) → (kept.tail == h) ≡ true → is_low l tail h ≡ true) → LeavesLow l tail (enqueues.enqueue_turn kept at post desk found)
enqueue_low l tail kept LoadNumber post desk found f = λ h e. f h e
enqueue_low l tail kept LoadNext post desk found f = next_low l tail kept found post desk (found == 0) f
enqueue_low l tail kept (PassTail next) post desk found f =
    none_leaves l tail (enqueues.enqueue_turn kept (PassTail next) post desk found) (clearing_quiet (Enqueues kept) Again post desk (enqueues.told_link roots.Tail (next - 1) (found == kept.tail + 1)))
enqueue_low l tail kept (ExchangeNext slot) post desk found f = appended_low l tail kept slot post desk (found == 0) f
enqueue_low l tail kept (ExchangeTail slot) post desk found f =
    none_leaves l tail (enqueues.enqueue_turn kept (ExchangeTail slot) post desk found) (clearing_quiet (Enqueues kept) (Answering (the_answers.Queued (kept.number + 1))) post desk (enqueues.told_link roots.Tail slot (found == kept.tail + 1)))

taken_low : (l : Line) (tail head next number value : ℕ) (post : Post) (desk : Desk) (same : Bool) → LeavesLow l tail (dequeues.taken head next number value post desk same)
taken_low l tail head next number value post desk true = none_leaves l tail (dequeues.taken head next number value post desk true) (clearing_next_quiet (Retiring head (the_answers.Taken number value moves.Still)) post desk (events.Link roots.Head next ∷ events.Cut head ∷ events.Taken number value ∷ []))
taken_low l tail head next number value post desk false = none_leaves l tail (dequeues.taken head next number value post desk false) (clearing_next_quiet Again post desk [])

dequeue_low : (l : Line) (tail : ℕ) (at : DequeueAt) (post : Post) (desk : Desk) (found : ℕ) → ((h : ℕ) → stands_on (Works (Dequeuing at)) h ≡ true → is_low l tail h ≡ true) → LeavesLow l tail (dequeues.dequeue_turn at post desk found)
dequeue_low l tail (LoadTail head) post desk found f = λ h e. f h e
dequeue_low l tail (SwingTail head next) post desk found f =
    none_leaves l tail (dequeues.dequeue_turn (SwingTail head next) post desk found) (clearing_next_quiet Again post desk (enqueues.told_link roots.Tail next (found == head + 1)))
dequeue_low l tail (TakeNumber head next) post desk found f = λ h e. f h e
dequeue_low l tail (TakeValue head next number) post desk found f = λ h e. f h e
dequeue_low l tail (ExchangeHead head next number value) post desk found f = taken_low l tail head next number value post desk (found == head + 1)

work_low : (l : Line) (tail : ℕ) (work : Work) (post : Post) (desk : Desk) (found : ℕ) → ((h : ℕ) → stands_on (Works work) h ≡ true → is_low l tail h ≡ true) → LeavesLow l tail (steps.work_turn work post desk found)
work_low l tail (Getting key at) post desk found f = none_leaves l tail (gets.get_turn key at post desk found) (get_quiet key at post desk found)
work_low l tail (Changing kept at) post desk found f = none_leaves l tail (alters.change_turn kept at post desk found) (change_quiet kept at post desk found)
work_low l tail (Enqueuing kept at) post desk found f = enqueue_low l tail kept at post desk found (λ h e. f h e)
work_low l tail (Dequeuing at) post desk found f = dequeue_low l tail at post desk found f
work_low l tail (Keeping at) post desk found f = none_leaves l tail (keeps.keep_turn at post desk found) (keep_quiet at post desk found)

-- what a seat's own step leaves
own_low : (w : World) (i : ℕ) (v : View) (l : Line) (z : Asked) (phase : Phase) → i < w.layout.config.seats → Known w v l z → LowLinks w l z → AllLow w l → (w.seat i).phase ≡ phase → LeavesLow l (w.mem Tail) (steps.phase_turn phase (counted (w.seat i).post) (offered w i).desk (finds w i))
own_low w i v l z Idle b a g f e = λ h o. absurd (cc)
own_low w i v l z (Runs why base) b a g f e = run_low w i v l z why base (offered w i).desk (record { known = a; below = b; links = g; low = subst (λ (x : Phase). StandsLow l (w.mem Tail) x) e (f i); is = e })
own_low w i v l z (Scans later at) b a g f e = none_leaves l (w.mem Tail) (scan.scan_turn later at (counted (w.seat i).post) (offered w i).desk (finds w i)) (scan_quiet later at (counted (w.seat i).post) (offered w i).desk (finds w i))
own_low w i v l z (Works work) b a g f e =
    work_low l (w.mem Tail) work (counted (w.seat i).post) (offered w i).desk (finds w i)
    (λ h o.
    let s : stands_on (w.seat i).phase h ≡ true = subst (λ (x : Phase). stands_on x h ≡ true) (sym e) o in
    both (l.lined h) (nat_le (l.number h) (l.number (w.mem Tail - 1))) ((a.whole.both.queue.walks i).stood h s) (le_test (l.number h) (l.number (w.mem Tail - 1)) (f i h s)))

same_left : (outcome : CallOutcome) → phase_left outcome ≡ phase_of outcome
same_left (GoesOn phase) = refl
same_left (Answers answer) = refl

low_of : (a b : ℕ) → nat_le a b ≡ true → a ≤ b
low_of a b h = grind (arith, nat_tests, h)

-- so each step keeps it
seat_low : (w : World) (i k : ℕ) (v : View) (l : Line) (z : Asked) (same : Bool) → (k == i) ≡ same → i < w.layout.config.seats → Known w v l z → LowLinks w l z → Steady l (line_after w i l) (w.mem Tail) ((step w i).mem Tail) → AllLow w l → StandsLow (line_after w i l) ((step w i).mem Tail) ((step w i).seat k).phase
seat_low w i k v l z true e b a g s f =
    let one : k ≡ i = grind (arith, nat_tests) in
    let t : CallTurn = steps.phase_turn (w.seat i).phase (counted (w.seat i).post) (offered w i).desk (finds w i) in
    let p : ((step w i).seat k).phase ≡ phase_of t.outcome = ap (λ (n : ℕ). ((step w i).seat n).phase) one ∙ stepped_phase w i ∙ same_left t.outcome in
    λ h o.
    let low : is_low l (w.mem Tail) h ≡ true = own_low w i v l z (w.seat i).phase b a g f refl h (subst (λ (x : Phase). stands_on x h ≡ true) p o) in
    still_low l (line_after w i l) (w.mem Tail) ((step w i).mem Tail) h s (first_of (l.lined h) (nat_le (l.number h) (l.number (w.mem Tail - 1))) low) (low_of (l.number h) (l.number (w.mem Tail - 1)) (rest_of (l.lined h) (nat_le (l.number h) (l.number (w.mem Tail - 1))) low))
seat_low w i k v l z false e b a g s f =
    let p : (step w i).seat k ≡ w.seat k = seat_stays w i k e in
    λ h o.
    let there : stands_on (w.seat k).phase h ≡ true = subst (λ (x : Local). stands_on x.phase h ≡ true) p o in
    still_low l (line_after w i l) (w.mem Tail) ((step w i).mem Tail) h s ((a.whole.both.queue.walks k).stood h there) (f k h there)

pub stands_step : (w : World) (i : ℕ) (v : View) (l : Line) (z : Asked) → i < w.layout.config.seats → Known w v l z → LowLinks w l z → Steady l (line_after w i l) (w.mem Tail) ((step w i).mem Tail) → AllLow w l → AllLow (step w i) (line_after w i l)
stands_step w i v l z b a g s f = λ k. seat_low w i k v l z (k == i) refl b a g s f

-- where a call begins it has found no row
begun_low : (w : World) (i k : ℕ) (call : Call) (l : Line) (same : Bool) → (k == i) ≡ same → AllLow w l → StandsLow l (w.mem Tail) ((begin w i call).seat k).phase
begun_low w i k call l true e f =
    let one : k ≡ i = grind (arith, nat_tests) in
    let first : Phase = steps.first_phase call (begun_post (w.seat i).post) in
    let p : ((begin w i call).seat k).phase ≡ first = ap (λ (n : ℕ). ((begin w i call).seat n).phase) one ∙ ap (λ (x : Local). x.phase) (begin_begins w i call) in
    let none = quiet_walks first (λ s. false) (record l { lined = λ s. false }) (λ s. 0) 0 0 (first_quiet call (begun_post (w.seat i).post)) in
    λ h o. absurd (let u : false ≡ true = none.stood h (subst (λ (x : Phase). stands_on x h ≡ true) p o) in cc)
begun_low w i k call l false e f =
    let p : (begin w i call).seat k ≡ w.seat k = begin_stays w i k call e in
    λ h o. f k h (subst (λ (x : Local). stands_on x.phase h ≡ true) p o)

pub stands_begin : (w : World) (i : ℕ) (call : Call) (l : Line) → AllLow w l → AllLow (begin w i call) l
stands_begin w i call l f = λ k. begun_low w i k call l (k == i) refl f
