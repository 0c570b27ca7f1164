-- What a step leaves of the protections of the queue's ends, and that each step keeps all that is known of rows and queue.
use Rattle.std.proofs.Common.{ℕ, ◌+◌, ◌-◌, ◌≡◌, Bool, true, false, refl, List, [], ◌∷◌}
use Rattle.std.specs.Prelude.{◌==◌}
use Rattle.wfe_core.specs.defs.declared.call.Answer.TheVariants as the_answers
use Rattle.wfe_core.specs.defs.declared.event.Event.TheVariants as events
use Rattle.wfe_core.specs.defs.declared.event.Event.{Event}
use Rattle.wfe_core.specs.declared.ends.AllocateEnd.TheVariants as allocate_ends
use Rattle.wfe_core.specs.declared.ends.FollowEnd.TheVariants as follow_ends
use Rattle.wfe_core.specs.declared.ends.ProtectEnd.TheVariants as protect_ends
use Rattle.wfe_core.specs.declared.post.Post.{Post}
use Rattle.wfe_core.specs.Desks.{Desk}
use Rattle.wfe_core.specs.Phases.{Ending, Ending as endings, Outcome, Goes, Ends}
use Rattle.wfe_core.specs.Phases.Ending.{Done, Protected, Followed, Allocated, Clocked}
use Rattle.wfe_core.specs.Rounds as rounds
use Rattle.wfe_core.specs.Get as gets
use Rattle.wfe_core.specs.Change as alters
use Rattle.wfe_core.specs.Enqueue as enqueues
use Rattle.wfe_core.specs.Dequeue as dequeues
use Rattle.wfe_core.specs.Keep as keeps
use Rattle.wfe_core.specs.Steps as steps
use Rattle.wfe_core.specs.Calls.{EnqueueKept, Task, Gets, Changes, Holds, Enqueues, Dequeues, Again, Answering, Retiring, Why, Opens, FollowsHead, Fills, ClearsNext, Clears, Finishes, GivesUp, Retires, Tidies, Advances, Releases, LoadNumber, LoadNext, PassTail, ExchangeNext, ExchangeTail, LoadTail, SwingTail, TakeNumber, TakeValue, ExchangeHead, Work, Getting, Changing, Enqueuing, Dequeuing, CallTurn, Keeping}
use Rattle.wfe_core.specs.Steps.{work_turn}
use Rattle.wfe_core.specs.defs.declared.event.Root.TheVariants as roots
use Rattle.inv_rows.specs.Queue.{Line}
use Rattle.inv_rows.specs.Tries.{is_tail, is_head, FromTail, FromHead, PhaseTries}
use Rattle.inv_rows.proofs.Quiet.{phase_of, is_quiet, clearing_quiet, clearing_next_quiet, closed_quiet, finishing_quiet, opened_null_quiet, opening_quiet, tidied_quiet, advanced_quiet, released_quiet, retired_quiet, filled_quiet, change_quiet, get_quiet, keep_quiet}
use Rattle.wfe_core.specs.defs.declared.call.ClockMove.TheVariants as clock_moves
use Rattle.inv_rows.proofs.Tries.{TryOut, quiet_tries}

-- where a machine has ended
abbrev pub WhyOut : Why → Outcome → ℕ → ℕ → (ℕ → Bool) → Line → ℕ → Type 0
WhyOut (Opens (Gets key)) outcome clock upto q l head = Unit {0}
WhyOut (Opens (Changes kept)) outcome clock upto q l head = Unit {0}
WhyOut (Opens (Holds key)) outcome clock upto q l head = Unit {0}
WhyOut (Opens (Enqueues kept)) outcome clock upto q l head = TryOut is_tail clock upto (λ s. FromTail q l head s) outcome
WhyOut (Opens Dequeues) outcome clock upto q l head = TryOut is_head clock upto (λ s. FromHead q l head s) outcome
WhyOut why outcome clock upto q l head = Unit {0}

abbrev pub NewTries : CallTurn → ℕ → ℕ → (ℕ → Bool) → Line → ℕ → Type 0
NewTries t clock upto q l head = PhaseTries (phase_of t.outcome) clock upto q l head

pub by_quiet : (t : CallTurn) (clock upto : ℕ) (q : ℕ → Bool) (l : Line) (head : ℕ) → is_quiet (phase_of t.outcome) ≡ true → NewTries t clock upto q l head
by_quiet t clock upto q l head h = quiet_tries (phase_of t.outcome) clock upto q l head h

opened_tries : (task : Task) (ending : Ending) (post : Post) (desk : Desk) (told : List Event) (clock upto : ℕ) (q : ℕ → Bool) (l : Line) (head : ℕ) → NewTries (steps.opened task ending post desk told) clock upto q l head
opened_tries (Gets key) (Protected (protect_ends.Held slot era)) post desk told clock upto q l head = tt
opened_tries (Changes kept) (Protected (protect_ends.Held slot era)) post desk told clock upto q l head = tt
opened_tries (Holds key) (Protected (protect_ends.Held slot era)) post desk told clock upto q l head = tt
opened_tries (Enqueues kept) (Protected (protect_ends.Held slot era)) post desk told clock upto q l head = tt
opened_tries Dequeues (Protected (protect_ends.Held slot era)) post desk told clock upto q l head = tt
opened_tries task (Protected protect_ends.Null) post desk told clock upto q l head = by_quiet (steps.opened_null task post desk told) clock upto q l head (opened_null_quiet task post desk told)
opened_tries task Done post desk told clock upto q l head = quiet_tries (rounds.opening task post) clock upto q l head (opening_quiet task post)
opened_tries task (Followed end) post desk told clock upto q l head = quiet_tries (rounds.opening task post) clock upto q l head (opening_quiet task post)
opened_tries task (Allocated end) post desk told clock upto q l head = quiet_tries (rounds.opening task post) clock upto q l head (opening_quiet task post)
opened_tries task (endings.Retired life) post desk told clock upto q l head = quiet_tries (rounds.opening task post) clock upto q l head (opening_quiet task post)
opened_tries task (Clocked clocked) post desk told clock upto q l head = quiet_tries (rounds.opening task post) clock upto q l head (opening_quiet task post)

row_tries : (parent slot : ℕ) (post : Post) (desk : Desk) (told : List Event) (lags : Bool) (clock upto : ℕ) (q : ℕ → Bool) (l : Line) (head : ℕ) → NewTries (dequeues.followed_row parent slot post desk told lags) clock upto q l head
row_tries parent slot post desk told true clock upto q l head = tt
row_tries parent slot post desk told false clock upto q l head = tt

follow_tries : (parent last : ℕ) (ending : Ending) (post : Post) (desk : Desk) (told : List Event) (clock upto : ℕ) (q : ℕ → Bool) (l : Line) (head : ℕ) → NewTries (steps.followed_by parent last ending post desk told) clock upto q l head
follow_tries parent last (Followed (follow_ends.Followed slot)) post desk told clock upto q l head = row_tries parent slot post desk told (last == parent + 1) clock upto q l head
follow_tries parent last (Followed follow_ends.NoNext) post desk told clock upto q l head = by_quiet (dequeues.followed parent last follow_ends.NoNext post desk told) clock upto q l head (clearing_next_quiet (Answering the_answers.Empty) post desk told)
follow_tries parent last (Followed (follow_ends.RootMoved seen)) post desk told clock upto q l head = by_quiet (dequeues.followed parent last (follow_ends.RootMoved seen) post desk told) clock upto q l head (clearing_next_quiet Again post desk told)
follow_tries parent last Done post desk told clock upto q l head = by_quiet (steps.followed_by parent last Done post desk told) clock upto q l head (closed_quiet Dequeues Again post desk told)
follow_tries parent last (Protected end) post desk told clock upto q l head = by_quiet (steps.followed_by parent last (Protected end) post desk told) clock upto q l head (closed_quiet Dequeues Again post desk told)
follow_tries parent last (Allocated end) post desk told clock upto q l head = by_quiet (steps.followed_by parent last (Allocated end) post desk told) clock upto q l head (closed_quiet Dequeues Again post desk told)
follow_tries parent last (endings.Retired life) post desk told clock upto q l head = by_quiet (steps.followed_by parent last (endings.Retired life) post desk told) clock upto q l head (closed_quiet Dequeues Again post desk told)
follow_tries parent last (Clocked clocked) post desk told clock upto q l head = by_quiet (steps.followed_by parent last (Clocked clocked) post desk told) clock upto q l head (closed_quiet Dequeues Again post desk told)

fill_tries : (task : Task) (ending : Ending) (post : Post) (desk : Desk) (told : List Event) (clock upto : ℕ) (q : ℕ → Bool) (l : Line) (head : ℕ) → NewTries (steps.filled task ending post desk told) clock upto q l head
fill_tries (Gets key) ending post desk told clock upto q l head = by_quiet (steps.filled (Gets key) ending post desk told) clock upto q l head (filled_quiet (Gets key) ending post desk told refl)
fill_tries (Changes kept) ending post desk told clock upto q l head = by_quiet (steps.filled (Changes kept) ending post desk told) clock upto q l head (filled_quiet (Changes kept) ending post desk told refl)
fill_tries (Holds key) ending post desk told clock upto q l head = by_quiet (steps.filled (Holds key) ending post desk told) clock upto q l head (filled_quiet (Holds key) ending post desk told refl)
fill_tries Dequeues ending post desk told clock upto q l head = by_quiet (steps.filled Dequeues ending post desk told) clock upto q l head (filled_quiet Dequeues ending post desk told refl)
fill_tries (Enqueues kept) (Allocated (allocate_ends.Given slot birth)) post desk told clock upto q l head = tt
fill_tries (Enqueues kept) (Allocated allocate_ends.Full) post desk told clock upto q l head = by_quiet (steps.filled (Enqueues kept) (Allocated allocate_ends.Full) post desk told) clock upto q l head (clearing_quiet (Enqueues (enqueues.item_walked kept)) (alters.no_room kept.walked) post desk told)
fill_tries (Enqueues kept) Done post desk told clock upto q l head = tt
fill_tries (Enqueues kept) (Protected end) post desk told clock upto q l head = tt
fill_tries (Enqueues kept) (Followed end) post desk told clock upto q l head = tt
fill_tries (Enqueues kept) (endings.Retired life) post desk told clock upto q l head = tt
fill_tries (Enqueues kept) (Clocked clocked) post desk told clock upto q l head = tt

pub resumed_tries : (why : Why) (desk : Desk) (post : Post) (told : List Event) (outcome : Outcome) (clock upto : ℕ) (q : ℕ → Bool) (l : Line) (head : ℕ) → WhyOut why outcome clock upto q l head → NewTries (steps.resumed why desk post told outcome) clock upto q l head
resumed_tries (Opens (Gets key)) desk post told (Goes more) clock upto q l head o = tt
resumed_tries (Opens (Changes kept)) desk post told (Goes more) clock upto q l head o = tt
resumed_tries (Opens (Holds key)) desk post told (Goes more) clock upto q l head o = tt
resumed_tries (Opens (Enqueues kept)) desk post told (Goes more) clock upto q l head o = o
resumed_tries (Opens Dequeues) desk post told (Goes more) clock upto q l head o = o
resumed_tries (Opens task) desk post told (Ends ending) clock upto q l head o = opened_tries task ending post desk told clock upto q l head
resumed_tries (FollowsHead parent last) desk post told (Goes more) clock upto q l head o = tt
resumed_tries (FollowsHead parent last) desk post told (Ends ending) clock upto q l head o = follow_tries parent last ending post desk told clock upto q l head
resumed_tries (Fills task) desk post told (Goes more) clock upto q l head o = tt
resumed_tries (Fills task) desk post told (Ends ending) clock upto q l head o = fill_tries task ending post desk told clock upto q l head
resumed_tries (ClearsNext after) desk post told (Goes more) clock upto q l head o = tt
resumed_tries (ClearsNext after) desk post told (Ends ending) clock upto q l head o = by_quiet (steps.resume (ClearsNext after) ending post desk told) clock upto q l head (clearing_quiet Dequeues after post desk told)
resumed_tries (Clears task after) desk post told (Goes more) clock upto q l head o = tt
resumed_tries (Clears task after) desk post told (Ends ending) clock upto q l head o = by_quiet (steps.resume (Clears task after) ending post desk told) clock upto q l head (finishing_quiet task after post desk told)
resumed_tries (Finishes task after) desk post told (Goes more) clock upto q l head o = tt
resumed_tries (Finishes task after) desk post told (Ends ending) clock upto q l head o = by_quiet (steps.resume (Finishes task after) ending post desk told) clock upto q l head (closed_quiet task after post desk told)
resumed_tries (GivesUp answer) desk post told (Goes more) clock upto q l head o = tt
resumed_tries (GivesUp answer) desk post told (Ends ending) clock upto q l head o = tt
resumed_tries (Retires answer) desk post told (Goes more) clock upto q l head o = tt
resumed_tries (Retires answer) desk post told (Ends ending) clock upto q l head o = by_quiet (steps.resume (Retires answer) ending post desk told) clock upto q l head (retired_quiet answer ending post desk told)
resumed_tries (Tidies later) desk post told (Goes more) clock upto q l head o = tt
resumed_tries (Tidies later) desk post told (Ends ending) clock upto q l head o = by_quiet (steps.resume (Tidies later) ending post desk told) clock upto q l head (tidied_quiet later ending post desk told)
resumed_tries Advances desk post told (Goes more) clock upto q l head o = tt
resumed_tries Advances desk post told (Ends ending) clock upto q l head o = by_quiet (steps.resume Advances ending post desk told) clock upto q l head (advanced_quiet ending post desk told)
resumed_tries (Releases let_go) desk post told (Goes more) clock upto q l head o = tt
resumed_tries (Releases let_go) desk post told (Ends ending) clock upto q l head o = by_quiet (steps.resume (Releases let_go) ending post desk told) clock upto q l head (released_quiet let_go post desk told)

append_tries : (kept : EnqueueKept) (post : Post) (desk : Desk) (spent : Bool) (clock upto : ℕ) (q : ℕ → Bool) (l : Line) (head : ℕ) → NewTries (enqueues.appending kept post desk spent) clock upto q l head
append_tries kept post desk true clock upto q l head = by_quiet (enqueues.appending kept post desk true) clock upto q l head (clearing_quiet (Enqueues kept) (Answering (the_answers.Spent kept.number)) post desk [])
append_tries kept post desk false clock upto q l head = tt

next_tries : (kept : EnqueueKept) (next : ℕ) (post : Post) (desk : Desk) (none : Bool) (clock upto : ℕ) (q : ℕ → Bool) (l : Line) (head : ℕ) → NewTries (enqueues.at_next kept next post desk none) clock upto q l head
next_tries kept next post desk true clock upto q l head = append_tries kept post desk (kept.number == post.layout.config.last_version) clock upto q l head
next_tries kept next post desk false clock upto q l head = tt

joined_tries : (kept : EnqueueKept) (slot : ℕ) (post : Post) (desk : Desk) (same : Bool) (clock upto : ℕ) (q : ℕ → Bool) (l : Line) (head : ℕ) → NewTries (enqueues.appended kept slot post desk same) clock upto q l head
joined_tries kept slot post desk true clock upto q l head = tt
joined_tries kept slot post desk false clock upto q l head = by_quiet (enqueues.appended kept slot post desk false) clock upto q l head (clearing_quiet (Enqueues kept) Again post desk [])

popped_tries : (parent row number value : ℕ) (post : Post) (desk : Desk) (same : Bool) (clock upto : ℕ) (q : ℕ → Bool) (l : Line) (head : ℕ) → NewTries (dequeues.taken parent row number value post desk same) clock upto q l head
popped_tries parent row number value post desk true clock upto q l head = by_quiet (dequeues.taken parent row number value post desk true) clock upto q l head (clearing_next_quiet (Retiring parent (the_answers.Taken number value clock_moves.Still)) post desk (events.Link roots.Head row ∷ events.Cut parent ∷ events.Taken number value ∷ []))
popped_tries parent row number value post desk false clock upto q l head = by_quiet (dequeues.taken parent row number value post desk false) clock upto q l head (clearing_next_quiet Again post desk [])

pub work_tries : (work : Work) (post : Post) (desk : Desk) (found clock upto : ℕ) (q : ℕ → Bool) (l : Line) (head : ℕ) → NewTries (work_turn work post desk found) clock upto q l head
work_tries (Getting key at) post desk found clock upto q l head = by_quiet (gets.get_turn key at post desk found) clock upto q l head (get_quiet key at post desk found)
work_tries (Changing kept at) post desk found clock upto q l head = by_quiet (alters.change_turn kept at post desk found) clock upto q l head (change_quiet kept at post desk found)
work_tries (Enqueuing kept LoadNumber) post desk found clock upto q l head = tt
work_tries (Enqueuing kept LoadNext) post desk found clock upto q l head = next_tries kept found post desk (found == 0) clock upto q l head
work_tries (Enqueuing kept (PassTail next)) post desk found clock upto q l head = by_quiet (enqueues.enqueue_turn kept (PassTail next) post desk found) clock upto q l head (clearing_quiet (Enqueues kept) Again post desk (enqueues.told_link roots.Tail (next - 1) (found == kept.tail + 1)))
work_tries (Enqueuing kept (ExchangeNext slot)) post desk found clock upto q l head = joined_tries kept slot post desk (found == 0) clock upto q l head
work_tries (Enqueuing kept (ExchangeTail slot)) post desk found clock upto q l head = by_quiet (enqueues.enqueue_turn kept (ExchangeTail slot) post desk found) clock upto q l head (clearing_quiet (Enqueues kept) (Answering (the_answers.Queued (kept.number + 1))) post desk (enqueues.told_link roots.Tail slot (found == kept.tail + 1)))
work_tries (Keeping at) post desk found clock upto q l head = by_quiet (keeps.keep_turn at post desk found) clock upto q l head (keep_quiet at post desk found)
work_tries (Dequeuing (LoadTail parent)) post desk found clock upto q l head = tt
work_tries (Dequeuing (SwingTail parent row)) post desk found clock upto q l head = by_quiet (dequeues.dequeue_turn (SwingTail parent row) post desk found) clock upto q l head (clearing_next_quiet Again post desk (enqueues.told_link roots.Tail row (found == parent + 1)))
work_tries (Dequeuing (TakeNumber parent row)) post desk found clock upto q l head = tt
work_tries (Dequeuing (TakeValue parent row number)) post desk found clock upto q l head = tt
work_tries (Dequeuing (ExchangeHead parent row number value)) post desk found clock upto q l head = popped_tries parent row number value post desk (found == parent + 1) clock upto q l head
