-- What comes after a machine or a step of a call's own has lost no more rounds than has changed.
use Rattle.std.proofs.Common.{ℕ, ◌∙◌, ◌≡◌, ◌≤◌, ◌+◌, ◌-◌, Bool, true, false, [], ◌∷◌, arith, refl, sym, subst}
use Rattle.inv_ends.specs.model.Change as alters
use Rattle.inv_ends.specs.model.Enqueue as enqueues
use Rattle.inv_ends.specs.model.Dequeue as dequeues
use Rattle.inv_ends.specs.model.Get as gets
use Rattle.inv_ends.specs.model.Keep as keeps
use Rattle.inv_ends.specs.model.Steps as steps
use Rattle.inv_ends.specs.model.words.Schemes.{has_one_interval, publishes_rows}
use Rattle.inv_ends.specs.model.words.Schemes.{moves as moves_clock}
use Rattle.inv_ends.specs.model.words.declared.config.Config.{Config}
use Rattle.inv_ends.specs.model.words.declared.config.SchemeKind.TheVariants.{He, Hp, Ibr, Wfe}
use Rattle.inv_ends.specs.model.defs.declared.event.Guard.{Guard}
use Rattle.inv_ends.specs.model.Scan as scan
use Rattle.inv_ends.specs.model.defs.declared.event.Event.TheVariants as events
use Rattle.inv_ends.specs.model.defs.declared.event.Root.TheVariants as roots
use Rattle.inv_ends.specs.model.defs.declared.call.Answer.TheVariants as answers
use Rattle.inv_ends.specs.model.defs.declared.call.ClockMove.TheVariants as moves
use Rattle.inv_ends.specs.model.declared.ends.FollowEnd.TheVariants as follow_ends
use Rattle.inv_ends.specs.model.declared.ends.AllocateEnd.TheVariants as allocate_ends
use Rattle.inv_ends.specs.model.Calls.{AfterScan, CallOutcome, CallTurn, ChangeAt, ChangeKept, DequeueAt, EnqueueAt, EnqueueKept, GetAt, Next, ScanAt, Task, Work, KeepAt, LetGo}
use Rattle.inv_ends.specs.model.Calls.AfterScan.{Answered, Counted, Repeated}
use Rattle.inv_ends.specs.model.Calls.CallOutcome.{Answers, GoesOn}
use Rattle.inv_ends.specs.model.Calls.ChangeAt.{ExchangeRoot, LoadCount, LoadKey, LoadValue, LoadVersion}
use Rattle.inv_ends.specs.model.Calls.DequeueAt.{ExchangeHead, LoadTail, SwingTail, TakeNumber, TakeValue}
use Rattle.inv_ends.specs.model.Calls.EnqueueAt.{ExchangeNext, ExchangeTail, LoadNext, LoadNumber, PassTail}
use Rattle.inv_ends.specs.model.Calls.GetAt.{FindCount, FindKey, FindValue, FindVersion}
use Rattle.inv_ends.specs.model.Calls.KeepAt.{HideSpan, LoadHeld, Looks, Loosens, MarkLeft, MarkTaken, Misses, StoreHeld, TakeList}
use Rattle.inv_ends.specs.model.Calls.LetGo.{Dropped, Parting, Rehold, Released}
use Rattle.inv_ends.specs.model.Calls.Next.{Again, Answering, MakeRoom, Retiring}
use Rattle.inv_ends.specs.model.Calls.ScanAt.{GiveBack, ReadGuard}
use Rattle.inv_ends.specs.model.Calls.Task.{Changes, Dequeues, Enqueues, Gets, Holds}
use Rattle.inv_ends.specs.model.Calls.Work.{Changing, Dequeuing, Enqueuing, Getting, Keeping}
use Rattle.inv_ends.specs.model.Desks.{Desk, with_life}
use Rattle.inv_ends.specs.model.Guards.{guard_at, guards, eras_in, linked_row, published}
use Rattle.inv_ends.specs.model.Locals.{rounds_told}
use Rattle.inv_ends.specs.model.Phases.{Ending, Base}
use Rattle.inv_ends.specs.model.Phases.Ending.{Allocated, Clocked, Done, Followed, Protected, Retired}
use Rattle.inv_ends.specs.model.Posts.{stands, cleared, publishes_index, withdrawn, standing_from}
use Rattle.inv_ends.specs.model.Rounds.{begin_base, begin_span, bucket_of, clear_base, clear_post, clear_told, clearing, clearing_by, clearing_next, clearing_next_by, closed, finish_base, finish_span, finishing, finishing_by, given_up, index_of, key_of, opening, root_of, round, round_by, scheme_of, taken_of, kept_row, let_index, protect_at, tidy_by}
use Rattle.inv_ends.specs.model.declared.ends.AllocateEnd.{AllocateEnd}
use Rattle.inv_ends.specs.model.declared.ends.FollowEnd.{FollowEnd}
use Rattle.inv_ends.specs.model.declared.post.Post.{Post}
use Rattle.inv_ends.specs.model.defs.Entry.{entry}
use Rattle.inv_ends.specs.model.defs.declared.call.Answer.{Answer}
use Rattle.inv_ends.specs.model.defs.declared.call.ClockMove.{ClockMove}
use Rattle.inv_ends.specs.model.defs.declared.event.Event.{Event}
use Rattle.inv_ends.specs.model.defs.declared.lifetime.Interval.{Interval}
use Rattle.inv_ends.proofs.Rest.Closings.{cleared_rounds, cleared_told, opened_untold}
use Rattle.inv_ends.proofs.Rest.Works.{link_told}
use Rattle.inv_ends.specs.Losses.{is_queue, work_fit}
use Rattle.inv_all.specs.Tallies.{Since, Tally, at_paced, changes_so_far, dequeue_paced, enqueue_paced, fills_paced, head_since, lag_since, later_paced, next_paced, next_since, once, passes_so_far, phase_paced, root_since, tail_since, task_paced, work_paced}
use Rattle.inv_ends.specs.model.words.declared.config.SchemeKind.{SchemeKind}
use Rattle.std.specs.Prelude.{List, ◌++◌, length, Option, Some, None, nat_lt, nat_le, ◌==◌, ◌%◌, drop}
use Rattle.inv_ends.proofs.model.Facts.{or_left_true, one_before, if_by}
use Rattle.inv_ends.proofs.model.Schemes.{each_begin, each_clear, each_finish}

abbrev pub outcome_paced : Tally → ℕ → CallOutcome → Type 0
outcome_paced u rounds (GoesOn phase) = phase_paced u rounds phase
outcome_paced u rounds (Answers answer) = Unit {0}

-- what a turn leaves
abbrev pub TurnPaced : Tally → ℕ → CallTurn → Type 0
TurnPaced u rounds t = outcome_paced u (rounds_told u.rows rounds t.told) t.outcome

opened_paced : (u : Tally) (task : Task) (scheme : SchemeKind) (lost : ℕ) → task_paced u task lost → at_paced u task (protect_at scheme) lost
opened_paced u task He lost p = p
opened_paced u task Ibr lost p = p
opened_paced u task Wfe lost p = p
opened_paced u task Hp lost p = p

pub opening_paced : (u : Tally) (rounds : ℕ) (task : Task) (post : Post) → task_paced u task rounds → phase_paced u rounds (opening task post)
opening_paced u rounds task post o = rw (opened_untold (scheme_of post) (index_of task) (root_of task post)) (opened_paced u task (scheme_of post) rounds o)

span_round : (u : Tally) (rounds : ℕ) (task : Task) (post : Post) (span : Option Interval) → task_paced u task rounds → phase_paced u rounds (round_by task post (begin_span span))
span_round u rounds task post None o = o
span_round u rounds task post (Some span) o = opening_paced u rounds task post o

scheme_round : (u : Tally) (rounds : ℕ) (task : Task) (post : Post) (scheme : SchemeKind) → task_paced u task rounds → phase_paced u rounds (round_by task post (begin_base scheme post))
scheme_round u rounds task post scheme o =
    each_begin scheme post (λ (base : Option Base). phase_paced u rounds (round_by task post base))
    (opening_paced u rounds task post o)
    (span_round u rounds task post post.span o)

pub round_paced : (u : Tally) (rounds : ℕ) (task : Task) (post : Post) → task_paced u task rounds → phase_paced u rounds (round task post)
round_paced u rounds task post o = scheme_round u rounds task post (scheme_of post) o

given_paced : (u : Tally) (rounds : ℕ) (answer : Answer) (post : Post) (desk : Desk) (told : List Event) (taken : Option ℕ) → TurnPaced u rounds (given_up answer post desk told taken)
given_paced u rounds answer post desk told None = tt
given_paced u rounds answer post desk told (Some slot) = tt

tidy_paced : (u : Tally) (rounds : ℕ) (later : AfterScan) (post : Post) (moving : Bool) → later_paced u later rounds → phase_paced u rounds (tidy_by moving later post)
tidy_paced u rounds later post true l = l
tidy_paced u rounds later post false l = l

pub closed_paced : (u : Tally) (rounds : ℕ) (task : Task) (next : Next) (post : Post) (desk : Desk) (told : List Event) → next_paced u task next (rounds_told u.rows rounds told) → TurnPaced u rounds (closed task next post desk told)
closed_paced u rounds task Again post desk told n = round_paced u (rounds_told u.rows rounds told) task post n
closed_paced u rounds task MakeRoom post desk told n = tidy_paced u (rounds_told u.rows rounds told) (Repeated task) post (moves_clock (scheme_of post)) n
closed_paced u rounds task (Answering answer) post desk told n = given_paced u rounds answer post desk told (taken_of task)
closed_paced u rounds task (Retiring slot answer) post desk told n = tt

span_finish : (u : Tally) (rounds : ℕ) (task : Task) (next : Next) (post : Post) (desk : Desk) (told : List Event) (stood : Option ℕ) → next_paced u task next (rounds_told u.rows rounds told) → TurnPaced u rounds (finishing_by task next post desk told (finish_span stood))
span_finish u rounds task next post desk told None n = n
span_finish u rounds task next post desk told (Some slot) n = closed_paced u rounds task next post desk told n

scheme_finish : (u : Tally) (rounds : ℕ) (task : Task) (next : Next) (post : Post) (desk : Desk) (told : List Event) (scheme : SchemeKind) → next_paced u task next (rounds_told u.rows rounds told) → TurnPaced u rounds (finishing_by task next post desk told (finish_base scheme post))
scheme_finish u rounds task next post desk told scheme n =
    each_finish scheme post (λ (base : Option Base). TurnPaced u rounds (finishing_by task next post desk told base))
    (closed_paced u rounds task next post desk told n)
    (span_finish u rounds task next post desk told (kept_row post) n)

pub finishing_paced : (u : Tally) (rounds : ℕ) (task : Task) (next : Next) (post : Post) (desk : Desk) (told : List Event) → next_paced u task next (rounds_told u.rows rounds told) → TurnPaced u rounds (finishing task next post desk told)
finishing_paced u rounds task Again post desk told n = closed_paced u rounds task Again post desk told n
finishing_paced u rounds task MakeRoom post desk told n = scheme_finish u rounds task MakeRoom post desk told (scheme_of post) n
finishing_paced u rounds task (Answering answer) post desk told n = scheme_finish u rounds task (Answering answer) post desk told (scheme_of post) n
finishing_paced u rounds task (Retiring slot answer) post desk told n = scheme_finish u rounds task (Retiring slot answer) post desk told (scheme_of post) n

cleared_finish : (u : Tally) (rounds : ℕ) (task : Task) (next : Next) (post left : Post) (index : ℕ) (desk : Desk) (told : List Event) → next_paced u task next (rounds_told u.rows rounds told) → TurnPaced u rounds (finishing task next left desk (told ++ clear_told (scheme_of post) post index))
cleared_finish u rounds task next post left index desk told n =
    finishing_paced u rounds task next left desk (told ++ clear_told (scheme_of post) post index) (subst (λ (r : ℕ). next_paced u task next r) (sym (cleared_told u.rows rounds index told post)) n)

clearing_by_paced : (u : Tally) (rounds : ℕ) (task : Task) (next : Next) (post : Post) (desk : Desk) (told : List Event) (scheme : SchemeKind) → next_paced u task next (rounds_told u.rows rounds told) → TurnPaced u rounds (clearing_by task next post desk told (clear_base scheme (index_of task)))
clearing_by_paced u rounds task next post desk told scheme n =
    each_clear scheme (index_of task) (λ (base : Option Base). TurnPaced u rounds (clearing_by task next post desk told base))
    n
    (cleared_finish u rounds task next post (clear_post (scheme_of post) post (index_of task)) (index_of task) desk told n)

pub clearing_paced : (u : Tally) (rounds : ℕ) (task : Task) (next : Next) (post : Post) (desk : Desk) (told : List Event) → next_paced u task next (rounds_told u.rows rounds told) → TurnPaced u rounds (clearing task next post desk told)
clearing_paced u rounds task next post desk told n = clearing_by_paced u rounds task next post desk told (scheme_of post) n

cleared_clear : (u : Tally) (rounds : ℕ) (next : Next) (post left : Post) (desk : Desk) (told : List Event) → next_paced u Dequeues next (rounds_told u.rows rounds told) → TurnPaced u rounds (clearing Dequeues next left desk (told ++ clear_told (scheme_of post) post 1))
cleared_clear u rounds next post left desk told n =
    clearing_paced u rounds Dequeues next left desk (told ++ clear_told (scheme_of post) post 1) (subst (λ (r : ℕ). next_paced u Dequeues next r) (sym (cleared_told u.rows rounds 1 told post)) n)

clearing_next_by_paced : (u : Tally) (rounds : ℕ) (next : Next) (post : Post) (desk : Desk) (told : List Event) (scheme : SchemeKind) → next_paced u Dequeues next (rounds_told u.rows rounds told) → TurnPaced u rounds (clearing_next_by next post desk told (clear_base scheme 1))
clearing_next_by_paced u rounds next post desk told scheme n =
    each_clear scheme 1 (λ (base : Option Base). TurnPaced u rounds (clearing_next_by next post desk told base))
    n
    (cleared_clear u rounds next post (clear_post (scheme_of post) post 1) desk told n)

pub clearing_next_paced : (u : Tally) (rounds : ℕ) (next : Next) (post : Post) (desk : Desk) (told : List Event) → next_paced u Dequeues next (rounds_told u.rows rounds told) → TurnPaced u rounds (clearing_next next post desk told)
clearing_next_paced u rounds next post desk told n = clearing_next_by_paced u rounds next post desk told (scheme_of post) n

-- a root was found, with this link

abbrev pub link_since : Tally → Task → ℕ → ℕ → Type 0
link_since u (Gets key) x lost = Unit {0}
link_since u (Changes kept) x lost = Since (u.root (key_of kept.change % u.buckets) == x) lost (changes_so_far u kept)
link_since u (Holds key) x lost = Unit {0}
link_since u (Enqueues kept) x lost = Since (u.tail == x) lost (passes_so_far u kept)
link_since u Dequeues x lost = Since (u.head == x) lost u.takes

pub opened_row_paced : (u : Tally) (rounds : ℕ) (task : Task) (slot : ℕ) (post : Post) (desk : Desk) (told : List Event) (lost : ℕ) → rounds_told u.rows rounds told ≡ lost + 1 → link_since u task (slot + 1) lost → TurnPaced u rounds (steps.opened_row task slot post desk told)
opened_row_paced u rounds (Gets key) slot post desk told lost e h = tt
opened_row_paced u rounds (Changes kept) slot post desk told lost e h = rw (one_before (rounds_told u.rows rounds told) lost e) h
opened_row_paced u rounds (Holds key) slot post desk told lost e h = tt
opened_row_paced u rounds (Enqueues kept) slot post desk told lost e h = rw (one_before (rounds_told u.rows rounds told) lost e) h
opened_row_paced u rounds Dequeues slot post desk told lost e h = rw (one_before (rounds_told u.rows rounds told) lost e) h

deciding_by_paced : (u : Tally) (rounds : ℕ) (kept : ChangeKept) (post : Post) (desk : Desk) (told : List Event) (refused : Option Answer) → root_since u kept (rounds_told u.rows rounds told - 1) → TurnPaced u rounds (alters.deciding_by kept post desk told refused)
deciding_by_paced u rounds kept post desk told (Some answer) i = clearing_paced u rounds (Changes kept) (Answering answer) post desk told tt
deciding_by_paced u rounds kept post desk told None i = i

pub deciding_paced : (u : Tally) (rounds : ℕ) (kept : ChangeKept) (post : Post) (desk : Desk) (told : List Event) → root_since u kept (rounds_told u.rows rounds told - 1) → TurnPaced u rounds (alters.deciding kept post desk told)
deciding_paced u rounds kept post desk told i = deciding_by_paced u rounds kept post desk told (alters.refused post.layout.config kept) i

pub opened_null_paced : (u : Tally) (rounds : ℕ) (task : Task) (post : Post) (desk : Desk) (told : List Event) (lost : ℕ) → is_queue task ≡ false → rounds_told u.rows rounds told ≡ lost + 1 → link_since u task 0 lost → TurnPaced u rounds (steps.opened_null task post desk told)
opened_null_paced u rounds (Gets key) post desk told lost q e h = clearing_paced u rounds (Gets key) (Answering (answers.Got 0 None)) post desk (told ++ events.Got (bucket_of post key) 0 key None ∷ []) tt
opened_null_paced u rounds (Changes kept) post desk told lost q e h = deciding_paced u rounds (alters.at_link kept 0) post desk told (rw (one_before (rounds_told u.rows rounds told) lost e) h)
opened_null_paced u rounds (Holds key) post desk told lost q e h = clearing_paced u rounds (Holds key) (Answering answers.Nothing) post desk told tt
opened_null_paced u rounds (Enqueues kept) post desk told lost q e h = absurd (cc)
opened_null_paced u rounds Dequeues post desk told lost q e h = absurd (cc)

-- a follow

row_paced : (u : Tally) (rounds head next : ℕ) (post : Post) (desk : Desk) (told : List Event) (lags : Bool) → head_since u head (rounds_told u.rows rounds told - 1) → lag_since u head lags (rounds_told u.rows rounds told - 1) → TurnPaced u rounds (dequeues.followed_row head next post desk told lags)
row_paced u rounds head next post desk told true i l = l
row_paced u rounds head next post desk told false i l = i

-- a follow whose head has moved has lost its round
abbrev pub MovedPaced : Tally → ℕ → FollowEnd → Type 0
MovedPaced u rounds (follow_ends.Followed slot) = Unit {0}
MovedPaced u rounds follow_ends.NoNext = Unit {0}
MovedPaced u rounds (follow_ends.RootMoved seen) = rounds ≤ u.takes

pub followed_paced : (u : Tally) (rounds head tail : ℕ) (ending : FollowEnd) (post : Post) (desk : Desk) (told : List Event) → head_since u head (rounds - 1) → lag_since u head (tail == head + 1) (rounds - 1) → rounds_told u.rows rounds told ≡ rounds → MovedPaced u rounds ending → TurnPaced u rounds (dequeues.followed head tail ending post desk told)
followed_paced u rounds head tail (follow_ends.Followed slot) post desk told i l e m = row_paced u rounds head slot post desk told (tail == head + 1) (rw e i) (rw e l)
followed_paced u rounds head tail follow_ends.NoNext post desk told i l e m = clearing_next_paced u rounds (Answering answers.Empty) post desk told tt
followed_paced u rounds head tail (follow_ends.RootMoved seen) post desk told i l e m = clearing_next_paced u rounds Again post desk told (rw e m)

-- a row is filled

no_room_paced : (u : Tally) (rounds : ℕ) (task : Task) (walked : Bool) (post : Post) (desk : Desk) (told : List Event) → (walked ≡ false → task_paced u task (rounds_told u.rows rounds told)) → TurnPaced u rounds (clearing task (alters.no_room walked) post desk told)
no_room_paced u rounds task true post desk told l = clearing_paced u rounds task (Answering answers.Full) post desk told tt
no_room_paced u rounds task false post desk told l = clearing_paced u rounds task MakeRoom post desk told (l refl)

once_more : (rounds n : ℕ) (walked : Bool) → walked ≡ false → rounds - 1 ≤ n + once walked → rounds ≤ n + 1
once_more rounds n true w h = absurd (cc)
once_more rounds n false w h = omega (arith, h)

abbrev pub fills_something : Task → Bool
fills_something (Gets key) = false
fills_something (Changes kept) = true
fills_something (Holds key) = false
fills_something (Enqueues kept) = true
fills_something Dequeues = false

pub filled_by_paced : (u : Tally) (rounds : ℕ) (task : Task) (ending : AllocateEnd) (post : Post) (desk : Desk) (told : List Event) → fills_paced u task (rounds - 1) → fills_something task ≡ true → rounds_told u.rows rounds told ≡ rounds → TurnPaced u rounds (steps.filled_by task ending post desk told)
filled_by_paced u rounds (Gets key) ending post desk told f s e = absurd (cc)
filled_by_paced u rounds (Holds key) ending post desk told f s e = absurd (cc)
filled_by_paced u rounds Dequeues ending post desk told f s e = absurd (cc)
filled_by_paced u rounds (Changes kept) (allocate_ends.Given slot birth) post desk told f s e = rw e f
filled_by_paced u rounds (Changes kept) allocate_ends.Full post desk told f s e =
    no_room_paced u rounds (Changes (alters.with_walked kept)) kept.walked post desk told (λ w. rw e (once_more rounds (u.count (key_of kept.change % u.buckets)) kept.walked w f.lost_few))
filled_by_paced u rounds (Enqueues kept) (allocate_ends.Given slot birth) post desk told f s e = rw e f
filled_by_paced u rounds (Enqueues kept) allocate_ends.Full post desk told f s e =
    no_room_paced u rounds (Enqueues (enqueues.item_walked kept)) kept.walked post desk told (λ w. rw e (once_more rounds u.passes kept.walked w f.lost_few))

pub written_paced : (u : Tally) (rounds : ℕ) (task : Task) (post : Post) (desk : Desk) (told : List Event) → fills_paced u task (rounds - 1) → fills_something task ≡ true → rounds_told u.rows rounds told ≡ rounds → TurnPaced u rounds (steps.written_row task post desk told)
written_paced u rounds (Gets key) post desk told f s e = absurd (cc)
written_paced u rounds (Holds key) post desk told f s e = absurd (cc)
written_paced u rounds Dequeues post desk told f s e = absurd (cc)
written_paced u rounds (Changes kept) post desk told f s e = rw e f
written_paced u rounds (Enqueues kept) post desk told f s e = rw e f

-- what comes once in a call

tidying_paced : (u : Tally) (rounds : ℕ) (answer : Answer) (post : Post) (desk : Desk) (told : List Event) (due : Bool) → TurnPaced u rounds (steps.tidying answer post desk told due)
tidying_paced u rounds answer post desk told true = tidy_paced u (rounds_told u.rows rounds told) (Answered answer) post (moves_clock (scheme_of post)) tt
tidying_paced u rounds answer post desk told false = tt

pub retired_paced : (u : Tally) (rounds : ℕ) (answer : Answer) (ending : Ending) (post : Post) (desk : Desk) (told : List Event) → TurnPaced u rounds (steps.retired_by answer ending post desk told)
retired_paced u rounds answer (Retired life) post desk told = tidying_paced u rounds answer post (with_life desk life) told (post.retired % post.layout.config.every == 0)
retired_paced u rounds answer Done post desk told = tt
retired_paced u rounds answer (Protected ending) post desk told = tt
retired_paced u rounds answer (Followed ending) post desk told = tt
retired_paced u rounds answer (Allocated ending) post desk told = tt
retired_paced u rounds answer (Clocked clock) post desk told = tt

moved_paced : (u : Tally) (rounds : ℕ) (later : AfterScan) (clock : ClockMove) → later_paced u later rounds → later_paced u (steps.after_move later clock) rounds
moved_paced u rounds (Answered answer) clock l = tt
moved_paced u rounds (Repeated task) clock l = l
moved_paced u rounds Counted clock l = tt

pub tidied_paced : (u : Tally) (rounds : ℕ) (later : AfterScan) (ending : Ending) (post : Post) (desk : Desk) (told : List Event) → rounds_told u.rows rounds told ≡ rounds → later_paced u later rounds → TurnPaced u rounds (steps.tidied later ending post desk told)
tidied_paced u rounds later (Clocked clock) post desk told e l = rw e (moved_paced u rounds later clock l)
tidied_paced u rounds later Done post desk told e l = rw e l
tidied_paced u rounds later (Protected ending) post desk told e l = rw e l
tidied_paced u rounds later (Followed ending) post desk told e l = rw e l
tidied_paced u rounds later (Allocated ending) post desk told e l = rw e l
tidied_paced u rounds later (Retired life) post desk told e l = rw e l

pub advanced_paced : (u : Tally) (rounds : ℕ) (ending : Ending) (post : Post) (desk : Desk) (told : List Event) → TurnPaced u rounds (steps.advanced ending post desk told)
advanced_paced u rounds (Clocked clock) post desk told = tt
advanced_paced u rounds Done post desk told = tt
advanced_paced u rounds (Protected ending) post desk told = tt
advanced_paced u rounds (Followed ending) post desk told = tt
advanced_paced u rounds (Allocated ending) post desk told = tt
advanced_paced u rounds (Retired life) post desk told = tt

parting_paced : (u : Tally) (rounds : ℕ) (rows : Bool) (x : Option ℕ) → phase_paced u rounds (keeps.parting_index rows x)
parting_paced u rounds rows None = tt
parting_paced u rounds rows (Some index) = tt

pub parts_paced : (u : Tally) (rounds index : ℕ) (post : Post) → phase_paced u rounds (keeps.parting_from index post)
parts_paced u rounds index post = parting_paced u rounds (publishes_rows (scheme_of post)) (standing_from index (drop index post.standing))

pub released_paced : (u : Tally) (rounds : ℕ) (let_go : LetGo) (post : Post) (desk : Desk) (told : List Event) → rounds_told u.rows rounds told ≡ 0 → TurnPaced u rounds (keeps.released let_go post desk told)
released_paced u rounds Released post desk told e = tt
released_paced u rounds (Rehold key) post desk told e = round_paced u (rounds_told u.rows rounds told) (Holds key) post (omega (arith, e))
released_paced u rounds (Dropped index) post desk told e = tt
released_paced u rounds (Parting index) post desk told e = parts_paced u (rounds_told u.rows rounds told) (index + 1) post

-- a scan

scanned_paced : (u : Tally) (rounds : ℕ) (later : AfterScan) (post : Post) (desk : Desk) (told : List Event) → later_paced u later (rounds_told u.rows rounds told) → TurnPaced u rounds (scan.scanned later post desk told)
scanned_paced u rounds (Answered answer) post desk told l = tt
scanned_paced u rounds (Repeated task) post desk told l = round_paced u (rounds_told u.rows rounds told) task post l
scanned_paced u rounds Counted post desk told l = tt

gives_paced : (u : Tally) (rounds : ℕ) (later : AfterScan) (post : Post) (desk : Desk) (told : List Event) (x : Option scan.Entry) → later_paced u later (rounds_told u.rows rounds told) → TurnPaced u rounds (scan.giving_back later post desk told x)
gives_paced u rounds later post desk told None l = scanned_paced u rounds later post (scan.with_kept desk) told l
gives_paced u rounds later post desk told (Some entry) l = l

reads_paced : (u : Tally) (rounds : ℕ) (later : AfterScan) (number : ℕ) (post : Post) (desk : Desk) (told : List Event) (more : Bool) → later_paced u later (rounds_told u.rows rounds told) → TurnPaced u rounds (scan.reading later number post desk told more)
reads_paced u rounds later number post desk told true l = l
reads_paced u rounds later number post desk told false l = gives_paced u rounds later post desk told (scan.unmet_from desk 0) l

read_paced : (u : Tally) (rounds : ℕ) (later : AfterScan) (number : ℕ) (post : Post) (desk : Desk) (rows : Bool) (guard : Guard) (word : ℕ) → later_paced u later rounds → TurnPaced u rounds (scan.read_guard later number post desk rows guard word)
read_paced u rounds later number post desk false guard word l = reads_paced u rounds later number post (scan.with_read desk number (guard, published false guard word)) (events.Read guard (eras_in guard word) ∷ []) (nat_lt (number + 1) (guards post.layout.config)) l
read_paced u rounds later number post desk true guard word l = reads_paced u rounds later number post (scan.with_read desk number (guard, published true guard word)) (events.Saw guard (linked_row word) ∷ []) (nat_lt (number + 1) (guards post.layout.config)) l

pub scan_paced : (u : Tally) (rounds : ℕ) (later : AfterScan) (at : ScanAt) (post : Post) (desk : Desk) (found : ℕ) → later_paced u later rounds → TurnPaced u rounds (scan.scan_turn later at post desk found)
scan_paced u rounds later (ReadGuard number) post desk found l = read_paced u rounds later number post desk (publishes_rows post.layout.config.scheme) (guard_at post.layout.config number) found l
scan_paced u rounds later (GiveBack place slot) post desk found l = gives_paced u rounds later post (scan.with_back desk place) (events.Back slot ∷ []) (scan.unmet_from (scan.with_back desk place) place) l

-- a call's own steps

-- what a step of a call's own has found, and has lost
abbrev pub WorkNow : Tally → ℕ → Work → ℕ → Type 0
WorkNow u rounds (Getting key at) found = Unit {0}
WorkNow u rounds (Changing kept (LoadVersion slot)) found = Unit {0}
WorkNow u rounds (Changing kept (LoadCount slot)) found = Unit {0}
WorkNow u rounds (Changing kept (LoadKey slot count)) found = Unit {0}
WorkNow u rounds (Changing kept (LoadValue slot count key)) found = Unit {0}
WorkNow u rounds (Changing kept (ExchangeRoot slot)) found = (found == kept.link) ≡ false → rounds ≤ changes_so_far u kept
WorkNow u rounds (Enqueuing kept LoadNumber) found = Unit {0}
WorkNow u rounds (Enqueuing kept LoadNext) found = (found == 0) ≡ true → (u.next kept.tail == 0) ≡ true
WorkNow u rounds (Enqueuing kept (PassTail next)) found = rounds ≤ passes_so_far u kept
WorkNow u rounds (Enqueuing kept (ExchangeNext slot)) found = (found == 0) ≡ false → rounds ≤ passes_so_far u kept
WorkNow u rounds (Enqueuing kept (ExchangeTail slot)) found = Unit {0}
WorkNow u rounds (Dequeuing (LoadTail head)) found = (found == head + 1) ≡ true → (u.tail == head + 1) ≡ true
WorkNow u rounds (Dequeuing (SwingTail head next)) found = rounds ≤ u.takes
WorkNow u rounds (Dequeuing (TakeNumber head next)) found = Unit {0}
WorkNow u rounds (Dequeuing (TakeValue head next number)) found = Unit {0}
WorkNow u rounds (Dequeuing (ExchangeHead head next number value)) found = (found == head + 1) ≡ false → rounds ≤ u.takes
WorkNow u rounds (Keeping at) found = Unit {0}

got_paced : (u : Tally) (rounds key version : ℕ) (value : Option ℕ) (post : Post) (desk : Desk) (told : List Event) → TurnPaced u rounds (gets.got key version value post desk told)
got_paced u rounds key version value post desk told = clearing_paced u rounds (Gets key) (Answering (answers.Got version value)) post desk (told ++ events.Got (bucket_of post key) version key value ∷ []) tt

finding_paced : (u : Tally) (rounds key slot version count : ℕ) (post : Post) (desk : Desk) (more : Bool) (pair : ℕ) → TurnPaced u rounds (gets.finding key slot version count post desk more pair)
finding_paced u rounds key slot version count post desk true pair = tt
finding_paced u rounds key slot version count post desk false pair = got_paced u rounds key version None post desk []

key_paced : (u : Tally) (rounds key slot version count pair : ℕ) (post : Post) (desk : Desk) (own : Bool) → TurnPaced u rounds (gets.found_key key slot version count pair post desk own)
key_paced u rounds key slot version count pair post desk true = tt
key_paced u rounds key slot version count pair post desk false = finding_paced u rounds key slot version count post desk (nat_lt (pair + 1) count) (pair + 1)

get_paced : (u : Tally) (rounds key : ℕ) (at : GetAt) (post : Post) (desk : Desk) (found : ℕ) → TurnPaced u rounds (gets.get_turn key at post desk found)
get_paced u rounds key (FindVersion slot) post desk found = tt
get_paced u rounds key (FindCount slot version) post desk found = finding_paced u rounds key slot version found post desk (nat_lt 0 found) 0
get_paced u rounds key (FindKey slot version count pair) post desk found = key_paced u rounds key slot version count pair post desk (found == key)
get_paced u rounds key (FindValue slot version pair) post desk found = got_paced u rounds key version (Some found) post desk []

reading_paced : (u : Tally) (rounds : ℕ) (kept : ChangeKept) (slot count : ℕ) (post : Post) (desk : Desk) (more : Bool) → root_since u kept (rounds - 1) → TurnPaced u rounds (alters.reading kept slot count post desk more)
reading_paced u rounds kept slot count post desk true i = i
reading_paced u rounds kept slot count post desk false i = deciding_paced u rounds kept post desk [] i

done_paced : (u : Tally) (rounds version link : ℕ) (task : Task) → next_paced u task (alters.answer_done version link) rounds
done_paced u rounds version link task =
    if_by (link == 0) (Answering (answers.Done version moves.Still)) (Retiring (link - 1) (answers.Done version moves.Still)) (λ (next : Next). next_paced u task next rounds) (λ e. tt) (λ e. tt)

exchanged_paced : (u : Tally) (rounds : ℕ) (kept : ChangeKept) (slot : ℕ) (post : Post) (desk : Desk) (same : Bool) → (same ≡ false → rounds ≤ changes_so_far u kept) → TurnPaced u rounds (alters.exchanged kept slot post desk same)
exchanged_paced u rounds kept slot post desk true l =
    clearing_paced u rounds (Changes (record kept { taken = None })) (alters.answer_done (kept.version + 1) kept.link) post desk (alters.told_linked kept slot post) (done_paced u (rounds_told u.rows rounds (alters.told_linked kept slot post)) (kept.version + 1) kept.link (Changes (record kept { taken = None })))
exchanged_paced u rounds kept slot post desk false l = clearing_paced u rounds (Changes kept) Again post desk [] (l refl)

change_paced : (u : Tally) (rounds : ℕ) (kept : ChangeKept) (at : ChangeAt) (post : Post) (desk : Desk) (found : ℕ) → root_since u kept (rounds - 1) → WorkNow u rounds (Changing kept at) found → TurnPaced u rounds (alters.change_turn kept at post desk found)
change_paced u rounds kept (LoadVersion slot) post desk found i l = i
change_paced u rounds kept (LoadCount slot) post desk found i l = reading_paced u rounds kept slot found post desk (nat_lt 0 found) i
change_paced u rounds kept (LoadKey slot count) post desk found i l = i
change_paced u rounds kept (LoadValue slot count key) post desk found i l = reading_paced u rounds (alters.with_read kept key found) slot count post desk (nat_lt (length kept.pairs + 1) count) i
change_paced u rounds kept (ExchangeRoot slot) post desk found i l = exchanged_paced u rounds kept slot post desk (found == kept.link) l

appending_paced : (u : Tally) (rounds : ℕ) (kept : EnqueueKept) (post : Post) (desk : Desk) (spent : Bool) → next_since u kept (rounds - 1) → TurnPaced u rounds (enqueues.appending kept post desk spent)
appending_paced u rounds kept post desk true i = clearing_paced u rounds (Enqueues kept) (Answering (answers.Spent kept.number)) post desk [] tt
appending_paced u rounds kept post desk false i = i

at_next_paced : (u : Tally) (rounds : ℕ) (kept : EnqueueKept) (next : ℕ) (post : Post) (desk : Desk) (none : Bool) → tail_since u kept (rounds - 1) → (none ≡ true → (u.next kept.tail == 0) ≡ true) → TurnPaced u rounds (enqueues.at_next kept next post desk none)
at_next_paced u rounds kept next post desk true i l =
    appending_paced u rounds kept post desk (kept.number == post.layout.config.last_version) (record { lost_few = i.lost_few; moved = or_left_true (u.next kept.tail == 0) (nat_le (rounds - 1 + 1) (passes_so_far u kept)) (l refl) })
at_next_paced u rounds kept next post desk false i l = i

appended_paced : (u : Tally) (rounds : ℕ) (kept : EnqueueKept) (slot : ℕ) (post : Post) (desk : Desk) (same : Bool) → (same ≡ false → rounds ≤ passes_so_far u kept) → TurnPaced u rounds (enqueues.appended kept slot post desk same)
appended_paced u rounds kept slot post desk true l = tt
appended_paced u rounds kept slot post desk false l = clearing_paced u rounds (Enqueues kept) Again post desk [] (l refl)

told_same : (u : Tally) (rounds : ℕ) (task : Task) (told : List Event) → rounds_told u.rows rounds told ≡ rounds → task_paced u task rounds → task_paced u task (rounds_told u.rows rounds told)
told_same u rounds task told e l = rw e l

enqueue_turn_paced : (u : Tally) (rounds : ℕ) (kept : EnqueueKept) (at : EnqueueAt) (post : Post) (desk : Desk) (found : ℕ) → enqueue_paced u kept at (rounds - 1) → WorkNow u rounds (Enqueuing kept at) found → TurnPaced u rounds (enqueues.enqueue_turn kept at post desk found)
enqueue_turn_paced u rounds kept LoadNumber post desk found i l = i
enqueue_turn_paced u rounds kept LoadNext post desk found i l = at_next_paced u rounds kept found post desk (found == 0) i l
enqueue_turn_paced u rounds kept (PassTail next) post desk found i l =
    let told : List Event = enqueues.told_link roots.Tail (next - 1) (found == kept.tail + 1) in
    clearing_paced u rounds (Enqueues kept) Again post desk told (told_same u rounds (Enqueues kept) told (link_told u.rows rounds roots.Tail (next - 1) (found == kept.tail + 1)) l)
enqueue_turn_paced u rounds kept (ExchangeNext slot) post desk found i l = appended_paced u rounds kept slot post desk (found == 0) l
enqueue_turn_paced u rounds kept (ExchangeTail slot) post desk found i l = clearing_paced u rounds (Enqueues kept) (Answering (answers.Queued (kept.number + 1))) post desk (enqueues.told_link roots.Tail slot (found == kept.tail + 1)) tt

lag_now : (u : Tally) (head lost : ℕ) (lags : Bool) → head_since u head lost → (lags ≡ true → (u.tail == head + 1) ≡ true) → lag_since u head lags lost
lag_now u head lost true i l = record { lost_few = i.lost_few; moved = or_left_true (u.tail == head + 1) (nat_le (lost + 1) u.takes) (l refl) }
lag_now u head lost false i l = tt

taken_paced : (u : Tally) (rounds head next number value : ℕ) (post : Post) (desk : Desk) (same : Bool) → (same ≡ false → rounds ≤ u.takes) → TurnPaced u rounds (dequeues.taken head next number value post desk same)
taken_paced u rounds head next number value post desk true l =
    clearing_next_paced u rounds (Retiring head (answers.Taken number value moves.Still)) post desk (events.Link roots.Head next ∷ events.Cut head ∷ events.Taken number value ∷ []) tt
taken_paced u rounds head next number value post desk false l = clearing_next_paced u rounds Again post desk [] (l refl)

dequeue_turn_paced : (u : Tally) (rounds : ℕ) (at : DequeueAt) (post : Post) (desk : Desk) (found : ℕ) → dequeue_paced u at (rounds - 1) → WorkNow u rounds (Dequeuing at) found → TurnPaced u rounds (dequeues.dequeue_turn at post desk found)
dequeue_turn_paced u rounds (LoadTail head) post desk found i l = (i, lag_now u head (rounds - 1) (found == head + 1) i l)
dequeue_turn_paced u rounds (SwingTail head next) post desk found i l =
    let told : List Event = enqueues.told_link roots.Tail next (found == head + 1) in
    clearing_next_paced u rounds Again post desk told (told_same u rounds Dequeues told (link_told u.rows rounds roots.Tail next (found == head + 1)) l)
dequeue_turn_paced u rounds (TakeNumber head next) post desk found i l = i
dequeue_turn_paced u rounds (TakeValue head next number) post desk found i l = i
dequeue_turn_paced u rounds (ExchangeHead head next number value) post desk found i l = taken_paced u rounds head next number value post desk (found == head + 1) l

copied_paced : (u : Tally) (rounds from index : ℕ) (post : Post) (desk : Desk) (reserved : List Event) (x : Option ℕ) → TurnPaced u rounds (keeps.copied from index post desk reserved x)
copied_paced u rounds from index post desk reserved (Some slot) = tt
copied_paced u rounds from index post desk reserved None = tt

held_paced : (u : Tally) (rounds from index : ℕ) (post : Post) (desk : Desk) (found : ℕ) (one : Bool) → TurnPaced u rounds (keeps.load_held from index post desk found one)
held_paced u rounds from index post desk found true = copied_paced u rounds from index post desk [] (stands post from)
held_paced u rounds from index post desk found false = tt

looking_paced : (u : Tally) (rounds index key slot version count : ℕ) (post : Post) (desk : Desk) (more : Bool) (pair : ℕ) → TurnPaced u rounds (keeps.looking index key slot version count post desk more pair)
looking_paced u rounds index key slot version count post desk true pair = tt
looking_paced u rounds index key slot version count post desk false pair = tt

looked_paced : (u : Tally) (rounds index key slot version count pair : ℕ) (post : Post) (desk : Desk) (own : Bool) → TurnPaced u rounds (keeps.looked_key index key slot version count pair post desk own)
looked_paced u rounds index key slot version count pair post desk true = tt
looked_paced u rounds index key slot version count pair post desk false = looking_paced u rounds index key slot version count post desk (nat_lt (pair + 1) count) (pair + 1)

look_paced : (u : Tally) (rounds index key : ℕ) (at : GetAt) (post : Post) (desk : Desk) (found : ℕ) → TurnPaced u rounds (keeps.look_turn index key at post desk found)
look_paced u rounds index key (FindVersion slot) post desk found = tt
look_paced u rounds index key (FindCount slot version) post desk found = looking_paced u rounds index key slot version found post desk (nat_lt 0 found) 0
look_paced u rounds index key (FindKey slot version count pair) post desk found = looked_paced u rounds index key slot version count pair post desk (found == key)
look_paced u rounds index key (FindValue slot version pair) post desk found = tt

taking_paced : (u : Tally) (rounds place : ℕ) (post : Post) (desk : Desk) (left : Bool) (found : ℕ) → TurnPaced u rounds (keeps.taking place post desk left found)
taking_paced u rounds place post desk true found = tt
taking_paced u rounds place post desk false found = tt

keep_paced : (u : Tally) (rounds : ℕ) (at : KeepAt) (post : Post) (desk : Desk) (found : ℕ) → rounds ≡ 0 → TurnPaced u rounds (keeps.keep_turn at post desk found)
keep_paced u rounds (Loosens let_go) post desk found z = released_paced u rounds let_go (withdrawn post (let_index let_go)) desk (cleared (let_index let_go) (stands post (let_index let_go))) (cleared_rounds u.rows rounds (let_index let_go) (stands post (let_index let_go)) ∙ z)
keep_paced u rounds (LoadHeld from index) post desk found z = held_paced u rounds from index post desk found (has_one_interval (scheme_of post))
keep_paced u rounds (StoreHeld from index era) post desk found z = copied_paced u rounds from index post desk (publishes_index (publishes_rows (scheme_of post)) post index era) (stands post from)
keep_paced u rounds (Looks index key at) post desk found z = look_paced u rounds index key at post desk found
keep_paced u rounds (Misses index) post desk found z = tt
keep_paced u rounds HideSpan post desk found z = tt
keep_paced u rounds MarkLeft post desk found z = tt
keep_paced u rounds (TakeList place) post desk found z = taking_paced u rounds place post desk (found == 1) found
keep_paced u rounds (MarkTaken place count) post desk found z = tt

pub work_turn_paced : (u : Tally) (c : Config) (rounds : ℕ) (work : Work) (post : Post) (desk : Desk) (found : ℕ) → work_paced u work (rounds - 1) → work_fit c rounds work → WorkNow u rounds work found → TurnPaced u rounds (steps.work_turn work post desk found)
work_turn_paced u c rounds (Getting key at) post desk found i f l = get_paced u rounds key at post desk found
work_turn_paced u c rounds (Changing kept at) post desk found i f l = change_paced u rounds kept at post desk found i l
work_turn_paced u c rounds (Enqueuing kept at) post desk found i f l = enqueue_turn_paced u rounds kept at post desk found i l
work_turn_paced u c rounds (Dequeuing at) post desk found i f l = dequeue_turn_paced u rounds at post desk found i l
work_turn_paced u c rounds (Keeping at) post desk found i f l = keep_paced u rounds at post desk found f
