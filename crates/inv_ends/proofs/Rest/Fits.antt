-- What comes after a machine or a step of a call's own has lost no more rounds than its task may.
use Rattle.std.proofs.Common.{ℕ, ◌≡◌, ◌≤◌, ◌+◌, Bool, true, false, [], ◌∷◌, arith, refl, sym, subst}
use Rattle.inv_rows.specs.model.Change as alters
use Rattle.inv_rows.specs.model.Enqueue as enqueues
use Rattle.inv_rows.specs.model.Dequeue as dequeues
use Rattle.inv_rows.specs.model.Keep as keeps
use Rattle.inv_rows.specs.model.Steps as steps
use Rattle.inv_rows.specs.model.Scan as scan
use Rattle.inv_rows.specs.defs.declared.event.Event.TheVariants as events
use Rattle.inv_rows.specs.defs.declared.call.Answer.TheVariants as answers
use Rattle.inv_rows.specs.model.declared.ends.FollowEnd.TheVariants as follow_ends
use Rattle.inv_rows.specs.model.declared.ends.AllocateEnd.TheVariants as allocate_ends
use Rattle.inv_rows.specs.model.Calls.{AfterScan, CallOutcome, CallTurn, ChangeKept, LetGo, Next, ScanAt, Task}
use Rattle.inv_rows.specs.model.Calls.AfterScan.{Answered, Counted, Repeated}
use Rattle.inv_rows.specs.model.Calls.CallOutcome.{Answers, GoesOn}
use Rattle.inv_rows.specs.model.Calls.LetGo.{Dropped, Parting, Rehold, Released}
use Rattle.inv_rows.specs.model.Calls.Next.{Again, Answering, MakeRoom, Retiring}
use Rattle.inv_rows.specs.model.Calls.ScanAt.{GiveBack, ReadGuard}
use Rattle.inv_rows.specs.model.Calls.Task.{Changes, Dequeues, Enqueues, Gets, Holds}
use Rattle.inv_rows.specs.model.Desks.{Desk, with_life}
use Rattle.inv_rows.specs.model.Guards.{guard_at, guards, eras_in, published, linked_row}
use Rattle.inv_rows.specs.model.Phases.{Ending, Base}
use Rattle.inv_rows.specs.model.Phases.Ending.{Allocated, Clocked, Done, Followed, Protected, Retired}
use Rattle.inv_rows.specs.model.Rest.{has_walked, rounds_most}
use Rattle.inv_rows.specs.model.Rounds.{begin_base, begin_span, bucket_of, clear_base, clear_post, clear_told, clearing, clearing_by, clearing_next, clearing_next_by, closed, finish_base, finish_span, finishing, finishing_by, given_up, index_of, kept_row, opening, root_of, round, round_by, scheme_of, taken_of, tidy_by}
use Rattle.inv_rows.specs.model.declared.ends.AllocateEnd.{AllocateEnd}
use Rattle.inv_rows.specs.model.declared.ends.FollowEnd.{FollowEnd}
use Rattle.inv_rows.specs.model.declared.post.Post.{Post}
use Rattle.inv_rows.specs.defs.Entry.{entry}
use Rattle.inv_rows.specs.defs.declared.call.Answer.{Answer}
use Rattle.inv_rows.specs.defs.declared.call.ClockMove.{ClockMove}
use Rattle.inv_rows.specs.defs.declared.event.Event.{Event}
use Rattle.inv_rows.specs.defs.declared.lifetime.Interval.{Interval}
use Rattle.inv_ends.proofs.Rest.Closings.{cleared_told, opened_untold, spare}
use Rattle.inv_ends.specs.Losses.{InRound, fills_fit, finish_fit, is_queue, later_fit, lost_fit, next_fit, opens_fit, phase_fit, hold_fit, rounds_in}
use Rattle.inv_rows.specs.words.declared.config.Config.{Config}
use Rattle.inv_rows.specs.words.declared.config.SchemeKind.{SchemeKind}
use Rattle.std.specs.Prelude.{List, ◌++◌, Option, Some, None, nat_lt, ◌==◌, ◌%◌, drop}
use Rattle.inv_rows.proofs.model.Schemes.{each_begin, each_clear, each_finish}
use Rattle.inv_rows.specs.model.Posts.{standing_from}
use Rattle.inv_rows.specs.words.Schemes.{publishes_rows, moves}
use Rattle.inv_rows.specs.defs.declared.event.Guard.{Guard}

abbrev pub outcome_fit : Config → ℕ → CallOutcome → Type 0
outcome_fit c rounds (GoesOn phase) = phase_fit c rounds phase
outcome_fit c rounds (Answers answer) = Unit {0}

-- what a turn leaves
abbrev pub TurnFit : Config → ℕ → CallTurn → Type 0
TurnFit c rounds t = outcome_fit c (rounds_in c rounds t.told) t.outcome

lost_opens : (c : Config) (rounds : ℕ) (task : Task) → lost_fit c rounds task → opens_fit c rounds task false
lost_opens c rounds (Gets key) l = l.few
lost_opens c rounds (Changes kept) l = l.few
lost_opens c rounds (Holds key) l = absurd (cc)
lost_opens c rounds (Enqueues kept) l = l.few
lost_opens c rounds Dequeues l = l.few

-- a hold begins with no round lost
pub hold_opens : (c : Config) (rounds key : ℕ) → rounds ≡ 0 → opens_fit c rounds (Holds key) false
hold_opens c rounds key e = by_scheme (publishes_rows c.scheme)
  where
    by_scheme : (rows : Bool) → hold_fit rows (rounds_most c (Holds key)) rounds false
    by_scheme true = omega (arith, e)
    by_scheme false = e

pub opening_fit : (c : Config) (rounds : ℕ) (task : Task) (post : Post) → opens_fit c rounds task false → phase_fit c rounds (opening task post)
opening_fit c rounds task post o = rw (opened_untold (scheme_of post) (index_of task) (root_of task post)) o

span_round : (c : Config) (rounds : ℕ) (task : Task) (post : Post) (span : Option Interval) → opens_fit c rounds task false → phase_fit c rounds (round_by task post (begin_span span))
span_round c rounds task post None o = o
span_round c rounds task post (Some span) o = opening_fit c rounds task post o

scheme_round : (c : Config) (rounds : ℕ) (task : Task) (post : Post) (scheme : SchemeKind) → opens_fit c rounds task false → phase_fit c rounds (round_by task post (begin_base scheme post))
scheme_round c rounds task post scheme o =
    each_begin scheme post (λ (base : Option Base). phase_fit c rounds (round_by task post base))
    (opening_fit c rounds task post o)
    (span_round c rounds task post post.span o)

pub round_fit : (c : Config) (rounds : ℕ) (task : Task) (post : Post) → opens_fit c rounds task false → phase_fit c rounds (round task post)
round_fit c rounds task post o = scheme_round c rounds task post (scheme_of post) o

given_fit : (c : Config) (rounds : ℕ) (answer : Answer) (post : Post) (desk : Desk) (told : List Event) (taken : Option ℕ) → TurnFit c rounds (given_up answer post desk told taken)
given_fit c rounds answer post desk told None = tt
given_fit c rounds answer post desk told (Some slot) = tt

-- a list is tidied by a move of the clock, where retirements move it, and a scan
tidy_fit : (c : Config) (rounds : ℕ) (later : AfterScan) (post : Post) (moving : Bool) → later_fit c rounds later → phase_fit c rounds (tidy_by moving later post)
tidy_fit c rounds later post true l = l
tidy_fit c rounds later post false l = l

pub closed_fit : (c : Config) (rounds : ℕ) (task : Task) (next : Next) (post : Post) (desk : Desk) (told : List Event) → next_fit c (rounds_in c rounds told) task next → TurnFit c rounds (closed task next post desk told)
closed_fit c rounds task Again post desk told n = round_fit c (rounds_in c rounds told) task post (lost_opens c (rounds_in c rounds told) task n)
closed_fit c rounds task MakeRoom post desk told n = tidy_fit c (rounds_in c rounds told) (Repeated task) post (moves (scheme_of post)) n
closed_fit c rounds task (Answering answer) post desk told n = given_fit c rounds answer post desk told (taken_of task)
closed_fit c rounds task (Retiring slot answer) post desk told n = tt

-- a round that is finished is not followed by another at once
finish_of : (c : Config) (rounds : ℕ) (task : Task) (next : Next) → spare next ≡ 1 → next_fit c rounds task next → finish_fit c rounds task next
finish_of c rounds task Again e n = absurd (cc)
finish_of c rounds task MakeRoom e n = n
finish_of c rounds task (Answering answer) e n = tt
finish_of c rounds task (Retiring slot answer) e n = tt

span_finish : (c : Config) (rounds : ℕ) (task : Task) (next : Next) (post : Post) (desk : Desk) (told : List Event) (stood : Option ℕ) → spare next ≡ 1 → next_fit c (rounds_in c rounds told) task next → TurnFit c rounds (finishing_by task next post desk told (finish_span stood))
span_finish c rounds task next post desk told None e n = finish_of c (rounds_in c rounds told) task next e n
span_finish c rounds task next post desk told (Some slot) e n = closed_fit c rounds task next post desk told n

scheme_finish : (c : Config) (rounds : ℕ) (task : Task) (next : Next) (post : Post) (desk : Desk) (told : List Event) (scheme : SchemeKind) → spare next ≡ 1 → next_fit c (rounds_in c rounds told) task next → TurnFit c rounds (finishing_by task next post desk told (finish_base scheme post))
scheme_finish c rounds task next post desk told scheme e n =
    each_finish scheme post (λ (base : Option Base). TurnFit c rounds (finishing_by task next post desk told base))
    (closed_fit c rounds task next post desk told n)
    (span_finish c rounds task next post desk told (kept_row post) e n)

pub finishing_fit : (c : Config) (rounds : ℕ) (task : Task) (next : Next) (post : Post) (desk : Desk) (told : List Event) → next_fit c (rounds_in c rounds told) task next → TurnFit c rounds (finishing task next post desk told)
finishing_fit c rounds task Again post desk told n = closed_fit c rounds task Again post desk told n
finishing_fit c rounds task MakeRoom post desk told n = scheme_finish c rounds task MakeRoom post desk told (scheme_of post) refl n
finishing_fit c rounds task (Answering answer) post desk told n = scheme_finish c rounds task (Answering answer) post desk told (scheme_of post) refl n
finishing_fit c rounds task (Retiring slot answer) post desk told n = scheme_finish c rounds task (Retiring slot answer) post desk told (scheme_of post) refl n

cleared_finish : (c : Config) (rounds : ℕ) (task : Task) (next : Next) (post left : Post) (index : ℕ) (desk : Desk) (told : List Event) → next_fit c (rounds_in c rounds told) task next → TurnFit c rounds (finishing task next left desk (told ++ clear_told (scheme_of post) post index))
cleared_finish c rounds task next post left index desk told n =
    finishing_fit c rounds task next left desk (told ++ clear_told (scheme_of post) post index) (subst (λ (r : ℕ). next_fit c r task next) (sym (cleared_told (publishes_rows c.scheme) rounds index told post)) n)

clearing_by_fit : (c : Config) (rounds : ℕ) (task : Task) (next : Next) (post : Post) (desk : Desk) (told : List Event) (scheme : SchemeKind) → next_fit c (rounds_in c rounds told) task next → TurnFit c rounds (clearing_by task next post desk told (clear_base scheme (index_of task)))
clearing_by_fit c rounds task next post desk told scheme n =
    each_clear scheme (index_of task) (λ (base : Option Base). TurnFit c rounds (clearing_by task next post desk told base))
    n
    (cleared_finish c rounds task next post (clear_post (scheme_of post) post (index_of task)) (index_of task) desk told n)

pub clearing_fit : (c : Config) (rounds : ℕ) (task : Task) (next : Next) (post : Post) (desk : Desk) (told : List Event) → next_fit c (rounds_in c rounds told) task next → TurnFit c rounds (clearing task next post desk told)
clearing_fit c rounds task next post desk told n = clearing_by_fit c rounds task next post desk told (scheme_of post) n

cleared_clear : (c : Config) (rounds : ℕ) (next : Next) (post left : Post) (desk : Desk) (told : List Event) → next_fit c (rounds_in c rounds told) Dequeues next → TurnFit c rounds (clearing Dequeues next left desk (told ++ clear_told (scheme_of post) post 1))
cleared_clear c rounds next post left desk told n =
    clearing_fit c rounds Dequeues next left desk (told ++ clear_told (scheme_of post) post 1) (subst (λ (r : ℕ). next_fit c r Dequeues next) (sym (cleared_told (publishes_rows c.scheme) rounds 1 told post)) n)

clearing_next_by_fit : (c : Config) (rounds : ℕ) (next : Next) (post : Post) (desk : Desk) (told : List Event) (scheme : SchemeKind) → next_fit c (rounds_in c rounds told) Dequeues next → TurnFit c rounds (clearing_next_by next post desk told (clear_base scheme 1))
clearing_next_by_fit c rounds next post desk told scheme n =
    each_clear scheme 1 (λ (base : Option Base). TurnFit c rounds (clearing_next_by next post desk told base))
    n
    (cleared_clear c rounds next post (clear_post (scheme_of post) post 1) desk told n)

pub clearing_next_fit : (c : Config) (rounds : ℕ) (next : Next) (post : Post) (desk : Desk) (told : List Event) → next_fit c (rounds_in c rounds told) Dequeues next → TurnFit c rounds (clearing_next next post desk told)
clearing_next_fit c rounds next post desk told n = clearing_next_by_fit c rounds next post desk told (scheme_of post) n

-- a root was found

in_round : (most rounds lost : ℕ) → rounds ≡ lost + 1 → lost ≤ most → InRound most rounds
in_round most rounds lost e h = record { told = omega (arith, e); few = omega (arith, e, h) }

pub opened_row_fit : (c : Config) (rounds : ℕ) (task : Task) (slot : ℕ) (post : Post) (desk : Desk) (told : List Event) (lost : ℕ) → rounds_in c rounds told ≡ lost + 1 → lost ≤ rounds_most c task → TurnFit c rounds (steps.opened_row task slot post desk told)
opened_row_fit c rounds (Gets key) slot post desk told lost e h = in_round (rounds_most c (Gets key)) (rounds_in c rounds told) lost e h
opened_row_fit c rounds (Changes kept) slot post desk told lost e h = in_round (rounds_most c (Changes kept)) (rounds_in c rounds told) lost e h
opened_row_fit c rounds (Holds key) slot post desk told lost e h = tt
opened_row_fit c rounds (Enqueues kept) slot post desk told lost e h = in_round (rounds_most c (Enqueues kept)) (rounds_in c rounds told) lost e h
opened_row_fit c rounds Dequeues slot post desk told lost e h = in_round (rounds_most c Dequeues) (rounds_in c rounds told) lost e h

deciding_by_fit : (c : Config) (rounds : ℕ) (kept : ChangeKept) (post : Post) (desk : Desk) (told : List Event) (refused : Option Answer) → InRound (rounds_most c (Changes kept)) (rounds_in c rounds told) → TurnFit c rounds (alters.deciding_by kept post desk told refused)
deciding_by_fit c rounds kept post desk told (Some answer) i = clearing_fit c rounds (Changes kept) (Answering answer) post desk told tt
deciding_by_fit c rounds kept post desk told None i = i

pub deciding_fit : (c : Config) (rounds : ℕ) (kept : ChangeKept) (post : Post) (desk : Desk) (told : List Event) → InRound (rounds_most c (Changes kept)) (rounds_in c rounds told) → TurnFit c rounds (alters.deciding kept post desk told)
deciding_fit c rounds kept post desk told i = deciding_by_fit c rounds kept post desk told (alters.refused post.layout.config kept) i

pub opened_null_fit : (c : Config) (rounds : ℕ) (task : Task) (post : Post) (desk : Desk) (told : List Event) (lost : ℕ) → is_queue task ≡ false → rounds_in c rounds told ≡ lost + 1 → lost ≤ rounds_most c task → TurnFit c rounds (steps.opened_null task post desk told)
opened_null_fit c rounds (Gets key) post desk told lost q e h = clearing_fit c rounds (Gets key) (Answering (answers.Got 0 None)) post desk (told ++ events.Got (bucket_of post key) 0 key None ∷ []) tt
opened_null_fit c rounds (Changes kept) post desk told lost q e h = deciding_fit c rounds (alters.at_link kept 0) post desk told (in_round (rounds_most c (Changes kept)) (rounds_in c rounds told) lost e h)
opened_null_fit c rounds (Holds key) post desk told lost q e h = clearing_fit c rounds (Holds key) (Answering answers.Nothing) post desk told tt
opened_null_fit c rounds (Enqueues kept) post desk told lost q e h = absurd (cc)
opened_null_fit c rounds Dequeues post desk told lost q e h = absurd (cc)

-- a follow

row_fit : (c : Config) (rounds head next : ℕ) (post : Post) (desk : Desk) (told : List Event) (lags : Bool) → InRound (rounds_most c Dequeues) (rounds_in c rounds told) → TurnFit c rounds (dequeues.followed_row head next post desk told lags)
row_fit c rounds head next post desk told true i = i
row_fit c rounds head next post desk told false i = i

-- a follow whose head has moved has lost its round
abbrev pub MovedFew : Config → ℕ → FollowEnd → Type 0
MovedFew c rounds (follow_ends.Followed slot) = Unit {0}
MovedFew c rounds follow_ends.NoNext = Unit {0}
MovedFew c rounds (follow_ends.RootMoved seen) = rounds ≤ rounds_most c Dequeues

pub followed_fit : (c : Config) (rounds head tail : ℕ) (ending : FollowEnd) (post : Post) (desk : Desk) (told : List Event) → InRound (rounds_most c Dequeues) rounds → rounds_in c rounds told ≡ rounds → MovedFew c rounds ending → TurnFit c rounds (dequeues.followed head tail ending post desk told)
followed_fit c rounds head tail (follow_ends.Followed slot) post desk told i e m = row_fit c rounds head slot post desk told (tail == head + 1) (rw e i)
followed_fit c rounds head tail follow_ends.NoNext post desk told i e m = clearing_next_fit c rounds (Answering answers.Empty) post desk told tt
followed_fit c rounds head tail (follow_ends.RootMoved seen) post desk told i e m = clearing_next_fit c rounds Again post desk told (rw e (record { told = i.told; few = m }))

-- a row is filled

no_room_fit : (c : Config) (rounds : ℕ) (task : Task) (walked : Bool) (post : Post) (desk : Desk) (told : List Event) → (walked ≡ false → lost_fit c (rounds_in c rounds told) task) → TurnFit c rounds (clearing task (alters.no_room walked) post desk told)
no_room_fit c rounds task true post desk told l = clearing_fit c rounds task (Answering answers.Full) post desk told tt
no_room_fit c rounds task false post desk told l = clearing_fit c rounds task MakeRoom post desk told (l refl)

pub filled_by_fit : (c : Config) (rounds : ℕ) (task : Task) (ending : AllocateEnd) (post : Post) (desk : Desk) (told : List Event) → fills_fit c rounds task → rounds_in c rounds told ≡ rounds → (ending ≡ allocate_ends.Full → has_walked task ≡ false → rounds ≤ rounds_most c task) → TurnFit c rounds (steps.filled_by task ending post desk told)
filled_by_fit c rounds (Gets key) ending post desk told f e l = absurd (cc)
filled_by_fit c rounds (Holds key) ending post desk told f e l = absurd (cc)
filled_by_fit c rounds Dequeues ending post desk told f e l = absurd (cc)
filled_by_fit c rounds (Changes kept) (allocate_ends.Given slot birth) post desk told f e l = rw e f
filled_by_fit c rounds (Changes kept) allocate_ends.Full post desk told f e l = no_room_fit c rounds (Changes (alters.with_walked kept)) kept.walked post desk told (λ w. rw e (record { told = f.told; few = l refl w }))
filled_by_fit c rounds (Enqueues kept) (allocate_ends.Given slot birth) post desk told f e l = rw e f
filled_by_fit c rounds (Enqueues kept) allocate_ends.Full post desk told f e l = no_room_fit c rounds (Enqueues (enqueues.item_walked kept)) kept.walked post desk told (λ w. rw e (record { told = f.told; few = l refl w }))

pub written_fit : (c : Config) (rounds : ℕ) (task : Task) (post : Post) (desk : Desk) (told : List Event) → fills_fit c rounds task → rounds_in c rounds told ≡ rounds → TurnFit c rounds (steps.written_row task post desk told)
written_fit c rounds (Gets key) post desk told f e = absurd (cc)
written_fit c rounds (Holds key) post desk told f e = absurd (cc)
written_fit c rounds Dequeues post desk told f e = absurd (cc)
written_fit c rounds (Changes kept) post desk told f e = rw e f
written_fit c rounds (Enqueues kept) post desk told f e = rw e f

-- what comes once in a call

tidying_fit : (c : Config) (rounds : ℕ) (answer : Answer) (post : Post) (desk : Desk) (told : List Event) (due : Bool) → TurnFit c rounds (steps.tidying answer post desk told due)
tidying_fit c rounds answer post desk told true = tidy_fit c (rounds_in c rounds told) (Answered answer) post (moves (scheme_of post)) tt
tidying_fit c rounds answer post desk told false = tt

pub retired_fit : (c : Config) (rounds : ℕ) (answer : Answer) (ending : Ending) (post : Post) (desk : Desk) (told : List Event) → TurnFit c rounds (steps.retired_by answer ending post desk told)
retired_fit c rounds answer (Retired life) post desk told = tidying_fit c rounds answer post (with_life desk life) told (post.retired % post.layout.config.every == 0)
retired_fit c rounds answer Done post desk told = tt
retired_fit c rounds answer (Protected ending) post desk told = tt
retired_fit c rounds answer (Followed ending) post desk told = tt
retired_fit c rounds answer (Allocated ending) post desk told = tt
retired_fit c rounds answer (Clocked clock) post desk told = tt

moved_fit : (c : Config) (rounds : ℕ) (later : AfterScan) (clock : ClockMove) → later_fit c rounds later → later_fit c rounds (steps.after_move later clock)
moved_fit c rounds (Answered answer) clock l = tt
moved_fit c rounds (Repeated task) clock l = l
moved_fit c rounds Counted clock l = tt

pub tidied_fit : (c : Config) (rounds : ℕ) (later : AfterScan) (ending : Ending) (post : Post) (desk : Desk) (told : List Event) → rounds_in c rounds told ≡ rounds → later_fit c rounds later → TurnFit c rounds (steps.tidied later ending post desk told)
tidied_fit c rounds later (Clocked clock) post desk told e l = rw e (moved_fit c rounds later clock l)
tidied_fit c rounds later Done post desk told e l = rw e l
tidied_fit c rounds later (Protected ending) post desk told e l = rw e l
tidied_fit c rounds later (Followed ending) post desk told e l = rw e l
tidied_fit c rounds later (Allocated ending) post desk told e l = rw e l
tidied_fit c rounds later (Retired life) post desk told e l = rw e l

pub advanced_fit : (c : Config) (rounds : ℕ) (ending : Ending) (post : Post) (desk : Desk) (told : List Event) → TurnFit c rounds (steps.advanced ending post desk told)
advanced_fit c rounds (Clocked clock) post desk told = tt
advanced_fit c rounds Done post desk told = tt
advanced_fit c rounds (Protected ending) post desk told = tt
advanced_fit c rounds (Followed ending) post desk told = tt
advanced_fit c rounds (Allocated ending) post desk told = tt
advanced_fit c rounds (Retired life) post desk told = tt

parting_fit : (c : Config) (rounds : ℕ) (rows : Bool) (x : Option ℕ) → rounds ≡ 0 → phase_fit c rounds (keeps.parting_index rows x)
parting_fit c rounds rows None e = e
parting_fit c rounds rows (Some index) e = e

pub parts_fit : (c : Config) (rounds index : ℕ) (post : Post) → rounds ≡ 0 → phase_fit c rounds (keeps.parting_from index post)
parts_fit c rounds index post e = parting_fit c rounds (publishes_rows (scheme_of post)) (standing_from index (drop index post.standing)) e

pub released_fit : (c : Config) (rounds : ℕ) (let_go : LetGo) (post : Post) (desk : Desk) (told : List Event) → rounds_in c rounds told ≡ 0 → TurnFit c rounds (keeps.released let_go post desk told)
released_fit c rounds Released post desk told e = tt
released_fit c rounds (Rehold key) post desk told e = round_fit c (rounds_in c rounds told) (Holds key) post (hold_opens c (rounds_in c rounds told) key e)
released_fit c rounds (Dropped index) post desk told e = tt
released_fit c rounds (Parting index) post desk told e = parts_fit c (rounds_in c rounds told) (index + 1) post e

-- a scan

scanned_fit : (c : Config) (rounds : ℕ) (later : AfterScan) (post : Post) (desk : Desk) (told : List Event) → later_fit c (rounds_in c rounds told) later → TurnFit c rounds (scan.scanned later post desk told)
scanned_fit c rounds (Answered answer) post desk told l = tt
scanned_fit c rounds (Repeated task) post desk told l = round_fit c (rounds_in c rounds told) task post (lost_opens c (rounds_in c rounds told) task l)
scanned_fit c rounds Counted post desk told l = tt

gives_fit : (c : Config) (rounds : ℕ) (later : AfterScan) (post : Post) (desk : Desk) (told : List Event) (x : Option scan.Entry) → later_fit c (rounds_in c rounds told) later → TurnFit c rounds (scan.giving_back later post desk told x)
gives_fit c rounds later post desk told None l = scanned_fit c rounds later post (scan.with_kept desk) told l
gives_fit c rounds later post desk told (Some entry) l = l

reads_fit : (c : Config) (rounds : ℕ) (later : AfterScan) (number : ℕ) (post : Post) (desk : Desk) (told : List Event) (more : Bool) → later_fit c (rounds_in c rounds told) later → TurnFit c rounds (scan.reading later number post desk told more)
reads_fit c rounds later number post desk told true l = l
reads_fit c rounds later number post desk told false l = gives_fit c rounds later post desk told (scan.unmet_from desk 0) l

read_fit : (c : Config) (rounds : ℕ) (later : AfterScan) (number : ℕ) (post : Post) (desk : Desk) (rows : Bool) (guard : Guard) (word : ℕ) → later_fit c rounds later → TurnFit c rounds (scan.read_guard later number post desk rows guard word)
read_fit c rounds later number post desk false guard word l = reads_fit c rounds later number post (scan.with_read desk number (guard, published false guard word)) (events.Read guard (eras_in guard word) ∷ []) (nat_lt (number + 1) (guards post.layout.config)) l
read_fit c rounds later number post desk true guard word l = reads_fit c rounds later number post (scan.with_read desk number (guard, published true guard word)) (events.Saw guard (linked_row word) ∷ []) (nat_lt (number + 1) (guards post.layout.config)) l

pub scan_fit : (c : Config) (rounds : ℕ) (later : AfterScan) (at : ScanAt) (post : Post) (desk : Desk) (found : ℕ) → later_fit c rounds later → TurnFit c rounds (scan.scan_turn later at post desk found)
scan_fit c rounds later (ReadGuard number) post desk found l = read_fit c rounds later number post desk (publishes_rows post.layout.config.scheme) (guard_at post.layout.config number) found l
scan_fit c rounds later (GiveBack place slot) post desk found l = gives_fit c rounds later post (scan.with_back desk place) (events.Back slot ∷ []) (scan.unmet_from (scan.with_back desk place) place) l
