-- Which answers a call has decided upon where it stands: what a step adds to them is right where what it decides is.
use Rattle.std.proofs.Common.{ℕ, ◌≡◌, ◌+◌, ◌-◌, Bool, true, false, List, [], ◌∷◌, ◌++◌, Option, Some, None, refl}
use Rattle.std.specs.Prelude.{◌==◌, ◌%◌, nat_lt, length, if◌then◌else◌}
use Rattle.law_scans.specs.inv.model.defs.declared.call.Answer.{Answer}
use Rattle.law_scans.specs.inv.model.defs.declared.call.Answer.TheVariants as the_answers
use Rattle.law_scans.specs.inv.model.defs.declared.call.Call.{Call}
use Rattle.law_scans.specs.inv.model.defs.declared.call.Call.TheVariants as names
use Rattle.law_scans.specs.inv.model.defs.declared.call.ClockMove.{ClockMove}
use Rattle.law_scans.specs.inv.model.defs.declared.call.ClockMove.TheVariants as moves
use Rattle.law_scans.specs.inv.model.defs.declared.event.Event.{Event}
use Rattle.law_scans.specs.inv.model.defs.declared.event.Event.TheVariants as events
use Rattle.law_scans.specs.inv.model.defs.declared.event.Root.TheVariants as roots
use Rattle.law_scans.specs.inv.model.declared.ends.AllocateEnd.{AllocateEnd}
use Rattle.law_scans.specs.inv.model.declared.ends.AllocateEnd.TheVariants as allocate_ends
use Rattle.law_scans.specs.inv.model.declared.ends.FollowEnd.{FollowEnd}
use Rattle.law_scans.specs.inv.model.declared.ends.FollowEnd.TheVariants as follow_ends
use Rattle.law_scans.specs.inv.model.declared.ends.ProtectEnd.TheVariants as protect_ends
use Rattle.law_scans.specs.inv.model.declared.post.Post.{Post}
use Rattle.law_scans.specs.inv.model.Change as alters
use Rattle.law_scans.specs.inv.model.Desks.{Desk, with_life}
use Rattle.law_scans.specs.inv.model.Dequeue as dequeues
use Rattle.law_scans.specs.inv.model.Enqueue as enqueues
use Rattle.law_scans.specs.inv.model.Get as gets
use Rattle.law_scans.specs.inv.model.Guards.{guard_at, guards, published}
use Rattle.law_scans.specs.inv.model.Machine as machine
use Rattle.law_scans.specs.inv.model.Keep as keeps
use Rattle.law_scans.specs.inv.model.Posts.{cleared, publishes_index, stands, withdrawn}
use Rattle.law_scans.specs.inv.model.words.Schemes.{has_one_interval, moves, publishes_rows}
use Rattle.law_scans.specs.inv.model.Scan as scan
use Rattle.law_scans.specs.inv.model.Steps as steps
use Rattle.law_scans.specs.inv.model.Rounds.{scheme_of, tidy_by, taken_of, index_of, bucket_of, begin_base, finish_base, clear_base, given_up, round, round_by, closed, finishing_by, finishing, clearing_by, clearing, clearing_next_by, clearing_next, let_index, letting, letting_by, release_base, with_clock}
use Rattle.law_scans.specs.inv.model.Phases.{Base, Ending, Outcome, Goes, Ends}
use Rattle.law_scans.specs.inv.model.Phases.Ending.{Done, Protected, Followed, Allocated, Retired, Clocked}
use Rattle.law_scans.proofs.Leaving.{Parts, parts_all, parts_on, takes_on}
use Rattle.law_scans.specs.inv.model.Calls.{Keeping, KeepAt, Loosens, LoadHeld, StoreHeld, Looks, Misses, HideSpan, MarkLeft, TakeList, MarkTaken, LetGo, Released, Rehold, Dropped, Parting, Task, Gets, Changes, Holds, Enqueues, Dequeues, Next, Again, MakeRoom, Answering, Retiring, AfterScan, Answered, Repeated, Counted, ChangeKept, EnqueueKept, GetAt, FindVersion, FindCount, FindKey, FindValue, ChangeAt, LoadVersion, LoadCount, LoadKey, LoadValue, ExchangeRoot, EnqueueAt, LoadNumber, LoadNext, PassTail, ExchangeNext, ExchangeTail, DequeueAt, SwingTail, ExchangeHead, Work, Getting, Changing, Enqueuing, Dequeuing, ScanAt, ReadGuard, GiveBack, Why, Opens, FollowsHead, Fills, ClearsNext, Clears, Finishes, GivesUp, Retires, Tidies, Advances, Releases, Phase, Idle, Runs, Scans, Works, CallOutcome, GoesOn, Answers}

-- a change that fills a row answers with the version after the one that it read, and an enqueue with the number after it
abbrev pub change_done : ChangeKept → Answer
change_done kept = the_answers.Done (kept.version + 1) moves.Still

abbrev pub enqueue_done : EnqueueKept → Answer
enqueue_done kept = the_answers.Queued (kept.number + 1)

-- what was decided satisfies K
abbrev pub NextKeeps : (Answer → Type 0) → Next → Type 0
NextKeeps K Again = Unit {0}
NextKeeps K MakeRoom = Unit {0}
NextKeeps K (Answering answer) = K answer
NextKeeps K (Retiring slot answer) = K answer

abbrev pub LaterKeeps : (Answer → Type 0) → AfterScan → Type 0
LaterKeeps K (Answered answer) = K answer
LaterKeeps K (Repeated task) = Unit {0}
LaterKeeps K Counted = Unit {0}

abbrev pub TaskKeeps : (Answer → Type 0) → Task → Type 0
TaskKeeps K (Gets key) = Unit {0}
TaskKeeps K (Changes kept) = K (change_done kept)
TaskKeeps K (Holds key) = Unit {0}
TaskKeeps K (Enqueues kept) = K (enqueue_done kept)
TaskKeeps K Dequeues = Unit {0}

abbrev pub WhyKeeps : (Answer → Type 0) → Why → Type 0
WhyKeeps K (Opens task) = Unit {0}
WhyKeeps K (FollowsHead head tail) = Unit {0}
WhyKeeps K (Fills task) = TaskKeeps K task
WhyKeeps K (ClearsNext next) = NextKeeps K next
WhyKeeps K (Clears task next) = NextKeeps K next
WhyKeeps K (Finishes task next) = NextKeeps K next
WhyKeeps K (GivesUp answer) = K answer
WhyKeeps K (Retires answer) = K answer
WhyKeeps K (Tidies later) = LaterKeeps K later
WhyKeeps K Advances = Unit {0}
WhyKeeps K (Releases let_go) = Unit {0}

abbrev pub ChangeKeeps : (Answer → Type 0) → ChangeKept → ChangeAt → Type 0
ChangeKeeps K kept (LoadVersion slot) = Unit {0}
ChangeKeeps K kept (LoadCount slot) = Unit {0}
ChangeKeeps K kept (LoadKey slot count) = Unit {0}
ChangeKeeps K kept (LoadValue slot count key) = Unit {0}
ChangeKeeps K kept (ExchangeRoot slot) = K (change_done kept)

abbrev pub EnqueueKeeps : (Answer → Type 0) → EnqueueKept → EnqueueAt → Type 0
EnqueueKeeps K kept LoadNumber = Unit {0}
EnqueueKeeps K kept LoadNext = Unit {0}
EnqueueKeeps K kept (PassTail next) = Unit {0}
EnqueueKeeps K kept (ExchangeNext slot) = K (enqueue_done kept)
EnqueueKeeps K kept (ExchangeTail slot) = K (enqueue_done kept)

abbrev pub WorkKeeps : (Answer → Type 0) → Work → Type 0
WorkKeeps K (Getting key at) = Unit {0}
WorkKeeps K (Changing kept at) = ChangeKeeps K kept at
WorkKeeps K (Enqueuing kept at) = EnqueueKeeps K kept at
WorkKeeps K (Dequeuing at) = Unit {0}
WorkKeeps K (Keeping at) = Unit {0}

abbrev pub PhaseKeeps : (Answer → Type 0) → Phase → Type 0
PhaseKeeps K Idle = Unit {0}
PhaseKeeps K (Runs why base) = WhyKeeps K why
PhaseKeeps K (Scans later at) = LaterKeeps K later
PhaseKeeps K (Works work) = WorkKeeps K work

-- what holds of all that was decided goes on to hold
next_on : (K L : Answer → Type 0) (next : Next) → ((answer : Answer) → K answer → L answer) → NextKeeps K next → NextKeeps L next
next_on K L Again f h = tt
next_on K L MakeRoom f h = tt
next_on K L (Answering answer) f h = f answer h
next_on K L (Retiring slot answer) f h = f answer h

later_on : (K L : Answer → Type 0) (later : AfterScan) → ((answer : Answer) → K answer → L answer) → LaterKeeps K later → LaterKeeps L later
later_on K L (Answered answer) f h = f answer h
later_on K L (Repeated task) f h = tt
later_on K L Counted f h = tt

task_on : (K L : Answer → Type 0) (task : Task) → ((answer : Answer) → K answer → L answer) → TaskKeeps K task → TaskKeeps L task
task_on K L (Gets key) f h = tt
task_on K L (Changes kept) f h = f (change_done kept) h
task_on K L (Holds key) f h = tt
task_on K L (Enqueues kept) f h = f (enqueue_done kept) h
task_on K L Dequeues f h = tt

why_on : (K L : Answer → Type 0) (why : Why) → ((answer : Answer) → K answer → L answer) → WhyKeeps K why → WhyKeeps L why
why_on K L (Fills task) f h = task_on K L task f h
why_on K L (ClearsNext next) f h = next_on K L next f h
why_on K L (Clears task next) f h = next_on K L next f h
why_on K L (Finishes task next) f h = next_on K L next f h
why_on K L (GivesUp answer) f h = f answer h
why_on K L (Retires answer) f h = f answer h
why_on K L (Tidies later) f h = later_on K L later f h
why_on K L why f h = tt

work_on : (K L : Answer → Type 0) (work : Work) → ((answer : Answer) → K answer → L answer) → WorkKeeps K work → WorkKeeps L work
work_on K L (Getting key at) f h = tt
work_on K L (Changing kept (LoadVersion slot)) f h = tt
work_on K L (Changing kept (LoadCount slot)) f h = tt
work_on K L (Changing kept (LoadKey slot count)) f h = tt
work_on K L (Changing kept (LoadValue slot count key)) f h = tt
work_on K L (Changing kept (ExchangeRoot slot)) f h = f (change_done kept) h
work_on K L (Enqueuing kept LoadNumber) f h = tt
work_on K L (Enqueuing kept LoadNext) f h = tt
work_on K L (Enqueuing kept (PassTail next)) f h = tt
work_on K L (Enqueuing kept (ExchangeNext slot)) f h = f (enqueue_done kept) h
work_on K L (Enqueuing kept (ExchangeTail slot)) f h = f (enqueue_done kept) h
work_on K L (Dequeuing at) f h = tt
work_on K L (Keeping at) f h = tt

pub keeps_on : (K L : Answer → Type 0) (phase : Phase) → ((answer : Answer) → K answer → L answer) → PhaseKeeps K phase → PhaseKeeps L phase
keeps_on K L Idle f h = tt
keeps_on K L (Runs why base) f h = why_on K L why f h
keeps_on K L (Scans later at) f h = later_on K L later f h
keeps_on K L (Works work) f h = work_on K L work f h

-- and what is answered satisfies R
abbrev pub OutKeeps : (K R : Answer → Type 0) → CallOutcome → Type 0
OutKeeps K R (GoesOn phase) = PhaseKeeps K phase
OutKeeps K R (Answers answer) = R answer

-- answers of which the law says nothing
abbrev pub is_plain : Answer → Bool
is_plain (the_answers.Got version value) = true
is_plain the_answers.Full = true
is_plain (the_answers.Taken number value clock) = true
is_plain (the_answers.Clock clock) = true
is_plain (the_answers.Scanned kept back) = true
is_plain answer = false

pub record Sound (K R : Answer → Type 0) : Type 0 where
  pub ends : (answer : Answer) → K answer → R answer
  pub clock : (answer : Answer) (clock : ClockMove) → K answer → K (with_clock answer clock)
  pub plain : (answer : Answer) → is_plain answer ≡ true → K answer

-- what a step decides

-- of a change that has read these pairs: it is refused, or it may be done
pub record ChangeDecides (K : Answer → Type 0) (kept : ChangeKept) (post : Post) : Type 0 where
  pub refused : (answer : Answer) → alters.refused post.layout.config kept ≡ Some answer → K answer
  pub fits : alters.refused post.layout.config kept ≡ None → K (change_done kept)

abbrev pub TaskDecides : (K R : Answer → Type 0) → Task → Ending → Post → Type 0
TaskDecides K R (Changes kept) (Protected protect_ends.Null) post = ChangeDecides K (alters.at_link kept 0) post
TaskDecides K R (Holds key) (Protected protect_ends.Null) post = K the_answers.Nothing
TaskDecides K R (Holds key) (Protected (protect_ends.Held slot era)) post = R (the_answers.Holding slot)
TaskDecides K R task ending post = Unit {0}

abbrev pub FollowDecides : (Answer → Type 0) → Ending → Type 0
FollowDecides K (Followed follow_ends.NoNext) = K the_answers.Empty
FollowDecides K ending = Unit {0}

abbrev pub FreeDecides : (Answer → Type 0) → LetGo → Type 0
FreeDecides R Released = R the_answers.Released
FreeDecides R (Rehold key) = Unit {0}
FreeDecides R (Dropped index) = R the_answers.Dropped
FreeDecides R (Parting index) = Unit {0}

abbrev pub WhyDecides : (K R : Answer → Type 0) → Why → Ending → Post → Type 0
WhyDecides K R (Opens task) ending post = TaskDecides K R task ending post
WhyDecides K R (FollowsHead head tail) ending post = FollowDecides K ending
WhyDecides K R (Releases let_go) ending post = FreeDecides R let_go
WhyDecides K R why ending post = Unit {0}

abbrev pub OutcomeDecides : (K R : Answer → Type 0) → Why → Outcome → Post → Type 0
OutcomeDecides K R why (Goes base) post = Unit {0}
OutcomeDecides K R why (Ends ending) post = WhyDecides K R why ending post

abbrev pub AlterDecides : (Answer → Type 0) → ChangeKept → ChangeAt → Post → ℕ → Type 0
AlterDecides K kept (LoadCount slot) post found = nat_lt 0 found ≡ false → ChangeDecides K kept post
AlterDecides K kept (LoadValue slot count key) post found = nat_lt (length kept.pairs + 1) count ≡ false → ChangeDecides K (alters.with_read kept key found) post
AlterDecides K kept at post found = Unit {0}

-- of an enqueue that has read the last row's number
pub record EnqueueDecides (K : Answer → Type 0) (kept : EnqueueKept) (post : Post) : Type 0 where
  pub spent : (kept.number == post.layout.config.last_version) ≡ true → K (the_answers.Spent kept.number)
  pub fits : (kept.number == post.layout.config.last_version) ≡ false → K (enqueue_done kept)

abbrev pub AppendDecides : (Answer → Type 0) → EnqueueKept → EnqueueAt → Post → Type 0
AppendDecides K kept LoadNext post = EnqueueDecides K kept post
AppendDecides K kept at post = Unit {0}

-- of a step on what is kept: its answer is right
abbrev pub KeepDecides : (Answer → Type 0) → KeepAt → Post → Desk → ℕ → Type 0
KeepDecides R at post desk found = (answer : Answer) → (keeps.keep_turn at post desk found).outcome ≡ Answers answer → R answer

abbrev pub WorkDecides : (K R : Answer → Type 0) → Work → Post → Desk → ℕ → Type 0
WorkDecides K R (Changing kept at) post desk found = AlterDecides K kept at post found
WorkDecides K R (Enqueuing kept at) post desk found = AppendDecides K kept at post
WorkDecides K R (Keeping at) post desk found = KeepDecides R at post desk found
WorkDecides K R work post desk found = Unit {0}

abbrev pub PhaseDecides : (K R : Answer → Type 0) → Phase → Post → Desk → ℕ → Type 0
PhaseDecides K R Idle post desk found = Unit {0}
PhaseDecides K R (Runs why base) post desk found = OutcomeDecides K R why (machine.after base post found).outcome (machine.after base post found).post
PhaseDecides K R (Scans later at) post desk found = Unit {0}
PhaseDecides K R (Works work) post desk found = WorkDecides K R work post desk found

-- the end of a round
round_by_keeps : (K : Answer → Type 0) (task : Task) (post : Post) (x : Option Base) → PhaseKeeps K (round_by task post x)
round_by_keeps K task post None = tt
round_by_keeps K task post (Some base) = tt

round_keeps : (K : Answer → Type 0) (task : Task) (post : Post) → PhaseKeeps K (round task post)
round_keeps K task post = round_by_keeps K task post (begin_base (scheme_of post) post)

given_up_keeps : (K R : Answer → Type 0) → Sound K R → (answer : Answer) (post : Post) (desk : Desk) (told : List Event) (x : Option ℕ) → K answer → OutKeeps K R (given_up answer post desk told x).outcome
given_up_keeps K R s answer post desk told None h = s.ends answer h
given_up_keeps K R s answer post desk told (Some slot) h = h

-- the clock is moved before the scan, or the scan comes at once
tidy_keeps : (K : Answer → Type 0) (later : AfterScan) (moving : Bool) (post : Post) → LaterKeeps K later → PhaseKeeps K (tidy_by moving later post)
tidy_keeps K later true post h = h
tidy_keeps K later false post h = h

closed_keeps : (K R : Answer → Type 0) → Sound K R → (task : Task) (next : Next) (post : Post) (desk : Desk) (told : List Event) → NextKeeps K next → OutKeeps K R (closed task next post desk told).outcome
closed_keeps K R s task Again post desk told h = round_keeps K task post
closed_keeps K R s task MakeRoom post desk told h = tidy_keeps K (Repeated task) (moves (scheme_of post)) post tt
closed_keeps K R s task (Answering answer) post desk told h = given_up_keeps K R s answer post desk told (taken_of task) h
closed_keeps K R s task (Retiring slot answer) post desk told h = h

finishing_by_keeps : (K R : Answer → Type 0) → Sound K R → (task : Task) (next : Next) (post : Post) (desk : Desk) (told : List Event) (x : Option Base) → NextKeeps K next → OutKeeps K R (finishing_by task next post desk told x).outcome
finishing_by_keeps K R s task next post desk told None h = closed_keeps K R s task next post desk told h
finishing_by_keeps K R s task next post desk told (Some base) h = h

finishing_keeps : (K R : Answer → Type 0) → Sound K R → (task : Task) (next : Next) (post : Post) (desk : Desk) (told : List Event) → NextKeeps K next → OutKeeps K R (finishing task next post desk told).outcome
finishing_keeps K R s task Again post desk told h = closed_keeps K R s task Again post desk told h
finishing_keeps K R s task MakeRoom post desk told h = finishing_by_keeps K R s task MakeRoom post desk told (finish_base (scheme_of post) post) h
finishing_keeps K R s task (Answering answer) post desk told h = finishing_by_keeps K R s task (Answering answer) post desk told (finish_base (scheme_of post) post) h
finishing_keeps K R s task (Retiring slot answer) post desk told h = finishing_by_keeps K R s task (Retiring slot answer) post desk told (finish_base (scheme_of post) post) h

clearing_by_keeps : (K R : Answer → Type 0) → Sound K R → (task : Task) (next : Next) (post : Post) (desk : Desk) (told : List Event) (x : Option Base) → NextKeeps K next → OutKeeps K R (clearing_by task next post desk told x).outcome
clearing_by_keeps K R s task next post desk told None h = finishing_keeps K R s task next _ desk _ h
clearing_by_keeps K R s task next post desk told (Some base) h = h

clearing_keeps : (K R : Answer → Type 0) → Sound K R → (task : Task) (next : Next) (post : Post) (desk : Desk) (told : List Event) → NextKeeps K next → OutKeeps K R (clearing task next post desk told).outcome
clearing_keeps K R s task next post desk told h = clearing_by_keeps K R s task next post desk told (clear_base (scheme_of post) (index_of task)) h

clearing_next_by_keeps : (K R : Answer → Type 0) → Sound K R → (next : Next) (post : Post) (desk : Desk) (told : List Event) (x : Option Base) → NextKeeps K next → OutKeeps K R (clearing_next_by next post desk told x).outcome
clearing_next_by_keeps K R s next post desk told None h = clearing_keeps K R s Dequeues next _ desk _ h
clearing_next_by_keeps K R s next post desk told (Some base) h = h

clearing_next_keeps : (K R : Answer → Type 0) → Sound K R → (next : Next) (post : Post) (desk : Desk) (told : List Event) → NextKeeps K next → OutKeeps K R (clearing_next next post desk told).outcome
clearing_next_keeps K R s next post desk told h = clearing_next_by_keeps K R s next post desk told (clear_base (scheme_of post) 1) h

-- a get
got_keeps : (K R : Answer → Type 0) → Sound K R → (key version : ℕ) (value : Option ℕ) (post : Post) (desk : Desk) (told : List Event) → OutKeeps K R (gets.got key version value post desk told).outcome
got_keeps K R s key version value post desk told = clearing_keeps K R s (Gets key) (Answering (the_answers.Got version value)) post desk (told ++ events.Got (bucket_of post key) version key value ∷ []) (s.plain (the_answers.Got version value) refl)

finding_keeps : (K R : Answer → Type 0) → Sound K R → (key slot version count : ℕ) (post : Post) (desk : Desk) (on : Bool) (pair : ℕ) → OutKeeps K R (gets.finding key slot version count post desk on pair).outcome
finding_keeps K R s key slot version count post desk true pair = tt
finding_keeps K R s key slot version count post desk false pair = got_keeps K R s key version None post desk []

found_key_keeps : (K R : Answer → Type 0) → Sound K R → (key slot version count pair : ℕ) (post : Post) (desk : Desk) (own : Bool) → OutKeeps K R (gets.found_key key slot version count pair post desk own).outcome
found_key_keeps K R s key slot version count pair post desk true = tt
found_key_keeps K R s key slot version count pair post desk false = finding_keeps K R s key slot version count post desk (nat_lt (pair + 1) count) (pair + 1)

get_keeps : (K R : Answer → Type 0) → Sound K R → (key : ℕ) (at : GetAt) (post : Post) (desk : Desk) (found : ℕ) → OutKeeps K R (gets.get_turn key at post desk found).outcome
get_keeps K R s key (FindVersion slot) post desk found = tt
get_keeps K R s key (FindCount slot version) post desk found = finding_keeps K R s key slot version found post desk (nat_lt 0 found) 0
get_keeps K R s key (FindKey slot version count pair) post desk found = found_key_keeps K R s key slot version count pair post desk (found == key)
get_keeps K R s key (FindValue slot version pair) post desk found = got_keeps K R s key version (Some found) post desk []

-- a change
deciding_by_keeps : (K R : Answer → Type 0) → Sound K R → (kept : ChangeKept) (post : Post) (desk : Desk) (told : List Event) (x : Option Answer) → alters.refused post.layout.config kept ≡ x → ChangeDecides K kept post → OutKeeps K R (alters.deciding_by kept post desk told x).outcome
deciding_by_keeps K R s kept post desk told (Some answer) e d = clearing_keeps K R s (Changes kept) (Answering answer) post desk told (d.refused answer e)
deciding_by_keeps K R s kept post desk told None e d = d.fits e

deciding_keeps : (K R : Answer → Type 0) → Sound K R → (kept : ChangeKept) (post : Post) (desk : Desk) (told : List Event) → ChangeDecides K kept post → OutKeeps K R (alters.deciding kept post desk told).outcome
deciding_keeps K R s kept post desk told d = deciding_by_keeps K R s kept post desk told (alters.refused post.layout.config kept) refl d

reading_keeps : (K R : Answer → Type 0) → Sound K R → (kept : ChangeKept) (slot count : ℕ) (post : Post) (desk : Desk) (on : Bool) → (on ≡ false → ChangeDecides K kept post) → OutKeeps K R (alters.reading kept slot count post desk on).outcome
reading_keeps K R s kept slot count post desk true d = tt
reading_keeps K R s kept slot count post desk false d = deciding_keeps K R s kept post desk [] (d refl)

done_keeps : (K : Answer → Type 0) (version link : ℕ) (none : Bool) → K (the_answers.Done version moves.Still) → NextKeeps K (if none then Answering (the_answers.Done version moves.Still) else Retiring (link - 1) (the_answers.Done version moves.Still))
done_keeps K version link true h = h
done_keeps K version link false h = h

exchanged_keeps : (K R : Answer → Type 0) → Sound K R → (kept : ChangeKept) (slot : ℕ) (post : Post) (desk : Desk) (same : Bool) → K (change_done kept) → OutKeeps K R (alters.exchanged kept slot post desk same).outcome
exchanged_keeps K R s kept slot post desk true h = clearing_keeps K R s (Changes (record kept { taken = None })) (alters.answer_done (kept.version + 1) kept.link) post desk (alters.told_linked kept slot post) (done_keeps K (kept.version + 1) kept.link (kept.link == 0) h)
exchanged_keeps K R s kept slot post desk false h = clearing_keeps K R s (Changes kept) Again post desk [] tt

change_keeps : (K R : Answer → Type 0) → Sound K R → (kept : ChangeKept) (at : ChangeAt) (post : Post) (desk : Desk) (found : ℕ) → ChangeKeeps K kept at → AlterDecides K kept at post found → OutKeeps K R (alters.change_turn kept at post desk found).outcome
change_keeps K R s kept (LoadVersion slot) post desk found h d = tt
change_keeps K R s kept (LoadCount slot) post desk found h d = reading_keeps K R s kept slot found post desk (nat_lt 0 found) d
change_keeps K R s kept (LoadKey slot count) post desk found h d = tt
change_keeps K R s kept (LoadValue slot count key) post desk found h d = reading_keeps K R s (alters.with_read kept key found) slot count post desk (nat_lt (length kept.pairs + 1) count) d
change_keeps K R s kept (ExchangeRoot slot) post desk found h d = exchanged_keeps K R s kept slot post desk (found == kept.link) h

-- an enqueue
appending_keeps : (K R : Answer → Type 0) → Sound K R → (kept : EnqueueKept) (post : Post) (desk : Desk) (spent : Bool) → (kept.number == post.layout.config.last_version) ≡ spent → EnqueueDecides K kept post → OutKeeps K R (enqueues.appending kept post desk spent).outcome
appending_keeps K R s kept post desk true e d = clearing_keeps K R s (Enqueues kept) (Answering (the_answers.Spent kept.number)) post desk [] (d.spent e)
appending_keeps K R s kept post desk false e d = d.fits e

at_next_keeps : (K R : Answer → Type 0) → Sound K R → (kept : EnqueueKept) (next : ℕ) (post : Post) (desk : Desk) (none : Bool) → EnqueueDecides K kept post → OutKeeps K R (enqueues.at_next kept next post desk none).outcome
at_next_keeps K R s kept next post desk true d = appending_keeps K R s kept post desk (kept.number == post.layout.config.last_version) refl d
at_next_keeps K R s kept next post desk false d = tt

appended_keeps : (K R : Answer → Type 0) → Sound K R → (kept : EnqueueKept) (slot : ℕ) (post : Post) (desk : Desk) (same : Bool) → K (enqueue_done kept) → OutKeeps K R (enqueues.appended kept slot post desk same).outcome
appended_keeps K R s kept slot post desk true h = h
appended_keeps K R s kept slot post desk false h = clearing_keeps K R s (Enqueues kept) Again post desk [] tt

enqueue_keeps : (K R : Answer → Type 0) → Sound K R → (kept : EnqueueKept) (at : EnqueueAt) (post : Post) (desk : Desk) (found : ℕ) → EnqueueKeeps K kept at → AppendDecides K kept at post → OutKeeps K R (enqueues.enqueue_turn kept at post desk found).outcome
enqueue_keeps K R s kept LoadNumber post desk found h d = tt
enqueue_keeps K R s kept LoadNext post desk found h d = at_next_keeps K R s kept found post desk (found == 0) d
enqueue_keeps K R s kept (PassTail next) post desk found h d = clearing_keeps K R s (Enqueues kept) Again post desk (enqueues.told_link roots.Tail (next - 1) (found == kept.tail + 1)) tt
enqueue_keeps K R s kept (ExchangeNext slot) post desk found h d = appended_keeps K R s kept slot post desk (found == 0) h
enqueue_keeps K R s kept (ExchangeTail slot) post desk found h d = clearing_keeps K R s (Enqueues kept) (Answering (enqueue_done kept)) post desk (enqueues.told_link roots.Tail slot (found == kept.tail + 1)) h

-- a dequeue
followed_row_keeps : (K R : Answer → Type 0) (head next : ℕ) (post : Post) (desk : Desk) (told : List Event) (lags : Bool) → OutKeeps K R (dequeues.followed_row head next post desk told lags).outcome
followed_row_keeps K R head next post desk told true = tt
followed_row_keeps K R head next post desk told false = tt

followed_keeps : (K R : Answer → Type 0) → Sound K R → (head tail : ℕ) (ending : FollowEnd) (post : Post) (desk : Desk) (told : List Event) → FollowDecides K (Followed ending) → OutKeeps K R (dequeues.followed head tail ending post desk told).outcome
followed_keeps K R s head tail (follow_ends.Followed slot) post desk told d = followed_row_keeps K R head slot post desk told (tail == head + 1)
followed_keeps K R s head tail follow_ends.NoNext post desk told d = clearing_next_keeps K R s (Answering the_answers.Empty) post desk told d
followed_keeps K R s head tail (follow_ends.RootMoved seen) post desk told d = clearing_next_keeps K R s Again post desk told tt

taken_keeps : (K R : Answer → Type 0) → Sound K R → (head next number value : ℕ) (post : Post) (desk : Desk) (same : Bool) → OutKeeps K R (dequeues.taken head next number value post desk same).outcome
taken_keeps K R s head next number value post desk true = clearing_next_keeps K R s (Retiring head (the_answers.Taken number value moves.Still)) post desk (events.Link roots.Head next ∷ events.Cut head ∷ events.Taken number value ∷ []) (s.plain (the_answers.Taken number value moves.Still) refl)
taken_keeps K R s head next number value post desk false = clearing_next_keeps K R s Again post desk [] tt

dequeue_keeps : (K R : Answer → Type 0) → Sound K R → (at : DequeueAt) (post : Post) (desk : Desk) (found : ℕ) → OutKeeps K R (dequeues.dequeue_turn at post desk found).outcome
dequeue_keeps K R s (SwingTail head next) post desk found = clearing_next_keeps K R s Again post desk (enqueues.told_link roots.Tail next (found == head + 1)) tt
dequeue_keeps K R s (ExchangeHead head next number value) post desk found = taken_keeps K R s head next number value post desk (found == head + 1)
dequeue_keeps K R s at post desk found = tt

-- a step on what is kept decides nothing but its answer
abbrev NextRight : (Answer → Type 0) → CallOutcome → Type 0
NextRight K (GoesOn phase) = PhaseKeeps K phase
NextRight K (Answers answer) = Unit {0}

-- a seat that leaves has decided nothing
parts_keep : (K : Answer → Type 0) → Parts (PhaseKeeps K)
parts_keep K = record { clears = λ rows index. tt; hides = tt; marks = tt }

let_go_next : (K : Answer → Type 0) (let_go : LetGo) (post : Post) (desk : Desk) (told : List Event) → NextRight K (keeps.released let_go post desk told).outcome
let_go_next K Released post desk told = tt
let_go_next K (Rehold key) post desk told = round_keeps K (Holds key) post
let_go_next K (Dropped index) post desk told = tt
let_go_next K (Parting index) post desk told = parts_on (PhaseKeeps K) (parts_keep K) (index + 1) post

copied_next : (K : Answer → Type 0) (from index : ℕ) (post : Post) (desk : Desk) (reserved : List Event) (x : Option ℕ) → NextRight K (keeps.copied from index post desk reserved x).outcome
copied_next K from index post desk reserved None = tt
copied_next K from index post desk reserved (Some slot) = tt

load_next : (K : Answer → Type 0) (from index : ℕ) (post : Post) (desk : Desk) (found : ℕ) (one : Bool) → NextRight K (keeps.load_held from index post desk found one).outcome
load_next K from index post desk found true = copied_next K from index post desk [] (stands post from)
load_next K from index post desk found false = tt

looking_next : (K : Answer → Type 0) (index key slot version count : ℕ) (post : Post) (desk : Desk) (more : Bool) (pair : ℕ) → NextRight K (keeps.looking index key slot version count post desk more pair).outcome
looking_next K index key slot version count post desk true pair = tt
looking_next K index key slot version count post desk false pair = tt

looked_key_next : (K : Answer → Type 0) (index key slot version count pair : ℕ) (post : Post) (desk : Desk) (own : Bool) → NextRight K (keeps.looked_key index key slot version count pair post desk own).outcome
looked_key_next K index key slot version count pair post desk true = tt
looked_key_next K index key slot version count pair post desk false = looking_next K index key slot version count post desk (nat_lt (pair + 1) count) (pair + 1)

look_next : (K : Answer → Type 0) (index key : ℕ) (at : GetAt) (post : Post) (desk : Desk) (found : ℕ) → NextRight K (keeps.look_turn index key at post desk found).outcome
look_next K index key (FindVersion slot) post desk found = tt
look_next K index key (FindCount slot version) post desk found = looking_next K index key slot version found post desk (nat_lt 0 found) 0
look_next K index key (FindKey slot version count pair) post desk found = looked_key_next K index key slot version count pair post desk (found == key)
look_next K index key (FindValue slot version pair) post desk found = tt

keep_next : (K : Answer → Type 0) (at : KeepAt) (post : Post) (desk : Desk) (found : ℕ) → NextRight K (keeps.keep_turn at post desk found).outcome
keep_next K (Loosens let_go) post desk found = let_go_next K let_go (withdrawn post (let_index let_go)) desk (cleared (let_index let_go) (stands post (let_index let_go)))
keep_next K (LoadHeld from index) post desk found = load_next K from index post desk found (has_one_interval (scheme_of post))
keep_next K (StoreHeld from index era) post desk found = copied_next K from index post desk (publishes_index (publishes_rows (scheme_of post)) post index era) (stands post from)
keep_next K (Looks index key at) post desk found = look_next K index key at post desk found
keep_next K (Misses index) post desk found = tt
keep_next K HideSpan post desk found = tt
keep_next K MarkLeft post desk found = tt
keep_next K (TakeList place) post desk found = takes_on (NextRight K) place (record { marks = λ count. tt; none = tt; late = tt }) post desk (found == 1) found
keep_next K (MarkTaken place count) post desk found = tt

kept_keeps : (K R : Answer → Type 0) (outcome : CallOutcome) → NextRight K outcome → ((answer : Answer) → outcome ≡ Answers answer → R answer) → OutKeeps K R outcome
kept_keeps K R (GoesOn phase) n d = n
kept_keeps K R (Answers answer) n d = d answer refl

work_keeps : (K R : Answer → Type 0) → Sound K R → (work : Work) (post : Post) (desk : Desk) (found : ℕ) → WorkKeeps K work → WorkDecides K R work post desk found → OutKeeps K R (steps.work_turn work post desk found).outcome
work_keeps K R s (Getting key at) post desk found h d = get_keeps K R s key at post desk found
work_keeps K R s (Changing kept at) post desk found h d = change_keeps K R s kept at post desk found h d
work_keeps K R s (Enqueuing kept at) post desk found h d = enqueue_keeps K R s kept at post desk found h d
work_keeps K R s (Dequeuing at) post desk found h d = dequeue_keeps K R s at post desk found
work_keeps K R s (Keeping at) post desk found h d = kept_keeps K R (keeps.keep_turn at post desk found).outcome (keep_next K at post desk found) d

-- a scan
scanned_keeps : (K R : Answer → Type 0) → Sound K R → (later : AfterScan) (post : Post) (desk : Desk) (told : List Event) → LaterKeeps K later → OutKeeps K R (scan.scanned later post desk told).outcome
scanned_keeps K R s (Answered answer) post desk told h = s.ends answer h
scanned_keeps K R s (Repeated task) post desk told h = round_keeps K task post
scanned_keeps K R s Counted post desk told h = s.ends _ (s.plain _ refl)

giving_keeps : (K R : Answer → Type 0) → Sound K R → (later : AfterScan) (post : Post) (desk : Desk) (told : List Event) (x : Option scan.Entry) → LaterKeeps K later → OutKeeps K R (scan.giving_back later post desk told x).outcome
giving_keeps K R s later post desk told None h = scanned_keeps K R s later post _ told h
giving_keeps K R s later post desk told (Some entry) h = h

guard_keeps : (K R : Answer → Type 0) → Sound K R → (later : AfterScan) (number : ℕ) (post : Post) (desk : Desk) (told : List Event) (on : Bool) → LaterKeeps K later → OutKeeps K R (scan.reading later number post desk told on).outcome
guard_keeps K R s later number post desk told true h = h
guard_keeps K R s later number post desk told false h = giving_keeps K R s later post desk told (scan.unmet_from desk 0) h

scan_keeps : (K R : Answer → Type 0) → Sound K R → (later : AfterScan) (at : ScanAt) (post : Post) (desk : Desk) (found : ℕ) → LaterKeeps K later → OutKeeps K R (scan.scan_turn later at post desk found).outcome
scan_keeps K R s later (ReadGuard number) post desk found h = guard_keeps K R s later number post (scan.with_read desk number (guard_at post.layout.config number, published (publishes_rows post.layout.config.scheme) (guard_at post.layout.config number) found)) (scan.reads_guard (publishes_rows post.layout.config.scheme) (guard_at post.layout.config number) found ∷ []) (nat_lt (number + 1) (guards post.layout.config)) h
scan_keeps K R s later (GiveBack place slot) post desk found h = giving_keeps K R s later post _ _ _ h

-- what comes after a machine
opened_keeps : (K R : Answer → Type 0) → Sound K R → (task : Task) (ending : Ending) (post : Post) (desk : Desk) (told : List Event) → TaskDecides K R task ending post → OutKeeps K R (steps.opened task ending post desk told).outcome
opened_keeps K R s (Gets key) (Protected (protect_ends.Held slot era)) post desk told d = tt
opened_keeps K R s (Changes kept) (Protected (protect_ends.Held slot era)) post desk told d = tt
opened_keeps K R s (Holds key) (Protected (protect_ends.Held slot era)) post desk told d = d
opened_keeps K R s (Enqueues kept) (Protected (protect_ends.Held slot era)) post desk told d = tt
opened_keeps K R s Dequeues (Protected (protect_ends.Held slot era)) post desk told d = tt
opened_keeps K R s (Gets key) (Protected protect_ends.Null) post desk told d = got_keeps K R s key 0 None post desk told
opened_keeps K R s (Changes kept) (Protected protect_ends.Null) post desk told d = deciding_keeps K R s (alters.at_link kept 0) post desk told d
opened_keeps K R s (Holds key) (Protected protect_ends.Null) post desk told d = clearing_keeps K R s (Holds key) (Answering the_answers.Nothing) post desk told d
opened_keeps K R s (Enqueues kept) (Protected protect_ends.Null) post desk told d = clearing_keeps K R s (Enqueues kept) Again post desk told tt
opened_keeps K R s Dequeues (Protected protect_ends.Null) post desk told d = clearing_keeps K R s Dequeues Again post desk told tt
opened_keeps K R s task Done post desk told d = tt
opened_keeps K R s task (Followed end) post desk told d = tt
opened_keeps K R s task (Allocated end) post desk told d = tt
opened_keeps K R s task (Retired life) post desk told d = tt
opened_keeps K R s task (Clocked clock) post desk told d = tt

no_room_keeps : (K R : Answer → Type 0) → Sound K R → (walked : Bool) → NextKeeps K (alters.no_room walked)
no_room_keeps K R s false = tt
no_room_keeps K R s true = s.plain the_answers.Full refl

filled_by_keeps : (K R : Answer → Type 0) → Sound K R → (task : Task) (ending : AllocateEnd) (post : Post) (desk : Desk) (told : List Event) → TaskKeeps K task → OutKeeps K R (steps.filled_by task ending post desk told).outcome
filled_by_keeps K R s (Changes kept) (allocate_ends.Given slot birth) post desk told h = h
filled_by_keeps K R s (Changes kept) allocate_ends.Full post desk told h = clearing_keeps K R s (Changes (alters.with_walked kept)) (alters.no_room kept.walked) post desk told (no_room_keeps K R s kept.walked)
filled_by_keeps K R s (Enqueues kept) (allocate_ends.Given slot birth) post desk told h = h
filled_by_keeps K R s (Enqueues kept) allocate_ends.Full post desk told h = clearing_keeps K R s (Enqueues (enqueues.item_walked kept)) (alters.no_room kept.walked) post desk told (no_room_keeps K R s kept.walked)
filled_by_keeps K R s (Gets key) ending post desk told h = closed_keeps K R s (Gets key) Again post desk told tt
filled_by_keeps K R s (Holds key) ending post desk told h = closed_keeps K R s (Holds key) Again post desk told tt
filled_by_keeps K R s Dequeues ending post desk told h = closed_keeps K R s Dequeues Again post desk told tt

written_keeps : (K R : Answer → Type 0) → Sound K R → (task : Task) (post : Post) (desk : Desk) (told : List Event) → TaskKeeps K task → OutKeeps K R (steps.written_row task post desk told).outcome
written_keeps K R s (Changes kept) post desk told h = h
written_keeps K R s (Enqueues kept) post desk told h = h
written_keeps K R s (Gets key) post desk told h = closed_keeps K R s (Gets key) Again post desk told tt
written_keeps K R s (Holds key) post desk told h = closed_keeps K R s (Holds key) Again post desk told tt
written_keeps K R s Dequeues post desk told h = closed_keeps K R s Dequeues Again post desk told tt

filled_keeps : (K R : Answer → Type 0) → Sound K R → (task : Task) (ending : Ending) (post : Post) (desk : Desk) (told : List Event) → TaskKeeps K task → OutKeeps K R (steps.filled task ending post desk told).outcome
filled_keeps K R s task (Allocated ending) post desk told h = filled_by_keeps K R s task ending post desk told h
filled_keeps K R s task Done post desk told h = written_keeps K R s task post desk told h
filled_keeps K R s task (Protected end) post desk told h = written_keeps K R s task post desk told h
filled_keeps K R s task (Followed end) post desk told h = written_keeps K R s task post desk told h
filled_keeps K R s task (Retired life) post desk told h = written_keeps K R s task post desk told h
filled_keeps K R s task (Clocked clock) post desk told h = written_keeps K R s task post desk told h

followed_by_keeps : (K R : Answer → Type 0) → Sound K R → (head tail : ℕ) (ending : Ending) (post : Post) (desk : Desk) (told : List Event) → FollowDecides K ending → OutKeeps K R (steps.followed_by head tail ending post desk told).outcome
followed_by_keeps K R s head tail (Followed ending) post desk told d = followed_keeps K R s head tail ending post desk told d
followed_by_keeps K R s head tail Done post desk told d = closed_keeps K R s Dequeues Again post desk told tt
followed_by_keeps K R s head tail (Protected end) post desk told d = closed_keeps K R s Dequeues Again post desk told tt
followed_by_keeps K R s head tail (Allocated end) post desk told d = closed_keeps K R s Dequeues Again post desk told tt
followed_by_keeps K R s head tail (Retired life) post desk told d = closed_keeps K R s Dequeues Again post desk told tt
followed_by_keeps K R s head tail (Clocked clock) post desk told d = closed_keeps K R s Dequeues Again post desk told tt

tidying_keeps : (K R : Answer → Type 0) → Sound K R → (answer : Answer) (post : Post) (desk : Desk) (told : List Event) (due : Bool) → K answer → OutKeeps K R (steps.tidying answer post desk told due).outcome
tidying_keeps K R s answer post desk told true h = tidy_keeps K (Answered answer) (moves (scheme_of post)) post h
tidying_keeps K R s answer post desk told false h = s.ends answer h

retired_keeps : (K R : Answer → Type 0) → Sound K R → (answer : Answer) (ending : Ending) (post : Post) (desk : Desk) (told : List Event) → K answer → OutKeeps K R (steps.retired_by answer ending post desk told).outcome
retired_keeps K R s answer (Retired life) post desk told h = tidying_keeps K R s answer post (with_life desk life) told (post.retired % post.layout.config.every == 0) h
retired_keeps K R s answer Done post desk told h = s.ends answer h
retired_keeps K R s answer (Protected end) post desk told h = s.ends answer h
retired_keeps K R s answer (Followed end) post desk told h = s.ends answer h
retired_keeps K R s answer (Allocated end) post desk told h = s.ends answer h
retired_keeps K R s answer (Clocked clock) post desk told h = s.ends answer h

moved_keeps : (K R : Answer → Type 0) → Sound K R → (later : AfterScan) (clock : ClockMove) → LaterKeeps K later → LaterKeeps K (steps.after_move later clock)
moved_keeps K R s (Answered answer) clock h = s.clock answer clock h
moved_keeps K R s (Repeated task) clock h = tt
moved_keeps K R s Counted clock h = tt

tidied_keeps : (K R : Answer → Type 0) → Sound K R → (later : AfterScan) (ending : Ending) (post : Post) (desk : Desk) (told : List Event) → LaterKeeps K later → OutKeeps K R (steps.tidied later ending post desk told).outcome
tidied_keeps K R s later (Clocked clock) post desk told h = moved_keeps K R s later clock h
tidied_keeps K R s later Done post desk told h = h
tidied_keeps K R s later (Protected end) post desk told h = h
tidied_keeps K R s later (Followed end) post desk told h = h
tidied_keeps K R s later (Allocated end) post desk told h = h
tidied_keeps K R s later (Retired life) post desk told h = h

advanced_keeps : (K R : Answer → Type 0) → Sound K R → (ending : Ending) (post : Post) (desk : Desk) (told : List Event) → OutKeeps K R (steps.advanced ending post desk told).outcome
advanced_keeps K R s (Clocked clock) post desk told = s.ends (the_answers.Clock clock) (s.plain (the_answers.Clock clock) refl)
advanced_keeps K R s Done post desk told = tt
advanced_keeps K R s (Protected end) post desk told = tt
advanced_keeps K R s (Followed end) post desk told = tt
advanced_keeps K R s (Allocated end) post desk told = tt
advanced_keeps K R s (Retired life) post desk told = tt

released_keeps : (K R : Answer → Type 0) → (let_go : LetGo) (post : Post) (desk : Desk) (told : List Event) → FreeDecides R let_go → OutKeeps K R (keeps.released let_go post desk told).outcome
released_keeps K R Released post desk told d = d
released_keeps K R (Rehold key) post desk told d = round_keeps K (Holds key) post
released_keeps K R (Dropped index) post desk told d = d
released_keeps K R (Parting index) post desk told d = parts_on (PhaseKeeps K) (parts_keep K) (index + 1) post

resume_keeps : (K R : Answer → Type 0) → Sound K R → (why : Why) (ending : Ending) (post : Post) (desk : Desk) (told : List Event) → WhyKeeps K why → WhyDecides K R why ending post → OutKeeps K R (steps.resume why ending post desk told).outcome
resume_keeps K R s (Opens task) ending post desk told h d = opened_keeps K R s task ending post desk told d
resume_keeps K R s (FollowsHead head tail) ending post desk told h d = followed_by_keeps K R s head tail ending post desk told d
resume_keeps K R s (Fills task) ending post desk told h d = filled_keeps K R s task ending post desk told h
resume_keeps K R s (ClearsNext next) ending post desk told h d = clearing_keeps K R s Dequeues next post desk told h
resume_keeps K R s (Clears task next) ending post desk told h d = finishing_keeps K R s task next post desk told h
resume_keeps K R s (Finishes task next) ending post desk told h d = closed_keeps K R s task next post desk told h
resume_keeps K R s (GivesUp answer) ending post desk told h d = s.ends answer h
resume_keeps K R s (Retires answer) ending post desk told h d = retired_keeps K R s answer ending post desk told h
resume_keeps K R s (Tidies later) ending post desk told h d = tidied_keeps K R s later ending post desk told h
resume_keeps K R s Advances ending post desk told h d = advanced_keeps K R s ending post desk told
resume_keeps K R s (Releases let_go) ending post desk told h d = released_keeps K R let_go post desk told d

resumed_keeps : (K R : Answer → Type 0) → Sound K R → (why : Why) (desk : Desk) (post : Post) (told : List Event) (outcome : Outcome) → WhyKeeps K why → OutcomeDecides K R why outcome post → OutKeeps K R (steps.resumed why desk post told outcome).outcome
resumed_keeps K R s why desk post told (Goes base) h d = h
resumed_keeps K R s why desk post told (Ends ending) h d = resume_keeps K R s why ending post desk told h d

-- so it is after a step
pub turn_keeps : (K R : Answer → Type 0) → Sound K R → (phase : Phase) (post : Post) (desk : Desk) (found : ℕ) → PhaseKeeps K phase → PhaseDecides K R phase post desk found → OutKeeps K R (steps.phase_turn phase post desk found).outcome
turn_keeps K R s Idle post desk found h d = tt
turn_keeps K R s (Runs why base) post desk found h d = resumed_keeps K R s why desk _ _ (machine.after base post found).outcome h d
turn_keeps K R s (Scans later at) post desk found h d = scan_keeps K R s later at post desk found h
turn_keeps K R s (Works work) post desk found h d = work_keeps K R s work post desk found h d

-- a call begins with nothing decided
letting_by_keeps : (K : Answer → Type 0) (let_go : LetGo) (x : Option Base) → PhaseKeeps K (letting_by let_go x)
letting_by_keeps K let_go None = tt
letting_by_keeps K let_go (Some base) = tt

letting_keeps : (K : Answer → Type 0) (let_go : LetGo) (post : Post) → PhaseKeeps K (letting let_go post)
letting_keeps K let_go post = letting_by_keeps K let_go (release_base (scheme_of post) post (let_index let_go))

holding_keeps : (K : Answer → Type 0) (key : ℕ) (post : Post) (x : Option ℕ) → PhaseKeeps K (steps.holding key post x)
holding_keeps K key post None = round_keeps K (Holds key) post
holding_keeps K key post (Some slot) = letting_keeps K (Rehold key) post

copying_keeps : (K : Answer → Type 0) (from index : ℕ) (x : Option ℕ) → PhaseKeeps K (steps.copying from index x)
copying_keeps K from index None = tt
copying_keeps K from index (Some slot) = tt

looking_at_keeps : (K : Answer → Type 0) (index key : ℕ) (x : Option ℕ) → PhaseKeeps K (steps.looking_at index key x)
looking_at_keeps K index key None = tt
looking_at_keeps K index key (Some slot) = tt

pub first_keeps : (K : Answer → Type 0) (call : Call) (post : Post) → PhaseKeeps K (steps.first_phase call post)
first_keeps K (names.Get key) post = round_keeps K (Gets key) post
first_keeps K (names.Put key value) post = round_keeps K _ post
first_keeps K (names.Remove key) post = round_keeps K _ post
first_keeps K (names.Enqueue value) post = round_keeps K _ post
first_keeps K names.Dequeue post = round_keeps K Dequeues post
first_keeps K (names.Hold key) post = holding_keeps K key post (stands post 2)
first_keeps K names.Release post = letting_keeps K Released post
first_keeps K (names.Copy from index) post = copying_keeps K from index (stands post from)
first_keeps K (names.DropIndex index) post = letting_keeps K (Dropped index) post
first_keeps K (names.Look index key) post = looking_at_keeps K index key (stands post index)
first_keeps K names.Leave post = parts_all (PhaseKeeps K) (parts_keep K) post
first_keeps K (names.Adopt place) post = tt
first_keeps K (names.PutIf key value version) post = round_keeps K _ post
first_keeps K names.Advance post = tt
first_keeps K names.Scan post = tt
