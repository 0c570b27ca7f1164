-- What a step tells and finds of the queue, where it neither adds to it nor takes from it nor changes a bucket.
use Rattle.std.specs.Prelude.{ℕ, ◌≡◌, ◌<◌, ◌+◌, ◌==◌, ◌&&◌, Bool, true, false, List, [], ◌∷◌}
use Rattle.inv_ends.specs.model.defs.declared.call.Call.{Call}
use Rattle.inv_ends.specs.model.defs.declared.event.Event.{Event}
use Rattle.inv_ends.specs.model.defs.declared.event.Event.TheVariants as events
use Rattle.inv_ends.specs.model.declared.ends.FollowEnd.{FollowEnd}
use Rattle.inv_ends.specs.model.declared.ends.FollowEnd.TheVariants as follow_ends
use Rattle.inv_ends.specs.model.declared.post.Post.{Post}
use Rattle.inv_ends.specs.model.Book.{Book, booked_all}
use Rattle.inv_ends.specs.model.Desks.{Desk}
use Rattle.inv_ends.specs.model.Machine as machine
use Rattle.inv_ends.specs.model.Phases.{Ending, Outcome, Goes, Ends}
use Rattle.inv_ends.specs.model.Phases.Ending.{Done, Protected, Followed, Allocated, Retired, Clocked}
use Rattle.inv_ends.specs.model.Calls.{ChangeKept, EnqueueKept, Why, Opens, FollowsHead, ChangeAt, LoadVersion, LoadCount, LoadKey, LoadValue, ExchangeRoot, EnqueueAt, LoadNumber, LoadNext, PassTail, ExchangeNext, ExchangeTail, DequeueAt, LoadTail, SwingTail, TakeNumber, TakeValue, ExchangeHead, Work, Getting, Changing, Enqueuing, Dequeuing, Keeping, Phase, Idle, Runs, Scans, Works, CallTurn}
use Rattle.inv_ends.specs.model.Steps.{phase_turn, first_phase}
use Rattle.inv_ends.specs.shapes.Frame.{phase_left}
use Rattle.inv_ends.specs.rows.Queue.{Line}
use Rattle.inv_all.specs.Contents.Reads.{value_under, Reads}

-- the event leaves what the book says of the queue and of the changes of buckets
abbrev pub is_mute : Event → Bool
is_mute (events.Put bucket version key value) = false
is_mute (events.Removed bucket version key) = false
is_mute (events.Queued number value) = false
is_mute (events.Taken number value) = false
is_mute event = true

abbrev pub all_mute : List Event → Bool
all_mute [] = true
all_mute (event ∷ told) = is_mute event && all_mute told

-- two books say the same of the queue and of the changes of buckets
pub record SameItems (a b : Book) : Type 0 where
  pub queued : b.queued ≡ a.queued
  pub taken : b.taken ≡ a.taken
  pub changes : (bucket : ℕ) → b.changes bucket ≡ a.changes bucket

-- the step exchanges a root, a next link or the head, and finds what it expects
abbrev pub change_hits : ChangeKept → ChangeAt → ℕ → Bool
change_hits kept (LoadVersion slot) found = false
change_hits kept (LoadCount slot) found = false
change_hits kept (LoadKey slot count) found = false
change_hits kept (LoadValue slot count key) found = false
change_hits kept (ExchangeRoot slot) found = found == kept.link

abbrev pub enqueue_hits : EnqueueAt → ℕ → Bool
enqueue_hits LoadNumber found = false
enqueue_hits LoadNext found = false
enqueue_hits (PassTail next) found = false
enqueue_hits (ExchangeNext slot) found = found == 0
enqueue_hits (ExchangeTail slot) found = false

abbrev pub dequeue_hits : DequeueAt → ℕ → Bool
dequeue_hits (LoadTail head) found = false
dequeue_hits (SwingTail head next) found = false
dequeue_hits (TakeNumber head next) found = false
dequeue_hits (TakeValue head next number) found = false
dequeue_hits (ExchangeHead head next number value) found = found == head + 1

abbrev pub work_hits : Work → ℕ → Bool
work_hits (Getting key at) found = false
work_hits (Changing kept at) found = change_hits kept at found
work_hits (Enqueuing kept at) found = enqueue_hits at found
work_hits (Dequeuing at) found = dequeue_hits at found
work_hits (Keeping at) found = false

abbrev pub hits : Phase → ℕ → Bool
hits Idle found = false
hits (Runs why base) found = false
hits (Scans later at) found = false
hits (Works work) found = work_hits work found

-- what a step of an enqueue finds
abbrev pub enqueue_right : Line → EnqueueKept → EnqueueAt → ℕ → Type 0
enqueue_right l kept LoadNumber found = found ≡ l.number kept.tail
enqueue_right l kept LoadNext found = Unit {0}
enqueue_right l kept (PassTail next) found = Unit {0}
enqueue_right l kept (ExchangeNext slot) found = Unit {0}
enqueue_right l kept (ExchangeTail slot) found = Unit {0}

-- what it finds
abbrev pub dequeue_right : Line → List ℕ → DequeueAt → ℕ → Type 0
dequeue_right l queued (LoadTail head) found = Unit {0}
dequeue_right l queued (SwingTail head next) found = Unit {0}
dequeue_right l queued (TakeNumber head next) found = found ≡ l.number next
dequeue_right l queued (TakeValue head next number) found = found ≡ value_under queued (l.number next)
dequeue_right l queued (ExchangeHead head next number value) found = Unit {0}

abbrev pub work_right : Line → List ℕ → Work → ℕ → Type 0
work_right l queued (Getting key at) found = Unit {0}
work_right l queued (Changing kept at) found = Unit {0}
work_right l queued (Enqueuing kept at) found = enqueue_right l kept at found
work_right l queued (Dequeuing at) found = dequeue_right l queued at found
work_right l queued (Keeping at) found = Unit {0}

-- the row that was followed was in the queue since it was claimed last, behind another
pub record NextRight (l : Line) (slot : ℕ) : Type 0 where
  pub lined : l.lined slot ≡ true
  pub above : 0 < l.number slot

abbrev pub follow_right : Line → FollowEnd → Type 0
follow_right l (follow_ends.Followed slot) = NextRight l slot
follow_right l follow_ends.NoNext = Unit {0}
follow_right l (follow_ends.RootMoved seen) = Unit {0}

abbrev pub ending_right : Line → Ending → Type 0
ending_right l Done = Unit {0}
ending_right l (Protected ending) = Unit {0}
ending_right l (Followed ending) = follow_right l ending
ending_right l (Allocated ending) = Unit {0}
ending_right l (Retired life) = Unit {0}
ending_right l (Clocked clock) = Unit {0}

abbrev pub outcome_right : Line → Outcome → Type 0
outcome_right l (Goes base) = Unit {0}
outcome_right l (Ends ending) = ending_right l ending

-- how a machine ends that follows the head's next link
abbrev pub why_right : Line → Why → Outcome → Type 0
why_right l (Opens task) outcome = Unit {0}
why_right l (FollowsHead head tail) outcome = outcome_right l outcome
why_right l why outcome = Unit {0}

-- what a step finds, and how its machine ends
abbrev pub phase_right : Line → List ℕ → Phase → Post → ℕ → Type 0
phase_right l queued Idle post found = Unit {0}
phase_right l queued (Runs why base) post found = why_right l why (machine.after base post found).outcome
phase_right l queued (Scans later at) post found = Unit {0}
phase_right l queued (Works work) post found = work_right l queued work found

-- what a turn tells, and what the phase that it leaves has read
pub record Turns (l : Line) (queued : List ℕ) (t : CallTurn) : Type 0 where
  pub mute : all_mute t.told ≡ true
  pub reads : Reads (phase_left t.outcome) l queued

abbrev pub MuteBooks : Type 0
MuteBooks = (told : List Event) (a : Book) → all_mute told ≡ true → SameItems a (booked_all a told)

abbrev pub CallsBegin : Type 0
CallsBegin = (call : Call) (post : Post) (l : Line) (queued : List ℕ) → Reads (first_phase call post) l queued

abbrev pub CallsRead : Type 0
CallsRead =
    (l : Line) (queued : List ℕ) (phase : Phase) (post : Post) (desk : Desk) (found : ℕ) → hits phase found ≡ false
    → phase_right l queued phase post found → Reads phase l queued → Turns l queued (phase_turn phase post desk found)
