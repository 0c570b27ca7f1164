-- What a step of a seat tells of the queue, where it neither adds to it nor takes from it nor changes a bucket, and what the
-- phase that it leaves has read.
use Rattle.std.proofs.Common.{ℕ, ◌≡◌, ◌<◌, ◌+◌, ◌-◌, ◌&&◌, Bool, true, false, arith, refl, ap, sym, ◌∙◌, subst, List, [], ◌∷◌, ◌++◌, length}
use Rattle.std.proofs.lemmas.Bool.Decides.{nat_tests}
use Rattle.std.specs.Prelude.{◌==◌, nat_lt, Option, Some, None, drop}
use Rattle.inv_ends.specs.model.defs.declared.call.Answer.{Answer}
use Rattle.inv_ends.specs.model.defs.declared.call.Answer.TheVariants as the_answers
use Rattle.inv_ends.specs.model.defs.declared.event.Event.{Event}
use Rattle.inv_ends.specs.model.defs.declared.event.Event.TheVariants as events
use Rattle.inv_ends.specs.model.defs.declared.event.Root.{Root}
use Rattle.inv_ends.specs.model.defs.declared.event.Root.TheVariants as root_names
use Rattle.inv_ends.specs.model.declared.ends.AllocateEnd.{AllocateEnd}
use Rattle.inv_ends.specs.model.declared.ends.AllocateEnd.TheVariants as allocate_ends
use Rattle.inv_ends.specs.model.declared.ends.FollowEnd.{FollowEnd}
use Rattle.inv_ends.specs.model.declared.ends.FollowEnd.TheVariants as follow_ends
use Rattle.inv_ends.specs.model.declared.ends.ProtectEnd.TheVariants as protect_ends
use Rattle.inv_ends.specs.model.declared.post.Post.{Post}
use Rattle.inv_ends.specs.model.Desks.{Desk}
use Rattle.inv_ends.specs.model.Machine as machine
use Rattle.inv_ends.specs.model.Phases.{Base, Ending, Outcome, Goes, Ends, Turn}
use Rattle.inv_ends.specs.model.Phases.Ending.{Done, Protected, Followed, Allocated, Retired, Clocked}
use Rattle.inv_ends.specs.model.words.Schemes.{has_one_interval, publishes_rows}
use Rattle.inv_ends.specs.model.Posts.{cleared, cleared_from, reserves_span, stands, withdrawn, publishes_index}
use Rattle.inv_ends.specs.model.Rounds.{bucket_of, let_index, scheme_of, clearing, clearing_next, closed}
use Rattle.inv_ends.specs.model.Get as gets
use Rattle.inv_ends.specs.model.Change as alters
use Rattle.inv_ends.specs.model.Enqueue as enqueues
use Rattle.inv_ends.specs.model.Dequeue as dequeues
use Rattle.inv_ends.specs.model.Keep as keeps
use Rattle.inv_ends.specs.model.Scan as scan
use Rattle.inv_ends.specs.model.Steps as steps
use Rattle.inv_ends.specs.model.Steps.{first_phase}
use Rattle.inv_ends.specs.model.Calls.{ChangeKept, EnqueueKept, Task, Gets, Changes, Holds, Enqueues, Dequeues, Next, Again, Answering, Why, Opens, FollowsHead, Fills, ClearsNext, Clears, Finishes, GivesUp, Retires, Tidies, Advances, Releases, ScanAt, ReadGuard, GiveBack, GetAt, FindVersion, FindCount, FindKey, FindValue, ChangeAt, LoadVersion, LoadCount, LoadKey, LoadValue, ExchangeRoot, EnqueueAt, LoadNumber, LoadNext, PassTail, ExchangeNext, ExchangeTail, DequeueAt, LoadTail, SwingTail, TakeNumber, TakeValue, ExchangeHead, Work, Getting, Changing, Enqueuing, Dequeuing, Phase, Idle, Runs, Scans, Works, CallTurn, goes_on, KeepAt, Loosens, LoadHeld, StoreHeld, Looks, Misses, HideSpan, MarkLeft, TakeList, MarkTaken, Keeping}
use Rattle.inv_ends.specs.shapes.Frame.{phase_left}
use Rattle.inv_ends.specs.rows.Queue.{Line}
use Rattle.inv_all.proofs.Contents.Stands.Rounds.{why_free, is_free, Adds, clearing_adds, clearing_next_adds, closed_adds, scan_told, scan_adds, why_ends, ends_free, resume_adds, released_adds, each_first}
use Rattle.inv_all.specs.Contents.Reads.{value_under, Reads}
use Rattle.inv_all.proofs.Contents.QueueReads.Events.{mute_append, clear_mute}
use Rattle.inv_all.proofs.Contents.QueueReads.Told.{cleared_mute, shown_mute, base_mute}
use Rattle.inv_all.specs.Contents.Turns.{all_mute, change_hits, enqueue_hits, dequeue_hits, work_hits, NextRight, follow_right, ending_right, outcome_right, why_right, enqueue_right, dequeue_right, work_right, Turns, CallsBegin, CallsRead}
use Rattle.inv_all.proofs.Contents.Contents.Rounds.{task_plain}
use Rattle.inv_ends.proofs.rows.Quiet.{quiet_task}
use Rattle.inv_ends.proofs.model.Facts.{value_there}
use Rattle.inv_ends.specs.model.defs.declared.event.Guard.{Guard}
use Rattle.inv_ends.specs.model.Guards.{guard_at}

abbrev pub why_bare : Why → Bool
why_bare (Opens task) = true
why_bare (FollowsHead head tail) = true
why_bare (Fills task) = quiet_task task
why_bare why = true

abbrev pub enqueue_bare : EnqueueAt → Bool
enqueue_bare LoadNumber = true
enqueue_bare LoadNext = false
enqueue_bare (PassTail next) = false
enqueue_bare (ExchangeNext slot) = false
enqueue_bare (ExchangeTail slot) = true

abbrev pub dequeue_bare : DequeueAt → Bool
dequeue_bare (LoadTail head) = true
dequeue_bare (SwingTail head next) = false
dequeue_bare (TakeNumber head next) = false
dequeue_bare (TakeValue head next number) = false
dequeue_bare (ExchangeHead head next number value) = false

abbrev pub work_bare : Work → Bool
work_bare (Getting key at) = true
work_bare (Changing kept at) = true
work_bare (Enqueuing kept at) = enqueue_bare at
work_bare (Dequeuing at) = dequeue_bare at
work_bare (Keeping at) = true

abbrev pub is_bare : Phase → Bool
is_bare Idle = true
is_bare (Runs why base) = why_bare why
is_bare (Scans later at) = true
is_bare (Works work) = work_bare work

task_reads : (task : Task) (base : Base) (l : Line) (queued : List ℕ) → quiet_task task ≡ true → Reads (Runs (Fills task) base) l queued
task_reads (Gets key) base l queued h = record { lined = λ t e. cc; above = λ t e. absurd (cc); numbers = λ t n e. cc; values = λ t x e. cc }
task_reads (Changes kept) base l queued h = record { lined = λ t e. cc; above = λ t e. absurd (cc); numbers = λ t n e. cc; values = λ t x e. cc }
task_reads (Holds key) base l queued h = record { lined = λ t e. cc; above = λ t e. absurd (cc); numbers = λ t n e. cc; values = λ t x e. cc }
task_reads (Enqueues kept) base l queued h = absurd (cc)
task_reads Dequeues base l queued h = record { lined = λ t e. cc; above = λ t e. absurd (cc); numbers = λ t n e. cc; values = λ t x e. cc }

run_reads : (why : Why) (base : Base) (l : Line) (queued : List ℕ) → why_bare why ≡ true → Reads (Runs why base) l queued
run_reads (Opens task) base l queued h = record { lined = λ t e. cc; above = λ t e. absurd (cc); numbers = λ t n e. cc; values = λ t x e. cc }
run_reads (FollowsHead head tail) base l queued h = record { lined = λ t e. cc; above = λ t e. absurd (cc); numbers = λ t n e. cc; values = λ t x e. cc }
run_reads (Fills task) base l queued h = task_reads task base l queued h
run_reads (ClearsNext next) base l queued h = record { lined = λ t e. cc; above = λ t e. absurd (cc); numbers = λ t n e. cc; values = λ t x e. cc }
run_reads (Clears task next) base l queued h = record { lined = λ t e. cc; above = λ t e. absurd (cc); numbers = λ t n e. cc; values = λ t x e. cc }
run_reads (Finishes task next) base l queued h = record { lined = λ t e. cc; above = λ t e. absurd (cc); numbers = λ t n e. cc; values = λ t x e. cc }
run_reads (GivesUp answer) base l queued h = record { lined = λ t e. cc; above = λ t e. absurd (cc); numbers = λ t n e. cc; values = λ t x e. cc }
run_reads (Retires answer) base l queued h = record { lined = λ t e. cc; above = λ t e. absurd (cc); numbers = λ t n e. cc; values = λ t x e. cc }
run_reads (Tidies later) base l queued h = record { lined = λ t e. cc; above = λ t e. absurd (cc); numbers = λ t n e. cc; values = λ t x e. cc }
run_reads Advances base l queued h = record { lined = λ t e. cc; above = λ t e. absurd (cc); numbers = λ t n e. cc; values = λ t x e. cc }
run_reads (Releases let_go) base l queued h = record { lined = λ t e. cc; above = λ t e. absurd (cc); numbers = λ t n e. cc; values = λ t x e. cc }

enqueue_reads : (kept : EnqueueKept) (at : EnqueueAt) (l : Line) (queued : List ℕ) → enqueue_bare at ≡ true → Reads (Works (Enqueuing kept at)) l queued
enqueue_reads kept LoadNumber l queued h = record { lined = λ t e. cc; above = λ t e. absurd (cc); numbers = λ t n e. cc; values = λ t x e. cc }
enqueue_reads kept LoadNext l queued h = absurd (cc)
enqueue_reads kept (PassTail next) l queued h = absurd (cc)
enqueue_reads kept (ExchangeNext slot) l queued h = absurd (cc)
enqueue_reads kept (ExchangeTail slot) l queued h = record { lined = λ t e. cc; above = λ t e. absurd (cc); numbers = λ t n e. cc; values = λ t x e. cc }

dequeue_reads : (at : DequeueAt) (l : Line) (queued : List ℕ) → dequeue_bare at ≡ true → Reads (Works (Dequeuing at)) l queued
dequeue_reads (LoadTail head) l queued h = record { lined = λ t e. cc; above = λ t e. absurd (cc); numbers = λ t n e. cc; values = λ t x e. cc }
dequeue_reads (SwingTail head next) l queued h = absurd (cc)
dequeue_reads (TakeNumber head next) l queued h = absurd (cc)
dequeue_reads (TakeValue head next number) l queued h = absurd (cc)
dequeue_reads (ExchangeHead head next number value) l queued h = absurd (cc)

pub bare_reads : (phase : Phase) (l : Line) (queued : List ℕ) → is_bare phase ≡ true → Reads phase l queued
bare_reads Idle l queued h = record { lined = λ t e. cc; above = λ t e. absurd (cc); numbers = λ t n e. cc; values = λ t x e. cc }
bare_reads (Runs why base) l queued h = run_reads why base l queued h
bare_reads (Scans later at) l queued h = record { lined = λ t e. cc; above = λ t e. absurd (cc); numbers = λ t n e. cc; values = λ t x e. cc }
bare_reads (Works (Getting key at)) l queued h = record { lined = λ t e. cc; above = λ t e. absurd (cc); numbers = λ t n e. cc; values = λ t x e. cc }
bare_reads (Works (Changing kept at)) l queued h = record { lined = λ t e. cc; above = λ t e. absurd (cc); numbers = λ t n e. cc; values = λ t x e. cc }
bare_reads (Works (Enqueuing kept at)) l queued h = enqueue_reads kept at l queued h
bare_reads (Works (Dequeuing at)) l queued h = dequeue_reads at l queued h
bare_reads (Works (Keeping at)) l queued h = record { lined = λ t e. cc; above = λ t e. absurd (cc); numbers = λ t n e. cc; values = λ t x e. cc }

-- a call that works on no row has read of none

free_task : (task : Task) → task_plain task ≡ true → quiet_task task ≡ true
free_task (Gets key) h = refl
free_task (Changes kept) h = refl
free_task (Holds key) h = refl
free_task (Enqueues kept) h = absurd (cc)
free_task Dequeues h = refl

free_why : (why : Why) → why_free why ≡ true → why_bare why ≡ true
free_why (Opens task) h = refl
free_why (FollowsHead head tail) h = refl
free_why (Fills task) h = free_task task h
free_why why h = refl

pub free_bare : (phase : Phase) → is_free phase ≡ true → is_bare phase ≡ true
free_bare Idle h = refl
free_bare (Runs why base) h = free_why why h
free_bare (Scans later at) h = refl
free_bare (Works (Keeping at)) h = refl
free_bare (Works work) h = absurd (cc)

bare_turns : (l : Line) (queued : List ℕ) (post : Post) (desk : Desk) (told : List Event) (phase : Phase) → all_mute told ≡ true → is_bare phase ≡ true → Turns l queued (goes_on post desk told phase)
bare_turns l queued post desk told phase c h = record { mute = c; reads = bare_reads phase l queued h }

adds_turns : (l : Line) (queued : List ℕ) (told : List Event) (t : CallTurn) → all_mute told ≡ true → Adds told t → Turns l queued t
adds_turns l queued told t c a = record {
  mute = subst (λ (x : List Event). all_mute x ≡ true) (sym a.adds) (mute_append told a.more c (clear_mute a.more a.clear));
  reads = bare_reads (phase_left t.outcome) l queued (free_bare (phase_left t.outcome) a.free);
}

clearing_turns : (l : Line) (queued : List ℕ) (task : Task) (next : Next) (post : Post) (desk : Desk) (told : List Event) → all_mute told ≡ true → Turns l queued (clearing task next post desk told)
clearing_turns l queued task next post desk told c = adds_turns l queued told (clearing task next post desk told) c (clearing_adds task next post desk told)

clearing_next_turns : (l : Line) (queued : List ℕ) (next : Next) (post : Post) (desk : Desk) (told : List Event) → all_mute told ≡ true → Turns l queued (clearing_next next post desk told)
clearing_next_turns l queued next post desk told c = adds_turns l queued told (clearing_next next post desk told) c (clearing_next_adds next post desk told)

closed_turns : (l : Line) (queued : List ℕ) (task : Task) (next : Next) (post : Post) (desk : Desk) (told : List Event) → all_mute told ≡ true → Turns l queued (closed task next post desk told)
closed_turns l queued task next post desk told c = adds_turns l queued told (closed task next post desk told) c (closed_adds task next post desk told)

-- a get

got_turns : (l : Line) (queued : List ℕ) (key version : ℕ) (value : Option ℕ) (post : Post) (desk : Desk) (told : List Event) → all_mute told ≡ true → Turns l queued (gets.got key version value post desk told)
got_turns l queued key version value post desk told c =
    clearing_turns l queued (Gets key) (Answering (the_answers.Got version value)) post desk (told ++ events.Got (bucket_of post key) version key value ∷ []) (mute_append told (events.Got (bucket_of post key) version key value ∷ []) c refl)

finding_turns : (l : Line) (queued : List ℕ) (key slot version count : ℕ) (post : Post) (desk : Desk) (more : Bool) (pair : ℕ) → Turns l queued (gets.finding key slot version count post desk more pair)
finding_turns l queued key slot version count post desk true pair = bare_turns l queued post desk [] (Works (Getting key (FindKey slot version count pair))) refl refl
finding_turns l queued key slot version count post desk false pair = got_turns l queued key version None post desk [] refl

found_key_turns : (l : Line) (queued : List ℕ) (key slot version count pair : ℕ) (post : Post) (desk : Desk) (own : Bool) → Turns l queued (gets.found_key key slot version count pair post desk own)
found_key_turns l queued key slot version count pair post desk true = bare_turns l queued post desk [] (Works (Getting key (FindValue slot version pair))) refl refl
found_key_turns l queued key slot version count pair post desk false = finding_turns l queued key slot version count post desk (nat_lt (pair + 1) count) (pair + 1)

get_turns : (l : Line) (queued : List ℕ) (key : ℕ) (at : GetAt) (post : Post) (desk : Desk) (found : ℕ) → Turns l queued (gets.get_turn key at post desk found)
get_turns l queued key (FindVersion slot) post desk found = bare_turns l queued post desk [] (Works (Getting key (FindCount slot found))) refl refl
get_turns l queued key (FindCount slot version) post desk found = finding_turns l queued key slot version found post desk (nat_lt 0 found) 0
get_turns l queued key (FindKey slot version count pair) post desk found = found_key_turns l queued key slot version count pair post desk (found == key)
get_turns l queued key (FindValue slot version pair) post desk found = got_turns l queued key version (Some found) post desk [] refl

-- a put or a remove

deciding_by_turns : (l : Line) (queued : List ℕ) (kept : ChangeKept) (post : Post) (desk : Desk) (told : List Event) (x : Option Answer) → all_mute told ≡ true → Turns l queued (alters.deciding_by kept post desk told x)
deciding_by_turns l queued kept post desk told (Some answer) c = clearing_turns l queued (Changes kept) (Answering answer) post desk told c
deciding_by_turns l queued kept post desk told None c = bare_turns l queued post desk told (Runs (Fills (Changes (alters.with_change kept))) (alters.filling (alters.with_change kept))) c refl

deciding_turns : (l : Line) (queued : List ℕ) (kept : ChangeKept) (post : Post) (desk : Desk) (told : List Event) → all_mute told ≡ true → Turns l queued (alters.deciding kept post desk told)
deciding_turns l queued kept post desk told c = deciding_by_turns l queued kept post desk told (alters.refused post.layout.config kept) c

reading_turns : (l : Line) (queued : List ℕ) (kept : ChangeKept) (slot count : ℕ) (post : Post) (desk : Desk) (more : Bool) → Turns l queued (alters.reading kept slot count post desk more)
reading_turns l queued kept slot count post desk true = bare_turns l queued post desk [] (Works (Changing kept (LoadKey slot count))) refl refl
reading_turns l queued kept slot count post desk false = deciding_turns l queued kept post desk [] refl

exchanged_turns : (l : Line) (queued : List ℕ) (kept : ChangeKept) (slot : ℕ) (post : Post) (desk : Desk) (same : Bool) → same ≡ false → Turns l queued (alters.exchanged kept slot post desk same)
exchanged_turns l queued kept slot post desk true e = absurd (cc)
exchanged_turns l queued kept slot post desk false e = clearing_turns l queued (Changes kept) Again post desk [] refl

change_turns : (l : Line) (queued : List ℕ) (kept : ChangeKept) (at : ChangeAt) (post : Post) (desk : Desk) (found : ℕ) → change_hits kept at found ≡ false → Turns l queued (alters.change_turn kept at post desk found)
change_turns l queued kept (LoadVersion slot) post desk found e = bare_turns l queued post desk [] (Works (Changing (record kept { version = found }) (LoadCount slot))) refl refl
change_turns l queued kept (LoadCount slot) post desk found e = reading_turns l queued kept slot found post desk (nat_lt 0 found)
change_turns l queued kept (LoadKey slot count) post desk found e = bare_turns l queued post desk [] (Works (Changing kept (LoadValue slot count found))) refl refl
change_turns l queued kept (LoadValue slot count key) post desk found e = reading_turns l queued (alters.with_read kept key found) slot count post desk (nat_lt (length kept.pairs + 1) count)
change_turns l queued kept (ExchangeRoot slot) post desk found e = exchanged_turns l queued kept slot post desk (found == kept.link) e

-- an enqueue

-- the number of the tail's row that it has read
abbrev pub Numbered : Line → EnqueueKept → Type 0
Numbered l kept = l.number kept.tail ≡ kept.number

fills_reads : (l : Line) (queued : List ℕ) (kept : EnqueueKept) (base : Base) → Numbered l kept → Reads (Runs (Fills (Enqueues kept)) base) l queued
fills_reads l queued kept base h = record { lined = λ t e. cc; above = λ t e. absurd (cc); numbers = λ t n e. value_there l.number kept.tail kept.number t n h e; values = λ t x e. cc }

appending_turns : (l : Line) (queued : List ℕ) (kept : EnqueueKept) (post : Post) (desk : Desk) (spent : Bool) → Numbered l kept → Turns l queued (enqueues.appending kept post desk spent)
appending_turns l queued kept post desk true h = clearing_turns l queued (Enqueues kept) (Answering (the_answers.Spent kept.number)) post desk [] refl
appending_turns l queued kept post desk false h = record { mute = refl; reads = fills_reads l queued kept (enqueues.filling kept) h }

at_next_turns : (l : Line) (queued : List ℕ) (kept : EnqueueKept) (next : ℕ) (post : Post) (desk : Desk) (none : Bool) → Numbered l kept → Turns l queued (enqueues.at_next kept next post desk none)
at_next_turns l queued kept next post desk true h = appending_turns l queued kept post desk (kept.number == post.layout.config.last_version) h
at_next_turns l queued kept next post desk false h = record { mute = refl; reads = record { lined = λ t e. cc; above = λ t e. absurd (cc); numbers = λ t n e. value_there l.number kept.tail kept.number t n h e; values = λ t x e. cc } }

appended_turns : (l : Line) (queued : List ℕ) (kept : EnqueueKept) (slot : ℕ) (post : Post) (desk : Desk) (same : Bool) → same ≡ false → Turns l queued (enqueues.appended kept slot post desk same)
appended_turns l queued kept slot post desk true e = absurd (cc)
appended_turns l queued kept slot post desk false e = clearing_turns l queued (Enqueues kept) Again post desk [] refl

link_mute : (root : Root) (slot : ℕ) (same : Bool) → all_mute (enqueues.told_link root slot same) ≡ true
link_mute root slot true = refl
link_mute root slot false = refl

number_of : (l : Line) (queued : List ℕ) (kept : EnqueueKept) (phase : Phase) → Reads phase l queued → ((t n : ℕ) → (kept.tail == t && (kept.number == n)) ≡ true → l.number t ≡ n) → Numbered l kept
number_of l queued kept phase h f = f kept.tail kept.number (grind (arith, nat_tests))

enqueue_turns : (l : Line) (queued : List ℕ) (kept : EnqueueKept) (at : EnqueueAt) (post : Post) (desk : Desk) (found : ℕ) → enqueue_hits at found ≡ false → enqueue_right l kept at found → Reads (Works (Enqueuing kept at)) l queued → Turns l queued (enqueues.enqueue_turn kept at post desk found)
enqueue_turns l queued kept LoadNumber post desk found e r h = record { mute = refl; reads = record { lined = λ t e. cc; above = λ t e. absurd (cc); numbers = λ t n e. value_there l.number kept.tail found t n (sym r) e; values = λ t x e. cc } }
enqueue_turns l queued kept LoadNext post desk found e r h = at_next_turns l queued kept found post desk (found == 0) (number_of l queued kept (Works (Enqueuing kept LoadNext)) h (λ t n e. h.numbers t n e))
enqueue_turns l queued kept (PassTail next) post desk found e r h =
    clearing_turns l queued (Enqueues kept) Again post desk (enqueues.told_link root_names.Tail (next - 1) (found == kept.tail + 1)) (link_mute root_names.Tail (next - 1) (found == kept.tail + 1))
enqueue_turns l queued kept (ExchangeNext slot) post desk found e r h = appended_turns l queued kept slot post desk (found == 0) e
enqueue_turns l queued kept (ExchangeTail slot) post desk found e r h =
    clearing_turns l queued (Enqueues kept) (Answering (the_answers.Queued (kept.number + 1))) post desk (enqueues.told_link root_names.Tail slot (found == kept.tail + 1)) (link_mute root_names.Tail slot (found == kept.tail + 1))

-- a dequeue

taken_turns : (l : Line) (queued : List ℕ) (head next number value : ℕ) (post : Post) (desk : Desk) (same : Bool) → same ≡ false → Turns l queued (dequeues.taken head next number value post desk same)
taken_turns l queued head next number value post desk true e = absurd (cc)
taken_turns l queued head next number value post desk false e = clearing_next_turns l queued Again post desk [] refl

valued_in : (l : Line) (queued : List ℕ) (row value t x : ℕ) → value_under queued (l.number row) ≡ value → (row == t && (value == x)) ≡ true → value_under queued (l.number t) ≡ x
valued_in l queued row value t x h e =
    let here : row ≡ t = grind (arith, nat_tests) in
    let same : value ≡ x = grind (arith, nat_tests) in
    sym (ap (λ (r : ℕ). value_under queued (l.number r)) here) ∙ h ∙ same

dequeue_turns : (l : Line) (queued : List ℕ) (at : DequeueAt) (post : Post) (desk : Desk) (found : ℕ) → dequeue_hits at found ≡ false → dequeue_right l queued at found → Reads (Works (Dequeuing at)) l queued → Turns l queued (dequeues.dequeue_turn at post desk found)
dequeue_turns l queued (LoadTail head) post desk found e r h = record { mute = refl; reads = bare_reads (phase_left (dequeues.dequeue_turn (LoadTail head) post desk found).outcome) l queued refl }
dequeue_turns l queued (SwingTail head next) post desk found e r h = clearing_next_turns l queued Again post desk (enqueues.told_link root_names.Tail next (found == head + 1)) (link_mute root_names.Tail next (found == head + 1))
dequeue_turns l queued (TakeNumber head next) post desk found e r h = record {
  mute = refl;
  reads = record { lined = λ t u. h.lined t u; above = λ t u. h.above t u; numbers = λ t n u. value_there l.number next found t n (sym r) u; values = λ t x u. cc };
}
dequeue_turns l queued (TakeValue head next number) post desk found e r h = record {
  mute = refl;
  reads = record { lined = λ t u. h.lined t u; above = λ t u. h.above t u; numbers = λ t n u. h.numbers t n u; values = λ t x u. valued_in l queued next found t x (sym r) u };
}
dequeue_turns l queued (ExchangeHead head next number value) post desk found e r h = taken_turns l queued head next number value post desk (found == head + 1) e

-- what is kept

copied_turns : (l : Line) (queued : List ℕ) (from index : ℕ) (post : Post) (desk : Desk) (reserved : List Event) (kept : Option ℕ) → all_mute reserved ≡ true → Turns l queued (keeps.copied from index post desk reserved kept)
copied_turns l queued from index post desk reserved None c = record { mute = refl; reads = bare_reads Idle l queued refl }
copied_turns l queued from index post desk reserved (Some slot) c = record {
  mute = mute_append (cleared index (stands post index) ++ reserved) (events.Copied from index slot ∷ []) (mute_append (cleared index (stands post index)) reserved (cleared_mute index (stands post index)) c) refl;
  reads = bare_reads Idle l queued refl;
}

load_held_turns : (l : Line) (queued : List ℕ) (from index : ℕ) (post : Post) (desk : Desk) (found : ℕ) (one : Bool) → Turns l queued (keeps.load_held from index post desk found one)
load_held_turns l queued from index post desk found true = copied_turns l queued from index post desk [] (stands post from) refl
load_held_turns l queued from index post desk found false = record { mute = refl; reads = bare_reads _ l queued refl }

looking_turns : (l : Line) (queued : List ℕ) (index key slot version count : ℕ) (post : Post) (desk : Desk) (more : Bool) (pair : ℕ) → Turns l queued (keeps.looking index key slot version count post desk more pair)
looking_turns l queued index key slot version count post desk true pair = record { mute = refl; reads = bare_reads _ l queued refl }
looking_turns l queued index key slot version count post desk false pair = record { mute = refl; reads = bare_reads Idle l queued refl }

looked_key_turns : (l : Line) (queued : List ℕ) (index key slot version count pair : ℕ) (post : Post) (desk : Desk) (own : Bool) → Turns l queued (keeps.looked_key index key slot version count pair post desk own)
looked_key_turns l queued index key slot version count pair post desk true = record { mute = refl; reads = bare_reads _ l queued refl }
looked_key_turns l queued index key slot version count pair post desk false = looking_turns l queued index key slot version count post desk (nat_lt (pair + 1) count) (pair + 1)

look_turns : (l : Line) (queued : List ℕ) (index key : ℕ) (at : GetAt) (post : Post) (desk : Desk) (found : ℕ) → Turns l queued (keeps.look_turn index key at post desk found)
look_turns l queued index key (FindVersion slot) post desk found = record { mute = refl; reads = bare_reads _ l queued refl }
look_turns l queued index key (FindCount slot version) post desk found = looking_turns l queued index key slot version found post desk (nat_lt 0 found) 0
look_turns l queued index key (FindKey slot version count pair) post desk found = looked_key_turns l queued index key slot version count pair post desk (found == key)
look_turns l queued index key (FindValue slot version pair) post desk found = record { mute = refl; reads = bare_reads Idle l queued refl }

hidden_mute : (index : ℕ) (rows : List (Option ℕ)) → all_mute (cleared_from index rows) ≡ true
hidden_mute index [] = refl
hidden_mute index (row ∷ rows) = mute_append (cleared index row) (cleared_from (index + 1) rows) (cleared_mute index row) (hidden_mute (index + 1) rows)

taking_turns : (l : Line) (queued : List ℕ) (place : ℕ) (post : Post) (desk : Desk) (left : Bool) (found : ℕ) → Turns l queued (keeps.taking place post desk left found)
taking_turns l queued place post desk true found = record { mute = refl; reads = bare_reads _ l queued refl }
taking_turns l queued place post desk false found = record { mute = refl; reads = bare_reads Idle l queued refl }

keep_turns : (l : Line) (queued : List ℕ) (at : KeepAt) (post : Post) (desk : Desk) (found : ℕ) → Turns l queued (keeps.keep_turn at post desk found)
keep_turns l queued (Loosens let_go) post desk found =
    let told : List Event = cleared (let_index let_go) (stands post (let_index let_go)) in
    adds_turns l queued told (keeps.keep_turn (Loosens let_go) post desk found) (cleared_mute (let_index let_go) (stands post (let_index let_go))) (released_adds let_go (withdrawn post (let_index let_go)) desk told)
keep_turns l queued (LoadHeld from index) post desk found = load_held_turns l queued from index post desk found (has_one_interval (scheme_of post))
keep_turns l queued (StoreHeld from index era) post desk found = copied_turns l queued from index post desk (publishes_index (publishes_rows (scheme_of post)) post index era) (stands post from) (shown_mute (publishes_rows (scheme_of post)) post index era)
keep_turns l queued (Looks index key at) post desk found = look_turns l queued index key at post desk found
keep_turns l queued (Misses index) post desk found = record { mute = refl; reads = bare_reads Idle l queued refl }
keep_turns l queued HideSpan post desk found = record {
  mute = mute_append (cleared_from 2 (drop 2 post.standing)) (reserves_span post None) (hidden_mute 2 (drop 2 post.standing)) refl;
  reads = bare_reads _ l queued refl;
}
keep_turns l queued MarkLeft post desk found = record { mute = refl; reads = bare_reads Idle l queued refl }
keep_turns l queued (TakeList place) post desk found = taking_turns l queued place post desk (found == 1) found
keep_turns l queued (MarkTaken place count) post desk found = record { mute = refl; reads = bare_reads Idle l queued refl }

-- a call's own step

work_turns : (l : Line) (queued : List ℕ) (work : Work) (post : Post) (desk : Desk) (found : ℕ) → work_hits work found ≡ false → work_right l queued work found → Reads (Works work) l queued → Turns l queued (steps.work_turn work post desk found)
work_turns l queued (Getting key at) post desk found e r h = get_turns l queued key at post desk found
work_turns l queued (Changing kept at) post desk found e r h = change_turns l queued kept at post desk found e
work_turns l queued (Enqueuing kept at) post desk found e r h = enqueue_turns l queued kept at post desk found e r h
work_turns l queued (Dequeuing at) post desk found e r h = dequeue_turns l queued at post desk found e r h
work_turns l queued (Keeping at) post desk found e r h = keep_turns l queued at post desk found

-- where a machine has ended

opened_row_turns : (l : Line) (queued : List ℕ) (task : Task) (slot : ℕ) (post : Post) (desk : Desk) (told : List Event) → all_mute told ≡ true → Turns l queued (steps.opened_row task slot post desk told)
opened_row_turns l queued (Gets key) slot post desk told c = bare_turns l queued post desk told (Works (Getting key (FindVersion slot))) c refl
opened_row_turns l queued (Changes kept) slot post desk told c = bare_turns l queued post desk told (Works (Changing (alters.at_link kept (slot + 1)) (LoadVersion slot))) c refl
opened_row_turns l queued (Holds key) slot post desk told c = record { mute = c; reads = bare_reads Idle l queued refl }
opened_row_turns l queued (Enqueues kept) slot post desk told c = bare_turns l queued post desk told (Works (Enqueuing (record kept { tail = slot }) LoadNumber)) c refl
opened_row_turns l queued Dequeues slot post desk told c = bare_turns l queued post desk told (Works (Dequeuing (LoadTail slot))) c refl

opened_null_turns : (l : Line) (queued : List ℕ) (task : Task) (post : Post) (desk : Desk) (told : List Event) → all_mute told ≡ true → Turns l queued (steps.opened_null task post desk told)
opened_null_turns l queued (Gets key) post desk told c = got_turns l queued key 0 None post desk told c
opened_null_turns l queued (Changes kept) post desk told c = deciding_turns l queued (alters.at_link kept 0) post desk told c
opened_null_turns l queued (Holds key) post desk told c = clearing_turns l queued (Holds key) (Answering the_answers.Nothing) post desk told c
opened_null_turns l queued (Enqueues kept) post desk told c = clearing_turns l queued (Enqueues kept) Again post desk told c
opened_null_turns l queued Dequeues post desk told c = clearing_turns l queued Dequeues Again post desk told c

opened_turns : (l : Line) (queued : List ℕ) (task : Task) (ending : Ending) (post : Post) (desk : Desk) (told : List Event) → all_mute told ≡ true → Turns l queued (steps.opened task ending post desk told)
opened_turns l queued task (Protected (protect_ends.Held slot era)) post desk told c = opened_row_turns l queued task slot post desk told c
opened_turns l queued task (Protected protect_ends.Null) post desk told c = opened_null_turns l queued task post desk told c
opened_turns l queued task Done post desk told c = record { mute = c; reads = run_reads (Opens task) _ l queued refl }
opened_turns l queued task (Followed ending) post desk told c = record { mute = c; reads = run_reads (Opens task) _ l queued refl }
opened_turns l queued task (Allocated ending) post desk told c = record { mute = c; reads = run_reads (Opens task) _ l queued refl }
opened_turns l queued task (Retired life) post desk told c = record { mute = c; reads = run_reads (Opens task) _ l queued refl }
opened_turns l queued task (Clocked clock) post desk told c = record { mute = c; reads = run_reads (Opens task) _ l queued refl }

next_lined : (l : Line) (slot t : ℕ) → NextRight l slot → (slot == t) ≡ true → l.lined t ≡ true
next_lined l slot t h e = let here : slot ≡ t = grind (arith, nat_tests) in sym (ap l.lined here) ∙ h.lined

next_above : (l : Line) (slot t : ℕ) → NextRight l slot → (slot == t) ≡ true → 0 < l.number t
next_above l slot t h e = let here : slot ≡ t = grind (arith, nat_tests) in subst (λ (x : ℕ). 0 < l.number x) here h.above

followed_row_turns : (l : Line) (queued : List ℕ) (head next : ℕ) (post : Post) (desk : Desk) (told : List Event) (lags : Bool) → all_mute told ≡ true → NextRight l next → Turns l queued (dequeues.followed_row head next post desk told lags)
followed_row_turns l queued head next post desk told true c h = record { mute = c; reads = record { lined = λ t e. next_lined l next t h e; above = λ t e. next_above l next t h e; numbers = λ t n e. cc; values = λ t x e. cc } }
followed_row_turns l queued head next post desk told false c h = record { mute = c; reads = record { lined = λ t e. next_lined l next t h e; above = λ t e. next_above l next t h e; numbers = λ t n e. cc; values = λ t x e. cc } }

followed_turns : (l : Line) (queued : List ℕ) (head tail : ℕ) (ending : FollowEnd) (post : Post) (desk : Desk) (told : List Event) → all_mute told ≡ true → follow_right l ending → Turns l queued (dequeues.followed head tail ending post desk told)
followed_turns l queued head tail (follow_ends.Followed slot) post desk told c h = followed_row_turns l queued head slot post desk told (tail == head + 1) c h
followed_turns l queued head tail follow_ends.NoNext post desk told c h = clearing_next_turns l queued (Answering the_answers.Empty) post desk told c
followed_turns l queued head tail (follow_ends.RootMoved seen) post desk told c h = clearing_next_turns l queued Again post desk told c

followed_by_turns : (l : Line) (queued : List ℕ) (head tail : ℕ) (ending : Ending) (post : Post) (desk : Desk) (told : List Event) → all_mute told ≡ true → ending_right l ending → Turns l queued (steps.followed_by head tail ending post desk told)
followed_by_turns l queued head tail (Followed ending) post desk told c h = followed_turns l queued head tail ending post desk told c h
followed_by_turns l queued head tail Done post desk told c h = closed_turns l queued Dequeues Again post desk told c
followed_by_turns l queued head tail (Protected ending) post desk told c h = closed_turns l queued Dequeues Again post desk told c
followed_by_turns l queued head tail (Allocated ending) post desk told c h = closed_turns l queued Dequeues Again post desk told c
followed_by_turns l queued head tail (Retired life) post desk told c h = closed_turns l queued Dequeues Again post desk told c
followed_by_turns l queued head tail (Clocked clock) post desk told c h = closed_turns l queued Dequeues Again post desk told c

-- a row was given, or written

abbrev pub task_right : Line → Task → Type 0
task_right l (Gets key) = Unit {0}
task_right l (Changes kept) = Unit {0}
task_right l (Holds key) = Unit {0}
task_right l (Enqueues kept) = Numbered l kept
task_right l Dequeues = Unit {0}

change_given : (l : Line) (queued : List ℕ) (kept : ChangeKept) (ending : AllocateEnd) (post : Post) (desk : Desk) (told : List Event) → all_mute told ≡ true → Turns l queued (steps.filled_by (Changes kept) ending post desk told)
change_given l queued kept (allocate_ends.Given slot birth) post desk told c = record { mute = c; reads = run_reads (Fills (Changes (alters.with_taken kept slot))) _ l queued refl }
change_given l queued kept allocate_ends.Full post desk told c = clearing_turns l queued (Changes (alters.with_walked kept)) (alters.no_room kept.walked) post desk told c

item_given : (l : Line) (queued : List ℕ) (kept : EnqueueKept) (ending : AllocateEnd) (post : Post) (desk : Desk) (told : List Event) → all_mute told ≡ true → Numbered l kept → Turns l queued (steps.filled_by (Enqueues kept) ending post desk told)
item_given l queued kept (allocate_ends.Given slot birth) post desk told c h = record { mute = c; reads = fills_reads l queued (enqueues.item_taken kept slot) _ h }
item_given l queued kept allocate_ends.Full post desk told c h = clearing_turns l queued (Enqueues (enqueues.item_walked kept)) (alters.no_room kept.walked) post desk told c

filled_by_turns : (l : Line) (queued : List ℕ) (task : Task) (ending : AllocateEnd) (post : Post) (desk : Desk) (told : List Event) → all_mute told ≡ true → task_right l task → Turns l queued (steps.filled_by task ending post desk told)
filled_by_turns l queued (Changes kept) ending post desk told c h = change_given l queued kept ending post desk told c
filled_by_turns l queued (Enqueues kept) ending post desk told c h = item_given l queued kept ending post desk told c h
filled_by_turns l queued (Gets key) ending post desk told c h = closed_turns l queued (Gets key) Again post desk told c
filled_by_turns l queued (Holds key) ending post desk told c h = closed_turns l queued (Holds key) Again post desk told c
filled_by_turns l queued Dequeues ending post desk told c h = closed_turns l queued Dequeues Again post desk told c

written_row_turns : (l : Line) (queued : List ℕ) (task : Task) (post : Post) (desk : Desk) (told : List Event) → all_mute told ≡ true → task_right l task → Turns l queued (steps.written_row task post desk told)
written_row_turns l queued (Changes kept) post desk told c h = bare_turns l queued post desk told (Works (Changing kept (ExchangeRoot (steps.slot_in kept.taken)))) c refl
written_row_turns l queued (Enqueues kept) post desk told c h = record { mute = c; reads = record { lined = λ t e. cc; above = λ t e. absurd (cc); numbers = λ t n e. value_there l.number kept.tail kept.number t n h e; values = λ t x e. cc } }
written_row_turns l queued (Gets key) post desk told c h = closed_turns l queued (Gets key) Again post desk told c
written_row_turns l queued (Holds key) post desk told c h = closed_turns l queued (Holds key) Again post desk told c
written_row_turns l queued Dequeues post desk told c h = closed_turns l queued Dequeues Again post desk told c

filled_turns : (l : Line) (queued : List ℕ) (task : Task) (ending : Ending) (post : Post) (desk : Desk) (told : List Event) → all_mute told ≡ true → task_right l task → Turns l queued (steps.filled task ending post desk told)
filled_turns l queued task (Allocated ending) post desk told c h = filled_by_turns l queued task ending post desk told c h
filled_turns l queued task Done post desk told c h = written_row_turns l queued task post desk told c h
filled_turns l queued task (Protected ending) post desk told c h = written_row_turns l queued task post desk told c h
filled_turns l queued task (Followed ending) post desk told c h = written_row_turns l queued task post desk told c h
filled_turns l queued task (Retired life) post desk told c h = written_row_turns l queued task post desk told c h
filled_turns l queued task (Clocked clock) post desk told c h = written_row_turns l queued task post desk told c h

-- a machine's step

opens_turns : (l : Line) (queued : List ℕ) (task : Task) (desk : Desk) (post : Post) (told : List Event) (outcome : Outcome) → all_mute told ≡ true → Turns l queued (steps.resumed (Opens task) desk post told outcome)
opens_turns l queued task desk post told (Goes base) c = record { mute = c; reads = run_reads (Opens task) base l queued refl }
opens_turns l queued task desk post told (Ends ending) c = opened_turns l queued task ending post desk told c

follows_turns : (l : Line) (queued : List ℕ) (head tail : ℕ) (desk : Desk) (post : Post) (told : List Event) (outcome : Outcome) → all_mute told ≡ true → outcome_right l outcome → Turns l queued (steps.resumed (FollowsHead head tail) desk post told outcome)
follows_turns l queued head tail desk post told (Goes base) c h = record { mute = c; reads = run_reads (FollowsHead head tail) base l queued refl }
follows_turns l queued head tail desk post told (Ends ending) c h = followed_by_turns l queued head tail ending post desk told c h

task_turns : (l : Line) (queued : List ℕ) (task : Task) (base : Base) → task_right l task → Reads (Runs (Fills task) base) l queued
task_turns l queued (Gets key) base h = run_reads (Fills (Gets key)) base l queued refl
task_turns l queued (Changes kept) base h = run_reads (Fills (Changes kept)) base l queued refl
task_turns l queued (Holds key) base h = run_reads (Fills (Holds key)) base l queued refl
task_turns l queued (Enqueues kept) base h = fills_reads l queued kept base h
task_turns l queued Dequeues base h = run_reads (Fills Dequeues) base l queued refl

turns_task : (l : Line) (queued : List ℕ) (task : Task) (base : Base) → Reads (Runs (Fills task) base) l queued → task_right l task
turns_task l queued (Gets key) base h = tt
turns_task l queued (Changes kept) base h = tt
turns_task l queued (Holds key) base h = tt
turns_task l queued (Enqueues kept) base h = number_of l queued kept (Runs (Fills (Enqueues kept)) base) h (λ t n e. h.numbers t n e)
turns_task l queued Dequeues base h = tt

fills_turns : (l : Line) (queued : List ℕ) (task : Task) (desk : Desk) (post : Post) (told : List Event) (outcome : Outcome) → all_mute told ≡ true → task_right l task → Turns l queued (steps.resumed (Fills task) desk post told outcome)
fills_turns l queued task desk post told (Goes base) c h = record { mute = c; reads = task_turns l queued task base h }
fills_turns l queued task desk post told (Ends ending) c h = filled_turns l queued task ending post desk told c h

ends_turns : (l : Line) (queued : List ℕ) (why : Why) (desk : Desk) (post : Post) (told : List Event) (outcome : Outcome) → all_mute told ≡ true → why_ends why ≡ true → Turns l queued (steps.resumed why desk post told outcome)
ends_turns l queued why desk post told (Goes base) c h = record { mute = c; reads = run_reads why base l queued (free_why why (ends_free why h)) }
ends_turns l queued why desk post told (Ends ending) c h = adds_turns l queued told (steps.resumed why desk post told (Ends ending)) c (resume_adds why ending post desk told h)

run_by : (l : Line) (queued : List ℕ) (why : Why) (base : Base) (desk : Desk) (t : Turn) → all_mute t.told ≡ true → why_right l why t.outcome → Reads (Runs why base) l queued → Turns l queued (steps.run_turn why desk t)
run_by l queued (Opens task) base desk t c r h = opens_turns l queued task desk t.post t.told t.outcome c
run_by l queued (FollowsHead head tail) base desk t c r h = follows_turns l queued head tail desk t.post t.told t.outcome c r
run_by l queued (Fills task) base desk t c r h = fills_turns l queued task desk t.post t.told t.outcome c (turns_task l queued task base h)
run_by l queued (ClearsNext next) base desk t c r h = ends_turns l queued (ClearsNext next) desk t.post t.told t.outcome c refl
run_by l queued (Clears task next) base desk t c r h = ends_turns l queued (Clears task next) desk t.post t.told t.outcome c refl
run_by l queued (Finishes task next) base desk t c r h = ends_turns l queued (Finishes task next) desk t.post t.told t.outcome c refl
run_by l queued (GivesUp answer) base desk t c r h = ends_turns l queued (GivesUp answer) desk t.post t.told t.outcome c refl
run_by l queued (Retires answer) base desk t c r h = ends_turns l queued (Retires answer) desk t.post t.told t.outcome c refl
run_by l queued (Tidies later) base desk t c r h = ends_turns l queued (Tidies later) desk t.post t.told t.outcome c refl
run_by l queued Advances base desk t c r h = ends_turns l queued Advances desk t.post t.told t.outcome c refl
run_by l queued (Releases let_go) base desk t c r h = ends_turns l queued (Releases let_go) desk t.post t.told t.outcome c refl

read_mute : (rows : Bool) (guard : Guard) (word : ℕ) → all_mute (scan.reads_guard rows guard word ∷ []) ≡ true
read_mute true guard word = refl
read_mute false guard word = refl

scan_mute : (at : ScanAt) (post : Post) (found : ℕ) → all_mute (scan_told at post found) ≡ true
scan_mute (ReadGuard number) post found = read_mute (publishes_rows (scheme_of post)) (guard_at post.layout.config number) found
scan_mute (GiveBack place slot) post found = refl

pub phase_turns : CallsRead
phase_turns l queued Idle post desk found e r h = record { mute = refl; reads = h }
phase_turns l queued (Runs why base) post desk found e r h = run_by l queued why base desk (machine.after base post found) (base_mute base post found) r h
phase_turns l queued (Scans later at) post desk found e r h = adds_turns l queued (scan_told at post found) (scan.scan_turn later at post desk found) (scan_mute at post found) (scan_adds later at post desk found)
phase_turns l queued (Works work) post desk found e r h = work_turns l queued work post desk found e r h

-- a call begins with nothing read
pub first_reads : CallsBegin
first_reads call post l queued =
    each_first call post (λ (phase : Phase). Reads phase l queued) (λ phase h. bare_reads phase l queued (free_bare phase h)) (λ index key slot c e. bare_reads _ l queued refl)
