-- What a call has come to in its search for a row, by where it stands; and what its own steps make of it.
use Rattle.std.proofs.Common.{ℕ, ◌≡◌, ◌≤◌, ◌+◌, ◌-◌, Bool, true, false, List, [], ◌∷◌, ◌++◌, length, Option, Some, None, refl, sym, ap, ◌∙◌, subst}
use Rattle.std.specs.Prelude.{◌==◌, ◌&&◌, not, nat_lt, if◌then◌else◌}
use Rattle.law_scans.specs.inv.model.words.declared.config.Config.{Config}
use Rattle.law_scans.specs.inv.model.defs.declared.call.Answer.{Answer}
use Rattle.law_scans.specs.inv.model.defs.declared.call.Answer.TheVariants as the_answers
use Rattle.law_scans.specs.inv.model.defs.declared.call.ClockMove.TheVariants as moves
use Rattle.law_scans.specs.inv.model.defs.declared.event.Event.{Event}
use Rattle.law_scans.specs.inv.model.defs.declared.event.Event.TheVariants as events
use Rattle.law_scans.specs.inv.model.defs.declared.event.Root.TheVariants as roots
use Rattle.law_scans.specs.inv.model.defs.declared.fold.Change.{Change}
use Rattle.law_scans.specs.inv.model.defs.declared.fold.Change.TheVariants as changes
use Rattle.law_scans.specs.inv.model.defs.Pairs.{Pair}
use Rattle.law_scans.specs.inv.model.declared.ends.FollowEnd.{FollowEnd}
use Rattle.law_scans.specs.inv.model.declared.ends.FollowEnd.TheVariants as follow_ends
use Rattle.law_scans.specs.inv.model.declared.ends.ProtectEnd.TheVariants as protect_ends
use Rattle.law_scans.specs.inv.model.declared.post.Post.{Post}
use Rattle.law_scans.specs.inv.model.Change as alters
use Rattle.law_scans.specs.inv.model.Desks.{Desk}
use Rattle.law_scans.specs.inv.model.Dequeue as dequeues
use Rattle.law_scans.specs.inv.model.Enqueue as enqueues
use Rattle.law_scans.specs.inv.model.Get as gets
use Rattle.law_scans.specs.inv.model.Guards.{guards}
use Rattle.law_scans.specs.inv.model.Keep as keeps
use Rattle.law_scans.specs.inv.model.Posts.{cleared, publishes_index, stands, withdrawn}
use Rattle.law_scans.specs.inv.model.words.Schemes.{has_one_interval, moves as moves_clock, publishes_rows}
use Rattle.law_scans.specs.inv.model.Steps as steps
use Rattle.law_scans.specs.inv.model.Rounds.{scheme_of, tidy_by, let_index, bucket_of, index_of, taken_of, begin_base, round, round_by, finish_base, clear_base, clear_post, clear_told, given_up, closed, finishing_by, finishing, clearing_by, clearing, clearing_next_by, clearing_next}
use Rattle.law_scans.specs.inv.model.Phases.{Base, Ending, Outcome, Goes, Ends}
use Rattle.law_scans.specs.inv.model.Phases.AllocateAt.{LoadBirth, ClaimSlot, StoreLife}
use Rattle.law_scans.specs.inv.model.Phases.Base.{Allocate}
use Rattle.law_scans.specs.inv.model.Phases.Ending.{Done, Protected, Followed, Allocated, Retired, Clocked}
use Rattle.law_scans.proofs.Leaving.{Parts, parts_on, takes_on}
use Rattle.law_scans.specs.inv.model.Calls.{Task, Gets, Changes, Holds, Enqueues, Dequeues, Next, Again, MakeRoom, Answering, Retiring, AfterScan, Answered, Repeated, Counted, ChangeKept, EnqueueKept, GetAt, FindVersion, FindCount, FindKey, FindValue, ChangeAt, LoadVersion, LoadCount, LoadKey, LoadValue, ExchangeRoot, EnqueueAt, LoadNumber, LoadNext, PassTail, ExchangeNext, ExchangeTail, DequeueAt, SwingTail, ExchangeHead, Work, Getting, Changing, Enqueuing, Dequeuing, ScanAt, ReadGuard, GiveBack, Why, Opens, FollowsHead, Fills, ClearsNext, Clears, Finishes, GivesUp, Retires, Tidies, Advances, Releases, Phase, Idle, Runs, Scans, Works, CallOutcome, GoesOn, Answers, Keeping, KeepAt, Loosens, LoadHeld, StoreHeld, Looks, Misses, HideSpan, MarkLeft, TakeList, MarkTaken, LetGo, Released, Rehold, Dropped, Parting}
use Rattle.law_scans.specs.inv.rows.Hands.{holds_none}
use Rattle.law_scans.specs.laws.HistoryScans.{Search}

-- what a record says of a seat's call: its search for a row, which rows were taken at a position of it, which were taken after the last
-- entry of its scan, and whether all but a row was there for it at a position of it
pub record Now : Type 0 where
  pub search : Search
  pub was : ℕ → Bool
  pub since : ℕ → Bool
  pub fits : Bool

abbrev pub is_full : Answer → Bool
is_full the_answers.Full = true
is_full answer = false

abbrev pub full_in : Option Answer → Bool
full_in None = false
full_in (Some answer) = is_full answer

abbrev pub NotFull : Option Answer → Type 0
NotFull x = (answer : Answer) → x ≡ Some answer → is_full answer ≡ false

-- no row is taken yet
abbrev pub is_free : Task → Bool
is_free (Changes kept) = holds_none kept.taken
is_free (Enqueues kept) = holds_none kept.taken
is_free task = false

-- a row is sought or was taken
abbrev pub is_maker : Task → Bool
is_maker (Changes kept) = true
is_maker (Enqueues kept) = true
is_maker task = false

abbrev pub is_walked : Task → Bool
is_walked (Changes kept) = kept.walked
is_walked (Enqueues kept) = kept.walked
is_walked task = false

-- so many guards were read: all once a walk has failed
abbrev pub reads_in : (all : ℕ) → Task → ℕ
reads_in all (Changes kept) = if kept.walked then all else 0
reads_in all (Enqueues kept) = if kept.walked then all else 0
reads_in all task = 0

pub record TaskFits (c : Config) (task : Task) (z : Now) : Type 0 where
  pub seeks : is_free task ≡ true → z.search.seeks ≡ true
  pub reads : is_maker task ≡ true → z.search.reads ≡ reads_in (guards c) task

-- a walk has failed for the first time, and of the scan that makes room so many guards are read
pub record RoomFits (c : Config) (n : ℕ) (task : Task) (z : Now) : Type 0 where
  pub seeks : z.search.seeks ≡ true
  pub reads : z.search.reads ≡ n
  pub walked : is_walked task ≡ true
  pub was : (s : ℕ) → s ≤ c.slots → z.was s ≡ true

-- a walk has failed for the second time
pub record FullFits (c : Config) (z : Now) : Type 0 where
  pub seeks : z.search.seeks ≡ true
  pub reads : z.search.reads ≡ guards c
  pub since : (s : ℕ) → s ≤ c.slots → z.since s ≡ true
  pub fits : z.fits ≡ true

abbrev pub AnswerFits : Config → Answer → Now → Type 0
AnswerFits c answer z = is_full answer ≡ true → FullFits c z

abbrev pub NextFits : Config → Task → Next → Now → Type 0
NextFits c task Again z = TaskFits c task z
NextFits c task MakeRoom z = RoomFits c 0 task z
NextFits c task (Answering answer) z = AnswerFits c answer z
NextFits c task (Retiring slot answer) z = is_full answer ≡ false

-- of a scan so many guards are read
abbrev pub LaterFits : Config → (n : ℕ) → AfterScan → Now → Type 0
LaterFits c n (Answered answer) z = (z.search.seeks ≡ false) × (is_full answer ≡ false)
LaterFits c n (Repeated task) z = RoomFits c n task z
LaterFits c n Counted z = z.search.seeks ≡ false

abbrev pub reads_at : (all : ℕ) → ScanAt → ℕ
reads_at all (ReadGuard number) = number
reads_at all (GiveBack place slot) = all

-- a walk for a row is on: the call lacks nothing else
pub record WalkFits (c : Config) (task : Task) (z : Now) : Type 0 where
  pub tie : TaskFits c task z
  pub fits : z.fits ≡ true

abbrev pub FillFits : Config → Task → Base → Now → Type 0
FillFits c task (Allocate LoadBirth) z = WalkFits c task z
FillFits c task (Allocate (ClaimSlot birth walk)) z = WalkFits c task z
FillFits c task (Allocate (StoreLife birth slot)) z = z.search.reads ≡ reads_in (guards c) task
FillFits c task base z = TaskFits c task z

abbrev pub WhyFits : Config → Why → Base → Now → Type 0
WhyFits c (Opens task) base z = TaskFits c task z
WhyFits c (FollowsHead head tail) base z = Unit {0}
WhyFits c (Fills task) base z = FillFits c task base z
WhyFits c (ClearsNext next) base z = NextFits c Dequeues next z
WhyFits c (Clears task next) base z = NextFits c task next z
WhyFits c (Finishes task next) base z = NextFits c task next z
WhyFits c (GivesUp answer) base z = AnswerFits c answer z
WhyFits c (Retires answer) base z = is_full answer ≡ false
WhyFits c (Tidies later) base z = LaterFits c 0 later z
WhyFits c Advances base z = Unit {0}
WhyFits c (Releases let_go) base z = Unit {0}

abbrev pub EnqueueFits : Config → EnqueueKept → EnqueueAt → Now → Type 0
EnqueueFits c kept (ExchangeTail slot) z = Unit {0}
EnqueueFits c kept at z = TaskFits c (Enqueues kept) z

abbrev pub WorkFits : Config → Work → Now → Type 0
WorkFits c (Getting key at) z = Unit {0}
WorkFits c (Changing kept at) z = TaskFits c (Changes kept) z
WorkFits c (Enqueuing kept at) z = EnqueueFits c kept at z
WorkFits c (Dequeuing at) z = Unit {0}
WorkFits c (Keeping at) z = Unit {0}

abbrev pub PhaseFits : Config → Phase → Now → Type 0
PhaseFits c Idle z = Unit {0}
PhaseFits c (Runs why base) z = WhyFits c why base z
PhaseFits c (Scans later at) z = LaterFits c (reads_at (guards c) at) later z
PhaseFits c (Works work) z = WorkFits c work z

abbrev pub OutFits : Config → CallOutcome → Now → Type 0
OutFits c (GoesOn phase) z = PhaseFits c phase z
OutFits c (Answers answer) z = AnswerFits c answer z

-- where a step decides that a row is filled, the call lacks nothing else
abbrev pub ChangeSure : ChangeKept → Post → Now → Type 0
ChangeSure kept post z = alters.refused post.layout.config kept ≡ None → z.fits ≡ true

abbrev pub AlterSure : ChangeKept → ChangeAt → Post → (found : ℕ) → Now → Type 0
AlterSure kept (LoadCount slot) post found z = nat_lt 0 found ≡ false → ChangeSure kept post z
AlterSure kept (LoadValue slot count key) post found z = nat_lt (length kept.pairs + 1) count ≡ false → ChangeSure (alters.with_read kept key found) post z
AlterSure kept at post found z = Unit {0}

abbrev pub AppendSure : EnqueueKept → EnqueueAt → Post → (found : ℕ) → Now → Type 0
AppendSure kept LoadNext post found z = (found == 0) ≡ true → (kept.number == post.layout.config.last_version) ≡ false → z.fits ≡ true
AppendSure kept at post found z = Unit {0}

abbrev pub WorkSure : Work → Post → (found : ℕ) → Now → Type 0
WorkSure (Changing kept at) post found z = AlterSure kept at post found z
WorkSure (Enqueuing kept at) post found z = AppendSure kept at post found z
WorkSure work post found z = Unit {0}

abbrev pub TaskSure : Task → Ending → Post → Now → Type 0
TaskSure (Changes kept) (Protected protect_ends.Null) post z = ChangeSure (alters.at_link kept 0) post z
TaskSure task ending post z = Unit {0}

abbrev pub OutcomeSure : Task → Outcome → Post → Now → Type 0
OutcomeSure task (Goes base) post z = Unit {0}
OutcomeSure task (Ends ending) post z = TaskSure task ending post z

pub other_task : (c : Config) (task : Task) (z : Now) → is_free task ≡ false → is_maker task ≡ false → TaskFits c task z
other_task c task z f m = record { seeks = λ h. absurd (cc); reads = λ h. absurd (cc) }

-- the end of a round
pub round_fits : (c : Config) (task : Task) (post : Post) (z : Now) → TaskFits c task z → PhaseFits c (round task post) z
round_fits c task post z f = by (begin_base (scheme_of post) post)
  where
    by : (x : Option Base) → PhaseFits c (round_by task post x) z
    by None = f
    by (Some base) = f

given_up_fits : (c : Config) (answer : Answer) (post : Post) (desk : Desk) (told : List Event) (x : Option ℕ) (z : Now) → AnswerFits c answer z → OutFits c (given_up answer post desk told x).outcome z
given_up_fits c answer post desk told None z s = s
given_up_fits c answer post desk told (Some slot) z s = s

-- the clock is moved before the scan, or the scan comes at once
pub tidy_fits : (c : Config) (later : AfterScan) (moving : Bool) (post : Post) (z : Now) → LaterFits c 0 later z → PhaseFits c (tidy_by moving later post) z
tidy_fits c later true post z f = f
tidy_fits c later false post z f = f

pub closed_fits : (c : Config) (task : Task) (next : Next) (post : Post) (desk : Desk) (told : List Event) (z : Now) → NextFits c task next z → OutFits c (closed task next post desk told).outcome z
closed_fits c task Again post desk told z f = round_fits c task post z f
closed_fits c task MakeRoom post desk told z f = tidy_fits c (Repeated task) (moves_clock (scheme_of post)) post z f
closed_fits c task (Answering answer) post desk told z f = given_up_fits c answer post desk told (taken_of task) z f
closed_fits c task (Retiring slot answer) post desk told z f = f

finishing_by_fits : (c : Config) (task : Task) (next : Next) (post : Post) (desk : Desk) (told : List Event) (x : Option Base) (z : Now) → NextFits c task next z → OutFits c (finishing_by task next post desk told x).outcome z
finishing_by_fits c task next post desk told None z f = closed_fits c task next post desk told z f
finishing_by_fits c task next post desk told (Some base) z f = f

finishing_fits : (c : Config) (task : Task) (next : Next) (post : Post) (desk : Desk) (told : List Event) (z : Now) → NextFits c task next z → OutFits c (finishing task next post desk told).outcome z
finishing_fits c task Again post desk told z f = closed_fits c task Again post desk told z f
finishing_fits c task MakeRoom post desk told z f = finishing_by_fits c task MakeRoom post desk told (finish_base (scheme_of post) post) z f
finishing_fits c task (Answering answer) post desk told z f = finishing_by_fits c task (Answering answer) post desk told (finish_base (scheme_of post) post) z f
finishing_fits c task (Retiring slot answer) post desk told z f = finishing_by_fits c task (Retiring slot answer) post desk told (finish_base (scheme_of post) post) z f

clearing_by_fits : (c : Config) (task : Task) (next : Next) (post : Post) (desk : Desk) (told : List Event) (x : Option Base) (z : Now) → NextFits c task next z → OutFits c (clearing_by task next post desk told x).outcome z
clearing_by_fits c task next post desk told None z f =
    finishing_fits c task next (clear_post (scheme_of post) post (index_of task)) desk (told ++ clear_told (scheme_of post) post (index_of task)) z f
clearing_by_fits c task next post desk told (Some base) z f = f

pub clearing_fits : (c : Config) (task : Task) (next : Next) (post : Post) (desk : Desk) (told : List Event) (z : Now) → NextFits c task next z → OutFits c (clearing task next post desk told).outcome z
clearing_fits c task next post desk told z f = clearing_by_fits c task next post desk told (clear_base (scheme_of post) (index_of task)) z f

next_by_fits : (c : Config) (next : Next) (post : Post) (desk : Desk) (told : List Event) (x : Option Base) (z : Now) → NextFits c Dequeues next z → OutFits c (clearing_next_by next post desk told x).outcome z
next_by_fits c next post desk told None z f =
    clearing_fits c Dequeues next (clear_post (scheme_of post) post 1) desk (told ++ clear_told (scheme_of post) post 1) z f
next_by_fits c next post desk told (Some base) z f = f

clearing_next_fits : (c : Config) (next : Next) (post : Post) (desk : Desk) (told : List Event) (z : Now) → NextFits c Dequeues next z → OutFits c (clearing_next next post desk told).outcome z
clearing_next_fits c next post desk told z f = next_by_fits c next post desk told (clear_base (scheme_of post) 1) z f

-- a get
got_fits : (c : Config) (key version : ℕ) (value : Option ℕ) (post : Post) (desk : Desk) (told : List Event) (z : Now) → OutFits c (gets.got key version value post desk told).outcome z
got_fits c key version value post desk told z =
    clearing_fits c (Gets key) (Answering (the_answers.Got version value)) post desk (told ++ events.Got (bucket_of post key) version key value ∷ []) z (λ h. absurd (cc))

finding_fits : (c : Config) (key slot version count : ℕ) (post : Post) (desk : Desk) (on : Bool) (pair : ℕ) (z : Now) → OutFits c (gets.finding key slot version count post desk on pair).outcome z
finding_fits c key slot version count post desk true pair z = tt
finding_fits c key slot version count post desk false pair z = got_fits c key version None post desk [] z

found_key_fits : (c : Config) (key slot version count pair : ℕ) (post : Post) (desk : Desk) (own : Bool) (z : Now) → OutFits c (gets.found_key key slot version count pair post desk own).outcome z
found_key_fits c key slot version count pair post desk true z = tt
found_key_fits c key slot version count pair post desk false z = finding_fits c key slot version count post desk (nat_lt (pair + 1) count) (pair + 1) z

get_fits : (c : Config) (key : ℕ) (at : GetAt) (post : Post) (desk : Desk) (found : ℕ) (z : Now) → OutFits c (gets.get_turn key at post desk found).outcome z
get_fits c key (FindVersion slot) post desk found z = tt
get_fits c key (FindCount slot version) post desk found z = finding_fits c key slot version found post desk (nat_lt 0 found) 0 z
get_fits c key (FindKey slot version count pair) post desk found z = found_key_fits c key slot version count pair post desk (found == key) z
get_fits c key (FindValue slot version pair) post desk found z = got_fits c key version (Some found) post desk [] z

-- a change
again_change : (c : Config) (kept later : ChangeKept) (z : Now) → later.taken ≡ kept.taken → later.walked ≡ kept.walked → TaskFits c (Changes kept) z → TaskFits c (Changes later) z
again_change c kept later z t w f = record {
  seeks = λ h. f.seeks (ap holds_none (sym t) ∙ h);
  reads = λ h. f.reads refl ∙ ap (λ (x : Bool). if x then guards c else 0) (sym w);
}

again_item : (c : Config) (kept later : EnqueueKept) (z : Now) → later.taken ≡ kept.taken → later.walked ≡ kept.walked → TaskFits c (Enqueues kept) z → TaskFits c (Enqueues later) z
again_item c kept later z t w f = record {
  seeks = λ h. f.seeks (ap holds_none (sym t) ∙ h);
  reads = λ h. f.reads refl ∙ ap (λ (x : Bool). if x then guards c else 0) (sym w);
}

change_fills : (c : Config) (kept : ChangeKept) (x : Option ℕ) (z : Now) → TaskFits c (Changes kept) z → z.fits ≡ true → FillFits c (Changes kept) (alters.filling_by kept x) z
change_fills c kept None z f d = record { tie = f; fits = d }
change_fills c kept (Some slot) z f d = f

if_not_full : (x : Bool) (a b : Option Answer) → NotFull a → NotFull b → NotFull (if x then a else b)
if_not_full true a b h k = h
if_not_full false a b h k = k

some_not_full : (answer : Answer) → is_full answer ≡ false → NotFull (Some answer)
some_not_full answer h other e = subst (λ (x : Option Answer). full_in x ≡ false) e h

none_not_full : NotFull None
none_not_full answer e = absurd (cc)

refusal_not_full : (config : Config) (version : ℕ) (pairs : List Pair) (change : Change) → NotFull (alters.refusal config version pairs change)
refusal_not_full config version pairs (changes.Put key value) =
    if_not_full (version == config.last_version) (Some (the_answers.Spent version)) (if not (alters.has_key pairs key) && length pairs == config.pairs then Some (the_answers.BucketFull version) else None) (some_not_full (the_answers.Spent version) refl)
    (if_not_full (not (alters.has_key pairs key) && length pairs == config.pairs) (Some (the_answers.BucketFull version)) None (some_not_full (the_answers.BucketFull version) refl) none_not_full)
refusal_not_full config version pairs (changes.Removed key) =
    if_not_full (not (alters.has_key pairs key)) (Some (the_answers.Absent version)) (if version == config.last_version then Some (the_answers.Spent version) else None) (some_not_full (the_answers.Absent version) refl)
    (if_not_full (version == config.last_version) (Some (the_answers.Spent version)) None (some_not_full (the_answers.Spent version) refl) none_not_full)

deciding_by_fits : (c : Config) (kept : ChangeKept) (post : Post) (desk : Desk) (told : List Event) (x : Option Answer) (z : Now) → NotFull x → (x ≡ None → z.fits ≡ true) → TaskFits c (Changes kept) z → OutFits c (alters.deciding_by kept post desk told x).outcome z
deciding_by_fits c kept post desk told (Some answer) z q d f = clearing_fits c (Changes kept) (Answering answer) post desk told z (λ h. let n : is_full answer ≡ false = q answer refl in absurd (cc))
deciding_by_fits c kept post desk told None z q d f = change_fills c (alters.with_change kept) kept.taken z (again_change c kept (alters.with_change kept) z refl refl f) (d refl)

refused_not_full : (config : Config) (wanted : Option ℕ) (version : ℕ) (pairs : List Pair) (change : Change) → NotFull (alters.stale_or wanted version (alters.refusal config version pairs change))
refused_not_full config None version pairs change = refusal_not_full config version pairs change
refused_not_full config (Some wanted) version pairs change = by (version == wanted)
  where
    by : (same : Bool) → NotFull (if same then alters.refusal config version pairs change else Some (the_answers.Stale version))
    by true = refusal_not_full config version pairs change
    by false = λ answer e. subst (λ (x : Option Answer). full_in x ≡ false) e refl

deciding_fits : (c : Config) (kept : ChangeKept) (post : Post) (desk : Desk) (told : List Event) (z : Now) → ChangeSure kept post z → TaskFits c (Changes kept) z → OutFits c (alters.deciding kept post desk told).outcome z
deciding_fits c kept post desk told z d f = deciding_by_fits c kept post desk told (alters.refused post.layout.config kept) z (refused_not_full post.layout.config kept.wanted kept.version kept.pairs kept.change) d f

reading_fits : (c : Config) (kept : ChangeKept) (slot count : ℕ) (post : Post) (desk : Desk) (on : Bool) (z : Now) → (on ≡ false → ChangeSure kept post z) → TaskFits c (Changes kept) z → OutFits c (alters.reading kept slot count post desk on).outcome z
reading_fits c kept slot count post desk true z d f = f
reading_fits c kept slot count post desk false z d f = deciding_fits c kept post desk [] z (d refl) f

done_fits : (c : Config) (task : Task) (version link : ℕ) (none : Bool) (z : Now) → NextFits c task (if none then Answering (the_answers.Done version moves.Still) else Retiring (link - 1) (the_answers.Done version moves.Still)) z
done_fits c task version link true z = λ h. absurd (cc)
done_fits c task version link false z = refl

exchanged_fits : (c : Config) (kept : ChangeKept) (slot : ℕ) (post : Post) (desk : Desk) (same : Bool) (z : Now) → TaskFits c (Changes kept) z → OutFits c (alters.exchanged kept slot post desk same).outcome z
exchanged_fits c kept slot post desk true z f =
    clearing_fits c (Changes (record kept { taken = None })) (alters.answer_done (kept.version + 1) kept.link) post desk (alters.told_linked kept slot post) z
    (done_fits c (Changes (record kept { taken = None })) (kept.version + 1) kept.link (kept.link == 0) z)
exchanged_fits c kept slot post desk false z f = clearing_fits c (Changes kept) Again post desk [] z f

change_fits : (c : Config) (kept : ChangeKept) (at : ChangeAt) (post : Post) (desk : Desk) (found : ℕ) (z : Now) → AlterSure kept at post found z → TaskFits c (Changes kept) z → OutFits c (alters.change_turn kept at post desk found).outcome z
change_fits c kept (LoadVersion slot) post desk found z d f = again_change c kept (record kept { version = found }) z refl refl f
change_fits c kept (LoadCount slot) post desk found z d f = reading_fits c kept slot found post desk (nat_lt 0 found) z d f
change_fits c kept (LoadKey slot count) post desk found z d f = f
change_fits c kept (LoadValue slot count key) post desk found z d f =
    reading_fits c (alters.with_read kept key found) slot count post desk (nat_lt (length kept.pairs + 1) count) z d (again_change c kept (alters.with_read kept key found) z refl refl f)
change_fits c kept (ExchangeRoot slot) post desk found z d f = exchanged_fits c kept slot post desk (found == kept.link) z f

-- an enqueue
item_fills : (c : Config) (kept : EnqueueKept) (x : Option ℕ) (z : Now) → TaskFits c (Enqueues kept) z → z.fits ≡ true → FillFits c (Enqueues kept) (enqueues.filling_by kept x) z
item_fills c kept None z f d = record { tie = f; fits = d }
item_fills c kept (Some slot) z f d = f

appending_fits : (c : Config) (kept : EnqueueKept) (post : Post) (desk : Desk) (spent : Bool) (z : Now) → (spent ≡ false → z.fits ≡ true) → TaskFits c (Enqueues kept) z → OutFits c (enqueues.appending kept post desk spent).outcome z
appending_fits c kept post desk true z d f = clearing_fits c (Enqueues kept) (Answering (the_answers.Spent kept.number)) post desk [] z (λ h. absurd (cc))
appending_fits c kept post desk false z d f = item_fills c kept kept.taken z f (d refl)

at_next_fits : (c : Config) (kept : EnqueueKept) (next : ℕ) (post : Post) (desk : Desk) (none : Bool) (z : Now) → (none ≡ true → (kept.number == post.layout.config.last_version) ≡ false → z.fits ≡ true) → TaskFits c (Enqueues kept) z → OutFits c (enqueues.at_next kept next post desk none).outcome z
at_next_fits c kept next post desk true z d f = appending_fits c kept post desk (kept.number == post.layout.config.last_version) z (d refl) f
at_next_fits c kept next post desk false z d f = f

appended_fits : (c : Config) (kept : EnqueueKept) (slot : ℕ) (post : Post) (desk : Desk) (same : Bool) (z : Now) → TaskFits c (Enqueues kept) z → OutFits c (enqueues.appended kept slot post desk same).outcome z
appended_fits c kept slot post desk true z f = tt
appended_fits c kept slot post desk false z f = clearing_fits c (Enqueues kept) Again post desk [] z f

enqueue_fits : (c : Config) (kept : EnqueueKept) (at : EnqueueAt) (post : Post) (desk : Desk) (found : ℕ) (z : Now) → AppendSure kept at post found z → EnqueueFits c kept at z → OutFits c (enqueues.enqueue_turn kept at post desk found).outcome z
enqueue_fits c kept LoadNumber post desk found z d f = again_item c kept (record kept { number = found }) z refl refl f
enqueue_fits c kept LoadNext post desk found z d f = at_next_fits c kept found post desk (found == 0) z d f
enqueue_fits c kept (PassTail next) post desk found z d f = clearing_fits c (Enqueues kept) Again post desk (enqueues.told_link roots.Tail (next - 1) (found == kept.tail + 1)) z f
enqueue_fits c kept (ExchangeNext slot) post desk found z d f = appended_fits c kept slot post desk (found == 0) z f
enqueue_fits c kept (ExchangeTail slot) post desk found z d f =
    clearing_fits c (Enqueues kept) (Answering (the_answers.Queued (kept.number + 1))) post desk (enqueues.told_link roots.Tail slot (found == kept.tail + 1)) z (λ h. absurd (cc))

-- a dequeue
followed_row_fits : (c : Config) (head next : ℕ) (post : Post) (desk : Desk) (told : List Event) (lags : Bool) (z : Now) → OutFits c (dequeues.followed_row head next post desk told lags).outcome z
followed_row_fits c head next post desk told true z = tt
followed_row_fits c head next post desk told false z = tt

followed_fits : (c : Config) (head tail : ℕ) (ending : FollowEnd) (post : Post) (desk : Desk) (told : List Event) (z : Now) → OutFits c (dequeues.followed head tail ending post desk told).outcome z
followed_fits c head tail (follow_ends.Followed slot) post desk told z = followed_row_fits c head slot post desk told (tail == head + 1) z
followed_fits c head tail follow_ends.NoNext post desk told z = clearing_next_fits c (Answering the_answers.Empty) post desk told z (λ h. absurd (cc))
followed_fits c head tail (follow_ends.RootMoved seen) post desk told z = clearing_next_fits c Again post desk told z (other_task c Dequeues z refl refl)

taken_fits : (c : Config) (head next number value : ℕ) (post : Post) (desk : Desk) (same : Bool) (z : Now) → OutFits c (dequeues.taken head next number value post desk same).outcome z
taken_fits c head next number value post desk true z =
    clearing_next_fits c (Retiring head (the_answers.Taken number value moves.Still)) post desk (events.Link roots.Head next ∷ events.Cut head ∷ events.Taken number value ∷ []) z refl
taken_fits c head next number value post desk false z = clearing_next_fits c Again post desk [] z (other_task c Dequeues z refl refl)

dequeue_fits : (c : Config) (at : DequeueAt) (post : Post) (desk : Desk) (found : ℕ) (z : Now) → OutFits c (dequeues.dequeue_turn at post desk found).outcome z
dequeue_fits c (SwingTail head next) post desk found z = clearing_next_fits c Again post desk (enqueues.told_link roots.Tail next (found == head + 1)) z (other_task c Dequeues z refl refl)
dequeue_fits c (ExchangeHead head next number value) post desk found z = taken_fits c head next number value post desk (found == head + 1) z
dequeue_fits c at post desk found z = tt

-- a seat that leaves
pub parts_fit : (c : Config) (z : Now) → Parts (λ (phase : Phase). PhaseFits c phase z)
parts_fit c z = record { clears = λ rows index. tt; hides = tt; marks = tt }

-- what is kept
released_fits : (c : Config) (let_go : LetGo) (post : Post) (desk : Desk) (told : List Event) (z : Now) → OutFits c (keeps.released let_go post desk told).outcome z
released_fits c Released post desk told z = λ h. absurd (cc)
released_fits c (Rehold key) post desk told z = round_fits c (Holds key) post z (other_task c (Holds key) z refl refl)
released_fits c (Dropped index) post desk told z = λ h. absurd (cc)
released_fits c (Parting index) post desk told z = parts_on (λ (phase : Phase). PhaseFits c phase z) (parts_fit c z) (index + 1) post

copied_fits : (c : Config) (from index : ℕ) (post : Post) (desk : Desk) (reserved : List Event) (x : Option ℕ) (z : Now) → OutFits c (keeps.copied from index post desk reserved x).outcome z
copied_fits c from index post desk reserved None z = λ h. absurd (cc)
copied_fits c from index post desk reserved (Some slot) z = λ h. absurd (cc)

load_held_fits : (c : Config) (from index : ℕ) (post : Post) (desk : Desk) (found : ℕ) (one : Bool) (z : Now) → OutFits c (keeps.load_held from index post desk found one).outcome z
load_held_fits c from index post desk found true z = copied_fits c from index post desk [] (stands post from) z
load_held_fits c from index post desk found false z = tt

looking_fits : (c : Config) (index key slot version count : ℕ) (post : Post) (desk : Desk) (more : Bool) (pair : ℕ) (z : Now) → OutFits c (keeps.looking index key slot version count post desk more pair).outcome z
looking_fits c index key slot version count post desk true pair z = tt
looking_fits c index key slot version count post desk false pair z = λ h. absurd (cc)

looked_key_fits : (c : Config) (index key slot version count pair : ℕ) (post : Post) (desk : Desk) (own : Bool) (z : Now) → OutFits c (keeps.looked_key index key slot version count pair post desk own).outcome z
looked_key_fits c index key slot version count pair post desk true z = tt
looked_key_fits c index key slot version count pair post desk false z = looking_fits c index key slot version count post desk (nat_lt (pair + 1) count) (pair + 1) z

look_fits : (c : Config) (index key : ℕ) (at : GetAt) (post : Post) (desk : Desk) (found : ℕ) (z : Now) → OutFits c (keeps.look_turn index key at post desk found).outcome z
look_fits c index key (FindVersion slot) post desk found z = tt
look_fits c index key (FindCount slot version) post desk found z = looking_fits c index key slot version found post desk (nat_lt 0 found) 0 z
look_fits c index key (FindKey slot version count pair) post desk found z = looked_key_fits c index key slot version count pair post desk (found == key) z
look_fits c index key (FindValue slot version pair) post desk found z = λ h. absurd (cc)

keep_fits : (c : Config) (at : KeepAt) (post : Post) (desk : Desk) (found : ℕ) (z : Now) → OutFits c (keeps.keep_turn at post desk found).outcome z
keep_fits c (Loosens let_go) post desk found z = released_fits c let_go (withdrawn post (let_index let_go)) desk (cleared (let_index let_go) (stands post (let_index let_go))) z
keep_fits c (LoadHeld from index) post desk found z = load_held_fits c from index post desk found (has_one_interval (scheme_of post)) z
keep_fits c (StoreHeld from index era) post desk found z = copied_fits c from index post desk (publishes_index (publishes_rows (scheme_of post)) post index era) (stands post from) z
keep_fits c (Looks index key at) post desk found z = look_fits c index key at post desk found z
keep_fits c (Misses index) post desk found z = λ h. absurd (cc)
keep_fits c HideSpan post desk found z = tt
keep_fits c MarkLeft post desk found z = λ h. absurd (cc)
keep_fits c (TakeList place) post desk found z = takes_on (λ (outcome : CallOutcome). OutFits c outcome z) place (record { marks = λ count. tt; none = λ h. absurd (cc); late = λ h. absurd (cc) }) post desk (found == 1) found
keep_fits c (MarkTaken place count) post desk found z = λ h. absurd (cc)

pub work_fits : (c : Config) (work : Work) (post : Post) (desk : Desk) (found : ℕ) (z : Now) → WorkSure work post found z → WorkFits c work z → OutFits c (steps.work_turn work post desk found).outcome z
work_fits c (Getting key at) post desk found z d f = get_fits c key at post desk found z
work_fits c (Changing kept at) post desk found z d f = change_fits c kept at post desk found z d f
work_fits c (Enqueuing kept at) post desk found z d f = enqueue_fits c kept at post desk found z d f
work_fits c (Dequeuing at) post desk found z d f = dequeue_fits c at post desk found z
work_fits c (Keeping at) post desk found z d f = keep_fits c at post desk found z

-- what comes after a machine
opened_row_fits : (c : Config) (task : Task) (slot : ℕ) (post : Post) (desk : Desk) (told : List Event) (z : Now) → TaskFits c task z → OutFits c (steps.opened_row task slot post desk told).outcome z
opened_row_fits c (Gets key) slot post desk told z f = tt
opened_row_fits c (Changes kept) slot post desk told z f = again_change c kept (alters.at_link kept (slot + 1)) z refl refl f
opened_row_fits c (Holds key) slot post desk told z f = λ h. absurd (cc)
opened_row_fits c (Enqueues kept) slot post desk told z f = again_item c kept (record kept { tail = slot }) z refl refl f
opened_row_fits c Dequeues slot post desk told z f = tt

opened_null_fits : (c : Config) (task : Task) (post : Post) (desk : Desk) (told : List Event) (z : Now) → TaskSure task (Protected protect_ends.Null) post z → TaskFits c task z → OutFits c (steps.opened_null task post desk told).outcome z
opened_null_fits c (Gets key) post desk told z d f = got_fits c key 0 None post desk told z
opened_null_fits c (Changes kept) post desk told z d f = deciding_fits c (alters.at_link kept 0) post desk told z d (again_change c kept (alters.at_link kept 0) z refl refl f)
opened_null_fits c (Holds key) post desk told z d f = clearing_fits c (Holds key) (Answering the_answers.Nothing) post desk told z (λ h. absurd (cc))
opened_null_fits c (Enqueues kept) post desk told z d f = clearing_fits c (Enqueues kept) Again post desk told z f
opened_null_fits c Dequeues post desk told z d f = clearing_fits c Dequeues Again post desk told z f

opened_fits : (c : Config) (task : Task) (ending : Ending) (post : Post) (desk : Desk) (told : List Event) (z : Now) → TaskSure task ending post z → TaskFits c task z → OutFits c (steps.opened task ending post desk told).outcome z
opened_fits c task (Protected (protect_ends.Held slot era)) post desk told z d f = opened_row_fits c task slot post desk told z f
opened_fits c task (Protected protect_ends.Null) post desk told z d f = opened_null_fits c task post desk told z d f
opened_fits c task Done post desk told z d f = f
opened_fits c task (Followed end) post desk told z d f = f
opened_fits c task (Allocated end) post desk told z d f = f
opened_fits c task (Retired life) post desk told z d f = f
opened_fits c task (Clocked clock) post desk told z d f = f

followed_by_fits : (c : Config) (head tail : ℕ) (ending : Ending) (post : Post) (desk : Desk) (told : List Event) (z : Now) → OutFits c (steps.followed_by head tail ending post desk told).outcome z
followed_by_fits c head tail (Followed ending) post desk told z = followed_fits c head tail ending post desk told z
followed_by_fits c head tail Done post desk told z = closed_fits c Dequeues Again post desk told z (other_task c Dequeues z refl refl)
followed_by_fits c head tail (Protected end) post desk told z = closed_fits c Dequeues Again post desk told z (other_task c Dequeues z refl refl)
followed_by_fits c head tail (Allocated end) post desk told z = closed_fits c Dequeues Again post desk told z (other_task c Dequeues z refl refl)
followed_by_fits c head tail (Retired life) post desk told z = closed_fits c Dequeues Again post desk told z (other_task c Dequeues z refl refl)
followed_by_fits c head tail (Clocked clock) post desk told z = closed_fits c Dequeues Again post desk told z (other_task c Dequeues z refl refl)

-- whatever the machine makes
pub resumed_opens : (c : Config) (task : Task) (desk : Desk) (post : Post) (told : List Event) (outcome : Outcome) (z : Now) → OutcomeSure task outcome post z → TaskFits c task z → OutFits c (steps.resumed (Opens task) desk post told outcome).outcome z
resumed_opens c task desk post told (Goes base) z d f = f
resumed_opens c task desk post told (Ends ending) z d f = opened_fits c task ending post desk told z d f

pub resumed_follows : (c : Config) (head tail : ℕ) (desk : Desk) (post : Post) (told : List Event) (outcome : Outcome) (z : Now) → OutFits c (steps.resumed (FollowsHead head tail) desk post told outcome).outcome z
resumed_follows c head tail desk post told (Goes base) z = tt
resumed_follows c head tail desk post told (Ends ending) z = followed_by_fits c head tail ending post desk told z

pub resumed_next : (c : Config) (next : Next) (desk : Desk) (post : Post) (told : List Event) (outcome : Outcome) (z : Now) → NextFits c Dequeues next z → OutFits c (steps.resumed (ClearsNext next) desk post told outcome).outcome z
resumed_next c next desk post told (Goes base) z f = f
resumed_next c next desk post told (Ends ending) z f = clearing_fits c Dequeues next post desk told z f

pub resumed_clears : (c : Config) (task : Task) (next : Next) (desk : Desk) (post : Post) (told : List Event) (outcome : Outcome) (z : Now) → NextFits c task next z → OutFits c (steps.resumed (Clears task next) desk post told outcome).outcome z
resumed_clears c task next desk post told (Goes base) z f = f
resumed_clears c task next desk post told (Ends ending) z f = finishing_fits c task next post desk told z f

pub resumed_finishes : (c : Config) (task : Task) (next : Next) (desk : Desk) (post : Post) (told : List Event) (outcome : Outcome) (z : Now) → NextFits c task next z → OutFits c (steps.resumed (Finishes task next) desk post told outcome).outcome z
resumed_finishes c task next desk post told (Goes base) z f = f
resumed_finishes c task next desk post told (Ends ending) z f = closed_fits c task next post desk told z f

pub resumed_gives : (c : Config) (answer : Answer) (desk : Desk) (post : Post) (told : List Event) (outcome : Outcome) (z : Now) → AnswerFits c answer z → OutFits c (steps.resumed (GivesUp answer) desk post told outcome).outcome z
resumed_gives c answer desk post told (Goes base) z f = f
resumed_gives c answer desk post told (Ends ending) z f = f

pub resumed_releases : (c : Config) (let_go : LetGo) (desk : Desk) (post : Post) (told : List Event) (outcome : Outcome) (z : Now) → OutFits c (steps.resumed (Releases let_go) desk post told outcome).outcome z
resumed_releases c let_go desk post told (Goes base) z = tt
resumed_releases c let_go desk post told (Ends ending) z = released_fits c let_go post desk told z
