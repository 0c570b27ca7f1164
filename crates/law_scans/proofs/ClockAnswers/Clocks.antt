-- What a call has come to of the clock, by where it stands, and what each step leaves of it.
use Rattle.std.proofs.Common.{ℕ, ◌≡◌, ◌+◌, ◌-◌, ◌%◌, Bool, true, false, List, [], ◌∷◌, ◌++◌, length, Option, Some, None, refl, sym, ap, ◌∙◌, subst}
use Rattle.std.specs.Prelude.{◌==◌, ◌&&◌, not, nat_lt, if◌then◌else◌, is_none}
use Rattle.law_reuse.specs.laws.words.Packed.{reservation_word, read_reservation}
use Rattle.law_reuse.specs.laws.defs.declared.call.Answer.{Answer}
use Rattle.law_reuse.specs.laws.defs.declared.call.Answer.TheVariants as the_answers
use Rattle.law_reuse.specs.laws.defs.declared.call.Call.{Call}
use Rattle.law_reuse.specs.laws.defs.declared.call.Call.TheVariants as names
use Rattle.law_reuse.specs.laws.defs.declared.call.ClockMove.{ClockMove}
use Rattle.law_reuse.specs.laws.defs.declared.call.ClockMove.TheVariants as moves
use Rattle.law_reuse.specs.laws.defs.declared.event.Event.{Event}
use Rattle.law_reuse.specs.laws.defs.declared.event.Event.TheVariants as events
use Rattle.law_reuse.specs.laws.defs.declared.event.Root.{Root}
use Rattle.law_reuse.specs.laws.defs.declared.event.Root.TheVariants as roots
use Rattle.law_reuse.specs.inv.model.declared.ends.AllocateEnd.{AllocateEnd}
use Rattle.law_reuse.specs.inv.model.declared.ends.AllocateEnd.TheVariants as allocate_ends
use Rattle.law_reuse.specs.inv.model.declared.ends.FollowEnd.{FollowEnd}
use Rattle.law_reuse.specs.inv.model.declared.ends.FollowEnd.TheVariants as follow_ends
use Rattle.law_reuse.specs.inv.model.declared.ends.ProtectEnd.TheVariants as protect_ends
use Rattle.law_reuse.specs.inv.model.declared.post.Post.{Post}
use Rattle.law_reuse.specs.inv.model.Allocate as allocates
use Rattle.law_reuse.specs.inv.model.Change as alters
use Rattle.law_reuse.specs.inv.model.Desks.{Desk, with_life}
use Rattle.law_reuse.specs.inv.model.Dequeue as dequeues
use Rattle.law_reuse.specs.inv.model.Enqueue as enqueues
use Rattle.law_reuse.specs.inv.model.Get as gets
use Rattle.law_reuse.specs.inv.model.Keep as keeps
use Rattle.law_reuse.specs.inv.model.Guards.{guards, guard_at, published}
use Rattle.law_reuse.specs.inv.model.Machine as machine
use Rattle.law_reuse.specs.inv.model.Memory.{bump}
use Rattle.law_reuse.specs.inv.model.Posts.{stands, withdrawn, cleared, publishes_index}
use Rattle.law_reuse.specs.inv.model.Scan as scan
use Rattle.law_reuse.specs.inv.model.Steps as steps
use Rattle.law_reuse.specs.inv.model.Rounds.{with_clock, tidy_by, scheme_of, bucket_of, index_of, taken_of, begin_base, round, round_by, finish_base, clear_base, clear_post, clear_told, given_up, closed, finishing_by, finishing, clearing_by, clearing, clearing_next_by, clearing_next, let_index, letting, letting_by, release_base}
use Rattle.law_reuse.specs.inv.model.Phases.{MoveAt, Base, Ending, Outcome, Goes, Ends}
use Rattle.law_reuse.specs.inv.model.Phases.AllocateAt.{ClaimSlot}
use Rattle.law_reuse.specs.inv.model.Phases.RetireAt.{LoadLife, LoadRetire, StoreRetired}
use Rattle.law_reuse.specs.inv.model.Phases.MoveAt.{LoadEra, CheckEra, AnswerAsked, LoadReserved, HandOver, HideLate, ExchangeClock}
use Rattle.law_reuse.specs.inv.model.Phases.Base.{Allocate, Retire, Move}
use Rattle.law_reuse.specs.inv.model.Phases.Ending.{Done, Protected, Followed, Allocated, Retired, Clocked}
use Rattle.law_reuse.specs.inv.model.Calls.{Task, Gets, Changes, Holds, Enqueues, Dequeues, Next, Again, MakeRoom, Answering, Retiring, AfterScan, Answered, Repeated, Counted, ChangeKept, EnqueueKept, GetAt, FindVersion, FindCount, FindKey, FindValue, ChangeAt, LoadVersion, LoadCount, LoadKey, LoadValue, ExchangeRoot, EnqueueAt, LoadNumber, LoadNext, PassTail, ExchangeNext, ExchangeTail, DequeueAt, SwingTail, ExchangeHead, Work, Getting, Changing, Enqueuing, Dequeuing, ScanAt, ReadGuard, GiveBack, Why, Opens, FollowsHead, Fills, ClearsNext, Clears, Finishes, GivesUp, Retires, Tidies, Advances, Releases, Phase, Idle, Runs, Scans, Works, CallTurn, CallOutcome, GoesOn, Answers, LetGo, Released, Rehold, Dropped, Parting, KeepAt, Loosens, LoadHeld, StoreHeld, Looks, Misses, HideSpan, MarkLeft, TakeList, MarkTaken, Keeping}
use Rattle.law_reuse.specs.inv.shapes.Seats.{Kind, ToRetire, ToMove, kind_of, suits, retires, moves as moves_kind}
use Rattle.law_reuse.proofs.laws.Along.{along}
use Rattle.law_reuse.proofs.history.Passes.{scan_told}
use Rattle.law_reuse.specs.laws.words.declared.config.Config.{Config}
use Rattle.law_reuse.specs.laws.defs.Pairs.{Pair}
use Rattle.law_reuse.specs.laws.defs.declared.fold.Change.{Change}
use Rattle.law_reuse.specs.laws.defs.declared.fold.Change.TheVariants as changes
use Rattle.law_reuse.specs.inv.model.SlowPath.{asking}
use Rattle.law_reuse.proofs.laws.records.defs.Facts.{same_number, both}
use Rattle.law_reuse.specs.laws.AnswerLaw.{is_advance}
use Rattle.law_reuse.specs.laws.HistoryAnswers.{ClockTally, answer_fits, change_fits as fits_change, outcome_fits}
use Rattle.law_scans.specs.Outcomes.{clock_by}
use Rattle.law_scans.proofs.Leaving.{Parts, parts_all, parts_on, takes_on}
use Rattle.law_scans.proofs.DueScans.Lands.{PhaseRight, due_same}
use Rattle.law_scans.proofs.DueScans.Still.{claim_front, tick_front, move_front, base_front, front, counts}
use Rattle.law_reuse.specs.laws.words.Schemes.{has_one_interval, publishes_rows, moves as moves_clock}
use Rattle.law_reuse.specs.laws.defs.declared.event.Guard.{Guard}
use Rattle.law_reuse.proofs.ReadGuards.{reads_are}

abbrev pub fits_answer : Config → ClockTally → Answer → Bool
fits_answer config c answer = answer_fits (moves_clock config.scheme) config.last_era c answer

-- an answer that says of the clock at most that it is still
abbrev pub is_plain : Answer → Bool
is_plain (the_answers.Done version moves.Still) = true
is_plain (the_answers.Done version clock) = false
is_plain (the_answers.Taken number value moves.Still) = true
is_plain (the_answers.Taken number value clock) = false
is_plain (the_answers.Clock clock) = false
is_plain answer = true

abbrev all_plain : Option Answer → Bool
all_plain None = true
all_plain (Some answer) = is_plain answer

abbrev pub NextFits : Config → Task → Next → ClockTally → Type 0
NextFits config task Again c = c.due ≡ false
NextFits config task MakeRoom c = c.due ≡ false
NextFits config task (Answering answer) c = (c.due ≡ false) × (is_plain answer ≡ true)
NextFits config task (Retiring slot answer) c = (c.due ≡ false) × (is_plain answer ≡ true)

-- a move that is due and has not come
pub record MoveDue (c : ClockTally) : Type 0 where
  pub due : c.due ≡ true
  pub none : c.moved ≡ None

abbrev pub LaterFits : Config → AfterScan → ClockTally → Type 0
LaterFits config (Answered answer) c = MoveDue c × (is_plain answer ≡ true) × (moves_clock config.scheme ≡ true)
LaterFits config (Repeated task) c = c.due ≡ false
LaterFits config Counted c = c.due ≡ false

abbrev pub AfterFits : Config → AfterScan → ClockTally → Type 0
AfterFits config (Answered answer) c = fits_answer config c answer ≡ true
AfterFits config (Repeated task) c = c.due ≡ false
AfterFits config Counted c = c.due ≡ false

abbrev pub WhyFits : Config → Why → ClockTally → Type 0
WhyFits config (Opens task) c = c.due ≡ false
WhyFits config (FollowsHead head tail) c = c.due ≡ false
WhyFits config (Fills task) c = c.due ≡ false
WhyFits config (ClearsNext next) c = NextFits config Dequeues next c
WhyFits config (Clears task next) c = NextFits config task next c
WhyFits config (Finishes task next) c = NextFits config task next c
WhyFits config (GivesUp answer) c = (c.due ≡ false) × (is_plain answer ≡ true)
WhyFits config (Retires answer) c = (c.due ≡ false) × (is_plain answer ≡ true)
WhyFits config (Tidies later) c = LaterFits config later c
WhyFits config Advances c = MoveDue c
WhyFits config (Releases let_go) c = c.due ≡ false

abbrev pub PhaseFits : Config → Phase → ClockTally → Type 0
PhaseFits config Idle c = Unit {0}
PhaseFits config (Runs why base) c = WhyFits config why c
PhaseFits config (Scans later at) c = AfterFits config later c
PhaseFits config (Works work) c = c.due ≡ false

abbrev pub OutFits : Config → CallOutcome → ClockTally → Type 0
OutFits config (GoesOn phase) c = PhaseFits config phase c
OutFits config (Answers answer) c = fits_answer config c answer ≡ true

-- what a change answers of the clock, where nothing is due
change_still : (by_retires : Bool) (last : ℕ) (c : ClockTally) → c.due ≡ false → fits_change by_retires last c moves.Still ≡ true
change_still true last c s = ap not s
change_still false last c s = refl

plain_fits : (config : Config) (c : ClockTally) (answer : Answer) → c.due ≡ false → is_plain answer ≡ true → fits_answer config c answer ≡ true
plain_fits config c (the_answers.Done version moves.Still) s q = change_still (moves_clock config.scheme) config.last_era c s
plain_fits config c (the_answers.Done version (moves.Moved era)) s q = absurd (cc)
plain_fits config c (the_answers.Done version (moves.Other seen)) s q = absurd (cc)
plain_fits config c (the_answers.Done version (moves.EraSpent era)) s q = absurd (cc)
plain_fits config c (the_answers.Taken number value moves.Still) s q = change_still (moves_clock config.scheme) config.last_era c s
plain_fits config c (the_answers.Taken number value (moves.Moved era)) s q = absurd (cc)
plain_fits config c (the_answers.Taken number value (moves.Other seen)) s q = absurd (cc)
plain_fits config c (the_answers.Taken number value (moves.EraSpent era)) s q = absurd (cc)
plain_fits config c (the_answers.Clock clock) s q = absurd (cc)
plain_fits config c answer s q = refl

-- before a call begins anew it scans, and moves the clock first where retirements do
room_fits : (config : Config) (task : Task) (moving : Bool) (post : Post) (c : ClockTally) → c.due ≡ false → PhaseFits config (tidy_by moving (Repeated task) post) c
room_fits config task true post c f = f
room_fits config task false post c f = f

-- the end of a round
pub round_fits : (config : Config) (task : Task) (post : Post) (c : ClockTally) → c.due ≡ false → PhaseFits config (round task post) c
round_fits config task post c f = by (begin_base (scheme_of post) post)
  where
    by : (x : Option Base) → PhaseFits config (round_by task post x) c
    by None = f
    by (Some base) = f

given_up_fits : (config : Config) (answer : Answer) (post : Post) (desk : Desk) (told : List Event) (x : Option ℕ) (c : ClockTally) → c.due ≡ false → is_plain answer ≡ true → OutFits config (given_up answer post desk told x).outcome c
given_up_fits config answer post desk told None c s q = plain_fits config c answer s q
given_up_fits config answer post desk told (Some slot) c s q = (s, q)

pub closed_fits : (config : Config) (task : Task) (next : Next) (post : Post) (desk : Desk) (told : List Event) (c : ClockTally) → NextFits config task next c → OutFits config (closed task next post desk told).outcome c
closed_fits config task Again post desk told c f = round_fits config task post c f
closed_fits config task MakeRoom post desk told c f = room_fits config task (moves_clock (scheme_of post)) post c f
closed_fits config task (Answering answer) post desk told c f = given_up_fits config answer post desk told (taken_of task) c f.0 f.1
closed_fits config task (Retiring slot answer) post desk told c f = f

finishing_by_fits : (config : Config) (task : Task) (next : Next) (post : Post) (desk : Desk) (told : List Event) (x : Option Base) (c : ClockTally) → NextFits config task next c → OutFits config (finishing_by task next post desk told x).outcome c
finishing_by_fits config task next post desk told None c f = closed_fits config task next post desk told c f
finishing_by_fits config task next post desk told (Some base) c f = f

finishing_fits : (config : Config) (task : Task) (next : Next) (post : Post) (desk : Desk) (told : List Event) (c : ClockTally) → NextFits config task next c → OutFits config (finishing task next post desk told).outcome c
finishing_fits config task Again post desk told c f = closed_fits config task Again post desk told c f
finishing_fits config task MakeRoom post desk told c f = finishing_by_fits config task MakeRoom post desk told (finish_base (scheme_of post) post) c f
finishing_fits config task (Answering answer) post desk told c f = finishing_by_fits config task (Answering answer) post desk told (finish_base (scheme_of post) post) c f
finishing_fits config task (Retiring slot answer) post desk told c f = finishing_by_fits config task (Retiring slot answer) post desk told (finish_base (scheme_of post) post) c f

clearing_by_fits : (config : Config) (task : Task) (next : Next) (post : Post) (desk : Desk) (told : List Event) (x : Option Base) (c : ClockTally) → NextFits config task next c → OutFits config (clearing_by task next post desk told x).outcome c
clearing_by_fits config task next post desk told None c f =
    finishing_fits config task next (clear_post (scheme_of post) post (index_of task)) desk (told ++ clear_told (scheme_of post) post (index_of task)) c f
clearing_by_fits config task next post desk told (Some base) c f = f

pub clearing_fits : (config : Config) (task : Task) (next : Next) (post : Post) (desk : Desk) (told : List Event) (c : ClockTally) → NextFits config task next c → OutFits config (clearing task next post desk told).outcome c
clearing_fits config task next post desk told c f = clearing_by_fits config task next post desk told (clear_base (scheme_of post) (index_of task)) c f

next_by_fits : (config : Config) (next : Next) (post : Post) (desk : Desk) (told : List Event) (x : Option Base) (c : ClockTally) → NextFits config Dequeues next c → OutFits config (clearing_next_by next post desk told x).outcome c
next_by_fits config next post desk told None c f =
    clearing_fits config Dequeues next (clear_post (scheme_of post) post 1) desk (told ++ clear_told (scheme_of post) post 1) c f
next_by_fits config next post desk told (Some base) c f = f

clearing_next_fits : (config : Config) (next : Next) (post : Post) (desk : Desk) (told : List Event) (c : ClockTally) → NextFits config Dequeues next c → OutFits config (clearing_next next post desk told).outcome c
clearing_next_fits config next post desk told c f = next_by_fits config next post desk told (clear_base (scheme_of post) 1) c f

-- a get
got_fits : (config : Config) (key version : ℕ) (value : Option ℕ) (post : Post) (desk : Desk) (told : List Event) (c : ClockTally) → c.due ≡ false → OutFits config (gets.got key version value post desk told).outcome c
got_fits config key version value post desk told c s =
    clearing_fits config (Gets key) (Answering (the_answers.Got version value)) post desk (told ++ events.Got (bucket_of post key) version key value ∷ []) c (s, refl)

finding_fits : (config : Config) (key slot version count : ℕ) (post : Post) (desk : Desk) (on : Bool) (pair : ℕ) (c : ClockTally) → c.due ≡ false → OutFits config (gets.finding key slot version count post desk on pair).outcome c
finding_fits config key slot version count post desk true pair c s = s
finding_fits config key slot version count post desk false pair c s = got_fits config key version None post desk [] c s

found_key_fits : (config : Config) (key slot version count pair : ℕ) (post : Post) (desk : Desk) (own : Bool) (c : ClockTally) → c.due ≡ false → OutFits config (gets.found_key key slot version count pair post desk own).outcome c
found_key_fits config key slot version count pair post desk true c s = s
found_key_fits config key slot version count pair post desk false c s = finding_fits config key slot version count post desk (nat_lt (pair + 1) count) (pair + 1) c s

get_fits : (config : Config) (key : ℕ) (at : GetAt) (post : Post) (desk : Desk) (found : ℕ) (c : ClockTally) → c.due ≡ false → OutFits config (gets.get_turn key at post desk found).outcome c
get_fits config key (FindVersion slot) post desk found c s = s
get_fits config key (FindCount slot version) post desk found c s = finding_fits config key slot version found post desk (nat_lt 0 found) 0 c s
get_fits config key (FindKey slot version count pair) post desk found c s = found_key_fits config key slot version count pair post desk (found == key) c s
get_fits config key (FindValue slot version pair) post desk found c s = got_fits config key version (Some found) post desk [] c s

-- a change
deciding_by_fits : (config : Config) (kept : ChangeKept) (post : Post) (desk : Desk) (told : List Event) (x : Option Answer) (c : ClockTally) → c.due ≡ false → all_plain x ≡ true → OutFits config (alters.deciding_by kept post desk told x).outcome c
deciding_by_fits config kept post desk told (Some answer) c f q = clearing_fits config (Changes kept) (Answering answer) post desk told c (f, q)
deciding_by_fits config kept post desk told None c f q = f

plain_if : (b : Bool) (x y : Option Answer) → all_plain x ≡ true → all_plain y ≡ true → all_plain (if b then x else y) ≡ true
plain_if true x y h k = h
plain_if false x y h k = k

refusal_plain : (config : Config) (version : ℕ) (pairs : List Pair) (change : Change) → all_plain (alters.refusal config version pairs change) ≡ true
refusal_plain config version pairs (changes.Put key value) =
    plain_if (version == config.last_version) (Some (the_answers.Spent version)) (if not (alters.has_key pairs key) && length pairs == config.pairs then Some (the_answers.BucketFull version) else None) refl
    (plain_if (not (alters.has_key pairs key) && length pairs == config.pairs) (Some (the_answers.BucketFull version)) None refl refl)
refusal_plain config version pairs (changes.Removed key) =
    plain_if (not (alters.has_key pairs key)) (Some (the_answers.Absent version)) (if version == config.last_version then Some (the_answers.Spent version) else None) refl
    (plain_if (version == config.last_version) (Some (the_answers.Spent version)) None refl refl)

stale_plain : (wanted : Option ℕ) (version : ℕ) (other : Option Answer) → all_plain other ≡ true → all_plain (alters.stale_or wanted version other) ≡ true
stale_plain None version other h = h
stale_plain (Some want) version other h = plain_if (version == want) other (Some (the_answers.Stale version)) h refl

deciding_fits : (config : Config) (kept : ChangeKept) (post : Post) (desk : Desk) (told : List Event) (c : ClockTally) → c.due ≡ false → OutFits config (alters.deciding kept post desk told).outcome c
deciding_fits config kept post desk told c f =
    deciding_by_fits config kept post desk told (alters.refused post.layout.config kept) c f (stale_plain kept.wanted kept.version (alters.refusal post.layout.config kept.version kept.pairs kept.change) (refusal_plain post.layout.config kept.version kept.pairs kept.change))

reading_fits : (config : Config) (kept : ChangeKept) (slot count : ℕ) (post : Post) (desk : Desk) (on : Bool) (c : ClockTally) → c.due ≡ false → OutFits config (alters.reading kept slot count post desk on).outcome c
reading_fits config kept slot count post desk true c f = f
reading_fits config kept slot count post desk false c f = deciding_fits config kept post desk [] c f

done_fits : (config : Config) (task : Task) (version link : ℕ) (none : Bool) (c : ClockTally) → c.due ≡ false → NextFits config task (if none then Answering (the_answers.Done version moves.Still) else Retiring (link - 1) (the_answers.Done version moves.Still)) c
done_fits config task version link true c s = (s, refl)
done_fits config task version link false c s = (s, refl)

exchanged_fits : (config : Config) (kept : ChangeKept) (slot : ℕ) (post : Post) (desk : Desk) (same : Bool) (c : ClockTally) → c.due ≡ false → OutFits config (alters.exchanged kept slot post desk same).outcome c
exchanged_fits config kept slot post desk true c f =
    clearing_fits config (Changes (record kept { taken = None })) (alters.answer_done (kept.version + 1) kept.link) post desk (alters.told_linked kept slot post) c
    (done_fits config (Changes (record kept { taken = None })) (kept.version + 1) kept.link (kept.link == 0) c f)
exchanged_fits config kept slot post desk false c f = clearing_fits config (Changes kept) Again post desk [] c f

change_fits : (config : Config) (kept : ChangeKept) (at : ChangeAt) (post : Post) (desk : Desk) (found : ℕ) (c : ClockTally) → c.due ≡ false → OutFits config (alters.change_turn kept at post desk found).outcome c
change_fits config kept (LoadVersion slot) post desk found c f = f
change_fits config kept (LoadCount slot) post desk found c f = reading_fits config kept slot found post desk (nat_lt 0 found) c f
change_fits config kept (LoadKey slot count) post desk found c f = f
change_fits config kept (LoadValue slot count key) post desk found c f =
    reading_fits config (alters.with_read kept key found) slot count post desk (nat_lt (length kept.pairs + 1) count) c f
change_fits config kept (ExchangeRoot slot) post desk found c f = exchanged_fits config kept slot post desk (found == kept.link) c f

-- an enqueue
appending_fits : (config : Config) (kept : EnqueueKept) (post : Post) (desk : Desk) (spent : Bool) (c : ClockTally) → c.due ≡ false → OutFits config (enqueues.appending kept post desk spent).outcome c
appending_fits config kept post desk true c f = clearing_fits config (Enqueues kept) (Answering (the_answers.Spent kept.number)) post desk [] c (f, refl)
appending_fits config kept post desk false c f = f

at_next_fits : (config : Config) (kept : EnqueueKept) (next : ℕ) (post : Post) (desk : Desk) (none : Bool) (c : ClockTally) → c.due ≡ false → OutFits config (enqueues.at_next kept next post desk none).outcome c
at_next_fits config kept next post desk true c f = appending_fits config kept post desk (kept.number == post.layout.config.last_version) c f
at_next_fits config kept next post desk false c f = f

appended_fits : (config : Config) (kept : EnqueueKept) (slot : ℕ) (post : Post) (desk : Desk) (same : Bool) (c : ClockTally) → c.due ≡ false → OutFits config (enqueues.appended kept slot post desk same).outcome c
appended_fits config kept slot post desk true c f = f
appended_fits config kept slot post desk false c f = clearing_fits config (Enqueues kept) Again post desk [] c f

enqueue_fits : (config : Config) (kept : EnqueueKept) (at : EnqueueAt) (post : Post) (desk : Desk) (found : ℕ) (c : ClockTally) → c.due ≡ false → OutFits config (enqueues.enqueue_turn kept at post desk found).outcome c
enqueue_fits config kept LoadNumber post desk found c f = f
enqueue_fits config kept LoadNext post desk found c f = at_next_fits config kept found post desk (found == 0) c f
enqueue_fits config kept (PassTail next) post desk found c f = clearing_fits config (Enqueues kept) Again post desk (enqueues.told_link roots.Tail (next - 1) (found == kept.tail + 1)) c f
enqueue_fits config kept (ExchangeNext slot) post desk found c f = appended_fits config kept slot post desk (found == 0) c f
enqueue_fits config kept (ExchangeTail slot) post desk found c f =
    clearing_fits config (Enqueues kept) (Answering (the_answers.Queued (kept.number + 1))) post desk (enqueues.told_link roots.Tail slot (found == kept.tail + 1)) c (f, refl)

-- a dequeue
followed_row_fits : (config : Config) (head next : ℕ) (post : Post) (desk : Desk) (told : List Event) (lags : Bool) (c : ClockTally) → c.due ≡ false → OutFits config (dequeues.followed_row head next post desk told lags).outcome c
followed_row_fits config head next post desk told true c s = s
followed_row_fits config head next post desk told false c s = s

followed_fits : (config : Config) (head tail : ℕ) (ending : FollowEnd) (post : Post) (desk : Desk) (told : List Event) (c : ClockTally) → c.due ≡ false → OutFits config (dequeues.followed head tail ending post desk told).outcome c
followed_fits config head tail (follow_ends.Followed slot) post desk told c s = followed_row_fits config head slot post desk told (tail == head + 1) c s
followed_fits config head tail follow_ends.NoNext post desk told c s = clearing_next_fits config (Answering the_answers.Empty) post desk told c (s, refl)
followed_fits config head tail (follow_ends.RootMoved seen) post desk told c s = clearing_next_fits config Again post desk told c s

taken_fits : (config : Config) (head next number value : ℕ) (post : Post) (desk : Desk) (same : Bool) (c : ClockTally) → c.due ≡ false → OutFits config (dequeues.taken head next number value post desk same).outcome c
taken_fits config head next number value post desk true c s =
    clearing_next_fits config (Retiring head (the_answers.Taken number value moves.Still)) post desk (events.Link roots.Head next ∷ events.Cut head ∷ events.Taken number value ∷ []) c (s, refl)
taken_fits config head next number value post desk false c s = clearing_next_fits config Again post desk [] c s

dequeue_fits : (config : Config) (at : DequeueAt) (post : Post) (desk : Desk) (found : ℕ) (c : ClockTally) → c.due ≡ false → OutFits config (dequeues.dequeue_turn at post desk found).outcome c
dequeue_fits config (SwingTail head next) post desk found c s = clearing_next_fits config Again post desk (enqueues.told_link roots.Tail next (found == head + 1)) c s
dequeue_fits config (ExchangeHead head next number value) post desk found c s = taken_fits config head next number value post desk (found == head + 1) c s
dequeue_fits config at post desk found c s = s

-- a seat that leaves
pub parts_fit : (config : Config) (c : ClockTally) → c.due ≡ false → Parts (λ (phase : Phase). PhaseFits config phase c)
parts_fit config c s = record { clears = λ rows index. s; hides = s; marks = s }

-- what is let go, a copy and a look
released_fits : (config : Config) (let_go : LetGo) (post : Post) (desk : Desk) (told : List Event) (c : ClockTally) → c.due ≡ false → OutFits config (keeps.released let_go post desk told).outcome c
released_fits config Released post desk told c s = refl
released_fits config (Rehold key) post desk told c s = round_fits config (Holds key) post c s
released_fits config (Dropped index) post desk told c s = refl
released_fits config (Parting index) post desk told c s = parts_on (λ (phase : Phase). PhaseFits config phase c) (parts_fit config c s) (index + 1) post

copied_fits : (config : Config) (from index : ℕ) (post : Post) (desk : Desk) (reserved : List Event) (x : Option ℕ) (c : ClockTally) → c.due ≡ false → OutFits config (keeps.copied from index post desk reserved x).outcome c
copied_fits config from index post desk reserved None c s = refl
copied_fits config from index post desk reserved (Some slot) c s = refl

load_fits : (config : Config) (from index : ℕ) (post : Post) (desk : Desk) (found : ℕ) (one : Bool) (c : ClockTally) → c.due ≡ false → OutFits config (keeps.load_held from index post desk found one).outcome c
load_fits config from index post desk found true c s = copied_fits config from index post desk [] (stands post from) c s
load_fits config from index post desk found false c s = s

looking_fits : (config : Config) (index key slot version count : ℕ) (post : Post) (desk : Desk) (on : Bool) (pair : ℕ) (c : ClockTally) → c.due ≡ false → OutFits config (keeps.looking index key slot version count post desk on pair).outcome c
looking_fits config index key slot version count post desk true pair c s = s
looking_fits config index key slot version count post desk false pair c s = refl

looked_key_fits : (config : Config) (index key slot version count pair : ℕ) (post : Post) (desk : Desk) (own : Bool) (c : ClockTally) → c.due ≡ false → OutFits config (keeps.looked_key index key slot version count pair post desk own).outcome c
looked_key_fits config index key slot version count pair post desk true c s = s
looked_key_fits config index key slot version count pair post desk false c s = looking_fits config index key slot version count post desk (nat_lt (pair + 1) count) (pair + 1) c s

look_fits : (config : Config) (index key : ℕ) (at : GetAt) (post : Post) (desk : Desk) (found : ℕ) (c : ClockTally) → c.due ≡ false → OutFits config (keeps.look_turn index key at post desk found).outcome c
look_fits config index key (FindVersion slot) post desk found c s = s
look_fits config index key (FindCount slot version) post desk found c s = looking_fits config index key slot version found post desk (nat_lt 0 found) 0 c s
look_fits config index key (FindKey slot version count pair) post desk found c s = looked_key_fits config index key slot version count pair post desk (found == key) c s
look_fits config index key (FindValue slot version pair) post desk found c s = refl

keep_fits : (config : Config) (at : KeepAt) (post : Post) (desk : Desk) (found : ℕ) (c : ClockTally) → c.due ≡ false → OutFits config (keeps.keep_turn at post desk found).outcome c
keep_fits config (Loosens let_go) post desk found c s = released_fits config let_go (withdrawn post (let_index let_go)) desk (cleared (let_index let_go) (stands post (let_index let_go))) c s
keep_fits config (LoadHeld from index) post desk found c s = load_fits config from index post desk found (has_one_interval (scheme_of post)) c s
keep_fits config (StoreHeld from index era) post desk found c s = copied_fits config from index post desk (publishes_index (publishes_rows (scheme_of post)) post index era) (stands post from) c s
keep_fits config (Looks index key at) post desk found c s = look_fits config index key at post desk found c s
keep_fits config (Misses index) post desk found c s = refl
keep_fits config HideSpan post desk found c s = s
keep_fits config MarkLeft post desk found c s = refl
keep_fits config (TakeList place) post desk found c s = takes_on (λ (outcome : CallOutcome). OutFits config outcome c) place (record { marks = λ count. s; none = refl; late = refl }) post desk (found == 1) found
keep_fits config (MarkTaken place count) post desk found c s = refl

pub letting_fits : (config : Config) (let_go : LetGo) (post : Post) (c : ClockTally) → c.due ≡ false → PhaseFits config (letting let_go post) c
letting_fits config let_go post c s = by (release_base (scheme_of post) post (let_index let_go))
  where
    by : (x : Option Base) → PhaseFits config (letting_by let_go x) c
    by None = s
    by (Some base) = s

pub work_fits : (config : Config) (work : Work) (post : Post) (desk : Desk) (found : ℕ) (c : ClockTally) → c.due ≡ false → OutFits config (steps.work_turn work post desk found).outcome c
work_fits config (Getting key at) post desk found c f = get_fits config key at post desk found c f
work_fits config (Changing kept at) post desk found c f = change_fits config kept at post desk found c f
work_fits config (Enqueuing kept at) post desk found c f = enqueue_fits config kept at post desk found c f
work_fits config (Dequeuing at) post desk found c f = dequeue_fits config at post desk found c f
work_fits config (Keeping at) post desk found c f = keep_fits config at post desk found c f

-- what comes after a machine
opened_row_fits : (config : Config) (task : Task) (slot : ℕ) (post : Post) (desk : Desk) (told : List Event) (c : ClockTally) → c.due ≡ false → OutFits config (steps.opened_row task slot post desk told).outcome c
opened_row_fits config (Gets key) slot post desk told c f = f
opened_row_fits config (Changes kept) slot post desk told c f = f
opened_row_fits config (Holds key) slot post desk told c f = refl
opened_row_fits config (Enqueues kept) slot post desk told c f = f
opened_row_fits config Dequeues slot post desk told c f = f

opened_null_fits : (config : Config) (task : Task) (post : Post) (desk : Desk) (told : List Event) (c : ClockTally) → c.due ≡ false → OutFits config (steps.opened_null task post desk told).outcome c
opened_null_fits config (Gets key) post desk told c f = got_fits config key 0 None post desk told c f
opened_null_fits config (Changes kept) post desk told c f = deciding_fits config (alters.at_link kept 0) post desk told c f
opened_null_fits config (Holds key) post desk told c f = clearing_fits config (Holds key) (Answering the_answers.Nothing) post desk told c (f, refl)
opened_null_fits config (Enqueues kept) post desk told c f = clearing_fits config (Enqueues kept) Again post desk told c f
opened_null_fits config Dequeues post desk told c f = clearing_fits config Dequeues Again post desk told c f

opened_fits : (config : Config) (task : Task) (ending : Ending) (post : Post) (desk : Desk) (told : List Event) (c : ClockTally) → c.due ≡ false → OutFits config (steps.opened task ending post desk told).outcome c
opened_fits config task (Protected (protect_ends.Held slot era)) post desk told c f = opened_row_fits config task slot post desk told c f
opened_fits config task (Protected protect_ends.Null) post desk told c f = opened_null_fits config task post desk told c f
opened_fits config task Done post desk told c f = f
opened_fits config task (Followed end) post desk told c f = f
opened_fits config task (Allocated end) post desk told c f = f
opened_fits config task (Retired life) post desk told c f = f
opened_fits config task (Clocked clock) post desk told c f = f

followed_by_fits : (config : Config) (head tail : ℕ) (ending : Ending) (post : Post) (desk : Desk) (told : List Event) (c : ClockTally) → c.due ≡ false → OutFits config (steps.followed_by head tail ending post desk told).outcome c
followed_by_fits config head tail (Followed ending) post desk told c s = followed_fits config head tail ending post desk told c s
followed_by_fits config head tail Done post desk told c s = closed_fits config Dequeues Again post desk told c s
followed_by_fits config head tail (Protected end) post desk told c s = closed_fits config Dequeues Again post desk told c s
followed_by_fits config head tail (Allocated end) post desk told c s = closed_fits config Dequeues Again post desk told c s
followed_by_fits config head tail (Retired life) post desk told c s = closed_fits config Dequeues Again post desk told c s
followed_by_fits config head tail (Clocked clock) post desk told c s = closed_fits config Dequeues Again post desk told c s

-- whatever the machine makes
pub resumed_opens : (config : Config) (task : Task) (desk : Desk) (post : Post) (told : List Event) (outcome : Outcome) (c : ClockTally) → c.due ≡ false → OutFits config (steps.resumed (Opens task) desk post told outcome).outcome c
resumed_opens config task desk post told (Goes base) c f = f
resumed_opens config task desk post told (Ends ending) c f = opened_fits config task ending post desk told c f

pub resumed_follows : (config : Config) (head tail : ℕ) (desk : Desk) (post : Post) (told : List Event) (outcome : Outcome) (c : ClockTally) → c.due ≡ false → OutFits config (steps.resumed (FollowsHead head tail) desk post told outcome).outcome c
resumed_follows config head tail desk post told (Goes base) c f = f
resumed_follows config head tail desk post told (Ends ending) c f = followed_by_fits config head tail ending post desk told c f

pub resumed_next : (config : Config) (next : Next) (desk : Desk) (post : Post) (told : List Event) (outcome : Outcome) (c : ClockTally) → NextFits config Dequeues next c → OutFits config (steps.resumed (ClearsNext next) desk post told outcome).outcome c
resumed_next config next desk post told (Goes base) c f = f
resumed_next config next desk post told (Ends ending) c f = clearing_fits config Dequeues next post desk told c f

pub resumed_clears : (config : Config) (task : Task) (next : Next) (desk : Desk) (post : Post) (told : List Event) (outcome : Outcome) (c : ClockTally) → NextFits config task next c → OutFits config (steps.resumed (Clears task next) desk post told outcome).outcome c
resumed_clears config task next desk post told (Goes base) c f = f
resumed_clears config task next desk post told (Ends ending) c f = finishing_fits config task next post desk told c f

pub resumed_finishes : (config : Config) (task : Task) (next : Next) (desk : Desk) (post : Post) (told : List Event) (outcome : Outcome) (c : ClockTally) → NextFits config task next c → OutFits config (steps.resumed (Finishes task next) desk post told outcome).outcome c
resumed_finishes config task next desk post told (Goes base) c f = f
resumed_finishes config task next desk post told (Ends ending) c f = closed_fits config task next post desk told c f

pub resumed_gives : (config : Config) (answer : Answer) (desk : Desk) (post : Post) (told : List Event) (outcome : Outcome) (c : ClockTally) → (c.due ≡ false) × (is_plain answer ≡ true) → OutFits config (steps.resumed (GivesUp answer) desk post told outcome).outcome c
resumed_gives config answer desk post told (Goes base) c f = f
resumed_gives config answer desk post told (Ends ending) c f = plain_fits config c answer f.0 f.1

pub resumed_releases : (config : Config) (let_go : LetGo) (desk : Desk) (post : Post) (told : List Event) (outcome : Outcome) (c : ClockTally) → c.due ≡ false → OutFits config (steps.resumed (Releases let_go) desk post told outcome).outcome c
resumed_releases config let_go desk post told (Goes base) c f = f
resumed_releases config let_go desk post told (Ends ending) c f = released_fits config let_go post desk told c f

-- a row is filled
written_fits : (config : Config) (task : Task) (post : Post) (desk : Desk) (told : List Event) (c : ClockTally) → c.due ≡ false → OutFits config (steps.written_row task post desk told).outcome c
written_fits config (Changes kept) post desk told c f = f
written_fits config (Enqueues kept) post desk told c f = f
written_fits config (Gets key) post desk told c f = closed_fits config (Gets key) Again post desk told c f
written_fits config (Holds key) post desk told c f = closed_fits config (Holds key) Again post desk told c f
written_fits config Dequeues post desk told c f = closed_fits config Dequeues Again post desk told c f

no_room_fits : (config : Config) (task : Task) (walked : Bool) (c : ClockTally) → c.due ≡ false → NextFits config task (alters.no_room walked) c
no_room_fits config task true c f = (f, refl)
no_room_fits config task false c f = f

filled_by_fits : (config : Config) (task : Task) (ending : AllocateEnd) (post : Post) (desk : Desk) (told : List Event) (c : ClockTally) → c.due ≡ false → OutFits config (steps.filled_by task ending post desk told).outcome c
filled_by_fits config (Changes kept) (allocate_ends.Given slot birth) post desk told c f = f
filled_by_fits config (Changes kept) allocate_ends.Full post desk told c f =
    clearing_fits config (Changes (alters.with_walked kept)) (alters.no_room kept.walked) post desk told c (no_room_fits config (Changes (alters.with_walked kept)) kept.walked c f)
filled_by_fits config (Enqueues kept) (allocate_ends.Given slot birth) post desk told c f = f
filled_by_fits config (Enqueues kept) allocate_ends.Full post desk told c f =
    clearing_fits config (Enqueues (enqueues.item_walked kept)) (alters.no_room kept.walked) post desk told c (no_room_fits config (Enqueues (enqueues.item_walked kept)) kept.walked c f)
filled_by_fits config (Gets key) ending post desk told c f = closed_fits config (Gets key) Again post desk told c f
filled_by_fits config (Holds key) ending post desk told c f = closed_fits config (Holds key) Again post desk told c f
filled_by_fits config Dequeues ending post desk told c f = closed_fits config Dequeues Again post desk told c f

filled_fits : (config : Config) (task : Task) (ending : Ending) (post : Post) (desk : Desk) (told : List Event) (c : ClockTally) → c.due ≡ false → OutFits config (steps.filled task ending post desk told).outcome c
filled_fits config task (Allocated ending) post desk told c f = filled_by_fits config task ending post desk told c f
filled_fits config task Done post desk told c f = written_fits config task post desk told c f
filled_fits config task (Protected end) post desk told c f = written_fits config task post desk told c f
filled_fits config task (Followed end) post desk told c f = written_fits config task post desk told c f
filled_fits config task (Retired life) post desk told c f = written_fits config task post desk told c f
filled_fits config task (Clocked clock) post desk told c f = written_fits config task post desk told c f

resumed_fills : (config : Config) (task : Task) (desk : Desk) (post : Post) (told : List Event) (outcome : Outcome) (c : ClockTally) → c.due ≡ false → OutFits config (steps.resumed (Fills task) desk post told outcome).outcome c
resumed_fills config task desk post told (Goes base) c f = f
resumed_fills config task desk post told (Ends ending) c f = filled_fits config task ending post desk told c f

-- what a step leaves
pub record Lands (every : ℕ) (config : Config) (x : ClockTally) (phase : Phase) (first : List Event) (outcome : CallOutcome) : Type 0 where
  pub fits : OutFits config outcome (along (clock_by every) first x)
  pub count : (along (clock_by every) first x).retired ≡ counts phase x.retired

-- a machine that retires and moves nothing
abbrev is_calm : Kind → Bool
is_calm ToRetire = false
is_calm ToMove = false
is_calm kind = true

retires_loud : (kind : Kind) → retires kind ≡ true → is_calm kind ≡ false
retires_loud ToRetire h = refl
retires_loud kind h = absurd (cc)

moves_loud : (kind : Kind) → moves_kind kind ≡ true → is_calm kind ≡ false
moves_loud ToMove h = refl
moves_loud kind h = absurd (cc)

record Calm (every : ℕ) (x : ClockTally) (base : Base) (found : ℕ) : Type 0 where
  same : along (clock_by every) (base_front base found) x ≡ x
  count : (why : Why) (n : ℕ) → counts (Runs why base) n ≡ n

claim_same : (every birth slot : ℕ) (x : ClockTally) (claimed : Bool) → along (clock_by every) (claim_front birth slot claimed) x ≡ x
claim_same every birth slot x true = refl
claim_same every birth slot x false = refl

calm_base : (every : ℕ) (x : ClockTally) (base : Base) (kind : Kind) (found : ℕ) → suits base kind ≡ true → is_calm kind ≡ true → Calm every x base found
calm_base every x (Allocate (ClaimSlot birth walk)) kind found s q = record { same = claim_same every birth walk.slot x (allocates.is_claimed found walk.slot); count = λ why n. refl }
calm_base every x (Retire at) kind found s q = let n : is_calm kind ≡ false = retires_loud kind s in absurd (cc)
calm_base every x (Move at) kind found s q = let n : is_calm kind ≡ false = moves_loud kind s in absurd (cc)
calm_base every x base kind found s q = record { same = refl; count = λ why n. refl }

same_lands : (every : ℕ) (config : Config) (x y : ClockTally) (phase : Phase) (first : List Event) (outcome : CallOutcome) → along (clock_by every) first x ≡ y → y.retired ≡ counts phase x.retired → OutFits config outcome y → Lands every config x phase first outcome
same_lands every config x y phase first outcome e n f =
    record { fits = subst (λ (z : ClockTally). OutFits config outcome z) (sym e) f; count = ap (λ (z : ClockTally). z.retired) e ∙ n }

calm_lands : (every : ℕ) (config : Config) (x : ClockTally) (why : Why) (base : Base) (found : ℕ) (outcome : CallOutcome) → suits base (kind_of why) ≡ true → is_calm (kind_of why) ≡ true → OutFits config outcome x → Lands every config x (Runs why base) (base_front base found) outcome
calm_lands every config x why base found outcome s q f =
    let n : Calm every x base found = calm_base every x base (kind_of why) found s q in same_lands every config x x (Runs why base) (base_front base found) outcome n.same (sym (n.count why x.retired)) f

-- a row is retired
-- where retirements do not move the clock a plain answer fits whatever is due
quiet_answer : (last : ℕ) (c : ClockTally) (answer : Answer) → is_plain answer ≡ true → answer_fits false last c answer ≡ true
quiet_answer last c (the_answers.Done version moves.Still) q = refl
quiet_answer last c (the_answers.Done version (moves.Moved era)) q = absurd (cc)
quiet_answer last c (the_answers.Done version (moves.Other seen)) q = absurd (cc)
quiet_answer last c (the_answers.Done version (moves.EraSpent era)) q = absurd (cc)
quiet_answer last c (the_answers.Taken number value moves.Still) q = refl
quiet_answer last c (the_answers.Taken number value (moves.Moved era)) q = absurd (cc)
quiet_answer last c (the_answers.Taken number value (moves.Other seen)) q = absurd (cc)
quiet_answer last c (the_answers.Taken number value (moves.EraSpent era)) q = absurd (cc)
quiet_answer last c (the_answers.Clock clock) q = absurd (cc)
quiet_answer last c answer q = refl

tidy_fits : (config : Config) (answer : Answer) (moving : Bool) (post : Post) (c : ClockTally) → moves_clock config.scheme ≡ moving → MoveDue c → is_plain answer ≡ true → PhaseFits config (tidy_by moving (Answered answer) post) c
tidy_fits config answer true post c e d q = (d, q, e)
tidy_fits config answer false post c e d q = subst (λ (by_retires : Bool). answer_fits by_retires config.last_era c answer ≡ true) (sym e) (quiet_answer config.last_era c answer q)

tidying_fits : (config : Config) (answer : Answer) (post : Post) (desk : Desk) (told : List Event) (due : Bool) (y : ClockTally) → config.scheme ≡ scheme_of post → y.due ≡ due → y.moved ≡ None → is_plain answer ≡ true → OutFits config (steps.tidying answer post desk told due).outcome y
tidying_fits config answer post desk told true y e d m q = tidy_fits config answer (moves_clock (scheme_of post)) post y (ap moves_clock e) (record { due = d; none = m }) q
tidying_fits config answer post desk told false y e d m q = plain_fits config y answer d q

retires_lands : (x : ClockTally) (answer : Answer) (base : Base) (post : Post) (desk : Desk) (found : ℕ) → suits base ToRetire ≡ true → x.retired ≡ post.retired → x.due ≡ false → is_plain answer ≡ true
    → Lands post.layout.config.every post.layout.config x (Runs (Retires answer) base) (base_front base found) (steps.run_turn (Retires answer) desk (machine.after base post found)).outcome
retires_lands x answer (Retire (LoadLife slot)) post desk found s r f q = record { fits = (f, q); count = refl }
retires_lands x answer (Retire (LoadRetire slot birth)) post desk found s r f q = record { fits = (f, q); count = refl }
retires_lands x answer (Retire (StoreRetired slot birth retire)) post desk found s r f q =
    let t = machine.after (Retire (StoreRetired slot birth retire)) post found in
    record {
      fits = tidying_fits post.layout.config answer t.post (with_life desk (record { slot = slot; birth = birth; retire = retire })) t.told (bump post.retired % post.layout.config.every == 0)
          (along (clock_by post.layout.config.every) (events.Retire slot birth retire ∷ []) x) refl (due_same x.retired post.retired post.layout.config.every r) refl q;
      count = refl;
    }
retires_lands x answer base post desk found s r f q = absurd (cc)

-- the clock is moved
abbrev EndOut : ℕ → ClockTally → Ending → Type 0
EndOut last y (Clocked clock) = outcome_fits last y clock ≡ true
EndOut last y ending = ⊥

abbrev MoveOut : ℕ → ClockTally → Outcome → Type 0
MoveOut last y (Goes base) = MoveDue y
MoveOut last y (Ends ending) = EndOut last y ending

none_moved : (x : ClockTally) → MoveDue x → is_none x.moved ≡ true
none_moved x d = ap (λ (m : Option ℕ). is_none m) d.none

other_out : (last seen : ℕ) (x : ClockTally) → MoveDue x → outcome_fits last x (moves.Other seen) ≡ true
other_out last seen x d = both x.due (is_none x.moved) d.due (none_moved x d)

load_out : (helps : Bool) (post : Post) (found : ℕ) (x : ClockTally) (same : Bool) → (found == post.layout.config.last_era) ≡ same → MoveDue x → MoveOut post.layout.config.last_era x (machine.move_turn (LoadEra helps) post found).outcome
load_out helps post found x true e d = rw e (both x.due (is_none x.moved && found == post.layout.config.last_era) d.due (both (is_none x.moved) (found == post.layout.config.last_era) (none_moved x d) e))
load_out helps post found x false e d = rw e d

check_out : (era seat tag index : ℕ) (root : Root) (link : ℕ) (post : Post) (found : ℕ) (x : ClockTally) (same : Bool) → (found == era) ≡ same → MoveDue x → MoveOut post.layout.config.last_era x (machine.move_turn (CheckEra era seat tag index root link) post found).outcome
check_out era seat tag index root link post found x true e d = rw e d
check_out era seat tag index root link post found x false e d = rw e d

asked_out : (era seat tag index : ℕ) (root : Root) (link : ℕ) (post : Post) (found : ℕ) (x : ClockTally) (same : Bool) → (found == asking post.layout tag index root) ≡ same → MoveDue x → MoveOut post.layout.config.last_era x (machine.move_turn (AnswerAsked era seat tag index root link) post found).outcome
asked_out era seat tag index root link post found x true e d = rw e d
asked_out era seat tag index root link post found x false e d = rw e d

reserved_out : (era seat tag index : ℕ) (root : Root) (link : ℕ) (post : Post) (found : ℕ) (x : ClockTally) (same : Bool) → ((read_reservation found).tag == tag) ≡ same → MoveDue x → MoveOut post.layout.config.last_era x (machine.move_turn (LoadReserved era seat tag index root link) post found).outcome
reserved_out era seat tag index root link post found x true e d = rw e d
reserved_out era seat tag index root link post found x false e d = rw e d

handed_out : (era seat tag index : ℕ) (root : Root) (link old : ℕ) (post : Post) (found : ℕ) (x : ClockTally) (same : Bool) → (found == reservation_word (record { era = old; tag = tag })) ≡ same → MoveDue x → MoveOut post.layout.config.last_era x (machine.move_turn (HandOver era seat tag index root link old) post found).outcome
handed_out era seat tag index root link old post found x true e d = rw e d
handed_out era seat tag index root link old post found x false e d = rw e d

tick_out : (every era : ℕ) (post : Post) (found : ℕ) (x : ClockTally) (same : Bool) → (found == era) ≡ same → MoveDue x → MoveOut post.layout.config.last_era (along (clock_by every) (tick_front era same) x) (machine.move_turn (ExchangeClock era) post found).outcome
tick_out every era post found x true e d = rw e (both x.due (era + 1 == era + 1) d.due (same_number (era + 1)))
tick_out every era post found x false e d = rw e (other_out post.layout.config.last_era found x d)

move_out : (every : ℕ) (at : MoveAt) (post : Post) (found : ℕ) (x : ClockTally) → MoveDue x → MoveOut post.layout.config.last_era (along (clock_by every) (move_front at found) x) (machine.move_turn at post found).outcome
move_out every (LoadEra helps) post found x d = load_out helps post found x (found == post.layout.config.last_era) refl d
move_out every (CheckEra era seat tag index root link) post found x d = check_out era seat tag index root link post found x (found == era) refl d
move_out every (AnswerAsked era seat tag index root link) post found x d = asked_out era seat tag index root link post found x (found == asking post.layout tag index root) refl d
move_out every (LoadReserved era seat tag index root link) post found x d = reserved_out era seat tag index root link post found x ((read_reservation found).tag == tag) refl d
move_out every (HandOver era seat tag index root link old) post found x d = handed_out era seat tag index root link old post found x (found == reservation_word (record { era = old; tag = tag })) refl d
move_out every (HideLate seen) post found x d = other_out post.layout.config.last_era seen x d
move_out every (ExchangeClock era) post found x d = tick_out every era post found x (found == era) refl d
move_out every at post found x d = d

-- only whether a move is due stays
tick_due : (every era : ℕ) (x : ClockTally) (same : Bool) → (along (clock_by every) (tick_front era same) x).due ≡ x.due
tick_due every era x true = refl
tick_due every era x false = refl

tick_count : (every era : ℕ) (x : ClockTally) (same : Bool) → (along (clock_by every) (tick_front era same) x).retired ≡ x.retired
tick_count every era x true = refl
tick_count every era x false = refl

pub move_due : (every : ℕ) (at : MoveAt) (found : ℕ) (x : ClockTally) → (along (clock_by every) (move_front at found) x).due ≡ x.due
move_due every (ExchangeClock era) found x = tick_due every era x (found == era)
move_due every at found x = refl

move_count : (every : ℕ) (at : MoveAt) (found : ℕ) (x : ClockTally) → (along (clock_by every) (move_front at found) x).retired ≡ x.retired
move_count every (ExchangeClock era) found x = tick_count every era x (found == era)
move_count every at found x = refl

moved_fits : (by_retires : Bool) (last : ℕ) (y : ClockTally) (clock : ClockMove) → by_retires ≡ true → outcome_fits last y clock ≡ true → fits_change by_retires last y clock ≡ true
moved_fits true last y clock e h = h
moved_fits false last y clock e h = absurd (cc)

clocked_fits : (config : Config) (y : ClockTally) (answer : Answer) (clock : ClockMove) → moves_clock config.scheme ≡ true → is_plain answer ≡ true → outcome_fits config.last_era y clock ≡ true → fits_answer config y (with_clock answer clock) ≡ true
clocked_fits config y (the_answers.Done version old) clock e q h = moved_fits (moves_clock config.scheme) config.last_era y clock e h
clocked_fits config y (the_answers.Taken number value old) clock e q h = moved_fits (moves_clock config.scheme) config.last_era y clock e h
clocked_fits config y (the_answers.Clock old) clock e q h = absurd (cc)
clocked_fits config y answer clock e q h = refl

answered_fits : (config : Config) (y : ClockTally) (answer : Answer) (ending : Ending) (post : Post) (desk : Desk) (told : List Event) → moves_clock config.scheme ≡ true → is_plain answer ≡ true → EndOut config.last_era y ending → OutFits config (steps.tidied (Answered answer) ending post desk told).outcome y
answered_fits config y answer (Clocked clock) post desk told e q h = clocked_fits config y answer clock e q h
answered_fits config y answer Done post desk told e q h = absurd h
answered_fits config y answer (Protected end) post desk told e q h = absurd h
answered_fits config y answer (Followed end) post desk told e q h = absurd h
answered_fits config y answer (Allocated end) post desk told e q h = absurd h
answered_fits config y answer (Retired life) post desk told e q h = absurd h

resumed_answered : (config : Config) (y : ClockTally) (answer : Answer) (desk : Desk) (post : Post) (told : List Event) (outcome : Outcome) → moves_clock config.scheme ≡ true → is_plain answer ≡ true → MoveOut config.last_era y outcome → OutFits config (steps.resumed (Tidies (Answered answer)) desk post told outcome).outcome y
resumed_answered config y answer desk post told (Goes base) e q h = (h, q, e)
resumed_answered config y answer desk post told (Ends ending) e q h = answered_fits config y answer ending post desk told e q h

-- a scan in the middle of a call, and one that is the call
abbrev waits : AfterScan → Bool
waits (Answered answer) = false
waits (Repeated task) = true
waits Counted = true

waiting_fits : (config : Config) (later : AfterScan) (y : ClockTally) → waits later ≡ true → y.due ≡ false → AfterFits config later y
waiting_fits config (Answered answer) y w f = absurd (cc)
waiting_fits config (Repeated task) y w f = f
waiting_fits config Counted y w f = f

waiting_move : (later : AfterScan) (clock : ClockMove) → waits later ≡ true → waits (steps.after_move later clock) ≡ true
waiting_move (Answered answer) clock w = absurd (cc)
waiting_move (Repeated task) clock w = refl
waiting_move Counted clock w = refl

waiting_later : (config : Config) (later : AfterScan) (y : ClockTally) → waits later ≡ true → y.due ≡ false → LaterFits config later y
waiting_later config (Answered answer) y w f = absurd (cc)
waiting_later config (Repeated task) y w f = f
waiting_later config Counted y w f = f

resumed_waiting : (config : Config) (y : ClockTally) (later : AfterScan) (desk : Desk) (post : Post) (told : List Event) (outcome : Outcome) → waits later ≡ true → y.due ≡ false → OutFits config (steps.resumed (Tidies later) desk post told outcome).outcome y
resumed_waiting config y later desk post told (Goes base) w f = waiting_later config later y w f
resumed_waiting config y later desk post told (Ends (Clocked clock)) w f = waiting_fits config (steps.after_move later clock) y (waiting_move later clock w) f
resumed_waiting config y later desk post told (Ends Done) w f = waiting_fits config later y w f
resumed_waiting config y later desk post told (Ends (Protected end)) w f = waiting_fits config later y w f
resumed_waiting config y later desk post told (Ends (Followed end)) w f = waiting_fits config later y w f
resumed_waiting config y later desk post told (Ends (Allocated end)) w f = waiting_fits config later y w f
resumed_waiting config y later desk post told (Ends (Retired life)) w f = waiting_fits config later y w f

resumed_tidies : (config : Config) (x y : ClockTally) (later : AfterScan) (desk : Desk) (post : Post) (told : List Event) (outcome : Outcome) → LaterFits config later x → y.due ≡ x.due → (MoveDue x → MoveOut config.last_era y outcome) → OutFits config (steps.resumed (Tidies later) desk post told outcome).outcome y
resumed_tidies config x y (Answered answer) desk post told outcome f e m = resumed_answered config y answer desk post told outcome f.2 f.1 (m f.0)
resumed_tidies config x y (Repeated task) desk post told outcome f e m = resumed_waiting config y (Repeated task) desk post told outcome refl (e ∙ f)
resumed_tidies config x y Counted desk post told outcome f e m = resumed_waiting config y Counted desk post told outcome refl (e ∙ f)

advanced_fits : (config : Config) (y : ClockTally) (ending : Ending) (post : Post) (desk : Desk) (told : List Event) → EndOut config.last_era y ending → OutFits config (steps.advanced ending post desk told).outcome y
advanced_fits config y (Clocked clock) post desk told h = h
advanced_fits config y Done post desk told h = tt
advanced_fits config y (Protected end) post desk told h = tt
advanced_fits config y (Followed end) post desk told h = tt
advanced_fits config y (Allocated end) post desk told h = tt
advanced_fits config y (Retired life) post desk told h = tt

resumed_advances : (config : Config) (y : ClockTally) (desk : Desk) (post : Post) (told : List Event) (outcome : Outcome) → MoveOut config.last_era y outcome → OutFits config (steps.resumed Advances desk post told outcome).outcome y
resumed_advances config y desk post told (Goes base) h = h
resumed_advances config y desk post told (Ends ending) h = advanced_fits config y ending post desk told h

tidies_lands : (every : ℕ) (x : ClockTally) (later : AfterScan) (base : Base) (post : Post) (desk : Desk) (found : ℕ) → suits base ToMove ≡ true → LaterFits post.layout.config later x
    → Lands every post.layout.config x (Runs (Tidies later) base) (base_front base found) (steps.run_turn (Tidies later) desk (machine.after base post found)).outcome
tidies_lands every x later (Move at) post desk found s f =
    let t = machine.after (Move at) post found in
    record { fits = resumed_tidies post.layout.config x (along (clock_by every) (move_front at found) x) later desk t.post t.told t.outcome f (move_due every at found x) (λ d. move_out every at post found x d); count = move_count every at found x }
tidies_lands every x later base post desk found s f = absurd (cc)

advances_lands : (every : ℕ) (x : ClockTally) (base : Base) (post : Post) (desk : Desk) (found : ℕ) → suits base ToMove ≡ true → MoveDue x
    → Lands every post.layout.config x (Runs Advances base) (base_front base found) (steps.run_turn Advances desk (machine.after base post found)).outcome
advances_lands every x (Move at) post desk found s d =
    let t = machine.after (Move at) post found in
    record { fits = resumed_advances post.layout.config (along (clock_by every) (move_front at found) x) desk t.post t.told t.outcome (move_out every at post found x d); count = move_count every at found x }
advances_lands every x base post desk found s d = absurd (cc)

run_lands : (x : ClockTally) (why : Why) (base : Base) (post : Post) (desk : Desk) (found : ℕ) → suits base (kind_of why) ≡ true → x.retired ≡ post.retired → WhyFits post.layout.config why x
    → Lands post.layout.config.every post.layout.config x (Runs why base) (base_front base found) (steps.run_turn why desk (machine.after base post found)).outcome
run_lands x (Opens task) base post desk found s r f =
    let t = machine.after base post found in calm_lands post.layout.config.every post.layout.config x (Opens task) base found _ s refl (resumed_opens post.layout.config task desk t.post t.told t.outcome x f)
run_lands x (FollowsHead head tail) base post desk found s r f =
    let t = machine.after base post found in calm_lands post.layout.config.every post.layout.config x (FollowsHead head tail) base found _ s refl (resumed_follows post.layout.config head tail desk t.post t.told t.outcome x f)
run_lands x (Fills task) base post desk found s r f =
    let t = machine.after base post found in calm_lands post.layout.config.every post.layout.config x (Fills task) base found _ s refl (resumed_fills post.layout.config task desk t.post t.told t.outcome x f)
run_lands x (ClearsNext next) base post desk found s r f =
    let t = machine.after base post found in calm_lands post.layout.config.every post.layout.config x (ClearsNext next) base found _ s refl (resumed_next post.layout.config next desk t.post t.told t.outcome x f)
run_lands x (Clears task next) base post desk found s r f =
    let t = machine.after base post found in calm_lands post.layout.config.every post.layout.config x (Clears task next) base found _ s refl (resumed_clears post.layout.config task next desk t.post t.told t.outcome x f)
run_lands x (Finishes task next) base post desk found s r f =
    let t = machine.after base post found in calm_lands post.layout.config.every post.layout.config x (Finishes task next) base found _ s refl (resumed_finishes post.layout.config task next desk t.post t.told t.outcome x f)
run_lands x (GivesUp answer) base post desk found s r f =
    let t = machine.after base post found in calm_lands post.layout.config.every post.layout.config x (GivesUp answer) base found _ s refl (resumed_gives post.layout.config answer desk t.post t.told t.outcome x f)
run_lands x (Releases let_go) base post desk found s r f =
    let t = machine.after base post found in calm_lands post.layout.config.every post.layout.config x (Releases let_go) base found _ s refl (resumed_releases post.layout.config let_go desk t.post t.told t.outcome x f)
run_lands x (Retires answer) base post desk found s r f = retires_lands x answer base post desk found s r f.0 f.1
run_lands x (Tidies later) base post desk found s r f = tidies_lands post.layout.config.every x later base post desk found s f
run_lands x Advances base post desk found s r f = advances_lands post.layout.config.every x base post desk found s f

-- a scan
scanned_fits : (config : Config) (later : AfterScan) (post : Post) (desk : Desk) (told : List Event) (c : ClockTally) → AfterFits config later c → OutFits config (scan.scanned later post desk told).outcome c
scanned_fits config (Answered answer) post desk told c f = f
scanned_fits config (Repeated task) post desk told c f = round_fits config task post c f
scanned_fits config Counted post desk told c f = refl

giving_fits : (config : Config) (later : AfterScan) (post : Post) (desk : Desk) (told : List Event) (x : Option scan.Entry) (c : ClockTally) → AfterFits config later c → OutFits config (scan.giving_back later post desk told x).outcome c
giving_fits config later post desk told None c f = scanned_fits config later post (scan.with_kept desk) told c f
giving_fits config later post desk told (Some entry) c f = f

reading_scan : (config : Config) (n : ℕ) (later : AfterScan) (post : Post) (desk : Desk) (told : List Event) (more : Bool) (c : ClockTally) → AfterFits config later c → OutFits config (scan.reading later n post desk told more).outcome c
reading_scan config n later post desk told true c f = f
reading_scan config n later post desk told false c f = giving_fits config later post desk told (scan.unmet_from desk 0) c f

scan_lands : (every : ℕ) (config : Config) (x : ClockTally) (later : AfterScan) (at : ScanAt) (post : Post) (desk : Desk) (found : ℕ) → AfterFits config later x → Lands every config x (Scans later at) (scan_told at post found) (scan.scan_turn later at post desk found).outcome
scan_lands every config x later (ReadGuard n) post desk found f =
    let rows : Bool = publishes_rows post.layout.config.scheme in
    let guard : Guard = guard_at post.layout.config n in
    let t : CallTurn = scan.scan_turn later (ReadGuard n) post desk found in
    let fits : OutFits config t.outcome x = reading_scan config n later post (scan.with_read desk n (guard, published rows guard found)) (scan.reads_guard rows guard found ∷ []) (nat_lt (n + 1) (guards post.layout.config)) x f in
    reads_are (λ (event : Event). Lands every config x (Scans later (ReadGuard n)) (event ∷ []) t.outcome) rows guard found (λ span. record { fits = fits; count = refl }) (λ slot. record { fits = fits; count = refl })
scan_lands every config x later (GiveBack place slot) post desk found f =
    record { fits = giving_fits config later post (scan.with_back desk place) (events.Back slot ∷ []) (scan.unmet_from (scan.with_back desk place) place) x f; count = refl }

pub turn_lands : (x : ClockTally) (phase : Phase) (post : Post) (desk : Desk) (found : ℕ) → PhaseRight phase post → x.retired ≡ post.retired → PhaseFits post.layout.config phase x
    → Lands post.layout.config.every post.layout.config x phase (front phase post found) (steps.phase_turn phase post desk found).outcome
turn_lands x Idle post desk found p r f = record { fits = tt; count = refl }
turn_lands x (Runs why base) post desk found p r f = run_lands x why base post desk found p.0 r f
turn_lands x (Scans later at) post desk found p r f = scan_lands post.layout.config.every post.layout.config x later at post desk found f
turn_lands x (Works work) post desk found p r f = record { fits = work_fits post.layout.config work post desk found x f; count = refl }

-- a call begins
pub first_fits : (config : Config) (retired : ℕ) (call : Call) (post : Post) → PhaseFits config (steps.first_phase call post) (record { retired = retired; due = is_advance call; moved = None })
first_fits config retired (names.Get key) post = round_fits config (Gets key) post _ refl
first_fits config retired (names.Put key value) post = round_fits config _ post _ refl
first_fits config retired (names.Remove key) post = round_fits config _ post _ refl
first_fits config retired (names.Enqueue value) post = round_fits config _ post _ refl
first_fits config retired names.Dequeue post = round_fits config Dequeues post _ refl
first_fits config retired (names.Hold key) post = held_fits (stands post 2)
  where
    held_fits : (x : Option ℕ) → PhaseFits config (steps.holding key post x) (record { retired = retired; due = false; moved = None })
    held_fits None = round_fits config (Holds key) post _ refl
    held_fits (Some slot) = letting_fits config (Rehold key) post _ refl
first_fits config retired names.Release post = letting_fits config Released post _ refl
first_fits config retired names.Advance post = record { due = refl; none = refl }
first_fits config retired names.Scan post = refl
first_fits config retired (names.Copy from index) post = copying_fits (stands post from)
  where
    copying_fits : (x : Option ℕ) → PhaseFits config (steps.copying from index x) (record { retired = retired; due = false; moved = None })
    copying_fits None = refl
    copying_fits (Some slot) = refl
first_fits config retired (names.DropIndex index) post = letting_fits config (Dropped index) post _ refl
first_fits config retired (names.Look index key) post = looked_fits (stands post index)
  where
    looked_fits : (x : Option ℕ) → PhaseFits config (steps.looking_at index key x) (record { retired = retired; due = false; moved = None })
    looked_fits None = refl
    looked_fits (Some slot) = refl
first_fits config retired names.Leave post = let c : ClockTally = record { retired = retired; due = false; moved = None } in parts_all (λ (phase : Phase). PhaseFits config phase c) (parts_fit config c refl) post
first_fits config retired (names.Adopt place) post = refl
first_fits config retired (names.PutIf key value version) post = round_fits config _ post _ refl
