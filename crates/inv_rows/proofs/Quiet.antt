-- Phases in which a call has found nothing of the queue, and the turns that lead to them.
use Rattle.std.proofs.Common.{◌&&◌, ℕ, ◌+◌, ◌%◌, ◌≡◌, Bool, true, false, refl, List, [], ◌∷◌, ◌++◌, length}
use Rattle.wfe_core.specs.words.Schemes.{has_one_interval, moves, publishes_rows}
use Rattle.wfe_core.specs.words.declared.config.SchemeKind.{SchemeKind}
use Rattle.wfe_core.specs.words.declared.config.SchemeKind.TheVariants.{He, Hp, Ibr, Wfe}
use Rattle.wfe_core.specs.defs.declared.event.Root.{Root}
use Rattle.wfe_core.specs.Phases.{BeginAt, ProtectAt, Base, Ending, Ending as endings}
use Rattle.wfe_core.specs.Phases.BeginAt.{LoadLower}
use Rattle.wfe_core.specs.Phases.ProtectAt.{LoadClock, PublishEra, LoadLink, CheckClock, PublishRequest, LoadOwnClock, PublishHelper, LoadOwnLink, CheckOwnClock, AnswerOwn, LoadAnswer, TakeAnswer, WithdrawRequest, WithdrawHelper, LoadWithin, CheckUpper, RaiseUpper, ByHazard}
use Rattle.wfe_core.specs.Phases.HazardAt.{FirstLink, PublishLink, CheckLink}
use Rattle.wfe_core.specs.Phases.Base.{Begin, Protect}
use Rattle.inv_rows.specs.Tries.{is_alone, is_tail, is_head}
use Rattle.std.specs.Prelude.{◌==◌, nat_lt, Option, Some, None, drop}
use Rattle.wfe_core.specs.defs.declared.call.Answer.{Answer}
use Rattle.wfe_core.specs.defs.declared.call.Answer.TheVariants as the_answers
use Rattle.wfe_core.specs.defs.declared.event.Event.TheVariants as events
use Rattle.wfe_core.specs.defs.declared.event.Event.{Event}
use Rattle.wfe_core.specs.defs.declared.lifetime.Interval.{Interval}
use Rattle.wfe_core.specs.declared.ends.AllocateEnd.{AllocateEnd}
use Rattle.wfe_core.specs.declared.ends.AllocateEnd.TheVariants as allocate_ends
use Rattle.wfe_core.specs.declared.post.Post.{Post}
use Rattle.wfe_core.specs.Desks.{Desk, with_life}
use Rattle.wfe_core.specs.Phases.Ending.{Done, Protected, Followed, Allocated, Clocked}
use Rattle.wfe_core.specs.Rounds as rounds
use Rattle.wfe_core.specs.Rounds.{scheme_of, taken_of, round, round_by, begin_base, begin_span, finish_base, clear_base, clear_post, clear_told, index_of, closed, given_up, finishing, finishing_by, clearing, clearing_by, clearing_next, clearing_next_by}
use Rattle.wfe_core.specs.Get as gets
use Rattle.wfe_core.specs.Change as alters
use Rattle.wfe_core.specs.Keep as keeps
use Rattle.wfe_core.specs.Posts.{cleared, stands, standing_from, withdrawn, publishes_index}
use Rattle.wfe_core.specs.Scan as scan
use Rattle.wfe_core.specs.Steps as steps
use Rattle.wfe_core.specs.Calls.{ChangeKept, Task, Gets, Changes, Holds, Enqueues, Dequeues, Next, Again, MakeRoom, Answering, Retiring, AfterScan, Answered, Repeated, Counted, Why, Opens, FollowsHead, Fills, ClearsNext, Clears, Finishes, GivesUp, Retires, Tidies, Advances, Releases, ScanAt, ReadGuard, GiveBack, GetAt, FindVersion, FindCount, FindKey, FindValue, ChangeAt, LoadVersion, LoadCount, LoadKey, LoadValue, ExchangeRoot, Work, Getting, Changing, Enqueuing, Dequeuing, Phase, Idle, Runs, Scans, Works, CallTurn, CallOutcome, GoesOn, LetGo, Released, Rehold, Dropped, Parting, KeepAt, Loosens, LoadHeld, StoreHeld, Looks, Misses, HideSpan, MarkLeft, TakeList, MarkTaken, Keeping}
use Rattle.wfe_core.specs.defs.declared.event.Guard.{Guard}
use Rattle.wfe_core.specs.Guards as the_guards
use Rattle.wfe_core.specs.Calls as calls
use Rattle.inv_rows.specs.Queue.{Line, Walks}
use Rattle.wfe_core.proofs.Facts.{if_by}
use Rattle.wfe_core.proofs.Schemes.{each_begin}

abbrev pub quiet_task : Task → Bool
quiet_task (Gets key) = true
quiet_task (Changes kept) = true
quiet_task (Holds key) = true
quiet_task (Enqueues kept) = false
quiet_task Dequeues = true

abbrev pub at_starts : ProtectAt → Bool
at_starts (LoadClock tries) = true
at_starts (PublishEra era tries) = false
at_starts (LoadLink era tries) = false
at_starts (CheckClock era tries link) = false
at_starts PublishRequest = false
at_starts LoadOwnClock = false
at_starts (PublishHelper first era last) = false
at_starts (LoadOwnLink first era last) = false
at_starts (CheckOwnClock first era last link) = false
at_starts (AnswerOwn first era link) = false
at_starts (LoadAnswer first) = false
at_starts (TakeAnswer link era) = false
at_starts (WithdrawRequest link era) = false
at_starts (WithdrawHelper link era) = false
at_starts LoadWithin = true
at_starts (CheckUpper link) = false
at_starts (RaiseUpper era) = false
at_starts (ByHazard FirstLink) = true
at_starts (ByHazard (PublishLink link)) = false
at_starts (ByHazard (CheckLink link)) = false

-- a protection of such a root begins
abbrev pub starts_by : (Root → Bool) → Base → Bool
starts_by wanted (Begin at) = true
starts_by wanted (Protect aim index root steps at) = is_alone aim && (wanted root && at_starts at)
starts_by wanted base = false

abbrev pub task_starts : Task → Base → Bool
task_starts (Gets key) base = true
task_starts (Changes kept) base = true
task_starts (Holds key) base = true
task_starts (Enqueues kept) base = starts_by is_tail base
task_starts Dequeues base = starts_by is_head base

abbrev pub quiet_why : Why → Base → Bool
quiet_why (Opens task) base = task_starts task base
quiet_why (FollowsHead head tail) base = false
quiet_why (Fills task) base = quiet_task task
quiet_why why base = true

abbrev pub quiet_work : Work → Bool
quiet_work (Getting key at) = true
quiet_work (Changing kept at) = true
quiet_work (Enqueuing kept at) = false
quiet_work (Dequeuing at) = false
quiet_work (Keeping at) = true

-- the phase has found nothing of the queue
abbrev pub is_quiet : Phase → Bool
is_quiet Idle = true
is_quiet (Runs why base) = quiet_why why base
is_quiet (Scans later at) = true
is_quiet (Works work) = quiet_work work

abbrev pub phase_of : CallOutcome → Phase
phase_of (GoesOn phase) = phase
phase_of (calls.Answers answer) = Idle

abbrev pub Quiet : CallTurn → Type 0
Quiet t = is_quiet (phase_of t.outcome) ≡ true

-- such a phase has nothing to keep
pub quiet_walks : (phase : Phase) (q : ℕ → Bool) (l : Line) (next : ℕ → ℕ) (head tail : ℕ) → is_quiet phase ≡ true → Walks phase q l next head tail
quiet_walks Idle q l next head tail h = record { stood = λ h e. cc; heads = λ h e k. cc; follows = λ h link e. cc; some = λ h link e. cc; leads = λ h e k. cc; blank = λ s e. cc; items = refl; loads = tt }
quiet_walks (Runs (Opens task) base) q l next head tail h = record { stood = λ h e. cc; heads = λ h e k. cc; follows = λ h link e. cc; some = λ h link e. cc; leads = λ h e k. cc; blank = λ s e. cc; items = refl; loads = tt }
quiet_walks (Runs (FollowsHead parent last) base) q l next head tail h = absurd (cc)
quiet_walks (Runs (ClearsNext after) base) q l next head tail h = record { stood = λ h e. cc; heads = λ h e k. cc; follows = λ h link e. cc; some = λ h link e. cc; leads = λ h e k. cc; blank = λ s e. cc; items = refl; loads = tt }
quiet_walks (Runs (Clears task after) base) q l next head tail h = record { stood = λ h e. cc; heads = λ h e k. cc; follows = λ h link e. cc; some = λ h link e. cc; leads = λ h e k. cc; blank = λ s e. cc; items = refl; loads = tt }
quiet_walks (Runs (Finishes task after) base) q l next head tail h = record { stood = λ h e. cc; heads = λ h e k. cc; follows = λ h link e. cc; some = λ h link e. cc; leads = λ h e k. cc; blank = λ s e. cc; items = refl; loads = tt }
quiet_walks (Runs (GivesUp answer) base) q l next head tail h = record { stood = λ h e. cc; heads = λ h e k. cc; follows = λ h link e. cc; some = λ h link e. cc; leads = λ h e k. cc; blank = λ s e. cc; items = refl; loads = tt }
quiet_walks (Runs (Retires answer) base) q l next head tail h = record { stood = λ h e. cc; heads = λ h e k. cc; follows = λ h link e. cc; some = λ h link e. cc; leads = λ h e k. cc; blank = λ s e. cc; items = refl; loads = tt }
quiet_walks (Runs (Tidies later) base) q l next head tail h = record { stood = λ h e. cc; heads = λ h e k. cc; follows = λ h link e. cc; some = λ h link e. cc; leads = λ h e k. cc; blank = λ s e. cc; items = refl; loads = tt }
quiet_walks (Runs Advances base) q l next head tail h = record { stood = λ h e. cc; heads = λ h e k. cc; follows = λ h link e. cc; some = λ h link e. cc; leads = λ h e k. cc; blank = λ s e. cc; items = refl; loads = tt }
quiet_walks (Runs (Releases let_go) base) q l next head tail h = record { stood = λ h e. cc; heads = λ h e k. cc; follows = λ h link e. cc; some = λ h link e. cc; leads = λ h e k. cc; blank = λ s e. cc; items = refl; loads = tt }
quiet_walks (Runs (Fills (Gets key)) base) q l next head tail h = record { stood = λ h e. cc; heads = λ h e k. cc; follows = λ h link e. cc; some = λ h link e. cc; leads = λ h e k. cc; blank = λ s e. cc; items = refl; loads = tt }
quiet_walks (Runs (Fills (Changes kept)) base) q l next head tail h = record { stood = λ h e. cc; heads = λ h e k. cc; follows = λ h link e. cc; some = λ h link e. cc; leads = λ h e k. cc; blank = λ s e. cc; items = refl; loads = tt }
quiet_walks (Runs (Fills (Holds key)) base) q l next head tail h = record { stood = λ h e. cc; heads = λ h e k. cc; follows = λ h link e. cc; some = λ h link e. cc; leads = λ h e k. cc; blank = λ s e. cc; items = refl; loads = tt }
quiet_walks (Runs (Fills (Enqueues kept)) base) q l next head tail h = absurd (cc)
quiet_walks (Runs (Fills Dequeues) base) q l next head tail h = record { stood = λ h e. cc; heads = λ h e k. cc; follows = λ h link e. cc; some = λ h link e. cc; leads = λ h e k. cc; blank = λ s e. cc; items = refl; loads = tt }
quiet_walks (Scans later at) q l next head tail h = record { stood = λ h e. cc; heads = λ h e k. cc; follows = λ h link e. cc; some = λ h link e. cc; leads = λ h e k. cc; blank = λ s e. cc; items = refl; loads = tt }
quiet_walks (Works (Getting key at)) q l next head tail h = record { stood = λ h e. cc; heads = λ h e k. cc; follows = λ h link e. cc; some = λ h link e. cc; leads = λ h e k. cc; blank = λ s e. cc; items = refl; loads = tt }
quiet_walks (Works (Changing kept at)) q l next head tail h = record { stood = λ h e. cc; heads = λ h e k. cc; follows = λ h link e. cc; some = λ h link e. cc; leads = λ h e k. cc; blank = λ s e. cc; items = refl; loads = tt }
quiet_walks (Works (Enqueuing kept at)) q l next head tail h = absurd (cc)
quiet_walks (Works (Dequeuing at)) q l next head tail h = absurd (cc)
quiet_walks (Works (Keeping at)) q l next head tail h = record { stood = λ h e. cc; heads = λ h e k. cc; follows = λ h link e. cc; some = λ h link e. cc; leads = λ h e k. cc; blank = λ s e. cc; items = refl; loads = tt }

starts_at : (scheme : SchemeKind) → at_starts (rounds.protect_at scheme) ≡ true
starts_at He = refl
starts_at Hp = refl
starts_at Ibr = refl
starts_at Wfe = refl

pub opening_quiet : (task : Task) (post : Post) → is_quiet (rounds.opening task post) ≡ true
opening_quiet (Gets key) post = refl
opening_quiet (Changes kept) post = refl
opening_quiet (Holds key) post = refl
opening_quiet (Enqueues kept) post = starts_at (scheme_of post)
opening_quiet Dequeues post = starts_at (scheme_of post)

begins_quiet : (task : Task) (at : BeginAt) → is_quiet (Runs (Opens task) (Begin at)) ≡ true
begins_quiet (Gets key) at = refl
begins_quiet (Changes kept) at = refl
begins_quiet (Holds key) at = refl
begins_quiet (Enqueues kept) at = refl
begins_quiet Dequeues at = refl

span_round : (task : Task) (post : Post) (x : Option Interval) → is_quiet (round_by task post (rounds.begin_span x)) ≡ true
span_round task post None = begins_quiet task LoadLower
span_round task post (Some span) = opening_quiet task post

scheme_round : (task : Task) (post : Post) (scheme : SchemeKind) → is_quiet (round_by task post (begin_base scheme post)) ≡ true
scheme_round task post scheme = each_begin scheme post (λ (base : Option Base). is_quiet (round_by task post base) ≡ true) (opening_quiet task post) (span_round task post post.span)

pub round_quiet : (task : Task) (post : Post) → is_quiet (round task post) ≡ true
round_quiet task post = scheme_round task post (scheme_of post)

-- a list is tidied: first the clock moves, or the scan comes at once
tidy_by_quiet : (moving : Bool) (later : AfterScan) (post : Post) → is_quiet (rounds.tidy_by moving later post) ≡ true
tidy_by_quiet true later post = refl
tidy_by_quiet false later post = refl

tidy_quiet : (later : AfterScan) (post : Post) → is_quiet (rounds.first_tidy later post) ≡ true
tidy_quiet later post = tidy_by_quiet (moves (scheme_of post)) later post

given_up_quiet : (answer : Answer) (post : Post) (desk : Desk) (told : List Event) (x : Option ℕ) → Quiet (given_up answer post desk told x)
given_up_quiet answer post desk told None = refl
given_up_quiet answer post desk told (Some slot) = refl

pub closed_quiet : (task : Task) (next : Next) (post : Post) (desk : Desk) (told : List Event) → Quiet (closed task next post desk told)
closed_quiet task Again post desk told = round_quiet task post
closed_quiet task MakeRoom post desk told = tidy_quiet (Repeated task) post
closed_quiet task (Answering answer) post desk told = given_up_quiet answer post desk told (taken_of task)
closed_quiet task (Retiring slot answer) post desk told = refl

finishing_by_quiet : (task : Task) (next : Next) (post : Post) (desk : Desk) (told : List Event) (x : Option Base) → Quiet (finishing_by task next post desk told x)
finishing_by_quiet task next post desk told None = closed_quiet task next post desk told
finishing_by_quiet task next post desk told (Some base) = refl

pub finishing_quiet : (task : Task) (next : Next) (post : Post) (desk : Desk) (told : List Event) → Quiet (finishing task next post desk told)
finishing_quiet task Again post desk told = closed_quiet task Again post desk told
finishing_quiet task MakeRoom post desk told = finishing_by_quiet task MakeRoom post desk told (finish_base (scheme_of post) post)
finishing_quiet task (Answering answer) post desk told = finishing_by_quiet task (Answering answer) post desk told (finish_base (scheme_of post) post)
finishing_quiet task (Retiring slot answer) post desk told = finishing_by_quiet task (Retiring slot answer) post desk told (finish_base (scheme_of post) post)

clearing_by_quiet : (task : Task) (next : Next) (post : Post) (desk : Desk) (told : List Event) (x : Option Base) → Quiet (clearing_by task next post desk told x)
clearing_by_quiet task next post desk told None = finishing_quiet task next (clear_post (scheme_of post) post (index_of task)) desk (told ++ clear_told (scheme_of post) post (index_of task))
clearing_by_quiet task next post desk told (Some base) = refl

pub clearing_quiet : (task : Task) (next : Next) (post : Post) (desk : Desk) (told : List Event) → Quiet (clearing task next post desk told)
clearing_quiet task next post desk told = clearing_by_quiet task next post desk told (clear_base (scheme_of post) (index_of task))

clearing_next_by_quiet : (next : Next) (post : Post) (desk : Desk) (told : List Event) (x : Option Base) → Quiet (clearing_next_by next post desk told x)
clearing_next_by_quiet next post desk told None = clearing_quiet Dequeues next (clear_post (scheme_of post) post 1) desk (told ++ clear_told (scheme_of post) post 1)
clearing_next_by_quiet next post desk told (Some base) = refl

pub clearing_next_quiet : (next : Next) (post : Post) (desk : Desk) (told : List Event) → Quiet (clearing_next next post desk told)
clearing_next_quiet next post desk told = clearing_next_by_quiet next post desk told (clear_base (scheme_of post) 1)

deciding_by_quiet : (kept : ChangeKept) (post : Post) (desk : Desk) (told : List Event) (x : Option Answer) → Quiet (alters.deciding_by kept post desk told x)
deciding_by_quiet kept post desk told (Some answer) = clearing_quiet (Changes kept) (Answering answer) post desk told
deciding_by_quiet kept post desk told None = refl

deciding_quiet : (kept : ChangeKept) (post : Post) (desk : Desk) (told : List Event) → Quiet (alters.deciding kept post desk told)
deciding_quiet kept post desk told = deciding_by_quiet kept post desk told (alters.refused post.layout.config kept)

got_quiet : (key version : ℕ) (value : Option ℕ) (post : Post) (desk : Desk) (told : List Event) → Quiet (gets.got key version value post desk told)
got_quiet key version value post desk told = clearing_quiet (Gets key) (Answering (the_answers.Got version value)) post desk (told ++ events.Got (rounds.bucket_of post key) version key value ∷ [])

finding_quiet : (key slot version count : ℕ) (post : Post) (desk : Desk) (more : Bool) (pair : ℕ) → Quiet (gets.finding key slot version count post desk more pair)
finding_quiet key slot version count post desk true pair = refl
finding_quiet key slot version count post desk false pair = got_quiet key version None post desk []

found_key_quiet : (key slot version count pair : ℕ) (post : Post) (desk : Desk) (own : Bool) → Quiet (gets.found_key key slot version count pair post desk own)
found_key_quiet key slot version count pair post desk true = refl
found_key_quiet key slot version count pair post desk false = finding_quiet key slot version count post desk (nat_lt (pair + 1) count) (pair + 1)

pub get_quiet : (key : ℕ) (at : GetAt) (post : Post) (desk : Desk) (found : ℕ) → Quiet (gets.get_turn key at post desk found)
get_quiet key (FindVersion slot) post desk found = refl
get_quiet key (FindCount slot version) post desk found = finding_quiet key slot version found post desk (nat_lt 0 found) 0
get_quiet key (FindKey slot version count pair) post desk found = found_key_quiet key slot version count pair post desk (found == key)
get_quiet key (FindValue slot version pair) post desk found = got_quiet key version (Some found) post desk []

reading_quiet : (kept : ChangeKept) (slot count : ℕ) (post : Post) (desk : Desk) (more : Bool) → Quiet (alters.reading kept slot count post desk more)
reading_quiet kept slot count post desk true = refl
reading_quiet kept slot count post desk false = deciding_quiet kept post desk []

exchanged_quiet : (kept : ChangeKept) (slot : ℕ) (post : Post) (desk : Desk) (same : Bool) → Quiet (alters.exchanged kept slot post desk same)
exchanged_quiet kept slot post desk true = clearing_quiet (Changes (record kept { taken = None })) (alters.answer_done (kept.version + 1) kept.link) post desk (alters.told_linked kept slot post)
exchanged_quiet kept slot post desk false = clearing_quiet (Changes kept) Again post desk []

pub change_quiet : (kept : ChangeKept) (at : ChangeAt) (post : Post) (desk : Desk) (found : ℕ) → Quiet (alters.change_turn kept at post desk found)
change_quiet kept (LoadVersion slot) post desk found = refl
change_quiet kept (LoadCount slot) post desk found = reading_quiet kept slot found post desk (nat_lt 0 found)
change_quiet kept (LoadKey slot count) post desk found = refl
change_quiet kept (LoadValue slot count key) post desk found = reading_quiet (alters.with_read kept key found) slot count post desk (nat_lt (length kept.pairs + 1) count)
change_quiet kept (ExchangeRoot slot) post desk found = exchanged_quiet kept slot post desk (found == kept.link)

scanned_quiet : (later : AfterScan) (post : Post) (desk : Desk) (told : List Event) → Quiet (scan.scanned later post desk told)
scanned_quiet (Answered answer) post desk told = refl
scanned_quiet (Repeated task) post desk told = round_quiet task post
scanned_quiet Counted post desk told = refl

giving_back_quiet : (later : AfterScan) (post : Post) (desk : Desk) (told : List Event) (x : Option scan.Entry) → Quiet (scan.giving_back later post desk told x)
giving_back_quiet later post desk told None = scanned_quiet later post (scan.with_kept desk) told
giving_back_quiet later post desk told (Some entry) = refl

read_more_quiet : (later : AfterScan) (number : ℕ) (post : Post) (desk : Desk) (told : List Event) (more : Bool) → Quiet (scan.reading later number post desk told more)
read_more_quiet later number post desk told true = refl
read_more_quiet later number post desk told false = giving_back_quiet later post desk told (scan.unmet_from desk 0)

read_quiet : (later : AfterScan) (number : ℕ) (post : Post) (desk : Desk) (rows : Bool) (guard : Guard) (word : ℕ) → Quiet (scan.read_guard later number post desk rows guard word)
read_quiet later number post desk rows guard word = read_more_quiet later number post (scan.with_read desk number (guard, the_guards.published rows guard word)) (scan.reads_guard rows guard word ∷ []) (nat_lt (number + 1) (the_guards.guards post.layout.config))

pub scan_quiet : (later : AfterScan) (at : ScanAt) (post : Post) (desk : Desk) (found : ℕ) → Quiet (scan.scan_turn later at post desk found)
scan_quiet later (ReadGuard number) post desk found = read_quiet later number post desk (publishes_rows (scheme_of post)) (the_guards.guard_at post.layout.config number) found
scan_quiet later (GiveBack place slot) post desk found = giving_back_quiet later post (scan.with_back desk place) (events.Back slot ∷ []) (scan.unmet_from (scan.with_back desk place) place)

pub opened_null_quiet : (task : Task) (post : Post) (desk : Desk) (told : List Event) → Quiet (steps.opened_null task post desk told)
opened_null_quiet (Gets key) post desk told = got_quiet key 0 None post desk told
opened_null_quiet (Changes kept) post desk told = deciding_quiet (alters.at_link kept 0) post desk told
opened_null_quiet (Holds key) post desk told = clearing_quiet (Holds key) (Answering the_answers.Nothing) post desk told
opened_null_quiet (Enqueues kept) post desk told = clearing_quiet (Enqueues kept) Again post desk told
opened_null_quiet Dequeues post desk told = clearing_quiet Dequeues Again post desk told

pub tidied_quiet : (later : AfterScan) (ending : Ending) (post : Post) (desk : Desk) (told : List Event) → Quiet (steps.tidied later ending post desk told)
tidied_quiet later (Clocked clock) post desk told = refl
tidied_quiet later (Protected end) post desk told = refl
tidied_quiet later Done post desk told = refl
tidied_quiet later (Followed end) post desk told = refl
tidied_quiet later (Allocated end) post desk told = refl
tidied_quiet later (endings.Retired life) post desk told = refl

pub advanced_quiet : (ending : Ending) (post : Post) (desk : Desk) (told : List Event) → Quiet (steps.advanced ending post desk told)
advanced_quiet (Clocked clock) post desk told = refl
advanced_quiet (Protected end) post desk told = refl
advanced_quiet Done post desk told = refl
advanced_quiet (Followed end) post desk told = refl
advanced_quiet (Allocated end) post desk told = refl
advanced_quiet (endings.Retired life) post desk told = refl

parting_by_quiet : (rows : Bool) (x : Option ℕ) → is_quiet (keeps.parting_index rows x) ≡ true
parting_by_quiet rows None = refl
parting_by_quiet rows (Some index) = refl

parting_from_quiet : (index : ℕ) (post : Post) → is_quiet (keeps.parting_from index post) ≡ true
parting_from_quiet index post = parting_by_quiet (publishes_rows (scheme_of post)) (standing_from index (drop index post.standing))

parting_span_quiet : (x : Option Interval) → is_quiet (keeps.parting_span x) ≡ true
parting_span_quiet None = refl
parting_span_quiet (Some span) = refl

pub parting_quiet : (post : Post) → is_quiet (keeps.parting post) ≡ true
parting_quiet post = if_by (has_one_interval (scheme_of post)) (keeps.parting_span post.span) (keeps.parting_from 2 post) (λ phase. is_quiet phase ≡ true) (λ e. parting_span_quiet post.span) (λ e. parting_from_quiet 2 post)

pub released_quiet : (let_go : LetGo) (post : Post) (desk : Desk) (told : List Event) → Quiet (keeps.released let_go post desk told)
released_quiet Released post desk told = refl
released_quiet (Rehold key) post desk told = round_quiet (Holds key) post
released_quiet (Dropped index) post desk told = refl
released_quiet (Parting index) post desk told = parting_from_quiet (index + 1) post

copied_quiet : (from index : ℕ) (post : Post) (desk : Desk) (reserved : List Event) (x : Option ℕ) → Quiet (keeps.copied from index post desk reserved x)
copied_quiet from index post desk reserved None = refl
copied_quiet from index post desk reserved (Some slot) = refl

load_held_quiet : (from index : ℕ) (post : Post) (desk : Desk) (found : ℕ) (one : Bool) → Quiet (keeps.load_held from index post desk found one)
load_held_quiet from index post desk found true = copied_quiet from index post desk [] (stands post from)
load_held_quiet from index post desk found false = refl

looking_quiet : (index key slot version count : ℕ) (post : Post) (desk : Desk) (more : Bool) (pair : ℕ) → Quiet (keeps.looking index key slot version count post desk more pair)
looking_quiet index key slot version count post desk true pair = refl
looking_quiet index key slot version count post desk false pair = refl

looked_key_quiet : (index key slot version count pair : ℕ) (post : Post) (desk : Desk) (own : Bool) → Quiet (keeps.looked_key index key slot version count pair post desk own)
looked_key_quiet index key slot version count pair post desk true = refl
looked_key_quiet index key slot version count pair post desk false = looking_quiet index key slot version count post desk (nat_lt (pair + 1) count) (pair + 1)

look_quiet : (index key : ℕ) (at : GetAt) (post : Post) (desk : Desk) (found : ℕ) → Quiet (keeps.look_turn index key at post desk found)
look_quiet index key (FindVersion slot) post desk found = refl
look_quiet index key (FindCount slot version) post desk found = looking_quiet index key slot version found post desk (nat_lt 0 found) 0
look_quiet index key (FindKey slot version count pair) post desk found = looked_key_quiet index key slot version count pair post desk (found == key)
look_quiet index key (FindValue slot version pair) post desk found = refl

taking_quiet : (place : ℕ) (post : Post) (desk : Desk) (left : Bool) (found : ℕ) → Quiet (keeps.taking place post desk left found)
taking_quiet place post desk true found = refl
taking_quiet place post desk false found = refl

pub keep_quiet : (at : KeepAt) (post : Post) (desk : Desk) (found : ℕ) → Quiet (keeps.keep_turn at post desk found)
keep_quiet (Loosens let_go) post desk found =
    released_quiet let_go (withdrawn post (rounds.let_index let_go)) desk (cleared (rounds.let_index let_go) (stands post (rounds.let_index let_go)))
keep_quiet (LoadHeld from index) post desk found = load_held_quiet from index post desk found (has_one_interval (scheme_of post))
keep_quiet (StoreHeld from index era) post desk found = copied_quiet from index post desk (publishes_index (publishes_rows (scheme_of post)) post index era) (stands post from)
keep_quiet (Looks index key at) post desk found = look_quiet index key at post desk found
keep_quiet (Misses index) post desk found = refl
keep_quiet HideSpan post desk found = refl
keep_quiet MarkLeft post desk found = refl
keep_quiet (TakeList place) post desk found = taking_quiet place post desk (found == 1) found
keep_quiet (MarkTaken place count) post desk found = refl

tidying_quiet : (answer : Answer) (post : Post) (desk : Desk) (told : List Event) (due : Bool) → Quiet (steps.tidying answer post desk told due)
tidying_quiet answer post desk told true = tidy_quiet (Answered answer) post
tidying_quiet answer post desk told false = refl

pub retired_quiet : (answer : Answer) (ending : Ending) (post : Post) (desk : Desk) (told : List Event) → Quiet (steps.retired_by answer ending post desk told)
retired_quiet answer (endings.Retired life) post desk told = tidying_quiet answer post (with_life desk life) told (post.retired % post.layout.config.every == 0)
retired_quiet answer (Clocked clock) post desk told = refl
retired_quiet answer (Protected end) post desk told = refl
retired_quiet answer Done post desk told = refl
retired_quiet answer (Followed end) post desk told = refl
retired_quiet answer (Allocated end) post desk told = refl

filled_by_quiet : (kept : ChangeKept) (ending : AllocateEnd) (post : Post) (desk : Desk) (told : List Event) → Quiet (steps.filled_by (Changes kept) ending post desk told)
filled_by_quiet kept (allocate_ends.Given slot birth) post desk told = refl
filled_by_quiet kept allocate_ends.Full post desk told = clearing_quiet (Changes (alters.with_walked kept)) (alters.no_room kept.walked) post desk told

change_filled_quiet : (kept : ChangeKept) (ending : Ending) (post : Post) (desk : Desk) (told : List Event) → Quiet (steps.filled (Changes kept) ending post desk told)
change_filled_quiet kept (Allocated ending) post desk told = filled_by_quiet kept ending post desk told
change_filled_quiet kept (endings.Retired life) post desk told = refl
change_filled_quiet kept (Clocked clock) post desk told = refl
change_filled_quiet kept (Protected end) post desk told = refl
change_filled_quiet kept Done post desk told = refl
change_filled_quiet kept (Followed end) post desk told = refl

gets_alloc : (key : ℕ) (ending : AllocateEnd) (post : Post) (desk : Desk) (told : List Event) → Quiet (steps.filled_by (Gets key) ending post desk told)
gets_alloc key (allocate_ends.Given slot birth) post desk told = closed_quiet (Gets key) Again post desk told
gets_alloc key allocate_ends.Full post desk told = closed_quiet (Gets key) Again post desk told

gets_filled : (key : ℕ) (ending : Ending) (post : Post) (desk : Desk) (told : List Event) → Quiet (steps.filled (Gets key) ending post desk told)
gets_filled key (Allocated ending) post desk told = gets_alloc key ending post desk told
gets_filled key (endings.Retired life) post desk told = closed_quiet (Gets key) Again post desk told
gets_filled key (Clocked clock) post desk told = closed_quiet (Gets key) Again post desk told
gets_filled key (Protected end) post desk told = closed_quiet (Gets key) Again post desk told
gets_filled key Done post desk told = closed_quiet (Gets key) Again post desk told
gets_filled key (Followed end) post desk told = closed_quiet (Gets key) Again post desk told

holds_alloc : (key : ℕ) (ending : AllocateEnd) (post : Post) (desk : Desk) (told : List Event) → Quiet (steps.filled_by (Holds key) ending post desk told)
holds_alloc key (allocate_ends.Given slot birth) post desk told = closed_quiet (Holds key) Again post desk told
holds_alloc key allocate_ends.Full post desk told = closed_quiet (Holds key) Again post desk told

holds_filled : (key : ℕ) (ending : Ending) (post : Post) (desk : Desk) (told : List Event) → Quiet (steps.filled (Holds key) ending post desk told)
holds_filled key (Allocated ending) post desk told = holds_alloc key ending post desk told
holds_filled key (endings.Retired life) post desk told = closed_quiet (Holds key) Again post desk told
holds_filled key (Clocked clock) post desk told = closed_quiet (Holds key) Again post desk told
holds_filled key (Protected end) post desk told = closed_quiet (Holds key) Again post desk told
holds_filled key Done post desk told = closed_quiet (Holds key) Again post desk told
holds_filled key (Followed end) post desk told = closed_quiet (Holds key) Again post desk told

dequeues_alloc : (ending : AllocateEnd) (post : Post) (desk : Desk) (told : List Event) → Quiet (steps.filled_by Dequeues ending post desk told)
dequeues_alloc (allocate_ends.Given slot birth) post desk told = closed_quiet Dequeues Again post desk told
dequeues_alloc allocate_ends.Full post desk told = closed_quiet Dequeues Again post desk told

dequeues_filled : (ending : Ending) (post : Post) (desk : Desk) (told : List Event) → Quiet (steps.filled Dequeues ending post desk told)
dequeues_filled (Allocated ending) post desk told = dequeues_alloc ending post desk told
dequeues_filled (endings.Retired life) post desk told = closed_quiet Dequeues Again post desk told
dequeues_filled (Clocked clock) post desk told = closed_quiet Dequeues Again post desk told
dequeues_filled (Protected end) post desk told = closed_quiet Dequeues Again post desk told
dequeues_filled Done post desk told = closed_quiet Dequeues Again post desk told
dequeues_filled (Followed end) post desk told = closed_quiet Dequeues Again post desk told

pub filled_quiet : (task : Task) (ending : Ending) (post : Post) (desk : Desk) (told : List Event) → quiet_task task ≡ true → Quiet (steps.filled task ending post desk told)
filled_quiet (Changes kept) ending post desk told h = change_filled_quiet kept ending post desk told
filled_quiet (Enqueues kept) ending post desk told h = absurd (cc)
filled_quiet (Gets key) ending post desk told h = gets_filled key ending post desk told
filled_quiet (Holds key) ending post desk told h = holds_filled key ending post desk told
filled_quiet Dequeues ending post desk told h = dequeues_filled ending post desk told
