-- Under 2GE a seat whose round is over has no interval, unless a row stands at an index of it from 2 on.
use Rattle.std.proofs.Common.{ℕ, ◌≡◌, ◌≤◌, ◌<◌, subst, arith, ◌-◌, ◌+◌, ◌%◌, Bool, true, false, List, [], ◌∷◌, ◌++◌, length, Option, Some, None, refl, ap, drop}
use Rattle.std.specs.Prelude.{◌==◌, is_some, nat_lt, if◌then◌else◌}
use Rattle.law_scans.specs.inv.model.words.declared.config.SchemeKind.{SchemeKind}
use Rattle.law_scans.specs.inv.model.words.declared.config.SchemeKind.TheVariants.{He, Hp, Ibr, Wfe}
use Rattle.law_scans.specs.inv.model.defs.declared.call.Answer.{Answer}
use Rattle.law_scans.specs.inv.model.defs.declared.call.Answer.TheVariants as the_answers
use Rattle.law_scans.specs.inv.model.defs.declared.call.Call.{Call}
use Rattle.law_scans.specs.inv.model.defs.declared.call.Call.TheVariants as names
use Rattle.law_scans.specs.inv.model.defs.declared.call.ClockMove.TheVariants as moves
use Rattle.law_scans.specs.inv.model.defs.declared.event.Event.{Event}
use Rattle.law_scans.specs.inv.model.defs.declared.event.Event.TheVariants as events
use Rattle.law_scans.specs.inv.model.defs.declared.event.Root.TheVariants as roots
use Rattle.law_scans.specs.inv.model.declared.ends.AllocateEnd.{AllocateEnd}
use Rattle.law_scans.specs.inv.model.declared.ends.AllocateEnd.TheVariants as allocate_ends
use Rattle.law_scans.specs.inv.model.declared.ends.FollowEnd.{FollowEnd}
use Rattle.law_scans.specs.inv.model.declared.ends.FollowEnd.TheVariants as follow_ends
use Rattle.law_scans.specs.inv.model.declared.ends.ProtectEnd.TheVariants as protect_ends
use Rattle.law_scans.specs.inv.model.declared.post.Post.{Post}
use Rattle.law_scans.specs.inv.model.Change as alters
use Rattle.law_scans.specs.inv.model.Dequeue as dequeues
use Rattle.law_scans.specs.inv.model.Desks.{Desk, with_life}
use Rattle.law_scans.specs.inv.model.Enqueue as enqueues
use Rattle.law_scans.specs.inv.model.Get as gets
use Rattle.law_scans.specs.inv.model.Guards.{guards, guard_at, published}
use Rattle.law_scans.specs.inv.model.Keep as keeps
use Rattle.law_scans.specs.inv.model.Posts.{cleared, publishes_index, stands, with_row, withdrawn, standing_from}
use Rattle.law_scans.proofs.inv.model.Standing.{none_kept, stands-with_row_same}
use Rattle.law_scans.specs.inv.model.words.Schemes.{has_one_interval, publishes_rows}
use Rattle.law_scans.specs.inv.model.words.declared.config.Config.{Config}
use Rattle.law_scans.specs.inv.model.Rounds.{scheme_of, bucket_of, index_of, taken_of, begin_base, kept_row, let_index, letting, letting_by, release_base, clear_base, clear_post, clear_told, finish_base, finish_span, round_by, round, given_up, closed, finishing_by, finishing, clearing_by, clearing, clearing_next_by, clearing_next}
use Rattle.law_scans.specs.inv.model.Scan as scan
use Rattle.law_scans.specs.inv.model.Steps as steps
use Rattle.law_scans.specs.inv.model.Phases.{Base, Ending, Outcome, Goes, Ends}
use Rattle.law_scans.specs.inv.model.Phases.Ending.{Done, Protected, Followed, Allocated, Retired, Clocked}
use Rattle.law_scans.specs.inv.model.Calls.{Task, Gets, Changes, Holds, Enqueues, Dequeues, Next, Again, MakeRoom, Answering, Retiring, AfterScan, Answered, Repeated, Counted, ChangeKept, EnqueueKept, GetAt, FindVersion, FindCount, FindKey, FindValue, ChangeAt, LoadVersion, LoadCount, LoadKey, LoadValue, ExchangeRoot, EnqueueAt, LoadNumber, LoadNext, PassTail, ExchangeNext, ExchangeTail, DequeueAt, SwingTail, ExchangeHead, Work, Getting, Changing, Enqueuing, Dequeuing, Keeping, KeepAt, Loosens, LoadHeld, StoreHeld, Looks, Misses, HideSpan, MarkLeft, TakeList, MarkTaken, LetGo, Released, Rehold, Dropped, Parting, ScanAt, ReadGuard, GiveBack, Why, Opens, FollowsHead, Fills, ClearsNext, Clears, Finishes, GivesUp, Retires, Tidies, Advances, Releases, Phase, Idle, Runs, Scans, Works, CallTurn}
use Rattle.law_scans.specs.inv.model.words.Schemes.{is_ibr}
use Rattle.law_scans.specs.inv.shapes.Frame.{KeepFits, WorkFits, phase_left}
use Rattle.law_scans.specs.inv.shapes.Slots.{KeepIn, WorkIn}
use Rattle.law_scans.proofs.Turns.Counting.Fits.{is_hold}
use Rattle.law_scans.specs.inv.model.defs.declared.lifetime.Interval.{Interval}

-- under 2GE no interval stands where no row is kept
abbrev pub Ended : Post → Type 0
Ended post = is_ibr (scheme_of post) ≡ true → kept_row post ≡ None → post.span ≡ None

-- no round is under way
abbrev pub over_why : Why → Bool
over_why (Opens task) = false
over_why (FollowsHead head tail) = false
over_why (Fills task) = false
over_why (ClearsNext next) = false
over_why (Clears task next) = false
over_why (Finishes task next) = false
over_why (GivesUp answer) = true
over_why (Retires answer) = true
over_why (Tidies later) = true
over_why Advances = true
over_why (Releases let_go) = false

abbrev pub over_work : Work → Bool
over_work (Keeping at) = true
over_work work = false

abbrev pub over : Phase → Bool
over Idle = true
over (Runs why base) = over_why why
over (Scans later at) = true
over (Works work) = over_work work

abbrev pub Spent : Post → Phase → Type 0
Spent post phase = over phase ≡ true → Ended post

abbrev pub Turned : CallTurn → Type 0
Turned t = Spent t.post (phase_left t.outcome)

inner : (phase : Phase) (post : Post) → over phase ≡ false → Spent post phase
inner phase post e = λ o. absurd (cc)

held_ended : (post : Post) (slot : ℕ) → kept_row post ≡ Some slot → Ended post
held_ended post slot e = λ b n. absurd (cc)

kept_ended : (post : Post) → is_some (kept_row post) ≡ true → Ended post
kept_ended post e = λ b n. let none : false ≡ true = subst (λ (x : Option ℕ). is_some x ≡ true) n e in absurd (cc)

-- a row comes to stand at an index from 2 on
pub put_ended : (post : Post) (index slot : ℕ) → 2 ≤ index → index < length post.standing → Ended (with_row post index slot)
put_ended post index slot low few = λ b n.
    let none : stands (with_row post index slot) index ≡ None = none_kept (with_row post index slot) index n low in
    let some : stands (with_row post index slot) index ≡ Some slot = stands-with_row_same post index slot few in absurd (cc)

pub plain_ended : (post : Post) → is_ibr (scheme_of post) ≡ false → Ended post
plain_ended post e = λ b n. absurd (cc)

-- a round begins
round_inner : (task : Task) (post : Post) (x : Option Base) → over (round_by task post x) ≡ false
round_inner task post None = refl
round_inner task post (Some base) = refl

pub round_spent : (task : Task) (post : Post) → Spent post (round task post)
round_spent task post = inner (round task post) post (round_inner task post (begin_base (scheme_of post) post))

-- a round ends
given_up_spent : (answer : Answer) (post : Post) (desk : Desk) (told : List Event) (o : Option ℕ) → Ended post → Turned (given_up answer post desk told o)
given_up_spent answer post desk told None h = λ o. h
given_up_spent answer post desk told (Some slot) h = λ o. h

closed_spent : (task : Task) (next : Next) (post : Post) (desk : Desk) (told : List Event) → Ended post → Turned (closed task next post desk told)
closed_spent task Again post desk told h = round_spent task post
closed_spent task MakeRoom post desk told h = λ o. h
closed_spent task (Answering answer) post desk told h = given_up_spent answer post desk told (taken_of task) h
closed_spent task (Retiring slot answer) post desk told h = λ o. h

finish_spent : (task : Task) (next : Next) (post : Post) (desk : Desk) (told : List Event) (x : Option ℕ) → kept_row post ≡ x → Turned (finishing_by task next post desk told (finish_span x))
finish_spent task next post desk told None e = λ o. absurd (cc)
finish_spent task next post desk told (Some slot) e = closed_spent task next post desk told (held_ended post slot e)

finishing_by_spent : (task : Task) (next : Next) (post : Post) (desk : Desk) (told : List Event) (scheme : SchemeKind) → scheme_of post ≡ scheme → Turned (finishing_by task next post desk told (finish_base scheme post))
finishing_by_spent task next post desk told He e = closed_spent task next post desk told (plain_ended post (ap is_ibr e))
finishing_by_spent task next post desk told Ibr e = finish_spent task next post desk told (kept_row post) refl
finishing_by_spent task next post desk told Hp e = closed_spent task next post desk told (plain_ended post (ap is_ibr e))
finishing_by_spent task next post desk told Wfe e = closed_spent task next post desk told (plain_ended post (ap is_ibr e))

finishing_spent : (task : Task) (next : Next) (post : Post) (desk : Desk) (told : List Event) → Turned (finishing task next post desk told)
finishing_spent task Again post desk told = round_spent task post
finishing_spent task MakeRoom post desk told = finishing_by_spent task MakeRoom post desk told (scheme_of post) refl
finishing_spent task (Answering answer) post desk told = finishing_by_spent task (Answering answer) post desk told (scheme_of post) refl
finishing_spent task (Retiring slot answer) post desk told = finishing_by_spent task (Retiring slot answer) post desk told (scheme_of post) refl

clearing_by_spent : (task : Task) (next : Next) (post : Post) (desk : Desk) (told : List Event) (x : Option Base) → Turned (clearing_by task next post desk told x)
clearing_by_spent task next post desk told None = finishing_spent task next (clear_post (scheme_of post) post (index_of task)) desk (told ++ clear_told (scheme_of post) post (index_of task))
clearing_by_spent task next post desk told (Some base) = λ o. absurd (cc)

clearing_spent : (task : Task) (next : Next) (post : Post) (desk : Desk) (told : List Event) → Turned (clearing task next post desk told)
clearing_spent task next post desk told = clearing_by_spent task next post desk told (clear_base (scheme_of post) (index_of task))

clearing_next_by_spent : (next : Next) (post : Post) (desk : Desk) (told : List Event) (x : Option Base) → Turned (clearing_next_by next post desk told x)
clearing_next_by_spent next post desk told None = clearing_spent Dequeues next (clear_post (scheme_of post) post 1) desk (told ++ clear_told (scheme_of post) post 1)
clearing_next_by_spent next post desk told (Some base) = λ o. absurd (cc)

clearing_next_spent : (next : Next) (post : Post) (desk : Desk) (told : List Event) → Turned (clearing_next next post desk told)
clearing_next_spent next post desk told = clearing_next_by_spent next post desk told (clear_base (scheme_of post) 1)

-- the steps of a call's own
got_spent : (key version : ℕ) (value : Option ℕ) (post : Post) (desk : Desk) (told : List Event) → Turned (gets.got key version value post desk told)
got_spent key version value post desk told = clearing_spent (Gets key) (Answering (the_answers.Got version value)) post desk (told ++ events.Got (bucket_of post key) version key value ∷ [])

finding_spent : (key slot version count : ℕ) (post : Post) (desk : Desk) (more : Bool) (pair : ℕ) → Turned (gets.finding key slot version count post desk more pair)
finding_spent key slot version count post desk true pair = λ o. absurd (cc)
finding_spent key slot version count post desk false pair = got_spent key version None post desk []

found_key_spent : (key slot version count pair : ℕ) (post : Post) (desk : Desk) (same : Bool) → Turned (gets.found_key key slot version count pair post desk same)
found_key_spent key slot version count pair post desk true = λ o. absurd (cc)
found_key_spent key slot version count pair post desk false = finding_spent key slot version count post desk (nat_lt (pair + 1) count) (pair + 1)

get_spent : (key : ℕ) (at : GetAt) (post : Post) (desk : Desk) (found : ℕ) → Turned (gets.get_turn key at post desk found)
get_spent key (FindVersion slot) post desk found = λ o. absurd (cc)
get_spent key (FindCount slot version) post desk found = finding_spent key slot version found post desk (nat_lt 0 found) 0
get_spent key (FindKey slot version count pair) post desk found = found_key_spent key slot version count pair post desk (found == key)
get_spent key (FindValue slot version pair) post desk found = got_spent key version (Some found) post desk []

deciding_by_spent : (kept : ChangeKept) (post : Post) (desk : Desk) (told : List Event) (o : Option Answer) → Turned (alters.deciding_by kept post desk told o)
deciding_by_spent kept post desk told (Some answer) = clearing_spent (Changes kept) (Answering answer) post desk told
deciding_by_spent kept post desk told None = λ o. absurd (cc)

deciding_spent : (kept : ChangeKept) (post : Post) (desk : Desk) (told : List Event) → Turned (alters.deciding kept post desk told)
deciding_spent kept post desk told = deciding_by_spent kept post desk told (alters.refused post.layout.config kept)

reading_spent : (kept : ChangeKept) (slot count : ℕ) (post : Post) (desk : Desk) (more : Bool) → Turned (alters.reading kept slot count post desk more)
reading_spent kept slot count post desk true = λ o. absurd (cc)
reading_spent kept slot count post desk false = deciding_spent kept post desk []

exchanged_spent : (kept : ChangeKept) (slot : ℕ) (post : Post) (desk : Desk) (same : Bool) → Turned (alters.exchanged kept slot post desk same)
exchanged_spent kept slot post desk true = clearing_spent (Changes (record kept { taken = None })) (alters.answer_done (kept.version + 1) kept.link) post desk (alters.told_linked kept slot post)
exchanged_spent kept slot post desk false = clearing_spent (Changes kept) Again post desk []

change_spent : (kept : ChangeKept) (at : ChangeAt) (post : Post) (desk : Desk) (found : ℕ) → Turned (alters.change_turn kept at post desk found)
change_spent kept (LoadVersion slot) post desk found = λ o. absurd (cc)
change_spent kept (LoadCount slot) post desk found = reading_spent kept slot found post desk (nat_lt 0 found)
change_spent kept (LoadKey slot count) post desk found = λ o. absurd (cc)
change_spent kept (LoadValue slot count key) post desk found = reading_spent (alters.with_read kept key found) slot count post desk (nat_lt (length kept.pairs + 1) count)
change_spent kept (ExchangeRoot slot) post desk found = exchanged_spent kept slot post desk (found == kept.link)

appending_spent : (kept : EnqueueKept) (post : Post) (desk : Desk) (spent : Bool) → Turned (enqueues.appending kept post desk spent)
appending_spent kept post desk true = clearing_spent (Enqueues kept) (Answering (the_answers.Spent kept.number)) post desk []
appending_spent kept post desk false = λ o. absurd (cc)

at_next_spent : (kept : EnqueueKept) (next : ℕ) (post : Post) (desk : Desk) (none : Bool) → Turned (enqueues.at_next kept next post desk none)
at_next_spent kept next post desk true = appending_spent kept post desk (kept.number == post.layout.config.last_version)
at_next_spent kept next post desk false = λ o. absurd (cc)

appended_spent : (kept : EnqueueKept) (slot : ℕ) (post : Post) (desk : Desk) (same : Bool) → Turned (enqueues.appended kept slot post desk same)
appended_spent kept slot post desk true = λ o. absurd (cc)
appended_spent kept slot post desk false = clearing_spent (Enqueues kept) Again post desk []

enqueue_spent : (kept : EnqueueKept) (at : EnqueueAt) (post : Post) (desk : Desk) (found : ℕ) → Turned (enqueues.enqueue_turn kept at post desk found)
enqueue_spent kept LoadNumber post desk found = λ o. absurd (cc)
enqueue_spent kept LoadNext post desk found = at_next_spent kept found post desk (found == 0)
enqueue_spent kept (PassTail next) post desk found = clearing_spent (Enqueues kept) Again post desk (enqueues.told_link roots.Tail (next - 1) (found == kept.tail + 1))
enqueue_spent kept (ExchangeNext slot) post desk found = appended_spent kept slot post desk (found == 0)
enqueue_spent kept (ExchangeTail slot) post desk found = clearing_spent (Enqueues kept) (Answering (the_answers.Queued (kept.number + 1))) post desk (enqueues.told_link roots.Tail slot (found == kept.tail + 1))

taken_spent : (head next number value : ℕ) (post : Post) (desk : Desk) (same : Bool) → Turned (dequeues.taken head next number value post desk same)
taken_spent head next number value post desk true = clearing_next_spent (Retiring head (the_answers.Taken number value moves.Still)) post desk (events.Link roots.Head next ∷ events.Cut head ∷ events.Taken number value ∷ [])
taken_spent head next number value post desk false = clearing_next_spent Again post desk []

dequeue_spent : (at : DequeueAt) (post : Post) (desk : Desk) (found : ℕ) → Turned (dequeues.dequeue_turn at post desk found)
dequeue_spent (SwingTail head next) post desk found = clearing_next_spent Again post desk (enqueues.told_link roots.Tail next (found == head + 1))
dequeue_spent (ExchangeHead head next number value) post desk found = taken_spent head next number value post desk (found == head + 1)
dequeue_spent at post desk found = λ o. absurd (cc)

-- something is let go, copied or looked at
parting_spent : (post : Post) (rows : Bool) (x : Option ℕ) → Ended post → Spent post (keeps.parting_index rows x)
parting_spent post rows None h = λ o. h
parting_spent post rows (Some index) h = λ o. absurd (cc)

released_spent : (let_go : LetGo) (post : Post) (desk : Desk) (told : List Event) → Ended post → Turned (keeps.released let_go post desk told)
released_spent Released post desk told h = λ o. h
released_spent (Rehold key) post desk told h = round_spent (Holds key) post
released_spent (Dropped index) post desk told h = λ o. h
released_spent (Parting index) post desk told h = parting_spent post (publishes_rows (scheme_of post)) (standing_from (index + 1) (drop (index + 1) post.standing)) h

copied_spent : (from index : ℕ) (post : Post) (desk : Desk) (reserved : List Event) (x : Option ℕ) → 2 ≤ index → index < length post.standing → Ended post → Turned (keeps.copied from index post desk reserved x)
copied_spent from index post desk reserved None low few h = λ o. h
copied_spent from index post desk reserved (Some slot) low few h = λ o. put_ended post index slot low few

load_spent : (from index : ℕ) (post : Post) (desk : Desk) (found : ℕ) (one : Bool) → 2 ≤ index → index < length post.standing → Ended post → Turned (keeps.load_held from index post desk found one)
load_spent from index post desk found true low few h = copied_spent from index post desk [] (stands post from) low few h
load_spent from index post desk found false low few h = λ o. h

looking_spent : (index key slot version count : ℕ) (post : Post) (desk : Desk) (more : Bool) (pair : ℕ) → Ended post → Turned (keeps.looking index key slot version count post desk more pair)
looking_spent index key slot version count post desk true pair h = λ o. h
looking_spent index key slot version count post desk false pair h = λ o. h

looked_key_spent : (index key slot version count pair : ℕ) (post : Post) (desk : Desk) (own : Bool) → Ended post → Turned (keeps.looked_key index key slot version count pair post desk own)
looked_key_spent index key slot version count pair post desk true h = λ o. h
looked_key_spent index key slot version count pair post desk false h = looking_spent index key slot version count post desk (nat_lt (pair + 1) count) (pair + 1) h

look_spent : (index key : ℕ) (at : GetAt) (post : Post) (desk : Desk) (found : ℕ) → Ended post → Turned (keeps.look_turn index key at post desk found)
look_spent index key (FindVersion slot) post desk found h = λ o. h
look_spent index key (FindCount slot version) post desk found h = looking_spent index key slot version found post desk (nat_lt 0 found) 0 h
look_spent index key (FindKey slot version count pair) post desk found h = looked_key_spent index key slot version count pair post desk (found == key) h
look_spent index key (FindValue slot version pair) post desk found h = λ o. h

taking_spent : (place : ℕ) (post : Post) (desk : Desk) (left : Bool) (found : ℕ) → Ended post → Turned (keeps.taking place post desk left found)
taking_spent place post desk true found h = λ o. h
taking_spent place post desk false found h = λ o. h

keep_spent : (config : Config) (at : KeepAt) (post : Post) (desk : Desk) (found : ℕ) → KeepFits post at → KeepIn config at → config.indexes ≤ length post.standing → Ended post → Turned (keeps.keep_turn at post desk found)
keep_spent config (Loosens let_go) post desk found f k few h =
    released_spent let_go (withdrawn post (let_index let_go)) desk (cleared (let_index let_go) (stands post (let_index let_go))) (kept_ended (withdrawn post (let_index let_go)) f.kept)
keep_spent config (LoadHeld from index) post desk found f k few h =
    load_spent from index post desk found (has_one_interval (scheme_of post)) (omega (arith, k.kept, k.rises)) (omega (arith, k.below, few)) h
keep_spent config (StoreHeld from index era) post desk found f k few h =
    copied_spent from index post desk (publishes_index (publishes_rows (scheme_of post)) post index era) (stands post from) (omega (arith, k.kept, k.rises)) (omega (arith, k.below, few)) h
keep_spent config (Looks index key at) post desk found f k few h = look_spent index key at post desk found h
keep_spent config (Misses index) post desk found f k few h = λ o. h
keep_spent config HideSpan post desk found f k few h = λ o b n. refl
keep_spent config MarkLeft post desk found f k few h = λ o. h
keep_spent config (TakeList place) post desk found f k few h = taking_spent place post desk (found == 1) found h
keep_spent config (MarkTaken place count) post desk found f k few h = λ o. h

pub work_spent : (config : Config) (work : Work) (post : Post) (desk : Desk) (found : ℕ) → WorkFits post work → WorkIn config work → config.indexes ≤ length post.standing → (over_work work ≡ true → Ended post) → Turned (steps.work_turn work post desk found)
work_spent config (Getting key at) post desk found f k few h = get_spent key at post desk found
work_spent config (Changing kept at) post desk found f k few h = change_spent kept at post desk found
work_spent config (Enqueuing kept at) post desk found f k few h = enqueue_spent kept at post desk found
work_spent config (Dequeuing at) post desk found f k few h = dequeue_spent at post desk found
work_spent config (Keeping at) post desk found f k few h = keep_spent config at post desk found f k few (h refl)

-- a scan
scanned_spent : (later : AfterScan) (post : Post) (desk : Desk) (told : List Event) → Ended post → Turned (scan.scanned later post desk told)
scanned_spent (Answered answer) post desk told h = λ o. h
scanned_spent (Repeated task) post desk told h = round_spent task post
scanned_spent Counted post desk told h = λ o. h

back_spent : (later : AfterScan) (post : Post) (desk : Desk) (told : List Event) (x : Option scan.Entry) → Ended post → Turned (scan.giving_back later post desk told x)
back_spent later post desk told None h = scanned_spent later post (scan.with_kept desk) told h
back_spent later post desk told (Some entry) h = λ o. h

guards_spent : (later : AfterScan) (n : ℕ) (post : Post) (desk : Desk) (told : List Event) (more : Bool) → Ended post → Turned (scan.reading later n post desk told more)
guards_spent later n post desk told true h = λ o. h
guards_spent later n post desk told false h = back_spent later post desk told (scan.unmet_from desk 0) h

pub scan_spent : (later : AfterScan) (at : ScanAt) (post : Post) (desk : Desk) (found : ℕ) → Ended post → Turned (scan.scan_turn later at post desk found)
scan_spent later (ReadGuard n) post desk found h =
    guards_spent later n post (scan.with_read desk n (guard_at post.layout.config n, published (publishes_rows post.layout.config.scheme) (guard_at post.layout.config n) found)) (scan.reads_guard (publishes_rows post.layout.config.scheme) (guard_at post.layout.config n) found ∷ []) (nat_lt (n + 1) (guards post.layout.config)) h
scan_spent later (GiveBack place slot) post desk found h = back_spent later post (scan.with_back desk place) (events.Back slot ∷ []) (scan.unmet_from (scan.with_back desk place) place) h

opened_row_spent : (task : Task) (slot : ℕ) (post : Post) (desk : Desk) (told : List Event) → (is_hold task ≡ true → Ended post) → Turned (steps.opened_row task slot post desk told)
opened_row_spent (Gets key) slot post desk told h = λ o. absurd (cc)
opened_row_spent (Changes kept) slot post desk told h = λ o. absurd (cc)
opened_row_spent (Holds key) slot post desk told h = λ o. h refl
opened_row_spent (Enqueues kept) slot post desk told h = λ o. absurd (cc)
opened_row_spent Dequeues slot post desk told h = λ o. absurd (cc)

opened_null_spent : (task : Task) (post : Post) (desk : Desk) (told : List Event) → Turned (steps.opened_null task post desk told)
opened_null_spent (Gets key) post desk told = got_spent key 0 None post desk told
opened_null_spent (Changes kept) post desk told = deciding_spent (alters.at_link kept 0) post desk told
opened_null_spent (Holds key) post desk told = clearing_spent (Holds key) (Answering the_answers.Nothing) post desk told
opened_null_spent (Enqueues kept) post desk told = clearing_spent (Enqueues kept) Again post desk told
opened_null_spent Dequeues post desk told = clearing_spent Dequeues Again post desk told

filled_by_spent : (task : Task) (ending : AllocateEnd) (post : Post) (desk : Desk) (told : List Event) → Turned (steps.filled_by task ending post desk told)
filled_by_spent (Changes kept) (allocate_ends.Given slot birth) post desk told = λ o. absurd (cc)
filled_by_spent (Changes kept) allocate_ends.Full post desk told = clearing_spent (Changes (alters.with_walked kept)) (alters.no_room kept.walked) post desk told
filled_by_spent (Enqueues kept) (allocate_ends.Given slot birth) post desk told = λ o. absurd (cc)
filled_by_spent (Enqueues kept) allocate_ends.Full post desk told = clearing_spent (Enqueues (enqueues.item_walked kept)) (alters.no_room kept.walked) post desk told
filled_by_spent (Gets key) ending post desk told = round_spent (Gets key) post
filled_by_spent (Holds key) ending post desk told = round_spent (Holds key) post
filled_by_spent Dequeues ending post desk told = round_spent Dequeues post

written_spent : (task : Task) (post : Post) (desk : Desk) (told : List Event) → Turned (steps.written_row task post desk told)
written_spent (Changes kept) post desk told = λ o. absurd (cc)
written_spent (Enqueues kept) post desk told = λ o. absurd (cc)
written_spent (Gets key) post desk told = round_spent (Gets key) post
written_spent (Holds key) post desk told = round_spent (Holds key) post
written_spent Dequeues post desk told = round_spent Dequeues post

filled_spent : (task : Task) (ending : Ending) (post : Post) (desk : Desk) (told : List Event) → Turned (steps.filled task ending post desk told)
filled_spent task (Allocated ending) post desk told = filled_by_spent task ending post desk told
filled_spent task Done post desk told = written_spent task post desk told
filled_spent task (Protected end) post desk told = written_spent task post desk told
filled_spent task (Followed end) post desk told = written_spent task post desk told
filled_spent task (Retired life) post desk told = written_spent task post desk told
filled_spent task (Clocked clock) post desk told = written_spent task post desk told

followed_row_spent : (head next : ℕ) (post : Post) (desk : Desk) (told : List Event) (lags : Bool) → Turned (dequeues.followed_row head next post desk told lags)
followed_row_spent head next post desk told true = λ o. absurd (cc)
followed_row_spent head next post desk told false = λ o. absurd (cc)

followed_spent : (head tail : ℕ) (ending : FollowEnd) (post : Post) (desk : Desk) (told : List Event) → Turned (dequeues.followed head tail ending post desk told)
followed_spent head tail (follow_ends.Followed slot) post desk told = followed_row_spent head slot post desk told (tail == head + 1)
followed_spent head tail follow_ends.NoNext post desk told = clearing_next_spent (Answering the_answers.Empty) post desk told
followed_spent head tail (follow_ends.RootMoved seen) post desk told = clearing_next_spent Again post desk told

followed_by_spent : (head tail : ℕ) (ending : Ending) (post : Post) (desk : Desk) (told : List Event) → Turned (steps.followed_by head tail ending post desk told)
followed_by_spent head tail (Followed ending) post desk told = followed_spent head tail ending post desk told
followed_by_spent head tail Done post desk told = round_spent Dequeues post
followed_by_spent head tail (Protected end) post desk told = round_spent Dequeues post
followed_by_spent head tail (Allocated end) post desk told = round_spent Dequeues post
followed_by_spent head tail (Retired life) post desk told = round_spent Dequeues post
followed_by_spent head tail (Clocked clock) post desk told = round_spent Dequeues post

tidying_spent : (answer : Answer) (post : Post) (desk : Desk) (told : List Event) (due : Bool) → Ended post → Turned (steps.tidying answer post desk told due)
tidying_spent answer post desk told true h = λ o. h
tidying_spent answer post desk told false h = λ o. h

retired_spent : (answer : Answer) (ending : Ending) (post : Post) (desk : Desk) (told : List Event) → Ended post → Turned (steps.retired_by answer ending post desk told)
retired_spent answer (Retired life) post desk told h = tidying_spent answer post (with_life desk life) told (post.retired % post.layout.config.every == 0) h
retired_spent answer Done post desk told h = λ o. h
retired_spent answer (Protected end) post desk told h = λ o. h
retired_spent answer (Followed end) post desk told h = λ o. h
retired_spent answer (Allocated end) post desk told h = λ o. h
retired_spent answer (Clocked clock) post desk told h = λ o. h

tidied_spent : (later : AfterScan) (ending : Ending) (post : Post) (desk : Desk) (told : List Event) → Ended post → Turned (steps.tidied later ending post desk told)
tidied_spent later (Clocked clock) post desk told h = λ o. h
tidied_spent later Done post desk told h = λ o. h
tidied_spent later (Protected end) post desk told h = λ o. h
tidied_spent later (Followed end) post desk told h = λ o. h
tidied_spent later (Allocated end) post desk told h = λ o. h
tidied_spent later (Retired life) post desk told h = λ o. h

advanced_spent : (ending : Ending) (post : Post) (desk : Desk) (told : List Event) → Ended post → Turned (steps.advanced ending post desk told)
advanced_spent (Clocked clock) post desk told h = λ o. h
advanced_spent Done post desk told h = λ o. h
advanced_spent (Protected end) post desk told h = λ o. h
advanced_spent (Followed end) post desk told h = λ o. h
advanced_spent (Allocated end) post desk told h = λ o. h
advanced_spent (Retired life) post desk told h = λ o. h

-- what has to hold where a machine has ended
abbrev pub Opened : Task → Post → Ending → Type 0
Opened task post (Protected (protect_ends.Held slot era)) = is_hold task ≡ true → Ended post
Opened task post ending = Unit {0}

abbrev pub Resumes : Why → Post → Ending → Type 0
Resumes (Opens task) post ending = Opened task post ending
Resumes (FollowsHead head tail) post ending = Unit {0}
Resumes (Fills task) post ending = Unit {0}
Resumes (ClearsNext next) post ending = Unit {0}
Resumes (Clears task next) post ending = Unit {0}
Resumes (Finishes task next) post ending = Ended post
Resumes (GivesUp answer) post ending = Ended post
Resumes (Retires answer) post ending = Ended post
Resumes (Tidies later) post ending = Ended post
Resumes Advances post ending = Ended post
Resumes (Releases let_go) post ending = Ended post

opened_spent : (task : Task) (ending : Ending) (post : Post) (desk : Desk) (told : List Event) → Opened task post ending → Turned (steps.opened task ending post desk told)
opened_spent task (Protected (protect_ends.Held slot era)) post desk told h = opened_row_spent task slot post desk told h
opened_spent task (Protected protect_ends.Null) post desk told h = opened_null_spent task post desk told
opened_spent task Done post desk told h = λ o. absurd (cc)
opened_spent task (Followed end) post desk told h = λ o. absurd (cc)
opened_spent task (Allocated end) post desk told h = λ o. absurd (cc)
opened_spent task (Retired life) post desk told h = λ o. absurd (cc)
opened_spent task (Clocked clock) post desk told h = λ o. absurd (cc)

resume_spent : (why : Why) (ending : Ending) (post : Post) (desk : Desk) (told : List Event) → Resumes why post ending → Turned (steps.resume why ending post desk told)
resume_spent (Opens task) ending post desk told h = opened_spent task ending post desk told h
resume_spent (FollowsHead head tail) ending post desk told h = followed_by_spent head tail ending post desk told
resume_spent (Fills task) ending post desk told h = filled_spent task ending post desk told
resume_spent (ClearsNext next) ending post desk told h = clearing_spent Dequeues next post desk told
resume_spent (Clears task next) ending post desk told h = finishing_spent task next post desk told
resume_spent (Finishes task next) ending post desk told h = closed_spent task next post desk told h
resume_spent (GivesUp answer) ending post desk told h = λ o. h
resume_spent (Retires answer) ending post desk told h = retired_spent answer ending post desk told h
resume_spent (Tidies later) ending post desk told h = tidied_spent later ending post desk told h
resume_spent Advances ending post desk told h = advanced_spent ending post desk told h
resume_spent (Releases let_go) ending post desk told h = released_spent let_go post desk told h

-- a machine goes on, or has ended
abbrev pub Out : Why → Post → Outcome → Type 0
Out why post (Goes base) = over_why why ≡ true → Ended post
Out why post (Ends ending) = Resumes why post ending

pub resumed_spent : (why : Why) (desk : Desk) (post : Post) (told : List Event) (outcome : Outcome) → Out why post outcome → Turned (steps.resumed why desk post told outcome)
resumed_spent why desk post told (Goes base) h = h
resumed_spent why desk post told (Ends ending) h = resume_spent why ending post desk told h

-- a call begins
letting_spent : (let_go : LetGo) (post : Post) (x : Option Base) → Ended post → Spent post (letting_by let_go x)
letting_spent let_go post None h = λ o. h
letting_spent let_go post (Some base) h = λ o. absurd (cc)

release_spent : (let_go : LetGo) (post : Post) → Ended post → Spent post (letting let_go post)
release_spent let_go post h = letting_spent let_go post (release_base (scheme_of post) post (let_index let_go)) h

holding_spent : (key : ℕ) (post : Post) (o : Option ℕ) → Ended post → Spent post (steps.holding key post o)
holding_spent key post None h = round_spent (Holds key) post
holding_spent key post (Some slot) h = release_spent (Rehold key) post h

copying_spent : (from index : ℕ) (post : Post) (o : Option ℕ) → Ended post → Spent post (steps.copying from index o)
copying_spent from index post None h = λ o. h
copying_spent from index post (Some slot) h = λ o. h

looking_at_spent : (index key : ℕ) (post : Post) (o : Option ℕ) → Ended post → Spent post (steps.looking_at index key o)
looking_at_spent index key post None h = λ o. h
looking_at_spent index key post (Some slot) h = λ o. h

parting_span_spent : (post : Post) (x : Option Interval) → Ended post → Spent post (keeps.parting_span x)
parting_span_spent post None h = λ o. h
parting_span_spent post (Some span) h = λ o. h

leaving_spent : (post : Post) (one : Bool) → Ended post → Spent post (if one then keeps.parting_span post.span else keeps.parting_from 2 post)
leaving_spent post true h = parting_span_spent post post.span h
leaving_spent post false h = parting_spent post (publishes_rows (scheme_of post)) (standing_from 2 (drop 2 post.standing)) h

pub first_spent : (call : Call) (post : Post) → Ended post → Spent post (steps.first_phase call post)
first_spent (names.Get key) post h = round_spent (Gets key) post
first_spent (names.Put key value) post h = round_spent (Changes _) post
first_spent (names.Remove key) post h = round_spent (Changes _) post
first_spent (names.Enqueue value) post h = round_spent (Enqueues _) post
first_spent names.Dequeue post h = round_spent Dequeues post
first_spent (names.PutIf key value version) post h = round_spent (Changes _) post
first_spent (names.Hold key) post h = holding_spent key post (stands post 2) h
first_spent names.Release post h = release_spent Released post h
first_spent (names.Copy from index) post h = copying_spent from index post (stands post from) h
first_spent (names.DropIndex index) post h = release_spent (Dropped index) post h
first_spent (names.Look index key) post h = looking_at_spent index key post (stands post index) h
first_spent names.Leave post h = leaving_spent post (has_one_interval (scheme_of post)) h
first_spent (names.Adopt place) post h = λ o. h
first_spent names.Advance post h = λ o. h
first_spent names.Scan post h = λ o. h
