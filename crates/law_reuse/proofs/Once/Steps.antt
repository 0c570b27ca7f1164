-- What a step leaves of the seat's list and of its report, and that it tells what it cuts.
use Rattle.std.proofs.Common.{ℕ, ◌≡◌, ◌+◌, ◌-◌, Bool, true, false, List, [], ◌∷◌, ◌++◌, Option, Some, None, refl, sym, ap, ◌∙◌, arith}
use Rattle.std.proofs.lemmas.Bool.Decides.{nat_tests}
use Rattle.std.proofs.lemmas.List.Folds.{list_any-append}
use Rattle.std.specs.Prelude.{◌==◌, ◌||◌, nat_lt, if◌then◌else◌}
use Rattle.std.specs.List.{filter, list_any}
use Rattle.laws.specs.defs.Shown.{Seen}
use Rattle.laws.specs.defs.declared.call.Answer.{Answer}
use Rattle.laws.specs.defs.declared.call.Answer.TheVariants as answers
use Rattle.laws.specs.defs.declared.call.ClockMove.TheVariants as moves
use Rattle.laws.specs.defs.declared.event.Event.{Event}
use Rattle.laws.specs.defs.declared.event.Event.TheVariants as events
use Rattle.laws.specs.defs.declared.event.Root.TheVariants as roots
use Rattle.laws.specs.defs.declared.lifetime.Lifetime.{Lifetime}
use Rattle.inv_all.specs.model.declared.post.Post.{Post}
use Rattle.inv_all.specs.model.Allocate.{is_claimed}
use Rattle.inv_all.specs.model.Calls.{ChangeKept, Task, Changes, Dequeues, Next, Again, MakeRoom, Answering, Retiring, AfterScan, Answered, Repeated, Counted, Why, Fills, Retires, ReadGuard, GiveBack, LoadVersion, LoadCount, LoadKey, LoadValue, ExchangeRoot, LoadNumber, LoadNext, PassTail, ExchangeNext, ExchangeTail, LoadTail, SwingTail, TakeNumber, TakeValue, ExchangeHead, Work, Getting, Changing, Enqueuing, Dequeuing, Phase, Idle, Runs, Scans, Works, CallTurn, KeepAt, Loosens, LoadHeld, StoreHeld, Looks, Misses, HideSpan, MarkLeft, TakeList, MarkTaken, Keeping}
use Rattle.inv_all.specs.model.Change.{told_linked, told_change, changed_bucket, answer_done}
use Rattle.inv_all.specs.model.Desks.{Desk}
use Rattle.inv_all.specs.model.Guards.{guards, guard_at, published}
use Rattle.laws.specs.words.Schemes.{publishes_rows}
use Rattle.inv_all.specs.model.Locals.{told_by, told_end}
use Rattle.inv_all.specs.model.Machine.{after}
use Rattle.inv_all.specs.model.Phases.{Base, Outcome, Goes, Ends}
use Rattle.inv_all.specs.model.Phases.AllocateAt.{ClaimSlot}
use Rattle.inv_all.specs.model.Phases.RetireAt.{LoadLife, LoadRetire, StoreRetired}
use Rattle.inv_all.specs.model.Phases.Base.{Begin, Protect, Reload, Clear, Finish, Release, Allocate, Write, GiveUp, Retire, Move}
use Rattle.inv_all.specs.model.Phases.Ending.{Done, Protected, Followed, Allocated, Retired, Clocked}
use Rattle.inv_all.specs.model.Rounds.{scheme_of, index_of, taken_of, finish_base, clear_base, clear_post, clear_told, given_up, closed, finishing_by, finishing, clearing_by, clearing, clearing_next_by}
use Rattle.inv_all.specs.model.Scan as scan
use Rattle.inv_all.specs.model.Steps.{phase_turn, work_turn}
use Rattle.inv_all.specs.rows.Hands.{task_fills, each_once, is_right, base_row, keep_row, work_row, row_move, linked_row}
use Rattle.inv_all.specs.rows.Rows.{RowMove}
use Rattle.inv_all.specs.rows.Rows.RowMove.{Stays, Claims, Bears, Drops, Links, Replaces, Appends, Pops, Reads, Seals, Lists, Returns, Adopts}
use Rattle.laws.specs.defs.Events.{is_of_rows}
use Rattle.inv_all.specs.ends.Told.{row_events}
use Rattle.laws.specs.StateAt.{cut_by}
use Rattle.laws.proofs.Along.{along}
use Rattle.law_reuse.proofs.Once.Calm.{keeps_list, ends_life, base_keeps}
use Rattle.law_reuse.proofs.Once.Desks.{left_at, resumed_desk, takes_list, work_desk}
use Rattle.law_reuse.proofs.Once.Moves.{cuts, retires, moved_list, removed}

-- a machine that ends with no life leaves the list
ending_left : (why : Why) (outcome : Outcome) (desk : Desk) → keeps_list outcome ≡ true → left_at why outcome desk ≡ desk
ending_left why (Goes base) desk h = refl
ending_left (Retires answer) (Ends (Retired life)) desk h = absurd (cc)
ending_left (Retires answer) (Ends Done) desk h = refl
ending_left (Retires answer) (Ends (Protected end)) desk h = refl
ending_left (Retires answer) (Ends (Followed end)) desk h = refl
ending_left (Retires answer) (Ends (Allocated end)) desk h = refl
ending_left (Retires answer) (Ends (Clocked clock)) desk h = refl
ending_left why (Ends ending) desk h = refl

run_left : (why : Why) (base : Base) (post : Post) (desk : Desk) (found : ℕ) → ends_life base ≡ false → (phase_turn (Runs why base) post desk found).desk ≡ desk
run_left why base post desk found h =
    resumed_desk why desk (after base post found).post (after base post found).told (after base post found).outcome ∙ ending_left why (after base post found).outcome desk (base_keeps base post found h)

claim_list : (slot : ℕ) (taken : Bool) (list : List Lifetime) → moved_list (if taken then Stays else Claims slot) list ≡ list
claim_list slot true list = refl
claim_list slot false list = refl

base_list : (base : Base) (found : ℕ) (list : List Lifetime) → ends_life base ≡ false → moved_list (base_row base found) list ≡ list
base_list (Allocate (ClaimSlot birth walk)) found list h = claim_list walk.slot (is_claimed found walk.slot) list
base_list (Retire (StoreRetired slot birth retire)) found list h = absurd (cc)
base_list base found list h = refl

linked_list : (bucket slot link : ℕ) (null : Bool) (list : List Lifetime) → moved_list (if null then Links bucket slot else Replaces bucket slot (link - 1)) list ≡ list
linked_list bucket slot link true list = refl
linked_list bucket slot link false list = refl

exchange_list : (bucket slot link : ℕ) (same : Bool) (list : List Lifetime) → moved_list (if same then linked_row bucket slot link else Stays) list ≡ list
exchange_list bucket slot link true list = linked_list bucket slot link (link == 0) list
exchange_list bucket slot link false list = refl

append_list : (slot : ℕ) (same : Bool) (list : List Lifetime) → moved_list (if same then Appends slot else Stays) list ≡ list
append_list slot true list = refl
append_list slot false list = refl

pop_list : (head next : ℕ) (same : Bool) (list : List Lifetime) → moved_list (if same then Pops head next else Stays) list ≡ list
pop_list head next true list = refl
pop_list head next false list = refl

adopt_list : (place : ℕ) (same : Bool) (list : List Lifetime) → moved_list (if same then Adopts place else Stays) list ≡ list
adopt_list place true list = refl
adopt_list place false list = refl

keep_list : (at : KeepAt) (found : ℕ) (list : List Lifetime) → moved_list (keep_row at found) list ≡ list
keep_list (TakeList place) found list = adopt_list place (found == 1) list
keep_list (Loosens let_go) found list = refl
keep_list (LoadHeld from index) found list = refl
keep_list (StoreHeld from index era) found list = refl
keep_list (Looks index key at) found list = refl
keep_list (Misses index) found list = refl
keep_list HideSpan found list = refl
keep_list MarkLeft found list = refl
keep_list (MarkTaken place count) found list = refl

work_list : (work : Work) (post : Post) (found : ℕ) (list : List Lifetime) → moved_list (work_row work post found) list ≡ list
work_list (Getting key at) post found list = refl
work_list (Changing kept (LoadVersion slot)) post found list = refl
work_list (Changing kept (LoadCount slot)) post found list = refl
work_list (Changing kept (LoadKey slot count)) post found list = refl
work_list (Changing kept (LoadValue slot count key)) post found list = refl
work_list (Changing kept (ExchangeRoot slot)) post found list = exchange_list (changed_bucket kept post) slot kept.link (found == kept.link) list
work_list (Enqueuing kept LoadNumber) post found list = refl
work_list (Enqueuing kept LoadNext) post found list = refl
work_list (Enqueuing kept (PassTail next)) post found list = refl
work_list (Enqueuing kept (ExchangeNext slot)) post found list = append_list slot (found == 0) list
work_list (Enqueuing kept (ExchangeTail slot)) post found list = refl
work_list (Dequeuing (LoadTail head)) post found list = refl
work_list (Dequeuing (SwingTail head next)) post found list = refl
work_list (Dequeuing (TakeNumber head next)) post found list = refl
work_list (Dequeuing (TakeValue head next number)) post found list = refl
work_list (Dequeuing (ExchangeHead head next number value)) post found list = pop_list head next (found == head + 1) list
work_list (Keeping at) post found list = keep_list at found list

-- a scan
scanned_list : (later : AfterScan) (post : Post) (desk : Desk) (told : List Event) → (scan.scanned later post desk told).desk ≡ desk
scanned_list (Answered answer) post desk told = refl
scanned_list (Repeated task) post desk told = refl
scanned_list Counted post desk told = refl

giving_list : (later : AfterScan) (post : Post) (desk : Desk) (told : List Event) (x : Option scan.Entry) → (scan.giving_back later post desk told x).desk.list ≡ desk.list
giving_list later post desk told None = ap (λ (d : Desk). d.list) (scanned_list later post (scan.with_kept desk) told)
giving_list later post desk told (Some entry) = refl

reading_list : (later : AfterScan) (number : ℕ) (post : Post) (desk : Desk) (told : List Event) (more : Bool) → (scan.reading later number post desk told more).desk.list ≡ desk.list
reading_list later number post desk told true = refl
reading_list later number post desk told false = giving_list later post desk told (scan.unmet_from desk 0)

-- no row is filled by a retirement
no_fill : (task : Task) (slot birth retire : ℕ) → task_fills task (Retire (StoreRetired slot birth retire)) ≡ true → false ≡ true
no_fill (Task.Gets key) slot birth retire h = h
no_fill (Task.Changes kept) slot birth retire h = h
no_fill (Task.Holds key) slot birth retire h = h
no_fill (Task.Enqueues kept) slot birth retire h = h
no_fill Task.Dequeues slot birth retire h = h

-- only the last step of a retirement makes the list longer, by the life that it ends with
store_list : (why : Why) (slot birth retire : ℕ) (last post : Post) (desk : Desk) (found : ℕ) → is_right (Runs why (Retire (StoreRetired slot birth retire))) desk.list ≡ true → (phase_turn (Runs why (Retire (StoreRetired slot birth retire))) post desk found).desk.list ≡ moved_list (Lists slot birth retire) desk.list
store_list (Retires answer) slot birth retire last post desk found h =
    let t = after (Retire (StoreRetired slot birth retire)) post found in ap (λ (d : Desk). d.list) (resumed_desk (Retires answer) desk t.post t.told t.outcome)
store_list (Fills task) slot birth retire last post desk found h = let x = no_fill task slot birth retire h in absurd (cc)
store_list why slot birth retire last post desk found h = absurd (cc)

calm_list : (why : Why) (base : Base) (post : Post) (desk : Desk) (found : ℕ) → ends_life base ≡ false → (phase_turn (Runs why base) post desk found).desk.list ≡ moved_list (base_row base found) desk.list
calm_list why base post desk found h = ap (λ (d : Desk). d.list) (run_left why base post desk found h) ∙ sym (base_list base found desk.list h)

run_list : (why : Why) (base : Base) (last post : Post) (desk : Desk) (found : ℕ) → is_right (Runs why base) desk.list ≡ true → (phase_turn (Runs why base) post desk found).desk.list ≡ moved_list (base_row base found) desk.list
run_list why (Begin at) last post desk found h = calm_list why (Begin at) post desk found refl
run_list why (Protect aim index root steps at) last post desk found h = calm_list why (Protect aim index root steps at) post desk found refl
run_list why (Reload parent index slot era steps) last post desk found h = calm_list why (Reload parent index slot era steps) post desk found refl
run_list why (Clear rows index) last post desk found h = calm_list why (Clear rows index) post desk found refl
run_list why Finish last post desk found h = calm_list why Finish post desk found refl
run_list why (Release index) last post desk found h = calm_list why (Release index) post desk found refl
run_list why (Allocate at) last post desk found h = calm_list why (Allocate at) post desk found refl
run_list why (Write slot row place) last post desk found h = calm_list why (Write slot row place) post desk found refl
run_list why (GiveUp slot) last post desk found h = calm_list why (GiveUp slot) post desk found refl
run_list why (Retire (LoadLife slot)) last post desk found h = calm_list why (Retire (LoadLife slot)) post desk found refl
run_list why (Retire (LoadRetire slot birth)) last post desk found h = calm_list why (Retire (LoadRetire slot birth)) post desk found refl
run_list why (Retire (StoreRetired slot birth retire)) last post desk found h = store_list why slot birth retire last post desk found h
run_list why (Move at) last post desk found h = calm_list why (Move at) post desk found refl

pub phase_list : (phase : Phase) (last post : Post) (desk : Desk) (found : ℕ) → takes_list phase found ≡ false → is_right phase desk.list ≡ true → each_once desk.list ≡ true → (phase_turn phase post desk found).desk.list ≡ moved_list (row_move phase last found) desk.list
phase_list Idle last post desk found n h d = refl
phase_list (Runs why base) last post desk found n h d = run_list why base last post desk found h
phase_list (Scans later (ReadGuard number)) last post desk found n h d =
    let seen : Seen = (guard_at post.layout.config number, published (publishes_rows post.layout.config.scheme) (guard_at post.layout.config number) found) in
    reading_list later number post (scan.with_read desk number seen) (scan.reads_guard (publishes_rows post.layout.config.scheme) seen.0 found ∷ []) (nat_lt (number + 1) (guards post.layout.config))
phase_list (Scans later (GiveBack place slot)) last post desk found n h d =
    giving_list later post (scan.with_back desk place) (events.Back slot ∷ []) (scan.unmet_from (scan.with_back desk place) place) ∙ removed desk.list place slot d h
phase_list (Works work) last post desk found n h d = ap (λ (d : Desk). d.list) (work_desk work post desk found n) ∙ sym (work_list work last found desk.list)

-- the row is cut, or retired
abbrev pub cut_of : ℕ → Event → Bool
cut_of s (events.Cut slot) = s == slot
cut_of s event = false

abbrev pub retire_of : ℕ → Event → Bool
retire_of s (events.Retire slot birth retire) = s == slot
retire_of s event = false

-- what a call has told of cuts stands in what its step tells
abbrev Has : ℕ → CallTurn → Type 0
Has s t = list_any (cut_of s) t.told ≡ true

any_more : (s : ℕ) (xs ys : List Event) → list_any (cut_of s) xs ≡ true → list_any (cut_of s) (xs ++ ys) ≡ true
any_more s xs ys h = rw (list_any-append (cut_of s) xs ys, h) refl

given_up_has : (s : ℕ) (answer : Answer) (post : Post) (desk : Desk) (told : List Event) (x : Option ℕ) → list_any (cut_of s) told ≡ true → Has s (given_up answer post desk told x)
given_up_has s answer post desk told None h = h
given_up_has s answer post desk told (Some slot) h = h

closed_has : (s : ℕ) (task : Task) (next : Next) (post : Post) (desk : Desk) (told : List Event) → list_any (cut_of s) told ≡ true → Has s (closed task next post desk told)
closed_has s task Again post desk told h = h
closed_has s task MakeRoom post desk told h = h
closed_has s task (Answering answer) post desk told h = given_up_has s answer post desk told (taken_of task) h
closed_has s task (Retiring slot answer) post desk told h = h

finishing_by_has : (s : ℕ) (task : Task) (next : Next) (post : Post) (desk : Desk) (told : List Event) (x : Option Base) → list_any (cut_of s) told ≡ true → Has s (finishing_by task next post desk told x)
finishing_by_has s task next post desk told None h = closed_has s task next post desk told h
finishing_by_has s task next post desk told (Some base) h = h

finishing_has : (s : ℕ) (task : Task) (next : Next) (post : Post) (desk : Desk) (told : List Event) → list_any (cut_of s) told ≡ true → Has s (finishing task next post desk told)
finishing_has s task Again post desk told h = closed_has s task Again post desk told h
finishing_has s task MakeRoom post desk told h = finishing_by_has s task MakeRoom post desk told (finish_base (scheme_of post) post) h
finishing_has s task (Answering answer) post desk told h = finishing_by_has s task (Answering answer) post desk told (finish_base (scheme_of post) post) h
finishing_has s task (Retiring slot answer) post desk told h = finishing_by_has s task (Retiring slot answer) post desk told (finish_base (scheme_of post) post) h

clearing_by_has : (s : ℕ) (task : Task) (next : Next) (post : Post) (desk : Desk) (told : List Event) (x : Option Base) → list_any (cut_of s) told ≡ true → Has s (clearing_by task next post desk told x)
clearing_by_has s task next post desk told None h =
    finishing_has s task next (clear_post (scheme_of post) post (index_of task)) desk (told ++ clear_told (scheme_of post) post (index_of task)) (any_more s told (clear_told (scheme_of post) post (index_of task)) h)
clearing_by_has s task next post desk told (Some base) h = h

clearing_has : (s : ℕ) (task : Task) (next : Next) (post : Post) (desk : Desk) (told : List Event) → list_any (cut_of s) told ≡ true → Has s (clearing task next post desk told)
clearing_has s task next post desk told h = clearing_by_has s task next post desk told (clear_base (scheme_of post) (index_of task)) h

clearing_next_by_has : (s : ℕ) (next : Next) (post : Post) (desk : Desk) (told : List Event) (x : Option Base) → list_any (cut_of s) told ≡ true → Has s (clearing_next_by next post desk told x)
clearing_next_by_has s next post desk told None h = clearing_has s Dequeues next (clear_post (scheme_of post) post 1) desk (told ++ clear_told (scheme_of post) post 1) (any_more s told (clear_told (scheme_of post) post 1) h)
clearing_next_by_has s next post desk told (Some base) h = h

-- the row of the root that a change exchanges
linked_has : (s : ℕ) (kept : ChangeKept) (slot bucket : ℕ) (post : Post) (null : Bool) → (kept.link == 0) ≡ null → cuts (if null then Links bucket slot else Replaces bucket slot (kept.link - 1)) s ≡ true → list_any (cut_of s) (told_linked kept slot post) ≡ true
linked_has s kept slot bucket post true e h = absurd (cc)
linked_has s kept slot bucket post false e h = rw e (any_more s (events.Cut (kept.link - 1) ∷ []) (told_change (changed_bucket kept post) (kept.version + 1) kept.change ∷ []) (rw h refl))

exchange_has : (s : ℕ) (kept : ChangeKept) (slot bucket : ℕ) (post : Post) (desk : Desk) (found : ℕ) (same : Bool) → (found == kept.link) ≡ same → cuts (if same then linked_row bucket slot kept.link else Stays) s ≡ true → Has s (work_turn (Changing kept (ExchangeRoot slot)) post desk found)
exchange_has s kept slot bucket post desk found true e h = rw e (clearing_has s (Changes (record kept { taken = None })) (answer_done (kept.version + 1) kept.link) post desk (told_linked kept slot post) (linked_has s kept slot bucket post (kept.link == 0) refl h))
exchange_has s kept slot bucket post desk found false e h = absurd (cc)

pop_has : (s head next number value : ℕ) (post : Post) (desk : Desk) (found : ℕ) (same : Bool) → (found == head + 1) ≡ same → cuts (if same then Pops head next else Stays) s ≡ true → Has s (work_turn (Dequeuing (ExchangeHead head next number value)) post desk found)
pop_has s head next number value post desk found true e h =
    rw e (clearing_next_by_has s (Retiring head (answers.Taken number value moves.Still)) post desk (events.Link roots.Head next ∷ events.Cut head ∷ events.Taken number value ∷ []) (clear_base (scheme_of post) 1) (rw h refl))
pop_has s head next number value post desk found false e h = absurd (cc)

append_cuts : (s slot : ℕ) (same : Bool) → cuts (if same then Appends slot else Stays) s ≡ true → false ≡ true
append_cuts s slot true h = h
append_cuts s slot false h = h

adopt_cuts : (s place : ℕ) (same : Bool) → cuts (if same then Adopts place else Stays) s ≡ true → false ≡ true
adopt_cuts s place true h = h
adopt_cuts s place false h = h

keep_cuts : (s : ℕ) (at : KeepAt) (found : ℕ) → cuts (keep_row at found) s ≡ true → false ≡ true
keep_cuts s (TakeList place) found h = adopt_cuts s place (found == 1) h
keep_cuts s (Loosens let_go) found h = h
keep_cuts s (LoadHeld from index) found h = h
keep_cuts s (StoreHeld from index era) found h = h
keep_cuts s (Looks index key at) found h = h
keep_cuts s (Misses index) found h = h
keep_cuts s HideSpan found h = h
keep_cuts s MarkLeft found h = h
keep_cuts s (MarkTaken place count) found h = h

work_has : (s : ℕ) (work : Work) (last post : Post) (desk : Desk) (found : ℕ) → cuts (work_row work last found) s ≡ true → Has s (work_turn work post desk found)
work_has s (Getting key at) last post desk found h = absurd (cc)
work_has s (Changing kept (LoadVersion slot)) last post desk found h = absurd (cc)
work_has s (Changing kept (LoadCount slot)) last post desk found h = absurd (cc)
work_has s (Changing kept (LoadKey slot count)) last post desk found h = absurd (cc)
work_has s (Changing kept (LoadValue slot count key)) last post desk found h = absurd (cc)
work_has s (Changing kept (ExchangeRoot slot)) last post desk found h = exchange_has s kept slot (changed_bucket kept last) post desk found (found == kept.link) refl h
work_has s (Enqueuing kept LoadNumber) last post desk found h = absurd (cc)
work_has s (Enqueuing kept LoadNext) last post desk found h = absurd (cc)
work_has s (Enqueuing kept (PassTail next)) last post desk found h = absurd (cc)
work_has s (Enqueuing kept (ExchangeNext slot)) last post desk found h = let x = append_cuts s slot (found == 0) h in absurd (cc)
work_has s (Enqueuing kept (ExchangeTail slot)) last post desk found h = absurd (cc)
work_has s (Dequeuing (LoadTail head)) last post desk found h = absurd (cc)
work_has s (Dequeuing (SwingTail head next)) last post desk found h = absurd (cc)
work_has s (Dequeuing (TakeNumber head next)) last post desk found h = absurd (cc)
work_has s (Dequeuing (TakeValue head next number)) last post desk found h = absurd (cc)
work_has s (Dequeuing (ExchangeHead head next number value)) last post desk found h = pop_has s head next number value post desk found (found == head + 1) refl h
work_has s (Keeping at) last post desk found h = let x = keep_cuts s at found h in absurd (cc)

-- no machine cuts a row
claim_cuts : (s slot : ℕ) (taken : Bool) → cuts (if taken then Stays else Claims slot) s ≡ true → false ≡ true
claim_cuts s slot true h = h
claim_cuts s slot false h = h

base_cuts : (s : ℕ) (base : Base) (found : ℕ) → cuts (base_row base found) s ≡ true → false ≡ true
base_cuts s (Allocate (ClaimSlot birth walk)) found h = claim_cuts s walk.slot (is_claimed found walk.slot) h
base_cuts s (Retire (LoadLife slot)) found h = h
base_cuts s base found h = h

-- a step tells the row that it cuts
pub phase_cuts : (s : ℕ) (phase : Phase) (last post : Post) (desk : Desk) (found : ℕ) → cuts (row_move phase last found) s ≡ true → list_any (cut_of s) (told_by (phase_turn phase post desk found)) ≡ true
phase_cuts s Idle last post desk found h = absurd (cc)
phase_cuts s (Runs why base) last post desk found h = let x = base_cuts s base found h in absurd (cc)
phase_cuts s (Scans later (ReadGuard number)) last post desk found h = absurd (cc)
phase_cuts s (Scans later (GiveBack place slot)) last post desk found h = absurd (cc)
phase_cuts s (Works work) last post desk found h =
    any_more s (work_turn work post desk found).told (told_end (work_turn work post desk found).post (work_turn work post desk found).outcome) (work_has s work last post desk found h)

-- a test of events of a kind
any_one : (f kind : Event → Bool) (event : Event) (told : List Event) (loud : Bool) → kind event ≡ loud → ((e : Event) → kind e ≡ false → f e ≡ false) → list_any f told ≡ list_any f (filter kind told) → list_any f (event ∷ told) ≡ list_any f (filter kind (event ∷ told))
any_one f kind event told true e q h = rw (e, h) refl
any_one f kind event told false e q h = rw (e, q event e) h

any_kind : (f kind : Event → Bool) → ((e : Event) → kind e ≡ false → f e ≡ false) → (told : List Event) → list_any f told ≡ list_any f (filter kind told)
any_kind f kind q [] = refl
any_kind f kind q (event ∷ told) = any_one f kind event told (kind event) refl q (any_kind f kind q told)

retire_rows : (s : ℕ) (event : Event) → is_of_rows event ≡ false → retire_of s event ≡ false
retire_rows s (events.Retire slot birth retire) h = absurd (cc)
retire_rows s event h = refl

events_retire : (s birth : ℕ) (m : RowMove) → list_any (retire_of s) (row_events birth m) ≡ retires m s
events_retire s birth Stays = refl
events_retire s birth (Claims slot) = refl
events_retire s birth (Bears slot born) = refl
events_retire s birth (Drops slot) = refl
events_retire s birth (Links bucket slot) = refl
events_retire s birth (Replaces bucket slot old) = refl
events_retire s birth (Appends slot) = refl
events_retire s birth (Pops slot next) = refl
events_retire s birth (Reads slot born) = refl
events_retire s birth (Seals slot born retire) = refl
events_retire s birth (Lists slot born retire) = grind (arith, nat_tests)
events_retire s birth (Returns slot) = refl
events_retire s birth (Adopts from) = refl

pub told_retires : (s birth : ℕ) (m : RowMove) (told : List Event) → filter is_of_rows told ≡ row_events birth m → list_any (retire_of s) told ≡ retires m s
told_retires s birth m told e = any_kind (retire_of s) is_of_rows (retire_rows s) told ∙ ap (list_any (retire_of s)) e ∙ events_retire s birth m

-- a row that is told to be cut, or was cut, and is not retired
cut_one : (s : ℕ) (event : Event) (x : Bool) (told : List Event) → (retire_of s event || list_any (retire_of s) told) ≡ false → ((cut_of s event || list_any (cut_of s) told) || x) ≡ true → (list_any (cut_of s) told || cut_by s event x) ≡ true
cut_one s (events.Cut slot) x told h c = by (s == slot) (list_any (cut_of s) told) c
  where
    by : (same more : Bool) → ((same || more) || x) ≡ true → (more || (if same then true else x)) ≡ true
    by true true c = refl
    by true false c = refl
    by false true c = refl
    by false false c = c
cut_one s (events.Retire slot birth retire) x told h c = by (s == slot) (list_any (cut_of s) told) h c
  where
    by : (same more : Bool) → (same || list_any (retire_of s) told) ≡ false → ((false || more) || x) ≡ true → (more || (if same then false else x)) ≡ true
    by true more h c = absurd (cc)
    by false more h c = c
cut_one s event x told h c = c

none_retires : (s : ℕ) (a b : Bool) → (a || b) ≡ false → b ≡ false
none_retires s true b h = absurd (cc)
none_retires s false b h = h

pub cut_along : (s : ℕ) (told : List Event) (x : Bool) → list_any (retire_of s) told ≡ false → (list_any (cut_of s) told || x) ≡ true → along (cut_by s) told x ≡ true
cut_along s [] x h c = c
cut_along s (event ∷ told) x h c =
    let h2 : (retire_of s event || list_any (retire_of s) told) ≡ false = h in
    cut_along s told (cut_by s event x) (none_retires s (retire_of s event) (list_any (retire_of s) told) h2) (cut_one s event x told h2 c)
