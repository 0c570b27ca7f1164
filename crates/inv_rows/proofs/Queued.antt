-- Each step keeps the rows and the queue.
use Rattle.std.proofs.Common.{ℕ, ◌+◌, ◌-◌, ◌<◌, ◌≡◌, Bool, true, false, arith, refl, ap, ◌&&◌, ◌∙◌, sym, subst, List, []}
use Rattle.std.proofs.lemmas.Bool.Decides.{nat_tests}
use Rattle.std.specs.Prelude.{◌==◌, not, if◌then◌else◌, Option, Some, None}
use Rattle.wfe_core.specs.defs.declared.call.Answer.TheVariants as the_answers
use Rattle.wfe_core.specs.defs.declared.call.Call.{Call}
use Rattle.wfe_core.specs.defs.declared.call.Call.TheVariants as names
use Rattle.wfe_core.specs.defs.declared.lifetime.Lifetime.{Lifetime}
use Rattle.wfe_core.specs.declared.post.Post.{Post}
use Rattle.wfe_core.specs.Desks.{Desk, noting}
use Rattle.wfe_core.specs.Posts.{stands, counted}
use Rattle.wfe_core.specs.Phases.{Base, AllocateAt, RetireAt, Outcome, Turn, Goes}
use Rattle.wfe_core.specs.Get as gets
use Rattle.wfe_core.specs.Keep as keeps
use Rattle.wfe_core.specs.Change as alters
use Rattle.wfe_core.specs.Enqueue as enqueues
use Rattle.wfe_core.specs.Dequeue as dequeues
use Rattle.wfe_core.specs.Scan as scan
use Rattle.wfe_core.specs.Calls.{ChangeKept, EnqueueKept, Task, Gets, Changes, Holds, Enqueues, Dequeues, Again, Answering, AfterScan, Why, Opens, FollowsHead, Fills, ClearsNext, Clears, Finishes, GivesUp, Retires, Tidies, Advances, Releases, ScanAt, ReadGuard, GiveBack, GetAt, FindVersion, FindCount, FindKey, FindValue, ChangeAt, LoadVersion, LoadCount, LoadKey, LoadValue, ExchangeRoot, EnqueueAt, LoadNumber, LoadNext, PassTail, ExchangeNext, ExchangeTail, DequeueAt, LoadTail, SwingTail, TakeNumber, TakeValue, ExchangeHead, Work, Getting, Changing, Enqueuing, Dequeuing, Phase, Idle, Runs, Scans, Works, CallTurn, LetGo, Released, Rehold, Dropped, KeepAt, Loosens, LoadHeld, StoreHeld, Looks, Misses, HideSpan, MarkLeft, TakeList, MarkTaken, Keeping}
use Rattle.inv_rows.specs.Rows.Hand.{Taken}
use Rattle.inv_rows.specs.Hands.{hand_base, is_plain, runs_right, is_giving_up, is_retiring, task_fills, base_row, row_move, linked_row, change_row, enqueue_row, dequeue_row, keep_row, work_row, scan_row, allocate_row, retire_row}
use Rattle.wfe_core.specs.words.Place.{Place, claim_word}
use Rattle.wfe_core.specs.words.Place.Place.{Clock, Head, Tail, Claim, Row}
use Rattle.wfe_core.specs.Memory as memory
use Rattle.wfe_core.specs.Memory.{place_in, written}
use Rattle.wfe_core.specs.Phases.AllocateAt.{LoadBirth, ClaimSlot, StoreLife}
use Rattle.wfe_core.specs.Phases.RetireAt.{LoadLife, LoadRetire, StoreRetired}
use Rattle.wfe_core.specs.Phases.Base.{Begin, Protect, Reload, Clear, Finish, Release, Allocate, Write, GiveUp, Retire, Move}
use Rattle.wfe_core.specs.Machine as machine
use Rattle.wfe_core.specs.Machine.{base_move}
use Rattle.wfe_core.specs.Allocate.{is_claimed}
use Rattle.wfe_core.specs.Guards as the_guards
use Rattle.wfe_core.specs.WriteRow.{row_word}
use Rattle.wfe_core.specs.Steps.{run_turn, phase_move, phase_turn, work_move, work_turn, copying, first_phase, holding, looking_at}
use Rattle.inv_rows.specs.Rows.{Status, View, Good, made}
use Rattle.inv_rows.specs.Rows.Status.{Free, Claimed, Born, Linked, InQueue, Cut, Sealed, Listed}
use Rattle.inv_rows.specs.Rows.RowMove.{Stays, Claims, Links, Replaces, Adopts}
use Rattle.inv_rows.specs.Agree.{Words, Plays, Needs, RowsNeeds, rows_after, first_rows}
use Rattle.inv_rows.proofs.Runs.{only_fills, taken_slot}
use Rattle.wfe_core.specs.defs.declared.event.Root.TheVariants as roots
use Rattle.inv_rows.specs.Queue.{Line, Walks, in_queue, blanks_in, base_blanks, base_items, line_move, enqueue_line, scan_line, work_line, stands_on}
use Rattle.inv_rows.specs.Queue.LineMove.{Keeps, Joins}
use Rattle.inv_rows.specs.Chain.{queue_of, next_of, PhaseNeeds, Both, QueueNeeds, line_after, first_line, QueueStart, QueueBegin, QueueKept}
use Rattle.inv_rows.proofs.Steps.{of_taken}
use Rattle.inv_rows.proofs.Fits.{MoveFits, phase_fits, is_calm, calm_made}
use Rattle.inv_rows.proofs.Quiet.{phase_of, is_quiet, quiet_walks, clearing_quiet, clearing_next_quiet, change_quiet, scan_quiet, get_quiet, keep_quiet, round_quiet, parting_quiet}
use Rattle.inv_rows.proofs.Own.{is_linking, is_write, base_links, Left, fills_none, resumed_walks, takes_walks, writes_walks}
use Rattle.inv_rows.specs.Follow.{LoadsBase, WhyLoads}
use Rattle.inv_rows.proofs.Follow.{OutLoads, base_loads, base_follows, follow_begins}
use Rattle.wfe_core.specs.Rounds as rounds
use Rattle.wfe_core.specs.Rounds.{scheme_of}
use Rattle.inv_rows.proofs.Went.{Far, Others, Went, LineIn, WalksIn, calm_self, went_same, went_calm, went_returns, went_writes_by, went_swings, went_joins, went_pops, born_unlined}
use Rattle.inv_rows.proofs.Kept.{rows_kept, settled_phase}
use Rattle.wfe_core.specs.words.declared.layout.Layout.{Layout}
use Rattle.wfe_core.specs.Locals.{Local, turn, settled, told_by, rounds_told, begun, begun_post}
use Rattle.wfe_core.specs.World.{World, start, step, finds, offered, list_in}
use Rattle.inv_rows.proofs.Tries.{finds_base}
use Rattle.wfe_core.proofs.Facts.{first_of, same_both, no_truth}
use Rattle.wfe_core.specs.words.Schemes.{publishes_rows}

-- the moves of rows by machines leave the queue's rows
claim_calm : (slot : ℕ) (shown : Bool) → is_calm (if shown then Stays else Claims slot) ≡ true
claim_calm slot true = refl
claim_calm slot false = refl

allocate_calm : (at : AllocateAt) (found : ℕ) → is_calm (allocate_row at found) ≡ true
allocate_calm LoadBirth found = refl
allocate_calm (ClaimSlot birth walk) found = claim_calm walk.slot (is_claimed found walk.slot)
allocate_calm (StoreLife birth slot) found = refl

retire_calm : (at : RetireAt) (found : ℕ) → is_calm (retire_row at found) ≡ true
retire_calm (LoadLife slot) found = refl
retire_calm (LoadRetire slot birth) found = refl
retire_calm (StoreRetired slot birth retire) found = refl

base_calm : (base : Base) (found : ℕ) → is_calm (base_row base found) ≡ true
base_calm (Begin at) found = refl
base_calm (Protect aim index root steps at) found = refl
base_calm (Reload parent index slot era steps) found = refl
base_calm (Clear rows index) found = refl
base_calm Finish found = refl
base_calm (Release index) found = refl
base_calm (Allocate at) found = allocate_calm at found
base_calm (Write slot row place) found = refl
base_calm (GiveUp slot) found = refl
base_calm (Retire at) found = retire_calm at found
base_calm (Move at) found = refl

linked_calm : (bucket slot link : ℕ) (null : Bool) → is_calm (if null then Links bucket slot else Replaces bucket slot (link - 1)) ≡ true
linked_calm bucket slot link true = refl
linked_calm bucket slot link false = refl

exchange_calm : (bucket slot link : ℕ) (same : Bool) → is_calm (if same then linked_row bucket slot link else Stays) ≡ true
exchange_calm bucket slot link true = linked_calm bucket slot link (link == 0)
exchange_calm bucket slot link false = refl

change_calm : (kept : ChangeKept) (at : ChangeAt) (post : Post) (found : ℕ) → is_calm (change_row kept at post found) ≡ true
change_calm kept (LoadVersion slot) post found = refl
change_calm kept (LoadCount slot) post found = refl
change_calm kept (LoadKey slot count) post found = refl
change_calm kept (LoadValue slot count key) post found = refl
change_calm kept (ExchangeRoot slot) post found = exchange_calm (alters.changed_bucket kept post) slot kept.link (found == kept.link)

-- which machines run, by what comes after them
plain_write : (base : Base) → is_plain base ≡ true → is_write base ≡ false
plain_write (Begin at) h = refl
plain_write (Protect aim index root steps at) h = refl
plain_write (Reload parent index slot era steps) h = refl
plain_write (Clear rows index) h = refl
plain_write Finish h = refl
plain_write (Release index) h = refl
plain_write (Allocate at) h = refl
plain_write (Write slot row place) h = absurd (no_truth h)
plain_write base h = refl

give_write : (base : Base) → is_giving_up base ≡ true → is_write base ≡ false
give_write (Begin at) h = refl
give_write (Protect aim index root steps at) h = refl
give_write (Reload parent index slot era steps) h = refl
give_write (Clear rows index) h = refl
give_write Finish h = refl
give_write (Release index) h = refl
give_write (Allocate at) h = refl
give_write (Write slot row place) h = absurd (no_truth h)
give_write base h = refl

retire_write : (base : Base) → is_retiring base ≡ true → is_write base ≡ false
retire_write (Begin at) h = refl
retire_write (Protect aim index root steps at) h = refl
retire_write (Reload parent index slot era steps) h = refl
retire_write (Clear rows index) h = refl
retire_write Finish h = refl
retire_write (Release index) h = refl
retire_write (Allocate at) h = refl
retire_write (Write slot row place) h = absurd (no_truth h)
retire_write base h = refl

why_write : (why : Why) (base : Base) → fills_none why ≡ true → runs_right why base ≡ true → is_write base ≡ false
why_write (Opens task) base h r = plain_write base r
why_write (FollowsHead parent last) base h r = plain_write base r
why_write (Fills task) base h r = absurd (no_truth h)
why_write (ClearsNext next) base h r = plain_write base r
why_write (Clears task next) base h r = plain_write base r
why_write (Finishes task next) base h r = plain_write base r
why_write (GivesUp answer) base h r = give_write base r
why_write (Retires answer) base h r = retire_write base r
why_write (Tidies later) base h r = plain_write base r
why_write Advances base h r = plain_write base r
why_write (Releases let_go) base h r = plain_write base r

abbrev base_turn : (Place → ℕ) → Base → Post → Post → Turn
base_turn mem base post next = machine.after base next (finds_base mem base post)

goes_loads : (h next : ℕ) (outcome : Outcome) (more : Base) → outcome ≡ Goes more → OutLoads h next outcome → LoadsBase h more next
goes_loads h next outcome more e l = let P : Outcome → Type 0 = λ y. OutLoads h next y in subst P e l

why_loads : (why : Why) (parent tail : ℕ) (base : Base) (next : ℕ → ℕ) → why ≡ FollowsHead parent tail → WhyLoads why base next → LoadsBase parent base (next parent)
why_loads why parent tail base next e l = let P : Why → Type 0 = λ y. WhyLoads y base next in subst P e l

runs_same : (why other : Why) (base more : Base) → why ≡ other → base ≡ more → Runs why base ≡ Runs other more
runs_same why other base more e o = cc

went_runs : (slots i : ℕ) (mem : Place → ℕ) (v : View) (l : Line) (why : Why) (base : Base) (post next : Post) (desk : Desk) → fills_none why ≡ true → PhaseNeeds slots mem v l (Runs why base) (λ other. (machine.after other next (finds_base mem base post)).outcome) (finds_base mem base post) → mem Head ≡ v.head → runs_right why base ≡ true → MoveFits i v (base_row base (finds_base mem base post)) → LineIn v l mem → WalksIn (Runs why base) v l mem
    → Went i v (made i v (base_row base (finds_base mem base post))) l Keeps mem (written mem (base_move base post)) (run_turn why desk (base_turn mem base post next))
went_runs slots i mem v l why base post next desk h n c r f g w =
    let t : Turn = base_turn mem base post next in
    went_calm
    i
    v
    (made i v (base_row base (finds_base mem base post)))
    l
    mem
    (base_move base post)
    (run_turn why desk t)
    (calm_made i v (base_row base (finds_base mem base post)) f (base_calm base (finds_base mem base post)))
    (base_links base post (why_write why base h r))
    g
    (resumed_walks
    why
    base
    desk
    t.post
    t.told
    t.outcome
    (queue_of v)
    l
    (next_of mem)
    v.head
    (mem Tail)
    h
    w
    (record {
      tails = λ kept slot era e o. n.tails kept base slot era (ap (λ (y : Why). Runs y base) e) o;
      heads = λ slot era e o. n.heads base slot era (ap (λ (y : Why). Runs y base) e) o;
      leads = λ slot era e o q. sym c ∙ n.leads base slot era (ap (λ (y : Why). Runs y base) e) o q;
      loads = λ parent tail more e o. goes_loads parent (mem (Row parent 0)) (machine.after base next (finds_base mem base post)).outcome more o (base_loads mem parent base post next (λ aim index root steps at q. n.answers parent tail aim index root steps at (runs_same why (FollowsHead parent tail) base (Protect aim index root steps at) e q)) (why_loads why parent tail base (next_of mem) e w.loads));
      follows = λ parent tail slot e o. base_follows mem parent base next (finds_base mem base post) slot (why_loads why parent tail base (next_of mem) e w.loads) o;
    }))

went_takes : (i : ℕ) (mem : Place → ℕ) (v : View) (l : Line) (task : Task) (at : AllocateAt) (post next : Post) (desk : Desk) → MoveFits i v (base_row (Allocate at) (finds_base mem (Allocate at) post)) → LineIn v l mem → WalksIn (Runs (Fills task) (Allocate at)) v l mem
    → Went i v (made i v (base_row (Allocate at) (finds_base mem (Allocate at) post))) l Keeps mem (written mem (base_move (Allocate at) post)) (run_turn (Fills task) desk (base_turn mem (Allocate at) post next))
went_takes i mem v l task at post next desk f g w =
    went_calm
    i
    v
    (made i v (base_row (Allocate at) (finds_base mem (Allocate at) post)))
    l
    mem
    (base_move (Allocate at) post)
    (run_turn (Fills task) desk (base_turn mem (Allocate at) post next))
    (calm_made i v (base_row (Allocate at) (finds_base mem (Allocate at) post)) f (base_calm (Allocate at) (finds_base mem (Allocate at) post)))
    (base_links (Allocate at) post refl)
    g
    (takes_walks task at next desk (finds_base mem (Allocate at) post) (queue_of v) l (next_of mem) v.head (mem Tail) w)

went_fills : (slots i : ℕ) (mem : Place → ℕ) (v : View) (l : Line) (task : Task) (base : Base) (post next : Post) (desk : Desk) → Good slots v → v.hand i ≡ hand_base base → task_fills task base ≡ true → MoveFits i v (base_row base (finds_base mem base post)) → LineIn v l mem → WalksIn (Runs (Fills task) base) v l mem
    → Went i v (made i v (base_row base (finds_base mem base post))) l Keeps mem (written mem (base_move base post)) (run_turn (Fills task) desk (base_turn mem base post next))
went_fills slots i mem v l task (Allocate at) post next desk d p r f g w = went_takes i mem v l task at post next desk f g w
went_fills slots i mem v l task (Write slot row place) post next desk d p r f g w =
    went_writes_by
    i
    v
    l
    mem
    slot
    place
    (row_word row place)
    (run_turn (Fills task) desk (base_turn mem (Write slot row place) post next))
    (place == 0)
    refl
    (of_taken slots v i slot d p)
    g
    (writes_walks task slot row place next desk (queue_of v) l mem v.head (mem Tail) r w)
went_fills slots i mem v l task (Begin at) post next desk d p r f g w = absurd (no_truth (only_fills task (Begin at) r))
went_fills slots i mem v l task (Protect aim index root steps at) post next desk d p r f g w = absurd (no_truth (only_fills task (Protect aim index root steps at) r))
went_fills slots i mem v l task (Reload parent index slot era steps) post next desk d p r f g w = absurd (no_truth (only_fills task (Reload parent index slot era steps) r))
went_fills slots i mem v l task (Clear rows index) post next desk d p r f g w = absurd (no_truth (only_fills task (Clear rows index) r))
went_fills slots i mem v l task Finish post next desk d p r f g w = absurd (no_truth (only_fills task Finish r))
went_fills slots i mem v l task (Release index) post next desk d p r f g w = absurd (no_truth (only_fills task (Release index) r))
went_fills slots i mem v l task (GiveUp slot) post next desk d p r f g w = absurd (no_truth (only_fills task (GiveUp slot) r))
went_fills slots i mem v l task (Retire at) post next desk d p r f g w = absurd (no_truth (only_fills task (Retire at) r))
went_fills slots i mem v l task (Move at) post next desk d p r f g w = absurd (no_truth (only_fills task (Move at) r))

run_went : (slots i : ℕ) (mem : Place → ℕ) (v : View) (l : Line) (why : Why) (base : Base) (post next : Post) (desk : Desk) (list : List Lifetime) → PhaseNeeds slots mem v l (Runs why base) (λ other. (machine.after other next (finds_base mem base post)).outcome) (finds_base mem base post) → Good slots v → Words slots mem v → Plays i (Runs why base) list v → MoveFits i v (base_row base (finds_base mem base post)) → LineIn v l mem → WalksIn (Runs why base) v l mem
    → Went i v (made i v (base_row base (finds_base mem base post))) l Keeps mem (written mem (base_move base post)) (run_turn why desk (base_turn mem base post next))
run_went slots i mem v l (Fills task) base post next desk list n d c p f g w = went_fills slots i mem v l task base post next desk d p.hand p.right f g w
run_went slots i mem v l (Opens task) base post next desk list n d c p f g w = went_runs slots i mem v l (Opens task) base post next desk refl n c.head p.right f g w
run_went slots i mem v l (FollowsHead parent last) base post next desk list n d c p f g w = went_runs slots i mem v l (FollowsHead parent last) base post next desk refl n c.head p.right f g w
run_went slots i mem v l (ClearsNext after) base post next desk list n d c p f g w = went_runs slots i mem v l (ClearsNext after) base post next desk refl n c.head p.right f g w
run_went slots i mem v l (Clears task after) base post next desk list n d c p f g w = went_runs slots i mem v l (Clears task after) base post next desk refl n c.head p.right f g w
run_went slots i mem v l (Finishes task after) base post next desk list n d c p f g w = went_runs slots i mem v l (Finishes task after) base post next desk refl n c.head p.right f g w
run_went slots i mem v l (GivesUp answer) base post next desk list n d c p f g w = went_runs slots i mem v l (GivesUp answer) base post next desk refl n c.head p.right f g w
run_went slots i mem v l (Retires answer) base post next desk list n d c p f g w = went_runs slots i mem v l (Retires answer) base post next desk refl n c.head p.right f g w
run_went slots i mem v l (Tidies later) base post next desk list n d c p f g w = went_runs slots i mem v l (Tidies later) base post next desk refl n c.head p.right f g w
run_went slots i mem v l Advances base post next desk list n d c p f g w = went_runs slots i mem v l Advances base post next desk refl n c.head p.right f g w
run_went slots i mem v l (Releases let_go) base post next desk list n d c p f g w = went_runs slots i mem v l (Releases let_go) base post next desk refl n c.head p.right f g w

-- the call's own steps
load_went : (i : ℕ) (v : View) (l : Line) (mem : Place → ℕ) (t : CallTurn) → LineIn v l mem → Left t (queue_of v) l (next_of mem) v.head (mem Tail) → Went i v v l Keeps mem mem t
load_went i v l mem t g w = went_same i v v l mem mem t (calm_self v) (λ s. refl) refl g w

get_links : (at : GetAt) → is_linking (gets.get_move at) ≡ false
get_links (FindVersion slot) = refl
get_links (FindCount slot version) = refl
get_links (FindKey slot version count pair) = refl
get_links (FindValue slot version pair) = refl

keep_links : (at : KeepAt) (post : Post) → is_linking (keeps.keep_move at post) ≡ false
keep_links (Loosens let_go) post = refl
keep_links (LoadHeld from index) post = refl
keep_links (StoreHeld from index era) post = refl
keep_links (Looks index key at) post = get_links at
keep_links (Misses index) post = refl
keep_links HideSpan post = refl
keep_links MarkLeft post = refl
keep_links (TakeList place) post = refl
keep_links (MarkTaken place count) post = refl

change_links : (kept : ChangeKept) (at : ChangeAt) (post : Post) → is_linking (alters.change_move kept at post) ≡ false
change_links kept (LoadVersion slot) post = refl
change_links kept (LoadCount slot) post = refl
change_links kept (LoadKey slot count) post = refl
change_links kept (LoadValue slot count key) post = refl
change_links kept (ExchangeRoot slot) post = refl

filling_blank : (kept : EnqueueKept) (x : Option ℕ) (s : ℕ) → base_blanks (enqueues.filling_by kept x) s ≡ true → ⊥
filling_blank kept None s u = no_truth u
filling_blank kept (Some slot) s u = absurd (grind (arith, nat_tests))

filling_items : (kept : EnqueueKept) (x : Option ℕ) → base_items (enqueues.filling_by kept x) ≡ true
filling_items kept None = refl
filling_items kept (Some slot) = refl

found_follows : (next : ℕ → ℕ) (last h link : ℕ) → (last == h && (next last == link)) ≡ true → next h ≡ link
found_follows next last h link u = grind (arith, nat_tests)

found_some : (found last h link : ℕ) → (found == 0) ≡ false → (last == h && (found == link)) ≡ true → 0 < link
found_some found last h link e u = grind (arith, nat_tests)

-- the last row's next link was read
last_walks : (kept : EnqueueKept) (post : Post) (desk : Desk) (spent : Bool) (q : ℕ → Bool) (l : Line) (next : ℕ → ℕ) (head tail : ℕ) → Walks (Works (Enqueuing kept LoadNext)) q l next head tail → Left (enqueues.appending kept post desk spent) q l next head tail
last_walks kept post desk true q l next head tail w = quiet_walks (phase_of (enqueues.appending kept post desk true).outcome) q l next head tail (clearing_quiet (Enqueues kept) (Answering (the_answers.Spent kept.number)) post desk [])
last_walks kept post desk false q l next head tail w =
    record { stood = w.stood; heads = λ h u k. cc; follows = λ h link u. cc; some = λ h link u. cc; leads = λ h u k. cc; blank = λ s u. absurd (filling_blank kept kept.taken s u); items = filling_items kept kept.taken; loads = tt }

next_walks : (kept : EnqueueKept) (post : Post) (desk : Desk) (none : Bool) (q : ℕ → Bool) (l : Line) (next : ℕ → ℕ) (head tail : ℕ) → (next kept.tail == 0) ≡ none → Walks (Works (Enqueuing kept LoadNext)) q l next head tail → Left (enqueues.at_next kept (next kept.tail) post desk none) q l next head tail
next_walks kept post desk true q l next head tail e w = last_walks kept post desk (kept.number == post.layout.config.last_version) q l next head tail w
next_walks kept post desk false q l next head tail e w =
    record { stood = w.stood; heads = λ h u k. cc; follows = λ h link u. found_follows next kept.tail h link u; some = λ h link u. found_some (next kept.tail) kept.tail h link e u; leads = λ h u k. cc; blank = λ s u. cc; items = refl; loads = tt }

enqueue_went : (slots i : ℕ) (mem : Place → ℕ) (v : View) (l : Line) (kept : EnqueueKept) (at : EnqueueAt) (next : Post) (desk : Desk) (list : List Lifetime) → Good slots v → Plays i (Works (Enqueuing kept at)) list v → LineIn v l mem → WalksIn (Works (Enqueuing kept at)) v l mem
    → Went i v (made i v (enqueue_row at (memory.found (enqueues.enqueue_move kept at) (mem (place_in (enqueues.enqueue_move kept at)))))) l (enqueue_line kept at (memory.found (enqueues.enqueue_move kept at) (mem (place_in (enqueues.enqueue_move kept at))))) mem (written mem (enqueues.enqueue_move kept at)) (enqueues.enqueue_turn kept at next desk (memory.found (enqueues.enqueue_move kept at) (mem (place_in (enqueues.enqueue_move kept at)))))
enqueue_went slots i mem v l kept LoadNumber next desk list d p g w =
    load_went i v l mem (enqueues.enqueue_turn kept LoadNumber next desk (mem (Row kept.tail 1))) g (record { stood = w.stood; heads = λ h u k. cc; follows = λ h link u. cc; some = λ h link u. cc; leads = λ h u k. cc; blank = λ s u. cc; items = refl; loads = tt })
enqueue_went slots i mem v l kept LoadNext next desk list d p g w =
    load_went i v l mem (enqueues.enqueue_turn kept LoadNext next desk (mem (Row kept.tail 0))) g (next_walks kept next desk (mem (Row kept.tail 0) == 0) (queue_of v) l (next_of mem) v.head (mem Tail) refl w)
enqueue_went slots i mem v l kept (PassTail link) next desk list d p g w =
    went_swings i v l mem kept.tail link (enqueues.enqueue_turn kept (PassTail link) next desk (mem Tail)) (mem Tail == kept.tail + 1) refl (w.follows kept.tail link (same_both kept.tail link)) (w.some kept.tail link (same_both kept.tail link)) g (clearing_quiet (Enqueues kept) Again next desk (enqueues.told_link roots.Tail (link - 1) (mem Tail == kept.tail + 1)))
enqueue_went slots i mem v l kept (ExchangeNext slot) next desk list d p g w =
    went_joins i v l mem kept slot next desk (mem (Row kept.tail 0) == 0) refl (of_taken slots v i slot d (p.hand ∙ taken_slot kept.taken slot p.right)) g w
enqueue_went slots i mem v l kept (ExchangeTail slot) next desk list d p g w =
    went_swings i v l mem kept.tail (slot + 1) (enqueues.enqueue_turn kept (ExchangeTail slot) next desk (mem Tail)) (mem Tail == kept.tail + 1) refl (w.follows kept.tail (slot + 1) (same_both kept.tail (slot + 1))) (omega arith) g (clearing_quiet (Enqueues kept) (Answering (the_answers.Queued (kept.number + 1))) next desk (enqueues.told_link roots.Tail slot (mem Tail == kept.tail + 1)))

tail_loaded : (mem : Place → ℕ) (parent h : ℕ) → (parent == h && not (mem Tail == parent + 1)) ≡ true → (mem Tail == h + 1) ≡ false
tail_loaded mem parent h u = grind (arith, nat_tests)

dequeue_went : (slots i : ℕ) (mem : Place → ℕ) (v : View) (l : Line) (at : DequeueAt) (next : Post) (desk : Desk) → mem Head ≡ v.head → LineIn v l mem → WalksIn (Works (Dequeuing at)) v l mem
    → Went i v (made i v (dequeue_row at (memory.found (dequeues.dequeue_move at) (mem (place_in (dequeues.dequeue_move at)))))) l Keeps mem (written mem (dequeues.dequeue_move at)) (dequeues.dequeue_turn at next desk (memory.found (dequeues.dequeue_move at) (mem (place_in (dequeues.dequeue_move at)))))
dequeue_went slots i mem v l (LoadTail parent) next desk c g w =
    load_went i v l mem (dequeues.dequeue_turn (LoadTail parent) next desk (mem Tail)) g (record { stood = w.stood; heads = w.heads; follows = λ h link u. cc; some = λ h link u. cc; leads = λ h u k. tail_loaded mem parent h u; blank = λ s u. cc; items = refl; loads = follow_begins (scheme_of next) parent (mem (Row parent 0)) })
dequeue_went slots i mem v l (SwingTail parent row) next desk c g w =
    went_swings i v l mem parent (row + 1) (dequeues.dequeue_turn (SwingTail parent row) next desk (mem Tail)) (mem Tail == parent + 1) refl (w.follows parent (row + 1) (same_both parent (row + 1))) (omega arith) g (clearing_next_quiet Again next desk (enqueues.told_link roots.Tail row (mem Tail == parent + 1)))
dequeue_went slots i mem v l (TakeNumber parent slot) next desk c g w =
    load_went i v l mem (dequeues.dequeue_turn (TakeNumber parent slot) next desk (mem (Row slot 1))) g (record { stood = w.stood; heads = w.heads; follows = w.follows; some = w.some; leads = w.leads; blank = λ s u. cc; items = refl; loads = tt })
dequeue_went slots i mem v l (TakeValue parent slot number) next desk c g w =
    load_went i v l mem (dequeues.dequeue_turn (TakeValue parent slot number) next desk (mem (Row slot 2))) g (record { stood = w.stood; heads = w.heads; follows = w.follows; some = w.some; leads = w.leads; blank = λ s u. cc; items = refl; loads = tt })
dequeue_went slots i mem v l (ExchangeHead parent row number value) next desk c g w =
    went_pops i v l mem parent row number value next desk (mem Head == parent + 1) refl c g w

take_calm : (place : ℕ) (left : Bool) → is_calm (if left then Adopts place else Stays) ≡ true
take_calm place true = refl
take_calm place false = refl

keep_calm : (at : KeepAt) (found : ℕ) → is_calm (keep_row at found) ≡ true
keep_calm (Loosens let_go) found = refl
keep_calm (LoadHeld from index) found = refl
keep_calm (StoreHeld from index era) found = refl
keep_calm (Looks index key at) found = refl
keep_calm (Misses index) found = refl
keep_calm HideSpan found = refl
keep_calm MarkLeft found = refl
keep_calm (TakeList place) found = take_calm place (found == 1)
keep_calm (MarkTaken place count) found = refl

work_went : (slots i : ℕ) (mem : Place → ℕ) (v : View) (l : Line) (work : Work) (post next : Post) (desk : Desk) (list : List Lifetime) → Good slots v → Words slots mem v → Plays i (Works work) list v → MoveFits i v (work_row work post (memory.found (work_move work post) (mem (place_in (work_move work post))))) → LineIn v l mem → WalksIn (Works work) v l mem
    → Went i v (made i v (work_row work post (memory.found (work_move work post) (mem (place_in (work_move work post)))))) l (work_line work (memory.found (work_move work post) (mem (place_in (work_move work post))))) mem (written mem (work_move work post)) (work_turn work next desk (memory.found (work_move work post) (mem (place_in (work_move work post)))))
work_went slots i mem v l (Getting key at) post next desk list d c p f g w =
    went_calm i v v l mem (gets.get_move at) (gets.get_turn key at next desk (memory.found (gets.get_move at) (mem (place_in (gets.get_move at))))) (calm_self v) (get_links at) g (quiet_walks (phase_of (gets.get_turn key at next desk (memory.found (gets.get_move at) (mem (place_in (gets.get_move at))))).outcome) (queue_of v) l (next_of mem) v.head (mem Tail) (get_quiet key at next desk (memory.found (gets.get_move at) (mem (place_in (gets.get_move at))))))
work_went slots i mem v l (Changing kept at) post next desk list d c p f g w =
    let found : ℕ = memory.found (alters.change_move kept at post) (mem (place_in (alters.change_move kept at post))) in
    went_calm i v (made i v (change_row kept at post found)) l mem (alters.change_move kept at post) (alters.change_turn kept at next desk found) (calm_made i v (change_row kept at post found) f (change_calm kept at post found)) (change_links kept at post) g (quiet_walks (phase_of (alters.change_turn kept at next desk found).outcome) (queue_of v) l (next_of mem) v.head (mem Tail) (change_quiet kept at next desk found))
work_went slots i mem v l (Enqueuing kept at) post next desk list d c p f g w = enqueue_went slots i mem v l kept at next desk list d p g w
work_went slots i mem v l (Dequeuing at) post next desk list d c p f g w = dequeue_went slots i mem v l at next desk c.head g w
work_went slots i mem v l (Keeping at) post next desk list d c p f g w =
    let found : ℕ = memory.found (keeps.keep_move at post) (mem (place_in (keeps.keep_move at post))) in
    went_calm i v (made i v (keep_row at found)) l mem (keeps.keep_move at post) (keeps.keep_turn at next desk found) (calm_made i v (keep_row at found) f (keep_calm at found)) (keep_links at post) g (quiet_walks (phase_of (keeps.keep_turn at next desk found).outcome) (queue_of v) l (next_of mem) v.head (mem Tail) (keep_quiet at next desk found))

scan_went : (i : ℕ) (mem : Place → ℕ) (v : View) (l : Line) (later : AfterScan) (at : ScanAt) (post next : Post) (desk : Desk) → MoveFits i v (scan_row at) → LineIn v l mem
    → Went i v (made i v (scan_row at)) l (scan_line at) mem (written mem (scan.scan_move at post)) (scan.scan_turn later at next desk (memory.found (scan.scan_move at post) (mem (place_in (scan.scan_move at post)))))
scan_went i mem v l later (ReadGuard number) post next desk f g =
    let found : ℕ = mem (the_guards.guard_place (the_guards.guard_at post.layout.config number)) in
    load_went i v l mem (scan.scan_turn later (ReadGuard number) next desk found) g (quiet_walks (phase_of (scan.scan_turn later (ReadGuard number) next desk found).outcome) (queue_of v) l (next_of mem) v.head (mem Tail) (scan_quiet later (ReadGuard number) next desk found))
scan_went i mem v l later (GiveBack place slot) post next desk f g =
    went_returns i v l mem slot (scan.scan_turn later (GiveBack place slot) next desk (mem (Claim (claim_word slot)))) f g (scan_quiet later (GiveBack place slot) next desk (mem (Claim (claim_word slot))))

abbrev pub finds_phase : (Place → ℕ) → Phase → Post → ℕ
finds_phase mem phase post = memory.found (phase_move phase post) (mem (place_in (phase_move phase post)))

pub phase_went : (slots i : ℕ) (mem : Place → ℕ) (v : View) (l : Line) (phase : Phase) (post next : Post) (desk : Desk) (list : List Lifetime) → PhaseNeeds slots mem v l phase (λ other. (machine.after other next (finds_phase mem phase post)).outcome) (finds_phase mem phase post) → Good slots v → Words slots mem v → Plays i phase list v → MoveFits i v (row_move phase post (finds_phase mem phase post)) → LineIn v l mem → WalksIn phase v l mem
    → Went i v (made i v (row_move phase post (finds_phase mem phase post))) l (line_move phase (finds_phase mem phase post)) mem (written mem (phase_move phase post)) (phase_turn phase next desk (finds_phase mem phase post))
phase_went slots i mem v l Idle post next desk list n d c p f g w =
    load_went i v l mem (phase_turn Idle next desk (mem Clock)) g (quiet_walks Idle (queue_of v) l (next_of mem) v.head (mem Tail) refl)
phase_went slots i mem v l (Runs why base) post next desk list n d c p f g w = run_went slots i mem v l why base post next desk list n d c p f g w
phase_went slots i mem v l (Scans later at) post next desk list n d c p f g w = scan_went i mem v l later at post next desk f g
phase_went slots i mem v l (Works work) post next desk list n d c p f g w = work_went slots i mem v l work post next desk list d c p f g w

born_at : (slots k : ℕ) (v : View) (slot s : ℕ) → Good slots v → v.hand k ≡ Taken slot → (slot == s) ≡ true → v.status s ≡ Born k
born_at slots k v slot s d h e = let same : slot ≡ s = grind (arith, nat_tests) in subst (λ (x : ℕ). v.status x ≡ Born k) same (of_taken slots v k slot d h)

far_joins : (last slot : ℕ) (phase : Phase) (same : Bool) → Far (if same then Joins last slot else Keeps) phase
far_joins last slot phase true = tt
far_joins last slot phase false = tt

-- a seat that has stored the link of a row has that row in hand
blank_born : (slots k : ℕ) (v : View) (phase : Phase) (list : List Lifetime) (s : ℕ) → Good slots v → Plays k phase list v → blanks_in phase s ≡ true → v.status s ≡ Born k
blank_born slots k v Idle list s d p e = absurd (no_truth e)
blank_born slots k v (Runs (Opens task) base) list s d p e = absurd (no_truth e)
blank_born slots k v (Runs (FollowsHead parent last) base) list s d p e = absurd (no_truth e)
blank_born slots k v (Runs (ClearsNext after) base) list s d p e = absurd (no_truth e)
blank_born slots k v (Runs (Clears task after) base) list s d p e = absurd (no_truth e)
blank_born slots k v (Runs (Finishes task after) base) list s d p e = absurd (no_truth e)
blank_born slots k v (Runs (GivesUp answer) base) list s d p e = absurd (no_truth e)
blank_born slots k v (Runs (Retires answer) base) list s d p e = absurd (no_truth e)
blank_born slots k v (Runs (Tidies later) base) list s d p e = absurd (no_truth e)
blank_born slots k v (Runs Advances base) list s d p e = absurd (no_truth e)
blank_born slots k v (Runs (Releases let_go) base) list s d p e = absurd (no_truth e)
blank_born slots k v (Runs (Fills (Gets key)) base) list s d p e = absurd (no_truth e)
blank_born slots k v (Runs (Fills (Changes kept)) base) list s d p e = absurd (no_truth e)
blank_born slots k v (Runs (Fills (Holds key)) base) list s d p e = absurd (no_truth e)
blank_born slots k v (Runs (Fills Dequeues) base) list s d p e = absurd (no_truth e)
blank_born slots k v (Runs (Fills (Enqueues kept)) (Begin at)) list s d p e = absurd (no_truth e)
blank_born slots k v (Runs (Fills (Enqueues kept)) (Protect aim index root steps at)) list s d p e = absurd (no_truth e)
blank_born slots k v (Runs (Fills (Enqueues kept)) (Reload parent index slot era steps)) list s d p e = absurd (no_truth e)
blank_born slots k v (Runs (Fills (Enqueues kept)) (Clear rows index)) list s d p e = absurd (no_truth e)
blank_born slots k v (Runs (Fills (Enqueues kept)) Finish) list s d p e = absurd (no_truth e)
blank_born slots k v (Runs (Fills (Enqueues kept)) (Release index)) list s d p e = absurd (no_truth e)
blank_born slots k v (Runs (Fills (Enqueues kept)) (Allocate at)) list s d p e = absurd (no_truth e)
blank_born slots k v (Runs (Fills (Enqueues kept)) (GiveUp slot)) list s d p e = absurd (no_truth e)
blank_born slots k v (Runs (Fills (Enqueues kept)) (Retire at)) list s d p e = absurd (no_truth e)
blank_born slots k v (Runs (Fills (Enqueues kept)) (Move at)) list s d p e = absurd (no_truth e)
blank_born slots k v (Runs (Fills (Enqueues kept)) (Write slot row place)) list s d p e = born_at slots k v slot s d p.hand (first_of (slot == s) (not (place == 0)) e)
blank_born slots k v (Scans later at) list s d p e = absurd (no_truth e)
blank_born slots k v (Works (Getting key at)) list s d p e = absurd (no_truth e)
blank_born slots k v (Works (Changing kept at)) list s d p e = absurd (no_truth e)
blank_born slots k v (Works (Enqueuing kept LoadNumber)) list s d p e = absurd (no_truth e)
blank_born slots k v (Works (Enqueuing kept LoadNext)) list s d p e = absurd (no_truth e)
blank_born slots k v (Works (Enqueuing kept (PassTail next))) list s d p e = absurd (no_truth e)
blank_born slots k v (Works (Enqueuing kept (ExchangeTail slot))) list s d p e = absurd (no_truth e)
blank_born slots k v (Works (Enqueuing kept (ExchangeNext slot))) list s d p e = born_at slots k v slot s d (p.hand ∙ taken_slot kept.taken slot p.right) e
blank_born slots k v (Works (Dequeuing at)) list s d p e = absurd (no_truth e)
blank_born slots k v (Works (Keeping at)) list s d p e = absurd (no_truth e)

not_blank : (k i : ℕ) (x : Status) (blanks : Bool) → (k == i) ≡ false → (blanks ≡ true → x ≡ Born k) → x ≡ Born i → blanks ≡ false
not_blank k i x true e f b = let same : Born k ≡ Born i = sym (f refl) ∙ b in let number : k ≡ i = cc in absurd (grind (arith, nat_tests))
not_blank k i x false e f b = refl

others_of : (slots k i : ℕ) (v : View) (l : Line) (mem : Place → ℕ) (phase : Phase) (list : List Lifetime) → (k == i) ≡ false → Good slots v → Plays k phase list v → LineIn v l mem → Others i v l phase
others_of slots k i v l mem phase list e d p g = record {
  unlined = λ s u. born_unlined k v l mem s g (blank_born slots k v phase list s d p u);
  apart = λ s b. not_blank k i (v.status s) (blanks_in phase s) e (λ u. blank_born slots k v phase list s d p u) b;
}

-- what the rows need, from the queue
pub queue_is : (x : Status) → in_queue x ≡ true → x ≡ InQueue
queue_is Free h = absurd (no_truth h)
queue_is (Claimed by) h = absurd (no_truth h)
queue_is (Born by) h = absurd (no_truth h)
queue_is (Linked bucket) h = absurd (no_truth h)
queue_is InQueue h = refl
queue_is (Cut by) h = absurd (no_truth h)
queue_is (Sealed by retire) h = absurd (no_truth h)
queue_is (Listed by retire) h = absurd (no_truth h)

after_head : (mem : Place → ℕ) (v : View) (l : Line) (phase : Phase) (head next number value : ℕ) → WalksIn phase v l mem → phase ≡ Works (Dequeuing (ExchangeHead head next number value)) → mem (Row head 0) ≡ next + 1
after_head mem v l phase head next number value w e =
    let P : Phase → Type 0 = λ y. WalksIn y v l mem in
    let u : WalksIn (Works (Dequeuing (ExchangeHead head next number value))) v l mem = subst P e w in u.follows head (next + 1) (same_both head (next + 1))

not_head : (numbers : ℕ → ℕ) (head next : ℕ) (same : Bool) → (next == head) ≡ same → numbers next ≡ numbers head + 1 → same ≡ false
not_head numbers head next true e h = let one : next ≡ head = grind (arith, nat_tests) in absurd (omega (arith, ap numbers one))
not_head numbers head next false e h = refl

pub queue_needs : (slots : ℕ) (mem : Place → ℕ) (v : View) (l : Line) (phase : Phase) (outcome : Base → Outcome) (found : ℕ) → PhaseNeeds slots mem v l phase outcome found → mem Head ≡ v.head → LineIn v l mem → WalksIn phase v l mem → Needs slots mem v phase
queue_needs slots mem v l phase outcome found n c g w = record {
  walks = n.walks;
  births = n.births;
  follows = λ head next number value e h. queue_is (v.status next) (g.links head next (g.first head (sym c ∙ h)) (after_head mem v l phase head next number value w e));
  apart = λ head next number value e h. not_head l.number head next (next == head) refl (g.rises head next (g.first head (sym c ∙ h)) (after_head mem v l phase head next number value w e));
}

-- the seat after its step
walks_at : (i k : ℕ) (v : View) (l : Line) (mem : Place → ℕ) (old new : Local) (same : Bool) → (k == i) ≡ same → WalksIn new.phase v l mem → ((k == i) ≡ false → WalksIn old.phase v l mem) → WalksIn (if same then new else old).phase v l mem
walks_at i k v l mem old new true e p q = p
walks_at i k v l mem old new false e p q = q e

abbrev SlotsOf : World → ℕ
SlotsOf w = w.layout.config.slots

-- no seat works on a row that is given back: so of the phase that stands, whatever it finds
pub far_by : (phase other : Phase) (found : ℕ) → ((later : AfterScan) (place slot : ℕ) → phase ≡ Scans later (GiveBack place slot) → stands_on other slot ≡ false) → Far (line_move phase found) other
far_by Idle other found f = tt
far_by (Runs why base) other found f = tt
far_by (Scans later (ReadGuard number)) other found f = tt
far_by (Scans later (GiveBack place slot)) other found f = f later place slot refl
far_by (Works (Getting key at)) other found f = tt
far_by (Works (Changing kept at)) other found f = tt
far_by (Works (Enqueuing kept LoadNumber)) other found f = tt
far_by (Works (Enqueuing kept LoadNext)) other found f = tt
far_by (Works (Enqueuing kept (PassTail next))) other found f = tt
far_by (Works (Enqueuing kept (ExchangeNext slot))) other found f = far_joins kept.tail slot other (found == 0)
far_by (Works (Enqueuing kept (ExchangeTail slot))) other found f = tt
far_by (Works (Dequeuing at)) other found f = tt
far_by (Works (Keeping at)) other found f = tt

-- the queue after a step of the World
pub world_went : (w : World) (i : ℕ) (v : View) (l : Line) → QueueNeeds w i v l → Both w v l → Went i v (rows_after w i v) l (line_move (w.seat i).phase (finds w i)) w.mem (step w i).mem (turn (offered w i) (finds w i))
world_went w i v l n b =
    let own : Local = offered w i in
    let needs : RowsNeeds w i v = queue_needs (SlotsOf w) w.mem v l own.phase (λ base. (machine.after base (counted own.post) (finds w i)).outcome) (finds w i) n.own b.rows.words.head b.queue.line (b.queue.walks i) in
    let fits : MoveFits i v (row_move own.phase own.post (finds w i)) = phase_fits (SlotsOf w) i w.mem v own.phase own.post (list_in w i) needs b.rows.good b.rows.words (b.rows.plays i) in
    phase_went (SlotsOf w) i w.mem v l own.phase own.post (counted own.post) own.desk (list_in w i) n.own b.rows.good b.rows.words (b.rows.plays i) fits b.queue.line (b.queue.walks i)

pub queue_kept : QueueKept
queue_kept w i v l n b =
    let own : Local = offered w i in
    let needs : RowsNeeds w i v = queue_needs (SlotsOf w) w.mem v l own.phase (λ base. (machine.after base (counted own.post) (finds w i)).outcome) (finds w i) n.own b.rows.words.head b.queue.line (b.queue.walks i) in
    let t : CallTurn = turn own (finds w i) in
    let went : Went i v (rows_after w i v) l (line_move own.phase (finds w i)) w.mem (step w i).mem (turn own (finds w i)) = world_went w i v l n b in
    let P : Phase → Type 0 = λ y. WalksIn y (rows_after w i v) (line_after w i l) (step w i).mem in
    record {
      rows = rows_kept w i v needs b.rows;
      queue = record {
        line = went.line;
        walks = λ k. walks_at i k (rows_after w i v) (line_after w i l) (step w i).mem (w.seat k) (settled own t) (k == i) refl (subst P (settled_phase own t.post (noting t.desk (told_by t)) (rounds_told (publishes_rows (scheme_of t.post)) own.rounds (told_by t)) t.outcome) went.own) (λ e. went.others (w.seat k).phase (b.queue.walks k) (far_by own.phase (w.seat k).phase (finds w i) (λ later place slot q. n.backs later place slot k q)) (others_of (SlotsOf w) k i v l w.mem (w.seat k).phase (list_in w k) e b.rows.good (b.rows.plays k) b.queue.line));
      };
    }

-- a call begins with nothing found of the queue
let_by_quiet : (let_go : LetGo) (x : Option Base) → is_quiet (rounds.letting_by let_go x) ≡ true
let_by_quiet let_go None = refl
let_by_quiet let_go (Some base) = refl

letting_quiet : (let_go : LetGo) (post : Post) → is_quiet (rounds.letting let_go post) ≡ true
letting_quiet let_go post = let_by_quiet let_go (rounds.release_base (scheme_of post) post (rounds.let_index let_go))

holding_quiet : (key : ℕ) (post : Post) (x : Option ℕ) → is_quiet (holding key post x) ≡ true
holding_quiet key post None = round_quiet (Holds key) post
holding_quiet key post (Some slot) = letting_quiet (Rehold key) post

copying_quiet : (from index : ℕ) (x : Option ℕ) → is_quiet (copying from index x) ≡ true
copying_quiet from index None = refl
copying_quiet from index (Some slot) = refl

looking_quiet : (index key : ℕ) (x : Option ℕ) → is_quiet (looking_at index key x) ≡ true
looking_quiet index key None = refl
looking_quiet index key (Some slot) = refl

pub first_quiet : (call : Call) (post : Post) → is_quiet (first_phase call post) ≡ true
first_quiet (names.Get key) post = round_quiet (Gets key) post
first_quiet (names.Put key value) post = round_quiet (Changes _) post
first_quiet (names.Remove key) post = round_quiet (Changes _) post
first_quiet (names.Enqueue value) post = round_quiet (Enqueues _) post
first_quiet names.Dequeue post = round_quiet Dequeues post
first_quiet (names.Hold key) post = holding_quiet key post (stands post 2)
first_quiet names.Release post = letting_quiet Released post
first_quiet names.Advance post = refl
first_quiet names.Scan post = refl
first_quiet (names.Copy from index) post = copying_quiet from index (stands post from)
first_quiet (names.DropIndex index) post = letting_quiet (Dropped index) post
first_quiet (names.Look index key) post = looking_quiet index key (stands post index)
first_quiet (names.PutIf key value version) post = round_quiet (Changes _) post
first_quiet names.Leave post = parting_quiet post
first_quiet (names.Adopt place) post = refl

pub queue_begin : QueueBegin
queue_begin w i call v l b = record {
  line = b.line;
  walks = λ k. walks_at i k v l w.mem (w.seat k) (begun (w.seat i) call) (k == i) refl (quiet_walks (first_phase call (begun_post (w.seat i).post)) (queue_of v) l (next_of w.mem) v.head (w.mem Tail) (first_quiet call (begun_post (w.seat i).post))) (λ e. b.walks k);
}

-- the start
first_next : (layout : Layout) (s : ℕ) → next_of (start layout).mem s ≡ 0
first_next layout s = grind (arith, nat_tests)

pub queue_start : QueueStart
queue_start layout h = record {
  line = record {
    lined = λ s u. grind (arith, nat_tests);
    passed = λ s u. grind (arith, nat_tests);
    last = λ s u k. grind (arith, nat_tests);
    links = λ s t u k. absurd (grind (arith, nat_tests, first_next layout s));
    rises = λ s t u k. absurd (grind (arith, nat_tests, first_next layout s));
    one = λ s t u k e. grind (arith, nat_tests);
    first = λ s u. grind (arith, nat_tests);
    least = λ s x u k. omega arith;
    most = λ s t u k e. omega arith;
    reached = λ s u. grind (arith, nat_tests);
    some = omega arith;
  };
  walks = λ k. quiet_walks Idle (queue_of (first_rows layout)) (first_line layout) (next_of (start layout).mem) (layout.config.slots + 1) (layout.config.slots + 1) refl;
}
