-- What is ready at one count of steps, or may be found there, is so at another. So a call may count its step first.
use Rattle.std.proofs.Common.{ℕ, ◌≡◌, List, ◌++◌, Option, Some, None, sym, ap, subst}
use Rattle.wfe_core.specs.words.Packed.{read_request}
use Rattle.wfe_core.specs.words.Schemes.{publishes_rows}
use Rattle.wfe_core.specs.words.declared.packed.Request.{Request}
use Rattle.wfe_core.specs.words.declared.packed.Request.TheVariants as requests
use Rattle.wfe_core.specs.defs.declared.call.Answer.{Answer}
use Rattle.wfe_core.specs.defs.declared.event.Event.{Event}
use Rattle.wfe_core.specs.defs.declared.event.Root.{Root}
use Rattle.wfe_core.specs.declared.desk.Desk.{Desk as HeldDesk}
use Rattle.wfe_core.specs.declared.post.Post.{Post}
use Rattle.wfe_core.specs.CallReady.{TakenFits, ChangeFits, EnqueueFits, TaskFits, FillFits, LaterFits, why_ready, get_ready, change_ready, enqueue_ready, dequeue_ready, keep_ready, work_ready, scan_ready, IsCallReady, get_plausible, change_plausible, enqueue_plausible, dequeue_plausible, keep_plausible, work_plausible, IsCallPlausible}
use Rattle.wfe_core.specs.Calls.{ChangeKept, EnqueueKept, Task, Gets, Changes, Holds, Enqueues, Dequeues, AfterScan, Answered, Repeated, Counted, Why, Opens, FollowsHead, Fills, ClearsNext, Clears, Finishes, GivesUp, Retires, Tidies, Advances, Releases, ScanAt, ReadGuard, GiveBack, GetAt, FindVersion, FindCount, FindKey, FindValue, ChangeAt, LoadVersion, LoadCount, LoadKey, LoadValue, ExchangeRoot, EnqueueAt, LoadNumber, LoadNext, PassTail, ExchangeNext, ExchangeTail, DequeueAt, LoadTail, SwingTail, TakeNumber, TakeValue, ExchangeHead, Work, Getting, Changing, Enqueuing, Dequeuing, Keeping, KeepAt, Loosens, LoadHeld, StoreHeld, Looks, Misses, HideSpan, MarkLeft, TakeList, MarkTaken, Phase, Idle, Runs, Scans, Works}
use Rattle.wfe_core.specs.DeskHeld.{Took, desk_of, told_answer}
use Rattle.wfe_core.specs.Desks.{Desk, noting}
use Rattle.wfe_core.specs.Memory.{bump}
use Rattle.wfe_core.specs.Phases.{HazardAt, ProtectAt, AllocateAt, RetireAt, MoveAt, BeginAt, RowOf, MapRow, QueueRow, Base}
use Rattle.wfe_core.specs.Phases.BeginAt.{LoadLower, PublishSpan}
use Rattle.wfe_core.specs.Phases.ProtectAt.{LoadClock, PublishEra, LoadLink, CheckClock, PublishRequest, LoadOwnClock, PublishHelper, LoadOwnLink, CheckOwnClock, AnswerOwn, LoadAnswer, TakeAnswer, WithdrawRequest, WithdrawHelper, LoadWithin, CheckUpper, RaiseUpper, ByHazard}
use Rattle.wfe_core.specs.Phases.HazardAt.{FirstLink, PublishLink, CheckLink}
use Rattle.wfe_core.specs.Phases.AllocateAt.{LoadBirth, ClaimSlot, StoreLife}
use Rattle.wfe_core.specs.Phases.RetireAt.{LoadLife, LoadRetire, StoreRetired}
use Rattle.wfe_core.specs.Phases.MoveAt.{LoadEra, LoadRequest, ShowEra, LoadAsked, CheckEra, AnswerAsked, LoadReserved, HandOver, HideEra, HideLate, ExchangeClock}
use Rattle.wfe_core.specs.Phases.Base.{Begin, Protect, Reload, Clear, Finish, Release, Allocate, Write, GiveUp, Retire, Move}
use Rattle.wfe_core.specs.Posts.{counted}
use Rattle.wfe_core.specs.Ready.{begin_ready, hazard_ready, protect_ready, allocate_ready, retire_ready, AskFits, move_ready, RowFits, IsReady, AskedFits, hazard_plausible, protect_plausible, move_plausible, Plausible}
use Rattle.wfe_core.specs.Rounds.{scheme_of}
use Rattle.wfe_core.specs.Steps.{phase_turn}
use Rattle.wfe_call_rounds.specs.Steps.{Steps}
use Rattle.wfe_call_rounds.proofs.Taken.{scan_counted, shown_counted, took_from}

begin_ready_at : (at : BeginAt) (post : Post) (steps : ℕ) → begin_ready at post → begin_ready at (record post { steps = steps })
begin_ready_at LoadLower post steps h = h
begin_ready_at (PublishSpan era) post steps h = h

hazard_ready_at : (at : HazardAt) (post : Post) (steps : ℕ) → hazard_ready at post → hazard_ready at (record post { steps = steps })
hazard_ready_at FirstLink post steps h = h
hazard_ready_at (PublishLink link) post steps h = h
hazard_ready_at (CheckLink link) post steps h = h

protect_ready_at : (at : ProtectAt) (index : ℕ) (post : Post) (steps : ℕ) → protect_ready at index post → protect_ready at index (record post { steps = steps })
protect_ready_at (LoadClock tries) index post steps h = h
protect_ready_at (PublishEra era tries) index post steps h = h
protect_ready_at (LoadLink era tries) index post steps h = h
protect_ready_at (CheckClock era tries link) index post steps h = h
protect_ready_at PublishRequest index post steps h = h
protect_ready_at LoadOwnClock index post steps h = h
protect_ready_at (PublishHelper first era last) index post steps h = h
protect_ready_at (LoadOwnLink first era last) index post steps h = h
protect_ready_at (CheckOwnClock first era last link) index post steps h = h
protect_ready_at (AnswerOwn first era link) index post steps h = h
protect_ready_at (LoadAnswer first) index post steps h = h
protect_ready_at (TakeAnswer link era) index post steps h = h
protect_ready_at (WithdrawRequest link era) index post steps h = h
protect_ready_at (WithdrawHelper link era) index post steps h = h
protect_ready_at LoadWithin index post steps h = h
protect_ready_at (CheckUpper link) index post steps h = h
protect_ready_at (RaiseUpper era) index post steps h = h
protect_ready_at (ByHazard at) index post steps h = hazard_ready_at at post steps h

allocate_ready_at : (at : AllocateAt) (post : Post) (steps : ℕ) → allocate_ready at post → allocate_ready at (record post { steps = steps })
allocate_ready_at LoadBirth post steps h = h
allocate_ready_at (ClaimSlot birth walk) post steps h = record { slot = h.slot; left = h.left }
allocate_ready_at (StoreLife birth slot) post steps h = h

retire_ready_at : (at : RetireAt) (post : Post) (steps : ℕ) → retire_ready at post → retire_ready at (record post { steps = steps })
retire_ready_at (LoadLife slot) post steps h = h
retire_ready_at (LoadRetire slot birth) post steps h = h
retire_ready_at (StoreRetired slot birth retire) post steps h = h

ask_fits_at : (seat tag index : ℕ) (root : Root) (post : Post) (steps : ℕ) → AskFits post seat tag index root → AskFits (record post { steps = steps }) seat tag index root
ask_fits_at seat tag index root post steps h = record { seat_in = h.seat_in; tag_in = h.tag_in; index_in = h.index_in; root_in = h.root_in }

move_ready_at : (at : MoveAt) (post : Post) (steps : ℕ) → move_ready at post → move_ready at (record post { steps = steps })
move_ready_at (LoadEra helps) post steps h = h
move_ready_at (LoadRequest era seat shows) post steps h = h
move_ready_at (ShowEra era seat tag index root) post steps h = ask_fits_at seat tag index root post steps h
move_ready_at (LoadAsked era seat tag index root) post steps h = ask_fits_at seat tag index root post steps h
move_ready_at (CheckEra era seat tag index root link) post steps h = ask_fits_at seat tag index root post steps h
move_ready_at (AnswerAsked era seat tag index root link) post steps h = (ask_fits_at seat tag index root post steps h.0, h.1, h.2)
move_ready_at (LoadReserved era seat tag index root link) post steps h = ask_fits_at seat tag index root post steps h
move_ready_at (HandOver era seat tag index root link old) post steps h = ask_fits_at seat tag index root post steps h
move_ready_at (HideEra era) post steps h = h
move_ready_at (HideLate seen) post steps h = h
move_ready_at (ExchangeClock era) post steps h = h

row_fits_at : (at : RowOf) (post : Post) (steps : ℕ) → RowFits post at → RowFits (record post { steps = steps }) at
row_fits_at (MapRow version pairs) post steps h = h
row_fits_at (QueueRow number value) post steps h = h

pub base_ready : (at : Base) (post : Post) (steps : ℕ) → IsReady at post → IsReady at (record post { steps = steps })
base_ready (Begin at) post steps h = begin_ready_at at post steps h
base_ready (Protect aim index root s at) post steps h = (h.0, h.1, protect_ready_at at index post steps h.2)
base_ready (Reload parent index slot era s) post steps h = h
base_ready (Clear rows index) post steps h = h
base_ready Finish post steps h = h
base_ready (Release index) post steps h = h
base_ready (Allocate at) post steps h = allocate_ready_at at post steps h
base_ready (Write slot row place) post steps h = (h.0, row_fits_at row post steps h.1, h.2, h.3)
base_ready (GiveUp slot) post steps h = h
base_ready (Retire at) post steps h = retire_ready_at at post steps h
base_ready (Move at) post steps h = move_ready_at at post steps h

hazard_plausible_at : (at : HazardAt) (post : Post) (steps found : ℕ) → hazard_plausible at post found → hazard_plausible at (record post { steps = steps }) found
hazard_plausible_at FirstLink post steps found h = h
hazard_plausible_at (PublishLink link) post steps found h = h
hazard_plausible_at (CheckLink link) post steps found h = h

protect_plausible_at : (at : ProtectAt) (post : Post) (steps found : ℕ) → protect_plausible at post found → protect_plausible at (record post { steps = steps }) found
protect_plausible_at (LoadClock tries) post steps found h = h
protect_plausible_at (PublishEra era tries) post steps found h = h
protect_plausible_at (LoadLink era tries) post steps found h = h
protect_plausible_at (CheckClock era tries link) post steps found h = h
protect_plausible_at PublishRequest post steps found h = h
protect_plausible_at LoadOwnClock post steps found h = h
protect_plausible_at (PublishHelper first era last) post steps found h = h
protect_plausible_at (LoadOwnLink first era last) post steps found h = h
protect_plausible_at (CheckOwnClock first era last link) post steps found h = h
protect_plausible_at (AnswerOwn first era link) post steps found h = h
protect_plausible_at (LoadAnswer first) post steps found h = h
protect_plausible_at (TakeAnswer link era) post steps found h = h
protect_plausible_at (WithdrawRequest link era) post steps found h = h
protect_plausible_at (WithdrawHelper link era) post steps found h = h
protect_plausible_at LoadWithin post steps found h = h
protect_plausible_at (CheckUpper link) post steps found h = h
protect_plausible_at (RaiseUpper era) post steps found h = h
protect_plausible_at (ByHazard at) post steps found h = hazard_plausible_at at post steps found h

asked_fits_at : (request : Option Request) (post : Post) (steps : ℕ) → AskedFits post request → AskedFits (record post { steps = steps }) request
asked_fits_at (Some (requests.Pending tag index word)) post steps h = h
asked_fits_at (Some (requests.Answered link era)) post steps h = h
asked_fits_at (Some requests.Idle) post steps h = h
asked_fits_at None post steps h = h

move_plausible_at : (at : MoveAt) (post : Post) (steps found : ℕ) → move_plausible at post found → move_plausible at (record post { steps = steps }) found
move_plausible_at (LoadEra helps) post steps found h = h
move_plausible_at (LoadRequest era seat shows) post steps found h = asked_fits_at (read_request found) post steps h
move_plausible_at (ShowEra era seat tag index root) post steps found h = h
move_plausible_at (LoadAsked era seat tag index root) post steps found h = h
move_plausible_at (CheckEra era seat tag index root link) post steps found h = h
move_plausible_at (AnswerAsked era seat tag index root link) post steps found h = h
move_plausible_at (LoadReserved era seat tag index root link) post steps found h = h
move_plausible_at (HandOver era seat tag index root link old) post steps found h = h
move_plausible_at (HideEra era) post steps found h = h
move_plausible_at (HideLate seen) post steps found h = h
move_plausible_at (ExchangeClock era) post steps found h = h

pub base_plausible : (at : Base) (post : Post) (steps found : ℕ) → Plausible at post found → Plausible at (record post { steps = steps }) found
base_plausible (Begin at) post steps found h = h
base_plausible (Protect aim index root s at) post steps found h = protect_plausible_at at post steps found h
base_plausible (Reload parent index slot era s) post steps found h = h
base_plausible (Clear rows index) post steps found h = h
base_plausible Finish post steps found h = h
base_plausible (Release index) post steps found h = h
base_plausible (Allocate at) post steps found h = h
base_plausible (Write slot row place) post steps found h = h
base_plausible (GiveUp slot) post steps found h = h
base_plausible (Retire at) post steps found h = h
base_plausible (Move at) post steps found h = move_plausible_at at post steps found h

taken_fits_at : (taken : Option ℕ) (post : Post) (steps : ℕ) → TakenFits post taken → TakenFits (record post { steps = steps }) taken
taken_fits_at None post steps h = h
taken_fits_at (Some slot) post steps h = h

change_fits_at : (kept : ChangeKept) (post : Post) (steps : ℕ) → ChangeFits post kept → ChangeFits (record post { steps = steps }) kept
change_fits_at kept post steps h = record { taken = taken_fits_at kept.taken post steps h.taken; link = h.link; version = h.version; pairs = h.pairs }

enqueue_fits_at : (kept : EnqueueKept) (post : Post) (steps : ℕ) → EnqueueFits post kept → EnqueueFits (record post { steps = steps }) kept
enqueue_fits_at kept post steps h = record { taken = taken_fits_at kept.taken post steps h.taken; tail = h.tail; number = h.number }

task_fits_at : (task : Task) (post : Post) (steps : ℕ) → TaskFits post task → TaskFits (record post { steps = steps }) task
task_fits_at (Gets key) post steps h = h
task_fits_at (Changes kept) post steps h = change_fits_at kept post steps h
task_fits_at (Holds key) post steps h = h
task_fits_at (Enqueues kept) post steps h = enqueue_fits_at kept post steps h
task_fits_at Dequeues post steps h = h

fill_fits_at : (task : Task) (post : Post) (steps : ℕ) → FillFits post task → FillFits (record post { steps = steps }) task
fill_fits_at (Gets key) post steps h = h
fill_fits_at (Changes kept) post steps h = h
fill_fits_at (Holds key) post steps h = h
fill_fits_at (Enqueues kept) post steps h = h
fill_fits_at Dequeues post steps h = h

later_fits_at : (later : AfterScan) (post : Post) (steps : ℕ) → LaterFits post later → LaterFits (record post { steps = steps }) later
later_fits_at (Answered answer) post steps h = h
later_fits_at (Repeated task) post steps h = task_fits_at task post steps h
later_fits_at Counted post steps h = h

why_ready_at : (why : Why) (base : Base) (post : Post) (desk : Desk) (steps : ℕ) → why_ready why base post desk → why_ready why base (record post { steps = steps }) desk
why_ready_at (Opens task) base post desk steps h = task_fits_at task post steps h
why_ready_at (FollowsHead head tail) base post desk steps h = h
why_ready_at (Fills task) base post desk steps h = (task_fits_at task post steps h.0, fill_fits_at task post steps h.1)
why_ready_at (ClearsNext next) base post desk steps h = h
why_ready_at (Clears task next) base post desk steps h = task_fits_at task post steps h
why_ready_at (Finishes task next) base post desk steps h = task_fits_at task post steps h
why_ready_at (GivesUp answer) base post desk steps h = h
why_ready_at (Retires answer) base post desk steps h = h
why_ready_at (Tidies later) base post desk steps h = later_fits_at later post steps h
why_ready_at Advances base post desk steps h = h
why_ready_at (Releases let_go) base post desk steps h = h

get_ready_at : (at : GetAt) (post : Post) (steps : ℕ) → get_ready at post → get_ready at (record post { steps = steps })
get_ready_at (FindVersion slot) post steps h = h
get_ready_at (FindCount slot version) post steps h = h
get_ready_at (FindKey slot version count pair) post steps h = h
get_ready_at (FindValue slot version pair) post steps h = h

change_ready_at : (kept : ChangeKept) (at : ChangeAt) (post : Post) (steps : ℕ) → change_ready kept at post → change_ready kept at (record post { steps = steps })
change_ready_at kept (LoadVersion slot) post steps h = h
change_ready_at kept (LoadCount slot) post steps h = h
change_ready_at kept (LoadKey slot count) post steps h = h
change_ready_at kept (LoadValue slot count key) post steps h = h
change_ready_at kept (ExchangeRoot slot) post steps h = h

enqueue_ready_at : (kept : EnqueueKept) (at : EnqueueAt) (post : Post) (steps : ℕ) → enqueue_ready kept at post → enqueue_ready kept at (record post { steps = steps })
enqueue_ready_at kept LoadNumber post steps h = h
enqueue_ready_at kept LoadNext post steps h = h
enqueue_ready_at kept (PassTail next) post steps h = h
enqueue_ready_at kept (ExchangeNext slot) post steps h = h
enqueue_ready_at kept (ExchangeTail slot) post steps h = h

dequeue_ready_at : (at : DequeueAt) (post : Post) (steps : ℕ) → dequeue_ready at post → dequeue_ready at (record post { steps = steps })
dequeue_ready_at (LoadTail head) post steps h = h
dequeue_ready_at (SwingTail head next) post steps h = h
dequeue_ready_at (TakeNumber head next) post steps h = h
dequeue_ready_at (TakeValue head next number) post steps h = h
dequeue_ready_at (ExchangeHead head next number value) post steps h = h

keep_ready_at : (at : KeepAt) (post : Post) (steps : ℕ) → keep_ready at post → keep_ready at (record post { steps = steps })
keep_ready_at (Loosens let_go) post steps h = h
keep_ready_at (LoadHeld from index) post steps h = h
keep_ready_at (StoreHeld from index era) post steps h = (h.0, shown_counted (publishes_rows (scheme_of post)) post steps era h.1)
keep_ready_at (Looks index key at) post steps h = get_ready_at at post steps h
keep_ready_at (Misses index) post steps h = h
keep_ready_at HideSpan post steps h = h
keep_ready_at MarkLeft post steps h = h
keep_ready_at (TakeList place) post steps h = h
keep_ready_at (MarkTaken place count) post steps h = h

work_ready_at : (at : Work) (post : Post) (steps : ℕ) → work_ready at post → work_ready at (record post { steps = steps })
work_ready_at (Getting key at) post steps h = get_ready_at at post steps h
work_ready_at (Changing kept at) post steps h = (change_fits_at kept post steps h.0, change_ready_at kept at post steps h.1)
work_ready_at (Enqueuing kept at) post steps h = (enqueue_fits_at kept post steps h.0, enqueue_ready_at kept at post steps h.1)
work_ready_at (Dequeuing at) post steps h = dequeue_ready_at at post steps h
work_ready_at (Keeping at) post steps h = keep_ready_at at post steps h

scan_ready_at : (at : ScanAt) (post : Post) (desk : Desk) (steps : ℕ) → scan_ready at post desk → scan_ready at (record post { steps = steps }) desk
scan_ready_at (ReadGuard number) post desk steps h = h
scan_ready_at (GiveBack place slot) post desk steps h = (h.0, record { entry = h.1.entry; back = h.1.back })

call_ready : (phase : Phase) (post : Post) (desk : Desk) (steps : ℕ) → IsCallReady phase post desk → IsCallReady phase (record post { steps = steps }) desk
call_ready Idle post desk steps h = h
call_ready (Runs why base) post desk steps h = (base_ready base post steps h.0, why_ready_at why base post desk steps h.1)
call_ready (Scans later at) post desk steps h = (later_fits_at later post steps h.0, scan_ready_at at post desk steps h.1)
call_ready (Works work) post desk steps h = work_ready_at work post steps h

get_plausible_at : (at : GetAt) (post : Post) (steps found : ℕ) → get_plausible at post found → get_plausible at (record post { steps = steps }) found
get_plausible_at (FindVersion slot) post steps found h = h
get_plausible_at (FindCount slot version) post steps found h = h
get_plausible_at (FindKey slot version count pair) post steps found h = h
get_plausible_at (FindValue slot version pair) post steps found h = h

change_plausible_at : (at : ChangeAt) (post : Post) (steps found : ℕ) → change_plausible at post found → change_plausible at (record post { steps = steps }) found
change_plausible_at (LoadVersion slot) post steps found h = h
change_plausible_at (LoadCount slot) post steps found h = h
change_plausible_at (LoadKey slot count) post steps found h = h
change_plausible_at (LoadValue slot count key) post steps found h = h
change_plausible_at (ExchangeRoot slot) post steps found h = h

enqueue_plausible_at : (at : EnqueueAt) (post : Post) (steps found : ℕ) → enqueue_plausible at post found → enqueue_plausible at (record post { steps = steps }) found
enqueue_plausible_at LoadNumber post steps found h = h
enqueue_plausible_at LoadNext post steps found h = h
enqueue_plausible_at (PassTail next) post steps found h = h
enqueue_plausible_at (ExchangeNext slot) post steps found h = h
enqueue_plausible_at (ExchangeTail slot) post steps found h = h

dequeue_plausible_at : (at : DequeueAt) (post : Post) (steps found : ℕ) → dequeue_plausible at post found → dequeue_plausible at (record post { steps = steps }) found
dequeue_plausible_at (LoadTail head) post steps found h = h
dequeue_plausible_at (SwingTail head next) post steps found h = h
dequeue_plausible_at (TakeNumber head next) post steps found h = h
dequeue_plausible_at (TakeValue head next number) post steps found h = h
dequeue_plausible_at (ExchangeHead head next number value) post steps found h = h

keep_plausible_at : (at : KeepAt) (post : Post) (steps found : ℕ) → keep_plausible at post found → keep_plausible at (record post { steps = steps }) found
keep_plausible_at (Loosens let_go) post steps found h = h
keep_plausible_at (LoadHeld from index) post steps found h = shown_counted (publishes_rows (scheme_of post)) post steps found h
keep_plausible_at (StoreHeld from index era) post steps found h = h
keep_plausible_at (Looks index key at) post steps found h = get_plausible_at at post steps found h
keep_plausible_at (Misses index) post steps found h = h
keep_plausible_at HideSpan post steps found h = h
keep_plausible_at MarkLeft post steps found h = h
keep_plausible_at (TakeList place) post steps found h = h
keep_plausible_at (MarkTaken place count) post steps found h = h

work_plausible_at : (at : Work) (post : Post) (steps found : ℕ) → work_plausible at post found → work_plausible at (record post { steps = steps }) found
work_plausible_at (Getting key at) post steps found h = get_plausible_at at post steps found h
work_plausible_at (Changing kept at) post steps found h = change_plausible_at at post steps found h
work_plausible_at (Enqueuing kept at) post steps found h = enqueue_plausible_at at post steps found h
work_plausible_at (Dequeuing at) post steps found h = dequeue_plausible_at at post steps found h
work_plausible_at (Keeping at) post steps found h = keep_plausible_at at post steps found h

call_plausible : (phase : Phase) (post : Post) (steps found : ℕ) → IsCallPlausible phase post found → IsCallPlausible phase (record post { steps = steps }) found
call_plausible Idle post steps found h = h
call_plausible (Runs why base) post steps found h = base_plausible base post steps found h
call_plausible (Scans later at) post steps found h = scan_counted at post steps found h
call_plausible (Works work) post steps found h = work_plausible_at work post steps found h

steps_counted : (post : Post) (steps : ℕ) → steps ≡ bump post.steps → record post { steps = steps } ≡ counted post
steps_counted post steps e = ap (λ (n : ℕ). record post { steps = n }) e

-- a call whose phase does not depend on its count of steps is ready once it has counted
pub ready_counted : (at : Post → Phase) (post : Post) (steps : ℕ) (desk : Desk) → at post ≡ at (counted post) → steps ≡ bump post.steps → IsCallReady (at post) post desk → IsCallReady (at (record post { steps = steps })) (record post { steps = steps }) desk
ready_counted at post steps desk c e h =
    subst (λ (p : Post). IsCallReady (at p) p desk) (sym (steps_counted post steps e)) (
    subst (λ (phase : Phase). IsCallReady phase (counted post) desk) c (call_ready (at post) post desk (bump post.steps) h)
    )

-- what it may find is the same
pub plausible_counted : (at : Post → Phase) (post : Post) (steps found : ℕ) → at post ≡ at (counted post) → steps ≡ bump post.steps → IsCallPlausible (at post) post found → IsCallPlausible (at (record post { steps = steps })) (record post { steps = steps }) found
plausible_counted at post steps found c e h =
    subst (λ (p : Post). IsCallPlausible (at p) p found) (sym (steps_counted post steps e)) (
    subst (λ (phase : Phase). IsCallPlausible phase (counted post) found) c (call_plausible (at post) post (bump post.steps) found h)
    )

-- a call that was counted, made its step and noted its events took its turn
pub took_counted : (at : Post → Phase) (post last : Post) (steps found : ℕ) (desk stop : Desk) (told all : List Event) (answer : Option Answer) (phase : Phase) (held : HeldDesk) → at post ≡ at (counted post) → steps ≡ bump post.steps → Steps (phase_turn (at (record post { steps = steps })) (record post { steps = steps }) desk found) last stop told answer phase → all ≡ told ++ told_answer last answer → desk_of held ≡ noting stop all → Took (phase_turn (at post) (counted post) desk found) last held all answer phase
took_counted at post last steps found desk stop told all answer phase held c e s a d =
    let stepped : Steps (phase_turn (at (counted post)) (counted post) desk found) last stop told answer phase =
    subst (λ (p : Post). Steps (phase_turn (at p) p desk found) last stop told answer phase) (steps_counted post steps e) s
    in
    took_from (phase_turn (at post) (counted post) desk found) last stop told all answer phase held (
    subst (λ (p : Phase). Steps (phase_turn p (counted post) desk found) last stop told answer phase) (sym c) stepped
    ) a d
