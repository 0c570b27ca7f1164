-- Links and slots stay within the table, at the start and over each step and each call that begins.
use Rattle.std.proofs.Common.{ℕ, zero, suc, ◌≡◌, ◌≤◌, ◌+◌, Bool, true, false, List, refl, sym, subst, arith}
use Rattle.std.proofs.lemmas.Bool.Decides.{nat_tests}
use Rattle.std.proofs.lemmas.List.Elements.{All-nil}
use Rattle.std.specs.Prelude.{◌==◌, ◌&&◌, nat_le, if◌then◌else◌}
use Rattle.wfe_core.specs.words.Place.{Place, same, has, is_valid}
use Rattle.wfe_core.specs.words.Place.Place.{Clock, Helper, Index, Interval, Bucket, Head, Tail, Claim, Life, Row, PlaceOf, Request as RequestOf}
use Rattle.wfe_core.specs.words.declared.config.Config.{Config}
use Rattle.wfe_core.specs.words.declared.layout.Layout.{Layout}
use Rattle.wfe_core.proofs.words.Places.{same_one}
use Rattle.wfe_core.specs.defs.declared.call.Call.{Call}
use Rattle.wfe_core.specs.defs.declared.event.Event.{Event}
use Rattle.wfe_core.specs.defs.declared.event.Root.{Root}
use Rattle.wfe_core.specs.defs.declared.lifetime.Lifetime.{Lifetime}
use Rattle.wfe_core.specs.declared.post.Post.{Post}
use Rattle.wfe_core.specs.Desks.{Desk, noting}
use Rattle.wfe_core.specs.Memory.{Move, Load, Store, Cas, Or, And, place_in, change, found, written}
use Rattle.wfe_core.specs.Posts.{counted}
use Rattle.wfe_core.specs.Phases.{BeginAt, HazardAt, ProtectAt, AllocateAt, RetireAt, MoveAt, RowOf, MapRow, QueueRow, Base, Outcome, Goes, Ends}
use Rattle.wfe_core.specs.Phases.BeginAt.{LoadLower}
use Rattle.wfe_core.specs.Phases.ProtectAt.{LoadClock, ByHazard}
use Rattle.wfe_core.specs.Phases.HazardAt.{FirstLink}
use Rattle.wfe_core.specs.Phases.AllocateAt.{LoadBirth, ClaimSlot, StoreLife}
use Rattle.wfe_core.specs.Phases.RetireAt.{LoadLife}
use Rattle.wfe_core.specs.Phases.MoveAt.{LoadEra}
use Rattle.wfe_core.specs.Phases.Base.{Begin, Protect, Reload, Clear, Finish, Release, Allocate, Write, GiveUp, Retire, Move as Moves}
use Rattle.wfe_core.specs.WriteRow.{row_word, first_written, last_written}
use Rattle.wfe_core.specs.Machine.{begin_move, hazard_move, protect_move, allocate_move, retire_move, move_move, base_move}
use Rattle.wfe_core.specs.Get.{get_move}
use Rattle.wfe_core.specs.Change.{change_move}
use Rattle.wfe_core.specs.Enqueue.{enqueue_move}
use Rattle.wfe_core.specs.Dequeue.{dequeue_move}
use Rattle.wfe_core.specs.Keep.{keep_move}
use Rattle.wfe_core.specs.Scan.{scan_move}
use Rattle.wfe_core.proofs.Ranges.{bounds_of}
use Rattle.wfe_core.specs.Steps.{resumed, work_move, phase_move, phase_turn}
use Rattle.wfe_core.specs.Locals.{Local, move, after, settled_by, settled, told_by, rounds_told, may_begin, begun_post, begun, fresh}
use Rattle.wfe_core.specs.Calls.{ChangeKept, EnqueueKept, GetAt, FindVersion, ChangeAt, ExchangeRoot, EnqueueAt, LoadNumber, LoadNext, PassTail, ExchangeNext, ExchangeTail, DequeueAt, LoadTail, SwingTail, TakeNumber, TakeValue, ExchangeHead, KeepAt, Loosens, LoadHeld, StoreHeld, Looks, Misses, HideSpan, MarkLeft, TakeList, MarkTaken, Work, Getting, Changing, Enqueuing, Dequeuing, Keeping, ScanAt, ReadGuard, GiveBack, Why, Phase, Idle, Runs, Scans, Works, CallTurn, CallOutcome, GoesOn, Answers}
use Rattle.wfe_core.specs.Rounds.{scheme_of}
use Rattle.wfe_core.specs.words.Schemes.{publishes_rows}
use Rattle.wfe_core.specs.World.{World, first_word, start, begin, step, gift_at, offered}
use Rattle.inv_rows.specs.Shapes.Frame.{phase_left}
use Rattle.inv_rows.specs.Shapes.Seats.{Run, PostFits, PhaseFits, Seats}
use Rattle.inv_rows.specs.Shapes.Eras.{Eras}
use Rattle.inv_rows.specs.Shapes.Slots.{RowLink, WordSlots, MoveSlots, WorkIn, PhaseIn, PostIn, ListIn, WhyIn, OutcomeIn, TurnSlots, SeatSlots, Slots, phase_finds, SlotsNeeds, ScanIn}
use Rattle.inv_rows.proofs.Shapes.Frame.{seat_stays, seat_steps, begin_stays, begin_begins, finds_counted}
use Rattle.inv_rows.proofs.Shapes.Kept.{counted_fits, run_counted, one_moves}
use Rattle.inv_rows.proofs.Shapes.Decode.{told_of}
use Rattle.inv_rows.proofs.Shapes.Inside.{shape_moves}
use Rattle.inv_rows.proofs.Shapes.SlotCalls.{work_links, work_slots, scan_slots, resume_slots, first_slots}
use Rattle.inv_rows.proofs.Shapes.SlotSteps.{Linked, machine_slots}

-- what an operation leaves in the words
slot_change : (slots : ℕ) (m : Move) (word : ℕ) → MoveSlots slots m → WordSlots slots (place_in m) word → WordSlots slots (place_in m) (change m word)
slot_change slots (Load place) word h e = e
slot_change slots (Store place value) word h e = h
slot_change slots (Cas place old new) word h e = by (word == old)
  where
    by : (b : Bool) → WordSlots slots place (if b then new else word)
    by true = h
    by false = e
slot_change slots (Or place bits) word h e = h _
slot_change slots (And place bits) word h e = h _

slot_by : (slots : ℕ) (mem : Place → ℕ) (place : Place) (value : ℕ) (other : Place) (b : Bool) → same other place ≡ b → WordSlots slots place value → WordSlots slots other (mem other) → WordSlots slots other (if b then value else mem other)
slot_by slots mem place value other true e h g = subst (λ (p : Place). WordSlots slots p value) (sym (same_one other place e)) h
slot_by slots mem place value other false e h g = g

slots_written : (slots : ℕ) (mem : Place → ℕ) (m : Move) → MoveSlots slots m → ((place : Place) → WordSlots slots place (mem place)) → (place : Place) → WordSlots slots place (written mem m place)
slots_written slots mem (Load at) h e place = e place
slots_written slots mem (Store at value) h e place = slot_by slots mem at value place (same place at) refl h (e place)
slots_written slots mem (Cas at old new) h e place = slot_by slots mem at (change (Cas at old new) (mem at)) place (same place at) refl (slot_change slots (Cas at old new) (mem at) h (e at)) (e place)
slots_written slots mem (Or at bits) h e place = slot_by slots mem at (change (Or at bits) (mem at)) place (same place at) refl (slot_change slots (Or at bits) (mem at) h (e at)) (e place)
slots_written slots mem (And at bits) h e place = slot_by slots mem at (change (And at bits) (mem at)) place (same place at) refl (slot_change slots (And at bits) (mem at) h (e at)) (e place)

-- what each operation writes
hazard_writes : (slots index : ℕ) (root : Root) (at : HazardAt) (post : Post) → MoveSlots slots (hazard_move index root at post)
hazard_writes slots index root FirstLink post = tt
hazard_writes slots index root at post = tt

protect_writes : (slots index : ℕ) (root : Root) (at : ProtectAt) (post : Post) → MoveSlots slots (protect_move index root at post)
protect_writes slots index root (LoadClock tries) post = tt
protect_writes slots index root (ByHazard at) post = hazard_writes slots index root at post
protect_writes slots index root at post = tt

begin_writes : (slots : ℕ) (at : BeginAt) (post : Post) → MoveSlots slots (begin_move at post)
begin_writes slots LoadLower post = tt
begin_writes slots at post = tt

allocate_writes : (slots : ℕ) (at : AllocateAt) → MoveSlots slots (allocate_move at)
allocate_writes slots LoadBirth = tt
allocate_writes slots (ClaimSlot birth walk) = λ word. tt
allocate_writes slots (StoreLife birth slot) = tt

retire_writes : (slots : ℕ) (at : RetireAt) → MoveSlots slots (retire_move at)
retire_writes slots (LoadLife slot) = tt
retire_writes slots at = tt

move_writes : (slots : ℕ) (at : MoveAt) (post : Post) → MoveSlots slots (move_move at post)
move_writes slots (LoadEra helps) post = tt
move_writes slots at post = tt

-- a row's first word is written only in a queue row, and is null
row_writes : (slots : ℕ) (row : RowOf) (place : ℕ) → (nat_le (first_written row) place && nat_le place (last_written row)) ≡ true → RowLink slots place (row_word row place)
row_writes slots (MapRow version pairs) place f = λ e. absurd (grind (arith, nat_tests))
row_writes slots (QueueRow number value) place f = λ e. grind (arith, nat_tests)

base_writes : (layout : Layout) (why : Why) (base : Base) (post : Post) → Run layout why base post → MoveSlots layout.config.slots (base_move base post)
base_writes layout why (Begin at) post r = begin_writes layout.config.slots at post
base_writes layout why (Protect aim index root steps at) post r = protect_writes layout.config.slots index root at post
base_writes layout why (Reload parent index slot era steps) post r = tt
base_writes layout why (Clear rows index) post r = tt
base_writes layout why Finish post r = tt
base_writes layout why (Release index) post r = tt
base_writes layout why (Allocate at) post r = allocate_writes layout.config.slots at
base_writes layout why (Write slot row place) post r = row_writes layout.config.slots row place r.fits
base_writes layout why (GiveUp slot) post r = λ word. tt
base_writes layout why (Retire at) post r = retire_writes layout.config.slots at
base_writes layout why (Moves at) post r = move_writes layout.config.slots at post

get_writes : (slots : ℕ) (at : GetAt) → MoveSlots slots (get_move at)
get_writes slots (FindVersion slot) = tt
get_writes slots at = tt

change_writes : (config : Config) (kept : ChangeKept) (at : ChangeAt) (post : Post) → WorkIn config (Changing kept at) → MoveSlots config.slots (change_move kept at post)
change_writes config kept (ExchangeRoot slot) post w = let s = w.1.0 in omega arith
change_writes config kept at post w = tt

enqueue_writes : (config : Config) (kept : EnqueueKept) (at : EnqueueAt) → WorkIn config (Enqueuing kept at) → MoveSlots config.slots (enqueue_move kept at)
enqueue_writes config kept LoadNumber w = tt
enqueue_writes config kept LoadNext w = tt
enqueue_writes config kept (PassTail next) w = w.1.1
enqueue_writes config kept (ExchangeNext slot) w = λ e. let s = w.1.0 in omega arith
enqueue_writes config kept (ExchangeTail slot) w = let s = w.1.0 in omega arith

dequeue_writes : (config : Config) (at : DequeueAt) → WorkIn config (Dequeuing at) → MoveSlots config.slots (dequeue_move at)
dequeue_writes config (LoadTail head) w = tt
dequeue_writes config (SwingTail head next) w = let s = w.1 in omega arith
dequeue_writes config (TakeNumber head next) w = tt
dequeue_writes config (TakeValue head next number) w = tt
dequeue_writes config (ExchangeHead head next number value) w = let s = w.1 in omega arith

keep_writes : (config : Config) (at : KeepAt) (post : Post) → MoveSlots config.slots (keep_move at post)
keep_writes config (Loosens let_go) post = tt
keep_writes config (LoadHeld from index) post = tt
keep_writes config (StoreHeld from index era) post = tt
keep_writes config (Looks index key at) post = get_writes config.slots at
keep_writes config (Misses index) post = tt
keep_writes config HideSpan post = tt
keep_writes config MarkLeft post = tt
keep_writes config (TakeList place) post = tt
keep_writes config (MarkTaken place count) post = tt

work_writes : (config : Config) (work : Work) (post : Post) → WorkIn config work → MoveSlots config.slots (work_move work post)
work_writes config (Getting key at) post w = get_writes config.slots at
work_writes config (Changing kept at) post w = change_writes config kept at post w
work_writes config (Enqueuing kept at) post w = enqueue_writes config kept at w
work_writes config (Dequeuing at) post w = dequeue_writes config at w
work_writes config (Keeping at) post w = keep_writes config at post

scan_writes : (slots : ℕ) (at : ScanAt) (post : Post) → MoveSlots slots (scan_move at post)
scan_writes slots (ReadGuard number) post = tt
scan_writes slots (GiveBack place slot) post = λ word. tt

phase_writes : (layout : Layout) (desk : Desk) (phase : Phase) (post : Post) → PhaseFits layout post phase → PhaseIn layout desk phase → MoveSlots layout.config.slots (phase_move phase post)
phase_writes layout desk Idle post r h = tt
phase_writes layout desk (Runs why base) post r h = base_writes layout why base post r
phase_writes layout desk (Scans later at) post r h = scan_writes layout.config.slots at post
phase_writes layout desk (Works work) post r h = work_writes layout.config work post h

-- the seat that steps
resumed_slots : (layout : Layout) (why : Why) (desk : Desk) (post : Post) (told : List Event) (outcome : Outcome) → WhyIn layout.config why → OutcomeIn layout outcome → post.layout ≡ layout → PostIn layout post → ListIn layout.config.slots desk.list → TurnSlots layout (resumed why desk post told outcome)
resumed_slots layout why desk post told (Goes base) y o p q l = record { post = q; list = l; phase = (y, o) }
resumed_slots layout why desk post told (Ends ending) y o p q l = resume_slots layout why ending post desk told y o p q l

work_found : (slots : ℕ) (mem : Place → ℕ) (work : Work) (post : Post) → ((place : Place) → WordSlots slots place (mem place)) → work_links slots work (found (work_move work post) (mem (place_in (work_move work post))))
work_found slots mem (Getting key at) post h = tt
work_found slots mem (Changing kept at) post h = tt
work_found slots mem (Enqueuing kept LoadNumber) post h = tt
work_found slots mem (Enqueuing kept LoadNext) post h = h (Row kept.tail 0) refl
work_found slots mem (Enqueuing kept (PassTail next)) post h = tt
work_found slots mem (Enqueuing kept (ExchangeNext slot)) post h = tt
work_found slots mem (Enqueuing kept (ExchangeTail slot)) post h = tt
work_found slots mem (Dequeuing at) post h = tt
work_found slots mem (Keeping at) post h = tt

turn_slots : (layout : Layout) (mem : Place → ℕ) (k : ℕ) → Linked layout mem → (phase : Phase) (post : Post) (desk : Desk) → PostFits layout k (counted post) → PhaseFits layout post phase → PhaseIn layout desk phase → PostIn layout post → ListIn layout.config.slots desk.list → ListIn layout.config.slots desk.gift
    → phase_finds layout.config desk phase (found (phase_move phase (counted post)) (mem (place_in (phase_move phase (counted post)))))
    → TurnSlots layout (phase_turn phase (counted post) desk (found (phase_move phase (counted post)) (mem (place_in (phase_move phase (counted post))))))
turn_slots layout mem k w Idle post desk p r h q l g f = record { post = q; list = l; phase = tt }
turn_slots layout mem k w (Runs why base) post desk p r h q l g f = let run = run_counted layout why base post r in let m = machine_slots layout mem w why base (counted post) run h.1 q in
    resumed_slots layout why desk _ _ _ h.0 m.outcome (shape_moves layout k w.told.valid why base (counted post) _ p run).post.layout m.post l
turn_slots layout mem k w (Scans later at) post desk p r h q l g f = scan_slots layout later at (counted post) desk _ f h.1 h.0 q l
turn_slots layout mem k w (Works work) post desk p r h q l g f = work_slots layout work (counted post) desk _ f.0 (work_found layout.config.slots mem work (counted post) w.links) p.layout h q l g

settled_by_slots : (layout : Layout) (l : Local) (post : Post) (desk : Desk) (rounds : ℕ) (outcome : CallOutcome) → PostIn layout post → ListIn layout.config.slots desk.list → PhaseIn layout desk (phase_left outcome) → SeatSlots layout (settled_by l post desk rounds outcome)
settled_by_slots layout l post desk rounds (GoesOn phase) q s p = record { post = q; list = s; phase = p }
settled_by_slots layout l post desk rounds (Answers answer) q s p = record { post = q; list = s; phase = p }

-- what is noted changes no report and no list
noting_scan : (slots : ℕ) (desk : Desk) (told : List Event) (at : ScanAt) → ScanIn slots desk at → ScanIn slots (noting desk told) at
noting_scan slots desk told (ReadGuard number) h = h
noting_scan slots desk told (GiveBack place slot) h = record { slot_in = h.slot_in; room = h.room }

noting_slots : (layout : Layout) (desk : Desk) (told : List Event) (phase : Phase) → PhaseIn layout desk phase → PhaseIn layout (noting desk told) phase
noting_slots layout desk told Idle h = tt
noting_slots layout desk told (Runs why base) h = h
noting_slots layout desk told (Scans later at) h = (h.0, noting_scan layout.config.slots desk told at h.1)
noting_slots layout desk told (Works work) h = h

settled_slots : (layout : Layout) (l : Local) (t : CallTurn) → TurnSlots layout t → SeatSlots layout (settled l t)
settled_slots layout l t h = settled_by_slots layout l t.post (noting t.desk (told_by t)) (rounds_told (publishes_rows (scheme_of t.post)) l.rounds (told_by t)) t.outcome h.post h.list (noting_slots layout t.desk (told_by t) (phase_left t.outcome) h.phase)

-- the list that a seat may take over
offered_scan : (slots : ℕ) (desk : Desk) (gift : List Lifetime) (at : ScanAt) → ScanIn slots desk at → ScanIn slots (record desk { gift = gift }) at
offered_scan slots desk gift (ReadGuard number) h = h
offered_scan slots desk gift (GiveBack place slot) h = record { slot_in = h.slot_in; room = h.room }

offered_slots : (layout : Layout) (desk : Desk) (gift : List Lifetime) (phase : Phase) → PhaseIn layout desk phase → PhaseIn layout (record desk { gift = gift }) phase
offered_slots layout desk gift Idle h = tt
offered_slots layout desk gift (Runs why base) h = h
offered_slots layout desk gift (Scans later at) h = (h.0, offered_scan layout.config.slots desk gift at h.1)
offered_slots layout desk gift (Works work) h = h

keep_gift : (w : World) → Slots w → (at : KeepAt) → ListIn w.layout.config.slots (gift_at w.seat (Works (Keeping at)))
keep_gift w h (TakeList place) = (h.seats place).list
keep_gift w h at = All-nil (λ (life : Lifetime). life.slot ≤ w.layout.config.slots)

work_gift : (w : World) → Slots w → (work : Work) → ListIn w.layout.config.slots (gift_at w.seat (Works work))
work_gift w h (Keeping at) = keep_gift w h at
work_gift w h work = All-nil (λ (life : Lifetime). life.slot ≤ w.layout.config.slots)

gift_slots : (w : World) → Slots w → (phase : Phase) → ListIn w.layout.config.slots (gift_at w.seat phase)
gift_slots w h (Works work) = work_gift w h work
gift_slots w h phase = All-nil (λ (life : Lifetime). life.slot ≤ w.layout.config.slots)

own_slots : (w : World) (i : ℕ) → is_valid w.layout ≡ true → Seats w → Eras w → Slots w → SlotsNeeds w i → SeatSlots w.layout ((step w i).seat i)
own_slots w i v s e h n = let l = offered w i in let g = h.seats i in
    subst (SeatSlots w.layout) (sym (seat_steps w i))
    (subst (λ (f : ℕ). SeatSlots w.layout (after l f)) (finds_counted w i)
    (settled_slots w.layout l _ (turn_slots w.layout w.mem i (record { told = told_of w v e; links = h.words }) l.phase l.post l.desk (counted_fits w.layout i l.post (s.fits i).post) (s.fits i).phase (offered_slots w.layout (w.seat i).desk l.desk.gift l.phase g.phase) g.post g.list (gift_slots w h l.phase) (subst (phase_finds w.layout.config l.desk l.phase) (sym (finds_counted w i)) n))))

pub slots_step : (w : World) (i : ℕ) → is_valid w.layout ≡ true → Seats w → Eras w → Slots w → SlotsNeeds w i → Slots (step w i)
slots_step w i v s e h n = record {
  words = slots_written w.layout.config.slots w.mem (move (w.seat i)) (phase_writes w.layout (w.seat i).desk (w.seat i).phase (w.seat i).post (s.fits i).phase (h.seats i).phase) h.words;
  seats = one_moves (λ k l. SeatSlots w.layout l) w.seat (step w i).seat i h.seats (seat_stays w i) (own_slots w i v s e h n);
}

pub slots_begin : (w : World) (i : ℕ) (call : Call) → is_valid w.layout ≡ true → may_begin w.layout.config call ≡ true → Slots w → Slots (begin w i call)
slots_begin w i call v m h = record {
  words = h.words;
  seats = one_moves (λ k l. SeatSlots w.layout l) w.seat (begin w i call).seat i h.seats (λ k. begin_stays w i k call)
      (subst (SeatSlots w.layout) (sym (begin_begins w i call)) (record { post = (h.seats i).post; list = (h.seats i).list; phase = first_slots w.layout call (begun_post (w.seat i).post) (begun (w.seat i) call).desk (let b = bounds_of w.layout v in b.indexes.0) m (h.seats i).post }));
}

-- the start
few_if : (slots n : ℕ) (b : Bool) → n ≤ slots + 1 → (if b then n else 0) ≤ slots + 1
few_if slots n true h = h
few_if slots n false h = omega arith

start_links : (layout : Layout) (place : Place) → WordSlots layout.config.slots place (first_word layout place)
start_links layout Clock = tt
start_links layout (Helper seat) = tt
start_links layout (Index seat index) = tt
start_links layout (Interval seat) = tt
start_links layout (RequestOf seat) = tt
start_links layout (Bucket bucket) = few_if layout.config.slots 0 (has layout (Bucket bucket)) (omega arith)
start_links layout Head = omega arith
start_links layout Tail = omega arith
start_links layout (Claim number) = tt
start_links layout (Life slot) = tt
start_links layout (Row slot place) = λ e. few_if layout.config.slots 0 (has layout (Row slot place)) (omega arith)
start_links layout (PlaceOf seat) = tt

nothing_stands : (layout : Layout) (k : ℕ) → PostIn layout (fresh layout k).post
nothing_stands layout k zero = tt
nothing_stands layout k (suc zero) = tt
nothing_stands layout k (suc (suc zero)) = tt
nothing_stands layout k (suc (suc (suc zero))) = tt
nothing_stands layout k (suc (suc (suc (suc zero)))) = tt
nothing_stands layout k (suc (suc (suc (suc (suc zero))))) = tt
nothing_stands layout k (suc (suc (suc (suc (suc (suc zero)))))) = tt
nothing_stands layout k (suc (suc (suc (suc (suc (suc (suc zero))))))) = tt
nothing_stands layout k (suc (suc (suc (suc (suc (suc (suc (suc index)))))))) = tt

pub slots_start : (layout : Layout) → Slots (start layout)
slots_start layout = record {
  words = start_links layout;
  seats = λ k. record { post = nothing_stands layout k; list = All-nil (λ (life : Lifetime). life.slot ≤ layout.config.slots); phase = tt };
}
