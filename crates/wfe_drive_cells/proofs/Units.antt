-- A unit of a table is a step of each World that it shows, and a call's start is a beginning.
use Rattle.std.proofs.Common.{Bool, List, [], ap, ap₂, arith, false, get_or, get_or-set_other, get_or-set_same, if◌then◌else◌, length, refl, slice_set, subst, sym, true, ℕ, ◌<◌, ◌∙◌, ◌≡◌, ◌≢◌}
use Rattle.std.proofs.lemmas.Bool.Decides.{nat_tests}
use Rattle.std.proofs.lemmas.List.{length-set}
use Rattle.std.specs.Prelude.{Option, nat_lt, ◌==◌}
use Rattle.wfe_core.specs.words.Place.{words}
use Rattle.wfe_core.specs.words.Place.Place.{PlaceOf}
use Rattle.wfe_core.specs.words.declared.layout.Layout.{Layout}
use Rattle.wfe_core.specs.defs.declared.call.Answer.{Answer}
use Rattle.wfe_core.specs.defs.declared.call.Call.{Call}
use Rattle.wfe_core.specs.defs.declared.event.Event.{Event}
use Rattle.wfe_core.specs.defs.declared.lifetime.Lifetime.{Lifetime}
use Rattle.wfe_core.specs.CallReady.{BackFits, IsCallPlausible, IsCallReady, NotesFit, scan_ready, why_ready}
use Rattle.wfe_core.specs.Valid.{IsValid}
use Rattle.wfe_core.specs.Calls.{Answers, CallOutcome, CallTurn, GiveBack, GoesOn, Idle, Keeping, Phase, ReadGuard, Retires, Runs, ScanAt, Scans, TakeList, Why, Works}
use Rattle.wfe_core.specs.Phases.{Base}
use Rattle.wfe_core.specs.Phases.Base.{Retire}
use Rattle.wfe_core.specs.Posts.{counted}
use Rattle.wfe_core.specs.Steps.{phase_turn}
use Rattle.wfe_core.specs.Desks.{Desk}
use Rattle.wfe_core.specs.declared.desk.Desk.{Desk as HeldDesk}
use Rattle.wfe_core.specs.Locals.{Local, asks, begun, busy_in, settled, settled_by, told_by, turn}
use Rattle.wfe_core.specs.MayStep.{MayStep}
use Rattle.wfe_core.specs.Memory.{upd}
use Rattle.wfe_core.specs.Keep.{taking}
use Rattle.wfe_core.specs.World.{World, begin, finds, gift_at, is_busy, list_in, offered, start, step}
use Rattle.wfe_core.specs.declared.op.Op.{Op}
use Rattle.wfe_core.specs.declared.post.Post.{Post}
use Rattle.wfe_drive_cells.specs.Bridge.{AsksWithin, MakesSteps}
use Rattle.wfe_drive_cells.specs.Memory.{HoldsStart, memory}
use Rattle.wfe_drive_cells.specs.Operations.{answered, performed, word_in}
use Rattle.wfe_drive_cells.specs.Unit.{IsStep, IsUnit, Leaves, ListsStay, MayUnit, SeatView, Shows, TableView, after_start, after_unit, answer_in, asked, bare_seat, begun_seat, found_by, fresh_seat, handed, handed_by, kept_desk, lent_desk, lent_seat, may_adopt, phase_after, seat_after, seat_at, seat_left, shown, shown_in, takes_from, turned, unit_turn, with_seat}
use Rattle.wfe_drive_cells.proofs.Bridge.{length-performed, memory-start}
use Rattle.wfe_drive_cells.proofs.Steps.{makes_step}

-- the seat that is put in a place is seen there, and each other one as before
seat_by : (table : TableView) (list : List ℕ) (seat : ℕ) (view : SeatView) (i : ℕ) (one : Bool) → seat < length table.seats → (i == seat) ≡ one → seat_at (with_seat table list seat view) i ≡ (if one then view else seat_at table i)
seat_by table list seat view i true h b =
    let is : i ≡ seat = grind (arith, nat_tests) in rw (is) (get_or-set_same table.seats seat view (fresh_seat table.layout seat) h)
seat_by table list seat view i false h b =
    let apart : i ≢ seat = grind (arith, nat_tests) in get_or-set_other table.seats seat i view (fresh_seat table.layout i) apart

-- the seat after a turn
shown-settled_by : (l : Local) (post : Post) (desk : Desk) (rounds : ℕ) (outcome : CallOutcome) → shown (settled_by l post desk rounds outcome) ≡ record { phase = phase_after outcome; post = post; desk = kept_desk desk }
shown-settled_by l post desk rounds (GoesOn phase) = refl
shown-settled_by l post desk rounds (Answers answer) = refl

shown-settled : (l : Local) (t : CallTurn) → shown (settled l t) ≡ seat_after t
shown-settled l t = shown-settled_by l t.post _ _ t.outcome

-- the operation, and the turn of what it finds, are those of the World's seat
asked-asks : (table : TableView) (w : World) (seat : ℕ) → Shows table w → asked (seat_at table seat) ≡ asks (w.seat seat)
asked-asks table w seat s = ap asked (sym (s.seats seat))

pub made : (table : TableView) (w : World) (seat : ℕ) → Shows table w → AsksWithin w seat → MakesSteps w seat table.words
made table w seat s at = makes_step w seat table.words (s.mem ∙ ap (λ (layout : Layout). memory layout table.words) (sym s.layout)) (s.count ∙ ap words (sym s.layout)) at

found_by-finds : (table : TableView) (w : World) (seat : ℕ) → Shows table w → MakesSteps w seat table.words → found_by table seat ≡ finds w seat
found_by-finds table w seat s m = ap (λ (op : Op). answered table.words op) (asked-asks table w seat s) ∙ m.answers

-- the seat after a step that was offered a list, or another one that it does not take
pub record Same (t u : CallTurn) : Type 0 where
  pub after : seat_after t ≡ seat_after u
  pub told : told_by t ≡ told_by u
  pub answer : answer_in t.outcome ≡ answer_in u.outcome

same : (t u : CallTurn) → t ≡ u → Same t u
same t u e = record { after = ap seat_after e; told = ap told_by e; answer = ap (λ (x : CallTurn). answer_in x.outcome) e }

-- a step that takes over no list makes the same of any that is lent
untaken : (place : ℕ) (post : Post) (desk : Desk) (one two : List Lifetime) (found : ℕ) → Same (taking place post (record (kept_desk desk) { gift = one }) false found) (taking place post (record desk { gift = two }) false found)
untaken place post desk one two found = record { after = refl; told = refl; answer = refl }

-- one that takes it over makes the same of the list that is kept there
lent_same : (table : TableView) (w : World) (seat place found : ℕ) (left : Bool) → Shows table w → list_in w seat ≡ (w.seat seat).desk.list → (left ≡ true → list_in w place ≡ (w.seat place).desk.list)
    → Same (taking place (counted (w.seat seat).post) (record (kept_desk (w.seat seat).desk) { list = list_in w seat; gift = (seat_at table place).desk.list }) left found)
    (taking place (counted (w.seat seat).post) (record (w.seat seat).desk { gift = (w.seat place).desk.list }) left found)
lent_same table w seat place found true s own gift =
    let l : Local = w.seat seat in
    let lent : (seat_at table place).desk.list ≡ (w.seat place).desk.list = ap (λ (v : SeatView). v.desk.list) (sym (s.seats place)) ∙ gift refl in
    same (taking place (counted l.post) (record (kept_desk l.desk) { list = list_in w seat; gift = (seat_at table place).desk.list }) true found)
    (taking place (counted l.post) (record l.desk { gift = (w.seat place).desk.list }) true found)
    (ap₂ (λ (own gift : List Lifetime). taking place (counted l.post) (record l.desk { list = own; gift = gift }) true found) own lent)
lent_same table w seat place found false s own gift =
    let l : Local = w.seat seat in
    subst (λ (list : List Lifetime). Same (taking place (counted l.post) (record (kept_desk l.desk) { list = list; gift = (seat_at table place).desk.list }) false found) (taking place (counted l.post) (record l.desk { gift = (w.seat place).desk.list }) false found)) (sym own)
    (untaken place (counted l.post) l.desk (seat_at table place).desk.list (w.seat place).desk.list found)

-- what a unit makes of what it finds is the World's turn
turned_in : (table : TableView) (w : World) (seat found : ℕ) (phase : Phase) → Shows table w → list_in w seat ≡ (w.seat seat).desk.list
    → ((place : ℕ) → phase ≡ Works (Keeping (TakeList place)) → (found == 1) ≡ true → list_in w place ≡ (w.seat place).desk.list)
    → Same (phase_turn phase (counted (w.seat seat).post) (lent_desk table phase (shown_in w seat).desk) found)
    (phase_turn phase (counted (w.seat seat).post) (record (w.seat seat).desk { gift = gift_at w.seat phase }) found)
turned_in table w seat found (Works (Keeping (TakeList place))) s own gift = lent_same table w seat place found (found == 1) s own (gift place refl)
turned_in table w seat found phase s own gift =
    same (phase_turn phase (counted (w.seat seat).post) (shown_in w seat).desk found) (phase_turn phase (counted (w.seat seat).post) (kept_desk (w.seat seat).desk) found)
    (ap (λ (list : List Lifetime). phase_turn phase (counted (w.seat seat).post) (record (kept_desk (w.seat seat).desk) { list = list }) found) own)

pub unit_turn-turn : (table : TableView) (w : World) (seat : ℕ) → Shows table w → MakesSteps w seat table.words → ListsStay w seat → Same (unit_turn table seat) (turn (offered w seat) (finds w seat))
unit_turn-turn table w seat s m lists =
    subst (λ (v : SeatView). Same (turned (lent_seat table v) (found_by table seat)) (turn (offered w seat) (finds w seat))) (s.seats seat)
    (subst (λ (n : ℕ). Same (turned (lent_seat table (shown_in w seat)) n) (turn (offered w seat) (finds w seat))) (sym (found_by-finds table w seat s m))
    (turned_in table w seat (finds w seat) (w.seat seat).phase s lists.own (λ place e one. lists.gift place e (grind (arith, nat_tests)))))

mem_after : (table : TableView) (w : World) (seat : ℕ) → Shows table w → MakesSteps w seat table.words → (step w seat).mem ≡ memory table.layout (performed table.words (asked (seat_at table seat)))
mem_after table w seat s m = sym m.performs ∙ ap (λ (layout : Layout). memory layout (performed table.words (asks (w.seat seat)))) s.layout ∙ ap (λ (op : Op). memory table.layout (performed table.words op)) (sym (asked-asks table w seat s))

-- the seats once the step has found this: each but the stepping one as the World has it
handed_at : (table : TableView) (place i : ℕ) (v : SeatView) (one : Bool) → place < length table.seats → seat_at table i ≡ v → (i == place) ≡ one
    → get_or (slice_set table.seats place (bare_seat (seat_at table place))) i (fresh_seat table.layout i) ≡ record v { desk = record v.desk { list = if one then [] else v.desk.list } }
handed_at table place i v true h e b =
    let is : i ≡ place = grind (arith, nat_tests) in
    ap (λ (n : ℕ). get_or (slice_set table.seats place (bare_seat (seat_at table place))) n (fresh_seat table.layout n)) is
    ∙ get_or-set_same table.seats place (bare_seat (seat_at table place)) (fresh_seat table.layout place) h
    ∙ ap (λ (n : ℕ). bare_seat (seat_at table n)) (sym is) ∙ ap bare_seat e
handed_at table place i v false h e b =
    let apart : i ≢ place = grind (arith, nat_tests) in get_or-set_other table.seats place i (bare_seat (seat_at table place)) (fresh_seat table.layout i) apart ∙ e

handed_left : (table : TableView) (place i : ℕ) (v : SeatView) (left : Bool) → place < length table.seats → seat_at table i ≡ v
    → get_or (handed_by table place left) i (fresh_seat table.layout i) ≡ record v { desk = record v.desk { list = if (if left then i == place else false) then [] else v.desk.list } }
handed_left table place i v true h e = handed_at table place i v (i == place) h e refl
handed_left table place i v false h e = e

handed_seats : (table : TableView) (found : ℕ) (phase : Phase) (i : ℕ) (v : SeatView) → seat_at table i ≡ v → ((place : ℕ) → phase ≡ Works (Keeping (TakeList place)) → place < length table.seats)
    → get_or (handed table phase found) i (fresh_seat table.layout i) ≡ record v { desk = record v.desk { list = if takes_from phase found i then [] else v.desk.list } }
handed_seats table found (Works (Keeping (TakeList place))) i v e below = handed_left table place i v (found == 1) (below place refl) e
handed_seats table found phase i v e below = e

-- each seat of the table is there after the step
handed_by-length : (table : TableView) (place : ℕ) (left : Bool) → length (handed_by table place left) ≡ length table.seats
handed_by-length table place true = length-set table.seats place (bare_seat (seat_at table place))
handed_by-length table place false = refl

handed-length : (table : TableView) (phase : Phase) (found : ℕ) → length (handed table phase found) ≡ length table.seats
handed-length table (Works (Keeping (TakeList place))) found = handed_by-length table place (found == 1)
handed-length table phase found = refl

pub after-length : (table : TableView) (seat : ℕ) → length (after_unit table seat).seats ≡ length table.seats
after-length table seat = length-set (handed table (seat_at table seat).phase (found_by table seat)) seat (seat_after (unit_turn table seat)) ∙ handed-length table (seat_at table seat).phase (found_by table seat)

-- the seats of the World after the step
upd_at : (f : ℕ → Local) (seat : ℕ) (l : Local) (i : ℕ) (one : Bool) → (i == seat) ≡ one → upd f seat l i ≡ (if one then l else f i)
upd_at f seat l i one e = ap (λ (b : Bool). if b then l else f i) e

own_seat : (seat : ℕ) → (seat == seat) ≡ true
own_seat seat = grind (arith, nat_tests)

abbrev seen : Local → List Lifetime → SeatView
seen l list = record { phase = l.phase; post = l.post; desk = record (kept_desk l.desk) { list = list } }

stepped_own : (w : World) (seat : ℕ) → ListsStay w seat → shown_in (step w seat) seat ≡ seat_after (turn (offered w seat) (finds w seat))
stepped_own w seat lists =
    ap (seen ((step w seat).seat seat)) lists.keeps
    ∙ ap shown (upd_at w.seat seat (settled (offered w seat) (turn (offered w seat) (finds w seat))) seat true (own_seat seat))
    ∙ shown-settled (offered w seat) (turn (offered w seat) (finds w seat))

stepped_other : (w : World) (seat i : ℕ) → ListsStay w seat → (i == seat) ≡ false → shown_in (step w seat) i ≡ seen (w.seat i) (if takes_from (w.seat seat).phase (finds w seat) i then [] else list_in w i)
stepped_other w seat i lists b =
    ap (seen ((step w seat).seat i)) (lists.others i b)
    ∙ ap (λ (l : Local). seen l (if takes_from (w.seat seat).phase (finds w seat) i then [] else list_in w i)) (upd_at w.seat seat (settled (offered w seat) (turn (offered w seat) (finds w seat))) i false b)

stepped_seats : (table : TableView) (w : World) (seat i : ℕ) (one : Bool) → Shows table w → length table.seats ≡ table.layout.config.seats → seat < table.layout.config.seats → MakesSteps w seat table.words → ListsStay w seat → (i == seat) ≡ one
    → shown_in (step w seat) i ≡ seat_at (after_unit table seat) i
stepped_seats table w seat i true s n h m lists b =
    let is : i ≡ seat = grind (arith, nat_tests) in
    let t : Same (unit_turn table seat) (turn (offered w seat) (finds w seat)) = unit_turn-turn table w seat s m lists in
    let views : List SeatView = handed table (seat_at table seat).phase (found_by table seat) in
    let there : seat < length views = subst (λ (n : ℕ). seat < n) (sym (handed-length table (seat_at table seat).phase (found_by table seat) ∙ n)) h in
    ap (shown_in (step w seat)) is ∙ stepped_own w seat lists ∙ sym t.after
    ∙ sym (get_or-set_same views seat (seat_after (unit_turn table seat)) (fresh_seat table.layout seat) there)
    ∙ ap (seat_at (after_unit table seat)) (sym is)
stepped_seats table w seat i false s n h m lists b =
    let apart : i ≢ seat = grind (arith, nat_tests) in
    let phase : (seat_at table seat).phase ≡ (w.seat seat).phase = ap (λ (v : SeatView). v.phase) (sym (s.seats seat)) in
    let found : found_by table seat ≡ finds w seat = found_by-finds table w seat s m in
    let below : (place : ℕ) → (seat_at table seat).phase ≡ Works (Keeping (TakeList place)) → place < length table.seats
    = λ place e. subst (λ (n : ℕ). place < n) (ap (λ (layout : Layout). layout.config.seats) s.layout ∙ sym n) (lists.place place (sym phase ∙ e)) in
    let other = get_or-set_other (handed table (seat_at table seat).phase (found_by table seat)) seat i (seat_after (unit_turn table seat)) (fresh_seat table.layout i) apart in
    stepped_other w seat i lists b
    ∙ ap₂ (λ (p : Phase) (n : ℕ). seen (w.seat i) (if takes_from p n i then [] else list_in w i)) (sym phase) (sym found)
    ∙ sym (handed_seats table (found_by table seat) (seat_at table seat).phase i (shown_in w i) (sym (s.seats i)) below)
    ∙ sym other

shows_step : (table : TableView) (w : World) (seat : ℕ) → Shows table w → length table.seats ≡ table.layout.config.seats → seat < table.layout.config.seats → MakesSteps w seat table.words → ListsStay w seat → Shows (after_unit table seat) (step w seat)
shows_step table w seat s n h m lists = record {
  layout = s.layout;
  count = length-performed table.words (asked (seat_at table seat)) ∙ s.count;
  mem = mem_after table w seat s m;
  seats = λ i. stepped_seats table w seat i (i == seat) s n h m lists refl;
}

pub unit-step : (old new : TableView) (w : World) (seat : ℕ) (told : List Event) (answer : Option Answer) → IsUnit old new seat told answer → Shows old w → length old.seats ≡ old.layout.config.seats → seat < old.layout.config.seats → AsksWithin w seat → ListsStay w seat → IsStep new w seat told answer
unit-step old new w seat told answer u s n h at lists =
    let m : MakesSteps w seat old.words = made old w seat s at in
    let same : Same (unit_turn old seat) (turn (offered w seat) (finds w seat)) = unit_turn-turn old w seat s m lists in
    record {
      shows = subst (λ (t : TableView). Shows t (step w seat)) (sym u.table_is) (shows_step old w seat s n h m lists);
      told_is = u.told_is ∙ same.told;
      answer_is = u.answer_is ∙ same.answer;
    }

-- a seat is busy where the World's is
pub busy-shown : (table : TableView) (w : World) (seat : ℕ) → Shows table w → busy_in (seat_at table seat).phase ≡ is_busy w seat
busy-shown table w seat s = ap (λ (v : SeatView). busy_in v.phase) (sym (s.seats seat))

-- where a step takes over no list, no other seat changes, and what the turn leaves of its own, put in its place beside the
-- words after its operation, is a unit
handed_none : (table : TableView) (phase : Phase) (found : ℕ) → may_adopt phase ≡ false → handed table phase found ≡ table.seats
handed_none table (Works (Keeping (TakeList place))) found e = absurd (cc)
handed_none table phase found e = refl

lent_own : (table : TableView) (phase : Phase) (desk : Desk) → may_adopt phase ≡ false → lent_desk table phase desk ≡ desk
lent_own table (Works (Keeping (TakeList place))) desk e = absurd (cc)
lent_own table phase desk e = refl

pub own_turn : (table : TableView) (seat : ℕ) → may_adopt (seat_at table seat).phase ≡ false → unit_turn table seat ≡ turned (seat_at table seat) (found_by table seat)
own_turn table seat e = ap (λ (desk : Desk). phase_turn (seat_at table seat).phase (counted (seat_at table seat).post) desk (found_by table seat)) (lent_own table (seat_at table seat).phase (seat_at table seat).desk e)

pub own_unit : (table : TableView) (seat : ℕ) → may_adopt (seat_at table seat).phase ≡ false
    → after_unit table seat ≡ with_seat table (performed table.words (asked (seat_at table seat))) seat (seat_after (turned (seat_at table seat) (found_by table seat)))
own_unit table seat e =
    ap₂ (λ (views : List SeatView) (t : CallTurn). let v : TableView = record { layout = table.layout; words = performed table.words (asked (seat_at table seat)); seats = slice_set views seat (seat_after t) } in v)
    (handed_none table (seat_at table seat).phase (found_by table seat) e) (own_turn table seat e)

pub leaves-unit : (table : TableView) (seat : ℕ) (post : Post) (held : HeldDesk) (told : List Event) (answer : Option Answer) (phase : Phase)
    → may_adopt (seat_at table seat).phase ≡ false → Leaves (turned (seat_at table seat) (found_by table seat)) post held told answer phase
    → IsUnit table (with_seat table (performed table.words (asked (seat_at table seat))) seat (seat_left answer phase post held)) seat told answer
leaves-unit table seat post held told answer phase e l = record {
  table_is = ap (with_seat table (performed table.words (asked (seat_at table seat))) seat) l.seat_is ∙ sym (own_unit table seat e);
  told_is = l.told_is ∙ ap told_by (sym (own_turn table seat e));
  answer_is = l.answer_is ∙ ap (λ (t : CallTurn). answer_in t.outcome) (sym (own_turn table seat e));
}

-- a call begins: each list stays where it is
begun_list : (w : World) (seat : ℕ) (call : Call) (i : ℕ) (one : Bool) → (i == seat) ≡ one → list_in (begin w seat call) i ≡ list_in w i
begun_list w seat call i true e = let is : i ≡ seat = grind (arith, nat_tests) in
    ap (λ (l : Local). if nat_lt 1 (w.mem (PlaceOf i)) then [] else l.desk.list) (upd_at w.seat seat (begun (w.seat seat) call) i true e)
    ∙ ap (λ (n : ℕ). if nat_lt 1 (w.mem (PlaceOf i)) then [] else (w.seat n).desk.list) (sym is)
begun_list w seat call i false e = ap (λ (l : Local). if nat_lt 1 (w.mem (PlaceOf i)) then [] else l.desk.list) (upd_at w.seat seat (begun (w.seat seat) call) i false e)

begun_seats : (table : TableView) (w : World) (seat : ℕ) (call : Call) (i : ℕ) (one : Bool) → Shows table w → (i == seat) ≡ one → shown_in (begin w seat call) i ≡ (if one then begun_seat (seat_at table seat) call else seat_at table i)
begun_seats table w seat call i true s e =
    let is : i ≡ seat = grind (arith, nat_tests) in
    ap (seen ((begin w seat call).seat i)) (begun_list w seat call i true e)
    ∙ ap (λ (l : Local). seen l (list_in w i)) (upd_at w.seat seat (begun (w.seat seat) call) i true e)
    ∙ ap (λ (n : ℕ). seen (begun (w.seat seat) call) (list_in w n)) is
    ∙ ap (λ (v : SeatView). begun_seat v call) (s.seats seat)
begun_seats table w seat call i false s e =
    ap (seen ((begin w seat call).seat i)) (begun_list w seat call i false e)
    ∙ ap (λ (l : Local). seen l (list_in w i)) (upd_at w.seat seat (begun (w.seat seat) call) i false e)
    ∙ s.seats i

pub start-begin : (table : TableView) (w : World) (seat : ℕ) (call : Call) → Shows table w → seat < length table.seats → Shows (after_start table seat call) (begin w seat call)
start-begin table w seat call s h = record {
  layout = s.layout;
  count = s.count;
  mem = s.mem;
  seats = λ i. begun_seats table w seat call i (i == seat) s refl ∙ sym (seat_by table table.words seat (begun_seat (seat_at table seat) call) i (i == seat) h refl);
}

-- before the first call
none_listed : (bare : Bool) (list : List Lifetime) → list ≡ [] → (if bare then [] else list) ≡ list
none_listed true list e = sym e
none_listed false list e = refl

pub first-start : (table : TableView) → HoldsStart table.layout table.words → ((i : ℕ) → seat_at table i ≡ fresh_seat table.layout i) → Shows table (start table.layout)
first-start table h fresh = record {
  layout = refl;
  count = h.count;
  mem = sym (memory-start table.layout table.words h);
  seats = λ i. ap (seen ((start table.layout).seat i)) (none_listed (nat_lt 1 ((start table.layout).mem (PlaceOf i))) [] refl) ∙ sym (fresh i);
}

-- what holds of a desk where a call makes its next step holds of it as code keeps it
why_kept : (why : Why) (base : Base) (post : Post) (desk : Desk) → why_ready why base post desk → why_ready why base post (kept_desk desk)
why_kept (Retires answer) (Retire at) post desk h = h
why_kept (Retires answer) base post desk h = h
why_kept why base post desk h = h

scan_kept : (at : ScanAt) (post : Post) (desk : Desk) → scan_ready at post desk → scan_ready at post (kept_desk desk)
scan_kept (ReadGuard number) post desk h = h
scan_kept (GiveBack place slot) post desk h = let b : BackFits post desk place slot = h.1 in (h.0, record { entry = b.entry; back = b.back })

pub ready_kept : (phase : Phase) (post : Post) (desk : Desk) → IsCallReady phase post desk → IsCallReady phase post (kept_desk desk)
ready_kept Idle post desk h = h
ready_kept (Runs why base) post desk h = (h.0, why_kept why base post desk h.1)
ready_kept (Scans later at) post desk h = (h.0, scan_kept at post desk h.1)
ready_kept (Works work) post desk h = h

-- what a World gives a seat's code
pub may_unit : (table : TableView) (w : World) (seat : ℕ) → Shows table w → (w.seat seat).post.layout ≡ w.layout → list_in w seat ≡ (w.seat seat).desk.list → MayStep w seat → MayUnit table seat
may_unit table w seat s layout own may =
    let m : MakesSteps w seat table.words = made table w seat s (record { layout = layout; there = may.there }) in
    let is : shown (w.seat seat) ≡ seat_at table seat = ap (λ (list : List Lifetime). let v : SeatView = record { phase = (w.seat seat).phase; post = (w.seat seat).post; desk = record (kept_desk (w.seat seat).desk) { list = list } } in v) (sym own) ∙ s.seats seat in
    record {
      there = subst (λ (op : Op). word_in op < length table.words) (sym (asked-asks table w seat s)) m.within;
      valid = subst (λ (v : SeatView). IsValid v.post) is may.valid;
      ready = subst (λ (v : SeatView). IsCallReady v.phase v.post v.desk) is (ready_kept (w.seat seat).phase (w.seat seat).post (w.seat seat).desk may.ready);
      noted = subst (λ (v : SeatView). NotesFit v.post v.desk) is may.noted;
      plausible = subst (λ (v : SeatView). IsCallPlausible v.phase v.post (found_by table seat)) is
          (subst (λ (n : ℕ). IsCallPlausible (w.seat seat).phase (w.seat seat).post n) (sym (found_by-finds table w seat s m)) may.plausible);
    }
