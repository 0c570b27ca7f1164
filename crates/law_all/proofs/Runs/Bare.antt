-- A copy, a drop and a look, and calls by which a seat leaves or takes a list over, are given no row and give none back.
use Rattle.std.proofs.Common.{ℕ, ◌≡◌, Bool, true, false, List, [], ◌∷◌, ◌++◌, Option, Some, None, refl, sym, ◌∙◌, subst}
use Rattle.std.specs.Prelude.{◌==◌, filter, if◌then◌else◌}
use Rattle.law_all.proofs.inv.model.Facts.{number_is}
use Rattle.law_all.specs.inv.model.Calls.{CallTurn, CallOutcome, GoesOn, Answers, GetAt, FindVersion, FindCount, FindKey, FindValue, KeepAt, Keeping, Dropped, Parting, LoadHeld, Loosens, Looks, Misses, HideSpan, MarkLeft, TakeList, MarkTaken, StoreHeld, Phase, Idle, Runs, Works, Releases, Why}
use Rattle.law_all.specs.inv.model.Desks.{Desk, Notes, noted, noted_all, noting}
use Rattle.law_all.specs.inv.model.Keep as keeps
use Rattle.law_all.specs.inv.model.Locals.{Group, Local, begun, begun_post, rounds_told, settled_by, told_by, turn}
use Rattle.law_all.specs.inv.model.Phases.Base.{Clear, Release}
use Rattle.law_all.specs.inv.model.Phases.{Base, Outcome, Goes, Ends}
use Rattle.law_all.specs.inv.model.Posts.{counted, publishes_index, stands}
use Rattle.law_all.specs.inv.model.Rounds as rounds
use Rattle.law_all.specs.inv.model.Rounds.{scheme_of}
use Rattle.law_all.specs.inv.model.Steps as steps
use Rattle.law_all.specs.inv.model.World.{World, begin, finds, offered, step}
use Rattle.law_all.specs.inv.model.declared.post.Post.{Post}
use Rattle.law_all.specs.inv.model.defs.Events.{is_of_rows}
use Rattle.law_all.specs.inv.model.defs.declared.call.Call.TheVariants as calls
use Rattle.law_all.specs.inv.model.defs.declared.call.Call.{Call}
use Rattle.law_all.specs.inv.model.defs.declared.event.Event.TheVariants as events
use Rattle.law_all.specs.inv.model.defs.declared.event.Event.{Event}
use Rattle.law_all.specs.inv.model.defs.declared.lifetime.Interval.{Interval}
use Rattle.law_all.specs.inv.model.words.Place.{is_valid}
use Rattle.law_all.specs.inv.model.words.Schemes.{has_one_interval, publishes_rows}
use Rattle.law_all.specs.inv.model.words.declared.layout.Layout.{Layout}
use Rattle.law_all.specs.inv.Inv.{Inv}
use Rattle.law_all.specs.inv.ends.Told.{birth_in, row_events}
use Rattle.law_all.specs.inv.history.History.{Begins, Item, Made, Steps, done_if, fits, made_of, world_of}
use Rattle.law_all.specs.inv.rows.Hands.{base_row, keep_row, row_move}
use Rattle.law_all.specs.inv.rows.Rows.RowMove.{Adopts, Stays}
use Rattle.law_all.specs.inv.shapes.Frame.{phase_left}
use Rattle.law_all.specs.inv.shapes.Seats.{kind_of, suits}
use Rattle.law_all.proofs.inv.Inv.Reached.{inv_reached}
use Rattle.law_all.proofs.inv.ends.Told.Rows.{rows_told}
use Rattle.law_reasons.proofs.inv.ends.Handover.Asks.{run_of}
use Rattle.law_all.proofs.inv.history.Along.{paths_keep}
use Rattle.law_held.proofs.reuse.shapes.Frame.{begin_begins, begin_stays, seat_stays, seat_steps}
use Rattle.law_all.specs.RunLaw.{IsCall, NoRow, is_bare}
use Rattle.law_all.specs.Runs.{logs_of}
use Rattle.law_all.proofs.Logs.Notes.{turns_leave_notes}
use Rattle.law_all.proofs.Runs.Calls.{log_of_seat}

-- the phases of these calls
abbrev bare_at : KeepAt → Bool
bare_at (Loosens (Dropped index)) = true
bare_at (Loosens (Parting index)) = true
bare_at (Loosens let_go) = false
bare_at at = true

abbrev bare_why : Why → Bool
bare_why (Releases (Dropped index)) = true
bare_why (Releases (Parting index)) = true
bare_why why = false

abbrev bare_phase : Phase → Bool
bare_phase Idle = true
bare_phase (Runs why base) = bare_why why
bare_phase (Works (Keeping at)) = bare_at at
bare_phase phase = false

copy_begins : (from index : ℕ) (x : Option ℕ) → bare_phase (steps.copying from index x) ≡ true
copy_begins from index None = refl
copy_begins from index (Some slot) = refl

look_begins : (index key : ℕ) (x : Option ℕ) → bare_phase (steps.looking_at index key x) ≡ true
look_begins index key None = refl
look_begins index key (Some slot) = refl

drop_begins : (index : ℕ) (x : Option Base) → bare_phase (rounds.letting_by (Dropped index) x) ≡ true
drop_begins index None = refl
drop_begins index (Some base) = refl

part_index : (rows : Bool) (x : Option ℕ) → bare_phase (keeps.parting_index rows x) ≡ true
part_index rows None = refl
part_index rows (Some index) = refl

part_span : (x : Option Interval) → bare_phase (keeps.parting_span x) ≡ true
part_span None = refl
part_span (Some span) = refl

part_begins : (post : Post) → bare_phase (keeps.parting post) ≡ true
part_begins post = by (has_one_interval (scheme_of post))
  where
    by : (one : Bool) → bare_phase (if one then keeps.parting_span post.span else keeps.parting_from 2 post) ≡ true
    by true = part_span post.span
    by false = part_index _ _

call_begins : (call : Call) (post : Post) → is_bare call ≡ true → bare_phase (steps.first_phase call post) ≡ true
call_begins (calls.Copy from index) post h = copy_begins from index (stands post from)
call_begins (calls.DropIndex index) post h = drop_begins index (rounds.release_base (scheme_of post) post index)
call_begins (calls.Look index key) post h = look_begins index key (stands post index)
call_begins calls.Leave post h = part_begins post
call_begins (calls.Adopt place) post h = refl
call_begins call post h = absurd (cc)

copied_goes : (from index : ℕ) (post : Post) (desk : Desk) (reserved : List Event) (x : Option ℕ) → bare_phase (phase_left (keeps.copied from index post desk reserved x).outcome) ≡ true
copied_goes from index post desk reserved None = refl
copied_goes from index post desk reserved (Some slot) = refl

load_goes : (from index : ℕ) (post : Post) (desk : Desk) (found : ℕ) (one : Bool) → bare_phase (phase_left (keeps.load_held from index post desk found one).outcome) ≡ true
load_goes from index post desk found true = copied_goes from index post desk [] (stands post from)
load_goes from index post desk found false = refl

looking_goes : (index key slot version count : ℕ) (post : Post) (desk : Desk) (more : Bool) (pair : ℕ) → bare_phase (phase_left (keeps.looking index key slot version count post desk more pair).outcome) ≡ true
looking_goes index key slot version count post desk true pair = refl
looking_goes index key slot version count post desk false pair = refl

key_goes : (index key slot version count pair : ℕ) (post : Post) (desk : Desk) (own : Bool) → bare_phase (phase_left (keeps.looked_key index key slot version count pair post desk own).outcome) ≡ true
key_goes index key slot version count pair post desk true = refl
key_goes index key slot version count pair post desk false = looking_goes index key slot version count post desk _ _

look_goes : (index key : ℕ) (at : GetAt) (post : Post) (desk : Desk) (found : ℕ) → bare_phase (phase_left (keeps.look_turn index key at post desk found).outcome) ≡ true
look_goes index key (FindVersion slot) post desk found = refl
look_goes index key (FindCount slot version) post desk found = looking_goes index key slot version found post desk _ _
look_goes index key (FindKey slot version count pair) post desk found = key_goes index key slot version count pair post desk _
look_goes index key (FindValue slot version pair) post desk found = refl

take_goes : (place : ℕ) (post : Post) (desk : Desk) (found : ℕ) (left : Bool) → bare_phase (phase_left (keeps.taking place post desk left found).outcome) ≡ true
take_goes place post desk found true = refl
take_goes place post desk found false = refl

keep_goes : (at : KeepAt) (post : Post) (desk : Desk) (found : ℕ) → bare_at at ≡ true → bare_phase (phase_left (keeps.keep_turn at post desk found).outcome) ≡ true
keep_goes (Loosens (Dropped index)) post desk found h = refl
keep_goes (Loosens (Parting index)) post desk found h = part_index _ _
keep_goes (Loosens let_go) post desk found h = absurd (cc)
keep_goes (LoadHeld from index) post desk found h = load_goes from index post desk found (has_one_interval (scheme_of post))
keep_goes (StoreHeld from index era) post desk found h = copied_goes from index post desk (publishes_index (publishes_rows (scheme_of post)) post index era) (stands post from)
keep_goes (Looks index key at) post desk found h = look_goes index key at post desk found
keep_goes (Misses index) post desk found h = refl
keep_goes HideSpan post desk found h = refl
keep_goes MarkLeft post desk found h = refl
keep_goes (TakeList place) post desk found h = take_goes place post desk found (found == 1)
keep_goes (MarkTaken place count) post desk found h = refl

drop_goes : (index : ℕ) (desk : Desk) (post : Post) (told : List Event) (outcome : Outcome) → bare_phase (phase_left (steps.resumed (Releases (Dropped index)) desk post told outcome).outcome) ≡ true
drop_goes index desk post told (Goes base) = refl
drop_goes index desk post told (Ends ending) = refl

part_goes : (index : ℕ) (desk : Desk) (post : Post) (told : List Event) (outcome : Outcome) → bare_phase (phase_left (steps.resumed (Releases (Parting index)) desk post told outcome).outcome) ≡ true
part_goes index desk post told (Goes base) = refl
part_goes index desk post told (Ends ending) = part_index _ _

phase_goes : (phase : Phase) (post : Post) (desk : Desk) (found : ℕ) → bare_phase phase ≡ true → bare_phase (phase_left (steps.phase_turn phase post desk found).outcome) ≡ true
phase_goes Idle post desk found h = refl
phase_goes (Runs (Releases (Dropped index)) base) post desk found h = drop_goes index desk _ _ _
phase_goes (Runs (Releases (Parting index)) base) post desk found h = part_goes index desk _ _ _
phase_goes (Works (Keeping at)) post desk found h = keep_goes at post desk found h
phase_goes phase post desk found h = absurd (cc)

-- they tell of no row
drop_row : (index birth : ℕ) (base : Base) (found : ℕ) → suits base (kind_of (Releases (Dropped index))) ≡ true → row_events birth (base_row base found) ≡ []
drop_row index birth (Clear rows cleared) found r = refl
drop_row index birth (Release released) found r = refl
drop_row index birth base found r = absurd (cc)

part_row : (index birth : ℕ) (base : Base) (found : ℕ) → suits base (kind_of (Releases (Parting index))) ≡ true → row_events birth (base_row base found) ≡ []
part_row index birth (Clear rows cleared) found r = refl
part_row index birth (Release released) found r = refl
part_row index birth base found r = absurd (cc)

take_none : (birth place : ℕ) (left : Bool) → row_events birth (if left then Adopts place else Stays) ≡ []
take_none birth place true = refl
take_none birth place false = refl

keep_none : (birth : ℕ) (at : KeepAt) (found : ℕ) → row_events birth (keep_row at found) ≡ []
keep_none birth (TakeList place) found = take_none birth place (found == 1)
keep_none birth at found = refl

phase_row : (phase : Phase) (post : Post) (found : ℕ) → bare_phase phase ≡ true → ((why : Why) (base : Base) → phase ≡ Runs why base → suits base (kind_of why) ≡ true)
    → row_events (birth_in phase) (row_move phase post found) ≡ []
phase_row Idle post found h r = refl
phase_row (Runs (Releases (Dropped index)) base) post found h r = drop_row index _ base found (r (Releases (Dropped index)) base refl)
phase_row (Runs (Releases (Parting index)) base) post found h r = part_row index _ base found (r (Releases (Parting index)) base refl)
phase_row (Works (Keeping at)) post found h r = keep_none _ at found
phase_row phase post found h r = absurd (cc)

one_noted : (notes : Notes) (event : Event) → is_of_rows event ≡ false → NoRow notes → NoRow (noted notes event)
one_noted notes (events.Give slot birth) e h = absurd (cc)
one_noted notes (events.Unused slot) e h = absurd (cc)
one_noted notes (events.Retire slot birth retire) e h = absurd (cc)
one_noted notes (events.Back slot) e h = absurd (cc)
one_noted notes event e h = h

none_first : (b : Bool) (event : Event) (rest : List Event) → (if b then event ∷ rest else rest) ≡ [] → (b ≡ false) × (rest ≡ [])
none_first true event rest e = absurd (cc)
none_first false event rest e = (refl, e)

all_noted : (told : List Event) (notes : Notes) → filter is_of_rows told ≡ [] → NoRow notes → NoRow (noted_all notes told)
all_noted [] notes e h = h
all_noted (event ∷ told) notes e h =
    let f = none_first (is_of_rows event) event (filter is_of_rows told) e in all_noted told (noted notes event) f.1 (one_noted notes event f.0 h)

-- the calls of a log
abbrev IsBare : Group → Type 0
IsBare group = is_bare group.call ≡ true → NoRow group.notes

abbrev AllBare : List Group → Type 0
AllBare [] = Unit {0}
AllBare (group ∷ log) = IsBare group × AllBare log

all_more : (log : List Group) (group : Group) → AllBare log → IsBare group → AllBare (log ++ group ∷ [])
all_more [] group h b = (b, tt)
all_more (first ∷ log) group h b = (h.0, all_more log group h.1 b)

all_at : (before : List Group) (group : Group) (later : List Group) → AllBare (before ++ group ∷ later) → IsBare group
all_at [] group later h = h.0
all_at (first ∷ before) group later h = all_at before group later h.1

record Bare (l : Local) : Type 0 where
  phase : is_bare l.call ≡ true → bare_phase l.phase ≡ true
  notes : is_bare l.call ≡ true → NoRow l.desk.notes
  log : AllBare l.log

settled_bare : (l : Local) (post : Post) (desk : Desk) (rounds : ℕ) (outcome : CallOutcome) → (is_bare l.call ≡ true → bare_phase (phase_left outcome) ≡ true)
    → (is_bare l.call ≡ true → NoRow desk.notes) → AllBare l.log → Bare (settled_by l post desk rounds outcome)
settled_bare l post desk rounds (GoesOn phase) p n g = record { phase = p; notes = n; log = g }
settled_bare l post desk rounds (Answers answer) p n g =
    record { phase = λ c. refl; notes = n; log = all_more l.log (record { call = l.call; answer = answer; notes = desk.notes }) g n }

step_own : (w : World) (i : ℕ) → Inv w → Bare (w.seat i) → Bare ((step w i).seat i)
step_own w i a g =
    let l : Local = offered w i in
    let t : CallTurn = turn l (finds w i) in
    subst Bare (sym (seat_steps w i))
    (settled_bare l t.post (noting t.desk (told_by t)) (rounds_told (publishes_rows (scheme_of t.post)) l.rounds (told_by t)) t.outcome
    (λ c. phase_goes l.phase (counted l.post) l.desk (finds w i) (g.phase c))
    (λ c.
    all_noted (told_by t) t.desk.notes
    (rows_told w i ∙ phase_row l.phase l.post (finds w i) (g.phase c) (λ why base e. (run_of w i why base a.known.seats e).suited))
    (subst NoRow (sym (turns_leave_notes l (finds w i))) (g.notes c)))
    g.log)

step_bare : (w : World) (i k : ℕ) (same : Bool) → (k == i) ≡ same → Inv w → ((m : ℕ) → Bare (w.seat m)) → Bare ((step w i).seat k)
step_bare w i k true e a g = subst (λ (m : ℕ). Bare ((step w i).seat m)) (sym (number_is k i e)) (step_own w i a (g i))
step_bare w i k false e a g = subst Bare (sym (seat_stays w i k e)) (g k)

begun_bare : (l : Local) (call : Call) → Bare l → Bare (begun l call)
begun_bare l call g = record { phase = λ c. call_begins call (begun_post l.post) c; notes = λ c. (refl, refl); log = g.log }

begin_bare : (w : World) (i k : ℕ) (call : Call) (same : Bool) → (k == i) ≡ same → ((m : ℕ) → Bare (w.seat m)) → Bare ((begin w i call).seat k)
begin_bare w i k call true e g =
    subst (λ (m : ℕ). Bare ((begin w i call).seat m)) (sym (number_is k i e)) (subst Bare (sym (begin_begins w i call)) (begun_bare (w.seat i) call (g i)))
begin_bare w i k call false e g = subst Bare (sym (begin_stays w i k call e)) (g k)

abbrev Seats : Made → Type 0
Seats made = (k : ℕ) → Bare (made.world.seat k)

item_bare : (layout : Layout) → is_valid layout ≡ true → (path : List Item) (item : Item) (fit : Bool) → fits (world_of layout path) item ≡ fit → Seats (made_of layout path) → Seats (done_if (made_of layout path) item fit)
item_bare layout d path item false f g = g
item_bare layout d path (Begins i call) true f g = λ k. begin_bare (world_of layout path) i k call (k == i) refl g
item_bare layout d path (Steps i) true f g = λ k. step_bare (world_of layout path) i k (k == i) refl (inv_reached layout path d) g

logs_bare : (layout : Layout) (items : List Item) → is_valid layout ≡ true → Seats (made_of layout items)
logs_bare layout items d = paths_keep layout Seats (item_bare layout d) (λ k. record { phase = λ c. absurd (cc); notes = λ c. absurd (cc); log = tt }) items

pub none_noted : (layout : Layout) (items : List Item) (before : List Group) (group : Group) → is_valid layout ≡ true → IsCall (logs_of layout items) before group
    → is_bare group.call ≡ true → NoRow group.notes
none_noted layout items before group d h =
    let s = log_of_seat layout items h.log.seat (before ++ group ∷ h.later) h.log.at in
    let g = logs_bare layout items d s.0 in
    all_at before group h.later (subst AllBare s.1 g.log)
