-- A table that shows a World in which all seats stay: what its seats need for their units, and that units and starts keep that.
-- Where another table has other place words, the same holds of it with each place word 0.
use Rattle.std.proofs.Common.{Bool, List, [], ap, ap₂, arith, false, get_or, length, length-set, refl, slice_set, subst, suc, sym, true, zero, ℕ, ◌+◌, ◌-◌, ◌<◌, ◌^◌, ◌∙◌, ◌∷◌, ◌≡◌}
use Rattle.std.proofs.lemmas.Bool.Decides.{nat_tests}
use Rattle.std.proofs.lemmas.List.{ext_get_or, get_or_past}
use Rattle.std.proofs.lemmas.List.FromFn.{get_or-map-range_with_len, length-map-range_with_len}
use Rattle.std.specs.Prelude.{Err, IfOk, None, Ok, Option, Result, map, nat_lt, ◌==◌}
use Rattle.std.specs.List.{range_with_len}
use Rattle.wfe_core.specs.words.Place.{Place, has, is_valid, number, place_at, start_at, start_of, words}
use Rattle.wfe_core.specs.words.Place.Place.{PlaceOf}
use Rattle.wfe_core.specs.words.declared.layout.Layout.{Layout}
use Rattle.wfe_core.specs.defs.declared.call.Answer.{Answer}
use Rattle.wfe_core.specs.defs.declared.call.Call.{Call}
use Rattle.wfe_core.specs.defs.declared.event.Event.{Event}
use Rattle.wfe_core.specs.CallReady.{IsCallPlausible, IsCallReady, NotesFit}
use Rattle.wfe_core.specs.Valid.{IsValid}
use Rattle.wfe_core.specs.Calls.{Answers, CallOutcome, CallTurn, GoesOn, Phase}
use Rattle.wfe_core.specs.Desks.{Desk, no_notes}
use Rattle.wfe_core.specs.Locals.{Local, asks, begun_post, busy_in, may_begin, move, stays, told_by, turn}
use Rattle.wfe_core.specs.Memory.{Move, place_in}
use Rattle.wfe_core.specs.MayStep.{MayStep}
use Rattle.wfe_core.specs.Rest.{rest}
use Rattle.wfe_core.specs.Steps.{first_phase}
use Rattle.wfe_core.specs.World.{World, begin, finds, is_busy, is_here, may_start, offered, start, step}
use Rattle.wfe_core.specs.declared.op.Op.{Op}
use Rattle.wfe_core.specs.declared.post.Post.{Post}
use Rattle.wfe_core.proofs.Facts.{both}
use Rattle.wfe_drive_cells.specs.Bridge.{AsksWithin}
use Rattle.wfe_drive_cells.specs.Memory.{HoldsStart}
use Rattle.wfe_drive_cells.specs.Operations.{answered, performed, word_in}
use Rattle.wfe_drive_cells.specs.Unit.{IsStep, IsUnit, ListsStay, MayUnit, SeatView, Shows, TableView, after_start, after_unit, answer_in, asked, begun_seat, found_by, fresh_seat, may_adopt, phase_after, seat_after, seat_at, turned, unit_turn, with_seat}
use Rattle.wfe_drive_cells.proofs.Bridge.{word_in-numbered}
use Rattle.wfe_drive_cells.proofs.Units.{Same, after-length, busy-shown, first-start, made, may_unit, own_turn, own_unit, start-begin, unit-step, unit_turn-turn}
use Rattle.law_reuse.specs.inv.Inv.{Inv}
use Rattle.law_reuse.proofs.inv.Inv.Begun.{inv_begin, inv_start}
use Rattle.law_reuse.proofs.inv.Inv.Kept.{inv_kept, inv_ready}
use Rattle.wfe_drive.specs.Bare.{bare, bare_words, is_of_seat, is_place}
use Rattle.wfe_drive.specs.Reached.{IsReached, StaysIn, first_table, units_left}
use Rattle.wfe_drive.proofs.Bare.{bare_answered, bare_length, bare_performed, bare_same, number_place}
use Rattle.wfe_drive.proofs.Lists.{lists_stay}
use Rattle.wfe_drive.proofs.Off.{move_place}
use Rattle.wfe_drive.proofs.Staying.{begin_right, first_busy, first_right, goes_busy, seat_adopts, step_count, step_right}

-- what is known of the World that the table shows
record At (table : TableView) (seat : ℕ) (w : World) : Type 0 where
  below : seat < w.layout.config.seats
  asks : AsksWithin w seat
  may : MayStep w seat
  none : may_adopt (seat_at table seat).phase ≡ false
  place : is_here w seat ≡ true
  lists : is_busy w seat ≡ true → ListsStay w seat
  here : seat < length table.seats

at_seat : (table : TableView) (seat : ℕ) (r : IsReached table) → seat < table.layout.config.seats → At table seat r.world
at_seat table seat r h =
    let w : World = r.world in
    let s : Shows table w = r.shows in
    let a : Inv w = r.known in
    let l : seat < w.layout.config.seats = subst (λ (layout : Layout). seat < layout.config.seats) (sym s.layout) h in
    let m : MayStep w seat = inv_ready w seat l a in
    let k = a.known in
    let f = k.seats.fits seat in
    let stay : StaysIn w seat = r.right seat in
    record {
      below = l;
      asks = record { layout = f.post.layout; there = m.there };
      may = m;
      none = ap (λ (v : SeatView). may_adopt v.phase) (sym (s.seats seat)) ∙ seat_adopts w seat stay;
      place = ap (λ (word : ℕ). word == 0) stay.here;
      lists = λ b. lists_stay w seat b a;
      here = subst (λ (n : ℕ). seat < n) (sym r.seats) h;
    }

-- what the seat's code needs for its unit
pub record Goes (table : TableView) (seat : ℕ) : Type 0 where
  pub may : MayUnit table seat
  pub own : may_adopt (seat_at table seat).phase ≡ false
  pub goes : (phase : Phase) → (turned (seat_at table seat) (found_by table seat)).outcome ≡ GoesOn phase → busy_in phase ≡ true

-- an outcome that leaves the same phase and answer is the same
goes_same : (t u : CallOutcome) (phase : Phase) → t ≡ GoesOn phase → answer_in t ≡ answer_in u → phase_after t ≡ phase_after u → u ≡ GoesOn phase
goes_same t (GoesOn next) phase e a p = ap GoesOn (sym p ∙ ap phase_after e)
goes_same t (Answers answer) phase e a p = let none : answer_in t ≡ None = ap answer_in e in absurd (cc)

pub goes_of : (table : TableView) (seat : ℕ) → IsReached table → seat < table.layout.config.seats → busy_in (seat_at table seat).phase ≡ true → Goes table seat
goes_of table seat r h b =
    let w : World = r.world in
    let s : Shows table w = r.shows in
    let k : At table seat w = at_seat table seat r h in
    let asks : AsksWithin w seat = k.asks in
    let busy : is_busy w seat ≡ true = sym (busy-shown table w seat s) ∙ b in
    let lists : ListsStay w seat = k.lists busy in
    let same : Same (unit_turn table seat) (turn (offered w seat) (finds w seat)) = unit_turn-turn table w seat s (made table w seat s asks) lists in
    record {
      may = may_unit table w seat s asks.layout lists.own k.may;
      own = k.none;
      goes = λ phase e. goes_busy w seat phase busy r.known (r.right seat)
          (goes_same (unit_turn table seat).outcome (turn (offered w seat) (finds w seat)).outcome phase (ap (λ (t : CallTurn). t.outcome) (own_turn table seat k.none) ∙ e) same.answer (ap (λ (v : SeatView). v.phase) same.after));
    }

-- its operation is on no place word
pub off_place : (table : TableView) (seat : ℕ) → IsReached table → seat < table.layout.config.seats → is_place table.layout (word_in (asked (seat_at table seat))) ≡ false
off_place table seat r h =
    let w : World = r.world in
    let s : Shows table w = r.shows in
    let k : At table seat w = at_seat table seat r h in
    let asks : AsksWithin w seat = k.asks in
    let m : Move = move (w.seat seat) in
    let is : word_in (asked (seat_at table seat)) ≡ number w.layout (place_in m) = ap (λ (v : SeatView). word_in (asked v)) (sym (s.seats seat)) ∙ word_in-numbered (w.seat seat).post.layout m
    ∙ ap (λ (layout : Layout). number layout (place_in m)) asks.layout in
    ap (λ (n : ℕ). is_place table.layout n) is ∙ ap (λ (layout : Layout). is_place layout (number w.layout (place_in m))) (sym s.layout)
    ∙ number_place w.layout (place_in m) asks.there ∙ move_place w seat (r.right seat)

seats_after : (old new : TableView) (seat : ℕ) → new ≡ after_unit old seat → length new.seats ≡ length old.seats
seats_after old new seat e = ap (λ (t : TableView). length t.seats) e ∙ after-length old seat

-- a unit is a step more
unit_step : (old new : TableView) (seat : ℕ) (told : List Event) (answer : Option Answer) (r : IsReached old) → IsUnit old new seat told answer → seat < old.layout.config.seats → busy_in (seat_at old seat).phase ≡ true → IsStep new r.world seat told answer
unit_step old new seat told answer r u h b =
    let k : At old seat r.world = at_seat old seat r h in
    unit-step old new r.world seat told answer u r.shows r.seats h k.asks (k.lists (sym (busy-shown old r.world seat r.shows) ∙ b))

pub unit_reached : (old new : TableView) (seat : ℕ) (told : List Event) (answer : Option Answer) → IsReached old → IsUnit old new seat told answer → seat < old.layout.config.seats → busy_in (seat_at old seat).phase ≡ true → IsReached new
unit_reached old new seat told answer r u h b =
    let w : World = r.world in
    let s : Shows old w = r.shows in
    let k : At old seat w = at_seat old seat r h in
    let n : IsStep new w seat told answer = unit_step old new seat told answer r u h b in
    let layout : new.layout ≡ old.layout = ap (λ (t : TableView). t.layout) u.table_is in
    let busy : is_busy w seat ≡ true = sym (busy-shown old w seat s) ∙ b in
    record {
      valid = subst (λ (l : Layout). is_valid l ≡ true) (sym layout) r.valid;
      seats = seats_after old new seat u.table_is ∙ r.seats ∙ ap (λ (l : Layout). l.config.seats) (sym layout);
      world = step w seat;
      known = inv_kept w seat k.below r.known;
      shows = n.shows;
      right = λ m. step_right w seat m (m == seat) refl k.below busy r.known r.right;
    }

pub unit_falls : (old new : TableView) (seat : ℕ) (told : List Event) (answer : Option Answer) → IsReached old → IsUnit old new seat told answer → seat < old.layout.config.seats → busy_in (seat_at old seat).phase ≡ true → units_left new seat < units_left old seat
unit_falls old new seat told answer r u h b =
    let w : World = r.world in
    let s : Shows old w = r.shows in
    let stay : StaysIn w seat = r.right seat in
    let n : IsStep new w seat told answer = unit_step old new seat told answer r u h b in
    let m : Shows new (step w seat) = n.shows in
    let busy : is_busy w seat ≡ true = sym (busy-shown old w seat s) ∙ b in
    let before : (w.seat seat).post.steps ≡ (seat_at old seat).post.steps = ap (λ (v : SeatView). v.post.steps) (s.seats seat) in
    let after : ((step w seat).seat seat).post.steps ≡ (seat_at new seat).post.steps = ap (λ (v : SeatView). v.post.steps) (m.seats seat) in
    fewer (w.seat seat).post.steps (rest w seat) (seat_at old seat).post.steps (seat_at new seat).post.steps (stay.few busy) before (sym after ∙ step_count w seat busy stay)
  where
    fewer : (count left old new : ℕ) → count + left < 2 ^ 62 → count ≡ old → new ≡ count + 1 → 2 ^ 62 - new < 2 ^ 62 - old
    fewer count left old new h e f = omega (h, e, f, arith)

-- a start is a beginning more
pub start_reached : (table : TableView) (seat : ℕ) (call : Call) → IsReached table → seat < table.layout.config.seats → busy_in (seat_at table seat).phase ≡ false → may_begin table.layout.config call ≡ true → stays call ≡ true → IsReached (after_start table seat call)
start_reached table seat call r h b may stay =
    let w : World = r.world in
    let s : Shows table w = r.shows in
    let k : At table seat w = at_seat table seat r h in
    let m : may_start w seat call ≡ true = both (is_here w seat) (may_begin w.layout.config call) k.place (subst (λ (layout : Layout). may_begin layout.config call ≡ true) (sym s.layout) may) in
    let known : Inv (begin w seat call) = inv_begin w seat call (sym (busy-shown table w seat s) ∙ b) m r.known in
    record {
      valid = r.valid;
      seats = length-set table.seats seat (begun_seat (seat_at table seat) call) ∙ r.seats;
      world = begin w seat call;
      known = known;
      shows = start-begin table w seat call s k.here;
      right = λ m. begin_right w seat m call (m == seat) refl k.below known stay r.right;
    }

-- the table at its start is the first of all
pub words_first : (layout : Layout) (list : List ℕ) → HoldsStart layout list → list ≡ map (start_at layout) (range_with_len 0 (words layout))
words_first layout list h =
    ext_get_or 0 list (map (start_at layout) (range_with_len 0 (words layout))) (h.count ∙ sym (length-map-range_with_len (start_at layout) 0 (words layout)))
    (λ i l. let b : i < words layout = subst (λ (n : ℕ). i < n) h.count l in h.starts i b ∙ sym (get_or-map-range_with_len (start_at layout) 0 (words layout) i i 0 b (omega arith)))

seats_first : (layout : Layout) (i : ℕ) (in_table : Bool) → nat_lt i layout.config.seats ≡ in_table → seat_at (first_table layout) i ≡ fresh_seat layout i
seats_first layout i true e = get_or-map-range_with_len (fresh_seat layout) 0 layout.config.seats i i (fresh_seat layout i) (grind (arith, nat_tests)) (omega arith)
seats_first layout i false e =
    get_or_past (map (fresh_seat layout) (range_with_len 0 layout.config.seats)) i (fresh_seat layout i)
    (let n : length (map (fresh_seat layout) (range_with_len 0 layout.config.seats)) ≡ layout.config.seats = length-map-range_with_len (fresh_seat layout) 0 layout.config.seats in grind (arith, nat_tests))

pub first_reached : (layout : Layout) (list : List ℕ) → is_valid layout ≡ true → HoldsStart layout list → IsReached (first_table layout)
first_reached layout list d h = record {
  valid = d;
  seats = length-map-range_with_len (fresh_seat layout) 0 layout.config.seats;
  world = start layout;
  known = inv_start layout d;
  shows = first-start (first_table layout) (subst (HoldsStart layout) (words_first layout list h) h) (λ i. seats_first layout i (nat_lt i layout.config.seats) refl);
  right = λ k. first_right layout k;
}

-- and its place words read 0
start_by : (layout : Layout) (place : Place) → is_of_seat place ≡ true → start_of layout place ≡ 0
start_by layout (PlaceOf seat) e = refl
start_by layout place e = absurd (cc)

start_places : (layout : Layout) (word : ℕ) (within : Bool) → nat_lt word (words layout) ≡ within → is_place layout word ≡ true → get_or (map (start_at layout) (range_with_len 0 (words layout))) word 0 ≡ 0
start_places layout word true e on =
    get_or-map-range_with_len (start_at layout) 0 (words layout) word word 0 (grind (arith, nat_tests)) (omega arith) ∙ start_by layout (place_at layout word) on
start_places layout word false e on =
    get_or_past (map (start_at layout) (range_with_len 0 (words layout))) word 0
    (let n : length (map (start_at layout) (range_with_len 0 (words layout))) ≡ words layout = length-map-range_with_len (start_at layout) 0 (words layout) in grind (arith, nat_tests))

pub first_bare : (layout : Layout) → bare (first_table layout) ≡ first_table layout
first_bare layout =
    ap (λ (list : List ℕ). let t : TableView = record { layout = layout; words = list; seats = map (fresh_seat layout) (range_with_len 0 layout.config.seats) } in t)
    (bare_same layout (map (start_at layout) (range_with_len 0 (words layout))) (λ word on. start_places layout word (nat_lt word (words layout)) refl on))

pub made_bare : {E : Type 0} (layout : Layout) (result : Result TableView E) → IfOk result (λ table. table ≡ first_table layout) → IfOk result (λ table. bare table ≡ first_table layout)
made_bare layout (Ok table) h = ap bare h ∙ first_bare layout
made_bare layout (Err error) h = h

-- the seat in a place is the table's
get_any : (views : List SeatView) (i : ℕ) (v w : SeatView) → i < length views → get_or views i v ≡ get_or views i w
get_any [] i v w h = absurd (omega (h, arith))
get_any (view ∷ views) zero v w h = refl
get_any (view ∷ views) (suc i) v w h = get_any views i v w (omega (h, arith))

pub seat_is : (table : TableView) (seat : ℕ) (v : SeatView) → IsReached (bare table) → seat < table.layout.config.seats → v ≡ get_or table.seats seat v → v ≡ seat_at table seat
seat_is table seat v r h e = e ∙ get_any table.seats seat v (fresh_seat table.layout seat) (subst (λ (n : ℕ). seat < n) (sym r.seats) h)

-- what the code of the seat in a place needs for its unit
pub record Ready (table : TableView) (v : SeatView) : Type 0 where
  pub there : word_in (asked v) < length table.words
  pub off : is_place table.layout (word_in (asked v)) ≡ false
  pub valid : IsValid v.post
  pub ready : IsCallReady v.phase v.post v.desk
  pub noted : NotesFit v.post v.desk
  pub plausible : IsCallPlausible v.phase v.post (answered table.words (asked v))
  pub own : may_adopt v.phase ≡ false
  pub goes : (phase : Phase) → (turned v (answered table.words (asked v))).outcome ≡ GoesOn phase → busy_in phase ≡ true

ready_at : (table : TableView) (seat : ℕ) → Goes (bare table) seat → is_place table.layout (word_in (asked (seat_at table seat))) ≡ false → Ready table (seat_at table seat)
ready_at table seat g off =
    let m : MayUnit (bare table) seat = g.may in
    let v : SeatView = seat_at table seat in
    let found : answered (bare_words table.layout table.words) (asked v) ≡ answered table.words (asked v) = bare_answered table.layout table.words (asked v) off in
    record {
      there = subst (λ (n : ℕ). word_in (asked v) < n) (bare_length table.layout table.words) m.there;
      off = off;
      valid = m.valid;
      ready = m.ready;
      noted = m.noted;
      plausible = subst (IsCallPlausible v.phase v.post) found m.plausible;
      own = g.own;
      goes = subst (λ (n : ℕ). (phase : Phase) → (turned v n).outcome ≡ GoesOn phase → busy_in phase ≡ true) found g.goes;
    }

pub ready_of : (table : TableView) (seat : ℕ) (v : SeatView) → IsReached (bare table) → seat < table.layout.config.seats → v ≡ get_or table.seats seat v → busy_in v.phase ≡ true → Ready table v
ready_of table seat v r h e b =
    let is : v ≡ seat_at table seat = seat_is table seat v r h e in
    subst (Ready table) (sym is) (ready_at table seat (goes_of (bare table) seat r h (ap (λ (view : SeatView). busy_in view.phase) (sym is) ∙ b)) (off_place (bare table) seat r h))

-- the table with the seat after its unit
pub unit_of : (table : TableView) (seat : ℕ) (v w : SeatView) (list : List ℕ) (told : List Event) (answer : Option Answer) → v ≡ seat_at table seat → may_adopt v.phase ≡ false → list ≡ performed table.words (asked v) → w ≡ seat_after (turned v (answered table.words (asked v)))
    → told ≡ told_by (turned v (answered table.words (asked v))) → answer ≡ answer_in (turned v (answered table.words (asked v))).outcome → IsUnit table (record { layout = table.layout; words = list; seats = slice_set table.seats seat w }) seat told answer
unit_of table seat v w list told answer is own words view events answers =
    let s = seat_at table seat in
    let n : may_adopt s.phase ≡ false = ap (λ (x : SeatView). may_adopt x.phase) (sym is) ∙ own in
    let f : performed table.words (asked v) ≡ performed table.words (asked s) = ap (λ (x : SeatView). performed table.words (asked x)) is in
    let made : turned v (answered table.words (asked v)) ≡ turned s (found_by table seat) = ap (λ (x : SeatView). turned x (answered table.words (asked x))) is in
    let t : turned v (answered table.words (asked v)) ≡ unit_turn table seat = made ∙ sym (own_turn table seat n) in
    record {
      table_is = ap₂ (λ (l : List ℕ) (x : SeatView). with_seat table l seat x) (words ∙ f) (view ∙ ap seat_after made) ∙ sym (own_unit table seat n);
      told_is = events ∙ ap told_by t;
      answer_is = answers ∙ ap (λ (x : CallTurn). answer_in x.outcome) t;
    }

-- a seat's post has the table's setting
pub layout_at : (table : TableView) (seat : ℕ) → IsReached table → seat < table.layout.config.seats → (seat_at table seat).post.layout ≡ table.layout
layout_at table seat r h =
    let s : Shows table r.world = r.shows in
    let k : At table seat r.world = at_seat table seat r h in
    let asks : AsksWithin r.world seat = k.asks in
    ap (λ (v : SeatView). v.post.layout) (sym (s.seats seat)) ∙ asks.layout ∙ s.layout

-- the same, where the table is known by another name: before the unit
pub ready_from : (table now : TableView) (seat : ℕ) (v : SeatView) → table ≡ now → IsReached (bare table) → seat < now.layout.config.seats → busy_in (seat_at now seat).phase ≡ true → v ≡ get_or table.seats seat v → Ready table v
ready_from table now seat v n r h b e =
    let l : seat < table.layout.config.seats = subst (λ (t : TableView). seat < t.layout.config.seats) (sym n) h in
    let y : busy_in (seat_at table seat).phase ≡ true = subst (λ (t : TableView). busy_in (seat_at t seat).phase ≡ true) (sym n) b in
    ready_of table seat v r l e (ap (λ (view : SeatView). busy_in view.phase) (seat_is table seat v r l e) ∙ y)

-- and after it
pub record After (table : TableView) (seat : ℕ) (w : SeatView) (list : List ℕ) (told : List Event) (answer : Option Answer) : Type 0 where
  pub unit : IsUnit table (record { layout = table.layout; words = list; seats = slice_set table.seats seat w }) seat told answer
  pub bare_unit : IsUnit (bare table) (bare (record { layout = table.layout; words = list; seats = slice_set table.seats seat w })) seat told answer
  pub own : may_adopt (seat_at table seat).phase ≡ false
  pub reached : IsReached (bare (record { layout = table.layout; words = list; seats = slice_set table.seats seat w }))
  pub falls : units_left (record { layout = table.layout; words = list; seats = slice_set table.seats seat w }) seat < units_left table seat

pub after_from : (table now : TableView) (seat : ℕ) (v w : SeatView) (list : List ℕ) (told : List Event) (answer : Option Answer) → table ≡ now → IsReached (bare table) → seat < now.layout.config.seats → busy_in (seat_at now seat).phase ≡ true → v ≡ get_or table.seats seat v
    → list ≡ performed table.words (asked v) → w ≡ seat_after (turned v (answered table.words (asked v))) → told ≡ told_by (turned v (answered table.words (asked v))) → answer ≡ answer_in (turned v (answered table.words (asked v))).outcome → After table seat w list told answer
after_from table now seat v w list told answer n r h b e words view events answers =
    let l : seat < table.layout.config.seats = subst (λ (t : TableView). seat < t.layout.config.seats) (sym n) h in
    let y : busy_in (seat_at table seat).phase ≡ true = subst (λ (t : TableView). busy_in (seat_at t seat).phase ≡ true) (sym n) b in
    let is : v ≡ seat_at table seat = seat_is table seat v r l e in
    let ready : Ready table v = ready_of table seat v r l e (ap (λ (view : SeatView). busy_in view.phase) is ∙ y) in
    let new : TableView = record { layout = table.layout; words = list; seats = slice_set table.seats seat w } in
    let u : IsUnit table new seat told answer = unit_of table seat v w list told answer is ready.own words view events answers in
    let list_is : bare_words table.layout list ≡ performed (bare_words table.layout table.words) (asked v) = ap (bare_words table.layout) words ∙ sym (bare_performed table.layout table.words (asked v) ready.off ready.there) in
    let found : answered table.words (asked v) ≡ answered (bare_words table.layout table.words) (asked v) = sym (bare_answered table.layout table.words (asked v) ready.off) in
    let f : CallTurn → CallTurn = λ t. t in
    let t : turned v (answered table.words (asked v)) ≡ turned v (answered (bare_words table.layout table.words) (asked v)) = ap (λ (x : ℕ). turned v x) found in
    let bares : IsUnit (bare table) (bare new) seat told answer = unit_of (bare table) seat v w (bare_words table.layout list) told answer is ready.own list_is (view ∙ ap seat_after t) (events ∙ ap told_by t) (answers ∙ ap (λ (x : CallTurn). answer_in x.outcome) t) in
    record {
      unit = u;
      bare_unit = bares;
      own = ap (λ (x : SeatView). may_adopt x.phase) (sym is) ∙ ready.own;
      reached = unit_reached (bare table) (bare new) seat told answer r bares l y;
      falls = unit_falls (bare table) (bare new) seat told answer r bares l y;
    }

-- a call begins in the seat's place
pub record Began (table : TableView) (seat : ℕ) (call : Call) (v w : SeatView) : Type 0 where
  pub is : record { layout = table.layout; words = table.words; seats = slice_set table.seats seat w } ≡ after_start table seat call
  pub reached : IsReached (bare (record { layout = table.layout; words = table.words; seats = slice_set table.seats seat w }))

pub began_from : (table now : TableView) (seat : ℕ) (call : Call) (v w : SeatView) → table ≡ now → IsReached (bare table) → seat < now.layout.config.seats → busy_in (seat_at now seat).phase ≡ false → may_begin now.layout.config call ≡ true → stays call ≡ true → v ≡ get_or table.seats seat v
    → w ≡ begun_seat v call → Began table seat call v w
began_from table now seat call v w n r h b may stay e view =
    let l : seat < table.layout.config.seats = subst (λ (t : TableView). seat < t.layout.config.seats) (sym n) h in
    let y : busy_in (seat_at table seat).phase ≡ false = subst (λ (t : TableView). busy_in (seat_at t seat).phase ≡ false) (sym n) b in
    let is : record { layout = table.layout; words = table.words; seats = slice_set table.seats seat w } ≡ after_start table seat call =
    ap (λ (x : SeatView). with_seat table table.words seat x) (view ∙ ap (λ (x : SeatView). begun_seat x call) (seat_is table seat v r l e)) in
    record { is = is; reached = subst (λ (t : TableView). IsReached (bare t)) (sym is) (start_reached (bare table) seat call r l y (subst (λ (t : TableView). may_begin t.layout.config call ≡ true) (sym n) may) stay) }

-- the layout of the seat in a place
pub layout_from : (table now : TableView) (seat : ℕ) (v : SeatView) → table ≡ now → IsReached (bare table) → seat < now.layout.config.seats → v ≡ get_or table.seats seat v → v.post.layout ≡ table.layout
layout_from table now seat v n r h e =
    let l : seat < table.layout.config.seats = subst (λ (t : TableView). seat < t.layout.config.seats) (sym n) h in
    ap (λ (x : SeatView). x.post.layout) (seat_is table seat v r l e) ∙ layout_at (bare table) seat r l

-- all the words and all the seats are the table at its start
pub table_first : (layout : Layout) (list : List ℕ) (views : List SeatView) → HoldsStart layout list → views ≡ map (fresh_seat layout) (range_with_len 0 layout.config.seats) → record { layout = layout; words = list; seats = views } ≡ first_table layout
table_first layout list views h e = ap₂ (λ (l : List ℕ) (vs : List SeatView). let t : TableView = record { layout = layout; words = l; seats = vs } in t) (words_first layout list h) e

pub table_reached : (layout : Layout) (list : List ℕ) (views : List SeatView) → is_valid layout ≡ true → HoldsStart layout list → views ≡ map (fresh_seat layout) (range_with_len 0 layout.config.seats) → IsReached (bare (record { layout = layout; words = list; seats = views }))
table_reached layout list views d h e =
    subst (λ (t : TableView). IsReached (bare t)) (sym (table_first layout list views h e)) (subst IsReached (sym (first_bare layout)) (first_reached layout list d h))

-- a call that begins is under way
pub begun_busy : (v : SeatView) (call : Call) → busy_in (first_phase call (begun_post v.post)) ≡ true
begun_busy v call = first_busy call (begun_post v.post)

-- a seat whose phase, post and desk are those of a call that begins
pub seat_begun : (v w : SeatView) (call : Call) → w.phase ≡ first_phase call (begun_post v.post) → w.post ≡ begun_post v.post → w.desk ≡ record v.desk { notes = no_notes } → w ≡ begun_seat v call
seat_begun v w call p q r =
    ap (λ (phase : Phase). let s : SeatView = record { phase = phase; post = w.post; desk = w.desk } in s) p
    ∙ ap₂ (λ (post : Post) (desk : Desk). let s : SeatView = record { phase = first_phase call (begun_post v.post); post = post; desk = desk } in s) q r
