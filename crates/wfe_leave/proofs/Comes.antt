-- A table that a history comes to: a unit of a busy seat and the start of a call go on with the history, units fall, and a seat
-- is gone once it has made the step by which it leaves.
use Rattle.std.proofs.Common.{Bool, List, [], ap, arith, false, length, refl, subst, sym, true, ℕ, ◌++◌, ◌+◌, ◌-◌, ◌<◌, ◌≤◌, ◌^◌, ◌∙◌, ◌≡◌, ◌∷◌}
use Rattle.std.proofs.lemmas.List.{length-set}
use Rattle.std.specs.Prelude.{Option, not, ◌&&◌, ◌==◌, ◌||◌}
use Rattle.wfe_core.specs.words.Place.{Place, is_valid}
use Rattle.wfe_core.specs.words.Place.Place.{PlaceOf}
use Rattle.wfe_core.specs.words.declared.layout.Layout.{Layout}
use Rattle.wfe_core.specs.defs.declared.call.Answer.{Answer}
use Rattle.wfe_core.specs.defs.declared.call.Call.{Call}
use Rattle.wfe_core.specs.defs.declared.event.Event.{Event}
use Rattle.wfe_core.specs.defs.declared.lifetime.Lifetime.{Lifetime}
use Rattle.wfe_core.specs.Calls.{Keeping, MarkTaken, TakeList, Works}
use Rattle.wfe_core.specs.Locals.{busy_in, may_begin}
use Rattle.wfe_core.specs.MayStep.{MayStep}
use Rattle.wfe_core.specs.Rest.{rest}
use Rattle.wfe_core.specs.World.{World, begin, is_busy, is_here, may_start, step}
use Rattle.wfe_core.proofs.Ranges.{bounds_of}
use Rattle.wfe_core.proofs.Facts.{both, fits_busy, fits_free}
use Rattle.wfe_drive_cells.specs.Bridge.{AsksWithin}
use Rattle.wfe_drive_cells.specs.Unit.{IsStep, IsUnit, ListsStay, SeatView, Shows, TableView, after_start, begun_seat, is_gone, seat_at}
use Rattle.wfe_drive_cells.proofs.Units.{after-length, busy-shown, start-begin, unit-step}
use Rattle.wfe_drive.specs.Heard.{IsCounted}
use Rattle.wfe_drive.specs.history.History.{Begins, Item, Made, Steps, did, done, done_if, first_made, fits, made_of, world_of}
use Rattle.wfe_drive.specs.inv.Inv.{Inv}
use Rattle.wfe_drive.specs.inv.Places.{PlaceMoves, PlaceShows, is_leaving}
use Rattle.wfe_drive.specs.inv.rows.Facts.{SeatShows}
use Rattle.wfe_drive.proofs.Turns.Counted.{histories_count}
use Rattle.wfe_drive.proofs.history.Along.{made_snoc}
use Rattle.wfe_drive.proofs.inv.Inv.Kept.{inv_ready}
use Rattle.wfe_drive.proofs.inv.Inv.Places.{inv_place_moves, inv_places}
use Rattle.wfe_drive.proofs.inv.Inv.Reached.{inv_reached}
use Rattle.wfe_drive.specs.Reached.{units_left}
use Rattle.wfe_drive.proofs.Lists.{lists_stay}
use Rattle.wfe_leave.specs.Comes.{Comes}

-- an item that fits is done
fit_done : (made : Made) (item : Item) → fits made.world item ≡ true → did made item ≡ done made item
fit_done made item f = ap (done_if made item) f

-- what is known of the World that the table shows
record At (table : TableView) (seat : ℕ) (items : List Item) : Type 0 where
  known : Inv (world_of table.layout items)
  counted : IsCounted table.layout items
  below : seat < (world_of table.layout items).layout.config.seats
  asks : AsksWithin (world_of table.layout items) seat
  shows : PlaceShows (world_of table.layout items) seat
  lists : is_busy (world_of table.layout items) seat ≡ true → ListsStay (world_of table.layout items) seat
  moves : (k : ℕ) → is_busy (world_of table.layout items) seat ≡ true → PlaceMoves (world_of table.layout items) seat k
  here : seat < length table.seats

at_seat : (table : TableView) (seat : ℕ) (r : Comes table) → seat < table.layout.config.seats → At table seat r.items
at_seat table seat r h =
    let w : World = world_of table.layout r.items in
    let s : Shows table w = r.shows in
    let a : Inv w = inv_reached table.layout r.items r.valid in
    let l : seat < w.layout.config.seats = subst (λ (layout : Layout). seat < layout.config.seats) (sym s.layout) h in
    let m : MayStep w seat = inv_ready w seat l a in
    let k = a.known in
    let f = k.seats.fits seat in
    record {
      known = a;
      counted = histories_count table.layout r.items r.valid;
      below = l;
      asks = record { layout = f.post.layout; there = m.there };
      shows = inv_places w seat a;
      lists = λ b. lists_stay w seat b a;
      moves = λ k b. inv_place_moves w seat k b a;
      here = subst (λ (n : ℕ). seat < n) (sym r.seats) h;
    }

busy_at : (table : TableView) (seat : ℕ) (r : Comes table) → busy_in (seat_at table seat).phase ≡ true → is_busy (world_of table.layout r.items) seat ≡ true
busy_at table seat r b = sym (busy-shown table (world_of table.layout r.items) seat r.shows) ∙ b

-- a unit is a step more
unit_step : (old new : TableView) (seat : ℕ) (told : List Event) (answer : Option Answer) (r : Comes old) → IsUnit old new seat told answer → seat < old.layout.config.seats → busy_in (seat_at old seat).phase ≡ true → IsStep new (world_of old.layout r.items) seat told answer
unit_step old new seat told answer r u h b =
    let k : At old seat r.items = at_seat old seat r h in
    unit-step old new (world_of old.layout r.items) seat told answer u r.shows r.seats h k.asks (k.lists (busy_at old seat r b))

pub unit_comes : (old new : TableView) (seat : ℕ) (told : List Event) (answer : Option Answer) → Comes old → IsUnit old new seat told answer → seat < old.layout.config.seats → busy_in (seat_at old seat).phase ≡ true → Comes new
unit_comes old new seat told answer r u h b =
    let w : World = world_of old.layout r.items in
    let s : Shows old w = r.shows in
    let k : At old seat r.items = at_seat old seat r h in
    let n : IsStep new w seat told answer = unit_step old new seat told answer r u h b in
    let layout : new.layout ≡ old.layout = ap (λ (t : TableView). t.layout) u.table_is in
    let f : fits w (Steps seat) ≡ true = fits_busy seat w.layout.config.seats (is_busy w seat) k.below (busy_at old seat r b) in
    let e : world_of old.layout (r.items ++ Steps seat ∷ []) ≡ step w seat = ap (λ (m : Made). m.world) (made_snoc (first_made old.layout) r.items (Steps seat) ∙ fit_done (made_of old.layout r.items) (Steps seat) f) in
    record {
      valid = subst (λ (l : Layout). is_valid l ≡ true) (sym layout) r.valid;
      seats = ap (λ (t : TableView). length t.seats) u.table_is ∙ after-length old seat ∙ r.seats ∙ ap (λ (l : Layout). l.config.seats) (sym layout);
      items = r.items ++ Steps seat ∷ [];
      shows = subst (λ (l : Layout). Shows new (world_of l (r.items ++ Steps seat ∷ []))) (sym layout) (subst (Shows new) (sym e) n.shows);
    }

pub unit_falls : (old new : TableView) (seat : ℕ) (told : List Event) (answer : Option Answer) → Comes old → IsUnit old new seat told answer → seat < old.layout.config.seats → busy_in (seat_at old seat).phase ≡ true → units_left new seat < units_left old seat
unit_falls old new seat told answer r u h b =
    let w : World = world_of old.layout r.items in
    let s : Shows old w = r.shows in
    let k : At old seat r.items = at_seat old seat r h in
    let c : IsCounted old.layout r.items = k.counted in
    let n : IsStep new w seat told answer = unit_step old new seat told answer r u h b in
    let m : Shows new (step w seat) = n.shows in
    let busy : is_busy w seat ≡ true = busy_at old seat r b in
    let before : (w.seat seat).post.steps ≡ (seat_at old seat).post.steps = ap (λ (v : SeatView). v.post.steps) (s.seats seat) in
    let after : ((step w seat).seat seat).post.steps ≡ (seat_at new seat).post.steps = ap (λ (v : SeatView). v.post.steps) (m.seats seat) in
    fewer (w.seat seat).post.steps (rest w seat) (seat_at old seat).post.steps (seat_at new seat).post.steps (c.few seat busy) before (sym after ∙ c.one_more seat busy)
  where
    fewer : (count left old new : ℕ) → count + left < 2 ^ 62 → count ≡ old → new ≡ count + 1 → 2 ^ 62 - new < 2 ^ 62 - old
    fewer count left old new h e f = omega (h, e, f, arith)

-- a seat is gone where it is not there in the World
pub gone_shown : (table : TableView) (w : World) (k : ℕ) → Shows table w → is_gone table k ≡ not (is_here w k)
gone_shown table w k s = ap (λ (mem : Place → ℕ). not (mem (PlaceOf k) == 0)) (sym s.mem)

pub gone_after : (old new : TableView) (seat : ℕ) (told : List Event) (answer : Option Answer) (k : ℕ) → Comes old → IsUnit old new seat told answer → seat < old.layout.config.seats → busy_in (seat_at old seat).phase ≡ true
    → is_gone new k ≡ (is_gone old k || (k == seat && is_leaving (seat_at old seat).phase))
gone_after old new seat told answer k r u h b =
    let w : World = world_of old.layout r.items in
    let s : Shows old w = r.shows in
    let a : At old seat r.items = at_seat old seat r h in
    let n : IsStep new w seat told answer = unit_step old new seat told answer r u h b in
    let m : PlaceMoves w seat k = a.moves k (busy_at old seat r b) in
    gone_shown new (step w seat) k n.shows ∙ ap not m.here
    ∙ turned (is_here w k) (k == seat && is_leaving (w.seat seat).phase)
    ∙ ap (λ (x : Bool). x || (k == seat && is_leaving (w.seat seat).phase)) (sym (gone_shown old w k s))
    ∙ ap (λ (v : SeatView). is_gone old k || (k == seat && is_leaving v.phase)) (s.seats seat)
  where
    turned : (x y : Bool) → not (x && not y) ≡ (not x || y)
    turned true true = refl
    turned true false = refl
    turned false y = refl

-- a start is a beginning more
pub start_comes : (table : TableView) (seat : ℕ) (call : Call) → Comes table → seat < table.layout.config.seats → busy_in (seat_at table seat).phase ≡ false → may_begin table.layout.config call ≡ true → is_gone table seat ≡ false → Comes (after_start table seat call)
start_comes table seat call r h b may there =
    let w : World = world_of table.layout r.items in
    let s : Shows table w = r.shows in
    let k : At table seat r.items = at_seat table seat r h in
    let here : is_here w seat ≡ true = stays (is_here w seat) (sym (gone_shown table w seat s) ∙ there) in
    let m : may_start w seat call ≡ true = both (is_here w seat) (may_begin w.layout.config call) here (subst (λ (layout : Layout). may_begin layout.config call ≡ true) (sym s.layout) may) in
    let f : fits w (Begins seat call) ≡ true = fits_free seat w.layout.config.seats (is_busy w seat) (may_start w seat call) k.below (sym (busy-shown table w seat s) ∙ b) m in
    let e : world_of table.layout (r.items ++ Begins seat call ∷ []) ≡ begin w seat call = ap (λ (m : Made). m.world) (made_snoc (first_made table.layout) r.items (Begins seat call) ∙ fit_done (made_of table.layout r.items) (Begins seat call) f) in
    record {
      valid = r.valid;
      seats = length-set table.seats seat (begun_seat (seat_at table seat) call) ∙ r.seats;
      items = r.items ++ Begins seat call ∷ [];
      shows = subst (Shows (after_start table seat call)) (sym e) (start-begin table w seat call s k.here);
    }
  where
    stays : (x : Bool) → not x ≡ false → x ≡ true
    stays true e = refl
    stays false e = cc

-- what a seat's code may rest on
pub record Rests (table : TableView) (seat : ℕ) : Type 0 where
  -- its post has the table's setting and its number
  pub layout : (seat_at table seat).post.layout ≡ table.layout
  pub number : (seat_at table seat).post.seat ≡ seat
  -- a list is offered to a step alone, and while a call is under way no longer than the table has rows
  pub gift : (seat_at table seat).desk.gift ≡ []
  pub short : busy_in (seat_at table seat).phase ≡ true → length (seat_at table seat).desk.list < 2 ^ 32
  -- a count of steps is not cut short
  pub steps : busy_in (seat_at table seat).phase ≡ true → (seat_at table seat).post.steps < 2 ^ 62
  -- a place that the next step is about is a seat's
  pub takes : (place : ℕ) → (seat_at table seat).phase ≡ Works (Keeping (TakeList place)) → place < table.layout.config.seats
  pub marks : (place count : ℕ) → (seat_at table seat).phase ≡ Works (Keeping (MarkTaken place count)) → place < table.layout.config.seats

pub rests_at : (table : TableView) (seat : ℕ) → Comes table → seat < table.layout.config.seats → Rests table seat
rests_at table seat r h =
    let w : World = world_of table.layout r.items in
    let s : Shows table w = r.shows in
    let k : At table seat r.items = at_seat table seat r h in
    let p : PlaceShows w seat = k.shows in
    let l : SeatShows w seat = p.lists in
    let phase : (w.seat seat).phase ≡ (seat_at table seat).phase = ap (λ (v : SeatView). v.phase) (s.seats seat) in
    let slots : w.layout.config.slots ≡ table.layout.config.slots = ap (λ (layout : Layout). layout.config.slots) s.layout in
    let most : table.layout.config.slots ≤ 65536 = (bounds_of table.layout r.valid).slots.1 in
    record {
      layout = ap (λ (v : SeatView). v.post.layout) (sym (s.seats seat)) ∙ k.asks.layout ∙ s.layout;
      number = ap (λ (v : SeatView). v.post.seat) (sym (s.seats seat)) ∙ p.number;
      gift = ap (λ (v : SeatView). v.desk.gift) (sym (s.seats seat));
      short = λ b.
          let busy : is_busy w seat ≡ true = busy_at table seat r b in
          let is : (w.seat seat).desk.list ≡ (seat_at table seat).desk.list = sym (p.own busy) ∙ ap (λ (v : SeatView). v.desk.list) (s.seats seat) in
          let most_in : length (w.seat seat).desk.list ≤ w.layout.config.slots + 1 = (l.kept busy).short in
          small (length (w.seat seat).desk.list) (length (seat_at table seat).desk.list) w.layout.config.slots table.layout.config.slots most_in (ap (λ (list : List Lifetime). length list) is) slots most;
      steps = λ b. few (w.seat seat).post.steps (rest w seat) (seat_at table seat).post.steps (k.counted.few seat (busy_at table seat r b)) (ap (λ (v : SeatView). v.post.steps) (s.seats seat));
      takes = λ place e. subst (λ (layout : Layout). place < layout.config.seats) s.layout (p.takes place (phase ∙ e));
      marks = λ place count e. subst (λ (layout : Layout). place < layout.config.seats) s.layout (p.marks place count (phase ∙ e)).0;
    }
  where
    few : (count left steps : ℕ) → count + left < 2 ^ 62 → count ≡ steps → steps < 2 ^ 62
    few count left steps h e = omega (h, e, arith)

    small : (a b c d : ℕ) → a ≤ c + 1 → a ≡ b → c ≡ d → d ≤ 65536 → b < 2 ^ 32
    small a b c d h e f g = omega (h, e, f, g, arith)
