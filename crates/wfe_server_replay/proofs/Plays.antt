-- A table that plays lines goes with a history, item by item: the same World, the same counts, and the same pieces.
use Rattle.std.proofs.Common.{Bool, List, [], ap, ap₂, arith, false, length, refl, subst, suc, sym, true, zero, ℕ, ◌++◌, ◌<◌, ◌≤◌, ◌∙◌, ◌≡◌, ◌∷◌}
use Rattle.std.proofs.lemmas.Bool.Decides.{nat_tests}
use Rattle.std.proofs.lemmas.List.{get_or_past, length-set}
use Rattle.std.proofs.lemmas.List.FromFn.{get_or-map-range_with_len, length-map-range_with_len}
use Rattle.std.specs.List.{range_with_len}
use Rattle.std.specs.Prelude.{None, if◌then◌else◌, is_none, map, nat_lt, not, ◌==◌}
use Rattle.wfe_trace.specs.words.Config.{bad_field}
use Rattle.wfe_trace.specs.words.Place.{Place, is_valid, start_at, words}
use Rattle.wfe_trace.specs.words.Place.Place.{PlaceOf}
use Rattle.wfe_trace.specs.words.declared.config.Config.{Config}
use Rattle.wfe_trace.specs.words.declared.layout.Layout.{Layout}
use Rattle.wfe_outside.specs.defs.declared.call.Call.{Call}
use Rattle.wfe_outside.specs.defs.declared.event.Event.{Event}
use Rattle.wfe_core.specs.Locals.{may_begin, told_by}
use Rattle.wfe_core.specs.World.{World, is_busy, is_here, told_in}
use Rattle.wfe_drive.specs.drive_cells.Bridge.{AsksWithin}
use Rattle.wfe_drive.specs.drive_cells.Memory.{HoldsStart}
use Rattle.wfe_drive.specs.drive_cells.Unit.{IsStep, Shows, after_start, after_unit, answer_in, begun_seat, fresh_seat, is_gone, seat_at, unit_turn}
use Rattle.wfe_drive.proofs.drive_cells.Units.{after-length, busy-shown, first-start, start-begin, unit-step}
use Rattle.wfe_drive.specs.Reached.{first_table}
use Rattle.wfe_drive.specs.history.History.{Begins, Item, Made, Steps, did, done, first_made, fits, made_from, times}
use Rattle.wfe_drive.specs.inv.Inv.{Inv}
use Rattle.wfe_drive.proofs.inv.Inv.Kept.{inv_ready}
use Rattle.wfe_drive.proofs.Lists.{lists_stay}
use Rattle.wfe_outside.specs.declared.watcher.WatchRow.{WatchRow}
use Rattle.wfe_server_out.specs.Pieces.{Piece, told_pieces}
use Rattle.wfe_watch.specs.Garbage.{garbage_rows}
use Rattle.wfe_watch.specs.Lists.{waiting_in}
use Rattle.wfe_server_replay.specs.Counts.{counted_all, listed_all}
use Rattle.wfe_server_replay.specs.Given.{all_run, fit_pieces, made_pieces, past_entries}
use Rattle.wfe_server_replay.specs.Playing.{Played, call_most, is_playing, opened, seats_out, seats_run, started, unit_made, unit_out, units_made, units_out}
use Rattle.wfe_server_replay.proofs.Entries.{counted_told, lists_begun, listed_told, rows_begun}
use Rattle.wfe_server_replay.proofs.Items.{begin_fits, did_fit, made_pieces-append, pieces_fit, pieces_idle, step_fits, times_idle}
use Rattle.wfe_drive.proofs.history.Along.{items_keep}
use Rattle.wfe_drive.proofs.inv.Finish.{Goes, steady, made_along, in_table, first_goes}

-- the table shows the World that the items come to, and the counts are those of its record
pub record Plays (layout : Layout) (made : Made) (s : Played) : Type 0 where
  pub goes : Goes layout made.world
  pub shows : Shows s.table made.world
  pub seats : length s.table.seats ≡ layout.config.seats
  pub garbage : s.garbage ≡ garbage_rows layout.config.seats (past_entries made.past)
  pub waiting : s.waiting ≡ waiting_in layout.config.seats (past_entries made.past)

-- more items, and what they put out
pub record Agrees (layout : Layout) (made : Made) (items : List Item) (s : Played) (out : List Piece) : Type 0 where
  pub plays : Plays layout (made_from made items) s
  pub out_is : out ≡ made_pieces made items

pub playing_busy : (layout : Layout) (made : Made) (s : Played) (seat : ℕ) → Plays layout made s → is_playing seat s ≡ is_busy made.world seat
playing_busy layout made s seat p = busy-shown s.table made.world seat p.shows

-- a seat is gone where its place word in the World says so
pub gone_left : (layout : Layout) (made : Made) (s : Played) (seat : ℕ) → Plays layout made s → is_gone s.table seat ≡ not (is_here made.world seat)
gone_left layout made s seat p = ap (λ (mem : Place → ℕ). not (mem (PlaceOf seat) == 0)) (sym p.shows.mem)

-- a seat's operation is on a word of the table
asks_within : (layout : Layout) (w : World) (seat : ℕ) → Goes layout w → seat < layout.config.seats → AsksWithin w seat
asks_within layout w seat g h =
    let a : Inv w = g.known in
    let k = a.known in
    let f = k.seats.fits seat in
    let m = inv_ready w seat (in_table layout seat w h g) a in
    record { layout = f.post.layout; there = m.there }

-- one unit is a step
unit_is_step : (layout : Layout) (made : Made) (s : Played) (seat : ℕ) → Plays layout made s → seat < layout.config.seats → is_busy made.world seat ≡ true → IsStep (after_unit s.table seat) made.world seat (told_by (unit_turn s.table seat)) (answer_in (unit_turn s.table seat).outcome)
unit_is_step layout made s seat p h b =
    let table : s.table.layout ≡ layout = sym p.shows.layout ∙ p.goes.table in
    let length_is : length s.table.seats ≡ s.table.layout.config.seats = p.seats ∙ ap (λ (l : Layout). l.config.seats) (sym table) in
    let here : seat < s.table.layout.config.seats = subst (λ (l : Layout). seat < l.config.seats) (sym table) h in
    unit-step s.table (after_unit s.table seat) made.world seat (told_by (unit_turn s.table seat)) (answer_in (unit_turn s.table seat).outcome) (record { table_is = refl; told_is = refl; answer_is = refl }) p.shows length_is here
    (asks_within layout made.world seat p.goes h) (lists_stay made.world seat b p.goes.known)

step_done : (made : Made) (seat : ℕ) → seat < made.world.layout.config.seats → is_busy made.world seat ≡ true → did made (Steps seat) ≡ done made (Steps seat)
step_done made seat h b = did_fit made (Steps seat) true (step_fits made.world seat h b)

unit_plays : (layout : Layout) (made : Made) (s : Played) (seat : ℕ) → Plays layout made s → seat < layout.config.seats → is_busy made.world seat ≡ true → Plays layout (did made (Steps seat)) (unit_made s seat)
unit_plays layout made s seat p h b =
    let n : IsStep (after_unit s.table seat) made.world seat (told_by (unit_turn s.table seat)) (answer_in (unit_turn s.table seat).outcome) = unit_is_step layout made s seat p h b in
    let is : did made (Steps seat) ≡ done made (Steps seat) = step_done made seat (in_table layout seat made.world h p.goes) b in
    record {
      goes = items_keep (λ made. Goes layout made.world) (steady layout) (Steps seat ∷ []) made p.goes;
      shows = subst (λ (m : Made). Shows (after_unit s.table seat) m.world) (sym is) n.shows;
      seats = after-length s.table seat ∙ p.seats;
      garbage = ap₂ (λ (rows : List WatchRow) (told : List Event). counted_all rows seat told) p.garbage n.told_is
          ∙ counted_told (told_in made.world seat) layout.config.seats seat made.past h
          ∙ ap (λ (m : Made). garbage_rows layout.config.seats (past_entries m.past)) (sym is);
      waiting = ap₂ (λ (rows : List ℕ) (told : List Event). listed_all rows seat told) p.waiting n.told_is
          ∙ listed_told (told_in made.world seat) layout.config.seats seat made.past
          ∙ ap (λ (m : Made). waiting_in layout.config.seats (past_entries m.past)) (sym is);
    }

unit_pieces : (layout : Layout) (made : Made) (s : Played) (seat : ℕ) → Plays layout made s → seat < layout.config.seats → is_busy made.world seat ≡ true → unit_out s seat ≡ fit_pieces made.world (Steps seat) (fits made.world (Steps seat))
unit_pieces layout made s seat p h b =
    let n : IsStep (after_unit s.table seat) made.world seat (told_by (unit_turn s.table seat)) (answer_in (unit_turn s.table seat).outcome) = unit_is_step layout made s seat p h b in
    ap (told_pieces seat) n.told_is ∙ sym (pieces_fit made (Steps seat) true (step_fits made.world seat (in_table layout seat made.world h p.goes) b))

-- so many units of a seat
units_by : (n seat : ℕ) (layout : Layout) (made : Made) (s : Played) (busy : Bool) → is_busy made.world seat ≡ busy → seat < layout.config.seats → Plays layout made s
    → (Plays layout (did made (Steps seat)) (unit_made s seat) → Agrees layout (did made (Steps seat)) (times n seat) (units_made n seat (unit_made s seat)) (units_out n seat (unit_made s seat)))
    → Agrees layout made (times (suc n) seat) (if busy then units_made n seat (unit_made s seat) else s) (if busy then unit_out s seat ++ units_out n seat (unit_made s seat) else [])
units_by n seat layout made s true b h p next =
    let a : Agrees layout (did made (Steps seat)) (times n seat) (units_made n seat (unit_made s seat)) (units_out n seat (unit_made s seat)) = next (unit_plays layout made s seat p h b) in
    record { plays = a.plays; out_is = ap₂ (λ (xs ys : List Piece). xs ++ ys) (unit_pieces layout made s seat p h b) a.out_is }
units_by n seat layout made s false b h p next = record {
  plays = subst (λ (m : Made). Plays layout m s) (sym (times_idle (suc n) seat made b)) p;
  out_is = sym (pieces_idle (suc n) seat made b);
}

pub units_play : (n seat : ℕ) (layout : Layout) (made : Made) (s : Played) → seat < layout.config.seats → Plays layout made s → Agrees layout made (times n seat) (units_made n seat s) (units_out n seat s)
units_play zero seat layout made s h p = record { plays = p; out_is = refl }
units_play (suc n) seat layout made s h p =
    units_by n seat layout made s (is_playing seat s) (sym (playing_busy layout made s seat p)) h p (λ q. units_play n seat layout (did made (Steps seat)) (unit_made s seat) h q)

-- items after items
pub agrees_along : (layout : Layout) (made : Made) (xs ys : List Item) (mid s : Played) (first second : List Piece) → Agrees layout made xs mid first → Agrees layout (made_from made xs) ys s second → Agrees layout made (xs ++ ys) s (first ++ second)
agrees_along layout made xs ys mid s first second a b = record {
  plays = subst (λ (m : Made). Plays layout m s) (sym (made_along xs ys made)) b.plays;
  out_is = ap₂ (λ (ps qs : List Piece). ps ++ qs) a.out_is b.out_is ∙ sym (made_pieces-append xs ys made);
}

-- one seat after another
pub seats_play : (n : ℕ) (layout : Layout) (made : Made) (s : Played) → n ≤ layout.config.seats → Plays layout made s → Agrees layout made (all_run n) (seats_run n s) (seats_out n s)
seats_play zero layout made s h p = record { plays = p; out_is = refl }
seats_play (suc n) layout made s h p =
    let a : Agrees layout made (all_run n) (seats_run n s) (seats_out n s) = seats_play n layout made s (omega arith) p in
    let here : n < layout.config.seats = omega arith in
    agrees_along layout made (all_run n) (times call_most n) (seats_run n s) (seats_run (suc n) s) (seats_out n s) (units_out call_most n (seats_run n s)) a
    (units_play call_most n layout (made_from made (all_run n)) (seats_run n s) here a.plays)

-- a call may begin
pub record MayFit (made : Made) (seat : ℕ) (call : Call) : Type 0 where
  pub free : is_busy made.world seat ≡ false
  pub here : is_here made.world seat ≡ true
  pub may : may_begin made.world.layout.config call ≡ true

pub begin_fit : (layout : Layout) (made : Made) (seat : ℕ) (call : Call) → Goes layout made.world → seat < layout.config.seats → MayFit made seat call → fits made.world (Begins seat call) ≡ true
begin_fit layout made seat call g h m = begin_fits made.world seat call (in_table layout seat made.world h g) m.free m.here m.may

pub begin_plays : (layout : Layout) (made : Made) (s : Played) (seat : ℕ) (call : Call) → Plays layout made s → seat < layout.config.seats → MayFit made seat call → Plays layout (did made (Begins seat call)) (started s seat call)
begin_plays layout made s seat call p h m =
    let here : seat < length s.table.seats = subst (λ (n : ℕ). seat < n) (sym p.seats) h in
    let is : did made (Begins seat call) ≡ done made (Begins seat call) = did_fit made (Begins seat call) true (begin_fit layout made seat call p.goes h m) in
    record {
      goes = items_keep (λ made. Goes layout made.world) (steady layout) (Begins seat call ∷ []) made p.goes;
      shows = subst (λ (m : Made). Shows (after_start s.table seat call) m.world) (sym is) (start-begin s.table made.world seat call p.shows here);
      seats = length-set s.table.seats seat (begun_seat (seat_at s.table seat) call) ∙ p.seats;
      garbage = p.garbage ∙ sym (rows_begun layout.config.seats seat call made.past h) ∙ ap (λ (m : Made). garbage_rows layout.config.seats (past_entries m.past)) (sym is);
      waiting = p.waiting ∙ sym (lists_begun layout.config.seats seat call made.past) ∙ ap (λ (m : Made). waiting_in layout.config.seats (past_entries m.past)) (sym is);
    }

-- before the first item
pub start_held : (layout : Layout) → HoldsStart layout (map (start_at layout) (range_with_len 0 (words layout)))
start_held layout = record {
  count = length-map-range_with_len (start_at layout) 0 (words layout);
  starts = λ word l. get_or-map-range_with_len (start_at layout) 0 (words layout) word word 0 l (omega arith);
}

seats_fresh : (layout : Layout) (i : ℕ) (in_table : Bool) → nat_lt i layout.config.seats ≡ in_table → seat_at (first_table layout) i ≡ fresh_seat layout i
seats_fresh layout i true e = get_or-map-range_with_len (fresh_seat layout) 0 layout.config.seats i i (fresh_seat layout i) (grind (arith, nat_tests)) (omega arith)
seats_fresh layout i false e =
    get_or_past (map (fresh_seat layout) (range_with_len 0 layout.config.seats)) i (fresh_seat layout i)
    (let n : length (map (fresh_seat layout) (range_with_len 0 layout.config.seats)) ≡ layout.config.seats = length-map-range_with_len (fresh_seat layout) 0 layout.config.seats in grind (arith, nat_tests))

pub valid_of : (layout : Layout) → bad_field layout.config ≡ None → is_valid layout ≡ true
unfolding is_valid
valid_of layout h = ap is_none h

pub opened_plays : (config : Config) → bad_field config ≡ None → Plays (record { config = config }) (first_made (record { config = config })) (opened config)
opened_plays config h =
    let layout : Layout = record { config = config } in
    record {
      goes = first_goes layout (valid_of layout h);
      shows = first-start (first_table layout) (start_held layout) (λ i. seats_fresh layout i (nat_lt i layout.config.seats) refl);
      seats = length-map-range_with_len (fresh_seat layout) 0 layout.config.seats;
      garbage = refl;
      waiting = refl;
    }
