-- The table of a generated trace: its seats stay.
use Rattle.std.proofs.Common.{Bool, ap, ◌∙◌, false, if◌then◌else◌, refl, subst, suc, sym, true, zero, ℕ, ◌<◌, ◌≡◌}
use Rattle.std.specs.Prelude.{None, not, ◌==◌}
use Rattle.wfe_core.specs.Locals.{busy_in, may_begin, stays, told_by}
use Rattle.wfe_outside.specs.defs.declared.call.Call.{Call}
use Rattle.wfe_server_replay.specs.drive.Reached.{IsReached, first_table}
use Rattle.wfe_server_replay.specs.drive_cells.Unit.{TableView, after_start, after_unit, answer_in, is_gone, seat_at, unit_turn}
use Rattle.wfe_server_replay.proofs.drive.Reached.{first_reached, start_reached, unit_reached}
use Rattle.wfe_server_replay.specs.Playing.{Played, is_playing, started, unit_made, units_made}
use Rattle.wfe_server_replay.proofs.Plays.{start_held, valid_of}
use Rattle.wfe_server_gen.specs.Turns.{setting}
use Rattle.wfe_trace.specs.words.Config.{bad_field}
use Rattle.wfe_trace.specs.words.declared.config.Config.{Config}
use Rattle.wfe_trace.specs.words.Place.{Place}
use Rattle.wfe_trace.specs.words.Place.Place.{PlaceOf}

-- a table at its start, after a unit, after some, and after a call of a seat that stays began
pub opened_reached : (config : Config) → bad_field config ≡ None → IsReached (first_table (record { config = config }))
opened_reached config h = first_reached (record { config = config }) _ (valid_of (record { config = config }) h) (start_held (record { config = config }))

pub made_reached : (seat : ℕ) (s : Played) → IsReached s.table → seat < s.table.layout.config.seats → is_playing seat s ≡ true → IsReached (unit_made s seat).table
made_reached seat s r h b =
    unit_reached s.table (after_unit s.table seat) seat (told_by (unit_turn s.table seat)) (answer_in (unit_turn s.table seat).outcome) r (record { table_is = refl; told_is = refl; answer_is = refl }) h b

pub units_reached : (n seat : ℕ) (s : Played) → IsReached s.table → seat < s.table.layout.config.seats → IsReached (units_made n seat s).table
units_reached zero seat s r h = r
units_reached (suc n) seat s r h = by (is_playing seat s) refl (λ q. units_reached n seat (unit_made s seat) q h)
  where
    by : (b : Bool) → is_playing seat s ≡ b → (IsReached (unit_made s seat).table → IsReached (units_made n seat (unit_made s seat)).table) → IsReached (if b then units_made n seat (unit_made s seat) else s).table
    by true e next = next (made_reached seat s r h e)
    by false e next = r

pub started_reached : (seat : ℕ) (call : Call) (s : Played) → IsReached s.table → seat < s.table.layout.config.seats → is_playing seat s ≡ false → may_begin s.table.layout.config call ≡ true → stays call ≡ true → IsReached (started s seat call).table
started_reached seat call s r h b may stay = start_reached s.table seat call r h b may stay

-- no seat of it has left
pub reached_here : (table : TableView) (seat : ℕ) → IsReached table → seat < table.layout.config.seats → is_gone table seat ≡ false
reached_here table seat r h = ap (λ (word : ℕ). not (word == 0)) (ap (λ (mem : Place → ℕ). mem (PlaceOf seat)) (sym r.shows.mem) ∙ (r.right seat).here)

-- the same of a table that is one of these
pub reached_first : (table : TableView) → table ≡ first_table (record { config = setting }) → IsReached table
reached_first table e = subst IsReached (sym e) (opened_reached setting refl)

pub reached_start : (old new : TableView) (seat : ℕ) (call : Call) → IsReached old → seat < old.layout.config.seats → busy_in (seat_at old seat).phase ≡ false → may_begin old.layout.config call ≡ true → stays call ≡ true → new ≡ after_start old seat call → IsReached new
reached_start old new seat call r h b may stay e = subst IsReached (sym e) (start_reached old seat call r h b may stay)
