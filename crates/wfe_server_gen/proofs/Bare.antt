-- A table where no garbage is counted does what one does where it is.
use Rattle.std.proofs.Common.{Bool, List, [], ap, ap₂, false, if◌then◌else◌, refl, suc, sym, true, zero, ℕ, ◌++◌, ◌∙◌, ◌≡◌, ◌∷◌}
use Rattle.wfe_outside.specs.defs.declared.command.Command.{Command}
use Rattle.wfe_outside.specs.defs.declared.command.Command.TheVariants as commands
use Rattle.wfe_outside.specs.defs.declared.event.Event.{Event}
use Rattle.wfe_outside.specs.defs.declared.event.Event.TheVariants as events
use Rattle.wfe_watch.specs.Lists.{lists_after}
use Rattle.wfe_server_replay.specs.drive_cells.Unit.{TableView, after_unit, unit_turn}
use Rattle.wfe_core.specs.Locals.{told_by}
use Rattle.wfe_outside.specs.declared.watcher.WatchRow.{WatchRow}
use Rattle.wfe_server_out.specs.Pieces.{Piece, heard_of}
use Rattle.wfe_server_replay.specs.Counts.{counted_all, listed_all}
use Rattle.wfe_server_replay.specs.Playing.{Played, call_most, is_playing, played, played_out, seats_out, seats_run, unit_made, unit_out, units_made, units_out}
use Rattle.wfe_server_replay.proofs.Entries.{heard_of-table_pieces}
use Rattle.wfe_server_gen.specs.declared.summary.Summary.{Summary}
use Rattle.wfe_server_gen.specs.Tally.{Tally, bare}

-- the same table, without the counts
abbrev pub stripped : Played → Played
stripped s = bare s.table

none_counted : (seat : ℕ) (told : List Event) → counted_all [] seat told ≡ []
none_counted seat [] = refl
none_counted seat (event ∷ told) = none_counted seat told

no_list : (seat : ℕ) (event : Event) → lists_after [] seat event ≡ []
no_list seat (events.Retire slot birth retire) = refl
no_list seat (events.Back slot) = refl
no_list seat (events.Adopted place count) = refl
no_list seat event = refl

none_listed : (seat : ℕ) (told : List Event) → listed_all [] seat told ≡ []
none_listed seat [] = refl
none_listed seat (event ∷ told) = ap (λ (waiting : List ℕ). listed_all waiting seat told) (no_list seat event) ∙ none_listed seat told

pub strip_unit : (seat : ℕ) (s : Played) → unit_made (stripped s) seat ≡ stripped (unit_made s seat)
strip_unit seat s =
    ap₂ (λ (rows : List WatchRow) (waiting : List ℕ). let p : Played = record { table = after_unit s.table seat; garbage = rows; waiting = waiting } in p) (none_counted seat (told_by (unit_turn s.table seat)))
    (none_listed seat (told_by (unit_turn s.table seat)))

if_along : {X Y : Type 0} (f : X → Y) (b : Bool) (x y : X) → f (if b then x else y) ≡ (if b then f x else f y)
if_along f true x y = refl
if_along f false x y = refl

pub strip_units : (n seat : ℕ) (s : Played) → units_made n seat (stripped s) ≡ stripped (units_made n seat s)
strip_units zero seat s = refl
strip_units (suc n) seat s =
    ap (λ (t : Played). if is_playing seat s then t else stripped s) (ap (units_made n seat) (strip_unit seat s) ∙ strip_units n seat (unit_made s seat))
    ∙ sym (if_along stripped (is_playing seat s) (units_made n seat (unit_made s seat)) s)

pub strip_units_out : (n seat : ℕ) (s : Played) → units_out n seat (stripped s) ≡ units_out n seat s
strip_units_out zero seat s = refl
strip_units_out (suc n) seat s =
    ap (λ (out : List Piece). if is_playing seat s then unit_out s seat ++ out else []) (ap (units_out n seat) (strip_unit seat s) ∙ strip_units_out n seat (unit_made s seat))

pub strip_seats : (n : ℕ) (s : Played) → seats_run n (stripped s) ≡ stripped (seats_run n s)
strip_seats zero s = refl
strip_seats (suc n) s = ap (units_made call_most n) (strip_seats n s) ∙ strip_units call_most n (seats_run n s)

pub strip_seats_out : (n : ℕ) (s : Played) → seats_out n (stripped s) ≡ seats_out n s
strip_seats_out zero s = refl
strip_seats_out (suc n) s = ap₂ (λ (ps qs : List Piece). ps ++ qs) (strip_seats_out n s) (ap (units_out call_most n) (strip_seats n s) ∙ strip_units_out call_most n (seats_run n s))

-- what a line makes of it
pub strip_played : (line : Command) (s : Played) → played line (stripped s) ≡ stripped (played line s)
strip_played (commands.Call seat call) s = refl
strip_played (commands.Step seat units) s = strip_units units seat s
strip_played (commands.Run seat) s = strip_units call_most seat s
strip_played commands.Table s = refl
strip_played commands.End s = strip_seats s.table.layout.config.seats s

-- and what watchers hear of it
pub strip_heard : (line : Command) (s : Played) → heard_of (played_out line (stripped s)) ≡ heard_of (played_out line s)
strip_heard (commands.Call seat call) s = refl
strip_heard (commands.Step seat units) s = ap heard_of (strip_units_out units seat s)
strip_heard (commands.Run seat) s = ap heard_of (strip_units_out call_most seat s)
strip_heard commands.Table s = heard_of-table_pieces [] [] ∙ sym (heard_of-table_pieces s.garbage s.waiting)
strip_heard commands.End s = ap heard_of (strip_seats_out s.table.layout.config.seats s)

-- a unit of a table that is seen without the counts
pub unit_after : (seat : ℕ) (t u : TableView) (s : Tally) (x : Summary) → u ≡ after_unit t seat → record { played = bare t; summary = x } ≡ s → bare u ≡ unit_made s.played seat
unit_after seat t u s x e v = ap bare e ∙ sym (strip_unit seat (bare t)) ∙ ap (λ (y : Tally). unit_made y.played seat) v
