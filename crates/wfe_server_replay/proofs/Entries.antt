-- The entries of a record are what its items told, and the rows of garbage are those of its entries.
use Rattle.std.proofs.Common.{Bool, List, [], ap, append-nil, append_assoc, false, refl, sym, true, ℕ, ◌++◌, ◌<◌, ◌∙◌, ◌≡◌, ◌∷◌, slice_set}
use Rattle.std.proofs.lemmas.List.{set-get_or}
use Rattle.wfe_outside.specs.defs.declared.call.Call.{Call}
use Rattle.wfe_outside.specs.defs.declared.event.Event.{Event}
use Rattle.wfe_outside.specs.defs.declared.event.Event.TheVariants as events
use Rattle.wfe_outside.specs.defs.Entry.{Entry, entry}
use Rattle.wfe_drive.specs.history.Record.{Past, tells_of}
use Rattle.wfe_drive.specs.history.Record.Past.{Then}
use Rattle.wfe_core.specs.World.{told_in}
use Rattle.wfe_drive.specs.history.History.{Begins, Item, Made, Steps, did, done_if, fits, made_from}
use Rattle.wfe_outside.specs.declared.watcher.WatchRow.{WatchRow}
use Rattle.wfe_server_out.specs.Pieces.{Piece, heard_of, told_pieces}
use Rattle.wfe_server_out.proofs.Texts.{heard_of-append}
use Rattle.wfe_watch.specs.Counts.{row_of}
use Rattle.wfe_watch.specs.Garbage.{garbage_rows, with_garbage}
use Rattle.wfe_watch.specs.Lists.{lists_after, lists_told, no_lists, waiting_in}
use Rattle.wfe_watch.proofs.ListsLemmas.{lists_told-append}
use Rattle.wfe_watch.proofs.GarbageLemmas.{get_or-garbage_rows, rows_told}
use Rattle.wfe_server_replay.specs.Counts.{counted_all, listed_all, seat_lines, table_pieces}
use Rattle.wfe_server_replay.specs.Given.{fit_pieces, made_pieces, past_entries}

-- the events of a step
pub entries_told : (told : List Event) (past : Past) (seat : ℕ) → past_entries (tells_of past seat told) ≡ past_entries past ++ heard_of (told_pieces seat told)
entries_told [] past seat = sym (append-nil (past_entries past))
entries_told (event ∷ told) past seat = entries_told told (Then past seat event) seat ∙ append_assoc (past_entries past) (entry seat event ∷ []) (heard_of (told_pieces seat told))

item_entries : (made : Made) (item : Item) (fit : Bool) → past_entries (done_if made item fit).past ≡ past_entries made.past ++ heard_of (fit_pieces made.world item fit)
item_entries made item false = sym (append-nil (past_entries made.past))
item_entries made (Begins seat call) true = refl
item_entries made (Steps seat) true = entries_told (told_in made.world seat) made.past seat

-- items one after another
pub made_entries : (items : List Item) (made : Made) → past_entries (made_from made items).past ≡ past_entries made.past ++ heard_of (made_pieces made items)
made_entries [] made = sym (append-nil (past_entries made.past))
made_entries (item ∷ items) made =
    let first : List Piece = fit_pieces made.world item (fits made.world item) in
    let rest : List Piece = made_pieces (did made item) items in
    made_entries items (did made item)
    ∙ ap (λ (xs : List Entry). xs ++ heard_of rest) (item_entries made item (fits made.world item))
    ∙ append_assoc (past_entries made.past) (heard_of first) (heard_of rest)
    ∙ ap (λ (xs : List Entry). past_entries made.past ++ xs) (sym (heard_of-append first rest))

-- the rows after the events of a step
pub counted_told : (told : List Event) (seats seat : ℕ) (past : Past) → seat < seats → counted_all (garbage_rows seats (past_entries past)) seat told ≡ garbage_rows seats (past_entries (tells_of past seat told))
counted_told [] seats seat past h = refl
counted_told (event ∷ told) seats seat past h =
    let rows : List WatchRow = garbage_rows seats (past_entries past) in
    ap (λ (row : WatchRow). counted_all (slice_set rows seat (with_garbage event row)) seat told) (get_or-garbage_rows seats seat (past_entries past) (row_of 0 0 0) h)
    ∙ ap (λ (rows : List WatchRow). counted_all rows seat told) (sym (rows_told seats seat event (past_entries past) h))
    ∙ counted_told told seats seat (Then past seat event) h

-- the beginning of a call counts for nothing
pub rows_begun : (seats seat : ℕ) (call : Call) (past : Past) → seat < seats → garbage_rows seats (past_entries (Then past seat (events.Begin call))) ≡ garbage_rows seats (past_entries past)
rows_begun seats seat call past h =
    let rows : List WatchRow = garbage_rows seats (past_entries past) in
    rows_told seats seat (events.Begin call) (past_entries past) h
    ∙ ap (λ (row : WatchRow). slice_set rows seat row) (sym (get_or-garbage_rows seats seat (past_entries past) (row_of 0 0 0) h))
    ∙ set-get_or rows seat (row_of 0 0 0)

-- the rows in each list after the events of a step, and after the beginning of a call
listed_by : (told : List Event) (counts : List ℕ) (seat : ℕ) → listed_all counts seat told ≡ lists_told counts (heard_of (told_pieces seat told))
listed_by [] counts seat = refl
listed_by (event ∷ told) counts seat = listed_by told (lists_after counts seat event) seat

pub listed_told : (told : List Event) (seats seat : ℕ) (past : Past) → listed_all (waiting_in seats (past_entries past)) seat told ≡ waiting_in seats (past_entries (tells_of past seat told))
listed_told told seats seat past =
    listed_by told (waiting_in seats (past_entries past)) seat
    ∙ sym (lists_told-append (past_entries past) (heard_of (told_pieces seat told)) (no_lists seats))
    ∙ ap (waiting_in seats) (sym (entries_told told past seat))

pub lists_begun : (seats seat : ℕ) (call : Call) (past : Past) → waiting_in seats (past_entries (Then past seat (events.Begin call))) ≡ waiting_in seats (past_entries past)
lists_begun seats seat call past = lists_told-append (past_entries past) (entry seat (events.Begin call) ∷ []) (no_lists seats)

-- watchers hear nothing of the lines of a table
heard_of-seat_lines : (rows : List WatchRow) (seat : ℕ) (waiting : List ℕ) → heard_of (seat_lines seat rows waiting) ≡ []
heard_of-seat_lines [] seat waiting = refl
heard_of-seat_lines (row ∷ rows) seat waiting = heard_of-seat_lines rows _ waiting

pub heard_of-table_pieces : (rows : List WatchRow) (waiting : List ℕ) → heard_of (table_pieces rows waiting) ≡ []
heard_of-table_pieces rows waiting = heard_of-append (seat_lines 0 rows waiting) _ ∙ ap (λ (xs : List Entry). xs ++ []) (heard_of-seat_lines rows 0 waiting)
