-- The lines and the sums of a table of counts, seat by seat.
use Rattle.std.proofs.Common.{List, [], ap, ap₂, append-nil, arith, drop, length, length-set, refl, sym, take, ℕ, ◌++◌, ◌+◌, ◌-◌, ◌<◌, ◌≤◌, ◌∙◌, ◌≡◌, ◌∷◌}
use Rattle.std.proofs.lemmas.List.{drop_all, drop_more, take_more}
use Rattle.std.proofs.lemmas.List.Sums.{sum_by-append}
use Rattle.std.proofs.lemmas.Option.{slice_get_within, get_or_from_slice_get}
use Rattle.std.specs.Prelude.{Some, min, slice_get, sum_by, ◌^◌}
use Rattle.wfe_outside.specs.defs.declared.event.Event.{Event}
use Rattle.wfe_outside.specs.declared.watcher.WatchRow.{WatchRow}
use Rattle.wfe_server_out.specs.Pieces.{Text, text_of}
use Rattle.wfe_server_out.proofs.Texts.{text_of-append}
use Rattle.wfe_watch.specs.Counts.{row_at, row_of}
use Rattle.wfe_watch.specs.Garbage.{garbage_after, with_garbage}
use Rattle.wfe_watch.specs.Lists.{lists_after, waiting_at}
use Rattle.wfe_server_replay.specs.Playing.{Played}
use Rattle.wfe_server_replay.specs.Counts.{counted_all, listed_all, seat_line, seat_lines, table_pieces, total, total_line}

pub length-counted_all : (rows : List WatchRow) (seat : ℕ) (told : List Event) → length (counted_all rows seat told) ≡ length rows
length-counted_all rows seat [] = refl
length-counted_all rows seat (event ∷ told) = length-counted_all (garbage_after rows seat event) seat told ∙ length-set rows seat (with_garbage event (row_at rows seat))

-- one event more is counted
pub counted_more : (rows : List WatchRow) (seat : ℕ) (told : List Event) (place : ℕ) (event : Event) (more : List WatchRow) → slice_get told place ≡ Some event → more ≡ garbage_after rows seat event
    → counted_all rows seat (drop place told) ≡ counted_all more seat (drop (place + 1) told)
counted_more rows seat told place event more e m =
    let within = slice_get_within told place event e in
    ap (counted_all rows seat) (drop_more told place event within)
    ∙ ap (λ (x : Event). counted_all (garbage_after rows seat x) seat (drop (place + 1) told)) (get_or_from_slice_get told place event event e)
    ∙ ap (λ (r : List WatchRow). counted_all r seat (drop (place + 1) told)) (sym m)

pub listed_more : (waiting : List ℕ) (seat : ℕ) (told : List Event) (place : ℕ) (event : Event) (more : List ℕ) → slice_get told place ≡ Some event → more ≡ lists_after waiting seat event
    → listed_all waiting seat (drop place told) ≡ listed_all more seat (drop (place + 1) told)
listed_more waiting seat told place event more e m =
    let within = slice_get_within told place event e in
    ap (listed_all waiting seat) (drop_more told place event within)
    ∙ ap (λ (x : Event). listed_all (lists_after waiting seat x) seat (drop (place + 1) told)) (get_or_from_slice_get told place event event e)
    ∙ ap (λ (r : List ℕ). listed_all r seat (drop (place + 1) told)) (sym m)

-- no seat is left
pub lines_over : (rows : List WatchRow) (waiting : List ℕ) (seat : ℕ) → length rows ≤ seat → text_of (seat_lines seat (drop seat rows) waiting) ≡ []
lines_over rows waiting seat past = ap (λ (r : List WatchRow). text_of (seat_lines seat r waiting)) (drop_all seat rows past)

-- the line of the next seat, and those after it
pub lines_more : (rows : List WatchRow) (waiting : List ℕ) (seat : ℕ) (row : WatchRow) (listed : ℕ) → seat < length rows → row ≡ row_at rows seat → listed ≡ waiting_at waiting seat
    → text_of (seat_lines seat (drop seat rows) waiting) ≡ seat_line seat row listed ++ text_of (seat_lines (seat + 1) (drop (seat + 1) rows) waiting)
lines_more rows waiting seat row listed within e f =
    ap (λ (r : List WatchRow). text_of (seat_lines seat r waiting)) (drop_more rows seat _ within)
    ∙ ap₂ (λ (r : WatchRow) (n : ℕ). seat_line seat r n ++ text_of (seat_lines (seat + 1) (drop (seat + 1) rows) waiting)) (sym e) (sym f)

-- the sum with one seat more
sum_more : (count : WatchRow → ℕ) (rows : List WatchRow) (row : WatchRow) → sum_by count (rows ++ row ∷ []) ≡ sum_by count rows + count row
sum_more count rows row = let e = sum_by-append count rows (row ∷ []) in omega (e, arith)

capped_sum : (before here sum : ℕ) → sum ≡ min before (2 ^ 64 - 1) → min (sum + here) (2 ^ 64 - 1) ≡ min (before + here) (2 ^ 64 - 1)
capped_sum before here sum s = omega (s, arith)

pub total_more : (count : WatchRow → ℕ) (rows : List WatchRow) (place : ℕ) (row : WatchRow) (sum : ℕ) → place < length rows → row ≡ row_at rows place → sum ≡ total count (take place rows)
    → min (sum + count row) (2 ^ 64 - 1) ≡ total count (take (place + 1) rows)
total_more count rows place row sum within e s =
    capped_sum (sum_by count (take place rows)) (count row) sum s
    ∙ ap (λ (n : ℕ). min n (2 ^ 64 - 1)) (sym (ap (sum_by count) (take_more rows place (row_of 0 0 0) within) ∙ sum_more count (take place rows) (row_at rows place) ∙ ap (λ (r : WatchRow). sum_by count (take place rows) + count r) (sym e)))

-- the table's text: the lines of the seats, and the line of all
table_text : (rows : List WatchRow) (waiting : List ℕ) → text_of (table_pieces rows waiting) ≡ text_of (seat_lines 0 rows waiting) ++ total_line rows waiting
table_text rows waiting =
    text_of-append (seat_lines 0 rows waiting) (Text (total_line rows waiting) ∷ []) ∙ ap (λ (t : List ℕ). text_of (seat_lines 0 rows waiting) ++ t) (append-nil (total_line rows waiting))

-- the table of a play, whose counts these are
pub table_is : (s t : Played) → s ≡ t → text_of (seat_lines 0 s.garbage s.waiting) ++ total_line s.garbage s.waiting ≡ text_of (table_pieces t.garbage t.waiting)
table_is s t e = sym (table_text s.garbage s.waiting) ∙ ap (λ (p : Played). text_of (table_pieces p.garbage p.waiting)) e
