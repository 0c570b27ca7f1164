-- The lines of counts among what a replay puts out are lines of a record.
use Rattle.std.proofs.Common.{◌≡◌, ◌≤◌, ◌+◌, ◌-◌, ◌++◌, ◌∙◌, List, [], ◌∷◌, ℕ, zero, suc, Bool, true, false, Option, None, Some, append-nil, arith, codes, get_or, inl, length, refl, slice_set, sym}
use Rattle.law_printed.specs.ReadBack.Printed.{IsPrinted, lines_text}
use Rattle.law_printed.specs.lines.Texts.{IsCounted}
use Rattle.law_printed.specs.lines.out.Pieces.{Text, told_pieces}
use Rattle.wfe_server_replay.specs.Counts.{seat_lines, table_pieces, total_line}
use Rattle.wfe_server_replay.specs.Given.{Given, fit_pieces, given_garbage, given_made, given_record, given_waiting, items_of, line_pieces, lines_out, made_pieces, past_entries, with_line}
use Rattle.wfe_server_replay.specs.history.History.{Begins, Item, Made, Steps, did, fits}
use Rattle.wfe_server_replay.specs.history.model.World.{World, told_in}
use Rattle.wfe_defs.specs.Entry.{Entry}
use Rattle.wfe_defs.specs.declared.command.Command.{Command}
use Rattle.wfe_defs.specs.declared.command.Command.TheVariants as commands
use Rattle.wfe_defs.specs.declared.event.Event.{Event}
use Rattle.wfe_defs.specs.declared.event.Event.TheVariants as events
use Rattle.laws.specs.words.declared.config.Config.{Config}
use Rattle.wfe_trace.specs.Fits.{NumberFits}
use Rattle.wfe_trace.specs.Record.{line_of, seat_word, spaced, table_line}
use Rattle.wfe_outside.specs.declared.watcher.WatchRow.{WatchRow}
use Rattle.wfe_watch.specs.Counts.{capped}
use Rattle.wfe_watch.specs.Garbage.{garbage_row, garbage_rows}
use Rattle.wfe_watch.specs.Lists.{lists_after, lists_told, no_lists, waiting_at}
use Rattle.wfe_watch.proofs.GarbageLemmas.{length-garbage_rows}
use Rattle.std.specs.Fmt.{decimal}
use Rattle.law_printed.proofs.Pieces.{TextsAre, texts_along}

-- a line is its words, and a line feed
pub line_is : (first : List ℕ) (others : List (List ℕ)) → line_of first others ≡ (first ++ spaced others) ++ codes "\n"
line_is first others = refl

pub one_line : (first : List ℕ) (others : List (List ℕ)) → line_of first others ≡ lines_text ((first ++ spaced others) ∷ [])
one_line first others = line_is first others ∙ sym (append-nil ((first ++ spaced others) ++ codes "\n"))

counts_line : (version : ℕ) (config : Config) (seat : Option ℕ) (retired back waiting : ℕ) → IsCounted seat → NumberFits retired → NumberFits back → NumberFits waiting
    → IsPrinted version config (Text (table_line seat retired back waiting))
counts_line version config seat retired back waiting seated r b w =
    let words : List (List ℕ) = seat_word seat ∷ codes "retired" ∷ decimal retired ∷ codes "back" ∷ decimal back ∷ codes "waiting" ∷ decimal waiting ∷ [] in (
      (codes "table" ++ spaced words) ∷ [],
      one_line (codes "table") words,
      (inl (record { seat = seat; retired = retired; back = back; waiting = waiting; text = line_is (codes "table") words; seated = seated; retired_fits = r; back_fits = b; waiting_fits = w }), tt),
    )

capped_fits : (n : ℕ) → NumberFits (capped n)
capped_fits n = omega arith

-- the counts of rows
abbrev RowsCapped : List WatchRow → Type 0
RowsCapped [] = Unit {0}
RowsCapped (row ∷ rows) = (NumberFits row.b × NumberFits row.c) × RowsCapped rows

capped_along : (rows more : List WatchRow) → RowsCapped rows → RowsCapped more → RowsCapped (rows ++ more)
capped_along [] more one two = two
capped_along (row ∷ rows) more one two = (one.0, capped_along rows more one.1 two)

garbage_capped : (seats : ℕ) (told : List Entry) → RowsCapped (garbage_rows seats told)
garbage_capped zero told = tt
garbage_capped (suc seats) told = capped_along (garbage_rows seats told) (garbage_row seats told ∷ []) (garbage_capped seats told) ((capped_fits _, capped_fits _), tt)

-- the lengths of lists
abbrev CountsFit : List ℕ → Type 0
CountsFit [] = Unit {0}
CountsFit (n ∷ ns) = NumberFits n × CountsFit ns

fit_at : (counts : List ℕ) (place : ℕ) → CountsFit counts → NumberFits (get_or counts place 0)
fit_at [] place fits = omega arith
fit_at (n ∷ ns) zero fits = fits.0
fit_at (n ∷ ns) (suc place) fits = fit_at ns place fits.1

fit_set : (counts : List ℕ) (place n : ℕ) → CountsFit counts → NumberFits n → CountsFit (slice_set counts place n)
fit_set [] place n fits fit = tt
fit_set (m ∷ ms) zero n fits fit = (fit, fits.1)
fit_set (m ∷ ms) (suc place) n fits fit = (fits.0, fit_set ms place n fits.1 fit)

less_fits : (n : ℕ) → NumberFits n → NumberFits (n - 1)
less_fits n fits = omega (arith, fits)

after_fits : (counts : List ℕ) (seat : ℕ) (event : Event) → CountsFit counts → CountsFit (lists_after counts seat event)
after_fits counts seat (events.Retire slot birth retire) fits = fit_set counts seat _ fits (capped_fits (waiting_at counts seat + 1))
after_fits counts seat (events.Back slot) fits = fit_set counts seat _ fits (less_fits (waiting_at counts seat) (fit_at counts seat fits))
after_fits counts seat (events.Adopted place count) fits =
    fit_set (slice_set counts place 0) seat _ (fit_set counts place 0 fits (omega arith)) (capped_fits (waiting_at (slice_set counts place 0) seat + waiting_at counts place))
after_fits counts seat event fits = fits

told_fits : (counts : List ℕ) (told : List Entry) → CountsFit counts → CountsFit (lists_told counts told)
told_fits counts [] fits = fits
told_fits counts (x ∷ told) fits = told_fits (lists_after counts x.seat x.event) told (after_fits counts x.seat x.event fits)

none_fit : (seats : ℕ) → CountsFit (no_lists seats)
none_fit zero = tt
none_fit (suc seats) = (omega arith, none_fit seats)

seats_texts : (version : ℕ) (config : Config) (seat : ℕ) (rows : List WatchRow) (waiting : List ℕ) → NumberFits (seat + length rows) → RowsCapped rows → CountsFit waiting → TextsAre version config (seat_lines seat rows waiting)
seats_texts version config seat [] waiting within few counts = tt
seats_texts version config seat (row ∷ rows) waiting within few counts = (
  counts_line version config (Some seat) row.b row.c (waiting_at waiting seat) (omega (arith, within)) few.0.0 few.0.1 (fit_at waiting seat counts),
  seats_texts version config (seat + 1) rows waiting (omega (arith, within)) few.1 counts,
)

table_texts : (version : ℕ) (config : Config) (rows : List WatchRow) (waiting : List ℕ) → NumberFits (length rows) → RowsCapped rows → CountsFit waiting → TextsAre version config (table_pieces rows waiting)
table_texts version config rows waiting within few counts =
    texts_along version config (seat_lines 0 rows waiting) (Text (total_line rows waiting) ∷ []) (seats_texts version config 0 rows waiting (omega (arith, within)) few counts)
    (counts_line version config None _ _ _ tt (omega arith) (omega arith) (capped_fits _), tt)

-- what a step or the beginning of a call puts out has no text
told_texts : (version : ℕ) (config : Config) (seat : ℕ) (told : List Event) → TextsAre version config (told_pieces seat told)
told_texts version config seat [] = tt
told_texts version config seat (event ∷ told) = told_texts version config seat told

fit_texts : (version : ℕ) (config : Config) (w : World) (item : Item) (fit : Bool) → TextsAre version config (fit_pieces w item fit)
fit_texts version config w (Begins seat call) true = tt
fit_texts version config w (Steps seat) true = told_texts version config seat (told_in w seat)
fit_texts version config w item false = tt

made_texts : (version : ℕ) (config : Config) (made : Made) (items : List Item) → TextsAre version config (made_pieces made items)
made_texts version config made [] = tt
made_texts version config made (item ∷ items) =
    texts_along version config (fit_pieces made.world item (fits made.world item)) (made_pieces (did made item) items) (fit_texts version config made.world item (fits made.world item)) (made_texts version config (did made item) items)

line_texts : (version : ℕ) (line : Command) (given : Given) → NumberFits given.config.seats → TextsAre version given.config (line_pieces line given)
line_texts version (commands.Call seat call) given fits = tt
line_texts version (commands.Step seat units) given fits = made_texts version given.config (given_made given) (items_of given.config.seats (commands.Step seat units))
line_texts version (commands.Run seat) given fits = made_texts version given.config (given_made given) (items_of given.config.seats (commands.Run seat))
line_texts version commands.Table given fits =
    let told : List Entry = past_entries (given_record given) in
    table_texts version given.config (given_garbage given) (given_waiting given) (omega (arith, fits, length-garbage_rows given.config.seats told)) (garbage_capped given.config.seats told) (told_fits (no_lists given.config.seats) told (none_fit given.config.seats))
line_texts version commands.End given fits = made_texts version given.config (given_made given) (items_of given.config.seats commands.End)

-- what lines put out
pub lines_texts : (version : ℕ) (given : Given) (lines : List Command) → NumberFits given.config.seats → TextsAre version given.config (lines_out given lines)
lines_texts version given [] fits = tt
lines_texts version given (line ∷ lines) fits = texts_along version given.config (line_pieces line given) (lines_out (with_line line given) lines) (line_texts version line given fits) (lines_texts version (with_line line given) lines fits)
