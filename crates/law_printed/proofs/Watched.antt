-- The rows of watchers are lines of a record.
use Rattle.std.proofs.Common.{◌≡◌, ◌<◌, ◌+◌, ◌++◌, ◌∙◌, List, [], ◌∷◌, ℕ, zero, suc, Some, ap, append_assoc, arith, codes, inr, map, refl, slice_get, sym}
use Rattle.std.specs.List.{range_with_len}
use Rattle.std.specs.Fmt.{decimal}
use Rattle.law_printed.specs.ReadBack.Printed.{AreShown, IsPrinted, lines_text}
use Rattle.law_printed.specs.lines.out.Pieces.{Text}
use Rattle.wfe_server_replay.specs.Watched.{RowFits, RowsFit, WatchersFit, rows_of, rows_text, watch_from, watch_text}
use Rattle.laws.specs.words.declared.config.Config.{Config}
use Rattle.wfe_trace.specs.Fits.{NumberFits}
use Rattle.wfe_trace.specs.Record.{spaced, watch_line}
use Rattle.wfe_outside.specs.declared.watcher.WatchRow.{WatchRow}
use Rattle.law_printed.proofs.Tables.{line_is}

-- lines one after the other
lines-along : (xs ys : List (List ℕ)) → lines_text (xs ++ ys) ≡ lines_text xs ++ lines_text ys
lines-along [] ys = refl
lines-along (x ∷ xs) ys = ap (λ (t : List ℕ). (x ++ codes "\n") ++ t) (lines-along xs ys) ∙ sym (append_assoc (x ++ codes "\n") (lines_text xs) (lines_text ys))

shown_along : (xs ys : List (List ℕ)) → AreShown xs → AreShown ys → AreShown (xs ++ ys)
shown_along [] ys one two = two
shown_along (x ∷ xs) ys one two = (one.0, shown_along xs ys one.1 two)

-- a text that is lines of counts or rows
abbrev IsLines : List ℕ → Type 0
IsLines bytes = (lines : List (List ℕ)) × (bytes ≡ lines_text lines) × AreShown lines

both_lines : (bytes more : List ℕ) → IsLines bytes → IsLines more → IsLines (bytes ++ more)
both_lines bytes more one two = (
  one.0 ++ two.0,
  ap (λ (t : List ℕ). t ++ more) one.1 ∙ ap (λ (t : List ℕ). lines_text one.0 ++ t) two.1 ∙ sym (lines-along one.0 two.0),
  shown_along one.0 two.0 one.2 two.2,
)

abbrev row_words : (place : ℕ) → WatchRow → List (List ℕ)
row_words place row = decimal place ∷ decimal row.a ∷ decimal row.b ∷ decimal row.c ∷ []

abbrev row_line : ℕ → WatchRow → List ℕ
row_line place row = codes "watch" ++ spaced (row_words place row)

row_is : (place : ℕ) (row : WatchRow) → watch_line place row.a row.b row.c ≡ row_line place row ++ codes "\n"
row_is place row = line_is (codes "watch") (row_words place row)

abbrev AllFit : List WatchRow → Type 0
AllFit [] = Unit {0}
AllFit (row ∷ rows) = RowFits row × AllFit rows

rows_lines : (place : ℕ) (rows : List WatchRow) → NumberFits place → AllFit rows → IsLines (rows_text place rows)
rows_lines place [] fit fits = ([], refl, tt)
rows_lines place (row ∷ rows) fit fits =
    let later : IsLines (rows_text place rows) = rows_lines place rows fit fits.1 in (
      row_line place row ∷ later.0,
      ap (λ (t : List ℕ). t ++ rows_text place rows) (row_is place row) ∙ ap (λ (t : List ℕ). (row_line place row ++ codes "\n") ++ t) later.1,
      (inr (record { place = place; a = row.a; b = row.b; c = row.c; text = row_is place row; place_fits = fit; a_fits = fits.0.0; b_fits = fits.0.1; c_fits = fits.0.2 }), later.2),
    )

range_fits : (shows : ℕ → WatchRow) (first count : ℕ) → ((row : ℕ) → row < first + count → RowFits (shows row)) → AllFit (map shows (range_with_len first count))
range_fits shows first zero fits = tt
range_fits shows first (suc count) fits = (fits first (omega arith), range_fits shows (first + 1) count (λ row less. fits row (omega (arith, less))))

watcher_fits : {W : Type 0} (shown : W → ℕ) (shows : W → ℕ → WatchRow) (watcher : W) → RowsFit shown shows watcher → AllFit (rows_of shown shows watcher)
watcher_fits shown shows watcher fits = range_fits (shows watcher) 0 (shown watcher) (λ row less. fits row (omega (arith, less)))

-- the rows of watchers from a place on
from_lines : {W : Type 0} (shown : W → ℕ) (shows : W → ℕ → WatchRow) (place : ℕ) (watchers : List W)
    → ((n : ℕ) (watcher : W) → slice_get watchers n ≡ Some watcher → NumberFits (place + n) × RowsFit shown shows watcher)
    → IsLines (watch_from (rows_of shown shows) place watchers)
from_lines shown shows place [] fits = ([], refl, tt)
from_lines shown shows place (watcher ∷ watchers) fits =
    let first : NumberFits (place + 0) × RowsFit shown shows watcher = fits 0 watcher refl in
    both_lines (rows_text place (rows_of shown shows watcher)) (watch_from (rows_of shown shows) (place + 1) watchers)
    (rows_lines place (rows_of shown shows watcher) (omega (arith, first.0)) (watcher_fits shown shows watcher first.1))
    (from_lines shown shows (place + 1) watchers (λ n w at. let h : NumberFits (place + suc n) × RowsFit shown shows w = fits (suc n) w at in (omega (arith, h.0), h.1)))

pub watched_printed : {W : Type 0} (shown : W → ℕ) (shows : W → ℕ → WatchRow) (version : ℕ) (config : Config) (watchers : List W) → WatchersFit shown shows watchers → IsPrinted version config (Text (watch_text shown shows watchers))
watched_printed shown shows version config watchers fits = from_lines shown shows 0 watchers (λ n watcher at. let h = fits n watcher at in (omega (arith, h.0), h.1))
