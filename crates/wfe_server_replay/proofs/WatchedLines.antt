-- The lines of watchers, row by row and watcher by watcher.
use Rattle.std.proofs.Common.{List, Option, Some, [], inl, inr, slice_get, ap, arith, drop, get_or, length, refl, subst, sym, ℕ, ◌++◌, ◌+◌, ◌<◌, ◌≤◌, ◌∙◌, ◌≡◌}
use Rattle.std.proofs.lemmas.Bool.{cases_lt}
use Rattle.std.proofs.lemmas.List.{drop_all, drop_more}
use Rattle.std.proofs.lemmas.Option.{slice_get_within, slice_get-get_or}
use Rattle.std.proofs.lemmas.List.FromFn.{get_or-map-range_with_len, length-map-range_with_len}
use Rattle.wfe_outside.specs.declared.watcher.WatchRow.{WatchRow}
use Rattle.wfe_trace.specs.Record.{watch_line}
use Rattle.wfe_trace.specs.Fits.{NumberFits}
use Rattle.wfe_server_replay.specs.Watched.{RowFits, RowsFit, WatchersFit, rows_of, rows_text, watch_from}

-- the next row of a watcher
pub row_next : {W : Type 0} (shown : W → ℕ) (shows : W → ℕ → WatchRow) (watcher : W) (place row : ℕ) (r : WatchRow) → row < shown watcher → r ≡ shows watcher row
    → rows_text place (drop row (rows_of shown shows watcher)) ≡ watch_line place r.a r.b r.c ++ rows_text place (drop (row + 1) (rows_of shown shows watcher))
row_next shown shows watcher place row r within e =
    let many : length (rows_of shown shows watcher) ≡ shown watcher = length-map-range_with_len (shows watcher) 0 (shown watcher) in
    let there : row < length (rows_of shown shows watcher) = subst (λ (n : ℕ). row < n) (sym many) within in
    let same : row ≡ row = refl in
    let at : get_or (rows_of shown shows watcher) row r ≡ r = get_or-map-range_with_len (shows watcher) 0 (shown watcher) row row r within (omega arith) ∙ sym e in
    ap (rows_text place) (drop_more (rows_of shown shows watcher) row r there)
    ∙ ap (λ (x : WatchRow). watch_line place x.a x.b x.c ++ rows_text place (drop (row + 1) (rows_of shown shows watcher))) at

-- the next watcher
pub watcher_next : {W : Type 0} (rows : W → List WatchRow) (place : ℕ) (watchers : List W) (w : W) → place < length watchers → w ≡ get_or watchers place w
    → watch_from rows place (drop place watchers) ≡ rows_text place (rows w) ++ watch_from rows (place + 1) (drop (place + 1) watchers)
watcher_next rows place watchers w within e =
    ap (watch_from rows place) (drop_more watchers place w within)
    ∙ ap (λ x. rows_text place (rows x) ++ watch_from rows (place + 1) (drop (place + 1) watchers)) (sym e)

-- no row is left
pub rows_over : {W : Type 0} (shown : W → ℕ) (shows : W → ℕ → WatchRow) (watcher : W) (place row : ℕ) → shown watcher ≤ row → rows_text place (drop row (rows_of shown shows watcher)) ≡ []
rows_over shown shows watcher place row past =
    let many : length (rows_of shown shows watcher) ≡ shown watcher = length-map-range_with_len (shows watcher) 0 (shown watcher) in
    ap (rows_text place) (drop_all row (rows_of shown shows watcher) (subst (λ (n : ℕ). n ≤ row) (sym many) past))

-- no watcher is left
pub watchers_over : {W : Type 0} (rows : W → List WatchRow) (place : ℕ) (watchers : List W) → length watchers ≤ place → watch_from rows place (drop place watchers) ≡ []
watchers_over rows place watchers past = ap (watch_from rows place) (drop_all place watchers past)

-- the numbers of the first rows have the bits of their type
abbrev pub FirstFit : {W : Type 0} → (W → ℕ → WatchRow) → W → ℕ → Type 0
FirstFit shows watcher few = (row : ℕ) → row < few → RowFits (shows watcher row)

pub fits_none : {W : Type 0} (shows : W → ℕ → WatchRow) (watcher : W) → FirstFit shows watcher 0
fits_none shows watcher row less = absurd (omega (arith, less))

-- those of the next one too
pub fits_more : {W : Type 0} (shows : W → ℕ → WatchRow) (watcher : W) (few : ℕ) (r : WatchRow) → r ≡ shows watcher few → RowFits r → FirstFit shows watcher few → FirstFit shows watcher (few + 1)
fits_more shows watcher few r e fits first row less = elim (cases_lt row few) [
  | inl before ↦ first row before
  | inr after ↦ let here : few ≡ row = omega (arith, less, after) in subst (λ k. RowFits (shows watcher k)) here (subst RowFits e fits)
]

-- those of all
pub fits_all : {W : Type 0} (shown : W → ℕ) (shows : W → ℕ → WatchRow) (watcher : W) (few : ℕ) → shown watcher ≤ few → FirstFit shows watcher few → RowsFit shown shows watcher
fits_all shown shows watcher few all first row less = first row (omega (arith, less, all))

-- so it is with the first watchers, and with their places
abbrev pub WatchersFirst : {W : Type 0} → (W → ℕ) → (W → ℕ → WatchRow) → List W → ℕ → Type 0
WatchersFirst {W} shown shows watchers few = (place : ℕ) (watcher : W) → place < few → slice_get watchers place ≡ Some watcher → NumberFits place × RowsFit shown shows watcher

pub watchers_none : {W : Type 0} (shown : W → ℕ) (shows : W → ℕ → WatchRow) (watchers : List W) → WatchersFirst shown shows watchers 0
watchers_none shown shows watchers place watcher less e = absurd (omega (arith, less))

some_is : {X : Type 0} (x y : X) → ◌≡◌ {A = Option X} (Some x) (Some y) → x ≡ y
some_is x y h = cc

pub watchers_more : {W : Type 0} (shown : W → ℕ) (shows : W → ℕ → WatchRow) (watchers : List W) (few : ℕ) (w : W) → few < length watchers → w ≡ get_or watchers few w → NumberFits few × RowsFit shown shows w → WatchersFirst shown shows watchers few → WatchersFirst shown shows watchers (few + 1)
watchers_more shown shows watchers few w within at fits first place watcher less e = elim (cases_lt place few) [
  | inl before ↦ first place watcher before e
  | inr after ↦
      let here : few ≡ place = omega (arith, less, after) in
      let there : slice_get watchers few ≡ Some (get_or watchers few w) = slice_get-get_or watchers few w within in
      let same : w ≡ watcher = some_is _ _ (ap Some at ∙ sym there ∙ ap (slice_get watchers) here ∙ e) in
      subst (λ k. NumberFits k × RowsFit shown shows watcher) here (subst (λ v. NumberFits few × RowsFit shown shows v) same fits)
]

pub watchers_all : {W : Type 0} (shown : W → ℕ) (shows : W → ℕ → WatchRow) (watchers : List W) (few : ℕ) → length watchers ≤ few → WatchersFirst shown shows watchers few → WatchersFit shown shows watchers
watchers_all shown shows watchers few all first place watcher e = first place watcher (omega (arith, all, slice_get_within watchers place watcher e)) e
