-- The rows of a counter of garbage, after one more entry.
use Rattle.std.proofs.Common.{◌≡◌, ◌≢◌, ◌≤◌, ◌<◌, ℕ, zero, suc, ◌+◌, ◌==◌, ◌&&◌, eqb, true, false, List, [], ◌∷◌, ◌++◌, length, get_or, slice_set, refl, sym, ap, ◌∙◌, add-one, length-append, length-set, arith}
use Rattle.std.proofs.lemmas.Bool.Decides.{nat_tests}
use Rattle.std.proofs.lemmas.List.{set-append_left, get_or_append_left}
use Rattle.std.proofs.Math.Seq.{set-append_seam, get_or-append_seam}
use Rattle.wfe_defs.specs.Entry.{Entry, entry}
use Rattle.wfe_defs.specs.declared.event.Event.{Event}
use Rattle.wfe_outside.specs.declared.watcher.WatchRow.{WatchRow}
use Rattle.wfe_outside.specs.Watched.{Grows}
use Rattle.wfe_watch.specs.Counts.{capped, raised, row_of}
use Rattle.wfe_watch.specs.Garbage.{is_retire, is_back, retired, given_back, garbage_row, garbage_rows, with_garbage, CountsGarbage}
use Rattle.wfe_watch.proofs.CountsLemmas.{capped-count_by_push}

pub length-garbage_rows : (seats : ℕ) (told : List Entry) → length (garbage_rows seats told) ≡ seats
length-garbage_rows zero told = refl
length-garbage_rows (suc seats) told = omega (arith, length-append (garbage_rows seats told) (garbage_row seats told ∷ []), length-garbage_rows seats told)

-- one seat more has one row more
pub garbage_rows_more : (seats : ℕ) (told : List Entry) → garbage_rows (seats + 1) told ≡ garbage_rows seats told ++ garbage_row seats told ∷ []
garbage_rows_more seats told = rw add-one refl

-- the row of any seat, after one more entry
row_after : (at seat : ℕ) (event : Event) (told : List Entry) → garbage_row at (told ++ entry seat event ∷ []) ≡
    row_of at (raised (seat == at && is_retire event) (capped (retired at told))) (raised (seat == at && is_back event) (capped (given_back at told)))
row_after at seat event told =
    ap (λ b. row_of at b (capped (given_back at (told ++ entry seat event ∷ [])))) (capped-count_by_push (λ x. x.seat == at && is_retire x.event) told (entry seat event))
    ∙ ap (row_of at (raised (seat == at && is_retire event) (capped (retired at told)))) (capped-count_by_push (λ x. x.seat == at && is_back x.event) told (entry seat event))

-- the row of the seat that told it
row_told : (seat : ℕ) (event : Event) (told : List Entry) → garbage_row seat (told ++ entry seat event ∷ []) ≡ with_garbage event (garbage_row seat told)
row_told seat event told =
    let same : (seat == seat) ≡ true = grind (arith, nat_tests) in
    row_after seat seat event told ∙ ap (λ b. row_of seat (raised (b && is_retire event) (capped (retired seat told))) (raised (b && is_back event) (capped (given_back seat told)))) same

-- the row of another seat
row_apart : (at seat : ℕ) (event : Event) (told : List Entry) → seat ≢ at → garbage_row at (told ++ entry seat event ∷ []) ≡ garbage_row at told
row_apart at seat event told apart =
    let other : (seat == at) ≡ false = grind (arith, nat_tests) in
    row_after at seat event told ∙ ap (λ b. row_of at (raised (b && is_retire event) (capped (retired at told))) (raised (b && is_back event) (capped (given_back at told)))) other

-- the rows of the seats below the one that told it
pub rows_apart : (seats seat : ℕ) (event : Event) (told : List Entry) → seats ≤ seat → garbage_rows seats (told ++ entry seat event ∷ []) ≡ garbage_rows seats told
rows_apart zero seat event told h = refl
rows_apart (suc seats) seat event told h =
    let rest = rows_apart seats seat event told (omega arith) in
    let last = row_apart seats seat event told (λ e. absurd (omega arith)) in
    ap (λ rows. rows ++ garbage_row seats (told ++ entry seat event ∷ []) ∷ []) rest ∙ ap (λ row. garbage_rows seats told ++ row ∷ []) last

-- all rows
pub rows_told : (seats seat : ℕ) (event : Event) (told : List Entry) → seat < seats →
    garbage_rows seats (told ++ entry seat event ∷ []) ≡ slice_set (garbage_rows seats told) seat (with_garbage event (garbage_row seat told))
rows_told zero seat event told h = absurd (omega arith)
rows_told (suc seats) seat event told h =
    elim (eqb seat seats) as (λ b. eqb seat seats ≡ b → garbage_rows (suc seats) (told ++ entry seat event ∷ []) ≡ slice_set (garbage_rows (suc seats) told) seat (with_garbage event (garbage_row seat told))) [
      | true ↦ λ e. let here : seat ≡ seats = grind (arith, nat_tests) in last_told seats seat event told here
      | false ↦ λ e. let below : seat < seats = grind (arith, nat_tests) in
          front_told seats seat event told below (rows_told seats seat event told below)
    ] refl
  where
    last_told : (seats seat : ℕ) (event : Event) (told : List Entry) → seat ≡ seats →
        garbage_rows (suc seats) (told ++ entry seat event ∷ []) ≡ slice_set (garbage_rows (suc seats) told) seat (with_garbage event (garbage_row seat told))
    last_told seats seat event told here =
        let front = rows_apart seats seat event told (omega arith) in
        let row : garbage_row seats (told ++ entry seat event ∷ []) ≡ with_garbage event (garbage_row seat told) =
        ap (λ n. garbage_row n (told ++ entry seat event ∷ [])) (sym here) ∙ row_told seat event told in
        ap (λ rows. rows ++ garbage_row seats (told ++ entry seat event ∷ []) ∷ []) front
        ∙ ap (λ r. garbage_rows seats told ++ r ∷ []) row
        ∙ sym (set-append_seam (garbage_rows seats told) (garbage_row seats told) [] (with_garbage event (garbage_row seat told)))
        ∙ ap (λ n. slice_set (garbage_rows (suc seats) told) n (with_garbage event (garbage_row seat told))) (length-garbage_rows seats told ∙ sym here)

    front_told : (seats seat : ℕ) (event : Event) (told : List Entry) → seat < seats →
        garbage_rows seats (told ++ entry seat event ∷ []) ≡ slice_set (garbage_rows seats told) seat (with_garbage event (garbage_row seat told)) →
        garbage_rows (suc seats) (told ++ entry seat event ∷ []) ≡ slice_set (garbage_rows (suc seats) told) seat (with_garbage event (garbage_row seat told))
    front_told seats seat event told below front =
        ap (λ rows. rows ++ garbage_row seats (told ++ entry seat event ∷ []) ∷ []) front
        ∙ ap (λ r. slice_set (garbage_rows seats told) seat (with_garbage event (garbage_row seat told)) ++ r ∷ []) (row_apart seats seat event told (λ e. absurd (omega arith)))
        ∙ sym (set-append_left (garbage_rows seats told) (garbage_row seats told ∷ []) seat (with_garbage event (garbage_row seat told)) (omega (arith, length-garbage_rows seats told)))

-- the row at the place of a seat
pub get_or-garbage_rows : (seats seat : ℕ) (told : List Entry) (d : WatchRow) → seat < seats → get_or (garbage_rows seats told) seat d ≡ garbage_row seat told
get_or-garbage_rows zero seat told d h = absurd (omega arith)
get_or-garbage_rows (suc seats) seat told d h =
    elim (eqb seat seats) as (λ b. eqb seat seats ≡ b → get_or (garbage_rows (suc seats) told) seat d ≡ garbage_row seat told) [
      | true ↦ λ e. let here : seat ≡ seats = grind (arith, nat_tests) in
          ap (λ n. get_or (garbage_rows (suc seats) told) n d) (here ∙ sym (length-garbage_rows seats told))
          ∙ get_or-append_seam (garbage_rows seats told) (garbage_row seats told) [] d
          ∙ ap (λ n. garbage_row n told) (sym here)
      | false ↦ λ e. let below : seat < seats = grind (arith, nat_tests) in
          get_or_append_left (garbage_rows seats told) (garbage_row seats told ∷ []) d seat (omega (arith, length-garbage_rows seats told))
          ∙ get_or-garbage_rows seats seat told d below
    ] refl

-- an event of a seat that has a row
pub grows_within : (rows : List WatchRow) (seat : ℕ) (event : Event) (row : WatchRow) → seat < length rows → row ≡ get_or rows seat row →
    Grows CountsGarbage rows (slice_set rows seat (with_garbage event row)) (entry seat event)
grows_within rows seat event row within at told counts =
    let count = length rows in
    let was : row ≡ garbage_row seat told =
    at ∙ ap (λ r. get_or r seat row) counts ∙ get_or-garbage_rows count seat told row within in
    let now : slice_set rows seat (with_garbage event row) ≡ garbage_rows count (told ++ entry seat event ∷ []) =
    ap (λ r. slice_set r seat (with_garbage event row)) counts
    ∙ ap (λ r. slice_set (garbage_rows count told) seat (with_garbage event r)) was
    ∙ sym (rows_told count seat event told within) in
    now ∙ ap (λ n. garbage_rows n (told ++ entry seat event ∷ [])) (sym (length-set rows seat (with_garbage event row)))

-- an event of a seat that has none
pub grows_past : (rows : List WatchRow) (seat : ℕ) (event : Event) → length rows ≤ seat → Grows CountsGarbage rows rows (entry seat event)
grows_past rows seat event past told counts = counts ∙ sym (rows_apart (length rows) seat event told past)
