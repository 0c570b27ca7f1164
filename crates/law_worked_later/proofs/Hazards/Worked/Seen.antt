-- The record and its table compute, the table in four parts: one that is computed at once takes more steps than a check may take.
use Rattle.std.proofs.Common.{List, ap, drop, refl, suc, take, take-append-drop, zero, ℕ, ◌++◌, ◌≡◌, ◌∙◌, [], ◌∷◌}
use Rattle.wfe_core.specs.words.Packed.{halves, pending_word, answered_word, read_request, read_reservation, read_span, read_life}
use Rattle.wfe_core.specs.words.Place.{claim_mask, claim_others, claim_start, number, place_at}
use Rattle.wfe_core.specs.words.declared.config.Config.{Config}
use Rattle.wfe_core.specs.defs.Entry.{Entry}
use Rattle.law_worked.specs.Judges.{Law}
use Rattle.law_worked.specs.Refusals.{Row, laws, row_of, rows_of}
use Rattle.law_worked_later.specs.Hazards.Seen.{SeenWorked, seen, seen_setting, seen_table}

-- the rows of some laws are those of the first ones, and then those of the others
rows_cut : (n : ℕ) (c : Config) (lines : List Entry) (some : List Law) → rows_of c lines some ≡ rows_of c lines (take n some) ++ rows_of c lines (drop n some)
rows_cut zero c lines some = refl
rows_cut (suc n) c lines [] = refl
rows_cut (suc n) c lines (law ∷ others) = ap (λ (rows : List Row). row_of c lines law ∷ rows) (rows_cut n c lines others)

rows_joined : (n : ℕ) (c : Config) (lines : List Entry) (some : List Law) (table : List Row) → rows_of c lines (take n some) ≡ take n table
    → rows_of c lines (drop n some) ≡ drop n table → rows_of c lines some ≡ table
rows_joined n c lines some table first later =
    rows_cut n c lines some ∙ ap (λ (rows : List Row). rows ++ rows_of c lines (drop n some)) first ∙ ap (λ (rows : List Row). take n table ++ rows) later
    ∙ take-append-drop n table

first_rows : rows_of seen_setting.config seen (take 14 laws) ≡ take 14 seen_table
first_rows = refl

second_rows : rows_of seen_setting.config seen (take 14 (drop 14 laws)) ≡ take 14 (drop 14 seen_table)
second_rows = refl

third_rows : rows_of seen_setting.config seen (take 14 (drop 14 (drop 14 laws))) ≡ take 14 (drop 14 (drop 14 seen_table))
third_rows = refl

last_rows : rows_of seen_setting.config seen (drop 14 (drop 14 (drop 14 laws))) ≡ drop 14 (drop 14 (drop 14 seen_table))
last_rows = refl

refused_rows : rows_of seen_setting.config seen laws ≡ seen_table
refused_rows =
    rows_joined 14 seen_setting.config seen laws seen_table first_rows
    (rows_joined 14 seen_setting.config seen (drop 14 laws) (drop 14 seen_table) second_rows
    (rows_joined 14 seen_setting.config seen (drop 14 (drop 14 laws)) (drop 14 (drop 14 seen_table)) third_rows last_rows))

pub seen_worked : SeenWorked
unfolding halves pending_word answered_word read_request read_reservation read_span read_life claim_mask claim_others claim_start number place_at
seen_worked = record { tells = refl; lawful = refl; refuses = refused_rows }
