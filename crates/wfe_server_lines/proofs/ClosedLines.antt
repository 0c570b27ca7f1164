-- The lines of a closed table, one after another.
use Rattle.std.proofs.Common.{List, [], ap, arith, drop, get_or, length, sym, take, ℕ, ◌++◌, ◌+◌, ◌<◌, ◌∙◌, ◌∷◌, ◌≡◌, ◌≤◌}
use Rattle.std.proofs.lemmas.List.{append-nil, append_assoc, drop_all, drop_more, get_or-map, length-map, take_more}
use Rattle.std.specs.Fmt.{decimal}
use Rattle.std.specs.Prelude.{map}
use Rattle.laws.specs.StructuresAt.{Filling}
use Rattle.wfe_core.specs.defs.Pairs.{Pair}
use Rattle.wfe_table_end.specs.declared.closed.BucketRow.{BucketRow}
use Rattle.wfe_table_end.specs.Contents.{filling_of}
use Rattle.wfe_server_lines.specs.Lines.{bucket_lines, bucket_text, pair_words, queue_line, queue_lines, used_line, used_lines}
use Rattle.wfe_trace.specs.Record.{spaced}

pair_words-push : (pairs : List Pair) (pair : Pair) → spaced (pair_words (pairs ++ pair ∷ [])) ≡ (spaced (pair_words pairs) ++ (32 ∷ decimal pair.0)) ++ (32 ∷ decimal pair.1)
pair_words-push [] pair = ap (λ (text : List ℕ). (32 ∷ decimal pair.0) ++ text) (append-nil (32 ∷ decimal pair.1))
pair_words-push (other ∷ pairs) pair =
    let front : List ℕ = 32 ∷ decimal other.0 in
    let next : List ℕ = 32 ∷ decimal other.1 in
    let key : List ℕ = 32 ∷ decimal pair.0 in
    let value : List ℕ = 32 ∷ decimal pair.1 in
    let regroup : front ++ (next ++ ((spaced (pair_words pairs) ++ key) ++ value)) ≡ ((front ++ (next ++ spaced (pair_words pairs))) ++ key) ++ value = simp append_assoc in
    ap (λ (text : List ℕ). front ++ (next ++ text)) (pair_words-push pairs pair) ∙ regroup

-- one pair more
pub pairs_more : (pairs : List Pair) (i : ℕ) (d : Pair) → i < length pairs → spaced (pair_words (take (i + 1) pairs)) ≡ (spaced (pair_words (take i pairs)) ++ (32 ∷ decimal (get_or pairs i d).0)) ++ (32 ∷ decimal (get_or pairs i d).1)
pairs_more pairs i d within = ap (λ (ps : List Pair). spaced (pair_words ps)) (take_more pairs i d within) ∙ pair_words-push (take i pairs) (get_or pairs i d)

-- the same at the end of a line
pub pairs_added : (pairs : List Pair) (i : ℕ) (d : Pair) (old before key after : List ℕ) → i < length pairs → before ≡ old ++ spaced (pair_words (take i pairs)) → key ≡ before ++ (32 ∷ decimal (get_or pairs i d).0) → after ≡ key ++ (32 ∷ decimal (get_or pairs i d).1)
    → after ≡ old ++ spaced (pair_words (take (i + 1) pairs))
pairs_added pairs i d old before key after within b k a =
    let first : List ℕ = spaced (pair_words (take i pairs)) in
    let one : List ℕ = 32 ∷ decimal (get_or pairs i d).0 in
    let two : List ℕ = 32 ∷ decimal (get_or pairs i d).1 in
    let all : after ≡ ((old ++ first) ++ one) ++ two = cc in
    let regroup : ((old ++ first) ++ one) ++ two ≡ old ++ ((first ++ one) ++ two) = simp append_assoc in
    all ∙ regroup ∙ ap (λ (text : List ℕ). old ++ text) (sym (pairs_more pairs i d within))

-- the next bucket
pub bucket_next : (rows : List BucketRow) (place : ℕ) (row : BucketRow) → place < length rows → row ≡ get_or rows place row
    → bucket_lines place (drop place (map filling_of rows)) ≡ bucket_text place (filling_of row) ++ bucket_lines (place + 1) (drop (place + 1) (map filling_of rows))
bucket_next rows place row within e =
    let there : place < length (map filling_of rows) = omega (arith, within, length-map rows filling_of) in
    ap (bucket_lines place) (drop_more (map filling_of rows) place (filling_of row) there)
    ∙ ap (λ (r : Filling). bucket_text place r ++ bucket_lines (place + 1) (drop (place + 1) (map filling_of rows))) (get_or-map filling_of rows place row (filling_of row) within ∙ ap filling_of (sym e))

pub bucket_over : (rows : List BucketRow) (place : ℕ) → length rows ≤ place → bucket_lines place (drop place (map filling_of rows)) ≡ []
bucket_over rows place past = ap (bucket_lines place) (drop_all place (map filling_of rows) (omega (arith, past, length-map rows filling_of)))

-- the next value that is left
pub queue_next : (items : List (ℕ × ℕ)) (place : ℕ) (d : ℕ × ℕ) → place < length items → queue_lines (drop place items) ≡ queue_line (get_or items place d).0 (get_or items place d).1 ++ queue_lines (drop (place + 1) items)
queue_next items place d within = ap queue_lines (drop_more items place d within)

pub queue_over : (items : List (ℕ × ℕ)) (place : ℕ) → length items ≤ place → queue_lines (drop place items) ≡ []
queue_over items place past = ap queue_lines (drop_all place items past)

-- the next row that is taken
pub used_next : (slots : List ℕ) (place : ℕ) → place < length slots → used_lines (drop place slots) ≡ used_line (get_or slots place 0) ++ used_lines (drop (place + 1) slots)
used_next slots place within = ap used_lines (drop_more slots place 0 within)

pub used_over : (slots : List ℕ) (place : ℕ) → length slots ≤ place → used_lines (drop place slots) ≡ []
used_over slots place past = ap used_lines (drop_all place slots past)
