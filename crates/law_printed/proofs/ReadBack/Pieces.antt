-- What pieces make of a record that is read, and the text from its first line to its last one.
use Rattle.std.proofs.Common.{ℕ, ◌≡◌, ◌≤◌, ◌+◌, ◌++◌, ◌∙◌, ◌⊎◌, inl, inr, List, [], ◌∷◌, length, Some, Ok, codes, refl, sym, ap, subst, arith, length-append}
use Rattle.std.specs.Fmt.{decimal}
use Rattle.std.proofs.lemmas.List.{append_cancel_right}
use Rattle.laws.specs.words.declared.config.Config.{Config}
use Rattle.laws.specs.defs.Entry.{Entry}
use Rattle.laws.specs.records.Record.{Past, tells}
use Rattle.laws.specs.records.Record.Past.{Start, Then}
use Rattle.wfe_trace.specs.Record.{event_line, event_words, header_line, seat_word, setting_words, spaced}
use Rattle.wfe_trace.specs.Words.{words}
use Rattle.wfe_trace.proofs.Lengths.{fits-in_range}
use Rattle.wfe_check_lines.specs.records.Entry.{IsEvent}
use Rattle.wfe_check_lines.specs.records.record_words.Within.{IsSeat, Small}
use Rattle.wfe_record_words.proofs.Headers.{header_known}
use Rattle.wfe_check_lines.specs.Kinds.{kind_in}
use Rattle.wfe_check_lines.specs.Reading.{Reading, Told, came, finished, nothing_told, reading_start, told_after, with_header, with_kind}
use Rattle.wfe_check_lines.specs.Reading.Stage.{Body, Over}
use Rattle.wfe_check_lines.specs.Texts.{IsCounts, IsKind, IsRow}
use Rattle.wfe_check_lines.specs.declared.kind.Kind.{Kind}
use Rattle.wfe_check_lines.specs.declared.kind.Kind.TheVariants as kinds
use Rattle.wfe_check_lines.specs.out.Pieces.{Piece, heard_of, text_of}
use Rattle.wfe_check_lines.specs.out.Pieces.Piece.{Text, Told as Says}
use Rattle.wfe_check_lines.proofs.Telling.{body_line}
use Rattle.wfe_check_lines.proofs.Texts.{kinds_are_texts}
use Rattle.law_printed.specs.ReadBack.Printed.{ArePrinted, AreShown, IsRead, IsWhole, PrintedIsRead, lines_text, past_of}
use Rattle.law_printed.proofs.ReadBack.Lines.{Comes, comes_count, comes_none, comes_then, line_comes}
use Rattle.law_printed.proofs.ReadBack.Ranges.{counted_fits, event_fits, seat_fits, small_in_range}
use Rattle.law_printed.proofs.ReadBack.Widths.{IsNarrow, counts_narrow, entry_narrow, header_narrow, row_narrow}

-- the record is in its body, with so many entries
abbrev within_body : ℕ → Config → Past → ℕ → Told
within_body version config entries count = record { stage = Body version config; entries = entries; count = count }

module _ (version : ℕ) (config : Config) (small : Small config) where
  -- a line of a kind
  kind_told : (told : Told) (line : List ℕ) (kind : Kind) (entries : Past) (count : ℕ) → told ≡ within_body version config entries count → IsKind version config line kind
      → told_after told line ≡ with_kind version config (within_body version config entries count) (Some kind)
  kind_told told line kind entries count is known =
      let found : Some kind ≡ kind_in version config (words line) = sym ((kinds_are_texts version config line kind small).1 known) in
      ap (λ t. told_after t line) is ∙ body_line (within_body version config entries count) line version config (Some kind) refl found

  counts_is : (line : List ℕ) → IsCounts line → IsNarrow 200 line
  counts_is line is =
      subst (IsNarrow 200) (append_cancel_right (codes "table" ++ spaced (seat_word is.seat ∷ codes "retired" ∷ decimal is.retired ∷ codes "back" ∷ decimal is.back ∷ codes "waiting" ∷ decimal is.waiting ∷ [])) line (codes "\n") is.text)
      (counts_narrow is.seat is.retired is.back is.waiting (counted_fits is.seat is.seated) is.retired_fits is.back_fits is.waiting_fits)

  row_is : (line : List ℕ) → IsRow line → IsNarrow 200 line
  row_is line is =
      subst (IsNarrow 200) (append_cancel_right (codes "watch" ++ spaced (decimal is.place ∷ decimal is.a ∷ decimal is.b ∷ decimal is.c ∷ [])) line (codes "\n") is.text)
      (row_narrow is.place is.a is.b is.c is.place_fits is.a_fits is.b_fits is.c_fits)

  shown_is : (line : List ℕ) → IsCounts line ⊎ IsRow line → IsNarrow 200 line
  shown_is line is = elim is [ inl counts ↦ counts_is line counts | inr row ↦ row_is line row ]

  shown_comes : (lines : List (List ℕ)) (r : Reading) (entries : Past) (count : ℕ) → AreShown lines → r.line ≡ [] → r.told ≡ within_body version config entries count → r.count + length (lines_text lines) ≤ 1073741824
      → Comes r (lines_text lines) (within_body version config entries count)
  shown_comes [] r entries count are line told few = comes_none r (within_body version config entries count) line told
  shown_comes (line ∷ lines) r entries count are empty told few =
      let now : Told = within_body version config entries count in
      let size : length (lines_text (line ∷ lines)) ≡ length line + 1 + length (lines_text lines) = simp length-append (omega arith) in
      let first : Comes r (line ++ codes "\n") now = line_comes r line now empty (shown_is line are.0) (omega (arith, size)) (kind_told r.told line kinds.Shown entries count told are.0) in
      let more : first.last.count ≡ r.count + length (line ++ codes "\n") = comes_count r (line ++ codes "\n") now first in
      let one : length (line ++ codes "\n") ≡ length line + 1 = simp length-append (omega arith) in
      comes_then r (line ++ codes "\n") (lines_text lines) now now first (shown_comes lines first.last entries count are.1 first.line first.told (omega (arith, size, more, one)))

  -- the line of an entry
  entry_comes : (r : Reading) (x : Entry) (entries : Past) (count : ℕ) → IsSeat config x.seat → IsEvent version config x.event → r.line ≡ [] → r.told ≡ within_body version config entries count
      → r.count + length (event_line x.seat x.event) ≤ 1073741824 → Comes r (event_line x.seat x.event) (within_body version config (Then entries x.seat x.event) (count + 1))
  entry_comes r x entries count seated is empty told few =
      let line : List ℕ = decimal x.seat ++ spaced (event_words x.event) in
      let one : length (line ++ codes "\n") ≡ length line + 1 = length-append line (codes "\n") in
      line_comes r line (within_body version config (Then entries x.seat x.event) (count + 1)) empty
      (entry_narrow x.seat x.event (seat_fits config small x.seat seated) (event_fits config small version x.event is)) (omega (arith, one))
      (kind_told r.told line (kinds.Entry x.seat x.event) entries count told (record { text = refl; seated = seated; within = is }))

  after_shown : (r : Reading) (bytes : List ℕ) (lines : List (List ℕ)) (entries : Past) (count : ℕ) → bytes ≡ lines_text lines → AreShown lines → r.line ≡ [] → r.told ≡ within_body version config entries count
      → r.count + length bytes ≤ 1073741824 → Comes r bytes (within_body version config entries count)
  after_shown r bytes lines entries count same are line told few =
      subst (λ t. Comes r t (within_body version config entries count)) (sym same) (shown_comes lines r entries count are line told (subst (λ (t : List ℕ). r.count + length t ≤ 1073741824) same few))

  pieces_come : (pieces : List Piece) (r : Reading) (entries : Past) (count : ℕ) → ArePrinted version config pieces → r.line ≡ [] → r.told ≡ within_body version config entries count → r.count + length (text_of pieces) ≤ 1073741824
      → Comes r (text_of pieces) (within_body version config (tells entries (heard_of pieces)) (count + length (heard_of pieces)))
  pieces_come [] r entries count are line told few =
      comes_none r (within_body version config entries (count + 0)) line (told ∙ ap (within_body version config entries) (omega arith))
  pieces_come (Text bytes ∷ pieces) r entries count are line told few =
      let now : Told = within_body version config entries count in
      let size : length (text_of (Text bytes ∷ pieces)) ≡ length bytes + length (text_of pieces) = length-append bytes (text_of pieces) in
      let first : Comes r bytes now = after_shown r bytes are.0.0 entries count are.0.1 are.0.2 line told (omega (arith, size)) in
      let more : first.last.count ≡ r.count + length bytes = comes_count r bytes now first in
      comes_then r bytes (text_of pieces) now (within_body version config (tells entries (heard_of pieces)) (count + length (heard_of pieces))) first
      (pieces_come pieces first.last entries count are.1 first.line first.told (omega (arith, size, more)))
  pieces_come (Says x ∷ pieces) r entries count are line told few =
      let bytes : List ℕ = event_line x.seat x.event in
      let now : Told = within_body version config (Then entries x.seat x.event) (count + 1) in
      let end_ : Past = tells (Then entries x.seat x.event) (heard_of pieces) in
      let size : length (text_of (Says x ∷ pieces)) ≡ length bytes + length (text_of pieces) = length-append bytes (text_of pieces) in
      let first : Comes r bytes now = entry_comes r x entries count are.0.0 are.0.1 line told (omega (arith, size)) in
      let more : first.last.count ≡ r.count + length bytes = comes_count r bytes now first in
      let later : Comes first.last (text_of pieces) (within_body version config end_ (count + 1 + length (heard_of pieces))) = pieces_come pieces first.last (Then entries x.seat x.event) (count + 1) are.1 first.line first.told (omega (arith, size, more)) in
      let counts : count + 1 + length (heard_of pieces) ≡ count + length (heard_of (Says x ∷ pieces)) = omega arith in
      comes_then r bytes (text_of pieces) now (within_body version config end_ (count + length (heard_of (Says x ∷ pieces)))) first
      (subst (λ (n : ℕ). Comes first.last (text_of pieces) (within_body version config end_ n)) counts later)

-- the first line
header_comes : (version : ℕ) (config : Config) (body : List Piece) (text : List ℕ) → IsWhole version config body text → length (header_line version config) ≤ 1073741824 → Comes reading_start (header_line version config) (within_body version config Start 0)
header_comes version config body text is few =
    let line : List ℕ = codes "record" ++ spaced (decimal version ∷ setting_words config) in
    let one : length (line ++ codes "\n") ≡ length line + 1 = length-append line (codes "\n") in
    let last = is.last in
    let read = header_known line version config (record { text = refl; first = is.first; last = is.last; within = is.within; pairs = is.pairs; known = is.known }) in
    line_comes reading_start line (within_body version config Start 0) refl (header_narrow version config (omega arith) (fits-in_range config is.within)) (omega (arith, one)) (ap (with_header nothing_told) read)

-- the last line
end_comes : (version : ℕ) (config : Config) → Small config → (r : Reading) (entries : Past) (count : ℕ) → r.line ≡ [] → r.told ≡ within_body version config entries (0 + count) → r.count + 5 ≤ 1073741824
    → Comes r (codes "done\n") (record { stage = Over version config; entries = entries; count = count })
end_comes version config small r entries count line told few =
    let same : 0 + count ≡ count = omega arith in
    line_comes r (codes "done") (record { stage = Over version config; entries = entries; count = count }) line (record { width = omega arith; unbroken = refl }) (omega arith)
    (kind_told version config small r.told (codes "done") kinds.Last entries count (told ∙ ap (within_body version config entries) same) (inl refl))

-- with nothing after the last line the reading ends as it stands
ends_over : (r : Reading) (version : ℕ) (config : Config) (entries : Past) (count : ℕ) → r.line ≡ [] → r.told ≡ record { stage = Over version config; entries = entries; count = count } → finished r ≡ Ok r
ends_over r version config entries count line told = rw (line, told) refl

-- the record is over, with the entries of the pieces
abbrev ended : ℕ → Config → List Piece → Told
ended version config body = record { stage = Over version config; entries = past_of body; count = length (heard_of body) }

whole_comes : (version : ℕ) (config : Config) (body : List Piece) (text : List ℕ) → IsWhole version config body text → Comes reading_start (header_line version config ++ (text_of body ++ codes "done\n")) (ended version config body)
whole_comes version config body text is =
    let small : Small config = small_in_range config is.within in
    let first : List ℕ = header_line version config in
    let rest : List ℕ = text_of body ++ codes "done\n" in
    let size : length text ≡ length first + (length (text_of body) + 5) = ap length is.is ∙ length-append first rest ∙ ap (λ (n : ℕ). length first + n) (length-append (text_of body) (codes "done\n")) in
    let short = is.short in
    let opened : Told = within_body version config Start 0 in
    let told : Told = within_body version config (past_of body) (0 + length (heard_of body)) in
    let a : Comes reading_start first opened = header_comes version config body text is (omega arith) in
    let a_count : a.last.count ≡ 0 + length first = comes_count reading_start first opened a in
    let b : Comes a.last (text_of body) told = pieces_come version config small body a.last Start 0 is.printed a.line a.told (omega (arith, a_count)) in
    let b_count : b.last.count ≡ a.last.count + length (text_of body) = comes_count a.last (text_of body) told b in
    let c : Comes b.last (codes "done\n") (ended version config body) =
    end_comes version config small b.last (past_of body) (length (heard_of body)) b.line b.told (omega (arith, a_count, b_count)) in
    comes_then reading_start first rest opened (ended version config body) a (comes_then a.last (text_of body) (codes "done\n") told (ended version config body) b c)

read_by : (version : ℕ) (config : Config) (body : List Piece) (text whole : List ℕ) → text ≡ whole → Comes reading_start whole (ended version config body) → IsRead version config body text
read_by version config body text whole same c = record {
  last = c.last;
  good_text = ap came same ∙ c.came;
  ends = ends_over c.last version config (past_of body) (length (heard_of body)) c.line c.told;
  told = c.told;
  line = c.line;
}

pub printed_read : PrintedIsRead
printed_read version config body text is = read_by version config body text (header_line version config ++ (text_of body ++ codes "done\n")) is.is (whole_comes version config body text is)
