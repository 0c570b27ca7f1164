-- A fault that stopped the work: what was put out is a first part of what all bytes of the source give.
use Rattle.std.proofs.Common.{Bool, ℕ, ◌≡◌, inl, inr, List, [], ◌++◌, Option, Some, Result, Ok, Err, refl, sym, ap, ap₂, ◌∙◌, subst, append-nil, append_assoc}
use Rattle.std.specs.Io.KnownBytes.{IsAtEnd}
use Rattle.wfe_server_out.specs.Heard.{Hears, HearsSome, Seen}
use Rattle.wfe_server_out.specs.Pieces.{Piece, heard_of}
use Rattle.wfe_server_out.proofs.Hearing.{hears_along, hears_of_none}
use Rattle.wfe_trace.specs.declared.item.Mode.TheVariants as modes
use Rattle.wfe_trace.specs.declared.reason.BadLine.{BadLine}
use Rattle.wfe_server_replay.specs.Given.{keeper, partial_out}
use Rattle.wfe_server_replay.specs.Replay.{AreRows, IsFound, all_lines, came, closed_lines, whole, whole_output}
use Rattle.wfe_server_replay.specs.Sunk.{Outside, Puts, PutsPart, StopsAfter, StopsShort}
use Rattle.wfe_server_replay.specs.Trace.{Progress, after_bytes, bytes_output, closing, finished, last_output, output_of, progress_start, ◌>>=◌}
use Rattle.wfe_server_replay.proofs.Bytes.{after_bytes-append, after_bytes-bad, bytes_output-append, bytes_output-bad}
use Rattle.wfe_server_replay.proofs.Outs.{part_first, part_then}
use Rattle.wfe_server_replay.proofs.Parts.{all_output, closed_output}
use Rattle.wfe_outside.specs.defs.declared.call.Call.{Call}

-- the last lines tell of no event
pub closing_quiet : {S : Type 0} (watched : List ℕ) (r : Result (Progress S) BadLine) → heard_of (closing watched r) ≡ []
closing_quiet watched (Ok p) = refl
closing_quiet watched (Err bad) = refl

-- all lines were put out, and some of those after them
pub stops_after : {W : Type 0} (seen : Seen W) (found : Type 0) (lines last : List Piece) (old mid new : Outside W) → found → Puts seen old mid lines → heard_of last ≡ [] → PutsPart seen mid new last → StopsAfter seen found lines last old new
stops_after seen found lines last old mid new is put none part = record {
  is_found = is;
  heard = subst (Hears seen old.watchers new.watchers) (append-nil (heard_of lines))
      (hears_along seen old.watchers mid.watchers new.watchers (heard_of lines) [] put.heard (hears_of_none seen mid.watchers new.watchers (subst (HearsSome seen mid.watchers new.watchers) none part.heard)));
  put = part_then seen old mid new lines last put part;
}

-- the lines that were closed stand first in what all bytes give
closed_first : (makes : Call → Bool) (taken rest text : List ℕ) → (more : List Piece) × (whole_output makes text (taken ++ rest) ≡ partial_out (closed_lines makes taken) ++ more)
closed_first makes taken rest text =
    let later : List Piece = bytes_output (keeper makes) (came makes taken) rest in
    let last : List Piece = output_of (last_output (keeper makes)) (came makes (taken ++ rest)) in
    let end_ : List Piece = closing text (whole makes (taken ++ rest)) in
    let front : List Piece = partial_out (closed_lines makes taken) in
    let bytes : bytes_output (keeper makes) (Ok (progress_start modes.Replay)) (taken ++ rest) ≡ front ++ later =
    bytes_output-append (keeper makes) (Ok (progress_start modes.Replay)) taken rest ∙ ap (λ (t : List Piece). t ++ later) (closed_output makes taken) in
    let all : whole_output makes text (taken ++ rest) ≡ ((front ++ later) ++ last) ++ end_ =
    ap (λ (t : List Piece). t ++ end_) (sym (all_output makes (taken ++ rest))) ∙ ap (λ (t : List Piece). (t ++ last) ++ end_) bytes in
    let regroup : ((front ++ later) ++ last) ++ end_ ≡ front ++ (later ++ (last ++ end_)) = simp append_assoc in
    (later ++ (last ++ end_), all ∙ regroup)

-- more bytes after a bad one change nothing
record Same (makes : Call → Bool) (taken bytes : List ℕ) : Type 0 where
  lines : partial_out (all_lines makes bytes) ≡ partial_out (all_lines makes taken)
  whole_is : whole makes bytes ≡ whole makes taken

came_more : (makes : Call → Bool) (taken rest : List ℕ) (bad : BadLine) → came makes taken ≡ Err bad → came makes (taken ++ rest) ≡ came makes taken
came_more makes taken rest bad h =
    after_bytes-append (keeper makes) (Ok (progress_start modes.Replay)) taken rest ∙ ap (λ r. after_bytes (keeper makes) r rest) h ∙ after_bytes-bad (keeper makes) bad rest ∙ sym h

bytes_more : (makes : Call → Bool) (taken rest : List ℕ) (bad : BadLine) → came makes taken ≡ Err bad → bytes_output (keeper makes) (Ok (progress_start modes.Replay)) (taken ++ rest) ≡ bytes_output (keeper makes) (Ok (progress_start modes.Replay)) taken
bytes_more makes taken rest bad h =
    bytes_output-append (keeper makes) (Ok (progress_start modes.Replay)) taken rest
    ∙ ap (λ r. bytes_output (keeper makes) (Ok (progress_start modes.Replay)) taken ++ bytes_output (keeper makes) r rest) h
    ∙ ap (λ (t : List Piece). bytes_output (keeper makes) (Ok (progress_start modes.Replay)) taken ++ t) (bytes_output-bad (keeper makes) bad rest)
    ∙ append-nil (bytes_output (keeper makes) (Ok (progress_start modes.Replay)) taken)

same_after_bad : (makes : Call → Bool) (taken rest : List ℕ) (bad : BadLine) → came makes taken ≡ Err bad → Same makes taken (taken ++ rest)
same_after_bad makes taken rest bad h = record {
  lines = sym (all_output makes (taken ++ rest))
      ∙ ap₂ (λ (xs ys : List Piece). xs ++ ys) (bytes_more makes taken rest bad h) (ap (output_of (last_output (keeper makes))) (came_more makes taken rest bad h))
      ∙ all_output makes taken;
  whole_is = ap (λ r. r >>= finished (keeper makes)) (came_more makes taken rest bad h);
}

none_left : (left : Option (List ℕ)) (rest : List ℕ) → left ≡ Some rest → IsAtEnd left → rest ≡ []
none_left left rest e end_ = rw e at end_

at_end_all : (taken rest : List ℕ) (left : Option (List ℕ)) → left ≡ Some rest → IsAtEnd left → taken ++ rest ≡ taken
at_end_all taken rest left e end_ = ap (λ (xs : List ℕ). taken ++ xs) (none_left left rest e end_) ∙ append-nil taken

same_at_end : (makes : Call → Bool) (taken bytes : List ℕ) → bytes ≡ taken → Same makes taken bytes
same_at_end makes taken bytes e = record { lines = ap (λ (xs : List ℕ). partial_out (all_lines makes xs)) e; whole_is = ap (whole makes) e }

same_found : (makes : Call → Bool) (taken rest : List ℕ) (left : Option (List ℕ)) → left ≡ Some rest → IsFound makes taken left → Same makes taken (taken ++ rest)
same_found makes taken rest left e (inl (bad, h)) = same_after_bad makes taken rest bad h
same_found makes taken rest left e (inr end_) = same_at_end makes taken (taken ++ rest) (at_end_all taken rest left e end_)

-- where the work stopped in the lines after the others, the rows are those of watchers that heard all
stopped_after : (makes : Call → Bool) {W : Type 0} (seen : Seen W) (watched taken bytes text : List ℕ) (found : Type 0) (old new : Outside W) → Same makes taken bytes → AreRows makes seen watched text bytes old new →
    StopsAfter seen found (partial_out (all_lines makes taken)) (closing watched (whole makes taken)) old new → PutsPart seen old new (whole_output makes text bytes)
stopped_after makes seen watched taken bytes text found old new same rows s =
    let rows_are : text ≡ watched = rows (subst (λ (out : List Piece). Hears seen old.watchers new.watchers (heard_of out)) (sym same.lines) s.heard) in
    subst (PutsPart seen old new) (sym (ap₂ (λ (xs ys : List Piece). xs ++ ys) same.lines (ap₂ (λ (t : List ℕ) r. closing t r) rows_are same.whole_is))) s.put

pub stopped_all : (makes : Call → Bool) {W : Type 0} (seen : Seen W) (watched taken : List ℕ) (left : Option (List ℕ)) (old new : Outside W) →
    StopsShort seen (IsAtEnd left) (IsFound makes taken left) (partial_out (closed_lines makes taken)) (partial_out (all_lines makes taken)) (closing watched (whole makes taken)) old new →
    (rest text : List ℕ) → left ≡ Some rest → AreRows makes seen watched text (taken ++ rest) old new → PutsPart seen old new (whole_output makes text (taken ++ rest))
stopped_all makes seen watched taken left old new (inl part) rest text e rows =
    let first = closed_first makes taken rest text in
    subst (PutsPart seen old new) (sym first.1) (part_first seen old new (partial_out (closed_lines makes taken)) first.0 part)
stopped_all makes seen watched taken left old new (inr (inl (end_, part))) rest text e rows =
    subst (λ (bytes : List ℕ). PutsPart seen old new (whole_output makes text bytes)) (sym (at_end_all taken rest left e end_))
    (part_first seen old new (partial_out (all_lines makes taken)) (closing text (whole makes taken)) part)
stopped_all makes seen watched taken left old new (inr (inr s)) rest text e rows =
    stopped_after makes seen watched taken (taken ++ rest) text (IsFound makes taken left) old new (same_found makes taken rest left e s.is_found) rows s
