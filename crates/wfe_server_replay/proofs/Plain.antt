-- Bytes before a line feed, taken at once, are taken as one after the other.
use Rattle.std.proofs.Common.{Bool, true, false, ℕ, ◌≡◌, ◌≢◌, ◌≤◌, ◌<◌, ◌+◌, ◌==◌, List, [], ◌∷◌, ◌++◌, suc, length, take, length-append, length-take-le, get_or, get_or-take, Option, None, Result, Ok, nat_le, refl, sym, ap, ap₂, ◌∙◌, arith, append_assoc, append-nil, if◌then◌else◌}
use Rattle.std.proofs.lemmas.Bool.Decides.{nat_tests}
use Rattle.wfe_server_out.specs.Pieces.{Piece}
use Rattle.wfe_trace.specs.declared.reason.BadLine.{BadLine}
use Rattle.wfe_trace.specs.declared.reason.Reason.{Reason}
use Rattle.wfe_server_replay.specs.Trace.{ArePlain, Engine, Progress, after_byte, after_bytes, after_good_byte, byte_output, byte_refused, bytes_output, good_byte_output, more_bytes, taken_by}

either_way : (reason : Option Reason) (t : Bool) → (if t then reason else reason) ≡ reason
either_way reason true = refl
either_way reason false = refl

not_feed : (b : ℕ) → b ≢ 10 → (b == 10) ≡ false
not_feed b h = grind (arith, nat_tests)

-- bytes that go to the line under way, and put nothing out
pub record GoToLine {S : Type 0} (E : Engine S) (p : Progress S) (bs : List ℕ) : Type 0 where
  pub after : after_bytes E (Ok p) bs ≡ Ok (more_bytes p bs)
  pub output : bytes_output E (Ok p) bs ≡ []

module _ {S : Type 0} (E : Engine S) where
  -- a byte for which there is room
  byte_fits : (p : Progress S) (b : ℕ) → p.count < 16777216 → p.ended ≡ false → length p.line < 200 → byte_refused p b ≡ None
  byte_fits p b few going short =
      let trace_has_room : nat_le 16777216 p.count ≡ false = grind (arith, nat_tests) in
      let line_has_room : nat_le 200 (length p.line) ≡ false = grind (arith, nat_tests) in
      rw (trace_has_room, going, line_has_room) (either_way None (b == 10))

  byte_more : (p : Progress S) (b : ℕ) → byte_refused p b ≡ None → b ≢ 10 → after_byte E p b ≡ Ok (more_bytes p (b ∷ []))
  byte_more p b good other = let feed = not_feed b other in ap (after_good_byte E p b) good ∙ rw feed refl

  byte_quiet : (p : Progress S) (b : ℕ) → byte_refused p b ≡ None → b ≢ 10 → byte_output E p b ≡ []
  byte_quiet p b good other = let feed = not_feed b other in ap (good_byte_output E p b) good ∙ rw feed refl

  -- bytes without a line feed, for which there is room
  go_to_line : (p : Progress S) (bs : List ℕ) → ((k : ℕ) → k < length bs → get_or bs k 0 ≢ 10) → length p.line + length bs ≤ 200 → p.count + length bs ≤ 16777216 → (0 < length bs → p.ended ≡ false) → GoToLine E p bs
  go_to_line p [] none short few going =
      let line : p.line ≡ p.line ++ [] = sym (append-nil p.line) in
      let count : p.count ≡ p.count + 0 = omega arith in
      record { after = λ i. Ok (record p { line = line i; count = count i }); output = refl }
  go_to_line p (b ∷ bs) none short few going =
      let on : p.ended ≡ false = going (omega arith) in
      let fits : byte_refused p b ≡ None = byte_fits p b (omega (arith, few)) on (omega (arith, short)) in
      let other : b ≢ 10 = none 0 (omega arith) in
      let first : after_byte E p b ≡ Ok (more_bytes p (b ∷ [])) = byte_more p b fits other in
      let next : Progress S = more_bytes p (b ∷ []) in
      let rest : GoToLine E next bs = go_to_line next bs (λ k l. none (suc k) (omega (arith, l))) (omega (arith, short, length-append p.line (b ∷ []))) (omega (arith, few)) (λ _. on) in
      let line : (p.line ++ b ∷ []) ++ bs ≡ p.line ++ b ∷ bs = append_assoc p.line (b ∷ []) bs in
      let count : p.count + 1 + length bs ≡ p.count + suc (length bs) = omega arith in
      record {
        after = ap (λ x. after_bytes E x bs) first ∙ rest.after ∙ (λ i. Ok (record p { line = line i; count = count i }));
        output = ap₂ (λ (xs ys : List Piece). xs ++ ys) (byte_quiet p b fits other) (ap (λ x. bytes_output E x bs) first ∙ rest.output);
      }

  -- the same of a trace's bytes and the engine beside them, where n of these bytes were taken
  plain_bytes : (p : Progress (Unit {0})) (engine : Option S) (bs : List ℕ) (n : ℕ) → ArePlain p bs n → GoToLine E (taken_by p engine) (take n bs)
  plain_bytes p engine bs n plain =
      let long : length (take n bs) ≡ n = length-take-le n bs plain.within in
      go_to_line (taken_by p engine) (take n bs) (λ k l e. plain.none k (omega (arith, l, long)) (sym (get_or-take n bs k 0 (omega (arith, l, long))) ∙ e))
      (omega (arith, long, plain.short)) (omega (arith, long, plain.few)) (λ some. plain.going (omega (arith, some, long)))

  pub plain_after : (q n : Progress (Unit {0})) (engine : Option S) (p : Progress S) (bs : List ℕ) (count : ℕ) → taken_by q engine ≡ p → ArePlain q bs count → n ≡ more_bytes q (take count bs) → after_bytes E (Ok p) (take count bs) ≡ Ok (taken_by n engine)
  plain_after q n engine p bs count is plain taken =
      ap (λ (x : Progress S). after_bytes E (Ok x) (take count bs)) (sym is) ∙ (plain_bytes q engine bs count plain).after
      ∙ ap (λ (x : Progress (Unit {0})). let good : Result (Progress S) BadLine = Ok (taken_by x engine) in good) (sym taken)

  pub plain_output : (q : Progress (Unit {0})) (engine : Option S) (p : Progress S) (bs : List ℕ) (count : ℕ) → taken_by q engine ≡ p → ArePlain q bs count → bytes_output E (Ok p) (take count bs) ≡ []
  plain_output q engine p bs count is plain = ap (λ (x : Progress S). bytes_output E (Ok x) (take count bs)) (sym is) ∙ (plain_bytes q engine bs count plain).output
