-- What a reader stands for, as bytes come and the input ends.
use Rattle.std.proofs.Common.{ℕ, ◌≡◌, ◌∙◌, ◌≤◌, ◌<◌, ◌+◌, ◌==◌, ◌++◌, ◌∷◌, [], List, length, take, drop, get_or, nat_le, Bool, true, false, Result, Ok, Err, refl, sym, ap, subst, inl, inr, arith, append-nil, append_assoc, take-append-drop}
use Rattle.std.specs.Prelude.{if◌then◌else◌}
use Rattle.std.proofs.lemmas.Bool.Decides.{nat_tests}
use Rattle.std.proofs.lemmas.List.{take_more}
use Rattle.model_record.specs.Record.{Past}
use Rattle.wfe_check_lines.specs.Reading.{Reading, after_byte, after_line, after_last, at_stage, came, counted, finished, ◌then◌}
use Rattle.wfe_draw_lives.specs.declared.scene.Scene.{Scene}
use Rattle.wfe_draw.specs.Readers.{Holds, IsBadIn, HasLast, IsCut, IsReading, IsRefused, IsUpTo, IsWhy, LastIsBad, Stands, TakenLine, TakesByte, TakesLast, TakesLine}
use Rattle.wfe_draw.specs.declared.reader.Reader.{Reader}
use Rattle.wfe_draw.specs.declared.stop.Stop.{Stop}
use Rattle.wfe_draw.proofs.Bytes.{came_more}

up_to_all : (last : ℕ) (taken : List ℕ) (r : Reading) (p : Past) → IsUpTo last taken r p → r.lines ≤ last → p ≡ r.told.entries
up_to_all last taken r p (inl (le, e)) within = e
up_to_all last taken r p (inr cut) within = absurd (omega (arith, cut.past))

pub stands : (last : ℕ) (taken : List ℕ) (reader : Reader) (scene : Scene) → (h : Holds last taken reader scene) → Stands last reader scene h.r h.p
stands last taken reader scene h = record { reading = h.reading; shows = h.shows; all = up_to_all last taken h.r h.p h.up_to }

-- bytes that end no line
up_to_same : (last : ℕ) (taken more : List ℕ) (r q : Reading) (p : Past) → q.lines ≡ r.lines → q.told ≡ r.told → IsUpTo last taken r p → IsUpTo last (taken ++ more) q p
up_to_same last taken more r q p lines told (inl (le, e)) = inl (subst (λ n. n ≤ last) (sym lines) le, e ∙ ap (λ t. t.entries) (sym told))
up_to_same last taken more r q p lines told (inr cut) = inr (record {
  first = cut.first;
  rest = cut.rest ++ more;
  are = ap (λ l. l ++ more) cut.are ∙ append_assoc cut.first cut.rest more;
  before = cut.before;
  text = cut.text;
  lines = cut.lines;
  entries = cut.entries;
  past = subst (λ n. last < n) (sym lines) cut.past;
})

-- bytes that end a line, after a reading that differs in its counts of bytes alone
up_to_next : (last : ℕ) (taken more : List ℕ) (base r : Reading) (p : Past) (reader : Reader) (scene : Scene) (b : Bool) → (line : TakenLine last r p reader scene) → nat_le line.after.lines last ≡ b → came taken ≡ Ok base
    → base.lines ≡ r.lines → base.told ≡ r.told → base.lines ≤ last → p ≡ base.told.entries → IsUpTo last (taken ++ more) line.after line.now
up_to_next last taken more base r p reader scene true line e text lines told le same =
    let within : line.after.lines ≤ last = grind (arith, nat_tests) in
    inl (within, line.stands.all within)
up_to_next last taken more base r p reader scene false line e text lines told le same =
    let past : last < line.after.lines = grind (arith, nat_tests) in
    inr (record {
      first = taken;
      rest = more;
      are = refl;
      before = base;
      text = text;
      lines = omega (arith, past, line.lines, lines, le);
      entries = line.kept (omega (arith, past, line.lines, lines, le)) ∙ same;
      past = past;
    })

pub up_to_line : (last : ℕ) (taken more : List ℕ) (base r : Reading) (p : Past) (reader : Reader) (scene : Scene) → (line : TakenLine last r p reader scene) → came taken ≡ Ok base
    → base.lines ≡ r.lines → base.told ≡ r.told → IsUpTo last taken base p → IsUpTo last (taken ++ more) line.after line.now
up_to_line last taken more base r p reader scene line text lines told (inl (le, e)) =
    up_to_next last taken more base r p reader scene (nat_le line.after.lines last) line refl text lines told le e
up_to_line last taken more base r p reader scene line text lines told (inr cut) = inr (record {
  first = cut.first;
  rest = cut.rest ++ more;
  are = ap (λ l. l ++ more) cut.are ∙ append_assoc cut.first cut.rest more;
  before = cut.before;
  text = cut.text;
  lines = cut.lines;
  entries = line.kept (omega (arith, cut.past, lines)) ∙ cut.entries;
  past = omega (arith, cut.past, lines, line.lines);
})

-- the next byte, which ends a line
pub holds_line : (last : ℕ) (taken : List ℕ) (b : ℕ) (old new : Reader) (before after : Scene) → (h : Holds last taken old before) → after_byte h.r b ≡ after_line (counted h.r)
    → TakenLine last (counted h.r) h.p new after → Holds last (taken ++ b ∷ []) new after
holds_line last taken b old new before after h next line = record {
  r = line.after;
  text = came_more taken h.r line.after b h.text (next ∙ line.is);
  reading = line.stands.reading;
  p = line.now;
  up_to = up_to_line last taken (b ∷ []) h.r (counted h.r) h.p new after line h.text refl refl h.up_to;
  shows = line.stands.shows;
}

-- and one that does not
pub holds_more : (last : ℕ) (taken : List ℕ) (b : ℕ) (old new : Reader) (scene : Scene) → (h : Holds last taken old scene) → after_byte h.r b ≡ Ok (record (counted h.r) { line = h.r.line ++ b ∷ [] })
    → IsReading last new (record (counted h.r) { line = h.r.line ++ b ∷ [] }) → Holds last (taken ++ b ∷ []) new scene
holds_more last taken b old new scene h next reading = record {
  r = record (counted h.r) { line = h.r.line ++ b ∷ [] };
  text = came_more taken h.r (record (counted h.r) { line = h.r.line ++ b ∷ [] }) b h.text next;
  reading = reading;
  p = h.p;
  up_to = up_to_same last taken (b ∷ []) h.r (record (counted h.r) { line = h.r.line ++ b ∷ [] }) h.p refl refl h.up_to;
  shows = h.shows;
}

-- Bytes in a row.

cut_at : (xs : List ℕ) (i : ℕ) → i < length xs → xs ≡ take i xs ++ get_or xs i 0 ∷ drop (i + 1) xs
cut_at xs i within = sym (take-append-drop (i + 1) xs) ∙ ap (λ (t : List ℕ). t ++ drop (i + 1) xs) (take_more xs i 0 within) ∙ append_assoc (take i xs) (get_or xs i 0 ∷ []) (drop (i + 1) xs)

pub one_more : (taken bytes : List ℕ) (i : ℕ) → i < length bytes → (taken ++ take i bytes) ++ get_or bytes i 0 ∷ [] ≡ taken ++ take (i + 1) bytes
one_more taken bytes i within = append_assoc taken (take i bytes) (get_or bytes i 0 ∷ []) ∙ ap (λ (t : List ℕ). taken ++ t) (sym (take_more bytes i 0 within))

pub bad_at : (taken bytes : List ℕ) (i : ℕ) (stop : Stop) → i < length bytes → IsRefused (taken ++ take i bytes) (get_or bytes i 0) stop → IsBadIn (taken ++ bytes) stop
bad_at taken bytes i stop within refused = record {
  first = taken ++ take i bytes;
  byte = get_or bytes i 0;
  rest = drop (i + 1) bytes;
  are = ap (λ (t : List ℕ). taken ++ t) (cut_at bytes i within) ∙ sym (append_assoc taken (take i bytes) (get_or bytes i 0 ∷ drop (i + 1) bytes));
  refused = refused;
}

-- a byte that is counted, and is not in a line yet
counted_stands : (last : ℕ) (taken : List ℕ) (old new : Reader) (scene : Scene) → (h : Holds last taken old scene) → IsReading last new (counted h.r) → Stands last new scene (counted h.r) h.p
counted_stands last taken old new scene h reading = record { reading = reading; shows = h.shows; all = up_to_all last taken h.r h.p h.up_to }

took_line : {T : Type 0} (last : ℕ) (taken : List ℕ) (b : ℕ) (old new : Reader) (before after : Scene) (result : Result T Stop) → (h : Holds last taken old before) → after_byte h.r b ≡ after_line (counted h.r)
    → TakesLine last result (counted h.r) h.p new after → TakesByte last result taken b new after
took_line last taken b old new before after (Ok x) h next line = holds_line last taken b old new before after h next line
took_line last taken b old new before after (Err stop) h next why = record { before = h.r; text = h.text; why = subst (IsWhy stop) (sym next) why }

-- the line that it ends was taken
pub takes_line : {T : Type 0} (last : ℕ) (taken : List ℕ) (b : ℕ) (old now new : Reader) (before after : Scene) (result : Result T Stop) → (h : Holds last taken old before) → IsReading last now (counted h.r)
    → after_byte h.r b ≡ after_line (counted h.r) → (h.r.lines < h.r.count + 1 → Stands last now before (counted h.r) h.p → TakesLine last result (counted h.r) h.p new after) → TakesByte last result taken b new after
takes_line last taken b old now new before after result h reading next takes =
    took_line last taken b old new before after result h next (takes (omega (arith, h.reading.within)) (counted_stands last taken old now before h reading))

-- The input ends.

pub last_none : (r : Reading) (line : List ℕ) → line ≡ r.line → (length line == 0) ≡ true → after_last r ≡ Ok r
last_none r line same e = ap (λ (t : Bool). if t then Ok r else after_line r) (ap (λ l. length l == 0) (sym same) ∙ e)

last_some : (r : Reading) (line : List ℕ) → line ≡ r.line → (length line == 0) ≡ false → after_last r ≡ after_line r
last_some r line same e = ap (λ (t : Bool). if t then Ok r else after_line r) (ap (λ l. length l == 0) (sym same) ∙ e)

some : (line : List ℕ) → (length line == 0) ≡ false → 1 ≤ length line
some line e = grind (arith, nat_tests)

took_last : {T : Type 0} (last : ℕ) (taken : List ℕ) (old new : Reader) (before after : Scene) (result : Result T Stop) → (h : Holds last taken old before) → after_last h.r ≡ after_line h.r
    → TakesLine last result h.r h.p new after → TakesLast last result taken new after
took_last last taken old new before after (Ok x) h is line = record {
  r = h.r;
  text = h.text;
  whole = line.after;
  ends = is ∙ line.is;
  reading = line.stands.reading;
  p = line.now;
  up_to = subst (λ bytes. IsUpTo last bytes line.after line.now) (append-nil taken) (up_to_line last taken [] h.r h.r h.p new after line h.text refl refl h.up_to);
  shows = line.stands.shows;
}
took_last last taken old new before after (Err stop) h is why = record { r = h.r; text = h.text; why = subst (IsWhy stop) (sym is) why }

-- the last line was taken, which has no line feed
pub takes_last : {T : Type 0} (last : ℕ) (taken : List ℕ) (old new : Reader) (before after : Scene) (result : Result T Stop) → (h : Holds last taken old before) → (length old.line.items == 0) ≡ false
    → (h.r.lines < h.r.count → Stands last old before h.r h.p → TakesLine last result h.r h.p new after) → TakesLast last result taken new after
takes_last last taken old new before after result h e takes =
    let filled : 1 ≤ length h.r.line = subst (λ l. 1 ≤ length l) h.reading.line (some old.line.items e) in
    took_last last taken old new before after result h (last_some h.r old.line.items h.reading.line e) (takes (omega (arith, h.reading.within, filled)) (stands last taken old before h))
