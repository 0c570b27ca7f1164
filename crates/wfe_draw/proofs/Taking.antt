-- A reader that takes a byte or a line.
use Rattle.std.proofs.Common.{ℕ, ◌≡◌, ◌∙◌, ◌≤◌, ◌<◌, ◌+◌, ◌^◌, ◌++◌, ◌∷◌, [], List, length, length-append, nat_le, Bool, true, false, Ok, Err, refl, sym, ap, subst, arith}
use Rattle.std.specs.Prelude.{if◌then◌else◌}
use Rattle.std.proofs.lemmas.Bool.Decides.{nat_tests}
use Rattle.model_record.specs.Record.{Past}
use Rattle.model_record.specs.Record.Past.{Then}
use Rattle.wfe_defs.specs.declared.event.Event.{Event}
use Rattle.wfe_trace.specs.declared.reason.RecordReason.{RecordReason}
use Rattle.wfe_check_lines.specs.Reading.{Reading, Told, after_line, bad_line, counted, told_after, with_line}
use Rattle.wfe_draw_lives.specs.Lives.{count_in}
use Rattle.wfe_draw_lives.specs.Scenes.{Shows}
use Rattle.wfe_draw_lives.specs.declared.scene.Scene.{Scene}
use Rattle.wfe_draw.specs.Lines.{IsAt}
use Rattle.wfe_draw.specs.Readers.{IsReading, IsWhy, Stands, TakenLine, noted, NamesNone}
use Rattle.wfe_draw.specs.declared.reader.Reader.{Reader}
use Rattle.wfe_draw.specs.declared.stop.Stop.{Stop}
use Rattle.wfe_draw.specs.declared.stop.Stop.TheVariants as stops

pub few_lines : (last : ℕ) (reader : Reader) (r : Reading) → IsReading last reader r → reader.lines < 2 ^ 32
few_lines last reader r is = omega (arith, is.lines, is.within, is.few)

pub few_entries : (last : ℕ) (reader : Reader) (r : Reading) → IsReading last reader r → reader.entries < 2 ^ 32
few_entries last reader r is = omega (arith, is.entries, is.fewer, is.within, is.few)

pub few_bytes : (last : ℕ) (reader : Reader) (r : Reading) → IsReading last reader r → reader.bytes < 2 ^ 31
few_bytes last reader r is = omega (arith, is.bytes, is.few)

-- the line under way is bad
pub why_bad : (lines : ℕ) (r : Reading) (reason : RecordReason) (stop : Stop) → lines ≡ r.lines → stop ≡ stops.BadRecord (lines + 1) reason → IsWhy stop (Err (bad_line r reason))
why_bad lines r reason stop same e = subst (λ s. IsWhy s (Err (bad_line r reason))) (sym (e ∙ ap (λ n. stops.BadRecord (n + 1) reason) same)) refl

pub counted_reading : (last : ℕ) (old new : Reader) (r : Reading) → IsReading last old r → r.count < 1073741824 → new.line ≡ old.line → new.bytes ≡ old.bytes + 1 → new.lines ≡ old.lines → new.entries ≡ old.entries
    → new.place ≡ old.place → new.part ≡ old.part → IsReading last new (counted r)
counted_reading last old new r is room line bytes lines entries place part = record {
  line = ap (λ l. l.items) line ∙ is.line;
  bytes = bytes ∙ ap (λ (n : ℕ). n + 1) is.bytes;
  few = omega (arith, room);
  lines = lines ∙ is.lines;
  within = omega (arith, is.within);
  entries = entries ∙ is.entries;
  fewer = is.fewer;
  place = subst (λ p. IsAt p r.told.stage) (sym place) is.place;
  end = ap (λ p. p.last) part ∙ is.end;
}

pub pushed_reading : (last : ℕ) (old new : Reader) (r : Reading) (b : ℕ) → IsReading last old (counted r) → r.lines + length r.line ≤ r.count → new.line.items ≡ old.line.items ++ b ∷ [] → new.bytes ≡ old.bytes → new.lines ≡ old.lines
    → new.entries ≡ old.entries → new.place ≡ old.place → new.part ≡ old.part → IsReading last new (record (counted r) { line = r.line ++ b ∷ [] })
pushed_reading last old new r b is within line bytes lines entries place part = record {
  line = line ∙ ap (λ (t : List ℕ). t ++ b ∷ []) is.line;
  bytes = bytes ∙ is.bytes;
  few = is.few;
  lines = lines ∙ is.lines;
  within = omega (arith, within, length-append r.line (b ∷ []));
  entries = entries ∙ is.entries;
  fewer = is.fewer;
  place = subst (λ p. IsAt p r.told.stage) (sym place) is.place;
  end = ap (λ p. p.last) part ∙ is.end;
}

-- a whole line was taken
pub line_taken : (last : ℕ) (old new : Reader) (scene : Scene) (r : Reading) (p now : Past) (after : Told) → IsReading last old r → r.lines < r.count → told_after r.told old.line.items ≡ Ok after
    → new.line.items ≡ [] → new.bytes ≡ old.bytes → new.lines ≡ old.lines + 1 → new.entries ≡ count_in after.entries → count_in after.entries ≤ r.lines + 1 → IsAt new.place after.stage → new.part ≡ old.part
    → Shows scene now → (r.lines + 1 ≤ last → now ≡ after.entries) → (last ≤ r.lines → now ≡ p) → TakenLine last r p new scene
line_taken last old new scene r p now after is room told line bytes lines entries fewer place part shows all kept = record {
  after = record r { line = []; lines = r.lines + 1; told = after };
  is = ap (with_line r) (ap (told_after r.told) (sym is.line) ∙ told);
  lines = refl;
  now = now;
  stands = record {
    reading = record {
      line = line;
      bytes = bytes ∙ is.bytes;
      few = is.few;
      lines = lines ∙ ap (λ (n : ℕ). n + 1) is.lines;
      within = omega (arith, room);
      entries = entries;
      fewer = fewer;
      place = place;
      end = ap (λ p. p.last) part ∙ is.end;
    };
    shows = shows;
    all = all;
  };
  kept = kept;
}

-- or is bad
pub line_bad : (last : ℕ) (old : Reader) (r : Reading) (reason : RecordReason) (stop : Stop) → IsReading last old r → told_after r.told old.line.items ≡ Err reason → stop ≡ stops.BadRecord (old.lines + 1) reason → IsWhy stop (after_line r)
line_bad last old r reason stop is told e =
    subst (IsWhy stop) (sym (ap (with_line r) (ap (told_after r.told) (sym is.line) ∙ told))) (why_bad old.lines r reason stop is.lines e)

-- What is noted of an entry on the next line.

noted_all : (last line : ℕ) (p q : Past) (seat : ℕ) (event : Event) (b : Bool) → nat_le line last ≡ b → line ≤ last → p ≡ q → noted last line p seat event ≡ Then q seat event
noted_all last line p q seat event true e le same = ap (λ (t : Bool). if t then Then p seat event else p) e ∙ ap (λ (x : Past). Then x seat event) same
noted_all last line p q seat event false e le same = absurd (grind (arith, nat_tests))

noted_none : (last line : ℕ) (p : Past) (seat : ℕ) (event : Event) (b : Bool) → nat_le line last ≡ b → last < line → noted last line p seat event ≡ p
noted_none last line p seat event true e lt = absurd (grind (arith, nat_tests))
noted_none last line p seat event false e lt = ap (λ (t : Bool). if t then Then p seat event else p) e

pub notes : (last line : ℕ) (p q : Past) (seat : ℕ) (event : Event) → line ≤ last → p ≡ q → noted last line p seat event ≡ Then q seat event
notes last line p q seat event le same = noted_all last line p q seat event (nat_le line last) refl le same

pub notes_none : (last line : ℕ) (p : Past) (seat : ℕ) (event : Event) → last < line → noted last line p seat event ≡ p
notes_none last line p seat event lt = noted_none last line p seat event (nat_le line last) refl lt

-- memory ran out, or there is too much to draw
pub nothing_why : (stop : Stop) (r : Reading) → NamesNone stop → IsWhy stop (after_line r)
nothing_why stops.NoMemory r h = tt
nothing_why (stops.BadRecord line reason) r h = absurd h
nothing_why stops.TooLarge r h = tt
