-- What a reader makes of a whole line, and of one byte.
use Rattle.std.proofs.Common.{Bool, true, false, ℕ, ◌≡◌, ◌≤◌, ◌<◌, ◌+◌, ◌==◌, List, [], ◌∷◌, ◌++◌, length, Option, Some, None, Ok, Err, nat_le, refl, sym, ap, subst, ◌∙◌, arith, length-append}
use Rattle.std.proofs.lemmas.Bool.Decides.{nat_tests}
use Rattle.std.specs.Prelude.{if◌then◌else◌}
use Rattle.laws.specs.records.Record.{Past}
use Rattle.wfe_words.specs.declared.config.Config.{Config}
use Rattle.wfe_trace.specs.declared.reason.RecordReason.{RecordReason}
use Rattle.wfe_check_lines.specs.Progress.{IsAt, IsRefused, Tells}
use Rattle.wfe_check_lines.specs.Reading.{Reading, after_byte, after_good_byte, after_line, bad_line, byte_refused, counted, told_after, with_line}
use Rattle.wfe_check_lines.specs.Readers.{IsReading, stop_at}
use Rattle.wfe_check_lines.specs.Stops.{IsWhy}
use Rattle.wfe_check_lines.specs.declared.reader.Reader.{Reader}
use Rattle.wfe_check_lines.specs.declared.stops.Refusal.{Refusal}
use Rattle.wfe_check_lines.specs.declared.stops.Refusal.TheVariants as refusals

-- a line that is refused is why no more is taken
pub refused_why : (r : Reading) (line : List ℕ) (refusal : Refusal) → line ≡ r.line → IsRefused refusal (told_after r.told line) → IsWhy (stop_at r.lines refusal) (after_line r)
refused_why r line (refusals.Bad reason) same e = ap (with_line r) (ap (told_after r.told) (sym same) ∙ e)
refused_why r line refusals.Unlawful same (after, e, bad) = (
  record r { line = []; lines = r.lines + 1; told = after },
  ap (with_line r) (ap (told_after r.told) (sym same) ∙ e),
  bad,
  refl,
)
refused_why r line refusals.NoMemory same e = tt

-- so many entries more, none or one, are no more than one line more
few_more : (more : Bool) (n lines : ℕ) → n ≤ lines → (if more then n + 1 else n) ≤ lines + 1
few_more true n lines h = omega (arith, h)
few_more false n lines h = omega (arith, h)

module _ {J : Type 0} (judges : ℕ → Config → J → Past → Type 0) where
  -- a line that is taken
  pub line_taken : (new : Reader J) (r : Reading) (more : Bool) → r.count ≤ 1073741824 → r.lines < r.count → r.told.count ≤ r.lines → new.line.items ≡ [] → new.count ≡ r.count → new.lines ≡ r.lines + 1 → new.entries ≡ (if more then r.told.count + 1 else r.told.count)
      → Tells judges (Ok more) r.told (told_after r.told r.line) new.place → (after : Reading) × (after_line r ≡ Ok after) × IsReading judges new after
  line_taken new r more few room fewer line count lines entries (after, e, at, counts) = (
    record r { line = []; lines = r.lines + 1; told = after },
    ap (with_line r) e,
    record {
      line = line;
      count = count;
      few = few;
      lines = lines;
      within = omega (arith, room);
      entries = entries ∙ sym counts;
      fewer = subst (λ (n : ℕ). n ≤ r.lines + 1) (sym counts) (few_more more r.told.count r.lines fewer);
      place = at;
    },
  )

  -- the line under way is taken
  pub line_takes : (old new : Reader J) (r : Reading) (more : Bool) → IsReading judges old r → r.lines < r.count → new.line.items ≡ [] → new.count ≡ old.count → new.lines ≡ old.lines + 1 → new.entries ≡ (if more then old.entries + 1 else old.entries)
      → Tells judges (Ok more) r.told (told_after r.told old.line.items) new.place → (after : Reading) × (after_line r ≡ Ok after) × IsReading judges new after
  line_takes old new r more is room line count lines entries told =
      line_taken new r more is.few room is.fewer line (count ∙ is.count) (lines ∙ ap (λ (n : ℕ). n + 1) is.lines) (entries ∙ ap (λ (n : ℕ). if more then n + 1 else n) is.entries)
      (subst (λ (l : List ℕ). Tells judges (Ok more) r.told (told_after r.told l) new.place) is.line told)

  not_long : (r : Reading) (b : ℕ) (long : Bool) → nat_le 1073741824 r.count ≡ long → byte_refused r b ≡ None → r.count + 1 ≤ 1073741824
  not_long r b true e h = absurd (let refused = rw e at h in cc)
  not_long r b false e h = grind (arith, nat_tests)

  -- a byte that is not refused is no more than a record may have
  pub room_for : (r : Reading) (b : ℕ) → byte_refused r b ≡ None → r.count + 1 ≤ 1073741824
  room_for r b h = not_long r b (nat_le 1073741824 r.count) refl h

  -- one byte is counted
  pub counted_reading : (old new : Reader J) (r : Reading) (b : ℕ) → byte_refused r b ≡ None → IsReading judges old r → new.line ≡ old.line → new.count ≡ old.count + 1 → new.lines ≡ old.lines → new.entries ≡ old.entries → new.place ≡ old.place → IsReading judges new (counted r)
  counted_reading old new r b fits is line count lines entries place = record {
    line = ap (λ l. l.items) line ∙ is.line;
    count = count ∙ ap (λ (n : ℕ). n + 1) is.count;
    few = room_for r b fits;
    lines = lines ∙ is.lines;
    within = omega (arith, is.within);
    entries = entries ∙ is.entries;
    fewer = is.fewer;
    place = subst (λ p. IsAt judges p r.told.stage r.told.entries) (sym place) is.place;
  }

  -- and goes to the line under way
  pub pushed_reading : (old new : Reader J) (r : Reading) (b : ℕ) → IsReading judges old (counted r) → (r.lines + length r.line ≤ r.count) → new.line.items ≡ old.line.items ++ b ∷ [] → new.count ≡ old.count → new.lines ≡ old.lines → new.entries ≡ old.entries → new.place ≡ old.place
      → IsReading judges new (record (counted r) { line = r.line ++ b ∷ [] })
  pushed_reading old new r b is within line count lines entries place = record {
    line = line ∙ ap (λ (t : List ℕ). t ++ b ∷ []) is.line;
    count = count ∙ is.count;
    few = is.few;
    lines = lines ∙ is.lines;
    within = omega (arith, within, length-append r.line (b ∷ []));
    entries = entries ∙ is.entries;
    fewer = is.fewer;
    place = subst (λ p. IsAt judges p r.told.stage r.told.entries) (sym place) is.place;
  }

refused_by : (r : Reading) (b : ℕ) (o : Option RecordReason) (reason : RecordReason) → o ≡ Some reason → after_good_byte r b o ≡ Err (bad_line r reason)
refused_by r b o reason e = ap (after_good_byte r b) e

-- a byte that is refused
pub byte_bad : (r : Reading) (b : ℕ) (reason : RecordReason) → byte_refused r b ≡ Some reason → after_byte r b ≡ Err (bad_line r reason)
byte_bad r b reason e = refused_by r b (byte_refused r b) reason e

-- a line feed
pub byte_feed : (r : Reading) (b : ℕ) → byte_refused r b ≡ None → b ≡ 10 → after_byte r b ≡ after_line (counted r)
byte_feed r b e feed = ap (after_good_byte r b) e ∙ rw feed refl

not_feed : (b : ℕ) → (b ≡ 10 → ⊥) → (b == 10) ≡ false
not_feed b h = grind (arith, nat_tests)

-- another byte
pub byte_more : (r : Reading) (b : ℕ) → byte_refused r b ≡ None → (b ≡ 10 → ⊥) → after_byte r b ≡ Ok (record (counted r) { line = r.line ++ b ∷ [] })
byte_more r b e other = let feed = not_feed b other in ap (after_good_byte r b) e ∙ rw feed refl
