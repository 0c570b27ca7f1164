use Rattle.std.proofs.Common.{◌≡◌, ◌∙◌, ◌≤◌, ◌<◌, ◌+◌, ◌^◌, length, ap, refl, sym, subst, arith}
use Rattle.wfe_check_lines.specs.Reading.{after_byte, counted}
use Rattle.wfe_draw.specs.Readers.{IsReading, IsWhy, TakesByte}
use Rattle.wfe_draw.proofs.Bytes.{feed, long_line, long_record, more}
use Rattle.wfe_draw.proofs.Holding.{holds_more, takes_line}
use Rattle.wfe_draw.proofs.Taking.{counted_reading, few_bytes, few_lines, pushed_reading, why_bad}
use Rattle.wfe_draw.proofs.reader.Reader.take_byte.Goals as goal

pub returns-then-is_full : goal.returns-then-is_full
returns-then-is_full c last taken h =
    let old = c.args.self.now in
    let full : 1073741824 ≤ h.r.count = omega (arith, c.if-is_full.true, h.reading.bytes) in
    record {
      before = h.r;
      text = h.text;
      why = subst (IsWhy c.bad.result) (sym (long_record h.r c.args.byte full)) (why_bad old.lines h.r _ c.bad.result h.reading.lines (c.bad.ensures (few_lines last old h.r h.reading)));
    }

pub returns-then-byte-eq10 : goal.returns-then-byte-eq10
returns-then-byte-eq10 c last taken h =
    let old = c.args.self.now in
    let new = c.count_byte.new.self in
    let room : h.r.count < 1073741824 = omega (arith, c.if-is_full.false, h.reading.bytes) in
    let here : IsReading last new (counted h.r) =
    counted_reading last old new h.r h.reading room c.count_byte.ensures.line (c.count_byte.ensures.bytes (few_bytes last old h.r h.reading)) c.count_byte.ensures.lines c.count_byte.ensures.entries c.count_byte.ensures.place c.count_byte.ensures.part in
    takes_line last taken c.args.byte old new c.take_line.new.self c.args.scene.now c.take_line.new.scene c.take_line.result h here (feed h.r c.args.byte room c.if-byte-eq10.true) (c.take_line.ensures last (counted h.r) h.p)

pub returns-in-Ok : goal.returns-in-Ok
returns-in-Ok c last taken h =
    let old = c.args.self.now in
    let new = c.count_byte.new.self in
    let room : h.r.count < 1073741824 = omega (arith, c.if-is_full.false, h.reading.bytes) in
    let here : IsReading last new (counted h.r) =
    counted_reading last old new h.r h.reading room c.count_byte.ensures.line (c.count_byte.ensures.bytes (few_bytes last old h.r h.reading)) c.count_byte.ensures.lines c.count_byte.ensures.entries c.count_byte.ensures.place c.count_byte.ensures.part in
    let same : new.line.items ≡ h.r.line = ap (λ l. l.items) c.count_byte.ensures.line ∙ h.reading.line in
    let short : length h.r.line < 200 = subst (λ l. length l < 200) same (c.in-Ok.ensures.variant.0 refl) in
    holds_more last taken c.args.byte old _ c.args.scene.now h (more h.r c.args.byte room c.if-byte-eq10.false short) (pushed_reading last new _ h.r c.args.byte here h.reading.within c.in-Ok.ensures.ok refl refl refl refl refl)

pub returns-in-Err : goal.returns-in-Err
returns-in-Err c last taken h =
    let old = c.args.self.now in
    let new = c.count_byte.new.self in
    let room : h.r.count < 1073741824 = omega (arith, c.if-is_full.false, h.reading.bytes) in
    let same : new.line.items ≡ h.r.line = ap (λ l. l.items) c.count_byte.ensures.line ∙ h.reading.line in
    let full : 200 ≤ length h.r.line = subst (λ l. 200 ≤ length l) same (omega (arith, c.in-Err.ensures.full)) in
    let lines : new.lines ≡ h.r.lines = c.count_byte.ensures.lines ∙ h.reading.lines in
    let few : new.lines < 2 ^ 32 = omega (arith, lines, h.reading.within, h.reading.few) in
    record {
      before = h.r;
      text = h.text;
      why = subst (IsWhy c.bad-in-Err.result) (sym (long_line h.r c.args.byte room c.if-byte-eq10.false full)) (why_bad new.lines h.r _ c.bad-in-Err.result lines (c.bad-in-Err.ensures few));
    }
