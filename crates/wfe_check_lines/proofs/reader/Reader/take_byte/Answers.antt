use Rattle.std.proofs.Common.{◌≡◌, ◌<◌, ◌+◌, ◌++◌, ◌∷◌, [], ◌^◌, ◌∙◌, None, sym, refl, arith, subst}
use Rattle.wfe_check_lines.specs.Reading.{byte_refused, counted}
use Rattle.wfe_check_lines.specs.Readers.{IsReading, Takes}
use Rattle.wfe_check_lines.proofs.Lines.{byte_feed, byte_more, counted_reading, pushed_reading}
use Rattle.wfe_check_lines.proofs.reader.Reader.take_byte.Goals as goal

pub take_line-requires : goal.take_line-requires
take_line-requires g c =
    let (r, is) = c.requires.some in
    let fits : byte_refused r c.args.byte ≡ None = sym (c.refused.ensures r is) ∙ c.in_default.is in
    let few : c.args.self.now.count < 2 ^ 31 = omega (arith, is.count, is.few) in
    record { some = (counted r, counted_reading g.J.Judge.judges c.args.self.now c.count_byte.new.self r c.args.byte fits is c.count_byte.ensures.line (c.count_byte.ensures.count few) c.count_byte.ensures.lines c.count_byte.ensures.entries c.count_byte.ensures.place) }

pub returns-then-byte-eq10 : goal.returns-then-byte-eq10
returns-then-byte-eq10 g c r is =
    let fits : byte_refused r c.args.byte ≡ None = sym (c.refused.ensures r is) ∙ c.in_default.is in
    let few : c.args.self.now.count < 2 ^ 31 = omega (arith, is.count, is.few) in
    let here : IsReading g.J.Judge.judges c.count_byte.new.self (counted r) =
    counted_reading g.J.Judge.judges c.args.self.now c.count_byte.new.self r c.args.byte fits is c.count_byte.ensures.line (c.count_byte.ensures.count few) c.count_byte.ensures.lines c.count_byte.ensures.entries c.count_byte.ensures.place in
    let room : r.lines < r.count + 1 = omega (arith, is.within) in
    subst (λ x. Takes g.J.Judge.judges c.take_line.result x c.take_line.new.self) (sym (byte_feed r c.args.byte fits c.if-byte-eq10.true)) (c.take_line.ensures (counted r) here room)

pub returns : goal.returns
returns g c r is =
    let fits : byte_refused r c.args.byte ≡ None = sym (c.refused.ensures r is) ∙ c.in_default.is in
    let few : c.args.self.now.count < 2 ^ 31 = omega (arith, is.count, is.few) in
    let here : IsReading g.J.Judge.judges c.count_byte.new.self (counted r) =
    counted_reading g.J.Judge.judges c.args.self.now c.count_byte.new.self r c.args.byte fits is c.count_byte.ensures.line (c.count_byte.ensures.count few) c.count_byte.ensures.lines c.count_byte.ensures.entries c.count_byte.ensures.place in
    (record (counted r) { line = r.line ++ c.args.byte ∷ [] }, byte_more r c.args.byte fits c.if-byte-eq10.false, pushed_reading g.J.Judge.judges c.count_byte.new.self _ r c.args.byte here is.within c.push.ensures.items refl refl refl refl)
