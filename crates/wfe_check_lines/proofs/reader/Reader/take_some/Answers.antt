use Rattle.std.proofs.Common.{◌∙◌, refl, arith, length-take-le}
use Rattle.wfe_check_lines.proofs.Bytes.{stops_at}
use Rattle.wfe_check_lines.proofs.Standing.{stands_good}
use Rattle.wfe_check_lines.proofs.Whole.{stops_at_feed, with_feed}
use Rattle.wfe_check_lines.proofs.reader.Reader.take_some.Goals as goal

pub returns-in-Ok-clause-taken : goal.returns-in-Ok-clause-taken
returns-in-Ok-clause-taken g c r is =
    let begins = c.in-Some.ensures.begins r is in
    let long = length-take-le c.in-Some.at c.args.bytes.now (omega (arith, begins.within)) in
    let (x, e, stands) = c.in-Ok.ensures r is begins.none (omega (arith, begins.few, long)) in
    (x, with_feed r c.args.bytes.now c.in-Some.at begins ∙ e, stands)

pub returns-in-Err-clause-taken : goal.returns-in-Err-clause-taken
returns-in-Err-clause-taken g c r is =
    let begins = c.in-Some.ensures.begins r is in
    let long = length-take-le c.in-Some.at c.args.bytes.now (omega (arith, begins.within)) in
    stops_at_feed r c.args.bytes.now c.in-Some.at begins c.in-Err.stop (stands_good g.J.Judge.judges g.J.Judge.good c.args.self.now r is) (c.in-Err.ensures r is begins.none (omega (arith, begins.few, long)))

pub returns-in-Err-take_byte-clause-taken : goal.returns-in-Err-take_byte-clause-taken
returns-in-Err-take_byte-clause-taken g c r is =
    stops_at r r c.args.bytes.now 0 c.in-Err-take_byte.stop c.requires.bytes refl (stands_good g.J.Judge.judges g.J.Judge.good c.args.self.now r is) (c.in-Err-take_byte.ensures r is)
