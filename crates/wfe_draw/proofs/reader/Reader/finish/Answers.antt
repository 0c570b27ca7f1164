use Rattle.std.proofs.Common.{sym, subst}
use Rattle.wfe_trace.specs.declared.reason.RecordReason.TheVariants as reasons
use Rattle.wfe_draw.specs.Readers.{IsWhy}
use Rattle.wfe_draw.proofs.Places.{at_first, ends_bad, ends_first, ends_on}
use Rattle.wfe_draw.proofs.Taking.{few_lines, why_bad}
use Rattle.wfe_draw.proofs.reader.Reader.finish.Goals as goal

pub returns-in-Err : goal.returns-in-Err
returns-in-Err c last taken h =
    let bad = c.in-Err.ensures last taken h in
    record { r = bad.r; text = bad.text; why = ends_bad c.in-Err.stop bad.r bad.why }

pub returns-in-First : goal.returns-in-First
returns-in-First c last taken h =
    let now = c.take_last.new.self in
    let end_ = c.in-Ok.ensures last taken h in
    record {
      r = end_.r;
      text = end_.text;
      why = subst (IsWhy c.bad.result) (sym (ends_first end_.r end_.whole end_.ends (at_first now.place end_.whole.told.stage c.in-First.is end_.reading.place)))
          (why_bad now.lines end_.whole reasons.Header c.bad.result end_.reading.lines (c.bad.ensures (few_lines last now end_.whole end_.reading)));
    }

pub returns-in_default : goal.returns-in_default
returns-in_default c last taken h =
    let end_ = c.in-Ok.ensures last taken h in (
      end_.p,
      record { r = end_.r; text = end_.text; whole = end_.whole; ends = ends_on end_.r end_.whole c.take_last.new.self.place end_.ends end_.reading.place c.in_default.not-First; up_to = end_.up_to },
      end_.shows,
    )
