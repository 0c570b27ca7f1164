use Rattle.std.proofs.Common.{sym, subst, ◌∙◌}
use Rattle.wfe_check_lines.specs.Ends.{Ends, Reads}
use Rattle.wfe_check_lines.specs.Reading.{reading_start}
use Rattle.wfe_check_lines.proofs.Standing.{ended_reads, never_fault, stopped_reads, unread_reads, whole_reads}
use Rattle.wfe_check_lines.proofs.check.conclude.Goals as goal

pub returns-in-NoRead-clause-reads : goal.returns-in-NoRead-clause-reads
returns-in-NoRead-clause-reads g c before left ends =
    unread_reads g.J.Judge.judges g.J.Judge.good before left c.args.reader (subst (λ e. Ends g.J.Judge.judges e before left reading_start c.args.reader) c.in-NoRead.is ends)

pub returns-in-Stopped-clause-reads : goal.returns-in-Stopped-clause-reads
returns-in-Stopped-clause-reads g c before left ends =
    subst (λ v. Reads before left v) (sym c.found.ensures)
    (stopped_reads g.J.Judge.judges g.J.Judge.good c.in-Stopped.stop before left c.args.reader (subst (λ e. Ends g.J.Judge.judges e before left reading_start c.args.reader) c.in-Stopped.is ends))

pub returns-in-Stopped-clause-fault : goal.returns-in-Stopped-clause-fault
returns-in-Stopped-clause-fault g c h = absurd (never_fault c.in-Stopped.stop (sym c.found.ensures ∙ h))

pub returns-in-Ok-clause-reads : goal.returns-in-Ok-clause-reads
returns-in-Ok-clause-reads g c before left ends =
    let e = subst (λ e. Ends g.J.Judge.judges e before left reading_start c.args.reader) c.in-AtEnd.is ends in
    whole_reads g.J.Judge.judges g.J.Judge.good c.in-Ok.count before left c.args.reader e (c.in-Ok.ensures e.0.after e.0.is)

pub returns-in-Err-clause-reads : goal.returns-in-Err-clause-reads
returns-in-Err-clause-reads g c before left ends =
    let e = subst (λ e. Ends g.J.Judge.judges e before left reading_start c.args.reader) c.in-AtEnd.is ends in
    subst (λ v. Reads before left v) (sym c.found-in-Err.ensures)
    (ended_reads g.J.Judge.judges g.J.Judge.good c.in-Err.stop before left c.args.reader e (c.in-Err.ensures e.0.after e.0.is))

pub returns-in-Err-clause-fault : goal.returns-in-Err-clause-fault
returns-in-Err-clause-fault g c h = absurd (never_fault c.in-Err.stop (sym c.found-in-Err.ensures ∙ h))
