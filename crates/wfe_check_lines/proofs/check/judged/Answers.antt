use Rattle.wfe_check_lines.proofs.check.judged.Goals as goal

pub returns-clause-reads : goal.returns-clause-reads
returns-clause-reads g c = c.conclude.ensures.reads _ _ c.read_all-ending.ensures.ended

pub returns-clause-fault : goal.returns-clause-fault
returns-clause-fault g c h = c.read_all-ending.ensures.read (c.conclude.ensures.fault h)
