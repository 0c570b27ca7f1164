use Rattle.wfe_server.proofs.serve.read_trace.Goals as goal

pub returns-clause-reads : goal.returns-clause-reads
returns-clause-reads g c = c.conclude.ensures.reads _ _ c.read_all-ending.ensures.ended
