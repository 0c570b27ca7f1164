use Rattle.wfe_server.proofs.serve.conclude.Goals as goal

pub returns-in-AtEnd-clause-reads : goal.returns-in-AtEnd-clause-reads
returns-in-AtEnd-clause-reads c before left ends =
    let here = rw c.in-AtEnd.is at ends in
    (here.0.taken, here.0.consumed, c.finish.ensures.gives here.0.taken left here.0.good here.1)
