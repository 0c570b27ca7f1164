use Rattle.wfe_server.proofs.Scripting.{workers_item}
use Rattle.wfe_server.proofs.reader.Reader.read.Goals as goal

pub returns-clause-workers : goal.returns-clause-workers
returns-clause-workers c = workers_item c.self.inside.bytes.reading c.self.inside.bytes.line c.in_ok-item.item c.self.invariant.0 c.in_ok-item.ensures.item
