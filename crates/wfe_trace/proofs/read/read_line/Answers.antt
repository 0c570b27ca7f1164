use Rattle.std.proofs.Common.{◌∙◌, sym}
use Rattle.wfe_trace.proofs.Judged.{said_of}
use Rattle.wfe_trace.proofs.Reasons.{reason_at}
use Rattle.wfe_trace.proofs.read.read_line.Goals as goal

pub returns-in-Ok-clause-within : goal.returns-in-Ok-clause-within
returns-in-Ok-clause-within c = (said_of _ c.args.state.now c.args.bytes.now c.in-Ok.item c.state.view_is c.state.invariant.0 c.state.invariant.1 (sym c.judge.ensures.item ∙ c.in-Ok.is)).0

pub returns-in-Ok-clause-version : goal.returns-in-Ok-clause-version
returns-in-Ok-clause-version c = (said_of _ c.args.state.now c.args.bytes.now c.in-Ok.item c.state.view_is c.state.invariant.0 c.state.invariant.1 (sym c.judge.ensures.item ∙ c.in-Ok.is)).1

pub returns-in-Err-clause-reason : goal.returns-in-Err-clause-reason
returns-in-Err-clause-reason c = reason_at c.args.state.now.stage c.args.state.now c.args.bytes.now c.in-Err.reason (sym c.judge.ensures.item ∙ c.in-Err.is)
