use Rattle.wfe_core.specs.Calls.{Changes}
use Rattle.wfe_core.specs.DeskHeld.{desk_of}
use Rattle.wfe_call_rounds.proofs.Leaves.{leave_plausible, leave_ready}
use Rattle.wfe_bucketmap.specs.Changes.{kept_of}
use Rattle.wfe_bucketmap.proofs.change.ChangeBucket.run.Goals as goal

pub returns-in-Starts-clause-turn : goal.returns-in-Starts-clause-turn
returns-in-Starts-clause-turn g c = rw c.in-Starts.is c.begin.ensures.turn

pub returns-in-Opens-clause-turn : goal.returns-in-Opens-clause-turn
returns-in-Opens-clause-turn g c = rw c.in-Opens.is c.open_on.ensures.turn

pub returns-in-Works-clause-turn : goal.returns-in-Works-clause-turn
returns-in-Works-clause-turn g c = rw c.in-Works.is (c.work.ensures.turn (desk_of c.args.desk.now))

pub leave_on-requires-clause-ready : goal.leave_on-requires-clause-ready
leave_on-requires-clause-ready g c = leave_ready _ _ (Changes (kept_of c.args.self.now.kept)) c.in-Leaves.at _ _ (rw c.in-Leaves.is at c.requires.ready)

pub leave_on-requires-clause-plausible : goal.leave_on-requires-clause-plausible
leave_on-requires-clause-plausible g c = leave_plausible _ _ (Changes (kept_of c.args.self.now.kept)) c.in-Leaves.at _ _ (rw c.in-Leaves.is at c.requires.plausible)

pub returns-in-Leaves-clause-turn : goal.returns-in-Leaves-clause-turn
returns-in-Leaves-clause-turn g c = rw c.in-Leaves.is (c.leave_on.ensures.turn (kept_of c.args.self.now.kept))
