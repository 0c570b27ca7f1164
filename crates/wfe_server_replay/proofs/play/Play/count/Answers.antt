use Rattle.std.proofs.Common.{ap, length, List, ◌∙◌}
use Rattle.wfe_outside.specs.declared.watcher.WatchRow.{WatchRow}
use Rattle.wfe_server_replay.proofs.Tables.{length-counted_all}
use Rattle.wfe_server_replay.proofs.play.Play.count.Goals as goal

pub invariant_of-self : goal.invariant_of-self
invariant_of-self g c = (c.self.invariant.0, ap (λ (rows : List WatchRow). length rows) c.count_all.ensures.garbage ∙ length-counted_all c.self.inside.garbage c.args.seat c.args.told.now ∙ c.self.invariant.1)
