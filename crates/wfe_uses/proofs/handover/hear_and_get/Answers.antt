-- What is got is no older than what was heard of.
use Rattle.wfe_uses.proofs.Handing.{no_older}
use Rattle.wfe_uses.proofs.handover.hear_and_get.Goals as goal

pub returns-clause-no_older : goal.returns-clause-no_older
returns-clause-no_older c =
    no_older c.args.shared.now.layout c.args.seat.now c.hear.new.seat c.get.new.seat c.args.key c.args.told.value c.args.told.version c.args.told.news.past c.get.result c.requires.told.knows c.hear.ensures.aware c.get.ensures.made
