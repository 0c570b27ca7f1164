use Rattle.wfe_bucketmap_read.specs.Finds.{find_of}
use Rattle.wfe_bucketmap_read.proofs.Turns.{get_gives}
use Rattle.wfe_bucketmap_read.proofs.get.Get.read.Goals as goal

pub returns-in-Got-clause-steps : goal.returns-in-Got-clause-steps
returns-in-Got-clause-steps g c = λ desk.
    rw (get_gives c.args.self.now.key (find_of c.args.find) c.args.post.now desk c.args.found c.in-Got.version c.in-Got.value c.in-Got.ensures) (rw c.requires.empty at c.got.ensures.steps desk)
