use Rattle.std.proofs.Common.{refl}
use Rattle.wfe_check_held.proofs.Steps.{start}
use Rattle.wfe_check_held.proofs.protections.Protections.new.Goals as goal

pub returns : goal.returns
returns c = start c.args.config _ c.requires (record {
  setting = refl;
  helpers = c.in_ok-helpers.ensures;
  wholes = c.in_ok-wholes.ensures;
  words = c.in_ok-words.ensures;
  hazards = c.in_ok-hazards.ensures;
  standing = c.in_ok-standing.ensures;
})
