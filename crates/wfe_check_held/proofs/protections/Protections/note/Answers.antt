use Rattle.std.proofs.Common.{◌∙◌, ap}
use Rattle.wfe_words.specs.declared.config.Config.{Config}
use Rattle.wfe_check_held.specs.Shown.{hazards_after, helpers_after, wholes_after, words_after}
use Rattle.wfe_check_held.proofs.Steps.{step}
use Rattle.wfe_check_held.proofs.protections.Protections.note.Goals as goal

pub returns-clause-noted : goal.returns-clause-noted
returns-clause-noted c = step c.args.self.now c.publish.new.self c.args.seat c.args.event.now (record {
  config = c.publish.ensures.config ∙ c.stand.ensures.config;
  helpers = c.publish.ensures.helpers ∙ ap (helpers_after c.args.event.now) c.stand.ensures.helpers;
  wholes = c.publish.ensures.wholes ∙ ap (wholes_after c.args.event.now) c.stand.ensures.wholes;
  words = c.publish.ensures.words ∙ ap (λ (n : Config). words_after n.indexes c.args.event.now c.stand.new.self.words.items) c.stand.ensures.config ∙ ap (words_after c.args.self.now.config.indexes c.args.event.now) c.stand.ensures.words;
  hazards = c.publish.ensures.hazards ∙ ap (λ (n : Config). hazards_after n.indexes c.args.event.now c.stand.new.self.hazards.items) c.stand.ensures.config ∙ ap (hazards_after c.args.self.now.config.indexes c.args.event.now) c.stand.ensures.hazards;
  standing = c.publish.ensures.standing ∙ c.in_ok-stand.ensures.standing;
})
