use Rattle.std.proofs.Common.{ap, sym, ◌∙◌}
use Rattle.std.proofs.lemmas.Bool.{false≢true}
use Rattle.wfe_core.specs.Locals.{Local}
use Rattle.wfe_drive_call.specs.drive_words.Comes.{departs}
use Rattle.wfe_table.proofs.TableWords.{comes_standing, may_standing}
use Rattle.wfe_table.proofs.words.TableWordsWords.start.Goals as goal

pub returns-clause-valid : goal.returns-clause-valid
returns-clause-valid c = record {
  ids = c.begin.ensures.ids.0 ∙ c.requires.valid.ids;
  sized = c.requires.valid.sized;
  seated = c.begin.ensures.seated;
  comes = comes_standing _ _ _ c.begin.ensures.seated;
  later = λ e. absurd (cc e);
}

pub begin-requires-clause-may : goal.begin-requires-clause-may
begin-requires-clause-may c = may_standing _ _ _ c.requires.idle.0 c.args.call c.requires.valid.seated c.requires.idle.1 c.requires.idle.4

pub begin-requires-clause-there : goal.begin-requires-clause-there
begin-requires-clause-there c = λ e. absurd (false≢true (sym (ap (λ (l : Local). departs l.call) c.requires.idle.1 ∙ c.requires.idle.3) ∙ ap departs e))
