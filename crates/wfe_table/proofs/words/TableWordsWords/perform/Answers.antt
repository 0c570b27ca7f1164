use Rattle.std.proofs.Common.{ap, subst, sym, ◌∙◌, ◌≡◌}
use Rattle.wfe_core.specs.Locals.{Local, after, asks, busy_in}
use Rattle.wfe_drive_call.specs.drive_words.Comes.{Given, lent}
use Rattle.wfe_drive_rule.specs.Views.{standing}
use Rattle.wfe_table.proofs.TableWords.{moves_none, spot_standing, step_made}
use Rattle.wfe_drive_rule.specs.drive_cells.declared.located.Located.{Located}
use Rattle.wfe_table.proofs.words.TableWordsWords.perform.Goals as goal

pub returns-clause-at : goal.returns-clause-at
returns-clause-at c = λ l e b o.
    let t = step_made _ _ c.step.result c.args.self.now.handle.now.me c.step.new.handle.me c.requires.valid.seated (ap (λ (k : Local). busy_in k.phase) e ∙ b) c.step.ensures.told c.step.ensures.slot in
    subst (λ (k : Local). (g : Given k c.step.result) × (standing c.step.new.handle.me ≡ after (lent g) c.step.result)) e (t.given, t.next)

pub returns-clause-rest : goal.returns-clause-rest
returns-clause-rest c =
    let busy = ap (λ (k : Local). busy_in k.phase) c.requires.asks.1 ∙ c.requires.asks.2 in
    (step_made _ _ c.step.result c.args.self.now.handle.now.me c.step.new.handle.me c.requires.valid.seated busy c.step.ensures.told c.step.ensures.slot).falls

pub step-requires-clause-asks : goal.step-requires-clause-asks
step-requires-clause-asks c = ap (λ (at : Located). at.op) c.requires.asks.3 ∙ ap asks (sym c.requires.asks.1)

pub step-requires-clause-spot : goal.step-requires-clause-spot
step-requires-clause-spot c = spot_standing _ _ _ c.requires.asks.0 c.args.op c.requires.valid.seated c.requires.asks.1 c.requires.asks.3

pub step-requires-clause-moves : goal.step-requires-clause-moves
step-requires-clause-moves c = moves_none _ _ _ c.requires.asks.0 c.requires.valid.seated c.requires.asks.1 c.requires.asks.2 c.requires.asks.4

pub step-requires-clause-later : goal.step-requires-clause-later
step-requires-clause-later c = c.requires.valid.later
