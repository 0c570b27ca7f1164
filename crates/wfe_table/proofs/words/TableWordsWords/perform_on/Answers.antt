use Rattle.std.proofs.Common.{ap, subst, sym, ◌∙◌, ◌≡◌}
use Rattle.wfe_core.specs.Locals.{Local, after, asks, busy_in}
use Rattle.wfe_drive_call.specs.drive_words.Comes.{Given, lent}
use Rattle.wfe_drive_rule.specs.Views.{standing}
use Rattle.wfe_table.proofs.TableWords.{moves_none, spot_standing, step_made}
use Rattle.wfe_drive_rule.specs.drive_cells.declared.located.Located.{Located}
use Rattle.wfe_table.proofs.words.TableWordsWords.perform_on.Goals as goal

pub returns-clause-at : goal.returns-clause-at
returns-clause-at c = λ l e b o.
    let t = step_made _ _ c.step_on.result c.args.self.now.handle.now.me c.step_on.new.handle.me c.requires.valid.seated (ap (λ (k : Local). busy_in k.phase) e ∙ b) c.step_on.ensures.told c.step_on.ensures.slot in
    subst (λ (k : Local). (g : Given k c.step_on.result) × (standing c.step_on.new.handle.me ≡ after (lent g) c.step_on.result)) e (t.given, t.next)

pub returns-clause-rest : goal.returns-clause-rest
returns-clause-rest c =
    let busy = ap (λ (k : Local). busy_in k.phase) c.requires.asks.1 ∙ c.requires.asks.2 in
    (step_made _ _ c.step_on.result c.args.self.now.handle.now.me c.step_on.new.handle.me c.requires.valid.seated busy c.step_on.ensures.told c.step_on.ensures.slot).falls

pub step_on-requires-clause-asks : goal.step_on-requires-clause-asks
step_on-requires-clause-asks c = ap (λ (at : Located). at.op) c.requires.asks.3 ∙ ap asks (sym c.requires.asks.1)

pub step_on-requires-clause-spot : goal.step_on-requires-clause-spot
step_on-requires-clause-spot c = spot_standing _ _ _ c.requires.asks.0 c.args.op c.requires.valid.seated c.requires.asks.1 c.requires.asks.3

pub step_on-requires-clause-moves : goal.step_on-requires-clause-moves
step_on-requires-clause-moves c = moves_none _ _ _ c.requires.asks.0 c.requires.valid.seated c.requires.asks.1 c.requires.asks.2 c.requires.asks.4
