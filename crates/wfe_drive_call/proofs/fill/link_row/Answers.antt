-- The row is written, and then comes the exchange.
use Rattle.std.proofs.Common.{Option, ap, ℕ}
use Rattle.wfe_core.specs.Calls.{ExchangeRoot}
use Rattle.wfe_core.specs.DeskHeld.{desk_of}
use Rattle.wfe_core.specs.declared.post.Post.{Post}
use Rattle.wfe_core.specs.Steps.{slot_in}
use Rattle.wfe_drive_runs.proofs.drive_words.Leading.{here_as, here_on, leads_as, then_leads}
use Rattle.wfe_drive_runs.proofs.Spanning.{free_stays}
use Rattle.wfe_drive_call.specs.Changing.{kept_of, step_post, works_at}
use Rattle.wfe_drive_call.proofs.Standing.{ready_here, valid_steps}
use Rattle.wfe_drive_call.proofs.fill.link_row.Goals as goal

pub write_row-steps-requires-clause-own : goal.write_row-steps-requires-clause-own
write_row-steps-requires-clause-own g c = (ready_here (g.W.Words.comes c.args.words.now) c.requires.valid c.requires.here).valid

pub write_row-steps-requires-clause-slot : goal.write_row-steps-requires-clause-slot
write_row-steps-requires-clause-slot g c = (ready_here (g.W.Words.comes c.args.words.now) c.requires.valid c.requires.here).ready.0.0

pub write_row-steps-requires-clause-few : goal.write_row-steps-requires-clause-few
write_row-steps-requires-clause-few g c = (ready_here (g.W.Words.comes c.args.words.now) c.requires.valid c.requires.here).ready.0.1

pub write_row-steps-requires-clause-here : goal.write_row-steps-requires-clause-here
write_row-steps-requires-clause-here g c = c.requires.here

pub exchange-requires-clause-own : goal.exchange-requires-clause-own
exchange-requires-clause-own g c = valid_steps c.args.post.now c.write_row-steps.result (ready_here (g.W.Words.comes c.args.words.now) c.requires.valid c.requires.here).valid

pub exchange-requires-clause-slot : goal.exchange-requires-clause-slot
exchange-requires-clause-slot g c = (ready_here (g.W.Words.comes c.args.words.now) c.requires.valid c.requires.here).ready.0.0

pub exchange-requires-clause-here : goal.exchange-requires-clause-here
exchange-requires-clause-here g c =
    let kept = kept_of c.args.kept.now in
    here_as _ _ (ap (λ (held : Option ℕ). works_at kept (ExchangeRoot (slot_in held)) (step_post c.args.post.now c.write_row-steps.result) (desk_of c.args._desk.now)) c.requires.taken) (here_on c.requires.here c.write_row-steps.ensures.leads)

pub returns-clause-leads : goal.returns-clause-leads
returns-clause-leads g c =
    let kept = kept_of c.args.kept.now in
    then_leads (leads_as _ _ (ap (λ (held : Option ℕ). works_at kept (ExchangeRoot (slot_in held)) (step_post c.args.post.now c.write_row-steps.result) (desk_of c.args._desk.now)) c.requires.taken) c.write_row-steps.ensures.leads) c.exchange.ensures.leads

pub returns-clause-same : goal.returns-clause-same
returns-clause-same g c = g.W.Words.same_on _ _ _ c.write_row-steps.ensures.same c.exchange.ensures.same

pub returns-clause-free : goal.returns-clause-free
returns-clause-free g c = free_stays c.args.post.now c.exchange.new.post (ap (λ (post : Post). post.layout) c.exchange.ensures.post) (ap (λ (post : Post). post.standing) c.exchange.ensures.post) c.requires.free
