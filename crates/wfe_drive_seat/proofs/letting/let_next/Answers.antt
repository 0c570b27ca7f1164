-- What is let go is what the call's phase says.
use Rattle.std.proofs.Common.{Bool, ap, ◌∙◌}
use Rattle.wfe_core.specs.Calls.{Phase}
use Rattle.wfe_core.specs.Desks.{new_desk}
use Rattle.wfe_core.specs.Keep.{parting}
use Rattle.wfe_core.specs.Posts.{counted}
use Rattle.wfe_core.specs.Steps.{phase_turn}
use Rattle.wfe_core.specs.declared.post.Post.{Post}
use Rattle.wfe_drive_seat.specs.Letting.{letting_phase}
use Rattle.wfe_drive_seat.specs.declared.letting.Letting.TheVariants.{At}
use Rattle.wfe_drive_seat.proofs.Leaving.{parting_desk}
use Rattle.wfe_drive_seat.proofs.letting.let_next.Goals as goal

pub returns-in-At-clause-post : goal.returns-in-At-clause-post
returns-in-At-clause-post g c made desk found = c.let_at.ensures.post desk found ∙ ap (λ (p : Phase). (phase_turn p (counted c.args.post.now) desk found).post) c.in-At.ensures.phase

pub returns-in-At-clause-told : goal.returns-in-At-clause-told
returns-in-At-clause-told g c made desk found =
    c.let_at.ensures.told desk found
    ∙ ap (λ (rows : Bool). (phase_turn (letting_phase rows (At c.in-At.index)) (counted c.args.post.now) desk found).told) c.has_rows-rows.ensures
    ∙ ap (λ (p : Phase). (phase_turn p (counted c.args.post.now) desk found).told) c.in-At.ensures.phase

pub returns-in-At-clause-layout : goal.returns-in-At-clause-layout
returns-in-At-clause-layout g c = ap (λ (post : Post). post.layout) (c.let_at.ensures.post new_desk 0)

pub returns-in-Span-clause-post : goal.returns-in-Span-clause-post
returns-in-Span-clause-post g c made desk found = c.let_span.ensures.post desk found ∙ ap (λ (p : Phase). (phase_turn p (counted c.args.post.now) desk found).post) c.in-Span.ensures.phase

pub returns-in-Span-clause-told : goal.returns-in-Span-clause-told
returns-in-Span-clause-told g c made desk found = c.let_span.ensures.told desk found ∙ ap (λ (p : Phase). (phase_turn p (counted c.args.post.now) desk found).told) c.in-Span.ensures.phase

pub returns-in-Span-clause-layout : goal.returns-in-Span-clause-layout
returns-in-Span-clause-layout g c = ap (λ (post : Post). post.layout) (c.let_span.ensures.post new_desk 0)

pub returns-in-Nothing-clause-desk : goal.returns-in-Nothing-clause-desk
returns-in-Nothing-clause-desk g c desk found = parting_desk _ c.next_letting.result (parting c.args.post.now) (counted c.args.post.now) desk found c.next_letting.ensures.phase

pub returns-in-At-clause-desk : goal.returns-in-At-clause-desk
returns-in-At-clause-desk g c desk found = parting_desk _ c.next_letting.result (parting c.args.post.now) (counted c.args.post.now) desk found c.next_letting.ensures.phase

pub returns-in-Span-clause-desk : goal.returns-in-Span-clause-desk
returns-in-Span-clause-desk g c desk found = parting_desk _ c.next_letting.result (parting c.args.post.now) (counted c.args.post.now) desk found c.next_letting.ensures.phase
