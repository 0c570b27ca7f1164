-- An interval stands, or its two steps are made.
use Rattle.std.proofs.Common.{arith, refl, sym, ◌<◌, ◌^◌}
use Rattle.wfe_core.specs.DeskHeld.{desk_of}
use Rattle.wfe_drive_words.proofs.Leading.{few_here, here_as, leads_as, leads_from, leads_none}
use Rattle.wfe_drive_runs.proofs.Spanning.{span_begins, span_stands}
use Rattle.wfe_drive_runs.proofs.Turning.{may_here}
use Rattle.wfe_drive_runs.proofs.span.open_span.Goals as goal

pub begin_span-era-requires-clause-own : goal.begin_span-era-requires-clause-own
begin_span-era-requires-clause-own g c =
    let (task, h) = c.requires.here in
    (may_here (g.W.Words.comes c.args.words.now) c.requires.valid h).valid

pub begin_span-era-requires-clause-here : goal.begin_span-era-requires-clause-here
begin_span-era-requires-clause-here g c =
    let (task, h) = c.requires.here in
    (task, desk_of c.args._desk.now, c.args.post.now.steps, here_as _ _ (span_begins task c.args.post.now (desk_of c.args._desk.now) c.requires.scheme c.in-None.is) h)

pub overflow_add-post : goal.overflow_add-post
overflow_add-post g c =
    let (task, h) = c.requires.here in
    let begins = here_as _ _ (span_begins task c.args.post.now (desk_of c.args._desk.now) c.requires.scheme c.in-None.is) h in
    let few : c.args.post.now.steps < 2 ^ 62 = few_here (g.W.Words.comes c.args.words.now) c.requires.valid begins refl in
    omega (arith, few)

pub returns-in-Some-clause-leads : goal.returns-in-Some-clause-leads
returns-in-Some-clause-leads g c = λ task h.
    leads_as _ _ (span_stands task c.args.post.now (desk_of c.args._desk.now) c.in-Some.span c.requires.scheme c.in-Some.is) (leads_none (g.W.Words.at c.args.words.now) (g.W.Words.stands c.args.words.now) _)

pub returns-in-None-clause-leads : goal.returns-in-None-clause-leads
returns-in-None-clause-leads g c = λ task h.
    let is = span_begins task c.args.post.now (desk_of c.args._desk.now) c.requires.scheme c.in-None.is in
    leads_from _ _ (sym is) (c.begin_span-era.ensures.leads task (desk_of c.args._desk.now) c.args.post.now.steps (here_as _ _ is h))
