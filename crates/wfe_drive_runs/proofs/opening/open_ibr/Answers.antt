-- The interval stands, and the protection is within it.
use Rattle.std.proofs.Common.{ap, ◌∙◌, ◌≡◌}
use Rattle.wfe_core.specs.words.declared.config.SchemeKind.TheVariants.{Ibr}
use Rattle.wfe_core.specs.words.declared.layout.Layout.{Layout}
use Rattle.wfe_core.specs.Calls.{Opens}
use Rattle.wfe_drive_words.proofs.Leading.{here_on, leads_as}
use Rattle.wfe_drive_runs.proofs.Rounding.{opens_as, protects_still}
use Rattle.wfe_drive_runs.proofs.Spanning.{free_kept, free_stays}
use Rattle.wfe_drive_runs.proofs.Turning.{leads_so_after}
use Rattle.wfe_drive_runs.proofs.opening.open_ibr.Goals as goal

pub open_span-span-requires-clause-here : goal.open_span-span-requires-clause-here
open_span-span-requires-clause-here g c =
    let (task, p, h) = c.requires.here in
    (task, h)

pub hold_ibr-requires-clause-scheme : goal.hold_ibr-requires-clause-scheme
hold_ibr-requires-clause-scheme g c = ap (λ (layout : Layout). layout.config.scheme) c.open_span-span.ensures.layout ∙ c.requires.scheme

pub hold_ibr-requires-clause-here : goal.hold_ibr-requires-clause-here
hold_ibr-requires-clause-here g c =
    let post = c.open_span-span.new.post in
    let kind : post.layout.config.scheme ≡ Ibr = ap (λ (layout : Layout). layout.config.scheme) c.open_span-span.ensures.layout ∙ c.requires.scheme in
    let (task, p, h) = c.requires.here in
    let is = opens_as Ibr task c.args.root post c.args.desk.now kind (protects_still task c.args.root c.args.post.now post c.open_span-span.ensures.layout p) in
    (Opens task, here_on h (leads_as _ _ is (c.open_span-span.ensures.leads task h)))

pub returns-clause-same : goal.returns-clause-same
returns-clause-same g c = g.W.Words.same_on _ _ _ c.open_span-span.ensures.same c.hold_ibr.ensures.same

pub returns-clause-free : goal.returns-clause-free
returns-clause-free g c =
    free_kept c.open_span-span.new.post c.hold_ibr.new.post c.hold_ibr.ensures.layout c.hold_ibr.ensures.kept
    (free_stays c.args.post.now c.open_span-span.new.post c.open_span-span.ensures.layout c.open_span-span.ensures.standing c.requires.free)

pub returns-clause-spanned : goal.returns-clause-spanned
returns-clause-spanned g c = λ one. c.hold_ibr.ensures.spanned

pub returns-clause-leads : goal.returns-clause-leads
returns-clause-leads g c = λ task p h.
    let post = c.open_span-span.new.post in
    let kind : post.layout.config.scheme ≡ Ibr = ap (λ (layout : Layout). layout.config.scheme) c.open_span-span.ensures.layout ∙ c.requires.scheme in
    let is = opens_as Ibr task c.args.root post c.args.desk.now kind (protects_still task c.args.root c.args.post.now post c.open_span-span.ensures.layout p) in
    let x = leads_as _ _ is (c.open_span-span.ensures.leads task h) in
    let (era, y) = c.hold_ibr.ensures.leads (Opens task) (here_on h x) in
    (era, leads_so_after x y)
