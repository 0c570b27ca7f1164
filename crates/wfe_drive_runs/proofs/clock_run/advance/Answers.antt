-- Two steps, or one where the clock is at its last era.
use Rattle.std.proofs.Common.{ap, arith, refl, sym, ◌+◌, ◌<◌, ◌^◌, ◌∙◌, ◌≡◌}
use Rattle.wfe_core.specs.DeskHeld.{desk_of}
use Rattle.wfe_core.specs.Desks.{Desk}
use Rattle.wfe_core.specs.Ready.{EraFits}
use Rattle.wfe_core.specs.declared.post.Post.{Post}
use Rattle.wfe_core.specs.words.declared.config.Config.{Config}
use Rattle.wfe_drive_words.specs.Path.{stepped}
use Rattle.wfe_drive_words.proofs.Leading.{few_here, here_on, leads_as, then_leads}
use Rattle.wfe_drive_runs.proofs.Moving.{clock_passed, clock_raised, era_left, era_spent, loads_at, raises_at}
use Rattle.wfe_drive_runs.proofs.Turning.{asks_seat, may_here}
use Rattle.wfe_drive_runs.proofs.clock_run.advance.Goals as goal

pub step-era-requires-clause-asks : goal.step-era-requires-clause-asks
step-era-requires-clause-asks g c =
    let (later, h) = c.requires.here in
    (_, asks_seat (loads_at later c.args.post.now (desk_of c.args._desk.now)) h refl c.load_clock.ensures)

pub overflow_cast-era : goal.overflow_cast-era
overflow_cast-era g c =
    let (later, h) = c.requires.here in
    let x0 = c.step-era.ensures.steps _ (asks_seat (loads_at later c.args.post.now (desk_of c.args._desk.now)) h refl c.load_clock.ensures) in
    let fits : EraFits c.step-era.result = x0.take.plausible in
    omega (arith, fits.1)

pub overflow_add-post : goal.overflow_add-post
overflow_add-post g c =
    let (later, h) = c.requires.here in
    let few : c.args.post.now.steps < 2 ^ 62 = few_here (g.W.Words.comes c.args.words.now) c.requires.valid h refl in
    omega (arith, few)

pub returns-then-era-config-clause-leads : goal.returns-then-era-config-clause-leads
returns-then-era-config-clause-leads g c = λ later h.
    let post : Post = c.args.post.now in
    let desk : Desk = desk_of c.args._desk.now in
    let x0 = c.step-era.ensures.steps _ (asks_seat (loads_at later post desk) h refl c.load_clock.ensures) in
    let last : c.config.result.last_era ≡ post.layout.config.last_era = ap (λ (config : Config). config.last_era) c.config.ensures in
    leads_as _ _ (era_spent later post desk c.step-era.result (c.if-era-config.true ∙ last)) x0.leads

pub step-found-requires-clause-asks : goal.step-found-requires-clause-asks
step-found-requires-clause-asks g c =
    let (later, h) = c.requires.here in
    let post : Post = c.args.post.now in
    let desk : Desk = desk_of c.args._desk.now in
    let x0 = c.step-era.ensures.steps _ (asks_seat (loads_at later post desk) h refl c.load_clock.ensures) in
    let last : c.config.result.last_era ≡ post.layout.config.last_era = ap (λ (config : Config). config.last_era) c.config.ensures in
    let y0 = leads_as _ _ (era_left later post desk c.step-era.result (λ e. c.if-era-config.false (e ∙ sym last))) x0.leads in
    (_, asks_seat (raises_at later (stepped post) desk c.step-era.result) (here_on h y0) refl c.raise_clock.ensures)

pub overflow_add-post-2 : goal.overflow_add-post-2
overflow_add-post-2 g c =
    let (later, h) = c.requires.here in
    let few : c.args.post.now.steps < 2 ^ 62 = few_here (g.W.Words.comes c.args.words.now) c.requires.valid h refl in
    omega (arith, few)

pub overflow_add-result : goal.overflow_add-result
overflow_add-result g c =
    let (later, h) = c.requires.here in
    let post : Post = c.args.post.now in
    let desk : Desk = desk_of c.args._desk.now in
    let x0 = c.step-era.ensures.steps _ (asks_seat (loads_at later post desk) h refl c.load_clock.ensures) in
    let last : c.config.result.last_era ≡ post.layout.config.last_era = ap (λ (config : Config). config.last_era) c.config.ensures in
    let y0 = leads_as _ _ (era_left later post desk c.step-era.result (λ e. c.if-era-config.false (e ∙ sym last))) x0.leads in
    let may = may_here (g.W.Words.comes c.step-era.new.words) c.step-era.ensures.valid (here_on h y0) in
    let below : c.step-era.result < post.layout.config.last_era = may.ready.0 in
    omega (arith, below, may.valid.bounds.eras)

pub overflow_cast-result : goal.overflow_cast-result
overflow_cast-result g c =
    let (later, h) = c.requires.here in
    let post : Post = c.args.post.now in
    let desk : Desk = desk_of c.args._desk.now in
    let x0 = c.step-era.ensures.steps _ (asks_seat (loads_at later post desk) h refl c.load_clock.ensures) in
    let last : c.config.result.last_era ≡ post.layout.config.last_era = ap (λ (config : Config). config.last_era) c.config.ensures in
    let y0 = leads_as _ _ (era_left later post desk c.step-era.result (λ e. c.if-era-config.false (e ∙ sym last))) x0.leads in
    let x1 = c.step-found.ensures.steps _ (asks_seat (raises_at later (stepped post) desk c.step-era.result) (here_on h y0) refl c.raise_clock.ensures) in
    let fits : EraFits c.step-found.result = x1.take.plausible in
    omega (arith, fits.1)

pub returns-then-found-era-clause-same : goal.returns-then-found-era-clause-same
returns-then-found-era-clause-same g c = g.W.Words.same_on _ _ _ c.step-era.ensures.same c.step-found.ensures.same

pub returns-then-found-era-clause-leads : goal.returns-then-found-era-clause-leads
returns-then-found-era-clause-leads g c = λ later h.
    let post : Post = c.args.post.now in
    let desk : Desk = desk_of c.args._desk.now in
    let x0 = c.step-era.ensures.steps _ (asks_seat (loads_at later post desk) h refl c.load_clock.ensures) in
    let last : c.config.result.last_era ≡ post.layout.config.last_era = ap (λ (config : Config). config.last_era) c.config.ensures in
    let y0 = leads_as _ _ (era_left later post desk c.step-era.result (λ e. c.if-era-config.false (e ∙ sym last))) x0.leads in
    let x1 = c.step-found.ensures.steps _ (asks_seat (raises_at later (stepped post) desk c.step-era.result) (here_on h y0) refl c.raise_clock.ensures) in
    then_leads y0 (leads_as _ _ (clock_raised later (stepped post) desk c.step-era.result c.step-found.result c.if-found-era.true) x1.leads)

pub returns-clause-same : goal.returns-clause-same
returns-clause-same g c = g.W.Words.same_on _ _ _ c.step-era.ensures.same c.step-found.ensures.same

pub returns-clause-leads : goal.returns-clause-leads
returns-clause-leads g c = λ later h.
    let post : Post = c.args.post.now in
    let desk : Desk = desk_of c.args._desk.now in
    let x0 = c.step-era.ensures.steps _ (asks_seat (loads_at later post desk) h refl c.load_clock.ensures) in
    let last : c.config.result.last_era ≡ post.layout.config.last_era = ap (λ (config : Config). config.last_era) c.config.ensures in
    let y0 = leads_as _ _ (era_left later post desk c.step-era.result (λ e. c.if-era-config.false (e ∙ sym last))) x0.leads in
    let x1 = c.step-found.ensures.steps _ (asks_seat (raises_at later (stepped post) desk c.step-era.result) (here_on h y0) refl c.raise_clock.ensures) in
    then_leads y0 (leads_as _ _ (clock_passed later (stepped post) desk c.step-era.result c.step-found.result c.if-found-era.false) x1.leads)
