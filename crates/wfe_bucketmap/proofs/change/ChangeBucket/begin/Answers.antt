use Rattle.std.proofs.Common.{◌≡◌, refl, ap, subst, ◌∙◌}
use Rattle.wfe_core.specs.CallReady.{IsCallReady}
use Rattle.wfe_core.specs.Calls.{Changes, Opens, Phase, Runs}
use Rattle.wfe_core.specs.DeskHeld.{desk_of}
use Rattle.wfe_core.specs.Rounds.{round}
use Rattle.wfe_core.specs.Steps.{phase_turn}
use Rattle.wfe_call_rounds.specs.Rounds.{opening_base}
use Rattle.wfe_call_rounds.proofs.Ran.{open_came}
use Rattle.wfe_call_rounds.proofs.Taken.{starts_at}
use Rattle.wfe_bucketmap.specs.Changes.{kept_of}
use Rattle.wfe_bucketmap.proofs.Withins.{fits_along}
use Rattle.wfe_bucketmap.proofs.change.ChangeBucket.begin.Goals as goal

pub returns-clause-turn : goal.returns-clause-turn
returns-clause-turn g c =
    let task = Changes (kept_of c.args.self.now.kept) in
    let post = c.args.post.now in
    let last = c.take_open-end.new.post in
    let told = c.take_open-end.new.told in
    let desk = desk_of c.args.desk.now in
    let base = opening_base g.S.Begin.Machine.phase g.S.Protect.Machine.phase c.open-opening.result in
    let next = opening_base g.S.Begin.Machine.phase g.S.Protect.Machine.phase c.take_open-end.new.opening in
    let stands : round task post ≡ Runs (Opens task) base =
    starts_at task g.S.Scheme.kind post c.root-root.result base c.requires.scheme c.root-root.ensures.root c.open-opening.ensures
    in
    rw c.stand.ensures.at (
    ap (λ (phase : Phase). phase_turn phase post desk c.args.found) stands
    ∙ (
    open_came task g.S.Scheme.kind 0 c.root-root.result base next post last desk told c.args.found c.take_open-end.result refl c.root-root.ensures.root c.requires.scheme c.take_open-end.ensures.post c.take_open-end.ensures.told c.take_open-end.ensures.next
    ∙ (rw c.stand.ensures.kept at (c.reached.ensures.turn next desk told))
    )
    )

pub reached-requires-clause-fits : goal.reached-requires-clause-fits
reached-requires-clause-fits g c =
    let task = Changes (kept_of c.args.self.now.kept) in
    let post = c.args.post.now in
    let desk = desk_of c.args.desk.now in
    let base = opening_base g.S.Begin.Machine.phase g.S.Protect.Machine.phase c.open-opening.result in
    let stands : round task post ≡ Runs (Opens task) base =
    starts_at task g.S.Scheme.kind post c.root-root.result base c.requires.scheme c.root-root.ensures.root c.open-opening.ensures
    in
    let opens : IsCallReady (Runs (Opens task) base) post desk = subst (λ (phase : Phase). IsCallReady phase post desk) stands c.requires.ready in
    rw c.stand.ensures.kept (fits_along post c.take_open-end.new.post (kept_of c.args.self.now.kept) c.take_open-end.ensures.layout opens.1)
