use Rattle.std.proofs.Common.{refl, ◌∙◌}
use Rattle.wfe_core.specs.Calls.{Changes}
use Rattle.wfe_core.specs.DeskHeld.{desk_of}
use Rattle.wfe_call_rounds.specs.Rounds.{opening_base}
use Rattle.wfe_call_rounds.proofs.Ran.{open_came}
use Rattle.wfe_bucketmap.specs.Changes.{kept_of}
use Rattle.wfe_bucketmap.proofs.change.open_on.Goals as goal

pub returns-clause-turn : goal.returns-clause-turn
returns-clause-turn g c =
    let task = Changes (kept_of c.args.kept.now) in
    let last = c.take_open-end.new.post in
    let told = c.take_open-end.new.told in
    let desk = desk_of c.args.desk.now in
    let base = opening_base g.S.Begin.Machine.phase g.S.Protect.Machine.phase c.args.opening.now in
    let next = opening_base g.S.Begin.Machine.phase g.S.Protect.Machine.phase c.take_open-end.new.opening in
    open_came task g.S.Scheme.kind 0 c.root-root.result base next c.args.post.now last desk told c.args.found c.take_open-end.result refl c.root-root.ensures.root c.requires.scheme c.take_open-end.ensures.post c.take_open-end.ensures.told c.take_open-end.ensures.next
    ∙ c.reached.ensures.turn next desk told
