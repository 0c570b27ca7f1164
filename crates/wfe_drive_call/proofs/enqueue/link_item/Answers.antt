-- The tail's row is held and read, and then the round goes on as it was found.
use Rattle.wfe_drive_runs.proofs.Turning.{may_here}
use Rattle.std.proofs.Common.{ap, refl, subst, sym, ◌∙◌, ◌≡◌}
use Rattle.wfe_core.specs.words.declared.config.Config.{Config}
use Rattle.wfe_core.specs.Calls.{Enqueues}
use Rattle.wfe_core.specs.DeskHeld.{desk_of}
use Rattle.wfe_drive_runs.specs.Items.{kept_of}
use Rattle.wfe_drive_runs.specs.Pieces.{IsFree}
use Rattle.wfe_drive_runs.proofs.Appending.{at_last, at_passes, is_left, is_spent, tail_held, tail_null}
use Rattle.wfe_drive_runs.proofs.Spanning.{free_stays}
use Rattle.wfe_drive_runs.proofs.drive_words.Leading.{here_on, leads_as, then_leads}
use Rattle.wfe_drive_call.proofs.enqueue.link_item.Goals as goal

pub open_round-requires-clause-here : goal.open_round-requires-clause-here
open_round-requires-clause-here g c = (Enqueues (kept_of c.args.item.now), (refl, refl), c.requires.here)

pub returns-in-None-clause-leads : goal.returns-in-None-clause-leads
returns-in-None-clause-leads g c =
    let kept = kept_of c.args.item.now in
    let first = c.requires.here in
    let (era, x) = c.in-None.ensures.leads (Enqueues kept) (refl, refl) first in
    tail_null kept era c.open_round.new.post c.open_round.new.desk x

pub read_tail-next-requires-clause-own : goal.read_tail-next-requires-clause-own
read_tail-next-requires-clause-own g c =
    let kept = kept_of c.args.item.now in
    let first = c.requires.here in
    let (era, x) = c.in-Some.ensures.leads (Enqueues kept) (refl, refl) first in
    let y = tail_held kept c.in-Some.tail era c.open_round.new.post c.open_round.new.desk x in
    (may_here (g.W.Words.comes c.open_round.new.words) c.open_round.ensures.valid (here_on first y)).valid

pub read_tail-next-requires-clause-here : goal.read_tail-next-requires-clause-here
read_tail-next-requires-clause-here g c =
    let kept = kept_of c.args.item.now in
    let first = c.requires.here in
    let (era, x) = c.in-Some.ensures.leads (Enqueues kept) (refl, refl) first in
    let y = tail_held kept c.in-Some.tail era c.open_round.new.post c.open_round.new.desk x in
    (desk_of c.open_round.new.desk, here_on first y)

pub pass_tail-requires-clause-here : goal.pass_tail-requires-clause-here
pass_tail-requires-clause-here g c =
    let kept = kept_of c.args.item.now in
    let first = c.requires.here in
    let (era, x) = c.in-Some.ensures.leads (Enqueues kept) (refl, refl) first in
    let y = tail_held kept c.in-Some.tail era c.open_round.new.post c.open_round.new.desk x in
    let z = c.read_tail-next.ensures.leads (desk_of c.open_round.new.desk) (here_on first y) in
    let read = kept_of c.read_tail-next.new.item in
    let at = c.read_tail-next.new.post in
    let next = c.read_tail-next.result in
    (desk_of c.open_round.new.desk, here_on first (then_leads y (leads_as _ _ (at_passes read next at (desk_of c.open_round.new.desk) c.if-next-ne0.true) z)))

pub returns-then-next-ne0-clause-same : goal.returns-then-next-ne0-clause-same
returns-then-next-ne0-clause-same g c = g.W.Words.same_on _ _ _ (g.W.Words.same_on _ _ _ c.open_round.ensures.same c.read_tail-next.ensures.same) c.pass_tail.ensures.same

pub returns-then-next-ne0-clause-leads : goal.returns-then-next-ne0-clause-leads
returns-then-next-ne0-clause-leads g c =
    let kept = kept_of c.args.item.now in
    let first = c.requires.here in
    let (era, x) = c.in-Some.ensures.leads (Enqueues kept) (refl, refl) first in
    let y = tail_held kept c.in-Some.tail era c.open_round.new.post c.open_round.new.desk x in
    let z = c.read_tail-next.ensures.leads (desk_of c.open_round.new.desk) (here_on first y) in
    let read = kept_of c.read_tail-next.new.item in
    let at = c.read_tail-next.new.post in
    let next = c.read_tail-next.result in
    let w = then_leads y (leads_as _ _ (at_passes read next at (desk_of c.open_round.new.desk) c.if-next-ne0.true) z) in
    then_leads w (c.pass_tail.ensures.leads (desk_of c.open_round.new.desk) (here_on first w))

pub returns-then-item-config-clause-leads : goal.returns-then-item-config-clause-leads
returns-then-item-config-clause-leads g c =
    let kept = kept_of c.args.item.now in
    let first = c.requires.here in
    let (era, x) = c.in-Some.ensures.leads (Enqueues kept) (refl, refl) first in
    let y = tail_held kept c.in-Some.tail era c.open_round.new.post c.open_round.new.desk x in
    let z = c.read_tail-next.ensures.leads (desk_of c.open_round.new.desk) (here_on first y) in
    let read = kept_of c.read_tail-next.new.item in
    let at = c.read_tail-next.new.post in
    let next = c.read_tail-next.result in
    let most : c.config.result.last_version ≡ at.layout.config.last_version = ap (λ (config : Config). config.last_version) c.config.ensures in
    let last = at_last read next at (desk_of c.open_round.new.desk) c.if-next-ne0.false in
    then_leads y (leads_as _ _ (last ∙ is_spent read at (desk_of c.open_round.new.desk) (c.if-item-config.true ∙ most)) z)

pub link_filled-requires-clause-here : goal.link_filled-requires-clause-here
link_filled-requires-clause-here g c =
    let kept = kept_of c.args.item.now in
    let first = c.requires.here in
    let (era, x) = c.in-Some.ensures.leads (Enqueues kept) (refl, refl) first in
    let y = tail_held kept c.in-Some.tail era c.open_round.new.post c.open_round.new.desk x in
    let z = c.read_tail-next.ensures.leads (desk_of c.open_round.new.desk) (here_on first y) in
    let read = kept_of c.read_tail-next.new.item in
    let at = c.read_tail-next.new.post in
    let next = c.read_tail-next.result in
    let most : c.config.result.last_version ≡ at.layout.config.last_version = ap (λ (config : Config). config.last_version) c.config.ensures in
    let last = at_last read next at (desk_of c.open_round.new.desk) c.if-next-ne0.false in
    here_on first (then_leads y (leads_as _ _ (last ∙ is_left read at (desk_of c.open_round.new.desk) (λ e. c.if-item-config.false (e ∙ sym most))) z))

pub returns-clause-same : goal.returns-clause-same
returns-clause-same g c = g.W.Words.same_on _ _ _ (g.W.Words.same_on _ _ _ c.open_round.ensures.same c.read_tail-next.ensures.same) c.link_filled.ensures.same

pub returns-clause-leads : goal.returns-clause-leads
returns-clause-leads g c =
    let kept = kept_of c.args.item.now in
    let first = c.requires.here in
    let (era, x) = c.in-Some.ensures.leads (Enqueues kept) (refl, refl) first in
    let y = tail_held kept c.in-Some.tail era c.open_round.new.post c.open_round.new.desk x in
    let z = c.read_tail-next.ensures.leads (desk_of c.open_round.new.desk) (here_on first y) in
    let read = kept_of c.read_tail-next.new.item in
    let at = c.read_tail-next.new.post in
    let next = c.read_tail-next.result in
    let most : c.config.result.last_version ≡ at.layout.config.last_version = ap (λ (config : Config). config.last_version) c.config.ensures in
    let last = at_last read next at (desk_of c.open_round.new.desk) c.if-next-ne0.false in
    let w = then_leads y (leads_as _ _ (last ∙ is_left read at (desk_of c.open_round.new.desk) (λ e. c.if-item-config.false (e ∙ sym most))) z) in
    then_leads w c.link_filled.ensures.leads

pub returns-then-next-ne0-clause-free : goal.returns-then-next-ne0-clause-free
returns-then-next-ne0-clause-free g c = subst IsFree (sym c.pass_tail.ensures.post) (subst IsFree (sym c.read_tail-next.ensures.post) c.open_round.ensures.free)

pub returns-then-item-config-clause-free : goal.returns-then-item-config-clause-free
returns-then-item-config-clause-free g c = subst IsFree (sym c.read_tail-next.ensures.post) c.open_round.ensures.free

pub returns-clause-free : goal.returns-clause-free
returns-clause-free g c = free_stays c.read_tail-next.new.post c.link_filled.new.post c.link_filled.ensures.layout c.link_filled.ensures.standing (subst IsFree (sym c.read_tail-next.ensures.post) c.open_round.ensures.free)
