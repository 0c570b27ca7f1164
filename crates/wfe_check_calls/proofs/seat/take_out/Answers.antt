use Rattle.std.proofs.Common.{◌≡◌, ◌<◌, ◌≤◌, length, get_or, ap, ◌∙◌, sym, arith}
use Rattle.std.proofs.lemmas.List.{get_or_read}
use Rattle.laws.specs.StateAt.{without_one}
use Rattle.wfe_check_calls.proofs.Cuts.{without_at, without_none}
use Rattle.wfe_check_calls.proofs.seat.take_out.Goals as goal

pub returns-then-index-slot : goal.returns-then-index-slot
returns-then-index-slot c =
    let items = c.loop-place.cuts.items in
    let same = c.loop-place.invariant.same in
    let within : c.loop-place.place < length items = omega (arith, ap length same, c.args.cuts.now.ok.0) in
    let here : get_or items c.loop-place.place 0 ≡ c.args.slot = sym (get_or_read items _ _ within c.index.ensures 0) ∙ c.if-index-slot.true in
    c.remove.ensures.items
    ∙ without_at c.args.slot items c.loop-place.place within here c.loop-place.invariant.before
    ∙ ap (without_one c.args.slot) same

pub returns : goal.returns
returns c =
    let items = c.loop-place.cuts.items in
    let same = c.loop-place.invariant.same in
    let past : length items ≤ c.loop-place.place = omega (arith, ap length same, c.args.cuts.now.ok.0) in
    without_none c.args.slot items (λ k h. c.loop-place.invariant.before k (omega arith)) ∙ ap (without_one c.args.slot) same
