-- One life after the other goes.
use Rattle.std.proofs.Common.{List, ap, ap₂, arith, get_or, rules, slice_set, ◌∙◌, ◌≡◌}
use Rattle.wfe_drive_cells.specs.Unit.{SeatView}
use Rattle.wfe_drive_seat.proofs.Moving.{moved_end, moves}
use Rattle.wfe_drive_seat.proofs.seat.move_list.Goals as goal

pub take_life-requires-clause-row : goal.take_life-requires-clause-row
take_life-requires-clause-row g c =
    let m = moves c.args.layout c.args.seats.now.items c.loop-place.seats.items c.args.from c.args.to c.loop-place.place c.index-in-loop-place.result.now c.index_mut.result.now c.life_at-life.result c.requires.from c.requires.to c.requires.apart
    c.loop-place.invariant c.index-in-loop-place.ensures c.index_mut.ensures.value c.life_at-life.ensures c.requires.fits in
    m.row

pub loop-place-preserved : goal.loop-place-preserved
loop-place-preserved g c =
    let m = moves c.args.layout c.args.seats.now.items c.loop-place.seats.items c.args.from c.args.to c.loop-place.place c.index-in-loop-place.result.now c.index_mut.result.now c.life_at-life.result c.requires.from c.requires.to c.requires.apart
    c.loop-place.invariant c.index-in-loop-place.ensures c.index_mut.ensures.value c.life_at-life.ensures c.requires.fits in
    ap (slice_set c.loop-place.seats.items c.args.to) c.take_life.ensures ∙ m.more_is

pub returns-clause-seats : goal.returns-clause-seats
returns-clause-seats g c =
    ap₂ (λ (v w : SeatView). slice_set (slice_set c.loop-place.seats.items c.args.to v) c.args.from w) c.clear_notes.ensures c.empty_list.ensures
    ∙ moved_end c.args.layout c.args.seats.now.items c.loop-place.seats.items c.args.from c.args.to c.loop-place.place c.list_len-count.result c.index.result.now c.index_mut-2.result.now c.index_mut-3.result.now
    c.requires.from c.requires.to c.requires.apart c.loop-place.invariant c.index.ensures c.list_len-count.ensures.count (search rules) c.index_mut-2.ensures.value
    (c.index_mut-3.ensures.value ∙ ap (λ (v : SeatView). get_or (slice_set c.loop-place.seats.items c.args.to v) c.args.from c.index_mut-3.result.now) c.clear_notes.ensures)
