use Rattle.std.proofs.Common.{[], ap, arith, rules, ℕ, ◌-◌, ◌≡◌, ◌∙◌}
use Rattle.std.specs.Prelude.{map}
use Rattle.std.specs.List.{range_with_len}
use Rattle.wfe_core.specs.words.declared.config.Config.{Config}
use Rattle.wfe_core.proofs.Ranges.{bounds_of}
use Rattle.wfe_drive_rule.specs.Views.{Handle, bare_view, fresh_track}
use Rattle.wfe_table.specs.Public.{TableNow, new_seat}
use Rattle.wfe_table.proofs.Seats.{seats_more}
use Rattle.wfe_table.proofs.shared.later_seats.Goals as goal

pub loop-number-preserved : goal.loop-number-preserved
loop-number-preserved c =
    let i = c.loop-number.invariant in
    let shared : TableNow = record { table = c.args.ledger.now.table_id; layout = c.args.layout } in
    record {
      ids = c.next_seat.ensures.ids ∙ i.ids;
      some = omega arith;
      counts = c.next_seat.ensures.counts;
      seats = seats_more shared c.loop-number.seats.items c.push.new.self.items c.loop-number.number c.in_ok-seat.seat i.some i.seats c.in_ok-seat.ensures.seat (search rules);
    }

pub returns-clause-first : goal.returns-clause-first
returns-clause-first c =
    let count = ap (λ (config : Config). config.seats) c.config-count.ensures in
    let all : c.loop-number.number ≡ c.args.layout.config.seats = omega (arith, c.loop-number.auto.number-end, c.loop-number-test.false, count, (bounds_of c.args.layout c.requires.valid).seats) in
    c.loop-number.invariant.counts ∙ ap (λ (n : ℕ). let me : Handle = (bare_view n (fresh_track c.args.layout 0), []) in me) all

pub returns-clause-seats : goal.returns-clause-seats
returns-clause-seats c =
    let count = ap (λ (config : Config). config.seats) c.config-count.ensures in
    let all : c.loop-number.number ≡ c.args.layout.config.seats = omega (arith, c.loop-number.auto.number-end, c.loop-number-test.false, count, (bounds_of c.args.layout c.requires.valid).seats) in
    let shared : TableNow = record { table = c.args.ledger.now.table_id; layout = c.args.layout } in
    c.loop-number.invariant.seats ∙ ap (λ (n : ℕ). map (new_seat shared) (range_with_len 1 (n - 1))) all
