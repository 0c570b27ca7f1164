-- A version that the cell had since an attempt began it had since the first began.
use Rattle.std.proofs.Common.{arith, length, refl, subst, ◌∙◌, ◌≡◌, ℕ}
use Rattle.wfe_table.specs.history.History.{record_of}
use Rattle.wfe_cells.specs.Only.{IsGet}
use Rattle.wfe_cells.specs.Reasons.{AllDisturbed, IsDisturbed}
use Rattle.wfe_cells.specs.Reasons.AllDisturbed.{NoneYet, OneMore}
use Rattle.wfe_cells.proofs.Among.{later_grows, quiet_on, quiet_self}
use Rattle.wfe_cells.proofs.Only.{only_on, only_self}
use Rattle.wfe_cells.proofs.Words.{met_later}
use Rattle.wfe_cells.proofs.blocks.load_within.Goals as goal

pub loop-attempt-init : goal.loop-attempt-init
loop-attempt-init c = record { of = c.requires.of; quiet = quiet_self c.args.seat.now; only = only_self IsGet c.args.seat.now; long = refl; disturbed = NoneYet }

pub loop-attempt-preserved : goal.loop-attempt-preserved
loop-attempt-preserved c =
    let layout = c.args.shared.now.layout in
    let i = c.loop-attempt.invariant in
    let tried = c.try_load.ensures in
    let once : IsDisturbed layout c.args.cell (length c.args.words.now) c.loop-attempt.seat c.try_load.new.seat =
    subst (λ (n : ℕ). IsDisturbed layout c.args.cell n c.loop-attempt.seat c.try_load.new.seat) i.long c.in_default.ensures.disturbed in
    record {
      of = tried.of;
      quiet = quiet_on c.args.seat.now c.loop-attempt.seat c.try_load.new.seat i.quiet tried.quiet;
      only = only_on IsGet c.args.seat.now c.loop-attempt.seat c.try_load.new.seat i.only tried.only;
      long = tried.length ∙ i.long;
      disturbed = OneMore c.loop-attempt._attempt c.loop-attempt.seat c.try_load.new.seat i.disturbed once;
    }

pub returns-in-Some-clause-quiet : goal.returns-in-Some-clause-quiet
returns-in-Some-clause-quiet c = quiet_on c.args.seat.now c.loop-attempt.seat c.try_load.new.seat c.loop-attempt.invariant.quiet c.try_load.ensures.quiet

pub returns-in-Some-clause-only : goal.returns-in-Some-clause-only
returns-in-Some-clause-only c = only_on IsGet c.args.seat.now c.loop-attempt.seat c.try_load.new.seat c.loop-attempt.invariant.only c.try_load.ensures.only

pub returns-in-Some-clause-current : goal.returns-in-Some-clause-current
returns-in-Some-clause-current c =
    let layout = c.args.shared.now.layout in
    let i = c.loop-attempt.invariant in
    met_later (record_of layout c.args.seat.now.track.past) (record_of layout c.loop-attempt.seat.track.past) (record_of layout c.try_load.new.seat.track.past) c.args.cell c.in-Some.seen.version (later_grows layout c.args.seat.now c.loop-attempt.seat i.quiet.later) c.in-Some.ensures.current

pub returns-clause-disturbed : goal.returns-clause-disturbed
returns-clause-disturbed c =
    let all : c.loop-attempt._attempt ≡ c.args.attempts = omega (arith, c.loop-attempt-test.false, c.loop-attempt.auto._attempt-end) in
    subst (λ (n : ℕ). AllDisturbed c.args.shared.now.layout c.args.cell (length c.args.words.now) c.args.seat.now n c.loop-attempt.seat) all c.loop-attempt.invariant.disturbed
