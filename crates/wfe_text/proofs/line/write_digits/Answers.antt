use Rattle.std.proofs.Common.{◌≡◌, ◌≤◌, ◌+◌, ◌-◌, ◌/◌, ◌%◌, ◌∷◌, [], ◌++◌, drop, length, ap, ◌∙◌, arith, append-nil, append_assoc, drop_of_length-le}
use Rattle.std.specs.Fmt.{decimal}
use Rattle.std.proofs.lemmas.Fmt.{decimal_digit, decimal_nonempty, decimal_step}
use Rattle.std.proofs.lemmas.List.{drop-set}
use Rattle.wfe_text.proofs.Digits.{length_step, twenty_digits}
use Rattle.wfe_text.proofs.line.write_digits.Goals as goal

pub loop-left-init : goal.loop-left-init
loop-left-init c =
    let full : length c.args.digits.now ≤ 20 = omega arith in
    record {
      room = twenty_digits c.args.number (omega arith);
      within = omega arith;
      written = ap (λ t. decimal c.args.number ++ t) (drop_of_length-le c.args.digits.now full) ∙ append-nil (decimal c.args.number);
    }

pub overflow_sub-at : goal.overflow_sub-at
overflow_sub-at c = omega (arith, c.loop-left.invariant.room, decimal_nonempty c.loop-left.left c.loop-left.auto.left-fits.fits)

pub loop-left-preserved : goal.loop-left-preserved
loop-left-preserved c =
    let l = c.loop-left in
    let long = length_step l.left c.loop-left-test.true l.auto.left-fits.fits in
    let some = decimal_nonempty l.left l.auto.left-fits.fits in
    let next : l.at - 1 + 1 ≡ l.at = omega (arith, l.invariant.room) in
    record {
      room = omega (arith, l.invariant.room);
      within = omega (arith, l.invariant.within);
      written = rw (drop-set l.digits (l.at - 1) (48 + l.left % 10) (omega arith), next, ← append_assoc (decimal (l.left / 10)) ((48 + l.left % 10) ∷ []) (drop l.at l.digits), ← decimal_step l.left c.loop-left-test.true l.auto.left-fits.fits) l.invariant.written;
    }

pub overflow_sub-at-2 : goal.overflow_sub-at-2
overflow_sub-at-2 c = omega (arith, c.loop-left.invariant.room, decimal_nonempty c.loop-left.left c.loop-left.auto.left-fits.fits)

pub returns-clause-written : goal.returns-clause-written
returns-clause-written c =
    let l = c.loop-left in
    let some = decimal_nonempty l.left l.auto.left-fits.fits in
    let next : l.at - 1 + 1 ≡ l.at = omega (arith, l.invariant.room) in
    rw (drop-set l.digits (l.at - 1) (48 + l.left) (omega arith), next) (rw (decimal_digit l.left (omega (arith, c.loop-left-test.false))) at l.invariant.written)
