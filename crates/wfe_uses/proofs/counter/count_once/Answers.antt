-- A put that is done is one count more.
use Rattle.std.proofs.Common.{arith, subst, ◌+◌, ◌≡◌, ℕ}
use Rattle.wfe_uses.proofs.Counting.{counts_done, counts_got, counts_refused}
use Rattle.wfe_uses.specs.Counting.{Counts}
use Rattle.wfe_uses.proofs.counter.count_once.Goals as goal

pub returns-in_default-clause-counts : goal.returns-in_default-clause-counts
returns-in_default-clause-counts c times counts =
    let got = c.get-got.result in
    let same : times ≡ times + 0 = omega arith in
    subst (λ (n : ℕ). Counts c.args.key c.get-got.new.seat.track.local.log n) same (counts_got c.args.shared.now.layout c.args.key got.version times got.value c.args.seat.now c.get-got.new.seat c.get-got.ensures.made counts)

pub returns-in-Ok-clause-counts : goal.returns-in-Ok-clause-counts
returns-in-Ok-clause-counts c times counts =
    let got = c.get-got.result in
    let done = c.in-Ok._done in
    counts_done c.args.shared.now.layout c.args.key got.version times c.in-Some.next done.version done.clock got.value c.args.seat.now c.get-got.new.seat c.put_if.new.seat c.get-got.ensures.made c.in-Some.ensures c.in-Ok.ensures.made counts

pub returns-in-Err-Stale-clause-counts : goal.returns-in-Err-Stale-clause-counts
returns-in-Err-Stale-clause-counts c times counts =
    let got = c.get-got.result in
    counts_refused c.args.shared.now.layout c.args.key got.version times c.in-Some.next c.in-Err-Stale.field-0 got.value c.args.seat.now c.get-got.new.seat c.put_if.new.seat c.get-got.ensures.made c.in-Some.ensures c.in-Err-Stale.ensures.made counts

pub returns-in-Err-clause-counts : goal.returns-in-Err-clause-counts
returns-in-Err-clause-counts c times counts =
    let got = c.get-got.result in
    counts_refused c.args.shared.now.layout c.args.key got.version times c.in-Some.next c.in-Err.field-0 got.value c.args.seat.now c.get-got.new.seat c.put_if.new.seat c.get-got.ensures.made c.in-Some.ensures c.in-Err.ensures.made counts
