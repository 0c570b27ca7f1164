-- How many rows a table with hazard pointers needs.
use Rattle.std.proofs.Common.{ℕ, zero, suc, ◌≡◌, ◌≤◌, ◌<◌, ◌+◌, Bool, true, false, length, arith}
use Rattle.std.proofs.Math.Nat.{suc-mul}
use Rattle.std.specs.Prelude.{nat_lt, ◌*◌}
use Rattle.law_all.specs.inv.history.History.{record_of}
use Rattle.law_all.specs.inv.history.Record.{Past}
use Rattle.law_all.specs.inv.model.words.declared.config.Config.{Config}
use Rattle.law_all.specs.laws.Lists.{is_handed}
use Rattle.law_all.specs.laws.StateAt.{is_open, one, taken_at, told}
use Rattle.law_all.specs.laws.StructuresAt.{count_of}
use Rattle.law_bounds.specs.Hazards.{FreeRow, RecordsNeedRows}
use Rattle.law_bounds.specs.Rows.{FewTaken, changed_below, listed_below, open_below, used_at, waiting_at}
use Rattle.law_bounds.proofs.Hazards.Keeps.{Sized, ever_bound, sized}
use Rattle.law_bounds.proofs.Rows.Counts.{Missing, filtered, missing}
use Rattle.law_bounds.proofs.Rows.Lost.{records_take_few}
use Rattle.law_bounds.proofs.Scans.Keeps.{Told, told_of_history}

pub one_most : (b : Bool) → one b ≤ 1
one_most true = omega arith
one_most false = omega arith

pub changed_most : (n : ℕ) (p : Past) → changed_below n p ≤ n
changed_most zero p = omega arith
changed_most (suc n) p =
    let more = changed_most n p in
    let here = one_most (nat_lt 0 (count_of n p)) in
    omega (arith, more, here)

-- what waits for a seat, and the row that it has in hand
seats_most : (config : Config) (p : Past) → Sized config → Told config p → told is_handed p ≡ 0 → (n : ℕ) → listed_below n p + open_below n p ≤ n * (config.seats * config.indexes + config.every + 1)
seats_most config p z t h zero = omega arith
seats_most config p z t h (suc n) =
    let more = seats_most config p z t h n in
    let here = ever_bound config n p z t h in
    let hand = one_most (is_open n p) in
    let next : suc n * (config.seats * config.indexes + config.every + 1) ≡ n * (config.seats * config.indexes + config.every + 1) + (config.seats * config.indexes + config.every + 1) =
    suc-mul n (config.seats * config.indexes + config.every + 1) in
    omega (arith, more, here, hand, next)

most : (config : Config) (p : Past) → Sized config → Told config p → FewTaken config p → told is_handed p ≡ 0
    → length (used_at config.slots p) ≤ config.buckets + suc (waiting_at p) + config.seats * (config.seats * config.indexes + config.every + 1)
most config p z t f h =
    let seats = seats_most config p z t h config.seats in
    let buckets = changed_most config.buckets p in
    let number = f.number in
    omega (arith, seats, buckets, number)

spare : (config : Config) (p : Past) → length (used_at config.slots p) < config.slots + 1 → FreeRow config p
spare config p h =
    let used = filtered (λ s. taken_at config.slots s p) 0 (config.slots + 1) in
    let x : Missing (λ s. taken_at config.slots s p) 0 (config.slots + 1) = missing (λ s. taken_at config.slots s p) 0 (config.slots + 1) (omega (arith, used, h)) in
    let high = x.high in
    record { slot = x.number; of_table = omega (arith, high); free = x.fails }

pub records_need_rows : RecordsNeedRows
records_need_rows layout items d s =
    let c : Config = layout.config in
    let p : Past = record_of layout items in
    let t : Told c p = told_of_history layout items d in
    let f : FewTaken c p = records_take_few layout items d in
    let z : Sized c = sized layout d s in
    record {
      most = λ h. most c p z t f h;
      spare = λ h room. let all = most c p z t f h in spare c p (omega (arith, all, room));
    }
