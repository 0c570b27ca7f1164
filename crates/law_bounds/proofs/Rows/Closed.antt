-- What a closed table shows: as many rows are taken as buckets were changed, values are left with the dummy, and lives wait on lists.
use Rattle.std.proofs.Common.{ℕ, zero, suc, ◌≡◌, ◌+◌, List, [], ◌∷◌, length, map, refl, ap, ◌∙◌, arith}
use Rattle.std.proofs.Math.ListN.{length-drop}
use Rattle.std.proofs.lemmas.List.FromFn.{sum_by-map-range_with_len_more}
use Rattle.std.specs.List.{range_with_len}
use Rattle.std.specs.Prelude.{count_by, drop, if◌then◌else◌, nat_lt}
use Rattle.law_all.proofs.Runs.Numbers.{one_counts}
use Rattle.law_all.specs.Runs.{at_close}
use Rattle.law_all.specs.inv.history.History.{record_of}
use Rattle.law_all.specs.inv.history.Record.{Past}
use Rattle.law_all.specs.inv.model.words.declared.layout.Layout.{Layout}
use Rattle.law_all.specs.laws.StructuresAt.{Filling, count_of, filling_at, numbered_from, queued_of, taken_of}
use Rattle.law_bounds.specs.Rows.{ClosesLoseNone, ClosesWhole, NoneLost, changed_below, is_changed, listed_below, used_at, waiting_at}
use Rattle.law_bounds.proofs.Rows.Lost.{records_lose_none}

buckets_closed : (n : ℕ) (p : Past) → count_by is_changed (map (filling_at p) (range_with_len 0 n)) ≡ changed_below n p
buckets_closed zero p = refl
buckets_closed (suc n) p =
    let first : ℕ → ℕ = λ m. count_by is_changed (map (filling_at p) (range_with_len 0 m)) in
    let next : suc n ≡ n + 1 = omega arith in
    let more : first (n + 1) ≡ first n + (if is_changed (filling_at p n) then 1 else 0) =
    sum_by-map-range_with_len_more (λ (x : Filling). if is_changed x then 1 else 0) (filling_at p) 0 n n (omega arith) in
    ap first next ∙ more ∙ ap (λ (x : ℕ). x + (if is_changed (filling_at p n) then 1 else 0)) (buckets_closed n p)
    ∙ ap (λ (x : ℕ). changed_below n p + x) (one_counts (nat_lt 0 (count_of n p)))

numbered_long : (before : ℕ) (values : List ℕ) → length (numbered_from before values) ≡ length values
numbered_long before [] = refl
numbered_long before (value ∷ values) = ap suc (numbered_long (before + 1) values)

queue_closed : (p : Past) → length (numbered_from (taken_of p) (drop (taken_of p) (queued_of p))) ≡ waiting_at p
queue_closed p = numbered_long (taken_of p) (drop (taken_of p) (queued_of p)) ∙ length-drop (taken_of p) (queued_of p)

closes : (layout : Layout) (p : Past) → NoneLost layout.config p → ClosesWhole (at_close layout p) (listed_below layout.config.seats p)
closes layout p g =
    let number : length (used_at layout.config.slots p) ≡ changed_below layout.config.buckets p + (suc (waiting_at p) + listed_below layout.config.seats p) = g.number in
    let buckets = buckets_closed layout.config.buckets p in
    let queue = queue_closed p in
    record { number = omega (arith, number, buckets, queue) }

pub closes_lose_none : ClosesLoseNone
closes_lose_none layout items a = closes layout (record_of layout items) (records_lose_none layout items a)
