-- What waits on the lists of a table that is closed.
use Rattle.std.proofs.Common.{ℕ, zero, suc, ◌≡◌, ◌≤◌, ◌<◌, ◌+◌, ◌-◌, false, List, [], length, map, refl, ap, ◌∙◌, subst, arith}
use Rattle.std.proofs.Math.Nat.{suc-mul}
use Rattle.std.proofs.lemmas.List.FromFn.{sum_by-map-range_with_len_more}
use Rattle.std.proofs.lemmas.Nat.{mod_below}
use Rattle.std.specs.List.{range_with_len}
use Rattle.std.specs.Prelude.{◌%◌, ◌*◌, sum_by}
use Rattle.law_all.proofs.Logs.Ledgers.{records_keep_logs}
use Rattle.law_all.proofs.inv.model.Ranges.{bounds_of}
use Rattle.law_all.specs.inv.history.History.{record_of, world_of}
use Rattle.law_all.specs.inv.history.Record.{Past}
use Rattle.law_all.specs.inv.model.Locals.{Group}
use Rattle.law_all.specs.inv.model.World.{World}
use Rattle.law_all.specs.inv.model.words.declared.config.Config.{Config}
use Rattle.law_all.specs.laws.Lists.{list_of}
use Rattle.law_all.specs.laws.ScanLaw.{guards}
use Rattle.law_all.specs.laws.StateAt.{is_open, read_of, total_retires}
use Rattle.law_bounds.specs.Hazards.{HazardBounds}
use Rattle.law_bounds.specs.Rows.{listed_below}
use Rattle.law_bounds.specs.Kept.{read_most}
use Rattle.law_bounds.specs.Scans.{came_of, judged_of, late_of}
use Rattle.law_bounds.specs.Waits.{TablesCloseFew, came_below, came_in, read_below}
use Rattle.law_bounds.proofs.Eras.Scanned.{records_keep_few}
use Rattle.law_bounds.proofs.Hazards.Keeps.{records_bound_hazards}
use Rattle.law_bounds.proofs.Rows.Closed.{closes_lose_none}
use Rattle.law_bounds.proofs.Rows.Lost.{records_lose_none}
use Rattle.law_bounds.proofs.Waits.Came.{Told, came_most}
use Rattle.law_bounds.proofs.Scans.Judged.{closed_settled, judged_at}
use Rattle.law_bounds.proofs.Scans.Keeps as scans
use Rattle.law_bounds.proofs.Waits.Seats.{list_kept, seat_late, told}

-- over all seats
listed_most : (c : Config) (p : Past) → 0 < c.every → HazardBounds c p → ((k : ℕ) → is_open k p ≡ false) → (n : ℕ) → listed_below n p ≤ n * (c.seats * c.indexes + (c.every - 1)) + came_below n p
listed_most c p every h closed zero = omega arith
listed_most c p every h closed (suc n) =
    let more = listed_most c p every h closed n in
    let here : length (list_of n p) ≤ c.seats * c.indexes + total_retires n p % c.every + came_of n p = h.one p [] n refl (closed n) in
    let below : total_retires n p % c.every < c.every = mod_below (total_retires n p) c.every every in
    let next : suc n * (c.seats * c.indexes + (c.every - 1)) ≡ n * (c.seats * c.indexes + (c.every - 1)) + (c.seats * c.indexes + (c.every - 1)) = suc-mul n (c.seats * c.indexes + (c.every - 1)) in
    omega (arith, more, here, below, next)

-- what is known of one list under eras
record Few (c : Config) (queue k : ℕ) (p : Past) : Type 0 where
  judged : length (judged_of k p) ≤ read_most c queue (read_of (guards c) k p)
  size : length (list_of k p) ≤ length (judged_of k p) + (late_of k p + came_of k p)
  late : late_of k p < c.every

kept_most : (c : Config) (queue : ℕ) (p : Past) → ((k : ℕ) → Few c queue k p) → (n : ℕ) → listed_below n p ≤ read_below n c queue p + n * (c.every - 1) + came_below n p
kept_most c queue p f zero = omega arith
kept_most c queue p f (suc n) =
    let more = kept_most c queue p f n in
    let judged = (f n).judged in
    let size = (f n).size in
    let late = (f n).late in
    let next : suc n * (c.every - 1) ≡ n * (c.every - 1) + (c.every - 1) = suc-mul n (c.every - 1) in
    omega (arith, more, judged, size, late, next)

came_logs : (w : World) (p : Past) → ((k : ℕ) → came_of k p ≤ came_in (w.seat k).log) → (n : ℕ) → came_below n p ≤ sum_by came_in (map (λ (seat : ℕ). (w.seat seat).log) (range_with_len 0 n))
came_logs w p h zero = omega arith
came_logs w p h (suc n) =
    let logs : ℕ → ℕ = λ m. sum_by came_in (map (λ (seat : ℕ). (w.seat seat).log) (range_with_len 0 m)) in
    let next : logs (suc n) ≡ logs (n + 1) = let e : suc n ≡ n + 1 = omega arith in ap logs e in
    let one_more : logs (n + 1) ≡ logs n + came_in (w.seat n).log = sum_by-map-range_with_len_more came_in (λ (seat : ℕ). (w.seat seat).log) 0 n n (omega arith) in
    let more : came_below n p ≤ logs n = came_logs w p h n in
    let here = h n in
    omega (arith, next, one_more, more, here)

pub tables_close_few : TablesCloseFew
tables_close_few layout items a =
    let c : Config = layout.config in
    let p : Past = record_of layout items in
    let w : World = world_of layout items in
    let t : Told c p = told layout items a.valid in
    let closed : (k : ℕ) → is_open k p ≡ false = λ k. (records_keep_logs layout items k a.valid).busy ∙ a.idle k in
    record {
      rows = records_lose_none layout items a;
      number = closes_lose_none layout items a;
      lists = λ k stays. list_kept layout items k a.valid (a.idle k) stays;
      hazards = λ s.
          let every : 0 < c.every = let b = bounds_of layout a.valid in let low = b.every.0 in omega (arith, low) in
          listed_most c p every (records_bound_hazards layout items a.valid s) closed c.seats;
      eras = λ queue s low waited.
          kept_most c queue p
          (λ k.
          let t = scans.told_of_history layout items a.valid in
          record {
            judged = (records_keep_few layout items a.valid s).scan k queue (closed k) low waited;
            size = (closed_settled c k p t.calls (judged_at c k p t.blocks t.lists) (closed k)).size;
            late = seat_late layout items k a.valid (closed k);
          })
          c.seats;
      came = came_logs w p (λ k. subst (λ (log : List Group). came_of k p ≤ came_in log) (records_keep_logs layout items k a.valid).log (came_most c k p t (closed k))) c.seats;
    }
