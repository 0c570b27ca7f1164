-- In the record of each history few rows are retired.
use Rattle.std.proofs.Common.{ℕ, ◌≡◌, ◌≤◌, ◌<◌, ◌+◌, ◌*◌, true, List, [], refl, subst, arith}
use Rattle.std.proofs.lemmas.Nat.{mul-le}
use Rattle.law_reuse.specs.laws.words.Place.{is_valid}
use Rattle.law_reuse.specs.laws.words.declared.layout.Layout.{Layout}
use Rattle.law_reuse.proofs.inv.model.Ranges.{bounds_of}
use Rattle.law_reuse.specs.inv.model.Valid as ranges
use Rattle.law_reuse.proofs.laws.records.Entries.{each_of_entries, each_before}
use Rattle.law_reuse.specs.laws.MapLaw.{map_ok}
use Rattle.law_reuse.specs.laws.defs.Entry.{Entry}
use Rattle.law_reuse.specs.laws.records.Record.{Past, Each, tells}
use Rattle.law_reuse.specs.history.History.{Item, record_of}
use Rattle.law_reuse.proofs.Lawful.Maps.{records_keep_map}
use Rattle.law_reuse.specs.laws.HistoryRows.{OrderLaw}
use Rattle.law_reuse.specs.laws.Once.{order_ok, retiring_ok}
use Rattle.law_scans.proofs.Placing.Keeps.{records_retire_cuts}
use Rattle.law_scans.proofs.Ordering.Ordered.{records_keep_order}
use Rattle.law_reuse.specs.laws.StateAt.{told, is_retire, takes_out}
use Rattle.law_scans.specs.Records.{RecordsRetireFew}
use Rattle.law_scans.proofs.FewRetired.Cuts.{retired_taken}
use Rattle.law_scans.proofs.FewRetired.Changes.{out_most}
use Rattle.law_scans.proofs.FewRetired.Versions.{Bounds, record_bounds}

-- so many versions and numbers are fewer than a count of 64 bits has room for
room_for : (buckets most retired taken : ℕ) → buckets ≤ 1024 → most ≤ 281474976710656 → retired ≤ taken → taken ≤ (buckets + 1) * most → retired < 18446744073709551615
room_for buckets most retired taken b m r t =
    let p : (buckets + 1) * most ≤ 1025 * 281474976710656 = mul-le (buckets + 1) most 1025 281474976710656 (omega (arith, b)) m in
    omega (arith, p, r, t)

-- at each position
before_few : (layout : Layout) (items : List Item) → is_valid layout ≡ true → (before : Past) (later : List Entry) → record_of layout items ≡ tells before later → told is_retire before ≤ told takes_out before
before_few layout items d before later cut =
    let p : Past = record_of layout items in
    let slots : ℕ = layout.config.slots in
    let o : OrderLaw slots p = records_keep_order layout items d in
    retired_taken slots before (each_before retiring_ok before later (subst (Each retiring_ok) cut (each_of_entries retiring_ok p (records_retire_cuts layout items d))))
    (each_before (order_ok slots) before later (subst (Each (order_ok slots)) cut (each_of_entries (order_ok slots) p o.each)))

pub records_retire_few : RecordsRetireFew
records_retire_few layout items d =
    let p : Past = record_of layout items in
    let c : ranges.Bounds layout.config = bounds_of layout d in
    let v : Bounds layout.config.last_version p = record_bounds layout items d in
    let r : told is_retire p ≤ told takes_out p = before_few layout items d p [] refl in
    let t : told takes_out p ≤ (layout.config.buckets + 1) * layout.config.last_version =
    out_most layout.config.buckets layout.config.last_version p c.buckets.0 (each_of_entries (map_ok layout.config.buckets) p (records_keep_map layout items d)) v.versions v.taken in
    record { retired = before_few layout items d; taken = t; room = room_for layout.config.buckets layout.config.last_version (told is_retire p) (told takes_out p) c.buckets.1 c.versions.1 r t }
