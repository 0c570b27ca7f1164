-- Where all seats are between calls: a total over their logs is what the record tells of a kind of events.
use Rattle.std.proofs.Common.{ℕ, Bool, true, false, List, sym, ◌∙◌, subst}
use Rattle.std.specs.List.{sum_by}
use Rattle.std.specs.Prelude.{nat_lt}
use Rattle.law_all.proofs.inv.model.Facts.{first_of}
use Rattle.law_all.specs.inv.model.Locals.{Group}
use Rattle.law_all.specs.inv.model.words.declared.config.Config.{Config}
use Rattle.law_all.specs.inv.model.words.declared.layout.Layout.{Layout}
use Rattle.law_all.specs.laws.HistoryTable.{is_in_range, ranges_ok}
use Rattle.law_all.specs.laws.StateAt.{told}
use Rattle.law_all.proofs.Logs.Ledgers.{records_keep_logs}
use Rattle.law_all.specs.inv.history.History.{Item, record_of, world_of}
use Rattle.law_all.specs.inv.history.Record.{Each, Past}
use Rattle.law_all.specs.inv.history.Record.Past.{Start, Then}
use Rattle.law_all.specs.RunLaw.{total}
use Rattle.law_all.specs.Runs.{AtRest, logs_of}
use Rattle.law_all.proofs.Runs.Kept.{Kept, histories_keep}
use Rattle.law_all.proofs.Runs.Totals.{of_seats, own_count, sum_most, sum_same, sum_seats, told_is, total_is}
use Rattle.law_all.proofs.Runs.Weights.{Fits, Measure, Weighs, log_fits}

pub seats_of : (c : Config) (p : Past) → Each (ranges_ok c) p → Each (of_seats c.seats) p
seats_of c Start h = tt
seats_of c (Then p i event) h = (first_of (nat_lt i c.seats) (is_in_range c event) h.0, seats_of c p h.1)

-- summed over the seats
sum_fits : (exact : Bool) (f g : ℕ → ℕ) (n : ℕ) → ((k : ℕ) → Fits exact (f k) (g k)) → Fits exact (sum_seats f n) (sum_seats g n)
sum_fits true f g n h = sum_same f g n h
sum_fits false f g n h = sum_most f g n h

pub totals_fit :
    (layout : Layout) (items : List Item) (m : Measure)
    → Weighs layout.config m
    → AtRest layout items
    → Fits m.exact (total m.weight (logs_of layout items)) (told m.kind (record_of layout items))
totals_fit layout items m w a =
    let n : ℕ = layout.config.seats in
    let r : Past = record_of layout items in
    let l : Kept layout.config r = histories_keep layout items a.valid in
    let log : ℕ → List Group = λ k. ((world_of layout items).seat k).log in
    let each : (k : ℕ) → Fits m.exact (sum_by m.weight (log k)) (own_count k m.kind r) =
    λ k. let g = records_keep_logs layout items k a.valid in
    subst (λ (x : List Group). Fits m.exact (sum_by m.weight x) (own_count k m.kind r)) g.log (log_fits layout.config m k r w l (g.busy ∙ a.idle k)) in
    subst (λ (x : ℕ). Fits m.exact x (told m.kind r)) (sym (total_is m.weight log n))
    (subst (λ (x : ℕ). Fits m.exact (sum_seats (λ k. sum_by m.weight (log k)) n) x) (told_is n m.kind r (seats_of layout.config r l.ranges))
    (sum_fits m.exact (λ k. sum_by m.weight (log k)) (λ k. own_count k m.kind r) n each))
