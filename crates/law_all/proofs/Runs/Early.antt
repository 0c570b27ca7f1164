-- A call that was given no row has no row that went back before it was given one.
use Rattle.std.proofs.Common.{List, None, ap, refl, sym, ℕ, ◌∙◌, ◌≡◌}
use Rattle.law_all.specs.inv.model.Desks.{Notes}
use Rattle.law_all.specs.inv.model.Locals.{Group}
use Rattle.law_all.specs.inv.model.defs.declared.event.Event.{Event}
use Rattle.law_all.specs.inv.model.defs.declared.event.Event.TheVariants as events
use Rattle.law_all.specs.inv.history.Record.{Past}
use Rattle.law_all.proofs.letter.Each.{counted_by}
use Rattle.law_all.specs.Logs.Ledgers.{Ledger, ledger_by, no_ledger}
use Rattle.law_all.specs.Logs.Records.{IsEnded}
use Rattle.law_all.specs.laws.StateAt.{is_give}
use Rattle.law_all.proofs.Logs.Runs.Notes.{both_seen}

abbrev Early : Ledger → ℕ → Type 0
Early x n = x.notes.given ≡ None → x.notes.early ≡ 0

early_by : (event : Event) (x : Ledger) (n : ℕ) → Early x n → Early (ledger_by event x) (counted_by is_give event n)
early_by (events.Begin call) x n h e = refl
early_by (events.Give slot birth) x n h e = absurd (cc)
early_by event x n h e = h e

-- a call that has ended
pub ended_early : (k : ℕ) (r : Past) (before : List Group) (group : Group) → IsEnded k r before group → group.notes.given ≡ None → group.notes.early ≡ 0
ended_early k r before group e none =
    ap (λ (x : Notes). x.early) e.notes
    ∙ both_seen Early ledger_by no_ledger (counted_by is_give) 0 (λ given. refl) early_by k e.at (sym (ap (λ (x : Notes). x.given) e.notes) ∙ none)
