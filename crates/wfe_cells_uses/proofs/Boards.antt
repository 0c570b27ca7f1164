-- What was written is read at its version, by one that was told of it.
use Rattle.std.proofs.Common.{List, ap, arith, length, subst, sym, ℕ, ◌++◌, ◌∙◌, ◌≡◌, ◌≢◌}
use Rattle.std.proofs.lemmas.List.{append_assoc}
use Rattle.wfe_cells.proofs.Words.{versions_agree}
use Rattle.wfe_cells.specs.Wide.{IsShown}
use Rattle.wfe_cells.specs.declared.wide.Seen.{Seen}
use Rattle.wfe_cells_uses.specs.Boards.{IsWhole}
use Rattle.wfe_core.specs.words.declared.layout.Layout.{Layout}
use Rattle.wfe_table.specs.Hearing.{IsAware}
use Rattle.wfe_table.specs.Public.{SeatNow}
use Rattle.wfe_table.specs.all.Logs.Answered.{IsMet}
use Rattle.wfe_table.specs.all.Logs.Versions.{counts_of}
use Rattle.wfe_table.specs.history.History.{Item, record_of}

pub whole : (layout : Layout) (old mid new : SeatNow) (heard more : List Item) (cell : ℕ) (written seen : Seen) (words read : List ℕ) → written.object ≢ 0 → IsShown layout heard cell written words → IsAware layout old mid heard → new.track.past ≡ mid.track.past ++ more
    → IsShown layout new.track.past cell seen read → IsMet (counts_of (record_of layout mid.track.past)) (record_of layout new.track.past) cell seen.version → length words ≡ length read → IsWhole written.version words seen read
whole layout old mid new heard more cell written seen words read some shown aware grows found met same =
    let later : List Item = aware.knows.0 ++ more in
    let e : new.track.past ≡ heard ++ later = grows ∙ ap (λ (items : List Item). items ++ more) aware.knows.1 ∙ append_assoc heard aware.knows.0 more in
    let there : IsShown layout (heard ++ later) cell seen read = subst (λ (items : List Item). IsShown layout items cell seen read) e found in
    record {
      later = omega (arith, shown.within.had, aware.counts.versions cell, met.since);
      same = λ v. sym ((versions_agree layout heard later cell written seen words read shown there (sym v) some same).1);
    }
