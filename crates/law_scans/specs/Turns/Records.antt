-- What the record and the turns of each history keep, whatever calls begin and whichever seats make their steps.
use Rattle.std.specs.Prelude.{List, true, ◌≡◌, ℕ, false}
use Rattle.law_reuse.specs.laws.words.Place.{is_valid}
use Rattle.law_reuse.specs.laws.words.Schemes.{is_wfe, is_he, is_ibr, publishes_eras, publishes_rows}
use Rattle.law_reuse.specs.laws.words.declared.layout.Layout.{Layout}
use Rattle.law_reuse.specs.history.Heard.{heard_of}
use Rattle.law_reuse.specs.history.History.{Item, record_of}
use Rattle.law_reuse.specs.laws.records.Record.{EachEntry}
use Rattle.law_reuse.specs.laws.records.Turns.{EachTurn}
use Rattle.law_reuse.specs.laws.HistoryTurns.{numbers_right, loads_right, handed_right}
use Rattle.law_reuse.specs.laws.HistorySteps.{turns_bounded, lasts_right, withdrawn_right, tries_right, found_last}
use Rattle.law_reuse.specs.laws.StepLaw.{WithdrawLaw, hazards_ok}

-- each history keeps it under Wait-Free Eras, whatever calls begin and whichever seats make their steps
abbrev pub ProtectionsEnd : Type 0
ProtectionsEnd = (layout : Layout) (items : List Item) → is_valid layout ≡ true → is_wfe layout.config.scheme ≡ true → EachTurn (turns_bounded layout.config.tries) (heard_of layout items)

-- each history keeps it under Wait-Free Eras, whatever calls begin and whichever seats make their steps
abbrev pub ProtectionsLast : Type 0
ProtectionsLast =
    (layout : Layout) (items : List Item) (j : ℕ)
    → is_valid layout ≡ true
    → is_wfe layout.config.scheme ≡ true
    → EachTurn (lasts_right layout.config.tries j) (heard_of layout items)

-- each history keeps it, whatever calls begin and whichever seats make their steps
abbrev pub WithdrawalsFollow : Type 0
WithdrawalsFollow = (layout : Layout) (items : List Item) → is_valid layout ≡ true → EachTurn withdrawn_right (heard_of layout items)

-- each history keeps it under Hazard Eras, whatever calls begin and whichever seats make their steps
abbrev pub TriesCount : Type 0
TriesCount = (layout : Layout) (items : List Item) → is_valid layout ≡ true → is_he layout.config.scheme ≡ true → EachTurn tries_right (heard_of layout items)

-- each history keeps it where index words publish eras, whatever calls begin and whichever seats make their steps
abbrev pub ProtectionsCount : Type 0
ProtectionsCount = (layout : Layout) (items : List Item) → is_valid layout ≡ true → publishes_eras layout.config.scheme ≡ true → EachTurn numbers_right (heard_of layout items)

-- each history keeps it where index words publish rows, whatever calls begin and whichever seats make their steps
abbrev pub LoadsCount : Type 0
LoadsCount = (layout : Layout) (items : List Item) → is_valid layout ≡ true → publishes_rows layout.config.scheme ≡ true → EachTurn loads_right (heard_of layout items)

-- so each history's record does
abbrev pub HazardsCount : Type 0
HazardsCount = (layout : Layout) (items : List Item) → is_valid layout ≡ true → publishes_rows layout.config.scheme ≡ true → EachEntry hazards_ok (record_of layout items)

-- each history keeps it but under 2GE, whatever calls begin and whichever seats make their steps
abbrev pub HandoversMeet : Type 0
HandoversMeet = (layout : Layout) (items : List Item) → is_valid layout ≡ true → is_ibr layout.config.scheme ≡ false → EachTurn handed_right (heard_of layout items)

-- each history's record keeps it, whatever calls begin and whichever seats make their steps
abbrev pub RecordsWithdrawNext : Type 0
RecordsWithdrawNext = (layout : Layout) (items : List Item) → is_valid layout ≡ true → WithdrawLaw (record_of layout items)

-- so do the turns of each history
abbrev pub TurnsFindLast : Type 0
TurnsFindLast = (layout : Layout) (items : List Item) → is_valid layout ≡ true → EachTurn found_last (heard_of layout items)
