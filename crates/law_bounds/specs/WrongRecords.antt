-- Wrong records, each of which the sentence beside it refuses. No history tells one of them.
use Rattle.std.specs.Prelude.{List, None, Some, [], ℕ, ◌∷◌}
use Rattle.law_all.specs.RunLaw.{AtClose}
use Rattle.law_all.specs.inv.history.Record.{Past, tells_of}
use Rattle.law_all.specs.inv.history.Record.Past.{Start}
use Rattle.law_all.specs.inv.model.Desks.{no_notes}
use Rattle.law_all.specs.inv.model.Locals.{Group}
use Rattle.law_all.specs.inv.model.defs.declared.call.Answer.TheVariants as answers
use Rattle.law_all.specs.inv.model.defs.declared.call.Call.TheVariants as calls
use Rattle.law_all.specs.inv.model.defs.declared.event.Event.{Event}
use Rattle.law_all.specs.inv.model.defs.declared.event.Event.TheVariants as events
use Rattle.law_all.specs.inv.model.defs.declared.event.Guard.TheVariants as guards
use Rattle.law_all.specs.inv.model.defs.declared.event.Root.TheVariants as roots
use Rattle.law_all.specs.inv.model.defs.declared.lifetime.Lifetime.{Lifetime}
use Rattle.law_all.specs.inv.model.words.declared.config.Config.{Config}
use Rattle.law_all.specs.inv.model.words.declared.config.SchemeKind.{SchemeKind}
use Rattle.law_all.specs.inv.model.words.declared.config.SchemeKind.TheVariants.{He, Hp}
use Rattle.law_bounds.specs.Eras.{StillBounds}
use Rattle.law_bounds.specs.Hazards.{HazardBounds, RowsNeeded}
use Rattle.law_bounds.specs.Kept.{KeepsFew}
use Rattle.law_bounds.specs.Rows.{ClosesWhole, FewTaken, NoneLost}
use Rattle.law_bounds.specs.Scans.{ScanBounds}
use Rattle.law_bounds.specs.Waits.{WaitsFew}

-- one seat of three indexes, two buckets and this many slots
abbrev pub small : SchemeKind → (slots : ℕ) → Config
small scheme slots =
    record { scheme = scheme; seats = 1; indexes = 3; slots = slots; buckets = 2; tries = 1; every = 2; last_era = 9; last_version = 9; pairs = 6 }

abbrev pub by_seat : List Event → Past
by_seat told = tells_of Start 0 told

abbrev pub linked : (bucket slot : ℕ) → List Event → List Event
linked bucket slot told = events.Link (roots.Bucket bucket) slot ∷ events.Put bucket 1 bucket 7 ∷ told

-- Rows. One is given, and is nowhere when the call ends.
abbrev pub lost_row : Past
lost_row = by_seat (events.Begin (calls.Put 0 7) ∷ events.Give 0 1 ∷ events.End 9 answers.Full ∷ [])

-- one that a bucket has is free
abbrev pub free_row : Past
free_row = by_seat (events.Begin (calls.Put 0 7) ∷ linked 0 0 [])

-- two buckets have the same one
abbrev pub shared_row : Past
shared_row = by_seat (events.Begin (calls.Put 0 7) ∷ events.Give 0 1 ∷ linked 0 0 (linked 1 0 []))

-- a bucket is changed and has none
abbrev pub no_link : Past
no_link = by_seat (events.Begin (calls.Put 0 7) ∷ events.Put 0 1 0 7 ∷ [])

-- a value is queued that no row has
abbrev pub no_item : Past
no_item = by_seat (events.Begin (calls.Enqueue 7) ∷ events.Queued 1 7 ∷ [])

-- a call has two in hand
abbrev pub two_rows : Past
two_rows = by_seat (events.Begin (calls.Put 0 7) ∷ events.Give 0 1 ∷ events.Give 1 1 ∷ [])

pub record RowsRefused : Type 0 where
  pub lost : NoneLost (small Hp 2) lost_row → ⊥
  pub freed : NoneLost (small Hp 2) free_row → ⊥
  pub shared : NoneLost (small Hp 2) shared_row → ⊥
  pub changed : NoneLost (small Hp 2) no_link → ⊥
  pub queued : NoneLost (small Hp 2) no_item → ⊥
  pub freed_in_call : FewTaken (small Hp 2) free_row → ⊥
  pub shared_in_call : FewTaken (small Hp 2) shared_row → ⊥
  pub handed : FewTaken (small Hp 2) two_rows → ⊥

-- Scans. A row is retired twice.
abbrev pub retires : List Event → Past
retires told = by_seat (events.Begin (calls.Remove 0) ∷ events.Retire 0 1 1 ∷ told)

abbrev pub twice_retired : Past
twice_retired = retires (events.Retire 0 1 1 ∷ events.End 9 (answers.Absent 0) ∷ [])

-- a block shows nothing, and a row stays
abbrev pub kept_unseen : Past
kept_unseen =
    retires (
    events.Saw (guards.Index 0 0) None
    ∷ events.Saw (guards.Index 0 1) None
    ∷ events.Saw (guards.Index 0 2) None
    ∷ events.End 9 (answers.Absent 0) ∷ [])

-- a list of one life is taken over as one of none
abbrev pub miscounted : Past
miscounted =
    tells_of (retires (events.End 9 (answers.Absent 0) ∷ [])) 1
    (events.Begin (calls.Adopt 0) ∷ events.Adopted 0 0 ∷ events.End 1 (answers.Adopted 0) ∷ [])

-- a scan sees a row that no guard publishes, and so it stays
abbrev pub seen_wrongly : Past
seen_wrongly = retires (events.Saw (guards.Index 0 0) (Some 0) ∷ events.End 9 (answers.Absent 0) ∷ [])

pub record ScansRefused : Type 0 where
  pub twice : ScanBounds (small Hp 2) twice_retired → ⊥
  pub unseen : ScanBounds (small Hp 2) kept_unseen → ⊥
  pub more : ScanBounds (small Hp 2) miscounted → ⊥
  pub stays : ScanBounds (small Hp 2) seen_wrongly → ⊥

-- Hazards. Six rows are retired with no scan, in a call or when it has ended.
abbrev pub six_retired : List Event → Past
six_retired told =
    retires (events.Retire 1 1 1 ∷ events.Retire 2 1 1 ∷ events.Retire 3 1 1 ∷ events.Retire 4 1 1 ∷ events.Retire 5 1 1 ∷ told)

abbrev pub unscanned : Past
unscanned = six_retired (events.End 9 (answers.Absent 0) ∷ [])

-- ten rows are given in a call
abbrev pub ten_given : Past
ten_given =
    by_seat (
    events.Begin (calls.Put 0 7)
    ∷ events.Give 0 1
    ∷ events.Give 1 1
    ∷ events.Give 2 1
    ∷ events.Give 3 1
    ∷ events.Give 4 1
    ∷ events.Give 5 1
    ∷ events.Give 6 1
    ∷ events.Give 7 1
    ∷ events.Give 8 1
    ∷ events.Give 9 1 ∷ [])

pub record HazardsRefused : Type 0 where
  pub closed : HazardBounds (small Hp 9) unscanned → ⊥
  pub in_call : HazardBounds (small Hp 9) (six_retired []) → ⊥
  pub needed : RowsNeeded (small Hp 12) ten_given → ⊥

-- Eras. A guard publishes the first era; the clock is moved; then a call is given a row with that era as its birth, and retires it.
abbrev pub first_era : Event
first_era = events.Reserve (guards.Index 0 0) (Some (record { lo = 1; hi = 1 }))

abbrev pub too_early : Past
too_early =
    tells_of (by_seat (events.Begin (calls.Get 0) ∷ first_era ∷ events.Era 2 ∷ [])) 1
    (events.Begin (calls.Put 0 7) ∷ events.Give 0 1 ∷ events.Retire 0 1 2 ∷ [])

-- it keeps a row that was never given
abbrev pub never_given : Past
never_given = by_seat (events.Begin (calls.Remove 0) ∷ first_era ∷ events.Retire 0 1 1 ∷ [])

pub record ErasRefused : Type 0 where
  pub young : StillBounds (small He 2) too_early → ⊥
  pub old : StillBounds (small He 2) never_given → ⊥

-- What guards keep. Eight rows are retired in one era, which a guard publishes; and a scan reads that, and keeps them.
abbrev pub two_more : List Event → List Event
two_more told = events.Retire 6 1 1 ∷ events.Retire 7 1 1 ∷ told

abbrev pub eight_retired : Past
eight_retired = six_retired (two_more [])

abbrev pub eight_kept : Past
eight_kept =
    six_retired (two_more (events.Read (guards.Index 0 0) (Some (record { lo = 1; hi = 1 })) ∷ events.End 9 (answers.Absent 0) ∷ []))

-- four rows are retired once the clock has moved, with lives in the era before, in which nobody had them
abbrev pub from_nowhere : Past
from_nowhere =
    by_seat (events.Begin (calls.Remove 0) ∷ events.Era 2 ∷ events.Retire 0 1 1 ∷ events.Retire 1 1 1 ∷ events.Retire 2 1 1 ∷ events.Retire 3 1 1 ∷ [])

pub record KeptRefused : Type 0 where
  pub pace : KeepsFew (small He 9) (six_retired []) → ⊥
  pub parts : KeepsFew (small He 9) from_nowhere → ⊥
  pub all : KeepsFew (small He 9) eight_retired → ⊥
  pub scan : KeepsFew (small He 9) eight_kept → ⊥

-- What waits for a seat. Another list is shown; one has a row twice; a row stays that nothing keeps; a list of one life came as one of none; six
-- rows wait for a scan; a list came that no call has answered; and a closed table shows that the dummy is free.
abbrev pub lone_life : Lifetime
lone_life = record { slot = 0; birth = 1; retire = 1 }

abbrev pub six_lives : List Lifetime
six_lives =
    lone_life
    ∷ record { slot = 1; birth = 1; retire = 1 }
    ∷ record { slot = 2; birth = 1; retire = 1 }
    ∷ record { slot = 3; birth = 1; retire = 1 }
    ∷ record { slot = 4; birth = 1; retire = 1 }
    ∷ record { slot = 5; birth = 1; retire = 1 } ∷ []

abbrev pub unanswered : Past
unanswered =
    tells_of (retires (events.End 9 (answers.Absent 0) ∷ [])) 1
    (events.Begin (calls.Adopt 0) ∷ events.Adopted 0 1 ∷ events.End 1 (answers.Adopted 1) ∷ [])

abbrev pub no_dummy : AtClose
no_dummy = record { clock = 1; buckets = []; queue = []; used = [] }

abbrev pub scanned : Group
scanned = record { call = calls.Scan; answer = answers.Scanned 1 0; notes = no_notes }

pub record WaitsRefused : Type 0 where
  pub other : WaitsFew (small Hp 2) 0 Start [] (lone_life ∷ []) → ⊥
  pub twice : WaitsFew (small Hp 2) 0 twice_retired [] (lone_life ∷ lone_life ∷ []) → ⊥
  pub unseen : WaitsFew (small Hp 2) 0 kept_unseen [] (lone_life ∷ []) → ⊥
  pub blank : WaitsFew (small Hp 2) 0 kept_unseen [] (lone_life ∷ []) → ⊥
  pub emptied : WaitsFew (small Hp 2) 0 kept_unseen (scanned ∷ []) (lone_life ∷ []) → ⊥
  pub more : WaitsFew (small Hp 2) 1 miscounted [] (lone_life ∷ []) → ⊥
  pub late : WaitsFew (small He 9) 0 unscanned [] six_lives → ⊥
  pub came : WaitsFew (small He 9) 1 unanswered [] (lone_life ∷ []) → ⊥
  pub hazards : WaitsFew (small Hp 9) 0 unscanned [] six_lives → ⊥
  pub eras : WaitsFew (small He 9) 0 unscanned [] six_lives → ⊥
  pub closed : ClosesWhole no_dummy 0 → ⊥

pub record WrongRefused : Type 0 where
  pub rows : RowsRefused
  pub scans : ScansRefused
  pub hazards : HazardsRefused
  pub eras : ErasRefused
  pub kept : KeptRefused
  pub waits : WaitsRefused
