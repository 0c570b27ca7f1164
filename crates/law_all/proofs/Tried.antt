-- How many tries a protection has made, and that their eras rise.
use Rattle.std.proofs.Common.{ℕ, ◌≡◌, ◌<◌, arith, Bool, true, false, Option, Some, None, refl, ap, ◌∙◌, subst}
use Rattle.std.proofs.lemmas.Bool.Decides.{nat_tests}
use Rattle.std.specs.Prelude.{◌==◌, ◌&&◌, ◌||◌, is_some, nat_lt, if◌then◌else◌}
use Rattle.law_reasons.specs.laws.words.Schemes.{is_he, is_wfe}
use Rattle.law_reasons.specs.laws.words.declared.config.Config.{Config}
use Rattle.law_reasons.specs.laws.words.declared.config.SchemeKind.{SchemeKind}
use Rattle.law_reasons.specs.laws.words.declared.config.SchemeKind.TheVariants.{He, Hp, Ibr, Wfe}
use Rattle.law_reasons.specs.laws.defs.Entry.{Entry}
use Rattle.law_reasons.specs.laws.defs.declared.event.Event.{Event}
use Rattle.law_reasons.specs.laws.defs.declared.event.Event.TheVariants as events
use Rattle.law_reasons.specs.laws.defs.declared.event.Guard.TheVariants.{Helper, Index, Whole}
use Rattle.law_reasons.specs.laws.defs.declared.lifetime.Interval.{Interval}
use Rattle.law_reasons.proofs.inv.model.Facts.{both, first_of, number_is, rest_of}
use Rattle.law_held.proofs.inv.history.Entries.{each_before, each_of_entries}
use Rattle.law_held.specs.inv.history.History.{record_of}
use Rattle.law_held.specs.inv.history.Record.{Past, Each}
use Rattle.law_held.specs.inv.history.Record.Past.{Start, Then}
use Rattle.law_reasons.proofs.Eras.EraLaw.Guards.{records_name_guards}
use Rattle.law_held.proofs.turns.TryEntries.{entries_tried}
use Rattle.law_reasons.specs.laws.StateAt.{began_of, is_index_word, reserves_of, value_of}
use Rattle.law_reasons.specs.laws.HistoryHolds.{indexes_ok}
use Rattle.law_held.proofs.Indexes.Indexing.{protects_below, records_use_indexes}
use Rattle.law_reasons.specs.laws.HistorySteps.{era_rises}
use Rattle.law_reasons.specs.laws.StateAt.{era_grows}
use Rattle.law_reasons.specs.laws.StepLaw.{event_tried}
use Rattle.law_reasons.specs.laws.HistoryTable.{guards_ok}
use Rattle.law_reasons.specs.laws.HistorySteps.{try_rises}
use Rattle.law_reasons.specs.laws.StateAt.{rises_on, rising_of}
use Rattle.law_reasons.specs.laws.StepLaw.{found_rising}
use Rattle.law_held.specs.Steps.Records.{RecordsCountTries, RecordsRaiseTries}
use Rattle.law_all.proofs.Rising.RiseKeeps.{records_raise_eras}

-- helper words publish under Wait-Free Eras alone
no_helper : (c : Config) (k : ℕ) (p : Past) → is_wfe c.scheme ≡ false → Each (guards_ok c) p → value_of (Helper k) p ≡ None
no_helper c k Start w g = refl
no_helper c k (Then p i (events.Reserve (Helper seat) span)) w g = absurd (let q : false ≡ true = rw w at g.0 in cc)
no_helper c k (Then p i (events.Reserve (Index seat index) span)) w g = no_helper c k p w g.1
no_helper c k (Then p i (events.Reserve (Whole seat) span)) w g = no_helper c k p w g.1
no_helper c k (Then p i event) w g = no_helper c k p w g.1

-- so the eras of an index word rise, but for those that are told under Wait-Free Eras while the helper word publishes
one_rises : (c : Config) (p : Past) (i : ℕ) (event : Event) (wfe : Bool) → is_wfe c.scheme ≡ wfe → Each (guards_ok c) p → era_rises p i event ≡ true → try_rises c.scheme p i event ≡ true
one_rises c p i (events.Reserve (Index seat index) span) true w g h = rw w h
one_rises c p i (events.Reserve (Index seat index) span) false w g h =
    let e : value_of (Helper i) p ≡ None = no_helper c i p w g in
    let q : (nat_lt 2 index || false || era_grows (value_of (Index seat index) p) span) ≡ true = subst (λ (x : Option Interval). (nat_lt 2 index || is_some x || era_grows (value_of (Index seat index) p) span) ≡ true) e h in
    rw w q
one_rises c p i (events.Reserve (Helper seat) span) wfe w g h = refl
one_rises c p i (events.Reserve (Whole seat) span) wfe w g h = refl
one_rises c p i event wfe w g h = refl

pub records_raise_tries : RecordsRaiseTries
records_raise_tries layout items d before i event later cut =
    let c : Config = layout.config in
    let one : Entry = record { seat = i; event = event } in
    let all : Each (guards_ok c) (record_of layout items) = each_of_entries (guards_ok c) (record_of layout items) (records_name_guards layout items d) in
    let g : Each (guards_ok c) (Then before i event) = each_before (guards_ok c) (Then before i event) later (subst (λ (r : Past). Each (guards_ok c) r) cut all) in
    one_rises c before i event (is_wfe c.scheme) refl g.1 (records_raise_eras layout items d before i event later cut)

-- under Hazard Eras all rise of an index that protects
grown : (scheme : SchemeKind) (high x y : Bool) → is_he scheme ≡ true → high ≡ false → (high || (is_wfe scheme && x) || y) ≡ true → y ≡ true
grown He true x y e n h = absurd (cc)
grown He false x y e n h = h
grown Ibr high x y e n h = absurd (cc)
grown Wfe high x y e n h = absurd (cc)
grown Hp high x y e n h = absurd (cc)

told_rises : (last span : Option Interval) (before : Bool) → era_grows last span ≡ true → before ≡ true → rises_on last span before ≡ true
told_rises last None before h b = refl
told_rises last (Some span) before h b = both (era_grows last (Some span)) before h b

word_rises : (i j seat index : ℕ) (p : Past) (span : Option Interval) (before same : Bool) → is_index_word i j (Index seat index) ≡ same → nat_lt 2 j ≡ false → (nat_lt 2 index ≡ false → era_grows (value_of (Index seat index) p) span ≡ true) → before ≡ true → (if same then rises_on (value_of (Index i j) p) span before else before) ≡ true
word_rises i j seat index p span before true e n h b =
    let q : seat ≡ i = number_is seat i (first_of (seat == i) (index == j) e) in
    let r : index ≡ j = number_is index j (rest_of (seat == i) (index == j) e) in
    let v : value_of (Index seat index) p ≡ value_of (Index i j) p = ap (λ (k : ℕ). value_of (Index k index) p) q ∙ ap (λ (m : ℕ). value_of (Index i m) p) r in
    told_rises (value_of (Index i j) p) span before (subst (λ (x : Option Interval). era_grows x span ≡ true) v (h (ap (nat_lt 2) r ∙ n))) b
word_rises i j seat index p span before false e n h b = b

all_rise : (scheme : SchemeKind) (i j : ℕ) (p : Past) → is_he scheme ≡ true → nat_lt 2 j ≡ false → Each (try_rises scheme) p → rising_of i j p ≡ true
all_rise scheme i j Start e n g = refl
all_rise scheme i j (Then p k (events.Reserve (Index seat index) span)) e n g =
    word_rises i j seat index p span (rising_of i j p) (is_index_word i j (Index seat index)) refl n (λ low. grown scheme (nat_lt 2 index) (is_some (value_of (Helper k) p)) (era_grows (value_of (Index seat index) p) span) e low g.0) (all_rise scheme i j p e n g.1)
all_rise scheme i j (Then p k (events.Reserve (Helper seat) span)) e n g = all_rise scheme i j p e n g.1
all_rise scheme i j (Then p k (events.Reserve (Whole seat) span)) e n g = all_rise scheme i j p e n g.1
all_rise scheme i j (Then p k event) e n g = all_rise scheme i j p e n g.1

-- a protection is at an index of its call, and those are below 3
low_index : (index : ℕ) → index < 3 → nat_lt 2 index ≡ false
low_index index h = grind (arith, nat_tests)

found_rises : (scheme : SchemeKind) (p : Past) (i : ℕ) (event : Event) → is_he scheme ≡ true → indexes_ok p i event ≡ true → Each (try_rises scheme) p → found_rising p i event ≡ true
found_rises scheme p i (events.Held index slot steps) e n g = all_rise scheme i index p e (low_index index (protects_below (began_of i p) index n)) g
found_rises scheme p i (events.Null index steps) e n g = all_rise scheme i index p e (low_index index (protects_below (began_of i p) index n)) g
found_rises scheme p i event e n g = refl

pub records_count_tries : RecordsCountTries
records_count_tries layout items d e before i event later cut =
    let scheme : SchemeKind = layout.config.scheme in
    let one : Entry = record { seat = i; event = event } in
    let all : Each (try_rises scheme) (record_of layout items) = each_of_entries (try_rises scheme) (record_of layout items) (records_raise_tries layout items d) in
    let g : Each (try_rises scheme) (Then before i event) = each_before (try_rises scheme) (Then before i event) later (subst (λ (r : Past). Each (try_rises scheme) r) cut all) in
    both (event_tried (λ j. reserves_of i j before) event) (found_rising before i event) (entries_tried layout items d e before i event later cut) (found_rises scheme before i event e (records_use_indexes layout items d before i event later cut) g.1)
