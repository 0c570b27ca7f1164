-- What an entry makes of what the record says of index words and of seats.
use Rattle.std.proofs.Common.{ℕ, ◌≡◌, ◌≢◌, ◌<◌, ◌≤◌, ◌==◌, ◌&&◌, eqb, Bool, true, false, is_some, Option, None, Some, refl, sym, ap, ◌∙◌, arith}
use Rattle.std.proofs.lemmas.Bool.Decides.{nat_tests}
use Rattle.laws.specs.defs.declared.event.Event.{Event}
use Rattle.laws.specs.defs.declared.event.Event.TheVariants as events
use Rattle.laws.specs.defs.declared.event.Guard.TheVariants.{Helper, Index, Whole}
use Rattle.laws.specs.defs.declared.lifetime.Interval.{Interval}
use Rattle.laws.specs.records.Record.{Past}
use Rattle.laws.specs.records.Record.Past.{Then}
use Rattle.laws.specs.words.declared.config.Config.{Config}
use Rattle.laws.specs.StateAt.{value_of}
use Rattle.laws.specs.StepLaw.{is_under_way}
use Rattle.laws.specs.Ranges.{EntryIn}
use Rattle.wfe_check_calls.specs.declared.word.Place.{Place}
use Rattle.wfe_check_calls.specs.declared.word.Word.{Word}
use Rattle.wfe_check_calls.specs.Places.{IsNamed, is_place, named_place}
use Rattle.wfe_check_calls.specs.SeatSteps.{seat_by, seat_of}
use Rattle.wfe_check_calls.specs.Words.{published, word_by, word_of}

-- both tests of a place
first_true : (a b : Bool) → (a && b) ≡ true → a ≡ true
first_true true b h = refl
first_true false b h = cc

second_true : (a b : Bool) → (a && b) ≡ true → b ≡ true
second_true true b h = h
second_true false b h = cc

second_false : (a b : Bool) → a ≡ true → (a && b) ≡ false → b ≡ false
second_false true b e h = h
second_false false b e h = cc

turned : (a b : ℕ) (t : Bool) → (a == b) ≡ t → (b == a) ≡ t
turned a b true e = grind (arith, nat_tests)
turned a b false e = grind (arith, nat_tests)

-- the word that the event speaks of
anew_own : (i j k index : ℕ) → ((k == i) && (index == j)) ≡ true → ((i == k) ≡ true) × ((index == j) ≡ true)
anew_own i j k index h = (turned k i true (first_true (k == i) (index == j) h), second_true (k == i) (index == j) h)

pub word_named : (i j k : ℕ) (p : Past) (event : Event) → is_place i j (named_place k event) ≡ true →
    word_of i j (Then p k event) ≡ word_by (i == k) (value_of (Index i j) p) event (word_of i j p)
word_named i j k p (events.Reserve (Index a b) span) h =
    elim (eqb i k) as (λ t. eqb i k ≡ t → word_of i j (Then p k (events.Reserve (Index a b) span)) ≡ word_by (i == k) (value_of (Index i j) p) (events.Reserve (Index a b) span) (word_of i j p)) [
      | true ↦ λ e. rw (e, h) refl
      | false ↦ λ e. rw (e, h) refl
    ] refl
word_named i j k p (events.Hazard (Index a b) slot) h =
    elim (eqb i k) as (λ t. eqb i k ≡ t → word_of i j (Then p k (events.Hazard (Index a b) slot)) ≡ word_by (i == k) (value_of (Index i j) p) (events.Hazard (Index a b) slot) (word_of i j p)) [
      | true ↦ λ e. rw (e, h) refl
      | false ↦ λ e. rw e refl
    ] refl
word_named i j k p (events.Held index slot steps) h =
    let own = anew_own i j k index h in
    rw (own.0, own.1) refl
word_named i j k p (events.Null index steps) h =
    let own = anew_own i j k index h in
    rw (own.0, own.1) refl
word_named i j k p (events.Copied from index slot) h =
    let own = anew_own i j k index h in
    rw (own.0, own.1) refl
word_named i j k p event h = cc

-- any other word
index_apart : (i j k index : ℕ) → (i == k) ≡ true → ((k == i) && (index == j)) ≡ false → (index == j) ≡ false
index_apart i j k index e h = second_false (k == i) (index == j) (turned i k true e) h

pub word_apart : (i j k : ℕ) (p : Past) (event : Event) → is_place i j (named_place k event) ≡ false → word_of i j (Then p k event) ≡ word_of i j p
word_apart i j k p (events.Reserve (Index a b) span) h =
    elim (eqb i k) as (λ t. eqb i k ≡ t → word_of i j (Then p k (events.Reserve (Index a b) span)) ≡ word_of i j p) [
      | true ↦ λ e. rw (e, h) refl
      | false ↦ λ e. rw (e, h) refl
    ] refl
word_apart i j k p (events.Hazard (Index a b) slot) h =
    elim (eqb i k) as (λ t. eqb i k ≡ t → word_of i j (Then p k (events.Hazard (Index a b) slot)) ≡ word_of i j p) [
      | true ↦ λ e. rw (e, h) refl
      | false ↦ λ e. rw e refl
    ] refl
word_apart i j k p (events.Held index slot steps) h =
    elim (eqb i k) as (λ t. eqb i k ≡ t → word_of i j (Then p k (events.Held index slot steps)) ≡ word_of i j p) [
      | true ↦ λ e. rw (e, index_apart i j k index e h) refl
      | false ↦ λ e. rw e refl
    ] refl
word_apart i j k p (events.Null index steps) h =
    elim (eqb i k) as (λ t. eqb i k ≡ t → word_of i j (Then p k (events.Null index steps)) ≡ word_of i j p) [
      | true ↦ λ e. rw (e, index_apart i j k index e h) refl
      | false ↦ λ e. rw e refl
    ] refl
word_apart i j k p (events.Copied from index slot) h =
    elim (eqb i k) as (λ t. eqb i k ≡ t → word_of i j (Then p k (events.Copied from index slot)) ≡ word_of i j p) [
      | true ↦ λ e. rw (e, index_apart i j k index e h) refl
      | false ↦ λ e. rw e refl
    ] refl
word_apart i j k p event h =
    elim (eqb i k) as (λ t. eqb i k ≡ t → word_of i j (Then p k event) ≡ word_of i j p) [
      | true ↦ λ e. rw e refl
      | false ↦ λ e. rw e refl
    ] refl

-- the place that an event names
the_place : Place → Option Place → Place
the_place place None = place
the_place place (Some other) = other

same_place : (place other : Place) → Some place ≡ Some other → place ≡ other
unfolding the_place
same_place place other e = ap (the_place place) e

-- what it published before
pub word_given : (k : ℕ) (place : Place) (own : Bool) (named : Option Interval) (event : Event) (p : Past) (before : Word) →
    Some place ≡ named_place k event → IsNamed event named p →
    word_by own named event before ≡ word_by own (value_of (Index place.seat place.index) p) event before
word_given k place own named (events.Reserve (Index a b) span) p before e is =
    let same : place ≡ record { seat = a; index = b } = same_place place (record { seat = a; index = b }) e in
    ap (λ v. published own v span before) (is ∙ ap (λ (q : Place). value_of (Index q.seat q.index) p) (sym same))
word_given k place own named (events.Reserve (Helper a) span) p before e is = cc
word_given k place own named (events.Reserve (Whole a) span) p before e is = cc
word_given k place own named event p before e is = refl

-- it lies in the setting's ranges
pub place_in : (config : Config) (k : ℕ) (event : Event) (place : Place) → EntryIn config k event → Some place ≡ named_place k event →
    (place.seat < config.seats) × (place.index < config.indexes)
place_in config k (events.Reserve (Index a b) span) place range e =
    let same : place ≡ record { seat = a; index = b } = same_place place (record { seat = a; index = b }) e in
    rw same (range.within.0, range.within.1)
place_in config k (events.Hazard (Index a b) slot) place range e =
    let same : place ≡ record { seat = a; index = b } = same_place place (record { seat = a; index = b }) e in
    rw same (range.within.0.0, range.within.0.1)
place_in config k (events.Held index slot steps) place range e =
    let same : place ≡ record { seat = k; index = index } = same_place place (record { seat = k; index = index }) e in
    rw same (range.seated, range.within.0)
place_in config k (events.Null index steps) place range e =
    let same : place ≡ record { seat = k; index = index } = same_place place (record { seat = k; index = index }) e in
    rw same (range.seated, range.within)
place_in config k (events.Copied from index slot) place range e =
    let same : place ≡ record { seat = k; index = index } = same_place place (record { seat = k; index = index }) e in
    rw same (range.seated, range.within.1)
place_in config k event place range e = cc

-- words past the setting's indexes
second_no : (a b : Bool) → b ≡ false → (a && b) ≡ false
second_no true b e = e
second_no false b e = refl

past_place : (config : Config) (i j : ℕ) (o : Option Place) → ((place : Place) → Some place ≡ o → place.index < config.indexes) → config.indexes ≤ j →
    is_place i j o ≡ false
past_place config i j None range past = refl
past_place config i j (Some place) range past =
    let below : place.index < config.indexes = range place refl in
    second_no (place.seat == i) (place.index == j) (grind (arith, nat_tests))

pub idle_beyond : (config : Config) (i j k : ℕ) (p : Past) (event : Event) → EntryIn config k event → config.indexes ≤ j → is_under_way i j p ≡ false →
    is_under_way i j (Then p k event) ≡ false
idle_beyond config i j k p event range past none =
    let apart : is_place i j (named_place k event) ≡ false = past_place config i j (named_place k event) (λ place e. (place_in config k event place range e).1) past in
    ap (λ (w : Word). w.under_way) (word_apart i j k p event apart) ∙ none

-- seats
pub seat_own : (i : ℕ) (p : Past) (event : Event) → seat_of i (Then p i event) ≡ seat_by i (is_some (value_of (Helper i) p)) event (seat_of i p)
seat_own i p event =
    let same : (i == i) ≡ true = grind (arith, nat_tests) in
    rw same refl

pub seat_other : (i k : ℕ) (p : Past) (event : Event) → i ≢ k → seat_of i (Then p k event) ≡ seat_of i p
seat_other i k p event apart =
    let differs : (i == k) ≡ false = grind (arith, nat_tests) in
    rw differs refl
