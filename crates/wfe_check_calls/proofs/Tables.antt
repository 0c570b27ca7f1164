-- What is kept of words and seats, after an entry.
use Rattle.std.proofs.Common.{ℕ, ◌+◌, ◌*◌, ◌≡◌, ◌≢◌, ◌<◌, ◌≤◌, ◌==◌, ◌&&◌, eqb, Bool, true, false, is_some, Option, None, Some, List, length, slice_index_or, slice_set, refl, sym, ap, ◌∙◌, arith}
use Rattle.std.proofs.lemmas.Bool.Decides.{nat_tests}
use Rattle.std.proofs.lemmas.List.{get_or-set_other, get_or-set_same}
use Rattle.laws.specs.defs.declared.event.Event.{Event}
use Rattle.laws.specs.defs.declared.event.Guard.TheVariants.{Helper, Index}
use Rattle.laws.specs.defs.declared.lifetime.Interval.{Interval}
use Rattle.laws.specs.records.Record.{Past}
use Rattle.laws.specs.records.Record.Past.{Then}
use Rattle.laws.specs.words.declared.config.Config.{Config}
use Rattle.laws.specs.StateAt.{value_of}
use Rattle.laws.specs.Ranges.{EntryIn}
use Rattle.wfe_check_calls.specs.declared.seat_steps.Seat.{Seat}
use Rattle.wfe_check_calls.specs.declared.word.Place.{Place}
use Rattle.wfe_check_calls.specs.declared.word.Word.{Word}
use Rattle.wfe_check_calls.specs.Places.{IsNamed, is_place, named_place}
use Rattle.wfe_check_calls.specs.SeatSteps.{seat_by, seat_of}
use Rattle.wfe_check_calls.specs.CallSteps.{HasSeats, HasWords}
use Rattle.wfe_check_calls.specs.Words.{word_by, word_of}
use Rattle.wfe_check_calls.proofs.Words.{place_in, seat_other, seat_own, word_apart, word_given, word_named}

-- where a word stands among them
within_room : (seats seat index : ℕ) → seat < seats → index < 8 → seat * 8 + index < seats * 8
within_room seats seat index a b = omega arith

same_at : (a b i j : ℕ) → ((a == i) && (b == j)) ≡ true → (a ≡ i) × (b ≡ j)
same_at a b i j h = (grind (arith, nat_tests), grind (arith, nat_tests))

other_at : (a b i j : ℕ) → b < 8 → j < 8 → ((a == i) && (b == j)) ≡ false → i * 8 + j ≢ a * 8 + b
other_at a b i j hb hj h e =
    let x : a ≡ i = omega arith in
    let y : b ≡ j = omega arith in
    let p : (a == i) ≡ true = grind (arith, nat_tests) in
    let q : (b == j) ≡ true = grind (arith, nat_tests) in
    let both : ((a == i) && (b == j)) ≡ true = rw (p, q) refl in
    cc

both_same : (a b : ℕ) → ((a == a) && (b == b)) ≡ true
both_same a b =
    let x : (a == a) ≡ true = grind (arith, nat_tests) in
    let y : (b == b) ≡ true = grind (arith, nat_tests) in
    rw (x, y) refl

-- the entry speaks of a word
pub words_after : (config : Config) (words : List Word) (k : ℕ) (place : Place) (old new : Word) (named : Option Interval) (event : Event) (p : Past) →
    length words ≡ config.seats * 8 → config.indexes ≤ 8 → EntryIn config k event → Some place ≡ named_place k event →
    old ≡ slice_index_or words (place.seat * 8 + place.index) old → new ≡ word_by (place.seat == k) named event old → IsNamed event named p →
    HasWords config words p → HasWords config (slice_set words (place.seat * 8 + place.index) new) (Then p k event)
words_after config words k place old new named event p placed few range e at made is before i j d hi hj =
    let inside = place_in config k event place range e in
    let low : place.index < 8 = omega (arith, inside.1) in
    elim (is_place i j (Some place)) as (λ t. is_place i j (Some place) ≡ t →
    slice_index_or (slice_set words (place.seat * 8 + place.index) new) (i * 8 + j) d ≡ word_of i j (Then p k event)) [
      | true ↦ λ t. here (same_at place.seat place.index i j t) inside.0 low
      | false ↦ λ t. get_or-set_other words (place.seat * 8 + place.index) (i * 8 + j) new d (other_at place.seat place.index i j low hj t)
          ∙ before i j d hi hj ∙ sym (word_apart i j k p event (ap (is_place i j) (sym e) ∙ t))
    ] refl
  where
    here : (place.seat ≡ i) × (place.index ≡ j) → place.seat < config.seats → place.index < 8 →
        slice_index_or (slice_set words (place.seat * 8 + place.index) new) (i * 8 + j) d ≡ word_of i j (Then p k event)
    here s in_seats low =
        let at_place : is_place place.seat place.index (named_place k event) ≡ true =
        ap (is_place place.seat place.index) (sym e) ∙ both_same place.seat place.index in
        let number : i * 8 + j ≡ place.seat * 8 + place.index = omega (arith, s.0, s.1) in
        ap (λ n. slice_index_or (slice_set words (place.seat * 8 + place.index) new) n d) number
        ∙ get_or-set_same words (place.seat * 8 + place.index) new d (omega (arith, within_room config.seats place.seat place.index in_seats low))
        ∙ made
        ∙ word_given k place (place.seat == k) named event p old e is
        ∙ ap (word_by (place.seat == k) (value_of (Index place.seat place.index) p) event) (at ∙ before place.seat place.index old in_seats low)
        ∙ sym (word_named place.seat place.index k p event at_place)
        ∙ ap (λ n. word_of n place.index (Then p k event)) s.0
        ∙ ap (λ n. word_of i n (Then p k event)) s.1

-- it speaks of none
pub words_kept : (config : Config) (words : List Word) (k : ℕ) (event : Event) (p : Past) → None ≡ named_place k event →
    HasWords config words p → HasWords config words (Then p k event)
words_kept config words k event p e before i j d hi hj = before i j d hi hj ∙ sym (word_apart i j k p event (ap (is_place i j) (sym e)))

-- the seats
pub seats_after : (config : Config) (seats : List Seat) (k : ℕ) (old new : Seat) (helps : Bool) (event : Event) (p : Past) →
    length seats ≡ config.seats → k < config.seats → old ≡ slice_index_or seats k old → new ≡ seat_by k helps event old →
    helps ≡ is_some (value_of (Helper k) p) →
    HasSeats config seats p → HasSeats config (slice_set seats k new) (Then p k event)
seats_after config seats k old new helps event p seated within at made is before i d hi =
    elim (eqb i k) as (λ t. eqb i k ≡ t → slice_index_or (slice_set seats k new) i d ≡ seat_of i (Then p k event)) [
      | true ↦ λ t. let here : i ≡ k = grind (arith, nat_tests) in
          ap (λ n. slice_index_or (slice_set seats k new) n d) here
          ∙ get_or-set_same seats k new d (omega arith)
          ∙ made
          ∙ ap (λ b. seat_by k b event old) is
          ∙ ap (seat_by k (is_some (value_of (Helper k) p)) event) (at ∙ before k old within)
          ∙ sym (seat_own k p event)
          ∙ ap (λ n. seat_of n (Then p k event)) (sym here)
      | false ↦ λ t. let apart : i ≢ k = grind (arith, nat_tests) in
          get_or-set_other seats k i new d apart ∙ before i d hi ∙ sym (seat_other i k p event apart)
    ] refl
