-- What is kept after an entry is that of the record with the entry.
use Rattle.std.proofs.Common.{◌≡◌, ◌<◌, ◌≤◌, ℕ, Bool, true, false, ◌+◌, ◌-◌, ◌*◌, ◌^◌, ◌==◌, Option, Some, None, if◌then◌else◌, length, refl, ap, sym, subst, ◌∙◌, arith}
use Rattle.laws.specs.records.Record.{Past, begins, value_since}
use Rattle.laws.specs.records.Record.Past.{Then}
use Rattle.wfe_words.specs.declared.config.Config.{Config}
use Rattle.wfe_defs.specs.declared.event.Event.{Event}
use Rattle.wfe_defs.specs.declared.event.Event.TheVariants as events
use Rattle.laws.specs.StateAt.{ticked_by, began_of, clock_of}
use Rattle.wfe_check_held.specs.Grids.{cell_at}
use Rattle.wfe_check_rows.specs.Positions.{entries, since}
use Rattle.wfe_check_held.specs.Roots.{RowIn, last_row, place_of}
use Rattle.wfe_check_held.specs.Steps.{IsFound, IsNext, cut_after, had_after, row_after, seat_after}
use Rattle.wfe_check_held.specs.Times.{IsHad, IsRow, IsSeat, IsSized, IsTimes, row_at, seat_at}
use Rattle.wfe_check_held.specs.declared.seats.Seat.{Seat}
use Rattle.wfe_check_held.specs.declared.times.Times.{Times}
use Rattle.wfe_check_held.proofs.Clock.{ticks}
use Rattle.wfe_check_held.proofs.HadAfter.{had_told, same_either}
use Rattle.wfe_check_held.proofs.RowsAfter.{cut_told, row_told}

-- what a root may have has a place
pub place-in : (slots : ℕ) (found : Option ℕ) (place : ℕ) → place ≡ place_of found → RowIn slots found → place < slots + 2
place-in slots None place e h = omega arith
place-in slots (Some row) place e h = omega arith

-- a seat
by_seat : {A : Type 0} (b : Bool) (new cell : Seat) (f : Seat → A) (x y : A) → f new ≡ x → f cell ≡ y → f (if b then new else cell) ≡ (if b then x else y)
by_seat true new cell f x y n c = n
by_seat false new cell f x y n c = c

seat_told : (i k : ℕ) (p : Past) (event : Event) (cell : Seat) → IsSeat i p cell →
    IsSeat i (Then p k event) (if i == k then seat_after event (entries p + 1) (clock_of p) cell else cell)
seat_told i k p (events.Begin call) cell is =
    let new : Seat = record { begun = entries p + 1; clock = clock_of p; call = Some call } in
    record {
      begun = by_seat (i == k) new cell (λ c. c.begun) (entries p + 1) (since (begins i) p) refl is.begun;
      clock = by_seat (i == k) new cell (λ c. c.clock) (clock_of p) (value_since (begins i) clock_of p) refl is.clock;
      call = by_seat (i == k) new cell (λ c. c.call) (Some call) (began_of i p) refl is.call;
    }
seat_told i k p event cell is = record {
  begun = ap (λ (c : Seat). c.begun) (same_either (i == k) cell) ∙ is.begun;
  clock = ap (λ (c : Seat). c.clock) (same_either (i == k) cell) ∙ is.clock;
  call = by_seat (i == k) cell cell (λ c. c.call) (began_of i p) (began_of i p) is.call is.call;
}

-- the tables keep their sizes
pub sized_told : (old new : Times) (k : ℕ) (event : Event) (found last : Option ℕ) → IsSized old → IsNext old new k event found last → old.entries + 1 < 2 ^ 64 - 1 → IsSized new
sized_told old new k event found last is next room =
    let slots : new.config.slots ≡ old.config.slots = ap (λ (c : Config). c.slots) next.setting in
    let seats : new.config.seats ≡ old.config.seats = ap (λ (c : Config). c.seats) next.setting in
    let buckets : new.config.buckets ≡ old.config.buckets = ap (λ (c : Config). c.buckets) next.setting in
    let ticked = ticks event old.clock in
    record {
      slots = omega arith;
      buckets = omega arith;
      room = omega arith;
      clock = omega arith;
      seats = omega arith;
      rows = omega arith;
      cuts = record {
        width = omega (arith, is.cuts.width);
        count = next.cut_count ∙ is.cuts.count ∙ ap (λ n. n * (old.config.slots + 1)) (sym seats) ∙ ap (λ n. new.config.seats * (n + 1)) (sym slots);
      };
      had = record {
        width = omega (arith, is.had.width);
        count = next.had_count ∙ is.had.count ∙ ap (λ n. n * (old.config.slots + 2)) (sym seats) ∙ ap (λ n. new.config.seats * (n + 2)) (sym slots);
      };
    }

-- an entry is told
pub noted : (config : Config) (p : Past) (old new : Times) (k : ℕ) (event : Event) (found last : Option ℕ) → IsTimes config old p →
    IsNext old new k event found last → old.entries + 1 < 2 ^ 64 - 1 → IsFound config event found p → last ≡ last_row config.slots p →
    IsTimes config new (Then p k event)
noted config p old new k event found last is next room f l =
    let slots : old.config.slots ≡ config.slots = ap (λ (c : Config). c.slots) is.setting in
    let seats : old.config.seats ≡ config.seats = ap (λ (c : Config). c.seats) is.setting in
    let position : old.entries + 1 ≡ entries p + 1 = ap (λ n. n + 1) is.entries in
    let seat_in : (i : ℕ) → i < config.seats → i < length old.seats.items = λ i h. omega (arith, is.sized.seats) in
    let row_in : (s : ℕ) → s ≤ config.slots → s < length old.rows.items = λ s h. omega (arith, is.sized.rows) in
    let cut_in : (s : ℕ) → s ≤ config.slots → s < old.cuts.width = λ s h. omega (arith, is.sized.cuts.width) in
    let had_in : (v : Option ℕ) → RowIn config.slots v → place_of v < old.had.width = λ v h.
    let place : place_of v < config.slots + 2 = place-in config.slots v (place_of v) refl h in omega (arith, is.sized.had.width) in
    record {
      setting = next.setting ∙ is.setting;
      sized = sized_told old new k event found last is.sized next room;
      entries = next.entries ∙ position;
      clock = next.clock ∙ ap (ticked_by event) is.clock;
      seat = λ i h.
          let cell = seat_at old.seats.items i in
          subst (IsSeat i (Then p k event)) (sym (next.seat i (seat_in i h)
          ∙ ap (λ n. if i == k then seat_after event n old.clock cell else cell) position
          ∙ ap (λ n. if i == k then seat_after event (entries p + 1) n cell else cell) is.clock))
          (seat_told i k p event cell (is.seat i h));
      row = λ s h.
          let cell = row_at old.rows.items s in
          subst (IsRow config.slots s (Then p k event)) (sym (next.row s (row_in s h) ∙ ap (λ n. row_after s event n last cell) position))
          (row_told config.slots s k p event last cell l (is.row s h));
      cut = λ i s h low.
          next.cut i s (cut_in s low) ∙ ap (λ n. cut_after i s k event n (cell_at old.cuts i s)) is.clock
          ∙ cut_told i s k p event (cell_at old.cuts i s) (is.cut i s h low);
      had = λ i v h low.
          let cell = cell_at old.had i (place_of v) in
          let of = seat_at old.seats.items i in
          subst (IsHad config i v (Then p k event)) (sym (next.had i (place_of v) (seat_in i h) (had_in v low)
          ∙ ap (λ n. had_after old.config.buckets i of (place_of v) k event found n cell) position
          ∙ ap (λ (c : Config). had_after c.buckets i of (place_of v) k event found (entries p + 1) cell) is.setting))
          (had_told config i k p event found of v cell (is.seat i h) f (is.had i v h low));
    }
