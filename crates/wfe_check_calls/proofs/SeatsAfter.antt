-- What an entry makes of what the record says of calls.
use Rattle.std.proofs.Common.{ℕ, not, ◌+◌, if◌then◌else◌, [], ◌∷◌, ◌++◌, length-append, ◌≡◌, ◌≢◌, ◌<◌, ◌==◌, ◌&&◌, ◌||◌, eqb, Bool, true, false, nat_lt, List, length, slice_index_or, slice_set, refl, sym, ap, ◌∙◌, arith}
use Rattle.std.proofs.lemmas.Bool.Decides.{nat_tests}
use Rattle.std.proofs.Math.Seq.{get_or-append_seam}
use Rattle.std.proofs.lemmas.List.{get_or-set_other, get_or-set_same, get_or_append_left}
use Rattle.laws.specs.defs.declared.event.Event.{Event}
use Rattle.laws.specs.defs.declared.event.Event.TheVariants as events
use Rattle.laws.specs.defs.Events.{is_null}
use Rattle.laws.specs.records.Record.{Past, begins, own, told_since}
use Rattle.laws.specs.records.Record.Past.{Then}
use Rattle.laws.specs.words.Schemes.{moves as moves_clock}
use Rattle.laws.specs.words.declared.config.Config.{Config}
use Rattle.laws.specs.EraLaw.{advances_ok, is_era, moves_ok}
use Rattle.laws.specs.HoldLaw.{finds_ok}
use Rattle.laws.specs.Lists.{has_left, is_adopted, is_left}
use Rattle.laws.specs.Once.{placing_ok, retiring_ok}
use Rattle.laws.specs.ScanLaw.{blocks_of, blocks_ok, guards, room_ok}
use Rattle.laws.specs.Standing.{open_ok}
use Rattle.laws.specs.StateAt.{began_of, has_told, is_open, rooted_of, was_taken}
use Rattle.wfe_check_calls.specs.declared.seat.Seat.{Seat}
use Rattle.wfe_check_calls.specs.Sought.{seeks_by}
use Rattle.wfe_check_calls.specs.Seats.{IsFresh, advances_right, calls_of, finds_right, moved_by, no_calls, null_told_by, opens_right, seat_by, seat_right, shown_seat}

-- a seat's own event

left_own : (i : ℕ) (p : Past) (event : Event) → has_left i (Then p i event) ≡ (is_left event || has_left i p)
left_own i p event =
    let same : (i == i) ≡ true = grind (arith, nat_tests) in
    rw same (elim (is_left event) as (λ b. ((b && true) || has_left i p) ≡ (b || has_left i p)) [ true ↦ refl | false ↦ refl ])

null_count : (zero : Bool) (told : ℕ) → nat_lt 0 (if (zero && true) then told + 1 else told) ≡ (zero || nat_lt 0 told)
null_count true told = grind (arith, nat_tests)
null_count false told = refl

null_own : (i : ℕ) (p : Past) (event : Event) → has_told i (is_null 0) (Then p i event) ≡ null_told_by event (has_told i (is_null 0) p)
null_own i p (events.Begin call) = let same : (i == i) ≡ true = grind (arith, nat_tests) in rw same refl
null_own i p (events.Null index steps) =
    let same : (i == i) ≡ true = grind (arith, nat_tests) in
    rw same (null_count (index == 0) (told_since (begins i) (own i (is_null 0)) p))
null_own i p event = refl

moved_own : (i : ℕ) (p : Past) (event : Event) → has_told i is_era (Then p i event) ≡ moved_by event (has_told i is_era p)
moved_own i p (events.Begin call) = let same : (i == i) ≡ true = grind (arith, nat_tests) in rw same refl
moved_own i p (events.Era era) = let same : (i == i) ≡ true = grind (arith, nat_tests) in rw same (grind (arith, nat_tests))
moved_own i p event = refl

pub calls_own : (config : Config) (i : ℕ) (p : Past) (event : Event) →
    calls_of config i (Then p i event) ≡ seat_by (guards config) config.every event (calls_of config i p)
calls_own config i p event =
    let same : (i == i) ≡ true = grind (arith, nat_tests) in
    rw (left_own i p event, null_own i p event, moved_own i p event, same) refl

-- an event of another seat

left_other : (i k : ℕ) (p : Past) (event : Event) → (i == k) ≡ false → has_left i (Then p k event) ≡ has_left i p
left_other i k p event differs =
    rw differs (elim (is_left event) as (λ b. ((b && false) || has_left i p) ≡ has_left i p) [ true ↦ refl | false ↦ refl ])

null_other : (i k : ℕ) (p : Past) (event : Event) → (i == k) ≡ false → has_told i (is_null 0) (Then p k event) ≡ has_told i (is_null 0) p
null_other i k p (events.Begin call) differs = rw differs refl
null_other i k p (events.Null index steps) differs =
    let told = told_since (begins i) (own i (is_null 0)) p in
    rw differs (elim (index == 0) as (λ b. nat_lt 0 (if (b && false) then told + 1 else told) ≡ nat_lt 0 told) [ true ↦ refl | false ↦ refl ])
null_other i k p event differs = refl

moved_other : (i k : ℕ) (p : Past) (event : Event) → (i == k) ≡ false → has_told i is_era (Then p k event) ≡ has_told i is_era p
moved_other i k p (events.Begin call) differs = rw differs refl
moved_other i k p (events.Era era) differs = rw differs refl
moved_other i k p event differs = refl

pub calls_other : (config : Config) (i k : ℕ) (p : Past) (event : Event) → i ≢ k → calls_of config i (Then p k event) ≡ calls_of config i p
calls_other config i k p event apart =
    let differs : (i == k) ≡ false = grind (arith, nat_tests) in
    rw (left_other i k p event differs, null_other i k p event differs, moved_other i k p event differs, differs) refl

-- the seats as they are kept, after an event of one of them
pub seats_after : (config : Config) (seats : List Seat) (i : ℕ) (old new : Seat) (p : Past) (event : Event) → i < length seats → length seats ≡ config.seats →
    old ≡ slice_index_or seats i old →
    shown_seat new ≡ seat_by (guards config) config.every event (shown_seat old) →
    ((k : ℕ) (d : Seat) → k < config.seats → shown_seat (slice_index_or seats k d) ≡ calls_of config k p) →
    (k : ℕ) (d : Seat) → k < config.seats → shown_seat (slice_index_or (slice_set seats i new) k d) ≡ calls_of config k (Then p i event)
seats_after config seats i old new p event within seated at made before k d h =
    elim (eqb k i) as (λ b. eqb k i ≡ b → shown_seat (slice_index_or (slice_set seats i new) k d) ≡ calls_of config k (Then p i event)) [
      | true ↦ λ e. let here : k ≡ i = grind (arith, nat_tests) in own_seat here
      | false ↦ λ e. let apart : k ≢ i = grind (arith, nat_tests) in
          ap shown_seat (get_or-set_other seats i k new d apart) ∙ before k d h ∙ sym (calls_other config k i p event apart)
    ] refl
  where
    own_seat : k ≡ i → shown_seat (slice_index_or (slice_set seats i new) k d) ≡ calls_of config k (Then p i event)
    own_seat here =
        let set_there : slice_index_or (slice_set seats i new) k d ≡ new =
        ap (λ n. slice_index_or (slice_set seats i new) n d) here ∙ get_or-set_same seats i new d within in
        ap shown_seat set_there ∙ made
        ∙ ap (seat_by (guards config) config.every event) (ap shown_seat at ∙ before i old (omega arith))
        ∙ sym (calls_own config i p event) ∙ ap (λ n. calls_of config n (Then p i event)) (sym here)

-- lists that are taken over

pub adopted_set : (config : Config) (adopted : List Bool) (seat place : ℕ) (p : Past) (count : ℕ) → length adopted ≡ config.seats → place < config.seats →
    ((k : ℕ) → k < config.seats → slice_index_or adopted k true ≡ is_adopted k p) →
    (k : ℕ) → k < config.seats → slice_index_or (slice_set adopted place true) k true ≡ is_adopted k (Then p seat (events.Adopted place count))
adopted_set config adopted seat place p count placed within before k h =
    elim (eqb k place) as (λ b. eqb k place ≡ b → slice_index_or (slice_set adopted place true) k true ≡ (b || is_adopted k p)) [
      | true ↦ λ e. let here : k ≡ place = grind (arith, nat_tests) in
          ap (λ n. slice_index_or (slice_set adopted place true) n true) here ∙ get_or-set_same adopted place true true (omega arith)
      | false ↦ λ e. let apart : k ≢ place = grind (arith, nat_tests) in
          get_or-set_other adopted place k true true apart ∙ before k h
    ] refl

pub adopted_plain : (k i : ℕ) (p : Past) (event : Event) → ((place count : ℕ) → event ≡ events.Adopted place count → ⊥) → is_adopted k (Then p i event) ≡ is_adopted k p
adopted_plain k i p (events.Adopted place count) other = absurd (other place count refl)
adopted_plain k i p event other = refl

-- seats that have told nothing

pub fresh_push : (count : ℕ) (seats : List Seat) (seat : Seat) → IsFresh count seats → shown_seat seat ≡ no_calls → IsFresh (count + 1) (seats ++ seat ∷ [])
fresh_push count seats seat fresh new = record {
  seated = omega (arith, length-append seats (seat ∷ []), fresh.seated);
  each = λ i d h. elim (eqb i count) as (λ b. eqb i count ≡ b → shown_seat (slice_index_or (seats ++ seat ∷ []) i d) ≡ no_calls) [
    | true ↦ λ e. let here : i ≡ length seats = grind (arith, nat_tests, fresh.seated) in
        ap shown_seat (ap (λ n. slice_index_or (seats ++ seat ∷ []) n d) here ∙ get_or-append_seam seats seat [] d) ∙ new
    | false ↦ λ e. let below : i < count = grind (arith, nat_tests) in
        ap shown_seat (get_or_append_left seats (seat ∷ []) d i (omega (arith, fresh.seated))) ∙ fresh.each i d below
  ] refl;
}

-- what a seat may tell

opens_is : (i : ℕ) (p : Past) (event : Event) → opens_right event (is_open i p) (has_left i p) ≡ open_ok p i event
opens_is i p (events.Begin call) = refl
opens_is i p event = refl

finds_is : (i : ℕ) (p : Past) (event : Event) → finds_right event (began_of i p) (rooted_of i p) ≡ finds_ok p i event
finds_is i p (events.End steps answer) = refl
finds_is i p event = refl

advances_is : (i : ℕ) (p : Past) (event : Event) → advances_right event (began_of i p) (has_told i is_era p) ≡ advances_ok p i event
advances_is i p (events.Era era) = refl
advances_is i p event = refl

pub right_is : (config : Config) (i : ℕ) (p : Past) (event : Event) → seat_right (moves_clock config.scheme) event (calls_of config i p) ≡
    (open_ok p i event && (placing_ok p i event && (retiring_ok p i event && (blocks_ok config p i event && (moves_ok config p i event && (finds_ok p i event
    && (moves_clock config.scheme || advances_ok p i event)))))))
right_is config i p event = rw (opens_is i p event, finds_is i p event, advances_is i p event) refl

-- where a block begins by which the call seeks a free row, the row was taken at a position of the call
pub room_is : (config : Config) (s i : ℕ) (p : Past) (event : Event) →
    (not (seeks_by event (began_of i p) (blocks_of config i p)) || was_taken config.slots i s p) ≡ room_ok config s p i event
room_is config s i p (events.Read guard span) = refl
room_is config s i p (events.Saw guard slot) = refl
room_is config s i p event = refl
