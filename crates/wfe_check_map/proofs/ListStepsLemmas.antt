-- One entry more, seat by seat.
use Rattle.std.specs.Prelude.{◌==◌, if◌then◌else◌, Bool, true, false, slice_set, map}
use Rattle.std.proofs.Common.{◌≡◌, ℕ, ◌<◌, List, [], ◌∷◌, ◌++◌, length, refl, sym, ap, subst, ◌∙◌, arith, Option, inl, inr}
use Rattle.std.proofs.lemmas.Bool.{cases_eq, ne_eqb}
use Rattle.std.proofs.lemmas.List.{map-append, length-set, get_or-set_same, get_or-set_other}
use Rattle.laws.specs.Lists.{list_of, list_by, gained_by, handed_by, is_handed}
use Rattle.laws.specs.ScanLaw.{guards, scan_ok}
use Rattle.laws.specs.StateAt.{read_by, read_of, scans_of}
use Rattle.laws.specs.defs.declared.event.Event.{Event}
use Rattle.laws.specs.defs.declared.event.Event.TheVariants as events
use Rattle.laws.specs.records.Record.{Past}
use Rattle.laws.specs.records.Record.Past.{Then}
use Rattle.laws.specs.words.declared.config.Config.{Config}
use Rattle.wfe_defs.proofs.Facts.{same_number, first_of, rest_of, number_is}
use Rattle.wfe_defs.specs.Shown.{Seen, shown, shown_row}
use Rattle.wfe_defs.specs.declared.shown.Shown.{Shown}
use Rattle.wfe_defs.specs.declared.lifetime.Lifetime.{Lifetime}
use Rattle.wfe_check_map.specs.Seats.{Scanning, NotesOwn, OwnStep, WasDue, adopted, emptied, gained, handed, no_scanning, seat_in, values_by}
use Rattle.wfe_check_map.specs.ListStanding.{IsSeat, shown_in}
use Rattle.wfe_check_map.proofs.SeatsLemmas.{read_length}

-- the lists of an own event that takes over none
gained_is : (event : Event) (other : ℕ → List Lifetime) (list : List Lifetime) → is_handed event ≡ false → gained_by event other list ≡ list_by event list
gained_is (events.Adopted place count) other list h = absurd (cc)
gained_is event other list h = refl

handed_is : (i : ℕ) (event : Event) (list : List Lifetime) → is_handed event ≡ false → handed_by i event list ≡ list
handed_is i (events.Adopted place count) list h = absurd (cc)
handed_is i event list h = refl

read_pushed : (whole : Bool) (guard : _) (value : Shown) (values : List Shown) (read : List Seen) → values ≡ map shown_in read
    → ((if whole then [] else values) ++ value ∷ []) ≡ map shown_in ((if whole then [] else read) ++ (guard, value) ∷ [])
read_pushed true guard value values read h = refl
read_pushed false guard value values read h = ap (λ (xs : List Shown). xs ++ value ∷ []) h ∙ sym (map-append shown_in read ((guard, value) ∷ []))

read_step : (all : ℕ) (event : Event) (values : List Shown) (read : List Seen) → values ≡ map shown_in read → values_by all event values ≡ map shown_in (read_by all event read)
read_step all (events.Read guard span) values read h = rw (read_length values read h) (read_pushed (length values == all) guard (shown span) values read h)
read_step all (events.Saw guard slot) values read h = rw (read_length values read h) (read_pushed (length values == all) guard (shown_row slot) values read h)
read_step all event values read h = h

was_due : (config : Config) (i : ℕ) (event : Event) (seat : Scanning) (p : Past) → IsSeat (guards config) i seat p → scan_ok config p i event ≡ true → WasDue event seat
was_due config i (events.Back slot) seat p s ok =
    let scans : scans_of i p ≡ true = first_of _ _ ok in
    let whole : length (read_of (guards config) i p) ≡ guards config = number_is _ _ (first_of _ _ (rest_of _ _ ok)) in
    s.due (s.scans ∙ scans) (sym (read_length seat.values (read_of (guards config) i p) s.read) ∙ whole)
was_due config i event seat p s ok = tt

own_chosen : {X : Type 0} (i : ℕ) (x y : X) → (if i == i then x else y) ≡ x
own_chosen i x y = rw (same_number i) refl

other_chosen : {X : Type 0} (i k : ℕ) (x y : X) → (i ≡ k → ⊥) → (if i == k then x else y) ≡ y
other_chosen i k x y h = rw (ne_eqb i k h) refl

-- an event of the seat that takes over no list
own_step : (config : Config) (i : ℕ) (event : Event) (old new : Scanning) (p : Past) → IsSeat (guards config) i old p → scan_ok config p i event ≡ true → is_handed event ≡ false
    → OwnStep (guards config) event old new → IsSeat (guards config) i new (Then p i event)
own_step config i event old new p s ok h step =
    record {
      lives = step.lives ∙ ap (list_by event) s.lives ∙ sym (own_chosen i _ _ ∙ gained_is event (λ (place : ℕ). list_of place p) (list_of i p) h);
      read = step.values ∙ read_step (guards config) event old.values (read_of (guards config) i p) s.read ∙ sym (ap (map shown_in) (own_chosen i _ _));
      scans = step.scans ∙ sym (own_chosen i _ _);
      due = λ scans whole. step.due (sym step.scans ∙ scans) whole (was_due config i event old p s ok);
    }

-- an event of another seat that leaves the seat its list
other_step : (all i k : ℕ) (event : Event) (seat : Scanning) (p : Past) → (i ≡ k → ⊥) → handed_by i event (list_of i p) ≡ list_of i p → IsSeat all i seat p → IsSeat all i seat (Then p k event)
other_step all i k event seat p apart kept s =
    record {
      lives = s.lives ∙ sym (other_chosen i k _ _ apart ∙ kept);
      read = s.read ∙ sym (ap (map shown_in) (other_chosen i k _ _ apart));
      scans = s.scans ∙ sym (other_chosen i k _ _ apart);
      due = s.due;
    }

-- another seat takes the list over
emptied_step : (all i k count : ℕ) (seat : Scanning) (p : Past) → (i ≡ k → ⊥) → IsSeat all i seat p → IsSeat all i (emptied seat) (Then p k (events.Adopted i count))
emptied_step all i k count seat p apart s =
    record {
      lives = sym (other_chosen i k _ _ apart ∙ own_chosen i _ _);
      read = s.read ∙ sym (ap (map shown_in) (other_chosen i k _ _ apart));
      scans = s.scans ∙ sym (other_chosen i k _ _ apart);
      due = λ a b. record { kept = refl; here = refl };
    }

-- the seat takes a list over
gained_step : (all i place count : ℕ) (old new : Scanning) (p : Past) → IsSeat all i old p → new.lives ≡ old.lives ++ list_of place p → new.values ≡ old.values → new.scans ≡ false
    → IsSeat all i new (Then p i (events.Adopted place count))
gained_step all i place count old new p s lives values scans =
    record {
      lives = lives ∙ ap (λ (xs : List Lifetime). xs ++ list_of place p) s.lives ∙ sym (own_chosen i _ _);
      read = values ∙ s.read ∙ sym (ap (map shown_in) (own_chosen i _ _));
      scans = scans ∙ sym (own_chosen i _ _);
      due = λ a b. absurd (cc);
    }

-- All seats.
abbrev pub AreSeats : (all many : ℕ) → List Scanning → Past → Type 0
AreSeats all many seats p = (i : ℕ) → i < many → IsSeat all i (seat_in seats i) p

pub own_steps : (config : Config) (many i : ℕ) (event : Event) (old new : List Scanning) (p : Past) → length old ≡ many → i < many → AreSeats (guards config) many old p
    → scan_ok config p i event ≡ true → is_handed event ≡ false → NotesOwn (guards config) i event old new → AreSeats (guards config) many new (Then p i event)
own_steps config many i event old new p long seated s ok h step k below =
    elim (cases_eq k i) [
      | inl same ↦
          let P : ℕ → Type 0 = λ (k : ℕ). IsSeat (guards config) k (seat_in new k) (Then p i event) in
          subst P (sym same) (own_step config i event (seat_in old i) (seat_in new i) p (s i seated) ok h (step.own (omega arith)))
      | inr apart ↦ rw (step.others k apart) (other_step (guards config) k i event (seat_in old k) p apart (handed_is k event (list_of k p) h) (s k below))
    ]

adopted_own : (i place : ℕ) (seats : List Scanning) → i < length seats → place < length seats
    → ((seat_in (adopted i place seats) i).lives ≡ (seat_in seats i).lives ++ (seat_in seats place).lives) × ((seat_in (adopted i place seats) i).values ≡ (seat_in seats i).values)
    × ((seat_in (adopted i place seats) i).scans ≡ false)
adopted_own i place seats h k =
    let rest = slice_set seats place (emptied (seat_in seats place)) in
    let long : i < length rest = rw length-set h in
    let is : seat_in (adopted i place seats) i ≡ gained (handed i place (seat_in seats place).lives) (seat_in rest i) = get_or-set_same rest i _ no_scanning long in
    rw is
    (elim (cases_eq i place) [
      | inl same ↦
          let at : seat_in rest i ≡ emptied (seat_in seats place) = rw same (get_or-set_same seats place _ no_scanning k) in
          rw (at, same, same_number place) (refl, refl, refl)
      | inr apart ↦
          let at : seat_in rest i ≡ seat_in seats i = get_or-set_other seats place i _ no_scanning apart in
          rw (at, ne_eqb i place apart) (refl, refl, refl)
    ])

adopted_place : (i place : ℕ) (seats : List Scanning) → (place ≡ i → ⊥) → place < length seats → seat_in (adopted i place seats) place ≡ emptied (seat_in seats place)
adopted_place i place seats apart h =
    get_or-set_other (slice_set seats place (emptied (seat_in seats place))) i place _ no_scanning apart ∙ get_or-set_same seats place _ no_scanning h

adopted_other : (i place k : ℕ) (seats : List Scanning) → (k ≡ i → ⊥) → (k ≡ place → ⊥) → seat_in (adopted i place seats) k ≡ seat_in seats k
adopted_other i place k seats a b =
    get_or-set_other (slice_set seats place (emptied (seat_in seats place))) i k _ no_scanning a ∙ get_or-set_other seats place k _ no_scanning b

pub adopted_steps : (all many i place count : ℕ) (old : List Scanning) (p : Past) → length old ≡ many → i < many → place < many → AreSeats all many old p
    → AreSeats all many (adopted i place old) (Then p i (events.Adopted place count))
adopted_steps all many i place count old p long seated placed s k below =
    elim (cases_eq k i) [
      | inl same ↦
          let P : ℕ → Type 0 = λ (k : ℕ). IsSeat all k (seat_in (adopted i place old) k) (Then p i (events.Adopted place count)) in
          let own = adopted_own i place old (omega arith) (omega arith) in
          subst P (sym same)
          (gained_step all i place count (seat_in old i) (seat_in (adopted i place old) i) p (s i seated) (own.0 ∙ ap (λ (xs : List Lifetime). (seat_in old i).lives ++ xs) (s place placed).lives) own.1 own.2)
      | inr apart ↦ elim (cases_eq k place) [
        | inl same ↦
            let P : ℕ → Type 0 = λ (k : ℕ). IsSeat all k (seat_in (adopted i place old) k) (Then p i (events.Adopted place count)) in
            let away : place ≡ i → ⊥ = λ e. apart (same ∙ e) in
            subst P (sym same) (rw (adopted_place i place old away (omega arith)) (emptied_step all place i count (seat_in old place) p away (s place placed)))
        | inr beside ↦
            rw (adopted_other i place k old apart beside)
            (other_step all k i (events.Adopted place count) (seat_in old k) p apart (other_chosen k place _ _ beside) (s k below))
      ]
    ]

pub adopted_long : (i place : ℕ) (seats : List Scanning) → length (adopted i place seats) ≡ length seats
adopted_long i place seats = length-set (slice_set seats place (emptied (seat_in seats place))) i _ ∙ length-set seats place _

pub not_handed : (event : Event) → ((place count : ℕ) → event ≡ events.Adopted place count → ⊥) → is_handed event ≡ false
not_handed (events.Adopted place count) h = absurd (h place count refl)
not_handed event h = refl
