-- A seat's list and scan, as they are kept, are what the laws read off the record.
use Rattle.std.specs.Prelude.{◌==◌, ◌||◌, ◌&&◌, if◌then◌else◌, Bool, true, false, not, is_none, nat_lt, slice_get, map}
use Rattle.std.proofs.Common.{◌≡◌, ℕ, List, [], ◌∷◌, length, refl, sym, ap, ◌∙◌, Option, Some, inl, inr}
use Rattle.std.proofs.lemmas.Bool.{cases_eq, ne_eqb}
use Rattle.std.proofs.lemmas.List.{length-map}
use Rattle.laws.specs.Lists.{list_of, has_slot}
use Rattle.laws.specs.Once.{backs_ok}
use Rattle.laws.specs.ScanLaw.{guards, guard_at, next_back, next_number, is_life_of, is_over, is_partial, scan_ok}
use Rattle.laws.specs.StateAt.{read_of, same_guard, scans_of}
use Rattle.laws.specs.defs.declared.event.Event.{Event}
use Rattle.laws.specs.defs.declared.event.Event.TheVariants as events
use Rattle.laws.specs.records.Record.{Past}
use Rattle.laws.specs.words.declared.config.Config.{Config}
use Rattle.wfe_defs.specs.Shown.{Seen, keeps_any}
use Rattle.wfe_defs.specs.declared.shown.Shown.{Shown}
use Rattle.wfe_defs.specs.declared.lifetime.Lifetime.{Lifetime}
use Rattle.wfe_check_map.specs.Seats.{Scanning, done_in, fits_in, goes_back_in, keeps_one, may_read_in, next_due}
use Rattle.wfe_check_map.specs.ListStanding.{IsSeat, shown_in}

-- what was read and its values keep the same
read_any : (life : Lifetime) (values : List Shown) (read : List Seen) → values ≡ map shown_in read → keeps_any life read ≡ keeps_one life values
read_any life [] [] h = refl
read_any life [] (x ∷ read) h = absurd (cc)
read_any life (value ∷ values) [] h = absurd (cc)
read_any life (value ∷ values) (x ∷ read) h =
    let here : value ≡ x.1 = cc in
    let rest : values ≡ map shown_in read = cc in
    rw (read_any life values read rest, here) refl

pub read_length : (values : List Shown) (read : List Seen) → values ≡ map shown_in read → length read ≡ length values
read_length values read h = sym (length-map read shown_in) ∙ ap length (sym h)

read_next : (lives : List Lifetime) (values : List Shown) (read : List Seen) → values ≡ map shown_in read → next_back read lives ≡ next_due values lives
read_next [] values read h = refl
read_next (life ∷ lives) values read h = rw (read_any life values read h, read_next lives values read h) refl

-- the life that goes back next is known where the block is whole and the seat scans
done_same : (scans : Bool) (all len : ℕ) (x y : Option Lifetime) → (scans ≡ true → len ≡ all → x ≡ y) → (not scans || (len == all && is_none x)) ≡ (not scans || (len == all && is_none y))
done_same false all len x y h = refl
done_same true all len x y h =
    elim (cases_eq len all) [
      | inl same ↦ rw (h refl same) refl
      | inr apart ↦ rw (ne_eqb len all apart) refl
    ]

back_same : (scans : Bool) (all len slot : ℕ) (x y : Option Lifetime) → (scans ≡ true → len ≡ all → x ≡ y) → (scans && (len == all && is_life_of slot x)) ≡ (scans && (len == all && is_life_of slot y))
back_same false all len slot x y h = refl
back_same true all len slot x y h =
    elim (cases_eq len all) [
      | inl same ↦ rw (h refl same) refl
      | inr apart ↦ rw (ne_eqb len all apart) refl
    ]

due_of : (all i : ℕ) (seat : Scanning) (p : Past) → IsSeat all i seat p → seat.scans ≡ true → length seat.values ≡ all → next_back (read_of all i p) seat.lives ≡ slice_get seat.lives seat.place
due_of all i seat p s scans whole = read_next seat.lives seat.values (read_of all i p) s.read ∙ (s.due scans whole).here

done_is : (all i : ℕ) (seat : Scanning) (p : Past) → IsSeat all i seat p → done_in all seat ≡ (not (scans_of i p) || is_over all (read_of all i p) (list_of i p))
done_is all i seat p s =
    rw (← s.scans, ← s.lives, read_length seat.values (read_of all i p) s.read)
    (done_same seat.scans all (length seat.values) (slice_get seat.lives seat.place) (next_back (read_of all i p) seat.lives) (λ a b. sym (due_of all i seat p s a b)))

back_is : (all i slot : ℕ) (seat : Scanning) (p : Past) → IsSeat all i seat p
    → goes_back_in all slot seat ≡ (scans_of i p && (length (read_of all i p) == all && is_life_of slot (next_back (read_of all i p) (list_of i p))))
back_is all i slot seat p s =
    rw (← s.scans, ← s.lives, read_length seat.values (read_of all i p) s.read)
    (back_same seat.scans all (length seat.values) slot (slice_get seat.lives seat.place) (next_back (read_of all i p) seat.lives) (λ a b. sym (due_of all i seat p s a b)))

may_read_is : (all i : ℕ) (seat : Scanning) (p : Past) → IsSeat all i seat p
    → may_read_in all seat ≡ (if is_partial all (read_of all i p) then scans_of i p else (not (scans_of i p) || is_over all (read_of all i p) (list_of i p)))
may_read_is all i seat p s =
    ap (λ (b : Bool). if nat_lt 0 (length seat.values) && nat_lt (length seat.values) all then seat.scans else b) (done_is all i seat p s)
    ∙ ap (λ (n : ℕ). if nat_lt 0 n && nat_lt n all then seat.scans else (not (scans_of i p) || is_over all (read_of all i p) (list_of i p))) (sym (read_length seat.values (read_of all i p) s.read))
    ∙ ap (λ (b : Bool). if is_partial all (read_of all i p) then b else (not (scans_of i p) || is_over all (read_of all i p) (list_of i p))) s.scans

or_true : (x : Bool) → (x || true) ≡ true
or_true true = refl
or_true false = refl

next_among_if : (kept : Bool) (slot : ℕ) (life : Lifetime) (next : Option Lifetime) (among : Bool) → is_life_of slot (if kept then next else Some life) ≡ true
    → (is_life_of slot next ≡ true → among ≡ true) → ((life.slot == slot) || among) ≡ true
next_among_if true slot life next among h rest = rw (rest h) (or_true (life.slot == slot))
next_among_if false slot life next among h rest = rw h refl

-- a life that goes back is on the list
next_among : (slot : ℕ) (read : List Seen) (lives : List Lifetime) → is_life_of slot (next_back read lives) ≡ true → has_slot slot lives ≡ true
next_among slot read [] h = h
next_among slot read (life ∷ lives) h = next_among_if (keeps_any life read) slot life (next_back read lives) (has_slot slot lives) h (next_among slot read lives)

and_true : (x : Bool) → x ≡ (x && true)
and_true true = refl
and_true false = refl

absorbed : (a b c d : Bool) → (d ≡ true → c ≡ true) → (a && (b && d)) ≡ ((a && (b && d)) && c)
absorbed true true c true h = sym (h refl)
absorbed true true c false h = refl
absorbed true false c d h = refl
absorbed false b c d h = refl

-- the tests of an entry by the seat
pub fits_is : (config : Config) (i : ℕ) (seat : Scanning) (p : Past) (event : Event) → IsSeat (guards config) i seat p
    → fits_in config (guards config) event seat ≡ (scan_ok config p i event && backs_ok p i event)
fits_is config i seat p (events.Read guard span) s =
    ap (λ (n : ℕ). same_guard guard (guard_at config (if n == guards config then 0 else n)) && may_read_in (guards config) seat) (sym (read_length seat.values (read_of (guards config) i p) s.read))
    ∙ ap (λ (b : Bool). same_guard guard (guard_at config (next_number (guards config) (read_of (guards config) i p))) && b) (may_read_is (guards config) i seat p s)
    ∙ and_true _
fits_is config i seat p (events.Saw guard slot) s =
    ap (λ (n : ℕ). same_guard guard (guard_at config (if n == guards config then 0 else n)) && may_read_in (guards config) seat) (sym (read_length seat.values (read_of (guards config) i p) s.read))
    ∙ ap (λ (b : Bool). same_guard guard (guard_at config (next_number (guards config) (read_of (guards config) i p))) && b) (may_read_is (guards config) i seat p s)
    ∙ and_true _
fits_is config i seat p (events.Back slot) s =
    back_is (guards config) i slot seat p s
    ∙ absorbed (scans_of i p) (length (read_of (guards config) i p) == guards config) (has_slot slot (list_of i p)) (is_life_of slot (next_back (read_of (guards config) i p) (list_of i p)))
    (next_among slot (read_of (guards config) i p) (list_of i p))
fits_is config i seat p event s = done_is (guards config) i seat p s ∙ and_true _
