-- What guards publish after an operation: one that writes no guard's word leaves them all, and a store to a guard's word changes
-- that guard alone.
use Rattle.std.proofs.Common.{ℕ, ◌≡◌, ◌≤◌, ◌<◌, Bool, true, false, List, [], ◌∷◌, Option, None, refl, sym, ap, ◌∙◌, arith}
use Rattle.std.specs.Prelude.{◌==◌, ◌&&◌, if◌then◌else◌}
use Rattle.laws.specs.words.Packed.{reservation_word, read_reservation, read_span}
use Rattle.laws.specs.words.Place as places
use Rattle.laws.specs.words.Place.{Place}
use Rattle.laws.specs.words.declared.packed.Reservation.{Reservation}
use Rattle.inv_all.proofs.model.words.Parts.{read_reservation-halves, read_span-halves}
use Rattle.laws.specs.defs.declared.event.Event.{Event}
use Rattle.laws.specs.defs.declared.event.Event.TheVariants as events
use Rattle.laws.specs.defs.declared.event.Guard.{Guard}
use Rattle.laws.specs.defs.declared.event.Guard.TheVariants.{Helper, Index, Whole}
use Rattle.laws.specs.defs.declared.lifetime.Interval.{Interval}
use Rattle.inv_all.specs.model.Guards.{guard_place, eras_in, one_era, from_to, interval_in}
use Rattle.inv_all.specs.model.Memory.{Move, Load, Store, Cas, Or, And, put, written}
use Rattle.inv_all.specs.model.Spans.{eras_word}
use Rattle.inv_all.proofs.shapes.Frame.{written_other}
use Rattle.laws.proofs.Along.{along}
use Rattle.laws.specs.StateAt.{reserved_by}
use Rattle.inv_all.proofs.shapes.Decode.{no_index}

-- the word of no guard
abbrev pub is_plain : Place → Bool
is_plain (Place.Helper seat) = false
is_plain (Place.Index seat index) = false
is_plain (Place.Interval seat) = false
is_plain place = true

abbrev pub leaves : Move → Bool
leaves (Load place) = true
leaves (Store place value) = is_plain place
leaves (Cas place old new) = is_plain place
leaves (Or place bits) = is_plain place
leaves (And place bits) = is_plain place

apart : (guard : Guard) (place : Place) → is_plain place ≡ true → places.same (guard_place guard) place ≡ false
apart (Helper s) (Place.Helper seat) h = absurd (cc)
apart (Helper s) (Place.Index seat index) h = absurd (cc)
apart (Helper s) (Place.Interval seat) h = absurd (cc)
apart (Helper s) place h = refl
apart (Index s j) (Place.Helper seat) h = absurd (cc)
apart (Index s j) (Place.Index seat index) h = absurd (cc)
apart (Index s j) (Place.Interval seat) h = absurd (cc)
apart (Index s j) place h = refl
apart (Whole s) (Place.Helper seat) h = absurd (cc)
apart (Whole s) (Place.Index seat index) h = absurd (cc)
apart (Whole s) (Place.Interval seat) h = absurd (cc)
apart (Whole s) place h = refl

pub written_plain : (guard : Guard) (mem : Place → ℕ) (m : Move) → leaves m ≡ true → written mem m (guard_place guard) ≡ mem (guard_place guard)
written_plain guard mem (Load place) h = refl
written_plain guard mem (Store place value) h = written_other mem (Store place value) (guard_place guard) (apart guard place h)
written_plain guard mem (Cas place old new) h = written_other mem (Cas place old new) (guard_place guard) (apart guard place h)
written_plain guard mem (Or place bits) h = written_other mem (Or place bits) (guard_place guard) (apart guard place h)
written_plain guard mem (And place bits) h = written_other mem (And place bits) (guard_place guard) (apart guard place h)

-- what is told of guards after an operation is what they publish
abbrev pub Publishes : Guard → (Place → ℕ) → Move → List Event → Type 0
Publishes guard mem m told = eras_in guard (written mem m (guard_place guard)) ≡ along (reserved_by guard) told (eras_in guard (mem (guard_place guard)))

pub none_published : (guard : Guard) (mem : Place → ℕ) (m : Move) (told : List Event) → leaves m ≡ true → told ≡ [] → Publishes guard mem m told
none_published guard mem m told h e = ap (eras_in guard) (written_plain guard mem m h) ∙ ap (λ (es : List Event). along (reserved_by guard) es (eras_in guard (mem (guard_place guard)))) (sym e)

put_shown : (guard other : Guard) (mem : Place → ℕ) (word : ℕ) → eras_in guard (put mem (guard_place other) word (guard_place guard)) ≡ reserved_by guard (events.Reserve other (eras_in other word)) (eras_in guard (mem (guard_place guard)))
put_shown (Helper a) (Helper b) mem word = by (a == b)
  where
    by : (same : Bool) → eras_in (Helper a) (if same then word else mem (Place.Helper a)) ≡ (if same then eras_in (Helper b) word else eras_in (Helper a) (mem (Place.Helper a)))
    by true = refl
    by false = refl
put_shown (Helper a) (Index b j) mem word = refl
put_shown (Helper a) (Whole b) mem word = refl
put_shown (Index a i) (Helper b) mem word = refl
put_shown (Index a i) (Index b j) mem word = by (a == b && i == j)
  where
    by : (same : Bool) → eras_in (Index a i) (if same then word else mem (Place.Index a i)) ≡ (if same then eras_in (Index b j) word else eras_in (Index a i) (mem (Place.Index a i)))
    by true = refl
    by false = refl
put_shown (Index a i) (Whole b) mem word = refl
put_shown (Whole a) (Helper b) mem word = refl
put_shown (Whole a) (Index b j) mem word = refl
put_shown (Whole a) (Whole b) mem word = by (a == b)
  where
    by : (same : Bool) → eras_in (Whole a) (if same then word else mem (Place.Interval a)) ≡ (if same then eras_in (Whole b) word else eras_in (Whole a) (mem (Place.Interval a)))
    by true = refl
    by false = refl

pub put_published : (guard other : Guard) (mem : Place → ℕ) (word : ℕ) (span : Option Interval) (told : List Event) → eras_in other word ≡ span → told ≡ events.Reserve other span ∷ [] → eras_in guard (put mem (guard_place other) word (guard_place guard)) ≡ along (reserved_by guard) told (eras_in guard (mem (guard_place guard)))
put_published guard other mem word span told e q =
    put_shown guard other mem word ∙ ap (λ (x : Option Interval). reserved_by guard (events.Reserve other x) (eras_in guard (mem (guard_place guard)))) e
    ∙ ap (λ (es : List Event). along (reserved_by guard) es (eras_in guard (mem (guard_place guard)))) (sym q)

-- what words publish
pub era_shown : (era tag : ℕ) → tag < 4294967296 → one_era (read_reservation (reservation_word (record { era = era; tag = tag }))).era ≡ one_era era
era_shown era tag f = ap (λ (r : Reservation). one_era r.era) (read_reservation-halves era tag f)

pub span_shown : (lo hi : ℕ) → 0 < lo → lo ≤ hi → hi < 4294967296 → interval_in (read_span (eras_word lo hi)) ≡ from_to lo hi
span_shown lo hi a b c = ap interval_in (read_span-halves lo hi a b c)

pub nothing_shown : (guard : Guard) → eras_in guard 0 ≡ None
unfolding read_span
nothing_shown (Helper seat) = ap (λ (word : ℕ). one_era (read_reservation word).era) no_index ∙ era_shown 0 0 (omega arith)
nothing_shown (Index seat index) = ap (λ (word : ℕ). one_era (read_reservation word).era) no_index ∙ era_shown 0 0 (omega arith)
nothing_shown (Whole seat) = refl
