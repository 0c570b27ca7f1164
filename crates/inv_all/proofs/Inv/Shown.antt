-- What guards publish, by the eras in their words.
use Rattle.std.proofs.Common.{ℕ, ◌≡◌, ◌≤◌, ◌<◌, Bool, true, false, refl, sym, subst, ap, ◌∙◌, arith, None, Some, Option}
use Rattle.std.proofs.lemmas.Bool.Decides.{nat_tests}
use Rattle.std.specs.Prelude.{◌==◌, if◌then◌else◌}
use Rattle.inv_ends.specs.model.words.Packed.{halves, read_reservation, read_span}
use Rattle.inv_ends.specs.model.words.Place.{is_valid}
use Rattle.inv_ends.specs.model.words.Place.Place.{Clock, Helper as HelperOf, Index as IndexOf}
use Rattle.inv_ends.specs.model.words.declared.packed.Reservation.{Reservation}
use Rattle.inv_ends.proofs.model.words.Parts.{read_reservation-halves, read_span-halves}
use Rattle.inv_ends.specs.model.defs.declared.event.Guard.{Guard}
use Rattle.inv_ends.specs.model.defs.declared.event.Guard.TheVariants.{Helper, Index, Whole}
use Rattle.inv_ends.specs.model.defs.declared.lifetime.Interval.{Interval}
use Rattle.inv_ends.specs.model.defs.Shown as values
use Rattle.inv_ends.specs.model.defs.declared.shown.Shown.{Shown}
use Rattle.inv_ends.specs.model.words.Schemes.{publishes_rows}
use Rattle.inv_ends.proofs.covers.Words.{eras_are_shown, rows_are_shown}
use Rattle.inv_ends.specs.model.Guards.{guard_place, one_era, from_to, interval_in, linked_row}
use Rattle.inv_ends.proofs.model.Ranges.{bounds_of}
use Rattle.inv_ends.specs.model.World.{World}
use Rattle.inv_ends.specs.shapes.Eras.{SpanIn, span_shown, HelperIn, IndexIn, ShownIn, Eras}
use Rattle.inv_ends.specs.covers.Covers.{NotBefore, eras_shown, shown}

-- the clock's last era has 32 bits
pub clock_small : (w : World) → is_valid w.layout ≡ true → Eras w → w.mem Clock < 4294967296
clock_small w v a = let b = (bounds_of w.layout v).eras in let m = a.most in omega (arith, b.1, m)

one_before : (era clock : ℕ) (none : Bool) → era ≤ clock → NotBefore (values.shown (if none then None else from_to era era)) clock
one_before era clock true m slot birth h = h
one_before era clock false m slot birth h = grind (arith, nat_tests)

pub word_era : (word era tag : ℕ) → tag < 4294967296 → word ≡ halves era tag → (read_reservation word).era ≡ era
word_era word era tag f e = ap (λ (x : ℕ). (read_reservation x).era) e ∙ ap (λ (r : Reservation). r.era) (read_reservation-halves era tag f)

helper_before : (seat word clock : ℕ) → HelperIn clock word → NotBefore (values.shown (one_era (read_reservation word).era)) clock
helper_before seat word clock h = let P : ℕ → Type 0 = λ x. NotBefore (values.shown (one_era x)) clock in subst P (sym (word_era word h.era 0 (omega arith) h.is)) (one_before h.era clock (h.era == 0) h.most)

index_before : (word clock : ℕ) → IndexIn clock word → NotBefore (values.shown (one_era (read_reservation word).era)) clock
index_before word clock h = let P : ℕ → Type 0 = λ x. NotBefore (values.shown (one_era x)) clock in subst P (sym (word_era word h.era h.tag h.few h.is)) (one_before h.era clock (h.era == 0) h.most)

-- an interval word is read as the interval that it shows
some_read : (lo hi : ℕ) → 1 ≤ lo → lo ≤ hi → hi < 4294967296 → interval_in (read_span (halves lo hi)) ≡ from_to lo hi
some_read lo hi a b d = ap interval_in (read_span-halves lo hi (omega arith) b d)

none_read : interval_in (read_span 0) ≡ None
unfolding read_span
none_read = refl

span_read : (clock : ℕ) (span : Option Interval) → clock < 4294967296 → SpanIn clock span → interval_in (read_span (span_shown span)) ≡ span
span_read clock None c s = none_read
span_read clock (Some span) c s = let m = s.2 in some_read span.lo span.hi s.0 s.1 (omega arith)

pub shown_span : (w : World) (k : ℕ) → is_valid w.layout ≡ true → Eras w → eras_shown w (Whole k) ≡ (w.seat k).post.span
shown_span w k v a = let p = (a.seats k).post in ap (λ (x : ℕ). interval_in (read_span x)) p.shown ∙ span_read (w.mem Clock) (w.seat k).post.span (clock_small w v a) p.span

span_before : (clock : ℕ) (span : Option Interval) → SpanIn clock span → NotBefore (values.shown span) clock
span_before clock None s slot birth h = h
span_before clock (Some span) s slot birth h = let a = s.1 in let b = s.2 in grind (arith, nat_tests, a, b)

-- eras keep a life that is over now as before
eras_after : (w : World) (guard : Guard) → is_valid w.layout ≡ true → Eras w → publishes_rows w.layout.config.scheme ≡ false → NotBefore (values.shown (eras_shown w guard)) (w.mem Clock)
eras_after w (Helper seat) v a f = helper_before seat (w.mem (HelperOf seat)) (w.mem Clock) (a.words (HelperOf seat))
eras_after w (Index seat index) v a f = index_before (w.mem (IndexOf seat index)) (w.mem Clock) (subst (λ (rows : Bool). ShownIn rows w.layout (w.mem Clock) (w.mem (IndexOf seat index))) f (a.words (IndexOf seat index)))
eras_after w (Whole seat) v a f = let P : Option Interval → Type 0 = λ x. NotBefore (values.shown x) (w.mem Clock) in subst P (sym (shown_span w seat v a)) (span_before (w.mem Clock) (w.seat seat).post.span (a.seats seat).post.span)

-- and so do rows
row_after : (row : Option ℕ) (clock : ℕ) → NotBefore (values.shown_row row) clock
row_after None clock slot birth h = h
row_after (Some row) clock slot birth h = h

-- a life that is over now is kept as before
pub none_after : (w : World) (guard : Guard) → is_valid w.layout ≡ true → Eras w → NotBefore (shown w guard) (w.mem Clock)
none_after w guard v a = by_rows (publishes_rows w.layout.config.scheme) refl
  where
    by_rows : (rows : Bool) → publishes_rows w.layout.config.scheme ≡ rows → NotBefore (shown w guard) (w.mem Clock)
    by_rows true f = subst (λ (x : Shown). NotBefore x (w.mem Clock)) (sym (rows_are_shown w guard f)) (row_after (linked_row (w.mem (guard_place guard))) (w.mem Clock))
    by_rows false f = subst (λ (x : Shown). NotBefore x (w.mem Clock)) (sym (eras_are_shown w guard f)) (eras_after w guard v a f)
