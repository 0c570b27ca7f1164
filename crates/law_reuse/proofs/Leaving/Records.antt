-- By each history's record the place words say which seats have left, and whose lists are taken over; and no call begins on a seat that
-- has left.
use Rattle.std.proofs.Common.{ℕ, ◌≡◌, ◌∙◌, Bool, true, List, [], ◌∷◌, refl, ap}
use Rattle.std.specs.Prelude.{◌==◌, not, nat_lt}
use Rattle.inv_all.specs.model.words.Place.Place.{PlaceOf}
use Rattle.inv_all.specs.model.words.Place.{is_valid}
use Rattle.inv_all.specs.model.words.declared.layout.Layout.{Layout}
use Rattle.inv_all.specs.model.defs.declared.call.Call.{Call}
use Rattle.inv_all.specs.model.defs.declared.event.Event.{Event}
use Rattle.inv_all.specs.model.defs.declared.event.Event.TheVariants as events
use Rattle.inv_all.specs.model.Locals.{may_begin}
use Rattle.inv_all.specs.model.World.{is_busy, is_here, may_start, told_in}
use Rattle.inv_all.specs.Inv.{Inv}
use Rattle.inv_all.specs.history.History.{Begins, Item, Made, Steps, done, made_of, record_of}
use Rattle.inv_all.specs.history.Record.{Each, Past, Test, tells_of}
use Rattle.inv_all.specs.history.Record.Past.{Then}
use Rattle.inv_all.proofs.history.AllOf.{all_of}
use Rattle.inv_all.proofs.Machines.{is_within, within_of}
use Rattle.inv_all.proofs.model.Facts.{first_of, number_is, rest_of}
use Rattle.laws.specs.Lists.{has_left}
use Rattle.law_reuse.specs.Answers.{PlacesSay, RecordPlaces}
use Rattle.law_reuse.proofs.Leaving.Words.{first_placed, step_placed}
use Rattle.law_reuse.proofs.OneStep.Along.{Kept, history_keeps}

-- no call begins where its seat has left
abbrev pub stays_ok : Test
stays_ok p i (events.Begin call) = not (has_left i p)
stays_ok p i event = true

stays_one : (p : Past) (i : ℕ) (event : Event) → is_within event ≡ true → stays_ok p i event ≡ true
stays_one p i (events.Begin call) h = absurd (cc)
stays_one p i event h = refl

stays_each : (i : ℕ) (told : List Event) (p : Past) → all_of is_within told ≡ true → Each stays_ok p → Each stays_ok (tells_of p i told)
stays_each i [] p h g = g
stays_each i (event ∷ told) p h g = stays_each i told (Then p i event) (rest_of (is_within event) (all_of is_within told) h) (stays_one p i event (first_of (is_within event) (all_of is_within told) h), g)

record Stays (made : Made) : Type 0 where
  placed : PlacesSay made.world.mem made.past
  law : Each stays_ok made.past

not_left : (word : ℕ) (left : Bool) → left ≡ nat_lt 0 word → (word == 0) ≡ true → not left ≡ true
not_left word left e h = let z : word ≡ 0 = number_is word 0 h in ap not (e ∙ ap (nat_lt 0) z)

begin_stays : (made : Made) (i : ℕ) (call : Call) → may_start made.world i call ≡ true → Stays made → Stays (done made (Begins i call))
begin_stays made i call m g = record {
  placed = record { left = g.placed.left; adopted = g.placed.adopted };
  law = (not_left (made.world.mem (PlaceOf i)) (has_left i made.past) (g.placed.left i) (first_of (is_here made.world i) (may_begin made.world.layout.config call) m), g.law);
}

step_stays : (made : Made) (i : ℕ) → is_busy made.world i ≡ true → Inv made.world → Stays made → Stays (done made (Steps i))
step_stays made i b a g = record {
  placed = step_placed made.world i a.rows made.past b a.known.whole.both.rows g.placed;
  law = stays_each i (told_in made.world i) made.past (within_of made.world i) g.law;
}

stays_kept : Kept (λ made h. Stays made)
stays_kept = record { begins = λ made h i call a b f m g. begin_stays made i call m g; steps = λ made h i a b y g. step_stays made i y a.known g }

history_stays : (layout : Layout) (items : List Item) → is_valid layout ≡ true → Stays (made_of layout items)
history_stays layout items d = history_keeps layout (λ made h. Stays made) stays_kept d items (record { placed = first_placed layout; law = tt })

pub record_places : RecordPlaces
record_places layout items d = (history_stays layout items d).placed

pub records_stay : (layout : Layout) (items : List Item) → is_valid layout ≡ true → Each stays_ok (record_of layout items)
records_stay layout items d = (history_stays layout items d).law
