-- Each call ends within the steps of its own that it has left.
use Rattle.std.proofs.Common.{ℕ, ◌≡◌, ◌≤◌, ◌<◌, ◌+◌, ◌^◌, Bool, true, false, List, [], ◌∷◌, ◌++◌, refl, sym, ap, subst, arith}
use Rattle.std.proofs.lemmas.Bool.Decides.{nat_tests}
use Rattle.std.specs.Prelude.{◌==◌, ◌&&◌, nat_lt, if◌then◌else◌}
use Rattle.inv_ends.specs.model.words.Place.{is_valid}
use Rattle.inv_ends.specs.model.words.Place.Place.{Clock}
use Rattle.inv_ends.specs.model.words.declared.layout.Layout.{Layout}
use Rattle.inv_ends.specs.model.defs.declared.call.Call.{Call}
use Rattle.inv_ends.specs.model.Locals.{Local}
use Rattle.inv_ends.specs.model.Rest.{rest, rest_of}
use Rattle.inv_ends.specs.model.World.{World, begin, step, is_busy, may_start}
use Rattle.inv_ends.proofs.shapes.Frame.{begin_stays}
use Rattle.inv_ends.specs.history.History.{Item, Begins, Steps, Made, fits, done_if, did, made_from, first_made, made_of}
use Rattle.inv_ends.proofs.history.Along.{Steady, item_keeps, items_keep, begins_right, low_seat}
use Rattle.inv_all.specs.Ends.{CallsEnd}
use Rattle.inv_all.specs.Inv.{Inv}
use Rattle.inv_all.proofs.Inv.Begun.{inv_start, inv_begin}
use Rattle.inv_all.proofs.Inv.Ends.{inv_ends}
use Rattle.inv_all.proofs.Inv.Kept.{inv_kept}
use Rattle.inv_all.specs.Finish.{is_own, steps_in, CallsFinish}
use Rattle.inv_ends.proofs.model.Facts.{true_not_false, below_none}

-- each World of a history
pub record Goes (layout : Layout) (w : World) : Type 0 where
  pub table : w.layout ≡ layout
  pub known : Inv w

pub steady : (layout : Layout) → Steady (λ made. Goes layout made.world)
steady layout = record { begins = λ made k call b y m g. record { table = g.table; known = inv_begin made.world k call y m g.known }; steps = λ made k b y g. record { table = g.table; known = inv_kept made.world k b g.known } }

other_seat : (w : World) (i k : ℕ) (same : Bool) → (i == k) ≡ same → is_busy w i ≡ true → is_busy w k ≡ false → same ≡ false
other_seat w i k true e b f = let one : i ≡ k = grind (arith, nat_tests) in absurd (true_not_false (is_busy w k) (subst (λ (m : ℕ). is_busy w m ≡ true) one b) f)
other_seat w i k false e b f = refl

begin_rest : (w : World) (i k : ℕ) (call : Call) → (i == k) ≡ false → rest (begin w k call) i + 0 ≤ rest w i
begin_rest w i k call e = let same : rest (begin w k call) i ≡ rest w i = ap (λ (l : Local). rest_of w.layout.config (w.mem Clock) l) (begin_stays w k i call e) in omega arith

skipped : (w : World) (i k : ℕ) (same : Bool) → (i == k) ≡ same → is_busy w i ≡ true → i < w.layout.config.seats → (nat_lt k w.layout.config.seats && is_busy w k) ≡ false → rest w i + (if same then 1 else 0) ≤ rest w i
skipped w i k true e b l f =
    let one : i ≡ k = grind (arith, nat_tests) in
    let busy : is_busy w k ≡ true = subst (λ (m : ℕ). is_busy w m ≡ true) one b in
    let low : nat_lt k w.layout.config.seats ≡ true = grind (arith, nat_tests) in
    absurd (both_false (nat_lt k w.layout.config.seats) (is_busy w k) low busy f)
  where
    both_false : (a b : Bool) → a ≡ true → b ≡ true → (a && b) ≡ false → ⊥
    both_false a b h k f = cc
skipped w i k false e b l f = omega arith

made_step : (w : World) (i k : ℕ) (same : Bool) → (i == k) ≡ same → k < w.layout.config.seats → Inv w → is_busy (step w k) i ≡ true → rest (step w k) i + (if same then 1 else 0) ≤ rest w i
made_step w i k true e l a h =
    let one : i ≡ k = grind (arith, nat_tests) in
    let c : CallsEnd w k = inv_ends w k l a in
    subst (λ (m : ℕ). rest (step w k) m + 1 ≤ rest w m) (sym one) (c.falls (subst (λ (m : ℕ). is_busy (step w k) m ≡ true) one h))
made_step w i k false e l a h = let c : CallsEnd w k = inv_ends w k l a in let s = c.stays i e in omega arith

item_rest : (layout : Layout) (i : ℕ) (made : Made) (item : Item) (fit : Bool) → fits made.world item ≡ fit → is_busy made.world i ≡ true → i < made.world.layout.config.seats → Goes layout made.world → is_busy (done_if made item fit).world i ≡ true → rest (done_if made item fit).world i + is_own i item ≤ rest made.world i
item_rest layout i made (Begins k call) false f b l g h = omega arith
item_rest layout i made (Steps k) false f b l g h = skipped made.world i k (i == k) refl b l f
item_rest layout i made (Begins k call) true f b l g h = begin_rest made.world i k call (other_seat made.world i k (i == k) refl b (begins_right k made.world.layout.config.seats (is_busy made.world k) (may_start made.world k call) f))
item_rest layout i made (Steps k) true f b l g h = made_step made.world i k (i == k) refl (low_seat k made.world.layout.config.seats (is_busy made.world k) f) g.known h

-- so the call ends among enough of them
record Ends (made : Made) (more : List Item) (i : ℕ) : Type 0 where
  first : List Item
  last : List Item
  cut : first ++ last ≡ more
  idle : is_busy (made_from made first).world i ≡ false

pub in_table : (layout : Layout) (i : ℕ) (w : World) → i < layout.config.seats → Goes layout w → i < w.layout.config.seats
in_table layout i w l g = subst (λ (table : Layout). i < table.config.seats) (sym g.table) l

fewer : (after before own more : ℕ) → after + own ≤ before → before < own + more → after < more
fewer after before own more a b = omega (a, b, arith)

finishes : (layout : Layout) (i : ℕ) (more : List Item) (made : Made) (busy : Bool) → is_busy made.world i ≡ busy → i < layout.config.seats → Goes layout made.world → (is_busy made.world i ≡ true → rest made.world i < steps_in i more) → Ends made more i
finishes layout i more made false e l g h = record { first = []; last = more; cut = refl; idle = e }
finishes layout i [] made true e l g h = absurd (below_none (rest made.world i) (h e))
finishes layout i (item ∷ more) made true e l g h =
    let next : Made = did made item in
    let n = item_keeps (λ made. Goes layout made.world) (steady layout) made item (fits made.world item) refl g in
    let r = finishes layout i more next (is_busy next.world i) refl l n
    (λ b. fewer (rest next.world i) (rest made.world i) (is_own i item) (steps_in i more) (item_rest layout i made item (fits made.world item) refl e (in_table layout i made.world l g) g b) (h e)) in
    record { first = item ∷ r.first; last = r.last; cut = ap (λ (rest : List Item). item ∷ rest) r.cut; idle = r.idle }

-- items after items
pub made_along : (items more : List Item) (made : Made) → made_from made (items ++ more) ≡ made_from (made_from made items) more
made_along [] more made = refl
made_along (item ∷ items) more made = made_along items more (did made item)

pub first_goes : (layout : Layout) → is_valid layout ≡ true → Goes layout (first_made layout).world
first_goes layout d = record { table = refl; known = inv_start layout d }

few_of : (w : World) (i : ℕ) → i < w.layout.config.seats → Inv w → rest w i < 2 ^ 62
few_of w i l a = let c : CallsEnd w i = inv_ends w i l a in c.few i

pub calls_finish : CallsFinish
calls_finish layout items i d l =
    let made : Made = made_of layout items in
    let g = items_keep (λ made. Goes layout made.world) (steady layout) items (first_made layout) (first_goes layout d) in
    record {
      few = few_of made.world i (in_table layout i made.world l g) g.known;
      ends = λ more h.
          let r = finishes layout i more made (is_busy made.world i) refl l g (λ b. h) in
          record {
            first = r.first;
            last = r.last;
            cut = r.cut;
            ends = subst (λ (x : Made). is_busy x.world i ≡ false) (sym (made_along items r.first (first_made layout))) r.idle;
          };
    }
