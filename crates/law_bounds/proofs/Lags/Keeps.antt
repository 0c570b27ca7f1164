-- Along a history the tail is behind by one value at most: a value is queued only behind the tail's row.
use Rattle.std.proofs.Common.{ℕ, ◌≡◌, ◌≤◌, ◌<◌, ◌+◌, ◌-◌, Bool, true, false, List, length, refl, sym, ap, ◌∙◌, subst, arith}
use Rattle.std.proofs.lemmas.Bool.Decides.{nat_tests}
use Rattle.std.specs.Prelude.{◌==◌, nat_lt}
use Rattle.law_held.specs.inv.Known.{Known}
use Rattle.law_held.specs.inv.history.History.{Item, Begins, Steps, Made, done, done_if, first_made, fits, made_of, world_of}
use Rattle.law_held.specs.inv.history.Record.{tells_of}
use Rattle.law_held.specs.inv.model.Calls.{EnqueueKept, ExchangeNext, Enqueuing, Phase, Works}
use Rattle.law_held.specs.inv.model.World.{World, finds, is_busy, may_start, told_in}
use Rattle.law_held.specs.inv.model.defs.declared.call.Call.{Call}
use Rattle.law_held.specs.inv.model.words.Place.{is_valid}
use Rattle.law_held.specs.inv.model.words.Place.Place.{Row, Tail}
use Rattle.law_held.specs.inv.model.words.declared.layout.Layout.{Layout}
use Rattle.law_held.specs.inv.requests.Views.{Deal, View as Asked}
use Rattle.law_held.specs.inv.rows.Agree.{first_rows, rows_after}
use Rattle.law_held.specs.inv.rows.Chain.{first_line, line_after, queue_of}
use Rattle.law_held.specs.inv.rows.Queue.{Line, stands_on}
use Rattle.law_held.specs.inv.rows.Rows.{View}
use Rattle.law_held.specs.laws.StateAt.{tails_of}
use Rattle.law_held.specs.laws.StructuresAt.{queued_of}
use Rattle.law_held.proofs.inv.Inv.Begun.{known_begin, known_start}
use Rattle.law_held.proofs.inv.Inv.Kept.{asked_next, known_kept}
use Rattle.law_held.proofs.inv.ends.Origins.Kept.{origins_begin, origins_start}
use Rattle.law_held.proofs.inv.history.Along.{begins_right, begins_within, low_seat, paths_keep}
use Rattle.law_held.proofs.inv.model.Facts.{rest_of, same_number}
use Rattle.law_held.proofs.inv.requests.Kept.{requests_begin, requests_start}
use Rattle.law_held.proofs.inv.shapes.Frame.{finds_at}
use Rattle.law_reasons.proofs.Full.Keeps as full
use Rattle.law_reasons.proofs.Repeats.Tails.{tails_step}
use Rattle.law_bounds.specs.Tails.{TailsKeepUp}
use Rattle.law_bounds.proofs.Lags.Counts.{Counted, Same, More, counted_step}
use Rattle.law_bounds.proofs.Lags.Links.{LowLinks, link_low, links_step, steady_step}
use Rattle.law_bounds.proofs.Lags.Stands.{AllLow, stands_begin, stands_step}

-- what a history keeps
record Keeps (layout : Layout) (made : Made) : Type 0 where
  full : full.Keeps layout made
  rows : View
  line : Line
  asked : Asked
  known : Known made.world rows line asked
  tails : tails_of made.past ≡ line.number (made.world.mem Tail - 1)
  links : LowLinks made.world line asked
  low : AllLow made.world line
  high : length (queued_of made.past) ≤ tails_of made.past + 1

-- a value is queued only behind the tail's row
last_low : (w : World) (i : ℕ) (v : View) (l : Line) (z : Asked) (kept : EnqueueKept) (slot : ℕ) → Known w v l z → AllLow w l → (w.seat i).phase ≡ Works (Enqueuing kept (ExchangeNext slot)) → (finds w i == 0) ≡ true → length w.book.queued ≤ l.number (w.mem Tail - 1)
last_low w i v l z kept slot a f e n =
    let null : w.mem (Row kept.tail 0) ≡ 0 = sym (finds_at w i (Works (Enqueuing kept (ExchangeNext slot))) e) ∙ grind (arith, nat_tests, n) in
    let there : stands_on (w.seat i).phase kept.tail ≡ true = subst (λ (x : Phase). stands_on x kept.tail ≡ true) (sym e) (same_number kept.tail) in
    let lined : l.lined kept.tail ≡ true = (a.whole.both.queue.walks i).stood kept.tail there in
    let last : queue_of v kept.tail ≡ true = a.whole.both.queue.line.last kept.tail lined null in
    let number : l.number kept.tail ≡ length w.book.queued = a.items.rows.last kept.tail last null in
    let low = f i kept.tail there in
    omega (arith, number, low)

counted_high : (layout : Layout) (made : Made) (i : ℕ) (next : ℕ) → (g : Keeps layout made) → tails_of made.past ≤ next → Counted (made.world.seat i).phase (finds made.world i) (length (queued_of made.past)) (length (queued_of (tells_of made.past i (told_in made.world i)))) → length (queued_of (tells_of made.past i (told_in made.world i))) ≤ next + 1
counted_high layout made i next g r (Same e) = let h = g.high in omega (arith, h, r, e)
counted_high layout made i next g r (More kept slot e n m) =
    let b = last_low made.world i g.rows g.line g.asked kept slot g.known g.low e n in
    let q = ap length g.full.sees.shown.queued in
    let t = g.tails in
    omega (arith, b, q, t, r, m)

step_keeps : (layout : Layout) (made : Made) (i : ℕ) → i < made.world.layout.config.seats → is_busy made.world i ≡ true → Keeps layout made → Keeps layout (done made (Steps i))
step_keeps layout made i b y g =
    let w : World = made.world in
    let q = asked_next w i g.rows g.line g.asked b g.known in
    let s = steady_step w i g.rows g.line g.asked made.past g.known g.tails in
    let t = tails_step w i g.rows g.line g.asked made.past g.known g.tails in
    record {
      full = full.step_keeps layout made i b y g.full;
      rows = rows_after w i g.rows;
      line = line_after w i g.line;
      asked = q.0;
      known = known_kept w i g.rows g.line g.asked q.0 b g.known q.1.facts q.1.deal;
      tails = t;
      links = links_step w i g.rows g.line g.asked q.0 b g.known q.1.deal s g.links;
      low = stands_step w i g.rows g.line g.asked b g.known g.links s g.low;
      high = counted_high layout made i (tails_of (tells_of made.past i (told_in w i))) g (let r = s.rises in let u = g.tails in omega (arith, r, u, t)) (counted_step w i made.past);
    }

begin_keeps : (layout : Layout) (made : Made) (i : ℕ) (call : Call) → is_busy made.world i ≡ false → may_start made.world i call ≡ true → Keeps layout made → Keeps layout (done made (Begins i call))
begin_keeps layout made i call f m g =
    let w : World = made.world in
    let q = requests_begin w i call g.asked g.known.valid f g.known.seats g.known.requests in
    record {
      full = full.begin_keeps layout made i call f m g.full;
      rows = g.rows;
      line = g.line;
      asked = q.0;
      known = known_begin w i call g.rows g.line g.asked q.0 f m g.known q.1.facts q.1.deal;
      tails = g.tails;
      links = origins_begin (λ k. link_low g.line (w.mem Tail)) w i call g.asked q.0 f g.known.requests q.1.deal g.links;
      low = stands_begin w i call g.line g.low;
      high = g.high;
    }

first_keeps : (layout : Layout) → is_valid layout ≡ true → Keeps layout (first_made layout)
first_keeps layout d =
    let q = requests_start layout d in
    record {
      full = full.first_keeps layout d;
      rows = first_rows layout;
      line = first_line layout;
      asked = q.0;
      known = known_start layout q.0 d q.1.facts q.1.deal;
      tails = refl;
      links = origins_start (λ k. link_low (first_line layout) ((first_made layout).world.mem Tail)) layout q.0 (λ m. ap (λ (f : ℕ → Deal). f m) q.1.deal);
      low = λ k h o. absurd (cc);
      high = omega arith;
    }

item_keeps : (layout : Layout) → is_valid layout ≡ true → (path : List Item) (item : Item) (fit : Bool) → fits (world_of layout path) item ≡ fit → Keeps layout (made_of layout path) → Keeps layout (done_if (made_of layout path) item fit)
item_keeps layout d path item false e g = g
item_keeps layout d path (Begins i call) true e g =
    let w : World = world_of layout path in
    begin_keeps layout (made_of layout path) i call (begins_right i w.layout.config.seats (is_busy w i) (may_start w i call) e) (begins_within i w.layout.config.seats (is_busy w i) (may_start w i call) e) g
item_keeps layout d path (Steps i) true e g =
    let w : World = world_of layout path in
    step_keeps layout (made_of layout path) i (low_seat i w.layout.config.seats (is_busy w i) e) (rest_of (nat_lt i w.layout.config.seats) (is_busy w i) e) g

pub tails_keep_up : TailsKeepUp
tails_keep_up layout items d =
    let g = paths_keep layout (Keeps layout) (item_keeps layout d) (first_keeps layout d) items in
    let line = g.known.whole.both.queue.line in
    let some = line.some in
    let lined : g.line.lined ((world_of layout items).mem Tail - 1) ≡ true = line.lined ((world_of layout items).mem Tail - 1) (line.reached ((world_of layout items).mem Tail - 1) (omega (arith, some))) in
    let within = g.known.items.rows.within ((world_of layout items).mem Tail - 1) lined in
    let q = ap length g.full.sees.shown.queued in
    let t = g.tails in
    record { low = omega (arith, within, q, t); high = g.high }
