-- A law on entries holds in the record of each history where it holds along what each step tells; and what the answers of a history
-- need is known on each way.
use Rattle.std.proofs.Common.{ℕ, ◌≡◌, ◌<◌, Bool, true, false, List}
use Rattle.std.specs.Prelude.{nat_lt}
use Rattle.law_scans.specs.inv.model.words.Place.{is_valid}
use Rattle.law_scans.specs.inv.model.words.declared.layout.Layout.{Layout}
use Rattle.law_scans.specs.inv.model.defs.declared.call.Call.{Call}
use Rattle.law_scans.specs.inv.model.defs.declared.event.Event.TheVariants as events
use Rattle.law_scans.specs.inv.model.World.{World, is_busy, told_in}
use Rattle.law_scans.proofs.inv.model.Facts.{rest_of}
use Rattle.law_scans.specs.laws.records.Record.{Past, Test, Each, EachEntry, tells_of}
use Rattle.law_scans.proofs.laws.records.Entries.{entries_of_each}
use Rattle.law_scans.specs.inv.history.History.{Item, Begins, Steps, Made, fits, done_if, made_of, first_made, record_of, world_of}
use Rattle.law_scans.proofs.reuse.history.Along.{Steady, items_keep, low_seat, paths_keep}
use Rattle.law_scans.proofs.reuse.AnswersTold.Answering as answering

-- a seat that makes a step where a history has come to
pub record Turning (layout : Layout) (path : List Item) (i : ℕ) : Type 0 where
  pub seat : i < (world_of layout path).layout.config.seats
  pub busy : is_busy (world_of layout path) i ≡ true

-- the law holds of beginnings, and along what a step tells
pub record Along (layout : Layout) (ok : Test) : Type 0 where
  pub begins : (p : Past) (i : ℕ) (call : Call) → ok p i (events.Begin call) ≡ true
  pub steps : (path : List Item) (i : ℕ) → Turning layout path i → Each ok (record_of layout path) → Each ok (tells_of (record_of layout path) i (told_in (world_of layout path) i))

item_each : (layout : Layout) (ok : Test) → Along layout ok → (path : List Item) (item : Item) (fit : Bool) → fits (world_of layout path) item ≡ fit → Each ok (record_of layout path) → Each ok (done_if (made_of layout path) item fit).past
item_each layout ok a path item false f g = g
item_each layout ok a path (Begins i call) true f g = (a.begins (record_of layout path) i call, g)
item_each layout ok a path (Steps i) true f g =
    let w : World = world_of layout path in
    a.steps path i (record { seat = low_seat i w.layout.config.seats (is_busy w i) f; busy = rest_of (nat_lt i w.layout.config.seats) (is_busy w i) f }) g

pub record_all : (layout : Layout) (ok : Test) (items : List Item) → Along layout ok → Each ok (record_of layout items)
record_all layout ok items a = paths_keep layout (λ (made : Made). Each ok made.past) (λ path item fit f g. item_each layout ok a path item fit f g) tt items

pub record_each : (layout : Layout) (ok : Test) (items : List Item) → Along layout ok → EachEntry ok (record_of layout items)
record_each layout ok items a = entries_of_each ok (record_of layout items) (record_all layout ok items a)

-- what a history has told of its answers
steady : (n : ℕ) → Steady (answering.Keeps n)
steady n = record { begins = λ made i call b y m g. answering.begin_keeps n made i call y m g; steps = λ made i b y g. answering.step_keeps n made i b y g }

pub answers_of : (layout : Layout) (path : List Item) → is_valid layout ≡ true → answering.Keeps layout.config.buckets (made_of layout path)
answers_of layout path d = items_keep (answering.Keeps layout.config.buckets) (steady layout.config.buckets) path (first_made layout) (answering.first_keeps layout d)
