-- A history's record keeps the law on eras.
use Rattle.std.proofs.Common.{ℕ, ◌≡◌, ◌<◌, true, false, List, [], ◌∷◌, refl, ap, ◌∙◌, subst}
use Rattle.std.specs.List.{filter}
use Rattle.law_scans.specs.laws.words.Place.{is_valid}
use Rattle.law_scans.specs.laws.words.Place.Place.{Clock}
use Rattle.law_scans.specs.laws.words.declared.layout.Layout.{Layout}
use Rattle.law_scans.specs.laws.defs.declared.call.Call.{Call}
use Rattle.law_scans.specs.laws.defs.declared.event.Event.{Event}
use Rattle.law_scans.specs.inv.model.Calls.{Why, Phase, Runs}
use Rattle.law_scans.specs.inv.shapes.Eras.{PhaseEras}
use Rattle.law_scans.specs.inv.model.Phases.{Base}
use Rattle.law_scans.specs.inv.model.World.{World, finds, is_busy, step, told_in, may_start}
use Rattle.law_scans.specs.inv.rows.Rows.RowMove.{Lists}
use Rattle.law_scans.specs.inv.rows.Hands.{row_move}
use Rattle.law_scans.specs.laws.records.Record.{Past, Each, tells_of}
use Rattle.law_scans.specs.laws.records.Record.Past.{Then}
use Rattle.law_scans.proofs.laws.records.Entries.{entries_of_each}
use Rattle.law_scans.specs.inv.history.History.{Item, Begins, Steps, Made, done, made_of, first_made, record_of}
use Rattle.law_scans.proofs.reuse.history.Along.{Steady, items_keep}
use Rattle.law_scans.specs.inv.ends.Told.{move_of}
use Rattle.law_scans.proofs.inv.ends.Told.Births.{retires_given}
use Rattle.law_scans.proofs.laws.Along.{along, along_kind, Single, single_each}
use Rattle.law_scans.proofs.reuse.Holding.Holds.{Held, begin_held, step_held, first_held, given_need, ranges_of}
use Rattle.law_scans.specs.laws.StateAt.{ticked_by, clock_of}
use Rattle.law_scans.specs.laws.EraLaw.{guard_ok}
use Rattle.law_scans.specs.laws.HistoryEras.{era_ok}
use Rattle.law_reasons.specs.Eras.Records.{RecordsKeepEras, RecordClock, RecordsKeepGuards}
use Rattle.law_scans.specs.laws.defs.declared.event.Guard.TheVariants.{Helper}
use Rattle.law_reasons.proofs.Eras.EraLaw.Owners.{is_reserve, guard_kind, step_owned, hands_of}
use Rattle.law_reasons.proofs.Eras.EraLaw.Dates.{Dates, is_dated, ticks_quiet, era_kind, Retired, step_dates}

clock_tells : (i : ℕ) (told : List Event) (p : Past) → clock_of (tells_of p i told) ≡ along ticked_by told (clock_of p)
clock_tells i [] p = refl
clock_tells i (event ∷ told) p = clock_tells i told (Then p i event)

-- what a history keeps
record Dated (layout : Layout) (made : Made) : Type 0 where
  held : Held layout made
  clock : clock_of made.past ≡ made.world.mem Clock
  law : Each (era_ok layout.config) made.past
  guards : Each (guard_ok layout.config.scheme) made.past

-- a row is retired with the birth era of its last Give
retired_of : (layout : Layout) (made : Made) (i : ℕ) (why : Why) (base : Base) → Held layout made → (made.world.seat i).phase ≡ Runs why base → Retired made.past base
retired_of layout made i why base g e slot birth retire q =
    let w : World = made.world in
    let m : move_of w i ≡ Lists slot birth retire = ap (λ (phase : Phase). row_move phase (w.seat i).post (finds w i)) (e ∙ ap (λ (b : Base). Runs why b) q) in
    g.tied.told slot ∙ retires_given w i slot birth retire g.rows g.births (given_need w i g.rows g.line g.asked g.known) g.known.eras g.tied.given m

dates_of : (layout : Layout) (made : Made) (i : ℕ) → Dated layout made → Dates layout.config made.past i (made.world.mem Clock) (filter is_dated (told_in made.world i)) ((step made.world i).mem Clock)
dates_of layout made i g =
    let w : World = made.world in
    let h = g.held in
    subst (λ (table : Layout). Dates table.config made.past i (w.mem Clock) (filter is_dated (told_in w i)) ((step w i).mem Clock)) h.table
    (step_dates w i made.past (h.known.seats.fits i).post.layout g.clock (λ why base e. (ranges_of w i h.rows h.line h.asked why base h.known e, retired_of layout made i why base h e))
    (λ work e. subst (PhaseEras w.layout (w.mem Clock) (w.seat i).post) e (h.known.eras.seats i).phase))

owned_of : (layout : Layout) (made : Made) (i : ℕ) → Held layout made → Single (guard_ok layout.config.scheme) made.past i (filter is_reserve (told_in made.world i))
owned_of layout made i h =
    let w : World = made.world in
    subst (λ (table : Layout). Single (guard_ok table.config.scheme) made.past i (filter is_reserve (told_in w i))) h.table
    (step_owned w i made.past (h.known.seats.fits i).post.seat
    (λ why base e. hands_of w i h.asked made.past why base h.known.requests (λ f. h.tied.values.eras f (Helper i)) e (ranges_of w i h.rows h.line h.asked why base h.known e)))

begin_dated : (layout : Layout) (made : Made) (i : ℕ) (call : Call) → is_busy made.world i ≡ false → may_start made.world i call ≡ true → Dated layout made → Dated layout (done made (Begins i call))
begin_dated layout made i call f m g = record { held = begin_held layout made i call f m g.held; clock = g.clock; law = (refl, g.law); guards = (refl, g.guards) }

step_dated : (layout : Layout) (made : Made) (i : ℕ) → i < made.world.layout.config.seats → Dated layout made → Dated layout (done made (Steps i))
step_dated layout made i b g =
    let w : World = made.world in
    let d = dates_of layout made i g in
    record {
      held = step_held layout made i b g.held;
      clock = clock_tells i (told_in w i) made.past ∙ along_kind ticked_by is_dated ticks_quiet (told_in w i) (clock_of made.past) ∙ ap (along ticked_by (filter is_dated (told_in w i))) g.clock ∙ d.ticks;
      law = single_each is_dated (era_ok layout.config) (era_kind layout.config) i (told_in w i) made.past d.single g.law;
      guards = single_each is_reserve (guard_ok layout.config.scheme) (guard_kind layout.config.scheme) i (told_in w i) made.past (owned_of layout made i g.held) g.guards;
    }

steady : (layout : Layout) → Steady (Dated layout)
steady layout = record { begins = λ made i call b y m g. begin_dated layout made i call y m g; steps = λ made i b y g. step_dated layout made i b g }

history_dated : (layout : Layout) (items : List Item) → is_valid layout ≡ true → Dated layout (made_of layout items)
history_dated layout items d = items_keep (Dated layout) (steady layout) items (first_made layout) (record { held = first_held layout d; clock = refl; law = tt; guards = tt })

pub records_keep_eras : RecordsKeepEras
records_keep_eras layout items d = let g = history_dated layout items d in entries_of_each (era_ok layout.config) (record_of layout items) g.law

pub record_clock : RecordClock
record_clock layout items d = let g = history_dated layout items d in g.clock

pub records_keep_guards : RecordsKeepGuards
records_keep_guards layout items d = let g = history_dated layout items d in entries_of_each (guard_ok layout.config.scheme) (record_of layout items) g.guards
