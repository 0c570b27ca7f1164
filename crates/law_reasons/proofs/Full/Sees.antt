-- What a record shows of the map and of the queue along a history: changes, versions current during calls, and values queued.
use Rattle.std.proofs.Common.{ℕ, ◌≡◌, ◌<◌, true, false, refl, ap}
use Rattle.law_scans.specs.inv.model.words.Place.{is_valid}
use Rattle.law_scans.specs.inv.model.words.declared.layout.Layout.{Layout}
use Rattle.law_scans.specs.inv.model.defs.declared.call.Call.{Call}
use Rattle.law_scans.specs.inv.model.defs.declared.event.Event.TheVariants as events
use Rattle.law_scans.specs.inv.model.Book.{booked_all}
use Rattle.law_scans.specs.inv.model.World.{World, start, begin, step, is_busy, told_in, may_start}
use Rattle.law_scans.proofs.inv.requests.Kept.{requests_start, requests_begin}
use Rattle.law_scans.specs.inv.requests.Views.{Deal, View as Asked}
use Rattle.law_scans.specs.inv.requests.Views.Deal.{Quiet}
use Rattle.law_scans.specs.inv.rows.Agree.{first_rows, rows_after}
use Rattle.law_scans.specs.inv.rows.Chain.{first_line, line_after}
use Rattle.law_scans.specs.inv.rows.Queue.{Line}
use Rattle.law_scans.specs.inv.rows.Rows.{View}
use Rattle.law_scans.specs.inv.history.Record.{Past, tells_of}
use Rattle.law_scans.specs.inv.history.Record.Past.{Start, Then}
use Rattle.law_scans.specs.inv.history.History.{Begins, Steps, Made, done, first_made}
use Rattle.law_scans.proofs.inv.Inv.Begun.{known_start, known_begin}
use Rattle.law_scans.proofs.inv.Inv.Kept.{known_kept, asked_next}
use Rattle.law_scans.proofs.reuse.Lawful.Current.{base_begun, current_start, current_begin, current_kept, current_same}
use Rattle.law_scans.proofs.reuse.Lawful.Maps.{base_of, begin_base, told_base, told_changes}
use Rattle.law_scans.proofs.reuse.Lawful.Queues.{Agrees, told_agrees}
use Rattle.law_scans.proofs.inv.Machines.{within_of}
use Rattle.law_reasons.proofs.Reasons.Reading.{Shown}

pub record Sees (made : Made) : Type 0 where
  pub rows : View
  pub line : Line
  pub asked : Asked
  pub shown : Shown made.world rows line asked made.past
  pub agrees : Agrees made.world.book made.past

pub step_sees : (made : Made) (i : ℕ) → i < made.world.layout.config.seats → Sees made → Sees (done made (Steps i))
step_sees made i b g =
    let w : World = made.world in
    let p : Past = made.past in
    let next = asked_next w i g.rows g.line g.asked b g.shown.known in
    let m : Agrees (booked_all w.book (told_in w i)) (tells_of p i (told_in w i)) = told_agrees i (told_in w i) p w.book g.agrees in
    record {
      rows = rows_after w i g.rows;
      line = line_after w i g.line;
      asked = next.0;
      shown = record {
        known = known_kept w i g.rows g.line g.asked next.0 b g.shown.known next.1.facts next.1.deal;
        current = current_same (base_of p) (base_of (tells_of p i (told_in w i))) (step w i) next.0 (λ k bucket. told_base k bucket i (told_in w i) p (within_of w i)) (current_kept w i g.rows g.line g.asked next.0 (base_of p) b g.shown.known next.1.deal g.shown.current);
        changes = λ bucket. told_changes bucket i (told_in w i) p w.book (g.shown.changes bucket);
        queued = m.queued;
      };
      agrees = m;
    }

pub begin_sees : (made : Made) (i : ℕ) (call : Call) → is_busy made.world i ≡ false → may_start made.world i call ≡ true → Sees made → Sees (done made (Begins i call))
begin_sees made i call f m g =
    let w : World = made.world in
    let p : Past = made.past in
    let k = g.shown.known in
    let next = requests_begin w i call g.asked k.valid f k.seats k.requests in
    record {
      rows = g.rows;
      line = g.line;
      asked = next.0;
      shown = record {
        known = known_begin w i call g.rows g.line g.asked next.0 f m k next.1.facts next.1.deal;
        current = current_same (base_begun (base_of p) w i) (base_of (Then p i (events.Begin call))) (begin w i call) next.0
            (λ n b. begin_base w i n b call p (g.shown.changes b))
            (current_begin w i call g.asked next.0 (base_of p) f k.requests next.1.deal g.shown.current);
        changes = g.shown.changes;
        queued = g.shown.queued;
      };
      agrees = record { queued = g.agrees.queued; taken = g.agrees.taken };
    }

pub first_sees : (layout : Layout) → is_valid layout ≡ true → Sees (first_made layout)
first_sees layout d =
    let q = requests_start layout d in
    let quiet : (k : ℕ) → q.0.deal k ≡ Quiet = λ k. ap (λ (deal : ℕ → Deal). deal k) q.1.deal in
    record {
      rows = first_rows layout;
      line = first_line layout;
      asked = q.0;
      shown = record {
        known = known_start layout q.0 d q.1.facts q.1.deal;
        current = current_same (λ k b. 0) (base_of Start) (start layout) q.0 (λ k b. refl) (current_start layout q.0 quiet);
        changes = λ b. refl;
        queued = refl;
      };
      agrees = record { queued = refl; taken = refl };
    }
