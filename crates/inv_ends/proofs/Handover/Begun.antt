-- What helper words hold at the start, and where a call begins.
use Rattle.std.proofs.Common.{ℕ, ◌≡◌, Bool, true, false}
use Rattle.std.specs.Prelude.{◌==◌, if◌then◌else◌}
use Rattle.inv_rows.specs.words.Place.Place.{Clock}
use Rattle.inv_rows.specs.defs.declared.call.Call.{Call}
use Rattle.inv_rows.specs.defs.declared.event.Guard.TheVariants.{Helper, Index}
use Rattle.inv_rows.specs.model.Phases.{Base}
use Rattle.inv_rows.specs.model.Calls.{Why, Runs}
use Rattle.inv_rows.specs.model.Locals.{begun, begun_post}
use Rattle.inv_rows.specs.model.World.{World}
use Rattle.inv_rows.specs.Covering.Requests.Views.{Deal}
use Rattle.inv_rows.specs.Rows.{View}
use Rattle.inv_rows.specs.Covering.Held.{Holds}
use Rattle.inv_ends.specs.Helped.{helper_holds, Helped}
use Rattle.inv_rows.specs.model.Steps.{first_phase}
use Rattle.inv_rows.proofs.Covering.Begun.{first_begins, holds_begin}
use Rattle.inv_ends.specs.Handover.{HandoverStart, HandoverBegin}
use Rattle.inv_ends.proofs.Handover.Loads.{starts_unheld}
use Rattle.inv_rows.proofs.model.Facts.{no_truth}

pub handover_start : HandoverStart
handover_start layout v = record {
  loaded = λ k why base s e h. absurd (cc);
  answered = λ k by s h. absurd (cc);
  passed = λ k index s h. absurd (cc);
}

begun_loaded : (w : World) (i : ℕ) (call : Call) (v : View) (deal : ℕ → Deal) (k : ℕ) (why : Why) (base : Base) (s : ℕ) (same : Bool) → Helped w v deal → (if same then begun (w.seat i) call else w.seat k).phase ≡ Runs why base → helper_holds w.layout (w.mem Clock) v.status deal base s ≡ true → Holds w v (Helper k) s
begun_loaded w i call v deal k why base s true g e t =
    absurd (no_truth (starts_unheld w.layout (w.mem Clock) v.status deal (first_phase call (begun_post (w.seat i).post)) why base s (first_begins call (begun_post (w.seat i).post)).starts e t))
begun_loaded w i call v deal k why base s false g e t = g.loaded k why base s e t

pub handover_begin : HandoverBegin
handover_begin w i call v deal g = record {
  loaded = λ k why base s e t. holds_begin w i call v (Helper k) s (begun_loaded w i call v deal k why base s (k == i) g e t);
  answered = λ k by s a. holds_begin w i call v (Helper by) s (g.answered k by s a);
  passed = λ k index s a. holds_begin w i call v (Index k index) s (g.passed k index s a);
}
