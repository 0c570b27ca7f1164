-- That each call ends: what the count of its steps left takes of other parts.
use Rattle.inv_ends.proofs.shapes.Decode.{clock_next}
use Rattle.inv_ends.proofs.Rest.Kept.{rest_falls}
use Rattle.inv_ends.proofs.Rest.Small.{rest_small, rest_stays}
use Rattle.inv_all.specs.Ends.{InvEnds}
use Rattle.inv_all.proofs.Inv.Kept.{rest_need}
use Rattle.inv_all.proofs.Inv.Ready.{listed_few}
use Rattle.std.proofs.Common.{ℕ, ◌≡◌, ◌<◌, ◌+◌, ◌^◌, Bool, true, false, refl, sym, subst, arith}
use Rattle.inv_ends.specs.model.Calls.{Task, Gets, Phase, Idle, Runs, Scans, Works}
use Rattle.inv_ends.specs.Standing.{is_end}
use Rattle.inv_ends.specs.model.Rest.{eras_left, phase_left, phase_seen, rest, span_seen}
use Rattle.inv_ends.specs.model.Locals.{busy_in}
use Rattle.inv_ends.specs.model.World.{World, is_busy}
use Rattle.inv_ends.specs.model.words.Place.{is_valid}
use Rattle.inv_ends.specs.model.words.Place.Place.{Clock}
use Rattle.inv_ends.proofs.model.Ranges.{bounds_of}
use Rattle.inv_ends.specs.shapes.Seats.{Seats, task_root}
use Rattle.inv_ends.specs.shapes.Slots.{Slots}
use Rattle.inv_ends.specs.rows.Agree.{Agree}
use Rattle.inv_ends.specs.rows.Rows.{View}

idle_phase : (phase : Phase) → busy_in phase ≡ false → phase ≡ Idle
idle_phase Idle h = refl
idle_phase (Runs why base) h = cc
idle_phase (Scans later at) h = cc
idle_phase (Works work) h = cc

-- a seat without a call has no step left but those that its interval may still see
idle_few : (w : World) (k : ℕ) → is_valid w.layout ≡ true → (w.seat k).phase ≡ Idle → rest w k < 2 ^ 62
idle_few w k d e = let b = (bounds_of w.layout d).eras in subst (λ (phase : Phase). phase_left w.layout.config (w.seat k).rounds (w.seat k).desk.list phase + eras_left w.layout.config (phase_seen phase (span_seen (w.mem Clock) (w.seat k).post.span)) < 2 ^ 62) (sym e) (omega (arith, b.1))

few_by : (w : World) (k : ℕ) (v : View) → is_valid w.layout ≡ true → Seats w → Slots w → Agree w v → (busy : Bool) → is_busy w k ≡ busy → rest w k < 2 ^ 62
few_by w k v d s n a true b = rest_small w k d s n (listed_few w k v a b)
few_by w k v d s n a false b = idle_few w k d (idle_phase (w.seat k).phase b)

pub inv_ends : InvEnds
inv_ends w i b a =
    let t = a.known in
    record {
      falls = λ h. rest_falls w i t.valid (rest_need w i a.rows a.line a.asked t) h;
      stays = λ k e. rest_stays w i k e (clock_next w i t.eras).rises;
      few = λ k. few_by w k a.rows t.valid t.seats t.slots t.whole.both.rows (is_busy w k) refl;
    }

pub task_end : (buckets : ℕ) (task : Task) → is_end (task_root buckets task) ≡ true
task_end buckets (Gets key) = refl
task_end buckets task = refl
