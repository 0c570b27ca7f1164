-- What a call works on stands, from the start on and over every step.
use Rattle.std.proofs.Common.{ℕ, refl, sym, subst}
use Rattle.inv_ends.specs.model.words.declared.layout.Layout.{Layout}
use Rattle.inv_ends.specs.model.defs.declared.call.Call.{Call}
use Rattle.inv_ends.specs.model.declared.post.Post.{Post}
use Rattle.inv_ends.specs.model.Desks.{Desk}
use Rattle.inv_ends.specs.model.Posts.{counted}
use Rattle.inv_ends.specs.model.Calls.{Phase, Idle, Runs, Scans, Works}
use Rattle.inv_ends.specs.model.Steps.{phase_turn, first_phase}
use Rattle.inv_ends.specs.model.Scan.{scan_turn}
use Rattle.inv_ends.specs.model.Locals.{Local, begun_post, turn}
use Rattle.inv_ends.specs.model.World.{begin, step, finds, offered}
use Rattle.inv_ends.specs.shapes.Seats.{PostFits, PhaseFits}
use Rattle.inv_ends.proofs.shapes.Frame.{seat_stays, seat_steps, begin_stays, begin_begins, settled_seated}
use Rattle.inv_ends.proofs.shapes.Kept.{counted_fits, run_counted, one_moves}
use Rattle.inv_ends.specs.requests.Parents.{phase_stands}
use Rattle.inv_ends.proofs.requests.Paces.{Any}
use Rattle.inv_all.specs.Contents.Stands.{Stood, StandsStart, StandsBegin, StandsKept}
use Rattle.inv_all.proofs.Contents.Stands.Rounds.{TurnStood, free_stood, adds_stood, scan_told, scan_adds, each_first}
use Rattle.inv_all.proofs.Contents.Stands.Works.{same_row, work_stood}
use Rattle.inv_all.proofs.Contents.Stands.Machines.{run_stood}
use Rattle.inv_ends.proofs.requests.Parents.{why_counted}

stood_counted : (phase : Phase) (post : Post) → Stood phase post → Stood phase (counted post)
stood_counted phase post h = record { reads = λ s e. h.reads s e; queue = λ s e. h.queue s e; nexts = λ s e. h.nexts s e }

turn_stood : (layout : Layout) (k : ℕ) (phase : Phase) (post : Post) (desk : Desk) (found : ℕ) → PostFits layout k post → PhaseFits layout post phase → phase_stands phase post → Stood phase post → TurnStood (phase_turn phase (counted post) desk found)
turn_stood layout k Idle post desk found q f p h = free_stood Idle (counted post) refl
turn_stood layout k (Runs why base) post desk found q f p h =
    run_stood layout k why base (counted post) desk found (counted_fits layout k post q) (run_counted layout why base post f) (why_counted why base post p) (stood_counted (Runs why base) post h)
turn_stood layout k (Scans later at) post desk found q f p h = adds_stood (scan_told at (counted post) found) (scan_turn later at (counted post) desk found) (scan_adds later at (counted post) desk found)
turn_stood layout k (Works work) post desk found q f p h = work_stood work (counted post) desk found (stood_counted (Works work) post h)

abbrev Stand : Post → Phase → Type 0
Stand post phase = Stood phase post

abbrev LocalStood : ℕ → Local → Type 0
LocalStood n l = Stood l.phase l.post

pub stands_kept : StandsKept
stands_kept w i s p h =
    let a = s.fits i in
    let t : TurnStood (turn (offered w i) (finds w i)) = turn_stood w.layout i (w.seat i).phase (w.seat i).post (offered w i).desk (finds w i) a.post a.phase (p.stand i) (h.stood i) in
    let l = settled_seated {Q = Any} {P = Stand} (offered w i) (turn (offered w i) (finds w i)) (record { post = tt; phase = t }) in
    record { stood = λ k. one_moves LocalStood w.seat (step w i).seat i h.stood (seat_stays w i) (subst (LocalStood i) (sym (seat_steps w i)) l.phase) k }

-- a look begins with the row that stands at its index
first_stood : (call : Call) (post : Post) → Stood (first_phase call post) post
first_stood call post =
    each_first call post (λ (phase : Phase). Stood phase post)
    (λ phase h. free_stood phase post h)
    (λ index key slot c e. record { reads = λ s x. same_row post index slot s e x; queue = λ s x. cc; nexts = λ s x. cc })

pub stands_begin : StandsBegin
stands_begin w i call h = record {
  stood = λ k. one_moves LocalStood w.seat (begin w i call).seat i h.stood (λ n e. begin_stays w i n call e)
      (subst (LocalStood i) (sym (begin_begins w i call)) (first_stood call (begun_post (w.seat i).post))) k;
}

pub stands_start : StandsStart
stands_start layout = record { stood = λ k. free_stood Idle _ refl }
