-- The parent of a followed link stands, from the start on and over every step.
use Rattle.std.proofs.Common.{ℕ, List, sym, subst}
use Rattle.inv_rows.specs.words.declared.layout.Layout.{Layout}
use Rattle.inv_rows.specs.defs.declared.call.Call.{Call}
use Rattle.inv_rows.specs.defs.declared.event.Event.{Event}
use Rattle.inv_rows.specs.model.declared.post.Post.{Post}
use Rattle.inv_rows.specs.model.Desks.{Desk}
use Rattle.inv_rows.specs.model.Posts.{counted}
use Rattle.inv_rows.specs.model.Phases.{ProtectAt, Base, Outcome, Goes, Ends}
use Rattle.inv_rows.specs.model.Phases.ProtectAt.{WithdrawRequest, WithdrawHelper}
use Rattle.inv_rows.specs.model.Phases.Base.{Protect}
use Rattle.inv_rows.specs.model.Machine.{after}
use Rattle.inv_rows.specs.model.Calls.{Why, Opens, FollowsHead, Work, Getting, Changing, Enqueuing, Dequeuing, Keeping, Phase, Idle, Runs, Scans, Works}
use Rattle.inv_rows.specs.model.Steps.{resumed, phase_turn}
use Rattle.inv_rows.specs.model.Locals.{Local, begun_post, turn}
use Rattle.inv_rows.specs.model.World.{World, start, begin, step, finds, offered}
use Rattle.inv_rows.specs.Shapes.Seats.{PostFits, PhaseFits, Seats}
use Rattle.inv_rows.proofs.Shapes.Frame.{seat_stays, seat_steps, begin_stays, begin_begins, settled_seated}
use Rattle.inv_rows.proofs.Shapes.Kept.{counted_fits, run_counted, one_moves}
use Rattle.inv_rows.specs.Covering.Requests.Parents.{protect_stands, base_stands, why_stands, work_stands, phase_stands, OutcomeStands, TurnStands, Parents}
use Rattle.inv_rows.proofs.Covering.Requests.Paces.{Any}
use Rattle.inv_rows.proofs.Covering.Requests.Rounds.{work_turn_stands, scan_turn_stands, resume_stands, first_stands}
use Rattle.inv_rows.proofs.Covering.Requests.Standings.{machine_stands}

-- counting a step changes nothing that stands

pub protect_counted : (at : ProtectAt) (index : ℕ) (post : Post) → protect_stands at index post → protect_stands at index (counted post)
protect_counted (WithdrawRequest link era) index post h = h
protect_counted (WithdrawHelper link era) index post h = h
protect_counted at index post h = tt

pub base_counted : (base : Base) (post : Post) → base_stands base post → base_stands base (counted post)
base_counted (Protect aim index root steps at) post h = protect_counted at index post h
base_counted base post h = tt

pub why_counted : (why : Why) (base : Base) (post : Post) → why_stands why base post → why_stands why base (counted post)
why_counted (Opens task) base post h = base_counted base post h
why_counted (FollowsHead head tail) base post h = h
why_counted why base post h = tt

work_counted : (work : Work) (post : Post) → work_stands work post → work_stands work (counted post)
work_counted (Getting key at) post h = tt
work_counted (Changing kept at) post h = tt
work_counted (Enqueuing kept at) post h = tt
work_counted (Dequeuing at) post h = h
work_counted (Keeping at) post h = tt

resumed_stands : (why : Why) (desk : Desk) (post : Post) (told : List Event) (outcome : Outcome) → OutcomeStands why outcome post → TurnStands (resumed why desk post told outcome)
resumed_stands why desk post told (Goes base) h = record { stand = h }
resumed_stands why desk post told (Ends ending) h = resume_stands why ending post desk told h

turn_stands : (layout : Layout) (k : ℕ) (phase : Phase) (post : Post) (desk : Desk) (found : ℕ) → PostFits layout k post → PhaseFits layout post phase → phase_stands phase post → TurnStands (phase_turn phase (counted post) desk found)
turn_stands layout k Idle post desk found q f h = record { stand = tt }
turn_stands layout k (Runs why base) post desk found q f h =
    let t = after base (counted post) found in
    resumed_stands why desk t.post t.told t.outcome (machine_stands layout k why base (counted post) found (counted_fits layout k post q) (run_counted layout why base post f) (why_counted why base post h))
turn_stands layout k (Scans later at) post desk found q f h = scan_turn_stands later at (counted post) desk found
turn_stands layout k (Works work) post desk found q f h = work_turn_stands work (counted post) desk found (work_counted work post h)

abbrev Stand : Post → Phase → Type 0
Stand post phase = phase_stands phase post

seat_stands : (w : World) (i : ℕ) → Seats w → Parents w → phase_stands ((step w i).seat i).phase ((step w i).seat i).post
seat_stands w i s p =
    let a = s.fits i in
    let h = turn_stands w.layout i (w.seat i).phase (w.seat i).post (offered w i).desk (finds w i) a.post a.phase (p.stand i) in
    let l = settled_seated {Q = Any} {P = Stand} (offered w i) (turn (offered w i) (finds w i)) (record { post = tt; phase = h.stand }) in
    subst (λ (x : Local). phase_stands x.phase x.post) (sym (seat_steps w i)) l.phase

pub parents_step : (w : World) (i : ℕ) → Seats w → Parents w → Parents (step w i)
parents_step w i s p = record {
  stand = λ k. one_moves (λ (n : ℕ) (l : Local). phase_stands l.phase l.post) w.seat (step w i).seat i p.stand (seat_stays w i) (seat_stands w i s p) k;
}

pub parents_begin : (w : World) (i : ℕ) (call : Call) → Parents w → Parents (begin w i call)
parents_begin w i call p = record {
  stand = λ k. one_moves (λ (n : ℕ) (l : Local). phase_stands l.phase l.post) w.seat (begin w i call).seat i p.stand (λ n e. begin_stays w i n call e)
      (subst (λ (x : Local). phase_stands x.phase x.post) (sym (begin_begins w i call)) (first_stands call (begun_post (w.seat i).post))) k;
}

pub parents_start : (layout : Layout) → Parents (start layout)
parents_start layout = record { stand = λ k. tt }
