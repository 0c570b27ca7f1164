-- Steps and beginnings where all seats stay: each stays there, and no step may take over a list.
use Rattle.std.proofs.Common.{Bool, ap, arith, false, refl, subst, sym, true, ℕ, ◌+◌, ◌<◌, ◌^◌, ◌∙◌, ◌≡◌, ◌≤◌}
use Rattle.std.proofs.lemmas.Bool.Decides.{nat_tests}
use Rattle.std.specs.Prelude.{if◌then◌else◌, nat_lt, ◌==◌}
use Rattle.wfe_core.specs.words.Place.{is_valid}
use Rattle.wfe_core.specs.words.Place.Place.{Clock, PlaceOf}
use Rattle.wfe_core.specs.words.declared.layout.Layout.{Layout}
use Rattle.wfe_core.specs.defs.declared.call.Call.{Call}
use Rattle.wfe_core.specs.Calls.{Answers, CallOutcome, CallTurn, GoesOn, Idle, Keeping, MarkLeft, MarkTaken, Phase, Runs, Scans, TakeList, Works}
use Rattle.wfe_core.specs.Desks.{Desk, noting}
use Rattle.wfe_core.specs.Locals.{Local, begun, begun_post, busy_in, rounds_told, settled, settled_by, stays, told_by, turn}
use Rattle.wfe_core.specs.Memory.{bump}
use Rattle.wfe_core.specs.Posts.{counted}
use Rattle.wfe_core.specs.Rest.{rest}
use Rattle.wfe_core.specs.Rest as rests
use Rattle.wfe_core.specs.Steps.{first_phase}
use Rattle.wfe_core.specs.World.{World, begin, finds, is_busy, may_start, offered, start, step}
use Rattle.wfe_core.specs.declared.post.Post.{Post}
use Rattle.wfe_drive_cells.specs.Unit.{may_adopt}
use Rattle.law_reuse.specs.inv.Ends.{CallsEnd}
use Rattle.law_reuse.specs.inv.Inv.{Inv}
use Rattle.law_reuse.specs.inv.Places.{PlaceMoves, placed}
use Rattle.law_reuse.proofs.inv.Inv.Begun.{inv_begin}
use Rattle.law_reuse.proofs.inv.Inv.Ends.{inv_ends}
use Rattle.law_reuse.proofs.inv.Inv.Kept.{inv_kept}
use Rattle.law_reuse.proofs.inv.Inv.Places.{inv_place_moves}
use Rattle.law_reuse.proofs.shapes.Frame.{begin_begins, begin_stays, seat_stays, seat_steps}
use Rattle.law_reuse.proofs.AnswersTold.Answering.{owes_of}
use Rattle.law_reuse.proofs.AnswersTold.Owed.{OutServes, Owes, Serves, owed}
use Rattle.law_reuse.proofs.AnswersTold.Owing.{first_serves}
use Rattle.law_reuse.proofs.Turns.Steady.{turn_steps}
use Rattle.wfe_drive.specs.Reached.{ComesTo, First, Next, StaysIn}
use Rattle.wfe_core.specs.words.Schemes.{publishes_rows}
use Rattle.wfe_core.specs.Rounds.{scheme_of}

-- a step of a call of a seat that stays changes no place word, and takes over no list
placed_none : (i : ℕ) (call : Call) (phase : Phase) (k word : ℕ) → stays call ≡ true → Serves call phase → placed i phase k word ≡ word
placed_none i call (Works (Keeping MarkLeft)) k word s v = let no : stays call ≡ false = ap stays v in absurd (cc)
placed_none i call (Works (Keeping (TakeList place))) k word s v = let no : stays call ≡ false = ap stays v in absurd (cc)
placed_none i call (Works (Keeping (MarkTaken place count))) k word s v = let no : stays call ≡ false = ap stays v in absurd (cc)
placed_none i call phase k word s v = refl

adopts_none : (call : Call) (phase : Phase) → stays call ≡ true → (busy_in phase ≡ true → Serves call phase) → may_adopt phase ≡ false
adopts_none call (Works (Keeping (TakeList place))) s v = let no : stays call ≡ false = ap stays (v refl) in absurd (cc)
adopts_none call phase s v = refl

-- where a phase stands to which a call comes
next_serves : (own call : Call) (outcome : CallOutcome) (phase : Phase) → own ≡ call → outcome ≡ GoesOn phase → OutServes own outcome → Serves call phase
next_serves own call outcome phase c e s = subst (λ (x : Call). Serves x phase) c (subst (OutServes own) e s)

pub serves_of : (call : Call) (phase : Phase) → ComesTo call phase → Serves call phase
serves_of call phase (First post goal e) = subst (Serves call) (sym e) (first_serves call post)
serves_of call phase (Next w i goal a c p e) =
    let s : Serves (w.seat i).call (w.seat i).phase = subst (λ (x : Call). Serves x (w.seat i).phase) (sym c) (serves_of call (w.seat i).phase p) in
    let o : Owes w.layout.config.buckets (w.seat i).call (owed w.layout.config.buckets (w.seat i).call (w.seat i).phase) (turn (offered w i) (finds w i)) = owes_of w.layout.config.buckets w i refl a s in
    next_serves (w.seat i).call call (turn (offered w i) (finds w i)).outcome phase c e o.serves

pub right_serves : (w : World) (k : ℕ) → StaysIn w k → is_busy w k ≡ true → Serves (w.seat k).call (w.seat k).phase
right_serves w k g b = serves_of (w.seat k).call (w.seat k).phase (g.comes b)

pub seat_adopts : (w : World) (k : ℕ) → StaysIn w k → may_adopt (w.seat k).phase ≡ false
seat_adopts w k g = adopts_none (w.seat k).call (w.seat k).phase g.call (right_serves w k g)

-- a seat that serves its call is busy
phase_busy : (call : Call) (phase : Phase) → Serves call phase → busy_in phase ≡ true
phase_busy call Idle s = absurd s
phase_busy call (Runs why base) s = refl
phase_busy call (Scans later at) s = refl
phase_busy call (Works work) s = refl

pub first_busy : (call : Call) (post : Post) → busy_in (first_phase call post) ≡ true
first_busy call post = phase_busy call (first_phase call post) (first_serves call post)

owed_by : (w : World) (i : ℕ) → is_busy w i ≡ true → Inv w → StaysIn w i → Owes w.layout.config.buckets (w.seat i).call (owed w.layout.config.buckets (w.seat i).call (w.seat i).phase) (turn (offered w i) (finds w i))
owed_by w i b a g = owes_of w.layout.config.buckets w i refl a (right_serves w i g b)

outcome_busy : (call : Call) (outcome : CallOutcome) (phase : Phase) → OutServes call outcome → outcome ≡ GoesOn phase → busy_in phase ≡ true
outcome_busy call outcome phase s e = phase_busy call phase (subst (OutServes call) e s)

pub goes_busy : (w : World) (i : ℕ) (phase : Phase) → is_busy w i ≡ true → Inv w → StaysIn w i → (turn (offered w i) (finds w i)).outcome ≡ GoesOn phase → busy_in phase ≡ true
goes_busy w i phase b a g e = let o = owed_by w i b a g in outcome_busy (w.seat i).call (turn (offered w i) (finds w i)).outcome phase o.serves e

-- the count of steps is exact
bump_next : (n left : ℕ) → n + left < 2 ^ 62 → bump n ≡ n + 1
bump_next n left h = by_room (nat_lt n 18446744073709551615) refl
  where
    by_room : (room : Bool) → nat_lt n 18446744073709551615 ≡ room → (if room then n + 1 else n) ≡ n + 1
    by_room true e = refl
    by_room false e = absurd (grind (arith, nat_tests))

settled_steps : (l : Local) (post : Post) (desk : Desk) (rounds : ℕ) (outcome : CallOutcome) → (settled_by l post desk rounds outcome).post.steps ≡ post.steps
settled_steps l post desk rounds (GoesOn phase) = refl
settled_steps l post desk rounds (Answers answer) = refl

pub step_count : (w : World) (i : ℕ) → is_busy w i ≡ true → StaysIn w i → ((step w i).seat i).post.steps ≡ (w.seat i).post.steps + 1
step_count w i b g =
    let t : CallTurn = turn (offered w i) (finds w i) in
    ap (λ (x : Local). x.post.steps) (seat_steps w i) ∙ settled_steps (w.seat i) t.post (noting t.desk (told_by t)) (rounds_told (publishes_rows (scheme_of t.post)) (w.seat i).rounds (told_by t)) t.outcome
    ∙ turn_steps (w.seat i).phase (counted (w.seat i).post) (offered w i).desk (finds w i) ∙ bump_next (w.seat i).post.steps (rest w i) (g.few b)

-- a step keeps its seat's call, and where it goes on serves it
settled_call : (l : Local) (post : Post) (desk : Desk) (rounds : ℕ) (outcome : CallOutcome) → (settled_by l post desk rounds outcome).call ≡ l.call
settled_call l post desk rounds (GoesOn phase) = refl
settled_call l post desk rounds (Answers answer) = refl

settled_comes : (l : Local) (post : Post) (desk : Desk) (rounds : ℕ) (outcome : CallOutcome) → ((phase : Phase) → outcome ≡ GoesOn phase → ComesTo l.call phase) → busy_in (settled_by l post desk rounds outcome).phase ≡ true
    → ComesTo (settled_by l post desk rounds outcome).call (settled_by l post desk rounds outcome).phase
settled_comes l post desk rounds (GoesOn phase) s b = s phase refl
settled_comes l post desk rounds (Answers answer) s b = absurd (cc)

lower : (count before after : ℕ) → count + before < 2 ^ 62 → after + 1 ≤ before → count + 1 + after < 2 ^ 62
lower count before after p q = omega (p, q, arith)

no_more : (count before after : ℕ) → count + before < 2 ^ 62 → after ≤ before → count + after < 2 ^ 62
no_more count before after p q = omega (p, q, arith)

stepped_here : (w : World) (i k : ℕ) → is_busy w i ≡ true → Inv w → StaysIn w i → StaysIn w k → (step w i).mem (PlaceOf k) ≡ 0
stepped_here w i k b a g h =
    let moves : PlaceMoves w i k = inv_place_moves w i k b a in
    moves.word ∙ placed_none i (w.seat i).call (w.seat i).phase k (w.mem (PlaceOf k)) g.call (right_serves w i g b) ∙ h.here

pub step_right : (w : World) (i k : ℕ) (same : Bool) → (k == i) ≡ same → i < w.layout.config.seats → is_busy w i ≡ true → Inv w → ((m : ℕ) → StaysIn w m) → StaysIn (step w i) k
step_right w i k true e l b a g =
    let one : k ≡ i = grind (arith, nat_tests) in
    let h : StaysIn w i = g i in
    let t : CallTurn = turn (offered w i) (finds w i) in
    let ends : CallsEnd w i = inv_ends w i l a in
    let desk : Desk = noting t.desk (told_by t) in
    let rounds : ℕ = rounds_told (publishes_rows (scheme_of t.post)) (w.seat i).rounds (told_by t) in
    let here : StaysIn (step w i) i = record {
      here = stepped_here w i i b a h h;
      call = ap (λ (x : Local). stays x.call) (seat_steps w i) ∙ ap stays (settled_call (offered w i) t.post desk rounds t.outcome) ∙ h.call;
      comes = subst (λ (x : Local). busy_in x.phase ≡ true → ComesTo x.call x.phase) (sym (seat_steps w i))
          (settled_comes (offered w i) t.post desk rounds t.outcome (λ phase e. Next w i phase a refl (h.comes b) e));
      few = λ y. rw (step_count w i b h) (lower (w.seat i).post.steps (rest w i) (rest (step w i) i) (h.few b) (ends.falls y));
    } in
    subst (StaysIn (step w i)) (sym one) here
step_right w i k false e l b a g =
    let s : (step w i).seat k ≡ w.seat k = seat_stays w i k e in
    let h : StaysIn w k = g k in
    let ends : CallsEnd w i = inv_ends w i l a in
    let y : is_busy (step w i) k ≡ is_busy w k = ap (λ (x : Local). busy_in x.phase) s in
    record {
      here = stepped_here w i k b a (g i) h;
      call = ap (λ (x : Local). stays x.call) s ∙ h.call;
      comes = subst (λ (x : Local). busy_in x.phase ≡ true → ComesTo x.call x.phase) (sym s) h.comes;
      few = λ f. rw (ap (λ (x : Local). x.post.steps) s) (no_more (w.seat k).post.steps (rest w k) (rest (step w i) k) (h.few (sym y ∙ f)) (ends.stays k e));
    }

-- a call begins
begun_few : (count left : ℕ) → count ≡ 0 → left < 2 ^ 62 → count + left < 2 ^ 62
begun_few count left z h = omega (z, h, arith)

pub begin_right : (w : World) (i k : ℕ) (call : Call) (same : Bool) → (k == i) ≡ same → i < w.layout.config.seats → Inv (begin w i call) → stays call ≡ true → ((m : ℕ) → StaysIn w m) → StaysIn (begin w i call) k
begin_right w i k call true e l a s g =
    let one : k ≡ i = grind (arith, nat_tests) in
    let is : (begin w i call).seat i ≡ begun (w.seat i) call = begin_begins w i call in
    let ends : CallsEnd (begin w i call) i = inv_ends (begin w i call) i l a in
    let here : StaysIn (begin w i call) i = record {
      here = (g i).here;
      call = ap (λ (x : Local). stays x.call) is ∙ s;
      comes = λ b. subst (λ (x : Local). ComesTo x.call x.phase) (sym is) (First (begun_post (w.seat i).post) (first_phase call (begun_post (w.seat i).post)) refl);
      few = λ b. begun_few ((begin w i call).seat i).post.steps (rest (begin w i call) i) (ap (λ (x : Local). x.post.steps) is) (ends.few i);
    } in
    subst (StaysIn (begin w i call)) (sym one) here
begin_right w i k call false e l a s g =
    let is : (begin w i call).seat k ≡ w.seat k = begin_stays w i k call e in
    let h : StaysIn w k = g k in
    let y : is_busy (begin w i call) k ≡ is_busy w k = ap (λ (x : Local). busy_in x.phase) is in
    record {
      here = h.here;
      call = ap (λ (x : Local). stays x.call) is ∙ h.call;
      comes = subst (λ (x : Local). busy_in x.phase ≡ true → ComesTo x.call x.phase) (sym is) h.comes;
      few = λ b. subst (λ (x : Local). x.post.steps + rests.rest_of w.layout.config (w.mem Clock) x < 2 ^ 62) (sym is) (h.few (sym y ∙ b));
    }

-- before the first call
same_word : (b : Bool) (word : ℕ) → (if b then word else word) ≡ word
same_word true word = refl
same_word false word = refl

pub first_right : (layout : Layout) (k : ℕ) → StaysIn (start layout) k
first_right layout k = record { here = same_word (nat_lt k layout.config.seats) 0; call = refl; comes = λ b. absurd (cc); few = λ b. absurd (cc) }
