-- The histories of the machines are schedules whose turns are counted.
use Rattle.std.proofs.Common.{ℕ, ◌≡◌, ◌≤◌, ◌<◌, ◌+◌, ◌^◌, Bool, true, false, List, [], ◌∷◌, ◌++◌, refl, sym, ap, ◌∙◌, subst, arith}
use Rattle.inv_all.specs.model.words.Schemes.{publishes_rows}
use Rattle.inv_all.specs.model.Rounds.{scheme_of}
use Rattle.std.proofs.lemmas.Bool.Decides.{nat_tests}
use Rattle.std.specs.Prelude.{◌==◌, ◌&&◌, ◌||◌, not, nat_lt, if◌then◌else◌}
use Rattle.inv_all.specs.model.words.declared.layout.Layout.{Layout}
use Rattle.inv_all.specs.model.defs.declared.call.Call.{Call}
use Rattle.inv_all.specs.model.defs.declared.event.Event.{Event}
use Rattle.inv_all.specs.model.defs.declared.event.Event.TheVariants as events
use Rattle.inv_all.specs.model.declared.post.Post.{Post}
use Rattle.inv_all.specs.model.Desks.{Desk, noting}
use Rattle.inv_all.specs.model.Locals.{Local, begun_post, busy_in, settled_by, turn, told_by, told_end, rounds_told}
use Rattle.inv_all.specs.model.Memory.{bump}
use Rattle.inv_all.specs.model.Posts.{counted}
use Rattle.inv_all.specs.model.Rest.{rest}
use Rattle.inv_all.specs.model.Rest as rests
use Rattle.inv_all.specs.model.Calls.{Phase, Idle, Runs, Scans, Works, CallTurn, CallOutcome, GoesOn, Answers}
use Rattle.inv_all.specs.model.World.{World, begin, finds, is_busy, offered, step, told_in, may_start}
use Rattle.inv_all.proofs.shapes.Frame.{seat_stays, seat_steps, begin_stays, begin_begins}
use Rattle.inv_all.specs.history.Turns as schedule
use Rattle.inv_all.specs.history.Turns.History.{Blank, Starts, Turns}
use Rattle.inv_all.specs.history.Record.{Past, tells_of}
use Rattle.inv_all.specs.history.Record.Past.{Then}
use Rattle.inv_all.specs.history.History.{Item, Begins, Steps, Made, fits, done_if, did, done, made_from, first_made, made_of, world_of}
use Rattle.inv_all.proofs.history.Along.{begins_right, begins_within, low_seat}
use Rattle.inv_all.specs.Ends.{CallsEnd}
use Rattle.inv_all.specs.Inv.{Inv}
use Rattle.inv_all.proofs.Inv.Ends.{inv_ends}
use Rattle.inv_all.proofs.history.AllOf.{all_of}
use Rattle.inv_all.proofs.Machines.{is_within, within_of}
use Rattle.law_reuse.proofs.AnswersTold.Answering as answering
use Rattle.law_reuse.proofs.AnswersTold.Answering.{owes_of}
use Rattle.law_reuse.proofs.AnswersTold.Owed.{is_open, Serves, OutServes, Owes, Told, owed, out_owed}
use Rattle.inv_all.specs.history.Heard.{heard_if, heard_from, heard_of}
use Rattle.law_reuse.specs.Heard.{HistoriesCount}
use Rattle.inv_all.specs.model.words.Place.{is_valid}
use Rattle.law_reuse.proofs.AnswersTold.Owing.{first_serves}
use Rattle.inv_all.specs.model.Steps.{first_phase}
use Rattle.inv_all.proofs.model.Facts.{both, first_of, rest_of}
use Rattle.inv_all.specs.model.words.Place.Place.{Clock}
use Rattle.law_reuse.proofs.Turns.Steady.{turn_steps}

-- what a turn tells: no beginning, and an end only where its call ends, with this count
begins_none : (told : List Event) → all_of is_within told ≡ true → schedule.begins_none told ≡ true
begins_none [] h = refl
begins_none (events.Begin call ∷ told) h = absurd (cc)
begins_none (event ∷ told) h = begins_none told (rest_of (is_within event) (all_of is_within told) h)

open_none : (event : Event) → is_open event ≡ true → schedule.is_end event ≡ false
open_none (events.End steps answer) h = absurd (cc)
open_none event h = refl

tells_after : (xs ys : List Event) → all_of is_open xs ≡ true → schedule.tells_end (xs ++ ys) ≡ schedule.tells_end ys
tells_after [] ys h = refl
tells_after (x ∷ xs) ys h =
    let e = open_none x (first_of (is_open x) (all_of is_open xs) h) in
    ap (λ (b : Bool). b || schedule.tells_end (xs ++ ys)) e ∙ tells_after xs ys (rest_of (is_open x) (all_of is_open xs) h)

ends_after : (n : ℕ) (xs ys : List Event) → all_of is_open xs ≡ true → schedule.ends_with n ys ≡ true → schedule.ends_with n (xs ++ ys) ≡ true
ends_after n [] ys h e = e
ends_after n (events.End steps answer ∷ xs) ys h e = absurd (cc)
ends_after n (x ∷ xs) ys h e = ends_after n xs ys (rest_of (is_open x) (all_of is_open xs) h) e

phase_busy : (call : Call) (phase : Phase) → Serves call phase → busy_in phase ≡ true
phase_busy call Idle s = absurd s
phase_busy call (Runs why base) s = refl
phase_busy call (Scans later at) s = refl
phase_busy call (Works work) s = refl

end_busy : (call : Call) (l : Local) (post : Post) (desk : Desk) (rounds : ℕ) (outcome : CallOutcome) → OutServes call outcome → not (schedule.tells_end (told_end post outcome)) ≡ busy_in (settled_by l post desk rounds outcome).phase
end_busy call l post desk rounds (GoesOn phase) s = sym (phase_busy call phase s)
end_busy call l post desk rounds (Answers answer) s = refl

end_count : (n : ℕ) (post : Post) (outcome : CallOutcome) → post.steps ≡ n → schedule.ends_with n (told_end post outcome) ≡ true
end_count n post (GoesOn phase) e = refl
end_count n post (Answers answer) e = grind (arith, nat_tests)

settled_steps : (l : Local) (post : Post) (desk : Desk) (rounds : ℕ) (outcome : CallOutcome) → (settled_by l post desk rounds outcome).post.steps ≡ post.steps
settled_steps l post desk rounds (GoesOn phase) = refl
settled_steps l post desk rounds (Answers answer) = refl

step_seat : (w : World) (i : ℕ) → (step w i).seat i ≡ settled_by (offered w i) (turn (offered w i) (finds w i)).post (noting (turn (offered w i) (finds w i)).desk (told_by (turn (offered w i) (finds w i)))) (rounds_told (publishes_rows (scheme_of (turn (offered w i) (finds w i)).post)) (w.seat i).rounds (told_by (turn (offered w i) (finds w i)))) (turn (offered w i) (finds w i)).outcome
step_seat w i = seat_steps w i

step_busy : (n : ℕ) (w : World) (i : ℕ) → Owes n (w.seat i).call (owed n (w.seat i).call (w.seat i).phase) (turn (offered w i) (finds w i)) → not (schedule.tells_end (told_in w i)) ≡ is_busy (step w i) i
step_busy n w i o =
    let t : CallTurn = turn (offered w i) (finds w i) in
    let there : Told (owed n (w.seat i).call (w.seat i).phase) t.told (out_owed n (w.seat i).call t.outcome) = o.told in
    ap not (tells_after t.told (told_end t.post t.outcome) there.goes)
    ∙ end_busy (w.seat i).call (w.seat i) t.post (noting t.desk (told_by t)) (rounds_told (publishes_rows (scheme_of t.post)) (w.seat i).rounds (told_by t)) t.outcome o.serves
    ∙ sym (ap (λ (l : Local). busy_in l.phase) (step_seat w i))

-- a call has few steps left, so that the count is exact
bump_next : (n left : ℕ) → n + left < 2 ^ 62 → bump n ≡ n + 1
bump_next n left h = by_room (nat_lt n 18446744073709551615) refl
  where
    by_room : (room : Bool) → nat_lt n 18446744073709551615 ≡ room → (if room then n + 1 else n) ≡ n + 1
    by_room true e = refl
    by_room false e = absurd (grind (arith, nat_tests))

turn_count : (w : World) (i : ℕ) → (w.seat i).post.steps + rest w i < 2 ^ 62 → (turn (offered w i) (finds w i)).post.steps ≡ (w.seat i).post.steps + 1
turn_count w i h = turn_steps (w.seat i).phase (counted (w.seat i).post) (offered w i).desk (finds w i) ∙ bump_next (w.seat i).post.steps (rest w i) h

step_count : (w : World) (i : ℕ) → (w.seat i).post.steps + rest w i < 2 ^ 62 → ((step w i).seat i).post.steps ≡ (w.seat i).post.steps + 1
step_count w i h = ap (λ (x : Local). x.post.steps) (step_seat w i) ∙ settled_steps (w.seat i) _ _ _ (turn (offered w i) (finds w i)).outcome ∙ turn_count w i h

-- of each seat: it is busy as the schedule says, and while it is so many turns were taken
record Timed (w : World) (h : schedule.History) (k : ℕ) : Type 0 where
  busy : schedule.is_busy k h ≡ is_busy w k
  turns : is_busy w k ≡ true → schedule.turns_of k h ≡ (w.seat k).post.steps
  room : is_busy w k ≡ true → (w.seat k).post.steps + rest w k < 2 ^ 62

record Keeps (n : ℕ) (made : Made) (h : schedule.History) : Type 0 where
  kept : answering.Keeps n made
  tells : schedule.record_of h ≡ made.past
  timed : (k : ℕ) → Timed made.world h k
  counts : schedule.CountsTurns h

-- a call that begins is under way
pub first_busy : (call : Call) (l : Local) → busy_in (first_phase call (begun_post l.post)) ≡ true
first_busy call l = phase_busy call (first_phase call (begun_post l.post)) (first_serves call (begun_post l.post))

none_yet : (count left : ℕ) → count ≡ 0 → left < 2 ^ 62 → count + left < 2 ^ 62
none_yet count left z h = omega (z, h, arith)

begin_timed : (w : World) (h : schedule.History) (i k : ℕ) (call : Call) (same : Bool) → (k == i) ≡ same → i < w.layout.config.seats → Inv (begin w i call) → ((m : ℕ) → Timed w h m) → Timed (begin w i call) (Starts h i call) k
begin_timed w h i k call true e l a g =
    let one : k ≡ i = grind (arith, nat_tests) in
    let c : CallsEnd (begin w i call) i = inv_ends (begin w i call) i l a in
    let few = c.few i in
    let b : is_busy (begin w i call) i ≡ true = ap (λ (x : Local). busy_in x.phase) (begin_begins w i call) ∙ first_busy call (w.seat i) in
    let z : ((begin w i call).seat i).post.steps ≡ 0 = ap (λ (x : Local). x.post.steps) (begin_begins w i call) in
    let r : ((begin w i call).seat i).post.steps + rest (begin w i call) i < 2 ^ 62 = none_yet ((begin w i call).seat i).post.steps (rest (begin w i call) i) z few in
    let here : Timed (begin w i call) (Starts h i call) i = record {
      busy = started i (i == i) (same_seat i) ∙ sym b;
      turns = λ y. fresh_turns i (i == i) (same_seat i) ∙ sym z;
      room = λ y. r;
    } in
    subst (λ (m : ℕ). Timed (begin w i call) (Starts h i call) m) (sym one) here
  where
    same_seat : (m : ℕ) → (m == m) ≡ true
    same_seat m = grind (arith, nat_tests)

    started : (m : ℕ) (b : Bool) → b ≡ true → (if b then true else schedule.is_busy m h) ≡ true
    started m true e = refl
    started m false e = absurd (cc)

    fresh_turns : (m : ℕ) (b : Bool) → b ≡ true → (if b then 0 else schedule.turns_of m h) ≡ 0
    fresh_turns m true e = refl
    fresh_turns m false e = absurd (cc)
begin_timed w h i k call false e l a g =
    let s : (begin w i call).seat k ≡ w.seat k = begin_stays w i k call e in
    let t = g k in
    let b : is_busy (begin w i call) k ≡ is_busy w k = ap (λ (x : Local). busy_in x.phase) s in
    record {
      busy = other_busy (k == i) e ∙ t.busy ∙ sym b;
      turns = λ y. other_turns (k == i) e ∙ t.turns (sym b ∙ y) ∙ sym (ap (λ (x : Local). x.post.steps) s);
      room = λ y. subst (λ (x : Local). x.post.steps + rests.rest_of w.layout.config (w.mem Clock) x < 2 ^ 62) (sym s) (t.room (sym b ∙ y));
    }
  where
    other_busy : (b : Bool) → b ≡ false → (if b then true else schedule.is_busy k h) ≡ schedule.is_busy k h
    other_busy true e = absurd (cc)
    other_busy false e = refl

    other_turns : (b : Bool) → b ≡ false → (if b then 0 else schedule.turns_of k h) ≡ schedule.turns_of k h
    other_turns true e = absurd (cc)
    other_turns false e = refl

step_timed : (n : ℕ) (w : World) (h : schedule.History) (i k : ℕ) (same : Bool) → (k == i) ≡ same → i < w.layout.config.seats → is_busy w i ≡ true → Inv w → Owes n (w.seat i).call (owed n (w.seat i).call (w.seat i).phase) (turn (offered w i) (finds w i)) → ((m : ℕ) → Timed w h m) → Timed (step w i) (Turns h i (told_in w i)) k
step_timed n w h i k true e l y a o g =
    let one : k ≡ i = grind (arith, nat_tests) in
    let t = g i in
    let c : CallsEnd w i = inv_ends w i l a in
    let z : ((step w i).seat i).post.steps ≡ (w.seat i).post.steps + 1 = step_count w i (t.room y) in
    let here : Timed (step w i) (Turns h i (told_in w i)) i = record {
      busy = own_busy (i == i) (same_seat i) (schedule.is_busy i h) (t.busy ∙ y) ∙ step_busy n w i o;
      turns = λ b. own_turns (i == i) (same_seat i) ∙ ap (λ (x : ℕ). x + 1) (t.turns y) ∙ sym z;
      room = λ b. rw z (lower (w.seat i).post.steps (rest w i) (rest (step w i) i) (t.room y) (c.falls b));
    } in
    subst (λ (m : ℕ). Timed (step w i) (Turns h i (told_in w i)) m) (sym one) here
  where
    same_seat : (m : ℕ) → (m == m) ≡ true
    same_seat m = grind (arith, nat_tests)

    own_busy : (b : Bool) → b ≡ true → (before : Bool) → before ≡ true → (if b then not (schedule.tells_end (told_in w i)) && before else before) ≡ not (schedule.tells_end (told_in w i))
    own_busy true e true f = and_true (not (schedule.tells_end (told_in w i)))
      where
        and_true : (x : Bool) → (x && true) ≡ x
        and_true true = refl
        and_true false = refl
    own_busy true e false f = absurd (cc)
    own_busy false e before f = absurd (cc)

    own_turns : (b : Bool) → b ≡ true → (if b then schedule.turns_of i h + 1 else schedule.turns_of i h) ≡ schedule.turns_of i h + 1
    own_turns true e = refl
    own_turns false e = absurd (cc)

    lower : (count before after : ℕ) → count + before < 2 ^ 62 → after + 1 ≤ before → count + 1 + after < 2 ^ 62
    lower count before after p q = omega (p, q, arith)
step_timed n w h i k false e l y a o g =
    let s : (step w i).seat k ≡ w.seat k = seat_stays w i k e in
    let t = g k in
    let c : CallsEnd w i = inv_ends w i l a in
    let b : is_busy (step w i) k ≡ is_busy w k = ap (λ (x : Local). busy_in x.phase) s in
    let z : ((step w i).seat k).post.steps ≡ (w.seat k).post.steps = ap (λ (x : Local). x.post.steps) s in
    record {
      busy = other_busy (k == i) e ∙ t.busy ∙ sym b;
      turns = λ y2. other_turns (k == i) e ∙ t.turns (sym b ∙ y2) ∙ sym z;
      room = λ y2. rw z (no_more (w.seat k).post.steps (rest w k) (rest (step w i) k) (t.room (sym b ∙ y2)) (c.stays k e));
    }
  where
    other_busy : (b : Bool) → b ≡ false → (if b then not (schedule.tells_end (told_in w i)) && schedule.is_busy k h else schedule.is_busy k h) ≡ schedule.is_busy k h
    other_busy true e = absurd (cc)
    other_busy false e = refl

    other_turns : (b : Bool) → b ≡ false → (if b then schedule.turns_of k h + 1 else schedule.turns_of k h) ≡ schedule.turns_of k h
    other_turns true e = absurd (cc)
    other_turns false e = refl

    no_more : (count before after : ℕ) → count + before < 2 ^ 62 → after ≤ before → count + after < 2 ^ 62
    no_more count before after p q = omega (p, q, arith)

turn_right : (n : ℕ) (w : World) (h : schedule.History) (i : ℕ) → is_busy w i ≡ true → Owes n (w.seat i).call (owed n (w.seat i).call (w.seat i).phase) (turn (offered w i) (finds w i)) → Timed w h i → (schedule.is_busy i h && (schedule.begins_none (told_in w i) && schedule.ends_with (schedule.turns_of i h + 1) (told_in w i))) ≡ true
turn_right n w h i y o t =
    let r : CallTurn = turn (offered w i) (finds w i) in
    let there : Told (owed n (w.seat i).call (w.seat i).phase) r.told (out_owed n (w.seat i).call r.outcome) = o.told in
    let count : r.post.steps ≡ schedule.turns_of i h + 1 = turn_count w i (t.room y) ∙ ap (λ (x : ℕ). x + 1) (sym (t.turns y)) in
    both (schedule.is_busy i h) (schedule.begins_none (told_in w i) && schedule.ends_with (schedule.turns_of i h + 1) (told_in w i)) (t.busy ∙ y)
    (both (schedule.begins_none (told_in w i)) (schedule.ends_with (schedule.turns_of i h + 1) (told_in w i)) (begins_none (told_in w i) (within_of w i))
    (ends_after (schedule.turns_of i h + 1) r.told (told_end r.post r.outcome) there.goes (end_count (schedule.turns_of i h + 1) r.post r.outcome count)))

begin_keeps : (n : ℕ) (made : Made) (h : schedule.History) (i : ℕ) (call : Call) → i < made.world.layout.config.seats → is_busy made.world i ≡ false → may_start made.world i call ≡ true → Keeps n made h → Keeps n (done made (Begins i call)) (Starts h i call)
begin_keeps n made h i call l f m g =
    let k = answering.begin_keeps n made i call f m g.kept in
    let t = g.timed i in
    record {
      kept = k;
      tells = ap (λ (p : Past). Then p i (events.Begin call)) g.tells;
      timed = λ m. begin_timed made.world h i m call (m == i) refl l k.known g.timed;
      counts = (t.busy ∙ f, g.counts);
    }

step_keeps : (n : ℕ) (made : Made) (h : schedule.History) (i : ℕ) → i < made.world.layout.config.seats → is_busy made.world i ≡ true → Keeps n made h → Keeps n (done made (Steps i)) (Turns h i (told_in made.world i))
step_keeps n made h i l y g =
    let k = g.kept in
    let s = k.seats i in
    let o = owes_of n made.world i k.table k.known (s.serves y) in
    record {
      kept = answering.step_keeps n made i l y k;
      tells = ap (λ (p : Past). tells_of p i (told_in made.world i)) g.tells;
      timed = λ m. step_timed n made.world h i m (m == i) refl l y k.known o g.timed;
      counts = (turn_right n made.world h i y o (g.timed i), g.counts);
    }

item_keeps : (n : ℕ) (made : Made) (h : schedule.History) (item : Item) (fit : Bool) → fits made.world item ≡ fit → Keeps n made h → Keeps n (done_if made item fit) (heard_if made.world item fit h)
item_keeps n made h item false f g = g
item_keeps n made h (Begins i call) true f g =
    let seats : ℕ = made.world.layout.config.seats in
    let may : Bool = may_start made.world i call in
    begin_keeps n made h i call (low_seat i seats (not (is_busy made.world i) && may) f) (begins_right i seats (is_busy made.world i) may f) (begins_within i seats (is_busy made.world i) may f) g
item_keeps n made h (Steps i) true f g =
    step_keeps n made h i (low_seat i made.world.layout.config.seats (is_busy made.world i) f) (rest_of (nat_lt i made.world.layout.config.seats) (is_busy made.world i) f) g

items_keep : (n : ℕ) (items : List Item) (made : Made) (h : schedule.History) → Keeps n made h → Keeps n (made_from made items) (heard_from made items h)
items_keep n [] made h g = g
items_keep n (item ∷ items) made h g = items_keep n items (did made item) (heard_if made.world item (fits made.world item) h) (item_keeps n made h item (fits made.world item) refl g)

first_keeps : (layout : Layout) → is_valid layout ≡ true → Keeps layout.config.buckets (first_made layout) Blank
first_keeps layout d =
    record { kept = answering.first_keeps layout d; tells = refl; timed = λ k. record { busy = refl; turns = λ b. absurd (cc); room = λ b. absurd (cc) }; counts = tt }

outcome_busy : (call : Call) (outcome : CallOutcome) (phase : Phase) → OutServes call outcome → outcome ≡ GoesOn phase → busy_in phase ≡ true
outcome_busy call outcome phase s e = phase_busy call phase (subst (OutServes call) e s)

goes_busy : (n : ℕ) (made : Made) (h : schedule.History) (k : ℕ) (phase : Phase) → Keeps n made h → is_busy made.world k ≡ true → (turn (offered made.world k) (finds made.world k)).outcome ≡ GoesOn phase → busy_in phase ≡ true
goes_busy n made h k phase g y e =
    let a = g.kept in
    let s = a.seats k in
    let o = owes_of n made.world k a.table a.known (s.serves y) in
    outcome_busy (made.world.seat k).call (turn (offered made.world k) (finds made.world k)).outcome phase o.serves e

pub histories_count : HistoriesCount
histories_count layout items d =
    let g = items_keep layout.config.buckets items (first_made layout) Blank (first_keeps layout d) in
    record {
      counts = g.counts;
      tells = g.tells;
      busy = λ k. let t = g.timed k in t.busy;
      few = λ k y. let t = g.timed k in t.room y;
      goes_on = λ k phase y e. goes_busy layout.config.buckets (made_of layout items) (heard_of layout items) k phase g y e;
      one_more = λ k y. let t = g.timed k in step_count (world_of layout items) k (t.room y);
    }
