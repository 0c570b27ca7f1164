-- Along a history each leave has taken as many steps as it has let rows go, or under 2GE one for all, until the step that ends it.
use Rattle.std.proofs.Common.{ℕ, ◌≡◌, ◌≤◌, ◌+◌, Bool, true, false, List, [], ◌∷◌, ◌++◌, drop, get_or, length, Option, Some, None, refl, sym, ap, ◌∙◌, subst, arith}
use Rattle.std.proofs.Math.ListN.{drop_of_length-le}
use Rattle.std.proofs.lemmas.Bool.Decides.{nat_tests}
use Rattle.std.proofs.lemmas.List.{drop-drop, drop_more}
use Rattle.std.specs.Prelude.{◌==◌, ◌&&◌, if◌then◌else◌, nat_le, nat_lt}
use Rattle.law_held.specs.inv.history.History.{Item, Begins, Steps, Made, done_if, first_made, fits as fits_item, made_of, record_of, world_of}
use Rattle.law_held.specs.inv.history.Record.{Each, Past, tells_of}
use Rattle.law_held.specs.inv.history.Record.Past.{Then}
use Rattle.law_held.specs.inv.model.Calls.{HideSpan, Keeping, MarkLeft, Parting, Phase, Releases, Runs, Works, CallTurn, CallOutcome, GoesOn, Answers}
use Rattle.law_held.specs.inv.model.Desks.{Desk}
use Rattle.law_held.specs.inv.model.Keep.{parting_from, parting_index, parting_span}
use Rattle.law_held.specs.inv.model.Locals.{Local, begun, begun_post, busy_in, told_end, turn}
use Rattle.law_held.specs.inv.model.Phases.Base.{Clear}
use Rattle.law_held.specs.inv.model.Posts.{cleared, counted, publishes_index, stands, standing_from}
use Rattle.law_held.specs.inv.model.Rounds.{scheme_of}
use Rattle.law_held.specs.inv.model.Steps as steps
use Rattle.law_held.specs.inv.model.World.{World, begin, finds, is_busy, may_start, offered, step, told_in}
use Rattle.law_held.specs.inv.model.declared.post.Post.{Post}
use Rattle.law_held.specs.inv.model.defs.declared.call.Answer.{Answer}
use Rattle.law_held.specs.inv.model.defs.declared.call.Call.{Call}
use Rattle.law_held.specs.inv.model.defs.declared.call.Call.TheVariants as calls
use Rattle.law_held.specs.inv.model.defs.declared.event.Event.{Event}
use Rattle.law_held.specs.inv.model.defs.declared.event.Event.TheVariants as events
use Rattle.law_held.specs.inv.model.defs.declared.lifetime.Interval.{Interval}
use Rattle.law_held.specs.inv.model.words.Place.{is_valid}
use Rattle.law_held.specs.inv.model.words.Schemes.{has_one_interval, publishes_rows}
use Rattle.law_held.specs.inv.model.words.declared.config.Config.{Config}
use Rattle.law_held.specs.inv.model.words.declared.layout.Layout.{Layout}
use Rattle.law_held.specs.inv.shapes.Frame.{phase_left as stands_at}
use Rattle.law_held.specs.laws.StateAt.{began_of}
use Rattle.law_held.proofs.inv.Machines.{is_within, within_begins, within_of}
use Rattle.law_held.proofs.inv.covers.Held.{stepped_phase, stepped_post}
use Rattle.law_held.proofs.inv.history.Along.{begins_right, begins_within, low_seat, paths_keep}
use Rattle.law_held.proofs.inv.history.AllOf.{all_of}
use Rattle.law_held.proofs.inv.model.Facts.{first_of, le_test, rest_of as later_of, same_number}
use Rattle.law_held.proofs.inv.shapes.Frame.{begin_begins, begin_stays, seat_stays}
use Rattle.law_held.proofs.laws.Tells.{tells_both}
use Rattle.law_held.proofs.laws.records.Entries.{entries_of_each}
use Rattle.law_reasons.proofs.Full.Since.{others_begin, others_own}
use Rattle.law_reuse.proofs.AnswersTold.Answering as answering
use Rattle.law_reuse.proofs.AnswersTold.Answering.{began_along, first_all, owes_of}
use Rattle.law_reuse.proofs.AnswersTold.Owed.{is_open}
use Rattle.law_reuse.proofs.Turns.Counted.{histories_count}
use Rattle.law_bounds.specs.Leaves.{LeavesEnd, clears_since, is_clear, leaves_ok, right_in}
use Rattle.law_bounds.proofs.Changes.Keeps.{step_call}

-- a row stands where the first of them was found
row_there : (index : ℕ) (stood rows : List (Option ℕ)) (row : Option ℕ) (low : Bool) → nat_lt index (length stood) ≡ low → drop index stood ≡ row ∷ rows → get_or stood index None ≡ row
row_there index stood rows row true l e =
    let m = drop_more stood index None (grind (arith, nat_tests, l)) in
    first (sym m ∙ e)
  where
    first : {a b : Option ℕ} {x y : List (Option ℕ)} → a ∷ x ≡ b ∷ y → a ≡ b
    first h = cc
row_there index stood rows row false l e = absurd (let m : drop index stood ≡ [] = drop_of_length-le stood (grind (arith, nat_tests, l)) in none (sym m ∙ e))
  where
    none : {b : Option ℕ} {y : List (Option ℕ)} → [] ≡ b ∷ y → ⊥
    none h = cc

next_rows : (index : ℕ) (stood rows : List (Option ℕ)) (row : Option ℕ) → drop index stood ≡ row ∷ rows → drop (index + 1) stood ≡ rows
next_rows index stood rows row e = sym (drop-drop 1 index stood) ∙ ap (drop 1) e

-- where a leave is that lets go of one row after another: it lets go of this one, or of none any more
data Row (post : Post) (phase : Phase) : Type 0 where
  This : (rows : Bool) (index slot : ℕ) → phase ≡ Runs (Releases (Parting index)) (Clear rows index) → stands post index ≡ Some slot → Row post phase
  Last : phase ≡ Works (Keeping MarkLeft) → Row post phase

row_of : (post : Post) (phase : Phase) (shown : Bool) (index : ℕ) (rows : List (Option ℕ)) → drop index post.standing ≡ rows → phase ≡ parting_index shown (standing_from index rows) → Row post phase
row_of post phase shown index [] e p = Last p
row_of post phase shown index (None ∷ rows) e p = row_of post phase shown (index + 1) rows (next_rows index post.standing rows None e) p
row_of post phase shown index (Some slot ∷ rows) e p = This shown index slot p (row_there index post.standing rows (Some slot) (nat_lt index (length post.standing)) refl e)

-- how far a leave has come that has told so many clears
data Way (one : Bool) (phase : Phase) (post : Post) (n : ℕ) : Type 0 where
  Lets : (index : ℕ) → one ≡ false → phase ≡ parting_from index post → post.steps ≡ n → Way one phase post n
  Hides : one ≡ true → phase ≡ Works (Keeping HideSpan) → post.steps ≡ 0 → Way one phase post n
  Marks : one ≡ true → phase ≡ Works (Keeping MarkLeft) → post.steps ≤ 1 → Way one phase post n

-- how many clears events are
abbrev clears : List Event → ℕ
clears [] = 0
clears (event ∷ told) = if is_clear event then clears told + 1 else clears told

-- what a turn of a leave makes of it, where it takes one step
record After (one : Bool) (t : CallTurn) (taken n : ℕ) : Type 0 where
  goes : (phase : Phase) → t.outcome ≡ GoesOn phase → Way one phase t.post (n + clears t.told)
  ends : (answer : Answer) → t.outcome ≡ Answers answer → (if one then nat_le (taken + 1) 2 else taken + 1 == n + clears t.told + 1) ≡ true

no_end : {phase : Phase} {answer : Answer} → GoesOn phase ≡ Answers answer → ⊥
no_end e = cc

no_more : {phase : Phase} {answer : Answer} → Answers answer ≡ GoesOn phase → ⊥
no_more e = cc

told_one : (rows : Bool) (post : Post) (index slot : ℕ) (row : Option ℕ) → row ≡ Some slot → clears (cleared index row ++ publishes_index rows post index 0) ≡ 1
told_one false post index slot row e = rw e refl
told_one true post index slot row e = rw e refl

this_after : (one rows : Bool) (index slot : ℕ) (post : Post) (desk : Desk) (found n : ℕ) → one ≡ false → stands post index ≡ Some slot → post.steps ≡ n → (steps.phase_turn (Runs (Releases (Parting index)) (Clear rows index)) (counted post) desk found).post.steps ≡ post.steps + 1
    → After one (steps.phase_turn (Runs (Releases (Parting index)) (Clear rows index)) (counted post) desk found) post.steps n
this_after one rows index slot post desk found n f s e m =
    let a = told_one rows (counted post) index slot (stands (counted post) index) s in
    record {
      goes = λ phase o. Lets (index + 1) f (sym (phase_is o)) (omega (arith, m, e, a));
      ends = λ answer o. absurd (no_end o);
    }
  where
    phase_is : {a b : Phase} → GoesOn a ≡ GoesOn b → a ≡ b
    phase_is h = cc

marks_number : (taken n : ℕ) → taken ≡ n → (taken + 1 == n + 0 + 1) ≡ true
marks_number taken n e = grind (arith, nat_tests, e)

last_after : (one : Bool) (post : Post) (desk : Desk) (found n : ℕ) → one ≡ false → post.steps ≡ n → After one (steps.phase_turn (Works (Keeping MarkLeft)) (counted post) desk found) post.steps n
last_after one post desk found n f e = record {
  goes = λ phase o. absurd (no_more o);
  ends = λ answer o. rw f (marks_number post.steps n e);
}

hides_after : (one : Bool) (post : Post) (desk : Desk) (found n : ℕ) → one ≡ true → post.steps ≡ 0 → (steps.phase_turn (Works (Keeping HideSpan)) (counted post) desk found).post.steps ≡ post.steps + 1 → After one (steps.phase_turn (Works (Keeping HideSpan)) (counted post) desk found) post.steps n
hides_after one post desk found n f e m = record {
  goes = λ phase o. Marks f (sym (phase_is o)) (omega (arith, m, e));
  ends = λ answer o. absurd (no_end o);
}
  where
    phase_is : {a b : Phase} → GoesOn a ≡ GoesOn b → a ≡ b
    phase_is h = cc

marks_after : (one : Bool) (post : Post) (desk : Desk) (found n : ℕ) → one ≡ true → post.steps ≤ 1 → After one (steps.phase_turn (Works (Keeping MarkLeft)) (counted post) desk found) post.steps n
marks_after one post desk found n f e = record {
  goes = λ phase o. absurd (no_more o);
  ends = λ answer o. rw f (le_test (post.steps + 1) 2 (omega (arith, e)));
}

-- so of each phase of a leave
abbrev AfterTurn : Bool → Phase → Post → Desk → (found n : ℕ) → Type 0
AfterTurn one phase post desk found n = (steps.phase_turn phase (counted post) desk found).post.steps ≡ post.steps + 1 → After one (steps.phase_turn phase (counted post) desk found) post.steps n

row_after : (one : Bool) (phase : Phase) (post : Post) (desk : Desk) (found n : ℕ) → one ≡ false → post.steps ≡ n → Row post phase → AfterTurn one phase post desk found n
row_after one phase post desk found n f e (This rows index slot p s) = subst (λ (x : Phase). AfterTurn one x post desk found n) (sym p) (λ m. this_after one rows index slot post desk found n f s e m)
row_after one phase post desk found n f e (Last p) = subst (λ (x : Phase). AfterTurn one x post desk found n) (sym p) (λ m. last_after one post desk found n f e)

way_after : (one : Bool) (phase : Phase) (post : Post) (desk : Desk) (found n : ℕ) → Way one phase post n → AfterTurn one phase post desk found n
way_after one phase post desk found n (Lets index f p e) = row_after one phase post desk found n f e (row_of post phase (publishes_rows (scheme_of post)) index (drop index post.standing) refl p)
way_after one phase post desk found n (Hides f p e) = subst (λ (x : Phase). AfterTurn one x post desk found n) (sym p) (λ m. hides_after one post desk found n f e m)
way_after one phase post desk found n (Marks f p e) = subst (λ (x : Phase). AfterTurn one x post desk found n) (sym p) (λ m. marks_after one post desk found n f e)

-- where it begins
span_way : (one : Bool) (post : Post) (phase : Phase) (span : Option Interval) → one ≡ true → phase ≡ parting_span span → post.steps ≡ 0 → Way one phase post 0
span_way one post phase None f p e = Marks f p (omega (arith, e))
span_way one post phase (Some span) f p e = Hides f p e

begun_way : (one : Bool) (l : Local) → has_one_interval (scheme_of l.post) ≡ one → Way one (begun l calls.Leave).phase (begun l calls.Leave).post 0
begun_way true l e = span_way true (begun_post l.post) (begun l calls.Leave).phase l.post.span refl (ap (λ (b : Bool). if b then parting_span (begun_post l.post).span else parting_from 2 (begun_post l.post)) e) refl
begun_way false l e = Lets 2 refl (ap (λ (b : Bool). if b then parting_span (begun_post l.post).span else parting_from 2 (begun_post l.post)) e) refl

-- what a record counts
clear_one : (b : Bool) (n : ℕ) → (if b && true then n + 1 else n) ≡ (if b then n + 1 else n)
clear_one true n = refl
clear_one false n = refl

sum_one : (b : Bool) (n m c : ℕ) → m ≡ (if b then n + 1 else n) → m + c ≡ n + (if b then c + 1 else c)
sum_one true n m c e = omega (arith, e)
sum_one false n m c e = omega (arith, e)

own_clear : (i : ℕ) (p : Past) (event : Event) → is_within event ≡ true → clears_since i (Then p i event) ≡ (if is_clear event then clears_since i p + 1 else clears_since i p)
own_clear i p event h = rw (within_begins i i p event h, same_number i) (clear_one (is_clear event) (clears_since i p))

clears_tells : (i : ℕ) (told : List Event) (p : Past) → all_of is_within told ≡ true → clears_since i (tells_of p i told) ≡ clears_since i p + clears told
clears_tells i [] p h = omega arith
clears_tells i (event ∷ told) p h =
    let a = clears_tells i told (Then p i event) (later_of (is_within event) (all_of is_within told) h) in
    let b = sum_one (is_clear event) (clears_since i p) (clears_since i (Then p i event)) (clears told) (own_clear i p event (first_of (is_within event) (all_of is_within told) h)) in
    omega (arith, a, b)

clears_others : (k i : ℕ) (told : List Event) (p : Past) → (k == i) ≡ false → clears_since k (tells_of p i told) ≡ clears_since k p
clears_others k i [] p e = refl
clears_others k i (event ∷ told) p e = clears_others k i told (Then p i event) e ∙ rw (others_begin k i p event e, others_own k i is_clear p event e) refl

end_clears : (i : ℕ) (post : Post) (outcome : CallOutcome) (q : Past) → clears_since i (tells_of q i (told_end post outcome)) ≡ clears_since i q
end_clears i post (GoesOn phase) q = refl
end_clears i post (Answers answer) q = refl

begin_own : (i : ℕ) (call : Call) (p : Past) → clears_since i (Then p i (events.Begin call)) ≡ 0
begin_own i call p = rw (same_number i) refl

begin_other : (k i : ℕ) (call : Call) (p : Past) → (k == i) ≡ false → clears_since k (Then p i (events.Begin call)) ≡ clears_since k p
begin_other k i call p e = rw e refl

-- what a history keeps
abbrev SeatWay : World → Past → ℕ → Local → Type 0
SeatWay w p k l = busy_in l.phase ≡ true → l.call ≡ calls.Leave → Way (has_one_interval w.layout.config.scheme) l.phase l.post (clears_since k p)

record Keeps (layout : Layout) (made : Made) : Type 0 where
  table : made.world.layout ≡ layout
  answers : answering.Keeps layout.config.buckets made
  ways : (k : ℕ) → SeatWay made.world made.past k (made.world.seat k)
  law : Each (leaves_ok made.world.layout.config) made.past

abbrev turn_of : World → ℕ → CallTurn
turn_of w i = turn (offered w i) (finds w i)

-- a step of the seat's own
after_of : (layout : Layout) (made : Made) (i : ℕ) → Keeps layout made → is_busy made.world i ≡ true → (made.world.seat i).call ≡ calls.Leave → (turn_of made.world i).post.steps ≡ (made.world.seat i).post.steps + 1
    → After (has_one_interval made.world.layout.config.scheme) (turn_of made.world i) (made.world.seat i).post.steps (clears_since i made.past)
after_of layout made i g y e m = way_after (has_one_interval made.world.layout.config.scheme) (made.world.seat i).phase (made.world.seat i).post (offered made.world i).desk (finds made.world i) (clears_since i made.past) (g.ways i y e) m

step_clears : (w : World) (i : ℕ) (p : Past) → clears_since i (tells_of p i (told_in w i)) ≡ clears_since i p + clears (turn_of w i).told
step_clears w i p =
    let t : CallTurn = turn_of w i in
    ap (clears_since i) (tells_both i t.told (told_end t.post t.outcome) p) ∙ end_clears i t.post t.outcome (tells_of p i t.told) ∙ clears_tells i t.told p (first_all is_within t.told (told_end t.post t.outcome) (within_of w i))

own_way : (layout : Layout) (made : Made) (i : ℕ) (outcome : CallOutcome) → (turn_of made.world i).outcome ≡ outcome → Keeps layout made → is_busy made.world i ≡ true → (turn_of made.world i).post.steps ≡ (made.world.seat i).post.steps + 1
    → SeatWay (step made.world i) (tells_of made.past i (told_in made.world i)) i ((step made.world i).seat i)
own_way layout made i (GoesOn phase) o g y m = λ b e.
    let w : World = made.world in
    let t : CallTurn = turn_of w i in
    let a = after_of layout made i g y (sym (step_call w i) ∙ e) m in
    let p : ((step w i).seat i).phase ≡ phase = stepped_phase w i ∙ ap stands_at o in
    subst (λ (n : ℕ). Way (has_one_interval w.layout.config.scheme) ((step w i).seat i).phase ((step w i).seat i).post n) (sym (step_clears w i made.past))
    (subst (λ (x : Phase). Way (has_one_interval w.layout.config.scheme) x ((step w i).seat i).post (clears_since i made.past + clears t.told)) (sym p)
    (subst (λ (x : Post). Way (has_one_interval w.layout.config.scheme) phase x (clears_since i made.past + clears t.told)) (sym (stepped_post w i)) (a.goes phase o)))
own_way layout made i (Answers answer) o g y m = λ b e.
    let idle : busy_in ((step made.world i).seat i).phase ≡ false = ap busy_in (stepped_phase made.world i ∙ ap stands_at o) in
    absurd (not_both (busy_in ((step made.world i).seat i).phase) b idle)
  where
    not_both : (b : Bool) → b ≡ true → b ≡ false → ⊥
    not_both true e f = cc
    not_both false e f = cc

step_way : (layout : Layout) (made : Made) (i k : ℕ) (same : Bool) → (k == i) ≡ same → Keeps layout made → is_busy made.world i ≡ true → (turn_of made.world i).post.steps ≡ (made.world.seat i).post.steps + 1
    → SeatWay (step made.world i) (tells_of made.past i (told_in made.world i)) k ((step made.world i).seat k)
step_way layout made i k true e g y m =
    let one : i ≡ k = grind (arith, nat_tests) in
    subst (λ (n : ℕ). SeatWay (step made.world i) (tells_of made.past i (told_in made.world i)) n ((step made.world i).seat n)) one (own_way layout made i (turn_of made.world i).outcome refl g y m)
step_way layout made i k false e g y m =
    let w : World = made.world in
    subst (λ (l : Local). SeatWay (step w i) (tells_of made.past i (told_in w i)) k l) (sym (seat_stays w i k e))
    (λ b c. subst (λ (n : ℕ). Way (has_one_interval w.layout.config.scheme) (w.seat k).phase (w.seat k).post n) (sym (clears_others k i (told_in w i) made.past e)) (g.ways k b c))

begin_way : (layout : Layout) (made : Made) (i k : ℕ) (call : Call) (same : Bool) → (k == i) ≡ same → Keeps layout made → SeatWay (begin made.world i call) (Then made.past i (events.Begin call)) k ((begin made.world i call).seat k)
begin_way layout made i k call true e g =
    let w : World = made.world in
    let one : i ≡ k = grind (arith, nat_tests) in
    subst (λ (n : ℕ). SeatWay (begin w i call) (Then made.past i (events.Begin call)) n ((begin w i call).seat n)) one
    (subst (λ (l : Local). SeatWay (begin w i call) (Then made.past i (events.Begin call)) i l) (sym (begin_begins w i call))
    (λ b c. subst (λ (n : ℕ). Way (has_one_interval w.layout.config.scheme) (begun (w.seat i) call).phase (begun (w.seat i) call).post n) (sym (begin_own i call made.past))
    (subst (λ (x : Call). Way (has_one_interval w.layout.config.scheme) (begun (w.seat i) x).phase (begun (w.seat i) x).post 0) (sym c) (begun_way (has_one_interval w.layout.config.scheme) (w.seat i) (scheme_is i)))))
  where
    scheme_is : (i : ℕ) → has_one_interval (scheme_of (made.world.seat i).post) ≡ has_one_interval made.world.layout.config.scheme
    scheme_is i = let a = g.answers.known.known.seats.fits i in ap (λ (x : Layout). has_one_interval x.config.scheme) a.post.layout
begin_way layout made i k call false e g =
    let w : World = made.world in
    subst (λ (l : Local). SeatWay (begin w i call) (Then made.past i (events.Begin call)) k l) (sym (begin_stays w i k call e))
    (λ b c. subst (λ (n : ℕ). Way (has_one_interval w.layout.config.scheme) (w.seat k).phase (w.seat k).post n) (sym (begin_other k i call made.past e)) (g.ways k b c))

-- the law along what a step tells
open_ok : (c : Config) (i : ℕ) (p : Past) (event : Event) → is_open event ≡ true → leaves_ok c p i event ≡ true
open_ok c i p (events.End n answer) h = absurd (cc)
open_ok c i p event h = refl

open_each : (c : Config) (i : ℕ) (told : List Event) (p : Past) → all_of is_open told ≡ true → Each (leaves_ok c) p → Each (leaves_ok c) (tells_of p i told)
open_each c i [] p h g = g
open_each c i (event ∷ told) p h g = open_each c i told (Then p i event) (later_of (is_open event) (all_of is_open told) h) (open_ok c i p event (first_of (is_open event) (all_of is_open told) h), g)

right_by : (c : Config) (i : ℕ) (q : Past) (call : Call) (n : ℕ) → (call ≡ calls.Leave → (if has_one_interval c.scheme then nat_le n 2 else n == clears_since i q + 1) ≡ true) → right_in c i q call n ≡ true
right_by c i q calls.Leave n f = f refl
right_by c i q call n f = refl

end_each : (c : Config) (i : ℕ) (q : Past) (call : Call) (post : Post) (outcome : CallOutcome) (n : ℕ) → began_of i q ≡ Some call → post.steps ≡ n → ((answer : Answer) → outcome ≡ Answers answer → call ≡ calls.Leave → (if has_one_interval c.scheme then nat_le n 2 else n == clears_since i q + 1) ≡ true) → Each (leaves_ok c) q → Each (leaves_ok c) (tells_of q i (told_end post outcome))
end_each c i q call post (GoesOn phase) n b e f g = g
end_each c i q call post (Answers answer) n b e f g = (rw (b, e) (right_by c i q call n (f answer refl)), g)

step_law : (layout : Layout) (made : Made) (i : ℕ) → Keeps layout made → is_busy made.world i ≡ true → (turn_of made.world i).post.steps ≡ (made.world.seat i).post.steps + 1 → Each (leaves_ok made.world.layout.config) (tells_of made.past i (told_in made.world i))
step_law layout made i g y m =
    let w : World = made.world in
    let p : Past = made.past in
    let c : Config = w.layout.config in
    let t : CallTurn = turn_of w i in
    let a = g.answers in
    let q : Past = tells_of p i t.told in
    let within : all_of is_within t.told ≡ true = first_all is_within t.told (told_end t.post t.outcome) (within_of w i) in
    let o = owes_of layout.config.buckets w i a.table a.known ((a.seats i).serves y) in
    let told = o.told in
    subst (λ (r : Past). Each (leaves_ok c) r) (sym (tells_both i t.told (told_end t.post t.outcome) p))
    (end_each c i q (w.seat i).call t.post t.outcome ((w.seat i).post.steps + 1) (began_along i t.told p within ∙ (a.seats i).began y) m
    (λ answer f e. subst (λ (n : ℕ). (if has_one_interval c.scheme then nat_le ((w.seat i).post.steps + 1) 2 else (w.seat i).post.steps + 1 == n + 1) ≡ true) (sym (clears_tells i t.told p within)) ((after_of layout made i g y e m).ends answer f))
    (open_each c i t.told p told.goes g.law))

item_keeps : (layout : Layout) → is_valid layout ≡ true → (path : List Item) (item : Item) (fit : Bool) → fits_item (world_of layout path) item ≡ fit → Keeps layout (made_of layout path) → Keeps layout (done_if (made_of layout path) item fit)
item_keeps layout d path item false e g = g
item_keeps layout d path (Begins i call) true e g =
    let w : World = world_of layout path in
    let y = begins_right i w.layout.config.seats (is_busy w i) (may_start w i call) e in
    let m = begins_within i w.layout.config.seats (is_busy w i) (may_start w i call) e in
    record {
      table = g.table;
      answers = answering.begin_keeps layout.config.buckets (made_of layout path) i call y m g.answers;
      ways = λ k. begin_way layout (made_of layout path) i k call (k == i) refl g;
      law = (refl, g.law);
    }
item_keeps layout d path (Steps i) true e g =
    let w : World = world_of layout path in
    let b = low_seat i w.layout.config.seats (is_busy w i) e in
    let y = later_of (nat_lt i w.layout.config.seats) (is_busy w i) e in
    let n = histories_count layout path d in
    let m : (turn_of w i).post.steps ≡ (w.seat i).post.steps + 1 = sym (ap (λ (post : Post). post.steps) (stepped_post w i)) ∙ n.one_more i y in
    record {
      table = g.table;
      answers = answering.step_keeps layout.config.buckets (made_of layout path) i b y g.answers;
      ways = λ k. step_way layout (made_of layout path) i k (k == i) refl g y m;
      law = step_law layout (made_of layout path) i g y m;
    }

first_keeps : (layout : Layout) → is_valid layout ≡ true → Keeps layout (first_made layout)
first_keeps layout d = record { table = refl; answers = answering.first_keeps layout d; ways = λ k b e. absurd (cc); law = tt }

pub leaves_end : LeavesEnd
leaves_end layout items d =
    let g = paths_keep layout (Keeps layout) (item_keeps layout d) (first_keeps layout d) items in
    entries_of_each (leaves_ok layout.config) (record_of layout items) (subst (λ (table : Layout). Each (leaves_ok table.config) (record_of layout items)) g.table g.law)
