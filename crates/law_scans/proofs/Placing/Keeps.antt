-- The record of each history keeps the laws on the rows that calls are given, cut and retire.
use Rattle.std.proofs.Common.{ℕ, ◌≡◌, ◌<◌, ◌+◌, Bool, true, false, List, [], ◌∷◌, ◌++◌, length, None, Some, refl, sym, ap, ◌∙◌, subst, arith}
use Rattle.std.proofs.lemmas.Bool.Decides.{nat_tests}
use Rattle.std.specs.Prelude.{◌==◌, ◌&&◌, ◌||◌, not, if◌then◌else◌}
use Rattle.law_reuse.specs.inv.model.words.Place.{is_valid}
use Rattle.law_reuse.specs.inv.model.words.declared.layout.Layout.{Layout}
use Rattle.law_reuse.specs.inv.model.defs.declared.call.Answer.{Answer}
use Rattle.law_reuse.specs.inv.model.defs.declared.call.Call.{Call}
use Rattle.law_reuse.specs.inv.model.defs.declared.event.Event.{Event}
use Rattle.law_reuse.specs.inv.model.defs.declared.event.Event.TheVariants as events
use Rattle.law_reuse.specs.inv.model.declared.post.Post.{Post}
use Rattle.law_reuse.specs.inv.model.Calls.{CallTurn, CallOutcome, GoesOn, Answers}
use Rattle.law_reuse.specs.inv.model.Locals.{Local, busy_in, told_end, turn}
use Rattle.law_reuse.specs.inv.model.World.{World, begin, finds, is_busy, offered, step, told_in, may_start}
use Rattle.law_reuse.proofs.inv.model.Facts.{same_number, first_of, rest_of}
use Rattle.law_reuse.proofs.inv.covers.Held.{stepped_phase}
use Rattle.law_reuse.specs.inv.shapes.Frame.{phase_left}
use Rattle.law_reuse.proofs.shapes.Frame.{seat_stays, begin_stays}
use Rattle.law_reuse.specs.inv.requests.Views.{View as Asked}
use Rattle.law_reuse.proofs.inv.requests.Kept.{requests_begin, requests_start}
use Rattle.law_reuse.specs.inv.rows.Agree.{Agree, first_rows, rows_after}
use Rattle.law_reuse.specs.inv.rows.Chain.{first_line, line_after}
use Rattle.law_reuse.specs.inv.rows.Hands.{hand_in}
use Rattle.law_reuse.specs.inv.rows.Queue.{Line}
use Rattle.law_reuse.specs.inv.rows.Rows.{Hand, RowMove, View}
use Rattle.law_reuse.specs.inv.rows.Rows.Hand.{Empty}
use Rattle.law_reuse.specs.inv.rows.Rows.RowMove.{Claims, Lists}
use Rattle.law_reuse.specs.inv.history.Record.{Past, Each, tells_of}
use Rattle.law_reuse.specs.inv.history.Record.Past.{Then}
use Rattle.law_reuse.proofs.inv.history.Entries.{entries_of_each}
use Rattle.law_reuse.specs.inv.history.History.{Item, Begins, Steps, Made, done, made_of, first_made, record_of}
use Rattle.law_reuse.proofs.inv.history.Along.{Steady, items_keep}
use Rattle.law_reuse.specs.inv.Known.{Known}
use Rattle.law_reuse.proofs.inv.Inv.Begun.{known_start, known_begin}
use Rattle.law_reuse.proofs.inv.Inv.Kept.{known_kept, asked_next}
use Rattle.law_reuse.specs.inv.ends.Told.{move_of}
use Rattle.law_reuse.proofs.laws.Along.{along}
use Rattle.law_reuse.proofs.inv.history.AllOf.{all_of}
use Rattle.law_reuse.specs.laws.StateAt.{began_of, told_of, Given, Without, given_of, given_by, cuts_of, cuts_by, is_empty, retires_of, retires_by, changed_of, changed_by, seen}
use Rattle.law_reuse.specs.laws.AnswerLaw.{retires_for}
use Rattle.law_reuse.specs.laws.HistoryAnswers.{answers_ok, counts_right, retires_ok, is_change, refuses_right, refusing_ok}
use Rattle.law_reuse.proofs.AnswersTold.Answering as answering
use Rattle.law_reuse.proofs.AnswersTold.Answering.{owes_of}
use Rattle.law_reuse.proofs.AnswersTold.Owed.{is_open, owed, Owes}
use Rattle.law_reuse.specs.laws.HistoryRows.{cuts_one, has_none, places_right, placing_ok, single_ok}
use Rattle.law_reuse.specs.laws.Once.{retires_right, retiring_ok}
use Rattle.law_scans.specs.Places.{RecordsPlaceRows, RecordsRetireCuts, RecordsCountRetires, RecordsRefuse, RecordsRetireOne}
use Rattle.law_scans.proofs.Placing.Comes.{given_end, changed_end, loud_end, cuts_end, retires_end, said_end, ComesTo, Stepping, agree_of, shape_in, fits_in, comes_own, comes_other}
use Rattle.law_scans.proofs.Placing.Marks.{is_marked, marks, tells, marks_told}
use Rattle.law_scans.proofs.Placing.Moved.{in_hand_of, new_of, old_of, is_placed, loud_by, said_by, Agrees, places_moved, retires_moved}
use Rattle.law_scans.proofs.Placing.Shapes.{Claiming, HandFits, Shape}
use Rattle.law_scans.proofs.Placing.Single.{Single, no_single, single_by, single_right, single_seen, single_each, single_kind, single_moved, OnlyFirst, phase_first}
use Rattle.law_scans.proofs.Placing.Sums.{given_kind, cuts_kind, along_both, said_told, loud_told, answer_said, answer_loud}
use Rattle.law_reuse.proofs.laws.Tells.{AllRight, each_tells, right_kind, seen_tells, tells_both}
use Rattle.law_reuse.proofs.inv.rows.Kept.{idle_hand}

-- a call that begins has come to nothing yet
begun_none : (busy : Bool) → Agrees Empty busy Without false false [] 0 0
begun_none busy = record { holds = refl; placed = λ b q. absurd (cc); heard = λ q. absurd (cc); cut = refl; counts = refl }

begin_own : (i : ℕ) (busy : Bool) (h : Hand) (call : Call) (p : Past) → h ≡ Empty → ComesTo h busy i (Then p i (events.Begin call))
begin_own i busy h call p e = at_seat (i == i) (same_number i)
  where
    at_seat : (same : Bool) → same ≡ true → Agrees h busy (if same then Without else given_of i p) (if same then false else changed_of i p) (if same then false else seen loud_by false i p) (if same then [] else cuts_of i p) (if same then 0 else retires_of i p) (if same then 0 else seen said_by 0 i p)
    at_seat true s = subst (λ (x : Hand). Agrees x busy Without false false [] 0 0) (sym e) (begun_none busy)
    at_seat false s = absurd (cc)

begin_other : (k i : ℕ) (busy : Bool) (h : Hand) (call : Call) (p : Past) → (k == i) ≡ false → ComesTo h busy k p → ComesTo h busy k (Then p i (events.Begin call))
begin_other k i busy h call p e c = rw e c

-- the end of a call
pub right_both : {X : Type 0} (next : Event → X → X) (right : Event → X → Bool) (xs ys : List Event) (x : X) → AllRight next right xs x → AllRight next right ys (along next xs x) → AllRight next right (xs ++ ys) x
right_both next right [] ys x h k = k
right_both next right (event ∷ xs) ys x h k = (h.0, right_both next right xs ys (next event x) h.1 k)

open_right : {X : Type 0} (next : Event → X → X) (right : Event → X → Bool) → ((event : Event) (x : X) → is_open event ≡ true → right event x ≡ true) → (told : List Event) (x : X) → all_of is_open told ≡ true → AllRight next right told x
open_right next right q [] x h = tt
open_right next right q (event ∷ told) x h = (q event x (first_of (is_open event) (all_of is_open told) h), open_right next right q told (next event x) (rest_of (is_open event) (all_of is_open told) h))

-- a step keeps a law, if what it tells is right and so is the end
step_each : {X : Type 0} (next : Event → X → X) (first : X) (right : Event → X → Bool) (w : World) (i : ℕ) (p : Past) → AllRight next right (tells w i) (seen next first i p)
    → ((answer : Answer) → (turn (offered w i) (finds w i)).outcome ≡ Answers answer → right (events.End (turn (offered w i) (finds w i)).post.steps answer) (seen next first i (tells_of p i (tells w i))) ≡ true)
    → Each (λ q k event. right event (seen next first k q)) p → Each (λ q k event. right event (seen next first k q)) (tells_of p i (told_in w i))
step_each next first right w i p h e g =
    let t : CallTurn = turn (offered w i) (finds w i) in
    each_tells next first right i (told_in w i) p (right_both next right t.told (told_end t.post t.outcome) (seen next first i p) h (end_right t.outcome refl)) g
  where
    end_right : (outcome : CallOutcome) → (turn (offered w i) (finds w i)).outcome ≡ outcome → AllRight next right (told_end (turn (offered w i) (finds w i)).post outcome) (along next (tells w i) (seen next first i p))
    end_right (GoesOn phase) o = tt
    end_right (Answers answer) o = (ap (right (events.End (turn (offered w i) (finds w i)).post.steps answer)) (sym (seen_tells next first i (tells w i) p)) ∙ e answer o, tt)

-- the end of a call leaves what it has come to
end_leaves : {X : Type 0} (next : Event → X → X) (first : X) (w : World) (i : ℕ) (p : Past) → ((post : Post) (outcome : CallOutcome) (x : X) → along next (told_end post outcome) x ≡ x) → seen next first i (tells_of p i (tells w i)) ≡ seen next first i (tells_of p i (told_in w i))
end_leaves next first w i p e =
    let t : CallTurn = turn (offered w i) (finds w i) in
    sym (seen_tells next first i (told_in w i) p ∙ along_both next t.told (told_end t.post t.outcome) (seen next first i p) ∙ e t.post t.outcome (along next t.told (seen next first i p)) ∙ sym (seen_tells next first i (tells w i) p))

none_held : (given : Given) → in_hand_of given ≡ None → has_none given ≡ true
none_held Without e = refl
none_held (Given.InHand slot) e = absurd (cc)
none_held Given.Placed e = refl

-- where a step ends the call, the seat has nothing in hand
ended_hand : (w : World) (i : ℕ) (v : View) (answer : Answer) → Agree (step w i) (rows_after w i v) → (turn (offered w i) (finds w i)).outcome ≡ Answers answer → (rows_after w i v).hand i ≡ Empty
ended_hand w i v answer a o = (a.plays i).hand ∙ ap hand_in (stepped_phase w i ∙ ap phase_left o)

-- and its answer is right
ended_right : (n : ℕ) (w : World) (i : ℕ) (p : Past) (answer : Answer) → (turn (offered w i) (finds w i)).outcome ≡ Answers answer → Each (answers_ok n) (tells_of p i (told_in w i)) → answers_ok n (tells_of p i (tells w i)) i (events.End (turn (offered w i) (finds w i)).post.steps answer) ≡ true
ended_right n w i p answer o g =
    let t : CallTurn = turn (offered w i) (finds w i) in
    let e : tells_of p i (told_in w i) ≡ Then (tells_of p i (tells w i)) i (events.End t.post.steps answer) =
    ap (λ (x : CallOutcome). tells_of p i (t.told ++ told_end t.post x)) o ∙ tells_both i t.told (events.End t.post.steps answer ∷ []) p in
    let there = subst (λ (r : Past). Each (answers_ok n) r) e g in
    there.0

-- what a history keeps
record Keeps (layout : Layout) (made : Made) : Type 0 where
  pub answers : answering.Keeps layout.config.buckets made
  pub rows : View
  pub line : Line
  pub asked : Asked
  pub known : Known made.world rows line asked
  pub comes : (k : ℕ) → ComesTo (rows.hand k) (is_busy made.world k) k made.past
  pub placing : Each placing_ok made.past
  pub retiring : Each retiring_ok made.past
  pub counts : Each retires_ok made.past
  pub refusing : Each refusing_ok made.past
  pub single : Each (λ q k event. single_right event (seen single_by no_single k q)) made.past

-- a seat that claims a row has placed none before
not_placed : (busy : Bool) (given : Given) (changed loud : Bool) → (busy ≡ true → is_placed given ≡ true → changed ≡ true) → (changed ≡ true → loud ≡ true) → busy ≡ true → loud ≡ false → is_placed given ≡ false
not_placed busy given changed loud a b y h = by (is_placed given) refl
  where
    by : (x : Bool) → is_placed given ≡ x → x ≡ false
    by true e = let q = b (a y e) in absurd (cc)
    by false e = refl

claims_first : (n : ℕ) (w : World) (i : ℕ) (v : View) (p : Past) → Agree w v → told_of i p ≡ owed n (w.seat i).call (w.seat i).phase → ComesTo (v.hand i) true i p → (slot : ℕ) → move_of w i ≡ Claims slot → is_placed (given_of i p) ≡ false
claims_first n w i v p a r c slot e =
    let h : Claiming (w.seat i).phase slot (marks (w.seat i).phase (w.seat i).post (finds w i)) =
    subst (λ (m : RowMove). Shape (w.seat i).phase (w.seat i).post (finds w i) m (marks (w.seat i).phase (w.seat i).post (finds w i))) e (shape_in w i v a) in
    let t : seen loud_by false i p ≡ false = loud_told i p ∙ ap (λ (told : List Event). along loud_by told false) (r ∙ h.owes n (w.seat i).call) in
    not_placed true (given_of i p) (changed_of i p) (seen loud_by false i p) c.placed c.heard refl t

-- what a step needs of its seat, and what it leaves
record Ready (layout : Layout) (made : Made) (i : ℕ) (k : Keeps layout made) : Type 0 where
  stepping : Stepping made.world i k.rows k.line k.asked
  busy : is_busy made.world i ≡ true
  next : Agree (step made.world i) (rows_after made.world i k.rows)
  answers : answering.Keeps layout.config.buckets (done made (Steps i))

ready_comes : (layout : Layout) (made : Made) (i : ℕ) (k : Keeps layout made) → Ready layout made i k → ComesTo (k.rows.hand i) true i made.past
ready_comes layout made i k r = subst (λ (b : Bool). ComesTo (k.rows.hand i) b i made.past) r.busy (k.comes i)

ready_after : (layout : Layout) (made : Made) (i : ℕ) (k : Keeps layout made) → Ready layout made i k → ComesTo ((rows_after made.world i k.rows).hand i) (is_busy (step made.world i) i) i (tells_of made.past i (told_in made.world i))
ready_after layout made i k r = comes_own made.world i k.rows k.line k.asked made.past r.stepping (ready_comes layout made i k r)

step_placing : (layout : Layout) (made : Made) (i : ℕ) (k : Keeps layout made) → Ready layout made i k → Each placing_ok (tells_of made.past i (told_in made.world i))
step_placing layout made i k r =
    let w : World = made.world in
    let p : Past = made.past in
    let a = agree_of w k.rows k.line k.asked k.known in
    let c = ready_comes layout made i k r in
    let x = ready_after layout made i k r in
    step_each given_by Without places_right w i p
    (right_kind given_by places_right is_marked (tells w i) (given_of i p) given_kind
    (subst (λ (es : List Event). AllRight given_by places_right es (given_of i p)) (sym (marks_told w i))
    (places_moved (w.seat i).phase (w.seat i).post (finds w i) (move_of w i) (marks (w.seat i).phase (w.seat i).post (finds w i)) (k.rows.hand i) (given_of i p) (shape_in w i k.rows a) (fits_in w i k.rows a) c.holds
    (claims_first layout.config.buckets w i k.rows p a ((k.answers.seats i).told r.busy) c))))
    (λ answer o. none_held (given_of i (tells_of p i (tells w i))) (ap in_hand_of (end_leaves given_by Without w i p given_end) ∙ x.holds ∙ ap new_of (ended_hand w i k.rows answer r.next o)))
    k.placing

step_retiring : (layout : Layout) (made : Made) (i : ℕ) (k : Keeps layout made) → Ready layout made i k → Each retiring_ok (tells_of made.past i (told_in made.world i))
step_retiring layout made i k r =
    let w : World = made.world in
    let p : Past = made.past in
    let a = agree_of w k.rows k.line k.asked k.known in
    let c = ready_comes layout made i k r in
    let x = ready_after layout made i k r in
    step_each cuts_by [] retires_right w i p
    (right_kind cuts_by retires_right is_marked (tells w i) (cuts_of i p) cuts_kind
    (subst (λ (es : List Event). AllRight cuts_by retires_right es (cuts_of i p)) (sym (marks_told w i))
    (retires_moved (w.seat i).phase (w.seat i).post (finds w i) (move_of w i) (marks (w.seat i).phase (w.seat i).post (finds w i)) (k.rows.hand i) (cuts_of i p) (shape_in w i k.rows a) (fits_in w i k.rows a) c.cut)))
    (λ answer o. ap is_empty (end_leaves cuts_by [] w i p cuts_end ∙ x.cut ∙ ap old_of (ended_hand w i k.rows answer r.next o)))
    k.retiring

counts_open : (event : Event) (x : ℕ) → is_open event ≡ true → counts_right event x ≡ true
counts_open (events.End steps answer) x h = absurd (cc)
counts_open event x h = refl

refuses_open : (event : Event) (x : Bool) → is_open event ≡ true → refuses_right event x ≡ true
refuses_open (events.End steps answer) x h = absurd (cc)
refuses_open event x h = refl

told_open : (layout : Layout) (made : Made) (i : ℕ) (k : Keeps layout made) → Ready layout made i k → all_of is_open (tells made.world i) ≡ true
told_open layout made i k r =
    let w : World = made.world in
    let o : Owes layout.config.buckets (w.seat i).call (owed layout.config.buckets (w.seat i).call (w.seat i).phase) (turn (offered w i) (finds w i)) =
    owes_of layout.config.buckets w i k.answers.table k.answers.known ((k.answers.seats i).serves r.busy) in
    o.told.goes

same_count : (retires said most : ℕ) → retires + 0 ≡ said → said ≡ most → (retires == most) ≡ true
same_count retires said most h e = let q : retires ≡ most = omega (h, e, arith) in grind (arith, nat_tests)

step_counts : (layout : Layout) (made : Made) (i : ℕ) (k : Keeps layout made) → Ready layout made i k → Each retires_ok (tells_of made.past i (told_in made.world i))
step_counts layout made i k r =
    let w : World = made.world in
    let p : Past = made.past in
    let n : ℕ = layout.config.buckets in
    let x = ready_after layout made i k r in
    step_each retires_by 0 counts_right w i p (open_right retires_by counts_right counts_open (tells w i) (retires_of i p) (told_open layout made i k r))
    (λ answer o.
    let q : Past = tells_of p i (tells w i) in
    let e : (rows_after w i k.rows).hand i ≡ Empty = ended_hand w i k.rows answer r.next o in
    let sum : retires_of i q + 0 ≡ seen said_by 0 i q =
    ap (λ (m : ℕ). m + 0) (end_leaves retires_by 0 w i p retires_end) ∙ ap (λ (h : Hand). retires_of i (tells_of p i (told_in w i)) + length (old_of h)) (sym e) ∙ x.counts ∙ sym (end_leaves said_by 0 w i p said_end) in
    same_count (retires_of i q) (seen said_by 0 i q) (retires_for answer) sum (said_told i q ∙ answer_said n (began_of i q) (told_of i q) answer (ended_right n w i p answer o r.answers.law)))
    k.counts

refused_by : (changed loud change : Bool) → (changed ≡ true → loud ≡ true) → loud ≡ change → (not changed || change) ≡ true
refused_by true loud change h e = sym e ∙ h refl
refused_by false loud change h e = refl

step_refusing : (layout : Layout) (made : Made) (i : ℕ) (k : Keeps layout made) → Ready layout made i k → Each refusing_ok (tells_of made.past i (told_in made.world i))
step_refusing layout made i k r =
    let w : World = made.world in
    let p : Past = made.past in
    let n : ℕ = layout.config.buckets in
    let x = ready_after layout made i k r in
    step_each changed_by false refuses_right w i p (open_right changed_by refuses_right refuses_open (tells w i) (changed_of i p) (told_open layout made i k r))
    (λ answer o.
    let q : Past = tells_of p i (tells w i) in
    let loud : changed_of i q ≡ true → seen loud_by false i q ≡ true = λ c. end_leaves loud_by false w i p loud_end ∙ x.heard (sym (end_leaves changed_by false w i p changed_end) ∙ c) in
    refused_by (changed_of i q) (seen loud_by false i q) (is_change answer) loud (loud_told i q ∙ answer_loud n (began_of i q) (told_of i q) answer (ended_right n w i p answer o r.answers.law)))
    k.refusing

-- a row that is retired is the first that the call retires
retires_first : (layout : Layout) (made : Made) (i : ℕ) (k : Keeps layout made) → Ready layout made i k → (m : RowMove) → HandFits m (k.rows.hand i) → OnlyFirst m (seen single_by no_single i made.past)
retires_first layout made i k r (Lists slot birth retire) f =
    let w : World = made.world in
    let p : Past = made.past in
    let n : ℕ = layout.config.buckets in
    let c = ready_comes layout made i k r in
    let one : retires_of i p + 1 ≡ seen said_by 0 i p = ap (λ (h : Hand). retires_of i p + length (old_of h)) (sym f) ∙ c.counts in
    let told : retires_of i p + 1 ≡ along said_by (owed n (w.seat i).call (w.seat i).phase) 0 =
    one ∙ said_told i p ∙ ap (λ (es : List Event). along said_by es 0) ((k.answers.seats i).told r.busy) in
    let first = phase_first n (w.seat i).call (w.seat i).phase (retires_of i p) told in
    let began : began_of i p ≡ Some (w.seat i).call = (k.answers.seats i).began r.busy in
    subst (λ (x : Single). (cuts_one x.call && x.retires == 0) ≡ true) (sym (single_seen i p)) (rw (began, first.0, first.1) refl)
retires_first layout made i k r m f = tt

step_single : (layout : Layout) (made : Made) (i : ℕ) (k : Keeps layout made) → Ready layout made i k → Each (λ q j event. single_right event (seen single_by no_single j q)) (tells_of made.past i (told_in made.world i))
step_single layout made i k r =
    let w : World = made.world in
    let p : Past = made.past in
    let a = agree_of w k.rows k.line k.asked k.known in
    step_each single_by no_single single_right w i p
    (right_kind single_by single_right is_marked (tells w i) (seen single_by no_single i p) single_kind
    (subst (λ (es : List Event). AllRight single_by single_right es (seen single_by no_single i p)) (sym (marks_told w i))
    (single_moved (w.seat i).phase (w.seat i).post (finds w i) (move_of w i) (marks (w.seat i).phase (w.seat i).post (finds w i)) (seen single_by no_single i p) (shape_in w i k.rows a)
    (retires_first layout made i k r (move_of w i) (fits_in w i k.rows a)))))
    (λ answer o. refl)
    k.single

-- each seat
step_comes : (layout : Layout) (made : Made) (i : ℕ) (k : Keeps layout made) → Ready layout made i k → (m : ℕ) (same : Bool) → (m == i) ≡ same → ComesTo ((rows_after made.world i k.rows).hand m) (is_busy (step made.world i) m) m (tells_of made.past i (told_in made.world i))
step_comes layout made i k r m true e =
    let q : i ≡ m = grind (arith, nat_tests) in
    subst (λ (j : ℕ). ComesTo ((rows_after made.world i k.rows).hand j) (is_busy (step made.world i) j) j (tells_of made.past i (told_in made.world i))) q (ready_after layout made i k r)
step_comes layout made i k r m false e =
    subst (λ (b : Bool). ComesTo ((rows_after made.world i k.rows).hand m) b m (tells_of made.past i (told_in made.world i))) (sym (ap (λ (l : Local). busy_in l.phase) (seat_stays made.world i m e)))
    (comes_other made.world i m k.rows (is_busy made.world m) made.past e (k.comes m))

step_keeps : (layout : Layout) (made : Made) (i : ℕ) → i < made.world.layout.config.seats → is_busy made.world i ≡ true → Keeps layout made → Keeps layout (done made (Steps i))
step_keeps layout made i b y g =
    let w : World = made.world in
    let q = asked_next w i g.rows g.line g.asked b g.known in
    let known = known_kept w i g.rows g.line g.asked q.0 b g.known q.1.facts q.1.deal in
    let answers = answering.step_keeps layout.config.buckets made i b y g.answers in
    let r : Ready layout made i g = record { stepping = record { seat = b; known = g.known }; busy = y; next = known.whole.both.rows; answers = answers } in
    record {
      answers = answers;
      rows = rows_after w i g.rows;
      line = line_after w i g.line;
      asked = q.0;
      known = known;
      comes = λ m. step_comes layout made i g r m (m == i) refl;
      placing = step_placing layout made i g r;
      retiring = step_retiring layout made i g r;
      counts = step_counts layout made i g r;
      refusing = step_refusing layout made i g r;
      single = step_single layout made i g r;
    }

begin_comes : (w : World) (i k : ℕ) (v : View) (call : Call) (p : Past) (same : Bool) → (k == i) ≡ same → v.hand i ≡ Empty → ComesTo (v.hand k) (is_busy w k) k p → ComesTo (v.hand k) (is_busy (begin w i call) k) k (Then p i (events.Begin call))
begin_comes w i k v call p true e h c =
    let q : i ≡ k = grind (arith, nat_tests) in
    subst (λ (j : ℕ). ComesTo (v.hand j) (is_busy (begin w i call) j) j (Then p i (events.Begin call))) q (begin_own i (is_busy (begin w i call) i) (v.hand i) call p h)
begin_comes w i k v call p false e h c =
    subst (λ (b : Bool). ComesTo (v.hand k) b k (Then p i (events.Begin call))) (sym (ap (λ (l : Local). busy_in l.phase) (begin_stays w i k call e))) (begin_other k i (is_busy w k) (v.hand k) call p e c)

begin_keeps : (layout : Layout) (made : Made) (i : ℕ) (call : Call) → is_busy made.world i ≡ false → may_start made.world i call ≡ true → Keeps layout made → Keeps layout (done made (Begins i call))
begin_keeps layout made i call f n g =
    let w : World = made.world in
    let k = g.known in
    let q = requests_begin w i call g.asked k.valid f k.seats k.requests in
    let a = agree_of w g.rows g.line g.asked k in
    let h : g.rows.hand i ≡ Empty = (a.plays i).hand ∙ idle_hand (w.seat i).phase f in
    record {
      answers = answering.begin_keeps layout.config.buckets made i call f n g.answers;
      rows = g.rows;
      line = g.line;
      asked = q.0;
      known = known_begin w i call g.rows g.line g.asked q.0 f n k q.1.facts q.1.deal;
      comes = λ m. begin_comes w i m g.rows call made.past (m == i) refl h (g.comes m);
      placing = (refl, g.placing);
      retiring = (refl, g.retiring);
      counts = (refl, g.counts);
      refusing = (refl, g.refusing);
      single = (refl, g.single);
    }

steady : (layout : Layout) → Steady (Keeps layout)
steady layout = record { begins = λ made i call b y m g. begin_keeps layout made i call y m g; steps = λ made i b y g. step_keeps layout made i b y g }

first_keeps : (layout : Layout) → is_valid layout ≡ true → Keeps layout (first_made layout)
first_keeps layout d =
    let q = requests_start layout d in
    record {
      answers = answering.first_keeps layout d;
      rows = first_rows layout;
      line = first_line layout;
      asked = q.0;
      known = known_start layout q.0 d q.1.facts q.1.deal;
      comes = λ k. begun_none false;
      placing = tt;
      retiring = tt;
      counts = tt;
      refusing = tt;
      single = tt;
    }

history_keeps : (layout : Layout) (items : List Item) → is_valid layout ≡ true → Keeps layout (made_of layout items)
history_keeps layout items d = items_keep (Keeps layout) (steady layout) items (first_made layout) (first_keeps layout d)

pub records_place_rows : RecordsPlaceRows
records_place_rows layout items d = let g = history_keeps layout items d in entries_of_each placing_ok (record_of layout items) g.placing

pub records_retire_cuts : RecordsRetireCuts
records_retire_cuts layout items d = let g = history_keeps layout items d in entries_of_each retiring_ok (record_of layout items) g.retiring

pub records_count_retires : RecordsCountRetires
records_count_retires layout items d = let g = history_keeps layout items d in entries_of_each retires_ok (record_of layout items) g.counts

pub records_refuse : RecordsRefuse
records_refuse layout items d = let g = history_keeps layout items d in entries_of_each refusing_ok (record_of layout items) g.refusing

pub records_retire_one : RecordsRetireOne
records_retire_one layout items d = let g = history_keeps layout items d in entries_of_each single_ok (record_of layout items) (single_each (record_of layout items) g.single)
