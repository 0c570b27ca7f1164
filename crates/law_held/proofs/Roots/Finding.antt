-- A call that looks for a root has found it where it ends.
use Rattle.std.proofs.Common.{ℕ, ◌≡◌, Bool, true, false, List, [], ◌∷◌, Option, Some, refl, sym, ap, ◌∙◌, subst, inl, inr, arith}
use Rattle.std.proofs.lemmas.Bool.Decides.{nat_tests}
use Rattle.std.specs.List.{list_any}
use Rattle.std.specs.Prelude.{◌==◌, ◌||◌, not}
use Rattle.law_scans.specs.inv.model.words.Place.{is_valid}
use Rattle.law_scans.specs.inv.model.words.declared.layout.Layout.{Layout}
use Rattle.law_scans.specs.inv.model.defs.declared.call.Call.{Call}
use Rattle.law_scans.specs.inv.model.defs.declared.event.Event.{Event}
use Rattle.law_scans.specs.inv.model.defs.declared.event.Event.TheVariants as events
use Rattle.law_scans.specs.inv.model.declared.post.Post.{Post}
use Rattle.law_scans.specs.inv.model.Calls.{Phase, Idle, Runs, Scans, Works, CallTurn, CallOutcome, GoesOn, Answers}
use Rattle.law_scans.specs.inv.model.Desks.{Desk, noting}
use Rattle.law_scans.specs.inv.model.Locals.{Local, busy_in, settled_by, begun, begun_post, told_by, told_end, rounds_told, turn}
use Rattle.law_scans.specs.inv.model.Rounds.{scheme_of}
use Rattle.law_scans.specs.inv.model.words.Schemes.{publishes_rows}
use Rattle.law_scans.specs.inv.model.Posts.{counted}
use Rattle.law_scans.specs.inv.model.World.{World, begin, finds, is_busy, offered, step, told_in}
use Rattle.law_scans.proofs.inv.model.Facts.{first_of, rest_of, or_left_true, or_more}
use Rattle.law_scans.proofs.inv.ends.Ends.Tests.{Calm, step_any}
use Rattle.law_scans.specs.inv.shapes.Frame.{phase_left}
use Rattle.law_scans.specs.inv.shapes.Seats.{Seats}
use Rattle.law_scans.proofs.reuse.shapes.Frame.{seat_stays, seat_steps, begin_stays, begin_begins}
use Rattle.law_scans.specs.inv.history.History.{Item, Made, first_made, record_of, world_of}
use Rattle.law_scans.proofs.reuse.history.Along.{Steady, items_keep}
use Rattle.law_scans.specs.laws.records.Record.{Past, Each, tells_of}
use Rattle.law_scans.specs.laws.records.Record.Past.{Then}
use Rattle.law_scans.proofs.laws.Along.{along}
use Rattle.law_scans.proofs.reuse.history.AllOf.{all_of}
use Rattle.law_scans.proofs.inv.Machines.{is_within, within_of}
use Rattle.law_scans.specs.laws.StateAt.{began_of, has_root, rooted_by, rooted_of}
use Rattle.law_scans.proofs.reuse.AnswersTold.Answering as answering
use Rattle.law_scans.proofs.reuse.AnswersTold.Answering.{first_all, owes_of, began_along}
use Rattle.law_scans.proofs.reuse.AnswersTold.Owed.{is_open, Serves, Owes, owed}
use Rattle.law_scans.proofs.Placing.Sums.{along_both}
use Rattle.law_scans.proofs.laws.Tells.{seen_other, seen_tells, seen_stays, tells_both}
use Rattle.law_scans.proofs.inv.ends.Told.Turns.{is_later}
use Rattle.law_scans.specs.laws.HoldLaw.{finds_ok}
use Rattle.law_held.specs.Records.{RecordsFindRoots}
use Rattle.law_held.proofs.Roots.Early.{is_early, is_rooting, Fate, RunFits, phase_fate, first_early}
use Rattle.law_held.proofs.Roots.Ways.{record_each, answers_of}
use Rattle.law_scans.proofs.inv.ends.Handover.Asks.{run_of}

rooted_stays : (event : Event) (x : Bool) → is_within event ≡ true → x ≡ true → rooted_by event x ≡ true
rooted_stays (events.Begin call) x w h = absurd (cc)
rooted_stays (events.Held index slot count) x w h = or_more (index == 0) x h
rooted_stays (events.Null index count) x w h = or_more (index == 0) x h
rooted_stays event x w h = h

rooted_along : (told : List Event) (x : Bool) → all_of is_within told ≡ true → x ≡ true → along rooted_by told x ≡ true
rooted_along [] x w h = h
rooted_along (event ∷ told) x w h = rooted_along told (rooted_by event x) (rest_of (is_within event) (all_of is_within told) w) (rooted_stays event x (first_of (is_within event) (all_of is_within told) w) h)

rooting_one : (event : Event) (x : Bool) → is_rooting event ≡ true → rooted_by event x ≡ true
rooting_one (events.Held index slot count) x h = or_left_true (index == 0) x h
rooting_one (events.Null index count) x h = or_left_true (index == 0) x h
rooting_one event x h = absurd (cc)

rest_any : (a b : Bool) → a ≡ false → (a || b) ≡ true → b ≡ true
rest_any true b q k = absurd (cc)
rest_any false b q k = k

rooting_by : (event : Event) (told : List Event) (x one : Bool) → is_rooting event ≡ one → all_of is_within told ≡ true → list_any is_rooting (event ∷ told) ≡ true → (list_any is_rooting told ≡ true → along rooted_by told (rooted_by event x) ≡ true) → along rooted_by told (rooted_by event x) ≡ true
rooting_by event told x true e w h f = rooted_along told (rooted_by event x) w (rooting_one event x e)
rooting_by event told x false e w h f = f (rest_any (is_rooting event) (list_any is_rooting told) e h)

rooting_along : (told : List Event) (x : Bool) → all_of is_within told ≡ true → list_any is_rooting told ≡ true → along rooted_by told x ≡ true
rooting_along [] x w h = absurd (cc)
rooting_along (event ∷ told) x w h =
    let v : all_of is_within told ≡ true = rest_of (is_within event) (all_of is_within told) w in
    rooting_by event told x (is_rooting event) refl v h (λ k. rooting_along told (rooted_by event x) v k)

rooting_calm : Calm is_rooting
rooting_calm = record { reserve = λ g x. refl; hazard = λ g x. refl; saw = λ g x. refl; read = λ g x. refl; era = λ e. refl; give = λ a b. refl; unused = λ a. refl; retire = λ a b r. refl; back = λ a. refl }

rooting_later : (event : Event) → is_later event ≡ true → is_rooting event ≡ false
rooting_later (events.Held index slot count) h = absurd (cc)
rooting_later (events.Null index count) h = absurd (cc)
rooting_later event h = refl

-- a step of the seat
pub fits_by : (w : World) (i : ℕ) (phase : Phase) → Seats w → (w.seat i).phase ≡ phase → RunFits w.layout.config.buckets phase
fits_by w i Idle s e = tt
fits_by w i (Runs why base) s e = let r = run_of w i why base s e in (r.suited, r.shape)
fits_by w i (Scans later at) s e = tt
fits_by w i (Works work) s e = tt

fate_by : (told : List Event) (t : CallTurn) (shows x : Bool) → all_of is_within told ≡ true → list_any is_rooting told ≡ shows → is_early (phase_left t.outcome) ≡ false → Fate t shows → along rooted_by told x ≡ true
fate_by told t shows x w e l (inl h) = absurd (cc)
fate_by told t shows x w e l (inr h) = rooting_along told x w (e ∙ h)

step_rooted : (w : World) (i : ℕ) (x : Bool) → Seats w → Serves (w.seat i).call (w.seat i).phase → has_root (Some (w.seat i).call) ≡ true → (is_early (w.seat i).phase ≡ false → x ≡ true) → is_early (phase_left (turn (offered w i) (finds w i)).outcome) ≡ false → along rooted_by (told_in w i) x ≡ true
step_rooted w i x s k h f l = by (is_early (w.seat i).phase) refl
  where
    by : (early : Bool) → is_early (w.seat i).phase ≡ early → along rooted_by (told_in w i) x ≡ true
    by false e = rooted_along (told_in w i) x (within_of w i) (f e)
    by true e =
        fate_by (told_in w i) (turn (offered w i) (finds w i)) _ x (within_of w i) (step_any is_rooting w i rooting_calm rooting_later) l
        (phase_fate w.layout.config.buckets (w.seat i).call (w.seat i).phase (counted (w.seat i).post) (offered w i).desk (finds w i) e (fits_by w i (w.seat i).phase s refl) k h)

-- what is known of each seat
abbrev Found : Local → Bool → Type 0
Found l x = busy_in l.phase ≡ true → has_root (Some l.call) ≡ true → is_early l.phase ≡ false → x ≡ true

abbrev AllFound : World → Past → Type 0
AllFound w p = (k : ℕ) → Found (w.seat k) (rooted_of k p)

settled_found : (l : Local) (post : Post) (desk : Desk) (rounds : ℕ) (outcome : CallOutcome) (x : Bool) → (has_root (Some l.call) ≡ true → is_early (phase_left outcome) ≡ false → x ≡ true) → Found (settled_by l post desk rounds outcome) x
settled_found l post desk rounds (GoesOn phase) x f = λ b h e. f h e
settled_found l post desk rounds (Answers answer) x f = λ b. absurd (cc)

step_found : (w : World) (i k : ℕ) (p : Past) (same : Bool) → (k == i) ≡ same → Seats w → Serves (w.seat i).call (w.seat i).phase → is_busy w i ≡ true → AllFound w p → Found ((step w i).seat k) (rooted_of k (tells_of p i (told_in w i)))
step_found w i k p true e s v b f =
    let one : k ≡ i = grind (arith, nat_tests) in
    let t : CallTurn = turn (offered w i) (finds w i) in
    let here : Found (settled_by (offered w i) t.post (noting t.desk (told_by t)) (rounds_told (publishes_rows (scheme_of t.post)) (w.seat i).rounds (told_by t)) t.outcome) (rooted_of i (tells_of p i (told_in w i))) =
    settled_found (w.seat i) t.post (noting t.desk (told_by t)) (rounds_told (publishes_rows (scheme_of t.post)) (w.seat i).rounds (told_by t)) t.outcome (rooted_of i (tells_of p i (told_in w i)))
    (λ h l. seen_tells rooted_by false i (told_in w i) p ∙ step_rooted w i (rooted_of i p) s v h (f i b h) l) in
    subst (λ (m : ℕ). Found ((step w i).seat m) (rooted_of m (tells_of p i (told_in w i)))) (sym one)
    (subst (λ (l : Local). Found l (rooted_of i (tells_of p i (told_in w i)))) (sym (seat_steps w i)) here)
step_found w i k p false e s v b f =
    subst (λ (l : Local). Found l (rooted_of k (tells_of p i (told_in w i)))) (sym (seat_stays w i k e))
    (subst (λ (x : Bool). Found (w.seat k) x) (sym (seen_stays rooted_by false k i (told_in w i) p e)) (f k))

begun_found : (l : Local) (call : Call) (x : Bool) → Found (begun l call) x
begun_found l call x = λ b h e. let y : is_early (begun l call).phase ≡ true = first_early call (begun_post l.post) h in absurd (cc)

begin_found : (w : World) (i k : ℕ) (call : Call) (p : Past) (same : Bool) → (k == i) ≡ same → AllFound w p → Found ((begin w i call).seat k) (rooted_of k (Then p i (events.Begin call)))
begin_found w i k call p true e f =
    let one : k ≡ i = grind (arith, nat_tests) in
    subst (λ (m : ℕ). Found ((begin w i call).seat m) (rooted_of m (Then p i (events.Begin call)))) (sym one)
    (subst (λ (l : Local). Found l (rooted_of i (Then p i (events.Begin call)))) (sym (begin_begins w i call)) (begun_found (w.seat i) call (rooted_of i (Then p i (events.Begin call)))))
begin_found w i k call p false e f =
    subst (λ (l : Local). Found l (rooted_of k (Then p i (events.Begin call)))) (sym (begin_stays w i k call e))
    (subst (λ (x : Bool). Found (w.seat k) x) (sym (seen_other rooted_by false k i p (events.Begin call) e)) (f k))

-- what a history keeps
record FindsKept (layout : Layout) (made : Made) : Type 0 where
  answers : answering.Keeps layout.config.buckets made
  found : AllFound made.world made.past

steady : (layout : Layout) → Steady (FindsKept layout)
steady layout = record {
  begins = λ made i call b y m g. record {
    answers = answering.begin_keeps layout.config.buckets made i call y m g.answers;
    found = λ k. begin_found made.world i k call made.past (k == i) refl g.found;
  };
  steps = λ made i b y g. record {
    answers = answering.step_keeps layout.config.buckets made i b y g.answers;
    found = λ k. step_found made.world i k made.past (k == i) refl g.answers.known.known.seats ((g.answers.seats i).serves y) y g.found;
  };
}

found_of : (layout : Layout) (path : List Item) → is_valid layout ≡ true → AllFound (world_of layout path) (record_of layout path)
found_of layout path d =
    let g = items_keep (FindsKept layout) (steady layout) path (first_made layout) (record { answers = answering.first_keeps layout d; found = λ k b. absurd (cc) }) in
    g.found

-- the law along what a step tells
open_ok : (p : Past) (i : ℕ) (event : Event) → is_open event ≡ true → finds_ok p i event ≡ true
open_ok p i (events.End count answer) h = absurd (cc)
open_ok p i event h = refl

open_each : (i : ℕ) (told : List Event) (p : Past) → all_of is_open told ≡ true → Each finds_ok p → Each finds_ok (tells_of p i told)
open_each i [] p h g = g
open_each i (event ∷ told) p h g = open_each i told (Then p i event) (rest_of (is_open event) (all_of is_open told) h) (open_ok p i event (first_of (is_open event) (all_of is_open told) h), g)

end_by : (began : Option Call) (call : Call) (x root : Bool) → began ≡ Some call → has_root (Some call) ≡ root → (root ≡ true → x ≡ true) → (not (has_root began) || x) ≡ true
end_by began call x true e h f = or_more (not (has_root began)) x (f refl)
end_by began call x false e h f = let q : has_root began ≡ false = ap has_root e ∙ h in rw q refl

end_each : (i : ℕ) (call : Call) (post : Post) (outcome : CallOutcome) (q : Past) → began_of i q ≡ Some call → (has_root (Some call) ≡ true → is_early (phase_left outcome) ≡ false → along rooted_by (told_end post outcome) (rooted_of i q) ≡ true) → Each finds_ok q → Each finds_ok (tells_of q i (told_end post outcome))
end_each i call post (GoesOn phase) q b f g = g
end_each i call post (Answers answer) q b f g = (end_by (began_of i q) call (rooted_of i q) (has_root (Some call)) b refl (λ h. f h refl), g)

step_finds : (n : ℕ) (w : World) (i : ℕ) (p : Past) → answering.Keeps n (record { world = w; past = p }) → is_busy w i ≡ true → AllFound w p → Each finds_ok p → Each finds_ok (tells_of p i (told_in w i))
step_finds n w i p a y f g =
    let t : CallTurn = turn (offered w i) (finds w i) in
    let r = a.seats i in
    let o : Owes n (w.seat i).call (owed n (w.seat i).call (w.seat i).phase) t = owes_of n w i a.table a.known (r.serves y) in
    let q : Past = tells_of p i t.told in
    let within : all_of is_within t.told ≡ true = first_all is_within t.told (told_end t.post t.outcome) (within_of w i) in
    let sum : along rooted_by (told_end t.post t.outcome) (rooted_of i q) ≡ along rooted_by (told_in w i) (rooted_of i p) =
    ap (along rooted_by (told_end t.post t.outcome)) (seen_tells rooted_by false i t.told p) ∙ sym (along_both rooted_by t.told (told_end t.post t.outcome) (rooted_of i p)) in
    subst (λ (x : Past). Each finds_ok x) (sym (tells_both i t.told (told_end t.post t.outcome) p))
    (end_each i (w.seat i).call t.post t.outcome q (began_along i t.told p within ∙ r.began y)
    (λ h l. sum ∙ step_rooted w i (rooted_of i p) a.known.known.seats (r.serves y) h (f i y h) l)
    (open_each i t.told p o.told.goes g))

pub records_find_roots : RecordsFindRoots
records_find_roots layout items d =
    record_each layout finds_ok items
    (record { begins = λ p i call. refl; steps = λ path i t g. step_finds layout.config.buckets (world_of layout path) i (record_of layout path) (answers_of layout path d) t.busy (found_of layout path d) g })
