-- The log of each seat, its notes and its call are those of the record.
use Rattle.std.proofs.Common.{ℕ, ◌≡◌, Bool, true, false, List, [], ◌∷◌, ◌++◌, Option, Some, refl, sym, ap, ◌∙◌, subst, arith}
use Rattle.law_scans.specs.laws.words.Schemes.{publishes_rows}
use Rattle.law_scans.specs.inv.model.Rounds.{scheme_of}
use Rattle.std.proofs.lemmas.Bool.Decides.{nat_tests}
use Rattle.std.specs.Prelude.{◌==◌, if◌then◌else◌}
use Rattle.law_scans.proofs.laws.records.defs.Facts.{first_of, rest_of}
use Rattle.law_scans.specs.inv.model.Calls.{Phase, Idle, Runs, Scans, Works, CallTurn, CallOutcome, GoesOn, Answers}
use Rattle.law_scans.specs.inv.model.Desks.{Desk, Notes, noted, noted_all, noting}
use Rattle.law_scans.specs.inv.model.Locals.{Local, begun, begun_post, busy_in, rounds_told, settled_by, told_by, told_end, turn}
use Rattle.law_scans.specs.inv.model.Steps.{first_phase}
use Rattle.law_scans.specs.inv.model.World.{World, begin, finds, is_busy, offered, step, told_in}
use Rattle.law_scans.specs.inv.model.declared.post.Post.{Post}
use Rattle.law_scans.specs.laws.defs.declared.call.Call.{Call}
use Rattle.law_scans.specs.laws.defs.declared.event.Event.{Event}
use Rattle.law_scans.specs.laws.defs.declared.event.Event.TheVariants as events
use Rattle.law_scans.specs.laws.words.Place.{is_valid}
use Rattle.law_scans.specs.laws.words.declared.layout.Layout.{Layout}
use Rattle.law_scans.proofs.laws.Along.{along}
use Rattle.law_scans.proofs.laws.Tells.{seen_own, seen_stays, seen_tells}
use Rattle.law_scans.specs.laws.StateAt.{began_by, began_of, is_open, opened_by, seen}
use Rattle.law_scans.specs.inv.history.History.{Made, first_made, made_of}
use Rattle.law_scans.specs.laws.records.Record.{Past, tells_of}
use Rattle.law_scans.specs.laws.records.Record.Past.{Start, Then}
use Rattle.law_scans.proofs.inv.Machines.{is_within, within_of}
use Rattle.law_scans.proofs.reuse.history.AllOf.{all_of}
use Rattle.law_scans.proofs.reuse.history.Along.{Steady, items_keep}
use Rattle.law_scans.proofs.reuse.shapes.Frame.{seat_stays, seat_steps, begin_stays, begin_begins}
use Rattle.law_scans.proofs.reuse.AnswersTold.Answering as answering
use Rattle.law_scans.proofs.reuse.AnswersTold.Answering.{first_all, owes_of}
use Rattle.law_scans.proofs.reuse.AnswersTold.Owed as owed
use Rattle.law_scans.proofs.reuse.AnswersTold.Owed.{OutServes, Owes, Serves}
use Rattle.law_scans.proofs.reuse.AnswersTold.Owing.{first_serves}
use Rattle.law_all.specs.Logs.Ledgers.{Ledger, ledger_by, ledger_of, no_ledger}
use Rattle.law_all.specs.Logs.Records.{RecordsKeepLogs}
use Rattle.law_all.proofs.Logs.Notes.{turns_leave_notes}

-- the same folds, by recursions of their own
pub open_seen : (k : ℕ) (p : Past) → is_open k p ≡ seen opened_by false k p
open_seen k Start = refl
open_seen k (Then p i event) = ap (λ (x : Bool). if k == i then opened_by event x else x) (open_seen k p)

call_by : (same : Bool) (event : Event) (x : Ledger) → (if same then ledger_by event x else x).call ≡ (if same then began_by event x.call else x.call)
call_by true (events.Begin call) x = refl
call_by true (events.End steps answer) x = refl
call_by true event x = refl
call_by false event x = refl

pub ledger_began : (k : ℕ) (p : Past) → (ledger_of k p).call ≡ began_of k p
ledger_began k Start = refl
ledger_began k (Then p i event) = call_by (k == i) event (ledger_of k p) ∙ ap (λ (x : Option Call). if k == i then began_by event x else x) (ledger_began k p)

-- what a call tells within adds to the notes alone
along_both : {X : Type 0} (f : Event → X → X) (xs ys : List Event) (x : X) → along f (xs ++ ys) x ≡ along f ys (along f xs x)
along_both f [] ys x = refl
along_both f (e ∷ xs) ys x = along_both f xs ys (f e x)

noted_both : (xs ys : List Event) (notes : Notes) → noted_all notes (xs ++ ys) ≡ noted_all (noted_all notes xs) ys
noted_both [] ys notes = refl
noted_both (e ∷ xs) ys notes = noted_both xs ys (noted notes e)

within_one : (event : Event) (x : Ledger) → is_within event ≡ true → owed.is_open event ≡ true → ledger_by event x ≡ record { call = x.call; notes = noted x.notes event; log = x.log }
within_one (events.Begin call) x w o = absurd (cc)
within_one (events.End steps answer) x w o = absurd (cc)
within_one event x w o = refl

within_all : (told : List Event) (x : Ledger) → all_of is_within told ≡ true → all_of owed.is_open told ≡ true → along ledger_by told x ≡ record { call = x.call; notes = noted_all x.notes told; log = x.log }
within_all [] x w o = refl
within_all (event ∷ told) x w o =
    ap (along ledger_by told) (within_one event x (first_of (is_within event) (all_of is_within told) w) (first_of (owed.is_open event) (all_of owed.is_open told) o))
    ∙ within_all told (record { call = x.call; notes = noted x.notes event; log = x.log }) (rest_of (is_within event) (all_of is_within told) w) (rest_of (owed.is_open event) (all_of owed.is_open told) o)

opened_one : (event : Event) (x : Bool) → is_within event ≡ true → owed.is_open event ≡ true → opened_by event x ≡ x
opened_one (events.Begin call) x w o = absurd (cc)
opened_one (events.End steps answer) x w o = absurd (cc)
opened_one event x w o = refl

opened_all : (told : List Event) (x : Bool) → all_of is_within told ≡ true → all_of owed.is_open told ≡ true → along opened_by told x ≡ x
opened_all [] x w o = refl
opened_all (event ∷ told) x w o =
    ap (along opened_by told) (opened_one event x (first_of (is_within event) (all_of is_within told) w) (first_of (owed.is_open event) (all_of owed.is_open told) o))
    ∙ opened_all told x (rest_of (is_within event) (all_of is_within told) w) (rest_of (owed.is_open event) (all_of owed.is_open told) o)

-- a seat's local state has what its entries come to
record Matches (l : Local) (x : Ledger) (opened : Bool) : Type 0 where
  log : x.log ≡ l.log
  notes : x.notes ≡ l.desk.notes
  call : busy_in l.phase ≡ true → x.call ≡ Some l.call
  busy : opened ≡ busy_in l.phase

serves_busy : (call : Call) (phase : Phase) → Serves call phase → busy_in phase ≡ true
serves_busy call Idle s = absurd s
serves_busy call (Runs why base) s = refl
serves_busy call (Scans later at) s = refl
serves_busy call (Works work) s = refl

settled_matches : (l : Local) (post : Post) (desk : Desk) (rounds : ℕ) (outcome : CallOutcome) (x : Ledger) → x.log ≡ l.log → x.call ≡ Some l.call → noted_all x.notes (told_end post outcome) ≡ desk.notes → OutServes l.call outcome
    → Matches (settled_by l post desk rounds outcome) (along ledger_by (told_end post outcome) x) (along opened_by (told_end post outcome) true)
settled_matches l post desk rounds (GoesOn phase) x g c n s = record { log = g; notes = n; call = λ b. c; busy = sym (serves_busy l.call phase s) }
settled_matches l post desk rounds (Answers answer) x g c n s = record {
  log = rw (g, c) (ap (λ (notes : Notes). l.log ++ record { call = l.call; answer = answer; notes = notes } ∷ []) n);
  notes = n;
  call = λ b. absurd (cc);
  busy = refl;
}

turn_matches : (l : Local) (t : CallTurn) (x : Ledger) → t.desk.notes ≡ l.desk.notes → all_of is_within t.told ≡ true → all_of owed.is_open t.told ≡ true → OutServes l.call t.outcome → busy_in l.phase ≡ true → Matches l x true
    → Matches (settled_by l t.post (noting t.desk (told_by t)) (rounds_told (publishes_rows (scheme_of t.post)) l.rounds (told_by t)) t.outcome) (along ledger_by (told_by t) x) (along opened_by (told_by t) true)
turn_matches l t x s w o v b g =
    let e : List Event = told_end t.post t.outcome in
    let y : Ledger = record { call = x.call; notes = noted_all x.notes t.told; log = x.log } in
    let a : along ledger_by (told_by t) x ≡ along ledger_by e y = along_both ledger_by t.told e x ∙ ap (along ledger_by e) (within_all t.told x w o) in
    let q : along opened_by (told_by t) true ≡ along opened_by e true = along_both opened_by t.told e true ∙ ap (along opened_by e) (opened_all t.told true w o) in
    let n : noted_all y.notes e ≡ noted_all t.desk.notes (told_by t) = ap (λ (notes : Notes). noted_all (noted_all notes t.told) e) (g.notes ∙ sym s) ∙ sym (noted_both t.told e t.desk.notes) in
    let r = settled_matches l t.post (noting t.desk (told_by t)) (rounds_told (publishes_rows (scheme_of t.post)) l.rounds (told_by t)) t.outcome y g.log (g.call b) n v in
    subst (λ (z : Ledger). Matches (settled_by l t.post (noting t.desk (told_by t)) (rounds_told (publishes_rows (scheme_of t.post)) l.rounds (told_by t)) t.outcome) z (along opened_by (told_by t) true)) (sym a)
    (subst (λ (z : Bool). Matches (settled_by l t.post (noting t.desk (told_by t)) (rounds_told (publishes_rows (scheme_of t.post)) l.rounds (told_by t)) t.outcome) (along ledger_by e y) z) (sym q) r)

-- at a position of the record
abbrev MatchesAt : Local → ℕ → Past → Type 0
MatchesAt l k p = Matches l (ledger_of k p) (seen opened_by false k p)

other_matches : (l : Local) (k i : ℕ) (told : List Event) (p : Past) → (k == i) ≡ false → MatchesAt l k p → MatchesAt l k (tells_of p i told)
other_matches l k i told p e g =
    subst (λ (x : Ledger). Matches l x (seen opened_by false k (tells_of p i told))) (sym (seen_stays ledger_by no_ledger k i told p e))
    (subst (λ (x : Bool). Matches l (ledger_of k p) x) (sym (seen_stays opened_by false k i told p e)) g)

-- what a history keeps
record Keeps (n : ℕ) (made : Made) : Type 0 where
  kept : answering.Keeps n made
  matches : (k : ℕ) → MatchesAt (made.world.seat k) k made.past

own_matches : (n : ℕ) (made : Made) (i : ℕ) → is_busy made.world i ≡ true → Keeps n made → MatchesAt ((step made.world i).seat i) i (tells_of made.past i (told_in made.world i))
own_matches n made i b g =
    let w : World = made.world in
    let l : Local = offered w i in
    let t : CallTurn = turn l (finds w i) in
    let a = g.kept in
    let s = a.seats i in
    let o : Owes n l.call (owed.owed n l.call l.phase) t = owes_of n w i a.table a.known (s.serves b) in
    let h = g.matches i in
    let y : Matches l (ledger_of i made.past) true = record { log = h.log; notes = h.notes; call = h.call; busy = sym b } in
    let r = turn_matches l t (ledger_of i made.past) (turns_leave_notes l (finds w i)) (first_all is_within t.told (told_end t.post t.outcome) (within_of w i)) o.told.goes o.serves b y in
    subst (λ (m : Local). MatchesAt m i (tells_of made.past i (told_in w i))) (sym (seat_steps w i))
    (subst (λ (x : Ledger). Matches (settled_by l t.post (noting t.desk (told_by t)) (rounds_told (publishes_rows (scheme_of t.post)) l.rounds (told_by t)) t.outcome) x (seen opened_by false i (tells_of made.past i (told_in w i)))) (sym (seen_tells ledger_by no_ledger i (told_in w i) made.past))
    (subst (λ (x : Bool). Matches (settled_by l t.post (noting t.desk (told_by t)) (rounds_told (publishes_rows (scheme_of t.post)) l.rounds (told_by t)) t.outcome) (along ledger_by (told_by t) (ledger_of i made.past)) x)
    (sym (seen_tells opened_by false i (told_in w i) made.past ∙ ap (along opened_by (told_in w i)) (h.busy ∙ b))) r))

step_matches : (n : ℕ) (made : Made) (i k : ℕ) (same : Bool) → (k == i) ≡ same → is_busy made.world i ≡ true → Keeps n made → MatchesAt ((step made.world i).seat k) k (tells_of made.past i (told_in made.world i))
step_matches n made i k true e b g =
    let one : k ≡ i = grind (arith, nat_tests) in
    subst (λ (m : ℕ). MatchesAt ((step made.world i).seat m) m (tells_of made.past i (told_in made.world i))) (sym one) (own_matches n made i b g)
step_matches n made i k false e b g =
    subst (λ (l : Local). MatchesAt l k (tells_of made.past i (told_in made.world i))) (sym (seat_stays made.world i k e)) (other_matches (made.world.seat k) k i (told_in made.world i) made.past e (g.matches k))

begun_matches : (l : Local) (call : Call) (x : Ledger) (opened : Bool) → x.log ≡ l.log → Matches (begun l call) (ledger_by (events.Begin call) x) (opened_by (events.Begin call) opened)
begun_matches l call x opened g = record { log = g; notes = refl; call = λ b. refl; busy = sym (serves_busy call (first_phase call (begun_post l.post)) (first_serves call (begun_post l.post))) }

begin_matches : (n : ℕ) (made : Made) (i k : ℕ) (call : Call) (same : Bool) → (k == i) ≡ same → Keeps n made → MatchesAt ((begin made.world i call).seat k) k (Then made.past i (events.Begin call))
begin_matches n made i k call true e g =
    let p : Past = Then made.past i (events.Begin call) in
    let one : k ≡ i = grind (arith, nat_tests) in
    let h = g.matches i in
    let r = begun_matches (made.world.seat i) call (ledger_of i made.past) (seen opened_by false i made.past) h.log in
    subst (λ (m : ℕ). MatchesAt ((begin made.world i call).seat m) m p) (sym one)
    (subst (λ (l : Local). MatchesAt l i p) (sym (begin_begins made.world i call))
    (subst (λ (x : Ledger). Matches (begun (made.world.seat i) call) x (seen opened_by false i p)) (sym (seen_own ledger_by no_ledger i made.past (events.Begin call)))
    (subst (λ (x : Bool). Matches (begun (made.world.seat i) call) (ledger_by (events.Begin call) (ledger_of i made.past)) x) (sym (seen_own opened_by false i made.past (events.Begin call))) r)))
begin_matches n made i k call false e g =
    subst (λ (l : Local). MatchesAt l k (Then made.past i (events.Begin call))) (sym (begin_stays made.world i k call e)) (other_matches (made.world.seat k) k i (events.Begin call ∷ []) made.past e (g.matches k))

steady : (n : ℕ) → Steady (Keeps n)
steady n = record {
  begins = λ made i call b y m g. record { kept = answering.begin_keeps n made i call y m g.kept; matches = λ k. begin_matches n made i k call (k == i) refl g };
  steps = λ made i b y g. record { kept = answering.step_keeps n made i b y g.kept; matches = λ k. step_matches n made i k (k == i) refl y g };
}

first_matches : (layout : Layout) → is_valid layout ≡ true → Keeps layout.config.buckets (first_made layout)
first_matches layout d = record { kept = answering.first_keeps layout d; matches = λ k. record { log = refl; notes = refl; call = λ b. absurd (cc); busy = refl } }

pub records_keep_logs : RecordsKeepLogs
records_keep_logs layout items k d =
    let g = items_keep (Keeps layout.config.buckets) (steady layout.config.buckets) items (first_made layout) (first_matches layout d) in
    let made : Made = made_of layout items in
    let t = g.matches k in
    record { log = t.log; notes = t.notes; busy = open_seen k made.past ∙ t.busy; call = λ b. sym (ledger_began k made.past) ∙ t.call b }
