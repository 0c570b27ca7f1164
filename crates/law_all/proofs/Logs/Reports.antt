-- What a seat keeps of its last scan is so by the record: how many rows went back, and how many lives stayed.
use Rattle.std.proofs.Common.{ℕ, zero, suc, ◌≡◌, Bool, true, false, List, [], ◌∷◌, ◌++◌, length, Option, Some, None, refl, sym, ap, ◌∙◌, subst, arith}
use Rattle.std.proofs.lemmas.Bool.Decides.{nat_tests}
use Rattle.std.specs.Prelude.{if◌then◌else◌, nat_lt, ◌&&◌, ◌+◌, ◌==◌}
use Rattle.law_scans.specs.inv.model.Calls.{AfterScan, Answered, Repeated, Counted, ScanAt, ReadGuard, GiveBack, Phase, Idle, Runs, Scans, Works, CallTurn, CallOutcome, GoesOn, Answers}
use Rattle.law_scans.specs.inv.model.Desks.{Desk, Report, noting}
use Rattle.law_scans.specs.inv.model.Guards.{guard_at, guards, published}
use Rattle.law_scans.specs.inv.model.Locals.{Local, after, begun, begun_post, busy_in, rounds_told, told_by, told_end, turn}
use Rattle.law_scans.specs.inv.model.Posts.{counted}
use Rattle.law_scans.specs.inv.model.Rounds.{scheme_of}
use Rattle.law_scans.specs.inv.model.Scan.{Entry, giving_back, reading, reads_guard, scanned, scan_turn, unmet_from, with_back, with_kept, with_read}
use Rattle.law_scans.specs.inv.model.Steps.{first_phase, phase_turn}
use Rattle.law_scans.specs.inv.model.World.{World, begin, finds, is_busy, offered, step, told_in}
use Rattle.law_scans.specs.inv.model.declared.post.Post.{Post}
use Rattle.law_scans.specs.inv.covers.Covers.{is_fresh}
use Rattle.law_scans.specs.inv.history.History.{Item, Made, first_made}
use Rattle.law_scans.specs.inv.shapes.Frame.{phase_left}
use Rattle.law_scans.specs.laws.Lists.{list_of}
use Rattle.law_scans.specs.laws.defs.Shown.{Seen}
use Rattle.law_scans.specs.laws.defs.declared.call.Call.{Call}
use Rattle.law_scans.specs.laws.defs.declared.event.Event.{Event}
use Rattle.law_scans.specs.laws.defs.declared.event.Event.TheVariants as events
use Rattle.law_scans.specs.laws.defs.declared.event.Guard.{Guard}
use Rattle.law_scans.specs.laws.defs.declared.lifetime.Lifetime.{Lifetime}
use Rattle.law_scans.specs.laws.records.Record.{Past, tells_of}
use Rattle.law_scans.specs.laws.records.Record.Past.{Start, Then}
use Rattle.law_scans.specs.laws.words.Place.{is_valid}
use Rattle.law_scans.specs.laws.words.Schemes.{publishes_rows}
use Rattle.law_scans.specs.laws.words.declared.layout.Layout.{Layout}
use Rattle.law_scans.proofs.inv.Inv.Whole.{covers_of}
use Rattle.law_scans.proofs.inv.covers.Begun.{first_begins}
use Rattle.law_scans.proofs.inv.covers.Fresh.{round_fresh}
use Rattle.law_scans.proofs.inv.covers.Held.{settled_phase}
use Rattle.law_scans.proofs.inv.model.Facts.{first_of, rest_of, same_number}
use Rattle.law_scans.proofs.reuse.Blocks.Calm.{run_fresh, run_report, work_report, works_fresh}
use Rattle.law_scans.proofs.reuse.Blocks.Keeps.{after_desk}
use Rattle.law_scans.proofs.reuse.Blocks.Placed.{scan_event, scan_tells}
use Rattle.law_scans.proofs.reuse.Once.Calm.{is_unread, run_unread, work_unread}
use Rattle.law_scans.proofs.reuse.Once.Keeps as once
use Rattle.law_scans.proofs.reuse.Once.Lists.{step_list, stepped_own}
use Rattle.law_scans.proofs.reuse.history.AllOf.{all_of}
use Rattle.law_scans.proofs.reuse.history.Along.{Steady, items_keep}
use Rattle.law_scans.proofs.reuse.shapes.Frame.{seat_stays, seat_steps, begin_stays, begin_begins}
use Rattle.law_all.specs.Logs.Reports.{IsReported, RecordsReport, is_of_scan, left_of, returned_by, returned_of}
use Rattle.law_all.proofs.Logs.LastScans.{record_reads}

-- What events make of both numbers.

returned_own : (i : ℕ) (event : Event) (p : Past) → returned_of i (Then p i event) ≡ returned_by event (returned_of i p)
returned_own i event p = rw (same_number i) refl

left_scan : (i : ℕ) (event : Event) (p : Past) → is_of_scan event ≡ true → left_of i (Then p i event) ≡ length (list_of i (Then p i event))
left_scan i event p h = rw (same_number i, h) refl

left_rest : (i : ℕ) (event : Event) (p : Past) → is_of_scan event ≡ false → left_of i (Then p i event) ≡ left_of i p
left_rest i event p h = rw (same_number i, h) refl

unread_returns : (event : Event) (before : ℕ) → is_unread event ≡ true → returned_by event before ≡ before
unread_returns (events.Read guard span) before h = absurd (cc)
unread_returns (events.Saw guard slot) before h = absurd (cc)
unread_returns (events.Back slot) before h = absurd (cc)
unread_returns event before h = refl

unread_rests : (event : Event) → is_unread event ≡ true → is_of_scan event ≡ false
unread_rests (events.Read guard span) h = absurd (cc)
unread_rests (events.Saw guard slot) h = absurd (cc)
unread_rests (events.Back slot) h = absurd (cc)
unread_rests event h = refl

returned_told : (i : ℕ) (told : List Event) (p : Past) → all_of is_unread told ≡ true → returned_of i (tells_of p i told) ≡ returned_of i p
returned_told i [] p h = refl
returned_told i (event ∷ told) p h =
    returned_told i told (Then p i event) (rest_of (is_unread event) (all_of is_unread told) h)
    ∙ returned_own i event p ∙ unread_returns event (returned_of i p) (first_of (is_unread event) (all_of is_unread told) h)

left_told : (i : ℕ) (told : List Event) (p : Past) → all_of is_unread told ≡ true → left_of i (tells_of p i told) ≡ left_of i p
left_told i [] p h = refl
left_told i (event ∷ told) p h =
    left_told i told (Then p i event) (rest_of (is_unread event) (all_of is_unread told) h)
    ∙ left_rest i event p (unread_rests event (first_of (is_unread event) (all_of is_unread told) h))

returned_other : (k i : ℕ) (told : List Event) (p : Past) → (k == i) ≡ false → returned_of k (tells_of p i told) ≡ returned_of k p
returned_other k i [] p e = refl
returned_other k i (event ∷ told) p e = returned_other k i told (Then p i event) e ∙ rw e refl

left_other : (k i : ℕ) (told : List Event) (p : Past) → (k == i) ≡ false → left_of k (tells_of p i told) ≡ left_of k p
left_other k i [] p e = refl
left_other k i (event ∷ told) p e = left_other k i told (Then p i event) e ∙ rw e refl

list_ended : (i : ℕ) (steps : ℕ) (answer : _) (p : Past) → list_of i (Then p i (events.End steps answer)) ≡ list_of i p
list_ended i steps answer p = rw (same_number i) refl

-- one event of a scan, and the call's end after it, if it ends
scan_returns : (i : ℕ) (event : Event) (p : Past) (post : Post) (outcome : CallOutcome) → returned_of i (tells_of p i (event ∷ told_end post outcome)) ≡ returned_by event (returned_of i p)
scan_returns i event p post (GoesOn phase) = returned_own i event p
scan_returns i event p post (Answers answer) = returned_own i (events.End post.steps answer) (Then p i event) ∙ returned_own i event p

scan_leaves : (i : ℕ) (event : Event) (p : Past) (post : Post) (outcome : CallOutcome) (list : List Lifetime) → is_of_scan event ≡ true
    → list_of i (tells_of p i (event ∷ told_end post outcome)) ≡ list → left_of i (tells_of p i (event ∷ told_end post outcome)) ≡ length list
scan_leaves i event p post (GoesOn phase) list h e = left_scan i event p h ∙ ap (λ (lives : List Lifetime). length lives) e
scan_leaves i event p post (Answers answer) list h e =
    left_rest i (events.End post.steps answer) (Then p i event) refl ∙ left_scan i event p h
    ∙ ap (λ (lives : List Lifetime). length lives) (sym (list_ended i post.steps answer (Then p i event)) ∙ e)

-- What a turn makes of the report.

-- a block is under way, or rows are to go back
abbrev amid_scan : ScanAt → Bool
amid_scan (ReadGuard zero) = false
amid_scan (ReadGuard (suc n)) = true
amid_scan (GiveBack place slot) = true

abbrev is_amid : Phase → Bool
is_amid (Scans later at) = amid_scan at
is_amid phase = false

fresh_amid : (phase : Phase) → is_fresh phase ≡ true → is_amid phase ≡ false
fresh_amid Idle h = refl
fresh_amid (Runs why base) h = refl
fresh_amid (Scans later (ReadGuard zero)) h = refl
fresh_amid (Scans later (ReadGuard (suc n))) h = absurd (cc)
fresh_amid (Scans later (GiveBack place slot)) h = absurd (cc)
fresh_amid (Works work) h = refl

-- the rows that went back are counted, and once the scan is over the lives that stay
record Reports (back : ℕ) (t : CallTurn) : Type 0 where
  back_is : t.desk.report.back ≡ back
  kept : is_amid (phase_left t.outcome) ≡ false → t.desk.report.kept ≡ length t.desk.list

scanned_reports : (later : AfterScan) (post : Post) (desk : Desk) (told : List Event) → Reports desk.report.back (scanned later post (with_kept desk) told)
scanned_reports (Answered answer) post desk told = record { back_is = refl; kept = λ e. refl }
scanned_reports (Repeated task) post desk told = record { back_is = refl; kept = λ e. refl }
scanned_reports Counted post desk told = record { back_is = refl; kept = λ e. refl }

giving_reports : (later : AfterScan) (post : Post) (desk : Desk) (told : List Event) (o : Option Entry) → Reports desk.report.back (giving_back later post desk told o)
giving_reports later post desk told None = scanned_reports later post desk told
giving_reports later post desk told (Some entry) = record { back_is = refl; kept = λ e. absurd (cc) }

amid_next : (later : AfterScan) (n : ℕ) → is_amid (Scans later (ReadGuard (n + 1))) ≡ true
amid_next later n = let e : suc n ≡ n + 1 = omega arith in subst (λ (m : ℕ). is_amid (Scans later (ReadGuard m)) ≡ true) e refl

reading_reports : (later : AfterScan) (n : ℕ) (post : Post) (desk : Desk) (told : List Event) (more : Bool) → Reports desk.report.back (reading later n post desk told more)
reading_reports later n post desk told true = record { back_is = refl; kept = λ e. let amid : is_amid (Scans later (ReadGuard (n + 1))) ≡ true = amid_next later n in absurd (cc) }
reading_reports later n post desk told false = giving_reports later post desk told (unmet_from desk 0)

guard_returns : (rows : Bool) (guard : Guard) (word before : ℕ) → returned_by (reads_guard rows guard word) before ≡ 0
guard_returns true guard word before = refl
guard_returns false guard word before = refl

guard_scans : (rows : Bool) (guard : Guard) (word : ℕ) → is_of_scan (reads_guard rows guard word) ≡ true
guard_scans true guard word = refl
guard_scans false guard word = refl

event_scans : (at : ScanAt) (post : Post) (found : ℕ) → is_of_scan (scan_event at post found) ≡ true
event_scans (ReadGuard n) post found = guard_scans (publishes_rows post.layout.config.scheme) (guard_at post.layout.config n) found
event_scans (GiveBack place slot) post found = refl

scan_reports : (later : AfterScan) (at : ScanAt) (post : Post) (desk : Desk) (found : ℕ) → Reports (returned_by (scan_event at post found) desk.report.back) (scan_turn later at post desk found)
scan_reports later (ReadGuard n) post desk found =
    let rows : Bool = publishes_rows post.layout.config.scheme in
    let guard : Guard = guard_at post.layout.config n in
    subst (λ (back : ℕ). Reports back (scan_turn later (ReadGuard n) post desk found)) (sym (guard_returns rows guard found desk.report.back))
    (reading_reports later n post (with_read desk n (guard, published rows guard found)) (reads_guard rows guard found ∷ []) (nat_lt (n + 1) (guards post.layout.config)))
scan_reports later (GiveBack place slot) post desk found =
    giving_reports later post (with_back desk place) (events.Back slot ∷ []) (unmet_from (with_back desk place) place)

-- a turn of a seat
record Told (i : ℕ) (t : CallTurn) (p : Past) : Type 0 where
  back : returned_of i (tells_of p i (told_by t)) ≡ t.desk.report.back
  kept : list_of i (tells_of p i (told_by t)) ≡ t.desk.list → is_amid (phase_left t.outcome) ≡ false → left_of i (tells_of p i (told_by t)) ≡ t.desk.report.kept

calm_told : (i : ℕ) (desk : Desk) (t : CallTurn) (p : Past) → returned_of i p ≡ desk.report.back → left_of i p ≡ desk.report.kept → all_of is_unread (told_by t) ≡ true → t.desk.report ≡ desk.report → Told i t p
calm_told i desk t p b k u e = record {
  back = returned_told i (told_by t) p u ∙ b ∙ sym (ap (λ (x : Report). x.back) e);
  kept = λ l f. left_told i (told_by t) p u ∙ k ∙ sym (ap (λ (x : Report). x.kept) e);
}

scan_told : (i : ℕ) (later : AfterScan) (at : ScanAt) (post : Post) (desk : Desk) (found : ℕ) (p : Past) → returned_of i p ≡ desk.report.back → Told i (scan_turn later at post desk found) p
scan_told i later at post desk found p b =
    let t : CallTurn = scan_turn later at post desk found in
    let event : Event = scan_event at post found in
    let e : told_by t ≡ event ∷ told_end t.post t.outcome = ap (λ (told : List Event). told ++ told_end t.post t.outcome) (scan_tells later at post desk found) in
    let r = scan_reports later at post desk found in
    record {
      back = ap (λ (told : List Event). returned_of i (tells_of p i told)) e ∙ scan_returns i event p t.post t.outcome ∙ ap (returned_by event) b ∙ sym r.back_is;
      kept = λ l f.
          ap (λ (told : List Event). left_of i (tells_of p i told)) e
          ∙ scan_leaves i event p t.post t.outcome t.desk.list (event_scans at post found) (sym (ap (λ (told : List Event). list_of i (tells_of p i told)) e) ∙ l)
          ∙ sym (r.kept f);
    }

-- of a seat at this phase
abbrev IsAt : Phase → (i : ℕ) → Desk → Past → Type 0
IsAt phase i desk p = (returned_of i p ≡ desk.report.back) × (is_amid phase ≡ false → left_of i p ≡ desk.report.kept)

phase_told : (i : ℕ) (phase : Phase) (post : Post) (desk : Desk) (found : ℕ) (p : Past) → IsAt phase i desk p → Told i (phase_turn phase post desk found) p
phase_told i Idle post desk found p h = calm_told i desk (phase_turn Idle post desk found) p h.0 (h.1 refl) refl refl
phase_told i (Runs why base) post desk found p h =
    calm_told i desk (phase_turn (Runs why base) post desk found) p h.0 (h.1 refl) (run_unread why base post desk found) (run_report why base post desk found)
phase_told i (Scans later at) post desk found p h = scan_told i later at post desk found p h.0
phase_told i (Works work) post desk found p h =
    calm_told i desk (phase_turn (Works work) post desk found) p h.0 (h.1 refl) (work_unread work post desk found) (work_report work post desk found)

-- a seat, by the record
abbrev SeatReports : ℕ → Local → Past → Type 0
SeatReports k l p = IsAt l.phase k l.desk p

after_reports : (i : ℕ) (l : Local) (found : ℕ) (p : Past) → Told i (turn l found) p → list_of i (tells_of p i (told_by (turn l found))) ≡ (after l found).desk.list
    → SeatReports i (after l found) (tells_of p i (told_by (turn l found)))
after_reports i l found p h list =
    let t : CallTurn = turn l found in
    let d = after_desk l found in
    let e : (after l found).phase ≡ phase_left t.outcome = settled_phase l t.post (noting t.desk (told_by t)) (rounds_told (publishes_rows (scheme_of t.post)) l.rounds (told_by t)) t.outcome in (
      h.back ∙ sym (ap (λ (x : Desk). x.report.back) d),
      λ f. h.kept (list ∙ ap (λ (x : Desk). x.list) d) (ap is_amid (sym e) ∙ f) ∙ sym (ap (λ (x : Desk). x.report.kept) d),
    )

other_reports : (k i : ℕ) (told : List Event) (l : Local) (p : Past) → (k == i) ≡ false → SeatReports k l p → SeatReports k l (tells_of p i told)
other_reports k i told l p e h = (returned_other k i told p e ∙ h.0, λ f. left_other k i told p e ∙ h.1 f)

-- what a history keeps
record Keeps (layout : Layout) (made : Made) : Type 0 where
  lists : once.Keeps layout made
  seats : (k : ℕ) → SeatReports k (made.world.seat k) made.past

own_step : (layout : Layout) (made : Made) (i : ℕ) → is_busy made.world i ≡ true → Keeps layout made → SeatReports i ((step made.world i).seat i) (tells_of made.past i (told_in made.world i))
own_step layout made i y g =
    let w : World = made.world in
    let own : Local = offered w i in
    let k = g.lists in
    let n = covers_of w i k.rows k.line k.asked k.known in
    let list : list_of i (tells_of made.past i (told_in w i)) ≡ ((step w i).seat i).desk.list =
    step_list w i i k.rows made.past true (same_number i) y n.rows k.shows ∙ stepped_own w i k.rows made.past y n.rows k.shows in
    let t : Told i (turn own (finds w i)) made.past = phase_told i own.phase (counted own.post) own.desk (finds w i) made.past (g.seats i) in
    subst (λ (l : Local). SeatReports i l (tells_of made.past i (told_in w i))) (sym (seat_steps w i))
    (after_reports i own (finds w i) made.past t (list ∙ ap (λ (l : Local). l.desk.list) (seat_steps w i)))

step_reports : (layout : Layout) (made : Made) (i k : ℕ) (same : Bool) → (k == i) ≡ same → is_busy made.world i ≡ true → Keeps layout made → SeatReports k ((step made.world i).seat k) (tells_of made.past i (told_in made.world i))
step_reports layout made i k true e y g =
    let one : i ≡ k = grind (arith, nat_tests) in
    subst (λ (j : ℕ). SeatReports j ((step made.world i).seat j) (tells_of made.past i (told_in made.world i))) one (own_step layout made i y g)
step_reports layout made i k false e y g =
    subst (λ (l : Local). SeatReports k l (tells_of made.past i (told_in made.world i))) (sym (seat_stays made.world i k e)) (other_reports k i (told_in made.world i) (made.world.seat k) made.past e (g.seats k))

idle_amid : (phase : Phase) → busy_in phase ≡ false → is_amid phase ≡ false
idle_amid Idle f = refl
idle_amid (Runs why base) f = refl
idle_amid (Scans later at) f = absurd (cc)
idle_amid (Works work) f = refl

begun_reports : (i : ℕ) (l : Local) (call : Call) (p : Past) → busy_in l.phase ≡ false → SeatReports i l p → SeatReports i (begun l call) (Then p i (events.Begin call))
begun_reports i l call p f h = (returned_own i (events.Begin call) p ∙ h.0, λ e. left_rest i (events.Begin call) p refl ∙ h.1 (idle_amid l.phase f))

begin_reports : (layout : Layout) (made : Made) (i k : ℕ) (call : Call) (same : Bool) → (k == i) ≡ same → is_busy made.world i ≡ false → Keeps layout made → SeatReports k ((begin made.world i call).seat k) (Then made.past i (events.Begin call))
begin_reports layout made i k call true e f g =
    let one : i ≡ k = grind (arith, nat_tests) in
    let p : Past = Then made.past i (events.Begin call) in
    subst (λ (j : ℕ). SeatReports j ((begin made.world i call).seat j) p) one
    (subst (λ (l : Local). SeatReports i l p) (sym (begin_begins made.world i call)) (begun_reports i (made.world.seat i) call made.past f (g.seats i)))
begin_reports layout made i k call false e f g =
    subst (λ (l : Local). SeatReports k l (Then made.past i (events.Begin call))) (sym (begin_stays made.world i k call e)) (other_reports k i (events.Begin call ∷ []) (made.world.seat k) made.past e (g.seats k))

steady : (layout : Layout) → Steady (Keeps layout)
steady layout = record {
  begins = λ made i call b y m g. record { lists = once.begin_keeps layout made i call y m g.lists; seats = λ k. begin_reports layout made i k call (k == i) refl y g };
  steps = λ made i b y g. record { lists = once.step_keeps layout made i b y g.lists; seats = λ k. step_reports layout made i k (k == i) refl y g };
}

pub records_report : RecordsReport
records_report layout items k d idle =
    let g = items_keep (Keeps layout) (steady layout) items (first_made layout) (record { lists = once.first_keeps layout d; seats = λ j. (refl, λ f. refl) }) in
    record { read = record_reads layout items k d; back = (g.seats k).0; kept = (g.seats k).1 (idle_amid _ idle) }
