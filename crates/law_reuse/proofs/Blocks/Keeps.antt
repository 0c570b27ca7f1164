-- A history's record keeps the law on scans.
use Rattle.std.proofs.Common.{ℕ, ◌≡◌, ◌<◌, Bool, true, false, List, [], ◌∷◌, ◌++◌, refl, sym, ap, ◌∙◌, subst, arith}
use Rattle.inv_all.specs.model.words.Schemes.{publishes_rows}
use Rattle.inv_all.specs.model.Rounds.{scheme_of}
use Rattle.std.proofs.lemmas.Bool.Decides.{nat_tests}
use Rattle.std.specs.Prelude.{◌==◌, if◌then◌else◌}
use Rattle.laws.specs.defs.Shown.{Seen}
use Rattle.laws.specs.words.Place.{is_valid}
use Rattle.laws.specs.words.declared.config.Config.{Config}
use Rattle.laws.specs.words.declared.layout.Layout.{Layout}
use Rattle.laws.specs.defs.declared.call.Call.{Call}
use Rattle.laws.specs.defs.declared.event.Event.{Event}
use Rattle.laws.specs.defs.declared.event.Event.TheVariants as events
use Rattle.laws.specs.defs.declared.lifetime.Lifetime.{Lifetime}
use Rattle.inv_all.specs.model.declared.post.Post.{Post}
use Rattle.inv_all.specs.model.Calls.{AfterScan, ScanAt, Phase, Idle, Runs, Scans, Works, CallTurn, CallOutcome, GoesOn, Answers}
use Rattle.inv_all.specs.model.Desks.{Desk, Report, noting}
use Rattle.inv_all.specs.model.Guards.{guards, guard_at}
use Rattle.inv_all.specs.model.Locals.{Local, after, begun, begun_post, busy_in, settled, rounds_told, told_by, told_end, turn}
use Rattle.inv_all.specs.model.Posts.{counted}
use Rattle.inv_all.specs.model.Scan.{scan_turn}
use Rattle.inv_all.specs.model.Steps.{phase_turn}
use Rattle.inv_all.specs.model.World.{World, begin, finds, is_busy, offered, step, told_in, may_start}
use Rattle.inv_all.specs.covers.Covers.{is_fresh}
use Rattle.inv_all.proofs.covers.Fresh.{first_begins}
use Rattle.inv_all.proofs.covers.Held.{settled_phase}
use Rattle.inv_all.specs.shapes.Frame.{phase_left}
use Rattle.inv_all.specs.shapes.Seats.{Seats, PhaseFits, scan_fits}
use Rattle.inv_all.proofs.shapes.Frame.{seat_stays, seat_steps, begin_stays, begin_begins}
use Rattle.laws.specs.records.Record.{Past, Each, tells_of}
use Rattle.laws.specs.records.Record.Past.{Then}
use Rattle.laws.proofs.records.Entries.{entries_of_each}
use Rattle.inv_all.specs.history.History.{Begins, Steps, Made, done, first_made, record_of}
use Rattle.inv_all.proofs.history.Along.{Steady, items_keep}
use Rattle.laws.specs.Lists.{list_of}
use Rattle.laws.specs.StateAt.{read_by, read_of, is_scan, scans_of}
use Rattle.law_reuse.proofs.Once.Calm.{is_unread, run_unread, work_unread}
use Rattle.law_reuse.proofs.Once.Keeps.{Keeps, first_keeps, begin_keeps, step_keeps}
use Rattle.laws.specs.ScanLaw.{scan_by, scan_ok}
use Rattle.law_reuse.specs.Records.{RecordsKeepScans}
use Rattle.law_reuse.proofs.Blocks.Calm.{read_own, scans_own, read_other, scans_other, RestsAt, told_same, told_rests, one_allowed, told_each, unread_rests, unread_same, run_report, work_report, run_fresh, works_fresh}
use Rattle.law_reuse.proofs.Blocks.Placed.{Rests, PlacedAt, Placed, fresh_placed, TurnPlaced, scan_event, scan_placed, scan_tells, scan_reads, scan_allowed}
use Rattle.inv_all.proofs.history.AllOf.{all_of}
use Rattle.law_reuse.proofs.ReadGuards.{reads_are}
use Rattle.law_reuse.proofs.Once.Lists.{settled_list, begins_own, busy_list, stepped_own}
use Rattle.laws.proofs.Along.{list_own}

-- what the record says of a seat's scan is so
abbrev pub SeatPlaced : ℕ → ℕ → Local → Past → Type 0
SeatPlaced all k l p = Placed all l.phase l.desk.report.read l.desk.list (scans_of k p)

pub record Tied (all : ℕ) (w : World) (p : Past) : Type 0 where
  pub reads : (k : ℕ) → read_of all k p ≡ (w.seat k).desk.report.read
  pub places : (k : ℕ) → SeatPlaced all k (w.seat k) p

-- what a turn of a seat tells, and leaves
pub record Told (config : Config) (i : ℕ) (t : CallTurn) (p : Past) : Type 0 where
  pub reads : read_of (guards config) i (tells_of p i (told_by t)) ≡ t.desk.report.read
  pub places : list_of i (tells_of p i (told_by t)) ≡ t.desk.list → Placed (guards config) (phase_left t.outcome) t.desk.report.read t.desk.list (scans_of i (tells_of p i (told_by t)))
  pub each : Each (scan_ok config) p → Each (scan_ok config) (tells_of p i (told_by t))

-- a step of no scan
rests_at : (all i : ℕ) (p : Past) (read : List Seen) (list : List Lifetime) → read_of all i p ≡ read → list_of i p ≡ list → Rests all read list (scans_of i p) → RestsAt all i p
rests_at all i p read list r l h = subst (λ (x : List Seen). Rests all x (list_of i p) (scans_of i p)) (sym r) (subst (λ (x : List Lifetime). Rests all read x (scans_of i p)) (sym l) h)

rests_in : (all i : ℕ) (p : Past) (read : List Seen) (list : List Lifetime) → read_of all i p ≡ read → list_of i p ≡ list → RestsAt all i p → Rests all read list (scans_of i p)
rests_in all i p read list r l h = subst (λ (x : List Lifetime). Rests all read x (scans_of i p)) l (subst (λ (x : List Seen). Rests all x (list_of i p) (scans_of i p)) r h)

calm_told : (config : Config) (i : ℕ) (desk : Desk) (t : CallTurn) (p : Past) → read_of (guards config) i p ≡ desk.report.read → list_of i p ≡ desk.list → Rests (guards config) desk.report.read desk.list (scans_of i p) → all_of is_unread (told_by t) ≡ true → t.desk.report ≡ desk.report → is_fresh (phase_left t.outcome) ≡ true → Told config i t p
calm_told config i desk t p r l h u e f =
    let all : ℕ = guards config in
    let a : RestsAt all i p = rests_at all i p desk.report.read desk.list r l h in
    let x : read_of all i (tells_of p i (told_by t)) ≡ t.desk.report.read = told_same all i (told_by t) p u ∙ r ∙ sym (ap (λ (y : Report). y.read) e) in
    record {
      reads = x;
      places = λ q. fresh_placed all (phase_left t.outcome) t.desk.report.read t.desk.list (scans_of i (tells_of p i (told_by t))) f (rests_in all i (tells_of p i (told_by t)) t.desk.report.read t.desk.list x q (told_rests all i (told_by t) p u a));
      each = told_each config i (told_by t) p u a;
    }

-- a step of a scan
scan_after : (all i : ℕ) (event : Event) (p : Past) (post : Post) (outcome : CallOutcome) (read : List Seen) (list : List Lifetime) → is_scan event ≡ true → read_of all i (Then p i event) ≡ read → Placed all (phase_left outcome) read list true
    → list_of i (tells_of p i (event ∷ told_end post outcome)) ≡ list → Placed all (phase_left outcome) read list (scans_of i (tells_of p i (event ∷ told_end post outcome)))
scan_after all i event p post (GoesOn phase) read list s r h q = subst (λ (x : Bool). Placed all phase read list x) (sym (scans_own i event p ∙ s)) h
scan_after all i event p post (Answers answer) read list s r h q =
    let e : Event = events.End post.steps answer in
    let y : scans_of i (Then (Then p i event) i e) ≡ false = scans_own i e (Then p i event) in
    subst (λ (x : Bool). Rests all read list x) (sym y) (record { whole = h.whole; over = refl })

end_reads : (all i : ℕ) (event : Event) (p : Past) (post : Post) (outcome : CallOutcome) → read_of all i (tells_of p i (event ∷ told_end post outcome)) ≡ read_of all i (Then p i event)
end_reads all i event p post (GoesOn phase) = refl
end_reads all i event p post (Answers answer) = unread_same all i (events.End post.steps answer) (Then p i event) refl

end_lists : (i : ℕ) (event : Event) (p : Past) (post : Post) (outcome : CallOutcome) → list_of i (tells_of p i (event ∷ told_end post outcome)) ≡ list_of i (Then p i event)
end_lists i event p post (GoesOn phase) = refl
end_lists i event p post (Answers answer) = by (i == i)
  where
    by : (same : Bool) → (if same then list_of i (Then p i event) else list_of i (Then p i event)) ≡ list_of i (Then p i event)
    by true = refl
    by false = refl

end_each : (config : Config) (i : ℕ) (event : Event) (p : Past) (post : Post) (outcome : CallOutcome) (read : List Seen) (list : List Lifetime) → is_scan event ≡ true → read_of (guards config) i (Then p i event) ≡ read → list_of i (Then p i event) ≡ list → Placed (guards config) (phase_left outcome) read list true → scan_ok config p i event ≡ true
    → Each (scan_ok config) p → Each (scan_ok config) (tells_of p i (event ∷ told_end post outcome))
end_each config i event p post (GoesOn phase) read list s r l h o t = (o, t)
end_each config i event p post (Answers answer) read list s r l h o t =
    let x : Rests (guards config) read list (scans_of i (Then p i event)) = subst (λ (b : Bool). Rests (guards config) read list b) (sym (scans_own i event p ∙ s)) h in
    (one_allowed config i (events.End post.steps answer) (Then p i event) refl (rests_at (guards config) i (Then p i event) read list r l x), (o, t))

event_scans : (at : ScanAt) (post : Post) (found : ℕ) → is_scan (scan_event at post found) ≡ true
event_scans (ScanAt.ReadGuard number) post found = reads_are (λ (event : Event). is_scan event ≡ true) (publishes_rows post.layout.config.scheme) (guard_at post.layout.config number) found (λ span. refl) (λ slot. refl)
event_scans (ScanAt.GiveBack place slot) post found = refl

scan_told : (i : ℕ) (later : AfterScan) (at : ScanAt) (post : Post) (desk : Desk) (found : ℕ) (p : Past) → scan_fits post.layout.config at ≡ true → read_of (guards post.layout.config) i p ≡ desk.report.read → list_of i p ≡ desk.list → PlacedAt (guards post.layout.config) at desk.report.read desk.list (scans_of i p)
    → list_of i (tells_of p i (told_by (scan_turn later at post desk found))) ≡ (scan_turn later at post desk found).desk.list → Told post.layout.config i (scan_turn later at post desk found) p
scan_told i later at post desk found p f r l h q =
    let config : Config = post.layout.config in
    let all : ℕ = guards config in
    let t : CallTurn = scan_turn later at post desk found in
    let event : Event = scan_event at post found in
    let es : List Event = event ∷ told_end t.post t.outcome in
    let e : told_by t ≡ es = ap (λ (told : List Event). told ++ told_end t.post t.outcome) (scan_tells later at post desk found) in
    let x : TurnPlaced all t = scan_placed later at post desk found (scans_of i p) f h in
    let y : read_of all i (Then p i event) ≡ t.desk.report.read = read_own all i event p ∙ ap (read_by all event) r ∙ sym (scan_reads later at post desk found (scans_of i p) f h) in
    let z : list_of i (tells_of p i es) ≡ t.desk.list = ap (λ (told : List Event). list_of i (tells_of p i told)) (sym e) ∙ q in
    let o : scan_ok config p i event ≡ true =
    subst (λ (x : List Seen). scan_by config x (list_of i p) (scans_of i p) event ≡ true) (sym r) (subst (λ (x : List Lifetime). scan_by config desk.report.read x (scans_of i p) event ≡ true) (sym l) (scan_allowed at post desk.report.read desk.list found (scans_of i p) f h)) in
    record {
      reads = ap (λ (told : List Event). read_of all i (tells_of p i told)) e ∙ end_reads all i event p t.post t.outcome ∙ y;
      places = λ g. subst (λ (told : List Event). Placed all (phase_left t.outcome) t.desk.report.read t.desk.list (scans_of i (tells_of p i told))) (sym e) (scan_after all i event p t.post t.outcome t.desk.report.read t.desk.list (event_scans at post found) y x z);
      each = λ g. subst (λ (told : List Event). Each (scan_ok config) (tells_of p i told)) (sym e)
          (end_each config i event p t.post t.outcome t.desk.report.read t.desk.list (event_scans at post found) y (sym (end_lists i event p t.post t.outcome) ∙ z) x o g);
    }

-- a scan under way reads a guard that there is
abbrev pub ScanFits : Config → Phase → Type 0
ScanFits config (Scans later at) = scan_fits config at ≡ true
ScanFits config phase = Unit {0}

pub scans_fit : (layout : Layout) (post : Post) (phase : Phase) → PhaseFits layout post phase → ScanFits layout.config phase
scans_fit layout post (Scans later at) h = h
scans_fit layout post Idle h = tt
scans_fit layout post (Runs why base) h = tt
scans_fit layout post (Works work) h = tt

phase_told : (i : ℕ) (phase : Phase) (post : Post) (desk : Desk) (found : ℕ) (p : Past) → ScanFits post.layout.config phase → read_of (guards post.layout.config) i p ≡ desk.report.read → list_of i p ≡ desk.list → Placed (guards post.layout.config) phase desk.report.read desk.list (scans_of i p)
    → list_of i (tells_of p i (told_by (phase_turn phase post desk found))) ≡ (phase_turn phase post desk found).desk.list → Told post.layout.config i (phase_turn phase post desk found) p
phase_told i Idle post desk found p f r l h q = calm_told post.layout.config i desk (phase_turn Idle post desk found) p r l h refl refl refl
phase_told i (Runs why base) post desk found p f r l h q =
    calm_told post.layout.config i desk (phase_turn (Runs why base) post desk found) p r l h (run_unread why base post desk found) (run_report why base post desk found) (run_fresh why base post desk found)
phase_told i (Scans later at) post desk found p f r l h q = scan_told i later at post desk found p f r l h q
phase_told i (Works work) post desk found p f r l h q =
    calm_told post.layout.config i desk (phase_turn (Works work) post desk found) p r l h (work_unread work post desk found) (work_report work post desk found) (works_fresh work post desk found)

-- a step
settled_placed : (all i : ℕ) (l : Local) (t : CallTurn) (p : Past) → Placed all (phase_left t.outcome) t.desk.report.read t.desk.list (scans_of i p) → SeatPlaced all i (settled l t) p
settled_placed all i l t p h =
    let d : (settled l t).desk ≡ noting t.desk (told_by t) = settled_list l t.post (noting t.desk (told_by t)) (rounds_told (publishes_rows (scheme_of t.post)) l.rounds (told_by t)) t.outcome in
    let e : (settled l t).phase ≡ phase_left t.outcome = settled_phase l t.post (noting t.desk (told_by t)) (rounds_told (publishes_rows (scheme_of t.post)) l.rounds (told_by t)) t.outcome in
    subst (λ (desk : Desk). Placed all (settled l t).phase desk.report.read desk.list (scans_of i p)) (sym d) (subst (λ (phase : Phase). Placed all phase t.desk.report.read t.desk.list (scans_of i p)) (sym e) h)

pub after_desk : (l : Local) (found : ℕ) → (after l found).desk ≡ noting (turn l found).desk (told_by (turn l found))
after_desk l found = let t : CallTurn = turn l found in settled_list l t.post (noting t.desk (told_by t)) (rounds_told (publishes_rows (scheme_of t.post)) l.rounds (told_by t)) t.outcome

own_told : (layout : Layout) (w : World) (i : ℕ) (p : Past) → w.layout ≡ layout → Seats w → Tied (guards layout.config) w p → list_of i p ≡ (w.seat i).desk.list → list_of i (tells_of p i (told_in w i)) ≡ ((step w i).seat i).desk.list → Told layout.config i (turn (offered w i) (finds w i)) p
own_told layout w i p e s h l q =
    let own : Local = offered w i in
    let a : own.post.layout ≡ layout = (s.fits i).post.layout ∙ e in
    let g : ScanFits own.post.layout.config own.phase = subst (λ (x : Layout). ScanFits x.config own.phase) (sym (s.fits i).post.layout) (scans_fit w.layout own.post own.phase (s.fits i).phase) in
    let r : read_of (guards own.post.layout.config) i p ≡ own.desk.report.read = subst (λ (x : Layout). read_of (guards x.config) i p ≡ own.desk.report.read) (sym a) (h.reads i) in
    let y : Placed (guards own.post.layout.config) own.phase own.desk.report.read own.desk.list (scans_of i p) = subst (λ (x : Layout). Placed (guards x.config) own.phase own.desk.report.read own.desk.list (scans_of i p)) (sym a) (h.places i) in
    let z : ((step w i).seat i).desk.list ≡ (turn own (finds w i)).desk.list = ap (λ (x : Local). x.desk.list) (seat_steps w i) ∙ ap (λ (d : Desk). d.list) (after_desk own (finds w i)) in
    subst (λ (x : Layout). Told x.config i (turn own (finds w i)) p) a (phase_told i own.phase (counted own.post) own.desk (finds w i) p g r l y (q ∙ z))

step_reads : (all : ℕ) (w : World) (i k : ℕ) (p : Past) (same : Bool) → (k == i) ≡ same → Tied all w p → read_of all i (tells_of p i (told_in w i)) ≡ (turn (offered w i) (finds w i)).desk.report.read → read_of all k (tells_of p i (told_in w i)) ≡ ((step w i).seat k).desk.report.read
step_reads all w i k p true e h r =
    let q : i ≡ k = grind (arith, nat_tests) in
    let d : ((step w i).seat i).desk.report.read ≡ (turn (offered w i) (finds w i)).desk.report.read = ap (λ (x : Local). x.desk.report.read) (seat_steps w i) ∙ ap (λ (d : Desk). d.report.read) (after_desk (offered w i) (finds w i)) in
    subst (λ (j : ℕ). read_of all j (tells_of p i (told_in w i)) ≡ ((step w i).seat j).desk.report.read) q (r ∙ sym d)
step_reads all w i k p false e h r = read_other all k i (told_in w i) p e ∙ h.reads k ∙ sym (ap (λ (x : Local). x.desk.report.read) (seat_stays w i k e))

step_places : (all : ℕ) (w : World) (i k : ℕ) (p : Past) (same : Bool) → (k == i) ≡ same → Tied all w p → SeatPlaced all i (after (offered w i) (finds w i)) (tells_of p i (told_in w i)) → SeatPlaced all k ((step w i).seat k) (tells_of p i (told_in w i))
step_places all w i k p true e h x =
    let q : i ≡ k = grind (arith, nat_tests) in
    subst (λ (j : ℕ). SeatPlaced all j ((step w i).seat j) (tells_of p i (told_in w i))) q (subst (λ (l : Local). SeatPlaced all i l (tells_of p i (told_in w i))) (sym (seat_steps w i)) x)
step_places all w i k p false e h x =
    subst (λ (l : Local). SeatPlaced all k l (tells_of p i (told_in w i))) (sym (seat_stays w i k e))
    (subst (λ (b : Bool). Placed all (w.seat k).phase (w.seat k).desk.report.read (w.seat k).desk.list b) (sym (scans_other k i (told_in w i) p e)) (h.places k))

-- a beginning of a call
idle_rests : (all : ℕ) (phase : Phase) (read : List Seen) (list : List Lifetime) (scans : Bool) → busy_in phase ≡ false → Placed all phase read list scans → Rests all read list scans
idle_rests all Idle read list scans f h = h
idle_rests all (Runs why base) read list scans f h = h
idle_rests all (Scans later at) read list scans f h = absurd (cc)
idle_rests all (Works work) read list scans f h = h

begin_rests : (all : ℕ) (w : World) (i : ℕ) (p : Past) → is_busy w i ≡ false → Tied all w p → list_of i p ≡ (w.seat i).desk.list → RestsAt all i p
begin_rests all w i p f h l = rests_at all i p (w.seat i).desk.report.read (w.seat i).desk.list (h.reads i) l (idle_rests all (w.seat i).phase (w.seat i).desk.report.read (w.seat i).desk.list (scans_of i p) f (h.places i))

begin_own : (all : ℕ) (w : World) (i : ℕ) (call : Call) (p : Past) → is_busy w i ≡ false → Tied all w p → list_of i p ≡ (w.seat i).desk.list → list_of i (Then p i (events.Begin call)) ≡ (w.seat i).desk.list → SeatPlaced all i (begun (w.seat i) call) (Then p i (events.Begin call))
begin_own all w i call p f h l q =
    fresh_placed all (begun (w.seat i) call).phase (w.seat i).desk.report.read (w.seat i).desk.list (scans_of i (Then p i (events.Begin call))) (first_begins call (begun_post (w.seat i).post)).fresh
    (rests_in all i (Then p i (events.Begin call)) (w.seat i).desk.report.read (w.seat i).desk.list (unread_same all i (events.Begin call) p refl ∙ h.reads i) q (unread_rests all i (events.Begin call) p refl (begin_rests all w i p f h l)))

begin_reads : (all : ℕ) (w : World) (i k : ℕ) (call : Call) (p : Past) (same : Bool) → (k == i) ≡ same → read_of all k p ≡ (w.seat k).desk.report.read → read_of all k (Then p i (events.Begin call)) ≡ ((begin w i call).seat k).desk.report.read
begin_reads all w i k call p true e h = let q : k ≡ i = grind (arith, nat_tests) in rw e (h ∙ ap (λ (j : ℕ). (w.seat j).desk.report.read) q)
begin_reads all w i k call p false e h = rw e h

begin_places : (all : ℕ) (w : World) (i k : ℕ) (call : Call) (p : Past) (same : Bool) → (k == i) ≡ same → Tied all w p → SeatPlaced all i (begun (w.seat i) call) (Then p i (events.Begin call)) → SeatPlaced all k ((begin w i call).seat k) (Then p i (events.Begin call))
begin_places all w i k call p true e h x =
    let q : i ≡ k = grind (arith, nat_tests) in
    subst (λ (j : ℕ). SeatPlaced all j ((begin w i call).seat j) (Then p i (events.Begin call))) q (subst (λ (l : Local). SeatPlaced all i l (Then p i (events.Begin call))) (sym (begin_begins w i call)) x)
begin_places all w i k call p false e h x =
    subst (λ (l : Local). SeatPlaced all k l (Then p i (events.Begin call))) (sym (begin_stays w i k call e))
    (subst (λ (b : Bool). Placed all (w.seat k).phase (w.seat k).desk.report.read (w.seat k).desk.list b) (sym (scans_other k i (events.Begin call ∷ []) p e)) (h.places k))

-- what a history keeps
pub record Scanned (layout : Layout) (made : Made) : Type 0 where
  pub base : Keeps layout made
  pub tied : Tied (guards layout.config) made.world made.past
  pub law : Each (scan_ok layout.config) made.past

begin_scanned : (layout : Layout) (made : Made) (i : ℕ) (call : Call) → is_busy made.world i ≡ false → may_start made.world i call ≡ true → Scanned layout made → Scanned layout (done made (Begins i call))
begin_scanned layout made i call f m g =
    let all : ℕ = guards layout.config in
    let later = begin_keeps layout made i call f m g.base in
    let l : list_of i made.past ≡ (made.world.seat i).desk.list = g.base.shows.lists i ∙ begins_own made.world i call m in
    let q : list_of i (Then made.past i (events.Begin call)) ≡ (made.world.seat i).desk.list = list_own i (events.Begin call) made.past refl ∙ l in
    record {
      base = later;
      tied = record {
        reads = λ k. begin_reads all made.world i k call made.past (k == i) refl (g.tied.reads k);
        places = λ k. begin_places all made.world i k call made.past (k == i) refl g.tied (begin_own all made.world i call made.past f g.tied l q);
      };
      law = (one_allowed layout.config i (events.Begin call) made.past refl (begin_rests all made.world i made.past f g.tied l), g.law);
    }

step_scanned : (layout : Layout) (made : Made) (i : ℕ) → i < made.world.layout.config.seats → is_busy made.world i ≡ true → Scanned layout made → Scanned layout (done made (Steps i))
step_scanned layout made i b y g =
    let all : ℕ = guards layout.config in
    let w : World = made.world in
    let later = step_keeps layout made i b y g.base in
    let q : list_of i (tells_of made.past i (told_in w i)) ≡ ((step w i).seat i).desk.list = later.shows.lists i ∙ stepped_own w i g.base.rows made.past y g.base.known.whole.both.rows g.base.shows in
    let z : ((step w i).seat i).desk.list ≡ (turn (offered w i) (finds w i)).desk.list = ap (λ (x : Local). x.desk.list) (seat_steps w i) ∙ ap (λ (d : Desk). d.list) (after_desk (offered w i) (finds w i)) in
    let t = own_told layout w i made.past g.base.table g.base.known.seats g.tied (g.base.shows.lists i ∙ busy_list w i g.base.rows y g.base.known.whole.both.rows) q in
    record {
      base = later;
      tied = record {
        reads = λ k. step_reads all w i k made.past (k == i) refl g.tied t.reads;
        places = λ k. step_places all w i k made.past (k == i) refl g.tied (settled_placed all i (w.seat i) (turn (offered w i) (finds w i)) (tells_of made.past i (told_in w i)) (t.places (q ∙ z)));
      };
      law = t.each g.law;
    }

steady : (layout : Layout) → Steady (Scanned layout)
steady layout = record { begins = λ made i call b y m g. begin_scanned layout made i call y m g; steps = λ made i b y g. step_scanned layout made i b y g }

first_scanned : (layout : Layout) → is_valid layout ≡ true → Scanned layout (first_made layout)
first_scanned layout d = record {
  base = first_keeps layout d;
  tied = record { reads = λ k. refl; places = λ k. record { whole = refl; over = refl } };
  law = tt;
}

pub records_keep_scans : RecordsKeepScans
records_keep_scans layout items d = let g = items_keep (Scanned layout) (steady layout) items (first_made layout) (first_scanned layout d) in entries_of_each (scan_ok layout.config) (record_of layout items) g.law
