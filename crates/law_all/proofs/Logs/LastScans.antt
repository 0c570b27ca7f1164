-- What a seat keeps of its last scan is what its last block has read by the record.
use Rattle.std.proofs.Common.{ℕ, zero, suc, ◌≡◌, Bool, true, false, List, [], ◌∷◌, ◌++◌, length, Option, Some, None, refl, sym, ap, ◌∙◌, subst, arith}
use Rattle.law_scans.specs.inv.model.Rounds.{scheme_of}
use Rattle.law_scans.specs.laws.words.Schemes.{publishes_rows}
use Rattle.std.proofs.lemmas.Bool.Decides.{nat_tests}
use Rattle.std.specs.Prelude.{◌==◌, ◌||◌}
use Rattle.law_scans.specs.inv.model.Calls.{AfterScan, Answered, Repeated, Counted, ScanAt, ReadGuard, GiveBack, Phase, Idle, Runs, Scans, Works, CallTurn, CallOutcome, GoesOn, Answers}
use Rattle.law_scans.specs.inv.model.Desks.{Desk, Report, noting}
use Rattle.law_scans.specs.inv.model.Guards.{guards}
use Rattle.law_scans.specs.inv.model.Locals.{Local, after, begun, begun_post, busy_in, rounds_told, told_by, told_end, turn}
use Rattle.law_scans.specs.inv.model.Posts.{counted}
use Rattle.law_scans.specs.inv.model.Scan.{Entry, giving_back, scanned, scan_turn, unmet_from, with_back, with_kept}
use Rattle.law_scans.specs.inv.model.Steps.{first_phase, phase_turn}
use Rattle.law_scans.specs.inv.model.World.{World, begin, finds, is_busy, offered, step, told_in}
use Rattle.law_scans.specs.inv.model.declared.post.Post.{Post}
use Rattle.law_scans.specs.laws.defs.Shown.{Seen}
use Rattle.law_scans.specs.laws.defs.declared.call.Call.{Call}
use Rattle.law_scans.specs.laws.defs.declared.event.Event.{Event}
use Rattle.law_scans.specs.laws.defs.declared.event.Event.TheVariants as events
use Rattle.law_scans.specs.laws.defs.declared.lifetime.Lifetime.{Lifetime}
use Rattle.law_scans.specs.laws.words.declared.layout.Layout.{Layout}
use Rattle.law_scans.specs.laws.StateAt.{read_by, read_of}
use Rattle.law_scans.specs.inv.Inv.{Inv}
use Rattle.law_scans.specs.inv.covers.Covers.{is_fresh}
use Rattle.law_scans.specs.inv.history.History.{Made, first_made}
use Rattle.law_scans.specs.laws.records.Record.{Past, tells_of}
use Rattle.law_scans.specs.laws.records.Record.Past.{Then}
use Rattle.law_scans.specs.inv.shapes.Frame.{phase_left}
use Rattle.law_scans.specs.inv.shapes.Seats.{scan_fits}
use Rattle.law_scans.proofs.inv.Inv.Begun.{inv_start, inv_begin}
use Rattle.law_scans.proofs.inv.Inv.Kept.{inv_kept}
use Rattle.law_scans.proofs.inv.covers.Begun.{first_begins}
use Rattle.law_scans.proofs.inv.covers.Fresh.{round_fresh}
use Rattle.law_scans.proofs.inv.covers.Held.{settled_phase}
use Rattle.law_scans.proofs.reuse.history.AllOf.{all_of}
use Rattle.law_scans.proofs.reuse.history.Along.{Steady, items_keep}
use Rattle.law_scans.proofs.reuse.shapes.Frame.{seat_stays, seat_steps, begin_stays, begin_begins}
use Rattle.law_scans.proofs.reuse.Blocks.Calm.{read_other, read_own, run_fresh, run_report, told_same, unread_same, work_report, works_fresh}
use Rattle.law_scans.proofs.reuse.Blocks.Keeps.{ScanFits, after_desk, scans_fit}
use Rattle.law_scans.proofs.reuse.Blocks.Placed.{Placed, PlacedAt, scan_event, scan_placed, scan_reads, scan_tells}
use Rattle.law_scans.proofs.reuse.Once.Calm.{is_unread, run_unread, work_unread}
use Rattle.law_all.specs.Logs.Records.{RecordReads}

-- nothing was read yet, or a whole block
abbrev Whole : ℕ → List Seen → Type 0
Whole all read = (length read == 0 || length read == all) ≡ true

-- so many guards as were read before the next one
abbrev ReadAt : ℕ → ScanAt → List Seen → Type 0
ReadAt all (ReadGuard zero) read = Whole all read
ReadAt all (ReadGuard (suc n)) read = length read ≡ suc n
ReadAt all (GiveBack place slot) read = Whole all read

abbrev ReadIn : ℕ → Phase → List Seen → Type 0
ReadIn all Idle read = Whole all read
ReadIn all (Runs why base) read = Whole all read
ReadIn all (Scans later at) read = ReadAt all at read
ReadIn all (Works work) read = Whole all read

fresh_in : (all : ℕ) (phase : Phase) (read : List Seen) → is_fresh phase ≡ true → Whole all read → ReadIn all phase read
fresh_in all Idle read f h = h
fresh_in all (Runs why base) read f h = h
fresh_in all (Scans later (ReadGuard zero)) read f h = h
fresh_in all (Scans later (ReadGuard (suc n))) read f h = absurd (cc)
fresh_in all (Scans later (GiveBack place slot)) read f h = absurd (cc)
fresh_in all (Works work) read f h = h

all_whole : (all : ℕ) (read : List Seen) → length read ≡ all → Whole all read
all_whole all read h = grind (arith, nat_tests)

placed_in : (all : ℕ) (phase : Phase) (read : List Seen) (list : List Lifetime) (scans : Bool) → Placed all phase read list scans → ReadIn all phase read
placed_in all Idle read list scans h = h.whole
placed_in all (Runs why base) read list scans h = h.whole
placed_in all (Scans later (ReadGuard zero)) read list scans h = h.whole
placed_in all (Scans later (ReadGuard (suc n))) read list scans h = h.0
placed_in all (Scans later (GiveBack place slot)) read list scans h = all_whole all read h.whole
placed_in all (Works work) read list scans h = h.whole

-- what a turn leaves of it
record Left (all : ℕ) (read : List Seen) (t : CallTurn) : Type 0 where
  reads : t.desk.report.read ≡ read
  stands : ReadIn all (phase_left t.outcome) t.desk.report.read

-- rows that go back
scanned_left : (all : ℕ) (later : AfterScan) (post : Post) (desk : Desk) (told : List Event) → Whole all desk.report.read → Left all desk.report.read (scanned later post desk told)
scanned_left all (Answered answer) post desk told h = record { reads = refl; stands = h }
scanned_left all (Repeated task) post desk told h = record { reads = refl; stands = fresh_in all (phase_left (scanned (Repeated task) post desk told).outcome) desk.report.read (round_fresh task post).fresh h }
scanned_left all Counted post desk told h = record { reads = refl; stands = h }

giving_left : (all : ℕ) (later : AfterScan) (post : Post) (desk : Desk) (told : List Event) (o : Option Entry) → Whole all desk.report.read → Left all desk.report.read (giving_back later post desk told o)
giving_left all later post desk told None h = scanned_left all later post (with_kept desk) told h
giving_left all later post desk told (Some entry) h = record { reads = refl; stands = h }

-- a guard that is read
guard_placed : (all n : ℕ) (read : List Seen) (list : List Lifetime) → ReadAt all (ReadGuard n) read → (scans : Bool) × PlacedAt all (ReadGuard n) read list scans
guard_placed all zero read list h = (false, record { whole = h; over = refl })
guard_placed all (suc n) read list h = (true, (h, refl))

scan_left : (later : AfterScan) (at : ScanAt) (post : Post) (desk : Desk) (found : ℕ) → scan_fits post.layout.config at ≡ true → ReadAt (guards post.layout.config) at desk.report.read
    → Left (guards post.layout.config) (read_by (guards post.layout.config) (scan_event at post found) desk.report.read) (scan_turn later at post desk found)
scan_left later (ReadGuard n) post desk found f h =
    let all : ℕ = guards post.layout.config in
    let t : CallTurn = scan_turn later (ReadGuard n) post desk found in
    let p = guard_placed all n desk.report.read desk.list h in
    record {
      reads = scan_reads later (ReadGuard n) post desk found p.0 f p.1;
      stands = placed_in all (phase_left t.outcome) t.desk.report.read t.desk.list true (scan_placed later (ReadGuard n) post desk found p.0 f p.1);
    }
scan_left later (GiveBack place slot) post desk found f h =
    giving_left (guards post.layout.config) later post (with_back desk place) (events.Back slot ∷ []) (unmet_from (with_back desk place) place) h

-- a turn of a seat
record Told (all i : ℕ) (t : CallTurn) (p : Past) : Type 0 where
  reads : read_of all i (tells_of p i (told_by t)) ≡ t.desk.report.read
  stands : ReadIn all (phase_left t.outcome) t.desk.report.read

calm_told : (all i : ℕ) (desk : Desk) (t : CallTurn) (p : Past) → read_of all i p ≡ desk.report.read → Whole all desk.report.read → all_of is_unread (told_by t) ≡ true → t.desk.report ≡ desk.report → is_fresh (phase_left t.outcome) ≡ true → Told all i t p
calm_told all i desk t p r h u e f =
    let same : t.desk.report.read ≡ desk.report.read = ap (λ (x : Report). x.read) e in
    record {
      reads = told_same all i (told_by t) p u ∙ r ∙ sym same;
      stands = fresh_in all (phase_left t.outcome) t.desk.report.read f (subst (Whole all) (sym same) h);
    }

end_reads : (all i : ℕ) (event : Event) (p : Past) (post : Post) (outcome : CallOutcome) → read_of all i (tells_of p i (event ∷ told_end post outcome)) ≡ read_by all event (read_of all i p)
end_reads all i event p post (GoesOn phase) = read_own all i event p
end_reads all i event p post (Answers answer) = unread_same all i (events.End post.steps answer) (Then p i event) refl ∙ read_own all i event p

scan_told : (i : ℕ) (later : AfterScan) (at : ScanAt) (post : Post) (desk : Desk) (found : ℕ) (p : Past) → scan_fits post.layout.config at ≡ true → read_of (guards post.layout.config) i p ≡ desk.report.read → ReadAt (guards post.layout.config) at desk.report.read
    → Told (guards post.layout.config) i (scan_turn later at post desk found) p
scan_told i later at post desk found p f r h =
    let all : ℕ = guards post.layout.config in
    let t : CallTurn = scan_turn later at post desk found in
    let event : Event = scan_event at post found in
    let e : told_by t ≡ event ∷ told_end t.post t.outcome = ap (λ (told : List Event). told ++ told_end t.post t.outcome) (scan_tells later at post desk found) in
    let l = scan_left later at post desk found f h in
    record {
      reads = ap (λ (told : List Event). read_of all i (tells_of p i told)) e ∙ end_reads all i event p t.post t.outcome ∙ ap (read_by all event) r ∙ sym l.reads;
      stands = l.stands;
    }

phase_told : (i : ℕ) (phase : Phase) (post : Post) (desk : Desk) (found : ℕ) (p : Past) → ScanFits post.layout.config phase → read_of (guards post.layout.config) i p ≡ desk.report.read → ReadIn (guards post.layout.config) phase desk.report.read
    → Told (guards post.layout.config) i (phase_turn phase post desk found) p
phase_told i Idle post desk found p f r h = calm_told (guards post.layout.config) i desk (phase_turn Idle post desk found) p r h refl refl refl
phase_told i (Runs why base) post desk found p f r h =
    calm_told (guards post.layout.config) i desk (phase_turn (Runs why base) post desk found) p r h (run_unread why base post desk found) (run_report why base post desk found) (run_fresh why base post desk found)
phase_told i (Scans later at) post desk found p f r h = scan_told i later at post desk found p f r h
phase_told i (Works work) post desk found p f r h =
    calm_told (guards post.layout.config) i desk (phase_turn (Works work) post desk found) p r h (work_unread work post desk found) (work_report work post desk found) (works_fresh work post desk found)

-- a seat, by the record
record SeatReads (all k : ℕ) (l : Local) (p : Past) : Type 0 where
  reads : read_of all k p ≡ l.desk.report.read
  stands : ReadIn all l.phase l.desk.report.read

after_reads : (all i : ℕ) (l : Local) (found : ℕ) (p : Past) → Told all i (turn l found) p → SeatReads all i (after l found) (tells_of p i (told_by (turn l found)))
after_reads all i l found p h =
    let t : CallTurn = turn l found in
    let d : (after l found).desk.report.read ≡ t.desk.report.read = ap (λ (x : Desk). x.report.read) (after_desk l found) in
    let e : (after l found).phase ≡ phase_left t.outcome = settled_phase l t.post (noting t.desk (told_by t)) (rounds_told (publishes_rows (scheme_of t.post)) l.rounds (told_by t)) t.outcome in
    record {
      reads = h.reads ∙ sym d;
      stands = subst (λ (phase : Phase). ReadIn all phase (after l found).desk.report.read) (sym e) (subst (ReadIn all (phase_left t.outcome)) (sym d) h.stands);
    }

other_reads : (all k i : ℕ) (told : List Event) (l : Local) (p : Past) → (k == i) ≡ false → SeatReads all k l p → SeatReads all k l (tells_of p i told)
other_reads all k i told l p e h = record { reads = read_other all k i told p e ∙ h.reads; stands = h.stands }

-- what a history keeps
record Keeps (layout : Layout) (made : Made) : Type 0 where
  table : made.world.layout ≡ layout
  known : Inv made.world
  seats : (k : ℕ) → SeatReads (guards layout.config) k (made.world.seat k) made.past

own_step : (layout : Layout) (made : Made) (i : ℕ) → Keeps layout made → SeatReads (guards layout.config) i ((step made.world i).seat i) (tells_of made.past i (told_in made.world i))
own_step layout made i g =
    let w : World = made.world in
    let own : Local = offered w i in
    let s = g.known.known.seats in
    let a : own.post.layout ≡ layout = (s.fits i).post.layout ∙ g.table in
    let f : ScanFits own.post.layout.config own.phase = subst (λ (x : Layout). ScanFits x.config own.phase) (sym (s.fits i).post.layout) (scans_fit w.layout own.post own.phase (s.fits i).phase) in
    let h : SeatReads (guards own.post.layout.config) i own made.past = subst (λ (x : Layout). SeatReads (guards x.config) i own made.past) (sym a) (record { reads = (g.seats i).reads; stands = (g.seats i).stands }) in
    let t : Told (guards layout.config) i (turn own (finds w i)) made.past = subst (λ (x : Layout). Told (guards x.config) i (turn own (finds w i)) made.past) a (phase_told i own.phase (counted own.post) own.desk (finds w i) made.past f h.reads h.stands) in
    subst (λ (l : Local). SeatReads (guards layout.config) i l (tells_of made.past i (told_in w i))) (sym (seat_steps w i)) (after_reads (guards layout.config) i own (finds w i) made.past t)

step_reads : (layout : Layout) (made : Made) (i k : ℕ) (same : Bool) → (k == i) ≡ same → Keeps layout made → SeatReads (guards layout.config) k ((step made.world i).seat k) (tells_of made.past i (told_in made.world i))
step_reads layout made i k true e g =
    let one : i ≡ k = grind (arith, nat_tests) in
    subst (λ (j : ℕ). SeatReads (guards layout.config) j ((step made.world i).seat j) (tells_of made.past i (told_in made.world i))) one (own_step layout made i g)
step_reads layout made i k false e g =
    subst (λ (l : Local). SeatReads (guards layout.config) k l (tells_of made.past i (told_in made.world i))) (sym (seat_stays made.world i k e)) (other_reads (guards layout.config) k i (told_in made.world i) (made.world.seat k) made.past e (g.seats k))

idle_whole : (all : ℕ) (phase : Phase) (read : List Seen) → busy_in phase ≡ false → ReadIn all phase read → Whole all read
idle_whole all Idle read f h = h
idle_whole all (Runs why base) read f h = h
idle_whole all (Scans later at) read f h = absurd (cc)
idle_whole all (Works work) read f h = h

begun_reads : (all i : ℕ) (l : Local) (call : Call) (p : Past) → busy_in l.phase ≡ false → SeatReads all i l p → SeatReads all i (begun l call) (Then p i (events.Begin call))
begun_reads all i l call p f h = record {
  reads = unread_same all i (events.Begin call) p refl ∙ h.reads;
  stands = fresh_in all (first_phase call (begun_post l.post)) l.desk.report.read (first_begins call (begun_post l.post)).fresh (idle_whole all l.phase l.desk.report.read f h.stands);
}

begin_reads : (layout : Layout) (made : Made) (i k : ℕ) (call : Call) (same : Bool) → (k == i) ≡ same → is_busy made.world i ≡ false → Keeps layout made → SeatReads (guards layout.config) k ((begin made.world i call).seat k) (Then made.past i (events.Begin call))
begin_reads layout made i k call true e f g =
    let one : i ≡ k = grind (arith, nat_tests) in
    let p : Past = Then made.past i (events.Begin call) in
    subst (λ (j : ℕ). SeatReads (guards layout.config) j ((begin made.world i call).seat j) p) one
    (subst (λ (l : Local). SeatReads (guards layout.config) i l p) (sym (begin_begins made.world i call)) (begun_reads (guards layout.config) i (made.world.seat i) call made.past f (g.seats i)))
begin_reads layout made i k call false e f g =
    subst (λ (l : Local). SeatReads (guards layout.config) k l (Then made.past i (events.Begin call))) (sym (begin_stays made.world i k call e)) (other_reads (guards layout.config) k i (events.Begin call ∷ []) (made.world.seat k) made.past e (g.seats k))

steady : (layout : Layout) → Steady (Keeps layout)
steady layout = record {
  begins = λ made i call b y m g. record { table = g.table; known = inv_begin made.world i call y m g.known; seats = λ k. begin_reads layout made i k call (k == i) refl y g };
  steps = λ made i b y g. record { table = g.table; known = inv_kept made.world i b g.known; seats = λ k. step_reads layout made i k (k == i) refl g };
}

pub record_reads : RecordReads
record_reads layout items k d =
    let g = items_keep (Keeps layout) (steady layout) items (first_made layout) (record { table = refl; known = inv_start layout d; seats = λ j. record { reads = refl; stands = refl } }) in
    (g.seats k).reads
