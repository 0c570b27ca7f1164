-- A call that only scans makes one block, and counts what goes back.
use Rattle.std.proofs.Common.{ℕ, ◌≡◌, ◌<◌, ◌+◌, Bool, true, false, List, [], ◌∷◌, ◌++◌, length, Option, Some, None, refl, sym, ap, ◌∙◌, subst, arith}
use Rattle.inv_all.specs.model.words.Schemes.{publishes_rows}
use Rattle.inv_all.specs.model.Rounds.{scheme_of}
use Rattle.std.proofs.lemmas.Bool.Decides.{nat_tests}
use Rattle.std.specs.Prelude.{◌==◌, ◌&&◌, nat_lt, if◌then◌else◌}
use Rattle.laws.specs.defs.Shown.{Seen}
use Rattle.laws.specs.words.declared.config.Config.{Config}
use Rattle.laws.specs.words.declared.layout.Layout.{Layout}
use Rattle.laws.specs.defs.declared.call.Answer.{Answer}
use Rattle.laws.specs.defs.declared.call.Answer.TheVariants as the_answers
use Rattle.laws.specs.defs.declared.call.Call.{Call}
use Rattle.laws.specs.defs.declared.call.Call.TheVariants as names
use Rattle.laws.specs.defs.declared.event.Event.{Event}
use Rattle.laws.specs.defs.declared.event.Event.TheVariants as events
use Rattle.inv_all.specs.model.declared.post.Post.{Post}
use Rattle.inv_all.specs.model.Calls.{AfterScan, Counted, ScanAt, ReadGuard, GiveBack, Phase, Idle, Runs, Scans, Works, CallTurn, CallOutcome, GoesOn, Answers}
use Rattle.inv_all.specs.model.Desks.{Desk, Report, noting}
use Rattle.inv_all.specs.model.Guards.{guards, guard_at, published}
use Rattle.inv_all.specs.model.Locals.{Local, after, begun, settled, rounds_told, told_by, told_end, turn}
use Rattle.inv_all.specs.model.Posts.{counted}
use Rattle.inv_all.specs.model.Scan.{Entry, giving_back, reading, reads_guard, with_read, with_back, unmet_from, scan_turn}
use Rattle.inv_all.specs.model.Steps.{phase_turn}
use Rattle.inv_all.specs.model.World.{World, begin, finds, is_busy, offered, step, told_in, may_start}
use Rattle.inv_all.proofs.model.Facts.{same_number, both, first_of, rest_of}
use Rattle.inv_all.specs.covers.Covers.{upto_at}
use Rattle.inv_all.proofs.covers.Held.{settled_phase}
use Rattle.inv_all.specs.shapes.Frame.{phase_left}
use Rattle.inv_all.specs.shapes.Seats.{scan_fits}
use Rattle.inv_all.proofs.shapes.Frame.{seat_stays, seat_steps, begin_stays, begin_begins}
use Rattle.laws.specs.records.Record.{Past, Each, begins, own, tells_of}
use Rattle.laws.specs.records.Record.Past.{Then}
use Rattle.laws.specs.Lists.{list_of, without}
use Rattle.laws.specs.StateAt.{call_of, is_read, is_back, times}
use Rattle.laws.proofs.records.Entries.{entries_of_each}
use Rattle.inv_all.specs.history.History.{Begins, Steps, Made, done, first_made, record_of}
use Rattle.inv_all.proofs.history.Along.{Steady, items_keep}
use Rattle.inv_all.specs.rows.Hands.{each_once, is_right, scans_right}
use Rattle.laws.proofs.Along.{list_own}
use Rattle.law_reuse.proofs.Once.Calm.{is_calm, run_calm, work_calm}
use Rattle.law_reuse.proofs.Once.Keeps.{Keeps, first_keeps, begin_keeps, step_keeps}
use Rattle.law_reuse.proofs.Once.Moves.{removed}
use Rattle.laws.specs.HistoryScans.{answers_scan, count_ok}
use Rattle.laws.specs.ScanLaw.{is_scan_call}
use Rattle.law_reuse.specs.Records.{RecordsCountScans}
use Rattle.law_reuse.proofs.Blocks.Keeps.{ScanFits, scans_fit}
use Rattle.law_reuse.proofs.Blocks.Placed.{scan_event, scan_tells}
use Rattle.inv_all.proofs.history.AllOf.{all_of, of_along}
use Rattle.law_reuse.proofs.ReadGuards.{reads_are}
use Rattle.inv_all.proofs.Machines.{is_within}
use Rattle.inv_all.proofs.Inv.Whole.{covers_of}
use Rattle.inv_all.proofs.rows.Kept.{busy_plays}
use Rattle.law_reuse.proofs.Once.Lists.{busy_list, settled_list}

calm_within : (told : List Event) → all_of is_calm told ≡ true → all_of is_within told ≡ true
calm_within [] h = refl
calm_within (event ∷ told) h = both (is_within event) (all_of is_within told) (one_within event (first_of (is_calm event) (all_of is_calm told) h)) (calm_within told (rest_of (is_calm event) (all_of is_calm told) h))
  where
    one_within : (event : Event) → is_calm event ≡ true → is_within event ≡ true
    one_within (events.Begin call) h = absurd (cc)
    one_within event h = refl

-- what other seats tell
call_one : (k i : ℕ) (event : Event) (p : Past) → (k == i) ≡ false → call_of k (Then p i event) ≡ call_of k p
call_one k i (events.Begin call) p h = rw h refl
call_one k i (events.End steps answer) p h = rw h refl
call_one k i event p h = refl

call_other : (k i : ℕ) (told : List Event) (p : Past) → (k == i) ≡ false → call_of k (tells_of p i told) ≡ call_of k p
call_other k i [] p h = refl
call_other k i (event ∷ told) p h = call_other k i told (Then p i event) h ∙ call_one k i event p h

no_own : (k i : ℕ) (kind : Event → Bool) (event : Event) (p : Past) → (k == i) ≡ false → own k kind p i event ≡ false
no_own k i kind event p h = by (kind event)
  where
    by : (b : Bool) → (b && k == i) ≡ false
    by true = h
    by false = refl

no_begin : (k i : ℕ) (event : Event) (p : Past) → (k == i) ≡ false → begins k p i event ≡ false
no_begin k i (events.Begin call) p h = h
no_begin k i event p h = refl

count_by : (a b : Bool) (n : ℕ) → a ≡ false → b ≡ false → (if a then 0 else if b then n + 1 else n) ≡ n
count_by true b n h k = absurd (cc)
count_by false true n h k = absurd (cc)
count_by false false n h k = refl

times_one : (k i : ℕ) (kind : Event → Bool) (event : Event) (p : Past) → (k == i) ≡ false → times k kind (Then p i event) ≡ times k kind p
times_one k i kind event p h = count_by (begins k p i event) (own k kind p i event) (times k kind p) (no_begin k i event p h) (no_own k i kind event p h)

times_other : (k i : ℕ) (kind : Event → Bool) (told : List Event) (p : Past) → (k == i) ≡ false → times k kind (tells_of p i told) ≡ times k kind p
times_other k i kind [] p h = refl
times_other k i kind (event ∷ told) p h = times_other k i kind told (Then p i event) h ∙ times_one k i kind event p h

-- what the seat tells itself
times_read : (i : ℕ) (kind : Event → Bool) (event : Event) (p : Past) → begins i p i event ≡ false → kind event ≡ true → times i kind (Then p i event) ≡ times i kind p + 1
times_read i kind event p b h = rw (b, h, same_number i) refl

times_quiet : (i : ℕ) (kind : Event → Bool) (event : Event) (p : Past) → begins i p i event ≡ false → kind event ≡ false → times i kind (Then p i event) ≡ times i kind p
times_quiet i kind event p b h = rw (b, h) refl

-- a call that does more than scan
call_within : (i : ℕ) (event : Event) (p : Past) → is_within event ≡ true → is_scan_call (call_of i p) ≡ false → is_scan_call (call_of i (Then p i event)) ≡ false
call_within i (events.Begin call) p w h = absurd (cc)
call_within i (events.End steps answer) p w h = rw (same_number i) refl
call_within i event p w h = h

calls_within : (i : ℕ) (told : List Event) (p : Past) → all_of is_within told ≡ true → is_scan_call (call_of i p) ≡ false → is_scan_call (call_of i (tells_of p i told)) ≡ false
calls_within i [] p w h = h
calls_within i (event ∷ told) p w h = calls_within i told (Then p i event) (rest_of (is_within event) (all_of is_within told) w) (call_within i event p (first_of (is_within event) (all_of is_within told) w) h)

other_ok : (config : Config) (i : ℕ) (event : Event) (p : Past) → is_scan_call (call_of i p) ≡ false → count_ok config p i event ≡ true
other_ok config i (events.End steps answer) p h = rw h refl
other_ok config i event p h = refl

other_each : (config : Config) (i : ℕ) (told : List Event) (p : Past) → all_of is_within told ≡ true → is_scan_call (call_of i p) ≡ false → Each (count_ok config) p → Each (count_ok config) (tells_of p i told)
other_each config i [] p w h t = t
other_each config i (event ∷ told) p w h t =
    other_each config i told (Then p i event) (rest_of (is_within event) (all_of is_within told) w) (call_within i event p (first_of (is_within event) (all_of is_within told) w) h) (other_ok config i event p h, t)

-- where a call that only scans stands
abbrev back_at : ScanAt → Report → ℕ
back_at (ReadGuard number) report = 0
back_at (GiveBack place slot) report = report.back

pub record Counting (all k : ℕ) (phase : Phase) (report : Report) (p : Past) : Type 0 where
  pub at : ScanAt
  pub stands : phase ≡ Scans Counted at
  pub reads : times k is_read p ≡ upto_at all at
  pub backs : times k is_back p ≡ back_at at report

abbrev pub SeatCounts : ℕ → ℕ → Local → Past → Type 0
SeatCounts all k l p = is_scan_call (call_of k p) ≡ true → Counting all k l.phase l.desk.report p

-- what a step of the scan leaves, once its event is told
abbrev Counts : Config → ℕ → Report → Past → CallOutcome → Type 0
Counts config i report p (GoesOn phase) = Counting (guards config) i phase report p
Counts config i report p (Answers answer) = answers_scan config i p answer ≡ true

answer_counts : (config : Config) (i kept back : ℕ) (p : Past) → times i is_read p ≡ guards config → kept ≡ length (list_of i p) → back ≡ times i is_back p → answers_scan config i p (the_answers.Scanned kept back) ≡ true
answer_counts config i kept back p r l b =
    let x : (times i is_read p == guards config) ≡ true = grind (arith, nat_tests) in
    let y : (kept == length (list_of i p)) ≡ true = grind (arith, nat_tests) in
    let z : (back == times i is_back p) ≡ true = grind (arith, nat_tests) in
    both (times i is_read p == guards config) (kept == length (list_of i p) && back == times i is_back p) x (both (kept == length (list_of i p)) (back == times i is_back p) y z)

giving_counts : (config : Config) (i : ℕ) (post : Post) (desk : Desk) (told : List Event) (x : Option Entry) (p : Past) → times i is_read p ≡ guards config → times i is_back p ≡ desk.report.back → list_of i p ≡ desk.list
    → Counts config i (giving_back Counted post desk told x).desk.report p (giving_back Counted post desk told x).outcome
giving_counts config i post desk told None p r b l = answer_counts config i (length desk.list) desk.report.back p r (sym (ap length l)) (sym b)
giving_counts config i post desk told (Some entry) p r b l = record { at = GiveBack entry.0 entry.1.slot; stands = refl; reads = r; backs = b }

reading_counts : (config : Config) (i number : ℕ) (post : Post) (desk : Desk) (told : List Event) (more : Bool) (p : Past) → nat_lt (number + 1) (guards config) ≡ more → number < guards config → times i is_read p ≡ number + 1 → times i is_back p ≡ 0 → desk.report.back ≡ 0 → list_of i p ≡ desk.list
    → Counts config i (reading Counted number post desk told more).desk.report p (reading Counted number post desk told more).outcome
reading_counts config i number post desk told true p m n r b z l = record { at = ReadGuard (number + 1); stands = refl; reads = r; backs = b }
reading_counts config i number post desk told false p m n r b z l =
    let e : times i is_read p ≡ guards config = grind (arith, nat_tests) in giving_counts config i post desk told (unmet_from desk 0) p e (b ∙ sym z) l

-- a guard that is read is counted so
record Reading (i : ℕ) (event : Event) (p : Past) : Type 0 where
  starts : begins i p i event ≡ false
  reads : is_read event ≡ true
  backs : is_back event ≡ false
  lists : list_of i (Then p i event) ≡ list_of i p

scan_counts : (i : ℕ) (at : ScanAt) (post : Post) (desk : Desk) (found : ℕ) (p : Past) → scan_fits post.layout.config at ≡ true → times i is_read p ≡ upto_at (guards post.layout.config) at → times i is_back p ≡ back_at at desk.report
    → list_of i p ≡ desk.list → each_once desk.list ≡ true → scans_right at desk.list ≡ true
    → Counts post.layout.config i (scan_turn Counted at post desk found).desk.report (Then p i (scan_event at post found)) (scan_turn Counted at post desk found).outcome
scan_counts i (ReadGuard n) post desk found p f r b l d s =
    let config : Config = post.layout.config in
    let rows : Bool = publishes_rows config.scheme in
    let seen : Seen = (guard_at config n, published rows (guard_at config n) found) in
    let event : Event = reads_guard rows seen.0 found in
    let m : n < guards config = grind (arith, nat_tests) in
    let quiet : Reading i event p = reads_are (λ (e : Event). Reading i e p) rows seen.0 found (λ span. record { starts = refl; reads = refl; backs = refl; lists = list_own i (events.Read seen.0 span) p refl }) (λ slot. record { starts = refl; reads = refl; backs = refl; lists = list_own i (events.Saw seen.0 slot) p refl }) in
    reading_counts config i n post (with_read desk n seen) (event ∷ []) (nat_lt (n + 1) (guards config)) (Then p i event) refl m
    (times_read i is_read event p quiet.starts quiet.reads ∙ ap (λ (x : ℕ). x + 1) r) (times_quiet i is_back event p quiet.starts quiet.backs ∙ b) refl (quiet.lists ∙ l)
scan_counts i (GiveBack place slot) post desk found p f r b l d s =
    let event : Event = events.Back slot in
    giving_counts post.layout.config i post (with_back desk place) (event ∷ []) (unmet_from (with_back desk place) place) (Then p i event)
    (times_quiet i is_read event p refl refl ∙ r) (times_read i is_back event p refl refl ∙ ap (λ (x : ℕ). x + 1) b)
    (list_own i event p refl ∙ ap (without slot) l ∙ sym (removed desk.list place slot d s))

-- what a turn of the seat leaves
record OwnCounts (config : Config) (i : ℕ) (t : CallTurn) (p : Past) : Type 0 where
  later : is_scan_call (call_of i (tells_of p i (told_by t))) ≡ true → Counting (guards config) i (phase_left t.outcome) t.desk.report (tells_of p i (told_by t))
  each : Each (count_ok config) p → Each (count_ok config) (tells_of p i (told_by t))

other_counts : (config : Config) (i : ℕ) (t : CallTurn) (p : Past) → all_of is_within (told_by t) ≡ true → is_scan_call (call_of i p) ≡ false → OwnCounts config i t p
other_counts config i t p w h =
    let n : is_scan_call (call_of i (tells_of p i (told_by t))) ≡ false = calls_within i (told_by t) p w h in
    record { later = λ y. absurd (cc); each = other_each config i (told_by t) p w h }

event_counts : (config : Config) (at : ScanAt) (post : Post) (found i : ℕ) (p : Past) → count_ok config p i (scan_event at post found) ≡ true
event_counts config (ReadGuard n) post found i p = reads_are (λ (event : Event). count_ok config p i event ≡ true) (publishes_rows post.layout.config.scheme) (guard_at post.layout.config n) found (λ span. refl) (λ slot. refl)
event_counts config (GiveBack place slot) post found i p = refl

end_counts : (config : Config) (i steps : ℕ) (answer : Answer) (p : Past) → answers_scan config i p answer ≡ true → count_ok config p i (events.End steps answer) ≡ true
end_counts config i steps answer p h = by (is_scan_call (call_of i p))
  where
    by : (b : Bool) → (if b then answers_scan config i p answer else true) ≡ true
    by true = h
    by false = refl

ended : (i steps : ℕ) (answer : Answer) (p : Past) → is_scan_call (call_of i (Then p i (events.End steps answer))) ≡ false
ended i steps answer p = rw (same_number i) refl

left_later : (config : Config) (i : ℕ) (event : Event) (p : Past) (post : Post) (report : Report) (outcome : CallOutcome) → Counts config i report (Then p i event) outcome
    → is_scan_call (call_of i (tells_of p i (event ∷ told_end post outcome))) ≡ true → Counting (guards config) i (phase_left outcome) report (tells_of p i (event ∷ told_end post outcome))
left_later config i event p post report (GoesOn phase) c h = c
left_later config i event p post report (Answers answer) c h = let n = ended i post.steps answer (Then p i event) in absurd (cc)

left_each : (config : Config) (i : ℕ) (event : Event) (p : Past) (post : Post) (report : Report) (outcome : CallOutcome) → Counts config i report (Then p i event) outcome → count_ok config p i event ≡ true → Each (count_ok config) p → Each (count_ok config) (tells_of p i (event ∷ told_end post outcome))
left_each config i event p post report (GoesOn phase) c o t = (o, t)
left_each config i event p post report (Answers answer) c o t = (end_counts config i post.steps answer (Then p i event) c, (o, t))

scan_own : (i : ℕ) (at : ScanAt) (post : Post) (desk : Desk) (found : ℕ) (p : Past) → scan_fits post.layout.config at ≡ true → times i is_read p ≡ upto_at (guards post.layout.config) at → times i is_back p ≡ back_at at desk.report
    → list_of i p ≡ desk.list → each_once desk.list ≡ true → scans_right at desk.list ≡ true → OwnCounts post.layout.config i (scan_turn Counted at post desk found) p
scan_own i at post desk found p f r b l d s =
    let config : Config = post.layout.config in
    let t : CallTurn = scan_turn Counted at post desk found in
    let event : Event = scan_event at post found in
    let e : told_by t ≡ event ∷ told_end t.post t.outcome = ap (λ (told : List Event). told ++ told_end t.post t.outcome) (scan_tells Counted at post desk found) in
    let c = scan_counts i at post desk found p f r b l d s in
    record {
      later = subst (λ (told : List Event). is_scan_call (call_of i (tells_of p i told)) ≡ true → Counting (guards config) i (phase_left t.outcome) t.desk.report (tells_of p i told)) (sym e) (left_later config i event p t.post t.desk.report t.outcome c);
      each = subst (λ (told : List Event). Each (count_ok config) p → Each (count_ok config) (tells_of p i told)) (sym e) (left_each config i event p t.post t.desk.report t.outcome c (event_counts config at post found i p));
    }

scan_within : (later : AfterScan) (at : ScanAt) (post : Post) (desk : Desk) (found : ℕ) → all_of is_within (told_by (scan_turn later at post desk found)) ≡ true
scan_within later at post desk found =
    let t : CallTurn = scan_turn later at post desk found in
    of_along is_within t.told (told_end t.post t.outcome) (ap (all_of is_within) (scan_tells later at post desk found) ∙ one at) (ends t.post t.outcome)
  where
    one : (at : ScanAt) → all_of is_within (scan_event at post found ∷ []) ≡ true
    one (ReadGuard n) = reads_are (λ (event : Event). all_of is_within (event ∷ []) ≡ true) (publishes_rows post.layout.config.scheme) (guard_at post.layout.config n) found (λ span. refl) (λ slot. refl)
    one (GiveBack place slot) = refl

    ends : (post : Post) (outcome : CallOutcome) → all_of is_within (told_end post outcome) ≡ true
    ends post (GoesOn phase) = refl
    ends post (Answers answer) = refl

-- of a phase that does not scan
none_counts : (config : Config) (i : ℕ) (phase : Phase) (report : Report) (t : CallTurn) (p : Past) (b : Bool) → is_scan_call (call_of i p) ≡ b → ((at : ScanAt) → phase ≡ Scans Counted at → false ≡ true) → (is_scan_call (call_of i p) ≡ true → Counting (guards config) i phase report p)
    → all_of is_within (told_by t) ≡ true → OwnCounts config i t p
none_counts config i phase report t p true e n c w = let k = c e in let x = n k.at k.stands in absurd (cc)
none_counts config i phase report t p false e n c w = other_counts config i t p w e

scans_counts : (i : ℕ) (later : AfterScan) (at : ScanAt) (post : Post) (desk : Desk) (found : ℕ) (p : Past) (b : Bool) → is_scan_call (call_of i p) ≡ b → scan_fits post.layout.config at ≡ true → (is_scan_call (call_of i p) ≡ true → Counting (guards post.layout.config) i (Scans later at) desk.report p)
    → list_of i p ≡ desk.list → each_once desk.list ≡ true → scans_right at desk.list ≡ true → OwnCounts post.layout.config i (scan_turn later at post desk found) p
scans_counts i later at post desk found p true e f c l d s =
    let k = c e in
    let st : Scans later at ≡ Scans Counted k.at = k.stands in
    let q : later ≡ Counted = cc in
    let a : k.at ≡ at = cc in
    let r : times i is_read p ≡ upto_at (guards post.layout.config) at = subst (λ (x : ScanAt). times i is_read p ≡ upto_at (guards post.layout.config) x) a k.reads in
    let b : times i is_back p ≡ back_at at desk.report = subst (λ (x : ScanAt). times i is_back p ≡ back_at x desk.report) a k.backs in
    subst (λ (x : AfterScan). OwnCounts post.layout.config i (scan_turn x at post desk found) p) (sym q) (scan_own i at post desk found p f r b l d s)
scans_counts i later at post desk found p false e f c l d s = other_counts post.layout.config i (scan_turn later at post desk found) p (scan_within later at post desk found) e

phase_counts : (i : ℕ) (phase : Phase) (post : Post) (desk : Desk) (found : ℕ) (p : Past) → ScanFits post.layout.config phase → (is_scan_call (call_of i p) ≡ true → Counting (guards post.layout.config) i phase desk.report p)
    → list_of i p ≡ desk.list → each_once desk.list ≡ true → is_right phase desk.list ≡ true → OwnCounts post.layout.config i (phase_turn phase post desk found) p
phase_counts i Idle post desk found p f c l d s = none_counts post.layout.config i Idle desk.report (phase_turn Idle post desk found) p (is_scan_call (call_of i p)) refl (λ at e. absurd (cc)) c refl
phase_counts i (Runs why base) post desk found p f c l d s =
    none_counts post.layout.config i (Runs why base) desk.report (phase_turn (Runs why base) post desk found) p (is_scan_call (call_of i p)) refl (λ at e. absurd (cc)) c (calm_within (told_by (phase_turn (Runs why base) post desk found)) (run_calm why base post desk found))
phase_counts i (Scans later at) post desk found p f c l d s = scans_counts i later at post desk found p (is_scan_call (call_of i p)) refl f c l d s
phase_counts i (Works work) post desk found p f c l d s =
    none_counts post.layout.config i (Works work) desk.report (phase_turn (Works work) post desk found) p (is_scan_call (call_of i p)) refl (λ at e. absurd (cc)) c (calm_within (told_by (phase_turn (Works work) post desk found)) (work_calm work post desk found))

-- a step
settled_counts : (all i : ℕ) (l : Local) (t : CallTurn) (p : Past) → (is_scan_call (call_of i p) ≡ true → Counting all i (phase_left t.outcome) t.desk.report p) → SeatCounts all i (settled l t) p
settled_counts all i l t p h =
    let d : (settled l t).desk ≡ noting t.desk (told_by t) = settled_list l t.post (noting t.desk (told_by t)) (rounds_told (publishes_rows (scheme_of t.post)) l.rounds (told_by t)) t.outcome in
    let e : (settled l t).phase ≡ phase_left t.outcome = settled_phase l t.post (noting t.desk (told_by t)) (rounds_told (publishes_rows (scheme_of t.post)) l.rounds (told_by t)) t.outcome in
    λ y. subst (λ (desk : Desk). Counting all i (settled l t).phase desk.report p) (sym d) (subst (λ (phase : Phase). Counting all i phase t.desk.report p) (sym e) (h y))

-- what a history keeps
record CountsScans (layout : Layout) (made : Made) : Type 0 where
  base : Keeps layout made
  seats : (k : ℕ) → SeatCounts (guards layout.config) k (made.world.seat k) made.past
  law : Each (count_ok layout.config) made.past

own_counts : (layout : Layout) (made : Made) (i : ℕ) → is_busy made.world i ≡ true → CountsScans layout made → OwnCounts layout.config i (turn (offered made.world i) (finds made.world i)) made.past
own_counts layout made i y g =
    let w : World = made.world in
    let k = g.base.known in
    let own : Local = offered w i in
    let n = covers_of w i g.base.rows g.base.line g.base.asked k in
    let plays = busy_plays w i g.base.rows y n.rows in
    let a : own.post.layout ≡ layout = (k.seats.fits i).post.layout ∙ g.base.table in
    let f : ScanFits own.post.layout.config own.phase = subst (λ (x : Layout). ScanFits x.config own.phase) (sym (k.seats.fits i).post.layout) (scans_fit w.layout own.post own.phase (k.seats.fits i).phase) in
    let c : is_scan_call (call_of i made.past) ≡ true → Counting (guards own.post.layout.config) i own.phase own.desk.report made.past =
    subst (λ (x : Layout). is_scan_call (call_of i made.past) ≡ true → Counting (guards x.config) i own.phase own.desk.report made.past) (sym a) (g.seats i) in
    subst (λ (x : Layout). OwnCounts x.config i (turn own (finds w i)) made.past) a
    (phase_counts i own.phase (counted own.post) own.desk (finds w i) made.past f c (g.base.shows.lists i ∙ busy_list w i g.base.rows y n.rows) plays.once plays.right)

step_seats : (all : ℕ) (w : World) (i k : ℕ) (p : Past) (same : Bool) → (k == i) ≡ same → ((j : ℕ) → SeatCounts all j (w.seat j) p) → SeatCounts all i (after (offered w i) (finds w i)) (tells_of p i (told_in w i)) → SeatCounts all k ((step w i).seat k) (tells_of p i (told_in w i))
step_seats all w i k p true e h x =
    let q : i ≡ k = grind (arith, nat_tests) in
    subst (λ (j : ℕ). SeatCounts all j ((step w i).seat j) (tells_of p i (told_in w i))) q (subst (λ (l : Local). SeatCounts all i l (tells_of p i (told_in w i))) (sym (seat_steps w i)) x)
step_seats all w i k p false e h x =
    subst (λ (l : Local). SeatCounts all k l (tells_of p i (told_in w i))) (sym (seat_stays w i k e)) (λ y.
    let c = h k (sym (ap is_scan_call (call_other k i (told_in w i) p e)) ∙ y) in
    record { at = c.at; stands = c.stands; reads = times_other k i is_read (told_in w i) p e ∙ c.reads; backs = times_other k i is_back (told_in w i) p e ∙ c.backs })

-- a beginning of a call
none_told : (i : ℕ) (kind : Event → Bool) (call : Call) (p : Past) → times i kind (Then p i (events.Begin call)) ≡ 0
none_told i kind call p = rw (same_number i) refl

call_begun : (i : ℕ) (call : Call) (p : Past) → call_of i (Then p i (events.Begin call)) ≡ Some call
call_begun i call p = rw (same_number i) refl

begun_by : (all i : ℕ) (l : Local) (call : Call) (p : Past) → is_scan_call (Some call) ≡ true → Counting all i (begun l call).phase (begun l call).desk.report (Then p i (events.Begin call))
begun_by all i l (names.Get key) p h = absurd (cc)
begun_by all i l (names.Put key value) p h = absurd (cc)
begun_by all i l (names.Remove key) p h = absurd (cc)
begun_by all i l (names.Enqueue value) p h = absurd (cc)
begun_by all i l names.Dequeue p h = absurd (cc)
begun_by all i l (names.Hold key) p h = absurd (cc)
begun_by all i l names.Release p h = absurd (cc)
begun_by all i l names.Advance p h = absurd (cc)
begun_by all i l (names.Copy from index) p h = absurd (cc)
begun_by all i l (names.DropIndex index) p h = absurd (cc)
begun_by all i l (names.Look index key) p h = absurd (cc)
begun_by all i l names.Leave p h = absurd (cc)
begun_by all i l (names.Adopt place) p h = absurd (cc)
begun_by all i l (names.PutIf key value version) p h = absurd (cc)
begun_by all i l names.Scan p h = record { at = ReadGuard 0; stands = refl; reads = none_told i is_read names.Scan p; backs = none_told i is_back names.Scan p }

begin_seats : (all : ℕ) (w : World) (i k : ℕ) (call : Call) (p : Past) (same : Bool) → (k == i) ≡ same → ((j : ℕ) → SeatCounts all j (w.seat j) p) → SeatCounts all k ((begin w i call).seat k) (Then p i (events.Begin call))
begin_seats all w i k call p true e h =
    let q : i ≡ k = grind (arith, nat_tests) in
    let x : SeatCounts all i (begun (w.seat i) call) (Then p i (events.Begin call)) = λ y. begun_by all i (w.seat i) call p (sym (ap is_scan_call (call_begun i call p)) ∙ y) in
    subst (λ (j : ℕ). SeatCounts all j ((begin w i call).seat j) (Then p i (events.Begin call))) q (subst (λ (l : Local). SeatCounts all i l (Then p i (events.Begin call))) (sym (begin_begins w i call)) x)
begin_seats all w i k call p false e h =
    subst (λ (l : Local). SeatCounts all k l (Then p i (events.Begin call))) (sym (begin_stays w i k call e)) (λ y.
    let c = h k (sym (ap is_scan_call (call_other k i (events.Begin call ∷ []) p e)) ∙ y) in
    record { at = c.at; stands = c.stands; reads = times_other k i is_read (events.Begin call ∷ []) p e ∙ c.reads; backs = times_other k i is_back (events.Begin call ∷ []) p e ∙ c.backs })

begin_item : (layout : Layout) (made : Made) (i : ℕ) (call : Call) → is_busy made.world i ≡ false → may_start made.world i call ≡ true → CountsScans layout made → CountsScans layout (done made (Begins i call))
begin_item layout made i call f m g = record {
  base = begin_keeps layout made i call f m g.base;
  seats = λ k. begin_seats (guards layout.config) made.world i k call made.past (k == i) refl g.seats;
  law = (refl, g.law);
}

step_item : (layout : Layout) (made : Made) (i : ℕ) → i < made.world.layout.config.seats → is_busy made.world i ≡ true → CountsScans layout made → CountsScans layout (done made (Steps i))
step_item layout made i b y g =
    let w : World = made.world in
    let t = own_counts layout made i y g in
    record {
      base = step_keeps layout made i b y g.base;
      seats = λ k. step_seats (guards layout.config) w i k made.past (k == i) refl g.seats (settled_counts (guards layout.config) i (offered w i) (turn (offered w i) (finds w i)) (tells_of made.past i (told_in w i)) t.later);
      law = t.each g.law;
    }

steady : (layout : Layout) → Steady (CountsScans layout)
steady layout = record { begins = λ made i call b y m g. begin_item layout made i call y m g; steps = λ made i b y g. step_item layout made i b y g }

pub records_count_scans : RecordsCountScans
records_count_scans layout items d =
    let g = items_keep (CountsScans layout) (steady layout) items (first_made layout) (record { base = first_keeps layout d; seats = λ k h. absurd (cc); law = tt }) in entries_of_each (count_ok layout.config) (record_of layout items) g.law
