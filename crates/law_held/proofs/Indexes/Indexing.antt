-- A step protects and clears only at indexes of its call.
use Rattle.std.proofs.Common.{ℕ, ◌≡◌, ◌≤◌, ◌<◌, arith, ◌-◌, ◌+◌, Bool, true, false, List, [], ◌∷◌, Option, Some, None, refl, sym, ap, ◌∙◌, subst}
use Rattle.std.specs.List.{list_any}
use Rattle.std.specs.Prelude.{◌==◌, ◌&&◌, not, nat_le, nat_lt, if◌then◌else◌, ◌||◌}
use Rattle.law_scans.specs.inv.model.words.Place.{is_valid}
use Rattle.law_scans.specs.inv.model.words.declared.config.Config.{Config}
use Rattle.law_scans.specs.inv.model.words.declared.layout.Layout.{Layout}
use Rattle.law_scans.specs.inv.model.defs.Shown.{Seen}
use Rattle.law_scans.specs.inv.model.defs.declared.call.Call.{Call}
use Rattle.law_scans.specs.inv.model.defs.declared.event.Event.{Event}
use Rattle.law_scans.specs.inv.model.defs.declared.event.Event.TheVariants as events
use Rattle.law_scans.specs.inv.model.defs.declared.event.Root.{Root}
use Rattle.law_scans.specs.inv.model.defs.declared.event.Root.TheVariants as roots
use Rattle.law_scans.specs.inv.model.defs.declared.fold.Change.{Change}
use Rattle.law_scans.specs.inv.model.defs.declared.fold.Change.TheVariants as changes
use Rattle.law_scans.specs.inv.model.declared.post.Post.{Post}
use Rattle.law_scans.specs.inv.model.Calls.{Task, Gets, Changes, Holds, Enqueues, Dequeues, AfterScan, Answered, Repeated, Counted, ScanAt, ReadGuard, GiveBack, Why, Opens, FollowsHead, ClearsNext, Clears, Releases, Phase, Idle, Runs, Scans, Works, CallTurn, CallOutcome, GoesOn, Answers}
use Rattle.law_scans.specs.inv.model.Desks.{Desk}
use Rattle.law_scans.specs.inv.model.Guards.{guards, guard_at, published}
use Rattle.law_scans.specs.inv.model.Locals.{told_end, turn}
use Rattle.law_scans.specs.inv.model.Machine as machine
use Rattle.law_scans.specs.inv.model.Memory.{bump}
use Rattle.law_scans.specs.inv.model.Phases.{ProtectAt, Base}
use Rattle.law_scans.specs.inv.model.Phases.ProtectAt.{CheckClock, TakeAnswer, CheckUpper, ByHazard}
use Rattle.law_scans.specs.inv.model.Phases.Base.{Protect, Reload, Clear, Release}
use Rattle.law_scans.specs.inv.model.Posts.{stands, counted, cleared, upper}
use Rattle.law_scans.specs.inv.model.Protect.{told_held}
use Rattle.law_scans.specs.inv.model.Rounds.{index_of}
use Rattle.law_scans.specs.inv.model.Scan as scan
use Rattle.law_scans.specs.inv.model.Steps as steps
use Rattle.law_scans.specs.inv.model.World.{World, finds, offered, told_in}
use Rattle.law_scans.proofs.inv.model.Facts.{both, first_of, rest_of, not_or_false, and_right_false}
use Rattle.law_scans.proofs.inv.ends.Ends.Tests.{Calm, at_shows, base_shows, base_any}
use Rattle.law_scans.specs.inv.shapes.Seats.{Seats, Shaped, suits, kind_of, protects, reloads, clears, releases, index_by}
use Rattle.law_scans.specs.inv.shapes.Slots.{PhaseIn, Slots, WhyIn}
use Rattle.law_scans.specs.inv.history.History.{Item, record_of, world_of}
use Rattle.law_scans.specs.laws.records.Record.{Past, Test, Each, tells_of}
use Rattle.law_scans.specs.laws.records.Record.Past.{Start, Then}
use Rattle.law_scans.proofs.reuse.history.AllOf.{all_of, of_along}
use Rattle.law_scans.proofs.inv.Machines.{is_within, within_of}
use Rattle.law_scans.specs.laws.StateAt.{began_of, is_row, stood_at}
use Rattle.law_scans.proofs.reuse.AnswersTold.Answering.{one_began, own_began}
use Rattle.law_scans.proofs.reuse.AnswersTold.Owed.{call_for, TaskServes, WhyServes, Serves}
use Rattle.law_scans.specs.laws.HistoryHolds.{protects_at, clears_at, indexes_ok}
use Rattle.law_scans.specs.laws.Standing.{is_copy}
use Rattle.law_held.specs.Records.{RecordsCopyRows, RecordsUseIndexes}
use Rattle.law_held.proofs.Indexes.Clears.{copied_row, copied_rows}
use Rattle.law_held.proofs.Indexes.Fitting.{fits, Fit, copies_up, rises_to, May, task_may, dequeue_may, free_may, work_fit, resumed_fit}
use Rattle.law_held.proofs.Roots.Ways.{Along, record_all, record_each, answers_of}
use Rattle.law_scans.proofs.reuse.Holding.Holds.{history_held}
use Rattle.law_scans.proofs.inv.model.Ranges.{bounds_of}
use Rattle.std.proofs.lemmas.Bool.Decides.{nat_tests}
use Rattle.law_scans.specs.inv.model.defs.declared.call.Call.TheVariants as names
use Rattle.law_scans.proofs.inv.ends.Handover.Asks.{run_of}
use Rattle.law_scans.specs.inv.model.Phases.HazardAt.{FirstLink, CheckLink}
use Rattle.law_scans.proofs.reuse.ReadGuards.{reads_are}
use Rattle.law_scans.specs.inv.model.words.Schemes.{publishes_rows}

-- an event that does not fit the call
abbrev is_odd : (indexes : ℕ) → Call → Event → Bool
is_odd indexes call event = not (fits indexes call event)

odd_calm : (indexes : ℕ) (call : Call) → Calm (is_odd indexes call)
odd_calm indexes call = record { reserve = λ g x. refl; hazard = λ g x. refl; saw = λ g x. refl; read = λ g x. refl; era = λ e. refl; give = λ a b. refl; unused = λ a. refl; retire = λ a b r. refl; back = λ a. refl }

none_odd : (indexes : ℕ) (call : Call) (told : List Event) → list_any (is_odd indexes call) told ≡ false → Fit indexes call told
none_odd indexes call [] h = refl
none_odd indexes call (event ∷ told) h =
    let q = not_or_false (fits indexes call event) (list_any (is_odd indexes call) told) h in
    both (fits indexes call event) (all_of (fits indexes call) told) q.0 (none_odd indexes call told q.1)

-- a machine
link_even : (indexes : ℕ) (call : Call) (index slot n : ℕ) (null : Bool) → protects_at (Some call) index ≡ true → list_any (is_odd indexes call) (if null then events.Null index n ∷ [] else events.Held index slot n ∷ []) ≡ false
link_even indexes call index slot n true m = rw m refl
link_even indexes call index slot n false m = rw m refl

next_even : (indexes : ℕ) (call : Call) (index n : ℕ) (null : Bool) → protects_at (Some call) index ≡ true → list_any (is_odd indexes call) (if null then events.Null index n ∷ [] else []) ≡ false
next_even indexes call index n true m = rw m refl
next_even indexes call index n false m = refl

held_even : (indexes : ℕ) (call : Call) (index : ℕ) (root : Root) (link n : ℕ) → protects_at (Some call) index ≡ true → list_any (is_odd indexes call) (told_held index root link n) ≡ false
held_even indexes call index (roots.Next parent) link n m = next_even indexes call index n (link == 0) m
held_even indexes call index (roots.Bucket bucket) link n m = link_even indexes call index (link - 1) n (link == 0) m
held_even indexes call index roots.Head link n m = link_even indexes call index (link - 1) n (link == 0) m
held_even indexes call index roots.Tail link n m = link_even indexes call index (link - 1) n (link == 0) m

at_even : (indexes : ℕ) (call : Call) (index : ℕ) (root : Root) (n : ℕ) (post : Post) (at : ProtectAt) (found : ℕ) → protects_at (Some call) index ≡ true → at_shows (is_odd indexes call) index root n post at found ≡ false
at_even indexes call index root n post (CheckClock era tries link) found m = and_right_false (found == era) (list_any (is_odd indexes call) (told_held index root link n)) (held_even indexes call index root link n m)
at_even indexes call index root n post (TakeAnswer link era) found m = held_even indexes call index root link n m
at_even indexes call index root n post (CheckUpper link) found m = and_right_false (found == upper post.span) (list_any (is_odd indexes call) (told_held index root link n)) (held_even indexes call index root link n m)
at_even indexes call index root n post (ByHazard FirstLink) found m = and_right_false (found == 0) (list_any (is_odd indexes call) (told_held index root found n)) (held_even indexes call index root found n m)
at_even indexes call index root n post (ByHazard (CheckLink link)) found m = and_right_false (found == link || found == 0) (list_any (is_odd indexes call) (told_held index root found n)) (held_even indexes call index root found n m)
at_even indexes call index root n post at found m = refl

cleared_even : (indexes : ℕ) (call : Call) (index : ℕ) (x : Option ℕ) → May call index → list_any (is_odd indexes call) (cleared index x) ≡ false
cleared_even indexes call index None m = refl
cleared_even indexes call index (Some slot) m = rw m refl

-- the index of what a machine is run for is one of the call's
change_protects : (change : Change) (wanted : Option ℕ) → protects_at (Some (call_for change wanted)) 0 ≡ true
change_protects (changes.Put key value) None = refl
change_protects (changes.Put key value) (Some version) = refl
change_protects (changes.Removed key) wanted = refl

task_protects : (call : Call) (task : Task) → TaskServes call task → protects_at (Some call) (index_of task) ≡ true
task_protects call (Gets key) s = rw s refl
task_protects call (Changes kept) s = subst (λ (x : Call). protects_at (Some x) 0 ≡ true) (sym s.is) (change_protects kept.change kept.wanted)
task_protects call (Holds key) s = rw s refl
task_protects call (Enqueues kept) s = rw s refl
task_protects call Dequeues s = rw s refl

why_protects : (call : Call) (why : Why) → protects (kind_of why) ≡ true → WhyServes call why → protects_at (Some call) (index_by why) ≡ true
why_protects call (Opens task) k s = task_protects call task s
why_protects call (FollowsHead head tail) k s = rw s refl
why_protects call why k s = absurd (cc)

why_reloads : (call : Call) (why : Why) → reloads (kind_of why) ≡ true → WhyServes call why → protects_at (Some call) (index_by why) ≡ true
why_reloads call (FollowsHead head tail) k s = rw s refl
why_reloads call why k s = absurd (cc)

why_clears : (config : Config) (call : Call) (why : Why) → clears (kind_of why) ≡ true → WhyIn config why → WhyServes call why → May call (index_by why)
why_clears config call (ClearsNext next) k y s = dequeue_may call 1 s.0 refl
why_clears config call (Clears task next) k y s = task_may call task s.0
why_clears config call (Releases let_go) k y s = free_may config call let_go y s
why_clears config call why k y s = absurd (cc)

why_releases : (config : Config) (call : Call) (why : Why) → releases (kind_of why) ≡ true → WhyIn config why → WhyServes call why → May call (index_by why)
why_releases config call (Releases let_go) k y s = free_may config call let_go y s
why_releases config call why k y s = absurd (cc)

at_index : (f : ℕ → Bool) (index by : ℕ) → index ≡ by → f by ≡ true → f index ≡ true
at_index f index by e h = ap f e ∙ h

base_even : (config : Config) (call : Call) (why : Why) (base : Base) (post : Post) (found : ℕ) → suits base (kind_of why) ≡ true → Shaped config.buckets why base → WhyIn config why → WhyServes call why → base_shows (is_odd config.indexes call) post base found ≡ false
base_even config call why (Protect aim index root count at) post found k h y s = at_even config.indexes call index root (bump count) post at found (at_index (protects_at (Some call)) index (index_by why) h.at (why_protects call why k s))
base_even config call why (Reload parent index slot era count) post found k h y s = and_right_false (found == parent + 1) (is_odd config.indexes call (events.Held index slot (bump count))) (ap not (at_index (protects_at (Some call)) index (index_by why) h.at (why_reloads call why k s)))
base_even config call why (Clear rows index) post found k h y s = cleared_even config.indexes call index (stands post index) (at_index (clears_at (Some call)) index (index_by why) h (why_clears config call why k y s))
base_even config call why (Release index) post found k h y s = cleared_even config.indexes call index (stands post index) (at_index (clears_at (Some call)) index (index_by why) h (why_releases config call why k y s))
base_even config call why base post found k h y s = refl

-- a scan
scanned_fit : (indexes : ℕ) (call : Call) (later : AfterScan) (post : Post) (desk : Desk) (told : List Event) → Fit indexes call told → Fit indexes call (scan.scanned later post desk told).told
scanned_fit indexes call (Answered answer) post desk told h = h
scanned_fit indexes call (Repeated task) post desk told h = h
scanned_fit indexes call Counted post desk told h = h

back_fit : (indexes : ℕ) (call : Call) (later : AfterScan) (post : Post) (desk : Desk) (told : List Event) (x : Option scan.Entry) → Fit indexes call told → Fit indexes call (scan.giving_back later post desk told x).told
back_fit indexes call later post desk told None h = scanned_fit indexes call later post (scan.with_kept desk) told h
back_fit indexes call later post desk told (Some entry) h = h

guard_fit : (indexes : ℕ) (call : Call) (later : AfterScan) (number : ℕ) (post : Post) (desk : Desk) (told : List Event) (on : Bool) → Fit indexes call told → Fit indexes call (scan.reading later number post desk told on).told
guard_fit indexes call later number post desk told true h = h
guard_fit indexes call later number post desk told false h = back_fit indexes call later post desk told (scan.unmet_from desk 0) h

scan_fit : (indexes : ℕ) (call : Call) (later : AfterScan) (at : ScanAt) (post : Post) (desk : Desk) (found : ℕ) → Fit indexes call (scan.scan_turn later at post desk found).told
scan_fit indexes call later (ReadGuard number) post desk found =
    let rows : Bool = publishes_rows post.layout.config.scheme in
    let seen : Seen = (guard_at post.layout.config number, published rows (guard_at post.layout.config number) found) in
    guard_fit indexes call later number post (scan.with_read desk number seen) (scan.reads_guard rows seen.0 found ∷ []) (nat_lt (number + 1) (guards post.layout.config))
    (reads_are (λ event. Fit indexes call (event ∷ [])) rows seen.0 found (λ span. refl) (λ slot. refl))
scan_fit indexes call later (GiveBack place slot) post desk found = back_fit indexes call later post (scan.with_back desk place) (events.Back slot ∷ []) (scan.unmet_from (scan.with_back desk place) place) refl

-- a step
phase_fit : (w : World) (i : ℕ) (call : Call) (phase : Phase) (post : Post) (desk : Desk) (found : ℕ) → Seats w → (w.seat i).phase ≡ phase → PhaseIn w.layout (w.seat i).desk phase → Serves call phase → Fit w.layout.config.indexes call (steps.phase_turn phase post desk found).told
phase_fit w i call Idle post desk found s e y v = refl
phase_fit w i call (Runs why base) post desk found s e y v =
    let r = run_of w i why base s e in
    resumed_fit w.layout.config.indexes call why desk (machine.after base post found).post (machine.after base post found).told (machine.after base post found).outcome v
    (none_odd w.layout.config.indexes call (machine.after base post found).told (base_any (is_odd w.layout.config.indexes call) base post found (odd_calm w.layout.config.indexes call) ∙ base_even w.layout.config call why base post found r.suited r.shape y.0 v))
phase_fit w i call (Scans later at) post desk found s e y v = scan_fit w.layout.config.indexes call later at post desk found
phase_fit w i call (Works work) post desk found s e y v = work_fit w.layout.config call work post desk found v y

end_fit : (indexes : ℕ) (call : Call) (post : Post) (outcome : CallOutcome) → Fit indexes call (told_end post outcome)
end_fit indexes call post (GoesOn phase) = refl
end_fit indexes call post (Answers answer) = refl

step_fit : (w : World) (i : ℕ) → Seats w → Slots w → Serves (w.seat i).call (w.seat i).phase → Fit w.layout.config.indexes (w.seat i).call (told_in w i)
step_fit w i s l v =
    let call : Call = (w.seat i).call in
    let t : CallTurn = turn (offered w i) (finds w i) in
    of_along (fits w.layout.config.indexes call) t.told (told_end t.post t.outcome) (phase_fit w i call (w.seat i).phase (counted (w.seat i).post) (offered w i).desk (finds w i) s refl (l.seats i).phase v) (end_fit w.layout.config.indexes call t.post t.outcome)

-- the law along what a step tells
fit_ok : (indexes : ℕ) (call : Call) (p : Past) (i : ℕ) (event : Event) → began_of i p ≡ Some call → fits indexes call event ≡ true → indexes_ok p i event ≡ true
fit_ok indexes call p i (events.Held index slot count) b h = ap (λ (x : Option Call). protects_at x index) b ∙ h
fit_ok indexes call p i (events.Null index count) b h = ap (λ (x : Option Call). protects_at x index) b ∙ h
fit_ok indexes call p i (events.Clear index slot) b h = ap (λ (x : Option Call). clears_at x index) b ∙ h
fit_ok indexes call p i event b h = refl

-- a copy is told in a copy, upwards
abbrev up_ok : (indexes : ℕ) → Test
up_ok n p i (events.Copied from index slot) = copies_up n (began_of i p) from index
up_ok n p i event = true

fit_up : (indexes : ℕ) (call : Call) (p : Past) (i : ℕ) (event : Event) → began_of i p ≡ Some call → fits indexes call event ≡ true → up_ok indexes p i event ≡ true
fit_up indexes call p i (events.Copied from index slot) b h = ap (λ (x : Option Call). copies_up indexes x from index) b ∙ h
fit_up indexes call p i event b h = refl

-- a test that each event passes which fits the call
abbrev Fitting : (indexes : ℕ) → Test → Type 0
Fitting n ok = (call : Call) (p : Past) (i : ℕ) (event : Event) → began_of i p ≡ Some call → fits n call event ≡ true → ok p i event ≡ true

fit_each : (n : ℕ) (ok : Test) → Fitting n ok → (call : Call) (i : ℕ) (told : List Event) (p : Past) → began_of i p ≡ Some call → all_of is_within told ≡ true → Fit n call told → Each ok p → Each ok (tells_of p i told)
fit_each n ok f call i [] p b w h g = g
fit_each n ok f call i (event ∷ told) p b w h g =
    let q : began_of i (Then p i event) ≡ Some call = own_began i p event ∙ one_began event (began_of i p) (first_of (is_within event) (all_of is_within told) w) ∙ b in
    fit_each n ok f call i told (Then p i event) q (rest_of (is_within event) (all_of is_within told) w) (rest_of (fits n call event) (all_of (fits n call) told) h)
    (f call p i event b (first_of (fits n call event) (all_of (fits n call) told) h), g)

fit_along : (ok : Test) → ((p : Past) (i : ℕ) (call : Call) → ok p i (events.Begin call) ≡ true) → (layout : Layout) → is_valid layout ≡ true → Fitting layout.config.indexes ok → Along layout ok
fit_along ok begins layout d f = record {
  begins = begins;
  steps = λ path i t g.
      let w : World = world_of layout path in
      let a = answers_of layout path d in
      let fit : Fit layout.config.indexes (w.seat i).call (told_in w i) = subst (λ (x : Layout). Fit x.config.indexes (w.seat i).call (told_in w i)) (history_held layout path d).table (step_fit w i a.known.known.seats a.known.known.slots ((a.seats i).serves t.busy)) in
      fit_each layout.config.indexes ok f (w.seat i).call i (told_in w i) (record_of layout path) ((a.seats i).began t.busy) (within_of w i) fit g;
}

pub records_use_indexes : RecordsUseIndexes
records_use_indexes layout items d = record_each layout indexes_ok items (fit_along indexes_ok (λ p i call. refl) layout d (fit_ok layout.config.indexes))

pub records_copy_rows : RecordsCopyRows
records_copy_rows layout items d before i (events.Copied from index slot) later e =
    let n : ℕ = layout.config.indexes in
    let is : Bool = is_copy from index (began_of i before) in
    let up : copies_up n (began_of i before) from index ≡ true = record_each layout (up_ok n) items (fit_along (up_ok n) (λ p k call. refl) layout d (fit_up n)) before i (events.Copied from index slot) later e in
    let row : is_row slot (stood_at i from before) ≡ true = copied_row from index slot i before (copied_rows layout items d from before i (events.Copied from index slot) later e) in
    let all : rises_to n from index ≡ true = rest_of is (rises_to n from index) up in
    let kept : nat_le 2 from ≡ true = first_of (nat_le 2 from) (nat_lt from index && nat_lt index n) all in
    let rises : nat_lt from index ≡ true = first_of (nat_lt from index) (nat_lt index n) (rest_of (nat_le 2 from) (nat_lt from index && nat_lt index n) all) in
    both is (is_row slot (stood_at i from before) && (nat_le 2 from && nat_lt from index)) (first_of is (rises_to n from index) up)
    (both (is_row slot (stood_at i from before)) (nat_le 2 from && nat_lt from index) row (both (nat_le 2 from) (nat_lt from index) kept rises))
records_copy_rows layout items d before i event later e = refl

-- nothing stands at an index that the table has not
abbrev low_ok : (indexes : ℕ) → Test
low_ok n p i (events.Held index slot count) = nat_lt index n
low_ok n p i (events.Copied from index slot) = nat_lt index n
low_ok n p i event = true

protects_low : (call : Call) (index : ℕ) → protects_at (Some call) index ≡ true → index < 3
protects_low (names.Get key) index h = grind (arith, nat_tests)
protects_low (names.Put key value) index h = grind (arith, nat_tests)
protects_low (names.Remove key) index h = grind (arith, nat_tests)
protects_low (names.PutIf key value version) index h = grind (arith, nat_tests)
protects_low (names.Enqueue value) index h = grind (arith, nat_tests)
protects_low names.Dequeue index h = grind (arith, nat_tests)
protects_low (names.Hold key) index h = grind (arith, nat_tests)
protects_low call index h = absurd (cc)

pub protects_below : (call : Option Call) (index : ℕ) → protects_at call index ≡ true → index < 3
protects_below None index h = absurd (cc)
protects_below (Some call) index h = protects_low call index h

fit_low : (n : ℕ) → 3 ≤ n → (call : Call) (p : Past) (i : ℕ) (event : Event) → began_of i p ≡ Some call → fits n call event ≡ true → low_ok n p i event ≡ true
fit_low n few call p i (events.Held index slot count) b h = let low : index < 3 = protects_low call index h in grind (arith, nat_tests)
fit_low n few call p i (events.Copied from index slot) b h =
    let all : rises_to n from index ≡ true = rest_of (is_copy from index (Some call)) (rises_to n from index) h in
    rest_of (nat_lt from index) (nat_lt index n) (rest_of (nat_le 2 from) (nat_lt from index && nat_lt index n) all)
fit_low n few call p i event b h = refl

apart_stood : (j index slot : ℕ) (x : Option ℕ) (own same : Bool) → (j == index) ≡ same → same ≡ false → x ≡ None → (if own then (if same then Some slot else x) else x) ≡ None
apart_stood j index slot x true true e f h = absurd (cc)
apart_stood j index slot x true false e f h = h
apart_stood j index slot x false same e f h = h

gone_stood : (x : Option ℕ) (own same : Bool) → x ≡ None → (if own then (if same then None else x) else x) ≡ None
gone_stood x true true h = refl
gone_stood x true false h = h
gone_stood x false same h = h

same_stood : (x : Option ℕ) (own : Bool) → x ≡ None → (if own then x else x) ≡ None
same_stood x true h = h
same_stood x false h = h

high_stood : (n k j : ℕ) (p : Past) → n ≤ j → Each (low_ok n) p → stood_at k j p ≡ None
high_stood n k j Start l g = refl
high_stood n k j (Then p i (events.Held index slot count)) l g =
    let few : nat_lt index n ≡ true = g.0 in
    let apart : (j == index) ≡ false = grind (arith, nat_tests) in
    apart_stood j index slot (stood_at k j p) (k == i) (j == index) refl apart (high_stood n k j p l g.1)
high_stood n k j (Then p i (events.Copied from index slot)) l g =
    let few : nat_lt index n ≡ true = g.0 in
    let apart : (j == index) ≡ false = grind (arith, nat_tests) in
    apart_stood j index slot (stood_at k j p) (k == i) (j == index) refl apart (high_stood n k j p l g.1)
high_stood n k j (Then p i (events.Clear index slot)) l g = gone_stood (stood_at k j p) (k == i) (j == index) (high_stood n k j p l g.1)
high_stood n k j (Then p i event) l g = same_stood (stood_at k j p) (k == i) (high_stood n k j p l g.1)

pub record_high : (layout : Layout) (items : List Item) (k j : ℕ) → is_valid layout ≡ true → layout.config.indexes ≤ j → stood_at k j (record_of layout items) ≡ None
record_high layout items k j d l =
    let n : ℕ = layout.config.indexes in
    high_stood n k j (record_of layout items) l (record_all layout (low_ok n) items (fit_along (low_ok n) (λ p i call. refl) layout d (fit_low n (bounds_of layout d).indexes.0)))
