-- A helper word that publishes where a protection ends is withdrawn with the next entry of its seat.
use Rattle.std.proofs.Common.{ℕ, ◌≡◌, ◌-◌, Bool, true, false, List, [], ◌∷◌, ◌++◌, Option, refl, sym, ap, ◌∙◌, subst, arith, zero, suc}
use Rattle.std.proofs.lemmas.Bool.Decides.{nat_tests}
use Rattle.std.specs.Prelude.{◌==◌, ◌&&◌, ◌||◌, not, is_some, is_none, if◌then◌else◌}
use Rattle.law_reuse.specs.laws.defs.declared.call.Call.{Call}
use Rattle.law_reuse.specs.laws.defs.declared.event.Event.{Event}
use Rattle.law_reuse.specs.laws.defs.declared.event.Event.TheVariants as events
use Rattle.law_reuse.specs.laws.defs.declared.event.Guard.{Guard}
use Rattle.law_reuse.specs.laws.defs.declared.event.Guard.TheVariants.{Helper, Index, Whole}
use Rattle.law_reuse.specs.laws.defs.declared.event.Root.{Root}
use Rattle.law_reuse.specs.laws.defs.declared.event.Root.TheVariants as roots
use Rattle.law_reuse.specs.laws.defs.declared.lifetime.Interval.{Interval}
use Rattle.law_reuse.specs.inv.model.declared.post.Post.{Post}
use Rattle.law_reuse.specs.inv.model.Calls.{ReadGuard, GiveBack, Phase, Idle, Runs, Scans, Works}
use Rattle.law_reuse.specs.inv.model.Desks.{Desk}
use Rattle.law_reuse.specs.inv.model.Guards.{one_era}
use Rattle.law_reuse.specs.inv.model.Locals.{busy_in, told_by}
use Rattle.law_reuse.specs.inv.model.Memory.{bump}
use Rattle.law_reuse.specs.inv.model.Phases.{Base}
use Rattle.law_reuse.specs.inv.model.Phases.ProtectAt.{TakeAnswer}
use Rattle.law_reuse.specs.inv.model.Phases.Base.{Protect}
use Rattle.law_reuse.specs.inv.model.Posts.{counted}
use Rattle.law_reuse.specs.inv.model.Protect as protects
use Rattle.law_reuse.specs.inv.model.Steps as steps
use Rattle.law_reuse.specs.inv.model.World.{World, finds, is_busy, offered, told_in}
use Rattle.law_reuse.proofs.laws.records.defs.Facts.{both, first_of, rest_of, number_is, same_number}
use Rattle.law_reuse.specs.inv.Inv.{Inv}
use Rattle.law_reuse.specs.history.Heard.{heard_of}
use Rattle.law_reuse.specs.history.History as histories
use Rattle.law_reuse.specs.history.History.{Begins, Item, Made, Steps, done}
use Rattle.law_reuse.specs.laws.records.Record.{Past, Test, Each, tells_of}
use Rattle.law_reuse.specs.laws.records.Record.Past.{Start, Then}
use Rattle.law_reuse.specs.laws.records.Turns as schedule
use Rattle.law_reuse.specs.laws.records.Turns.{record_of}
use Rattle.law_reuse.specs.laws.records.Turns.History.{Starts, Turns}
use Rattle.law_reuse.proofs.history.AllOf.{all_of}
use Rattle.law_reuse.proofs.laws.records.Entries.{entries_of_each}
use Rattle.law_reuse.proofs.history.MayTell.{Passes, Tells, base_all, base_helper, base_shows, same_span, step_all, work_all}
use Rattle.law_reuse.proofs.history.Passes.{First, is_quiet}
use Rattle.law_reuse.proofs.OneStep.Along.{Around, Kept, history_keeps}
use Rattle.law_reuse.proofs.Turns.Counted.{histories_count}
use Rattle.law_reuse.specs.Heard.{IsCounted}
use Rattle.law_reuse.proofs.ReadGuards.{reads_are}
use Rattle.law_reuse.specs.inv.model.Guards.{guard_at}
use Rattle.law_reuse.specs.laws.words.Schemes.{publishes_rows}
use Rattle.law_reuse.specs.laws.StateAt.{is_helper, reserved_by, shown_by, shown_of, value_of}
use Rattle.law_reuse.specs.laws.HistorySteps.{due_of, ends_found, found_last, found_shown, one_less, tells_nothing, withdraws_by, withdraws_first}
use Rattle.law_reuse.specs.laws.StateAt.{is_found}
use Rattle.law_reuse.specs.laws.StepLaw.{withdraw_ok, withdrawal_due, withdraws}
use Rattle.law_scans.specs.Turns.Records.{RecordsWithdrawNext, TurnsFindLast}
use Rattle.law_scans.proofs.Turns.Withdrawals.Due as due
use Rattle.law_scans.proofs.Turns.Withdrawals.Due.{Keeps, after_due, begin_kept, phase_due, step_kept}
use Rattle.law_scans.proofs.Turns.Withdrawals.Withdrawing.{Shows, phase_finds, phase_leaves, phase_shows, tells_link}
use Rattle.law_reuse.specs.laws.words.Place.{is_valid}
use Rattle.law_reuse.specs.laws.words.declared.layout.Layout.{Layout}

-- the same by what the seat itself has told of its helper word
abbrev due_at : ℕ → Past → Bool
due_at i Start = false
due_at i (Then p k event) = if i == k then is_found event && shown_of i p else due_at i p

abbrev due_ok : Test
due_ok p i event = not (due_at i p) || withdraws i event

-- along what a seat tells, where so much is due and its helper word publishes or not
abbrev follows : (seat : ℕ) → List Event → (due shown : Bool) → Bool
follows i [] due shown = true
follows i (event ∷ told) due shown = (not due || withdraws i event) && follows i told (is_found event && shown) (shown_by i event shown)

abbrev due_along : (seat : ℕ) → List Event → (due shown : Bool) → Bool
due_along i [] due shown = due
due_along i (event ∷ told) due shown = due_along i told (is_found event && shown) (shown_by i event shown)

abbrev some : ℕ → Bool
some zero = false
some (suc n) = true

record Follows (i : ℕ) (told : List Event) (due shown after : Bool) : Type 0 where
  right : follows i told due shown ≡ true
  left : due_along i told due shown ≡ after

-- a turn that tells no Held or Null while the helper word publishes
unfound : (i : ℕ) (told : List Event) (shown : Bool) → found_shown i told shown ≡ false → Follows i told false shown false
unfound i [] shown h = record { right = refl; left = refl }
unfound i (event ∷ told) shown h = by (is_found event && shown) refl h (unfound i told (shown_by i event shown))
  where
    by : (f : Bool) → (is_found event && shown) ≡ f → (f || found_shown i told (shown_by i event shown)) ≡ false → (found_shown i told (shown_by i event shown) ≡ false → Follows i told false (shown_by i event shown) false) → Follows i (event ∷ told) false shown false
    by true e h r = absurd (cc)
    by false e h r = let f = r h in record { right = rw e f.right; left = rw e f.left }

withdrawn : (i : ℕ) (told : List Event) (shown : Bool) → withdraws_first i told ≡ true → found_shown i told shown ≡ false → Follows i told true shown false
withdrawn i [] shown w h = absurd (cc)
withdrawn i (events.Reserve guard span ∷ told) shown w h =
    let r = unfound i told (shown_by i (events.Reserve guard span) shown) h in
    record { right = both (is_helper i guard && is_none span) (follows i told false (shown_by i (events.Reserve guard span) shown)) w r.right; left = r.left }
withdrawn i (event ∷ told) shown w h = absurd (cc)

silent : (i : ℕ) (told : List Event) (shown : Bool) → tells_nothing told ≡ true → Follows i told true shown true
silent i [] shown h = record { right = refl; left = refl }
silent i (event ∷ told) shown h = absurd (cc)

far : (i n : ℕ) (told : List Event) → withdraws_by i (suc (suc n)) told ≡ true → tells_nothing told ≡ true
far i n told h =
    let a : (suc (suc n) == 0) ≡ false = grind (arith, nat_tests) in
    let b : (suc (suc n) == 1) ≡ false = grind (arith, nat_tests) in
    rw (a, b) at h

turn_follows : (i n : ℕ) (told : List Event) (shown : Bool) → withdraws_by i n told ≡ true → found_shown i told shown ≡ false → Follows i told (some n) shown (some (one_less n))
turn_follows i zero told shown w h = unfound i told shown h
turn_follows i (suc zero) told shown w h = withdrawn i told shown w h
turn_follows i (suc (suc n)) told shown w h = silent i told shown (far i n told w)

-- a turn that takes an answer tells what it found last
link_last : (i index link n : ℕ) (guard : Guard) (span : Option Interval) (null : Bool) → is_helper i guard ≡ false → Follows i (events.Reserve guard span ∷ (if null then events.Null index n ∷ [] else events.Held index (link - 1) n ∷ []) ++ []) false true true
link_last i index link n guard span true e = record { right = refl; left = rw e refl }
link_last i index link n guard span false e = record { right = refl; left = rw e refl }

held_last : (i index : ℕ) (root : Root) (link n : ℕ) (guard : Guard) (span : Option Interval) → is_helper i guard ≡ false → tells_link root link ≡ true → Follows i (events.Reserve guard span ∷ protects.told_held index root link n ++ []) false true true
held_last i index (roots.Next parent) link n guard span e h = rw h (record { right = refl; left = rw e refl })
held_last i index (roots.Bucket bucket) link n guard span e h = link_last i index link n guard span (link == 0) e
held_last i index roots.Head link n guard span e h = link_last i index link n guard span (link == 0) e
held_last i index roots.Tail link n guard span e h = link_last i index link n guard span (link == 0) e

abbrev PhaseFollows : ℕ → Phase → List Event → Type 0
PhaseFollows i phase told = Follows i told (some (phase_due phase)) (phase_shows phase) (some (after_due phase))

phase_follows : (i : ℕ) (phase : Phase) (post : Post) (desk : Desk) (there : ℕ) → phase_finds phase ≡ true → PhaseFollows i phase (told_by (steps.phase_turn phase post desk there))
phase_follows i (Runs why (Protect aim index root made (TakeAnswer link era))) post desk there h = rw h (held_last i index root link (bump made) (Index post.seat index) (one_era era) refl h)
phase_follows i (Runs why (Protect aim index root made at)) post desk there h = absurd (cc)
phase_follows i (Runs why base) post desk there h = absurd (cc)
phase_follows i phase post desk there h = absurd (cc)

step_follows : (w : World) (i : ℕ) → Inv w → PhaseFollows i (w.seat i).phase (told_in w i)
step_follows w i a = by (phase_finds (w.seat i).phase) refl
  where
    phase : Phase
    phase = (w.seat i).phase

    by : (f : Bool) → phase_finds phase ≡ f → PhaseFollows i phase (told_in w i)
    by true e = phase_follows i phase (counted (w.seat i).post) (offered w i).desk (finds w i) e
    by false e =
        let o : Shows i (phase_shows phase) (phase_leaves phase) (phase_finds phase) (told_in w i) = due.own_told w i a in
        let k = a.known in
        let f = k.seats.fits i in
        rw e (turn_follows i (phase_due phase) (told_in w i) (phase_shows phase) (due.phase_law i phase (counted (w.seat i).post) (offered w i).desk (finds w i) f.post.seat) (o.found ∙ e))

-- the same of the record
own_shown : (i : ℕ) (p : Past) (event : Event) → shown_of i (Then p i event) ≡ shown_by i event (shown_of i p)
own_shown i p event = rw (same_number i) refl

own_due : (i : ℕ) (p : Past) (event : Event) → due_at i (Then p i event) ≡ (is_found event && shown_of i p)
own_due i p event = rw (same_number i) refl

told_due : (i : ℕ) (told : List Event) (p : Past) → due_at i (tells_of p i told) ≡ due_along i told (due_at i p) (shown_of i p)
told_due i [] p = refl
told_due i (event ∷ told) p = told_due i told (Then p i event) ∙ ap (λ (x : Bool). due_along i told x (shown_of i (Then p i event))) (own_due i p event) ∙ ap (λ (x : Bool). due_along i told (is_found event && shown_of i p) x) (own_shown i p event)

due_stays : (k i : ℕ) (told : List Event) (p : Past) → (k == i) ≡ false → due_at k (tells_of p i told) ≡ due_at k p
due_stays k i [] p e = refl
due_stays k i (event ∷ told) p e = due_stays k i told (Then p i event) e ∙ rw e refl

told_each : (i : ℕ) (told : List Event) (p : Past) → follows i told (due_at i p) (shown_of i p) ≡ true → Each due_ok p → Each due_ok (tells_of p i told)
told_each i [] p h g = g
told_each i (event ∷ told) p h g =
    let r : follows i told (is_found event && shown_of i p) (shown_by i event (shown_of i p)) ≡ true = rest_of (not (due_at i p) || withdraws i event) (follows i told (is_found event && shown_of i p) (shown_by i event (shown_of i p))) h in
    told_each i told (Then p i event) (rw (own_due i p event, own_shown i p event) r) (first_of (not (due_at i p) || withdraws i event) (follows i told (is_found event && shown_of i p) (shown_by i event (shown_of i p))) h, g)

-- a seat tells of no other seat's helper word
abbrev own_helper : ℕ → Event → Bool
own_helper i (events.Reserve (Helper seat) span) = seat == i
own_helper i event = true

helper_told : (i : ℕ) (base : Base) (post : Post) (there : ℕ) (event : Event) → post.seat ≡ i → Tells base post there event → own_helper i event ≡ true
helper_told i base post there (events.Reserve (Helper seat) span) s t =
    let h : (base_helper base && seat == post.seat) ≡ true = first_of (base_helper base && seat == post.seat) (same_span span (base_shows base post)) t in
    subst (λ (n : ℕ). (seat == n) ≡ true) s (rest_of (base_helper base) (seat == post.seat) h)
helper_told i base post there (events.Reserve (Index seat index) span) s t = refl
helper_told i base post there (events.Reserve (Whole seat) span) s t = refl
helper_told i base post there event s t = refl

helper_passes : (i : ℕ) → Passes (own_helper i)
helper_passes i = record { quiet = quiet_one; clears = λ index slot. refl }
  where
    quiet_one : (event : Event) → is_quiet event ≡ true → own_helper i event ≡ true
    quiet_one (events.Reserve guard span) q = absurd (cc)
    quiet_one event q = refl

phase_helper : (i : ℕ) (phase : Phase) (post : Post) (there : ℕ) → post.seat ≡ i → First (λ p told. all_of (own_helper i) told ≡ true) phase post there
phase_helper i Idle post there s = refl
phase_helper i (Runs why base) post there s = base_all (own_helper i) base post there (λ event. helper_told i base post there event s)
phase_helper i (Scans later (ReadGuard number)) post there s = reads_are (λ event. all_of (own_helper i) (event ∷ []) ≡ true) (publishes_rows post.layout.config.scheme) (guard_at post.layout.config number) there (λ span. refl) (λ slot. refl)
phase_helper i (Scans later (GiveBack place slot)) post there s = refl
phase_helper i (Works work) post there s = work_all (own_helper i) (λ index slot. refl) (λ from index slot. refl) (λ seat index era. refl) (λ seat. refl) (λ seat index link. refl) work post

step_helper : (w : World) (i : ℕ) → (w.seat i).post.seat ≡ i → all_of (own_helper i) (told_in w i) ≡ true
step_helper w i s = step_all (own_helper i) (helper_passes i) (w.seat i).phase (counted (w.seat i).post) (offered w i).desk (finds w i) (phase_helper i (w.seat i).phase (counted (w.seat i).post) (finds w i) s)

abbrev helper_ok : Test
helper_ok p i event = own_helper i event

helper_each : (i : ℕ) (told : List Event) (p : Past) → all_of (own_helper i) told ≡ true → Each helper_ok p → Each helper_ok (tells_of p i told)
helper_each i [] p h g = g
helper_each i (event ∷ told) p h g = helper_each i told (Then p i event) (rest_of (own_helper i event) (all_of (own_helper i) told) h) (first_of (own_helper i event) (all_of (own_helper i) told) h, g)

-- so what it has told is what the word publishes
either_same : (x : Bool) (b : Bool) → (if b then x else x) ≡ x
either_same x true = refl
either_same x false = refl

one_value : (k i : ℕ) (event : Event) (shown : Bool) (value : Option Interval) → own_helper i event ≡ true → shown ≡ is_some value → (if k == i then shown_by k event shown else shown) ≡ is_some (reserved_by (Helper k) event value)
one_value k i (events.Reserve (Helper seat) span) shown value o h = by (k == i) refl (k == seat) refl
  where
    by : (own : Bool) → (k == i) ≡ own → (same : Bool) → (k == seat) ≡ same → (if own then (if seat == k then is_some span else shown) else shown) ≡ is_some (if same then span else value)
    by true e true q = let r : (seat == k) ≡ true = grind (arith, nat_tests) in rw r refl
    by true e false q = let r : (seat == k) ≡ false = grind (arith, nat_tests) in rw r h
    by false e true q = absurd (let a : k ≡ seat = number_is k seat q in let b : seat ≡ i = number_is seat i o in let c : (k == i) ≡ true = grind (arith, nat_tests) in cc)
    by false e false q = h
one_value k i (events.Reserve (Index seat index) span) shown value o h = either_same shown (k == i) ∙ h
one_value k i (events.Reserve (Whole seat) span) shown value o h = either_same shown (k == i) ∙ h
one_value k i event shown value o h = either_same shown (k == i) ∙ h

shown_value : (k : ℕ) (p : Past) → Each helper_ok p → shown_of k p ≡ is_some (value_of (Helper k) p)
shown_value k Start g = refl
shown_value k (Then p i event) g = one_value k i event (shown_of k p) (value_of (Helper k) p) g.0 (shown_value k p g.1)

due_value : (k : ℕ) (p : Past) → Each helper_ok p → due_at k p ≡ withdrawal_due k p
due_value k Start g = refl
due_value k (Then p i event) g = by (k == i) (due_value k p g.1)
  where
    by : (own : Bool) → due_at k p ≡ withdrawal_due k p → (if own then is_found event && shown_of k p else due_at k p) ≡ (if own then is_found event && is_some (value_of (Helper k) p) else withdrawal_due k p)
    by true h = ap (λ (x : Bool). is_found event && x) (shown_value k p g.1)
    by false h = h

each_value : (p : Past) → Each helper_ok p → Each due_ok p → Each withdraw_ok p
each_value Start g h = tt
each_value (Then p i event) g h = (subst (λ (x : Bool). (not x || withdraws i event) ≡ true) (due_value i p g.1) h.0, each_value p g.1 h.1)

-- what is due once a turn is made it told last
along_last : (i : ℕ) (event : Event) (told : List Event) (due shown : Bool) → due_along i (event ∷ told) due shown ≡ true → ends_found (event ∷ told) ≡ true
along_last i event [] due shown h = first_of (is_found event) shown h
along_last i event (other ∷ told) due shown h = along_last i other told (is_found event && shown) (shown_by i event shown) h

told_last : (i n : ℕ) (told : List Event) (due shown : Bool) → due_along i told due shown ≡ some (if found_shown i told shown then 2 else n) → (not (found_shown i told shown) || ends_found told) ≡ true
told_last i n [] due shown h = refl
told_last i n (event ∷ told) due shown h = by (found_shown i (event ∷ told) shown) refl h
  where
    by : (f : Bool) → found_shown i (event ∷ told) shown ≡ f → due_along i (event ∷ told) due shown ≡ some (if f then 2 else n) → (not f || ends_found (event ∷ told)) ≡ true
    by true e g = along_last i event told due shown g
    by false e g = refl

-- along a history
record Withdraws (made : Made) (h : schedule.History) : Type 0 where
  keeps : Keeps made h
  due : (k : ℕ) → due_at k (record_of h) ≡ some (due_of k h)
  law : Each due_ok (record_of h)
  own : Each helper_ok (record_of h)
  last : schedule.EachTurn found_last h

turn_due : (w : World) (h : schedule.History) (i k : ℕ) (same : Bool) → (k == i) ≡ same → Follows i (told_in w i) (due_at i (record_of h)) (shown_of i (record_of h)) (some (due_of i (Turns h i (told_in w i)))) → due_at k (record_of h) ≡ some (due_of k h) → due_at k (tells_of (record_of h) i (told_in w i)) ≡ some (due_of k (Turns h i (told_in w i)))
turn_due w h i k true e f d =
    let q : k ≡ i = number_is k i e in
    subst (λ (m : ℕ). due_at m (tells_of (record_of h) i (told_in w i)) ≡ some (due_of m (Turns h i (told_in w i)))) (sym q) (told_due i (told_in w i) (record_of h) ∙ f.left)
turn_due w h i k false e f d = due_stays k i (told_in w i) (record_of h) e ∙ d ∙ ap some (rw e refl)

step_withdraws : (made : Made) (h : schedule.History) (i : ℕ) → Around made h → Withdraws made h → Withdraws (done made (Steps i)) (Turns h i (told_in made.world i))
step_withdraws made h i a g =
    let w : World = made.world in
    let phase : Phase = (w.seat i).phase in
    let p : Past = record_of h in
    let k = a.known.known in
    let s = k.seats.fits i in
    let t = g.keeps.seats i in
    let o : Shows i (phase_shows phase) (phase_leaves phase) (phase_finds phase) (told_in w i) = due.own_told w i a.known in
    let f : found_shown i (told_in w i) (shown_of i p) ≡ phase_finds phase = ap (found_shown i (told_in w i)) t.shown ∙ o.found in
    let n : due_of i (Turns h i (told_in w i)) ≡ after_due phase = due.turned_due i h (told_in w i) ∙ ap (λ (b : Bool). if b then 2 else one_less (due_of i h)) f ∙ ap (λ (m : ℕ). if phase_finds phase then 2 else one_less m) t.due in
    let d : due_at i p ≡ some (phase_due phase) = g.due i ∙ ap some t.due in
    let x : PhaseFollows i phase (told_in w i) = step_follows w i a.known in
    let l : due_along i (told_in w i) (due_at i p) (shown_of i p) ≡ some (after_due phase) = rw (d, t.shown) x.left in
    let y : Follows i (told_in w i) (due_at i p) (shown_of i p) (some (due_of i (Turns h i (told_in w i)))) = record {
      right = rw (d, t.shown) x.right;
      left = l ∙ sym (ap some n);
    } in
    record {
      keeps = step_kept made h i a g.keeps;
      due = λ m. turn_due w h i m (m == i) refl y (g.due m);
      law = told_each i (told_in w i) p y.right g.law;
      own = helper_each i (told_in w i) p (step_helper w i s.post.seat) g.own;
      last = (told_last i (one_less (due_of i h)) (told_in w i) (due_at i p) (shown_of i p) (y.left ∙ ap some (due.turned_due i h (told_in w i))), g.last);
    }

idle_none : (phase : Phase) → busy_in phase ≡ false → phase_due phase ≡ 0
idle_none Idle h = refl
idle_none (Runs why base) h = absurd (cc)
idle_none (Scans later at) h = absurd (cc)
idle_none (Works work) h = absurd (cc)

begin_withdraws : (made : Made) (h : schedule.History) (i : ℕ) (call : Call) → Around made h → is_busy made.world i ≡ false → Withdraws made h → Withdraws (done made (Begins i call)) (Starts h i call)
begin_withdraws made h i call a y g =
    let t = g.keeps.seats i in
    let n : some (due_of i h) ≡ false = ap some (t.due ∙ idle_none (made.world.seat i).phase y) in
    record {
      keeps = begin_kept made h i call a y g.keeps;
      due = λ k. begun k (k == i) refl n;
      law = (rw (g.due i ∙ n) refl, g.law);
      own = (refl, g.own);
      last = g.last;
    }
  where
    begun : (k : ℕ) (same : Bool) → (k == i) ≡ same → some (due_of i h) ≡ false → (if same then false else due_at k (record_of h)) ≡ some (due_of k h)
    begun k true e n = let q : k ≡ i = number_is k i e in sym (ap (λ (m : ℕ). some (due_of m h)) q ∙ n)
    begun k false e n = g.due k

kept : Kept Withdraws
kept = record { begins = λ made h i call a b f m g. begin_withdraws made h i call a f g; steps = λ made h i a b y g. step_withdraws made h i a g }

pub records_withdraw_next : RecordsWithdrawNext
records_withdraw_next layout items d =
    let g = history_keeps layout Withdraws kept d items (record { keeps = due.first_kept layout; due = λ k. refl; law = tt; own = tt; last = tt }) in
    let c : IsCounted layout items = histories_count layout items d in
    entries_of_each withdraw_ok (histories.record_of layout items) (subst (λ (p : Past). Each withdraw_ok p) c.tells (each_value (record_of (heard_of layout items)) g.own g.law))

pub turns_find_last : TurnsFindLast
turns_find_last layout items d =
    let g = history_keeps layout Withdraws kept d items (record { keeps = due.first_kept layout; due = λ k. refl; law = tt; own = tt; last = tt }) in
    g.last

-- between calls the helper word publishes nothing
pub helper_rests : (layout : Layout) (items : List Item) (i : ℕ) → is_valid layout ≡ true → ((histories.world_of layout items).seat i).phase ≡ Idle → is_some (value_of (Helper i) (histories.record_of layout items)) ≡ false
helper_rests layout items i d e =
    let g : Withdraws (histories.made_of layout items) (heard_of layout items) = history_keeps layout Withdraws kept d items (record { keeps = due.first_kept layout; due = λ k. refl; law = tt; own = tt; last = tt }) in
    let c : IsCounted layout items = histories_count layout items d in
    let t = g.keeps.seats i in
    subst (λ (p : Past). is_some (value_of (Helper i) p) ≡ false) c.tells (sym (shown_value i (record_of (heard_of layout items)) g.own) ∙ t.shown ∙ ap phase_shows e)
