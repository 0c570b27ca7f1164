-- Along a history it is known how often each interval of 2GE was raised.
use Rattle.std.proofs.Common.{ℕ, ◌≡◌, ◌<◌, ◌+◌, ◌^◌, Bool, true, false, List, [], ◌∷◌, ◌++◌, Option, Some, refl, sym, ap, ◌∙◌, subst, arith}
use Rattle.std.proofs.lemmas.Bool.Decides.{nat_tests}
use Rattle.std.specs.Prelude.{◌==◌, ◌&&◌, ◌||◌, nat_le, is_some, if◌then◌else◌}
use Rattle.law_scans.specs.inv.model.words.declared.config.SchemeKind.{SchemeKind}
use Rattle.law_scans.specs.inv.model.words.declared.config.SchemeKind.TheVariants.{He, Ibr, Wfe, Hp}
use Rattle.law_scans.specs.inv.model.words.declared.layout.Layout.{Layout}
use Rattle.law_scans.specs.inv.model.defs.declared.call.Call.{Call}
use Rattle.law_scans.specs.inv.model.defs.declared.event.Event.{Event}
use Rattle.law_scans.specs.inv.model.defs.declared.event.Event.TheVariants as events
use Rattle.law_scans.specs.inv.model.declared.ends.FollowEnd.TheVariants as follow_ends
use Rattle.law_scans.specs.inv.model.declared.post.Post.{Post}
use Rattle.law_scans.specs.inv.model.Desks.{Desk}
use Rattle.law_scans.specs.inv.model.Locals.{Local, busy_in, begun_post, told_by}
use Rattle.law_scans.specs.inv.model.Machine as machine
use Rattle.law_scans.specs.inv.model.Guards.{guard_at}
use Rattle.law_scans.specs.inv.model.Posts.{counted, stands, withdrawn, cleared}
use Rattle.law_scans.specs.inv.model.Rest.{rest}
use Rattle.law_scans.specs.inv.model.Rounds.{scheme_of, clearing_next}
use Rattle.law_scans.specs.inv.model.Steps as steps
use Rattle.law_scans.specs.inv.model.World.{World, begin, finds, is_busy, offered, step, told_in}
use Rattle.law_scans.specs.inv.model.Phases.{ProtectAt, Base, Turn, Ending, Outcome, Goes, Ends}
use Rattle.law_scans.specs.inv.model.Phases.ProtectAt.{LoadClock, LoadWithin, ByHazard}
use Rattle.law_scans.specs.inv.model.Phases.Base.{Protect, Reload}
use Rattle.law_scans.specs.inv.model.Phases.Ending.{Done, Protected, Followed, Allocated, Retired, Clocked}
use Rattle.law_scans.specs.inv.model.Calls.{Again, Why, Opens, FollowsHead, Fills, ClearsNext, Clears, Finishes, GivesUp, Retires, Tidies, Advances, Releases, ReadGuard, GiveBack, Phase, Idle, Runs, Scans, Works, CallTurn}
use Rattle.law_scans.proofs.inv.model.Facts.{same_number, first_of, rest_of, zero_of_test}
use Rattle.law_scans.specs.inv.model.words.Schemes.{is_ibr, publishes_rows}
use Rattle.law_scans.specs.inv.shapes.Frame.{Moves, phase_left}
use Rattle.law_scans.specs.inv.shapes.Seats.{PostFits, PhaseFits, Run}
use Rattle.law_scans.proofs.reuse.shapes.Frame.{seat_stays, begin_stays, begin_begins}
use Rattle.law_scans.proofs.reuse.shapes.Inside.{shape_moves}
use Rattle.law_scans.proofs.reuse.shapes.Kept.{begun_fits, counted_fits, run_counted}
use Rattle.law_scans.specs.laws.records.Record.{Past, Each, tells_of}
use Rattle.law_scans.specs.laws.records.Record.Past.{Then}
use Rattle.law_scans.proofs.laws.records.Entries.{entries_of_each}
use Rattle.law_scans.specs.laws.records.Turns as schedule
use Rattle.law_scans.specs.laws.records.Turns.{record_of}
use Rattle.law_scans.specs.laws.records.Turns.History.{Starts, Turns}
use Rattle.law_scans.specs.inv.history.History.{Begins, Steps, Made, done}
use Rattle.law_scans.specs.inv.history.History as histories
use Rattle.law_scans.specs.inv.requests.Parents.{OutcomeStands, why_stands, phase_stands}
use Rattle.law_scans.proofs.inv.requests.Standings.{machine_stands}
use Rattle.law_scans.proofs.inv.covers.Held.{stepped_post, stepped_phase}
use Rattle.law_scans.specs.inv.Inv.{Inv}
use Rattle.law_scans.proofs.reuse.history.Passes.{First, step_goes, work_told}
use Rattle.law_scans.specs.reuse.Heard.{IsCounted}
use Rattle.law_scans.proofs.reuse.Turns.Counted.{histories_count}
use Rattle.law_scans.proofs.reuse.ReadGuards.{reads_are}
use Rattle.law_scans.proofs.reuse.OneStep.Along.{Around, Kept, history_keeps}
use Rattle.law_scans.proofs.Turns.Counting.Runs.{bump_low}
use Rattle.law_scans.specs.laws.StateAt.{spanned_by, spanned_of, raised_by, raised_of}
use Rattle.law_scans.specs.laws.StepLaw.{number_raised, raise_ok}
use Rattle.law_held.specs.Steps.Records.{RecordsKeepRaises}
use Rattle.law_scans.proofs.Turns.Withdrawals.Leaving.{protects_at, is_first, is_new, Leads, Left, stepped_leads, first_new}
use Rattle.law_held.proofs.Steps.Raises.Raising.{spanned_along, raised_along, counts_along, raised_both, low_raises, low_counts, work_low, work_spans, spans_closed, counts_closed, none_closed, at_raised, base_raised, Out}
use Rattle.law_held.proofs.Steps.Raises.Intervals.{Stage, run_made}
use Rattle.law_scans.proofs.Turns.TurnCounts.Tried.{is_follow}
use Rattle.law_scans.proofs.inv.requests.Parents.{why_counted}
use Rattle.law_scans.proofs.inv.model.Standing.{stands-withdrawn_other}

abbrev pub phase_raised : Phase → (most raised : ℕ) → Bool
phase_raised (Runs why base) most raised = base_raised base most raised
phase_raised phase most raised = raised == 0

-- a new phase
new_protect : (at : ProtectAt) (steps most : ℕ) → (protects_at at && steps == 0) ≡ true → (nat_le steps most && at_raised at steps 0) ≡ true
new_protect (LoadClock tries) steps most h = let z : (steps == 0) ≡ true = rest_of _ (steps == 0) h in grind (arith, nat_tests)
new_protect (ByHazard at) steps most h = let z : (steps == 0) ≡ true = rest_of _ (steps == 0) h in grind (arith, nat_tests)
new_protect LoadWithin steps most h = grind (arith, nat_tests)
new_protect at steps most h = absurd (cc)

new_base : (base : Base) (most : ℕ) → is_first base ≡ true → base_raised base most 0 ≡ true
new_base (Protect aim index root steps at) most h = new_protect at steps most h
new_base (Reload parent index slot era steps) most h = absurd (cc)
new_base base most h = refl

new_raised : (phase : Phase) (most raised : ℕ) → is_new phase ≡ true → raised ≡ 0 → phase_raised phase most raised ≡ true
new_raised Idle most raised h z = rw z refl
new_raised (Runs why base) most raised h z = rw z (new_base base most h)
new_raised (Scans later at) most raised h z = rw z refl
new_raised (Works work) most raised h z = rw z refl

-- where the head has moved, the row at index 0 is cleared in the same step
next_told : (post : Post) (desk : Desk) (told : List Event) → scheme_of post ≡ Ibr → told_by (clearing_next Again post desk told) ≡ ((told ++ cleared 1 (stands post 1)) ++ cleared 0 (stands (withdrawn post 1) 0)) ++ []
next_told post desk told h = rw h refl

cleared_none : (i : ℕ) (o : Option ℕ) (slot : ℕ) (s : Bool) (r : ℕ) → o ≡ Some slot → raised_along i (cleared 0 o) s r ≡ 0
cleared_none i o slot s r e = rw e refl

moved_none : (i : ℕ) (post : Post) (desk : Desk) (told : List Event) (head : ℕ) (s : Bool) (r : ℕ) → scheme_of post ≡ Ibr → stands post 0 ≡ Some head → raised_along i (told_by (clearing_next Again post desk told)) s r ≡ 0
moved_none i post desk told head s r h e =
    let first : List Event = told ++ cleared 1 (stands post 1) in
    let last : List Event = cleared 0 (stands (withdrawn post 1) 0) in
    let q : stands (withdrawn post 1) 0 ≡ Some head = stands-withdrawn_other post 1 0 (λ z. cc) ∙ e in
    ap (λ (es : List Event). raised_along i es s r) (next_told post desk told h) ∙ raised_both i (first ++ last) [] s r ∙ raised_both i first last s r ∙ cleared_none i (stands (withdrawn post 1) 0) head (spanned_along i first s) (raised_along i first s r) q

zero_of : (b : Bool) (n : ℕ) → b ≡ false → (b || n == 0) ≡ true → n ≡ 0
zero_of b n e h = grind (arith, nat_tests)

-- what a machine's step leaves
abbrev Final : (i : ℕ) (s : Bool) (r : ℕ) → CallTurn → Type 0
Final i s r t = phase_raised (phase_left t.outcome) t.post.steps (raised_along i (told_by t) s r) ≡ true

abbrev Quits : (i : ℕ) (s : Bool) (r : ℕ) → (told : List Event) → CallTurn → Type 0
Quits i s r told t = raised_along i told s r ≡ 0 → raised_along i (told_by t) s r ≡ 0

over : (i : ℕ) (s : Bool) (r : ℕ) (t : CallTurn) → is_new (phase_left t.outcome) ≡ true → raised_along i (told_by t) s r ≡ 0 → Final i s r t
over i s r t n z = new_raised (phase_left t.outcome) t.post.steps (raised_along i (told_by t) s r) n z

moved_final : (i : ℕ) (s : Bool) (r : ℕ) (why : Why) (desk : Desk) (post : Post) (told : List Event) (seen : ℕ) → (is_follow why || raised_along i told s r == 0) ≡ true → scheme_of post ≡ Ibr → OutcomeStands why (Ends (Followed (follow_ends.RootMoved seen))) post
    → is_new (phase_left (steps.resumed why desk post told (Ends (Followed (follow_ends.RootMoved seen)))).outcome) ≡ true
    → Quits i s r told (steps.resumed why desk post told (Ends (Followed (follow_ends.RootMoved seen)))) → Final i s r (steps.resumed why desk post told (Ends (Followed (follow_ends.RootMoved seen))))
moved_final i s r (FollowsHead head tail) desk post told seen o h a n q =
    new_raised (phase_left (clearing_next Again post desk told).outcome) (clearing_next Again post desk told).post.steps (raised_along i (told_by (clearing_next Again post desk told)) s r) n (moved_none i post desk told head s r h a)
moved_final i s r (Opens task) desk post told seen o h a n q = over i s r (steps.resumed (Opens task) desk post told (Ends (Followed (follow_ends.RootMoved seen)))) n (q (zero_of false (raised_along i told s r) refl o))
moved_final i s r (Fills task) desk post told seen o h a n q = over i s r (steps.resumed (Fills task) desk post told (Ends (Followed (follow_ends.RootMoved seen)))) n (q (zero_of false (raised_along i told s r) refl o))
moved_final i s r (ClearsNext next) desk post told seen o h a n q = over i s r (steps.resumed (ClearsNext next) desk post told (Ends (Followed (follow_ends.RootMoved seen)))) n (q (zero_of false (raised_along i told s r) refl o))
moved_final i s r (Clears task next) desk post told seen o h a n q = over i s r (steps.resumed (Clears task next) desk post told (Ends (Followed (follow_ends.RootMoved seen)))) n (q (zero_of false (raised_along i told s r) refl o))
moved_final i s r (Finishes task next) desk post told seen o h a n q = over i s r (steps.resumed (Finishes task next) desk post told (Ends (Followed (follow_ends.RootMoved seen)))) n (q (zero_of false (raised_along i told s r) refl o))
moved_final i s r (GivesUp answer) desk post told seen o h a n q = over i s r (steps.resumed (GivesUp answer) desk post told (Ends (Followed (follow_ends.RootMoved seen)))) n (q (zero_of false (raised_along i told s r) refl o))
moved_final i s r (Retires answer) desk post told seen o h a n q = over i s r (steps.resumed (Retires answer) desk post told (Ends (Followed (follow_ends.RootMoved seen)))) n (q (zero_of false (raised_along i told s r) refl o))
moved_final i s r (Tidies later) desk post told seen o h a n q = over i s r (steps.resumed (Tidies later) desk post told (Ends (Followed (follow_ends.RootMoved seen)))) n (q (zero_of false (raised_along i told s r) refl o))
moved_final i s r Advances desk post told seen o h a n q = over i s r (steps.resumed Advances desk post told (Ends (Followed (follow_ends.RootMoved seen)))) n (q (zero_of false (raised_along i told s r) refl o))
moved_final i s r (Releases key) desk post told seen o h a n q = over i s r (steps.resumed (Releases key) desk post told (Ends (Followed (follow_ends.RootMoved seen)))) n (q (zero_of false (raised_along i told s r) refl o))

end_final : (i : ℕ) (s : Bool) (r : ℕ) (why : Why) (desk : Desk) (post : Post) (told : List Event) (ending : Ending) → Out (is_follow why) post.steps (raised_along i told s r) (Ends ending) → scheme_of post ≡ Ibr → OutcomeStands why (Ends ending) post
    → is_new (phase_left (steps.resumed why desk post told (Ends ending)).outcome) ≡ true → Quits i s r told (steps.resumed why desk post told (Ends ending)) → Final i s r (steps.resumed why desk post told (Ends ending))
end_final i s r why desk post told (Followed (follow_ends.RootMoved seen)) o h a n q = moved_final i s r why desk post told seen o h a n q
end_final i s r why desk post told (Followed (follow_ends.Followed slot)) o h a n q = over i s r (steps.resumed why desk post told (Ends (Followed (follow_ends.Followed slot)))) n (q o)
end_final i s r why desk post told (Followed follow_ends.NoNext) o h a n q = over i s r (steps.resumed why desk post told (Ends (Followed follow_ends.NoNext))) n (q o)
end_final i s r why desk post told Done o h a n q = over i s r (steps.resumed why desk post told (Ends Done)) n (q o)
end_final i s r why desk post told (Protected end) o h a n q = over i s r (steps.resumed why desk post told (Ends (Protected end))) n (q o)
end_final i s r why desk post told (Allocated end) o h a n q = over i s r (steps.resumed why desk post told (Ends (Allocated end))) n (q o)
end_final i s r why desk post told (Retired life) o h a n q = over i s r (steps.resumed why desk post told (Ends (Retired life))) n (q o)
end_final i s r why desk post told (Clocked clock) o h a n q = over i s r (steps.resumed why desk post told (Ends (Clocked clock))) n (q o)

run_final : (i : ℕ) (s : Bool) (r : ℕ) (interval : Bool) (why : Why) (desk : Desk) (post : Post) (told : List Event) (outcome : Outcome) → Out (is_follow why) post.steps (raised_along i told s r) outcome → scheme_of post ≡ Ibr → OutcomeStands why outcome post
    → Leads interval why outcome (phase_left (steps.resumed why desk post told outcome).outcome) → Quits i s r told (steps.resumed why desk post told outcome) → Final i s r (steps.resumed why desk post told outcome)
run_final i s r interval why desk post told (Goes base) o h a l q = rw (raised_both i told [] s r) o
run_final i s r interval why desk post told (Ends ending) o h a l q = end_final i s r why desk post told ending o h a l.0 q

-- a step of a seat
stage_of : (w : World) (i : ℕ) (s : Bool) (r : ℕ) (a : Inv w) (why : Why) (base : Base) → w.layout.config.scheme ≡ Ibr → (w.seat i).phase ≡ Runs why base → (w.seat i).post.steps < 2 ^ 62 → s ≡ is_some (w.seat i).post.span → base_raised base (w.seat i).post.steps r ≡ true → Stage i s r w.layout why base (counted (w.seat i).post) (finds w i) (w.seat i).post.steps
stage_of w i s r a why base n e l h t =
    let k = a.known in
    let f = k.seats.fits i in
    let p = f.post in
    let run : Run w.layout why base (counted (w.seat i).post) = run_counted w.layout why base (w.seat i).post (subst (PhaseFits w.layout (w.seat i).post) e f.phase) in
    record {
      seat = p.seat;
      scheme = ap (λ (table : Layout). table.config.scheme) p.layout ∙ n;
      interval = n;
      run = run;
      next = subst (λ (m : ℕ). Moves (PostFits w.layout m) (PhaseFits w.layout) why (machine.after base (counted (w.seat i).post) (finds w i))) (sym p.seat) (shape_moves w.layout i k.valid why base (counted (w.seat i).post) (finds w i) (counted_fits w.layout i (w.seat i).post p) run);
      call = bump_low (w.seat i).post.steps (w.seat i).post.steps (omega arith) l;
      low = l;
      spans = h;
      right = t;
    }

-- what a step tells, before what comes after its machine
record Known (w : World) (i : ℕ) (s : Bool) (r : ℕ) : Type 0 where
  known : Inv w
  scheme : w.layout.config.scheme ≡ Ibr
  low : is_busy w i ≡ true → (w.seat i).post.steps < 2 ^ 62
  spans : s ≡ is_some (w.seat i).post.span
  right : phase_raised (w.seat i).phase (w.seat i).post.steps r ≡ true

first_spans : (w : World) (i : ℕ) (s : Bool) (r : ℕ) (phase : Phase) → (w.seat i).phase ≡ phase → Known w i s r → First (λ post told. spanned_along i told s ≡ is_some post.span) phase (counted (w.seat i).post) (finds w i)
first_spans w i s r Idle e k = k.spans
first_spans w i s r (Runs why base) e k =
    let m = run_made i s r w.layout why base (counted (w.seat i).post) (finds w i) (w.seat i).post.steps (stage_of w i s r k.known why base k.scheme e (k.low (ap busy_in e)) k.spans (subst (λ (phase : Phase). phase_raised phase (w.seat i).post.steps r ≡ true) e k.right)) in m.spans
first_spans w i s r (Scans later (ReadGuard number)) e k =
    reads_are (λ (event : Event). spanned_along i (event ∷ []) s ≡ is_some (w.seat i).post.span) (publishes_rows (w.seat i).post.layout.config.scheme) (guard_at (w.seat i).post.layout.config number) (finds w i) (λ span. k.spans) (λ slot. k.spans)
first_spans w i s r (Scans later (GiveBack place slot)) e k = k.spans
first_spans w i s r (Works work) e k =
    let f = k.known.known in
    work_spans i work (counted (w.seat i).post) s (f.seats.fits i).post.seat k.spans

first_counts : (w : World) (i : ℕ) (s : Bool) (r : ℕ) (phase : Phase) → (w.seat i).phase ≡ phase → Known w i s r → First (λ post told. counts_along i told s r ≡ true) phase (counted (w.seat i).post) (finds w i)
first_counts w i s r Idle e k = refl
first_counts w i s r (Runs why base) e k =
    let m = run_made i s r w.layout why base (counted (w.seat i).post) (finds w i) (w.seat i).post.steps (stage_of w i s r k.known why base k.scheme e (k.low (ap busy_in e)) k.spans (subst (λ (phase : Phase). phase_raised phase (w.seat i).post.steps r ≡ true) e k.right)) in m.counts
first_counts w i s r (Scans later (ReadGuard number)) e k =
    reads_are (λ (event : Event). counts_along i (event ∷ []) s r ≡ true) (publishes_rows (w.seat i).post.layout.config.scheme) (guard_at (w.seat i).post.layout.config number) (finds w i) (λ span. refl) (λ slot. refl)
first_counts w i s r (Scans later (GiveBack place slot)) e k = refl
first_counts w i s r (Works work) e k = low_counts i (work_told work (counted (w.seat i).post)) s r (work_low work (counted (w.seat i).post))

none_phase : (w : World) (i : ℕ) (s : Bool) (r : ℕ) (phase : Phase) → First (λ post told. raised_along i told s r ≡ 0) phase (counted (w.seat i).post) (finds w i) → raised_along i (told_by (steps.phase_turn phase (counted (w.seat i).post) (offered w i).desk (finds w i))) s r ≡ 0
none_phase w i s r phase h = step_goes (λ post told. raised_along i told s r ≡ 0) (none_closed i s r) phase (counted (w.seat i).post) (offered w i).desk (finds w i) h

turn_final : (w : World) (i : ℕ) (s : Bool) (r : ℕ) (interval : Bool) (phase : Phase) → (w.seat i).phase ≡ phase → Known w i s r → Left interval phase (counted (w.seat i).post) (finds w i) (phase_left (steps.phase_turn phase (counted (w.seat i).post) (offered w i).desk (finds w i)).outcome)
    → Final i s r (steps.phase_turn phase (counted (w.seat i).post) (offered w i).desk (finds w i))
turn_final w i s r interval Idle e k l = over i s r (steps.phase_turn Idle (counted (w.seat i).post) (offered w i).desk (finds w i)) l (none_phase w i s r Idle (zero_of_test r (subst (λ (phase : Phase). phase_raised phase (w.seat i).post.steps r ≡ true) e k.right)))
turn_final w i s r interval (Runs why base) e k l =
    let t : Turn = machine.after base (counted (w.seat i).post) (finds w i) in
    let x = stage_of w i s r k.known why base k.scheme e (k.low (ap busy_in e)) k.spans (subst (λ (phase : Phase). phase_raised phase (w.seat i).post.steps r ≡ true) e k.right) in
    let m = run_made i s r w.layout why base (counted (w.seat i).post) (finds w i) (w.seat i).post.steps x in
    let n = x.next in
    let f = k.known.known in
    let q : scheme_of t.post ≡ Ibr = ap (λ (table : Layout). table.config.scheme) n.post.layout ∙ k.scheme in
    let st : why_stands why base (counted (w.seat i).post) = why_counted why base (w.seat i).post (subst (λ (phase : Phase). phase_stands phase (w.seat i).post) e (f.parents.stand i)) in
    let a : OutcomeStands why t.outcome t.post = machine_stands w.layout i why base (counted (w.seat i).post) (finds w i) (counted_fits w.layout i (w.seat i).post (f.seats.fits i).post) x.run st in
    run_final i s r interval why (offered w i).desk t.post t.told t.outcome m.out q a l (none_phase w i s r (Runs why base))
turn_final w i s r interval (Scans later (ReadGuard number)) e k l =
    let z : r ≡ 0 = zero_of_test r (subst (λ (phase : Phase). phase_raised phase (w.seat i).post.steps r ≡ true) e k.right) in
    over i s r (steps.phase_turn (Scans later (ReadGuard number)) (counted (w.seat i).post) (offered w i).desk (finds w i)) l
    (none_phase w i s r (Scans later (ReadGuard number))
    (reads_are (λ (event : Event). raised_along i (event ∷ []) s r ≡ 0) (publishes_rows (w.seat i).post.layout.config.scheme) (guard_at (w.seat i).post.layout.config number) (finds w i) (λ span. z) (λ slot. z)))
turn_final w i s r interval (Scans later (GiveBack place slot)) e k l =
    over i s r (steps.phase_turn (Scans later (GiveBack place slot)) (counted (w.seat i).post) (offered w i).desk (finds w i)) l (none_phase w i s r (Scans later (GiveBack place slot)) (zero_of_test r (subst (λ (phase : Phase). phase_raised phase (w.seat i).post.steps r ≡ true) e k.right)))
turn_final w i s r interval (Works work) e k l =
    over i s r (steps.phase_turn (Works work) (counted (w.seat i).post) (offered w i).desk (finds w i)) l
    (none_phase w i s r (Works work)
    (ap (raised_along i (work_told work (counted (w.seat i).post)) s) (zero_of_test r (subst (λ (phase : Phase). phase_raised phase (w.seat i).post.steps r ≡ true) e k.right))
    ∙ low_raises i (work_told work (counted (w.seat i).post)) s (work_low work (counted (w.seat i).post))))

-- what seat i tells is told by it alone
spanned_tells : (i : ℕ) (told : List Event) (p : Past) → spanned_of i (tells_of p i told) ≡ spanned_along i told (spanned_of i p)
spanned_tells i [] p = refl
spanned_tells i (event ∷ told) p = spanned_tells i told (Then p i event) ∙ ap (spanned_along i told) (here (i == i) (same_number i))
  where
    here : (same : Bool) → same ≡ true → (if same then spanned_by i event (spanned_of i p) else spanned_of i p) ≡ spanned_by i event (spanned_of i p)
    here true e = refl
    here false e = absurd (cc)

raised_tells : (i : ℕ) (told : List Event) (p : Past) → raised_of i (tells_of p i told) ≡ raised_along i told (spanned_of i p) (raised_of i p)
raised_tells i [] p = refl
raised_tells i (event ∷ told) p =
    raised_tells i told (Then p i event) ∙ ap (λ (s : Bool). raised_along i told s (raised_of i (Then p i event))) (here_span (i == i) (same_number i)) ∙ ap (raised_along i told (spanned_by i event (spanned_of i p))) (here (i == i) (same_number i))
  where
    here_span : (same : Bool) → same ≡ true → (if same then spanned_by i event (spanned_of i p) else spanned_of i p) ≡ spanned_by i event (spanned_of i p)
    here_span true e = refl
    here_span false e = absurd (cc)

    here : (same : Bool) → same ≡ true → (if same then raised_by i event (spanned_of i p) (raised_of i p) else raised_of i p) ≡ raised_by i event (spanned_of i p) (raised_of i p)
    here true e = refl
    here false e = absurd (cc)

spanned_stays : (k i : ℕ) (told : List Event) (p : Past) → (k == i) ≡ false → spanned_of k (tells_of p i told) ≡ spanned_of k p
spanned_stays k i [] p e = refl
spanned_stays k i (event ∷ told) p e = spanned_stays k i told (Then p i event) e ∙ rw e refl

raised_stays : (k i : ℕ) (told : List Event) (p : Past) → (k == i) ≡ false → raised_of k (tells_of p i told) ≡ raised_of k p
raised_stays k i [] p e = refl
raised_stays k i (event ∷ told) p e = raised_stays k i told (Then p i event) e ∙ rw e refl

told_each : (i : ℕ) (told : List Event) (p : Past) → counts_along i told (spanned_of i p) (raised_of i p) ≡ true → Each raise_ok p → Each raise_ok (tells_of p i told)
told_each i [] p h e = e
told_each i (event ∷ told) p h e =
    let s : spanned_of i (Then p i event) ≡ spanned_by i event (spanned_of i p) = rw (same_number i) refl in
    let r : raised_of i (Then p i event) ≡ raised_by i event (spanned_of i p) (raised_of i p) = rw (same_number i) refl in
    told_each i told (Then p i event) (rw s (rw r (rest_of (number_raised event (raised_of i p)) (counts_along i told (spanned_by i event (spanned_of i p)) (raised_by i event (spanned_of i p) (raised_of i p))) h)))
    (first_of (number_raised event (raised_of i p)) (counts_along i told (spanned_by i event (spanned_of i p)) (raised_by i event (spanned_of i p) (raised_of i p))) h, e)

-- along a history
record SeatTied (spanned : Bool) (raised : ℕ) (l : Local) : Type 0 where
  spans : spanned ≡ is_some l.post.span
  right : phase_raised l.phase l.post.steps raised ≡ true

record Raises (layout : Layout) (made : Made) (h : schedule.History) : Type 0 where
  table : made.world.layout ≡ layout
  seats : (k : ℕ) → SeatTied (spanned_of k (record_of h)) (raised_of k (record_of h)) (made.world.seat k)
  law : Each raise_ok (record_of h)

known_of : (layout : Layout) (made : Made) (h : schedule.History) (i : ℕ) → layout.config.scheme ≡ Ibr → Around made h → Raises layout made h → Known made.world i (spanned_of i (record_of h)) (raised_of i (record_of h))
known_of layout made h i n a g =
    let t = g.seats i in
    record {
      known = a.known;
      scheme = ap (λ (table : Layout). table.config.scheme) g.table ∙ n;
      low = λ y. low_of (made.world.seat i).post.steps (rest made.world i) (a.few i y);
      spans = t.spans;
      right = t.right;
    }
  where
    low_of : (n m : ℕ) → n + m < 2 ^ 62 → n < 2 ^ 62
    low_of n m h = omega (h, arith)

step_own : (layout : Layout) (made : Made) (h : schedule.History) (i : ℕ) → layout.config.scheme ≡ Ibr → Around made h → Raises layout made h → SeatTied (spanned_of i (tells_of (record_of h) i (told_in made.world i))) (raised_of i (tells_of (record_of h) i (told_in made.world i))) ((step made.world i).seat i)
step_own layout made h i n a g =
    let w : World = made.world in
    let v = a.known.known in
    let s : Bool = spanned_of i (record_of h) in
    let r : ℕ = raised_of i (record_of h) in
    let phase : Phase = (w.seat i).phase in
    let x = known_of layout made h i n a g in
    let t : CallTurn = steps.phase_turn phase (counted (w.seat i).post) (offered w i).desk (finds w i) in
    let y : spanned_along i (told_in w i) s ≡ is_some t.post.span = step_goes (λ post told. spanned_along i told s ≡ is_some post.span) (spans_closed i s) phase (counted (w.seat i).post) (offered w i).desk (finds w i) (first_spans w i s r phase refl x) in
    let led : Left (is_ibr w.layout.config.scheme) phase (counted (w.seat i).post) (finds w i) (phase_left t.outcome) = subst (λ (next : Phase). Left (is_ibr w.layout.config.scheme) phase (counted (w.seat i).post) (finds w i) next) (stepped_phase w i) (stepped_leads w i v.valid v.seats) in
    let z : phase_raised (phase_left t.outcome) t.post.steps (raised_along i (told_in w i) s r) ≡ true = turn_final w i s r (is_ibr w.layout.config.scheme) phase refl x led in
    let p : ((step w i).seat i).post ≡ t.post = stepped_post w i in
    let q : ((step w i).seat i).phase ≡ phase_left t.outcome = stepped_phase w i in
    record {
      spans = spanned_tells i (told_in w i) (record_of h) ∙ y ∙ sym (ap (λ (post : Post). is_some post.span) p);
      right = rw q (rw p (rw (raised_tells i (told_in w i) (record_of h)) z));
    }

step_seats : (layout : Layout) (made : Made) (h : schedule.History) (i k : ℕ) (same : Bool) → (k == i) ≡ same → layout.config.scheme ≡ Ibr → Around made h → Raises layout made h → SeatTied (spanned_of k (tells_of (record_of h) i (told_in made.world i))) (raised_of k (tells_of (record_of h) i (told_in made.world i))) ((step made.world i).seat k)
step_seats layout made h i k true e n a g =
    let one : k ≡ i = grind (arith, nat_tests) in
    subst (λ (m : ℕ). SeatTied (spanned_of m (tells_of (record_of h) i (told_in made.world i))) (raised_of m (tells_of (record_of h) i (told_in made.world i))) ((step made.world i).seat m)) (sym one) (step_own layout made h i n a g)
step_seats layout made h i k false e n a g =
    let w : World = made.world in
    let t = g.seats k in
    subst (λ (l : Local). SeatTied (spanned_of k (tells_of (record_of h) i (told_in w i))) (raised_of k (tells_of (record_of h) i (told_in w i))) l) (sym (seat_stays w i k e))
    (record { spans = spanned_stays k i (told_in w i) (record_of h) e ∙ t.spans; right = rw (raised_stays k i (told_in w i) (record_of h) e) t.right })

step_kept : (layout : Layout) (made : Made) (h : schedule.History) (i : ℕ) → layout.config.scheme ≡ Ibr → Around made h → Raises layout made h → Raises layout (done made (Steps i)) (Turns h i (told_in made.world i))
step_kept layout made h i n a g =
    let w : World = made.world in
    let s : Bool = spanned_of i (record_of h) in
    let r : ℕ = raised_of i (record_of h) in
    let x = known_of layout made h i n a g in
    let c : counts_along i (told_in w i) s r ≡ true = step_goes (λ post told. counts_along i told s r ≡ true) (counts_closed i s r) (w.seat i).phase (counted (w.seat i).post) (offered w i).desk (finds w i) (first_counts w i s r (w.seat i).phase refl x) in
    record { table = g.table; seats = λ k. step_seats layout made h i k (k == i) refl n a g; law = told_each i (told_in w i) (record_of h) c g.law }

-- a call begins
begin_seats : (layout : Layout) (made : Made) (h : schedule.History) (i k : ℕ) (call : Call) (same : Bool) → (k == i) ≡ same → Around made h → Raises layout made h → SeatTied (spanned_of k (Then (record_of h) i (events.Begin call))) (raised_of k (Then (record_of h) i (events.Begin call))) ((begin made.world i call).seat k)
begin_seats layout made h i k call true e a g =
    let one : k ≡ i = grind (arith, nat_tests) in
    let w : World = made.world in
    let n = a.known.known in
    let f = n.seats.fits i in
    let t = g.seats i in
    let post : Post = begun_post (w.seat i).post in
    let r : phase_raised (steps.first_phase call post) post.steps 0 ≡ true = new_raised (steps.first_phase call post) post.steps 0 (first_new w.layout i n.valid call post (begun_fits w.layout i (w.seat i).post f.post)) refl in
    subst (λ (m : ℕ). SeatTied (spanned_of m (Then (record_of h) i (events.Begin call))) (raised_of m (Then (record_of h) i (events.Begin call))) ((begin w i call).seat m)) (sym one)
    (subst (λ (l : Local). SeatTied (spanned_of i (Then (record_of h) i (events.Begin call))) (raised_of i (Then (record_of h) i (events.Begin call))) l) (sym (begin_begins w i call))
    (record { spans = rw (same_number i) t.spans; right = rw (same_number i) r }))
begin_seats layout made h i k call false e a g =
    let w : World = made.world in
    let t = g.seats k in
    subst (λ (l : Local). SeatTied (spanned_of k (Then (record_of h) i (events.Begin call))) (raised_of k (Then (record_of h) i (events.Begin call))) l) (sym (begin_stays w i k call e))
    (record { spans = rw e t.spans; right = rw e t.right })

begin_kept : (layout : Layout) (made : Made) (h : schedule.History) (i : ℕ) (call : Call) → Around made h → Raises layout made h → Raises layout (done made (Begins i call)) (Starts h i call)
begin_kept layout made h i call a g = record { table = g.table; seats = λ k. begin_seats layout made h i k call (k == i) refl a g; law = (refl, g.law) }

kept : (layout : Layout) → layout.config.scheme ≡ Ibr → Kept (Raises layout)
kept layout n = record { begins = λ made h i call a b f m g. begin_kept layout made h i call a g; steps = λ made h i a b y g. step_kept layout made h i n a g }

interval_of : (scheme : SchemeKind) → is_ibr scheme ≡ true → scheme ≡ Ibr
interval_of He h = absurd (cc)
interval_of Ibr h = refl
interval_of Wfe h = absurd (cc)
interval_of Hp h = absurd (cc)

pub records_keep_raises : RecordsKeepRaises
records_keep_raises layout items d f =
    let g = history_keeps layout (Raises layout) (kept layout (interval_of layout.config.scheme f)) d items (record { table = refl; seats = λ k. record { spans = refl; right = refl }; law = tt }) in
    let c : IsCounted layout items = histories_count layout items d in
    entries_of_each raise_ok (histories.record_of layout items) (subst (λ (p : Past). Each raise_ok p) c.tells g.law)
