-- Where rows are published each attempt of a protection is counted as a round, so that a root is found no more often than that. A get
-- finds its root once: once it has, it looks for it no more.
use Rattle.std.proofs.Common.{ℕ, ◌≡◌, ◌≤◌, ◌+◌, ◌-◌, Bool, true, false, List, [], ◌∷◌, ◌++◌, Option, Some, None, refl, sym, ap, ◌∙◌, subst, arith}
use Rattle.std.proofs.lemmas.Bool.Decides.{nat_tests}
use Rattle.std.specs.Prelude.{◌==◌, ◌||◌, nat_lt, if◌then◌else◌}
use Rattle.law_scans.specs.inv.model.words.Schemes.{has_one_interval, publishes_rows}
use Rattle.law_scans.specs.inv.model.words.declared.config.Config.{Config}
use Rattle.law_scans.specs.inv.model.words.declared.layout.Layout.{Layout}
use Rattle.law_scans.specs.inv.model.defs.declared.call.Answer.{Answer}
use Rattle.law_scans.specs.inv.model.defs.declared.event.Event.{Event}
use Rattle.law_scans.specs.inv.model.defs.declared.event.Event.TheVariants as events
use Rattle.law_scans.specs.inv.model.defs.declared.event.Guard.TheVariants.{Index}
use Rattle.law_scans.specs.inv.model.defs.declared.event.Root.{Root}
use Rattle.law_scans.specs.inv.model.defs.declared.event.Root.TheVariants as roots
use Rattle.law_scans.specs.inv.model.declared.ends.ProtectEnd.TheVariants as protect_ends
use Rattle.law_scans.specs.inv.model.declared.post.Post.{Post}
use Rattle.law_scans.specs.inv.model.Calls.{Task, Gets, Changes, Holds, Enqueues, Dequeues, Next, Again, MakeRoom, Answering, Retiring, GetAt, FindVersion, FindCount, FindKey, FindValue, Work, Getting, Why, Opens, Clears, Finishes, Phase, Idle, Runs, Scans, Works, CallTurn}
use Rattle.law_scans.specs.inv.model.Desks.{Desk}
use Rattle.law_scans.specs.inv.model.Get as gets
use Rattle.law_scans.specs.inv.model.Guards.{linked_row}
use Rattle.law_scans.specs.inv.model.Locals.{counts_at, row_told, rounds_told, told_by, turn}
use Rattle.law_scans.specs.inv.model.Machine as machine
use Rattle.law_scans.specs.inv.model.Memory.{bump}
use Rattle.law_scans.specs.inv.model.Phases.{Aim, Alone, Follows, HazardAt, ProtectAt, Base, Turn, Outcome, Goes, Ends}
use Rattle.law_scans.specs.inv.model.Phases.Ending.{Protected}
use Rattle.law_scans.specs.inv.model.Phases.HazardAt.{FirstLink, PublishLink, CheckLink}
use Rattle.law_scans.specs.inv.model.Phases.ProtectAt.{ByHazard}
use Rattle.law_scans.specs.inv.model.Phases.Base.{Begin, Protect, Reload, Allocate, Write, Retire, Move}
use Rattle.law_scans.specs.inv.model.Posts.{counted}
use Rattle.law_scans.specs.inv.model.Protect as protects
use Rattle.law_scans.specs.inv.model.Rounds.{begin_base, clear_base, clear_post, clear_told, clearing_by, finish_base, finishing_by, index_of, round, round_by, scheme_of}
use Rattle.law_scans.specs.inv.model.Steps as steps
use Rattle.law_scans.specs.inv.model.World.{World, finds, offered, told_in}
use Rattle.law_scans.proofs.inv.model.words.Schemes.{rows_not_interval}
use Rattle.law_scans.specs.inv.shapes.Frame.{phase_left}
use Rattle.law_scans.specs.inv.shapes.Seats.{PhaseFits, Run, Seats, base_fits, protect_fits}
use Rattle.law_scans.specs.inv.shapes.Slots.{PhaseIn, Slots}
use Rattle.law_scans.proofs.inv.requests.Hazards.{only_hazards}
use Rattle.law_scans.proofs.inv.covers.Fresh.{resume_fresh, works_start}
use Rattle.law_scans.proofs.inv.covers.Scans.{scan_starts}
use Rattle.law_scans.specs.inv.covers.Tries.{is_start, starts_base}
use Rattle.law_scans.proofs.inv.ends.Handover.Asks.{run_of}
use Rattle.law_scans.proofs.inv.history.AllOf.{of_weaker}
use Rattle.law_scans.proofs.inv.history.MayTell.{concluded_told}
use Rattle.law_scans.proofs.inv.history.Passes.{Closed, is_quiet, step_goes}
use Rattle.law_scans.proofs.inv.ends.Origins.Plain.{out_moves, out_plain, is_move, moves_on, plain_after}
use Rattle.law_scans.proofs.inv.ends.Rest.Closings.{rounds_join}
use Rattle.law_reasons.proofs.Repeats.Finds.{both_finds, clear_plain, finds_in, is_plain, one_at, opens_now, phase_top, plain_finds, quiet_plain, row_none, run_opens, step_finds, told_rounds}

-- a protection that has published its row, and has not loaded the link again
abbrev pub at_pending : ProtectAt → Bool
at_pending (ByHazard (CheckLink link)) = true
at_pending at = false

abbrev pub base_pending : Base → Bool
base_pending (Protect aim index root steps at) = at_pending at
base_pending base = false

abbrev pub pending : Phase → ℕ
pending (Runs (Opens task) base) = one_at (base_pending base)
pending phase = 0

-- the step that publishes it
abbrev at_publishes : ProtectAt → Bool
at_publishes (ByHazard (PublishLink link)) = true
at_publishes at = false

abbrev base_publishes : Base → Bool
base_publishes (Protect aim index root steps at) = at_publishes at
base_publishes base = false

abbrev out_pending : Outcome → Bool
out_pending (Goes base) = base_pending base
out_pending (Ends ending) = false

at_start : (aim : Aim) (index : ℕ) (root : Root) (steps : ℕ) (at : ProtectAt) → starts_base (Protect aim index root steps at) ≡ true → at_pending at ≡ false
at_start aim index root steps (ByHazard (CheckLink link)) h = absurd (cc)
at_start aim index root steps at h = refl

base_start : (base : Base) → starts_base base ≡ true → base_pending base ≡ false
base_start (Protect aim index root steps at) h = at_start aim index root steps at h
base_start base h = refl

why_start : (why : Why) (base : Base) → base_pending base ≡ false → pending (Runs why base) ≡ 0
why_start (Opens task) base h = ap one_at h
why_start why base h = refl

pub start_pending : (phase : Phase) → is_start phase ≡ true → pending phase ≡ 0
start_pending (Runs why base) h = why_start why base (base_start base h)
start_pending phase h = refl

-- where no row is published none is pending
pending_rows : (config : Config) (base : Base) → base_fits config base ≡ true → base_pending base ≡ true → publishes_rows config.scheme ≡ true
pending_rows config (Protect aim index root steps (ByHazard at)) f h = f
pending_rows config (Protect aim index root steps at) f h = absurd (cc)
pending_rows config base f h = absurd (cc)

base_plain : (config : Config) (base : Base) (b : Bool) → base_pending base ≡ b → publishes_rows config.scheme ≡ false → base_fits config base ≡ true → b ≡ false
base_plain config base false q e f = refl
base_plain config base true q e f = absurd (let r = pending_rows config base f q in cc)

pub plain_pending : (layout : Layout) (post : Post) (phase : Phase) → publishes_rows layout.config.scheme ≡ false → PhaseFits layout post phase → pending phase ≡ 0
plain_pending layout post (Runs why base) e f = why_start why base (base_plain layout.config base (base_pending base) refl e f.fits)
plain_pending layout post phase e f = refl

-- only the step that publishes the row leaves one pending
plain_leads : (outcome : Outcome) → out_plain outcome ≡ true → out_pending outcome ≡ false
plain_leads (Goes base) h = base_start base h
plain_leads (Ends ending) h = refl

move_base : (base : Base) → is_move base ≡ true → base_pending base ≡ false
move_base (Move at) h = refl
move_base base h = absurd (cc)

move_leads : (outcome : Outcome) → out_moves outcome ≡ true → out_pending outcome ≡ false
move_leads (Goes base) h = move_base base h
move_leads (Ends ending) h = refl

leads_if : (b : Bool) (t u : Turn) → out_pending t.outcome ≡ false → out_pending u.outcome ≡ false → out_pending (if b then t else u).outcome ≡ false
leads_if true t u h k = h
leads_if false t u h k = k

protected_leads : (aim : Aim) (index : ℕ) (root : Root) (n link era : ℕ) (post : Post) → out_pending (protects.protected aim index root n link era post).outcome ≡ false
protected_leads Alone index root n link era post = refl
protected_leads Follows index root n link era post = leads_if (link == 0) _ _ refl refl

hazard_leads : (aim : Aim) (index : ℕ) (root : Root) (n : ℕ) (at : HazardAt) (post : Post) (found : ℕ) → out_pending (machine.protect_turn aim index root n (ByHazard at) post found).outcome ≡ at_publishes (ByHazard at)
hazard_leads aim index root n FirstLink post found = leads_if (found == 0) _ _ (protected_leads aim index root n found 0 post) refl
hazard_leads aim index root n (PublishLink link) post found = refl
hazard_leads aim index root n (CheckLink link) post found = leads_if (found == link || found == 0) _ _ (protected_leads aim index root n found 0 post) refl

base_leads : (config : Config) (base : Base) (post : Post) (found : ℕ) → publishes_rows config.scheme ≡ true → base_fits config base ≡ true → out_pending (machine.after base post found).outcome ≡ base_publishes base
base_leads config (Begin at) post found p f = absurd (let e = rows_not_interval config.scheme p in cc)
base_leads config (Protect aim index root made at) post found p f =
    only_hazards config.scheme config.tries at (λ (x : ProtectAt). out_pending (machine.protect_turn aim index root (bump made) x post found).outcome ≡ at_publishes x) p f (λ x. hazard_leads aim index root (bump made) x post found)
base_leads config (Move at) post found p f = move_leads _ (moves_on at post found)
base_leads config (Reload parent index slot era made) post found p f = plain_leads _ (plain_after (Reload parent index slot era made) post found refl)
base_leads config (Allocate at) post found p f = plain_leads _ (plain_after (Allocate at) post found refl)
base_leads config (Write slot row place) post found p f = plain_leads _ (plain_after (Write slot row place) post found refl)
base_leads config (Retire at) post found p f = plain_leads _ (plain_after (Retire at) post found refl)
base_leads config base post found p f = refl

-- so it is over a step
abbrev now_publishes : Phase → Bool
now_publishes (Runs (Opens task) base) = base_publishes base
now_publishes phase = false

resumed_pending : (why : Why) (desk : Desk) (post : Post) (told : List Event) (outcome : Outcome) (base : Base) → out_pending outcome ≡ base_publishes base → pending (phase_left (steps.resumed why desk post told outcome).outcome) ≤ one_at (now_publishes (Runs why base))
resumed_pending (Opens task) desk post told (Goes next) base h = let e = ap one_at h in omega (arith, e)
resumed_pending (Opens task) desk post told (Ends ending) base h = let e = start_pending _ (resume_fresh (Opens task) ending post desk told).starts in omega (arith, e)
resumed_pending why desk post told (Goes next) base h = omega arith
resumed_pending why desk post told (Ends ending) base h = let e = start_pending (phase_left (steps.resumed why desk post told (Ends ending)).outcome) (resume_fresh why ending post desk told).starts in omega (arith, e)

runs_pending : (phase : Phase) → ((why : Why) (base : Base) → phase ≡ Runs why base → starts_base base ≡ true) → pending phase ≡ 0
runs_pending (Runs why base) h = why_start why base (base_start base (h why base refl))
runs_pending phase h = refl

turn_pending : (layout : Layout) (last : Post) (phase : Phase) (post : Post) (desk : Desk) (found : ℕ) → publishes_rows layout.config.scheme ≡ true → PhaseFits layout last phase → pending (phase_left (steps.phase_turn phase post desk found).outcome) ≤ one_at (now_publishes phase)
turn_pending layout last Idle post desk found p f = omega arith
turn_pending layout last (Runs why base) post desk found p f =
    let t : Turn = machine.after base post found in resumed_pending why desk t.post t.told t.outcome base (base_leads layout.config base post found p f.fits)
turn_pending layout last (Scans later at) post desk found p f = let e = start_pending _ (scan_starts later at post desk found) in omega (arith, e)
turn_pending layout last (Works work) post desk found p f = let e = runs_pending _ (works_start work post desk found) in omega (arith, e)

-- a protection that loads null at once tells one that is counted
null_few : (a b : Bool) → (if a then 1 else 0) ≤ (if a || b then 1 else 0)
null_few true b = omega arith
null_few false true = omega arith
null_few false false = omega arith

abbrev Few : List Event → Type 0
Few told = finds_in told ≤ rounds_told true 0 told

null_counts : (index n : ℕ) → Few (events.Null index n ∷ [])
null_counts index n = null_few (index == 0) (index == 2)

first_held : (index : ℕ) (root : Root) (n found : ℕ) → (found == 0) ≡ true → Few (protects.told_held index root found n)
first_held index (roots.Next parent) n found e = rw e (null_counts index n)
first_held index (roots.Bucket bucket) n found e = rw e (null_counts index n)
first_held index roots.Head n found e = rw e (null_counts index n)
first_held index roots.Tail n found e = rw e (null_counts index n)

few_if : (b : Bool) (t u : Turn) → (b ≡ true → Few t.told) → Few u.told → Few (if b then t else u).told
few_if true t u h k = h refl
few_if false t u h k = k

first_counts : (aim : Aim) (index : ℕ) (root : Root) (made : ℕ) (post : Post) (found : ℕ) → Few (machine.after (Protect aim index root made (ByHazard FirstLink)) post found).told
first_counts aim index root made post found =
    few_if (found == 0) _ _ (λ e. subst Few (sym (concluded_told aim index root (bump made) found 0 (protects.held_post post index root found) (protects.told_held index root found (bump made)))) (first_held index root (bump made) found e)) (omega arith)

few_more : (told more : List Event) → finds_in more ≤ 0 → Few told → Few (told ++ more)
few_more told more z h =
    let a = both_finds told more in
    let b = rounds_join true 0 told more in
    let c = told_rounds true (rounds_told true 0 told) more in
    omega (arith, a, b, c, z, h)

few_closed : Closed (λ post told. Few told)
few_closed = record {
  calm = λ post told more q h. few_more told more (plain_finds more 0 (of_weaker is_quiet is_plain more quiet_plain q)) h;
  clears = λ post told index h. few_more told (clear_told (scheme_of post) post index) (plain_finds (clear_told (scheme_of post) post index) 0 (clear_plain (scheme_of post) post index)) h;
}

-- the row that is published is counted
task_counts : (task : Task) → counts_at true (index_of task) ≡ true
task_counts (Gets key) = refl
task_counts (Changes kept) = refl
task_counts (Holds key) = refl
task_counts (Enqueues kept) = refl
task_counts Dequeues = refl

row_counts : (seat index link : ℕ) (null : Bool) → (link == 0) ≡ null → 1 ≤ link → counts_at true index ≡ true → 1 ≤ row_told true 0 (Index seat index) (linked_row link)
row_counts seat index link true e l c = absurd (grind (arith, nat_tests))
row_counts seat index link false e l c = rw (e, c) (omega arith)

-- what a step finds, with the row that it leaves pending, is no more than it counts, with the one that was pending
abbrev Counted : World → ℕ → Phase → Type 0
Counted w i phase = finds_in (told_in w i) + pending (phase_left (turn (offered w i) (finds w i)).outcome) ≤ rounds_told true 0 (told_in w i) + pending phase

none_counted : (w : World) (i : ℕ) (phase : Phase) → (w.seat i).phase ≡ phase → publishes_rows w.layout.config.scheme ≡ true → Seats w → phase_top phase ≤ 0 → now_publishes phase ≡ false → Counted w i phase
none_counted w i phase e p s t n =
    let a = step_finds phase (counted (w.seat i).post) (offered w i).desk (finds w i) in
    let f : PhaseFits w.layout (w.seat i).post phase = subst (PhaseFits w.layout (w.seat i).post) e (s.fits i).phase in
    let b = turn_pending w.layout (w.seat i).post phase (counted (w.seat i).post) (offered w i).desk (finds w i) p f in
    let x : told_in w i ≡ told_by (steps.phase_turn phase (counted (w.seat i).post) (offered w i).desk (finds w i)) = ap (λ (y : Phase). told_by (steps.phase_turn y (counted (w.seat i).post) (offered w i).desk (finds w i))) e in
    let c : finds_in (told_in w i) ≤ 0 = subst (λ (told : List Event). finds_in told ≤ 0) (sym x) (omega (arith, a, t)) in
    let y : pending (phase_left (turn (offered w i) (finds w i)).outcome) ≡ pending (phase_left (steps.phase_turn phase (counted (w.seat i).post) (offered w i).desk (finds w i)).outcome) =
    ap (λ (z : Phase). pending (phase_left (steps.phase_turn z (counted (w.seat i).post) (offered w i).desk (finds w i)).outcome)) e in
    let o : one_at (now_publishes phase) ≡ 0 = ap one_at n in
    omega (arith, b, c, y, o)

hazard_counted : (w : World) (i : ℕ) (task : Task) (aim : Aim) (index : ℕ) (root : Root) (made : ℕ) (at : HazardAt) → (w.seat i).phase ≡ Runs (Opens task) (Protect aim index root made (ByHazard at)) → publishes_rows w.layout.config.scheme ≡ true → Seats w → Slots w
    → Counted w i (Runs (Opens task) (Protect aim index root made (ByHazard at)))
hazard_counted w i task aim index root made FirstLink e p s l =
    let phase : Phase = Runs (Opens task) (Protect aim index root made (ByHazard FirstLink)) in
    let f : PhaseFits w.layout (w.seat i).post phase = subst (PhaseFits w.layout (w.seat i).post) e (s.fits i).phase in
    let b : pending (phase_left (steps.phase_turn phase (counted (w.seat i).post) (offered w i).desk (finds w i)).outcome) ≤ 0 = turn_pending w.layout (w.seat i).post phase (counted (w.seat i).post) (offered w i).desk (finds w i) p f in
    let x : told_in w i ≡ told_by (steps.phase_turn phase (counted (w.seat i).post) (offered w i).desk (finds w i)) = ap (λ (y : Phase). told_by (steps.phase_turn y (counted (w.seat i).post) (offered w i).desk (finds w i))) e in
    let y : pending (phase_left (turn (offered w i) (finds w i)).outcome) ≡ pending (phase_left (steps.phase_turn phase (counted (w.seat i).post) (offered w i).desk (finds w i)).outcome) =
    ap (λ (z : Phase). pending (phase_left (steps.phase_turn z (counted (w.seat i).post) (offered w i).desk (finds w i)).outcome)) e in
    let c : Few (told_in w i) = subst Few (sym x) (step_goes (λ post told. Few told) few_closed phase (counted (w.seat i).post) (offered w i).desk (finds w i) (first_counts aim index root made (counted (w.seat i).post) (finds w i))) in
    let g : finds_in (told_in w i) + pending (phase_left (turn (offered w i) (finds w i)).outcome) ≤ rounds_told true 0 (told_in w i) + 0 = omega (arith, b, c, y) in g
hazard_counted w i task aim index root made (PublishLink link) e p s l =
    let phase : Phase = Runs (Opens task) (Protect aim index root made (ByHazard (PublishLink link))) in
    let r : Run w.layout (Opens task) (Protect aim index root made (ByHazard (PublishLink link))) (w.seat i).post = run_of w i (Opens task) (Protect aim index root made (ByHazard (PublishLink link))) s e in
    let q : PhaseIn w.layout (w.seat i).desk phase = subst (PhaseIn w.layout (w.seat i).desk) e (l.seats i).phase in
    let event : Event = events.Hazard (Index (w.seat i).post.seat index) (linked_row link) in
    let x : told_in w i ≡ event ∷ [] = ap (λ (y : Phase). told_by (steps.phase_turn y (counted (w.seat i).post) (offered w i).desk (finds w i))) e in
    let y : pending (phase_left (turn (offered w i) (finds w i)).outcome) ≡ 1 = ap (λ (z : Phase). pending (phase_left (steps.phase_turn z (counted (w.seat i).post) (offered w i).desk (finds w i)).outcome)) e in
    let counts : counts_at true index ≡ true = subst (λ (j : ℕ). counts_at true j ≡ true) (sym r.shape.at) (task_counts task) in
    let link_in = q.1.at_in in
    let a : finds_in (told_in w i) ≡ 0 = ap finds_in x ∙ row_none 0 (Index (w.seat i).post.seat index) (linked_row link) in
    let b : 1 ≤ rounds_told true 0 (told_in w i) = subst (λ (told : List Event). 1 ≤ rounds_told true 0 told) (sym x) (row_counts (w.seat i).post.seat index link (link == 0) refl link_in.0 counts) in
    let g : finds_in (told_in w i) + pending (phase_left (turn (offered w i) (finds w i)).outcome) ≤ rounds_told true 0 (told_in w i) + 0 = omega (arith, a, b, y) in g
hazard_counted w i task aim index root made (CheckLink link) e p s l =
    let phase : Phase = Runs (Opens task) (Protect aim index root made (ByHazard (CheckLink link))) in
    let f : PhaseFits w.layout (w.seat i).post phase = subst (PhaseFits w.layout (w.seat i).post) e (s.fits i).phase in
    let b : pending (phase_left (steps.phase_turn phase (counted (w.seat i).post) (offered w i).desk (finds w i)).outcome) ≤ 0 = turn_pending w.layout (w.seat i).post phase (counted (w.seat i).post) (offered w i).desk (finds w i) p f in
    let a : finds_in (told_by (steps.phase_turn phase (counted (w.seat i).post) (offered w i).desk (finds w i))) ≤ one_at (index == 0) = step_finds phase (counted (w.seat i).post) (offered w i).desk (finds w i) in
    let x : told_in w i ≡ told_by (steps.phase_turn phase (counted (w.seat i).post) (offered w i).desk (finds w i)) = ap (λ (y : Phase). told_by (steps.phase_turn y (counted (w.seat i).post) (offered w i).desk (finds w i))) e in
    let y : pending (phase_left (turn (offered w i) (finds w i)).outcome) ≡ pending (phase_left (steps.phase_turn phase (counted (w.seat i).post) (offered w i).desk (finds w i)).outcome) =
    ap (λ (z : Phase). pending (phase_left (steps.phase_turn z (counted (w.seat i).post) (offered w i).desk (finds w i)).outcome)) e in
    let c : finds_in (told_in w i) ≡ finds_in (told_by (steps.phase_turn phase (counted (w.seat i).post) (offered w i).desk (finds w i))) = ap finds_in x in
    let o = one_most (index == 0) in
    let g : finds_in (told_in w i) + pending (phase_left (turn (offered w i) (finds w i)).outcome) ≤ rounds_told true 0 (told_in w i) + 1 = omega (arith, a, b, c, y, o) in g
  where
    one_most : (b : Bool) → one_at b ≤ 1
    one_most true = omega arith
    one_most false = omega arith

opens_counted : (w : World) (i : ℕ) (task : Task) (base : Base) → (w.seat i).phase ≡ Runs (Opens task) base → publishes_rows w.layout.config.scheme ≡ true → Seats w → Slots w → Counted w i (Runs (Opens task) base)
opens_counted w i task (Begin at) e p s l = none_counted w i (Runs (Opens task) (Begin at)) e p s (omega arith) refl
opens_counted w i task (Protect aim index root made at) e p s l =
    let f : protect_fits w.layout.config.scheme w.layout.config.tries at ≡ true = (run_of w i (Opens task) (Protect aim index root made at) s e).fits in
    let h : (w.seat i).phase ≡ Runs (Opens task) (Protect aim index root made at) → Counted w i (Runs (Opens task) (Protect aim index root made at)) =
    only_hazards w.layout.config.scheme w.layout.config.tries at (λ (x : ProtectAt). (w.seat i).phase ≡ Runs (Opens task) (Protect aim index root made x) → Counted w i (Runs (Opens task) (Protect aim index root made x))) p f
    (λ x q. hazard_counted w i task aim index root made x q p s l) in
    h e
opens_counted w i task (Reload parent index slot era made) e p s l = let r = (run_of w i (Opens task) (Reload parent index slot era made) s e).suited in absurd (cc)
opens_counted w i task base e p s l = none_counted w i (Runs (Opens task) base) e p s (omega arith) refl

other_top : (layout : Layout) (why : Why) (base : Base) (post : Post) → Run layout why base post → opens_now (Runs why base) ≤ 0 → phase_top (Runs why base) ≤ 0
other_top layout why base post r z = let a = run_opens layout why base post r in omega (arith, a, z)

why_counted : (w : World) (i : ℕ) (why : Why) (base : Base) → (w.seat i).phase ≡ Runs why base → publishes_rows w.layout.config.scheme ≡ true → Seats w → Slots w → Counted w i (Runs why base)
why_counted w i (Opens task) base e p s l = opens_counted w i task base e p s l
why_counted w i why base e p s l = none_counted w i (Runs why base) e p s (other_top w.layout why base (w.seat i).post (run_of w i why base s e) (omega arith)) refl

phase_counted : (w : World) (i : ℕ) (phase : Phase) → (w.seat i).phase ≡ phase → publishes_rows w.layout.config.scheme ≡ true → Seats w → Slots w → Counted w i phase
phase_counted w i Idle e p s l = none_counted w i Idle e p s (omega arith) refl
phase_counted w i (Runs why base) e p s l = why_counted w i why base e p s l
phase_counted w i (Scans later at) e p s l = none_counted w i (Scans later at) e p s (omega arith) refl
phase_counted w i (Works work) e p s l = none_counted w i (Works work) e p s (omega arith) refl

pub step_counted : (w : World) (i : ℕ) → publishes_rows w.layout.config.scheme ≡ true → Seats w → Slots w → Counted w i (w.seat i).phase
step_counted w i p s l = phase_counted w i (w.seat i).phase refl p s l

-- A get. What follows once it has found its root is its answer.
abbrev is_answering : Next → Bool
is_answering (Answering answer) = true
is_answering next = false

abbrev GetWhy : ℕ → Why → Type 0
GetWhy n (Opens (Gets key)) = n ≡ 0
GetWhy n (Clears (Gets key) next) = is_answering next ≡ true
GetWhy n (Finishes (Gets key) next) = is_answering next ≡ true
GetWhy n why = ⊥

abbrev GetWork : Work → Type 0
GetWork (Getting key at) = Unit {0}
GetWork work = ⊥

-- where a get stands that has found its root so often
abbrev pub GetStands : ℕ → Phase → Type 0
GetStands n Idle = Unit {0}
GetStands n (Runs why base) = GetWhy n why
GetStands n (Scans later at) = ⊥
GetStands n (Works work) = GetWork work

abbrev GetLeft : ℕ → CallTurn → Type 0
GetLeft n t = GetStands n (phase_left t.outcome)

finish_left : (key n : ℕ) (answer : Answer) (post : Post) (desk : Desk) (told : List Event) (x : Option Base) → GetLeft n (finishing_by (Gets key) (Answering answer) post desk told x)
finish_left key n answer post desk told None = tt
finish_left key n answer post desk told (Some base) = refl

clear_left : (key n : ℕ) (answer : Answer) (post : Post) (desk : Desk) (told : List Event) (x : Option Base) → GetLeft n (clearing_by (Gets key) (Answering answer) post desk told x)
clear_left key n answer post desk told None =
    finish_left key n answer (clear_post (scheme_of post) post 0) desk (told ++ clear_told (scheme_of post) post 0) (finish_base (scheme_of (clear_post (scheme_of post) post 0)) (clear_post (scheme_of post) post 0))
clear_left key n answer post desk told (Some base) = refl

got_left : (key version : ℕ) (value : Option ℕ) (post : Post) (desk : Desk) (told : List Event) (n : ℕ) → GetLeft n (gets.got key version value post desk told)
got_left key version value post desk told n = clear_left key n _ post desk _ (clear_base (scheme_of post) 0)

finding_left : (key slot version count : ℕ) (post : Post) (desk : Desk) (on : Bool) (pair n : ℕ) → GetLeft n (gets.finding key slot version count post desk on pair)
finding_left key slot version count post desk true pair n = tt
finding_left key slot version count post desk false pair n = got_left key version None post desk [] n

found_left : (key slot version count pair : ℕ) (post : Post) (desk : Desk) (own : Bool) (n : ℕ) → GetLeft n (gets.found_key key slot version count pair post desk own)
found_left key slot version count pair post desk true n = tt
found_left key slot version count pair post desk false n = finding_left key slot version count post desk (nat_lt (pair + 1) count) (pair + 1) n

get_left : (key : ℕ) (at : GetAt) (post : Post) (desk : Desk) (found n : ℕ) → GetLeft n (gets.get_turn key at post desk found)
get_left key (FindVersion slot) post desk found n = tt
get_left key (FindCount slot version) post desk found n = finding_left key slot version found post desk (nat_lt 0 found) 0 n
get_left key (FindKey slot version count pair) post desk found n = found_left key slot version count pair post desk (found == key) n
get_left key (FindValue slot version pair) post desk found n = got_left key version (Some found) post desk [] n

-- a protection of its root
abbrev Left : ℕ → ℕ → Desk → Turn → Type 0
Left key n desk t = GetStands (n + finds_in (told_by (steps.run_turn (Opens (Gets key)) desk t))) (phase_left (steps.run_turn (Opens (Gets key)) desk t).outcome)

left_if : (key n : ℕ) (desk : Desk) (b : Bool) (t u : Turn) → Left key n desk t → Left key n desk u → Left key n desk (if b then t else u)
left_if key n desk true t u h k = h
left_if key n desk false t u h k = k

ended_left : (key n found : ℕ) (post : Post) (desk : Desk) (told : List Event) (null : Bool) → GetLeft n (steps.opened (Gets key) (Protected (if null then protect_ends.Null else protect_ends.Held (found - 1) 0)) post desk told)
ended_left key n found post desk told true = got_left key 0 None post desk told n
ended_left key n found post desk told false = tt

zero_sum : (n m : ℕ) → n ≡ 0 → m ≡ 0 → n + m ≡ 0
zero_sum n m a b = omega (arith, a, b)

-- with which it ends
protected_left : (key n index : ℕ) (root : Root) (made found : ℕ) (post : Post) (desk : Desk) → Left key n desk (protects.protected Alone index root made found 0 post)
protected_left key n index root made found post desk =
    ended_left key (n + finds_in (told_by (steps.run_turn (Opens (Gets key)) desk (protects.protected Alone index root made found 0 post)))) found (protects.held_post post index root found) desk (protects.told_held index root found made) (found == 0)

hazard_left : (key n index : ℕ) (root : Root) (made : ℕ) (at : HazardAt) (post : Post) (desk : Desk) (found : ℕ) → n ≡ 0 → Left key n desk (machine.protect_turn Alone index root made (ByHazard at) post found)
hazard_left key n index root made FirstLink post desk found z = left_if key n desk (found == 0) _ _ (protected_left key n index root made found post desk) (zero_sum n 0 z refl)
hazard_left key n index root made (PublishLink link) post desk found z = zero_sum n _ z (row_none 0 (Index post.seat index) (linked_row link))
hazard_left key n index root made (CheckLink link) post desk found z = left_if key n desk (found == link || found == 0) _ _ (protected_left key n index root made found post desk) (zero_sum n 0 z refl)

protect_left : (config : Config) (key n : ℕ) (aim : Aim) (index : ℕ) (root : Root) (made : ℕ) (at : ProtectAt) (post : Post) (desk : Desk) (found : ℕ) → publishes_rows config.scheme ≡ true → protect_fits config.scheme config.tries at ≡ true → aim ≡ Alone → n ≡ 0
    → Left key n desk (machine.after (Protect aim index root made at) post found)
protect_left config key n aim index root made at post desk found p f a z =
    subst (λ (x : Aim). Left key n desk (machine.after (Protect x index root made at) post found)) (sym a)
    (only_hazards config.scheme config.tries at (λ (x : ProtectAt). Left key n desk (machine.after (Protect Alone index root made x) post found)) p f (λ x. hazard_left key n index root (bump made) x post desk found z))

opens_left : (layout : Layout) (key n : ℕ) (base : Base) (last post : Post) (desk : Desk) (found : ℕ) → publishes_rows layout.config.scheme ≡ true → Run layout (Opens (Gets key)) base last → n ≡ 0 → Left key n desk (machine.after base post found)
opens_left layout key n (Begin at) last post desk found p r z = absurd (let e = rows_not_interval layout.config.scheme p in let f : has_one_interval layout.config.scheme ≡ true = r.fits in cc)
opens_left layout key n (Protect aim index root made at) last post desk found p r z = protect_left layout.config key n aim index root made at post desk found p r.fits r.shape.aimed z
opens_left layout key n base last post desk found p r z = absurd (let s = r.suited in cc)

clears_left : (key n : ℕ) (next : Next) (desk : Desk) (post : Post) (told : List Event) (outcome : Outcome) → is_answering next ≡ true → GetLeft n (steps.resumed (Clears (Gets key) next) desk post told outcome)
clears_left key n next desk post told (Goes base) h = h
clears_left key n (Answering answer) desk post told (Ends ending) h = finish_left key n answer post desk told (finish_base (scheme_of post) post)
clears_left key n Again desk post told (Ends ending) h = absurd (cc)
clears_left key n MakeRoom desk post told (Ends ending) h = absurd (cc)
clears_left key n (Retiring slot answer) desk post told (Ends ending) h = absurd (cc)

finishes_left : (key n : ℕ) (next : Next) (desk : Desk) (post : Post) (told : List Event) (outcome : Outcome) → is_answering next ≡ true → GetLeft n (steps.resumed (Finishes (Gets key) next) desk post told outcome)
finishes_left key n next desk post told (Goes base) h = h
finishes_left key n (Answering answer) desk post told (Ends ending) h = tt
finishes_left key n Again desk post told (Ends ending) h = absurd (cc)
finishes_left key n MakeRoom desk post told (Ends ending) h = absurd (cc)
finishes_left key n (Retiring slot answer) desk post told (Ends ending) h = absurd (cc)

run_left : (layout : Layout) (n : ℕ) (why : Why) (base : Base) (last post : Post) (desk : Desk) (found : ℕ) → publishes_rows layout.config.scheme ≡ true → Run layout why base last → GetWhy n why
    → GetStands (n + finds_in (told_by (steps.run_turn why desk (machine.after base post found)))) (phase_left (steps.run_turn why desk (machine.after base post found)).outcome)
run_left layout n (Opens (Gets key)) base last post desk found p r h = opens_left layout key n base last post desk found p r h
run_left layout n (Clears (Gets key) next) base last post desk found p r h = let t : Turn = machine.after base post found in clears_left key _ next desk t.post t.told t.outcome h
run_left layout n (Finishes (Gets key) next) base last post desk found p r h = let t : Turn = machine.after base post found in finishes_left key _ next desk t.post t.told t.outcome h
run_left layout n why base last post desk found p r h = absurd h

work_left : (n : ℕ) (work : Work) (post : Post) (desk : Desk) (found : ℕ) → GetWork work → GetLeft n (steps.work_turn work post desk found)
work_left n (Getting key at) post desk found h = get_left key at post desk found n
work_left n work post desk found h = absurd h

turn_left : (layout : Layout) (n : ℕ) (phase : Phase) (last post : Post) (desk : Desk) (found : ℕ) → publishes_rows layout.config.scheme ≡ true → PhaseFits layout last phase → GetStands n phase
    → GetStands (n + finds_in (told_by (steps.phase_turn phase post desk found))) (phase_left (steps.phase_turn phase post desk found).outcome)
turn_left layout n Idle last post desk found p f h = tt
turn_left layout n (Runs why base) last post desk found p f h = run_left layout n why base last post desk found p f h
turn_left layout n (Scans later at) last post desk found p f h = absurd h
turn_left layout n (Works work) last post desk found p f h = work_left _ work post desk found h

pub step_stands : (w : World) (i n : ℕ) → publishes_rows w.layout.config.scheme ≡ true → Seats w → GetStands n (w.seat i).phase → GetStands (n + finds_in (told_in w i)) (phase_left (turn (offered w i) (finds w i)).outcome)
step_stands w i n p s h = turn_left w.layout n (w.seat i).phase (w.seat i).post (counted (w.seat i).post) (offered w i).desk (finds w i) p (s.fits i).phase h

-- a get begins
pub round_stands : (key : ℕ) (post : Post) → GetStands 0 (round (Gets key) post)
round_stands key post = by (begin_base (scheme_of post) post)
  where
    by : (x : Option Base) → GetStands 0 (round_by (Gets key) post x)
    by None = refl
    by (Some base) = refl
