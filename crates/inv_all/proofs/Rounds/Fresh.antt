-- What a step loads is good, so each step keeps all; and what follows for the rounds that a call may lose.
use Rattle.std.proofs.Common.{ℕ, ◌∙◌, ◌≡◌, ◌<◌, ◌+◌, true, false, arith, refl, sym, ap, subst}
use Rattle.std.proofs.lemmas.Bool.Decides.{nat_tests}
use Rattle.inv_ends.specs.model.words.Place.{Place}
use Rattle.inv_ends.specs.model.words.Place.Place.{Bucket, Head, Tail}
use Rattle.inv_ends.specs.model.Phases.Base.{Move, Allocate, Begin, Clear, Finish, GiveUp, Protect, Release, Reload, Retire, Write}
use Rattle.inv_ends.specs.model.Memory.{bump, written}
use Rattle.inv_ends.specs.model.Steps as steps
use Rattle.inv_ends.specs.model.Machine as machine
use Rattle.inv_ends.specs.rows.Rows.{View}
use Rattle.inv_ends.specs.requests.Views.{View as Asking}
use Rattle.inv_ends.specs.model.defs.declared.event.Root.TheVariants as roots
use Rattle.inv_ends.specs.model.Calls.{CallTurn, ChangeKept, Phase, Task, Why}
use Rattle.inv_ends.specs.model.Calls.CallOutcome.{GoesOn}
use Rattle.inv_ends.specs.model.Calls.Phase.{Idle, Runs, Scans, Works}
use Rattle.inv_ends.specs.model.Calls.Task.{Changes, Dequeues, Enqueues, Gets, Holds}
use Rattle.inv_ends.specs.model.Calls.Why.{Advances, Clears, ClearsNext, Fills, Finishes, FollowsHead, GivesUp, Opens, Releases, Retires, Tidies}
use Rattle.inv_ends.specs.model.Desks.{Desk}
use Rattle.inv_ends.specs.model.Links.{link_place}
use Rattle.inv_ends.specs.model.Phases.{Aim, Base, MoveAt, ProtectAt}
use Rattle.inv_ends.specs.model.Phases.MoveAt.{LoadAsked, LoadEra, LoadRequest, ShowEra}
use Rattle.inv_ends.specs.model.Phases.ProtectAt.{AnswerOwn, ByHazard, CheckClock, CheckOwnClock, CheckUpper, LoadAnswer, LoadClock, LoadLink, LoadOwnClock, LoadOwnLink, LoadWithin, PublishEra, PublishHelper, PublishRequest, RaiseUpper, TakeAnswer, WithdrawHelper, WithdrawRequest}
use Rattle.inv_ends.specs.model.Phases.HazardAt.{CheckLink, FirstLink, PublishLink}
use Rattle.inv_ends.proofs.Rest.Told.{by_rows}
use Rattle.inv_ends.specs.model.Rest.{is_told, lost_by}
use Rattle.inv_ends.specs.model.Rounds.{key_of}
use Rattle.inv_ends.specs.model.World.{World, step}
use Rattle.inv_ends.specs.model.declared.post.Post.{Post}
use Rattle.inv_ends.proofs.model.Facts.{same_number, or_left_true, both}
use Rattle.inv_ends.specs.model.defs.declared.event.Root.{Root}
use Rattle.inv_ends.specs.shapes.Seats.{PhaseFits, Run, Seats}
use Rattle.inv_ends.specs.Origins.{loads_asked, loads_at, loads_link}
use Rattle.inv_ends.specs.Tracked.{root_base, root_for, root_in}
use Rattle.inv_ends.specs.requests.Roles.{shows}
use Rattle.inv_all.specs.Rounds.{RoundsNeeds}
use Rattle.inv_all.specs.Tallies.{Tally, changes_so_far, passes_so_far, phase_good, since_test, tally, task_good}
use Rattle.inv_ends.specs.rows.Chain.{line_after}
use Rattle.inv_ends.specs.rows.Queue.{Line}
use Rattle.std.specs.Prelude.{nat_le, not, ◌==◌, ◌%◌}

some_number : (n : ℕ) → 0 < n → (n == 0) ≡ false
some_number n h = grind (arith, nat_tests, h)

-- what a load finds in a root, for a seat in any phase
pub record Loads (u : Tally) (mem : Place → ℕ) (phase : Phase) (root : Root) : Type 0 where
  buckets : (b : ℕ) → u.root b ≡ mem (Bucket b)
  tail : u.tail ≡ mem Tail
  head : u.head ≡ mem Head
  some_tail : 0 < mem Tail
  some_head : 0 < mem Head
  own : (kept : ChangeKept) (base : Base) (b : ℕ) → phase ≡ Runs (Opens (Changes kept)) base → root ≡ roots.Bucket b → b ≡ key_of kept.change % u.buckets

not_null : (n : ℕ) → 0 < n → not (n == 0) ≡ true
not_null n h = rw (some_number n h) refl

task_fresh : (u : Tally) (mem : Place → ℕ) (rounds : ℕ) (task : Task) (base : Base) (root : Root) (lost : ℕ) → Loads u mem (Runs (Opens task) base) root → task_good u task lost root (mem (link_place root)) ≡ true
task_fresh u mem rounds (Gets key) base (roots.Bucket b) lost h = refl
task_fresh u mem rounds (Changes kept) base (roots.Bucket b) lost h =
    let e : b ≡ key_of kept.change % u.buckets = h.own kept base b refl refl in
    or_left_true (u.root (key_of kept.change % u.buckets) == mem (Bucket b)) (nat_le (lost + 1) (changes_so_far u kept)) (rw (← e, h.buckets b) (same_number (mem (Bucket b))))
task_fresh u mem rounds (Holds key) base (roots.Bucket b) lost h = refl
task_fresh u mem rounds (Enqueues kept) base (roots.Bucket b) lost h = refl
task_fresh u mem rounds Dequeues base (roots.Bucket b) lost h = refl
task_fresh u mem rounds (Gets key) base roots.Tail lost h = refl
task_fresh u mem rounds (Changes kept) base roots.Tail lost h = refl
task_fresh u mem rounds (Holds key) base roots.Tail lost h = refl
task_fresh u mem rounds (Enqueues kept) base roots.Tail lost h =
    both (not (mem Tail == 0)) (since_test (u.tail == mem Tail) lost (passes_so_far u kept)) (not_null (mem Tail) h.some_tail) (or_left_true (u.tail == mem Tail) (nat_le (lost + 1) (passes_so_far u kept)) (rw h.tail (same_number (mem Tail))))
task_fresh u mem rounds Dequeues base roots.Tail lost h = refl
task_fresh u mem rounds (Gets key) base roots.Head lost h = refl
task_fresh u mem rounds (Changes kept) base roots.Head lost h = refl
task_fresh u mem rounds (Holds key) base roots.Head lost h = refl
task_fresh u mem rounds (Enqueues kept) base roots.Head lost h = refl
task_fresh u mem rounds Dequeues base roots.Head lost h =
    both (not (mem Head == 0)) (since_test (u.head == mem Head) lost u.takes) (not_null (mem Head) h.some_head) (or_left_true (u.head == mem Head) (nat_le (lost + 1) u.takes) (rw h.head (same_number (mem Head))))
task_fresh u mem rounds task base (roots.Next parent) lost h = refl

pub phase_fresh : (u : Tally) (mem : Place → ℕ) (rounds : ℕ) (phase : Phase) (root : Root) → Loads u mem phase root → phase_good u rounds phase root (mem (link_place root)) ≡ true
phase_fresh u mem rounds Idle root h = refl
phase_fresh u mem rounds (Runs (Opens task) base) root h = task_fresh u mem rounds task base root (lost_by rounds (is_told base)) h
phase_fresh u mem rounds (Runs (FollowsHead head tail) base) root h = refl
phase_fresh u mem rounds (Runs (Fills task) base) root h = refl
phase_fresh u mem rounds (Runs (ClearsNext next) base) root h = refl
phase_fresh u mem rounds (Runs (Clears task next) base) root h = refl
phase_fresh u mem rounds (Runs (Finishes task next) base) root h = refl
phase_fresh u mem rounds (Runs (GivesUp answer) base) root h = refl
phase_fresh u mem rounds (Runs (Retires answer) base) root h = refl
phase_fresh u mem rounds (Runs (Tidies later) base) root h = refl
phase_fresh u mem rounds (Runs Advances base) root h = refl
phase_fresh u mem rounds (Runs (Releases let_go) base) root h = refl
phase_fresh u mem rounds (Scans later at) root h = refl
phase_fresh u mem rounds (Works work) root h = refl

-- a load leaves each word
protect_loads : (mem : Place → ℕ) (index : ℕ) (root : Root) (at : ProtectAt) (post : Post) (place : Place) → loads_at at ≡ true → written mem (machine.protect_move index root at post) place ≡ mem place
protect_loads mem index root (LoadClock tries) post place h = absurd (cc)
protect_loads mem index root (PublishEra era tries) post place h = absurd (cc)
protect_loads mem index root (LoadLink era tries) post place h = refl
protect_loads mem index root (CheckClock era tries link) post place h = absurd (cc)
protect_loads mem index root PublishRequest post place h = absurd (cc)
protect_loads mem index root LoadOwnClock post place h = absurd (cc)
protect_loads mem index root (PublishHelper first era last) post place h = absurd (cc)
protect_loads mem index root (LoadOwnLink first era last) post place h = refl
protect_loads mem index root (CheckOwnClock first era last link) post place h = absurd (cc)
protect_loads mem index root (AnswerOwn first era link) post place h = absurd (cc)
protect_loads mem index root (LoadAnswer first) post place h = absurd (cc)
protect_loads mem index root (TakeAnswer link era) post place h = absurd (cc)
protect_loads mem index root (WithdrawRequest link era) post place h = absurd (cc)
protect_loads mem index root (WithdrawHelper link era) post place h = absurd (cc)
protect_loads mem index root LoadWithin post place h = refl
protect_loads mem index root (CheckUpper link) post place h = absurd (cc)
protect_loads mem index root (RaiseUpper era) post place h = absurd (cc)
protect_loads mem index root (ByHazard FirstLink) post place h = absurd (cc)
protect_loads mem index root (ByHazard (PublishLink link)) post place h = absurd (cc)
protect_loads mem index root (ByHazard (CheckLink link)) post place h = refl

move_loads : (mem : Place → ℕ) (at : MoveAt) (post : Post) (place : Place) → loads_asked at ≡ true → written mem (machine.move_move at post) place ≡ mem place
move_loads mem (LoadEra helps) post place h = absurd (cc)
move_loads mem (LoadRequest era seat shows) post place h = absurd (cc)
move_loads mem (ShowEra era seat tag index root) post place h = absurd (cc)
move_loads mem (LoadAsked era seat tag index root) post place h = refl
move_loads mem at post place h = absurd (cc)

loads_stay : (mem : Place → ℕ) (phase : Phase) (post : Post) (place : Place) → loads_link phase ≡ true → written mem (steps.phase_move phase post) place ≡ mem place
loads_stay mem Idle post place h = refl
loads_stay mem (Runs why (Begin at)) post place h = absurd (cc)
loads_stay mem (Runs why (Protect aim index root n at)) post place h = protect_loads mem index root at post place h
loads_stay mem (Runs why (Reload parent index slot era n)) post place h = absurd (cc)
loads_stay mem (Runs why (Clear rows index)) post place h = absurd (cc)
loads_stay mem (Runs why Finish) post place h = absurd (cc)
loads_stay mem (Runs why (Release index)) post place h = absurd (cc)
loads_stay mem (Runs why (Allocate at)) post place h = absurd (cc)
loads_stay mem (Runs why (Write slot row n)) post place h = absurd (cc)
loads_stay mem (Runs why (GiveUp slot)) post place h = absurd (cc)
loads_stay mem (Runs why (Retire at)) post place h = absurd (cc)
loads_stay mem (Runs why (Move at)) post place h = move_loads mem at post place h
loads_stay mem (Scans later at) post place h = absurd (cc)
loads_stay mem (Works work) post place h = absurd (cc)

-- where a protection goes on that has loaded its link
abbrev pub has_loaded : Why → Aim → ℕ → Root → CallTurn → Type 0
has_loaded why aim index root t = (n : ℕ) × (at : ProtectAt) × (t.outcome ≡ GoesOn (Runs why (Protect aim index root n at)))

pub goes_loaded : (why : Why) (aim : Aim) (index : ℕ) (root : Root) (n : ℕ) (at : ProtectAt) (post : Post) (desk : Desk) (found : ℕ) → loads_at at ≡ true → by_rows at ≡ false → has_loaded why aim index root (steps.phase_turn (Runs why (Protect aim index root n at)) post desk found)
goes_loaded why aim index root n (LoadClock tries) post desk found h b = absurd (cc)
goes_loaded why aim index root n (PublishEra era tries) post desk found h b = absurd (cc)
goes_loaded why aim index root n (LoadLink era tries) post desk found h b = (bump n, CheckClock era tries found, refl)
goes_loaded why aim index root n (CheckClock era tries link) post desk found h b = absurd (cc)
goes_loaded why aim index root n PublishRequest post desk found h b = absurd (cc)
goes_loaded why aim index root n LoadOwnClock post desk found h b = absurd (cc)
goes_loaded why aim index root n (PublishHelper first era last) post desk found h b = absurd (cc)
goes_loaded why aim index root n (LoadOwnLink first era last) post desk found h b = (bump n, CheckOwnClock first era last found, refl)
goes_loaded why aim index root n (CheckOwnClock first era last link) post desk found h b = absurd (cc)
goes_loaded why aim index root n (AnswerOwn first era link) post desk found h b = absurd (cc)
goes_loaded why aim index root n (LoadAnswer first) post desk found h b = absurd (cc)
goes_loaded why aim index root n (TakeAnswer link era) post desk found h b = absurd (cc)
goes_loaded why aim index root n (WithdrawRequest link era) post desk found h b = absurd (cc)
goes_loaded why aim index root n (WithdrawHelper link era) post desk found h b = absurd (cc)
goes_loaded why aim index root n LoadWithin post desk found h b = (bump n, CheckUpper found, refl)
goes_loaded why aim index root n (CheckUpper link) post desk found h b = absurd (cc)
goes_loaded why aim index root n (RaiseUpper era) post desk found h b = absurd (cc)
goes_loaded why aim index root n (ByHazard at) post desk found h b = absurd (cc)

-- the root of a change's protection
shape_own : (w : World) (k : ℕ) (base : Base) (kept : ChangeKept) (b : ℕ) → Run w.layout (Opens (Changes kept)) base (w.seat k).post → root_base base ≡ roots.Bucket b → b ≡ key_of kept.change % w.layout.config.buckets
shape_own w k (Begin at) kept b r e = absurd (cc)
shape_own w k (Protect aim index root n at) kept b r e = let h : roots.Bucket (key_of kept.change % w.layout.config.buckets) ≡ roots.Bucket b = sym r.shape.of ∙ e in cc
shape_own w k base kept b r e = absurd (cc)

pub seat_own : (w : World) (k : ℕ) (kept : ChangeKept) (base : Base) (b : ℕ) → Seats w → (w.seat k).phase ≡ Runs (Opens (Changes kept)) base → root_in w k ≡ roots.Bucket b → b ≡ key_of kept.change % w.layout.config.buckets
seat_own w k kept base b s e r =
    let f : Run w.layout (Opens (Changes kept)) base (w.seat k).post = subst (λ (p : Phase). PhaseFits w.layout (w.seat k).post p) e (s.fits k).phase in
    shape_own w k base kept b f (sym (ap root_for e) ∙ r)

pub loads_at_step : (w : World) (i : ℕ) (v : View) (l : Line) (z : Asking) (phase : Phase) (root : Root) → RoundsNeeds w i v l z → loads_link (w.seat i).phase ≡ true → ((kept : ChangeKept) (base : Base) (b : ℕ) → phase ≡ Runs (Opens (Changes kept)) base → root ≡ roots.Bucket b → b ≡ key_of kept.change % w.layout.config.buckets)
    → Loads (tally (step w i) (line_after w i l)) w.mem phase root
loads_at_step w i v l z phase root n h o = record {
  buckets = λ b. loads_stay w.mem (w.seat i).phase (w.seat i).post (Bucket b) h;
  tail = loads_stay w.mem (w.seat i).phase (w.seat i).post Tail h;
  head = loads_stay w.mem (w.seat i).phase (w.seat i).post Head h;
  some_tail = n.both.queue.line.some;
  some_head = rw n.both.rows.words.head n.both.rows.good.some;
  own = o;
}
