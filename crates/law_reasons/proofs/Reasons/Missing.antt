-- A copy that finds nothing to copy has told nothing yet.
use Rattle.std.proofs.Common.{ℕ, ◌≡◌, ◌+◌, Bool, true, false, List, [], ◌∷◌, Option, Some, None, refl, sym, ◌∙◌, subst}
use Rattle.std.specs.Prelude.{◌==◌, ◌&&◌, if◌then◌else◌}
use Rattle.law_scans.specs.inv.model.defs.declared.call.Call.{Call}
use Rattle.law_scans.specs.inv.model.defs.declared.call.Call.TheVariants as names
use Rattle.law_scans.specs.inv.model.defs.declared.event.Event.{Event}
use Rattle.law_scans.specs.inv.model.defs.declared.event.Event.TheVariants as events
use Rattle.law_scans.specs.inv.model.declared.post.Post.{Post}
use Rattle.law_scans.specs.inv.model.Calls.{Keeping, KeepAt, Loosens, LoadHeld, StoreHeld, Looks, Misses, HideSpan, MarkLeft, TakeList, MarkTaken, Work, Phase, Idle, Runs, Scans, Works, CallOutcome, GoesOn, Answers}
use Rattle.law_scans.specs.inv.model.Desks.{Desk}
use Rattle.law_scans.specs.inv.model.Keep as keeps
use Rattle.law_scans.specs.inv.model.Locals.{Local, begun, settled_by, turn}
use Rattle.law_scans.specs.inv.model.Posts.{counted, publishes_index, stands}
use Rattle.law_scans.specs.inv.model.Rounds.{scheme_of}
use Rattle.law_scans.specs.inv.model.words.Schemes.{has_one_interval, publishes_rows}
use Rattle.law_scans.specs.inv.model.Steps as steps
use Rattle.law_scans.proofs.inv.model.Facts.{same_number}
use Rattle.law_scans.specs.inv.history.Record.{Past, begins, own, tells_of}
use Rattle.law_scans.specs.inv.history.Record.Past.{Then}
use Rattle.law_scans.specs.inv.shapes.Frame.{phase_left}
use Rattle.law_scans.specs.laws.AnswerLaw.{tells_none}
use Rattle.law_scans.specs.laws.StateAt.{times}

-- any event
abbrev pub is_any : Event → Bool
is_any event = true

abbrev pub is_copying : Call → Bool
is_copying (names.Copy from index) = true
is_copying call = false

-- the phases of a copy, where its call has told this many
abbrev pub copy_at : KeepAt → ℕ → Bool
copy_at (LoadHeld from index) t = true
copy_at (StoreHeld from index era) t = true
copy_at (Misses index) t = t == 0
copy_at at t = false

abbrev pub copy_work : Work → ℕ → Bool
copy_work (Keeping at) t = copy_at at t
copy_work work t = false

abbrev pub copy_phase : Phase → ℕ → Bool
copy_phase Idle t = true
copy_phase (Works work) t = copy_work work t
copy_phase phase t = false

abbrev pub MissesAt : Local → ℕ → Type 0
MissesAt l t = is_copying l.call ≡ true → copy_phase l.phase t ≡ true

pub missed_none : (l : Local) (i : ℕ) (p : Past) (index : ℕ) → is_copying l.call ≡ true → l.phase ≡ Works (Keeping (Misses index)) → MissesAt l (times i is_any p) → tells_none i p ≡ true
missed_none l i p index c e h = subst (λ (x : Phase). copy_phase x (times i is_any p) ≡ true) e (h c)

-- an event of another seat counts not
no_own : (k i : ℕ) (kind : Event → Bool) (event : Event) (p : Past) → (k == i) ≡ false → own k kind p i event ≡ false
no_own k i kind event p h = by (kind event)
  where
    by : (b : Bool) → (b && k == i) ≡ false
    by true = h
    by false = refl

no_begin : (k i : ℕ) (event : Event) (p : Past) → (k == i) ≡ false → begins k p i event ≡ false
no_begin k i (events.Begin call) p h = h
no_begin k i event p h = refl

count_by : (a b : Bool) (n : ℕ) → a ≡ false → b ≡ false → (if a then 0 else if b then n + 1 else n) ≡ n
count_by true b n h k = absurd (cc)
count_by false true n h k = absurd (cc)
count_by false false n h k = refl

times_one : (k i : ℕ) (kind : Event → Bool) (event : Event) (p : Past) → (k == i) ≡ false → times k kind (Then p i event) ≡ times k kind p
times_one k i kind event p h = count_by (begins k p i event) (own k kind p i event) (times k kind p) (no_begin k i event p h) (no_own k i kind event p h)

times_other : (k i : ℕ) (kind : Event → Bool) (told : List Event) (p : Past) → (k == i) ≡ false → times k kind (tells_of p i told) ≡ times k kind p
times_other k i kind [] p h = refl
times_other k i kind (event ∷ told) p h = times_other k i kind told (Then p i event) h ∙ times_one k i kind event p h

pub other_misses : (l : Local) (k i : ℕ) (told : List Event) (p : Past) → (k == i) ≡ false → MissesAt l (times k is_any p) → MissesAt l (times k is_any (tells_of p i told))
other_misses l k i told p e h = λ c. subst (λ (t : ℕ). copy_phase l.phase t ≡ true) (sym (times_other k i is_any told p e)) (h c)

pub start_misses : (l : Local) (t : ℕ) → l.phase ≡ Idle → MissesAt l t
start_misses l t e = λ c. subst (λ (x : Phase). copy_phase x t ≡ true) (sym e) refl

-- a call has begun, and told nothing
pub begin_misses : (l : Local) (i : ℕ) (call : Call) (p : Past) → MissesAt (begun l call) (times i is_any (Then p i (events.Begin call)))
begin_misses l i (names.Copy from index) p = λ c. by (stands l.post from)
  where
    by : (x : Option ℕ) → copy_phase (steps.copying from index x) (times i is_any (Then p i (events.Begin (names.Copy from index)))) ≡ true
    by (Some slot) = refl
    by None = rw (same_number i) refl
begin_misses l i call p = λ c. absurd (cc)

-- a step goes on, and comes to no miss
copied_goes : (from index : ℕ) (post : Post) (desk : Desk) (reserved : List Event) (x : Option ℕ) (t : ℕ) → copy_phase (phase_left (keeps.copied from index post desk reserved x).outcome) t ≡ true
copied_goes from index post desk reserved None t = refl
copied_goes from index post desk reserved (Some slot) t = refl

load_goes : (from index : ℕ) (post : Post) (desk : Desk) (found : ℕ) (one : Bool) (t : ℕ) → copy_phase (phase_left (keeps.load_held from index post desk found one).outcome) t ≡ true
load_goes from index post desk found true t = copied_goes from index post desk [] (stands post from) t
load_goes from index post desk found false t = refl

keep_goes : (at : KeepAt) (post : Post) (desk : Desk) (found was t : ℕ) → copy_at at was ≡ true → copy_phase (phase_left (keeps.keep_turn at post desk found).outcome) t ≡ true
keep_goes (Loosens let_go) post desk found was t h = absurd (cc)
keep_goes (LoadHeld from index) post desk found was t h = load_goes from index post desk found (has_one_interval (scheme_of post)) t
keep_goes (StoreHeld from index era) post desk found was t h = copied_goes from index post desk (publishes_index (publishes_rows (scheme_of post)) post index era) (stands post from) t
keep_goes (Looks index key at) post desk found was t h = absurd (cc)
keep_goes (Misses index) post desk found was t h = refl
keep_goes HideSpan post desk found was t h = absurd (cc)
keep_goes MarkLeft post desk found was t h = absurd (cc)
keep_goes (TakeList place) post desk found was t h = absurd (cc)
keep_goes (MarkTaken place count) post desk found was t h = absurd (cc)

work_goes : (work : Work) (post : Post) (desk : Desk) (found was t : ℕ) → copy_work work was ≡ true → copy_phase (phase_left (steps.work_turn work post desk found).outcome) t ≡ true
work_goes (Keeping at) post desk found was t h = keep_goes at post desk found was t h
work_goes work post desk found was t h = absurd (cc)

phase_goes : (phase : Phase) (post : Post) (desk : Desk) (found was t : ℕ) → copy_phase phase was ≡ true → copy_phase (phase_left (steps.phase_turn phase post desk found).outcome) t ≡ true
phase_goes Idle post desk found was t h = refl
phase_goes (Runs why base) post desk found was t h = absurd (cc)
phase_goes (Scans later at) post desk found was t h = absurd (cc)
phase_goes (Works work) post desk found was t h = work_goes work post desk found was t h

settled_misses : (l : Local) (post : Post) (desk : Desk) (rounds : ℕ) (outcome : CallOutcome) (t : ℕ) → (is_copying l.call ≡ true → copy_phase (phase_left outcome) t ≡ true) → MissesAt (settled_by l post desk rounds outcome) t
settled_misses l post desk rounds (GoesOn phase) t h = h
settled_misses l post desk rounds (Answers answer) t h = λ c. refl

pub step_misses : (l : Local) (post : Post) (desk : Desk) (rounds found was t : ℕ) → MissesAt l was → MissesAt (settled_by l post desk rounds (turn l found).outcome) t
step_misses l post desk rounds found was t h = settled_misses l post desk rounds (turn l found).outcome t (λ c. phase_goes l.phase (counted l.post) l.desk found was t (h c))
