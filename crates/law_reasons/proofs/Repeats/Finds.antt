-- How often a step tells that its seat has found its root: once at most, and only where it begins a round.
use Rattle.std.proofs.Common.{ℕ, ◌≡◌, ◌≤◌, ◌+◌, Bool, true, false, List, [], ◌∷◌, ◌++◌, Option, Some, None, refl, ap, ◌∙◌, arith}
use Rattle.std.specs.Prelude.{◌==◌, if◌then◌else◌, ◌&&◌}
use Rattle.law_scans.specs.inv.model.words.declared.config.SchemeKind.{SchemeKind}
use Rattle.law_scans.specs.inv.model.words.declared.layout.Layout.{Layout}
use Rattle.law_scans.specs.inv.model.defs.declared.event.Event.{Event}
use Rattle.law_scans.specs.inv.model.defs.declared.event.Event.TheVariants as events
use Rattle.law_scans.specs.inv.model.defs.declared.event.Root.{Root}
use Rattle.law_scans.specs.inv.model.declared.post.Post.{Post}
use Rattle.law_scans.specs.inv.model.Desks.{Desk}
use Rattle.law_scans.specs.inv.model.Locals.{found_by, row_told, rounds_told, told_by}
use Rattle.law_scans.specs.inv.model.Machine as machine
use Rattle.law_scans.specs.inv.model.Memory.{bump}
use Rattle.law_scans.specs.inv.model.Rounds.{scheme_of, clear_told, index_of}
use Rattle.law_scans.specs.inv.model.Steps as steps
use Rattle.law_scans.specs.inv.model.Phases.{Aim, ProtectAt, Base}
use Rattle.law_scans.specs.inv.model.Phases.ProtectAt.{CheckClock, TakeAnswer, WithdrawRequest, WithdrawHelper, CheckUpper, ByHazard}
use Rattle.law_scans.specs.inv.model.Phases.HazardAt.{FirstLink, PublishLink, CheckLink}
use Rattle.law_scans.specs.inv.model.Guards.{guard_at}
use Rattle.law_scans.specs.inv.model.words.Schemes.{publishes_rows}
use Rattle.law_scans.specs.inv.model.defs.declared.event.Guard.{Guard}
use Rattle.law_scans.specs.inv.model.defs.declared.event.Guard.TheVariants.{Helper, Index, Whole}
use Rattle.law_scans.proofs.reuse.ReadGuards.{reads_are}
use Rattle.law_scans.specs.inv.model.Phases.Base.{Begin, Protect, Reload, Clear, Finish, Release, Allocate, Write, GiveUp, Retire, Move}
use Rattle.law_scans.specs.inv.model.Calls.{Why, Opens, FollowsHead, Fills, ClearsNext, Clears, Finishes, GivesUp, Retires, Tidies, Advances, Releases, Phase, Idle, Runs, Scans, Works, ReadGuard, GiveBack, ScanAt}
use Rattle.law_scans.proofs.inv.model.Facts.{first_of, rest_of, number_is}
use Rattle.law_scans.specs.inv.shapes.Seats.{Run}
use Rattle.law_scans.proofs.inv.history.AllOf.{all_of, of_weaker}
use Rattle.law_scans.proofs.inv.ends.Rest.Closings.{rounds_join}
use Rattle.law_scans.proofs.inv.history.Passes.{is_quiet, Closed, First, scan_told, step_goes, work_told}
use Rattle.law_reasons.proofs.Repeats.Shift.{more_told}
use Rattle.law_scans.proofs.inv.history.MayTell.{Tells, Shape, Silent, Single, Drops, Takes, at_finds, shape_of, clear_all, work_all}

abbrev pub finds_in : List Event → ℕ
finds_in told = rounds_told false 0 told

pub told_rounds : (rows : Bool) (rounds : ℕ) (told : List Event) → rounds_told rows rounds told ≡ rounds + rounds_told rows 0 told
told_rounds rows rounds told = ap (λ (n : ℕ). rounds_told rows n told) (omega arith) ∙ more_told rows told 0 rounds ∙ swap (rounds_told rows 0 told) rounds
  where
    swap : (a b : ℕ) → a + b ≡ b + a
    swap a b = omega arith

pub told_finds : (rounds : ℕ) (told : List Event) → rounds_told false rounds told ≡ rounds + finds_in told
told_finds rounds told = told_rounds false rounds told

pub both_finds : (xs ys : List Event) → finds_in (xs ++ ys) ≡ finds_in xs + finds_in ys
both_finds xs ys = rounds_join false 0 xs ys ∙ told_finds (rounds_told false 0 xs) ys

-- events that tell no such thing
abbrev pub is_plain : Event → Bool
is_plain (events.Held index slot steps) = false
is_plain (events.Null index steps) = false
is_plain event = true

abbrev pub All : List Event → Type 0
All told = all_of is_plain told ≡ true

-- a row that is published is none of them
pub row_none : (rounds : ℕ) (guard : Guard) (slot : Option ℕ) → row_told false rounds guard slot ≡ rounds
row_none rounds guard None = refl
row_none rounds (Helper seat) (Some slot) = refl
row_none rounds (Index seat index) (Some slot) = refl
row_none rounds (Whole seat) (Some slot) = refl

one_round : (event : Event) (rounds : ℕ) → is_plain event ≡ true → found_by false rounds event ≡ rounds
one_round (events.Held index slot steps) rounds h = absurd (cc)
one_round (events.Null index steps) rounds h = absurd (cc)
one_round (events.Hazard guard slot) rounds h = row_none rounds guard slot
one_round event rounds h = refl

plain_rounds : (told : List Event) (rounds : ℕ) → All told → rounds_told false rounds told ≡ rounds
plain_rounds [] rounds h = refl
plain_rounds (event ∷ told) rounds h =
    ap (λ (n : ℕ). rounds_told false n told) (one_round event rounds (first_of (is_plain event) (all_of is_plain told) h)) ∙ plain_rounds told rounds (rest_of (is_plain event) (all_of is_plain told) h)

pub plain_finds : (told : List Event) (most : ℕ) → All told → finds_in told ≤ most
plain_finds told most h = let e = plain_rounds told 0 h in omega (arith, e)

pub clear_plain : (scheme : SchemeKind) (post : Post) (index : ℕ) → All (clear_told scheme post index)
clear_plain scheme post index = clear_all is_plain scheme post index (λ index slot. refl)

pub quiet_plain : (event : Event) → is_quiet event ≡ true → is_plain event ≡ true
quiet_plain (events.Held index slot steps) h = absurd (cc)
quiet_plain (events.Null index steps) h = absurd (cc)
quiet_plain event h = refl

-- a protection
abbrev pub one_at : (zero : Bool) → ℕ
one_at true = 1
one_at false = 0

abbrev pub top_of : (told : Bool) (index : ℕ) → ℕ
top_of true index = 0
top_of false index = one_at (index == 0)

-- a protection that has told what it found
abbrev pub at_over : ProtectAt → Bool
at_over (WithdrawRequest link era) = true
at_over (WithdrawHelper link era) = true
at_over at = false

abbrev pub is_over : Base → Bool
is_over (Protect aim index root steps at) = at_over at
is_over base = false

-- where a round begins
abbrev pub base_top : Base → ℕ
base_top (Protect aim index root steps at) = top_of (at_over at) index
base_top (Reload parent index slot era steps) = one_at (index == 0)
base_top base = 0

found_by_index : (index own : ℕ) (rest : Bool) → (index == own && rest) ≡ true → (if index == 0 then 1 else 0) ≤ one_at (own == 0)
found_by_index index own rest h = let e : index ≡ own = number_is index own (first_of (index == own) rest h) in rw e (by (own == 0))
  where
    by : (zero : Bool) → (if zero then 1 else 0) ≤ one_at zero
    by true = omega arith
    by false = omega arith

protect_by : (aim : Aim) (own : ℕ) (root : Root) (made index : ℕ) (at : ProtectAt) (rest : Bool) → (at_finds at && (index == own && rest)) ≡ true → (if index == 0 then 1 else 0) ≤ top_of (at_over at) own
protect_by aim own root made index (CheckClock era tries link) rest h = found_by_index index own rest h
protect_by aim own root made index (TakeAnswer link era) rest h = found_by_index index own rest h
protect_by aim own root made index (CheckUpper link) rest h = found_by_index index own rest h
protect_by aim own root made index (ByHazard FirstLink) rest h = found_by_index index own rest h
protect_by aim own root made index (ByHazard (PublishLink link)) rest h = absurd (cc)
protect_by aim own root made index (ByHazard (CheckLink link)) rest h = found_by_index index own rest h
protect_by aim own root made index at rest h = absurd (cc)

one_finds : (base : Base) (post : Post) (found : ℕ) (event : Event) → Tells base post found event → found_by false 0 event ≤ base_top base
one_finds (Protect aim own root made at) post found (events.Held index slot n) t = protect_by aim own root made index at (n == bump made) t
one_finds (Protect aim own root made at) post found (events.Null index n) t = protect_by aim own root made index at (n == bump made) t
one_finds (Reload parent own slot era made) post found (events.Held index row n) t = found_by_index index own (n == bump made) t
one_finds base post found (events.Held index slot n) t = absurd (cc)
one_finds base post found (events.Null index n) t = absurd (cc)
one_finds base post found (events.Hazard guard slot) t = let e = row_none 0 guard slot in omega (arith, e)
one_finds base post found event t = omega arith

-- the row that a step finds is the last that it tells of
shape_finds : (base : Base) (post : Post) (found : ℕ) (told : List Event) → Shape base post found told → finds_in told ≤ base_top base
shape_finds base post found told (Silent e) = rw e (omega arith)
shape_finds base post found told (Single event e t) = rw e (one_finds base post found event t)
shape_finds base post found told (Shape.Clears index slot guard e a b) = rw e (omega arith)
shape_finds base post found told (Drops index slot guard e a b) = rw e (omega arith)
shape_finds base post found told (Takes guard span event e t f a b) = rw e (one_finds base post found event b)

base_finds : (base : Base) (post : Post) (found : ℕ) → finds_in (machine.after base post found).told ≤ base_top base
base_finds base post found = shape_finds base post found (machine.after base post found).told (shape_of base post found)

-- all that a step tells
abbrev Finds : ℕ → Post → List Event → Type 0
Finds most post told = finds_in told ≤ most

finds_closed : (most : ℕ) → Closed (Finds most)
finds_closed most = record {
  calm = λ post told more q h. let b = both_finds told more in let c : finds_in more ≤ 0 = plain_finds more 0 (of_weaker is_quiet is_plain more quiet_plain q) in omega (arith, b, c, h);
  clears = λ post told index h.
      let more : List Event = clear_told (scheme_of post) post index in
      let b = both_finds told more in let c : finds_in more ≤ 0 = plain_finds more 0 (clear_plain (scheme_of post) post index) in omega (arith, b, c, h);
}

abbrev pub phase_top : Phase → ℕ
phase_top (Runs why base) = base_top base
phase_top phase = 0

scan_plain : (at : ScanAt) (post : Post) (found : ℕ) → All (scan_told at post found)
scan_plain (ReadGuard number) post found = reads_are (λ (event : Event). All (event ∷ [])) (publishes_rows post.layout.config.scheme) (guard_at post.layout.config number) found (λ span. refl) (λ slot. refl)
scan_plain (GiveBack place slot) post found = refl

first_finds : (phase : Phase) (post : Post) (found : ℕ) → First (Finds (phase_top phase)) phase post found
first_finds Idle post found = plain_finds [] 0 refl
first_finds (Runs why base) post found = base_finds base post found
first_finds (Scans later at) post found = plain_finds (scan_told at post found) 0 (scan_plain at post found)
first_finds (Works work) post found = plain_finds (work_told work post) 0 (work_all is_plain (λ index slot. refl) (λ from index slot. refl) (λ seat index era. refl) (λ seat. refl) (λ seat index link. refl) work post)

pub step_finds : (phase : Phase) (post : Post) (desk : Desk) (found : ℕ) → finds_in (told_by (steps.phase_turn phase post desk found)) ≤ phase_top phase
step_finds phase post desk found = step_goes (Finds (phase_top phase)) (finds_closed (phase_top phase)) phase post desk found (first_finds phase post found)

-- only the protection of a call's root may find it
abbrev pub opens_now : Phase → ℕ
opens_now (Runs (Opens task) base) = top_of (is_over base) (index_of task)
opens_now phase = 0

follow_none : (told : Bool) (index : ℕ) → index ≡ 1 → top_of told index ≤ 0
follow_none true index e = omega arith
follow_none false index e = rw e (omega arith)

same_index : (told : Bool) (index other : ℕ) → index ≡ other → top_of told index ≤ top_of told other
same_index told index other e = rw e (omega arith)

pub run_opens : (layout : Layout) (why : Why) (base : Base) (post : Post) → Run layout why base post → base_top base ≤ opens_now (Runs why base)
run_opens layout why (Begin at) post r = omega arith
run_opens layout why (Clear rows index) post r = omega arith
run_opens layout why Finish post r = omega arith
run_opens layout why (Release index) post r = omega arith
run_opens layout why (Allocate at) post r = omega arith
run_opens layout why (Write slot row place) post r = omega arith
run_opens layout why (GiveUp slot) post r = omega arith
run_opens layout why (Retire at) post r = omega arith
run_opens layout why (Move at) post r = omega arith
run_opens layout (Opens task) (Protect aim index root steps at) post r = same_index (at_over at) index (index_of task) r.shape.at
run_opens layout (FollowsHead head tail) (Protect aim index root steps at) post r = follow_none (at_over at) index r.shape.at
run_opens layout (Opens task) (Reload parent index slot era steps) post r = let s = r.suited in absurd (cc)
run_opens layout (FollowsHead head tail) (Reload parent index slot era steps) post r = follow_none false index r.shape.at
run_opens layout (Fills task) (Protect aim index root steps at) post r = let s = r.suited in absurd (cc)
run_opens layout (Fills task) (Reload parent index slot era steps) post r = let s = r.suited in absurd (cc)
run_opens layout (ClearsNext next) (Protect aim index root steps at) post r = let s = r.suited in absurd (cc)
run_opens layout (ClearsNext next) (Reload parent index slot era steps) post r = let s = r.suited in absurd (cc)
run_opens layout (Clears task next) (Protect aim index root steps at) post r = let s = r.suited in absurd (cc)
run_opens layout (Clears task next) (Reload parent index slot era steps) post r = let s = r.suited in absurd (cc)
run_opens layout (Finishes task next) (Protect aim index root steps at) post r = let s = r.suited in absurd (cc)
run_opens layout (Finishes task next) (Reload parent index slot era steps) post r = let s = r.suited in absurd (cc)
run_opens layout (GivesUp answer) (Protect aim index root steps at) post r = let s = r.suited in absurd (cc)
run_opens layout (GivesUp answer) (Reload parent index slot era steps) post r = let s = r.suited in absurd (cc)
run_opens layout (Retires answer) (Protect aim index root steps at) post r = let s = r.suited in absurd (cc)
run_opens layout (Retires answer) (Reload parent index slot era steps) post r = let s = r.suited in absurd (cc)
run_opens layout (Tidies later) (Protect aim index root steps at) post r = let s = r.suited in absurd (cc)
run_opens layout (Tidies later) (Reload parent index slot era steps) post r = let s = r.suited in absurd (cc)
run_opens layout Advances (Protect aim index root steps at) post r = let s = r.suited in absurd (cc)
run_opens layout Advances (Reload parent index slot era steps) post r = let s = r.suited in absurd (cc)
run_opens layout (Releases key) (Protect aim index root steps at) post r = let s = r.suited in absurd (cc)
run_opens layout (Releases key) (Reload parent index slot era steps) post r = let s = r.suited in absurd (cc)
