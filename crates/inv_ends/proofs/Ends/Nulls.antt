-- A step tells Null where the link by which it decides is null.
use Rattle.std.proofs.Common.{ℕ, ◌+◌, Bool, true, false, ◌≡◌, ◌∙◌, refl, ap}
use Rattle.std.specs.List.{list_any}
use Rattle.inv_rows.specs.defs.declared.event.Event.TheVariants as events
use Rattle.inv_rows.specs.defs.declared.event.Root.TheVariants as roots
use Rattle.inv_rows.specs.model.Calls.{Phase}
use Rattle.inv_rows.specs.model.Calls.Phase.{Idle, Runs, Scans, Works}
use Rattle.inv_rows.specs.model.Memory.{bump}
use Rattle.inv_rows.specs.model.Phases.{Base}
use Rattle.inv_rows.specs.model.Phases.Base.{Begin, Clear, Finish, Protect, Release, Reload}
use Rattle.inv_rows.specs.model.Phases.ProtectAt.{AnswerOwn, CheckClock, CheckOwnClock, CheckUpper, LoadAnswer, LoadClock, LoadLink, LoadOwnClock, LoadOwnLink, LoadWithin, PublishEra, PublishHelper, PublishRequest, RaiseUpper, TakeAnswer, WithdrawHelper, WithdrawRequest, ByHazard}
use Rattle.inv_rows.specs.model.Phases.HazardAt.{FirstLink, PublishLink, CheckLink}
use Rattle.inv_rows.specs.model.Posts.{cleared, counted, stands, upper}
use Rattle.inv_rows.specs.model.Protect.{told_held}
use Rattle.inv_rows.specs.model.World.{finds}
use Rattle.inv_rows.specs.model.declared.post.Post.{Post}
use Rattle.inv_rows.specs.defs.declared.event.Event.{Event}
use Rattle.inv_rows.specs.defs.declared.event.Root.{Root}
use Rattle.inv_ends.proofs.Ends.Tests.{Calm, base_shows, none_worked, phase_shows, step_any}
use Rattle.inv_ends.proofs.Told.Turns.{is_later}
use Rattle.inv_ends.specs.Nulls.{NullTold, null_base, null_in}
use Rattle.inv_rows.specs.defs.Events.{is_null}
use Rattle.std.specs.Prelude.{Option, Some, None, ◌==◌, ◌&&◌, ◌||◌}
use Rattle.inv_rows.proofs.model.Facts.{and_false, no_truth_2}

null_calm : (j : ℕ) → Calm (is_null j)
null_calm j = record { reserve = λ g s. refl; hazard = λ g s. refl; saw = λ g s. refl; read = λ g s. refl; era = λ e. refl; give = λ s b. refl; unused = λ s. refl; retire = λ s b r. refl; back = λ s. refl }

null_later : (j : ℕ) (e : Event) → is_later e ≡ true → is_null j e ≡ false
null_later j (events.Begin call) h = refl
null_later j (events.End count answer) h = refl
null_later j (events.Era era) h = refl
null_later j (events.Reserve guard span) h = refl
null_later j (events.Read guard span) h = refl
null_later j (events.Hazard guard slot) h = refl
null_later j (events.Saw guard slot) h = refl
null_later j (events.Give slot birth) h = refl
null_later j (events.Unused slot) h = refl
null_later j (events.Link root slot) h = refl
null_later j (events.Cut slot) h = refl
null_later j (events.Retire slot birth retire) h = refl
null_later j (events.Back slot) h = refl
null_later j (events.Held index slot n) h = refl
null_later j (events.Null index n) h = no_truth_2 h
null_later j (events.Clear index slot) h = refl
null_later j (events.Copied from index slot) h = no_truth_2 h
null_later j (events.Put bucket version key value) h = refl
null_later j (events.Removed bucket version key) h = refl
null_later j (events.Got bucket version key value) h = refl
null_later j (events.Queued number value) h = refl
null_later j (events.Taken number value) h = refl
null_later j (events.Left count) h = refl
null_later j (events.Adopted place count) h = refl

null_of : (index j : ℕ) → (index == j || false) ≡ (index == j && true)
null_of index j = by (index == j) where
  by : (x : Bool) → (x || false) ≡ (x && true)
  by true = refl
  by false = refl

pub none_of : (x : Bool) → false ≡ (x && false)
none_of true = refl
none_of false = refl

told_null : (index : ℕ) (root : Root) (link n j : ℕ) (null : Bool) → (link == 0) ≡ null → list_any (is_null j) (told_held index root link n) ≡ ((index == j) && (link == 0))
told_null index (roots.Bucket bucket) link n j true e = rw e (null_of index j)
told_null index (roots.Bucket bucket) link n j false e = rw e (none_of (index == j))
told_null index roots.Head link n j true e = rw e (null_of index j)
told_null index roots.Head link n j false e = rw e (none_of (index == j))
told_null index roots.Tail link n j true e = rw e (null_of index j)
told_null index roots.Tail link n j false e = rw e (none_of (index == j))
told_null index (roots.Next parent) link n j true e = rw e (null_of index j)
told_null index (roots.Next parent) link n j false e = rw e (none_of (index == j))

pub under_test : (x a b c : Bool) → a ≡ (b && c) → (x && a) ≡ (b && (x && c))
under_test true a b c h = h
under_test false a true c h = refl
under_test false a false c h = refl

cleared_null : (index j : ℕ) (x : Option ℕ) → list_any (is_null j) (cleared index x) ≡ false
cleared_null index j None = refl
cleared_null index j (Some slot) = refl

absorbed : (a b : Bool) → ((a || b) && b) ≡ b
absorbed true true = refl
absorbed true false = refl
absorbed false true = refl
absorbed false false = refl

base_null : (base : Base) (post : Post) (found j : ℕ) → base_shows (is_null j) post base found ≡ null_base post base found j
base_null (Protect aim index root steps (LoadClock tries)) post found j = none_of (index == j)
base_null (Protect aim index root steps (PublishEra era tries)) post found j = none_of (index == j)
base_null (Protect aim index root steps (LoadLink era tries)) post found j = none_of (index == j)
base_null (Protect aim index root steps (CheckClock era tries link)) post found j = under_test (found == era) _ (index == j) (link == 0) (told_null index root link (bump steps) j (link == 0) refl)
base_null (Protect aim index root steps PublishRequest) post found j = none_of (index == j)
base_null (Protect aim index root steps LoadOwnClock) post found j = none_of (index == j)
base_null (Protect aim index root steps (PublishHelper first era last)) post found j = none_of (index == j)
base_null (Protect aim index root steps (LoadOwnLink first era last)) post found j = none_of (index == j)
base_null (Protect aim index root steps (CheckOwnClock first era last link)) post found j = none_of (index == j)
base_null (Protect aim index root steps (AnswerOwn first era link)) post found j = none_of (index == j)
base_null (Protect aim index root steps (LoadAnswer first)) post found j = none_of (index == j)
base_null (Protect aim index root steps (TakeAnswer link era)) post found j = told_null index root link (bump steps) j (link == 0) refl
base_null (Protect aim index root steps (WithdrawRequest link era)) post found j = none_of (index == j)
base_null (Protect aim index root steps (WithdrawHelper link era)) post found j = none_of (index == j)
base_null (Protect aim index root steps LoadWithin) post found j = none_of (index == j)
base_null (Protect aim index root steps (CheckUpper link)) post found j = under_test (found == upper post.span) _ (index == j) (link == 0) (told_null index root link (bump steps) j (link == 0) refl)
base_null (Protect aim index root steps (RaiseUpper era)) post found j = none_of (index == j)
base_null (Protect aim index root steps (ByHazard FirstLink)) post found j =
    under_test (found == 0) _ (index == j) (found == 0) (told_null index root found (bump steps) j (found == 0) refl) ∙ ap (λ (x : Bool). (index == j) && x) (absorbed false (found == 0))
base_null (Protect aim index root steps (ByHazard (PublishLink link))) post found j = none_of (index == j)
base_null (Protect aim index root steps (ByHazard (CheckLink link))) post found j =
    under_test (found == link || found == 0) _ (index == j) (found == 0) (told_null index root found (bump steps) j (found == 0) refl) ∙ ap (λ (x : Bool). (index == j) && x) (absorbed (found == link) (found == 0))
base_null (Begin at) post found j = refl
base_null (Reload parent index slot era steps) post found j = and_false (found == parent + 1)
base_null (Clear rows index) post found j = cleared_null index j (stands post index)
base_null Finish post found j = refl
base_null (Release index) post found j = cleared_null index j (stands post index)
base_null base post found j = refl

phase_null : (phase : Phase) (post : Post) (found j : ℕ) → phase_shows (is_null j) post phase found ≡ null_in post phase found j
phase_null Idle post found j = refl
phase_null (Runs why base) post found j = base_null base post found j
phase_null (Scans later at) post found j = refl
phase_null (Works work) post found j = none_worked (is_null j) work post (λ index slot. refl) (λ from index slot. refl)

pub null_told : NullTold
null_told w i j = step_any (is_null j) w i (null_calm j) (null_later j) ∙ phase_null (w.seat i).phase (counted (w.seat i).post) (finds w i) j
