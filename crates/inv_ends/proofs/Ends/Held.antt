-- A row that is told to stand stands after the step, and one that is told to stand no more stood before it.
use Rattle.inv_rows.specs.model.Guards.{guard_at}
use Rattle.std.proofs.Common.{ℕ, ◌+◌, ◌-◌, ◌<◌, Bool, true, false, ◌≡◌, ◌∙◌, sym, refl, ap, subst, arith, ◌⊎◌, inl, inr}
use Rattle.std.proofs.lemmas.Bool.Decides.{nat_tests}
use Rattle.std.proofs.lemmas.List.Folds.{list_any-append}
use Rattle.std.specs.List.{list_any}
use Rattle.inv_rows.specs.model.Phases.Ending.{Protected, Followed}
use Rattle.inv_rows.specs.model.Keep as keeps
use Rattle.inv_rows.specs.model.Steps as steps
use Rattle.inv_rows.specs.model.Dequeue as dequeues
use Rattle.inv_rows.specs.model.Calls as calls
use Rattle.inv_rows.specs.defs.declared.event.Event.TheVariants as events
use Rattle.inv_rows.specs.defs.declared.event.Root.TheVariants as roots
use Rattle.inv_rows.specs.model.declared.ends.ProtectEnd.TheVariants as protect_ends
use Rattle.inv_rows.specs.model.declared.ends.FollowEnd.TheVariants as follow_ends
use Rattle.inv_rows.specs.model.Calls.{CallOutcome, CallTurn, KeepAt, Phase, Task, Why, Work, goes_on}
use Rattle.inv_rows.specs.model.Calls.CallOutcome.{GoesOn}
use Rattle.inv_rows.specs.model.Calls.KeepAt.{HideSpan, LoadHeld, Loosens, Looks, MarkLeft, MarkTaken, Misses, StoreHeld, TakeList}
use Rattle.inv_rows.specs.model.Calls.Phase.{Idle, Runs, Scans, Works}
use Rattle.inv_rows.specs.model.Calls.ScanAt.{GiveBack, ReadGuard}
use Rattle.inv_rows.specs.model.Calls.Task.{Changes, Dequeues, Enqueues, Gets, Holds}
use Rattle.inv_rows.specs.model.Calls.Why.{Advances, Clears, ClearsNext, Fills, Finishes, FollowsHead, GivesUp, Opens, Releases, Retires, Tidies}
use Rattle.inv_rows.specs.model.Calls.Work.{Changing, Dequeuing, Enqueuing, Getting, Keeping}
use Rattle.inv_rows.specs.model.Desks.{Desk}
use Rattle.inv_rows.specs.model.Locals.{told_by}
use Rattle.inv_rows.specs.model.Machine.{after}
use Rattle.inv_rows.specs.model.Memory.{bump}
use Rattle.inv_rows.specs.model.Phases.{Aim, Base, Turn, ends, goes}
use Rattle.inv_rows.specs.model.Phases.Aim.{Alone, Follows}
use Rattle.inv_rows.specs.model.Phases.Base.{Allocate, Begin, Clear, Finish, GiveUp, Move, Protect, Release, Reload, Retire, Write}
use Rattle.inv_rows.specs.model.Phases.ProtectAt.{AnswerOwn, ByHazard, CheckClock, CheckOwnClock, CheckUpper, LoadAnswer, LoadClock, LoadLink, LoadOwnClock, LoadOwnLink, LoadWithin, PublishEra, PublishHelper, PublishRequest, RaiseUpper, TakeAnswer, WithdrawHelper, WithdrawRequest}
use Rattle.inv_rows.specs.model.Phases.HazardAt.{FirstLink, PublishLink, CheckLink}
use Rattle.inv_rows.specs.model.Posts.{cleared, counted, reserves_index, stands, tag_of, upper, with_row, with_tag}
use Rattle.inv_rows.specs.model.Protect.{concluded, held_post, protected, told_held}
use Rattle.inv_rows.specs.model.SlowPath.{after_take_answer}
use Rattle.inv_rows.specs.model.Rounds.{let_index, scheme_of}
use Rattle.inv_rows.specs.model.World.{finds, offered}
use Rattle.inv_rows.specs.model.declared.post.Post.{Post}
use Rattle.inv_rows.proofs.Covering.Held.{stepped_post}
use Rattle.inv_rows.proofs.Covering.Stands.{withdrawn_shrinks}
use Rattle.inv_rows.proofs.Covering.Stood.{concluded_post}
use Rattle.inv_rows.specs.Covering.Held.{leads}
use Rattle.inv_rows.specs.defs.declared.event.Event.{Event}
use Rattle.inv_rows.specs.defs.declared.event.Root.{Root}
use Rattle.inv_ends.proofs.Ends.Left.{left_stood}
use Rattle.inv_ends.proofs.Ends.Nulls.{none_of}
use Rattle.inv_ends.proofs.Told.Rows.{concluded_told, own_told, phase_adds, resumed_adds}
use Rattle.inv_ends.proofs.Ends.Stood.{again_leads, base_keeps, clear_calm, counted_fits, fits_index, held_told, is_still, run_index, same_standing, still_shows}
use Rattle.inv_ends.proofs.Ends.Tests.{any_more, base_any, copied_shows, keep_any, keep_shows, read_any}
use Rattle.inv_ends.proofs.Told.Turns.{Adds, Just, adds_wide, at_index, cleared_stood, keep_just, out_adds, resume_adds, work_adds}
use Rattle.inv_ends.specs.Standing.{ClearStood, HeldCovered, HeldStands, holds_base, holds_in, is_end}
use Rattle.inv_ends.specs.Stands.{is_clear}
use Rattle.inv_rows.specs.Shapes.Seats.{PhaseFits, protects, reloads, suits, kind_of}
use Rattle.inv_rows.specs.words.Schemes.{has_one_interval, publishes_rows}
use Rattle.inv_rows.specs.words.declared.layout.Layout.{Layout}
use Rattle.model_history.proofs.Passes.{keep_post, keep_told}
use Rattle.std.specs.Prelude.{List, [], ◌∷◌, ◌++◌, length, Option, Some, None, if◌then◌else◌, ◌==◌, ◌&&◌, ◌||◌}
use Rattle.inv_rows.proofs.model.Standing.{stands-with_row_same}
use Rattle.inv_rows.proofs.model.Facts.{either_true, no_truth_2, or_false, rest_of}

-- a turn that keeps the post, and clears nothing
pub record Keeps (last : Post) (told : List Event) (t : CallTurn) : Type 0 where
  pub post : t.post ≡ last
  pub clears : (j s : ℕ) → list_any (is_clear j s) (told_by t) ≡ list_any (is_clear j s) told

out_keeps : (post : Post) (desk : Desk) (told : List Event) (outcome : CallOutcome) → Keeps post told (record { post = post; desk = desk; told = told; outcome = outcome })
out_keeps post desk told (GoesOn phase) = record { post = refl; clears = λ j s. any_more (is_clear j s) told [] refl }
out_keeps post desk told (calls.Answers answer) = record { post = refl; clears = λ j s. any_more (is_clear j s) told (events.End post.steps answer ∷ []) refl }

opened_keeps : (task : Task) (slot : ℕ) (post : Post) (desk : Desk) (told : List Event) → Keeps post told (steps.opened_row task slot post desk told)
opened_keeps (Gets key) slot post desk told = out_keeps _ _ _ _
opened_keeps (Changes kept) slot post desk told = out_keeps _ _ _ _
opened_keeps (Holds key) slot post desk told = out_keeps _ _ _ _
opened_keeps (Enqueues kept) slot post desk told = out_keeps _ _ _ _
opened_keeps Dequeues slot post desk told = out_keeps _ _ _ _

-- after a protection that ended with a row
held_keeps : (why : Why) (slot era : ℕ) (post : Post) (desk : Desk) (told : List Event) → protects (kind_of why) ≡ true → Keeps post told (steps.resume why (Protected (protect_ends.Held slot era)) post desk told)
held_keeps (Opens task) slot era post desk told k = opened_keeps task slot post desk told
held_keeps (FollowsHead head tail) slot era post desk told k = out_keeps _ _ _ _
held_keeps (Fills task) slot era post desk told k = no_truth_2 k
held_keeps (ClearsNext next) slot era post desk told k = no_truth_2 k
held_keeps (Clears task next) slot era post desk told k = no_truth_2 k
held_keeps (Finishes task next) slot era post desk told k = no_truth_2 k
held_keeps (GivesUp answer) slot era post desk told k = no_truth_2 k
held_keeps (Retires answer) slot era post desk told k = no_truth_2 k
held_keeps (Tidies later) slot era post desk told k = no_truth_2 k
held_keeps Advances slot era post desk told k = no_truth_2 k
held_keeps (Releases let_go) slot era post desk told k = no_truth_2 k

row_keeps : (head slot : ℕ) (post : Post) (desk : Desk) (told : List Event) (lags : Bool) → Keeps post told (dequeues.followed_row head slot post desk told lags)
row_keeps head slot post desk told true = out_keeps _ _ _ _
row_keeps head slot post desk told false = out_keeps _ _ _ _

-- after a follow that ended with a row
follow_keeps : (why : Why) (slot : ℕ) (post : Post) (desk : Desk) (told : List Event) → reloads (kind_of why) ≡ true → Keeps post told (steps.resume why (Followed (follow_ends.Followed slot)) post desk told)
follow_keeps (FollowsHead head tail) slot post desk told k = row_keeps head slot post desk told (tail == head + 1)
follow_keeps (Opens task) slot post desk told k = no_truth_2 k
follow_keeps (Fills task) slot post desk told k = no_truth_2 k
follow_keeps (ClearsNext next) slot post desk told k = no_truth_2 k
follow_keeps (Clears task next) slot post desk told k = no_truth_2 k
follow_keeps (Finishes task next) slot post desk told k = no_truth_2 k
follow_keeps (GivesUp answer) slot post desk told k = no_truth_2 k
follow_keeps (Retires answer) slot post desk told k = no_truth_2 k
follow_keeps (Tidies later) slot post desk told k = no_truth_2 k
follow_keeps Advances slot post desk told k = no_truth_2 k
follow_keeps (Releases let_go) slot post desk told k = no_truth_2 k

-- a protection that concludes with a row
concluded_keeps : (why : Why) (desk : Desk) (aim : Aim) (index : ℕ) (root : Root) (n link era : ℕ) (post : Post) (told : List Event) → (link == 0) ≡ false → protects (kind_of why) ≡ true → Keeps post told (steps.run_turn why desk (concluded aim index root n link era post told))
concluded_keeps why desk Alone index root n link era post told e k = rw e (held_keeps why (link - 1) era post desk told k)
concluded_keeps why desk Follows index root n link era post told e k = rw e (out_keeps _ _ _ _)

told_no_clear : (index : ℕ) (root : Root) (link n j s : ℕ) (null : Bool) → (link == 0) ≡ null → list_any (is_clear j s) (told_held index root link n) ≡ false
told_no_clear index (roots.Bucket bucket) link n j s true e = rw e refl
told_no_clear index (roots.Bucket bucket) link n j s false e = rw e refl
told_no_clear index roots.Head link n j s true e = rw e refl
told_no_clear index roots.Head link n j s false e = rw e refl
told_no_clear index roots.Tail link n j s true e = rw e refl
told_no_clear index roots.Tail link n j s false e = rw e refl
told_no_clear index (roots.Next parent) link n j s true e = rw e refl
told_no_clear index (roots.Next parent) link n j s false e = rw e refl

null_post : (post : Post) (index : ℕ) (root : Root) (link : ℕ) → (link == 0) ≡ true → held_post post index root link ≡ post
null_post post index (roots.Bucket bucket) link e = rw e refl
null_post post index roots.Head link e = rw e refl
null_post post index roots.Tail link e = rw e refl
null_post post index (roots.Next parent) link e = refl

-- what is cleared after a machine's turn stood in the post that it left
abbrev pub ClearsOf : Post → CallTurn → ℕ → ℕ → Type 0
ClearsOf post t j s = list_any (is_clear j s) (told_by t) ≡ true → stands post j ≡ Some s

pub left_clears : (p post : Post) (told : List Event) (t : CallTurn) (j s : ℕ) → Adds p told t → list_any (is_clear j s) told ≡ false → p.standing ≡ post.standing → ClearsOf post t j s
left_clears p post told t j s x n e h =
    let a : list_any (is_clear j s) (told ++ x.more) ≡ true = sym (ap (list_any (is_clear j s)) x.is) ∙ h in
    let b : list_any (is_clear j s) x.more ≡ true = sym (by (list_any (is_clear j s) told) n) ∙ sym (list_any-append (is_clear j s) told x.more) ∙ a in
    sym (same_standing p post j e) ∙ x.clears j s b
  where
    by : (y : Bool) → y ≡ false → (y || list_any (is_clear j s) x.more) ≡ list_any (is_clear j s) x.more
    by true e = no_truth_2 (sym e)
    by false e = refl

kept_clears : (p post : Post) (told : List Event) (t : CallTurn) (j s : ℕ) → Keeps p told t → list_any (is_clear j s) told ≡ false → ClearsOf post t j s
kept_clears p post told t j s x n h = no_truth_2 (sym n ∙ sym (x.clears j s) ∙ h)

run_adds : (why : Why) (desk : Desk) (t : Turn) → Adds t.post t.told (steps.run_turn why desk t)
run_adds why desk t = adds_wide _ _ _ (resumed_adds why desk t.post t.told t.outcome)

protected_clears : (why : Why) (desk : Desk) (aim : Aim) (index : ℕ) (root : Root) (n link era : ℕ) (post : Post) (j s : ℕ) (null : Bool) → (link == 0) ≡ null → protects (kind_of why) ≡ true → ClearsOf post (steps.run_turn why desk (protected aim index root n link era post)) j s
protected_clears why desk aim index root n link era post j s true e k =
    let t : Turn = protected aim index root n link era post in
    left_clears t.post post t.told (steps.run_turn why desk t) j s (run_adds why desk t) (ap (list_any (is_clear j s)) (concluded_told aim index root n link era (held_post post index root link) (told_held index root link n)) ∙ told_no_clear index root link n j s true e) (ap (λ (p : Post). p.standing) (concluded_post aim index root n link era (held_post post index root link) (told_held index root link n) ∙ null_post post index root link e))
protected_clears why desk aim index root n link era post j s false e k =
    kept_clears (held_post post index root link) post (told_held index root link n) (steps.run_turn why desk (protected aim index root n link era post)) j s (concluded_keeps why desk aim index root n link era (held_post post index root link) (told_held index root link n) e k) (told_no_clear index root link n j s false e)

check_clears : (why : Why) (desk : Desk) (aim : Aim) (index : ℕ) (root : Root) (n link era : ℕ) (post : Post) (next : Base) (j s : ℕ) (same : Bool) → protects (kind_of why) ≡ true → ClearsOf post (steps.run_turn why desk (if same then protected aim index root n link era post else goes post [] next)) j s
check_clears why desk aim index root n link era post next j s true k = protected_clears why desk aim index root n link era post j s (link == 0) refl k
check_clears why desk aim index root n link era post next j s false k = left_clears post post [] (goes_on post desk [] (Runs why next)) j s (adds_wide _ _ _ (out_adds post desk [] (GoesOn (Runs why next)))) refl refl

reload_clears : (why : Why) (desk : Desk) (index slot n found : ℕ) (post : Post) (j s : ℕ) (same : Bool) → reloads (kind_of why) ≡ true → ClearsOf post (steps.run_turn why desk (if same then ends (with_row post index slot) (events.Held index slot n ∷ []) (Followed (follow_ends.Followed slot)) else ends post [] (Followed (follow_ends.RootMoved found)))) j s
reload_clears why desk index slot n found post j s true k =
    kept_clears (with_row post index slot) post (events.Held index slot n ∷ []) (steps.resume why (Followed (follow_ends.Followed slot)) (with_row post index slot) desk (events.Held index slot n ∷ [])) j s (follow_keeps why slot (with_row post index slot) desk (events.Held index slot n ∷ []) k) refl
reload_clears why desk index slot n found post j s false k =
    left_clears post post [] (steps.resume why (Followed (follow_ends.RootMoved found)) post desk []) j s (adds_wide _ _ _ (resume_adds why (Followed (follow_ends.RootMoved found)) post desk [])) refl refl

still_clears : (why : Why) (desk : Desk) (base : Base) (post : Post) (found j s : ℕ) → is_still base ≡ true → ClearsOf post (steps.run_turn why desk (after base post found)) j s
still_clears why desk base post found j s k =
    left_clears (after base post found).post post (after base post found).told (steps.run_turn why desk (after base post found)) j s (run_adds why desk (after base post found)) (base_any (is_clear j s) base post found (clear_calm j s) ∙ still_shows (is_clear j s) base post found k) (base_keeps base post found k)

-- a machine that clears an index
split_clears : (why : Why) (desk : Desk) (t : Turn) (post : Post) (index j s : ℕ) → list_any (is_clear j s) t.told ≡ list_any (is_clear j s) (cleared index (stands post index)) → ((k r : ℕ) → stands t.post k ≡ Some r → stands post k ≡ Some r) → ClearsOf post (steps.run_turn why desk t) j s
split_clears why desk t post index j s e f h = by (either_true (list_any (is_clear j s) t.told) (list_any (is_clear j s) x.more) (sym (list_any-append (is_clear j s) t.told x.more) ∙ sym (ap (list_any (is_clear j s)) x.is) ∙ h)) where
  x : Adds t.post t.told (steps.run_turn why desk t)
  x = run_adds why desk t

  by : (list_any (is_clear j s) t.told ≡ true) ⊎ (list_any (is_clear j s) x.more ≡ true) → stands post j ≡ Some s
  by (inl y) = at_index post index j s (cleared_stood index (stands post index) j s (sym e ∙ y))
  by (inr y) = f j s (x.clears j s y)

taken_clears : (why : Why) (desk : Desk) (aim : Aim) (index : ℕ) (root : Root) (n link era : ℕ) (post : Post) (j s : ℕ) → ClearsOf post (steps.run_turn why desk (after_take_answer aim index root n link era post)) j s
taken_clears why desk aim index root n link era post j s h =
    let p : Post = held_post (with_tag post index (tag_of post index + 1)) index root link in
    let told : List Event = reserves_index post index era ++ told_held index root link n in
    kept_clears p post told (goes_on p desk told (Runs why (Protect aim index root n (WithdrawRequest link era)))) j s (out_keeps _ _ _ _) (told_no_clear index root link n j s (link == 0) refl) h

run_clears : (why : Why) (desk : Desk) (base : Base) (post : Post) (found j s : ℕ) → suits base (kind_of why) ≡ true → ClearsOf post (steps.run_turn why desk (after base post found)) j s
run_clears why desk (Protect aim index root steps (LoadClock tries)) post found j s k = still_clears why desk (Protect aim index root steps (LoadClock tries)) post found j s refl
run_clears why desk (Protect aim index root steps (PublishEra era tries)) post found j s k = still_clears why desk (Protect aim index root steps (PublishEra era tries)) post found j s refl
run_clears why desk (Protect aim index root steps (LoadLink era tries)) post found j s k = still_clears why desk (Protect aim index root steps (LoadLink era tries)) post found j s refl
run_clears why desk (Protect aim index root steps (CheckClock era tries link)) post found j s k = check_clears why desk aim index root (bump steps) link era post _ j s (found == era) k
run_clears why desk (Protect aim index root steps PublishRequest) post found j s k = still_clears why desk (Protect aim index root steps PublishRequest) post found j s refl
run_clears why desk (Protect aim index root steps LoadOwnClock) post found j s k = still_clears why desk (Protect aim index root steps LoadOwnClock) post found j s refl
run_clears why desk (Protect aim index root steps (PublishHelper first era last)) post found j s k = still_clears why desk (Protect aim index root steps (PublishHelper first era last)) post found j s refl
run_clears why desk (Protect aim index root steps (LoadOwnLink first era last)) post found j s k = still_clears why desk (Protect aim index root steps (LoadOwnLink first era last)) post found j s refl
run_clears why desk (Protect aim index root steps (CheckOwnClock first era last link)) post found j s k = still_clears why desk (Protect aim index root steps (CheckOwnClock first era last link)) post found j s refl
run_clears why desk (Protect aim index root steps (AnswerOwn first era link)) post found j s k = still_clears why desk (Protect aim index root steps (AnswerOwn first era link)) post found j s refl
run_clears why desk (Protect aim index root steps (LoadAnswer first)) post found j s k = still_clears why desk (Protect aim index root steps (LoadAnswer first)) post found j s refl
run_clears why desk (Protect aim index root steps (TakeAnswer link era)) post found j s k = taken_clears why desk aim index root (bump steps) link era post j s
run_clears why desk (Protect aim index root steps (WithdrawRequest link era)) post found j s k = still_clears why desk (Protect aim index root steps (WithdrawRequest link era)) post found j s refl
run_clears why desk (Protect aim index root steps (WithdrawHelper link era)) post found j s k = still_clears why desk (Protect aim index root steps (WithdrawHelper link era)) post found j s refl
run_clears why desk (Protect aim index root steps LoadWithin) post found j s k = still_clears why desk (Protect aim index root steps LoadWithin) post found j s refl
run_clears why desk (Protect aim index root steps (CheckUpper link)) post found j s k = check_clears why desk aim index root (bump steps) link found post _ j s (found == upper post.span) k
run_clears why desk (Protect aim index root steps (RaiseUpper era)) post found j s k = still_clears why desk (Protect aim index root steps (RaiseUpper era)) post found j s refl
run_clears why desk (Protect aim index root steps (ByHazard FirstLink)) post found j s k = check_clears why desk aim index root (bump steps) found 0 post _ j s (found == 0) k
run_clears why desk (Protect aim index root steps (ByHazard (PublishLink link))) post found j s k = still_clears why desk (Protect aim index root steps (ByHazard (PublishLink link))) post found j s refl
run_clears why desk (Protect aim index root steps (ByHazard (CheckLink link))) post found j s k = check_clears why desk aim index root (bump steps) found 0 post _ j s (found == link || found == 0) k
run_clears why desk (Begin at) post found j s k = still_clears why desk (Begin at) post found j s refl
run_clears why desk (Reload parent index slot era steps) post found j s k = reload_clears why desk index slot (bump steps) found post j s (found == parent + 1) k
run_clears why desk (Clear rows index) post found j s k = split_clears why desk (after (Clear rows index) post found) post index j s (base_any (is_clear j s) (Clear rows index) post found (clear_calm j s)) (withdrawn_shrinks post index)
run_clears why desk Finish post found j s k = still_clears why desk Finish post found j s refl
run_clears why desk (Release index) post found j s k = split_clears why desk (after (Release index) post found) post index j s (base_any (is_clear j s) (Release index) post found (clear_calm j s)) (withdrawn_shrinks post index)
run_clears why desk (Allocate at) post found j s k = still_clears why desk (Allocate at) post found j s refl
run_clears why desk (Write slot row place) post found j s k = still_clears why desk (Write slot row place) post found j s refl
run_clears why desk (GiveUp slot) post found j s k = still_clears why desk (GiveUp slot) post found j s refl
run_clears why desk (Retire at) post found j s k = still_clears why desk (Retire at) post found j s refl
run_clears why desk (Move at) post found j s k = still_clears why desk (Move at) post found j s refl

-- what a step on what is kept clears stood before it
copied_cleared : (from index : ℕ) (post : Post) (x : Option ℕ) (j s : ℕ) → copied_shows (is_clear j s) from index post x ≡ true → stands post j ≡ Some s
copied_cleared from index post None j s h = no_truth_2 h
copied_cleared from index post (Some slot) j s h = at_index post index j s (cleared_stood index (stands post index) j s (sym (or_false (list_any (is_clear j s) (cleared index (stands post index)))) ∙ h))

keep_cleared : (at : KeepAt) (post : Post) (j s : ℕ) → keep_shows (is_clear j s) post at ≡ true → stands post j ≡ Some s
keep_cleared (Loosens let_go) post j s h = at_index post (let_index let_go) j s (cleared_stood (let_index let_go) (stands post (let_index let_go)) j s h)
keep_cleared (LoadHeld from index) post j s h = copied_cleared from index post (stands post from) j s (rest_of (has_one_interval (scheme_of post)) (copied_shows (is_clear j s) from index post (stands post from)) h)
keep_cleared (StoreHeld from index era) post j s h = copied_cleared from index post (stands post from) j s h
keep_cleared (Looks index key at) post j s h = no_truth_2 h
keep_cleared (Misses index) post j s h = no_truth_2 h
keep_cleared HideSpan post j s h = left_stood post j s h
keep_cleared MarkLeft post j s h = no_truth_2 h
keep_cleared (TakeList place) post j s h = no_truth_2 h
keep_cleared (MarkTaken place count) post j s h = no_truth_2 h

keep_clears : (at : KeepAt) (post : Post) (desk : Desk) (found j s : ℕ) → ClearsOf post (keeps.keep_turn at post desk found) j s
keep_clears at post desk found j s h =
    let t : CallTurn = keeps.keep_turn at post desk found in
    let x : Just (keep_post at post) (keep_told at post) t = keep_just at post desk found in
    let e : list_any (is_clear j s) (told_by t) ≡ keep_shows (is_clear j s) post at =
    ap (list_any (is_clear j s)) x.told ∙ any_more (is_clear j s) (keep_told at post) x.more (x.plain.clears j s) ∙ keep_any (is_clear j s) at post (clear_calm j s) in
    keep_cleared at post j s (sym e ∙ h)

work_clears : (work : Work) (post : Post) (desk : Desk) (found j s : ℕ) → ClearsOf post (steps.work_turn work post desk found) j s
work_clears (Getting key at) post desk found j s = left_clears post post [] _ j s (work_adds (Getting key at) post desk found) refl refl
work_clears (Changing kept at) post desk found j s = left_clears post post [] _ j s (work_adds (Changing kept at) post desk found) refl refl
work_clears (Enqueuing kept at) post desk found j s = left_clears post post [] _ j s (work_adds (Enqueuing kept at) post desk found) refl refl
work_clears (Dequeuing at) post desk found j s = left_clears post post [] _ j s (work_adds (Dequeuing at) post desk found) refl refl
work_clears (Keeping at) post desk found j s = keep_clears at post desk found j s

phase_clears : (layout : Layout) (phase : Phase) (post : Post) (desk : Desk) (found j s : ℕ) → PhaseFits layout post phase → ClearsOf post (steps.phase_turn phase post desk found) j s
phase_clears layout Idle post desk found j s r = left_clears post post [] _ j s (phase_adds Idle post desk found) refl refl
phase_clears layout (Runs why base) post desk found j s r = run_clears why desk base post found j s r.suited
phase_clears layout (Scans later (ReadGuard number)) post desk found j s r = left_clears post post (own_told (Scans later (ReadGuard number)) post found) _ j s (phase_adds (Scans later (ReadGuard number)) post desk found)
    (read_any (is_clear j s) (publishes_rows (scheme_of post)) (guard_at post.layout.config number) found (clear_calm j s)) refl
phase_clears layout (Scans later (GiveBack place slot)) post desk found j s r = left_clears post post (own_told (Scans later (GiveBack place slot)) post found) _ j s (phase_adds (Scans later (GiveBack place slot)) post desk found) refl refl
phase_clears layout (Works work) post desk found j s r = work_clears work post desk found j s

pub clear_stood : ClearStood
clear_stood w i j s n h =
    phase_clears w.layout (w.seat i).phase (counted (w.seat i).post) (offered w i).desk (finds w i) j s (counted_fits w.layout (w.seat i).phase (w.seat i).post (n.fits i).phase) h

-- a row that comes to stand
row_is : (post : Post) (index slot j s : ℕ) → index < length post.standing → (index == j) ≡ true → slot ≡ s → stands (with_row post index slot) j ≡ Some s
row_is post index slot j s b e q =
    let k : index ≡ j = grind (arith, nat_tests) in
    subst (λ (n : ℕ). stands (with_row post index slot) n ≡ Some s) k (stands-with_row_same post index slot b ∙ ap Some q)

end_row : (post : Post) (index : ℕ) (root : Root) (link j s : ℕ) → index < length post.standing → (index == j) ≡ true → is_end root ≡ true → (link == s + 1) ≡ true → stands (held_post post index root link) j ≡ Some s
end_row post index (roots.Bucket bucket) link j s b e r q = let n : (link == 0) ≡ false = grind (arith, nat_tests) in rw n (row_is post index (link - 1) j s b e (grind (arith, nat_tests)))
end_row post index roots.Head link j s b e r q = let n : (link == 0) ≡ false = grind (arith, nat_tests) in rw n (row_is post index (link - 1) j s b e (grind (arith, nat_tests)))
end_row post index roots.Tail link j s b e r q = let n : (link == 0) ≡ false = grind (arith, nat_tests) in rw n (row_is post index (link - 1) j s b e (grind (arith, nat_tests)))
end_row post index (roots.Next parent) link j s b e r q = no_truth_2 r

abbrev pub StandsIn : CallTurn → ℕ → ℕ → Type 0
StandsIn t j s = stands t.post j ≡ Some s

protected_stands : (why : Why) (desk : Desk) (aim : Aim) (index : ℕ) (root : Root) (n link era : ℕ) (post : Post) (j s : ℕ) → index < length post.standing → protects (kind_of why) ≡ true → (index == j) ≡ true → is_end root ≡ true → (link == s + 1) ≡ true → StandsIn (steps.run_turn why desk (protected aim index root n link era post)) j s
protected_stands why desk aim index root n link era post j s b k e r q =
    let z : (link == 0) ≡ false = grind (arith, nat_tests) in
    let x : Keeps (held_post post index root link) (told_held index root link n) (steps.run_turn why desk (protected aim index root n link era post)) = concluded_keeps why desk aim index root n link era (held_post post index root link) (told_held index root link n) z k in
    ap (λ (p : Post). stands p j) x.post ∙ end_row post index root link j s b e r q

check_stands : (why : Why) (desk : Desk) (aim : Aim) (index : ℕ) (root : Root) (n link era : ℕ) (post : Post) (next : Base) (j s : ℕ) (same : Bool) → index < length post.standing → protects (kind_of why) ≡ true → ((index == j) && (same && (is_end root && leads link s))) ≡ true → StandsIn (steps.run_turn why desk (if same then protected aim index root n link era post else goes post [] next)) j s
check_stands why desk aim index root n link era post next j s true b k h =
    let e : (index == j) ≡ true = grind (arith, nat_tests) in
    let r : is_end root ≡ true = grind (arith, nat_tests) in
    let q : (link == s + 1) ≡ true = grind (arith, nat_tests) in
    protected_stands why desk aim index root n link era post j s b k e r q
check_stands why desk aim index root n link era post next j s false b k h = no_truth_2 (none_of (index == j) ∙ h)

reload_stands : (why : Why) (desk : Desk) (index slot n found : ℕ) (post : Post) (j s : ℕ) (same : Bool) → index < length post.standing → reloads (kind_of why) ≡ true → ((index == j) && (same && (slot == s))) ≡ true → StandsIn (steps.run_turn why desk (if same then ends (with_row post index slot) (events.Held index slot n ∷ []) (Followed (follow_ends.Followed slot)) else ends post [] (Followed (follow_ends.RootMoved found)))) j s
reload_stands why desk index slot n found post j s true b k h =
    let x : Keeps (with_row post index slot) (events.Held index slot n ∷ []) (steps.resume why (Followed (follow_ends.Followed slot)) (with_row post index slot) desk (events.Held index slot n ∷ [])) = follow_keeps why slot (with_row post index slot) desk (events.Held index slot n ∷ []) k in
    ap (λ (p : Post). stands p j) x.post ∙ row_is post index slot j s b (grind (arith, nat_tests)) (grind (arith, nat_tests))
reload_stands why desk index slot n found post j s false b k h = no_truth_2 (none_of (index == j) ∙ h)

taken_stands : (index : ℕ) (root : Root) (link : ℕ) (post : Post) (j s : ℕ) → index < length post.standing → ((index == j) && (is_end root && leads link s)) ≡ true → stands (held_post post index root link) j ≡ Some s
taken_stands index root link post j s b h =
    let e : (index == j) ≡ true = grind (arith, nat_tests) in
    let r : is_end root ≡ true = grind (arith, nat_tests) in
    let q : (link == s + 1) ≡ true = grind (arith, nat_tests) in
    end_row post index root link j s b e r q

run_stands : (why : Why) (desk : Desk) (base : Base) (post : Post) (found j s : ℕ) → fits_index base post → suits base (kind_of why) ≡ true → holds_base post base found j s ≡ true → StandsIn (steps.run_turn why desk (after base post found)) j s
run_stands why desk (Protect aim index root steps (LoadClock tries)) post found j s b k h = no_truth_2 (none_of (index == j) ∙ h)
run_stands why desk (Protect aim index root steps (PublishEra era tries)) post found j s b k h = no_truth_2 (none_of (index == j) ∙ h)
run_stands why desk (Protect aim index root steps (LoadLink era tries)) post found j s b k h = no_truth_2 (none_of (index == j) ∙ h)
run_stands why desk (Protect aim index root steps (CheckClock era tries link)) post found j s b k h = check_stands why desk aim index root (bump steps) link era post _ j s (found == era) b k h
run_stands why desk (Protect aim index root steps PublishRequest) post found j s b k h = no_truth_2 (none_of (index == j) ∙ h)
run_stands why desk (Protect aim index root steps LoadOwnClock) post found j s b k h = no_truth_2 (none_of (index == j) ∙ h)
run_stands why desk (Protect aim index root steps (PublishHelper first era last)) post found j s b k h = no_truth_2 (none_of (index == j) ∙ h)
run_stands why desk (Protect aim index root steps (LoadOwnLink first era last)) post found j s b k h = no_truth_2 (none_of (index == j) ∙ h)
run_stands why desk (Protect aim index root steps (CheckOwnClock first era last link)) post found j s b k h = no_truth_2 (none_of (index == j) ∙ h)
run_stands why desk (Protect aim index root steps (AnswerOwn first era link)) post found j s b k h = no_truth_2 (none_of (index == j) ∙ h)
run_stands why desk (Protect aim index root steps (LoadAnswer first)) post found j s b k h = no_truth_2 (none_of (index == j) ∙ h)
run_stands why desk (Protect aim index root steps (TakeAnswer link era)) post found j s b k h = taken_stands index root link (with_tag post index (tag_of post index + 1)) j s b h
run_stands why desk (Protect aim index root steps (WithdrawRequest link era)) post found j s b k h = no_truth_2 (none_of (index == j) ∙ h)
run_stands why desk (Protect aim index root steps (WithdrawHelper link era)) post found j s b k h = no_truth_2 (none_of (index == j) ∙ h)
run_stands why desk (Protect aim index root steps LoadWithin) post found j s b k h = no_truth_2 (none_of (index == j) ∙ h)
run_stands why desk (Protect aim index root steps (CheckUpper link)) post found j s b k h = check_stands why desk aim index root (bump steps) link found post _ j s (found == upper post.span) b k h
run_stands why desk (Protect aim index root steps (RaiseUpper era)) post found j s b k h = no_truth_2 (none_of (index == j) ∙ h)
run_stands why desk (Protect aim index root steps (ByHazard FirstLink)) post found j s b k h = no_truth_2 (none_of (index == j) ∙ h)
run_stands why desk (Protect aim index root steps (ByHazard (PublishLink link))) post found j s b k h = no_truth_2 (none_of (index == j) ∙ h)
run_stands why desk (Protect aim index root steps (ByHazard (CheckLink link))) post found j s b k h =
    check_stands why desk aim index root (bump steps) found 0 post _ j s (found == link || found == 0) b k (ap (λ (x : Bool). (index == j) && x) (again_leads (is_end root) found link s (found == link) refl) ∙ h)
run_stands why desk (Begin at) post found j s b k h = no_truth_2 h
run_stands why desk (Reload parent index slot era steps) post found j s b k h = reload_stands why desk index slot (bump steps) found post j s (found == parent + 1) b k h
run_stands why desk (Clear rows index) post found j s b k h = no_truth_2 h
run_stands why desk Finish post found j s b k h = no_truth_2 h
run_stands why desk (Release index) post found j s b k h = no_truth_2 h
run_stands why desk (Allocate at) post found j s b k h = no_truth_2 h
run_stands why desk (Write slot row place) post found j s b k h = no_truth_2 h
run_stands why desk (GiveUp slot) post found j s b k h = no_truth_2 h
run_stands why desk (Retire at) post found j s b k h = no_truth_2 h
run_stands why desk (Move at) post found j s b k h = no_truth_2 h

phase_stands : (layout : Layout) (phase : Phase) (post : Post) (desk : Desk) (found j s : ℕ) → length post.standing ≡ 8 → PhaseFits layout post phase → holds_in post phase found j s ≡ true → StandsIn (steps.phase_turn phase post desk found) j s
phase_stands layout Idle post desk found j s l r h = no_truth_2 h
phase_stands layout (Runs why base) post desk found j s l r h = run_stands why desk base post found j s (run_index layout why base post l r) r.suited h
phase_stands layout (Scans later at) post desk found j s l r h = no_truth_2 h
phase_stands layout (Works work) post desk found j s l r h = no_truth_2 h

pub held_stands : HeldStands
held_stands w i j s n h =
    ap (λ (p : Post). stands p j) (stepped_post w i)
    ∙ phase_stands w.layout (w.seat i).phase (counted (w.seat i).post) (offered w i).desk (finds w i) j s (n.fits i).post.standing (counted_fits w.layout (w.seat i).phase (w.seat i).post (n.fits i).phase) (sym (held_told w i j s) ∙ h)

pub held_covered : HeldCovered
held_covered w i j s v n a h = a.stood i j s (held_stands w i j s n h)
