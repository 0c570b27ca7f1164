-- What a call works on still stands after a step of a machine.
use Rattle.std.proofs.Common.{ℕ, ◌≡◌, ◌+◌, true, arith, refl, sym, ap, subst, ◌∙◌, List, [], ◌∷◌, length, Bool, false}
use Rattle.std.proofs.lemmas.Bool.Decides.{nat_tests}
use Rattle.std.proofs.lemmas.List.{get_or-set_same}
use Rattle.std.specs.Prelude.{◌==◌, ◌||◌, ◌-◌, Option, Some, None}
use Rattle.inv_ends.specs.model.words.Packed.{read_request}
use Rattle.inv_ends.specs.model.words.declared.layout.Layout.{Layout}
use Rattle.inv_ends.specs.model.defs.declared.event.Event.{Event}
use Rattle.inv_ends.specs.model.defs.declared.event.Event.TheVariants as events
use Rattle.inv_ends.specs.model.defs.declared.event.Root.{Root}
use Rattle.inv_ends.specs.model.declared.ends.FollowEnd.{FollowEnd}
use Rattle.inv_ends.specs.model.declared.ends.FollowEnd.TheVariants as follow_ends
use Rattle.inv_ends.specs.model.declared.post.Post.{Post}
use Rattle.inv_ends.specs.model.Allocate.{walking, walk_past, is_claimed, next_slot}
use Rattle.inv_ends.specs.model.Desks.{Desk}
use Rattle.inv_ends.specs.model.Links.{parent_of}
use Rattle.inv_ends.specs.model.Memory.{bump}
use Rattle.inv_ends.specs.model.Posts.{stands, with_row, upper, reserves_helper}
use Rattle.inv_ends.specs.model.Protect.{held_post, told_held, concluded, protected, failed_once}
use Rattle.inv_ends.specs.model.SlowPath.{answer_in, lost_turn, own_request}
use Rattle.inv_ends.specs.model.WriteRow.{last_written}
use Rattle.inv_ends.specs.model.Phases.{Aim, Follows, Walk, AllocateAt, ProtectAt, Base, Outcome, Goes, Ends, Turn, goes, ends, Ending}
use Rattle.inv_ends.specs.model.Phases.ProtectAt.{LoadClock, PublishEra, LoadLink, CheckClock, PublishRequest, LoadOwnClock, PublishHelper, LoadOwnLink, CheckOwnClock, AnswerOwn, LoadAnswer, TakeAnswer, WithdrawRequest, WithdrawHelper, LoadWithin, CheckUpper, RaiseUpper, ByHazard}
use Rattle.inv_ends.specs.model.Phases.HazardAt.{FirstLink, PublishLink, CheckLink}
use Rattle.inv_ends.specs.model.Phases.AllocateAt.{LoadBirth, ClaimSlot, StoreLife}
use Rattle.inv_ends.specs.model.Phases.Base.{Begin, Protect, Reload, Clear, Finish, Release, Allocate, Write, GiveUp, Retire, Move}
use Rattle.inv_ends.specs.model.Phases.Ending.{Done, Protected, Followed, Allocated, Retired, Clocked}
use Rattle.inv_ends.specs.model.Machine.{protect_turn, allocate_turn, after}
use Rattle.inv_ends.specs.model.Steps.{resumed, run_turn}
use Rattle.inv_ends.specs.model.Calls.{Task, Gets, Changes, Holds, Enqueues, Dequeues, Why, Opens, FollowsHead, Fills, ClearsNext, Clears, Finishes, GivesUp, Retires, Tidies, Advances, Releases, Runs}
use Rattle.inv_ends.specs.shapes.Seats.{PostFits, Run, suits, ToFill}
use Rattle.inv_ends.specs.requests.Parents.{why_stands, OutcomeStands}
use Rattle.inv_ends.proofs.requests.Standings.{machine_stands}
use Rattle.inv_all.specs.Contents.Stands.{Stood}
use Rattle.inv_all.proofs.Contents.Stands.Rounds.{TurnStood, free_stood, adds_stood, why_ends, ends_free, resume_adds}
use Rattle.inv_all.proofs.Contents.Stands.Works.{opened_stood, ending_nexts, followed_by_stood, task_stays, filled_stood}
use Rattle.inv_ends.proofs.model.Facts.{if_by}

-- a row that was followed stands at index 1

abbrev OutcomeNexts : Outcome → Post → Type 0
OutcomeNexts (Goes base) post = Unit {0}
OutcomeNexts (Ends ending) post = ending_nexts ending post

abbrev MachineNexts : Turn → Type 0
MachineNexts t = OutcomeNexts t.outcome t.post

-- the machine has followed the head's next link to a row

abbrev pub follow_lands : FollowEnd → Bool
follow_lands (follow_ends.Followed slot) = true
follow_lands follow_ends.NoNext = false
follow_lands (follow_ends.RootMoved seen) = false

abbrev pub ending_lands : Ending → Bool
ending_lands Done = false
ending_lands (Protected ending) = false
ending_lands (Followed ending) = follow_lands ending
ending_lands (Allocated ending) = false
ending_lands (Retired life) = false
ending_lands (Clocked clock) = false

abbrev pub lands : Outcome → Bool
lands (Goes base) = false
lands (Ends ending) = ending_lands ending

abbrev pub Unlanded : Turn → Type 0
Unlanded t = lands t.outcome ≡ false

-- a protection that is followed ends only where there is no next row
concluded_lands : (index : ℕ) (root : Root) (n link era : ℕ) (post : Post) (told : List Event) → Unlanded (concluded Follows index root n link era post told)
concluded_lands index root n link era post told =
    if_by (link == 0) (ends post told (Followed follow_ends.NoNext)) (goes post told (Reload (parent_of root) index (link - 1) era n)) Unlanded (λ e. refl) (λ e. refl)

protected_lands : (index : ℕ) (root : Root) (n link era : ℕ) (post : Post) → Unlanded (protected Follows index root n link era post)
protected_lands index root n link era post = concluded_lands index root n link era (held_post post index root link) (told_held index root link n)

pub protect_lands : (index : ℕ) (root : Root) (n : ℕ) (at : ProtectAt) (post : Post) (found : ℕ) → Unlanded (protect_turn Follows index root n at post found)
protect_lands index root n (LoadClock tries) post found = refl
protect_lands index root n (PublishEra era tries) post found = refl
protect_lands index root n (LoadLink era tries) post found = refl
protect_lands index root n (CheckClock era tries link) post found =
    if_by (found == era) (protected Follows index root n link era post) (goes post [] (Protect Follows index root n (PublishEra found (failed_once tries)))) Unlanded (λ e. protected_lands index root n link era post) (λ e. refl)
protect_lands index root n PublishRequest post found = refl
protect_lands index root n LoadOwnClock post found = refl
protect_lands index root n (PublishHelper first era last) post found = refl
protect_lands index root n (LoadOwnLink first era last) post found = refl
protect_lands index root n (CheckOwnClock first era last link) post found =
    if_by (found == era) (goes post [] (Protect Follows index root n (AnswerOwn first era link))) (goes post [] (Protect Follows index root n (lost_turn first last found))) Unlanded (λ e. refl) (λ e. refl)
protect_lands index root n (AnswerOwn first era link) post found =
    if_by (found == own_request post index root) (goes post [] (Protect Follows index root n (TakeAnswer link era))) (goes post [] (Protect Follows index root n (answer_in (read_request found)))) Unlanded (λ e. refl) (λ e. refl)
protect_lands index root n (LoadAnswer first) post found = refl
protect_lands index root n (TakeAnswer link era) post found = refl
protect_lands index root n (WithdrawRequest link era) post found = refl
protect_lands index root n (WithdrawHelper link era) post found = concluded_lands index root n link era post (reserves_helper post 0)
protect_lands index root n LoadWithin post found = refl
protect_lands index root n (CheckUpper link) post found =
    if_by (found == upper post.span) (protected Follows index root n link found post) (goes post [] (Protect Follows index root n (RaiseUpper found))) Unlanded (λ e. protected_lands index root n link found post) (λ e. refl)
protect_lands index root n (RaiseUpper era) post found = refl
protect_lands index root n (ByHazard FirstLink) post found =
    if_by (found == 0) (protected Follows index root n found 0 post) (goes post [] (Protect Follows index root n (ByHazard (PublishLink found)))) Unlanded (λ e. protected_lands index root n found 0 post) (λ e. refl)
protect_lands index root n (ByHazard (PublishLink link)) post found = refl
protect_lands index root n (ByHazard (CheckLink link)) post found =
    if_by (found == link || found == 0) (protected Follows index root n found 0 post) (goes post [] (Protect Follows index root n (ByHazard (PublishLink found)))) Unlanded (λ e. protected_lands index root n found 0 post) (λ e. refl)

follow_unlanded : (ending : FollowEnd) (post : Post) → follow_lands ending ≡ false → ending_nexts (Followed ending) post
follow_unlanded (follow_ends.Followed slot) post h = absurd (cc)
follow_unlanded follow_ends.NoNext post h = tt
follow_unlanded (follow_ends.RootMoved seen) post h = tt

unlanded_nexts : (outcome : Outcome) (post : Post) → lands outcome ≡ false → OutcomeNexts outcome post
unlanded_nexts (Goes base) post h = tt
unlanded_nexts (Ends Done) post h = tt
unlanded_nexts (Ends (Protected ending)) post h = tt
unlanded_nexts (Ends (Followed ending)) post h = follow_unlanded ending post h
unlanded_nexts (Ends (Allocated ending)) post h = tt
unlanded_nexts (Ends (Retired life)) post h = tt
unlanded_nexts (Ends (Clocked clock)) post h = tt

protect_nexts : (index : ℕ) (root : Root) (n : ℕ) (at : ProtectAt) (post : Post) (found : ℕ) → MachineNexts (protect_turn Follows index root n at post found)
protect_nexts index root n at post found = let t : Turn = protect_turn Follows index root n at post found in unlanded_nexts t.outcome t.post (protect_lands index root n at post found)

row_stands : (post : Post) (index slot : ℕ) → index ≡ 1 → length post.standing ≡ 8 → stands (with_row post index slot) 1 ≡ Some slot
row_stands post index slot e b = subst (λ (j : ℕ). stands (with_row post index slot) j ≡ Some slot) e (get_or-set_same post.standing index (Some slot) None (omega arith))

follow_nexts : (layout : Layout) (k head tail : ℕ) (base : Base) (post : Post) (found : ℕ) → PostFits layout k post → Run layout (FollowsHead head tail) base post → MachineNexts (after base post found)
follow_nexts layout k head tail (Begin at) post found q r = absurd (let x = r.suited in cc)
follow_nexts layout k head tail (Protect aim index root steps at) post found q r =
    subst (λ (x : Aim). MachineNexts (protect_turn x index root (bump steps) at post found)) (sym r.shape.aimed) (protect_nexts index root (bump steps) at post found)
follow_nexts layout k head tail (Reload parent index slot era steps) post found q r =
    if_by (found == parent + 1) (ends (with_row post index slot) (events.Held index slot (bump steps) ∷ []) (Followed (follow_ends.Followed slot))) (ends post [] (Followed (follow_ends.RootMoved found))) MachineNexts
    (λ e. row_stands post index slot r.shape.at q.standing) (λ e. tt)
follow_nexts layout k head tail (Clear rows index) post found q r = absurd (let x = r.suited in cc)
follow_nexts layout k head tail Finish post found q r = absurd (let x = r.suited in cc)
follow_nexts layout k head tail (Release index) post found q r = absurd (let x = r.suited in cc)
follow_nexts layout k head tail (Allocate at) post found q r = absurd (let x = r.suited in cc)
follow_nexts layout k head tail (Write slot row place) post found q r = absurd (let x = r.suited in cc)
follow_nexts layout k head tail (GiveUp slot) post found q r = absurd (let x = r.suited in cc)
follow_nexts layout k head tail (Retire at) post found q r = absurd (let x = r.suited in cc)
follow_nexts layout k head tail (Move at) post found q r = absurd (let x = r.suited in cc)

-- a row that is taken or written leaves what stands

abbrev Keeps0 : Post → Turn → Type 0
Keeps0 post t = stands t.post 0 ≡ stands post 0

walking_keeps : (birth : ℕ) (post : Post) (o : Option Walk) → Keeps0 post (walking birth post o)
walking_keeps birth post None = refl
walking_keeps birth post (Some walk) = refl

allocate_keeps : (at : AllocateAt) (post : Post) (found : ℕ) → Keeps0 post (allocate_turn at post found)
allocate_keeps LoadBirth post found = refl
allocate_keeps (ClaimSlot birth walk) post found =
    if_by (is_claimed found walk.slot) (walking birth post (walk_past post.layout.config.slots walk found)) (goes (record post { cursor = next_slot post.layout.config.slots walk.slot }) (events.Give walk.slot birth ∷ []) (Allocate (StoreLife birth walk.slot))) (Keeps0 post)
    (λ e. walking_keeps birth post (walk_past post.layout.config.slots walk found)) (λ e. refl)
allocate_keeps (StoreLife birth slot) post found = refl

fill_keeps : (base : Base) (post : Post) (found : ℕ) → suits base ToFill ≡ true → Keeps0 post (after base post found)
fill_keeps (Begin at) post found r = absurd (cc)
fill_keeps (Protect aim index root steps at) post found r = absurd (cc)
fill_keeps (Reload parent index slot era steps) post found r = absurd (cc)
fill_keeps (Clear rows index) post found r = absurd (cc)
fill_keeps Finish post found r = absurd (cc)
fill_keeps (Release index) post found r = absurd (cc)
fill_keeps (Allocate at) post found r = allocate_keeps at post found
fill_keeps (Write slot row place) post found r =
    if_by (place == last_written row) (ends post [] Done) (goes post [] (Write slot row (place + 1))) (Keeps0 post) (λ e. refl) (λ e. refl)
fill_keeps (GiveUp slot) post found r = absurd (cc)
fill_keeps (Retire at) post found r = absurd (cc)
fill_keeps (Move at) post found r = absurd (cc)

-- the turns

opens_stood : (task : Task) (desk : Desk) (post : Post) (told : List Event) (outcome : Outcome) → OutcomeStands (Opens task) outcome post → TurnStood (resumed (Opens task) desk post told outcome)
opens_stood task desk post told (Goes base) h = free_stood (Runs (Opens task) base) post refl
opens_stood task desk post told (Ends ending) h = opened_stood task ending post desk told h

head_row : (post : Post) (head s : ℕ) → stands post 0 ≡ Some head → (head == s) ≡ true → stands post 0 ≡ Some s
head_row post head s h e = let same : head ≡ s = grind (arith, nat_tests) in h ∙ ap (λ (x : ℕ). Some x) same

follows_stood : (head tail : ℕ) (desk : Desk) (post : Post) (told : List Event) (outcome : Outcome) → OutcomeStands (FollowsHead head tail) outcome post → OutcomeNexts outcome post → TurnStood (resumed (FollowsHead head tail) desk post told outcome)
follows_stood head tail desk post told (Goes base) h n = record { reads = λ s e. cc; queue = λ s e. head_row post head s h e; nexts = λ s e. cc }
follows_stood head tail desk post told (Ends ending) h n = followed_by_stood head tail ending post desk told h n

task_stood : (task : Task) (base : Base) (post : Post) → task_stays task post → Stood (Runs (Fills task) base) post
task_stood (Gets key) base post h = free_stood (Runs (Fills (Gets key)) base) post refl
task_stood (Changes kept) base post h = record { reads = λ s e. h s e; queue = λ s e. cc; nexts = λ s e. cc }
task_stood (Holds key) base post h = free_stood (Runs (Fills (Holds key)) base) post refl
task_stood (Enqueues kept) base post h = record { reads = λ s e. cc; queue = λ s e. h s e; nexts = λ s e. cc }
task_stood Dequeues base post h = free_stood (Runs (Fills Dequeues) base) post refl

stood_task : (task : Task) (base : Base) (post next : Post) → stands next 0 ≡ stands post 0 → Stood (Runs (Fills task) base) post → task_stays task next
stood_task (Gets key) base post next k h = tt
stood_task (Changes kept) base post next k h = λ s e. k ∙ h.reads s e
stood_task (Holds key) base post next k h = tt
stood_task (Enqueues kept) base post next k h = λ s e. k ∙ h.queue s e
stood_task Dequeues base post next k h = tt

fills_stood : (task : Task) (desk : Desk) (post : Post) (told : List Event) (outcome : Outcome) → task_stays task post → TurnStood (resumed (Fills task) desk post told outcome)
fills_stood task desk post told (Goes base) h = task_stood task base post h
fills_stood task desk post told (Ends ending) h = filled_stood task ending post desk told h

ends_stood : (why : Why) (desk : Desk) (post : Post) (told : List Event) (outcome : Outcome) → why_ends why ≡ true → TurnStood (resumed why desk post told outcome)
ends_stood why desk post told (Goes base) h = free_stood (Runs why base) post (ends_free why h)
ends_stood why desk post told (Ends ending) h = adds_stood told (resumed why desk post told (Ends ending)) (resume_adds why ending post desk told h)

pub run_stood : (layout : Layout) (k : ℕ) (why : Why) (base : Base) (post : Post) (desk : Desk) (found : ℕ) → PostFits layout k post → Run layout why base post → why_stands why base post → Stood (Runs why base) post → TurnStood (run_turn why desk (after base post found))
run_stood layout k (Opens task) base post desk found q r p h =
    let t : Turn = after base post found in
    opens_stood task desk t.post t.told t.outcome (machine_stands layout k (Opens task) base post found q r p)
run_stood layout k (FollowsHead head tail) base post desk found q r p h =
    let t : Turn = after base post found in
    follows_stood head tail desk t.post t.told t.outcome (machine_stands layout k (FollowsHead head tail) base post found q r p) (follow_nexts layout k head tail base post found q r)
run_stood layout k (Fills task) base post desk found q r p h =
    let t : Turn = after base post found in
    fills_stood task desk t.post t.told t.outcome (stood_task task base post t.post (fill_keeps base post found r.suited) h)
run_stood layout k (ClearsNext next) base post desk found q r p h = let t : Turn = after base post found in ends_stood (ClearsNext next) desk t.post t.told t.outcome refl
run_stood layout k (Clears task next) base post desk found q r p h = let t : Turn = after base post found in ends_stood (Clears task next) desk t.post t.told t.outcome refl
run_stood layout k (Finishes task next) base post desk found q r p h = let t : Turn = after base post found in ends_stood (Finishes task next) desk t.post t.told t.outcome refl
run_stood layout k (GivesUp answer) base post desk found q r p h = let t : Turn = after base post found in ends_stood (GivesUp answer) desk t.post t.told t.outcome refl
run_stood layout k (Retires answer) base post desk found q r p h = let t : Turn = after base post found in ends_stood (Retires answer) desk t.post t.told t.outcome refl
run_stood layout k (Tidies later) base post desk found q r p h = let t : Turn = after base post found in ends_stood (Tidies later) desk t.post t.told t.outcome refl
run_stood layout k Advances base post desk found q r p h = let t : Turn = after base post found in ends_stood Advances desk t.post t.told t.outcome refl
run_stood layout k (Releases let_go) base post desk found q r p h = let t : Turn = after base post found in ends_stood (Releases let_go) desk t.post t.told t.outcome refl
