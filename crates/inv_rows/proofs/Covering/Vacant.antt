-- Where nothing stands, over each step and each beginning of a call.
use Rattle.std.proofs.Common.{ℕ, ◌+◌, ◌-◌, ◌≡◌, sym, subst, ap, true, false, arith, refl, Bool, Option, Some, None, List, [], ◌∷◌}
use Rattle.std.proofs.lemmas.Bool.Decides.{nat_tests}
use Rattle.std.specs.Prelude.{◌==◌, ◌||◌, if◌then◌else◌, nat_lt}
use Rattle.inv_rows.specs.words.declared.layout.Layout.{Layout}
use Rattle.inv_rows.specs.defs.declared.event.Event.{Event}
use Rattle.inv_rows.specs.defs.declared.event.Event.TheVariants as events
use Rattle.inv_rows.specs.defs.declared.event.Root.{Root}
use Rattle.inv_rows.specs.defs.declared.event.Root.TheVariants as roots
use Rattle.inv_rows.specs.model.declared.post.Post.{Post}
use Rattle.inv_rows.specs.model.Desks.{Desk}
use Rattle.inv_rows.specs.model.Guards.{guards, guard_at, published}
use Rattle.inv_rows.specs.model.Posts.{stands, upper, with_row, tag_of, with_tag, reserves_helper}
use Rattle.inv_rows.specs.model.Phases.{Aim, Alone, Follows, Base, ProtectAt, Ending, Outcome, Goes, Ends, Turn, goes, ends}
use Rattle.inv_rows.specs.model.Phases.ProtectAt.{LoadClock, PublishEra, LoadLink, CheckClock, PublishRequest, LoadOwnClock, PublishHelper, LoadOwnLink, CheckOwnClock, AnswerOwn, LoadAnswer, TakeAnswer, WithdrawRequest, WithdrawHelper, LoadWithin, CheckUpper, RaiseUpper, ByHazard}
use Rattle.inv_rows.specs.model.Phases.HazardAt.{FirstLink, PublishLink, CheckLink}
use Rattle.inv_rows.specs.words.Packed.{read_request}
use Rattle.inv_rows.specs.model.SlowPath.{own_request, answer_in, lost_turn}
use Rattle.inv_rows.specs.model.Phases.Base.{Begin, Protect, Reload, Clear, Finish, Release, Allocate, Write, GiveUp, Retire, Move}
use Rattle.inv_rows.specs.model.Phases.Ending.{Done, Protected, Followed, Allocated, Retired, Clocked}
use Rattle.inv_rows.specs.model.Protect.{held_post, told_held, failed_once, trying, concluded, protected}
use Rattle.inv_rows.specs.model.Memory.{bump}
use Rattle.inv_rows.specs.model.WriteRow.{last_written}
use Rattle.inv_rows.specs.model.declared.ends.FollowEnd.TheVariants as follow_ends
use Rattle.inv_rows.specs.defs.declared.call.Answer.{Answer}
use Rattle.inv_rows.specs.model.Calls.{Next, Task, Gets, Changes, Holds, Enqueues, Dequeues, AfterScan, Answered, Repeated, Counted, ScanAt, ReadGuard, GiveBack, Why, Opens, FollowsHead, Fills, ClearsNext, Clears, Finishes, GivesUp, Retires, Tidies, Advances, Releases, LetGo, KeepAt, Keeping, Phase, Idle, Runs, Scans, Works}
use Rattle.inv_rows.specs.model.Machine.{after, protect_turn}
use Rattle.inv_rows.specs.model.Rounds.{index_of}
use Rattle.inv_rows.specs.model.Scan.{Entry, scanned, giving_back, reading, unmet_from, with_kept, with_read, with_back, reads_guard, scan_turn}
use Rattle.inv_rows.specs.model.Steps.{resumed, phase_turn}
use Rattle.inv_rows.specs.Hands.{runs_right, task_fills}
use Rattle.inv_rows.specs.Shapes.Seats.{Run}
use Rattle.inv_rows.specs.Shapes.Slots.{KeepIn}
use Rattle.inv_rows.specs.Covering.Rests.{spare, bare, beside, within, deep, vacant_later, has_taken, base_taken, vacant_opening, vacant_why, vacant, vacant_filled, vacant_after, Vacant, vacant_let}
use Rattle.inv_rows.proofs.Covering.Rests.{Turned, round_vacant, work_vacant, resume_vacant, withdrawn_vacant, let_vacant, bare_beside}
use Rattle.inv_rows.proofs.Covering.Stands.{with_row_apart}
use Rattle.inv_rows.proofs.Covering.Stood.{begin_stood, allocate_stood, write_stood, retire_stood, move_stood}
use Rattle.inv_rows.proofs.model.Facts.{no_truth}
use Rattle.inv_rows.specs.words.Schemes.{publishes_rows}

-- a scan
scanned_vacant : (later : AfterScan) (post : Post) (desk : Desk) (told : List Event) → Vacant (vacant_later later) post → Turned (scanned later post desk told)
scanned_vacant (Answered answer) post desk told h = h
scanned_vacant (Repeated task) post desk told h = round_vacant task post h
scanned_vacant Counted post desk told h = h

back_vacant : (later : AfterScan) (post : Post) (desk : Desk) (told : List Event) (x : Option Entry) → Vacant (vacant_later later) post → Turned (giving_back later post desk told x)
back_vacant later post desk told None h = scanned_vacant later post (with_kept desk) told h
back_vacant later post desk told (Some entry) h = h

reading_vacant : (later : AfterScan) (n : ℕ) (post : Post) (desk : Desk) (told : List Event) (more : Bool) → Vacant (vacant_later later) post → Turned (reading later n post desk told more)
reading_vacant later n post desk told true h = h
reading_vacant later n post desk told false h = back_vacant later post desk told (unmet_from desk 0) h

scan_vacant : (later : AfterScan) (at : ScanAt) (post : Post) (desk : Desk) (found : ℕ) → Vacant (vacant_later later) post → Turned (scan_turn later at post desk found)
scan_vacant later (ReadGuard n) post desk found h =
    reading_vacant later n post (with_read desk n (guard_at post.layout.config n, published (publishes_rows post.layout.config.scheme) (guard_at post.layout.config n) found)) (reads_guard (publishes_rows post.layout.config.scheme) (guard_at post.layout.config n) found ∷ []) (nat_lt (n + 1) (guards post.layout.config)) h
scan_vacant later (GiveBack place slot) post desk found h = back_vacant later post (with_back desk place) (events.Back slot ∷ []) (unmet_from (with_back desk place) place) h

-- what a machine's step leaves
abbrev Out : Why → Post → Outcome → Type 0
Out why post (Goes base) = Vacant (vacant_why why base) post
Out why post (Ends ending) = Vacant (vacant_after why ending) post

resumed_vacant : (why : Why) (desk : Desk) (post : Post) (told : List Event) (outcome : Outcome) → Out why post outcome → Turned (resumed why desk post told outcome)
resumed_vacant why desk post told (Goes base) h = h
resumed_vacant why desk post told (Ends ending) h = resume_vacant why ending post desk told h

out_of : (why : Why) (f : ℕ → Bool) (post : Post) (outcome : Outcome) → ((base : Base) (j : ℕ) → vacant_why why base j ≡ true → f j ≡ true) → ((ending : Ending) (j : ℕ) → vacant_after why ending j ≡ true → f j ≡ true) → Vacant f post → Out why post outcome
out_of why f post (Goes base) a b h = λ j e. h j (a base j e)
out_of why f post (Ends ending) a b h = λ j e. h j (b ending j e)

none_from : (x y : Option ℕ) → ((s : ℕ) → x ≡ Some s → y ≡ Some s) → y ≡ None → x ≡ None
none_from None y f n = refl
none_from (Some s) y f n = let q = f s refl in absurd (cc)

vacant_same : (f : ℕ → Bool) (post next : Post) → ((j s : ℕ) → stands next j ≡ Some s → stands post j ≡ Some s) → Vacant f post → Vacant f next
vacant_same f post next w h j e = none_from (stands next j) (stands post j) (λ s k. w j s k) (h j e)

-- a protection that is concluded lets a row stand at its index alone
null_apart : (post : Post) (index link j s : ℕ) (null : Bool) → (j == index) ≡ false → stands (if null then post else with_row post index (link - 1)) j ≡ Some s → stands post j ≡ Some s
null_apart post index link j s true n h = h
null_apart post index link j s false n h = with_row_apart post index (link - 1) j s n h

held_apart : (post : Post) (index : ℕ) (root : Root) (link j s : ℕ) → (j == index) ≡ false → stands (held_post post index root link) j ≡ Some s → stands post j ≡ Some s
held_apart post index (roots.Bucket bucket) link j s n h = null_apart post index link j s (link == 0) n h
held_apart post index roots.Head link j s n h = null_apart post index link j s (link == 0) n h
held_apart post index roots.Tail link j s n h = null_apart post index link j s (link == 0) n h
held_apart post index (roots.Next parent) link j s n h = h

pub beside_bare : (task : Task) (j : ℕ) → beside task j ≡ true → bare task j ≡ true
beside_bare task j h = grind (arith, nat_tests)

beside_apart : (task : Task) (index j : ℕ) → index ≡ index_of task → beside task j ≡ true → (j == index) ≡ false
beside_apart task index j e h = rw e (grind (arith, nat_tests))

held_vacant : (task : Task) (index : ℕ) (root : Root) (link : ℕ) (post : Post) → index ≡ index_of task → Vacant (bare task) post → Vacant (beside task) (held_post post index root link)
held_vacant task index root link post e h j k = none_from (stands (held_post post index root link) j) (stands post j) (λ s q. held_apart post index root link j s (beside_apart task index j e k) q) (h j (beside_bare task j k))

opening_bare : (task : Task) (taken : Bool) (j : ℕ) → vacant_opening task taken j ≡ true → bare task j ≡ true
opening_bare task true j h = beside_bare task j h
opening_bare task false j h = h

-- where nothing stood before the task's row, nothing stands beside it
still_vacant : (task : Task) (taken : Bool) (post : Post) → Vacant (bare task) post → Vacant (vacant_opening task taken) post
still_vacant task taken post h j k = h j (opening_bare task taken j k)

check_vacant : (task : Task) (index : ℕ) (root : Root) (n link era : ℕ) (post : Post) (other : Base) (same : Bool) → index ≡ index_of task → Vacant (bare task) post → Out (Opens task) (if same then protected Alone index root n link era post else goes post [] other).post (if same then protected Alone index root n link era post else goes post [] other).outcome
check_vacant task index root n link era post other true e h = held_vacant task index root link post e h
check_vacant task index root n link era post other false e h = still_vacant task (base_taken other) post h

either_vacant : (task : Task) (post : Post) (one two : Base) (same : Bool) → Vacant (bare task) post → Out (Opens task) (if same then goes post [] one else goes post [] two).post (if same then goes post [] one else goes post [] two).outcome
either_vacant task post one two true h = still_vacant task (base_taken one) post h
either_vacant task post one two false h = still_vacant task (base_taken two) post h

opens_protect : (task : Task) (index : ℕ) (root : Root) (n : ℕ) (at : ProtectAt) (post : Post) (found : ℕ) → index ≡ index_of task → Vacant (vacant_opening task (has_taken at)) post
    → Out (Opens task) (protect_turn Alone index root n at post found).post (protect_turn Alone index root n at post found).outcome
opens_protect task index root n (LoadClock tries) post found e h = h
opens_protect task index root n (PublishEra era tries) post found e h = still_vacant task (has_taken (trying post.layout.config era tries)) post h
opens_protect task index root n (LoadLink era tries) post found e h = h
opens_protect task index root n (CheckClock era tries link) post found e h = check_vacant task index root n link era post (Protect Alone index root n (PublishEra found (failed_once tries))) (found == era) e h
opens_protect task index root n PublishRequest post found e h = h
opens_protect task index root n LoadOwnClock post found e h = h
opens_protect task index root n (PublishHelper first era last) post found e h = h
opens_protect task index root n (LoadOwnLink first era last) post found e h = h
opens_protect task index root n (CheckOwnClock first era last link) post found e h = either_vacant task post (Protect Alone index root n (AnswerOwn first era link)) (Protect Alone index root n (lost_turn first last found)) (found == era) h
opens_protect task index root n (AnswerOwn first era link) post found e h = either_vacant task post (Protect Alone index root n (TakeAnswer link era)) (Protect Alone index root n (answer_in (read_request found))) (found == own_request post index root) h
opens_protect task index root n (LoadAnswer first) post found e h = still_vacant task (has_taken (answer_in (read_request found))) post h
opens_protect task index root n (TakeAnswer link era) post found e h = held_vacant task index root link (with_tag post index (tag_of post index + 1)) e h
opens_protect task index root n (WithdrawRequest link era) post found e h = h
opens_protect task index root n (WithdrawHelper link era) post found e h = h
opens_protect task index root n LoadWithin post found e h = h
opens_protect task index root n (CheckUpper link) post found e h = check_vacant task index root n link found post (Protect Alone index root n (RaiseUpper found)) (found == upper post.span) e h
opens_protect task index root n (RaiseUpper era) post found e h = h
opens_protect task index root n (ByHazard FirstLink) post found e h = check_vacant task index root n found 0 post (Protect Alone index root n (ByHazard (PublishLink found))) (found == 0) e h
opens_protect task index root n (ByHazard (PublishLink link)) post found e h = h
opens_protect task index root n (ByHazard (CheckLink link)) post found e h = check_vacant task index root n found 0 post (Protect Alone index root n (ByHazard (PublishLink found))) (found == link || found == 0) e h

-- a next link is followed
deep_within : (j : ℕ) → deep j ≡ true → within j ≡ true
deep_within j h = grind (arith, nat_tests)

linked_vacant : (head tail index n link era : ℕ) (post : Post) (told : List Event) (null : Bool) → (link == 0) ≡ null → Vacant within post → Out (FollowsHead head tail) (concluded Follows index (roots.Next head) n link era post told).post (concluded Follows index (roots.Next head) n link era post told).outcome
linked_vacant head tail index n link era post told true e h = rw e (λ j k. h j (deep_within j k))
linked_vacant head tail index n link era post told false e h = rw e h

next_vacant : (head tail index n link era : ℕ) (post : Post) (other : Base) (same : Bool) → Vacant within post → Out (FollowsHead head tail) (if same then protected Follows index (roots.Next head) n link era post else goes post [] other).post (if same then protected Follows index (roots.Next head) n link era post else goes post [] other).outcome
next_vacant head tail index n link era post other true h = linked_vacant head tail index n link era post (told_held index (roots.Next head) link n) (link == 0) refl h
next_vacant head tail index n link era post other false h = h

follow_either : (head tail : ℕ) (post : Post) (one two : Base) (same : Bool) → Vacant within post → Out (FollowsHead head tail) (if same then goes post [] one else goes post [] two).post (if same then goes post [] one else goes post [] two).outcome
follow_either head tail post one two true h = h
follow_either head tail post one two false h = h

follow_protect : (head tail index n : ℕ) (at : ProtectAt) (post : Post) (found : ℕ) → Vacant within post
    → Out (FollowsHead head tail) (protect_turn Follows index (roots.Next head) n at post found).post (protect_turn Follows index (roots.Next head) n at post found).outcome
follow_protect head tail index n (LoadClock tries) post found h = h
follow_protect head tail index n (PublishEra era tries) post found h = h
follow_protect head tail index n (LoadLink era tries) post found h = h
follow_protect head tail index n (CheckClock era tries link) post found h = next_vacant head tail index n link era post (Protect Follows index (roots.Next head) n (PublishEra found (failed_once tries))) (found == era) h
follow_protect head tail index n PublishRequest post found h = h
follow_protect head tail index n LoadOwnClock post found h = h
follow_protect head tail index n (PublishHelper first era last) post found h = h
follow_protect head tail index n (LoadOwnLink first era last) post found h = h
follow_protect head tail index n (CheckOwnClock first era last link) post found h = follow_either head tail post (Protect Follows index (roots.Next head) n (AnswerOwn first era link)) (Protect Follows index (roots.Next head) n (lost_turn first last found)) (found == era) h
follow_protect head tail index n (AnswerOwn first era link) post found h = follow_either head tail post (Protect Follows index (roots.Next head) n (TakeAnswer link era)) (Protect Follows index (roots.Next head) n (answer_in (read_request found))) (found == own_request post index (roots.Next head)) h
follow_protect head tail index n (LoadAnswer first) post found h = h
follow_protect head tail index n (TakeAnswer link era) post found h = h
follow_protect head tail index n (WithdrawRequest link era) post found h = h
follow_protect head tail index n (WithdrawHelper link era) post found h = linked_vacant head tail index n link era post (reserves_helper post 0) (link == 0) refl h
follow_protect head tail index n LoadWithin post found h = h
follow_protect head tail index n (CheckUpper link) post found h = next_vacant head tail index n link found post (Protect Follows index (roots.Next head) n (RaiseUpper found)) (found == upper post.span) h
follow_protect head tail index n (RaiseUpper era) post found h = h
follow_protect head tail index n (ByHazard FirstLink) post found h = next_vacant head tail index n found 0 post (Protect Follows index (roots.Next head) n (ByHazard (PublishLink found))) (found == 0) h
follow_protect head tail index n (ByHazard (PublishLink link)) post found h = h
follow_protect head tail index n (ByHazard (CheckLink link)) post found h = next_vacant head tail index n found 0 post (Protect Follows index (roots.Next head) n (ByHazard (PublishLink found))) (found == link || found == 0) h

row_vacant : (post : Post) (slot : ℕ) → Vacant within post → Vacant deep (with_row post 1 slot)
row_vacant post slot h j k = none_from (stands (with_row post 1 slot) j) (stands post j) (λ s q. with_row_apart post 1 slot j s (grind (arith, nat_tests)) q) (h j (deep_within j k))

reload_vacant : (head tail slot : ℕ) (post : Post) (events one two : List Event) (a b : Ending) (same : Bool) → Vacant within post → (vacant_after (FollowsHead head tail) a ≡ deep) → (vacant_after (FollowsHead head tail) b ≡ deep) → Out (FollowsHead head tail) (if same then ends (with_row post 1 slot) one a else ends post two b).post (if same then ends (with_row post 1 slot) one a else ends post two b).outcome
reload_vacant head tail slot post events one two a b true h p q = rw p (row_vacant post slot h)
reload_vacant head tail slot post events one two a b false h p q = rw q (λ j k. h j (deep_within j k))

opened_bare : (task : Task) (ending : Ending) (j : ℕ) → vacant_after (Opens task) ending j ≡ true → bare task j ≡ true
opened_bare task Done j h = h
opened_bare task (Protected end) j h = beside_bare task j h
opened_bare task (Followed end) j h = h
opened_bare task (Allocated end) j h = h
opened_bare task (Retired life) j h = h
opened_bare task (Clocked clock) j h = h

-- each machine
opens_vacant : (layout : Layout) (task : Task) (base : Base) (last post : Post) (found : ℕ) → Run layout (Opens task) base last → Vacant (vacant_opening task (base_taken base)) post → Out (Opens task) (after base post found).post (after base post found).outcome
opens_vacant layout task (Begin at) last post found r h =
    out_of (Opens task) (bare task) (after (Begin at) post found).post (after (Begin at) post found).outcome (λ b j k. opening_bare task (base_taken b) j k) (λ e j k. opened_bare task e j k) (vacant_same (bare task) post (after (Begin at) post found).post (λ j s k. begin_stood at found post j s k) h)
opens_vacant layout task (Protect aim index root steps at) last post found r h =
    subst (λ (a : Aim). Out (Opens task) (protect_turn a index root (bump steps) at post found).post (protect_turn a index root (bump steps) at post found).outcome) (sym r.shape.aimed) (opens_protect task index root (bump steps) at post found r.shape.at h)
opens_vacant layout task (Reload parent index slot era steps) last post found r h = absurd (no_truth r.suited)
opens_vacant layout task (Clear rows index) last post found r h = absurd (no_truth r.suited)
opens_vacant layout task Finish last post found r h = absurd (no_truth r.suited)
opens_vacant layout task (Release index) last post found r h = absurd (no_truth r.suited)
opens_vacant layout task (Allocate at) last post found r h = absurd (no_truth r.suited)
opens_vacant layout task (Write slot row place) last post found r h = absurd (no_truth r.suited)
opens_vacant layout task (GiveUp slot) last post found r h = absurd (no_truth r.suited)
opens_vacant layout task (Retire at) last post found r h = absurd (no_truth r.suited)
opens_vacant layout task (Move at) last post found r h = absurd (no_truth r.suited)

follows_vacant : (layout : Layout) (head tail : ℕ) (base : Base) (last post : Post) (found : ℕ) → Run layout (FollowsHead head tail) base last → Vacant within post → Out (FollowsHead head tail) (after base post found).post (after base post found).outcome
follows_vacant layout head tail (Protect aim index root steps at) last post found r h =
    subst (λ (a : Aim). Out (FollowsHead head tail) (protect_turn a index root (bump steps) at post found).post (protect_turn a index root (bump steps) at post found).outcome) (sym r.shape.aimed)
    (subst (λ (x : Root). Out (FollowsHead head tail) (protect_turn Follows index x (bump steps) at post found).post (protect_turn Follows index x (bump steps) at post found).outcome) (sym r.shape.of) (follow_protect head tail index (bump steps) at post found h))
follows_vacant layout head tail (Reload parent index slot era steps) last post found r h =
    subst (λ (x : ℕ). Out (FollowsHead head tail) (after (Reload parent x slot era steps) post found).post (after (Reload parent x slot era steps) post found).outcome) (sym r.shape.at) (reload_vacant head tail slot post [] (events.Held 1 slot (bump steps) ∷ []) [] (Followed (follow_ends.Followed slot)) (Followed (follow_ends.RootMoved found)) (found == parent + 1) h refl refl)
follows_vacant layout head tail (Begin at) last post found r h = absurd (no_truth r.suited)
follows_vacant layout head tail (Clear rows index) last post found r h = absurd (no_truth r.suited)
follows_vacant layout head tail Finish last post found r h = absurd (no_truth r.suited)
follows_vacant layout head tail (Release index) last post found r h = absurd (no_truth r.suited)
follows_vacant layout head tail (Allocate at) last post found r h = absurd (no_truth r.suited)
follows_vacant layout head tail (Write slot row place) last post found r h = absurd (no_truth r.suited)
follows_vacant layout head tail (GiveUp slot) last post found r h = absurd (no_truth r.suited)
follows_vacant layout head tail (Retire at) last post found r h = absurd (no_truth r.suited)
follows_vacant layout head tail (Move at) last post found r h = absurd (no_truth r.suited)

-- a row is filled by a change or an enqueue alone
filled_within : (task : Task) (base : Base) → task_fills task base ≡ true → (j : ℕ) → vacant_filled task j ≡ true → within j ≡ true
filled_within (Gets key) base f j h = absurd (no_truth f)
filled_within (Changes kept) base f j h = h
filled_within (Holds key) base f j h = absurd (no_truth f)
filled_within (Enqueues kept) base f j h = h
filled_within Dequeues base f j h = absurd (no_truth f)

fills_vacant : (layout : Layout) (task : Task) (base : Base) (last post : Post) (found : ℕ) → Run layout (Fills task) base last → task_fills task base ≡ true → Vacant within post → Out (Fills task) (after base post found).post (after base post found).outcome
fills_vacant layout task (Begin at) last post found r t h = absurd (no_truth r.suited)
fills_vacant layout task (Protect aim index root steps at) last post found r t h = absurd (no_truth r.suited)
fills_vacant layout task (Reload parent index slot era steps) last post found r t h = absurd (no_truth r.suited)
fills_vacant layout task (Clear rows index) last post found r t h = absurd (no_truth r.suited)
fills_vacant layout task Finish last post found r t h = absurd (no_truth r.suited)
fills_vacant layout task (Release index) last post found r t h = absurd (no_truth r.suited)
fills_vacant layout task (Allocate at) last post found r t h = out_of (Fills task) within (after (Allocate at) post found).post (after (Allocate at) post found).outcome (λ b j k. k) (λ e j k. filled_within task (Allocate at) t j k) (vacant_same within post (after (Allocate at) post found).post (λ j s k. allocate_stood at found post j s k) h)
fills_vacant layout task (Write slot row place) last post found r t h = out_of (Fills task) within (after (Write slot row place) post found).post (after (Write slot row place) post found).outcome (λ b j k. k) (λ e j k. filled_within task (Write slot row place) t j k) (vacant_same within post (after (Write slot row place) post found).post (λ j s k. write_stood slot row place post j s (place == last_written row) refl k) h)
fills_vacant layout task (GiveUp slot) last post found r t h = absurd (no_truth r.suited)
fills_vacant layout task (Retire at) last post found r t h = absurd (no_truth r.suited)
fills_vacant layout task (Move at) last post found r t h = absurd (no_truth r.suited)

clears_next_vacant : (layout : Layout) (next : Next) (base : Base) (last post : Post) (found : ℕ) → Run layout (ClearsNext next) base last → Vacant deep post → Out (ClearsNext next) (after base post found).post (after base post found).outcome
clears_next_vacant layout next (Begin at) last post found r h = absurd (no_truth r.suited)
clears_next_vacant layout next (Protect aim index root steps at) last post found r h = absurd (no_truth r.suited)
clears_next_vacant layout next (Reload parent index slot era steps) last post found r h = absurd (no_truth r.suited)
clears_next_vacant layout next (Clear rows index) last post found r h = rw r.shape (withdrawn_vacant deep within post 1 (λ j n k. grind (arith, nat_tests)) h)
clears_next_vacant layout next Finish last post found r h = absurd (no_truth r.suited)
clears_next_vacant layout next (Release index) last post found r h = absurd (no_truth r.suited)
clears_next_vacant layout next (Allocate at) last post found r h = absurd (no_truth r.suited)
clears_next_vacant layout next (Write slot row place) last post found r h = absurd (no_truth r.suited)
clears_next_vacant layout next (GiveUp slot) last post found r h = absurd (no_truth r.suited)
clears_next_vacant layout next (Retire at) last post found r h = absurd (no_truth r.suited)
clears_next_vacant layout next (Move at) last post found r h = absurd (no_truth r.suited)

clears_vacant : (layout : Layout) (task : Task) (next : Next) (base : Base) (last post : Post) (found : ℕ) → Run layout (Clears task next) base last → Vacant (beside task) post → Out (Clears task next) (after base post found).post (after base post found).outcome
clears_vacant layout task next (Begin at) last post found r h = absurd (no_truth r.suited)
clears_vacant layout task next (Protect aim index root steps at) last post found r h = absurd (no_truth r.suited)
clears_vacant layout task next (Reload parent index slot era steps) last post found r h = absurd (no_truth r.suited)
clears_vacant layout task next (Clear rows index) last post found r h = rw r.shape (withdrawn_vacant (beside task) (bare task) post (index_of task) (λ j n k. bare_beside task j n k) h)
clears_vacant layout task next Finish last post found r h = absurd (no_truth r.suited)
clears_vacant layout task next (Release index) last post found r h = absurd (no_truth r.suited)
clears_vacant layout task next (Allocate at) last post found r h = absurd (no_truth r.suited)
clears_vacant layout task next (Write slot row place) last post found r h = absurd (no_truth r.suited)
clears_vacant layout task next (GiveUp slot) last post found r h = absurd (no_truth r.suited)
clears_vacant layout task next (Retire at) last post found r h = absurd (no_truth r.suited)
clears_vacant layout task next (Move at) last post found r h = absurd (no_truth r.suited)

finishes_vacant : (layout : Layout) (task : Task) (next : Next) (base : Base) (last post : Post) (found : ℕ) → Run layout (Finishes task next) base last → Vacant (bare task) post → Out (Finishes task next) (after base post found).post (after base post found).outcome
finishes_vacant layout task next (Begin at) last post found r h = absurd (no_truth r.suited)
finishes_vacant layout task next (Protect aim index root steps at) last post found r h = absurd (no_truth r.suited)
finishes_vacant layout task next (Reload parent index slot era steps) last post found r h = absurd (no_truth r.suited)
finishes_vacant layout task next (Clear rows index) last post found r h = absurd (no_truth r.suited)
finishes_vacant layout task next Finish last post found r h = h
finishes_vacant layout task next (Release index) last post found r h = absurd (no_truth r.suited)
finishes_vacant layout task next (Allocate at) last post found r h = absurd (no_truth r.suited)
finishes_vacant layout task next (Write slot row place) last post found r h = absurd (no_truth r.suited)
finishes_vacant layout task next (GiveUp slot) last post found r h = absurd (no_truth r.suited)
finishes_vacant layout task next (Retire at) last post found r h = absurd (no_truth r.suited)
finishes_vacant layout task next (Move at) last post found r h = absurd (no_truth r.suited)

gives_up_vacant : (layout : Layout) (answer : Answer) (base : Base) (last post : Post) (found : ℕ) → Run layout (GivesUp answer) base last → Vacant spare post → Out (GivesUp answer) (after base post found).post (after base post found).outcome
gives_up_vacant layout answer (Begin at) last post found r h = absurd (no_truth r.suited)
gives_up_vacant layout answer (Protect aim index root steps at) last post found r h = absurd (no_truth r.suited)
gives_up_vacant layout answer (Reload parent index slot era steps) last post found r h = absurd (no_truth r.suited)
gives_up_vacant layout answer (Clear rows index) last post found r h = absurd (no_truth r.suited)
gives_up_vacant layout answer Finish last post found r h = absurd (no_truth r.suited)
gives_up_vacant layout answer (Release index) last post found r h = absurd (no_truth r.suited)
gives_up_vacant layout answer (Allocate at) last post found r h = absurd (no_truth r.suited)
gives_up_vacant layout answer (Write slot row place) last post found r h = absurd (no_truth r.suited)
gives_up_vacant layout answer (GiveUp slot) last post found r h = h
gives_up_vacant layout answer (Retire at) last post found r h = absurd (no_truth r.suited)
gives_up_vacant layout answer (Move at) last post found r h = absurd (no_truth r.suited)

retires_vacant : (layout : Layout) (answer : Answer) (base : Base) (last post : Post) (found : ℕ) → Run layout (Retires answer) base last → Vacant spare post → Out (Retires answer) (after base post found).post (after base post found).outcome
retires_vacant layout answer (Begin at) last post found r h = absurd (no_truth r.suited)
retires_vacant layout answer (Protect aim index root steps at) last post found r h = absurd (no_truth r.suited)
retires_vacant layout answer (Reload parent index slot era steps) last post found r h = absurd (no_truth r.suited)
retires_vacant layout answer (Clear rows index) last post found r h = absurd (no_truth r.suited)
retires_vacant layout answer Finish last post found r h = absurd (no_truth r.suited)
retires_vacant layout answer (Release index) last post found r h = absurd (no_truth r.suited)
retires_vacant layout answer (Allocate at) last post found r h = absurd (no_truth r.suited)
retires_vacant layout answer (Write slot row place) last post found r h = absurd (no_truth r.suited)
retires_vacant layout answer (GiveUp slot) last post found r h = absurd (no_truth r.suited)
retires_vacant layout answer (Retire at) last post found r h = out_of (Retires answer) spare (after (Retire at) post found).post (after (Retire at) post found).outcome (λ b j k. k) (λ e j k. k) (vacant_same spare post (after (Retire at) post found).post (λ j s k. retire_stood at found post j s k) h)
retires_vacant layout answer (Move at) last post found r h = absurd (no_truth r.suited)

tidies_vacant : (layout : Layout) (later : AfterScan) (base : Base) (last post : Post) (found : ℕ) → Run layout (Tidies later) base last → Vacant (vacant_later later) post → Out (Tidies later) (after base post found).post (after base post found).outcome
tidies_vacant layout later (Begin at) last post found r h = absurd (no_truth r.suited)
tidies_vacant layout later (Protect aim index root steps at) last post found r h = absurd (no_truth r.suited)
tidies_vacant layout later (Reload parent index slot era steps) last post found r h = absurd (no_truth r.suited)
tidies_vacant layout later (Clear rows index) last post found r h = absurd (no_truth r.suited)
tidies_vacant layout later Finish last post found r h = absurd (no_truth r.suited)
tidies_vacant layout later (Release index) last post found r h = absurd (no_truth r.suited)
tidies_vacant layout later (Allocate at) last post found r h = absurd (no_truth r.suited)
tidies_vacant layout later (Write slot row place) last post found r h = absurd (no_truth r.suited)
tidies_vacant layout later (GiveUp slot) last post found r h = absurd (no_truth r.suited)
tidies_vacant layout later (Retire at) last post found r h = absurd (no_truth r.suited)
tidies_vacant layout later (Move at) last post found r h = out_of (Tidies later) (vacant_later later) (after (Move at) post found).post (after (Move at) post found).outcome (λ b j k. k) (λ e j k. k) (vacant_same (vacant_later later) post (after (Move at) post found).post (λ j s k. move_stood at found post j s k) h)

advances_vacant : (layout : Layout) (base : Base) (last post : Post) (found : ℕ) → Run layout Advances base last → Vacant spare post → Out Advances (after base post found).post (after base post found).outcome
advances_vacant layout (Begin at) last post found r h = absurd (no_truth r.suited)
advances_vacant layout (Protect aim index root steps at) last post found r h = absurd (no_truth r.suited)
advances_vacant layout (Reload parent index slot era steps) last post found r h = absurd (no_truth r.suited)
advances_vacant layout (Clear rows index) last post found r h = absurd (no_truth r.suited)
advances_vacant layout Finish last post found r h = absurd (no_truth r.suited)
advances_vacant layout (Release index) last post found r h = absurd (no_truth r.suited)
advances_vacant layout (Allocate at) last post found r h = absurd (no_truth r.suited)
advances_vacant layout (Write slot row place) last post found r h = absurd (no_truth r.suited)
advances_vacant layout (GiveUp slot) last post found r h = absurd (no_truth r.suited)
advances_vacant layout (Retire at) last post found r h = absurd (no_truth r.suited)
advances_vacant layout (Move at) last post found r h = out_of Advances spare (after (Move at) post found).post (after (Move at) post found).outcome (λ b j k. k) (λ e j k. k) (vacant_same spare post (after (Move at) post found).post (λ j s k. move_stood at found post j s k) h)

releases_vacant : (layout : Layout) (let_go : LetGo) (base : Base) (last post : Post) (found : ℕ) → Run layout (Releases let_go) base last → Vacant (vacant_let let_go) post → Out (Releases let_go) (after base post found).post (after base post found).outcome
releases_vacant layout let_go (Begin at) last post found r h = absurd (no_truth r.suited)
releases_vacant layout let_go (Protect aim index root steps at) last post found r h = absurd (no_truth r.suited)
releases_vacant layout let_go (Reload parent index slot era steps) last post found r h = absurd (no_truth r.suited)
releases_vacant layout let_go (Clear rows index) last post found r h = rw r.shape (let_vacant let_go post h)
releases_vacant layout let_go Finish last post found r h = absurd (no_truth r.suited)
releases_vacant layout let_go (Release index) last post found r h = rw r.shape (let_vacant let_go post h)
releases_vacant layout let_go (Allocate at) last post found r h = absurd (no_truth r.suited)
releases_vacant layout let_go (Write slot row place) last post found r h = absurd (no_truth r.suited)
releases_vacant layout let_go (GiveUp slot) last post found r h = absurd (no_truth r.suited)
releases_vacant layout let_go (Retire at) last post found r h = absurd (no_truth r.suited)
releases_vacant layout let_go (Move at) last post found r h = absurd (no_truth r.suited)

run_vacant : (layout : Layout) (why : Why) (base : Base) (last post : Post) (found : ℕ) → Run layout why base last → runs_right why base ≡ true → Vacant (vacant_why why base) post → Out why (after base post found).post (after base post found).outcome
run_vacant layout (Opens task) base last post found r t h = opens_vacant layout task base last post found r h
run_vacant layout (FollowsHead head tail) base last post found r t h = follows_vacant layout head tail base last post found r h
run_vacant layout (Fills task) base last post found r t h = fills_vacant layout task base last post found r t h
run_vacant layout (ClearsNext next) base last post found r t h = clears_next_vacant layout next base last post found r h
run_vacant layout (Clears task next) base last post found r t h = clears_vacant layout task next base last post found r h
run_vacant layout (Finishes task next) base last post found r t h = finishes_vacant layout task next base last post found r h
run_vacant layout (GivesUp answer) base last post found r t h = gives_up_vacant layout answer base last post found r h
run_vacant layout (Retires answer) base last post found r t h = retires_vacant layout answer base last post found r h
run_vacant layout (Tidies later) base last post found r t h = tidies_vacant layout later base last post found r h
run_vacant layout Advances base last post found r t h = advances_vacant layout base last post found r h
run_vacant layout (Releases let_go) base last post found r t h = releases_vacant layout let_go base last post found r h

pub turn_vacant : (layout : Layout) (phase : Phase) (last post : Post) (desk : Desk) (found : ℕ) → ((why : Why) (base : Base) → phase ≡ Runs why base → Run layout why base last) → ((why : Why) (base : Base) → phase ≡ Runs why base → runs_right why base ≡ true) → ((at : KeepAt) → phase ≡ Works (Keeping at) → KeepIn layout.config at) → Vacant (vacant phase) post → Turned (phase_turn phase post desk found)
turn_vacant layout Idle last post desk found r t c h = h
turn_vacant layout (Runs why base) last post desk found r t c h =
    let u : Turn = after base post found in resumed_vacant why desk u.post u.told u.outcome (run_vacant layout why base last post found (r why base refl) (t why base refl) h)
turn_vacant layout (Scans later at) last post desk found r t c h = scan_vacant later at post desk found h
turn_vacant layout (Works work) last post desk found r t c h = work_vacant layout.config work post desk found (λ at e. c at (ap Works e)) h
