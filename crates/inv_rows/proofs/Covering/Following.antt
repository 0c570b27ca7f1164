-- The row whose next link is followed stands at index 0, under Hazard Eras and 2GE.
use Rattle.std.proofs.Common.{ℕ, ◌+◌, ◌-◌, ◌≡◌, sym, subst, true, false, refl, Bool, Option, Some, None, List, [], ◌∷◌, ◌<◌, length, ◌∙◌, ap, drop}
use Rattle.std.specs.Prelude.{◌==◌, ◌||◌, if◌then◌else◌, nat_lt}
use Rattle.inv_rows.specs.words.declared.config.SchemeKind.{SchemeKind}
use Rattle.inv_rows.specs.words.declared.layout.Layout.{Layout}
use Rattle.inv_rows.specs.defs.declared.event.Event.{Event}
use Rattle.inv_rows.specs.defs.declared.event.Event.TheVariants as events
use Rattle.inv_rows.specs.defs.declared.event.Root.{Root}
use Rattle.inv_rows.specs.defs.declared.event.Root.TheVariants as roots
use Rattle.inv_rows.specs.model.declared.post.Post.{Post}
use Rattle.inv_rows.specs.model.Desks.{Desk, noting}
use Rattle.inv_rows.specs.model.Guards.{guards, guard_at, published}
use Rattle.inv_rows.specs.model.Posts.{stands, withdrawn, upper, with_row, counted, standing_from}
use Rattle.inv_rows.specs.model.Phases.BeginAt.{LoadLower, PublishSpan}
use Rattle.inv_rows.specs.model.Phases.{BeginAt, Aim, Alone, Follows, Base, ProtectAt, Ending, Outcome, Goes, Ends, Turn, goes, ends}
use Rattle.inv_rows.specs.model.Phases.ProtectAt.{LoadClock, PublishEra, LoadLink, CheckClock, LoadWithin, CheckUpper, RaiseUpper, ByHazard}
use Rattle.inv_rows.specs.model.Phases.HazardAt.{FirstLink, PublishLink, CheckLink}
use Rattle.inv_rows.specs.model.Phases.Base.{Begin, Protect, Reload, Clear, Finish, Release, Allocate, Write, GiveUp, Retire, Move}
use Rattle.inv_rows.specs.model.Phases.Ending.{Protected, Followed}
use Rattle.inv_rows.specs.model.Protect.{protect_end, held_post, told_held, failed_once, concluded, protected}
use Rattle.inv_rows.specs.model.Memory.{bump}
use Rattle.inv_rows.specs.model.declared.ends.FollowEnd.TheVariants as follow_ends
use Rattle.inv_rows.specs.model.Machine.{after, protect_turn}
use Rattle.inv_rows.specs.model.Rounds.{scheme_of, index_of, kept_row, release_span, let_index, letting_by, letting}
use Rattle.inv_rows.specs.model.Scan.{Entry, scanned, giving_back, reading, unmet_from, with_kept, with_read, with_back, reads_guard, scan_turn}
use Rattle.inv_rows.specs.model.Steps.{resumed, phase_turn, holding, copying, looking_at, first_phase}
use Rattle.inv_rows.specs.model.Calls.{Task, Gets, Changes, Holds, Enqueues, Dequeues, AfterScan, Answered, Repeated, Counted, ScanAt, ReadGuard, GiveBack, Why, Opens, FollowsHead, Fills, ClearsNext, Clears, Finishes, GivesUp, Retires, Tidies, Advances, Releases, LetGo, Released, Rehold, Dropped, Phase, Idle, Runs, Scans, Works, CallTurn, CallOutcome, GoesOn, Answers}
use Rattle.inv_rows.specs.Shapes.Seats.{task_root, root_by, protect_fits, Run}
use Rattle.inv_rows.specs.words.Schemes.{helps, has_one_interval, publishes_rows}
use Rattle.inv_rows.specs.model.declared.ends.ProtectEnd.TheVariants as protect_ends
use Rattle.inv_rows.specs.model.Locals.{Local, turn, settled, settled_by, told_by, rounds_told, begun, begun_post}
use Rattle.inv_rows.specs.model.Locals as locals
use Rattle.inv_rows.specs.Shapes.Frame.{phase_left}
use Rattle.inv_rows.specs.defs.declared.call.Call.{Call}
use Rattle.inv_rows.specs.defs.declared.call.Call.TheVariants as names
use Rattle.inv_rows.specs.model.World.{finds, offered}
use Rattle.inv_rows.specs.Covering.Held.{follows_root, follows_row}
use Rattle.inv_rows.specs.Covering.Parents.{has_parent_why, Parent, ParentsStart, ParentsBegin, ParentsKept, ParentsGive}
use Rattle.inv_rows.proofs.Covering.Parents.{Tended, stood_task, stood_why, round_tends, work_tends, resume_tends, parting_tends}
use Rattle.inv_rows.proofs.model.Standing.{stands-with_row_same}
use Rattle.inv_rows.proofs.model.Facts.{no_truth, if_by}
use Rattle.inv_rows.proofs.model.Schemes.{each_release}
use Rattle.inv_rows.specs.model.Keep.{parting, parting_from, parting_span}
use Rattle.inv_rows.specs.defs.declared.lifetime.Interval.{Interval}

-- a scan follows no link
scanned_tends : (later : AfterScan) (post : Post) (desk : Desk) (told : List Event) → Tended (scanned later post desk told)
scanned_tends (Answered answer) post desk told = λ row h. absurd (cc)
scanned_tends (Repeated task) post desk told = round_tends task post
scanned_tends Counted post desk told = λ row h. absurd (cc)

back_tends : (later : AfterScan) (post : Post) (desk : Desk) (told : List Event) (x : Option Entry) → Tended (giving_back later post desk told x)
back_tends later post desk told None = scanned_tends later post (with_kept desk) told
back_tends later post desk told (Some entry) = λ row h. absurd (cc)

reading_tends : (later : AfterScan) (n : ℕ) (post : Post) (desk : Desk) (told : List Event) (more : Bool) → Tended (reading later n post desk told more)
reading_tends later n post desk told true = λ row h. absurd (cc)
reading_tends later n post desk told false = back_tends later post desk told (unmet_from desk 0)

scan_tends : (later : AfterScan) (at : ScanAt) (post : Post) (desk : Desk) (found : ℕ) → Tended (scan_turn later at post desk found)
scan_tends later (ReadGuard n) post desk found =
    reading_tends later n post (with_read desk n (guard_at post.layout.config n, published (publishes_rows post.layout.config.scheme) (guard_at post.layout.config n) found)) (reads_guard (publishes_rows post.layout.config.scheme) (guard_at post.layout.config n) found ∷ []) (nat_lt (n + 1) (guards post.layout.config))
scan_tends later (GiveBack place slot) post desk found = back_tends later post (with_back desk place) (events.Back slot ∷ []) (unmet_from (with_back desk place) place)

-- what a machine's step leaves
abbrev Gives : Why → Post → Outcome → Type 0
Gives why post (Goes base) = Parent (Runs why base) post
Gives why post (Ends ending) = stood_why why ending post

resumed_tends : (why : Why) (desk : Desk) (post : Post) (told : List Event) (outcome : Outcome) → Gives why post outcome → Tended (resumed why desk post told outcome)
resumed_tends why desk post told (Goes base) h = h
resumed_tends why desk post told (Ends ending) h = resume_tends why ending post desk told h

-- what asks for nothing
other_gives : (why : Why) (post : Post) (outcome : Outcome) → ((row : ℕ) → has_parent_why why row ≡ false) → ((ending : Ending) → stood_why why ending post) → Gives why post outcome
other_gives why post (Goes base) n s = λ row h. let k = n row in absurd (cc)
other_gives why post (Ends ending) n s = s ending

-- a dequeue's head is protected
head_stands : (post : Post) (index link n era : ℕ) (null : Bool) → (link == 0) ≡ null → 0 < length post.standing → index ≡ 0 → stood_task Dequeues (Protected (if null then protect_ends.Null else protect_ends.Held (link - 1) era)) (if null then post else with_row post index (link - 1))
head_stands post index link n era true e b i = tt
head_stands post index link n era false e b i = rw i (stands-with_row_same post 0 (link - 1) b)

task_stands : (task : Task) (post next : Post) (link era : ℕ) (null : Bool) → (task ≡ Dequeues → stood_task task (Protected (if null then protect_ends.Null else protect_ends.Held (link - 1) era)) next) → stood_task task (Protected (if null then protect_ends.Null else protect_ends.Held (link - 1) era)) next
task_stands task post next link era true h = tt
task_stands (Gets key) post next link era false h = tt
task_stands (Changes kept) post next link era false h = tt
task_stands (Holds key) post next link era false h = tt
task_stands (Enqueues kept) post next link era false h = tt
task_stands Dequeues post next link era false h = h refl

-- index and root of a task
record Aims (buckets : ℕ) (task : Task) (index : ℕ) (root : Root) : Type 0 where
  at : index ≡ index_of task
  of : root ≡ task_root buckets task

held_stands : (buckets : ℕ) (task : Task) (index : ℕ) (root : Root) (link n era : ℕ) (post : Post) → 0 < length post.standing → Aims buckets task index root → task ≡ Dequeues → stood_task task (Protected (protect_end link era)) (held_post post index root link)
held_stands buckets task index root link n era post b a q =
    let i : index ≡ 0 = a.at ∙ ap index_of q in
    let r : root ≡ roots.Head = a.of ∙ ap (task_root buckets) q in
    subst (λ (t : Task). stood_task t (Protected (protect_end link era)) (held_post post index root link)) (sym q) (subst (λ (x : Root). stood_task Dequeues (Protected (protect_end link era)) (held_post post index x link)) (sym r) (head_stands post index link n era (link == 0) refl b i))

concluded_gives : (buckets : ℕ) (task : Task) (index : ℕ) (root : Root) (n link era : ℕ) (post : Post) (other : Base) (same : Bool) → 0 < length post.standing → Aims buckets task index root → Gives (Opens task) (if same then protected Alone index root n link era post else goes post [] other).post (if same then protected Alone index root n link era post else goes post [] other).outcome
concluded_gives buckets task index root n link era post other true b a = task_stands task post (held_post post index root link) link era (link == 0) (λ q. held_stands buckets task index root link n era post b a q)
concluded_gives buckets task index root n link era post other false b a = λ row h. absurd (cc)

opens_gives : (buckets : ℕ) (task : Task) (scheme : SchemeKind) (most index : ℕ) (root : Root) (n : ℕ) (at : ProtectAt) (post : Post) (found : ℕ) → helps scheme ≡ false → protect_fits scheme most at ≡ true → 0 < length post.standing → Aims buckets task index root
    → Gives (Opens task) (protect_turn Alone index root n at post found).post (protect_turn Alone index root n at post found).outcome
opens_gives buckets task scheme most index root n (LoadClock tries) post found w f b a = λ row h. absurd (cc)
opens_gives buckets task scheme most index root n (PublishEra era tries) post found w f b a = λ row h. absurd (cc)
opens_gives buckets task scheme most index root n (LoadLink era tries) post found w f b a = λ row h. absurd (cc)
opens_gives buckets task scheme most index root n (CheckClock era tries link) post found w f b a = concluded_gives buckets task index root n link era post (Protect Alone index root n (PublishEra found (failed_once tries))) (found == era) b a
opens_gives buckets task scheme most index root n LoadWithin post found w f b a = λ row h. absurd (cc)
opens_gives buckets task scheme most index root n (CheckUpper link) post found w f b a = concluded_gives buckets task index root n link found post (Protect Alone index root n (RaiseUpper found)) (found == upper post.span) b a
opens_gives buckets task scheme most index root n (RaiseUpper era) post found w f b a = λ row h. absurd (cc)
opens_gives buckets task scheme most index root n (ByHazard FirstLink) post found w f b a = concluded_gives buckets task index root n found 0 post (Protect Alone index root n (ByHazard (PublishLink found))) (found == 0) b a
opens_gives buckets task scheme most index root n (ByHazard (PublishLink link)) post found w f b a = λ row h. absurd (cc)
opens_gives buckets task scheme most index root n (ByHazard (CheckLink link)) post found w f b a = concluded_gives buckets task index root n found 0 post (Protect Alone index root n (ByHazard (PublishLink found))) (found == link || found == 0) b a
opens_gives buckets task scheme most index root n at post found w f b a = absurd (cc)

-- a follow goes on, and the head stands
linked_gives : (head tail index n link era : ℕ) (post : Post) (told : List Event) (null : Bool) → (link == 0) ≡ null → Parent (Runs (FollowsHead head tail) Finish) post → Gives (FollowsHead head tail) (concluded Follows index (roots.Next head) n link era post told).post (concluded Follows index (roots.Next head) n link era post told).outcome
linked_gives head tail index n link era post told true e h = rw e tt
linked_gives head tail index n link era post told false e h = rw e h

next_gives : (head tail index n link era : ℕ) (post : Post) (other : Base) (same : Bool) → Parent (Runs (FollowsHead head tail) Finish) post → Gives (FollowsHead head tail) (if same then protected Follows index (roots.Next head) n link era post else goes post [] other).post (if same then protected Follows index (roots.Next head) n link era post else goes post [] other).outcome
next_gives head tail index n link era post other true h = linked_gives head tail index n link era post (told_held index (roots.Next head) link n) (link == 0) refl h
next_gives head tail index n link era post other false h = h

follow_gives : (head tail : ℕ) (scheme : SchemeKind) (most index n : ℕ) (at : ProtectAt) (post : Post) (found : ℕ) → helps scheme ≡ false → protect_fits scheme most at ≡ true → Parent (Runs (FollowsHead head tail) Finish) post
    → Gives (FollowsHead head tail) (protect_turn Follows index (roots.Next head) n at post found).post (protect_turn Follows index (roots.Next head) n at post found).outcome
follow_gives head tail scheme most index n (LoadClock tries) post found w f h = h
follow_gives head tail scheme most index n (PublishEra era tries) post found w f h = h
follow_gives head tail scheme most index n (LoadLink era tries) post found w f h = h
follow_gives head tail scheme most index n (CheckClock era tries link) post found w f h = next_gives head tail index n link era post (Protect Follows index (roots.Next head) n (PublishEra found (failed_once tries))) (found == era) h
follow_gives head tail scheme most index n LoadWithin post found w f h = h
follow_gives head tail scheme most index n (CheckUpper link) post found w f h = next_gives head tail index n link found post (Protect Follows index (roots.Next head) n (RaiseUpper found)) (found == upper post.span) h
follow_gives head tail scheme most index n (RaiseUpper era) post found w f h = h
follow_gives head tail scheme most index n (ByHazard FirstLink) post found w f h = next_gives head tail index n found 0 post (Protect Follows index (roots.Next head) n (ByHazard (PublishLink found))) (found == 0) h
follow_gives head tail scheme most index n (ByHazard (PublishLink link)) post found w f h = h
follow_gives head tail scheme most index n (ByHazard (CheckLink link)) post found w f h = next_gives head tail index n found 0 post (Protect Follows index (roots.Next head) n (ByHazard (PublishLink found))) (found == link || found == 0) h
follow_gives head tail scheme most index n at post found w f h = absurd (cc)

ends_gives : (head tail : ℕ) (one two : Turn) (same : Bool) → Gives (FollowsHead head tail) one.post one.outcome → Gives (FollowsHead head tail) two.post two.outcome → Gives (FollowsHead head tail) (if same then one else two).post (if same then one else two).outcome
ends_gives head tail one two true a b = a
ends_gives head tail one two false a b = b

begin_gives : (task : Task) (at : BeginAt) (post : Post) (found : ℕ) → Gives (Opens task) (after (Begin at) post found).post (after (Begin at) post found).outcome
begin_gives task LoadLower post found = λ row h. absurd (cc)
begin_gives task (PublishSpan era) post found = tt

run_gives : (layout : Layout) (why : Why) (base : Base) (last post : Post) (found : ℕ) → helps layout.config.scheme ≡ false → Run layout why base last → 0 < length post.standing → Parent (Runs why Finish) post → Gives why (after base post found).post (after base post found).outcome
run_gives layout (Opens task) (Begin at) last post found w r l h = begin_gives task at post found
run_gives layout (Opens task) (Protect aim index root steps at) last post found w r l h = subst (λ (a : Aim). Gives (Opens task) (protect_turn a index root (bump steps) at post found).post (protect_turn a index root (bump steps) at post found).outcome) (sym r.shape.aimed) (opens_gives layout.config.buckets task layout.config.scheme layout.config.tries index root (bump steps) at post found w r.fits l (record { at = r.shape.at; of = r.shape.of }))
run_gives layout (Opens task) (Reload parent index slot era steps) last post found w r l h = absurd (no_truth r.suited)
run_gives layout (Opens task) (Clear rows index) last post found w r l h = absurd (no_truth r.suited)
run_gives layout (Opens task) Finish last post found w r l h = absurd (no_truth r.suited)
run_gives layout (Opens task) (Release index) last post found w r l h = absurd (no_truth r.suited)
run_gives layout (Opens task) (Allocate at) last post found w r l h = absurd (no_truth r.suited)
run_gives layout (Opens task) (Write slot row place) last post found w r l h = absurd (no_truth r.suited)
run_gives layout (Opens task) (GiveUp slot) last post found w r l h = absurd (no_truth r.suited)
run_gives layout (Opens task) (Retire at) last post found w r l h = absurd (no_truth r.suited)
run_gives layout (Opens task) (Move at) last post found w r l h = absurd (no_truth r.suited)
run_gives layout (FollowsHead head tail) (Begin at) last post found w r l h = absurd (no_truth r.suited)
run_gives layout (FollowsHead head tail) (Protect aim index root steps at) last post found w r l h = subst (λ (a : Aim). Gives (FollowsHead head tail) (protect_turn a index root (bump steps) at post found).post (protect_turn a index root (bump steps) at post found).outcome) (sym r.shape.aimed) (subst (λ (x : Root). Gives (FollowsHead head tail) (protect_turn Follows index x (bump steps) at post found).post (protect_turn Follows index x (bump steps) at post found).outcome) (sym r.shape.of) (follow_gives head tail layout.config.scheme layout.config.tries index (bump steps) at post found w r.fits h))
run_gives layout (FollowsHead head tail) (Reload parent index slot era steps) last post found w r l h = ends_gives head tail (ends (with_row post index slot) (events.Held index slot (bump steps) ∷ []) (Followed (follow_ends.Followed slot))) (ends post [] (Followed (follow_ends.RootMoved found))) (found == parent + 1) tt tt
run_gives layout (FollowsHead head tail) (Clear rows index) last post found w r l h = absurd (no_truth r.suited)
run_gives layout (FollowsHead head tail) Finish last post found w r l h = absurd (no_truth r.suited)
run_gives layout (FollowsHead head tail) (Release index) last post found w r l h = absurd (no_truth r.suited)
run_gives layout (FollowsHead head tail) (Allocate at) last post found w r l h = absurd (no_truth r.suited)
run_gives layout (FollowsHead head tail) (Write slot row place) last post found w r l h = absurd (no_truth r.suited)
run_gives layout (FollowsHead head tail) (GiveUp slot) last post found w r l h = absurd (no_truth r.suited)
run_gives layout (FollowsHead head tail) (Retire at) last post found w r l h = absurd (no_truth r.suited)
run_gives layout (FollowsHead head tail) (Move at) last post found w r l h = absurd (no_truth r.suited)
run_gives layout (Fills task) base last post found w r l h = other_gives (Fills task) (after base post found).post (after base post found).outcome (λ row. refl) (λ e. tt)
run_gives layout (ClearsNext next) base last post found w r l h = other_gives (ClearsNext next) (after base post found).post (after base post found).outcome (λ row. refl) (λ e. tt)
run_gives layout (Clears task next) base last post found w r l h = other_gives (Clears task next) (after base post found).post (after base post found).outcome (λ row. refl) (λ e. tt)
run_gives layout (Finishes task next) base last post found w r l h = other_gives (Finishes task next) (after base post found).post (after base post found).outcome (λ row. refl) (λ e. tt)
run_gives layout (GivesUp answer) base last post found w r l h = other_gives (GivesUp answer) (after base post found).post (after base post found).outcome (λ row. refl) (λ e. tt)
run_gives layout (Retires answer) base last post found w r l h = other_gives (Retires answer) (after base post found).post (after base post found).outcome (λ row. refl) (λ e. tt)
run_gives layout (Tidies later) base last post found w r l h = other_gives (Tidies later) (after base post found).post (after base post found).outcome (λ row. refl) (λ e. tt)
run_gives layout Advances base last post found w r l h = other_gives Advances (after base post found).post (after base post found).outcome (λ row. refl) (λ e. tt)
run_gives layout (Releases key) base last post found w r l h = other_gives (Releases key) (after base post found).post (after base post found).outcome (λ row. refl) (λ e. tt)

turn_tends : (layout : Layout) (phase : Phase) (last post : Post) (desk : Desk) (found : ℕ) → helps layout.config.scheme ≡ false → ((why : Why) (base : Base) → phase ≡ Runs why base → Run layout why base last) → 0 < length post.standing → Parent phase post → Tended (phase_turn phase post desk found)
turn_tends layout Idle last post desk found w r l h = λ row k. absurd (cc)
turn_tends layout (Runs why base) last post desk found w r l h =
    let u : Turn = after base post found in resumed_tends why desk u.post u.told u.outcome (run_gives layout why base last post found w (r why base refl) l h)
turn_tends layout (Scans later at) last post desk found w r l h = scan_tends later at post desk found
turn_tends layout (Works work) last post desk found w r l h = work_tends work post desk found h

-- of whole Worlds
abbrev ParentIn : Local → Type 0
ParentIn l = Parent l.phase l.post

settled_by_tends : (l : Local) (post : Post) (desk : Desk) (rounds : ℕ) (outcome : CallOutcome) → Parent (phase_left outcome) post → ParentIn (settled_by l post desk rounds outcome)
settled_by_tends l post desk rounds (GoesOn phase) h = h
settled_by_tends l post desk rounds (Answers answer) h = h

settled_tends : (l : Local) (t : CallTurn) → Tended t → ParentIn (settled l t)
settled_tends l t h = settled_by_tends l t.post (noting t.desk (told_by t)) (rounds_told (publishes_rows (scheme_of t.post)) l.rounds (told_by t)) t.outcome h

parent_pick : (old new : Local) (same : Bool) → ParentIn old → ParentIn new → ParentIn (if same then new else old)
parent_pick old new true a b = b
parent_pick old new false a b = a

pub parents_kept : ParentsKept
parents_kept w i f n r = record {
  stand = λ k. parent_pick (w.seat k) (locals.after (offered w i) (finds w i)) (k == i) (r.stand k) (settled_tends (offered w i) (turn (offered w i) (finds w i)) (turn_tends w.layout (w.seat i).phase (w.seat i).post (counted (w.seat i).post) (offered w i).desk (finds w i) f (n.shape i) n.room (r.stand i)));
}

pub parents_start : ParentsStart
parents_start layout = record { stand = λ k row h. absurd (cc) }

let_span_tends : (let_go : LetGo) (post : Post) (x : Option ℕ) → Parent (letting_by let_go (release_span (let_index let_go) x)) post
let_span_tends let_go post None = λ row h. absurd (cc)
let_span_tends let_go post (Some slot) = λ row h. absurd (cc)

letting_tends : (let_go : LetGo) (post : Post) → Parent (letting let_go post) post
letting_tends let_go post =
    each_release (scheme_of post) post (let_index let_go) (λ (x : Option Base). Parent (letting_by let_go x) post)
    (λ row h. absurd (cc))
    (let_span_tends let_go post (kept_row (withdrawn post (let_index let_go))))

copying_tends : (from index : ℕ) (post : Post) (x : Option ℕ) → Parent (copying from index x) post
copying_tends from index post None = λ row h. absurd (cc)
copying_tends from index post (Some slot) = λ row h. absurd (cc)

looking_tends : (index key : ℕ) (post : Post) (x : Option ℕ) → Parent (looking_at index key x) post
looking_tends index key post None = λ row h. absurd (cc)
looking_tends index key post (Some slot) = λ row h. absurd (cc)

holding_tends : (key : ℕ) (post next : Post) (x : Option ℕ) → Parent (holding key post x) post
holding_tends key post next None = round_tends (Holds key) post
holding_tends key post next (Some slot) = letting_tends (Rehold key) post

parting_span_tends : (x : Option Interval) (post : Post) → Parent (parting_span x) post
parting_span_tends None post = λ row h. absurd (cc)
parting_span_tends (Some span) post = λ row h. absurd (cc)

leaving_tends : (post : Post) → Parent (parting post) post
leaving_tends post =
    if_by (has_one_interval (scheme_of post)) (parting_span post.span) (parting_from 2 post) (λ (phase : Phase). Parent phase post)
    (λ e. parting_span_tends post.span post)
    (λ e. parting_tends (publishes_rows (scheme_of post)) (standing_from 2 (drop 2 post.standing)) post)

first_tends : (call : Call) (post : Post) → Parent (first_phase call post) post
first_tends (names.Get key) post = round_tends (Gets key) post
first_tends (names.Put key value) post = round_tends (Changes _) post
first_tends (names.Remove key) post = round_tends (Changes _) post
first_tends (names.Enqueue value) post = round_tends (Enqueues _) post
first_tends names.Dequeue post = round_tends Dequeues post
first_tends (names.Hold key) post = holding_tends key post post (stands post 2)
first_tends names.Release post = letting_tends Released post
first_tends names.Advance post = λ row h. absurd (cc)
first_tends names.Scan post = λ row h. absurd (cc)
first_tends (names.Copy from index) post = copying_tends from index post (stands post from)
first_tends (names.DropIndex index) post = letting_tends (Dropped index) post
first_tends (names.Look index key) post = looking_tends index key post (stands post index)
first_tends (names.PutIf key value version) post = round_tends (Changes _) post
first_tends names.Leave post = leaving_tends post
first_tends (names.Adopt place) post = λ row h. absurd (cc)

pub parents_begin : ParentsBegin
parents_begin w i call r = record {
  stand = λ k. parent_pick (w.seat k) (begun (w.seat i) call) (k == i) (r.stand k) (first_tends call (begun_post (w.seat i).post));
}

-- the row that is followed is the head's
root_parent : (buckets : ℕ) (why : Why) (row : ℕ) → follows_root (root_by buckets why) row ≡ true → has_parent_why why row ≡ true
root_parent buckets (Opens (Gets key)) row h = absurd (cc)
root_parent buckets (Opens (Changes kept)) row h = absurd (cc)
root_parent buckets (Opens (Holds key)) row h = absurd (cc)
root_parent buckets (Opens (Enqueues kept)) row h = absurd (cc)
root_parent buckets (Opens Dequeues) row h = absurd (cc)
root_parent buckets (FollowsHead head tail) row h = h
root_parent buckets why row h = absurd (cc)

reload_parent : (layout : Layout) (why : Why) (parent index slot era steps : ℕ) (post : Post) (row : ℕ) → Run layout why (Reload parent index slot era steps) post → (parent == row) ≡ true → has_parent_why why row ≡ true
reload_parent layout (Opens task) parent index slot era steps post row r h = absurd (no_truth r.suited)
reload_parent layout (FollowsHead head tail) parent index slot era steps post row r h = subst (λ (p : ℕ). (p == row) ≡ true) r.shape.of h
reload_parent layout (Fills task) parent index slot era steps post row r h = absurd (no_truth r.suited)
reload_parent layout (ClearsNext next) parent index slot era steps post row r h = absurd (no_truth r.suited)
reload_parent layout (Clears task next) parent index slot era steps post row r h = absurd (no_truth r.suited)
reload_parent layout (Finishes task next) parent index slot era steps post row r h = absurd (no_truth r.suited)
reload_parent layout (GivesUp answer) parent index slot era steps post row r h = absurd (no_truth r.suited)
reload_parent layout (Retires answer) parent index slot era steps post row r h = absurd (no_truth r.suited)
reload_parent layout (Tidies later) parent index slot era steps post row r h = absurd (no_truth r.suited)
reload_parent layout Advances parent index slot era steps post row r h = absurd (no_truth r.suited)
reload_parent layout (Releases key) parent index slot era steps post row r h = absurd (no_truth r.suited)

base_parent : (layout : Layout) (why : Why) (base : Base) (post : Post) (row : ℕ) → Run layout why base post → follows_row base row ≡ true → has_parent_why why row ≡ true
base_parent layout why (Protect aim index root steps at) post row r h = root_parent layout.config.buckets why row (subst (λ (x : Root). follows_root x row ≡ true) r.shape.of h)
base_parent layout why (Reload parent index slot era steps) post row r h = reload_parent layout why parent index slot era steps post row r h
base_parent layout why base post row r h = absurd (cc)

pub parents_give : ParentsGive
parents_give w i k why base row n r e h =
    let p : Parent (Runs why base) (w.seat k).post = subst (λ (x : Phase). Parent x (w.seat k).post) e (r.stand k) in
    p row (base_parent w.layout why base (w.seat k).post row (n.shape k why base e) h)
