-- The end of a round, and what comes after it: the call works on no row, and tells no more than that rows stand no more.
use Rattle.std.proofs.Common.{ℕ, ◌≡◌, ◌+◌, ◌%◌, ◌&&◌, Bool, true, false, refl, ◌∙◌, sym, List, [], ◌∷◌, ◌++◌}
use Rattle.std.proofs.lemmas.List.{append-nil, append_assoc}
use Rattle.std.specs.Prelude.{◌==◌, nat_lt, Option, Some, None, drop}
use Rattle.inv_ends.specs.model.words.Schemes.{has_one_interval, moves, publishes_rows}
use Rattle.inv_ends.specs.model.defs.declared.call.Answer.{Answer}
use Rattle.inv_ends.specs.model.defs.declared.call.Call.{Call}
use Rattle.inv_ends.specs.model.defs.declared.call.Call.TheVariants as names
use Rattle.inv_ends.specs.model.defs.declared.event.Event.TheVariants as events
use Rattle.inv_ends.specs.model.defs.declared.event.Event.{Event}
use Rattle.inv_ends.specs.model.defs.declared.event.Guard.{Guard}
use Rattle.inv_ends.specs.model.defs.declared.lifetime.Interval.{Interval}
use Rattle.inv_ends.specs.model.words.declared.config.SchemeKind.{SchemeKind}
use Rattle.inv_ends.specs.model.declared.post.Post.{Post}
use Rattle.inv_ends.specs.model.Desks.{Desk, with_life}
use Rattle.inv_ends.specs.model.Posts.{stands, standing_from, cleared}
use Rattle.inv_ends.specs.model.Phases.{Base, Ending}
use Rattle.inv_ends.specs.model.Phases.Ending.{Done, Protected, Followed, Allocated, Retired, Clocked}
use Rattle.inv_ends.specs.model.Guards as the_guards
use Rattle.inv_ends.specs.model.Rounds.{scheme_of, taken_of, round, round_by, begin_base, finish_base, clear_base, clear_post, clear_told, index_of, closed, given_up, finishing, finishing_by, clearing, clearing_by, clearing_next, clearing_next_by, let_index, letting_by, letting, release_base, tidy_by}
use Rattle.inv_ends.specs.model.Keep as keeps
use Rattle.inv_ends.specs.model.Scan as scan
use Rattle.inv_ends.specs.model.Steps as steps
use Rattle.inv_ends.specs.model.Calls.{Task, Gets, Changes, Holds, Enqueues, Dequeues, Next, Again, MakeRoom, Answering, Retiring, AfterScan, Answered, Repeated, Counted, Why, Opens, FollowsHead, Fills, ClearsNext, Clears, Finishes, GivesUp, Retires, Tidies, Advances, Releases, ScanAt, ReadGuard, GiveBack, Phase, Idle, Runs, Scans, Works, CallTurn, LetGo, Released, Rehold, Dropped, Parting, KeepAt, Looks, FindVersion, Work, Keeping}
use Rattle.inv_ends.specs.shapes.Frame.{phase_left}
use Rattle.inv_all.specs.Contents.Stands.{Stood}
use Rattle.inv_all.proofs.Contents.Contents.Rounds.{task_plain}
use Rattle.inv_ends.proofs.model.Facts.{first_of, rest_of, both, if_by}
use Rattle.inv_ends.proofs.model.Schemes.{each_clear_told}

abbrev pub why_free : Why → Bool
why_free (Opens task) = true
why_free (FollowsHead head tail) = false
why_free (Fills task) = task_plain task
why_free why = true

abbrev pub keep_free : KeepAt → Bool
keep_free (Looks index key at) = false
keep_free at = true

abbrev pub work_free : Work → Bool
work_free (Keeping at) = keep_free at
work_free work = false

-- the call works on no row
abbrev pub is_free : Phase → Bool
is_free Idle = true
is_free (Runs why base) = why_free why
is_free (Scans later at) = true
is_free (Works work) = work_free work

task_stood : (task : Task) (base : Base) (post : Post) → task_plain task ≡ true → Stood (Runs (Fills task) base) post
task_stood (Gets key) base post h = record { reads = λ s e. cc; queue = λ s e. cc; nexts = λ s e. cc }
task_stood (Changes kept) base post h = absurd (cc)
task_stood (Holds key) base post h = record { reads = λ s e. cc; queue = λ s e. cc; nexts = λ s e. cc }
task_stood (Enqueues kept) base post h = absurd (cc)
task_stood Dequeues base post h = record { reads = λ s e. cc; queue = λ s e. cc; nexts = λ s e. cc }

keep_stood : (at : KeepAt) (post : Post) → keep_free at ≡ true → Stood (Works (Keeping at)) post
keep_stood (Looks index key at) post h = absurd (cc)
keep_stood at post h = record { reads = λ s e. cc; queue = λ s e. cc; nexts = λ s e. cc }

pub free_stood : (phase : Phase) (post : Post) → is_free phase ≡ true → Stood phase post
free_stood Idle post h = record { reads = λ s e. cc; queue = λ s e. cc; nexts = λ s e. cc }
free_stood (Runs (Opens task) base) post h = record { reads = λ s e. cc; queue = λ s e. cc; nexts = λ s e. cc }
free_stood (Runs (FollowsHead head tail) base) post h = absurd (cc)
free_stood (Runs (Fills task) base) post h = task_stood task base post h
free_stood (Runs (ClearsNext next) base) post h = record { reads = λ s e. cc; queue = λ s e. cc; nexts = λ s e. cc }
free_stood (Runs (Clears task next) base) post h = record { reads = λ s e. cc; queue = λ s e. cc; nexts = λ s e. cc }
free_stood (Runs (Finishes task next) base) post h = record { reads = λ s e. cc; queue = λ s e. cc; nexts = λ s e. cc }
free_stood (Runs (GivesUp answer) base) post h = record { reads = λ s e. cc; queue = λ s e. cc; nexts = λ s e. cc }
free_stood (Runs (Retires answer) base) post h = record { reads = λ s e. cc; queue = λ s e. cc; nexts = λ s e. cc }
free_stood (Runs (Tidies later) base) post h = record { reads = λ s e. cc; queue = λ s e. cc; nexts = λ s e. cc }
free_stood (Runs Advances base) post h = record { reads = λ s e. cc; queue = λ s e. cc; nexts = λ s e. cc }
free_stood (Runs (Releases let_go) base) post h = record { reads = λ s e. cc; queue = λ s e. cc; nexts = λ s e. cc }
free_stood (Scans later at) post h = record { reads = λ s e. cc; queue = λ s e. cc; nexts = λ s e. cc }
free_stood (Works (Keeping at)) post h = keep_stood at post h
free_stood (Works work) post h = absurd (cc)

-- a row stands no more
abbrev pub is_clear : Event → Bool
is_clear (events.Clear index slot) = true
is_clear event = false

abbrev pub all_clear : List Event → Bool
all_clear [] = true
all_clear (event ∷ told) = is_clear event && all_clear told

clear_append : (a b : List Event) → all_clear a ≡ true → all_clear b ≡ true → all_clear (a ++ b) ≡ true
clear_append [] b h k = k
clear_append (event ∷ a) b h k = both (is_clear event) (all_clear (a ++ b)) (first_of (is_clear event) (all_clear a) h) (clear_append a b (rest_of (is_clear event) (all_clear a) h) k)

-- a turn tells these events first, then only that rows stand no more, and leaves a phase that works on no row
pub record Adds (told : List Event) (t : CallTurn) : Type 0 where
  pub more : List Event
  pub adds : t.told ≡ told ++ more
  pub clear : all_clear more ≡ true
  pub free : is_free (phase_left t.outcome) ≡ true

pub adds_none : (told : List Event) (t : CallTurn) → t.told ≡ told → is_free (phase_left t.outcome) ≡ true → Adds told t
adds_none told t e h = record { more = []; adds = e ∙ sym (append-nil told); clear = refl; free = h }

adds_first : (told first : List Event) (t : CallTurn) → all_clear first ≡ true → Adds (told ++ first) t → Adds told t
adds_first told first t h a = record {
  more = first ++ a.more;
  adds = a.adds ∙ append_assoc told first a.more;
  clear = clear_append first a.more h a.clear;
  free = a.free;
}

-- what a turn leaves
abbrev pub TurnStood : CallTurn → Type 0
TurnStood t = Stood (phase_left t.outcome) t.post

pub adds_stood : (told : List Event) (t : CallTurn) → Adds told t → TurnStood t
adds_stood told t a = free_stood (phase_left t.outcome) t.post a.free

round_by_free : (task : Task) (post : Post) (x : Option Base) → is_free (round_by task post x) ≡ true
round_by_free task post None = refl
round_by_free task post (Some base) = refl

pub round_free : (task : Task) (post : Post) → is_free (round task post) ≡ true
round_free task post = round_by_free task post (begin_base (scheme_of post) post)

-- a list is tidied
tidy_free : (later : AfterScan) (moving : Bool) (post : Post) → is_free (tidy_by moving later post) ≡ true
tidy_free later true post = refl
tidy_free later false post = refl

given_up_adds : (answer : Answer) (post : Post) (desk : Desk) (told : List Event) (x : Option ℕ) → Adds told (given_up answer post desk told x)
given_up_adds answer post desk told None = adds_none told (given_up answer post desk told None) refl refl
given_up_adds answer post desk told (Some slot) = adds_none told (given_up answer post desk told (Some slot)) refl refl

pub closed_adds : (task : Task) (next : Next) (post : Post) (desk : Desk) (told : List Event) → Adds told (closed task next post desk told)
closed_adds task Again post desk told = adds_none told (closed task Again post desk told) refl (round_free task post)
closed_adds task MakeRoom post desk told = adds_none told (closed task MakeRoom post desk told) refl (tidy_free (Repeated task) (moves (scheme_of post)) post)
closed_adds task (Answering answer) post desk told = given_up_adds answer post desk told (taken_of task)
closed_adds task (Retiring slot answer) post desk told = adds_none told (closed task (Retiring slot answer) post desk told) refl refl

finishing_by_adds : (task : Task) (next : Next) (post : Post) (desk : Desk) (told : List Event) (x : Option Base) → Adds told (finishing_by task next post desk told x)
finishing_by_adds task next post desk told None = closed_adds task next post desk told
finishing_by_adds task next post desk told (Some base) = adds_none told (finishing_by task next post desk told (Some base)) refl refl

pub finishing_adds : (task : Task) (next : Next) (post : Post) (desk : Desk) (told : List Event) → Adds told (finishing task next post desk told)
finishing_adds task Again post desk told = closed_adds task Again post desk told
finishing_adds task MakeRoom post desk told = finishing_by_adds task MakeRoom post desk told (finish_base (scheme_of post) post)
finishing_adds task (Answering answer) post desk told = finishing_by_adds task (Answering answer) post desk told (finish_base (scheme_of post) post)
finishing_adds task (Retiring slot answer) post desk told = finishing_by_adds task (Retiring slot answer) post desk told (finish_base (scheme_of post) post)

pub cleared_clear : (index : ℕ) (x : Option ℕ) → all_clear (cleared index x) ≡ true
cleared_clear index None = refl
cleared_clear index (Some slot) = refl

clear_told_clear : (scheme : SchemeKind) (post : Post) (index : ℕ) → all_clear (clear_told scheme post index) ≡ true
clear_told_clear scheme post index = each_clear_told scheme post index (λ (events : List Event). all_clear events ≡ true) refl (cleared_clear index (stands post index))

clearing_by_adds : (task : Task) (next : Next) (post : Post) (desk : Desk) (told : List Event) (x : Option Base) → Adds told (clearing_by task next post desk told x)
clearing_by_adds task next post desk told None =
    adds_first told (clear_told (scheme_of post) post (index_of task)) (clearing_by task next post desk told None) (clear_told_clear (scheme_of post) post (index_of task)) (finishing_adds task next (clear_post (scheme_of post) post (index_of task)) desk (told ++ clear_told (scheme_of post) post (index_of task)))
clearing_by_adds task next post desk told (Some base) = adds_none told (clearing_by task next post desk told (Some base)) refl refl

pub clearing_adds : (task : Task) (next : Next) (post : Post) (desk : Desk) (told : List Event) → Adds told (clearing task next post desk told)
clearing_adds task next post desk told = clearing_by_adds task next post desk told (clear_base (scheme_of post) (index_of task))

clearing_next_by_adds : (next : Next) (post : Post) (desk : Desk) (told : List Event) (x : Option Base) → Adds told (clearing_next_by next post desk told x)
clearing_next_by_adds next post desk told None =
    adds_first told (clear_told (scheme_of post) post 1) (clearing_next_by next post desk told None) (clear_told_clear (scheme_of post) post 1) (clearing_adds Dequeues next (clear_post (scheme_of post) post 1) desk (told ++ clear_told (scheme_of post) post 1))
clearing_next_by_adds next post desk told (Some base) = adds_none told (clearing_next_by next post desk told (Some base)) refl refl

pub clearing_next_adds : (next : Next) (post : Post) (desk : Desk) (told : List Event) → Adds told (clearing_next next post desk told)
clearing_next_adds next post desk told = clearing_next_by_adds next post desk told (clear_base (scheme_of post) 1)

-- a scan

scanned_adds : (later : AfterScan) (post : Post) (desk : Desk) (told : List Event) → Adds told (scan.scanned later post desk told)
scanned_adds (Answered answer) post desk told = adds_none told (scan.scanned (Answered answer) post desk told) refl refl
scanned_adds (Repeated task) post desk told = adds_none told (scan.scanned (Repeated task) post desk told) refl (round_free task post)
scanned_adds Counted post desk told = adds_none told (scan.scanned Counted post desk told) refl refl

giving_back_adds : (later : AfterScan) (post : Post) (desk : Desk) (told : List Event) (x : Option scan.Entry) → Adds told (scan.giving_back later post desk told x)
giving_back_adds later post desk told None = scanned_adds later post (scan.with_kept desk) told
giving_back_adds later post desk told (Some entry) = adds_none told (scan.giving_back later post desk told (Some entry)) refl refl

reading_adds : (later : AfterScan) (number : ℕ) (post : Post) (desk : Desk) (told : List Event) (more : Bool) → Adds told (scan.reading later number post desk told more)
reading_adds later number post desk told true = adds_none told (scan.reading later number post desk told true) refl refl
reading_adds later number post desk told false = giving_back_adds later post desk told (scan.unmet_from desk 0)

-- what a scan's step tells besides
abbrev pub scan_told : ScanAt → Post → ℕ → List Event
scan_told (ReadGuard number) post found =
    scan.reads_guard (publishes_rows (scheme_of post)) (the_guards.guard_at post.layout.config number) found ∷ []
scan_told (GiveBack place slot) post found = events.Back slot ∷ []

read_guard_adds : (later : AfterScan) (number : ℕ) (post : Post) (desk : Desk) (rows : Bool) (guard : Guard) (word : ℕ) → Adds (scan.reads_guard rows guard word ∷ []) (scan.read_guard later number post desk rows guard word)
read_guard_adds later number post desk rows guard word =
    reading_adds later number post (scan.with_read desk number (guard, the_guards.published rows guard word)) (scan.reads_guard rows guard word ∷ []) (nat_lt (number + 1) (the_guards.guards post.layout.config))

pub scan_adds : (later : AfterScan) (at : ScanAt) (post : Post) (desk : Desk) (found : ℕ) → Adds (scan_told at post found) (scan.scan_turn later at post desk found)
scan_adds later (ReadGuard number) post desk found =
    read_guard_adds later number post desk (publishes_rows (scheme_of post)) (the_guards.guard_at post.layout.config number) found
scan_adds later (GiveBack place slot) post desk found =
    giving_back_adds later post (scan.with_back desk place) (events.Back slot ∷ []) (scan.unmet_from (scan.with_back desk place) place)

-- after a retirement, a move of the clock, and a release

tidying_adds : (answer : Answer) (post : Post) (desk : Desk) (told : List Event) (due : Bool) → Adds told (steps.tidying answer post desk told due)
tidying_adds answer post desk told true = adds_none told (steps.tidying answer post desk told true) refl (tidy_free (Answered answer) (moves (scheme_of post)) post)
tidying_adds answer post desk told false = adds_none told (steps.tidying answer post desk told false) refl refl

retired_adds : (answer : Answer) (ending : Ending) (post : Post) (desk : Desk) (told : List Event) → Adds told (steps.retired_by answer ending post desk told)
retired_adds answer (Retired life) post desk told = tidying_adds answer post (with_life desk life) told (post.retired % post.layout.config.every == 0)
retired_adds answer Done post desk told = adds_none told (steps.retired_by answer Done post desk told) refl refl
retired_adds answer (Protected end) post desk told = adds_none told (steps.retired_by answer (Protected end) post desk told) refl refl
retired_adds answer (Followed end) post desk told = adds_none told (steps.retired_by answer (Followed end) post desk told) refl refl
retired_adds answer (Allocated end) post desk told = adds_none told (steps.retired_by answer (Allocated end) post desk told) refl refl
retired_adds answer (Clocked clock) post desk told = adds_none told (steps.retired_by answer (Clocked clock) post desk told) refl refl

tidied_adds : (later : AfterScan) (ending : Ending) (post : Post) (desk : Desk) (told : List Event) → Adds told (steps.tidied later ending post desk told)
tidied_adds later (Clocked clock) post desk told = adds_none told (steps.tidied later (Clocked clock) post desk told) refl refl
tidied_adds later Done post desk told = adds_none told (steps.tidied later Done post desk told) refl refl
tidied_adds later (Protected end) post desk told = adds_none told (steps.tidied later (Protected end) post desk told) refl refl
tidied_adds later (Followed end) post desk told = adds_none told (steps.tidied later (Followed end) post desk told) refl refl
tidied_adds later (Allocated end) post desk told = adds_none told (steps.tidied later (Allocated end) post desk told) refl refl
tidied_adds later (Retired life) post desk told = adds_none told (steps.tidied later (Retired life) post desk told) refl refl

advanced_adds : (ending : Ending) (post : Post) (desk : Desk) (told : List Event) → Adds told (steps.advanced ending post desk told)
advanced_adds (Clocked clock) post desk told = adds_none told (steps.advanced (Clocked clock) post desk told) refl refl
advanced_adds Done post desk told = adds_none told (steps.advanced Done post desk told) refl refl
advanced_adds (Protected end) post desk told = adds_none told (steps.advanced (Protected end) post desk told) refl refl
advanced_adds (Followed end) post desk told = adds_none told (steps.advanced (Followed end) post desk told) refl refl
advanced_adds (Allocated end) post desk told = adds_none told (steps.advanced (Allocated end) post desk told) refl refl
advanced_adds (Retired life) post desk told = adds_none told (steps.advanced (Retired life) post desk told) refl refl

-- a seat that leaves works on no row
parting_by_free : (rows : Bool) (x : Option ℕ) → is_free (keeps.parting_index rows x) ≡ true
parting_by_free rows None = refl
parting_by_free rows (Some index) = refl

pub parting_from_free : (index : ℕ) (post : Post) → is_free (keeps.parting_from index post) ≡ true
parting_from_free index post = parting_by_free (publishes_rows (scheme_of post)) (standing_from index (drop index post.standing))

parting_span_free : (x : Option Interval) → is_free (keeps.parting_span x) ≡ true
parting_span_free None = refl
parting_span_free (Some span) = refl

parting_free : (post : Post) → is_free (keeps.parting post) ≡ true
parting_free post = if_by (has_one_interval (scheme_of post)) (keeps.parting_span post.span) (keeps.parting_from 2 post) (λ phase. is_free phase ≡ true) (λ e. parting_span_free post.span) (λ e. parting_from_free 2 post)

pub released_adds : (let_go : LetGo) (post : Post) (desk : Desk) (told : List Event) → Adds told (keeps.released let_go post desk told)
released_adds Released post desk told = adds_none told (keeps.released Released post desk told) refl refl
released_adds (Rehold key) post desk told = adds_none told (keeps.released (Rehold key) post desk told) refl (round_free (Holds key) post)
released_adds (Dropped index) post desk told = adds_none told (keeps.released (Dropped index) post desk told) refl refl
released_adds (Parting index) post desk told = adds_none told (keeps.released (Parting index) post desk told) refl (parting_from_free (index + 1) post)

-- a machine that is run for no row
abbrev pub why_ends : Why → Bool
why_ends (Opens task) = false
why_ends (FollowsHead head tail) = false
why_ends (Fills task) = false
why_ends why = true

pub ends_free : (why : Why) → why_ends why ≡ true → why_free why ≡ true
ends_free (Opens task) h = absurd (cc)
ends_free (FollowsHead head tail) h = absurd (cc)
ends_free (Fills task) h = absurd (cc)
ends_free why h = refl

pub resume_adds : (why : Why) (ending : Ending) (post : Post) (desk : Desk) (told : List Event) → why_ends why ≡ true → Adds told (steps.resume why ending post desk told)
resume_adds (Opens task) ending post desk told h = absurd (cc)
resume_adds (FollowsHead head tail) ending post desk told h = absurd (cc)
resume_adds (Fills task) ending post desk told h = absurd (cc)
resume_adds (ClearsNext next) ending post desk told h = clearing_adds Dequeues next post desk told
resume_adds (Clears task next) ending post desk told h = finishing_adds task next post desk told
resume_adds (Finishes task next) ending post desk told h = closed_adds task next post desk told
resume_adds (GivesUp answer) ending post desk told h = adds_none told (steps.resume (GivesUp answer) ending post desk told) refl refl
resume_adds (Retires answer) ending post desk told h = retired_adds answer ending post desk told
resume_adds (Tidies later) ending post desk told h = tidied_adds later ending post desk told
resume_adds Advances ending post desk told h = advanced_adds ending post desk told
resume_adds (Releases let_go) ending post desk told h = released_adds let_go post desk told

-- a call's first phase

letting_by_free : (let_go : LetGo) (base : Option Base) → is_free (letting_by let_go base) ≡ true
letting_by_free let_go None = refl
letting_by_free let_go (Some base) = refl

letting_free : (let_go : LetGo) (post : Post) → is_free (letting let_go post) ≡ true
letting_free let_go post = letting_by_free let_go (release_base (scheme_of post) post (let_index let_go))

holding_free : (key : ℕ) (post : Post) (held : Option ℕ) → is_free (steps.holding key post held) ≡ true
holding_free key post None = round_free (Holds key) post
holding_free key post (Some slot) = letting_free (Rehold key) post

copying_free : (from index : ℕ) (kept : Option ℕ) → is_free (steps.copying from index kept) ≡ true
copying_free from index None = refl
copying_free from index (Some slot) = refl

-- a first phase works on no row, but for that of a look at what stands
pub each_first : (call : Call) (post : Post) (P : Phase → Type 0)
    → ((phase : Phase) → is_free phase ≡ true → P phase)
    → ((index key slot : ℕ) → call ≡ names.Look index key → stands post index ≡ Some slot → P (Works (Keeping (Looks index key (FindVersion slot)))))
    → P (steps.first_phase call post)
each_first (names.Get key) post P f g = f _ (round_free (Gets key) post)
each_first (names.Put key value) post P f g = f _ (round_free (Changes _) post)
each_first (names.Remove key) post P f g = f _ (round_free (Changes _) post)
each_first (names.Enqueue value) post P f g = f _ (round_free (Enqueues _) post)
each_first names.Dequeue post P f g = f _ (round_free Dequeues post)
each_first (names.Hold key) post P f g = f _ (holding_free key post (stands post 2))
each_first names.Release post P f g = f _ (letting_free Released post)
each_first names.Advance post P f g = f _ refl
each_first names.Scan post P f g = f _ refl
each_first (names.Copy from index) post P f g = f _ (copying_free from index (stands post from))
each_first (names.DropIndex index) post P f g = f _ (letting_free (Dropped index) post)
each_first (names.Look index key) post P f g = look (stands post index) refl
  where
    look : (kept : Option ℕ) → stands post index ≡ kept → P (steps.looking_at index key kept)
    look None e = f _ refl
    look (Some slot) e = g index key slot refl e
each_first (names.PutIf key value version) post P f g = f _ (round_free (Changes _) post)
each_first names.Leave post P f g = f _ (parting_free post)
each_first (names.Adopt place) post P f g = f _ refl
