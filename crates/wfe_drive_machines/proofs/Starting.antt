-- A call that begins is under way; and where under 2GE no row is kept.
use Rattle.std.proofs.Common.{Bool, None, Option, Some, drop, false, if◌then◌else◌, refl, true, ℕ, ◌≡◌}
use Rattle.std.proofs.lemmas.Bool.{false≢true}
use Rattle.wfe_core.specs.words.Schemes.{has_one_interval, publishes_rows}
use Rattle.wfe_core.specs.words.declared.config.SchemeKind.TheVariants.{Ibr}
use Rattle.wfe_core.specs.defs.declared.call.Call.{Call}
use Rattle.wfe_core.specs.defs.declared.call.Call.TheVariants as names
use Rattle.wfe_core.specs.defs.declared.fold.Change.TheVariants as changes
use Rattle.wfe_core.specs.defs.declared.lifetime.Interval.{Interval}
use Rattle.wfe_core.specs.Calls.{Dequeues, Dropped, Enqueues, Gets, Holds, LetGo, Rehold, Released, Task}
use Rattle.wfe_core.specs.Locals.{busy_in, stays}
use Rattle.wfe_core.specs.Phases.{Base}
use Rattle.wfe_core.specs.Keep.{parting_from, parting_index, parting_span}
use Rattle.wfe_core.specs.Posts.{standing_from, stands}
use Rattle.wfe_core.specs.Rounds.{begin_base, finish_base, finish_span, kept_row, let_index, letting, letting_by, release_base, round, round_by, scheme_of}
use Rattle.wfe_core.specs.Steps.{changing, copying, first_phase, holding, looking_at}
use Rattle.wfe_core.specs.declared.post.Post.{Post}
use Rattle.wfe_drive_machines.specs.Others.{is_at_index, is_other, is_unchanged}

by_base : (task : Task) (post : Post) (base : Option Base) → busy_in (round_by task post base) ≡ true
by_base task post None = refl
by_base task post (Some base) = refl

round_busy : (task : Task) (post : Post) → busy_in (round task post) ≡ true
round_busy task post = by_base task post (begin_base (scheme_of post) post)

by_release : (let_go : LetGo) (base : Option Base) → busy_in (letting_by let_go base) ≡ true
by_release let_go None = refl
by_release let_go (Some base) = refl

letting_busy : (let_go : LetGo) (post : Post) → busy_in (letting let_go post) ≡ true
letting_busy let_go post = by_release let_go (release_base (scheme_of post) post (let_index let_go))

holding_busy : (key : ℕ) (post : Post) (held : Option ℕ) → busy_in (holding key post held) ≡ true
holding_busy key post None = round_busy (Holds key) post
holding_busy key post (Some slot) = letting_busy (Rehold key) post

copying_busy : (from index : ℕ) (held : Option ℕ) → busy_in (copying from index held) ≡ true
copying_busy from index None = refl
copying_busy from index (Some slot) = refl

looking_busy : (index key : ℕ) (held : Option ℕ) → busy_in (looking_at index key held) ≡ true
looking_busy index key None = refl
looking_busy index key (Some slot) = refl

span_parts : (span : Option Interval) → busy_in (parting_span span) ≡ true
span_parts None = refl
span_parts (Some span) = refl

index_parts : (rows : Bool) (held : Option ℕ) → busy_in (parting_index rows held) ≡ true
index_parts rows None = refl
index_parts rows (Some index) = refl

by_interval : (one : Bool) (post : Post) → busy_in (if one then parting_span post.span else parting_from 2 post) ≡ true
by_interval true post = span_parts post.span
by_interval false post = index_parts (publishes_rows (scheme_of post)) (standing_from 2 (drop 2 post.standing))

pub first_busy : (call : Call) (post : Post) → busy_in (first_phase call post) ≡ true
first_busy (names.Get key) post = round_busy (Gets key) post
first_busy (names.Put key value) post = round_busy (changing (changes.Put key value) None) post
first_busy (names.Remove key) post = round_busy (changing (changes.Removed key) None) post
first_busy (names.Enqueue value) post = round_busy (Enqueues (record { value = value; taken = None; walked = false; tail = 0; number = 0 })) post
first_busy names.Dequeue post = round_busy Dequeues post
first_busy (names.Hold key) post = holding_busy key post (stands post 2)
first_busy names.Release post = letting_busy Released post
first_busy names.Advance post = refl
first_busy names.Scan post = refl
first_busy (names.Copy from index) post = copying_busy from index (stands post from)
first_busy (names.DropIndex index) post = letting_busy (Dropped index) post
first_busy (names.Look index key) post = looking_busy index key (stands post index)
first_busy (names.PutIf key value version) post = round_busy (changing (changes.Put key value) (Some version)) post
first_busy names.Leave post = by_interval (has_one_interval (scheme_of post)) post
first_busy (names.Adopt place) post = refl

-- where an interval would end now no row is kept
span_ends : (row : Option ℕ) (base : Base) → finish_span row ≡ Some base → row ≡ None
span_ends None base e = refl
span_ends (Some slot) base e = absurd (cc)

pub ends_free : (post : Post) (base : Base) → finish_base Ibr post ≡ Some base → kept_row post ≡ None
ends_free post base e = span_ends (kept_row post) base e

-- a call that is no change, and one that is none of those that are made before
pub unchanged_by : (call : Call) → ((key value : ℕ) → call ≡ names.Put key value → ⊥) → ((key : ℕ) → call ≡ names.Remove key → ⊥) → ((key value version : ℕ) → call ≡ names.PutIf key value version → ⊥) → is_unchanged call ≡ true
unchanged_by (names.Put key value) put remove put_if = absurd (put key value refl)
unchanged_by (names.Remove key) put remove put_if = absurd (remove key refl)
unchanged_by (names.PutIf key value version) put remove put_if = absurd (put_if key value version refl)
unchanged_by _ put remove put_if = refl

pub other_by : (call : Call) → is_unchanged call ≡ true → ((key : ℕ) → call ≡ names.Get key → ⊥) → ((value : ℕ) → call ≡ names.Enqueue value → ⊥) → (call ≡ names.Dequeue → ⊥) → is_other call ≡ true
other_by (names.Get key) keeps get enqueue dequeue = absurd (get key refl)
other_by (names.Enqueue value) keeps get enqueue dequeue = absurd (enqueue value refl)
other_by names.Dequeue keeps get enqueue dequeue = absurd (dequeue refl)
other_by (names.Put key value) keeps get enqueue dequeue = keeps
other_by (names.Remove key) keeps get enqueue dequeue = keeps
other_by (names.PutIf key value version) keeps get enqueue dequeue = keeps
other_by _ keeps get enqueue dequeue = refl

-- and one that stays and is none of the first of these names an index
pub at_index_by : (call : Call) → is_other call ≡ true → stays call ≡ true → ((key : ℕ) → call ≡ names.Hold key → ⊥) → (call ≡ names.Release → ⊥) → (call ≡ names.Advance → ⊥) → (call ≡ names.Scan → ⊥) → is_at_index call ≡ true
at_index_by (names.Hold key) other there hold release advance scan = absurd (hold key refl)
at_index_by names.Release other there hold release advance scan = absurd (release refl)
at_index_by names.Advance other there hold release advance scan = absurd (advance refl)
at_index_by names.Scan other there hold release advance scan = absurd (scan refl)
at_index_by (names.Copy from index) other there hold release advance scan = refl
at_index_by (names.DropIndex index) other there hold release advance scan = refl
at_index_by (names.Look index key) other there hold release advance scan = refl
at_index_by (names.Get key) other there hold release advance scan = other
at_index_by (names.Put key value) other there hold release advance scan = other
at_index_by (names.PutIf key value version) other there hold release advance scan = other
at_index_by (names.Remove key) other there hold release advance scan = other
at_index_by (names.Enqueue value) other there hold release advance scan = other
at_index_by names.Dequeue other there hold release advance scan = other
at_index_by names.Leave other there hold release advance scan = there
at_index_by (names.Adopt place) other there hold release advance scan = there

-- and each that does is made
pub none_at_index : (call : Call) → is_at_index call ≡ true → ((from index : ℕ) → call ≡ names.Copy from index → ⊥) → ((index : ℕ) → call ≡ names.DropIndex index → ⊥) → ((index key : ℕ) → call ≡ names.Look index key → ⊥) → ⊥
none_at_index (names.Copy from index) named copy drop look = copy from index refl
none_at_index (names.DropIndex index) named copy drop look = drop index refl
none_at_index (names.Look index key) named copy drop look = look index key refl
none_at_index _ named copy drop look = absurd (false≢true named)
