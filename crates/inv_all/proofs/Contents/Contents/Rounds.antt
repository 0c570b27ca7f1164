-- The end of a round, and what comes after it: events that the book does not mind, and a phase that knows nothing.
use Rattle.std.proofs.Common.{ℕ, ◌+◌, ◌≡◌, Bool, true, false, refl, ◌∙◌, sym, subst, List, [], ◌∷◌, ◌++◌}
use Rattle.std.proofs.lemmas.List.{append-nil, append_assoc}
use Rattle.std.specs.Prelude.{nat_lt, Option, Some, None}
use Rattle.inv_ends.specs.model.defs.declared.call.Answer.{Answer}
use Rattle.inv_ends.specs.model.defs.declared.call.Answer.TheVariants as the_answers
use Rattle.inv_ends.specs.model.defs.declared.event.Event.TheVariants as events
use Rattle.inv_ends.specs.model.defs.declared.event.Event.{Event}
use Rattle.inv_ends.specs.model.defs.declared.event.Guard.{Guard}
use Rattle.inv_ends.specs.model.words.declared.config.SchemeKind.{SchemeKind}
use Rattle.inv_ends.specs.model.declared.post.Post.{Post}
use Rattle.inv_ends.specs.model.Desks.{Desk}
use Rattle.inv_ends.specs.model.Posts.{stands}
use Rattle.inv_ends.specs.model.Phases.{Base}
use Rattle.inv_ends.specs.model.Guards as the_guards
use Rattle.inv_ends.specs.model.Rounds as rounds
use Rattle.inv_ends.specs.model.Rounds.{scheme_of, taken_of, round, round_by, begin_base, finish_base, clear_base, clear_post, clear_told, index_of, closed, given_up, finishing, finishing_by, clearing, clearing_by, clearing_next, clearing_next_by}
use Rattle.inv_ends.specs.model.Get as gets
use Rattle.inv_ends.specs.model.Scan as scan
use Rattle.inv_ends.specs.model.Steps as steps
use Rattle.inv_ends.specs.model.Calls.{EnqueueKept, EnqueueAt, LoadNumber, LoadNext, PassTail, ExchangeNext, ExchangeTail, Task, Gets, Changes, Holds, Enqueues, Dequeues, Next, Again, MakeRoom, Answering, Retiring, AfterScan, Answered, Repeated, Counted, Why, Opens, FollowsHead, Fills, ClearsNext, Clears, Finishes, GivesUp, Retires, Tidies, Advances, Releases, ScanAt, ReadGuard, GiveBack, Work, Getting, Changing, Enqueuing, Dequeuing, Phase, Idle, Runs, Scans, Works, CallTurn, KeepAt, Looks, Keeping}
use Rattle.inv_ends.specs.shapes.Frame.{phase_left}
use Rattle.inv_all.specs.Contents.Knows.{Ground, Knows}
use Rattle.inv_all.proofs.Contents.Contents.Told.{all_calm, calm_append, Claimed, GotFrom, calm_claimed, claimed_append}
use Rattle.inv_all.proofs.Contents.Contents.Machines.{cleared_calm}
use Rattle.inv_ends.proofs.model.Schemes.{each_clear_told}
use Rattle.inv_ends.specs.model.words.Schemes.{moves, publishes_rows}

abbrev pub task_plain : Task → Bool
task_plain (Gets key) = true
task_plain (Changes kept) = false
task_plain (Holds key) = true
task_plain (Enqueues kept) = false
task_plain Dequeues = true

abbrev pub why_plain : Why → Bool
why_plain (Opens task) = true
why_plain (FollowsHead head tail) = true
why_plain (Fills task) = task_plain task
why_plain why = true

abbrev pub enqueue_plain : EnqueueAt → Bool
enqueue_plain LoadNumber = true
enqueue_plain LoadNext = true
enqueue_plain (PassTail next) = true
enqueue_plain (ExchangeNext slot) = false
enqueue_plain (ExchangeTail slot) = true

abbrev pub keep_plain : KeepAt → Bool
keep_plain (Looks index key at) = false
keep_plain at = true

abbrev pub work_plain : Work → Bool
work_plain (Getting key at) = false
work_plain (Changing kept at) = false
work_plain (Enqueuing kept at) = enqueue_plain at
work_plain (Dequeuing at) = true
work_plain (Keeping at) = keep_plain at

-- the phase knows nothing of rows of the map
abbrev pub is_plain : Phase → Bool
is_plain Idle = true
is_plain (Runs why base) = why_plain why
is_plain (Scans later at) = true
is_plain (Works work) = work_plain work

task_knows : (g : Ground) (task : Task) (base : Base) → task_plain task ≡ true → Knows g (Runs (Fills task) base)
task_knows g (Gets key) base h = tt
task_knows g (Changes kept) base h = absurd (cc)
task_knows g (Holds key) base h = tt
task_knows g (Enqueues kept) base h = absurd (cc)
task_knows g Dequeues base h = tt

enqueue_knows : (g : Ground) (kept : EnqueueKept) (at : EnqueueAt) → enqueue_plain at ≡ true → Knows g (Works (Enqueuing kept at))
enqueue_knows g kept LoadNumber h = tt
enqueue_knows g kept LoadNext h = tt
enqueue_knows g kept (PassTail next) h = tt
enqueue_knows g kept (ExchangeNext slot) h = absurd (cc)
enqueue_knows g kept (ExchangeTail slot) h = tt

keep_knows : (g : Ground) (at : KeepAt) → keep_plain at ≡ true → Knows g (Works (Keeping at))
keep_knows g (Looks index key at) h = absurd (cc)
keep_knows g at h = tt

pub plain_knows : (g : Ground) (phase : Phase) → is_plain phase ≡ true → Knows g phase
plain_knows g Idle h = tt
plain_knows g (Runs (Opens task) base) h = tt
plain_knows g (Runs (FollowsHead head tail) base) h = tt
plain_knows g (Runs (Fills task) base) h = task_knows g task base h
plain_knows g (Runs (ClearsNext next) base) h = tt
plain_knows g (Runs (Clears task next) base) h = tt
plain_knows g (Runs (Finishes task next) base) h = tt
plain_knows g (Runs (GivesUp answer) base) h = tt
plain_knows g (Runs (Retires answer) base) h = tt
plain_knows g (Runs (Tidies later) base) h = tt
plain_knows g (Runs Advances base) h = tt
plain_knows g (Runs (Releases let_go) base) h = tt
plain_knows g (Scans later at) h = tt
plain_knows g (Works (Getting key at)) h = absurd (cc)
plain_knows g (Works (Changing kept at)) h = absurd (cc)
plain_knows g (Works (Enqueuing kept at)) h = enqueue_knows g kept at h
plain_knows g (Works (Dequeuing at)) h = tt
plain_knows g (Works (Keeping at)) h = keep_knows g at h

-- a turn tells these events first, and more that the book does not mind, and leaves a phase that knows nothing
pub record Adds (told : List Event) (t : CallTurn) : Type 0 where
  pub more : List Event
  pub adds : t.told ≡ told ++ more
  pub calm : all_calm more ≡ true
  pub plain : is_plain (phase_left t.outcome) ≡ true

pub adds_none : (told : List Event) (t : CallTurn) → t.told ≡ told → is_plain (phase_left t.outcome) ≡ true → Adds told t
adds_none told t e h = record { more = []; adds = e ∙ sym (append-nil told); calm = refl; plain = h }

pub adds_first : (told first : List Event) (t : CallTurn) → all_calm first ≡ true → Adds (told ++ first) t → Adds told t
adds_first told first t h a = record {
  more = first ++ a.more;
  adds = a.adds ∙ append_assoc told first a.more;
  calm = calm_append first a.more h a.calm;
  plain = a.plain;
}

-- the events of a turn, and what the phase that it leaves knows
pub record Turns (g : Ground) (t : CallTurn) : Type 0 where
  pub calm : Claimed g.shelf t.told
  pub knows : Knows g (phase_left t.outcome)

pub turns_adds : (g : Ground) (told : List Event) (t : CallTurn) → all_calm told ≡ true → Adds told t → Turns g t
turns_adds g told t h a = record {
  calm = subst (λ (l : List Event). Claimed g.shelf l) (sym a.adds) (claimed_append g.shelf told a.more (calm_claimed g.shelf told h) (calm_claimed g.shelf a.more a.calm));
  knows = plain_knows g (phase_left t.outcome) a.plain;
}

round_by_plain : (task : Task) (post : Post) (x : Option Base) → is_plain (round_by task post x) ≡ true
round_by_plain task post None = refl
round_by_plain task post (Some base) = refl

pub round_plain : (task : Task) (post : Post) → is_plain (round task post) ≡ true
round_plain task post = round_by_plain task post (begin_base (scheme_of post) post)

-- a list is tidied
tidy_plain : (later : AfterScan) (moving : Bool) (post : Post) → is_plain (rounds.tidy_by moving later post) ≡ true
tidy_plain later true post = refl
tidy_plain later false post = refl

given_up_adds : (answer : Answer) (post : Post) (desk : Desk) (told : List Event) (x : Option ℕ) → Adds told (given_up answer post desk told x)
given_up_adds answer post desk told None = adds_none told (given_up answer post desk told None) refl refl
given_up_adds answer post desk told (Some slot) = adds_none told (given_up answer post desk told (Some slot)) refl refl

pub closed_adds : (task : Task) (next : Next) (post : Post) (desk : Desk) (told : List Event) → Adds told (closed task next post desk told)
closed_adds task Again post desk told = adds_none told (closed task Again post desk told) refl (round_plain task post)
closed_adds task MakeRoom post desk told = adds_none told (closed task MakeRoom post desk told) refl (tidy_plain (Repeated task) (moves (scheme_of post)) post)
closed_adds task (Answering answer) post desk told = given_up_adds answer post desk told (taken_of task)
closed_adds task (Retiring slot answer) post desk told = adds_none told (closed task (Retiring slot answer) post desk told) refl refl

finishing_by_adds : (task : Task) (next : Next) (post : Post) (desk : Desk) (told : List Event) (x : Option Base) → Adds told (finishing_by task next post desk told x)
finishing_by_adds task next post desk told None = closed_adds task next post desk told
finishing_by_adds task next post desk told (Some base) = adds_none told (finishing_by task next post desk told (Some base)) refl refl

pub finishing_adds : (task : Task) (next : Next) (post : Post) (desk : Desk) (told : List Event) → Adds told (finishing task next post desk told)
finishing_adds task Again post desk told = closed_adds task Again post desk told
finishing_adds task MakeRoom post desk told = finishing_by_adds task MakeRoom post desk told (finish_base (scheme_of post) post)
finishing_adds task (Answering answer) post desk told = finishing_by_adds task (Answering answer) post desk told (finish_base (scheme_of post) post)
finishing_adds task (Retiring slot answer) post desk told = finishing_by_adds task (Retiring slot answer) post desk told (finish_base (scheme_of post) post)

clear_told_calm : (scheme : SchemeKind) (post : Post) (index : ℕ) → all_calm (clear_told scheme post index) ≡ true
clear_told_calm scheme post index = each_clear_told scheme post index (λ (events : List Event). all_calm events ≡ true) refl (cleared_calm index (stands post index))

clearing_by_adds : (task : Task) (next : Next) (post : Post) (desk : Desk) (told : List Event) (x : Option Base) → Adds told (clearing_by task next post desk told x)
clearing_by_adds task next post desk told None =
    adds_first told (clear_told (scheme_of post) post (index_of task)) (clearing_by task next post desk told None) (clear_told_calm (scheme_of post) post (index_of task)) (finishing_adds task next (clear_post (scheme_of post) post (index_of task)) desk (told ++ clear_told (scheme_of post) post (index_of task)))
clearing_by_adds task next post desk told (Some base) = adds_none told (clearing_by task next post desk told (Some base)) refl refl

pub clearing_adds : (task : Task) (next : Next) (post : Post) (desk : Desk) (told : List Event) → Adds told (clearing task next post desk told)
clearing_adds task next post desk told = clearing_by_adds task next post desk told (clear_base (scheme_of post) (index_of task))

clearing_next_by_adds : (next : Next) (post : Post) (desk : Desk) (told : List Event) (x : Option Base) → Adds told (clearing_next_by next post desk told x)
clearing_next_by_adds next post desk told None =
    adds_first told (clear_told (scheme_of post) post 1) (clearing_next_by next post desk told None) (clear_told_calm (scheme_of post) post 1) (clearing_adds Dequeues next (clear_post (scheme_of post) post 1) desk (told ++ clear_told (scheme_of post) post 1))
clearing_next_by_adds next post desk told (Some base) = adds_none told (clearing_next_by next post desk told (Some base)) refl refl

pub clearing_next_adds : (next : Next) (post : Post) (desk : Desk) (told : List Event) → Adds told (clearing_next next post desk told)
clearing_next_adds next post desk told = clearing_next_by_adds next post desk told (clear_base (scheme_of post) 1)

-- a get tells the value
pub got_turns : (g : Ground) (key version : ℕ) (value : Option ℕ) (post : Post) (desk : Desk) (told : List Event) → all_calm told ≡ true → GotFrom g.shelf (rounds.bucket_of post key) version key value → Turns g (gets.got key version value post desk told)
got_turns g key version value post desk told h from =
    let got : List Event = events.Got (rounds.bucket_of post key) version key value ∷ [] in
    let a : Adds (told ++ got) (gets.got key version value post desk told) = clearing_adds (Gets key) (Answering (the_answers.Got version value)) post desk (told ++ got) in
    record {
      calm = subst (λ (l : List Event). Claimed g.shelf l) (sym a.adds) (claimed_append g.shelf (told ++ got) a.more (claimed_append g.shelf told got (calm_claimed g.shelf told h) (from, tt)) (calm_claimed g.shelf a.more a.calm));
      knows = plain_knows g (phase_left (gets.got key version value post desk told).outcome) a.plain;
    }

-- a scan
scanned_adds : (later : AfterScan) (post : Post) (desk : Desk) (told : List Event) → Adds told (scan.scanned later post desk told)
scanned_adds (Answered answer) post desk told = adds_none told (scan.scanned (Answered answer) post desk told) refl refl
scanned_adds (Repeated task) post desk told = adds_none told (scan.scanned (Repeated task) post desk told) refl (round_plain task post)
scanned_adds Counted post desk told = adds_none told (scan.scanned Counted post desk told) refl refl

giving_back_adds : (later : AfterScan) (post : Post) (desk : Desk) (told : List Event) (x : Option scan.Entry) → Adds told (scan.giving_back later post desk told x)
giving_back_adds later post desk told None = scanned_adds later post (scan.with_kept desk) told
giving_back_adds later post desk told (Some entry) = adds_none told (scan.giving_back later post desk told (Some entry)) refl refl

reading_adds : (later : AfterScan) (number : ℕ) (post : Post) (desk : Desk) (told : List Event) (more : Bool) → Adds told (scan.reading later number post desk told more)
reading_adds later number post desk told true = adds_none told (scan.reading later number post desk told true) refl refl
reading_adds later number post desk told false = giving_back_adds later post desk told (scan.unmet_from desk 0)

reads_calm : (rows : Bool) (guard : Guard) (word : ℕ) → all_calm (scan.reads_guard rows guard word ∷ []) ≡ true
reads_calm true guard word = refl
reads_calm false guard word = refl

read_guard_turns : (g : Ground) (later : AfterScan) (number : ℕ) (post : Post) (desk : Desk) (rows : Bool) (guard : Guard) (word : ℕ) → Turns g (scan.read_guard later number post desk rows guard word)
read_guard_turns g later number post desk rows guard word =
    turns_adds g (scan.reads_guard rows guard word ∷ []) (scan.read_guard later number post desk rows guard word) (reads_calm rows guard word) (reading_adds later number post (scan.with_read desk number (guard, the_guards.published rows guard word)) (scan.reads_guard rows guard word ∷ []) (nat_lt (number + 1) (the_guards.guards post.layout.config)))

pub scan_turns : (g : Ground) (later : AfterScan) (at : ScanAt) (post : Post) (desk : Desk) (found : ℕ) → Turns g (scan.scan_turn later at post desk found)
scan_turns g later (ReadGuard number) post desk found =
    read_guard_turns g later number post desk (publishes_rows (scheme_of post)) (the_guards.guard_at post.layout.config number) found
scan_turns g later (GiveBack place slot) post desk found =
    turns_adds g (events.Back slot ∷ []) (scan.scan_turn later (GiveBack place slot) post desk found) refl (giving_back_adds later post (scan.with_back desk place) (events.Back slot ∷ []) (scan.unmet_from (scan.with_back desk place) place))

-- after a retirement, a move of the clock, and a release
pub tidying_adds : (answer : Answer) (post : Post) (desk : Desk) (told : List Event) (due : Bool) → Adds told (steps.tidying answer post desk told due)
tidying_adds answer post desk told true = adds_none told (steps.tidying answer post desk told true) refl (tidy_plain (Answered answer) (moves (scheme_of post)) post)
tidying_adds answer post desk told false = adds_none told (steps.tidying answer post desk told false) refl refl
