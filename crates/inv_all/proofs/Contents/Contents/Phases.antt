-- One step of a seat at any phase, where it links no row.
use Rattle.std.proofs.Common.{ℕ, ◌+◌, ◌%◌, ◌≡◌, Bool, true, false, refl, sym, subst, List}
use Rattle.std.specs.Prelude.{◌==◌, nat_lt}
use Rattle.inv_ends.specs.model.words.Place.{Place}
use Rattle.inv_ends.specs.model.words.Place.Place.{Bucket}
use Rattle.inv_ends.specs.model.defs.declared.event.Root.TheVariants as roots
use Rattle.inv_ends.specs.model.defs.declared.lifetime.Lifetime.{Lifetime}
use Rattle.inv_ends.specs.model.declared.post.Post.{Post}
use Rattle.inv_ends.specs.model.Desks.{Desk}
use Rattle.inv_ends.specs.model.Machine as machine
use Rattle.inv_ends.specs.model.Machine.{base_move}
use Rattle.inv_ends.specs.model.Memory.{place_in, found, written}
use Rattle.inv_ends.specs.model.Phases.{Base, Outcome, Turn}
use Rattle.inv_ends.specs.model.Get as gets
use Rattle.inv_ends.specs.model.Change as alters
use Rattle.inv_ends.specs.model.Enqueue as enqueues
use Rattle.inv_ends.specs.model.Dequeue as dequeues
use Rattle.inv_ends.specs.model.Keep as keeps
use Rattle.inv_ends.specs.model.Scan as scan
use Rattle.inv_ends.specs.model.Steps.{run_turn, phase_move, phase_turn, work_move, work_turn}
use Rattle.inv_ends.specs.model.Calls.{ChangeKept, Task, Gets, Changes, Holds, Enqueues, Dequeues, Why, Opens, FollowsHead, Fills, ClearsNext, Clears, Finishes, GivesUp, Retires, Tidies, Advances, Releases, GetAt, FindVersion, FindCount, FindKey, FindValue, ChangeAt, LoadVersion, LoadCount, LoadKey, LoadValue, ExchangeRoot, Work, Getting, Changing, Enqueuing, Dequeuing, Phase, Idle, Runs, Scans, Works, KeepAt, Looks, Keeping, CallTurn}
use Rattle.inv_ends.specs.rows.Hands.{is_right, runs_right, task_fills}
use Rattle.inv_all.specs.Contents.Shelf.{Shelf}
use Rattle.inv_all.specs.Contents.Knows.{Ground, Knows, TaskKnows, WhyKnows, WorkKnows, KeepKnows, ChangeKnows, reads_in, changes_in, looks_in, keep_reads, work_reads}
use Rattle.inv_ends.specs.shapes.Frame.{phase_left}
use Rattle.inv_all.proofs.Contents.Contents.Told.{Claimed}
use Rattle.inv_all.proofs.Contents.Contents.Lasts.{on}
use Rattle.inv_all.proofs.Contents.Contents.Rounds.{Turns, scan_turns}
use Rattle.inv_all.proofs.Contents.Contents.Turns.{GetOwes, Shown, get_turns, look_turns, change_turns, missed_turns}
use Rattle.inv_all.proofs.Contents.Contents.Steps.{item_turns, joins, Holding, plain_turns, get_resumed, change_resumed, fill_turns, enqueue_turns, dequeue_turns, keep_turns}
use Rattle.inv_all.proofs.Contents.Contents.Machines.{base_calm}

abbrev pub change_links : ChangeKept → ChangeAt → ℕ → Bool
change_links kept (LoadVersion slot) word = false
change_links kept (LoadCount slot) word = false
change_links kept (LoadKey slot count) word = false
change_links kept (LoadValue slot count key) word = false
change_links kept (ExchangeRoot slot) word = word == kept.link

abbrev pub work_links : Work → ℕ → Bool
work_links (Getting key at) word = false
work_links (Changing kept at) word = change_links kept at word
work_links (Enqueuing kept at) word = joins at word
work_links (Dequeuing at) word = false
work_links (Keeping at) word = false

-- a step that found this word links a row
abbrev pub links_in : Phase → ℕ → Bool
links_in Idle word = false
links_in (Runs why base) word = false
links_in (Scans later at) word = false
links_in (Works work) word = work_links work word

-- what the protection of a bucket's root has shown
pub record RootsHeld (n : ℕ) (a : Shelf) (phase : Phase) (outcome : Base → Outcome) : Type 0 where
  pub gets : (key : ℕ) (base : Base) → phase ≡ Runs (Opens (Gets key)) base → Holding (outcome base) (λ s. a.root s ≡ roots.Bucket (key % n))
  pub changes : (kept : ChangeKept) (base : Base) → phase ≡ Runs (Opens (Changes kept)) base → Holding (outcome base) (λ s. a.root s ≡ roots.Bucket (changes_in (on n a (λ p. 0)) kept))

get_loads : (mem : Place → ℕ) (at : GetAt) → written mem (gets.get_move at) ≡ mem
get_loads mem (FindVersion slot) = refl
get_loads mem (FindCount slot version) = refl
get_loads mem (FindKey slot version count pair) = refl
get_loads mem (FindValue slot version pair) = refl

opens_turns : (n : ℕ) (a : Shelf) (mem : Place → ℕ) (task : Task) (base : Base) (desk : Desk) (next : Post) (word : ℕ) → RootsHeld n a (Runs (Opens task) base) (λ b. (machine.after b next word).outcome) → Turns (on n a mem) (run_turn (Opens task) desk (machine.after base next word))
opens_turns n a mem (Gets key) base desk next word r = let t : Turn = machine.after base next word in get_resumed (on n a mem) key desk t.post t.told t.outcome (base_calm base next word) (r.gets key base refl)
opens_turns n a mem (Changes kept) base desk next word r = let t : Turn = machine.after base next word in change_resumed (on n a mem) kept desk t.post t.told t.outcome (base_calm base next word) (r.changes kept base refl)
opens_turns n a mem (Holds key) base desk next word r = plain_turns (on n a mem) (Opens (Holds key)) base desk next word refl refl
opens_turns n a mem (Enqueues kept) base desk next word r = plain_turns (on n a mem) (Opens (Enqueues kept)) base desk next word refl refl
opens_turns n a mem Dequeues base desk next word r = plain_turns (on n a mem) (Opens Dequeues) base desk next word refl refl

fills_turns : (n : ℕ) (a : Shelf) (mem : Place → ℕ) (task : Task) (base : Base) (post next : Post) (desk : Desk) → task_fills task base ≡ true → TaskKnows (on n a mem) task base
    → Turns (on n a (written mem (base_move base post))) (run_turn (Fills task) desk (machine.after base next (found (base_move base post) (mem (place_in (base_move base post))))))
fills_turns n a mem (Gets key) base post next desk r h = plain_turns (on n a (written mem (base_move base post))) (Fills (Gets key)) base desk next (found (base_move base post) (mem (place_in (base_move base post)))) refl refl
fills_turns n a mem (Changes kept) base post next desk r h = fill_turns n a mem kept base post next desk r h
fills_turns n a mem (Holds key) base post next desk r h = plain_turns (on n a (written mem (base_move base post))) (Fills (Holds key)) base desk next (found (base_move base post) (mem (place_in (base_move base post)))) refl refl
fills_turns n a mem (Enqueues kept) base post next desk r h = item_turns n a mem kept base post next desk r h
fills_turns n a mem Dequeues base post next desk r h = plain_turns (on n a (written mem (base_move base post))) (Fills Dequeues) base desk next (found (base_move base post) (mem (place_in (base_move base post)))) refl refl

runs_turns : (n : ℕ) (a : Shelf) (mem : Place → ℕ) (why : Why) (base : Base) (post next : Post) (desk : Desk) → runs_right why base ≡ true → RootsHeld n a (Runs why base) (λ b. (machine.after b next (found (base_move base post) (mem (place_in (base_move base post))))).outcome) → WhyKnows (on n a mem) why base
    → Turns (on n a (written mem (base_move base post))) (run_turn why desk (machine.after base next (found (base_move base post) (mem (place_in (base_move base post))))))
runs_turns n a mem (Opens task) base post next desk y r h = opens_turns n a (written mem (base_move base post)) task base desk next (found (base_move base post) (mem (place_in (base_move base post)))) r
runs_turns n a mem (Fills task) base post next desk y r h = fills_turns n a mem task base post next desk y h
runs_turns n a mem (FollowsHead head tail) base post next desk y r h = plain_turns (on n a (written mem (base_move base post))) (FollowsHead head tail) base desk next (found (base_move base post) (mem (place_in (base_move base post)))) refl refl
runs_turns n a mem (ClearsNext later) base post next desk y r h = plain_turns (on n a (written mem (base_move base post))) (ClearsNext later) base desk next (found (base_move base post) (mem (place_in (base_move base post)))) refl refl
runs_turns n a mem (Clears task later) base post next desk y r h = plain_turns (on n a (written mem (base_move base post))) (Clears task later) base desk next (found (base_move base post) (mem (place_in (base_move base post)))) refl refl
runs_turns n a mem (Finishes task later) base post next desk y r h = plain_turns (on n a (written mem (base_move base post))) (Finishes task later) base desk next (found (base_move base post) (mem (place_in (base_move base post)))) refl refl
runs_turns n a mem (GivesUp answer) base post next desk y r h = plain_turns (on n a (written mem (base_move base post))) (GivesUp answer) base desk next (found (base_move base post) (mem (place_in (base_move base post)))) refl refl
runs_turns n a mem (Retires answer) base post next desk y r h = plain_turns (on n a (written mem (base_move base post))) (Retires answer) base desk next (found (base_move base post) (mem (place_in (base_move base post)))) refl refl
runs_turns n a mem (Tidies later) base post next desk y r h = plain_turns (on n a (written mem (base_move base post))) (Tidies later) base desk next (found (base_move base post) (mem (place_in (base_move base post)))) refl refl
runs_turns n a mem Advances base post next desk y r h = plain_turns (on n a (written mem (base_move base post))) Advances base desk next (found (base_move base post) (mem (place_in (base_move base post)))) refl refl
runs_turns n a mem (Releases let_go) base post next desk y r h = plain_turns (on n a (written mem (base_move base post))) (Releases let_go) base desk next (found (base_move base post) (mem (place_in (base_move base post)))) refl refl

no_exchange : (g : Ground) (kept : ChangeKept) (slot : ℕ) (post : Post) (desk : Desk) (same : Bool) → same ≡ false → Turns g (alters.exchanged kept slot post desk same)
no_exchange g kept slot post desk true l = absurd (cc)
no_exchange g kept slot post desk false l = missed_turns g kept slot post desk

changing_turns : (n : ℕ) (a : Shelf) (mem : Place → ℕ) (kept : ChangeKept) (at : ChangeAt) (post next : Post) (desk : Desk) → change_links kept at (found (alters.change_move kept at post) (mem (place_in (alters.change_move kept at post)))) ≡ false → Shown (λ s. kept.link == s + 1) a mem → ChangeKnows (on n a mem) kept at
    → Turns (on n a (written mem (alters.change_move kept at post))) (alters.change_turn kept at next desk (found (alters.change_move kept at post) (mem (place_in (alters.change_move kept at post)))))
changing_turns n a mem kept (LoadVersion slot) post next desk l r h = change_turns n a mem kept (LoadVersion slot) post next desk refl r h
changing_turns n a mem kept (LoadCount slot) post next desk l r h = change_turns n a mem kept (LoadCount slot) post next desk refl r h
changing_turns n a mem kept (LoadKey slot count) post next desk l r h = change_turns n a mem kept (LoadKey slot count) post next desk refl r h
changing_turns n a mem kept (LoadValue slot count key) post next desk l r h = change_turns n a mem kept (LoadValue slot count key) post next desk refl r h
changing_turns n a mem kept (ExchangeRoot slot) post next desk l r h = no_exchange (on n a (written mem (alters.change_move kept (ExchangeRoot slot) post))) kept slot next desk (mem (Bucket (alters.changed_bucket kept post)) == kept.link) l

keeps_turns : (n : ℕ) (a : Shelf) (mem : Place → ℕ) (at : KeepAt) (post next : Post) (desk : Desk) → Shown (keep_reads at) a mem → KeepKnows (on n a mem) at
    → Turns (on n a (written mem (keeps.keep_move at post))) (keeps.keep_turn at next desk (found (keeps.keep_move at post) (mem (place_in (keeps.keep_move at post)))))
keeps_turns n a mem (Looks index key at) post next desk r h =
    subst (λ (m : Place → ℕ). Turns (on n a m) (keeps.look_turn index key at next desk (found (gets.get_move at) (mem (place_in (gets.get_move at)))))) (sym (get_loads mem at)) (look_turns n a mem h.bucket index key at next desk r h.reads).turns
keeps_turns n a mem at post next desk r h = keep_turns (on n a (written mem (keeps.keep_move at post))) at next desk (found (keeps.keep_move at post) (mem (place_in (keeps.keep_move at post)))) refl

works_turns : (n : ℕ) (a : Shelf) (mem : Place → ℕ) (work : Work) (post next : Post) (desk : Desk) → work_links work (found (work_move work post) (mem (place_in (work_move work post)))) ≡ false → GetOwes n a next (work_reads work) → Shown (work_reads work) a mem → WorkKnows (on n a mem) work
    → Turns (on n a (written mem (work_move work post))) (work_turn work next desk (found (work_move work post) (mem (place_in (work_move work post)))))
works_turns n a mem (Getting key at) post next desk l o r h =
    subst (λ (m : Place → ℕ). Turns (on n a m) (gets.get_turn key at next desk (found (gets.get_move at) (mem (place_in (gets.get_move at)))))) (sym (get_loads mem at)) (get_turns n a mem key at next desk o r h)
works_turns n a mem (Changing kept at) post next desk l o r h = changing_turns n a mem kept at post next desk l r h
works_turns n a mem (Enqueuing kept at) post next desk l o r h = enqueue_turns (on n a (written mem (enqueues.enqueue_move kept at))) kept at next desk (found (enqueues.enqueue_move kept at) (mem (place_in (enqueues.enqueue_move kept at)))) l
works_turns n a mem (Dequeuing at) post next desk l o r h = dequeue_turns (on n a (written mem (dequeues.dequeue_move at))) at next desk (found (dequeues.dequeue_move at) (mem (place_in (dequeues.dequeue_move at))))
works_turns n a mem (Keeping at) post next desk l o r h = keeps_turns n a mem at post next desk r h

pub phase_turns : (n : ℕ) (a : Shelf) (mem : Place → ℕ) (phase : Phase) (post next : Post) (desk : Desk) (list : List Lifetime) → is_right phase list ≡ true → links_in phase (found (phase_move phase post) (mem (place_in (phase_move phase post)))) ≡ false
    → RootsHeld n a phase (λ b. (machine.after b next (found (phase_move phase post) (mem (place_in (phase_move phase post))))).outcome) → GetOwes n a next (reads_in phase) → Shown (reads_in phase) a mem → Knows (on n a mem) phase
    → Turns (on n a (written mem (phase_move phase post))) (phase_turn phase next desk (found (phase_move phase post) (mem (place_in (phase_move phase post)))))
phase_turns n a mem Idle post next desk list y l g o r h = record { calm = tt; knows = tt }
phase_turns n a mem (Runs why base) post next desk list y l g o r h = runs_turns n a mem why base post next desk y g h
phase_turns n a mem (Scans later at) post next desk list y l g o r h = scan_turns (on n a (written mem (scan.scan_move at post))) later at next desk (found (scan.scan_move at post) (mem (place_in (scan.scan_move at post))))
phase_turns n a mem (Works work) post next desk list y l g o r h = works_turns n a mem work post next desk l o r h

-- what is known besides looks: a look goes on, or its call has ended

pub record Beside (g : Ground) (t : CallTurn) : Type 0 where
  pub calm : Claimed g.shelf t.told
  pub knows : looks_in (phase_left t.outcome) ≡ false → Knows g (phase_left t.outcome)

looking_beside : (g : Ground) (index key slot version count : ℕ) (post : Post) (desk : Desk) (more : Bool) (pair : ℕ) → Beside g (keeps.looking index key slot version count post desk more pair)
looking_beside g index key slot version count post desk true pair = record { calm = tt; knows = λ x. absurd (cc) }
looking_beside g index key slot version count post desk false pair = record { calm = tt; knows = λ x. tt }

looked_key_beside : (g : Ground) (index key slot version count pair : ℕ) (post : Post) (desk : Desk) (own : Bool) → Beside g (keeps.looked_key index key slot version count pair post desk own)
looked_key_beside g index key slot version count pair post desk true = record { calm = tt; knows = λ x. absurd (cc) }
looked_key_beside g index key slot version count pair post desk false = looking_beside g index key slot version count post desk (nat_lt (pair + 1) count) (pair + 1)

look_beside : (g : Ground) (index key : ℕ) (at : GetAt) (post : Post) (desk : Desk) (word : ℕ) → Beside g (keeps.look_turn index key at post desk word)
look_beside g index key (FindVersion slot) post desk word = record { calm = tt; knows = λ x. absurd (cc) }
look_beside g index key (FindCount slot version) post desk word = looking_beside g index key slot version word post desk (nat_lt 0 word) 0
look_beside g index key (FindKey slot version count pair) post desk word = looked_key_beside g index key slot version count pair post desk (word == key)
look_beside g index key (FindValue slot version pair) post desk word = record { calm = tt; knows = λ x. tt }

pub phase_beside : (n : ℕ) (a : Shelf) (mem : Place → ℕ) (phase : Phase) (post next : Post) (desk : Desk) (list : List Lifetime) → is_right phase list ≡ true → links_in phase (found (phase_move phase post) (mem (place_in (phase_move phase post)))) ≡ false
    → RootsHeld n a phase (λ b. (machine.after b next (found (phase_move phase post) (mem (place_in (phase_move phase post))))).outcome) → GetOwes n a next (reads_in phase) → Shown (reads_in phase) a mem → (looks_in phase ≡ false → Knows (on n a mem) phase)
    → Beside (on n a (written mem (phase_move phase post))) (phase_turn phase next desk (found (phase_move phase post) (mem (place_in (phase_move phase post)))))
phase_beside n a mem (Works (Keeping (Looks index key at))) post next desk list y l g o r h = look_beside (on n a (written mem (gets.get_move at))) index key at next desk (found (gets.get_move at) (mem (place_in (gets.get_move at))))
phase_beside n a mem phase post next desk list y l g o r h = let t = phase_turns n a mem phase post next desk list y l g o r (h refl) in record { calm = t.calm; knows = λ x. t.knows }
