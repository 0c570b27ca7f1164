-- A move of rows is of rows as they are, and most moves leave the queue's rows.
use Rattle.std.proofs.Common.{ℕ, ◌≤◌, ◌+◌, ◌-◌, ◌%◌, ◌≡◌, Bool, true, false, arith, refl, ◌∙◌, sym, List}
use Rattle.std.proofs.lemmas.Bool.Decides.{nat_tests}
use Rattle.std.specs.Prelude.{◌==◌, if◌then◌else◌}
use Rattle.wfe_core.specs.defs.declared.call.Answer.{Answer}
use Rattle.wfe_core.specs.defs.declared.lifetime.Lifetime.{Lifetime}
use Rattle.wfe_core.specs.declared.post.Post.{Post}
use Rattle.wfe_core.specs.Phases.{Base}
use Rattle.wfe_core.specs.Change as alters
use Rattle.wfe_core.specs.Calls.{Task, AfterScan, Why, Opens, FollowsHead, Fills, ClearsNext, Clears, Finishes, GivesUp, Retires, Tidies, Advances, Releases, ScanAt, ReadGuard, GiveBack, LoadVersion, LoadCount, LoadKey, LoadValue, ExchangeRoot, LoadNumber, LoadNext, PassTail, ExchangeNext, ExchangeTail, LoadTail, SwingTail, TakeNumber, TakeValue, ExchangeHead, Work, Getting, Changing, Enqueuing, Dequeuing, Phase, Idle, Runs, Scans, Works, Loosens, LoadHeld, StoreHeld, Looks, Misses, HideSpan, MarkLeft, TakeList, MarkTaken, Keeping}
use Rattle.inv_rows.specs.Hands.{is_plain, base_row, row_move, linked_row, work_row, scan_row}
use Rattle.std.specs.Int.{bit_at}
use Rattle.wfe_core.specs.words.Place.{Place, claim_word}
use Rattle.wfe_core.specs.words.Place.Place.{Bucket, Head, Claim, Row, PlaceOf}
use Rattle.wfe_core.specs.Memory as memory
use Rattle.wfe_core.specs.Memory.{place_in, written, upd}
use Rattle.wfe_core.specs.Phases.AllocateAt.{LoadBirth, ClaimSlot, StoreLife}
use Rattle.wfe_core.specs.Phases.RetireAt.{LoadLife, LoadRetire, StoreRetired}
use Rattle.wfe_core.specs.Phases.Base.{Begin, Protect, Reload, Clear, Finish, Release, Allocate, Write, GiveUp, Retire, Move}
use Rattle.wfe_core.specs.Machine.{base_move}
use Rattle.wfe_core.specs.Allocate.{is_claimed}
use Rattle.wfe_core.specs.Steps.{phase_move, work_move}
use Rattle.inv_rows.specs.Rows.{Status, View, Good, RowMove, made, passed}
use Rattle.inv_rows.specs.Queue.{in_queue, is_past}
use Rattle.inv_rows.specs.Rows.Status.{Free, Claimed, Born, Linked, InQueue, Cut, Sealed, Listed}
use Rattle.inv_rows.specs.Rows.RowMove.{Stays, Claims, Bears, Drops, Links, Replaces, Appends, Pops, Reads, Seals, Lists, Returns, Adopts}
use Rattle.inv_rows.specs.Agree.{Words, Plays, Needs, claim_of}
use Rattle.inv_rows.proofs.Lists.{Entered, stands_entered}
use Rattle.inv_rows.proofs.Runs.{only_fills, taken_slot}
use Rattle.inv_rows.specs.Chain.{queue_of, past_of}
use Rattle.inv_rows.proofs.Steps.{of_new, of_taken, of_known, of_dated, plain_row, bit_free}
use Rattle.wfe_core.proofs.Facts.{one_less_one_more, number_is, words_below, no_truth}

-- what the rows of a move are before it
abbrev pub MoveFits : ℕ → View → RowMove → Type 0
MoveFits i v Stays = Unit {0}
MoveFits i v (Claims slot) = v.status slot ≡ Free
MoveFits i v (Bears slot birth) = v.status slot ≡ Claimed i
MoveFits i v (Drops slot) = v.status slot ≡ Born i
MoveFits i v (Links bucket slot) = v.status slot ≡ Born i
MoveFits i v (Replaces bucket slot old) = (v.status slot ≡ Born i) × (v.status old ≡ Linked bucket)
MoveFits i v (Appends slot) = v.status slot ≡ Born i
MoveFits i v (Pops slot next) = v.status slot ≡ InQueue
MoveFits i v (Reads slot birth) = Unit {0}
MoveFits i v (Seals slot birth retire) = v.status slot ≡ Cut i
MoveFits i v (Lists slot birth retire) = v.status slot ≡ Sealed i retire
MoveFits i v (Returns slot) = (retire : ℕ) × (v.status slot ≡ Listed i retire)
MoveFits i v (Adopts from) = Unit {0}

claim_fits : (slots i word : ℕ) (v : View) (slot : ℕ) (shown : Bool) → is_claimed word slot ≡ shown → slot ≤ slots → bit_at word (slot % 64) ≡ claim_of slots (v.status slot) slot → MoveFits i v (if shown then Stays else Claims slot)
claim_fits slots i word v slot true e below w = tt
claim_fits slots i word v slot false e below w = bit_free slots (v.status slot) slot (bit_at word (slot % 64)) below w e

root_fits : (slots i : ℕ) (mem : Place → ℕ) (v : View) (link slot bucket : ℕ) (null : Bool) → (link == 0) ≡ null → mem (Bucket bucket) ≡ link → Good slots v → Words slots mem v → v.status slot ≡ Born i → MoveFits i v (if null then Links bucket slot else Replaces bucket slot (link - 1))
root_fits slots i mem v link slot bucket true null same g w h = h
root_fits slots i mem v link slot bucket false null same g w h = (h, g.roots bucket (link - 1) (sym (w.roots bucket) ∙ same ∙ one_less_one_more link null))

exchange_fits : (slots i : ℕ) (mem : Place → ℕ) (v : View) (link slot bucket : ℕ) (same : Bool) → (mem (Bucket bucket) == link) ≡ same → Good slots v → Words slots mem v → v.status slot ≡ Born i → MoveFits i v (if same then linked_row bucket slot link else Stays)
exchange_fits slots i mem v link slot bucket true same g w h = root_fits slots i mem v link slot bucket (link == 0) refl (number_is (mem (Bucket bucket)) link same) g w h
exchange_fits slots i mem v link slot bucket false same g w h = tt

append_fits : (i : ℕ) (v : View) (slot : ℕ) (same : Bool) → v.status slot ≡ Born i → MoveFits i v (if same then Appends slot else Stays)
append_fits i v slot true h = h
append_fits i v slot false h = tt

pop_fits : (slots i : ℕ) (mem : Place → ℕ) (v : View) (head next : ℕ) (same : Bool) → (mem Head == head + 1) ≡ same → Good slots v → Words slots mem v → MoveFits i v (if same then Pops head next else Stays)
pop_fits slots i mem v head next true same g w = g.queue head (sym w.head ∙ number_is (mem Head) (head + 1) same)
pop_fits slots i mem v head next false same g w = tt

fill_fits : (slots i : ℕ) (mem : Place → ℕ) (v : View) (task : Task) (base : Base) (post : Post) (list : List Lifetime) → Needs slots mem v (Runs (Fills task) base) → Good slots v → Words slots mem v → Plays i (Runs (Fills task) base) list v → MoveFits i v (base_row base (memory.found (base_move base post) (mem (place_in (base_move base post)))))
fill_fits slots i mem v task (Begin at) post list n g w p = tt
fill_fits slots i mem v task (Protect aim index root steps at) post list n g w p = tt
fill_fits slots i mem v task (Reload parent index slot era steps) post list n g w p = tt
fill_fits slots i mem v task (Clear rows index) post list n g w p = tt
fill_fits slots i mem v task Finish post list n g w p = tt
fill_fits slots i mem v task (Release index) post list n g w p = tt
fill_fits slots i mem v task (Allocate LoadBirth) post list n g w p = tt
fill_fits slots i mem v task (Allocate (ClaimSlot birth walk)) post list n g w p =
    let below : walk.slot ≤ slots = n.walks (Fills task) birth walk refl in
    claim_fits slots i (mem (Claim (claim_word walk.slot))) v walk.slot (is_claimed (mem (Claim (claim_word walk.slot))) walk.slot) refl below (w.claims walk.slot (words_below walk.slot slots below))
fill_fits slots i mem v task (Allocate (StoreLife birth slot)) post list n g w p = of_new slots v i slot g p.hand
fill_fits slots i mem v task (Write slot row place) post list n g w p = tt
fill_fits slots i mem v task (GiveUp slot) post list n g w p = absurd (no_truth (only_fills task (GiveUp slot) p.right))
fill_fits slots i mem v task (Retire at) post list n g w p = absurd (no_truth (only_fills task (Retire at) p.right))
fill_fits slots i mem v task (Move at) post list n g w p = tt

give_up_fits : (slots i : ℕ) (v : View) (answer : Answer) (base : Base) (found : ℕ) (list : List Lifetime) → Good slots v → Plays i (Runs (GivesUp answer) base) list v → MoveFits i v (base_row base found)
give_up_fits slots i v answer (Begin at) found list g p = tt
give_up_fits slots i v answer (Protect aim index root steps at) found list g p = tt
give_up_fits slots i v answer (Reload parent index slot era steps) found list g p = tt
give_up_fits slots i v answer (Clear rows index) found list g p = tt
give_up_fits slots i v answer Finish found list g p = tt
give_up_fits slots i v answer (Release index) found list g p = tt
give_up_fits slots i v answer (Allocate at) found list g p = absurd (no_truth p.right)
give_up_fits slots i v answer (Write slot row place) found list g p = tt
give_up_fits slots i v answer (GiveUp slot) found list g p = of_taken slots v i slot g p.hand
give_up_fits slots i v answer (Retire at) found list g p = absurd (no_truth p.right)
give_up_fits slots i v answer (Move at) found list g p = tt

retire_fits : (slots i : ℕ) (v : View) (answer : Answer) (base : Base) (found : ℕ) (list : List Lifetime) → Good slots v → Plays i (Runs (Retires answer) base) list v → MoveFits i v (base_row base found)
retire_fits slots i v answer (Begin at) found list g p = tt
retire_fits slots i v answer (Protect aim index root steps at) found list g p = tt
retire_fits slots i v answer (Reload parent index slot era steps) found list g p = tt
retire_fits slots i v answer (Clear rows index) found list g p = tt
retire_fits slots i v answer Finish found list g p = tt
retire_fits slots i v answer (Release index) found list g p = tt
retire_fits slots i v answer (Allocate at) found list g p = absurd (no_truth p.right)
retire_fits slots i v answer (Write slot row place) found list g p = tt
retire_fits slots i v answer (GiveUp slot) found list g p = absurd (no_truth p.right)
retire_fits slots i v answer (Retire (LoadLife slot)) found list g p = tt
retire_fits slots i v answer (Retire (LoadRetire slot birth)) found list g p = of_known slots v i slot birth g p.hand
retire_fits slots i v answer (Retire (StoreRetired slot birth retire)) found list g p = of_dated slots v i slot birth retire g p.hand
retire_fits slots i v answer (Move at) found list g p = tt

plain_fits : (i : ℕ) (v : View) (base : Base) (found : ℕ) → is_plain base ≡ true → MoveFits i v (base_row base found)
plain_fits i v base found h = rw (plain_row base found h) tt

run_fits : (slots i : ℕ) (mem : Place → ℕ) (v : View) (why : Why) (base : Base) (post : Post) (list : List Lifetime) → Needs slots mem v (Runs why base) → Good slots v → Words slots mem v → Plays i (Runs why base) list v → MoveFits i v (base_row base (memory.found (base_move base post) (mem (place_in (base_move base post)))))
run_fits slots i mem v (Fills task) base post list n g w p = fill_fits slots i mem v task base post list n g w p
run_fits slots i mem v (GivesUp answer) base post list n g w p = give_up_fits slots i v answer base (memory.found (base_move base post) (mem (place_in (base_move base post)))) list g p
run_fits slots i mem v (Retires answer) base post list n g w p = retire_fits slots i v answer base (memory.found (base_move base post) (mem (place_in (base_move base post)))) list g p
run_fits slots i mem v (Opens task) base post list n g w p = plain_fits i v base (memory.found (base_move base post) (mem (place_in (base_move base post)))) p.right
run_fits slots i mem v (FollowsHead head tail) base post list n g w p = plain_fits i v base (memory.found (base_move base post) (mem (place_in (base_move base post)))) p.right
run_fits slots i mem v (ClearsNext after) base post list n g w p = plain_fits i v base (memory.found (base_move base post) (mem (place_in (base_move base post)))) p.right
run_fits slots i mem v (Clears task after) base post list n g w p = plain_fits i v base (memory.found (base_move base post) (mem (place_in (base_move base post)))) p.right
run_fits slots i mem v (Finishes task after) base post list n g w p = plain_fits i v base (memory.found (base_move base post) (mem (place_in (base_move base post)))) p.right
run_fits slots i mem v (Tidies later) base post list n g w p = plain_fits i v base (memory.found (base_move base post) (mem (place_in (base_move base post)))) p.right
run_fits slots i mem v Advances base post list n g w p = plain_fits i v base (memory.found (base_move base post) (mem (place_in (base_move base post)))) p.right
run_fits slots i mem v (Releases let_go) base post list n g w p = plain_fits i v base (memory.found (base_move base post) (mem (place_in (base_move base post)))) p.right

take_fits : (i : ℕ) (v : View) (place : ℕ) (left : Bool) → MoveFits i v (if left then Adopts place else Stays)
take_fits i v place true = tt
take_fits i v place false = tt

work_fits : (slots i : ℕ) (mem : Place → ℕ) (v : View) (work : Work) (post : Post) (list : List Lifetime) → Good slots v → Words slots mem v → Plays i (Works work) list v → MoveFits i v (work_row work post (memory.found (work_move work post) (mem (place_in (work_move work post)))))
work_fits slots i mem v (Getting key at) post list g w p = tt
work_fits slots i mem v (Changing kept (LoadVersion slot)) post list g w p = tt
work_fits slots i mem v (Changing kept (LoadCount slot)) post list g w p = tt
work_fits slots i mem v (Changing kept (LoadKey slot count)) post list g w p = tt
work_fits slots i mem v (Changing kept (LoadValue slot count key)) post list g w p = tt
work_fits slots i mem v (Changing kept (ExchangeRoot slot)) post list g w p =
    exchange_fits slots i mem v kept.link slot (alters.changed_bucket kept post) (mem (Bucket (alters.changed_bucket kept post)) == kept.link) refl g w (of_taken slots v i slot g (p.hand ∙ taken_slot kept.taken slot p.right))
work_fits slots i mem v (Enqueuing kept LoadNumber) post list g w p = tt
work_fits slots i mem v (Enqueuing kept LoadNext) post list g w p = tt
work_fits slots i mem v (Enqueuing kept (PassTail next)) post list g w p = tt
work_fits slots i mem v (Enqueuing kept (ExchangeNext slot)) post list g w p =
    append_fits i v slot (mem (Row kept.tail 0) == 0) (of_taken slots v i slot g (p.hand ∙ taken_slot kept.taken slot p.right))
work_fits slots i mem v (Enqueuing kept (ExchangeTail slot)) post list g w p = tt
work_fits slots i mem v (Keeping (Loosens let_go)) post list g w p = tt
work_fits slots i mem v (Keeping (LoadHeld from index)) post list g w p = tt
work_fits slots i mem v (Keeping (StoreHeld from index era)) post list g w p = tt
work_fits slots i mem v (Keeping (Looks index key at)) post list g w p = tt
work_fits slots i mem v (Keeping (Misses index)) post list g w p = tt
work_fits slots i mem v (Keeping HideSpan) post list g w p = tt
work_fits slots i mem v (Keeping MarkLeft) post list g w p = tt
work_fits slots i mem v (Keeping (TakeList place)) post list g w p = take_fits i v place (mem (PlaceOf place) == 1)
work_fits slots i mem v (Keeping (MarkTaken place count)) post list g w p = tt
work_fits slots i mem v (Dequeuing (LoadTail head)) post list g w p = tt
work_fits slots i mem v (Dequeuing (SwingTail head next)) post list g w p = tt
work_fits slots i mem v (Dequeuing (TakeNumber head next)) post list g w p = tt
work_fits slots i mem v (Dequeuing (TakeValue head next number)) post list g w p = tt
work_fits slots i mem v (Dequeuing (ExchangeHead head next number value)) post list g w p = pop_fits slots i mem v head next (mem Head == head + 1) refl g w

scan_fits : (slots i : ℕ) (v : View) (later : AfterScan) (at : ScanAt) (list : List Lifetime) → Good slots v → Plays i (Scans later at) list v → MoveFits i v (scan_row at)
scan_fits slots i v later (ReadGuard number) list g p = tt
scan_fits slots i v later (GiveBack place slot) list g p =
    let e : Entered list slot = stands_entered list place slot p.right in (e.retire, g.listed i slot e.birth e.retire (p.lists slot e.birth e.retire ∙ e.listed))

pub phase_fits : (slots i : ℕ) (mem : Place → ℕ) (v : View) (phase : Phase) (post : Post) (list : List Lifetime) → Needs slots mem v phase → Good slots v → Words slots mem v → Plays i phase list v → MoveFits i v (row_move phase post (memory.found (phase_move phase post) (mem (place_in (phase_move phase post)))))
phase_fits slots i mem v Idle post list n g w p = tt
phase_fits slots i mem v (Runs why base) post list n g w p = run_fits slots i mem v why base post list n g w p
phase_fits slots i mem v (Scans later at) post list n g w p = scan_fits slots i v later at list g p
phase_fits slots i mem v (Works work) post list n g w p = work_fits slots i mem v work post list g w p

-- a move that takes no row into the queue, cuts none of it and gives none back
abbrev pub is_calm : RowMove → Bool
is_calm Stays = true
is_calm (Claims slot) = true
is_calm (Bears slot birth) = true
is_calm (Drops slot) = true
is_calm (Links bucket slot) = true
is_calm (Replaces bucket slot old) = true
is_calm (Appends slot) = false
is_calm (Pops slot next) = false
is_calm (Reads slot birth) = true
is_calm (Seals slot birth retire) = true
is_calm (Lists slot birth retire) = true
is_calm (Returns slot) = false
is_calm (Adopts from) = true

-- the rows of the queue stay, and what was in it stays so
pub record Calm (v u : View) : Type 0 where
  pub queue : (s : ℕ) → queue_of u s ≡ queue_of v s
  pub past : (s : ℕ) → past_of v s ≡ true → past_of u s ≡ true
  pub head : u.head ≡ v.head

pub passed_queue : (from to : ℕ) (x : Status) → in_queue (passed from to x) ≡ in_queue x
passed_queue from to Free = refl
passed_queue from to (Claimed by) = refl
passed_queue from to (Born by) = refl
passed_queue from to (Linked bucket) = refl
passed_queue from to InQueue = refl
passed_queue from to (Cut by) = refl
passed_queue from to (Sealed by retire) = refl
passed_queue from to (Listed by retire) = refl

passed_past : (from to : ℕ) (x : Status) → is_past (passed from to x) ≡ is_past x
passed_past from to Free = refl
passed_past from to (Claimed by) = refl
passed_past from to (Born by) = refl
passed_past from to (Linked bucket) = refl
passed_past from to InQueue = refl
passed_past from to (Cut by) = refl
passed_past from to (Sealed by retire) = refl
passed_past from to (Listed by retire) = refl

pub calm_made : (i : ℕ) (v : View) (m : RowMove) → MoveFits i v m → is_calm m ≡ true → Calm v (made i v m)
calm_made i v Stays h c = record { queue = λ s. refl; past = λ s e. e; head = refl }
calm_made i v (Reads slot birth) h c = record { queue = λ s. refl; past = λ s e. e; head = refl }
calm_made i v (Claims slot) h c = record { queue = λ s. grind (arith, nat_tests, h); past = λ s e. grind (arith, nat_tests, h); head = refl }
calm_made i v (Bears slot birth) h c = record { queue = λ s. grind (arith, nat_tests, h); past = λ s e. grind (arith, nat_tests, h); head = refl }
calm_made i v (Drops slot) h c = record { queue = λ s. grind (arith, nat_tests, h); past = λ s e. grind (arith, nat_tests, h); head = refl }
calm_made i v (Links bucket slot) h c = record { queue = λ s. grind (arith, nat_tests, h); past = λ s e. grind (arith, nat_tests, h); head = refl }
calm_made i v (Replaces bucket slot old) h c = let a = h.0 in let b = h.1 in record { queue = λ s. grind (arith, nat_tests, a, b); past = λ s e. grind (arith, nat_tests, a, b); head = refl }
calm_made i v (Seals slot birth retire) h c = record { queue = λ s. grind (arith, nat_tests, h); past = λ s e. grind (arith, nat_tests, h); head = refl }
calm_made i v (Lists slot birth retire) h c = record { queue = λ s. grind (arith, nat_tests, h); past = λ s e. grind (arith, nat_tests, h); head = refl }
calm_made i v (Appends slot) h c = absurd (no_truth c)
calm_made i v (Pops slot next) h c = absurd (no_truth c)
calm_made i v (Returns slot) h c = absurd (no_truth c)
calm_made i v (Adopts from) h c = record { queue = λ s. passed_queue from i (v.status s); past = λ s e. passed_past from i (v.status s) ∙ e; head = refl }
