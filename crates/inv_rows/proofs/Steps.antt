-- One step of a seat, by the phase in which it stands.
use Rattle.std.proofs.Common.{ℕ, ◌≤◌, ◌+◌, ◌<◌, ◌%◌, ◌≡◌, Bool, true, false, arith, refl, ap, ◌∙◌, sym, subst, List, [], ◌∷◌, ◌++◌}
use Rattle.std.proofs.lemmas.Bool.Decides.{nat_tests}
use Rattle.std.specs.Prelude.{◌==◌, not, if◌then◌else◌, Option, Some, None}
use Rattle.wfe_core.specs.defs.declared.call.Answer.{Answer}
use Rattle.wfe_core.specs.defs.declared.event.Event.TheVariants as events
use Rattle.wfe_core.specs.defs.declared.event.Event.{Event}
use Rattle.wfe_core.specs.defs.declared.lifetime.Lifetime.{Lifetime}
use Rattle.wfe_core.specs.declared.ends.AllocateEnd.TheVariants as allocate_ends
use Rattle.wfe_core.specs.declared.post.Post.{Post}
use Rattle.wfe_core.specs.Desks.{Desk}
use Rattle.wfe_core.specs.Phases.{Base, Ending as endings, goes, ends, AllocateAt, RowOf, Walk, Turn}
use Rattle.wfe_core.specs.Phases.Ending.{Done, Allocated}
use Rattle.wfe_core.specs.Scan as scan
use Rattle.wfe_core.specs.Calls.{Task, Gets, Changes, Holds, Enqueues, Dequeues, AfterScan, Why, Fills, GivesUp, Retires, ScanAt, ReadGuard, GiveBack, Phase, Runs, Scans, Works, Keeping, MarkTaken, CallTurn, CallOutcome, GoesOn}
use Rattle.wfe_core.specs.Calls as calls
use Rattle.inv_rows.specs.Rows.{Hand, Status, View, Good, made, is_taken, has_life, retire_in}
use Rattle.inv_rows.specs.Rows.Hand.{Empty, New, Taken, Old, Known, Dated}
use Rattle.inv_rows.specs.Hands.{hand_later, hand_in, is_plain, Leaves, hand_left, is_marking, is_right, right_left, unmarked_left, in_list, each_once, stands_at, task_fills, base_row, scan_row}
use Rattle.std.specs.Int.{bit_at}
use Rattle.std.specs.List.{remove}
use Rattle.wfe_core.specs.words.Place.{Place, claim_word, claim_mask, claim_others}
use Rattle.wfe_core.specs.words.Place.Place.{Clock, Claim, Life, Row, PlaceOf}
use Rattle.wfe_core.specs.words.Packed.{read_life, life_word, halves}
use Rattle.wfe_core.proofs.words.Parts.{read_life-open}
use Rattle.wfe_core.specs.Memory as memory
use Rattle.wfe_core.specs.Memory.{place_in, written, upd}
use Rattle.wfe_core.specs.Phases.AllocateAt.{LoadBirth, ClaimSlot, StoreLife}
use Rattle.wfe_core.specs.Phases.RetireAt.{LoadLife, LoadRetire, StoreRetired}
use Rattle.wfe_core.specs.Phases.Base.{Begin, Protect, Reload, Clear, Finish, Release, Allocate, Write, GiveUp, Retire, Move}
use Rattle.wfe_core.specs.Machine as machine
use Rattle.wfe_core.specs.Machine.{base_move}
use Rattle.wfe_core.specs.Allocate.{is_claimed, walking, walk_past, walk_from, next_slot}
use Rattle.wfe_core.specs.Guards as the_guards
use Rattle.wfe_core.specs.WriteRow.{last_written, row_word}
use Rattle.wfe_core.specs.Retire.{birth_in}
use Rattle.wfe_core.specs.Steps.{run_turn}
use Rattle.inv_rows.specs.Rows.Status.{Free, Claimed, Born, Linked, InQueue, Cut, Sealed, Listed}
use Rattle.inv_rows.specs.Rows.RowMove.{Stays, Claims, Bears, Drops, Reads, Seals, Lists, Returns}
use Rattle.inv_rows.specs.Agree.{Words, Plays, Needs, claim_of}
use Rattle.inv_rows.proofs.Made.{claims_good, bears_good, drops_good, reads_good, seals_good, lists_good, returns_good}
use Rattle.inv_rows.proofs.Words.{words_plain, words_shown, words_claims, words_bears, words_drops, words_returns, words_lists, words_seals, words_hand}
use Rattle.inv_rows.proofs.Lists.{no_entry_from, in_list_last, once_last, once_remove, in_list_remove, Entered, stands_entered}
use Rattle.inv_rows.proofs.Turns.{read_leaves, back_leaves}
use Rattle.inv_rows.proofs.Runs.{is_plain_why, plain_goes, plain_writes, plain_leaves, spent_leaves, given_leaves, written_leaves, retired_leaves, only_fills}
use Rattle.wfe_core.proofs.Facts.{words_below, no_truth, rest_of}
use Rattle.wfe_core.specs.words.Schemes.{publishes_rows}

-- what the step of seat i leaves agrees with the rows
pub record Did (slots i : ℕ) (mem : Place → ℕ) (v : View) (t : CallTurn) : Type 0 where
  pub good : Good slots v
  pub words : Words slots mem v
  pub hand : v.hand i ≡ hand_left t.outcome
  pub lists : (s b r : ℕ) → v.lists i s b r ≡ in_list t.desk.list s b r
  pub once : each_once t.desk.list ≡ true
  pub right : right_left t.outcome t.desk.list ≡ true
  pub marks : (place count : ℕ) → t.outcome ≡ GoesOn (Works (Keeping (MarkTaken place count))) → 1 < mem (PlaceOf place)

-- a turn that does not take a list over goes on to no phase that marks one
left_right : (outcome : CallOutcome) (list : List Lifetime) → unmarked_left outcome list ≡ true → right_left outcome list ≡ true
left_right (GoesOn phase) list h = rest_of (not (is_marking phase)) (is_right phase list) h
left_right (calls.Answers answer) list h = refl

left_unmarked : (outcome : CallOutcome) (list : List Lifetime) (place count : ℕ) → unmarked_left outcome list ≡ true → outcome ≡ GoesOn (Works (Keeping (MarkTaken place count))) → ⊥
left_unmarked outcome list place count h e = let P : CallOutcome → Type 0 = λ y. unmarked_left y list ≡ true in no_truth (subst P e h)

pub upd_own : {A : Type 0} (f : ℕ → A) (i : ℕ) (x : A) → upd f i x i ≡ x
upd_own f i x = let e : (i == i) ≡ true = grind (arith, nat_tests) in rw e refl

-- from what was in hand, with the same list
did_kept : (slots i : ℕ) (mem : Place → ℕ) (v : View) (h : Hand) (list : List Lifetime) (t : CallTurn) → Good slots v → Words slots mem v → v.hand i ≡ h → ((s b r : ℕ) → v.lists i s b r ≡ in_list list s b r) → each_once list ≡ true → Leaves h list t → Did slots i mem v t
did_kept slots i mem v h list t g w e f o l = record {
  good = g;
  words = w;
  hand = e ∙ sym l.hand;
  lists = λ s b r. rw l.list (f s b r);
  once = rw l.list o;
  right = left_right t.outcome t.desk.list l.right;
  marks = λ place count q. absurd (left_unmarked t.outcome t.desk.list place count l.right q);
}

-- a step that moves no row
pub did_stays : (slots i : ℕ) (mem after : Place → ℕ) (v : View) (phase : Phase) (list : List Lifetime) (t : CallTurn) → Good slots v → Words slots after v → Plays i phase list v → Leaves (hand_in phase) list t → Did slots i after v t
did_stays slots i mem after v phase list t g w p l = did_kept slots i after v (hand_in phase) list t g w p.hand p.lists p.once l

-- a step that moves a row into the hand or out of it
pub did_hand : (slots i : ℕ) (after : Place → ℕ) (v u : View) (phase : Phase) (h : Hand) (list : List Lifetime) (t : CallTurn) → Good slots u → Words slots after u → u.hand ≡ upd v.hand i h → u.lists ≡ v.lists → Plays i phase list v → Leaves h list t → Did slots i after u t
did_hand slots i after v u phase h list t g w e k p l =
    did_kept slots i after u h list t g w (ap (λ (f : ℕ → Hand). f i) e ∙ upd_own v.hand i h) (λ s b r. ap (λ (f : ℕ → ℕ → ℕ → ℕ → Bool). f i s b r) k ∙ p.lists s b r) p.once l

-- a machine that handles no row
pub plain_row : (base : Base) (found : ℕ) → is_plain base ≡ true → base_row base found ≡ Stays
plain_row (Begin at) found h = refl
plain_row (Protect aim index root steps at) found h = refl
plain_row (Reload parent index slot era steps) found h = refl
plain_row (Clear rows index) found h = refl
plain_row Finish found h = refl
plain_row (Release index) found h = refl
plain_row (Allocate at) found h = cc
plain_row (Write slot row place) found h = cc
plain_row (GiveUp slot) found h = cc
plain_row (Retire at) found h = cc
plain_row (Move at) found h = refl

pub did_plain : (slots i : ℕ) (mem : Place → ℕ) (v : View) (why : Why) (base : Base) (post next : Post) (desk : Desk) (found : ℕ) → Good slots v → Words slots mem v → Plays i (Runs why base) desk.list v → is_plain_why why ≡ true → is_plain base ≡ true → Did slots i (written mem (base_move base post)) (made i v (base_row base found)) (run_turn why desk (machine.after base next found))
did_plain slots i mem v why base post next desk found g w p y h =
    let t : Turn = machine.after base next found in
    rw
    (plain_row base found h)
    (did_stays
    slots
    i
    mem
    (written mem (base_move base post))
    v
    (Runs why base)
    desk.list
    (run_turn why desk (machine.after base next found))
    g
    (words_plain slots mem v (base_move base post) (plain_writes base post h) w)
    p
    (plain_leaves why base desk t.post t.told t.outcome y (plain_goes base next found h)))

-- a row is claimed where its bit was not set
free_of : (x : Status) → is_taken x ≡ false → x ≡ Free
free_of Free h = refl
free_of (Claimed by) h = cc
free_of (Born by) h = cc
free_of (Linked bucket) h = cc
free_of InQueue h = cc
free_of (Cut by) h = cc
free_of (Sealed by retire) h = cc
free_of (Listed by retire) h = cc

pub bit_free : (slots : ℕ) (x : Status) (slot bit : ℕ) → slot ≤ slots → bit ≡ claim_of slots x slot → (bit == 1) ≡ false → x ≡ Free
bit_free slots x slot bit h e k = let f : is_taken x ≡ false = grind (arith, nat_tests) in free_of x f

-- a task that takes a row, or writes it, does so at each step
fills_allocate : (task : Task) (at next : AllocateAt) → task_fills task (Allocate at) ≡ true → task_fills task (Allocate next) ≡ true
fills_allocate (Gets key) at next h = h
fills_allocate (Changes kept) at next h = h
fills_allocate (Holds key) at next h = h
fills_allocate (Enqueues kept) at next h = h
fills_allocate Dequeues at next h = h

fills_write : (task : Task) (slot : ℕ) (row : RowOf) (place next : ℕ) → task_fills task (Write slot row place) ≡ true → task_fills task (Write slot row next) ≡ true
fills_write (Gets key) slot row place next h = h
fills_write (Changes kept) slot row place next h = h
fills_write (Holds key) slot row place next h = h
fills_write (Enqueues kept) slot row place next h = h
fills_write Dequeues slot row place next h = h

-- the row is given
abbrev claimed : ℕ → Walk → Post → Turn
claimed birth walk post =
    goes
    (record post { cursor = next_slot post.layout.config.slots walk.slot })
    (events.Give walk.slot birth ∷ [])
    (Allocate (StoreLife birth walk.slot))

bit_set : (bit : ℕ) → (bit == 1) ≡ true → bit ≡ 1
bit_set bit h = grind (arith, nat_tests)

did_walks : (slots i : ℕ) (after : Place → ℕ) (v : View) (task : Task) (birth : ℕ) (walk : Walk) (post : Post) (desk : Desk) (x : Option Walk) → Good slots v → Words slots after v → Plays i (Runs (Fills task) (Allocate (ClaimSlot birth walk))) desk.list v → Did slots i after v (run_turn (Fills task) desk (walking birth post x))
did_walks slots i after v task birth walk post desk None g w p =
    did_kept slots i after v Empty desk.list (run_turn (Fills task) desk (walking birth post None)) g w p.hand p.lists p.once (spent_leaves task (ClaimSlot birth walk) post desk [] p.right)
did_walks slots i after v task birth walk post desk (Some more) g w p =
    did_kept slots i after v Empty desk.list (run_turn (Fills task) desk (walking birth post (Some more))) g w p.hand p.lists p.once (record { hand = refl; right = fills_allocate task (ClaimSlot birth walk) (ClaimSlot birth more) p.right; list = refl })

did_claims : (slots i : ℕ) (mem : Place → ℕ) (v : View) (task : Task) (birth : ℕ) (walk : Walk) (post : Post) (desk : Desk) (shown : Bool) → is_claimed (mem (Claim (claim_word walk.slot))) walk.slot ≡ shown → walk.slot ≤ slots → Good slots v → Words slots mem v → Plays i (Runs (Fills task) (Allocate (ClaimSlot birth walk))) desk.list v
    → Did slots i (written mem (memory.Or (Claim (claim_word walk.slot)) (claim_mask walk.slot))) (made i v (if shown then Stays else Claims walk.slot)) (run_turn (Fills task) desk (if shown then walking birth post (walk_past post.layout.config.slots walk (mem (Claim (claim_word walk.slot)))) else claimed birth walk post))
did_claims slots i mem v task birth walk post desk true e below g w p =
    did_walks
    slots
    i
    (written mem (memory.Or (Claim (claim_word walk.slot)) (claim_mask walk.slot)))
    v
    task
    birth
    walk
    post
    desk
    (walk_past post.layout.config.slots walk (mem (Claim (claim_word walk.slot))))
    g
    (words_shown slots mem v walk.slot below (bit_set (bit_at (mem (Claim (claim_word walk.slot))) (walk.slot % 64)) e) w)
    p
did_claims slots i mem v task birth walk post desk false e below g w p =
    did_hand
    slots
    i
    (written mem (memory.Or (Claim (claim_word walk.slot)) (claim_mask walk.slot)))
    v
    (made i v (Claims walk.slot))
    (Runs (Fills task) (Allocate (ClaimSlot birth walk)))
    (New walk.slot)
    desk.list
    (run_turn (Fills task) desk (claimed birth walk post))
    (claims_good slots v i walk.slot g p.hand (bit_free slots (v.status walk.slot) walk.slot (bit_at (mem (Claim (claim_word walk.slot))) (walk.slot % 64)) below (w.claims walk.slot (words_below walk.slot slots below)) e) below)
    (words_claims slots mem v i walk.slot below w)
    refl
    refl
    p
    (record { hand = refl; right = fills_allocate task (ClaimSlot birth walk) (StoreLife birth walk.slot) p.right; list = refl })

-- what the hand says of its row
pub of_new : (slots : ℕ) (v : View) (i slot : ℕ) → Good slots v → v.hand i ≡ New slot → v.status slot ≡ Claimed i
of_new slots v i slot g h = grind (arith, nat_tests, g.hands i slot)

pub of_taken : (slots : ℕ) (v : View) (i slot : ℕ) → Good slots v → v.hand i ≡ Taken slot → v.status slot ≡ Born i
of_taken slots v i slot g h = grind (arith, nat_tests, g.hands i slot)

pub of_old : (slots : ℕ) (v : View) (i slot : ℕ) → Good slots v → v.hand i ≡ Old slot → v.status slot ≡ Cut i
of_old slots v i slot g h = grind (arith, nat_tests, g.hands i slot)

pub of_known : (slots : ℕ) (v : View) (i slot birth : ℕ) → Good slots v → v.hand i ≡ Known slot birth → v.status slot ≡ Cut i
of_known slots v i slot birth g h = grind (arith, nat_tests, g.hands i slot)

pub of_dated : (slots : ℕ) (v : View) (i slot birth retire : ℕ) → Good slots v → v.hand i ≡ Dated slot birth retire → v.status slot ≡ Sealed i retire
of_dated slots v i slot birth retire g h = grind (arith, nat_tests, g.hands i slot)

born_dated : (slots : ℕ) (v : View) (i slot birth retire : ℕ) → Good slots v → v.hand i ≡ Dated slot birth retire → v.birth slot ≡ birth
born_dated slots v i slot birth retire g h = grind (arith, nat_tests, g.known i slot)

did_bears : (slots i : ℕ) (mem : Place → ℕ) (v : View) (task : Task) (birth slot : ℕ) (post : Post) (desk : Desk) → 0 < birth → Good slots v → Words slots mem v → Plays i (Runs (Fills task) (Allocate (StoreLife birth slot))) desk.list v
    → Did slots i (written mem (memory.Store (Life slot) (life_word (record { birth = birth; retire = 0 })))) (made i v (Bears slot birth)) (run_turn (Fills task) desk (ends post [] (Allocated (allocate_ends.Given slot birth))))
did_bears slots i mem v task birth slot post desk b g w p =
    did_hand
    slots
    i
    (written mem (memory.Store (Life slot) (life_word (record { birth = birth; retire = 0 }))))
    v
    (made i v (Bears slot birth))
    (Runs (Fills task) (Allocate (StoreLife birth slot)))
    (Taken slot)
    desk.list
    (run_turn (Fills task) desk (ends post [] (Allocated (allocate_ends.Given slot birth))))
    (bears_good slots v i slot birth g p.hand b)
    (words_bears slots mem v i slot birth (of_new slots v i slot g p.hand) w)
    refl
    refl
    p
    (given_leaves task (StoreLife birth slot) slot birth post desk [] p.right)

did_writes : (slots i : ℕ) (mem : Place → ℕ) (v : View) (task : Task) (slot : ℕ) (row : RowOf) (place word : ℕ) (post : Post) (desk : Desk) (last : Bool) → Good slots v → Words slots mem v → Plays i (Runs (Fills task) (Write slot row place)) desk.list v
    → Did slots i (written mem (memory.Store (Row slot place) word)) v (run_turn (Fills task) desk (if last then ends post [] Done else goes post [] (Write slot row (place + 1))))
did_writes slots i mem v task slot row place word post desk true g w p =
    did_stays
    slots
    i
    mem
    (written mem (memory.Store (Row slot place) word))
    v
    (Runs (Fills task) (Write slot row place))
    desk.list
    (run_turn (Fills task) desk (ends post [] Done))
    g
    (words_plain slots mem v (memory.Store (Row slot place) word) refl w)
    p
    (written_leaves task slot row place post desk [] p.right)
did_writes slots i mem v task slot row place word post desk false g w p =
    did_stays
    slots
    i
    mem
    (written mem (memory.Store (Row slot place) word))
    v
    (Runs (Fills task) (Write slot row place))
    desk.list
    (run_turn (Fills task) desk (goes post [] (Write slot row (place + 1))))
    g
    (words_plain slots mem v (memory.Store (Row slot place) word) refl w)
    p
    (record { hand = refl; right = fills_write task slot row place (place + 1) p.right; list = refl })

-- a row is filled
pub did_fills : (slots i : ℕ) (mem : Place → ℕ) (v : View) (task : Task) (base : Base) (post next : Post) (desk : Desk) → Needs slots mem v (Runs (Fills task) base) → Good slots v → Words slots mem v → Plays i (Runs (Fills task) base) desk.list v
    → Did slots i (written mem (base_move base post)) (made i v (base_row base (memory.found (base_move base post) (mem (place_in (base_move base post)))))) (run_turn (Fills task) desk (machine.after base next (memory.found (base_move base post) (mem (place_in (base_move base post))))))
did_fills slots i mem v task (Allocate LoadBirth) post next desk n g w p =
    did_stays
    slots
    i
    mem
    mem
    v
    (Runs (Fills task) (Allocate LoadBirth))
    desk.list
    (run_turn (Fills task) desk (machine.after (Allocate LoadBirth) next (mem Clock)))
    g
    w
    p
    (record { hand = refl; right = fills_allocate task LoadBirth (ClaimSlot (mem Clock) (walk_from next.layout.config.slots next.cursor)) p.right; list = refl })
did_fills slots i mem v task (Allocate (ClaimSlot birth walk)) post next desk n g w p =
    did_claims slots i mem v task birth walk next desk (is_claimed (mem (Claim (claim_word walk.slot))) walk.slot) refl (n.walks (Fills task) birth walk refl) g w p
did_fills slots i mem v task (Allocate (StoreLife birth slot)) post next desk n g w p =
    did_bears slots i mem v task birth slot next desk (n.births (Fills task) birth slot refl) g w p
did_fills slots i mem v task (Write slot row place) post next desk n g w p =
    did_writes slots i mem v task slot row place (row_word row place) next desk (place == last_written row) g w p
did_fills slots i mem v task (Begin at) post next desk n g w p = absurd (no_truth (only_fills task (Begin at) p.right))
did_fills slots i mem v task (Protect aim index root steps at) post next desk n g w p = absurd (no_truth (only_fills task (Protect aim index root steps at) p.right))
did_fills slots i mem v task (Reload parent index slot era steps) post next desk n g w p = absurd (no_truth (only_fills task (Reload parent index slot era steps) p.right))
did_fills slots i mem v task (Clear rows index) post next desk n g w p = absurd (no_truth (only_fills task (Clear rows index) p.right))
did_fills slots i mem v task Finish post next desk n g w p = absurd (no_truth (only_fills task Finish p.right))
did_fills slots i mem v task (Release index) post next desk n g w p = absurd (no_truth (only_fills task (Release index) p.right))
did_fills slots i mem v task (GiveUp slot) post next desk n g w p = absurd (no_truth (only_fills task (GiveUp slot) p.right))
did_fills slots i mem v task (Retire at) post next desk n g w p = absurd (no_truth (only_fills task (Retire at) p.right))
did_fills slots i mem v task (Move at) post next desk n g w p = absurd (no_truth (only_fills task (Move at) p.right))

taken_born : (slots : ℕ) (v : View) (i slot : ℕ) → Good slots v → v.hand i ≡ Taken slot → is_taken (v.status slot) ≡ true
taken_born slots v i slot g h = rw (of_taken slots v i slot g h) refl

taken_listed : (slots : ℕ) (v : View) (i slot birth retire : ℕ) → Good slots v → v.lists i slot birth retire ≡ true → is_taken (v.status slot) ≡ true
taken_listed slots v i slot birth retire g h = rw (g.listed i slot birth retire h) refl

-- the birth era that is read is the row's
read_born : (birth : ℕ) → 0 < birth → birth_in (read_life (halves birth 0)) ≡ birth
read_born birth h = rw (read_life-open birth h) refl

pub old_life : (x : Status) (i birth word : ℕ) → x ≡ Cut i → word ≡ life_word (record { birth = birth; retire = retire_in x }) → word ≡ halves birth 0
old_life x i birth word e h = rw e at h

pub life_cut : (x : Status) (i : ℕ) → x ≡ Cut i → has_life x ≡ true
life_cut x i e = rw e refl

born_read : (slots : ℕ) (mem : Place → ℕ) (v : View) (i slot : ℕ) → Good slots v → Words slots mem v → v.hand i ≡ Old slot → birth_in (read_life (mem (Life slot))) ≡ v.birth slot
born_read slots mem v i slot g w h =
    let cut : v.status slot ≡ Cut i = of_old slots v i slot g h in
    let life : has_life (v.status slot) ≡ true = life_cut (v.status slot) i cut in
    let word : mem (Life slot) ≡ halves (v.birth slot) 0 = old_life (v.status slot) i (v.birth slot) (mem (Life slot)) cut (w.lives slot life) in
    rw word (read_born (v.birth slot) (g.births slot life))

-- a row that goes into the list was on no place of it
unlisted : (slots : ℕ) (v : View) (i : ℕ) (list : List Lifetime) (slot birth retire b r : ℕ) → Good slots v → v.hand i ≡ Dated slot birth retire → ((s b r : ℕ) → v.lists i s b r ≡ in_list list s b r) → in_list list slot b r ≡ false
unlisted slots v i list slot birth retire b r g h f = grind (arith, nat_tests, g.hands i slot, g.listed i slot b r, f slot b r)

listed_last : (v : View) (i : ℕ) (list : List Lifetime) (slot birth retire s b r : ℕ) → ((s b r : ℕ) → v.lists i s b r ≡ in_list list s b r) → (made i v (Lists slot birth retire)).lists i s b r ≡ in_list (list ++ record { slot = slot; birth = birth; retire = retire } ∷ []) s b r
listed_last v i list slot birth retire s b r f = grind (arith, nat_tests, f s b r, in_list_last list (record { slot = slot; birth = birth; retire = retire }) s b r)

unlisted_one : (v : View) (i : ℕ) (list : List Lifetime) (place slot s b r : ℕ) → ((s b r : ℕ) → v.lists i s b r ≡ in_list list s b r) → each_once list ≡ true → stands_at list place slot ≡ true → (made i v (Returns slot)).lists i s b r ≡ in_list (remove list place) s b r
unlisted_one v i list place slot s b r f d e = grind (arith, nat_tests, f s b r, in_list_remove list place slot s b r d e)

-- a row is given up
did_drops : (slots i : ℕ) (mem : Place → ℕ) (v : View) (answer : Answer) (slot : ℕ) (post : Post) (desk : Desk) (told : List Event) → Good slots v → Words slots mem v → Plays i (Runs (GivesUp answer) (GiveUp slot)) desk.list v
    → Did slots i (written mem (memory.And (Claim (claim_word slot)) (claim_others slot))) (made i v (Drops slot)) (run_turn (GivesUp answer) desk (ends post told Done))
did_drops slots i mem v answer slot post desk told g w p =
    did_hand
    slots
    i
    (written mem (memory.And (Claim (claim_word slot)) (claim_others slot)))
    v
    (made i v (Drops slot))
    (Runs (GivesUp answer) (GiveUp slot))
    Empty
    desk.list
    (run_turn (GivesUp answer) desk (ends post told Done))
    (drops_good slots v i slot g p.hand)
    (words_drops slots mem v i slot (g.inside slot (taken_born slots v i slot g p.hand)) w)
    refl
    refl
    p
    (record { hand = refl; right = refl; list = refl })

pub did_gives_up : (slots i : ℕ) (mem : Place → ℕ) (v : View) (answer : Answer) (base : Base) (post next : Post) (desk : Desk) → Good slots v → Words slots mem v → Plays i (Runs (GivesUp answer) base) desk.list v
    → Did slots i (written mem (base_move base post)) (made i v (base_row base (memory.found (base_move base post) (mem (place_in (base_move base post)))))) (run_turn (GivesUp answer) desk (machine.after base next (memory.found (base_move base post) (mem (place_in (base_move base post))))))
did_gives_up slots i mem v answer (GiveUp slot) post next desk g w p = did_drops slots i mem v answer slot next desk (events.Unused slot ∷ []) g w p
did_gives_up slots i mem v answer (Begin at) post next desk g w p = absurd (no_truth p.right)
did_gives_up slots i mem v answer (Protect aim index root steps at) post next desk g w p = absurd (no_truth p.right)
did_gives_up slots i mem v answer (Reload parent index slot era steps) post next desk g w p = absurd (no_truth p.right)
did_gives_up slots i mem v answer (Clear rows index) post next desk g w p = absurd (no_truth p.right)
did_gives_up slots i mem v answer Finish post next desk g w p = absurd (no_truth p.right)
did_gives_up slots i mem v answer (Release index) post next desk g w p = absurd (no_truth p.right)
did_gives_up slots i mem v answer (Allocate at) post next desk g w p = absurd (no_truth p.right)
did_gives_up slots i mem v answer (Write slot row place) post next desk g w p = absurd (no_truth p.right)
did_gives_up slots i mem v answer (Retire at) post next desk g w p = absurd (no_truth p.right)
did_gives_up slots i mem v answer (Move at) post next desk g w p = absurd (no_truth p.right)

-- a row that was cut is retired
did_reads : (slots i : ℕ) (mem : Place → ℕ) (v : View) (answer : Answer) (slot : ℕ) (post : Post) (desk : Desk) → Good slots v → Words slots mem v → Plays i (Runs (Retires answer) (Retire (LoadLife slot))) desk.list v
    → Did slots i mem (made i v (Reads slot (birth_in (read_life (mem (Life slot)))))) (run_turn (Retires answer) desk (goes post [] (Retire (LoadRetire slot (birth_in (read_life (mem (Life slot))))))))
did_reads slots i mem v answer slot post desk g w p =
    did_hand
    slots
    i
    mem
    v
    (made i v (Reads slot (birth_in (read_life (mem (Life slot))))))
    (Runs (Retires answer) (Retire (LoadLife slot)))
    (Known slot (birth_in (read_life (mem (Life slot)))))
    desk.list
    (run_turn (Retires answer) desk (goes post [] (Retire (LoadRetire slot (birth_in (read_life (mem (Life slot))))))))
    (reads_good slots v i slot (birth_in (read_life (mem (Life slot)))) g p.hand (born_read slots mem v i slot g w p.hand))
    (words_hand slots mem v i (Known slot (birth_in (read_life (mem (Life slot))))) w)
    refl
    refl
    p
    (record { hand = refl; right = refl; list = refl })

did_seals : (slots i : ℕ) (mem : Place → ℕ) (v : View) (answer : Answer) (slot birth retire : ℕ) (post : Post) (desk : Desk) → Good slots v → Words slots mem v → Plays i (Runs (Retires answer) (Retire (LoadRetire slot birth))) desk.list v
    → Did slots i mem (made i v (Seals slot birth retire)) (run_turn (Retires answer) desk (goes post [] (Retire (StoreRetired slot birth retire))))
did_seals slots i mem v answer slot birth retire post desk g w p =
    did_hand
    slots
    i
    mem
    v
    (made i v (Seals slot birth retire))
    (Runs (Retires answer) (Retire (LoadRetire slot birth)))
    (Dated slot birth retire)
    desk.list
    (run_turn (Retires answer) desk (goes post [] (Retire (StoreRetired slot birth retire))))
    (seals_good slots v i slot birth retire g p.hand)
    (words_seals slots mem v i slot birth retire (of_known slots v i slot birth g p.hand) w)
    refl
    refl
    p
    (record { hand = refl; right = refl; list = refl })

did_lists : (slots i : ℕ) (mem : Place → ℕ) (v : View) (answer : Answer) (slot birth retire : ℕ) (post : Post) (desk : Desk) (told : List Event) → Good slots v → Words slots mem v → Plays i (Runs (Retires answer) (Retire (StoreRetired slot birth retire))) desk.list v
    → Did slots i (written mem (memory.Store (Life slot) (life_word (record { birth = birth; retire = retire })))) (made i v (Lists slot birth retire)) (run_turn (Retires answer) desk (ends post told (endings.Retired (record { slot = slot; birth = birth; retire = retire }))))
did_lists slots i mem v answer slot birth retire post desk told g w p =
    did_kept
    slots
    i
    (written mem (memory.Store (Life slot) (life_word (record { birth = birth; retire = retire }))))
    (made i v (Lists slot birth retire))
    Empty
    (desk.list ++ record { slot = slot; birth = birth; retire = retire } ∷ [])
    (run_turn (Retires answer) desk (ends post told (endings.Retired (record { slot = slot; birth = birth; retire = retire }))))
    (lists_good slots v i slot birth retire g p.hand)
    (words_lists slots mem v i slot birth retire (of_dated slots v i slot birth retire g p.hand) (born_dated slots v i slot birth retire g p.hand) w)
    (upd_own v.hand i Empty)
    (λ s b r. listed_last v i desk.list slot birth retire s b r p.lists)
    (once_last desk.list (record { slot = slot; birth = birth; retire = retire }) p.once (no_entry_from desk.list slot (λ b r. unlisted slots v i desk.list slot birth retire b r g p.hand p.lists)))
    (retired_leaves answer (record { slot = slot; birth = birth; retire = retire }) post desk told)

pub did_retires : (slots i : ℕ) (mem : Place → ℕ) (v : View) (answer : Answer) (base : Base) (post next : Post) (desk : Desk) → Good slots v → Words slots mem v → Plays i (Runs (Retires answer) base) desk.list v
    → Did slots i (written mem (base_move base post)) (made i v (base_row base (memory.found (base_move base post) (mem (place_in (base_move base post)))))) (run_turn (Retires answer) desk (machine.after base next (memory.found (base_move base post) (mem (place_in (base_move base post))))))
did_retires slots i mem v answer (Retire (LoadLife slot)) post next desk g w p = did_reads slots i mem v answer slot next desk g w p
did_retires slots i mem v answer (Retire (LoadRetire slot birth)) post next desk g w p = did_seals slots i mem v answer slot birth (mem Clock) next desk g w p
did_retires slots i mem v answer (Retire (StoreRetired slot birth retire)) post next desk g w p =
    did_lists slots i mem v answer slot birth retire (record next { retired = memory.bump next.retired }) desk (events.Retire slot birth retire ∷ []) g w p
did_retires slots i mem v answer (Begin at) post next desk g w p = absurd (no_truth p.right)
did_retires slots i mem v answer (Protect aim index root steps at) post next desk g w p = absurd (no_truth p.right)
did_retires slots i mem v answer (Reload parent index slot era steps) post next desk g w p = absurd (no_truth p.right)
did_retires slots i mem v answer (Clear rows index) post next desk g w p = absurd (no_truth p.right)
did_retires slots i mem v answer Finish post next desk g w p = absurd (no_truth p.right)
did_retires slots i mem v answer (Release index) post next desk g w p = absurd (no_truth p.right)
did_retires slots i mem v answer (Allocate at) post next desk g w p = absurd (no_truth p.right)
did_retires slots i mem v answer (Write slot row place) post next desk g w p = absurd (no_truth p.right)
did_retires slots i mem v answer (GiveUp slot) post next desk g w p = absurd (no_truth p.right)
did_retires slots i mem v answer (Move at) post next desk g w p = absurd (no_truth p.right)

-- a row goes back
did_returns : (slots i : ℕ) (mem : Place → ℕ) (v : View) (later : AfterScan) (place slot : ℕ) (post : Post) (desk : Desk) (found : ℕ) → Good slots v → Words slots mem v → Plays i (Scans later (GiveBack place slot)) desk.list v
    → Did slots i (written mem (memory.And (Claim (claim_word slot)) (claim_others slot))) (made i v (Returns slot)) (scan.scan_turn later (GiveBack place slot) post desk found)
did_returns slots i mem v later place slot post desk found g w p =
    let e : Entered desk.list slot = stands_entered desk.list place slot p.right in
    let k : v.lists i slot e.birth e.retire ≡ true = p.lists slot e.birth e.retire ∙ e.listed in
    did_kept
    slots
    i
    (written mem (memory.And (Claim (claim_word slot)) (claim_others slot)))
    (made i v (Returns slot))
    (hand_later later)
    (remove desk.list place)
    (scan.scan_turn later (GiveBack place slot) post desk found)
    (returns_good slots v i slot e.birth e.retire g k)
    (words_returns slots mem v i slot (g.inside slot (taken_listed slots v i slot e.birth e.retire g k)) w)
    p.hand
    (λ s b r. unlisted_one v i desk.list place slot s b r p.lists p.once p.right)
    (once_remove desk.list place p.once)
    (back_leaves later place slot post desk found)

pub did_scans : (slots i : ℕ) (mem : Place → ℕ) (v : View) (later : AfterScan) (at : ScanAt) (post next : Post) (desk : Desk) → Good slots v → Words slots mem v → Plays i (Scans later at) desk.list v
    → Did slots i (written mem (scan.scan_move at post)) (made i v (scan_row at)) (scan.scan_turn later at next desk (memory.found (scan.scan_move at post) (mem (place_in (scan.scan_move at post)))))
did_scans slots i mem v later (ReadGuard number) post next desk g w p =
    did_stays
    slots
    i
    mem
    mem
    v
    (Scans later (ReadGuard number))
    desk.list
    (scan.scan_turn later (ReadGuard number) next desk (mem (the_guards.guard_place (the_guards.guard_at post.layout.config number))))
    g
    w
    p
    (read_leaves
    later
    number
    next
    desk
    (publishes_rows next.layout.config.scheme)
    (the_guards.guard_at next.layout.config number)
    (mem (the_guards.guard_place (the_guards.guard_at post.layout.config number))))
did_scans slots i mem v later (GiveBack place slot) post next desk g w p =
    did_returns slots i mem v later place slot next desk (mem (Claim (claim_word slot))) g w p
