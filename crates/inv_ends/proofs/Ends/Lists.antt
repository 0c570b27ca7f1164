-- What steps tell of retire lists: only a step that leaves or takes over a list tells so.
use Rattle.std.proofs.Common.{ℕ, ◌+◌, ◌-◌, Bool, true, false, ◌≡◌, ◌∙◌, sym, refl, ap, subst, arith}
use Rattle.std.proofs.lemmas.Bool.Decides.{nat_tests}
use Rattle.std.proofs.lemmas.List.Elements.{filter-append}
use Rattle.std.specs.List.{filter, list_all, list_any}
use Rattle.std.specs.Prelude.{List, [], ◌∷◌, ◌++◌, length, if◌then◌else◌, ◌==◌, ◌||◌}
use Rattle.inv_rows.specs.defs.declared.call.Answer.TheVariants as the_answers
use Rattle.inv_rows.specs.defs.declared.event.Event.{Event}
use Rattle.inv_rows.specs.defs.declared.event.Event.TheVariants as events
use Rattle.inv_rows.specs.defs.declared.event.Root.{Root}
use Rattle.inv_rows.specs.defs.declared.event.Root.TheVariants as roots
use Rattle.inv_rows.specs.model.Allocate.{is_claimed}
use Rattle.inv_rows.specs.model.Calls.{ChangeAt, ChangeKept, DequeueAt, EnqueueAt, Phase, ScanAt, Work}
use Rattle.inv_rows.specs.model.Calls.ChangeAt.{ExchangeRoot, LoadCount, LoadKey, LoadValue, LoadVersion}
use Rattle.inv_rows.specs.model.Calls.DequeueAt.{ExchangeHead, LoadTail, SwingTail, TakeNumber, TakeValue}
use Rattle.inv_rows.specs.model.Calls.EnqueueAt.{ExchangeNext, ExchangeTail, LoadNext, LoadNumber, PassTail}
use Rattle.inv_rows.specs.model.Calls.KeepAt.{HideSpan, LoadHeld, Loosens, Looks, MarkLeft, MarkTaken, Misses, StoreHeld, TakeList}
use Rattle.inv_rows.specs.model.Calls.Phase.{Idle, Runs, Scans, Works}
use Rattle.inv_rows.specs.model.Calls.ScanAt.{GiveBack, ReadGuard}
use Rattle.inv_rows.specs.model.Calls.Work.{Changing, Dequeuing, Enqueuing, Getting, Keeping}
use Rattle.inv_rows.specs.model.Change.{changed_bucket}
use Rattle.inv_rows.specs.model.Desks.{Desk}
use Rattle.inv_rows.specs.model.Keep as keeps
use Rattle.inv_rows.specs.model.Locals.{Local, settled, told_by}
use Rattle.inv_rows.specs.model.Memory.{bump}
use Rattle.inv_rows.specs.model.Phases.{AllocateAt, Base, ProtectAt, RetireAt}
use Rattle.inv_rows.specs.model.Phases.AllocateAt.{ClaimSlot, LoadBirth, StoreLife}
use Rattle.inv_rows.specs.model.Phases.Base.{Allocate, Begin, Clear, Finish, GiveUp, Move, Protect, Release, Reload, Retire, Write}
use Rattle.inv_rows.specs.model.Phases.ProtectAt.{CheckClock, CheckUpper, TakeAnswer, ByHazard}
use Rattle.inv_rows.specs.model.Phases.HazardAt.{FirstLink, PublishLink, CheckLink}
use Rattle.inv_rows.specs.model.Phases.RetireAt.{LoadLife, LoadRetire, StoreRetired}
use Rattle.inv_rows.specs.model.Posts.{counted, stands, upper}
use Rattle.inv_rows.specs.model.Protect.{told_held}
use Rattle.inv_rows.specs.model.Steps as steps
use Rattle.inv_rows.specs.model.World.{World, finds, gift_at, list_in, offered}
use Rattle.inv_rows.specs.model.declared.post.Post.{Post}
use Rattle.inv_rows.specs.Hands.{allocate_row, base_row, change_row, dequeue_row, enqueue_row, keep_row, linked_row, retire_row, row_move, scan_row, work_row}
use Rattle.inv_rows.specs.Rows.{RowMove}
use Rattle.inv_rows.specs.Rows.RowMove.{Adopts, Appends, Claims, Links, Pops, Replaces, Stays}
use Rattle.inv_rows.specs.words.Place.Place.{PlaceOf}
use Rattle.inv_rows.proofs.model.Facts.{and_false, no_truth_2, number_is}
use Rattle.inv_rows.proofs.Shapes.Frame.{finds_at, seat_steps}
use Rattle.inv_ends.proofs.Ends.Tests.{Calm, at_shows, base_shows, none_cleared, none_worked, own_any, phase_shows}
use Rattle.inv_ends.proofs.Told.Rows.{hands_lists, own_post, own_told, phase_still}
use Rattle.inv_ends.proofs.Told.Turns.{AddsPlain, is_sequel}
use Rattle.inv_ends.specs.Lists.{AdoptsAlone, AdoptsTold, LeftTold, ListsTold, MarkedTold, NoneTaken, is_of_lists, list_events}

lists_calm : Calm is_of_lists
lists_calm = record { reserve = λ g x. refl; hazard = λ g x. refl; saw = λ g x. refl; read = λ g x. refl; era = λ e. refl; give = λ a b. refl; unused = λ a. refl; retire = λ a b r. refl; back = λ a. refl }

-- a machine and a step on what is kept tell nothing of lists
held_unlisted : (index : ℕ) (root : Root) (link n : ℕ) (null : Bool) → (link == 0) ≡ null → list_any is_of_lists (told_held index root link n) ≡ false
held_unlisted index (roots.Bucket bucket) link n true e = rw e refl
held_unlisted index (roots.Bucket bucket) link n false e = rw e refl
held_unlisted index roots.Head link n true e = rw e refl
held_unlisted index roots.Head link n false e = rw e refl
held_unlisted index roots.Tail link n true e = rw e refl
held_unlisted index roots.Tail link n false e = rw e refl
held_unlisted index (roots.Next parent) link n true e = rw e refl
held_unlisted index (roots.Next parent) link n false e = rw e refl

at_unlisted : (index : ℕ) (root : Root) (n : ℕ) (post : Post) (at : ProtectAt) (found : ℕ) → at_shows is_of_lists index root n post at found ≡ false
at_unlisted index root n post (CheckClock era tries link) found = rw (held_unlisted index root link n (link == 0) refl) (and_false (found == era))
at_unlisted index root n post (TakeAnswer link era) found = held_unlisted index root link n (link == 0) refl
at_unlisted index root n post (CheckUpper link) found = rw (held_unlisted index root link n (link == 0) refl) (and_false (found == upper post.span))
at_unlisted index root n post (ByHazard FirstLink) found = rw (held_unlisted index root found n (found == 0) refl) (and_false (found == 0))
at_unlisted index root n post (ByHazard (PublishLink link)) found = refl
at_unlisted index root n post (ByHazard (CheckLink link)) found = rw (held_unlisted index root found n (found == 0) refl) (and_false (found == link || found == 0))
at_unlisted index root n post at found = refl

base_unlisted : (base : Base) (post : Post) (found : ℕ) → base_shows is_of_lists post base found ≡ false
base_unlisted (Protect aim index root made at) post found = at_unlisted index root (bump made) post at found
base_unlisted (Reload parent index slot era made) post found = and_false (found == parent + 1)
base_unlisted (Clear rows index) post found = none_cleared is_of_lists index (stands post index) (λ n slot. refl)
base_unlisted (Release index) post found = none_cleared is_of_lists index (stands post index) (λ n slot. refl)
base_unlisted base post found = refl

phase_unlisted : (phase : Phase) (post : Post) (found : ℕ) → phase_shows is_of_lists post phase found ≡ false
phase_unlisted Idle post found = refl
phase_unlisted (Runs why base) post found = base_unlisted base post found
phase_unlisted (Scans later at) post found = refl
phase_unlisted (Works work) post found = none_worked is_of_lists work post (λ index slot. refl) (λ from index slot. refl)

own_unlisted : (told : List Event) → list_any is_of_lists told ≡ false → filter is_of_lists told ≡ []
own_unlisted [] h = refl
own_unlisted (event ∷ told) h =
    let a : is_of_lists event ≡ false = grind (arith, nat_tests) in
    let b : list_any is_of_lists told ≡ false = grind (arith, nat_tests) in
    rw a (own_unlisted told b)

-- nor does what comes after them
sequel_unlisted : (event : Event) → is_sequel event ≡ true → is_of_lists event ≡ false
sequel_unlisted (events.Left count) h = no_truth_2 h
sequel_unlisted (events.Adopted place count) h = no_truth_2 h
sequel_unlisted event h = refl

more_unlisted : (told : List Event) → list_all is_sequel told ≡ true → filter is_of_lists told ≡ []
more_unlisted [] h = refl
more_unlisted (event ∷ told) h =
    let a : is_sequel event ≡ true = grind (arith, nat_tests) in
    let b : list_all is_sequel told ≡ true = grind (arith, nat_tests) in
    rw (sequel_unlisted event a) (more_unlisted told b)

still_lists : (phase : Phase) (post : Post) (desk : Desk) (found : ℕ) → hands_lists phase ≡ false → filter is_of_lists (told_by (steps.phase_turn phase post desk found)) ≡ []
still_lists phase post desk found h =
    let x : AddsPlain (own_post phase post found) (own_told phase post found) (steps.phase_turn phase post desk found) = phase_still phase post desk found h in
    ap (filter is_of_lists) x.is
    ∙ filter-append is_of_lists (own_told phase post found) x.more
    ∙ rw (own_unlisted (own_told phase post found) (own_any is_of_lists phase post found lists_calm ∙ phase_unlisted phase post found), more_unlisted x.more x.later) refl

taking_lists : (place : ℕ) (post : Post) (desk : Desk) (left : Bool) (found : ℕ) → filter is_of_lists (told_by (keeps.taking place post desk left found)) ≡ (if left then events.Adopted place (length desk.gift) ∷ [] else [])
taking_lists place post desk true found = refl
taking_lists place post desk false found = refl

phase_lists : (phase : Phase) (post : Post) (desk : Desk) (found : ℕ) → filter is_of_lists (told_by (steps.phase_turn phase post desk found)) ≡ list_events phase found (length desk.list) (length desk.gift)
phase_lists Idle post desk found = still_lists Idle post desk found refl
phase_lists (Runs why base) post desk found = still_lists (Runs why base) post desk found refl
phase_lists (Scans later at) post desk found = still_lists (Scans later at) post desk found refl
phase_lists (Works (Getting key at)) post desk found = still_lists (Works (Getting key at)) post desk found refl
phase_lists (Works (Changing kept at)) post desk found = still_lists (Works (Changing kept at)) post desk found refl
phase_lists (Works (Enqueuing kept at)) post desk found = still_lists (Works (Enqueuing kept at)) post desk found refl
phase_lists (Works (Dequeuing at)) post desk found = still_lists (Works (Dequeuing at)) post desk found refl
phase_lists (Works (Keeping MarkLeft)) post desk found = refl
phase_lists (Works (Keeping (TakeList place))) post desk found = taking_lists place post desk (found == 1) found
phase_lists (Works (Keeping (Loosens let_go))) post desk found = still_lists (Works (Keeping (Loosens let_go))) post desk found refl
phase_lists (Works (Keeping (LoadHeld from index))) post desk found = still_lists (Works (Keeping (LoadHeld from index))) post desk found refl
phase_lists (Works (Keeping (StoreHeld from index era))) post desk found = still_lists (Works (Keeping (StoreHeld from index era))) post desk found refl
phase_lists (Works (Keeping (Looks index key at))) post desk found = still_lists (Works (Keeping (Looks index key at))) post desk found refl
phase_lists (Works (Keeping (Misses index))) post desk found = still_lists (Works (Keeping (Misses index))) post desk found refl
phase_lists (Works (Keeping HideSpan)) post desk found = still_lists (Works (Keeping HideSpan)) post desk found refl
phase_lists (Works (Keeping (MarkTaken place count))) post desk found = still_lists (Works (Keeping (MarkTaken place count))) post desk found refl

pub lists_told : ListsTold
lists_told w i = phase_lists (w.seat i).phase (counted (w.seat i).post) (offered w i).desk (finds w i)

pub left_told : LeftTold
left_told w i e =
    let l : Local = w.seat i in
    subst
    (λ (phase : Phase). told_by (steps.phase_turn phase (counted l.post) (record l.desk { gift = gift_at w.seat phase }) (finds w i)) ≡ events.Left (length l.desk.list) ∷ events.End (counted l.post).steps (the_answers.Left (length l.desk.list)) ∷ [])
    (sym e)
    refl

-- no other step than one that takes a list over moves rows from a seat's list to another's
abbrev pub adopts_any : RowMove → Bool
adopts_any (Adopts from) = true
adopts_any m = false

none_if : (b : Bool) (x y : RowMove) → adopts_any x ≡ false → adopts_any y ≡ false → adopts_any (if b then x else y) ≡ false
none_if true x y h g = h
none_if false x y h g = g

allocate_none : (at : AllocateAt) (found : ℕ) → adopts_any (allocate_row at found) ≡ false
allocate_none LoadBirth found = refl
allocate_none (ClaimSlot birth walk) found = none_if (is_claimed found walk.slot) Stays (Claims walk.slot) refl refl
allocate_none (StoreLife birth slot) found = refl

retire_none : (at : RetireAt) (found : ℕ) → adopts_any (retire_row at found) ≡ false
retire_none (LoadLife slot) found = refl
retire_none (LoadRetire slot birth) found = refl
retire_none (StoreRetired slot birth retire) found = refl

base_none : (base : Base) (found : ℕ) → adopts_any (base_row base found) ≡ false
base_none (Begin at) found = refl
base_none (Protect aim index root made at) found = refl
base_none (Reload parent index slot era made) found = refl
base_none (Clear rows index) found = refl
base_none Finish found = refl
base_none (Release index) found = refl
base_none (Allocate at) found = allocate_none at found
base_none (Write slot row place) found = refl
base_none (GiveUp slot) found = refl
base_none (Retire at) found = retire_none at found
base_none (Move at) found = refl

change_none : (kept : ChangeKept) (at : ChangeAt) (post : Post) (found : ℕ) → adopts_any (change_row kept at post found) ≡ false
change_none kept (LoadVersion slot) post found = refl
change_none kept (LoadCount slot) post found = refl
change_none kept (LoadKey slot count) post found = refl
change_none kept (LoadValue slot count key) post found = refl
change_none kept (ExchangeRoot slot) post found =
    let b : ℕ = changed_bucket kept post in
    none_if (found == kept.link) (linked_row b slot kept.link) Stays (none_if (kept.link == 0) (Links b slot) (Replaces b slot (kept.link - 1)) refl refl) refl

enqueue_none : (at : EnqueueAt) (found : ℕ) → adopts_any (enqueue_row at found) ≡ false
enqueue_none LoadNumber found = refl
enqueue_none LoadNext found = refl
enqueue_none (PassTail next) found = refl
enqueue_none (ExchangeNext slot) found = none_if (found == 0) (Appends slot) Stays refl refl
enqueue_none (ExchangeTail slot) found = refl

dequeue_none : (at : DequeueAt) (found : ℕ) → adopts_any (dequeue_row at found) ≡ false
dequeue_none (LoadTail head) found = refl
dequeue_none (SwingTail head next) found = refl
dequeue_none (TakeNumber head next) found = refl
dequeue_none (TakeValue head next number) found = refl
dequeue_none (ExchangeHead head next number value) found = none_if (found == head + 1) (Pops head next) Stays refl refl

scan_none : (at : ScanAt) → adopts_any (scan_row at) ≡ false
scan_none (ReadGuard number) = refl
scan_none (GiveBack place slot) = refl

record Takes (phase : Phase) (found place : ℕ) : Type 0 where
  works : phase ≡ Works (Keeping (TakeList place))
  left : found ≡ 1

no_adoption : (m : RowMove) (place : ℕ) → adopts_any m ≡ false → m ≡ Adopts place → ⊥
no_adoption m place h e = no_truth_2 (sym h ∙ ap adopts_any e)

take_move : (other found place : ℕ) (left : Bool) → (found == 1) ≡ left → (if left then Adopts other else Stays) ≡ Adopts place → Takes (Works (Keeping (TakeList other))) found place
take_move other found place true h e = let q : other ≡ place = cc in record { works = ap (λ (k : ℕ). Works (Keeping (TakeList k))) q; left = number_is found 1 h }
take_move other found place false h e = absurd (no_adoption Stays place refl e)

work_takes : (work : Work) (post : Post) (found place : ℕ) → work_row work post found ≡ Adopts place → Takes (Works work) found place
work_takes (Getting key at) post found place e = absurd (no_adoption Stays place refl e)
work_takes (Changing kept at) post found place e = absurd (no_adoption (change_row kept at post found) place (change_none kept at post found) e)
work_takes (Enqueuing kept at) post found place e = absurd (no_adoption (enqueue_row at found) place (enqueue_none at found) e)
work_takes (Dequeuing at) post found place e = absurd (no_adoption (dequeue_row at found) place (dequeue_none at found) e)
work_takes (Keeping (TakeList other)) post found place e = take_move other found place (found == 1) refl e
work_takes (Keeping (Loosens let_go)) post found place e = absurd (no_adoption Stays place refl e)
work_takes (Keeping (LoadHeld from index)) post found place e = absurd (no_adoption Stays place refl e)
work_takes (Keeping (StoreHeld from index era)) post found place e = absurd (no_adoption Stays place refl e)
work_takes (Keeping (Looks index key at)) post found place e = absurd (no_adoption Stays place refl e)
work_takes (Keeping (Misses index)) post found place e = absurd (no_adoption Stays place refl e)
work_takes (Keeping HideSpan) post found place e = absurd (no_adoption Stays place refl e)
work_takes (Keeping MarkLeft) post found place e = absurd (no_adoption Stays place refl e)
work_takes (Keeping (MarkTaken other count)) post found place e = absurd (no_adoption Stays place refl e)

phase_takes : (phase : Phase) (post : Post) (found place : ℕ) → row_move phase post found ≡ Adopts place → Takes phase found place
phase_takes Idle post found place e = absurd (no_adoption Stays place refl e)
phase_takes (Runs why base) post found place e = absurd (no_adoption (base_row base found) place (base_none base found) e)
phase_takes (Scans later at) post found place e = absurd (no_adoption (scan_row at) place (scan_none at) e)
phase_takes (Works work) post found place e = work_takes work post found place e

-- what such a step tells, and the list that it leaves the seat
take_told : (place : ℕ) (post : Post) (desk : Desk) (found : ℕ) → found ≡ 1 → told_by (keeps.keep_turn (TakeList place) post desk found) ≡ events.Adopted place (length desk.gift) ∷ []
take_told place post desk found h = rw h refl

take_gains : (l : Local) (place found : ℕ) → found ≡ 1 → (settled l (steps.phase_turn (Works (Keeping (TakeList place))) (counted l.post) l.desk found)).desk.list ≡ l.desk.list ++ l.desk.gift
take_gains l place found h = rw h refl

take_goes : (l : Local) (place found : ℕ) → found ≡ 1 → (settled l (steps.phase_turn (Works (Keeping (TakeList place))) (counted l.post) l.desk found)).phase ≡ Works (Keeping (MarkTaken place (length l.desk.gift)))
take_goes l place found h = rw h refl

left_list : (w : World) (place : ℕ) → w.mem (PlaceOf place) ≡ 1 → list_in w place ≡ (w.seat place).desk.list
left_list w place h = rw h refl

pub adopts_told : AdoptsTold
adopts_told w i place e =
    let l : Local = w.seat i in
    let x : Takes l.phase (finds w i) place = phase_takes l.phase l.post (finds w i) place e in
    let m : w.mem (PlaceOf place) ≡ 1 = sym (finds_at w i (Works (Keeping (TakeList place))) x.works) ∙ x.left in
    record {
      takes = x.works;
      left = m;
      told =
          subst
          (λ (phase : Phase). told_by (steps.phase_turn phase (counted l.post) (record l.desk { gift = gift_at w.seat phase }) (finds w i)) ≡ events.Adopted place (length (list_in w place)) ∷ [])
          (sym x.works)
          (take_told place (counted l.post) (record l.desk { gift = (w.seat place).desk.list }) (finds w i) x.left ∙ rw (left_list w place m) refl);
      gains =
          ap (λ (y : Local). y.desk.list) (seat_steps w i)
          ∙ subst
          (λ (phase : Phase). (settled (record l { desk = record l.desk { gift = gift_at w.seat phase } }) (steps.phase_turn phase (counted l.post) (record l.desk { gift = gift_at w.seat phase }) (finds w i))).desk.list ≡ l.desk.list ++ list_in w place)
          (sym x.works)
          (take_gains (record l { desk = record l.desk { gift = (w.seat place).desk.list } }) place (finds w i) x.left ∙ rw (left_list w place m) refl);
      goes =
          ap (λ (y : Local). y.phase) (seat_steps w i)
          ∙ subst
          (λ (phase : Phase). (settled (record l { desk = record l.desk { gift = gift_at w.seat phase } }) (steps.phase_turn phase (counted l.post) (record l.desk { gift = gift_at w.seat phase }) (finds w i))).phase ≡ Works (Keeping (MarkTaken place (length (list_in w place)))))
          (sym x.works)
          (take_goes (record l { desk = record l.desk { gift = (w.seat place).desk.list } }) place (finds w i) x.left ∙ rw (left_list w place m) refl);
    }

pub adopts_alone : AdoptsAlone
adopts_alone w i place e h =
    let l : Local = w.seat i in
    let f : finds w i ≡ 1 = finds_at w i (Works (Keeping (TakeList place))) e ∙ h in
    subst (λ (phase : Phase). row_move phase l.post (finds w i) ≡ Adopts place) (sym e) (taken f)
  where
    taken : finds w i ≡ 1 → keep_row (TakeList place) (finds w i) ≡ Adopts place
    taken f = rw f refl

-- a list that is not there to be taken over, and the mark of one that was
none_there : (place : ℕ) (post : Post) (desk : Desk) (found word : ℕ) → found ≡ word → (word == 1) ≡ false → told_by (keeps.keep_turn (TakeList place) post desk found) ≡ events.End post.steps (keeps.not_taken word) ∷ []
none_there place post desk found word h e = rw (h, e) refl

pub none_taken : NoneTaken
none_taken w i place e n =
    let l : Local = w.seat i in
    let f : finds w i ≡ w.mem (PlaceOf place) = finds_at w i (Works (Keeping (TakeList place))) e in
    subst
    (λ (phase : Phase). told_by (steps.phase_turn phase (counted l.post) (record l.desk { gift = gift_at w.seat phase }) (finds w i)) ≡ events.End (counted l.post).steps (keeps.not_taken (w.mem (PlaceOf place))) ∷ [])
    (sym e)
    (none_there place (counted l.post) (record l.desk { gift = (w.seat place).desk.list }) (finds w i) (w.mem (PlaceOf place)) f n)

pub marked_told : MarkedTold
marked_told w i place count e =
    let l : Local = w.seat i in
    subst
    (λ (phase : Phase). told_by (steps.phase_turn phase (counted l.post) (record l.desk { gift = gift_at w.seat phase }) (finds w i)) ≡ events.End (counted l.post).steps (the_answers.Adopted count) ∷ [])
    (sym e)
    refl
