-- What steps tell of rows that are linked: the exchange of a bucket's root and that of a next link tell it of the new row,
-- and no other step of any row.
use Rattle.std.proofs.Common.{ℕ, ◌+◌, ◌≡◌, Bool, true, false, List, [], ◌∷◌, ◌++◌, length, Option, Some, None, arith, refl, ap, drop}
use Rattle.std.specs.Prelude.{◌==◌, ◌%◌, ◌-◌, ◌&&◌, ◌||◌, nat_lt, if◌then◌else◌}
use Rattle.inv_rows.specs.words.Packed.{reservation_word}
use Rattle.inv_rows.specs.words.Schemes.{has_one_interval, publishes_rows}
use Rattle.inv_rows.specs.words.declared.config.SchemeKind.{SchemeKind}
use Rattle.inv_rows.specs.defs.declared.call.Answer.{Answer}
use Rattle.inv_rows.specs.defs.declared.call.Answer.TheVariants as the_answers
use Rattle.inv_rows.specs.defs.declared.call.ClockMove.TheVariants as moves
use Rattle.inv_rows.specs.defs.declared.event.Event.{Event}
use Rattle.inv_rows.specs.defs.declared.event.Event.TheVariants as events
use Rattle.inv_rows.specs.defs.declared.event.Root.{Root}
use Rattle.inv_rows.specs.defs.declared.event.Root.TheVariants as roots
use Rattle.inv_rows.specs.defs.declared.fold.Change.{Change}
use Rattle.inv_rows.specs.defs.declared.fold.Change.TheVariants as changes
use Rattle.inv_rows.specs.model.declared.ends.AllocateEnd.{AllocateEnd}
use Rattle.inv_rows.specs.model.declared.ends.AllocateEnd.TheVariants as allocate_ends
use Rattle.inv_rows.specs.model.declared.ends.FollowEnd.{FollowEnd}
use Rattle.inv_rows.specs.model.declared.ends.FollowEnd.TheVariants as follow_ends
use Rattle.inv_rows.specs.model.declared.ends.ProtectEnd.TheVariants as protect_ends
use Rattle.inv_rows.specs.model.declared.post.Post.{Post}
use Rattle.inv_rows.specs.model.Allocate as allocates
use Rattle.inv_rows.specs.model.Change as alters
use Rattle.inv_rows.specs.model.Dequeue as dequeues
use Rattle.inv_rows.specs.model.Desks.{Desk, with_life}
use Rattle.inv_rows.specs.model.Enqueue as enqueues
use Rattle.inv_rows.specs.model.Get as gets
use Rattle.inv_rows.specs.model.Guards.{guard_at, guards, published}
use Rattle.inv_rows.specs.model.Keep as keeps
use Rattle.inv_rows.specs.model.Machine as machine
use Rattle.inv_rows.specs.model.Memory.{bump}
use Rattle.inv_rows.specs.model.MoveClock as movers
use Rattle.inv_rows.specs.model.Protect as protects
use Rattle.inv_rows.specs.model.Scan as scan
use Rattle.inv_rows.specs.model.Steps as steps
use Rattle.inv_rows.specs.model.Posts.{stands, withdrawn, cleared, reserves_index, reserves_helper, reserves_span, cleared_from, publishes_index}
use Rattle.inv_rows.specs.model.Phases.{Aim, Alone, Follows, BeginAt, ProtectAt, AllocateAt, RetireAt, MoveAt, Base, Walk, Turn, Outcome, Goes, Ends, Ending}
use Rattle.inv_rows.specs.model.Phases.BeginAt.{LoadLower, PublishSpan}
use Rattle.inv_rows.specs.model.Phases.ProtectAt.{LoadClock, PublishEra, LoadLink, CheckClock, PublishRequest, LoadOwnClock, PublishHelper, LoadOwnLink, CheckOwnClock, AnswerOwn, LoadAnswer, TakeAnswer, WithdrawRequest, WithdrawHelper, LoadWithin, CheckUpper, RaiseUpper, ByHazard}
use Rattle.inv_rows.specs.model.Phases.HazardAt.{FirstLink, PublishLink, CheckLink}
use Rattle.inv_rows.specs.model.Phases.AllocateAt.{LoadBirth, ClaimSlot, StoreLife}
use Rattle.inv_rows.specs.model.Phases.RetireAt.{LoadLife, LoadRetire, StoreRetired}
use Rattle.inv_rows.specs.model.Phases.MoveAt.{LoadEra, LoadRequest, ShowEra, LoadAsked, CheckEra, AnswerAsked, LoadReserved, HandOver, HideEra, HideLate, ExchangeClock}
use Rattle.inv_rows.specs.model.Phases.Base.{Begin, Protect, Reload, Clear, Finish, Release, Allocate, Write, GiveUp, Retire, Move}
use Rattle.inv_rows.specs.model.Phases.Ending.{Done, Protected, Followed, Allocated, Retired, Clocked}
use Rattle.inv_rows.specs.model.Rounds.{bucket_of, scheme_of, index_of, taken_of, clear_base, clear_post, clear_told, finish_base, finish_span, kept_row, let_index, given_up, closed, finishing_by, finishing, clearing_by, clearing, clearing_next_by, clearing_next}
use Rattle.inv_rows.specs.model.Calls.{Task, Gets, Changes, Holds, Enqueues, Dequeues, Next, Again, MakeRoom, Answering, Retiring, AfterScan, Answered, Repeated, Counted, ScanAt, ReadGuard, GiveBack, Why, Phase, Idle, Runs, Scans, Works, Work, Getting, Changing, Enqueuing, Dequeuing, Keeping, KeepAt, Loosens, LoadHeld, StoreHeld, Looks, Misses, HideSpan, MarkLeft, TakeList, MarkTaken, LetGo, Released, Rehold, Dropped, Parting, ChangeKept, EnqueueKept, GetAt, FindVersion, FindCount, FindKey, FindValue, ChangeAt, LoadVersion, LoadCount, LoadKey, LoadValue, ExchangeRoot, EnqueueAt, LoadNumber, LoadNext, PassTail, ExchangeNext, ExchangeTail, DequeueAt, LoadTail, SwingTail, TakeNumber, TakeValue, ExchangeHead, Opens, FollowsHead, Fills, ClearsNext, Clears, Finishes, GivesUp, Retires, Tidies, Advances, Releases}
use Rattle.inv_rows.proofs.model.Facts.{first_of, rest_of, both}
use Rattle.inv_rows.proofs.model.Schemes.{each_clear, each_clear_told, each_finish}
use Rattle.inv_rows.specs.Tries.{is_end}
use Rattle.inv_rows.specs.defs.declared.event.Guard.{Guard}

-- the ends of the queue move to rows that were linked before
-- the events link no rows but those of f
abbrev pub links_one : (ℕ → Bool) → Event → Bool
links_one f (events.Link root slot) = is_end root || f slot
links_one f event = true

abbrev pub links_in : (ℕ → Bool) → List Event → Bool
links_in f [] = true
links_in f (event ∷ told) = links_one f event && links_in f told

pub append_in : (f : ℕ → Bool) (a b : List Event) → links_in f a ≡ true → links_in f b ≡ true → links_in f (a ++ b) ≡ true
append_in f [] b h k = k
append_in f (event ∷ a) b h k = both (links_one f event) (links_in f (a ++ b)) (first_of (links_one f event) (links_in f a) h) (append_in f a b (rest_of (links_one f event) (links_in f a) h) k)

-- the machines link none
abbrev pub Tells : (ℕ → Bool) → Turn → Type 0
Tells f t = links_in f t.told ≡ true

held_in : (f : ℕ → Bool) (index : ℕ) (root : Root) (link n : ℕ) → links_in f (protects.told_held index root link n) ≡ true
held_in f index (roots.Next parent) link n = grind arith
held_in f index (roots.Bucket bucket) link n = grind arith
held_in f index roots.Head link n = grind arith
held_in f index roots.Tail link n = grind arith

concluded_in : (f : ℕ → Bool) (aim : Aim) (index : ℕ) (root : Root) (n link era : ℕ) (post : Post) (told : List Event) → links_in f told ≡ true → Tells f (protects.concluded aim index root n link era post told)
concluded_in f Alone index root n link era post told h = h
concluded_in f Follows index root n link era post told h = by_link (link == 0) refl
  where
    by_link : (x : Bool) → (link == 0) ≡ x → Tells f (protects.concluded Follows index root n link era post told)
    by_link true e = rw e h
    by_link false e = rw e h

protected_in : (f : ℕ → Bool) (aim : Aim) (index : ℕ) (root : Root) (n link era : ℕ) (post : Post) → Tells f (protects.protected aim index root n link era post)
protected_in f aim index root n link era post = concluded_in f aim index root n link era (protects.held_post post index root link) (protects.told_held index root link n) (held_in f index root link n)

protect_in : (f : ℕ → Bool) (aim : Aim) (index : ℕ) (root : Root) (n : ℕ) (at : ProtectAt) (post : Post) (found : ℕ) → Tells f (machine.protect_turn aim index root n at post found)
protect_in f aim index root n (LoadClock tries) post found = refl
protect_in f aim index root n (PublishEra era tries) post found = refl
protect_in f aim index root n (LoadLink era tries) post found = refl
protect_in f aim index root n (CheckClock era tries link) post found = grind (arith, protected_in f aim index root n link era post)
protect_in f aim index root n PublishRequest post found = refl
protect_in f aim index root n LoadOwnClock post found = refl
protect_in f aim index root n (PublishHelper first era last) post found = refl
protect_in f aim index root n (LoadOwnLink first era last) post found = refl
protect_in f aim index root n (CheckOwnClock first era last link) post found = grind arith
protect_in f aim index root n (AnswerOwn first era link) post found = grind arith
protect_in f aim index root n (LoadAnswer first) post found = refl
protect_in f aim index root n (TakeAnswer link era) post found = append_in f (reserves_index post index era) (protects.told_held index root link n) refl (held_in f index root link n)
protect_in f aim index root n (WithdrawRequest link era) post found = refl
protect_in f aim index root n (WithdrawHelper link era) post found = concluded_in f aim index root n link era post (reserves_helper post 0) refl
protect_in f aim index root n LoadWithin post found = refl
protect_in f aim index root n (CheckUpper link) post found = grind (arith, protected_in f aim index root n link found post)
protect_in f aim index root n (RaiseUpper era) post found = refl
protect_in f aim index root n (ByHazard FirstLink) post found = grind (arith, protected_in f aim index root n found 0 post)
protect_in f aim index root n (ByHazard (PublishLink link)) post found = refl
protect_in f aim index root n (ByHazard (CheckLink link)) post found = grind (arith, protected_in f aim index root n found 0 post)

move_in : (f : ℕ → Bool) (at : MoveAt) (post : Post) (found : ℕ) → Tells f (machine.move_turn at post found)
move_in f (LoadEra helps) post found = grind arith
move_in f (LoadRequest era seat shows) post found = refl
move_in f (ShowEra era seat tag index root) post found = refl
move_in f (LoadAsked era seat tag index root) post found = refl
move_in f (CheckEra era seat tag index root link) post found = grind arith
move_in f (AnswerAsked era seat tag index root link) post found = grind arith
move_in f (LoadReserved era seat tag index root link) post found = grind arith
move_in f (HandOver era seat tag index root link old) post found = handed (found == reservation_word (record { era = old; tag = tag }))
  where
    handed : (same : Bool) → Tells f (movers.after_hand_over era seat tag index old post same)
    handed true = refl
    handed false = refl
move_in f (HideEra era) post found = refl
move_in f (HideLate seen) post found = refl
move_in f (ExchangeClock era) post found = grind arith

begin_in : (f : ℕ → Bool) (at : BeginAt) (post : Post) (found : ℕ) → Tells f (machine.begin_turn at post found)
begin_in f LoadLower post found = refl
begin_in f (PublishSpan era) post found = refl

walking_in : (f : ℕ → Bool) (birth : ℕ) (post : Post) (x : Option Walk) → Tells f (allocates.walking birth post x)
walking_in f birth post None = refl
walking_in f birth post (Some walk) = refl

allocate_in : (f : ℕ → Bool) (at : AllocateAt) (post : Post) (found : ℕ) → Tells f (machine.allocate_turn at post found)
allocate_in f LoadBirth post found = refl
allocate_in f (ClaimSlot birth walk) post found = by_shown (allocates.is_claimed found walk.slot) refl
  where
    by_shown : (x : Bool) → allocates.is_claimed found walk.slot ≡ x → Tells f (machine.allocate_turn (ClaimSlot birth walk) post found)
    by_shown true e = rw e (walking_in f birth post (allocates.walk_past post.layout.config.slots walk found))
    by_shown false e = rw e refl
allocate_in f (StoreLife birth slot) post found = refl

retire_in : (f : ℕ → Bool) (at : RetireAt) (post : Post) (found : ℕ) → Tells f (machine.retire_turn at post found)
retire_in f (LoadLife slot) post found = refl
retire_in f (LoadRetire slot birth) post found = refl
retire_in f (StoreRetired slot birth retire) post found = refl

cleared_in : (f : ℕ → Bool) (index : ℕ) (x : Option ℕ) → links_in f (cleared index x) ≡ true
cleared_in f index None = refl
cleared_in f index (Some slot) = refl

shown_in : (f : ℕ → Bool) (rows : Bool) (post : Post) (index number : ℕ) → links_in f (publishes_index rows post index number) ≡ true
shown_in f true post index number = refl
shown_in f false post index number = refl

base_in : (f : ℕ → Bool) (base : Base) (post : Post) (found : ℕ) → Tells f (machine.after base post found)
base_in f (Begin at) post found = begin_in f at post found
base_in f (Protect aim index root steps at) post found = protect_in f aim index root (bump steps) at post found
base_in f (Reload parent index slot era steps) post found = grind arith
base_in f (Clear rows index) post found = append_in f (cleared index (stands post index)) (publishes_index rows post index 0) (cleared_in f index (stands post index)) (shown_in f rows post index 0)
base_in f Finish post found = refl
base_in f (Release index) post found = append_in f (cleared index (stands post index)) (reserves_span post None) (cleared_in f index (stands post index)) refl
base_in f (Allocate at) post found = allocate_in f at post found
base_in f (Write slot row place) post found = grind arith
base_in f (GiveUp slot) post found = refl
base_in f (Retire at) post found = retire_in f at post found
base_in f (Move at) post found = move_in f at post found

-- nor what comes after a machine, beyond what was told
given_up_in : (f : ℕ → Bool) (answer : Answer) (post : Post) (desk : Desk) (told : List Event) (x : Option ℕ) → links_in f told ≡ true → links_in f (given_up answer post desk told x).told ≡ true
given_up_in f answer post desk told None h = h
given_up_in f answer post desk told (Some slot) h = h

closed_in : (f : ℕ → Bool) (task : Task) (next : Next) (post : Post) (desk : Desk) (told : List Event) → links_in f told ≡ true → links_in f (closed task next post desk told).told ≡ true
closed_in f task Again post desk told h = h
closed_in f task MakeRoom post desk told h = h
closed_in f task (Answering answer) post desk told h = given_up_in f answer post desk told (taken_of task) h
closed_in f task (Retiring slot answer) post desk told h = h

finish_in : (f : ℕ → Bool) (task : Task) (next : Next) (post : Post) (desk : Desk) (told : List Event) (x : Option ℕ) → links_in f told ≡ true → links_in f (finishing_by task next post desk told (finish_span x)).told ≡ true
finish_in f task next post desk told None h = h
finish_in f task next post desk told (Some slot) h = closed_in f task next post desk told h

finishing_by_in : (f : ℕ → Bool) (task : Task) (next : Next) (post : Post) (desk : Desk) (told : List Event) (scheme : SchemeKind) → links_in f told ≡ true → links_in f (finishing_by task next post desk told (finish_base scheme post)).told ≡ true
finishing_by_in f task next post desk told scheme h =
    each_finish scheme post (λ (base : Option Base). links_in f (finishing_by task next post desk told base).told ≡ true)
    (closed_in f task next post desk told h)
    (finish_in f task next post desk told (kept_row post) h)

finishing_in : (f : ℕ → Bool) (task : Task) (next : Next) (post : Post) (desk : Desk) (told : List Event) → links_in f told ≡ true → links_in f (finishing task next post desk told).told ≡ true
finishing_in f task Again post desk told h = closed_in f task Again post desk told h
finishing_in f task MakeRoom post desk told h = finishing_by_in f task MakeRoom post desk told (scheme_of post) h
finishing_in f task (Answering answer) post desk told h = finishing_by_in f task (Answering answer) post desk told (scheme_of post) h
finishing_in f task (Retiring slot answer) post desk told h = finishing_by_in f task (Retiring slot answer) post desk told (scheme_of post) h

clear_in : (f : ℕ → Bool) (scheme : SchemeKind) (post : Post) (index : ℕ) → links_in f (clear_told scheme post index) ≡ true
clear_in f scheme post index = each_clear_told scheme post index (λ (events : List Event). links_in f events ≡ true) refl (cleared_in f index (stands post index))

clearing_by_in : (f : ℕ → Bool) (task : Task) (next : Next) (post : Post) (desk : Desk) (told : List Event) (scheme : SchemeKind) → links_in f told ≡ true → links_in f (clearing_by task next post desk told (clear_base scheme (index_of task))).told ≡ true
clearing_by_in f task next post desk told scheme h =
    each_clear scheme (index_of task) (λ (base : Option Base). links_in f (clearing_by task next post desk told base).told ≡ true)
    h
    (finishing_in f task next (clear_post (scheme_of post) post (index_of task)) desk (told ++ clear_told (scheme_of post) post (index_of task)) (append_in f told (clear_told (scheme_of post) post (index_of task)) h (clear_in f (scheme_of post) post (index_of task))))

clearing_in : (f : ℕ → Bool) (task : Task) (next : Next) (post : Post) (desk : Desk) (told : List Event) → links_in f told ≡ true → links_in f (clearing task next post desk told).told ≡ true
clearing_in f task next post desk told h = clearing_by_in f task next post desk told (scheme_of post) h

clearing_next_by_in : (f : ℕ → Bool) (next : Next) (post : Post) (desk : Desk) (told : List Event) (scheme : SchemeKind) → links_in f told ≡ true → links_in f (clearing_next_by next post desk told (clear_base scheme 1)).told ≡ true
clearing_next_by_in f next post desk told scheme h =
    each_clear scheme 1 (λ (base : Option Base). links_in f (clearing_next_by next post desk told base).told ≡ true)
    h
    (clearing_in f Dequeues next (clear_post (scheme_of post) post 1) desk (told ++ clear_told (scheme_of post) post 1) (append_in f told (clear_told (scheme_of post) post 1) h (clear_in f (scheme_of post) post 1)))

clearing_next_in : (f : ℕ → Bool) (next : Next) (post : Post) (desk : Desk) (told : List Event) → links_in f told ≡ true → links_in f (clearing_next next post desk told).told ≡ true
clearing_next_in f next post desk told h = clearing_next_by_in f next post desk told (scheme_of post) h

got_in : (f : ℕ → Bool) (key version : ℕ) (value : Option ℕ) (post : Post) (desk : Desk) (told : List Event) → links_in f told ≡ true → links_in f (gets.got key version value post desk told).told ≡ true
got_in f key version value post desk told h =
    clearing_in f (Gets key) (Answering (the_answers.Got version value)) post desk (told ++ events.Got (bucket_of post key) version key value ∷ []) (append_in f told (events.Got (bucket_of post key) version key value ∷ []) h refl)

finding_in : (f : ℕ → Bool) (key slot version count : ℕ) (post : Post) (desk : Desk) (more : Bool) (pair : ℕ) → links_in f (gets.finding key slot version count post desk more pair).told ≡ true
finding_in f key slot version count post desk true pair = refl
finding_in f key slot version count post desk false pair = got_in f key version None post desk [] refl

found_key_in : (f : ℕ → Bool) (key slot version count pair : ℕ) (post : Post) (desk : Desk) (own : Bool) → links_in f (gets.found_key key slot version count pair post desk own).told ≡ true
found_key_in f key slot version count pair post desk true = refl
found_key_in f key slot version count pair post desk false = finding_in f key slot version count post desk (nat_lt (pair + 1) count) (pair + 1)

get_in : (f : ℕ → Bool) (key : ℕ) (at : GetAt) (post : Post) (desk : Desk) (found : ℕ) → links_in f (gets.get_turn key at post desk found).told ≡ true
get_in f key (FindVersion slot) post desk found = refl
get_in f key (FindCount slot version) post desk found = finding_in f key slot version found post desk (nat_lt 0 found) 0
get_in f key (FindKey slot version count pair) post desk found = found_key_in f key slot version count pair post desk (found == key)
get_in f key (FindValue slot version pair) post desk found = got_in f key version (Some found) post desk [] refl

deciding_by_in : (f : ℕ → Bool) (kept : ChangeKept) (post : Post) (desk : Desk) (told : List Event) (x : Option Answer) → links_in f told ≡ true → links_in f (alters.deciding_by kept post desk told x).told ≡ true
deciding_by_in f kept post desk told (Some answer) h = clearing_in f (Changes kept) (Answering answer) post desk told h
deciding_by_in f kept post desk told None h = h

deciding_in : (f : ℕ → Bool) (kept : ChangeKept) (post : Post) (desk : Desk) (told : List Event) → links_in f told ≡ true → links_in f (alters.deciding kept post desk told).told ≡ true
deciding_in f kept post desk told h = deciding_by_in f kept post desk told (alters.refused post.layout.config kept) h

reading_in : (f : ℕ → Bool) (kept : ChangeKept) (slot count : ℕ) (post : Post) (desk : Desk) (more : Bool) → links_in f (alters.reading kept slot count post desk more).told ≡ true
reading_in f kept slot count post desk true = refl
reading_in f kept slot count post desk false = deciding_in f kept post desk [] refl

cut_in : (f : ℕ → Bool) (link : ℕ) → links_in f (alters.told_cut link) ≡ true
cut_in f link = grind arith

change_told_in : (f : ℕ → Bool) (bucket version : ℕ) (change : Change) → links_in f (alters.told_change bucket version change ∷ []) ≡ true
change_told_in f bucket version (changes.Put key value) = refl
change_told_in f bucket version (changes.Removed key) = refl

linked_in : (f : ℕ → Bool) (kept : ChangeKept) (slot : ℕ) (post : Post) → f slot ≡ true → links_in f (alters.told_linked kept slot post) ≡ true
linked_in f kept slot post h =
    both (f slot) (links_in f (alters.told_cut kept.link ++ alters.told_change (alters.changed_bucket kept post) (kept.version + 1) kept.change ∷ [])) h
    (append_in f (alters.told_cut kept.link) (alters.told_change (alters.changed_bucket kept post) (kept.version + 1) kept.change ∷ []) (cut_in f kept.link) (change_told_in f (alters.changed_bucket kept post) (kept.version + 1) kept.change))

exchanged_in : (f : ℕ → Bool) (kept : ChangeKept) (slot : ℕ) (post : Post) (desk : Desk) (same : Bool) → (same ≡ true → f slot ≡ true) → links_in f (alters.exchanged kept slot post desk same).told ≡ true
exchanged_in f kept slot post desk true g =
    clearing_in f (Changes (record kept { taken = None })) (alters.answer_done (kept.version + 1) kept.link) post desk (alters.told_linked kept slot post) (linked_in f kept slot post (g refl))
exchanged_in f kept slot post desk false g = clearing_in f (Changes kept) Again post desk [] refl

change_in : (f : ℕ → Bool) (kept : ChangeKept) (at : ChangeAt) (post : Post) (desk : Desk) (found : ℕ) → ((slot : ℕ) → at ≡ ExchangeRoot slot → (found == kept.link) ≡ true → f slot ≡ true) → links_in f (alters.change_turn kept at post desk found).told ≡ true
change_in f kept (LoadVersion slot) post desk found g = refl
change_in f kept (LoadCount slot) post desk found g = reading_in f kept slot found post desk (nat_lt 0 found)
change_in f kept (LoadKey slot count) post desk found g = refl
change_in f kept (LoadValue slot count key) post desk found g = reading_in f (alters.with_read kept key found) slot count post desk (nat_lt (length kept.pairs + 1) count)
change_in f kept (ExchangeRoot slot) post desk found g = exchanged_in f kept slot post desk (found == kept.link) (λ e. g slot refl e)

appending_in : (f : ℕ → Bool) (kept : EnqueueKept) (post : Post) (desk : Desk) (spent : Bool) → links_in f (enqueues.appending kept post desk spent).told ≡ true
appending_in f kept post desk true = clearing_in f (Enqueues kept) (Answering (the_answers.Spent kept.number)) post desk [] refl
appending_in f kept post desk false = refl

at_next_in : (f : ℕ → Bool) (kept : EnqueueKept) (next : ℕ) (post : Post) (desk : Desk) (none : Bool) → links_in f (enqueues.at_next kept next post desk none).told ≡ true
at_next_in f kept next post desk true = appending_in f kept post desk (kept.number == post.layout.config.last_version)
at_next_in f kept next post desk false = refl

appended_in : (f : ℕ → Bool) (kept : EnqueueKept) (slot : ℕ) (post : Post) (desk : Desk) (same : Bool) → (same ≡ true → f slot ≡ true) → links_in f (enqueues.appended kept slot post desk same).told ≡ true
appended_in f kept slot post desk true g = both (f slot) true (g refl) refl
appended_in f kept slot post desk false g = clearing_in f (Enqueues kept) Again post desk [] refl

end_in : (f : ℕ → Bool) (tail : Bool) (slot : ℕ) (same : Bool) → links_in f (enqueues.told_link (if tail then roots.Tail else roots.Head) slot same) ≡ true
end_in f true slot true = refl
end_in f false slot true = refl
end_in f tail slot false = refl

enqueue_in : (f : ℕ → Bool) (kept : EnqueueKept) (at : EnqueueAt) (post : Post) (desk : Desk) (found : ℕ) → ((slot : ℕ) → at ≡ ExchangeNext slot → (found == 0) ≡ true → f slot ≡ true) → links_in f (enqueues.enqueue_turn kept at post desk found).told ≡ true
enqueue_in f kept LoadNumber post desk found g = refl
enqueue_in f kept LoadNext post desk found g = at_next_in f kept found post desk (found == 0)
enqueue_in f kept (PassTail next) post desk found g = clearing_in f (Enqueues kept) Again post desk (enqueues.told_link roots.Tail (next - 1) (found == kept.tail + 1)) (end_in f true (next - 1) (found == kept.tail + 1))
enqueue_in f kept (ExchangeNext slot) post desk found g = appended_in f kept slot post desk (found == 0) (λ e. g slot refl e)
enqueue_in f kept (ExchangeTail slot) post desk found g =
    clearing_in f (Enqueues kept) (Answering (the_answers.Queued (kept.number + 1))) post desk (enqueues.told_link roots.Tail slot (found == kept.tail + 1)) (end_in f true slot (found == kept.tail + 1))

followed_row_in : (f : ℕ → Bool) (head next : ℕ) (post : Post) (desk : Desk) (told : List Event) (lags : Bool) → links_in f told ≡ true → links_in f (dequeues.followed_row head next post desk told lags).told ≡ true
followed_row_in f head next post desk told true h = h
followed_row_in f head next post desk told false h = h

followed_in : (f : ℕ → Bool) (head tail : ℕ) (ending : FollowEnd) (post : Post) (desk : Desk) (told : List Event) → links_in f told ≡ true → links_in f (dequeues.followed head tail ending post desk told).told ≡ true
followed_in f head tail (follow_ends.Followed slot) post desk told h = followed_row_in f head slot post desk told (tail == head + 1) h
followed_in f head tail follow_ends.NoNext post desk told h = clearing_next_in f (Answering the_answers.Empty) post desk told h
followed_in f head tail (follow_ends.RootMoved seen) post desk told h = clearing_next_in f Again post desk told h

taken_in : (f : ℕ → Bool) (head next number value : ℕ) (post : Post) (desk : Desk) (same : Bool) → links_in f (dequeues.taken head next number value post desk same).told ≡ true
taken_in f head next number value post desk true =
    clearing_next_in f (Retiring head (the_answers.Taken number value moves.Still)) post desk (events.Link roots.Head next ∷ events.Cut head ∷ events.Taken number value ∷ []) refl
taken_in f head next number value post desk false = clearing_next_in f Again post desk [] refl

dequeue_in : (f : ℕ → Bool) (at : DequeueAt) (post : Post) (desk : Desk) (found : ℕ) → links_in f (dequeues.dequeue_turn at post desk found).told ≡ true
dequeue_in f (LoadTail head) post desk found = refl
dequeue_in f (SwingTail head next) post desk found = clearing_next_in f Again post desk (enqueues.told_link roots.Tail next (found == head + 1)) (end_in f true next (found == head + 1))
dequeue_in f (TakeNumber head next) post desk found = refl
dequeue_in f (TakeValue head next number) post desk found = refl
dequeue_in f (ExchangeHead head next number value) post desk found = taken_in f head next number value post desk (found == head + 1)

-- the calls that work on what is kept
released_in : (f : ℕ → Bool) (let_go : LetGo) (post : Post) (desk : Desk) (told : List Event) → links_in f told ≡ true → links_in f (keeps.released let_go post desk told).told ≡ true
released_in f Released post desk told h = h
released_in f (Rehold key) post desk told h = h
released_in f (Dropped index) post desk told h = h
released_in f (Parting index) post desk told h = h

copied_in : (f : ℕ → Bool) (from index : ℕ) (post : Post) (desk : Desk) (reserved : List Event) (x : Option ℕ) → links_in f reserved ≡ true → links_in f (keeps.copied from index post desk reserved x).told ≡ true
copied_in f from index post desk reserved None h = refl
copied_in f from index post desk reserved (Some slot) h =
    append_in f (cleared index (stands post index) ++ reserved) (events.Copied from index slot ∷ []) (append_in f (cleared index (stands post index)) reserved (cleared_in f index (stands post index)) h) refl

load_held_in : (f : ℕ → Bool) (from index : ℕ) (post : Post) (desk : Desk) (found : ℕ) (one : Bool) → links_in f (keeps.load_held from index post desk found one).told ≡ true
load_held_in f from index post desk found true = copied_in f from index post desk [] (stands post from) refl
load_held_in f from index post desk found false = refl

looking_in : (f : ℕ → Bool) (index key slot version count : ℕ) (post : Post) (desk : Desk) (more : Bool) (pair : ℕ) → links_in f (keeps.looking index key slot version count post desk more pair).told ≡ true
looking_in f index key slot version count post desk true pair = refl
looking_in f index key slot version count post desk false pair = refl

looked_key_in : (f : ℕ → Bool) (index key slot version count pair : ℕ) (post : Post) (desk : Desk) (own : Bool) → links_in f (keeps.looked_key index key slot version count pair post desk own).told ≡ true
looked_key_in f index key slot version count pair post desk true = refl
looked_key_in f index key slot version count pair post desk false = looking_in f index key slot version count post desk (nat_lt (pair + 1) count) (pair + 1)

look_in : (f : ℕ → Bool) (index key : ℕ) (at : GetAt) (post : Post) (desk : Desk) (found : ℕ) → links_in f (keeps.look_turn index key at post desk found).told ≡ true
look_in f index key (FindVersion slot) post desk found = refl
look_in f index key (FindCount slot version) post desk found = looking_in f index key slot version found post desk (nat_lt 0 found) 0
look_in f index key (FindKey slot version count pair) post desk found = looked_key_in f index key slot version count pair post desk (found == key)
look_in f index key (FindValue slot version pair) post desk found = refl

-- and those of seats that leave
cleared_all_in : (f : ℕ → Bool) (index : ℕ) (rows : List (Option ℕ)) → links_in f (cleared_from index rows) ≡ true
cleared_all_in f index [] = refl
cleared_all_in f index (row ∷ rows) = append_in f (cleared index row) (cleared_from (index + 1) rows) (cleared_in f index row) (cleared_all_in f (index + 1) rows)

taking_in : (f : ℕ → Bool) (place : ℕ) (post : Post) (desk : Desk) (left : Bool) (found : ℕ) → links_in f (keeps.taking place post desk left found).told ≡ true
taking_in f place post desk true found = refl
taking_in f place post desk false found = refl

keep_in : (f : ℕ → Bool) (at : KeepAt) (post : Post) (desk : Desk) (found : ℕ) → links_in f (keeps.keep_turn at post desk found).told ≡ true
keep_in f (Loosens let_go) post desk found =
    released_in f let_go (withdrawn post (let_index let_go)) desk (cleared (let_index let_go) (stands post (let_index let_go))) (cleared_in f (let_index let_go) (stands post (let_index let_go)))
keep_in f (LoadHeld from index) post desk found = load_held_in f from index post desk found (has_one_interval (scheme_of post))
keep_in f (StoreHeld from index era) post desk found = copied_in f from index post desk (publishes_index (publishes_rows (scheme_of post)) post index era) (stands post from) (shown_in f (publishes_rows (scheme_of post)) post index era)
keep_in f (Looks index key at) post desk found = look_in f index key at post desk found
keep_in f (Misses index) post desk found = refl
keep_in f HideSpan post desk found = append_in f (cleared_from 2 (drop 2 post.standing)) (reserves_span post None) (cleared_all_in f 2 (drop 2 post.standing)) refl
keep_in f MarkLeft post desk found = refl
keep_in f (TakeList place) post desk found = taking_in f place post desk (found == 1) found
keep_in f (MarkTaken place count) post desk found = refl

-- what comes after a machine
opened_row_in : (f : ℕ → Bool) (task : Task) (slot : ℕ) (post : Post) (desk : Desk) (told : List Event) → links_in f told ≡ true → links_in f (steps.opened_row task slot post desk told).told ≡ true
opened_row_in f (Gets key) slot post desk told h = h
opened_row_in f (Changes kept) slot post desk told h = h
opened_row_in f (Holds key) slot post desk told h = h
opened_row_in f (Enqueues kept) slot post desk told h = h
opened_row_in f Dequeues slot post desk told h = h

opened_null_in : (f : ℕ → Bool) (task : Task) (post : Post) (desk : Desk) (told : List Event) → links_in f told ≡ true → links_in f (steps.opened_null task post desk told).told ≡ true
opened_null_in f (Gets key) post desk told h = got_in f key 0 None post desk told h
opened_null_in f (Changes kept) post desk told h = deciding_in f (alters.at_link kept 0) post desk told h
opened_null_in f (Holds key) post desk told h = clearing_in f (Holds key) (Answering the_answers.Nothing) post desk told h
opened_null_in f (Enqueues kept) post desk told h = clearing_in f (Enqueues kept) Again post desk told h
opened_null_in f Dequeues post desk told h = clearing_in f Dequeues Again post desk told h

opened_in : (f : ℕ → Bool) (task : Task) (ending : Ending) (post : Post) (desk : Desk) (told : List Event) → links_in f told ≡ true → links_in f (steps.opened task ending post desk told).told ≡ true
opened_in f task (Protected (protect_ends.Held slot era)) post desk told h = opened_row_in f task slot post desk told h
opened_in f task (Protected protect_ends.Null) post desk told h = opened_null_in f task post desk told h
opened_in f task Done post desk told h = h
opened_in f task (Followed end) post desk told h = h
opened_in f task (Allocated end) post desk told h = h
opened_in f task (Retired life) post desk told h = h
opened_in f task (Clocked clock) post desk told h = h

filled_by_in : (f : ℕ → Bool) (task : Task) (ending : AllocateEnd) (post : Post) (desk : Desk) (told : List Event) → links_in f told ≡ true → links_in f (steps.filled_by task ending post desk told).told ≡ true
filled_by_in f (Changes kept) (allocate_ends.Given slot birth) post desk told h = h
filled_by_in f (Changes kept) allocate_ends.Full post desk told h = clearing_in f (Changes (alters.with_walked kept)) (alters.no_room kept.walked) post desk told h
filled_by_in f (Enqueues kept) (allocate_ends.Given slot birth) post desk told h = h
filled_by_in f (Enqueues kept) allocate_ends.Full post desk told h = clearing_in f (Enqueues (enqueues.item_walked kept)) (alters.no_room kept.walked) post desk told h
filled_by_in f (Gets key) ending post desk told h = closed_in f (Gets key) Again post desk told h
filled_by_in f (Holds key) ending post desk told h = closed_in f (Holds key) Again post desk told h
filled_by_in f Dequeues ending post desk told h = closed_in f Dequeues Again post desk told h

written_row_in : (f : ℕ → Bool) (task : Task) (post : Post) (desk : Desk) (told : List Event) → links_in f told ≡ true → links_in f (steps.written_row task post desk told).told ≡ true
written_row_in f (Changes kept) post desk told h = h
written_row_in f (Enqueues kept) post desk told h = h
written_row_in f (Gets key) post desk told h = closed_in f (Gets key) Again post desk told h
written_row_in f (Holds key) post desk told h = closed_in f (Holds key) Again post desk told h
written_row_in f Dequeues post desk told h = closed_in f Dequeues Again post desk told h

filled_in : (f : ℕ → Bool) (task : Task) (ending : Ending) (post : Post) (desk : Desk) (told : List Event) → links_in f told ≡ true → links_in f (steps.filled task ending post desk told).told ≡ true
filled_in f task (Allocated ending) post desk told h = filled_by_in f task ending post desk told h
filled_in f task Done post desk told h = written_row_in f task post desk told h
filled_in f task (Protected end) post desk told h = written_row_in f task post desk told h
filled_in f task (Followed end) post desk told h = written_row_in f task post desk told h
filled_in f task (Retired life) post desk told h = written_row_in f task post desk told h
filled_in f task (Clocked clock) post desk told h = written_row_in f task post desk told h

followed_by_in : (f : ℕ → Bool) (head tail : ℕ) (ending : Ending) (post : Post) (desk : Desk) (told : List Event) → links_in f told ≡ true → links_in f (steps.followed_by head tail ending post desk told).told ≡ true
followed_by_in f head tail (Followed ending) post desk told h = followed_in f head tail ending post desk told h
followed_by_in f head tail Done post desk told h = closed_in f Dequeues Again post desk told h
followed_by_in f head tail (Protected end) post desk told h = closed_in f Dequeues Again post desk told h
followed_by_in f head tail (Allocated end) post desk told h = closed_in f Dequeues Again post desk told h
followed_by_in f head tail (Retired life) post desk told h = closed_in f Dequeues Again post desk told h
followed_by_in f head tail (Clocked clock) post desk told h = closed_in f Dequeues Again post desk told h

tidying_in : (f : ℕ → Bool) (answer : Answer) (post : Post) (desk : Desk) (told : List Event) (due : Bool) → links_in f told ≡ true → links_in f (steps.tidying answer post desk told due).told ≡ true
tidying_in f answer post desk told true h = h
tidying_in f answer post desk told false h = h

retired_by_in : (f : ℕ → Bool) (answer : Answer) (ending : Ending) (post : Post) (desk : Desk) (told : List Event) → links_in f told ≡ true → links_in f (steps.retired_by answer ending post desk told).told ≡ true
retired_by_in f answer (Retired life) post desk told h = tidying_in f answer post (with_life desk life) told (post.retired % post.layout.config.every == 0) h
retired_by_in f answer Done post desk told h = h
retired_by_in f answer (Protected end) post desk told h = h
retired_by_in f answer (Followed end) post desk told h = h
retired_by_in f answer (Allocated end) post desk told h = h
retired_by_in f answer (Clocked clock) post desk told h = h

tidied_in : (f : ℕ → Bool) (later : AfterScan) (ending : Ending) (post : Post) (desk : Desk) (told : List Event) → links_in f told ≡ true → links_in f (steps.tidied later ending post desk told).told ≡ true
tidied_in f later (Clocked clock) post desk told h = h
tidied_in f later Done post desk told h = h
tidied_in f later (Protected end) post desk told h = h
tidied_in f later (Followed end) post desk told h = h
tidied_in f later (Allocated end) post desk told h = h
tidied_in f later (Retired life) post desk told h = h

advanced_in : (f : ℕ → Bool) (ending : Ending) (post : Post) (desk : Desk) (told : List Event) → links_in f told ≡ true → links_in f (steps.advanced ending post desk told).told ≡ true
advanced_in f (Clocked clock) post desk told h = h
advanced_in f Done post desk told h = h
advanced_in f (Protected end) post desk told h = h
advanced_in f (Followed end) post desk told h = h
advanced_in f (Allocated end) post desk told h = h
advanced_in f (Retired life) post desk told h = h

resume_in : (f : ℕ → Bool) (why : Why) (ending : Ending) (post : Post) (desk : Desk) (told : List Event) → links_in f told ≡ true → links_in f (steps.resume why ending post desk told).told ≡ true
resume_in f (Opens task) ending post desk told h = opened_in f task ending post desk told h
resume_in f (FollowsHead head tail) ending post desk told h = followed_by_in f head tail ending post desk told h
resume_in f (Fills task) ending post desk told h = filled_in f task ending post desk told h
resume_in f (ClearsNext next) ending post desk told h = clearing_in f Dequeues next post desk told h
resume_in f (Clears task next) ending post desk told h = finishing_in f task next post desk told h
resume_in f (Finishes task next) ending post desk told h = closed_in f task next post desk told h
resume_in f (GivesUp answer) ending post desk told h = h
resume_in f (Retires answer) ending post desk told h = retired_by_in f answer ending post desk told h
resume_in f (Tidies later) ending post desk told h = tidied_in f later ending post desk told h
resume_in f Advances ending post desk told h = advanced_in f ending post desk told h
resume_in f (Releases let_go) ending post desk told h = released_in f let_go post desk told h

resumed_in : (f : ℕ → Bool) (why : Why) (desk : Desk) (post : Post) (told : List Event) (outcome : Outcome) → links_in f told ≡ true → links_in f (steps.resumed why desk post told outcome).told ≡ true
resumed_in f why desk post told (Goes base) h = h
resumed_in f why desk post told (Ends ending) h = resume_in f why ending post desk told h

-- a scan
scanned_in : (f : ℕ → Bool) (later : AfterScan) (post : Post) (desk : Desk) (told : List Event) → links_in f told ≡ true → links_in f (scan.scanned later post desk told).told ≡ true
scanned_in f (Answered answer) post desk told h = h
scanned_in f (Repeated task) post desk told h = h
scanned_in f Counted post desk told h = h

giving_back_in : (f : ℕ → Bool) (later : AfterScan) (post : Post) (desk : Desk) (told : List Event) (x : Option scan.Entry) → links_in f told ≡ true → links_in f (scan.giving_back later post desk told x).told ≡ true
giving_back_in f later post desk told None h = scanned_in f later post (scan.with_kept desk) told h
giving_back_in f later post desk told (Some entry) h = h

read_in : (f : ℕ → Bool) (later : AfterScan) (number : ℕ) (post : Post) (desk : Desk) (told : List Event) (more : Bool) → links_in f told ≡ true → links_in f (scan.reading later number post desk told more).told ≡ true
read_in f later number post desk told true h = h
read_in f later number post desk told false h = giving_back_in f later post desk told (scan.unmet_from desk 0) h

reads_in : (f : ℕ → Bool) (rows : Bool) (guard : Guard) (word : ℕ) → links_in f (scan.reads_guard rows guard word ∷ []) ≡ true
reads_in f true guard word = refl
reads_in f false guard word = refl

scan_in : (f : ℕ → Bool) (later : AfterScan) (at : ScanAt) (post : Post) (desk : Desk) (found : ℕ) → links_in f (scan.scan_turn later at post desk found).told ≡ true
scan_in f later (ReadGuard number) post desk found =
    read_in f later number post (scan.with_read desk number (guard_at post.layout.config number, published (publishes_rows (scheme_of post)) (guard_at post.layout.config number) found)) (scan.reads_guard (publishes_rows (scheme_of post)) (guard_at post.layout.config number) found ∷ [])
    (nat_lt (number + 1) (guards post.layout.config)) (reads_in f (publishes_rows (scheme_of post)) (guard_at post.layout.config number) found)
scan_in f later (GiveBack place slot) post desk found = giving_back_in f later post (scan.with_back desk place) (events.Back slot ∷ []) (scan.unmet_from (scan.with_back desk place) place) refl

-- the rows that a step links are of f
pub record LinksOf (f : ℕ → Bool) (phase : Phase) (found : ℕ) : Type 0 where
  pub changes : (kept : ChangeKept) (slot : ℕ) → phase ≡ Works (Changing kept (ExchangeRoot slot)) → (found == kept.link) ≡ true → f slot ≡ true
  pub enqueues : (kept : EnqueueKept) (slot : ℕ) → phase ≡ Works (Enqueuing kept (ExchangeNext slot)) → (found == 0) ≡ true → f slot ≡ true

work_in : (f : ℕ → Bool) (work : Work) (post : Post) (desk : Desk) (found : ℕ) → LinksOf f (Works work) found → links_in f (steps.work_turn work post desk found).told ≡ true
work_in f (Getting key at) post desk found g = get_in f key at post desk found
work_in f (Changing kept at) post desk found g = change_in f kept at post desk found (λ slot e. g.changes kept slot (ap (λ (x : ChangeAt). Works (Changing kept x)) e))
work_in f (Enqueuing kept at) post desk found g = enqueue_in f kept at post desk found (λ slot e. g.enqueues kept slot (ap (λ (x : EnqueueAt). Works (Enqueuing kept x)) e))
work_in f (Dequeuing at) post desk found g = dequeue_in f at post desk found
work_in f (Keeping at) post desk found g = keep_in f at post desk found

pub phase_in : (f : ℕ → Bool) (phase : Phase) (post : Post) (desk : Desk) (found : ℕ) → LinksOf f phase found → links_in f (steps.phase_turn phase post desk found).told ≡ true
phase_in f Idle post desk found g = refl
phase_in f (Runs why base) post desk found g =
    let t : Turn = machine.after base post found in
    resumed_in f why desk t.post t.told t.outcome (base_in f base post found)
phase_in f (Scans later at) post desk found g = scan_in f later at post desk found
phase_in f (Works work) post desk found g = work_in f work post desk found g
