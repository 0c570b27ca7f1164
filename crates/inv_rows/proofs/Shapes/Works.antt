-- The call's own steps, the steps of a scan, what comes after a machine, and a call's first phase, from the few phases of
-- which a property grows.
use Rattle.std.proofs.Common.{ℕ, ◌≡◌, ◌+◌, Bool, true, false, List, [], ◌∷◌, ◌++◌, length, Option, Some, None, refl, ap, arith}
use Rattle.std.proofs.lemmas.Bool.Decides.{nat_tests}
use Rattle.std.specs.Prelude.{◌==◌, ◌%◌, ◌-◌, is_some, nat_lt}
use Rattle.wfe_core.specs.defs.declared.call.Answer.{Answer}
use Rattle.wfe_core.specs.defs.declared.call.Answer.TheVariants as the_answers
use Rattle.wfe_core.specs.defs.declared.call.Call.{Call}
use Rattle.wfe_core.specs.defs.declared.call.Call.TheVariants as names
use Rattle.wfe_core.specs.defs.declared.call.ClockMove.TheVariants as moves
use Rattle.wfe_core.specs.defs.declared.event.Event.{Event}
use Rattle.wfe_core.specs.defs.declared.event.Event.TheVariants as events
use Rattle.wfe_core.specs.defs.declared.event.Root.TheVariants as roots
use Rattle.wfe_core.specs.declared.ends.AllocateEnd.{AllocateEnd}
use Rattle.wfe_core.specs.declared.ends.AllocateEnd.TheVariants as allocate_ends
use Rattle.wfe_core.specs.declared.ends.FollowEnd.{FollowEnd}
use Rattle.wfe_core.specs.declared.ends.FollowEnd.TheVariants as follow_ends
use Rattle.wfe_core.specs.declared.ends.ProtectEnd.TheVariants as protect_ends
use Rattle.wfe_core.specs.declared.post.Post.{Post}
use Rattle.wfe_core.specs.Desks.{Desk, with_life}
use Rattle.wfe_core.specs.Guards.{guards, guard_at, published}
use Rattle.wfe_core.specs.Posts.{cleared, publishes_index, stands, with_row, withdrawn, withdrawn_all}
use Rattle.wfe_core.specs.Phases.{Ending}
use Rattle.wfe_core.specs.Phases.Ending.{Done, Protected, Followed, Allocated, Retired, Clocked}
use Rattle.wfe_core.specs.Rounds.{bucket_of, let_index, scheme_of}
use Rattle.wfe_core.specs.words.Schemes.{has_one_interval, publishes_rows}
use Rattle.wfe_core.specs.Get as gets
use Rattle.wfe_core.specs.Change as alters
use Rattle.wfe_core.specs.Enqueue as enqueues
use Rattle.wfe_core.specs.Dequeue as dequeues
use Rattle.wfe_core.specs.Keep as keeps
use Rattle.wfe_core.specs.Scan as scan
use Rattle.wfe_core.specs.Steps as steps
use Rattle.wfe_core.specs.Calls.{Task, Gets, Changes, Holds, Enqueues, Dequeues, Again, Answering, Retiring, AfterScan, Answered, Repeated, Counted, Why, Phase, ChangeKept, EnqueueKept, GetAt, FindVersion, FindCount, FindKey, FindValue, ChangeAt, LoadVersion, LoadCount, LoadKey, LoadValue, ExchangeRoot, EnqueueAt, LoadNumber, LoadNext, PassTail, ExchangeNext, ExchangeTail, DequeueAt, LoadTail, SwingTail, TakeNumber, TakeValue, ExchangeHead, Work, Getting, Changing, Enqueuing, Dequeuing, LetGo, Released, Rehold, Dropped, Parting, KeepAt, Loosens, LoadHeld, StoreHeld, Looks, Misses, HideSpan, MarkLeft, TakeList, MarkTaken, Keeping, ScanAt, ReadGuard, GiveBack, Opens, FollowsHead, Fills, ClearsNext, Clears, Finishes, GivesUp, Retires, Tidies, Advances, Releases}
use Rattle.inv_rows.specs.Shapes.Frame.{Left, SpanStands, KeepFits, WorkFits, Parts, read_slot, bared, Resumes, Grows, Stores}
use Rattle.inv_rows.proofs.Shapes.Growth.{bare_parts, round_grows, tidying_grows, letting_grows, parting_grows, leaving_grows, closed_left, finishing_left, clearing_left, clearing_next_left}

got_left : {Q : Post → Type 0} {P : Post → Phase → Type 0} (g : Grows Q P) (key version : ℕ) (value : Option ℕ) (post : Post) (desk : Desk) (told : List Event) → Q post → Left Q P (gets.got key version value post desk told)
got_left g key version value post desk told q =
    clearing_left g (Gets key) (Answering (the_answers.Got version value)) post desk (told ++ events.Got (bucket_of post key) version key value ∷ []) q

finding_left : {Q : Post → Type 0} {P : Post → Phase → Type 0} (g : Grows Q P) (key slot version count : ℕ) (post : Post) (desk : Desk) (more : Bool) (pair : ℕ) → SpanStands post → Q post → Left Q P (gets.finding key slot version count post desk more pair)
finding_left g key slot version count post desk true pair s q = record { post = q; phase = g.works post (Getting key (FindKey slot version count pair)) refl s q }
finding_left g key slot version count post desk false pair s q = got_left g key version None post desk [] q

found_key_left : {Q : Post → Type 0} {P : Post → Phase → Type 0} (g : Grows Q P) (key slot version count pair : ℕ) (post : Post) (desk : Desk) (own : Bool) → SpanStands post → Q post → Left Q P (gets.found_key key slot version count pair post desk own)
found_key_left g key slot version count pair post desk true s q = record { post = q; phase = g.works post (Getting key (FindValue slot version pair)) refl s q }
found_key_left g key slot version count pair post desk false s q = finding_left g key slot version count post desk (nat_lt (pair + 1) count) (pair + 1) s q

get_left : {Q : Post → Type 0} {P : Post → Phase → Type 0} (g : Grows Q P) (key : ℕ) (at : GetAt) (post : Post) (desk : Desk) (found : ℕ) → SpanStands post → Q post → Left Q P (gets.get_turn key at post desk found)
get_left g key (FindVersion slot) post desk found s q = record { post = q; phase = g.works post (Getting key (FindCount slot found)) refl s q }
get_left g key (FindCount slot version) post desk found s q = finding_left g key slot version found post desk (nat_lt 0 found) 0 s q
get_left g key (FindKey slot version count pair) post desk found s q = found_key_left g key slot version count pair post desk (found == key) s q
get_left g key (FindValue slot version pair) post desk found s q = got_left g key version (Some found) post desk [] q

filling_grows : {Q : Post → Type 0} {P : Post → Phase → Type 0} (g : Grows Q P) (kept : ChangeKept) (task : Task) (x : Option ℕ) (post : Post) → SpanStands post → Q post → P post (Phase.Runs (Fills task) (alters.filling_by kept x))
filling_grows g kept task None post s q = g.allocates post task s q
filling_grows g kept task (Some slot) post s q = g.writes post task slot (alters.new_row kept) s q

deciding_by_left : {Q : Post → Type 0} {P : Post → Phase → Type 0} (g : Grows Q P) (kept : ChangeKept) (post : Post) (desk : Desk) (told : List Event) (x : Option Answer) → SpanStands post → Q post → Left Q P (alters.deciding_by kept post desk told x)
deciding_by_left g kept post desk told (Some answer) s q = clearing_left g (Changes kept) (Answering answer) post desk told q
deciding_by_left g kept post desk told None s q = record { post = q; phase = filling_grows g (alters.with_change kept) (Changes (alters.with_change kept)) kept.taken post s q }

deciding_left : {Q : Post → Type 0} {P : Post → Phase → Type 0} (g : Grows Q P) (kept : ChangeKept) (post : Post) (desk : Desk) (told : List Event) → SpanStands post → Q post → Left Q P (alters.deciding kept post desk told)
deciding_left g kept post desk told s q = deciding_by_left g kept post desk told (alters.refused post.layout.config kept) s q

reading_left : {Q : Post → Type 0} {P : Post → Phase → Type 0} (g : Grows Q P) (kept : ChangeKept) (slot count : ℕ) (post : Post) (desk : Desk) (more : Bool) → SpanStands post → Q post → Left Q P (alters.reading kept slot count post desk more)
reading_left g kept slot count post desk true s q = record { post = q; phase = g.works post (Changing kept (LoadKey slot count)) refl s q }
reading_left g kept slot count post desk false s q = deciding_left g kept post desk [] s q

exchanged_left : {Q : Post → Type 0} {P : Post → Phase → Type 0} (g : Grows Q P) (kept : ChangeKept) (slot : ℕ) (post : Post) (desk : Desk) (same : Bool) → Q post → Left Q P (alters.exchanged kept slot post desk same)
exchanged_left g kept slot post desk true q =
    clearing_left g (Changes (record kept { taken = None })) (alters.answer_done (kept.version + 1) kept.link) post desk (alters.told_linked kept slot post) q
exchanged_left g kept slot post desk false q = clearing_left g (Changes kept) Again post desk [] q

change_left : {Q : Post → Type 0} {P : Post → Phase → Type 0} (g : Grows Q P) (kept : ChangeKept) (at : ChangeAt) (post : Post) (desk : Desk) (found : ℕ) → SpanStands post → Q post → Left Q P (alters.change_turn kept at post desk found)
change_left g kept (LoadVersion slot) post desk found s q = record { post = q; phase = g.works post (Changing (record kept { version = found }) (LoadCount slot)) refl s q }
change_left g kept (LoadCount slot) post desk found s q = reading_left g kept slot found post desk (nat_lt 0 found) s q
change_left g kept (LoadKey slot count) post desk found s q = record { post = q; phase = g.works post (Changing kept (LoadValue slot count found)) refl s q }
change_left g kept (LoadValue slot count key) post desk found s q = reading_left g (alters.with_read kept key found) slot count post desk (nat_lt (length kept.pairs + 1) count) s q
change_left g kept (ExchangeRoot slot) post desk found s q = exchanged_left g kept slot post desk (found == kept.link) q

item_grows : {Q : Post → Type 0} {P : Post → Phase → Type 0} (g : Grows Q P) (kept : EnqueueKept) (task : Task) (x : Option ℕ) (post : Post) → SpanStands post → Q post → P post (Phase.Runs (Fills task) (enqueues.filling_by kept x))
item_grows g kept task None post s q = g.allocates post task s q
item_grows g kept task (Some slot) post s q = g.writes post task slot (enqueues.new_item kept) s q

appending_left : {Q : Post → Type 0} {P : Post → Phase → Type 0} (g : Grows Q P) (kept : EnqueueKept) (post : Post) (desk : Desk) (spent : Bool) → SpanStands post → Q post → Left Q P (enqueues.appending kept post desk spent)
appending_left g kept post desk true s q = clearing_left g (Enqueues kept) (Answering (the_answers.Spent kept.number)) post desk [] q
appending_left g kept post desk false s q = record { post = q; phase = item_grows g kept (Enqueues kept) kept.taken post s q }

at_next_left : {Q : Post → Type 0} {P : Post → Phase → Type 0} (g : Grows Q P) (kept : EnqueueKept) (next : ℕ) (post : Post) (desk : Desk) (none : Bool) → SpanStands post → Q post → Left Q P (enqueues.at_next kept next post desk none)
at_next_left g kept next post desk true s q = appending_left g kept post desk (kept.number == post.layout.config.last_version) s q
at_next_left g kept next post desk false s q = record { post = q; phase = g.works post (Enqueuing kept (PassTail next)) refl s q }

appended_left : {Q : Post → Type 0} {P : Post → Phase → Type 0} (g : Grows Q P) (kept : EnqueueKept) (slot : ℕ) (post : Post) (desk : Desk) (same : Bool) → SpanStands post → Q post → Left Q P (enqueues.appended kept slot post desk same)
appended_left g kept slot post desk true s q = record { post = q; phase = g.works post (Enqueuing (record kept { taken = None }) (ExchangeTail slot)) refl s q }
appended_left g kept slot post desk false s q = clearing_left g (Enqueues kept) Again post desk [] q

enqueue_left : {Q : Post → Type 0} {P : Post → Phase → Type 0} (g : Grows Q P) (kept : EnqueueKept) (at : EnqueueAt) (post : Post) (desk : Desk) (found : ℕ) → SpanStands post → Q post → Left Q P (enqueues.enqueue_turn kept at post desk found)
enqueue_left g kept LoadNumber post desk found s q = record { post = q; phase = g.works post (Enqueuing (record kept { number = found }) LoadNext) refl s q }
enqueue_left g kept LoadNext post desk found s q = at_next_left g kept found post desk (found == 0) s q
enqueue_left g kept (PassTail next) post desk found s q =
    clearing_left g (Enqueues kept) Again post desk (enqueues.told_link roots.Tail (next - 1) (found == kept.tail + 1)) q
enqueue_left g kept (ExchangeNext slot) post desk found s q = appended_left g kept slot post desk (found == 0) s q
enqueue_left g kept (ExchangeTail slot) post desk found s q =
    clearing_left g (Enqueues kept) (Answering (the_answers.Queued (kept.number + 1))) post desk (enqueues.told_link roots.Tail slot (found == kept.tail + 1)) q

followed_row_left : {Q : Post → Type 0} {P : Post → Phase → Type 0} (g : Grows Q P) (head next : ℕ) (post : Post) (desk : Desk) (told : List Event) (lags : Bool) → SpanStands post → Q post → Left Q P (dequeues.followed_row head next post desk told lags)
followed_row_left g head next post desk told true s q = record { post = q; phase = g.works post (Dequeuing (SwingTail head next)) refl s q }
followed_row_left g head next post desk told false s q = record { post = q; phase = g.works post (Dequeuing (TakeNumber head next)) refl s q }

followed_left : {Q : Post → Type 0} {P : Post → Phase → Type 0} (g : Grows Q P) (head tail : ℕ) (ending : FollowEnd) (post : Post) (desk : Desk) (told : List Event) → SpanStands post → Q post → Left Q P (dequeues.followed head tail ending post desk told)
followed_left g head tail (follow_ends.Followed slot) post desk told s q = followed_row_left g head slot post desk told (tail == head + 1) s q
followed_left g head tail follow_ends.NoNext post desk told s q = clearing_next_left g (Answering the_answers.Empty) post desk told q
followed_left g head tail (follow_ends.RootMoved seen) post desk told s q = clearing_next_left g Again post desk told q

taken_left : {Q : Post → Type 0} {P : Post → Phase → Type 0} (g : Grows Q P) (head next number value : ℕ) (post : Post) (desk : Desk) (same : Bool) → Q post → Left Q P (dequeues.taken head next number value post desk same)
taken_left g head next number value post desk true q =
    clearing_next_left g (Retiring head (the_answers.Taken number value moves.Still)) post desk (events.Link roots.Head next ∷ events.Cut head ∷ events.Taken number value ∷ []) q
taken_left g head next number value post desk false q = clearing_next_left g Again post desk [] q

dequeue_left : {Q : Post → Type 0} {P : Post → Phase → Type 0} (g : Grows Q P) (at : DequeueAt) (post : Post) (desk : Desk) (found : ℕ) → SpanStands post → Q post → Left Q P (dequeues.dequeue_turn at post desk found)
dequeue_left g (LoadTail head) post desk found s q = record { post = q; phase = g.follows post head found s q }
dequeue_left g (SwingTail head next) post desk found s q = clearing_next_left g Again post desk (enqueues.told_link roots.Tail next (found == head + 1)) q
dequeue_left g (TakeNumber head next) post desk found s q = record { post = q; phase = g.works post (Dequeuing (TakeValue head next found)) refl s q }
dequeue_left g (TakeValue head next number) post desk found s q = record { post = q; phase = g.works post (Dequeuing (ExchangeHead head next number found)) refl s q }
dequeue_left g (ExchangeHead head next number value) post desk found s q = taken_left g head next number value post desk (found == head + 1) q

released_left : {Q : Post → Type 0} {P : Post → Phase → Type 0} (g : Grows Q P) (let_go : LetGo) (post : Post) (desk : Desk) (told : List Event) → Parts let_go post → Q post → Left Q P (keeps.released let_go post desk told)
released_left g Released post desk told r q = record { post = q; phase = g.idle post q }
released_left g (Rehold key) post desk told r q = record { post = q; phase = round_grows g (Holds key) post q }
released_left g (Dropped index) post desk told r q = record { post = q; phase = g.idle post q }
released_left g (Parting index) post desk told r q = record { post = q; phase = parting_grows g (index + 1) post r q }

copied_left : {Q : Post → Type 0} {P : Post → Phase → Type 0} (g : Grows Q P) (from index : ℕ) (post : Post) (desk : Desk) (reserved : List Event) (x : Option ℕ) → Q post → Left Q P (keeps.copied from index post desk reserved x)
copied_left g from index post desk reserved None q = record { post = q; phase = g.idle post q }
copied_left g from index post desk reserved (Some slot) q = let p = g.copies post index slot q in record { post = p; phase = g.idle (with_row post index slot) p }

load_held_left : {Q : Post → Type 0} {P : Post → Phase → Type 0} (g : Grows Q P) (from index : ℕ) (post : Post) (desk : Desk) (found : ℕ) (one : Bool) → has_one_interval (scheme_of post) ≡ one → Stores P post found (Keeping (LoadHeld from index)) → Q post
    → Left Q P (keeps.load_held from index post desk found one)
load_held_left g from index post desk found true i n q = copied_left g from index post desk [] (stands post from) q
load_held_left g from index post desk found false i n q = record { post = q; phase = n i }

looking_left : {Q : Post → Type 0} {P : Post → Phase → Type 0} (g : Grows Q P) (index key slot version count : ℕ) (post : Post) (desk : Desk) (more : Bool) (pair : ℕ) → stands post index ≡ Some slot → Q post → Left Q P (keeps.looking index key slot version count post desk more pair)
looking_left g index key slot version count post desk true pair s q = record { post = q; phase = g.works post (Keeping (Looks index key (FindKey slot version count pair))) refl s q }
looking_left g index key slot version count post desk false pair s q = record { post = q; phase = g.idle post q }

looked_key_left : {Q : Post → Type 0} {P : Post → Phase → Type 0} (g : Grows Q P) (index key slot version count pair : ℕ) (post : Post) (desk : Desk) (own : Bool) → stands post index ≡ Some slot → Q post → Left Q P (keeps.looked_key index key slot version count pair post desk own)
looked_key_left g index key slot version count pair post desk true s q = record { post = q; phase = g.works post (Keeping (Looks index key (FindValue slot version pair))) refl s q }
looked_key_left g index key slot version count pair post desk false s q = looking_left g index key slot version count post desk (nat_lt (pair + 1) count) (pair + 1) s q

look_left : {Q : Post → Type 0} {P : Post → Phase → Type 0} (g : Grows Q P) (index key : ℕ) (at : GetAt) (post : Post) (desk : Desk) (found : ℕ) → stands post index ≡ Some (read_slot at) → Q post → Left Q P (keeps.look_turn index key at post desk found)
look_left g index key (FindVersion slot) post desk found s q = record { post = q; phase = g.works post (Keeping (Looks index key (FindCount slot found))) refl s q }
look_left g index key (FindCount slot version) post desk found s q = looking_left g index key slot version found post desk (nat_lt 0 found) 0 s q
look_left g index key (FindKey slot version count pair) post desk found s q = looked_key_left g index key slot version count pair post desk (found == key) s q
look_left g index key (FindValue slot version pair) post desk found s q = record { post = q; phase = g.idle post q }

taking_left : {Q : Post → Type 0} {P : Post → Phase → Type 0} (g : Grows Q P) (place : ℕ) (post : Post) (desk : Desk) (left : Bool) (found : ℕ) → Q post → Left Q P (keeps.taking place post desk left found)
taking_left g place post desk true found q = record { post = q; phase = g.works post (Keeping (MarkTaken place (length desk.gift))) refl tt q }
taking_left g place post desk false found q = record { post = q; phase = g.idle post q }

keep_left : {Q : Post → Type 0} {P : Post → Phase → Type 0} (g : Grows Q P) (at : KeepAt) (post : Post) (desk : Desk) (found : ℕ) → KeepFits post at → Stores P post found (Keeping at) → Q (bared (Keeping at) post) → Left Q P (keeps.keep_turn at post desk found)
keep_left g (Loosens let_go) post desk found f n q =
    released_left g let_go (withdrawn post (let_index let_go)) desk (cleared (let_index let_go) (stands post (let_index let_go))) (bare_parts let_go (withdrawn post (let_index let_go)) f.apart) (g.withdraws post (let_index let_go) f.interval q)
keep_left g (LoadHeld from index) post desk found f n q = load_held_left g from index post desk found (has_one_interval (scheme_of post)) refl n q
keep_left g (StoreHeld from index era) post desk found f n q = copied_left g from index post desk (publishes_index (publishes_rows (scheme_of post)) post index era) (stands post from) q
keep_left g (Looks index key at) post desk found f n q = look_left g index key at post desk found f q
keep_left g (Misses index) post desk found f n q = record { post = q; phase = g.idle post q }
keep_left g HideSpan post desk found f n q = record { post = q; phase = g.works (withdrawn_all post) (Keeping MarkLeft) refl (λ h. refl) q }
keep_left g MarkLeft post desk found f n q = record { post = q; phase = g.idle post q }
keep_left g (TakeList place) post desk found f n q = taking_left g place post desk (found == 1) found q
keep_left g (MarkTaken place count) post desk found f n q = record { post = q; phase = g.idle post q }

-- a step of a call's own
pub work_left : {Q : Post → Type 0} {P : Post → Phase → Type 0} (g : Grows Q P) (work : Work) (post : Post) (desk : Desk) (found : ℕ) → WorkFits post work → Stores P post found work → Q (bared work post) → Left Q P (steps.work_turn work post desk found)
work_left g (Getting key at) post desk found s n q = get_left g key at post desk found s q
work_left g (Changing kept at) post desk found s n q = change_left g kept at post desk found s q
work_left g (Enqueuing kept at) post desk found s n q = enqueue_left g kept at post desk found s q
work_left g (Dequeuing at) post desk found s n q = dequeue_left g at post desk found s q
work_left g (Keeping at) post desk found s n q = keep_left g at post desk found s n q

scanned_left : {Q : Post → Type 0} {P : Post → Phase → Type 0} (g : Grows Q P) (later : AfterScan) (post : Post) (desk : Desk) (told : List Event) → Q post → Left Q P (scan.scanned later post desk told)
scanned_left g (Answered answer) post desk told q = record { post = q; phase = g.idle post q }
scanned_left g (Repeated task) post desk told q = record { post = q; phase = round_grows g task post q }
scanned_left g Counted post desk told q = record { post = q; phase = g.idle post q }

giving_back_left : {Q : Post → Type 0} {P : Post → Phase → Type 0} (g : Grows Q P) (later : AfterScan) (post : Post) (desk : Desk) (told : List Event) (x : Option scan.Entry) → Q post → Left Q P (scan.giving_back later post desk told x)
giving_back_left g later post desk told None q = scanned_left g later post (scan.with_kept desk) told q
giving_back_left g later post desk told (Some entry) q = record { post = q; phase = g.gives_back post later entry.0 entry.1.slot q }

guard_left : {Q : Post → Type 0} {P : Post → Phase → Type 0} (g : Grows Q P) (later : AfterScan) (number : ℕ) (post : Post) (desk : Desk) (told : List Event) (more : Bool) → nat_lt (number + 1) (guards post.layout.config) ≡ more → Q post → Left Q P (scan.reading later number post desk told more)
guard_left g later number post desk told true e q = record { post = q; phase = g.scans post later (number + 1) (grind (arith, nat_tests)) q }
guard_left g later number post desk told false e q = giving_back_left g later post desk told (scan.unmet_from desk 0) q

-- a step of a scan
pub scan_left : {Q : Post → Type 0} {P : Post → Phase → Type 0} (g : Grows Q P) (later : AfterScan) (at : ScanAt) (post : Post) (desk : Desk) (found : ℕ) → Q post → Left Q P (scan.scan_turn later at post desk found)
scan_left g later (ReadGuard number) post desk found q =
    let rows = publishes_rows (scheme_of post) in
    let guard = guard_at post.layout.config number in
    guard_left g later number post (scan.with_read desk number (guard, published rows guard found)) (scan.reads_guard rows guard found ∷ []) (nat_lt (number + 1) (guards post.layout.config)) refl q
scan_left g later (GiveBack place slot) post desk found q =
    giving_back_left g later post (scan.with_back desk place) (events.Back slot ∷ []) (scan.unmet_from (scan.with_back desk place) place) q

opened_row_left : {Q : Post → Type 0} {P : Post → Phase → Type 0} (g : Grows Q P) (task : Task) (slot : ℕ) (post : Post) (desk : Desk) (told : List Event) → SpanStands post → Q post → Left Q P (steps.opened_row task slot post desk told)
opened_row_left g (Gets key) slot post desk told s q = record { post = q; phase = g.works post (Getting key (FindVersion slot)) refl s q }
opened_row_left g (Changes kept) slot post desk told s q = record { post = q; phase = g.works post (Changing (alters.at_link kept (slot + 1)) (LoadVersion slot)) refl s q }
opened_row_left g (Holds key) slot post desk told s q = record { post = q; phase = g.idle post q }
opened_row_left g (Enqueues kept) slot post desk told s q = record { post = q; phase = g.works post (Enqueuing (record kept { tail = slot }) LoadNumber) refl s q }
opened_row_left g Dequeues slot post desk told s q = record { post = q; phase = g.works post (Dequeuing (LoadTail slot)) refl s q }

opened_null_left : {Q : Post → Type 0} {P : Post → Phase → Type 0} (g : Grows Q P) (task : Task) (post : Post) (desk : Desk) (told : List Event) → SpanStands post → Q post → Left Q P (steps.opened_null task post desk told)
opened_null_left g (Gets key) post desk told s q = got_left g key 0 None post desk told q
opened_null_left g (Changes kept) post desk told s q = deciding_left g (alters.at_link kept 0) post desk told s q
opened_null_left g (Holds key) post desk told s q = clearing_left g (Holds key) (Answering the_answers.Nothing) post desk told q
opened_null_left g (Enqueues kept) post desk told s q = clearing_left g (Enqueues kept) Again post desk told q
opened_null_left g Dequeues post desk told s q = clearing_left g Dequeues Again post desk told q

opened_left : {Q : Post → Type 0} {P : Post → Phase → Type 0} (g : Grows Q P) (task : Task) (ending : Ending) (post : Post) (desk : Desk) (told : List Event) → SpanStands post → Q post → Left Q P (steps.opened task ending post desk told)
opened_left g task (Protected (protect_ends.Held slot era)) post desk told s q = opened_row_left g task slot post desk told s q
opened_left g task (Protected protect_ends.Null) post desk told s q = opened_null_left g task post desk told s q
opened_left g task Done post desk told s q = record { post = q; phase = g.opens post task s q }
opened_left g task (Followed end) post desk told s q = record { post = q; phase = g.opens post task s q }
opened_left g task (Allocated end) post desk told s q = record { post = q; phase = g.opens post task s q }
opened_left g task (Retired life) post desk told s q = record { post = q; phase = g.opens post task s q }
opened_left g task (Clocked clock) post desk told s q = record { post = q; phase = g.opens post task s q }

filled_by_left : {Q : Post → Type 0} {P : Post → Phase → Type 0} (g : Grows Q P) (task : Task) (ending : AllocateEnd) (post : Post) (desk : Desk) (told : List Event) → SpanStands post → Q post → Left Q P (steps.filled_by task ending post desk told)
filled_by_left g (Changes kept) (allocate_ends.Given slot birth) post desk told s q =
    record { post = q; phase = g.writes post (Changes (alters.with_taken kept slot)) slot (alters.new_row kept) s q }
filled_by_left g (Changes kept) allocate_ends.Full post desk told s q = clearing_left g (Changes (alters.with_walked kept)) (alters.no_room kept.walked) post desk told q
filled_by_left g (Enqueues kept) (allocate_ends.Given slot birth) post desk told s q =
    record { post = q; phase = g.writes post (Enqueues (enqueues.item_taken kept slot)) slot (enqueues.new_item kept) s q }
filled_by_left g (Enqueues kept) allocate_ends.Full post desk told s q = clearing_left g (Enqueues (enqueues.item_walked kept)) (alters.no_room kept.walked) post desk told q
filled_by_left g (Gets key) ending post desk told s q = closed_left g (Gets key) Again post desk told q
filled_by_left g (Holds key) ending post desk told s q = closed_left g (Holds key) Again post desk told q
filled_by_left g Dequeues ending post desk told s q = closed_left g Dequeues Again post desk told q

written_row_left : {Q : Post → Type 0} {P : Post → Phase → Type 0} (g : Grows Q P) (task : Task) (post : Post) (desk : Desk) (told : List Event) → SpanStands post → Q post → Left Q P (steps.written_row task post desk told)
written_row_left g (Changes kept) post desk told s q = record { post = q; phase = g.works post (Changing kept (ExchangeRoot (steps.slot_in kept.taken))) refl s q }
written_row_left g (Enqueues kept) post desk told s q = record { post = q; phase = g.works post (Enqueuing kept (ExchangeNext (steps.slot_in kept.taken))) refl s q }
written_row_left g (Gets key) post desk told s q = closed_left g (Gets key) Again post desk told q
written_row_left g (Holds key) post desk told s q = closed_left g (Holds key) Again post desk told q
written_row_left g Dequeues post desk told s q = closed_left g Dequeues Again post desk told q

filled_left : {Q : Post → Type 0} {P : Post → Phase → Type 0} (g : Grows Q P) (task : Task) (ending : Ending) (post : Post) (desk : Desk) (told : List Event) → SpanStands post → Q post → Left Q P (steps.filled task ending post desk told)
filled_left g task (Allocated ending) post desk told s q = filled_by_left g task ending post desk told s q
filled_left g task Done post desk told s q = written_row_left g task post desk told s q
filled_left g task (Protected end) post desk told s q = written_row_left g task post desk told s q
filled_left g task (Followed end) post desk told s q = written_row_left g task post desk told s q
filled_left g task (Retired life) post desk told s q = written_row_left g task post desk told s q
filled_left g task (Clocked clock) post desk told s q = written_row_left g task post desk told s q

followed_by_left : {Q : Post → Type 0} {P : Post → Phase → Type 0} (g : Grows Q P) (head tail : ℕ) (ending : Ending) (post : Post) (desk : Desk) (told : List Event) → SpanStands post → Q post → Left Q P (steps.followed_by head tail ending post desk told)
followed_by_left g head tail (Followed ending) post desk told s q = followed_left g head tail ending post desk told s q
followed_by_left g head tail Done post desk told s q = closed_left g Dequeues Again post desk told q
followed_by_left g head tail (Protected end) post desk told s q = closed_left g Dequeues Again post desk told q
followed_by_left g head tail (Allocated end) post desk told s q = closed_left g Dequeues Again post desk told q
followed_by_left g head tail (Retired life) post desk told s q = closed_left g Dequeues Again post desk told q
followed_by_left g head tail (Clocked clock) post desk told s q = closed_left g Dequeues Again post desk told q

tidying_left : {Q : Post → Type 0} {P : Post → Phase → Type 0} (g : Grows Q P) (answer : Answer) (post : Post) (desk : Desk) (told : List Event) (due : Bool) → Q post → Left Q P (steps.tidying answer post desk told due)
tidying_left g answer post desk told true q = record { post = q; phase = tidying_grows g (Answered answer) post q }
tidying_left g answer post desk told false q = record { post = q; phase = g.idle post q }

retired_by_left : {Q : Post → Type 0} {P : Post → Phase → Type 0} (g : Grows Q P) (answer : Answer) (ending : Ending) (post : Post) (desk : Desk) (told : List Event) → Q post → Left Q P (steps.retired_by answer ending post desk told)
retired_by_left g answer (Retired life) post desk told q = tidying_left g answer post (with_life desk life) told (post.retired % post.layout.config.every == 0) q
retired_by_left g answer Done post desk told q = record { post = q; phase = g.idle post q }
retired_by_left g answer (Protected end) post desk told q = record { post = q; phase = g.idle post q }
retired_by_left g answer (Followed end) post desk told q = record { post = q; phase = g.idle post q }
retired_by_left g answer (Allocated end) post desk told q = record { post = q; phase = g.idle post q }
retired_by_left g answer (Clocked clock) post desk told q = record { post = q; phase = g.idle post q }

tidied_left : {Q : Post → Type 0} {P : Post → Phase → Type 0} (g : Grows Q P) (later : AfterScan) (ending : Ending) (post : Post) (desk : Desk) (told : List Event) → Q post → Left Q P (steps.tidied later ending post desk told)
tidied_left g later (Clocked clock) post desk told q = record { post = q; phase = g.scans post (steps.after_move later clock) 0 (g.guarded post q) q }
tidied_left g later Done post desk told q = record { post = q; phase = g.scans post later 0 (g.guarded post q) q }
tidied_left g later (Protected end) post desk told q = record { post = q; phase = g.scans post later 0 (g.guarded post q) q }
tidied_left g later (Followed end) post desk told q = record { post = q; phase = g.scans post later 0 (g.guarded post q) q }
tidied_left g later (Allocated end) post desk told q = record { post = q; phase = g.scans post later 0 (g.guarded post q) q }
tidied_left g later (Retired life) post desk told q = record { post = q; phase = g.scans post later 0 (g.guarded post q) q }

advanced_left : {Q : Post → Type 0} {P : Post → Phase → Type 0} (g : Grows Q P) (ending : Ending) (post : Post) (desk : Desk) (told : List Event) → Q post → Left Q P (steps.advanced ending post desk told)
advanced_left g (Clocked clock) post desk told q = record { post = q; phase = g.idle post q }
advanced_left g Done post desk told q = record { post = q; phase = g.idle post q }
advanced_left g (Protected end) post desk told q = record { post = q; phase = g.idle post q }
advanced_left g (Followed end) post desk told q = record { post = q; phase = g.idle post q }
advanced_left g (Allocated end) post desk told q = record { post = q; phase = g.idle post q }
advanced_left g (Retired life) post desk told q = record { post = q; phase = g.idle post q }

-- what comes after a machine
pub resume_left : {Q : Post → Type 0} {P : Post → Phase → Type 0} (g : Grows Q P) (why : Why) (ending : Ending) (post : Post) (desk : Desk) (told : List Event) → Resumes why post → Q post → Left Q P (steps.resume why ending post desk told)
resume_left g (Opens task) ending post desk told r q = opened_left g task ending post desk told r q
resume_left g (FollowsHead head tail) ending post desk told r q = followed_by_left g head tail ending post desk told r q
resume_left g (Fills task) ending post desk told r q = filled_left g task ending post desk told r q
resume_left g (ClearsNext next) ending post desk told r q = clearing_left g Dequeues next post desk told q
resume_left g (Clears task next) ending post desk told r q = finishing_left g task next post desk told q
resume_left g (Finishes task next) ending post desk told r q = closed_left g task next post desk told q
resume_left g (GivesUp answer) ending post desk told r q = record { post = q; phase = g.idle post q }
resume_left g (Retires answer) ending post desk told r q = retired_by_left g answer ending post desk told q
resume_left g (Tidies later) ending post desk told r q = tidied_left g later ending post desk told q
resume_left g Advances ending post desk told r q = advanced_left g ending post desk told q
resume_left g (Releases let_go) ending post desk told r q = released_left g let_go post desk told r q

holding_grows : {Q : Post → Type 0} {P : Post → Phase → Type 0} (g : Grows Q P) (key : ℕ) (post : Post) (x : Option ℕ) → Q post → P post (steps.holding key post x)
holding_grows g key post None q = round_grows g (Holds key) post q
holding_grows g key post (Some slot) q = letting_grows g (Rehold key) post refl q

copying_grows : {Q : Post → Type 0} {P : Post → Phase → Type 0} (g : Grows Q P) (from index : ℕ) (post : Post) (x : Option ℕ) → stands post from ≡ x → Q post → P post (steps.copying from index x)
copying_grows g from index post None e q = g.works post (Keeping (Misses from)) refl e q
copying_grows g from index post (Some slot) e q = g.works post (Keeping (LoadHeld from index)) refl (ap is_some e) q

looking_grows : {Q : Post → Type 0} {P : Post → Phase → Type 0} (g : Grows Q P) (index key : ℕ) (post : Post) (x : Option ℕ) → stands post index ≡ x → Q post → P post (steps.looking_at index key x)
looking_grows g index key post None e q = g.works post (Keeping (Misses index)) refl e q
looking_grows g index key post (Some slot) e q = g.works post (Keeping (Looks index key (FindVersion slot))) refl e q

-- a call's first phase
pub first_grows : {Q : Post → Type 0} {P : Post → Phase → Type 0} (g : Grows Q P) (call : Call) (post : Post) → Q post → P post (steps.first_phase call post)
first_grows g (names.Get key) post q = round_grows g (Gets key) post q
first_grows g (names.Put key value) post q = round_grows g _ post q
first_grows g (names.Remove key) post q = round_grows g _ post q
first_grows g (names.Enqueue value) post q = round_grows g _ post q
first_grows g names.Dequeue post q = round_grows g Dequeues post q
first_grows g (names.Hold key) post q = holding_grows g key post (stands post 2) q
first_grows g names.Release post q = letting_grows g Released post refl q
first_grows g names.Advance post q = g.advances post q
first_grows g names.Scan post q = g.scans post Counted 0 (g.guarded post q) q
first_grows g (names.Copy from index) post q = copying_grows g from index post (stands post from) refl q
first_grows g (names.DropIndex index) post q = letting_grows g (Dropped index) post refl q
first_grows g (names.Look index key) post q = looking_grows g index key post (stands post index) refl q
first_grows g (names.PutIf key value version) post q = round_grows g _ post q
first_grows g names.Leave post q = leaving_grows g post q
first_grows g (names.Adopt place) post q = g.works post (Keeping (TakeList place)) refl tt q
