-- Slots and links through the steps of calls and scans, and through what comes after a machine.
use Rattle.std.proofs.Common.{ℕ, zero, suc, ◌≡◌, ◌≤◌, ◌+◌, ◌-◌, Bool, true, false, List, [], ◌∷◌, ◌++◌, length, take, drop, get_or, Option, Some, None, refl, arith, ap, length-append, sym, subst, ◌<◌, add-one}
use Rattle.std.proofs.lemmas.Bool.Decides.{nat_tests}
use Rattle.std.proofs.lemmas.List.Edits.{length-remove}
use Rattle.std.proofs.lemmas.List.Elements.{All-append, All-push, All-head, All-tail, All-take, All-drop}
use Rattle.std.specs.Prelude.{◌==◌, ◌%◌, nat_le, nat_lt, if◌then◌else◌, ◌&&◌, not, is_some}
use Rattle.std.specs.List.{remove}
use Rattle.wfe_core.specs.defs.Shown.{Seen, keeps_any}
use Rattle.wfe_core.specs.words.declared.config.Config.{Config}
use Rattle.wfe_core.specs.words.declared.layout.Layout.{Layout}
use Rattle.wfe_core.specs.defs.declared.fold.Change.{Change}
use Rattle.wfe_core.specs.defs.declared.fold.Change.TheVariants as changes
use Rattle.wfe_core.specs.defs.Pairs.{Pair, with_pair, without_key, changed, value_in}
use Rattle.wfe_core.specs.defs.declared.call.Answer.{Answer}
use Rattle.wfe_core.specs.defs.declared.call.Answer.TheVariants as the_answers
use Rattle.wfe_core.specs.defs.declared.call.Call.{Call}
use Rattle.wfe_core.specs.defs.declared.call.Call.TheVariants as names
use Rattle.wfe_core.specs.defs.declared.call.ClockMove.{ClockMove}
use Rattle.wfe_core.specs.defs.declared.call.ClockMove.TheVariants as moves
use Rattle.wfe_core.specs.defs.declared.event.Event.{Event}
use Rattle.wfe_core.specs.defs.declared.event.Event.TheVariants as events
use Rattle.wfe_core.specs.defs.declared.event.Root.TheVariants as roots
use Rattle.wfe_core.specs.defs.declared.lifetime.Interval.{Interval}
use Rattle.wfe_core.specs.defs.declared.lifetime.Lifetime.{Lifetime}
use Rattle.wfe_core.specs.declared.ends.AllocateEnd.{AllocateEnd}
use Rattle.wfe_core.specs.declared.ends.AllocateEnd.TheVariants as allocate_ends
use Rattle.wfe_core.specs.declared.ends.FollowEnd.{FollowEnd}
use Rattle.wfe_core.specs.declared.ends.FollowEnd.TheVariants as follow_ends
use Rattle.wfe_core.specs.declared.ends.ProtectEnd.TheVariants as protect_ends
use Rattle.wfe_core.specs.declared.post.Post.{Post}
use Rattle.wfe_core.specs.Desks.{Desk, Report, with_life}
use Rattle.wfe_core.specs.Guards.{guards, guard_at, published}
use Rattle.wfe_core.specs.Posts.{cleared, publishes_index, stands, standing_from, withdrawn}
use Rattle.wfe_core.specs.words.Schemes.{has_one_interval, publishes_rows}
use Rattle.wfe_core.specs.words.Schemes.{moves as moves_clock}
use Rattle.wfe_core.specs.Locals.{may_begin}
use Rattle.wfe_core.specs.Phases.{Ending, Base}
use Rattle.wfe_core.specs.Phases.Ending.{Done, Protected, Followed, Allocated, Retired, Clocked}
use Rattle.wfe_core.specs.Rounds.{scheme_of, bucket_of, kept_row, let_index, letting, letting_by, release_span}
use Rattle.wfe_core.specs.Get as gets
use Rattle.wfe_core.specs.Change as alters
use Rattle.wfe_core.specs.Enqueue as enqueues
use Rattle.wfe_core.specs.Dequeue as dequeues
use Rattle.wfe_core.specs.Keep as keeps
use Rattle.wfe_core.specs.Scan as scan
use Rattle.wfe_core.specs.Steps as steps
use Rattle.wfe_core.specs.Calls.{Task, Gets, Changes, Holds, Enqueues, Dequeues, Again, Answering, Retiring, AfterScan, Answered, Repeated, Counted, ChangeKept, EnqueueKept, GetAt, FindVersion, FindCount, FindKey, FindValue, ChangeAt, LoadVersion, LoadCount, LoadKey, LoadValue, ExchangeRoot, EnqueueAt, LoadNumber, LoadNext, PassTail, ExchangeNext, ExchangeTail, DequeueAt, LoadTail, SwingTail, TakeNumber, TakeValue, ExchangeHead, Work, Getting, Changing, Enqueuing, Dequeuing, LetGo, Released, Rehold, Dropped, Parting, KeepAt, Loosens, LoadHeld, StoreHeld, Looks, Misses, HideSpan, MarkLeft, TakeList, MarkTaken, Keeping, ScanAt, ReadGuard, GiveBack, Why, Opens, FollowsHead, Fills, ClearsNext, Clears, Finishes, GivesUp, Retires, Tidies, Advances, Releases, Runs}
use Rattle.inv_rows.specs.Shapes.Slots.{AllocateEndIn, ChangeIn, EndIn, EnqueueIn, FillIn, FollowEndIn, GetIn, KeptIn, CopyIn, LaterIn, ListIn, NextIn, PhaseIn, PostIn, StandsIn, TakenIn, TaskIn, TurnSlots, WhyIn, WorkIn, change_finds, enqueue_finds, get_finds, work_finds, ScanIn, scan_lists}
use Rattle.inv_rows.proofs.Shapes.Leaving.{next_stands}
use Rattle.inv_rows.proofs.Shapes.SlotRounds.{at_first, row_slots, withdrawn_slots, opening_slots, round_slots, tidy_slots, closed_slots, finishing_slots, clearing_slots, clearing_next_slots}
use Rattle.wfe_core.proofs.Facts.{if_by}
use Rattle.wfe_core.proofs.Schemes.{each_release}

-- what an enqueue finds of a link
abbrev pub link_finds : ℕ → EnqueueAt → ℕ → Type 0
link_finds slots LoadNumber found = Unit {0}
link_finds slots LoadNext found = found ≤ slots + 1
link_finds slots (PassTail next) found = Unit {0}
link_finds slots (ExchangeNext slot) found = Unit {0}
link_finds slots (ExchangeTail slot) found = Unit {0}

abbrev pub work_links : ℕ → Work → ℕ → Type 0
work_links slots (Getting key at) found = Unit {0}
work_links slots (Changing kept at) found = Unit {0}
work_links slots (Enqueuing kept at) found = link_finds slots at found
work_links slots (Dequeuing at) found = Unit {0}
work_links slots (Keeping at) found = Unit {0}

-- a link that is not null leads to a row
pub link_row : (slots link : ℕ) → link ≤ slots + 1 → link - 1 ≤ slots
link_row slots link h = omega arith

got_slots : (layout : Layout) (key version : ℕ) (value : Option ℕ) (post : Post) (desk : Desk) (told : List Event) → PostIn layout post → ListIn layout.config.slots desk.list → TurnSlots layout (gets.got key version value post desk told)
got_slots layout key version value post desk told q l = clearing_slots layout (Gets key) (Answering (the_answers.Got version value)) post desk (told ++ events.Got (bucket_of post key) version key value ∷ []) tt tt q l

finding_slots : (layout : Layout) (key slot version count : ℕ) (post : Post) (desk : Desk) (more : Bool) (pair : ℕ) → nat_lt pair count ≡ more → count ≤ layout.config.pairs → slot ≤ layout.config.slots → PostIn layout post → ListIn layout.config.slots desk.list → TurnSlots layout (gets.finding key slot version count post desk more pair)
finding_slots layout key slot version count post desk true pair e c s q l = record { post = q; list = l; phase = (s, grind (arith, nat_tests), c) }
finding_slots layout key slot version count post desk false pair e c s q l = got_slots layout key version None post desk [] q l

found_key_slots : (layout : Layout) (key slot version count pair : ℕ) (post : Post) (desk : Desk) (own : Bool) → GetIn layout.config (FindKey slot version count pair) → PostIn layout post → ListIn layout.config.slots desk.list → TurnSlots layout (gets.found_key key slot version count pair post desk own)
found_key_slots layout key slot version count pair post desk true s q l = record { post = q; list = l; phase = (s.0, let a = s.1 in let b = s.2 in omega arith) }
found_key_slots layout key slot version count pair post desk false s q l = finding_slots layout key slot version count post desk (nat_lt (pair + 1) count) (pair + 1) refl s.2 s.0 q l

get_slots : (layout : Layout) (key : ℕ) (at : GetAt) (post : Post) (desk : Desk) (found : ℕ) → get_finds layout.config at found → GetIn layout.config at → PostIn layout post → ListIn layout.config.slots desk.list → TurnSlots layout (gets.get_turn key at post desk found)
get_slots layout key (FindVersion slot) post desk found f s q l = record { post = q; list = l; phase = s }
get_slots layout key (FindCount slot version) post desk found f s q l = finding_slots layout key slot version found post desk (nat_lt 0 found) 0 refl f s q l
get_slots layout key (FindKey slot version count pair) post desk found f s q l = found_key_slots layout key slot version count pair post desk (found == key) s q l
get_slots layout key (FindValue slot version pair) post desk found f s q l = got_slots layout key version (Some found) post desk [] q l

-- the pairs of the new row
one_if : (b : Bool) (n : ℕ) (xs ys : List Pair) → length xs ≤ n → length ys ≤ n → length (if b then xs else ys) ≤ n
one_if true n xs ys h g = h
one_if false n xs ys h g = g

pairs_more : (ps : List Pair) (key value : ℕ) → length (with_pair ps key value) ≤ length ps + 1
pairs_more [] key value = omega arith
pairs_more (p ∷ ps) key value = let h = pairs_more ps key value in one_if (p.0 == key) (length (p ∷ ps) + 1) ((key, value) ∷ ps) (p ∷ with_pair ps key value) (grind (arith)) (grind (arith))

pairs_same_by : (b : Bool) (p : Pair) (ps : List Pair) (key value : ℕ) → (alters.has_key ps key ≡ true → length (with_pair ps key value) ≡ length ps) → is_some (if b then Some p.1 else value_in ps key) ≡ true
    → length (if b then (key, value) ∷ ps else p ∷ with_pair ps key value) ≡ length (p ∷ ps)
pairs_same_by true p ps key value h g = refl
pairs_same_by false p ps key value h g = let k = h g in grind (arith)

pairs_same : (ps : List Pair) (key value : ℕ) → alters.has_key ps key ≡ true → length (with_pair ps key value) ≡ length ps
pairs_same [] key value h = absurd (cc)
pairs_same (p ∷ ps) key value h = pairs_same_by (p.0 == key) p ps key value (pairs_same ps key value) h

pairs_fewer : (ps : List Pair) (key : ℕ) → length (without_key ps key) ≤ length ps
pairs_fewer [] key = omega arith
pairs_fewer (p ∷ ps) key = let h = pairs_fewer ps key in one_if (p.0 == key) (length (p ∷ ps)) (without_key ps key) (p ∷ without_key ps key) (grind (arith)) (grind (arith))

-- a change that is not refused has a version left and room
room_of : (ps : List Pair) (most key value : ℕ) → (not (alters.has_key ps key) && length ps == most) ≡ false → length ps ≤ most → length (with_pair ps key value) ≤ most
room_of ps most key value f m = by (alters.has_key ps key) refl
  where
    by : (b : Bool) → alters.has_key ps key ≡ b → length (with_pair ps key value) ≤ most
    by true e = let s = pairs_same ps key value e in omega arith
    by false e = let g : (not false && length ps == most) ≡ false = subst (λ (b : Bool). (not b && length ps == most) ≡ false) e f in let k = pairs_more ps key value in grind (arith, nat_tests)

put_decided : (config : Config) (version : ℕ) (ps : List Pair) (key value : ℕ) (a b : Bool) → (version == config.last_version) ≡ a → (not (alters.has_key ps key) && length ps == config.pairs) ≡ b
    → (if a then Some (the_answers.Spent version) else if b then Some (the_answers.BucketFull version) else None) ≡ None → version ≤ config.last_version → length ps ≤ config.pairs
    → (version < config.last_version) × (length (with_pair ps key value) ≤ config.pairs)
put_decided config version ps key value true b e f n m k = absurd (cc)
put_decided config version ps key value false true e f n m k = absurd (cc)
put_decided config version ps key value false false e f n m k = (grind (arith, nat_tests), room_of ps config.pairs key value f k)

removed_decided : (config : Config) (version : ℕ) (ps : List Pair) (key : ℕ) (a b : Bool) → (version == config.last_version) ≡ b
    → (if a then Some (the_answers.Absent version) else if b then Some (the_answers.Spent version) else None) ≡ None → version ≤ config.last_version → length ps ≤ config.pairs
    → (version < config.last_version) × (length (without_key ps key) ≤ config.pairs)
removed_decided config version ps key true b e n m k = absurd (cc)
removed_decided config version ps key false true e n m k = absurd (cc)
removed_decided config version ps key false false e n m k = (grind (arith, nat_tests), let h = pairs_fewer ps key in omega arith)

decided : (config : Config) (version : ℕ) (ps : List Pair) (c : Change) → alters.refusal config version ps c ≡ None → version ≤ config.last_version → length ps ≤ config.pairs → (version < config.last_version) × (length (changed ps c) ≤ config.pairs)
decided config version ps (changes.Put key value) n m k = put_decided config version ps key value (version == config.last_version) (not (alters.has_key ps key) && length ps == config.pairs) refl refl n m k
decided config version ps (changes.Removed key) n m k = removed_decided config version ps key (not (alters.has_key ps key)) (version == config.last_version) refl n m k

-- what is not refused is not refused for its pairs
not_stale : (wanted : Option ℕ) (version : ℕ) (other : Option Answer) → alters.stale_or wanted version other ≡ None → other ≡ None
not_stale None version other h = h
not_stale (Some wanted) version other h =
    if_by (version == wanted) other (Some (the_answers.Stale version)) (λ (x : Option Answer). x ≡ None → other ≡ None) (λ e n. n) (λ e n. absurd (cc)) h

filling_slots : (layout : Layout) (desk : Desk) (kept : ChangeKept) (x : Option ℕ) → ChangeIn layout.config kept → kept.version < layout.config.last_version → TakenIn layout.config.slots x → PhaseIn layout desk (Runs (Fills (Changes kept)) (alters.filling_by kept x))
filling_slots layout desk kept None t v x = ((t, v), tt)
filling_slots layout desk kept (Some slot) t v x = ((t, v), (x, t.pairs))

deciding_by_slots : (layout : Layout) (kept : ChangeKept) (post : Post) (desk : Desk) (told : List Event) (x : Option Answer) → alters.refused layout.config kept ≡ x → ChangeIn layout.config kept → PostIn layout post → ListIn layout.config.slots desk.list → TurnSlots layout (alters.deciding_by kept post desk told x)
deciding_by_slots layout kept post desk told (Some answer) e c q l = clearing_slots layout (Changes kept) (Answering answer) post desk told c tt q l
deciding_by_slots layout kept post desk told None e c q l = let d = decided layout.config kept.version kept.pairs kept.change (not_stale kept.wanted kept.version (alters.refusal layout.config kept.version kept.pairs kept.change) e) c.version c.pairs in
    record { post = q; list = l; phase = filling_slots layout desk (alters.with_change kept) kept.taken (record { taken = c.taken; link = c.link; version = c.version; pairs = d.1 }) d.0 c.taken }

deciding_slots : (layout : Layout) (kept : ChangeKept) (post : Post) (desk : Desk) (told : List Event) → post.layout ≡ layout → ChangeIn layout.config kept → PostIn layout post → ListIn layout.config.slots desk.list → TurnSlots layout (alters.deciding kept post desk told)
deciding_slots layout kept post desk told p c q l = deciding_by_slots layout kept post desk told (alters.refused post.layout.config kept) (ap (λ (t : Layout). alters.refused t.config kept) (sym p)) c q l

reading_slots : (layout : Layout) (kept : ChangeKept) (slot count : ℕ) (post : Post) (desk : Desk) (more : Bool) → (more ≡ true → length kept.pairs < count) → count ≤ layout.config.pairs → slot ≤ layout.config.slots → post.layout ≡ layout → ChangeIn layout.config kept → PostIn layout post → ListIn layout.config.slots desk.list → TurnSlots layout (alters.reading kept slot count post desk more)
reading_slots layout kept slot count post desk true e m s p c q l = record { post = q; list = l; phase = (c, (s, e refl, m)) }
reading_slots layout kept slot count post desk false e m s p c q l = deciding_slots layout kept post desk [] p c q l

answer_done_slots : (slots version link : ℕ) → link ≤ slots + 1 → NextIn slots (alters.answer_done version link)
answer_done_slots slots version link h = by (link == 0)
  where
    by : (b : Bool) → NextIn slots (if b then Answering (the_answers.Done version moves.Still) else Retiring (link - 1) (the_answers.Done version moves.Still))
    by true = tt
    by false = link_row slots link h

exchanged_slots : (layout : Layout) (kept : ChangeKept) (slot : ℕ) (post : Post) (desk : Desk) (same : Bool) → ChangeIn layout.config kept → PostIn layout post → ListIn layout.config.slots desk.list → TurnSlots layout (alters.exchanged kept slot post desk same)
exchanged_slots layout kept slot post desk true c q l =
    clearing_slots layout (Changes (record kept { taken = None })) (alters.answer_done (kept.version + 1) kept.link) post desk (alters.told_linked kept slot post) (record { taken = tt; link = c.link; version = c.version; pairs = c.pairs }) (answer_done_slots layout.config.slots (kept.version + 1) kept.link c.link) q l
exchanged_slots layout kept slot post desk false c q l = clearing_slots layout (Changes kept) Again post desk [] c tt q l

none_read : (ps : List Pair) (count : ℕ) → ps ≡ [] → nat_lt 0 count ≡ true → length ps < count
none_read ps count e h = subst (λ (xs : List Pair). length xs < count) (sym e) (grind (arith, nat_tests))

one_read : (ps : List Pair) (key value : ℕ) → length (ps ++ (key, value) ∷ []) ≡ length ps + 1
one_read ps key value = rw (length-append ps ((key, value) ∷ [])) refl

change_slots : (layout : Layout) (kept : ChangeKept) (at : ChangeAt) (post : Post) (desk : Desk) (found : ℕ) → change_finds layout.config at found → post.layout ≡ layout → WorkIn layout.config (Changing kept at) → PostIn layout post → ListIn layout.config.slots desk.list → TurnSlots layout (alters.change_turn kept at post desk found)
change_slots layout kept (LoadVersion slot) post desk found f p w q l = record { post = q; list = l; phase = (record { taken = w.0.taken; link = w.0.link; version = f; pairs = w.0.pairs }, w.1) }
change_slots layout kept (LoadCount slot) post desk found f p w q l = reading_slots layout kept slot found post desk (nat_lt 0 found) (none_read kept.pairs found w.1.1) f w.1.0 p w.0 q l
change_slots layout kept (LoadKey slot count) post desk found f p w q l = record { post = q; list = l; phase = w }
change_slots layout kept (LoadValue slot count key) post desk found f p w q l =
    let r = one_read kept.pairs key found in let a = w.1.1 in let b = w.1.2 in
    reading_slots layout (alters.with_read kept key found) slot count post desk (nat_lt (length kept.pairs + 1) count) (λ e. grind (arith, nat_tests)) b w.1.0 p (record { taken = w.0.taken; link = w.0.link; version = w.0.version; pairs = omega arith }) q l
change_slots layout kept (ExchangeRoot slot) post desk found f p w q l = exchanged_slots layout kept slot post desk (found == kept.link) w.0 q l

item_slots : (layout : Layout) (desk : Desk) (kept : EnqueueKept) (x : Option ℕ) → EnqueueIn layout.config kept → kept.number < layout.config.last_version → TakenIn layout.config.slots x → PhaseIn layout desk (Runs (Fills (Enqueues kept)) (enqueues.filling_by kept x))
item_slots layout desk kept None t v x = ((t, v), tt)
item_slots layout desk kept (Some slot) t v x = ((t, v), (x, tt))

appending_slots : (layout : Layout) (kept : EnqueueKept) (post : Post) (desk : Desk) (spent : Bool) → (kept.number == layout.config.last_version) ≡ spent → EnqueueIn layout.config kept → PostIn layout post → ListIn layout.config.slots desk.list → TurnSlots layout (enqueues.appending kept post desk spent)
appending_slots layout kept post desk true e c q l = clearing_slots layout (Enqueues kept) (Answering (the_answers.Spent kept.number)) post desk [] c tt q l
appending_slots layout kept post desk false e c q l = record { post = q; list = l; phase = item_slots layout desk kept kept.taken c (let n = c.number in grind (arith, nat_tests)) c.taken }

at_next_slots : (layout : Layout) (kept : EnqueueKept) (next : ℕ) (post : Post) (desk : Desk) (none : Bool) → (next == 0) ≡ none → next ≤ layout.config.slots + 1 → post.layout ≡ layout → EnqueueIn layout.config kept → PostIn layout post → ListIn layout.config.slots desk.list → TurnSlots layout (enqueues.at_next kept next post desk none)
at_next_slots layout kept next post desk true e m p c q l = appending_slots layout kept post desk (kept.number == post.layout.config.last_version) (ap (λ (t : Layout). kept.number == t.config.last_version) (sym p)) c q l
at_next_slots layout kept next post desk false e m p c q l = record { post = q; list = l; phase = (c, (grind (arith, nat_tests), m)) }

appended_slots : (layout : Layout) (kept : EnqueueKept) (slot : ℕ) (post : Post) (desk : Desk) (same : Bool) → slot ≤ layout.config.slots → kept.number < layout.config.last_version → EnqueueIn layout.config kept → PostIn layout post → ListIn layout.config.slots desk.list → TurnSlots layout (enqueues.appended kept slot post desk same)
appended_slots layout kept slot post desk true s v c q l = record { post = q; list = l; phase = (record { taken = tt; tail = c.tail; number = c.number }, (s, v)) }
appended_slots layout kept slot post desk false s v c q l = clearing_slots layout (Enqueues kept) Again post desk [] c tt q l

enqueue_slots : (layout : Layout) (kept : EnqueueKept) (at : EnqueueAt) (post : Post) (desk : Desk) (found : ℕ) → enqueue_finds layout.config at found → link_finds layout.config.slots at found → post.layout ≡ layout → WorkIn layout.config (Enqueuing kept at) → PostIn layout post → ListIn layout.config.slots desk.list → TurnSlots layout (enqueues.enqueue_turn kept at post desk found)
enqueue_slots layout kept LoadNumber post desk found f k p w q l = record { post = q; list = l; phase = (record { taken = w.0.taken; tail = w.0.tail; number = f }, tt) }
enqueue_slots layout kept LoadNext post desk found f k p w q l = at_next_slots layout kept found post desk (found == 0) refl k p w.0 q l
enqueue_slots layout kept (PassTail next) post desk found f k p w q l = clearing_slots layout (Enqueues kept) Again post desk (enqueues.told_link roots.Tail (next - 1) (found == kept.tail + 1)) w.0 tt q l
enqueue_slots layout kept (ExchangeNext slot) post desk found f k p w q l = appended_slots layout kept slot post desk (found == 0) w.1.0 w.1.1 w.0 q l
enqueue_slots layout kept (ExchangeTail slot) post desk found f k p w q l = clearing_slots layout (Enqueues kept) (Answering (the_answers.Queued (kept.number + 1))) post desk (enqueues.told_link roots.Tail slot (found == kept.tail + 1)) w.0 tt q l

followed_row_slots : (layout : Layout) (head next : ℕ) (post : Post) (desk : Desk) (told : List Event) (lags : Bool) → head ≤ layout.config.slots → next ≤ layout.config.slots → PostIn layout post → ListIn layout.config.slots desk.list → TurnSlots layout (dequeues.followed_row head next post desk told lags)
followed_row_slots layout head next post desk told true a b q l = record { post = q; list = l; phase = (a, b) }
followed_row_slots layout head next post desk told false a b q l = record { post = q; list = l; phase = (a, b) }

followed_slots : (layout : Layout) (head tail : ℕ) (ending : FollowEnd) (post : Post) (desk : Desk) (told : List Event) → head ≤ layout.config.slots → FollowEndIn layout.config.slots ending → PostIn layout post → ListIn layout.config.slots desk.list → TurnSlots layout (dequeues.followed head tail ending post desk told)
followed_slots layout head tail (follow_ends.Followed slot) post desk told a e q l = followed_row_slots layout head slot post desk told (tail == head + 1) a e q l
followed_slots layout head tail follow_ends.NoNext post desk told a e q l = clearing_next_slots layout (Answering the_answers.Empty) post desk told tt q l
followed_slots layout head tail (follow_ends.RootMoved seen) post desk told a e q l = clearing_next_slots layout Again post desk told tt q l

taken_slots : (layout : Layout) (head next number value : ℕ) (post : Post) (desk : Desk) (same : Bool) → head ≤ layout.config.slots → PostIn layout post → ListIn layout.config.slots desk.list → TurnSlots layout (dequeues.taken head next number value post desk same)
taken_slots layout head next number value post desk true a q l = clearing_next_slots layout (Retiring head (the_answers.Taken number value moves.Still)) post desk (events.Link roots.Head next ∷ events.Cut head ∷ events.Taken number value ∷ []) a q l
taken_slots layout head next number value post desk false a q l = clearing_next_slots layout Again post desk [] tt q l

dequeue_slots : (layout : Layout) (at : DequeueAt) (post : Post) (desk : Desk) (found : ℕ) → WorkIn layout.config (Dequeuing at) → PostIn layout post → ListIn layout.config.slots desk.list → TurnSlots layout (dequeues.dequeue_turn at post desk found)
dequeue_slots layout (LoadTail head) post desk found w q l = record { post = q; list = l; phase = (w, record { root_in = w; at_in = at_first (scheme_of post) layout.config.slots }) }
dequeue_slots layout (SwingTail head next) post desk found w q l = clearing_next_slots layout Again post desk (enqueues.told_link roots.Tail next (found == head + 1)) tt q l
dequeue_slots layout (TakeNumber head next) post desk found w q l = record { post = q; list = l; phase = w }
dequeue_slots layout (TakeValue head next number) post desk found w q l = record { post = q; list = l; phase = w }
dequeue_slots layout (ExchangeHead head next number value) post desk found w q l = taken_slots layout head next number value post desk (found == head + 1) w.0 q l

-- what stands is at one of the seat's indexes
standing_below : (layout : Layout) (x : Option ℕ) (index : ℕ) → is_some x ≡ true → StandsIn layout x index → index < layout.config.indexes
standing_below layout None index e s = absurd (cc)
standing_below layout (Some slot) index e s = s.1

parting_index_slots : (layout : Layout) (index : ℕ) (post : Post) (desk : Desk) (x : Option ℕ) → standing_from index (drop index post.standing) ≡ x → 2 ≤ index → PostIn layout post → PhaseIn layout desk (keeps.parting_index (publishes_rows (scheme_of post)) x)
parting_index_slots layout index post desk None e b q = tt
parting_index_slots layout index post desk (Some next) e b q = let n = next_stands post index next e in let f = n.from in
    (record { kept = omega arith; below = standing_below layout (stands post next) next n.stood (q next) }, tt)

parting_slots : (layout : Layout) (index : ℕ) (post : Post) (desk : Desk) → 2 ≤ index → PostIn layout post → PhaseIn layout desk (keeps.parting_from index post)
parting_slots layout index post desk b q = parting_index_slots layout index post desk (standing_from index (drop index post.standing)) refl b q

parting_span_slots : (layout : Layout) (desk : Desk) (x : Option Interval) → PhaseIn layout desk (keeps.parting_span x)
parting_span_slots layout desk None = tt
parting_span_slots layout desk (Some span) = tt

leaving_slots : (layout : Layout) (post : Post) (desk : Desk) → PostIn layout post → PhaseIn layout desk (keeps.parting post)
leaving_slots layout post desk q =
    if_by (has_one_interval (scheme_of post)) (keeps.parting_span post.span) (keeps.parting_from 2 post) (PhaseIn layout desk)
    (λ i. parting_span_slots layout desk post.span)
    (λ i. parting_slots layout 2 post desk (omega arith) q)

taking_slots : (layout : Layout) (place : ℕ) (post : Post) (desk : Desk) (left : Bool) (found : ℕ) → place < layout.config.seats → PostIn layout post → ListIn layout.config.slots desk.list → ListIn layout.config.slots desk.gift → TurnSlots layout (keeps.taking place post desk left found)
taking_slots layout place post desk true found b q l g = record { post = q; list = All-append (λ (life : Lifetime). life.slot ≤ layout.config.slots) desk.list desk.gift l g; phase = b }
taking_slots layout place post desk false found b q l g = record { post = q; list = l; phase = tt }

bare_slots : (layout : Layout) (index : ℕ) → StandsIn layout (get_or (None ∷ None ∷ None ∷ None ∷ None ∷ None ∷ None ∷ None ∷ []) index None) index
bare_slots layout zero = tt
bare_slots layout (suc zero) = tt
bare_slots layout (suc (suc zero)) = tt
bare_slots layout (suc (suc (suc zero))) = tt
bare_slots layout (suc (suc (suc (suc zero)))) = tt
bare_slots layout (suc (suc (suc (suc (suc zero))))) = tt
bare_slots layout (suc (suc (suc (suc (suc (suc zero)))))) = tt
bare_slots layout (suc (suc (suc (suc (suc (suc (suc zero))))))) = tt
bare_slots layout (suc (suc (suc (suc (suc (suc (suc (suc index)))))))) = tt

released_slots : (layout : Layout) (let_go : LetGo) (post : Post) (desk : Desk) (told : List Event) → KeptIn layout.config (let_index let_go) → PostIn layout post → ListIn layout.config.slots desk.list → TurnSlots layout (keeps.released let_go post desk told)
released_slots layout Released post desk told k q l = record { post = q; list = l; phase = tt }
released_slots layout (Rehold key) post desk told k q l = record { post = q; list = l; phase = round_slots layout (Holds key) post desk tt }
released_slots layout (Dropped index) post desk told k q l = record { post = q; list = l; phase = tt }
released_slots layout (Parting index) post desk told k q l = record { post = q; list = l; phase = parting_slots layout (index + 1) post desk (let a = k.kept in omega arith) q }

copied_slots : (layout : Layout) (from index : ℕ) (post : Post) (desk : Desk) (reserved : List Event) (x : Option ℕ) → StandsIn layout x from → index < layout.config.indexes → PostIn layout post → ListIn layout.config.slots desk.list → TurnSlots layout (keeps.copied from index post desk reserved x)
copied_slots layout from index post desk reserved None s b q l = record { post = q; list = l; phase = tt }
copied_slots layout from index post desk reserved (Some slot) s b q l = record { post = row_slots layout post index slot s.0 b q; list = l; phase = tt }

load_held_slots : (layout : Layout) (from index : ℕ) (post : Post) (desk : Desk) (found : ℕ) (one : Bool) → CopyIn layout.config from index → PostIn layout post → ListIn layout.config.slots desk.list → TurnSlots layout (keeps.load_held from index post desk found one)
load_held_slots layout from index post desk found true c q l = copied_slots layout from index post desk [] (stands post from) (q from) c.below q l
load_held_slots layout from index post desk found false c q l = record { post = q; list = l; phase = c }

looking_slots : (layout : Layout) (index key slot version count : ℕ) (post : Post) (desk : Desk) (more : Bool) (pair : ℕ) → nat_lt pair count ≡ more → KeptIn layout.config index → count ≤ layout.config.pairs → slot ≤ layout.config.slots → PostIn layout post → ListIn layout.config.slots desk.list
    → TurnSlots layout (keeps.looking index key slot version count post desk more pair)
looking_slots layout index key slot version count post desk true pair e k c s q l = record { post = q; list = l; phase = (k, (s, grind (arith, nat_tests), c)) }
looking_slots layout index key slot version count post desk false pair e k c s q l = record { post = q; list = l; phase = tt }

looked_key_slots : (layout : Layout) (index key slot version count pair : ℕ) (post : Post) (desk : Desk) (own : Bool) → KeptIn layout.config index → GetIn layout.config (FindKey slot version count pair) → PostIn layout post → ListIn layout.config.slots desk.list
    → TurnSlots layout (keeps.looked_key index key slot version count pair post desk own)
looked_key_slots layout index key slot version count pair post desk true k s q l = record { post = q; list = l; phase = (k, (s.0, let a = s.1 in let b = s.2 in omega arith)) }
looked_key_slots layout index key slot version count pair post desk false k s q l = looking_slots layout index key slot version count post desk (nat_lt (pair + 1) count) (pair + 1) refl k s.2 s.0 q l

look_slots : (layout : Layout) (index key : ℕ) (at : GetAt) (post : Post) (desk : Desk) (found : ℕ) → get_finds layout.config at found → KeptIn layout.config index → GetIn layout.config at → PostIn layout post → ListIn layout.config.slots desk.list → TurnSlots layout (keeps.look_turn index key at post desk found)
look_slots layout index key (FindVersion slot) post desk found f k s q l = record { post = q; list = l; phase = (k, s) }
look_slots layout index key (FindCount slot version) post desk found f k s q l = looking_slots layout index key slot version found post desk (nat_lt 0 found) 0 refl k f s q l
look_slots layout index key (FindKey slot version count pair) post desk found f k s q l = looked_key_slots layout index key slot version count pair post desk (found == key) k s q l
look_slots layout index key (FindValue slot version pair) post desk found f k s q l = record { post = q; list = l; phase = tt }

keep_slots : (layout : Layout) (at : KeepAt) (post : Post) (desk : Desk) (found : ℕ) → work_finds layout.config (Keeping at) found → WorkIn layout.config (Keeping at) → PostIn layout post → ListIn layout.config.slots desk.list → ListIn layout.config.slots desk.gift → TurnSlots layout (keeps.keep_turn at post desk found)
keep_slots layout (Loosens let_go) post desk found f w q l g =
    released_slots layout let_go (withdrawn post (let_index let_go)) desk (cleared (let_index let_go) (stands post (let_index let_go))) w (withdrawn_slots layout post (let_index let_go) q) l
keep_slots layout (LoadHeld from index) post desk found f w q l g = load_held_slots layout from index post desk found (has_one_interval (scheme_of post)) w q l
keep_slots layout (StoreHeld from index era) post desk found f w q l g = copied_slots layout from index post desk (publishes_index (publishes_rows (scheme_of post)) post index era) (stands post from) (q from) w.below q l
keep_slots layout (Looks index key at) post desk found f w q l g = look_slots layout index key at post desk found f w.0 w.1 q l
keep_slots layout (Misses index) post desk found f w q l g = record { post = q; list = l; phase = tt }
keep_slots layout HideSpan post desk found f w q l g = record { post = bare_slots layout; list = l; phase = tt }
keep_slots layout MarkLeft post desk found f w q l g = record { post = q; list = l; phase = tt }
keep_slots layout (TakeList place) post desk found f w q l g = taking_slots layout place post desk (found == 1) found w q l g
keep_slots layout (MarkTaken place count) post desk found f w q l g = record { post = q; list = l; phase = tt }

-- a step of a call's own, which found this
pub work_slots : (layout : Layout) (work : Work) (post : Post) (desk : Desk) (found : ℕ) → work_finds layout.config work found → work_links layout.config.slots work found → post.layout ≡ layout → WorkIn layout.config work → PostIn layout post → ListIn layout.config.slots desk.list → ListIn layout.config.slots desk.gift → TurnSlots layout (steps.work_turn work post desk found)
work_slots layout (Getting key at) post desk found f k p w q l g = get_slots layout key at post desk found f w q l
work_slots layout (Changing kept at) post desk found f k p w q l g = change_slots layout kept at post desk found f p w q l
work_slots layout (Enqueuing kept at) post desk found f k p w q l g = enqueue_slots layout kept at post desk found f k p w q l
work_slots layout (Dequeuing at) post desk found f k p w q l g = dequeue_slots layout at post desk found w q l
work_slots layout (Keeping at) post desk found f k p w q l g = keep_slots layout at post desk found f w q l g

-- a scan
abbrev entry_in : ℕ → Option scan.Entry → Type 0
entry_in slots None = Unit {0}
entry_in slots (Some entry) = entry.1.slot ≤ slots

unmet_slots : (slots : ℕ) (read : List Seen) (place : ℕ) (lives : List Lifetime) → ListIn slots lives → entry_in slots (scan.first_unmet read place lives)
unmet_slots slots read place [] h = tt
unmet_slots slots read place (life ∷ lives) h =
    elim (keeps_any life read) as (λ x. entry_in slots (elim x [
      | true ↦ scan.first_unmet read (place + 1) lives
      | false ↦ Some (place, life)
    ])) [
      | true ↦ unmet_slots slots read (place + 1) lives (All-tail (λ (l : Lifetime). l.slot ≤ slots) life lives h)
      | false ↦ All-head (λ (l : Lifetime). l.slot ≤ slots) life lives h
    ]

scanned_slots : (layout : Layout) (later : AfterScan) (post : Post) (desk : Desk) (told : List Event) → LaterIn layout.config later → PostIn layout post → ListIn layout.config.slots desk.list → TurnSlots layout (scan.scanned later post desk told)
scanned_slots layout (Answered answer) post desk told t q l = record { post = q; list = l; phase = tt }
scanned_slots layout (Repeated task) post desk told t q l = record { post = q; list = l; phase = round_slots layout task post desk t }
scanned_slots layout Counted post desk told t q l = record { post = q; list = l; phase = tt }

giving_back_slots : (layout : Layout) (later : AfterScan) (post : Post) (desk : Desk) (told : List Event) (x : Option scan.Entry)
    → entry_in layout.config.slots x
    → desk.report.back + length desk.list ≤ layout.config.slots + 1
    → LaterIn layout.config later
    → PostIn layout post
    → ListIn layout.config.slots desk.list
    → TurnSlots layout (scan.giving_back later post desk told x)
giving_back_slots layout later post desk told None e m t q l = scanned_slots layout later post (scan.with_kept desk) told t q l
giving_back_slots layout later post desk told (Some entry) e m t q l = record { post = q; list = l; phase = (t, record { slot_in = e; room = m }) }

read_more : (report : Report) (number : ℕ) → scan.read_before report (number + 1) ≡ report.read
read_more report number = rw add-one refl

guard_slots : (layout : Layout) (later : AfterScan) (number : ℕ) (post : Post) (desk : Desk) (told : List Event) (more : Bool)
    → length desk.report.read ≡ number + 1
    → desk.report.back + length desk.list ≤ layout.config.slots + 1
    → LaterIn layout.config later
    → PostIn layout post
    → ListIn layout.config.slots desk.list
    → TurnSlots layout (scan.reading later number post desk told more)
guard_slots layout later number post desk told true r m t q l =
    record { post = q; list = l; phase = (t, subst (λ (seen : List Seen). length seen ≡ number + 1) (sym (read_more desk.report number)) r) }
guard_slots layout later number post desk told false r m t q l =
    giving_back_slots layout later post desk told (scan.unmet_from desk 0)
    (unmet_slots layout.config.slots desk.report.read 0 (drop 0 desk.list) (All-drop (λ (life : Lifetime). life.slot ≤ layout.config.slots) 0 desk.list l)) m t q l

removed_in : (slots : ℕ) (lives : List Lifetime) (place : ℕ) → ListIn slots lives → ListIn slots (remove lives place)
removed_in slots lives place h =
    All-append (λ (life : Lifetime). life.slot ≤ slots) (take place lives) (drop (suc place) lives)
    (All-take (λ (life : Lifetime). life.slot ≤ slots) place lives h) (All-drop (λ (life : Lifetime). life.slot ≤ slots) (suc place) lives h)

one_seen : (read : List Seen) (seen : Seen) (number : ℕ) → length read ≡ number → length (read ++ seen ∷ []) ≡ number + 1
one_seen read seen number e = rw (length-append read (seen ∷ [])) (rw e refl)

pub scan_slots : (layout : Layout) (later : AfterScan) (at : ScanAt) (post : Post) (desk : Desk) (found : ℕ)
    → scan_lists layout.config desk at
    → ScanIn layout.config.slots desk at
    → LaterIn layout.config later
    → PostIn layout post
    → ListIn layout.config.slots desk.list
    → TurnSlots layout (scan.scan_turn later at post desk found)
scan_slots layout later (ReadGuard number) post desk found f h t q l =
    let rows = publishes_rows (scheme_of post) in
    let seen : Seen = (guard_at post.layout.config number, published rows (guard_at post.layout.config number) found) in
    guard_slots layout later number post (scan.with_read desk number seen) (scan.reads_guard rows seen.0 found ∷ []) (nat_lt (number + 1) (guards post.layout.config))
    (one_seen (scan.read_before desk.report number) seen number h) (omega arith) t q l
scan_slots layout later (GiveBack place slot) post desk found f h t q l =
    let r = removed_in layout.config.slots desk.list place l in
    let n = length-remove desk.list place f in
    let m = h.room in
    giving_back_slots layout later post (scan.with_back desk place) (events.Back slot ∷ []) (scan.unmet_from (scan.with_back desk place) place)
    (unmet_slots layout.config.slots desk.report.read place (drop place (remove desk.list place))
    (All-drop (λ (life : Lifetime). life.slot ≤ layout.config.slots) place (remove desk.list place) r)) (omega arith) t q r

-- what comes after a machine
opened_row_slots : (layout : Layout) (task : Task) (slot : ℕ) (post : Post) (desk : Desk) (told : List Event) → slot ≤ layout.config.slots → TaskIn layout.config task → PostIn layout post → ListIn layout.config.slots desk.list → TurnSlots layout (steps.opened_row task slot post desk told)
opened_row_slots layout (Gets key) slot post desk told s t q l = record { post = q; list = l; phase = s }
opened_row_slots layout (Changes kept) slot post desk told s t q l = record { post = q; list = l; phase = (record { taken = t.taken; link = omega arith; version = omega arith; pairs = omega arith }, (s, refl)) }
opened_row_slots layout (Holds key) slot post desk told s t q l = record { post = q; list = l; phase = tt }
opened_row_slots layout (Enqueues kept) slot post desk told s t q l = record { post = q; list = l; phase = (record { taken = t.taken; tail = s; number = t.number }, tt) }
opened_row_slots layout Dequeues slot post desk told s t q l = record { post = q; list = l; phase = s }

opened_null_slots : (layout : Layout) (task : Task) (post : Post) (desk : Desk) (told : List Event) → post.layout ≡ layout → TaskIn layout.config task → PostIn layout post → ListIn layout.config.slots desk.list → TurnSlots layout (steps.opened_null task post desk told)
opened_null_slots layout (Gets key) post desk told p t q l = got_slots layout key 0 None post desk told q l
opened_null_slots layout (Changes kept) post desk told p t q l = deciding_slots layout (alters.at_link kept 0) post desk told p (record { taken = t.taken; link = omega arith; version = omega arith; pairs = omega arith }) q l
opened_null_slots layout (Holds key) post desk told p t q l = clearing_slots layout (Holds key) (Answering the_answers.Nothing) post desk told tt tt q l
opened_null_slots layout (Enqueues kept) post desk told p t q l = clearing_slots layout (Enqueues kept) Again post desk told t tt q l
opened_null_slots layout Dequeues post desk told p t q l = clearing_slots layout Dequeues Again post desk told tt tt q l

opened_slots : (layout : Layout) (task : Task) (ending : Ending) (post : Post) (desk : Desk) (told : List Event) → EndIn layout.config.slots ending → post.layout ≡ layout → TaskIn layout.config task → PostIn layout post → ListIn layout.config.slots desk.list → TurnSlots layout (steps.opened task ending post desk told)
opened_slots layout task (Protected (protect_ends.Held slot era)) post desk told e p t q l = opened_row_slots layout task slot post desk told e t q l
opened_slots layout task (Protected protect_ends.Null) post desk told e p t q l = opened_null_slots layout task post desk told p t q l
opened_slots layout task Done post desk told e p t q l = record { post = q; list = l; phase = opening_slots layout task post desk t }
opened_slots layout task (Followed end) post desk told e p t q l = record { post = q; list = l; phase = opening_slots layout task post desk t }
opened_slots layout task (Allocated end) post desk told e p t q l = record { post = q; list = l; phase = opening_slots layout task post desk t }
opened_slots layout task (Retired life) post desk told e p t q l = record { post = q; list = l; phase = opening_slots layout task post desk t }
opened_slots layout task (Clocked clock) post desk told e p t q l = record { post = q; list = l; phase = opening_slots layout task post desk t }

no_room_slots : (slots : ℕ) (walked : Bool) → NextIn slots (alters.no_room walked)
no_room_slots slots true = tt
no_room_slots slots false = tt

filled_by_slots : (layout : Layout) (task : Task) (ending : AllocateEnd) (post : Post) (desk : Desk) (told : List Event) → AllocateEndIn layout.config.slots ending → TaskIn layout.config task → FillIn layout.config task → PostIn layout post → ListIn layout.config.slots desk.list → TurnSlots layout (steps.filled_by task ending post desk told)
filled_by_slots layout (Changes kept) (allocate_ends.Given slot birth) post desk told e t v q l = record { post = q; list = l; phase = ((record { taken = e; link = t.link; version = t.version; pairs = t.pairs }, v), (e, t.pairs)) }
filled_by_slots layout (Changes kept) allocate_ends.Full post desk told e t v q l =
    clearing_slots layout (Changes (alters.with_walked kept)) (alters.no_room kept.walked) post desk told (record { taken = t.taken; link = t.link; version = t.version; pairs = t.pairs }) (no_room_slots layout.config.slots kept.walked) q l
filled_by_slots layout (Enqueues kept) (allocate_ends.Given slot birth) post desk told e t v q l = record { post = q; list = l; phase = ((record { taken = e; tail = t.tail; number = t.number }, v), (e, tt)) }
filled_by_slots layout (Enqueues kept) allocate_ends.Full post desk told e t v q l =
    clearing_slots layout (Enqueues (enqueues.item_walked kept)) (alters.no_room kept.walked) post desk told (record { taken = t.taken; tail = t.tail; number = t.number }) (no_room_slots layout.config.slots kept.walked) q l
filled_by_slots layout (Gets key) ending post desk told e t v q l = closed_slots layout (Gets key) Again post desk told tt tt q l
filled_by_slots layout (Holds key) ending post desk told e t v q l = closed_slots layout (Holds key) Again post desk told tt tt q l
filled_by_slots layout Dequeues ending post desk told e t v q l = closed_slots layout Dequeues Again post desk told tt tt q l

taken_in : (slots : ℕ) (x : Option ℕ) → TakenIn slots x → steps.slot_in x ≤ slots
taken_in slots None t = omega arith
taken_in slots (Some slot) t = t

written_row_slots : (layout : Layout) (task : Task) (post : Post) (desk : Desk) (told : List Event) → TaskIn layout.config task → FillIn layout.config task → PostIn layout post → ListIn layout.config.slots desk.list → TurnSlots layout (steps.written_row task post desk told)
written_row_slots layout (Changes kept) post desk told t v q l = record { post = q; list = l; phase = (t, (taken_in layout.config.slots kept.taken t.taken, v)) }
written_row_slots layout (Enqueues kept) post desk told t v q l = record { post = q; list = l; phase = (t, (taken_in layout.config.slots kept.taken t.taken, v)) }
written_row_slots layout (Gets key) post desk told t v q l = closed_slots layout (Gets key) Again post desk told tt tt q l
written_row_slots layout (Holds key) post desk told t v q l = closed_slots layout (Holds key) Again post desk told tt tt q l
written_row_slots layout Dequeues post desk told t v q l = closed_slots layout Dequeues Again post desk told tt tt q l

filled_slots : (layout : Layout) (task : Task) (ending : Ending) (post : Post) (desk : Desk) (told : List Event) → EndIn layout.config.slots ending → TaskIn layout.config task → FillIn layout.config task → PostIn layout post → ListIn layout.config.slots desk.list → TurnSlots layout (steps.filled task ending post desk told)
filled_slots layout task (Allocated ending) post desk told e t v q l = filled_by_slots layout task ending post desk told e t v q l
filled_slots layout task Done post desk told e t v q l = written_row_slots layout task post desk told t v q l
filled_slots layout task (Protected end) post desk told e t v q l = written_row_slots layout task post desk told t v q l
filled_slots layout task (Followed end) post desk told e t v q l = written_row_slots layout task post desk told t v q l
filled_slots layout task (Retired life) post desk told e t v q l = written_row_slots layout task post desk told t v q l
filled_slots layout task (Clocked clock) post desk told e t v q l = written_row_slots layout task post desk told t v q l

followed_by_slots : (layout : Layout) (head tail : ℕ) (ending : Ending) (post : Post) (desk : Desk) (told : List Event) → EndIn layout.config.slots ending → head ≤ layout.config.slots → PostIn layout post → ListIn layout.config.slots desk.list → TurnSlots layout (steps.followed_by head tail ending post desk told)
followed_by_slots layout head tail (Followed ending) post desk told e t q l = followed_slots layout head tail ending post desk told t e q l
followed_by_slots layout head tail Done post desk told e t q l = closed_slots layout Dequeues Again post desk told tt tt q l
followed_by_slots layout head tail (Protected end) post desk told e t q l = closed_slots layout Dequeues Again post desk told tt tt q l
followed_by_slots layout head tail (Allocated end) post desk told e t q l = closed_slots layout Dequeues Again post desk told tt tt q l
followed_by_slots layout head tail (Retired life) post desk told e t q l = closed_slots layout Dequeues Again post desk told tt tt q l
followed_by_slots layout head tail (Clocked clock) post desk told e t q l = closed_slots layout Dequeues Again post desk told tt tt q l

tidying_slots : (layout : Layout) (answer : Answer) (post : Post) (desk : Desk) (told : List Event) (due : Bool) → PostIn layout post → ListIn layout.config.slots desk.list → TurnSlots layout (steps.tidying answer post desk told due)
tidying_slots layout answer post desk told true q l = record { post = q; list = l; phase = tidy_slots layout (Answered answer) (moves_clock (scheme_of post)) post desk tt }
tidying_slots layout answer post desk told false q l = record { post = q; list = l; phase = tt }

retired_by_slots : (layout : Layout) (answer : Answer) (ending : Ending) (post : Post) (desk : Desk) (told : List Event) → EndIn layout.config.slots ending → PostIn layout post → ListIn layout.config.slots desk.list → TurnSlots layout (steps.retired_by answer ending post desk told)
retired_by_slots layout answer (Retired life) post desk told e q l =
    tidying_slots layout answer post (with_life desk life) told (post.retired % post.layout.config.every == 0) q (All-push (λ (l : Lifetime). l.slot ≤ layout.config.slots) desk.list life l e)
retired_by_slots layout answer Done post desk told e q l = record { post = q; list = l; phase = tt }
retired_by_slots layout answer (Protected end) post desk told e q l = record { post = q; list = l; phase = tt }
retired_by_slots layout answer (Followed end) post desk told e q l = record { post = q; list = l; phase = tt }
retired_by_slots layout answer (Allocated end) post desk told e q l = record { post = q; list = l; phase = tt }
retired_by_slots layout answer (Clocked clock) post desk told e q l = record { post = q; list = l; phase = tt }

moved_later : (config : Config) (later : AfterScan) (clock : ClockMove) → LaterIn config later → LaterIn config (steps.after_move later clock)
moved_later config (Answered answer) clock t = tt
moved_later config (Repeated task) clock t = t
moved_later config Counted clock t = tt

tidied_slots : (layout : Layout) (later : AfterScan) (ending : Ending) (post : Post) (desk : Desk) (told : List Event) → LaterIn layout.config later → PostIn layout post → ListIn layout.config.slots desk.list → TurnSlots layout (steps.tidied later ending post desk told)
tidied_slots layout later (Clocked clock) post desk told t q l = record { post = q; list = l; phase = (moved_later layout.config later clock t, refl) }
tidied_slots layout later Done post desk told t q l = record { post = q; list = l; phase = (t, refl) }
tidied_slots layout later (Protected end) post desk told t q l = record { post = q; list = l; phase = (t, refl) }
tidied_slots layout later (Followed end) post desk told t q l = record { post = q; list = l; phase = (t, refl) }
tidied_slots layout later (Allocated end) post desk told t q l = record { post = q; list = l; phase = (t, refl) }
tidied_slots layout later (Retired life) post desk told t q l = record { post = q; list = l; phase = (t, refl) }

advanced_slots : (layout : Layout) (ending : Ending) (post : Post) (desk : Desk) (told : List Event) → PostIn layout post → ListIn layout.config.slots desk.list → TurnSlots layout (steps.advanced ending post desk told)
advanced_slots layout (Clocked clock) post desk told q l = record { post = q; list = l; phase = tt }
advanced_slots layout Done post desk told q l = record { post = q; list = l; phase = tt }
advanced_slots layout (Protected end) post desk told q l = record { post = q; list = l; phase = tt }
advanced_slots layout (Followed end) post desk told q l = record { post = q; list = l; phase = tt }
advanced_slots layout (Allocated end) post desk told q l = record { post = q; list = l; phase = tt }
advanced_slots layout (Retired life) post desk told q l = record { post = q; list = l; phase = tt }

pub resume_slots : (layout : Layout) (why : Why) (ending : Ending) (post : Post) (desk : Desk) (told : List Event) → WhyIn layout.config why → EndIn layout.config.slots ending → post.layout ≡ layout → PostIn layout post → ListIn layout.config.slots desk.list → TurnSlots layout (steps.resume why ending post desk told)
resume_slots layout (Opens task) ending post desk told y e p q l = opened_slots layout task ending post desk told e p y q l
resume_slots layout (FollowsHead head tail) ending post desk told y e p q l = followed_by_slots layout head tail ending post desk told e y q l
resume_slots layout (Fills task) ending post desk told y e p q l = filled_slots layout task ending post desk told e y.0 y.1 q l
resume_slots layout (ClearsNext next) ending post desk told y e p q l = clearing_slots layout Dequeues next post desk told tt y q l
resume_slots layout (Clears task next) ending post desk told y e p q l = finishing_slots layout task next post desk told y.0 y.1 q l
resume_slots layout (Finishes task next) ending post desk told y e p q l = closed_slots layout task next post desk told y.0 y.1 q l
resume_slots layout (GivesUp answer) ending post desk told y e p q l = record { post = q; list = l; phase = tt }
resume_slots layout (Retires answer) ending post desk told y e p q l = retired_by_slots layout answer ending post desk told e q l
resume_slots layout (Tidies later) ending post desk told y e p q l = tidied_slots layout later ending post desk told y q l
resume_slots layout Advances ending post desk told y e p q l = advanced_slots layout ending post desk told q l
resume_slots layout (Releases let_go) ending post desk told y e p q l = released_slots layout let_go post desk told y q l

-- a call's first phase
let_span_slots : (layout : Layout) (desk : Desk) (let_go : LetGo) (x : Option ℕ) → KeptIn layout.config (let_index let_go) → PhaseIn layout desk (letting_by let_go (release_span (let_index let_go) x))
let_span_slots layout desk let_go None k = (k, tt)
let_span_slots layout desk let_go (Some slot) k = k

letting_slots : (layout : Layout) (let_go : LetGo) (post : Post) (desk : Desk) → KeptIn layout.config (let_index let_go) → PhaseIn layout desk (letting let_go post)
letting_slots layout let_go post desk k =
    each_release (scheme_of post) post (let_index let_go) (λ (x : Option Base). PhaseIn layout desk (letting_by let_go x)) (k, tt) (let_span_slots layout desk let_go (kept_row (withdrawn post (let_index let_go))) k)

holding_slots : (layout : Layout) (key : ℕ) (post : Post) (desk : Desk) (x : Option ℕ) → 3 ≤ layout.config.indexes → PhaseIn layout desk (steps.holding key post x)
holding_slots layout key post desk None b = round_slots layout (Holds key) post desk tt
holding_slots layout key post desk (Some slot) b = letting_slots layout (Rehold key) post desk (record { kept = omega arith; below = omega arith })

copying_slots : (layout : Layout) (from index : ℕ) (desk : Desk) (x : Option ℕ) → may_begin layout.config (names.Copy from index) ≡ true → PhaseIn layout desk (steps.copying from index x)
copying_slots layout from index desk None m = record { kept = grind (arith, nat_tests); below = grind (arith, nat_tests) }
copying_slots layout from index desk (Some slot) m = record { kept = grind (arith, nat_tests); rises = grind (arith, nat_tests); below = grind (arith, nat_tests) }

kept_in : (config : Config) (index : ℕ) → (nat_le 2 index && nat_lt index config.indexes) ≡ true → KeptIn config index
kept_in config index m = record { kept = grind (arith, nat_tests); below = grind (arith, nat_tests) }

looking_at_slots : (layout : Layout) (index key : ℕ) (desk : Desk) (x : Option ℕ) → KeptIn layout.config index → StandsIn layout x index → PhaseIn layout desk (steps.looking_at index key x)
looking_at_slots layout index key desk None k s = k
looking_at_slots layout index key desk (Some slot) k s = (k, s.0)

pub first_slots : (layout : Layout) (call : Call) (post : Post) (desk : Desk) → 3 ≤ layout.config.indexes → may_begin layout.config call ≡ true → PostIn layout post → PhaseIn layout desk (steps.first_phase call post)
first_slots layout (names.Get key) post desk b m q = round_slots layout (Gets key) post desk tt
first_slots layout (names.Put key value) post desk b m q = round_slots layout _ post desk (record { taken = tt; link = omega arith; version = omega arith; pairs = omega arith })
first_slots layout (names.Remove key) post desk b m q = round_slots layout _ post desk (record { taken = tt; link = omega arith; version = omega arith; pairs = omega arith })
first_slots layout (names.Enqueue value) post desk b m q = round_slots layout _ post desk (record { taken = tt; tail = omega arith; number = omega arith })
first_slots layout names.Dequeue post desk b m q = round_slots layout Dequeues post desk tt
first_slots layout (names.Hold key) post desk b m q = holding_slots layout key post desk (stands post 2) b
first_slots layout names.Release post desk b m q = letting_slots layout Released post desk (record { kept = omega arith; below = omega arith })
first_slots layout names.Advance post desk b m q = (tt, tt)
first_slots layout names.Scan post desk b m q = (tt, refl)
first_slots layout (names.Copy from index) post desk b m q = copying_slots layout from index desk (stands post from) m
first_slots layout (names.DropIndex index) post desk b m q = letting_slots layout (Dropped index) post desk (kept_in layout.config index m)
first_slots layout (names.Look index key) post desk b m q = looking_at_slots layout index key desk (stands post index) (kept_in layout.config index m) (q index)
first_slots layout (names.PutIf key value version) post desk b m q = round_slots layout _ post desk (record { taken = tt; link = omega arith; version = omega arith; pairs = omega arith })
first_slots layout names.Leave post desk b m q = leaving_slots layout post desk q
first_slots layout (names.Adopt place) post desk b m q = grind (arith, nat_tests)
