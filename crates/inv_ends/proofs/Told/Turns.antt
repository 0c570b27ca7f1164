-- What a call's own step tells, and what comes after the events of a machine or of a step on what is kept: no event of guards,
-- scans, held or copied rows, eras or rows that are given or freed.
use Rattle.std.proofs.Common.{ℕ, ◌+◌, ◌-◌, Bool, true, false, ◌≡◌, ◌∙◌, sym, refl, ap, subst, arith, ◌⊎◌, inl, inr}
use Rattle.std.proofs.lemmas.Bool.Decides.{nat_tests}
use Rattle.std.proofs.lemmas.List.{append_assoc}
use Rattle.std.proofs.lemmas.List.Folds.{list_any-append, list_all-append}
use Rattle.std.specs.List.{list_any, list_all}
use Rattle.inv_rows.specs.model.Get as gets
use Rattle.inv_rows.specs.model.Change as alters
use Rattle.inv_rows.specs.model.Enqueue as enqueues
use Rattle.inv_rows.specs.model.Dequeue as dequeues
use Rattle.inv_rows.specs.model.Keep as keeps
use Rattle.inv_rows.specs.model.Steps as steps
use Rattle.inv_rows.specs.model.Calls as calls
use Rattle.inv_rows.specs.defs.declared.call.Answer.TheVariants as the_answers
use Rattle.inv_rows.specs.defs.declared.event.Event.TheVariants as events
use Rattle.inv_rows.specs.defs.declared.event.Root.TheVariants as roots
use Rattle.inv_rows.specs.defs.declared.call.ClockMove.TheVariants as moves
use Rattle.inv_rows.specs.defs.declared.fold.Change.TheVariants as changes
use Rattle.inv_rows.specs.model.declared.ends.ProtectEnd.TheVariants as protect_ends
use Rattle.inv_rows.specs.model.declared.ends.FollowEnd.TheVariants as follow_ends
use Rattle.inv_rows.specs.model.declared.ends.AllocateEnd.TheVariants as allocate_ends
use Rattle.inv_rows.specs.model.Calls.{AfterScan, CallOutcome, CallTurn, ChangeAt, ChangeKept, DequeueAt, EnqueueAt, EnqueueKept, GetAt, KeepAt, LetGo, Next, Task, Why, Work}
use Rattle.inv_rows.specs.model.Calls.CallOutcome.{GoesOn}
use Rattle.inv_rows.specs.model.Calls.ChangeAt.{ExchangeRoot, LoadCount, LoadKey, LoadValue, LoadVersion}
use Rattle.inv_rows.specs.model.Calls.DequeueAt.{ExchangeHead, LoadTail, SwingTail, TakeNumber, TakeValue}
use Rattle.inv_rows.specs.model.Calls.EnqueueAt.{ExchangeNext, ExchangeTail, LoadNext, LoadNumber, PassTail}
use Rattle.inv_rows.specs.model.Calls.GetAt.{FindCount, FindKey, FindValue, FindVersion}
use Rattle.inv_rows.specs.model.Calls.KeepAt.{HideSpan, LoadHeld, Loosens, Looks, MarkLeft, MarkTaken, Misses, StoreHeld, TakeList}
use Rattle.inv_rows.specs.model.Calls.LetGo.{Dropped, Parting, Rehold, Released}
use Rattle.inv_rows.specs.model.Calls.Next.{Again, Answering, MakeRoom, Retiring}
use Rattle.inv_rows.specs.model.Calls.Task.{Changes, Dequeues, Enqueues, Gets, Holds}
use Rattle.inv_rows.specs.model.Calls.Why.{Advances, Clears, ClearsNext, Fills, Finishes, FollowsHead, GivesUp, Opens, Releases, Retires, Tidies}
use Rattle.inv_rows.specs.model.Calls.Work.{Changing, Dequeuing, Enqueuing, Getting, Keeping}
use Rattle.inv_rows.specs.model.Desks.{Desk, with_life}
use Rattle.inv_rows.specs.model.Locals.{told_by, told_end}
use Rattle.inv_rows.specs.model.Phases.{Ending, Base}
use Rattle.inv_rows.specs.model.Phases.Ending.{Allocated, Clocked, Done, Followed, Protected, Retired}
use Rattle.inv_rows.specs.model.Posts.{cleared, stands, withdrawn, publishes_index}
use Rattle.inv_rows.specs.model.Rounds.{bucket_of, clear_base, clear_post, clear_told, clearing, clearing_by, clearing_next, clearing_next_by, closed, finish_base, finish_span, finishing, finishing_by, given_up, index_of, kept_row, let_index, scheme_of, taken_of}
use Rattle.inv_rows.specs.model.declared.ends.AllocateEnd.{AllocateEnd}
use Rattle.inv_rows.specs.model.declared.ends.FollowEnd.{FollowEnd}
use Rattle.inv_rows.specs.model.declared.post.Post.{Post}
use Rattle.inv_rows.proofs.Covering.Stands.{withdrawn_shrinks}
use Rattle.inv_ends.specs.Lists.{is_of_lists}
use Rattle.inv_ends.specs.Stands.{is_clear, stood_by, stood}
use Rattle.model_history.proofs.Passes.{copied_post, copied_told, keep_post, keep_told, work_post, work_told}
use Rattle.inv_rows.specs.Covering.Tries.{Shrinks}
use Rattle.inv_rows.specs.defs.declared.call.Answer.{Answer}
use Rattle.inv_rows.specs.defs.declared.event.Event.{Event}
use Rattle.inv_rows.specs.defs.declared.event.Root.{Root}
use Rattle.inv_rows.specs.defs.declared.fold.Change.{Change}
use Rattle.inv_rows.specs.words.declared.config.SchemeKind.{SchemeKind}
use Rattle.std.specs.Prelude.{List, None, Option, Some, [], if◌then◌else◌, length, nat_lt, ◌%◌, ◌++◌, ◌==◌, ◌||◌, ◌∷◌}
use Rattle.inv_rows.proofs.model.Standing.{stands-withdrawn_same, stands-withdrawn_other}
use Rattle.inv_rows.proofs.model.Facts.{either_true, no_truth_2}
use Rattle.inv_rows.proofs.model.Schemes.{each_clear, each_finish}
use Rattle.inv_rows.specs.words.Schemes.{has_one_interval, publishes_rows}

-- an event that comes after those of a machine or of a step on what is kept, besides those of lists
abbrev pub is_sequel : Event → Bool
is_sequel (events.End count answer) = true
is_sequel (events.Link root slot) = true
is_sequel (events.Cut slot) = true
is_sequel (events.Clear index slot) = true
is_sequel (events.Put bucket version key value) = true
is_sequel (events.Removed bucket version key) = true
is_sequel (events.Got bucket version key value) = true
is_sequel (events.Queued number value) = true
is_sequel (events.Taken number value) = true
is_sequel event = false

-- or one of these
abbrev pub is_later : Event → Bool
is_later event = is_sequel event || is_of_lists event

pub all_later : (told : List Event) → list_all is_sequel told ≡ true → list_all is_later told ≡ true
all_later [] h = refl
all_later (event ∷ told) h =
    let a : is_sequel event ≡ true = grind (arith, nat_tests) in
    let b : list_all is_sequel told ≡ true = grind (arith, nat_tests) in
    rw (a, all_later told b) refl

-- what a turn tells after these events
pub record AddsOf (ok : Event → Bool) (post : Post) (told : List Event) (t : CallTurn) : Type 0 where
  pub more : List Event
  pub is : told_by t ≡ told ++ more
  pub later : list_all ok more ≡ true
  pub clears : (j s : ℕ) → list_any (is_clear j s) more ≡ true → stands post j ≡ Some s
  pub stands : (j : ℕ) → stands t.post j ≡ stood more (stands post j) j

abbrev pub Adds : Post → List Event → CallTurn → Type 0
Adds post told t = AddsOf is_later post told t

-- no list is left or taken over
abbrev pub AddsPlain : Post → List Event → CallTurn → Type 0
AddsPlain post told t = AddsOf is_sequel post told t

pub adds_wide : (post : Post) (told : List Event) (t : CallTurn) → AddsPlain post told t → Adds post told t
adds_wide post told t x = record { more = x.more; is = x.is; later = all_later x.more x.later; clears = x.clears; stands = x.stands }

-- events that clear nothing
pub record PlainOf (ok : Event → Bool) (a : List Event) : Type 0 where
  pub later : list_all ok a ≡ true
  pub clears : (j s : ℕ) → list_any (is_clear j s) a ≡ false
  pub stands : (x : Option ℕ) (j : ℕ) → stood a x j ≡ x

abbrev pub Plain : List Event → Type 0
Plain a = PlainOf is_sequel a

pub out_adds : (post : Post) (desk : Desk) (told : List Event) (outcome : CallOutcome) → AddsPlain post told (record { post = post; desk = desk; told = told; outcome = outcome })
out_adds post desk told (GoesOn phase) = record { more = []; is = refl; later = refl; clears = λ j s h. no_truth_2 h; stands = λ j. refl }
out_adds post desk told (calls.Answers answer) = record { more = events.End post.steps answer ∷ []; is = refl; later = refl; clears = λ j s h. no_truth_2 h; stands = λ j. refl }

pub stood_append : (a b : List Event) (x : Option ℕ) (j : ℕ) → stood (a ++ b) x j ≡ stood b (stood a x j) j
stood_append [] b x j = refl
stood_append (event ∷ told) b x j = stood_append told b (stood_by event x j) j

-- more events before them
then_adds : (post next : Post) (told a : List Event) (t : CallTurn) → list_all is_sequel a ≡ true → ((j s : ℕ) → list_any (is_clear j s) a ≡ true → stands post j ≡ Some s) → ((j : ℕ) → stands next j ≡ stood a (stands post j) j) → Shrinks post next → AddsPlain next (told ++ a) t → AddsPlain post told t
then_adds post next told a t l c f k x = record {
  more = a ++ x.more;
  is = x.is ∙ append_assoc told a x.more;
  later = rw (list_all-append is_sequel a x.more, l) x.later;
  clears = λ j s h. by j s (either_true (list_any (is_clear j s) a) (list_any (is_clear j s) x.more) (rw list_any-append at h));
  stands = λ j. x.stands j ∙ ap (λ (y : Option ℕ). stood x.more y j) (f j) ∙ sym (stood_append a x.more (stands post j) j);
} where
  by : (j s : ℕ) → (list_any (is_clear j s) a ≡ true) ⊎ (list_any (is_clear j s) x.more ≡ true) → stands post j ≡ Some s
  by j s (inl h) = c j s h
  by j s (inr h) = k j s (x.clears j s h)

pub plain_adds : (post : Post) (told a : List Event) (t : CallTurn) → Plain a → AddsPlain post (told ++ a) t → AddsPlain post told t
plain_adds post told a t p x = then_adds post post told a t p.later (λ j s h. no_truth_2 (sym (p.clears j s) ∙ h)) (λ j. sym (p.stands (stands post j) j)) (λ j s h. h) x

-- what clearing tells where it takes no step
cleared_later : (index : ℕ) (x : Option ℕ) → list_all is_sequel (cleared index x) ≡ true
cleared_later index None = refl
cleared_later index (Some slot) = refl

pub cleared_stood : (index : ℕ) (x : Option ℕ) (j s : ℕ) → list_any (is_clear j s) (cleared index x) ≡ true → (index ≡ j) × (x ≡ Some s)
cleared_stood index None j s h = no_truth_2 h
cleared_stood index (Some slot) j s h = let q : slot ≡ s = grind (arith, nat_tests) in (grind (arith, nat_tests), ap Some q)

pub at_index : (post : Post) (index j s : ℕ) → (index ≡ j) × (stands post index ≡ Some s) → stands post j ≡ Some s
at_index post index j s h = subst (λ (k : ℕ). stands post k ≡ Some s) h.0 h.1

none_stood : (post : Post) (index j : ℕ) (same : Bool) → (j == index) ≡ same → stands post index ≡ None → stands (withdrawn post index) j ≡ stands post j
none_stood post index j true e h =
    let q : index ≡ j = grind (arith, nat_tests) in
    subst (λ (k : ℕ). stands (withdrawn post index) k ≡ stands post k) q (stands-withdrawn_same post index ∙ sym h)
none_stood post index j false e h = stands-withdrawn_other post index j (grind (arith, nat_tests))

some_stood : (post : Post) (index j : ℕ) (same : Bool) → (j == index) ≡ same → stands (withdrawn post index) j ≡ (if index == j then None else stands post j)
some_stood post index j true e =
    let q : index ≡ j = grind (arith, nat_tests) in
    let k : (index == j) ≡ true = grind (arith, nat_tests) in
    rw k (subst (λ (k : ℕ). stands (withdrawn post index) k ≡ None) q (stands-withdrawn_same post index))
some_stood post index j false e =
    let k : (index == j) ≡ false = grind (arith, nat_tests) in
    rw k (stands-withdrawn_other post index j (grind (arith, nat_tests)))

withdrawn_by : (post : Post) (index j : ℕ) (x : Option ℕ) → stands post index ≡ x → stands (withdrawn post index) j ≡ stood (cleared index x) (stands post j) j
withdrawn_by post index j None e = none_stood post index j (j == index) refl e
withdrawn_by post index j (Some slot) e = some_stood post index j (j == index) refl

-- at an index that is cleared nothing stands, and at the others what stood
pub withdrawn_stood : (post : Post) (index j : ℕ) → stands (withdrawn post index) j ≡ stood (cleared index (stands post index)) (stands post j) j
withdrawn_stood post index j = withdrawn_by post index j (stands post index) refl

cleared_adds : (post : Post) (index : ℕ) (told : List Event) (t : CallTurn) (interval : Bool) → AddsPlain (if interval then withdrawn post index else post) (told ++ (if interval then cleared index (stands post index) else [])) t → AddsPlain post told t
cleared_adds post index told t false x = plain_adds post told [] t (record { later = refl; clears = λ j s. refl; stands = λ x j. refl }) x
cleared_adds post index told t true x =
    then_adds post (withdrawn post index) told (cleared index (stands post index)) t (cleared_later index (stands post index)) (λ j s h. at_index post index j s (cleared_stood index (stands post index) j s h)) (withdrawn_stood post index) (withdrawn_shrinks post index) x

link_plain : (root : Root) (slot : ℕ) (same : Bool) → Plain (enqueues.told_link root slot same)
link_plain root slot true = record { later = refl; clears = λ j s. refl; stands = λ x j. refl }
link_plain root slot false = record { later = refl; clears = λ j s. refl; stands = λ x j. refl }

change_plain : (bucket version : ℕ) (change : Change) → Plain (alters.told_change bucket version change ∷ [])
change_plain bucket version (changes.Put key value) = record { later = refl; clears = λ j s. refl; stands = λ x j. refl }
change_plain bucket version (changes.Removed key) = record { later = refl; clears = λ j s. refl; stands = λ x j. refl }

cut_plain : (link : ℕ) (told : List Event) (null : Bool) → Plain told → Plain ((if null then [] else events.Cut (link - 1) ∷ []) ++ told)
cut_plain link told true p = p
cut_plain link told false p = record { later = p.later; clears = λ j s. p.clears j s; stands = λ x j. p.stands x j }

linked_plain : (kept : ChangeKept) (slot : ℕ) (post : Post) → Plain (alters.told_linked kept slot post)
linked_plain kept slot post =
    let p : Plain (alters.told_cut kept.link ++ alters.told_change (alters.changed_bucket kept post) (kept.version + 1) kept.change ∷ []) = cut_plain kept.link (alters.told_change (alters.changed_bucket kept post) (kept.version + 1) kept.change ∷ []) (kept.link == 0) (change_plain (alters.changed_bucket kept post) (kept.version + 1) kept.change) in
    record { later = p.later; clears = λ j s. p.clears j s; stands = λ x j. p.stands x j }

given_up_adds : (answer : Answer) (post : Post) (desk : Desk) (told : List Event) (x : Option ℕ) → AddsPlain post told (given_up answer post desk told x)
given_up_adds answer post desk told None = out_adds _ _ _ _
given_up_adds answer post desk told (Some slot) = out_adds _ _ _ _

closed_adds : (task : Task) (next : Next) (post : Post) (desk : Desk) (told : List Event) → AddsPlain post told (closed task next post desk told)
closed_adds task Again post desk told = out_adds _ _ _ _
closed_adds task MakeRoom post desk told = out_adds _ _ _ _
closed_adds task (Answering answer) post desk told = given_up_adds answer post desk told (taken_of task)
closed_adds task (Retiring slot answer) post desk told = out_adds _ _ _ _

finish_adds : (task : Task) (next : Next) (post : Post) (desk : Desk) (told : List Event) (x : Option ℕ) → AddsPlain post told (finishing_by task next post desk told (finish_span x))
finish_adds task next post desk told None = out_adds _ _ _ _
finish_adds task next post desk told (Some slot) = closed_adds task next post desk told

finishing_by_adds : (task : Task) (next : Next) (post : Post) (desk : Desk) (told : List Event) (scheme : SchemeKind) → AddsPlain post told (finishing_by task next post desk told (finish_base scheme post))
finishing_by_adds task next post desk told scheme =
    each_finish scheme post (λ (base : Option Base). AddsPlain post told (finishing_by task next post desk told base))
    (closed_adds task next post desk told)
    (finish_adds task next post desk told (kept_row post))

finishing_adds : (task : Task) (next : Next) (post : Post) (desk : Desk) (told : List Event) → AddsPlain post told (finishing task next post desk told)
finishing_adds task Again post desk told = closed_adds task Again post desk told
finishing_adds task MakeRoom post desk told = finishing_by_adds task MakeRoom post desk told (scheme_of post)
finishing_adds task (Answering answer) post desk told = finishing_by_adds task (Answering answer) post desk told (scheme_of post)
finishing_adds task (Retiring slot answer) post desk told = finishing_by_adds task (Retiring slot answer) post desk told (scheme_of post)

clearing_by_adds : (task : Task) (next : Next) (post : Post) (desk : Desk) (told : List Event) (scheme : SchemeKind) → AddsPlain post told (clearing_by task next post desk told (clear_base scheme (index_of task)))
clearing_by_adds task next post desk told scheme =
    each_clear scheme (index_of task) (λ (base : Option Base). AddsPlain post told (clearing_by task next post desk told base))
    (out_adds _ _ _ _)
    (let p : Post = clear_post (scheme_of post) post (index_of task) in
    let t : List Event = told ++ clear_told (scheme_of post) post (index_of task) in
    cleared_adds post (index_of task) told (finishing task next p desk t) (has_one_interval (scheme_of post)) (finishing_adds task next p desk t))

clearing_adds : (task : Task) (next : Next) (post : Post) (desk : Desk) (told : List Event) → AddsPlain post told (clearing task next post desk told)
clearing_adds task next post desk told = clearing_by_adds task next post desk told (scheme_of post)

clearing_next_by_adds : (next : Next) (post : Post) (desk : Desk) (told : List Event) (scheme : SchemeKind) → AddsPlain post told (clearing_next_by next post desk told (clear_base scheme 1))
clearing_next_by_adds next post desk told scheme =
    each_clear scheme 1 (λ (base : Option Base). AddsPlain post told (clearing_next_by next post desk told base))
    (out_adds _ _ _ _)
    (let p : Post = clear_post (scheme_of post) post 1 in
    let t : List Event = told ++ clear_told (scheme_of post) post 1 in
    cleared_adds post 1 told (clearing Dequeues next p desk t) (has_one_interval (scheme_of post)) (clearing_adds Dequeues next p desk t))

clearing_next_adds : (next : Next) (post : Post) (desk : Desk) (told : List Event) → AddsPlain post told (clearing_next next post desk told)
clearing_next_adds next post desk told = clearing_next_by_adds next post desk told (scheme_of post)

got_adds : (key version : ℕ) (value : Option ℕ) (post : Post) (desk : Desk) (told : List Event) → AddsPlain post told (gets.got key version value post desk told)
got_adds key version value post desk told =
    let a : List Event = events.Got (bucket_of post key) version key value ∷ [] in
    plain_adds post told a (gets.got key version value post desk told) (record { later = refl; clears = λ j s. refl; stands = λ x j. refl }) (clearing_adds (Gets key) (Answering (the_answers.Got version value)) post desk (told ++ a))

finding_adds : (key slot version count : ℕ) (post : Post) (desk : Desk) (more : Bool) (pair : ℕ) → AddsPlain post [] (gets.finding key slot version count post desk more pair)
finding_adds key slot version count post desk true pair = out_adds _ _ _ _
finding_adds key slot version count post desk false pair = got_adds key version None post desk []

found_key_adds : (key slot version count pair : ℕ) (post : Post) (desk : Desk) (own : Bool) → AddsPlain post [] (gets.found_key key slot version count pair post desk own)
found_key_adds key slot version count pair post desk true = out_adds _ _ _ _
found_key_adds key slot version count pair post desk false = finding_adds key slot version count post desk (nat_lt (pair + 1) count) (pair + 1)

get_adds : (key : ℕ) (at : GetAt) (post : Post) (desk : Desk) (found : ℕ) → AddsPlain post [] (gets.get_turn key at post desk found)
get_adds key (FindVersion slot) post desk found = out_adds _ _ _ _
get_adds key (FindCount slot version) post desk found = finding_adds key slot version found post desk (nat_lt 0 found) 0
get_adds key (FindKey slot version count pair) post desk found = found_key_adds key slot version count pair post desk (found == key)
get_adds key (FindValue slot version pair) post desk found = got_adds key version (Some found) post desk []

deciding_by_adds : (kept : ChangeKept) (post : Post) (desk : Desk) (told : List Event) (x : Option Answer) → AddsPlain post told (alters.deciding_by kept post desk told x)
deciding_by_adds kept post desk told (Some answer) = clearing_adds (Changes kept) (Answering answer) post desk told
deciding_by_adds kept post desk told None = out_adds _ _ _ _

deciding_adds : (kept : ChangeKept) (post : Post) (desk : Desk) (told : List Event) → AddsPlain post told (alters.deciding kept post desk told)
deciding_adds kept post desk told = deciding_by_adds kept post desk told (alters.refused post.layout.config kept)

reading_adds : (kept : ChangeKept) (slot count : ℕ) (post : Post) (desk : Desk) (more : Bool) → AddsPlain post [] (alters.reading kept slot count post desk more)
reading_adds kept slot count post desk true = out_adds _ _ _ _
reading_adds kept slot count post desk false = deciding_adds kept post desk []

exchanged_adds : (kept : ChangeKept) (slot : ℕ) (post : Post) (desk : Desk) (same : Bool) → AddsPlain post [] (alters.exchanged kept slot post desk same)
exchanged_adds kept slot post desk true =
    plain_adds post [] (alters.told_linked kept slot post) (alters.exchanged kept slot post desk true) (linked_plain kept slot post) (clearing_adds (Changes (record kept { taken = None })) (alters.answer_done (kept.version + 1) kept.link) post desk (alters.told_linked kept slot post))
exchanged_adds kept slot post desk false = clearing_adds (Changes kept) Again post desk []

change_adds : (kept : ChangeKept) (at : ChangeAt) (post : Post) (desk : Desk) (found : ℕ) → AddsPlain post [] (alters.change_turn kept at post desk found)
change_adds kept (LoadVersion slot) post desk found = out_adds _ _ _ _
change_adds kept (LoadCount slot) post desk found = reading_adds kept slot found post desk (nat_lt 0 found)
change_adds kept (LoadKey slot count) post desk found = out_adds _ _ _ _
change_adds kept (LoadValue slot count key) post desk found = reading_adds (alters.with_read kept key found) slot count post desk (nat_lt (length kept.pairs + 1) count)
change_adds kept (ExchangeRoot slot) post desk found = exchanged_adds kept slot post desk (found == kept.link)

appending_adds : (kept : EnqueueKept) (post : Post) (desk : Desk) (spent : Bool) → AddsPlain post [] (enqueues.appending kept post desk spent)
appending_adds kept post desk true = clearing_adds (Enqueues kept) (Answering (the_answers.Spent kept.number)) post desk []
appending_adds kept post desk false = out_adds _ _ _ _

at_next_adds : (kept : EnqueueKept) (next : ℕ) (post : Post) (desk : Desk) (none : Bool) → AddsPlain post [] (enqueues.at_next kept next post desk none)
at_next_adds kept next post desk true = appending_adds kept post desk (kept.number == post.layout.config.last_version)
at_next_adds kept next post desk false = out_adds _ _ _ _

appended_adds : (kept : EnqueueKept) (slot : ℕ) (post : Post) (desk : Desk) (same : Bool) → AddsPlain post [] (enqueues.appended kept slot post desk same)
appended_adds kept slot post desk true =
    let a : List Event = events.Link (roots.Next kept.tail) slot ∷ events.Queued (kept.number + 1) kept.value ∷ [] in
    plain_adds post [] a (enqueues.appended kept slot post desk true) (record { later = refl; clears = λ j s. refl; stands = λ x j. refl }) (out_adds _ _ _ _)
appended_adds kept slot post desk false = clearing_adds (Enqueues kept) Again post desk []

enqueue_adds : (kept : EnqueueKept) (at : EnqueueAt) (post : Post) (desk : Desk) (found : ℕ) → AddsPlain post [] (enqueues.enqueue_turn kept at post desk found)
enqueue_adds kept LoadNumber post desk found = out_adds _ _ _ _
enqueue_adds kept LoadNext post desk found = at_next_adds kept found post desk (found == 0)
enqueue_adds kept (PassTail next) post desk found =
    plain_adds post [] (enqueues.told_link roots.Tail (next - 1) (found == kept.tail + 1)) (enqueues.enqueue_turn kept (PassTail next) post desk found) (link_plain roots.Tail (next - 1) (found == kept.tail + 1)) (clearing_adds (Enqueues kept) Again post desk (enqueues.told_link roots.Tail (next - 1) (found == kept.tail + 1)))
enqueue_adds kept (ExchangeNext slot) post desk found = appended_adds kept slot post desk (found == 0)
enqueue_adds kept (ExchangeTail slot) post desk found =
    plain_adds post [] (enqueues.told_link roots.Tail slot (found == kept.tail + 1)) (enqueues.enqueue_turn kept (ExchangeTail slot) post desk found) (link_plain roots.Tail slot (found == kept.tail + 1)) (clearing_adds (Enqueues kept) (Answering (the_answers.Queued (kept.number + 1))) post desk (enqueues.told_link roots.Tail slot (found == kept.tail + 1)))

followed_row_adds : (head next : ℕ) (post : Post) (desk : Desk) (told : List Event) (lags : Bool) → AddsPlain post told (dequeues.followed_row head next post desk told lags)
followed_row_adds head next post desk told true = out_adds _ _ _ _
followed_row_adds head next post desk told false = out_adds _ _ _ _

followed_adds : (head tail : ℕ) (ending : FollowEnd) (post : Post) (desk : Desk) (told : List Event) → AddsPlain post told (dequeues.followed head tail ending post desk told)
followed_adds head tail (follow_ends.Followed slot) post desk told = followed_row_adds head slot post desk told (tail == head + 1)
followed_adds head tail follow_ends.NoNext post desk told = clearing_next_adds (Answering the_answers.Empty) post desk told
followed_adds head tail (follow_ends.RootMoved seen) post desk told = clearing_next_adds Again post desk told

taken_adds : (head next number value : ℕ) (post : Post) (desk : Desk) (same : Bool) → AddsPlain post [] (dequeues.taken head next number value post desk same)
taken_adds head next number value post desk true =
    let a : List Event = events.Link roots.Head next ∷ events.Cut head ∷ events.Taken number value ∷ [] in
    plain_adds post [] a (dequeues.taken head next number value post desk true) (record { later = refl; clears = λ j s. refl; stands = λ x j. refl }) (clearing_next_adds (Retiring head (the_answers.Taken number value moves.Still)) post desk a)
taken_adds head next number value post desk false = clearing_next_adds Again post desk []

dequeue_adds : (at : DequeueAt) (post : Post) (desk : Desk) (found : ℕ) → AddsPlain post [] (dequeues.dequeue_turn at post desk found)
dequeue_adds (LoadTail head) post desk found = out_adds _ _ _ _
dequeue_adds (SwingTail head next) post desk found =
    plain_adds post [] (enqueues.told_link roots.Tail next (found == head + 1)) (dequeues.dequeue_turn (SwingTail head next) post desk found) (link_plain roots.Tail next (found == head + 1)) (clearing_next_adds Again post desk (enqueues.told_link roots.Tail next (found == head + 1)))
dequeue_adds (TakeNumber head next) post desk found = out_adds _ _ _ _
dequeue_adds (TakeValue head next number) post desk found = out_adds _ _ _ _
dequeue_adds (ExchangeHead head next number value) post desk found = taken_adds head next number value post desk (found == head + 1)

pub end_plain : (post : Post) (outcome : CallOutcome) → Plain (told_end post outcome)
end_plain post (GoesOn phase) = record { later = refl; clears = λ j s. refl; stands = λ x j. refl }
end_plain post (calls.Answers answer) = record { later = refl; clears = λ j s. refl; stands = λ x j. refl }

-- a turn that leaves this post, and tells just this before events that clear nothing
pub record JustOf (ok : Event → Bool) (left : Post) (events : List Event) (t : CallTurn) : Type 0 where
  pub more : List Event
  pub post : t.post ≡ left
  pub told : told_by t ≡ events ++ more
  pub plain : PlainOf ok more

abbrev pub Just : Post → List Event → CallTurn → Type 0
Just left events t = JustOf is_later left events t

abbrev pub JustPlain : Post → List Event → CallTurn → Type 0
JustPlain left events t = JustOf is_sequel left events t

just_wide : (left : Post) (events : List Event) (t : CallTurn) → JustPlain left events t → Just left events t
just_wide left events t x = record {
  more = x.more;
  post = x.post;
  told = x.told;
  plain = record { later = all_later x.more x.plain.later; clears = x.plain.clears; stands = x.plain.stands };
}

just_out : (post : Post) (desk : Desk) (told : List Event) (outcome : CallOutcome) → JustPlain post told (record { post = post; desk = desk; told = told; outcome = outcome })
just_out post desk told outcome = record { more = told_end post outcome; post = refl; told = refl; plain = end_plain post outcome }

just_adds : (ok : Event → Bool) (post : Post) (told : List Event) (t : CallTurn) → JustOf ok post told t → AddsOf ok post told t
just_adds ok post told t x = record {
  more = x.more;
  is = x.told;
  later = x.plain.later;
  clears = λ j s h. no_truth_2 (sym (x.plain.clears j s) ∙ h);
  stands = λ j. ap (λ (p : Post). stands p j) x.post ∙ sym (x.plain.stands (stands post j) j);
}

-- what is let go, copied or looked at
copied_just : (from index : ℕ) (post : Post) (desk : Desk) (reserved : List Event) (x : Option ℕ) → JustPlain (copied_post index post x) (copied_told from index post reserved x) (keeps.copied from index post desk reserved x)
copied_just from index post desk reserved None = just_out _ _ _ _
copied_just from index post desk reserved (Some slot) = just_out _ _ _ _

load_held_just : (from index : ℕ) (post : Post) (desk : Desk) (found : ℕ) (one : Bool)
    → JustPlain (if one then copied_post index post (stands post from) else post) (if one then copied_told from index post [] (stands post from) else []) (keeps.load_held from index post desk found one)
load_held_just from index post desk found true = copied_just from index post desk [] (stands post from)
load_held_just from index post desk found false = just_out _ _ _ _

looking_just : (index key slot version count : ℕ) (post : Post) (desk : Desk) (more : Bool) (pair : ℕ) → JustPlain post [] (keeps.looking index key slot version count post desk more pair)
looking_just index key slot version count post desk true pair = just_out _ _ _ _
looking_just index key slot version count post desk false pair = just_out _ _ _ _

looked_key_just : (index key slot version count pair : ℕ) (post : Post) (desk : Desk) (own : Bool) → JustPlain post [] (keeps.looked_key index key slot version count pair post desk own)
looked_key_just index key slot version count pair post desk true = just_out _ _ _ _
looked_key_just index key slot version count pair post desk false = looking_just index key slot version count post desk (nat_lt (pair + 1) count) (pair + 1)

look_just : (index key : ℕ) (at : GetAt) (post : Post) (desk : Desk) (found : ℕ) → JustPlain post [] (keeps.look_turn index key at post desk found)
look_just index key (FindVersion slot) post desk found = just_out _ _ _ _
look_just index key (FindCount slot version) post desk found = looking_just index key slot version found post desk (nat_lt 0 found) 0
look_just index key (FindKey slot version count pair) post desk found = looked_key_just index key slot version count pair post desk (found == key)
look_just index key (FindValue slot version pair) post desk found = just_out _ _ _ _

let_go_just : (let_go : LetGo) (post : Post) (desk : Desk) (told : List Event) → JustPlain post told (keeps.released let_go post desk told)
let_go_just Released post desk told = just_out _ _ _ _
let_go_just (Rehold key) post desk told = just_out _ _ _ _
let_go_just (Dropped index) post desk told = just_out _ _ _ _
let_go_just (Parting index) post desk told = just_out _ _ _ _

-- a list that is left, or taken over
left_just : (post : Post) (desk : Desk) → Just post [] (keeps.keep_turn MarkLeft post desk 0)
left_just post desk = record {
  more = events.Left (length desk.list) ∷ events.End post.steps (the_answers.Left (length desk.list)) ∷ [];
  post = refl;
  told = refl;
  plain = record { later = refl; clears = λ j s. refl; stands = λ x j. refl };
}

taking_just : (place : ℕ) (post : Post) (desk : Desk) (left : Bool) (found : ℕ) → Just post [] (keeps.taking place post desk left found)
taking_just place post desk true found = record {
  more = events.Adopted place (length desk.gift) ∷ [];
  post = refl;
  told = refl;
  plain = record { later = refl; clears = λ j s. refl; stands = λ x j. refl };
}
taking_just place post desk false found = just_wide _ _ _ (just_out _ _ _ _)

-- steps that leave or take over a list
abbrev pub is_handing : KeepAt → Bool
is_handing MarkLeft = true
is_handing (TakeList place) = true
is_handing at = false

pub keep_still : (at : KeepAt) (post : Post) (desk : Desk) (found : ℕ) → is_handing at ≡ false → JustPlain (keep_post at post) (keep_told at post) (keeps.keep_turn at post desk found)
keep_still (Loosens let_go) post desk found h = let_go_just let_go (withdrawn post (let_index let_go)) desk (cleared (let_index let_go) (stands post (let_index let_go)))
keep_still (LoadHeld from index) post desk found h = load_held_just from index post desk found (has_one_interval (scheme_of post))
keep_still (StoreHeld from index era) post desk found h = copied_just from index post desk (publishes_index (publishes_rows (scheme_of post)) post index era) (stands post from)
keep_still (Looks index key at) post desk found h = look_just index key at post desk found
keep_still (Misses index) post desk found h = just_out _ _ _ _
keep_still HideSpan post desk found h = just_out _ _ _ _
keep_still MarkLeft post desk found h = no_truth_2 (sym h)
keep_still (TakeList place) post desk found h = no_truth_2 (sym h)
keep_still (MarkTaken place count) post desk found h = just_out _ _ _ _

pub keep_just : (at : KeepAt) (post : Post) (desk : Desk) (found : ℕ) → Just (keep_post at post) (keep_told at post) (keeps.keep_turn at post desk found)
keep_just MarkLeft post desk found = left_just post desk
keep_just (TakeList place) post desk found = taking_just place post desk (found == 1) found
keep_just (Loosens let_go) post desk found = just_wide _ _ _ (keep_still (Loosens let_go) post desk found refl)
keep_just (LoadHeld from index) post desk found = just_wide _ _ _ (keep_still (LoadHeld from index) post desk found refl)
keep_just (StoreHeld from index era) post desk found = just_wide _ _ _ (keep_still (StoreHeld from index era) post desk found refl)
keep_just (Looks index key at) post desk found = just_wide _ _ _ (keep_still (Looks index key at) post desk found refl)
keep_just (Misses index) post desk found = just_wide _ _ _ (keep_still (Misses index) post desk found refl)
keep_just HideSpan post desk found = just_wide _ _ _ (keep_still HideSpan post desk found refl)
keep_just (MarkTaken place count) post desk found = just_wide _ _ _ (keep_still (MarkTaken place count) post desk found refl)

abbrev pub hands_list : Work → Bool
hands_list (Keeping at) = is_handing at
hands_list work = false

-- a step of a call's own; what it works on the map, on the queue or on what is kept leaves lists
pub work_still : (work : Work) (post : Post) (desk : Desk) (found : ℕ) → hands_list work ≡ false → AddsPlain (work_post work post) (work_told work post) (steps.work_turn work post desk found)
work_still (Getting key at) post desk found h = get_adds key at post desk found
work_still (Changing kept at) post desk found h = change_adds kept at post desk found
work_still (Enqueuing kept at) post desk found h = enqueue_adds kept at post desk found
work_still (Dequeuing at) post desk found h = dequeue_adds at post desk found
work_still (Keeping at) post desk found h = just_adds is_sequel (keep_post at post) (keep_told at post) (keeps.keep_turn at post desk found) (keep_still at post desk found h)

pub work_adds : (work : Work) (post : Post) (desk : Desk) (found : ℕ) → Adds (work_post work post) (work_told work post) (steps.work_turn work post desk found)
work_adds (Getting key at) post desk found = adds_wide _ _ _ (work_still (Getting key at) post desk found refl)
work_adds (Changing kept at) post desk found = adds_wide _ _ _ (work_still (Changing kept at) post desk found refl)
work_adds (Enqueuing kept at) post desk found = adds_wide _ _ _ (work_still (Enqueuing kept at) post desk found refl)
work_adds (Dequeuing at) post desk found = adds_wide _ _ _ (work_still (Dequeuing at) post desk found refl)
work_adds (Keeping at) post desk found = just_adds is_later (keep_post at post) (keep_told at post) (keeps.keep_turn at post desk found) (keep_just at post desk found)

opened_row_adds : (task : Task) (slot : ℕ) (post : Post) (desk : Desk) (told : List Event) → AddsPlain post told (steps.opened_row task slot post desk told)
opened_row_adds (Gets key) slot post desk told = out_adds _ _ _ _
opened_row_adds (Changes kept) slot post desk told = out_adds _ _ _ _
opened_row_adds (Holds key) slot post desk told = out_adds _ _ _ _
opened_row_adds (Enqueues kept) slot post desk told = out_adds _ _ _ _
opened_row_adds Dequeues slot post desk told = out_adds _ _ _ _

opened_null_adds : (task : Task) (post : Post) (desk : Desk) (told : List Event) → AddsPlain post told (steps.opened_null task post desk told)
opened_null_adds (Gets key) post desk told = got_adds key 0 None post desk told
opened_null_adds (Changes kept) post desk told = deciding_adds (alters.at_link kept 0) post desk told
opened_null_adds (Holds key) post desk told = clearing_adds (Holds key) (Answering the_answers.Nothing) post desk told
opened_null_adds (Enqueues kept) post desk told = clearing_adds (Enqueues kept) Again post desk told
opened_null_adds Dequeues post desk told = clearing_adds Dequeues Again post desk told

opened_adds : (task : Task) (ending : Ending) (post : Post) (desk : Desk) (told : List Event) → AddsPlain post told (steps.opened task ending post desk told)
opened_adds task (Protected (protect_ends.Held slot era)) post desk told = opened_row_adds task slot post desk told
opened_adds task (Protected protect_ends.Null) post desk told = opened_null_adds task post desk told
opened_adds task Done post desk told = out_adds _ _ _ _
opened_adds task (Followed end) post desk told = out_adds _ _ _ _
opened_adds task (Allocated end) post desk told = out_adds _ _ _ _
opened_adds task (Retired life) post desk told = out_adds _ _ _ _
opened_adds task (Clocked clock) post desk told = out_adds _ _ _ _

filled_by_adds : (task : Task) (ending : AllocateEnd) (post : Post) (desk : Desk) (told : List Event) → AddsPlain post told (steps.filled_by task ending post desk told)
filled_by_adds (Changes kept) (allocate_ends.Given slot birth) post desk told = out_adds _ _ _ _
filled_by_adds (Changes kept) allocate_ends.Full post desk told = clearing_adds (Changes (alters.with_walked kept)) (alters.no_room kept.walked) post desk told
filled_by_adds (Enqueues kept) (allocate_ends.Given slot birth) post desk told = out_adds _ _ _ _
filled_by_adds (Enqueues kept) allocate_ends.Full post desk told = clearing_adds (Enqueues (enqueues.item_walked kept)) (alters.no_room kept.walked) post desk told
filled_by_adds (Gets key) ending post desk told = closed_adds (Gets key) Again post desk told
filled_by_adds (Holds key) ending post desk told = closed_adds (Holds key) Again post desk told
filled_by_adds Dequeues ending post desk told = closed_adds Dequeues Again post desk told

written_row_adds : (task : Task) (post : Post) (desk : Desk) (told : List Event) → AddsPlain post told (steps.written_row task post desk told)
written_row_adds (Changes kept) post desk told = out_adds _ _ _ _
written_row_adds (Enqueues kept) post desk told = out_adds _ _ _ _
written_row_adds (Gets key) post desk told = closed_adds (Gets key) Again post desk told
written_row_adds (Holds key) post desk told = closed_adds (Holds key) Again post desk told
written_row_adds Dequeues post desk told = closed_adds Dequeues Again post desk told

filled_adds : (task : Task) (ending : Ending) (post : Post) (desk : Desk) (told : List Event) → AddsPlain post told (steps.filled task ending post desk told)
filled_adds task (Allocated ending) post desk told = filled_by_adds task ending post desk told
filled_adds task Done post desk told = written_row_adds task post desk told
filled_adds task (Protected end) post desk told = written_row_adds task post desk told
filled_adds task (Followed end) post desk told = written_row_adds task post desk told
filled_adds task (Retired life) post desk told = written_row_adds task post desk told
filled_adds task (Clocked clock) post desk told = written_row_adds task post desk told

followed_by_adds : (head tail : ℕ) (ending : Ending) (post : Post) (desk : Desk) (told : List Event) → AddsPlain post told (steps.followed_by head tail ending post desk told)
followed_by_adds head tail (Followed ending) post desk told = followed_adds head tail ending post desk told
followed_by_adds head tail Done post desk told = closed_adds Dequeues Again post desk told
followed_by_adds head tail (Protected end) post desk told = closed_adds Dequeues Again post desk told
followed_by_adds head tail (Allocated end) post desk told = closed_adds Dequeues Again post desk told
followed_by_adds head tail (Retired life) post desk told = closed_adds Dequeues Again post desk told
followed_by_adds head tail (Clocked clock) post desk told = closed_adds Dequeues Again post desk told

tidying_adds : (answer : Answer) (post : Post) (desk : Desk) (told : List Event) (due : Bool) → AddsPlain post told (steps.tidying answer post desk told due)
tidying_adds answer post desk told true = out_adds _ _ _ _
tidying_adds answer post desk told false = out_adds _ _ _ _

retired_by_adds : (answer : Answer) (ending : Ending) (post : Post) (desk : Desk) (told : List Event) → AddsPlain post told (steps.retired_by answer ending post desk told)
retired_by_adds answer (Retired life) post desk told = tidying_adds answer post (with_life desk life) told (post.retired % post.layout.config.every == 0)
retired_by_adds answer Done post desk told = out_adds _ _ _ _
retired_by_adds answer (Protected end) post desk told = out_adds _ _ _ _
retired_by_adds answer (Followed end) post desk told = out_adds _ _ _ _
retired_by_adds answer (Allocated end) post desk told = out_adds _ _ _ _
retired_by_adds answer (Clocked clock) post desk told = out_adds _ _ _ _

tidied_adds : (later : AfterScan) (ending : Ending) (post : Post) (desk : Desk) (told : List Event) → AddsPlain post told (steps.tidied later ending post desk told)
tidied_adds later (Clocked clock) post desk told = out_adds _ _ _ _
tidied_adds later Done post desk told = out_adds _ _ _ _
tidied_adds later (Protected end) post desk told = out_adds _ _ _ _
tidied_adds later (Followed end) post desk told = out_adds _ _ _ _
tidied_adds later (Allocated end) post desk told = out_adds _ _ _ _
tidied_adds later (Retired life) post desk told = out_adds _ _ _ _

advanced_adds : (ending : Ending) (post : Post) (desk : Desk) (told : List Event) → AddsPlain post told (steps.advanced ending post desk told)
advanced_adds (Clocked clock) post desk told = out_adds _ _ _ _
advanced_adds Done post desk told = out_adds _ _ _ _
advanced_adds (Protected end) post desk told = out_adds _ _ _ _
advanced_adds (Followed end) post desk told = out_adds _ _ _ _
advanced_adds (Allocated end) post desk told = out_adds _ _ _ _
advanced_adds (Retired life) post desk told = out_adds _ _ _ _

-- what comes after a machine
pub resume_adds : (why : Why) (ending : Ending) (post : Post) (desk : Desk) (told : List Event) → AddsPlain post told (steps.resume why ending post desk told)
resume_adds (Opens task) ending post desk told = opened_adds task ending post desk told
resume_adds (FollowsHead head tail) ending post desk told = followed_by_adds head tail ending post desk told
resume_adds (Fills task) ending post desk told = filled_adds task ending post desk told
resume_adds (ClearsNext next) ending post desk told = clearing_adds Dequeues next post desk told
resume_adds (Clears task next) ending post desk told = finishing_adds task next post desk told
resume_adds (Finishes task next) ending post desk told = closed_adds task next post desk told
resume_adds (GivesUp answer) ending post desk told = out_adds _ _ _ _
resume_adds (Retires answer) ending post desk told = retired_by_adds answer ending post desk told
resume_adds (Tidies later) ending post desk told = tidied_adds later ending post desk told
resume_adds Advances ending post desk told = advanced_adds ending post desk told
resume_adds (Releases let_go) ending post desk told = just_adds is_sequel post told (keeps.released let_go post desk told) (let_go_just let_go post desk told)
