-- A turn tells at most one event that an atomic step makes.
use Rattle.std.proofs.Common.{ℕ, ◌≡◌, ◌-◌, ◌+◌, Bool, true, false, List, [], ◌∷◌, ◌++◌, Option, Some, None, refl, arith}
use Rattle.std.specs.Prelude.{◌==◌, not, if◌then◌else◌, drop}
use Rattle.inv_all.specs.model.words.declared.config.SchemeKind.{SchemeKind}
use Rattle.inv_all.specs.model.defs.declared.event.Event.{Event}
use Rattle.inv_all.specs.model.defs.declared.event.Event.TheVariants as events
use Rattle.inv_all.specs.model.defs.declared.event.Root.{Root}
use Rattle.inv_all.specs.model.defs.declared.fold.Change.{Change}
use Rattle.inv_all.specs.model.declared.post.Post.{Post}
use Rattle.inv_all.specs.model.Change as alters
use Rattle.inv_all.specs.model.Desks.{Desk}
use Rattle.inv_all.specs.model.Enqueue as enqueues
use Rattle.inv_all.specs.model.Locals.{told_by, told_end}
use Rattle.inv_all.specs.model.Machine as machine
use Rattle.inv_all.specs.model.Posts.{cleared, counted, publishes_index, stands, cleared_from, reserves_span}
use Rattle.inv_all.specs.model.words.Schemes.{has_one_interval, publishes_rows}
use Rattle.inv_all.specs.model.Guards.{guard_at}
use Rattle.law_reuse.proofs.ReadGuards.{reads_are}
use Rattle.inv_all.specs.model.Rounds.{scheme_of, clear_told, bucket_of, let_index}
use Rattle.inv_all.specs.model.Steps as steps
use Rattle.inv_all.specs.model.Phases.{Base}
use Rattle.inv_all.specs.model.Calls.{ScanAt, ReadGuard, GiveBack, ChangeKept, KeepAt, Loosens, LoadHeld, StoreHeld, Looks, Misses, HideSpan, MarkLeft, TakeList, MarkTaken, Work, Keeping, Phase, Idle, Runs, Scans, Works, CallOutcome, GoesOn, Answers}
use Rattle.inv_all.proofs.model.Facts.{both, first_of, rest_of, if_implies}
use Rattle.inv_all.specs.history.Turns as schedule
use Rattle.inv_all.specs.history.History.{Made}
use Rattle.inv_all.proofs.history.Passes.{Closing, Any, First, copied_told, keep_told, work_told, phase_any, scan_told, step_closes}
use Rattle.inv_all.specs.history.Turns.{EachTurn}
use Rattle.laws.specs.HistoryTurns.{is_atomic, none_atomic, one_atomic, one_step}
use Rattle.law_reuse.specs.Answers.{TurnsTellOne}
use Rattle.law_reuse.proofs.OneStep.Along.{Kept, history_keeps}
use Rattle.inv_all.proofs.history.AllOf.{all_of}
use Rattle.inv_all.proofs.history.MayTell.{Shape, Silent, Single, Clears, Drops, Takes, is_find, shape_of, clear_all, cleared_all, cleared_from_all}
use Rattle.inv_all.specs.model.World.{offered}

none_along : (xs ys : List Event) → none_atomic xs ≡ true → none_atomic ys ≡ true → none_atomic (xs ++ ys) ≡ true
none_along [] ys h k = k
none_along (x ∷ xs) ys h k = both (not (is_atomic x)) (none_atomic (xs ++ ys)) (first_of (not (is_atomic x)) (none_atomic xs) h) (none_along xs ys (rest_of (not (is_atomic x)) (none_atomic xs) h) k)

not_by : (atomic a b : Bool) → not atomic ≡ true → b ≡ true → (if atomic then a else b) ≡ true
not_by true a b e h = absurd (cc)
not_by false a b e h = h

-- none of them, and then one at most
none_one : (told : List Event) → none_atomic told ≡ true → one_atomic told ≡ true
none_one [] h = refl
none_one (event ∷ told) h = not_by (is_atomic event) (none_atomic told) (one_atomic told) (first_of (not (is_atomic event)) (none_atomic told) h) (none_one told (rest_of (not (is_atomic event)) (none_atomic told) h))

one_along : (xs ys : List Event) → one_atomic xs ≡ true → none_atomic ys ≡ true → one_atomic (xs ++ ys) ≡ true
one_along [] ys h k = none_one ys k
one_along (x ∷ xs) ys h k = if_implies (is_atomic x) (none_atomic xs) (one_atomic xs) (none_atomic (xs ++ ys)) (one_atomic (xs ++ ys)) (λ e. none_along xs ys e k) (λ e. one_along xs ys e k) h

one_after : (xs ys : List Event) → none_atomic xs ≡ true → one_atomic ys ≡ true → one_atomic (xs ++ ys) ≡ true
one_after [] ys h k = k
one_after (x ∷ xs) ys h k = not_by (is_atomic x) (none_atomic (xs ++ ys)) (one_atomic (xs ++ ys)) (first_of (not (is_atomic x)) (none_atomic xs) h) (one_after xs ys (rest_of (not (is_atomic x)) (none_atomic xs) h) k)

abbrev One : List Event → Type 0
One told = one_atomic told ≡ true

abbrev Without : List Event → Type 0
Without told = none_atomic told ≡ true

none_all : (told : List Event) → all_of (λ event. not (is_atomic event)) told ≡ true → Without told
none_all [] h = refl
none_all (event ∷ told) h = both (not (is_atomic event)) (none_atomic told) (first_of (not (is_atomic event)) (all_of (λ other. not (is_atomic other)) told) h) (none_all told (rest_of (not (is_atomic event)) (all_of (λ other. not (is_atomic other)) told) h))

clear_none : (scheme : SchemeKind) (post : Post) (index : ℕ) → Without (clear_told scheme post index)
clear_none scheme post index = none_all (clear_told scheme post index) (clear_all (λ event. not (is_atomic event)) scheme post index (λ index slot. refl))

-- a machine
single_one : (event : Event) → One (event ∷ [])
single_one event = by (is_atomic event)
  where
    by : (atomic : Bool) → (if atomic then true else true) ≡ true
    by true = refl
    by false = refl

find_none : (event : Event) → is_find event ≡ true → Without (event ∷ [])
find_none (events.Held index slot n) h = refl
find_none (events.Null index n) h = refl
find_none event h = absurd (cc)

shape_one : (base : Base) (post : Post) (found : ℕ) (told : List Event) → Shape base post found told → One told
shape_one base post found told (Silent e) = rw e refl
shape_one base post found told (Single event e a) = rw e (single_one event)
shape_one base post found told (Clears index slot guard e a b) = rw e refl
shape_one base post found told (Drops index slot guard e a b) = rw e refl
shape_one base post found told (Takes guard span event e t f a b) = rw e (find_none event f)

base_one : (base : Base) (post : Post) (found : ℕ) → One (machine.after base post found).told
base_one base post found = shape_one base post found (machine.after base post found).told (shape_of base post found)

scan_one : (at : ScanAt) (post : Post) (found : ℕ) → One (scan_told at post found)
scan_one (ReadGuard number) post found = reads_are (λ (event : Event). One (event ∷ [])) (publishes_rows post.layout.config.scheme) (guard_at post.layout.config number) found (λ span. refl) (λ slot. refl)
scan_one (GiveBack place slot) post found = refl

-- a call on what is kept stores one index word at most
cleared_none : (index : ℕ) (o : Option ℕ) → Without (cleared index o)
cleared_none index o = none_all (cleared index o) (cleared_all (λ event. not (is_atomic event)) index o (λ index slot. refl))

copied_one : (from index : ℕ) (post : Post) (reserved : List Event) (o : Option ℕ) → One reserved → One (copied_told from index post reserved o)
copied_one from index post reserved None r = refl
copied_one from index post reserved (Some slot) r = one_along (cleared index (stands post index) ++ reserved) (events.Copied from index slot ∷ []) (one_after (cleared index (stands post index)) reserved (cleared_none index (stands post index)) r) refl

keep_one : (at : KeepAt) (post : Post) → One (keep_told at post)
keep_one (Loosens let_go) post = none_one (cleared (let_index let_go) (stands post (let_index let_go))) (cleared_none (let_index let_go) (stands post (let_index let_go)))
keep_one (LoadHeld from index) post = by (has_one_interval (scheme_of post))
  where
    by : (one : Bool) → One (if one then copied_told from index post [] (stands post from) else [])
    by true = copied_one from index post [] (stands post from) refl
    by false = refl
keep_one (StoreHeld from index number) post = copied_one from index post (publishes_index (publishes_rows (scheme_of post)) post index number) (stands post from) (by (publishes_rows (scheme_of post)))
  where
    by : (rows : Bool) → One (publishes_index rows post index number)
    by true = refl
    by false = refl
keep_one (Looks index key at) post = refl
keep_one (Misses index) post = refl
keep_one HideSpan post =
    let rows : List Event = cleared_from 2 (drop 2 post.standing) in
    one_after rows (reserves_span post None) (none_all rows (cleared_from_all (λ event. not (is_atomic event)) 2 (drop 2 post.standing) (λ index slot. refl))) refl
keep_one MarkLeft post = refl
keep_one (TakeList place) post = refl
keep_one (MarkTaken place count) post = refl

work_one : (work : Work) (post : Post) → One (work_told work post)
work_one (Keeping at) post = keep_one at post
work_one work post = refl

-- what comes after a machine tells none, and a call's own step one link at most
abbrev OneTold : Post → List Event → Type 0
OneTold post told = One told

cut_none : (link : ℕ) → Without (alters.told_cut link)
cut_none link = by (link == 0)
  where
    by : (b : Bool) → Without (if b then [] else events.Cut (link - 1) ∷ [])
    by true = refl
    by false = refl

changed_none : (bucket version : ℕ) (change : Change) → Without (alters.told_change bucket version change ∷ [])
changed_none bucket version change = grind arith

linked_one : (kept : ChangeKept) (slot : ℕ) (post : Post) → One (alters.told_linked kept slot post)
linked_one kept slot post = none_along (alters.told_cut kept.link) (alters.told_change (alters.changed_bucket kept post) (kept.version + 1) kept.change ∷ []) (cut_none kept.link) (changed_none (alters.changed_bucket kept post) (kept.version + 1) kept.change)

link_one : (root : Root) (slot : ℕ) (same : Bool) → One (enqueues.told_link root slot same)
link_one root slot true = refl
link_one root slot false = refl

end_none : (post : Post) (outcome : CallOutcome) → Without (told_end post outcome)
end_none post (GoesOn phase) = refl
end_none post (Answers answer) = refl

one_closing : Closing OneTold OneTold Any
one_closing = record {
  weak = λ post told h. h;
  gets = λ post told key version value a h. one_along told (events.Got (bucket_of post key) version key value ∷ []) h refl;
  changes = λ post kept slot h. linked_one kept slot post;
  links = λ post root slot same h. link_one root slot same;
  queues = λ post tail slot number value h. refl;
  takes = λ post head next number value h. refl;
  leaves = λ post count h. refl;
  adopts = λ post place count h. refl;
  clears = λ post told index h. one_along told (clear_told (scheme_of post) post index) h (clear_none (scheme_of post) post index);
  ends = λ post told outcome h. one_along told (told_end post outcome) h (end_none post outcome);
}

first_one : (phase : Phase) (post : Post) (found : ℕ) → First OneTold phase post found
first_one Idle post found = refl
first_one (Runs why base) post found = base_one base post found
first_one (Scans later at) post found = scan_one at post found
first_one (Works work) post found = work_one work post

pub told_one : (phase : Phase) (post : Post) (desk : Desk) (found : ℕ) → One (told_by (steps.phase_turn phase post desk found))
told_one phase post desk found = step_closes OneTold OneTold Any one_closing phase post desk found (phase_any phase post found) (first_one phase post found)

abbrev OneEach : Made → schedule.History → Type 0
OneEach made h = EachTurn one_step h

one_kept : Kept OneEach
one_kept = record {
  begins = λ made h i call a b f m g. g;
  steps = λ made h i a b y g. (told_one (made.world.seat i).phase (counted (made.world.seat i).post) (offered made.world i).desk _, g);
}

pub turns_tell_one : TurnsTellOne
turns_tell_one layout items d = history_keeps layout OneEach one_kept d items tt
