-- What a hold tells as held was linked at the root of its key's bucket, and shows a version of that bucket.
use Rattle.std.proofs.Common.{ℕ, ◌≡◌, ◌<◌, ◌+◌, ◌-◌, Bool, true, false, List, [], ◌∷◌, ◌++◌, Option, Some, None, refl, sym, ap, ◌∙◌, subst, arith}
use Rattle.std.proofs.lemmas.Bool.Decides.{nat_tests}
use Rattle.std.specs.Prelude.{◌&&◌, ◌==◌, ◌||◌, drop, if◌then◌else◌, not}
use Rattle.law_held.proofs.inv.model.Facts.{both, first_of, rest_of, same_number}
use Rattle.law_held.specs.inv.model.Calls.{Gets, Changes, Holds, Enqueues, Dequeues, Why, Opens, FollowsHead, Keeping, Loosens, LoadHeld, StoreHeld, Looks, Misses, HideSpan, MarkLeft, TakeList, MarkTaken, Getting, Changing, Enqueuing, Dequeuing, ReadGuard, GiveBack, Work, Phase, Idle, Runs, Scans, Works, CallTurn, CallOutcome, GoesOn, Answers}
use Rattle.law_held.specs.inv.model.Guards.{guard_at}
use Rattle.law_held.specs.inv.model.Locals.{told_end, turn}
use Rattle.law_held.specs.inv.model.Machine as machine
use Rattle.law_held.specs.inv.model.Memory.{bump}
use Rattle.law_held.specs.inv.model.Phases.{Aim, ProtectAt, Base, Turn}
use Rattle.law_held.specs.inv.model.Phases.Base.{Protect, Reload}
use Rattle.law_held.specs.inv.model.Phases.HazardAt.{CheckLink, FirstLink, PublishLink}
use Rattle.law_held.specs.inv.model.Phases.ProtectAt.{ByHazard, CheckClock, TakeAnswer, CheckUpper}
use Rattle.law_held.specs.inv.model.Rounds.{let_index, scheme_of}
use Rattle.law_held.specs.inv.model.words.Schemes.{has_one_interval, publishes_rows}
use Rattle.law_held.specs.inv.model.defs.declared.fold.Change.TheVariants as changes
use Rattle.law_held.specs.inv.model.defs.declared.fold.Change.{Change}
use Rattle.law_held.specs.inv.model.Posts.{cleared, cleared_from, counted, publishes_index, reserves_span, stands, upper}
use Rattle.law_held.specs.inv.model.Protect as protects
use Rattle.law_held.specs.inv.model.World.{World, finds, offered, told_in}
use Rattle.law_held.specs.inv.model.declared.post.Post.{Post}
use Rattle.law_held.specs.inv.model.defs.declared.call.Call.TheVariants as calls
use Rattle.law_held.specs.inv.model.defs.declared.call.Call.{Call}
use Rattle.law_held.specs.inv.model.defs.declared.event.Event.TheVariants as events
use Rattle.law_held.specs.inv.model.defs.declared.event.Event.{Event}
use Rattle.law_held.specs.inv.model.defs.declared.event.Root.TheVariants as roots
use Rattle.law_held.specs.inv.model.defs.declared.event.Root.{Root}
use Rattle.law_held.specs.inv.model.words.declared.layout.Layout.{Layout}
use Rattle.law_held.specs.laws.StateAt.{began_of}
use Rattle.law_held.specs.laws.StructuresAt.{RowShows, bucket_of, shows_of}
use Rattle.law_held.specs.inv.Inv.{Inv}
use Rattle.law_held.specs.inv.requests.Parents.{rises_at}
use Rattle.law_held.specs.inv.shapes.Seats.{kind_of, suits}
use Rattle.law_held.specs.inv.history.Record.Past.{Then}
use Rattle.law_held.specs.inv.history.Record.{Each, Past, tells_of}
use Rattle.law_held.proofs.inv.Inv.Whole.{contents_need}
use Rattle.law_held.proofs.inv.Contents.Contents.Keeps.{rises_counted}
use Rattle.law_reasons.proofs.inv.ends.Handover.Asks.{run_of}
use Rattle.law_held.proofs.inv.history.AllOf.{all_of, of_along, of_weaker}
use Rattle.law_held.proofs.inv.history.MayTell as mays
use Rattle.law_held.proofs.inv.history.MayTell.{concluded_told, is_find, no_find, clear_any}
use Rattle.law_held.proofs.inv.history.Passes.{Closed, First, is_quiet, step_goes, work_told, copied_told}
use Rattle.law_reasons.proofs.reuse.AnswersTold.Owed.{Serves, WhyServes, call_for}
use Rattle.law_reasons.proofs.reuse.ReadGuards.{reads_are}
use Rattle.law_held.proofs.scans.Placing.Marks.{InOrder, is_common, ordered, step_order}
use Rattle.law_reasons.proofs.Reasons.Shows.{Shows}
use Rattle.law_all.specs.Logs.Shown.{shows_bucket, shows_for, shows_ok}

-- each row that is told as held is one of these
abbrev Of : (ℕ → Type 0) → Event → Type 0
Of K (events.Held index slot steps) = K slot
Of K event = Unit {0}

abbrev AllOf : (ℕ → Type 0) → List Event → Type 0
AllOf K [] = Unit {0}
AllOf K (event ∷ told) = Of K event × AllOf K told

all_along : (K : ℕ → Type 0) (xs ys : List Event) → AllOf K xs → AllOf K ys → AllOf K (xs ++ ys)
all_along K [] ys h g = g
all_along K (event ∷ xs) ys h g = (h.0, all_along K xs ys h.1 g)

one_other : (K : ℕ → Type 0) (event : Event) → is_find event ≡ false → Of K event
one_other K (events.Held index slot steps) h = absurd (cc)
one_other K event h = tt

not_find : (event : Event) → is_quiet event ≡ true → not (is_find event) ≡ true
not_find (events.Held index slot steps) h = absurd (cc)
not_find (events.Null index steps) h = absurd (cc)
not_find event h = refl

no_not : (b : Bool) → not b ≡ true → b ≡ false
no_not true h = absurd (cc)
no_not false h = refl

all_other : (K : ℕ → Type 0) (told : List Event) → all_of (λ event. not (is_find event)) told ≡ true → AllOf K told
all_other K [] h = tt
all_other K (event ∷ told) h = (
  one_other K event (no_not (is_find event) (first_of (not (is_find event)) (all_of (λ other. not (is_find other)) told) h)),
  all_other K told (rest_of (not (is_find event)) (all_of (λ other. not (is_find other)) told) h),
)

of_any : (K : ℕ → Type 0) (event : Event) → ((s : ℕ) → K s) → Of K event
of_any K (events.Held index slot steps) h = h slot
of_any K event h = tt

all_any : (K : ℕ → Type 0) (told : List Event) → ((s : ℕ) → K s) → AllOf K told
all_any K [] h = tt
all_any K (event ∷ told) h = (of_any K event h, all_any K told h)

all_closed : (K : ℕ → Type 0) → Closed (λ post told. AllOf K told)
all_closed K = record {
  calm = λ post told more q h. all_along K told more h (all_other K more (of_weaker is_quiet (λ event. not (is_find event)) more not_find q));
  clears = λ post told index h. all_along K told _ h (clear_any (λ more. AllOf K more) _ post index tt (λ slot. (tt, tt)));
}

-- a protection that finds its row
end_of : (K : ℕ → Type 0) (index slot n : ℕ) (link : ℕ) (null : Bool) → (link == 0) ≡ null → ((s : ℕ) → link ≡ s + 1 → K s)
    → AllOf K (if null then events.Null index n ∷ [] else events.Held index (link - 1) n ∷ [])
end_of K index slot n link true e h = (tt, tt)
end_of K index slot n link false e h = (h (link - 1) (grind (arith, nat_tests)), tt)

next_end : (K : ℕ → Type 0) (index n : ℕ) (null : Bool) → AllOf K (if null then events.Null index n ∷ [] else [])
next_end K index n true = (tt, tt)
next_end K index n false = tt

held_of : (K : ℕ → Type 0) (index : ℕ) (root : Root) (link n : ℕ) → ((s : ℕ) → link ≡ s + 1 → K s) → AllOf K (protects.told_held index root link n)
held_of K index (roots.Next parent) link n h = next_end K index n (link == 0)
held_of K index (roots.Bucket bucket) link n h = end_of K index 0 n link (link == 0) refl h
held_of K index roots.Head link n h = end_of K index 0 n link (link == 0) refl h
held_of K index roots.Tail link n h = end_of K index 0 n link (link == 0) refl h

same_link : (link s : ℕ) → link ≡ s + 1 → (link == s + 1) ≡ true
same_link link s h = grind (arith, nat_tests)

tried_of : (K : ℕ → Type 0) (aim : Aim) (index : ℕ) (root : Root) (n link era : ℕ) (post : Post) (t : Turn) (same : Bool) → t.told ≡ [] → (same ≡ true → (s : ℕ) → link ≡ s + 1 → K s)
    → AllOf K (if same then protects.protected aim index root n link era post else t).told
tried_of K aim index root n link era post t true e h =
    subst (AllOf K) (sym (concluded_told aim index root n link era (protects.held_post post index root link) (protects.told_held index root link n))) (held_of K index root link n (h refl))
tried_of K aim index root n link era post t false e h = subst (AllOf K) (sym e) tt

no_row : (link s : ℕ) → (link == 0) ≡ true → link ≡ s + 1 → ⊥
no_row link s e l = grind (arith, nat_tests)

-- a link that was loaded again is the one that was published, where it leads to a row
found_again : (found link s : ℕ) → (found == link || found == 0) ≡ true → found ≡ s + 1 → (found == link && link == s + 1) ≡ true
found_again found link s e l = by (found == link) refl e
  where
    by : (same : Bool) → (found == link) ≡ same → (same || found == 0) ≡ true → (found == link && link == s + 1) ≡ true
    by true q h = both (found == link) (link == s + 1) q (grind (arith, nat_tests))
    by false q h = absurd (no_row found s h l)

protect_of : (K : ℕ → Type 0) (aim : Aim) (index : ℕ) (root : Root) (made : ℕ) (at : ProtectAt) (post : Post) (found : ℕ) → ((s : ℕ) → rises_at post at found s ≡ true → K s)
    → AllOf K (machine.after (Protect aim index root made at) post found).told
protect_of K aim index root made (CheckClock era tries link) post found h =
    tried_of K aim index root (bump made) link era post _ (found == era) refl (λ e s l. h s (both (found == era) (link == s + 1) e (same_link link s l)))
protect_of K aim index root made (TakeAnswer link era) post found h = (tt, held_of K index root link (bump made) (λ s l. h s (same_link link s l)))
protect_of K aim index root made (CheckUpper link) post found h =
    tried_of K aim index root (bump made) link found post _ (found == upper post.span) refl (λ e s l. h s (both (found == upper post.span) (link == s + 1) e (same_link link s l)))
protect_of K aim index root made (ByHazard FirstLink) post found h = tried_of K aim index root (bump made) found 0 post _ (found == 0) refl (λ e s l. absurd (no_row found s e l))
protect_of K aim index root made (ByHazard (PublishLink link)) post found h = (tt, tt)
protect_of K aim index root made (ByHazard (CheckLink link)) post found h =
    tried_of K aim index root (bump made) found 0 post _ (found == link || found == 0) refl (λ e s l. h s (found_again found link s e l))
protect_of K aim index root made at post found h = all_other K (machine.after (Protect aim index root made at) post found).told (no_find (Protect aim index root made at) post found refl)

-- what a call that is not a hold tells as held may be any
abbrev Shown : ℕ → Call → Past → ℕ → Type 0
Shown n call p s = shows_for n (Some call) (shows_of s p) ≡ true

change_any : (n : ℕ) (change : Change) (wanted : Option ℕ) (x : RowShows) → shows_for n (Some (call_for change wanted)) x ≡ true
change_any n (changes.Put key value) None x = refl
change_any n (changes.Put key value) (Some version) x = refl
change_any n (changes.Removed key) wanted x = refl

any_call : (n : ℕ) (p : Past) (call other : Call) (told : List Event) → call ≡ other → ((x : RowShows) → shows_for n (Some other) x ≡ true) → AllOf (Shown n call p) told
any_call n p call other told e h = subst (λ (c : Call). AllOf (Shown n c p) told) (sym e) (all_any (Shown n other p) told (λ s. h (shows_of s p)))

abbrev Rises : (n : ℕ) → Past → Why → Base → Post → ℕ → Type 0
Rises n p why base post found =
    (key : ℕ) (aim : Aim) (index : ℕ) (root : Root) (made : ℕ) (at : ProtectAt) (s : ℕ) → why ≡ Opens (Holds key) → base ≡ Protect aim index root made at → rises_at post at found s ≡ true
    → shows_bucket (bucket_of n key) (shows_of s p) ≡ true

hold_of : (n : ℕ) (p : Past) (layout : Layout) (key : ℕ) (base : Base) (post : Post) (found : ℕ) → suits base (kind_of (Opens (Holds key))) ≡ true → Rises n p (Opens (Holds key)) base post found
    → AllOf (Shown n (calls.Hold key) p) (machine.after base post found).told
hold_of n p layout key (Protect aim index root made at) post found r h = protect_of (Shown n (calls.Hold key) p) aim index root made at post found (λ s u. h key aim index root made at s refl refl u)
hold_of n p layout key (Reload parent index slot era made) post found r h = absurd (cc)
hold_of n p layout key base post found r h = all_other (Shown n (calls.Hold key) p) (machine.after base post found).told (no_find base post found refl)

unfound_of : (K : ℕ → Type 0) (base : Base) (post : Post) (found : ℕ) → mays.finds base ≡ false → AllOf K (machine.after base post found).told
unfound_of K base post found e = all_other K (machine.after base post found).told (no_find base post found e)

-- what opens no task and follows no head protects no row
abbrev is_late : Why → Bool
is_late (Opens task) = false
is_late (FollowsHead head tail) = false
is_late why = true

late_unfound : (why : Why) (base : Base) → suits base (kind_of why) ≡ true → is_late why ≡ true → mays.finds base ≡ false
late_unfound (Opens task) base r e = absurd (cc)
late_unfound (FollowsHead head tail) base r e = absurd (cc)
late_unfound why (Protect aim index root made at) r e = absurd (cc)
late_unfound why (Reload parent index slot era made) r e = absurd (cc)
late_unfound why base r e = refl

why_of : (n : ℕ) (p : Past) (layout : Layout) (call : Call) (why : Why) (base : Base) (post : Post) (found : ℕ) → suits base (kind_of why) ≡ true → WhyServes call why → Rises n p why base post found
    → AllOf (Shown n call p) (machine.after base post found).told
why_of n p layout call (Opens (Holds key)) base post found r y h =
    subst (λ (c : Call). AllOf (Shown n c p) (machine.after base post found).told) (sym y) (hold_of n p layout key base post found r h)
why_of n p layout call (Opens (Gets key)) base post found r y h = any_call n p call (calls.Get key) (machine.after base post found).told y (λ x. refl)
why_of n p layout call (Opens (Changes kept)) base post found r y h = any_call n p call (call_for kept.change kept.wanted) (machine.after base post found).told y.is (change_any n kept.change kept.wanted)
why_of n p layout call (Opens (Enqueues kept)) base post found r y h = any_call n p call (calls.Enqueue kept.value) (machine.after base post found).told y (λ x. refl)
why_of n p layout call (Opens Dequeues) base post found r y h = any_call n p call calls.Dequeue (machine.after base post found).told y (λ x. refl)
why_of n p layout call (FollowsHead head tail) base post found r y h = any_call n p call calls.Dequeue (machine.after base post found).told y (λ x. refl)
why_of n p layout call why base post found r y h = unfound_of (Shown n call p) base post found (late_unfound why base r refl)

-- events that leave what rows show as it was
abbrev is_still : Event → Bool
is_still (events.Begin call) = false
is_still (events.Link (roots.Bucket bucket) slot) = false
is_still (events.Put bucket version key value) = false
is_still (events.Removed bucket version key) = false
is_still event = true

common_still : (event : Event) → is_common event ≡ true → is_still event ≡ true
common_still (events.Begin call) h = absurd (cc)
common_still (events.Link (roots.Bucket bucket) slot) h = absurd (cc)
common_still (events.Link (roots.Next parent) slot) h = refl
common_still (events.Link roots.Head slot) h = refl
common_still (events.Link roots.Tail slot) h = refl
common_still (events.Put bucket version key value) h = absurd (cc)
common_still (events.Removed bucket version key) h = absurd (cc)
common_still event h = refl

abbrev Sees : ℕ → ℕ → (ℕ → Type 0) → Past → Type 0
Sees n i K p = (s : ℕ) → K s → shows_for n (began_of i p) (shows_of s p) ≡ true

still_next : (n i : ℕ) (K : ℕ → Type 0) (p : Past) (event : Event) → is_still event ≡ true → Sees n i K p → Sees n i K (Then p i event)
still_next n i K p (events.Begin call) f q = absurd (cc)
still_next n i K p (events.End steps answer) f q = λ s k. rw (same_number i) (q s k)
still_next n i K p (events.Link (roots.Bucket bucket) slot) f q = absurd (cc)
still_next n i K p (events.Link (roots.Next parent) slot) f q = λ s k. rw (same_number i) (q s k)
still_next n i K p (events.Link roots.Head slot) f q = λ s k. rw (same_number i) (q s k)
still_next n i K p (events.Link roots.Tail slot) f q = λ s k. rw (same_number i) (q s k)
still_next n i K p (events.Put bucket version key value) f q = absurd (cc)
still_next n i K p (events.Removed bucket version key) f q = absurd (cc)
still_next n i K p event f q = λ s k. rw (same_number i) (q s k)

still_one : (n i : ℕ) (K : ℕ → Type 0) (p : Past) (event : Event) → Of K event → Sees n i K p → shows_ok n p i event ≡ true
still_one n i K p (events.Held index slot steps) a q = q slot a
still_one n i K p event a q = refl

still_each : (n i : ℕ) (K : ℕ → Type 0) (told : List Event) (p : Past) → all_of is_still told ≡ true → AllOf K told → Sees n i K p → Each (shows_ok n) p → Each (shows_ok n) (tells_of p i told)
still_each n i K [] p f a q g = g
still_each n i K (event ∷ told) p f a q g =
    still_each n i K told (Then p i event) (rest_of (is_still event) (all_of is_still told) f) a.1
    (still_next n i K p event (first_of (is_still event) (all_of is_still told) f) q) (still_one n i K p event a.0 q, g)

-- where nothing is told as held
none_one : (n i : ℕ) (p : Past) (event : Event) → Of (λ s. ⊥) event → shows_ok n p i event ≡ true
none_one n i p (events.Held index slot steps) a = absurd a
none_one n i p event a = refl

none_each : (n i : ℕ) (told : List Event) (p : Past) → AllOf (λ s. ⊥) told → Each (shows_ok n) p → Each (shows_ok n) (tells_of p i told)
none_each n i [] p a g = g
none_each n i (event ∷ told) p a g = none_each n i told (Then p i event) a.1 (none_one n i p event a.0, g)

cleared_of : (K : ℕ → Type 0) (index : ℕ) (x : Option ℕ) → AllOf K (cleared index x)
cleared_of K index None = tt
cleared_of K index (Some slot) = (tt, tt)

cleared_from_of : (K : ℕ → Type 0) (index : ℕ) (rows : List (Option ℕ)) → AllOf K (cleared_from index rows)
cleared_from_of K index [] = tt
cleared_from_of K index (row ∷ rows) = all_along K (cleared index row) (cleared_from (index + 1) rows) (cleared_of K index row) (cleared_from_of K (index + 1) rows)

copied_of : (K : ℕ → Type 0) (from index : ℕ) (post : Post) (reserved : List Event) (x : Option ℕ) → AllOf K reserved → AllOf K (copied_told from index post reserved x)
copied_of K from index post reserved None h = tt
copied_of K from index post reserved (Some slot) h =
    all_along K (cleared index (stands post index) ++ reserved) (events.Copied from index slot ∷ []) (all_along K (cleared index (stands post index)) reserved (cleared_of K index (stands post index)) h) (tt, tt)

load_of : (K : ℕ → Type 0) (from index : ℕ) (post : Post) (one : Bool) → AllOf K (if one then copied_told from index post [] (stands post from) else [])
load_of K from index post true = copied_of K from index post [] (stands post from) tt
load_of K from index post false = tt

published_of : (K : ℕ → Type 0) (rows : Bool) (post : Post) (index number : ℕ) → AllOf K (publishes_index rows post index number)
published_of K false post index number = (tt, tt)
published_of K true post index number = (tt, tt)

work_of : (K : ℕ → Type 0) (work : Work) (post : Post) → AllOf K (work_told work post)
work_of K (Getting key at) post = tt
work_of K (Changing kept at) post = tt
work_of K (Enqueuing kept at) post = tt
work_of K (Dequeuing at) post = tt
work_of K (Keeping (Loosens let_go)) post = cleared_of K (let_index let_go) (stands post (let_index let_go))
work_of K (Keeping (LoadHeld from index)) post = load_of K from index post (has_one_interval (scheme_of post))
work_of K (Keeping (StoreHeld from index era)) post = copied_of K from index post (publishes_index (publishes_rows (scheme_of post)) post index era) (stands post from) (published_of K (publishes_rows (scheme_of post)) post index era)
work_of K (Keeping (Looks index key at)) post = tt
work_of K (Keeping (Misses index)) post = tt
work_of K (Keeping HideSpan) post = all_along K (cleared_from 2 (drop 2 post.standing)) (reserves_span post None) (cleared_from_of K 2 (drop 2 post.standing)) (tt, tt)
work_of K (Keeping MarkLeft) post = tt
work_of K (Keeping (TakeList place)) post = tt
work_of K (Keeping (MarkTaken place count)) post = tt

end_still : (post : Post) (outcome : CallOutcome) → all_of is_still (told_end post outcome) ≡ true
end_still post (GoesOn phase) = refl
end_still post (Answers answer) = refl

-- a step
step_of : (K : ℕ → Type 0) (w : World) (i : ℕ) → First (λ post told. AllOf K told) (w.seat i).phase (counted (w.seat i).post) (finds w i) → AllOf K (told_in w i)
step_of K w i h = step_goes (λ post told. AllOf K told) (all_closed K) (w.seat i).phase (counted (w.seat i).post) (offered w i).desk (finds w i) h

run_still : (w : World) (i : ℕ) (why : Why) (base : Base) → (w.seat i).phase ≡ Runs why base → all_of is_still (told_in w i) ≡ true
run_still w i why base e =
    let t : CallTurn = turn (offered w i) (finds w i) in
    let o : InOrder (ordered (w.seat i).phase (w.seat i).post (finds w i)) t.told = step_order w i in
    let is : t.told ≡ o.rest = o.is ∙ ap (λ (x : Phase). ordered x (w.seat i).post (finds w i) ++ o.rest) e in
    subst (λ (told : List Event). all_of is_still (told ++ told_end t.post t.outcome) ≡ true) (sym is)
    (of_along is_still o.rest (told_end t.post t.outcome) (of_weaker is_common is_still o.rest common_still o.calm) (end_still t.post t.outcome))

none_step : (w : World) (i n : ℕ) (p : Past) → First (λ post told. AllOf (λ s. ⊥) told) (w.seat i).phase (counted (w.seat i).post) (finds w i) → Each (shows_ok n) p → Each (shows_ok n) (tells_of p i (told_in w i))
none_step w i n p h g = none_each n i (told_in w i) p (step_of (λ s. ⊥) w i h) g

run_step : (w : World) (i : ℕ) (p : Past) (why : Why) (base : Base) → i < w.layout.config.seats → Inv w → (w.seat i).phase ≡ Runs why base → began_of i p ≡ Some (w.seat i).call → WhyServes (w.seat i).call why → Shows w.book p
    → Each (shows_ok w.layout.config.buckets) p → Each (shows_ok w.layout.config.buckets) (tells_of p i (told_in w i))
run_step w i p why base b a e began y shows g =
    let n : ℕ = w.layout.config.buckets in
    let K : ℕ → Type 0 = Shown n (w.seat i).call p in
    let r = run_of w i why base a.known.seats e in
    let rows : AllOf K (machine.after base (counted (w.seat i).post) (finds w i)).told = why_of n p w.layout (w.seat i).call why base (counted (w.seat i).post) (finds w i) r.suited y rises in
    let all : AllOf K (told_in w i) = step_of K w i (subst (λ (x : Phase). First (λ post told. AllOf K told) x (counted (w.seat i).post) (finds w i)) (sym e) rows) in
    still_each n i K (told_in w i) p (run_still w i why base e) all (λ s k. subst (λ (c : Option Call). shows_for n c (shows_of s p) ≡ true) (sym began) k) g
  where
    rises : Rises w.layout.config.buckets p why base (counted (w.seat i).post) (finds w i)
    rises key aim index root made at s q z u =
        let c = contents_need w i a.rows a.line a.asked b a.known in
        let n : ℕ = w.layout.config.buckets in
        let phase : (w.seat i).phase ≡ Runs (Opens (Holds key)) (Protect aim index root made at) = e ∙ ap (λ (x : Why). Runs x base) q ∙ ap (λ (x : Base). Runs (Opens (Holds key)) x) z in
        let root : (w.book.row s).root ≡ roots.Bucket (bucket_of n key) = c.holds key aim index root made at s phase (sym (rises_counted (w.seat i).post at (finds w i) s) ∙ u) in
        subst (λ (x : RowShows). shows_bucket (bucket_of n key) x ≡ true) (sym (shows.shows s (bucket_of n key) root)) (same_number (bucket_of n key))

by_phase : (w : World) (i : ℕ) (p : Past) (phase : Phase) → i < w.layout.config.seats → Inv w → (w.seat i).phase ≡ phase → began_of i p ≡ Some (w.seat i).call → Serves (w.seat i).call phase → Shows w.book p
    → Each (shows_ok w.layout.config.buckets) p → Each (shows_ok w.layout.config.buckets) (tells_of p i (told_in w i))
by_phase w i p Idle b a e began y shows g = none_step w i w.layout.config.buckets p (subst (λ (x : Phase). First (λ post told. AllOf (λ s. ⊥) told) x (counted (w.seat i).post) (finds w i)) (sym e) tt) g
by_phase w i p (Runs why base) b a e began y shows g = run_step w i p why base b a e began y shows g
by_phase w i p (Scans later (ReadGuard number)) b a e began y shows g =
    let post : Post = counted (w.seat i).post in
    none_step w i w.layout.config.buckets p (subst (λ (x : Phase). First (λ post told. AllOf (λ s. ⊥) told) x (counted (w.seat i).post) (finds w i)) (sym e)
    (reads_are (λ (event : Event). AllOf (λ s. ⊥) (event ∷ [])) (publishes_rows post.layout.config.scheme) (guard_at post.layout.config number) (finds w i) (λ span. (tt, tt)) (λ slot. (tt, tt)))) g
by_phase w i p (Scans later (GiveBack place slot)) b a e began y shows g = none_step w i w.layout.config.buckets p (subst (λ (x : Phase). First (λ post told. AllOf (λ s. ⊥) told) x (counted (w.seat i).post) (finds w i)) (sym e) (tt, tt)) g
by_phase w i p (Works work) b a e began y shows g =
    none_step w i w.layout.config.buckets p (subst (λ (x : Phase). First (λ post told. AllOf (λ s. ⊥) told) x (counted (w.seat i).post) (finds w i)) (sym e) (work_of (λ s. ⊥) work (counted (w.seat i).post))) g

pub held_step : (w : World) (i : ℕ) (p : Past) → i < w.layout.config.seats → Inv w → began_of i p ≡ Some (w.seat i).call → Serves (w.seat i).call (w.seat i).phase → Shows w.book p
    → Each (shows_ok w.layout.config.buckets) p → Each (shows_ok w.layout.config.buckets) (tells_of p i (told_in w i))
held_step w i p b a began y shows g = by_phase w i p (w.seat i).phase b a refl began y shows g
