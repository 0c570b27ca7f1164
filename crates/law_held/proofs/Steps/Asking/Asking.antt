-- What a step tells of helper words and of its seat's index words comes where it may.
use Rattle.std.proofs.Common.{ℕ, ◌≡◌, Bool, true, false, List, [], ◌∷◌, ◌++◌, Option, Some, None, refl, ◌∙◌, subst}
use Rattle.std.proofs.lemmas.Bool.{or_left, or_right}
use Rattle.std.specs.Prelude.{◌==◌, ◌&&◌, ◌||◌, drop, if◌then◌else◌, not}
use Rattle.law_scans.specs.inv.model.words.Packed.{reservation_word}
use Rattle.law_scans.specs.inv.model.words.declared.config.Config.{Config}
use Rattle.law_scans.specs.inv.model.defs.declared.event.Event.{Event}
use Rattle.law_scans.specs.inv.model.defs.declared.event.Event.TheVariants as events
use Rattle.law_scans.specs.inv.model.defs.declared.event.Guard.TheVariants.{Helper, Index, Whole}
use Rattle.law_scans.specs.inv.model.defs.declared.event.Root.{Root}
use Rattle.law_scans.specs.inv.model.defs.declared.lifetime.Interval.{Interval}
use Rattle.law_scans.specs.inv.model.declared.post.Post.{Post}
use Rattle.law_scans.specs.inv.model.Guards.{one_era}
use Rattle.law_scans.specs.inv.model.Machine as machine
use Rattle.law_scans.specs.inv.model.Memory.{bump}
use Rattle.law_scans.specs.inv.model.MoveClock as movers
use Rattle.law_scans.specs.inv.model.Posts.{stands, cleared, cleared_from, publishes_index, reserves_index, reserves_helper, reserves_span}
use Rattle.law_scans.specs.inv.model.Protect as protects
use Rattle.law_scans.specs.inv.model.Rounds.{scheme_of, clear_told, index_of, let_index}
use Rattle.law_scans.specs.inv.model.words.Schemes.{has_one_interval, publishes_rows}
use Rattle.law_scans.specs.inv.model.Phases.{Aim, ProtectAt, MoveAt, Base}
use Rattle.law_scans.specs.inv.model.Phases.BeginAt.{PublishSpan}
use Rattle.law_scans.specs.inv.model.Phases.ProtectAt.{PublishEra, PublishHelper, TakeAnswer, WithdrawHelper, RaiseUpper}
use Rattle.law_scans.specs.inv.model.Phases.MoveAt.{ShowEra, HandOver, HideEra, HideLate}
use Rattle.law_scans.specs.inv.model.Phases.Base.{Begin, Protect, Clear, Finish, Release, Move}
use Rattle.law_scans.specs.inv.model.Calls.{Work, Getting, Changing, Enqueuing, Dequeuing, Keeping, Loosens, LoadHeld, StoreHeld, Looks, Misses, HideSpan, MarkLeft, TakeList, MarkTaken, Task, Gets, Changes, Holds, Enqueues, Dequeues, AfterScan, Answered, Repeated, Counted, Why, Opens, FollowsHead, Fills, ClearsNext, Clears, Finishes, GivesUp, Retires, Tidies, Advances, Releases}
use Rattle.law_scans.proofs.inv.model.Facts.{same_number, first_of, rest_of}
use Rattle.law_scans.specs.inv.shapes.Seats.{Shaped, kind_of, suits, index_by}
use Rattle.law_scans.specs.laws.records.Record.{Past, Test, Each, tells_of}
use Rattle.law_scans.specs.laws.records.Record.Past.{Then}
use Rattle.law_scans.proofs.reuse.history.AllOf.{all_of, of_weaker}
use Rattle.law_scans.proofs.reuse.history.Passes.{Closed, copied_told, work_told}
use Rattle.law_scans.proofs.Turns.Counting.Passing.{Apart}
use Rattle.law_scans.proofs.reuse.history.MayTell.{cleared_from_all, concluded_told, publishes, is_reserve, no_reserve, held_any}
use Rattle.law_scans.specs.laws.HistoryScans.{Course}
use Rattle.law_scans.specs.laws.HistoryEras.{may_move}
use Rattle.law_scans.specs.Scans.{tally_of}
use Rattle.law_scans.proofs.DueScans.Courses as courses
use Rattle.law_scans.specs.laws.StateAt.{tried_of, shown_of}
use Rattle.law_scans.proofs.Turns.TurnCounts.Trying.{base_tried}
use Rattle.law_scans.proofs.Turns.Withdrawals.Withdrawing.{is_mute, all_mute, quiet_mute, clear_mute, base_shows}
use Rattle.law_scans.specs.laws.HistorySteps.{failed_at, failed_once}

-- both laws at once
abbrev pub asks_ok : Config → Test
asks_ok c p i (events.Reserve (Helper k) (Some span)) = may_move (tally_of c.every i p).course || failed_once c.tries i p
asks_ok c p i (events.Reserve (Index k j) span) = if k == i && shown_of i p then failed_at c.tries i j p else true
asks_ok c p i event = true

-- each event of a list, told after a position, comes where it may
abbrev pub Asks : Config → ℕ → List Event → Past → Type 0
Asks c i [] p = Unit {0}
Asks c i (event ∷ told) p = (asks_ok c p i event ≡ true) × Asks c i told (Then p i event)

asks_both : (c : Config) (i : ℕ) (xs ys : List Event) (p : Past) → Asks c i xs p → Asks c i ys (tells_of p i xs) → Asks c i (xs ++ ys) p
asks_both c i [] ys p h k = k
asks_both c i (x ∷ xs) ys p h k = (h.0, asks_both c i xs ys (Then p i x) h.1 k)

-- events that tell nothing of these words come anywhere
abbrev is_calm : Event → Bool
is_calm (events.Reserve (Helper k) (Some span)) = false
is_calm (events.Reserve (Index k j) span) = false
is_calm event = true

calm_one : (c : Config) (i : ℕ) (p : Past) (event : Event) → is_calm event ≡ true → asks_ok c p i event ≡ true
calm_one c i p (events.Reserve (Helper k) (Some span)) h = absurd (cc)
calm_one c i p (events.Reserve (Helper k) None) h = refl
calm_one c i p (events.Reserve (Index k j) span) h = absurd (cc)
calm_one c i p (events.Reserve (Whole k) span) h = refl
calm_one c i p event h = refl

calm_asks : (c : Config) (i : ℕ) (told : List Event) (p : Past) → all_of is_calm told ≡ true → Asks c i told p
calm_asks c i [] p h = tt
calm_asks c i (event ∷ told) p h = (calm_one c i p event (first_of (is_calm event) (all_of is_calm told) h), calm_asks c i told (Then p i event) (rest_of (is_calm event) (all_of is_calm told) h))

mute_calm_one : (event : Event) → is_mute event ≡ true → is_calm event ≡ true
mute_calm_one (events.Reserve guard span) h = absurd (cc)
mute_calm_one event h = refl

mute_calm : (told : List Event) → all_mute told ≡ true → all_of is_calm told ≡ true
mute_calm told h = of_weaker is_mute is_calm told mute_calm_one h

-- nor does a machine that publishes nothing
unreserved_calm : (event : Event) → not (is_reserve event) ≡ true → is_calm event ≡ true
unreserved_calm (events.Reserve guard span) h = absurd (cc)
unreserved_calm event h = refl

bare_asks : (c : Config) (i : ℕ) (p : Past) (base : Base) (post : Post) (found : ℕ) → publishes base ≡ false → Asks c i (machine.after base post found).told p
bare_asks c i p base post found q =
    calm_asks c i (machine.after base post found).told p (of_weaker (λ event. not (is_reserve event)) is_calm (machine.after base post found).told unreserved_calm (no_reserve base post found q))

pub asks_closed : (c : Config) (i : ℕ) (p : Past) → Closed (λ post told. Asks c i told p)
asks_closed c i p = record {
  calm = λ post told more q h. asks_both c i told more p h (calm_asks c i more (tells_of p i told) (mute_calm more (quiet_mute more q)));
  clears = λ post told index h. asks_both c i told (clear_told (scheme_of post) post index) p h (calm_asks c i (clear_told (scheme_of post) post index) (tells_of p i told) (mute_calm (clear_told (scheme_of post) post index) (clear_mute (scheme_of post) post index)));
}

-- how often a protection has published at its index, by where it stands
abbrev pub Tries : Config → ℕ → Past → (last : ℕ) → Base → Type 0
Tries c i p last (Protect aim index root steps at) = base_tried c (Protect aim index root steps at) index (tried_of i index p) last ≡ true
Tries c i p last base = Unit {0}

-- what is known of a machine where it makes a step
pub record Site (c : Config) (i : ℕ) (p : Past) (buckets found last : ℕ) (why : Why) (base : Base) : Type 0 where
  pub suited : suits base (kind_of why) ≡ true
  pub shape : Shaped buckets why base
  pub apart : Apart i found base
  pub shown : shown_of i p ≡ base_shows base
  pub tried : Tries c i p last base
  pub moves : (at : MoveAt) → base ≡ Move at → may_move (tally_of c.every i p).course ≡ true

hidden : (own shown x : Bool) → shown ≡ false → (if own && shown then x else true) ≡ true
hidden true shown x h = rw h refl
hidden false shown x h = refl

other_seat : (own shown x : Bool) → own ≡ false → (if own && shown then x else true) ≡ true
other_seat own shown x h = rw h refl

taken : (both x : Bool) → x ≡ true → (if both then x else true) ≡ true
taken true x h = h
taken false x h = refl

-- an index word of the seat, while its helper word shows nothing
index_asks : (c : Config) (i : ℕ) (p : Past) (post : Post) (index era : ℕ) → shown_of i p ≡ false → Asks c i (reserves_index post index era) p
index_asks c i p post index era h = (hidden (post.seat == i) (shown_of i p) (failed_at c.tries i index p) h, tt)

-- an index word publishes an era, or a row
publish_asks : (c : Config) (i : ℕ) (p : Past) (post : Post) (rows : Bool) (index number : ℕ) → shown_of i p ≡ false → Asks c i (publishes_index rows post index number) p
publish_asks c i p post false index number h = index_asks c i p post index number h
publish_asks c i p post true index number h = (refl, tt)

-- an era in the helper word
helper_asks : (c : Config) (i : ℕ) (p : Past) (post : Post) (era : ℕ) → (may_move (tally_of c.every i p).course || failed_once c.tries i p) ≡ true → Asks c i (reserves_helper post era) p
helper_asks c i p post era h = (by (one_era era), tt)
  where
    by : (span : Option Interval) → asks_ok c p i (events.Reserve (Helper post.seat) span) ≡ true
    by None = refl
    by (Some span) = h

-- a protection
held_calm : (index : ℕ) (root : Root) (link n : ℕ) → all_of is_calm (protects.told_held index root link n) ≡ true
held_calm index root link n = held_any (λ told. all_of is_calm told ≡ true) index root link n refl refl (λ slot. refl)

-- its tries have failed at its own index
at_own : (index : ℕ) (last b : Bool) (times : ℕ) → (last && (if index == index then b else times == 0)) ≡ true → b ≡ true
at_own index last b times h = by (index == index) (same_number index) (rest_of last (if index == index then b else times == 0) h)
  where
    by : (same : Bool) → same ≡ true → (if same then b else times == 0) ≡ true → b ≡ true
    by true e h = h
    by false e h = absurd (cc)

task_once : (c : Config) (i : ℕ) (p : Past) (task : Task) → failed_at c.tries i (index_of task) p ≡ true → failed_once c.tries i p ≡ true
task_once c i p (Holds key) h = or_right (failed_at c.tries i 0 p) (failed_at c.tries i 1 p || failed_at c.tries i 2 p) (or_right (failed_at c.tries i 1 p) (failed_at c.tries i 2 p) h)
task_once c i p (Gets key) h = or_left (failed_at c.tries i 0 p) (failed_at c.tries i 1 p || failed_at c.tries i 2 p) h
task_once c i p (Changes kept) h = or_left (failed_at c.tries i 0 p) (failed_at c.tries i 1 p || failed_at c.tries i 2 p) h
task_once c i p (Enqueues kept) h = or_left (failed_at c.tries i 0 p) (failed_at c.tries i 1 p || failed_at c.tries i 2 p) h
task_once c i p Dequeues h = or_left (failed_at c.tries i 0 p) (failed_at c.tries i 1 p || failed_at c.tries i 2 p) h

why_once : (c : Config) (i : ℕ) (p : Past) (why : Why) (aim : Aim) (index : ℕ) (root : Root) (steps : ℕ) (at : ProtectAt) → suits (Protect aim index root steps at) (kind_of why) ≡ true → failed_at c.tries i (index_by why) p ≡ true → failed_once c.tries i p ≡ true
why_once c i p (Opens task) aim index root steps at s h = task_once c i p task h
why_once c i p (FollowsHead head tail) aim index root steps at s h = or_right (failed_at c.tries i 0 p) (failed_at c.tries i 1 p || failed_at c.tries i 2 p) (or_left (failed_at c.tries i 1 p) (failed_at c.tries i 2 p) h)
why_once c i p why aim index root steps at s h = absurd (cc)

protect_asks : (c : Config) (i : ℕ) (p : Past) (buckets last : ℕ) (why : Why) (aim : Aim) (index : ℕ) (root : Root) (steps : ℕ) (at : ProtectAt) (post : Post) (found : ℕ) → Site c i p buckets found last why (Protect aim index root steps at) → Asks c i (machine.protect_turn aim index root (bump steps) at post found).told p
protect_asks c i p buckets last why aim index root steps (PublishEra era tries) post found s = index_asks c i p post index era s.shown
protect_asks c i p buckets last why aim index root steps (PublishHelper first era final) post found s =
    let t : failed_at c.tries i index p ≡ true = at_own index true (failed_at c.tries i index p) (tried_of i index p) s.tried in
    let a = s.shape in
    let f : failed_once c.tries i p ≡ true = why_once c i p why aim index root steps (PublishHelper first era final) s.suited (subst (λ (j : ℕ). failed_at c.tries i j p ≡ true) a.at t) in
    helper_asks c i p post era (or_right (may_move (tally_of c.every i p).course) (failed_once c.tries i p) f)
protect_asks c i p buckets last why aim index root steps (TakeAnswer link era) post found s =
    let t : failed_at c.tries i index p ≡ true = at_own index true (failed_at c.tries i index p) (tried_of i index p) s.tried in
    (taken (post.seat == i && shown_of i p) (failed_at c.tries i index p) t, calm_asks c i (protects.told_held index root link (bump steps)) _ (held_calm index root link (bump steps)))
protect_asks c i p buckets last why aim index root steps (WithdrawHelper link era) post found s = rw (concluded_told aim index root (bump steps) link era post (reserves_helper post 0)) (refl, tt)
protect_asks c i p buckets last why aim index root steps (RaiseUpper era) post found s = (refl, tt)
protect_asks c i p buckets last why aim index root steps at post found s = bare_asks c i p (Protect aim index root steps at) post found refl

-- a move of the clock
handed_asks : (c : Config) (i : ℕ) (p : Past) (era seat tag index old : ℕ) (post : Post) (same : Bool) → (same ≡ true → (seat == i) ≡ false) → Asks c i (movers.after_hand_over era seat tag index old post same).told p
handed_asks c i p era seat tag index old post true a = (other_seat (seat == i) (shown_of i p) (failed_at c.tries i index p) (a refl), tt)
handed_asks c i p era seat tag index old post false a = tt

move_asks : (c : Config) (i : ℕ) (p : Past) (at : MoveAt) (post : Post) (found : ℕ) → Apart i found (Move at) → may_move (tally_of c.every i p).course ≡ true → Asks c i (machine.move_turn at post found).told p
move_asks c i p (ShowEra era seat tag index root) post found a m = helper_asks c i p post era (or_left (may_move (tally_of c.every i p).course) (failed_once c.tries i p) m)
move_asks c i p (HandOver era seat tag index root link old) post found a m = handed_asks c i p era seat tag index old post (found == reservation_word (record { era = old; tag = tag })) a
move_asks c i p (HideEra era) post found a m = (refl, tt)
move_asks c i p (HideLate seen) post found a m = (refl, tt)
move_asks c i p at post found a m = bare_asks c i p (Move at) post found refl

-- the other machines
shown_here : (i : ℕ) (p : Past) (index slot : ℕ) → shown_of i (Then p i (events.Clear index slot)) ≡ shown_of i p
shown_here i p index slot = rw (same_number i) refl

clear_asks : (c : Config) (i : ℕ) (p : Past) (post : Post) (rows : Bool) (index : ℕ) (standing : Option ℕ) → shown_of i p ≡ false → Asks c i (cleared index standing ++ publishes_index rows post index 0) p
clear_asks c i p post rows index None h = publish_asks c i p post rows index 0 h
clear_asks c i p post rows index (Some slot) h = (refl, publish_asks c i (Then p i (events.Clear index slot)) post rows index 0 (shown_here i p index slot ∙ h))

release_asks : (c : Config) (i : ℕ) (p : Past) (post : Post) (index : ℕ) (standing : Option ℕ) → Asks c i (cleared index standing ++ reserves_span post None) p
release_asks c i p post index None = (refl, tt)
release_asks c i p post index (Some slot) = (refl, (refl, tt))

pub base_asks : (c : Config) (i : ℕ) (p : Past) (buckets last : ℕ) (why : Why) (base : Base) (post : Post) (found : ℕ) → Site c i p buckets found last why base → Asks c i (machine.after base post found).told p
base_asks c i p buckets last why (Begin (PublishSpan era)) post found s = (refl, tt)
base_asks c i p buckets last why (Protect aim index root steps at) post found s = protect_asks c i p buckets last why aim index root steps at post found s
base_asks c i p buckets last why (Clear rows index) post found s = clear_asks c i p post rows index (stands post index) s.shown
base_asks c i p buckets last why Finish post found s = (refl, tt)
base_asks c i p buckets last why (Release index) post found s = release_asks c i p post index (stands post index)
base_asks c i p buckets last why (Move at) post found s = move_asks c i p at post found s.apart (s.moves at refl)
base_asks c i p buckets last why base post found s = bare_asks c i p base post found refl

-- a step on what is kept: its seat's helper word publishes nothing
cleared_asks : (c : Config) (i : ℕ) (p : Past) (index : ℕ) (standing : Option ℕ) → Asks c i (cleared index standing) p
cleared_asks c i p index None = tt
cleared_asks c i p index (Some slot) = (refl, tt)

load_by : (c : Config) (i : ℕ) (p : Past) (from index slot : ℕ) (standing : Option ℕ) → Asks c i ((cleared index standing ++ []) ++ events.Copied from index slot ∷ []) p
load_by c i p from index slot None = (refl, tt)
load_by c i p from index slot (Some row) = (refl, (refl, tt))

store_by : (c : Config) (i : ℕ) (p : Past) (post : Post) (rows : Bool) (from index era slot : ℕ) (standing : Option ℕ) → shown_of i p ≡ false → Asks c i ((cleared index standing ++ publishes_index rows post index era) ++ events.Copied from index slot ∷ []) p
store_by c i p post false from index era slot None h = ((index_asks c i p post index era h).0, (refl, tt))
store_by c i p post false from index era slot (Some row) h = (refl, ((index_asks c i (Then p i (events.Clear index row)) post index era (shown_here i p index row ∙ h)).0, (refl, tt)))
store_by c i p post true from index era slot None h = (refl, (refl, tt))
store_by c i p post true from index era slot (Some row) h = (refl, (refl, (refl, tt)))

loads_asks : (c : Config) (i : ℕ) (p : Past) (from index : ℕ) (post : Post) (x : Option ℕ) → Asks c i (copied_told from index post [] x) p
loads_asks c i p from index post None = tt
loads_asks c i p from index post (Some slot) = load_by c i p from index slot (stands post index)

load_asks : (c : Config) (i : ℕ) (p : Past) (from index : ℕ) (post : Post) (one : Bool) → Asks c i (if one then copied_told from index post [] (stands post from) else []) p
load_asks c i p from index post true = loads_asks c i p from index post (stands post from)
load_asks c i p from index post false = tt

store_asks : (c : Config) (i : ℕ) (p : Past) (rows : Bool) (from index era : ℕ) (post : Post) (x : Option ℕ) → shown_of i p ≡ false → Asks c i (copied_told from index post (publishes_index rows post index era) x) p
store_asks c i p rows from index era post None h = tt
store_asks c i p rows from index era post (Some slot) h = store_by c i p post rows from index era slot (stands post index) h

pub work_asks : (c : Config) (i : ℕ) (p : Past) (work : Work) (post : Post) → shown_of i p ≡ false → Asks c i (work_told work post) p
work_asks c i p (Getting key at) post h = tt
work_asks c i p (Changing kept at) post h = tt
work_asks c i p (Enqueuing kept at) post h = tt
work_asks c i p (Dequeuing at) post h = tt
work_asks c i p (Keeping (Loosens let_go)) post h = cleared_asks c i p (let_index let_go) (stands post (let_index let_go))
work_asks c i p (Keeping (LoadHeld from index)) post h = load_asks c i p from index post (has_one_interval (scheme_of post))
work_asks c i p (Keeping (StoreHeld from index era)) post h = store_asks c i p (publishes_rows (scheme_of post)) from index era post (stands post from) h
work_asks c i p (Keeping (Looks index key at)) post h = tt
work_asks c i p (Keeping (Misses index)) post h = tt
work_asks c i p (Keeping HideSpan) post h =
    asks_both c i (cleared_from 2 (drop 2 post.standing)) (reserves_span post None) p (calm_asks c i (cleared_from 2 (drop 2 post.standing)) p (cleared_from_all is_calm 2 (drop 2 post.standing) (λ index slot. refl))) (refl, tt)
work_asks c i p (Keeping MarkLeft) post h = tt
work_asks c i p (Keeping (TakeList place)) post h = tt
work_asks c i p (Keeping (MarkTaken place count)) post h = tt

-- a machine that moves the clock runs only where the call may move it
pub move_course : (all : ℕ) (why : Why) (base : Base) (at : MoveAt) (course : Course) → base ≡ Move at → suits base (kind_of why) ≡ true → courses.WhyFits all why base course → may_move course ≡ true
move_course all why base at course e s f = subst_move why (subst (λ (b : Base). suits b (kind_of why) ≡ true) e s) (subst (λ (b : Base). courses.WhyFits all why b course) e f)
  where
    later_moves : (later : AfterScan) → courses.LaterFits later course → may_move course ≡ true
    later_moves (Answered answer) f = rw f refl
    later_moves (Repeated task) f = rw f.0 refl
    later_moves Counted f = rw f refl

    subst_move : (why : Why) → suits (Move at) (kind_of why) ≡ true → courses.WhyFits all why (Move at) course → may_move course ≡ true
    subst_move (Tidies later) s f = later_moves later f
    subst_move Advances s f = rw f refl
    subst_move (Opens task) s f = absurd (cc)
    subst_move (FollowsHead head tail) s f = absurd (cc)
    subst_move (Fills task) s f = absurd (cc)
    subst_move (ClearsNext next) s f = absurd (cc)
    subst_move (Clears task next) s f = absurd (cc)
    subst_move (Finishes task next) s f = absurd (cc)
    subst_move (GivesUp answer) s f = absurd (cc)
    subst_move (Retires answer) s f = absurd (cc)
    subst_move (Releases key) s f = absurd (cc)

-- the entries that a turn tells
pub told_each : (c : Config) (i : ℕ) (told : List Event) (p : Past) → Asks c i told p → Each (asks_ok c) p → Each (asks_ok c) (tells_of p i told)
told_each c i [] p h e = e
told_each c i (event ∷ told) p h e = told_each c i told (Then p i event) h.1 (h.0, e)
