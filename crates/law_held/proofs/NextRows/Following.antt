-- What a dequeue tells at index 1 is what is next to the head's row.
use Rattle.std.proofs.Common.{ℕ, ◌≡◌, ◌-◌, ◌+◌, Bool, true, false, List, [], ◌∷◌, Option, Some, None, refl, sym, ap, ◌∙◌, subst, arith}
use Rattle.std.proofs.lemmas.Bool.Decides.{nat_tests}
use Rattle.std.specs.List.{list_any, list_all}
use Rattle.std.specs.Prelude.{◌==◌, not, if◌then◌else◌, ◌||◌}
use Rattle.law_scans.specs.inv.model.words.Place.Place.{Head}
use Rattle.law_scans.specs.inv.model.words.declared.layout.Layout.{Layout}
use Rattle.law_scans.specs.inv.model.defs.declared.event.Event.{Event}
use Rattle.law_scans.specs.inv.model.defs.declared.event.Event.TheVariants as events
use Rattle.law_scans.specs.inv.model.defs.declared.event.Guard.{Guard}
use Rattle.law_scans.specs.inv.model.defs.declared.event.Guard.TheVariants.{Index}
use Rattle.law_scans.specs.inv.model.defs.declared.event.Root.{Root}
use Rattle.law_scans.specs.inv.model.defs.declared.event.Root.TheVariants as roots
use Rattle.law_scans.specs.inv.model.defs.declared.lifetime.Interval.{Interval}
use Rattle.law_scans.specs.inv.model.declared.post.Post.{Post}
use Rattle.law_scans.specs.inv.model.Follow.{after_reload}
use Rattle.law_scans.specs.inv.model.Guards.{one_era, guard_at}
use Rattle.law_scans.specs.inv.model.Locals.{turn}
use Rattle.law_scans.specs.inv.model.Machine as machine
use Rattle.law_scans.specs.inv.model.Memory.{bump}
use Rattle.law_scans.specs.inv.model.Posts.{stands, counted, cleared, upper, reserves_helper}
use Rattle.law_scans.specs.inv.model.Protect.{held_post, told_held, concluded, protected, failed_once}
use Rattle.law_scans.specs.inv.model.SlowPath.{own_request}
use Rattle.law_scans.specs.inv.model.World.{World, finds, offered, told_in}
use Rattle.law_scans.specs.inv.model.Phases.{Aim, ProtectAt, Base, Turn, goes}
use Rattle.law_scans.specs.inv.model.Phases.ProtectAt.{PublishEra, CheckClock, PublishHelper, CheckOwnClock, AnswerOwn, TakeAnswer, WithdrawHelper, CheckUpper, RaiseUpper, ByHazard}
use Rattle.law_scans.specs.inv.model.Phases.Base.{Protect, Reload, Clear, Release}
use Rattle.law_scans.specs.inv.model.Calls.{Work, Task, Gets, Changes, Holds, Enqueues, Dequeues, ReadGuard, GiveBack, Why, Opens, FollowsHead, Phase, Idle, Runs, Scans, Works}
use Rattle.law_scans.proofs.inv.model.Facts.{same_number, both, and_right_false, number_is, or_more, first_of, rest_of, false_of_not}
use Rattle.law_scans.proofs.reuse.history.AllOf.{all_of}
use Rattle.law_scans.proofs.reuse.history.Passes.{work_told}
use Rattle.law_scans.proofs.reuse.history.MayTell.{concluded_told, work_all}
use Rattle.law_scans.proofs.inv.covers.Held.{finds_at}
use Rattle.law_scans.proofs.inv.ends.Ends.Tests.{Calm, at_shows, base_shows, base_any}
use Rattle.law_scans.specs.inv.shapes.Seats.{ToFollow, Run, suits, kind_of, protects, reloads, index_by}
use Rattle.law_scans.specs.inv.history.History.{record_of, world_of}
use Rattle.law_scans.specs.inv.Known.{Known}
use Rattle.law_scans.specs.laws.records.Record.{Past, Each, tells_of, begins, held_since}
use Rattle.law_scans.specs.laws.records.Record.Past.{Then}
use Rattle.law_scans.specs.inv.ends.Origins.{Origins}
use Rattle.law_scans.specs.inv.ends.Tracked.{carries_at}
use Rattle.law_scans.specs.laws.Once.{is_slot}
use Rattle.law_scans.specs.laws.StateAt.{next_at, head_at, stood_at}
use Rattle.law_scans.proofs.Ordering.Ordered.{head_is}
use Rattle.law_scans.proofs.laws.Tells.{tells_both}
use Rattle.law_scans.specs.inv.requests.Views.{View as Asked}
use Rattle.law_scans.proofs.reuse.Reuse.Keeps.{record_stands}
use Rattle.law_scans.specs.inv.rows.Queue.{Line, stands_on}
use Rattle.law_scans.specs.inv.rows.Rows.{View}
use Rattle.law_scans.proofs.inv.ends.Told.Rows.{own_told, own_post, step_adds}
use Rattle.law_scans.proofs.inv.ends.Told.Turns.{Adds, is_later}
use Rattle.law_held.proofs.Roots.Leads.{Leads, leads_of}
use Rattle.law_held.proofs.Roots.Ways.{record_each}
use Rattle.law_scans.specs.laws.HistoryHolds.{was_last, behind_ok}
use Rattle.law_scans.specs.laws.HoldLaw.{is_last}
use Rattle.law_held.specs.Records.{RecordsFollowNexts}
use Rattle.law_held.proofs.NextRows.Behind.{had_none, within_none, carried_none, reloaded_next, behind_of, loaded_none, loads_found}
use Rattle.law_held.proofs.NextRows.Nexts.{Nexts}
use Rattle.law_scans.proofs.Turns.TurnCounts.Tried.{is_follow}
use Rattle.law_scans.proofs.inv.ends.Handover.Asks.{run_of}
use Rattle.law_scans.proofs.Ordering.Linked.{row_is}
use Rattle.law_scans.proofs.inv.model.Lists.{or_left, or_right}
use Rattle.law_scans.specs.inv.model.Phases.HazardAt.{FirstLink, PublishLink, CheckLink}
use Rattle.law_scans.proofs.reuse.ReadGuards.{reads_are}
use Rattle.law_scans.specs.inv.model.words.Schemes.{publishes_rows}

-- what is told of protections at index 1
abbrev pub is_one : Event → Bool
is_one (events.Held index slot count) = index == 1
is_one (events.Null index count) = index == 1
is_one event = false

pub one_calm : Calm is_one
one_calm = record { reserve = λ g x. refl; hazard = λ g x. refl; saw = λ g x. refl; read = λ g x. refl; era = λ e. refl; give = λ a b. refl; unused = λ a. refl; retire = λ a b r. refl; back = λ a. refl }

-- nothing is told at index 1
other_ok : (slots : ℕ) (p : Past) (i : ℕ) (event : Event) → is_one event ≡ false → behind_ok slots p i event ≡ true
other_ok slots p i (events.Held index slot count) h = rw h refl
other_ok slots p i (events.Null index count) h = rw h refl
other_ok slots p i event h = refl

other_each : (slots i : ℕ) (told : List Event) (p : Past) → list_any is_one told ≡ false → Each (behind_ok slots) p → Each (behind_ok slots) (tells_of p i told)
other_each slots i [] p h g = g
other_each slots i (event ∷ told) p h g = other_each slots i told (Then p i event) (or_right (is_one event) (list_any is_one told) h) (other_ok slots p i event (or_left (is_one event) (list_any is_one told) h), g)

pub later_one : (event : Event) → is_later event ≡ true → is_one event ≡ false
later_one (events.Held index slot count) h = absurd (cc)
later_one (events.Null index count) h = absurd (cc)
later_one event h = refl

later_each : (slots i : ℕ) (told : List Event) (p : Past) → list_all is_later told ≡ true → Each (behind_ok slots) p → Each (behind_ok slots) (tells_of p i told)
later_each slots i [] p h g = g
later_each slots i (event ∷ told) p h g =
    let a : is_later event ≡ true = grind (arith, nat_tests) in
    let b : list_all is_later told ≡ true = grind (arith, nat_tests) in
    later_each slots i told (Then p i event) b (other_ok slots p i event (later_one event a), g)

-- machines of other calls, and of a dequeue that looks for the head
pub link_one : (index slot n : ℕ) (null : Bool) → (index == 1) ≡ false → list_any is_one (if null then events.Null index n ∷ [] else events.Held index slot n ∷ []) ≡ false
link_one index slot n true m = rw m refl
link_one index slot n false m = rw m refl

pub next_one : (index n : ℕ) (null : Bool) → (index == 1) ≡ false → list_any is_one (if null then events.Null index n ∷ [] else []) ≡ false
next_one index n true m = rw m refl
next_one index n false m = refl

pub held_one : (index : ℕ) (root : Root) (link n : ℕ) → (index == 1) ≡ false → list_any is_one (told_held index root link n) ≡ false
held_one index (roots.Next parent) link n m = next_one index n (link == 0) m
held_one index (roots.Bucket bucket) link n m = link_one index (link - 1) n (link == 0) m
held_one index roots.Head link n m = link_one index (link - 1) n (link == 0) m
held_one index roots.Tail link n m = link_one index (link - 1) n (link == 0) m

pub at_one : (index : ℕ) (root : Root) (n : ℕ) (post : Post) (at : ProtectAt) (found : ℕ) → (index == 1) ≡ false → at_shows is_one index root n post at found ≡ false
at_one index root n post (CheckClock era tries link) found m = and_right_false (found == era) (list_any is_one (told_held index root link n)) (held_one index root link n m)
at_one index root n post (TakeAnswer link era) found m = held_one index root link n m
at_one index root n post (CheckUpper link) found m = and_right_false (found == upper post.span) (list_any is_one (told_held index root link n)) (held_one index root link n m)
at_one index root n post (ByHazard FirstLink) found m = and_right_false (found == 0) (list_any is_one (told_held index root found n)) (held_one index root found n m)
at_one index root n post (ByHazard (CheckLink link)) found m = and_right_false (found == link || found == 0) (list_any is_one (told_held index root found n)) (held_one index root found n m)
at_one index root n post at found m = refl

pub cleared_one : (index : ℕ) (x : Option ℕ) → list_any is_one (cleared index x) ≡ false
cleared_one index None = refl
cleared_one index (Some slot) = refl

pub task_one : (task : Task) (index : ℕ) → index ≡ index_by (Opens task) → (index == 1) ≡ false
task_one (Gets key) index e = ap (λ (n : ℕ). n == 1) e
task_one (Changes kept) index e = ap (λ (n : ℕ). n == 1) e
task_one (Holds key) index e = ap (λ (n : ℕ). n == 1) e
task_one (Enqueues kept) index e = ap (λ (n : ℕ). n == 1) e
task_one Dequeues index e = ap (λ (n : ℕ). n == 1) e

pub why_one : (why : Why) (index : ℕ) → is_follow why ≡ false → protects (kind_of why) ≡ true → index ≡ index_by why → (index == 1) ≡ false
why_one (Opens task) index f k e = task_one task index e
why_one why index f k e = absurd (cc)

pub no_reload : (why : Why) (x : Bool) → is_follow why ≡ false → reloads (kind_of why) ≡ true → x ≡ false
no_reload (FollowsHead head tail) x f k = absurd (cc)
no_reload why x f k = absurd (cc)

base_one : (layout : Layout) (why : Why) (base : Base) (last post : Post) (found : ℕ) → is_follow why ≡ false → Run layout why base last → base_shows is_one post base found ≡ false
base_one layout why (Protect aim index root count at) last post found f r = at_one index root (bump count) post at found (why_one why index f r.suited r.shape.at)
base_one layout why (Reload parent index slot era count) last post found f r = no_reload why (base_shows is_one post (Reload parent index slot era count) found) f r.suited
base_one layout why (Clear rows index) last post found f r = cleared_one index (stands post index)
base_one layout why (Release index) last post found f r = cleared_one index (stands post index)
base_one layout why base last post found f r = refl

-- a call's own step tells of no protection
one_free : (told : List Event) → all_of (λ (event : Event). not (is_one event)) told ≡ true → list_any is_one told ≡ false
one_free [] h = refl
one_free (event ∷ told) h =
    let a : is_one event ≡ false = false_of_not (is_one event) (first_of (not (is_one event)) (all_of (λ (e : Event). not (is_one e)) told) h) in
    let b : list_any is_one told ≡ false = one_free told (rest_of (not (is_one event)) (all_of (λ (e : Event). not (is_one e)) told) h) in
    rw (a, b) refl

pub work_one : (work : Work) (post : Post) → list_any is_one (work_told work post) ≡ false
work_one work post = one_free (work_told work post) (work_all (λ (event : Event). not (is_one event)) (λ index slot. refl) (λ from index slot. refl) (λ seat index era. refl) (λ seat. refl) (λ seat index link. refl) work post)

null_each : (slots i index head n : ℕ) (q : Past) (null : Bool) → stood_at i 0 q ≡ Some head → (if null then held_since (begins i) (is_last slots head) q else true) ≡ true → Each (behind_ok slots) q → Each (behind_ok slots) (tells_of q i (if null then events.Null index n ∷ [] else []))
null_each slots i index head n q true s h g = (or_more (not (index == 1)) (was_last slots i q (stood_at i 0 q)) (subst (λ (x : Option ℕ). was_last slots i q x ≡ true) (sym s) h), g)
null_each slots i index head n q false s h g = g

if_each : (slots i : ℕ) (p : Past) (c : Bool) (t u : Turn) → (c ≡ true → Each (behind_ok slots) (tells_of p i t.told)) → Each (behind_ok slots) (tells_of p i u.told) → Each (behind_ok slots) (tells_of p i (if c then t else u).told)
if_each slots i p true t u a b = a refl
if_each slots i p false t u a b = b

ended_each : (slots i : ℕ) (p : Past) (aim : Aim) (index : ℕ) (root : Root) (n link era : ℕ) (post : Post) (told : List Event) → Each (behind_ok slots) (tells_of p i told) → Each (behind_ok slots) (tells_of p i (concluded aim index root n link era post told).told)
ended_each slots i p aim index root n link era post told h = subst (λ (es : List Event). Each (behind_ok slots) (tells_of p i es)) (sym (concluded_told aim index root n link era post told)) h

reserve_stood : (i : ℕ) (p : Past) (guard : Guard) (span : Option Interval) → stood_at i 0 (Then p i (events.Reserve guard span)) ≡ stood_at i 0 p
reserve_stood i p guard span = by (i == i)
  where
    by : (same : Bool) → (if same then stood_at i 0 p else stood_at i 0 p) ≡ stood_at i 0 p
    by true = refl
    by false = refl

protect_each : (slots i : ℕ) (p : Past) (aim : Aim) (index head n : ℕ) (at : ProtectAt) (post : Post) (found : ℕ) → stood_at i 0 p ≡ Some head → ((x : ℕ) → carries_at found (upper post.span) at x ≡ true → had_none slots p i (roots.Next head) x ≡ true) → (loads_found at ≡ true → had_none slots p i (roots.Next head) found ≡ true) → Each (behind_ok slots) p
    → Each (behind_ok slots) (tells_of p i (machine.protect_turn aim index (roots.Next head) n at post found).told)
protect_each slots i p aim index head n (PublishEra era tries) post found s h f g = (refl, g)
protect_each slots i p aim index head n (CheckClock era tries link) post found s h f g =
    if_each slots i p (found == era) (protected aim index (roots.Next head) n link era post) (goes post [] (Protect aim index (roots.Next head) n (PublishEra found (failed_once tries))))
    (λ e. ended_each slots i p aim index (roots.Next head) n link era (held_post post index (roots.Next head) link) (told_held index (roots.Next head) link n) (null_each slots i index head n p (link == 0) s (h link (both (link == link) (found == era) (same_number link) e)) g)) g
protect_each slots i p aim index head n (PublishHelper first era last) post found s h f g = (refl, g)
protect_each slots i p aim index head n (CheckOwnClock first era last link) post found s h f g = if_each slots i p (found == era) _ _ (λ e. g) g
protect_each slots i p aim index head n (AnswerOwn first era link) post found s h f g = if_each slots i p (found == own_request post index (roots.Next head)) _ _ (λ e. g) g
protect_each slots i p aim index head n (TakeAnswer link era) post found s h f g =
    let event : Event = events.Reserve (Index post.seat index) (one_era era) in
    null_each slots i index head n (Then p i event) (link == 0) (reserve_stood i p (Index post.seat index) (one_era era) ∙ s) (within_none slots p i i (roots.Next head) link event refl (h link (same_number link))) (refl, g)
protect_each slots i p aim index head n (WithdrawHelper link era) post found s h f g = ended_each slots i p aim index (roots.Next head) n link era post (reserves_helper post 0) (refl, g)
protect_each slots i p aim index head n (CheckUpper link) post found s h f g =
    if_each slots i p (found == upper post.span) (protected aim index (roots.Next head) n link found post) (goes post [] (Protect aim index (roots.Next head) n (RaiseUpper found)))
    (λ e. ended_each slots i p aim index (roots.Next head) n link found (held_post post index (roots.Next head) link) (told_held index (roots.Next head) link n) (null_each slots i index head n p (link == 0) s (h link (both (link == link) (found == upper post.span) (same_number link) e)) g)) g
protect_each slots i p aim index head n (RaiseUpper era) post found s h f g = (refl, g)
protect_each slots i p aim index head n (ByHazard FirstLink) post found s h f g =
    if_each slots i p (found == 0) (protected aim index (roots.Next head) n found 0 post) (goes post [] (Protect aim index (roots.Next head) n (ByHazard (PublishLink found))))
    (λ e. ended_each slots i p aim index (roots.Next head) n found 0 (held_post post index (roots.Next head) found) (told_held index (roots.Next head) found n) (null_each slots i index head n p (found == 0) s (f refl) g)) g
protect_each slots i p aim index head n (ByHazard (PublishLink link)) post found s h f g = (refl, g)
protect_each slots i p aim index head n (ByHazard (CheckLink link)) post found s h f g =
    if_each slots i p (found == link || found == 0) (protected aim index (roots.Next head) n found 0 post) (goes post [] (Protect aim index (roots.Next head) n (ByHazard (PublishLink found))))
    (λ e. ended_each slots i p aim index (roots.Next head) n found 0 (held_post post index (roots.Next head) found) (told_held index (roots.Next head) found n) (null_each slots i index head n p (found == 0) s (f refl) g)) g
protect_each slots i p aim index head n at post found s h f g = g

reload_each : (slots i parent index slot n found : ℕ) (post : Post) (p : Past) (same : Bool) → (found == parent + 1) ≡ same → head_at slots p + 1 ≡ found → (found ≡ parent + 1 → next_at parent p ≡ Some slot) → Each (behind_ok slots) p → Each (behind_ok slots) (tells_of p i (after_reload parent index slot n post found).told)
reload_each slots i parent index slot n found post p true q a h g =
    let m : found ≡ parent + 1 = number_is found (parent + 1) q in
    let at : head_at slots p ≡ parent = head_is found parent found (head_at slots p) a refl m in
    rw q (or_more (not (index == 1)) (is_slot slot (next_at (head_at slots p) p)) (row_is slot (next_at (head_at slots p) p) (ap (λ (s : ℕ). next_at s p) at ∙ h m)), g)
reload_each slots i parent index slot n found post p false q a h g = rw q g

-- what a seat knows before its step
record Sees (slots : ℕ) (w : World) (i : ℕ) (v : View) (l : Line) (z : Asked) (p : Past) : Type 0 where
  known : Known w v l z
  leads : Leads slots w.mem p
  nexts : Nexts w v l p
  links : Origins (had_none slots p) w z
  queue : (s : ℕ) → stands_on (w.seat i).phase s ≡ true → stood_at i 0 p ≡ Some s

follow_each : (slots : ℕ) (w : World) (i : ℕ) (v : View) (l : Line) (z : Asked) (p : Past) (head tail : ℕ) (base : Base) → (w.seat i).phase ≡ Runs (FollowsHead head tail) base → Sees slots w i v l z p → Each (behind_ok slots) p → Each (behind_ok slots) (tells_of p i (machine.after base (counted (w.seat i).post) (finds w i)).told)
follow_each slots w i v l z p head tail (Protect aim index root count at) q k g =
    let r = run_of w i (FollowsHead head tail) (Protect aim index root count at) k.known.seats q in
    let stood : stood_at i 0 p ≡ Some head = k.queue head (ap (λ (x : Phase). stands_on x head) q ∙ same_number head) in
    subst (λ (y : Root). Each (behind_ok slots) (tells_of p i (machine.protect_turn aim index y (bump count) at (counted (w.seat i).post) (finds w i)).told)) (sym r.shape.of)
    (protect_each slots i p aim index head (bump count) at (counted (w.seat i).post) (finds w i) stood
    (λ x h. subst (λ (y : Root). had_none slots p i y x ≡ true) r.shape.of (carried_none slots w i z p (FollowsHead head tail) aim index root count at x q k.links h))
    (λ h. subst (λ (y : Root). had_none slots p i y (finds w i) ≡ true) r.shape.of (loaded_none slots w v l z p i (FollowsHead head tail) aim index root count at q k.known k.leads k.nexts h)) g)
follow_each slots w i v l z p head tail (Reload parent index slot era count) q k g =
    let f : finds w i ≡ w.mem Head = finds_at w i (Runs (FollowsHead head tail) (Reload parent index slot era count)) q in
    reload_each slots i parent index slot (bump count) (finds w i) (counted (w.seat i).post) p (finds w i == parent + 1) refl (k.leads.head ∙ sym f)
    (λ m. reloaded_next w i v l z p (FollowsHead head tail) parent index slot era count q (sym f ∙ m) k.known k.nexts) g
follow_each slots w i v l z p head tail base q k g = let r = run_of w i (FollowsHead head tail) base k.known.seats q in let s : suits base ToFollow ≡ true = r.suited in absurd (cc)

own_each : (slots : ℕ) (w : World) (i : ℕ) (v : View) (l : Line) (z : Asked) (p : Past) (phase : Phase) → (w.seat i).phase ≡ phase → Sees slots w i v l z p → Each (behind_ok slots) p → Each (behind_ok slots) (tells_of p i (own_told phase (counted (w.seat i).post) (finds w i)))
own_each slots w i v l z p Idle q k g = g
own_each slots w i v l z p (Runs (FollowsHead head tail) base) q k g = follow_each slots w i v l z p head tail base q k g
own_each slots w i v l z p (Runs why base) q k g =
    other_each slots i (machine.after base (counted (w.seat i).post) (finds w i)).told p
    (base_any is_one base (counted (w.seat i).post) (finds w i) one_calm ∙ base_one w.layout why base (w.seat i).post (counted (w.seat i).post) (finds w i) refl (run_of w i why base k.known.seats q)) g
own_each slots w i v l z p (Scans later (ReadGuard number)) q k g = reads_are (λ event. Each (behind_ok slots) (tells_of p i (event ∷ []))) (publishes_rows (w.seat i).post.layout.config.scheme) (guard_at (w.seat i).post.layout.config number) (finds w i) (λ span. (refl, g)) (λ slot. (refl, g))
own_each slots w i v l z p (Scans later (GiveBack place slot)) q k g = (refl, g)
own_each slots w i v l z p (Works work) q k g = other_each slots i (work_told work (counted (w.seat i).post)) p (work_one work (counted (w.seat i).post)) g

step_nexts : (slots : ℕ) (w : World) (i : ℕ) (v : View) (l : Line) (z : Asked) (p : Past) → Sees slots w i v l z p → Each (behind_ok slots) p → Each (behind_ok slots) (tells_of p i (told_in w i))
step_nexts slots w i v l z p k g =
    let own : List Event = own_told (w.seat i).phase (counted (w.seat i).post) (finds w i) in
    let x : Adds (own_post (w.seat i).phase (counted (w.seat i).post) (finds w i)) own (turn (offered w i) (finds w i)) = step_adds w i in
    let one : Each (behind_ok slots) (tells_of p i own) = own_each slots w i v l z p (w.seat i).phase refl k g in
    subst (λ (q : Past). Each (behind_ok slots) q) (sym (ap (tells_of p i) x.is ∙ tells_both i own x.more p)) (later_each slots i x.more (tells_of p i own) x.later one)

pub records_follow_nexts : RecordsFollowNexts
records_follow_nexts layout items d = record_each layout (behind_ok layout.config.slots) items (record {
  begins = λ p i call. refl;
  steps = λ path i t g.
      let b = behind_of layout path d in
      step_nexts layout.config.slots (world_of layout path) i b.rows b.line b.asked (record_of layout path)
      (record { known = b.known; leads = leads_of layout path d; nexts = b.nexts; links = b.links; queue = λ s e. record_stands layout path i 0 d ∙ (b.known.stands.stood i).queue s e }) g;
})
