-- Lists are left and taken over by calls for it, whole and at most once.
use Rattle.std.proofs.Common.{ℕ, ◌≡◌, ◌<◌, Bool, true, false, List, [], ◌∷◌, length, Option, Some, refl, sym, ap, ◌∙◌, subst}
use Rattle.std.specs.Prelude.{◌==◌, ◌&&◌, not, nat_lt}
use Rattle.laws.specs.words.Place.Place.{PlaceOf}
use Rattle.laws.specs.words.declared.layout.Layout.{Layout}
use Rattle.laws.specs.defs.declared.call.Call.{Call}
use Rattle.laws.specs.defs.declared.call.Call.TheVariants as names
use Rattle.laws.specs.defs.declared.event.Event.{Event}
use Rattle.laws.specs.defs.declared.event.Event.TheVariants as events
use Rattle.laws.specs.defs.declared.lifetime.Lifetime.{Lifetime}
use Rattle.inv_all.specs.model.declared.post.Post.{Post}
use Rattle.inv_all.specs.model.Calls.{KeepAt, Loosens, LoadHeld, StoreHeld, Looks, Misses, HideSpan, MarkLeft, TakeList, MarkTaken, Phase, Idle, Runs, Scans, Works, Getting, Changing, Enqueuing, Dequeuing, Keeping}
use Rattle.inv_all.specs.model.Desks.{Desk}
use Rattle.inv_all.specs.model.Keep.{taking}
use Rattle.inv_all.specs.model.Locals.{told_by}
use Rattle.inv_all.specs.model.Posts.{counted}
use Rattle.inv_all.specs.model.Steps.{phase_turn}
use Rattle.inv_all.specs.model.World.{World, finds, is_busy, may_start, offered, told_in}
use Rattle.inv_all.proofs.model.Facts.{both, first_of, rest_of, same_number}
use Rattle.inv_all.specs.rows.Agree.{Agree}
use Rattle.inv_all.specs.rows.Rows.{View}
use Rattle.inv_all.specs.history.History.{Begins, Made, Steps, done, first_made, record_of}
use Rattle.laws.specs.records.Record.{Each, Past, tells_of}
use Rattle.laws.specs.records.Record.Past.{Then}
use Rattle.inv_all.proofs.history.AllOf.{all_of}
use Rattle.inv_all.proofs.history.Along.{Steady, items_keep}
use Rattle.laws.proofs.records.Entries.{entries_of_each}
use Rattle.laws.specs.Once.{is_adopt, lists_ok}
use Rattle.laws.specs.Standing.{is_leave}
use Rattle.laws.specs.Lists.{has_left, is_adopted, list_of}
use Rattle.laws.specs.StateAt.{began_of}
use Rattle.law_reuse.proofs.AnswersTold.Answering as answering
use Rattle.law_reuse.proofs.AnswersTold.Owed.{Serves}
use Rattle.law_reuse.proofs.Leaving.Told.{is_kept, phase_keeps_lists, told_kept}
use Rattle.law_reuse.specs.Records.{RecordsKeepLists}
use Rattle.law_reuse.specs.Rows.{Shows}
use Rattle.law_reuse.proofs.Once.Keeps as keeping
use Rattle.law_reuse.proofs.Once.Lists.{busy_list, gift_is, told_taken, word_left}

-- events of other kinds
kept_ok : (p : Past) (i : ℕ) (event : Event) → is_kept event ≡ true → lists_ok p i event ≡ true
kept_ok p i (events.Left count) h = absurd (cc)
kept_ok p i (events.Adopted place count) h = absurd (cc)
kept_ok p i event h = refl

kept_each : (i : ℕ) (told : List Event) (p : Past) → all_of is_kept told ≡ true → Each lists_ok p → Each lists_ok (tells_of p i told)
kept_each i [] p h g = g
kept_each i (event ∷ told) p h g = kept_each i told (Then p i event) (rest_of (is_kept event) (all_of is_kept told) h) (kept_ok p i event (first_of (is_kept event) (all_of is_kept told) h), g)

-- what is known of the call that makes its step
record Calls (w : World) (i : ℕ) (v : View) (p : Past) : Type 0 where
  busy : is_busy w i ≡ true
  agree : Agree w v
  shows : Shows w v p
  began : began_of i p ≡ Some (w.seat i).call
  serves : Serves (w.seat i).call (w.seat i).phase

leave_call : (began : Option Call) (call : Call) → began ≡ Some call → call ≡ names.Leave → is_leave began ≡ true
leave_call began call e c = rw (e, c) refl

adopt_call : (began : Option Call) (call : Call) (place : ℕ) → began ≡ Some call → call ≡ names.Adopt place → is_adopt place began ≡ true
adopt_call began call place e c = rw (e, c) (same_number place)

same_lengths : (a b : List Lifetime) → a ≡ b → (length a == length b) ≡ true
same_lengths a b e = subst (λ (x : List Lifetime). (length a == length x) ≡ true) e (same_number (length a))

-- a seat leaves its list
left_right : (w : World) (i : ℕ) (v : View) (p : Past) → Calls w i v p → (w.seat i).phase ≡ Works (Keeping MarkLeft) → lists_ok p i (events.Left (length (w.seat i).desk.list)) ≡ true
left_right w i v p c e =
    let call : (w.seat i).call ≡ names.Leave = subst (Serves (w.seat i).call) e c.serves in
    both (is_leave (began_of i p)) (length (w.seat i).desk.list == length (list_of i p)) (leave_call (began_of i p) (w.seat i).call c.began call)
    (same_lengths (w.seat i).desk.list (list_of i p) (sym (c.shows.lists i ∙ busy_list w i v c.busy c.agree)))

left_each : (w : World) (i : ℕ) (v : View) (p : Past) → Calls w i v p → (w.seat i).phase ≡ Works (Keeping MarkLeft) → Each lists_ok p → Each lists_ok (tells_of p i (told_by (phase_turn (Works (Keeping MarkLeft)) (counted (w.seat i).post) (offered w i).desk (finds w i))))
left_each w i v p c e g = (refl, (left_right w i v p c e, g))

-- a list is taken over
taken_right : (w : World) (i place : ℕ) (v : View) (p : Past) → Calls w i v p → (w.seat i).phase ≡ Works (Keeping (TakeList place)) → (finds w i == 1) ≡ true → lists_ok p i (events.Adopted place (length (offered w i).desk.gift)) ≡ true
taken_right w i place v p c e h =
    let call : (w.seat i).call ≡ names.Adopt place = subst (Serves (w.seat i).call) e c.serves in
    let word : w.mem (PlaceOf place) ≡ 1 = word_left w i place e h in
    let n : Bool = length (offered w i).desk.gift == length (list_of place p) in
    both (is_adopt place (began_of i p)) (has_left place p && (not (is_adopted place p) && n)) (adopt_call (began_of i p) (w.seat i).call place c.began call)
    (both (has_left place p) (not (is_adopted place p) && n) (c.shows.places.left place ∙ ap (nat_lt 0) word)
    (both (not (is_adopted place p)) n (ap not (c.shows.places.adopted place ∙ ap (nat_lt 1) word))
    (same_lengths (offered w i).desk.gift (list_of place p) (sym (c.shows.lists place ∙ gift_is w i place e h)))))

untaken_each : (i place : ℕ) (p : Past) (post : Post) (desk : Desk) (left : Bool) (found : ℕ) → left ≡ false → Each lists_ok p → Each lists_ok (tells_of p i (told_by (taking place post desk left found)))
untaken_each i place p post desk true found n g = absurd (cc)
untaken_each i place p post desk false found n g = (refl, g)

taken_each : (w : World) (i place : ℕ) (v : View) (p : Past) (one : Bool) → (finds w i == 1) ≡ one → Calls w i v p → (w.seat i).phase ≡ Works (Keeping (TakeList place)) → Each lists_ok p → Each lists_ok (tells_of p i (told_in w i))
taken_each w i place v p true h c e g = subst (λ (es : List Event). Each lists_ok (tells_of p i es)) (sym (told_taken w i place e h)) (taken_right w i place v p c e h, g)
taken_each w i place v p false h c e g =
    subst (λ (f : Phase). Each lists_ok (tells_of p i (told_by (phase_turn f (counted (w.seat i).post) (offered w i).desk (finds w i))))) (sym e)
    (untaken_each i place p (counted (w.seat i).post) (offered w i).desk (finds w i == 1) (finds w i) h g)

-- each step
told_as : (w : World) (i : ℕ) (p : Past) (phase : Phase) → (w.seat i).phase ≡ phase → Each lists_ok (tells_of p i (told_by (phase_turn phase (counted (w.seat i).post) (offered w i).desk (finds w i)))) → Each lists_ok (tells_of p i (told_in w i))
told_as w i p phase e g = subst (λ (f : Phase). Each lists_ok (tells_of p i (told_by (phase_turn f (counted (w.seat i).post) (offered w i).desk (finds w i))))) (sym e) g

calm_each : (w : World) (i : ℕ) (p : Past) (phase : Phase) → (w.seat i).phase ≡ phase → phase_keeps_lists phase ≡ true → Each lists_ok p → Each lists_ok (tells_of p i (told_in w i))
calm_each w i p phase e q g =
    told_as w i p phase e (kept_each i (told_by (phase_turn phase (counted (w.seat i).post) (offered w i).desk (finds w i))) p (told_kept phase (counted (w.seat i).post) (offered w i).desk (finds w i) q) g)

keep_each : (w : World) (i : ℕ) (v : View) (p : Past) (at : KeepAt) → (w.seat i).phase ≡ Works (Keeping at) → Calls w i v p → Each lists_ok p → Each lists_ok (tells_of p i (told_in w i))
keep_each w i v p MarkLeft e c g = told_as w i p (Works (Keeping MarkLeft)) e (left_each w i v p c e g)
keep_each w i v p (TakeList place) e c g = taken_each w i place v p (finds w i == 1) refl c e g
keep_each w i v p (Loosens let_go) e c g = calm_each w i p (Works (Keeping (Loosens let_go))) e refl g
keep_each w i v p (LoadHeld from index) e c g = calm_each w i p (Works (Keeping (LoadHeld from index))) e refl g
keep_each w i v p (StoreHeld from index era) e c g = calm_each w i p (Works (Keeping (StoreHeld from index era))) e refl g
keep_each w i v p (Looks index key at) e c g = calm_each w i p (Works (Keeping (Looks index key at))) e refl g
keep_each w i v p (Misses index) e c g = calm_each w i p (Works (Keeping (Misses index))) e refl g
keep_each w i v p HideSpan e c g = calm_each w i p (Works (Keeping HideSpan)) e refl g
keep_each w i v p (MarkTaken place count) e c g = calm_each w i p (Works (Keeping (MarkTaken place count))) e refl g

phase_each : (w : World) (i : ℕ) (v : View) (p : Past) (phase : Phase) → (w.seat i).phase ≡ phase → Calls w i v p → Each lists_ok p → Each lists_ok (tells_of p i (told_in w i))
phase_each w i v p Idle e c g = calm_each w i p Idle e refl g
phase_each w i v p (Runs why base) e c g = calm_each w i p (Runs why base) e refl g
phase_each w i v p (Scans later at) e c g = calm_each w i p (Scans later at) e refl g
phase_each w i v p (Works (Getting key at)) e c g = calm_each w i p (Works (Getting key at)) e refl g
phase_each w i v p (Works (Changing kept at)) e c g = calm_each w i p (Works (Changing kept at)) e refl g
phase_each w i v p (Works (Enqueuing kept at)) e c g = calm_each w i p (Works (Enqueuing kept at)) e refl g
phase_each w i v p (Works (Dequeuing at)) e c g = calm_each w i p (Works (Dequeuing at)) e refl g
phase_each w i v p (Works (Keeping at)) e c g = keep_each w i v p at e c g

-- what a history keeps
record ListsKept (layout : Layout) (made : Made) : Type 0 where
  rows : keeping.Keeps layout made
  answers : answering.Keeps layout.config.buckets made
  law : Each lists_ok made.past

begin_lists : (layout : Layout) (made : Made) (i : ℕ) (call : Call) → is_busy made.world i ≡ false → may_start made.world i call ≡ true → ListsKept layout made → ListsKept layout (done made (Begins i call))
begin_lists layout made i call f m g = record { rows = keeping.begin_keeps layout made i call f m g.rows; answers = answering.begin_keeps layout.config.buckets made i call f m g.answers; law = (refl, g.law) }

step_lists : (layout : Layout) (made : Made) (i : ℕ) → i < made.world.layout.config.seats → is_busy made.world i ≡ true → ListsKept layout made → ListsKept layout (done made (Steps i))
step_lists layout made i b y g =
    let r = g.answers.seats i in
    record {
      rows = keeping.step_keeps layout made i b y g.rows;
      answers = answering.step_keeps layout.config.buckets made i b y g.answers;
      law = phase_each made.world i g.rows.rows made.past (made.world.seat i).phase refl
          (record { busy = y; agree = g.rows.known.whole.both.rows; shows = g.rows.shows; began = r.began y; serves = r.serves y })
          g.law;
    }

steady : (layout : Layout) → Steady (ListsKept layout)
steady layout = record { begins = λ made i call b y m g. begin_lists layout made i call y m g; steps = λ made i b y g. step_lists layout made i b y g }

pub records_keep_lists : RecordsKeepLists
records_keep_lists layout items d =
    let first : ListsKept layout (first_made layout) = record { rows = keeping.first_keeps layout d; answers = answering.first_keeps layout d; law = tt } in
    let g = items_keep (ListsKept layout) (steady layout) items (first_made layout) first in
    entries_of_each lists_ok (record_of layout items) g.law
