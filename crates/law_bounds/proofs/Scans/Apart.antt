-- Wherever a seat tells anything no row is twice on its list: so it is between two steps, and a step changes the list once at most.
use Rattle.std.proofs.Common.{ℕ, ◌≡◌, ◌<◌, Bool, true, false, List, [], ◌∷◌, length, refl, sym, ap, ◌∙◌, subst, arith}
use Rattle.std.proofs.lemmas.Bool.Decides.{nat_tests}
use Rattle.std.specs.List.{filter}
use Rattle.std.specs.Prelude.{◌==◌, not}
use Rattle.law_all.proofs.inv.history.AllOf.{all_of}
use Rattle.law_all.proofs.inv.history.Along.{Steady, items_keep}
use Rattle.law_all.proofs.inv.model.Facts.{rest_of}
use Rattle.law_all.proofs.inv.ends.Told.Rows.{rows_told}
use Rattle.law_all.proofs.laws.Along.{along, along_kind, list_own, list_quiet, list_tells}
use Rattle.law_all.specs.inv.ends.Told.{birth_in, move_of, row_events}
use Rattle.law_all.specs.inv.history.History.{Begins, Item, Made, Steps, done, first_made, record_of}
use Rattle.law_all.specs.inv.history.Record.{Each, Past, tells_of}
use Rattle.law_all.specs.inv.history.Record.Past.{Then}
use Rattle.law_all.specs.inv.model.CallReady.{slots_of}
use Rattle.law_all.specs.inv.model.Calls.{KeepAt, Loosens, LoadHeld, StoreHeld, Looks, Misses, HideSpan, MarkLeft, TakeList, MarkTaken, Phase, Idle, Runs, Scans, Works, Getting, Changing, Enqueuing, Dequeuing, Keeping}
use Rattle.law_all.specs.inv.model.Desks.{Desk}
use Rattle.law_all.specs.inv.model.Keep.{taking}
use Rattle.law_all.specs.inv.model.Locals.{told_by}
use Rattle.law_all.specs.inv.model.Posts.{counted}
use Rattle.law_all.specs.inv.model.Steps.{phase_turn}
use Rattle.law_all.specs.inv.model.World.{World, finds, is_busy, may_start, offered, told_in}
use Rattle.law_all.specs.inv.model.declared.post.Post.{Post}
use Rattle.law_all.specs.inv.model.defs.Events.{is_of_rows}
use Rattle.law_all.specs.inv.model.defs.declared.call.Call.{Call}
use Rattle.law_all.specs.inv.model.defs.declared.event.Event.{Event}
use Rattle.law_all.specs.inv.model.defs.declared.event.Event.TheVariants as events
use Rattle.law_all.specs.inv.model.defs.declared.lifetime.Lifetime.{Lifetime}
use Rattle.law_all.specs.inv.model.words.Place.{is_valid}
use Rattle.law_all.specs.inv.model.words.declared.layout.Layout.{Layout}
use Rattle.law_all.specs.inv.rows.Hands.{each_once}
use Rattle.law_all.specs.inv.rows.Rows.{RowMove}
use Rattle.law_all.specs.inv.rows.Rows.RowMove.{Adopts, Appends, Bears, Claims, Drops, Links, Lists, Pops, Reads, Replaces, Returns, Seals, Stays}
use Rattle.law_all.specs.laws.Lists.{hands_none, is_handed, list_by, list_of}
use Rattle.law_scans.proofs.reuse.Leaving.Told.{is_kept, phase_keeps_lists, told_kept}
use Rattle.law_scans.proofs.reuse.Once.Keeps as once
use Rattle.law_scans.proofs.reuse.Once.Lists.{told_taken}
use Rattle.law_bounds.specs.Rows.{are_apart}
use Rattle.law_bounds.specs.Scans.{apart_ok}
use Rattle.law_bounds.proofs.Rows.Parts.{once_apart}

-- one event of rows at most
abbrev one_at_most : List Event → Bool
one_at_most [] = true
one_at_most (event ∷ []) = true
one_at_most (event ∷ other ∷ told) = false

move_once : (birth : ℕ) (m : RowMove) → one_at_most (row_events birth m) ≡ true
move_once birth Stays = refl
move_once birth (Claims slot) = refl
move_once birth (Bears slot born) = refl
move_once birth (Drops slot) = refl
move_once birth (Links bucket slot) = refl
move_once birth (Replaces bucket slot old) = refl
move_once birth (Appends slot) = refl
move_once birth (Pops slot next) = refl
move_once birth (Reads slot born) = refl
move_once birth (Seals slot born retire) = refl
move_once birth (Lists slot born retire) = refl
move_once birth (Returns slot) = refl
move_once birth (Adopts from) = refl

none_more : (event : Event) (told : List Event) → one_at_most (event ∷ told) ≡ true → told ≡ []
none_more event [] h = refl
none_more event (other ∷ told) h = absurd (cc)

first_none : (event : Event) (told : List Event) → hands_none (event ∷ told) ≡ true → is_handed event ≡ false
first_none event told h = grind (arith, nat_tests)

rest_none : (event : Event) (told : List Event) → hands_none (event ∷ told) ≡ true → hands_none told ≡ true
rest_none event told h = grind (arith, nat_tests)

unkept_none : (event : Event) → is_kept event ≡ true → not (is_handed event) ≡ true
unkept_none event h = grind (arith, nat_tests)

kept_none : (told : List Event) → all_of is_kept told ≡ true → hands_none told ≡ true
kept_none [] h = refl
kept_none (event ∷ told) h =
    let here : not (is_handed event) ≡ true = unkept_none event (first event told h) in
    let more : hands_none told ≡ true = kept_none told (rest_of (is_kept event) (all_of is_kept told) h) in
    grind (arith, nat_tests, here, more)
  where
    first : (event : Event) (told : List Event) → all_of is_kept (event ∷ told) ≡ true → is_kept event ≡ true
    first event told h = grind (arith, nat_tests)

-- no event of rows leaves a list as it is
quiet_list : (i : ℕ) (told : List Event) (p : Past) → hands_none told ≡ true → filter is_of_rows told ≡ [] → list_of i (tells_of p i told) ≡ list_of i p
quiet_list i told p n e =
    list_tells i told p n ∙ along_kind list_by is_of_rows list_quiet told (list_of i p) ∙ ap (λ (es : List Event). along list_by es (list_of i p)) e

abbrev Apart : ℕ → Past → Type 0
Apart i p = are_apart (slots_of (list_of i p)) ≡ true

apart_as : (i : ℕ) (p q : Past) → list_of i q ≡ list_of i p → Apart i p → Apart i q
apart_as i p q e a = ap (λ (xs : List Lifetime). are_apart (slots_of xs)) e ∙ a

filtered_own : (event : Event) (told : List Event) → is_of_rows event ≡ true → filter is_of_rows (event ∷ told) ≡ event ∷ filter is_of_rows told
filtered_own event told e = rw e refl

filtered_other : (event : Event) (told : List Event) → is_of_rows event ≡ false → filter is_of_rows (event ∷ told) ≡ filter is_of_rows told
filtered_other event told e = rw e refl

rows_each : (i : ℕ) (told : List Event) (p : Past) → hands_none told ≡ true → one_at_most (filter is_of_rows told) ≡ true → Apart i p → Apart i (tells_of p i told) → Each apart_ok p → Each apart_ok (tells_of p i told)
rows_each i [] p n s a b g = g
rows_each i (event ∷ told) p n s a b g = by (is_of_rows event) refl (rows_each i told (Then p i event) (rest_none event told n))
  where
    more : hands_none told ≡ true
    more = rest_none event told n

    by : (loud : Bool) → is_of_rows event ≡ loud
        → (one_at_most (filter is_of_rows told) ≡ true → Apart i (Then p i event) → Apart i (tells_of (Then p i event) i told) → Each apart_ok (Then p i event) → Each apart_ok (tells_of (Then p i event) i told))
        → Each apart_ok (tells_of (Then p i event) i told)
    by true e f =
        let all : one_at_most (event ∷ filter is_of_rows told) ≡ true = ap one_at_most (sym (filtered_own event told e)) ∙ s in
        let none : filter is_of_rows told ≡ [] = none_more event (filter is_of_rows told) all in
        let now : Apart i (Then p i event) = apart_as i (tells_of (Then p i event) i told) (Then p i event) (sym (quiet_list i told (Then p i event) more none)) b in
        f (ap one_at_most none) now b (a, g)
    by false e f =
        let all : one_at_most (filter is_of_rows told) ≡ true = ap one_at_most (sym (filtered_other event told e)) ∙ s in
        let same : list_of i (Then p i event) ≡ list_of i p = list_own i event p (first_none event told n) ∙ list_quiet event (list_of i p) e in
        f all (apart_as i p (Then p i event) same a) b (a, g)

-- where a seat makes its step
record Moves (w : World) (i : ℕ) (p : Past) : Type 0 where
  before : Apart i p
  after : Apart i (tells_of p i (told_in w i))

-- a step by its phase
told_as : (w : World) (i : ℕ) (p : Past) (phase : Phase) → (w.seat i).phase ≡ phase
    → Each apart_ok (tells_of p i (told_by (phase_turn phase (counted (w.seat i).post) (offered w i).desk (finds w i)))) → Each apart_ok (tells_of p i (told_in w i))
told_as w i p phase e g =
    subst (λ (f : Phase). Each apart_ok (tells_of p i (told_by (phase_turn f (counted (w.seat i).post) (offered w i).desk (finds w i))))) (sym e) g

calm_each : (w : World) (i : ℕ) (p : Past) (phase : Phase) → (w.seat i).phase ≡ phase → phase_keeps_lists phase ≡ true → Moves w i p → Each apart_ok p
    → Each apart_ok (tells_of p i (told_in w i))
calm_each w i p phase e q m g =
    let kept : all_of is_kept (told_in w i) ≡ true =
    subst (λ (f : Phase). all_of is_kept (told_by (phase_turn f (counted (w.seat i).post) (offered w i).desk (finds w i))) ≡ true) (sym e) (told_kept phase (counted (w.seat i).post) (offered w i).desk (finds w i) q) in
    let one : one_at_most (filter is_of_rows (told_in w i)) ≡ true = ap one_at_most (rows_told w i) ∙ move_once (birth_in (w.seat i).phase) (move_of w i) in
    rows_each i (told_in w i) p (kept_none (told_in w i) kept) one m.before m.after g

-- a seat leaves
left_each : (w : World) (i : ℕ) (p : Past) → Moves w i p → (w.seat i).phase ≡ Works (Keeping MarkLeft) → Each apart_ok p → Each apart_ok (tells_of p i (told_in w i))
left_each w i p m e g =
    let first : Event = events.Left (length (offered w i).desk.list) in
    told_as w i p (Works (Keeping MarkLeft)) e (apart_as i p (Then p i first) (list_own i first p refl) m.before, (m.before, g))

-- a list is taken over
untaken_each : (i place : ℕ) (p : Past) (post : Post) (desk : Desk) (left : Bool) (found : ℕ) → left ≡ false → Apart i p → Each apart_ok p
    → Each apart_ok (tells_of p i (told_by (taking place post desk left found)))
untaken_each i place p post desk true found n a g = absurd (cc)
untaken_each i place p post desk false found n a g = (a, g)

taken_each : (w : World) (i place : ℕ) (p : Past) (one : Bool) → (finds w i == 1) ≡ one → Moves w i p → (w.seat i).phase ≡ Works (Keeping (TakeList place)) → Each apart_ok p
    → Each apart_ok (tells_of p i (told_in w i))
taken_each w i place p true h m e g = subst (λ (es : List Event). Each apart_ok (tells_of p i es)) (sym (told_taken w i place e h)) (m.before, g)
taken_each w i place p false h m e g =
    told_as w i p (Works (Keeping (TakeList place))) e (untaken_each i place p (counted (w.seat i).post) (offered w i).desk (finds w i == 1) (finds w i) h m.before g)

keep_each : (w : World) (i : ℕ) (p : Past) (at : KeepAt) → Moves w i p → (w.seat i).phase ≡ Works (Keeping at) → Each apart_ok p → Each apart_ok (tells_of p i (told_in w i))
keep_each w i p MarkLeft m e g = left_each w i p m e g
keep_each w i p (TakeList place) m e g = taken_each w i place p (finds w i == 1) refl m e g
keep_each w i p (Loosens let_go) m e g = calm_each w i p (Works (Keeping (Loosens let_go))) e refl m g
keep_each w i p (LoadHeld from index) m e g = calm_each w i p (Works (Keeping (LoadHeld from index))) e refl m g
keep_each w i p (StoreHeld from index era) m e g = calm_each w i p (Works (Keeping (StoreHeld from index era))) e refl m g
keep_each w i p (Looks index key at) m e g = calm_each w i p (Works (Keeping (Looks index key at))) e refl m g
keep_each w i p (Misses index) m e g = calm_each w i p (Works (Keeping (Misses index))) e refl m g
keep_each w i p HideSpan m e g = calm_each w i p (Works (Keeping HideSpan)) e refl m g
keep_each w i p (MarkTaken place count) m e g = calm_each w i p (Works (Keeping (MarkTaken place count))) e refl m g

phase_each : (w : World) (i : ℕ) (p : Past) (phase : Phase) → Moves w i p → (w.seat i).phase ≡ phase → Each apart_ok p → Each apart_ok (tells_of p i (told_in w i))
phase_each w i p Idle m e g = calm_each w i p Idle e refl m g
phase_each w i p (Runs why base) m e g = calm_each w i p (Runs why base) e refl m g
phase_each w i p (Scans later at) m e g = calm_each w i p (Scans later at) e refl m g
phase_each w i p (Works (Getting key at)) m e g = calm_each w i p (Works (Getting key at)) e refl m g
phase_each w i p (Works (Changing kept at)) m e g = calm_each w i p (Works (Changing kept at)) e refl m g
phase_each w i p (Works (Enqueuing kept at)) m e g = calm_each w i p (Works (Enqueuing kept at)) e refl m g
phase_each w i p (Works (Dequeuing at)) m e g = calm_each w i p (Works (Dequeuing at)) e refl m g
phase_each w i p (Works (Keeping at)) m e g = keep_each w i p at m e g

-- what a history keeps
record Keeps (layout : Layout) (made : Made) : Type 0 where
  rows : once.Keeps layout made
  law : Each apart_ok made.past

between : (layout : Layout) (made : Made) (i : ℕ) → once.Keeps layout made → Apart i made.past
between layout made i k =
    once_apart (list_of i made.past) (ap each_once (k.shows.lists i) ∙ (k.known.whole.both.rows.plays i).once)

begin_keeps : (layout : Layout) (made : Made) (i : ℕ) (call : Call) → is_busy made.world i ≡ false → may_start made.world i call ≡ true → Keeps layout made
    → Keeps layout (done made (Begins i call))
begin_keeps layout made i call f m g = record { rows = once.begin_keeps layout made i call f m g.rows; law = (between layout made i g.rows, g.law) }

step_keeps : (layout : Layout) (made : Made) (i : ℕ) → i < made.world.layout.config.seats → is_busy made.world i ≡ true → Keeps layout made
    → Keeps layout (done made (Steps i))
step_keeps layout made i b y g =
    let next : once.Keeps layout (done made (Steps i)) = once.step_keeps layout made i b y g.rows in
    record {
      rows = next;
      law = phase_each made.world i made.past (made.world.seat i).phase (record { before = between layout made i g.rows; after = between layout (done made (Steps i)) i next }) refl g.law;
    }

steady : (layout : Layout) → Steady (Keeps layout)
steady layout = record { begins = λ made i call b y m g. begin_keeps layout made i call y m g; steps = λ made i b y g. step_keeps layout made i b y g }

pub records_apart : (layout : Layout) (items : List Item) → is_valid layout ≡ true → Each apart_ok (record_of layout items)
records_apart layout items d =
    (items_keep (Keeps layout) (steady layout) items (first_made layout) (record { rows = once.first_keeps layout d; law = tt })).law
