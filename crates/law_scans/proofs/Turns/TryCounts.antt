-- Under Hazard Eras a protection's number is that of its tries.
use Rattle.std.proofs.Common.{ℕ, ◌≡◌, ◌<◌, ◌+◌, Bool, true, false, List, [], ◌∷◌, ◌++◌, refl, ap, ◌∙◌, arith}
use Rattle.std.proofs.lemmas.Bool.Decides.{nat_tests}
use Rattle.std.specs.Prelude.{◌==◌, ◌&&◌, ◌*◌, not, nat_le, if◌then◌else◌}
use Rattle.law_reuse.specs.laws.words.declared.config.SchemeKind.{SchemeKind}
use Rattle.law_reuse.specs.laws.words.declared.config.SchemeKind.TheVariants.{He, Hp, Ibr, Wfe}
use Rattle.law_reuse.specs.laws.words.declared.layout.Layout.{Layout}
use Rattle.law_reuse.specs.laws.defs.declared.event.Event.{Event}
use Rattle.law_reuse.specs.laws.defs.declared.event.Event.TheVariants as events
use Rattle.law_reuse.specs.laws.defs.declared.event.Root.{Root}
use Rattle.law_reuse.specs.inv.model.declared.ends.FollowEnd.TheVariants as follow_ends
use Rattle.law_reuse.specs.inv.model.declared.post.Post.{Post}
use Rattle.law_reuse.specs.inv.model.Machine as machine
use Rattle.law_reuse.specs.inv.model.Memory.{bump}
use Rattle.law_reuse.specs.inv.model.Posts.{with_row, counted}
use Rattle.law_reuse.specs.inv.model.Protect.{held_post, told_held, concluded}
use Rattle.law_reuse.specs.inv.model.Rounds.{scheme_of, clear_told, index_of}
use Rattle.law_reuse.specs.inv.model.World.{World, finds, is_busy, offered, told_in}
use Rattle.law_reuse.specs.inv.model.Phases.{Aim, ProtectAt, Base, Turn, ends}
use Rattle.law_reuse.specs.inv.model.Phases.ProtectAt.{CheckClock, CheckOwnClock, AnswerOwn, TakeAnswer, WithdrawHelper, LoadWithin, CheckUpper, RaiseUpper, ByHazard}
use Rattle.law_reuse.specs.inv.model.Phases.Base.{Begin, Protect, Reload, Release}
use Rattle.law_reuse.specs.inv.model.Phases.Ending.{Followed}
use Rattle.law_reuse.specs.inv.model.Calls.{Task, Gets, Changes, Holds, Enqueues, Dequeues, Why, Opens, FollowsHead, ReadGuard, GiveBack, Phase, Idle, Runs, Scans, Works}
use Rattle.law_reuse.proofs.laws.records.defs.Facts.{both, first_of, rest_of, false_not_true, and_true, three_more, le_of_test}
use Rattle.law_reuse.specs.laws.words.Schemes.{is_ibr, is_he, publishes_rows}
use Rattle.law_reuse.specs.inv.model.Guards.{guard_at}
use Rattle.law_reuse.proofs.ReadGuards.{reads_are}
use Rattle.law_scans.proofs.Turns.Counting.Protects.{rows_not_he}
use Rattle.law_reuse.specs.inv.shapes.Seats.{protects, reloads, kind_of, index_by, root_by}
use Rattle.law_reuse.proofs.history.Passes.{Closed, First, step_goes, work_told}
use Rattle.law_reuse.specs.laws.records.Turns as schedule
use Rattle.law_reuse.specs.laws.records.Turns.History.{Blank, Turns}
use Rattle.law_reuse.specs.history.History.{Made, first_made}
use Rattle.law_reuse.specs.laws.records.Turns.{EachTurn}
use Rattle.law_reuse.specs.laws.HistorySteps.{events_tried, tries_right}
use Rattle.law_reuse.specs.laws.StepLaw.{event_tried}
use Rattle.law_scans.specs.Turns.Records.{TriesCount}
use Rattle.law_reuse.proofs.OneStep.Along.{Around, Kept, history_keeps}
use Rattle.law_scans.proofs.Turns.Counting.Counting.{Keeps, published, since_of, seat_of, published_here, begin_kept, step_kept, first_kept}
use Rattle.law_scans.proofs.Turns.Counting.Fits.{reload_paced, since, tried}
use Rattle.law_scans.proofs.Turns.Counting.Passing.{he_tried, reload_he}
use Rattle.law_scans.proofs.Turns.Counting.Protects.{Site, x_next}
use Rattle.law_scans.proofs.Turns.Counting.Runs.{x_after, phase_x, Stage, Seat, bump_low, site_of, stage_of}
use Rattle.law_reuse.proofs.history.MayTell.{concluded_told, held_any, is_find, no_find, work_all}
use Rattle.law_scans.proofs.Turns.Counting.Told.{is_dull, all_dull, quiet_dull, clear_dull, dull_unfound}
use Rattle.law_reuse.proofs.inv.requests.Paced.{wfe_not_he}
use Rattle.law_reuse.proofs.history.AllOf.{all_of, of_weaker}

pub unfound_one : (x : ℕ → ℕ) (event : Event) → not (is_find event) ≡ true → event_tried x event ≡ true
unfound_one x (events.Held index slot steps) h = absurd (cc)
unfound_one x (events.Null index steps) h = absurd (cc)
unfound_one x event h = refl

unfound_tried : (x : ℕ → ℕ) (told : List Event) → all_of (λ event. not (is_find event)) told ≡ true → events_tried x told ≡ true
unfound_tried x [] h = refl
unfound_tried x (event ∷ told) h =
    both (event_tried x event) (events_tried x told) (unfound_one x event (first_of (not (is_find event)) (all_of (λ other. not (is_find other)) told) h)) (unfound_tried x told (rest_of (not (is_find event)) (all_of (λ other. not (is_find other)) told) h))

dull_tried : (x : ℕ → ℕ) (told : List Event) → all_dull told ≡ true → events_tried x told ≡ true
dull_tried x told h = unfound_tried x told (of_weaker is_dull (λ event. not (is_find event)) told dull_unfound h)

tried_along : (x : ℕ → ℕ) (xs ys : List Event) → events_tried x xs ≡ true → events_tried x ys ≡ true → events_tried x (xs ++ ys) ≡ true
tried_along x [] ys h k = k
tried_along x (e ∷ xs) ys h k = both (event_tried x e) (events_tried x (xs ++ ys)) (first_of (event_tried x e) (events_tried x xs) h) (tried_along x xs ys (rest_of (event_tried x e) (events_tried x xs) h) k)

tried_closed : (x : ℕ → ℕ) → Closed (λ post told. events_tried x told ≡ true)
tried_closed x = record {
  calm = λ post told more q h. tried_along x told more h (dull_tried x more (quiet_dull more q));
  clears = λ post told index h. tried_along x told (clear_told (scheme_of post) post index) h (dull_tried x (clear_told (scheme_of post) post index) (clear_dull (scheme_of post) post index));
}

tried_if : (x : ℕ → ℕ) (c : Bool) (t v : Turn) → events_tried x t.told ≡ true → events_tried x v.told ≡ true → events_tried x (if c then t else v).told ≡ true
tried_if x true t v a b = a
tried_if x false t v a b = b

-- a link that was found
one_way : (x : ℕ → ℕ) (index n : ℕ) (none : Bool) → (n == 3 * x index + 1) ≡ true → events_tried x (if none then events.Null index n ∷ [] else []) ≡ true
one_way x index n true h = and_true (n == 3 * x index + 1) h
one_way x index n false h = refl

held_tried : (x : ℕ → ℕ) (index : ℕ) (root : Root) (link n : ℕ) → (index == 1) ≡ false → (n == 3 * x index + 1) ≡ true → events_tried x (told_held index root link n) ≡ true
held_tried x index root link n i h = held_any (λ told. events_tried x told ≡ true) index root link n refl (and_true (n == 3 * x index + 1) h) (λ slot. and_true (event_tried x (events.Held index slot n)) (rw i h))

pub task_index : (task : Task) → (index_of task == 1) ≡ false
task_index (Gets key) = refl
task_index (Changes kept) = refl
task_index (Holds key) = refl
task_index (Enqueues kept) = refl
task_index Dequeues = refl

found_tried : (x : ℕ → ℕ) (buckets : ℕ) (why : Why) (index : ℕ) (root : Root) (link n : ℕ) → protects (kind_of why) ≡ true → index ≡ index_by why → root ≡ root_by buckets why → (n == 3 * x index + 1) ≡ true → events_tried x (told_held index root link n) ≡ true
found_tried x buckets (Opens task) index root link n p i r h = held_tried x index root link n (rw i (task_index task)) h
found_tried x buckets (FollowsHead head tail) index root link n p i r h = rw r (one_way x index n (link == 0) h)
found_tried x buckets why index root link n p i r h = absurd (cc)

protect_tried : (x u : ℕ → ℕ) (buckets : ℕ) (why : Why) (aim : Aim) (index : ℕ) (root : Root) (steps n count : ℕ) (at : ProtectAt) (post : Post) (found : ℕ) → is_he (scheme_of post) ≡ true → Site x u buckets why aim index root steps n count at post → events_tried (x_next x index at) (machine.protect_turn aim index root n at post found).told ≡ true
protect_tried x u buckets why aim index root steps n count (CheckClock era tries link) post found e s =
    let z : (steps == 3 * x index) ≡ true = he_tried (scheme_of post) post.layout.config.tries tries (steps == 3 * x index) s.fits e (rest_of (since steps (x index) (u index)) (tried tries (steps == 3 * x index)) s.paced) in
    let m : (n == 3 * x index + 1) ≡ true = rw (s.next) (three_more steps (x index) z) in
    tried_if x (found == era) (concluded aim index root n link era (held_post post index root link) (told_held index root link n)) _
    (rw (concluded_told aim index root n link era (held_post post index root link) (told_held index root link n)) (found_tried x buckets why index root link n s.protects s.place s.of m)) refl
protect_tried x u buckets why aim index root steps n count (CheckOwnClock first era last link) post found e s = absurd (wfe_not_he (scheme_of post) s.fits e)
protect_tried x u buckets why aim index root steps n count (AnswerOwn first era link) post found e s = absurd (wfe_not_he (scheme_of post) s.fits e)
protect_tried x u buckets why aim index root steps n count (TakeAnswer link era) post found e s = absurd (wfe_not_he (scheme_of post) s.fits e)
protect_tried x u buckets why aim index root steps n count (WithdrawHelper link era) post found e s = absurd (wfe_not_he (scheme_of post) s.fits e)
protect_tried x u buckets why aim index root steps n count LoadWithin post found e s = absurd (false_not_true (is_ibr (scheme_of post)) s.scheme s.fits)
protect_tried x u buckets why aim index root steps n count (CheckUpper link) post found e s = absurd (false_not_true (is_ibr (scheme_of post)) s.scheme s.fits)
protect_tried x u buckets why aim index root steps n count (RaiseUpper era) post found e s = absurd (false_not_true (is_ibr (scheme_of post)) s.scheme s.fits)
protect_tried x u buckets why aim index root steps n count (ByHazard at) post found e s = absurd (false_not_true (is_he (scheme_of post)) (rows_not_he (scheme_of post) s.fits) e)
protect_tried x u buckets why aim index root steps n count at post found e s = refl

pub reload_index : (why : Why) → reloads (kind_of why) ≡ true → (index_by why == 1) ≡ true
reload_index (FollowsHead head tail) h = refl
reload_index why h = absurd (cc)

one_step_more : (made x : ℕ) → (made == 3 * x + 1) ≡ true → (made + 1 == 3 * x + 2) ≡ true
one_step_more made x h = grind (arith, nat_tests)

run_tried : (x u : ℕ → ℕ) (layout : Layout) (why : Why) (base : Base) (post : Post) (found count : ℕ) → is_he (scheme_of post) ≡ true → Stage x u layout why base post found count → events_tried (x_after x base) (machine.after base post found).told ≡ true
run_tried x u layout why (Begin at) post found count e s = absurd (false_not_true (is_ibr layout.config.scheme) s.scheme s.run.fits)
run_tried x u layout why (Protect aim index root made at) post found count e s = protect_tried x u layout.config.buckets why aim index root made (bump made) count at post found e (site_of layout why aim index root made at post found count s)
run_tried x u layout why (Reload parent index slot era made) post found count e s =
    let o : (nat_le made count && reload_paced (scheme_of post) made (x index)) ≡ true = rest_of (since made (x index) (u index)) (nat_le made count && reload_paced (scheme_of post) made (x index)) s.own in
    let f : nat_le made count ≡ true = first_of (nat_le made count) (reload_paced (scheme_of post) made (x index)) o in
    let m : (made == 3 * x index + 1) ≡ true = reload_he (scheme_of post) made (x index) (rest_of (nat_le made count) (reload_paced (scheme_of post) made (x index)) o) e in
    let b : bump made ≡ made + 1 = bump_low made count (le_of_test made count f) s.low in
    let r = s.run in
    let a = r.shape in
    let i : (index == 1) ≡ true = rw (a.at) (reload_index why r.suited) in
    tried_if x (found == parent + 1) (ends (with_row post index slot) (events.Held index slot (bump made) ∷ []) (Followed (follow_ends.Followed slot))) (ends post [] (Followed (follow_ends.RootMoved found)))
    (and_true (event_tried x (events.Held index slot (bump made))) (rw i (rw b (one_step_more made (x index) m)))) refl
run_tried x u layout why (Release index) post found count e s = absurd (false_not_true (is_ibr layout.config.scheme) s.scheme s.run.fits)
run_tried x u layout why base post found count e s = unfound_tried (x_after x base) (machine.after base post found).told (no_find base post found refl)

turn_tried : (x u : ℕ → ℕ) (layout : Layout) (i : ℕ) (phase : Phase) (post : Post) (found : ℕ) → is_he (scheme_of post) ≡ true → Seat x u layout i phase post → First (λ p told. events_tried (λ j. phase_x phase j (x j)) told ≡ true) phase (counted post) found
turn_tried x u layout i Idle post found e s = refl
turn_tried x u layout i (Runs why base) post found e s = run_tried x u layout why base (counted post) found post.steps e (stage_of x u layout i why base post found s)
turn_tried x u layout i (Scans later (ReadGuard number)) post found e s = reads_are (λ event. events_tried x (event ∷ []) ≡ true) (publishes_rows (scheme_of post)) (guard_at post.layout.config number) found (λ span. refl) (λ slot. refl)
turn_tried x u layout i (Scans later (GiveBack place slot)) post found e s = refl
turn_tried x u layout i (Works work) post found e s = unfound_tried (λ j. phase_x (Works work) j (x j)) (work_told work (counted post)) (work_all (λ event. not (is_find event)) (λ index slot. refl) (λ from index slot. refl) (λ seat index era. refl) (λ seat. refl) (λ seat index link. refl) work (counted post))

event_same : (x y : ℕ → ℕ) (event : Event) → ((j : ℕ) → y j ≡ x j) → event_tried x event ≡ true → event_tried y event ≡ true
event_same x y (events.Held index slot n) p h = rw (p index) h
event_same x y (events.Null index n) p h = rw (p index) h
event_same x y event p h = refl

pub events_same : (x y : ℕ → ℕ) (told : List Event) → ((j : ℕ) → y j ≡ x j) → events_tried x told ≡ true → events_tried y told ≡ true
events_same x y [] p h = refl
events_same x y (event ∷ told) p h = both (event_tried y event) (events_tried y told) (event_same x y event p (first_of (event_tried x event) (events_tried x told) h)) (events_same x y told p (rest_of (event_tried x event) (events_tried x told) h))

-- along a history
pub record Tries (layout : Layout) (made : Made) (h : schedule.History) : Type 0 where
  pub keeps : Keeps false layout made h
  pub law : EachTurn tries_right h

not_rows : (scheme : SchemeKind) → is_he scheme ≡ true → publishes_rows scheme ≡ false
not_rows He h = refl
not_rows Ibr h = refl
not_rows Wfe h = refl
not_rows Hp h = absurd (cc)

not_ibr : (scheme : SchemeKind) → is_he scheme ≡ true → is_ibr scheme ≡ false
not_ibr He h = refl
not_ibr Ibr h = absurd (cc)
not_ibr Hp h = absurd (cc)
not_ibr Wfe h = refl

step_law : (layout : Layout) (made : Made) (h : schedule.History) (i : ℕ) → is_he layout.config.scheme ≡ true → Around made h → i < made.world.layout.config.seats → is_busy made.world i ≡ true → Keeps false layout made h → tries_right h i (told_in made.world i) ≡ true
step_law layout made h i e a b y g =
    let w : World = made.world in
    let s = seat_of false layout made h i (not_ibr layout.config.scheme e) a y g in
    let o = s.owned in
    let q : is_he (scheme_of (w.seat i).post) ≡ true = ap (λ (table : Layout). is_he table.config.scheme) o.layout ∙ e in
    let x : ℕ → ℕ = λ j. phase_x (w.seat i).phase j (published false h i j) in
    let r : events_tried x (told_in w i) ≡ true =
    step_goes (λ p told. events_tried x told ≡ true) (tried_closed x) (w.seat i).phase (counted (w.seat i).post) (offered w i).desk (finds w i) (turn_tried (published false h i) (since_of false h i) layout i (w.seat i).phase (w.seat i).post (finds w i) q s) in
    events_same x (published false (Turns h i (told_in w i)) i) (told_in w i) (λ j. published_here false layout made i j h a.known b g) r

pub kept : (layout : Layout) → is_he layout.config.scheme ≡ true → Kept (Tries layout)
kept layout e = record {
  begins = λ made h i call a b f m g. record { keeps = begin_kept false layout made h i call f g.keeps; law = g.law };
  steps = λ made h i a b y g. record { keeps = step_kept false layout made h i (not_ibr layout.config.scheme e) a b y g.keeps; law = (step_law layout made h i e a b y g.keeps, g.law) };
}

pub first_tries : (layout : Layout) → is_he layout.config.scheme ≡ true → Tries layout (first_made layout) Blank
first_tries layout e = record { keeps = first_kept false layout (not_ibr layout.config.scheme e) (not_rows layout.config.scheme e); law = tt }

pub tries_count : TriesCount
tries_count layout items d e = let g = history_keeps layout (Tries layout) (kept layout e) d items (first_tries layout e) in g.law
