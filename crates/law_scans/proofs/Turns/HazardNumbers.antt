-- Under hazard pointers the number of a protection is that of the rows that it published, at the very entry that tells it.
use Rattle.std.proofs.Common.{ℕ, ◌≡◌, ◌+◌, Bool, true, false, List, [], ◌∷◌, refl, ap, ◌∙◌, arith}
use Rattle.std.proofs.lemmas.Bool.Decides.{nat_tests}
use Rattle.std.specs.Prelude.{◌==◌, ◌&&◌, ◌||◌, ◌*◌, not, nat_le, if◌then◌else◌}
use Rattle.law_reuse.specs.laws.words.Schemes.{publishes_rows}
use Rattle.law_reuse.proofs.inv.model.words.Schemes.{rows_not_interval}
use Rattle.law_reuse.specs.laws.words.declared.config.Config.{Config}
use Rattle.law_reuse.specs.laws.words.declared.layout.Layout.{Layout}
use Rattle.law_reuse.specs.laws.defs.declared.event.Event.{Event}
use Rattle.law_reuse.specs.laws.defs.declared.event.Event.TheVariants as events
use Rattle.law_reuse.specs.laws.defs.declared.event.Root.{Root}
use Rattle.law_reuse.specs.inv.model.declared.ends.FollowEnd.TheVariants as follow_ends
use Rattle.law_reuse.specs.inv.model.declared.post.Post.{Post}
use Rattle.law_reuse.specs.inv.model.Guards.{guard_at}
use Rattle.law_reuse.specs.inv.model.Machine as machine
use Rattle.law_reuse.specs.inv.model.Memory.{bump}
use Rattle.law_reuse.specs.inv.model.Posts.{counted, with_row}
use Rattle.law_reuse.specs.inv.model.Protect.{held_post, told_held, concluded}
use Rattle.law_reuse.specs.inv.model.Rounds.{scheme_of}
use Rattle.law_reuse.specs.inv.model.World.{World, finds, is_busy, offered, told_in}
use Rattle.law_reuse.specs.inv.model.Calls.{Why, Opens, FollowsHead, ReadGuard, GiveBack, Phase, Idle, Runs, Scans, Works}
use Rattle.law_reuse.specs.inv.model.Phases.{Aim, ProtectAt, Base, Turn, ends}
use Rattle.law_reuse.specs.inv.model.Phases.ProtectAt.{CheckClock, CheckUpper, TakeAnswer, ByHazard}
use Rattle.law_reuse.specs.inv.model.Phases.HazardAt.{FirstLink, CheckLink}
use Rattle.law_reuse.specs.inv.model.Phases.Base.{Protect, Reload}
use Rattle.law_reuse.specs.inv.model.Phases.Ending.{Followed}
use Rattle.law_reuse.proofs.laws.records.defs.Facts.{first_of, rest_of, false_not_true, and_true, same_number, le_of_test}
use Rattle.law_reuse.specs.history.History.{Made}
use Rattle.law_reuse.specs.laws.records.Record.{Past, Test, Each, tells_of}
use Rattle.law_reuse.specs.laws.records.Record.Past.{Then}
use Rattle.law_reuse.specs.laws.records.Turns as schedule
use Rattle.law_reuse.specs.laws.records.Turns.{record_of}
use Rattle.law_reuse.specs.inv.shapes.Seats.{base_fits, protects as is_protecting, kind_of, index_by, root_by}
use Rattle.law_reuse.proofs.inv.ends.Rest.Falling.{fit_rows}
use Rattle.law_reuse.proofs.history.AllOf.{all_of, of_weaker}
use Rattle.law_reuse.proofs.history.MayTell as may
use Rattle.law_reuse.proofs.history.MayTell.{Passes, concluded_told, held_any, is_find, no_find, step_all, stores_index, work_all}
use Rattle.law_reuse.proofs.history.Passes.{First, is_quiet}
use Rattle.law_reuse.proofs.OneStep.Along.{Around}
use Rattle.law_reuse.proofs.ReadGuards.{reads_are}
use Rattle.law_reuse.specs.laws.StateAt.{hazards_by, hazards_of}
use Rattle.law_reuse.specs.laws.StepLaw.{number_loaded}
use Rattle.law_scans.proofs.Turns.Counting.Counting.{Keeps, published, since_of, seat_of}
use Rattle.law_scans.proofs.Turns.Counting.Fits.{reload_paced, since}
use Rattle.law_scans.proofs.Turns.Counting.Passing.{reload_rows}
use Rattle.law_scans.proofs.Turns.Counting.Protects.{Site}
use Rattle.law_scans.proofs.Turns.Counting.Runs.{Stage, Seat, bump_low, site_of, stage_of}
use Rattle.law_scans.proofs.Turns.Finds.{phase_finds, phase_unfound, phase_unindexed, unfound, unfound_passes, unindexed, unindexed_passes}
use Rattle.law_scans.proofs.Turns.TryCounts.{reload_index, task_index}

abbrev pub number_ok : Test
number_ok p i event = number_loaded (λ j. hazards_of i j p) event

unfound_one : (x : ℕ → ℕ) (event : Event) → not (is_find event) ≡ true → number_loaded x event ≡ true
unfound_one x (events.Held index slot steps) h = absurd (cc)
unfound_one x (events.Null index steps) h = absurd (cc)
unfound_one x event h = refl

unfound_loaded : (x : ℕ → ℕ) (told : List Event) → all_of (λ event. not (is_find event)) told ≡ true → all_of (number_loaded x) told ≡ true
unfound_loaded x told h = of_weaker (λ event. not (is_find event)) (number_loaded x) told (unfound_one x) h

quiet_loaded : (x : ℕ → ℕ) (event : Event) → is_quiet event ≡ true → number_loaded x event ≡ true
quiet_loaded x (events.Held index slot steps) h = absurd (cc)
quiet_loaded x (events.Null index steps) h = absurd (cc)
quiet_loaded x event h = refl

loaded_passes : (x : ℕ → ℕ) → Passes (number_loaded x)
loaded_passes x = record { quiet = quiet_loaded x; clears = λ index slot. refl }

-- a link that was found
one_way : (x : ℕ → ℕ) (index n : ℕ) (none : Bool) → (n == 2 * x index + 1) ≡ true → all_of (number_loaded x) (if none then events.Null index n ∷ [] else []) ≡ true
one_way x index n true h = and_true (n == 2 * x index + 1) h
one_way x index n false h = refl

held_loaded : (x : ℕ → ℕ) (index : ℕ) (root : Root) (link n : ℕ) → (index == 1) ≡ false → (n == 2 * x index + 1) ≡ true → all_of (number_loaded x) (told_held index root link n) ≡ true
held_loaded x index root link n i h = held_any (λ told. all_of (number_loaded x) told ≡ true) index root link n refl (and_true (n == 2 * x index + 1) h) (λ slot. and_true (number_loaded x (events.Held index slot n)) (rw i h))

found_loaded : (x : ℕ → ℕ) (buckets : ℕ) (why : Why) (index : ℕ) (root : Root) (link n : ℕ) → is_protecting (kind_of why) ≡ true → index ≡ index_by why → root ≡ root_by buckets why → (n == 2 * x index + 1) ≡ true → all_of (number_loaded x) (told_held index root link n) ≡ true
found_loaded x buckets (Opens task) index root link n p i r h = held_loaded x index root link n (rw i (task_index task)) h
found_loaded x buckets (FollowsHead head tail) index root link n p i r h = rw r (one_way x index n (link == 0) h)
found_loaded x buckets why index root link n p i r h = absurd (cc)

loaded_if : (x : ℕ → ℕ) (c : Bool) (t v : Turn) → all_of (number_loaded x) t.told ≡ true → all_of (number_loaded x) v.told ≡ true → all_of (number_loaded x) (if c then t else v).told ≡ true
loaded_if x true t v a b = a
loaded_if x false t v a b = b

first_number : (steps x : ℕ) → (x == 0 && steps == 0) ≡ true → (steps + 1 == 2 * x + 1) ≡ true
first_number steps x h = grind (arith, nat_tests)

check_number : (steps x : ℕ) → (steps == 2 * x) ≡ true → (steps + 1 == 2 * x + 1) ≡ true
check_number steps x h = grind (arith, nat_tests)

reload_number : (steps x : ℕ) → (steps == 2 * x + 1) ≡ true → (steps + 1 == 2 * x + 2) ≡ true
reload_number steps x h = grind (arith, nat_tests)

protect_loaded : (x u : ℕ → ℕ) (buckets : ℕ) (why : Why) (aim : Aim) (index : ℕ) (root : Root) (steps n count : ℕ) (at : ProtectAt) (post : Post) (found : ℕ) → may.at_finds at ≡ true → publishes_rows (scheme_of post) ≡ true → Site x u buckets why aim index root steps n count at post → all_of (number_loaded x) (machine.protect_turn aim index root n at post found).told ≡ true
protect_loaded x u buckets why aim index root steps n count (ByHazard FirstLink) post found f q s =
    let z : (n == 2 * x index + 1) ≡ true = rw (s.next) (first_number steps (x index) s.paced) in
    loaded_if x (found == 0) (concluded aim index root n found 0 (held_post post index root found) (told_held index root found n)) _
    (rw (concluded_told aim index root n found 0 (held_post post index root found) (told_held index root found n)) (found_loaded x buckets why index root found n s.protects s.place s.of z)) refl
protect_loaded x u buckets why aim index root steps n count (ByHazard (CheckLink link)) post found f q s =
    let z : (n == 2 * x index + 1) ≡ true = rw (s.next) (check_number steps (x index) (rest_of (since steps (x index) (u index)) (steps == 2 * x index) s.paced)) in
    loaded_if x (found == link || found == 0) (concluded aim index root n found 0 (held_post post index root found) (told_held index root found n)) _
    (rw (concluded_told aim index root n found 0 (held_post post index root found) (told_held index root found n)) (found_loaded x buckets why index root found n s.protects s.place s.of z)) refl
protect_loaded x u buckets why aim index root steps n count (CheckClock era tries link) post found f q s = absurd (false_not_true (publishes_rows (scheme_of post)) (fit_rows (scheme_of post) post.layout.config.tries (CheckClock era tries link) s.fits) q)
protect_loaded x u buckets why aim index root steps n count (TakeAnswer link era) post found f q s = absurd (false_not_true (publishes_rows (scheme_of post)) (fit_rows (scheme_of post) post.layout.config.tries (TakeAnswer link era) s.fits) q)
protect_loaded x u buckets why aim index root steps n count (CheckUpper link) post found f q s = absurd (false_not_true (publishes_rows (scheme_of post)) (fit_rows (scheme_of post) post.layout.config.tries (CheckUpper link) s.fits) q)
protect_loaded x u buckets why aim index root steps n count at post found f q s = absurd (cc)

run_loaded : (x u : ℕ → ℕ) (layout : Layout) (why : Why) (base : Base) (post : Post) (found count : ℕ) → publishes_rows (scheme_of post) ≡ true → Stage x u layout why base post found count → all_of (number_loaded x) (machine.after base post found).told ≡ true
run_loaded x u layout why (Protect aim index root made at) post found count q s = by (may.at_finds at) refl
  where
    by : (f : Bool) → may.at_finds at ≡ f → all_of (number_loaded x) (machine.after (Protect aim index root made at) post found).told ≡ true
    by true f = protect_loaded x u layout.config.buckets why aim index root made (bump made) count at post found f q (site_of layout why aim index root made at post found count s)
    by false f = unfound_loaded x (machine.after (Protect aim index root made at) post found).told (no_find (Protect aim index root made at) post found f)
run_loaded x u layout why (Reload parent index slot era made) post found count q s =
    let o : (nat_le made count && reload_paced (scheme_of post) made (x index)) ≡ true = rest_of (since made (x index) (u index)) (nat_le made count && reload_paced (scheme_of post) made (x index)) s.own in
    let f : nat_le made count ≡ true = first_of (nat_le made count) (reload_paced (scheme_of post) made (x index)) o in
    let m : (made == 2 * x index + 1) ≡ true = reload_rows (scheme_of post) made (x index) (rest_of (nat_le made count) (reload_paced (scheme_of post) made (x index)) o) q in
    let b : bump made ≡ made + 1 = bump_low made count (le_of_test made count f) s.low in
    let r = s.run in
    let a = r.shape in
    let i : (index == 1) ≡ true = rw (a.at) (reload_index why r.suited) in
    loaded_if x (found == parent + 1) (ends (with_row post index slot) (events.Held index slot (bump made) ∷ []) (Followed (follow_ends.Followed slot))) (ends post [] (Followed (follow_ends.RootMoved found)))
    (and_true (number_loaded x (events.Held index slot (bump made))) (rw i (rw b (reload_number made (x index) m)))) refl
run_loaded x u layout why base post found count q s = unfound_loaded x (machine.after base post found).told (no_find base post found refl)

phase_loaded : (x u : ℕ → ℕ) (layout : Layout) (i : ℕ) (phase : Phase) (post : Post) (found : ℕ) → publishes_rows (scheme_of post) ≡ true → Seat x u layout i phase post → First (λ p told. all_of (number_loaded x) told ≡ true) phase (counted post) found
phase_loaded x u layout i Idle post found q s = refl
phase_loaded x u layout i (Runs why base) post found q s = run_loaded x u layout why base (counted post) found post.steps q (stage_of x u layout i why base post found s)
phase_loaded x u layout i (Scans later (ReadGuard number)) post found q s = reads_are (λ event. all_of (number_loaded x) (event ∷ []) ≡ true) (publishes_rows (scheme_of post)) (guard_at post.layout.config number) found (λ span. refl) (λ slot. refl)
phase_loaded x u layout i (Scans later (GiveBack place slot)) post found q s = refl
phase_loaded x u layout i (Works work) post found q s = work_all (number_loaded x) (λ index slot. refl) (λ from index slot. refl) (λ seat index era. refl) (λ seat. refl) (λ seat index link. refl) work (counted post)

unfound_each : (i : ℕ) (told : List Event) (p : Past) → all_of unfound told ≡ true → Each number_ok p → Each number_ok (tells_of p i told)
unfound_each i [] p h g = g
unfound_each i (event ∷ told) p h g = unfound_each i told (Then p i event) (rest_of (unfound event) (all_of unfound told) h) (unfound_one (λ j. hazards_of i j p) event (first_of (unfound event) (all_of unfound told) h), g)

one_hazarded : (i j : ℕ) (event : Event) (n : ℕ) → unindexed event ≡ true → hazards_by i j event n ≡ n
one_hazarded i j (events.Hazard guard slot) n h = absurd (cc)
one_hazarded i j event n h = refl

own_hazards : (i j : ℕ) (p : Past) (event : Event) → unindexed event ≡ true → hazards_of i j (Then p i event) ≡ hazards_of i j p
own_hazards i j p event h = rw (same_number i) (one_hazarded i j event (hazards_of i j p) h)

loaded_same : (x y : ℕ → ℕ) (event : Event) → ((j : ℕ) → y j ≡ x j) → number_loaded x event ≡ true → number_loaded y event ≡ true
loaded_same x y (events.Held index slot n) p h = rw (p index) h
loaded_same x y (events.Null index n) p h = rw (p index) h
loaded_same x y event p h = refl

all_same : (x y : ℕ → ℕ) (told : List Event) → ((j : ℕ) → y j ≡ x j) → all_of (number_loaded x) told ≡ true → all_of (number_loaded y) told ≡ true
all_same x y told p h = of_weaker (number_loaded x) (number_loaded y) told (λ event. loaded_same x y event p) h

unindexed_each : (i : ℕ) (told : List Event) (p : Past) → all_of unindexed told ≡ true → all_of (number_loaded (λ j. hazards_of i j p)) told ≡ true → Each number_ok p → Each number_ok (tells_of p i told)
unindexed_each i [] p h t g = g
unindexed_each i (event ∷ told) p h t g =
    let x : ℕ → ℕ = λ j. hazards_of i j p in
    unindexed_each i told (Then p i event) (rest_of (unindexed event) (all_of unindexed told) h)
    (all_same x (λ j. hazards_of i j (Then p i event)) told (λ j. own_hazards i j p event (first_of (unindexed event) (all_of unindexed told) h)) (rest_of (number_loaded x event) (all_of (number_loaded x) told) t))
    (first_of (number_loaded x event) (all_of (number_loaded x) told) t, g)

-- a step that ends a protection stores no index word
find_stores : (c : Config) (base : Base) → publishes_rows c.scheme ≡ true → base_fits c base ≡ true → may.finds base ≡ true → stores_index base ≡ false
find_stores c (Protect aim index root made (CheckClock era tries link)) e f h = refl
find_stores c (Protect aim index root made (CheckUpper link)) e f h = refl
find_stores c (Protect aim index root made (ByHazard FirstLink)) e f h = refl
find_stores c (Protect aim index root made (ByHazard (CheckLink link))) e f h = refl
find_stores c (Protect aim index root made (TakeAnswer link era)) e f h = absurd (false_not_true (publishes_rows c.scheme) (fit_rows c.scheme c.tries (TakeAnswer link era) f) e)
find_stores c (Protect aim index root made at) e f h = absurd (cc)
find_stores c (Reload parent index slot era made) e f h = refl
find_stores c base e f h = absurd (cc)

pub step_numbers : (layout : Layout) (made : Made) (h : schedule.History) (i : ℕ) → publishes_rows layout.config.scheme ≡ true → Around made h → is_busy made.world i ≡ true → Keeps true layout made h → Each number_ok (record_of h) → Each number_ok (tells_of (record_of h) i (told_in made.world i))
step_numbers layout made h i e a y k g = by (phase_finds (made.world.seat i).phase) refl
  where
    by : (f : Bool) → phase_finds (made.world.seat i).phase ≡ f → Each number_ok (tells_of (record_of h) i (told_in made.world i))
    by false f =
        let w : World = made.world in
        unfound_each i (told_in w i) (record_of h) (step_all unfound unfound_passes (w.seat i).phase (counted (w.seat i).post) (offered w i).desk (finds w i) (phase_unfound (w.seat i).phase (counted (w.seat i).post) (finds w i) f)) g
    by true f =
        let w : World = made.world in
        let v = a.known.known in
        let q : publishes_rows w.layout.config.scheme ≡ true = ap (λ (table : Layout). publishes_rows table.config.scheme) k.table ∙ e in
        let t = v.seats.fits i in
        let n : all_of unindexed (told_in w i) ≡ true = step_all unindexed unindexed_passes (w.seat i).phase (counted (w.seat i).post) (offered w i).desk (finds w i) (phase_unindexed w.layout (w.seat i).phase (counted (w.seat i).post) (w.seat i).post (finds w i) (λ base. find_stores w.layout.config base q) t.phase f) in
        let s = seat_of true layout made h i (rows_not_interval layout.config.scheme e) a y k in
        let o = s.owned in
        let r : publishes_rows (scheme_of (w.seat i).post) ≡ true = ap (λ (table : Layout). publishes_rows table.config.scheme) o.layout ∙ e in
        let m : all_of (number_loaded (λ j. hazards_of i j (record_of h))) (told_in w i) ≡ true =
        step_all (number_loaded (λ j. hazards_of i j (record_of h))) (loaded_passes (λ j. hazards_of i j (record_of h))) (w.seat i).phase (counted (w.seat i).post) (offered w i).desk (finds w i) (phase_loaded (published true h i) (since_of true h i) layout i (w.seat i).phase (w.seat i).post (finds w i) r s) in
        unindexed_each i (told_in w i) (record_of h) n m g
