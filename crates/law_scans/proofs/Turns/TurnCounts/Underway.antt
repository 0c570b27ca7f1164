-- Along a history each protection ends in time.
use Rattle.std.proofs.Common.{ℕ, ◌≡◌, ◌≤◌, ◌<◌, ◌+◌, Bool, true, false, List, refl, sym, ap, ◌∙◌, subst, arith}
use Rattle.std.proofs.lemmas.Bool.Decides.{nat_tests}
use Rattle.std.specs.Prelude.{◌==◌, ◌*◌, nat_le, if◌then◌else◌}
use Rattle.law_reuse.specs.laws.words.declared.config.Config.{Config}
use Rattle.law_reuse.specs.laws.words.declared.layout.Layout.{Layout}
use Rattle.law_reuse.specs.laws.defs.declared.call.Call.{Call}
use Rattle.law_reuse.specs.laws.defs.declared.event.Event.{Event}
use Rattle.law_reuse.specs.inv.model.Locals.{Local, busy_in, begun_post}
use Rattle.law_reuse.specs.inv.model.Machine as machine
use Rattle.law_reuse.specs.inv.model.Posts.{counted}
use Rattle.law_reuse.specs.inv.model.Steps as steps
use Rattle.law_reuse.specs.inv.model.World.{World, begin, step, finds, is_busy, told_in}
use Rattle.law_reuse.specs.inv.model.Phases.{Base, Turn}
use Rattle.law_reuse.specs.inv.model.Phases.Base.{Protect, Reload}
use Rattle.law_reuse.specs.inv.model.Calls.{Why, Opens, FollowsHead, Fills, ClearsNext, Clears, Finishes, GivesUp, Retires, Tidies, Advances, Releases, Phase, Idle, Runs, Scans, Works}
use Rattle.law_reuse.proofs.laws.records.defs.Facts.{zero_of_test, le_test}
use Rattle.law_reuse.specs.laws.words.Schemes.{is_ibr, is_wfe, publishes_rows}
use Rattle.law_reuse.proofs.inv.model.words.Schemes.{helps_not_rows}
use Rattle.law_reuse.specs.inv.shapes.Frame.{Moves}
use Rattle.law_reuse.specs.inv.shapes.Seats.{PostFits, PhaseFits, Run, kind_of, suits, index_by}
use Rattle.law_reuse.proofs.shapes.Frame.{seat_stays, begin_stays, begin_begins}
use Rattle.law_reuse.proofs.shapes.Inside.{shape_moves}
use Rattle.law_reuse.proofs.shapes.Kept.{begun_fits, counted_fits, run_counted}
use Rattle.law_reuse.specs.laws.records.Record.{tells_of}
use Rattle.law_reuse.specs.laws.records.Turns as schedule
use Rattle.law_reuse.specs.laws.records.Turns.{record_of, EachTurn}
use Rattle.law_reuse.specs.laws.records.Turns.History.{Blank, Starts, Turns}
use Rattle.law_reuse.specs.history.History.{Begins, Steps, Made, done, first_made}
use Rattle.law_reuse.specs.inv.Inv.{Inv}
use Rattle.law_reuse.specs.laws.HistoryTurns.{turns_since}
use Rattle.law_reuse.proofs.OneStep.Along.{Around, Kept, history_keeps}
use Rattle.law_scans.proofs.Turns.Counting.Counting as counting
use Rattle.law_scans.proofs.Turns.Counting.Counting.{published, since_of, turned_here}
use Rattle.law_scans.proofs.Turns.Counting.Fits.{own, base_own}
use Rattle.law_scans.proofs.Turns.Counting.Passing.{turned}
use Rattle.law_reuse.specs.laws.HistorySteps.{due_of, under_way, lasts_right}
use Rattle.law_reuse.specs.laws.StateAt.{tried_of, last_of}
use Rattle.law_scans.specs.Turns.Records.{ProtectionsLast}
use Rattle.law_scans.proofs.Turns.Withdrawals.Due as due
use Rattle.law_scans.proofs.Turns.Withdrawals.Leaving.{Left, stepped_leads, first_new}
use Rattle.law_scans.proofs.Turns.TurnCounts.Trying.{tried_along, last_along, work_zero}
use Rattle.law_scans.proofs.Turns.TurnCounts.Tried.{why_tried, phase_tried, Stage, is_follow, run_made}
use Rattle.law_scans.proofs.Turns.TurnCounts.Lasting.{own_told, told_comes, tried_tells, last_tells, tried_stays, last_stays, base_apart, base_era, protect_turns, reload_turns, InBound, bound, phase_turns, new_tried, out_tried}
use Rattle.law_reuse.proofs.inv.ends.Rest.Falling.{wfe_plain}

-- along a history
pub record Lasts (layout : Layout) (made : Made) (h : schedule.History) : Type 0 where
  pub counts : counting.Keeps false layout made h
  pub owes : due.Keeps made h
  pub tried : (k j : ℕ) → phase_tried made.world.layout.config (turns_since k j h) (made.world.seat k).phase j (tried_of k j (record_of h)) (last_of k (record_of h)) ≡ true
  pub law : (j : ℕ) → EachTurn (lasts_right layout.config.tries j) h

-- a follow is at index 1
follow_index : (why : Why) → is_follow why ≡ true → index_by why ≡ 1
follow_index (FollowsHead head tail) h = refl
follow_index why h = absurd (cc)

abbrev is_path : Base → Bool
is_path (Protect aim index root steps at) = true
is_path (Reload parent index slot era steps) = true
is_path base = false

follow_path : (why : Why) (base : Base) → is_follow why ≡ true → suits base (kind_of why) ≡ true → is_path base ≡ true
follow_path (FollowsHead head tail) (Protect aim index root steps at) f h = refl
follow_path (FollowsHead head tail) (Reload parent index slot era steps) f h = refl
follow_path (FollowsHead head tail) base f h = absurd (cc)
follow_path (Opens task) base f h = absurd (cc)
follow_path (Fills task) base f h = absurd (cc)
follow_path (ClearsNext next) base f h = absurd (cc)
follow_path (Clears task next) base f h = absurd (cc)
follow_path (Finishes task next) base f h = absurd (cc)
follow_path (GivesUp answer) base f h = absurd (cc)
follow_path (Retires answer) base f h = absurd (cc)
follow_path (Tidies later) base f h = absurd (cc)
follow_path Advances base f h = absurd (cc)
follow_path (Releases let_go) base f h = absurd (cc)

follow_turns : (w : World) (i j : ℕ) (x u : ℕ → ℕ) (why : Why) (base : Base) → Inv w → is_wfe w.layout.config.scheme ≡ true → is_ibr w.layout.config.scheme ≡ false → (w.seat i).phase ≡ Runs why base → base_own x u (w.seat i).post base ≡ true → Run w.layout why base (w.seat i).post → is_path base ≡ true → is_follow why ≡ true → j ≡ 1 → turned (x j) (u j) + 1 ≤ 3 * w.layout.config.tries + 15
follow_turns w i j x u why (Protect aim index root made at) a f n e o r p g one =
    let s = r.shape in
    let q : index ≡ j = s.at ∙ follow_index why g ∙ sym one in
    let b = protect_turns w i x u why aim index root made at a f n e o in
    subst (λ (m : ℕ). turned (x m) (u m) + 1 ≤ 3 * w.layout.config.tries + 15) q (omega (b, arith))
follow_turns w i j x u why (Reload parent index slot era made) a f n e o r p g one =
    let s = r.shape in
    let q : index ≡ j = s.at ∙ follow_index why g ∙ sym one in
    subst (λ (m : ℕ). turned (x m) (u m) + 1 ≤ 3 * w.layout.config.tries + 15) q (reload_turns w i x u why parent index slot era made a f e o)
follow_turns w i j x u why base a f n e o r p g one = absurd (cc)

-- the seat that steps
stage_of : (w : World) (i j times last u : ℕ) (a : Inv w) (why : Why) (base : Base) → i < w.layout.config.seats → is_ibr w.layout.config.scheme ≡ false → publishes_rows w.layout.config.scheme ≡ false → (w.seat i).phase ≡ Runs why base → why_tried w.layout.config u why base j times last ≡ true → Stage w.layout.config i j times last u w.layout why base (counted (w.seat i).post) (finds w i)
stage_of w i j times last u a why base b n z e t =
    let k = a.known in
    let f = k.seats.fits i in
    let p = f.post in
    let r : Run w.layout why base (w.seat i).post = subst (PhaseFits w.layout (w.seat i).post) e f.phase in
    let run : Run w.layout why base (counted (w.seat i).post) = run_counted w.layout why base (w.seat i).post r in
    record {
      seat = p.seat;
      table = p.layout;
      config = refl;
      plain = n;
      eras = z;
      run = run;
      next = subst (λ (m : ℕ). Moves (PostFits w.layout m) (PhaseFits w.layout) why (machine.after base (counted (w.seat i).post) (finds w i))) (sym p.seat) (shape_moves w.layout i k.valid why base (counted (w.seat i).post) (finds w i) (counted_fits w.layout i (w.seat i).post p) run);
      era = base_era w i why base k.eras e;
      apart = base_apart w i a why base b e;
      right = t;
    }

phase_next : (w : World) (i j times last : ℕ) (x u : ℕ → ℕ) (a : Inv w) (phase : Phase) (next : Phase) → i < w.layout.config.seats → is_wfe w.layout.config.scheme ≡ true → is_ibr w.layout.config.scheme ≡ false → (w.seat i).phase ≡ phase → own x u (w.seat i).post phase ≡ true → phase_tried w.layout.config (u j) phase j times last ≡ true → Left false phase (counted (w.seat i).post) (finds w i) next
    → phase_tried w.layout.config (turned (x j) (u j)) next j (tried_along i j (own_told phase (counted (w.seat i).post) (finds w i)) times) (last_along (own_told phase (counted (w.seat i).post) (finds w i)) last) ≡ true
phase_next w i j times last x u a Idle next b f n e o t l = new_tried w.layout.config (turned (x j) (u j)) next j times last l (zero_of_test times t)
phase_next w i j times last x u a (Runs why base) next b f n e o t l =
    let s = stage_of w i j times last (u j) a why base b n (helps_not_rows w.layout.config.scheme f) e t in
    let r : Run w.layout why base (w.seat i).post = subst (PhaseFits w.layout (w.seat i).post) e (a.known.seats.fits i).phase in
    let m : Turn = machine.after base (counted (w.seat i).post) (finds w i) in
    let q = s.next in
    out_tried w.layout.config w.layout (turned (x j) (u j)) why m.post m.outcome next j (tried_along i j m.told times) (last_along m.told last) (run_made w.layout.config i j times last (u j) w.layout why base (counted (w.seat i).post) (finds w i) s) l q.phase
    (λ g one. follow_turns w i j x u why base a f n e o r (follow_path why base g r.suited) g one)
phase_next w i j times last x u a (Scans later at) next b f n e o t l = new_tried w.layout.config (turned (x j) (u j)) next j times last l (zero_of_test times t)
phase_next w i j times last x u a (Works work) next b f n e o t l = new_tried w.layout.config (turned (x j) (u j)) next j _ _ l (work_zero i j work (counted (w.seat i).post) times (zero_of_test times t))

turns_there : (k i j : ℕ) (h : schedule.History) (told : List Event) → (k == i) ≡ false → turns_since k j (Turns h i told) ≡ turns_since k j h
turns_there k i j h told e = rw e refl

step_own : (layout : Layout) (made : Made) (h : schedule.History) (i j : ℕ) → is_wfe made.world.layout.config.scheme ≡ true → Around made h → i < made.world.layout.config.seats → Lasts layout made h
    → phase_tried made.world.layout.config (turns_since i j (Turns h i (told_in made.world i))) ((step made.world i).seat i).phase j (tried_of i j (tells_of (record_of h) i (told_in made.world i))) (last_of i (tells_of (record_of h) i (told_in made.world i))) ≡ true
step_own layout made h i j f a b g =
    let w : World = made.world in
    let v : Inv w = a.known in
    let k = v.known in
    let n : is_ibr w.layout.config.scheme ≡ false = wfe_plain w.layout.config.scheme f in
    let t : ℕ = tried_of i j (record_of h) in
    let l : ℕ = last_of i (record_of h) in
    let phase : Phase = (w.seat i).phase in
    let next : Phase = ((step w i).seat i).phase in
    let own_events : List Event = own_told phase (counted (w.seat i).post) (finds w i) in
    let c = told_comes w i j t l in
    let led : Left false phase (counted (w.seat i).post) (finds w i) next = subst (λ (interval : Bool). Left interval phase (counted (w.seat i).post) (finds w i) next) n (stepped_leads w i k.valid k.seats) in
    let s = g.counts.seats i in
    let r = phase_next w i j t l (published false h i) (since_of false h i) v phase next b f n refl s.own (g.tried i j) led in
    let y : tried_of i j (tells_of (record_of h) i (told_in w i)) ≡ tried_along i j own_events t = tried_tells i j (told_in w i) (record_of h) ∙ c.tried in
    let z : last_of i (tells_of (record_of h) i (told_in w i)) ≡ last_along own_events l = last_tells i (told_in w i) (record_of h) ∙ c.found in
    rw y (rw z (rw (turned_here false i j h (told_in w i)) r))

step_tried : (layout : Layout) (made : Made) (h : schedule.History) (i k j : ℕ) (same : Bool) → (k == i) ≡ same → is_wfe made.world.layout.config.scheme ≡ true → Around made h → i < made.world.layout.config.seats → Lasts layout made h
    → phase_tried made.world.layout.config (turns_since k j (Turns h i (told_in made.world i))) ((step made.world i).seat k).phase j (tried_of k j (tells_of (record_of h) i (told_in made.world i))) (last_of k (tells_of (record_of h) i (told_in made.world i))) ≡ true
step_tried layout made h i k j true e f a b g =
    let one : k ≡ i = grind (arith, nat_tests) in
    let w : World = made.world in
    subst (λ (m : ℕ). phase_tried w.layout.config (turns_since m j (Turns h i (told_in w i))) ((step w i).seat m).phase j (tried_of m j (tells_of (record_of h) i (told_in w i))) (last_of m (tells_of (record_of h) i (told_in w i))) ≡ true) (sym one) (step_own layout made h i j f a b g)
step_tried layout made h i k j false e f a b g =
    let w : World = made.world in
    let q : ((step w i).seat k).phase ≡ (w.seat k).phase = ap (λ (l : Local). l.phase) (seat_stays w i k e) in
    rw q (rw (tried_stays k i j (told_in w i) (record_of h) e) (rw (last_stays k i (told_in w i) (record_of h) e) (rw (turns_there k i j h (told_in w i) e) (g.tried k j))))

not_under : (b c : Bool) → (b ≡ true → c ≡ true) → (if b then c else true) ≡ true
not_under true c f = f refl
not_under false c f = refl

step_law : (layout : Layout) (made : Made) (h : schedule.History) (i j : ℕ) → is_wfe made.world.layout.config.scheme ≡ true → Around made h → Lasts layout made h → lasts_right layout.config.tries j h i (told_in made.world i) ≡ true
step_law layout made h i j f a g =
    let w : World = made.world in
    let v : Inv w = a.known in
    let n : is_ibr w.layout.config.scheme ≡ false = wfe_plain w.layout.config.scheme f in
    let s = g.counts.seats i in
    let o = g.owes.seats i in
    let c : w.layout.config.tries ≡ layout.config.tries = ap (λ (table : Layout). table.config.tries) g.counts.table in
    not_under (under_way i j h) _ (λ y.
    let r : InBound w i j (published false h i) (since_of false h i) = phase_turns w i j (published false h i) (since_of false h i) (tried_of i j (record_of h)) (due_of i h) (last_of i (record_of h)) (w.seat i).phase v f n refl s.own (g.tried i j) o.due y in
    let t : turns_since i j (Turns h i (told_in w i)) + 1 ≤ bound w.layout.config.tries j = subst (λ (m : ℕ). m + 1 ≤ bound w.layout.config.tries j) (sym (turned_here false i j h (told_in w i))) r in
    subst (λ (tries : ℕ). nat_le (turns_since i j (Turns h i (told_in w i)) + 1) (bound tries j) ≡ true) c (le_test (turns_since i j (Turns h i (told_in w i)) + 1) (bound w.layout.config.tries j) t))

wfe_of : (layout : Layout) (made : Made) (h : schedule.History) → is_wfe layout.config.scheme ≡ true → Lasts layout made h → is_wfe made.world.layout.config.scheme ≡ true
wfe_of layout made h f g = ap (λ (table : Layout). is_wfe table.config.scheme) g.counts.table ∙ f

pub step_kept : (layout : Layout) (made : Made) (h : schedule.History) (i : ℕ) → is_wfe layout.config.scheme ≡ true → Around made h → i < made.world.layout.config.seats → is_busy made.world i ≡ true → Lasts layout made h → Lasts layout (done made (Steps i)) (Turns h i (told_in made.world i))
step_kept layout made h i f a b y g =
    let q = wfe_of layout made h f g in
    record {
      counts = counting.step_kept false layout made h i (wfe_plain layout.config.scheme f) a b y g.counts;
      owes = due.step_kept made h i a g.owes;
      tried = λ k j. step_tried layout made h i k j (k == i) refl q a b g;
      law = λ j. (step_law layout made h i j q a g, g.law j);
    }

-- a call begins
tried_same : (h : schedule.History) (i k j : ℕ) (call : Call) → tried_of k j (record_of (Starts h i call)) ≡ tried_of k j (record_of h)
tried_same h i k j call = by (k == i)
  where
    by : (same : Bool) → (if same then tried_of k j (record_of h) else tried_of k j (record_of h)) ≡ tried_of k j (record_of h)
    by true = refl
    by false = refl

last_same : (h : schedule.History) (i k : ℕ) (call : Call) → last_of k (record_of (Starts h i call)) ≡ last_of k (record_of h)
last_same h i k call = by (k == i)
  where
    by : (same : Bool) → (if same then last_of k (record_of h) else last_of k (record_of h)) ≡ last_of k (record_of h)
    by true = refl
    by false = refl

idle_zero : (c : Config) (u : ℕ) (phase : Phase) (j times last : ℕ) → busy_in phase ≡ false → phase_tried c u phase j times last ≡ true → times ≡ 0
idle_zero c u Idle j times last b t = zero_of_test times t
idle_zero c u (Runs why base) j times last b t = absurd (cc)
idle_zero c u (Scans later at) j times last b t = absurd (cc)
idle_zero c u (Works work) j times last b t = absurd (cc)

begin_tried : (layout : Layout) (made : Made) (h : schedule.History) (i k j : ℕ) (call : Call) (same : Bool) → (k == i) ≡ same → Around made h → is_busy made.world i ≡ false → Lasts layout made h
    → phase_tried made.world.layout.config (turns_since k j h) ((begin made.world i call).seat k).phase j (tried_of k j (record_of (Starts h i call))) (last_of k (record_of (Starts h i call))) ≡ true
begin_tried layout made h i k j call true e a y g =
    let one : k ≡ i = grind (arith, nat_tests) in
    let w : World = made.world in
    let n = a.known.known in
    let f = n.seats.fits i in
    let z : tried_of i j (record_of h) ≡ 0 = idle_zero w.layout.config (turns_since i j h) (w.seat i).phase j (tried_of i j (record_of h)) (last_of i (record_of h)) y (g.tried i j) in
    let p : ((begin w i call).seat i).phase ≡ steps.first_phase call (begun_post (w.seat i).post) = ap (λ (l : Local). l.phase) (begin_begins w i call) in
    let r : phase_tried w.layout.config (turns_since i j h) (steps.first_phase call (begun_post (w.seat i).post)) j (tried_of i j (record_of h)) (last_of i (record_of h)) ≡ true =
    new_tried w.layout.config (turns_since i j h) (steps.first_phase call (begun_post (w.seat i).post)) j (tried_of i j (record_of h)) (last_of i (record_of h)) (first_new w.layout i n.valid call (begun_post (w.seat i).post) (begun_fits w.layout i (w.seat i).post f.post)) z in
    subst (λ (m : ℕ). phase_tried w.layout.config (turns_since m j h) ((begin w i call).seat m).phase j (tried_of m j (record_of (Starts h i call))) (last_of m (record_of (Starts h i call))) ≡ true) (sym one)
    (rw p (rw (tried_same h i i j call) (rw (last_same h i i call) r)))
begin_tried layout made h i k j call false e a y g =
    let w : World = made.world in
    let q : ((begin w i call).seat k).phase ≡ (w.seat k).phase = ap (λ (l : Local). l.phase) (begin_stays w i k call e) in
    rw q (rw (tried_same h i k j call) (rw (last_same h i k call) (g.tried k j)))

pub begin_kept : (layout : Layout) (made : Made) (h : schedule.History) (i : ℕ) (call : Call) → Around made h → is_busy made.world i ≡ false → Lasts layout made h → Lasts layout (done made (Begins i call)) (Starts h i call)
begin_kept layout made h i call a y g = record {
  counts = counting.begin_kept false layout made h i call y g.counts;
  owes = due.begin_kept made h i call a y g.owes;
  tried = λ k j. begin_tried layout made h i k j call (k == i) refl a y g;
  law = g.law;
}

pub first_kept : (layout : Layout) → is_wfe layout.config.scheme ≡ true → Lasts layout (first_made layout) Blank
first_kept layout f = record { counts = counting.first_kept false layout (wfe_plain layout.config.scheme f) (helps_not_rows layout.config.scheme f); owes = due.first_kept layout; tried = λ k j. refl; law = λ j. tt }

kept : (layout : Layout) → is_wfe layout.config.scheme ≡ true → Kept (Lasts layout)
kept layout f = record { begins = λ made h i call a b y m g. begin_kept layout made h i call a y g; steps = λ made h i a b y g. step_kept layout made h i f a b y g }

pub protections_last : ProtectionsLast
protections_last layout items j d f = let g = history_keeps layout (Lasts layout) (kept layout f) d items (first_kept layout f) in g.law j
