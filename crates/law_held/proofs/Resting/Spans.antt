-- Along each history a seat of 2GE whose round is over has no interval, unless a row stands at an index of it from 2 on.
use Rattle.std.proofs.Common.{ℕ, ◌≡◌, ◌-◌, Bool, true, false, List, length, refl, sym, ap, ◌∙◌, subst, arith}
use Rattle.std.proofs.lemmas.Bool.Decides.{nat_tests}
use Rattle.std.specs.Prelude.{◌==◌, ◌||◌, ◌%◌, not, if◌then◌else◌}
use Rattle.law_scans.specs.inv.model.words.Place.{is_valid}
use Rattle.law_scans.specs.inv.model.words.declared.config.Config.{Config}
use Rattle.law_scans.specs.inv.model.words.declared.config.SchemeKind.{SchemeKind}
use Rattle.law_scans.specs.inv.model.words.declared.layout.Layout.{Layout}
use Rattle.law_scans.specs.inv.model.defs.declared.call.Answer.{Answer}
use Rattle.law_scans.specs.inv.model.defs.declared.call.Call.{Call}
use Rattle.law_scans.specs.inv.model.defs.declared.event.Event.{Event}
use Rattle.law_scans.specs.inv.model.defs.declared.event.Root.{Root}
use Rattle.law_scans.specs.inv.model.defs.declared.event.Root.TheVariants as roots
use Rattle.law_scans.specs.inv.model.declared.ends.FollowEnd.TheVariants as follow_ends
use Rattle.law_scans.specs.inv.model.declared.ends.ProtectEnd.TheVariants as protect_ends
use Rattle.law_scans.specs.inv.model.declared.post.Post.{Post}
use Rattle.law_scans.specs.inv.model.Links.{parent_of}
use Rattle.law_scans.specs.inv.model.Locals.{Local, busy_in, begun_post, turn}
use Rattle.law_scans.specs.inv.model.Machine.{after, begin_turn, protect_turn, retire_turn, move_turn}
use Rattle.law_scans.specs.inv.model.Memory.{bump}
use Rattle.law_scans.specs.inv.model.Posts.{counted, with_row, upper, reserves_helper}
use Rattle.law_scans.specs.inv.model.Protect.{held_post, told_held, concluded, protected}
use Rattle.law_scans.specs.inv.model.Rounds.{scheme_of, index_of}
use Rattle.law_scans.specs.inv.model.SlowPath.{own_request}
use Rattle.law_scans.specs.inv.model.Steps as steps
use Rattle.law_scans.specs.inv.model.World.{World, begin, finds, is_busy, offered, step}
use Rattle.law_scans.specs.inv.model.Phases.{Aim, Alone, Follows, BeginAt, ProtectAt, RetireAt, Base, Ending, Outcome, Goes, Ends, Turn, goes, ends}
use Rattle.law_scans.specs.inv.model.Phases.BeginAt.{LoadLower, PublishSpan}
use Rattle.law_scans.specs.inv.model.Phases.ProtectAt.{CheckClock, CheckOwnClock, AnswerOwn, WithdrawHelper, CheckUpper, ByHazard}
use Rattle.law_scans.specs.inv.model.Phases.RetireAt.{LoadLife, LoadRetire, StoreRetired}
use Rattle.law_scans.specs.inv.model.Phases.Base.{Begin, Protect, Reload, Clear, Finish, Release, GiveUp, Retire, Move}
use Rattle.law_scans.specs.inv.model.Phases.Ending.{Protected, Followed}
use Rattle.law_scans.specs.inv.model.Calls.{Task, Gets, Changes, Holds, Enqueues, Dequeues, AfterScan, Next, Why, Opens, FollowsHead, Fills, ClearsNext, Clears, Finishes, GivesUp, Retires, Tidies, Advances, Releases, LetGo, Phase, Idle, Runs, Scans, Works, CallTurn}
use Rattle.law_scans.proofs.inv.covers.Held.{stepped_post, stepped_phase}
use Rattle.law_scans.specs.inv.model.words.Schemes.{is_ibr, publishes_rows}
use Rattle.law_scans.specs.inv.shapes.Frame.{phase_left}
use Rattle.law_scans.specs.inv.shapes.Slots.{PhaseIn, Slots}
use Rattle.law_scans.proofs.reuse.shapes.Kept.{work_counted}
use Rattle.law_scans.specs.inv.shapes.Seats.{PhaseFits, Seats, ToFinish, ToGiveUp, ToRetire, ToMove, ToRelease, Run, suits, base_fits, protect_fits, task_root, agree}
use Rattle.law_scans.proofs.reuse.shapes.Frame.{seat_stays, begin_stays, begin_begins}
use Rattle.law_scans.specs.inv.history.History.{Item, Made, made_of, world_of}
use Rattle.law_scans.specs.laws.records.Turns as schedule
use Rattle.law_scans.proofs.reuse.OneStep.Along.{Kept, history_keeps}
use Rattle.law_scans.proofs.inv.ends.Rest.Moves.{move_post}
use Rattle.law_scans.specs.inv.history.Heard.{heard_of}
use Rattle.law_held.proofs.Resting.Spent.{Ended, over_why, Spent, Opened, Resumes, Out, resumed_spent, work_spent, scan_spent, first_spent, plain_ended, put_ended}
use Rattle.law_scans.proofs.Turns.Counting.Fits.{is_hold}
use Rattle.law_scans.proofs.inv.ends.Handover.Asks.{run_of}
use Rattle.law_scans.proofs.inv.model.Ranges.{bounds_of}
use Rattle.law_scans.proofs.inv.ends.Rest.Falling.{wfe_plain}
use Rattle.law_scans.proofs.inv.model.Facts.{false_of_not, first_of}
use Rattle.law_scans.specs.inv.model.Phases.HazardAt.{FirstLink, CheckLink}

-- what a row that was found leaves
row_ended : (post : Post) (link : ℕ) (null : Bool) → (null ≡ false → Ended (with_row post 2 (link - 1))) → null ≡ false → Ended (if null then post else with_row post 2 (link - 1))
row_ended post link true h n = absurd (cc)
row_ended post link false h n = h refl

stood_ended : (post : Post) (slot : ℕ) → length post.standing ≡ 8 → Ended (with_row post 2 slot)
stood_ended post slot l = put_ended post 2 slot (omega arith) (omega (l, arith))

bucket_ended : (post : Post) (index bucket link : ℕ) → length post.standing ≡ 8 → index ≡ 2 → (link == 0) ≡ false → Ended (held_post post index (roots.Bucket bucket) link)
bucket_ended post index bucket link l e n = rw e (row_ended post link (link == 0) (λ z. stood_ended post (link - 1) l) n)

hold_ended : (buckets : ℕ) (task : Task) (post : Post) (index : ℕ) (root : Root) (link : ℕ) → length post.standing ≡ 8 → index ≡ index_of task → root ≡ task_root buckets task → (link == 0) ≡ false → is_hold task ≡ true → Ended (held_post post index root link)
hold_ended buckets (Holds key) post index root link l a r n h = rw r (bucket_ended post index (key % buckets) link l a n)
hold_ended buckets (Gets key) post index root link l a r n h = absurd (cc)
hold_ended buckets (Changes kept) post index root link l a r n h = absurd (cc)
hold_ended buckets (Enqueues kept) post index root link l a r n h = absurd (cc)
hold_ended buckets Dequeues post index root link l a r n h = absurd (cc)

-- where a protection has ended
alone_out : (task : Task) (post : Post) (link era : ℕ) (null : Bool) → (null ≡ false → is_hold task ≡ true → Ended post) → Opened task post (Protected (if null then protect_ends.Null else protect_ends.Held (link - 1) era))
alone_out task post link era true h = tt
alone_out task post link era false h = h refl

follow_out : (task : Task) (post : Post) (told : List Event) (base : Base) (null : Bool) → Out (Opens task) (if null then ends post told (Followed follow_ends.NoNext) else goes post told base).post (if null then ends post told (Followed follow_ends.NoNext) else goes post told base).outcome
follow_out task post told base true = tt
follow_out task post told base false = λ o. absurd (cc)

concluded_out : (task : Task) (aim : Aim) (index : ℕ) (root : Root) (n link era : ℕ) (post : Post) (told : List Event) → ((link == 0) ≡ false → is_hold task ≡ true → Ended post) → Out (Opens task) (concluded aim index root n link era post told).post (concluded aim index root n link era post told).outcome
concluded_out task Alone index root n link era post told h = alone_out task post link era (link == 0) h
concluded_out task Follows index root n link era post told h = follow_out task post told (Reload (parent_of root) index (link - 1) era n) (link == 0)

if_out : (why : Why) (c : Bool) (t u : Turn) → Out why t.post t.outcome → Out why u.post u.outcome → Out why (if c then t else u).post (if c then t else u).outcome
if_out why true t u a b = a
if_out why false t u a b = b

-- what is known of a protection that makes a step
record Site (buckets : ℕ) (task : Task) (index : ℕ) (root : Root) (post : Post) : Type 0 where
  long : length post.standing ≡ 8
  at : index ≡ index_of task
  of : root ≡ task_root buckets task

found_out : (buckets : ℕ) (task : Task) (aim : Aim) (index : ℕ) (root : Root) (n link era : ℕ) (post : Post) → Site buckets task index root post → Out (Opens task) (protected aim index root n link era post).post (protected aim index root n link era post).outcome
found_out buckets task aim index root n link era post s = concluded_out task aim index root n link era (held_post post index root link) (told_held index root link n) (λ z h. hold_ended buckets task post index root link s.long s.at s.of z h)

protect_out : (buckets : ℕ) (scheme : SchemeKind) (most : ℕ) (task : Task) (aim : Aim) (index : ℕ) (root : Root) (n : ℕ) (at : ProtectAt) (post : Post) (found : ℕ) → scheme_of post ≡ scheme → protect_fits scheme most at ≡ true → Site buckets task index root post
    → Out (Opens task) (protect_turn aim index root n at post found).post (protect_turn aim index root n at post found).outcome
protect_out buckets scheme most task aim index root n (CheckClock era tries link) post found e f s = if_out (Opens task) (found == era) _ _ (found_out buckets task aim index root n link era post s) (λ o. absurd (cc))
protect_out buckets scheme most task aim index root n (CheckOwnClock first era last link) post found e f s = if_out (Opens task) (found == era) _ _ (λ o. absurd (cc)) (λ o. absurd (cc))
protect_out buckets scheme most task aim index root n (AnswerOwn first era link) post found e f s = if_out (Opens task) (found == own_request post index root) _ _ (λ o. absurd (cc)) (λ o. absurd (cc))
protect_out buckets scheme most task aim index root n (WithdrawHelper link era) post found e f s =
    concluded_out task aim index root n link era post (reserves_helper post 0) (λ z h. plain_ended post (ap is_ibr e ∙ wfe_plain scheme f))
protect_out buckets scheme most task aim index root n (CheckUpper link) post found e f s = if_out (Opens task) (found == upper post.span) _ _ (found_out buckets task aim index root n link found post s) (λ o. absurd (cc))
protect_out buckets scheme most task aim index root n (ByHazard FirstLink) post found e f s = if_out (Opens task) (found == 0) _ _ (found_out buckets task aim index root n found 0 post s) (λ o. absurd (cc))
protect_out buckets scheme most task aim index root n (ByHazard (CheckLink link)) post found e f s = if_out (Opens task) (found == link || found == 0) _ _ (found_out buckets task aim index root n found 0 post s) (λ o. absurd (cc))
protect_out buckets scheme most task aim index root n at post found e f s = λ o. absurd (cc)

-- each machine, by what comes after it
begin_out : (task : Task) (at : BeginAt) (post : Post) (found : ℕ) → Out (Opens task) (begin_turn at post found).post (begin_turn at post found).outcome
begin_out task LoadLower post found = λ o. absurd (cc)
begin_out task (PublishSpan era) post found = tt

opens_out : (layout : Layout) (task : Task) (base : Base) (last post : Post) (found : ℕ) → Run layout (Opens task) base last → post.layout ≡ layout → length post.standing ≡ 8 → Out (Opens task) (after base post found).post (after base post found).outcome
opens_out layout task (Begin at) last post found r t l = begin_out task at post found
opens_out layout task (Protect aim index root made at) last post found r t l =
    protect_out layout.config.buckets layout.config.scheme layout.config.tries task aim index root (bump made) at post found (ap (λ (x : Layout). x.config.scheme) t) r.fits (record { long = l; at = r.shape.at; of = r.shape.of })
opens_out layout task base last post found r t l = let s = r.suited in absurd (cc)

inner_out : (why : Why) (post : Post) (outcome : Outcome) → over_why why ≡ false → ((ending : Ending) → Resumes why post ending) → Out why post outcome
inner_out why post (Goes base) e h = λ o. absurd (cc)
inner_out why post (Ends ending) e h = h ending

outer_out : (why : Why) (post : Post) (outcome : Outcome) → Ended post → ((ending : Ending) → Ended post → Resumes why post ending) → Out why post outcome
outer_out why post (Goes base) e h = λ o. e
outer_out why post (Ends ending) e h = h ending e

finishes_out : (task : Task) (next : Next) (base : Base) (post : Post) (found : ℕ) → suits base ToFinish ≡ true → Out (Finishes task next) (after base post found).post (after base post found).outcome
finishes_out task next Finish post found s = λ b n. refl
finishes_out task next base post found s = absurd (cc)

gives_up_out : (answer : Answer) (base : Base) (post : Post) (found : ℕ) → suits base ToGiveUp ≡ true → Ended post → Out (GivesUp answer) (after base post found).post (after base post found).outcome
gives_up_out answer (GiveUp slot) post found s h = h
gives_up_out answer base post found s h = absurd (cc)

retire_out : (answer : Answer) (at : RetireAt) (post : Post) (found : ℕ) → Ended post → Out (Retires answer) (retire_turn at post found).post (retire_turn at post found).outcome
retire_out answer (LoadLife slot) post found h = λ o. h
retire_out answer (LoadRetire slot birth) post found h = λ o. h
retire_out answer (StoreRetired slot birth retire) post found h = h

retires_out : (answer : Answer) (base : Base) (post : Post) (found : ℕ) → suits base ToRetire ≡ true → Ended post → Out (Retires answer) (after base post found).post (after base post found).outcome
retires_out answer (Retire at) post found s h = retire_out answer at post found h
retires_out answer base post found s h = absurd (cc)

tidies_out : (later : AfterScan) (base : Base) (post : Post) (found : ℕ) → suits base ToMove ≡ true → Ended post → Out (Tidies later) (after base post found).post (after base post found).outcome
tidies_out later (Move at) post found s h = outer_out (Tidies later) (move_turn at post found).post (move_turn at post found).outcome (subst Ended (sym (move_post at post found)) h) (λ e g. g)
tidies_out later base post found s h = absurd (cc)

advances_out : (base : Base) (post : Post) (found : ℕ) → suits base ToMove ≡ true → Ended post → Out Advances (after base post found).post (after base post found).outcome
advances_out (Move at) post found s h = outer_out Advances (move_turn at post found).post (move_turn at post found).outcome (subst Ended (sym (move_post at post found)) h) (λ e g. g)
advances_out base post found s h = absurd (cc)

releases_out : (config : Config) (let_go : LetGo) (base : Base) (post : Post) (found : ℕ) → suits base ToRelease ≡ true → base_fits config base ≡ true → scheme_of post ≡ config.scheme → Out (Releases let_go) (after base post found).post (after base post found).outcome
releases_out config let_go (Clear rows index) post found s f e = plain_ended (after (Clear rows index) post found).post (ap is_ibr e ∙ false_of_not (is_ibr config.scheme) (first_of (not (is_ibr config.scheme)) (agree rows (publishes_rows config.scheme)) f))
releases_out config let_go (Release index) post found s f e = λ b n. refl
releases_out config let_go base post found s f e = absurd (cc)

run_out : (layout : Layout) (why : Why) (base : Base) (last post : Post) (found : ℕ) → Run layout why base last → post.layout ≡ layout → length post.standing ≡ 8 → (over_why why ≡ true → Ended post) → Out why (after base post found).post (after base post found).outcome
run_out layout (Opens task) base last post found r t l h = opens_out layout task base last post found r t l
run_out layout (FollowsHead head tail) base last post found r t l h = inner_out (FollowsHead head tail) (after base post found).post (after base post found).outcome refl (λ e. tt)
run_out layout (Fills task) base last post found r t l h = inner_out (Fills task) (after base post found).post (after base post found).outcome refl (λ e. tt)
run_out layout (ClearsNext next) base last post found r t l h = inner_out (ClearsNext next) (after base post found).post (after base post found).outcome refl (λ e. tt)
run_out layout (Clears task next) base last post found r t l h = inner_out (Clears task next) (after base post found).post (after base post found).outcome refl (λ e. tt)
run_out layout (Finishes task next) base last post found r t l h = finishes_out task next base post found r.suited
run_out layout (GivesUp answer) base last post found r t l h = gives_up_out answer base post found r.suited (h refl)
run_out layout (Retires answer) base last post found r t l h = retires_out answer base post found r.suited (h refl)
run_out layout (Tidies later) base last post found r t l h = tidies_out later base post found r.suited (h refl)
run_out layout Advances base last post found r t l h = advances_out base post found r.suited (h refl)
run_out layout (Releases let_go) base last post found r t l h = releases_out layout.config let_go base post found r.suited r.fits (ap (λ (x : Layout). x.config.scheme) t)

-- a step
turn_out : (w : World) (i : ℕ) (phase : Phase) → (w.seat i).phase ≡ phase → is_valid w.layout ≡ true → Seats w → Slots w → Spent (w.seat i).post phase → Spent (steps.phase_turn phase (counted (w.seat i).post) (offered w i).desk (finds w i)).post (phase_left (steps.phase_turn phase (counted (w.seat i).post) (offered w i).desk (finds w i)).outcome)
turn_out w i Idle e d s l h = h
turn_out w i (Runs why base) e d s l h =
    let t : Turn = after base (counted (w.seat i).post) (finds w i) in
    let f = (s.fits i).post in
    resumed_spent why (offered w i).desk t.post t.told t.outcome (run_out w.layout why base (w.seat i).post (counted (w.seat i).post) (finds w i) (run_of w i why base s e) f.layout f.standing h)
turn_out w i (Scans later at) e d s l h = scan_spent later at (counted (w.seat i).post) (offered w i).desk (finds w i) (h refl)
turn_out w i (Works work) e d s l h =
    let f = s.fits i in
    let m = (bounds_of w.layout d).indexes in
    work_spent w.layout.config work (counted (w.seat i).post) (offered w i).desk (finds w i)
    (work_counted work (w.seat i).post (subst (PhaseFits w.layout (w.seat i).post) e f.phase)) (subst (PhaseIn w.layout (w.seat i).desk) e (l.seats i).phase) (omega (m.1, f.post.standing, arith)) h

abbrev pub SpentIn : World → ℕ → Type 0
SpentIn w k = Spent (w.seat k).post (w.seat k).phase

step_own : (w : World) (i : ℕ) → is_valid w.layout ≡ true → Seats w → Slots w → SpentIn w i → SpentIn (step w i) i
step_own w i d s l h =
    let t : CallTurn = turn (offered w i) (finds w i) in
    let q : Spent t.post (phase_left t.outcome) = turn_out w i (w.seat i).phase refl d s l h in
    subst (λ (p : Post). Spent p ((step w i).seat i).phase) (sym (stepped_post w i))
    (subst (λ (p : Phase). Spent t.post p) (sym (stepped_phase w i)) q)

step_spent : (w : World) (i k : ℕ) (same : Bool) → (k == i) ≡ same → is_valid w.layout ≡ true → Seats w → Slots w → ((m : ℕ) → SpentIn w m) → SpentIn (step w i) k
step_spent w i k true e d s l h =
    let one : k ≡ i = grind (arith, nat_tests) in
    subst (λ (m : ℕ). SpentIn (step w i) m) (sym one) (step_own w i d s l (h i))
step_spent w i k false e d s l h = subst (λ (l : Local). Spent l.post l.phase) (sym (seat_stays w i k e)) (h k)

idle_ended : (phase : Phase) (post : Post) → busy_in phase ≡ false → Spent post phase → Ended post
idle_ended Idle post b h = h refl
idle_ended (Runs why base) post b h = absurd (cc)
idle_ended (Scans later at) post b h = absurd (cc)
idle_ended (Works work) post b h = absurd (cc)

begin_spent : (w : World) (i k : ℕ) (call : Call) (same : Bool) → (k == i) ≡ same → is_busy w i ≡ false → ((m : ℕ) → SpentIn w m) → SpentIn (begin w i call) k
begin_spent w i k call true e b h =
    let one : k ≡ i = grind (arith, nat_tests) in
    let q : Spent (begun_post (w.seat i).post) (steps.first_phase call (begun_post (w.seat i).post)) = first_spent call (begun_post (w.seat i).post) (idle_ended (w.seat i).phase (w.seat i).post b (h i)) in
    subst (λ (m : ℕ). SpentIn (begin w i call) m) (sym one) (subst (λ (l : Local). Spent l.post l.phase) (sym (begin_begins w i call)) q)
begin_spent w i k call false e b h = subst (λ (l : Local). Spent l.post l.phase) (sym (begin_stays w i k call e)) (h k)

record SpentAll (made : Made) (h : schedule.History) : Type 0 where
  seats : (k : ℕ) → SpentIn made.world k

kept : Kept SpentAll
kept = record {
  begins = λ made h i call a b f m g. record { seats = λ k. begin_spent made.world i k call (k == i) refl f g.seats };
  steps = λ made h i a b y g. record { seats = λ k. step_spent made.world i k (k == i) refl a.known.known.valid a.known.known.seats a.known.known.slots g.seats };
}

pub spent_of : (layout : Layout) (items : List Item) (k : ℕ) → is_valid layout ≡ true → SpentIn (world_of layout items) k
spent_of layout items k d = let g : SpentAll (made_of layout items) (heard_of layout items) = history_keeps layout SpentAll kept d items (record { seats = λ m o b n. refl }) in g.seats k
