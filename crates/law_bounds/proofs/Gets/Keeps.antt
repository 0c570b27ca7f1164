-- Along a history gets and holds take no more steps than the moves of the clock, or the changes of their root, leave them.
use Rattle.std.proofs.Common.{ℕ, ◌≡◌, ◌≤◌, ◌+◌, ◌*◌, Bool, true, false, List, [], ◌∷◌, Option, Some, ◌⊎◌, inl, inr, refl, sym, ap, ◌∙◌, subst, arith}
use Rattle.std.proofs.lemmas.Bool.Decides.{nat_tests}
use Rattle.std.specs.Prelude.{◌==◌, nat_lt, if◌then◌else◌}
use Rattle.law_held.specs.inv.Inv.{Inv}
use Rattle.law_held.specs.inv.history.History.{Item, Begins, Steps, Made, fits, done_if, made_of, record_of, world_of}
use Rattle.law_held.specs.inv.history.Record.{Each, Past, tells_of}
use Rattle.law_held.specs.inv.history.Record.Past.{Then}
use Rattle.law_held.specs.inv.model.defs.declared.call.Call.{Call}
use Rattle.law_held.specs.inv.model.defs.declared.call.Call.TheVariants as calls
use Rattle.law_held.specs.inv.model.defs.declared.event.Event.{Event}
use Rattle.law_held.specs.inv.model.defs.declared.event.Event.TheVariants as events
use Rattle.law_held.specs.inv.model.defs.declared.event.Root.{Root}
use Rattle.law_held.specs.inv.model.defs.declared.lifetime.Interval.{Interval}
use Rattle.law_held.specs.inv.model.declared.post.Post.{Post}
use Rattle.law_held.specs.inv.model.Calls.{Task, Gets, Holds, Why, Opens, Clears, Finishes, Answering, Releases, Rehold, Loosens, Getting, Keeping, Phase, Runs, Works, CallTurn, CallOutcome, GoesOn, Answers}
use Rattle.law_held.specs.inv.model.Desks.{Desk, noting}
use Rattle.law_held.specs.inv.model.Links.{link_place}
use Rattle.law_held.specs.inv.model.Locals.{Local, begun_post, busy_in, rounds_told, settled_by, told_by, told_end, turn}
use Rattle.law_held.specs.inv.model.Phases.{Aim, ProtectAt, Base}
use Rattle.law_held.specs.inv.model.Phases.BeginAt.{LoadLower}
use Rattle.law_held.specs.inv.model.Phases.HazardAt.{FirstLink, PublishLink, CheckLink}
use Rattle.law_held.specs.inv.model.Phases.ProtectAt.{LoadClock, CheckClock, CheckUpper, ByHazard}
use Rattle.law_held.specs.inv.model.Phases.Base.{Begin, Protect}
use Rattle.law_held.specs.inv.model.Posts.{counted, stands}
use Rattle.law_held.specs.inv.model.Rounds.{scheme_of}
use Rattle.law_held.specs.inv.model.Steps as steps
use Rattle.law_held.specs.inv.model.World.{World, begin, finds, is_busy, offered, step, told_in}
use Rattle.law_held.specs.inv.model.words.Place.{is_valid}
use Rattle.law_held.specs.inv.model.words.Place.Place.{Bucket, Clock}
use Rattle.law_held.specs.inv.model.words.Schemes.{is_wfe, publishes_rows}
use Rattle.law_held.specs.inv.model.words.declared.config.Config.{Config}
use Rattle.law_held.specs.inv.model.words.declared.layout.Layout.{Layout}
use Rattle.law_held.specs.inv.shapes.Seats.{PhaseFits, Run}
use Rattle.law_held.specs.inv.shapes.Slots.{PhaseIn}
use Rattle.law_held.specs.laws.StateAt.{began_of, bucket_at, clock_of}
use Rattle.law_held.specs.laws.StructuresAt.{bucket_of}
use Rattle.law_held.proofs.inv.Inv.Reached.{inv_reached}
use Rattle.law_held.proofs.inv.Machines.{is_within, within_of}
use Rattle.law_held.proofs.inv.covers.Held.{stepped_post}
use Rattle.law_held.proofs.inv.ends.Rest.Falling.{fit_clock}
use Rattle.law_held.proofs.inv.history.Along.{paths_keep}
use Rattle.law_held.proofs.inv.history.AllOf.{all_of}
use Rattle.law_held.proofs.inv.model.Facts.{le_test, rest_of, first_of, same_number}
use Rattle.law_held.proofs.inv.model.Frames.{after_same}
use Rattle.law_held.proofs.inv.shapes.Frame.{begin_begins, begin_stays, finds_at, seat_stays, seat_steps}
use Rattle.law_held.proofs.laws.Tells.{tells_both}
use Rattle.law_held.proofs.laws.records.Entries.{entries_of_each}
use Rattle.law_held.proofs.NextRows.Behind.{found_root}
use Rattle.law_held.proofs.Roots.Leads.{leads_of}
use Rattle.law_held.proofs.Roots.Ways.{answers_of}
use Rattle.law_reasons.proofs.Eras.EraLaw.Keeps.{record_clock}
use Rattle.law_reuse.proofs.AnswersTold.Answering.{began_along, first_all, owes_of}
use Rattle.law_reuse.proofs.AnswersTold.Owed.{is_open}
use Rattle.law_reuse.proofs.Turns.Counted.{histories_count}
use Rattle.law_scans.proofs.Ordering.Ordered.{word_of}
use Rattle.law_bounds.specs.Gets.{ReadsEnd, few_in, get_more, hold_more, moves_since, reads_ok, roots_since, tries_most}
use Rattle.law_bounds.proofs.Gets.Ahead.{Costs, at_loads}
use Rattle.law_bounds.proofs.Gets.Calls.{Facts, Out, call_at, ended_at, first_most, free_out, get_at, get_first, get_out, hold_at, hold_first, hold_out}
use Rattle.law_bounds.proofs.Gets.Since.{Dearer, base_dearer, begin_dearer, costs_at, since_at, step_dearer}

-- the bucket of a get or a hold, and what it may take beside its tries
abbrev pub place_of : Config → Call → ℕ
place_of c (calls.Get key) = bucket_of c.buckets key
place_of c (calls.Hold key) = bucket_of c.buckets key
place_of c call = 0

abbrev pub more_of : Config → Call → ℕ
more_of c (calls.Get key) = get_more c.pairs
more_of c (calls.Hold key) = hold_more
more_of c call = 0

abbrev pub first_tries : (rows : Bool) → ℕ
first_tries true = 2
first_tries false = 3

abbrev pub most_of : Config → ℕ → Call → Past → ℕ
most_of c k call p = first_tries (publishes_rows c.scheme) + more_of c call + since_at (publishes_rows c.scheme) k (place_of c call) p

abbrev pub paced_by : Config → Past → ℕ → Call → Option Interval → ℕ → Phase → Type 0
paced_by c p k call span n phase = call_at c (costs_at (publishes_rows c.scheme) (place_of c call) p) span n (most_of c k call p) call phase

abbrev pub SeatPaced : Config → Past → ℕ → Local → Type 0
SeatPaced c p k l = busy_in l.phase ≡ true → paced_by c p k l.call l.post.span l.post.steps l.phase

-- what the law counts
tries_are : (c : Config) (k b : ℕ) (p : Past) → tries_most c k b p ≡ first_tries (publishes_rows c.scheme) + since_at (publishes_rows c.scheme) k b p
tries_are c k b p = by (publishes_rows c.scheme)
  where
    by : (rows : Bool) → (if rows then 2 * (1 + roots_since k b p) else 3 * (1 + moves_since k p)) ≡ first_tries rows + since_at rows k b p
    by true = omega arith
    by false = omega arith

pub few_by : (c : Config) (k : ℕ) (p : Past) (call : Call) (m : ℕ) → m ≤ most_of c k call p → few_in c k p call m ≡ true
few_by c k p (calls.Get key) m h = let a = tries_are c k (bucket_of c.buckets key) p in le_test m (tries_most c k (bucket_of c.buckets key) p + get_more c.pairs) (omega (arith, a, h))
few_by c k p (calls.Hold key) m h = let a = tries_are c k (bucket_of c.buckets key) p in le_test m (tries_most c k (bucket_of c.buckets key) p + hold_more) (omega (arith, a, h))
few_by c k p call m h = refl

-- what is told meanwhile costs no more than it counts
get_dearer : (c : Config) (x y : Costs) (before after k : ℕ) (span : Option Interval) (n most : ℕ) (phase : Phase) → Dearer x y before after → get_at c x k span n (most + before) phase → get_at c y k span n (most + after) phase
get_dearer c x y before after k span n most (Runs (Opens (Gets key)) base) d h = let a = base_dearer x y before after span base d in let b = h.1 in (h.0, omega (arith, a, b))
get_dearer c x y before after k span n most (Runs (Clears (Gets key) (Answering answer)) base) d h = let a = d.most in omega (arith, a, h)
get_dearer c x y before after k span n most (Runs (Finishes (Gets key) (Answering answer)) base) d h = let a = d.most in omega (arith, a, h)
get_dearer c x y before after k span n most (Works (Getting key at)) d h = let a = d.most in omega (arith, a, h)
get_dearer c x y before after k span n most phase d h = absurd h

hold_dearer : (c : Config) (x y : Costs) (before after k : ℕ) (span : Option Interval) (n most : ℕ) (phase : Phase) → Dearer x y before after → hold_at c x k span n (most + before) phase → hold_at c y k span n (most + after) phase
hold_dearer c x y before after k span n most (Runs (Releases (Rehold key)) base) d h = let a = d.most in let b = h.1 in (h.0, omega (arith, a, b))
hold_dearer c x y before after k span n most (Works (Keeping (Loosens (Rehold key)))) d h = let a = d.most in let b = h.1 in (h.0, omega (arith, a, b))
hold_dearer c x y before after k span n most (Runs (Opens (Holds key)) base) d h = let a = base_dearer x y before after span base d in let b = h.1 in (h.0, omega (arith, a, b))
hold_dearer c x y before after k span n most (Runs (Clears (Holds key) (Answering answer)) base) d h = let a = d.most in omega (arith, a, h)
hold_dearer c x y before after k span n most (Runs (Finishes (Holds key) (Answering answer)) base) d h = let a = d.most in omega (arith, a, h)
hold_dearer c x y before after k span n most phase d h = absurd h

call_dearer : (c : Config) (p q : Past) (k : ℕ) (call : Call) (span : Option Interval) (n : ℕ) (phase : Phase) → Dearer (costs_at (publishes_rows c.scheme) (place_of c call) p) (costs_at (publishes_rows c.scheme) (place_of c call) q) (since_at (publishes_rows c.scheme) k (place_of c call) p) (since_at (publishes_rows c.scheme) k (place_of c call) q)
    → paced_by c p k call span n phase → paced_by c q k call span n phase
call_dearer c p q k (calls.Get key) span n phase d h = get_dearer c _ _ _ _ key span n (first_tries (publishes_rows c.scheme) + get_more c.pairs) phase d h
call_dearer c p q k (calls.Hold key) span n phase d h = hold_dearer c _ _ _ _ key span n (first_tries (publishes_rows c.scheme) + hold_more) phase d h
call_dearer c p q k call span n phase d h = tt

-- what is known of a step
at_found : (w : World) (i : ℕ) (task : Task) (aim : Aim) (index : ℕ) (link : Root) (made : ℕ) (at : ProtectAt) (clock root : ℕ) → (w.seat i).phase ≡ Runs (Opens task) (Protect aim index link made at) → w.mem Clock ≡ clock → w.mem (link_place link) ≡ root → at_loads at (finds w i) clock root
at_found w i task aim index link made (LoadClock tries) clock root e c r = fit_clock w i (Opens task) aim index link made (LoadClock tries) e ∙ c
at_found w i task aim index link made (CheckClock era tries at) clock root e c r = fit_clock w i (Opens task) aim index link made (CheckClock era tries at) e ∙ c
at_found w i task aim index link made (CheckUpper at) clock root e c r = fit_clock w i (Opens task) aim index link made (CheckUpper at) e ∙ c
at_found w i task aim index link made (ByHazard FirstLink) clock root e c r = found_root w i (Opens task) aim index link made (ByHazard FirstLink) e refl ∙ r
at_found w i task aim index link made (ByHazard (PublishLink at)) clock root e c r = tt
at_found w i task aim index link made (ByHazard (CheckLink at)) clock root e c r = found_root w i (Opens task) aim index link made (ByHazard (CheckLink at)) e refl ∙ r
at_found w i task aim index link made at clock root e c r = tt

pub facts_of : (w : World) (i k clock root : ℕ) → Inv w → w.mem Clock ≡ clock → w.mem (Bucket (bucket_of w.layout.config.buckets k)) ≡ root → Facts w.layout.config clock root k (w.seat i).phase (counted (w.seat i).post) (finds w i)
facts_of w i k clock root a c r =
    let f = a.known.seats.fits i in
    let s : scheme_of (w.seat i).post ≡ w.layout.config.scheme = ap (λ (table : Layout). table.config.scheme) f.post.layout in
    record {
      scheme = s;
      left = λ why base e. let o = after_same base (counted (w.seat i).post) (finds w i) in ap (λ (table : Layout). table.config.scheme) o.layout ∙ s;
      suited = λ why base e. (run why base e).suited;
      fits = λ why base e. (run why base e).fits;
      alone = λ task aim index link made at e. let o = (run (Opens task) (Protect aim index link made at) e).shape in o.aimed;
      loads = λ task aim index link made at e t. at_found w i task aim index link made at clock root e c (root_is task aim index link made at e t);
      begins = λ task e. finds_at w i (Runs (Opens task) (Begin LoadLower)) e ∙ c;
      reads = λ key at e. subst (PhaseIn w.layout (w.seat i).desk) e (a.known.slots.seats i).phase;
    }
  where
    run : (why : Why) (base : Base) → (w.seat i).phase ≡ Runs why base → Run w.layout why base (w.seat i).post
    run why base e = subst (PhaseFits w.layout (w.seat i).post) e (a.known.seats.fits i).phase

    root_is : (task : Task) (aim : Aim) (index : ℕ) (link : Root) (made : ℕ) (at : ProtectAt) → (w.seat i).phase ≡ Runs (Opens task) (Protect aim index link made at) → (task ≡ Gets k) ⊎ (task ≡ Holds k) → w.mem (link_place link) ≡ root
    root_is task aim index link made at e (inl t) = let o = (run (Opens task) (Protect aim index link made at) e).shape in rw (o.of, t) r
    root_is task aim index link made at e (inr t) = let o = (run (Opens task) (Protect aim index link made at) e).shape in rw (o.of, t) r

-- what a history keeps
pub record Paced (layout : Layout) (made : Made) : Type 0 where
  pub table : made.world.layout ≡ layout
  pub seats : (k : ℕ) → SeatPaced layout.config made.past k (made.world.seat k)
  pub law : Each (reads_ok layout.config) made.past

-- a seat's own step
abbrev turn_of : World → ℕ → CallTurn
turn_of w i = turn (offered w i) (finds w i)

own_out : (layout : Layout) (path : List Item) (i : ℕ) → is_valid layout ≡ true → is_wfe layout.config.scheme ≡ false → (world_of layout path).layout ≡ layout → is_busy (world_of layout path) i ≡ true → SeatPaced layout.config (record_of layout path) i ((world_of layout path).seat i) → (call : Call) → ((world_of layout path).seat i).call ≡ call
    → Out layout.config (costs_at (publishes_rows layout.config.scheme) (place_of layout.config call) (record_of layout path)) call (turn_of (world_of layout path) i).post.span (((world_of layout path).seat i).post.steps + 1) (most_of layout.config i call (record_of layout path)) (turn_of (world_of layout path) i).outcome
own_out layout path i d f t b g (calls.Get key) e =
    let w : World = world_of layout path in
    let p : Past = record_of layout path in
    let root : ℕ = word_of (bucket_at (bucket_of layout.config.buckets key) p) in
    let a : Facts layout.config (clock_of p) root key (w.seat i).phase (counted (w.seat i).post) (finds w i) =
    subst (λ (table : Layout). Facts table.config (clock_of p) root key (w.seat i).phase (counted (w.seat i).post) (finds w i)) t
    (facts_of w i key (clock_of p) root (inv_reached layout path d) (sym (record_clock layout path d)) (rw t (sym ((leads_of layout path d).buckets (bucket_of layout.config.buckets key))))) in
    get_out layout.config (clock_of p) root key (w.seat i).phase (counted (w.seat i).post) (offered w i).desk (finds w i) (w.seat i).post.steps ((w.seat i).post.steps + 1) (most_of layout.config i (calls.Get key) p) a f
    (subst (λ (x : Call). paced_by layout.config p i x (w.seat i).post.span (w.seat i).post.steps (w.seat i).phase) e (g b)) refl
own_out layout path i d f t b g (calls.Hold key) e =
    let w : World = world_of layout path in
    let p : Past = record_of layout path in
    let root : ℕ = word_of (bucket_at (bucket_of layout.config.buckets key) p) in
    let a : Facts layout.config (clock_of p) root key (w.seat i).phase (counted (w.seat i).post) (finds w i) =
    subst (λ (table : Layout). Facts table.config (clock_of p) root key (w.seat i).phase (counted (w.seat i).post) (finds w i)) t
    (facts_of w i key (clock_of p) root (inv_reached layout path d) (sym (record_clock layout path d)) (rw t (sym ((leads_of layout path d).buckets (bucket_of layout.config.buckets key))))) in
    hold_out layout.config (clock_of p) root key (w.seat i).phase (counted (w.seat i).post) (offered w i).desk (finds w i) (w.seat i).post.steps ((w.seat i).post.steps + 1) (most_of layout.config i (calls.Hold key) p) a f
    (subst (λ (x : Call). paced_by layout.config p i x (w.seat i).post.span (w.seat i).post.steps (w.seat i).phase) e (g b)) refl
own_out layout path i d f t b g call e =
    let p : Past = record_of layout path in
    let t : CallTurn = turn_of (world_of layout path) i in
    free_out layout.config (costs_at (publishes_rows layout.config.scheme) (place_of layout.config call) p) call t.post.span (((world_of layout path).seat i).post.steps + 1) (most_of layout.config i call p) (λ phase. tt) tt t.outcome

settled_paced : (c : Config) (k : ℕ) (p q : Past) (l : Local) (post : Post) (desk : Desk) (rounds m : ℕ) (outcome : CallOutcome)
    → Dearer (costs_at (publishes_rows c.scheme) (place_of c l.call) p) (costs_at (publishes_rows c.scheme) (place_of c l.call) q) (since_at (publishes_rows c.scheme) k (place_of c l.call) p) (since_at (publishes_rows c.scheme) k (place_of c l.call) q)
    → post.steps ≡ m → Out c (costs_at (publishes_rows c.scheme) (place_of c l.call) p) l.call post.span m (most_of c k l.call p) outcome → SeatPaced c q k (settled_by l post desk rounds outcome)
settled_paced c k p q l post desk rounds m (GoesOn phase) d e o = λ b. call_dearer c p q k l.call post.span post.steps phase d (subst (λ (n : ℕ). paced_by c p k l.call post.span n phase) (sym e) o)
settled_paced c k p q l post desk rounds m (Answers answer) d e o = λ b. absurd (cc)

-- a seat that does not move, while others tell
stays_paced : (c : Config) (k i : ℕ) (told : List Event) (p : Past) (l : Local) → all_of is_within told ≡ true → SeatPaced c p k l → SeatPaced c (tells_of p i told) k l
stays_paced c k i told p l w g = λ b. call_dearer c p (tells_of p i told) k l.call l.post.span l.post.steps l.phase (step_dearer (publishes_rows c.scheme) k (place_of c l.call) i told p w) (g b)

-- what the step of a seat has as its number
one_more : (layout : Layout) (path : List Item) (i : ℕ) → is_valid layout ≡ true → is_busy (world_of layout path) i ≡ true → (turn_of (world_of layout path) i).post.steps ≡ ((world_of layout path).seat i).post.steps + 1
one_more layout path i d b = let c = histories_count layout path d in sym (ap (λ (post : Post). post.steps) (stepped_post (world_of layout path) i)) ∙ c.one_more i b

step_seats : (layout : Layout) (path : List Item) (i k : ℕ) (same : Bool) → (k == i) ≡ same → is_valid layout ≡ true → is_wfe layout.config.scheme ≡ false → is_busy (world_of layout path) i ≡ true → Paced layout (made_of layout path) → SeatPaced layout.config (tells_of (record_of layout path) i (told_in (world_of layout path) i)) k ((step (world_of layout path) i).seat k)
step_seats layout path i k true e d f b g =
    let w : World = world_of layout path in
    let p : Past = record_of layout path in
    let c : Config = layout.config in
    let t : CallTurn = turn_of w i in
    let l : Local = offered w i in
    let one : i ≡ k = grind (arith, nat_tests) in
    let o = own_out layout path i d f g.table b (g.seats i) (w.seat i).call refl in
    subst (λ (m : ℕ). SeatPaced c (tells_of p i (told_in w i)) m ((step w i).seat m)) one
    (subst (λ (s : Local). SeatPaced c (tells_of p i (told_in w i)) i s) (sym (seat_steps w i))
    (settled_paced c i p (tells_of p i (told_in w i)) l t.post (noting t.desk (told_by t)) (rounds_told (publishes_rows (scheme_of t.post)) l.rounds (told_by t)) ((w.seat i).post.steps + 1) t.outcome
    (step_dearer (publishes_rows c.scheme) i (place_of c (w.seat i).call) i (told_in w i) p (within_of w i)) (one_more layout path i d b) o))
step_seats layout path i k false e d f b g =
    let w : World = world_of layout path in
    subst (λ (l : Local). SeatPaced layout.config (tells_of (record_of layout path) i (told_in w i)) k l) (sym (seat_stays w i k e)) (stays_paced layout.config k i (told_in w i) (record_of layout path) (w.seat k) (within_of w i) (g.seats k))

-- the entries of a step
open_ok : (c : Config) (i : ℕ) (p : Past) (event : Event) → is_open event ≡ true → reads_ok c p i event ≡ true
open_ok c i p (events.End n answer) h = absurd (cc)
open_ok c i p event h = refl

open_each : (c : Config) (i : ℕ) (told : List Event) (p : Past) → all_of is_open told ≡ true → Each (reads_ok c) p → Each (reads_ok c) (tells_of p i told)
open_each c i [] p h g = g
open_each c i (event ∷ told) p h g = open_each c i told (Then p i event) (rest_of (is_open event) (all_of is_open told) h) (open_ok c i p event (first_of (is_open event) (all_of is_open told) h), g)

ended_few : (c : Config) (i : ℕ) (p q : Past) (call : Call) (m : ℕ) → Dearer (costs_at (publishes_rows c.scheme) (place_of c call) p) (costs_at (publishes_rows c.scheme) (place_of c call) q) (since_at (publishes_rows c.scheme) i (place_of c call) p) (since_at (publishes_rows c.scheme) i (place_of c call) q) → ended_at m (most_of c i call p) call → few_in c i q call m ≡ true
ended_few c i p q (calls.Get key) m d h = few_by c i q (calls.Get key) m (let a = d.most in omega (arith, a, h))
ended_few c i p q (calls.Hold key) m d h = few_by c i q (calls.Hold key) m (let a = d.most in omega (arith, a, h))
ended_few c i p q call m d h = refl

end_each : (c : Config) (i : ℕ) (p q : Past) (call : Call) (post : Post) (outcome : CallOutcome) (m : ℕ) → began_of i q ≡ Some call
    → Dearer (costs_at (publishes_rows c.scheme) (place_of c call) p) (costs_at (publishes_rows c.scheme) (place_of c call) q) (since_at (publishes_rows c.scheme) i (place_of c call) p) (since_at (publishes_rows c.scheme) i (place_of c call) q)
    → post.steps ≡ m → Out c (costs_at (publishes_rows c.scheme) (place_of c call) p) call post.span m (most_of c i call p) outcome → Each (reads_ok c) q → Each (reads_ok c) (tells_of q i (told_end post outcome))
end_each c i p q call post (GoesOn phase) m b d e o g = g
end_each c i p q call post (Answers answer) m b d e o g = (rw (b, e) (ended_few c i p q call m d o), g)

step_law : (layout : Layout) (path : List Item) (i : ℕ) → is_valid layout ≡ true → is_wfe layout.config.scheme ≡ false → is_busy (world_of layout path) i ≡ true → Paced layout (made_of layout path) → Each (reads_ok layout.config) (tells_of (record_of layout path) i (told_in (world_of layout path) i))
step_law layout path i d f b g =
    let w : World = world_of layout path in
    let p : Past = record_of layout path in
    let c : Config = layout.config in
    let t : CallTurn = turn_of w i in
    let a = answers_of layout path d in
    let q : Past = tells_of p i t.told in
    let within : all_of is_within t.told ≡ true = first_all is_within t.told (told_end t.post t.outcome) (within_of w i) in
    let o = owes_of c.buckets w i a.table a.known ((a.seats i).serves b) in
    let told = o.told in
    subst (λ (r : Past). Each (reads_ok c) r) (sym (tells_both i t.told (told_end t.post t.outcome) p))
    (end_each c i p q (w.seat i).call t.post t.outcome ((w.seat i).post.steps + 1) (began_along i t.told p within ∙ (a.seats i).began b)
    (step_dearer (publishes_rows c.scheme) i (place_of c (w.seat i).call) i t.told p within) (one_more layout path i d b) (own_out layout path i d f g.table b (g.seats i) (w.seat i).call refl)
    (open_each c i t.told p told.goes g.law))

-- a call begins
since_none : (rows : Bool) (i b : ℕ) (call : Call) (p : Past) → since_at rows i b (Then p i (events.Begin call)) ≡ 0
since_none true i b call p = rw (same_number i) refl
since_none false i b call p = rw (same_number i) refl

first_few : (rows : Bool) → first_most rows ≤ first_tries rows + 2
first_few true = omega arith
first_few false = omega arith

first_paced : (c : Config) (p : Past) (i : ℕ) (call : Call) (post : Post) → scheme_of post ≡ c.scheme → is_wfe c.scheme ≡ false → paced_by c p i call post.span 0 (steps.first_phase call post)
first_paced c p i (calls.Get key) post e f =
    let a = first_few (publishes_rows c.scheme) in
    get_first c (clock_of p) (word_of (bucket_at (bucket_of c.buckets key) p)) key post (most_of c i (calls.Get key) p) e f (omega (arith, a))
first_paced c p i (calls.Hold key) post e f =
    let a = first_few (publishes_rows c.scheme) in
    hold_first c (clock_of p) (word_of (bucket_at (bucket_of c.buckets key) p)) key post (most_of c i (calls.Hold key) p) e f (omega (arith, a)) (stands post 2)
first_paced c p i call post e f = tt

begin_seats : (layout : Layout) (path : List Item) (i k : ℕ) (call : Call) (same : Bool) → (k == i) ≡ same → is_valid layout ≡ true → is_wfe layout.config.scheme ≡ false → Paced layout (made_of layout path) → SeatPaced layout.config (Then (record_of layout path) i (events.Begin call)) k ((begin (world_of layout path) i call).seat k)
begin_seats layout path i k call true e d f g =
    let w : World = world_of layout path in
    let r : Past = Then (record_of layout path) i (events.Begin call) in
    let one : i ≡ k = grind (arith, nat_tests) in
    let a = inv_reached layout path d in
    let s : scheme_of (begun_post (w.seat i).post) ≡ layout.config.scheme = ap (λ (table : Layout). table.config.scheme) ((a.known.seats.fits i).post.layout ∙ g.table) in
    subst (λ (m : ℕ). SeatPaced layout.config r m ((begin w i call).seat m)) one
    (subst (λ (l : Local). SeatPaced layout.config r i l) (sym (begin_begins w i call)) (λ b. first_paced layout.config r i call (begun_post (w.seat i).post) s f))
begin_seats layout path i k call false e d f g =
    let w : World = world_of layout path in
    let p : Past = record_of layout path in
    subst (λ (l : Local). SeatPaced layout.config (Then p i (events.Begin call)) k l) (sym (begin_stays w i k call e))
    (λ b. call_dearer layout.config p (Then p i (events.Begin call)) k (w.seat k).call (w.seat k).post.span (w.seat k).post.steps (w.seat k).phase (begin_dearer (publishes_rows layout.config.scheme) k (place_of layout.config (w.seat k).call) i call p e) (g.seats k b))

item_paced : (layout : Layout) → is_valid layout ≡ true → is_wfe layout.config.scheme ≡ false → (path : List Item) (item : Item) (fit : Bool) → fits (world_of layout path) item ≡ fit → Paced layout (made_of layout path) → Paced layout (done_if (made_of layout path) item fit)
item_paced layout d f path item false e g = g
item_paced layout d f path (Begins i call) true e g = record { table = g.table; seats = λ k. begin_seats layout path i k call (k == i) refl d f g; law = (refl, g.law) }
item_paced layout d f path (Steps i) true e g =
    let w : World = world_of layout path in
    let b = rest_of (nat_lt i w.layout.config.seats) (is_busy w i) e in
    record { table = g.table; seats = λ k. step_seats layout path i k (k == i) refl d f b g; law = step_law layout path i d f b g }

pub paced : (layout : Layout) (items : List Item) → is_valid layout ≡ true → is_wfe layout.config.scheme ≡ false → Paced layout (made_of layout items)
paced layout items d f = paths_keep layout (Paced layout) (item_paced layout d f) (record { table = refl; seats = λ k b. absurd (cc); law = tt }) items

pub reads_end : ReadsEnd
reads_end layout items d f = let g = paced layout items d f in entries_of_each (reads_ok layout.config) (record_of layout items) g.law
