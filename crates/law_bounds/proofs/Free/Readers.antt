-- A get or a hold under way goes on for few turns of its seat while nothing is done, also where rows are published.
use Rattle.std.proofs.Common.{ℕ, ◌≡◌, ◌≤◌, ◌+◌, Bool, true, false, List, Option, refl, sym, ap, ◌∙◌, subst, arith}
use Rattle.std.specs.Prelude.{◌==◌, if◌then◌else◌}
use Rattle.law_held.specs.inv.history.Heard.{heard_of}
use Rattle.law_held.specs.inv.history.History.{Item, Begins, Steps, Made, done, made_of, record_of, world_of}
use Rattle.law_held.specs.inv.history.Record.{Past, tells_of}
use Rattle.law_held.specs.inv.history.Turns.{History}
use Rattle.law_held.specs.inv.history.Turns.History.{Starts, Turns}
use Rattle.law_held.specs.inv.model.Calls.{Gets, Holds, Opens, Clears, Finishes, Answering, Releases, Rehold, Loosens, Getting, Keeping, FindVersion, FindCount, FindKey, FindValue, Phase, Runs, Works, CallTurn, CallOutcome}
use Rattle.law_held.specs.inv.model.Locals.{Local, turn}
use Rattle.law_held.specs.inv.model.Phases.{ProtectAt, Base}
use Rattle.law_held.specs.inv.model.Phases.BeginAt.{LoadLower, PublishSpan}
use Rattle.law_held.specs.inv.model.Phases.HazardAt.{FirstLink, PublishLink, CheckLink}
use Rattle.law_held.specs.inv.model.Phases.ProtectAt.{PublishEra, LoadLink, CheckClock, LoadWithin, CheckUpper, RaiseUpper, ByHazard}
use Rattle.law_held.specs.inv.model.Phases.Base.{Begin, Protect}
use Rattle.law_held.specs.inv.model.Posts.{counted, upper}
use Rattle.law_held.specs.inv.model.declared.post.Post.{Post}
use Rattle.law_held.specs.inv.model.World.{World, begin, finds, is_busy, offered, step, told_in}
use Rattle.law_held.specs.inv.model.defs.declared.call.Call.{Call}
use Rattle.law_held.specs.inv.model.defs.declared.call.Call.TheVariants as calls
use Rattle.law_held.specs.inv.model.defs.declared.event.Event.{Event}
use Rattle.law_held.specs.inv.model.defs.declared.lifetime.Interval.{Interval}
use Rattle.law_held.specs.inv.model.words.Place.{is_valid}
use Rattle.law_held.specs.inv.model.words.Schemes.{is_wfe, publishes_rows}
use Rattle.law_held.specs.inv.model.words.declared.config.Config.{Config}
use Rattle.law_held.specs.inv.model.words.declared.config.SchemeKind.{SchemeKind}
use Rattle.law_held.specs.inv.model.words.declared.config.SchemeKind.TheVariants.{He, Hp, Ibr, Wfe}
use Rattle.law_held.specs.inv.model.words.declared.layout.Layout.{Layout}
use Rattle.law_held.specs.laws.StateAt.{bucket_at, clock_of}
use Rattle.law_held.specs.laws.StructuresAt.{bucket_of}
use Rattle.law_held.proofs.inv.Inv.Reached.{inv_reached}
use Rattle.law_held.proofs.inv.covers.Held.{stepped_phase, stepped_post}
use Rattle.law_held.proofs.inv.shapes.Frame.{begin_stays, seat_stays}
use Rattle.law_held.specs.inv.shapes.Frame.{phase_left as stands_at}
use Rattle.law_held.proofs.Roots.Leads.{leads_of}
use Rattle.law_reasons.proofs.Eras.EraLaw.Keeps.{record_clock}
use Rattle.law_scans.proofs.Ordering.Ordered.{word_of}
use Rattle.law_bounds.specs.Free.{turns_by}
use Rattle.law_bounds.proofs.Changes.Keeps.{step_call}
use Rattle.law_bounds.proofs.Free.Goes.{own_busy, reads_rows, turns_other, turns_own}
use Rattle.law_bounds.proofs.Free.Told.{ahead_in, clock_still, goes_still, root_still}
use Rattle.law_bounds.proofs.Gets.Ahead.{Costs, base_ahead, costs_of, late, protect_ahead}
use Rattle.law_bounds.proofs.Gets.Calls.{Facts, Out, call_at, first_most, get_at, get_out, hold_at, hold_out}
use Rattle.law_bounds.proofs.Gets.Keeps.{Paced, facts_of, paced, paced_by, place_of}
use Rattle.law_bounds.proofs.Gets.GoOn.{get_few, hold_few}
use Rattle.law_bounds.proofs.Gets.Since.{costs_at}

-- no more than this is ahead
costs_few : (rows : Bool) (clock root : ℕ) → ((seen : ℕ) → (costs_of rows clock root).era seen ≤ 3) × ((link : ℕ) → (costs_of rows clock root).link link ≤ 3)
costs_few true clock root = (λ seen. omega arith, λ link. late_few link root)
  where
    test_few : (b : Bool) → (if b then 0 else 2) ≤ 3
    test_few true = omega arith
    test_few false = omega arith

    late_few : (seen now : ℕ) → late 2 seen now ≤ 3
    late_few seen now = test_few (seen == now)
costs_few false clock root = (λ seen. late_few seen clock, λ link. omega arith)
  where
    test_few : (b : Bool) → (if b then 0 else 3) ≤ 3
    test_few true = omega arith
    test_few false = omega arith

    late_few : (seen now : ℕ) → late 3 seen now ≤ 3
    late_few seen now = test_few (seen == now)

protect_few : (x : Costs) (span : Option Interval) (at : ProtectAt) → ((seen : ℕ) → x.era seen ≤ 3) → ((link : ℕ) → x.link link ≤ 3) → protect_ahead x span at ≤ 6
protect_few x span (PublishEra era tries) f g = let a = f era in omega (arith, a)
protect_few x span (LoadLink era tries) f g = let a = f era in omega (arith, a)
protect_few x span (CheckClock era tries link) f g = let a = f era in omega (arith, a)
protect_few x span LoadWithin f g = let a = f (upper span) in omega (arith, a)
protect_few x span (CheckUpper link) f g = let a = f (upper span) in omega (arith, a)
protect_few x span (RaiseUpper era) f g = let a = f era in omega (arith, a)
protect_few x span (ByHazard FirstLink) f g = omega arith
protect_few x span (ByHazard (PublishLink link)) f g = let a = g link in omega (arith, a)
protect_few x span (ByHazard (CheckLink link)) f g = let a = g link in omega (arith, a)
protect_few x span at f g = omega arith

base_few : (x : Costs) (span : Option Interval) (base : Base) → ((seen : ℕ) → x.era seen ≤ 3) → ((link : ℕ) → x.link link ≤ 3) → base_ahead x span base ≤ 6
base_few x span (Begin LoadLower) f g = omega arith
base_few x span (Begin (PublishSpan era)) f g = let a = f era in omega (arith, a)
base_few x span (Protect aim index root made at) f g = protect_few x span at f g
base_few x span base f g = omega arith

-- the most turns of such a call
abbrev pub read_most : Config → ℕ
read_most c = c.pairs + 10

first_few : (rows : Bool) → first_most rows ≤ 5
first_few true = omega arith
first_few false = omega arith

get_again : (c : Config) (x : Costs) (k : ℕ) (span : Option Interval) (n most : ℕ) (phase : Phase) → ((seen : ℕ) → x.era seen ≤ 3) → ((link : ℕ) → x.link link ≤ 3) → get_at c x k span n most phase → get_at c x k span 0 (read_most c) phase
get_again c x k span n most (Runs (Opens (Gets key)) base) f g h = let a = base_few x span base f g in (h.0, omega (arith, a))
get_again c x k span n most (Runs (Clears (Gets key) (Answering answer)) base) f g h = omega arith
get_again c x k span n most (Runs (Finishes (Gets key) (Answering answer)) base) f g h = omega arith
get_again c x k span n most (Works (Getting key (FindVersion slot))) f g h = omega arith
get_again c x k span n most (Works (Getting key (FindCount slot version))) f g h = omega arith
get_again c x k span n most (Works (Getting key (FindKey slot version count pair))) f g h = omega arith
get_again c x k span n most (Works (Getting key (FindValue slot version pair))) f g h = omega arith
get_again c x k span n most phase f g h = absurd h

hold_again : (c : Config) (x : Costs) (k : ℕ) (span : Option Interval) (n most : ℕ) (phase : Phase) → ((seen : ℕ) → x.era seen ≤ 3) → ((link : ℕ) → x.link link ≤ 3) → hold_at c x k span n most phase → hold_at c x k span 0 (read_most c) phase
hold_again c x k span n most (Runs (Releases (Rehold key)) base) f g h = let a = first_few (publishes_rows c.scheme) in (h.0, omega (arith, a))
hold_again c x k span n most (Works (Keeping (Loosens (Rehold key)))) f g h = let a = first_few (publishes_rows c.scheme) in (h.0, omega (arith, a))
hold_again c x k span n most (Runs (Opens (Holds key)) base) f g h = let a = base_few x span base f g in (h.0, omega (arith, a))
hold_again c x k span n most (Runs (Clears (Holds key) (Answering answer)) base) f g h = omega arith
hold_again c x k span n most (Runs (Finishes (Holds key) (Answering answer)) base) f g h = omega arith
hold_again c x k span n most phase f g h = absurd h

-- so many turns are made, and the rest is ahead
pub record Reading (layout : Layout) (k first : ℕ) (made : Made) (h : History) : Type 0 where
  pub table : made.world.layout ≡ layout
  pub busy : is_busy made.world k ≡ true
  pub call : Call
  pub call_is : (made.world.seat k).call ≡ call
  pub reads : reads_rows call ≡ true
  pub number : ℕ
  pub turns : turns_by k h ≡ first + number
  pub at : call_at layout.config (costs_at (publishes_rows layout.config.scheme) (place_of layout.config call) made.past) (made.world.seat k).post.span number (read_most layout.config) call (made.world.seat k).phase

rows_plain : (scheme : SchemeKind) → publishes_rows scheme ≡ true → is_wfe scheme ≡ false
rows_plain He h = absurd (cc)
rows_plain Ibr h = absurd (cc)
rows_plain Wfe h = absurd (cc)
rows_plain Hp h = refl

call_again : (c : Config) (p : Past) (k : ℕ) (call : Call) (span : Option Interval) (n : ℕ) (phase : Phase) → reads_rows call ≡ true → paced_by c p k call span n phase → call_at c (costs_at (publishes_rows c.scheme) (place_of c call) p) span 0 (read_most c) call phase
call_again c p k (calls.Get key) span n phase r h = let f = costs_few (publishes_rows c.scheme) (clock_of p) (word_of (bucket_at (place_of c (calls.Get key)) p)) in get_again c _ key span n _ phase f.0 f.1 h
call_again c p k (calls.Hold key) span n phase r h = let f = costs_few (publishes_rows c.scheme) (clock_of p) (word_of (bucket_at (place_of c (calls.Hold key)) p)) in hold_again c _ key span n _ phase f.0 f.1 h
call_again c p k call span n phase r h = absurd (cc)

pub reading_enters : (layout : Layout) (path : List Item) (k : ℕ) → is_valid layout ≡ true → publishes_rows layout.config.scheme ≡ true → is_busy (world_of layout path) k ≡ true → reads_rows ((world_of layout path).seat k).call ≡ true → Reading layout k (turns_by k (heard_of layout path)) (made_of layout path) (heard_of layout path)
reading_enters layout path k d f b r =
    let w : World = world_of layout path in
    let g : Paced layout (made_of layout path) = paced layout path d (rows_plain layout.config.scheme f) in
    record {
      table = g.table;
      busy = b;
      call = (w.seat k).call;
      call_is = refl;
      reads = r;
      number = 0;
      turns = omega arith;
      at = call_again layout.config (record_of layout path) k (w.seat k).call (w.seat k).post.span (w.seat k).post.steps (w.seat k).phase r (g.seats k b);
    }

-- a step of its own
own_reads : (layout : Layout) (path : List Item) (k n : ℕ) (call : Call) → is_valid layout ≡ true → is_wfe layout.config.scheme ≡ false → (world_of layout path).layout ≡ layout → reads_rows call ≡ true
    → call_at layout.config (costs_at (publishes_rows layout.config.scheme) (place_of layout.config call) (record_of layout path)) ((world_of layout path).seat k).post.span n (read_most layout.config) call ((world_of layout path).seat k).phase
    → Out layout.config (costs_at (publishes_rows layout.config.scheme) (place_of layout.config call) (record_of layout path)) call (turn (offered (world_of layout path) k) (finds (world_of layout path) k)).post.span (n + 1) (read_most layout.config) (turn (offered (world_of layout path) k) (finds (world_of layout path) k)).outcome
own_reads layout path k n (calls.Get key) d f t r h =
    let w : World = world_of layout path in
    let p : Past = record_of layout path in
    let root : ℕ = word_of (bucket_at (bucket_of layout.config.buckets key) p) in
    let a : Facts layout.config (clock_of p) root key (w.seat k).phase (counted (w.seat k).post) (finds w k) =
    subst (λ (table : Layout). Facts table.config (clock_of p) root key (w.seat k).phase (counted (w.seat k).post) (finds w k)) t
    (facts_of w k key (clock_of p) root (inv_reached layout path d) (sym (record_clock layout path d)) (rw t (sym ((leads_of layout path d).buckets (bucket_of layout.config.buckets key))))) in
    get_out layout.config (clock_of p) root key (w.seat k).phase (counted (w.seat k).post) (offered w k).desk (finds w k) n (n + 1) (read_most layout.config) a f h refl
own_reads layout path k n (calls.Hold key) d f t r h =
    let w : World = world_of layout path in
    let p : Past = record_of layout path in
    let root : ℕ = word_of (bucket_at (bucket_of layout.config.buckets key) p) in
    let a : Facts layout.config (clock_of p) root key (w.seat k).phase (counted (w.seat k).post) (finds w k) =
    subst (λ (table : Layout). Facts table.config (clock_of p) root key (w.seat k).phase (counted (w.seat k).post) (finds w k)) t
    (facts_of w k key (clock_of p) root (inv_reached layout path d) (sym (record_clock layout path d)) (rw t (sym ((leads_of layout path d).buckets (bucket_of layout.config.buckets key))))) in
    hold_out layout.config (clock_of p) root key (w.seat k).phase (counted (w.seat k).post) (offered w k).desk (finds w k) n (n + 1) (read_most layout.config) a f h refl
own_reads layout path k n call d f t r h = absurd (cc)

costs_still : (rows : Bool) (b i : ℕ) (es : List Event) (p : Past) → ahead_in es ≡ false → costs_at rows b (tells_of p i es) ≡ costs_at rows b p
costs_still rows b i es p h = rw (clock_still i es p h, root_still b i es p h) refl

pub reading_own : (layout : Layout) (path : List Item) (k first : ℕ) → is_valid layout ≡ true → publishes_rows layout.config.scheme ≡ true → ahead_in (told_in (world_of layout path) k) ≡ false → Reading layout k first (made_of layout path) (heard_of layout path)
    → Reading layout k first (done (made_of layout path) (Steps k)) (Turns (heard_of layout path) k (told_in (world_of layout path) k))
reading_own layout path k first d f h g =
    let w : World = world_of layout path in
    let p : Past = record_of layout path in
    let c : Config = layout.config in
    let t : CallTurn = turn (offered w k) (finds w k) in
    let o = goes_still t.told t.post t.outcome h in
    let x : Costs = costs_at (publishes_rows c.scheme) (place_of c g.call) p in
    let a = own_reads layout path k g.number g.call d (rows_plain c.scheme f) g.table g.reads g.at in
    let e : call_at c x t.post.span (g.number + 1) (read_most c) g.call o.phase = subst (λ (r : CallOutcome). Out c x g.call t.post.span (g.number + 1) (read_most c) r) o.is a in
    let phase : ((step w k).seat k).phase ≡ o.phase = stepped_phase w k ∙ ap stands_at o.is in
    let span : ((step w k).seat k).post.span ≡ t.post.span = ap (λ (post : Post). post.span) (stepped_post w k) in
    let at : call_at c x ((step w k).seat k).post.span (g.number + 1) (read_most c) g.call ((step w k).seat k).phase =
    subst (λ (s : Option Interval). call_at c x s (g.number + 1) (read_most c) g.call ((step w k).seat k).phase) (sym span) (subst (λ (q : Phase). call_at c x t.post.span (g.number + 1) (read_most c) g.call q) (sym phase) e) in
    record {
      table = g.table;
      busy = own_busy layout path k d g.busy h;
      call = g.call;
      call_is = step_call w k ∙ g.call_is;
      reads = g.reads;
      number = g.number + 1;
      turns = let u = turns_own k (heard_of layout path) (told_in w k) in let v = g.turns in omega (arith, u, v);
      at = subst (λ (y : Costs). call_at c y ((step w k).seat k).post.span (g.number + 1) (read_most c) g.call ((step w k).seat k).phase) (sym (costs_still (publishes_rows c.scheme) (place_of c g.call) k (told_in w k) p h)) at;
    }

-- a step of another seat, and its beginning of a call
pub reading_other : (layout : Layout) (path : List Item) (i k first : ℕ) → (k == i) ≡ false → ahead_in (told_in (world_of layout path) i) ≡ false → Reading layout k first (made_of layout path) (heard_of layout path)
    → Reading layout k first (done (made_of layout path) (Steps i)) (Turns (heard_of layout path) i (told_in (world_of layout path) i))
reading_other layout path i k first e h g =
    let w : World = world_of layout path in
    let c : Config = layout.config in
    let l : (step w i).seat k ≡ w.seat k = seat_stays w i k e in
    let at : call_at c (costs_at (publishes_rows c.scheme) (place_of c g.call) (tells_of (record_of layout path) i (told_in w i))) (w.seat k).post.span g.number (read_most c) g.call (w.seat k).phase =
    subst (λ (y : Costs). call_at c y (w.seat k).post.span g.number (read_most c) g.call (w.seat k).phase) (sym (costs_still (publishes_rows c.scheme) (place_of c g.call) i (told_in w i) (record_of layout path) h)) g.at in
    record {
      table = g.table;
      busy = rw l g.busy;
      call = g.call;
      call_is = rw l g.call_is;
      reads = g.reads;
      number = g.number;
      turns = turns_other k i (heard_of layout path) (told_in w i) e ∙ g.turns;
      at = subst (λ (x : Local). call_at c (costs_at (publishes_rows c.scheme) (place_of c g.call) (tells_of (record_of layout path) i (told_in w i))) x.post.span g.number (read_most c) g.call x.phase) (sym l) at;
    }

pub reading_begins : (layout : Layout) (path : List Item) (i k first : ℕ) (call : Call) → (k == i) ≡ false → Reading layout k first (made_of layout path) (heard_of layout path)
    → Reading layout k first (done (made_of layout path) (Begins i call)) (Starts (heard_of layout path) i call)
reading_begins layout path i k first call e g =
    let w : World = world_of layout path in
    let c : Config = layout.config in
    let l : (begin w i call).seat k ≡ w.seat k = begin_stays w i k call e in
    record {
      table = g.table;
      busy = rw l g.busy;
      call = g.call;
      call_is = rw l g.call_is;
      reads = g.reads;
      number = g.number;
      turns = g.turns;
      at = subst (λ (x : Local). call_at c (costs_at (publishes_rows c.scheme) (place_of c g.call) (record_of layout path)) x.post.span g.number (read_most c) g.call x.phase) (sym l) g.at;
    }

-- it has taken few turns
call_few : (c : Config) (x : Costs) (span : Option Interval) (n : ℕ) (call : Call) (phase : Phase) → reads_rows call ≡ true → call_at c x span n (read_most c) call phase → n ≤ read_most c
call_few c x span n (calls.Get key) phase r h = get_few c x key span n (read_most c) phase h
call_few c x span n (calls.Hold key) phase r h = hold_few c x key span n (read_most c) phase h
call_few c x span n call phase r h = absurd (cc)

pub reading_few : (layout : Layout) (k first : ℕ) (made : Made) (h : History) → Reading layout k first made h → turns_by k h ≤ first + read_most layout.config
reading_few layout k first made h g = let a = call_few layout.config _ (made.world.seat k).post.span g.number g.call (made.world.seat k).phase g.reads g.at in let b = g.turns in omega (arith, a, b)
