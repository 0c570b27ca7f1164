-- A get or a hold under way has taken no more turns than that: the steps that its seat counts are its turns.
use Rattle.std.proofs.Common.{ℕ, ◌≡◌, ◌≤◌, ◌+◌, Bool, true, false, List, Option, refl, sym, ap, ◌∙◌, subst, arith}
use Rattle.std.proofs.lemmas.Bool.Decides.{nat_tests}
use Rattle.std.specs.Prelude.{◌==◌}
use Rattle.law_held.specs.inv.history.Heard.{heard_of}
use Rattle.law_held.specs.inv.history.History.{Item, Made, record_of, world_of}
use Rattle.law_held.specs.inv.history.Record.{Past}
use Rattle.law_held.specs.inv.history.Turns as schedule
use Rattle.law_held.specs.inv.history.Turns.History.{Starts, Turns}
use Rattle.law_held.specs.inv.history.Turns.{turns_of}
use Rattle.law_held.specs.inv.model.defs.declared.call.Call.{Call}
use Rattle.law_held.specs.inv.model.defs.declared.call.Call.TheVariants as calls
use Rattle.law_held.specs.inv.model.defs.declared.lifetime.Interval.{Interval}
use Rattle.law_held.specs.inv.model.Calls.{Gets, Holds, Opens, Clears, Finishes, Answering, Releases, Rehold, Loosens, Getting, Keeping, Phase, Runs, Works}
use Rattle.law_held.specs.inv.model.Locals.{Local}
use Rattle.law_held.specs.inv.model.World.{World, begin, is_busy, step, told_in}
use Rattle.law_held.specs.inv.model.words.Place.{is_valid}
use Rattle.law_held.specs.inv.model.words.declared.config.Config.{Config}
use Rattle.law_held.specs.inv.model.words.declared.layout.Layout.{Layout}
use Rattle.law_held.proofs.inv.model.Facts.{same_number}
use Rattle.law_held.proofs.inv.shapes.Frame.{begin_begins, begin_stays, seat_stays}
use Rattle.law_held.proofs.Roots.Ways.{answers_of}
use Rattle.law_reuse.proofs.OneStep.Along.{Kept, history_keeps}
use Rattle.law_reuse.proofs.Turns.Counted.{histories_count}
use Rattle.law_bounds.specs.Gets.{ReadsGoOn, few_in}
use Rattle.law_bounds.proofs.Gets.Ahead.{Costs}
use Rattle.law_bounds.proofs.Gets.Calls.{get_at, hold_at}
use Rattle.law_bounds.proofs.Gets.Keeps.{few_by, paced, paced_by}

-- what a seat counts
record Counted (made : Made) (h : schedule.History) : Type 0 where
  turns : (k : ℕ) → is_busy made.world k ≡ true → turns_of k h ≡ (made.world.seat k).post.steps

begin_turns : (w : World) (h : schedule.History) (i k : ℕ) (call : Call) (same : Bool) → (k == i) ≡ same → ((m : ℕ) → is_busy w m ≡ true → turns_of m h ≡ (w.seat m).post.steps) → is_busy (begin w i call) k ≡ true → turns_of k (Starts h i call) ≡ ((begin w i call).seat k).post.steps
begin_turns w h i k call true e g b =
    let one : i ≡ k = grind (arith, nat_tests) in
    let z : turns_of i (Starts h i call) ≡ 0 = rw (same_number i) refl in
    subst (λ (m : ℕ). turns_of m (Starts h i call) ≡ ((begin w i call).seat m).post.steps) one (z ∙ sym (ap (λ (l : Local). l.post.steps) (begin_begins w i call)))
begin_turns w h i k call false e g b =
    let l : (begin w i call).seat k ≡ w.seat k = begin_stays w i k call e in
    let z : turns_of k (Starts h i call) ≡ turns_of k h = rw e refl in
    z ∙ g k (rw (sym l) b) ∙ sym (ap (λ (l : Local). l.post.steps) l)

step_turns : (w : World) (h : schedule.History) (i k : ℕ) (same : Bool) → (k == i) ≡ same → ((step w i).seat i).post.steps ≡ (w.seat i).post.steps + 1 → is_busy w i ≡ true → ((m : ℕ) → is_busy w m ≡ true → turns_of m h ≡ (w.seat m).post.steps) → is_busy (step w i) k ≡ true → turns_of k (Turns h i (told_in w i)) ≡ ((step w i).seat k).post.steps
step_turns w h i k true e m y g b =
    let one : i ≡ k = grind (arith, nat_tests) in
    let z : turns_of i (Turns h i (told_in w i)) ≡ turns_of i h + 1 = rw (same_number i) refl in
    subst (λ (j : ℕ). turns_of j (Turns h i (told_in w i)) ≡ ((step w i).seat j).post.steps) one (z ∙ ap (λ (n : ℕ). n + 1) (g i y) ∙ sym m)
step_turns w h i k false e m y g b =
    let l : (step w i).seat k ≡ w.seat k = seat_stays w i k e in
    let z : turns_of k (Turns h i (told_in w i)) ≡ turns_of k h = rw e refl in
    z ∙ g k (rw (sym l) b) ∙ sym (ap (λ (l : Local). l.post.steps) l)

counted : Kept Counted
counted = record {
  begins = λ made h i call a b f m g. record { turns = λ k. begin_turns made.world h i k call (k == i) refl g.turns };
  steps = λ made h i a b y g. record { turns = λ k. step_turns made.world h i k (k == i) refl (a.more i y) y g.turns };
}

-- a seat's steps are its turns
pub turns_are : (layout : Layout) (items : List Item) (k : ℕ) → is_valid layout ≡ true → is_busy (world_of layout items) k ≡ true → turns_of k (heard_of layout items) ≡ ((world_of layout items).seat k).post.steps
turns_are layout items k d = let g = history_keeps layout Counted counted d items (record { turns = λ m b. absurd (cc) }) in g.turns k

-- a call that is under way has steps to come
pub get_few : (c : Config) (x : Costs) (k : ℕ) (span : Option Interval) (n most : ℕ) (phase : Phase) → get_at c x k span n most phase → n ≤ most
get_few c x k span n most (Runs (Opens (Gets key)) base) h = let a = h.1 in omega (arith, a)
get_few c x k span n most (Runs (Clears (Gets key) (Answering answer)) base) h = omega (arith, h)
get_few c x k span n most (Runs (Finishes (Gets key) (Answering answer)) base) h = omega (arith, h)
get_few c x k span n most (Works (Getting key at)) h = omega (arith, h)
get_few c x k span n most phase h = absurd h

pub hold_few : (c : Config) (x : Costs) (k : ℕ) (span : Option Interval) (n most : ℕ) (phase : Phase) → hold_at c x k span n most phase → n ≤ most
hold_few c x k span n most (Runs (Releases (Rehold key)) base) h = let a = h.1 in omega (arith, a)
hold_few c x k span n most (Works (Keeping (Loosens (Rehold key)))) h = let a = h.1 in omega (arith, a)
hold_few c x k span n most (Runs (Opens (Holds key)) base) h = let a = h.1 in omega (arith, a)
hold_few c x k span n most (Runs (Clears (Holds key) (Answering answer)) base) h = omega (arith, h)
hold_few c x k span n most (Runs (Finishes (Holds key) (Answering answer)) base) h = omega (arith, h)
hold_few c x k span n most phase h = absurd h

call_few : (c : Config) (p : Past) (k : ℕ) (call : Call) (span : Option Interval) (n : ℕ) (phase : Phase) → paced_by c p k call span n phase → few_in c k p call n ≡ true
call_few c p k (calls.Get key) span n phase h = few_by c k p (calls.Get key) n (get_few c _ key span n _ phase h)
call_few c p k (calls.Hold key) span n phase h = few_by c k p (calls.Hold key) n (hold_few c _ key span n _ phase h)
call_few c p k call span n phase h = refl

pub reads_go_on : ReadsGoOn
reads_go_on layout items i d f b =
    let w : World = world_of layout items in
    let p : Past = record_of layout items in
    let c = histories_count layout items d in
    let y : is_busy w i ≡ true = sym (c.busy i) ∙ b in
    let a = answers_of layout items d in
    let g = paced layout items d f in
    let few : few_in layout.config i p (w.seat i).call (w.seat i).post.steps ≡ true = call_few layout.config p i (w.seat i).call (w.seat i).post.span (w.seat i).post.steps (w.seat i).phase (g.seats i y) in
    rw ((a.seats i).began y, turns_are layout items i d y) few
