-- So never are more turns taken since something was done; and histories in which one more is taken are refused.
use Rattle.std.proofs.Common.{ℕ, zero, suc, ◌≡◌, ◌≤◌, ◌<◌, ◌+◌, ◌*◌, Bool, true, false, List, [], ◌∷◌, ◌++◌, refl, sym, ap, ◌∙◌, subst, arith}
use Rattle.std.proofs.lemmas.Bool.Decides.{nat_tests}
use Rattle.std.specs.Prelude.{nat_lt}
use Rattle.law_held.specs.inv.history.Heard.{heard_of, heard_if}
use Rattle.law_held.specs.inv.history.History.{Item, Begins, Steps, Made, done_if, fits, made_of, record_of, world_of}
use Rattle.law_held.specs.inv.history.Turns.{CountsTurns, History, begins_none, ends_with, is_busy, tells_end, turns_of}
use Rattle.law_held.specs.inv.model.World.{World, told_in}
use Rattle.law_held.specs.inv.model.defs.declared.call.Call.{Call}
use Rattle.law_held.specs.inv.model.defs.declared.event.Event.{Event}
use Rattle.law_held.specs.inv.model.defs.declared.event.Event.TheVariants as events
use Rattle.law_held.specs.inv.model.defs.declared.event.Root.TheVariants as roots
use Rattle.law_held.specs.inv.model.words.declared.layout.Layout.{Layout}
use Rattle.law_held.specs.laws.StateAt.{told}
use Rattle.law_bounds.specs.Free.{HistoriesGetOn, all_turns, done_in, free_most, idle_turns, is_done}
use Rattle.law_bounds.specs.WrongSteps.{IdleRefused, goes_round}
use Rattle.law_bounds.proofs.Free.Told.{done_same}
use Rattle.law_bounds.proofs.Free.Ahead.{ended, joined, next_heard, next_made}
use Rattle.law_bounds.proofs.Free.Whole.{lock_free}

-- the last place of a history at which something was done, and what came since
record Idle (layout : Layout) (path : List Item) (made : Made) (h : History) : Type 0 where
  before : List Item
  more : List Item
  path_is : before ++ more ≡ path
  same : told is_done made.past ≡ told is_done (record_of layout before)
  turns : all_turns h ≡ all_turns (heard_of layout before) + idle_turns h

one_longer : (path : List Item) (item : Item) (before more : List Item) → before ++ more ≡ path → before ++ (more ++ item ∷ []) ≡ path ++ item ∷ []
one_longer path item [] more e = ap (λ (xs : List Item). xs ++ item ∷ []) e
one_longer path item (first ∷ before) more e = subst (λ (xs : List Item). (first ∷ before) ++ (more ++ item ∷ []) ≡ xs ++ item ∷ []) e (ap (λ (xs : List Item). first ∷ xs) (one_longer (before ++ more) item before more refl))

steps_idle : (layout : Layout) (path : List Item) (i : ℕ) (some : Bool) → done_in (told_in (world_of layout path) i) ≡ some → fits (world_of layout path) (Steps i) ≡ true → Idle layout path (made_of layout path) (heard_of layout path)
    → Idle layout (path ++ Steps i ∷ []) (done_if (made_of layout path) (Steps i) true) (heard_if (world_of layout path) (Steps i) true (heard_of layout path))
steps_idle layout path i true e f g =
    let m = next_made layout path (Steps i) true f in
    let h = next_heard layout path (Steps i) true f in
    record {
      before = path ++ Steps i ∷ [];
      more = [];
      path_is = ended (path ++ Steps i ∷ []);
      same = sym (ap (λ (x : Made). told is_done x.past) m);
      turns = rw e (let a = ap all_turns h in omega (arith, a));
    }
steps_idle layout path i false e f g =
    let w : World = world_of layout path in
    let t = g.turns in
    record {
      before = g.before;
      more = g.more ++ Steps i ∷ [];
      path_is = one_longer path (Steps i) g.before g.more g.path_is;
      same = done_same i (told_in w i) (record_of layout path) e ∙ g.same;
      turns = rw e (omega (arith, t));
    }

item_idle : (layout : Layout) (path : List Item) (item : Item) (fit : Bool) → fits (world_of layout path) item ≡ fit → Idle layout path (made_of layout path) (heard_of layout path)
    → Idle layout (path ++ item ∷ []) (done_if (made_of layout path) item fit) (heard_if (world_of layout path) item fit (heard_of layout path))
item_idle layout path item false f g = record { before = g.before; more = g.more ++ item ∷ []; path_is = one_longer path item g.before g.more g.path_is; same = g.same; turns = g.turns }
item_idle layout path (Begins i call) true f g =
    let s = g.same in
    record { before = g.before; more = g.more ++ Begins i call ∷ []; path_is = one_longer path (Begins i call) g.before g.more g.path_is; same = omega (arith, s); turns = g.turns }
item_idle layout path (Steps i) true f g = steps_idle layout path i (done_in (told_in (world_of layout path) i)) refl f g

snoc_idle : (layout : Layout) (path : List Item) (item : Item) → Idle layout path (made_of layout path) (heard_of layout path) → Idle layout (path ++ item ∷ []) (made_of layout (path ++ item ∷ [])) (heard_of layout (path ++ item ∷ []))
snoc_idle layout path item g =
    let fit : Bool = fits (world_of layout path) item in
    let m = next_made layout path item fit refl in
    let h = next_heard layout path item fit refl in
    subst (λ (x : Made). Idle layout (path ++ item ∷ []) x (heard_of layout (path ++ item ∷ []))) (sym m)
    (subst (λ (x : History). Idle layout (path ++ item ∷ []) (done_if (made_of layout path) item fit) x) (sym h) (item_idle layout path item fit refl g))

along_idle : (layout : Layout) (more path : List Item) → Idle layout path (made_of layout path) (heard_of layout path) → Idle layout (path ++ more) (made_of layout (path ++ more)) (heard_of layout (path ++ more))
along_idle layout [] path g = subst (λ (xs : List Item). Idle layout xs (made_of layout xs) (heard_of layout xs)) (sym (ended path)) g
along_idle layout (item ∷ more) path g =
    subst (λ (xs : List Item). Idle layout xs (made_of layout xs) (heard_of layout xs)) (joined path item more) (along_idle layout more (path ++ item ∷ []) (snoc_idle layout path item g))

few_by : (most n : ℕ) (b : Bool) → nat_lt most n ≡ b → (most < n → ⊥) → n ≤ most
few_by most n true e f = absurd (f (grind (arith, nat_tests, e)))
few_by most n false e f = grind (arith, nat_tests, e)

pub get_on : HistoriesGetOn
get_on layout items d = few_by (layout.config.seats * free_most layout.config) (idle_turns (heard_of layout items)) (nat_lt (layout.config.seats * free_most layout.config) (idle_turns (heard_of layout items))) refl none
  where
    all : Idle layout items (made_of layout items) (heard_of layout items)
    all = along_idle layout items [] (record { before = []; more = []; path_is = refl; same = refl; turns = refl })

    none : layout.config.seats * free_most layout.config < idle_turns (heard_of layout items) → ⊥
    none l = grows (lock_free layout all.before all.more d (later l))
      where
        later : layout.config.seats * free_most layout.config < idle_turns (heard_of layout items) → all_turns (heard_of layout all.before) + layout.config.seats * free_most layout.config < all_turns (heard_of layout (all.before ++ all.more))
        later l = let t = all.turns in let p = ap (λ (xs : List Item). all_turns (heard_of layout xs)) all.path_is in omega (arith, t, p, l)

        grows : told is_done (record_of layout all.before) < told is_done (record_of layout (all.before ++ all.more)) → ⊥
        grows g = let s = all.same in let p = ap (λ (xs : List Item). told is_done (record_of layout xs)) all.path_is in omega (arith, s, p, g)

-- the wrong histories
record Round (told : List Event) : Type 0 where
  none : done_in told ≡ false
  begins : begins_none told ≡ true
  ends : (n : ℕ) → ends_with n told ≡ true
  goes : tells_end told ≡ false

round_turns : (told : List Event) (call : Call) (n : ℕ) → Round told → idle_turns (goes_round call told n) ≡ n
round_turns told call zero r = refl
round_turns told call (suc n) r = let a = round_turns told call n r in rw r.none (omega (arith, a))

round_busy : (told : List Event) (call : Call) (n : ℕ) → Round told → is_busy 0 (goes_round call told n) ≡ true
round_busy told call zero r = refl
round_busy told call (suc n) r = rw (r.goes) (round_busy told call n r)

round_counts : (told : List Event) (call : Call) (n : ℕ) → Round told → CountsTurns (goes_round call told n)
round_counts told call zero r = (refl, tt)
round_counts told call (suc n) r = (rw (round_busy told call n r, r.begins, r.ends (turns_of 0 (goes_round call told n) + 1)) refl, round_counts told call n r)

round_refused : (told : List Event) → Round told → IdleRefused told
round_refused told r = record {
  refused = λ config call h. let a = round_turns told call (config.seats * free_most config + 1) r in absurd (omega (arith, a, h));
  taken = λ config call. let a = round_turns told call (config.seats * free_most config) r in omega (arith, a);
  counted = λ call turns. round_counts told call turns r;
}

pub idle_refused : IdleRefused []
idle_refused = round_refused [] (record { none = refl; begins = refl; ends = λ n. refl; goes = refl })

pub swings_refused : IdleRefused (events.Link roots.Tail 1 ∷ [])
swings_refused = round_refused (events.Link roots.Tail 1 ∷ []) (record { none = refl; begins = refl; ends = λ n. refl; goes = refl })
