-- So something is done among so many turns for each seat, whichever seats take them.
use Rattle.std.proofs.Common.{ℕ, zero, suc, ◌≡◌, ◌≤◌, ◌<◌, ◌+◌, ◌*◌, Bool, true, false, List, [], ◌∷◌, ◌++◌, refl, sym, ◌∙◌, subst, arith}
use Rattle.std.proofs.lemmas.Bool.Decides.{nat_tests}
use Rattle.std.specs.Prelude.{◌==◌, nat_lt}
use Rattle.law_held.specs.inv.history.Heard.{heard_if, heard_of}
use Rattle.law_held.specs.inv.history.History.{Item, Begins, Steps, Made, done_if, fits, made_of, record_of, world_of}
use Rattle.law_held.specs.inv.history.Turns.{History}
use Rattle.law_held.specs.inv.history.Turns.History.{Blank, Starts, Turns}
use Rattle.law_held.specs.inv.model.World.{World, is_busy, told_in}
use Rattle.law_held.specs.inv.model.defs.declared.call.Call.{Call}
use Rattle.law_held.specs.inv.model.defs.declared.event.Event.{Event}
use Rattle.law_held.specs.inv.model.words.declared.layout.Layout.{Layout}
use Rattle.law_held.specs.laws.StateAt.{told}
use Rattle.law_held.proofs.inv.history.Along.{low_seat}
use Rattle.law_bounds.specs.Free.{LockFree, all_turns, free_most, is_done, turns_by}
use Rattle.law_bounds.proofs.Free.Goes.{turns_other, turns_own}
use Rattle.law_bounds.proofs.Free.Ahead.{ended, joined, next_heard, next_made}
use Rattle.law_bounds.proofs.Free.Seats.{seats_get_on}

-- the turns of so many seats
abbrev turns_below : ℕ → History → ℕ
turns_below zero h = 0
turns_below (suc n) h = turns_below n h + turns_by n h

below_starts : (n : ℕ) (h : History) (i : ℕ) (call : Call) → turns_below n (Starts h i call) ≡ turns_below n h
below_starts zero h i call = refl
below_starts (suc n) h i call = let a = below_starts n h i call in omega (arith, a)

below_out : (n : ℕ) (h : History) (i : ℕ) (es : List Event) → n ≤ i → turns_below n (Turns h i es) ≡ turns_below n h
below_out zero h i es l = refl
below_out (suc n) h i es l =
    let a = below_out n h i es (omega (arith, l)) in
    let e : (n == i) ≡ false = grind (arith, nat_tests, l) in
    let b = turns_other n i h es e in
    omega (arith, a, b)

-- of its own turn the last seat has one more
below_own : (n : ℕ) (h : History) (j : ℕ) (es : List Event) → j ≡ n → turns_below (suc n) (Turns h j es) ≡ turns_below (suc n) h + 1
below_own n h j es e =
    let a = below_out n h j es (omega (arith, e)) in
    let b : turns_by n (Turns h j es) ≡ turns_by n h + 1 = subst (λ (m : ℕ). turns_by n (Turns h m es) ≡ turns_by n h + 1) (sym e) (turns_own n h es) in
    omega (arith, a, b)

below_by : (n : ℕ) (h : History) (i : ℕ) (es : List Event) (same : Bool) → (n == i) ≡ same → i < suc n → (i < n → turns_below n (Turns h i es) ≡ turns_below n h + 1) → turns_below (suc n) (Turns h i es) ≡ turns_below (suc n) h + 1
below_by n h i es true e l f = below_own n h i es (grind (arith, nat_tests))
below_by n h i es false e l f =
    let q : i < n = grind (arith, nat_tests, l, e) in
    let a = f q in
    let b = turns_other n i h es e in
    omega (arith, a, b)

below_in : (n : ℕ) (h : History) (i : ℕ) (es : List Event) → i < n → turns_below n (Turns h i es) ≡ turns_below n h + 1
below_in zero h i es l = absurd (omega (arith, l))
below_in (suc n) h i es l = below_by n h i es (n == i) refl l (λ q. below_in n h i es q)

-- all turns are of the table's seats
record AllTurns (layout : Layout) (made : Made) (h : History) : Type 0 where
  table : made.world.layout ≡ layout
  all : all_turns h ≡ turns_below layout.config.seats h

all_item : (layout : Layout) (path : List Item) (item : Item) (fit : Bool) → fits (world_of layout path) item ≡ fit → AllTurns layout (made_of layout path) (heard_of layout path) → AllTurns layout (done_if (made_of layout path) item fit) (heard_if (world_of layout path) item fit (heard_of layout path))
all_item layout path item false e g = g
all_item layout path (Begins i call) true e g = record { table = g.table; all = g.all ∙ sym (below_starts layout.config.seats (heard_of layout path) i call) }
all_item layout path (Steps i) true e g =
    let w : World = world_of layout path in
    let b : i < layout.config.seats = subst (λ (table : Layout). i < table.config.seats) g.table (low_seat i w.layout.config.seats (is_busy w i) e) in
    let a = below_in layout.config.seats (heard_of layout path) i (told_in w i) b in
    let q = g.all in
    record { table = g.table; all = omega (arith, a, q) }

all_snoc : (layout : Layout) (path : List Item) (item : Item) → AllTurns layout (made_of layout path) (heard_of layout path) → AllTurns layout (made_of layout (path ++ item ∷ [])) (heard_of layout (path ++ item ∷ []))
all_snoc layout path item g =
    let fit : Bool = fits (world_of layout path) item in
    let m = next_made layout path item fit refl in
    let h = next_heard layout path item fit refl in
    subst (λ (x : Made). AllTurns layout x (heard_of layout (path ++ item ∷ []))) (sym m)
    (subst (λ (x : History). AllTurns layout (done_if (made_of layout path) item fit) x) (sym h) (all_item layout path item fit refl g))

all_along : (layout : Layout) (more path : List Item) → AllTurns layout (made_of layout path) (heard_of layout path) → AllTurns layout (made_of layout (path ++ more)) (heard_of layout (path ++ more))
all_along layout [] path g = subst (λ (xs : List Item). AllTurns layout (made_of layout xs) (heard_of layout xs)) (sym (ended path)) g
all_along layout (item ∷ more) path g =
    subst (λ (xs : List Item). AllTurns layout (made_of layout xs) (heard_of layout xs)) (joined path item more) (all_along layout more (path ++ item ∷ []) (all_snoc layout path item g))

below_none : (n : ℕ) → turns_below n Blank ≡ 0
below_none zero = refl
below_none (suc n) = let a = below_none n in omega (arith, a)

all_of_seats : (layout : Layout) (items : List Item) → all_turns (heard_of layout items) ≡ turns_below layout.config.seats (heard_of layout items)
all_of_seats layout items = let g = all_along layout items [] (record { table = refl; all = sym (below_none layout.config.seats) }) in g.all

-- where each seat has taken few more, all have
below_few : (n most : ℕ) (old new : History) → ((k : ℕ) → turns_by k new ≤ turns_by k old + most) → turns_below n new ≤ turns_below n old + n * most
below_few zero most old new f = omega arith
below_few (suc n) most old new f =
    let a = below_few n most old new f in
    let b = f n in
    let e = apart n most in
    omega (arith, a, b, e)
  where
    apart : (n most : ℕ) → suc n * most ≡ n * most + most
    apart n most = grind arith

few_or : (old new most : ℕ) (b : Bool) → nat_lt (old + most) new ≡ b → (old + most < new → ⊥) → new ≤ old + most
few_or old new most true e f = absurd (f (grind (arith, nat_tests, e)))
few_or old new most false e f = grind (arith, nat_tests, e)

pub lock_free : LockFree
lock_free layout items more d l = by (nat_lt (told is_done (record_of layout items)) (told is_done (record_of layout (items ++ more)))) refl
  where
    few : nat_lt (told is_done (record_of layout items)) (told is_done (record_of layout (items ++ more))) ≡ false → (k : ℕ) → turns_by k (heard_of layout (items ++ more)) ≤ turns_by k (heard_of layout items) + free_most layout.config
    few e k =
        few_or (turns_by k (heard_of layout items)) (turns_by k (heard_of layout (items ++ more))) (free_most layout.config) (nat_lt (turns_by k (heard_of layout items) + free_most layout.config) (turns_by k (heard_of layout (items ++ more)))) refl
        (λ m. let s = seats_get_on layout items more k d m in not_less (told is_done (record_of layout items)) (told is_done (record_of layout (items ++ more))) e s)
      where
        not_less : (a b : ℕ) → nat_lt a b ≡ false → a < b → ⊥
        not_less a b e s = grind (arith, nat_tests, e, s)

    by : (some : Bool) → nat_lt (told is_done (record_of layout items)) (told is_done (record_of layout (items ++ more))) ≡ some → told is_done (record_of layout items) < told is_done (record_of layout (items ++ more))
    by true e = grind (arith, nat_tests, e)
    by false e =
        let a = all_of_seats layout items in
        let b = all_of_seats layout (items ++ more) in
        let s = below_few layout.config.seats (free_most layout.config) (heard_of layout items) (heard_of layout (items ++ more)) (few e) in
        absurd (omega (arith, a, b, s, l))
