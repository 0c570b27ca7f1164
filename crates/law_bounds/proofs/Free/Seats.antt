-- Among so many turns of a seat something is done: twice as many as among which it is that, or the tail goes on, which is behind by one
-- value at most.
use Rattle.std.proofs.Common.{append_assoc, length-append, ℕ, zero, suc, ◌≡◌, ◌≤◌, ◌<◌, ◌+◌, Bool, true, false, List, [], ◌∷◌, ◌++◌, length, ◌⊎◌, inl, inr, refl, sym, ap, ◌∙◌, subst, arith}
use Rattle.std.proofs.lemmas.Bool.Decides.{nat_tests}
use Rattle.std.specs.Prelude.{◌==◌, nat_lt}
use Rattle.law_held.specs.inv.history.Heard.{heard_if, heard_of}
use Rattle.law_held.specs.inv.history.History.{Item, Begins, Steps, Made, done_if, fits, made_of, record_of, world_of}
use Rattle.law_held.specs.inv.history.Record.{Past, tells_of}
use Rattle.law_held.specs.inv.history.Record.Past.{Start, Then}
use Rattle.law_held.specs.inv.history.Turns.{History}
use Rattle.law_held.specs.inv.model.World.{told_in}
use Rattle.law_held.specs.inv.model.defs.declared.event.Event.{Event}
use Rattle.law_held.specs.inv.model.defs.declared.event.Event.TheVariants as events
use Rattle.law_held.specs.inv.model.defs.declared.event.Root.TheVariants as roots
use Rattle.law_held.specs.inv.model.words.Place.{is_valid}
use Rattle.law_held.specs.inv.model.words.declared.layout.Layout.{Layout}
use Rattle.law_held.specs.laws.StateAt.{one, tails_by, tails_of, told}
use Rattle.law_held.specs.laws.StructuresAt.{queued_of}
use Rattle.law_bounds.specs.Free.{SeatsGetOn, free_most, is_done, still_most, turns_by}
use Rattle.law_bounds.proofs.Free.Ahead.{ended, joined, next_heard, next_made, seats_go_ahead}
use Rattle.law_bounds.proofs.Free.Goes.{turns_other, turns_own}
use Rattle.law_bounds.proofs.Free.Told.{is_ahead}
use Rattle.law_bounds.proofs.Lags.Keeps.{tails_keep_up}

-- what is told is something done, or the tail goes on
one_ahead : (event : Event) (a d t : ℕ) → a ≡ d + t → a + one (is_ahead event) ≡ d + one (is_done event) + tails_by event t
one_ahead (events.Link (roots.Bucket bucket) slot) a d t e = omega (arith, e)
one_ahead (events.Link roots.Head slot) a d t e = omega (arith, e)
one_ahead (events.Link roots.Tail slot) a d t e = omega (arith, e)
one_ahead (events.Link (roots.Next parent) slot) a d t e = omega (arith, e)
one_ahead event a d t e = let x = plus_last d t (one (is_done event)) in omega (arith, e, x)
  where
    plus_last : (d t n : ℕ) → d + t + n ≡ d + n + t
    plus_last d t n = omega arith

ahead_sum : (p : Past) → told is_ahead p ≡ told is_done p + tails_of p
ahead_sum Start = refl
ahead_sum (Then p i event) = one_ahead event (told is_ahead p) (told is_done p) (tails_of p) (ahead_sum p)

-- no more values are queued than is done
one_held : (p : Past) (i : ℕ) (event : Event) (q n : ℕ) → length (queued_of p) + n ≤ q + told is_done p → length (queued_of (Then p i event)) + n ≤ q + told is_done (Then p i event)
one_held p i (events.Queued number value) q n h = let a = length-append (queued_of p) (value ∷ []) in omega (arith, a, h)
one_held p i event q n h = omega (arith, h)

told_held : (i : ℕ) (es : List Event) (p : Past) (q n : ℕ) → length (queued_of p) + n ≤ q + told is_done p → length (queued_of (tells_of p i es)) + n ≤ q + told is_done (tells_of p i es)
told_held i [] p q n h = h
told_held i (event ∷ es) p q n h = told_held i es (Then p i event) q n (one_held p i event q n h)

abbrev HeldBy : (q n : ℕ) → Made → Type 0
HeldBy q n made = length (queued_of made.past) + n ≤ q + told is_done made.past

item_held : (layout : Layout) (path : List Item) (item : Item) (q n : ℕ) (fit : Bool) → fits (world_of layout path) item ≡ fit → HeldBy q n (made_of layout path) → HeldBy q n (done_if (made_of layout path) item fit)
item_held layout path item q n false e h = h
item_held layout path (Begins i call) q n true e h = one_held (record_of layout path) i (events.Begin call) q n h
item_held layout path (Steps i) q n true e h = told_held i (told_in (world_of layout path) i) (record_of layout path) q n h

along_held : (layout : Layout) (more path : List Item) (q n : ℕ) → HeldBy q n (made_of layout path) → HeldBy q n (made_of layout (path ++ more))
along_held layout [] path q n h = subst (λ (xs : List Item). HeldBy q n (made_of layout xs)) (sym (ended path)) h
along_held layout (item ∷ more) path q n h =
    let fit : Bool = fits (world_of layout path) item in
    let m = next_made layout path item fit refl in
    let next : HeldBy q n (made_of layout (path ++ item ∷ [])) = subst (λ (x : Made). HeldBy q n x) (sym m) (item_held layout path item q n fit refl h) in
    subst (λ (xs : List Item). HeldBy q n (made_of layout xs)) (joined path item more) (along_held layout more (path ++ item ∷ []) q n next)

-- a stretch is cut where a seat has taken so many turns of it
record Cut (layout : Layout) (items more : List Item) (k n : ℕ) : Type 0 where
  first : List Item
  last : List Item
  cut : first ++ last ≡ more
  turns : turns_by k (heard_of layout (items ++ first)) ≡ turns_by k (heard_of layout items) + n

own_turn : (k i : ℕ) (h : History) (es : List Event) (same : Bool) → (k == i) ≡ same → (turns_by k (History.Turns h i es) ≡ turns_by k h) ⊎ (turns_by k (History.Turns h i es) ≡ turns_by k h + 1)
own_turn k i h es true e = inr (let one : i ≡ k = grind (arith, nat_tests) in subst (λ (j : ℕ). turns_by k (History.Turns h j es) ≡ turns_by k h + 1) (sym one) (turns_own k h es))
own_turn k i h es false e = inl (turns_other k i h es e)

item_turn : (layout : Layout) (path : List Item) (item : Item) (k : ℕ) (fit : Bool) → (turns_by k (heard_if (world_of layout path) item fit (heard_of layout path)) ≡ turns_by k (heard_of layout path)) ⊎ (turns_by k (heard_if (world_of layout path) item fit (heard_of layout path)) ≡ turns_by k (heard_of layout path) + 1)
item_turn layout path item k false = inl refl
item_turn layout path (Begins i call) k true = inl refl
item_turn layout path (Steps i) k true = own_turn k i (heard_of layout path) (told_in (world_of layout path) i) (k == i) refl

next_turn : (layout : Layout) (path : List Item) (item : Item) (k : ℕ) → (turns_by k (heard_of layout (path ++ item ∷ [])) ≡ turns_by k (heard_of layout path)) ⊎ (turns_by k (heard_of layout (path ++ item ∷ [])) ≡ turns_by k (heard_of layout path) + 1)
next_turn layout path item k =
    let fit : Bool = fits (world_of layout path) item in
    subst (λ (h : History). (turns_by k h ≡ turns_by k (heard_of layout path)) ⊎ (turns_by k h ≡ turns_by k (heard_of layout path) + 1)) (sym (next_heard layout path item fit refl)) (item_turn layout path item k fit)

longer : (layout : Layout) (items : List Item) (item : Item) (more : List Item) (k n m : ℕ) → turns_by k (heard_of layout (items ++ item ∷ [])) + m ≡ turns_by k (heard_of layout items) + n → Cut layout (items ++ item ∷ []) more k m → Cut layout items (item ∷ more) k n
longer layout items item more k n m e c = record {
  first = item ∷ c.first;
  last = c.last;
  cut = ap (λ (xs : List Item). item ∷ xs) c.cut;
  turns = ap (λ (xs : List Item). turns_by k (heard_of layout xs)) (sym (joined items item c.first)) ∙ c.turns ∙ e;
}

longer_by : (layout : Layout) (items : List Item) (item : Item) (more : List Item) (k n : ℕ) → turns_by k (heard_of layout items) + suc n ≤ turns_by k (heard_of layout (items ++ item ∷ more))
    → ((m : ℕ) → turns_by k (heard_of layout (items ++ item ∷ [])) + m ≤ turns_by k (heard_of layout ((items ++ item ∷ []) ++ more)) → Cut layout (items ++ item ∷ []) more k m)
    → (turns_by k (heard_of layout (items ++ item ∷ [])) ≡ turns_by k (heard_of layout items)) ⊎ (turns_by k (heard_of layout (items ++ item ∷ [])) ≡ turns_by k (heard_of layout items) + 1) → Cut layout items (item ∷ more) k (suc n)
longer_by layout items item more k n l f (inl e) =
    let all = ap (λ (xs : List Item). turns_by k (heard_of layout xs)) (joined items item more) in
    longer layout items item more k (suc n) (suc n) (omega (arith, e)) (f (suc n) (omega (arith, all, e, l)))
longer_by layout items item more k n l f (inr e) =
    let all = ap (λ (xs : List Item). turns_by k (heard_of layout xs)) (joined items item more) in
    longer layout items item more k (suc n) n (omega (arith, e)) (f n (omega (arith, all, e, l)))

cut_at : (layout : Layout) (more items : List Item) (k n : ℕ) → turns_by k (heard_of layout items) + n ≤ turns_by k (heard_of layout (items ++ more)) → Cut layout items more k n
cut_at layout more items k zero l = record { first = []; last = more; cut = refl; turns = let a = ap (λ (xs : List Item). turns_by k (heard_of layout xs)) (ended items) in omega (arith, a) }
cut_at layout [] items k (suc n) l = absurd (let a = ap (λ (xs : List Item). turns_by k (heard_of layout xs)) (ended items) in omega (arith, a, l))
cut_at layout (item ∷ more) items k (suc n) l = longer_by layout items item more k n l (λ m x. cut_at layout more (items ++ item ∷ []) k m x) (next_turn layout items item k)

-- where nothing is done the tail goes on once at most
tails_few : (layout : Layout) (items more : List Item) → is_valid layout ≡ true → told is_done (record_of layout (items ++ more)) ≤ told is_done (record_of layout items) → told is_ahead (record_of layout (items ++ more)) ≤ told is_ahead (record_of layout items) + 1
tails_few layout items more d l =
    let a = ahead_sum (record_of layout items) in
    let b = ahead_sum (record_of layout (items ++ more)) in
    let x = (tails_keep_up layout items d).high in
    let y = (tails_keep_up layout (items ++ more) d).low in
    let h = along_held layout more items (length (queued_of (record_of layout items))) (told is_done (record_of layout items)) (omega arith) in
    omega (arith, a, b, x, y, h, l)

whole_of : (items more first last : List Item) → first ++ last ≡ more → (items ++ first) ++ last ≡ items ++ more
whole_of items more first last e = append_assoc items first last ∙ ap (λ (xs : List Item). items ++ xs) e

twice_by : (layout : Layout) (items more : List Item) (k : ℕ) → is_valid layout ≡ true → turns_by k (heard_of layout items) + free_most layout.config < turns_by k (heard_of layout (items ++ more)) → (c : Cut layout items more k (still_most layout.config + 1)) → (items ++ c.first) ++ c.last ≡ items ++ more
    → told is_ahead (record_of layout items) + 2 ≤ told is_ahead (record_of layout (items ++ more))
twice_by layout items more k d l c whole =
    let t = c.turns in
    let turns = ap (λ (xs : List Item). turns_by k (heard_of layout xs)) whole in
    let a = seats_go_ahead layout items c.first k d (omega (arith, t)) in
    let b = seats_go_ahead layout (items ++ c.first) c.last k d (omega (arith, t, turns, l)) in
    let e = ap (λ (xs : List Item). told is_ahead (record_of layout xs)) whole in
    omega (arith, a, b, e)

twice_ahead : (layout : Layout) (items more : List Item) (k : ℕ) → is_valid layout ≡ true → turns_by k (heard_of layout items) + free_most layout.config < turns_by k (heard_of layout (items ++ more)) → told is_ahead (record_of layout items) + 2 ≤ told is_ahead (record_of layout (items ++ more))
twice_ahead layout items more k d l =
    let c = cut_at layout more items k (still_most layout.config + 1) (omega (arith, l)) in
    twice_by layout items more k d l c (whole_of items more c.first c.last c.cut)

pub seats_get_on : SeatsGetOn
seats_get_on layout items more k d l = by (nat_lt (told is_done (record_of layout items)) (told is_done (record_of layout (items ++ more)))) refl
  where
    by : (some : Bool) → nat_lt (told is_done (record_of layout items)) (told is_done (record_of layout (items ++ more))) ≡ some → told is_done (record_of layout items) < told is_done (record_of layout (items ++ more))
    by true e = grind (arith, nat_tests, e)
    by false e =
        let a = twice_ahead layout items more k d l in
        let b = tails_few layout items more d (grind (arith, nat_tests, e)) in
        absurd (omega (arith, a, b))
