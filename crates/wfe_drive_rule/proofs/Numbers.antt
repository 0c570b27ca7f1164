-- The numbers of seats stay in order where a view changes, where one is made, and where two are joined.
use Rattle.std.proofs.Common.{Bool, List, [], ap, arith, cond, false, inl, inr, refl, set, subst, sym, true, ⊎_elim, ℕ, ◌++◌, ◌+◌, ◌<◌, ◌∙◌, ◌∷◌, ◌≡◌, ◌≢◌, ◌≤◌, ◌⊎◌}
use Rattle.std.proofs.lemmas.Bool.Decides.{nat_tests}
use Rattle.std.proofs.lemmas.List.{length-append}
use Rattle.std.proofs.lemmas.List.Sums.{sum_by-append, sum_by_push}
use Rattle.std.specs.Prelude.{if◌then◌else◌, nat_lt, sum_by, ◌==◌}
use mathlib.Core.Option.{some}
use lib.ListN.{get_elem?}
use Rattle.atomic_table.proofs.Lists.{at_set, at_snoc}
use Rattle.wfe_core.specs.words.declared.layout.Layout.{Layout}
use Rattle.wfe_drive_rule.specs.Moves.{newcomer, one_more, taken_in}
use Rattle.wfe_drive_rule.specs.Rule.{Numbered, counted, had, marking, marks_at, size}
use Rattle.wfe_drive_rule.specs.Views.{Track, View, seat_of, spent}
use Rattle.wfe_drive_rule.proofs.Sums.{sum_out, sum_same, sum_set, sum_two}

-- another view with as many tracks of each seat
pub record Alike (v w : View) : Type 0 where
  pub made : w.made ≡ v.made
  pub size_is : size w ≡ size v
  pub had_is : (seat : ℕ) → had seat w ≡ had seat v

-- whatever it says, it says 0 or the count
says_by : (a b m : ℕ) → b ≡ a → (a ≡ 0) ⊎ (a ≡ m) → (b ≡ 0) ⊎ (b ≡ m)
says_by a b m e (inl z) = inl (e ∙ z)
says_by a b m e (inr z) = inr (e ∙ z)

pub numbers_set : (layout : Layout) (views : List View) (id : ℕ) (v w : View) (m : ℕ) → get_elem? views id ≡ some v → Alike v w → Numbered layout views m → Numbered layout (set views id w) m
numbers_set layout views id v w m e a n = record {
  some_made = n.some_made;
  most = n.most;
  once = λ seat. sum_same (had seat) views id v w e (a.had_is seat) ∙ n.once seat;
  all = sum_same size views id v w e a.size_is ∙ n.all;
  says = λ j u g.
      ⊎_elim (λ q. subst (λ (z : View). (z.made ≡ 0) ⊎ (z.made ≡ m)) q.1 (says_by v.made w.made m a.made (n.says id v e))) (λ q. n.says j u q.1) (at_set views id j w u g);
  sum = sum_same counted views id v w e a.made ∙ n.sum;
}

-- a seat has a place just where its number is below the count
pub once_most : (layout : Layout) (views : List View) (m seat : ℕ) → Numbered layout views m → sum_by (had seat) views ≤ 1
once_most layout views m seat n = by_test _ _ (n.once seat)
  where
    by_test : (n : ℕ) (b : Bool) → n ≡ (if b then 1 else 0) → n ≤ 1
    by_test n true e = omega (arith, e)
    by_test n false e = omega (arith, e)

-- one number more
next_number : (m seat n : ℕ) (a b : Bool) → (m == seat) ≡ a → nat_lt seat m ≡ b → n ≡ (if b then 1 else 0) → n + (0 + (if a then 1 else 0)) ≡ (if nat_lt seat (m + 1) then 1 else 0)
next_number m seat n true true q r e = absurd (grind (arith, nat_tests))
next_number m seat n true false q r e = let w : nat_lt seat (m + 1) ≡ true = grind (arith, nat_tests) in rw w (omega (arith, e))
next_number m seat n false true q r e = let w : nat_lt seat (m + 1) ≡ true = grind (arith, nat_tests) in rw w (omega (arith, e))
next_number m seat n false false q r e = let w : nat_lt seat (m + 1) ≡ false = grind (arith, nat_tests) in rw w (omega (arith, e))

-- the handle that counts says the count
pub counts_all : (layout : Layout) (views : List View) (id : ℕ) (v : View) (m : ℕ) → get_elem? views id ≡ some v → 1 ≤ v.made → Numbered layout views m → v.made ≡ m
counts_all layout views id v m e h n = by_word v.made h (n.says id v e)
  where
    by_word : (a : ℕ) → 1 ≤ a → (a ≡ 0) ⊎ (a ≡ m) → a ≡ m
    by_word a h (inl z) = absurd (omega (arith, h, z))
    by_word a h (inr z) = z

pub numbers_split : (layout : Layout) (views : List View) (id : ℕ) (v : View) (m : ℕ) → get_elem? views id ≡ some v → v.made ≡ m → 1 ≤ m → m < layout.config.seats → Numbered layout views m
    → Numbered layout (set views id (one_more v) ++ newcomer v ∷ []) (m + 1)
numbers_split layout views id v m e is h room n =
    let us : List View = set views id (one_more v) in
    record {
      some_made = omega arith;
      most = omega (arith, room);
      once = λ seat. sum_by_push (had seat) us (newcomer v) ∙ ap (λ k. k + had seat (newcomer v)) (sum_same (had seat) views id v (one_more v) e refl)
          ∙ next_number m seat _ _ _ (ap (λ k. k == seat) (sym is)) refl (n.once seat);
      all = sum_by_push size us (newcomer v) ∙ ap (λ k. k + 1) (sum_same size views id v (one_more v) e refl ∙ n.all);
      says = λ j u g. ⊎_elim
          (λ q. ⊎_elim (λ r. inr (ap (λ (z : View). z.made) (sym r.1) ∙ ap (λ k. k + 1) is))
          (λ r. ⊎_elim (λ z. inl z) (λ z. absurd (omega (arith, sum_two counted views id j v u refl e r.1 r.0, n.sum, is, z, h))) (n.says j u r.1)) (at_set views id j (one_more v) u q))
          (λ q. inl (ap (λ (z : View). z.made) (sym q))) (at_snoc us (newcomer v) u j g);
      sum = sum_by_push counted us (newcomer v) ∙ omega (arith, sum_set counted views id v (one_more v) e, n.sum);
    }

-- two views are one
pub sum_joined : (f : View → ℕ) (views : List View) (id other : ℕ) (v w : View) → f spent ≡ 0 → f (taken_in v w) ≡ f v + f w → get_elem? views id ≡ some v → get_elem? (set views id (taken_in v w)) other ≡ some w
    → sum_by f (set (set views id (taken_in v w)) other spent) ≡ sum_by f views
sum_joined f views id other v w z s e g =
    let us : List View = set views id (taken_in v w) in
    omega (arith, sum_out f us other w z g, sum_set f views id v (taken_in v w) e, s)

both_say : (a b m : ℕ) → a + b ≤ m → (a ≡ 0) ⊎ (a ≡ m) → (b ≡ 0) ⊎ (b ≡ m) → (a + b ≡ 0) ⊎ (a + b ≡ m)
both_say a b m h (inl e) (inl f) = inl (omega (arith, e, f))
both_say a b m h (inl e) (inr f) = inr (omega (arith, e, f))
both_say a b m h (inr e) (inl f) = inr (omega (arith, e, f))
both_say a b m h (inr e) (inr f) = inr (omega (arith, e, f, h))

pub had-taken_in : (seat : ℕ) (v w : View) → had seat (taken_in v w) ≡ had seat v + had seat w
had-taken_in seat v w = sum_by-append (λ (x : Track). cond (seat_of x == seat) 1 0) v.tracks w.tracks

pub marking-taken_in : (place : ℕ) (v w : View) → marking place (taken_in v w) ≡ marking place v + marking place w
marking-taken_in place v w = sum_by-append (λ (x : Track). cond (marks_at x.local.phase place) 1 0) v.tracks w.tracks

pub numbers_joined : (layout : Layout) (views : List View) (id other : ℕ) (v w : View) (m : ℕ) → other ≢ id → get_elem? views id ≡ some v → get_elem? views other ≡ some w → get_elem? (set views id (taken_in v w)) other ≡ some w → Numbered layout views m
    → Numbered layout (set (set views id (taken_in v w)) other spent) m
numbers_joined layout views id other v w m ne e f g n = record {
  some_made = n.some_made;
  most = n.most;
  once = λ seat. sum_joined (had seat) views id other v w refl (had-taken_in seat v w) e g ∙ n.once seat;
  all = sum_joined size views id other v w refl (length-append v.tracks w.tracks) e g ∙ n.all;
  says = λ j u h. ⊎_elim (λ q. inl (ap (λ (z : View). z.made) (sym q.1)))
      (λ q. ⊎_elim (λ r. subst (λ (z : View). (z.made ≡ 0) ⊎ (z.made ≡ m)) r.1 (both_say v.made w.made m (omega (arith, sum_two counted views id other v w refl e f ne, n.sum)) (n.says id v e) (n.says other w f)))
      (λ r. n.says j u r.1) (at_set views id j (taken_in v w) u q.1))
      (at_set (set views id (taken_in v w)) other j spent u h);
  sum = sum_joined counted views id other v w refl refl e g ∙ n.sum;
}
