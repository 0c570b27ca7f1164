-- A handle that tells how far its seat's history is known, and a seat that hears it.
use Rattle.std.proofs.Common.{All, List, [], ap, arith, false, refl, set, subst, sym, true, ⊎_elim, ℕ, ◌++◌, ◌+◌, ◌<◌, ◌∙◌, ◌∷◌, ◌≡◌, ◌≢◌, ◌⊎◌, inl}
use Rattle.std.proofs.lemmas.List.{append-nil}
use Rattle.std.proofs.lemmas.List.Elements.{All-cons, All-head, All-nil}
use Rattle.std.proofs.lemmas.List.Sums.{sum_by_push}
use Rattle.std.specs.Prelude.{Option, sum_by, ◌==◌}
use mathlib.Core.Option.{some}
use lib.ListN.{get_elem?}
use Rattle.atomic_table.specs.Table.{Allows, Joins, Splits, Step}
use Rattle.atomic_table.specs.Table.Act.{keeps}
use Rattle.atomic_table.proofs.Lists.{at_set, at_snoc, set_else}
use Rattle.wfe_core.specs.words.declared.layout.Layout.{Layout}
use Rattle.law_reuse.specs.history.History.{Item, world_of}
use Rattle.wfe_drive_rule.specs.declared.kept.Kept.{Kept}
use Rattle.wfe_drive_rule.specs.Handles.{IsSeated, IsTracked}
use Rattle.wfe_drive_rule.specs.Moves.{Hears, Learns, aware, hearing, told_of}
use Rattle.wfe_drive_rule.specs.Rule.{ByNumber, Follows, IsHere, Numbered, Opens, counted, had, held, item_seat, marking, markings, size, taken, times}
use Rattle.wfe_drive_rule.specs.Views.{Handle, Track, View, own, seat_of, spent, tidings}
use Rattle.wfe_drive_rule.proofs.Numbers.{Alike}
use Rattle.wfe_drive_rule.proofs.Rules.{follows_own, rules_again}
use Rattle.wfe_drive_rule.proofs.Slots.{held_none}
use Rattle.wfe_drive_rule.proofs.Sums.{sum_out, sum_same}

-- one view more, which counts nowhere
push_none : (f : View → ℕ) (views : List View) (id : ℕ) (v : View) (past : List Item) → f (tidings past) ≡ 0 → get_elem? views id ≡ some v → sum_by f (set views id v ++ tidings past ∷ []) ≡ sum_by f views
push_none f views id v past none e = omega (arith, sum_by_push f (set views id v) (tidings past), sum_same f views id v v e refl, none)

numbers_told : (layout : Layout) (views : List View) (id : ℕ) (v : View) (past : List Item) (m : ℕ) → get_elem? views id ≡ some v → Numbered layout views m → Numbered layout (set views id v ++ tidings past ∷ []) m
numbers_told layout views id v past m e n = record {
  some_made = n.some_made;
  most = n.most;
  once = λ seat. push_none (had seat) views id v past refl e ∙ n.once seat;
  all = push_none size views id v past refl e ∙ n.all;
  says = λ j u g. ⊎_elim
      (λ q. ⊎_elim (λ p. subst (λ (z : View). (z.made ≡ 0) ⊎ (z.made ≡ m)) p.1 (n.says id v e)) (λ p. n.says j u p.1) (at_set views id j v u q))
      (λ q. inl (ap (λ (z : View). z.made) (sym q))) (at_snoc (set views id v) (tidings past) u j g);
  sum = push_none counted views id v past refl e ∙ n.sum;
}

pub tells : (layout : Layout) (id : ℕ) (v : View) → v.tracks ≡ own v ∷ [] → Splits (ByNumber layout) id v v (told_of v)
tells layout id v one s r e =
    let w : View = told_of v in
    let us : List View = set s.views id v in
    let follows : Follows layout r.items (own v) = follows_own layout s.words s.homes s.views id v r e one in
    record {
      valid = r.valid;
      count = r.count;
      items = r.items;
      mem = r.mem;
      tracks = λ j u g. ⊎_elim
          (λ q. ⊎_elim (λ p. subst (λ (z : View). All (Follows layout r.items) z.tracks) p.1 (r.tracks id v e)) (λ p. r.tracks j u p.1) (at_set s.views id j v u q))
          (λ q. subst (λ (z : View). All (Follows layout r.items) z.tracks) q (All-nil (Follows layout r.items)))
          (at_snoc us w u j g);
      heard = λ j u g. ⊎_elim
          (λ q. ⊎_elim (λ p. subst (λ (z : View). Opens r.items z.heard) p.1 (r.heard id v e)) (λ p. r.heard j u p.1) (at_set s.views id j v u q))
          (λ q. subst (λ (z : View). Opens r.items z.heard) q (follows.more, follows.begins))
          (at_snoc us w u j g);
      unmade = λ seat z. r.unmade seat (sym (push_none (had seat) s.views id v (own v).past refl e) ∙ z);
      none = λ seat z. r.none seat (sym (push_none (had seat) s.views id v (own v).past refl e) ∙ z);
      made = r.made;
      numbers = numbers_told layout s.views id v (own v).past r.made e r.numbers;
      here = λ j u g on. ⊎_elim
          (λ q. ⊎_elim (λ p. subst (λ (z : View). All (IsHere (world_of layout r.items)) z.tracks) p.1 (r.here id v e (ap (λ (z : View). z.holds) p.1 ∙ on))) (λ p. r.here j u p.1 on) (at_set s.views id j v u q))
          (λ q. absurd (cc (ap (λ (z : View). z.holds) q ∙ on)))
          (at_snoc us w u j g);
      home = λ seat low z. r.home seat low (sym (push_none (taken seat) s.views id v (own v).past refl e) ∙ z);
    }

-- two views, of which the second counts nowhere, are one
sum_heard : (f : View → ℕ) (views : List View) (id other : ℕ) (v w u : View) → f spent ≡ 0 → f w ≡ 0 → f u ≡ f v → get_elem? views id ≡ some v → get_elem? (set views id u) other ≡ some w → sum_by f (set (set views id u) other spent) ≡ sum_by f views
sum_heard f views id other v w u z none same e g = omega (arith, sum_out f (set views id u) other w z g, sum_same f views id v u e same, none)

numbers_heard : (layout : Layout) (views : List View) (id other : ℕ) (v w : View) (m : ℕ) → w.made ≡ 0 → w.tracks ≡ [] → get_elem? views id ≡ some v → get_elem? (set views id (hearing v w)) other ≡ some w → Numbered layout views m
    → Numbered layout (set (set views id (hearing v w)) other spent) m
numbers_heard layout views id other v w m made tracks e g n =
    let u : View = hearing v w in
    record {
      some_made = n.some_made;
      most = n.most;
      once = λ seat. sum_heard (had seat) views id other v w u refl (ap (times seat) tracks) refl e g ∙ n.once seat;
      all = sum_heard size views id other v w u refl (ap (λ (list : List Track). size (record { made = 0; tracks = list; holds = false; heard = [] })) tracks) refl e g ∙ n.all;
      says = λ j z h. ⊎_elim (λ q. inl (ap (λ (x : View). x.made) (sym q.1)))
          (λ q. ⊎_elim (λ p. subst (λ (x : View). (x.made ≡ 0) ⊎ (x.made ≡ m)) p.1 (n.says id v e)) (λ p. n.says j z p.1) (at_set views id j u z q.1))
          (at_set (set views id u) other j spent z h);
      sum = sum_heard counted views id other v w u refl made refl e g ∙ n.sum;
    }

pub hears_view : (layout : Layout) (id other : ℕ) (v w : View) → w.made ≡ 0 → w.tracks ≡ [] → w.holds ≡ false → Joins (ByNumber layout) id v other w (hearing v w) spent
hears_view layout id other v w made tracks bare s r e ne g =
    let u : View = hearing v w in
    let us : List View = set s.views id u in
    let f : get_elem? s.views other ≡ some w = sym (set_else s.views id other u ne) ∙ g in
    let had_is : (seat : ℕ) → sum_by (had seat) (set us other spent) ≡ sum_by (had seat) s.views = (λ seat. sum_heard (had seat) s.views id other v w u refl (ap (times seat) tracks) refl e g) in
    let none : (seat : ℕ) → taken seat w ≡ 0 = (λ seat. omega (arith, held_none seat w bare, ap (markings seat) tracks)) in
    record {
      valid = r.valid;
      count = r.count;
      items = r.items;
      mem = r.mem;
      tracks = λ j z h. ⊎_elim (λ q. subst (λ (x : View). All (Follows layout r.items) x.tracks) q.1 (All-nil (Follows layout r.items)))
          (λ q. ⊎_elim (λ p. subst (λ (x : View). All (Follows layout r.items) x.tracks) p.1 (r.tracks id v e)) (λ p. r.tracks j z p.1) (at_set s.views id j u z q.1)) (at_set us other j spent z h);
      heard = λ j z h. ⊎_elim (λ q. subst (λ (x : View). Opens r.items x.heard) q.1 (r.items, refl))
          (λ q. ⊎_elim (λ p. subst (λ (x : View). Opens r.items x.heard) p.1 (r.heard other w f)) (λ p. r.heard j z p.1) (at_set s.views id j u z q.1)) (at_set us other j spent z h);
      unmade = λ seat z. r.unmade seat (sym (had_is seat) ∙ z);
      none = λ seat z. r.none seat (sym (had_is seat) ∙ z);
      made = r.made;
      numbers = numbers_heard layout s.views id other v w r.made made tracks e g r.numbers;
      here = λ j z h on. ⊎_elim (λ q. absurd (cc (ap (λ (x : View). x.holds) q.1 ∙ on)))
          (λ q. ⊎_elim (λ p. subst (λ (x : View). All (IsHere (world_of layout r.items)) x.tracks) p.1 (r.here id v e (ap (λ (x : View). x.holds) p.1 ∙ on))) (λ p. r.here j z p.1 on) (at_set s.views id j u z q.1))
          (at_set us other j spent z h);
      home = λ seat low z. r.home seat low (sym (sum_heard (taken seat) s.views id other v w u refl (none seat) refl e g) ∙ z);
    }

-- a seat that stands where a history leaves it may have all of that as its past
pub hears : (layout : Layout) (slots id slot : ℕ) (handle : Handle) (step : Step (Option Kept)) → IsSeated layout slot handle → Allows (ByNumber layout) slots id handle 0 (λ n. n) (Hears step handle)
hears layout slots id slot handle step seated s r ls e bound =
    let v : View = handle.0 in
    let x : Track = own v in
    let u : View = aware v r.items in
    let f : Follows layout r.items x = follows_own layout s.words s.homes s.views id v r e seated.one in
    let now : Follows layout r.items (own u) = record { more = []; begins = sym (append-nil r.items); alone = All-nil (λ item. (seat_of x == item_seat item) ≡ false); stood = f.stands; stands = f.stands } in
    let had_is : (seat : ℕ) → had seat u ≡ had seat v = (λ seat. sym (ap (times seat) seated.one)) in
    let taken_is : (seat : ℕ) → taken seat u ≡ taken seat v = (λ seat. sym (ap (λ (list : List Track). taken seat (record { made = 0; tracks = list; holds = v.holds; heard = [] })) seated.one)) in
    let alike : Alike v u = record { made = refl; size_is = sym (ap (λ (list : List Track). size (record { made = 0; tracks = list; holds = false; heard = [] })) seated.one); had_is = had_is } in
    let opens : Opens r.items x.past = (f.more, f.begins) in (
      u,
      keeps,
      tt,
      rules_again layout s.words s.homes s.homes s.views id v u r e alike (All-cons (Follows layout r.items) (own u) [] now (All-nil (Follows layout r.items))) (r.items, refl)
          (λ h. All-cons (IsHere (world_of layout r.items)) (own u) []
          (All-head (IsHere (world_of layout r.items)) x [] (subst (All (IsHere (world_of layout r.items))) seated.one (r.here id v e seated.holds))) (All-nil (IsHere (world_of layout r.items))))
          (λ seat low z. r.home seat low (sym (sum_same (taken seat) s.views id v u e (taken_is seat)) ∙ z)),
      record {
        items = r.items;
        to = refl;
        grows = opens;
        knows = r.heard id v e;
        stood = subst (λ (d : Layout). (world_of d r.items).seat (seat_of x) ≡ x.local) (sym seated.tracked.layout_is) f.stands;
      },
    )

-- it is seated as before
pub heard_seated : (layout : Layout) (slot : ℕ) (handle later : Handle) → IsSeated layout slot handle → Learns layout handle later → IsSeated layout slot later
heard_seated layout slot handle later seated l =
    let y : Track = own (aware handle.0 l.items) in
    let tracked : IsTracked layout y = record { valid = seated.tracked.valid; seat = seated.tracked.seat; layout_is = seated.tracked.layout_is; stood = l.stood } in
    subst (IsSeated layout slot) (sym l.to) (record { one = refl; tracked = tracked; holds = seated.holds; number = seated.number; slots = seated.slots; begins = seated.begins })
