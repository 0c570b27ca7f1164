-- The table at its start meets the rule, and so it does with one seat more.
use Rattle.std.proofs.Common.{All, Bool, List, [], ap, arith, false, inr, map, refl, replicate, set, subst, sym, true, ⊎_elim, ℕ, zero, suc, ◌++◌, ◌+◌, ◌<◌, ◌∙◌, ◌∷◌, ◌≡◌, ◌≤◌, ◌⊎◌}
use Rattle.std.proofs.lemmas.Bool.Decides.{nat_tests}
use Rattle.std.proofs.lemmas.List.Elements.{All-cons, All-nil}
use Rattle.std.proofs.lemmas.List.Sums.{sum_by_push}
use Rattle.std.specs.Prelude.{None, Option, if◌then◌else◌, nat_lt, sum_by, ◌==◌}
use mathlib.Core.Option.{some, some-injective}
use lib.ListN.{get_elem?}
use Rattle.atomic_table.specs.Table.{Splits, opening}
use Rattle.atomic_table.proofs.Lists.{at_set, at_snoc}
use Rattle.wfe_core.specs.words.Place.{is_valid}
use Rattle.wfe_core.specs.words.declared.layout.Layout.{Layout}
use Rattle.law_reuse.specs.history.History.{world_of}
use Rattle.wfe_drive_rule.specs.declared.kept.Kept.{Kept}
use Rattle.wfe_core.proofs.Ranges.{bounds_of}
use Rattle.wfe_drive_cells.specs.Memory.{HoldsStart}
use Rattle.wfe_drive_cells.proofs.Bridge.{memory-start}
use Rattle.wfe_drive_rule.specs.Handles.{IsBare, IsTracked}
use Rattle.wfe_drive_rule.specs.Moves.{newcomer, one_more}
use Rattle.wfe_drive_rule.specs.Rule.{ByNumber, Follows, IsHere, Opens, had, item_seat, taken}
use Rattle.wfe_drive_rule.specs.Spots.{slot_at}
use Rattle.wfe_drive_rule.specs.Views.{Handle, View, bare_view, first_view, fresh_track, own}
use Rattle.wfe_drive_rule.proofs.Numbers.{counts_all, numbers_split}
use Rattle.wfe_drive_rule.proofs.Sums.{sum_same}

-- a seat that has made no call stands at the start
pub fresh_tracked : (layout : Layout) (seat : ℕ) → is_valid layout ≡ true → seat < layout.config.seats → IsTracked layout (fresh_track layout seat)
fresh_tracked layout seat valid low = record { valid = valid; seat = low; layout_is = refl; stood = refl }

pub first_bare : (layout : Layout) (handle : Handle) → is_valid layout ≡ true → handle ≡ (first_view layout, []) → IsBare layout handle
first_bare layout handle valid e =
    let some_seats = (bounds_of layout valid).seats in
    subst (IsBare layout) (sym e) (record { one = refl; tracked = fresh_tracked layout 0 valid (omega (arith, some_seats.0)); holds = refl; slots = refl })

none_below : (seat m : ℕ) → seat ≡ m → nat_lt seat m ≡ false
none_below seat m e = grind (arith, nat_tests)

pub splits : (layout : Layout) (id : ℕ) (v : View) → IsTracked layout (own v) → 1 ≤ v.made → v.made < layout.config.seats → Splits (ByNumber layout) id v (one_more v) (newcomer v)
splits layout id v t some_made room s r e =
    let m : ℕ = r.made in
    let us : List View = set s.views id (one_more v) in
    let w : View = newcomer v in
    let is : v.made ≡ m = counts_all layout s.views id v m e some_made r.numbers in
    let new : w ≡ bare_view 0 (fresh_track layout v.made) = ap (λ (d : Layout). bare_view 0 (fresh_track d v.made)) t.layout_is in
    let none : sum_by (had v.made) s.views ≡ 0 = r.numbers.once v.made ∙ ap (λ (b : Bool). if b then 1 else 0) (none_below v.made m is) in
    let follows : Follows layout r.items (fresh_track layout v.made) = record { more = r.items; begins = refl; alone = r.none v.made none; stood = refl; stands = r.unmade v.made none } in
    let had_is : (seat : ℕ) → sum_by (had seat) us ≡ sum_by (had seat) s.views = (λ seat. sum_same (had seat) s.views id v (one_more v) e refl) in
    let taken_is : (seat : ℕ) → sum_by (taken seat) us ≡ sum_by (taken seat) s.views = (λ seat. sum_same (taken seat) s.views id v (one_more v) e refl) in
    record {
      valid = r.valid;
      count = r.count;
      items = r.items;
      mem = r.mem;
      tracks = λ j u g. ⊎_elim
          (λ q. ⊎_elim (λ p. subst (λ (z : View). All (Follows layout r.items) z.tracks) p.1 (r.tracks id v e)) (λ p. r.tracks j u p.1) (at_set s.views id j (one_more v) u q))
          (λ q. subst (λ (z : View). All (Follows layout r.items) z.tracks) (sym new ∙ q) (All-cons (Follows layout r.items) (fresh_track layout v.made) [] follows (All-nil (Follows layout r.items))))
          (at_snoc us w u j g);
      heard = λ j u g. ⊎_elim
          (λ q. ⊎_elim (λ p. subst (λ (z : View). Opens r.items z.heard) p.1 (r.heard id v e)) (λ p. r.heard j u p.1) (at_set s.views id j (one_more v) u q))
          (λ q. subst (λ (z : View). Opens r.items z.heard) q (r.items, refl))
          (at_snoc us w u j g);
      unmade = λ seat z. r.unmade seat (omega (arith, z, sum_by_push (had seat) us w, had_is seat));
      none = λ seat z. r.none seat (omega (arith, z, sum_by_push (had seat) us w, had_is seat));
      made = m + 1;
      numbers = numbers_split layout s.views id v m e is (omega (arith, some_made, is)) (omega (arith, room, is)) r.numbers;
      here = λ j u g on. ⊎_elim
          (λ q. ⊎_elim (λ p. subst (λ (z : View). All (IsHere (world_of layout r.items)) z.tracks) p.1 (r.here id v e (ap (λ (z : View). z.holds) p.1 ∙ on))) (λ p. r.here j u p.1 on) (at_set s.views id j (one_more v) u q))
          (λ q. absurd (cc (ap (λ (z : View). z.holds) q ∙ on)))
          (at_snoc us w u j g);
      home = λ seat low z. r.home seat low (omega (arith, z, sum_by_push (taken seat) us w, taken_is seat));
    }

-- each slot is at home, and empty
all_vacant : (n seat : ℕ) → seat < n → (let none : Option Kept = None in get_elem? (map some (replicate n none)) seat ≡ some (some none))
all_vacant zero seat h = absurd (omega (arith, h))
all_vacant (suc n) zero h = refl
all_vacant (suc n) (suc seat) h = all_vacant n seat (omega (arith, h))

first_number : (seat : ℕ) (b : Bool) → (0 == seat) ≡ b → (0 + (0 + (if b then 1 else 0))) ≡ (if nat_lt seat 1 then 1 else 0)
first_number seat true q = let w : nat_lt seat 1 ≡ true = grind (arith, nat_tests) in rw w refl
first_number seat false q = let w : nat_lt seat 1 ≡ false = grind (arith, nat_tests) in rw w refl

first_says : (layout : Layout) (id : ℕ) (view : View) → get_elem? (first_view layout ∷ []) id ≡ some view → (view.made ≡ 0) ⊎ (view.made ≡ 1)
first_says layout zero view e = inr (ap (λ (z : View). z.made) (sym (some-injective (first_view layout) view e)))
first_says layout (suc id) view e = absurd (cc)

first_tracks : (layout : Layout) (id : ℕ) (view : View) → get_elem? (first_view layout ∷ []) id ≡ some view → All (Follows layout []) view.tracks
first_tracks layout zero view e =
    subst (λ (z : View). All (Follows layout []) z.tracks) (some-injective (first_view layout) view e)
    (All-cons (Follows layout []) (fresh_track layout 0) [] (record { more = []; begins = refl; alone = All-nil (λ item. (0 == item_seat item) ≡ false); stood = refl; stands = refl }) (All-nil (Follows layout [])))
first_tracks layout (suc id) view e = absurd (cc)

first_heard : (layout : Layout) (id : ℕ) (view : View) → get_elem? (first_view layout ∷ []) id ≡ some view → Opens [] view.heard
first_heard layout zero view e = ([], sym (ap (λ (z : View). z.heard ++ []) (sym (some-injective (first_view layout) view e))))
first_heard layout (suc id) view e = absurd (cc)

first_word_of : (b : Bool) → (let n : ℕ = if b then 0 else 0 in n ≡ 0)
first_word_of true = refl
first_word_of false = refl

first_holds : (layout : Layout) (id : ℕ) (view : View) → get_elem? (first_view layout ∷ []) id ≡ some view → view.holds ≡ true → ⊥
first_holds layout zero view e on = cc (ap (λ (z : View). z.holds) (some-injective (first_view layout) view e) ∙ on)
first_holds layout (suc id) view e on = cc

pub opens : (layout : Layout) (list : List ℕ) → is_valid layout ≡ true → HoldsStart layout list → ByNumber layout (opening list (replicate (slot_at layout.config.seats) None) (first_view layout))
opens layout list valid h = record {
  valid = valid;
  count = h.count;
  items = [];
  mem = sym (memory-start layout list h);
  tracks = first_tracks layout;
  heard = first_heard layout;
  unmade = λ seat z. refl;
  none = λ seat z. All-nil (λ item. (seat == item_seat item) ≡ false);
  made = 1;
  numbers = record {
    some_made = omega arith;
    most = let b = (bounds_of layout valid).seats in omega (arith, b.0);
    once = λ seat. first_number seat _ refl;
    all = refl;
    says = first_says layout;
    sum = refl;
  };
  here = λ id view e on. absurd (first_holds layout id view e on);
  home = λ seat low z. record {
    kept = None;
    there = all_vacant (slot_at layout.config.seats) (slot_at seat) (omega (arith, low));
    holds = record { left = λ one. absurd (omega (arith, one, first_word_of (nat_lt seat layout.config.seats))); clear = λ ne. refl };
  };
}
