-- What each kind of step does with slots: a step that moves no list, a list that is left, one that is taken over, and a place that is
-- marked.
use Rattle.std.proofs.Common.{Bool, List, [], ap, arith, false, length, refl, set, subst, sym, true, ℕ, ◌<◌, ◌∙◌, ◌∷◌, ◌≡◌, ◌≢◌}
use Rattle.std.proofs.lemmas.Bool.Decides.{nat_tests}
use Rattle.std.specs.Prelude.{Option, if◌then◌else◌, not, sum_by, ◌&&◌, ◌==◌}
use mathlib.Core.Option.{some}
use mathlib.Core.Option.{Option as Home}
use lib.ListN.{get_elem?}
use Rattle.atomic_table.specs.Table.{Allows, State, put_back}
use Rattle.atomic_table.specs.Table.Act.{gives, keeps}
use Rattle.atomic_table.proofs.Lists.{set_else, set_here}
use Rattle.wfe_core.specs.words.Place.Place.{PlaceOf}
use Rattle.wfe_core.specs.words.declared.layout.Layout.{Layout}
use Rattle.wfe_core.specs.Held.{ListHeld}
use Rattle.wfe_core.specs.defs.declared.lifetime.Lifetime.{Lifetime}
use Rattle.wfe_core.specs.Calls.{Keeping, MarkLeft, Phase, Works}
use Rattle.wfe_core.specs.Locals.{Local, asks, busy_in}
use Rattle.wfe_core.specs.World.{World, is_here, list_in, offered}
use Rattle.wfe_core.proofs.Facts.{number_is, same_number}
use Rattle.wfe_drive_cells.specs.Operations.{answer_of, answered, changed, word_in}
use Rattle.law_reuse.specs.history.History.{Item, world_of}
use Rattle.law_reuse.specs.inv.Places.{PlaceMoves, is_leaving, placed}
use Rattle.wfe_drive_rule.specs.declared.kept.Kept.{Kept}
use Rattle.wfe_drive_rule.specs.Handles.{IsHeld, IsSeated, MovesNone, adopts}
use Rattle.wfe_drive_rule.specs.Moves.{HandsOver, Stepped, Told}
use Rattle.wfe_drive_rule.specs.Rule.{ByNumber, IsHome, had, held, marks_at, taken}
use Rattle.wfe_drive_rule.specs.Spots.{slot_at}
use Rattle.wfe_drive_rule.specs.Views.{Handle, View, call_in, own, seat_of, slot_left, standing}
use Rattle.wfe_drive_rule.proofs.Allowed.{Going, allows, home_stays, next_of, now_of, same_seat, view_after}
use Rattle.wfe_drive_rule.proofs.Places.{leaves_after, marks_before, marks_none, placed_same}
use Rattle.wfe_drive_rule.proofs.Slots.{had_alike, had_itself, had_own, held_all, held_none, held_same, marking_none}
use Rattle.wfe_drive_rule.proofs.Sums.{sum_one, sum_same, sum_set}

pub held_of : (layout : Layout) (slot : ℕ) (handle : Handle) → IsSeated layout slot handle → IsHeld layout handle
held_of layout slot handle s = record { one = s.one; tracked = s.tracked; holds = s.holds; begins = s.begins }

-- a seat that keeps its slot is there after the step
stays_by : (here same leaving : Bool) → here ≡ true → leaving ≡ false → (here && not (same && leaving)) ≡ true
stays_by here true leaving h l = rw (h, l) refl
stays_by here false leaving h l = rw h refl

pub own_stays : (layout : Layout) (state : State (Option Kept) View) (handle : Handle) (r : ByNumber layout state) → busy_in (standing handle).phase ≡ true → is_leaving (standing handle).phase ≡ false → Going layout state.words r.items handle
    → is_here (world_of layout (next_of r.items handle)) (seat_of (own handle.0)) ≡ true
own_stays layout state handle r busy stays g =
    let i : ℕ = seat_of (own handle.0) in
    let w : World = world_of layout (now_of r.items handle) in
    let b = ap (λ (l : Local). busy_in l.phase) g.entered.own_is ∙ busy in
    let here : is_here w i ≡ true = ap (λ (n : ℕ). n == 0) ((g.shows i).here b) in
    let moves : PlaceMoves w i i = g.moves i in
    ap (λ (u : World). is_here u i) g.steps ∙ moves.here
    ∙ stays_by (is_here w i) (i == i) (is_leaving (w.seat i).phase) here (ap (λ (l : Local). is_leaving l.phase) g.entered.own_is ∙ stays)

-- the own track after the step
pub number_after : (layout : Layout) (state : State (Option Kept) View) (handle : Handle) (r : ByNumber layout state) (found : ℕ) → Going layout state.words r.items handle → IsHeld layout handle → (seat : ℕ) → had seat (view_after layout r.items handle found true) ≡ had seat handle.0
number_after layout state handle r found g held =
    had_alike handle.0 (view_after layout r.items handle found true) held.one refl (same_seat layout r.items handle found g.entered.own_is)

-- where a handle keeps its slot, a seat whose slot no view has is another
pub other_seat : (views : List View) (id : ℕ) (v u : View) (seat : ℕ) → get_elem? views id ≡ some v → v.tracks ≡ own v ∷ [] → u.holds ≡ true → ((k : ℕ) → had k u ≡ had k v) → sum_by (taken seat) (set views id u) ≡ 0 → (same : Bool) → (seat == seat_of (own v)) ≡ same → same ≡ false
other_seat views id v u seat e one h had_is z false q = refl
other_seat views id v u seat e one h had_is z true q =
    let is : seat ≡ seat_of (own v) = number_is seat (seat_of (own v)) q in
    let one_had : had seat v ≡ 1 = ap (λ (k : ℕ). had k v) is ∙ had_itself v one in
    absurd (omega (arith, sum_set (taken seat) views id v u e, z, held_all seat u h, had_is seat, one_had, sum_one (taken seat) views id v e))

-- a handle that keeps its slot, and marks no place before and after
pub taken_same : (v u : View) (seat : ℕ) → v.tracks ≡ own v ∷ [] → u.tracks ≡ own u ∷ [] → v.holds ≡ true → u.holds ≡ true → ((k : ℕ) → had k u ≡ had k v) → marks_at (own v).local.phase seat ≡ false → marks_at (own u).local.phase seat ≡ false → taken seat u ≡ taken seat v
taken_same v u seat one also h k had_is mv mu = omega (arith, held_same v u h k had_is seat, marking_none v one seat mv, marking_none u also seat mu)

-- a step that moves no list
pub allowed : (layout : Layout) (slots id slot : ℕ) (handle : Handle) → IsSeated layout slot handle → busy_in (standing handle).phase ≡ true → MovesNone (standing handle)
    → Allows (ByNumber layout) slots id handle (word_in (asks (standing handle))) (changed (asks (standing handle))) (Stepped handle)
allowed layout slots id slot handle seated busy moves =
    let held : IsHeld layout handle = held_of layout slot handle seated in
    allows layout slots id handle true (Stepped handle) held busy
    (λ s r ls e g.
    let v : View = handle.0 in
    let i : ℕ = seat_of (own v) in
    let found : ℕ = answered s.words (asks (standing handle)) in
    let u : View = view_after layout r.items handle found true in
    let had_is : (k : ℕ) → had k u ≡ had k v = number_after layout s handle r found g held in
    let before : (k : ℕ) → marks_at (own v).local.phase k ≡ false = (λ k. marks_before (own v).local (call_in handle.1) k (λ c q. (held.begins c q).idle) (marks_none (standing handle).call (standing handle).phase k moves.alone (λ b. g.serves))) in
    let after : (k : ℕ) → marks_at (own u).local.phase k ≡ false = (λ k. marks_none (own u).local.call (own u).local.phase k (ap adopts g.same_call ∙ moves.alone) g.serves_on) in
    let same : (k : ℕ) → sum_by (taken k) (set s.views id u) ≡ sum_by (taken k) s.views = (λ k. sum_same (taken k) s.views id v u e (taken_same v u k held.one refl held.holds refl had_is (before k) (after k))) in
    record {
      act = keeps;
      valid = tt;
      here = λ h. own_stays layout s handle r busy moves.stays g;
      home = λ seat low z.
          home_stays layout s.words r.items handle s.homes s.homes seat g (other_seat s.views id v u seat e held.one refl had_is z (seat == i) refl)
          (placed_same i (standing handle).call (standing handle).phase seat ((world_of layout r.items).mem (PlaceOf seat)) moves.stays moves.alone g.serves) refl
          (r.home seat low (sym (same seat) ∙ z));
      learns = λ told items. record { told = subst (λ (d : Layout). Told d handle found u) (sym held.tracked.layout_is) told; slots = refl };
    })

pub apart_from : (i seat : ℕ) → (seat == i) ≡ false → (i == seat) ≡ false
apart_from i seat q = grind (arith, nat_tests)

-- a handle of one seat that marks the same places, and no longer has its slot
taken_gone : (v u : View) (seat : ℕ) → v.tracks ≡ own v ∷ [] → u.tracks ≡ own u ∷ [] → v.holds ≡ true → u.holds ≡ false → (seat == seat_of (own v)) ≡ false → marks_at (own v).local.phase seat ≡ false → marks_at (own u).local.phase seat ≡ false → taken seat u ≡ taken seat v
taken_gone v u seat one also h k other mv mu =
    let none : had seat v ≡ 0 = had_own v one seat ∙ ap (λ (b : Bool). let count : ℕ = if b then 1 else 0 in count) (apart_from (seat_of (own v)) seat other) in
    omega (arith, held_all seat v h, held_none seat u k, none, marking_none v one seat mv, marking_none u also seat mu)

-- what a store into the own place word leaves there
left_word : (i word : ℕ) → placed i (Works (Keeping MarkLeft)) i word ≡ 1
left_word i word = ap (λ (b : Bool). let n : ℕ = if b then 1 else word in n) (same_number i)

left_other : (i k word : ℕ) → (k == i) ≡ false → placed i (Works (Keeping MarkLeft)) k word ≡ word
left_other i k word q = ap (λ (b : Bool). let n : ℕ = if b then 1 else word in n) q

pub number_apart : (n m : ℕ) → (n == m) ≡ false → n ≢ m
number_apart n m q e = grind (arith, nat_tests)

-- other seats have other slots, and each seat has one
pub slot_apart : (n m : ℕ) → n ≢ m → slot_at n ≢ slot_at m
slot_apart n m ne e = ne (omega (arith, e))

pub slot_below : (seat seats slots : ℕ) → slots ≡ slot_at seats → seat < seats → slot_at seat < slots
slot_below seat seats slots all low = omega (arith, all, low)

-- the slot that goes home, and each other
pub one_home : (layout : Layout) (list : List ℕ) (items : List Item) (handle : Handle) (homes later : List (Home (Option Kept))) (place k : ℕ) (same : Bool) → (k == place) ≡ same → Going layout list items handle
    → IsHome layout (world_of layout (next_of items handle)) later place
    → ((k == place) ≡ false
    → ((k == seat_of (own handle.0)) ≡ false)
    × (placed (seat_of (own handle.0)) (standing handle).phase k ((world_of layout items).mem (PlaceOf k)) ≡ (world_of layout items).mem (PlaceOf k))
    × (get_elem? later (slot_at k) ≡ get_elem? homes (slot_at k)) × IsHome layout (world_of layout items) homes k)
    → IsHome layout (world_of layout (next_of items handle)) later k
one_home layout list items handle homes later place k true q g here others = subst (IsHome layout (world_of layout (next_of items handle)) later) (sym (number_is k place q)) here
one_home layout list items handle homes later place k false q g here others = let o = others q in home_stays layout list items handle homes later k g o.0 o.1 o.2 o.3

-- a list that is left
pub hands_list : (layout : Layout) (slots id slot : ℕ) (handle : Handle) (list : ListHeld) (first : Bool) → slots ≡ slot_at layout.config.seats → IsHeld layout handle → (standing handle).phase ≡ Works (Keeping MarkLeft)
    → slot ≡ seat_of (own handle.0) → handle.1 ≡ (slot_at slot, slot_left list first) ∷ [] → list ≡ record { lives = (standing handle).desk.list; slots = layout.config.slots }
    → Allows (ByNumber layout) slots id handle (word_in (asks (standing handle))) (changed (asks (standing handle))) (λ word. HandsOver handle (answer_of (asks (standing handle)) word))
hands_list layout slots id slot handle list first all held leaves number has lives =
    let busy : busy_in (standing handle).phase ≡ true = ap busy_in leaves in
    allows layout slots id handle false (λ word. HandsOver handle (answer_of (asks (standing handle)) word)) held busy
    (λ s r ls e g.
    let v : View = handle.0 in
    let i : ℕ = seat_of (own v) in
    let w : World = world_of layout (now_of r.items handle) in
    let found : ℕ = answered s.words (asks (standing handle)) in
    let u : View = view_after layout r.items handle found false in
    let has_own : handle.1 ≡ (slot_at i, slot_left list first) ∷ [] = has ∙ ap (λ (n : ℕ). (slot_at n, slot_left list first) ∷ []) number in
    let o : Local = offered w i in
    let left : (o.phase ≡ Works (Keeping MarkLeft)) = ap (λ (l : Local). l.phase) g.entered.own_is ∙ leaves in
    let after = leaves_after o found left in
    let before : (k : ℕ) → marks_at (own v).local.phase k ≡ false = (λ k. marks_before (own v).local (call_in handle.1) k (λ c q. (held.begins c q).idle) (ap (λ (p : Phase). marks_at p k) leaves)) in
    let none : (k : ℕ) → marks_at (own u).local.phase k ≡ false = (λ k. ap (λ (p : Phase). marks_at p k) after.0) in
    let later : World = world_of layout (next_of r.items handle) in
    let moves : (k : ℕ) → PlaceMoves w i k = g.moves in
    let word : later.mem (PlaceOf i) ≡ 1 =
    ap (λ (z : World). z.mem (PlaceOf i)) g.steps ∙ (moves i).word ∙ ap (λ (p : Phase). placed i p i (w.mem (PlaceOf i))) left ∙ left_word i (w.mem (PlaceOf i)) in
    let own_list : list_in later i ≡ list.lives =
    ap (λ (z : World). list_in z i) g.steps ∙ (moves i).own ∙ ap (λ (z : World). (z.seat i).desk.list) (sym g.steps) ∙ ap (λ (l : Local). l.desk.list) g.went.own_is
    ∙ after.1 ∙ ap (λ (l : Local). l.desk.list) g.entered.own_is ∙ sym (ap (λ (z : ListHeld). z.lives) lives) in
    let low_slot : slot_at i < length s.homes = slot_below i layout.config.seats (length s.homes) (ls ∙ all) held.tracked.seat in
    let later_homes : List (Home (Option Kept)) = set s.homes (slot_at i) (some (slot_left list first)) in
    let given : put_back s.homes handle.1 ≡ later_homes = ap (put_back s.homes) has_own in
    let list_is : list ≡ record { lives = list_in later i; slots = layout.config.slots } =
    lives ∙ ap (λ (z : List Lifetime). let held_list : ListHeld = record { lives = z; slots = layout.config.slots } in held_list) (sym (ap (λ (z : ListHeld). z.lives) lives) ∙ sym own_list) in
    let home_own : IsHome layout later later_homes i = record {
      kept = slot_left list first;
      there = set_here s.homes (slot_at i) (some (slot_left list first)) low_slot;
      holds = record { left = λ q. (first, ap (λ (z : ListHeld). slot_left z first) list_is); clear = λ ne. absurd (ne word) };
    } in
    let home_by : (seat : ℕ) → seat < layout.config.seats → sum_by (taken seat) (set s.views id u) ≡ 0 → (same : Bool) → (seat == i) ≡ same → IsHome layout later later_homes seat =
    (λ seat low z same q. one_home layout s.words r.items handle s.homes later_homes i seat same q g home_own
    (λ other. (
      other,
      ap (λ (p : Phase). placed i p seat ((world_of layout r.items).mem (PlaceOf seat))) leaves ∙ left_other i seat ((world_of layout r.items).mem (PlaceOf seat)) other,
      set_else s.homes (slot_at i) (slot_at seat) (some (slot_left list first)) (slot_apart seat i (number_apart seat i other)),
      r.home seat low (sym (sum_same (taken seat) s.views id v u e (taken_gone v u seat held.one refl held.holds refl other (before seat) (none seat))) ∙ z),
    ))) in
    record {
      act = gives;
      valid = tt;
      here = λ h. absurd (cc h);
      home = λ seat low z. subst (λ (h : List (Home (Option Kept))). IsHome layout later h seat) (sym given) (home_by seat low z (seat == i) refl);
      learns = λ told items. record { told = subst (λ (d : Layout). Told d handle found (view_after layout r.items handle found true)) (sym held.tracked.layout_is) told; gone = refl; slots = refl };
    })
