-- A seat takes over the list that another has left, with the slot in which it lies; and it marks that, and the slot goes home.
use Rattle.std.proofs.Common.{Bool, List, [], ap, ap₂, arith, false, length, refl, set, subst, sym, true, ℕ, ◌<◌, ◌∙◌, ◌∷◌, ◌≡◌}
use Rattle.std.specs.Prelude.{MatchBool, None, Option, if◌then◌else◌, nat_lt, sum_by, ◌&&◌, ◌==◌}
use mathlib.Core.Option.{some, none}
use mathlib.Core.Option.{Option as Home}
use mathlib.Core.Path.{fun_ext}
use prog.Atomic.{either}
use lib.ListN.{get_elem?}
use Rattle.atomic_table.specs.Table.{Allows, State, put_back}
use Rattle.atomic_table.specs.Table.Act.{gives, keeps, takes}
use Rattle.atomic_table.proofs.Lists.{set_else, set_here}
use Rattle.wfe_core.specs.words.Place.Place.{PlaceOf}
use Rattle.wfe_core.specs.words.declared.layout.Layout.{Layout}
use Rattle.wfe_core.specs.declared.op.Op.{Op}
use Rattle.wfe_core.specs.declared.op.Op.TheVariants.{Cas, Store}
use Rattle.wfe_core.specs.defs.declared.lifetime.Lifetime.{Lifetime}
use Rattle.wfe_core.specs.Calls.{Keeping, MarkTaken, Phase, TakeList, Works}
use Rattle.wfe_core.specs.Locals.{Local, asks, busy_in}
use Rattle.wfe_core.specs.World.{World, finds, gift_at, list_in, offered}
use Rattle.wfe_core.proofs.Facts.{number_is, same_number}
use Rattle.wfe_drive_cells.specs.Operations.{answer_of, answered, changed, word_in}
use Rattle.law_reuse.specs.history.History.{world_of}
use Rattle.law_reuse.specs.inv.Places.{PlaceMoves, PlaceShows, is_leaving, placed}
use Rattle.law_reuse.proofs.history.Snoc.{layout_is}
use Rattle.wfe_drive_rule.specs.declared.kept.Kept.{Kept}
use Rattle.wfe_drive_rule.specs.Handles.{IsAdopting, IsHeld, IsSeated}
use Rattle.wfe_drive_rule.specs.Moves.{IsTaken, MarksOver, TakesOver, Told}
use Rattle.wfe_drive_rule.specs.Rule.{ByNumber, IsHome, had, held, marking, marks_at, taken}
use Rattle.wfe_drive_rule.specs.Spots.{slot_at}
use Rattle.wfe_drive_rule.specs.Views.{Handle, View, call_in, entered, own, seat_of, slot_left, standing}
use Rattle.wfe_drive_rule.proofs.Acting.{apart_from, held_of, number_after, number_apart, one_home, other_seat, own_stays, slot_apart, slot_below, taken_same}
use Rattle.wfe_drive_rule.proofs.Allowed.{Acts, Going, allows, home_stays, next_of, now_of, view_after}
use Rattle.wfe_drive_rule.proofs.Places.{Took, marks_after, marks_before, misses_after, takes_after}
use Rattle.wfe_drive_rule.proofs.Slots.{marking_own, none_left}
use Rattle.wfe_drive_rule.proofs.Sums.{sum_one, sum_same, sum_set}

-- the same of the table's layout
pub relaid : (d e : Layout) (handle : Handle) (found : ℕ) (view : View) → d ≡ e → (t : Told d handle found view) → (u : Told e handle found view) × (u.items ≡ t.items)
relaid d e handle found view same t =
    subst (λ (z : Layout). (u : Told z handle found view) × (u.items ≡ t.items)) same (t, refl)

-- what the exchange of a place word finds
finds_place : (w : World) (i place : ℕ) → (w.seat i).phase ≡ Works (Keeping (TakeList place)) → finds w i ≡ w.mem (PlaceOf place)
finds_place w i place e = rw e refl

-- the list that is taken over
gift_is : (w : World) (i place : ℕ) → (w.seat i).phase ≡ Works (Keeping (TakeList place)) → w.mem (PlaceOf place) ≡ 1 → (offered w i).desk.gift ≡ list_in w place
gift_is w i place e one = ap (gift_at w.seat) e ∙ sym (ap (λ (n : ℕ). let list : List Lifetime = if nat_lt 1 n then [] else (w.seat place).desk.list in list) one)

-- words that an exchange leaves
exchanged_other : (i place k word : ℕ) → (k == place) ≡ false → placed i (Works (Keeping (TakeList place))) k word ≡ word
exchanged_other i place k word q = ap (λ (b : Bool). let n : ℕ = if b && (word == 1) then 2 else word in n) q

exchanged_not : (i place k word : ℕ) → (same : Bool) → (k == place) ≡ same → (same ≡ true → (word == 1) ≡ false) → placed i (Works (Keeping (TakeList place))) k word ≡ word
exchanged_not i place k word false q h = exchanged_other i place k word q
exchanged_not i place k word true q h = ap (λ (b : Bool). let n : ℕ = if b && (word == 1) then 2 else word in n) q ∙ ap (λ (b : Bool). let n : ℕ = if b then 2 else word in n) (h refl)

marked_other : (i place count k word : ℕ) → (k == place) ≡ false → placed i (Works (Keeping (MarkTaken place count))) k word ≡ word
marked_other i place count k word q = ap (λ (b : Bool). let n : ℕ = if b then 3 else word in n) q

marked_word : (i place count word : ℕ) → placed i (Works (Keeping (MarkTaken place count))) place word ≡ 3
marked_word i place count word = ap (λ (b : Bool). let n : ℕ = if b then 3 else word in n) (same_number place)

-- what the exchange finds
record Exchanged (layout : Layout) (state : State (Option Kept) View) (handle : Handle) (r : ByNumber layout state) (place : ℕ) : Type 0 where
  phase : ((world_of layout (now_of r.items handle)).seat (seat_of (own handle.0))).phase ≡ Works (Keeping (TakeList place))
  found : answered state.words (asks (standing handle)) ≡ (world_of layout r.items).mem (PlaceOf place)
  same : (world_of layout (now_of r.items handle)).mem (PlaceOf place) ≡ (world_of layout r.items).mem (PlaceOf place)

exchanged : (layout : Layout) (state : State (Option Kept) View) (handle : Handle) (r : ByNumber layout state) (place : ℕ) → (standing handle).phase ≡ Works (Keeping (TakeList place)) → Going layout state.words r.items handle → Exchanged layout state handle r place
exchanged layout state handle r place at g =
    let i : ℕ = seat_of (own handle.0) in
    let w : World = world_of layout (now_of r.items handle) in
    let phase = ap (λ (l : Local). l.phase) g.entered.own_is ∙ at in
    let same : w.mem (PlaceOf place) ≡ (world_of layout r.items).mem (PlaceOf place) = ap (λ f. f (PlaceOf place)) g.entered.mem in
    record { phase = phase; found = g.went.found ∙ finds_place w i place phase ∙ same; same = same }

-- no list was left there
misses : (layout : Layout) (state : State (Option Kept) View) (id : ℕ) (handle : Handle) (r : ByNumber layout state) (place : ℕ) → IsHeld layout handle → busy_in (standing handle).phase ≡ true → (standing handle).phase ≡ Works (Keeping (TakeList place))
    → get_elem? state.views id ≡ some handle.0 → Going layout state.words r.items handle → (answered state.words (asks (standing handle)) == 1) ≡ false
    → Acts layout state r.items id handle true (λ word. TakesOver handle (answer_of (asks (standing handle)) word))
misses layout s id handle r place held busy at e g q =
    let v : View = handle.0 in
    let i : ℕ = seat_of (own v) in
    let found : ℕ = answered s.words (asks (standing handle)) in
    let u : View = view_after layout r.items handle found true in
    let x : Exchanged layout s handle r place = exchanged layout s handle r place at g in
    let had_is : (k : ℕ) → had k u ≡ had k v = number_after layout s handle r found g held in
    let before : (k : ℕ) → marks_at (own v).local.phase k ≡ false = (λ k. marks_before (own v).local (call_in handle.1) k (λ c q. (held.begins c q).idle) (ap (λ (p : Phase). marks_at p k) at)) in
    let after : (k : ℕ) → marks_at (own u).local.phase k ≡ false = (λ k. ap (λ (p : Phase). marks_at p k) (misses_after (offered (world_of layout (now_of r.items handle)) i) place found x.phase q)) in
    let same : (k : ℕ) → sum_by (taken k) (set s.views id u) ≡ sum_by (taken k) s.views = (λ k. sum_same (taken k) s.views id v u e (taken_same v u k held.one refl held.holds refl had_is (before k) (after k))) in
    record {
      act = keeps;
      valid = tt;
      here = λ h. own_stays layout s handle r busy (ap is_leaving at) g;
      home = λ seat low z.
          let word : ℕ = (world_of layout r.items).mem (PlaceOf seat) in
          home_stays layout s.words r.items handle s.homes s.homes seat g (other_seat s.views id v u seat e held.one refl had_is z (seat == i) refl)
          (ap (λ (p : Phase). placed i p seat word) at ∙ exchanged_not i place seat word (seat == place) refl
          (λ t. let is : seat ≡ place = number_is seat place t in ap (λ (n : ℕ). (world_of layout r.items).mem (PlaceOf n) == 1) is ∙ ap (λ (n : ℕ). n == 1) (sym x.found) ∙ q)) refl
          (r.home seat low (sym (same seat) ∙ z));
      learns = λ told items.
          let t = relaid layout (own v).local.post.layout handle found u (sym held.tracked.layout_is) told in
          record { told = t.0; slots = subst (λ b. MatchBool b (IsTaken handle (offered (world_of (own v).local.post.layout t.0.items) i).desk.gift (u, handle.1)) (handle.1 ≡ handle.1)) (sym q) refl };
    }

not_own : (b : Bool) → (b ≡ true → b ≡ false) → b ≡ false
not_own true h = h refl
not_own false h = refl

-- the slot of the place is the handle's, and each other is as it was
gains_home : (layout : Layout) (s : State (Option Kept) View) (id : ℕ) (handle : Handle) (r : ByNumber layout s) (place : ℕ) (u : View) → u.tracks ≡ own u ∷ [] → u.holds ≡ true → IsHeld layout handle → (standing handle).phase ≡ Works (Keeping (TakeList place))
    → get_elem? s.views id ≡ some handle.0 → Going layout s.words r.items handle → ((k : ℕ) → had k u ≡ had k handle.0) → ((k : ℕ) → marks_at (own handle.0).local.phase k ≡ false) → ((k : ℕ) → marks_at (own u).local.phase k ≡ (place == k))
    → (seat : ℕ) → seat < layout.config.seats → sum_by (taken seat) (set s.views id u) ≡ 0 → (same : Bool) → (seat == place) ≡ same → IsHome layout (world_of layout (next_of r.items handle)) (set s.homes (slot_at place) none) seat
gains_home layout s id handle r place u also hold held at e g had_is before marks_now seat low z true t =
    let is : place ≡ seat = sym (number_is seat place t) in
    let marks : marks_at (own u).local.phase seat ≡ true = marks_now seat ∙ ap (λ (n : ℕ). n == seat) is ∙ same_number seat in
    let one : marking seat u ≡ 1 = marking_own u also seat ∙ ap (λ (b : Bool). let count : ℕ = if b then 1 else 0 in count) marks in
    absurd (omega (arith, sum_set (taken seat) s.views id handle.0 u e, sum_one (taken seat) s.views id handle.0 e, z, one))
gains_home layout s id handle r place u also hold held at e g had_is before marks_now seat low z false t =
    let v : View = handle.0 in
    let i : ℕ = seat_of (own v) in
    let word : ℕ = (world_of layout r.items).mem (PlaceOf seat) in
    let after : marks_at (own u).local.phase seat ≡ false = marks_now seat ∙ apart_from place seat t in
    let same : sum_by (taken seat) (set s.views id u) ≡ sum_by (taken seat) s.views = sum_same (taken seat) s.views id v u e (taken_same v u seat held.one also held.holds hold had_is (before seat) after) in
    home_stays layout s.words r.items handle s.homes (set s.homes (slot_at place) none) seat g (other_seat s.views id v u seat e held.one hold had_is z (seat == i) refl)
    (ap (λ (p : Phase). placed i p seat word) at ∙ exchanged_other i place seat word t) (set_else s.homes (slot_at place) (slot_at seat) none (slot_apart seat place (number_apart seat place t))) (r.home seat low (sym same ∙ z))

-- a list was left there
gains : (layout : Layout) (state : State (Option Kept) View) (id : ℕ) (handle : Handle) (r : ByNumber layout state) (place : ℕ) → IsHeld layout handle → busy_in (standing handle).phase ≡ true → (standing handle).phase ≡ Works (Keeping (TakeList place))
    → get_elem? state.views id ≡ some handle.0 → Going layout state.words r.items handle → (answered state.words (asks (standing handle)) == 1) ≡ true
    → Acts layout state r.items id handle true (λ word. TakesOver handle (answer_of (asks (standing handle)) word))
gains layout s id handle r place held busy at e g q =
    let v : View = handle.0 in
    let i : ℕ = seat_of (own v) in
    let old : World = world_of layout r.items in
    let w : World = world_of layout (now_of r.items handle) in
    let o : Local = offered w i in
    let found : ℕ = answered s.words (asks (standing handle)) in
    let u : View = view_after layout r.items handle found true in
    let x : Exchanged layout s handle r place = exchanged layout s handle r place at g in
    let had_is : (k : ℕ) → had k u ≡ had k v = number_after layout s handle r found g held in
    let one_old : old.mem (PlaceOf place) ≡ 1 = sym x.found ∙ number_is found 1 q in
    let one : w.mem (PlaceOf place) ≡ 1 = x.same ∙ one_old in
    let low_place : place < layout.config.seats = subst (λ (d : Layout). place < d.config.seats) (layout_is layout (now_of r.items handle)) ((g.shows i).takes place x.phase) in
    let none_has : sum_by (taken place) s.views ≡ 0 = none_left layout s.words s.homes s.views place r one_old in
    let h : IsHome layout old s.homes place = r.home place low_place none_has in
    let f = h.holds.left one_old in
    let took : Took o place (own u).local = takes_after o place found x.phase q in
    let own_zero : w.mem (PlaceOf i) ≡ 0 = (g.shows i).here (ap (λ (l : Local). busy_in l.phase) g.entered.own_is ∙ busy) in
    let apart : (place == i) ≡ false = not_own (place == i) (λ t. let is : place ≡ i = number_is place i t in absurd (omega (arith, one, own_zero, ap (λ (n : ℕ). w.mem (PlaceOf n)) is))) in
    let before : (k : ℕ) → marks_at (own v).local.phase k ≡ false = (λ k. marks_before (own v).local (call_in handle.1) k (λ c q. (held.begins c q).idle) (ap (λ (p : Phase). marks_at p k) at)) in
    let marks_now : (k : ℕ) → marks_at (own u).local.phase k ≡ (place == k) = (λ k. ap (λ (p : Phase). marks_at p k) took.marks) in
    record {
      act = takes (slot_at place) h.kept;
      valid = h.there;
      here = λ hold. own_stays layout s handle r busy (ap is_leaving at) g;
      home = λ seat low z. gains_home layout s id handle r place u refl refl held at e g had_is before marks_now seat low z (seat == place) refl;
      learns = λ told items.
          let t = relaid layout (own v).local.post.layout handle found u (sym held.tracked.layout_is) told in
          let world_is : world_of (own v).local.post.layout t.0.items ≡ w = ap₂ world_of held.tracked.layout_is (t.1 ∙ items) in
          let gift : (offered (world_of (own v).local.post.layout t.0.items) i).desk.gift ≡ list_in old place = ap (λ (z : World). (offered z i).desk.gift) world_is ∙ gift_is w i place x.phase one ∙ g.lists place apart in
          let kept_is : h.kept ≡ slot_left (record { lives = (offered (world_of (own v).local.post.layout t.0.items) i).desk.gift; slots = (own v).local.post.layout.config.slots }) f.0 =
          f.1 ∙ ap₂ (λ (lives : List Lifetime) (d : Layout). slot_left (record { lives = lives; slots = d.config.slots }) f.0) (sym gift) (sym held.tracked.layout_is) in
          let took_it : IsTaken handle (offered (world_of (own v).local.post.layout t.0.items) i).desk.gift (u, (slot_at place, h.kept) ∷ handle.1) =
          record { place = place; at = at; first = f.0; slots = ap (λ (kept : Option Kept). (slot_at place, kept) ∷ handle.1) kept_is } in
          record {
            told = t.0;
            slots = subst (λ b. MatchBool b (IsTaken handle (offered (world_of (own v).local.post.layout t.0.items) i).desk.gift (u, (slot_at place, h.kept) ∷ handle.1)) ((slot_at place, h.kept) ∷ handle.1 ≡ handle.1)) (sym q) took_it;
          };
    }

by_found : (layout : Layout) (state : State (Option Kept) View) (id : ℕ) (handle : Handle) (r : ByNumber layout state) (place : ℕ) → IsHeld layout handle → busy_in (standing handle).phase ≡ true → (standing handle).phase ≡ Works (Keeping (TakeList place))
    → get_elem? state.views id ≡ some handle.0 → Going layout state.words r.items handle → (one : Bool) → (answered state.words (asks (standing handle)) == 1) ≡ one
    → Acts layout state r.items id handle true (λ word. TakesOver handle (answer_of (asks (standing handle)) word))
by_found layout s id handle r place held busy at e g true q = gains layout s id handle r place held busy at e g q
by_found layout s id handle r place held busy at e g false q = misses layout s id handle r place held busy at e g q

either_if : (b : Bool) (x y : ℕ) → (if b then x else y) ≡ either b x y
either_if true x y = refl
either_if false x y = refl

pub adopts_list : (layout : Layout) (slots id slot word place : ℕ) (handle : Handle) → IsSeated layout slot handle → (standing handle).phase ≡ Works (Keeping (TakeList place)) → Cas word 1 2 ≡ asks (standing handle)
    → Allows (ByNumber layout) slots id handle word (λ n. either (n == 1) 2 n) (TakesOver handle)
adopts_list layout slots id slot word place handle seated at op =
    let held : IsHeld layout handle = held_of layout slot handle seated in
    let busy : busy_in (standing handle).phase ≡ true = ap busy_in at in
    subst (λ (f : ℕ → ℕ). Allows (ByNumber layout) slots id handle word f (TakesOver handle)) (fun_ext (λ n. either_if (n == 1) 2 n))
    (subst (λ (o : Op). Allows (ByNumber layout) slots id handle (word_in o) (changed o) (λ found. TakesOver handle (answer_of o found))) (sym op)
    (allows layout slots id handle true (λ found. TakesOver handle (answer_of (asks (standing handle)) found)) held busy (λ s r ls e g. by_found layout s id handle r place held busy at e g (answered s.words (asks (standing handle)) == 1) refl)))

-- a handle that marks a place has no call in its slot
pub marks_standing : (layout : Layout) (slot place : ℕ) (handle : Handle) → IsAdopting layout slot place handle → standing handle ≡ (own handle.0).local
marks_standing layout slot place handle a = ap (λ (slots : List (ℕ × Option Kept)). entered (own handle.0).local (call_in slots)) a.slots

pub marks_held : (layout : Layout) (slot place : ℕ) (handle : Handle) → IsAdopting layout slot place handle → IsHeld layout handle
marks_held layout slot place handle a = record { one = a.one; tracked = a.tracked; holds = a.holds; begins = λ c q. absurd (cc (sym q ∙ ap call_in a.slots)) }

pub marks_place : (layout : Layout) (slots id slot word place : ℕ) (handle : Handle) → slots ≡ slot_at layout.config.seats → IsAdopting layout slot place handle → Store word 3 ≡ asks (standing handle)
    → Allows (ByNumber layout) slots id handle word (λ _. 3) (λ _. MarksOver handle 0)
marks_place layout slots id slot word place handle all adopting op =
    let held : IsHeld layout handle = marks_held layout slot place handle adopting in
    let count : ℕ = adopting.marks.0 in
    let at : (standing handle).phase ≡ Works (Keeping (MarkTaken place count)) = ap (λ (l : Local). l.phase) (marks_standing layout slot place handle adopting) ∙ adopting.marks.1 in
    let busy : busy_in (standing handle).phase ≡ true = ap busy_in at in
    subst (λ (o : Op). Allows (ByNumber layout) slots id handle (word_in o) (changed o) (λ found. MarksOver handle (answer_of o found))) (sym op)
    (allows layout slots id handle true (λ found. MarksOver handle (answer_of (asks (standing handle)) found)) held busy
    (λ s r ls e g.
    let v : View = handle.0 in
    let i : ℕ = seat_of (own v) in
    let w : World = world_of layout (now_of r.items handle) in
    let later : World = world_of layout (next_of r.items handle) in
    let found : ℕ = answered s.words (asks (standing handle)) in
    let u : View = view_after layout r.items handle found true in
    let phase : (w.seat i).phase ≡ Works (Keeping (MarkTaken place count)) = ap (λ (l : Local). l.phase) g.entered.own_is ∙ at in
    let had_is : (k : ℕ) → had k u ≡ had k v = number_after layout s handle r found g held in
    let before : (k : ℕ) → marks_at (own v).local.phase k ≡ (place == k) = (λ k. ap (λ (p : Phase). marks_at p k) adopting.marks.1) in
    let after : (k : ℕ) → marks_at (own u).local.phase k ≡ false = (λ k. ap (λ (p : Phase). marks_at p k) (marks_after (offered w i) place count found phase)) in
    let shows : PlaceShows w i = g.shows i in
    let low_place : place < layout.config.seats = subst (λ (d : Layout). place < d.config.seats) (layout_is layout (now_of r.items handle)) (shows.marks place count phase).0 in
    let there : slot_at place < length s.homes = slot_below place layout.config.seats (length s.homes) (ls ∙ all) low_place in
    let homes : List (Home (Option Kept)) = set s.homes (slot_at place) (some None) in
    let moves : PlaceMoves w i place = g.moves place in
    let word_is : later.mem (PlaceOf place) ≡ 3 = ap (λ (z : World). z.mem (PlaceOf place)) g.steps ∙ moves.word ∙ ap (λ (p : Phase). placed i p place (w.mem (PlaceOf place))) phase ∙ marked_word i place count (w.mem (PlaceOf place)) in
    let home_place : IsHome layout later homes place = record { kept = None; there = set_here s.homes (slot_at place) (some None) there; holds = record { left = λ q. absurd (omega (arith, q, word_is)); clear = λ ne. refl } } in
    record {
      act = gives;
      valid = tt;
      here = λ hold. own_stays layout s handle r busy (ap is_leaving at) g;
      home = λ seat low z. subst (λ (h : List (Home (Option Kept))). IsHome layout later h seat) (sym (ap (put_back s.homes) adopting.slots))
          (one_home layout s.words r.items handle s.homes homes place seat (seat == place) refl g home_place
          (λ other. (
            other_seat s.views id v u seat e held.one refl had_is z (seat == i) refl,
            ap (λ (p : Phase). placed i p seat ((world_of layout r.items).mem (PlaceOf seat))) at ∙ marked_other i place count seat ((world_of layout r.items).mem (PlaceOf seat)) other,
            set_else s.homes (slot_at place) (slot_at seat) (some None) (slot_apart seat place (number_apart seat place other)),
            r.home seat low (sym (sum_same (taken seat) s.views id v u e (taken_same v u seat held.one refl held.holds refl had_is (before seat ∙ apart_from place seat other) (after seat))) ∙ z),
          )));
      learns = λ told items.
          let t = relaid layout (own v).local.post.layout handle found u (sym held.tracked.layout_is) told in
          record { told = t.0; slots = refl };
    }))
