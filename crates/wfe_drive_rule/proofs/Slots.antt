-- A handle takes its slot, and gives it back.
use Rattle.std.proofs.Common.{All, Bool, List, [], ap, arith, cond, false, get_or, length, refl, set, subst, sym, true, ℕ, ◌+◌, ◌<◌, ◌∙◌, ◌∷◌, ◌≡◌, ◌≢◌, ◌≤◌}
use Rattle.std.proofs.Math.Nat.{zero-add}
use Rattle.std.proofs.lemmas.Bool.Decides.{nat_tests}
use Rattle.std.proofs.lemmas.List.Elements.{All-cons, All-head, All-nil}
use Rattle.std.specs.Prelude.{None, Option, if◌then◌else◌, sum_by, ◌==◌}
use mathlib.Core.Option.{some, some-injective, none}
use mathlib.Core.Option.{Option as Home}
use lib.ListN.{get_elem?}
use Rattle.atomic_table.specs.Table.{Allows, Step, put_back, rest}
use Rattle.atomic_table.specs.Table.Act.{gives, takes}
use Rattle.atomic_table.proofs.Lists.{set_else, set_here}
use Rattle.wfe_core.specs.words.declared.layout.Layout.{Layout}
use Rattle.wfe_core.specs.defs.declared.call.Call.{Call}
use Rattle.wfe_drive_rule.specs.declared.kept.Kept.{Kept}
use Rattle.wfe_core.proofs.Facts.{number_is, same_number}
use Rattle.wfe_core.specs.defs.declared.call.Call.TheVariants as names
use Rattle.wfe_core.specs.Calls.{Keeping, MarkTaken, Phase, Works}
use Rattle.wfe_core.specs.Locals.{Local, busy_in}
use Rattle.wfe_core.specs.World.{World, is_here}
use Rattle.wfe_core.specs.words.Place.{is_valid}
use Rattle.wfe_core.specs.words.Place.Place.{PlaceOf}
use Rattle.law_reuse.specs.history.History.{Item, world_of}
use Rattle.law_reuse.specs.inv.Places.{PlaceShows}
use Rattle.law_reuse.proofs.inv.Inv.Places.{inv_places}
use Rattle.law_reuse.proofs.inv.Inv.Reached.{inv_reached}
use Rattle.wfe_drive_rule.specs.Handles.{IsBare, IsIdle, IsSeated}
use Rattle.wfe_drive_rule.specs.Moves.{Gives, Takes, bared, slotted}
use Rattle.wfe_drive_rule.specs.Rule.{AtHome, ByNumber, Follows, IsHere, IsHome, Rules, had, held, marking, markings, marks_at, taken, times}
use Rattle.wfe_drive_rule.specs.Spots.{slot_at}
use Rattle.wfe_drive_rule.specs.Views.{Handle, Track, View, call_in, own, seat_of, slot_of}
use Rattle.wfe_drive_rule.proofs.Numbers.{once_most}
use Rattle.wfe_drive_rule.proofs.Rules.{follows_own, rules_set}
use Rattle.wfe_drive_rule.proofs.Here.{seats_there}
use Rattle.wfe_drive_rule.proofs.Sums.{All-each, count_zero, sum_one, sum_set, sum_two, sum_zero}

-- a handle of one seat has that seat once
pub had_own : (v : View) → v.tracks ≡ own v ∷ [] → (seat : ℕ) → had seat v ≡ (if seat_of (own v) == seat then 1 else 0)
had_own v one seat = ap (times seat) one ∙ zero-add (if seat_of (own v) == seat then 1 else 0)

-- and so has another of the same seat
pub had_alike : (v w : View) → v.tracks ≡ own v ∷ [] → w.tracks ≡ own w ∷ [] → seat_of (own w) ≡ seat_of (own v) → (seat : ℕ) → had seat w ≡ had seat v
had_alike v w one also e seat = had_own w also seat ∙ ap (λ (n : ℕ). let count : ℕ = if n == seat then 1 else 0 in count) e ∙ sym (had_own v one seat)

pub had_itself : (v : View) → v.tracks ≡ own v ∷ [] → had (seat_of (own v)) v ≡ 1
had_itself v one = had_own v one (seat_of (own v)) ∙ ap (λ (b : Bool). cond b 1 0) (same_number (seat_of (own v)))

-- no other view has the seat, and a seat that no view has is another
pub other_views : (layout : Layout) (list : List ℕ) (homes : List (Home (Option Kept))) (views : List View) (id j : ℕ) (v w : View) → Rules layout list homes views → v.tracks ≡ own v ∷ [] → get_elem? views id ≡ some v → get_elem? views j ≡ some w → j ≢ id
    → had (seat_of (own v)) w ≡ 0
other_views layout list homes views id j v w r one e g ne =
    let i : ℕ = seat_of (own v) in
    omega (arith, sum_two (had i) views id j v w refl e g ne, had_itself v one, once_most layout views r.made i r.numbers)

pub unmade_apart : (views : List View) (id : ℕ) (v : View) (seat : ℕ) → v.tracks ≡ own v ∷ [] → get_elem? views id ≡ some v → sum_by (had seat) views ≡ 0 → (seat == seat_of (own v)) ≡ false
unmade_apart views id v seat one e z = by_test (seat == seat_of (own v)) refl
  where
    by_test : (b : Bool) → (seat == seat_of (own v)) ≡ b → b ≡ false
    by_test false q = refl
    by_test true q =
        let is : seat_of (own v) ≡ seat = grind (arith, nat_tests) in
        let here : had seat v ≡ 1 = subst (λ k. had k v ≡ 1) is (had_itself v one) in
        absurd (omega (arith, sum_one (had seat) views id v e, here, z))

-- a view that has its slot has that of each of its seats
pub held_same : (v w : View) → v.holds ≡ true → w.holds ≡ true → ((seat : ℕ) → had seat w ≡ had seat v) → (seat : ℕ) → held seat w ≡ held seat v
held_same v w h k e seat = ap (λ (b : Bool). let count : ℕ = if b then had seat w else 0 in count) k ∙ e seat ∙ sym (ap (λ (b : Bool). let count : ℕ = if b then had seat v else 0 in count) h)

pub held_none : (seat : ℕ) (v : View) → v.holds ≡ false → held seat v ≡ 0
held_none seat v h = ap (λ (b : Bool). let count : ℕ = if b then had seat v else 0 in count) h

pub held_all : (seat : ℕ) (v : View) → v.holds ≡ true → held seat v ≡ had seat v
held_all seat v h = ap (λ (b : Bool). let count : ℕ = if b then had seat v else 0 in count) h

held_least : (seat : ℕ) (v : View) → held seat v ≤ had seat v
held_least seat v = by_holds v.holds
  where
    by_holds : (b : Bool) → (if b then had seat v else 0) ≤ had seat v
    by_holds true = omega arith
    by_holds false = omega arith

-- a handle of one seat marks the place that its seat's next step does
pub marking_own : (v : View) → v.tracks ≡ own v ∷ [] → (place : ℕ) → marking place v ≡ (if marks_at (own v).local.phase place then 1 else 0)
marking_own v one place = ap (markings place) one ∙ zero-add (if marks_at (own v).local.phase place then 1 else 0)

pub marking_none : (v : View) → v.tracks ≡ own v ∷ [] → (place : ℕ) → marks_at (own v).local.phase place ≡ false → marking place v ≡ 0
marking_none v one place h = marking_own v one place ∙ ap (λ (b : Bool). let count : ℕ = if b then 1 else 0 in count) h

-- a list whose place is to be marked was taken over
marks_phase : (phase : Phase) (place : ℕ) → marks_at phase place ≡ true → (count : ℕ) × (phase ≡ Works (Keeping (MarkTaken place count)))
marks_phase (Works (Keeping (MarkTaken at count))) place h = (count, ap (λ (n : ℕ). Works (Keeping (MarkTaken n count))) (number_is at place h))
marks_phase phase place h = absurd (cc)

marks_word : (layout : Layout) (items : List Item) (track : Track) (place : ℕ) → is_valid layout ≡ true → Follows layout items track → marks_at track.local.phase place ≡ true → 1 < (world_of layout items).mem (PlaceOf place)
marks_word layout items track place valid f h =
    let w : World = world_of layout items in
    let p = marks_phase track.local.phase place h in
    let s : PlaceShows w (seat_of track) = inv_places w (seat_of track) (inv_reached layout items valid) in
    (s.marks place p.0 (ap (λ (l : Local). l.phase) f.stands ∙ p.1)).1

marks_not : (layout : Layout) (items : List Item) (track : Track) (place : ℕ) → is_valid layout ≡ true → Follows layout items track → (world_of layout items).mem (PlaceOf place) ≤ 1 → marks_at track.local.phase place ≡ false
marks_not layout items track place valid f low = by_test (marks_at track.local.phase place) refl
  where
    by_test : (b : Bool) → marks_at track.local.phase place ≡ b → b ≡ false
    by_test false q = refl
    by_test true q = absurd (omega (arith, marks_word layout items track place valid f q, low))

pub marking_low : (layout : Layout) (list : List ℕ) (homes : List (Home (Option Kept))) (views : List View) (j place : ℕ) (w : View) (r : Rules layout list homes views) → get_elem? views j ≡ some w → (world_of layout r.items).mem (PlaceOf place) ≤ 1 → marking place w ≡ 0
marking_low layout list homes views j place w r e low =
    count_zero (λ track. marks_at track.local.phase place) w.tracks
    (All-each (Follows layout r.items) (λ track. marks_at track.local.phase place ≡ false) w.tracks (λ track f. marks_not layout r.items track place r.valid f low) (r.tracks j w e))

-- where a place word is 1 no view has the slot
held_gone : (layout : Layout) (list : List ℕ) (homes : List (Home (Option Kept))) (views : List View) (j place : ℕ) (w : View) (r : Rules layout list homes views) → get_elem? views j ≡ some w → is_here (world_of layout r.items) place ≡ false → (b : Bool) → w.holds ≡ b → held place w ≡ 0
held_gone layout list homes views j place w r e gone false h = held_none place w h
held_gone layout list homes views j place w r e gone true h =
    held_all place w h
    ∙ count_zero (λ track. seat_of track == place) w.tracks
    (All-each (IsHere (world_of layout r.items)) (λ track. (seat_of track == place) ≡ false) w.tracks (λ track i. here_apart (world_of layout r.items) (seat_of track) place i gone (seat_of track == place) refl) (r.here j w e h))
  where
    here_apart : (u : World) (i k : ℕ) → is_here u i ≡ true → is_here u k ≡ false → (same : Bool) → (i == k) ≡ same → same ≡ false
    here_apart u i k h g false q = refl
    here_apart u i k h g true q = let is : i ≡ k = number_is i k q in absurd (cc (sym h ∙ ap (is_here u) is ∙ g))

pub none_left : (layout : Layout) (list : List ℕ) (homes : List (Home (Option Kept))) (views : List View) (place : ℕ) (r : Rules layout list homes views) → (world_of layout r.items).mem (PlaceOf place) ≡ 1 → sum_by (taken place) views ≡ 0
none_left layout list homes views place r one =
    sum_zero (taken place) views (λ j w e. omega (arith, held_gone layout list homes views j place w r e (ap (λ (n : ℕ). n == 0) one) w.holds refl, marking_low layout list homes views j place w r e (omega (arith, one))))

-- no view has the slot of a seat that a bare handle has and that is there
none_taken : (layout : Layout) (list : List ℕ) (homes : List (Home (Option Kept))) (views : List View) (id : ℕ) (v : View) (r : Rules layout list homes views) → get_elem? views id ≡ some v → v.tracks ≡ own v ∷ [] → v.holds ≡ false
    → (world_of layout r.items).mem (PlaceOf (seat_of (own v))) ≡ 0 → sum_by (taken (seat_of (own v))) views ≡ 0
none_taken layout list homes views id v r e one bare here =
    let i : ℕ = seat_of (own v) in
    sum_zero (taken i) views (λ j w g. omega (arith, held_by j w g (j == id) refl, marking_low layout list homes views j i w r g (omega (arith, here))))
  where
    held_by : (j : ℕ) (w : View) → get_elem? views j ≡ some w → (same : Bool) → (j == id) ≡ same → held (seat_of (own v)) w ≡ 0
    held_by j w g true q =
        let is : j ≡ id = number_is j id q in
        let same : v ≡ w = some-injective v w (sym e ∙ ap (λ (n : ℕ). get_elem? views n) (sym is) ∙ g) in
        held_none (seat_of (own v)) w (ap (λ (z : View). z.holds) (sym same) ∙ bare)
    held_by j w g false q =
        let ne : j ≢ id = (λ s. grind (arith, nat_tests)) in
        omega (arith, held_least (seat_of (own v)) w, other_views layout list homes views id j v w r one e g ne)

-- another slot than the seat's, where no view has taken it
apart : (i seat n m : ℕ) (b : Bool) → (i == seat) ≡ b → m ≡ n + (if b then 1 else 0) → m ≡ 0 → (seat ≢ i) × (n ≡ 0)
apart i seat n m true q e z = absurd (omega (arith, e, z))
apart i seat n m false q e z = ((λ s. grind (arith, nat_tests)), omega (arith, e, z))

-- the seat of a bare handle between calls that has not left is there
pub bare_here : (layout : Layout) (items : List Item) (track : Track) → is_valid layout ≡ true → Follows layout items track → IsIdle track → track.local.call ≢ names.Leave → is_here (world_of layout items) (seat_of track) ≡ true
bare_here layout items track valid f idle there =
    seats_there layout items valid (seat_of track) (ap (λ (l : Local). busy_in l.phase) f.stands ∙ idle) (λ e. there (ap (λ (l : Local). l.call) (sym f.stands) ∙ e))

home_apart : (layout : Layout) (w : World) (homes later : List (Home (Option Kept))) (seat : ℕ) → get_elem? later (slot_at seat) ≡ get_elem? homes (slot_at seat) → IsHome layout w homes seat → IsHome layout w later seat
home_apart layout w homes later seat e h = record { kept = h.kept; there = e ∙ h.there; holds = h.holds }

pub takes_slot : (layout : Layout) (slots id : ℕ) (handle : Handle) (step : Step (Option Kept)) → IsBare layout handle → IsIdle (own handle.0) → (own handle.0).local.call ≢ names.Leave → Allows (ByNumber layout) slots id handle 0 (λ n. n) (Takes step handle)
takes_slot layout slots id handle step bare idle there s r ls e bound =
    let v : View = handle.0 in
    let i : ℕ = seat_of (own v) in
    let u : View = slotted v in
    let w : World = world_of layout r.items in
    let here : is_here w i ≡ true = bare_here layout r.items (own v) r.valid (follows_own layout s.words s.homes s.views id v r e bare.one) idle there in
    let zero_word : w.mem (PlaceOf i) ≡ 0 = number_is (w.mem (PlaceOf i)) 0 here in
    let own_home : IsHome layout w s.homes i = r.home i bare.tracked.seat (none_taken layout s.words s.homes s.views id v r e bare.one bare.holds zero_word) in
    let empty : own_home.kept ≡ None = own_home.holds.clear (λ q. absurd (omega (arith, q, zero_word))) in (
      u,
      takes (slot_at i) None,
      own_home.there ∙ ap (λ (kept : Option Kept). some (some kept)) empty,
      rules_set layout s.words s.homes (set s.homes (slot_at i) none) s.views id v u r e refl refl refl
          (λ h. subst (All (IsHere w)) (sym bare.one) (All-cons (IsHere w) (own v) [] here (All-nil (IsHere w))))
          (λ seat low z.
          let a = apart i seat (sum_by (taken seat) s.views) (sum_by (taken seat) (set s.views id u)) _ refl (omega (arith, sum_set (taken seat) s.views id v u e, held_none seat v bare.holds, held_all seat u refl, had_own v bare.one seat)) z in
          home_apart layout w s.homes (set s.homes (slot_at i) none) seat (set_else s.homes (slot_at i) (slot_at seat) none (λ q. a.0 (omega (arith, q)))) (r.home seat low a.1)),
      ap (λ slots. (u, (slot_at i, None) ∷ slots)) bare.slots,
    )

-- the slot that is given back is at home, and the others are as they were
home_by : (layout : Layout) (w : World) (homes : List (Home (Option Kept))) (i seat n m : ℕ) (b : Bool) → (i == seat) ≡ b → slot_at i < length homes → n ≡ m + (if b then 1 else 0) → m ≡ 0 → AtHome layout w i None → (n ≡ 0 → IsHome layout w homes seat) → IsHome layout w (set homes (slot_at i) (some None)) seat
home_by layout w homes i seat n m true q low e z at h =
    subst (λ j. IsHome layout w (set homes (slot_at i) (some None)) j) (number_is i seat q) (record { kept = None; there = set_here homes (slot_at i) (some None) low; holds = at })
home_by layout w homes i seat n m false q low e z at h =
    let ne : seat ≢ i = (λ s. grind (arith, nat_tests)) in home_apart layout w homes (set homes (slot_at i) (some None)) seat (set_else homes (slot_at i) (slot_at seat) (some None) (λ q. ne (omega (arith, q)))) (h (omega (arith, e, z)))

pub gives_slot : (layout : Layout) (slots id slot : ℕ) (handle : Handle) (step : Step (Option Kept)) → slots ≡ slot_at layout.config.seats → IsSeated layout slot handle → call_in handle.1 ≡ None → Allows (ByNumber layout) slots id handle 0 (λ n. n) (Gives step handle)
gives_slot layout slots id slot handle step all seated empty s r ls e bound =
    let v : View = handle.0 in
    let i : ℕ = seat_of (own v) in
    let u : View = bared v in
    let w : World = world_of layout r.items in
    let has : handle.1 ≡ (slot_at i, None) ∷ [] = seated.slots ∙ ap (λ (call : Option Call). (slot_at slot, slot_of call) ∷ []) empty ∙ ap (λ (n : ℕ). (slot_at n, None) ∷ []) seated.number in
    let there : slot_at i < length s.homes = omega (arith, ls, all, seated.tracked.seat) in
    let here : is_here w i ≡ true = All-head (IsHere w) (own v) [] (subst (All (IsHere w)) seated.one (r.here id v e seated.holds)) in
    let zero_word : w.mem (PlaceOf i) ≡ 0 = number_is (w.mem (PlaceOf i)) 0 here in
    let at : AtHome layout w i None = record { left = λ q. absurd (omega (arith, q, zero_word)); clear = λ ne. refl } in (
      u,
      gives,
      tt,
      subst (λ c. Rules layout (set s.words 0 (get_or s.words 0 0)) (put_back s.homes c) (set s.views id u)) (sym has)
          (rules_set layout s.words s.homes (set s.homes (slot_at i) (some None)) s.views id v u r e refl refl refl (λ h. absurd (cc h))
          (λ seat low z. home_by layout w s.homes i seat (sum_by (taken seat) s.views) (sum_by (taken seat) (set s.views id u)) _ refl there
          (omega (arith, sum_set (taken seat) s.views id v u e, held_all seat v seated.holds, held_none seat u refl, had_own v seated.one seat)) z at (r.home seat low))),
      ap (λ c. (u, rest c)) has,
    )
