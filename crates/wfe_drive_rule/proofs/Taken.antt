-- A handle after the steps of an adoption.
use Rattle.std.proofs.Common.{Bool, List, [], ap, ap₂, arith, false, refl, subst, sym, ℕ, ◌++◌, ◌∙◌, ◌∷◌, ◌≡◌}
use Rattle.std.proofs.lemmas.Bool.Decides.{nat_tests}
use Rattle.std.specs.Prelude.{MatchBool, None, Option, ◌==◌}
use Rattle.atomic_table.specs.Table.{rest}
use Rattle.wfe_core.specs.words.declared.layout.Layout.{Layout}
use Rattle.wfe_core.specs.defs.declared.lifetime.Lifetime.{Lifetime}
use Rattle.wfe_core.specs.Calls.{Keeping, MarkTaken, TakeList, Works}
use Rattle.wfe_core.specs.Held.{ListHeld}
use Rattle.wfe_core.specs.Locals.{Local, after, busy_in}
use Rattle.wfe_core.specs.World.{World, offered}
use Rattle.law_reuse.specs.history.History.{Steps, world_of}
use Rattle.wfe_drive_rule.specs.declared.kept.Kept.{Kept}
use Rattle.wfe_drive_rule.specs.Handles.{IsAdopting, IsResting, IsSeated, IsTracked}
use Rattle.wfe_drive_rule.specs.Moves.{IsTaken, MarksOver, TakesOver, Told, with_own}
use Rattle.wfe_drive_rule.specs.Spots.{slot_at}
use Rattle.wfe_drive_rule.specs.Views.{Handle, Track, View, call_in, entered, own, seat_of, slot_left, slot_of, standing}
use Rattle.wfe_core.proofs.CallFrames.{stays_in_place}
use Rattle.wfe_drive_rule.proofs.Allowed.{entered_same}
use Rattle.wfe_drive_rule.proofs.Adopting.{marks_held, marks_standing, relaid}
use Rattle.wfe_drive_rule.proofs.Places.{marks_after, takes_after}
use Rattle.wfe_drive_rule.proofs.Seated.{seated_held, seated_on, tracked_on}

-- a place was marked
pub record Marked (layout : Layout) (slot : ℕ) (handle later : Handle) : Type 0 where
  pub seated : IsSeated layout slot later
  pub resting : IsResting later
  pub told : Told layout handle 0 later.0

pub marked : (layout : Layout) (slot place : ℕ) (handle later : Handle) → IsAdopting layout slot place handle → MarksOver handle 0 later → Marked layout slot handle later
marked layout slot place handle later a over =
    let t : Told layout handle 0 later.0 = (relaid (own handle.0).local.post.layout layout handle 0 later.0 a.tracked.layout_is over.told).0 in
    let count : ℕ = a.marks.0 in
    let at : (standing handle).phase ≡ Works (Keeping (MarkTaken place count)) = ap (λ (l : Local). l.phase) (marks_standing layout slot place handle a) ∙ a.marks.1 in
    let empty : later.1 ≡ (slot_at slot, None) ∷ [] = over.slots ∙ ap rest a.slots in
    let o : Local = offered (world_of layout t.items) (seat_of (own handle.0)) in
    let idle : busy_in (after o 0).phase ≡ false = ap busy_in (marks_after o place count 0 (ap (λ (l : Local). l.phase) t.stands ∙ at)) in
    let now : standing later ≡ after o 0 = ap (λ slots. entered (own later.0).local (call_in slots)) empty ∙ ap (λ (v : View). (own v).local) t.to in
    record {
      seated = seated_held layout slot 0 handle later (marks_held layout slot place handle a) a.number (ap busy_in at) t empty;
      resting = ap (λ (l : Local). busy_in l.phase) now ∙ idle;
      told = t;
    }

-- no list was left
pub takes_missed : (handle later : Handle) (found : ℕ) (t : TakesOver handle found later) → (found == 1) ≡ false → later.1 ≡ handle.1
takes_missed handle later found t q =
    subst (λ b. MatchBool b (IsTaken handle (offered (world_of (own handle.0).local.post.layout t.told.items) (seat_of (own handle.0))).desk.gift later) (later.1 ≡ handle.1)) q t.slots

pub record Missed (layout : Layout) (slot found : ℕ) (handle later : Handle) : Type 0 where
  pub seated : IsSeated layout slot later
  pub told : Told layout handle found later.0

pub missed : (layout : Layout) (slot place found : ℕ) (handle later : Handle) → IsSeated layout slot handle → (standing handle).phase ≡ Works (Keeping (TakeList place)) → TakesOver handle found later → Missed layout slot found handle (later.0, (slot_at slot, None) ∷ [])
missed layout slot place found handle later s at over =
    let t : Told layout handle found later.0 = (relaid (own handle.0).local.post.layout layout handle found later.0 s.tracked.layout_is over.told).0 in
    record { seated = seated_on layout slot found handle (later.0, (slot_at slot, None) ∷ []) s (ap busy_in at) t refl; told = t }

-- a list was left, and is taken over
same_place : (a b : ℕ) → Works (Keeping (TakeList a)) ≡ Works (Keeping (TakeList b)) → a ≡ b
same_place a b e = cc

pub record Taken (layout : Layout) (slot place : ℕ) (handle mid : Handle) : Type 0 where
  pub told : Told layout handle 1 mid.0
  pub first : Bool
  pub slots : mid.1 ≡ (slot_at place, slot_left (record { lives = (offered (world_of layout told.items) (seat_of (own handle.0))).desk.gift; slots = layout.config.slots }) first) ∷ (slot_at slot, slot_of (call_in handle.1)) ∷ []
  pub adopting : IsAdopting layout slot place (mid.0, (slot_at place, None) ∷ (slot_at slot, None) ∷ [])

taken_by : (layout : Layout) (slot place found : ℕ) (handle mid : Handle) → IsSeated layout slot handle → found ≡ 1 → (t : Told layout handle found mid.0) (first : Bool)
    → mid.1 ≡ (slot_at place, slot_left (record { lives = (offered (world_of layout t.items) (seat_of (own handle.0))).desk.gift; slots = layout.config.slots }) first) ∷ (slot_at slot, slot_of (call_in handle.1)) ∷ []
    → IsAdopting layout slot place (mid.0, (slot_at place, None) ∷ (slot_at slot, None) ∷ []) → Taken layout slot place handle mid
taken_by layout slot place found handle mid s is t first slots adopting =
    record {
      told = record { items = t.items; more = t.more; begins = t.begins; stands = t.stands; found_is = sym is ∙ t.found_is; to = t.to ∙ ap (λ (n : ℕ). with_own handle.0 (record { local = after (offered (world_of layout t.items) (seat_of (own handle.0))) n; past = t.items ++ Steps (seat_of (own handle.0)) ∷ [] })) is };
      first = first;
      slots = slots;
      adopting = adopting;
    }

number_on : (layout : Layout) (slot found : ℕ) (handle mid : Handle) → IsSeated layout slot handle → (t : Told layout handle found mid.0) → seat_of (own mid.0) ≡ seat_of (own handle.0)
number_on layout slot found handle mid s t =
    let o : Local = offered (world_of layout t.items) (seat_of (own handle.0)) in
    ap (λ (v : View). seat_of (own v)) t.to ∙ (stays_in_place.steps o found).seat ∙ ap (λ (k : Local). k.post.seat) t.stands ∙ (entered_same (own handle.0).local (call_in handle.1)).seat

pub taken : (layout : Layout) (slot place found : ℕ) (handle mid : Handle) → IsSeated layout slot handle → (standing handle).phase ≡ Works (Keeping (TakeList place)) → found ≡ 1 → TakesOver handle found mid → Taken layout slot place handle mid
taken layout slot place found handle mid s at is over =
    let L : Layout = (own handle.0).local.post.layout in
    let i : ℕ = seat_of (own handle.0) in
    let x : Told L handle found mid.0 = over.told in
    let r = relaid L layout handle found mid.0 s.tracked.layout_is x in
    let t : Told layout handle found mid.0 = r.0 in
    let gift : (offered (world_of L x.items) i).desk.gift ≡ (offered (world_of layout t.items) i).desk.gift = ap (λ (w : World). (offered w i).desk.gift) (ap₂ world_of s.tracked.layout_is (sym r.1)) in
    let took : IsTaken handle (offered (world_of L x.items) i).desk.gift mid =
    subst (λ b. MatchBool b (IsTaken handle (offered (world_of L x.items) i).desk.gift mid) (mid.1 ≡ handle.1)) (ap (λ (n : ℕ). n == 1) is) over.slots in
    let place_is : took.place ≡ place = same_place took.place place (sym took.at ∙ at) in
    let slots : mid.1 ≡ (slot_at place, slot_left (record { lives = (offered (world_of layout t.items) i).desk.gift; slots = layout.config.slots }) took.first) ∷ (slot_at slot, slot_of (call_in handle.1)) ∷ [] =
    took.slots
    ∙ ap (λ (n : ℕ). (slot_at n, slot_left (record { lives = (offered (world_of L x.items) i).desk.gift; slots = L.config.slots }) took.first) ∷ handle.1) place_is
    ∙ ap₂ (λ (lives : List Lifetime) (d : Layout). (slot_at place, slot_left (record { lives = lives; slots = d.config.slots }) took.first) ∷ handle.1) gift s.tracked.layout_is
    ∙ ap (λ (more : List (ℕ × Option Kept)). (slot_at place, slot_left (record { lives = (offered (world_of layout t.items) i).desk.gift; slots = layout.config.slots }) took.first) ∷ more) s.slots in
    let o : Local = offered (world_of layout t.items) i in
    let y : Track = record { local = after o found; past = t.items ++ Steps i ∷ [] } in
    let tracked : IsTracked layout y = tracked_on layout handle found t.items s.tracked (ap busy_in at) t.stands t.found_is in
    let phase : o.phase ≡ Works (Keeping (TakeList place)) = ap (λ (l : Local). l.phase) t.stands ∙ at in
    let marks = (takes_after o place found phase (ap (λ (n : ℕ). n == 1) is)).marks in
    let now : own mid.0 ≡ y = ap (λ (v : View). own v) t.to in
    let single : mid.0.tracks ≡ y ∷ [] = ap (λ (v : View). v.tracks) t.to in
    taken_by layout slot place found handle mid s is t took.first slots (
    record {
      one = single ∙ ap (λ (z : Track). z ∷ []) (sym now);
      tracked = subst (IsTracked layout) (sym now) tracked;
      holds = ap (λ (v : View). v.holds) t.to ∙ s.holds;
      number = s.number ∙ sym (number_on layout slot found handle mid s t);
      slots = refl;
      marks = (_, ap (λ (z : Track). z.local.phase) now ∙ marks);
    })

pub missed_test : (n : ℕ) → (n ≡ 1 → ⊥) → (n == 1) ≡ false
missed_test n ne = grind (arith, nat_tests)

-- what the slot that came first held
abbrev first_kept : List (ℕ × Option Kept) → Option Kept
first_kept [] = None
first_kept (slot ∷ slots) = slot.1

pub kept_is : (slots more left : List (ℕ × Option Kept)) (place other : ℕ) (one two : Option Kept) → slots ≡ (place, one) ∷ more → slots ≡ (other, two) ∷ left → one ≡ two
kept_is slots more left place other one two e f = sym (ap first_kept e) ∙ ap first_kept f

pub list_is : (one two : ListHeld) (p q : Bool) → slot_left one p ≡ slot_left two q → one ≡ two
list_is one two p q e = cc
