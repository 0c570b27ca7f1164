-- A handle that has made a step stands where its past leaves it.
use Rattle.std.proofs.Common.{List, [], ap, arith, false, refl, subst, sym, true, ℕ, ◌++◌, ◌<◌, ◌∙◌, ◌∷◌, ◌≡◌}
use Rattle.std.specs.Prelude.{None, Option, Some}
use Rattle.atomic_table.specs.Table.{rest}
use Rattle.wfe_core.specs.words.declared.layout.Layout.{Layout}
use Rattle.wfe_core.specs.defs.declared.call.Call.{Call}
use Rattle.wfe_drive_rule.specs.declared.kept.Kept.{Kept}
use Rattle.wfe_core.specs.Locals.{Local, after, busy_in}
use Rattle.wfe_core.specs.World.{World, finds, gift_at, offered}
use Rattle.wfe_core.specs.Calls.{Keeping, Phase, TakeList, Works}
use Rattle.wfe_core.specs.defs.declared.lifetime.Lifetime.{Lifetime}
use Rattle.wfe_drive_cells.specs.Unit.{may_adopt}
use Rattle.wfe_core.proofs.CallFrames.{stays_in_place}
use Rattle.law_reuse.specs.history.History.{Item, Steps, world_of}
use Rattle.law_reuse.proofs.Turns.Counted.{first_busy}
use Rattle.law_reuse.proofs.inv.requests.Turns.{upd_here}
use Rattle.wfe_drive_rule.specs.Handles.{IsHeld, IsSeated, IsTracked}
use Rattle.wfe_drive_rule.specs.Moves.{Told, keeping, with_own}
use Rattle.wfe_drive_rule.specs.Spots.{slot_at, spots}
use Rattle.wfe_drive_rule.specs.Views.{Handle, Track, View, call_in, entered, own, seat_of, standing}
use Rattle.wfe_drive_rule.proofs.Allowed.{entered_same}
use Rattle.law_reuse.proofs.history.Snoc.{one_step}

-- there is a word to load
pub some_words : (layout : Layout) (count : ℕ) → count ≡ spots layout → 0 < count
some_words layout count e = omega (arith, e)

-- the slot that a seated handle has
pub first_slot : (slots : List (ℕ × Option Kept)) (slot : ℕ) (kept : Option Kept) (more : List (ℕ × Option Kept)) → slots ≡ (slot, kept) ∷ more → (old : Option Kept) × (slots ≡ (slot, old) ∷ rest slots)
first_slot slots slot kept more e = (kept, e ∙ ap (λ (r : List (ℕ × Option Kept)). (slot, kept) ∷ r) (sym (ap rest e)))

pub put_slot : (slots : List (ℕ × Option Kept)) (slot : ℕ) (kept new : Option Kept) (more : List (ℕ × Option Kept)) → slots ≡ (slot, kept) ∷ more → (slot, new) ∷ rest slots ≡ (slot, new) ∷ more
put_slot slots slot kept new more e = ap (λ (s : List (ℕ × Option Kept)). (slot, new) ∷ rest s) e

-- so a seat at rest has none in its slot
pub resting_slot : (l : Local) (call : Option Call) → busy_in (entered l call).phase ≡ false → call ≡ None
resting_slot l None e = refl
resting_slot l (Some call) e = absurd (cc (first_busy call l))

pub tracked_on : (layout : Layout) (handle : Handle) (found : ℕ) (items : List Item) → IsTracked layout (own handle.0) → busy_in (standing handle).phase ≡ true → (world_of layout items).seat (seat_of (own handle.0)) ≡ standing handle → found ≡ finds (world_of layout items) (seat_of (own handle.0))
    → IsTracked layout (record { local = after (offered (world_of layout items) (seat_of (own handle.0))) found; past = items ++ Steps (seat_of (own handle.0)) ∷ [] })
tracked_on layout handle found items t busy e f =
    let i : ℕ = seat_of (own handle.0) in
    let l : Local = standing handle in
    let w : World = world_of layout items in
    let later : List Item = items ++ Steps i ∷ [] in
    let before = entered_same (own handle.0).local (call_in handle.1) in
    let o : Local = offered w i in
    let place = stays_in_place.steps o found in
    let number : (after o found).post.seat ≡ i = place.seat ∙ ap (λ (k : Local). k.post.seat) e ∙ before.seat in
    let here : (world_of layout later).seat i ≡ after o found =
    ap (λ (v : World). v.seat i) (one_step layout items i t.seat (ap (λ (k : Local). busy_in k.phase) e ∙ busy)) ∙ upd_here w.seat i (after o (finds w i)) ∙ ap (after o) (sym f) in
    record {
      valid = t.valid;
      seat = subst (λ (k : ℕ). k < layout.config.seats) (sym number) t.seat;
      layout_is = place.layout ∙ ap (λ (k : Local). k.post.layout) e ∙ before.layout ∙ t.layout_is;
      stood = ap (world_of layout later).seat number ∙ here;
    }

pub seated_held : (layout : Layout) (slot found : ℕ) (handle later : Handle) → IsHeld layout handle → slot ≡ seat_of (own handle.0) → busy_in (standing handle).phase ≡ true → Told layout handle found later.0 → later.1 ≡ (slot_at slot, None) ∷ [] → IsSeated layout slot later
seated_held layout slot found handle later seated slot_is busy told empty =
    let o : Local = offered (world_of layout told.items) (seat_of (own handle.0)) in
    let y : Track = record { local = after o found; past = told.items ++ Steps (seat_of (own handle.0)) ∷ [] } in
    let t : IsTracked layout y = tracked_on layout handle found told.items seated.tracked busy told.stands told.found_is in
    let number : seat_of y ≡ seat_of (own handle.0) = (stays_in_place.steps o found).seat ∙ ap (λ (k : Local). k.post.seat) told.stands ∙ (entered_same (own handle.0).local (call_in handle.1)).seat in
    let base : IsSeated layout slot (with_own handle.0 y, (slot_at slot, None) ∷ []) = record { one = refl; tracked = t; holds = seated.holds; number = slot_is ∙ sym number; slots = refl; begins = λ call e. absurd (cc) } in
    subst (λ v. IsSeated layout slot (v, later.1)) (sym told.to) (subst (λ s. IsSeated layout slot (with_own handle.0 y, s)) (sym empty) base)

pub seated_on : (layout : Layout) (slot found : ℕ) (handle later : Handle) → IsSeated layout slot handle → busy_in (standing handle).phase ≡ true → Told layout handle found later.0 → later.1 ≡ (slot_at slot, None) ∷ [] → IsSeated layout slot later
seated_on layout slot found handle later s busy told empty = seated_held layout slot found handle later (record { one = s.one; tracked = s.tracked; holds = s.holds; begins = s.begins }) s.number busy told empty

-- where a step takes over no list, its seat goes on by itself
no_gift : (seat : ℕ → Local) (phase : Phase) → may_adopt phase ≡ false → gift_at seat phase ≡ []
no_gift seat (Works (Keeping (TakeList place))) h = absurd (cc)
no_gift seat phase h = refl

keeps_own : (w : World) (i : ℕ) (l : Local) → w.seat i ≡ l → may_adopt l.phase ≡ false → offered w i ≡ keeping l
keeps_own w i l e none =
    ap (λ (gift : List Lifetime). record (w.seat i) { desk = record (w.seat i).desk { gift = gift } }) (no_gift w.seat (w.seat i).phase (ap (λ (k : Local). may_adopt k.phase) e ∙ none)) ∙ ap keeping e

pub stands_on : (layout : Layout) (handle later : Handle) (found : ℕ) → Told layout handle found later.0 → call_in later.1 ≡ None → may_adopt (standing handle).phase ≡ false → standing later ≡ after (keeping (standing handle)) found
stands_on layout handle later found told empty none =
    ap (entered (own later.0).local) empty ∙ ap (λ (v : View). (own v).local) told.to
    ∙ ap (λ (l : Local). after l found) (keeps_own (world_of layout told.items) (seat_of (own handle.0)) (standing handle) told.stands none)
