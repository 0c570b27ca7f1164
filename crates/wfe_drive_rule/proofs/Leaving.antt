-- A seat leaves: its list is in its slot, which goes home.
use Rattle.std.proofs.Common.{Bool, [], ap, refl, subst, sym, true, ℕ, ◌++◌, ◌∙◌, ◌∷◌, ◌≡◌}
use Rattle.atomic_table.specs.Table.{Allows}
use Rattle.wfe_core.specs.words.declared.layout.Layout.{Layout}
use Rattle.wfe_core.specs.declared.op.Op.{Op}
use Rattle.wfe_core.specs.declared.op.Op.TheVariants.{Store}
use Rattle.wfe_core.specs.Calls.{Keeping, MarkLeft, Works}
use Rattle.wfe_core.specs.Held.{ListHeld}
use Rattle.wfe_core.specs.Locals.{Local, after, asks, busy_in}
use Rattle.wfe_core.specs.World.{offered}
use Rattle.wfe_drive_cells.specs.Operations.{answer_of, changed, word_in}
use Rattle.law_reuse.specs.history.History.{Steps, world_of}
use Rattle.wfe_drive_rule.specs.Handles.{IsBare, IsHeld, IsIdle, IsSeated, IsTracked}
use Rattle.wfe_drive_rule.specs.Moves.{HandsOver, Told, slotted}
use Rattle.wfe_drive_rule.specs.Rule.{ByNumber}
use Rattle.wfe_drive_rule.specs.Spots.{slot_at}
use Rattle.wfe_drive_rule.specs.Views.{Handle, Track, View, call_in, entered, leave_if, own, seat_of, slot_left, standing}
use Rattle.wfe_drive_rule.proofs.Acting.{hands_list}
use Rattle.wfe_drive_rule.proofs.Places.{leaves_after}
use Rattle.wfe_drive_rule.proofs.Seated.{tracked_on}

-- the handle with the list in its slot
abbrev pub listed : Handle → (slot : ℕ) → ListHeld → (first : Bool) → Handle
listed handle slot list first = (handle.0, (slot_at slot, slot_left list first) ∷ [])

pub same_standing : (handle : Handle) (slot : ℕ) (list : ListHeld) (first : Bool) → call_in handle.1 ≡ leave_if first → standing (listed handle slot list first) ≡ standing handle
same_standing handle slot list first e = ap (entered (own handle.0).local) (sym e)

pub hands : (layout : Layout) (slots id slot word : ℕ) (handle : Handle) (list : ListHeld) (first : Bool) → slots ≡ slot_at layout.config.seats → IsSeated layout slot handle → (standing handle).phase ≡ Works (Keeping MarkLeft) → Store word 1 ≡ asks (standing handle)
    → call_in handle.1 ≡ leave_if first → list ≡ record { lives = (standing handle).desk.list; slots = layout.config.slots }
    → Allows (ByNumber layout) slots id (listed handle slot list first) word (λ _. 1) (λ _. HandsOver (listed handle slot list first) 0)
hands layout slots id slot word handle list first all seated leaves op began lives =
    let h : Handle = listed handle slot list first in
    let same : standing h ≡ standing handle = same_standing handle slot list first began in
    let held : IsHeld layout h = record { one = seated.one; tracked = seated.tracked; holds = seated.holds; begins = λ c q. seated.begins c (began ∙ q) } in
    subst (λ (o : Op). Allows (ByNumber layout) slots id h (word_in o) (changed o) (λ found. HandsOver h (answer_of o found))) (ap asks same ∙ sym op)
    (hands_list layout slots id slot h list first all held (ap (λ (l : Local). l.phase) same ∙ leaves) seated.number refl
    (lives ∙ ap (λ (l : Local). let held_list : ListHeld = record { lives = l.desk.list; slots = layout.config.slots } in held_list) (sym same)))

-- the handle after that
pub record Gone (layout : Layout) (handle later : Handle) : Type 0 where
  pub bare : IsBare layout later
  pub idle : IsIdle (own later.0)
  pub told : Told layout handle 0 (slotted later.0)

pub gone : (layout : Layout) (slot : ℕ) (handle later : Handle) (list : ListHeld) (first : Bool) → IsSeated layout slot handle → (standing handle).phase ≡ Works (Keeping MarkLeft) → call_in handle.1 ≡ leave_if first → HandsOver (listed handle slot list first) 0 later
    → Gone layout handle later
gone layout slot handle later list first seated leaves began over =
    let h : Handle = listed handle slot list first in
    let x : Track = own handle.0 in
    let i : ℕ = seat_of x in
    let same : standing h ≡ standing handle = same_standing handle slot list first began in
    let t : Told layout h 0 (slotted later.0) = subst (λ (d : Layout). Told d h 0 (slotted later.0)) seated.tracked.layout_is over.told in
    let told : Told layout handle 0 (slotted later.0) = record { items = t.items; more = t.more; begins = t.begins; stands = t.stands ∙ same; found_is = t.found_is; to = t.to } in
    let o : Local = offered (world_of layout t.items) i in
    let y : Track = record { local = after o 0; past = t.items ++ Steps i ∷ [] } in
    let tracks : later.0.tracks ≡ y ∷ [] = ap (λ (v : View). v.tracks) told.to in
    let now : own later.0 ≡ y = ap (λ (v : View). own v) told.to in
    let busy : busy_in (standing handle).phase ≡ true = ap busy_in leaves in
    let tracked : IsTracked layout y = tracked_on layout handle 0 told.items seated.tracked busy told.stands told.found_is in
    let idle : IsIdle y = ap busy_in (leaves_after o 0 (ap (λ (l : Local). l.phase) told.stands ∙ leaves)).0 in
    record {
      bare = record { one = tracks ∙ ap (λ (z : Track). z ∷ []) (sym now); tracked = subst (IsTracked layout) (sym now) tracked; holds = over.gone; slots = over.slots };
      idle = subst IsIdle (sym now) idle;
      told = told;
    }
