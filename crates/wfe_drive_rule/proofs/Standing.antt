-- A handle's seat stands where a history leaves it.
use Rattle.std.proofs.Common.{Bool, List, ap, false, refl, subst, sym, true, ℕ, ◌++◌, ◌<◌, ◌∙◌, ◌≡◌, ◌≢◌}
use Rattle.wfe_core.specs.words.Place.{is_valid}
use Rattle.wfe_core.specs.words.declared.layout.Layout.{Layout}
use Rattle.wfe_core.specs.defs.declared.call.Call.{Call}
use Rattle.wfe_core.specs.defs.declared.call.Call.TheVariants as names
use Rattle.wfe_core.specs.Calls.{Phase}
use Rattle.wfe_core.specs.Locals.{Local, busy_in}
use Rattle.wfe_core.specs.World.{finds}
use Rattle.law_reuse.specs.history.History.{Item, made_of, world_of}
use Rattle.law_reuse.specs.inv.Places.{is_leaving}
use Rattle.law_reuse.proofs.AnswersTold.Answering.{Keeps, answers_kept}
use Rattle.law_reuse.proofs.AnswersTold.Owed.{Serves}
use Rattle.wfe_drive_rule.specs.Handles.{IsHeld, IsSeated, IsTracked, MovesNone, adopts}
use Rattle.wfe_drive_rule.specs.Standing.{ComesTo, Finds, HandlesStand, StandsOn, StepsTell}
use Rattle.wfe_drive_rule.specs.Moves.{Told}
use Rattle.wfe_drive_rule.specs.Views.{Handle, View, call_in, entry, own, seat_of, standing}
use Rattle.wfe_drive_rule.proofs.Allowed.{Entered, entered_same, enters}
use Rattle.wfe_drive_rule.proofs.Here.{leaving_call}

-- the seat stands under its own number and layout
comes_by : (layout : Layout) (items : List Item) (seat : ℕ) (l : Local) → is_valid layout ≡ true → seat < layout.config.seats → l.post.layout ≡ layout → l.post.seat ≡ seat → (world_of layout items).seat seat ≡ l → ComesTo items l
comes_by layout items seat l valid low table number e = record {
  valid = subst (λ (d : Layout). is_valid d ≡ true) (sym table) valid;
  seat = subst (λ (k : ℕ). k < l.post.layout.config.seats) (sym number) (subst (λ (d : Layout). seat < d.config.seats) (sym table) low);
  stands = ap (λ (d : Layout). (world_of d items).seat l.post.seat) table ∙ ap (world_of layout items).seat number ∙ e;
}

comes_with : (layout : Layout) (handle : Handle) (items : List Item) → IsHeld layout handle → (world_of layout items).seat (seat_of (own handle.0)) ≡ standing handle → ComesTo items (standing handle)
comes_with layout handle items seated e =
    let t : IsTracked layout (own handle.0) = seated.tracked in
    let same = entered_same (own handle.0).local (call_in handle.1) in
    comes_by layout items (seat_of (own handle.0)) (standing handle) t.valid t.seat (same.layout ∙ t.layout_is) same.seat e

pub held_stand : (layout : Layout) (handle : Handle) → IsHeld layout handle → StandsOn handle
held_stand layout handle seated =
    let x = own handle.0 in
    let t : IsTracked layout x = seated.tracked in
    let more : List Item = entry (seat_of x) (call_in handle.1) in
    let n : Entered layout x.past more (seat_of x) (standing handle) = enters layout x.past (seat_of x) x.local (call_in handle.1) t.valid t.seat seated.begins t.stood in
    record { more = more; comes = comes_with layout handle (x.past ++ more) seated n.own_is }

held_seat : (layout : Layout) (slot : ℕ) (handle : Handle) → IsSeated layout slot handle → IsHeld layout handle
held_seat layout slot handle s = record { one = s.one; tracked = s.tracked; holds = s.holds; begins = s.begins }

pub handles_stand : HandlesStand
handles_stand layout slot handle seated = held_stand layout handle (held_seat layout slot handle seated)

pub held_tell : (layout : Layout) (handle : Handle) (found : ℕ) (view : View) (told : Told layout handle found view) → IsHeld layout handle → Finds told.items (standing handle) found
held_tell layout handle found view told seated =
    let t : IsTracked layout (own handle.0) = seated.tracked in
    let same = entered_same (own handle.0).local (call_in handle.1) in
    record {
      comes = comes_with layout handle told.items seated told.stands;
      found_is = told.found_is ∙ ap (finds (world_of layout told.items)) (sym same.seat) ∙ ap (λ (d : Layout). finds (world_of d told.items) (standing handle).post.seat) (sym (same.layout ∙ t.layout_is));
    }

pub steps_tell : StepsTell
steps_tell layout slot handle found view told seated = held_tell layout handle found view told (held_seat layout slot handle seated)

-- a call that neither leaves nor takes over what another has left comes to no step that moves a list
not_leaving : (call : Call) (phase : Phase) → Serves call phase → call ≢ names.Leave → (leaving : Bool) → is_leaving phase ≡ leaving → leaving ≡ false
not_leaving call phase s ne false q = refl
not_leaving call phase s ne true q = absurd (ne (leaving_call call phase q s))

pub staying_moves : (layout : Layout) (slot : ℕ) (handle : Handle) → IsSeated layout slot handle → busy_in (standing handle).phase ≡ true → (standing handle).call ≢ names.Leave → adopts (standing handle).call ≡ false → MovesNone (standing handle)
staying_moves layout slot handle seated busy ne alone =
    let l : Local = standing handle in
    let t = handles_stand layout slot handle seated in
    let items : List Item = (own handle.0).past ++ t.more in
    let kept : Keeps l.post.layout.config.buckets (made_of l.post.layout items) = answers_kept l.post.layout items t.comes.valid in
    let right = kept.seats l.post.seat in
    let serves : Serves l.call l.phase = subst (λ (k : Local). Serves k.call k.phase) t.comes.stands (right.serves (ap (λ (k : Local). busy_in k.phase) t.comes.stands ∙ busy)) in
    record { stays = not_leaving l.call l.phase serves ne (is_leaving l.phase) refl; alone = alone }
