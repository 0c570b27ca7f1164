-- What a step of a handle's seat gives the words of its call.
use Rattle.std.proofs.Common.{List, [], ap, arith, false, refl, subst, sym, true, ℕ, ◌++◌, ◌+◌, ◌<◌, ◌∙◌, ◌∷◌, ◌≡◌}
use Rattle.std.proofs.lemmas.List.{append_assoc}
use Rattle.std.proofs.lemmas.Bool.{true≢false}
use Rattle.std.specs.Prelude.{None, ◌-◌, ◌^◌}
use Rattle.wfe_core.specs.words.declared.layout.Layout.{Layout}
use Rattle.wfe_core.specs.defs.declared.call.Call.{Call}
use Rattle.wfe_core.specs.defs.declared.call.Call.TheVariants as names
use Rattle.wfe_core.specs.Locals.{Local, after, asks, busy_in, may_begin, stays}
use Rattle.wfe_core.specs.World.{offered}
use Rattle.wfe_drive_rule.specs.history.History.{Item, Steps, world_of}
use Rattle.wfe_drive_call.specs.drive_words.Comes.{Comes, Given, lent}
use Rattle.wfe_drive_call.proofs.drive_words.Histories.{few_steps, settles}
use Rattle.wfe_drive_rule.specs.Handles.{IsHeld, IsSeated, MovesNone, adopts}
use Rattle.wfe_drive_rule.specs.Moves.{Told}
use Rattle.wfe_drive_rule.specs.Views.{Handle, Track, call_in, entered, own, seat_of, standing}
use Rattle.wfe_drive_rule.specs.drive_cells.Operations.{word_in}
use Rattle.wfe_drive_rule.specs.drive_cells.Spots.{located, spot}
use Rattle.wfe_drive_rule.specs.drive_cells.declared.located.Located.{Located}
use Rattle.wfe_drive_rule.proofs.Allowed.{entered_same}
use Rattle.wfe_drive_rule.proofs.Standing.{held_stand, held_tell, staying_moves}
use Rattle.wfe_drive_rule.proofs.Acting.{held_of}

-- a history comes to the state at which a handle's seat stands, with the call of its slot begun
pub comes_held : (layout : Layout) (handle : Handle) → IsHeld layout handle → Comes (standing handle)
comes_held layout handle s =
    let t = held_stand layout handle s in
    record { items = (own handle.0).past ++ t.more; valid = t.comes.valid; below = t.comes.seat; stands = t.comes.stands }

pub comes_standing : (layout : Layout) (slot : ℕ) (handle : Handle) → IsSeated layout slot handle → Comes (standing handle)
comes_standing layout slot handle s = comes_held layout handle (held_of layout slot handle s)

-- a call that may begin where the seat stands may begin in the table's setting
pub may_standing : (layout : Layout) (slot : ℕ) (handle : Handle) (l : Local) (call : Call) → IsSeated layout slot handle → standing handle ≡ l → may_begin l.post.layout.config call ≡ true → may_begin layout.config call ≡ true
may_standing layout slot handle l call s e may =
    let table : l.post.layout ≡ layout = ap (λ (k : Local). k.post.layout) (sym e) ∙ (entered_same (own handle.0).local (call_in handle.1)).layout ∙ s.tracked.layout_is in
    subst (λ (d : Layout). may_begin d.config call ≡ true) table may

pub record StepMade (me later : Handle) (found : ℕ) : Type 0 where
  pub given : Given (standing me) found
  pub next : standing later ≡ after (lent given) found
  pub more : List Item
  pub grows : (own later.0).past ≡ (own me.0).past ++ more
  pub falls : 2 ^ 62 - (standing later).post.steps < 2 ^ 62 - (standing me).post.steps

falls_by : (old new : ℕ) → old < 2 ^ 62 → new ≡ old + 1 → 2 ^ 62 - new < 2 ^ 62 - old
falls_by old new few one = omega arith

-- with the list that was lent to the step, which the history that it tells has for it
pub step_lent : (layout : Layout) (found : ℕ) (me later : Handle) → IsHeld layout me → busy_in (standing me).phase ≡ true → (told : Told layout me found later.0) → call_in later.1 ≡ None → (s : StepMade me later found) × (lent s.given ≡ offered (world_of layout told.items) (seat_of (own me.0)))
step_lent layout found me later s busy told empty =
    let o : Track = own me.0 in
    let l : Local = standing me in
    let c : Comes l = comes_held layout me s in
    let t = held_tell layout me found later.0 told s in
    let c2 : Comes l = record { items = told.items; valid = t.comes.valid; below = t.comes.seat; stands = t.comes.stands } in
    let g : Given l found = record { comes = c2; found = t.found_is } in
    let same = entered_same o.local (call_in me.1) in
    let table : l.post.layout ≡ layout = same.layout ∙ s.tracked.layout_is in
    let y : Track = record { local = after (offered (world_of layout told.items) (seat_of o)) found; past = told.items ++ Steps (seat_of o) ∷ [] } in
    let now : own later.0 ≡ y = ap own told.to in
    let next : standing later ≡ after (lent g) found =
    ap (entered (own later.0).local) empty ∙ ap (λ (t : Track). t.local) now
    ∙ ap (λ (d : Layout). after (offered (world_of d told.items) (seat_of o)) found) (sym table)
    ∙ ap (λ (i : ℕ). after (offered (world_of l.post.layout told.items) i) found) (sym same.seat) in
    let one : (standing later).post.steps ≡ l.post.steps + 1 = ap (λ (k : Local). k.post.steps) next ∙ (settles l found g busy).counts in
    let made : StepMade me later found = record {
      given = g;
      next = next;
      more = told.more ++ Steps (seat_of o) ∷ [];
      grows = ap (λ (t : Track). t.past) now ∙ ap (λ (p : List Item). p ++ Steps (seat_of o) ∷ []) told.begins ∙ append_assoc o.past told.more (Steps (seat_of o) ∷ []);
      falls = falls_by l.post.steps (standing later).post.steps (few_steps l c busy) one;
    } in
    (made, ap (λ (d : Layout). offered (world_of d told.items) l.post.seat) table ∙ ap (λ (i : ℕ). offered (world_of layout told.items) i) same.seat)

pub step_held : (layout : Layout) (found : ℕ) (me later : Handle) → IsHeld layout me → busy_in (standing me).phase ≡ true → Told layout me found later.0 → call_in later.1 ≡ None → StepMade me later found
step_held layout found me later s busy told empty = (step_lent layout found me later s busy told empty).0

pub step_made : (layout : Layout) (slot found : ℕ) (me later : Handle) → IsSeated layout slot me → busy_in (standing me).phase ≡ true → Told layout me found later.0 → call_in later.1 ≡ None → StepMade me later found
step_made layout slot found me later s busy told empty = step_held layout found me later (held_of layout slot me s) busy told empty

-- a call of a seat that stays moves no list
stays_adopts : (call : Call) → stays call ≡ true → adopts call ≡ false
stays_adopts (names.Adopt place) s = absurd (cc)
stays_adopts call s = refl

pub moves_none : (layout : Layout) (slot : ℕ) (handle : Handle) (l : Local) → IsSeated layout slot handle → standing handle ≡ l → busy_in l.phase ≡ true → stays l.call ≡ true → MovesNone (standing handle)
moves_none layout slot handle l s e busy stay =
    let staying : stays (standing handle).call ≡ true = ap (λ (k : Local). stays k.call) e ∙ stay in
    staying_moves layout slot handle s (ap (λ (k : Local). busy_in k.phase) e ∙ busy) (λ c. absurd (true≢false (sym staying ∙ ap stays c))) (stays_adopts (standing handle).call staying)

-- the spot that comes with an operation is that of its word in the table
pub spot_standing : (layout : Layout) (slot : ℕ) (handle : Handle) (l : Local) (op : Located) → IsSeated layout slot handle → standing handle ≡ l → op ≡ located l.post.layout (asks l) → op.spot ≡ spot layout (word_in op.op)
spot_standing layout slot handle l op s e o =
    let table : l.post.layout ≡ layout = ap (λ (k : Local). k.post.layout) (sym e) ∙ (entered_same (own handle.0).local (call_in handle.1)).layout ∙ s.tracked.layout_is in
    ap (λ (at : Located). at.spot) o ∙ ap (λ (d : Layout). spot d (word_in (asks l))) table ∙ ap (λ (at : Located). spot layout (word_in at.op)) (sym o)
