-- The table's five kinds of step, each as the operation that a seat asks for.
use Rattle.std.proofs.Common.{Bool, List, ap, arith, false, refl, subst, sym, true, ℕ, ◌++◌, ◌<◌, ◌∙◌, ◌≡◌}
use Rattle.std.specs.Prelude.{if◌then◌else◌, slice_index, ◌==◌}
use mathlib.Core.Path.{fun_ext}
use prog.Atomic.{either}
use Rattle.atomic_table.specs.Seated.{TableId}
use Rattle.atomic_table.specs.Table.{Allows, carried_after}
use Rattle.wfe_core.specs.words.Place.{has, words}
use Rattle.wfe_core.specs.words.declared.layout.Layout.{Layout}
use Rattle.wfe_core.specs.Locals.{Local, asks, busy_in, move}
use Rattle.wfe_core.specs.Memory.{numbered, place_in}
use Rattle.wfe_core.specs.World.{World}
use Rattle.wfe_core.specs.declared.op.Op.{Op}
use Rattle.wfe_core.specs.declared.op.Op.TheVariants.{Cas, Store}
use Rattle.wfe_core.proofs.words.Numbers.{number_below}
use Rattle.wfe_drive_cells.specs.Bridge.{AsksWithin}
use Rattle.wfe_drive_cells.specs.Operations.{answer_of, changed, word_in}
use Rattle.wfe_drive_cells.proofs.Bridge.{word_in-numbered}
use Rattle.law_reuse.specs.history.History.{Item, world_of}
use Rattle.wfe_drive_rule.specs.Handles.{IsHeld, IsSeated, IsSized, IsTracked, MovesNone}
use Rattle.wfe_drive_rule.specs.Moves.{Stepped, Told}
use Rattle.wfe_drive_rule.specs.Rule.{ByNumber}
use Rattle.wfe_drive_cells.specs.Spots.{spot}
use Rattle.wfe_drive_rule.specs.Views.{Handle, Track, call_in, entry, own, seat_of, standing}
use Rattle.wfe_drive_rule.proofs.Acting.{allowed}
use Rattle.wfe_drive_rule.proofs.Allowed.{Entered, asks_within, entered_same, enters}
use Rattle.wfe_drive_rule.proofs.Shown.{spot_below}
use Rattle.law_reuse.proofs.history.Snoc.{layout_is}

-- the step that an operation asks for
pub may : (layout : Layout) (slots id slot : ℕ) (handle : Handle) (op : Op) → IsSeated layout slot handle → busy_in (standing handle).phase ≡ true → MovesNone (standing handle) → op ≡ asks (standing handle)
    → Allows (ByNumber layout) slots id handle (word_in op) (changed op) (Stepped handle)
may layout slots id slot handle op seated busy moves e = subst (λ (o : Op). Allows (ByNumber layout) slots id handle (word_in o) (changed o) (Stepped handle)) (sym e) (allowed layout slots id slot handle seated busy moves)

either_if : (b : Bool) (x y : ℕ) → (if b then x else y) ≡ either b x y
either_if true x y = refl
either_if false x y = refl

pub may_exchange : (layout : Layout) (slots id slot : ℕ) (handle : Handle) (word old new : ℕ) → IsSeated layout slot handle → busy_in (standing handle).phase ≡ true → MovesNone (standing handle) → Cas word old new ≡ asks (standing handle)
    → Allows (ByNumber layout) slots id handle word (λ n. either (n == old) new n) (Stepped handle)
may_exchange layout slots id slot handle word old new seated busy moves e =
    subst (λ (f : ℕ → ℕ). Allows (ByNumber layout) slots id handle word f (Stepped handle)) (fun_ext (λ n. either_if (n == old) new n)) (may layout slots id slot handle (Cas word old new) seated busy moves e)

-- a store tells nothing of the number that it found
same_told : (handle later : Handle) (op : Op) (n m : ℕ) → op ≡ asks (standing handle) → answer_of op n ≡ answer_of op m → Stepped handle n later → Stepped handle m later
same_told handle later op n m e same s =
    let a : answer_of (asks (standing handle)) n ≡ answer_of (asks (standing handle)) m = subst (λ (o : Op). answer_of o n ≡ answer_of o m) e same in
    record { told = subst (λ (k : ℕ). Told (own handle.0).local.post.layout handle k later.0) a s.told; slots = s.slots }

pub may_store : (layout : Layout) (slots id slot : ℕ) (handle : Handle) (word value : ℕ) → IsSeated layout slot handle → busy_in (standing handle).phase ≡ true → MovesNone (standing handle) → Store word value ≡ asks (standing handle)
    → Allows (ByNumber layout) slots id handle word (λ _. value) (λ _. Stepped handle value)
may_store layout slots id slot handle word value seated busy moves e s r ls g bound =
    let a = may layout slots id slot handle (Store word value) seated busy moves e s r ls g bound in
    (a.0, a.1, a.2, a.3, same_told handle (a.0, carried_after handle.1 a.1) (Store word value) (slice_index s.words word) value e refl a.4)

-- the word is one of the table's, by the seat's own past
pub inside : (layout : Layout) (handle : Handle) (op : Op) → IsHeld layout handle → op ≡ asks (standing handle) → word_in op < words layout
inside layout handle op seated e =
    let x : Track = own handle.0 in
    let l : Local = standing handle in
    let t : IsTracked layout x = seated.tracked in
    let begins : List Item = entry (seat_of x) (call_in handle.1) in
    let n : Entered layout x.past begins (seat_of x) l = enters layout x.past (seat_of x) x.local (call_in handle.1) t.valid t.seat seated.begins t.stood in
    let table : l.post.layout ≡ layout = (entered_same x.local (call_in handle.1)).layout ∙ t.layout_is in
    let w : World = world_of layout (x.past ++ begins) in
    let a : AsksWithin w (seat_of x) = asks_within layout (x.past ++ begins) (seat_of x) l t.valid t.seat table n.own_is in
    let there : has layout (place_in (move l)) ≡ true = subst (λ (d : Layout). has d (place_in (move l)) ≡ true) (layout_is layout (x.past ++ begins)) (subst (λ (k : Local). has w.layout (place_in (move k)) ≡ true) n.own_is a.there) in
    let is : word_in op ≡ word_in (numbered layout (move l)) = ap word_in e ∙ ap (λ (d : Layout). word_in (numbered d (move l))) table in
    omega (arith, is, word_in-numbered layout (move l), number_below layout (place_in (move l)) there)

-- and its spot is one of the table's block
pub spot_there : (layout : Layout) (table : TableId) (handle : Handle) (op : Op) (n : ℕ) → IsSized table layout → IsHeld layout handle → op ≡ asks (standing handle) → n ≡ spot layout (word_in op) → n < table.words
spot_there layout table handle op n size held e at = omega (arith, size.words_are, at, spot_below layout (word_in op) (inside layout handle op held e))
