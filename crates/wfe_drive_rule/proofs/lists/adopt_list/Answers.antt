-- The exchange, and what comes with it.
use Rattle.std.proofs.Common.{ap, subst, sym, ◌∙◌, ◌∷◌}
use Rattle.std.specs.Prelude.{None, Option, Some, ◌==◌}
use prog.Atomic.{either}
use Rattle.atomic_table.specs.Table.{rest, turned}
use Rattle.wfe_core.specs.declared.op.Op.TheVariants.{Cas}
use Rattle.wfe_drive_rule.proofs.Acting.{held_of}
use Rattle.wfe_drive_rule.proofs.Adopting.{adopts_list}
use Rattle.wfe_drive_rule.proofs.Operations.{inside, spot_there}
use Rattle.wfe_drive_rule.proofs.Shown.{at_words}
use Rattle.wfe_drive_rule.specs.declared.kept.Kept.{Kept}
use Rattle.wfe_drive_rule.specs.Handles.{IsAdopting, IsSeated}
use Rattle.wfe_drive_rule.specs.Moves.{TakesOver, Told}
use Rattle.wfe_drive_rule.specs.Spots.{slot_at}
use Rattle.wfe_drive_rule.specs.Views.{Handle, call_in}
use Rattle.wfe_drive_rule.proofs.Seated.{first_slot, put_slot}
use Rattle.wfe_drive_rule.proofs.Taken.{kept_is, list_is, missed, missed_test, taken, takes_missed}
use Rattle.wfe_drive_rule.proofs.lists.adopt_list.Goals as goal

pub compare_exchange-found-requires : goal.compare_exchange-found-requires
compare_exchange-found-requires c = (
  c.requires.ids,
  spot_there _ _ _ (Cas c.args.word 1 2) _ c.requires.sized (held_of _ _ _ c.requires.seated) c.requires.asks c.requires.spot,
  at_words _ _ _ _ c.args.spot _ (λ n. either (n == 1) 2 n) (TakesOver c.args.handle.now.me) (inside _ _ (Cas c.args.word 1 2) (held_of _ _ _ c.requires.seated) c.requires.asks) c.requires.spot
      (adopts_list _ _ _ c.args.seat c.args.word c.args.place _ c.requires.seated c.requires.takes c.requires.asks),
)

pub exchange-requires : goal.exchange-requires
exchange-requires c = (
  c.compare_exchange-found.ensures.0 ∙ c.requires.ids,
  first_slot _ (slot_at c.args.seat) _ _ (takes_missed _ _ c.compare_exchange-found.result c.compare_exchange-found.ensures.2 (missed_test _ c.if-found-ne1.true) ∙ c.requires.seated.slots),
)

pub returns-then-found-ne1-clause-missed : goal.returns-then-found-ne1-clause-missed
returns-then-found-ne1-clause-missed c =
    let mid = c.compare_exchange-found.new.seat.me in
    let over = c.compare_exchange-found.ensures.2 in
    let slots = takes_missed _ _ c.compare_exchange-found.result over (missed_test _ c.if-found-ne1.true) ∙ c.requires.seated.slots in
    let me = c.exchange.ensures.3 ∙ ap (λ slots. let h : Handle = (mid.0, slots) in h) (put_slot mid.1 (slot_at c.args.seat) _ None _ slots) in
    let m = missed c.args.table.now.key c.args.seat c.args.place c.compare_exchange-found.result c.args.handle.now.me mid c.requires.seated c.requires.takes over in (
      c.if-found-ne1.true,
      subst (IsSeated c.args.table.now.key c.args.seat) (sym me) m.seated,
      ap (λ (h : Handle). call_in h.1) me,
      subst (λ (h : Handle). Told c.args.table.now.key c.args.handle.now.me c.compare_exchange-found.result h.0) (sym me) m.told,
    )

pub exchange-kept-requires : goal.exchange-kept-requires
exchange-kept-requires c =
    let t = taken c.args.table.now.key c.args.seat c.args.place c.compare_exchange-found.result c.args.handle.now.me c.compare_exchange-found.new.seat.me c.requires.seated c.requires.takes c.if-found-ne1.false c.compare_exchange-found.ensures.2 in (
      c.compare_exchange-found.ensures.0 ∙ c.requires.ids,
      first_slot _ (slot_at c.args.place) _ _ t.slots,
    )

pub exchange-requires-2 : goal.exchange-requires-2
exchange-requires-2 c =
    let mid = c.compare_exchange-found.new.seat.me in
    let t = taken c.args.table.now.key c.args.seat c.args.place c.compare_exchange-found.result c.args.handle.now.me mid c.requires.seated c.requires.takes c.if-found-ne1.false c.compare_exchange-found.ensures.2 in
    let kept_me = c.exchange-kept.ensures.3 ∙ ap (λ slots. let h : Handle = (mid.0, slots) in h) (put_slot mid.1 (slot_at c.args.place) _ None _ t.slots) in
    let turn_me = c.turn.ensures.2 ∙ ap (λ (h : Handle). let g : Handle = (h.0, turned h.1) in g) kept_me in (
      c.turn.ensures.0 ∙ c.exchange-kept.ensures.0 ∙ c.compare_exchange-found.ensures.0 ∙ c.requires.ids,
      first_slot _ (slot_at c.args.seat) _ _ (ap (λ (h : Handle). h.1) turn_me),
    )

pub returns-clause-taken : goal.returns-clause-taken
returns-clause-taken c =
    let mid = c.compare_exchange-found.new.seat.me in
    let t = taken c.args.table.now.key c.args.seat c.args.place c.compare_exchange-found.result c.args.handle.now.me mid c.requires.seated c.requires.takes c.if-found-ne1.false c.compare_exchange-found.ensures.2 in
    let kept_me = c.exchange-kept.ensures.3 ∙ ap (λ slots. let h : Handle = (mid.0, slots) in h) (put_slot mid.1 (slot_at c.args.place) _ None _ t.slots) in
    let turn_me = c.turn.ensures.2 ∙ ap (λ (h : Handle). let g : Handle = (h.0, turned h.1) in g) kept_me in
    let second_me = c.exchange-2.ensures.3 ∙ ap (λ (h : Handle). let g : Handle = (h.0, (slot_at c.args.seat, None) ∷ rest h.1) in g) turn_me in
    let last_me = c.turn-2.ensures.2 ∙ ap (λ (h : Handle). let g : Handle = (h.0, turned h.1) in g) second_me in
    let view = ap (λ (h : Handle). h.0) last_me in
    let kept = kept_is mid.1 _ _ (slot_at c.args.place) (slot_at c.args.place) _ _ c.exchange-kept.ensures.2 t.slots in
    let told = t.told in (
      subst (IsAdopting c.args.table.now.key c.args.seat c.args.place) (sym last_me) t.adopting,
      record { items = told.items; more = told.more; begins = told.begins; stands = told.stands; found_is = told.found_is; to = view ∙ told.to },
      list_is _ _ c.in-Some-Left.field-0-1 t.first (sym (c.in-Some-Left.is ∙ ap (λ (kept : Kept). let slot : Option Kept = Some kept in slot) c.in-Some-Left.field-0-is) ∙ kept),
    )
