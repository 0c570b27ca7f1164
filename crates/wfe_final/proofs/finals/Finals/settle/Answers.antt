-- One slot more is settled.
use Rattle.std.proofs.Common.{List, [], ap, arith, get_or, length, subst, sym, take, ℕ, ◌++◌, ◌+◌, ◌<◌, ◌≡◌, ◌∷◌, ◌∙◌}
use Rattle.std.proofs.lemmas.List.{length-take, take_more}
use Rattle.std.proofs.lemmas.List.Elements.{All-get_or}
use Rattle.wfe_final.specs.Slots.{Settles, call_of, calls_at, firsts, id_at}
use Rattle.wfe_final.proofs.SlotsLemmas.{length_more, no_call, one_call, room_for, settles_more}
use Rattle.wfe_final.proofs.finals.Finals.settle.Goals as goal
use Rattle.wfe_final.proofs.finals.Finals.settle.Goals.{then-settle_slot, else-settle_slot}

pub settle_slot-requires-clause-room : goal.settle_slot-requires-clause-room
settle_slot-requires-clause-room g c =
    let done = take c.loop-slot.slot-index c.args.backs.now in
    let few : length done < length c.args.backs.now = omega (arith, length-take c.loop-slot.slot-index c.args.backs.now) in
    room_for c.args.self.now c.loop-slot.self done c.args.ledger.now c.loop-slot.ledger (get_or c.args.backs.now c.loop-slot.slot-index 0) (length c.args.backs.now) c.loop-slot.invariant.settled few c.requires.room

pub loop-slot-preserved : goal.loop-slot-preserved
loop-slot-preserved g c =
    let i = c.loop-slot.slot-index in
    let done = take i c.args.backs.now in
    let slot = get_or c.args.backs.now i 0 in
    let s = c.loop-slot.invariant.settled in
    let more : take (i + 1) c.args.backs.now ≡ done ++ slot ∷ [] = take_more c.args.backs.now i 0 c.loop-slot-test.true in
    let below : slot < length c.args.self.now = All-get_or (λ (slot : ℕ). slot < length c.args.self.now) c.args.backs.now i 0 c.loop-slot-test.true c.requires.slots in
    let e = c.settle_slot.ensures in
    let length_is : length (calls_at c.args.self.now (firsts (take (i + 1) c.args.backs.now))) ≡ length (calls_at c.args.self.now (firsts done)) + length (call_of (id_at c.loop-slot.self slot) slot) =
    ap (λ (slots : List ℕ). length (calls_at c.args.self.now (firsts slots))) more ∙ length_more c.args.self.now c.loop-slot.self done slot c.args.ledger.now c.loop-slot.ledger s in
    record {
      settled =
          subst (λ (slots : List ℕ). Settles c.args.self.now c.settle_slot.new.self slots c.args.ledger.now c.settle_slot.new.ledger) (sym more)
          (settles_more c.args.self.now c.loop-slot.self c.settle_slot.new.self done slot c.args.ledger.now c.loop-slot.ledger c.settle_slot.new.ledger s (omega (arith, s.same, below)) e.calls e.spare e.left);
      count =
          elim c.if-settle_slot.branch [
            | then-settle_slot w ↦
                let one : length (call_of (id_at c.loop-slot.self slot) slot) ≡ 1 = one_call (id_at c.loop-slot.self slot) slot (sym e.found ∙ w.if-settle_slot.true) in
                omega (arith, w.count-is, w.saturating_add-count.ensures, c.loop-slot.invariant.count, length_is, one)
            | else-settle_slot w ↦
                let none : length (call_of (id_at c.loop-slot.self slot) slot) ≡ 0 = no_call (id_at c.loop-slot.self slot) slot (sym e.found ∙ w.if-settle_slot.false) in
                omega (arith, w.count-is, c.loop-slot.invariant.count, length_is, none)
          ];
    }
