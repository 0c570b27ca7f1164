use Rattle.std.proofs.Common.{All, List, [], ap, rules, sym, ◌++◌, ◌∙◌, ◌∷◌, ◌≡◌}
use Rattle.std.proofs.lemmas.List.Elements.{All-pop}
use Rattle.std.specs.Prelude.{Some, map, reverse}
use Rattle.wfe_drive_rule.specs.Views.{Handle, Track}
use Rattle.wfe_table.specs.Closing.{track_of}
use Rattle.wfe_table.specs.Public.{IsOf, TableNow}
use Rattle.wfe_table.proofs.Gathered.{all_reverse, first_taken, next_taken, written_back}
use Rattle.wfe_table.proofs.close_left.left_handle.Goals as goal

pub loop-seat-init : goal.loop-seat-init
loop-seat-init c =
    let shared : TableNow = record { table = c.args.ledger.now.table_id; layout = c.args.ledger.now.key } in
    let of : All (λ seat. IsOf seat shared) (reverse c.args.left.items) = all_reverse (λ seat. IsOf seat shared) c.args.left.items c.requires.of in
    let back = written_back c.args.left.items c.reverse.new.self c.args.left.len (c.reverse.ensures.after ∙ ap reverse c.as_mut_slice.ensures.value) (search rules) in
    let popped : reverse c.args.left.items ≡ c.pop.new.self.items ++ c.in-Some.first ∷ [] = sym back ∙ c.in-Some.ensures.items in
    let p = All-pop (λ seat. IsOf seat shared) (reverse c.args.left.items) c.pop.new.self.items (Some c.in-Some.first) popped of in
    record {
      ids = c.bare-handle.ensures.ids ∙ p.1.table;
      gathered = c.bare-handle.ensures.gathered;
      of = p.0;
      tracks = ap (λ (tracks : List Track). tracks ++ map track_of (reverse c.pop.new.self.items)) c.bare-handle.ensures.track ∙ first_taken c.args.left.items c.pop.new.self.items c.in-Some.first popped;
    }

pub take_in-requires-clause-ids : goal.take_in-requires-clause-ids
take_in-requires-clause-ids c =
    let shared : TableNow = record { table = c.args.ledger.now.table_id; layout = c.args.ledger.now.key } in
    let p = All-pop (λ seat. IsOf seat shared) c.loop-seat.left.items c.pop-in-loop-seat.new.self.items (Some c.in-Some-pop.seat) (search rules) c.loop-seat.invariant.of in
    (c.loop-seat.invariant.ids, c.bare-other.ensures.ids ∙ p.1.table)

pub loop-seat-preserved : goal.loop-seat-preserved
loop-seat-preserved c =
    let i = c.loop-seat.invariant in
    let shared : TableNow = record { table = c.args.ledger.now.table_id; layout = c.args.ledger.now.key } in
    let popped : c.loop-seat.left.items ≡ c.pop-in-loop-seat.new.self.items ++ c.in-Some-pop.seat ∷ [] = search rules in
    let p = All-pop (λ seat. IsOf seat shared) c.loop-seat.left.items c.pop-in-loop-seat.new.self.items (Some c.in-Some-pop.seat) popped i.of in
    let joined = ap (λ (me : Handle). me.0.tracks) c.take_in.ensures.joined ∙ ap (λ (tracks : List Track). c.loop-seat.handle.me.0.tracks ++ tracks) c.bare-other.ensures.track in
    record {
      ids = c.take_in.ensures.ids.0 ∙ i.ids;
      gathered = c.take_in.ensures.gathered;
      of = p.0;
      tracks = ap (λ (tracks : List Track). tracks ++ map track_of (reverse c.pop-in-loop-seat.new.self.items)) joined ∙ next_taken c.loop-seat.handle.me.0.tracks (map track_of c.args.left.items) c.loop-seat.left.items c.pop-in-loop-seat.new.self.items c.in-Some-pop.seat i.tracks popped;
    }
