-- A reader that is taken off the end leaves the others, and its seat is put after those before it.
use Rattle.std.proofs.Common.{rules, subst, sym, [], ◌++◌, ◌∷◌}
use Rattle.std.proofs.lemmas.List.Elements.{All-pop, All-push, All-same}
use Rattle.wfe_table.specs.Public.{IsOf, SeatNow}
use Rattle.wfe_cells_uses.specs.declared.cache.Reader.{Reader}
use Rattle.wfe_cells_uses.proofs.cache.apart.Goals as goal

pub loop-reader-preserved : goal.loop-reader-preserved
loop-reader-preserved c =
    let cells = c.args._cells.now in
    let popped = All-pop (λ (r : Reader). IsOf r.user.seat cells) c.loop-reader.readers.items c.pop.new.self.items c.pop.result c.pop.ensures.items c.loop-reader.invariant.readers in
    let one : IsOf c.in-Some.reader.user.seat cells = rw c.in-Some.is at popped.1 in
    let seat = c.parts-seat.result.0 in
    let of : IsOf seat cells = subst (λ (s : SeatNow). IsOf s cells) (sym c.parts-seat.ensures.seat) one in
    record {
      seats = All-same (λ (s : SeatNow). IsOf s cells) c.push.new.self.items (c.loop-reader.seats.items ++ seat ∷ []) (search rules) (All-push (λ (s : SeatNow). IsOf s cells) c.loop-reader.seats.items seat c.loop-reader.invariant.seats of);
      readers = popped.0;
    }
