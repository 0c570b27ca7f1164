-- At the start the dummy alone is in the queue, and a call begins with nothing read of it.
use Rattle.std.proofs.Common.{ℕ, ◌≡◌, arith, refl, sym, subst}
use Rattle.std.proofs.lemmas.Bool.Decides.{nat_tests}
use Rattle.inv_ends.specs.model.words.Place.Place.{Row}
use Rattle.inv_ends.specs.model.words.declared.layout.Layout.{Layout}
use Rattle.inv_ends.specs.model.Calls.{Idle}
use Rattle.inv_ends.specs.model.Locals.{Local, begun_post}
use Rattle.inv_ends.specs.model.World.{start, begin}
use Rattle.inv_ends.proofs.shapes.Frame.{begin_stays, begin_begins}
use Rattle.inv_ends.proofs.shapes.Kept.{one_moves}
use Rattle.inv_all.specs.Contents.Reads.{Reads}
use Rattle.inv_all.specs.Contents.Items.{ItemsStart, ItemsBegin}
use Rattle.inv_all.proofs.Contents.QueueReads.Turns.{bare_reads, first_reads}

first_number : (layout : Layout) (s : ℕ) → (start layout).mem (Row s 1) ≡ 0
first_number layout s = grind (arith, nat_tests)

pub items_start : ItemsStart
items_start layout valid = record {
  rows = record {
    numbers = λ s y. first_number layout s;
    values = λ s y p. absurd (omega arith);
    within = λ s y. omega arith;
    last = λ s y z. refl;
    first = λ h e. refl;
    room = omega arith;
  };
  seats = λ k. bare_reads Idle _ _ refl;
}

pub items_begin : ItemsBegin
items_begin w i call v l h =
    let S : ℕ → Local → Type 0 = λ k x. Reads x.phase l w.book.queued in
    record {
      rows = h.rows;
      seats = λ k. one_moves S w.seat (begin w i call).seat i h.seats (λ n e. begin_stays w i n call e) (subst (S i) (sym (begin_begins w i call)) (first_reads call (begun_post (w.seat i).post) l w.book.queued)) k;
    }
