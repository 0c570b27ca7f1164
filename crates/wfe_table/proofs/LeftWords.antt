-- The words of a table that ends, one after another.
use Rattle.std.proofs.Common.{List, [], ap, arith, length, subst, suc, sym, take, zero, ℕ, ◌++◌, ◌+◌, ◌<◌, ◌≡◌, ◌≤◌, ◌∙◌, ◌∷◌}
use Rattle.std.proofs.lemmas.List.{take_all}
use mathlib.Core.Option.{some}
use lib.ListN.{get_elem?}
use Rattle.wfe_core.specs.words.declared.layout.Layout.{Layout}
use Rattle.wfe_table_end.specs.ClosedTable.{IsClosed, Reaches}
use Rattle.wfe_table_end.specs.Contents.{IsRead}
use Rattle.wfe_table_end.specs.Room.{Words}
use Rattle.wfe_table_end.specs.declared.closed.Closed.{Closed}
use Rattle.wfe_drive_rule.specs.Ended.{Ended}
use Rattle.wfe_drive_rule.specs.Views.{Track}
use Rattle.wfe_drive_rule.specs.history.History.{Item, record_of}
use Rattle.wfe_drive_rule.specs.history.Record.{Past}
use Rattle.laws.specs.StateAt.{clock_of}
use Rattle.law_bounds.specs.all.RunLaw.{RunLaw}
use Rattle.law_bounds.specs.all.RunOrder.{RunOrder}
use Rattle.law_bounds.specs.all.Runs.{at_close, logs_of}
use Rattle.law_bounds.proofs.all.RunOrder.{runs_have_order}
use Rattle.law_bounds.proofs.all.Runs.Lawful.{runs_are_lawful}
use Rattle.law_bounds.specs.Waits.{ClosesFew}
use Rattle.law_bounds.proofs.Waits.Closes.{tables_close_few}
use Rattle.wfe_table.specs.Closing.{IsLeft, closing_of}

one_word : (words : List ℕ) (i word : ℕ) → get_elem? words i ≡ some word → take (suc i) words ≡ take i words ++ word ∷ []
one_word [] i word e = absurd (cc)
one_word (x ∷ xs) zero word e = let same : x ≡ word = cc in ap (λ (y : ℕ). y ∷ []) same
one_word (x ∷ xs) (suc i) word e = ap (λ (ys : List ℕ). x ∷ ys) (one_word xs i word e)

pub taken_word : (words : List ℕ) (i word : ℕ) → get_elem? words i ≡ some word → take i words ++ word ∷ [] ≡ take (i + 1) words
taken_word words i word e = let one : suc i ≡ i + 1 = omega arith in sym (one_word words i word e) ∙ ap (λ (n : ℕ). take n words) one

-- the table as it is answered is the table by the record
pub closing_is : (layout : Layout) (p : Past) (closed : Closed) → IsClosed layout p closed → closing_of closed ≡ at_close layout p
closing_is layout p closed h =
    let clock : closed.clock ≡ clock_of p = h.clock in
    let buckets = h.buckets in
    let queue = h.queue in
    let used = h.used in
    cc

-- over plain numbers: a word below the end has a spot in the block, and past the end all are read
pub below_end : (word last count : ℕ) → word < last → last ≡ count → word < count
below_end word last count low e = omega (arith, low, e)

pub in_block : (n at most size : ℕ) → n ≡ at → at < most → size ≡ most → n < size
in_block n at most size e low s = omega (arith, e, low, s)

-- all words are in the room
pub left : (layout : Layout) (words : List ℕ) (tracks : List Track) (room : Words) (closed : Closed) (count : ℕ) → Ended layout words tracks → room ≡ record { layout = layout; list = take count words } → length words ≤ count
    → IsRead room.layout room.list closed → ((items : List Item) → Reaches room.layout room.list items → IsClosed room.layout (record_of room.layout items) closed) → IsLeft layout tracks closed
left layout words tracks room closed count e is most read closed_by =
    let all : room ≡ record { layout = layout; list = words } = is ∙ ap (λ (list : List ℕ). let r : Words = record { layout = layout; list = list } in r) (take_all count words most) in
    let reaches : Reaches layout words e.items = record { whole = record { valid = e.valid; count = e.count }; mem = e.mem } in
    let closed_is : IsClosed layout (record_of layout e.items) closed =
    subst (λ (r : Words). (items : List Item) → Reaches r.layout r.list items → IsClosed r.layout (record_of r.layout items) closed) all closed_by e.items reaches in
    record {
      list = words;
      items = e.items;
      reaches = reaches;
      all = e.all;
      follow = e.follow;
      idle = e.idle;
      read = subst (λ (r : Words). IsRead r.layout r.list closed) all read;
      closed_is = closed_is;
      numbers = e.seats;
      run = subst (RunLaw layout.config (logs_of layout e.items)) (sym (closing_is layout (record_of layout e.items) closed closed_is))
          (runs_are_lawful layout e.items (record { valid = e.valid; idle = e.idle }));
      order = subst (RunOrder layout.config (logs_of layout e.items)) (sym (closing_is layout (record_of layout e.items) closed closed_is))
          (runs_have_order layout e.items (record { valid = e.valid; idle = e.idle }));
      rows = subst (ClosesFew layout e.items) (sym (closing_is layout (record_of layout e.items) closed closed_is))
          (tables_close_few layout e.items (record { valid = e.valid; idle = e.idle }));
    }
