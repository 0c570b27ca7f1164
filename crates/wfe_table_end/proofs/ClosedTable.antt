-- What is read of the words to which a history comes is what the record says.
use Rattle.std.proofs.Common.{List, ap, drop, map, refl, subst, sym, ℕ, ◌-◌, ◌∙◌, ◌≡◌}
use Rattle.std.specs.List.{range_with_len}
use mathlib.Core.Path.{fun_ext}
use Rattle.laws.specs.StateAt.{taken_at}
use Rattle.laws.specs.StructuresAt.{Filling, numbered_from}
use Rattle.law_reasons.specs.inv.history.History.{Item, record_of, world_of}
use Rattle.laws.specs.records.Record.{Past}
use Rattle.law_reasons.proofs.inv.Inv.Tells.{inv_shows}
use Rattle.law_reasons.proofs.Eras.EraLaw.Keeps.{record_clock}
use Rattle.law_reasons.proofs.reuse.Once.Keeps.{record_shows}
use Rattle.wfe_core.specs.World.{World}
use Rattle.wfe_core.specs.words.Place.{Place, row_count}
use Rattle.wfe_core.specs.words.Place.Place.{Clock, Head}
use Rattle.wfe_core.specs.words.declared.layout.Layout.{Layout}
use Rattle.wfe_drive_cells.specs.Memory.{memory}
use Rattle.wfe_table_end.specs.ClosedTable.{IsClosed, IsReached, Reaches}
use Rattle.wfe_table_end.specs.Contents.{IsRead, IsReadable, filling_in, is_used, items_after, numbers_where}
use Rattle.wfe_table_end.specs.declared.closed.Closed.{Closed}
use Rattle.wfe_table_end.proofs.Books.{history_comes}
use Rattle.wfe_table_end.proofs.Bounds.{readable}
use Rattle.wfe_table_end.proofs.Buckets.{bucket_shown}
use Rattle.wfe_table_end.proofs.Line.{queue_shown}
use Rattle.wfe_table_end.proofs.Used.{used_shown}

pub reached_readable : (layout : Layout) (list : List ℕ) → IsReached layout list → IsReadable layout (memory layout list)
reached_readable layout list r =
    let comes = history_comes layout r.items r.reaches.whole.valid in
    let w : World = world_of layout r.items in
    subst (λ (mem : Place → ℕ). IsReadable layout mem) r.reaches.mem (subst (λ (table : Layout). IsReadable table w.mem) comes.table (readable w comes.known))

pub reached_closed : (layout : Layout) (list : List ℕ) (items : List Item) (closed : Closed) → Reaches layout list items → IsRead layout list closed → IsClosed layout (record_of layout items) closed
reached_closed layout list items closed r read =
    let w : World = world_of layout items in
    let p : Past = record_of layout items in
    let valid = r.whole.valid in
    let comes = history_comes layout items valid in
    let shows = inv_shows w comes.known in
    let back : memory layout list ≡ w.mem = sym r.mem in
    record {
      clock = read.clock ∙ ap (λ (mem : Place → ℕ). mem Clock) back ∙ sym (record_clock layout items valid);
      buckets =
          read.buckets ∙ ap (λ (mem : Place → ℕ). map (filling_in mem) (range_with_len 0 layout.config.buckets)) back
          ∙ ap (λ (f : ℕ → Filling). map f (range_with_len 0 layout.config.buckets)) (fun_ext (λ bucket. bucket_shown w p bucket (shows.buckets bucket) (comes.changes bucket)));
      queue =
          read.queue ∙ ap (λ (mem : Place → ℕ). items_after mem (row_count layout) (mem Head - 1)) back
          ∙ subst (λ (table : Layout). items_after w.mem (row_count table) (w.mem Head - 1) ≡ numbered_from w.book.taken (drop w.book.taken w.book.queued)) comes.table (queue_shown w comes.known)
          ∙ rw (comes.taken, comes.queued) refl;
      used =
          read.used ∙ ap (λ (mem : Place → ℕ). numbers_where (is_used mem) (row_count layout)) back
          ∙ subst (λ (table : Layout). numbers_where (is_used w.mem) (row_count table) ≡ numbers_where (λ slot. taken_at table.config.slots slot p) (row_count table)) comes.table (used_shown w p (record_shows layout items valid));
    }
