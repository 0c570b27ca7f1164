-- In the record of each history no bucket has more changes than there are versions, and no more values were taken than there are
-- numbers.
use Rattle.std.proofs.Common.{ℕ, ◌≡◌, ◌≤◌, ◌<◌, true, false, List, length, refl, sym, subst, arith}
use Rattle.law_reuse.specs.laws.words.Place.{is_valid}
use Rattle.law_reuse.specs.laws.words.declared.layout.Layout.{Layout}
use Rattle.law_reuse.specs.laws.defs.declared.call.Call.{Call}
use Rattle.law_reuse.specs.laws.defs.declared.fold.Change.{Change}
use Rattle.law_reuse.specs.inv.model.World.{World, is_busy, told_in, may_start}
use Rattle.law_reuse.specs.inv.Contents.Gives.{QueueCounts}
use Rattle.law_reuse.proofs.inv.Contents.Items.Gives.{items_count}
use Rattle.law_reuse.specs.laws.records.Record.{Past}
use Rattle.law_reuse.specs.laws.StructuresAt.{changes_of, count_of, taken_of}
use Rattle.law_reuse.specs.history.History.{Item, Begins, Steps, Made, done, made_of, first_made}
use Rattle.law_reuse.proofs.history.Along.{Steady, items_keep}
use Rattle.law_reuse.specs.inv.Inv.{Inv}
use Rattle.law_reuse.proofs.inv.Inv.Begun.{inv_start, inv_begin}
use Rattle.law_reuse.proofs.inv.Inv.Kept.{inv_kept}
use Rattle.law_reuse.proofs.Lawful.Maps.{told_changes}
use Rattle.law_reuse.proofs.Lawful.Queues.{Agrees, told_agrees}

-- what a history keeps: the record's changes and counts are the book's
record Keeps (layout : Layout) (made : Made) : Type 0 where
  table : made.world.layout ≡ layout
  known : Inv made.world
  changes : (b : ℕ) → changes_of b made.past ≡ made.world.book.changes b
  agrees : Agrees made.world.book made.past

begin_keeps : (layout : Layout) (made : Made) (i : ℕ) (call : Call) → is_busy made.world i ≡ false → may_start made.world i call ≡ true → Keeps layout made → Keeps layout (done made (Begins i call))
begin_keeps layout made i call f m g = record {
  table = g.table;
  known = inv_begin made.world i call f m g.known;
  changes = g.changes;
  agrees = record { queued = g.agrees.queued; taken = g.agrees.taken };
}

step_keeps : (layout : Layout) (made : Made) (i : ℕ) → i < made.world.layout.config.seats → Keeps layout made → Keeps layout (done made (Steps i))
step_keeps layout made i b g = record {
  table = g.table;
  known = inv_kept made.world i b g.known;
  changes = λ bucket. told_changes bucket i (told_in made.world i) made.past made.world.book (g.changes bucket);
  agrees = told_agrees i (told_in made.world i) made.past made.world.book g.agrees;
}

steady : (layout : Layout) → Steady (Keeps layout)
steady layout = record { begins = λ made i call b y m g. begin_keeps layout made i call y m g; steps = λ made i b y g. step_keeps layout made i b g }

-- bounds of a record
pub record Bounds (most : ℕ) (p : Past) : Type 0 where
  pub versions : (b : ℕ) → count_of b p ≤ most
  pub taken : taken_of p ≤ most

bounds_kept : (layout : Layout) (made : Made) → Keeps layout made → Bounds layout.config.last_version made.past
bounds_kept layout made g =
    let w : World = made.world in
    let k = g.known.known in
    let c : QueueCounts w = items_count w g.known.rows g.known.line k.whole.both k.items in
    subst (λ (table : Layout). Bounds table.config.last_version made.past) g.table (record {
      versions = λ b. subst (λ (cs : List Change). length cs ≤ w.layout.config.last_version) (sym (g.changes b)) (k.bounded.versions b);
      taken = subst (λ (n : ℕ). n ≤ w.layout.config.last_version) (sym g.agrees.taken) (omega (arith, c.taken, c.queued));
    })

pub record_bounds : (layout : Layout) (items : List Item) → is_valid layout ≡ true → Bounds layout.config.last_version (made_of layout items).past
record_bounds layout items d =
    bounds_kept layout (made_of layout items) (items_keep (Keeps layout) (steady layout) items (first_made layout)
    (record { table = refl; known = inv_start layout d; changes = λ b. refl; agrees = record { queued = refl; taken = refl } }))
