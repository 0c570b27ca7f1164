-- In the record of each history no bucket has more changes than there are versions, and no more values were queued than there are
-- numbers, and no more taken than queued.
use Rattle.std.proofs.Common.{List, length, refl, subst, subst₂, sym, true, ℕ, ◌≡◌, ◌≤◌}
use Rattle.law_all.specs.inv.model.World.{World}
use Rattle.law_all.specs.inv.model.defs.declared.fold.Change.{Change}
use Rattle.law_all.specs.inv.model.words.Place.{is_valid}
use Rattle.law_all.specs.inv.model.words.declared.layout.Layout.{Layout}
use Rattle.law_all.specs.inv.history.History.{Item, first_made, record_of, world_of}
use Rattle.law_all.specs.inv.history.Record.{Past}
use Rattle.law_all.proofs.inv.Finish.{Goes, steady}
use Rattle.law_all.proofs.inv.Inv.Begun.{inv_start}
use Rattle.law_all.proofs.inv.Inv.Tells.{inv_shows}
use Rattle.law_all.proofs.inv.history.Along.{items_keep}
use Rattle.law_reasons.proofs.reuse.Lawful.Books.{record_books}
use Rattle.law_all.specs.laws.StructuresAt.{count_of, queued_of, taken_of}

pub record Bounds (most : ℕ) (p : Past) : Type 0 where
  pub versions : (b : ℕ) → count_of b p ≤ most
  pub queued : length (queued_of p) ≤ most
  pub taken : taken_of p ≤ length (queued_of p)

goes : (layout : Layout) (items : List Item) → is_valid layout ≡ true → Goes layout (world_of layout items)
goes layout items d =
    items_keep (λ made. Goes layout made.world) (steady layout) items (first_made layout) (record { table = refl; known = inv_start layout d })

pub bounds : (layout : Layout) (items : List Item) → is_valid layout ≡ true → Bounds layout.config.last_version (record_of layout items)
bounds layout items d =
    let w : World = world_of layout items in
    let g : Goes layout w = goes layout items d in
    let b = record_books layout items d in
    let s = inv_shows w g.known in
    subst (λ (table : Layout). Bounds table.config.last_version (record_of layout items)) g.table (record {
      versions = λ bucket.
          subst (λ (cs : List Change). length cs ≤ w.layout.config.last_version) (sym (b.changes bucket)) (g.known.known.bounded.versions bucket);
      queued = subst (λ (values : List ℕ). length values ≤ w.layout.config.last_version) (sym b.queued) s.counts.queued;
      taken = subst₂ (λ (t : ℕ) (values : List ℕ). t ≤ length values) (sym b.taken) (sym b.queued) s.counts.taken;
    })
