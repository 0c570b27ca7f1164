-- A history keeps the invariant, item by item.
use Rattle.std.proofs.Common.{◌≡◌, ◌<◌, true, refl, sym, subst, List}
use Rattle.inv_ends.specs.model.words.Place.{is_valid}
use Rattle.inv_ends.specs.model.words.declared.layout.Layout.{Layout}
use Rattle.inv_ends.specs.history.History.{Item, first_made, world_of}
use Rattle.inv_ends.proofs.history.Along.{items_keep}
use Rattle.inv_all.specs.Histories.{InvReached, ReachedReady}
use Rattle.inv_all.proofs.Inv.Begun.{inv_start}
use Rattle.inv_all.proofs.Inv.Kept.{inv_ready}
use Rattle.inv_all.proofs.Finish.{Goes, steady}

history_goes : (layout : Layout) (items : List Item) → is_valid layout ≡ true → Goes layout (world_of layout items)
history_goes layout items d = items_keep (λ made. Goes layout made.world) (steady layout) items (first_made layout) (record { table = refl; known = inv_start layout d })

pub inv_reached : InvReached
inv_reached layout items d = let g = history_goes layout items d in g.known

pub reached_ready : ReachedReady
reached_ready layout items i d b =
    let g = history_goes layout items d in
    inv_ready (world_of layout items) i (subst (λ (table : Layout). i < table.config.seats) (sym g.table) b) g.known
