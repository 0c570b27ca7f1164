-- A history with one item more.
use Rattle.std.proofs.Common.{List, [], ap, false, refl, subst, sym, true, ℕ, ◌++◌, ◌<◌, ◌∙◌, ◌∷◌, ◌≡◌}
use Rattle.wfe_core.specs.words.declared.layout.Layout.{Layout}
use Rattle.wfe_core.specs.defs.declared.call.Call.{Call}
use Rattle.wfe_core.specs.World.{World, begin, is_busy, may_start, step}
use Rattle.wfe_core.proofs.Facts.{fits_busy, fits_free}
use Rattle.model_history.specs.History.{Begins, Item, Made, Steps, done, done_if, first_made, fits, made_of, world_of}
use Rattle.model_history.proofs.Along.{items_keep, made_snoc}

-- no item changes the table's layout
pub layout_is : (layout : Layout) (items : List Item) → (world_of layout items).layout ≡ layout
layout_is layout items = items_keep (λ (made : Made). made.world.layout ≡ layout) (record { begins = λ made i call h b may e. e; steps = λ made i h b e. e }) items (first_made layout) refl

-- an item that fits is done
fit_done : (layout : Layout) (items : List Item) (item : Item) → fits (world_of layout items) item ≡ true → world_of layout (items ++ item ∷ []) ≡ (done (made_of layout items) item).world
fit_done layout items item f =
    ap (λ (made : Made). made.world) (made_snoc (first_made layout) items item) ∙ ap (λ fit. (done_if (made_of layout items) item fit).world) f

within : (layout : Layout) (items : List Item) (i : ℕ) → i < layout.config.seats → i < (world_of layout items).layout.config.seats
within layout items i h = subst (λ (table : Layout). i < table.config.seats) (sym (layout_is layout items)) h

-- a busy seat makes a step
pub one_step : (layout : Layout) (items : List Item) (i : ℕ) → i < layout.config.seats → is_busy (world_of layout items) i ≡ true → world_of layout (items ++ Steps i ∷ []) ≡ step (world_of layout items) i
one_step layout items i h b =
    let w : World = world_of layout items in
    fit_done layout items (Steps i) (fits_busy i w.layout.config.seats (is_busy w i) (within layout items i h) b)

-- a call begins on a seat that is not busy and has not left, and names indexes and places that it may name
pub one_begin : (layout : Layout) (items : List Item) (i : ℕ) (call : Call) → i < layout.config.seats → is_busy (world_of layout items) i ≡ false → may_start (world_of layout items) i call ≡ true
    → world_of layout (items ++ Begins i call ∷ []) ≡ begin (world_of layout items) i call
one_begin layout items i call h b m =
    let w : World = world_of layout items in
    fit_done layout items (Begins i call) (fits_free i w.layout.config.seats (is_busy w i) (may_start w i call) (within layout items i h) b m)
