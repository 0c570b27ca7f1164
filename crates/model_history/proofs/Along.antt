-- What a call that begins keeps, and each step, is kept along a history.
use Rattle.std.proofs.Common.{ℕ, ◌≡◌, ◌<◌, Bool, true, false, List, [], ◌∷◌, ◌++◌, refl, arith, sym, subst}
use Rattle.std.proofs.lemmas.Bool.Decides.{nat_tests}
use Rattle.std.specs.Prelude.{◌&&◌, not, nat_lt}
use Rattle.wfe_core.specs.defs.declared.call.Call.{Call}
use Rattle.wfe_core.specs.World.{is_busy, may_start}
use Rattle.model_history.specs.History.{Item, Begins, Steps, Made, fits, done, done_if, did, made_from, made_of, first_made, world_of}
use Rattle.wfe_core.proofs.Facts.{rest_of}
use Rattle.wfe_core.specs.words.declared.layout.Layout.{Layout}

-- where an item fits
pub low_seat : (seat seats : ℕ) (b : Bool) → (nat_lt seat seats && b) ≡ true → seat < seats
low_seat seat seats b h = grind (arith, nat_tests)

pub begins_right : (seat seats : ℕ) (busy may : Bool) → (nat_lt seat seats && (not busy && may)) ≡ true → busy ≡ false
begins_right seat seats true may h = absurd (grind (arith, nat_tests))
begins_right seat seats false may h = refl

pub begins_within : (seat seats : ℕ) (busy may : Bool) → (nat_lt seat seats && (not busy && may)) ≡ true → may ≡ true
begins_within seat seats busy true h = refl
begins_within seat seats busy false h = absurd (grind (arith, nat_tests))

-- a property of what items come to, which each item that fits keeps
pub record Steady (K : Made → Type 0) : Type 0 where
  pub begins : (made : Made) (i : ℕ) (call : Call) → i < made.world.layout.config.seats → is_busy made.world i ≡ false → may_start made.world i call ≡ true → K made → K (done made (Begins i call))
  pub steps : (made : Made) (i : ℕ) → i < made.world.layout.config.seats → is_busy made.world i ≡ true → K made → K (done made (Steps i))

pub item_keeps : (K : Made → Type 0) → Steady K → (made : Made) (item : Item) (fit : Bool) → fits made.world item ≡ fit → K made → K (done_if made item fit)
item_keeps K s made item false f g = g
item_keeps K s made (Begins i call) true f g =
    let seats : ℕ = made.world.layout.config.seats in
    let may : Bool = may_start made.world i call in
    s.begins made i call (low_seat i seats (not (is_busy made.world i) && may) f) (begins_right i seats (is_busy made.world i) may f) (begins_within i seats (is_busy made.world i) may f) g
item_keeps K s made (Steps i) true f g =
    s.steps made i (low_seat i made.world.layout.config.seats (is_busy made.world i) f) (rest_of (nat_lt i made.world.layout.config.seats) (is_busy made.world i) f) g

pub items_keep : (K : Made → Type 0) → Steady K → (items : List Item) (made : Made) → K made → K (made_from made items)
items_keep K s [] made g = g
items_keep K s (item ∷ items) made g = items_keep K s items (did made item) (item_keeps K s made item (fits made.world item) refl g)

-- one item more
pub made_snoc : (made : Made) (path : List Item) (item : Item) → made_from made (path ++ item ∷ []) ≡ did (made_from made path) item
made_snoc made [] item = refl
made_snoc made (first ∷ path) item = made_snoc (did made first) path item

-- a property of what histories come to, which each item keeps where the history before it is known
items_on : (layout : Layout) (K : Made → Type 0) → ((path : List Item) (item : Item) (fit : Bool) → fits (world_of layout path) item ≡ fit → K (made_of layout path) → K (done_if (made_of layout path) item fit))
    → (items path : List Item) → K (made_of layout path) → K (made_from (made_of layout path) items)
items_on layout K s [] path g = g
items_on layout K s (item ∷ items) path g =
    let e : made_of layout (path ++ item ∷ []) ≡ did (made_of layout path) item = made_snoc (first_made layout) path item in
    subst (λ (made : Made). K (made_from made items)) e (items_on layout K s items (path ++ item ∷ []) (subst K (sym e) (s path item (fits (world_of layout path) item) refl g)))

pub paths_keep : (layout : Layout) (K : Made → Type 0) → ((path : List Item) (item : Item) (fit : Bool) → fits (world_of layout path) item ≡ fit → K (made_of layout path) → K (done_if (made_of layout path) item fit))
    → K (first_made layout) → (items : List Item) → K (made_of layout items)
paths_keep layout K s g items = items_on layout K s items [] g
