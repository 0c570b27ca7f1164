-- What each item of a history keeps, the history keeps. At each item the invariant of the World holds, and turns are counted.
use Rattle.std.proofs.Common.{ℕ, ◌≡◌, ◌<◌, ◌+◌, ◌^◌, Bool, true, false, List, [], ◌∷◌, ◌++◌, refl, sym, subst}
use Rattle.std.specs.Prelude.{◌&&◌, not, nat_lt}
use Rattle.inv_all.specs.model.words.Place.{is_valid}
use Rattle.inv_all.specs.model.words.declared.layout.Layout.{Layout}
use Rattle.inv_all.specs.model.defs.declared.call.Call.{Call}
use Rattle.inv_all.specs.model.Rest.{rest}
use Rattle.inv_all.specs.model.World.{is_busy, step, told_in, may_start}
use Rattle.inv_all.specs.history.Turns as schedule
use Rattle.inv_all.specs.history.Turns.History.{Blank, Starts, Turns}
use Rattle.inv_all.specs.history.History.{Item, Begins, Steps, Made, fits, done, done_if, did, made_from, first_made, made_of}
use Rattle.inv_all.proofs.history.Along.{begins_right, begins_within, low_seat, made_snoc}
use Rattle.inv_all.specs.Inv.{Inv}
use Rattle.inv_all.proofs.Inv.Reached.{inv_reached}
use Rattle.inv_all.specs.history.Heard.{heard_if, heard_from, heard_of}
use Rattle.law_reuse.specs.Heard.{IsCounted}
use Rattle.law_reuse.proofs.Turns.Counted.{histories_count}
use Rattle.inv_all.proofs.model.Facts.{rest_of}

-- what is known where a history stands
pub record Around (made : Made) (h : schedule.History) : Type 0 where
  pub known : Inv made.world
  pub tells : schedule.record_of h ≡ made.past
  pub few : (k : ℕ) → is_busy made.world k ≡ true → (made.world.seat k).post.steps + rest made.world k < 2 ^ 62
  pub more : (k : ℕ) → is_busy made.world k ≡ true → ((step made.world k).seat k).post.steps ≡ (made.world.seat k).post.steps + 1

-- a property of where a history stands, which each item keeps
pub record Kept (K : Made → schedule.History → Type 0) : Type 0 where
  pub begins : (made : Made) (h : schedule.History) (i : ℕ) (call : Call) → Around made h → i < made.world.layout.config.seats → is_busy made.world i ≡ false → may_start made.world i call ≡ true → K made h → K (done made (Begins i call)) (Starts h i call)
  pub steps : (made : Made) (h : schedule.History) (i : ℕ) → Around made h → i < made.world.layout.config.seats → is_busy made.world i ≡ true → K made h → K (done made (Steps i)) (Turns h i (told_in made.world i))

item_keeps : (K : Made → schedule.History → Type 0) → Kept K → (made : Made) (h : schedule.History) (item : Item) (fit : Bool) → fits made.world item ≡ fit → Around made h → K made h → K (done_if made item fit) (heard_if made.world item fit h)
item_keeps K q made h item false f a g = g
item_keeps K q made h (Begins i call) true f a g =
    let seats : ℕ = made.world.layout.config.seats in
    let may : Bool = may_start made.world i call in
    q.begins made h i call a (low_seat i seats (not (is_busy made.world i) && may) f) (begins_right i seats (is_busy made.world i) may f) (begins_within i seats (is_busy made.world i) may f) g
item_keeps K q made h (Steps i) true f a g =
    q.steps made h i a (low_seat i made.world.layout.config.seats (is_busy made.world i) f) (rest_of (nat_lt i made.world.layout.config.seats) (is_busy made.world i) f) g

-- a history of one item more
abbrev one_more : Made → Item → schedule.History → schedule.History
one_more made item h = heard_if made.world item (fits made.world item) h

heard_snoc : (made : Made) (path : List Item) (item : Item) (h : schedule.History) → heard_from made (path ++ item ∷ []) h ≡ one_more (made_from made path) item (heard_from made path h)
heard_snoc made [] item h = refl
heard_snoc made (first ∷ path) item h = heard_snoc (did made first) path item (one_more made first h)

around : (layout : Layout) (path : List Item) → is_valid layout ≡ true → Around (made_of layout path) (heard_of layout path)
around layout path d =
    let c : IsCounted layout path = histories_count layout path d in
    record { known = inv_reached layout path d; tells = c.tells; few = c.few; more = c.one_more }

items_keep : (layout : Layout) (K : Made → schedule.History → Type 0) → Kept K → is_valid layout ≡ true → (items path : List Item) → K (made_of layout path) (heard_of layout path) → K (made_from (made_of layout path) items) (heard_from (made_of layout path) items (heard_of layout path))
items_keep layout K q d [] path g = g
items_keep layout K q d (item ∷ items) path g =
    let made : Made = made_of layout path in
    let h : schedule.History = heard_of layout path in
    let m : made_of layout (path ++ item ∷ []) ≡ did made item = made_snoc (first_made layout) path item in
    let e : heard_of layout (path ++ item ∷ []) ≡ one_more made item h = heard_snoc (first_made layout) path item Blank in
    let next : K (did made item) (one_more made item h) = item_keeps K q made h item (fits made.world item) refl (around layout path d) g in
    let there : K (made_of layout (path ++ item ∷ [])) (heard_of layout (path ++ item ∷ [])) =
    subst (λ (x : Made). K x (heard_of layout (path ++ item ∷ []))) (sym m) (subst (λ (x : schedule.History). K (did made item) x) (sym e) next) in
    subst (λ (x : schedule.History). K (made_from (did made item) items) (heard_from (did made item) items x)) e
    (subst (λ (x : Made). K (made_from x items) (heard_from x items (heard_of layout (path ++ item ∷ [])))) m (items_keep layout K q d items (path ++ item ∷ []) there))

pub history_keeps : (layout : Layout) (K : Made → schedule.History → Type 0) → Kept K → is_valid layout ≡ true → (items : List Item) → K (first_made layout) Blank → K (made_of layout items) (heard_of layout items)
history_keeps layout K q d items g = items_keep layout K q d items [] g
