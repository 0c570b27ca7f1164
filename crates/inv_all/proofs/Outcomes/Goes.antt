-- A history keeps the invariant, what walks have seen, and what movers have met.
use Rattle.std.proofs.Common.{ℕ, ◌≡◌, ◌<◌, Bool, true, false, refl, sym, subst, List, [], ◌∷◌}
use Rattle.inv_ends.specs.model.words.Place.{is_valid}
use Rattle.inv_ends.specs.model.words.declared.layout.Layout.{Layout}
use Rattle.inv_ends.specs.model.defs.declared.call.Call.{Call}
use Rattle.inv_ends.specs.model.World.{begin, is_busy, may_start, step}
use Rattle.inv_ends.specs.requests.Views.{Deal, View as Asked}
use Rattle.inv_ends.proofs.requests.Falling.{needs_of}
use Rattle.inv_ends.proofs.requests.Kept.{requests_start, requests_begin}
use Rattle.inv_ends.specs.rows.Agree.{first_rows, rows_after}
use Rattle.inv_ends.specs.rows.Chain.{first_line, line_after}
use Rattle.inv_ends.specs.rows.Queue.{Line}
use Rattle.inv_ends.specs.rows.Rows.{View}
use Rattle.inv_ends.specs.history.History.{Item, Begins, Steps, Made, fits, done, done_if, did, made_from, made_of, first_made}
use Rattle.inv_ends.proofs.history.Along.{begins_right, begins_within, low_seat}
use Rattle.inv_all.specs.Known.{Known}
use Rattle.inv_all.proofs.Inv.Begun.{known_start, known_begin}
use Rattle.inv_all.proofs.Inv.Kept.{known_kept, asked_next}
use Rattle.inv_all.proofs.Inv.Rows.{rows_need}
use Rattle.inv_ends.specs.Births.{Given, GivenNeeds}
use Rattle.inv_ends.proofs.Told.Births.{given_start, given_begin, given_kept}
use Rattle.inv_ends.specs.Moves.{met_after, Meeting, MeetingNeeds}
use Rattle.inv_ends.specs.Walks.{Walking}
use Rattle.inv_ends.proofs.Walks.Kept.{walking_start, walking_begin, walking_kept}
use Rattle.inv_ends.proofs.Walks.Movers.{meeting_start, meeting_begin, meeting_kept}
use Rattle.inv_all.specs.Sights.{Sights, blank, sights_by, sights_if, sights_from, sights_of}

pub record Goes (layout : Layout) (made : Made) (s : Sights) : Type 0 where
  pub table : made.world.layout ≡ layout
  pub rows : View
  pub line : Line
  pub asked : Asked
  pub known : Known made.world rows line asked
  pub walking : Walking made.world s.rows
  pub meeting : Meeting made.world asked.deal s.requests
  pub births : Given made.world rows s.births

pub meeting_need : (made : Made) (i : ℕ) (v : View) (l : Line) (z : Asked) → i < made.world.layout.config.seats → Known made.world v l z → MeetingNeeds made.world i z
meeting_need made i v l z b k = record { valid = k.valid; below = b; seats = k.seats; links = needs_of made.world k.slots; requests = k.requests }

pub given_need : (made : Made) (i : ℕ) (v : View) (l : Line) (z : Asked) → Known made.world v l z → GivenNeeds made.world i v
given_need made i v l z k = record { valid = k.valid; seats = k.seats; needs = rows_need made.world i v l k.seats k.eras k.whole.both; rows = k.whole.both.rows }

begin_goes : (layout : Layout) (made : Made) (i : ℕ) (call : Call) (s : Sights) → is_busy made.world i ≡ false → may_start made.world i call ≡ true → Goes layout made s → Goes layout (done made (Begins i call)) s
begin_goes layout made i call s f m g =
    let k = g.known in
    let q = requests_begin made.world i call g.asked k.valid f k.seats k.requests in
    record {
      table = g.table;
      rows = g.rows;
      line = g.line;
      asked = q.0;
      known = known_begin made.world i call g.rows g.line g.asked q.0 f m k q.1.facts q.1.deal;
      walking = walking_begin made.world i call s.rows k.valid k.seats g.walking;
      meeting = subst (λ (deal : ℕ → Deal). Meeting (begin made.world i call) deal s.requests) (sym q.1.deal) (meeting_begin made.world i call g.asked.deal s.requests k.valid k.seats g.meeting);
      births = given_begin made.world i call g.rows s.births k.valid k.seats g.births;
    }

step_goes : (layout : Layout) (made : Made) (i : ℕ) (s : Sights) → i < made.world.layout.config.seats → Goes layout made s → Goes layout (done made (Steps i)) (sights_by made.world (Steps i) s)
step_goes layout made i s b g =
    let k = g.known in
    let q = asked_next made.world i g.rows g.line g.asked b k in
    record {
      table = g.table;
      rows = rows_after made.world i g.rows;
      line = line_after made.world i g.line;
      asked = q.0;
      known = known_kept made.world i g.rows g.line g.asked q.0 b k q.1.facts q.1.deal;
      walking = walking_kept made.world i s.rows k.valid k.seats g.walking;
      meeting = subst (λ (deal : ℕ → Deal). Meeting (step made.world i) deal (met_after made.world i s.requests)) (sym q.1.deal) (meeting_kept made.world i g.asked s.requests (meeting_need made i g.rows g.line g.asked b k) g.meeting);
      births = given_kept made.world i g.rows s.births (given_need made i g.rows g.line g.asked k) g.births;
    }

item_goes : (layout : Layout) (made : Made) (item : Item) (s : Sights) (fit : Bool) → fits made.world item ≡ fit → Goes layout made s → Goes layout (done_if made item fit) (sights_if made.world item fit s)
item_goes layout made item s false f g = g
item_goes layout made (Begins i call) s true f g =
    let seats : ℕ = made.world.layout.config.seats in
    let may : Bool = may_start made.world i call in
    begin_goes layout made i call s (begins_right i seats (is_busy made.world i) may f) (begins_within i seats (is_busy made.world i) may f) g
item_goes layout made (Steps i) s true f g = step_goes layout made i s (low_seat i made.world.layout.config.seats (is_busy made.world i) f) g

items_go : (layout : Layout) (items : List Item) (made : Made) (s : Sights) → Goes layout made s → Goes layout (made_from made items) (sights_from made items s)
items_go layout [] made s g = g
items_go layout (item ∷ items) made s g = items_go layout items (did made item) (sights_if made.world item (fits made.world item) s) (item_goes layout made item s (fits made.world item) refl g)

first_goes : (layout : Layout) → is_valid layout ≡ true → Goes layout (first_made layout) blank
first_goes layout d =
    let q = requests_start layout d in
    record {
      table = refl;
      rows = first_rows layout;
      line = first_line layout;
      asked = q.0;
      known = known_start layout q.0 d q.1.facts q.1.deal;
      walking = walking_start layout blank.rows;
      meeting = meeting_start layout q.0.deal blank.requests;
      births = given_start layout;
    }

pub history_goes : (layout : Layout) (items : List Item) → is_valid layout ≡ true → Goes layout (made_of layout items) (sights_of layout items)
history_goes layout items d = items_go layout items (first_made layout) blank (first_goes layout d)
