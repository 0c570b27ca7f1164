-- What holds of requests and helping between any two steps.
use Rattle.std.specs.Prelude.{ℕ, ◌≡◌, ◌≤◌, ◌<◌, ◌+◌, true}
use Rattle.inv_rows.specs.words.declared.config.Config.{Config}
use Rattle.inv_rows.specs.Covering.Requests.Views.{View}
use Rattle.inv_rows.specs.Covering.Requests.Deals.{is_open, fits, ahead, has_tag, has_era, in_time, stands_by}
use Rattle.inv_rows.specs.Covering.Requests.Roles.{is_away, loaded, linked, shows, publishes, turned, spares, is_turn, first_of, is_mover, position, meant, knows, in_range}

pub record Parts (c : Config) (v : View) : Type 0 where
  -- a seat's deal is what its role says; an index word has the seat's tag, or one more between hand-over and taking
  pub fit : (i : ℕ) → fits (v.role i) (v.deal i) ≡ true
  pub marks : (i j : ℕ) → v.mark i j ≡ v.tag i j + ahead (v.deal i) j
  pub tags : (i : ℕ) → has_tag (v.deal i) (v.tag i) ≡ true
  pub taken : (i : ℕ) → has_era (v.deal i) (v.era i) ≡ true
  pub timely : (i : ℕ) → in_time (v.deal i) v.clock (c.slots + 1) ≡ true
  -- eras are at most the clock, and a mover's is below the last
  pub clock : v.clock ≤ c.last_era
  pub eras : (i : ℕ) → loaded (v.role i) ≤ v.clock
  pub helpers : (i : ℕ) → v.helper i ≤ v.clock
  pub indexes : (i j : ℕ) → v.era i j ≤ v.clock
  pub movers : (i : ℕ) → is_mover (v.role i) ≡ true → loaded (v.role i) < c.last_era
  -- links are in range
  pub links : (i : ℕ) → linked (v.role i) ≤ c.slots + 1
  -- what the own words show, and how the own turns of a request lie
  pub shown : (i : ℕ) → shows (v.role i) (v.helper i) ≡ true
  pub published : (i : ℕ) → publishes (v.role i) (v.era i) ≡ true
  pub turns : (i : ℕ) → turned (v.role i) ≡ true
  -- tags are below the clock, with room for one more until a failed protection has raised its tag
  pub low : (i j : ℕ) → v.tag i j < v.clock
  pub spare : (i : ℕ) → spares (v.role i) (v.tag i) v.clock ≡ true
  -- who gave an answer shows its era; what movers know of the requests they are at
  pub answer : (i : ℕ) → stands_by (v.deal i) i v.role v.helper ≡ true
  pub known : (m : ℕ) → knows (v.role m) m v.tag v.era v.deal ≡ true
  pub whom : (m : ℕ) → in_range (v.role m) c.seats c.indexes ≡ true
  -- while a request is pending the clock is at most one above the first value that its owner loaded, and no mover from the
  -- value one above has passed it
  pub bound : (i : ℕ) → is_turn (v.role i) ≡ true → is_open (v.deal i) ≡ true → v.clock ≤ first_of (v.role i) + 1
  pub passed : (i m : ℕ) → is_turn (v.role i) ≡ true → is_open (v.deal i) ≡ true → is_mover (v.role m) ≡ true
      → loaded (v.role m) ≡ first_of (v.role i) + 1
      → (position c.seats (v.role m) ≤ i) × (position c.seats (v.role m) ≡ i → meant (v.role m) (v.deal i) ≡ true)
  -- only the table's seats do anything
  pub outside : (i : ℕ) → c.seats ≤ i → is_away (v.role i) ≡ true
