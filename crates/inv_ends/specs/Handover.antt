-- Under Wait-Free Eras what helper and index words hold stays held, from a link's load to the row that stands.
use Rattle.std.specs.Prelude.{ℕ, ◌≡◌, ◌<◌, true, false, Some}
use Rattle.inv_rows.specs.words.Place.{is_valid}
use Rattle.inv_rows.specs.words.Place.Place.{Clock}
use Rattle.inv_rows.specs.words.declared.layout.Layout.{Layout}
use Rattle.inv_rows.specs.defs.declared.call.Call.{Call}
use Rattle.inv_rows.specs.model.Posts.{stands}
use Rattle.inv_rows.specs.model.Phases.{Base}
use Rattle.inv_rows.specs.model.Calls.{Why, Runs}
use Rattle.inv_rows.specs.model.World.{World, start, begin, step, finds}
use Rattle.inv_rows.specs.Shapes.Eras.{Eras}
use Rattle.inv_rows.specs.words.Schemes.{helps}
use Rattle.inv_rows.specs.Shapes.Seats.{Seats}
use Rattle.inv_rows.specs.Shapes.Slots.{Slots}
use Rattle.inv_rows.specs.Covering.Requests.NextDeals.{next_deals}
use Rattle.inv_rows.specs.Covering.Requests.Parents.{Parents}
use Rattle.inv_rows.specs.Covering.Requests.Standing.{Requests}
use Rattle.inv_rows.specs.Covering.Requests.Views.{Deal, View as Asked}
use Rattle.inv_rows.specs.Covering.Requests.Views.Deal.{Quiet}
use Rattle.inv_rows.specs.Agree.{rows_after}
use Rattle.inv_rows.specs.Hands.{row_move}
use Rattle.inv_rows.specs.Rows.{View}
use Rattle.inv_rows.specs.Covering.Covers.{takes_or_frees, CoversNeeds, Scanning}
use Rattle.inv_rows.specs.Covering.Held.{tries_base, follows_row, RootsNeeds, Held}
use Rattle.inv_rows.specs.Covering.Rests.{Rests}
use Rattle.inv_ends.specs.Helped.{helper_holds, answered_from, passed_to, Helped}

-- what a step of seat i takes of other parts at the World before it
pub record HandoverNeeds (w : World) (i : ℕ) (v : View) (z : Asked) : Type 0 where
  -- the table is one that there may be, and the seat is one of it
  pub valid : is_valid w.layout ≡ true
  pub below : i < w.layout.config.seats
  -- the shape of seats, that words decode and no era is above the clock, and that links are in range
  pub seats : Seats w
  pub eras : Eras w
  pub slots : Slots w
  -- requests and their deals, and that the row whose next link is followed stands at index 0
  pub requests : Requests w z
  pub parents : Parents w
  -- where nothing stands
  pub rests : Rests w
  -- what is known of the rows, and what scans have read
  pub covers : CoversNeeds w i v
  pub scans : Scanning w
  pub roots : RootsNeeds w v

abbrev pub HandoverStart : Type 0
HandoverStart = (layout : Layout) (v : View) → Helped (start layout) v (λ k. Quiet)

abbrev pub HandoverBegin : Type 0
HandoverBegin = (w : World) (i : ℕ) (call : Call) (v : View) (deal : ℕ → Deal) → Helped w v deal → Helped (begin w i call) v deal

-- under Wait-Free Eras what words hold stays held over each step
abbrev pub HandoverKept : Type 0
HandoverKept =
    (w : World) (i : ℕ) (v : View) (z : Asked)
    → helps w.layout.config.scheme ≡ true
    → HandoverNeeds w i v z
    → Held w v
    → Helped w v z.deal
    → Held (step w i) (rows_after w i v) × Helped (step w i) (rows_after w i v) (next_deals w i z.deal)

-- the step neither makes the row free nor claims it
abbrev pub IsLeft : World → ℕ → ℕ → Type 0
IsLeft w i s = takes_or_frees (row_move (w.seat i).phase (w.seat i).post (finds w i)) s ≡ false

-- no step makes a row free that words hold, and none claims it
pub record RowsLeft (w : World) (i : ℕ) (v : View) (deal : ℕ → Deal) : Type 0 where
  pub stood : (k j s : ℕ) → stands (w.seat k).post j ≡ Some s → IsLeft w i s
  pub tried : (k : ℕ) (why : Why) (base : Base) (s : ℕ) → (w.seat k).phase ≡ Runs why base
      → tries_base (w.mem Clock) v.status (w.seat k).post base s ≡ true → IsLeft w i s
  pub loaded : (k : ℕ) (why : Why) (base : Base) (s : ℕ) → (w.seat k).phase ≡ Runs why base
      → helper_holds w.layout (w.mem Clock) v.status deal base s ≡ true → IsLeft w i s
  pub answered : (k by s : ℕ) → answered_from w.layout v.status by (deal k) s ≡ true → IsLeft w i s
  pub passed : (k index s : ℕ) → passed_to w.layout v.status index (deal k) s ≡ true → IsLeft w i s

abbrev pub AnsweredRowsStay : Type 0
AnsweredRowsStay =
    (w : World) (i : ℕ) (v : View) (deal : ℕ → Deal)
    → CoversNeeds w i v
    → Scanning w
    → Held w v
    → Helped w v deal
    → RowsLeft w i v deal

-- under every scheme the row whose next link is followed stands at index 0
abbrev pub FollowedRowsStand : Type 0
FollowedRowsStand =
    (w : World) (k : ℕ) (why : Why) (base : Base) (row : ℕ)
    → Seats w
    → Parents w
    → (w.seat k).phase ≡ Runs why base
    → follows_row base row ≡ true
    → stands (w.seat k).post 0 ≡ Some row
