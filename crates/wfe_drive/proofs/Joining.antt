-- The list of one seat goes to the end of another's, one life after the other.
use Rattle.std.proofs.Common.{Bool, List, [], ap, ap₂, arith, drop, false, get_or, get_or-set_other, get_or-set_same, length, length-set, refl, slice_set, subst, suc, sym, take, true, zero, ℕ, ◌++◌, ◌+◌, ◌<◌, ◌∙◌, ◌∷◌, ◌≡◌, ◌≢◌, ◌≤◌, ◌^◌}
use Rattle.std.proofs.lemmas.Bool.Decides.{nat_tests}
use Rattle.std.proofs.lemmas.List.{append_assoc, ext_get_or}
use Rattle.std.specs.Prelude.{None, Option, Some, if◌then◌else◌, slice_get, ◌==◌}
use Rattle.wfe_core.specs.words.Place.Place.{PlaceOf, Clock}
use Rattle.wfe_core.specs.words.declared.layout.Layout.{Layout}
use Rattle.wfe_core.specs.defs.declared.lifetime.Lifetime.{Lifetime}
use Rattle.wfe_core.specs.Desks.{Desk, no_notes, with_life}
use Rattle.wfe_core.specs.Locals.{Local, busy_in}
use Rattle.wfe_core.specs.Rest as rests
use Rattle.wfe_core.specs.World.{World, is_busy}
use Rattle.wfe_core.specs.declared.post.Post.{Post}
use Rattle.wfe_drive_cells.specs.Unit.{SeatView, Shows, TableView, fresh_seat, seat_at, shown, shown_in}
use Rattle.wfe_drive_cells.proofs.Units.{busy-shown}
use Rattle.wfe_drive_seat.specs.Leaving.{MayMove, gaining_seat, given_seat}
use Rattle.law_reuse.specs.inv.Inv.{Inv}
use Rattle.law_reuse.specs.inv.Joins.{Adds, joined}
use Rattle.law_reuse.specs.inv.rows.Facts.{Listing}
use Rattle.law_reuse.proofs.inv.Inv.Joins.{inv_joins, joins_fit, listing_adds}
use Rattle.wfe_drive.specs.Bare.{bare}
use Rattle.wfe_drive.specs.Leaving.{after_join}
use Rattle.wfe_drive.specs.Reached.{ComesTo, IsReached, StaysIn}
use Rattle.wfe_core.specs.Valid.{Bounds}
use Rattle.wfe_drive.proofs.Clearing.{Parts, parts_at, shown_here}
use Rattle.wfe_drive.proofs.Reached.{layout_at}

-- a life at a place parts a list
parts : (list : List Lifetime) (place : ℕ) (life : Lifetime) → slice_get list place ≡ Some life → list ≡ take place list ++ life ∷ drop (suc place) list
parts [] place life e = absurd (cc)
parts (x ∷ list) zero life e = let is : x ≡ life = cc in ap (λ (y : Lifetime). y ∷ list) is
parts (x ∷ list) (suc place) life e = ap (λ (l : List Lifetime). x ∷ l) (parts list place life e)

-- a World in which the list went
other_seat : (w : World) (from to k : ℕ) → (k == from) ≡ false → (k == to) ≡ false → (joined w from to).seat k ≡ w.seat k
other_seat w from to k e f = rw (e, f) refl

giver_seat : (w : World) (from to : ℕ) → (from == to) ≡ false → shown ((joined w from to).seat from) ≡ given_seat (shown (w.seat from))
giver_seat w from to e = let own : (from == from) ≡ true = grind (arith, nat_tests) in rw (own, e) refl

taker_seat : (w : World) (from to : ℕ) → (to == from) ≡ false → shown ((joined w from to).seat to) ≡ gaining_seat (w.seat from).desk.list (shown (w.seat to))
taker_seat w from to e = let own : (to == to) ≡ true = grind (arith, nat_tests) in rw (own, e) refl

-- of each seat
record Idles (w : World) (from to : ℕ) : Type 0 where
  from_free : is_busy w from ≡ false
  to_free : is_busy w to ≡ false
  apart : (from == to) ≡ false
  back : (to == from) ≡ false

joined_right : (w : World) (from to k : ℕ) (one two : Bool) → (k == from) ≡ one → (k == to) ≡ two → Idles w from to → StaysIn w k → StaysIn (joined w from to) k
joined_right w from to k true two e f i g =
    let is : k ≡ from = grind (arith, nat_tests) in
    let free : is_busy w k ≡ false = ap (is_busy w) is ∙ i.from_free in
    record { here = g.here; call = g.call; comes = g.comes; few = λ b. absurd (no_truth (sym free ∙ b)) }
  where
    no_truth : false ≡ true → ⊥
    no_truth e = absurd (cc)
joined_right w from to k false true e f i g =
    let is : k ≡ to = grind (arith, nat_tests) in
    let free : is_busy w k ≡ false = ap (is_busy w) is ∙ i.to_free in
    record { here = g.here; call = g.call; comes = g.comes; few = λ b. absurd (no_truth (sym free ∙ b)) }
  where
    no_truth : false ≡ true → ⊥
    no_truth e = absurd (cc)
joined_right w from to k false false e f i g =
    record { here = g.here; call = g.call; comes = g.comes; few = λ b. subst (λ (x : Local). x.post.steps + rests.rest_of w.layout.config (w.mem Clock) x < 2 ^ 62) (sym (other_seat w from to k e f)) (g.few b) }

-- what is known of the seats of the table
record Joins (table : TableView) (from to : ℕ) (w : World) : Type 0 where
  idles : Idles w from to
  from_below : from < length table.seats
  to_below : to < length table.seats
  given : shown (w.seat from) ≡ seat_at table from
  taken : shown (w.seat to) ≡ seat_at table to

joins_of : (table : TableView) (from to : ℕ) (r : IsReached table) → from < table.layout.config.seats → to < table.layout.config.seats → (from == to) ≡ false → busy_in (seat_at table from).phase ≡ false → busy_in (seat_at table to).phase ≡ false → Joins table from to r.world
joins_of table from to r l h apart b c =
    let w : World = r.world in
    let s : Shows table w = r.shows in
    record {
      idles = record { from_free = sym (busy-shown table w from s) ∙ b; to_free = sym (busy-shown table w to s) ∙ c; apart = apart; back = grind (arith, nat_tests) };
      from_below = subst (λ (n : ℕ). from < n) (sym r.seats) l;
      to_below = subst (λ (n : ℕ). to < n) (sym r.seats) h;
      given = sym (shown_here w from (r.right from).here) ∙ s.seats from;
      taken = sym (shown_here w to (r.right to).here) ∙ s.seats to;
    }

joined_shown : (table : TableView) (from to k : ℕ) (r : IsReached table) (one two : Bool) → (k == from) ≡ one → (k == to) ≡ two → Joins table from to r.world → shown ((joined r.world from to).seat k) ≡ seat_at (after_join table from to) k
joined_shown table from to k r true two e f j =
    let w : World = r.world in
    let is : k ≡ from = grind (arith, nat_tests) in
    let i : Idles w from to = j.idles in
    let gained : SeatView = gaining_seat (seat_at table from).desk.list (seat_at table to) in
    let below : from < length (slice_set table.seats to gained) = subst (λ (n : ℕ). from < n) (sym (length-set table.seats to gained)) j.from_below in
    ap (λ (n : ℕ). shown ((joined w from to).seat n)) is ∙ giver_seat w from to i.apart ∙ ap given_seat j.given
    ∙ sym (get_or-set_same (slice_set table.seats to gained) from (given_seat (seat_at table from)) (fresh_seat table.layout from) below)
    ∙ ap (seat_at (after_join table from to)) (sym is)
joined_shown table from to k r false true e f j =
    let w : World = r.world in
    let is : k ≡ to = grind (arith, nat_tests) in
    let i : Idles w from to = j.idles in
    let other : to ≢ from = (let b : (to == from) ≡ false = i.back in grind (arith, nat_tests)) in
    let gained : SeatView = gaining_seat (seat_at table from).desk.list (seat_at table to) in
    let list : (w.seat from).desk.list ≡ (seat_at table from).desk.list = ap (λ (v : SeatView). v.desk.list) j.given in
    ap (λ (n : ℕ). shown ((joined w from to).seat n)) is ∙ taker_seat w from to i.back ∙ ap₂ (λ (xs : List Lifetime) (v : SeatView). gaining_seat xs v) list j.taken
    ∙ sym (get_or-set_same table.seats to gained (fresh_seat table.layout to) j.to_below)
    ∙ sym (get_or-set_other (slice_set table.seats to gained) from to (given_seat (seat_at table from)) (fresh_seat table.layout to) other)
    ∙ ap (seat_at (after_join table from to)) (sym is)
joined_shown table from to k r false false e f j =
    let w : World = r.world in
    let s : Shows table w = r.shows in
    let apart : k ≢ from = grind (arith, nat_tests) in
    let other : k ≢ to = grind (arith, nat_tests) in
    let gained : SeatView = gaining_seat (seat_at table from).desk.list (seat_at table to) in
    ap shown (other_seat w from to k e f) ∙ sym (shown_here w k (r.right k).here) ∙ s.seats k
    ∙ sym (get_or-set_other table.seats to k gained (fresh_seat table.layout k) other)
    ∙ sym (get_or-set_other (slice_set table.seats to gained) from k (given_seat (seat_at table from)) (fresh_seat table.layout k) apart)

-- the table shows it
pub join_reached : (table : TableView) (from to : ℕ) → IsReached table → from < table.layout.config.seats → to < table.layout.config.seats → (from == to) ≡ false → busy_in (seat_at table from).phase ≡ false → busy_in (seat_at table to).phase ≡ false → IsReached (after_join table from to)
join_reached table from to r l h apart b c =
    let w : World = r.world in
    let s : Shows table w = r.shows in
    let j : Joins table from to w = joins_of table from to r l h apart b c in
    let i : Idles w from to = j.idles in
    let gained : SeatView = gaining_seat (seat_at table from).desk.list (seat_at table to) in
    let right : (k : ℕ) → StaysIn (joined w from to) k = λ k. joined_right w from to k (k == from) (k == to) refl refl i (r.right k) in
    record {
      valid = r.valid;
      seats = length-set (slice_set table.seats to gained) from (given_seat (seat_at table from)) ∙ length-set table.seats to gained ∙ r.seats;
      world = joined w from to;
      known = inv_joins w from to i.from_free i.to_free i.apart (r.right from).here (r.right to).here r.known;
      shows = record {
        layout = s.layout;
        count = s.count;
        mem = s.mem;
        seats = λ k. shown_here (joined w from to) k (right k).here ∙ joined_shown table from to k r (k == from) (k == to) refl refl j;
      };
      right = right;
    }

-- and each life can be added
pub join_fits : (table : TableView) (from to : ℕ) → IsReached table → from < table.layout.config.seats → to < table.layout.config.seats → (from == to) ≡ false → busy_in (seat_at table from).phase ≡ false → busy_in (seat_at table to).phase ≡ false → MayMove table.layout table.seats from to
join_fits table from to r l h apart b c place life e =
    let w : World = r.world in
    let s : Shows table w = r.shows in
    let j : Joins table from to w = joins_of table from to r l h apart b c in
    let i : Idles w from to = j.idles in
    let own : List Lifetime = (seat_at table to).desk.list in
    let gift : List Lifetime = (seat_at table from).desk.list in
    let fits : Listing w.layout.config.slots ((w.seat to).desk.list ++ (w.seat from).desk.list) = joins_fit w from to i.from_free i.to_free i.apart (r.right from).here (r.right to).here r.known in
    let lists : (w.seat to).desk.list ++ (w.seat from).desk.list ≡ own ++ gift = ap₂ (λ (x y : SeatView). x.desk.list ++ y.desk.list) j.taken j.given in
    let apart : own ++ gift ≡ (own ++ take place gift) ++ life ∷ drop (suc place) gift = ap (λ (xs : List Lifetime). own ++ xs) (parts gift place life e) ∙ sym (append_assoc own (take place gift) (life ∷ drop (suc place) gift)) in
    let slots : w.layout.config.slots ≡ (seat_at table to).post.layout.config.slots = ap (λ (x : Layout). x.config.slots) (s.layout ∙ sym (layout_at table to r h)) in
    let adds : Adds (seat_at table to).post.layout.config.slots (own ++ take place gift) life = listing_adds (seat_at table to).post.layout.config.slots (own ++ take place gift) (drop (suc place) gift) life
    (subst (λ (n : ℕ). Listing n ((own ++ take place gift) ++ life ∷ drop (suc place) gift)) slots (subst (Listing w.layout.config.slots) (lists ∙ apart) fits)) in
    (adds.slot, adds.apart)

-- the same of a table with other place words, known by another name
pub record CanJoin (table : TableView) (from to : ℕ) : Type 0 where
  pub low : from < length table.seats
  pub high : to < length table.seats
  pub fits : MayMove table.layout table.seats from to
  pub few : (seat_at table from).post.layout.config.slots ≤ 65536
  pub reached : IsReached (bare (after_join table from to))

pub join_from : (table now : TableView) (from to : ℕ) → table ≡ now → IsReached (bare table) → from < now.layout.config.seats → to < now.layout.config.seats → (from == to) ≡ false
    → busy_in (seat_at now from).phase ≡ false → busy_in (seat_at now to).phase ≡ false → CanJoin table from to
join_from table now from to n r l h apart b c =
    let low : from < table.layout.config.seats = subst (λ (t : TableView). from < t.layout.config.seats) (sym n) l in
    let high : to < table.layout.config.seats = subst (λ (t : TableView). to < t.layout.config.seats) (sym n) h in
    let giver : busy_in (seat_at table from).phase ≡ false = subst (λ (t : TableView). busy_in (seat_at t from).phase ≡ false) (sym n) b in
    let taker : busy_in (seat_at table to).phase ≡ false = subst (λ (t : TableView). busy_in (seat_at t to).phase ≡ false) (sym n) c in
    let p : Parts table (seat_at table from) = parts_at table from r low giver in
    let bounds : Bounds (seat_at table from).post.layout.config = p.valid.bounds in
    record {
      low = subst (λ (n : ℕ). from < n) (sym r.seats) low;
      high = subst (λ (n : ℕ). to < n) (sym r.seats) high;
      fits = join_fits (bare table) from to r low high apart giver taker;
      few = bounds.slots.1;
      reached = join_reached (bare table) from to r low high apart giver taker;
    }
