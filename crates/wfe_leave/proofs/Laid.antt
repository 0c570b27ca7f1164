-- Seats laid over those of the rig, one after the other.
use Rattle.std.proofs.Common.{List, [], ap, arith, length, refl, slice_set, true, false, ℕ, zero, suc, get_or, ◌<◌, ◌≡◌, ◌∷◌, Bool}
use Rattle.wfe_core.specs.Keep.{parting, parting_from, parting_index, parting_span}
use Rattle.wfe_core.specs.Locals.{busy_in}
use Rattle.wfe_core.specs.declared.post.Post.{Post}
use Rattle.wfe_core.specs.words.Schemes.{has_one_interval, publishes_rows}
use Rattle.wfe_core.specs.defs.declared.lifetime.Interval.{Interval}
use Rattle.wfe_core.specs.Posts.{standing_from}
use Rattle.wfe_core.specs.Rounds.{scheme_of}
use Rattle.std.specs.Prelude.{None, Option, Some, drop, if◌then◌else◌}
use Rattle.wfe_drive_cells.specs.Unit.{SeatView, bare_seat, may_adopt}
use Rattle.wfe_leave.specs.declared.part.Part.{Part}
use Rattle.wfe_leave.specs.declared.part.Part.TheVariants.{Marks, Over, Parts, Stays, Takes}
use Rattle.wfe_leave.specs.Parts.{laid, laid_seat, part_at}

pub laid_get : (parts : List Part) (views : List SeatView) (i : ℕ) (d : SeatView) → length parts ≡ length views → get_or (laid parts views) i d ≡ laid_seat (part_at parts i) (get_or views i d)
laid_get [] views i d e = refl
laid_get (part ∷ parts) [] i d e = absurd (omega (arith, e))
laid_get (part ∷ parts) (view ∷ views) zero d e = refl
laid_get (part ∷ parts) (view ∷ views) (suc i) d e = laid_get parts views i d (omega (arith, e))

pub laid_length : (parts : List Part) (views : List SeatView) → length parts ≡ length views → length (laid parts views) ≡ length views
laid_length [] views e = refl
laid_length (part ∷ parts) [] e = absurd (omega (arith, e))
laid_length (part ∷ parts) (view ∷ views) e = ap suc (laid_length parts views (omega (arith, e)))

-- a seat and its part change
pub laid_both : (parts : List Part) (views : List SeatView) (i : ℕ) (part : Part) (view : SeatView) → length parts ≡ length views → i < length parts → laid (slice_set parts i part) (slice_set views i view) ≡ slice_set (laid parts views) i (laid_seat part view)
laid_both [] views i part view e h = absurd (omega (arith, h))
laid_both (p ∷ parts) [] i part view e h = absurd (omega (arith, e))
laid_both (p ∷ parts) (v ∷ views) zero part view e h = refl
laid_both (p ∷ parts) (v ∷ views) (suc i) part view e h = ap (λ (l : List SeatView). laid_seat p v ∷ l) (laid_both parts views i part view (omega (arith, e)) (omega (arith, h)))

-- a seat of the rig changes
pub laid_view : (parts : List Part) (views : List SeatView) (i : ℕ) (view : SeatView) → laid parts (slice_set views i view) ≡ slice_set (laid parts views) i (laid_seat (part_at parts i) view)
laid_view [] views i view = refl
laid_view (p ∷ parts) [] i view = refl
laid_view (p ∷ parts) (v ∷ views) zero view = refl
laid_view (p ∷ parts) (v ∷ views) (suc i) view = ap (λ (l : List SeatView). laid_seat p v ∷ l) (laid_view parts views i view)

-- its part changes
pub laid_part : (parts : List Part) (views : List SeatView) (i : ℕ) (part : Part) (d : SeatView) → length parts ≡ length views → i < length parts → laid (slice_set parts i part) views ≡ slice_set (laid parts views) i (laid_seat part (get_or views i d))
laid_part [] views i part d e h = absurd (omega (arith, h))
laid_part (p ∷ parts) [] i part d e h = absurd (omega (arith, e))
laid_part (p ∷ parts) (v ∷ views) zero part d e h = refl
laid_part (p ∷ parts) (v ∷ views) (suc i) part d e h = ap (λ (l : List SeatView). laid_seat p v ∷ l) (laid_part parts views i part d (omega (arith, e)) (omega (arith, h)))

-- no part changes a list
pub laid_list : (part : Part) (v : SeatView) → (laid_seat part v).desk.list ≡ v.desk.list
laid_list Stays v = refl
laid_list (Parts steps) v = refl
laid_list (Takes place) v = refl
laid_list (Marks place count) v = refl
laid_list (Over steps left) v = refl

pub laid_gift : (part : Part) (v : SeatView) → (laid_seat part v).desk.gift ≡ v.desk.gift
laid_gift Stays v = refl
laid_gift (Parts steps) v = refl
laid_gift (Takes place) v = refl
laid_gift (Marks place count) v = refl
laid_gift (Over steps left) v = refl

pub laid_layout : (part : Part) (v : SeatView) → (laid_seat part v).post.layout ≡ v.post.layout
laid_layout Stays v = refl
laid_layout (Parts steps) v = refl
laid_layout (Takes place) v = refl
laid_layout (Marks place count) v = refl
laid_layout (Over steps left) v = refl

pub laid_number : (part : Part) (v : SeatView) → (laid_seat part v).post.seat ≡ v.post.seat
laid_number Stays v = refl
laid_number (Parts steps) v = refl
laid_number (Takes place) v = refl
laid_number (Marks place count) v = refl
laid_number (Over steps left) v = refl

pub laid_bare : (part : Part) (v : SeatView) → laid_seat part (bare_seat v) ≡ bare_seat (laid_seat part v)
laid_bare Stays v = refl
laid_bare (Parts steps) v = refl
laid_bare (Takes place) v = refl
laid_bare (Marks place count) v = refl
laid_bare (Over steps left) v = refl

-- a seat that leaves has a step to make, which takes over no list
index_busy : (rows : Bool) (x : Option ℕ) → busy_in (parting_index rows x) ≡ true
index_busy rows None = refl
index_busy rows (Some index) = refl

span_busy : (x : Option Interval) → busy_in (parting_span x) ≡ true
span_busy None = refl
span_busy (Some span) = refl

pub parting_busy : (post : Post) → busy_in (parting post) ≡ true
parting_busy post = by_scheme (has_one_interval (scheme_of post))
  where
    by_scheme : (x : Bool) → busy_in (if x then parting_span post.span else parting_from 2 post) ≡ true
    by_scheme true = span_busy post.span
    by_scheme false = index_busy (publishes_rows (scheme_of post)) (standing_from 2 (drop 2 post.standing))

index_adopts : (rows : Bool) (x : Option ℕ) → may_adopt (parting_index rows x) ≡ false
index_adopts rows None = refl
index_adopts rows (Some index) = refl

span_adopts : (x : Option Interval) → may_adopt (parting_span x) ≡ false
span_adopts None = refl
span_adopts (Some span) = refl

pub parting_adopts : (post : Post) → may_adopt (parting post) ≡ false
parting_adopts post = by_scheme (has_one_interval (scheme_of post))
  where
    by_scheme : (x : Bool) → may_adopt (if x then parting_span post.span else parting_from 2 post) ≡ false
    by_scheme true = span_adopts post.span
    by_scheme false = index_adopts (publishes_rows (scheme_of post)) (standing_from 2 (drop 2 post.standing))
