-- A move of the clock answers first: no request that it has seen pending is still pending when it exchanges the clock.
use Rattle.std.specs.Prelude.{ℕ, ◌≡◌, ◌<◌, ◌==◌, ◌&&◌, ◌||◌, nat_lt, Bool, true, false, if◌then◌else◌, Option, Some, None}
use Rattle.inv_rows.specs.words.Packed.{read_request}
use Rattle.inv_rows.specs.words.Place.{is_valid}
use Rattle.inv_rows.specs.words.declared.layout.Layout.{Layout}
use Rattle.inv_rows.specs.words.declared.packed.Request.{Request}
use Rattle.inv_rows.specs.words.declared.packed.Request.TheVariants as requests
use Rattle.inv_rows.specs.defs.declared.call.Call.{Call}
use Rattle.inv_rows.specs.model.Memory.{upd}
use Rattle.inv_rows.specs.model.Posts.{tag_of}
use Rattle.inv_rows.specs.model.Phases.{MoveAt, Base}
use Rattle.inv_rows.specs.model.Phases.MoveAt.{LoadEra, LoadRequest, ShowEra, LoadAsked, CheckEra, AnswerAsked, LoadReserved, HandOver, HideEra, HideLate, ExchangeClock}
use Rattle.inv_rows.specs.model.Phases.Base.{Move}
use Rattle.inv_rows.specs.model.Calls.{Why, Phase, Runs}
use Rattle.inv_rows.specs.model.World.{World, start, step, begin, finds}
use Rattle.inv_rows.specs.Shapes.Seats.{Seats}
use Rattle.inv_rows.specs.Covering.Requests.Needs.{Needs}
use Rattle.inv_rows.specs.Covering.Requests.NextDeals.{next_deals}
use Rattle.inv_rows.specs.Covering.Requests.Standing.{Requests}
use Rattle.inv_rows.specs.Covering.Requests.Views.{View, Deal}
use Rattle.inv_rows.specs.Covering.Requests.Views.Deal.{Quiet, Open, Answered, Passed, Taken}

-- the request of this tag and index is pending
abbrev pub open_at : ℕ → ℕ → Deal → Bool
open_at t j Quiet = false
open_at t j (Open tag index word) = (tag == t) && (index == j)
open_at t j (Answered tag index word link era by) = false
open_at t j (Passed tag index word link era) = false
open_at t j (Taken tag index word link era) = false

-- it has an answer, which is not taken yet
abbrev pub done_at : ℕ → ℕ → Deal → Bool
done_at t j Quiet = false
done_at t j (Open tag index word) = false
done_at t j (Answered tag index word link era by) = (tag == t) && (index == j)
done_at t j (Passed tag index word link era) = (tag == t) && (index == j)
done_at t j (Taken tag index word link era) = false

-- the request of seat k of this tag and index is over: it has an answer, or the tag of the index has risen
abbrev pub over_in : World → (ℕ → Deal) → ℕ → ℕ → ℕ → Bool
over_in w deals k t j = nat_lt t (tag_of (w.seat k).post j) || done_at t j (deals k)

-- a request word is that of a pending request of this tag and index
abbrev pub met_of : Option Request → ℕ → ℕ → Bool
met_of (Some (requests.Pending tag index word)) t j = (tag == t) && (index == j)
met_of (Some (requests.Answered link era)) t j = false
met_of (Some requests.Idle) t j = false
met_of None t j = false

-- the requests that a mover has seen pending, by seat, tag and index, after a step that found this: none where it loads its
-- era, and at a seat's request word the one that it found there
abbrev pub met_at : MoveAt → ℕ → (ℕ → ℕ → ℕ → Bool) → ℕ → ℕ → ℕ → Bool
met_at (LoadEra helps) found met k t j = false
met_at (LoadRequest era seat shows) found met k t j = if k == seat then met_of (read_request found) t j else met k t j
met_at at found met k t j = met k t j

abbrev pub met_base : Base → ℕ → (ℕ → ℕ → ℕ → Bool) → ℕ → ℕ → ℕ → Bool
met_base (Move at) found met k t j = met_at at found met k t j
met_base base found met k t j = met k t j

abbrev pub met_in : Phase → ℕ → (ℕ → ℕ → ℕ → Bool) → ℕ → ℕ → ℕ → Bool
met_in (Runs why base) found met k t j = met_base base found met k t j
met_in phase found met k t j = met k t j

-- by mover, after a step of seat i
abbrev pub met_after : World → ℕ → (ℕ → ℕ → ℕ → ℕ → Bool) → ℕ → ℕ → ℕ → ℕ → Bool
met_after w i met = upd met i (met_in (w.seat i).phase (finds w i) (met i))

-- each request that was seen pending at a seat before this one is over
abbrev pub Past : (ℕ → ℕ → ℕ → Bool) → (ℕ → ℕ → ℕ → Bool) → ℕ → Type 0
Past over met upto = (k t j : ℕ) → k < upto → met k t j ≡ true → over k t j ≡ true

-- the same while a request of this seat is answered, the one that was seen there
pub record AtRequest (over met : ℕ → ℕ → ℕ → Bool) (seat tag index : ℕ) : Type 0 where
  pub before : Past over met seat
  pub tags : (t j : ℕ) → met seat t j ≡ true → tag ≡ t
  pub indexes : (t j : ℕ) → met seat t j ≡ true → index ≡ j

abbrev pub MoveMet : (ℕ → ℕ → ℕ → Bool) → (ℕ → ℕ → ℕ → Bool) → ℕ → MoveAt → Type 0
MoveMet over met seats (LoadEra helps) = Unit {0}
MoveMet over met seats (LoadRequest era seat shows) = Past over met seat
MoveMet over met seats (ShowEra era seat tag index root) = AtRequest over met seat tag index
MoveMet over met seats (LoadAsked era seat tag index root) = AtRequest over met seat tag index
MoveMet over met seats (CheckEra era seat tag index root link) = AtRequest over met seat tag index
MoveMet over met seats (AnswerAsked era seat tag index root link) = AtRequest over met seat tag index
MoveMet over met seats (LoadReserved era seat tag index root link) = AtRequest over met seat tag index
MoveMet over met seats (HandOver era seat tag index root link old) = AtRequest over met seat tag index
MoveMet over met seats (HideEra era) = Past over met seats
MoveMet over met seats (HideLate seen) = Unit {0}
MoveMet over met seats (ExchangeClock era) = Past over met seats

abbrev pub BaseMet : (ℕ → ℕ → ℕ → Bool) → (ℕ → ℕ → ℕ → Bool) → ℕ → Base → Type 0
BaseMet over met seats (Move at) = MoveMet over met seats at
BaseMet over met seats base = Unit {0}

abbrev pub PhaseMet : (ℕ → ℕ → ℕ → Bool) → (ℕ → ℕ → ℕ → Bool) → ℕ → Phase → Type 0
PhaseMet over met seats (Runs why base) = BaseMet over met seats base
PhaseMet over met seats phase = Unit {0}

-- what each mover of the clock has seen pending and has passed is over
pub record Meeting (w : World) (deals : ℕ → Deal) (met : ℕ → ℕ → ℕ → ℕ → Bool) : Type 0 where
  pub movers : (i : ℕ) → PhaseMet (over_in w deals) (met i) w.layout.config.seats (w.seat i).phase

abbrev pub MeetingStart : Type 0
MeetingStart = (layout : Layout) (deals : ℕ → Deal) (met : ℕ → ℕ → ℕ → ℕ → Bool) → Meeting (start layout) deals met

abbrev pub MeetingBegin : Type 0
MeetingBegin =
    (w : World) (i : ℕ) (call : Call) (deals : ℕ → Deal) (met : ℕ → ℕ → ℕ → ℕ → Bool)
    → is_valid w.layout ≡ true
    → Seats w
    → Meeting w deals met
    → Meeting (begin w i call) deals met

-- what a step takes of other parts: a table that there may be, one of its seats, the shape of seats, that links are in
-- range, and requests with their deals
pub record MeetingNeeds (w : World) (i : ℕ) (z : View) : Type 0 where
  pub valid : is_valid w.layout ≡ true
  pub below : i < w.layout.config.seats
  pub seats : Seats w
  pub links : Needs w
  pub requests : Requests w z

abbrev pub MeetingKept : Type 0
MeetingKept =
    (w : World) (i : ℕ) (z : View) (met : ℕ → ℕ → ℕ → ℕ → Bool)
    → MeetingNeeds w i z
    → Meeting w z.deal met
    → Meeting (step w i) (next_deals w i z.deal) (met_after w i met)

-- what a step sees pending is pending then
abbrev pub MetOpen : Type 0
MetOpen =
    (w : World) (i k t j : ℕ) (z : View) (met : ℕ → ℕ → ℕ → ℕ → Bool)
    → MeetingNeeds w i z
    → met i k t j ≡ false
    → met_after w i met i k t j ≡ true
    → open_at t j (z.deal k) ≡ true

-- where a mover comes to exchange the clock, no request that it has seen pending is pending any more
abbrev pub MetAnswered : Type 0
MetAnswered =
    (w : World) (i k t j era : ℕ) (why : Why) (z : View) (met : ℕ → ℕ → ℕ → ℕ → Bool)
    → Requests w z
    → Meeting w z.deal met
    → (w.seat i).phase ≡ Runs why (Move (ExchangeClock era))
    → k < w.layout.config.seats
    → met i k t j ≡ true
    → open_at t j (z.deal k) ≡ false
