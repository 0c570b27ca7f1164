-- While a request is pending the clock can't run past it.
use Rattle.std.specs.Prelude.{ℕ, ◌≡◌, ◌≤◌, ◌+◌, Option, Some, None}
use Rattle.inv_rows.specs.words.Place.Place.{Clock, Request}
use Rattle.inv_rows.specs.defs.declared.event.Root.{Root}
use Rattle.inv_rows.specs.model.SlowPath.{own_request}
use Rattle.inv_rows.specs.model.Phases.{Aim, ProtectAt, MoveAt}
use Rattle.inv_rows.specs.model.Phases.ProtectAt.{LoadClock, PublishEra, LoadLink, CheckClock, PublishRequest, LoadOwnClock, PublishHelper, LoadOwnLink, CheckOwnClock, AnswerOwn, LoadAnswer, TakeAnswer, WithdrawRequest, WithdrawHelper, LoadWithin, CheckUpper, RaiseUpper, ByHazard}
use Rattle.inv_rows.specs.model.Phases.MoveAt.{LoadEra, LoadRequest, ShowEra, LoadAsked, CheckEra, AnswerAsked, LoadReserved, HandOver, HideEra, HideLate, ExchangeClock}
use Rattle.inv_rows.specs.model.Phases.Base.{Protect, Move}
use Rattle.inv_rows.specs.model.Calls.{Why, Runs}
use Rattle.inv_rows.specs.model.World.{World}

-- the first clock value that the owner loaded after it published its request, in its own turns
abbrev pub first_in : ProtectAt → Option ℕ
first_in (LoadClock tries) = None
first_in (PublishEra era tries) = None
first_in (LoadLink era tries) = None
first_in (CheckClock era tries link) = None
first_in PublishRequest = None
first_in LoadOwnClock = None
first_in (PublishHelper first era last) = Some first
first_in (LoadOwnLink first era last) = Some first
first_in (CheckOwnClock first era last link) = Some first
first_in (AnswerOwn first era link) = Some first
first_in (LoadAnswer first) = None
first_in (TakeAnswer link era) = None
first_in (WithdrawRequest link era) = None
first_in (WithdrawHelper link era) = None
first_in LoadWithin = None
first_in (CheckUpper link) = None
first_in (RaiseUpper era) = None
first_in (ByHazard at) = None

-- the era from which a mover moves the clock
abbrev pub era_in : MoveAt → Option ℕ
era_in (LoadEra helps) = None
era_in (LoadRequest era seat shows) = Some era
era_in (ShowEra era seat tag index root) = Some era
era_in (LoadAsked era seat tag index root) = Some era
era_in (CheckEra era seat tag index root link) = Some era
era_in (AnswerAsked era seat tag index root link) = Some era
era_in (LoadReserved era seat tag index root link) = Some era
era_in (HandOver era seat tag index root link old) = Some era
era_in (HideEra era) = Some era
era_in (HideLate seen) = None
era_in (ExchangeClock era) = Some era

-- the seat whose request it is at; once all were met, the number of seats
abbrev pub seat_in : ℕ → MoveAt → ℕ
seat_in seats (LoadEra helps) = seats
seat_in seats (LoadRequest era seat shows) = seat
seat_in seats (ShowEra era seat tag index root) = seat
seat_in seats (LoadAsked era seat tag index root) = seat
seat_in seats (CheckEra era seat tag index root link) = seat
seat_in seats (AnswerAsked era seat tag index root link) = seat
seat_in seats (LoadReserved era seat tag index root link) = seat
seat_in seats (HandOver era seat tag index root link old) = seat
seat_in seats at = seats

-- while the request of seat k is pending in its own turns the clock is at most one above the first value that it loaded,
-- and no mover from the value one above has passed the request
pub record Pending (w : World) (k : ℕ) : Type 0 where
  pub bound : (why : Why) (aim : Aim) (index : ℕ) (root : Root) (steps : ℕ) (at : ProtectAt) (first : ℕ) → (w.seat k).phase ≡ Runs why (Protect aim index root steps at) → first_in at ≡ Some first
      → w.mem (Request k) ≡ own_request (w.seat k).post index root → w.mem Clock ≤ first + 1
  pub passed : (why : Why) (aim : Aim) (index : ℕ) (root : Root) (steps : ℕ) (at : ProtectAt) (first : ℕ) → (w.seat k).phase ≡ Runs why (Protect aim index root steps at) → first_in at ≡ Some first
      → w.mem (Request k) ≡ own_request (w.seat k).post index root
      → (m : ℕ) (why' : Why) (move : MoveAt) → (w.seat m).phase ≡ Runs why' (Move move) → era_in move ≡ Some (first + 1) → seat_in w.layout.config.seats move ≤ k
