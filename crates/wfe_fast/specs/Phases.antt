-- Where a protection of Wait-Free Eras stands, as a phase of the model.
use Rattle.std.specs.Prelude.{ℕ, Bool}
use Rattle.wfe_core.specs.Phases.{Alone, Failed, ProtectAt, Base}
use Rattle.wfe_core.specs.Phases.Base.{Protect}
use Rattle.wfe_core.specs.Phases.ProtectAt.{LoadClock, PublishEra, LoadLink, CheckClock, PublishRequest, LoadOwnClock, PublishHelper, LoadOwnLink, CheckOwnClock, AnswerOwn, LoadAnswer, TakeAnswer, WithdrawRequest, WithdrawHelper}
use Rattle.wfe_fast.specs.declared.protect.WfeProtect.{WfeProtect}
use Rattle.wfe_fast.specs.declared.own_turn.OwnTurn.{OwnTurn}
use Rattle.wfe_fast.specs.declared.own_turn.TurnAt.{TurnAt}
use Rattle.wfe_fast.specs.declared.own_turn.TurnAt.TheVariants as turns
use Rattle.wfe_fast.specs.declared.protect.At.{At}
use Rattle.wfe_fast.specs.declared.protect.At.TheVariants as ats

-- a step of a turn
abbrev pub turn_by : (first era : ℕ) (last : Bool) → TurnAt → ProtectAt
turn_by first era last turns.PublishHelper = PublishHelper first era last
turn_by first era last turns.LoadOwnLink = LoadOwnLink first era last
turn_by first era last (turns.CheckOwnClock link) = CheckOwnClock first era last link
turn_by first era last (turns.AnswerOwn link) = AnswerOwn first era link

abbrev pub turn_of : OwnTurn → ProtectAt
turn_of turn = turn_by turn.first turn.era turn.last turn.at

abbrev pub at_of : At → ProtectAt
at_of ats.LoadClock = LoadClock (Failed 0)
at_of (ats.PublishEra era failed) = PublishEra era (Failed failed)
at_of (ats.LoadLink era failed) = LoadLink era (Failed failed)
at_of (ats.CheckClock era failed link) = CheckClock era (Failed failed) link
at_of ats.PublishRequest = PublishRequest
at_of ats.LoadOwnClock = LoadOwnClock
at_of (ats.Turn turn) = turn_of turn
at_of (ats.LoadAnswer first) = LoadAnswer first
at_of (ats.TakeAnswer link era) = TakeAnswer link era
at_of (ats.WithdrawRequest link era) = WithdrawRequest link era
at_of (ats.WithdrawHelper link era) = WithdrawHelper link era

abbrev pub protect_phase : WfeProtect → Base
protect_phase m = Protect Alone m.index m.root m.steps (at_of m.at)
