-- How a round ends, as the model's.
use Rattle.wfe_core.specs.defs.declared.call.ClockMove.TheVariants.{Still}
use Rattle.wfe_core.specs.Calls.{Again, Answering, MakeRoom, Next, Retiring}
use Rattle.wfe_core.specs.Rounds.{with_clock}
use Rattle.wfe_call_rounds.specs.declared.ending.RoundEnd.{RoundEnd}
use Rattle.wfe_call_rounds.specs.declared.ending.RoundEnd.TheVariants as round_ends

-- what comes once the round's protection is cleared; after a retirement the answer has the clock still, until it is known how it moved
abbrev pub next_of : RoundEnd → Next
next_of round_ends.Again = Again
next_of round_ends.MakeRoom = MakeRoom
next_of (round_ends.Answers answer) = Answering answer
next_of (round_ends.Retires slot answer) = Retiring slot (with_clock answer Still)
