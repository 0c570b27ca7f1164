use denote.RattleType.{RattleType}
use denote.Param.Send.{IsSend, IsSync}
use Rattle.wfe_c.specs.contracts.apart.Apart.{the_row}

pub sync : (T : RattleType) → IsSend T → IsSync (the_row T)
sync T s = record { shared = λ d b o κ. tt }
