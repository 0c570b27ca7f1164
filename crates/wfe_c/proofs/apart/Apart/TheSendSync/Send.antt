use denote.RattleType.{RattleType}
use denote.Param.Send.{IsSend}
use Rattle.wfe_c.specs.contracts.apart.Apart.{the_row}

pub send : (T : RattleType) → IsSend T → IsSend (the_row T)
send T s = record { owned = λ d vs. ((λ _. tt), λ vss. (tt, (s.owned d vss.0, tt))); leaving = λ k d w. tt }
