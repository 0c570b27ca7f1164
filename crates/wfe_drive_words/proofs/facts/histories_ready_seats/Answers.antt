use Rattle.wfe_drive_words.proofs.Histories.{may_ask, may_take, settles}
use Rattle.wfe_drive_words.proofs.facts.histories_ready_seats.Goals as goal

pub returns : goal.returns
returns c = record { asks = may_ask; takes = may_take; settles = settles }
