use Rattle.wfe_words.proofs.Trips.{answered_value, life_value, pending_value}
use Rattle.wfe_words.proofs.laws.known_words.Goals as goal

pub returns : goal.returns
returns c = record { pending = pending_value; answered = answered_value; life = life_value }
