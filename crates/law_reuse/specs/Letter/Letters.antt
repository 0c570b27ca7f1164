-- The laws follow from what each history keeps.
use Rattle.std.specs.Prelude.{◌≡◌, ◌<◌, true}
use Rattle.laws.specs.Histories.{Histories}
use Rattle.laws.specs.HistoryTurns.{OpenLaw}
use Rattle.laws.specs.Laws.{Laws}
use Rattle.laws.specs.MapLaw.{MapLaw}
use Rattle.laws.specs.QueueLaw.{queue_ok}
use Rattle.laws.specs.ScanLaw.{guards}
use Rattle.laws.specs.StepLaw.{tries_ok}
use Rattle.laws.specs.StepLaw.{withdraw_ok}
use Rattle.laws.specs.records.Record.{Past, EachEntry}
use Rattle.laws.specs.records.Turns.{History}
use Rattle.laws.specs.words.Schemes.{is_he}
use Rattle.laws.specs.words.declared.config.Config.{Config}

-- what is proved of the record and the turns of each history
pub record Kept (config : Config) (history : History) (r : Past) : Type 0 where
  -- the table has a guard
  pub guarded : 0 < guards config
  pub calls : OpenLaw r
  pub map : MapLaw config.buckets r
  pub values : EachEntry queue_ok r
  pub withdrawals : EachEntry withdraw_ok r
  pub tries : is_he config.scheme ≡ true → EachEntry tries_ok r
  pub histories : Histories config history r

-- a record that keeps all of it keeps the laws
abbrev pub LawsFollow : Type 0
LawsFollow = (config : Config) (history : History) (r : Past) → Kept config history r → Laws config r
