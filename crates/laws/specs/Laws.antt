-- The laws of a record, all of them.
use Rattle.model_record.specs.Record.{Past, EachEntry}
use Rattle.wfe_words.specs.declared.config.Config.{Config}
use Rattle.laws.specs.AnswerLaw.{AnswerLaw}
use Rattle.laws.specs.EraLaw.{EraLaw}
use Rattle.laws.specs.Standing.{open_ok}
use Rattle.laws.specs.HoldLaw.{HoldLaw}
use Rattle.laws.specs.MapLaw.{MapLaw}
use Rattle.laws.specs.NoReuse.{NoReuse}
use Rattle.laws.specs.Once.{Once}
use Rattle.laws.specs.QueueLaw.{QueueLaw}
use Rattle.laws.specs.ScanLaw.{ScanLaw}
use Rattle.laws.specs.Standing.{Standing}
use Rattle.laws.specs.StepLaw.{StepLaw}

pub record Laws (config : Config) (r : Past) : Type 0 where
  -- calls begin where their seat is in none and has not left, and all else is told in a call
  pub calls : EachEntry open_ok r
  -- what seats clear, and at which indexes
  pub standing : Standing r
  -- no row is used again while it stands
  pub no_reuse : NoReuse r
  -- each row is given, linked, cut, retired and given back in this order, each retired row once at most
  pub once : Once config.slots r
  -- each scan keeps just the rows that something which it read keeps
  pub scans : ScanLaw config r
  -- the clock, lifetimes and reservations
  pub eras : EraLaw config r
  -- what stands is covered, and was there to be found
  pub holding : HoldLaw config r
  -- the n-th change of a bucket tells version n, and a get its key's value at a version current during its call
  pub map : MapLaw config.buckets r
  -- the n-th value queued has number n, and so has the n-th taken, which is that value and was queued before
  pub queue : QueueLaw r
  -- how many steps protections and calls take
  pub steps : StepLaw config r
  -- each answer with its cause
  pub answers : AnswerLaw config r
