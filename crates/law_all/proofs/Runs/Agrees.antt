-- What the answers of all calls say agrees with the record.
use Rattle.law_all.specs.Runs.{RunsAgree}
use Rattle.law_all.proofs.Runs.Answered.{answered}
use Rattle.law_all.proofs.Runs.Queues.{empty, queue, taken_first}
use Rattle.law_all.proofs.Runs.Readings.{reads}
use Rattle.law_all.proofs.Runs.Rises.{queued_rise, rises, taken_rise}

pub runs_agree : RunsAgree
runs_agree layout items rest = record {
  answered = answered layout items rest;
  reads = reads layout items rest;
  rises = rises layout items rest;
  queue = queue layout items rest;
  queued_rise = queued_rise layout items rest;
  taken_rise = taken_rise layout items rest;
  taken_first = taken_first layout items rest;
  empty = empty layout items rest;
}
