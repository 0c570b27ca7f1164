-- What calls of all seats tell adds up to what the record has.
use Rattle.law_all.specs.Runs.{RunsAddUp}
use Rattle.law_all.proofs.Runs.Changes.{changes_add_up}
use Rattle.law_all.proofs.Runs.Moves.{eras_add_up}
use Rattle.law_all.proofs.Runs.Rows.{rows_add_up}
use Rattle.law_all.proofs.Runs.Values.{queued_add_up, taken_add_up}

pub runs_add_up : RunsAddUp
runs_add_up layout items a = record {
  changes = λ b version low. changes_add_up layout items b version a;
  queued = λ number. queued_add_up layout items number a;
  taken = λ number. taken_add_up layout items number a;
  eras = λ era. eras_add_up layout items era a;
  rows = λ slot low. rows_add_up layout items slot a;
}
