use Rattle.law_printed.proofs.Told.{records_are_of}
use Rattle.law_printed.proofs.versions.records_are_of_their_version.Goals as goal

pub returns : goal.returns
returns c = records_are_of
