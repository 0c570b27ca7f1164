use Rattle.law_printed.proofs.Kept.{given_of_version}
use Rattle.law_printed.proofs.lines_are_of_their_version.Goals as goal

pub returns : goal.returns
returns c = given_of_version
