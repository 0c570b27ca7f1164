use Rattle.law_held.proofs.Roots.Linking as linking
use Rattle.law_held.proofs.records_link_held.Goals as goal

pub returns : goal.returns
returns c = linking.records_link_held
