use Rattle.inv_ends.proofs.Handover.Back.{followed_rows_stand}
use Rattle.inv_ends.proofs.parents_of_links_stand.Goals as goal

pub returns : goal.returns
returns c = followed_rows_stand
