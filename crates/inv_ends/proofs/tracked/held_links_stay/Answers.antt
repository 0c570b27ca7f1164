use Rattle.inv_ends.proofs.Links.Tried.{tracked_tried, held_links_stay}
use Rattle.inv_ends.proofs.tracked.held_links_stay.Goals as goal

pub returns-clause-tried : goal.returns-clause-tried
returns-clause-tried c = tracked_tried

pub returns-clause-stay : goal.returns-clause-stay
returns-clause-stay c = held_links_stay
