-- No step reuses a row that stands.
use Rattle.inv_all.specs.model.Posts.{counted}
use Rattle.inv_all.specs.model.World.{finds, offered}
use Rattle.inv_all.specs.history.History.{world_of}
use Rattle.inv_all.proofs.Inv.Reached.{inv_reached}
use Rattle.inv_all.proofs.Inv.Tells.{inv_stays}
use Rattle.law_reuse.specs.Reuse.{NoReuse, NeverReused}
use Rattle.law_reuse.proofs.Reuse.Told.{told_free}

pub no_reuse : NoReuse
no_reuse w i k j s a e = let t = inv_stays w i k j s a e in told_free s (w.seat i).phase (w.seat i).post (counted (w.seat i).post) (offered w i).desk (finds w i) t.stays

pub never_reused : NeverReused
never_reused layout items i k j s d e = no_reuse (world_of layout items) i k j s (inv_reached layout items d) e
