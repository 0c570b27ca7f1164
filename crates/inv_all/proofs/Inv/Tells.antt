-- What the invariant says of a step: what it tells is right, and it leaves the rows that stand.
use Rattle.inv_ends.specs.model.Calls.{StoreHeld}
use Rattle.inv_ends.specs.model.words.Place.Place.{Index}
use Rattle.inv_ends.specs.model.words.Schemes.{publishes_rows}
use Rattle.inv_ends.proofs.covers.Begun.{standing_stays}
use Rattle.inv_ends.proofs.requests.Known.{copying}
use Rattle.inv_all.proofs.Contents.Contents.Kept.{contents_looked, contents_told}
use Rattle.inv_all.proofs.Contents.Items.Gives.{items_told, items_count, empty_right}
use Rattle.inv_ends.proofs.requests.Falling.{moves_on, needs_of}
use Rattle.inv_ends.proofs.requests.Paced.{in_time}
use Rattle.inv_ends.proofs.requests.Pending.{pending}
use Rattle.inv_all.proofs.Contents.Contents.Buckets.{buckets_show}
use Rattle.inv_all.specs.Shows.{InvTimes, InvShows}
use Rattle.inv_all.specs.Inv.{InvCopies, InvTells, InvStays}
use Rattle.inv_all.proofs.Inv.Guards.{copied_shows}
use Rattle.inv_all.proofs.Inv.Rows.{rows_need}
use Rattle.inv_all.proofs.Inv.Shapes.{keep_fits}
use Rattle.inv_all.proofs.Inv.Whole.{covers_of, contents_need}

pub inv_tells : InvTells
inv_tells w i b a =
    let k = a.known in
    record {
      map = contents_told w i a.rows (rows_need w i a.rows a.line k.seats k.eras k.whole.both) (contents_need w i a.rows a.line a.asked b k) k.whole.both.rows k.contents;
      queue = items_told w i a.rows a.line k.whole.both k.items;
      looks = λ index key at slot version value e o. contents_looked w i a.rows index key at slot version value (contents_need w i a.rows a.line a.asked b k) k.contents e o;
    }

pub inv_copies : InvCopies
inv_copies w k from index era a e =
    let t = a.known in
    let f = keep_fits w k (StoreHeld from index era) t.seats e in
    record { publishes = copied_shows (publishes_rows w.layout.config.scheme) k from (w.mem (Index k from)) era ((copying w a.asked k t.valid t.requests t.hazards).publishes from index era e); stands = f.kept }

pub inv_stays : InvStays
inv_stays w i k j s a e =
    let t = a.known in
    record { held = t.held.stood k j s e; stays = standing_stays w i k j s a.rows (covers_of w i a.rows a.line a.asked t) t.scans t.held e }

pub inv_times : InvTimes
inv_times w k b a =
    let t = a.known in
    record { protects = in_time w k t.seats t.paces; moves = moves_on w k t.valid t.seats; pending = pending w a.asked k t.valid b t.seats (needs_of w t.slots) t.requests }

pub inv_shows : InvShows
inv_shows w a =
    let t = a.known in
    record {
      buckets = λ b. buckets_show w a.rows b t.whole.both.rows t.contents;
      counts = items_count w a.rows a.line t.whole.both t.items;
      empty = λ h e q. empty_right w a.rows a.line h t.whole.both t.items e q;
    }
