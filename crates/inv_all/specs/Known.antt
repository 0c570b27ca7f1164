-- All that is known of a World between two steps: the parts of the invariant, each over the view that it needs.
use Rattle.std.specs.Prelude.{◌≡◌, true}
use Rattle.inv_ends.specs.model.words.Place.{is_valid}
use Rattle.inv_ends.specs.model.World.{World}
use Rattle.inv_ends.specs.shapes.Eras.{Eras}
use Rattle.inv_ends.specs.shapes.Noted.{Noted}
use Rattle.inv_ends.specs.model.words.Schemes.{helps}
use Rattle.inv_ends.specs.shapes.Seats.{Seats}
use Rattle.inv_ends.specs.shapes.Slots.{Slots}
use Rattle.inv_ends.specs.requests.Hazards.{Hazards}
use Rattle.inv_ends.specs.requests.Paces.{Paces}
use Rattle.inv_ends.specs.requests.Parents.{Parents}
use Rattle.inv_ends.specs.requests.Standing.{Requests}
use Rattle.inv_ends.specs.requests.Views.{View as Asked}
use Rattle.inv_ends.specs.rows.Queue.{Line}
use Rattle.inv_ends.specs.rows.Rows.{View}
use Rattle.inv_ends.specs.rows.Tries.{Whole}
use Rattle.inv_ends.specs.covers.Covers.{Scanning}
use Rattle.inv_ends.specs.covers.Held.{Held}
use Rattle.inv_ends.specs.covers.Rests.{Rests}
use Rattle.inv_ends.specs.Helped.{Helped}
use Rattle.inv_ends.specs.Links.{Links}
use Rattle.inv_all.specs.Contents.Contents.{Contents}
use Rattle.inv_all.specs.Contents.Stands.{Stands}
use Rattle.inv_all.specs.Contents.Bounded.{Bounded}
use Rattle.inv_all.specs.Contents.Items.{Items}
use Rattle.inv_ends.specs.Losses.{Losses}
use Rattle.inv_all.specs.Rounds.{Rounds}

-- `v` are the rows, `l` what no word shows of the queue, and `z` the requests
pub record Known (w : World) (v : View) (l : Line) (z : Asked) : Type 0 where
  -- the table's setting is valid
  pub valid : is_valid w.layout ≡ true
  -- each seat's post and phase have the shape that scheme and call give
  pub seats : Seats w
  -- words decode, and no era is above the clock
  pub eras : Eras w
  -- links and slots are in range
  pub slots : Slots w
  -- a call has sent back no more rows than it may
  pub noted : Noted w
  -- a protection has made no more steps than it may
  pub paces : Paces w
  -- a row whose next link is followed stands
  pub parents : Parents w
  -- where rows are published, an index word has the link that is to be loaded again, or copied
  pub hazards : Hazards w
  -- requests, helping, hand-over and tags
  pub requests : Requests w z
  -- rows and the queue
  pub whole : Whole w v l
  -- what a scan gives back meets nothing that it read
  pub scans : Scanning w
  -- nothing stands where a guard is about to publish something else
  pub rests : Rests w
  -- what stands is covered, and so is what a try has loaded
  pub held : Held w v
  -- under Wait-Free Eras so are the rows of requests, from the load of the link to the taking of the answer
  pub helped : helps w.layout.config.scheme ≡ true → Helped w v z.deal
  -- a link that a protection may end with is one of its root
  pub links : Links w v l z
  -- what rows of the map show, and what calls know of it
  pub contents : Contents w v
  -- versions and numbers of pairs are in range
  pub bounded : Bounded w
  -- the rows that a call works on stand
  pub stands : Stands w
  -- what rows of the queue show, and what calls know of it
  pub items : Items w v l
  -- a call has lost no more rounds than its task may lose
  pub losses : Losses w
  -- and no more than its bucket or the queue was changed
  pub rounds : Rounds w l z
