-- What rows, queue, contents and links take of other parts.
use Rattle.std.proofs.Common.{ℕ, ◌≡◌, ◌<◌, ◌+◌, Bool, true, false, refl, sym, subst, arith}
use Rattle.inv_ends.specs.model.words.Place.Place.{Clock}
use Rattle.inv_ends.specs.model.Posts.{upper}
use Rattle.inv_ends.specs.model.Phases.{Base}
use Rattle.inv_ends.specs.model.Calls.{Task, Opens, Work, AfterScan, GiveBack, Phase, Runs, Scans, Works}
use Rattle.inv_ends.specs.model.World.{World, finds}
use Rattle.inv_ends.specs.model.words.Schemes.{is_wfe}
use Rattle.inv_ends.specs.shapes.Slots.{work_finds}
use Rattle.inv_ends.proofs.shapes.Decode.{clock_next}
use Rattle.inv_ends.proofs.shapes.Gives.{gives_walks, gives_births}
use Rattle.inv_ends.specs.requests.Views.{View as Asked}
use Rattle.inv_ends.proofs.requests.Falling.{needs_of}
use Rattle.inv_ends.specs.rows.Chain.{QueueNeeds}
use Rattle.inv_ends.specs.rows.Hands.{row_move}
use Rattle.inv_ends.specs.rows.Queue.{Line, stands_on}
use Rattle.inv_ends.specs.rows.Rows.{View}
use Rattle.inv_ends.specs.rows.Tries.{base_tries, WholeNeeds}
use Rattle.inv_ends.proofs.rows.Whole.{whole_needs}
use Rattle.inv_ends.specs.covers.Covers.{takes_or_frees, CoversNeeds}
use Rattle.inv_ends.specs.covers.Held.{under}
use Rattle.inv_all.specs.Contents.Contents.{ContentsNeeds}
use Rattle.inv_ends.specs.Handover.{HandoverNeeds, IsLeft, RowsLeft}
use Rattle.inv_ends.specs.Origins.{OriginsNeeds}
use Rattle.inv_ends.specs.Tracked.{carries_in, root_for, root_in, Tracked, Carried}
use Rattle.inv_ends.specs.Links.{LinksNeeds, LinksShow}
use Rattle.inv_all.specs.Contents.Stands.{nexts_in, read_index}
use Rattle.inv_all.specs.Contents.Items.{ItemsNeeds}
use Rattle.inv_all.proofs.Contents.Items.Gives.{last_number}
use Rattle.inv_all.proofs.Contents.Items.Finds.{work_finds_fit}
use Rattle.inv_ends.proofs.Handover.Kept.{rows_stay}
use Rattle.inv_ends.proofs.Links.Given.{links_give}
use Rattle.inv_ends.proofs.Links.Tried.{held_links_stay}
use Rattle.inv_all.specs.Known.{Known}
use Rattle.inv_all.proofs.Inv.Frees.{back_frees, back_apart, stands_settled, tried_under, tried_carried}
use Rattle.inv_all.proofs.Inv.Rows.{covers_need, roots_need}
use Rattle.inv_all.proofs.Inv.Shapes.{phase_tried}
use Rattle.inv_all.proofs.Inv.Tracks.{tracked_left}
use Rattle.inv_ends.proofs.Handover.Asks.{run_of}
use Rattle.inv_ends.proofs.model.Facts.{false_by, true_not_false}

pub covers_of : (w : World) (i : ℕ) (v : View) (l : Line) (z : Asked) → Known w v l z → CoversNeeds w i v
covers_of w i v l z a = covers_need w i v l a.valid a.seats a.eras a.whole.both

-- no step takes or frees the row of a link that is tracked
rows_left : (w : World) (i : ℕ) (v : View) (l : Line) (z : Asked) → is_wfe w.layout.config.scheme ≡ true → Known w v l z → RowsLeft w i v z.deal
rows_left w i v l z f a = rows_stay w i v z.deal (covers_of w i v l z a) a.scans a.held (a.helped f)

pub links_stay : (w : World) (i k s : ℕ) (v : View) (l : Line) (z : Asked) (wfe : Bool) → is_wfe w.layout.config.scheme ≡ wfe → Known w v l z → Tracked w z k (s + 1) → under v.status (root_in w k) ≡ true → IsLeft w i s
links_stay w i k s v l z true f a h u = tracked_left w i k s v z a.valid a.seats a.eras a.slots a.requests (rows_left w i v l z f a) h u
links_stay w i k s v l z false f a h u = held_links_stay w i k s v z f a.seats a.requests (covers_of w i v l z a) a.scans a.held h u

-- so no try leads to a row that is given back
tried : (w : World) (i k s : ℕ) (v : View) (l : Line) (z : Asked) (task : Task) (base : Base) → Known w v l z → (w.seat k).phase ≡ Runs (Opens task) base → base_tries (w.mem Clock) (upper (w.seat k).post.span) base s ≡ true → IsLeft w i s
tried w i k s v l z task base a o t =
    let c : carries_in (w.mem Clock) (upper (w.seat k).post.span) (w.seat k).phase (s + 1) ≡ true = subst (λ (y : Phase). carries_in (w.mem Clock) (upper (w.seat k).post.span) y (s + 1) ≡ true) (sym o) (tried_carried (w.mem Clock) (upper (w.seat k).post.span) base s t) in
    let u : under v.status (root_in w k) ≡ true = subst (λ (y : Phase). under v.status (root_for y) ≡ true) (sym o) (tried_under (w.mem Clock) (upper (w.seat k).post.span) v.status w.layout task base (w.seat k).post s (run_of w k (Opens task) base a.seats o) t) in
    links_stay w i k s v l z (is_wfe w.layout.config.scheme) refl a (Carried c) u

back_left : (w : World) (i : ℕ) (later : AfterScan) (place slot : ℕ) → (w.seat i).phase ≡ Scans later (GiveBack place slot) → IsLeft w i slot → ⊥
back_left w i later place slot e n = true_not_false (takes_or_frees (row_move (w.seat i).phase (w.seat i).post (finds w i)) slot) (back_frees w i later place slot e) n

pub origins_need : (w : World) (i : ℕ) (v : View) (l : Line) (z : Asked) → i < w.layout.config.seats → Known w v l z → OriginsNeeds w i z
origins_need w i v l z b a = record { valid = a.valid; below = b; seats = a.seats; eras = a.eras; needs = needs_of w a.slots; requests = a.requests }

pub links_show : (w : World) (i : ℕ) (v : View) (l : Line) (z : Asked) → i < w.layout.config.seats → Known w v l z → LinksShow w i v l
links_show w i v l z b a = links_give w i v l z (origins_need w i v l z b a) a.whole.both (λ s bucket e. a.contents.rows.root s bucket e) a.links

pub whole_need : (w : World) (i : ℕ) (v : View) (l : Line) (z : Asked) → i < w.layout.config.seats → Known w v l z → WholeNeeds w i v l
whole_need w i v l z b a =
    let s = links_show w i v l z b a in
    record {
      walks = λ why birth walk e. gives_walks w a.seats i why birth walk e;
      births = λ why birth slot e. let b = (gives_births w a.eras i why birth slot e).0 in omega arith;
      eras = λ k. phase_tried w.layout (w.mem Clock) (w.seat k).post (w.seat k).phase (a.eras.seats k).post.span (a.eras.seats k).phase;
      rises = (clock_next w i a.eras).rises;
      backs = λ later place slot k e. false_by (stands_on (w.seat k).phase slot) (λ t. back_apart w i k 0 v later place slot (covers_of w i v l z a) a.scans a.held e ((a.stands.stood k).queue slot t));
      untried = λ later place slot k task base e o. false_by (base_tries (w.mem Clock) (upper (w.seat k).post.span) base slot) (λ t. back_left w i later place slot e (tried w i k slot v l z task base a o t));
      answers = s.answers;
      asks = s.asks;
      heads = s.heads;
    }

pub contents_need : (w : World) (i : ℕ) (v : View) (l : Line) (z : Asked) → i < w.layout.config.seats → Known w v l z → ContentsNeeds w i v
contents_need w i v l z b a =
    let s = links_show w i v l z b a in
    record {
      valid = a.valid;
      shapes = a.seats;
      slots = a.slots;
      stood = λ k j s h. stands_settled w k j s v a.held h;
      held = λ k s h. stands_settled w k (read_index (w.seat k).phase) s v a.held ((a.stands.stood k).reads s h);
      gets = s.gets;
      changes = s.changes;
      holds = s.holds;
      last = λ kept slot e h. last_number w i v l kept slot a.whole.both a.items e h;
    }

pub finds_need : (w : World) (i : ℕ) (v : View) (l : Line) (z : Asked) (work : Work) → Known w v l z → (w.seat i).phase ≡ Works work → work_finds w.layout.config work (finds w i)
finds_need w i v l z work a e = work_finds_fit w i v l work a.whole.both a.items a.contents a.bounded (λ s h. stands_settled w i (read_index (w.seat i).phase) s v a.held ((a.stands.stood i).reads s h)) e

queue_need : (w : World) (i : ℕ) (v : View) (l : Line) (z : Asked) → i < w.layout.config.seats → Known w v l z → QueueNeeds w i v l
queue_need w i v l z b a = whole_needs w i v l (whole_need w i v l z b a) a.whole

pub items_need : (w : World) (i : ℕ) (v : View) (l : Line) (z : Asked) → i < w.layout.config.seats → Known w v l z → ItemsNeeds w i v l
items_need w i v l z b a = record {
  queue = queue_need w i v l z b a;
  contents = a.contents;
  slots = a.slots;
  backs = λ later place slot k e. false_by (nexts_in (w.seat k).phase slot) (λ t. back_apart w i k 1 v later place slot (covers_of w i v l z a) a.scans a.held e ((a.stands.stood k).nexts slot t));
}

pub links_need : (w : World) (i : ℕ) (v : View) (l : Line) (z : Asked) → i < w.layout.config.seats → Known w v l z → LinksNeeds w i v l z
links_need w i v l z b a = record {
  origins = origins_need w i v l z b a;
  both = a.whole.both;
  queue = queue_need w i v l z b a;
  linked = λ s bucket e. a.contents.rows.root s bucket e;
  stays = λ k s h u. links_stay w i k s v l z (is_wfe w.layout.config.scheme) refl a h u;
}

pub handover_need : (w : World) (i : ℕ) (v : View) (l : Line) (z : Asked) → i < w.layout.config.seats → Known w v l z → HandoverNeeds w i v z
handover_need w i v l z b a = record {
  valid = a.valid;
  below = b;
  seats = a.seats;
  eras = a.eras;
  slots = a.slots;
  requests = a.requests;
  parents = a.parents;
  rests = a.rests;
  covers = covers_of w i v l z a;
  scans = a.scans;
  roots = roots_need w v l a.valid a.eras a.whole.both;
}
