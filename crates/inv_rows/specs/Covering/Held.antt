-- What guards hold: what stands at an index, and what a try has loaded while its era is still the clock, is covered.
use Rattle.std.specs.Prelude.{Bool, ℕ, ◌+◌, ◌==◌, true, false, ◌&&◌, Some, ◌≡◌, not, None, ◌≤◌, length, ◌<◌, is_some, nat_le}
use Rattle.inv_rows.specs.defs.declared.event.Root.{Root}
use Rattle.inv_rows.specs.Rows.{Status, View, is_settled}
use Rattle.inv_rows.specs.Queue.{in_queue}
use Rattle.inv_rows.specs.defs.declared.event.Root.TheVariants as roots
use Rattle.inv_rows.specs.model.Phases.ProtectAt.{AnswerOwn, CheckClock, CheckOwnClock, CheckUpper, LoadAnswer, LoadClock, LoadLink, LoadOwnClock, LoadOwnLink, LoadWithin, PublishEra, PublishHelper, PublishRequest, RaiseUpper, TakeAnswer, WithdrawHelper, WithdrawRequest, ByHazard}
use Rattle.inv_rows.specs.model.Phases.HazardAt.{PublishLink, CheckLink}
use Rattle.inv_rows.specs.model.declared.post.Post.{Post}
use Rattle.inv_rows.specs.model.Phases.{ProtectAt, Base, Follows, Aim, Tries}
use Rattle.inv_rows.specs.model.Posts.{upper, stands, tag_of}
use Rattle.inv_rows.specs.model.Phases.Base.{Allocate, Begin, Clear, Finish, GiveUp, Move, Protect, Release, Reload, Retire, Write}
use Rattle.inv_rows.specs.Covering.Covers.{Covers, GuardFits, number_of, number_shown, eras_shown, shown, CoversNeeds, Scanning, takes_or_frees, Widens}
use Rattle.inv_rows.specs.defs.declared.event.Guard.{Guard}
use Rattle.inv_rows.specs.model.World.{World, step, start, begin, finds}
use Rattle.inv_rows.specs.words.Place.Place.{Clock, Index as IndexOf, Row as RowOf, Tail}
use Rattle.inv_rows.specs.model.Calls.{Runs, Why, LoadHeld, StoreHeld, Keeping, Works}
use Rattle.inv_rows.specs.model.Guards.{own_guard, from_to}
use Rattle.inv_rows.specs.model.Links.{parent_of, link_place}
use Rattle.inv_rows.specs.defs.declared.event.Guard.TheVariants.{Index, Whole, Helper}
use Rattle.inv_rows.specs.Shapes.Seats.{base_fits}
use Rattle.inv_rows.specs.Agree.{Agree, rows_after}
use Rattle.inv_rows.specs.Rows.Status.{InQueue}
use Rattle.inv_rows.specs.words.Schemes.{has_one_interval, helps, publishes_rows}
use Rattle.inv_rows.specs.words.declared.layout.Layout.{Layout}
use Rattle.inv_rows.specs.defs.declared.call.Call.{Call}
use Rattle.inv_rows.specs.Hands.{row_move}
use Rattle.inv_rows.specs.words.declared.config.Config.{Config}
use Rattle.inv_rows.specs.defs.declared.shown.Shown.{Shown}
use Rattle.inv_rows.specs.defs.declared.shown.Shown.TheVariants.{Nothing, Eras, Row}

-- the link leads to the row
abbrev pub leads : ℕ → ℕ → Bool
leads link slot = link == slot + 1

-- the row whose next link it is, is still in the queue; the other roots lead to rows that are linked
abbrev pub under : (ℕ → Status) → Root → Bool
under status (roots.Bucket bucket) = true
under status roots.Head = true
under status roots.Tail = true
under status (roots.Next parent) = in_queue (status parent)

-- a try has loaded a link to the row, and its era is still the clock
abbrev pub tries_protect : ℕ → (ℕ → Status) → Post → Root → ProtectAt → ℕ → Bool
tries_protect clock status post root (LoadClock tries) s = false
tries_protect clock status post root (PublishEra era tries) s = false
tries_protect clock status post root (LoadLink era tries) s = false
tries_protect clock status post root (CheckClock era tries link) s = leads link s && (clock == era && under status root)
tries_protect clock status post root PublishRequest s = false
tries_protect clock status post root LoadOwnClock s = false
tries_protect clock status post root (PublishHelper first era last) s = false
tries_protect clock status post root (LoadOwnLink first era last) s = false
tries_protect clock status post root (CheckOwnClock first era last link) s = false
tries_protect clock status post root (AnswerOwn first era link) s = false
tries_protect clock status post root (LoadAnswer first) s = false
tries_protect clock status post root (TakeAnswer link era) s = false
tries_protect clock status post root (WithdrawRequest link era) s = leads link s && under status root
tries_protect clock status post root (WithdrawHelper link era) s = leads link s && under status root
tries_protect clock status post root LoadWithin s = false
tries_protect clock status post root (CheckUpper link) s = leads link s && (clock == upper post.span && under status root)
tries_protect clock status post root (RaiseUpper era) s = false
tries_protect clock status post root (ByHazard at) s = false

-- the same, or the row was protected and the head is to be loaded again
abbrev pub tries_base : ℕ → (ℕ → Status) → Post → Base → ℕ → Bool
tries_base clock status post (Begin at) s = false
tries_base clock status post (Protect aim index root steps at) s = tries_protect clock status post root at s
tries_base clock status post (Reload parent index slot era steps) s = slot == s && in_queue (status parent)
tries_base clock status post base s = false

-- the index of a protection
abbrev pub index_base : Base → ℕ
index_base (Begin at) = 0
index_base (Protect aim index root steps at) = index
index_base (Reload parent index slot era steps) = index
index_base (Clear rows index) = index
index_base Finish = 0
index_base (Release index) = 0
index_base (Allocate at) = 0
index_base (Write slot row place) = 0
index_base (GiveUp slot) = 0
index_base (Retire at) = 0
index_base (Move at) = 0

-- a guard of the table covers the row
pub record Holds (w : World) (v : View) (guard : Guard) (slot : ℕ) : Type 0 where
  pub fits : GuardFits w.layout.config guard
  pub covers : Covers w v guard slot

-- what stands is held by the guard of its index, and so is what a try has loaded
pub record Held (w : World) (v : View) : Type 0 where
  pub stood : (k j s : ℕ) → stands (w.seat k).post j ≡ Some s → Holds w v (own_guard w.layout.config.scheme k j) s
  pub tried : (k : ℕ) (why : Why) (base : Base) (s : ℕ) → (w.seat k).phase ≡ Runs why base
      → tries_base (w.mem Clock) v.status (w.seat k).post base s ≡ true
      → Holds w v (own_guard w.layout.config.scheme k (index_base base)) s

-- the row whose next link is followed
abbrev pub follows_root : Root → ℕ → Bool
follows_root (roots.Bucket bucket) row = false
follows_root roots.Head row = false
follows_root roots.Tail row = false
follows_root (roots.Next parent) row = parent == row

abbrev pub follows_row : Base → ℕ → Bool
follows_row (Begin at) row = false
follows_row (Protect aim index root steps at) row = follows_root root row
follows_row (Reload parent index slot era steps) row = parent == row
follows_row (Clear rows index) row = false
follows_row Finish row = false
follows_row (Release index) row = false
follows_row (Allocate at) row = false
follows_row (Write slot row place) other = false
follows_row base row = false

-- the era that a try compares with the clock
abbrev pub era_protect : Post → ProtectAt → ℕ
era_protect post (CheckClock era tries link) = era
era_protect post at = upper post.span

abbrev pub era_base : Post → Base → ℕ
era_base post (Protect aim index root steps at) = era_protect post at
era_base post base = 0

-- where the next step takes from what a guard publishes nothing stands: where an era or a link is published or an answer
-- taken, at that index; where an interval is finished, anywhere; where what stands at an index is released, anywhere but there
abbrev pub rests_protect : ℕ → ProtectAt → ℕ → Bool
rests_protect index (PublishEra era tries) j = j == index
rests_protect index (TakeAnswer link era) j = j == index
rests_protect index (ByHazard (PublishLink link)) j = j == index
rests_protect index at j = false

abbrev pub rests_base : Base → ℕ → Bool
rests_base (Protect aim index root steps at) j = rests_protect index at j
rests_base Finish j = true
rests_base (Release index) j = not (j == index)
rests_base base j = false

-- a protection that is followed is of a next link
abbrev pub Followed : Base → Type 0
Followed (Protect Follows index root steps at) = root ≡ roots.Next (parent_of root)
Followed base = Unit {0}

-- a seat's interval begins where none stands, and rises
abbrev pub SpanGrows : Base → Post → Type 0
SpanGrows (Begin at) post = post.span ≡ None
SpanGrows (Protect aim index root steps (RaiseUpper era)) post = upper post.span ≤ era
SpanGrows base post = Unit {0}

-- what a machine's phase needs of the other parts, of the seat that steps
pub record BaseNeeds (w : World) (i : ℕ) (base : Base) : Type 0 where
  -- the machine is one of the scheme, and its index one of the seat's
  pub fits : base_fits w.layout.config base ≡ true
  pub guard : GuardFits w.layout.config (own_guard w.layout.config.scheme i (index_base base))
  pub index : index_base base < length (w.seat i).post.standing
  pub followed : Followed base
  pub grows : SpanGrows base (w.seat i).post
  -- nothing stands where it is taken from
  pub rests : (j : ℕ) → rests_base base j ≡ true → stands (w.seat i).post j ≡ None
  -- in a try the index word has the try's era
  pub published : (aim : Aim) (index : ℕ) (root : Root) (steps era : ℕ) (tries : Tries) → base ≡ Protect aim index root steps (LoadLink era tries)
      → eras_shown w (Index i index) ≡ from_to era era
  -- a link that is loaded again is in the index word
  pub links : (aim : Aim) (index : ℕ) (root : Root) (steps link : ℕ) → base ≡ Protect aim index root steps (ByHazard (CheckLink link))
      → w.mem (IndexOf i index) ≡ link

-- what a step of a copy needs of the other parts, of the seat that steps: a row stands at the first index, and the second is
-- a higher one of the seat's
pub record CopyNeeds (w : World) (i from index : ℕ) : Type 0 where
  pub stood : is_some (stands (w.seat i).post from) ≡ true
  pub rises : from < index
  pub guard : GuardFits w.layout.config (own_guard w.layout.config.scheme i index)
  pub room : index < length (w.seat i).post.standing

-- the second step: the era, or the link, is the one that the first index publishes; and where it is an era the tag of the second has
-- 32 bits
pub record StoreNeeds (w : World) (i from index era : ℕ) : Type 0 where
  pub copy : CopyNeeds w i from index
  pub shows : shown w (Index i from) ≡ number_shown (publishes_rows w.layout.config.scheme) era
  pub tag : publishes_rows w.layout.config.scheme ≡ false → tag_of (w.seat i).post index < 4294967295

-- what is needed of the other parts where a link is loaded: what is known of the rows; births are at most the clock; the
-- tail's row is in the queue, and so is the row after one that is
pub record RootsNeeds (w : World) (v : View) : Type 0 where
  pub rows : Agree w v
  pub births : (s : ℕ) → is_settled (v.status s) ≡ true → v.birth s ≤ w.mem Clock
  pub tail : (s : ℕ) → w.mem Tail ≡ s + 1 → v.status s ≡ InQueue
  pub nexts : (p s : ℕ) → v.status p ≡ InQueue → w.mem (RowOf p 0) ≡ s + 1 → v.status s ≡ InQueue

-- what is published reaches a row that is linked at this clock: eras up to it, or that row
abbrev pub reaches : (clock slot : ℕ) → Shown → Bool
reaches clock slot Nothing = false
reaches clock slot (Eras span) = nat_le clock span.hi
reaches clock slot (Row row) = slot == row

-- the row of a link that is loaded is covered by each guard that publishes an interval up to the clock, or the row, where the
-- link is a root, or the next link of a row that is still in the queue
abbrev pub LoadsCover : Type 0
LoadsCover =
    (w : World) (v : View) (guard : Guard) (root : Root) (slot : ℕ)
    → RootsNeeds w v
    → reaches (w.mem Clock) slot (shown w guard) ≡ true
    → w.mem (link_place root) ≡ slot + 1
    → under v.status root ≡ true
    → Covers w v guard slot

-- what a step needs of the other parts
pub record HeldNeeds (w : World) (i : ℕ) (v : View) : Type 0 where
  pub covers : CoversNeeds w i v
  pub scans : Scanning w
  pub seat : (w.seat i).post.seat ≡ i
  pub base : (why : Why) (base : Base) → (w.seat i).phase ≡ Runs why base → BaseNeeds w i base
  pub roots : RootsNeeds w v
  -- the steps of a copy
  pub loads : (from index : ℕ) → (w.seat i).phase ≡ Works (Keeping (LoadHeld from index)) → CopyNeeds w i from index
  pub stores : (from index era : ℕ) → (w.seat i).phase ≡ Works (Keeping (StoreHeld from index era)) → StoreNeeds w i from index era
  -- under 2GE an interval word has the seat's interval, before and after the step
  pub spans : has_one_interval w.layout.config.scheme ≡ true → eras_shown w (Whole i) ≡ (w.seat i).post.span
  pub spans_next : has_one_interval w.layout.config.scheme ≡ true → eras_shown (step w i) (Whole i) ≡ ((step w i).seat i).post.span
  -- the era of a try is at most the clock, and the clock is positive and never falls
  pub eras : (k : ℕ) (why : Why) (base : Base) → (w.seat k).phase ≡ Runs why base → era_base (w.seat k).post base ≤ w.mem Clock
  pub some : 1 ≤ w.mem Clock
  pub clock : w.mem Clock ≤ (step w i).mem Clock
  -- the row whose next link is followed stands at index 0
  pub parents : (k : ℕ) (why : Why) (base : Base) (p : ℕ) → (w.seat k).phase ≡ Runs why base → follows_row base p ≡ true
      → stands (w.seat k).post 0 ≡ Some p

-- where no seat helps another what guards hold stays held over each step
abbrev pub HeldKept : Type 0
HeldKept =
    (w : World) (i : ℕ) (v : View)
    → helps w.layout.config.scheme ≡ false
    → HeldNeeds w i v
    → Held w v
    → Held (step w i) (rows_after w i v)

-- nothing is held at the start
abbrev pub HeldStart : Type 0
HeldStart = (layout : Layout) (v : View) → Held (start layout) v

-- where a call begins all stays held
abbrev pub HeldBegin : Type 0
HeldBegin = (w : World) (i : ℕ) (call : Call) (v : View) → Held w v → Held (begin w i call) v

-- where a row stands at an index of a seat, no step of any seat makes it free, and none claims it
abbrev pub StandingStays : Type 0
StandingStays =
    (w : World) (i k j slot : ℕ) (v : View)
    → CoversNeeds w i v
    → Scanning w
    → Held w v
    → stands (w.seat k).post j ≡ Some slot
    → takes_or_frees (row_move (w.seat i).phase (w.seat i).post (finds w i)) slot ≡ false

-- a scan reads the guard of each index of each seat, and under Wait-Free Eras each helper word
abbrev pub GuardsFit : Type 0
GuardsFit = (config : Config) (k j : ℕ) → k < config.seats → j < config.indexes → GuardFits config (own_guard config.scheme k j)

abbrev pub HelpersFit : Type 0
HelpersFit = (config : Config) (k : ℕ) → helps config.scheme ≡ true → k < config.seats → GuardFits config (Helper k)

-- and helper words before index words
abbrev pub HelpersFirst : Type 0
HelpersFirst =
    (config : Config) (m k j : ℕ)
    → helps config.scheme ≡ true
    → m < config.seats
    → number_of config (Helper m) ≤ number_of config (Index k j)

-- what a guard covers, each guard covers that a scan reads later and that publishes the same
abbrev pub HandedCovers : Type 0
HandedCovers =
    (w : World) (v : View) (a b : Guard) (slot : ℕ)
    → number_of w.layout.config a ≤ number_of w.layout.config b
    → shown w b ≡ shown w a
    → Covers w v a slot
    → Covers w v b slot

-- the same over the step that writes the later guard: what the earlier covered before, the later covers after
abbrev pub HandedKept : Type 0
HandedKept =
    (w : World) (i : ℕ) (v : View) (a b : Guard) (slot : ℕ)
    → CoversNeeds w i v
    → Scanning w
    → GuardFits w.layout.config a
    → number_of w.layout.config a ≤ number_of w.layout.config b
    → Widens (shown w a) (shown (step w i) a)
    → shown (step w i) b ≡ shown (step w i) a
    → Covers w v a slot
    → Covers (step w i) (rows_after w i v) b slot
