-- A null next link that a dequeue may end with was that of the head's row, at a position of the call.
use Rattle.std.proofs.Common.{ℕ, ◌≡◌, ◌+◌, Bool, true, false, List, [], ◌∷◌, Some, None, refl, sym, ap, ◌∙◌, subst, arith}
use Rattle.std.proofs.lemmas.Bool.Decides.{nat_tests}
use Rattle.std.specs.Prelude.{◌==◌, ◌&&◌, ◌||◌, not, if◌then◌else◌}
use Rattle.law_scans.specs.inv.model.words.Place.{is_valid}
use Rattle.law_scans.specs.inv.model.words.Place.Place.{Clock, Head, Row}
use Rattle.law_scans.specs.inv.model.words.declared.layout.Layout.{Layout}
use Rattle.law_scans.specs.inv.model.defs.declared.call.Call.{Call}
use Rattle.law_scans.specs.inv.model.defs.declared.event.Event.{Event}
use Rattle.law_scans.specs.inv.model.defs.declared.event.Event.TheVariants as events
use Rattle.law_scans.specs.inv.model.defs.declared.event.Root.{Root}
use Rattle.law_scans.specs.inv.model.defs.declared.event.Root.TheVariants as roots
use Rattle.law_scans.specs.inv.model.declared.post.Post.{Post}
use Rattle.law_scans.specs.inv.model.Links.{link_place, parent_of}
use Rattle.law_scans.specs.inv.model.Posts.{upper}
use Rattle.law_scans.specs.inv.model.Phases.{Aim, ProtectAt, Base}
use Rattle.law_scans.specs.inv.model.Phases.Base.{Protect, Reload}
use Rattle.law_scans.specs.inv.model.Calls.{Gets, Changes, Holds, Enqueues, Dequeues, Why, Opens, FollowsHead, Phase, Idle, Runs, Scans, Works}
use Rattle.law_scans.specs.inv.model.World.{World, finds, is_busy, told_in, may_start}
use Rattle.law_scans.proofs.inv.model.Facts.{same_number, first_of, rest_of, or_more}
use Rattle.law_scans.specs.inv.shapes.Seats.{Seats, Run, root_by}
use Rattle.law_scans.specs.inv.history.History.{Item, Begins, Steps, Made, fits, done_if, made_of, first_made}
use Rattle.law_scans.proofs.reuse.history.Along.{begins_right, begins_within, low_seat, paths_keep}
use Rattle.law_scans.specs.inv.Known.{Known}
use Rattle.law_scans.proofs.inv.Inv.Begun.{known_start, known_begin}
use Rattle.law_scans.proofs.inv.Inv.Kept.{known_kept, asked_next}
use Rattle.law_scans.proofs.inv.Inv.Whole.{origins_need}
use Rattle.law_scans.specs.laws.records.Record.{Past, tells_of, begins, held_since}
use Rattle.law_scans.specs.laws.records.Record.Past.{Start, Then}
use Rattle.law_scans.proofs.reuse.Lawful.Current.{idle_untracked}
use Rattle.law_scans.proofs.reuse.history.AllOf.{all_of}
use Rattle.law_scans.proofs.inv.Machines.{is_within, within_of, within_begins}
use Rattle.law_scans.specs.inv.ends.Origins.{Origins}
use Rattle.law_scans.specs.inv.ends.Tracked.{carries_at, carries_in, root_for, root_in, Tracked, Carried}
use Rattle.law_scans.proofs.inv.ends.Origins.Kept.{origins_kept, origins_start, origins_begin}
use Rattle.law_scans.specs.laws.StateAt.{next_at, head_at}
use Rattle.law_scans.proofs.Ordering.Ordered.{no_row, one_row}
use Rattle.law_scans.specs.inv.requests.Standing.{Requests}
use Rattle.law_scans.specs.inv.requests.Views.{Deal, View as Asked}
use Rattle.law_scans.proofs.inv.requests.Kept.{requests_begin, requests_start}
use Rattle.law_scans.specs.inv.rows.Agree.{first_rows, rows_after}
use Rattle.law_scans.specs.inv.rows.Chain.{first_line, line_after, queue_of}
use Rattle.law_scans.specs.inv.rows.Queue.{Line, heads_on, stands_on}
use Rattle.law_scans.specs.inv.rows.Rows.{View}
use Rattle.law_scans.specs.inv.ends.Links.{links_to}
use Rattle.law_held.proofs.Roots.Leads.{Leads, leads_of}
use Rattle.law_scans.specs.laws.HoldLaw.{is_last}
use Rattle.law_held.proofs.NextRows.Nexts.{Nexts, nexts_step, nexts_first}
use Rattle.law_scans.proofs.inv.ends.Origins.Ends.{found_clock}
use Rattle.law_scans.proofs.inv.ends.Handover.Asks.{run_of}
use Rattle.law_scans.specs.inv.model.Phases.ProtectAt.{ByHazard}
use Rattle.law_scans.specs.inv.model.Phases.HazardAt.{FirstLink, PublishLink, CheckLink}
use Rattle.law_scans.proofs.inv.covers.Held.{finds_at}

-- where a next link is null, the head had its row and no row was next to it, at a position of the seat's call
abbrev pub had_none : ℕ → Past → ℕ → Root → ℕ → Bool
had_none slots p k (roots.Next parent) x = if x == 0 then held_since (begins k) (is_last slots parent) p else true
had_none slots p k (roots.Bucket b) x = true
had_none slots p k roots.Head x = true
had_none slots p k roots.Tail x = true

pub one_held : (k i : ℕ) (f : Past → Bool) (p : Past) (event : Event) → begins k p i event ≡ false → held_since (begins k) f p ≡ true → held_since (begins k) f (Then p i event) ≡ true
one_held k i f p event n h = or_more (f (Then p i event)) (not (begins k p i event) && held_since (begins k) f p) (rw n h)

pub now_held : (k : ℕ) (f : Past → Bool) (p : Past) → f p ≡ true → held_since (begins k) f p ≡ true
now_held k f Start h = h
now_held k f (Then p i event) h = rw h refl

null_by : (old new null : Bool) → (old ≡ true → new ≡ true) → (if null then old else true) ≡ true → (if null then new else true) ≡ true
null_by old new true f h = f h
null_by old new false f h = refl

one_none : (slots : ℕ) (p : Past) (k i : ℕ) (root : Root) (x : ℕ) (event : Event) → begins k p i event ≡ false → had_none slots p k root x ≡ true → had_none slots (Then p i event) k root x ≡ true
one_none slots p k i (roots.Next parent) x event n h = null_by (held_since (begins k) (is_last slots parent) p) (held_since (begins k) (is_last slots parent) (Then p i event)) (x == 0) (λ g. one_held k i (is_last slots parent) p event n g) h
one_none slots p k i (roots.Bucket b) x event n h = refl
one_none slots p k i roots.Head x event n h = refl
one_none slots p k i roots.Tail x event n h = refl

pub within_none : (slots : ℕ) (p : Past) (k i : ℕ) (root : Root) (x : ℕ) (event : Event) → is_within event ≡ true → had_none slots p k root x ≡ true → had_none slots (Then p i event) k root x ≡ true
within_none slots p k i root x event w h = one_none slots p k i root x event (within_begins k i p event w) h

along_none : (slots : ℕ) (p : Past) (k i : ℕ) (root : Root) (x : ℕ) (told : List Event) → all_of is_within told ≡ true → had_none slots p k root x ≡ true → had_none slots (tells_of p i told) k root x ≡ true
along_none slots p k i root x [] w h = h
along_none slots p k i root x (event ∷ told) w h =
    along_none slots (Then p i event) k i root x told (rest_of (is_within event) (all_of is_within told) w) (within_none slots p k i root x event (first_of (is_within event) (all_of is_within told) w) h)

-- the row whose next link is followed was found at the head
record Heads (phase : Phase) (parent : ℕ) : Type 0 where
  stands : stands_on phase parent ≡ true
  heads : heads_on phase parent ≡ true

why_follows : (buckets : ℕ) (why : Why) (base : Base) (parent : ℕ) → root_by buckets why ≡ roots.Next parent → Heads (Runs why base) parent
why_follows buckets (FollowsHead head tail) base parent e = let h : head ≡ parent = ap parent_of e in record { stands = rw h (same_number parent); heads = rw h (same_number parent) }
why_follows buckets (Opens (Gets key)) base parent e = absurd (cc)
why_follows buckets (Opens (Changes kept)) base parent e = absurd (cc)
why_follows buckets (Opens (Holds key)) base parent e = absurd (cc)
why_follows buckets (Opens (Enqueues kept)) base parent e = absurd (cc)
why_follows buckets (Opens Dequeues) base parent e = absurd (cc)
why_follows buckets why base parent e = absurd (cc)

reload_follows : (layout : Layout) (why : Why) (row index slot era steps parent : ℕ) (post : Post) → Run layout why (Reload row index slot era steps) post → row ≡ parent → Heads (Runs why (Reload row index slot era steps)) parent
reload_follows layout (FollowsHead head tail) row index slot era steps parent post r e = let h : head ≡ parent = sym r.shape.of ∙ e in record { stands = rw h (same_number parent); heads = rw h (same_number parent) }
reload_follows layout why row index slot era steps parent post r e = let x = r.suited in absurd (cc)

base_follows : (layout : Layout) (why : Why) (base : Base) (parent : ℕ) (post : Post) → Run layout why base post → root_for (Runs why base) ≡ roots.Next parent → Heads (Runs why base) parent
base_follows layout why (Protect aim index root steps at) parent post r e = why_follows layout.config.buckets why (Protect aim index root steps at) parent (sym r.shape.of ∙ e)
base_follows layout why (Reload row index slot era steps) parent post r e = reload_follows layout why row index slot era steps parent post r (ap parent_of e)
base_follows layout why base parent post r e = absurd (cc)

phase_follows : (w : World) (k : ℕ) (phase : Phase) (parent : ℕ) → Seats w → (w.seat k).phase ≡ phase → root_for phase ≡ roots.Next parent → Heads phase parent
phase_follows w k Idle parent s e h = absurd (cc)
phase_follows w k (Runs why base) parent s e h = base_follows w.layout why base parent (w.seat k).post (run_of w k why base s e) h
phase_follows w k (Scans later at) parent s e h = absurd (cc)
phase_follows w k (Works work) parent s e h = absurd (cc)

-- while it has no next link it is the head's row, and the last one
last_is : (slots row : ℕ) (p : Past) → head_at slots p + 1 ≡ row + 1 → next_at row p ≡ None → is_last slots row p ≡ true
last_is slots row p h n = let e : (head_at slots p == row) ≡ true = grind (arith, nat_tests) in rw (e, n) refl

last_now : (slots : ℕ) (w : World) (v : View) (l : Line) (z : Asked) (p : Past) (k parent : ℕ) → Known w v l z → Leads slots w.mem p → Nexts w v l p → root_in w k ≡ roots.Next parent → w.mem (Row parent 0) ≡ 0 → is_last slots parent p ≡ true
last_now slots w v l z p k parent a t n r null =
    let h : Heads (w.seat k).phase parent = phase_follows w k (w.seat k).phase parent a.seats refl r in
    let walks = a.whole.both.queue.walks k in
    let lined : l.lined parent ≡ true = walks.stood parent h.stands in
    let there : queue_of v parent ≡ true = a.whole.both.queue.line.last parent lined null in
    let head : head_at slots p + 1 ≡ parent + 1 = t.head ∙ a.whole.both.rows.words.head ∙ walks.heads parent h.heads there in
    last_is slots parent p head (no_row (next_at parent p) (n.next parent lined ∙ null))

-- a link that is loaded now
fresh_none : (slots : ℕ) (w : World) (v : View) (l : Line) (z : Asked) (p : Past) (k : ℕ) (root : Root) → Known w v l z → Leads slots w.mem p → Nexts w v l p → root_in w k ≡ root → had_none slots p k root (w.mem (link_place root)) ≡ true
fresh_none slots w v l z p k (roots.Next parent) a t n r = by (w.mem (Row parent 0) == 0) refl
  where
    by : (null : Bool) → (w.mem (Row parent 0) == 0) ≡ null → (if null then held_since (begins k) (is_last slots parent) p else true) ≡ true
    by true e = now_held k (is_last slots parent) p (last_now slots w v l z p k parent a t n r (grind (arith, nat_tests)))
    by false e = refl
fresh_none slots w v l z p k (roots.Bucket b) a t n r = refl
fresh_none slots w v l z p k roots.Head a t n r = refl
fresh_none slots w v l z p k roots.Tail a t n r = refl

-- what a history keeps
pub record BehindKept (layout : Layout) (made : Made) : Type 0 where
  pub table : made.world.layout ≡ layout
  pub rows : View
  pub line : Line
  pub asked : Asked
  pub known : Known made.world rows line asked
  pub nexts : Nexts made.world rows line made.past
  pub links : Origins (had_none layout.config.slots made.past) made.world asked

begin_tracked : (slots : ℕ) (w : World) (i k x : ℕ) (call : Call) (p : Past) (z : Asked) (own : Bool) → (k == i) ≡ own → is_busy w i ≡ false → Requests w z → Origins (had_none slots p) w z → Tracked w z k x → had_none slots (Then p i (events.Begin call)) k (root_in w k) x ≡ true
begin_tracked slots w i k x call p z true e b q o t = let one : k ≡ i = grind (arith, nat_tests) in absurd (idle_untracked w i z x b q (subst (λ (m : ℕ). Tracked w z m x) one t))
begin_tracked slots w i k x call p z false e b q o t = one_none slots p k i (root_in w k) x (events.Begin call) e (o.tracked k x t)

item_kept : (layout : Layout) (made : Made) (item : Item) (fit : Bool) → fits made.world item ≡ fit → Leads layout.config.slots made.world.mem made.past → BehindKept layout made → BehindKept layout (done_if made item fit)
item_kept layout made item false f t g = g
item_kept layout made (Begins i call) true f t g =
    let w : World = made.world in
    let k = g.known in
    let b = begins_right i w.layout.config.seats (is_busy w i) (may_start w i call) f in
    let m = begins_within i w.layout.config.seats (is_busy w i) (may_start w i call) f in
    let q = requests_begin w i call g.asked k.valid b k.seats k.requests in
    record {
      table = g.table;
      rows = g.rows;
      line = g.line;
      asked = q.0;
      known = known_begin w i call g.rows g.line g.asked q.0 b m k q.1.facts q.1.deal;
      nexts = record { next = g.nexts.next; fresh = g.nexts.fresh };
      links = origins_begin (had_none layout.config.slots (Then made.past i (events.Begin call))) w i call g.asked q.0 b k.requests q.1.deal
          (record { tracked = λ n x h. begin_tracked layout.config.slots w i n x call made.past g.asked (n == i) refl b k.requests g.links h });
    }
item_kept layout made (Steps i) true f t g =
    let w : World = made.world in
    let b = low_seat i w.layout.config.seats (is_busy w i) f in
    let q = asked_next w i g.rows g.line g.asked b g.known in
    let told : List Event = told_in w i in
    record {
      table = g.table;
      rows = rows_after w i g.rows;
      line = line_after w i g.line;
      asked = q.0;
      known = known_kept w i g.rows g.line g.asked q.0 b g.known q.1.facts q.1.deal;
      nexts = nexts_step w i g.rows g.line g.asked made.past g.known g.nexts;
      links = origins_kept (had_none layout.config.slots made.past) (had_none layout.config.slots (tells_of made.past i told)) w i g.asked q.0 (origins_need w i g.rows g.line g.asked b g.known) q.1.deal
          (record {
            fresh = λ k h e. along_none layout.config.slots made.past k i (root_in w k) (w.mem (link_place (root_in w k))) told (within_of w i) (fresh_none layout.config.slots w g.rows g.line g.asked made.past k (root_in w k) g.known t g.nexts refl);
            stays = λ k x h o. along_none layout.config.slots made.past k i (root_in w k) x told (within_of w i) o;
          })
          g.links;
    }

first_kept : (layout : Layout) → is_valid layout ≡ true → BehindKept layout (first_made layout)
first_kept layout d =
    let q = requests_start layout d in
    record {
      table = refl;
      rows = first_rows layout;
      line = first_line layout;
      asked = q.0;
      known = known_start layout q.0 d q.1.facts q.1.deal;
      nexts = nexts_first layout;
      links = origins_start (had_none layout.config.slots Start) layout q.0 (λ m. ap (λ (f : ℕ → Deal). f m) q.1.deal);
    }

pub behind_of : (layout : Layout) (path : List Item) → is_valid layout ≡ true → BehindKept layout (made_of layout path)
behind_of layout path d = paths_keep layout (BehindKept layout) (λ before item fit f g. item_kept layout (made_of layout before) item fit f (leads_of layout before d) g) (first_kept layout d) path

-- a step of a protection with which it may end with the link that it loads
abbrev pub loads_found : ProtectAt → Bool
loads_found (ByHazard FirstLink) = true
loads_found (ByHazard (CheckLink link)) = true
loads_found at = false

pub found_root : (w : World) (i : ℕ) (why : Why) (aim : Aim) (index : ℕ) (root : Root) (count : ℕ) (at : ProtectAt) → (w.seat i).phase ≡ Runs why (Protect aim index root count at) → loads_found at ≡ true → finds w i ≡ w.mem (link_place root)
found_root w i why aim index root count (ByHazard FirstLink) q h = finds_at w i (Runs why (Protect aim index root count (ByHazard FirstLink))) q
found_root w i why aim index root count (ByHazard (CheckLink link)) q h = finds_at w i (Runs why (Protect aim index root count (ByHazard (CheckLink link)))) q
found_root w i why aim index root count (ByHazard (PublishLink link)) q h = absurd (cc)
found_root w i why aim index root count at q h = absurd (cc)

-- so of what is loaded now
pub loaded_none : (slots : ℕ) (w : World) (v : View) (l : Line) (z : Asked) (p : Past) (i : ℕ) (why : Why) (aim : Aim) (index : ℕ) (root : Root) (count : ℕ) (at : ProtectAt) → (w.seat i).phase ≡ Runs why (Protect aim index root count at) → Known w v l z → Leads slots w.mem p → Nexts w v l p → loads_found at ≡ true → had_none slots p i root (finds w i) ≡ true
loaded_none slots w v l z p i why aim index root count at q a t n h =
    subst (λ (x : ℕ). had_none slots p i root x ≡ true) (sym (found_root w i why aim index root count at q h)) (fresh_none slots w v l z p i root a t n (ap root_for q))

-- what the link of a protection that follows says, where it may end with it
pub carried_none : (slots : ℕ) (w : World) (i : ℕ) (z : Asked) (p : Past) (why : Why) (aim : Aim) (index : ℕ) (root : Root) (count : ℕ) (at : ProtectAt) (x : ℕ) → (w.seat i).phase ≡ Runs why (Protect aim index root count at) → Origins (had_none slots p) w z → carries_at (finds w i) (upper (w.seat i).post.span) at x ≡ true → had_none slots p i root x ≡ true
carried_none slots w i z p why aim index root count at x q o h =
    let t : Tracked w z i x = Carried (subst (λ (f : Phase). carries_in (w.mem Clock) (upper (w.seat i).post.span) f x ≡ true) (sym q) (found_clock w i why aim index root count at x q h)) in
    subst (λ (y : Root). had_none slots p i y x ≡ true) (ap root_for q) (o.tracked i x t)

-- a row that is held once the head was found to have its parent is the next one
next_word : (word slot : ℕ) → (slot + 1 == 0 || word == slot + 1) ≡ true → word ≡ slot + 1
next_word word slot h = grind (arith, nat_tests)

pub reloaded_next : (w : World) (i : ℕ) (v : View) (l : Line) (z : Asked) (p : Past) (why : Why) (parent index slot era count : ℕ) → (w.seat i).phase ≡ Runs why (Reload parent index slot era count) → w.mem Head ≡ parent + 1 → Known w v l z → Nexts w v l p → next_at parent p ≡ Some slot
reloaded_next w i v l z p why parent index slot era count q m a n =
    let head : v.head ≡ parent + 1 = sym a.whole.both.rows.words.head ∙ m in
    let lined : l.lined parent ≡ true = a.whole.both.queue.line.lined parent (a.whole.both.queue.line.first parent head) in
    let t : Tracked w z i (slot + 1) = Carried (subst (λ (f : Phase). carries_in (w.mem Clock) (upper (w.seat i).post.span) f (slot + 1) ≡ true) (sym q) (same_number (slot + 1))) in
    let link : links_to w.book w.mem v l (roots.Next parent) (slot + 1) ≡ true = subst (λ (y : Root). links_to w.book w.mem v l y (slot + 1) ≡ true) (ap root_for q) (a.links.tracked i (slot + 1) t) in
    one_row (next_at parent p) slot (n.next parent lined ∙ next_word (w.mem (Row parent 0)) slot link)
