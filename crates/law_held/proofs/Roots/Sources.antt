-- What a protection may end with its root had at a position of the call; and so what it tells.
use Rattle.std.proofs.Common.{ℕ, ◌≡◌, ◌-◌, ◌+◌, ◌%◌, Bool, true, false, List, [], ◌∷◌, Option, Some, None, refl, sym, ap, ◌∙◌, subst, arith}
use Rattle.std.proofs.lemmas.Bool.Decides.{nat_tests}
use Rattle.std.specs.List.{list_any}
use Rattle.std.specs.Prelude.{◌==◌, ◌&&◌, ◌||◌, not, if◌then◌else◌}
use Rattle.law_scans.specs.inv.model.words.Place.{Place, is_valid}
use Rattle.law_scans.specs.inv.model.words.Place.Place.{Clock, Head, Tail, Bucket}
use Rattle.law_scans.specs.inv.model.words.declared.config.Config.{Config}
use Rattle.law_scans.specs.inv.model.words.declared.layout.Layout.{Layout}
use Rattle.law_scans.specs.inv.model.defs.declared.call.Call.{Call}
use Rattle.law_scans.specs.inv.model.defs.declared.call.Call.TheVariants as names
use Rattle.law_scans.specs.inv.model.defs.declared.event.Event.{Event}
use Rattle.law_scans.specs.inv.model.defs.declared.event.Event.TheVariants as events
use Rattle.law_scans.specs.inv.model.defs.declared.event.Root.{Root}
use Rattle.law_scans.specs.inv.model.defs.declared.event.Root.TheVariants as roots
use Rattle.law_scans.specs.inv.model.defs.declared.fold.Change.{Change}
use Rattle.law_scans.specs.inv.model.defs.declared.fold.Change.TheVariants as changes
use Rattle.law_scans.specs.inv.model.declared.post.Post.{Post}
use Rattle.law_scans.specs.inv.model.Calls.{Task, Gets, Changes, Holds, Enqueues, Dequeues, Why, Opens, FollowsHead, Phase, Idle, Runs, Scans, Works}
use Rattle.law_scans.specs.inv.model.Links.{link_place}
use Rattle.law_scans.specs.inv.model.Memory.{bump}
use Rattle.law_scans.specs.inv.model.Phases.{Aim, ProtectAt, Base}
use Rattle.law_scans.specs.inv.model.Phases.ProtectAt.{CheckClock, TakeAnswer, CheckUpper, ByHazard}
use Rattle.law_scans.specs.inv.model.Phases.Base.{Protect, Reload, Clear, Release}
use Rattle.law_scans.specs.inv.model.Posts.{counted, cleared, stands, upper}
use Rattle.law_scans.specs.inv.model.Protect.{told_held}
use Rattle.law_scans.specs.inv.model.World.{World, finds, is_busy, told_in, may_start}
use Rattle.law_scans.proofs.inv.model.Facts.{same_number, both, first_of, rest_of, true_of_not}
use Rattle.law_scans.proofs.inv.ends.Ends.Tests.{Calm, at_shows, base_shows, none_worked, phase_shows, step_any}
use Rattle.law_scans.specs.inv.shapes.Seats.{Seats, protects, kind_of, task_root}
use Rattle.law_scans.specs.inv.history.History.{Item, Begins, Steps, Made, fits, done_if, made_of, first_made, record_of, world_of}
use Rattle.law_scans.proofs.reuse.history.Along.{begins_right, begins_within, low_seat, paths_keep}
use Rattle.law_scans.specs.inv.Known.{Known}
use Rattle.law_scans.proofs.inv.Inv.Begun.{known_start, known_begin}
use Rattle.law_scans.proofs.inv.Inv.Kept.{known_kept, asked_next}
use Rattle.law_scans.proofs.inv.Inv.Whole.{origins_need}
use Rattle.law_scans.specs.laws.StateAt.{tail_at, bucket_at, head_at, began_of}
use Rattle.law_scans.specs.laws.StructuresAt.{same_value}
use Rattle.law_scans.specs.laws.records.Record.{Past, Each, tells_of, begins, held_since}
use Rattle.law_scans.specs.laws.records.Record.Past.{Start, Then}
use Rattle.law_scans.proofs.reuse.history.AllOf.{all_of}
use Rattle.law_scans.proofs.inv.Machines.{is_within, within_of, within_begins}
use Rattle.law_scans.specs.inv.ends.Origins.{Origins}
use Rattle.law_scans.specs.inv.ends.Tracked.{carries_at, carries_in, root_for, root_in, Tracked, Carried, Given, Helped}
use Rattle.law_scans.proofs.inv.ends.Origins.Came.{aimed_at, link_busy, helps_busy}
use Rattle.law_scans.proofs.inv.ends.Origins.Kept.{origins_kept, origins_start, origins_begin, idle_deal}
use Rattle.law_scans.proofs.Ordering.Ordered.{word_of}
use Rattle.law_scans.specs.inv.requests.Deals.{is_quiet}
use Rattle.law_scans.specs.inv.requests.Standing.{Requests}
use Rattle.law_scans.specs.inv.requests.Views.{Deal, View as Asked}
use Rattle.law_scans.proofs.inv.requests.Kept.{idle_of, requests_begin, requests_start}
use Rattle.law_scans.specs.inv.rows.Agree.{first_rows, rows_after}
use Rattle.law_scans.specs.inv.rows.Chain.{first_line, line_after}
use Rattle.law_scans.specs.inv.rows.Queue.{Line}
use Rattle.law_scans.specs.inv.rows.Rows.{View}
use Rattle.law_scans.proofs.inv.ends.Told.Turns.{is_later}
use Rattle.law_scans.proofs.reuse.AnswersTold.Answering.{one_began, own_began}
use Rattle.law_scans.proofs.reuse.AnswersTold.Owed.{call_for, TaskServes, Serves}
use Rattle.law_scans.specs.laws.HistoryHolds.{sources_ok}
use Rattle.law_scans.specs.laws.HoldLaw.{has_had}
use Rattle.law_held.specs.Records.{RecordsFindSources}
use Rattle.law_held.proofs.Roots.Leads.{Leads, leads_of}
use Rattle.law_held.proofs.Roots.Ways.{record_each, answers_of}
use Rattle.law_scans.proofs.reuse.Lawful.Counts.{reload_index}
use Rattle.law_scans.proofs.inv.ends.Origins.Ends.{found_clock}
use Rattle.law_scans.proofs.inv.ends.Handover.Asks.{run_of}
use Rattle.law_held.proofs.NextRows.Behind.{now_held, one_held, found_root, loads_found}
use Rattle.law_scans.proofs.inv.model.Lists.{or_left, or_right as none_rest}
use Rattle.law_scans.specs.inv.model.Phases.HazardAt.{FirstLink, CheckLink}

-- the row of a link
abbrev row_of : ℕ → Option ℕ
row_of link = if link == 0 then None else Some (link - 1)

-- a root had this link at a position of the seat's call; of next links nothing is said
abbrev had_link : Config → Past → ℕ → Root → ℕ → Bool
had_link c p k (roots.Bucket b) x = held_since (begins k) (λ (q : Past). same_value (row_of x) (bucket_at b q)) p
had_link c p k roots.Head x = held_since (begins k) (λ (q : Past). same_value (row_of x) (Some (head_at c.slots q))) p
had_link c p k roots.Tail x = held_since (begins k) (λ (q : Past). same_value (row_of x) (Some (tail_at c.slots q))) p
had_link c p k (roots.Next parent) x = true

along_held : (k i : ℕ) (f : Past → Bool) (told : List Event) (p : Past) → all_of is_within told ≡ true → held_since (begins k) f p ≡ true → held_since (begins k) f (tells_of p i told) ≡ true
along_held k i f [] p w h = h
along_held k i f (event ∷ told) p w h = along_held k i f told (Then p i event) (rest_of (is_within event) (all_of is_within told) w) (one_held k i f p event (within_begins k i p event (first_of (is_within event) (all_of is_within told) w)) h)

-- what a root has now
value_same : (x : Option ℕ) → same_value (row_of (word_of x)) x ≡ true
value_same None = refl
value_same (Some slot) =
    let some : (slot + 1 == 0) ≡ false = grind (arith, nat_tests) in
    let same : (slot + 1 - 1 == slot) ≡ true = grind (arith, nat_tests) in
    rw some same

value_now : (x : Option ℕ) (link : ℕ) → word_of x ≡ link → same_value (row_of link) x ≡ true
value_now x link e = subst (λ (n : ℕ). same_value (row_of n) x ≡ true) e (value_same x)

root_now : (c : Config) (mem : Place → ℕ) (p : Past) (k : ℕ) (root : Root) → Leads c.slots mem p → had_link c p k root (mem (link_place root)) ≡ true
root_now c mem p k (roots.Bucket b) l = now_held k (λ (q : Past). same_value (row_of (mem (Bucket b))) (bucket_at b q)) p (value_now (bucket_at b p) (mem (Bucket b)) (l.buckets b))
root_now c mem p k roots.Head l = now_held k (λ (q : Past). same_value (row_of (mem Head)) (Some (head_at c.slots q))) p (value_now (Some (head_at c.slots p)) (mem Head) l.head)
root_now c mem p k roots.Tail l = now_held k (λ (q : Past). same_value (row_of (mem Tail)) (Some (tail_at c.slots q))) p (value_now (Some (tail_at c.slots p)) (mem Tail) l.tail)
root_now c mem p k (roots.Next parent) l = refl

root_along : (c : Config) (p : Past) (k i : ℕ) (root : Root) (x : ℕ) (told : List Event) → all_of is_within told ≡ true → had_link c p k root x ≡ true → had_link c (tells_of p i told) k root x ≡ true
root_along c p k i (roots.Bucket b) x told w h = along_held k i (λ (q : Past). same_value (row_of x) (bucket_at b q)) told p w h
root_along c p k i roots.Head x told w h = along_held k i (λ (q : Past). same_value (row_of x) (Some (head_at c.slots q))) told p w h
root_along c p k i roots.Tail x told w h = along_held k i (λ (q : Past). same_value (row_of x) (Some (tail_at c.slots q))) told p w h
root_along c p k i (roots.Next parent) x told w h = refl

root_begins : (c : Config) (p : Past) (k i : ℕ) (root : Root) (x : ℕ) (call : Call) → (k == i) ≡ false → had_link c p k root x ≡ true → had_link c (Then p i (events.Begin call)) k root x ≡ true
root_begins c p k i (roots.Bucket b) x call e h = one_held k i (λ (q : Past). same_value (row_of x) (bucket_at b q)) p (events.Begin call) e h
root_begins c p k i roots.Head x call e h = one_held k i (λ (q : Past). same_value (row_of x) (Some (head_at c.slots q))) p (events.Begin call) e h
root_begins c p k i roots.Tail x call e h = one_held k i (λ (q : Past). same_value (row_of x) (Some (tail_at c.slots q))) p (events.Begin call) e h
root_begins c p k i (roots.Next parent) x call e h = refl

apart : (b x : Bool) → b ≡ true → b ≡ false → x ≡ true
apart b x h k = absurd (cc)

idle_any : (w : World) (i : ℕ) (z : Asked) (x : ℕ) (good : Bool) → is_busy w i ≡ false → Requests w z → Tracked w z i x → good ≡ true
idle_any w i z x good b q (Carried h) =
    let g : carries_in (w.mem Clock) (upper (w.seat i).post.span) Idle x ≡ true = subst (λ (p : Phase). carries_in (w.mem Clock) (upper (w.seat i).post.span) p x ≡ true) (idle_of (w.seat i).phase b) h in absurd (cc)
idle_any w i z x good b q (Given h) = apart (is_quiet (z.deal i)) good (idle_deal w i z b q) (link_busy (z.deal i) x h)
idle_any w i z x good b q (Helped m h) = apart (is_quiet (z.deal i)) good (idle_deal w i z b q) (helps_busy w.layout (w.mem Clock) i (w.seat m).phase (z.deal i) x h)

-- what a history keeps
record SourcesKept (layout : Layout) (made : Made) : Type 0 where
  table : made.world.layout ≡ layout
  rows : View
  line : Line
  asked : Asked
  known : Known made.world rows line asked
  links : Origins (had_link layout.config made.past) made.world asked

begin_tracked : (c : Config) (w : World) (i k x : ℕ) (call : Call) (p : Past) (z : Asked) (own : Bool) → (k == i) ≡ own → is_busy w i ≡ false → Requests w z → Origins (had_link c p) w z → Tracked w z k x → had_link c (Then p i (events.Begin call)) k (root_in w k) x ≡ true
begin_tracked c w i k x call p z true e b q o t =
    let one : k ≡ i = grind (arith, nat_tests) in
    idle_any w i z x (had_link c (Then p i (events.Begin call)) k (root_in w k) x) b q (subst (λ (m : ℕ). Tracked w z m x) one t)
begin_tracked c w i k x call p z false e b q o t = root_begins c p k i (root_in w k) x call e (o.tracked k x t)

item_kept : (layout : Layout) (made : Made) (item : Item) (fit : Bool) → fits made.world item ≡ fit → Leads layout.config.slots made.world.mem made.past → SourcesKept layout made → SourcesKept layout (done_if made item fit)
item_kept layout made item false f l g = g
item_kept layout made (Begins i call) true f l g =
    let w : World = made.world in
    let k = g.known in
    let b = begins_right i w.layout.config.seats (is_busy w i) (may_start w i call) f in
    let m = begins_within i w.layout.config.seats (is_busy w i) (may_start w i call) f in
    let q = requests_begin w i call g.asked k.valid b k.seats k.requests in
    record {
      table = g.table;
      rows = g.rows;
      line = g.line;
      asked = q.0;
      known = known_begin w i call g.rows g.line g.asked q.0 b m k q.1.facts q.1.deal;
      links = origins_begin (had_link layout.config (Then made.past i (events.Begin call))) w i call g.asked q.0 b k.requests q.1.deal
          (record { tracked = λ n x t. begin_tracked layout.config w i n x call made.past g.asked (n == i) refl b k.requests g.links t });
    }
item_kept layout made (Steps i) true f l g =
    let w : World = made.world in
    let b = low_seat i w.layout.config.seats (is_busy w i) f in
    let q = asked_next w i g.rows g.line g.asked b g.known in
    let told : List Event = told_in w i in
    record {
      table = g.table;
      rows = rows_after w i g.rows;
      line = line_after w i g.line;
      asked = q.0;
      known = known_kept w i g.rows g.line g.asked q.0 b g.known q.1.facts q.1.deal;
      links = origins_kept (had_link layout.config made.past) (had_link layout.config (tells_of made.past i told)) w i g.asked q.0 (origins_need w i g.rows g.line g.asked b g.known) q.1.deal
          (record {
            fresh = λ k h e. root_along layout.config made.past k i (root_in w k) (w.mem (link_place (root_in w k))) told (within_of w i) (root_now layout.config w.mem made.past k (root_in w k) l);
            stays = λ k x t h. root_along layout.config made.past k i (root_in w k) x told (within_of w i) h;
          })
          g.links;
    }

first_kept : (layout : Layout) → is_valid layout ≡ true → SourcesKept layout (first_made layout)
first_kept layout d =
    let q = requests_start layout d in
    let k = known_start layout q.0 d q.1.facts q.1.deal in
    record { table = refl; rows = first_rows layout; line = first_line layout; asked = q.0; known = k; links = origins_start (had_link layout.config Start) layout q.0 (λ m. ap (λ (f : ℕ → Deal). f m) q.1.deal) }

sources_of : (layout : Layout) (path : List Item) → is_valid layout ≡ true → SourcesKept layout (made_of layout path)
sources_of layout path d = paths_keep layout (SourcesKept layout) (λ before item fit f g. item_kept layout (made_of layout before) item fit f (leads_of layout before d) g) (first_kept layout d) path

-- what a step tells of its root
abbrev is_odd : Config → Past → ℕ → Event → Bool
is_odd c p i event = not (sources_ok c p i event)

odd_calm : (c : Config) (p : Past) (i : ℕ) → Calm (is_odd c p i)
odd_calm c p i = record { reserve = λ g x. refl; hazard = λ g x. refl; saw = λ g x. refl; read = λ g x. refl; era = λ e. refl; give = λ a b. refl; unused = λ a. refl; retire = λ a b r. refl; back = λ a. refl }

odd_later : (c : Config) (p : Past) (i : ℕ) (event : Event) → is_later event ≡ true → is_odd c p i event ≡ false
odd_later c p i (events.Held index slot count) h = absurd (cc)
odd_later c p i (events.Null index count) h = absurd (cc)
odd_later c p i event h = refl

not_odd : (a b : Bool) → b ≡ true → (not (a || b) || false) ≡ false
not_odd true b h = refl
not_odd false b h = rw h refl

link_even : (c : Config) (p : Past) (i index slot n : ℕ) (null : Bool) → has_had c i p (began_of i p) (if null then None else Some slot) ≡ true → list_any (is_odd c p i) (if null then events.Null index n ∷ [] else events.Held index slot n ∷ []) ≡ false
link_even c p i index slot n true h = not_odd (index == 1) (has_had c i p (began_of i p) None) h
link_even c p i index slot n false h = not_odd (index == 1) (has_had c i p (began_of i p) (Some slot)) h

one_even : (c : Config) (p : Past) (i index slot n : ℕ) (null : Bool) → index ≡ 1 → list_any (is_odd c p i) (if null then events.Null index n ∷ [] else []) ≡ false
one_even c p i index slot n true e = let q : (index == 1) ≡ true = grind (arith, nat_tests) in rw q refl
one_even c p i index slot n false e = refl

-- of the root of a task
change_had : (c : Config) (p : Past) (i : ℕ) (change : Change) (wanted : Option ℕ) (x : ℕ) → had_link c p i (task_root c.buckets (Changes (record { change = change; wanted = None; taken = None; walked = false; link = 0; version = 0; pairs = [] }))) x ≡ true → has_had c i p (Some (call_for change wanted)) (row_of x) ≡ true
change_had c p i (changes.Put key value) None x h = h
change_had c p i (changes.Put key value) (Some version) x h = h
change_had c p i (changes.Removed key) wanted x h = h

call_had : (c : Config) (p : Past) (i : ℕ) (call : Call) (task : Task) (x : ℕ) → TaskServes call task → had_link c p i (task_root c.buckets task) x ≡ true → has_had c i p (Some call) (row_of x) ≡ true
call_had c p i call (Gets key) x s h = subst (λ (y : Call). has_had c i p (Some y) (row_of x) ≡ true) (sym s) h
call_had c p i call (Changes kept) x s h = subst (λ (y : Call). has_had c i p (Some y) (row_of x) ≡ true) (sym s.is) (change_had c p i kept.change kept.wanted x h)
call_had c p i call (Holds key) x s h = subst (λ (y : Call). has_had c i p (Some y) (row_of x) ≡ true) (sym s) h
call_had c p i call (Enqueues kept) x s h = subst (λ (y : Call). has_had c i p (Some y) (row_of x) ≡ true) (sym s) h
call_had c p i call Dequeues x s h = subst (λ (y : Call). has_had c i p (Some y) (row_of x) ≡ true) (sym s) h

root_even : (c : Config) (p : Past) (i index : ℕ) (root : Root) (task : Task) (link n : ℕ) → root ≡ task_root c.buckets task → has_had c i p (began_of i p) (row_of link) ≡ true → list_any (is_odd c p i) (told_held index root link n) ≡ false
root_even c p i index root task link n r h = subst (λ (x : Root). list_any (is_odd c p i) (told_held index x link n) ≡ false) (sym r) (by task)
  where
    by : (task : Task) → list_any (is_odd c p i) (told_held index (task_root c.buckets task) link n) ≡ false
    by (Gets key) = link_even c p i index (link - 1) n (link == 0) h
    by (Changes kept) = link_even c p i index (link - 1) n (link == 0) h
    by (Holds key) = link_even c p i index (link - 1) n (link == 0) h
    by (Enqueues kept) = link_even c p i index (link - 1) n (link == 0) h
    by Dequeues = link_even c p i index (link - 1) n (link == 0) h

and_by : (a b : Bool) → (a ≡ true → b ≡ false) → (a && b) ≡ false
and_by true b h = h refl
and_by false b h = refl

at_even : (c : Config) (p : Past) (i index : ℕ) (root : Root) (task : Task) (n : ℕ) (post : Post) (at : ProtectAt) (found : ℕ) → root ≡ task_root c.buckets task → ((x : ℕ) → carries_at found (upper post.span) at x ≡ true → has_had c i p (began_of i p) (row_of x) ≡ true) → (loads_found at ≡ true → has_had c i p (began_of i p) (row_of found) ≡ true)
    → at_shows (is_odd c p i) index root n post at found ≡ false
at_even c p i index root task n post (CheckClock era tries link) found r h f =
    and_by (found == era) (list_any (is_odd c p i) (told_held index root link n)) (λ e. root_even c p i index root task link n r (h link (both (link == link) (found == era) (same_number link) e)))
at_even c p i index root task n post (TakeAnswer link era) found r h f = root_even c p i index root task link n r (h link (same_number link))
at_even c p i index root task n post (CheckUpper link) found r h f =
    and_by (found == upper post.span) (list_any (is_odd c p i) (told_held index root link n)) (λ e. root_even c p i index root task link n r (h link (both (link == link) (found == upper post.span) (same_number link) e)))
at_even c p i index root task n post (ByHazard FirstLink) found r h f = and_by (found == 0) (list_any (is_odd c p i) (told_held index root found n)) (λ e. root_even c p i index root task found n r (f refl))
at_even c p i index root task n post (ByHazard (CheckLink link)) found r h f = and_by (found == link || found == 0) (list_any (is_odd c p i) (told_held index root found n)) (λ e. root_even c p i index root task found n r (f refl))
at_even c p i index root task n post at found r h f = refl

carried_had : (c : Config) (w : World) (i : ℕ) (z : Asked) (p : Past) (why : Why) (aim : Aim) (index : ℕ) (root : Root) (count : ℕ) (at : ProtectAt) (x : ℕ) → (w.seat i).phase ≡ Runs why (Protect aim index root count at) → Origins (had_link c p) w z → carries_at (finds w i) (upper (w.seat i).post.span) at x ≡ true → had_link c p i root x ≡ true
carried_had c w i z p why aim index root count at x q o h =
    let t : Tracked w z i x = Carried (subst (λ (f : Phase). carries_in (w.mem Clock) (upper (w.seat i).post.span) f x ≡ true) (sym q) (found_clock w i why aim index root count at x q h)) in
    subst (λ (y : Root). had_link c p i y x ≡ true) (ap root_for q) (o.tracked i x t)

-- at index 1
next_even : (c : Config) (p : Past) (i index parent n : ℕ) (post : Post) (at : ProtectAt) (found : ℕ) → index ≡ 1 → at_shows (is_odd c p i) index (roots.Next parent) n post at found ≡ false
next_even c p i index parent n post (CheckClock era tries link) found e = and_by (found == era) (list_any (is_odd c p i) (told_held index (roots.Next parent) link n)) (λ h. one_even c p i index 0 n (link == 0) e)
next_even c p i index parent n post (TakeAnswer link era) found e = one_even c p i index 0 n (link == 0) e
next_even c p i index parent n post (CheckUpper link) found e = and_by (found == upper post.span) (list_any (is_odd c p i) (told_held index (roots.Next parent) link n)) (λ h. one_even c p i index 0 n (link == 0) e)
next_even c p i index parent n post (ByHazard FirstLink) found e = and_by (found == 0) (list_any (is_odd c p i) (told_held index (roots.Next parent) found n)) (λ h. one_even c p i index 0 n (found == 0) e)
next_even c p i index parent n post (ByHazard (CheckLink link)) found e = and_by (found == link || found == 0) (list_any (is_odd c p i) (told_held index (roots.Next parent) found n)) (λ h. one_even c p i index 0 n (found == 0) e)
next_even c p i index parent n post at found e = refl

reload_even : (c : Config) (p : Past) (i index slot n : ℕ) → index ≡ 1 → is_odd c p i (events.Held index slot n) ≡ false
reload_even c p i index slot n e = let q : (index == 1) ≡ true = grind (arith, nat_tests) in rw q refl

cleared_even : (c : Config) (p : Past) (i index : ℕ) (x : Option ℕ) → list_any (is_odd c p i) (cleared index x) ≡ false
cleared_even c p i index None = refl
cleared_even c p i index (Some slot) = refl

no_protect : (why : Why) (x : Bool) → protects (kind_of why) ≡ true → ((task : Task) → why ≡ Opens task → x ≡ false) → ((head tail : ℕ) → why ≡ FollowsHead head tail → x ≡ false) → x ≡ false
no_protect (Opens task) x k f g = f task refl
no_protect (FollowsHead head tail) x k f g = g head tail refl
no_protect why x k f g = absurd (cc)

-- what a seat's machine tells
record Knows (c : Config) (w : World) (i : ℕ) (z : Asked) (p : Past) : Type 0 where
  table : w.layout.config ≡ c
  origins : Origins (had_link c p) w z
  leads : Leads c.slots w.mem p
  began : began_of i p ≡ Some (w.seat i).call
  serves : Serves (w.seat i).call (w.seat i).phase
  seats : Seats w

protect_even : (c : Config) (w : World) (i : ℕ) (z : Asked) (p : Past) (why : Why) (aim : Aim) (index : ℕ) (root : Root) (count : ℕ) (at : ProtectAt) → (w.seat i).phase ≡ Runs why (Protect aim index root count at) → protects (kind_of why) ≡ true → Knows c w i z p
    → at_shows (is_odd c p i) index root (bump count) (counted (w.seat i).post) at (finds w i) ≡ false
protect_even c w i z p why aim index root count at q k b =
    no_protect why (at_shows (is_odd c p i) index root (bump count) (counted (w.seat i).post) at (finds w i)) k
    (λ task e.
    let r : (w.seat i).phase ≡ Runs (Opens task) (Protect aim index root count at) = q ∙ ap (λ (y : Why). Runs y (Protect aim index root count at)) e in
    let a = aimed_at w i (Opens task) aim index root count at b.seats r in
    let of : root ≡ task_root c.buckets task = a.of ∙ ap (λ (y : Config). task_root y.buckets task) b.table in
    let serves : TaskServes (w.seat i).call task = subst (λ (f : Phase). Serves (w.seat i).call f) r b.serves in
    at_even c p i index root task (bump count) (counted (w.seat i).post) at (finds w i) of
    (λ x h. subst (λ (y : Option Call). has_had c i p y (row_of x) ≡ true) (sym b.began)
    (call_had c p i (w.seat i).call task x serves (subst (λ (y : Root). had_link c p i y x ≡ true) of (carried_had c w i z p why aim index root count at x q b.origins h))))
    (λ h. subst (λ (y : Option Call). has_had c i p y (row_of (finds w i)) ≡ true) (sym b.began)
    (call_had c p i (w.seat i).call task (finds w i) serves (subst (λ (y : Root). had_link c p i y (finds w i) ≡ true) of
    (subst (λ (x : ℕ). had_link c p i root x ≡ true) (sym (found_root w i why aim index root count at q h)) (root_now c w.mem p i root b.leads))))))
    (λ head tail e.
    let r : (w.seat i).phase ≡ Runs (FollowsHead head tail) (Protect aim index root count at) = q ∙ ap (λ (y : Why). Runs y (Protect aim index root count at)) e in
    let a = aimed_at w i (FollowsHead head tail) aim index root count at b.seats r in
    subst (λ (y : Root). at_shows (is_odd c p i) index y (bump count) (counted (w.seat i).post) at (finds w i) ≡ false) (sym a.of)
    (next_even c p i index head (bump count) (counted (w.seat i).post) at (finds w i) a.at))

run_even : (c : Config) (w : World) (i : ℕ) (z : Asked) (p : Past) (why : Why) (base : Base) → (w.seat i).phase ≡ Runs why base → Knows c w i z p → base_shows (is_odd c p i) (counted (w.seat i).post) base (finds w i) ≡ false
run_even c w i z p why (Protect aim index root count at) q b = protect_even c w i z p why aim index root count at q (run_of w i why (Protect aim index root count at) b.seats q).suited b
run_even c w i z p why (Reload parent index slot era count) q b =
    let r = run_of w i why (Reload parent index slot era count) b.seats q in
    and_by (finds w i == parent + 1) (is_odd c p i (events.Held index slot (bump count))) (λ e. reload_even c p i index slot (bump count) (reload_index why index r.suited r.shape.at))
run_even c w i z p why (Clear rows index) q b = cleared_even c p i index (stands (w.seat i).post index)
run_even c w i z p why (Release index) q b = cleared_even c p i index (stands (w.seat i).post index)
run_even c w i z p why base q b = refl

phase_even : (c : Config) (w : World) (i : ℕ) (z : Asked) (p : Past) (phase : Phase) → (w.seat i).phase ≡ phase → Knows c w i z p → phase_shows (is_odd c p i) (counted (w.seat i).post) phase (finds w i) ≡ false
phase_even c w i z p Idle q b = refl
phase_even c w i z p (Runs why base) q b = run_even c w i z p why base q b
phase_even c w i z p (Scans later at) q b = refl
phase_even c w i z p (Works work) q b = none_worked (is_odd c p i) work (counted (w.seat i).post) (λ index slot. refl) (λ from index slot. refl)

-- what is right where a step begins is right where it is told
had_more : (c : Config) (p : Past) (i : ℕ) (event : Event) (call : Option Call) (found : Option ℕ) → is_within event ≡ true → has_had c i p call found ≡ true → has_had c i (Then p i event) call found ≡ true
had_more c p i event (Some (names.Get key)) found w h = one_held i i (λ (q : Past). same_value found (bucket_at (key % c.buckets) q)) p event (within_begins i i p event w) h
had_more c p i event (Some (names.Put key value)) found w h = one_held i i (λ (q : Past). same_value found (bucket_at (key % c.buckets) q)) p event (within_begins i i p event w) h
had_more c p i event (Some (names.PutIf key value version)) found w h = one_held i i (λ (q : Past). same_value found (bucket_at (key % c.buckets) q)) p event (within_begins i i p event w) h
had_more c p i event (Some (names.Remove key)) found w h = one_held i i (λ (q : Past). same_value found (bucket_at (key % c.buckets) q)) p event (within_begins i i p event w) h
had_more c p i event (Some (names.Hold key)) found w h = one_held i i (λ (q : Past). same_value found (bucket_at (key % c.buckets) q)) p event (within_begins i i p event w) h
had_more c p i event (Some (names.Enqueue value)) found w h = one_held i i (λ (q : Past). same_value found (Some (tail_at c.slots q))) p event (within_begins i i p event w) h
had_more c p i event (Some names.Dequeue) found w h = one_held i i (λ (q : Past). same_value found (Some (head_at c.slots q))) p event (within_begins i i p event w) h
had_more c p i event call found w h = absurd (cc)

or_more : (a b d : Bool) → (b ≡ true → d ≡ true) → not (a || b) ≡ false → not (a || d) ≡ false
or_more true b d f h = refl
or_more false true d f h = ap not (f refl)
or_more false false d f h = absurd (cc)

began_more : (c : Config) (p : Past) (i : ℕ) (event : Event) (found : Option ℕ) → is_within event ≡ true → has_had c i p (began_of i p) found ≡ true → has_had c i (Then p i event) (began_of i (Then p i event)) found ≡ true
began_more c p i event found w h =
    subst (λ (y : Option Call). has_had c i (Then p i event) y found ≡ true) (sym (own_began i p event ∙ one_began event (began_of i p) w)) (had_more c p i event (began_of i p) found w h)

odd_more : (c : Config) (p : Past) (i : ℕ) (event later : Event) → is_within event ≡ true → is_odd c p i later ≡ false → is_odd c (Then p i event) i later ≡ false
odd_more c p i event (events.Held index slot count) w h = or_more (index == 1) (has_had c i p (began_of i p) (Some slot)) (has_had c i (Then p i event) (began_of i (Then p i event)) (Some slot)) (began_more c p i event (Some slot) w) h
odd_more c p i event (events.Null index count) w h = or_more (index == 1) (has_had c i p (began_of i p) None) (has_had c i (Then p i event) (began_of i (Then p i event)) None) (began_more c p i event None w) h
odd_more c p i event later w h = refl

any_more : (f g : Event → Bool) (told : List Event) → ((event : Event) → f event ≡ false → g event ≡ false) → list_any f told ≡ false → list_any g told ≡ false
any_more f g [] m h = refl
any_more f g (event ∷ told) m h =
    let a : g event ≡ false = m event (or_left (f event) (list_any f told) h) in
    let b : list_any g told ≡ false = any_more f g told m (none_rest (f event) (list_any f told) h) in
    rw (a, b) refl

even_each : (c : Config) (i : ℕ) (told : List Event) (p : Past) → all_of is_within told ≡ true → list_any (is_odd c p i) told ≡ false → Each (sources_ok c) p → Each (sources_ok c) (tells_of p i told)
even_each c i [] p w h g = g
even_each c i (event ∷ told) p w h g =
    let v : is_within event ≡ true = first_of (is_within event) (all_of is_within told) w in
    even_each c i told (Then p i event) (rest_of (is_within event) (all_of is_within told) w)
    (any_more (is_odd c p i) (is_odd c (Then p i event) i) told (λ later. odd_more c p i event later v) (none_rest (is_odd c p i event) (list_any (is_odd c p i) told) h))
    (true_of_not (sources_ok c p i event) (or_left (is_odd c p i event) (list_any (is_odd c p i) told) h), g)

pub records_find_sources : RecordsFindSources
records_find_sources layout items d = record_each layout (sources_ok layout.config) items (record {
  begins = λ p i call. refl;
  steps = λ path i t g.
      let w : World = world_of layout path in
      let p : Past = record_of layout path in
      let a = answers_of layout path d in
      let k = sources_of layout path d in
      even_each layout.config i (told_in w i) p (within_of w i)
      (step_any (is_odd layout.config p i) w i (odd_calm layout.config p i) (odd_later layout.config p i)
      ∙ phase_even layout.config w i k.asked p (w.seat i).phase refl (record { table = ap (λ (x : Layout). x.config) k.table; origins = k.links; leads = leads_of layout path d; began = (a.seats i).began t.busy; serves = (a.seats i).serves t.busy; seats = a.known.known.seats })) g;
})
