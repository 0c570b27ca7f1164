-- What was so at a position of a record since an entry goes on to be so; and what a walk has seen stays seen.
use Rattle.std.proofs.Common.{ℕ, ◌≡◌, ◌+◌, Bool, true, false, List, [], ◌∷◌, Option, Some, None, refl, ap}
use Rattle.std.specs.Prelude.{◌==◌, ◌&&◌, ◌||◌, not, nat_lt, if◌then◌else◌}
use Rattle.law_scans.specs.inv.model.defs.declared.call.Call.{Call}
use Rattle.law_scans.specs.inv.model.defs.declared.call.Call.TheVariants as names
use Rattle.law_scans.specs.inv.model.defs.declared.event.Event.{Event}
use Rattle.law_scans.specs.inv.model.defs.declared.event.Event.TheVariants as events
use Rattle.law_scans.specs.inv.model.defs.declared.lifetime.Interval.{Interval}
use Rattle.law_scans.specs.inv.model.declared.post.Post.{Post}
use Rattle.law_scans.specs.inv.model.Desks.{Desk}
use Rattle.law_scans.specs.inv.model.Phases.AllocateAt.{ClaimSlot}
use Rattle.law_scans.specs.inv.model.Phases.Base.{Allocate, Clear}
use Rattle.law_scans.specs.inv.model.Locals.{told_by}
use Rattle.law_scans.proofs.Leaving.{parts_all}
use Rattle.law_scans.specs.inv.model.Calls.{LetGo, Released, Rehold, Dropped, AfterScan, Answered, Repeated, Counted, ReadGuard, GiveBack, ScanAt, Holds, Task, Phase, Idle, Runs, Scans, Works}
use Rattle.law_scans.specs.inv.model.Guards.{guards, guard_at, published}
use Rattle.law_scans.specs.inv.model.Posts.{stands, withdrawn}
use Rattle.law_scans.specs.inv.model.words.Schemes.{has_one_interval, publishes_rows}
use Rattle.law_scans.specs.inv.model.Rounds.{begin_base, begin_span, kept_row, let_index, letting, letting_by, release_span, round, round_by, scheme_of}
use Rattle.law_scans.specs.inv.model.Scan as scan
use Rattle.law_scans.specs.inv.model.Steps as steps
use Rattle.law_scans.proofs.inv.model.Facts.{both, first_of, rest_of, or_left_true, or_more}
use Rattle.law_scans.specs.inv.shapes.Frame.{phase_left}
use Rattle.law_scans.specs.inv.history.Record.{Past, Test, begins, own, held_since, tells_of}
use Rattle.law_scans.specs.inv.history.Record.Past.{Start, Then}
use Rattle.law_scans.proofs.inv.history.AllOf.{all_of}
use Rattle.law_scans.proofs.reuse.Once.Calm.{is_unread, run_unread, work_unread}
use Rattle.law_scans.specs.inv.ends.Walks.{WalkPhase}
use Rattle.law_scans.specs.inv.model.words.declared.config.SchemeKind.{SchemeKind}
use Rattle.law_scans.specs.inv.model.words.declared.config.SchemeKind.TheVariants.{He, Hp, Ibr, Wfe}
use Rattle.law_scans.specs.laws.StateAt.{is_mark}

-- at this position
pub held_now : (test : Test) (f : Past → Bool) (p : Past) → f p ≡ true → held_since test f p ≡ true
held_now test f Start h = h
held_now test f (Then p k event) h = or_left_true (f (Then p k event)) (not (test p k event) && held_since test f p) h

-- an entry later
pub held_on : (test : Test) (f : Past → Bool) (p : Past) (k : ℕ) (event : Event) → test p k event ≡ false → held_since test f p ≡ true → held_since test f (Then p k event) ≡ true
held_on test f p k event n h = or_more (f (Then p k event)) (not (test p k event) && held_since test f p) (both (not (test p k event)) (held_since test f p) (ap not n) h)

-- after all that a step tells
pub held_tells : (test : Test) (f : Past → Bool) (quiet : Event → Bool) (k : ℕ) → ((p : Past) (event : Event) → quiet event ≡ true → test p k event ≡ false) → (told : List Event) (p : Past) → all_of quiet told ≡ true → held_since test f p ≡ true → held_since test f (tells_of p k told) ≡ true
held_tells test f quiet k n [] p q h = h
held_tells test f quiet k n (event ∷ told) p q h =
    held_tells test f quiet k n told (Then p k event) (rest_of (quiet event) (all_of quiet told) q) (held_on test f p k event (n p event (first_of (quiet event) (all_of quiet told) q)) h)

pub held_others : (test : Test) (f : Past → Bool) (k : ℕ) → ((p : Past) (event : Event) → test p k event ≡ false) → (told : List Event) (p : Past) → held_since test f p ≡ true → held_since test f (tells_of p k told) ≡ true
held_others test f k n [] p h = h
held_others test f k n (event ∷ told) p h = held_others test f k n told (Then p k event) (held_on test f p k event (n p event) h)

-- entries of another seat pass no test of a seat's own
pub others_own : (k i : ℕ) (kind : Event → Bool) (p : Past) (event : Event) → (k == i) ≡ false → own k kind p i event ≡ false
others_own k i kind p event e = rw e (by (kind event))
  where
    by : (x : Bool) → (x && false) ≡ false
    by true = refl
    by false = refl

pub others_begin : (k i : ℕ) (p : Past) (event : Event) → (k == i) ≡ false → begins k p i event ≡ false
others_begin k i p (events.Begin call) e = e
others_begin k i p event e = refl

-- since an entry of the call's scan is since the call's beginning
no_mark : (i k : ℕ) (p : Past) (event : Event) → not (own i is_mark p k event) ≡ true → not (begins i p k event) ≡ true
no_mark i k p (events.Begin call) h = h
no_mark i k p event h = refl

within_by : (now mark begin since was : Bool) → (not mark ≡ true → not begin ≡ true) → (since ≡ true → was ≡ true) → (now || (not mark && since)) ≡ true → (now || (not begin && was)) ≡ true
within_by true mark begin since was m f h = refl
within_by false mark begin since was m f h = both (not begin) was (m (first_of (not mark) since h)) (f (rest_of (not mark) since h))

pub within_call : (i : ℕ) (f : Past → Bool) (p : Past) → held_since (own i is_mark) f p ≡ true → held_since (begins i) f p ≡ true
within_call i f Start h = h
within_call i f (Then p k event) h = within_by (f (Then p k event)) (own i is_mark p k event) (begins i p k event) (held_since (own i is_mark) f p) (held_since (begins i) f p) (no_mark i k p event) (within_call i f p) h

-- a step that is of no scan
abbrev pub is_scanning : Phase → Bool
is_scanning Idle = false
is_scanning (Runs why base) = false
is_scanning (Scans later at) = true
is_scanning (Works work) = false

one_all : (quiet : Event → Bool) (told : List Event) → all_of quiet told ≡ true → all_of quiet told ≡ true
one_all quiet [] h = refl
one_all quiet (event ∷ told) h = both (quiet event) (all_of quiet told) (first_of (quiet event) (all_of quiet told) h) (one_all quiet told (rest_of (quiet event) (all_of quiet told) h))

pub told_unread : (phase : Phase) (post : Post) (desk : Desk) (found : ℕ) → is_scanning phase ≡ false → all_of is_unread (told_by (steps.phase_turn phase post desk found)) ≡ true
told_unread Idle post desk found n = refl
told_unread (Runs why base) post desk found n = one_all is_unread (told_by (steps.phase_turn (Runs why base) post desk found)) (run_unread why base post desk found)
told_unread (Works work) post desk found n = one_all is_unread (told_by (steps.phase_turn (Works work) post desk found)) (work_unread work post desk found)
told_unread (Scans later at) post desk found n = absurd (cc)

-- what a walk has seen
pub walk_more : (slots : ℕ) (seen more : ℕ → Bool) → ((s : ℕ) → seen s ≡ true → more s ≡ true) → (phase : Phase) → WalkPhase slots seen phase → WalkPhase slots more phase
walk_more slots seen more m (Runs why (Allocate (ClaimSlot birth walk))) h = record {
  start = h.start;
  slot = h.slot;
  at = h.at;
  passed = λ s l b. m s (h.passed s l b);
  first = λ s e c. m s (h.first s e c);
  shown = λ s e c. m s (h.shown s e c);
}
walk_more slots seen more m phase h = tt

-- no walk begins with a round, a call or a scan
span_walks : (slots : ℕ) (seen : ℕ → Bool) (task : Task) (post : Post) (x : Option Interval) → WalkPhase slots seen (round_by task post (begin_span x))
span_walks slots seen task post None = tt
span_walks slots seen task post (Some span) = tt

base_walks : (slots : ℕ) (seen : ℕ → Bool) (task : Task) (post : Post) (scheme : SchemeKind) → WalkPhase slots seen (round_by task post (begin_base scheme post))
base_walks slots seen task post He = tt
base_walks slots seen task post Ibr = span_walks slots seen task post post.span
base_walks slots seen task post Wfe = tt
base_walks slots seen task post Hp = tt

round_walks : (slots : ℕ) (seen : ℕ → Bool) (task : Task) (post : Post) → WalkPhase slots seen (round task post)
round_walks slots seen task post = base_walks slots seen task post (scheme_of post)

-- nor with letting go
span_unwalks : (slots : ℕ) (seen : ℕ → Bool) (let_go : LetGo) (index : ℕ) (x : Option ℕ) → WalkPhase slots seen (letting_by let_go (release_span index x))
span_unwalks slots seen let_go index None = tt
span_unwalks slots seen let_go index (Some slot) = tt

base_unwalks : (slots : ℕ) (seen : ℕ → Bool) (let_go : LetGo) (index : ℕ) (x : Option ℕ) (one rows : Bool) → WalkPhase slots seen (letting_by let_go (if one then release_span index x else Some (Clear rows index)))
base_unwalks slots seen let_go index x true rows = span_unwalks slots seen let_go index x
base_unwalks slots seen let_go index x false rows = tt

release_walks : (slots : ℕ) (seen : ℕ → Bool) (let_go : LetGo) (post : Post) → WalkPhase slots seen (letting let_go post)
release_walks slots seen let_go post = base_unwalks slots seen let_go (let_index let_go) (kept_row (withdrawn post (let_index let_go))) (has_one_interval (scheme_of post)) (publishes_rows (scheme_of post))

copying_walks : (slots : ℕ) (seen : ℕ → Bool) (from index : ℕ) (x : Option ℕ) → WalkPhase slots seen (steps.copying from index x)
copying_walks slots seen from index None = tt
copying_walks slots seen from index (Some slot) = tt

looking_walks : (slots : ℕ) (seen : ℕ → Bool) (index key : ℕ) (x : Option ℕ) → WalkPhase slots seen (steps.looking_at index key x)
looking_walks slots seen index key None = tt
looking_walks slots seen index key (Some slot) = tt

holding_walks : (slots : ℕ) (seen : ℕ → Bool) (key : ℕ) (post : Post) (x : Option ℕ) → WalkPhase slots seen (steps.holding key post x)
holding_walks slots seen key post None = round_walks slots seen (Holds key) post
holding_walks slots seen key post (Some slot) = release_walks slots seen (Rehold key) post

pub first_walks : (slots : ℕ) (seen : ℕ → Bool) (call : Call) (post : Post) → WalkPhase slots seen (steps.first_phase call post)
first_walks slots seen (names.Get key) post = round_walks slots seen _ post
first_walks slots seen (names.Put key value) post = round_walks slots seen _ post
first_walks slots seen (names.Remove key) post = round_walks slots seen _ post
first_walks slots seen (names.Enqueue value) post = round_walks slots seen _ post
first_walks slots seen names.Dequeue post = round_walks slots seen _ post
first_walks slots seen (names.Hold key) post = holding_walks slots seen key post (stands post 2)
first_walks slots seen names.Release post = release_walks slots seen Released post
first_walks slots seen (names.Copy from index) post = copying_walks slots seen from index (stands post from)
first_walks slots seen (names.DropIndex index) post = release_walks slots seen (Dropped index) post
first_walks slots seen (names.Look index key) post = looking_walks slots seen index key (stands post index)
first_walks slots seen names.Leave post = parts_all (λ (phase : Phase). WalkPhase slots seen phase) (record { clears = λ rows index. tt; hides = tt; marks = tt }) post
first_walks slots seen (names.Adopt place) post = tt
first_walks slots seen (names.PutIf key value version) post = round_walks slots seen _ post
first_walks slots seen names.Advance post = tt
first_walks slots seen names.Scan post = tt

scanned_walks : (slots : ℕ) (seen : ℕ → Bool) (later : AfterScan) (post : Post) (desk : Desk) (told : List Event) → WalkPhase slots seen (phase_left (scan.scanned later post desk told).outcome)
scanned_walks slots seen (Answered answer) post desk told = tt
scanned_walks slots seen (Repeated task) post desk told = round_walks slots seen task post
scanned_walks slots seen Counted post desk told = tt

giving_walks : (slots : ℕ) (seen : ℕ → Bool) (later : AfterScan) (post : Post) (desk : Desk) (told : List Event) (x : Option scan.Entry) → WalkPhase slots seen (phase_left (scan.giving_back later post desk told x).outcome)
giving_walks slots seen later post desk told None = scanned_walks slots seen later post (scan.with_kept desk) told
giving_walks slots seen later post desk told (Some entry) = tt

reading_walks : (slots : ℕ) (seen : ℕ → Bool) (later : AfterScan) (n : ℕ) (post : Post) (desk : Desk) (told : List Event) (more : Bool) → WalkPhase slots seen (phase_left (scan.reading later n post desk told more).outcome)
reading_walks slots seen later n post desk told true = tt
reading_walks slots seen later n post desk told false = giving_walks slots seen later post desk told (scan.unmet_from desk 0)

pub scan_walks : (slots : ℕ) (seen : ℕ → Bool) (later : AfterScan) (at : ScanAt) (post : Post) (desk : Desk) (found : ℕ) → WalkPhase slots seen (phase_left (scan.scan_turn later at post desk found).outcome)
scan_walks slots seen later (ReadGuard n) post desk found = reading_walks slots seen later n post (scan.with_read desk n (guard_at post.layout.config n, published (publishes_rows post.layout.config.scheme) (guard_at post.layout.config n) found)) (scan.reads_guard (publishes_rows post.layout.config.scheme) (guard_at post.layout.config n) found ∷ []) (nat_lt (n + 1) (guards post.layout.config))
scan_walks slots seen later (GiveBack place slot) post desk found = giving_walks slots seen later post (scan.with_back desk place) (events.Back slot ∷ []) (scan.unmet_from (scan.with_back desk place) place)
