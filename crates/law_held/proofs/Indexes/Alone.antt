-- A protection ends only where nothing stands at its index, and so a copy is made.
use Rattle.std.proofs.Common.{ℕ, ◌≡◌, Bool, true, false, List, [], ◌∷◌, ◌++◌, Option, None, refl, sym, ap, ◌∙◌, subst, drop, ◌+◌}
use Rattle.std.specs.Prelude.{◌==◌, ◌&&◌, ◌||◌, not, is_none, if◌then◌else◌, Some}
use Rattle.law_scans.specs.inv.model.words.Place.{is_valid}
use Rattle.law_scans.specs.inv.model.words.declared.config.SchemeKind.{SchemeKind}
use Rattle.law_scans.specs.inv.model.words.declared.layout.Layout.{Layout}
use Rattle.law_scans.specs.inv.model.defs.declared.event.Event.{Event}
use Rattle.law_scans.specs.inv.model.defs.declared.event.Event.TheVariants as events
use Rattle.law_scans.specs.inv.model.declared.post.Post.{Post}
use Rattle.law_scans.specs.inv.model.Calls.{Task, Gets, Changes, Holds, Enqueues, Dequeues, ReadGuard, GiveBack, Why, Opens, FollowsHead, Phase, Idle, Runs, Scans, Works, Work, Getting, Changing, Enqueuing, Dequeuing, Keeping, Loosens, LoadHeld, StoreHeld, Looks, Misses, HideSpan, MarkLeft, TakeList, MarkTaken}
use Rattle.law_scans.specs.inv.model.Machine as machine
use Rattle.law_scans.specs.inv.model.Memory.{bump}
use Rattle.law_scans.specs.inv.model.Phases.{ProtectAt, Base}
use Rattle.law_scans.specs.inv.model.Phases.ProtectAt.{CheckClock, TakeAnswer, CheckUpper, ByHazard}
use Rattle.law_scans.specs.inv.model.Phases.Base.{Protect, Reload}
use Rattle.law_scans.specs.inv.model.Posts.{stands, counted, cleared, publishes_index, cleared_from, reserves_span}
use Rattle.law_scans.specs.inv.model.Rounds.{index_of, scheme_of, clear_told, let_index}
use Rattle.law_scans.specs.inv.model.words.Schemes.{has_one_interval, publishes_rows}
use Rattle.law_scans.specs.inv.model.World.{World, finds, offered, told_in}
use Rattle.law_scans.proofs.inv.model.Facts.{same_number, first_of, rest_of, number_is}
use Rattle.law_scans.specs.inv.covers.Rests.{Vacant, bare, vacant, vacant_why}
use Rattle.law_scans.specs.inv.shapes.Seats.{Run, Seats, kind_of, suits, index_by}
use Rattle.law_scans.specs.inv.history.History.{record_of, world_of}
use Rattle.law_scans.specs.laws.records.Record.{Past, Each, tells_of}
use Rattle.law_scans.specs.laws.records.Record.Past.{Then}
use Rattle.law_scans.proofs.reuse.history.MayTell.{Shape, Silent, Clears, Drops, Takes, Tells, at_finds, finds_none, finds_row, shape_of, clear_any}
use Rattle.law_scans.proofs.reuse.history.Passes.{is_quiet, all_quiet, Closed, First, copied_told, step_goes, work_told}
use Rattle.law_scans.proofs.inv.ends.Handover.Asks.{run_of}
use Rattle.law_scans.proofs.reuse.Reuse.Follows.{stood, stood_along}
use Rattle.law_scans.proofs.reuse.Reuse.Keeps.{record_stands}
use Rattle.law_scans.proofs.laws.Tells.{AllRight}
use Rattle.law_scans.specs.laws.StateAt.{stood_by, stood_at}
use Rattle.law_held.specs.Records.{RecordsHoldAlone}
use Rattle.law_held.proofs.Indexes.Clears.{own_stood}
use Rattle.law_held.proofs.Roots.Ways.{Along, record_each, answers_of}
use Rattle.law_scans.specs.inv.model.Phases.HazardAt.{FirstLink, CheckLink}
use Rattle.law_scans.proofs.reuse.ReadGuards.{reads_are}
use Rattle.law_scans.specs.inv.model.Guards.{guard_at}

-- at one index: where a protection is told to end there, or a row to be copied there, nothing stood there
abbrev alone_right : ℕ → Event → Option ℕ → Bool
alone_right j (events.Held index slot steps) x = not (j == index) || is_none x
alone_right j (events.Null index steps) x = not (j == index) || is_none x
alone_right j (events.Copied from index slot) x = not (j == index) || is_none x
alone_right j event x = true

abbrev AloneAt : ℕ → List Event → Option ℕ → Type 0
AloneAt j told x = AllRight (stood_by j) (alone_right j) told x

alone_along : (j : ℕ) (xs ys : List Event) (x : Option ℕ) → AloneAt j xs x → AloneAt j ys (stood j xs x) → AloneAt j (xs ++ ys) x
alone_along j [] ys x h k = k
alone_along j (event ∷ xs) ys x h k = (h.0, alone_along j xs ys (stood_by j event x) h.1 k)

-- what comes after a machine ends no protection
quiet_one : (j : ℕ) (event : Event) (x : Option ℕ) → is_quiet event ≡ true → alone_right j event x ≡ true
quiet_one j (events.Held index slot steps) x h = absurd (cc)
quiet_one j (events.Null index steps) x h = absurd (cc)
quiet_one j (events.Copied from index slot) x h = absurd (cc)
quiet_one j event x h = refl

quiet_alone : (j : ℕ) (told : List Event) (x : Option ℕ) → all_quiet told ≡ true → AloneAt j told x
quiet_alone j [] x h = tt
quiet_alone j (event ∷ told) x h = (quiet_one j event x (first_of (is_quiet event) (all_quiet told) h), quiet_alone j told (stood_by j event x) (rest_of (is_quiet event) (all_quiet told) h))

clear_alone : (j index : ℕ) (scheme : SchemeKind) (post : Post) (x : Option ℕ) → AloneAt j (clear_told scheme post index) x
clear_alone j index scheme post x = clear_any (λ told. AloneAt j told x) scheme post index tt (λ slot. (refl, tt))

alone_closed : (j : ℕ) (x : Option ℕ) → Closed (λ post told. AloneAt j told x)
alone_closed j x = record {
  calm = λ post told more q h. alone_along j told more x h (quiet_alone j more (stood j told x) q);
  clears = λ post told index h. alone_along j told (clear_told (scheme_of post) post index) x h (clear_alone j index (scheme_of post) post (stood j told x));
}

-- a machine
none_there : (j index : ℕ) (post : Post) (same : Bool) → (j == index) ≡ same → stands post index ≡ None → (not same || is_none (stands post j)) ≡ true
none_there j index post true e h = let q : j ≡ index = number_is j index e in ap (λ (x : Option ℕ). is_none x) (ap (stands post) q ∙ h)
none_there j index post false e h = refl

-- nothing stands at the index of a machine that finds what its protection is for
abbrev Free : Base → Post → Type 0
Free base post = (index n : ℕ) → finds_row base index n ≡ true → stands post index ≡ None

find_alone : (j : ℕ) (base : Base) (post : Post) (found : ℕ) (event : Event) → Free base post → Tells base post found event → alone_right j event (stands post j) ≡ true
find_alone j base post found (events.Held index slot n) f t = none_there j index post (j == index) refl (f index n t)
find_alone j base post found (events.Null index n) f t = none_there j index post (j == index) refl (f index n (row_of base index n t))
  where
    row_of : (base : Base) (index n : ℕ) → finds_none base index n ≡ true → finds_row base index n ≡ true
    row_of (Protect aim own root made at) index n h = h
    row_of base index n h = absurd (cc)
find_alone j base post found (events.Copied from index slot) f t = absurd (cc)
find_alone j base post found event f t = refl

shape_alone : (j : ℕ) (base : Base) (post : Post) (found : ℕ) (told : List Event) → Free base post → Shape base post found told → AloneAt j told (stands post j)
shape_alone j base post found told f (Silent e) = rw e tt
shape_alone j base post found told f (Shape.Single event e t) = rw e (find_alone j base post found event f t, tt)
shape_alone j base post found told f (Clears index slot guard e a b) = rw e (refl, (refl, tt))
shape_alone j base post found told f (Drops index slot guard e a b) = rw e (refl, (refl, tt))
shape_alone j base post found told f (Takes guard span event e t q a b) = rw e (refl, (find_alone j base post found event f b, tt))

-- where nothing stands by what the machine is run for
task_bare : (task : Task) → bare task (index_of task) ≡ true
task_bare (Gets key) = refl
task_bare (Changes kept) = refl
task_bare (Holds key) = refl
task_bare (Enqueues kept) = refl
task_bare Dequeues = refl

at_bare : (task : Task) (aim : _) (index : ℕ) (root : _) (made : ℕ) (at : ProtectAt) → at_finds at ≡ true → vacant_why (Opens task) (Protect aim index root made at) (index_of task) ≡ true
at_bare task aim index root made (CheckClock era tries link) h = task_bare task
at_bare task aim index root made (TakeAnswer link era) h = task_bare task
at_bare task aim index root made (CheckUpper link) h = task_bare task
at_bare task aim index root made (ByHazard FirstLink) h = task_bare task
at_bare task aim index root made (ByHazard (CheckLink link)) h = task_bare task
at_bare task aim index root made at h = absurd (cc)

protect_vacant : (why : Why) (aim : _) (index : ℕ) (root : _) (made : ℕ) (at : ProtectAt) → suits (Protect aim index root made at) (kind_of why) ≡ true → at_finds at ≡ true → vacant_why why (Protect aim index root made at) (index_by why) ≡ true
protect_vacant (Opens task) aim index root made at s h = at_bare task aim index root made at h
protect_vacant (FollowsHead head tail) aim index root made at s h = refl
protect_vacant why aim index root made at s h = absurd (cc)

reload_vacant : (why : Why) (parent index slot era made : ℕ) → suits (Reload parent index slot era made) (kind_of why) ≡ true → vacant_why why (Reload parent index slot era made) (index_by why) ≡ true
reload_vacant (FollowsHead head tail) parent index slot era made s = refl
reload_vacant why parent index slot era made s = absurd (cc)

run_free : (layout : Layout) (why : Why) (base : Base) (post : Post) → Run layout why base post → Vacant (vacant_why why base) post → Free base post
run_free layout why (Protect aim own root made at) post r v index n h =
    let a = r.shape in
    let q : index ≡ own = number_is index own (first_of (index == own) (n == bump made) (rest_of (at_finds at) (index == own && n == bump made) h)) in
    v index (subst (λ (m : ℕ). vacant_why why (Protect aim own root made at) m ≡ true) (sym (q ∙ a.at)) (protect_vacant why aim own root made at r.suited (first_of (at_finds at) (index == own && n == bump made) h)))
run_free layout why (Reload parent own slot era made) post r v index n h =
    let a = r.shape in
    let q : index ≡ own = number_is index own (first_of (index == own) (n == bump made) h) in
    v index (subst (λ (m : ℕ). vacant_why why (Reload parent own slot era made) m ≡ true) (sym (q ∙ a.at)) (reload_vacant why parent own slot era made r.suited))
run_free layout why base post r v index n h = absurd (cc)

-- a step on what is kept: what stood where a row is copied to is cleared before
cleared_alone : (j index : ℕ) (x y : Option ℕ) → AloneAt j (cleared index x) y
cleared_alone j index None y = tt
cleared_alone j index (Some slot) y = (refl, tt)

gone_none : (j index : ℕ) (x y : Option ℕ) → (j == index) ≡ true → y ≡ x → stood j (cleared index x) y ≡ None
gone_none j index None y e h = h
gone_none j index (Some slot) y e h = rw e refl

copied_none : (j index : ℕ) (post : Post) (reserved : List Event) (same : Bool) → (j == index) ≡ same → ((y : Option ℕ) → stood j reserved y ≡ y) → (not same || is_none (stood j (cleared index (stands post index) ++ reserved) (stands post j))) ≡ true
copied_none j index post reserved true e r =
    let q : j ≡ index = number_is j index e in
    let gone : List Event = cleared index (stands post index) in
    ap (λ (x : Option ℕ). is_none x) (stood_along j gone reserved (stands post j) ∙ r (stood j gone (stands post j)) ∙ gone_none j index (stands post index) (stands post j) e (ap (stands post) q))
copied_none j index post reserved false e r = refl

copied_alone : (j from index : ℕ) (post : Post) (reserved : List Event) (x : Option ℕ) → ((y : Option ℕ) → stood j reserved y ≡ y) → ((y : Option ℕ) → AloneAt j reserved y) → AloneAt j (copied_told from index post reserved x) (stands post j)
copied_alone j from index post reserved None r f = tt
copied_alone j from index post reserved (Some slot) r f =
    let gone : List Event = cleared index (stands post index) in
    alone_along j (gone ++ reserved) (events.Copied from index slot ∷ []) (stands post j)
    (alone_along j gone reserved (stands post j) (cleared_alone j index (stands post index) (stands post j)) (f (stood j gone (stands post j))))
    (copied_none j index post reserved (j == index) refl r, tt)

load_alone : (j from index : ℕ) (post : Post) (one : Bool) → AloneAt j (if one then copied_told from index post [] (stands post from) else []) (stands post j)
load_alone j from index post true = copied_alone j from index post [] (stands post from) (λ y. refl) (λ y. tt)
load_alone j from index post false = tt

-- nor does one that lets go of all
all_alone : (j index : ℕ) (rows : List (Option ℕ)) (x : Option ℕ) → AloneAt j (cleared_from index rows) x
all_alone j index [] x = tt
all_alone j index (row ∷ rows) x =
    alone_along j (cleared index row) (cleared_from (index + 1) rows) x (cleared_alone j index row x) (all_alone j (index + 1) rows (stood j (cleared index row) x))

work_alone : (j : ℕ) (work : Work) (post : Post) → AloneAt j (work_told work post) (stands post j)
work_alone j (Getting key at) post = tt
work_alone j (Changing kept at) post = tt
work_alone j (Enqueuing kept at) post = tt
work_alone j (Dequeuing at) post = tt
work_alone j (Keeping (Loosens let_go)) post = cleared_alone j (let_index let_go) (stands post (let_index let_go)) (stands post j)
work_alone j (Keeping (LoadHeld from index)) post = load_alone j from index post (has_one_interval (scheme_of post))
work_alone j (Keeping (StoreHeld from index number)) post = copied_alone j from index post (publishes_index (publishes_rows (scheme_of post)) post index number) (stands post from) (same (publishes_rows (scheme_of post))) (free (publishes_rows (scheme_of post)))
  where
    same : (rows : Bool) (y : Option ℕ) → stood j (publishes_index rows post index number) y ≡ y
    same false y = refl
    same true y = refl

    free : (rows : Bool) (y : Option ℕ) → AloneAt j (publishes_index rows post index number) y
    free false y = (refl, tt)
    free true y = (refl, tt)
work_alone j (Keeping (Looks index key at)) post = tt
work_alone j (Keeping (Misses index)) post = tt
work_alone j (Keeping HideSpan) post = alone_along j (cleared_from 2 (drop 2 post.standing)) (reserves_span post None) (stands post j) (all_alone j 2 (drop 2 post.standing) (stands post j)) (refl, tt)
work_alone j (Keeping MarkLeft) post = tt
work_alone j (Keeping (TakeList place)) post = tt
work_alone j (Keeping (MarkTaken place count)) post = tt

-- a step
phase_alone : (w : World) (i j : ℕ) (phase : Phase) → Seats w → (w.seat i).phase ≡ phase → Vacant (vacant phase) (w.seat i).post → First (λ post told. AloneAt j told (stands (w.seat i).post j)) phase (counted (w.seat i).post) (finds w i)
phase_alone w i j Idle s e v = tt
phase_alone w i j (Runs why base) s e v =
    let post : Post = counted (w.seat i).post in
    shape_alone j base post (finds w i) (machine.after base post (finds w i)).told (run_free w.layout why base (w.seat i).post (run_of w i why base s e) v) (shape_of base post (finds w i))
phase_alone w i j (Scans later (ReadGuard number)) s e v = reads_are (λ event. AloneAt j (event ∷ []) (stands (w.seat i).post j)) (publishes_rows (w.seat i).post.layout.config.scheme) (guard_at (w.seat i).post.layout.config number) (finds w i) (λ span. (refl, tt)) (λ slot. (refl, tt))
phase_alone w i j (Scans later (GiveBack place slot)) s e v = (refl, tt)
phase_alone w i j (Works work) s e v = work_alone j work (counted (w.seat i).post)

step_alone : (w : World) (i j : ℕ) → Seats w → Vacant (vacant (w.seat i).phase) (w.seat i).post → AloneAt j (told_in w i) (stands (w.seat i).post j)
step_alone w i j s v = step_goes (λ post told. AloneAt j told (stands (w.seat i).post j)) (alone_closed j (stands (w.seat i).post j)) (w.seat i).phase (counted (w.seat i).post) (offered w i).desk (finds w i) (phase_alone w i j (w.seat i).phase s refl v)

-- the law of one index
abbrev alone_at : ℕ → Past → ℕ → Event → Bool
alone_at j p i event = alone_right j event (stood_at i j p)

alone_each : (i j : ℕ) (told : List Event) (p : Past) → AloneAt j told (stood_at i j p) → Each (alone_at j) p → Each (alone_at j) (tells_of p i told)
alone_each i j [] p h g = g
alone_each i j (event ∷ told) p h g = alone_each i j told (Then p i event) (subst (λ (x : Option ℕ). AloneAt j told x) (sym (own_stood i j p event)) h.1) (h.0, g)

index_along : (layout : Layout) (j : ℕ) → is_valid layout ≡ true → Along layout (alone_at j)
index_along layout j d = record {
  begins = λ p i call. refl;
  steps = λ path i t g.
      let w : World = world_of layout path in
      let k = (answers_of layout path d).known.known in
      alone_each i j (told_in w i) (record_of layout path) (subst (λ (x : Option ℕ). AloneAt j (told_in w i) x) (sym (record_stands layout path i j d)) (step_alone w i j k.seats (k.rests.vacant i))) g;
}

same_index : (j : ℕ) (x : Option ℕ) → (not (j == j) || is_none x) ≡ true → is_none x ≡ true
same_index j x h = let e : (j == j) ≡ true = same_number j in rw e at h

pub records_hold_alone : RecordsHoldAlone
records_hold_alone layout items d before i (events.Held index slot steps) later e = same_index index (stood_at i index before) (record_each layout (alone_at index) items (index_along layout index d) before i (events.Held index slot steps) later e)
records_hold_alone layout items d before i (events.Null index steps) later e = same_index index (stood_at i index before) (record_each layout (alone_at index) items (index_along layout index d) before i (events.Null index steps) later e)
records_hold_alone layout items d before i (events.Copied from index slot) later e = same_index index (stood_at i index before) (record_each layout (alone_at index) items (index_along layout index d) before i (events.Copied from index slot) later e)
records_hold_alone layout items d before i event later e = refl
