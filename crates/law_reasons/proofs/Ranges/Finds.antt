-- The indexes and rows at which protections are told to end, and those that are cleared, are those of the table.
use Rattle.std.proofs.Common.{ℕ, ◌≡◌, ◌≤◌, ◌+◌, ◌-◌, Bool, true, false, List, [], ◌∷◌, ◌++◌, Option, Some, None, refl, sym, ap, ◌∙◌, subst, arith}
use Rattle.std.proofs.lemmas.Bool.Decides.{nat_tests}
use Rattle.std.specs.List.{list_any}
use Rattle.std.specs.Prelude.{◌==◌, ◌&&◌, ◌||◌, drop, not, nat_le, nat_lt, if◌then◌else◌}
use Rattle.law_scans.specs.inv.model.words.Place.{is_valid}
use Rattle.law_scans.specs.inv.model.words.declared.config.Config.{Config}
use Rattle.law_scans.specs.inv.model.words.declared.config.SchemeKind.{SchemeKind}
use Rattle.law_scans.specs.inv.model.words.declared.config.SchemeKind.TheVariants.{He, Hp, Ibr, Wfe}
use Rattle.law_scans.specs.inv.model.words.declared.layout.Layout.{Layout}
use Rattle.law_scans.specs.inv.model.defs.declared.event.Event.{Event}
use Rattle.law_scans.specs.inv.model.defs.declared.event.Event.TheVariants as events
use Rattle.law_scans.specs.inv.model.defs.declared.event.Root.{Root}
use Rattle.law_scans.specs.inv.model.defs.declared.event.Root.TheVariants as roots
use Rattle.law_scans.specs.inv.model.declared.post.Post.{Post}
use Rattle.law_scans.specs.inv.model.Calls.{Getting, Changing, Enqueuing, Dequeuing, Keeping, KeepAt, Loosens, LoadHeld, StoreHeld, Looks, Misses, HideSpan, MarkLeft, TakeList, MarkTaken, Work, ReadGuard, GiveBack, Why, Phase, Idle, Runs, Scans, Works}
use Rattle.law_scans.specs.inv.model.Guards.{guard_at}
use Rattle.law_scans.proofs.reuse.ReadGuards.{reads_are}
use Rattle.law_scans.specs.inv.model.Machine as machine
use Rattle.law_scans.specs.inv.model.Memory.{bump, found, place_in}
use Rattle.law_scans.specs.inv.model.Phases.{ProtectAt, Base}
use Rattle.law_scans.specs.inv.model.Phases.ProtectAt.{CheckClock, TakeAnswer, CheckUpper, ByHazard}
use Rattle.law_scans.specs.inv.model.Phases.HazardAt.{FirstLink, PublishLink, CheckLink}
use Rattle.law_scans.specs.inv.model.Phases.Base.{Protect, Reload, Clear, Release}
use Rattle.law_scans.specs.inv.model.Posts.{stands, counted, cleared, cleared_from, publishes_index, reserves_span, upper}
use Rattle.law_scans.specs.inv.model.words.Schemes.{has_one_interval, publishes_rows}
use Rattle.law_scans.specs.inv.model.Protect.{told_held}
use Rattle.law_scans.specs.inv.model.Rounds.{scheme_of, let_index, clear_post, clear_told}
use Rattle.law_scans.specs.inv.model.Steps.{phase_move}
use Rattle.law_scans.specs.inv.model.World.{World, finds, offered, told_in}
use Rattle.law_scans.proofs.inv.model.Facts.{both, or_left_true, or_more, same_number, not_or_false, and_true, and_right_false, first_of, le_test, lt_test}
use Rattle.law_scans.specs.inv.shapes.Eras.{Eras}
use Rattle.law_scans.specs.inv.shapes.Seats.{PhaseFits, Run, Seats}
use Rattle.law_scans.specs.inv.shapes.Slots.{BaseIn, CopyIn, KeepIn, PhaseIn, PostIn, ProtectIn, StandsIn, Slots, WhyIn, WorkIn}
use Rattle.law_scans.proofs.inv.Inv.Shapes.{index_in}
use Rattle.law_scans.specs.inv.ends.Stands.{is_clear}
use Rattle.law_scans.proofs.inv.covers.Stands.{bare_stands}
use Rattle.law_scans.proofs.inv.ends.Ends.Left.{left_stood}
use Rattle.law_scans.proofs.inv.ends.Ends.Tests.{Calm, at_shows, base_shows, base_any}
use Rattle.law_scans.proofs.inv.history.AllOf.{all_of, of_along, of_weaker}
use Rattle.law_scans.proofs.inv.history.Passes.{is_quiet, Closed, First, copied_post, copied_told, keep_post, keep_told, step_goes, work_post, work_told}
use Rattle.law_scans.proofs.reuse.shapes.Decode.{told_of}
use Rattle.law_scans.proofs.reuse.shapes.Frame.{finds_counted}
use Rattle.law_scans.proofs.reuse.shapes.Kept.{run_counted}
use Rattle.law_scans.proofs.reuse.shapes.SlotCalls.{link_row}
use Rattle.law_scans.proofs.reuse.shapes.SlotRounds.{row_slots, withdrawn_slots}
use Rattle.law_scans.proofs.reuse.shapes.SlotSteps.{machine_slots}

abbrev pub finds_in : Config → Event → Bool
finds_in c (events.Held index slot steps) = nat_lt index c.indexes && nat_le slot c.slots
finds_in c (events.Null index steps) = nat_lt index c.indexes
finds_in c (events.Clear index slot) = nat_lt index c.indexes && nat_le slot c.slots
finds_in c (events.Copied from index slot) = nat_lt from c.indexes && (nat_lt index c.indexes && nat_le slot c.slots)
finds_in c event = true

abbrev is_odd : Config → Event → Bool
is_odd c event = not (finds_in c event)

odd_calm : (c : Config) → Calm (is_odd c)
odd_calm c = record { reserve = λ g x. refl; hazard = λ g x. refl; saw = λ g x. refl; read = λ g x. refl; era = λ e. refl; give = λ a b. refl; unused = λ a. refl; retire = λ a b r. refl; back = λ a. refl }

none_odd : (c : Config) (told : List Event) → list_any (is_odd c) told ≡ false → all_of (finds_in c) told ≡ true
none_odd c [] h = refl
none_odd c (event ∷ told) h = let q = not_or_false (finds_in c event) (list_any (is_odd c) told) h in both (finds_in c event) (all_of (finds_in c) told) q.0 (none_odd c told q.1)

-- a machine
one_even : (c : Config) (event : Event) → finds_in c event ≡ true → list_any (is_odd c) (event ∷ []) ≡ false
one_even c event h = rw h refl

link_even : (c : Config) (index link n : ℕ) (null : Bool) → nat_lt index c.indexes ≡ true → link ≤ c.slots + 1 → list_any (is_odd c) (if null then events.Null index n ∷ [] else events.Held index (link - 1) n ∷ []) ≡ false
link_even c index link n true i h = one_even c (events.Null index n) i
link_even c index link n false i h = one_even c (events.Held index (link - 1) n) (both (nat_lt index c.indexes) (nat_le (link - 1) c.slots) i (le_test (link - 1) c.slots (link_row c.slots link h)))

next_even : (c : Config) (index n : ℕ) (null : Bool) → nat_lt index c.indexes ≡ true → list_any (is_odd c) (if null then events.Null index n ∷ [] else []) ≡ false
next_even c index n true i = one_even c (events.Null index n) i
next_even c index n false i = refl

held_even : (c : Config) (index : ℕ) (root : Root) (link n : ℕ) → nat_lt index c.indexes ≡ true → link ≤ c.slots + 1 → list_any (is_odd c) (told_held index root link n) ≡ false
held_even c index (roots.Next parent) link n i h = next_even c index n (link == 0) i
held_even c index (roots.Bucket bucket) link n i h = link_even c index link n (link == 0) i h
held_even c index roots.Head link n i h = link_even c index link n (link == 0) i h
held_even c index roots.Tail link n i h = link_even c index link n (link == 0) i h

-- where rows are published the link is loaded now: it is null, or the one that was published
null_even : (c : Config) (index : ℕ) (root : Root) (n found : ℕ) (null : Bool) → (found == 0) ≡ null → nat_lt index c.indexes ≡ true → (null && list_any (is_odd c) (told_held index root found n)) ≡ false
null_even c index root n found true e i = let z : found ≤ c.slots + 1 = grind (arith, nat_tests) in held_even c index root found n i z
null_even c index root n found false e i = refl

again_even : (c : Config) (index : ℕ) (root : Root) (n link found : ℕ) (same : Bool) → (found == link || found == 0) ≡ same → nat_lt index c.indexes ≡ true → link ≤ c.slots + 1 → (same && list_any (is_odd c) (told_held index root found n)) ≡ false
again_even c index root n link found true e i h = let z : found ≤ c.slots + 1 = grind (arith, nat_tests) in held_even c index root found n i z
again_even c index root n link found false e i h = refl

at_even : (layout : Layout) (index : ℕ) (root : Root) (n : ℕ) (post : Post) (at : ProtectAt) (found : ℕ) → nat_lt index layout.config.indexes ≡ true → ProtectIn layout.config.slots at → at_shows (is_odd layout.config) index root n post at found ≡ false
at_even layout index root n post (CheckClock era tries link) found i h = and_right_false (found == era) (list_any (is_odd layout.config) (told_held index root link n)) (held_even layout.config index root link n i h)
at_even layout index root n post (TakeAnswer link era) found i h = held_even layout.config index root link n i h
at_even layout index root n post (CheckUpper link) found i h = and_right_false (found == upper post.span) (list_any (is_odd layout.config) (told_held index root link n)) (held_even layout.config index root link n i h)
at_even layout index root n post (ByHazard FirstLink) found i h = null_even layout.config index root n found (found == 0) refl i
at_even layout index root n post (ByHazard (PublishLink link)) found i h = refl
at_even layout index root n post (ByHazard (CheckLink link)) found i h = again_even layout.config index root n link found (found == link || found == 0) refl i h.1
at_even layout index root n post at found i h = refl

stood_in : (layout : Layout) (index : ℕ) (x : Option ℕ) → StandsIn layout x index → all_of (finds_in layout.config) (cleared index x) ≡ true
stood_in layout index None s = refl
stood_in layout index (Some slot) s =
    and_true (nat_lt index layout.config.indexes && nat_le slot layout.config.slots)
    (both (nat_lt index layout.config.indexes) (nat_le slot layout.config.slots) (lt_test index layout.config.indexes s.1) (le_test slot layout.config.slots s.0))

cleared_even : (layout : Layout) (index : ℕ) (x : Option ℕ) → StandsIn layout x index → list_any (is_odd layout.config) (cleared index x) ≡ false
cleared_even layout index None s = refl
cleared_even layout index (Some slot) s = one_even layout.config (events.Clear index slot) (first_of _ _ (stood_in layout index (Some slot) s))

base_even : (layout : Layout) (why : Why) (base : Base) (post : Post) (found : ℕ) → is_valid layout ≡ true → WhyIn layout.config why → Run layout why base post → BaseIn layout base → PostIn layout post → base_shows (is_odd layout.config) post base found ≡ false
base_even layout why (Protect aim index root steps at) post found d y r h q =
    at_even layout index root (bump steps) post at found (lt_test index layout.config.indexes (index_in layout why (Protect aim index root steps at) post d y r)) h.at_in
base_even layout why (Reload parent index slot era steps) post found d y r h q =
    and_right_false (found == parent + 1) (is_odd layout.config (events.Held index slot (bump steps)))
    (ap not (both (nat_lt index layout.config.indexes) (nat_le slot layout.config.slots) (lt_test index layout.config.indexes (index_in layout why (Reload parent index slot era steps) post d y r)) (le_test slot layout.config.slots h.1)))
base_even layout why (Clear rows index) post found d y r h q = cleared_even layout index (stands post index) (q index)
base_even layout why (Release index) post found d y r h q = cleared_even layout index (stands post index) (q index)
base_even layout why base post found d y r h q = refl

-- a step
abbrev StepIn : Layout → Post → List Event → Type 0
StepIn layout post told = PostIn layout post × (all_of (finds_in layout.config) told ≡ true)

quiet_in : (c : Config) (event : Event) → is_quiet event ≡ true → finds_in c event ≡ true
quiet_in c (events.Held index slot steps) h = absurd (cc)
quiet_in c (events.Null index steps) h = absurd (cc)
quiet_in c (events.Clear index slot) h = absurd (cc)
quiet_in c (events.Copied from index slot) h = absurd (cc)
quiet_in c event h = refl

clear_in : (layout : Layout) (scheme : SchemeKind) (post : Post) (index : ℕ) → PostIn layout post → StepIn layout (clear_post scheme post index) (clear_told scheme post index)
clear_in layout He post index q = (q, refl)
clear_in layout Ibr post index q = (withdrawn_slots layout post index q, stood_in layout index (stands post index) (q index))
clear_in layout Wfe post index q = (q, refl)
clear_in layout Hp post index q = (q, refl)

in_closed : (layout : Layout) → Closed (StepIn layout)
in_closed layout = record {
  calm = λ post told more q h. (h.0, of_along (finds_in layout.config) told more h.1 (of_weaker is_quiet (finds_in layout.config) more (quiet_in layout.config) q));
  clears = λ post told index h. let c = clear_in layout (scheme_of post) post index h.0 in (c.0, of_along (finds_in layout.config) told (clear_told (scheme_of post) post index) h.1 c.1);
}

-- a step of a call on what is kept
copied_in : (layout : Layout) (from index : ℕ) (post : Post) (reserved : List Event) (x : Option ℕ) → CopyIn layout.config from index → StandsIn layout x from → all_of (finds_in layout.config) reserved ≡ true → PostIn layout post
    → StepIn layout (copied_post index post x) (copied_told from index post reserved x)
copied_in layout from index post reserved None k s r q = (q, refl)
copied_in layout from index post reserved (Some slot) k s r q =
    let c : Config = layout.config in
    let one : all_of (finds_in c) (events.Copied from index slot ∷ []) ≡ true =
    and_true (nat_lt from c.indexes && (nat_lt index c.indexes && nat_le slot c.slots))
    (both (nat_lt from c.indexes) (nat_lt index c.indexes && nat_le slot c.slots) (lt_test from c.indexes s.1)
    (both (nat_lt index c.indexes) (nat_le slot c.slots) (lt_test index c.indexes k.below) (le_test slot c.slots s.0))) in (
      row_slots layout post index slot s.0 k.below q,
      of_along (finds_in c) (cleared index (stands post index) ++ reserved) (events.Copied from index slot ∷ []) (of_along (finds_in c) (cleared index (stands post index)) reserved (stood_in layout index (stands post index) (q index)) r) one,
    )

load_in : (layout : Layout) (from index : ℕ) (post : Post) (one : Bool) → CopyIn layout.config from index → PostIn layout post
    → StepIn layout (if one then copied_post index post (stands post from) else post) (if one then copied_told from index post [] (stands post from) else [])
load_in layout from index post true k q = copied_in layout from index post [] (stands post from) k (q from) refl q
load_in layout from index post false k q = (q, refl)

-- all that stands at a seat that leaves
clear_one : (layout : Layout) (index slot : ℕ) → StandsIn layout (Some slot) index → finds_in layout.config (events.Clear index slot) ≡ true
clear_one layout index slot s = both (nat_lt index layout.config.indexes) (nat_le slot layout.config.slots) (lt_test index layout.config.indexes s.1) (le_test slot layout.config.slots s.0)

left_all : (ok : Event → Bool) (index : ℕ) (rows : List (Option ℕ)) → ((j s : ℕ) → list_any (is_clear j s) (cleared_from index rows) ≡ true → ok (events.Clear j s) ≡ true) → all_of ok (cleared_from index rows) ≡ true
left_all ok index [] f = refl
left_all ok index (None ∷ rows) f = left_all ok (index + 1) rows f
left_all ok index (Some slot ∷ rows) f =
    let here : is_clear index slot (events.Clear index slot) ≡ true = both (index == index) (slot == slot) (same_number index) (same_number slot) in
    both (ok (events.Clear index slot)) (all_of ok (cleared_from (index + 1) rows)) (f index slot (or_left_true (is_clear index slot (events.Clear index slot)) (list_any (is_clear index slot) (cleared_from (index + 1) rows)) here))
    (left_all ok (index + 1) rows (λ j s h. f j s (or_more (is_clear j s (events.Clear index slot)) (list_any (is_clear j s) (cleared_from (index + 1) rows)) h)))

keep_in : (layout : Layout) (at : KeepAt) (post : Post) → KeepIn layout.config at → PostIn layout post → StepIn layout (keep_post at post) (keep_told at post)
keep_in layout (Loosens let_go) post k q = (withdrawn_slots layout post (let_index let_go) q, stood_in layout (let_index let_go) (stands post (let_index let_go)) (q (let_index let_go)))
keep_in layout (LoadHeld from index) post k q = load_in layout from index post (has_one_interval (scheme_of post)) k q
keep_in layout (StoreHeld from index era) post k q = copied_in layout from index post (publishes_index (publishes_rows (scheme_of post)) post index era) (stands post from) k (q from) (by (publishes_rows (scheme_of post))) q
  where
    by : (rows : Bool) → all_of (finds_in layout.config) (publishes_index rows post index era) ≡ true
    by true = refl
    by false = refl
keep_in layout (Looks index key at) post k q = (q, refl)
keep_in layout (Misses index) post k q = (q, refl)
keep_in layout HideSpan post k q = (
  λ j. subst (λ (x : Option ℕ). StandsIn layout x j) (sym (bare_stands post j)) tt,
  of_along (finds_in layout.config) (cleared_from 2 (drop 2 post.standing)) (reserves_span post None)
      (left_all (finds_in layout.config) 2 (drop 2 post.standing) (λ j s h. clear_one layout j s (subst (λ (x : Option ℕ). StandsIn layout x j) (left_stood post j s h) (q j)))) refl,
)
keep_in layout MarkLeft post k q = (q, refl)
keep_in layout (TakeList place) post k q = (q, refl)
keep_in layout (MarkTaken place count) post k q = (q, refl)

work_in : (layout : Layout) (work : Work) (post : Post) → WorkIn layout.config work → PostIn layout post → StepIn layout (work_post work post) (work_told work post)
work_in layout (Getting key at) post k q = (q, refl)
work_in layout (Changing kept at) post k q = (q, refl)
work_in layout (Enqueuing kept at) post k q = (q, refl)
work_in layout (Dequeuing at) post k q = (q, refl)
work_in layout (Keeping at) post k q = keep_in layout at post k q

phase_in : (w : World) (i : ℕ) (phase : Phase) → is_valid w.layout ≡ true → Eras w → Slots w → PhaseFits w.layout (w.seat i).post phase → PhaseIn w.layout (w.seat i).desk phase
    → First (StepIn w.layout) phase (counted (w.seat i).post) (found (phase_move phase (counted (w.seat i).post)) (w.mem (place_in (phase_move phase (counted (w.seat i).post)))))
phase_in w i Idle d e s f h = ((s.seats i).post, refl)
phase_in w i (Runs why base) d e s f h =
    let post : Post = counted (w.seat i).post in
    let run = run_counted w.layout why base (w.seat i).post f in
    let there : ℕ = found (phase_move (Runs why base) post) (w.mem (place_in (phase_move (Runs why base) post))) in (
      (machine_slots w.layout w.mem (record { told = told_of w d e; links = s.words }) why base post run h.1 (s.seats i).post).post,
      none_odd w.layout.config (machine.after base post there).told (base_any (is_odd w.layout.config) base post there (odd_calm w.layout.config) ∙ base_even w.layout why base post there d h.0 run h.1 (s.seats i).post),
    )
phase_in w i (Scans later (ReadGuard number)) d e s f h = ((s.seats i).post, reads_are (λ (event : Event). all_of (finds_in w.layout.config) (event ∷ []) ≡ true) _ (guard_at (w.seat i).post.layout.config number) _ (λ span. refl) (λ slot. refl))
phase_in w i (Scans later (GiveBack place slot)) d e s f h = ((s.seats i).post, refl)
phase_in w i (Works work) d e s f h = work_in w.layout work (counted (w.seat i).post) h (s.seats i).post

pub step_finds : (w : World) (i : ℕ) → is_valid w.layout ≡ true → Seats w → Eras w → Slots w → all_of (finds_in w.layout.config) (told_in w i) ≡ true
step_finds w i d a e s =
    let there : First (StepIn w.layout) (w.seat i).phase (counted (w.seat i).post) (finds w i) =
    subst (λ (x : ℕ). First (StepIn w.layout) (w.seat i).phase (counted (w.seat i).post) x) (finds_counted w i) (phase_in w i (w.seat i).phase d e s (a.fits i).phase (s.seats i).phase) in
    (step_goes (StepIn w.layout) (in_closed w.layout) (w.seat i).phase (counted (w.seat i).post) (offered w i).desk (finds w i) there).1
