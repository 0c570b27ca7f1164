-- What a step tells of eras: those that its seat had in hand.
use Rattle.std.proofs.Common.{ℕ, ◌≡◌, ◌≤◌, Bool, true, false, List, [], ◌∷◌, ◌++◌, Option, Some, None, refl, sym, subst, ap, arith}
use Rattle.std.proofs.lemmas.Bool.Decides.{nat_tests}
use Rattle.std.specs.Prelude.{◌==◌, if◌then◌else◌, not, ◌&&◌, ◌||◌}
use Rattle.law_scans.specs.laws.words.Place.Place.{Clock}
use Rattle.law_scans.specs.laws.words.Schemes.{publishes_rows}
use Rattle.law_scans.proofs.reuse.ReadGuards.{reads_are}
use Rattle.law_scans.specs.laws.words.declared.layout.Layout.{Layout}
use Rattle.law_scans.specs.laws.defs.declared.event.Event.{Event}
use Rattle.law_scans.specs.laws.defs.declared.event.Event.TheVariants as events
use Rattle.law_scans.specs.inv.model.declared.post.Post.{Post}
use Rattle.law_scans.specs.inv.model.Calls.{ScanAt, Phase, Idle, Runs, Scans, Works, ReadGuard, GiveBack, Work, Getting, Changing, Enqueuing, Dequeuing, Keeping, KeepAt, Loosens, LoadHeld, StoreHeld, Looks, Misses, HideSpan, MarkLeft, TakeList, MarkTaken}
use Rattle.law_scans.specs.inv.model.Guards.{guard_at, one_era, from_to}
use Rattle.law_scans.specs.inv.model.Machine as machine
use Rattle.law_scans.specs.inv.model.Phases.{Base}
use Rattle.law_scans.specs.inv.model.Phases.BeginAt.{PublishSpan}
use Rattle.law_scans.specs.inv.model.Phases.ProtectAt.{PublishEra, PublishHelper, TakeAnswer, RaiseUpper}
use Rattle.law_scans.specs.inv.model.Phases.AllocateAt.{ClaimSlot}
use Rattle.law_scans.specs.inv.model.Phases.RetireAt.{StoreRetired}
use Rattle.law_scans.specs.inv.model.Phases.MoveAt.{ShowEra, HandOver}
use Rattle.law_scans.specs.inv.model.Phases.Base.{Begin, Protect, Allocate, Retire, Move}
use Rattle.law_scans.specs.inv.model.Posts.{counted, cleared, stands, publishes_index}
use Rattle.law_scans.specs.inv.model.Rounds.{scheme_of, clear_told, let_index}
use Rattle.law_scans.specs.inv.model.World.{World, finds, offered, told_in}
use Rattle.law_scans.proofs.laws.records.defs.Facts.{first_of, rest_of, number_is, or_more, same_number}
use Rattle.law_scans.specs.inv.shapes.Eras.{base_eras, PhaseEras}
use Rattle.law_scans.specs.laws.records.Record.{Past, Test, Each, tells_of, begins, own}
use Rattle.law_scans.specs.laws.records.Record.Past.{Then}
use Rattle.law_scans.proofs.reuse.history.Passes.{is_quiet, Closed, First, scan_told, step_goes, copied_told, keep_told, work_told}
use Rattle.law_scans.proofs.reuse.history.AllOf.{all_of, of_weaker}
use Rattle.law_scans.specs.laws.StateAt.{clock_of, was_clock, cuts, began_of, value_of}
use Rattle.law_scans.specs.laws.EraLaw.{upper_current, is_copied}
use Rattle.law_reasons.proofs.Eras.Current.Ages.{base_since, PhaseSince}
use Rattle.law_reasons.proofs.Eras.Current.Positions.{begun_at, cut_at, was_between}
use Rattle.law_scans.proofs.reuse.history.MayTell.{Tells, Shape, Silent, Single, Clears, Drops, Takes, base_shows, span_of, is_find, shape_of, clear_all, cleared_all}
use Rattle.law_scans.specs.inv.model.Allocate.{is_claimed}
use Rattle.law_scans.specs.laws.defs.declared.lifetime.Interval.{Interval}
use Rattle.law_scans.proofs.laws.Tells.{tells_both}
use Rattle.law_reasons.proofs.Eras.EraLaw.Shapes.{work_passes}
use Rattle.law_scans.specs.laws.defs.declared.call.Call.{Call}
use Rattle.law_scans.specs.laws.defs.declared.call.Call.TheVariants as names
use Rattle.law_scans.specs.laws.defs.declared.event.Guard.{Guard}
use Rattle.law_scans.specs.laws.defs.declared.event.Guard.TheVariants.{Index}

-- the laws on births, retire eras and what is published, in one
abbrev pub current_ok : Test
current_ok p i (events.Give slot birth) = was_clock (begins i) birth p
current_ok p i (events.Retire slot birth retire) = was_clock (own i (cuts slot)) retire p
current_ok p i (events.Reserve guard span) = upper_current i span p || is_copied i (began_of i p) span p
current_ok p i event = true

-- an event of which they say nothing
abbrev pub is_idle : Event → Bool
is_idle (events.Give slot birth) = false
is_idle (events.Retire slot birth retire) = false
is_idle (events.Reserve guard None) = true
is_idle (events.Reserve guard (Some span)) = false
is_idle event = true

idle_ok : (p : Past) (i : ℕ) (event : Event) → is_idle event ≡ true → current_ok p i event ≡ true
idle_ok p i (events.Give slot birth) h = absurd (cc)
idle_ok p i (events.Retire slot birth retire) h = absurd (cc)
idle_ok p i (events.Reserve guard None) h = refl
idle_ok p i (events.Reserve guard (Some span)) h = absurd (cc)
idle_ok p i event h = refl

-- a record that keeps them keeps them with what is told
abbrev pub Led : Past → ℕ → List Event → Type 0
Led p i told = Each current_ok p → Each current_ok (tells_of p i told)

idle_led : (i : ℕ) (told : List Event) (p : Past) → all_of is_idle told ≡ true → Led p i told
idle_led i [] p h g = g
idle_led i (event ∷ told) p h g = idle_led i told (Then p i event) (rest_of (is_idle event) (all_of is_idle told) h) (idle_ok p i event (first_of (is_idle event) (all_of is_idle told) h), g)

more_led : (p : Past) (i : ℕ) (told more : List Event) → Led p i told → Led (tells_of p i told) i more → Led p i (told ++ more)
more_led p i told more h k g = subst (λ (q : Past). Each current_ok q) (sym (tells_both i told more p)) (k (h g))

-- what comes after a machine is idle
quiet_idle : (event : Event) → is_quiet event ≡ true → is_idle event ≡ true
quiet_idle (events.Give slot birth) h = absurd (cc)
quiet_idle (events.Retire slot birth retire) h = absurd (cc)
quiet_idle (events.Reserve guard span) h = absurd (cc)
quiet_idle event h = refl

led_closed : (p : Past) (i : ℕ) → Closed (λ post told. Led p i told)
led_closed p i = record {
  calm = λ post told more q h. more_led p i told more h (idle_led i more (tells_of p i told) (of_weaker is_quiet is_idle more quiet_idle q));
  clears = λ post told index h. more_led p i told (clear_told (scheme_of post) post index) h (idle_led i (clear_told (scheme_of post) post index) (tells_of p i told) (clear_all is_idle (scheme_of post) post index (λ index slot. refl)));
}

-- an era in hand
one_led : (p : Past) (i from era : ℕ) → from ≡ begun_at i p → from ≤ era → era ≤ clock_of p → upper_current i (one_era era) p ≡ true
one_led p i from era e a b = by (era == 0)
  where
    low : begun_at i p ≤ era
    low = subst (λ (n : ℕ). n ≤ era) e a

    by : (none : Bool) → upper_current i (if none then None else Some (record { lo = era; hi = era })) p ≡ true
    by true = refl
    by false = was_between (begins i) era p low b

-- what a guard publishes once a machine has stored its word
shows_current : (layout : Layout) (p : Past) (i from : ℕ) (cut : ℕ → ℕ) (base : Base) (post last : Post) → from ≡ begun_at i p → base_eras layout (clock_of p) last base → base_since from cut base → upper_current i (base_shows base post) p ≡ true
shows_current layout p i from cut (Begin (PublishSpan era)) post last e c f = was_between (begins i) era p (subst (λ (x : ℕ). x ≤ era) e f) c.most
shows_current layout p i from cut (Protect aim index root steps (PublishEra era tries)) post last e c f = one_led p i from era e f c.most
shows_current layout p i from cut (Protect aim index root steps (PublishHelper first era end)) post last e c f = one_led p i from era e f c.most
shows_current layout p i from cut (Protect aim index root steps (TakeAnswer link era)) post last e c f = one_led p i from era e f c
shows_current layout p i from cut (Protect aim index root steps (RaiseUpper era)) post last e c f = was_between (begins i) era p (subst (λ (x : ℕ). x ≤ era) e f) c.most
shows_current layout p i from cut (Move (ShowEra era seat tag index root)) post last e c f = one_led p i from era e f c.mover.era_in.most
shows_current layout p i from cut (Move (HandOver era seat tag index root link old)) post last e c f = one_led p i from era e f c.helps.mover.era_in.most
shows_current layout p i from cut (Protect aim index root steps at) post last e c f = refl
shows_current layout p i from cut (Move at) post last e c f = refl
shows_current layout p i from cut base post last e c f = refl

given_current : (p : Past) (i slot own birth first : ℕ) (free : Bool) → (free && (slot == own && birth == first)) ≡ true → was_clock (begins i) first p ≡ true → was_clock (begins i) birth p ≡ true
given_current p i slot own birth first free t h =
    let e : birth ≡ first = number_is birth first (rest_of (slot == own) (birth == first) (rest_of free (slot == own && birth == first) t)) in rw e h

retired_current : (p : Past) (i slot row birth first retire seen : ℕ) → (slot == row && (birth == first && retire == seen)) ≡ true → was_clock (own i (cuts row)) seen p ≡ true → was_clock (own i (cuts slot)) retire p ≡ true
retired_current p i slot row birth first retire seen t h =
    let x : slot ≡ row = number_is slot row (first_of (slot == row) (birth == first && retire == seen) t) in
    let z : retire ≡ seen = number_is retire seen (rest_of (birth == first) (retire == seen) (rest_of (slot == row) (birth == first && retire == seen) t)) in rw (x, z) h

-- each event of a machine
event_current : (layout : Layout) (p : Past) (i from : ℕ) (cut : ℕ → ℕ) (base : Base) (post last : Post) (found : ℕ) (event : Event) → from ≡ begun_at i p → ((s : ℕ) → cut s ≡ cut_at i p s) → base_eras layout (clock_of p) last base → base_since from cut base → Tells base post found event → current_ok p i event ≡ true
event_current layout p i from cut base post last found (events.Reserve guard span) e k c f t =
    let h : upper_current i span p ≡ true = subst (λ (x : Option Interval). upper_current i x p ≡ true) (sym (span_of base post found guard span t)) (shows_current layout p i from cut base post last e c f) in rw h refl
event_current layout p i from cut (Allocate (ClaimSlot first walk)) post last found (events.Give slot birth) e k c f t =
    given_current p i slot walk.slot birth first (not (is_claimed found walk.slot)) t (was_between (begins i) first p (subst (λ (x : ℕ). x ≤ first) e f) c.most)
event_current layout p i from cut (Retire (StoreRetired row first seen)) post last found (events.Retire slot birth retire) e k c f t =
    retired_current p i slot row birth first retire seen t (was_between (own i (cuts row)) seen p (subst (λ (x : ℕ). x ≤ seen) (k row) f) c.most)
event_current layout p i from cut (Allocate at) post last found (events.Give slot birth) e k c f t = absurd (cc)
event_current layout p i from cut (Retire at) post last found (events.Retire slot birth retire) e k c f t = absurd (cc)
event_current layout p i from cut base post last found (events.Give slot birth) e k c f t = absurd (cc)
event_current layout p i from cut base post last found (events.Retire slot birth retire) e k c f t = absurd (cc)
event_current layout p i from cut base post last found event e k c f t = refl

find_idle : (event : Event) → is_find event ≡ true → all_of is_idle (event ∷ []) ≡ true
find_idle (events.Held index slot n) h = refl
find_idle (events.Null index n) h = refl
find_idle event h = absurd (cc)

shape_led : (p : Past) (i : ℕ) (base : Base) (post : Post) (found : ℕ) (told : List Event) → Shape base post found told → ((event : Event) → Tells base post found event → current_ok p i event ≡ true) → Led p i told
shape_led p i base post found told (Silent e) h = rw e (λ g. g)
shape_led p i base post found told (Single event e t) h = rw e (λ g. (h event t, g))
shape_led p i base post found told (Clears index slot guard e a b) h = rw e (λ g. (refl, (refl, g)))
shape_led p i base post found told (Drops index slot guard e a b) h = rw e (λ g. (refl, (refl, g)))
shape_led p i base post found told (Takes guard span event e t q a b) h = rw e (λ g. idle_led i (event ∷ []) (Then p i (events.Reserve guard span)) (find_idle event q) (h (events.Reserve guard span) a, g))

base_led : (layout : Layout) (p : Past) (i from : ℕ) (cut : ℕ → ℕ) (base : Base) (post last : Post) (found : ℕ) → from ≡ begun_at i p → ((s : ℕ) → cut s ≡ cut_at i p s) → base_eras layout (clock_of p) last base → base_since from cut base → Led p i (machine.after base post found).told
base_led layout p i from cut base post last found e k c f = shape_led p i base post found (machine.after base post found).told (shape_of base post found) (λ event. event_current layout p i from cut base post last found event e k c f)

scan_led : (p : Past) (i : ℕ) (at : ScanAt) (post : Post) (found : ℕ) → Led p i (scan_told at post found)
scan_led p i (ReadGuard number) post found = reads_are (λ (event : Event). Led p i (event ∷ [])) (publishes_rows post.layout.config.scheme) (guard_at post.layout.config number) found (λ span g. (refl, g)) (λ slot g. (refl, g))
scan_led p i (GiveBack place slot) post found = λ g. (refl, g)

-- a copy publishes what the index publishes from which it copies
pub record Copies (p : Past) (i from index era : ℕ) : Type 0 where
  pub began : began_of i p ≡ Some (names.Copy from index)
  pub shows : value_of (Index i from) p ≡ one_era era

same_copied : (i from index : ℕ) (call : Option Call) (span : Interval) (p : Past) → call ≡ Some (names.Copy from index) → value_of (Index i from) p ≡ Some span → is_copied i call (Some span) p ≡ true
same_copied i from index call span p b s = rw (b, s) (grind (arith, nat_tests))

copied_current : (p : Past) (i from index era : ℕ) (guard : Guard) → Copies p i from index era → current_ok p i (events.Reserve guard (one_era era)) ≡ true
copied_current p i from index era guard h = by (era == 0) h.shows
  where
    by : (none : Bool) → value_of (Index i from) p ≡ (if none then None else from_to era era) → current_ok p i (events.Reserve guard (if none then None else from_to era era)) ≡ true
    by true s = refl
    by false s = or_more (upper_current i (from_to era era) p) (is_copied i (began_of i p) (from_to era era) p) (same_copied i from index (began_of i p) _ p h.began s)

-- also where something is cleared before it
cleared_copies : (p : Past) (i from index era j : ℕ) (x : Option ℕ) → Copies p i from index era → Copies (tells_of p i (cleared j x)) i from index era
cleared_copies p i from index era j None h = h
cleared_copies p i from index era j (Some slot) h = record { began = rw (same_number i) h.began; shows = h.shows }

published_led : (p : Past) (i from index number : ℕ) (post : Post) (rows : Bool) → (rows ≡ false → Copies p i from index number) → Led p i (publishes_index rows post index number)
published_led p i from index number post false h = λ g. (copied_current p i from index number (Index post.seat index) (h refl), g)
published_led p i from index number post true h = λ g. (refl, g)

copied_led : (p : Past) (i from index number : ℕ) (post : Post) (x : Option ℕ) → (publishes_rows (scheme_of post) ≡ false → Copies p i from index number) → Led p i (copied_told from index post (publishes_index (publishes_rows (scheme_of post)) post index number) x)
copied_led p i from index number post None h = λ g. g
copied_led p i from index number post (Some slot) h =
    let gone : List Event = cleared index (stands post index) in
    let reserved : List Event = publishes_index (publishes_rows (scheme_of post)) post index number in
    more_led p i (gone ++ reserved) (events.Copied from index slot ∷ [])
    (more_led p i gone reserved (idle_led i gone p (cleared_all is_idle index (stands post index) (λ index slot. refl)))
    (published_led (tells_of p i gone) i from index number post (publishes_rows (scheme_of post)) (λ e. cleared_copies p i from index number index (stands post index) (h e))))
    (λ g. (refl, g))

keep_led : (p : Past) (i : ℕ) (at : KeepAt) (post : Post) → (publishes_rows (scheme_of post) ≡ false → (from index era : ℕ) → at ≡ StoreHeld from index era → Copies p i from index era) → Led p i (keep_told at post)
keep_led p i (StoreHeld from index era) post h = copied_led p i from index era post (stands post from) (λ e. h e from index era refl)
keep_led p i (LoadHeld from index) post h = idle_led i (keep_told (LoadHeld from index) post) p (work_passes is_idle (λ index slot. refl) (λ from index slot. refl) (Keeping (LoadHeld from index)) post (λ a b era e. absurd (cc)) (λ e. refl))
keep_led p i (Loosens let_go) post h = idle_led i (keep_told (Loosens let_go) post) p (cleared_all is_idle (let_index let_go) (stands post (let_index let_go)) (λ index slot. refl))
keep_led p i (Looks index key at) post h = λ g. g
keep_led p i (Misses index) post h = λ g. g
keep_led p i HideSpan post h = idle_led i (keep_told HideSpan post) p (work_passes is_idle (λ index slot. refl) (λ from index slot. refl) (Keeping HideSpan) post (λ a b era e. absurd (cc)) (λ e. refl))
keep_led p i MarkLeft post h = λ g. g
keep_led p i (TakeList place) post h = λ g. g
keep_led p i (MarkTaken place count) post h = λ g. g

work_led : (p : Past) (i : ℕ) (work : Work) (post : Post) → (publishes_rows (scheme_of post) ≡ false → (from index era : ℕ) → work ≡ Keeping (StoreHeld from index era) → Copies p i from index era) → Led p i (work_told work post)
work_led p i (Getting key at) post h = λ g. g
work_led p i (Changing kept at) post h = λ g. g
work_led p i (Enqueuing kept at) post h = λ g. g
work_led p i (Dequeuing at) post h = λ g. g
work_led p i (Keeping at) post h = keep_led p i at post (λ r from index era e. h r from index era (ap (λ (x : KeepAt). Keeping x) e))

first_led : (layout : Layout) (p : Past) (i : ℕ) (phase : Phase) (post last : Post) (found : ℕ) → PhaseEras layout (clock_of p) last phase → PhaseSince (begun_at i p) (cut_at i p) phase → (publishes_rows (scheme_of post) ≡ false → (from index era : ℕ) → phase ≡ Works (Keeping (StoreHeld from index era)) → Copies p i from index era) → First (λ q told. Led p i told) phase post found
first_led layout p i Idle post last found c f h = λ g. g
first_led layout p i (Runs why base) post last found c f h = base_led layout p i (begun_at i p) (cut_at i p) base post last found refl (λ s. refl) c f
first_led layout p i (Scans later at) post last found c f h = scan_led p i at post found
first_led layout p i (Works work) post last found c f h = work_led p i work post (λ r from index era e. h r from index era (ap (λ (x : Work). Works x) e))

-- a step
pub step_led : (w : World) (i : ℕ) (p : Past) → clock_of p ≡ w.mem Clock → PhaseEras w.layout (w.mem Clock) (w.seat i).post (w.seat i).phase → PhaseSince (begun_at i p) (cut_at i p) (w.seat i).phase → (publishes_rows (scheme_of (w.seat i).post) ≡ false → (from index era : ℕ) → (w.seat i).phase ≡ Works (Keeping (StoreHeld from index era)) → Copies p i from index era) → Led p i (told_in w i)
step_led w i p e c f h =
    step_goes (λ q told. Led p i told) (led_closed p i) (w.seat i).phase (counted (w.seat i).post) (offered w i).desk (finds w i)
    (first_led w.layout p i (w.seat i).phase (counted (w.seat i).post) (w.seat i).post (finds w i) (subst (λ (x : ℕ). PhaseEras w.layout x (w.seat i).post (w.seat i).phase) (sym e) c) f h)
