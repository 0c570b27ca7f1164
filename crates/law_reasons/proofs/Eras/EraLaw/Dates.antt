-- What a step tells of eras, and what it does to the clock.
use Rattle.law_scans.specs.laws.words.declared.config.Config.{Config}
use Rattle.std.proofs.Common.{ℕ, ◌≡◌, ◌≤◌, ◌<◌, ◌+◌, Bool, true, false, List, [], ◌∷◌, Option, Some, None, refl, sym, ap, ◌∙◌, subst, arith}
use Rattle.std.proofs.lemmas.Bool.Decides.{nat_tests}
use Rattle.std.specs.Prelude.{◌==◌, ◌&&◌, if◌then◌else◌, nat_le, not}
use Rattle.law_scans.specs.laws.words.Place.{Place, Place as places}
use Rattle.law_scans.specs.laws.words.declared.config.SchemeKind.{SchemeKind}
use Rattle.law_scans.specs.laws.words.declared.layout.Layout.{Layout}
use Rattle.law_scans.specs.laws.defs.declared.event.Event.{Event}
use Rattle.law_scans.specs.laws.defs.declared.event.Event.TheVariants as events
use Rattle.law_scans.specs.laws.defs.declared.lifetime.Interval.{Interval}
use Rattle.law_scans.specs.inv.model.declared.post.Post.{Post}
use Rattle.law_scans.specs.inv.model.Calls.{ChangeKept, EnqueueKept, ReadGuard, GiveBack, GetAt, FindVersion, Loosens, LoadHeld, StoreHeld, Looks, Misses, HideSpan, MarkLeft, TakeList, MarkTaken, ChangeAt, LoadVersion, EnqueueAt, LoadNumber, DequeueAt, LoadTail, Work, Getting, Changing, Enqueuing, Dequeuing, Keeping, Why, Phase, Idle, Runs, Scans, Works}
use Rattle.law_scans.specs.inv.model.Change.{change_move}
use Rattle.law_scans.specs.inv.model.Dequeue.{dequeue_move}
use Rattle.law_scans.specs.inv.model.Enqueue.{enqueue_move}
use Rattle.law_scans.specs.inv.model.Get.{get_move}
use Rattle.law_scans.specs.inv.model.Guards.{guard_at, one_era, from_to}
use Rattle.law_scans.specs.inv.model.Machine as machine
use Rattle.law_scans.specs.inv.model.Memory as memory
use Rattle.law_scans.specs.inv.model.Memory.{written, place_in}
use Rattle.law_scans.specs.inv.model.MoveClock as movers
use Rattle.law_scans.specs.inv.model.Phases.{Base}
use Rattle.law_scans.specs.inv.model.Phases.BeginAt.{LoadLower, PublishSpan}
use Rattle.law_scans.specs.inv.model.Phases.ProtectAt.{LoadClock, PublishEra, PublishHelper, TakeAnswer, RaiseUpper, ByHazard}
use Rattle.law_scans.specs.inv.model.Phases.HazardAt.{FirstLink, PublishLink, CheckLink}
use Rattle.law_scans.specs.inv.model.Phases.AllocateAt.{LoadBirth, ClaimSlot}
use Rattle.law_scans.specs.inv.model.Phases.RetireAt.{LoadLife, StoreRetired}
use Rattle.law_scans.specs.inv.model.Phases.MoveAt.{ShowEra, HandOver, ExchangeClock}
use Rattle.law_scans.specs.inv.model.Phases.Base.{Begin, Protect, Allocate, Retire, Move}
use Rattle.law_scans.specs.inv.model.Posts.{counted, lower, upper}
use Rattle.law_scans.specs.inv.model.Steps as steps
use Rattle.law_scans.specs.inv.model.World.{World, step, told_in}
use Rattle.law_scans.specs.laws.words.Schemes.{is_ibr, publishes_rows}
use Rattle.law_scans.specs.inv.shapes.Eras.{HeldIn, TurnIn, SpanIn, work_eras}
use Rattle.std.specs.List.{filter}
use Rattle.law_scans.specs.laws.records.Record.{Past}
use Rattle.law_scans.specs.laws.records.Record.Past.{Then}
use Rattle.law_scans.proofs.laws.Along.{along, Single, OfKind, along_kind}
use Rattle.law_reasons.proofs.Eras.EraLaw.Shapes.{published_event, shape_single, work_single}
use Rattle.law_scans.proofs.inv.ends.Told.Rows.{own_told, step_filter}
use Rattle.law_scans.proofs.inv.ends.Told.Turns.{is_later}
use Rattle.law_scans.specs.laws.StateAt.{born_by, birth_of, ticked_by, clock_of}
use Rattle.law_scans.proofs.reuse.Holding.Values.{Ranges}
use Rattle.law_scans.specs.laws.HistoryEras.{span_ok, era_ok}
use Rattle.law_scans.proofs.reuse.history.MayTell.{Tells, base_shows, span_of, is_find, shape_of, base_all, work_all}
use Rattle.law_scans.proofs.reuse.history.Passes.{work_told}
use Rattle.law_scans.proofs.reuse.ReadGuards.{reads_are}
use Rattle.law_scans.proofs.reuse.history.AllOf.{all_of}
use Rattle.law_scans.proofs.laws.records.defs.Facts.{first_of, rest_of, number_is}
use Rattle.law_scans.specs.inv.model.Allocate.{is_claimed}

-- the events that tell eras
abbrev pub is_dated : Event → Bool
is_dated (events.Era era) = true
is_dated (events.Reserve guard span) = true
is_dated (events.Give slot birth) = true
is_dated (events.Retire slot birth retire) = true
is_dated event = false

abbrev pub dated : List Event → List Event
dated told = filter is_dated told

pub later_undated : (e : Event) → is_later e ≡ true → is_dated e ≡ false
later_undated (events.Era era) h = absurd (cc)
later_undated (events.Reserve guard span) h = absurd (cc)
later_undated (events.Give slot birth) h = absurd (cc)
later_undated (events.Retire slot birth retire) h = absurd (cc)
later_undated event h = refl

pub ticks_quiet : (event : Event) (x : ℕ) → is_dated event ≡ false → ticked_by event x ≡ x
ticks_quiet (events.Era era) x h = absurd (cc)
ticks_quiet event x h = refl

births_quiet : (s : ℕ) (event : Event) (x : ℕ) → is_dated event ≡ false → born_by s event x ≡ x
births_quiet s (events.Give slot birth) x h = absurd (cc)
births_quiet s event x h = refl

-- the law is one on such events alone
era_quiet : (config : Config) (p : Past) (i : ℕ) (event : Event) → is_dated event ≡ false → era_ok config p i event ≡ true
era_quiet config p i (events.Era era) h = absurd (cc)
era_quiet config p i (events.Reserve guard span) h = absurd (cc)
era_quiet config p i (events.Give slot birth) h = absurd (cc)
era_quiet config p i (events.Retire slot birth retire) h = absurd (cc)
era_quiet config p i event h = refl

era_still : (config : Config) (p : Past) (i : ℕ) (event other : Event) → is_dated event ≡ false → era_ok config p i other ≡ true → era_ok config (Then p i event) i other ≡ true
era_still config p i event (events.Era era) h c = rw (ticks_quiet event (clock_of p) h) c
era_still config p i event (events.Reserve guard span) h c = rw (ticks_quiet event (clock_of p) h) c
era_still config p i event (events.Give slot birth) h c = rw (ticks_quiet event (clock_of p) h) c
era_still config p i event (events.Retire slot birth retire) h c = rw (ticks_quiet event (clock_of p) h, births_quiet slot event (birth_of slot p) h) c
era_still config p i event other h c = c

pub era_kind : (config : Config) → OfKind is_dated (era_ok config)
era_kind config = record { quiet = era_quiet config; still = era_still config }

-- what is told of eras is allowed, and is what becomes of the clock
pub record Dates (config : Config) (p : Past) (i clock : ℕ) (told : List Event) (next : ℕ) : Type 0 where
  pub single : Single (era_ok config) p i told
  pub ticks : along ticked_by told clock ≡ next

-- intervals
one_ok : (scheme : SchemeKind) (era clock now : ℕ) → now ≡ clock → era ≤ clock → span_ok scheme now (one_era era) ≡ true
one_ok scheme era clock now e m = by (era == 0) refl
  where
    by : (none : Bool) → (era == 0) ≡ none → span_ok scheme now (if none then None else from_to era era) ≡ true
    by true z = refl
    by false z = grind (arith, nat_tests)

two_ok : (scheme : SchemeKind) (lo hi clock now : ℕ) → is_ibr scheme ≡ true → now ≡ clock → lo ≤ hi → hi ≤ clock → span_ok scheme now (from_to lo hi) ≡ true
two_ok scheme lo hi clock now f e l m = grind (arith, nat_tests)

abbrev pub Retired : Past → Base → Type 0
Retired p base = (slot birth retire : ℕ) → base ≡ Retire (StoreRetired slot birth retire) → birth_of slot p ≡ birth

retire_ok : (birth given retire clock now : ℕ) → given ≡ birth → now ≡ clock → birth ≤ retire → retire ≤ clock → (birth == given && (nat_le birth retire && nat_le retire now)) ≡ true
retire_ok birth given retire clock now g c l m = grind (arith, nat_tests)

turn_era : (clock first era : ℕ) → TurnIn clock first era → era ≤ clock
turn_era clock first era t = t.most

lower_most : (clock : ℕ) (span : Option Interval) (era : ℕ) → SpanIn clock span → upper span ≤ era → lower span ≤ era
lower_most clock None era s h = h
lower_most clock (Some span) era s h = let m = s.1 in omega arith

-- what a guard publishes once a machine has stored its word
shows_ok : (layout : Layout) (clock : ℕ) (p : Past) (base : Base) (post : Post) → clock_of p ≡ clock → Ranges layout clock post base → span_ok layout.config.scheme (clock_of p) (base_shows base (counted post)) ≡ true
shows_ok layout clock p (Begin (PublishSpan era)) post c r = two_ok layout.config.scheme era era clock (clock_of p) r.run.fits c (omega arith) r.eras.most
shows_ok layout clock p (Protect aim index root steps (PublishEra era tries)) post c r = one_ok layout.config.scheme era clock (clock_of p) c r.eras.most
shows_ok layout clock p (Protect aim index root steps (PublishHelper first era last)) post c r = one_ok layout.config.scheme era clock (clock_of p) c (turn_era clock first era r.eras)
shows_ok layout clock p (Protect aim index root steps (TakeAnswer link era)) post c r = one_ok layout.config.scheme era clock (clock_of p) c r.eras
shows_ok layout clock p (Protect aim index root steps (RaiseUpper era)) post c r = two_ok layout.config.scheme (lower post.span) era clock (clock_of p) r.run.fits c (lower_most clock post.span era r.span r.eras.rises) r.eras.most
shows_ok layout clock p (Move (ShowEra era seat tag index root)) post c r = one_ok layout.config.scheme era clock (clock_of p) c r.eras.mover.era_in.most
shows_ok layout clock p (Move (HandOver era seat tag index root link old)) post c r = one_ok layout.config.scheme era clock (clock_of p) c r.eras.helps.mover.era_in.most
shows_ok layout clock p (Protect aim index root steps at) post c r = refl
shows_ok layout clock p (Move at) post c r = refl
shows_ok layout clock p base post c r = refl

-- each event of a machine but of the step that moves the clock
abbrev is_clock : Base → Bool
is_clock (Move (ExchangeClock era)) = true
is_clock base = false

given_ok : (slot own birth first now clock : ℕ) (free : Bool) → (free && (slot == own && birth == first)) ≡ true → now ≡ clock → 1 ≤ first → first ≤ clock → (nat_le 1 birth && nat_le birth now) ≡ true
given_ok slot own birth first now clock true h c a m = grind (arith, nat_tests)
given_ok slot own birth first now clock false h c a m = absurd (cc)

stored_ok : (own slot first birth seen retire clock : ℕ) (p : Past) → (slot == own && (birth == first && retire == seen)) ≡ true → birth_of own p ≡ first → clock_of p ≡ clock → first ≤ seen → seen ≤ clock → (birth == birth_of slot p && (nat_le birth retire && nat_le retire (clock_of p))) ≡ true
stored_ok own slot first birth seen retire clock p t b c l m =
    let x : slot ≡ own = number_is slot own (first_of (slot == own) (birth == first && retire == seen) t) in
    let y : birth ≡ first = number_is birth first (first_of (birth == first) (retire == seen) (rest_of (slot == own) (birth == first && retire == seen) t)) in
    let z : retire ≡ seen = number_is retire seen (rest_of (birth == first) (retire == seen) (rest_of (slot == own) (birth == first && retire == seen) t)) in
    retire_ok birth (birth_of slot p) retire clock (clock_of p) (ap (λ (s : ℕ). birth_of s p) x ∙ b ∙ sym y) c (omega arith) (omega arith)

event_ok : (layout : Layout) (clock : ℕ) (p : Past) (i : ℕ) (base : Base) (post : Post) (found : ℕ) (event : Event) → is_clock base ≡ false → clock_of p ≡ clock → Ranges layout clock post base → Retired p base → Tells base (counted post) found event → era_ok layout.config p i event ≡ true
event_ok layout clock p i base post found (events.Reserve guard span) n c r b t = subst (λ (x : Option Interval). span_ok layout.config.scheme (clock_of p) x ≡ true) (sym (span_of base (counted post) found guard span t)) (shows_ok layout clock p base post c r)
event_ok layout clock p i (Allocate (ClaimSlot first walk)) post found (events.Give slot birth) n c r b t = given_ok slot walk.slot birth first (clock_of p) clock (not (is_claimed found walk.slot)) t c r.eras.some r.eras.most
event_ok layout clock p i (Retire (StoreRetired own first seen)) post found (events.Retire slot birth retire) n c r b t = stored_ok own slot first birth seen retire clock p t (b own first seen refl) c r.eras.later r.eras.most
event_ok layout clock p i (Move (ExchangeClock last)) post found (events.Era era) n c r b t = absurd (cc)
event_ok layout clock p i (Allocate at) post found (events.Give slot birth) n c r b t = absurd (cc)
event_ok layout clock p i (Retire at) post found (events.Retire slot birth retire) n c r b t = absurd (cc)
event_ok layout clock p i (Move at) post found (events.Era era) n c r b t = absurd (cc)
event_ok layout clock p i base post found (events.Give slot birth) n c r b t = absurd (cc)
event_ok layout clock p i base post found (events.Retire slot birth retire) n c r b t = absurd (cc)
event_ok layout clock p i base post found (events.Era era) n c r b t = absurd (cc)
event_ok layout clock p i base post found event n c r b t = refl

find_undated : (event : Event) → is_find event ≡ true → is_dated event ≡ false
find_undated (events.Held index slot n) h = refl
find_undated (events.Null index n) h = refl
find_undated event h = absurd (cc)

-- and none moves it
abbrev is_tick : Event → Bool
is_tick (events.Era era) = true
is_tick event = false

no_tick : (base : Base) (post : Post) (found : ℕ) (event : Event) → is_clock base ≡ false → Tells base post found event → not (is_tick event) ≡ true
no_tick (Move (ExchangeClock last)) post found (events.Era era) n t = absurd (cc)
no_tick (Move at) post found (events.Era era) n t = absurd (cc)
no_tick base post found (events.Era era) n t = absurd (cc)
no_tick base post found event n t = refl

no_ticks : (told : List Event) (x : ℕ) → all_of (λ event. not (is_tick event)) told ≡ true → along ticked_by told x ≡ x
no_ticks [] x h = refl
no_ticks (event ∷ told) x h = ap (along ticked_by told) (one event (first_of (not (is_tick event)) (all_of (λ other. not (is_tick other)) told) h)) ∙ no_ticks told x (rest_of (not (is_tick event)) (all_of (λ other. not (is_tick other)) told) h)
  where
    one : (event : Event) → not (is_tick event) ≡ true → ticked_by event x ≡ x
    one (events.Era era) h = absurd (cc)
    one event h = refl

clock_kept : (mem : Place → ℕ) (base : Base) (post : Post) → is_clock base ≡ false → written mem (machine.base_move base post) places.Clock ≡ mem places.Clock
clock_kept mem (Begin LoadLower) post n = refl
clock_kept mem (Begin at) post n = refl
clock_kept mem (Protect aim index root steps (LoadClock tries)) post n = refl
clock_kept mem (Protect aim index root steps (ByHazard FirstLink)) post n = refl
clock_kept mem (Protect aim index root steps (ByHazard (PublishLink link))) post n = refl
clock_kept mem (Protect aim index root steps (ByHazard (CheckLink link))) post n = refl
clock_kept mem (Protect aim index root steps at) post n = refl
clock_kept mem (Allocate LoadBirth) post n = refl
clock_kept mem (Allocate at) post n = refl
clock_kept mem (Retire (LoadLife slot)) post n = refl
clock_kept mem (Retire at) post n = refl
clock_kept mem (Move (ExchangeClock era)) post n = absurd (cc)
clock_kept mem (Move at) post n = refl
clock_kept mem base post n = refl

other_dates : (layout : Layout) (mem : Place → ℕ) (p : Past) (i : ℕ) (base : Base) (post : Post) (found : ℕ) → is_clock base ≡ false → clock_of p ≡ mem places.Clock → Ranges layout (mem places.Clock) post base → Retired p base
    → Dates layout.config p i (mem places.Clock) (dated (machine.after base (counted post) found).told) (written mem (machine.base_move base post) places.Clock)
other_dates layout mem p i base post found n c r b =
    let told : List Event = (machine.after base (counted post) found).told in
    record {
      single = shape_single is_dated (era_ok layout.config) p i (λ index slot. refl) find_undated base (counted post) found told (shape_of base (counted post) found) (λ event. event_ok layout (mem places.Clock) p i base post found event n c r b);
      ticks = sym (along_kind ticked_by is_dated ticks_quiet told (mem places.Clock)) ∙ no_ticks told (mem places.Clock) (base_all (λ event. not (is_tick event)) base (counted post) found (λ event. no_tick base (counted post) found event n)) ∙ sym (clock_kept mem base post n);
    }

clock_dates : (layout : Layout) (clock : ℕ) (p : Past) (i era : ℕ) (post : Post) (same : Bool) → (clock == era) ≡ same → clock_of p ≡ clock → era < layout.config.last_era
    → Dates layout.config p i clock (dated (movers.after_exchange_clock era post clock).told) (if clock == era then era + 1 else clock)
clock_dates layout clock p i era post true e c m = let q : clock ≡ era = grind (arith, nat_tests) in rw e (record { single = grind (arith, nat_tests); ticks = ap (λ (x : ℕ). x + 1) q })
clock_dates layout clock p i era post false e c m = rw e (record { single = tt; ticks = refl })

abbrev finding : (Place → ℕ) → Base → Post → ℕ
finding mem base post = memory.found (machine.base_move base post) (mem (place_in (machine.base_move base post)))

base_dates : (layout : Layout) (mem : Place → ℕ) (p : Past) (i : ℕ) (base : Base) (post : Post) → clock_of p ≡ mem places.Clock → Ranges layout (mem places.Clock) post base → Retired p base
    → Dates layout.config p i (mem places.Clock) (dated (machine.after base (counted post) (finding mem base post)).told) (written mem (machine.base_move base post) places.Clock)
base_dates layout mem p i (Move (ExchangeClock era)) post c r b = clock_dates layout (mem places.Clock) p i era (counted post) (mem places.Clock == era) refl c r.eras.left
base_dates layout mem p i (Move at) post c r b = other_dates layout mem p i (Move at) post (finding mem (Move at) post) refl c r b
base_dates layout mem p i base post c r b = other_dates layout mem p i base post (finding mem base post) refl c r b

-- a call's own steps leave the clock
change_clock : (mem : Place → ℕ) (kept : ChangeKept) (at : ChangeAt) (post : Post) → written mem (change_move kept at post) places.Clock ≡ mem places.Clock
change_clock mem kept (LoadVersion slot) post = refl
change_clock mem kept at post = refl

enqueue_clock : (mem : Place → ℕ) (kept : EnqueueKept) (at : EnqueueAt) → written mem (enqueue_move kept at) places.Clock ≡ mem places.Clock
enqueue_clock mem kept LoadNumber = refl
enqueue_clock mem kept at = refl

dequeue_clock : (mem : Place → ℕ) (at : DequeueAt) → written mem (dequeue_move at) places.Clock ≡ mem places.Clock
dequeue_clock mem (LoadTail head) = refl
dequeue_clock mem at = refl

get_clock : (mem : Place → ℕ) (at : GetAt) → written mem (get_move at) places.Clock ≡ mem places.Clock
get_clock mem (FindVersion slot) = refl
get_clock mem at = refl

work_clock : (mem : Place → ℕ) (work : Work) (post : Post) → written mem (steps.work_move work post) places.Clock ≡ mem places.Clock
work_clock mem (Getting key at) post = get_clock mem at
work_clock mem (Changing kept at) post = change_clock mem kept at post
work_clock mem (Enqueuing kept at) post = enqueue_clock mem kept at
work_clock mem (Dequeuing at) post = dequeue_clock mem at
work_clock mem (Keeping (Loosens let_go)) post = refl
work_clock mem (Keeping (LoadHeld from index)) post = refl
work_clock mem (Keeping (StoreHeld from index era)) post = refl
work_clock mem (Keeping (Looks index key at)) post = get_clock mem at
work_clock mem (Keeping (Misses index)) post = refl
work_clock mem (Keeping HideSpan) post = refl
work_clock mem (Keeping MarkLeft) post = refl
work_clock mem (Keeping (TakeList place)) post = refl
work_clock mem (Keeping (MarkTaken place count)) post = refl

-- a copy publishes an era that the clock has shown, or a row
copied_ok : (config : Config) (layout : Layout) (clock : ℕ) (p : Past) (i : ℕ) (rows : Bool) (post : Post) (index number : ℕ) → clock_of p ≡ clock → HeldIn rows layout clock number → era_ok config p i (published_event rows post index number) ≡ true
copied_ok config layout clock p i false post index number c h = one_ok config.scheme number clock (clock_of p) c h
copied_ok config layout clock p i true post index number c h = refl

stored_in : (layout table : Layout) (clock from index number : ℕ) (work : Work) → table ≡ layout → work ≡ Keeping (StoreHeld from index number) → work_eras layout clock work → HeldIn (publishes_rows table.config.scheme) layout clock number
stored_in layout table clock from index number work l e h = subst (λ (x : Layout). HeldIn (publishes_rows x.config.scheme) layout clock number) (sym l) (subst (work_eras layout clock) e h)

work_dates : (layout : Layout) (mem : Place → ℕ) (p : Past) (i : ℕ) (work : Work) (post : Post) → post.layout ≡ layout → clock_of p ≡ mem places.Clock → work_eras layout (mem places.Clock) work
    → Dates layout.config p i (mem places.Clock) (dated (work_told work (counted post))) (written mem (steps.work_move work post) places.Clock)
work_dates layout mem p i work post l c h =
    let told : List Event = work_told work (counted post) in
    record {
      single = work_single is_dated (era_ok layout.config) p i (λ index slot. refl) (λ from index slot. refl) work (counted post)
          (λ from index number e. copied_ok layout.config layout (mem places.Clock) p i (publishes_rows post.layout.config.scheme) (counted post) index number c (stored_in layout post.layout (mem places.Clock) from index number work l e h)) (λ e. refl);
      ticks = sym (along_kind ticked_by is_dated ticks_quiet told (mem places.Clock))
          ∙ no_ticks told (mem places.Clock) (work_all (λ event. not (is_tick event)) (λ index slot. refl) (λ from index slot. refl) (λ seat index era. refl) (λ seat. refl) (λ seat index link. refl) work (counted post))
          ∙ sym (work_clock mem work post);
    }

phase_dates : (layout : Layout) (mem : Place → ℕ) (p : Past) (i : ℕ) (phase : Phase) (post : Post) → post.layout ≡ layout → clock_of p ≡ mem places.Clock → ((why : Why) (base : Base) → phase ≡ Runs why base → Ranges layout (mem places.Clock) post base × Retired p base) → ((work : Work) → phase ≡ Works work → work_eras layout (mem places.Clock) work)
    → Dates layout.config p i (mem places.Clock) (dated (own_told phase (counted post) (memory.found (steps.phase_move phase post) (mem (place_in (steps.phase_move phase post)))))) (written mem (steps.phase_move phase post) places.Clock)
phase_dates layout mem p i Idle post l c r h = record { single = tt; ticks = refl }
phase_dates layout mem p i (Runs why base) post l c r h = let x = r why base refl in base_dates layout mem p i base post c x.0 x.1
phase_dates layout mem p i (Scans later (ReadGuard number)) post l c r h =
    reads_are (λ (event : Event). Dates layout.config p i (mem places.Clock) (dated (event ∷ [])) (mem places.Clock)) (publishes_rows post.layout.config.scheme) (guard_at post.layout.config number)
    (memory.found (steps.phase_move (Scans later (ReadGuard number)) post) (mem (place_in (steps.phase_move (Scans later (ReadGuard number)) post)))) (λ span. record { single = tt; ticks = refl }) (λ slot. record { single = tt; ticks = refl })
phase_dates layout mem p i (Scans later (GiveBack place slot)) post l c r h = record { single = tt; ticks = refl }
phase_dates layout mem p i (Works work) post l c r h = work_dates layout mem p i work post l c (h work refl)

-- a step
pub step_dates : (w : World) (i : ℕ) (p : Past) → (w.seat i).post.layout ≡ w.layout → clock_of p ≡ w.mem places.Clock → ((why : Why) (base : Base) → (w.seat i).phase ≡ Runs why base → Ranges w.layout (w.mem places.Clock) (w.seat i).post base × Retired p base) → ((work : Work) → (w.seat i).phase ≡ Works work → work_eras w.layout (w.mem places.Clock) work)
    → Dates w.layout.config p i (w.mem places.Clock) (filter is_dated (told_in w i)) ((step w i).mem places.Clock)
step_dates w i p l c r h =
    subst (λ (es : List Event). Dates w.layout.config p i (w.mem places.Clock) es ((step w i).mem places.Clock)) (sym (step_filter is_dated w i later_undated)) (phase_dates w.layout w.mem p i (w.seat i).phase (w.seat i).post l c r h)
