-- Each guard that is told, or read, is one of the table.
use Rattle.std.proofs.Common.{ℕ, ◌≡◌, ◌<◌, ◌≤◌, ◌-◌, ◌*◌, ◌/◌, ◌%◌, Bool, true, false, List, [], ◌∷◌, Option, refl, sym, ap, subst, arith}
use Rattle.std.proofs.Math.Nat.{div-lt_iff_lt-mul, mod-lt}
use Rattle.std.proofs.lemmas.Bool.Decides.{nat_tests}
use Rattle.std.specs.Prelude.{◌==◌, ◌&&◌, not, nat_lt, nat_le, if◌then◌else◌}
use Rattle.law_scans.specs.laws.words.Place.{is_valid}
use Rattle.law_scans.specs.laws.words.Place.Place.{Clock}
use Rattle.law_scans.specs.laws.words.Schemes.{is_wfe, publishes_eras, publishes_rows, has_one_interval, helps, counts_tries}
use Rattle.law_scans.specs.laws.words.declared.config.Config.{Config}
use Rattle.law_scans.specs.laws.words.declared.config.SchemeKind.{SchemeKind}
use Rattle.law_scans.specs.laws.words.declared.config.SchemeKind.TheVariants.{He, Hp, Ibr, Wfe}
use Rattle.law_scans.specs.laws.words.declared.layout.Layout.{Layout}
use Rattle.law_scans.specs.laws.defs.declared.event.Event.{Event}
use Rattle.law_scans.specs.laws.defs.declared.event.Event.TheVariants as events
use Rattle.law_scans.specs.laws.defs.declared.event.Guard.{Guard}
use Rattle.law_scans.specs.laws.defs.declared.event.Guard.TheVariants.{Helper, Index, Whole}
use Rattle.law_scans.specs.inv.model.declared.post.Post.{Post}
use Rattle.law_scans.specs.inv.model.Calls.{ReadGuard, GiveBack, Why, StoreHeld, HideSpan, Work, Keeping, Phase, Idle, Runs, Scans, Works}
use Rattle.law_scans.specs.inv.model.Guards.{guard_at, guards_by, guard_by, index_at}
use Rattle.law_scans.specs.inv.model.Phases.{Base, Endless, Failed}
use Rattle.law_scans.specs.inv.model.Phases.BeginAt.{LoadLower, PublishSpan}
use Rattle.law_scans.specs.inv.model.Phases.ProtectAt.{PublishEra, PublishHelper, TakeAnswer, WithdrawHelper, RaiseUpper, ByHazard}
use Rattle.law_scans.specs.inv.model.Phases.MoveAt.{ShowEra, HandOver, HideEra, HideLate}
use Rattle.law_scans.specs.inv.model.Phases.Base.{Begin, Protect, Clear, Finish, Release, Move}
use Rattle.law_scans.specs.inv.model.Posts.{counted}
use Rattle.law_scans.specs.inv.model.World.{World, finds, offered, told_in}
use Rattle.law_scans.proofs.laws.records.defs.Facts.{both, first_of, rest_of, and_true, lt_test, number_is}
use Rattle.law_scans.proofs.inv.model.Ranges.{bounds_of}
use Rattle.law_scans.proofs.inv.model.words.Schemes.{clock_eras, counts_eras, helps_eras, eras_not_interval, rows_not_interval}
use Rattle.law_scans.specs.inv.covers.Held.{index_base}
use Rattle.law_scans.specs.inv.history.History.{Made, first_made, record_of}
use Rattle.law_scans.specs.laws.records.Record.{Past, Each, tells_of}
use Rattle.law_scans.specs.laws.records.Record.Past.{Then}
use Rattle.law_scans.specs.inv.shapes.Eras.{base_eras}
use Rattle.law_scans.specs.inv.shapes.Frame.{Copied, Hides, WorkFits}
use Rattle.law_scans.specs.inv.shapes.Seats.{PhaseFits, agree, base_fits}
use Rattle.law_scans.specs.inv.shapes.Slots.{CopyIn, PhaseIn, WorkIn}
use Rattle.law_reasons.proofs.Eras.EraLaw.Shapes.{published_event, work_passes}
use Rattle.law_scans.proofs.reuse.ReadGuards.{reads_are}
use Rattle.law_scans.proofs.reuse.shapes.Kept.{work_counted}
use Rattle.law_scans.proofs.inv.Inv.Shapes.{index_in}
use Rattle.law_scans.proofs.reuse.history.AllOf.{all_of}
use Rattle.law_scans.proofs.reuse.history.Along.{Steady, items_keep}
use Rattle.law_scans.proofs.laws.records.Entries.{entries_of_each}
use Rattle.law_scans.proofs.reuse.history.MayTell.{Tells, may_store, may_hazard, base_hazards, base_row, hazard_stores, same_row, base_helper, base_index, base_whole, base_shows, hands, same_span, base_all, Passes, step_all}
use Rattle.law_scans.proofs.reuse.history.Passes.{is_quiet, First}
use Rattle.law_scans.proofs.reuse.Holding.Holds.{Held, begin_held, step_held, first_held, ranges_of}
use Rattle.law_scans.proofs.reuse.Holding.Values.{Ranges}
use Rattle.law_scans.specs.laws.HistoryTable.{is_guard, is_guarded, guards_ok}
use Rattle.law_reasons.specs.Eras.Records.{RecordsNameGuards}

-- what a scheme can do
helps_wfe : (scheme : SchemeKind) → helps scheme ≡ true → is_wfe scheme ≡ true
helps_wfe He h = h
helps_wfe Ibr h = h
helps_wfe Wfe h = h
helps_wfe Hp h = h

eras_plain : (scheme : SchemeKind) → publishes_eras scheme ≡ true → not (has_one_interval scheme) ≡ true
eras_plain scheme e = ap not (eras_not_interval scheme e)

rows_plain : (scheme : SchemeKind) → publishes_rows scheme ≡ true → not (has_one_interval scheme) ≡ true
rows_plain scheme e = ap not (rows_not_interval scheme e)

-- a step that stores a helper word, an index word or an interval word is one of a scheme that has such words
pub stores_helper : (c : Config) (base : Base) → base_fits c base ≡ true → base_helper base ≡ true → helps c.scheme ≡ true
stores_helper c (Protect aim index root made (PublishHelper first era last)) f h = f
stores_helper c (Protect aim index root made (WithdrawHelper link era)) f h = f
stores_helper c (Protect aim index root made at) f h = absurd (cc)
stores_helper c (Move (ShowEra era seat tag index root)) f h = first_of (helps c.scheme) (nat_lt seat c.seats) f
stores_helper c (Move (HideEra era)) f h = f
stores_helper c (Move (HideLate seen)) f h = f
stores_helper c (Move at) f h = absurd (cc)
stores_helper c base f h = absurd (cc)

stores_index : (c : Config) (base : Base) (index : ℕ) → base_fits c base ≡ true → base_index base index ≡ true → not (has_one_interval c.scheme) ≡ true
stores_index c (Protect aim own root made (PublishEra era Endless)) index f h = eras_plain c.scheme (clock_eras c.scheme f)
stores_index c (Protect aim own root made (PublishEra era (Failed count))) index f h = eras_plain c.scheme (counts_eras c.scheme (first_of (counts_tries c.scheme) (nat_le count c.tries) f))
stores_index c (Protect aim own root made (TakeAnswer link era)) index f h = eras_plain c.scheme (helps_eras c.scheme f)
stores_index c (Protect aim own root made at) index f h = absurd (cc)
stores_index c (Clear rows own) index f h = first_of (not (has_one_interval c.scheme)) (agree rows (publishes_rows c.scheme)) f
stores_index c base index f h = absurd (cc)

hazards_index : (c : Config) (base : Base) (index : ℕ) → base_fits c base ≡ true → base_hazards base index ≡ true → not (has_one_interval c.scheme) ≡ true
hazards_index c (Protect aim own root made (ByHazard at)) index f h = rows_plain c.scheme f
hazards_index c (Protect aim own root made at) index f h = absurd (cc)
hazards_index c (Clear rows own) index f h = first_of (not (has_one_interval c.scheme)) (agree rows (publishes_rows c.scheme)) f
hazards_index c base index f h = absurd (cc)

own_index : (base : Base) (index : ℕ) → base_index base index ≡ true → index ≡ index_base base
own_index (Protect aim own root made (PublishEra era tries)) index h = number_is index own h
own_index (Protect aim own root made (TakeAnswer link era)) index h = number_is index own h
own_index (Protect aim own root made at) index h = absurd (cc)
own_index (Clear false own) index h = number_is index own h
own_index (Clear true own) index h = absurd (cc)
own_index base index h = absurd (cc)

hazard_index : (base : Base) (index : ℕ) → base_hazards base index ≡ true → index ≡ index_base base
hazard_index (Protect aim own root made (ByHazard at)) index h = number_is index own (rest_of (hazard_stores at) (index == own) h)
hazard_index (Protect aim own root made at) index h = absurd (cc)
hazard_index (Clear true own) index h = number_is index own h
hazard_index (Clear false own) index h = absurd (cc)
hazard_index base index h = absurd (cc)

pub stores_whole : (c : Config) (base : Base) → base_fits c base ≡ true → base_whole base ≡ true → has_one_interval c.scheme ≡ true
stores_whole c (Begin (PublishSpan era)) f h = f
stores_whole c (Begin LoadLower) f h = absurd (cc)
stores_whole c (Protect aim index root made (RaiseUpper era)) f h = f
stores_whole c (Protect aim index root made at) f h = absurd (cc)
stores_whole c Finish f h = f
stores_whole c (Release index) f h = f
stores_whole c base f h = absurd (cc)

-- so the guard is one of the table
same_below : (m k n : ℕ) → (m == k) ≡ true → k < n → nat_lt m n ≡ true
same_below m k n e h = subst (λ (x : ℕ). nat_lt x n ≡ true) (sym (number_is m k e)) (lt_test k n h)

index_there : (c : Config) (seat index : ℕ) → not (has_one_interval c.scheme) ≡ true → nat_lt seat c.seats ≡ true → nat_lt index c.indexes ≡ true → is_guard c (Index seat index) ≡ true
index_there c seat index e a b = both (not (has_one_interval c.scheme)) (nat_lt seat c.seats && nat_lt index c.indexes) e (both (nat_lt seat c.seats) (nat_lt index c.indexes) a b)

handed_guard : (layout : Layout) (clock : ℕ) (base : Base) (post : Post) (found seat index : ℕ) → base_fits layout.config base ≡ true → base_eras layout clock post base → hands base found seat index ≡ true → is_guard layout.config (Index seat index) ≡ true
handed_guard layout clock (Move (HandOver era asker tag own root link old)) post found seat index f e h =
    let s : (seat == asker && index == own) ≡ true = rest_of _ (seat == asker && index == own) h in
    let a : nat_lt asker layout.config.seats ≡ true = rest_of (helps layout.config.scheme) (nat_lt asker layout.config.seats) f in
    let q : seat ≡ asker = number_is seat asker (first_of (seat == asker) (index == own) s) in
    index_there layout.config seat index (eras_plain layout.config.scheme (helps_eras layout.config.scheme (first_of (helps layout.config.scheme) (nat_lt asker layout.config.seats) f)))
    (subst (λ (x : ℕ). nat_lt x layout.config.seats ≡ true) (sym q) a)
    (same_below index own layout.config.indexes (rest_of (seat == asker) (index == own) s) e.helps.asked.at)
handed_guard layout clock (Move at) post found seat index f e h = absurd (cc)
handed_guard layout clock base post found seat index f e h = absurd (cc)

stored_guard : (layout : Layout) (clock : ℕ) (base : Base) (post : Post) (found : ℕ) (guard : Guard) → is_valid layout ≡ true → post.seat < layout.config.seats → Ranges layout clock post base → may_store base post found guard ≡ true → is_guard layout.config guard ≡ true
stored_guard layout clock base post found (Helper seat) d b r h =
    both (is_wfe layout.config.scheme) (nat_lt seat layout.config.seats)
    (helps_wfe layout.config.scheme (stores_helper layout.config base r.run.fits (first_of (base_helper base) (seat == post.seat) h)))
    (same_below seat post.seat layout.config.seats (rest_of (base_helper base) (seat == post.seat) h) b)
stored_guard layout clock base post found (Index seat index) d b r h = by (base_index base index) refl h
  where
    by : (own : Bool) → base_index base index ≡ own → (if own then seat == post.seat else hands base found seat index) ≡ true → is_guard layout.config (Index seat index) ≡ true
    by true e h =
        index_there layout.config seat index (stores_index layout.config base index r.run.fits e) (same_below seat post.seat layout.config.seats h b)
        (subst (λ (x : ℕ). nat_lt x layout.config.indexes ≡ true) (sym (own_index base index e)) (lt_test (index_base base) layout.config.indexes (index_in layout r.why base post d r.within r.run)))
    by false e h = handed_guard layout clock base post found seat index r.run.fits r.eras h
stored_guard layout clock base post found (Whole seat) d b r h =
    both (has_one_interval layout.config.scheme) (nat_lt seat layout.config.seats) (stores_whole layout.config base r.run.fits (first_of (base_whole base) (seat == post.seat) h))
    (same_below seat post.seat layout.config.seats (rest_of (base_whole base) (seat == post.seat) h) b)

-- so is the index word of a row that is told
hazard_guard : (layout : Layout) (clock : ℕ) (base : Base) (post : Post) (guard : Guard) (slot : Option ℕ) → is_valid layout ≡ true → post.seat < layout.config.seats → Ranges layout clock post base → may_hazard base (counted post) guard slot ≡ true → is_guard layout.config guard ≡ true
hazard_guard layout clock base post (Index seat index) slot d b r h =
    let s : base_hazards base index ≡ true = first_of (base_hazards base index) (seat == post.seat && same_row slot (base_row base)) h in
    index_there layout.config seat index (hazards_index layout.config base index r.run.fits s)
    (same_below seat post.seat layout.config.seats (first_of (seat == post.seat) (same_row slot (base_row base)) (rest_of (base_hazards base index) (seat == post.seat && same_row slot (base_row base)) h)) b)
    (subst (λ (x : ℕ). nat_lt x layout.config.indexes ≡ true) (sym (hazard_index base index s)) (lt_test (index_base base) layout.config.indexes (index_in layout r.why base post d r.within r.run)))
hazard_guard layout clock base post (Helper seat) slot d b r h = absurd (cc)
hazard_guard layout clock base post (Whole seat) slot d b r h = absurd (cc)

told_guard : (layout : Layout) (clock : ℕ) (base : Base) (post : Post) (found : ℕ) (event : Event) → is_valid layout ≡ true → post.seat < layout.config.seats → Ranges layout clock post base → Tells base (counted post) found event → is_guarded layout.config event ≡ true
told_guard layout clock base post found (events.Reserve guard span) d b r t = stored_guard layout clock base post found guard d b r (stored guard (first_of (may_store base (counted post) found guard) (same_span span (base_shows base (counted post))) t))
  where
    stored : (guard : Guard) → may_store base (counted post) found guard ≡ true → may_store base post found guard ≡ true
    stored (Helper seat) h = h
    stored (Index seat index) h = h
    stored (Whole seat) h = h
told_guard layout clock base post found (events.Hazard guard slot) d b r t = hazard_guard layout clock base post guard slot d b r t
told_guard layout clock base post found (events.Read guard span) d b r t = absurd (cc)
told_guard layout clock base post found (events.Saw guard slot) d b r t = absurd (cc)
told_guard layout clock base post found event d b r t = refl

-- and the one of the index that a copy goes to
copied_guard : (layout : Layout) (work : Work) (post : Post) (from index era : ℕ) (rows : Bool) → post.seat < layout.config.seats → post.layout ≡ layout → work ≡ Keeping (StoreHeld from index era) → WorkFits post work → WorkIn layout.config work → is_guarded layout.config (published_event rows post index era) ≡ true
copied_guard layout work post from index era rows b t e f m =
    let kept : Copied from post = subst (WorkFits post) e f in
    let within : CopyIn layout.config from index = subst (WorkIn layout.config) e m in
    by rows (index_there layout.config post.seat index
    (subst (λ (table : Layout). not (has_one_interval table.config.scheme) ≡ true) t (ap not kept.plain))
    (lt_test post.seat layout.config.seats b) (lt_test index layout.config.indexes within.below))
  where
    by : (rows : Bool) → is_guard layout.config (Index post.seat index) ≡ true → is_guarded layout.config (published_event rows post index era) ≡ true
    by true h = h
    by false h = h

-- and the interval that a seat withdraws which leaves
hidden_guard : (layout : Layout) (work : Work) (post : Post) → post.seat < layout.config.seats → post.layout ≡ layout → work ≡ Keeping HideSpan → WorkFits post work → is_guard layout.config (Whole post.seat) ≡ true
hidden_guard layout work post b t e f =
    let hides : Hides post = subst (WorkFits post) e f in
    both (has_one_interval layout.config.scheme) (nat_lt post.seat layout.config.seats) (subst (λ (table : Layout). has_one_interval table.config.scheme ≡ true) t hides.interval) (lt_test post.seat layout.config.seats b)

-- a guard that is read
index_read : (c : Config) (k : ℕ) → not (has_one_interval c.scheme) ≡ true → 1 ≤ c.indexes → k < c.seats * c.indexes → is_guard c (index_at c k) ≡ true
index_read c k e b h = index_there c (k / c.indexes) (k % c.indexes) e (lt_test (k / c.indexes) c.seats ((div-lt_iff_lt-mul b).1 h)) (lt_test (k % c.indexes) c.indexes (mod-lt k b))

read_guard : (c : Config) (k : ℕ) (scheme : SchemeKind) → c.scheme ≡ scheme → 1 ≤ c.indexes → k < guards_by scheme c → is_guard c (guard_by scheme c k) ≡ true
read_guard c k He e b h = index_read c k (ap (λ (s : SchemeKind). not (has_one_interval s)) e) b h
read_guard c k Hp e b h = index_read c k (ap (λ (s : SchemeKind). not (has_one_interval s)) e) b h
read_guard c k Ibr e b h = both (has_one_interval c.scheme) (nat_lt k c.seats) (ap has_one_interval e) (lt_test k c.seats h)
read_guard c k Wfe e b h = by (nat_lt k c.seats) refl
  where
    by : (x : Bool) → nat_lt k c.seats ≡ x → is_guard c (if x then Helper k else index_at c (k - c.seats)) ≡ true
    by true q = both (is_wfe c.scheme) (nat_lt k c.seats) (ap is_wfe e) q
    by false q = index_read c (k - c.seats) (ap (λ (s : SchemeKind). not (has_one_interval s)) e) b (grind (arith, nat_tests))

-- a step
guard_passes : (c : Config) → Passes (is_guarded c)
guard_passes c = record { quiet = quiet_one; clears = λ index slot. refl }
  where
    quiet_one : (event : Event) → is_quiet event ≡ true → is_guarded c event ≡ true
    quiet_one (events.Reserve guard span) q = absurd (cc)
    quiet_one (events.Read guard span) q = absurd (cc)
    quiet_one (events.Hazard guard slot) q = absurd (cc)
    quiet_one (events.Saw guard slot) q = absurd (cc)
    quiet_one event q = refl

phase_guards : (layout : Layout) (clock : ℕ) (phase : Phase) (post : Post) (found : ℕ) → is_valid layout ≡ true → post.seat < layout.config.seats → post.layout ≡ layout → PhaseFits layout post phase → ((why : Why) (base : Base) → phase ≡ Runs why base → Ranges layout clock post base) → ((work : Work) → phase ≡ Works work → WorkIn layout.config work)
    → First (λ p told. all_of (is_guarded layout.config) told ≡ true) phase (counted post) found
phase_guards layout clock Idle post found d b t f r m = refl
phase_guards layout clock (Runs why base) post found d b t f r m = base_all (is_guarded layout.config) base (counted post) found (λ event. told_guard layout clock base post found event d b (r why base refl))
phase_guards layout clock (Scans later (ReadGuard number)) post found d b t f r m =
    let guard : Guard = guard_at post.layout.config number in
    let there : is_guard layout.config guard ≡ true = (subst (λ (table : Layout). is_guard layout.config (guard_at table.config number) ≡ true) (sym t)
    (read_guard layout.config number layout.config.scheme refl (let i = (bounds_of layout d).indexes in omega (arith, i.0)) (grind (arith, nat_tests)))) in
    reads_are (λ (event : Event). all_of (is_guarded layout.config) (event ∷ []) ≡ true) (publishes_rows post.layout.config.scheme) guard found (λ span. and_true (is_guard layout.config guard) there) (λ slot. and_true (is_guard layout.config guard) there)
phase_guards layout clock (Scans later (GiveBack place slot)) post found d b t f r m = refl
phase_guards layout clock (Works work) post found d b t f r m =
    work_passes (is_guarded layout.config) (λ index slot. refl) (λ from index slot. refl) work (counted post) (λ from index era e. copied_guard layout work (counted post) from index era (publishes_rows post.layout.config.scheme) b t e (work_counted work post f) (m work refl)) (λ e. hidden_guard layout work post b t e f)

pub told_all : (ok : Event → Bool) (i : ℕ) (told : List Event) (p : Past) → all_of ok told ≡ true → Each (λ q k event. ok event) p → Each (λ q k event. ok event) (tells_of p i told)
told_all ok i [] p h g = g
told_all ok i (event ∷ told) p h g = told_all ok i told (Then p i event) (rest_of (ok event) (all_of ok told) h) (first_of (ok event) (all_of ok told) h, g)

-- along a history
record Guarded (layout : Layout) (made : Made) : Type 0 where
  held : Held layout made
  law : Each (guards_ok layout.config) made.past

step_guards : (layout : Layout) (made : Made) (i : ℕ) → i < made.world.layout.config.seats → Held layout made → all_of (is_guarded layout.config) (told_in made.world i) ≡ true
step_guards layout made i b h =
    let w : World = made.world in
    let k = h.known in
    let f = k.seats.fits i in
    let s : (w.seat i).post.seat < w.layout.config.seats = subst (λ (x : ℕ). x < w.layout.config.seats) (sym f.post.seat) b in
    subst (λ (table : Layout). all_of (is_guarded table.config) (told_in w i) ≡ true) h.table
    (step_all (is_guarded w.layout.config) (guard_passes w.layout.config) (w.seat i).phase (counted (w.seat i).post) (offered w i).desk (finds w i)
    (phase_guards w.layout (w.mem Clock) (w.seat i).phase (w.seat i).post (finds w i) k.valid s f.post.layout f.phase (λ why base e. ranges_of w i h.rows h.line h.asked why base k e) (λ work e. subst (PhaseIn w.layout (w.seat i).desk) e (k.slots.seats i).phase)))

steady : (layout : Layout) → Steady (Guarded layout)
steady layout = record {
  begins = λ made i call b y m g. record { held = begin_held layout made i call y m g.held; law = (refl, g.law) };
  steps = λ made i b y g. record { held = step_held layout made i b g.held; law = told_all (is_guarded layout.config) i (told_in made.world i) made.past (step_guards layout made i b g.held) g.law };
}

pub records_name_guards : RecordsNameGuards
records_name_guards layout items d =
    let g = items_keep (Guarded layout) (steady layout) items (first_made layout) (record { held = first_held layout d; law = tt }) in
    entries_of_each (guards_ok layout.config) (record_of layout items) g.law
