-- Guards publish rows, and scans read rows of index words, where the scheme publishes rows, and intervals where it does not.
use Rattle.std.proofs.Common.{ℕ, ◌≡◌, ◌<◌, Bool, true, false, ◌∷◌, refl, sym, ap, ◌∙◌, subst}
use Rattle.std.specs.Prelude.{◌==◌, ◌&&◌, if◌then◌else◌, nat_le, nat_lt, not}
use Rattle.law_scans.specs.laws.words.Place.Place.{Clock}
use Rattle.law_scans.specs.laws.words.Schemes.{publishes_rows, has_one_interval, helps, counts_tries}
use Rattle.law_scans.specs.laws.words.declared.config.Config.{Config}
use Rattle.law_scans.specs.laws.words.declared.config.SchemeKind.{SchemeKind}
use Rattle.law_scans.specs.laws.words.declared.config.SchemeKind.TheVariants.{He, Hp, Ibr, Wfe}
use Rattle.law_scans.specs.laws.words.declared.layout.Layout.{Layout}
use Rattle.law_scans.specs.laws.defs.declared.event.Event.{Event}
use Rattle.law_scans.specs.laws.defs.declared.event.Event.TheVariants as events
use Rattle.law_scans.specs.laws.defs.declared.event.Guard.{Guard}
use Rattle.law_scans.specs.laws.defs.declared.event.Guard.TheVariants.{Helper, Index, Whole}
use Rattle.law_scans.specs.inv.model.declared.post.Post.{Post}
use Rattle.law_scans.specs.inv.model.Calls.{ReadGuard, GiveBack, Why, HideSpan, Work, Keeping, Phase, Idle, Runs, Scans, Works}
use Rattle.law_scans.specs.inv.model.Guards.{guard_at, guard_by}
use Rattle.law_scans.specs.inv.model.Phases.{Base, Endless, Failed}
use Rattle.law_scans.specs.inv.model.Phases.ProtectAt.{PublishEra, TakeAnswer, ByHazard}
use Rattle.law_scans.specs.inv.model.Phases.MoveAt.{HandOver}
use Rattle.law_scans.specs.inv.model.Phases.Base.{Protect, Clear, Move}
use Rattle.law_scans.specs.inv.model.Posts.{counted}
use Rattle.law_scans.specs.inv.model.Scan.{reads_guard}
use Rattle.law_scans.specs.inv.model.World.{World, finds, offered, told_in}
use Rattle.law_scans.proofs.laws.records.defs.Facts.{both, first_of, rest_of, and_true, false_of_not}
use Rattle.law_scans.proofs.inv.model.words.Schemes.{clock_eras, counts_eras, eras_not_rows, helps_not_rows, interval_not_rows}
use Rattle.law_scans.specs.inv.history.History.{Made, first_made, record_of}
use Rattle.law_scans.specs.laws.records.Record.{Past, Each}
use Rattle.law_scans.specs.laws.records.Record.Past.{Start}
use Rattle.law_scans.specs.inv.shapes.Frame.{Hides, WorkFits}
use Rattle.law_scans.specs.inv.shapes.Seats.{PhaseFits, base_fits}
use Rattle.law_reasons.proofs.Eras.EraLaw.Guards.{stores_helper, stores_whole, told_all}
use Rattle.law_reasons.proofs.Eras.EraLaw.Shapes.{published_event, work_passes}
use Rattle.law_scans.proofs.reuse.history.AllOf.{all_of}
use Rattle.law_scans.proofs.reuse.history.Along.{Steady, items_keep}
use Rattle.law_scans.proofs.laws.records.Entries.{entries_of_each}
use Rattle.law_scans.proofs.reuse.history.MayTell.{Tells, may_store, base_hazards, base_helper, base_index, base_row, base_whole, base_shows, hands, same_row, same_span, base_all, Passes, step_all}
use Rattle.law_scans.proofs.reuse.history.Passes.{is_quiet, First}
use Rattle.law_scans.proofs.reuse.Holding.Holds.{Held, begin_held, step_held, first_held, ranges_of}
use Rattle.law_scans.proofs.reuse.Holding.Values.{Ranges}
use Rattle.law_scans.specs.laws.EraLaw.{kind_ok}
use Rattle.law_scans.specs.laws.StateAt.{is_index}
use Rattle.law_reasons.specs.Eras.Records.{RecordsKeepKinds}

-- the law says the same of an event wherever it stands
abbrev of_kind : SchemeKind → Event → Bool
of_kind scheme event = kind_ok scheme Start 0 event

kind_same : (scheme : SchemeKind) (p : Past) (i : ℕ) (event : Event) → of_kind scheme event ≡ true → kind_ok scheme p i event ≡ true
kind_same scheme p i (events.Reserve guard span) h = h
kind_same scheme p i (events.Read guard span) h = h
kind_same scheme p i (events.Hazard guard slot) h = h
kind_same scheme p i (events.Saw guard slot) h = h
kind_same scheme p i event h = refl

-- a machine that publishes eras is of a scheme that publishes no rows
index_plain : (c : Config) (base : Base) (index : ℕ) → base_fits c base ≡ true → base_index base index ≡ true → publishes_rows c.scheme ≡ false
index_plain c (Protect aim own root made (PublishEra era Endless)) index f h = eras_not_rows c.scheme (clock_eras c.scheme f)
index_plain c (Protect aim own root made (PublishEra era (Failed count))) index f h = eras_not_rows c.scheme (counts_eras c.scheme (first_of (counts_tries c.scheme) (nat_le count c.tries) f))
index_plain c (Protect aim own root made (TakeAnswer link era)) index f h = helps_not_rows c.scheme f
index_plain c (Protect aim own root made at) index f h = absurd (cc)
index_plain c (Clear false own) index f h = false_of_not (publishes_rows c.scheme) (rest_of (not (has_one_interval c.scheme)) (not (publishes_rows c.scheme)) f)
index_plain c (Clear true own) index f h = absurd (cc)
index_plain c base index f h = absurd (cc)

handed_plain : (c : Config) (base : Base) (found seat index : ℕ) → base_fits c base ≡ true → hands base found seat index ≡ true → publishes_rows c.scheme ≡ false
handed_plain c (Move (HandOver era asker tag own root link old)) found seat index f h = helps_not_rows c.scheme (first_of (helps c.scheme) (nat_lt asker c.seats) f)
handed_plain c (Move at) found seat index f h = absurd (cc)
handed_plain c base found seat index f h = absurd (cc)

store_plain : (layout : Layout) (clock : ℕ) (base : Base) (post : Post) (found : ℕ) (guard : Guard) → Ranges layout clock post base → may_store base (counted post) found guard ≡ true → publishes_rows layout.config.scheme ≡ false
store_plain layout clock base post found (Helper seat) r h = helps_not_rows layout.config.scheme (stores_helper layout.config base r.run.fits (first_of (base_helper base) (seat == post.seat) h))
store_plain layout clock base post found (Index seat index) r h = by (base_index base index) refl h
  where
    by : (own : Bool) → base_index base index ≡ own → (if own then seat == post.seat else hands base found seat index) ≡ true → publishes_rows layout.config.scheme ≡ false
    by true e h = index_plain layout.config base index r.run.fits e
    by false e h = handed_plain layout.config base found seat index r.run.fits h
store_plain layout clock base post found (Whole seat) r h = interval_not_rows layout.config.scheme (stores_whole layout.config base r.run.fits (first_of (base_whole base) (seat == post.seat) h))

-- and one that publishes a row of one that does
hazard_rows : (c : Config) (base : Base) (index : ℕ) → base_fits c base ≡ true → base_hazards base index ≡ true → publishes_rows c.scheme ≡ true
hazard_rows c (Protect aim own root made (ByHazard at)) index f h = f
hazard_rows c (Protect aim own root made at) index f h = absurd (cc)
hazard_rows c (Clear true own) index f h = rest_of (not (has_one_interval c.scheme)) (publishes_rows c.scheme) f
hazard_rows c (Clear false own) index f h = absurd (cc)
hazard_rows c base index f h = absurd (cc)

told_kind : (layout : Layout) (clock : ℕ) (base : Base) (post : Post) (found : ℕ) (event : Event) → Ranges layout clock post base → Tells base (counted post) found event → of_kind layout.config.scheme event ≡ true
told_kind layout clock base post found (events.Reserve guard span) r t = ap not (store_plain layout clock base post found guard r (first_of (may_store base (counted post) found guard) (same_span span (base_shows base (counted post))) t))
told_kind layout clock base post found (events.Hazard (Index seat index) slot) r t = hazard_rows layout.config base index r.run.fits (first_of (base_hazards base index) (seat == post.seat && same_row slot (base_row base)) t)
told_kind layout clock base post found (events.Hazard (Helper seat) slot) r t = absurd (cc)
told_kind layout clock base post found (events.Hazard (Whole seat) slot) r t = absurd (cc)
told_kind layout clock base post found (events.Read guard span) r t = absurd (cc)
told_kind layout clock base post found (events.Saw guard slot) r t = absurd (cc)
told_kind layout clock base post found event r t = refl

-- a copy, an interval that is withdrawn, and a guard that is read
copied_kind : (scheme : SchemeKind) (rows : Bool) (post : Post) (index number : ℕ) → publishes_rows scheme ≡ rows → of_kind scheme (published_event rows post index number) ≡ true
copied_kind scheme true post index number e = e
copied_kind scheme false post index number e = ap not e

hidden_kind : (layout : Layout) (work : Work) (post : Post) → post.layout ≡ layout → work ≡ Keeping HideSpan → WorkFits post work → not (publishes_rows layout.config.scheme) ≡ true
hidden_kind layout work post t e f =
    let hides : Hides post = subst (WorkFits post) e f in
    ap not (interval_not_rows layout.config.scheme (subst (λ (table : Layout). has_one_interval table.config.scheme ≡ true) t hides.interval))

rows_index : (scheme : SchemeKind) (config : Config) (k : ℕ) → publishes_rows scheme ≡ true → is_index (guard_by scheme config k) ≡ true
rows_index He config k e = absurd (cc)
rows_index Ibr config k e = absurd (cc)
rows_index Wfe config k e = absurd (cc)
rows_index Hp config k e = refl

read_kind : (scheme : SchemeKind) (rows : Bool) (guard : Guard) (word : ℕ) → publishes_rows scheme ≡ rows → (rows ≡ true → is_index guard ≡ true) → of_kind scheme (reads_guard rows guard word) ≡ true
read_kind scheme true guard word e g = both (publishes_rows scheme) (is_index guard) e (g refl)
read_kind scheme false guard word e g = ap not e

-- a step
kind_passes : (scheme : SchemeKind) → Passes (of_kind scheme)
kind_passes scheme = record { quiet = quiet_one; clears = λ index slot. refl }
  where
    quiet_one : (event : Event) → is_quiet event ≡ true → of_kind scheme event ≡ true
    quiet_one (events.Reserve guard span) q = absurd (cc)
    quiet_one (events.Read guard span) q = absurd (cc)
    quiet_one (events.Hazard guard slot) q = absurd (cc)
    quiet_one (events.Saw guard slot) q = absurd (cc)
    quiet_one event q = refl

phase_kinds : (layout : Layout) (clock : ℕ) (phase : Phase) (post : Post) (found : ℕ) → post.layout ≡ layout → PhaseFits layout post phase → ((why : Why) (base : Base) → phase ≡ Runs why base → Ranges layout clock post base)
    → First (λ p told. all_of (of_kind layout.config.scheme) told ≡ true) phase (counted post) found
phase_kinds layout clock Idle post found t f r = refl
phase_kinds layout clock (Runs why base) post found t f r = base_all (of_kind layout.config.scheme) base (counted post) found (λ event. told_kind layout clock base post found event (r why base refl))
phase_kinds layout clock (Scans later (ReadGuard number)) post found t f r =
    let rows : Bool = publishes_rows post.layout.config.scheme in
    let guard : Guard = guard_at post.layout.config number in
    and_true (of_kind layout.config.scheme (reads_guard rows guard found))
    (subst (λ (table : Layout). of_kind table.config.scheme (reads_guard rows guard found) ≡ true) t (read_kind post.layout.config.scheme rows guard found refl (λ e. rows_index post.layout.config.scheme post.layout.config number e)))
phase_kinds layout clock (Scans later (GiveBack place slot)) post found t f r = refl
phase_kinds layout clock (Works work) post found t f r =
    work_passes (of_kind layout.config.scheme) (λ index slot. refl) (λ from index slot. refl) work (counted post)
    (λ from index number e. copied_kind layout.config.scheme (publishes_rows post.layout.config.scheme) (counted post) index number (sym (ap (λ (table : Layout). publishes_rows table.config.scheme) t)))
    (λ e. hidden_kind layout work post t e f)

-- along a history
record Kinded (layout : Layout) (made : Made) : Type 0 where
  held : Held layout made
  law : Each (λ q k event. of_kind layout.config.scheme event) made.past

step_kinds : (layout : Layout) (made : Made) (i : ℕ) → Held layout made → all_of (of_kind layout.config.scheme) (told_in made.world i) ≡ true
step_kinds layout made i h =
    let w : World = made.world in
    let k = h.known in
    let f = k.seats.fits i in
    subst (λ (table : Layout). all_of (of_kind table.config.scheme) (told_in w i) ≡ true) h.table
    (step_all (of_kind w.layout.config.scheme) (kind_passes w.layout.config.scheme) (w.seat i).phase (counted (w.seat i).post) (offered w i).desk (finds w i)
    (phase_kinds w.layout (w.mem Clock) (w.seat i).phase (w.seat i).post (finds w i) f.post.layout f.phase (λ why base e. ranges_of w i h.rows h.line h.asked why base k e)))

steady : (layout : Layout) → Steady (Kinded layout)
steady layout = record {
  begins = λ made i call b y m g. record { held = begin_held layout made i call y m g.held; law = (refl, g.law) };
  steps = λ made i b y g. record { held = step_held layout made i b g.held; law = told_all (of_kind layout.config.scheme) i (told_in made.world i) made.past (step_kinds layout made i g.held) g.law };
}

pub records_keep_kinds : RecordsKeepKinds
records_keep_kinds layout items d before i event later e =
    let g = items_keep (Kinded layout) (steady layout) items (first_made layout) (record { held = first_held layout d; law = tt }) in
    kind_same layout.config.scheme before i event (entries_of_each (λ q k other. of_kind layout.config.scheme other) (record_of layout items) g.law before i event later e)
