-- A seat tells what its own guards publish, but for the word that a mover hands over.
use Rattle.std.proofs.Common.{ℕ, ◌≡◌, ◌≤◌, Bool, true, false, List, [], ◌∷◌, Option, refl, sym, ap, ◌∙◌, subst, arith}
use Rattle.std.proofs.lemmas.Bool.Decides.{nat_tests}
use Rattle.std.specs.Prelude.{◌==◌, ◌&&◌, ◌||◌, if◌then◌else◌}
use Rattle.law_scans.specs.laws.words.Place.{Place as places}
use Rattle.law_scans.specs.laws.words.declared.config.SchemeKind.{SchemeKind}
use Rattle.law_scans.specs.laws.defs.declared.event.Event.{Event}
use Rattle.law_scans.specs.laws.defs.declared.event.Event.TheVariants as events
use Rattle.law_scans.specs.laws.defs.declared.event.Guard.{Guard}
use Rattle.law_scans.specs.laws.defs.declared.event.Guard.TheVariants.{Helper, Index, Whole}
use Rattle.law_scans.specs.laws.defs.declared.event.Root.{Root}
use Rattle.law_scans.specs.laws.defs.declared.lifetime.Interval.{Interval}
use Rattle.law_scans.specs.inv.model.declared.post.Post.{Post}
use Rattle.law_scans.specs.inv.model.Calls.{ReadGuard, GiveBack, Why, Phase, Idle, Runs, Scans, Works}
use Rattle.law_scans.specs.inv.model.Guards.{guard_at, one_era}
use Rattle.law_scans.specs.inv.model.Machine as machine
use Rattle.law_scans.specs.inv.model.Phases.{Base}
use Rattle.law_scans.specs.inv.model.Phases.MoveAt.{HandOver}
use Rattle.law_scans.specs.inv.model.Phases.Base.{Move}
use Rattle.law_scans.specs.inv.model.Posts.{counted}
use Rattle.law_scans.specs.inv.model.World.{World, told_in, finds}
use Rattle.std.specs.List.{filter}
use Rattle.law_scans.specs.laws.records.Record.{Past}
use Rattle.law_scans.specs.laws.records.Record.Past.{Then}
use Rattle.law_scans.proofs.laws.Along.{Single, OfKind}
use Rattle.law_reasons.proofs.Eras.EraLaw.Shapes.{published_event, shape_single, work_single}
use Rattle.law_scans.proofs.reuse.ReadGuards.{reads_are}
use Rattle.law_scans.proofs.inv.model.words.Schemes.{helps_not_rows}
use Rattle.law_scans.proofs.inv.ends.Told.Rows.{own_told, step_filter}
use Rattle.law_scans.proofs.inv.ends.Told.Turns.{is_later}
use Rattle.law_scans.proofs.reuse.Holding.Values.{Ranges}
use Rattle.law_scans.specs.laws.words.Schemes.{helps, is_wfe, publishes_rows}
use Rattle.law_scans.specs.inv.requests.Standing.{Requests}
use Rattle.law_scans.specs.inv.requests.Views.{View as Asked, Role as role}
use Rattle.law_scans.proofs.inv.ends.Handover.Shown.{helper_shows}
use Rattle.law_scans.specs.inv.model.Links.{link_number}
use Rattle.law_scans.proofs.laws.records.defs.Facts.{first_of, both, rest_of, number_is, false_not_true, or_more}
use Rattle.law_scans.specs.inv.covers.Covers.{eras_shown}
use Rattle.law_scans.specs.laws.StateAt.{reserved_by, value_of, seat_of, is_index}
use Rattle.law_scans.specs.laws.EraLaw.{same_interval, guard_ok}
use Rattle.law_scans.proofs.inv.requests.Known.{stands_as}
use Rattle.law_scans.proofs.reuse.history.MayTell.{Tells, may_store, may_hazard, base_hazards, base_row, same_row, base_helper, base_index, base_whole, base_shows, hands, same_span, span_of, is_find, shape_of}

-- the events that say what a guard publishes
abbrev pub is_reserve : Event → Bool
is_reserve (events.Reserve guard span) = true
is_reserve (events.Hazard guard slot) = true
is_reserve event = false

later_unreserved : (e : Event) → is_later e ≡ true → is_reserve e ≡ false
later_unreserved (events.Reserve guard span) h = absurd (cc)
later_unreserved (events.Hazard guard slot) h = absurd (cc)
later_unreserved e h = refl

reserve_keeps : (guard : Guard) (event : Event) (x : Option Interval) → is_reserve event ≡ false → reserved_by guard event x ≡ x
reserve_keeps guard (events.Reserve other span) x h = absurd (cc)
reserve_keeps guard event x h = refl

guard_quiet : (scheme : SchemeKind) (p : Past) (i : ℕ) (event : Event) → is_reserve event ≡ false → guard_ok scheme p i event ≡ true
guard_quiet scheme p i (events.Reserve guard span) h = absurd (cc)
guard_quiet scheme p i (events.Hazard guard slot) h = absurd (cc)
guard_quiet scheme p i event h = refl

guard_still : (scheme : SchemeKind) (p : Past) (i : ℕ) (event other : Event) → is_reserve event ≡ false → guard_ok scheme p i other ≡ true → guard_ok scheme (Then p i event) i other ≡ true
guard_still scheme p i event (events.Reserve guard span) h c = rw (reserve_keeps (Helper i) event (value_of (Helper i) p) h) c
guard_still scheme p i event other h c = c

pub guard_kind : (scheme : SchemeKind) → OfKind is_reserve (guard_ok scheme)
guard_kind scheme = record { quiet = guard_quiet scheme; still = guard_still scheme }

own_seat : (seat i : ℕ) (b : Bool) → seat ≡ i → (seat == i || b) ≡ true
own_seat seat i b e = grind (arith, nat_tests)

-- what a mover's helper word publishes where it hands over
abbrev pub Hands : SchemeKind → Past → ℕ → Base → Type 0
Hands scheme p i base = (era seat tag index : ℕ) (root : Root) (link old : ℕ) → base ≡ Move (HandOver era seat tag index root link old) → (is_wfe scheme && same_interval (one_era era) (value_of (Helper i) p)) ≡ true

-- the guard is the seat's, or that of a hand-over
kept_seat : (base : Base) (post : Post) (found : ℕ) (guard : Guard) → ((seat index : ℕ) → guard ≡ Index seat index → hands base found seat index ≡ false) → may_store base post found guard ≡ true → seat_of guard ≡ post.seat
kept_seat base post found (Helper seat) n h = number_is seat post.seat (rest_of (base_helper base) (seat == post.seat) h)
kept_seat base post found (Index seat index) n h = by (base_index base index) h
  where
    by : (own : Bool) → (if own then seat == post.seat else hands base found seat index) ≡ true → seat ≡ post.seat
    by true h = number_is seat post.seat h
    by false h = absurd (false_not_true (hands base found seat index) (n seat index refl) h)
kept_seat base post found (Whole seat) n h = number_is seat post.seat (rest_of (base_whole base) (seat == post.seat) h)

own_guard : (scheme : SchemeKind) (p : Past) (i : ℕ) (base : Base) (post : Post) (found : ℕ) (guard : Guard) (span : Option Interval) → post.seat ≡ i → ((seat index : ℕ) → guard ≡ Index seat index → hands base found seat index ≡ false) → Tells base post found (events.Reserve guard span)
    → guard_ok scheme p i (events.Reserve guard span) ≡ true
own_guard scheme p i base post found guard span e n t = own_seat (seat_of guard) i _ (kept_seat base post found guard n (first_of (may_store base post found guard) (same_span span (base_shows base post)) t) ∙ e)

hand_guard : (scheme : SchemeKind) (p : Past) (i era seat tag index : ℕ) (root : Root) (link old : ℕ) (post : Post) (found : ℕ) (guard : Guard) (span : Option Interval) → Hands scheme p i (Move (HandOver era seat tag index root link old)) → Tells (Move (HandOver era seat tag index root link old)) post found (events.Reserve guard span)
    → guard_ok scheme p i (events.Reserve guard span) ≡ true
hand_guard scheme p i era seat tag index root link old post found (Index other at) span h t =
    let e : span ≡ one_era era = span_of (Move (HandOver era seat tag index root link old)) post found (Index other at) span t in
    or_more (other == i) (is_wfe scheme && same_interval span (value_of (Helper i) p)) (rw e (h era seat tag index root link old refl))
hand_guard scheme p i era seat tag index root link old post found (Helper other) span h t = absurd (cc)
hand_guard scheme p i era seat tag index root link old post found (Whole other) span h t = absurd (cc)

-- a row is told of an own index word alone
same_seat : (seat i : ℕ) → seat ≡ i → (seat == i) ≡ true
same_seat seat i e = grind (arith, nat_tests)

hazard_owned : (i : ℕ) (base : Base) (post : Post) (guard : Guard) (slot : Option ℕ) → post.seat ≡ i → may_hazard base post guard slot ≡ true → (is_index guard && seat_of guard == i) ≡ true
hazard_owned i base post (Index seat index) slot e t =
    same_seat seat i (number_is seat post.seat (first_of (seat == post.seat) (same_row slot (base_row base)) (rest_of (base_hazards base index) (seat == post.seat && same_row slot (base_row base)) t)) ∙ e)
hazard_owned i base post (Helper seat) slot e t = absurd (cc)
hazard_owned i base post (Whole seat) slot e t = absurd (cc)

event_owned : (scheme : SchemeKind) (p : Past) (i : ℕ) (base : Base) (post : Post) (found : ℕ) (event : Event) → post.seat ≡ i → Hands scheme p i base → Tells base post found event → guard_ok scheme p i event ≡ true
event_owned scheme p i (Move (HandOver era seat tag index root link old)) post found (events.Reserve guard span) e h t = hand_guard scheme p i era seat tag index root link old post found guard span h t
event_owned scheme p i (Move at) post found (events.Reserve guard span) e h t = own_guard scheme p i (Move at) post found guard span e (λ seat index same. refl) t
event_owned scheme p i base post found (events.Reserve guard span) e h t = own_guard scheme p i base post found guard span e (λ seat index same. refl) t
event_owned scheme p i base post found (events.Hazard guard slot) e h t = hazard_owned i base post guard slot e t
event_owned scheme p i base post found event e h t = refl

find_owned : (event : Event) → is_find event ≡ true → is_reserve event ≡ false
find_owned (events.Held index slot n) h = refl
find_owned (events.Null index n) h = refl
find_owned event h = absurd (cc)

abbrev Owned : SchemeKind → Past → ℕ → List Event → Type 0
Owned scheme p i told = Single (guard_ok scheme) p i (filter is_reserve told)

base_owned : (scheme : SchemeKind) (p : Past) (i : ℕ) (base : Base) (post : Post) (found : ℕ) → post.seat ≡ i → Hands scheme p i base → Owned scheme p i (machine.after base (counted post) found).told
base_owned scheme p i base post found e h =
    shape_single is_reserve (guard_ok scheme) p i (λ index slot. refl) find_owned base (counted post) found (machine.after base (counted post) found).told (shape_of base (counted post) found) (λ event. event_owned scheme p i base (counted post) found event e h)

-- a copy tells of an own index word
copied_owned : (scheme : SchemeKind) (p : Past) (i : ℕ) (rows : Bool) (post : Post) (index number : ℕ) → post.seat ≡ i → guard_ok scheme p i (published_event rows post index number) ≡ true
copied_owned scheme p i false post index number e = own_seat post.seat i _ e
copied_owned scheme p i true post index number e = same_seat post.seat i e

phase_owned : (scheme : SchemeKind) (p : Past) (i : ℕ) (phase : Phase) (post : Post) (found : ℕ) → post.seat ≡ i → ((why : Why) (base : Base) → phase ≡ Runs why base → Hands scheme p i base) → Owned scheme p i (own_told phase (counted post) found)
phase_owned scheme p i Idle post found e h = tt
phase_owned scheme p i (Runs why base) post found e h = base_owned scheme p i base post found e (h why base refl)
phase_owned scheme p i (Scans later (ReadGuard number)) post found e h =
    reads_are (λ (event : Event). Owned scheme p i (event ∷ [])) (publishes_rows post.layout.config.scheme) (guard_at post.layout.config number) found (λ span. tt) (λ slot. tt)
phase_owned scheme p i (Scans later (GiveBack place slot)) post found e h = tt
phase_owned scheme p i (Works work) post found e h =
    work_single is_reserve (guard_ok scheme) p i (λ index slot. refl) (λ from index slot. refl) work (counted post) (λ from index number q. copied_owned scheme p i (publishes_rows post.layout.config.scheme) (counted post) index number e) (λ q. own_seat post.seat i _ e)

pub step_owned : (w : World) (i : ℕ) (p : Past) → (w.seat i).post.seat ≡ i → ((why : Why) (base : Base) → (w.seat i).phase ≡ Runs why base → Hands w.layout.config.scheme p i base) → Single (guard_ok w.layout.config.scheme) p i (filter is_reserve (told_in w i))
step_owned w i p e h =
    subst (λ (es : List Event). Single (guard_ok w.layout.config.scheme) p i es) (sym (step_filter is_reserve w i later_unreserved)) (phase_owned w.layout.config.scheme p i (w.seat i).phase (w.seat i).post (finds w i) e h)

-- the helper word has the era that is handed over
shown_same : (era helper : ℕ) (x : Option Interval) → x ≡ one_era helper → (helper == era) ≡ true → 1 ≤ era → same_interval (one_era era) x ≡ true
shown_same era helper x e h m =
    let q : helper ≡ era = grind (arith, nat_tests) in
    let z : (era == 0) ≡ false = grind (arith, nat_tests) in
    subst (λ (y : Option Interval). same_interval (one_era era) y ≡ true) (sym (e ∙ ap one_era q)) (rw z (grind (arith, nat_tests)))

pub hands_of : (w : World) (i : ℕ) (z : Asked) (p : Past) (why : Why) (base : Base) → Requests w z → (publishes_rows w.layout.config.scheme ≡ false → value_of (Helper i) p ≡ eras_shown w (Helper i)) → (w.seat i).phase ≡ Runs why base → Ranges w.layout (w.mem places.Clock) (w.seat i).post base → Hands w.layout.config.scheme p i base
hands_of w i z p why base q v e r era seat tag index root link old same =
    let f : (w.seat i).phase ≡ Runs why (Move (HandOver era seat tag index root link old)) = e ∙ ap (λ (b : Base). Runs why b) same in
    let g : Ranges w.layout (w.mem places.Clock) (w.seat i).post (Move (HandOver era seat tag index root link old)) = subst (Ranges w.layout (w.mem places.Clock) (w.seat i).post) same r in
    let o : z.role i ≡ role.Hands era seat tag index (link_number w.layout root) link old = stands_as w z i (Runs why (Move (HandOver era seat tag index root link old))) q f in
    let x : (z.helper i == era) ≡ true = rw o at (q.parts.shown i) in
    let s = shown_same era (z.helper i) (value_of (Helper i) p) (v (helps_not_rows w.layout.config.scheme (first_of (helps w.layout.config.scheme) _ g.run.fits)) ∙ helper_shows w z i q) x g.eras.helps.mover.era_in.some in
    let m : is_wfe w.layout.config.scheme ≡ true = first_of (is_wfe w.layout.config.scheme) _ g.run.fits in
    both (is_wfe w.layout.config.scheme) (same_interval (one_era era) (value_of (Helper i) p)) m s
