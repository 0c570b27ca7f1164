-- Under Hazard Eras the number of a protection is that of its tries at the very entry that tells it.
use Rattle.std.proofs.Common.{ℕ, ◌≡◌, Bool, true, false, List, [], ◌∷◌, refl, sym, ap, ◌∙◌, subst}
use Rattle.law_reuse.specs.laws.words.Place.{is_valid}
use Rattle.law_reuse.specs.laws.words.Schemes.{helps, is_he}
use Rattle.law_reuse.specs.laws.words.declared.config.Config.{Config}
use Rattle.law_reuse.specs.laws.words.declared.config.SchemeKind.{SchemeKind}
use Rattle.law_reuse.specs.laws.words.declared.config.SchemeKind.TheVariants.{He, Hp, Ibr, Wfe}
use Rattle.law_reuse.specs.laws.words.declared.layout.Layout.{Layout}
use Rattle.law_reuse.specs.laws.defs.declared.event.Event.{Event}
use Rattle.law_reuse.specs.laws.defs.declared.event.Event.TheVariants as events
use Rattle.law_reuse.specs.laws.defs.declared.event.Guard.TheVariants.{Helper, Index, Whole}
use Rattle.law_reuse.specs.inv.model.Calls.{Phase}
use Rattle.law_reuse.specs.inv.model.Phases.{Base}
use Rattle.law_reuse.specs.inv.model.Phases.ProtectAt.{CheckClock, CheckUpper, TakeAnswer, ByHazard}
use Rattle.law_reuse.specs.inv.model.Phases.HazardAt.{FirstLink, CheckLink}
use Rattle.law_reuse.specs.inv.model.Phases.Base.{Protect, Reload}
use Rattle.law_reuse.specs.inv.model.Posts.{counted}
use Rattle.law_reuse.specs.inv.model.World.{World, finds, offered, told_in}
use Rattle.law_reuse.proofs.laws.records.defs.Facts.{first_of, rest_of, same_number}
use Rattle.law_reuse.specs.history.History as histories
use Rattle.law_reuse.specs.history.History.{Item, Made, Steps, done}
use Rattle.law_reuse.specs.laws.records.Record.{Past, Test, Each, EachEntry, tells_of}
use Rattle.law_reuse.specs.laws.records.Record.Past.{Then}
use Rattle.law_reuse.specs.laws.records.Turns as schedule
use Rattle.law_reuse.specs.laws.records.Turns.{record_of}
use Rattle.law_reuse.specs.inv.shapes.Seats.{base_fits}
use Rattle.law_reuse.proofs.history.AllOf.{all_of}
use Rattle.law_reuse.proofs.laws.records.Entries.{entries_of_each}
use Rattle.law_reuse.proofs.history.MayTell as may
use Rattle.law_reuse.proofs.history.MayTell.{Passes, is_find, is_index, no_find, no_index, step_all, stores_index, work_all}
use Rattle.law_reuse.proofs.OneStep.Along.{Around, Kept, history_keeps}
use Rattle.law_reuse.proofs.Turns.Counted.{histories_count}
use Rattle.law_reuse.specs.Heard.{IsCounted}
use Rattle.law_reuse.specs.laws.StateAt.{reserves_by, reserves_of}
use Rattle.law_reuse.specs.laws.HistorySteps.{events_tried}
use Rattle.law_reuse.specs.laws.StepLaw.{event_tried}
use Rattle.law_scans.proofs.Turns.Finds.{phase_finds, phase_unfound, phase_unindexed, unfound, unfound_passes, unindexed, unindexed_passes}
use Rattle.law_scans.proofs.Turns.TryCounts as counts
use Rattle.law_scans.proofs.Turns.TryCounts.{Tries, events_same, unfound_one}

abbrev pub tried_ok : Test
tried_ok p i event = event_tried (λ j. reserves_of i j p) event

unfound_each : (i : ℕ) (told : List Event) (p : Past) → all_of unfound told ≡ true → Each tried_ok p → Each tried_ok (tells_of p i told)
unfound_each i [] p h g = g
unfound_each i (event ∷ told) p h g = unfound_each i told (Then p i event) (rest_of (unfound event) (all_of unfound told) h) (unfound_one (λ j. reserves_of i j p) event (first_of (unfound event) (all_of unfound told) h), g)

one_reserved : (i j : ℕ) (event : Event) (n : ℕ) → unindexed event ≡ true → reserves_by i j event n ≡ n
one_reserved i j (events.Reserve (Index seat index) span) n h = absurd (cc)
one_reserved i j (events.Reserve (Helper seat) span) n h = refl
one_reserved i j (events.Reserve (Whole seat) span) n h = refl
one_reserved i j event n h = refl

own_reserves : (i j : ℕ) (p : Past) (event : Event) → unindexed event ≡ true → reserves_of i j (Then p i event) ≡ reserves_of i j p
own_reserves i j p event h = rw (same_number i) (one_reserved i j event (reserves_of i j p) h)

told_reserves : (i j : ℕ) (told : List Event) (p : Past) → all_of unindexed told ≡ true → reserves_of i j (tells_of p i told) ≡ reserves_of i j p
told_reserves i j [] p h = refl
told_reserves i j (event ∷ told) p h = told_reserves i j told (Then p i event) (rest_of (unindexed event) (all_of unindexed told) h) ∙ own_reserves i j p event (first_of (unindexed event) (all_of unindexed told) h)

unindexed_each : (i : ℕ) (told : List Event) (p : Past) → all_of unindexed told ≡ true → events_tried (λ j. reserves_of i j p) told ≡ true → Each tried_ok p → Each tried_ok (tells_of p i told)
unindexed_each i [] p h t g = g
unindexed_each i (event ∷ told) p h t g =
    let e : events_tried (λ j. reserves_of i j p) told ≡ true = rest_of (event_tried (λ j. reserves_of i j p) event) (events_tried (λ j. reserves_of i j p) told) t in
    unindexed_each i told (Then p i event) (rest_of (unindexed event) (all_of unindexed told) h)
    (events_same (λ j. reserves_of i j p) (λ j. reserves_of i j (Then p i event)) told (λ j. own_reserves i j p event (first_of (unindexed event) (all_of unindexed told) h)) e)
    (first_of (event_tried (λ j. reserves_of i j p) event) (events_tried (λ j. reserves_of i j p) told) t, g)

no_help : (scheme : SchemeKind) → is_he scheme ≡ true → helps scheme ≡ true → true ≡ false
no_help He e h = sym h
no_help Hp e h = sym h
no_help Ibr e h = sym h
no_help Wfe e h = sym e

-- a step that ends a protection under Hazard Eras stores no index word
find_stores : (c : Config) (base : Base) → is_he c.scheme ≡ true → base_fits c base ≡ true → may.finds base ≡ true → stores_index base ≡ false
find_stores c (Protect aim index root made (CheckClock era tries link)) e f h = refl
find_stores c (Protect aim index root made (CheckUpper link)) e f h = refl
find_stores c (Protect aim index root made (TakeAnswer link era)) e f h = no_help c.scheme e f
find_stores c (Protect aim index root made (ByHazard FirstLink)) e f h = refl
find_stores c (Protect aim index root made (ByHazard (CheckLink link))) e f h = refl
find_stores c (Protect aim index root made at) e f h = absurd (cc)
find_stores c (Reload parent index slot era made) e f h = refl
find_stores c base e f h = absurd (cc)

-- along a history
record Entries (layout : Layout) (made : Made) (h : schedule.History) : Type 0 where
  tries : Tries layout made h
  law : Each tried_ok (record_of h)

step_entries : (layout : Layout) (made : Made) (h : schedule.History) (i : ℕ) → is_he layout.config.scheme ≡ true → Around made h → made.world.layout ≡ layout → events_tried (λ j. reserves_of i j (tells_of (record_of h) i (told_in made.world i))) (told_in made.world i) ≡ true → Each tried_ok (record_of h) → Each tried_ok (tells_of (record_of h) i (told_in made.world i))
step_entries layout made h i e a t r g = by (phase_finds phase) refl
  where
    phase : Phase
    phase = (made.world.seat i).phase

    by : (f : Bool) → phase_finds phase ≡ f → Each tried_ok (tells_of (record_of h) i (told_in made.world i))
    by false f =
        let w : World = made.world in
        unfound_each i (told_in w i) (record_of h) (step_all unfound unfound_passes phase (counted (w.seat i).post) (offered w i).desk (finds w i) (phase_unfound phase (counted (w.seat i).post) (finds w i) f)) g
    by true f =
        let w : World = made.world in
        let k = a.known.known in
        let s = k.seats.fits i in
        let q : is_he w.layout.config.scheme ≡ true = ap (λ (table : Layout). is_he table.config.scheme) t ∙ e in
        let n : all_of unindexed (told_in w i) ≡ true = step_all unindexed unindexed_passes phase (counted (w.seat i).post) (offered w i).desk (finds w i) (phase_unindexed w.layout phase (counted (w.seat i).post) (w.seat i).post (finds w i) (λ base. find_stores w.layout.config base q) s.phase f) in
        unindexed_each i (told_in w i) (record_of h) n (events_same (λ j. reserves_of i j (tells_of (record_of h) i (told_in w i))) (λ j. reserves_of i j (record_of h)) (told_in w i) (λ j. sym (told_reserves i j (told_in w i) (record_of h) n)) r) g

kept : (layout : Layout) → is_he layout.config.scheme ≡ true → Kept (Entries layout)
kept layout e = let c = counts.kept layout e in record {
  begins = λ made h i call a b f m g. record { tries = c.begins made h i call a b f m g.tries; law = (refl, g.law) };
  steps = λ made h i a b y g. let t : Tries layout (done made (Steps i)) (schedule.History.Turns h i (told_in made.world i)) = c.steps made h i a b y g.tries in record { tries = t; law = step_entries layout made h i e a g.tries.keeps.table t.law.0 g.law };
}

pub entries_tried : (layout : Layout) (items : List Item) → is_valid layout ≡ true → is_he layout.config.scheme ≡ true → EachEntry tried_ok (histories.record_of layout items)
entries_tried layout items d e =
    let g = history_keeps layout (Entries layout) (kept layout e) d items (record { tries = counts.first_tries layout e; law = tt }) in
    let c : IsCounted layout items = histories_count layout items d in
    entries_of_each tried_ok (histories.record_of layout items) (subst (λ (p : Past). Each tried_ok p) c.tells g.law)
