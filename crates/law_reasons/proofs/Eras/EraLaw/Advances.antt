-- Where retirements do not move the clock, only an Advance moves it, once: there no retirement and no scan runs a mover.
use Rattle.std.proofs.Common.{ℕ, ◌≡◌, ◌<◌, ◌+◌, Bool, true, false, List, [], ◌∷◌, ◌++◌, Some, refl, sym, ap, ◌∙◌, subst}
use Rattle.std.specs.Prelude.{◌==◌, ◌&&◌, ◌%◌, if◌then◌else◌, nat_lt, not}
use Rattle.law_scans.specs.laws.words.Schemes.{moves as moves_clock}
use Rattle.law_scans.specs.laws.words.declared.config.SchemeKind.{SchemeKind}
use Rattle.law_scans.specs.laws.words.declared.layout.Layout.{Layout}
use Rattle.law_scans.specs.laws.defs.declared.call.Call.{Call}
use Rattle.law_scans.specs.laws.defs.declared.call.Call.TheVariants as names
use Rattle.law_scans.specs.laws.defs.declared.event.Event.{Event}
use Rattle.law_scans.specs.laws.defs.declared.event.Event.TheVariants as events
use Rattle.law_scans.specs.inv.model.declared.post.Post.{Post}
use Rattle.law_scans.specs.inv.model.Allocate.{is_claimed}
use Rattle.law_scans.specs.inv.model.Calls.{ReadGuard, GiveBack, Why, Opens, FollowsHead, Fills, ClearsNext, Clears, Finishes, GivesUp, Retires, Tidies, Advances, Releases, Phase, Idle, Runs, Scans, Works}
use Rattle.law_scans.specs.inv.model.Guards.{guard_at, guards}
use Rattle.law_scans.specs.inv.model.Memory.{bump}
use Rattle.law_scans.specs.inv.model.Phases.{MoveAt, Base}
use Rattle.law_scans.specs.inv.model.Phases.AllocateAt.{LoadBirth, ClaimSlot, StoreLife}
use Rattle.law_scans.specs.inv.model.Phases.RetireAt.{LoadLife, LoadRetire, StoreRetired}
use Rattle.law_scans.specs.inv.model.Phases.MoveAt.{ExchangeClock}
use Rattle.law_scans.specs.inv.model.Phases.Base.{Allocate, Retire, Move}
use Rattle.law_scans.specs.inv.model.Posts.{counted}
use Rattle.law_scans.specs.inv.model.World.{World, finds, told_in}
use Rattle.law_scans.proofs.laws.records.defs.Facts.{both, first_of, rest_of}
use Rattle.law_scans.specs.inv.shapes.Seats.{Parted, Run, PhaseFits as Shapes, kind_of, suits}
use Rattle.law_scans.specs.inv.history.History.{Made, first_made, record_of}
use Rattle.law_scans.specs.laws.records.Record.{Past, Each, begins, own, tells_of, told_since}
use Rattle.law_scans.specs.laws.records.Record.Past.{Start, Then}
use Rattle.law_scans.proofs.laws.records.Entries.{entries_of_each}
use Rattle.law_scans.proofs.laws.Tells.{tells_both}
use Rattle.law_scans.proofs.reuse.ReadGuards.{reads_are}
use Rattle.law_scans.proofs.reuse.history.AllOf.{all_of}
use Rattle.law_scans.proofs.reuse.history.Along.{Steady, items_keep}
use Rattle.law_scans.proofs.DueScans.Courses.{PhaseFits}
use Rattle.law_scans.proofs.DueScans.Keeps.{Keeps, begin_keeps, step_keeps, first_keeps, told_starts}
use Rattle.law_scans.proofs.DueScans.Still.{is_still, claim_front, tick_front, base_front, front}
use Rattle.law_scans.specs.Scans.{tally_by, tally_of}
use Rattle.law_scans.specs.laws.EraLaw.{advances_ok, is_era, is_of_advance}
use Rattle.law_scans.specs.laws.HistoryScans.{Course, Plain, Advancing, MayScan, MustScan, Reading, Tally, first_course, moved_course, read_course, retired_course}
use Rattle.law_scans.specs.laws.StateAt.{began_of, has_told}
use Rattle.law_reasons.specs.Eras.Records.{RecordsAdvance}

-- as long as a tally says that the clock may be moved by an Advance, the call is one, and has not moved it
record Advancings (i : ℕ) (p : Past) : Type 0 where
  began : is_of_advance (began_of i p) ≡ true
  none : told_since (begins i) (own i is_era) p ≡ 0

first_advance : (call : Call) → first_course call ≡ Advancing → is_of_advance (Some call) ≡ true
first_advance names.Advance h = refl
first_advance call h = absurd (cc)

never_moved : (c : Course) → moved_course c ≡ Advancing → ⊥
never_moved Plain h = cc
never_moved Advancing h = cc
never_moved MayScan h = cc
never_moved (MustScan moves) h = cc
never_moved (Reading reads) h = cc

never_read : (c : Course) → read_course c ≡ Advancing → ⊥
never_read Plain h = cc
never_read Advancing h = cc
never_read MayScan h = cc
never_read (MustScan moves) h = cc
never_read (Reading reads) h = cc

never_retired : (due : Bool) → retired_course due ≡ Advancing → ⊥
never_retired true h = cc
never_retired false h = cc

own_advancing : (every i k : ℕ) (p : Past) (event : Event) (x : Tally) → (i == k) ≡ true → (x.course ≡ Advancing → Advancings i p) → (tally_by every event x).course ≡ Advancing → Advancings i (Then p k event)
own_advancing every i k p (events.Begin call) x e h c = record { began = rw e (first_advance call c); none = rw e refl }
own_advancing every i k p (events.Era era) x e h c = absurd (never_moved x.course c)
own_advancing every i k p (events.Read guard span) x e h c = absurd (never_read x.course c)
own_advancing every i k p (events.Saw guard slot) x e h c = absurd (never_read x.course c)
own_advancing every i k p (events.Give slot birth) x e h c = absurd (cc)
own_advancing every i k p (events.Retire slot birth retire) x e h c = absurd (never_retired (bump x.retired % every == 0) c)
own_advancing every i k p event x e h c = record { began = rw e ((h c).began); none = (h c).none }

no_own : (event : Event) (a b : ℕ) → (if is_era event && false then a else b) ≡ b
no_own (events.Era era) a b = refl
no_own event a b = refl

other_begins : (i k : ℕ) (p : Past) (event : Event) → (i == k) ≡ false → begins i p k event ≡ false
other_begins i k p (events.Begin call) e = e
other_begins i k p event e = refl

other_advancing : (i k : ℕ) (p : Past) (event : Event) → (i == k) ≡ false → Advancings i p → Advancings i (Then p k event)
other_advancing i k p event e h =
    let b : begins i p k event ≡ false = other_begins i k p event e in
    record { began = rw e h.began; none = rw (b, e) (no_own event (told_since (begins i) (own i is_era) p + 1) (told_since (begins i) (own i is_era) p) ∙ h.none) }

next_advancing : (every i k : ℕ) (p : Past) (event : Event) (same : Bool) → (i == k) ≡ same → ((tally_of every i p).course ≡ Advancing → Advancings i p) → (if same then tally_by every event (tally_of every i p) else tally_of every i p).course ≡ Advancing → Advancings i (Then p k event)
next_advancing every i k p event true e h c = own_advancing every i k p event (tally_of every i p) e h c
next_advancing every i k p event false e h c = other_advancing i k p event e (h c)

advancing : (every i : ℕ) (p : Past) → (tally_of every i p).course ≡ Advancing → Advancings i p
advancing every i Start h = absurd (cc)
advancing every i (Then p k event) h = next_advancing every i k p event (i == k) refl (advancing every i p) h

-- the law is one on such events alone
quiet_ok : (p : Past) (i : ℕ) (event : Event) → is_era event ≡ false → advances_ok p i event ≡ true
quiet_ok p i (events.Era era) h = absurd (cc)
quiet_ok p i event h = refl

still_quiet : (event : Event) → is_still event ≡ true → is_era event ≡ false
still_quiet (events.Era era) h = absurd (cc)
still_quiet event h = refl

still_each : (i : ℕ) (told : List Event) (p : Past) → all_of is_still told ≡ true → Each advances_ok p → Each advances_ok (tells_of p i told)
still_each i [] p h g = g
still_each i (event ∷ told) p h g =
    still_each i told (Then p i event) (rest_of (is_still event) (all_of is_still told) h) (quiet_ok p i event (still_quiet event (first_of (is_still event) (all_of is_still told) h)), g)

-- what a step tells first
abbrev Led : Past → ℕ → List Event → Type 0
Led p i told = Each advances_ok p → Each advances_ok (tells_of p i told)

claim_led : (p : Past) (i birth slot : ℕ) (claimed : Bool) → Led p i (claim_front birth slot claimed)
claim_led p i birth slot true g = g
claim_led p i birth slot false g = (refl, g)

tick_led : (p : Past) (i era : ℕ) (same : Bool) → Advancings i p → Led p i (tick_front era same)
tick_led p i era true a g = (both (is_of_advance (began_of i p)) (not (has_told i is_era p)) a.began (ap (λ (n : ℕ). not (nat_lt 0 n)) a.none), g)
tick_led p i era false a g = g

base_led : (p : Past) (i : ℕ) (base : Base) (found : ℕ) → ((at : MoveAt) → base ≡ Move at → Advancings i p) → Led p i (base_front base found)
base_led p i (Allocate (ClaimSlot birth walk)) found a g = claim_led p i birth walk.slot (is_claimed found walk.slot) g
base_led p i (Allocate LoadBirth) found a g = g
base_led p i (Allocate (StoreLife birth slot)) found a g = g
base_led p i (Retire (StoreRetired slot birth retire)) found a g = (refl, g)
base_led p i (Retire (LoadLife slot)) found a g = g
base_led p i (Retire (LoadRetire slot birth)) found a g = g
base_led p i (Move (ExchangeClock era)) found a g = tick_led p i era (found == era) (a (ExchangeClock era) refl) g
base_led p i (Move at) found a g = g
base_led p i base found a g = g

front_led : (p : Past) (i : ℕ) (phase : Phase) (post : Post) (found : ℕ) → ((why : Why) (at : MoveAt) → phase ≡ Runs why (Move at) → Advancings i p) → Led p i (front phase post found)
front_led p i Idle post found a g = g
front_led p i (Runs why base) post found a g = base_led p i base found (λ at e. a why at (ap (λ (b : Base). Runs why b) e)) g
front_led p i (Scans later (ReadGuard number)) post found a g =
    reads_are (λ (event : Event). Each advances_ok (tells_of p i (event ∷ []))) _ (guard_at post.layout.config number) found (λ span. (refl, g)) (λ slot. (refl, g))
front_led p i (Scans later (GiveBack place slot)) post found a g = (refl, g)
front_led p i (Works work) post found a g = g

-- a mover runs for an Advance
for_advance : (scheme : SchemeKind) (why : Why) (at : MoveAt) → moves_clock scheme ≡ false → suits (Move at) (kind_of why) ≡ true → Parted scheme (Move at) why → why ≡ Advances
for_advance scheme (Tidies later) at n s p = absurd (cc)
for_advance scheme Advances at n s p = refl
for_advance scheme (Opens task) at n s p = absurd (cc)
for_advance scheme (FollowsHead head tail) at n s p = absurd (cc)
for_advance scheme (Fills task) at n s p = absurd (cc)
for_advance scheme (ClearsNext next) at n s p = absurd (cc)
for_advance scheme (Clears task next) at n s p = absurd (cc)
for_advance scheme (Finishes task next) at n s p = absurd (cc)
for_advance scheme (GivesUp answer) at n s p = absurd (cc)
for_advance scheme (Retires answer) at n s p = absurd (cc)
for_advance scheme (Releases let_go) at n s p = absurd (cc)

-- along a history
record Advanced (layout : Layout) (made : Made) : Type 0 where
  base : Keeps layout made
  law : Each advances_ok made.past

moved_by : (layout : Layout) (made : Made) (i : ℕ) (why : Why) (at : MoveAt) → moves_clock layout.config.scheme ≡ false → Keeps layout made → (made.world.seat i).phase ≡ Runs why (Move at) → Advancings i made.past
moved_by layout made i why at n k e =
    let w : World = made.world in
    let r : Run w.layout why (Move at) (w.seat i).post = subst (Shapes w.layout (w.seat i).post) e (k.known.seats.fits i).phase in
    let m : moves_clock w.layout.config.scheme ≡ false = ap (λ (table : Layout). moves_clock table.config.scheme) k.table ∙ n in
    let a : why ≡ Advances = for_advance w.layout.config.scheme why at m r.suited r.parted in
    let s = k.seats i in
    advancing layout.config.every i made.past (subst (λ (phase : Phase). PhaseFits (guards layout.config) phase (tally_of layout.config.every i made.past).course) (e ∙ ap (λ (x : Why). Runs x (Move at)) a) s.fits)

step_led : (layout : Layout) (made : Made) (i : ℕ) → moves_clock layout.config.scheme ≡ false → Keeps layout made → Led made.past i (told_in made.world i)
step_led layout made i n k g =
    let w : World = made.world in
    let s = told_starts w i in
    let first : List Event = front (w.seat i).phase (counted (w.seat i).post) (finds w i) in
    subst (λ (told : List Event). Each advances_ok (tells_of made.past i told)) (sym s.is)
    (subst (λ (q : Past). Each advances_ok q) (sym (tells_both i first s.rest made.past))
    (still_each i s.rest (tells_of made.past i first) s.still (front_led made.past i (w.seat i).phase (counted (w.seat i).post) (finds w i) (λ why at e. moved_by layout made i why at n k e) g)))

steady : (layout : Layout) → moves_clock layout.config.scheme ≡ false → Steady (Advanced layout)
steady layout n = record {
  begins = λ made i call b y m g. record { base = begin_keeps layout made i call y m g.base; law = (refl, g.law) };
  steps = λ made i b y g. record { base = step_keeps layout made i b y g.base; law = step_led layout made i n g.base g.law };
}

pub records_advance : RecordsAdvance
records_advance layout items d n =
    let g = items_keep (Advanced layout) (steady layout n) items (first_made layout) (record { base = first_keeps layout d; law = tt }) in
    entries_of_each advances_ok (record_of layout items) g.law
