-- The record of scans after what a step tells that is of no scan; and the desk and the phase after such a step.
use Rattle.std.proofs.Common.{ℕ, ◌≡◌, Bool, true, false, List, [], ◌∷◌, length, refl, ap, ◌∙◌}
use Rattle.std.specs.Prelude.{◌==◌, ◌||◌, not}
use Rattle.laws.specs.defs.Shown.{Seen}
use Rattle.laws.specs.words.declared.config.Config.{Config}
use Rattle.laws.specs.defs.declared.event.Event.{Event}
use Rattle.laws.specs.defs.declared.event.Event.TheVariants as events
use Rattle.laws.specs.defs.declared.lifetime.Lifetime.{Lifetime}
use Rattle.inv_all.specs.model.declared.post.Post.{Post}
use Rattle.inv_all.specs.model.Calls.{Why, Work, Runs, Works, Retires, KeepAt, TakeList, Keeping}
use Rattle.inv_all.specs.model.Desks.{Desk}
use Rattle.inv_all.specs.model.Guards.{guards}
use Rattle.inv_all.specs.model.Machine.{after}
use Rattle.inv_all.specs.model.Phases.{Base, Ending, Outcome, Goes, Ends}
use Rattle.inv_all.specs.model.Phases.Ending.{Done, Protected, Followed, Allocated, Retired, Clocked}
use Rattle.inv_all.specs.model.Steps.{phase_turn}
use Rattle.inv_all.proofs.model.Facts.{same_number, first_of, rest_of}
use Rattle.inv_all.specs.shapes.Frame.{phase_left}
use Rattle.inv_all.specs.covers.Covers.{is_fresh}
use Rattle.inv_all.proofs.covers.Fresh.{works_fresh as fresh_work}
use Rattle.laws.specs.records.Record.{Past, Each, tells_of}
use Rattle.laws.specs.records.Record.Past.{Then}
use Rattle.laws.specs.Lists.{list_of}
use Rattle.laws.specs.StateAt.{read_by, read_of, is_scan, scans_of}
use Rattle.law_reuse.proofs.Once.Calm.{is_unread}
use Rattle.law_reuse.proofs.Once.Desks.{left_desk, left_at, resumed_desk, work_desk, takes_list}
use Rattle.laws.specs.ScanLaw.{is_over, scan_by, scan_ok}
use Rattle.law_reuse.proofs.Blocks.Placed.{Rests}
use Rattle.inv_all.proofs.history.AllOf.{all_of}
use Rattle.inv_all.proofs.covers.Kept.{resumed_fresh}
use Rattle.inv_all.specs.model.Keep.{taking}

pub read_own : (all i : ℕ) (event : Event) (p : Past) → read_of all i (Then p i event) ≡ read_by all event (read_of all i p)
read_own all i event p = rw (same_number i) refl

pub scans_own : (i : ℕ) (event : Event) (p : Past) → scans_of i (Then p i event) ≡ is_scan event
scans_own i event p = rw (same_number i) refl

pub read_other : (all k i : ℕ) (told : List Event) (p : Past) → (k == i) ≡ false → read_of all k (tells_of p i told) ≡ read_of all k p
read_other all k i [] p h = refl
read_other all k i (event ∷ told) p h = read_other all k i told (Then p i event) h ∙ rw h refl

pub scans_other : (k i : ℕ) (told : List Event) (p : Past) → (k == i) ≡ false → scans_of k (tells_of p i told) ≡ scans_of k p
scans_other k i [] p h = refl
scans_other k i (event ∷ told) p h = scans_other k i told (Then p i event) h ∙ rw h refl

-- an event of no scan
unread_keeps : (all : ℕ) (event : Event) (read : List Seen) → is_unread event ≡ true → read_by all event read ≡ read
unread_keeps all (events.Read guard span) read h = absurd (cc)
unread_keeps all (events.Saw guard slot) read h = absurd (cc)
unread_keeps all event read h = refl

unread_scans : (event : Event) → is_unread event ≡ true → is_scan event ≡ false
unread_scans (events.Read guard span) h = absurd (cc)
unread_scans (events.Saw guard slot) h = absurd (cc)
unread_scans (events.Back slot) h = absurd (cc)
unread_scans event h = refl

unread_by : (config : Config) (read : List Seen) (list : List Lifetime) (scans : Bool) (event : Event) → is_unread event ≡ true → (not scans || is_over (guards config) read list) ≡ true → scan_by config read list scans event ≡ true
unread_by config read list scans (events.Read guard span) u h = absurd (cc)
unread_by config read list scans (events.Saw guard slot) u h = absurd (cc)
unread_by config read list scans (events.Back slot) u h = absurd (cc)
unread_by config read list scans event u h = h

-- by the record no scan of the seat is left undone
abbrev pub RestsAt : ℕ → ℕ → Past → Type 0
RestsAt all i p = Rests all (read_of all i p) (list_of i p) (scans_of i p)

pub unread_same : (all i : ℕ) (event : Event) (p : Past) → is_unread event ≡ true → read_of all i (Then p i event) ≡ read_of all i p
unread_same all i event p u = read_own all i event p ∙ unread_keeps all event (read_of all i p) u

no_scan : (all : ℕ) (read : List Seen) (list : List Lifetime) (scans : Bool) → scans ≡ false → (not scans || is_over all read list) ≡ true
no_scan all read list true h = absurd (cc)
no_scan all read list false h = refl

pub unread_rests : (all i : ℕ) (event : Event) (p : Past) → is_unread event ≡ true → RestsAt all i p → RestsAt all i (Then p i event)
unread_rests all i event p u h = record {
  whole = ap (λ (read : List Seen). length read == 0 || length read == all) (unread_same all i event p u) ∙ h.whole;
  over = no_scan all (read_of all i (Then p i event)) (list_of i (Then p i event)) (scans_of i (Then p i event)) (scans_own i event p ∙ unread_scans event u);
}

pub told_same : (all i : ℕ) (told : List Event) (p : Past) → all_of is_unread told ≡ true → read_of all i (tells_of p i told) ≡ read_of all i p
told_same all i [] p u = refl
told_same all i (event ∷ told) p u = told_same all i told (Then p i event) (rest_of (is_unread event) (all_of is_unread told) u) ∙ unread_same all i event p (first_of (is_unread event) (all_of is_unread told) u)

pub told_rests : (all i : ℕ) (told : List Event) (p : Past) → all_of is_unread told ≡ true → RestsAt all i p → RestsAt all i (tells_of p i told)
told_rests all i [] p u h = h
told_rests all i (event ∷ told) p u h = told_rests all i told (Then p i event) (rest_of (is_unread event) (all_of is_unread told) u) (unread_rests all i event p (first_of (is_unread event) (all_of is_unread told) u) h)

pub one_allowed : (config : Config) (i : ℕ) (event : Event) (p : Past) → is_unread event ≡ true → RestsAt (guards config) i p → scan_ok config p i event ≡ true
one_allowed config i event p u h = unread_by config (read_of (guards config) i p) (list_of i p) (scans_of i p) event u h.over

pub told_each : (config : Config) (i : ℕ) (told : List Event) (p : Past) → all_of is_unread told ≡ true → RestsAt (guards config) i p → Each (scan_ok config) p → Each (scan_ok config) (tells_of p i told)
told_each config i [] p u h t = t
told_each config i (event ∷ told) p u h t =
    let f = first_of (is_unread event) (all_of is_unread told) u in
    let r = rest_of (is_unread event) (all_of is_unread told) u in
    told_each config i told (Then p i event) r (unread_rests (guards config) i event p f h) (one_allowed config i event p f h, t)

-- the report after a step of no scan, and the phase
ending_report : (why : Why) (ending : Ending) (desk : Desk) → (left_desk why ending desk).report ≡ desk.report
ending_report (Retires answer) (Retired life) desk = refl
ending_report (Retires answer) Done desk = refl
ending_report (Retires answer) (Protected end) desk = refl
ending_report (Retires answer) (Followed end) desk = refl
ending_report (Retires answer) (Allocated end) desk = refl
ending_report (Retires answer) (Clocked clock) desk = refl
ending_report why ending desk = refl

left_report : (why : Why) (outcome : Outcome) (desk : Desk) → (left_at why outcome desk).report ≡ desk.report
left_report why (Goes base) desk = refl
left_report why (Ends ending) desk = ending_report why ending desk

pub run_report : (why : Why) (base : Base) (post : Post) (desk : Desk) (found : ℕ) → (phase_turn (Runs why base) post desk found).desk.report ≡ desk.report
run_report why base post desk found =
    ap (λ (d : Desk). d.report) (resumed_desk why desk (after base post found).post (after base post found).told (after base post found).outcome) ∙ left_report why (after base post found).outcome desk

taking_report : (place : ℕ) (post : Post) (desk : Desk) (left : Bool) (found : ℕ) → (taking place post desk left found).desk.report ≡ desk.report
taking_report place post desk true found = refl
taking_report place post desk false found = refl

plain_report : (work : Work) (post : Post) (desk : Desk) (found : ℕ) → takes_list (Works work) found ≡ false → (phase_turn (Works work) post desk found).desk.report ≡ desk.report
plain_report work post desk found n = ap (λ (d : Desk). d.report) (work_desk work post desk found n)

keep_report : (at : KeepAt) (post : Post) (desk : Desk) (found : ℕ) → (phase_turn (Works (Keeping at)) post desk found).desk.report ≡ desk.report
keep_report (TakeList place) post desk found = taking_report place post desk (found == 1) found
keep_report at post desk found = plain_report (Keeping at) post desk found refl

pub work_report : (work : Work) (post : Post) (desk : Desk) (found : ℕ) → (phase_turn (Works work) post desk found).desk.report ≡ desk.report
work_report (Keeping at) post desk found = keep_report at post desk found
work_report work post desk found = plain_report work post desk found refl

pub run_fresh : (why : Why) (base : Base) (post : Post) (desk : Desk) (found : ℕ) → is_fresh (phase_left (phase_turn (Runs why base) post desk found).outcome) ≡ true
run_fresh why base post desk found = resumed_fresh why desk (after base post found).post (after base post found).told (after base post found).outcome

pub works_fresh : (work : Work) (post : Post) (desk : Desk) (found : ℕ) → is_fresh (phase_left (phase_turn (Works work) post desk found).outcome) ≡ true
works_fresh work post desk found = fresh_work work post desk found
