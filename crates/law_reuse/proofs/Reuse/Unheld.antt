-- A step that gives or frees a row tells of no row that it is held or copied.
use Rattle.std.proofs.Common.{ℕ, ◌≡◌, Bool, true, false, List, [], ◌∷◌, refl}
use Rattle.laws.specs.defs.declared.event.Event.{Event}
use Rattle.laws.specs.defs.declared.event.Event.TheVariants as events
use Rattle.inv_all.specs.model.declared.post.Post.{Post}
use Rattle.inv_all.specs.model.Desks.{Desk}
use Rattle.inv_all.specs.model.Locals.{told_by}
use Rattle.inv_all.specs.model.Steps as steps
use Rattle.inv_all.specs.model.Phases.{Base}
use Rattle.inv_all.specs.model.Phases.Base.{Begin, Protect, Reload, Clear, Finish, Release, Allocate, Write, GiveUp, Retire, Move}
use Rattle.inv_all.specs.model.Calls.{ScanAt, ReadGuard, GiveBack, Phase, Idle, Runs, Scans, Works, Work, Getting, Changing, Enqueuing, Dequeuing, Keeping}
use Rattle.inv_all.proofs.history.Passes.{is_quiet, First, scan_told}
use Rattle.inv_all.proofs.history.MayTell.{Tells, base_all, step_all}
use Rattle.inv_all.proofs.history.AllOf.{all_of}
use Rattle.inv_all.specs.model.Guards.{guard_at}
use Rattle.laws.specs.words.Schemes.{publishes_rows}
use Rattle.law_reuse.proofs.ReadGuards.{reads_are}

abbrev pub is_unheld : Event → Bool
is_unheld (events.Held index slot steps) = false
is_unheld (events.Copied from index slot) = false
is_unheld event = true

-- none of these events says that a row is held or copied
abbrev pub unheld : List Event → Bool
unheld told = all_of is_unheld told

quiet_one : (event : Event) → is_quiet event ≡ true → is_unheld event ≡ true
quiet_one (events.Held index slot steps) h = absurd (cc)
quiet_one (events.Copied from index slot) h = absurd (cc)
quiet_one event h = refl

abbrev Unheld : Post → List Event → Type 0
Unheld post told = unheld told ≡ true

-- a machine that holds no row
abbrev pub holds_none : Base → Bool
holds_none (Begin at) = true
holds_none (Protect aim index root steps at) = false
holds_none (Reload parent index slot era steps) = false
holds_none (Clear rows index) = true
holds_none Finish = true
holds_none (Release index) = true
holds_none (Allocate at) = true
holds_none (Write slot row place) = true
holds_none (GiveUp slot) = true
holds_none (Retire at) = true
holds_none (Move at) = true

abbrev pub work_holds_none : Work → Bool
work_holds_none (Getting key at) = true
work_holds_none (Changing kept at) = true
work_holds_none (Enqueuing kept at) = true
work_holds_none (Dequeuing at) = true
work_holds_none (Keeping at) = false

abbrev pub phase_holds_none : Phase → Bool
phase_holds_none Idle = true
phase_holds_none (Runs why base) = holds_none base
phase_holds_none (Scans later at) = true
phase_holds_none (Works work) = work_holds_none work

one_unheld : (base : Base) (post : Post) (found : ℕ) (event : Event) → holds_none base ≡ true → Tells base post found event → is_unheld event ≡ true
one_unheld (Protect aim own root made at) post found (events.Held index slot steps) h t = absurd (cc)
one_unheld base post found (events.Held index slot steps) h t = absurd (cc)
one_unheld base post found (events.Copied from index slot) h t = absurd (cc)
one_unheld base post found event h t = refl

scan_unheld : (at : ScanAt) (post : Post) (found : ℕ) → unheld (scan_told at post found) ≡ true
scan_unheld (ReadGuard number) post found = reads_are (λ (event : Event). unheld (event ∷ []) ≡ true) (publishes_rows post.layout.config.scheme) (guard_at post.layout.config number) found (λ span. refl) (λ slot. refl)
scan_unheld (GiveBack place slot) post found = refl

first_unheld : (phase : Phase) (post : Post) (found : ℕ) → phase_holds_none phase ≡ true → First Unheld phase post found
first_unheld Idle post found h = refl
first_unheld (Runs why base) post found h = base_all is_unheld base post found (λ event. one_unheld base post found event h)
first_unheld (Scans later at) post found h = scan_unheld at post found
first_unheld (Works (Getting key at)) post found h = refl
first_unheld (Works (Changing kept at)) post found h = refl
first_unheld (Works (Enqueuing kept at)) post found h = refl
first_unheld (Works (Dequeuing at)) post found h = refl
first_unheld (Works (Keeping at)) post found h = absurd (cc)

pub told_unheld : (phase : Phase) (post : Post) (desk : Desk) (found : ℕ) → phase_holds_none phase ≡ true → unheld (told_by (steps.phase_turn phase post desk found)) ≡ true
told_unheld phase post desk found h = step_all is_unheld (record { quiet = quiet_one; clears = λ index slot. refl }) phase post desk found (first_unheld phase post found h)
