-- What each step tells: of rows that are given or free again just those that its move of rows claims or frees.
use Rattle.std.proofs.Common.{ℕ, ◌≡◌, ◌||◌, Bool, true, false, List, [], ◌∷◌, refl}
use Rattle.std.specs.Prelude.{◌==◌, if◌then◌else◌, not, ◌&&◌}
use Rattle.laws.specs.defs.declared.event.Event.{Event}
use Rattle.laws.specs.defs.declared.event.Event.TheVariants as events
use Rattle.inv_all.specs.model.declared.post.Post.{Post}
use Rattle.inv_all.specs.model.Desks.{Desk}
use Rattle.inv_all.specs.model.Guards.{guard_at}
use Rattle.inv_all.specs.model.Locals.{told_by}
use Rattle.laws.specs.words.Schemes.{publishes_rows}
use Rattle.law_reuse.proofs.ReadGuards.{reads_are}
use Rattle.inv_all.specs.model.Steps as steps
use Rattle.inv_all.specs.model.Phases.{Base}
use Rattle.inv_all.specs.model.Phases.AllocateAt.{ClaimSlot}
use Rattle.inv_all.specs.model.Phases.Base.{Allocate, GiveUp}
use Rattle.inv_all.specs.model.Calls.{ReadGuard, GiveBack, Phase, Idle, Runs, Scans, Works}
use Rattle.inv_all.proofs.model.Facts.{first_of, rest_of, number_is, false_of_not, not_of_false, and_true}
use Rattle.inv_all.specs.rows.Hands.{base_row, row_move}
use Rattle.inv_all.specs.covers.Covers.{takes_or_frees}
use Rattle.inv_all.proofs.history.Passes.{is_quiet, First}
use Rattle.laws.specs.NoReuse.{is_reuse}
use Rattle.law_reuse.specs.Reuse.{reuses}
use Rattle.inv_all.proofs.history.MayTell.{Tells, base_all, step_all, work_all}
use Rattle.inv_all.proofs.history.AllOf.{all_of}
use Rattle.inv_all.specs.model.Allocate.{is_claimed}
use Rattle.inv_all.specs.rows.Rows.RowMove.{Stays, Claims}

-- these events neither give nor free the row
abbrev Free : ℕ → List Event → Type 0
Free s told = reuses s told ≡ false

neither : (a b : Bool) → a ≡ false → b ≡ false → (a || b) ≡ false
neither false b h k = k
neither true b h k = h

free_all : (s : ℕ) (told : List Event) → all_of (λ event. not (is_reuse s event)) told ≡ true → Free s told
free_all s [] h = refl
free_all s (event ∷ told) h =
    neither (is_reuse s event) (reuses s told) (false_of_not (is_reuse s event) (first_of (not (is_reuse s event)) (all_of (λ other. not (is_reuse s other)) told) h)) (free_all s told (rest_of (not (is_reuse s event)) (all_of (λ other. not (is_reuse s other)) told) h))

other_slot : (s slot own : ℕ) → (slot == own) ≡ true → (s == own) ≡ false → not (s == slot) ≡ true
other_slot s slot own e h = let same : slot ≡ own = number_is slot own e in rw (same, h) refl

-- what a machine tells: a row is given where its claim bit was not set
claim_kept : (s slot own : ℕ) (rest claimed : Bool) → takes_or_frees (if claimed then Stays else Claims own) s ≡ false → (not claimed && (slot == own && rest)) ≡ true → not (s == slot) ≡ true
claim_kept s slot own rest true h e = absurd (cc)
claim_kept s slot own rest false h e = other_slot s slot own (first_of (slot == own) rest e) h

one_kept : (s : ℕ) (base : Base) (post : Post) (found : ℕ) (event : Event) → takes_or_frees (base_row base found) s ≡ false → Tells base post found event → not (is_reuse s event) ≡ true
one_kept s (Allocate (ClaimSlot clock walk)) post found (events.Give slot birth) h e = claim_kept s slot walk.slot (birth == clock) (is_claimed found walk.slot) h e
one_kept s (GiveUp own) post found (events.Unused slot) h e = other_slot s slot own e h
one_kept s (Allocate at) post found (events.Give slot birth) h e = absurd (cc)
one_kept s base post found (events.Give slot birth) h e = absurd (cc)
one_kept s base post found (events.Unused slot) h e = absurd (cc)
one_kept s base post found (events.Back slot) h e = absurd (cc)
one_kept s base post found event h e = refl

-- what comes after a machine tells no more of such rows
quiet_one : (s : ℕ) (event : Event) → is_quiet event ≡ true → not (is_reuse s event) ≡ true
quiet_one s (events.Give slot birth) h = absurd (cc)
quiet_one s (events.Unused slot) h = absurd (cc)
quiet_one s (events.Back slot) h = absurd (cc)
quiet_one s event h = refl

-- and a scan
first_kept : (s : ℕ) (phase : Phase) (last post : Post) (found : ℕ) → takes_or_frees (row_move phase last found) s ≡ false → First (λ next told. all_of (λ event. not (is_reuse s event)) told ≡ true) phase post found
first_kept s Idle last post found h = refl
first_kept s (Runs why base) last post found h = base_all (λ event. not (is_reuse s event)) base post found (λ event. one_kept s base post found event h)
first_kept s (Scans later (ReadGuard number)) last post found h = reads_are (λ (event : Event). all_of (λ other. not (is_reuse s other)) (event ∷ []) ≡ true) (publishes_rows post.layout.config.scheme) (guard_at post.layout.config number) found (λ span. refl) (λ slot. refl)
first_kept s (Scans later (GiveBack place slot)) last post found h = and_true (not (s == slot)) (not_of_false (s == slot) h)
first_kept s (Works work) last post found h = work_all (λ event. not (is_reuse s event)) (λ index slot. refl) (λ from index slot. refl) (λ seat index era. refl) (λ seat. refl) (λ seat index link. refl) work post

pub told_free : (s : ℕ) (phase : Phase) (last post : Post) (desk : Desk) (found : ℕ) → takes_or_frees (row_move phase last found) s ≡ false → Free s (told_by (steps.phase_turn phase post desk found))
told_free s phase last post desk found h =
    free_all s (told_by (steps.phase_turn phase post desk found)) (step_all (λ event. not (is_reuse s event)) (record { quiet = quiet_one s; clears = λ index slot. refl }) phase post desk found (first_kept s phase last post found h))
