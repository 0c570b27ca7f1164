-- A turn that ends a protection tells of no index word: which turns do the one, and which the other.
use Rattle.std.proofs.Common.{ℕ, ◌≡◌, Bool, true, false, [], ◌∷◌, refl}
use Rattle.std.specs.Prelude.{not}
use Rattle.law_reuse.specs.laws.words.Schemes.{publishes_rows}
use Rattle.law_reuse.specs.laws.words.declared.layout.Layout.{Layout}
use Rattle.law_reuse.specs.laws.defs.declared.event.Event.{Event}
use Rattle.law_reuse.specs.laws.defs.declared.event.Event.TheVariants as events
use Rattle.law_reuse.specs.inv.model.Guards.{guard_at}
use Rattle.law_reuse.specs.inv.model.declared.post.Post.{Post}
use Rattle.law_reuse.specs.inv.model.Calls.{ReadGuard, GiveBack, Phase, Idle, Runs, Scans, Works}
use Rattle.law_reuse.specs.inv.model.Phases.{Base}
use Rattle.law_reuse.specs.inv.shapes.Seats.{PhaseFits, base_fits}
use Rattle.law_reuse.proofs.ReadGuards.{reads_are}
use Rattle.law_reuse.proofs.history.AllOf.{all_of}
use Rattle.law_reuse.proofs.history.MayTell as may
use Rattle.law_reuse.proofs.history.MayTell.{Passes, is_find, is_index, no_find, no_index, stores_index, work_all}
use Rattle.law_reuse.proofs.history.Passes.{First, is_quiet}

-- a turn that ends no protection
abbrev pub unfound : Event → Bool
unfound event = not (is_find event)

-- a turn that tells of no index word
abbrev pub unindexed : Event → Bool
unindexed event = not (is_index event)

-- a step that may end a protection
abbrev pub phase_finds : Phase → Bool
phase_finds (Runs why base) = may.finds base
phase_finds phase = false

pub unfound_passes : Passes unfound
unfound_passes = record { quiet = quiet_one; clears = λ index slot. refl }
  where
    quiet_one : (event : Event) → is_quiet event ≡ true → unfound event ≡ true
    quiet_one (events.Held index slot steps) q = absurd (cc)
    quiet_one (events.Null index steps) q = absurd (cc)
    quiet_one event q = refl

pub unindexed_passes : Passes unindexed
unindexed_passes = record { quiet = quiet_one; clears = λ index slot. refl }
  where
    quiet_one : (event : Event) → is_quiet event ≡ true → unindexed event ≡ true
    quiet_one (events.Reserve guard span) q = absurd (cc)
    quiet_one (events.Hazard guard slot) q = absurd (cc)
    quiet_one event q = refl

pub phase_unfound : (phase : Phase) (post : Post) (there : ℕ) → phase_finds phase ≡ false → First (λ p told. all_of unfound told ≡ true) phase post there
phase_unfound Idle post there h = refl
phase_unfound (Runs why base) post there h = no_find base post there h
phase_unfound (Scans later (ReadGuard number)) post there h = reads_are (λ event. all_of unfound (event ∷ []) ≡ true) (publishes_rows post.layout.config.scheme) (guard_at post.layout.config number) there (λ span. refl) (λ slot. refl)
phase_unfound (Scans later (GiveBack place slot)) post there h = refl
phase_unfound (Works work) post there h = work_all unfound (λ index slot. refl) (λ from index slot. refl) (λ seat index era. refl) (λ seat. refl) (λ seat index link. refl) work post

-- where no machine's step does both, no turn does
pub phase_unindexed : (layout : Layout) (phase : Phase) (post last : Post) (there : ℕ) → ((base : Base) → base_fits layout.config base ≡ true → may.finds base ≡ true → stores_index base ≡ false)
    → PhaseFits layout last phase → phase_finds phase ≡ true → First (λ p told. all_of unindexed told ≡ true) phase post there
phase_unindexed layout (Runs why base) post last there stores f h = no_index base post there (stores base f.fits h)
phase_unindexed layout Idle post last there stores f h = absurd (cc)
phase_unindexed layout (Scans later at) post last there stores f h = absurd (cc)
phase_unindexed layout (Works work) post last there stores f h = absurd (cc)
