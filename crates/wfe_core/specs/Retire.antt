-- Retire a row that was cut: its retire era is a clock value loaded after the cut.
use Rattle.std.specs.Prelude.{ℕ, [], ◌∷◌, Option, Some, None}
use Rattle.wfe_words.specs.Packed.{read_life}
use Rattle.wfe_words.specs.declared.packed.Life.{Life}
use Rattle.wfe_defs.specs.declared.event.Event.TheVariants as events
use Rattle.wfe_core.specs.declared.post.Post.{Post}
use Rattle.wfe_core.specs.Memory.{bump}
use Rattle.wfe_core.specs.Phases.{Turn, goes, ends}
use Rattle.wfe_core.specs.Phases.RetireAt.{LoadRetire, StoreRetired}
use Rattle.wfe_core.specs.Phases.Base.{Retire}
use Rattle.wfe_core.specs.Phases.Ending.{Retired}

-- the birth era in a lifetime word
abbrev pub birth_in : Option Life → ℕ
birth_in None = 0
birth_in (Some life) = life.birth

-- 1. Load the slot's lifetime word: the birth era.
abbrev pub after_load_life : ℕ → Post → ℕ → Turn
after_load_life slot post found = goes post [] (Retire (LoadRetire slot (birth_in (read_life found))))

-- 2. Load the clock: the retire era.
abbrev pub after_load_retire : ℕ → ℕ → Post → ℕ → Turn
after_load_retire slot birth post found = goes post [] (Retire (StoreRetired slot birth found))

-- 3. Store both eras into the lifetime word. The seat has retired one row more.
abbrev pub after_store_retired : ℕ → ℕ → ℕ → Post → Turn
after_store_retired slot birth retire post =
    ends
    (record post { retired = bump post.retired })
    (events.Retire slot birth retire ∷ [])
    (Retired (record { slot = slot; birth = birth; retire = retire }))
