-- The ways from a change of a bucket to the earlier ones of its key. Numbers of changes count from 1.
use Rattle.std.specs.Prelude.{◌≡◌, ℕ, ◌<◌, ◌≤◌, None, List, ◌∷◌, length, slice_index_or, nat_eq, suc}
use Rattle.std.specs.Option.{unwrap_or}
use Rattle.indexmap.specs.IndexMap.{IndexMap, get}
use Rattle.wfe_check_map.specs.declared.bucket.Mark.{Mark}
use Rattle.wfe_check_map.specs.declared.bucket.Step.{Step}

-- what stands for no change
abbrev pub no_step : Step
no_step = record { mark = record { key = 0; value = None; row = None; stamp = 0 }; before = 0; skip = 0; depth = 0 }

abbrev pub mark_in : Step → Mark
mark_in step = step.mark

-- the change of a number, and no change for 0
abbrev pub numbered : List Step → ℕ → Step
numbered steps number = slice_index_or (no_step ∷ steps) number no_step

abbrev pub key_at : List Step → ℕ → ℕ
key_at steps number = (numbered steps number).mark.key

-- the number of the key's last change, as it is kept, or 0
abbrev pub last_of : {S : Type 0} → IndexMap ℕ ℕ S → ℕ → ℕ
last_of lasts key = unwrap_or (get nat_eq lasts key) 0

-- 0, or the number of a change of the key, at most a bound
pub record SkipsTo (key number bound : ℕ) (steps : List Step) : Type 0 where
  pub within : number ≤ bound
  pub same : 0 < number → key_at steps number ≡ key

-- the number of the last change of the key up to a bound, or 0 where there is none
pub record IsLast (key number bound : ℕ) (steps : List Step) : Type 0 where
  pub here : SkipsTo key number bound steps
  pub none : (j : ℕ) → number < j → j ≤ bound → key_at steps j ≡ key → ⊥

-- of all changes
abbrev pub EndsAt : (key number : ℕ) → List Step → Type 0
EndsAt key number steps = IsLast key number (length steps) steps

-- both ways of the change after this many lead to changes of its key before it, and the first to the last of them
pub record LinksAt (steps : List Step) (earlier : ℕ) : Type 0 where
  pub before : IsLast (key_at steps (suc earlier)) (numbered steps (suc earlier)).before earlier steps
  pub skip : SkipsTo (key_at steps (suc earlier)) (numbered steps (suc earlier)).skip earlier steps

-- so do those of all changes
abbrev pub AreLinked : List Step → Type 0
AreLinked steps = (earlier : ℕ) → earlier < length steps → LinksAt steps earlier

-- 0, or the number of a change of the key, such that no change of the key comes after it up to a version
pub record Reaches (key number version : ℕ) (steps : List Step) : Type 0 where
  pub here : SkipsTo key number (length steps) steps
  pub none : (j : ℕ) → number < j → j ≤ version → j ≤ length steps → key_at steps j ≡ key → ⊥
