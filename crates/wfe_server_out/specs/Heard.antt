-- What the watchers of a list have heard.
use denote.RawPtr.{Ptr}
use Rattle.std.specs.Prelude.{◌≡◌, ℕ, List, ◌++◌, ◌+◌, if◌then◌else◌, length, map, nat_lt, take, slice_get, Some}
use Rattle.std.specs.declared.dyn_box.DynBox.{DynBox}
use Rattle.wfe_outside.specs.defs.Entry.{Entry}

-- what is seen of a watcher in a list: for which lists of entries it stands, and where its box lies
pub record Seen (W : Type 0) : Type 1 where
  pub stands : W → List Entry → Type 0
  pub place : W → Ptr

-- watchers in boxes, by what each stands for
abbrev pub boxed : {X Z : Type 0} {F : X → Type 0} → (DynBox X Z F → List Entry → Type 0) → Seen (DynBox X Z F)
boxed stands = record { stands = stands; place = λ b. b.ptr }

-- the new watcher stands for each list for which the old one stood, with these entries at its end
abbrev pub Gains : {W : Type 0} → (W → List Entry → Type 0) → W → W → List Entry → Type 0
Gains stands old new heard = (told : List Entry) → stands old told → stands new (told ++ heard)

-- each watcher has heard the entries, in order, and its box is the one that was at its place
pub record Hears {W : Type 0} (seen : Seen W) (old new : List W) (heard : List Entry) : Type 0 where
  pub count : length new ≡ length old
  pub boxes : map seen.place new ≡ map seen.place old
  pub each : (k : ℕ) (v w : W) → slice_get old k ≡ Some v → slice_get new k ≡ Some w → Gains seen.stands v w heard

-- how many entries the k-th watcher has heard, where all have heard so many, and so many watchers are ahead: these have heard one more
abbrev pub turns_heard : (all ahead k : ℕ) → ℕ
turns_heard all ahead k = if nat_lt k ahead then all + 1 else all

-- The watchers have heard the first of the entries, and each watcher's box is the one that was at its place. They hear an entry one after
-- another, and the next one after that; so it is the same entries that all have heard, and the first watchers may have heard one more.
pub record HearsSome {W : Type 0} (seen : Seen W) (old new : List W) (heard : List Entry) : Type 0 where
  pub count : length new ≡ length old
  pub boxes : map seen.place new ≡ map seen.place old
  pub all : ℕ
  pub ahead : ℕ
  pub each : (k : ℕ) (v w : W) → slice_get old k ≡ Some v → slice_get new k ≡ Some w → Gains seen.stands v w (take (turns_heard all ahead k) heard)
