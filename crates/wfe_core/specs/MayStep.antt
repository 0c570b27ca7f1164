-- What a World gives the code of a seat's next step.
use Rattle.std.specs.Prelude.{ℕ, ◌≡◌, true}
use Rattle.wfe_words.specs.Place.{has}
use Rattle.wfe_core.specs.CallReady.{IsCallReady, IsCallPlausible, NotesFit}
use Rattle.wfe_core.specs.Locals.{move}
use Rattle.wfe_core.specs.Memory.{place_in}
use Rattle.wfe_core.specs.Valid.{IsValid}
use Rattle.wfe_core.specs.World.{World, finds}

-- seat i may make its step: its word is in the table, its numbers are in range, and so is what it finds
pub record MayStep (w : World) (i : ℕ) : Type 0 where
  pub there : has w.layout (place_in (move (w.seat i))) ≡ true
  pub valid : IsValid (w.seat i).post
  pub ready : IsCallReady (w.seat i).phase (w.seat i).post (w.seat i).desk
  pub noted : NotesFit (w.seat i).post (w.seat i).desk
  pub plausible : IsCallPlausible (w.seat i).phase (w.seat i).post (finds w i)
