-- What a turn leaves of a seat's post and of its role.
use Rattle.std.specs.Prelude.{ℕ, ◌≡◌, ◌<◌, true, List}
use Rattle.inv_rows.specs.words.Place.{Place}
use Rattle.inv_rows.specs.words.declared.layout.Layout.{Layout}
use Rattle.inv_rows.specs.model.declared.post.Post.{Post}
use Rattle.inv_rows.specs.model.Guards.{guards}
use Rattle.inv_rows.specs.model.Calls.{Phase, CallTurn}
use Rattle.inv_rows.specs.model.Locals.{Local, settled}
use Rattle.inv_rows.specs.model.Memory.{Move, written, upd}
use Rattle.inv_rows.specs.model.World.{World}
use Rattle.inv_rows.specs.Covering.Requests.Views.{View, Deal, Role}
use Rattle.inv_rows.specs.Covering.Requests.Standing.{role_of, is_there, Facts}

-- a post of this table with these tags
pub record PostOf (layout : Layout) (tags : List ℕ) (post : Post) : Type 0 where
  pub table : post.layout ≡ layout
  pub guarded : 0 < guards layout.config
  pub kept : post.tags ≡ tags

-- a phase that is this role
pub record RoleOf (layout : Layout) (role : Role) (post : Post) (phase : Phase) : Type 0 where
  pub is : role_of layout phase ≡ role
  pub there : is_there layout phase ≡ true

-- words and seats are those of the view, and these are its deals
pub record Dealt (layout : Layout) (mem : Place → ℕ) (seat : ℕ → Local) (deals : ℕ → Deal) (v : View) : Type 0 where
  pub facts : Facts layout mem seat v
  pub deal : v.deal ≡ deals

-- a view of what a seat's turn leaves, with these deals
abbrev pub Made : (Place → ℕ) → (ℕ → Local) → ℕ → Move → CallTurn → (ℕ → Deal) → Type 0
Made mem seat i m t deals = (v : View) × Dealt (seat i).post.layout (written mem m) (upd seat i (settled (seat i) t)) deals v

-- a view of a World with these deals
abbrev pub StandsAfter : World → (ℕ → Deal) → Type 0
StandsAfter w deals = (v : View) × Dealt w.layout w.mem w.seat deals v
