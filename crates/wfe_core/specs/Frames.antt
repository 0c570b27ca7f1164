-- What no step changes.
use Rattle.std.specs.Prelude.{ℕ, ◌≡◌}
use Rattle.wfe_defs.specs.declared.call.Call.{Call}
use Rattle.wfe_core.specs.declared.post.Post.{Post}
use Rattle.wfe_core.specs.Locals.{Local, after, begun}

-- a post is of the same seat and table as another
pub record SamePlace (post later : Post) : Type 0 where
  pub layout : later.layout ≡ post.layout
  pub seat : later.seat ≡ post.seat

-- no step and no start of a call moves a seat to another number or table
pub record StaysInPlace : Type 0 where
  pub steps : (l : Local) (found : ℕ) → SamePlace l.post (after l found).post
  pub begins : (l : Local) (call : Call) → SamePlace l.post (begun l call).post
