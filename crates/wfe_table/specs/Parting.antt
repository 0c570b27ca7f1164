-- A seat that leaves, as far as it has come, and what its call comes to.
use Rattle.std.specs.Prelude.{Bool, List, length, ℕ, ◌++◌, ◌≡◌}
use Rattle.wfe_core.specs.defs.declared.call.Answer.TheVariants as answers
use Rattle.wfe_core.specs.defs.declared.call.Call.TheVariants as names
use Rattle.wfe_core.specs.declared.op.Op.{Op}
use Rattle.wfe_core.specs.declared.post.Post.{Post}
use Rattle.wfe_core.specs.words.declared.layout.Layout.{Layout}
use Rattle.wfe_core.specs.Calls.{Phase}
use Rattle.wfe_core.specs.Frames.{SamePlace}
use Rattle.wfe_drive_rule.specs.history.History.{Item}
use Rattle.wfe_drive_call.specs.drive_words.Called.{Ends}
use Rattle.wfe_drive_call.specs.drive_words.Ran.{Ran}
use Rattle.wfe_drive_rule.specs.Handles.{IsSeated}
use Rattle.wfe_drive_rule.specs.Views.{Handle, Track, call_in, leave_if, own, standing}

-- it is at this phase; `post` is its post as the call began, and `first` says whether it has made no step
pub record Parted (layout : Layout) (slot : ℕ) (post : Post) (old : Handle) (phase : Phase) (first : Bool) (now : Handle) : Type 0 where
  pub seated : IsSeated layout slot now
  pub ops : List (Op × ℕ)
  pub ran : Ran (standing old) ops (standing now)
  pub at : (standing now).phase ≡ phase
  pub place : SamePlace post (standing now).post
  pub tags : (standing now).post.tags ≡ post.tags
  pub list : (standing now).desk.list ≡ (standing old).desk.list
  pub call : (standing now).call ≡ names.Leave
  pub begun_is : call_in now.1 ≡ leave_if first
  pub more : List Item
  pub grows : (own now.0).past ≡ (own old.0).past ++ more

-- the seat has left, with its list
pub record Departed (old : Track) (new : Handle) : Type 0 where
  pub ops : List (Op × ℕ)
  pub ends : Ends names.Leave (answers.Left (length old.local.desk.list)) ops old.local (own new.0).local
  pub more : List Item
  pub grows : (own new.0).past ≡ old.past ++ more
