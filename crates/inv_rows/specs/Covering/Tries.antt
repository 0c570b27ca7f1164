-- What a protection has loaded and not yet concluded, and what stands where.
use Rattle.std.specs.Prelude.{ℕ, ◌≡◌, Bool, true, false, not, Some}
use Rattle.inv_rows.specs.model.declared.post.Post.{Post}
use Rattle.inv_rows.specs.model.Posts.{stands}
use Rattle.inv_rows.specs.model.Phases.{ProtectAt, MoveAt, Base}
use Rattle.inv_rows.specs.model.Phases.ProtectAt.{LoadClock, PublishEra, LoadLink, CheckClock, PublishRequest, LoadOwnClock, PublishHelper, LoadOwnLink, CheckOwnClock, AnswerOwn, LoadAnswer, TakeAnswer, WithdrawRequest, WithdrawHelper, LoadWithin, CheckUpper, RaiseUpper, ByHazard}
use Rattle.inv_rows.specs.model.Phases.HazardAt.{FirstLink, PublishLink, CheckLink}
use Rattle.inv_rows.specs.model.Phases.MoveAt.{LoadEra, LoadRequest, ShowEra, LoadAsked, CheckEra, AnswerAsked, LoadReserved, HandOver}
use Rattle.inv_rows.specs.model.Phases.Base.{Begin, Protect, Reload, Clear, Finish, Release, Allocate, Write, GiveUp, Retire, Move}
use Rattle.inv_rows.specs.model.Calls.{LoadHeld, StoreHeld, Work, Keeping, Phase, Idle, Runs, Scans, Works, CallTurn}
use Rattle.inv_rows.specs.Shapes.Frame.{phase_left, stores_held}
use Rattle.inv_rows.specs.Covering.Covers.{is_fresh}

-- no link is loaded yet, or none is kept any more
abbrev pub starts_protect : ProtectAt → Bool
starts_protect (LoadClock tries) = true
starts_protect (PublishEra era tries) = true
starts_protect (LoadLink era tries) = true
starts_protect (CheckClock era tries link) = false
starts_protect PublishRequest = true
starts_protect LoadOwnClock = true
starts_protect (PublishHelper first era last) = true
starts_protect (LoadOwnLink first era last) = true
starts_protect (CheckOwnClock first era last link) = false
starts_protect (AnswerOwn first era link) = false
starts_protect (LoadAnswer first) = true
starts_protect (TakeAnswer link era) = false
starts_protect (WithdrawRequest link era) = false
starts_protect (WithdrawHelper link era) = false
starts_protect LoadWithin = true
starts_protect (CheckUpper link) = false
starts_protect (RaiseUpper era) = true
starts_protect (ByHazard FirstLink) = true
starts_protect (ByHazard (PublishLink link)) = false
starts_protect (ByHazard (CheckLink link)) = false

abbrev pub starts_move : MoveAt → Bool
starts_move (LoadEra helps) = true
starts_move (LoadRequest era seat shows) = true
starts_move (ShowEra era seat tag index root) = true
starts_move (LoadAsked era seat tag index root) = true
starts_move (CheckEra era seat tag index root link) = false
starts_move (AnswerAsked era seat tag index root link) = false
starts_move (LoadReserved era seat tag index root link) = false
starts_move (HandOver era seat tag index root link old) = false
starts_move at = true

abbrev pub starts_base : Base → Bool
starts_base (Begin at) = true
starts_base (Protect aim index root steps at) = starts_protect at
starts_base (Reload parent index slot era steps) = false
starts_base (Clear rows index) = true
starts_base Finish = true
starts_base (Release index) = true
starts_base (Allocate at) = true
starts_base (Write slot row place) = true
starts_base (GiveUp slot) = true
starts_base (Retire at) = true
starts_base (Move at) = starts_move at

abbrev pub is_start : Phase → Bool
is_start Idle = true
is_start (Runs why base) = starts_base base
is_start (Scans later at) = true
is_start (Works work) = not (stores_held work)

-- the steps of a copy
abbrev pub is_copy : Work → Bool
is_copy (Keeping (LoadHeld from index)) = true
is_copy (Keeping (StoreHeld from index era)) = true
is_copy work = false

-- what stands in the new post stood before
abbrev pub Shrinks : Post → Post → Type 0
Shrinks post next = (j s : ℕ) → stands next j ≡ Some s → stands post j ≡ Some s

-- a phase that a call comes to by no step of a machine's own, and not by the first step of a copy
pub record Begins (phase : Phase) : Type 0 where
  pub fresh : is_fresh phase ≡ true
  pub starts : is_start phase ≡ true

-- what a turn leaves of the post where it comes to such a phase
pub record Leaves (post : Post) (t : CallTurn) : Type 0 where
  pub fresh : is_fresh (phase_left t.outcome) ≡ true
  pub starts : is_start (phase_left t.outcome) ≡ true
  pub shrinks : Shrinks post t.post
