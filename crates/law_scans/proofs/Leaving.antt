-- What a seat that leaves goes on with, and one that takes a list over.
use Rattle.std.proofs.Common.{ℕ, Bool, true, false, length, Option, Some, None}
use Rattle.std.specs.Prelude.{◌==◌, drop, if◌then◌else◌}
use Rattle.law_reuse.specs.laws.defs.declared.call.Answer.TheVariants as answers
use Rattle.law_reuse.specs.laws.defs.declared.lifetime.Interval.{Interval}
use Rattle.law_reuse.specs.inv.model.declared.post.Post.{Post}
use Rattle.law_reuse.specs.inv.model.Calls.{Phase, Runs, Works, Keeping, HideSpan, MarkLeft, MarkTaken, Releases, Parting, CallOutcome, GoesOn, Answers}
use Rattle.law_reuse.specs.inv.model.Desks.{Desk}
use Rattle.law_reuse.specs.inv.model.Keep as keeps
use Rattle.law_reuse.specs.inv.model.Phases.Base.{Clear}
use Rattle.law_reuse.specs.inv.model.Posts.{standing_from}
use Rattle.law_reuse.specs.inv.model.Rounds.{scheme_of}
use Rattle.law_reuse.specs.laws.words.Schemes.{has_one_interval, publishes_rows}

-- a seat that leaves lets go of what stands, by one index after the other or with its interval, and then marks its place
pub record Parts (P : Phase → Type 0) : Type 0 where
  pub clears : (rows : Bool) (index : ℕ) → P (Runs (Releases (Parting index)) (Clear rows index))
  pub hides : P (Works (Keeping HideSpan))
  pub marks : P (Works (Keeping MarkLeft))

by_index : (P : Phase → Type 0) → Parts P → (rows : Bool) (x : Option ℕ) → P (keeps.parting_index rows x)
by_index P c rows None = c.marks
by_index P c rows (Some index) = c.clears rows index

by_span : (P : Phase → Type 0) → Parts P → (x : Option Interval) → P (keeps.parting_span x)
by_span P c None = c.marks
by_span P c (Some span) = c.hides

-- from an index on
pub parts_on : (P : Phase → Type 0) → Parts P → (index : ℕ) (post : Post) → P (keeps.parting_from index post)
parts_on P c index post = by_index P c (publishes_rows (scheme_of post)) (standing_from index (drop index post.standing))

-- where the call begins
pub parts_all : (P : Phase → Type 0) → Parts P → (post : Post) → P (keeps.parting post)
parts_all P c post = by (has_one_interval (scheme_of post))
  where
    by : (one : Bool) → P (if one then keeps.parting_span post.span else keeps.parting_from 2 post)
    by true = by_span P c post.span
    by false = parts_on P c 2 post

-- a seat that takes a list over marks it so, or answers that it could not
pub record Takes (P : CallOutcome → Type 0) (place : ℕ) : Type 0 where
  pub marks : (count : ℕ) → P (GoesOn (Works (Keeping (MarkTaken place count))))
  pub none : P (Answers answers.NotLeft)
  pub late : P (Answers answers.AdoptedBefore)

pub takes_on : (P : CallOutcome → Type 0) (place : ℕ) → Takes P place → (post : Post) (desk : Desk) (left : Bool) (found : ℕ) → P (keeps.taking place post desk left found).outcome
takes_on P place c post desk true found = c.marks (length desk.gift)
takes_on P place c post desk false found = by (found == 0)
  where
    by : (none : Bool) → P (Answers (if none then answers.NotLeft else answers.AdoptedBefore))
    by true = c.none
    by false = c.late
