-- A round begins: the root is protected, and its row is read or there is none.
use Rattle.std.proofs.Common.{List, None, Option, Some, [], ap, subst, sym, ℕ, ◌+◌, ◌∙◌, ◌≡◌}
use Rattle.wfe_core.specs.defs.declared.call.Answer.{Answer}
use Rattle.wfe_core.specs.defs.declared.event.Event.{Event}
use Rattle.wfe_core.specs.defs.declared.event.Root.{Root}
use Rattle.wfe_core.specs.Calls.{Answering, ChangeKept, Changes, Changing, Fills, LoadVersion, Opens, Runs, Works}
use Rattle.wfe_core.specs.Change.{at_link, deciding_by, filling, refused, with_change}
use Rattle.wfe_core.specs.DeskHeld.{desk_of}
use Rattle.wfe_core.specs.Desks.{Desk, noting}
use Rattle.wfe_core.specs.Phases.Ending.{Protected}
use Rattle.wfe_core.specs.Rounds.{root_of}
use Rattle.wfe_core.specs.Steps.{resume}
use Rattle.wfe_core.specs.declared.desk.Desk.{Desk as HeldDesk}
use Rattle.wfe_core.specs.declared.post.Post.{Post}
use Rattle.wfe_drive_runs.specs.drive_words.drive_cells.Unit.{seat_after}
use Rattle.wfe_drive_runs.specs.Pieces.{Outer, end_of}
use Rattle.wfe_drive_runs.proofs.Turning.{went_on}
use Rattle.wfe_drive_call.specs.Changing.{read_at, works_at}
use Rattle.wfe_drive_call.proofs.RowFilling.{clears_noted}

-- no row's next link
pub root_outer : (kept : ChangeKept) (post : Post) (root : Root) → root ≡ root_of (Changes kept) post → Outer root
root_outer kept post root r = subst Outer (sym r) tt

-- which leads to a row
pub leads_to_row : (kept : ChangeKept) (slot era : ℕ) (post : Post) (before : Desk) (told : List Event) (held : HeldDesk) → desk_of held ≡ noting before told
    → seat_after (resume (Opens (Changes kept)) (Protected (end_of (Some slot) era)) post before told) ≡ works_at (at_link kept (slot + 1)) (LoadVersion slot) post (desk_of held)
leads_to_row kept slot era post before told held d = went_on (Works (Changing (at_link kept (slot + 1)) (LoadVersion slot))) post before told held d

-- or to none
pub leads_to_none : (kept as_kept : ChangeKept) (era : ℕ) (post : Post) (before : Desk) (told : List Event) (held : HeldDesk) → desk_of held ≡ noting before told → as_kept ≡ at_link kept 0
    → seat_after (resume (Opens (Changes kept)) (Protected (end_of None era)) post before told) ≡ read_at as_kept post (desk_of held)
leads_to_none kept as_kept era post before told held d k = either (refused post.layout.config (at_link kept 0)) ∙ ap (λ (other : ChangeKept). read_at other post (desk_of held)) (sym k)
  where
    either : (why : Option Answer) → seat_after (deciding_by (at_link kept 0) post before told why) ≡ seat_after (deciding_by (at_link kept 0) post (desk_of held) [] why)
    either None = went_on (Runs (Fills (Changes (with_change (at_link kept 0)))) (filling (with_change (at_link kept 0)))) post before told held d
    either (Some answer) = clears_noted (at_link kept 0) (Answering answer) post before told held d
