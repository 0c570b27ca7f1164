-- A row is taken.
use Rattle.std.proofs.Common.{List, None, Option, Some, [], ap, sym, ℕ, ◌∙◌, ◌≡◌}
use Rattle.wfe_core.specs.defs.declared.call.Answer.{Answer}
use Rattle.wfe_core.specs.defs.declared.event.Event.{Event}
use Rattle.wfe_core.specs.Calls.{Answering, ChangeKept, Changes, Next}
use Rattle.wfe_core.specs.Change.{deciding_by, filling, filling_by, refused, with_change}
use Rattle.wfe_core.specs.DeskHeld.{desk_of}
use Rattle.wfe_core.specs.Desks.{Desk, noting}
use Rattle.wfe_core.specs.Phases.AllocateAt.{LoadBirth}
use Rattle.wfe_core.specs.Phases.Base.{Allocate}
use Rattle.wfe_core.specs.Rounds.{clearing}
use Rattle.wfe_core.specs.declared.desk.Desk.{Desk as HeldDesk}
use Rattle.wfe_core.specs.declared.post.Post.{Post}
use Rattle.wfe_drive_runs.specs.drive_words.drive_cells.Unit.{kept_desk, seat_after}
use Rattle.wfe_drive_runs.proofs.Noted.{ends_noted}
use Rattle.wfe_drive_call.specs.Changing.{clears_at, fills_at, read_at, writes_at}

-- the change is refused, or a row is filled
pub refuses : (kept : ChangeKept) (post : Post) (desk : Desk) (answer : Answer) → Some answer ≡ refused post.layout.config kept → read_at kept post desk ≡ clears_at kept (Answering answer) post desk
refuses kept post desk answer r = ap (λ (why : Option Answer). seat_after (deciding_by kept post (kept_desk desk) [] why)) (sym r)

pub decided : (kept as_kept : ChangeKept) (post : Post) (desk : Desk) → None ≡ refused post.layout.config kept → as_kept ≡ with_change kept → read_at kept post desk ≡ fills_at as_kept (filling as_kept) post desk
decided kept as_kept post desk r k =
    ap (λ (why : Option Answer). seat_after (deciding_by kept post (kept_desk desk) [] why)) (sym r) ∙ ap (λ (other : ChangeKept). fills_at other (filling other) post desk) (sym k)

-- one is taken already
pub fills_taken : (kept : ChangeKept) (slot : ℕ) (post : Post) (desk : Desk) → kept.taken ≡ Some slot → fills_at kept (filling kept) post desk ≡ writes_at kept slot 1 post desk
fills_taken kept slot post desk taken = ap (λ (held : Option ℕ). fills_at kept (filling_by kept held) post desk) taken

-- none was free
pub clears_noted : (kept : ChangeKept) (next : Next) (post : Post) (before : Desk) (told : List Event) (held : HeldDesk) → desk_of held ≡ noting before told
    → seat_after (clearing (Changes kept) next post before told) ≡ clears_at kept next post (desk_of held)
clears_noted kept next post before told held d = ends_noted (Changes kept) next post held before told d

-- none is taken yet
pub fills_walk : (kept : ChangeKept) (post : Post) (desk : Desk) → kept.taken ≡ None → fills_at kept (filling kept) post desk ≡ fills_at kept (Allocate LoadBirth) post desk
fills_walk kept post desk taken = ap (λ (held : Option ℕ). fills_at kept (filling_by kept held) post desk) taken
