-- What a machine told is noted as it ends, and a round ends after it.
use Rattle.std.proofs.Common.{List, ap, sym, ◌∙◌, ◌≡◌}
use Rattle.wfe_core.specs.defs.declared.event.Event.{Event}
use Rattle.wfe_core.specs.defs.declared.lifetime.Lifetime.{Lifetime}
use Rattle.wfe_core.specs.Calls.{Next, Task}
use Rattle.wfe_core.specs.DeskHeld.{desk_of}
use Rattle.wfe_core.specs.Desks.{Desk, noting}
use Rattle.wfe_core.specs.Rounds.{clearing, clearing_next}
use Rattle.wfe_core.specs.declared.desk.Desk.{Desk as HeldDesk}
use Rattle.wfe_core.specs.declared.post.Post.{Post}
use Rattle.wfe_drive_words.specs.drive_cells.Unit.{kept_desk, seat_after}
use Rattle.wfe_drive_runs.specs.Pieces.{clearing_at, clearing_next_at}
use Rattle.wfe_drive_runs.proofs.Closing.{clearing_next_noted, clearing_noted}

-- no list is offered to a desk that code has
pub own_desk : (held : HeldDesk) (before : Desk) (told : List Event) → desk_of held ≡ noting before told → before ≡ kept_desk before
own_desk held before told e = ap (λ (list : List Lifetime). let desk : Desk = record before { gift = list } in desk) (sym (ap (λ (desk : Desk). desk.gift) e))

pub ends_noted : (task : Task) (next : Next) (post : Post) (held : HeldDesk) (before : Desk) (told : List Event) → desk_of held ≡ noting before told → seat_after (clearing task next post before told) ≡ clearing_at task next post (desk_of held)
ends_noted task next post held before told e =
    ap (λ (desk : Desk). seat_after (clearing task next post desk told)) (own_desk held before told e)
    ∙ clearing_noted task next post before told
    ∙ ap (clearing_at task next post) (sym e)

pub next_noted : (next : Next) (post : Post) (held : HeldDesk) (before : Desk) (told : List Event) → desk_of held ≡ noting before told → seat_after (clearing_next next post before told) ≡ clearing_next_at next post (desk_of held)
next_noted next post held before told e =
    ap (λ (desk : Desk). seat_after (clearing_next next post desk told)) (own_desk held before told e)
    ∙ clearing_next_noted next post before told
    ∙ ap (clearing_next_at next post) (sym e)
