-- The steps at the queue's front, as their turns in the model.
use Rattle.std.proofs.Common.{Bool, ap, ℕ, ◌+◌, ◌==◌, ◌∙◌, ◌∷◌, ◌≡◌, []}
use Rattle.std.proofs.lemmas.Bool.{eq-eqb, ne_eqb}
use Rattle.wfe_core.specs.defs.declared.call.Answer.TheVariants as answers
use Rattle.wfe_core.specs.defs.declared.call.ClockMove.TheVariants as moves
use Rattle.wfe_core.specs.defs.declared.event.Event.TheVariants as events
use Rattle.wfe_core.specs.defs.declared.event.Root.TheVariants as roots
use Rattle.wfe_core.specs.Calls.{Again, Retiring}
use Rattle.wfe_core.specs.Dequeue.{taken}
use Rattle.wfe_core.specs.Desks.{Desk}
use Rattle.wfe_core.specs.Enqueue.{told_link}
use Rattle.wfe_core.specs.Rounds.{clearing_next}
use Rattle.wfe_core.specs.declared.post.Post.{Post}
use Rattle.wfe_drive_words.specs.drive_cells.Unit.{kept_desk, seat_after}
use Rattle.wfe_drive_runs.specs.Pieces.{clearing_next_at}
use Rattle.wfe_drive_runs.proofs.Appending.{link_quiet}
use Rattle.wfe_drive_runs.proofs.Closing.{clearing_next_noted}

-- the tail was moved on
pub swung : (next : ℕ) (same : Bool) (post : Post) (desk : Desk) → seat_after (clearing_next Again post (kept_desk desk) (told_link roots.Tail next same)) ≡ clearing_next_at Again post desk
swung next same post desk = clearing_next_noted Again post desk (told_link roots.Tail next same) ∙ ap (clearing_next_at Again post) (link_quiet desk roots.Tail next same)

-- the head was moved, or another dequeue was before
pub is_taken : (head next number value found : ℕ) (post : Post) (desk : Desk) → found ≡ head + 1
    → seat_after (taken head next number value post (kept_desk desk) (found == head + 1)) ≡ clearing_next_at (Retiring head (answers.Taken number value moves.Still)) post desk
is_taken head next number value found post desk h =
    ap (λ (same : Bool). seat_after (taken head next number value post (kept_desk desk) same)) (eq-eqb found (head + 1) h)
    ∙ clearing_next_noted (Retiring head (answers.Taken number value moves.Still)) post desk (events.Link roots.Head next ∷ events.Cut head ∷ events.Taken number value ∷ [])

pub is_lost : (head next number value found : ℕ) (post : Post) (desk : Desk) → (found ≡ head + 1 → ⊥) → seat_after (taken head next number value post (kept_desk desk) (found == head + 1)) ≡ clearing_next_at Again post desk
is_lost head next number value found post desk h = ap (λ (same : Bool). seat_after (taken head next number value post (kept_desk desk) same)) (ne_eqb found (head + 1) h)
