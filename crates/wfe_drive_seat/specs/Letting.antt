-- What a seat that leaves is to let go next.
use Rattle.std.specs.Prelude.{Bool, None, Option, Some, ℕ, ◌<◌}
use Rattle.wfe_core.specs.Calls.{HideSpan, Keeping, Phase, Works}
use Rattle.wfe_core.specs.Keep.{parting_index}
use Rattle.wfe_core.specs.declared.post.Post.{Post}
use Rattle.wfe_drive_seat.specs.declared.letting.Letting.{Letting}
use Rattle.wfe_drive_seat.specs.declared.letting.Letting.TheVariants as lettings

-- the phase in which it lets go of that, where index words publish rows, and where they do not
abbrev pub letting_phase : (rows : Bool) → Letting → Phase
letting_phase rows lettings.Nothing = parting_index rows None
letting_phase rows (lettings.At index) = parting_index rows (Some index)
letting_phase rows lettings.Span = Works (Keeping HideSpan)

-- the index is one of the table's
abbrev pub LettingFits : Letting → Post → Type 0
LettingFits lettings.Nothing post = Unit {0}
LettingFits (lettings.At index) post = index < post.layout.config.indexes
LettingFits lettings.Span post = Unit {0}
