-- When no order of a record's calls serves, or a call tells what it was not made for: then it is not linearizable.
use Rattle.std.specs.Prelude.{Bool, List, [], map, not, true, ◌&&◌, ◌≡◌, ◌∷◌}
use Rattle.model_history.specs.Record.Past.{Start}
use Rattle.model_history.specs.Record.{Past, tells}
use Rattle.law_all.specs.linear.LinearLaw.{LinearLaw, tells_ok}
use Rattle.law_all.specs.linear.Order.{first_state}
use Rattle.law_all.specs.linear.Search.{are_begun, ended_in, may_serve}
use Rattle.law_worked.specs.Changed.{reads}
use Rattle.law_worked.specs.Edited.{Wrong, edited, named_by, refused_by}

abbrev pub record_of : Wrong → Past
record_of it = tells Start (edited it.edits it.lines)

-- each call has ended, and either no order of them serves, or a call tells what it was not made for
abbrev pub is_unordered : Wrong → Bool
is_unordered it =
    are_begun (ended_in (record_of it) (record_of it)) (record_of it)
    && not (may_serve it.config (record_of it) 9 first_state (ended_in (record_of it) (record_of it)) && reads (tells_ok it.config.buckets) (edited it.edits it.lines))

abbrev pub AllRefused : List Wrong → Type 0
AllRefused [] = Unit {0}
AllRefused (it ∷ others) = (LinearLaw it.config (record_of it) → ⊥) × AllRefused others

-- none of these records is linearizable; of the other laws those that are named refuse each
pub record OrdersRefused (all : List Wrong) : Type 0 where
  pub linear : AllRefused all
  pub others : map refused_by all ≡ map named_by all
