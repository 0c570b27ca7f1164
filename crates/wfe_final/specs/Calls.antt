-- Which deleters are called for which slots, as a record says: deleters of a store, of which one is attached to a slot that is
-- retired, and is called where the slot goes back.
use Rattle.std.specs.Prelude.{ℕ, ◌-◌, ◌+◌, ◌==◌, nat_lt, nat_le, Bool, false, not, ◌&&◌, if◌then◌else◌, List, [], ◌++◌, length, map, slice_index, Option, None, Some}
use Rattle.laws.specs.StateAt.{retired_at}
use Rattle.laws.specs.records.Record.{Past, Test}
use Rattle.laws.specs.records.Record.Past.{Start, Then}
use Rattle.wfe_final.specs.defs.declared.event.Event.{Event}
use Rattle.wfe_final.specs.defs.declared.event.Event.TheVariants as events
use Rattle.wfe_final.specs.Slots.{call_of}

-- A Retire is attaching where its slot is one of those up to `slots`, was not retired since it went back last, and where fewer
-- attaching ones stand before it than deleters were in the store.
abbrev pub attaches : (slots stored : ℕ) → Past → (attached : ℕ) → Event → Bool
attaches slots stored p attached (events.Retire slot birth retire) = nat_le slot slots && (not (retired_at slot p) && nat_lt attached stored)
attaches slots stored p attached event = false

-- how many attaching ones there are
abbrev pub attached : (slots stored : ℕ) → Past → ℕ
attached slots stored Start = 0
attached slots stored (Then p i event) = if attaches slots stored p (attached slots stored p) event then attached slots stored p + 1 else attached slots stored p

abbrev pub is_attaching : (slots stored : ℕ) → Test
is_attaching slots stored p i event = attaches slots stored p (attached slots stored p) event

-- The number of the attaching Retire of slot s since the slot went back last: 0 for the first of all that are attaching.
abbrev pub attached_by : (s : ℕ) → (attaching : Bool) → (number : ℕ) → Event → Option ℕ → Option ℕ
attached_by s attaching number (events.Retire slot birth retire) before = if attaching && s == slot then Some number else before
attached_by s attaching number (events.Back slot) before = if s == slot then None else before
attached_by s attaching number event before = before

abbrev pub attached_to : (slots stored s : ℕ) → Past → Option ℕ
attached_to slots stored s Start = None
attached_to slots stored s (Then p i event) = attached_by s (is_attaching slots stored p i event) (attached slots stored p) event (attached_to slots stored s p)

-- For each slot that goes back, and was retired with a deleter since it went back before: the number of that Retire, and the slot.
abbrev pub called : (slots stored : ℕ) → Past → List (ℕ × ℕ)
called slots stored Start = []
called slots stored (Then p i (events.Back slot)) = called slots stored p ++ call_of (attached_to slots stored slot p) slot
called slots stored (Then p i event) = called slots stored p

-- The deleters are taken from the store's end: the id of the one that a Retire of this number takes.
abbrev pub id_taken : (ids : List ℕ) → (number : ℕ) → ℕ
id_taken ids number = slice_index ids (length ids - (number + 1))

-- the deleters of a store with these ids that are called, each by its id, with their slots
abbrev pub calls_of : (slots : ℕ) → (ids : List ℕ) → Past → List (ℕ × ℕ)
calls_of slots ids p = map (λ call. (id_taken ids call.0, call.1)) (called slots (length ids) p)
