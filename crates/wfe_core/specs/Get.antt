-- A get reads the version, the count, and the keys in order up to its own, and then that key's value.
use Rattle.std.specs.Prelude.{ℕ, ◌==◌, ◌+◌, ◌*◌, Bool, true, false, nat_lt, List, [], ◌∷◌, ◌++◌, Option, Some, None}
use Rattle.wfe_words.specs.Place.Place.{Row}
use Rattle.wfe_defs.specs.declared.call.Answer.TheVariants as answers
use Rattle.wfe_defs.specs.declared.event.Event.{Event}
use Rattle.wfe_defs.specs.declared.event.Event.TheVariants as events
use Rattle.wfe_core.specs.declared.post.Post.{Post}
use Rattle.wfe_core.specs.Desks.{Desk}
use Rattle.wfe_core.specs.Memory.{Move, Load}
use Rattle.wfe_core.specs.Calls.{Gets, Answering, GetAt, FindVersion, FindCount, FindKey, FindValue, Works, Getting, CallTurn, goes_on}
use Rattle.wfe_core.specs.Rounds.{bucket_of, clearing}

-- the places of a pair's key and value
abbrev pub key_place : ℕ → ℕ
key_place pair = 3 + 2 * pair

abbrev pub value_place : ℕ → ℕ
value_place pair = 4 + 2 * pair

abbrev pub get_move : GetAt → Move
get_move (FindVersion slot) = Load (Row slot 1)
get_move (FindCount slot version) = Load (Row slot 2)
get_move (FindKey slot version count pair) = Load (Row slot (key_place pair))
get_move (FindValue slot version pair) = Load (Row slot (value_place pair))

-- the value is known: it is told, and the round ends
abbrev pub got : ℕ → ℕ → Option ℕ → Post → Desk → List Event → CallTurn
got key version value post desk told =
    clearing (Gets key) (Answering (answers.Got version value)) post desk (told ++ events.Got (bucket_of post key) version key value ∷ [])

-- the pair of this number, if there is one
abbrev pub finding : ℕ → ℕ → ℕ → ℕ → Post → Desk → (more : Bool) → ℕ → CallTurn
finding key slot version count post desk true pair = goes_on post desk [] (Works (Getting key (FindKey slot version count pair)))
finding key slot version count post desk false pair = got key version None post desk []

-- a key was read: the own one, or another
abbrev pub found_key : ℕ → ℕ → ℕ → ℕ → ℕ → Post → Desk → (own : Bool) → CallTurn
found_key key slot version count pair post desk true = goes_on post desk [] (Works (Getting key (FindValue slot version pair)))
found_key key slot version count pair post desk false = finding key slot version count post desk (nat_lt (pair + 1) count) (pair + 1)

-- one step of a get's own
abbrev pub get_turn : ℕ → GetAt → Post → Desk → ℕ → CallTurn
get_turn key (FindVersion slot) post desk found = goes_on post desk [] (Works (Getting key (FindCount slot found)))
get_turn key (FindCount slot version) post desk found = finding key slot version found post desk (nat_lt 0 found) 0
get_turn key (FindKey slot version count pair) post desk found = found_key key slot version count pair post desk (found == key)
get_turn key (FindValue slot version pair) post desk found = got key version (Some found) post desk []
