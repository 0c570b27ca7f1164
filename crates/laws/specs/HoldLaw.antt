-- What protections hold.
use Rattle.std.specs.Prelude.{Bool, ℕ, ◌&&◌, List, Some, true, ◌≡◌, Option, false, ◌%◌, None, ◌==◌, ◌||◌, not, if◌then◌else◌, is_none, [], ◌∷◌, nat_lt, suc, zero}
use Rattle.model_record.specs.Record.{Past, tells, begins, held_since, Test, EachEntry}
use Rattle.model_record.specs.defs.Entry.{Entry}
use Rattle.model_record.specs.defs.Events.{is_null}
use Rattle.model_record.specs.defs.declared.shown.Shown.{Shown}
use Rattle.model_record.specs.defs.declared.shown.Shown.TheVariants.{Eras, Nothing, Row}
use Rattle.model_record.specs.defs.Shown.{keeps, shown}
use Rattle.model_record.specs.defs.declared.call.Call.{Call}
use Rattle.model_record.specs.defs.declared.call.Call.TheVariants as calls
use Rattle.model_record.specs.defs.declared.event.Event.TheVariants as events
use Rattle.model_record.specs.defs.declared.event.Guard.{Guard}
use Rattle.model_record.specs.defs.declared.event.Guard.TheVariants.{Helper, Index, Whole}
use Rattle.model_record.specs.defs.declared.event.Root.TheVariants as roots
use Rattle.wfe_words.specs.Schemes.{has_one_interval}
use Rattle.wfe_words.specs.declared.config.Config.{Config}
use Rattle.wfe_words.specs.declared.config.SchemeKind.{SchemeKind}
use Rattle.laws.specs.Once.{is_slot}
use Rattle.laws.specs.StateAt.{taken_at, life_at, value_of, published_at, stands, standing_of, is_bare, bucket_at, head_at, tail_at, began_of, has_root, has_told, is_dequeue, rooted_of, next_at}
use Rattle.laws.specs.StructuresAt.{same_value, row_at}

-- the guard of a seat's index: its index word, or under 2GE the seat's interval word
abbrev pub own_guard : SchemeKind → (seat index : ℕ) → Guard
own_guard scheme seat index = if has_one_interval scheme then Whole seat else Index seat index

-- the row is taken, and what the guard of index j of seat k publishes keeps the row's life
abbrev pub is_held : Config → (k j s : ℕ) → Past → Bool
is_held config k j s p = taken_at config.slots s p && keeps (life_at s p) (published_at config.scheme (own_guard config.scheme k j) p)

-- wherever the record is cut, a row that stands at an index of a seat is taken, and what the guard of that index publishes keeps its life:
-- an interval that meets it, or the row itself
abbrev pub HeldThroughout : Config → Past → Type 0
HeldThroughout config r =
    (before : Past) (later : List Entry) (k j s : ℕ)
    → r ≡ tells before later
    → stands k j s before ≡ true
    → is_held config k j s before ≡ true

-- the row that a call found at its root, or that there is none, is what the root had at a position of the call
abbrev pub has_had : Config → ℕ → Past → Option Call → Option ℕ → Bool
has_had c i p (Some (calls.Get key)) found = held_since (begins i) (λ (q : Past). same_value found (bucket_at (key % c.buckets) q)) p
has_had c i p (Some (calls.Put key value)) found = held_since (begins i) (λ (q : Past). same_value found (bucket_at (key % c.buckets) q)) p
has_had c i p (Some (calls.Remove key)) found = held_since (begins i) (λ (q : Past). same_value found (bucket_at (key % c.buckets) q)) p
has_had c i p (Some (calls.PutIf key value version)) found = held_since (begins i) (λ (q : Past). same_value found (bucket_at (key % c.buckets) q)) p
has_had c i p (Some (calls.Hold key)) found = held_since (begins i) (λ (q : Past). same_value found (bucket_at (key % c.buckets) q)) p
has_had c i p (Some (calls.Enqueue value)) found = held_since (begins i) (λ (q : Past). same_value found (Some (tail_at c.slots q))) p
has_had c i p (Some calls.Dequeue) found = held_since (begins i) (λ (q : Past). same_value found (Some (head_at c.slots q))) p
has_had c i p call found = false

-- a call protects its root at this index
abbrev pub is_of_root : ℕ → Bool
is_of_root index = index == 0 || index == 2

-- so it is with each row that is told to stand at such an index, and where it is told that there is none
abbrev pub sources_ok : Config → Test
sources_ok c p i (events.Held index slot steps) = not (is_of_root index) || has_had c i p (began_of i p) (Some slot)
sources_ok c p i (events.Null index steps) = not (is_of_root index) || has_had c i p (began_of i p) None
sources_ok c p i event = true

-- where such a call ends, but for a hold, it has found its root at index 0
abbrev pub finds_ok : Test
finds_ok p i (events.End steps answer) = not (has_root (began_of i p)) || rooted_of i p
finds_ok p i event = true

-- the row stands at index j of the seat, if there is one
abbrev pub stands_as : (seat index : ℕ) → Past → (row : Option ℕ) → Bool
stands_as i j p None = false
stands_as i j p (Some slot) = stands i j slot p

-- a get that tells version 0 has told that there is none; where it tells a later version, the row of that version stands at index 0
abbrev pub got_right : (b version i : ℕ) → Past → Bool
got_right b version i p = if version == 0 then has_told i (is_null 0) p else stands_as i 0 p (row_at b version p)

abbrev pub gots_ok : Test
gots_ok p i (events.Got bucket version key value) = got_right bucket version i p
gots_ok p i event = true

-- the row that a root had, if it had one, stands at index 0 of the seat
abbrev pub stands_for : (seat : ℕ) → Past → (had : Option ℕ) → Bool
stands_for i p None = true
stands_for i p (Some slot) = stands i 0 slot p

-- Where a seat links a row at a bucket's root, at the head or at the tail, the row that the root had stands at its index 0, and
-- where it links one at a next link, the row whose link it is. What the head is linked to stands at its index 1, and so does what
-- a dequeue links the tail to.
abbrev pub links_ok : (slots : ℕ) → Test
links_ok slots p i (events.Link (roots.Bucket bucket) slot) = stands_for i p (bucket_at bucket p)
links_ok slots p i (events.Link (roots.Next parent) slot) = stands i 0 parent p
links_ok slots p i (events.Link roots.Head slot) = stands i 0 (head_at slots p) p && stands i 1 slot p
links_ok slots p i (events.Link roots.Tail slot) = stands i 0 (tail_at slots p) p && (not (is_dequeue (began_of i p)) || stands i 1 slot p)
links_ok slots p i event = true

-- the head has this row, and no row is next to it
abbrev pub is_last : (slots row : ℕ) → Past → Bool
is_last slots row p = (head_at slots p == row) && is_none (next_at row p)

-- so it was with one of these rows, at a position of the call of seat i
abbrev pub was_last : (slots i : ℕ) → Past → (rows : List ℕ) → Bool
was_last slots i p [] = false
was_last slots i p (row ∷ rows) = held_since (begins i) (is_last slots row) p || was_last slots i p rows

-- Where a seat tells at index 1 that a row stands, the head's row stands at its index 0, and the row is the next one of that. Where it
-- tells there that there is none, no row was next to one that stands at index 0 while the head had it, at a position of the call.
abbrev pub behind_ok : (slots : ℕ) → Test
behind_ok slots p i (events.Held index slot steps) = not (index == 1) || (stands i 0 (head_at slots p) p && is_slot slot (next_at (head_at slots p) p))
behind_ok slots p i (events.Null index steps) = not (index == 1) || was_last slots i p (standing_of i 0 p)
behind_ok slots p i event = true

-- where a call ends nothing stands at index 0 of its seat, and nothing at index 1
abbrev pub bare_ok : Test
bare_ok p i (events.End steps answer) = is_bare i 0 p && is_bare i 1 p
bare_ok p i event = true

-- nothing is published
abbrev pub is_blank : Shown → Bool
is_blank Nothing = true
is_blank (Eras span) = false
is_blank (Row slot) = false

-- something is published exactly where a row stands
abbrev pub is_alike : Shown → (bare : Bool) → Bool
is_alike Nothing bare = bare
is_alike (Eras span) bare = not bare
is_alike (Row slot) bare = not bare

-- of the seat's indexes below a number, 0 and 1 publish nothing, and each other where a row stands there
abbrev pub index_rests : SchemeKind → ℕ → Past → (index : ℕ) → Bool
index_rests scheme i p j =
    let value : Shown = published_at scheme (Index i j) p in
    if nat_lt j 2 then is_blank value else is_alike value (is_bare i j p)

abbrev pub indexes_rest : SchemeKind → ℕ → Past → (below : ℕ) → Bool
indexes_rest scheme i p zero = true
indexes_rest scheme i p (suc j) = index_rests scheme i p j && indexes_rest scheme i p j

-- the helper word of seat i publishes nothing, nor do its index words 0 and 1, and each other where a row stands there
abbrev pub words_rest : Config → ℕ → Past → Bool
words_rest config i p = is_none (value_of (Helper i) p) && indexes_rest config.scheme i p config.indexes

-- no row stands at an index of the seat from 2 up to below a number
abbrev pub keeps_none : ℕ → Past → (below : ℕ) → Bool
keeps_none i p zero = true
keeps_none i p (suc j) = (nat_lt j 2 || is_bare i j p) && keeps_none i p j

-- under 2GE the seat's interval word publishes where a row stands at an index from 2 on
abbrev pub guards_rest : Config → ℕ → Past → Bool
guards_rest config i p =
    if has_one_interval config.scheme then is_alike (shown (value_of (Whole i) p)) (keeps_none i p config.indexes) else words_rest config i p

-- so it is where a call of the seat ends
abbrev pub rests_ok : Config → Test
rests_ok config p i (events.End steps answer) = guards_rest config i p
rests_ok config p i event = true

-- What stands is covered, and was there to be found.
pub record HoldLaw (config : Config) (r : Past) : Type 0 where
  -- at each position what stands is taken, and what the guard of its index publishes keeps its life
  pub throughout : HeldThroughout config r
  -- what a call holds at its root, or that there is nothing, the root had at a position of the call
  pub sources : EachEntry (sources_ok config) r
  -- where a call ends it has held the row of its root, or told that there is none
  pub finds : EachEntry finds_ok r
  -- a get tells a version whose row stands, or that it has found none
  pub gots : EachEntry gots_ok r
  -- the row that a link replaces, or behind which it links, stands at index 0, and the head's next row at index 1
  pub links : EachEntry (links_ok config.slots) r
  -- what is held at index 1 is the next row of the head's row, which stands at index 0; where nothing is, the head's row had no next one
  -- at a position of the call
  pub behind : EachEntry (behind_ok config.slots) r
  -- where a call ends nothing stands at index 0 or 1 of its seat
  pub bare : EachEntry bare_ok r
  -- where a call ends its seat's guards publish nothing, but for what is held on
  pub rests : EachEntry (rests_ok config) r
