-- The places of a table: which there are, their word numbers, and the values with which they start.
use Rattle.std.specs.Prelude.{Bool, Err, None, Ok, Option, Result, Some, false, if◌then◌else◌, is_none, nat_lt, true, ℕ, ◌%◌, ◌&&◌, ◌*◌, ◌+◌, ◌-◌, ◌/◌, ◌==◌, ◌^◌}
use Rattle.wfe_words.specs.Config.{bad_field}
use Rattle.wfe_words.specs.Packed.{halves}
use Rattle.wfe_words.specs.declared.config.BadConfig.{BadConfig}
use Rattle.wfe_words.specs.declared.config.Config.{Config}
use Rattle.wfe_words.specs.declared.config.Field.{Field}
use Rattle.wfe_words.specs.declared.layout.Layout.{Layout}

-- a word of a table, named by what it holds
pub data Place : Type 0 where
  Clock : Place
  Helper : (seat : ℕ) → Place
  Index : (seat : ℕ) → (index : ℕ) → Place
  Interval : (seat : ℕ) → Place
  Request : (seat : ℕ) → Place
  Bucket : (bucket : ℕ) → Place
  Head : Place
  Tail : Place
  Claim : (word : ℕ) → Place
  Life : (slot : ℕ) → Place
  Row : (slot : ℕ) → (place : ℕ) → Place
  PlaceOf : (seat : ℕ) → Place

-- two places are one
abbrev pub same : Place → Place → Bool
same Clock Clock = true
same (Helper i) (Helper k) = i == k
same (Index i j) (Index k l) = i == k && j == l
same (Interval i) (Interval k) = i == k
same (Request i) (Request k) = i == k
same (Bucket b) (Bucket c) = b == c
same Head Head = true
same Tail Tail = true
same (Claim w) (Claim v) = w == v
same (Life s) (Life t) = s == t
same (Row s p) (Row t q) = s == t && p == q
same (PlaceOf i) (PlaceOf k) = i == k
same _ _ = false

-- each number of the setting lies in its range
unfoldable pub is_valid : Layout → Bool
is_valid layout = is_none (bad_field layout.config)

-- the setting of a layout
abbrev pub config_of : Layout → Config
config_of layout = layout.config

-- the layout of a setting, or the first number outside its range
abbrev pub layout_of : Config → Result Layout BadConfig
layout_of config = judged config (bad_field config)
  where
    judged : Config → Option Field → Result Layout BadConfig
    judged config None = Ok (record { config = config })
    judged config (Some field) = Err (record { field = field })

-- rows, the queue's first dummy among them
abbrev pub row_count : Layout → ℕ
row_count layout = layout.config.slots + 1

-- words of a row: a link, a version or number, a count or value, and the pairs
abbrev pub row_places : Layout → ℕ
row_places layout = 3 + 2 * layout.config.pairs

-- claim words, of one bit for each row
abbrev pub claim_words : Layout → ℕ
claim_words layout = (layout.config.slots + 64) / 64

-- the place is one of the table's
abbrev pub has : Layout → Place → Bool
has layout Clock = true
has layout (Helper seat) = nat_lt seat layout.config.seats
has layout (Index seat index) = nat_lt seat layout.config.seats && nat_lt index layout.config.indexes
has layout (Interval seat) = nat_lt seat layout.config.seats
has layout (Request seat) = nat_lt seat layout.config.seats
has layout (Bucket bucket) = nat_lt bucket layout.config.buckets
has layout Head = true
has layout Tail = true
has layout (Claim word) = nat_lt word (claim_words layout)
has layout (Life slot) = nat_lt slot (row_count layout)
has layout (Row slot place) = nat_lt slot (row_count layout) && nat_lt place (row_places layout)
has layout (PlaceOf seat) = nat_lt seat layout.config.seats

-- the number of the first index word, after the clock and the helper words
abbrev pub first_index : Layout → ℕ
first_index layout = 1 + layout.config.seats

abbrev pub first_interval : Layout → ℕ
first_interval layout = first_index layout + layout.config.seats * layout.config.indexes

abbrev pub first_request : Layout → ℕ
first_request layout = first_interval layout + layout.config.seats

abbrev pub first_bucket : Layout → ℕ
first_bucket layout = first_request layout + layout.config.seats

abbrev pub head_number : Layout → ℕ
head_number layout = first_bucket layout + layout.config.buckets

abbrev pub first_claim : Layout → ℕ
first_claim layout = head_number layout + 2

abbrev pub first_life : Layout → ℕ
first_life layout = first_claim layout + claim_words layout

abbrev pub first_row : Layout → ℕ
first_row layout = first_life layout + row_count layout

abbrev pub first_place : Layout → ℕ
first_place layout = first_row layout + row_count layout * row_places layout

-- how many words the table has
unfoldable pub words : Layout → ℕ
words layout = first_place layout + layout.config.seats

-- the word number of a place
unfoldable pub number : Layout → Place → ℕ
number layout Clock = 0
number layout (Helper seat) = 1 + seat
number layout (Index seat index) = first_index layout + (seat * layout.config.indexes + index)
number layout (Interval seat) = first_interval layout + seat
number layout (Request seat) = first_request layout + seat
number layout (Bucket bucket) = first_bucket layout + bucket
number layout Head = head_number layout
number layout Tail = head_number layout + 1
number layout (Claim word) = first_claim layout + word
number layout (Life slot) = first_life layout + slot
number layout (Row slot place) = first_row layout + (slot * row_places layout + place)
number layout (PlaceOf seat) = first_place layout + seat

-- the place of a word number
unfoldable pub place_at : Layout → ℕ → Place
place_at layout word =
    if word == 0 then Clock
    else if nat_lt word (first_index layout) then Helper (word - 1)
    else if nat_lt word (first_interval layout) then
    Index ((word - first_index layout) / layout.config.indexes) ((word - first_index layout) % layout.config.indexes)
    else if nat_lt word (first_request layout) then Interval (word - first_interval layout)
    else if nat_lt word (first_bucket layout) then Request (word - first_request layout)
    else if nat_lt word (head_number layout) then Bucket (word - first_bucket layout)
    else if word == head_number layout then Head
    else if word == head_number layout + 1 then Tail
    else if nat_lt word (first_life layout) then Claim (word - first_claim layout)
    else if nat_lt word (first_row layout) then Life (word - first_life layout)
    else if nat_lt word (first_place layout) then
    Row ((word - first_row layout) / row_places layout) ((word - first_row layout) % row_places layout)
    else PlaceOf (word - first_place layout)

-- the claim word that has a slot's bit, and which bit that is
abbrev pub claim_word : ℕ → ℕ
claim_word slot = slot / 64

abbrev pub claim_bit : ℕ → ℕ
claim_bit slot = slot % 64

-- the word that has a slot's claim bit alone
unfoldable pub claim_mask : ℕ → ℕ
claim_mask slot = 2 ^ (slot % 64)

-- every bit of a word but a slot's
unfoldable pub claim_others : ℕ → ℕ
claim_others slot = 2 ^ 64 - 1 - claim_mask slot

-- the first value of a claim word: in the last one the dummy's bit and all above it are set
unfoldable pub claim_start : Layout → ℕ → ℕ
claim_start layout word = if word == layout.config.slots / 64 then 2 ^ 64 - claim_mask layout.config.slots else 0

-- the first value of a place; the queue starts at the dummy, a row with birth era 1
abbrev pub start_of : Layout → Place → ℕ
start_of layout Clock = 1
start_of layout Head = layout.config.slots + 1
start_of layout Tail = layout.config.slots + 1
start_of layout (Claim word) = claim_start layout word
start_of layout (Life slot) = if slot == layout.config.slots then halves 1 0 else 0
start_of layout _ = 0

-- the first value of a word number
abbrev pub start_at : Layout → ℕ → ℕ
start_at layout word = start_of layout (place_at layout word)
