-- Values as words of 64 bits, by their parts and whole, and how words are read.
use Rattle.std.specs.Prelude.{ℕ, ◌+◌, ◌-◌, ◌*◌, ◌/◌, ◌%◌, ◌^◌, ◌==◌, ◌&&◌, ◌||◌, if◌then◌else◌, nat_le, nat_lt, Bool, true, Option, Some, None}
use Rattle.wfe_words.specs.declared.packed.Link.{Link}
use Rattle.wfe_words.specs.declared.packed.Link.TheVariants as links
use Rattle.wfe_words.specs.declared.packed.Life.{Life}
use Rattle.wfe_words.specs.declared.packed.Reservation.{Reservation}
use Rattle.wfe_words.specs.declared.packed.Span.{Span}
use Rattle.wfe_words.specs.declared.packed.Request.{Request}
use Rattle.wfe_words.specs.declared.packed.Request.TheVariants as requests

-- two numbers of 32 bits in one word, the first in the high half
unfoldable pub halves : ℕ → ℕ → ℕ
halves high low = high * 2 ^ 32 + low

-- the high half of a word
abbrev pub high_half : ℕ → ℕ
high_half word = word / 2 ^ 32

-- the low half of a word
abbrev pub low_half : ℕ → ℕ
low_half word = word % 2 ^ 32

-- the kind of a request word, its two highest bits
abbrev pub kind_of : ℕ → ℕ
kind_of word = word / 2 ^ 62

-- the six bits of an answered request that are zero
abbrev pub spare_bits : ℕ → ℕ
spare_bits word = word / 2 ^ 56 % 2 ^ 6

-- kind 1, a tag of 32 bits, an index of 4 and a word number of 26
unfoldable pub pending_word : ℕ → ℕ → ℕ → ℕ
pending_word tag index word = 2 ^ 62 + tag * 2 ^ 30 + index * 2 ^ 26 + word

-- kind 2, six zero bits, a link of 24 bits and an era of 32
unfoldable pub answered_word : ℕ → ℕ → ℕ
answered_word link era = 2 ^ 63 + link * 2 ^ 32 + era

-- a link as a word: null is 0, a row its number plus one
abbrev pub link_word : Link → ℕ
link_word links.Null = 0
link_word (links.Slot slot) = slot + 1

-- a lifetime as a word: the birth in the high half, the retire era in the low one
abbrev pub life_word : Life → ℕ
life_word life = halves life.birth life.retire

-- a reservation as a word: the era in the high half, the tag in the low one
abbrev pub reservation_word : Reservation → ℕ
reservation_word reservation = halves reservation.era reservation.tag

-- an interval as a word: nothing is 0, else the lower end in the high half and the upper one in the low
abbrev pub span_word : Option Span → ℕ
span_word None = 0
span_word (Some span) = halves span.lo span.hi

-- a request as a word: idle is 0
abbrev pub request_word : Request → ℕ
request_word requests.Idle = 0
request_word (requests.Pending tag index word) = pending_word tag index word
request_word (requests.Answered link era) = answered_word link era

-- the link is null or to a row of a table with so many slots besides the dummy's
abbrev pub link_fits : ℕ → Link → Bool
link_fits slots links.Null = true
link_fits slots (links.Slot slot) = nat_le slot slots

-- the eras have 32 bits, the birth is not 0, and the retire era is 0 or no earlier than the birth
abbrev pub life_fits : Life → Bool
life_fits life =
    nat_lt life.birth (2 ^ 32) && nat_lt life.retire (2 ^ 32) && nat_lt 0 life.birth
    && (life.retire == 0 || nat_le life.birth life.retire)

-- era and tag have 32 bits
abbrev pub reservation_fits : Reservation → Bool
reservation_fits reservation = nat_lt reservation.era (2 ^ 32) && nat_lt reservation.tag (2 ^ 32)

-- nothing, or eras of 32 bits, the lower end not 0 and at most the upper
abbrev pub span_fits : Option Span → Bool
span_fits None = true
span_fits (Some span) = nat_lt span.hi (2 ^ 32) && nat_lt 0 span.lo && nat_le span.lo span.hi

-- each part has its bits, and the era of an answer is not 0
abbrev pub request_fits : Request → Bool
request_fits requests.Idle = true
request_fits (requests.Pending tag index word) = nat_lt tag (2 ^ 32) && nat_lt index (2 ^ 4) && nat_lt word (2 ^ 26)
request_fits (requests.Answered link era) = nat_lt link (2 ^ 24) && nat_lt 0 era && nat_lt era (2 ^ 32)

-- each part has its bits
abbrev pub has_room : Request → Bool
has_room requests.Idle = true
has_room (requests.Pending tag index word) = nat_lt index (2 ^ 4) && nat_lt word (2 ^ 26)
has_room (requests.Answered link era) = nat_lt link (2 ^ 24)

-- the link of a word, in a table with so many slots
unfoldable pub read_link : ℕ → ℕ → Option Link
read_link word slots =
    if word == 0 then Some links.Null
    else if nat_le word (slots + 1) then Some (links.Slot (word - 1))
    else None

-- the lifetime of a word
unfoldable pub read_life : ℕ → Option Life
read_life word =
    if nat_lt 0 (high_half word) && (low_half word == 0 || nat_le (high_half word) (low_half word))
    then Some (record { birth = high_half word; retire = low_half word })
    else None

-- the reservation of a word
unfoldable pub read_reservation : ℕ → Reservation
read_reservation word = record { era = high_half word; tag = low_half word }

-- the interval of a word
unfoldable pub read_span : ℕ → Option (Option Span)
read_span word =
    if word == 0 then Some None
    else if nat_lt 0 (high_half word) && nat_le (high_half word) (low_half word)
    then Some (Some (record { lo = high_half word; hi = low_half word }))
    else None

-- the request of a word
unfoldable pub read_request : ℕ → Option Request
read_request word =
    if word == 0 then Some requests.Idle
    else if kind_of word == 1
    then Some (requests.Pending (word / 2 ^ 30 % 2 ^ 32) (word / 2 ^ 26 % 2 ^ 4) (word % 2 ^ 26))
    else if kind_of word == 2 && spare_bits word == 0 && nat_lt 0 (low_half word)
    then Some (requests.Answered (high_half word % 2 ^ 24) (low_half word))
    else None
