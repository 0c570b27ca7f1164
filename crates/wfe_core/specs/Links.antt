-- The words that hold links: bucket roots, the queue's ends, and the next links of rows.
use Rattle.std.specs.Prelude.{ℕ}
use Rattle.wfe_words.specs.Place.{Place, number, place_at}
use Rattle.wfe_words.specs.Place.Place.{Clock, Helper, Index, Interval, Request, Bucket, Head, Tail, Claim, Life, Row, PlaceOf}
use Rattle.wfe_words.specs.declared.layout.Layout.{Layout}
use Rattle.wfe_defs.specs.declared.event.Root.{Root}
use Rattle.wfe_defs.specs.declared.event.Root.TheVariants as roots

-- the place of a root; a row's next link is its place 0
abbrev pub link_place : Root → Place
link_place (roots.Bucket bucket) = Bucket bucket
link_place roots.Head = Head
link_place roots.Tail = Tail
link_place (roots.Next slot) = Row slot 0

-- the word number of a root
abbrev pub link_number : Layout → Root → ℕ
link_number layout root = number layout (link_place root)

-- the root that a place is, where it is one
abbrev pub root_in : Place → Root
root_in (Bucket bucket) = roots.Bucket bucket
root_in Head = roots.Head
root_in Tail = roots.Tail
root_in (Row slot place) = roots.Next slot
root_in Clock = roots.Head
root_in (Helper seat) = roots.Head
root_in (Index seat index) = roots.Head
root_in (Interval seat) = roots.Head
root_in (Request seat) = roots.Head
root_in (Claim word) = roots.Head
root_in (Life slot) = roots.Head
root_in (PlaceOf seat) = roots.Head

-- the root of a word number
abbrev pub root_at : Layout → ℕ → Root
root_at layout word = root_in (place_at layout word)

-- the row whose next link it is
abbrev pub parent_of : Root → ℕ
parent_of (roots.Next slot) = slot
parent_of (roots.Bucket bucket) = 0
parent_of roots.Head = 0
parent_of roots.Tail = 0
