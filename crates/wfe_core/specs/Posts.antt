-- What a post says, and how steps change it.
use Rattle.std.specs.Prelude.{ℕ, ◌+◌, Bool, false, true, List, [], ◌∷◌, ◌++◌, slice_index, slice_index_or, slice_set, Option, Some, None}
use Rattle.wfe_words.specs.Packed.{reservation_word}
use Rattle.wfe_words.specs.declared.layout.Layout.{Layout}
use Rattle.wfe_defs.specs.declared.event.Event.{Event}
use Rattle.wfe_defs.specs.declared.event.Event.TheVariants as events
use Rattle.wfe_defs.specs.declared.event.Guard.TheVariants as guards
use Rattle.wfe_defs.specs.declared.lifetime.Interval.{Interval}
use Rattle.wfe_core.specs.declared.post.Post.{Post}
use Rattle.wfe_core.specs.Guards.{linked_row, one_era}
use Rattle.wfe_core.specs.Memory.{bump}

-- a seat between calls that has made none
abbrev pub new_post : ℕ → Layout → Post
new_post seat layout =
    record {
      seat = seat;
      layout = layout;
      cursor = 0;
      tags = 0 ∷ 0 ∷ 0 ∷ 0 ∷ 0 ∷ 0 ∷ 0 ∷ 0 ∷ [];
      standing = None ∷ None ∷ None ∷ None ∷ None ∷ None ∷ None ∷ None ∷ [];
      span = None;
      steps = 0;
      retired = 0;
    }

-- the tag of an index
abbrev pub tag_of : Post → ℕ → ℕ
tag_of post index = slice_index post.tags index

-- the tag of an index rises by one
abbrev pub with_tag : Post → ℕ → ℕ → Post
with_tag post index tag = record post { tags = slice_set post.tags index tag }

-- what stands at an index
abbrev pub stands : Post → ℕ → Option ℕ
stands post index = slice_index_or post.standing index None

-- nothing stands at the index any more
abbrev pub withdrawn : Post → ℕ → Post
withdrawn post index = record post { standing = slice_set post.standing index None }

-- the row stands at the index from here on
abbrev pub with_row : Post → ℕ → ℕ → Post
with_row post index slot = record post { standing = slice_set post.standing index (Some slot) }

-- Clear is told where something stood
abbrev pub cleared : ℕ → Option ℕ → List Event
cleared index None = []
cleared index (Some slot) = events.Clear index slot ∷ []

-- the first of these rows, from this index on, that stands
abbrev pub standing_from : ℕ → List (Option ℕ) → Option ℕ
standing_from index [] = None
standing_from index (None ∷ rows) = standing_from (index + 1) rows
standing_from index (Some slot ∷ rows) = Some index

-- Clear for each of these rows, from this index on, that stands
abbrev pub cleared_from : ℕ → List (Option ℕ) → List Event
cleared_from index [] = []
cleared_from index (row ∷ rows) = cleared index row ++ cleared_from (index + 1) rows

-- nothing stands at any index, and the interval is withdrawn
abbrev pub withdrawn_all : Post → Post
withdrawn_all post =
    record post { standing = None ∷ None ∷ None ∷ None ∷ None ∷ None ∷ None ∷ None ∷ []; span = None }

-- the word with which an index publishes an era
abbrev pub index_word : Post → ℕ → ℕ → ℕ
index_word post index era = reservation_word (record { era = era; tag = tag_of post index })

-- a helper word has tag 0
abbrev pub helper_word : ℕ → ℕ
helper_word era = reservation_word (record { era = era; tag = 0 })

-- the word with which an index publishes a number: an era under its tag, or where rows are published a link as it is
abbrev pub shown_word : (rows : Bool) → Post → ℕ → ℕ → ℕ
shown_word false post index era = index_word post index era
shown_word true post index link = link

-- an index word, a helper word or the interval word of the seat publishes something else
abbrev pub reserves_index : Post → ℕ → ℕ → List Event
reserves_index post index era = events.Reserve (guards.Index post.seat index) (one_era era) ∷ []

-- an index word publishes another row
abbrev pub hazards_index : Post → ℕ → ℕ → List Event
hazards_index post index link = events.Hazard (guards.Index post.seat index) (linked_row link) ∷ []

-- an index word publishes another era, or another row
abbrev pub publishes_index : (rows : Bool) → Post → ℕ → ℕ → List Event
publishes_index false post index era = reserves_index post index era
publishes_index true post index link = hazards_index post index link

abbrev pub reserves_helper : Post → ℕ → List Event
reserves_helper post era = events.Reserve (guards.Helper post.seat) (one_era era) ∷ []

abbrev pub reserves_span : Post → Option Interval → List Event
reserves_span post span = events.Reserve (guards.Whole post.seat) span ∷ []

abbrev pub lower : Option Interval → ℕ
lower None = 0
lower (Some span) = span.lo

abbrev pub upper : Option Interval → ℕ
upper None = 0
upper (Some span) = span.hi

abbrev pub with_span : Post → Option Interval → Post
with_span post span = record post { span = span }

-- one step of the call more
abbrev pub counted : Post → Post
counted post = record post { steps = bump post.steps }
