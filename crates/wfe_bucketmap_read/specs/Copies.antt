-- Where a copy stands, as a phase of the model.
use Rattle.std.specs.Prelude.{ℕ, List, [], Option, Some, None}
use Rattle.wfe_core.specs.words.Schemes.{publishes_rows}
use Rattle.wfe_core.specs.defs.declared.event.Event.{Event}
use Rattle.wfe_core.specs.declared.post.Post.{Post}
use Rattle.wfe_core.specs.Calls.{StoreHeld, Phase, Works, Keeping}
use Rattle.wfe_core.specs.Posts.{stands, publishes_index}
use Rattle.wfe_core.specs.Rounds.{scheme_of}
use Rattle.wfe_core.specs.Steps.{copying}
use Rattle.wfe_bucketmap_read.specs.declared.copy.CopyAt.{CopyAt}
use Rattle.wfe_bucketmap_read.specs.declared.copy.CopyAt.TheVariants.{Loads, Stores}

abbrev pub copy_phase : (from index : ℕ) → CopyAt → Post → Phase
copy_phase from index Loads post = copying from index (stands post from)
copy_phase from index (Stores number) post = Works (Keeping (StoreHeld from index number))

-- what is told of an era, or where rows are published of a link, that an index publishes, if it publishes one
abbrev pub published_by : Post → (index : ℕ) → Option ℕ → List Event
published_by post index None = []
published_by post index (Some number) = publishes_index (publishes_rows (scheme_of post)) post index number
