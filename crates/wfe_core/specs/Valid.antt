-- Which posts are valid.
use Rattle.std.specs.Prelude.{ℕ, ◌≡◌, ◌<◌, ◌≤◌, true, length, Option, Some, None}
use Rattle.wfe_words.specs.Place.{is_valid}
use Rattle.wfe_words.specs.declared.config.Config.{Config}
use Rattle.wfe_defs.specs.declared.lifetime.Interval.{Interval}
use Rattle.wfe_core.specs.declared.post.Post.{Post}
use Rattle.wfe_core.specs.Posts.{tag_of, stands}

-- an interval has a lower end of at least 1, and at most its upper end
abbrev pub SpanValid : Option Interval → Type 0
SpanValid None = Unit {0}
SpanValid (Some span) = (1 ≤ span.lo) × (span.lo ≤ span.hi)

-- what stands is a row, at one of the seat's indexes
abbrev pub StandsValid : Post → ℕ → Option ℕ → Type 0
StandsValid post index None = Unit {0}
StandsValid post index (Some slot) = (slot ≤ post.layout.config.slots) × (index < post.layout.config.indexes)

-- the ranges of a valid layout's numbers, as inequalities
pub record Bounds (config : Config) : Type 0 where
  pub seats : (1 ≤ config.seats) × (config.seats ≤ 64)
  pub indexes : (3 ≤ config.indexes) × (config.indexes ≤ 8)
  pub slots : (2 ≤ config.slots) × (config.slots ≤ 65536)
  pub buckets : (1 ≤ config.buckets) × (config.buckets ≤ 1024)
  pub tries : (1 ≤ config.tries) × (config.tries ≤ 64)
  pub every : (1 ≤ config.every) × (config.every ≤ 65536)
  pub eras : (1 ≤ config.last_era) × (config.last_era ≤ 4294967295)
  pub versions : (1 ≤ config.last_version) × (config.last_version ≤ 281474976710656)
  pub pairs : (6 ≤ config.pairs) × (config.pairs ≤ 14)

-- seat, cursor, tags, what stands and the interval are in range
pub record IsValid (post : Post) : Type 0 where
  pub layout : is_valid post.layout ≡ true
  pub bounds : Bounds post.layout.config
  pub seat : post.seat < post.layout.config.seats
  pub cursor : post.cursor ≤ post.layout.config.slots
  pub tags : (index : ℕ) → index < 8 → tag_of post index < 4294967295
  pub standing : (index : ℕ) → index < 8 → StandsValid post index (stands post index)
  pub span : SpanValid post.span
  pub all_tags : length post.tags ≡ 8
  pub all_standing : length post.standing ≡ 8
