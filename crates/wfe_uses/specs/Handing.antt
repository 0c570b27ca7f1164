-- What is known of a put that is done, to its thread and to one that was told of it.
use Rattle.std.specs.Prelude.{List, Some, ℕ, ◌≡◌, ◌≤◌}
use Rattle.laws.specs.StructuresAt.{bucket_of, count_of, value_at}
use Rattle.wfe_core.specs.words.declared.layout.Layout.{Layout}
use Rattle.wfe_table.specs.Public.{TableNow}
use Rattle.wfe_table.specs.history.History.{Item, record_of}
use Rattle.wfe_table_end.specs.declared.answers.Got.{Got}
use Rattle.wfe_uses.specs.declared.handover.Told.{Told}

-- by this history the key's bucket had come to this version, at which the key had this value
pub record Knows (layout : Layout) (past : List Item) (key value version : ℕ) : Type 0 where
  pub had : version ≤ count_of (bucket_of layout.config.buckets key) (record_of layout past)
  pub value_is : value_at (bucket_of layout.config.buckets key) version key (record_of layout past) ≡ Some value

-- the news are of this table, and by them the put is known
pub record IsTold (shared : TableNow) (key : ℕ) (told : Told) : Type 0 where
  pub table : told.news.table ≡ shared.table
  pub knows : Knows shared.layout told.news.past key told.value told.version

-- what was got is no older than this version, and at this version it is this value
pub record IsNoOlder (value version : ℕ) (got : Got) : Type 0 where
  pub later : version ≤ got.version
  pub same : got.version ≡ version → got.value ≡ Some value
