-- A bucket's changes are linked, and the last one of each key is known.
use Rattle.std.specs.Prelude.{ℕ}
use Rattle.wfe_check_map.specs.declared.bucket.Bucket.TheInside.{Inside}
use Rattle.wfe_check_map.specs.Steps.{AreLinked, EndsAt, last_of}

pub record IsLinked (bucket : Inside) : Type 0 where
  pub links : AreLinked bucket.steps.items
  pub lasts : (key : ℕ) → EndsAt key (last_of bucket.lasts key) bucket.steps.items
