-- What a bucket's root shows, where it is null and where it is not.
use Rattle.std.proofs.Common.{[], refl, false, ℕ, ◌-◌, ◌≡◌, ◌≢◌}
use Rattle.std.specs.Prelude.{◌==◌}
use Rattle.wfe_core.proofs.Facts.{false_by, number_is}
use Rattle.wfe_core.specs.words.Place.{Place}
use Rattle.wfe_core.specs.words.Place.Place.{Bucket, Row}
use Rattle.wfe_table_end.specs.Contents.{filling_in, pairs_in}

pub filling_none : (mem : Place → ℕ) (bucket : ℕ) → mem (Bucket bucket) ≡ 0 → filling_in mem bucket ≡ record { version = 0; pairs = [] }
filling_none mem bucket h = rw h refl

pub filling_some : (mem : Place → ℕ) (bucket link : ℕ) → mem (Bucket bucket) ≡ link → link ≢ 0 → filling_in mem bucket ≡ record { version = mem (Row (link - 1) 1); pairs = pairs_in mem (link - 1) }
filling_some mem bucket link h some = let apart : (link == 0) ≡ false = false_by (link == 0) (λ e. some (number_is link 0 e)) in rw (h, apart) refl
