use Rattle.std.proofs.Common.{arith}
use Rattle.wfe_bucketmap.specs.Changes.{kept_of}
use Rattle.wfe_bucketmap.proofs.Withins.{led_within}
use Rattle.wfe_bucketmap.proofs.change.work.Goals as goal

pub returns-in_default-clause-within : goal.returns-in_default-clause-within
returns-in_default-clause-within c = led_within (kept_of c.take.new.kept) c.take.result (omega (arith, c.take.ensures.fits.version, c.requires.valid.bounds.versions.1))
