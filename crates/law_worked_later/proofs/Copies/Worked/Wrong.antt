-- The laws that refuse each wrong record compute.
use Rattle.std.proofs.Common.{refl}
use Rattle.law_worked_later.specs.Copies.WrongCopies.{WrongCopiesRefused}
use Rattle.law_worked_later.specs.Copies.WrongLooks.{WrongLooksRefused}
use Rattle.law_worked_later.specs.Copies.WrongVersions.{WrongVersionsRefused}

pub wrong_copies : WrongCopiesRefused
wrong_copies = refl

pub wrong_looks : WrongLooksRefused
wrong_looks = refl

pub wrong_versions : WrongVersionsRefused
wrong_versions = refl
