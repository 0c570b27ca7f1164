-- Records that do not keep the law: a get tells version 1 of a bucket that was never changed, and one tells a put.
use Rattle.std.proofs.Common.{[], refl, true, ◌≡◌}
use Rattle.laws.specs.defs.declared.event.Event.TheVariants as events
use Rattle.law_linear.specs.LinearLaw.{tells_ok}
use Rattle.law_linear.specs.Order.{first_state}
use Rattle.law_linear.specs.Records.{GetThatPutsRefused, StaleGetRefused, get_begun, stale_get}
use Rattle.law_linear.specs.Search.{ended_in, may_serve}
use Rattle.law_linear.proofs.Ordered.{points_order}
use Rattle.law_linear.proofs.Search.{orders_are_found}

pub stale_get_refused : StaleGetRefused
stale_get_refused config l =
    let served : may_serve config stale_get 1 first_state (ended_in stale_get stale_get) ≡ true = orders_are_found config stale_get 1 refl (points_order config stale_get l) in
    cc

-- nor does a get tell a put
pub get_that_puts_refused : GetThatPutsRefused
get_that_puts_refused config h = let no : tells_ok config.buckets get_begun 0 (events.Put 0 1 7 70) ≡ true = h get_begun 0 (events.Put 0 1 7 70) [] refl in cc
