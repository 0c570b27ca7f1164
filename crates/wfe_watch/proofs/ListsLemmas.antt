-- The counts of retire lists, after more entries.
use Rattle.std.proofs.Common.{List, [], refl, ℕ, ◌++◌, ◌≡◌, ◌∷◌}
use Rattle.wfe_defs.specs.Entry.{Entry}
use Rattle.wfe_watch.specs.Lists.{lists_after, lists_told}

-- entries after entries
pub lists_told-append : (first second : List Entry) (counts : List ℕ) → lists_told counts (first ++ second) ≡ lists_told (lists_told counts first) second
lists_told-append [] second counts = refl
lists_told-append (x ∷ first) second counts = lists_told-append first second (lists_after counts x.seat x.event)
