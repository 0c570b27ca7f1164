-- Roots and the numbers of their words.
use Rattle.std.proofs.Common.{ℕ, ◌≡◌, ◌<◌, ◌+◌, ◌-◌, ◌*◌, ◌/◌, ap, arith}
use Rattle.std.proofs.lemmas.Bool.Decides.{nat_tests}
use Rattle.std.proofs.Math.Nat.{mul-div_cancel}
use Rattle.std.specs.Prelude.{◌==◌, nat_lt, if◌then◌else◌}
use Rattle.wfe_words.specs.Place.{number}
use Rattle.wfe_words.specs.Place.Place.{Bucket, Head, Tail, Row}
use Rattle.wfe_words.specs.declared.layout.Layout.{Layout}
use Rattle.wfe_words.proofs.Numbers.{place_at-number}
use Rattle.wfe_defs.specs.declared.event.Root.{Root}
use Rattle.wfe_defs.specs.declared.event.Root.TheVariants as roots
use Rattle.wfe_core.specs.Links.{link_number, root_in, root_at}
use Rattle.wfe_core.specs.Ready.{RootFits}

-- a root is read back from its word's number
pub root_at_link : (layout : Layout) (root : Root) → RootFits layout root → root_at layout (link_number layout root) ≡ root
root_at_link layout (roots.Bucket bucket) h = ap root_in (place_at-number layout (Bucket bucket) h)
root_at_link layout roots.Head h = ap root_in (place_at-number layout Head h)
root_at_link layout roots.Tail h = ap root_in (place_at-number layout Tail h)
root_at_link layout (roots.Next slot) h = ap root_in (place_at-number layout (Row slot 0) h)

-- the root of a word number, by the groups of numbers
abbrev pub root_by : Layout → ℕ → Root
root_by layout word =
    if nat_lt word (number layout Head) then roots.Bucket (word - number layout (Bucket 0))
    else if word == number layout Head then roots.Head
    else if word == number layout Tail then roots.Tail
    else roots.Next ((word - link_number layout (roots.Next 0)) / (3 + 2 * layout.config.pairs))

root_by-link : (layout : Layout) (root : Root) → RootFits layout root → root_by layout (link_number layout root) ≡ root
unfolding number
root_by-link layout (roots.Bucket bucket) h = grind (arith, nat_tests)
root_by-link layout roots.Head h = grind (arith, nat_tests)
root_by-link layout roots.Tail h = grind (arith, nat_tests)
root_by-link layout (roots.Next slot) h =
    let places : 0 < 3 + 2 * layout.config.pairs = omega arith in
    grind (arith, nat_tests, mul-div_cancel slot places)

pub root_by_number : (layout : Layout) (word : ℕ) → RootFits layout (root_at layout word) → link_number layout (root_at layout word) ≡ word → root_by layout word ≡ root_at layout word
root_by_number layout word h e = let k = root_by-link layout (root_at layout word) h in rw e at k
