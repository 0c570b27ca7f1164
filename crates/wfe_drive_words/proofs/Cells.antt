-- The words of a row lie side by side.
use Rattle.std.proofs.Common.{arith, subst, true, ℕ, ◌+◌, ◌<◌, ◌^◌, ◌≡◌}
use Rattle.std.proofs.lemmas.Bool.Decides.{nat_tests}
use Rattle.std.specs.Prelude.{nat_lt, ◌&&◌}
use Rattle.wfe_core.specs.Links.{link_place}
use Rattle.wfe_core.specs.Ready.{IndexFits, RootFits}
use Rattle.wfe_core.specs.Valid.{IsValid}
use Rattle.wfe_core.specs.declared.post.Post.{Post}
use Rattle.wfe_core.specs.defs.declared.event.Root.{Root}
use Rattle.wfe_core.specs.words.Place.{first_bucket, has, is_valid, number, words}
use Rattle.wfe_core.specs.words.Place.Place.{Index, Interval, Row}
use Rattle.wfe_drive_cells.proofs.Lying.{index_alone, interval_alone}
use Rattle.wfe_core.specs.words.declared.layout.Layout.{Layout}
use Rattle.wfe_words.proofs.Bounds.{buckets_few, cells_few, row_words_few, seats_few, slots_few}
use Rattle.wfe_words.proofs.Numbers.{number_below}

pub cell_is : (layout : Layout) (slot place : ℕ) → number layout (Row slot 0) + place ≡ number layout (Row slot place)
unfolding number
cell_is layout slot place = omega arith

words-few : (layout : Layout) → is_valid layout ≡ true → words layout < 2 ^ 32
unfolding words
words-few layout v = omega (arith, seats_few layout v, slots_few layout v, buckets_few layout v, cells_few layout v, row_words_few layout v)

pub cell_fits : (layout : Layout) (slot place : ℕ) → is_valid layout ≡ true → has layout (Row slot place) ≡ true → number layout (Row slot 0) + place < 2 ^ 32
cell_fits layout slot place v h = omega (arith, cell_is layout slot place, number_below layout (Row slot place) h, words-few layout v)

-- a seat's own index words and its interval word lie alone
pub own_index : (post : Post) (index : ℕ) → IsValid post → IndexFits post index → number post.layout (Index post.seat index) < first_bucket post.layout
own_index post index valid fits =
    let seat = valid.seat in
    let there : has post.layout (Index post.seat index) ≡ true = grind (arith, nat_tests) in
    index_alone post.layout post.seat index there

pub own_interval : (post : Post) → IsValid post → number post.layout (Interval post.seat) < first_bucket post.layout
own_interval post valid =
    let seat = valid.seat in
    let there : has post.layout (Interval post.seat) ≡ true = grind (arith, nat_tests) in
    interval_alone post.layout post.seat there

-- the word of a root that is known to be this one is one of the table's
pub root_there : (layout : Layout) (root as_root : Root) → root ≡ as_root → RootFits layout root → has layout (link_place as_root) ≡ true
root_there layout root as_root e fits = subst (RootFits layout) e fits
