-- The numbers of a valid layout are few, so that word numbers are computed in 32 bits.
use Rattle.std.proofs.Common.{ℕ, ◌≡◌, ◌<◌, ◌≤◌, ◌+◌, ◌*◌, true, arith}
use Rattle.std.proofs.lemmas.Bool.Decides.{nat_tests}
use Rattle.std.proofs.lemmas.Grind.{rows}
use Rattle.wfe_words.specs.Place.{has, is_valid, row_count, row_places}
use Rattle.wfe_words.specs.Place.Place.{Index, Row}
use Rattle.wfe_words.specs.declared.config.Config.{Config}
use Rattle.wfe_words.specs.declared.layout.Layout.{Layout}
use Rattle.wfe_words.proofs.Numbers.{ranges, row_below}

pub seats_few : (layout : Layout) → is_valid layout ≡ true → layout.config.seats ≤ 64
seats_few layout h = (ranges layout h).seats

pub indexes_few : (layout : Layout) → is_valid layout ≡ true → layout.config.indexes ≤ 8
indexes_few layout h = (ranges layout h).indexes

pub slots_few : (layout : Layout) → is_valid layout ≡ true → layout.config.slots ≤ 65536
slots_few layout h = (ranges layout h).slots

pub buckets_few : (layout : Layout) → is_valid layout ≡ true → layout.config.buckets ≤ 1024
buckets_few layout h = (ranges layout h).buckets

pub pairs_few : (layout : Layout) → is_valid layout ≡ true → layout.config.pairs ≤ 14
pairs_few layout h = (ranges layout h).pairs

pub cells_few : (layout : Layout) → is_valid layout ≡ true → layout.config.seats * layout.config.indexes ≤ 64 * 8
cells_few layout h = let r = ranges layout h in grind (arith, rows)

pub row_words_few : (layout : Layout) → is_valid layout ≡ true → row_count layout * row_places layout ≤ 65537 * 31
row_words_few layout h = let r = ranges layout h in grind (arith, rows)

pub cell_few : (layout : Layout) (seat index : ℕ) → is_valid layout ≡ true → has layout (Index seat index) ≡ true → seat * layout.config.indexes + index < 64 * 8
cell_few layout seat index v h = let a : seat < layout.config.seats = grind (arith, nat_tests) in
    let b : index < layout.config.indexes = grind (arith, nat_tests) in
    omega (arith, row_below seat index layout.config.seats layout.config.indexes a b, cells_few layout v)

pub row_word_few : (layout : Layout) (slot place : ℕ) → is_valid layout ≡ true → has layout (Row slot place) ≡ true → slot * row_places layout + place < 65537 * 31
row_word_few layout slot place v h = let a : slot < row_count layout = grind (arith, nat_tests) in
    let b : place < row_places layout = grind (arith, nat_tests) in
    omega (arith, row_below slot place (row_count layout) (row_places layout) a b, row_words_few layout v)

-- the numbers of a setting, by which its first words are numbered
pub record AreFew (config : Config) : Type 0 where
  pub seats : config.seats ≤ 64
  pub cells : config.seats * config.indexes ≤ 64 * 8
  pub slots : config.slots ≤ 65536
  pub buckets : config.buckets ≤ 1024
  pub pairs : config.pairs ≤ 14

pub firsts_few : (config : Config) → is_valid (record { config = config }) ≡ true → AreFew config
firsts_few config h =
    let layout : Layout = record { config = config } in
    record { seats = seats_few layout h; cells = cells_few layout h; slots = slots_few layout h; buckets = buckets_few layout h; pairs = pairs_few layout h }

pub ruleset bounds = (nat_tests, seats_few, indexes_few, slots_few, buckets_few, pairs_few, cells_few, row_words_few)
