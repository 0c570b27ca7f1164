-- What one ability of a scheme says of another.
use Rattle.std.proofs.Common.{◌≡◌, true, false, refl}
use Rattle.std.specs.Prelude.{not}
use Rattle.wfe_words.specs.Schemes.{publishes_eras, publishes_rows, has_one_interval, helps, counts_tries, tries_by_clock, moves}
use Rattle.wfe_words.specs.declared.config.SchemeKind.{SchemeKind}
use Rattle.wfe_words.specs.declared.config.SchemeKind.TheVariants.{He, Hp, Ibr, Wfe}

pub interval_not_eras : (scheme : SchemeKind) → has_one_interval scheme ≡ true → publishes_eras scheme ≡ false
interval_not_eras He h = absurd (cc)
interval_not_eras Ibr h = refl
interval_not_eras Wfe h = absurd (cc)
interval_not_eras Hp h = absurd (cc)

pub eras_not_interval : (scheme : SchemeKind) → publishes_eras scheme ≡ true → has_one_interval scheme ≡ false
eras_not_interval He h = refl
eras_not_interval Ibr h = absurd (cc)
eras_not_interval Wfe h = refl
eras_not_interval Hp h = absurd (cc)

-- each scheme reserves eras, by an interval or one by one, or publishes rows
pub other_eras : (scheme : SchemeKind) → has_one_interval scheme ≡ false → publishes_rows scheme ≡ false → publishes_eras scheme ≡ true
other_eras He h r = refl
other_eras Ibr h r = absurd (cc)
other_eras Wfe h r = refl
other_eras Hp h r = absurd (cc)

pub helps_eras : (scheme : SchemeKind) → helps scheme ≡ true → publishes_eras scheme ≡ true
helps_eras He h = absurd (cc)
helps_eras Ibr h = absurd (cc)
helps_eras Wfe h = refl
helps_eras Hp h = absurd (cc)

pub helps_not_interval : (scheme : SchemeKind) → helps scheme ≡ true → has_one_interval scheme ≡ false
helps_not_interval scheme h = eras_not_interval scheme (helps_eras scheme h)

pub no_help_in_interval : (scheme : SchemeKind) → helps scheme ≡ true → has_one_interval scheme ≡ true → ⊥
no_help_in_interval He h i = cc
no_help_in_interval Ibr h i = cc
no_help_in_interval Wfe h i = cc
no_help_in_interval Hp h i = cc

-- a protection asks for help exactly where its tries are over
pub counts_helps : (scheme : SchemeKind) → counts_tries scheme ≡ helps scheme
counts_helps He = refl
counts_helps Ibr = refl
counts_helps Wfe = refl
counts_helps Hp = refl

pub counts_eras : (scheme : SchemeKind) → counts_tries scheme ≡ true → publishes_eras scheme ≡ true
counts_eras He h = absurd (cc)
counts_eras Ibr h = absurd (cc)
counts_eras Wfe h = refl
counts_eras Hp h = absurd (cc)

pub clock_eras : (scheme : SchemeKind) → tries_by_clock scheme ≡ true → publishes_eras scheme ≡ true
clock_eras He h = refl
clock_eras Ibr h = absurd (cc)
clock_eras Wfe h = absurd (cc)
clock_eras Hp h = absurd (cc)

pub clock_not_counts : (scheme : SchemeKind) → tries_by_clock scheme ≡ true → counts_tries scheme ≡ false
clock_not_counts He h = refl
clock_not_counts Ibr h = refl
clock_not_counts Wfe h = absurd (cc)
clock_not_counts Hp h = absurd (cc)

pub interval_not_counts : (scheme : SchemeKind) → has_one_interval scheme ≡ true → counts_tries scheme ≡ false
interval_not_counts He h = refl
interval_not_counts Ibr h = refl
interval_not_counts Wfe h = absurd (cc)
interval_not_counts Hp h = absurd (cc)

pub no_counts_by_clock : (scheme : SchemeKind) → counts_tries scheme ≡ true → tries_by_clock scheme ≡ true → ⊥
no_counts_by_clock He h c = cc
no_counts_by_clock Ibr h c = cc
no_counts_by_clock Wfe h c = cc
no_counts_by_clock Hp h c = cc

pub no_counts_in_interval : (scheme : SchemeKind) → counts_tries scheme ≡ true → has_one_interval scheme ≡ true → ⊥
no_counts_in_interval He h i = cc
no_counts_in_interval Ibr h i = cc
no_counts_in_interval Wfe h i = cc
no_counts_in_interval Hp h i = cc

pub rows_not_interval : (scheme : SchemeKind) → publishes_rows scheme ≡ true → has_one_interval scheme ≡ false
rows_not_interval He r = refl
rows_not_interval Ibr r = absurd (cc)
rows_not_interval Wfe r = refl
rows_not_interval Hp r = refl

pub rows_not_eras : (scheme : SchemeKind) → publishes_rows scheme ≡ true → publishes_eras scheme ≡ false
rows_not_eras He r = absurd (cc)
rows_not_eras Ibr r = refl
rows_not_eras Wfe r = absurd (cc)
rows_not_eras Hp r = refl

pub rows_not_help : (scheme : SchemeKind) → publishes_rows scheme ≡ true → helps scheme ≡ false
rows_not_help He r = refl
rows_not_help Ibr r = refl
rows_not_help Wfe r = absurd (cc)
rows_not_help Hp r = refl

pub interval_not_rows : (scheme : SchemeKind) → has_one_interval scheme ≡ true → publishes_rows scheme ≡ false
interval_not_rows He h = refl
interval_not_rows Ibr h = refl
interval_not_rows Wfe h = refl
interval_not_rows Hp h = absurd (cc)

pub eras_not_rows : (scheme : SchemeKind) → publishes_eras scheme ≡ true → publishes_rows scheme ≡ false
eras_not_rows He h = refl
eras_not_rows Ibr h = refl
eras_not_rows Wfe h = refl
eras_not_rows Hp h = absurd (cc)

pub helps_not_rows : (scheme : SchemeKind) → helps scheme ≡ true → publishes_rows scheme ≡ false
helps_not_rows scheme h = eras_not_rows scheme (helps_eras scheme h)

-- the clock is moved by retirements exactly where guards publish eras
pub moves_not_rows : (scheme : SchemeKind) → moves scheme ≡ not (publishes_rows scheme)
moves_not_rows He = refl
moves_not_rows Ibr = refl
moves_not_rows Wfe = refl
moves_not_rows Hp = refl
