-- Which scheme a phase is of: one whose protections are tried publishes eras, and so does one that helps.
use Rattle.std.proofs.Common.{ℕ, ◌≡◌, Bool, true, false, not, ◌&&◌, refl}
use Rattle.std.specs.Prelude.{nat_lt, nat_le}
use Rattle.wfe_core.specs.words.Schemes.{publishes_eras, publishes_rows, counts_tries, has_one_interval, helps}
use Rattle.wfe_core.specs.words.declared.config.SchemeKind.{SchemeKind}
use Rattle.wfe_core.specs.Phases.{Tries, Endless, Failed}
use Rattle.wfe_core.proofs.Facts.{first_of, rest_of, false_of_not}
use Rattle.wfe_core.proofs.words.Schemes.{clock_eras, counts_eras, eras_not_rows, helps_not_rows}
use Rattle.inv_rows.specs.Shapes.Seats.{agree, tries_fit, try_fits}

pub tries_eras : (scheme : SchemeKind) (most : ℕ) (tries : Tries) → tries_fit scheme most tries ≡ true → publishes_eras scheme ≡ true
tries_eras scheme most Endless h = clock_eras scheme h
tries_eras scheme most (Failed count) h = counts_eras scheme (first_of (counts_tries scheme) (nat_le count most) h)

pub try_eras : (scheme : SchemeKind) (most : ℕ) (tries : Tries) → try_fits scheme most tries ≡ true → publishes_eras scheme ≡ true
try_eras scheme most Endless h = clock_eras scheme h
try_eras scheme most (Failed count) h = counts_eras scheme (first_of (counts_tries scheme) (nat_lt count most) h)

pub tries_plain : (scheme : SchemeKind) (most : ℕ) (tries : Tries) → tries_fit scheme most tries ≡ true → publishes_rows scheme ≡ false
tries_plain scheme most tries h = eras_not_rows scheme (tries_eras scheme most tries h)

pub try_plain : (scheme : SchemeKind) (most : ℕ) (tries : Tries) → try_fits scheme most tries ≡ true → publishes_rows scheme ≡ false
try_plain scheme most tries h = eras_not_rows scheme (try_eras scheme most tries h)

pub helps_plain : (scheme : SchemeKind) (there : Bool) → (helps scheme && there) ≡ true → publishes_rows scheme ≡ false
helps_plain scheme there h = helps_not_rows scheme (first_of (helps scheme) there h)

-- two tests that agree have one result
pub agree_same : (a b : Bool) → agree a b ≡ true → a ≡ b
agree_same true true h = refl
agree_same true false h = absurd (cc)
agree_same false true h = absurd (cc)
agree_same false false h = refl

-- an index is cleared as its scheme publishes at it
pub clear_rows : (scheme : SchemeKind) (rows : Bool) → (not (has_one_interval scheme) && agree rows (publishes_rows scheme)) ≡ true → rows ≡ publishes_rows scheme
clear_rows scheme rows h = agree_same rows (publishes_rows scheme) (rest_of (not (has_one_interval scheme)) (agree rows (publishes_rows scheme)) h)

pub clear_plain : (scheme : SchemeKind) (rows : Bool) → (not (has_one_interval scheme) && agree rows (publishes_rows scheme)) ≡ true → has_one_interval scheme ≡ false
clear_plain scheme rows h = false_of_not (has_one_interval scheme) (first_of (not (has_one_interval scheme)) (agree rows (publishes_rows scheme)) h)
