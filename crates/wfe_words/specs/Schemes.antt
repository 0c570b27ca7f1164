-- Which scheme a setting names, and what the schemes can do: rules ask for what a scheme does, so that a further scheme
-- says of each whether it does it.
use Rattle.std.specs.Prelude.{Bool, false, true}
use Rattle.wfe_words.specs.declared.config.SchemeKind.{SchemeKind}
use Rattle.wfe_words.specs.declared.config.SchemeKind.TheVariants.{He, Hp, Ibr, Wfe}

-- the scheme is 2GE
abbrev pub is_ibr : SchemeKind → Bool
is_ibr He = false
is_ibr Ibr = true
is_ibr Wfe = false
is_ibr Hp = false

abbrev pub is_he : SchemeKind → Bool
is_he He = true
is_he Ibr = false
is_he Wfe = false
is_he Hp = false

abbrev pub is_wfe : SchemeKind → Bool
is_wfe He = false
is_wfe Ibr = false
is_wfe Wfe = true
is_wfe Hp = false

-- each index word, and each helper word, publishes one era
abbrev pub publishes_eras : SchemeKind → Bool
publishes_eras He = true
publishes_eras Ibr = false
publishes_eras Wfe = true
publishes_eras Hp = false

-- each index word publishes the row that it protects, and no era
abbrev pub publishes_rows : SchemeKind → Bool
publishes_rows He = false
publishes_rows Ibr = false
publishes_rows Wfe = false
publishes_rows Hp = true

-- one interval of eras stands for a seat, whatever index protects
abbrev pub has_one_interval : SchemeKind → Bool
has_one_interval He = false
has_one_interval Ibr = true
has_one_interval Wfe = false
has_one_interval Hp = false

-- a protection that fails asks for help, and movers answer it before they move the clock
abbrev pub helps : SchemeKind → Bool
helps He = false
helps Ibr = false
helps Wfe = true
helps Hp = false

-- a protection counts its failed tries, and gives up trying at a limit
abbrev pub counts_tries : SchemeKind → Bool
counts_tries He = false
counts_tries Ibr = false
counts_tries Wfe = true
counts_tries Hp = false

-- a protection tries again as often as it finds the clock moved
abbrev pub tries_by_clock : SchemeKind → Bool
tries_by_clock He = true
tries_by_clock Ibr = false
tries_by_clock Wfe = false
tries_by_clock Hp = false

-- retirements move the clock
abbrev pub moves : SchemeKind → Bool
moves He = true
moves Ibr = true
moves Wfe = true
moves Hp = false
