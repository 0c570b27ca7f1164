-- What a layout keeps of its setting: the numbers of the first words of some groups, and how many words a row has.
use Rattle.std.proofs.Common.{ap, sym, ◌∙◌}
use Rattle.std.specs.Prelude.{ℕ, ◌≡◌}
use Rattle.wfe_words.specs.Place.{first_bucket, first_interval, first_life, first_row, row_places}
use Rattle.wfe_words.specs.Setting.{Setting}
use Rattle.wfe_words.specs.declared.layout.Layout.TheInside.{Inside}

abbrev pub setting_of : Inside → Setting
setting_of own = record { config = own.config }

pub record AreFirsts (own : Inside) : Type 0 where
  pub intervals : own.intervals ≡ first_interval (setting_of own)
  pub roots : own.roots ≡ first_bucket (setting_of own)
  pub lives : own.lives ≡ first_life (setting_of own)
  pub rows : own.rows ≡ first_row (setting_of own)
  pub places : own.places ≡ row_places (setting_of own)

-- all of it, by the setting alone
abbrev pub inside_of : Setting → Inside
inside_of layout = record { config = layout.config; intervals = first_interval layout; roots = first_bucket layout; lives = first_life layout; rows = first_row layout; places = row_places layout }

pub inside_is : (own : Inside) → AreFirsts own → inside_of (setting_of own) ≡ own
inside_is own h =
    let made : (intervals roots lives rows places : ℕ) → Inside = λ intervals roots lives rows places. record { config = own.config; intervals = intervals; roots = roots; lives = lives; rows = rows; places = places } in
    let layout : Setting = setting_of own in
    ap (λ (n : ℕ). made n (first_bucket layout) (first_life layout) (first_row layout) (row_places layout)) (sym h.intervals)
    ∙ ap (λ (n : ℕ). made own.intervals n (first_life layout) (first_row layout) (row_places layout)) (sym h.roots)
    ∙ ap (λ (n : ℕ). made own.intervals own.roots n (first_row layout) (row_places layout)) (sym h.lives)
    ∙ ap (λ (n : ℕ). made own.intervals own.roots own.lives n (row_places layout)) (sym h.rows)
    ∙ ap (λ (n : ℕ). made own.intervals own.roots own.lives own.rows n) (sym h.places)
