-- What a judge of entries answers of one entry more.
use Rattle.std.specs.Prelude.{ℕ, Bool, true, false, ◌≡◌}
use Rattle.laws.specs.Good.{Good}
use Rattle.laws.specs.records.Record.{Past}
use Rattle.laws.specs.records.Record.Past.{Then}
use Rattle.wfe_words.specs.declared.config.Config.{Config}
use Rattle.wfe_defs.specs.declared.event.Event.{Event}

-- The record is good with the entry exactly where the answer is true, and then the judge stands for it.
pub record Judged {J : Type 0} (judges : ℕ → Config → J → Past → Type 0) (version : ℕ) (config : Config) (before : Past) (seat : ℕ) (event : Event) (answer : Bool) (now : J) : Type 0 where
  pub good : answer ≡ true → judges version config now (Then before seat event)
  pub refused : answer ≡ false → Good version config (Then before seat event) → ⊥
