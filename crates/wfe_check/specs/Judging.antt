-- What the checker stands for is good.
use Rattle.std.specs.Prelude.{ℕ}
use Rattle.laws.specs.Good.{Good}
use Rattle.laws.specs.records.Record.{Past}
use Rattle.wfe_words.specs.declared.config.Config.{Config}
use Rattle.wfe_check.specs.Checked.{IsChecked}
use Rattle.wfe_check.specs.declared.checker.Checker.{Checker}

pub checked_good : (version : ℕ) (config : Config) (c : Checker) (p : Past) → IsChecked version config c p → Good version config p
checked_good version config c p is = is.good
