-- What a layout is seen as: its setting.
use Rattle.wfe_words.specs.declared.config.Config.{Config}

pub record Setting : Type 0 where
  pub config : Config
