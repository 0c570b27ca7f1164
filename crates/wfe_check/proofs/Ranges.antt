-- An entry that may come is in the ranges of the setting that each part has.
use Rattle.std.proofs.Common.{ℕ, ◌≡◌, ◌∙◌, sym, subst}
use Rattle.laws.specs.records.Record.{Past}
use Rattle.laws.specs.Ranges.{EntryIn}
use Rattle.wfe_words.specs.declared.config.Config.{Config}
use Rattle.wfe_defs.specs.declared.event.Event.{Event}
use Rattle.wfe_check.specs.Checked.{MayCome, Shows}
use Rattle.wfe_check.specs.declared.checker.Checker.{Checker}

pub range_in : (c : Checker) (seat : ℕ) (event : Event) (setting : Config) → setting ≡ c.config → MayCome c seat event → EntryIn setting seat event
range_in c seat event setting same (config, before, shows, range) = subst (λ s. EntryIn s seat event) (sym (same ∙ shows.setting)) range

-- in the setting of a record that the checker stands for
pub range_of : (c : Checker) (seat : ℕ) (event : Event) → MayCome c seat event → (config : Config) (p : Past) → Shows config c p → EntryIn config seat event
range_of c seat event may config p shows = range_in c seat event config (sym shows.setting) may

-- and in those of its parts
pub calls_range : (c : Checker) (seat : ℕ) (event : Event) → MayCome c seat event → EntryIn c.calls.config seat event
calls_range c seat event may = let (config, before, shows, range) = may in range_in c seat event c.calls.config (shows.calls.setting ∙ sym shows.setting) may

pub steps_range : (c : Checker) (seat : ℕ) (event : Event) → MayCome c seat event → EntryIn c.steps.config seat event
steps_range c seat event may = let (config, before, shows, range) = may in range_in c seat event c.steps.config (shows.steps.setting ∙ sym shows.setting) may

pub contents_range : (c : Checker) (seat : ℕ) (event : Event) → MayCome c seat event → EntryIn c.contents.config seat event
contents_range c seat event may = let (config, before, shows, range) = may in range_in c seat event c.contents.config (shows.contents.setting ∙ sym shows.setting) may

pub lists_range : (c : Checker) (seat : ℕ) (event : Event) → MayCome c seat event → EntryIn c.lists.config seat event
lists_range c seat event may = let (config, before, shows, range) = may in range_in c seat event c.lists.config (shows.lists.setting ∙ sym shows.setting) may

pub times_range : (c : Checker) (seat : ℕ) (event : Event) → MayCome c seat event → EntryIn c.times.config seat event
times_range c seat event may = let (config, before, shows, range) = may in range_in c seat event c.times.config (shows.times.setting ∙ sym shows.setting) may
