-- The setting of cells of words, and why they are not made.
use Rattle.std.specs.Prelude.{None, Ok, Option, Some, if◌then◌else◌, min, nat_le, ℕ, ◌*◌, ◌+◌, ◌-◌, ◌^◌, ◌≡◌}
use Rattle.wfe_core.specs.words.Config.{within}
use Rattle.wfe_core.specs.words.Place.{layout_of}
use Rattle.wfe_core.specs.words.declared.config.Config.{Config}
use Rattle.wfe_core.specs.words.declared.config.Field.{Field}
use Rattle.wfe_core.specs.words.declared.config.Field.TheVariants as fields
use Rattle.wfe_core.specs.words.declared.config.SchemeKind.{SchemeKind}
use Rattle.wfe_core.specs.words.declared.layout.Layout.{Layout}
use Rattle.wfe_table_end.specs.declared.refusals.MakeError.{MakeError}
use Rattle.wfe_table_end.specs.declared.refusals.MakeError.TheVariants as errors

-- two buckets for each cell and one for each thread, with rows that have room for the words
abbrev pub wide_setting : SchemeKind → (threads cells width : ℕ) → Config
wide_setting scheme threads cells width =
    record {
      scheme = scheme;
      seats = threads;
      indexes = 3;
      slots = 16384;
      buckets = min (min (cells * 2) (2 ^ 32 - 1) + threads) (2 ^ 32 - 1);
      tries = 16;
      every = 32;
      last_era = 4294967295;
      last_version = 281474976710656;
      pairs = if nat_le width 6 then 6 else 14;
    }

-- the first of the width, the threads and the buckets that is out of its range
abbrev pub bad_wide : (threads cells width : ℕ) → Option Field
bad_wide threads cells width =
    if within 1 14 width then if within 1 64 threads then if nat_le (2 * cells + threads) 1024 then None else Some fields.Buckets else Some fields.Seats
    else Some fields.Pairs

-- none of them is, and the table is of this setting
pub record IsWideMade (scheme : SchemeKind) (threads cells width : ℕ) (layout : Layout) : Type 0 where
  pub good : bad_wide threads cells width ≡ None
  pub layout_is : layout_of (wide_setting scheme threads cells width) ≡ Ok layout

-- that one is named; or none is, and memory or rows ran out
abbrev pub IsWideRefused : (threads cells width : ℕ) → MakeError → Type 0
IsWideRefused threads cells width (errors.BadConfig field) = bad_wide threads cells width ≡ Some field
IsWideRefused threads cells width errors.NoMemory = bad_wide threads cells width ≡ None
