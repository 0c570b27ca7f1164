-- A table of hazard pointers with one bucket.
use Rattle.std.specs.Prelude.{ℕ}
use Rattle.wfe_core.specs.words.declared.config.SchemeKind.TheVariants.{Hp}
use Rattle.wfe_core.specs.words.declared.layout.Layout.{Layout}

-- with so many indexes for each seat
abbrev pub table : (seats indexes slots every last_era : ℕ) → Layout
table seats indexes slots every last_era =
    record {
      config =
          record {
            scheme = Hp;
            seats = seats;
            indexes = indexes;
            slots = slots;
            buckets = 1;
            tries = 2;
            every = every;
            last_era = last_era;
            last_version = 100;
            pairs = 14;
          };
    }
