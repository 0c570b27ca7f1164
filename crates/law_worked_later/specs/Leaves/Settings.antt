-- A table with one bucket.
use Rattle.std.specs.Prelude.{ℕ}
use Rattle.wfe_core.specs.words.declared.config.SchemeKind.{SchemeKind}
use Rattle.wfe_core.specs.words.declared.layout.Layout.{Layout}

-- with so many indexes for each seat, and so many pairs in a row
abbrev pub table : SchemeKind → (seats indexes slots tries every last_era last_version pairs : ℕ) → Layout
table scheme seats indexes slots tries every last_era last_version pairs =
    record {
      config =
          record {
            scheme = scheme;
            seats = seats;
            indexes = indexes;
            slots = slots;
            buckets = 1;
            tries = tries;
            every = every;
            last_era = last_era;
            last_version = last_version;
            pairs = pairs;
          };
    }
