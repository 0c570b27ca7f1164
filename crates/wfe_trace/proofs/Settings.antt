-- A setting stays in its ranges, with the pairs of its version.
use Rattle.std.proofs.Common.{◌≡◌, ◌≤◌, ℕ, List, Bool, true, false, arith, refl, None, Result, Ok, Err, if◌then◌else◌}
use Rattle.std.specs.Prelude.{codes}
use Rattle.std.specs.Str.{bytes_eq}
use Rattle.wfe_words.specs.declared.config.Config.{Config}
use Rattle.wfe_words.specs.declared.config.Field.{Field}
use Rattle.wfe_words.specs.declared.config.Field.TheVariants as fields
use Rattle.wfe_words.specs.Config.{allows, bad_field}
use Rattle.wfe_trace.specs.declared.item.Stage.{Stage}
use Rattle.wfe_trace.specs.declared.item.Stage.TheVariants as stages
use Rattle.wfe_trace.specs.declared.reason.Reason.{Reason}
use Rattle.wfe_trace.specs.declared.reason.Reason.TheVariants as reasons
use Rattle.wfe_trace.specs.Reading.{stage_after, gives_pairs, unread_config, IsVersioned}
use Rattle.wfe_trace.specs.Setting.{version_line, pairs_in, with_number}

-- another number in its range leaves each number in its range
pub bad_field-with_number : (config : Config) (field : Field) (n : ℕ) → bad_field config ≡ None → allows field n ≡ true → bad_field (with_number config field n) ≡ None
bad_field-with_number config fields.Seats n good within = grind arith
bad_field-with_number config fields.Indexes n good within = grind arith
bad_field-with_number config fields.Slots n good within = grind arith
bad_field-with_number config fields.Buckets n good within = grind arith
bad_field-with_number config fields.Tries n good within = grind arith
bad_field-with_number config fields.Every n good within = grind arith
bad_field-with_number config fields.LastEra n good within = grind arith
bad_field-with_number config fields.LastVersion n good within = grind arith
bad_field-with_number config fields.Pairs n good within = grind arith

-- a number of another field leaves the pairs
pub versioned-with_number : (version : ℕ) (config : Config) (field : Field) (n : ℕ) → gives_pairs (stages.Number field) ≡ false → IsVersioned version config → IsVersioned version (with_number config field n)
versioned-with_number version config fields.Seats n other v = v
versioned-with_number version config fields.Indexes n other v = v
versioned-with_number version config fields.Slots n other v = v
versioned-with_number version config fields.Buckets n other v = v
versioned-with_number version config fields.Tries n other v = v
versioned-with_number version config fields.Every n other v = v
versioned-with_number version config fields.LastEra n other v = v
versioned-with_number version config fields.LastVersion n other v = v
versioned-with_number version config fields.Pairs n other v = absurd (cc)

choice : (test : Bool) (n version : ℕ) (later : Result ℕ Reason) → 1 ≤ n → n ≤ 5 → (later ≡ Ok version → (1 ≤ version) × (version ≤ 5)) → (if test then Ok n else later) ≡ Ok version → (1 ≤ version) × (version ≤ 5)
choice true n version later least most others h = let same : n ≡ version = cc in (omega (arith, same, least), omega (arith, same, most))
choice false n version later least most others h = others h

-- the first line names a version from 1 to 5
pub version_within : (bytes : List ℕ) (version : ℕ) → version_line bytes ≡ Ok version → (1 ≤ version) × (version ≤ 5)
version_within bytes version h =
    choice (bytes_eq bytes (codes "wfe 1")) 1 version _ (omega arith) (omega arith)
    (choice (bytes_eq bytes (codes "wfe 2")) 2 version _ (omega arith) (omega arith)
    (choice (bytes_eq bytes (codes "wfe 3")) 3 version _ (omega arith) (omega arith)
    (choice (bytes_eq bytes (codes "wfe 4")) 4 version _ (omega arith) (omega arith)
    (choice (bytes_eq bytes (codes "wfe 5")) 5 version (Err reasons.First) (omega arith) (omega arith) (λ g. absurd (cc)))))) h

-- so the setting that begins has its pairs, and a scheme that each version has
pub versioned_first : (bytes : List ℕ) (version : ℕ) → version_line bytes ≡ Ok version → IsVersioned version (with_number unread_config fields.Pairs (pairs_in version))
versioned_first bytes version h = let within = version_within bytes version h in (within.0, within.1, refl, within.0)

pub allows-pairs_in : (version : ℕ) → allows fields.Pairs (pairs_in version) ≡ true
allows-pairs_in version = grind arith

-- no line comes next that gives the pairs
pub after-gives_pairs : (stage : Stage) → gives_pairs (stage_after stage) ≡ false
after-gives_pairs stages.First = refl
after-gives_pairs stages.Scheme = refl
after-gives_pairs (stages.Number fields.Seats) = refl
after-gives_pairs (stages.Number fields.Indexes) = refl
after-gives_pairs (stages.Number fields.Slots) = refl
after-gives_pairs (stages.Number fields.Buckets) = refl
after-gives_pairs (stages.Number fields.Tries) = refl
after-gives_pairs (stages.Number fields.Every) = refl
after-gives_pairs (stages.Number fields.LastEra) = refl
after-gives_pairs (stages.Number fields.LastVersion) = refl
after-gives_pairs (stages.Number fields.Pairs) = refl
after-gives_pairs stages.Begin = refl
after-gives_pairs stages.Body = refl
