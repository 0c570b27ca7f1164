-- What single words and values say has no space in it.
use Rattle.std.proofs.Common.{◌≡◌, ◌==◌, ◌++◌, not, ℕ, true, Option, codes, refl, arith, rules}
use Rattle.std.specs.Fmt.{decimal}
use Rattle.std.proofs.lemmas.List.Folds.{list_all-append}
use Rattle.wfe_words.specs.declared.config.Config.{Config}
use Rattle.wfe_defs.specs.declared.lifetime.Interval.{Interval}
use Rattle.wfe_defs.specs.declared.event.Guard.{Guard}
use Rattle.wfe_defs.specs.declared.event.Guard.TheVariants as guards
use Rattle.wfe_defs.specs.declared.event.Root.{Root}
use Rattle.wfe_trace.specs.Fits.{NumberFits, ValueFits}
use Rattle.wfe_trace.specs.Record.{guard_word, root_word, span_words, value_words}
use Rattle.wfe_trace.proofs.Decimals.{lacks, lacks-decimal}
use Rattle.wfe_trace.proofs.EventWords.{Plain}
use Rattle.wfe_record_words.specs.Within.{Small, IsShort, IsSeat, IsIndex, IsSlot, IsBucket, IsGuard, IsRoot, IsShown, IsSpan}

pub long_plain : (n : ℕ) → NumberFits n → lacks 32 (decimal n) ≡ true
long_plain n fits = lacks-decimal 32 n (omega arith) fits

pub short_plain : (n : ℕ) → IsShort n → lacks 32 (decimal n) ≡ true
short_plain n is = long_plain n (omega arith)

pub seat_plain : (config : Config) → Small config → (n : ℕ) → IsSeat config n → lacks 32 (decimal n) ≡ true
seat_plain config small n is = let l = small.seats in long_plain n (omega arith)

pub index_plain : (config : Config) → Small config → (n : ℕ) → IsIndex config n → lacks 32 (decimal n) ≡ true
index_plain config small n is = let l = small.indexes in long_plain n (omega arith)

pub slot_plain : (config : Config) → Small config → (n : ℕ) → IsSlot config n → lacks 32 (decimal n) ≡ true
slot_plain config small n is = let l = small.slots in long_plain n (omega arith)

pub bucket_plain : (config : Config) → Small config → (n : ℕ) → IsBucket config n → lacks 32 (decimal n) ≡ true
bucket_plain config small n is = let l = small.buckets in long_plain n (omega arith)

pub guard-plain : (config : Config) → Small config → (guard : Guard) → IsGuard config guard → lacks 32 (guard_word guard) ≡ true
guard-plain config small (guards.Helper seat) is = seat_plain config small seat is
guard-plain config small (guards.Whole seat) is = seat_plain config small seat is
guard-plain config small (guards.Index seat index) is =
    rw (list_all-append (λ c. not (c == 32)) (decimal seat ++ codes ".") (decimal index), list_all-append (λ c. not (c == 32)) (decimal seat) (codes "."), seat_plain config small seat is.0, index_plain config small index is.1) refl

pub root-plain : (config : Config) → Small config → (root : Root) → IsRoot config root → lacks 32 (root_word root) ≡ true
root-plain config small root is = search (rules, bucket_plain config small, slot_plain config small)

pub span-plain : (span : Option Interval) → IsSpan span → Plain (span_words span)
span-plain span is = search (rules, short_plain)

pub shown-plain : (config : Config) → Small config → (slot : Option ℕ) → IsShown config slot → Plain (value_words slot)
shown-plain config small slot is = search (rules, slot_plain config small)

pub value-plain : (value : Option ℕ) → ValueFits value → Plain (value_words value)
value-plain value is = search (rules, long_plain)
