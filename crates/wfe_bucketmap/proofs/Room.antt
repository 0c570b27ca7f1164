-- A change that is not refused leaves no more pairs than a row has room for.
use Rattle.std.proofs.Common.{ℕ, ◌≡◌, ◌≤◌, Bool, true, false, List, [], ◌∷◌, length, Option, Some, None, refl, arith}
use Rattle.std.proofs.lemmas.Bool.Decides.{nat_tests}
use Rattle.std.specs.Prelude.{◌==◌, ◌&&◌, not, if◌then◌else◌, is_some}
use Rattle.wfe_slots.specs.words.declared.config.Config.{Config}
use Rattle.wfe_core.specs.defs.declared.call.Answer.{Answer}
use Rattle.wfe_core.specs.defs.declared.call.Answer.TheVariants as answers
use Rattle.wfe_core.specs.defs.declared.fold.Change.{Change}
use Rattle.wfe_core.specs.defs.declared.fold.Change.TheVariants as changes
use Rattle.wfe_core.specs.defs.Pairs.{Pair, value_in, with_pair, without_key, changed}
use Rattle.wfe_core.specs.Calls.{ChangeKept}
use Rattle.wfe_core.specs.Change.{refusal, refused, stale_or, has_key}
use Rattle.wfe_slots.proofs.Places.{with_more, with_same}

without_fewer : (ps : List Pair) (key : ℕ) → length (without_key ps key) ≤ length ps
without_fewer [] key = omega arith
without_fewer (p ∷ ps) key = grind (arith, nat_tests, without_fewer ps key)

put_room : (room : ℕ) (ps : List Pair) (key value version : ℕ) (spent has full : Bool) → is_some (value_in ps key) ≡ has → (length ps == room) ≡ full → (if spent then Some (answers.Spent version) else if not has && full then Some (answers.BucketFull version) else None) ≡ None → length ps ≤ room → length (with_pair ps key value) ≤ room
put_room room ps key value version true has full h f e fits = absurd (cc)
put_room room ps key value version false true full h f e fits = rw (with_same ps key value h) fits
put_room room ps key value version false false true h f e fits = absurd (cc)
put_room room ps key value version false false false h f e fits =
    let more = with_more ps key value in
    grind (arith, nat_tests)

room_left : (config : Config) (version : ℕ) (ps : List Pair) (change : Change) → refusal config version ps change ≡ None → length ps ≤ config.pairs → length (changed ps change) ≤ config.pairs
room_left config version ps (changes.Put key value) e fits =
    put_room config.pairs ps key value version (version == config.last_version) (has_key ps key) (length ps == config.pairs) refl refl e fits
room_left config version ps (changes.Removed key) e fits = omega (arith, without_fewer ps key, fits)

stale_by : (is_wanted : Bool) (version : ℕ) (other : Option Answer) → (if is_wanted then other else Some (answers.Stale version)) ≡ None → other ≡ None
stale_by true version other e = e
stale_by false version other e = absurd (cc)

not_stale : (wanted : Option ℕ) (version : ℕ) (other : Option Answer) → stale_or wanted version other ≡ None → other ≡ None
not_stale None version other e = e
not_stale (Some at) version other e = stale_by (version == at) version other e

pub room_kept : (config : Config) (kept : ChangeKept) → refused config kept ≡ None → length kept.pairs ≤ config.pairs → length (changed kept.pairs kept.change) ≤ config.pairs
room_kept config kept e fits =
    room_left config kept.version kept.pairs kept.change (not_stale kept.wanted kept.version (refusal config kept.version kept.pairs kept.change) e) fits
