-- Why a change is refused, or may be done: by the pairs that it has read, which its bucket had at a version current during the
-- call.
use Rattle.std.proofs.Common.{ℕ, ◌≡◌, ◌≤◌, ◌+◌, ◌-◌, ◌%◌, Bool, true, false, List, length, Option, Some, None, refl, sym, ap, ◌∙◌, subst, arith}
use Rattle.std.proofs.lemmas.Bool.Decides.{nat_tests}
use Rattle.std.specs.Prelude.{◌==◌, ◌&&◌, ◌||◌, nat_le, nat_lt, not, is_some, if◌then◌else◌}
use Rattle.law_scans.specs.inv.model.words.declared.config.Config.{Config}
use Rattle.law_scans.specs.inv.model.defs.Pairs.{Pair, value_in}
use Rattle.law_scans.specs.inv.model.defs.declared.call.Answer.{Answer}
use Rattle.law_scans.specs.inv.model.defs.declared.call.Answer.TheVariants as answers
use Rattle.law_scans.specs.inv.model.defs.declared.call.ClockMove.TheVariants as moves
use Rattle.law_scans.specs.inv.model.defs.declared.fold.Change.{Change}
use Rattle.law_scans.specs.inv.model.defs.declared.fold.Change.TheVariants as changes
use Rattle.law_scans.specs.inv.model.Change as alters
use Rattle.law_scans.specs.inv.model.Rounds.{key_of}
use Rattle.law_scans.proofs.inv.model.Facts.{both, first_of, rest_of, below_unless, true_of_not, one_more_less, lt_test_2}
use Rattle.law_scans.proofs.reuse.AnswersTold.Owed.{call_for, may_want}
use Rattle.law_scans.specs.laws.StructuresAt.{was_current, count_of, begun_at, had_version, is_there, pairs_at}
use Rattle.law_scans.specs.inv.history.Record.{Past}
use Rattle.law_scans.specs.laws.HistoryAnswers.{put_if_reason, put_reason, remove_reason, reason}

-- a call of seat i has read these pairs at this version of bucket b
pub record ReadAt (c : Config) (i b version : ℕ) (pairs : List Pair) (p : Past) : Type 0 where
  pub low : begun_at i b p ≤ version
  pub within : version ≤ count_of b p
  pub read : pairs ≡ pairs_at b version p
  pub most : count_of b p ≤ c.last_version
  pub room : length (pairs_at b version p) ≤ c.pairs

pub some_is : (x y : Answer) → ◌≡◌ {A = Option Answer} (Some x) (Some y) → x ≡ y
some_is x y h = cc

pub current_of : (c : Config) (i b version : ℕ) (pairs : List Pair) (p : Past) → ReadAt c i b version pairs p → was_current i b version p ≡ true
current_of c i b version pairs p r =
    let low = r.low in
    let within = r.within in
    both (nat_le (begun_at i b p) version) (nat_le version (count_of b p)) (grind (arith, nat_tests)) (grind (arith, nat_tests))

-- the key is there by the pairs that were read
there_of : (c : Config) (i b version key : ℕ) (pairs : List Pair) (p : Past) → ReadAt c i b version pairs p → is_some (value_in pairs key) ≡ is_there b version key p
there_of c i b version key pairs p r = ap (λ (ps : List Pair). is_some (value_in ps key)) r.read

next_below : (version count last : ℕ) → version ≤ count → count ≤ last → (version == last) ≡ false → nat_le (version + 1) last ≡ true
next_below version count last a b h = grind (arith, nat_tests)

last_is : (version count last : ℕ) → version ≤ count → count ≤ last → (version == last) ≡ true → (version == count) ≡ true
last_is version count last a b h = grind (arith, nat_tests)

had_before : (b version : ℕ) (p : Past) → version ≤ count_of b p → had_version b (version + 1 - 1) p ≡ true
had_before b version p h = grind (arith, nat_tests)

-- a put
put_full : (c : Config) (i b key version : ℕ) (pairs : List Pair) (p : Past) → ReadAt c i b version pairs p → (version == c.last_version) ≡ false → (not (alters.has_key pairs key) && length pairs == c.pairs) ≡ true → put_reason c i b key p (answers.BucketFull version) ≡ true
put_full c i b key version pairs p r e f =
    let g : (not (is_there b version key p) && length (pairs_at b version p) == c.pairs) ≡ true = subst (λ (ps : List Pair). (not (is_some (value_in ps key)) && length ps == c.pairs) ≡ true) r.read f in
    let none = first_of (not (is_there b version key p)) (length (pairs_at b version p) == c.pairs) g in
    let full = rest_of (not (is_there b version key p)) (length (pairs_at b version p) == c.pairs) g in
    both (was_current i b version p) (nat_lt version c.last_version && (length (pairs_at b version p) == c.pairs && not (is_there b version key p))) (current_of c i b version pairs p r)
    (both (nat_lt version c.last_version) (length (pairs_at b version p) == c.pairs && not (is_there b version key p)) (lt_test_2 version (count_of b p) c.last_version r.within r.most e)
    (both (length (pairs_at b version p) == c.pairs) (not (is_there b version key p)) full none))

put_refused : (c : Config) (i b key version : ℕ) (pairs : List Pair) (p : Past) (answer : Answer) (spent full : Bool) → ReadAt c i b version pairs p → (version == c.last_version) ≡ spent → (not (alters.has_key pairs key) && length pairs == c.pairs) ≡ full
    → (if spent then Some (answers.Spent version) else if full then Some (answers.BucketFull version) else None) ≡ Some answer → put_reason c i b key p answer ≡ true
put_refused c i b key version pairs p answer true full r e f h =
    subst (λ (x : Answer). put_reason c i b key p x ≡ true) (some_is (answers.Spent version) answer h) (both (version == c.last_version) (version == count_of b p) e (last_is version (count_of b p) c.last_version r.within r.most e))
put_refused c i b key version pairs p answer false true r e f h = subst (λ (x : Answer). put_reason c i b key p x ≡ true) (some_is (answers.BucketFull version) answer h) (put_full c i b key version pairs p r e f)
put_refused c i b key version pairs p answer false false r e f h = absurd (cc)

put_done : (c : Config) (i b key version : ℕ) (pairs : List Pair) (p : Past) → ReadAt c i b version pairs p → (version == c.last_version) ≡ false → (not (alters.has_key pairs key) && length pairs == c.pairs) ≡ false → put_reason c i b key p (answers.Done (version + 1) moves.Still) ≡ true
put_done c i b key version pairs p r e f =
    let g : (not (is_there b version key p) && length (pairs_at b version p) == c.pairs) ≡ false = subst (λ (ps : List Pair). (not (is_some (value_in ps key)) && length ps == c.pairs) ≡ false) r.read f in
    let room : (is_there b version key p || nat_lt (length (pairs_at b version p)) c.pairs) ≡ true = below_unless (is_there b version key p) (length (pairs_at b version p)) c.pairs r.room g in
    both (nat_le (version + 1) c.last_version) (had_version b (version + 1 - 1) p && (is_there b (version + 1 - 1) key p || nat_lt (length (pairs_at b (version + 1 - 1) p)) c.pairs)) (next_below version (count_of b p) c.last_version r.within r.most e)
    (both (had_version b (version + 1 - 1) p) (is_there b (version + 1 - 1) key p || nat_lt (length (pairs_at b (version + 1 - 1) p)) c.pairs) (had_before b version p r.within)
    (subst (λ (n : ℕ). (is_there b n key p || nat_lt (length (pairs_at b n p)) c.pairs) ≡ true) (sym (one_more_less version)) room))

put_fits : (c : Config) (i b key version : ℕ) (pairs : List Pair) (p : Past) (spent full : Bool) → ReadAt c i b version pairs p → (version == c.last_version) ≡ spent → (not (alters.has_key pairs key) && length pairs == c.pairs) ≡ full
    → (if spent then Some (answers.Spent version) else if full then Some (answers.BucketFull version) else None) ≡ None → put_reason c i b key p (answers.Done (version + 1) moves.Still) ≡ true
put_fits c i b key version pairs p true full r e f h = absurd (cc)
put_fits c i b key version pairs p false true r e f h = absurd (cc)
put_fits c i b key version pairs p false false r e f h = put_done c i b key version pairs p r e f

remove_refused : (c : Config) (i b key version : ℕ) (pairs : List Pair) (p : Past) (answer : Answer) (none spent : Bool) → ReadAt c i b version pairs p → not (alters.has_key pairs key) ≡ none → (version == c.last_version) ≡ spent
    → (if none then Some (answers.Absent version) else if spent then Some (answers.Spent version) else None) ≡ Some answer → remove_reason c i b key p answer ≡ true
remove_refused c i b key version pairs p answer true spent r f e h =
    let g : not (is_there b version key p) ≡ true = subst (λ (ps : List Pair). not (is_some (value_in ps key)) ≡ true) r.read f in
    subst (λ (x : Answer). remove_reason c i b key p x ≡ true) (some_is (answers.Absent version) answer h) (both (was_current i b version p) (not (is_there b version key p)) (current_of c i b version pairs p r) g)
remove_refused c i b key version pairs p answer false true r f e h =
    let g : is_there b version key p ≡ true = sym (there_of c i b version key pairs p r) ∙ true_of_not (alters.has_key pairs key) f in
    subst (λ (x : Answer). remove_reason c i b key p x ≡ true) (some_is (answers.Spent version) answer h)
    (both (version == c.last_version) (version == count_of b p && is_there b version key p) e (both (version == count_of b p) (is_there b version key p) (last_is version (count_of b p) c.last_version r.within r.most e) g))
remove_refused c i b key version pairs p answer false false r f e h = absurd (cc)

remove_done : (c : Config) (i b key version : ℕ) (pairs : List Pair) (p : Past) → ReadAt c i b version pairs p → not (alters.has_key pairs key) ≡ false → (version == c.last_version) ≡ false → remove_reason c i b key p (answers.Done (version + 1) moves.Still) ≡ true
remove_done c i b key version pairs p r f e =
    let g : is_there b version key p ≡ true = sym (there_of c i b version key pairs p r) ∙ true_of_not (alters.has_key pairs key) f in
    both (nat_le (version + 1) c.last_version) (had_version b (version + 1 - 1) p && is_there b (version + 1 - 1) key p) (next_below version (count_of b p) c.last_version r.within r.most e)
    (both (had_version b (version + 1 - 1) p) (is_there b (version + 1 - 1) key p) (had_before b version p r.within) (subst (λ (n : ℕ). is_there b n key p ≡ true) (sym (one_more_less version)) g))

remove_fits : (c : Config) (i b key version : ℕ) (pairs : List Pair) (p : Past) (none spent : Bool) → ReadAt c i b version pairs p → not (alters.has_key pairs key) ≡ none → (version == c.last_version) ≡ spent
    → (if none then Some (answers.Absent version) else if spent then Some (answers.Spent version) else None) ≡ None → remove_reason c i b key p (answers.Done (version + 1) moves.Still) ≡ true
remove_fits c i b key version pairs p true spent r f e h = absurd (cc)
remove_fits c i b key version pairs p false true r f e h = absurd (cc)
remove_fits c i b key version pairs p false false r f e h = remove_done c i b key version pairs p r f e

-- a put that names a version
wanted_refused : (c : Config) (i b key version wanted : ℕ) (pairs : List Pair) (p : Past) (answer : Answer) (spent full : Bool) → ReadAt c i b version pairs p → (version == wanted) ≡ true → (version == c.last_version) ≡ spent → (not (alters.has_key pairs key) && length pairs == c.pairs) ≡ full
    → (if spent then Some (answers.Spent version) else if full then Some (answers.BucketFull version) else None) ≡ Some answer → put_if_reason c i b key wanted p answer ≡ true
wanted_refused c i b key version wanted pairs p answer true full r w e f h =
    subst (λ (x : Answer). put_if_reason c i b key wanted p x ≡ true) (some_is (answers.Spent version) answer h)
    (both (version == wanted) (put_reason c i b key p (answers.Spent version)) w (put_refused c i b key version pairs p (answers.Spent version) true full r e f refl))
wanted_refused c i b key version wanted pairs p answer false true r w e f h =
    subst (λ (x : Answer). put_if_reason c i b key wanted p x ≡ true) (some_is (answers.BucketFull version) answer h)
    (both (version == wanted) (put_reason c i b key p (answers.BucketFull version)) w (put_refused c i b key version pairs p (answers.BucketFull version) false true r e f refl))
wanted_refused c i b key version wanted pairs p answer false false r w e f h = absurd (cc)

put_if_refused : (c : Config) (i b key value version wanted : ℕ) (pairs : List Pair) (p : Past) (answer : Answer) (same : Bool) → ReadAt c i b version pairs p → (version == wanted) ≡ same
    → (if same then alters.refusal c version pairs (changes.Put key value) else Some (answers.Stale version)) ≡ Some answer → put_if_reason c i b key wanted p answer ≡ true
put_if_refused c i b key value version wanted pairs p answer true r w h = wanted_refused c i b key version wanted pairs p answer (version == c.last_version) (not (alters.has_key pairs key) && length pairs == c.pairs) r w refl refl h
put_if_refused c i b key value version wanted pairs p answer false r w h =
    subst (λ (x : Answer). put_if_reason c i b key wanted p x ≡ true) (some_is (answers.Stale version) answer h)
    (both (was_current i b version p) (not (version == wanted)) (current_of c i b version pairs p r) (ap not w))

next_same : (version wanted : ℕ) → (version == wanted) ≡ true → (version + 1 == wanted + 1) ≡ true
next_same version wanted h = grind (arith, nat_tests)

put_if_fits : (c : Config) (i b key value version wanted : ℕ) (pairs : List Pair) (p : Past) (same : Bool) → ReadAt c i b version pairs p → (version == wanted) ≡ same
    → (if same then alters.refusal c version pairs (changes.Put key value) else Some (answers.Stale version)) ≡ None → put_if_reason c i b key wanted p (answers.Done (version + 1) moves.Still) ≡ true
put_if_fits c i b key value version wanted pairs p true r w h =
    both (version + 1 == wanted + 1) (put_reason c i b key p (answers.Done (version + 1) moves.Still)) (next_same version wanted w)
    (put_fits c i b key version pairs p (version == c.last_version) (not (alters.has_key pairs key) && length pairs == c.pairs) r refl refl h)
put_if_fits c i b key value version wanted pairs p false r w h = absurd (cc)

-- either change
pub change_refused : (c : Config) (i version : ℕ) (pairs : List Pair) (change : Change) (wanted : Option ℕ) (p : Past) (answer : Answer) → ReadAt c i (key_of change % c.buckets) version pairs p → may_want change wanted ≡ true
    → alters.stale_or wanted version (alters.refusal c version pairs change) ≡ Some answer → reason c i p (Some (call_for change wanted)) answer ≡ true
change_refused c i version pairs (changes.Put key value) None p answer r m h = put_refused c i (key % c.buckets) key version pairs p answer (version == c.last_version) (not (alters.has_key pairs key) && length pairs == c.pairs) r refl refl h
change_refused c i version pairs (changes.Put key value) (Some wanted) p answer r m h = put_if_refused c i (key % c.buckets) key value version wanted pairs p answer (version == wanted) r refl h
change_refused c i version pairs (changes.Removed key) None p answer r m h = remove_refused c i (key % c.buckets) key version pairs p answer (not (alters.has_key pairs key)) (version == c.last_version) r refl refl h
change_refused c i version pairs (changes.Removed key) (Some wanted) p answer r m h = absurd (cc)

pub change_fits : (c : Config) (i version : ℕ) (pairs : List Pair) (change : Change) (wanted : Option ℕ) (p : Past) → ReadAt c i (key_of change % c.buckets) version pairs p → may_want change wanted ≡ true
    → alters.stale_or wanted version (alters.refusal c version pairs change) ≡ None → reason c i p (Some (call_for change wanted)) (answers.Done (version + 1) moves.Still) ≡ true
change_fits c i version pairs (changes.Put key value) None p r m h = put_fits c i (key % c.buckets) key version pairs p (version == c.last_version) (not (alters.has_key pairs key) && length pairs == c.pairs) r refl refl h
change_fits c i version pairs (changes.Put key value) (Some wanted) p r m h = put_if_fits c i (key % c.buckets) key value version wanted pairs p (version == wanted) r refl h
change_fits c i version pairs (changes.Removed key) None p r m h = remove_fits c i (key % c.buckets) key version pairs p (not (alters.has_key pairs key)) (version == c.last_version) r refl refl h
change_fits c i version pairs (changes.Removed key) (Some wanted) p r m h = absurd (cc)
