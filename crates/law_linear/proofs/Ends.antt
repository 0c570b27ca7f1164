-- Where calls end: those that have told no get and no change could answer so at a position since they began.
use Rattle.std.proofs.Common.{ℕ, zero, suc, ◌≡◌, Bool, true, false, refl, sym, ap, ◌∙◌, arith, subst, List, [], length, take, drop, None, Some, ◌⊎◌, inl, inr}
use Rattle.std.proofs.Math.Seq.{drop-length, take-length}
use Rattle.std.proofs.lemmas.Bool.Decides.{nat_tests}
use Rattle.std.specs.Prelude.{◌==◌, ◌&&◌, ◌||◌, not, nat_lt, is_some, ◌%◌}
use Rattle.laws.proofs.records.defs.Facts.{both, first_of, number_is, rest_of, same_number}
use Rattle.laws.specs.AnswerLaw.{any_up_to, has_number, lacks_row, put_at, remove_at, suits}
use Rattle.laws.specs.HistoryAnswers.{owes, put_reason, reason, remove_reason}
use Rattle.laws.specs.StateAt.{has_told, told_of}
use Rattle.laws.specs.StructuresAt.{Filling, all_taken, begun_at, changes_of, count_of, is_there, pairs_at, queued_of, shows_of, taken_of, was_current, was_empty}
use Rattle.laws.specs.defs.Events.{is_null}
use Rattle.laws.specs.defs.Pairs.{pairs_after, value_in}
use Rattle.laws.specs.defs.declared.call.Answer.TheVariants as answers
use Rattle.laws.specs.defs.declared.call.Answer.{Answer}
use Rattle.laws.specs.defs.declared.call.Call.TheVariants as calls
use Rattle.laws.specs.defs.declared.call.Call.{Call}
use Rattle.laws.specs.defs.declared.fold.Change.{Change}
use Rattle.laws.specs.records.Record.{Past, begins, held_since}
use Rattle.laws.specs.words.declared.config.Config.{Config}
use Rattle.law_linear.specs.Hands.{hand_of, hand_right, object_held, version_of}
use Rattle.law_linear.specs.Object.{Hand, Object, after, has_key, keeps, may_answer, may_hold, may_put, may_put_if, may_remove, none_waits, with_kept}
use Rattle.law_linear.specs.Points.{object_at, timeless}
use Rattle.law_linear.proofs.Ending.{AtEnd}
use Rattle.law_linear.proofs.Positions.{held, was_now, was_there}
use Rattle.law_linear.proofs.Stages.{first_answer}
use Rattle.law_linear.proofs.Telling.{Could}

-- what the seat keeps after the End
abbrev pub HandAfter : Config → Past → ℕ → Call → Answer → Hand
HandAfter c p i call answer = keeps c (object_held answer p) (hand_of c i p) call answer

-- the call has told its answer
pub record HasTold (c : Config) (p : Past) (i : ℕ) (call : Call) (answer : Answer) : Type 0 where
  pub told : first_answer (told_of i p) ≡ Some (timeless answer)
  pub keeping : HandAfter c p i call answer ≡ hand_of c i p

-- or none
pub record Silent (c : Config) (p : Past) (i : ℕ) (call : Call) (answer : Answer) : Type 0 where
  pub none : first_answer (told_of i p) ≡ None
  pub could : Could c p i call (timeless answer) (HandAfter c p i call answer)

abbrev pub Ends : Config → Past → ℕ → Call → Answer → Type 0
Ends c p i call answer = HasTold c p i call answer ⊎ Silent c p i call answer

-- where it ends
now : (c : Config) (p : Past) (i : ℕ) (call : Call) (answer : Answer) (new : Hand) → may_answer c (object_at p) (hand_of c i p) call answer ≡ true
    → keeps c (object_at p) (hand_of c i p) call answer ≡ new → ((x : Object) → after c x call answer ≡ x) → Could c p i call answer new
now c p i call answer new may keeping stays = record { now = object_at p; was = was_now i p; may = may; keeping = keeping; stays = stays }

-- where a bucket had a version
bucket : (c : Config) (p : Past) (i : ℕ) (call : Call) (answer : Answer) (b version : ℕ) (test : Filling → Bool) (new : Hand) → was_current i b version p ≡ true
    → test (record { version = version; pairs = pairs_at b version p }) ≡ true → ((x : Object) → may_answer c x (hand_of c i p) call answer ≡ test (x.bucket b))
    → ((x : Object) → keeps c x (hand_of c i p) call answer ≡ new) → ((x : Object) → after c x call answer ≡ x) → Could c p i call answer new
bucket c p i call answer b version test new w t m keeping stays =
    let x = was_there i b version p w in
    record { now = x.now; was = x.was; may = m x.now ∙ subst (λ (f : Filling). test f ≡ true) (sym x.is) t; keeping = keeping x.now; stays = stays }

-- where a test holds
tested : (c : Config) (p : Past) (i : ℕ) (call : Call) (answer : Answer) (f : Past → Bool) (new : Hand) → held_since (begins i) f p ≡ true
    → ((q : Past) → f q ≡ true → may_answer c (object_at q) (hand_of c i p) call answer ≡ true) → ((x : Object) → keeps c x (hand_of c i p) call answer ≡ new)
    → ((x : Object) → after c x call answer ≡ x) → Could c p i call answer new
tested c p i call answer f new h m keeping stays =
    let x = held i f p h in record { now = object_at x.at; was = x.was; may = m x.at x.holds; keeping = keeping (object_at x.at); stays = stays }

-- some version up to this one
record Any (test : ℕ → Bool) : Type 0 where
  version : ℕ
  passes : test version ≡ true

or_rest : (a b : Bool) → a ≡ false → (a || b) ≡ true → b ≡ true
or_rest true b e h = absurd (cc)
or_rest false b e h = h

any : (test : ℕ → Bool) (n : ℕ) → any_up_to test n ≡ true → Any test
any test zero h = record { version = 0; passes = h }
any test (suc n) h = by (test (suc n)) refl (any test n)
  where
    by : (x : Bool) → test (suc n) ≡ x → (any_up_to test n ≡ true → Any test) → Any test
    by true e f = record { version = suc n; passes = e }
    by false e f = f (or_rest (test (suc n)) (any_up_to test n) e h)

swapped : (a b : Bool) → (a && b) ≡ true → (b && a) ≡ true
swapped a b h = both b a (rest_of a b h) (first_of a b h)

-- with what is tested of the version itself
and_own : (version : ℕ) (b : Bool) → b ≡ true → (version == version && b) ≡ true
and_own version b h = both (version == version) b (same_number version) h

put_full : (c : Config) (p : Past) (i key value : ℕ) → lacks_row c i p (Some (calls.Put key value)) ≡ true → Could c p i (calls.Put key value) answers.Full (hand_of c i p)
put_full c p i key value h =
    let x = any (put_at c i (key % c.buckets) key p) (count_of (key % c.buckets) p) h in
    bucket c p i (calls.Put key value) answers.Full (key % c.buckets) x.version (λ f. may_put c key f answers.Full) (hand_of c i p) (first_of _ _ x.passes) (rest_of _ _ x.passes)
    (λ y. refl) (λ y. refl) (λ y. refl)

put_if_full : (c : Config) (p : Past) (i key value wanted : ℕ) → lacks_row c i p (Some (calls.PutIf key value wanted)) ≡ true
    → Could c p i (calls.PutIf key value wanted) answers.Full (hand_of c i p)
put_if_full c p i key value wanted h =
    let x = any (λ (version : ℕ). version == wanted && put_at c i (key % c.buckets) key p version) (count_of (key % c.buckets) p) h in
    let at : put_at c i (key % c.buckets) key p x.version ≡ true = rest_of (x.version == wanted) (put_at c i (key % c.buckets) key p x.version) x.passes in
    let here : may_put_if c key wanted (record { version = x.version; pairs = pairs_at (key % c.buckets) x.version p }) answers.Full ≡ true =
    both (x.version == wanted) (may_put c key (record { version = x.version; pairs = pairs_at (key % c.buckets) x.version p }) answers.Full)
    (first_of (x.version == wanted) (put_at c i (key % c.buckets) key p x.version) x.passes) (rest_of _ _ at) in
    bucket c p i (calls.PutIf key value wanted) answers.Full (key % c.buckets) x.version (λ f. may_put_if c key wanted f answers.Full) (hand_of c i p) (first_of _ _ at) here
    (λ y. refl) (λ y. refl) (λ y. refl)

remove_full : (c : Config) (p : Past) (i key : ℕ) → lacks_row c i p (Some (calls.Remove key)) ≡ true → Could c p i (calls.Remove key) answers.Full (hand_of c i p)
remove_full c p i key h =
    let x = any (remove_at c i (key % c.buckets) key p) (count_of (key % c.buckets) p) h in
    bucket c p i (calls.Remove key) answers.Full (key % c.buckets) x.version (λ f. may_remove c key f answers.Full) (hand_of c i p) (first_of _ _ x.passes) (rest_of _ _ x.passes)
    (λ y. refl) (λ y. refl) (λ y. refl)

spent_wanted : (version wanted last count : ℕ) → (version == wanted && (version == last && version == count)) ≡ true → (count == wanted && (version == count && version == last)) ≡ true
spent_wanted version wanted last count h = grind (arith, nat_tests)

remove_spent : (c : Config) (p : Past) (i b key version : ℕ) → remove_reason c i b key p (answers.Spent version) ≡ true
    → may_remove c key ((object_at p).bucket b) (answers.Spent version) ≡ true
remove_spent c p i b key version h =
    let rest : Bool = version == count_of b p && is_there b version key p in
    let last = first_of (version == c.last_version) rest h in
    let now = first_of (version == count_of b p) (is_there b version key p) (rest_of (version == c.last_version) rest h) in
    let there = rest_of (version == count_of b p) (is_there b version key p) (rest_of (version == c.last_version) rest h) in
    let all : take version (changes_of b p) ≡ changes_of b p = rw (number_is version (count_of b p) now) (take-length (changes_of b p)) in
    let here : has_key key ((object_at p).bucket b) ≡ true = subst (λ (cs : List Change). is_some (value_in (pairs_after cs) key) ≡ true) all there in
    both (version == count_of b p) (version == c.last_version && has_key key ((object_at p).bucket b)) now (both (version == c.last_version) (has_key key ((object_at p).bucket b)) last here)

none_left : (q : Past) → all_taken q ≡ true → none_waits (drop (taken_of q) (queued_of q)) ≡ true
none_left q h =
    let one : taken_of q ≡ length (queued_of q) = number_is (taken_of q) (length (queued_of q)) h in
    let none : drop (taken_of q) (queued_of q) ≡ [] = rw one (drop-length (queued_of q)) in
    rw none refl

never : (p : Past) (i b : ℕ) → (begun_at i b p == 0) ≡ true → was_current i b 0 p ≡ true
never p i b h = grind (arith, nat_tests)

-- a hold takes the bucket as it was when it had the version that the row shows
held_row : (c : Config) (p : Past) (i key slot : ℕ) → hand_right c i p (Some (calls.Hold key)) (answers.Holding slot) ≡ true
    → Could c p i (calls.Hold key) (answers.Holding slot) (HandAfter c p i (calls.Hold key) (answers.Holding slot))
held_row c p i key slot h =
    let b : ℕ = key % c.buckets in
    let version : ℕ = version_of (shows_of slot p) in
    let x = was_there i b version p (first_of (was_current i b version p) (not (version == 0)) h) in
    let some : not (version == 0) ≡ true = rest_of (was_current i b version p) (not (version == 0)) h in
    record {
      now = x.now;
      was = x.was;
      may = subst (λ (f : Filling). may_hold f (answers.Holding slot) ≡ true) (sym x.is) some;
      keeping = ap (λ (f : Filling). with_kept 2 (Some (record { name = slot; was = f })) (hand_of c i p)) x.is;
      stays = λ y. refl;
    }

wanted_full : (c : Config) (p : Past) (i key value wanted version : ℕ) → reason c i p (Some (calls.PutIf key value wanted)) (answers.BucketFull version) ≡ true
    → Could c p i (calls.PutIf key value wanted) (answers.BucketFull version) (hand_of c i p)
wanted_full c p i key value wanted version w =
    let b : ℕ = key % c.buckets in
    let put : put_reason c i b key p (answers.BucketFull version) ≡ true = rest_of (version == wanted) (put_reason c i b key p (answers.BucketFull version)) w in
    let one = first_of (version == wanted) (put_reason c i b key p (answers.BucketFull version)) w in
    let rest : Bool = nat_lt version c.last_version && (length (pairs_at b version p) == c.pairs && not (is_there b version key p)) in
    bucket c p i (calls.PutIf key value wanted) (answers.BucketFull version) b version (λ f. may_put_if c key wanted f (answers.BucketFull version)) (hand_of c i p)
    (first_of (was_current i b version p) rest put)
    (both (version == wanted) (version == version && rest) one (and_own version rest (rest_of (was_current i b version p) rest put)))
    (λ y. refl) (λ y. refl) (λ y. refl)

point : (c : Config) (p : Past) (i : ℕ) (call : Call) (answer : Answer) → suits call answer ≡ true → told_of i p ≡ owes c.buckets call answer → reason c i p (Some call) answer ≡ true
    → (answer ≡ answers.Full → lacks_row c i p (Some call) ≡ true) → (call ≡ calls.Dequeue → answer ≡ answers.Empty → was_empty i p ≡ true)
    → hand_right c i p (Some call) answer ≡ true → Ends c p i call answer
point c p i (calls.Get key) (answers.Got version value) s t w l e h = inl (record { told = ap first_answer t; keeping = refl })
point c p i (calls.Put key value) (answers.Done version clock) s t w l e h = inl (record { told = ap first_answer t; keeping = refl })
point c p i (calls.Put key value) answers.Full s t w l e h = inr (record { none = ap first_answer t; could = put_full c p i key value (l refl) })
point c p i (calls.Put key value) (answers.BucketFull version) s t w l e h = inr (record { none = ap first_answer t; could = bucket c p i (calls.Put key value) (answers.BucketFull version) (key % c.buckets) version (λ f. may_put c key f (answers.BucketFull version)) (hand_of c i p) (first_of _ _ w) (and_own version _ (rest_of _ _ w)) (λ y. refl) (λ y. refl) (λ y. refl) })
point c p i (calls.Put key value) (answers.Spent version) s t w l e h = inr (record { none = ap first_answer t; could = now c p i (calls.Put key value) (answers.Spent version) (hand_of c i p) (swapped (version == c.last_version) (version == count_of (key % c.buckets) p) w) refl (λ x. refl) })
point c p i (calls.Remove key) (answers.Done version clock) s t w l e h = inl (record { told = ap first_answer t; keeping = refl })
point c p i (calls.Remove key) answers.Full s t w l e h = inr (record { none = ap first_answer t; could = remove_full c p i key (l refl) })
point c p i (calls.Remove key) (answers.Absent version) s t w l e h = inr (record { none = ap first_answer t; could = bucket c p i (calls.Remove key) (answers.Absent version) (key % c.buckets) version (λ f. may_remove c key f (answers.Absent version)) (hand_of c i p) (first_of _ _ w) (and_own version _ (rest_of _ _ w)) (λ y. refl) (λ y. refl) (λ y. refl) })
point c p i (calls.Remove key) (answers.Spent version) s t w l e h = inr (record { none = ap first_answer t; could = now c p i (calls.Remove key) (answers.Spent version) (hand_of c i p) (remove_spent c p i (key % c.buckets) key version w) refl (λ x. refl) })
point c p i (calls.Enqueue value) (answers.Queued number) s t w l e h = inl (record { told = ap first_answer t; keeping = refl })
point c p i (calls.Enqueue value) answers.Full s t w l e h = inr (record { none = ap first_answer t; could = tested c p i (calls.Enqueue value) answers.Full (has_number c) (hand_of c i p) (l refl) (λ q x. x) (λ x. refl) (λ x. refl) })
point c p i (calls.Enqueue value) (answers.Spent number) s t w l e h = inr (record { none = ap first_answer t; could = now c p i (calls.Enqueue value) (answers.Spent number) (hand_of c i p) (swapped (number == c.last_version) (number == length (queued_of p)) w) refl (λ x. refl) })
point c p i calls.Dequeue (answers.Taken number value clock) s t w l e h = inl (record { told = ap first_answer t; keeping = refl })
point c p i calls.Dequeue answers.Empty s t w l e h = inr (record { none = ap first_answer t; could = tested c p i calls.Dequeue answers.Empty all_taken (hand_of c i p) (e refl refl) none_left (λ x. refl) (λ x. refl) })
point c p i (calls.Hold key) (answers.Holding slot) s t w l e h = inr (record { none = ap first_answer t; could = held_row c p i key slot h })
point c p i (calls.Hold key) answers.Nothing s t w l e h = inr (record { none = ap first_answer t; could = bucket c p i (calls.Hold key) answers.Nothing (key % c.buckets) 0 (λ f. may_hold f answers.Nothing) (with_kept 2 None (hand_of c i p)) (never p i (key % c.buckets) (rest_of (has_told i (is_null 2) p) (begun_at i (key % c.buckets) p == 0) w)) refl (λ y. refl) (λ y. refl) (λ y. refl) })
point c p i calls.Release answers.Released s t w l e h = inr (record { none = ap first_answer t; could = now c p i calls.Release answers.Released (HandAfter c p i calls.Release answers.Released) refl refl (λ x. refl) })
point c p i calls.Advance (answers.Clock clock) s t w l e h = inr (record { none = ap first_answer t; could = now c p i calls.Advance (timeless (answers.Clock clock)) (HandAfter c p i calls.Advance (answers.Clock clock)) refl refl (λ x. refl) })
point c p i calls.Scan (answers.Scanned kept back) s t w l e h = inr (record { none = ap first_answer t; could = now c p i calls.Scan (answers.Scanned kept back) (HandAfter c p i calls.Scan (answers.Scanned kept back)) refl refl (λ x. refl) })
point c p i (calls.Copy from index) (answers.Copied slot) s t w l e h = inr (record { none = ap first_answer t; could = now c p i (calls.Copy from index) (answers.Copied slot) (HandAfter c p i (calls.Copy from index) (answers.Copied slot)) h refl (λ x. refl) })
point c p i (calls.Copy from index) answers.Nothing s t w l e h = inr (record { none = ap first_answer t; could = now c p i (calls.Copy from index) answers.Nothing (HandAfter c p i (calls.Copy from index) answers.Nothing) h refl (λ x. refl) })
point c p i (calls.DropIndex index) answers.Dropped s t w l e h = inr (record { none = ap first_answer t; could = now c p i (calls.DropIndex index) answers.Dropped (HandAfter c p i (calls.DropIndex index) answers.Dropped) refl refl (λ x. refl) })
point c p i (calls.Look index key) (answers.Looked slot version value) s t w l e h = inr (record { none = ap first_answer t; could = now c p i (calls.Look index key) (answers.Looked slot version value) (HandAfter c p i (calls.Look index key) (answers.Looked slot version value)) h refl (λ x. refl) })
point c p i (calls.Look index key) answers.Nothing s t w l e h = inr (record { none = ap first_answer t; could = now c p i (calls.Look index key) answers.Nothing (HandAfter c p i (calls.Look index key) answers.Nothing) h refl (λ x. refl) })
point c p i (calls.PutIf key value wanted) (answers.Done version clock) s t w l e h = inl (record { told = ap first_answer t; keeping = refl })
point c p i (calls.PutIf key value wanted) (answers.Stale version) s t w l e h = inr (record { none = ap first_answer t; could = bucket c p i (calls.PutIf key value wanted) (answers.Stale version) (key % c.buckets) version (λ f. may_put_if c key wanted f (answers.Stale version)) (hand_of c i p) (first_of _ _ w) (and_own version _ (rest_of _ _ w)) (λ y. refl) (λ y. refl) (λ y. refl) })
point c p i (calls.PutIf key value wanted) answers.Full s t w l e h = inr (record { none = ap first_answer t; could = put_if_full c p i key value wanted (l refl) })
point c p i (calls.PutIf key value wanted) (answers.BucketFull version) s t w l e h = inr (record { none = ap first_answer t; could = wanted_full c p i key value wanted version w })
point c p i (calls.PutIf key value wanted) (answers.Spent version) s t w l e h = inr (record { none = ap first_answer t; could = now c p i (calls.PutIf key value wanted) (answers.Spent version) (hand_of c i p) (spent_wanted version wanted c.last_version (count_of (key % c.buckets) p) w) refl (λ x. refl) })
point c p i calls.Leave (answers.Left count) s t w l e h = inr (record { none = ap first_answer t; could = now c p i calls.Leave (answers.Left count) (HandAfter c p i calls.Leave (answers.Left count)) refl refl (λ x. refl) })
point c p i (calls.Adopt place) (answers.Adopted count) s t w l e h = inr (record { none = ap first_answer t; could = now c p i (calls.Adopt place) (answers.Adopted count) (HandAfter c p i (calls.Adopt place) (answers.Adopted count)) refl refl (λ x. refl) })
point c p i (calls.Adopt place) answers.NotLeft s t w l e h = inr (record { none = ap first_answer t; could = now c p i (calls.Adopt place) answers.NotLeft (HandAfter c p i (calls.Adopt place) answers.NotLeft) refl refl (λ x. refl) })
point c p i (calls.Adopt place) answers.AdoptedBefore s t w l e h = inr (record { none = ap first_answer t; could = now c p i (calls.Adopt place) answers.AdoptedBefore (HandAfter c p i (calls.Adopt place) answers.AdoptedBefore) refl refl (λ x. refl) })
point c p i call answer s t w l e h = absurd (cc)

pub ends : (c : Config) (p : Past) (i : ℕ) (answer : Answer) → (e : AtEnd c i p answer) → Ends c p i e.call answer
ends c p i answer e = point c p i e.call answer e.suits_it e.told e.why e.lacks e.empty e.hand
