-- What an answer says stays so in a later record, and by lower counts at the call's beginning.
use Rattle.std.proofs.Common.{ℕ, ◌≡◌, ◌≤◌, ◌<◌, ◌-◌, ◌++◌, Bool, true, false, List, [], ◌∷◌, Option, length, refl, sym, ap, ◌∙◌, arith}
use Rattle.law_scans.specs.laws.defs.Pairs.{Pair, changed, pairs_after, value_in}
use Rattle.law_scans.specs.laws.defs.declared.call.Answer.{Answer}
use Rattle.law_scans.specs.laws.defs.declared.call.Answer.TheVariants as answers
use Rattle.law_scans.specs.laws.defs.declared.call.Call.{Call}
use Rattle.law_scans.specs.laws.defs.declared.call.Call.TheVariants as calls
use Rattle.law_scans.specs.laws.defs.declared.fold.Change.{Change}
use Rattle.law_scans.specs.laws.defs.declared.fold.Change.TheVariants as changes
use Rattle.law_scans.specs.laws.words.declared.config.Config.{Config}
use Rattle.law_scans.specs.laws.Lists.{adopts, has_left, is_adopted, is_left}
use Rattle.law_scans.specs.laws.StructuresAt.{bucket_of, count_of, pairs_at, queued_of, value_at}
use Rattle.std.specs.Prelude.{◌==◌, ◌&&◌, ◌||◌, is_some}
use Rattle.law_scans.specs.laws.defs.Entry.{Entry}
use Rattle.law_scans.specs.laws.records.Record.{Past, tells}
use Rattle.law_scans.specs.laws.records.Record.Past.{Then}
use Rattle.law_all.specs.Logs.Answered.{IsAbsent, IsDone, IsDoneAt, IsEmpty, IsFull, IsFullAt, IsGot, IsKept, IsLast, IsLooked, IsMet, IsQueued, IsRow, IsSpent, IsSpentAt, IsStale, IsStaying, IsTaken, Says}
use Rattle.law_all.specs.Logs.Versions.{AtMost, Counts, counts_of}
use Rattle.law_all.proofs.Logs.Counts.{most_along}
use Rattle.law_all.proofs.Logs.Grows.{Grows, more_count, more_queued, same_changes, same_queued, same_row, tells_along}

pub pairs_on : (b version : ℕ) (p q : Past) → Grows p q → version ≤ count_of b p → pairs_at b version q ≡ pairs_at b version p
pairs_on b version p q g h = ap pairs_after (same_changes b version p q g h)

pub value_on : (b version key : ℕ) (p q : Past) → Grows p q → version ≤ count_of b p → value_at b version key q ≡ value_at b version key p
value_on b version key p q g h = ap (λ (ps : List Pair). value_in ps key) (pairs_on b version p q g h)

pub met_on : (low from : Counts) (p q : Past) (b version : ℕ) → AtMost low from → Grows p q → IsMet from p b version → IsMet low q b version
met_on low from p q b version a g s = let l = a.versions b in let m = more_count b p q g in record { since = omega (arith, l, s.since); until = omega (arith, m, s.until) }

pub got_on : (low from : Counts) (p q : Past) (b key version : ℕ) (value : Option ℕ) → AtMost low from → Grows p q → IsGot from p b key version value → IsGot low q b key version value
got_on low from p q b key version value a g s = record { met = met_on low from p q b version a g s.met; value_is = s.value_is ∙ sym (value_on b version key p q g s.met.until) }

done_on : (c : Config) (low from : Counts) (p q : Past) (b key : ℕ) (change : Change) (version : ℕ) → AtMost low from → Grows p q → IsDone c from p b key change version → IsDone c low q b key change version
done_on c low from p q b key change version a g s =
    let l = a.versions b in
    let u : version ≤ count_of b p = s.met.until in
    let before : version - 1 ≤ count_of b p = omega (arith, u) in
    record {
      met = met_on low from p q b version a g s.met;
      later = omega (arith, l, s.later);
      most = s.most;
      pairs = pairs_on b version p q g u ∙ s.pairs ∙ ap (λ (ps : List Pair). changed ps change) (sym (pairs_on b (version - 1) p q g before));
      value_is = value_on b version key p q g u ∙ s.value_is;
    }

full_on : (c : Config) (low from : Counts) (p q : Past) (b key version : ℕ) → AtMost low from → Grows p q → IsFull c from p b key version → IsFull c low q b key version
full_on c low from p q b key version a g s = record {
  met = met_on low from p q b version a g s.met;
  early = s.early;
  room = ap (λ (ps : List Pair). length ps) (pairs_on b version p q g s.met.until) ∙ s.room;
  value_is = value_on b version key p q g s.met.until ∙ s.value_is;
}

done_at_on : (c : Config) (low from : Counts) (p q : Past) (b key : ℕ) (change : Change) (wanted version : ℕ) → AtMost low from → Grows p q
    → IsDoneAt c from p b key change wanted version → IsDoneAt c low q b key change wanted version
done_at_on c low from p q b key change wanted version a g s = record { done = done_on c low from p q b key change version a g s.done; next = s.next }

full_at_on : (c : Config) (low from : Counts) (p q : Past) (b key wanted version : ℕ) → AtMost low from → Grows p q → IsFullAt c from p b key wanted version
    → IsFullAt c low q b key wanted version
full_at_on c low from p q b key wanted version a g s = record { full = full_on c low from p q b key version a g s.full; same = s.same }

stale_on : (low from : Counts) (p q : Past) (b wanted version : ℕ) → AtMost low from → Grows p q → IsStale from p b wanted version → IsStale low q b wanted version
stale_on low from p q b wanted version a g s = record { met = met_on low from p q b version a g s.met; other = s.other }

looked_on : (p q : Past) (key slot version : ℕ) (value : Option ℕ) → Grows p q → IsLooked p key slot version value → IsLooked q key slot version value
looked_on p q key slot version value g s =
    let m = more_count s.bucket p q g in
    record {
      bucket = s.bucket;
      some = s.some;
      had = omega (arith, m, s.had);
      row_is = same_row s.bucket version p q g s.had ∙ s.row_is;
      value_is = s.value_is ∙ sym (value_on s.bucket version key p q g s.had);
    }

absent_on : (low from : Counts) (p q : Past) (b key version : ℕ) → AtMost low from → Grows p q → IsAbsent from p b key version → IsAbsent low q b key version
absent_on low from p q b key version a g s = record { met = met_on low from p q b version a g s.met; value_is = value_on b version key p q g s.met.until ∙ s.value_is }

spent_on : (c : Config) (low from : Counts) (p q : Past) (b version : ℕ) → AtMost low from → Grows p q → IsSpent c from p b version → IsSpent c low q b version
spent_on c low from p q b version a g s = record { met = met_on low from p q b version a g s.met; final = s.final }

spent_at_on : (c : Config) (low from : Counts) (p q : Past) (b wanted version : ℕ) → AtMost low from → Grows p q → IsSpentAt c from p b wanted version
    → IsSpentAt c low q b wanted version
spent_at_on c low from p q b wanted version a g s = record { spent = spent_on c low from p q b version a g s.spent; same = s.same }

kept_on : (c : Config) (low from : Counts) (p q : Past) (b key version : ℕ) → AtMost low from → Grows p q → IsKept c from p b key version → IsKept c low q b key version
kept_on c low from p q b key version a g s = record {
  spent = spent_on c low from p q b version a g s.spent;
  there = ap (λ (x : Option ℕ). is_some x) (value_on b version key p q g s.spent.met.until) ∙ s.there;
}

queued_on : (c : Config) (low from : Counts) (p q : Past) (value number : ℕ) → AtMost low from → Grows p q → IsQueued c from p value number → IsQueued c low q value number
queued_on c low from p q value number a g s =
    let m = more_queued p q g in
    let within : number - 1 < length (queued_of p) = omega (arith, s.since, s.until) in
    record { since = omega (arith, a.queued, s.since); until = omega (arith, m, s.until); most = s.most; value_is = s.value_is ∙ sym (same_queued (number - 1) p q g within) }

last_on : (c : Config) (low from : Counts) (p q : Past) (number : ℕ) → AtMost low from → Grows p q → IsLast c from p number → IsLast c low q number
last_on c low from p q number a g s = let m = more_queued p q g in record { since = omega (arith, a.queued, s.since); until = omega (arith, m, s.until); final = s.final }

pub taken_on : (low from : Counts) (p q : Past) (number value : ℕ) → AtMost low from → Grows p q → IsTaken from p number value → IsTaken low q number value
taken_on low from p q number value a g s =
    let m = more_queued p q g in
    let within : number - 1 < length (queued_of p) = omega (arith, s.since, s.queued) in
    record {
      since = omega (arith, a.taken, s.since);
      until = omega (arith, g.taken, s.until);
      queued = omega (arith, m, s.queued);
      value_is = s.value_is ∙ sym (same_queued (number - 1) p q g within);
    }

pub empty_on : (low from : Counts) (p q : Past) → AtMost low from → Grows p q → IsEmpty from p → IsEmpty low q
empty_on low from p q a g s =
    let e = g.entries in
    record {
      at = s.at;
      later = s.later ++ e.0;
      cut = e.1 ∙ ap (λ (x : Past). tells x e.0) s.cut ∙ sym (tells_along s.later e.0 s.at);
      since = most_along low from (counts_of s.at) a s.since;
      all = s.all;
    }

pub row_on : (low from : Counts) (p q : Past) (b slot : ℕ) → AtMost low from → Grows p q → IsRow from p b slot → IsRow low q b slot
row_on low from p q b slot a g s = record { version = s.version; met = met_on low from p q b s.version a g s.met; row_is = same_row b s.version p q g s.met.until ∙ s.row_is }

none_on : (low from : ℕ) → low ≤ from → from ≡ 0 → low ≡ 0
none_on low from h e = omega (arith, h, e)

-- a seat that left stays so, and so does a list that was taken over
or_more : (a b : Bool) → b ≡ true → (a || b) ≡ true
or_more true b h = refl
or_more false b h = h

pub left_tells : (place : ℕ) (xs : List Entry) (p : Past) → has_left place p ≡ true → has_left place (tells p xs) ≡ true
left_tells place [] p h = h
left_tells place (x ∷ xs) p h = left_tells place xs (Then p x.seat x.event) (or_more (is_left x.event && place == x.seat) (has_left place p) h)

pub adopted_tells : (place : ℕ) (xs : List Entry) (p : Past) → is_adopted place p ≡ true → is_adopted place (tells p xs) ≡ true
adopted_tells place [] p h = h
adopted_tells place (x ∷ xs) p h = adopted_tells place xs (Then p x.seat x.event) (or_more (adopts place x.event) (is_adopted place p) h)

pub left_on : (place : ℕ) (p q : Past) → Grows p q → has_left place p ≡ true → has_left place q ≡ true
left_on place p q g h = let e = g.entries in ap (has_left place) e.1 ∙ left_tells place e.0 p h

pub adopted_on : (place : ℕ) (p q : Past) → Grows p q → is_adopted place p ≡ true → is_adopted place q ≡ true
adopted_on place p q g h = let e = g.entries in ap (is_adopted place) e.1 ∙ adopted_tells place e.0 p h

pub staying_on : (low from : Counts) (p q : Past) (place : ℕ) → AtMost low from → Grows p q → IsStaying from p place → IsStaying low q place
staying_on low from p q place a g s =
    let e = g.entries in
    record {
      at = s.at;
      later = s.later ++ e.0;
      cut = e.1 ∙ ap (λ (x : Past). tells x e.0) s.cut ∙ sym (tells_along s.later e.0 s.at);
      since = most_along low from (counts_of s.at) a s.since;
      stays = s.stays;
    }

pub says_on : (c : Config) (low from : Counts) (p q : Past) (call : Call) (answer : Answer) → AtMost low from → Grows p q → Says c from p call answer → Says c low q call answer
says_on c low from p q (calls.Get key) (answers.Got version value) a g s = got_on low from p q (bucket_of c.buckets key) key version value a g s
says_on c low from p q (calls.Put key value) (answers.Done version clock) a g s = done_on c low from p q (bucket_of c.buckets key) key (changes.Put key value) version a g s
says_on c low from p q (calls.Put key value) (answers.BucketFull version) a g s = full_on c low from p q (bucket_of c.buckets key) key version a g s
says_on c low from p q (calls.Put key value) (answers.Spent version) a g s = spent_on c low from p q (bucket_of c.buckets key) version a g s
says_on c low from p q (calls.PutIf key value wanted) (answers.Done version clock) a g s = done_at_on c low from p q (bucket_of c.buckets key) key (changes.Put key value) wanted version a g s
says_on c low from p q (calls.PutIf key value wanted) (answers.BucketFull version) a g s = full_at_on c low from p q (bucket_of c.buckets key) key wanted version a g s
says_on c low from p q (calls.PutIf key value wanted) (answers.Spent version) a g s = spent_at_on c low from p q (bucket_of c.buckets key) wanted version a g s
says_on c low from p q (calls.PutIf key value wanted) (answers.Stale version) a g s = stale_on low from p q (bucket_of c.buckets key) wanted version a g s
says_on c low from p q (calls.Look index key) (answers.Looked slot version value) a g s = looked_on p q key slot version value g s
says_on c low from p q (calls.Remove key) (answers.Done version clock) a g s = done_on c low from p q (bucket_of c.buckets key) key (changes.Removed key) version a g s
says_on c low from p q (calls.Remove key) (answers.Absent version) a g s = absent_on low from p q (bucket_of c.buckets key) key version a g s
says_on c low from p q (calls.Remove key) (answers.Spent version) a g s = kept_on c low from p q (bucket_of c.buckets key) key version a g s
says_on c low from p q (calls.Enqueue value) (answers.Queued number) a g s = queued_on c low from p q value number a g s
says_on c low from p q (calls.Enqueue value) (answers.Spent number) a g s = last_on c low from p q number a g s
says_on c low from p q calls.Dequeue (answers.Taken number value clock) a g s = taken_on low from p q number value a g s
says_on c low from p q calls.Dequeue answers.Empty a g s = empty_on low from p q a g s
says_on c low from p q (calls.Hold key) (answers.Holding slot) a g s = row_on low from p q (bucket_of c.buckets key) slot a g s
says_on c low from p q (calls.Hold key) answers.Nothing a g s = none_on (low.versions (bucket_of c.buckets key)) (from.versions (bucket_of c.buckets key)) (a.versions (bucket_of c.buckets key)) s
says_on c low from p q (calls.Adopt place) (answers.Adopted count) a g s = record { left = left_on place p q g s.left; adopted = adopted_on place p q g s.adopted }
says_on c low from p q (calls.Adopt place) answers.NotLeft a g s = staying_on low from p q place a g s
says_on c low from p q (calls.Adopt place) answers.AdoptedBefore a g s = adopted_on place p q g s
says_on c low from p q call answer a g s = tt
