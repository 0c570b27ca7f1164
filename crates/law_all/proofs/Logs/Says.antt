-- Where a call ends, its answer says what is so: by what the call has told, by its reason, and by what its hold has found.
use Rattle.std.proofs.Common.{ℕ, ◌≡◌, ◌≤◌, ◌<◌, ◌+◌, ◌-◌, ◌⊎◌, inl, inr, true, false, List, [], ◌∷◌, length, take, get_or, Bool, Option, Some, None, refl, sym, ap, ◌∙◌, subst, arith}
use Rattle.std.proofs.lemmas.List.{take_more}
use Rattle.std.specs.Prelude.{◌==◌, ◌&&◌, ◌||◌, not, nat_le, nat_lt, is_none, is_some}
use Rattle.std.proofs.lemmas.Bool.Decides.{nat_tests}
use Rattle.law_scans.proofs.laws.records.defs.Facts.{either_true, false_of_not, first_of, rest_of, number_is, le_of_test, same_number}
use Rattle.law_scans.proofs.laws.Along.{row_of}
use Rattle.law_scans.proofs.laws.records.defs.Values.{pairs_from-append, value_in-changed}
use Rattle.law_scans.specs.laws.defs.Events.{is_held, is_null}
use Rattle.law_scans.specs.laws.defs.Pairs.{Pair, changed, pairs_after, value_in, value_after}
use Rattle.law_scans.specs.laws.defs.declared.call.Answer.{Answer}
use Rattle.law_scans.specs.laws.defs.declared.call.Answer.TheVariants as answers
use Rattle.law_scans.specs.laws.defs.declared.call.Call.{Call}
use Rattle.law_scans.specs.laws.defs.declared.call.Call.TheVariants as calls
use Rattle.law_scans.specs.laws.defs.declared.call.ClockMove.{ClockMove}
use Rattle.law_scans.specs.laws.defs.declared.event.Event.{Event}
use Rattle.law_scans.specs.laws.defs.declared.event.Event.TheVariants as events
use Rattle.law_scans.specs.laws.defs.declared.fold.Change.{Change}
use Rattle.law_scans.specs.laws.defs.declared.fold.Change.TheVariants as changes
use Rattle.law_scans.specs.laws.words.declared.config.Config.{Config}
use Rattle.law_scans.specs.laws.AnswerLaw.{full_ok, shows_value, tells_none}
use Rattle.law_scans.specs.laws.HistoryAnswers.{look_reason, owes, put_if_reason, reason, same_told}
use Rattle.law_scans.specs.laws.ScanLaw.{guards}
use Rattle.law_scans.specs.laws.StateAt.{has_told, is_give, is_read, is_row, stood_at, taken_since, times}
use Rattle.law_scans.specs.laws.StructuresAt.{all_taken, begun_at, bucket_of, changes_of, count_of, had_version, is_there, pairs_at, queued_of, same_value, shows_of, RowShows, taken_of, value_at, was_current, was_empty}
use Rattle.law_scans.specs.laws.StructuresAt.RowShows.{LinkedAt, ShowsVersion, Unlinked}
use Rattle.law_scans.specs.laws.records.Record.{Past, begins}
use Rattle.law_scans.specs.laws.records.Record.Past.{Start, Then}
use Rattle.law_all.specs.Logs.Answered.{IsAbsent, IsCrowded, IsDone, IsDoneAt, IsEmpty, IsFull, IsFullAt, IsGot, IsKept, IsLast, IsLooked, IsQueued, IsRow, IsSpent, IsSpentAt, IsStale, Says, SaysOfRows, value_left}
use Rattle.law_all.specs.Logs.Versions.{AtMost, Counts, counts_of}
use Rattle.law_all.proofs.Logs.Answered.{empty_on}
use Rattle.law_all.proofs.Logs.Counts.{begun_counts, begun_most, begun_unless, most_same}
use Rattle.law_all.proofs.Logs.Grows.{grows_entry}
use Rattle.law_all.proofs.Logs.Heard.{AllHeard, ChangeHeard, QueuedHeard, heard_one, met_now, same_got, same_put, same_queued_event, same_removed, same_taken, value_of}
use Rattle.law_all.proofs.Logs.Lists.{AllTold, adopted_now, gone_now, handed_now, same_adopted, same_left, staying_now, taken_over, told_one}
use Rattle.law_all.proofs.Logs.Shows.{IsVersion}

bare_of : (x : Option ℕ) → is_none x ≡ true → x ≡ None
bare_of None h = refl
bare_of (Some n) h = absurd (cc)

none_of : (x : Option ℕ) → not (is_some x) ≡ true → x ≡ None
none_of None h = refl
none_of (Some n) h = absurd (cc)

lt_of_test : (n most : ℕ) → nat_lt n most ≡ true → n < most
lt_of_test n most h = grind (arith, nat_tests)

-- a change of its key leaves its value
put_left : (before : Option ℕ) (key value : ℕ) → value_after before (changes.Put key value) key ≡ Some value
put_left before key value = rw (same_number key) refl

removed_left : (before : Option ℕ) (key : ℕ) → value_after before (changes.Removed key) key ≡ None
removed_left before key = rw (same_number key) refl

-- the pairs of a version, by its change
pairs_made : (b version : ℕ) (p : Past) (change : Change) → 0 < version → version ≤ count_of b p → get_or (changes_of b p) (version - 1) change ≡ change → pairs_at b version p ≡ changed (pairs_at b (version - 1) p) change
pairs_made b version p change low most here =
    let cs : List Change = changes_of b p in
    let within : version - 1 < length cs = omega (arith, low, most) in
    let next : version ≡ version - 1 + 1 = omega (arith, low) in
    ap (λ (v : ℕ). pairs_after (take v cs)) next
    ∙ ap pairs_after (take_more cs (version - 1) change within)
    ∙ pairs_from-append [] (take (version - 1) cs) (get_or cs (version - 1) change ∷ [])
    ∙ ap (λ (c : Change). changed (pairs_after (take (version - 1) cs)) c) here

done_now : (c : Config) (from : Counts) (p : Past) (b key version : ℕ) (change : Change) → ChangeHeard c.buckets from p b key version change → ((before : Option ℕ) → value_after before change key ≡ value_left change) → nat_le version c.last_version ≡ true → IsDone c from p b key change version
done_now c from p b key version change h left most =
    let low : 0 < version = omega (arith, h.later) in
    let made : pairs_at b version p ≡ changed (pairs_at b (version - 1) p) change = pairs_made b version p change low h.met.until h.here in
    record {
      met = h.met;
      later = h.later;
      most = le_of_test version c.last_version most;
      pairs = made;
      value_is = ap (λ (ps : List Pair). value_in ps key) made ∙ value_in-changed (pairs_at b (version - 1) p) change key ∙ left (value_at b (version - 1) key p);
    }

put_now : (c : Config) (k : ℕ) (p : Past) (told : List Event) (key value version : ℕ) → same_told told (events.Put (bucket_of c.buckets key) version key value ∷ []) ≡ true → AllHeard c.buckets (begun_counts k p) p told → nat_le version c.last_version ≡ true
    → IsDone c (begun_counts k p) p (bucket_of c.buckets key) key (changes.Put key value) version
put_now c k p told key value version s a most =
    let b : ℕ = bucket_of c.buckets key in
    done_now c (begun_counts k p) p b key version (changes.Put key value) (heard_one c.buckets (begun_counts k p) p (events.Put b version key value) told (same_put b version key value) s a) (λ before. put_left before key value) most

remove_now : (c : Config) (k : ℕ) (p : Past) (told : List Event) (key version : ℕ) → same_told told (events.Removed (bucket_of c.buckets key) version key ∷ []) ≡ true → AllHeard c.buckets (begun_counts k p) p told → nat_le version c.last_version ≡ true
    → IsDone c (begun_counts k p) p (bucket_of c.buckets key) key (changes.Removed key) version
remove_now c k p told key version s a most =
    let b : ℕ = bucket_of c.buckets key in
    done_now c (begun_counts k p) p b key version (changes.Removed key) (heard_one c.buckets (begun_counts k p) p (events.Removed b version key) told (same_removed b version key) s a) (λ before. removed_left before key) most

got_now : (c : Config) (k : ℕ) (p : Past) (told : List Event) (key version : ℕ) (value : Option ℕ) → same_told told (events.Got (bucket_of c.buckets key) version key value ∷ []) ≡ true → AllHeard c.buckets (begun_counts k p) p told → IsGot (begun_counts k p) p (bucket_of c.buckets key) key version value
got_now c k p told key version value s a =
    let b : ℕ = bucket_of c.buckets key in
    (heard_one c.buckets (begun_counts k p) p (events.Got b version key value) told (same_got b version key value) s a).got

full_now : (c : Config) (k b key version : ℕ) (p : Past) → (was_current k b version p && (nat_lt version c.last_version && (length (pairs_at b version p) == c.pairs && not (is_there b version key p)))) ≡ true → IsFull c (begun_counts k p) p b key version
full_now c k b key version p h =
    let r = rest_of (was_current k b version p) (nat_lt version c.last_version && (length (pairs_at b version p) == c.pairs && not (is_there b version key p))) h in
    let s = rest_of (nat_lt version c.last_version) (length (pairs_at b version p) == c.pairs && not (is_there b version key p)) r in
    record {
      met = met_now k b version p (first_of (was_current k b version p) (nat_lt version c.last_version && (length (pairs_at b version p) == c.pairs && not (is_there b version key p))) h);
      early = lt_of_test version c.last_version (first_of (nat_lt version c.last_version) (length (pairs_at b version p) == c.pairs && not (is_there b version key p)) r);
      room = number_is (length (pairs_at b version p)) c.pairs (first_of (length (pairs_at b version p) == c.pairs) (not (is_there b version key p)) s);
      value_is = none_of (value_at b version key p) (rest_of (length (pairs_at b version p) == c.pairs) (not (is_there b version key p)) s);
    }

absent_now : (k b key version : ℕ) (p : Past) → (was_current k b version p && not (is_there b version key p)) ≡ true → IsAbsent (begun_counts k p) p b key version
absent_now k b key version p h = record {
  met = met_now k b version p (first_of (was_current k b version p) (not (is_there b version key p)) h);
  value_is = none_of (value_at b version key p) (rest_of (was_current k b version p) (not (is_there b version key p)) h);
}

spent_now : (c : Config) (k b version : ℕ) (p : Past) → (version == c.last_version) ≡ true → (version == count_of b p) ≡ true → AtMost (begun_counts k p) (counts_of p) → IsSpent c (begun_counts k p) p b version
spent_now c k b version p f h low =
    let e = number_is version (count_of b p) h in
    let l = low.versions b in
    record { met = record { since = omega (arith, e, l); until = omega (arith, e) }; final = number_is version c.last_version f }

spent_put : (c : Config) (k b version : ℕ) (p : Past) → (version == c.last_version && version == count_of b p) ≡ true → AtMost (begun_counts k p) (counts_of p) → IsSpent c (begun_counts k p) p b version
spent_put c k b version p h low = spent_now c k b version p (first_of (version == c.last_version) (version == count_of b p) h) (rest_of (version == c.last_version) (version == count_of b p) h) low

spent_remove : (c : Config) (k b key version : ℕ) (p : Past) → (version == c.last_version && (version == count_of b p && is_there b version key p)) ≡ true → AtMost (begun_counts k p) (counts_of p) → IsKept c (begun_counts k p) p b key version
spent_remove c k b key version p h low =
    let r = rest_of (version == c.last_version) (version == count_of b p && is_there b version key p) h in
    record {
      spent = spent_now c k b version p (first_of (version == c.last_version) (version == count_of b p && is_there b version key p) h) (first_of (version == count_of b p) (is_there b version key p) r) low;
      there = rest_of (version == count_of b p) (is_there b version key p) r;
    }

-- of a put at a version
done_at_now : (c : Config) (k key value wanted version : ℕ) (clock : ClockMove) (p : Past) (told : List Event)
    → same_told told (events.Put (bucket_of c.buckets key) version key value ∷ []) ≡ true → AllHeard c.buckets (begun_counts k p) p told
    → put_if_reason c k (bucket_of c.buckets key) key wanted p (answers.Done version clock) ≡ true
    → IsDoneAt c (begun_counts k p) p (bucket_of c.buckets key) key (changes.Put key value) wanted version
done_at_now c k key value wanted version clock p told s a r =
    let b : ℕ = bucket_of c.buckets key in
    let could : Bool = had_version b (version - 1) p && (is_there b (version - 1) key p || nat_lt (length (pairs_at b (version - 1) p)) c.pairs) in
    let most = rest_of (version == wanted + 1) (nat_le version c.last_version && could) r in
    record {
      done = put_now c k p told key value version s a (first_of (nat_le version c.last_version) could most);
      next = number_is version (wanted + 1) (first_of (version == wanted + 1) (nat_le version c.last_version && could) r);
    }

full_at_now : (c : Config) (k b key wanted version : ℕ) (p : Past) → put_if_reason c k b key wanted p (answers.BucketFull version) ≡ true
    → IsFullAt c (begun_counts k p) p b key wanted version
full_at_now c k b key wanted version p r =
    let full : Bool = was_current k b version p && (nat_lt version c.last_version && (length (pairs_at b version p) == c.pairs && not (is_there b version key p))) in
    record { full = full_now c k b key version p (rest_of (version == wanted) full r); same = number_is version wanted (first_of (version == wanted) full r) }

spent_at_now : (c : Config) (k b key wanted version : ℕ) (p : Past) → put_if_reason c k b key wanted p (answers.Spent version) ≡ true
    → AtMost (begun_counts k p) (counts_of p) → IsSpentAt c (begun_counts k p) p b wanted version
spent_at_now c k b key wanted version p r low =
    let spent : Bool = version == c.last_version && version == count_of b p in
    record { spent = spent_put c k b version p (rest_of (version == wanted) spent r) low; same = number_is version wanted (first_of (version == wanted) spent r) }

stale_now : (c : Config) (k b key wanted version : ℕ) (p : Past) → put_if_reason c k b key wanted p (answers.Stale version) ≡ true
    → IsStale (begun_counts k p) p b wanted version
stale_now c k b key wanted version p r = record {
  met = met_now k b version p (first_of (was_current k b version p) (not (version == wanted)) r);
  other = false_of_not (version == wanted) (rest_of (was_current k b version p) (not (version == wanted)) r);
}

-- what a look tells is what the row shows
record Shown (key slot version : ℕ) (value : Option ℕ) (p : Past) : Type 0 where
  bucket : ℕ
  shows : shows_of slot p ≡ ShowsVersion bucket version
  value_is : value ≡ value_at bucket version key p

shown_by : (key slot version : ℕ) (value : Option ℕ) (p : Past) (shows : RowShows) → shows_of slot p ≡ shows → shows_value version key value p shows ≡ true
    → Shown key slot version value p
shown_by key slot version value p Unlinked e h = absurd (cc)
shown_by key slot version value p (LinkedAt bucket) e h = absurd (cc)
shown_by key slot version value p (ShowsVersion bucket shown) e h =
    let same : version ≡ shown = number_is version shown (first_of (version == shown) (same_value value (value_at bucket shown key p)) h) in
    record {
      bucket = bucket;
      shows = e ∙ ap (ShowsVersion bucket) (sym same);
      value_is = value_of value (value_at bucket shown key p) (rest_of (version == shown) (same_value value (value_at bucket shown key p)) h)
          ∙ ap (λ (x : ℕ). value_at bucket x key p) (sym same);
    }

shown_now : (k index key slot version : ℕ) (value : Option ℕ) (p : Past) → look_reason k index key p (answers.Looked slot version value) ≡ true
    → Shown key slot version value p
shown_now k index key slot version value p r =
    shown_by key slot version value p (shows_of slot p) refl
    (rest_of (is_row slot (stood_at k index p)) (shows_value version key value p (shows_of slot p)) r)

looked_now : (k index key slot version : ℕ) (value : Option ℕ) (p : Past) → look_reason k index key p (answers.Looked slot version value) ≡ true
    → ((bucket shown : ℕ) → shows_of slot p ≡ ShowsVersion bucket shown → IsVersion bucket shown slot p) → IsLooked p key slot version value
looked_now k index key slot version value p r f =
    let s : Shown key slot version value p = shown_now k index key slot version value p r in
    let v = f s.bucket version s.shows in
    record { bucket = s.bucket; some = v.some; had = v.had; row_is = v.row_is; value_is = s.value_is }

queued_now : (c : Config) (from : Counts) (p : Past) (number value : ℕ) → nat_le number c.last_version ≡ true → QueuedHeard from p number value → IsQueued c from p value number
queued_now c from p number value most h = record { since = h.since; until = h.until; most = le_of_test number c.last_version most; value_is = h.value_is }

last_now : (c : Config) (k number : ℕ) (p : Past) → (number == c.last_version && number == length (queued_of p)) ≡ true → AtMost (begun_counts k p) (counts_of p) → IsLast c (begun_counts k p) p number
last_now c k number p h low =
    let e = number_is number (length (queued_of p)) (rest_of (number == c.last_version) (number == length (queued_of p)) h) in
    record { since = omega (arith, low.queued, e); until = omega (arith, e); final = number_is number c.last_version (first_of (number == c.last_version) (number == length (queued_of p)) h) }

-- where a call finds the queue empty, it was so at a position of the call
empty_entry : (k i : ℕ) (p : Past) (event : Event) → (all_taken (Then p i event) ≡ true) ⊎ ((not (begins k p i event) && was_empty k p) ≡ true) → (was_empty k p ≡ true → IsEmpty (begun_counts k p) p) → IsEmpty (begun_counts k (Then p i event)) (Then p i event)
empty_entry k i p event (inl h) f = record {
  at = Then p i event;
  later = [];
  cut = refl;
  since = begun_most k (Then p i event);
  all = number_is (taken_of (Then p i event)) (length (queued_of (Then p i event))) h;
}
empty_entry k i p event (inr h) f =
    let e : begins k p i event ≡ false = false_of_not (begins k p i event) (first_of (not (begins k p i event)) (was_empty k p) h) in
    subst (λ (x : Counts). IsEmpty x (Then p i event)) (sym (begun_unless k i p event e))
    (empty_on (begun_counts k p) (begun_counts k p) p (Then p i event) (most_same (begun_counts k p)) (grows_entry p i event) (f (rest_of (not (begins k p i event)) (was_empty k p) h)))

empty_now : (k : ℕ) (p : Past) → was_empty k p ≡ true → IsEmpty (begun_counts k p) p
empty_now k Start h = record { at = Start; later = []; cut = refl; since = most_same (counts_of Start); all = refl }
empty_now k (Then p i event) h =
    empty_entry k i p event (either_true (all_taken (Then p i event)) (not (begins k p i event) && was_empty k p) h) (empty_now k p)

-- by call and answer
pub says_now : (c : Config) (k : ℕ) (p : Past) (call : Call) (answer : Answer) (told : List Event) → same_told told (owes c.buckets call answer) ≡ true → reason c k p (Some call) answer ≡ true → AtMost (begun_counts k p) (counts_of p) → AllHeard c.buckets (begun_counts k p) p told
    → ((key slot : ℕ) → call ≡ calls.Hold key → has_told k (is_held 2 slot) p ≡ true → IsRow (begun_counts k p) p (bucket_of c.buckets key) slot)
    → AllTold k p told → ((slot bucket version : ℕ) → shows_of slot p ≡ ShowsVersion bucket version → IsVersion bucket version slot p) → Says c (begun_counts k p) p call answer
says_now c k p (calls.Get key) (answers.Got version value) told s r low a f t v = got_now c k p told key version value s a
says_now c k p (calls.Put key value) (answers.Done version clock) told s r low a f t v =
    let b : ℕ = bucket_of c.buckets key in
    put_now c k p told key value version s a (first_of (nat_le version c.last_version) (had_version b (version - 1) p && (is_there b (version - 1) key p || nat_lt (length (pairs_at b (version - 1) p)) c.pairs)) r)
says_now c k p (calls.Put key value) (answers.BucketFull version) told s r low a f t v = full_now c k (bucket_of c.buckets key) key version p r
says_now c k p (calls.Put key value) (answers.Spent version) told s r low a f t v = spent_put c k (bucket_of c.buckets key) version p r low
says_now c k p (calls.PutIf key value wanted) (answers.Done version clock) told s r low a f t v = done_at_now c k key value wanted version clock p told s a r
says_now c k p (calls.PutIf key value wanted) (answers.BucketFull version) told s r low a f t v = full_at_now c k (bucket_of c.buckets key) key wanted version p r
says_now c k p (calls.PutIf key value wanted) (answers.Spent version) told s r low a f t v = spent_at_now c k (bucket_of c.buckets key) key wanted version p r low
says_now c k p (calls.PutIf key value wanted) (answers.Stale version) told s r low a f t v = stale_now c k (bucket_of c.buckets key) key wanted version p r
says_now c k p (calls.Look index key) (answers.Looked slot version value) told s r low a f t v = looked_now k index key slot version value p r (v slot)
says_now c k p (calls.Remove key) (answers.Done version clock) told s r low a f t v =
    let b : ℕ = bucket_of c.buckets key in
    remove_now c k p told key version s a (first_of (nat_le version c.last_version) (had_version b (version - 1) p && is_there b (version - 1) key p) r)
says_now c k p (calls.Remove key) (answers.Absent version) told s r low a f t v = absent_now k (bucket_of c.buckets key) key version p r
says_now c k p (calls.Remove key) (answers.Spent version) told s r low a f t v = spent_remove c k (bucket_of c.buckets key) key version p r low
says_now c k p (calls.Enqueue value) (answers.Queued number) told s r low a f t v = queued_now c (begun_counts k p) p number value r (heard_one c.buckets (begun_counts k p) p (events.Queued number value) told (same_queued_event number value) s a)
says_now c k p (calls.Enqueue value) (answers.Spent number) told s r low a f t v = last_now c k number p r low
says_now c k p calls.Dequeue (answers.Taken number value clock) told s r low a f t v = heard_one c.buckets (begun_counts k p) p (events.Taken number value) told (same_taken number value) s a
says_now c k p calls.Dequeue answers.Empty told s r low a f t v = empty_now k p (first_of (was_empty k p) (has_told k (is_null 1) p) r)
says_now c k p (calls.Hold key) (answers.Holding slot) told s r low a f t v = f key slot refl (first_of (has_told k (is_held 2 slot) p) (is_row slot (stood_at k 2 p)) r)
says_now c k p (calls.Hold key) answers.Nothing told s r low a f t v =
    let b : ℕ = bucket_of c.buckets key in
    number_is (begun_at k b p) 0 (rest_of (has_told k (is_null 2) p) (begun_at k b p == 0) r)
says_now c k p (calls.Adopt place) (answers.Adopted count) told s r low a f t v = handed_now k p place count (told_one k p (events.Adopted place count) told (same_adopted place count) s t)
says_now c k p (calls.Adopt place) answers.NotLeft told s r low a f t v = staying_now k p place r
says_now c k p (calls.Adopt place) answers.AdoptedBefore told s r low a f t v = adopted_now k place p r
says_now c k p call answer told s r low a f t v = tt

-- what it says of rows
crowded_now : (c : Config) (k : ℕ) (p : Past) → ((s : ℕ) → s ≤ c.slots → (not (has_told k is_give p) && (times k is_read p == guards c && taken_since c.slots k s p)) ≡ true) → IsCrowded c k p
crowded_now c k p f =
    let one = f 0 (omega arith) in
    let rest = rest_of (not (has_told k is_give p)) (times k is_read p == guards c && taken_since c.slots k 0 p) one in
    record {
      given = false_of_not (has_told k is_give p) (first_of (not (has_told k is_give p)) (times k is_read p == guards c && taken_since c.slots k 0 p) one);
      reads = number_is (times k is_read p) (guards c) (first_of (times k is_read p == guards c) (taken_since c.slots k 0 p) rest);
      taken = λ s low. rest_of (times k is_read p == guards c) (taken_since c.slots k s p) (rest_of (not (has_told k is_give p)) (times k is_read p == guards c && taken_since c.slots k s p) (f s low));
    }

pub rows_now : (c : Config) (k steps : ℕ) (p : Past) (call : Call) (answer : Answer) (told : List Event) → same_told told (owes c.buckets call answer) ≡ true → reason c k p (Some call) answer ≡ true → AllTold k p told → ((s : ℕ) → s ≤ c.slots → full_ok c s p k (events.End steps answer) ≡ true) → SaysOfRows c k p call answer
rows_now c k steps p (calls.Put key value) answers.Full told s r t f = crowded_now c k p f
rows_now c k steps p (calls.PutIf key value wanted) answers.Full told s r t f = crowded_now c k p f
rows_now c k steps p (calls.Remove key) answers.Full told s r t f = crowded_now c k p f
rows_now c k steps p (calls.Enqueue value) answers.Full told s r t f = crowded_now c k p f
rows_now c k steps p (calls.Hold key) (answers.Holding slot) told s r t f = record {
  told = first_of (has_told k (is_held 2 slot) p) (is_row slot (stood_at k 2 p)) r;
  stands = row_of slot (stood_at k 2 p) (rest_of (has_told k (is_held 2 slot) p) (is_row slot (stood_at k 2 p)) r);
}
rows_now c k steps p calls.Release answers.Released told s r t f = bare_of (stood_at k 2 p) r
rows_now c k steps p (calls.DropIndex index) answers.Dropped told s r t f = bare_of (stood_at k index p) r
rows_now c k steps p (calls.Copy from index) (answers.Copied slot) told s r t f = record {
  stood = row_of slot (stood_at k from p) (first_of (is_row slot (stood_at k from p)) (is_row slot (stood_at k index p)) r);
  stands = row_of slot (stood_at k index p) (rest_of (is_row slot (stood_at k from p)) (is_row slot (stood_at k index p)) r);
}
rows_now c k steps p (calls.Copy from index) answers.Nothing told s r t f = bare_of (stood_at k from p) (first_of (is_none (stood_at k from p)) (tells_none k p) r)
rows_now c k steps p (calls.Look index key) (answers.Looked slot version value) told s r t f =
    let x : Shown key slot version value p = shown_now k index key slot version value p r in
    record {
      bucket = x.bucket;
      stands = row_of slot (stood_at k index p) (first_of (is_row slot (stood_at k index p)) (shows_value version key value p (shows_of slot p)) r);
      shows = x.shows;
      value_is = x.value_is;
    }
rows_now c k steps p (calls.Look index key) answers.Nothing told s r t f = bare_of (stood_at k index p) r
rows_now c k steps p calls.Leave (answers.Left count) told s r t f = gone_now c k p count (told_one k p (events.Left count) told (same_left count) s t) r
rows_now c k steps p (calls.Adopt place) (answers.Adopted count) told s r t f = taken_over k p place count (told_one k p (events.Adopted place count) told (same_adopted place count) s t)
rows_now c k steps p (calls.Adopt place) answers.NotLeft told s r t f = r
rows_now c k steps p (calls.Adopt place) answers.AdoptedBefore told s r t f = r
rows_now c k steps p call answer told s r t f = tt
