-- What a record shows of a call it goes on to show, until the seat begins another; and so the reason of an answer lasts.
use Rattle.std.proofs.Common.{ℕ, ◌≡◌, ◌≤◌, ◌+◌, ◌-◌, Bool, true, false, List, [], ◌∷◌, ◌++◌, length, take, refl, sym, ap, ◌∙◌, subst, arith}
use Rattle.std.proofs.lemmas.Bool.Decides.{nat_tests}
use Rattle.std.proofs.lemmas.List.{append-nil, append_assoc, length-append, take-append-le}
use Rattle.std.specs.Prelude.{◌==◌, ◌&&◌, ◌||◌, nat_le, nat_lt, not, is_some, Some, if◌then◌else◌}
use Rattle.law_scans.specs.inv.model.words.declared.config.Config.{Config}
use Rattle.law_scans.specs.inv.model.defs.Pairs.{pairs_after, value_in}
use Rattle.law_scans.specs.inv.model.defs.declared.call.Answer.{Answer}
use Rattle.law_scans.specs.inv.model.defs.declared.call.Answer.TheVariants as answers
use Rattle.law_scans.specs.inv.model.defs.declared.call.Call.{Call}
use Rattle.law_scans.specs.inv.model.defs.declared.call.Call.TheVariants as calls
use Rattle.law_scans.specs.inv.model.defs.declared.event.Event.{Event}
use Rattle.law_scans.specs.inv.model.defs.declared.event.Event.TheVariants as events
use Rattle.law_scans.specs.inv.model.defs.declared.fold.Change.{Change}
use Rattle.law_scans.specs.inv.model.defs.declared.fold.Change.TheVariants as the_changes
use Rattle.law_scans.proofs.inv.model.Facts.{both, first_of, rest_of}
use Rattle.law_scans.specs.laws.StateAt.{has_told}
use Rattle.law_scans.specs.laws.StructuresAt.{was_current, bucket_of, changes_of, count_of, with_change, queued_of, all_taken, begun_at, had_version, is_there, pairs_at, was_empty}
use Rattle.law_scans.specs.inv.history.Record.{Past, begins, own, told_since, tells_of}
use Rattle.law_scans.specs.inv.history.Record.Past.{Then}
use Rattle.law_scans.proofs.inv.history.AllOf.{all_of}
use Rattle.law_scans.proofs.inv.Machines.{is_within, within_begins}
use Rattle.law_scans.specs.inv.model.defs.Events.{is_null}
use Rattle.law_scans.specs.laws.AnswerLaw.{adopt_reason, enqueue_reason}
use Rattle.law_scans.specs.laws.HistoryAnswers.{put_reason, put_if_reason, remove_reason, dequeue_reason, hold_reason, release_reason, copy_reason, drop_reason, leave_reason, look_reason, reason}

-- q comes after p in the same call of seat i
pub record Later (i : ℕ) (p q : Past) : Type 0 where
  pub changes : (b : ℕ) → (more : List Change) × (changes_of b q ≡ changes_of b p ++ more)
  pub begun : (b : ℕ) → begun_at i b q ≡ begun_at i b p
  pub queued : (more : List ℕ) × (queued_of q ≡ queued_of p ++ more)
  pub empty : was_empty i p ≡ true → was_empty i q ≡ true
  pub told : (kind : Event → Bool) → has_told i kind p ≡ true → has_told i kind q ≡ true

pub later_same : (i : ℕ) (p : Past) → Later i p p
later_same i p = record { changes = λ b. ([], sym (append-nil (changes_of b p))); begun = λ b. refl; queued = ([], sym (append-nil (queued_of p))); empty = λ h. h; told = λ kind h. h }

-- one entry more
one_change : (b : ℕ) (before : List Change) (event : Event) → (more : List Change) × (with_change b before event ≡ before ++ more)
one_change b before (events.Put bucket version key value) = at_bucket (b == bucket)
  where
    at_bucket : (same : Bool) → (more : List Change) × ((if same then before ++ the_changes.Put key value ∷ [] else before) ≡ before ++ more)
    at_bucket true = (the_changes.Put key value ∷ [], refl)
    at_bucket false = ([], sym (append-nil before))
one_change b before (events.Removed bucket version key) = at_bucket (b == bucket)
  where
    at_bucket : (same : Bool) → (more : List Change) × ((if same then before ++ the_changes.Removed key ∷ [] else before) ≡ before ++ more)
    at_bucket true = (the_changes.Removed key ∷ [], refl)
    at_bucket false = ([], sym (append-nil before))
one_change b before event = ([], sym (append-nil before))

one_queued : (p : Past) (k : ℕ) (event : Event) → (more : List ℕ) × (queued_of (Then p k event) ≡ queued_of p ++ more)
one_queued p k (events.Queued number value) = (value ∷ [], refl)
one_queued p k event = ([], sym (append-nil (queued_of p)))

either : (new still old : Bool) → still ≡ true → old ≡ true → (new || (still && old)) ≡ true
either true still old h k = refl
either false still old h k = both still old h k

one_empty : (i k : ℕ) (p : Past) (event : Event) → begins i p k event ≡ false → was_empty i p ≡ true → was_empty i (Then p k event) ≡ true
one_empty i k p event n h = let g : not (begins i p k event) ≡ true = rw n refl in either (all_taken (Then p k event)) (not (begins i p k event)) (was_empty i p) g h

counts_on : (n : ℕ) (begins counts : Bool) → begins ≡ false → nat_lt 0 n ≡ true → nat_lt 0 (if begins then 0 else if counts then n + 1 else n) ≡ true
counts_on n true counts h k = absurd (cc)
counts_on n false true h k = grind (arith, nat_tests)
counts_on n false false h k = k

one_told : (i k : ℕ) (p : Past) (event : Event) (kind : Event → Bool) → begins i p k event ≡ false → has_told i kind p ≡ true → has_told i kind (Then p k event) ≡ true
one_told i k p event kind n h = counts_on (told_since (begins i) (own i kind) p) (begins i p k event) (own i kind p k event) n h

pub later_then : (i k : ℕ) (p q : Past) (event : Event) → begins i q k event ≡ false → Later i p q → Later i p (Then q k event)
later_then i k p q event n h = record {
  changes = λ b.
      let one = one_change b (changes_of b q) event in
      let old = h.changes b in
      (old.0 ++ one.0, one.1 ∙ ap (λ (all : List Change). all ++ one.0) old.1 ∙ append_assoc (changes_of b p) old.0 one.0);
  begun = λ b. rw n (h.begun b);
  queued =
      let one = one_queued q k event in
      let old = h.queued in
      (old.0 ++ one.0, one.1 ∙ ap (λ (all : List ℕ). all ++ one.0) old.1 ∙ append_assoc (queued_of p) old.0 one.0);
  empty = λ e. one_empty i k q event n (h.empty e);
  told = λ kind e. one_told i k q event kind n (h.told kind e);
}

-- what a step tells begins no call
pub later_all : (i k : ℕ) (p q : Past) (told : List Event) → all_of is_within told ≡ true → Later i p q → Later i p (tells_of q k told)
later_all i k p q [] h l = l
later_all i k p q (event ∷ told) h l = later_all i k p (Then q k event) told (rest_of (is_within event) (all_of is_within told) h) (later_then i k p q event (within_begins i k q event (first_of (is_within event) (all_of is_within told) h)) l)

-- versions and numbers do not run out
pub record Bounds (c : Config) (q : Past) : Type 0 where
  pub versions : (b : ℕ) → count_of b q ≤ c.last_version
  pub numbers : length (queued_of q) ≤ c.last_version

pub more_count : (i b : ℕ) (p q : Past) → Later i p q → count_of b p ≤ count_of b q
more_count i b p q l = let m = l.changes b in let e = ap length m.1 in let s = length-append (changes_of b p) m.0 in omega arith

pub more_queued : (i : ℕ) (p q : Past) → Later i p q → length (queued_of p) ≤ length (queued_of q)
more_queued i p q l = let m = l.queued in let e = ap length m.1 in let s = length-append (queued_of p) m.0 in omega arith

pub had_later : (i b version : ℕ) (p q : Past) → Later i p q → had_version b version p ≡ true → had_version b version q ≡ true
had_later i b version p q l h = let m = more_count i b p q l in grind (arith, nat_tests)

-- the changes up to a version that there was stay
pub same_changes : (i b version : ℕ) (p q : Past) → Later i p q → had_version b version p ≡ true → take version (changes_of b q) ≡ take version (changes_of b p)
same_changes i b version p q l h =
    let m = l.changes b in
    let low : version ≤ length (changes_of b p) = grind (arith, nat_tests) in
    ap (λ (all : List Change). take version all) m.1 ∙ take-append-le version (changes_of b p) m.0 low

current_later : (i b version : ℕ) (p q : Past) → Later i p q → was_current i b version p ≡ true → was_current i b version q ≡ true
current_later i b version p q l h =
    let low = first_of (nat_le (begun_at i b p) version) (had_version b version p) h in
    both (nat_le (begun_at i b q) version) (had_version b version q) (subst (λ (n : ℕ). nat_le n version ≡ true) (sym (l.begun b)) low) (had_later i b version p q l (rest_of (nat_le (begun_at i b p) version) (had_version b version p) h))

had_of : (i b version : ℕ) (p : Past) → was_current i b version p ≡ true → had_version b version p ≡ true
had_of i b version p h = rest_of (nat_le (begun_at i b p) version) (had_version b version p) h

-- a count that has come to its bound stays
stays_last : (n count more last : ℕ) → count ≤ more → more ≤ last → (n == last && n == count) ≡ true → (n == last && n == more) ≡ true
stays_last n count more last a b h = grind (arith, nat_tests)

-- the answers that are right only where the call ends, for what stands then, or that are decided only there
abbrev pub is_last : Call → Answer → Bool
is_last call (answers.Holding slot) = true
is_last call answers.Released = true
is_last call (answers.Copied slot) = true
is_last call answers.Dropped = true
is_last call (answers.Looked slot version value) = true
is_last call (answers.Left count) = true
is_last call answers.NotLeft = true
is_last call answers.AdoptedBefore = true
is_last (calls.Hold key) answers.Nothing = false
is_last call answers.Nothing = true
is_last call answer = false

done_lasts : (i b key version most : ℕ) (p q : Past) (last : ℕ) → Later i p q → (nat_le version last && (had_version b (version - 1) p && (is_there b (version - 1) key p || nat_lt (length (pairs_at b (version - 1) p)) most))) ≡ true
    → (nat_le version last && (had_version b (version - 1) q && (is_there b (version - 1) key q || nat_lt (length (pairs_at b (version - 1) q)) most))) ≡ true
done_lasts i b key version most p q last l h =
    let there = first_of (nat_le version last) (had_version b (version - 1) p && (is_there b (version - 1) key p || nat_lt (length (pairs_at b (version - 1) p)) most)) h in
    let rest = rest_of (nat_le version last) (had_version b (version - 1) p && (is_there b (version - 1) key p || nat_lt (length (pairs_at b (version - 1) p)) most)) h in
    let had = first_of (had_version b (version - 1) p) (is_there b (version - 1) key p || nat_lt (length (pairs_at b (version - 1) p)) most) rest in
    let room = rest_of (had_version b (version - 1) p) (is_there b (version - 1) key p || nat_lt (length (pairs_at b (version - 1) p)) most) rest in
    both (nat_le version last) (had_version b (version - 1) q && (is_there b (version - 1) key q || nat_lt (length (pairs_at b (version - 1) q)) most)) there
    (both (had_version b (version - 1) q) (is_there b (version - 1) key q || nat_lt (length (pairs_at b (version - 1) q)) most) (had_later i b (version - 1) p q l had)
    (subst (λ (cs : List Change). (is_some (value_in (pairs_after cs) key) || nat_lt (length (pairs_after cs)) most) ≡ true) (sym (same_changes i b (version - 1) p q l had)) room))

removed_lasts : (i b key version : ℕ) (p q : Past) (last : ℕ) → Later i p q → (nat_le version last && (had_version b (version - 1) p && is_there b (version - 1) key p)) ≡ true → (nat_le version last && (had_version b (version - 1) q && is_there b (version - 1) key q)) ≡ true
removed_lasts i b key version p q last l h =
    let there = first_of (nat_le version last) (had_version b (version - 1) p && is_there b (version - 1) key p) h in
    let rest = rest_of (nat_le version last) (had_version b (version - 1) p && is_there b (version - 1) key p) h in
    let had = first_of (had_version b (version - 1) p) (is_there b (version - 1) key p) rest in
    let own = rest_of (had_version b (version - 1) p) (is_there b (version - 1) key p) rest in
    both (nat_le version last) (had_version b (version - 1) q && is_there b (version - 1) key q) there
    (both (had_version b (version - 1) q) (is_there b (version - 1) key q) (had_later i b (version - 1) p q l had)
    (subst (λ (cs : List Change). is_some (value_in (pairs_after cs) key) ≡ true) (sym (same_changes i b (version - 1) p q l had)) own))

-- what was so at a version current during the call
pub current_lasts : (i b version : ℕ) (p q : Past) (f : List Change → Bool) → Later i p q → (was_current i b version p && f (take version (changes_of b p))) ≡ true → (was_current i b version q && f (take version (changes_of b q))) ≡ true
current_lasts i b version p q f l h =
    let now = first_of (was_current i b version p) (f (take version (changes_of b p))) h in
    let own = rest_of (was_current i b version p) (f (take version (changes_of b p))) h in
    both (was_current i b version q) (f (take version (changes_of b q))) (current_later i b version p q l now)
    (subst (λ (cs : List Change). f cs ≡ true) (sym (same_changes i b version p q l (had_of i b version p now))) own)

-- what is so at the last version of all
spent_lasts : (i b version last : ℕ) (p q : Past) (f : List Change → Bool) → Later i p q → count_of b q ≤ last → (version == last && (version == count_of b p && f (take version (changes_of b p)))) ≡ true → (version == last && (version == count_of b q && f (take version (changes_of b q)))) ≡ true
spent_lasts i b version last p q f l most h =
    let final = first_of (version == last) (version == count_of b p && f (take version (changes_of b p))) h in
    let rest = rest_of (version == last) (version == count_of b p && f (take version (changes_of b p))) h in
    let now = first_of (version == count_of b p) (f (take version (changes_of b p))) rest in
    let own = rest_of (version == count_of b p) (f (take version (changes_of b p))) rest in
    let had : had_version b version p ≡ true = grind (arith, nat_tests) in
    let more = more_count i b p q l in
    let still : (version == count_of b q) ≡ true = grind (arith, nat_tests) in
    both (version == last) (version == count_of b q && f (take version (changes_of b q))) final
    (both (version == count_of b q) (f (take version (changes_of b q))) still (subst (λ (cs : List Change). f cs ≡ true) (sym (same_changes i b version p q l had)) own))

put_lasts : (c : Config) (i b key : ℕ) (p q : Past) (answer : Answer) → Later i p q → Bounds c q → put_reason c i b key p answer ≡ true → put_reason c i b key q answer ≡ true
put_lasts c i b key p q (answers.Done version clock) l n h = done_lasts i b key version c.pairs p q c.last_version l h
put_lasts c i b key p q (answers.Spent version) l n h = stays_last version (count_of b p) (count_of b q) c.last_version (more_count i b p q l) (n.versions b) h
put_lasts c i b key p q (answers.BucketFull version) l n h = current_lasts i b version p q (λ cs. nat_lt version c.last_version && (length (pairs_after cs) == c.pairs && not (is_some (value_in (pairs_after cs) key)))) l h
put_lasts c i b key p q answer l n h = refl

remove_lasts : (c : Config) (i b key : ℕ) (p q : Past) (answer : Answer) → Later i p q → Bounds c q → remove_reason c i b key p answer ≡ true → remove_reason c i b key q answer ≡ true
remove_lasts c i b key p q (answers.Done version clock) l n h = removed_lasts i b key version p q c.last_version l h
remove_lasts c i b key p q (answers.Absent version) l n h = current_lasts i b version p q (λ cs. not (is_some (value_in (pairs_after cs) key))) l h
remove_lasts c i b key p q (answers.Spent version) l n h = spent_lasts i b version c.last_version p q (λ cs. is_some (value_in (pairs_after cs) key)) l (n.versions b) h
remove_lasts c i b key p q answer l n h = refl

enqueue_lasts : (c : Config) (i : ℕ) (p q : Past) (answer : Answer) → Later i p q → Bounds c q → enqueue_reason c p answer ≡ true → enqueue_reason c q answer ≡ true
enqueue_lasts c i p q (answers.Queued number) l n h = h
enqueue_lasts c i p q (answers.Spent number) l n h = stays_last number (length (queued_of p)) (length (queued_of q)) c.last_version (more_queued i p q l) n.numbers h
enqueue_lasts c i p q answer l n h = refl

dequeue_lasts : (i : ℕ) (p q : Past) (answer : Answer) → Later i p q → dequeue_reason i p answer ≡ true → dequeue_reason i q answer ≡ true
dequeue_lasts i p q answers.Empty l h =
    both (was_empty i q) (has_told i (is_null 1) q) (l.empty (first_of (was_empty i p) (has_told i (is_null 1) p) h)) (l.told (is_null 1) (rest_of (was_empty i p) (has_told i (is_null 1) p) h))
dequeue_lasts i p q answer l h = refl

hold_lasts : (i b key : ℕ) (p q : Past) (answer : Answer) → Later i p q → is_last (calls.Hold key) answer ≡ false → hold_reason i b p answer ≡ true → hold_reason i b q answer ≡ true
hold_lasts i b key p q (answers.Holding slot) l f h = absurd (cc)
hold_lasts i b key p q answers.Nothing l f h =
    both (has_told i (is_null 2) q) (begun_at i b q == 0) (l.told (is_null 2) (first_of (has_told i (is_null 2) p) (begun_at i b p == 0) h))
    (subst (λ (n : ℕ). (n == 0) ≡ true) (sym (l.begun b)) (rest_of (has_told i (is_null 2) p) (begun_at i b p == 0) h))
hold_lasts i b key p q answer l f h = refl

release_lasts : (i : ℕ) (p q : Past) (answer : Answer) → is_last calls.Release answer ≡ false → release_reason i p answer ≡ true → release_reason i q answer ≡ true
release_lasts i p q answers.Released f h = absurd (cc)
release_lasts i p q answer f h = refl

copy_lasts : (i from index : ℕ) (p q : Past) (answer : Answer) → is_last (calls.Copy from index) answer ≡ false → copy_reason i from index q answer ≡ true
copy_lasts i from index p q (answers.Copied slot) f = absurd (cc)
copy_lasts i from index p q answers.Nothing f = absurd (cc)
copy_lasts i from index p q answer f = refl

drop_lasts : (i index : ℕ) (p q : Past) (answer : Answer) → is_last (calls.DropIndex index) answer ≡ false → drop_reason i index q answer ≡ true
drop_lasts i index p q answers.Dropped f = absurd (cc)
drop_lasts i index p q answer f = refl

look_lasts : (i index key : ℕ) (p q : Past) (answer : Answer) → is_last (calls.Look index key) answer ≡ false → look_reason i index key q answer ≡ true
look_lasts i index key p q (answers.Looked slot version value) f = absurd (cc)
look_lasts i index key p q answers.Nothing f = absurd (cc)
look_lasts i index key p q answer f = refl

leave_lasts : (n i : ℕ) (q : Past) (answer : Answer) → is_last calls.Leave answer ≡ false → leave_reason n i q answer ≡ true
leave_lasts n i q (answers.Left count) f = absurd (cc)
leave_lasts n i q answer f = refl

adopt_lasts : (i place : ℕ) (q : Past) (answer : Answer) → is_last (calls.Adopt place) answer ≡ false → adopt_reason i place q answer ≡ true
adopt_lasts i place q answers.NotLeft f = absurd (cc)
adopt_lasts i place q answers.AdoptedBefore f = absurd (cc)
adopt_lasts i place q answer f = refl

-- and of a put that names a version
both_last : (a b d : Bool) → (b ≡ true → d ≡ true) → (a && b) ≡ true → (a && d) ≡ true
both_last true b d f h = f h
both_last false b d f h = h

put_if_lasts : (c : Config) (i b key wanted : ℕ) (p q : Past) (answer : Answer) → Later i p q → Bounds c q → put_if_reason c i b key wanted p answer ≡ true → put_if_reason c i b key wanted q answer ≡ true
put_if_lasts c i b key wanted p q (answers.Done version clock) l n h =
    both_last (version == wanted + 1) (put_reason c i b key p (answers.Done version clock)) (put_reason c i b key q (answers.Done version clock)) (λ g. put_lasts c i b key p q (answers.Done version clock) l n g) h
put_if_lasts c i b key wanted p q (answers.Stale version) l n h =
    both (was_current i b version q) (not (version == wanted)) (current_later i b version p q l (first_of (was_current i b version p) (not (version == wanted)) h)) (rest_of (was_current i b version p) (not (version == wanted)) h)
put_if_lasts c i b key wanted p q (answers.Spent version) l n h =
    both_last (version == wanted) (put_reason c i b key p (answers.Spent version)) (put_reason c i b key q (answers.Spent version)) (λ g. put_lasts c i b key p q (answers.Spent version) l n g) h
put_if_lasts c i b key wanted p q (answers.BucketFull version) l n h =
    both_last (version == wanted) (put_reason c i b key p (answers.BucketFull version)) (put_reason c i b key q (answers.BucketFull version)) (λ g. put_lasts c i b key p q (answers.BucketFull version) l n g) h
put_if_lasts c i b key wanted p q answer l n h = refl

pub reason_lasts : (c : Config) (i : ℕ) (p q : Past) (call : Call) (answer : Answer) → Later i p q → Bounds c q → is_last call answer ≡ false → reason c i p (Some call) answer ≡ true → reason c i q (Some call) answer ≡ true
reason_lasts c i p q (calls.Put key value) answer l n f h = put_lasts c i (bucket_of c.buckets key) key p q answer l n h
reason_lasts c i p q (calls.Remove key) answer l n f h = remove_lasts c i (bucket_of c.buckets key) key p q answer l n h
reason_lasts c i p q (calls.Enqueue value) answer l n f h = enqueue_lasts c i p q answer l n h
reason_lasts c i p q calls.Dequeue answer l n f h = dequeue_lasts i p q answer l h
reason_lasts c i p q (calls.Hold key) answer l n f h = hold_lasts i (bucket_of c.buckets key) key p q answer l f h
reason_lasts c i p q calls.Release answer l n f h = release_lasts i p q answer f h
reason_lasts c i p q (calls.Copy from index) answer l n f h = copy_lasts i from index p q answer f
reason_lasts c i p q (calls.DropIndex index) answer l n f h = drop_lasts i index p q answer f
reason_lasts c i p q (calls.Look index key) answer l n f h = look_lasts i index key p q answer f
reason_lasts c i p q calls.Leave answer l n f h = leave_lasts c.indexes i q answer f
reason_lasts c i p q (calls.Adopt place) answer l n f h = adopt_lasts i place q answer f
reason_lasts c i p q (calls.PutIf key value wanted) answer l n f h = put_if_lasts c i (bucket_of c.buckets key) key wanted p q answer l n h
reason_lasts c i p q call answer l n f h = refl
