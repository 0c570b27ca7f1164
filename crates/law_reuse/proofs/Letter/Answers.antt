-- What calls answer, from what histories keep.
use Rattle.std.proofs.Common.{ℕ, ◌≡◌, Bool, true, false, refl, sym, arith, None, Some, Option, ◌∙◌, ap, ◌+◌, ◌-◌, List, [], ◌∷◌, ◌++◌, length, suc, zero}
use Rattle.std.specs.Prelude.{◌==◌, if◌then◌else◌, ◌&&◌, ◌||◌, not, nat_lt, nat_le, ◌%◌}
use Rattle.laws.proofs.records.defs.Facts.{both, first_of, rest_of}
use Rattle.laws.specs.AnswerLaw as weak
use Rattle.laws.specs.AnswerLaw.{suits, same_event}
use Rattle.laws.specs.HistoryAnswers as strong
use Rattle.laws.specs.HistoryHolds.{clears_ok}
use Rattle.laws.specs.HistoryHolds.{lone_ok}
use Rattle.law_reuse.proofs.Letter.Stands.{stands_one, bare_one}
use Rattle.laws.specs.HistoryScans.{count_ok, answers_scan}
use Rattle.laws.specs.Standing.{open_ok}
use Rattle.laws.specs.QueueLaw.{empty_ok}
use Rattle.laws.specs.ScanLaw.{guards, is_scan_call}
use Rattle.laws.specs.Lists.{list_of}
use Rattle.laws.specs.StateAt.{began_of, call_of, is_open, seen, times, told_of, with_told, has_told, is_dequeue, is_read, is_back, changed_of}
use Rattle.laws.specs.StructuresAt.{was_empty, had_version, is_there, pairs_at, bucket_of}
use Rattle.laws.specs.defs.Events.{is_null}
use Rattle.laws.specs.defs.declared.call.Answer.{Answer}
use Rattle.laws.specs.defs.declared.call.Answer.TheVariants as answers
use Rattle.laws.specs.defs.declared.call.Call.{Call}
use Rattle.laws.specs.defs.declared.call.Call.TheVariants as calls
use Rattle.laws.specs.defs.declared.event.Event.{Event}
use Rattle.laws.specs.defs.declared.event.Event.TheVariants as events
use Rattle.laws.specs.records.Record.{Past, Each}
use Rattle.laws.specs.records.Record.Past.{Start, Then}
use Rattle.laws.specs.words.declared.config.Config.{Config}
use Rattle.law_reuse.proofs.Letter.Each.{each_weaker, counted_by, times_seen}

-- what a call has told of the map and of the queue, event by event
abbrev matching : (Event → Bool) → List Event → ℕ
matching kind [] = 0
matching kind (event ∷ told) = if kind event then matching kind told + 1 else matching kind told

one_more : (kind : Event → Bool) (told : List Event) (event : Event) → matching kind (told ++ event ∷ []) ≡ (if kind event then matching kind told + 1 else matching kind told)
one_more kind [] event = refl
one_more kind (other ∷ told) event = by (kind other) (kind event) (one_more kind told event)
  where
    by : (b d : Bool) → matching kind (told ++ event ∷ []) ≡ (if d then matching kind told + 1 else matching kind told) → (if b then matching kind (told ++ event ∷ []) + 1 else matching kind (told ++ event ∷ [])) ≡ (if d then (if b then matching kind told + 1 else matching kind told) + 1 else (if b then matching kind told + 1 else matching kind told))
    by true true h = omega (arith, h)
    by true false h = omega (arith, h)
    by false true h = h
    by false false h = h

-- events of the map, of the queue, of copies and of lists
abbrev is_told : Event → Bool
is_told (events.Got bucket version key value) = true
is_told (events.Put bucket version key value) = true
is_told (events.Removed bucket version key) = true
is_told (events.Queued number value) = true
is_told (events.Taken number value) = true
is_told (events.Copied from index slot) = true
is_told (events.Left count) = true
is_told (events.Adopted place count) = true
is_told event = false

-- a kind of these alone
abbrev OfTold : (Event → Bool) → Type 0
OfTold kind = (event : Event) → is_told event ≡ false → kind event ≡ false

silent : (kind : Event → Bool) (event : Event) (n : ℕ) → kind event ≡ false → n ≡ (if kind event then n + 1 else n)
silent kind event n h = rw h refl

told_one : (kind : Event → Bool) → OfTold kind → (event : Event) (told : List Event) → matching kind (with_told event told) ≡ counted_by kind event (matching kind told)
told_one kind o (events.Begin call) told = refl
told_one kind o (events.Got bucket version key value) told = one_more kind told (events.Got bucket version key value)
told_one kind o (events.Put bucket version key value) told = one_more kind told (events.Put bucket version key value)
told_one kind o (events.Removed bucket version key) told = one_more kind told (events.Removed bucket version key)
told_one kind o (events.Queued number value) told = one_more kind told (events.Queued number value)
told_one kind o (events.Taken number value) told = one_more kind told (events.Taken number value)
told_one kind o (events.Copied from index slot) told = one_more kind told (events.Copied from index slot)
told_one kind o (events.Left count) told = one_more kind told (events.Left count)
told_one kind o (events.Adopted place count) told = one_more kind told (events.Adopted place count)
told_one kind o event told = silent kind event (matching kind told) (o event refl)

told_entry : (kind : Event → Bool) → OfTold kind → (i k : ℕ) (p : Past) (event : Event) (same : Bool) → (i == k) ≡ same → matching kind (told_of i p) ≡ seen (counted_by kind) 0 i p → matching kind (told_of i (Then p k event)) ≡ seen (counted_by kind) 0 i (Then p k event)
told_entry kind o i k p event true e h = rw e (told_one kind o event (told_of i p) ∙ ap (counted_by kind event) h)
told_entry kind o i k p event false e h = rw e h

told_times : (kind : Event → Bool) → OfTold kind → (i : ℕ) (p : Past) → matching kind (told_of i p) ≡ times i kind p
told_times kind o i p = all i p ∙ sym (times_seen kind i p)
  where
    all : (i : ℕ) (p : Past) → matching kind (told_of i p) ≡ seen (counted_by kind) 0 i p
    all i Start = refl
    all i (Then p k event) = told_entry kind o i k p event (i == k) refl (all i p)

-- a call that told just this event told it once
one_told : (told : List Event) (event : Event) → strong.same_told told (event ∷ []) ≡ true → matching (λ e. same_event e event) told ≡ 1
one_told [] event h = absurd (cc)
one_told (other ∷ []) event h = rw (first_of (same_event other event) true h) refl
one_told (other ∷ more ∷ told) event h = absurd (no (same_event other event) h)
  where
    no : (b : Bool) → (b && false) ≡ true → ⊥
    no true e = cc
    no false e = cc

told_once : (i : ℕ) (p : Past) (event : Event) → OfTold (λ e. same_event e event) → strong.same_told (told_of i p) (event ∷ []) ≡ true → weak.told_once i p (Some event) ≡ true
told_once i p event o h =
    let n : matching (λ e. same_event e event) (told_of i p) ≡ 1 = one_told (told_of i p) event h in
    let t : times i (λ e. same_event e event) p ≡ 1 = sym (told_times (λ e. same_event e event) o i p) ∙ n in
    rw t refl

quiet_to : (event : Event) → OfTold (λ e. same_event e event)
quiet_to event (events.Got bucket version key value) h = absurd (cc)
quiet_to event (events.Put bucket version key value) h = absurd (cc)
quiet_to event (events.Removed bucket version key) h = absurd (cc)
quiet_to event (events.Queued number value) h = absurd (cc)
quiet_to event (events.Taken number value) h = absurd (cc)
quiet_to event (events.Copied from index slot) h = absurd (cc)
quiet_to event (events.Left count) h = absurd (cc)
quiet_to event (events.Adopted place count) h = absurd (cc)
quiet_to event other h = refl

owed_once : (n i : ℕ) (p : Past) (call : Call) (answer : Answer) → strong.same_told (told_of i p) (strong.owes n call answer) ≡ true → weak.told_once i p (weak.owes n call answer) ≡ true
owed_once n i p (calls.Get key) (answers.Got version value) h = told_once i p (events.Got (key % n) version key value) (quiet_to (events.Got (key % n) version key value)) h
owed_once n i p (calls.Put key value) (answers.Done version clock) h = told_once i p (events.Put (key % n) version key value) (quiet_to (events.Put (key % n) version key value)) h
owed_once n i p (calls.Remove key) (answers.Done version clock) h = told_once i p (events.Removed (key % n) version key) (quiet_to (events.Removed (key % n) version key)) h
owed_once n i p (calls.Enqueue value) (answers.Queued number) h = told_once i p (events.Queued number value) (quiet_to (events.Queued number value)) h
owed_once n i p calls.Dequeue (answers.Taken number value clock) h = told_once i p (events.Taken number value) (quiet_to (events.Taken number value)) h
owed_once n i p (calls.Copy from index) (answers.Copied slot) h = told_once i p (events.Copied from index slot) (quiet_to (events.Copied from index slot)) h
owed_once n i p (calls.PutIf key value wanted) (answers.Done version clock) h = told_once i p (events.Put (key % n) version key value) (quiet_to (events.Put (key % n) version key value)) h
owed_once n i p calls.Leave (answers.Left count) h = told_once i p (events.Left count) (quiet_to (events.Left count)) h
owed_once n i p (calls.Adopt place) (answers.Adopted count) h = told_once i p (events.Adopted place count) (quiet_to (events.Adopted place count)) h
owed_once n i p call answer h = refl

answer_by : (n i : ℕ) (p : Past) (call : Option Call) (answer : Answer) → strong.answer_right n call (told_of i p) answer ≡ true → weak.answer_right n i p call answer ≡ true
answer_by n i p None answer h = h
answer_by n i p (Some call) answer h =
    both (suits call answer) (weak.told_once i p (weak.owes n call answer)) (first_of (suits call answer) (strong.same_told (told_of i p) (strong.owes n call answer)) h)
    (owed_once n i p call answer (rest_of (suits call answer) (strong.same_told (told_of i p) (strong.owes n call answer)) h))

answer_part : (n : ℕ) (p : Past) (i : ℕ) (event : Event) → strong.answers_ok n p i event ≡ true → weak.answers_ok n p i event ≡ true
answer_part n p i (events.End steps answer) h = answer_by n i p (began_of i p) answer h
answer_part n p i event h = refl

pub answers_kept : (n : ℕ) (r : Past) → Each (strong.answers_ok n) r → Each (weak.answers_ok n) r
answers_kept n r h = each_weaker (strong.answers_ok n) (weak.answers_ok n) (answer_part n) r h

-- inside a call the one under way is the one that began last
abbrev CallUnderWay : Bool → Option Call → Option Call → Type 0
CallUnderWay busy call began = busy ≡ true → call ≡ began

call_entry : (i k : ℕ) (p : Past) (event : Event) (same : Bool) → (i == k) ≡ same → CallUnderWay (is_open i p) (call_of i p) (began_of i p) → CallUnderWay (is_open i (Then p k event)) (call_of i (Then p k event)) (began_of i (Then p k event))
call_entry i k p (events.Begin call) true e h = rw e (λ o. refl)
call_entry i k p (events.End steps answer) true e h = rw e (λ o. absurd (cc))
call_entry i k p (events.Begin call) false e h = rw e h
call_entry i k p (events.End steps answer) false e h = rw e h
call_entry i k p event true e h = rw e h
call_entry i k p event false e h = rw e h

call_began : (i : ℕ) (p : Past) → CallUnderWay (is_open i p) (call_of i p) (began_of i p)
call_began i Start = λ o. absurd (cc)
call_began i (Then p k event) = call_entry i k p event (i == k) refl (call_began i p)

-- reasons
done_put : (allowed had right : Bool) → (allowed && (had && right)) ≡ true → (allowed && right) ≡ true
done_put true true right h = h
done_put true false right h = absurd (cc)
done_put false had right h = h

put_by : (c : Config) (i b key : ℕ) (p : Past) (answer : Answer) → strong.put_reason c i b key p answer ≡ true → weak.put_reason c i b key p answer ≡ true
put_by c i b key p (answers.Done version clock) h =
    done_put (nat_le version c.last_version) (had_version b (version - 1) p) (is_there b (version - 1) key p || nat_lt (length (pairs_at b (version - 1) p)) c.pairs) h
put_by c i b key p (answers.Spent number) h = h
put_by c i b key p (answers.BucketFull version) h = h
put_by c i b key p answer h = refl

remove_by : (c : Config) (i b key : ℕ) (p : Past) (answer : Answer) → strong.remove_reason c i b key p answer ≡ true → weak.remove_reason c i b key p answer ≡ true
remove_by c i b key p (answers.Done version clock) h = done_put (nat_le version c.last_version) (had_version b (version - 1) p) (is_there b (version - 1) key p) h
remove_by c i b key p (answers.Spent number) h = h
remove_by c i b key p (answers.Absent version) h = h
remove_by c i b key p answer h = refl

dequeue_by : (i : ℕ) (p : Past) (answer : Answer) → strong.dequeue_reason i p answer ≡ true → weak.dequeue_reason i p answer ≡ true
dequeue_by i p answers.Empty h = rest_of (was_empty i p) (has_told i (is_null 1) p) h
dequeue_by i p answer h = refl

hold_by : (i b : ℕ) (p : Past) (answer : Answer) → Each lone_ok p → Each clears_ok p → strong.hold_reason i b p answer ≡ true → weak.hold_reason i b p answer ≡ true
hold_by i b p (answers.Holding slot) l c h = rw (stands_one i 2 slot p l c) h
hold_by i b p answers.Nothing l c h = h
hold_by i b p answer l c h = refl

release_by : (i : ℕ) (p : Past) (answer : Answer) → Each lone_ok p → Each clears_ok p → strong.release_reason i p answer ≡ true → weak.release_reason i p answer ≡ true
release_by i p answers.Released l c h = rw (bare_one i 2 p l c) h
release_by i p answer l c h = refl

copy_by : (i from index : ℕ) (p : Past) (answer : Answer) → Each lone_ok p → Each clears_ok p → strong.copy_reason i from index p answer ≡ true → weak.copy_reason i from index p answer ≡ true
copy_by i from index p (answers.Copied slot) l c h = rw (stands_one i from slot p l c, stands_one i index slot p l c) h
copy_by i from index p answers.Nothing l c h = rw (bare_one i from p l c) h
copy_by i from index p answer l c h = refl

drop_by : (i index : ℕ) (p : Past) (answer : Answer) → Each lone_ok p → Each clears_ok p → strong.drop_reason i index p answer ≡ true → weak.drop_reason i index p answer ≡ true
drop_by i index p answers.Dropped l c h = rw (bare_one i index p l c) h
drop_by i index p answer l c h = refl

look_by : (i index key : ℕ) (p : Past) (answer : Answer) → Each lone_ok p → Each clears_ok p → strong.look_reason i index key p answer ≡ true → weak.look_reason i index key p answer ≡ true
look_by i index key p (answers.Looked slot version value) l c h = rw (stands_one i index slot p l c) h
look_by i index key p answers.Nothing l c h = rw (bare_one i index p l c) h
look_by i index key p answer l c h = refl

-- nothing stands at a seat that left
bare_by : (n i : ℕ) (p : Past) → Each lone_ok p → Each clears_ok p → weak.is_bare_below n i p ≡ strong.is_bare_below n i p
bare_by zero i p l c = refl
bare_by (suc j) i p l c = rw (bare_one i j p l c, bare_by j i p l c) refl

leave_by : (n i : ℕ) (p : Past) (answer : Answer) → Each lone_ok p → Each clears_ok p → strong.leave_reason n i p answer ≡ true → weak.leave_reason n i p answer ≡ true
leave_by n i p (answers.Left count) l c h = bare_by n i p l c ∙ h
leave_by n i p answer l c h = refl

put_if_by : (c : Config) (i b key wanted : ℕ) (p : Past) (answer : Answer) → strong.put_if_reason c i b key wanted p answer ≡ true → weak.put_if_reason c i b key wanted p answer ≡ true
put_if_by c i b key wanted p (answers.Done version clock) h =
    both (version == wanted + 1) (weak.put_reason c i b key p (answers.Done version clock)) (first_of (version == wanted + 1) (strong.put_reason c i b key p (answers.Done version clock)) h)
    (put_by c i b key p (answers.Done version clock) (rest_of (version == wanted + 1) (strong.put_reason c i b key p (answers.Done version clock)) h))
put_if_by c i b key wanted p (answers.Stale version) h = h
put_if_by c i b key wanted p (answers.Spent number) h = h
put_if_by c i b key wanted p (answers.BucketFull version) h = h
put_if_by c i b key wanted p answer h = refl

scan_by : (config : Config) (i : ℕ) (p : Past) (answer : Answer) → answers_scan config i p answer ≡ true → weak.scan_reason i p answer ≡ true
scan_by config i p (answers.Scanned kept back) h = rest_of (times i is_read p == guards config) (kept == length (list_of i p) && back == times i is_back p) h
scan_by config i p answer h = refl

reason_by : (c : Config) (i : ℕ) (p : Past) (call : Option Call) (answer : Answer) → Each lone_ok p → Each clears_ok p → (is_scan_call call ≡ true → answers_scan c i p answer ≡ true) → strong.reason c i p call answer ≡ true → weak.reason c i p call answer ≡ true
reason_by c i p (Some (calls.Put key value)) answer l k s h = put_by c i (bucket_of c.buckets key) key p answer h
reason_by c i p (Some (calls.Remove key)) answer l k s h = remove_by c i (bucket_of c.buckets key) key p answer h
reason_by c i p (Some (calls.Enqueue value)) answer l k s h = h
reason_by c i p (Some calls.Dequeue) answer l k s h = dequeue_by i p answer h
reason_by c i p (Some (calls.Hold key)) answer l k s h = hold_by i (bucket_of c.buckets key) p answer l k h
reason_by c i p (Some calls.Release) answer l k s h = release_by i p answer l k h
reason_by c i p (Some calls.Scan) answer l k s h = scan_by c i p answer (s refl)
reason_by c i p (Some (calls.Copy from index)) answer l k s h = copy_by i from index p answer l k h
reason_by c i p (Some (calls.DropIndex index)) answer l k s h = drop_by i index p answer l k h
reason_by c i p (Some (calls.Look index key)) answer l k s h = look_by i index key p answer l k h
reason_by c i p (Some calls.Leave) answer l k s h = leave_by c.indexes i p answer l k h
reason_by c i p (Some (calls.Adopt place)) answer l k s h = h
reason_by c i p (Some (calls.PutIf key value wanted)) answer l k s h = put_if_by c i (bucket_of c.buckets key) key wanted p answer h
reason_by c i p (Some (calls.Get key)) answer l k s h = refl
reason_by c i p (Some calls.Advance) answer l k s h = refl
reason_by c i p None answer l k s h = refl

scan_told : (c : Config) (i : ℕ) (p : Past) (answer : Answer) → is_open i p ≡ true → (if is_scan_call (call_of i p) then answers_scan c i p answer else true) ≡ true → is_scan_call (began_of i p) ≡ true → answers_scan c i p answer ≡ true
scan_told c i p answer o h s =
    let e : call_of i p ≡ began_of i p = call_began i p o in
    rw (e, s) at h

reason_part : (c : Config) (p : Past) (i : ℕ) (event : Event) → Each lone_ok p → Each clears_ok p → open_ok p i event ≡ true → count_ok c p i event ≡ true → strong.reasons_ok c p i event ≡ true → weak.reasons_ok c p i event ≡ true
reason_part c p i (events.End steps answer) l k o g h = reason_by c i p (began_of i p) answer l k (scan_told c i p answer o g) h
reason_part c p i event l k o g h = refl

pub reasons_kept : (c : Config) (r : Past) → Each lone_ok r → Each clears_ok r → Each open_ok r → Each (count_ok c) r → Each (strong.reasons_ok c) r → Each (weak.reasons_ok c) r
reasons_kept c Start l k o g h = tt
reasons_kept c (Then p i event) l k o g h = (reason_part c p i event l.1 k.1 o.0 g.0 h.0, reasons_kept c p l.1 k.1 o.1 g.1 h.1)

-- a dequeue that finds the queue empty
empty_by : (c : Config) (i : ℕ) (p : Past) (call : Option Call) → strong.reason c i p call answers.Empty ≡ true → (not (is_dequeue call) || was_empty i p) ≡ true
empty_by c i p (Some calls.Dequeue) h = first_of (was_empty i p) (has_told i (is_null 1) p) h
empty_by c i p (Some (calls.Put key value)) h = refl
empty_by c i p (Some (calls.Remove key)) h = refl
empty_by c i p (Some (calls.Enqueue value)) h = refl
empty_by c i p (Some (calls.Hold key)) h = refl
empty_by c i p (Some calls.Release) h = refl
empty_by c i p (Some calls.Scan) h = refl
empty_by c i p (Some (calls.Get key)) h = refl
empty_by c i p (Some calls.Advance) h = refl
empty_by c i p (Some (calls.Copy from index)) h = refl
empty_by c i p (Some (calls.DropIndex index)) h = refl
empty_by c i p (Some (calls.Look index key)) h = refl
empty_by c i p (Some calls.Leave) h = refl
empty_by c i p (Some (calls.Adopt place)) h = refl
empty_by c i p (Some (calls.PutIf key value wanted)) h = refl
empty_by c i p None h = refl

empty_answer : (c : Config) (i steps : ℕ) (p : Past) (answer : Answer) → strong.reason c i p (began_of i p) answer ≡ true → empty_ok p i (events.End steps answer) ≡ true
empty_answer c i steps p answers.Empty h = empty_by c i p (began_of i p) h
empty_answer c i steps p answer h = refl

empty_part : (c : Config) (p : Past) (i : ℕ) (event : Event) → strong.reasons_ok c p i event ≡ true → empty_ok p i event ≡ true
empty_part c p i (events.End steps answer) h = empty_answer c i steps p answer h
empty_part c p i event h = refl

pub empty_kept : (c : Config) (r : Past) → Each (strong.reasons_ok c) r → Each empty_ok r
empty_kept c r h = each_weaker (strong.reasons_ok c) empty_ok (empty_part c) r h

-- retirements and refusals
retires_part : (p : Past) (i : ℕ) (event : Event) → strong.retires_ok p i event ≡ true → weak.retires_ok p i event ≡ true
retires_part p i (events.End steps answer) h = h
retires_part p i event h = refl

pub retires_kept : (r : Past) → Each strong.retires_ok r → Each weak.retires_ok r
retires_kept r h = each_weaker strong.retires_ok weak.retires_ok retires_part r h

refused_by : (answer : Answer) (changed : Bool) → (not changed || strong.is_change answer) ≡ true → not (weak.is_refusal answer && changed) ≡ true
refused_by answers.Full true h = absurd (cc)
refused_by answers.Full false h = refl
refused_by (answers.BucketFull version) true h = absurd (cc)
refused_by (answers.BucketFull version) false h = refl
refused_by (answers.Absent version) true h = absurd (cc)
refused_by (answers.Absent version) false h = refl
refused_by (answers.Spent number) true h = absurd (cc)
refused_by (answers.Spent number) false h = refl
refused_by (answers.Stale version) true h = absurd (cc)
refused_by (answers.Stale version) false h = refl
refused_by answers.Empty true h = absurd (cc)
refused_by answers.Empty false h = refl
refused_by answer changed h = refl

refuses_part : (p : Past) (i : ℕ) (event : Event) → strong.refusing_ok p i event ≡ true → weak.refuses_ok p i event ≡ true
refuses_part p i (events.End steps answer) h = refused_by answer (changed_of i p) h
refuses_part p i event h = refl

pub refuses_kept : (r : Past) → Each strong.refusing_ok r → Each weak.refuses_ok r
refuses_kept r h = each_weaker strong.refusing_ok weak.refuses_ok refuses_part r h
