-- What came to a seat with lists since its last scan is no more than its calls have answered since the last of them that only scans.
use Rattle.std.proofs.Common.{ℕ, ◌≡◌, ◌≤◌, ◌<◌, ◌+◌, Bool, true, false, List, [], ◌∷◌, ◌++◌, Option, Some, None, refl, sym, ap, ◌∙◌, subst, arith}
use Rattle.std.proofs.lemmas.Bool.Decides.{nat_tests}
use Rattle.std.specs.Prelude.{◌==◌, not, if◌then◌else◌}
use Rattle.law_all.proofs.Logs.Ledgers.{ledger_began}
use Rattle.law_all.proofs.Runs.Tellings.{told_owed}
use Rattle.law_all.proofs.inv.model.Facts.{false_of_not, first_of, no_truth, number_is, rest_of, same_number}
use Rattle.law_all.specs.Logs.Ledgers.{Ledger, ledger_by, ledger_of, left_by, log_of}
use Rattle.law_all.specs.inv.history.Record.{Each, Past}
use Rattle.law_all.specs.inv.history.Record.Past.{Start, Then}
use Rattle.law_all.specs.inv.model.Desks.{Notes, noted}
use Rattle.law_all.specs.inv.model.Locals.{Group}
use Rattle.law_all.specs.inv.model.defs.declared.call.Answer.{Answer}
use Rattle.law_all.specs.inv.model.defs.declared.call.Answer.TheVariants as answers
use Rattle.law_all.specs.inv.model.defs.declared.call.Call.{Call}
use Rattle.law_all.specs.inv.model.defs.declared.call.Call.TheVariants as calls
use Rattle.law_all.specs.inv.model.defs.declared.event.Event.{Event}
use Rattle.law_all.specs.inv.model.defs.declared.event.Event.TheVariants as events
use Rattle.law_all.specs.inv.model.words.declared.config.Config.{Config}
use Rattle.law_all.specs.laws.AnswerLaw.{retires_for, suits}
use Rattle.law_all.specs.laws.HistoryAnswers.{answer_right, answers_ok, owes, retires_ok, same_told}
use Rattle.law_all.specs.laws.HistoryScans.{answers_scan, count_ok}
use Rattle.law_all.specs.laws.Lists.{has_left}
use Rattle.law_all.specs.laws.Once.{lists_ok}
use Rattle.law_all.specs.laws.ScanLaw.{guards, is_scan_call}
use Rattle.law_all.specs.laws.Standing.{is_leave, open_ok}
use Rattle.law_all.specs.laws.StateAt.{began_of, call_of, is_open, is_read, opened_by, retires_by, retires_of, times, told_of, with_told}
use Rattle.law_bounds.specs.Scans.{came_by, came_of, late_by, late_of}
use Rattle.law_bounds.specs.Waits.{came_after, came_from, came_in, has_scanned, is_scanned, last_call, last_from, scans_from}

-- Logs with one call more.
pub last_more : (before : Option Call) (log : List Group) (group : Group) → last_from before (log ++ group ∷ []) ≡ Some group.call
last_more before [] group = refl
last_more before (first ∷ log) group = last_more (Some first.call) log group

pub came_more : (before : ℕ) (log : List Group) (group : Group) → came_from before (log ++ group ∷ []) ≡ came_after group.answer (came_from before log)
came_more before [] group = refl
came_more before (first ∷ log) group = came_more (came_after first.answer before) log group

-- how many rows a call has told to bring
abbrev count_in : Event → ℕ
count_in (events.Adopted place count) = count
count_in event = 0

abbrev brought : List Event → ℕ
brought [] = 0
brought (event ∷ told) = count_in event + brought told

brought_more : (told : List Event) (event : Event) → brought (told ++ event ∷ []) ≡ brought told + count_in event
brought_more [] event = omega arith
brought_more (first ∷ told) event = let more = brought_more told event in omega (arith, more)

-- and what it answers
abbrev brought_by : Answer → ℕ
brought_by (answers.Adopted count) = count
brought_by answer = 0

owed_brought : (n : ℕ) (call : Call) (answer : Answer) → brought (owes n call answer) ≤ brought_by answer
owed_brought n (calls.Adopt place) (answers.Adopted count) = omega arith
owed_brought n (calls.Get key) (answers.Got version value) = omega arith
owed_brought n (calls.Put key value) (answers.Done version clock) = omega arith
owed_brought n (calls.Remove key) (answers.Done version clock) = omega arith
owed_brought n (calls.PutIf key value wanted) (answers.Done version clock) = omega arith
owed_brought n (calls.Enqueue value) (answers.Queued number) = omega arith
owed_brought n calls.Dequeue (answers.Taken number value clock) = omega arith
owed_brought n (calls.Copy from index) (answers.Copied slot) = omega arith
owed_brought n calls.Leave (answers.Left count) = omega arith
owed_brought n call answer = omega arith

-- What a seat has come to: whether it is in a call, how much came since it read a guard last, by its log and by what its call has told, and
-- how often its call has read a guard.
record Sums (busy : Bool) (came log told reads : ℕ) : Type 0 where
  within : busy ≡ true → came ≤ log + told
  between : busy ≡ false → came ≤ log
  read : (reads == 0) ≡ false → came ≤ told

-- where a call ends
record Ends (answer : Answer) (told reads : ℕ) : Type 0 where
  most : told ≤ brought_by answer
  scans : (kept back : ℕ) → answer ≡ answers.Scanned kept back → (reads == 0) ≡ false

abbrev log_after : Event → ℕ → ℕ
log_after (events.End steps answer) log = came_after answer log
log_after event log = log

abbrev reads_after : Event → ℕ → ℕ
reads_after (events.Begin call) reads = 0
reads_after (events.Read guard span) reads = reads + 1
reads_after (events.Saw guard slot) reads = reads + 1
reads_after event reads = reads

abbrev told_after : Event → ℕ → ℕ
told_after (events.Begin call) told = 0
told_after event told = told + count_in event

told_with : (event : Event) (told : List Event) → brought (with_told event told) ≡ told_after event (brought told)
told_with (events.Begin call) told = refl
told_with (events.Got bucket version key value) told = brought_more told (events.Got bucket version key value)
told_with (events.Put bucket version key value) told = brought_more told (events.Put bucket version key value)
told_with (events.Removed bucket version key) told = brought_more told (events.Removed bucket version key)
told_with (events.Queued number value) told = brought_more told (events.Queued number value)
told_with (events.Taken number value) told = brought_more told (events.Taken number value)
told_with (events.Copied index to slot) told = brought_more told (events.Copied index to slot)
told_with (events.Left count) told = brought_more told (events.Left count)
told_with (events.Adopted place count) told = brought_more told (events.Adopted place count)
told_with event told = omega arith

ended : (answer : Answer) (came log told reads : ℕ) → Ends answer told reads → Sums true came log told reads → came ≤ came_after answer log
ended (answers.Adopted count) came log told reads e s =
    let most = e.most in
    let all = s.within refl in
    omega (arith, most, all)
ended (answers.Scanned kept back) came log told reads e s =
    let most = e.most in
    let all = s.read (e.scans kept back refl) in
    omega (arith, most, all)
ended answer came log told reads e s =
    let most = e.most in
    let all = s.within refl in
    omega (arith, most, all)

under : (busy : Bool) (came log told reads : ℕ) → busy ≡ true → Sums busy came log told reads → Sums true came log told reads
under busy came log told reads o s = subst (λ (b : Bool). Sums b came log told reads) o s

read_now : (busy : Bool) (log told reads : ℕ) → Sums busy 0 log told reads
read_now busy log told reads = record { within = λ o. omega arith; between = λ o. omega arith; read = λ r. omega arith }

none_more : (busy : Bool) (came log told reads : ℕ) → Sums busy came log told reads → Sums busy came log (told + 0) reads
none_more busy came log told reads s = let same : told ≡ told + 0 = omega arith in subst (λ (n : ℕ). Sums busy came log n reads) same s

own_sums : (p : Past) (k : ℕ) (event : Event) (busy : Bool) (came log told reads : ℕ) → is_open k p ≡ busy → open_ok p k event ≡ true
    → ((steps : ℕ) (answer : Answer) → event ≡ events.End steps answer → Ends answer told reads)
    → Sums busy came log told reads → Sums (opened_by event busy) (came_by event came) (log_after event log) (told_after event told) (reads_after event reads)
own_sums p k (events.Begin call) busy came log told reads b o e s =
    let free : not (is_open k p) ≡ true = first_of (not (is_open k p)) (not (has_left k p)) o in
    let most : came ≤ log = s.between (sym b ∙ false_of_not (is_open k p) free) in
    record { within = λ t. omega (arith, most); between = λ t. absurd (cc); read = λ r. absurd (no_truth (sym r)) }
own_sums p k (events.End steps answer) busy came log told reads b o e s =
    let most : came ≤ came_after answer log = ended answer came log told reads (e steps answer refl) (under busy came log told reads (sym b ∙ o) s) in
    record { within = λ t. absurd (cc); between = λ t. most; read = λ r. let all = s.read r in omega (arith, all) }
own_sums p k (events.Read guard span) busy came log told reads b o e s = read_now busy log (told + 0) (reads + 1)
own_sums p k (events.Saw guard slot) busy came log told reads b o e s = read_now busy log (told + 0) (reads + 1)
own_sums p k (events.Adopted place count) busy came log told reads b o e s = record {
  within = λ t. let all = s.within t in omega (arith, all);
  between = λ t. absurd (no_truth (sym t ∙ (sym b ∙ o)));
  read = λ r. let all = s.read r in omega (arith, all);
}
own_sums p k event busy came log told reads b o e s = none_more busy came log told reads s

-- The same of a seat at a position of a record.
abbrev SumsAt : ℕ → Past → Type 0
SumsAt k p = Sums (is_open k p) (came_of k p) (came_in (log_of k p)) (brought (told_of k p)) (times k is_read p)

-- what each entry keeps
pub record Told (c : Config) (p : Past) : Type 0 where
  pub calls : Each open_ok p
  pub answers_told : Each (answers_ok c.buckets) p
  pub counts : Each (count_ok c) p
  pub retires : Each retires_ok p
  pub lists : Each lists_ok p
  pub some : 0 < guards c

told_first : (c : Config) (p : Past) (i : ℕ) (event : Event) → Told c (Then p i event) → Told c p
told_first c p i event t = record { calls = t.calls.1; answers_told = t.answers_told.1; counts = t.counts.1; retires = t.retires.1; lists = t.lists.1; some = t.some }

-- a call that ends had begun
record Begun (began : Option Call) (answer : Answer) : Type 0 where
  call : Call
  is : began ≡ Some call
  suits_it : suits call answer ≡ true

begun : (n : ℕ) (began : Option Call) (told : List Event) (answer : Answer) → answer_right n began told answer ≡ true → Begun began answer
begun n None told answer h = absurd (cc)
begun n (Some call) told answer h = record { call = call; is = refl; suits_it = first_of (suits call answer) (same_told told (owes n call answer)) h }

scan_suits : (call : Call) (kept back : ℕ) → suits call (answers.Scanned kept back) ≡ true → is_scan_call (Some call) ≡ true
scan_suits calls.Scan kept back s = refl
scan_suits call kept back s = absurd (cc)

-- in a call the one under way is the one that began last
call_entry : (i k : ℕ) (p : Past) (event : Event) (same : Bool) → (i == k) ≡ same → (is_open i p ≡ true → call_of i p ≡ began_of i p) → is_open i (Then p k event) ≡ true → call_of i (Then p k event) ≡ began_of i (Then p k event)
call_entry i k p (events.Begin call) true e h = rw e (λ o. refl)
call_entry i k p (events.End steps answer) true e h = rw e (λ o. absurd (cc))
call_entry i k p (events.Begin call) false e h = rw e h
call_entry i k p (events.End steps answer) false e h = rw e h
call_entry i k p event true e h = rw e h
call_entry i k p event false e h = rw e h

call_began : (i : ℕ) (p : Past) → is_open i p ≡ true → call_of i p ≡ began_of i p
call_began i Start o = absurd (cc)
call_began i (Then p k event) o = call_entry i k p event (i == k) refl (call_began i p) o

some_reads : (reads all : ℕ) → 0 < all → (reads == all) ≡ true → (reads == 0) ≡ false
some_reads reads all low e = grind (arith, nat_tests)

scan_read : (c : Config) (k : ℕ) (p : Past) (kept back : ℕ) (call : Option Call) → call_of k p ≡ call → is_scan_call call ≡ true → 0 < guards c
    → (if is_scan_call (call_of k p) then answers_scan c k p (answers.Scanned kept back) else true) ≡ true → (times k is_read p == 0) ≡ false
scan_read c k p kept back call e s low h =
    let t : is_scan_call (call_of k p) ≡ true = ap is_scan_call e ∙ s in
    let right : answers_scan c k p (answers.Scanned kept back) ≡ true = rw t at h in
    some_reads (times k is_read p) (guards c) low (first_of (times k is_read p == guards c) _ right)

end_of : (c : Config) (k : ℕ) (p : Past) (event : Event) (steps : ℕ) (answer : Answer) → event ≡ events.End steps answer → open_ok p k event ≡ true → answers_ok c.buckets p k event ≡ true → count_ok c p k event ≡ true → 0 < guards c
    → Ends answer (brought (told_of k p)) (times k is_read p)
end_of c k p event steps answer e o a n low =
    let right : answer_right c.buckets (began_of k p) (told_of k p) answer ≡ true = ap (answers_ok c.buckets p k) (sym e) ∙ a in
    let busy : is_open k p ≡ true = ap (open_ok p k) (sym e) ∙ o in
    let counted : (if is_scan_call (call_of k p) then answers_scan c k p answer else true) ≡ true = ap (count_ok c p k) (sym e) ∙ n in
    let b : Begun (began_of k p) answer = begun c.buckets (began_of k p) (told_of k p) answer right in
    let told : told_of k p ≡ owes c.buckets b.call answer = told_owed c.buckets b.call answer (told_of k p) (began_of k p) b.is right in
    record {
      most = subst (λ (told : List Event). brought told ≤ brought_by answer) (sym told) (owed_brought c.buckets b.call answer);
      scans = λ kept back f.
          scan_read c k p kept back (Some b.call) (call_began k p busy ∙ b.is) (scan_suits b.call kept back (ap (suits b.call) (sym f) ∙ b.suits_it)) low
          (ap (λ (x : Answer). if is_scan_call (call_of k p) then answers_scan c k p x else true) (sym f) ∙ counted);
    }

-- the log with what the event adds
log_own : (k : ℕ) (p : Past) (event : Event) → ((steps : ℕ) (answer : Answer) → event ≡ events.End steps answer → (call : Call) × ((ledger_of k p).call ≡ Some call))
    → came_in (ledger_by event (ledger_of k p)).log ≡ log_after event (came_in (log_of k p))
log_own k p (events.End steps answer) f =
    let x = f steps answer refl in
    let group : Group = record { call = x.0; answer = answer; notes = noted (ledger_of k p).notes (events.End steps answer) } in
    ap (λ (call : Option Call). came_in (log_of k p ++ left_by call answer (noted (ledger_of k p).notes (events.End steps answer)))) x.1
    ∙ came_more 0 (log_of k p) group
log_own k p event f = refl

own_times : (k : ℕ) (p : Past) (event : Event) → times k is_read (Then p k event) ≡ reads_after event (times k is_read p)
own_times k p (events.Begin call) = let e : (k == k) ≡ true = same_number k in rw e refl
own_times k p (events.Read guard span) = let e : (k == k) ≡ true = same_number k in rw e refl
own_times k p (events.Saw guard slot) = let e : (k == k) ≡ true = same_number k in rw e refl
own_times k p event = refl

own_entry : (c : Config) (k : ℕ) (p : Past) (event : Event) → Told c (Then p k event) → SumsAt k p → SumsAt k (Then p k event)
own_entry c k p event t s =
    let e : (k == k) ≡ true = same_number k in
    let open_is : is_open k (Then p k event) ≡ opened_by event (is_open k p) = rw e refl in
    let came_is : came_of k (Then p k event) ≡ came_by event (came_of k p) = rw e refl in
    let told_is : told_of k (Then p k event) ≡ with_told event (told_of k p) = rw e refl in
    let ledger_is : ledger_of k (Then p k event) ≡ ledger_by event (ledger_of k p) = rw e refl in
    let log_is : came_in (log_of k (Then p k event)) ≡ log_after event (came_in (log_of k p)) =
    ap (λ (x : Ledger). came_in x.log) ledger_is
    ∙ log_own k p event (λ steps answer f.
    let right : answer_right c.buckets (began_of k p) (told_of k p) answer ≡ true = ap (answers_ok c.buckets p k) (sym f) ∙ t.answers_told.0 in
    let b = begun c.buckets (began_of k p) (told_of k p) answer right in
    (b.call, ledger_began k p ∙ b.is)) in
    let now = own_sums p k event (is_open k p) (came_of k p) (came_in (log_of k p)) (brought (told_of k p)) (times k is_read p) refl t.calls.0
    (λ steps answer f. end_of c k p event steps answer f t.calls.0 t.answers_told.0 t.counts.0 t.some) s in
    rw (open_is, came_is, ap brought told_is, told_with event (told_of k p), log_is, own_times k p event) now

other_times : (k i : ℕ) (p : Past) (event : Event) → (k == i) ≡ false → times k is_read (Then p i event) ≡ times k is_read p
other_times k i p (events.Begin call) e = rw e refl
other_times k i p (events.Read guard span) e = rw e refl
other_times k i p (events.Saw guard slot) e = rw e refl
other_times k i p event e = refl

other_entry : (k i : ℕ) (p : Past) (event : Event) → (k == i) ≡ false → SumsAt k p → SumsAt k (Then p i event)
other_entry k i p event e s =
    let times_is = other_times k i p event e in
    let ledger_is : ledger_of k (Then p i event) ≡ ledger_of k p = rw e refl in
    let log_is : came_in (log_of k (Then p i event)) ≡ came_in (log_of k p) = ap (λ (x : Ledger). came_in x.log) ledger_is in
    rw (times_is, log_is, e) s

entry : (c : Config) (k i : ℕ) (p : Past) (event : Event) (same : Bool) → (k == i) ≡ same → Told c (Then p i event) → SumsAt k p → SumsAt k (Then p i event)
entry c k i p event true e t s =
    let here : k ≡ i = number_is k i e in
    subst (λ (n : ℕ). SumsAt k (Then p n event)) here (own_entry c k p event (subst (λ (n : ℕ). Told c (Then p n event)) (sym here) t) s)
entry c k i p event false e t s = other_entry k i p event e s

sums_at : (c : Config) (k : ℕ) (p : Past) → Told c p → SumsAt k p
sums_at c k Start t = record { within = λ o. omega arith; between = λ o. omega arith; read = λ r. omega arith }
sums_at c k (Then p i event) t = entry c k i p event (k == i) refl t (sums_at c k p (told_first c p i event t))

-- where the seat is in no call
pub came_most : (c : Config) (k : ℕ) (p : Past) → Told c p → is_open k p ≡ false → came_of k p ≤ came_in (log_of k p)
came_most c k p t o = (sums_at c k p t).between o

-- What a call has retired since it read a guard last it has retired in all.
record Reads (retires late reads : ℕ) : Type 0 where
  most : (reads == 0) ≡ false → late ≤ retires

own_reads : (event : Event) (retires late reads : ℕ) → Reads retires late reads → Reads (retires_by event retires) (late_by event late) (reads_after event reads)
own_reads (events.Begin call) retires late reads g = record { most = λ r. absurd (no_truth (sym r)) }
own_reads (events.Read guard span) retires late reads g = record { most = λ r. omega arith }
own_reads (events.Saw guard slot) retires late reads g = record { most = λ r. omega arith }
own_reads (events.Retire slot birth retire) retires late reads g = record { most = λ r. let most = g.most r in omega (arith, most) }
own_reads event retires late reads g = record { most = g.most }

abbrev ReadsAt : ℕ → Past → Type 0
ReadsAt k p = Reads (retires_of k p) (late_of k p) (times k is_read p)

reads_entry : (k i : ℕ) (p : Past) (event : Event) (same : Bool) → (k == i) ≡ same → ReadsAt k p → ReadsAt k (Then p i event)
reads_entry k i p event true e g =
    let here : k ≡ i = number_is k i e in
    subst (λ (n : ℕ). ReadsAt k (Then p n event)) here (own k p event g)
  where
    own : (k : ℕ) (p : Past) (event : Event) → ReadsAt k p → ReadsAt k (Then p k event)
    own k p event g =
        let e : (k == k) ≡ true = same_number k in
        let retires_is : retires_of k (Then p k event) ≡ retires_by event (retires_of k p) = rw e refl in
        let late_is : late_of k (Then p k event) ≡ late_by event (late_of k p) = rw e refl in
        rw (retires_is, late_is, own_times k p event) (own_reads event (retires_of k p) (late_of k p) (times k is_read p) g)
reads_entry k i p event false e g =
    let times_is = other_times k i p event e in
    rw (times_is, e) g

reads_at : (k : ℕ) (p : Past) → ReadsAt k p
reads_at k Start = record { most = λ r. omega arith }
reads_at k (Then p i event) = reads_entry k i p event (k == i) refl (reads_at k p)

-- so nothing where its last call only scanned
pub scans_more : (before : Bool) (log : List Group) (group : Group) → scans_from before (log ++ group ∷ []) ≡ is_scanned group.answer
scans_more before [] group = refl
scans_more before (first ∷ log) group = scans_more (is_scanned first.answer) log group

pub none_came : (before : Bool) (came : ℕ) (log : List Group) → (before ≡ true → came ≡ 0) → scans_from before log ≡ true → came_from came log ≡ 0
none_came before came [] f h = f h
none_came before came (group ∷ log) f h = none_came (is_scanned group.answer) (came_after group.answer came) log (one group.answer) h
  where
    one : (answer : Answer) → is_scanned answer ≡ true → came_after answer came ≡ 0
    one (answers.Scanned kept back) s = refl
    one answer s = absurd (no_truth s)

scanned_is : (answer : Answer) → is_scanned answer ≡ true → (kept : ℕ) × ((back : ℕ) × (answer ≡ answers.Scanned kept back))
scanned_is (answers.Scanned kept back) s = (kept, (back, refl))
scanned_is answer s = absurd (no_truth s)

scan_late : (c : Config) (k : ℕ) (p : Past) (steps : ℕ) (answer : Answer) → Told c (Then p k (events.End steps answer)) → is_scanned answer ≡ true → late_of k p ≡ 0
scan_late c k p steps answer t s =
    let x = scanned_is answer s in
    let ends = end_of c k p (events.End steps answer) steps answer refl t.calls.0 t.answers_told.0 t.counts.0 t.some in
    let most = (reads_at k p).most (ends.scans x.0 x.1.0 x.1.1) in
    let none : retires_of k p ≡ retires_for answer = number_is (retires_of k p) (retires_for answer) t.retires.0 in
    let zero_is : retires_for answer ≡ 0 = ap retires_for x.1.1 in
    omega (arith, most, none, zero_is)

late_by_own : (c : Config) (k : ℕ) (p : Past) (event : Event) → Told c (Then p k event) → is_open k (Then p k event) ≡ false → has_scanned (log_of k (Then p k event)) ≡ true → late_of k (Then p k event) ≡ 0
late_by_own c k p (events.Begin call) t f h = let e : (k == k) ≡ true = same_number k in absurd (let now : true ≡ false = rw e at f in no_truth (sym now))
late_by_own c k p (events.End steps answer) t f h =
    let e : (k == k) ≡ true = same_number k in
    let b = begun c.buckets (began_of k p) (told_of k p) answer t.answers_told.0 in
    let call : (ledger_of k p).call ≡ Some b.call = ledger_began k p ∙ b.is in
    let notes : Notes = noted (ledger_of k p).notes (events.End steps answer) in
    let ledger_is : ledger_of k (Then p k (events.End steps answer)) ≡ ledger_by (events.End steps answer) (ledger_of k p) = rw e refl in
    let log_is : has_scanned (log_of k (Then p k (events.End steps answer))) ≡ is_scanned answer =
    ap (λ (x : Ledger). has_scanned x.log) ledger_is
    ∙ ap (λ (x : Option Call). has_scanned (log_of k p ++ left_by x answer notes)) call
    ∙ scans_more false (log_of k p) (record { call = b.call; answer = answer; notes = notes }) in
    let late_is : late_of k (Then p k (events.End steps answer)) ≡ late_of k p = rw e refl in
    late_is ∙ scan_late c k p steps answer t (sym log_is ∙ h)
late_by_own c k p event t f h =
    let e : (k == k) ≡ true = same_number k in
    absurd (let now : is_open k p ≡ false = rw e at f in no_truth (sym now ∙ t.calls.0))

late_entry : (c : Config) (k i : ℕ) (p : Past) (event : Event) (same : Bool) → (k == i) ≡ same → Told c (Then p i event) → (is_open k p ≡ false → has_scanned (log_of k p) ≡ true → late_of k p ≡ 0)
    → is_open k (Then p i event) ≡ false → has_scanned (log_of k (Then p i event)) ≡ true → late_of k (Then p i event) ≡ 0
late_entry c k i p event true e t g f h =
    let here : k ≡ i = number_is k i e in
    subst (λ (j : ℕ). Told c (Then p j event) → is_open k (Then p j event) ≡ false → has_scanned (log_of k (Then p j event)) ≡ true → late_of k (Then p j event) ≡ 0) here
    (λ t f h. late_by_own c k p event t f h) t f h
late_entry c k i p event false e t g f h =
    let ledger_is : ledger_of k (Then p i event) ≡ ledger_of k p = rw e refl in
    let late_is : late_of k (Then p i event) ≡ late_of k p = rw e refl in
    late_is ∙ g (rw e at f) (sym (ap (λ (x : Ledger). has_scanned x.log) ledger_is) ∙ h)

pub none_late : (c : Config) (k : ℕ) (p : Past) → Told c p → is_open k p ≡ false → has_scanned (log_of k p) ≡ true → late_of k p ≡ 0
none_late c k Start t f h = refl
none_late c k (Then p i event) t f h = late_entry c k i p event (k == i) refl t (none_late c k p (told_first c p i event t)) f h

-- Where a seat is in no call, its last call is the one that it began last; so where that is none by which it leaves, it has not left.
last_by : (n : ℕ) (p : Past) (k : ℕ) (event : Event) → (k == k) ≡ true → open_ok p k event ≡ true → answers_ok n p k event ≡ true → is_open k (Then p k event) ≡ false → last_call (log_of k (Then p k event)) ≡ began_of k (Then p k event)
last_by n p k (events.Begin call) e o a f = absurd (let now : true ≡ false = rw e at f in no_truth (sym now))
last_by n p k (events.End steps answer) e o a f =
    let b = begun n (began_of k p) (told_of k p) answer a in
    let call : (ledger_of k p).call ≡ Some b.call = ledger_began k p ∙ b.is in
    let notes : Notes = noted (ledger_of k p).notes (events.End steps answer) in
    let ledger_is : ledger_of k (Then p k (events.End steps answer)) ≡ ledger_by (events.End steps answer) (ledger_of k p) = rw e refl in
    let began_is : began_of k (Then p k (events.End steps answer)) ≡ began_of k p = rw e refl in
    ap (λ (x : Ledger). last_call x.log) ledger_is
    ∙ ap (λ (x : Option Call). last_call (log_of k p ++ left_by x answer notes)) call
    ∙ last_more None (log_of k p) (record { call = b.call; answer = answer; notes = notes })
    ∙ sym b.is ∙ sym began_is
last_by n p k event e o a f = absurd (let now : is_open k p ≡ false = rw e at f in no_truth (sym now ∙ o))

last_entry : (n : ℕ) (k i : ℕ) (p : Past) (event : Event) (same : Bool) → (k == i) ≡ same → open_ok p i event ≡ true → answers_ok n p i event ≡ true → (is_open k p ≡ false → last_call (log_of k p) ≡ began_of k p)
    → is_open k (Then p i event) ≡ false → last_call (log_of k (Then p i event)) ≡ began_of k (Then p i event)
last_entry n k i p event true e o a g f =
    let here : k ≡ i = number_is k i e in
    subst (λ (j : ℕ). open_ok p j event ≡ true → answers_ok n p j event ≡ true → is_open k (Then p j event) ≡ false → last_call (log_of k (Then p j event)) ≡ began_of k (Then p j event)) here
    (λ o a f. last_by n p k event (same_number k) o a f) o a f
last_entry n k i p event false e o a g f =
    let ledger_is : ledger_of k (Then p i event) ≡ ledger_of k p = rw e refl in
    let began_is : began_of k (Then p i event) ≡ began_of k p = rw e refl in
    ap (λ (x : Ledger). last_call x.log) ledger_is ∙ g (rw e at f) ∙ sym began_is

pub last_began : (n : ℕ) (k : ℕ) (p : Past) → Each open_ok p → Each (answers_ok n) p → is_open k p ≡ false → last_call (log_of k p) ≡ began_of k p
last_began n k Start o a f = refl
last_began n k (Then p i event) o a f = last_entry n k i p event (k == i) refl o.0 a.0 (last_began n k p o.1 a.1) f

-- a seat that has left began a call last by which it left
left_by_own : (k : ℕ) (p : Past) (event : Event) → open_ok p k event ≡ true → lists_ok p k event ≡ true → (has_left k p ≡ true → is_leave (began_of k p) ≡ true) → has_left k (Then p k event) ≡ true → is_leave (began_of k (Then p k event)) ≡ true
left_by_own k p (events.Begin call) o l g h =
    let none : has_left k p ≡ false = false_of_not (has_left k p) (rest_of (not (is_open k p)) (not (has_left k p)) o) in
    absurd (no_truth (sym none ∙ h))
left_by_own k p (events.Left count) o l g h =
    let e : (k == k) ≡ true = same_number k in
    rw e (first_of (is_leave (began_of k p)) (count == _) l)
left_by_own k p event o l g h = let e : (k == k) ≡ true = same_number k in rw e (g h)

left_by_other : (k i : ℕ) (p : Past) (event : Event) → (k == i) ≡ false → (has_left k p ≡ true → is_leave (began_of k p) ≡ true) → has_left k (Then p i event) ≡ true → is_leave (began_of k (Then p i event)) ≡ true
left_by_other k i p (events.Left count) e g h = rw e (g (rw e at h))
left_by_other k i p event e g h = rw e (g h)

left_entry : (k i : ℕ) (p : Past) (event : Event) (same : Bool) → (k == i) ≡ same → open_ok p i event ≡ true → lists_ok p i event ≡ true → (has_left k p ≡ true → is_leave (began_of k p) ≡ true) → has_left k (Then p i event) ≡ true → is_leave (began_of k (Then p i event)) ≡ true
left_entry k i p event true e o l g h =
    let here : k ≡ i = number_is k i e in
    subst (λ (j : ℕ). open_ok p j event ≡ true → lists_ok p j event ≡ true → has_left k (Then p j event) ≡ true → is_leave (began_of k (Then p j event)) ≡ true) here
    (λ o l h. left_by_own k p event o l g h) o l h
left_entry k i p event false e o l g h = left_by_other k i p event e g h

pub left_began : (k : ℕ) (p : Past) → Each open_ok p → Each lists_ok p → has_left k p ≡ true → is_leave (began_of k p) ≡ true
left_began k Start o l h = absurd (no_truth h)
left_began k (Then p i event) o l h = left_entry k i p event (k == i) refl o.0 l.0 (left_began k p o.1 l.1) h
