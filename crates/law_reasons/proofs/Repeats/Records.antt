-- What a record says of how often a call has found its root, and of what makes it begin anew, after what a step tells.
use Rattle.std.proofs.Common.{ℕ, ◌≡◌, ◌≤◌, ◌+◌, Bool, true, false, List, [], ◌∷◌, Option, Some, refl, sym, ap, ◌∙◌, arith}
use Rattle.std.proofs.lemmas.Bool.Decides.{nat_tests}
use Rattle.std.specs.Prelude.{◌==◌, ◌&&◌, nat_le, if◌then◌else◌}
use Rattle.law_scans.specs.inv.model.words.declared.config.Config.{Config}
use Rattle.law_scans.specs.inv.model.defs.declared.call.Call.{Call}
use Rattle.law_scans.specs.inv.model.defs.declared.call.Call.TheVariants as calls
use Rattle.law_scans.specs.inv.model.defs.declared.event.Event.{Event}
use Rattle.law_scans.specs.inv.model.defs.declared.event.Event.TheVariants as events
use Rattle.law_scans.specs.inv.model.defs.declared.event.Root.TheVariants as roots
use Rattle.law_scans.specs.inv.model.Locals.{found_by, rounds_told}
use Rattle.law_scans.proofs.inv.model.Facts.{same_number, first_of, rest_of}
use Rattle.law_scans.specs.inv.history.Record.{Past, begins, value_since, tells_of}
use Rattle.law_scans.specs.inv.history.Record.Past.{Start, Then}
use Rattle.law_scans.specs.laws.StateAt.{began_by, began_of, finds_root, finds_of, tails_by, tails_of}
use Rattle.law_scans.specs.laws.StructuresAt.{bucket_of, taken_of}
use Rattle.law_scans.proofs.inv.history.AllOf.{all_of}
use Rattle.law_scans.proofs.inv.Machines.{is_within, within_begins}
use Rattle.law_scans.proofs.laws.Tells.{seen_own}
use Rattle.law_reasons.proofs.Reasons.Later.{later_all, later_same, more_queued, more_count}
use Rattle.law_reasons.proofs.Full.Since.{others_begin, others_own}
use Rattle.law_scans.specs.laws.HistoryScans.{Search, search_by, no_search, search_of}
use Rattle.law_scans.specs.laws.AnswerLaw.{moves_of, moves_before}
use Rattle.law_scans.specs.laws.HistoryAnswers.{whole_scan}
use Rattle.law_scans.proofs.reuse.AnswersTold.Answering.{one_began}
use Rattle.law_reasons.proofs.Repeats.Finds.{row_none}

-- finds
one_found : (i index n : ℕ) → (if (index == 0) && (i == i) then n + 1 else n) ≡ (if index == 0 then n + 1 else n)
one_found i index n = rw (same_number i) (by (index == 0))
  where
    by : (x : Bool) → (if x && true then n + 1 else n) ≡ (if x then n + 1 else n)
    by true = refl
    by false = refl

finds_own : (i : ℕ) (p : Past) (event : Event) → is_within event ≡ true → finds_of i (Then p i event) ≡ found_by false (finds_of i p) event
finds_own i p (events.Begin call) h = absurd (cc)
finds_own i p (events.Held index slot steps) h = one_found i index (finds_of i p)
finds_own i p (events.Null index steps) h = one_found i index (finds_of i p)
finds_own i p (events.Hazard guard slot) h = sym (row_none (finds_of i p) guard slot)
finds_own i p event h = refl

pub finds_tells : (i : ℕ) (told : List Event) (p : Past) → all_of is_within told ≡ true → finds_of i (tells_of p i told) ≡ rounds_told false (finds_of i p) told
finds_tells i [] p h = refl
finds_tells i (event ∷ told) p h =
    finds_tells i told (Then p i event) (rest_of (is_within event) (all_of is_within told) h) ∙ ap (λ (n : ℕ). rounds_told false n told) (finds_own i p event (first_of (is_within event) (all_of is_within told) h))

pub finds_others : (k i : ℕ) (told : List Event) (p : Past) → (k == i) ≡ false → finds_of k (tells_of p i told) ≡ finds_of k p
finds_others k i [] p e = refl
finds_others k i (event ∷ told) p e = finds_others k i told (Then p i event) e ∙ rw (others_begin k i p event e, others_own k i finds_root p event e) refl

began_own : (k i : ℕ) (p : Past) (event : Event) → is_within event ≡ true → began_of k (Then p i event) ≡ began_of k p
began_own k i p event h = by (k == i)
  where
    by : (same : Bool) → (if same then began_by event (began_of k p) else began_of k p) ≡ began_of k p
    by true = one_began event (began_of k p) h
    by false = refl

pub began_stays : (k i : ℕ) (told : List Event) (p : Past) → all_of is_within told ≡ true → began_of k (tells_of p i told) ≡ began_of k p
began_stays k i [] p h = refl
began_stays k i (event ∷ told) p h = began_stays k i told (Then p i event) (rest_of (is_within event) (all_of is_within told) h) ∙ began_own k i p event (first_of (is_within event) (all_of is_within told) h)

value_stays : (f : Past → ℕ) (k i : ℕ) (told : List Event) (p : Past) → all_of is_within told ≡ true → value_since (begins k) f (tells_of p i told) ≡ value_since (begins k) f p
value_stays f k i [] p h = refl
value_stays f k i (event ∷ told) p h =
    value_stays f k i told (Then p i event) (rest_of (is_within event) (all_of is_within told) h) ∙ rw (within_begins k i p event (first_of (is_within event) (all_of is_within told) h)) refl

pub before_stays : (c : Config) (k i : ℕ) (told : List Event) (p : Past) → all_of is_within told ≡ true → moves_before c k (tells_of p i told) ≡ moves_before c k p
before_stays c k i told p h =
    ap (λ (call : Option Call). value_since (begins k) (moves_of c call) (tells_of p i told)) (began_stays k i told p h) ∙ value_stays (moves_of c (began_of k p)) k i told p h

-- of other calls nothing is counted
abbrev pub is_counted : Call → Bool
is_counted (calls.Put key value) = true
is_counted (calls.Remove key) = true
is_counted (calls.PutIf key value version) = true
is_counted (calls.Enqueue value) = true
is_counted calls.Dequeue = true
is_counted call = false

zero_if : (x : Bool) (n : ℕ) → n ≡ 0 → (if x then 0 else n) ≡ 0
zero_if true n e = refl
zero_if false n e = e

value_zero : (k : ℕ) (p : Past) → value_since (begins k) (λ q. 0) p ≡ 0
value_zero k Start = refl
value_zero k (Then p i event) = zero_if (begins k p i event) (value_since (begins k) (λ q. 0) p) (value_zero k p)

plain_zero : (c : Config) (k : ℕ) (p : Past) (call : Call) → is_counted call ≡ false → value_since (begins k) (moves_of c (Some call)) p ≡ 0
plain_zero c k p (calls.Put key value) h = absurd (cc)
plain_zero c k p (calls.Remove key) h = absurd (cc)
plain_zero c k p (calls.PutIf key value version) h = absurd (cc)
plain_zero c k p (calls.Enqueue value) h = absurd (cc)
plain_zero c k p calls.Dequeue h = absurd (cc)
plain_zero c k p call h = value_zero k p

pub before_zero : (c : Config) (k : ℕ) (p : Past) (call : Call) → began_of k p ≡ Some call → is_counted call ≡ false → moves_before c k p ≡ 0
before_zero c k p call e h = ap (λ (x : Option Call). value_since (begins k) (moves_of c x) p) e ∙ plain_zero c k p call h

-- what makes a call begin anew never falls
one_taken : (p : Past) (i : ℕ) (event : Event) → taken_of p ≤ taken_of (Then p i event)
one_taken p i (events.Taken number value) = omega arith
one_taken p i event = omega arith

one_tail : (event : Event) (n : ℕ) → n ≤ tails_by event n
one_tail (events.Link roots.Tail slot) n = omega arith
one_tail (events.Link roots.Head slot) n = omega arith
one_tail (events.Link (roots.Bucket bucket) slot) n = omega arith
one_tail (events.Link (roots.Next parent) slot) n = omega arith
one_tail event n = omega arith

pub taken_grows : (i : ℕ) (told : List Event) (p : Past) → taken_of p ≤ taken_of (tells_of p i told)
taken_grows i [] p = omega arith
taken_grows i (event ∷ told) p = let a = one_taken p i event in let b = taken_grows i told (Then p i event) in omega (arith, a, b)

pub tails_grow : (i : ℕ) (told : List Event) (p : Past) → tails_of p ≤ tails_of (tells_of p i told)
tails_grow i [] p = omega arith
tails_grow i (event ∷ told) p = let a = one_tail event (tails_of p) in let b = tails_grow i told (Then p i event) in omega (arith, a, b)

pub moves_grow : (c : Config) (call : Option Call) (i : ℕ) (told : List Event) (p : Past) → all_of is_within told ≡ true → moves_of c call p ≤ moves_of c call (tells_of p i told)
moves_grow c (Some (calls.Put key value)) i told p h = more_count i (bucket_of c.buckets key) p (tells_of p i told) (later_all i i p p told h (later_same i p))
moves_grow c (Some (calls.Remove key)) i told p h = more_count i (bucket_of c.buckets key) p (tells_of p i told) (later_all i i p p told h (later_same i p))
moves_grow c (Some (calls.PutIf key value version)) i told p h = more_count i (bucket_of c.buckets key) p (tells_of p i told) (later_all i i p p told h (later_same i p))
moves_grow c (Some (calls.Enqueue value)) i told p h =
    let a = more_queued i p (tells_of p i told) (later_all i i p p told h (later_same i p)) in let b = tails_grow i told p in omega (arith, a, b)
moves_grow c (Some calls.Dequeue) i told p h = let a = taken_grows i told p in let b = tails_grow i told p in omega (arith, a, b)
moves_grow c call i told p h = omega arith

-- and so the guards that were read
one_read : (event : Event) (x : Search) → is_within event ≡ true → x.reads ≤ (search_by event x).reads
one_read (events.Begin call) x h = absurd (cc)
one_read (events.Read guard span) x h = omega arith
one_read (events.Saw guard slot) x h = omega arith
one_read event x h = omega arith

reads_grow : (i : ℕ) (told : List Event) (p : Past) → all_of is_within told ≡ true → (search_of i p).reads ≤ (search_of i (tells_of p i told)).reads
reads_grow i [] p h = omega arith
reads_grow i (event ∷ told) p h =
    let a = one_read event (search_of i p) (first_of (is_within event) (all_of is_within told) h) in
    let e : (search_of i (Then p i event)).reads ≡ (search_by event (search_of i p)).reads = ap (λ (x : Search). x.reads) (seen_own search_by no_search i p event) in
    let b = reads_grow i told (Then p i event) (rest_of (is_within event) (all_of is_within told) h) in
    omega (arith, a, b, e)

whole_by : (all n m : ℕ) (x y : Bool) → nat_le all n ≡ x → nat_le all m ≡ y → n ≤ m → (if x then 1 else 0) ≤ (if y then 1 else 0)
whole_by all n m true true e f l = omega arith
whole_by all n m true false e f l = absurd (grind (arith, nat_tests))
whole_by all n m false y e f l = omega arith

pub whole_grows : (all i : ℕ) (told : List Event) (p : Past) → all_of is_within told ≡ true → whole_scan all (search_of i p) ≤ whole_scan all (search_of i (tells_of p i told))
whole_grows all i told p h =
    whole_by all (search_of i p).reads (search_of i (tells_of p i told)).reads (nat_le all (search_of i p).reads) (nat_le all (search_of i (tells_of p i told)).reads) refl refl (reads_grow i told p h)

pub whole_once : (all : ℕ) (x : Search) (walked : Bool) → x.reads ≡ (if walked then all else 0) → (if walked then 1 else 0) ≤ whole_scan all x
whole_once all x true e = let q : nat_le all x.reads ≡ true = grind (arith, nat_tests) in rw q (omega arith)
whole_once all x false e = omega arith
