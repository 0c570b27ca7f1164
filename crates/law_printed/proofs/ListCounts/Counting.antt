-- A record whose entries change lists as they may: what is counted is how long the lists are.
use Rattle.std.proofs.Common.{Bool, List, [], ap, arith, false, get_or, get_or-set_other, get_or-set_same, if◌then◌else◌, length, length-append, refl, slice_set, subst, sym, true, ℕ, ◌+◌, ◌++◌, ◌-◌, ◌<◌, ◌≤◌, ◌∙◌, ◌≡◌, ◌≢◌, ◌∷◌}
use Rattle.std.proofs.lemmas.Bool.Decides.{nat_tests}
use Rattle.std.proofs.lemmas.List.{get_or-replicate, length-replicate, length-set}
use Rattle.std.specs.Prelude.{nat_le, nat_lt, not, ◌&&◌, ◌==◌}
use Rattle.law_reuse.proofs.inv.model.Facts.{first_of, number_is, rest_of}
use Rattle.law_reuse.specs.inv.history.Record.{Each, Past, Test}
use Rattle.law_reuse.specs.inv.history.Record.Past.{Start, Then}
use Rattle.law_reuse.specs.inv.model.defs.declared.event.Event.{Event}
use Rattle.law_reuse.specs.inv.model.defs.declared.event.Event.TheVariants as events
use Rattle.law_reuse.specs.inv.model.defs.declared.lifetime.Lifetime.{Lifetime}
use Rattle.law_reuse.specs.laws.Lists.{gained_by, handed_by, list_of, without}
use Rattle.law_printed.specs.ListCounts.Counted.{waiting_of}
use Rattle.wfe_watch.specs.Counts.{capped}
use Rattle.wfe_watch.specs.Lists.{handed_over, lists_after, no_lists, waiting_at}

-- An entry of a seat of the table changes lists as it may: a row that is retired finds room in the list, one that goes back is there
-- once, and what is taken over is the list of another seat of the table, with room for both in one.
abbrev pub lists_fit : (seats slots : ℕ) → Test
lists_fit seats slots p i (events.Retire slot birth retire) = nat_lt i seats && nat_le (length (list_of i p)) slots
lists_fit seats slots p i (events.Back slot) = nat_lt i seats && length (without slot (list_of i p)) + 1 == length (list_of i p)
lists_fit seats slots p i (events.Adopted place count) = (nat_lt i seats && nat_lt place seats) && (not (i == place) && nat_le (length (list_of i p) + length (list_of place p)) (slots + 1))
lists_fit seats slots p i event = true

-- the counts are the lengths of the lists
pub record Counts (seats : ℕ) (counts : List ℕ) (p : Past) : Type 0 where
  pub long : length counts ≡ seats
  pub right : (k : ℕ) → k < seats → waiting_at counts k ≡ length (list_of k p)

set_at : (counts : List ℕ) (i n k : ℕ) (same : Bool) → (k == i) ≡ same → i < length counts → waiting_at (slice_set counts i n) k ≡ (if same then n else waiting_at counts k)
set_at counts i n k true e h = let is : k ≡ i = number_is k i e in ap (λ (m : ℕ). get_or (slice_set counts i n) m 0) is ∙ get_or-set_same counts i n 0 h
set_at counts i n k false e h = let apart : k ≢ i = grind (arith, nat_tests) in get_or-set_other counts i k n 0 apart

-- the list of the seat that tells, and another's
told_own : (p : Past) (i k : ℕ) (event : Event) → (k == i) ≡ true → length (list_of k (Then p i event)) ≡ length (gained_by event (λ (place : ℕ). list_of place p) (list_of i p))
told_own p i k event e = let is : k ≡ i = number_is k i e in rw e (ap (λ (m : ℕ). length (gained_by event (λ (place : ℕ). list_of place p) (list_of m p))) is)

told_other : (p : Past) (i k : ℕ) (event : Event) → (k == i) ≡ false → list_of k (Then p i event) ≡ handed_by k event (list_of k p)
told_other p i k event e = rw e refl

-- one count is set
one_set : (seats : ℕ) (counts : List ℕ) (p : Past) (i n : ℕ) (event : Event) → Counts seats counts p → i < seats → n ≡ length (gained_by event (λ (place : ℕ). list_of place p) (list_of i p))
    → ((k : ℕ) → handed_by k event (list_of k p) ≡ list_of k p) → Counts seats (slice_set counts i n) (Then p i event)
one_set seats counts p i n event c h own others = record { long = length-set counts i n ∙ c.long; right = λ k l. at k (k == i) refl l }
  where
    at : (k : ℕ) (same : Bool) → (k == i) ≡ same → k < seats → waiting_at (slice_set counts i n) k ≡ length (list_of k (Then p i event))
    at k true e l = set_at counts i n k true e (subst (λ (m : ℕ). i < m) (sym c.long) h) ∙ own ∙ sym (told_own p i k event e)
    at k false e l = set_at counts i n k false e (subst (λ (m : ℕ). i < m) (sym c.long) h) ∙ c.right k l ∙ ap length (sym (others k)) ∙ ap length (sym (told_other p i k event e))

-- no count changes
none_set : (seats : ℕ) (counts : List ℕ) (p : Past) (i : ℕ) (event : Event) → Counts seats counts p → gained_by event (λ (place : ℕ). list_of place p) (list_of i p) ≡ list_of i p
    → ((k : ℕ) → handed_by k event (list_of k p) ≡ list_of k p) → Counts seats counts (Then p i event)
none_set seats counts p i event c own others = record { long = c.long; right = λ k l. at k (k == i) refl l }
  where
    at : (k : ℕ) (same : Bool) → (k == i) ≡ same → k < seats → waiting_at counts k ≡ length (list_of k (Then p i event))
    at k true e l = let is : k ≡ i = number_is k i e in ap (waiting_at counts) is ∙ c.right i (subst (λ (m : ℕ). m < seats) is l) ∙ ap length (sym own) ∙ sym (told_own p i k event e)
    at k false e l = c.right k l ∙ ap length (sym (others k)) ∙ ap length (sym (told_other p i k event e))

-- a list is taken over
over_set : (seats slots : ℕ) (counts : List ℕ) (p : Past) (i place count : ℕ) → slots ≤ 65536 → Counts seats counts p → i < seats → place < seats → (i == place) ≡ false → length (list_of i p) + length (list_of place p) ≤ slots + 1
    → Counts seats (handed_over counts i place) (Then p i (events.Adopted place count))
over_set seats slots counts p i place count few c h k apart room = record { long = length-set bare i sum ∙ length-set counts place 0 ∙ c.long; right = λ m l. at m (m == i) (m == place) refl refl l }
  where
    bare : List ℕ
    bare = slice_set counts place 0

    sum : ℕ
    sum = capped (waiting_at bare i + waiting_at counts place)

    here : i < length bare
    here = subst (λ (n : ℕ). i < n) (sym (length-set counts place 0 ∙ c.long)) h

    there : place < length counts
    there = subst (λ (n : ℕ). place < n) (sym c.long) k

    both : sum ≡ length (list_of i p ++ list_of place p)
    both =
        let own : waiting_at bare i ≡ length (list_of i p) = set_at counts place 0 i false apart there ∙ c.right i h in
        let other : waiting_at counts place ≡ length (list_of place p) = c.right place k in
        let all : length (list_of i p ++ list_of place p) ≡ length (list_of i p) + length (list_of place p) = length-append (list_of i p) (list_of place p) in
        omega (arith, own, other, all, room, few)

    at : (m : ℕ) (own other : Bool) → (m == i) ≡ own → (m == place) ≡ other → m < seats → waiting_at (slice_set bare i sum) m ≡ length (list_of m (Then p i (events.Adopted place count)))
    at m true other e f l = set_at bare i sum m true e here ∙ both ∙ sym (told_own p i m (events.Adopted place count) e)
    at m false true e f l =
        let none : length (list_of m (Then p i (events.Adopted place count))) ≡ 0 = ap length (told_other p i m (events.Adopted place count) e) ∙ (rw f refl) in
        set_at bare i sum m false e here ∙ set_at counts place 0 m true f there ∙ sym none
    at m false false e f l =
        let same : length (list_of m (Then p i (events.Adopted place count))) ≡ length (list_of m p) = ap length (told_other p i m (events.Adopted place count) e) ∙ (rw f refl) in
        set_at bare i sum m false e here ∙ set_at counts place 0 m false f there ∙ c.right m l ∙ sym same

-- each entry
seat_low : (i seats : ℕ) → nat_lt i seats ≡ true → i < seats
seat_low i seats h = grind (arith, nat_tests)

retire_set : (seats slots : ℕ) (counts : List ℕ) (p : Past) (i : ℕ) (life : Lifetime) → slots ≤ 65536 → Counts seats counts p → i < seats → nat_le (length (list_of i p)) slots ≡ true
    → Counts seats (slice_set counts i (capped (waiting_at counts i + 1))) (Then p i (events.Retire life.slot life.birth life.retire))
retire_set seats slots counts p i life few c h room =
    let was : waiting_at counts i ≡ length (list_of i p) = c.right i h in
    let all : length (list_of i p ++ life ∷ []) ≡ length (list_of i p) + 1 = length-append (list_of i p) (life ∷ []) in
    let low : length (list_of i p) ≤ slots = grind (arith, nat_tests) in
    one_set seats counts p i (capped (waiting_at counts i + 1)) (events.Retire life.slot life.birth life.retire) c h (omega (arith, was, all, low, few)) (λ k. refl)

back_set : (seats : ℕ) (counts : List ℕ) (p : Past) (i slot : ℕ) → Counts seats counts p → i < seats → (length (without slot (list_of i p)) + 1 == length (list_of i p)) ≡ true
    → Counts seats (slice_set counts i (waiting_at counts i - 1)) (Then p i (events.Back slot))
back_set seats counts p i slot c h once =
    let was : waiting_at counts i ≡ length (list_of i p) = c.right i h in
    let less : length (without slot (list_of i p)) + 1 ≡ length (list_of i p) = number_is (length (without slot (list_of i p)) + 1) (length (list_of i p)) once in
    one_set seats counts p i (waiting_at counts i - 1) (events.Back slot) c h (omega (arith, was, less)) (λ k. refl)

next_counts : (seats slots : ℕ) (counts : List ℕ) (p : Past) (i : ℕ) (event : Event) → slots ≤ 65536 → Counts seats counts p → lists_fit seats slots p i event ≡ true → Counts seats (lists_after counts i event) (Then p i event)
next_counts seats slots counts p i (events.Retire slot birth retire) few c f =
    retire_set seats slots counts p i (record { slot = slot; birth = birth; retire = retire }) few c (seat_low i seats (first_of (nat_lt i seats) (nat_le (length (list_of i p)) slots) f)) (rest_of (nat_lt i seats) (nat_le (length (list_of i p)) slots) f)
next_counts seats slots counts p i (events.Back slot) few c f =
    let once : Bool = length (without slot (list_of i p)) + 1 == length (list_of i p) in
    back_set seats counts p i slot c (seat_low i seats (first_of (nat_lt i seats) once f)) (rest_of (nat_lt i seats) once f)
next_counts seats slots counts p i (events.Adopted place count) few c f =
    let low : i < seats = grind (arith, nat_tests) in
    let there : place < seats = grind (arith, nat_tests) in
    let apart : (i == place) ≡ false = grind (arith, nat_tests) in
    let room : length (list_of i p) + length (list_of place p) ≤ slots + 1 = grind (arith, nat_tests) in
    over_set seats slots counts p i place count few c low there apart room
next_counts seats slots counts p i event few c f = none_set seats counts p i event c refl (λ k. refl)

first_counts : (seats : ℕ) → Counts seats (no_lists seats) Start
first_counts seats = record { long = length-replicate seats 0; right = λ k h. get_or-replicate seats k 0 0 h }

pub counted : (seats slots : ℕ) (p : Past) → slots ≤ 65536 → Each (lists_fit seats slots) p → Counts seats (waiting_of seats p) p
counted seats slots Start few e = first_counts seats
counted seats slots (Then p i event) few e = next_counts seats slots (waiting_of seats p) p i event few (counted seats slots p few e.1) e.0
