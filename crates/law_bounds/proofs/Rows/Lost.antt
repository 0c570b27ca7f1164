-- After a history that leaves no call under way no row is lost: which are taken is read off the World, and that off the record.
use Rattle.std.proofs.Common.{ℕ, zero, suc, ◌≡◌, ◌≤◌, ◌<◌, ◌+◌, ◌/◌, Bool, true, false, List, ◌++◌, length, refl, sym, ap, ◌∙◌, subst, arith, length-append}
use Rattle.std.proofs.lemmas.Bool.Decides.{nat_tests}
use Rattle.std.specs.Prelude.{◌==◌, ◌||◌, nat_lt, nat_le, if◌then◌else◌}
use Rattle.law_all.proofs.Logs.Ledgers.{records_keep_logs}
use Rattle.law_all.proofs.Runs.Kept.{histories_keep}
use Rattle.law_all.proofs.inv.model.Facts.{false_by, first_of, lt_test, no_truth, number_is, same_number, words_below}
use Rattle.law_all.specs.inv.history.History.{Item, made_of, record_of, world_of}
use Rattle.law_all.specs.inv.history.Record.{Each, Past}
use Rattle.law_all.specs.inv.history.Record.Past.{Start, Then}
use Rattle.law_all.specs.inv.model.Calls.{Phase, Idle, Runs, Scans, Works}
use Rattle.law_all.specs.inv.model.Locals.{busy_in}
use Rattle.law_all.specs.inv.model.World.{World, is_busy, list_in}
use Rattle.law_all.specs.inv.model.words.Place.{Place, is_valid}
use Rattle.law_all.specs.inv.model.words.Place.Place.{Row, Tail}
use Rattle.law_all.specs.inv.model.words.declared.config.Config.{Config}
use Rattle.law_all.specs.inv.model.words.declared.layout.Layout.{Layout}
use Rattle.law_all.specs.inv.rows.Agree.{Agree, Words, bit_of, claim_of}
use Rattle.law_all.specs.inv.model.defs.declared.fold.Change.{Change}
use Rattle.law_all.specs.inv.model.defs.declared.lifetime.Lifetime.{Lifetime}
use Rattle.law_all.specs.inv.Contents.Contents.{Contents}
use Rattle.law_all.specs.inv.Contents.Items.{Items}
use Rattle.law_all.specs.inv.rows.Chain.{next_of, past_of, queue_of}
use Rattle.law_all.specs.inv.rows.Hands.{each_once, hand_in, in_list}
use Rattle.law_all.specs.inv.rows.Queue.{InLine, Line, in_queue}
use Rattle.law_all.specs.inv.rows.Rows.{Good, Hand, Status, View, in_hand, is_taken, names}
use Rattle.law_all.specs.inv.rows.Rows.Hand.{Dated, Empty, Known, New, Old, Taken}
use Rattle.law_all.specs.inv.rows.Rows.Status.{Born, Claimed, Cut, Free, InQueue, Linked, Listed, Sealed}
use Rattle.law_all.specs.laws.HistoryTable.{is_in_range, ranges_ok}
use Rattle.law_all.specs.laws.Lists.{list_of}
use Rattle.law_all.specs.laws.StateAt.{bucket_at, head_at, is_one_of, is_open, next_at, one, opened_by, taken_at}
use Rattle.law_all.specs.laws.StructuresAt.{count_of, queued_of, taken_of}
use Rattle.law_held.proofs.NextRows.Behind.{BehindKept, behind_of}
use Rattle.law_held.proofs.Roots.Leads.{Leads, leads_of}
use Rattle.law_reuse.specs.Answers.{IsBooked}
use Rattle.law_reuse.proofs.Lawful.Books.{record_books}
use Rattle.law_reuse.proofs.Once.Keeps.{Keeps, history_keeps}
use Rattle.law_scans.proofs.Ordering.Ordered.{word_of}
use Rattle.law_bounds.specs.Rows.{FewTaken, NoneLost, RecordsLoseNone, RecordsTakeFew, bucket_rows, changed_below, kept_rows, listed_below, listed_rows, open_below, queue_rows, used_at, waiting_at}
use Rattle.law_bounds.proofs.Rows.Apart.{Part, part_as, part_both, same_bool}
use Rattle.law_bounds.proofs.Rows.Chain.{Follows, Leading, chain}
use Rattle.law_bounds.proofs.Rows.Counts.{counted, counted_both, counted_never, counted_once, counted_rows, counted_same, filtered}
use Rattle.law_bounds.proofs.Rows.Parts.{bucket_part, buckets_count, linked_below, listed_part, listed_under, lists_count, never_changed, none_listed}

-- Two readings of the rows that agree with the same words have the same rows taken.
bit_one : (a b : Bool) → bit_of a ≡ bit_of b → a ≡ b
bit_one true true e = refl
bit_one true false e = absurd (omega (arith, e))
bit_one false true e = absurd (omega (arith, e))
bit_one false false e = refl

claim_here : (slots s : ℕ) (x : Status) → nat_le s slots ≡ true → claim_of slots x s ≡ bit_of (is_taken x)
claim_here slots s x e = rw e refl

outside : (slots s : ℕ) (v : View) → Good slots v → nat_le s slots ≡ false → is_taken (v.status s) ≡ false
outside slots s v g e = false_by (is_taken (v.status s)) (λ t. let low : s ≤ slots = g.inside s t in absurd (grind (arith, nat_tests, low, e)))

taken_same : (slots : ℕ) (mem : Place → ℕ) (u v : View) → Good slots u → Good slots v → Words slots mem u → Words slots mem v → (s : ℕ) → is_taken (u.status s) ≡ is_taken (v.status s)
taken_same slots mem u v g h a b s = by (nat_le s slots) refl
  where
    by : (within : Bool) → nat_le s slots ≡ within → is_taken (u.status s) ≡ is_taken (v.status s)
    by true e =
        let low : s ≤ slots = grind (arith, nat_tests, e) in
        let word : s / 64 ≤ slots / 64 = words_below s slots low in
        bit_one (is_taken (u.status s)) (is_taken (v.status s))
        (sym (claim_here slots s (u.status s) e) ∙ sym (a.claims s word) ∙ b.claims s word ∙ claim_here slots s (v.status s) e)
    by false e = outside slots s u g e ∙ sym (outside slots s v h e)

-- Between calls nothing is in hand.
idle_hand : (phase : Phase) → busy_in phase ≡ false → hand_in phase ≡ Empty
idle_hand Idle h = refl
idle_hand (Runs why base) h = absurd (cc)
idle_hand (Scans later at) h = absurd (cc)
idle_hand (Works work) h = absurd (cc)

-- so a row that is taken is linked by a bucket, in the queue, or on a list
settled_status : (buckets seats : ℕ) (x : Status) → ((k : ℕ) → in_hand k x ≡ true → ⊥) → ((b : ℕ) → x ≡ Linked b → b < buckets) → ((k r : ℕ) → x ≡ Listed k r → k < seats)
    → is_taken x ≡ (linked_below buckets x || (in_queue x || listed_under seats x))
settled_status buckets seats Free h b l = refl
settled_status buckets seats (Claimed by) h b l = absurd (h by (same_number by))
settled_status buckets seats (Born by) h b l = absurd (h by (same_number by))
settled_status buckets seats (Linked bucket) h b l = let low : nat_lt bucket buckets ≡ true = lt_test bucket buckets (b bucket refl) in rw low refl
settled_status buckets seats InQueue h b l = refl
settled_status buckets seats (Cut by) h b l = absurd (h by (same_number by))
settled_status buckets seats (Sealed by retire) h b l = absurd (h by (same_number by))
settled_status buckets seats (Listed by retire) h b l = sym (lt_test by seats (l by retire refl))

-- a row is of one kind
linked_only : (buckets seats : ℕ) (x : Status) → linked_below buckets x ≡ true → (in_queue x || listed_under seats x) ≡ true → ⊥
linked_only buckets seats (Linked bucket) h e = absurd (cc)
linked_only buckets seats x h e = absurd (cc)

queued_only : (seats : ℕ) (x : Status) → in_queue x ≡ true → listed_under seats x ≡ true → ⊥
queued_only seats InQueue h e = absurd (cc)
queued_only seats x h e = absurd (cc)

-- What is known where the history has come to.
pub record Rest (c : Config) (rows : View) (p : Past) : Type 0 where
  pub good : Good c.slots rows
  pub taken : (s : ℕ) → taken_at c.slots s p ≡ is_taken (rows.status s)
  pub buckets : Part (λ s. linked_below c.buckets (rows.status s)) (bucket_rows c.buckets p)
  pub changed : length (bucket_rows c.buckets p) ≡ changed_below c.buckets p
  pub bucket : (b s : ℕ) → rows.status s ≡ Linked b → b < c.buckets
  pub queue : Part (λ s. in_queue (rows.status s)) (queue_rows c.slots p)
  pub waits : length (queue_rows c.slots p) ≡ suc (waiting_at p)
  pub listed : Part (λ s. listed_under c.seats (rows.status s)) (listed_rows c.seats p)
  pub seat : (k r s : ℕ) → rows.status s ≡ Listed k r → k < c.seats

-- linked by a bucket, in the queue, or on a list
abbrev is_kept : Config → Status → Bool
is_kept c x = linked_below c.buckets x || (in_queue x || listed_under c.seats x)

all_part : (c : Config) (v : View) (p : Past) (g : Rest c v p) → Part (λ s. is_kept c (v.status s)) (kept_rows c p)
all_part c v p g =
    let status : ℕ → Status = v.status in
    let two : Part (λ s. in_queue (status s) || listed_under c.seats (status s)) (queue_rows c.slots p ++ listed_rows c.seats p) =
    part_both (λ s. in_queue (status s)) (λ s. listed_under c.seats (status s)) (queue_rows c.slots p) (listed_rows c.seats p) g.queue g.listed (λ s h e. queued_only c.seats (status s) h e) in
    part_both (λ s. linked_below c.buckets (status s)) (λ s. in_queue (status s) || listed_under c.seats (status s)) (bucket_rows c.buckets p) (queue_rows c.slots p ++ listed_rows c.seats p) g.buckets two (λ s h e. linked_only c.buckets c.seats (status s) h e)

kept_size : (c : Config) (v : View) (p : Past) → Rest c v p → length (kept_rows c p) ≡ changed_below c.buckets p + (suc (waiting_at p) + listed_below c.seats p)
kept_size c v p g =
    let lists : length (listed_rows c.seats p) ≡ listed_below c.seats p = lists_count c.seats p in
    let changed : length (bucket_rows c.buckets p) ≡ changed_below c.buckets p = g.changed in
    let waits : length (queue_rows c.slots p) ≡ suc (waiting_at p) = g.waits in
    let size : length (kept_rows c p) ≡ length (bucket_rows c.buckets p) + (length (queue_rows c.slots p) + length (listed_rows c.seats p)) =
    length-append (bucket_rows c.buckets p) (queue_rows c.slots p ++ listed_rows c.seats p)
    ∙ ap (λ (n : ℕ). length (bucket_rows c.buckets p) + n) (length-append (queue_rows c.slots p) (listed_rows c.seats p)) in
    size ∙ rw (lists, changed, waits) refl

used_size : (slots : ℕ) (p : Past) → length (used_at slots p) ≡ counted (λ s. taken_at slots s p) 0 (slots + 1)
used_size slots p = filtered (λ s. taken_at slots s p) 0 (slots + 1)

-- Nothing is in hand.
abbrev BareHands : View → Type 0
BareHands v = (k s : ℕ) → in_hand k (v.status s) ≡ true → ⊥

kept_part : (c : Config) (v : View) (p : Past) (g : Rest c v p) → BareHands v → Part (λ s. is_taken (v.status s)) (kept_rows c p)
kept_part c v p g h =
    part_as (λ s. is_kept c (v.status s)) (λ s. is_taken (v.status s)) (kept_rows c p)
    (λ s. sym (settled_status c.buckets c.seats (v.status s) (λ k. h k s) (λ b e. g.bucket b s e) (λ k r e. g.seat k r s e))) (all_part c v p g)

pub none_lost : (c : Config) (v : View) (p : Past) (g : Rest c v p) → BareHands v → NoneLost c p
none_lost c v p g h =
    let part = kept_part c v p g h in
    let taken : (s : ℕ) → taken_at c.slots s p ≡ is_one_of s (kept_rows c p) = λ s. g.taken s ∙ sym (part.is s) in
    let count : length (used_at c.slots p) ≡ length (kept_rows c p) =
    used_size c.slots p ∙ counted_same (λ s. taken_at c.slots s p) (λ s. is_one_of s (kept_rows c p)) 0 (c.slots + 1) taken
    ∙ counted_rows (kept_rows c p) 0 (c.slots + 1) part.apart (λ s e. let low : s ≤ c.slots = g.good.inside s (sym (part.is s) ∙ e) in (omega arith, omega arith)) in
    record { taken = taken; apart = part.apart; buckets = g.changed; queue = g.waits; number = count ∙ kept_size c v p g }

-- Whatever is in hand: a seat has one row at most.
abbrev handed_under : (below : ℕ) → Status → Bool
handed_under n Free = false
handed_under n (Claimed by) = nat_lt by n
handed_under n (Born by) = nat_lt by n
handed_under n (Linked bucket) = false
handed_under n InQueue = false
handed_under n (Cut by) = nat_lt by n
handed_under n (Sealed by retire) = nat_lt by n
handed_under n (Listed by retire) = false

none_under : (x : Status) → handed_under 0 x ≡ false
none_under Free = refl
none_under (Claimed by) = grind (arith, nat_tests)
none_under (Born by) = grind (arith, nat_tests)
none_under (Linked bucket) = refl
none_under InQueue = refl
none_under (Cut by) = grind (arith, nat_tests)
none_under (Sealed by retire) = grind (arith, nat_tests)
none_under (Listed by retire) = refl

one_under : (by n : ℕ) → one (nat_lt by (suc n)) ≡ one (nat_lt by n) + one (by == n)
one_under by n = split (nat_lt by n) (by == n) (nat_lt by (suc n)) refl refl refl
  where
    split : (low same next : Bool) → nat_lt by n ≡ low → (by == n) ≡ same → nat_lt by (suc n) ≡ next → one next ≡ one low + one same
    split true true next a b d = absurd (grind (arith, nat_tests, a, b))
    split true false true a b d = refl
    split true false false a b d = absurd (grind (arith, nat_tests, a, d))
    split false true true a b d = refl
    split false true false a b d = absurd (grind (arith, nat_tests, b, d))
    split false false true a b d = absurd (grind (arith, nat_tests, a, b, d))
    split false false false a b d = refl

more_under : (n : ℕ) (x : Status) → one (handed_under (suc n) x) ≡ one (handed_under n x) + one (in_hand n x)
more_under n Free = refl
more_under n (Claimed by) = one_under by n
more_under n (Born by) = one_under by n
more_under n (Linked bucket) = refl
more_under n InQueue = refl
more_under n (Cut by) = one_under by n
more_under n (Sealed by retire) = one_under by n
more_under n (Listed by retire) = refl

-- a row that is taken is kept or in hand
taken_status : (c : Config) (x : Status) → ((k : ℕ) → in_hand k x ≡ true → k < c.seats) → ((b : ℕ) → x ≡ Linked b → b < c.buckets) → ((k r : ℕ) → x ≡ Listed k r → k < c.seats)
    → one (is_taken x) ≡ one (is_kept c x) + one (handed_under c.seats x)
taken_status c Free h b l = refl
taken_status c (Claimed by) h b l = let low : nat_lt by c.seats ≡ true = lt_test by c.seats (h by (same_number by)) in rw low refl
taken_status c (Born by) h b l = let low : nat_lt by c.seats ≡ true = lt_test by c.seats (h by (same_number by)) in rw low refl
taken_status c (Linked bucket) h b l = let low : nat_lt bucket c.buckets ≡ true = lt_test bucket c.buckets (b bucket refl) in rw low refl
taken_status c InQueue h b l = refl
taken_status c (Cut by) h b l = let low : nat_lt by c.seats ≡ true = lt_test by c.seats (h by (same_number by)) in rw low refl
taken_status c (Sealed by retire) h b l = let low : nat_lt by c.seats ≡ true = lt_test by c.seats (h by (same_number by)) in rw low refl
taken_status c (Listed by retire) h b l = let low : nat_lt by c.seats ≡ true = lt_test by c.seats (l by retire refl) in rw low refl

named_one : (h : Hand) (s t : ℕ) → names h s ≡ true → names h t ≡ true → s ≡ t
named_one Empty s t a b = absurd (cc)
named_one (New slot) s t a b = sym (number_is slot s a) ∙ number_is slot t b
named_one (Taken slot) s t a b = sym (number_is slot s a) ∙ number_is slot t b
named_one (Old slot) s t a b = sym (number_is slot s a) ∙ number_is slot t b
named_one (Known slot birth) s t a b = sym (number_is slot s a) ∙ number_is slot t b
named_one (Dated slot birth retire) s t a b = sym (number_is slot s a) ∙ number_is slot t b

-- which seats have a row in hand
pub record Handed (c : Config) (v : View) (p : Past) : Type 0 where
  pub good : Good c.slots v
  pub busy : (k s : ℕ) → in_hand k (v.status s) ≡ true → is_open k p ≡ true
  pub seat : (k : ℕ) → is_open k p ≡ true → k < c.seats

one_hand : (c : Config) (v : View) (p : Past) → Handed c v p → (k n : ℕ) → counted (λ s. in_hand k (v.status s)) 0 n ≤ one (is_open k p)
one_hand c v p g k n = by (is_open k p) refl
  where
    by : (busy : Bool) → is_open k p ≡ busy → counted (λ s. in_hand k (v.status s)) 0 n ≤ one busy
    by true e = counted_once (λ s. in_hand k (v.status s)) 0 n (λ s t a b. named_one (v.hand k) s t (g.good.held k s a) (g.good.held k t b))
    by false e =
        let none : counted (λ s. in_hand k (v.status s)) 0 n ≡ 0 = counted_never (λ s. in_hand k (v.status s)) 0 n (λ s. false_by (in_hand k (v.status s)) (λ a. no_truth (sym e ∙ g.busy k s a))) in
        omega (arith, none)

hands_few : (c : Config) (v : View) (p : Past) → Handed c v p → (m n : ℕ) → counted (λ s. handed_under m (v.status s)) 0 n ≤ open_below m p
hands_few c v p g zero n = let none : counted (λ s. handed_under 0 (v.status s)) 0 n ≡ 0 = counted_never (λ s. handed_under 0 (v.status s)) 0 n (λ s. none_under (v.status s)) in omega (arith, none)
hands_few c v p g (suc m) n =
    let more = hands_few c v p g m n in
    let here = one_hand c v p g m n in
    let split : counted (λ s. handed_under (suc m) (v.status s)) 0 n ≡ counted (λ s. handed_under m (v.status s)) 0 n + counted (λ s. in_hand m (v.status s)) 0 n =
    counted_both (λ s. handed_under (suc m) (v.status s)) (λ s. handed_under m (v.status s)) (λ s. in_hand m (v.status s)) 0 n (λ s. more_under m (v.status s)) in
    omega (arith, more, here, split)

kept_taken : (a b : Bool) (n : ℕ) → one a ≡ one b + n → b ≡ true → a ≡ true
kept_taken true b n e h = refl
kept_taken false b n e h = let here : one b ≡ 1 = ap one h in absurd (omega (arith, e, here))

pub few_taken : (c : Config) (v : View) (p : Past) (g : Rest c v p) → Handed c v p → FewTaken c p
few_taken c v p g h =
    let status : ℕ → Status = v.status in
    let part = all_part c v p g in
    let split : (s : ℕ) → one (taken_at c.slots s p) ≡ one (is_one_of s (kept_rows c p)) + one (handed_under c.seats (status s)) =
    λ s. ap one (g.taken s) ∙ taken_status c (status s) (λ k e. h.seat k (h.busy k s e)) (λ b e. g.bucket b s e) (λ k r e. g.seat k r s e)
    ∙ ap (λ (b : Bool). one b + one (handed_under c.seats (status s))) (sym (part.is s)) in
    let taken : (s : ℕ) → is_one_of s (kept_rows c p) ≡ true → taken_at c.slots s p ≡ true = λ s e. kept_taken (taken_at c.slots s p) (is_one_of s (kept_rows c p)) (one (handed_under c.seats (status s))) (split s) e in
    let kept : counted (λ s. is_one_of s (kept_rows c p)) 0 (c.slots + 1) ≡ length (kept_rows c p) =
    counted_rows (kept_rows c p) 0 (c.slots + 1) part.apart (λ s e. let low : s ≤ c.slots = g.good.inside s (sym (g.taken s) ∙ taken s e) in (omega arith, omega arith)) in
    let size = kept_size c v p g in
    let hands = hands_few c v p h c.seats (c.slots + 1) in
    let all : counted (λ s. taken_at c.slots s p) 0 (c.slots + 1) ≡ counted (λ s. is_one_of s (kept_rows c p)) 0 (c.slots + 1) + counted (λ s. handed_under c.seats (status s)) 0 (c.slots + 1) =
    counted_both (λ s. taken_at c.slots s p) (λ s. is_one_of s (kept_rows c p)) (λ s. handed_under c.seats (status s)) 0 (c.slots + 1) split in
    let used : length (used_at c.slots p) ≡ counted (λ s. taken_at c.slots s p) 0 (c.slots + 1) = used_size c.slots p in
    record { taken = taken; apart = part.apart; number = omega (arith, kept, size, hands, all, used) }

-- The parts of it, one by one.
pub record Facts (c : Config) (w : World) (v : View) (l : Line) (p : Past) : Type 0 where
  pub good : Good c.slots v
  pub agree : Agree w v
  pub line : InLine (queue_of v) (past_of v) l (next_of w.mem) v.head (w.mem Tail)
  pub items : Items w v l
  pub contents : Contents w v
  pub leads : Leads c.slots w.mem p
  pub nexts : (s : ℕ) → l.lined s ≡ true → word_of (next_at s p) ≡ w.mem (Row s 0)
  pub books : IsBooked w p
  pub lists : (k : ℕ) → list_of k p ≡ list_in w k
  pub ranges : Each (ranges_ok c) p
  pub calls : (k : ℕ) → is_open k p ≡ is_busy w k

-- a seat that has a row in hand is in a call
in_call : (c : Config) (w : World) (v : View) (l : Line) (p : Past) → Facts c w v l p → (k s : ℕ) → in_hand k (v.status s) ≡ true → is_open k p ≡ true
in_call c w v l p g k s h = by (busy_in (w.seat k).phase) refl
  where
    by : (busy : Bool) → busy_in (w.seat k).phase ≡ busy → is_open k p ≡ true
    by true e = g.calls k ∙ e
    by false e =
        let hand : v.hand k ≡ Empty = (g.agree.plays k).hand ∙ idle_hand (w.seat k).phase e in
        let named : names (v.hand k) s ≡ true = g.good.held k s h in
        let none : false ≡ true = ap (λ (x : Hand). names x s) (sym hand) ∙ named in
        absurd (no_truth none)

-- which is one of the table's
open_seat : (c : Config) (k : ℕ) (p : Past) → Each (ranges_ok c) p → is_open k p ≡ true → k < c.seats
open_seat c k Start h o = absurd (no_truth o)
open_seat c k (Then p i event) h o = by (k == i) refl o (open_seat c k p h.1)
  where
    by : (same : Bool) → (k == i) ≡ same → (if same then opened_by event (is_open k p) else is_open k p) ≡ true → (is_open k p ≡ true → k < c.seats) → k < c.seats
    by true e o f =
        let low : nat_lt i c.seats ≡ true = first_of (nat_lt i c.seats) (is_in_range c event) h.0 in
        grind (arith, nat_tests, e, low)
    by false e o f = f o

handed : (c : Config) (w : World) (v : View) (l : Line) (p : Past) → Facts c w v l p → Handed c v p
handed c w v l p g = record { good = g.good; busy = in_call c w v l p g; seat = λ k o. open_seat c k p g.ranges o }

bucket_words : (c : Config) (w : World) (v : View) (l : Line) (p : Past) → Facts c w v l p → (b : ℕ) → word_of (bucket_at b p) ≡ v.root b
bucket_words c w v l p g b = g.leads.buckets b ∙ g.agree.words.roots b

bucket_empty : (c : Config) (w : World) (v : View) (l : Line) (p : Past) → Facts c w v l p → (b : ℕ) → (v.root b == 0) ≡ (count_of b p == 0)
bucket_empty c w v l p g b = g.contents.rows.empty b ∙ ap (λ (xs : List Change). length xs == 0) (sym (g.books.changes b))

bucket_within : (c : Config) (w : World) (v : View) (l : Line) (p : Past) → Facts c w v l p → (b s : ℕ) → v.status s ≡ Linked b → b < c.buckets
bucket_within c w v l p g b s e = by (nat_lt b c.buckets) refl
  where
    by : (low : Bool) → nat_lt b c.buckets ≡ low → b < c.buckets
    by true f = grind (arith, nat_tests, f)
    by false f =
        let high : c.buckets ≤ b = grind (arith, nat_tests, f) in
        let none : (count_of b p == 0) ≡ true = ap (λ (xs : List Change). length xs == 0) (never_changed c b p high g.ranges) in
        let null : v.root b ≡ 0 = number_is (v.root b) 0 (bucket_empty c w v l p g b ∙ none) in
        let some : v.root b ≡ s + 1 = g.good.linked b s e in
        absurd (omega (arith, null, some))

-- the queue
leading : (c : Config) (w : World) (v : View) (l : Line) (p : Past) → Facts c w v l p → Leading (queue_of v) (past_of v) l (next_of w.mem) v.head (w.mem Tail) (length (queued_of p)) p
leading c w v l p g =
    let same : length w.book.queued ≡ length (queued_of p) = ap length (sym g.books.queued) in
    record {
      line = g.line;
      links = λ s q. g.nexts s (g.line.lined s q);
      last = λ s q null. g.items.rows.last s q null ∙ same;
      within = λ s q. let low = g.items.rows.within s (g.line.lined s q) in omega (arith, low, same);
    }

pub record Queued (c : Config) (v : View) (l : Line) (p : Past) : Type 0 where
  pub head : v.head ≡ head_at c.slots p + 1
  pub first : queue_of v (head_at c.slots p) ≡ true
  pub rest : l.number (head_at c.slots p) + waiting_at p ≡ length (queued_of p)

queued : (c : Config) (w : World) (v : View) (l : Line) (p : Past) → Facts c w v l p → Queued c v l p
queued c w v l p g =
    let h : ℕ = head_at c.slots p in
    let head : v.head ≡ h + 1 = sym (g.leads.head ∙ g.agree.words.head) in
    let first : queue_of v h ≡ true = g.line.first h head in
    let number : l.number h ≡ taken_of p = g.items.rows.first h head ∙ sym g.books.taken in
    let low : l.number h ≤ length (queued_of p) = (leading c w v l p g).within h first in
    record { head = head; first = first; rest = omega (arith, number, low) }

queue_follows : (c : Config) (w : World) (v : View) (l : Line) (p : Past) → Facts c w v l p → Follows (queue_of v) l.number (l.number (head_at c.slots p)) (suc (waiting_at p)) (queue_rows c.slots p)
queue_follows c w v l p g =
    let q = queued c w v l p g in
    chain (queue_of v) (past_of v) l (next_of w.mem) v.head (w.mem Tail) (length (queued_of p)) p (leading c w v l p g) (waiting_at p) (head_at c.slots p) q.first q.rest

queue_part : (c : Config) (w : World) (v : View) (l : Line) (p : Past) → Facts c w v l p → Part (λ s. in_queue (v.status s)) (queue_rows c.slots p)
queue_part c w v l p g =
    let f = queue_follows c w v l p g in
    let q = queued c w v l p g in
    record {
      is = λ s. same_bool (is_one_of s (queue_rows c.slots p)) (in_queue (v.status s)) (λ e. (f.within s e).0) (λ e. f.all s e (g.line.least s (head_at c.slots p) q.head e));
      apart = f.apart;
    }

-- the lists
own_entries : (c : Config) (w : World) (v : View) (l : Line) (p : Past) → Facts c w v l p → (k s b r : ℕ) → v.lists k s b r ≡ in_list (list_of k p) s b r
own_entries c w v l p g k s b r = (g.agree.plays k).lists s b r ∙ ap (λ (xs : List Lifetime). in_list xs s b r) (sym (g.lists k))

own_once : (c : Config) (w : World) (v : View) (l : Line) (p : Past) → Facts c w v l p → (k : ℕ) → each_once (list_of k p) ≡ true
own_once c w v l p g k = ap each_once (g.lists k) ∙ (g.agree.plays k).once

seat_within : (c : Config) (w : World) (v : View) (l : Line) (p : Past) → Facts c w v l p → (k r s : ℕ) → v.status s ≡ Listed k r → k < c.seats
seat_within c w v l p g k r s e = by (nat_lt k c.seats) refl
  where
    by : (low : Bool) → nat_lt k c.seats ≡ low → k < c.seats
    by true f = grind (arith, nat_tests, f)
    by false f =
        let high : c.seats ≤ k = grind (arith, nat_tests, f) in
        let there : in_list (list_of k p) s (v.birth s) r ≡ true = sym (own_entries c w v l p g k s (v.birth s) r) ∙ g.good.lists k s r e in
        let none : false ≡ true = ap (λ (xs : List Lifetime). in_list xs s (v.birth s) r) (sym (none_listed c k p high g.ranges)) ∙ there in
        absurd (no_truth none)

rest : (c : Config) (w : World) (v : View) (l : Line) (p : Past) → Facts c w v l p → ((s : ℕ) → taken_at c.slots s p ≡ is_taken (v.status s)) → Rest c v p
rest c w v l p g taken = record {
  good = g.good;
  taken = taken;
  buckets = bucket_part v.status v.root p (bucket_words c w v l p g) g.good.roots g.good.linked c.buckets;
  changed = buckets_count v.root p (bucket_words c w v l p g) (bucket_empty c w v l p g) c.buckets;
  bucket = bucket_within c w v l p g;
  queue = queue_part c w v l p g;
  waits = (queue_follows c w v l p g).long;
  listed = listed_part v.status v.birth v.lists p (own_entries c w v l p g) (own_once c w v l p g) g.good.listed g.good.lists c.seats;
  seat = seat_within c w v l p g;
}

-- of a history
facts : (layout : Layout) (items : List Item) → is_valid layout ≡ true → (g : BehindKept layout (made_of layout items)) (k : Keeps layout (made_of layout items))
    → Facts layout.config (world_of layout items) g.rows g.line (record_of layout items)
facts layout items d g k = record {
  good = subst (λ (table : Layout). Good table.config.slots g.rows) g.table g.known.whole.both.rows.good;
  agree = g.known.whole.both.rows;
  line = g.known.whole.both.queue.line;
  items = g.known.items;
  contents = g.known.contents;
  leads = leads_of layout items d;
  nexts = g.nexts.next;
  books = record_books layout items d;
  lists = k.shows.lists;
  ranges = (histories_keep layout items d).ranges;
  calls = λ i. (records_keep_logs layout items i d).busy;
}

taken_is : (layout : Layout) (items : List Item) (g : BehindKept layout (made_of layout items)) (k : Keeps layout (made_of layout items)) (s : ℕ)
    → taken_at layout.config.slots s (record_of layout items) ≡ is_taken (g.rows.status s)
taken_is layout items g k s =
    let w : World = world_of layout items in
    let a : Agree w g.rows = g.known.whole.both.rows in
    let b : Agree w k.rows = k.known.whole.both.rows in
    subst (λ (table : Layout). taken_at table.config.slots s (record_of layout items) ≡ is_taken (g.rows.status s)) g.table
    (k.shows.taken s ∙ taken_same w.layout.config.slots w.mem k.rows g.rows b.good a.good b.words a.words s)

pub records_take_few : RecordsTakeFew
records_take_few layout items d =
    let g = behind_of layout items d in
    let k = history_keeps layout items d in
    let f = facts layout items d g k in
    few_taken layout.config g.rows (record_of layout items)
    (rest layout.config (world_of layout items) g.rows g.line (record_of layout items) f (taken_is layout items g k))
    (handed layout.config (world_of layout items) g.rows g.line (record_of layout items) f)

pub records_lose_none : RecordsLoseNone
records_lose_none layout items a =
    let g = behind_of layout items a.valid in
    let k = history_keeps layout items a.valid in
    let f = facts layout items a.valid g k in
    none_lost layout.config g.rows (record_of layout items)
    (rest layout.config (world_of layout items) g.rows g.line (record_of layout items) f (taken_is layout items g k))
    (λ i s h. no_truth (sym (f.calls i ∙ a.idle i) ∙ in_call layout.config (world_of layout items) g.rows g.line (record_of layout items) f i s h))
