-- From the head the next links lead through the rows of the values that are left, by their numbers, and through no more rows than
-- the table has.
use Rattle.std.proofs.Common.{Bool, List, ◌∷◌, ap, arith, drop, false, length, map, refl, suc, true, zero, ℕ, ◌+◌, ◌-◌, ◌<◌, ◌≤◌, ◌∙◌, ◌≡◌}
use Rattle.std.proofs.Math.Seq.{drop-cons}
use Rattle.std.proofs.lemmas.List.{drop_all}
use Rattle.std.proofs.lemmas.List.Folds.{list_any_at}
use Rattle.std.proofs.lemmas.List.FromFn.{get_or-map-range_with_len, length-map-range_with_len}
use Rattle.std.proofs.lemmas.Map.Steps.{le-length_from_below}
use Rattle.std.specs.List.{list_any, range_with_len}
use Rattle.std.specs.Prelude.{slice_index_or, ◌==◌}
use Rattle.law_reasons.specs.inv.Inv.{Inv}
use Rattle.law_reasons.specs.inv.Contents.Reads.{value_under}
use Rattle.law_reasons.specs.inv.rows.Chain.{queue_of}
use Rattle.law_reasons.specs.inv.rows.Queue.{in_queue}
use Rattle.law_reasons.specs.inv.rows.Rows.{Status, is_taken}
use Rattle.law_reasons.specs.inv.rows.Rows.Status.{Free, Claimed, Born, Linked, InQueue, Cut, Sealed, Listed}
use Rattle.laws.specs.StructuresAt.{numbered_from}
use Rattle.wfe_core.proofs.Facts.{one_less_one_more, same_test, zero_of_test}
use Rattle.wfe_core.specs.World.{World}
use Rattle.wfe_core.specs.words.Place.{Place, row_count}
use Rattle.wfe_core.specs.words.Place.Place.{Head, Row}
use Rattle.wfe_table_end.specs.Contents.{items_after}
use Rattle.wfe_table_end.proofs.Items.{items_none, items_some}

-- which rows are in the queue, and their numbers: links lead on by one number, up to the last value; each shows number and value
pub record Leads (mem : Place → ℕ) (slots : ℕ) (queued : List ℕ) (q : ℕ → Bool) (number : ℕ → ℕ) : Type 0 where
  pub inside : (slot : ℕ) → q slot ≡ true → slot ≤ slots
  pub last : (slot : ℕ) → q slot ≡ true → mem (Row slot 0) ≡ 0 → number slot ≡ length queued
  pub links : (slot next : ℕ) → q slot ≡ true → mem (Row slot 0) ≡ next + 1 → q next ≡ true
  pub rises : (slot next : ℕ) → q slot ≡ true → mem (Row slot 0) ≡ next + 1 → number next ≡ number slot + 1
  pub within : (slot : ℕ) → q slot ≡ true → number slot ≤ length queued
  pub numbers : (slot : ℕ) → q slot ≡ true → mem (Row slot 1) ≡ number slot
  pub values : (slot : ℕ) → q slot ≡ true → 0 < number slot → mem (Row slot 2) ≡ value_under queued (number slot)

-- a row of the queue that has this number
record Holds (q : ℕ → Bool) (number : ℕ → ℕ) (wanted : ℕ) : Type 0 where
  slot : ℕ
  there : q slot ≡ true
  is : number slot ≡ wanted

next_holds : (mem : Place → ℕ) (slots : ℕ) (queued : List ℕ) (q : ℕ → Bool) (number : ℕ → ℕ) (slot : ℕ) (null : Bool) → (mem (Row slot 0) == 0) ≡ null → Leads mem slots queued q number → q slot ≡ true → number slot < length queued → Holds q number (number slot + 1)
next_holds mem slots queued q number slot true e s h low = let last = s.last slot h (zero_of_test (mem (Row slot 0)) e) in absurd (omega arith)
next_holds mem slots queued q number slot false e s h low =
    let next : ℕ = mem (Row slot 0) - 1 in
    let link : mem (Row slot 0) ≡ next + 1 = one_less_one_more (mem (Row slot 0)) e in
    record { slot = next; there = s.links slot next h link; is = s.rises slot next h link }

-- each number from a row's on to the last is that of a row
row_of : (mem : Place → ℕ) (slots : ℕ) (queued : List ℕ) (q : ℕ → Bool) (number : ℕ → ℕ) (first more : ℕ) → Leads mem slots queued q number → q first ≡ true → number first + more ≤ length queued → Holds q number (number first + more)
row_of mem slots queued q number first zero s h low = record { slot = first; there = h; is = omega arith }
row_of mem slots queued q number first (suc more) s h low =
    let before = row_of mem slots queued q number first more s h (omega arith) in
    let after = next_holds mem slots queued q number before.slot (mem (Row before.slot 0) == 0) refl s before.there (omega (arith, before.is)) in
    record { slot = after.slot; there = after.there; is = omega (arith, after.is, before.is) }

-- so there are at most as many as there are rows
pub few_left : (mem : Place → ℕ) (slots : ℕ) (queued : List ℕ) (q : ℕ → Bool) (number : ℕ → ℕ) (first : ℕ) → Leads mem slots queued q number → q first ≡ true → length queued - number first ≤ slots
few_left mem slots queued q number first s h =
    let past : ℕ → ℕ = (λ slot. number slot - number first) in
    let all = map past (range_with_len 0 (slots + 1)) in
    let most = le-length_from_below all (length queued - number first + 1) (λ more low. found more low) in
    omega (arith, most, length-map-range_with_len past 0 (slots + 1), s.within first h)
  where
    found : (more : ℕ) → more < length queued - number first + 1 → list_any (◌==◌ more) (map (λ slot. number slot - number first) (range_with_len 0 (slots + 1))) ≡ true
    found more low =
        let past : ℕ → ℕ = (λ slot. number slot - number first) in
        let row = row_of mem slots queued q number first more s h (omega (arith, s.within first h)) in
        let inside : row.slot < slots + 1 = omega (arith, s.inside row.slot row.there) in
        let at = get_or-map-range_with_len past 0 (slots + 1) row.slot row.slot 0 inside (omega arith) in
        list_any_at (◌==◌ more) (map past (range_with_len 0 (slots + 1))) row.slot 0 (omega (arith, length-map-range_with_len past 0 (slots + 1))) (same_test more _ (omega (arith, at, row.is)))

-- the items after a row are the values after its number, where this holds of the row after it
rest_by : (mem : Place → ℕ) (slots : ℕ) (queued : List ℕ) (q : ℕ → Bool) (number : ℕ → ℕ) (rows slot n : ℕ) (null : Bool) → (mem (Row slot 0) == 0) ≡ null → Leads mem slots queued q number → q slot ≡ true → number slot ≡ n
    → ((next : ℕ) → q next ≡ true → number next ≡ n + 1 → items_after mem rows next ≡ numbered_from (n + 1) (drop (n + 1) queued))
    → items_after mem (suc rows) slot ≡ numbered_from n (drop n queued)
rest_by mem slots queued q number rows slot n true null s h e later =
    let none = zero_of_test (mem (Row slot 0)) null in
    let last = s.last slot h none in
    rw (items_none mem (suc rows) slot none, drop_all n queued (omega arith)) refl
rest_by mem slots queued q number rows slot n false null s h e later =
    let next : ℕ = mem (Row slot 0) - 1 in
    let link : mem (Row slot 0) ≡ next + 1 = one_less_one_more (mem (Row slot 0)) null in
    let there : q next ≡ true = s.links slot next h link in
    let is : number next ≡ n + 1 = s.rises slot next h link ∙ ap (λ (m : ℕ). m + 1) e in
    let shown : mem (Row next 1) ≡ n + 1 = s.numbers next there ∙ is in
    let left : n < length queued = omega (arith, is, s.within next there) in
    let value : mem (Row next 2) ≡ slice_index_or queued n 0 = s.values next there (omega (arith, is)) ∙ ap (λ (m : ℕ). slice_index_or queued m 0) (omega (arith, is)) in
    let on : suc n ≡ n + 1 = omega arith in
    let cut : drop n queued ≡ slice_index_or queued n 0 ∷ drop (n + 1) queued = drop-cons queued n 0 left ∙ ap (λ (m : ℕ). slice_index_or queued n 0 ∷ drop m queued) on in
    rw (items_some mem rows slot (mem (Row slot 0)) refl (omega (arith, link)), shown, value, later next there is, cut) refl

rest_is : (mem : Place → ℕ) (slots : ℕ) (queued : List ℕ) (q : ℕ → Bool) (number : ℕ → ℕ) (rows slot n : ℕ) → Leads mem slots queued q number → q slot ≡ true → number slot ≡ n → length queued - n ≤ rows → items_after mem rows slot ≡ numbered_from n (drop n queued)
rest_is mem slots queued q number zero slot n s h e low = rw (drop_all n queued (omega arith)) refl
rest_is mem slots queued q number (suc rows) slot n s h e low =
    rest_by mem slots queued q number rows slot n (mem (Row slot 0) == 0) refl s h e (λ next there is. rest_is mem slots queued q number rows next (n + 1) s there is (omega arith))

-- rows in the queue are rows of the table
queue_taken : (status : Status) → in_queue status ≡ true → is_taken status ≡ true
queue_taken Free h = absurd (grind arith)
queue_taken (Claimed by) h = refl
queue_taken (Born by) h = refl
queue_taken (Linked bucket) h = refl
queue_taken InQueue h = refl
queue_taken (Cut by) h = refl
queue_taken (Sealed by retire) h = refl
queue_taken (Listed by retire) h = refl

leads : (w : World) (a : Inv w) → Leads w.mem w.layout.config.slots w.book.queued (queue_of a.rows) a.line.number
leads w a =
    let b = a.known.whole.both in
    let line = b.queue.line in
    let shown = a.known.items.rows in
    record {
      inside = λ slot h. b.rows.good.inside slot (queue_taken (a.rows.status slot) h);
      last = shown.last;
      links = line.links;
      rises = line.rises;
      within = λ slot h. shown.within slot (line.lined slot h);
      numbers = λ slot h. shown.numbers slot (line.lined slot h);
      values = λ slot h. shown.values slot (line.lined slot h);
    }

pub queue_shown : (w : World) → Inv w → items_after w.mem (row_count w.layout) (w.mem Head - 1) ≡ numbered_from w.book.taken (drop w.book.taken w.book.queued)
queue_shown w a =
    let b = a.known.whole.both in
    let head : ℕ = w.mem Head - 1 in
    let link : a.rows.head ≡ head + 1 = omega (arith, b.rows.words.head, b.rows.good.some) in
    let there : queue_of a.rows head ≡ true = b.queue.line.first head link in
    let is : a.line.number head ≡ w.book.taken = a.known.items.rows.first head link in
    let few = few_left w.mem w.layout.config.slots w.book.queued (queue_of a.rows) a.line.number head (leads w a) there in
    rest_is w.mem w.layout.config.slots w.book.queued (queue_of a.rows) a.line.number (row_count w.layout) head w.book.taken (leads w a) there is (omega (arith, is))
