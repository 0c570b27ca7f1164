-- The same of the steps that write a root, the tail, the head or a next link.
use Rattle.std.proofs.Common.{ℕ, ◌∙◌, ◌≡◌, ◌≤◌, ◌+◌, ◌-◌, Bool, true, false, arith, refl, ap, subst}
use Rattle.std.proofs.lemmas.Bool.Decides.{nat_tests}
use Rattle.inv_ends.specs.model.words.Place.{Place, same}
use Rattle.inv_ends.specs.model.words.Place.Place.{Bucket, Head, Tail, Row}
use Rattle.inv_ends.specs.model.Memory.{Store, Cas, written, put}
use Rattle.inv_ends.specs.model.Book.{Book, booked_all}
use Rattle.inv_ends.specs.model.defs.declared.event.Event.{Event}
use Rattle.inv_all.proofs.Rounds.Counts.{book_grows, tally_of}
use Rattle.inv_all.proofs.Rounds.Grows.{Grows}
use Rattle.inv_ends.specs.rows.Queue.{Line}
use Rattle.inv_ends.specs.model.words.declared.config.Config.{Config}
use Rattle.std.specs.Prelude.{List, length, nat_le, if◌then◌else◌, ◌==◌, ◌||◌}
use Rattle.inv_ends.proofs.model.Facts.{same_or, number_is, or_more}

above : (n m : ℕ) → n + 1 ≤ m → nat_le (n + 1) m ≡ true
above n m h = grind (arith, nat_tests, h)

-- the tail moves on to the row after it
pub swing_grows : (c : Config) (mem : Place → ℕ) (book : Book) (told : List Event) (l : Line) (t link : ℕ) → (mem Tail ≡ t + 1 → l.number (link - 1) ≡ l.number t + 1) → Grows (tally_of c mem book l) (tally_of c (written mem (Cas Tail (t + 1) link)) (booked_all book told) l)
swing_grows c mem book told l t link h = by_same (mem Tail == t + 1) refl
  where
    by_same : (b : Bool) → (mem Tail == t + 1) ≡ b → Grows (tally_of c mem book l) (tally_of c (put mem Tail (if mem Tail == t + 1 then link else mem Tail)) (booked_all book told) l)
    by_same true e =
        let g = book_grows told book in
        let gq = g.queued in let gt = g.taken in
        let x : mem Tail ≡ t + 1 = number_is (mem Tail) (t + 1) e in
        let n = h x in
        let o : l.number (mem Tail - 1) ≡ l.number t = ap (λ (k : ℕ). l.number (k - 1)) x ∙ ap (λ (k : ℕ). l.number k) (omega arith) in
        rw e (record {
          buckets = refl;
          count = g.changes;
          passes = omega (arith, gq, n, o);
          takes = omega (arith, gt, n, o);
          root = λ b. same_or (mem (Bucket b)) (nat_le (length (book.changes b) + 1) (length ((booked_all book told).changes b)));
          tail = or_more (link == mem Tail) (nat_le (l.number (mem Tail - 1) + length book.queued + 1) (l.number (link - 1) + length (booked_all book told).queued)) (above (l.number (mem Tail - 1) + length book.queued) (l.number (link - 1) + length (booked_all book told).queued) (omega (arith, gq, n, o)));
          lag = or_more (link == mem Tail) (nat_le (book.taken + l.number (mem Tail - 1) + 1) ((booked_all book told).taken + l.number (link - 1))) (above (book.taken + l.number (mem Tail - 1)) ((booked_all book told).taken + l.number (link - 1)) (omega (arith, gt, n, o)));
          head = same_or (mem Head) (nat_le (book.taken + l.number (mem Tail - 1) + 1) ((booked_all book told).taken + l.number (link - 1)));
          next = λ s e. rw e refl;
        })
    by_same false e =
        let g = book_grows told book in
        let gq = g.queued in let gt = g.taken in
        rw e (record {
          buckets = refl;
          count = g.changes;
          passes = omega (arith, gq);
          takes = omega (arith, gt);
          root = λ b. same_or (mem (Bucket b)) (nat_le (length (book.changes b) + 1) (length ((booked_all book told).changes b)));
          tail = same_or (mem Tail) (nat_le (l.number (mem Tail - 1) + length book.queued + 1) (l.number (mem Tail - 1) + length (booked_all book told).queued));
          lag = same_or (mem Tail) (nat_le (book.taken + l.number (mem Tail - 1) + 1) ((booked_all book told).taken + l.number (mem Tail - 1)));
          head = same_or (mem Head) (nat_le (book.taken + l.number (mem Tail - 1) + 1) ((booked_all book told).taken + l.number (mem Tail - 1)));
          next = λ s e. rw e refl;
        })

-- the head moves on, and a row is taken
pub pop_grows : (c : Config) (mem : Place → ℕ) (book : Book) (told : List Event) (l : Line) (h next : ℕ) → ((mem Head == h + 1) ≡ true → book.taken + 1 ≤ (booked_all book told).taken) → Grows (tally_of c mem book l) (tally_of c (written mem (Cas Head (h + 1) next)) (booked_all book told) l)
pop_grows c mem book told l h next k = by_same (mem Head == h + 1) refl
  where
    by_same : (b : Bool) → (mem Head == h + 1) ≡ b → Grows (tally_of c mem book l) (tally_of c (put mem Head (if mem Head == h + 1 then next else mem Head)) (booked_all book told) l)
    by_same true e =
        let g = book_grows told book in
        let gq = g.queued in let n = k e in
        rw e (record {
          buckets = refl;
          count = g.changes;
          passes = omega (arith, gq);
          takes = omega (arith, n);
          root = λ b. same_or (mem (Bucket b)) (nat_le (length (book.changes b) + 1) (length ((booked_all book told).changes b)));
          tail = same_or (mem Tail) (nat_le (l.number (mem Tail - 1) + length book.queued + 1) (l.number (mem Tail - 1) + length (booked_all book told).queued));
          lag = same_or (mem Tail) (nat_le (book.taken + l.number (mem Tail - 1) + 1) ((booked_all book told).taken + l.number (mem Tail - 1)));
          head = or_more (next == mem Head) (nat_le (book.taken + l.number (mem Tail - 1) + 1) ((booked_all book told).taken + l.number (mem Tail - 1))) (above (book.taken + l.number (mem Tail - 1)) ((booked_all book told).taken + l.number (mem Tail - 1)) (omega (arith, n)));
          next = λ s e. rw e refl;
        })
    by_same false e =
        let g = book_grows told book in
        let gq = g.queued in let gt = g.taken in
        rw e (record {
          buckets = refl;
          count = g.changes;
          passes = omega (arith, gq);
          takes = omega (arith, gt);
          root = λ b. same_or (mem (Bucket b)) (nat_le (length (book.changes b) + 1) (length ((booked_all book told).changes b)));
          tail = same_or (mem Tail) (nat_le (l.number (mem Tail - 1) + length book.queued + 1) (l.number (mem Tail - 1) + length (booked_all book told).queued));
          lag = same_or (mem Tail) (nat_le (book.taken + l.number (mem Tail - 1) + 1) ((booked_all book told).taken + l.number (mem Tail - 1)));
          head = same_or (mem Head) (nat_le (book.taken + l.number (mem Tail - 1) + 1) ((booked_all book told).taken + l.number (mem Tail - 1)));
          next = λ s e. rw e refl;
        })

-- a bucket's root is exchanged, and it is changed once more
pub exchange_grows : (c : Config) (mem : Place → ℕ) (book : Book) (told : List Event) (l : Line) (b old new : ℕ) → ((mem (Bucket b) == old) ≡ true → length (book.changes b) + 1 ≤ length ((booked_all book told).changes b)) → Grows (tally_of c mem book l) (tally_of c (written mem (Cas (Bucket b) old new)) (booked_all book told) l)
exchange_grows c mem book told l b old new k =
    let g = book_grows told book in
    let gq = g.queued in let gt = g.taken in
    record {
      buckets = refl;
      count = g.changes;
      passes = omega (arith, gq);
      takes = omega (arith, gt);
      root = λ d. by_bucket d (d == b) refl (mem (Bucket b) == old) refl;
      tail = same_or (mem Tail) (nat_le (l.number (mem Tail - 1) + length book.queued + 1) (l.number (mem Tail - 1) + length (booked_all book told).queued));
      lag = same_or (mem Tail) (nat_le (book.taken + l.number (mem Tail - 1) + 1) ((booked_all book told).taken + l.number (mem Tail - 1)));
      head = same_or (mem Head) (nat_le (book.taken + l.number (mem Tail - 1) + 1) ((booked_all book told).taken + l.number (mem Tail - 1)));
      next = λ s e. rw e refl;
    }
  where
    by_bucket : (d : ℕ) (x : Bool) → (d == b) ≡ x → (y : Bool) → (mem (Bucket b) == old) ≡ y → (((if d == b then (if mem (Bucket b) == old then new else mem (Bucket b)) else mem (Bucket d)) == mem (Bucket d)) || nat_le (length (book.changes d) + 1) (length ((booked_all book told).changes d))) ≡ true
    by_bucket d false e y f = rw e (same_or (mem (Bucket d)) (nat_le (length (book.changes d) + 1) (length ((booked_all book told).changes d))))
    by_bucket d true e true f =
        let z : d ≡ b = number_is d b e in
        or_more ((if d == b then (if mem (Bucket b) == old then new else mem (Bucket b)) else mem (Bucket d)) == mem (Bucket d)) (nat_le (length (book.changes d) + 1) (length ((booked_all book told).changes d))) (rw z (above (length (book.changes b)) (length ((booked_all book told).changes b)) (k f)))
    by_bucket d true e false f =
        let z : d ≡ b = number_is d b e in
        rw (e, f, z) (same_or (mem (Bucket b)) (nat_le (length (book.changes b) + 1) (length ((booked_all book told).changes b))))

-- a row is linked behind the last, and a value is queued
pub join_grows : (c : Config) (mem : Place → ℕ) (book : Book) (told : List Event) (l u : Line) (t slot : ℕ) → u.number (mem Tail - 1) ≡ l.number (mem Tail - 1) → ((mem (Row t 0) == 0) ≡ true → length book.queued + 1 ≤ length (booked_all book told).queued) → Grows (tally_of c mem book l) (tally_of c (written mem (Cas (Row t 0) 0 (slot + 1))) (booked_all book told) u)
join_grows c mem book told l u t slot n k =
    let g = book_grows told book in
    let gq = g.queued in let gt = g.taken in
    record {
      buckets = refl;
      count = g.changes;
      passes = omega (arith, gq, n);
      takes = omega (arith, gt, n);
      root = λ b. same_or (mem (Bucket b)) (nat_le (length (book.changes b) + 1) (length ((booked_all book told).changes b)));
      tail = same_or (mem Tail) (nat_le (l.number (mem Tail - 1) + length book.queued + 1) (u.number (mem Tail - 1) + length (booked_all book told).queued));
      lag = same_or (mem Tail) (nat_le (book.taken + l.number (mem Tail - 1) + 1) ((booked_all book told).taken + u.number (mem Tail - 1)));
      head = same_or (mem Head) (nat_le (book.taken + l.number (mem Tail - 1) + 1) ((booked_all book told).taken + u.number (mem Tail - 1)));
      next = λ s e. by_row s e (same (Row s 0) (Row t 0)) refl (mem (Row t 0) == 0) refl;
    }
  where
    by_row : (s : ℕ) → (mem (Row s 0) == 0) ≡ true → (x : Bool) → same (Row s 0) (Row t 0) ≡ x → (y : Bool) → (mem (Row t 0) == 0) ≡ y
        → (((if same (Row s 0) (Row t 0) then (if mem (Row t 0) == 0 then slot + 1 else mem (Row t 0)) else mem (Row s 0)) == 0) || nat_le (l.number (mem Tail - 1) + length book.queued + 1) (u.number (mem Tail - 1) + length (booked_all book told).queued)) ≡ true
    by_row s h false e y f = rw (e, h) refl
    by_row s h true e true f =
        let q = k f in
        or_more ((if same (Row s 0) (Row t 0) then (if mem (Row t 0) == 0 then slot + 1 else mem (Row t 0)) else mem (Row s 0)) == 0) (nat_le (l.number (mem Tail - 1) + length book.queued + 1) (u.number (mem Tail - 1) + length (booked_all book told).queued))
        (above (l.number (mem Tail - 1) + length book.queued) (u.number (mem Tail - 1) + length (booked_all book told).queued) (omega (arith, q, n)))
    by_row s h true e false f =
        let z : s ≡ t = grind (arith, nat_tests, e) in
        let no : (mem (Row t 0) == 0) ≡ true = subst (λ (r : ℕ). (mem (Row r 0) == 0) ≡ true) z h in
        absurd (cc)

-- a row of a seat's own is written: its next link becomes null
pub write_grows : (c : Config) (mem : Place → ℕ) (book : Book) (told : List Event) (l : Line) (slot place word : ℕ) → ((place == 0) ≡ true → word ≡ 0) → Grows (tally_of c mem book l) (tally_of c (written mem (Store (Row slot place) word)) (booked_all book told) l)
write_grows c mem book told l slot place word k =
    let g = book_grows told book in
    let gq = g.queued in let gt = g.taken in
    record {
      buckets = refl;
      count = g.changes;
      passes = omega (arith, gq);
      takes = omega (arith, gt);
      root = λ b. same_or (mem (Bucket b)) (nat_le (length (book.changes b) + 1) (length ((booked_all book told).changes b)));
      tail = same_or (mem Tail) (nat_le (l.number (mem Tail - 1) + length book.queued + 1) (l.number (mem Tail - 1) + length (booked_all book told).queued));
      lag = same_or (mem Tail) (nat_le (book.taken + l.number (mem Tail - 1) + 1) ((booked_all book told).taken + l.number (mem Tail - 1)));
      head = same_or (mem Head) (nat_le (book.taken + l.number (mem Tail - 1) + 1) ((booked_all book told).taken + l.number (mem Tail - 1)));
      next = λ s e. by_row s e (same (Row s 0) (Row slot place)) refl;
    }
  where
    by_row : (s : ℕ) → (mem (Row s 0) == 0) ≡ true → (x : Bool) → same (Row s 0) (Row slot place) ≡ x
        → (((if same (Row s 0) (Row slot place) then word else mem (Row s 0)) == 0) || nat_le (l.number (mem Tail - 1) + length book.queued + 1) (l.number (mem Tail - 1) + length (booked_all book told).queued)) ≡ true
    by_row s h false e = rw (e, h) refl
    by_row s h true e = let z : (place == 0) ≡ true = grind (arith, nat_tests, e) in let y = k z in rw (e, y) refl
