-- What a step makes of the roots, the links and the counts: counts never fall, and where a root is another one has risen.
use Rattle.std.proofs.Common.{length-append, bit_or, bit_and, ℕ, ◌≡◌, ◌≤◌, ◌+◌, ◌-◌, Bool, true, false, [], ◌∷◌, arith, refl}
use Rattle.std.proofs.lemmas.Bool.Decides.{nat_tests}
use Rattle.inv_ends.specs.model.words.Place.{Place, same}
use Rattle.inv_ends.specs.model.words.Place.Place.{Clock, Helper, Index, Interval, Bucket, Head, Tail, Claim, Life, Row, PlaceOf, Request as RequestOf}
use Rattle.inv_ends.specs.model.Memory.{Load, Store, Cas, Or, And, written, change, Move as Memory}
use Rattle.inv_ends.specs.model.defs.declared.event.Event.TheVariants as events
use Rattle.inv_ends.specs.model.defs.declared.event.Root.TheVariants as roots
use Rattle.inv_ends.specs.model.defs.declared.fold.Change.TheVariants as changes
use Rattle.inv_ends.specs.model.Book.{Book, booked, booked_all, booked_link, with_change}
use Rattle.inv_ends.specs.model.defs.declared.event.Event.{Event}
use Rattle.inv_ends.specs.model.defs.declared.event.Root.{Root}
use Rattle.inv_ends.specs.model.defs.declared.fold.Change.{Change}
use Rattle.inv_all.proofs.Rounds.Grows.{Grows}
use Rattle.inv_all.specs.Tallies.{Tally}
use Rattle.inv_ends.specs.rows.Queue.{Line}
use Rattle.inv_ends.specs.model.words.Schemes.{publishes_rows}
use Rattle.inv_ends.specs.model.words.declared.config.Config.{Config}
use Rattle.std.specs.Prelude.{List, ◌++◌, length, nat_le, if◌then◌else◌, ◌==◌}
use Rattle.inv_ends.proofs.rows.Words.{put_other}
use Rattle.inv_ends.proofs.model.Facts.{same_or}

-- the counts of these words, this book and this line
abbrev pub tally_of : Config → (Place → ℕ) → Book → Line → Tally
tally_of c mem book l =
    record {
      rows = publishes_rows c.scheme;
      buckets = c.buckets;
      root = λ b. mem (Bucket b);
      tail = mem Tail;
      head = mem Head;
      next = λ s. mem (Row s 0);
      count = λ b. length (book.changes b);
      passes = l.number (mem Tail - 1) + length book.queued;
      takes = book.taken + l.number (mem Tail - 1);
    }

-- what the book counts never falls
pub record BookGrows (a b : Book) : Type 0 where
  pub queued : length a.queued ≤ length b.queued
  pub taken : a.taken ≤ b.taken
  pub changes : (c : ℕ) → length (a.changes c) ≤ length (b.changes c)

one_longer : {A : Type 0} (xs : List A) (x : A) → length (xs ++ x ∷ []) ≡ length xs + 1
one_longer xs x = length-append xs (x ∷ [])

change_grows : (a : Book) (bucket : ℕ) (change : Change) (c : ℕ) → length (a.changes c) ≤ length ((with_change a bucket change).changes c)
change_grows a bucket change c = by_bucket (c == bucket) refl
  where
    by_bucket : (b : Bool) → (c == bucket) ≡ b → length (a.changes c) ≤ length (if b then a.changes bucket ++ change ∷ [] else a.changes c)
    by_bucket true e = let x : c ≡ bucket = grind (arith, nat_tests, e) in let n = one_longer (a.changes bucket) change in rw x (omega (arith, n))
    by_bucket false e = omega arith

link_grows : (a : Book) (root : Root) (slot : ℕ) → BookGrows a (booked_link a root slot)
link_grows a (roots.Bucket bucket) slot = record { queued = omega arith; taken = omega arith; changes = λ c. omega arith }
link_grows a (roots.Next parent) slot = record { queued = omega arith; taken = omega arith; changes = λ c. omega arith }
link_grows a roots.Head slot = record { queued = omega arith; taken = omega arith; changes = λ c. omega arith }
link_grows a roots.Tail slot = record { queued = omega arith; taken = omega arith; changes = λ c. omega arith }

event_grows : (a : Book) (event : Event) → BookGrows a (booked a event)
event_grows a (events.Link root slot) = link_grows a root slot
event_grows a (events.Put bucket version key value) = record { queued = omega arith; taken = omega arith; changes = change_grows a bucket (changes.Put key value) }
event_grows a (events.Removed bucket version key) = record { queued = omega arith; taken = omega arith; changes = change_grows a bucket (changes.Removed key) }
event_grows a (events.Queued number value) = let n = one_longer a.queued value in record { queued = omega (arith, n); taken = omega arith; changes = λ c. omega arith }
event_grows a (events.Taken number value) = record { queued = omega arith; taken = omega arith; changes = λ c. omega arith }
event_grows a event = record { queued = omega arith; taken = omega arith; changes = λ c. omega arith }

pub book_grows : (told : List Event) (a : Book) → BookGrows a (booked_all a told)
book_grows [] a = record { queued = omega arith; taken = omega arith; changes = λ c. omega arith }
book_grows (event ∷ told) a =
    let f = event_grows a event in let g = book_grows told (booked a event) in
    let fq = f.queued in let gq = g.queued in let ft = f.taken in let gt = g.taken in
    record { queued = omega (arith, fq, gq); taken = omega (arith, ft, gt); changes = λ c. let x = f.changes c in let y = g.changes c in omega (arith, x, y) }

-- words that hold links
abbrev pub is_counted : Place → Bool
is_counted Clock = false
is_counted (Helper seat) = false
is_counted (Index seat index) = false
is_counted (Interval seat) = false
is_counted (RequestOf seat) = false
is_counted (Bucket bucket) = true
is_counted Head = true
is_counted Tail = true
is_counted (Claim word) = false
is_counted (Life slot) = false
is_counted (Row slot place) = true
is_counted (PlaceOf seat) = false

abbrev pub touches : Memory → Bool
touches (Load place) = false
touches (Store place value) = is_counted place
touches (Cas place old new) = is_counted place
touches (Or place bits) = is_counted place
touches (And place bits) = is_counted place

apart : (p q : Place) → is_counted p ≡ true → is_counted q ≡ false → same p q ≡ false
apart (Bucket b) Clock h k = refl
apart (Bucket b) (Helper i) h k = refl
apart (Bucket b) (Index i j) h k = refl
apart (Bucket b) (Interval i) h k = refl
apart (Bucket b) (RequestOf i) h k = refl
apart (Bucket b) (Claim n) h k = refl
apart (Bucket b) (Life s) h k = refl
apart (Bucket b) (PlaceOf i) h k = refl
apart Head Clock h k = refl
apart Head (Helper i) h k = refl
apart Head (Index i j) h k = refl
apart Head (Interval i) h k = refl
apart Head (RequestOf i) h k = refl
apart Head (Claim n) h k = refl
apart Head (Life s) h k = refl
apart Head (PlaceOf i) h k = refl
apart Tail Clock h k = refl
apart Tail (Helper i) h k = refl
apart Tail (Index i j) h k = refl
apart Tail (Interval i) h k = refl
apart Tail (RequestOf i) h k = refl
apart Tail (Claim n) h k = refl
apart Tail (Life s) h k = refl
apart Tail (PlaceOf i) h k = refl
apart (Row t r) Clock h k = refl
apart (Row t r) (Helper i) h k = refl
apart (Row t r) (Index i j) h k = refl
apart (Row t r) (Interval i) h k = refl
apart (Row t r) (RequestOf i) h k = refl
apart (Row t r) (Claim n) h k = refl
apart (Row t r) (Life s) h k = refl
apart (Row t r) (PlaceOf i) h k = refl
apart p (Bucket b) h k = absurd (cc)
apart p Head h k = absurd (cc)
apart p Tail h k = absurd (cc)
apart p (Row t r) h k = absurd (cc)
apart Clock q h k = absurd (cc)
apart (Helper i) q h k = absurd (cc)
apart (Index i j) q h k = absurd (cc)
apart (Interval i) q h k = absurd (cc)
apart (RequestOf i) q h k = absurd (cc)
apart (Claim n) q h k = absurd (cc)
apart (Life s) q h k = absurd (cc)
apart (PlaceOf i) q h k = absurd (cc)

untouched : (mem : Place → ℕ) (m : Memory) (q : Place) → is_counted q ≡ true → touches m ≡ false → written mem m q ≡ mem q
untouched mem (Load place) q h k = refl
untouched mem (Store place value) q h k = put_other mem place q value (apart q place h k)
untouched mem (Cas place old new) q h k = put_other mem place q (change (Cas place old new) (mem place)) (apart q place h k)
untouched mem (Or place bits) q h k = put_other mem place q (bit_or (mem place) bits) (apart q place h k)
untouched mem (And place bits) q h k = put_other mem place q (bit_and (mem place) bits) (apart q place h k)

-- a step that writes none of them
pub calm_grows : (c : Config) (mem : Place → ℕ) (m : Memory) (book : Book) (told : List Event) (l u : Line) → touches m ≡ false → ((s : ℕ) → u.number s ≡ l.number s) → Grows (tally_of c mem book l) (tally_of c (written mem m) (booked_all book told) u)
calm_grows c mem m book told l u h n =
    let g = book_grows told book in
    let gq = g.queued in let gt = g.taken in
    let t : written mem m Tail ≡ mem Tail = untouched mem m Tail refl h in
    let k = n (mem Tail - 1) in
    record {
      buckets = refl;
      count = g.changes;
      passes = rw (t, k) (omega (arith, gq));
      takes = rw (t, k) (omega (arith, gt));
      root = λ b. rw (untouched mem m (Bucket b) refl h) (same_or (mem (Bucket b)) (nat_le (length (book.changes b) + 1) (length ((booked_all book told).changes b))));
      tail = rw t (same_or (mem Tail) (nat_le (l.number (mem Tail - 1) + length book.queued + 1) (u.number (mem Tail - 1) + length (booked_all book told).queued)));
      lag = rw t (same_or (mem Tail) (nat_le (book.taken + l.number (mem Tail - 1) + 1) ((booked_all book told).taken + u.number (mem Tail - 1))));
      head = rw (untouched mem m Head refl h) (same_or (mem Head) (nat_le (book.taken + l.number (mem Tail - 1) + 1) ((booked_all book told).taken + u.number (written mem m Tail - 1))));
      next = λ s e. rw (untouched mem m (Row s 0) refl h, e) refl;
    }
