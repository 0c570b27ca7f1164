-- The record of each history keeps the law of the map.
use Rattle.std.proofs.Common.{ℕ, ◌≡◌, ◌≤◌, ◌<◌, ◌+◌, ◌%◌, Bool, true, false, List, [], ◌∷◌, ◌++◌, length, take, Option, refl, sym, ap, ◌∙◌, subst, arith}
use Rattle.std.proofs.lemmas.Bool.Decides.{nat_tests}
use Rattle.std.specs.Prelude.{◌==◌, ◌&&◌, nat_le, if◌then◌else◌}
use Rattle.inv_all.specs.model.words.Place.{is_valid}
use Rattle.inv_all.specs.model.words.declared.layout.Layout.{Layout}
use Rattle.inv_all.specs.model.defs.Pairs.{pairs_after, value_in}
use Rattle.inv_all.specs.model.defs.declared.call.Call.{Call}
use Rattle.inv_all.specs.model.defs.declared.event.Event.{Event}
use Rattle.inv_all.specs.model.defs.declared.event.Event.TheVariants as events
use Rattle.inv_all.specs.model.defs.declared.event.Root.TheVariants as roots
use Rattle.inv_all.specs.model.defs.declared.fold.Change.{Change}
use Rattle.inv_all.specs.model.defs.declared.fold.Change.TheVariants as the_changes
use Rattle.inv_all.specs.model.Book.{Book, booked, booked_all}
use Rattle.inv_all.specs.model.Posts.{counted}
use Rattle.inv_all.specs.model.World.{World, begin, finds, is_busy, offered, start, step, told_in, may_start}
use Rattle.inv_all.proofs.model.Facts.{both, first_of, rest_of}
use Rattle.inv_all.specs.requests.Views.{Deal, View as Asked}
use Rattle.inv_all.proofs.requests.Kept.{requests_start, requests_begin}
use Rattle.inv_all.specs.rows.Agree.{first_rows, rows_after}
use Rattle.inv_all.specs.rows.Chain.{first_line, line_after}
use Rattle.inv_all.specs.rows.Queue.{Line}
use Rattle.inv_all.specs.rows.Rows.{View}
use Rattle.inv_all.specs.Contents.Told.{TellsRight, AllRight, GotRight}
use Rattle.inv_all.specs.history.Record.{Past, Each, begins, value_since, tells_of}
use Rattle.inv_all.specs.history.Record.Past.{Start, Then}
use Rattle.laws.specs.StructuresAt.{with_change, changes_of, count_of, value_at, same_value, was_current}
use Rattle.laws.specs.MapLaw.{map_ok}
use Rattle.inv_all.proofs.history.Entries.{entries_of_each}
use Rattle.inv_all.specs.history.History.{Begins, Steps, Made, done, first_made, record_of}
use Rattle.inv_all.proofs.history.Along.{Steady, items_keep}
use Rattle.inv_all.specs.Inv.{TellsRight as StepTells}
use Rattle.inv_all.specs.Known.{Known}
use Rattle.inv_all.proofs.Inv.Begun.{known_start, known_begin}
use Rattle.inv_all.proofs.Inv.Kept.{known_kept, asked_next}
use Rattle.inv_all.proofs.Inv.Tells.{inv_tells}
use Rattle.law_reuse.specs.MapKept.{RecordsKeepMap}
use Rattle.law_reuse.proofs.Lawful.Current.{Current, base_begun, current_start, current_begin, current_kept, current_same}
use Rattle.inv_all.proofs.history.AllOf.{all_of}
use Rattle.law_reuse.proofs.Lawful.Gots.{got_new, told_new}
use Rattle.inv_all.proofs.Machines.{is_within, is_still, one_loud, told_within, told_loud}
use Rattle.law_reuse.proofs.AnswersTold.Answering.{value_same}

-- the changes of a bucket are those of the book
one_change : (a : Book) (b : ℕ) (event : Event) → with_change b (a.changes b) event ≡ (booked a event).changes b
one_change a b (events.Put bucket version key value) = at_bucket (b == bucket) refl
  where
    at_bucket : (same : Bool) → (b == bucket) ≡ same → (if same then a.changes b ++ the_changes.Put key value ∷ [] else a.changes b) ≡ (if same then a.changes bucket ++ the_changes.Put key value ∷ [] else a.changes b)
    at_bucket true e = let q : b ≡ bucket = grind (arith, nat_tests) in ap (λ (x : ℕ). a.changes x ++ the_changes.Put key value ∷ []) q
    at_bucket false e = refl
one_change a b (events.Removed bucket version key) = at_bucket (b == bucket) refl
  where
    at_bucket : (same : Bool) → (b == bucket) ≡ same → (if same then a.changes b ++ the_changes.Removed key ∷ [] else a.changes b) ≡ (if same then a.changes bucket ++ the_changes.Removed key ∷ [] else a.changes b)
    at_bucket true e = let q : b ≡ bucket = grind (arith, nat_tests) in ap (λ (x : ℕ). a.changes x ++ the_changes.Removed key ∷ []) q
    at_bucket false e = refl
one_change a b (events.Link (roots.Bucket bucket) slot) = refl
one_change a b (events.Link (roots.Next parent) slot) = refl
one_change a b (events.Link roots.Head slot) = refl
one_change a b (events.Link roots.Tail slot) = refl
one_change a b event = refl

pub told_changes : (b i : ℕ) (told : List Event) (p : Past) (a : Book) → changes_of b p ≡ a.changes b → changes_of b (tells_of p i told) ≡ (booked_all a told).changes b
told_changes b i [] p a h = h
told_changes b i (event ∷ told) p a h = told_changes b i told (Then p i event) (booked a event) (ap (λ (before : List Change). with_change b before event) h ∙ one_change a b event)

-- how often a bucket had been changed when the seat's call began
abbrev pub base_of : Past → ℕ → ℕ → ℕ
base_of p k b = value_since (begins k) (count_of b) p

one_base : (p : Past) (i k b : ℕ) (event : Event) → is_within event ≡ true → base_of (Then p i event) k b ≡ base_of p k b
one_base p i k b (events.Begin call) h = absurd (cc)
one_base p i k b event h = refl

pub told_base : (k b i : ℕ) (told : List Event) (p : Past) → all_of is_within told ≡ true → base_of (tells_of p i told) k b ≡ base_of p k b
told_base k b i [] p h = refl
told_base k b i (event ∷ told) p h = told_base k b i told (Then p i event) (rest_of (is_within event) (all_of is_within told) h) ∙ one_base p i k b event (first_of (is_within event) (all_of is_within told) h)

either_base : (same : Bool) (n m other : ℕ) → n ≡ m → (if same then n else other) ≡ (if same then m else other)
either_base true n m other h = h
either_base false n m other h = refl

pub begin_base : (w : World) (i k b : ℕ) (call : Call) (p : Past) → changes_of b p ≡ w.book.changes b → base_of (Then p i (events.Begin call)) k b ≡ base_begun (base_of p) w i k b
begin_base w i k b call p h = either_base (k == i) (count_of b p) (length (w.book.changes b)) (base_of p k b) (ap length h)

-- an entry
next_ok : (version count bucket place : ℕ) → bucket ≡ place → version ≡ count + 1 → (version == count + 1 && bucket == place) ≡ true
next_ok version count bucket place e h =
    let same : (version == count + 1) ≡ true = grind (arith, nat_tests) in
    let there : (bucket == place) ≡ true = grind (arith, nat_tests) in
    both (version == count + 1) (bucket == place) same there

got_ok : (n i : ℕ) (base : ℕ → ℕ) (a : Book) (p : Past) (bucket version key : ℕ) (value : Option ℕ) → changes_of bucket p ≡ a.changes bucket → base_of p i bucket ≡ base bucket → got_new n base (events.Got bucket version key value) ≡ true → GotRight a bucket version key value → map_ok n p i (events.Got bucket version key value) ≡ true
got_ok n i base a p bucket version key value c e g r =
    let v : value ≡ value_at bucket version key p = r.right ∙ ap (λ (all : List Change). value_in (pairs_after (take version all)) key) (sym c) in
    let most : nat_le (base_of p i bucket) version ≡ true = subst (λ (x : ℕ). nat_le x version ≡ true) (sym e) (rest_of (bucket == key % n) (nat_le (base bucket) version) g) in
    let within : version ≤ count_of bucket p = subst (λ (all : List Change). version ≤ length all) (sym c) r.within in
    let low : nat_le version (count_of bucket p) ≡ true = grind (arith, nat_tests) in
    both (bucket == key % n) (same_value value (value_at bucket version key p) && was_current i bucket version p) (first_of (bucket == key % n) (nat_le (base bucket) version) g)
    (both (same_value value (value_at bucket version key p)) (was_current i bucket version p)
    (subst (λ (x : Option ℕ). same_value value x ≡ true) v (value_same value))
    (both (nat_le (base_of p i bucket) version) (nat_le version (count_of bucket p)) most low))

one_ok : (n i : ℕ) (base : ℕ → ℕ) (a : Book) (p : Past) (event : Event) → ((b : ℕ) → changes_of b p ≡ a.changes b) → ((b : ℕ) → base_of p i b ≡ base b) → got_new n base event ≡ true → TellsRight n a event → map_ok n p i event ≡ true
one_ok n i base a p (events.Put bucket version key value) c e g r = next_ok version (count_of bucket p) bucket (key % n) r.place (r.next ∙ ap (λ (all : List Change). length all + 1) (sym (c bucket)))
one_ok n i base a p (events.Removed bucket version key) c e g r = next_ok version (count_of bucket p) bucket (key % n) r.place (r.next ∙ ap (λ (all : List Change). length all + 1) (sym (c bucket)))
one_ok n i base a p (events.Got bucket version key value) c e g r = got_ok n i base a p bucket version key value (c bucket) (e bucket) g r
one_ok n i base a p event c e g r = refl

-- one that tells nothing of the map
still_ok : (n i : ℕ) (p : Past) (event : Event) → is_still event ≡ true → map_ok n p i event ≡ true
still_ok n i p (events.Put bucket version key value) h = absurd (cc)
still_ok n i p (events.Removed bucket version key) h = absurd (cc)
still_ok n i p (events.Got bucket version key value) h = absurd (cc)
still_ok n i p event h = refl

still_change : (b i : ℕ) (p : Past) (event : Event) → is_still event ≡ true → changes_of b (Then p i event) ≡ changes_of b p
still_change b i p (events.Put bucket version key value) h = absurd (cc)
still_change b i p (events.Removed bucket version key) h = absurd (cc)
still_change b i p event h = refl

still_each : (n i : ℕ) (told : List Event) (p : Past) → all_of is_still told ≡ true → Each (map_ok n) p → Each (map_ok n) (tells_of p i told)
still_each n i [] p h g = g
still_each n i (event ∷ told) p h g = still_each n i told (Then p i event) (rest_of (is_still event) (all_of is_still told) h) (still_ok n i p event (first_of (is_still event) (all_of is_still told) h), g)

-- what a step tells: at most one event of the map
record Unmoved (i : ℕ) (base : ℕ → ℕ) (a : Book) (p : Past) : Type 0 where
  changes : (b : ℕ) → changes_of b p ≡ a.changes b
  begun : (b : ℕ) → base_of p i b ≡ base b

event_each : (n i : ℕ) (base : ℕ → ℕ) (a : Book) (event : Event) (told : List Event) (p : Past) (still : Bool) → is_still event ≡ still → Unmoved i base a p → is_within event ≡ true → (if still then one_loud told else all_of is_still told) ≡ true → got_new n base event ≡ true → TellsRight n a event
    → (Unmoved i base a (Then p i event) → one_loud told ≡ true → Each (map_ok n) (Then p i event) → Each (map_ok n) (tells_of (Then p i event) i told))
    → Each (map_ok n) p → Each (map_ok n) (tells_of (Then p i event) i told)
event_each n i base a event told p true e s y h g r later t =
    later (record { changes = λ b. still_change b i p event e ∙ s.changes b; begun = λ b. one_base p i i b event y ∙ s.begun b }) h (still_ok n i p event e, t)
event_each n i base a event told p false e s y h g r later t = still_each n i told (Then p i event) h (one_ok n i base a p event s.changes s.begun g r, t)

told_each : (n i : ℕ) (base : ℕ → ℕ) (a : Book) (told : List Event) (p : Past) → Unmoved i base a p → all_of is_within told ≡ true → one_loud told ≡ true → all_of (got_new n base) told ≡ true → AllRight n a told → Each (map_ok n) p → Each (map_ok n) (tells_of p i told)
told_each n i base a [] p s y h g r t = t
told_each n i base a (event ∷ told) p s y h g r t =
    event_each n i base a event told p (is_still event) refl s (first_of (is_within event) (all_of is_within told) y) h (first_of (got_new n base event) (all_of (got_new n base) told) g) r.0
    (λ s1 h1 t1. told_each n i base a told (Then p i event) s1 (rest_of (is_within event) (all_of is_within told) y) h1 (rest_of (got_new n base event) (all_of (got_new n base) told) g) r.1 t1) t

-- what a history keeps
record Keeps (layout : Layout) (made : Made) : Type 0 where
  table : made.world.layout ≡ layout
  rows : View
  line : Line
  asked : Asked
  known : Known made.world rows line asked
  current : Current (base_of made.past) made.world asked
  changes : (b : ℕ) → changes_of b made.past ≡ made.world.book.changes b
  law : Each (map_ok layout.config.buckets) made.past

step_law : (w : World) (i : ℕ) (v : View) (l : Line) (z : Asked) (layout : Layout) (p : Past) → w.layout ≡ layout → i < w.layout.config.seats → Known w v l z → Current (base_of p) w z → ((b : ℕ) → changes_of b p ≡ w.book.changes b) → Each (map_ok layout.config.buckets) p → Each (map_ok layout.config.buckets) (tells_of p i (told_in w i))
step_law w i v l z layout p e b a c h t =
    let m : StepTells w i = inv_tells w i b (record { rows = v; line = l; asked = z; known = a }) in
    let s : Unmoved i (base_of p i) w.book p = record { changes = h; begun = λ bucket. refl } in
    subst (λ (table : Layout). Each (map_ok table.config.buckets) (tells_of p i (told_in w i))) e
    (told_each w.layout.config.buckets i (base_of p i) w.book (told_in w i) p s (told_within (w.seat i).phase (counted (w.seat i).post) (offered w i).desk (finds w i)) (told_loud (w.seat i).phase (counted (w.seat i).post) (offered w i).desk (finds w i))
    (told_new w i v l z (base_of p) a c) m.map (subst (λ (table : Layout). Each (map_ok table.config.buckets) p) (sym e) t))

begin_keeps : (layout : Layout) (made : Made) (i : ℕ) (call : Call) → is_busy made.world i ≡ false → may_start made.world i call ≡ true → Keeps layout made → Keeps layout (done made (Begins i call))
begin_keeps layout made i call f m g =
    let k = g.known in
    let q = requests_begin made.world i call g.asked k.valid f k.seats k.requests in
    record {
      table = g.table;
      rows = g.rows;
      line = g.line;
      asked = q.0;
      known = known_begin made.world i call g.rows g.line g.asked q.0 f m k q.1.facts q.1.deal;
      current = current_same (base_begun (base_of made.past) made.world i) (base_of (Then made.past i (events.Begin call))) (begin made.world i call) q.0
          (λ n b. begin_base made.world i n b call made.past (g.changes b))
          (current_begin made.world i call g.asked q.0 (base_of made.past) f k.requests q.1.deal g.current);
      changes = g.changes;
      law = (refl, g.law);
    }

step_keeps : (layout : Layout) (made : Made) (i : ℕ) → i < made.world.layout.config.seats → Keeps layout made → Keeps layout (done made (Steps i))
step_keeps layout made i b g =
    let k = g.known in
    let q = asked_next made.world i g.rows g.line g.asked b k in
    record {
      table = g.table;
      rows = rows_after made.world i g.rows;
      line = line_after made.world i g.line;
      asked = q.0;
      known = known_kept made.world i g.rows g.line g.asked q.0 b k q.1.facts q.1.deal;
      current = current_same (base_of made.past) (base_of (tells_of made.past i (told_in made.world i))) (step made.world i) q.0
          (λ m bucket. told_base m bucket i (told_in made.world i) made.past (told_within (made.world.seat i).phase (counted (made.world.seat i).post) (offered made.world i).desk (finds made.world i)))
          (current_kept made.world i g.rows g.line g.asked q.0 (base_of made.past) b k q.1.deal g.current);
      changes = λ bucket. told_changes bucket i (told_in made.world i) made.past made.world.book (g.changes bucket);
      law = step_law made.world i g.rows g.line g.asked layout made.past g.table b k g.current g.changes g.law;
    }

steady : (layout : Layout) → Steady (Keeps layout)
steady layout = record { begins = λ made i call b y m g. begin_keeps layout made i call y m g; steps = λ made i b y g. step_keeps layout made i b g }

first_keeps : (layout : Layout) → is_valid layout ≡ true → Keeps layout (first_made layout)
first_keeps layout d =
    let q = requests_start layout d in
    record {
      table = refl;
      rows = first_rows layout;
      line = first_line layout;
      asked = q.0;
      known = known_start layout q.0 d q.1.facts q.1.deal;
      current = current_same (λ k b. 0) (base_of Start) (start layout) q.0 (λ k b. refl) (current_start layout q.0 (λ k. ap (λ (deal : ℕ → Deal). deal k) q.1.deal));
      changes = λ b. refl;
      law = tt;
    }

pub records_keep_map : RecordsKeepMap
records_keep_map layout items d =
    let g = items_keep (Keeps layout) (steady layout) items (first_made layout) (first_keeps layout d) in
    entries_of_each (map_ok layout.config.buckets) (record_of layout items) g.law
