-- A key that all calls count up has, at each version of its bucket, that version as its value; and there are as many versions as counts.
use Rattle.std.proofs.Common.{Bool, List, None, Option, Some, [], ap, arith, cond, false, get_or, length, refl, subst, sym, true, ℕ, suc, zero, ◌%◌, ◌&&◌, ◌++◌, ◌+◌, ◌-◌, ◌<◌, ◌==◌, ◌∙◌, ◌∷◌, ◌≡◌, ◌≤◌}
use Rattle.std.proofs.lemmas.Bool.{and_parts}
use Rattle.std.proofs.lemmas.Bool.Decides.{nat_tests}
use Rattle.std.proofs.lemmas.List.{append_assoc, get_or-map, length-map}
use Rattle.std.proofs.lemmas.List.Elements.{All-map, All-same}
use Rattle.std.proofs.lemmas.List.Sums.{sum_by-cons, sum_by_push}
use Rattle.std.proofs.lemmas.Option.{get_or_from_slice_get}
use Rattle.std.specs.Prelude.{All, count_by, map, slice_get, sum_by}
use Rattle.law_all.proofs.Runs.Lawful.{all_changes}
use Rattle.laws.specs.StructuresAt.{bucket_of}
use Rattle.wfe_core.specs.Desks.{Notes}
use Rattle.wfe_core.specs.Locals.{Group}
use Rattle.wfe_core.specs.defs.Pairs.{value_after, value_in}
use Rattle.wfe_core.specs.defs.declared.call.Answer.TheVariants as answers
use Rattle.wfe_core.specs.defs.declared.call.Answer.{Answer}
use Rattle.wfe_core.specs.defs.declared.call.Call.TheVariants as calls
use Rattle.wfe_core.specs.defs.declared.call.Call.{Call}
use Rattle.wfe_core.specs.defs.declared.fold.Change.TheVariants as changes
use Rattle.wfe_core.specs.defs.declared.fold.Change.{Change}
use Rattle.wfe_core.specs.words.declared.config.Config.{Config}
use Rattle.wfe_core.specs.words.declared.layout.Layout.{Layout}
use Rattle.wfe_defs.proofs.Values.{value_steps}
use Rattle.wfe_core.specs.defs.declared.call.ClockMove.TheVariants as moves
use Rattle.wfe_core.specs.defs.declared.call.ClockMove.{ClockMove}
use Rattle.wfe_table.specs.Calls.{IsMade, group_of, put_if_answer}
use Rattle.wfe_table.specs.Closing.{IsLeft, closing_of, track_of}
use Rattle.wfe_table.specs.Public.{IsOf, SeatNow, TableNow}
use Rattle.wfe_table.specs.all.RunLaw.{AtClose, IsCall, ReadsRight, RunLaw, bucket_in, is_change, is_change_of, is_version, pairs_by, total, total_of}
use Rattle.wfe_table.specs.all.Logs.Versions.{version_told}
use Rattle.wfe_table.specs.closed.declared.closed.Closed.{Closed}
use Rattle.wfe_table.specs.closed.Contents.{filling_of}
use Rattle.wfe_table.specs.rule.Views.{seat_of}
use Rattle.wfe_table_end.specs.declared.refusals.PutIfRefusal.TheVariants as put_ifs
use Rattle.wfe_table_end.specs.declared.refusals.PutIfRefusal.{PutIfRefusal}
use Rattle.wfe_uses.specs.Counting.{Counts, CountsFrom, IsCounter, IsStep, IsSummed, ShowsCount, one_more, shown}
use Rattle.wfe_uses.specs.declared.counter.Counter.{Counter}
use Rattle.wfe_uses.proofs.Calls.{log_of, logs_are}
use Rattle.wfe_uses.proofs.Sums.{Found, found, spread, spread_none, spread_one, total_same, total_spread}

-- The last call of a log, or the one before it.
abbrev pub last_of : Option Group → List Group → Option Group
last_of last [] = last
last_of last (group ∷ log) = last_of (Some group) log

last_push : (last : Option Group) (log : List Group) (group : Group) → last_of last (log ++ group ∷ []) ≡ Some group
last_push last [] group = refl
last_push last (x ∷ log) group = last_push (Some x) log group

-- one call more
pub counts_push : (key : ℕ) (last : Option Group) (log : List Group) (group : Group) → CountsFrom key last log → (is_change group ≡ true → IsStep key (last_of last log) group) → CountsFrom key last (log ++ group ∷ [])
counts_push key last [] group counts step = (step, tt)
counts_push key last (x ∷ log) group counts step = (counts.0, counts_push key (Some x) log group counts.1 step)

-- the step of a call in a log
pub counts_at : (key : ℕ) (last : Option Group) (before later : List Group) (group : Group) → CountsFrom key last (before ++ group ∷ later) → is_change group ≡ true → IsStep key (last_of last before) group
counts_at key last [] later group counts = counts.0
counts_at key last (x ∷ before) later group counts = counts_at key (Some x) before later group counts.1

-- a log whose last call is known
record Ended (last : Option Group) (log : List Group) (group : Group) : Type 0 where
  front : List Group
  split : log ≡ front ++ group ∷ []

ended_by : (x : Group) (log : List Group) (group : Group) → last_of (Some x) log ≡ Some group → Ended None (x ∷ log) group
ended_by x [] group e = let same : x ≡ group = cc in record { front = []; split = ap (λ (g : Group). g ∷ []) same }
ended_by x (y ∷ log) group e = let later = ended_by y log group e in record { front = x ∷ later.front; split = ap (λ (l : List Group). x ∷ l) later.split }

ended : (log : List Group) (group : Group) → last_of None log ≡ Some group → Ended None log group
ended [] group e = absurd (cc)
ended (x ∷ log) group e = ended_by x log group e

-- the value that a put leaves its key
put_there : (key value : ℕ) (before : Option ℕ) → value_after before (changes.Put key value) key ≡ Some value
put_there key value before = grind (arith, nat_tests)

next_shown : (n : ℕ) → one_more (shown n) ≡ suc n
next_shown zero = refl
next_shown (suc n) = omega arith

-- One table, whose calls count this key up.
module _ (c : Config) (logs : List (List Group)) (closed : AtClose) (key : ℕ) (law : RunLaw c logs closed) (some : 0 < c.buckets) (counts : (seat : ℕ) (log : List Group) → slice_get logs seat ≡ Some log → CountsFrom key None log) where
  abbrev bucket : ℕ
  bucket = bucket_of c.buckets key

  abbrev made : List Change
  made = law.made bucket

  within : bucket < c.buckets
  within = omega arith

  -- a change, with the get before it
  record Step (group : Group) : Type 0 where
    number : ℕ
    found : Option ℕ
    told : version_told group.call group.answer ≡ Some (key, number + 1)
    had : found ≡ value_in (pairs_by made number) key
    is : slice_get made number ≡ Some (changes.Put key (one_more found))

  step_of : (before : List Group) (group : Group) → IsCall logs before group → is_change group ≡ true → Step group
  step_of before group call change =
      let s = counts_at key None before call.later group (counts call.log.seat _ call.log.at) change in
      let e = ended before _ s.got in
      let got : Group = record { call = calls.Get key; answer = answers.Got s.version s.found; notes = s.notes } in
      let first : IsCall logs e.front got = record {
        later = group ∷ call.later;
        log = record {
          seat = call.log.seat;
          at = call.log.at ∙ ap (λ (l : List Group). Some (l ++ group ∷ call.later)) e.split ∙ ap (λ (l : List Group). Some l) (append_assoc e.front (got ∷ []) (group ∷ call.later));
        };
      } in
      let read = law.versions.reads e.front got first in
      let reads : ReadsRight c law.made (calls.PutIf key (one_more s.found) s.version) (answers.Done s.made s.clock) =
      subst (λ (a : Answer). ReadsRight c law.made (calls.PutIf key (one_more s.found) s.version) a) s.answer
      (subst (λ (k : Call). ReadsRight c law.made k group.answer) s.call (law.versions.reads before group call)) in
      let next : s.made ≡ s.version + 1 = reads.1 in
      let before_it : s.version ≡ s.made - 1 = omega arith in
      record {
        number = s.version;
        found = s.found;
        told = ap (λ (k : Call). version_told k group.answer) s.call ∙ ap (λ (a : Answer). version_told (calls.PutIf key (one_more s.found) s.version) a) s.answer ∙ ap (λ (n : ℕ). Some (key, n)) next;
        had = read.1;
        is = ap (slice_get made) before_it ∙ reads.0.is;
      }

  -- the call that made a version
  once_made : (version : ℕ) → 1 ≤ version → version ≤ length made → total_of (is_change_of c.buckets bucket version) logs ≡ 1
  once_made version low high = law.versions.once bucket version within ∙ grind (arith, nat_tests)

  -- at each version the key has that version as its value
  value_at : (version : ℕ) → version ≤ length made → value_in (pairs_by made version) key ≡ shown version
  value_at zero high = refl
  value_at (suc version) high =
      let there : Found (is_change_of c.buckets bucket (suc version)) logs = found (is_change_of c.buckets bucket (suc version)) logs (omega (arith, once_made (suc version) (omega arith) high)) in
      let parts = and_parts (is_change there.group) (is_version c.buckets bucket (suc version) (version_told there.group.call there.group.answer)) there.passes in
      let step : Step there.group = step_of there.first there.group there.call parts.0 in
      let tested : (bucket == bucket && step.number + 1 == suc version) ≡ true =
      ap (is_version c.buckets bucket (suc version)) (sym step.told) ∙ parts.1 in
      let number : step.number ≡ version = grind (arith, nat_tests, and_parts (bucket == bucket) (step.number + 1 == suc version) tested) in
      let before : value_in (pairs_by made version) key ≡ shown version = value_at version (omega arith) in
      let had : step.found ≡ shown version = step.had ∙ ap (λ (n : ℕ). value_in (pairs_by made n) key) number ∙ before in
      let is : slice_get made version ≡ Some (changes.Put key (one_more (shown version))) = ap (slice_get made) (sym number) ∙ step.is ∙ ap (λ (v : Option ℕ). Some (changes.Put key (one_more v))) had in
      let change : Change = changes.Put key (one_more (shown version)) in
      let next : suc version ≡ version + 1 = omega arith in
      ap (λ (n : ℕ). value_in (pairs_by made n) key) next ∙ value_steps made version change key (omega arith)
      ∙ ap (λ (x : Change). value_after (value_in (pairs_by made version) key) x key) (get_or_from_slice_get made version change change is)
      ∙ put_there key (one_more (shown version)) (value_in (pairs_by made version) key) ∙ ap (λ (n : ℕ). Some n) (next_shown version)

  -- each call that changes the bucket tells one version
  weighs : (before : List Group) (group : Group) → IsCall logs before group → cond (is_change group) 1 0 ≡ spread (is_change_of c.buckets bucket) (λ (change : Change). 1) 0 made group
  weighs before group call = by (is_change group) refl
    where
      by : (b : Bool) → is_change group ≡ b → cond (is_change group) 1 0 ≡ spread (is_change_of c.buckets bucket) (λ (change : Change). 1) 0 made group
      by false is =
          ap (λ (b : Bool). cond b 1 0) is
          ∙ sym (spread_none (is_change_of c.buckets bucket) (λ (change : Change). 1) 0 made group (λ number low. ap (λ (b : Bool). b && is_version c.buckets bucket number (version_told group.call group.answer)) is))
      by true is =
          let step : Step group = step_of before group call is in
          ap (λ (b : Bool). cond b 1 0) is
          ∙ sym (spread_one (is_change_of c.buckets bucket) (λ (change : Change). 1) 0 step.number made (changes.Put key (one_more step.found)) group step.is
          (λ number. ap (λ (b : Bool). b && is_version c.buckets bucket number (version_told group.call group.answer)) is ∙ ap (is_version c.buckets bucket number) step.told ∙ grind (arith, nat_tests)))

  ones : (xs : List Change) → sum_by (λ (x : Change). 1) xs ≡ length xs
  ones [] = refl
  ones (x ∷ xs) = omega (arith, sum_by-cons (λ (y : Change). 1) x xs, ones xs)

  counted : total_of is_change logs ≡ length made
  counted =
      total_same (λ (group : Group). cond (is_change group) 1 0) (spread (is_change_of c.buckets bucket) (λ (change : Change). 1) 0 made) logs weighs
      ∙ total_spread (is_change_of c.buckets bucket) (λ (change : Change). 1) 0 made logs (λ number low high. once_made number (omega arith) (omega arith)) ∙ ones made

  pub record Closes (total : ℕ) : Type 0 where
    pub value : value_in (bucket_in bucket closed).pairs key ≡ shown total
    pub version : (bucket_in bucket closed).version ≡ total

  pub closes : (total : ℕ) → total_of is_change logs ≡ total → Closes total
  closes total is =
      let long : length made ≡ total = sym counted ∙ is in
      record {
        value =
            ap (λ ps. value_in ps key) (law.versions.pairs bucket within ∙ sym (all_changes made)) ∙ value_at (length made) (omega arith) ∙ ap shown long;
        version = law.versions.version bucket within ∙ long;
      }

-- What counters come to, once their table is closed.

sum_counts : (key : ℕ) (done : List Counter) → ((n : ℕ) (d : Counter) → n < length done → Counts key (get_or done n d).seat.track.local.log (get_or done n d).counts)
    → total_of is_change (map (λ counter. counter.seat.track.local.log) done) ≡ sum_by (λ counter. counter.counts) done
sum_counts key [] each = refl
sum_counts key (counter ∷ done) each =
    let first = each 0 counter (omega arith) in
    let later = sum_counts key done (λ n d within. each (suc n) d (omega (arith, within))) in
    omega (arith, first.times_is, later, sum_by-cons (λ (log : List Group). count_by is_change log) counter.seat.track.local.log (map (λ (c : Counter). c.seat.track.local.log) done), sum_by-cons (λ (c : Counter). c.counts) counter done)

map_twice : (done : List Counter) → map log_of (map (λ counter. counter.seat) done) ≡ map (λ counter. counter.seat.track.local.log) done
map_twice [] = refl
map_twice (counter ∷ done) = ap (λ (logs : List (List Group)). counter.seat.track.local.log ∷ logs) (map_twice done)

counts_in : (key : ℕ) (done : List Counter) (seat : ℕ) (log : List Group) → ((n : ℕ) (d : Counter) → n < length done → Counts key (get_or done n d).seat.track.local.log (get_or done n d).counts)
    → slice_get (map (λ counter. counter.seat.track.local.log) done) seat ≡ Some log → CountsFrom key None log
counts_in key [] seat log each at = absurd (cc)
counts_in key (counter ∷ done) zero log each at = let same : counter.seat.track.local.log ≡ log = cc in subst (CountsFrom key None) same (each 0 counter (omega arith)).steps
counts_in key (counter ∷ done) (suc seat) log each at = counts_in key done seat log (λ n d within. each (suc n) d (omega (arith, within))) at

-- each of these has counted with the seat of its number
abbrev pub EachCounted : TableNow → (key : ℕ) → List Counter → Type 0
EachCounted shared key done = (n : ℕ) (d : Counter) → n < shared.layout.config.seats → IsCounter shared key n (get_or done n d)

-- so the seats are the table's
pub all_of : (shared : TableNow) (key : ℕ) (done : List Counter) (seats : List SeatNow) (total : ℕ) → length done ≡ shared.layout.config.seats → EachCounted shared key done → IsSummed done seats total → All (λ seat. IsOf seat shared) seats
all_of shared key done seats total count each summed =
    All-same (λ seat. IsOf seat shared) seats (map (λ counter. counter.seat) done) summed.seats_are
    (All-map (λ seat. IsOf seat shared) (λ (counter : Counter). counter.seat) done (λ n d within. (each n d (omega (arith, within, count))).of))

number_of : (shared : TableNow) (key : ℕ) (done : List Counter) (seats : List SeatNow) (n : ℕ) (d : SeatNow) → seats ≡ map (λ counter. counter.seat) done → length done ≡ shared.layout.config.seats → EachCounted shared key done → n < length done
    → seat_of (get_or seats n d).track ≡ n
number_of shared key [] seats n d e count each within = absurd (omega (arith, within))
number_of shared key (counter ∷ done) seats n d e count each within =
    ap (λ (xs : List SeatNow). seat_of (get_or xs n d).track) e ∙ ap (λ (seat : SeatNow). seat_of seat.track) (get_or-map (λ (k : Counter). k.seat) (counter ∷ done) n counter d within)
    ∙ (each n counter (omega (arith, within, count))).number_is

pub shows_count : (shared : TableNow) (key : ℕ) (done : List Counter) (seats : List SeatNow) (total : ℕ) (closed : Closed) → 0 < shared.layout.config.buckets → length done ≡ shared.layout.config.seats → EachCounted shared key done → IsSummed done seats total
    → IsLeft shared.layout (map track_of seats) closed → ShowsCount key closed total
shows_count shared key done seats total closed some count each summed left =
    let c = shared.layout.config in
    let counts = λ (n : ℕ) (d : Counter) (within : n < length done). (each n d (omega (arith, within, count))).counts in
    let same : map log_of seats ≡ map (λ counter. counter.seat.track.local.log) done = ap (map log_of) summed.seats_are ∙ map_twice done in
    let many : length seats ≡ length done = ap length summed.seats_are ∙ length-map done (λ (counter : Counter). counter.seat) in
    let logs = logs_are shared.layout left.items seats (many ∙ count) (λ n d within. number_of shared key done seats n d summed.seats_are count each (omega (arith, within, many))) left.follow ∙ same in
    let law : RunLaw c (map (λ counter. counter.seat.track.local.log) done) (closing_of closed) = subst (λ (all : List (List Group)). RunLaw c all (closing_of closed)) logs left.run in
    let end = closes c (map (λ counter. counter.seat.track.local.log) done) (closing_of closed) key law some (λ seat log at. counts_in key done seat log counts at) total (sum_counts key done counts ∙ sym summed.total_is) in
    let long : length closed.buckets.items ≡ c.buckets = sym (length-map closed.buckets.items filling_of) ∙ law.versions.buckets in
    record {
      value = ap (λ (n : ℕ). value_in (bucket_in (key % n) (closing_of closed)).pairs key) long ∙ end.value;
      version = ap (λ (n : ℕ). (bucket_in (key % n) (closing_of closed)).version) long ∙ end.version;
    }

-- What an attempt makes of a log.

pub counts_begun : (key : ℕ) (log : List Group) → log ≡ [] → Counts key log 0
counts_begun key log none = subst (λ (l : List Group). Counts key l 0) (sym none) (record { steps = tt; times_is = refl })

abbrev pub got_group : (key version : ℕ) → Option ℕ → SeatNow → Group
got_group key version found mid = group_of (calls.Get key) (answers.Got version found) mid

-- a get alone
pub counts_got : (layout : Layout) (key version times : ℕ) (found : Option ℕ) (old mid : SeatNow) → IsMade layout old mid (calls.Get key) (answers.Got version found) → Counts key (log_of old) times → Counts key (log_of mid) times
counts_got layout key version times found old mid made counts =
    let get : Group = got_group key version found mid in
    let grows : log_of mid ≡ log_of old ++ get ∷ [] = made.ends.left.log in
    record {
      steps = subst (CountsFrom key None) (sym grows) (counts_push key None (log_of old) get counts.steps (λ change. absurd (cc)));
      times_is = ap (count_by is_change) grows ∙ omega (arith, sum_by_push (λ (g : Group). cond (is_change g) 1 0) (log_of old) get, counts.times_is);
    }

-- and a put at its version
pub counts_put : (layout : Layout) (key version times : ℕ) (found : Option ℕ) (answer : Answer) (old mid new : SeatNow) → IsMade layout old mid (calls.Get key) (answers.Got version found)
    → IsMade layout mid new (calls.PutIf key (one_more found) version) answer → (more : ℕ) → (made : ℕ) (clock : ClockMove) → (is_change (group_of (calls.PutIf key (one_more found) version) answer new) ≡ true → answer ≡ answers.Done made clock)
    → cond (is_change (group_of (calls.PutIf key (one_more found) version) answer new)) 1 0 ≡ more → Counts key (log_of old) times → Counts key (log_of new) (times + more)
counts_put layout key version times found answer old mid new got put more made clock done is counts =
    let get : Group = got_group key version found mid in
    let group : Group = group_of (calls.PutIf key (one_more found) version) answer new in
    let before = counts_got layout key version times found old mid got counts in
    let grows : log_of new ≡ log_of mid ++ group ∷ [] = put.ends.left.log in
    let last : last_of None (log_of mid) ≡ Some get = ap (last_of None) got.ends.left.log ∙ last_push None (log_of old) get in
    record {
      steps =
          subst (CountsFrom key None) (sym grows)
          (counts_push key None (log_of mid) group before.steps
          (λ change. record { version = version; found = found; notes = mid.track.local.desk.notes; got = last; call = refl; made = made; clock = clock; answer = done change }));
      times_is = ap (count_by is_change) grows ∙ omega (arith, sum_by_push (λ (g : Group). cond (is_change g) 1 0) (log_of mid) group, before.times_is, is);
    }

-- a refused one changes nothing
pub refused_none : (key value version : ℕ) (refusal : PutIfRefusal) (notes : Notes) → is_change (record { call = calls.PutIf key value version; answer = put_if_answer refusal; notes = notes }) ≡ false
refused_none key value version (put_ifs.Stale v) notes = refl
refused_none key value version (put_ifs.Spent n) notes = refl
refused_none key value version (put_ifs.BucketFull v) notes = refl
refused_none key value version put_ifs.Full notes = refl

-- a count
pub counts_done : (layout : Layout) (key version times next made : ℕ) (clock : ClockMove) (found : Option ℕ) (old mid new : SeatNow) → IsMade layout old mid (calls.Get key) (answers.Got version found) → next ≡ one_more found
    → IsMade layout mid new (calls.PutIf key next version) (answers.Done made clock) → Counts key (log_of old) times → Counts key (log_of new) (times + 1)
counts_done layout key version times next made clock found old mid new got e put counts =
    counts_put layout key version times found (answers.Done made clock) old mid new got (subst (λ (n : ℕ). IsMade layout mid new (calls.PutIf key n version) (answers.Done made clock)) e put) 1 made clock (λ change. refl) refl counts

-- and an attempt that is none
pub counts_refused : (layout : Layout) (key version times next : ℕ) (refusal : PutIfRefusal) (found : Option ℕ) (old mid new : SeatNow) → IsMade layout old mid (calls.Get key) (answers.Got version found) → next ≡ one_more found
    → IsMade layout mid new (calls.PutIf key next version) (put_if_answer refusal) → Counts key (log_of old) times → Counts key (log_of new) (times + 0)
counts_refused layout key version times next refusal found old mid new got e put counts =
    let none : is_change (group_of (calls.PutIf key (one_more found) version) (put_if_answer refusal) new) ≡ false = refused_none key (one_more found) version refusal new.track.local.desk.notes in
    counts_put layout key version times found (put_if_answer refusal) old mid new got (subst (λ (n : ℕ). IsMade layout mid new (calls.PutIf key n version) (put_if_answer refusal)) e put) 0 0 moves.Still (λ change. absurd (cc))
    (ap (λ (b : Bool). cond b 1 0) none) counts
