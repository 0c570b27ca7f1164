-- The entries at which calls tell what they answer: there a change takes effect, and a get has done so by then.
use Rattle.std.proofs.Common.{ℕ, ◌≡◌, ◌≤◌, ◌<◌, ◌+◌, ◌-◌, Bool, true, false, refl, sym, ap, arith, subst, List, [], ◌∷◌, ◌++◌, length, take, drop, drop-cons, add-one, get_or, Option, None, Some, ◌⊎◌, inl, inr}
use Rattle.std.proofs.Math.Seq.{take-append_seam}
use Rattle.std.proofs.lemmas.Bool.Decides.{nat_tests}
use Rattle.std.proofs.lemmas.List.{drop-append-le, length-append}
use Rattle.std.specs.Prelude.{◌==◌, ◌&&◌, ◌||◌, nat_lt, nat_le, is_some, slice_index_or, ◌%◌, if◌then◌else◌}
use Rattle.laws.proofs.records.defs.Facts.{both, first_of, number_is, rest_of, same_number}
use Rattle.laws.proofs.records.defs.Values.{pairs_from-append}
use Rattle.laws.specs.HistoryAnswers.{owes, put_reason, reason, remove_reason}
use Rattle.laws.specs.MapLaw.{map_ok}
use Rattle.laws.specs.QueueLaw.{queue_ok}
use Rattle.laws.specs.StateAt.{began_of, is_open, told_of}
use Rattle.laws.specs.StructuresAt.{Filling, bucket_of, changes_of, count_of, had_version, is_there, pairs_at, queued_of, same_value, taken_of, value_at, was_current}
use Rattle.laws.specs.defs.Pairs.{Pair, changed, pairs_after, value_in}
use Rattle.laws.specs.defs.declared.call.Answer.TheVariants as answers
use Rattle.laws.specs.defs.declared.call.Answer.{Answer}
use Rattle.laws.specs.defs.declared.call.Call.TheVariants as calls
use Rattle.laws.specs.defs.declared.call.Call.{Call}
use Rattle.laws.specs.defs.declared.call.ClockMove.TheVariants as moves
use Rattle.laws.specs.defs.declared.call.ClockMove.{ClockMove}
use Rattle.laws.specs.defs.declared.event.Event.TheVariants as events
use Rattle.laws.specs.defs.declared.event.Event.{Event}
use Rattle.laws.specs.defs.declared.fold.Change.TheVariants as the_changes
use Rattle.laws.specs.defs.declared.fold.Change.{Change}
use Rattle.laws.specs.defs.Entry.{Entry}
use Rattle.laws.specs.records.Record.Past.{Start, Then}
use Rattle.laws.specs.records.Record.{EachEntry, Past, tells}
use Rattle.laws.specs.words.declared.config.Config.{Config}
use Rattle.law_linear.specs.Hands.{hand_of}
use Rattle.law_linear.specs.Object.{Hand, Object, after, but_first, change, goes_on, has_key, has_room, is_first, keeps, may_answer, may_get, may_put, put_in, queue, take_one, take_out}
use Rattle.law_linear.specs.LinearLaw.{asks_for, is_none}
use Rattle.law_linear.specs.Points.{object_at}
use Rattle.law_linear.proofs.Ending.{Owed}
use Rattle.law_linear.proofs.Marking.{WasAt}
use Rattle.law_linear.proofs.Positions.{was_there}
use Rattle.law_linear.proofs.Stages.{told_answer}

-- a call that leaves map and queue could answer so at a position since it began; `new`: what its seat keeps then
pub record Could (c : Config) (p : Past) (i : ℕ) (call : Call) (answer : Answer) (new : Hand) : Type 0 where
  pub now : Object
  pub was : WasAt i now p
  pub may : may_answer c now (hand_of c i p) call answer ≡ true
  pub keeping : keeps c now (hand_of c i p) call answer ≡ new
  pub stays : (x : Object) → after c x call answer ≡ x

-- it changes them at this entry
pub record Changes (c : Config) (p : Past) (i : ℕ) (event : Event) (call : Call) (answer : Answer) : Type 0 where
  pub may : may_answer c (object_at p) (hand_of c i p) call answer ≡ true
  pub new : object_at (Then p i event) ≡ after c (object_at p) call answer
  pub keeping : (x : Object) (h : Hand) → keeps c x h call answer ≡ h

pub record Tells (c : Config) (p : Past) (i : ℕ) (event : Event) (answer : Answer) : Type 0 where
  pub call : Call
  pub inside : is_open i p ≡ true
  pub began : began_of i p ≡ Some call
  pub none : told_of i p ≡ []
  pub takes : Changes c p i event call answer ⊎ ((object_at (Then p i event) ≡ object_at p) × Could c p i call answer (hand_of c i p))

same_test : (a b : ℕ) → a ≡ b → (a == b) ≡ true
same_test a b h = grind (arith, nat_tests)

below_last : (v n last : ℕ) → v ≡ n + 1 → nat_le v last ≡ true → nat_lt n last ≡ true
below_last v n last e h = grind (arith, nat_tests)

same_object : (one other : Object) → ((b : ℕ) → one.bucket b ≡ other.bucket b) → one.waiting ≡ other.waiting → one.queued ≡ other.queued → one.taken ≡ other.taken → one ≡ other
same_object one other b w q t = λ j. record { bucket = λ x. b x j; waiting = w j; queued = q j; taken = t j }

-- a bucket after one change more
abbrev filling : List Change → Filling
filling cs = record { version = length cs; pairs = pairs_after cs }

abbrev filled : Change → Filling → Filling
filled one at = record { version = at.version + 1; pairs = changed at.pairs one }

filled_more : (cs : List Change) (one : Change) → filling (cs ++ one ∷ []) ≡ filled one (filling cs)
filled_more cs one = λ j. record { version = length-append cs (one ∷ []) j; pairs = pairs_from-append [] cs (one ∷ []) j }

filled_at : (b : ℕ) (one : Change) (all : ℕ → List Change) (other : ℕ) (same : Bool) → (other == b) ≡ same
    → filling (if same then all other ++ one ∷ [] else all other) ≡ (if same then filled one (filling (all b)) else filling (all other))
filled_at b one all other true e = let is : other ≡ b = number_is other b e in rw is (filled_more (all b) one)
filled_at b one all other false e = refl

put_new : (p : Past) (i b version key value : ℕ) → object_at (Then p i (events.Put b version key value)) ≡ change b (put_in key value ((object_at p).bucket b)) (object_at p)
put_new p i b version key value =
    same_object (object_at (Then p i (events.Put b version key value))) (change b (put_in key value ((object_at p).bucket b)) (object_at p))
    (λ other. filled_at b (the_changes.Put key value) (λ x. changes_of x p) other (other == b) refl) refl refl refl

take_new : (p : Past) (i b version key : ℕ) → object_at (Then p i (events.Removed b version key)) ≡ change b (take_out key ((object_at p).bucket b)) (object_at p)
take_new p i b version key =
    same_object (object_at (Then p i (events.Removed b version key))) (change b (take_out key ((object_at p).bucket b)) (object_at p))
    (λ other. filled_at b (the_changes.Removed key) (λ x. changes_of x p) other (other == b) refl) refl refl refl

-- later changes leave the pairs at the version before this one
pairs_before : (p at : Past) (b version : ℕ) → (more : List Change) × (changes_of b at ≡ changes_of b p ++ more) → version ≡ count_of b p + 1
    → pairs_at b (version - 1) at ≡ pairs_after (changes_of b p)
pairs_before p at b version s e =
    let n : version - 1 ≡ count_of b p = omega arith in
    let cut : take (version - 1) (changes_of b at) ≡ changes_of b p = rw (n, s.1) (take-append_seam (changes_of b p) s.0) in
    ap pairs_after cut

put_may : (c : Config) (p at : Past) (i b key version : ℕ) (clock : ClockMove) → (more : List Change) × (changes_of b at ≡ changes_of b p ++ more) → version ≡ count_of b p + 1
    → put_reason c i b key at (answers.Done version clock) ≡ true → may_put c key ((object_at p).bucket b) (answers.Done version moves.Still) ≡ true
put_may c p at i b key version clock s e h =
    let room : Bool = is_there b (version - 1) key at || nat_lt (length (pairs_at b (version - 1) at)) c.pairs in
    let low = first_of (nat_le version c.last_version) (had_version b (version - 1) at && room) h in
    let there = rest_of (had_version b (version - 1) at) room (rest_of (nat_le version c.last_version) (had_version b (version - 1) at && room) h) in
    let here : has_room c key ((object_at p).bucket b) ≡ true =
    subst (λ (ps : List Pair). (is_some (value_in ps key) || nat_lt (length ps) c.pairs) ≡ true) (pairs_before p at b version s e) there in
    both (version == count_of b p + 1) (goes_on c ((object_at p).bucket b) && has_room c key ((object_at p).bucket b)) (same_test version (count_of b p + 1) e)
    (both (goes_on c ((object_at p).bucket b)) (has_room c key ((object_at p).bucket b)) (below_last version (count_of b p) c.last_version e low) here)

remove_may : (c : Config) (p at : Past) (i b key version : ℕ) (clock : ClockMove) → (more : List Change) × (changes_of b at ≡ changes_of b p ++ more) → version ≡ count_of b p + 1
    → remove_reason c i b key at (answers.Done version clock) ≡ true
    → (version == count_of b p + 1 && (goes_on c ((object_at p).bucket b) && has_key key ((object_at p).bucket b))) ≡ true
remove_may c p at i b key version clock s e h =
    let low = first_of (nat_le version c.last_version) (had_version b (version - 1) at && is_there b (version - 1) key at) h in
    let there = rest_of (had_version b (version - 1) at) (is_there b (version - 1) key at) (rest_of (nat_le version c.last_version) (had_version b (version - 1) at && is_there b (version - 1) key at) h) in
    let here : has_key key ((object_at p).bucket b) ≡ true = subst (λ (ps : List Pair). is_some (value_in ps key) ≡ true) (pairs_before p at b version s e) there in
    both (version == count_of b p + 1) (goes_on c ((object_at p).bucket b) && has_key key ((object_at p).bucket b)) (same_test version (count_of b p + 1) e)
    (both (goes_on c ((object_at p).bucket b)) (has_key key ((object_at p).bucket b)) (below_last version (count_of b p) c.last_version e low) here)

-- No more is taken than queued.
one_few : (p : Past) (i : ℕ) (event : Event) → queue_ok p i event ≡ true → taken_of p ≤ length (queued_of p) → taken_of (Then p i event) ≤ length (queued_of (Then p i event))
one_few p i (events.Queued number value) h l = omega (arith, length-append (queued_of p) (value ∷ []))
one_few p i (events.Taken number value) h l =
    let rest : Bool = nat_le number (length (queued_of p)) && value == slice_index_or (queued_of p) (number - 1) 0 in
    more (number_is number (taken_of p + 1) (first_of (number == taken_of p + 1) rest h))
    (first_of (nat_le number (length (queued_of p))) (value == slice_index_or (queued_of p) (number - 1) 0) (rest_of (number == taken_of p + 1) rest h))
  where
    more : number ≡ taken_of p + 1 → nat_le number (length (queued_of p)) ≡ true → taken_of p + 1 ≤ length (queued_of p)
    more e g = grind (arith, nat_tests)
one_few p i event h l = l

pub few_taken : (r : Past) → EachEntry queue_ok r → (p : Past) (later : List Entry) → r ≡ tells p later → taken_of p ≤ length (queued_of p)
few_taken r k Start later cut = omega arith
few_taken r k (Then p i event) later cut = one_few p i event (k p i event later cut) (few_taken r k p (record { seat = i; event = event } ∷ later) cut)

queue_new : (p : Past) (i number value : ℕ) → taken_of p ≤ length (queued_of p) → object_at (Then p i (events.Queued number value)) ≡ queue value (object_at p)
queue_new p i number value l =
    same_object (object_at (Then p i (events.Queued number value))) (queue value (object_at p)) (λ b. refl)
    (drop-append-le (taken_of p) (queued_of p) (value ∷ []) l) (length-append (queued_of p) (value ∷ [])) refl

first_left : (n : ℕ) (xs : List ℕ) → n < length xs → drop n xs ≡ get_or xs n 0 ∷ drop (n + 1) xs
first_left n xs l = rw (add-one, drop-cons xs n 0) refl

take_one_new : (p : Past) (i number value : ℕ) → taken_of p < length (queued_of p) → object_at (Then p i (events.Taken number value)) ≡ take_one (object_at p)
take_one_new p i number value l =
    same_object (object_at (Then p i (events.Taken number value))) (take_one (object_at p)) (λ b. refl) (sym (ap but_first (first_left (taken_of p) (queued_of p) l))) refl refl

-- What each call tells.
got_tells : (c : Config) (p : Past) (i key version : ℕ) (value : Option ℕ) → is_open i p ≡ true → began_of i p ≡ Some (calls.Get key) → told_of i p ≡ []
    → map_ok c.buckets p i (events.Got (key % c.buckets) version key value) ≡ true → Tells c p i (events.Got (key % c.buckets) version key value) (answers.Got version value)
got_tells c p i key version value o b n m =
    let place : ℕ = key % c.buckets in
    let rest : Bool = same_value value (value_at place version key p) && was_current i place version p in
    let right = rest_of (place == bucket_of c.buckets key) rest m in
    let is = first_of (same_value value (value_at place version key p)) (was_current i place version p) right in
    let x = was_there i place version p (rest_of (same_value value (value_at place version key p)) (was_current i place version p) right) in
    let may : may_get key (record { version = version; pairs = pairs_after (take version (changes_of place p)) }) (answers.Got version value) ≡ true =
    both (version == version) (same_value value (value_at place version key p)) (same_number version) is in
    record {
      call = calls.Get key;
      inside = o;
      began = b;
      none = n;
      takes = inr (
        refl,
        record {
          now = x.now;
          was = x.was;
          may = subst (λ (f : Filling). may_get key f (answers.Got version value) ≡ true) (sym x.is) may;
          keeping = refl;
          stays = λ y. refl;
        },
      );
    }

next_is : (n b version count : ℕ) (same : Bool) → (version == count + 1 && same) ≡ true → version ≡ count + 1
next_is n b version count same m = number_is version (count + 1) (first_of (version == count + 1) same m)

put_tells : (c : Config) (p at : Past) (i key value version : ℕ) (clock : ClockMove) → is_open i p ≡ true → began_of i p ≡ Some (calls.Put key value) → told_of i p ≡ []
    → reason c i at (Some (calls.Put key value)) (answers.Done version clock) ≡ true → ((b : ℕ) → (more : List Change) × (changes_of b at ≡ changes_of b p ++ more))
    → map_ok c.buckets p i (events.Put (key % c.buckets) version key value) ≡ true → Tells c p i (events.Put (key % c.buckets) version key value) (answers.Done version moves.Still)
put_tells c p at i key value version clock o b n w s m =
    let place : ℕ = key % c.buckets in
    let next = next_is c.buckets place version (count_of place p) (place == bucket_of c.buckets key) m in
    record {
      call = calls.Put key value;
      inside = o;
      began = b;
      none = n;
      takes = inl (record { may = put_may c p at i place key version clock (s place) next w; new = put_new p i place version key value; keeping = λ x h. refl });
    }

put_if_tells : (c : Config) (p at : Past) (i key value wanted version : ℕ) (clock : ClockMove) → is_open i p ≡ true → began_of i p ≡ Some (calls.PutIf key value wanted) → told_of i p ≡ []
    → reason c i at (Some (calls.PutIf key value wanted)) (answers.Done version clock) ≡ true → ((b : ℕ) → (more : List Change) × (changes_of b at ≡ changes_of b p ++ more))
    → map_ok c.buckets p i (events.Put (key % c.buckets) version key value) ≡ true → Tells c p i (events.Put (key % c.buckets) version key value) (answers.Done version moves.Still)
put_if_tells c p at i key value wanted version clock o b n w s m =
    let place : ℕ = key % c.buckets in
    let next = next_is c.buckets place version (count_of place p) (place == bucket_of c.buckets key) m in
    let mine = number_is version (wanted + 1) (first_of (version == wanted + 1) (put_reason c i place key at (answers.Done version clock)) w) in
    let may = put_may c p at i place key version clock (s place) next (rest_of (version == wanted + 1) (put_reason c i place key at (answers.Done version clock)) w) in
    record {
      call = calls.PutIf key value wanted;
      inside = o;
      began = b;
      none = n;
      takes = inl (record {
        may = both (count_of place p == wanted) (may_put c key ((object_at p).bucket place) (answers.Done version moves.Still)) (same_test (count_of place p) wanted (omega (arith, next, mine))) may;
        new = put_new p i place version key value;
        keeping = λ x h. refl;
      });
    }

remove_tells : (c : Config) (p at : Past) (i key version : ℕ) (clock : ClockMove) → is_open i p ≡ true → began_of i p ≡ Some (calls.Remove key) → told_of i p ≡ []
    → reason c i at (Some (calls.Remove key)) (answers.Done version clock) ≡ true → ((b : ℕ) → (more : List Change) × (changes_of b at ≡ changes_of b p ++ more))
    → map_ok c.buckets p i (events.Removed (key % c.buckets) version key) ≡ true → Tells c p i (events.Removed (key % c.buckets) version key) (answers.Done version moves.Still)
remove_tells c p at i key version clock o b n w s m =
    let place : ℕ = key % c.buckets in
    let next = next_is c.buckets place version (count_of place p) (place == bucket_of c.buckets key) m in
    record {
      call = calls.Remove key;
      inside = o;
      began = b;
      none = n;
      takes = inl (record { may = remove_may c p at i place key version clock (s place) next w; new = take_new p i place version key; keeping = λ x h. refl });
    }

queue_tells : (c : Config) (p at : Past) (i value number : ℕ) → is_open i p ≡ true → began_of i p ≡ Some (calls.Enqueue value) → told_of i p ≡ []
    → reason c i at (Some (calls.Enqueue value)) (answers.Queued number) ≡ true → taken_of p ≤ length (queued_of p)
    → queue_ok p i (events.Queued number value) ≡ true → Tells c p i (events.Queued number value) (answers.Queued number)
queue_tells c p at i value number o b n w l q =
    record {
      call = calls.Enqueue value;
      inside = o;
      began = b;
      none = n;
      takes = inl (record {
        may = both (number == length (queued_of p) + 1) (nat_lt (length (queued_of p)) c.last_version) q
            (below_last number (length (queued_of p)) c.last_version (number_is number (length (queued_of p) + 1) q) w);
        new = queue_new p i number value l;
        keeping = λ x h. refl;
      });
    }

take_tells : (c : Config) (p : Past) (i number value : ℕ) → is_open i p ≡ true → began_of i p ≡ Some calls.Dequeue → told_of i p ≡ []
    → queue_ok p i (events.Taken number value) ≡ true → Tells c p i (events.Taken number value) (answers.Taken number value moves.Still)
take_tells c p i number value o b n q =
    let rest : Bool = nat_le number (length (queued_of p)) && value == slice_index_or (queued_of p) (number - 1) 0 in
    let is : (number == taken_of p + 1) ≡ true = first_of (number == taken_of p + 1) rest q in
    let next : number ≡ taken_of p + 1 = number_is number (taken_of p + 1) is in
    let more = rest_of (number == taken_of p + 1) rest q in
    let low : nat_le number (length (queued_of p)) ≡ true = first_of (nat_le number (length (queued_of p))) (value == slice_index_or (queued_of p) (number - 1) 0) more in
    let first : (value == get_or (queued_of p) (number - 1) 0) ≡ true = rest_of (nat_le number (length (queued_of p))) (value == slice_index_or (queued_of p) (number - 1) 0) more in
    let left : taken_of p < length (queued_of p) = grind (arith, nat_tests) in
    let at : number - 1 ≡ taken_of p = omega arith in
    record {
      call = calls.Dequeue;
      inside = o;
      began = b;
      none = n;
      takes = inl (record {
        may = both (number == taken_of p + 1) (is_first value (drop (taken_of p) (queued_of p))) is
            (rw (first_left (taken_of p) (queued_of p) left) (subst (λ (x : ℕ). (value == get_or (queued_of p) x 0) ≡ true) at first));
        new = take_one_new p i number value left;
        keeping = λ x h. refl;
      });
    }

abbrev pub TellsSo : Config → Past → ℕ → Event → Option Answer → Type 0
TellsSo c p i event None = Unit {0}
TellsSo c p i event (Some answer) = Tells c p i event answer

-- by what is told
abbrev pub Telling : Config → Past → ℕ → Event → Type 0
Telling c p i event = map_ok c.buckets p i event ≡ true → queue_ok p i event ≡ true → TellsSo c p i event (told_answer event)

head_is : (x y : Event) → ◌≡◌ {A = List Event} (x ∷ []) (y ∷ []) → x ≡ y
head_is x y h = cc

telling_by : (c : Config) (p at : Past) (i : ℕ) (event : Event) (call : Call) (answer : Answer) → is_open i p ≡ true → began_of i p ≡ Some call → told_of i p ≡ []
    → reason c i at (Some call) answer ≡ true → ((b : ℕ) → (more : List Change) × (changes_of b at ≡ changes_of b p ++ more)) → taken_of p ≤ length (queued_of p)
    → owes c.buckets call answer ≡ event ∷ [] → Telling c p i event
telling_by c p at i event (calls.Get key) (answers.Got version value) o b n w s l e =
    subst (Telling c p i) (head_is (events.Got (key % c.buckets) version key value) event e) (λ m q. got_tells c p i key version value o b n m)
telling_by c p at i event (calls.Put key value) (answers.Done version clock) o b n w s l e =
    subst (Telling c p i) (head_is (events.Put (key % c.buckets) version key value) event e) (λ m q. put_tells c p at i key value version clock o b n w s m)
telling_by c p at i event (calls.Remove key) (answers.Done version clock) o b n w s l e =
    subst (Telling c p i) (head_is (events.Removed (key % c.buckets) version key) event e) (λ m q. remove_tells c p at i key version clock o b n w s m)
telling_by c p at i event (calls.Enqueue value) (answers.Queued number) o b n w s l e =
    subst (Telling c p i) (head_is (events.Queued number value) event e) (λ m q. queue_tells c p at i value number o b n w l q)
telling_by c p at i event calls.Dequeue (answers.Taken number value clock) o b n w s l e =
    subst (Telling c p i) (head_is (events.Taken number value) event e) (λ m q. take_tells c p i number value o b n q)
telling_by c p at i event (calls.Copy from index) (answers.Copied slot) o b n w s l e = subst (Telling c p i) (head_is (events.Copied from index slot) event e) (λ m q. tt)
telling_by c p at i event (calls.PutIf key value wanted) (answers.Done version clock) o b n w s l e =
    subst (Telling c p i) (head_is (events.Put (key % c.buckets) version key value) event e) (λ m q. put_if_tells c p at i key value wanted version clock o b n w s m)
telling_by c p at i event calls.Leave (answers.Left count) o b n w s l e = subst (Telling c p i) (head_is (events.Left count) event e) (λ m q. tt)
telling_by c p at i event (calls.Adopt place) (answers.Adopted count) o b n w s l e = subst (Telling c p i) (head_is (events.Adopted place count) event e) (λ m q. tt)
telling_by c p at i event call answer o b n w s l e = absurd (cc)

pub telling : (c : Config) (p : Past) (i : ℕ) (event : Event) → Owed c p i event → taken_of p ≤ length (queued_of p) → Telling c p i event
telling c p i event o l = telling_by c p o.at i event o.call o.answer o.inside o.began o.none o.why o.changes l o.owes_it

-- So what it tells it was asked for.
abbrev Asked : Config → Call → Event → Type 0
Asked c call event = asks_for c.buckets (Some call) event ≡ true

same_two : (a b : ℕ) → (a == a && b == b) ≡ true
same_two a b = both (a == a) (b == b) (same_number a) (same_number b)

asked_by : (c : Config) (at : Past) (i : ℕ) (event : Event) (call : Call) (answer : Answer) → reason c i at (Some call) answer ≡ true → owes c.buckets call answer ≡ event ∷ [] → Asked c call event
asked_by c at i event (calls.Get key) (answers.Got version value) w e =
    subst (Asked c (calls.Get key)) (head_is (events.Got (key % c.buckets) version key value) event e) (same_two (key % c.buckets) key)
asked_by c at i event (calls.Put key value) (answers.Done version clock) w e =
    subst (Asked c (calls.Put key value)) (head_is (events.Put (key % c.buckets) version key value) event e)
    (both (key % c.buckets == key % c.buckets) (key == key && value == value) (same_number (key % c.buckets)) (same_two key value))
asked_by c at i event (calls.Remove key) (answers.Done version clock) w e =
    subst (Asked c (calls.Remove key)) (head_is (events.Removed (key % c.buckets) version key) event e) (same_two (key % c.buckets) key)
asked_by c at i event (calls.Enqueue value) (answers.Queued number) w e = subst (Asked c (calls.Enqueue value)) (head_is (events.Queued number value) event e) (same_number value)
asked_by c at i event calls.Dequeue (answers.Taken number value clock) w e = subst (Asked c calls.Dequeue) (head_is (events.Taken number value) event e) refl
asked_by c at i event (calls.Copy from index) (answers.Copied slot) w e = subst (Asked c (calls.Copy from index)) (head_is (events.Copied from index slot) event e) refl
asked_by c at i event (calls.PutIf key value wanted) (answers.Done version clock) w e =
    let place : ℕ = key % c.buckets in
    let next = first_of (version == wanted + 1) (put_reason c i (key % c.buckets) key at (answers.Done version clock)) w in
    subst (Asked c (calls.PutIf key value wanted)) (head_is (events.Put (key % c.buckets) version key value) event e)
    (both (place == place && version == wanted + 1) (key == key && value == value) (both (place == place) (version == wanted + 1) (same_number place) next) (same_two key value))
asked_by c at i event calls.Leave (answers.Left count) w e = subst (Asked c calls.Leave) (head_is (events.Left count) event e) refl
asked_by c at i event (calls.Adopt place) (answers.Adopted count) w e = subst (Asked c (calls.Adopt place)) (head_is (events.Adopted place count) event e) refl
asked_by c at i event call answer w e = absurd (cc)

pub tells_first : (c : Config) (p : Past) (i : ℕ) (event : Event) → Owed c p i event → (is_none (told_of i p) && asks_for c.buckets (began_of i p) event) ≡ true
tells_first c p i event o =
    both (is_none (told_of i p)) (asks_for c.buckets (began_of i p) event) (ap is_none o.none)
    (subst (λ (x : Option Call). asks_for c.buckets x event ≡ true) (sym o.began) (asked_by c o.at i event o.call o.answer o.why o.owes_it))
