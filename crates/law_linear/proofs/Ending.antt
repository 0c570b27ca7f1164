-- In a record at whose end a seat is in no call, each call of the seat has its End; and what it told is what that End owes.
use Rattle.std.proofs.Common.{ℕ, ◌≡◌, Bool, true, false, refl, sym, ap, ◌∙◌, subst, List, [], ◌∷◌, ◌++◌, append_assoc, Option, None, Some}
use Rattle.std.proofs.lemmas.List.{append-nil}
use Rattle.std.specs.Prelude.{◌==◌, ◌&&◌, ◌||◌, not}
use Rattle.laws.proofs.records.defs.Facts.{first_of, number_is, rest_of, same_number}
use Rattle.laws.specs.AnswerLaw.{lacks_ok, lacks_row, same_event, suits}
use Rattle.laws.specs.HistoryAnswers.{answer_right, answers_ok, owes, reason, reasons_ok, same_told}
use Rattle.laws.specs.Lists.{has_left}
use Rattle.laws.specs.QueueLaw.{empty_ok}
use Rattle.laws.specs.Standing.{open_ok}
use Rattle.laws.specs.StateAt.{began_by, began_of, is_dequeue, is_open, told_of, with_told}
use Rattle.laws.specs.StructuresAt.{changes_of, same_value, was_empty}
use Rattle.laws.specs.defs.Entry.{Entry}
use Rattle.laws.specs.defs.declared.call.Answer.TheVariants as answers
use Rattle.laws.specs.defs.declared.call.Answer.{Answer}
use Rattle.laws.specs.defs.declared.call.Call.TheVariants as calls
use Rattle.laws.specs.defs.declared.call.Call.{Call}
use Rattle.laws.specs.defs.declared.event.Event.TheVariants as events
use Rattle.laws.specs.defs.declared.event.Event.{Event}
use Rattle.laws.specs.defs.declared.fold.Change.{Change}
use Rattle.laws.specs.records.Record.Past.{Then}
use Rattle.laws.specs.records.Record.{EachEntry, Past, tells}
use Rattle.laws.specs.words.declared.config.Config.{Config}
use Rattle.law_linear.specs.Hands.{hand_right, hands_ok}
use Rattle.law_linear.specs.Records.{Reasons}
use Rattle.law_linear.proofs.Positions.{Adds, adds}

-- the End of the call in which seat i is after p
pub record EndOf (r : Past) (i : ℕ) (p : Past) : Type 0 where
  pub at : Past
  pub steps : ℕ
  pub answer : Answer
  pub later : List Entry
  pub cut : r ≡ tells (Then at i (events.End steps answer)) later
  pub began : began_of i at ≡ began_of i p
  pub told : (more : List Event) × (told_of i at ≡ told_of i p ++ more)
  pub changes : (b : ℕ) → (more : List Change) × (changes_of b at ≡ changes_of b p ++ more)

back : (r : Past) (i k : ℕ) (p : Past) (event : Event) → began_of i (Then p k event) ≡ began_of i p → (more : List Event) × (told_of i (Then p k event) ≡ told_of i p ++ more)
    → EndOf r i (Then p k event) → EndOf r i p
back r i k p event began told e =
    record {
      at = e.at;
      steps = e.steps;
      answer = e.answer;
      later = e.later;
      cut = e.cut;
      began = e.began ∙ began;
      told = let x = e.told in (told.0 ++ x.0, x.1 ∙ ap (λ (xs : List Event). xs ++ x.0) told.1 ∙ append_assoc (told_of i p) told.0 x.0);
      changes = λ b.
          let x = e.changes b in
          let one : Adds (changes_of b p) (changes_of b (Then p k event)) = adds b (changes_of b p) event in
          (one.more ++ x.0, x.1 ∙ ap (λ (xs : List Change). xs ++ x.0) one.sum ∙ append_assoc (changes_of b p) one.more x.0);
    }

begins_inside : (a b : Bool) → a ≡ true → (not a && b) ≡ true → ⊥
begins_inside true b e h = cc
begins_inside false b e h = cc

one_told : (event : Event) (told : List Event) → ((call : Call) → event ≡ events.Begin call → ⊥) → (more : List Event) × (with_told event told ≡ told ++ more)
one_told (events.Begin call) told n = absurd (n call refl)
one_told (events.Got bucket version key value) told n = (events.Got bucket version key value ∷ [], refl)
one_told (events.Put bucket version key value) told n = (events.Put bucket version key value ∷ [], refl)
one_told (events.Removed bucket version key) told n = (events.Removed bucket version key ∷ [], refl)
one_told (events.Queued number value) told n = (events.Queued number value ∷ [], refl)
one_told (events.Taken number value) told n = (events.Taken number value ∷ [], refl)
one_told (events.Copied from index slot) told n = (events.Copied from index slot ∷ [], refl)
one_told (events.Left count) told n = (events.Left count ∷ [], refl)
one_told (events.Adopted place count) told n = (events.Adopted place count ∷ [], refl)
one_told event told n = ([], sym (append-nil told))

same_call : (event : Event) (began : Option Call) → ((call : Call) → event ≡ events.Begin call → ⊥) → began_by event began ≡ began
same_call (events.Begin call) began n = absurd (n call refl)
same_call event began n = refl

own : (r : Past) (i : ℕ) (p : Past) (event : Event) (later : List Entry) → r ≡ tells (Then p i event) later → open_ok p i event ≡ true → is_open i p ≡ true
    → (is_open i (Then p i event) ≡ true → EndOf r i (Then p i event)) → EndOf r i p
own r i p (events.Begin call) later cut h o f = absurd (begins_inside (is_open i p) (not (has_left i p)) o h)
own r i p (events.End steps answer) later cut h o f =
    record {
      at = p;
      steps = steps;
      answer = answer;
      later = later;
      cut = cut;
      began = refl;
      told = ([], sym (append-nil (told_of i p)));
      changes = λ b. ([], sym (append-nil (changes_of b p)));
    }
own r i p event later cut h o f =
    let mine : (i == i) ≡ true = same_number i in
    let no : (call : Call) → event ≡ events.Begin call → ⊥ = λ call e. absurd (cc) in
    let more = one_told event (told_of i p) no in
    back r i i p event (rw mine (same_call event (began_of i p) no)) (more.0, rw mine more.1) (f (rw mine o))

either : (r : Past) (i k : ℕ) (p : Past) (event : Event) (later : List Entry) → r ≡ tells (Then p k event) later → open_ok p k event ≡ true → is_open i p ≡ true
    → (is_open i (Then p k event) ≡ true → EndOf r i (Then p k event)) → (same : Bool) → (i == k) ≡ same → EndOf r i p
either r i k p event later cut h o f true e =
    let one : k ≡ i = sym (number_is i k e) in
    own r i p event later (subst (λ (x : ℕ). r ≡ tells (Then p x event) later) one cut) (subst (λ (x : ℕ). open_ok p x event ≡ true) one h) o
    (subst (λ (x : ℕ). is_open i (Then p x event) ≡ true → EndOf r i (Then p x event)) one f)
either r i k p event later cut h o f false e = back r i k p event (rw e refl) ([], rw e (sym (append-nil (told_of i p)))) (f (rw e o))

pub end_of : (r : Past) → EachEntry open_ok r → (i : ℕ) → is_open i r ≡ false → (later : List Entry) (p : Past) → r ≡ tells p later → is_open i p ≡ true → EndOf r i p
end_of r k i rest [] p cut o = absurd (let same : is_open i r ≡ is_open i p = ap (is_open i) cut in cc)
end_of r k i rest (x ∷ later) p cut o = either r i x.seat p x.event later cut (k p x.seat x.event later cut) o (end_of r k i rest later (Then p x.seat x.event) cut) (i == x.seat) refl

-- Events that are the same by their test are the same.
same_found : (x y : Option ℕ) → same_value x y ≡ true → x ≡ y
same_found None None h = refl
same_found (Some x) (Some y) h = ap Some (number_is x y h)
same_found None (Some y) h = absurd (cc)
same_found (Some x) None h = absurd (cc)

record All (a b c d : Bool) : Type 0 where
  one : a ≡ true
  two : b ≡ true
  three : c ≡ true
  four : d ≡ true

all_of : (a b c d : Bool) → ((a && b) && (c && d)) ≡ true → All a b c d
all_of a b c d h =
    let x = first_of (a && b) (c && d) h in
    let y = rest_of (a && b) (c && d) h in
    record { one = first_of a b x; two = rest_of a b x; three = first_of c d y; four = rest_of c d y }

same_is : (event other : Event) → same_event event other ≡ true → event ≡ other
same_is (events.Got b v k x) (events.Got b' v' k' x') h =
    let all : All (b == b') (v == v') (k == k') (same_value x x') = all_of (b == b') (v == v') (k == k') (same_value x x') h in
    λ j. events.Got (number_is b b' all.one j) (number_is v v' all.two j) (number_is k k' all.three j) (same_found x x' all.four j)
same_is (events.Put b v k x) (events.Put b' v' k' x') h =
    let all : All (b == b') (v == v') (k == k') (x == x') = all_of (b == b') (v == v') (k == k') (x == x') h in
    λ j. events.Put (number_is b b' all.one j) (number_is v v' all.two j) (number_is k k' all.three j) (number_is x x' all.four j)
same_is (events.Removed b v k) (events.Removed b' v' k') h =
    let one = first_of (b == b' && v == v') (k == k') h in
    λ j. events.Removed (number_is b b' (first_of (b == b') (v == v') one) j) (number_is v v' (rest_of (b == b') (v == v') one) j) (number_is k k' (rest_of (b == b' && v == v') (k == k') h) j)
same_is (events.Queued n x) (events.Queued n' x') h = λ j. events.Queued (number_is n n' (first_of (n == n') (x == x') h) j) (number_is x x' (rest_of (n == n') (x == x') h) j)
same_is (events.Taken n x) (events.Taken n' x') h = λ j. events.Taken (number_is n n' (first_of (n == n') (x == x') h) j) (number_is x x' (rest_of (n == n') (x == x') h) j)
same_is (events.Copied f t s) (events.Copied f' t' s') h =
    let more = rest_of (f == f') (t == t' && s == s') h in
    λ j. events.Copied (number_is f f' (first_of (f == f') (t == t' && s == s') h) j) (number_is t t' (first_of (t == t') (s == s') more) j) (number_is s s' (rest_of (t == t') (s == s') more) j)
same_is (events.Left n) (events.Left n') h = ap (λ (x : ℕ). events.Left x) (number_is n n' h)
same_is (events.Adopted q n) (events.Adopted q' n') h = λ j. events.Adopted (number_is q q' (first_of (q == q') (n == n') h) j) (number_is n n' (rest_of (q == q') (n == n') h) j)
same_is event other h = absurd (cc)

told_is : (told owed : List Event) → same_told told owed ≡ true → told ≡ owed
told_is [] [] h = refl
told_is (x ∷ xs) (y ∷ ys) h = λ j. same_is x y (first_of (same_event x y) (same_told xs ys) h) j ∷ told_is xs ys (rest_of (same_event x y) (same_told xs ys) h) j
told_is [] (y ∷ ys) h = absurd (cc)
told_is (x ∷ xs) [] h = absurd (cc)

-- What is known where a call ends.
pub record AtEnd (c : Config) (i : ℕ) (p : Past) (answer : Answer) : Type 0 where
  pub call : Call
  pub began : began_of i p ≡ Some call
  pub suits_it : suits call answer ≡ true
  pub told : told_of i p ≡ owes c.buckets call answer
  pub why : reason c i p (Some call) answer ≡ true
  pub lacks : answer ≡ answers.Full → lacks_row c i p (Some call) ≡ true
  pub empty : call ≡ calls.Dequeue → answer ≡ answers.Empty → was_empty i p ≡ true
  pub hand : hand_right c i p (Some call) answer ≡ true

implied : (a b : Bool) → a ≡ true → (not a || b) ≡ true → b ≡ true
implied true b e h = h
implied false b e h = absurd (cc)

pub at_end : (c : Config) (r : Past) → Reasons c r → (p : Past) (i steps : ℕ) (answer : Answer) (later : List Entry) → r ≡ tells (Then p i (events.End steps answer)) later → AtEnd c i p answer
at_end c r k p i steps answer later cut = by (began_of i p) refl
  where
    right : answers_ok c.buckets p i (events.End steps answer) ≡ true
    right = k.told p i (events.End steps answer) later cut

    why : reasons_ok c p i (events.End steps answer) ≡ true
    why = k.reasons p i (events.End steps answer) later cut

    hand : hands_ok c p i (events.End steps answer) ≡ true
    hand = k.hands p i (events.End steps answer) later cut

    lacks : (call : Call) → began_of i p ≡ Some call → answer ≡ answers.Full → lacks_row c i p (Some call) ≡ true
    lacks call e full =
        let h : lacks_ok c p i (events.End steps answer) ≡ true = k.lacks p i (events.End steps answer) later cut in
        let at : lacks_row c i p (began_of i p) ≡ true = subst (λ (x : Answer). lacks_ok c p i (events.End steps x) ≡ true) full h in
        subst (λ (x : Option Call). lacks_row c i p x ≡ true) e at

    empty : (call : Call) → began_of i p ≡ Some call → call ≡ calls.Dequeue → answer ≡ answers.Empty → was_empty i p ≡ true
    empty call e one two =
        let h : empty_ok p i (events.End steps answer) ≡ true = k.empty p i (events.End steps answer) later cut in
        let at : (not (is_dequeue (began_of i p)) || was_empty i p) ≡ true = subst (λ (x : Answer). empty_ok p i (events.End steps x) ≡ true) two h in
        implied (is_dequeue (began_of i p)) (was_empty i p) (ap is_dequeue (e ∙ ap (λ (x : Call). Some x) one)) at

    by : (began : Option Call) → began_of i p ≡ began → AtEnd c i p answer
    by None e = absurd (let no : answer_right c.buckets None (told_of i p) answer ≡ true = rw e at right in cc)
    by (Some call) e =
        let all : answer_right c.buckets (Some call) (told_of i p) answer ≡ true = rw e at right in
        record {
          call = call;
          began = e;
          suits_it = first_of (suits call answer) (same_told (told_of i p) (owes c.buckets call answer)) all;
          told = told_is (told_of i p) (owes c.buckets call answer) (rest_of (suits call answer) (same_told (told_of i p) (owes c.buckets call answer)) all);
          why = rw e at why;
          lacks = lacks call e;
          empty = empty call e;
          hand = rw e at hand;
        }

-- A call owes one event at most.
abbrev is_few : List Event → Bool
is_few [] = true
is_few (one ∷ []) = true
is_few (one ∷ two ∷ more) = false

few_owed : (n : ℕ) (call : Call) (answer : Answer) → is_few (owes n call answer) ≡ true
few_owed n (calls.Get key) (answers.Got version value) = refl
few_owed n (calls.Put key value) (answers.Done version clock) = refl
few_owed n (calls.Remove key) (answers.Done version clock) = refl
few_owed n (calls.Enqueue value) (answers.Queued number) = refl
few_owed n calls.Dequeue (answers.Taken number value clock) = refl
few_owed n (calls.Copy from index) (answers.Copied slot) = refl
few_owed n (calls.PutIf key value wanted) (answers.Done version clock) = refl
few_owed n calls.Leave (answers.Left count) = refl
few_owed n (calls.Adopt place) (answers.Adopted count) = refl
few_owed n call answer = refl

record Alone (before : List Event) (event : Event) (owed : List Event) : Type 0 where
  none : before ≡ []
  one : owed ≡ event ∷ []

alone : (before more : List Event) (event : Event) (owed : List Event) → is_few owed ≡ true → owed ≡ (before ++ event ∷ []) ++ more → Alone before event owed
alone before more event (one ∷ two ∷ owed) f e = absurd (cc)
alone [] more event [] f e = absurd (cc)
alone [] more event (one ∷ []) f e = record { none = refl; one = cc }
alone (x ∷ []) more event [] f e = absurd (cc)
alone (x ∷ []) more event (one ∷ []) f e = absurd (cc)
alone (x ∷ y ∷ before) more event [] f e = absurd (cc)
alone (x ∷ y ∷ before) more event (one ∷ []) f e = absurd (cc)

-- what a call tells at an entry is what its End owes
pub record Owed (c : Config) (p : Past) (i : ℕ) (event : Event) : Type 0 where
  pub at : Past
  pub answer : Answer
  pub call : Call
  pub inside : is_open i p ≡ true
  pub began : began_of i p ≡ Some call
  pub none : told_of i p ≡ []
  pub owes_it : owes c.buckets call answer ≡ event ∷ []
  pub why : reason c i at (Some call) answer ≡ true
  pub changes : (b : ℕ) → (more : List Change) × (changes_of b at ≡ changes_of b p ++ more)

pub owed : (c : Config) (r : Past) → Reasons c r → (i : ℕ) → is_open i r ≡ false → (p : Past) (event : Event) (later : List Entry) → r ≡ tells (Then p i event) later → is_open i p ≡ true
    → is_open i (Then p i event) ≡ true → told_of i (Then p i event) ≡ told_of i p ++ event ∷ [] → began_of i (Then p i event) ≡ began_of i p → Owed c p i event
owed c r k i rest p event later cut o o' t b =
    let s : EndOf r i (Then p i event) = end_of r k.calls i rest later (Then p i event) cut o' in
    let e : AtEnd c i s.at s.answer = at_end c r k s.at i s.steps s.answer s.later s.cut in
    let more = s.told in
    let sum : owes c.buckets e.call s.answer ≡ (told_of i p ++ event ∷ []) ++ more.0 = sym e.told ∙ more.1 ∙ ap (λ (xs : List Event). xs ++ more.0) t in
    let one : Alone (told_of i p) event (owes c.buckets e.call s.answer) = alone (told_of i p) more.0 event (owes c.buckets e.call s.answer) (few_owed c.buckets e.call s.answer) sum in
    record {
      at = s.at;
      answer = s.answer;
      call = e.call;
      inside = o;
      began = sym b ∙ sym s.began ∙ e.began;
      none = one.none;
      owes_it = one.one;
      why = e.why;
      changes = λ n.
          let x = s.changes n in
          let y : Adds (changes_of n p) (changes_of n (Then p i event)) = adds n (changes_of n p) event in
          (y.more ++ x.0, x.1 ∙ ap (λ (xs : List Change). xs ++ x.0) y.sum ∙ append_assoc (changes_of n p) y.more x.0);
    }
