-- The point of a call that leaves map and queue alone can be put in later, at any place since the call's Begin where the object may answer
-- so: all other points stay right.
use Rattle.std.proofs.Common.{ℕ, ◌≡◌, Bool, true, false, refl, sym, ap, ◌∙◌, subst, arith, ◌⊎◌, inl, inr}
use Rattle.std.proofs.lemmas.Bool.Decides.{nat_tests}
use Rattle.std.specs.Prelude.{◌==◌}
use Rattle.laws.proofs.records.defs.Facts.{number_is, same_number}
use Rattle.laws.specs.defs.declared.call.Answer.{Answer}
use Rattle.laws.specs.defs.declared.call.Call.{Call}
use Rattle.laws.specs.defs.declared.event.Event.TheVariants as events
use Rattle.laws.specs.defs.declared.event.Event.{Event}
use Rattle.laws.specs.records.Record.Past.{Start, Then}
use Rattle.laws.specs.records.Record.{Past, begins}
use Rattle.laws.specs.words.declared.config.Config.{Config}
use Rattle.law_linear.specs.Object.{Hand, Object, after, empty, keeps, may_answer}
use Rattle.law_linear.specs.Points.Marked.{Blank, Entry, Point}
use Rattle.law_linear.specs.Points.Stage.{Answered, Called}
use Rattle.law_linear.specs.Points.{AreRight, Marked, Stage, comes_at, hand_in, object_in, stage_by, stage_in, told_in}

-- the object was this at some place since the last Begin of seat j
abbrev pub WasIn : Config → ℕ → Object → Marked → Type 0
WasIn c j now Blank = now ≡ empty
WasIn c j now (Entry m k event) = (now ≡ object_in c m) ⊎ ((begins j Start k event ≡ false) × WasIn c j now m)
WasIn c j now (Point m k call answer) = (now ≡ after c (object_in c m) call answer) ⊎ WasIn c j now m

pub record PutIn (c : Config) (m : Marked) (i : ℕ) (answer : Answer) (hand : Hand) : Type 0 where
  pub marked : Marked
  pub tells : told_in marked ≡ told_in m
  pub right : AreRight c marked
  pub object : object_in c marked ≡ object_in c m
  pub here : stage_in i marked ≡ Answered answer
  pub hand_is : hand_in c i marked ≡ hand
  pub stages : (k : ℕ) → (k == i) ≡ false → stage_in k marked ≡ stage_in k m
  pub hands : (k : ℕ) → (k == i) ≡ false → hand_in c k marked ≡ hand_in c k m
  pub was : (j : ℕ) (now : Object) → WasIn c j now m → WasIn c j now marked

-- an event that neither begins nor ends a call
pub record IsQuiet (event : Event) : Type 0 where
  pub stays : (before : Stage) → stage_by event before ≡ before
  pub free : (before : Stage) → comes_at event before

quiet_one : (i : ℕ) (event : Event) (before : Stage) (call : Call) → stage_by event before ≡ Called call → begins i Start i event ≡ false → IsQuiet event
quiet_one i (events.Begin begun) before call h b = absurd (let same : (i == i) ≡ true = same_number i in cc)
quiet_one i (events.End steps answer) before call h b = absurd (cc)
quiet_one i event before call h b = record { stays = λ x. refl; free = λ x. tt }

other_way : (i k : ℕ) → (i == k) ≡ false → (k == i) ≡ false
other_way i k h = grind (arith, nat_tests)

-- last of all
last : (c : Config) (i : ℕ) (call : Call) (answer : Answer) (now : Object) (m : Marked) → ((x : Object) → after c x call answer ≡ x) → AreRight c m → stage_in i m ≡ Called call
    → may_answer c now (hand_in c i m) call answer ≡ true → now ≡ object_in c m → PutIn c m i answer (keeps c now (hand_in c i m) call answer)
last c i call answer now m stays right called may here =
    let own : (i == i) ≡ true = same_number i in
    record {
      marked = Point m i call answer;
      tells = refl;
      right = (called, subst (λ (x : Object). may_answer c x (hand_in c i m) call answer ≡ true) here may, right);
      object = stays (object_in c m);
      here = rw own refl;
      hand_is = rw own (ap (λ (x : Object). keeps c x (hand_in c i m) call answer) (sym here));
      stages = λ k e. rw e refl;
      hands = λ k e. rw e refl;
      was = λ j x w. inr w;
    }

was_entry : (c : Config) (j k : ℕ) (event : Event) (now : Object) (m n : Marked) → object_in c n ≡ object_in c m → (WasIn c j now m → WasIn c j now n)
    → WasIn c j now (Entry m k event) → WasIn c j now (Entry n k event)
was_entry c j k event now m n same f (inl e) = inl (e ∙ sym same)
was_entry c j k event now m n same f (inr w) = inr (w.0, f w.1)

was_point : (c : Config) (j k : ℕ) (call : Call) (answer : Answer) (now : Object) (m n : Marked) → object_in c n ≡ object_in c m → (WasIn c j now m → WasIn c j now n)
    → WasIn c j now (Point m k call answer) → WasIn c j now (Point n k call answer)
was_point c j k call answer now m n same f (inl e) = inl (e ∙ ap (λ (x : Object). after c x call answer) (sym same))
was_point c j k call answer now m n same f (inr w) = inr (f w)

-- before an entry
before_entry : (c : Config) (i k : ℕ) (event : Event) (answer : Answer) (hand : Hand) (m : Marked) (same : Bool) → (i == k) ≡ same → comes_at event (stage_in k m)
    → ((i == k) ≡ true → IsQuiet event) → PutIn c m i answer hand → PutIn c (Entry m k event) i answer hand
before_entry c i k event answer hand m true e t q n =
    let one : i ≡ k = number_is i k e in
    let quiet : IsQuiet event = q e in
    record {
      marked = Entry n.marked k event;
      tells = ap (λ (p : Past). Then p k event) n.tells;
      right = (quiet.free (stage_in k n.marked), n.right);
      object = n.object;
      here = rw e (quiet.stays (stage_in i n.marked) ∙ n.here);
      hand_is = n.hand_is;
      stages = λ j x. let other : (j == k) ≡ false = subst (λ (y : ℕ). (j == y) ≡ false) one x in rw other (n.stages j x);
      hands = n.hands;
      was = λ j now w. was_entry c j k event now m n.marked n.object (n.was j now) w;
    }
before_entry c i k event answer hand m false e t q n =
    let at : stage_in k n.marked ≡ stage_in k m = n.stages k (other_way i k e) in
    record {
      marked = Entry n.marked k event;
      tells = ap (λ (p : Past). Then p k event) n.tells;
      right = (subst (λ (x : Stage). comes_at event x) (sym at) t, n.right);
      object = n.object;
      here = rw e n.here;
      hand_is = n.hand_is;
      stages = λ j x. rw (n.stages j x) refl;
      hands = n.hands;
      was = λ j now w. was_entry c j k event now m n.marked n.object (n.was j now) w;
    }

-- before a point of another seat
before_point : (c : Config) (i k : ℕ) (call : Call) (answer act : Answer) (hand : Hand) (m : Marked) → stage_in k m ≡ Called call
    → may_answer c (object_in c m) (hand_in c k m) call act ≡ true → (i == k) ≡ false → PutIn c m i answer hand → PutIn c (Point m k call act) i answer hand
before_point c i k call answer act hand m called may e n =
    let other : (k == i) ≡ false = other_way i k e in
    record {
      marked = Point n.marked k call act;
      tells = n.tells;
      right = (n.stages k other ∙ called, rw (n.object, n.hands k other) may, n.right);
      object = ap (λ (x : Object). after c x call act) n.object;
      here = rw e n.here;
      hand_is = rw e n.hand_is;
      stages = λ j x. rw (n.stages j x) refl;
      hands = λ j x. rw (n.object, n.hands j x) refl;
      was = λ j now w. was_point c j k call act now m n.marked n.object (n.was j now) w;
    }

abbrev Puts : Config → ℕ → Call → Answer → Object → Marked → Type 0
Puts c i call answer now m =
    stage_in i m ≡ Called call → may_answer c now (hand_in c i m) call answer ≡ true → WasIn c i now m → PutIn c m i answer (keeps c now (hand_in c i m) call answer)

at_entry : (c : Config) (i k : ℕ) (call : Call) (answer : Answer) (now : Object) (event : Event) (m : Marked) (same : Bool) → (i == k) ≡ same → comes_at event (stage_in k m)
    → stage_in i (Entry m k event) ≡ Called call → may_answer c now (hand_in c i m) call answer ≡ true → begins i Start k event ≡ false → WasIn c i now m
    → Puts c i call answer now m → PutIn c (Entry m k event) i answer (keeps c now (hand_in c i m) call answer)
at_entry c i k call answer now event m true e t called may b w n =
    let one : k ≡ i = sym (number_is i k e) in
    let mine : stage_by event (stage_in i m) ≡ Called call = rw e at called in
    let quiet : IsQuiet event = quiet_one i event (stage_in i m) call mine (subst (λ (x : ℕ). begins i Start x event ≡ false) one b) in
    before_entry c i k event answer (keeps c now (hand_in c i m) call answer) m true e t (λ x. quiet) (n (sym (quiet.stays (stage_in i m)) ∙ mine) may w)
at_entry c i k call answer now event m false e t called may b w n =
    let mine : stage_in i m ≡ Called call = rw e at called in
    before_entry c i k event answer (keeps c now (hand_in c i m) call answer) m false e t (λ x. absurd (cc)) (n mine may w)

at_point : (c : Config) (i k : ℕ) (call other : Call) (answer act : Answer) (now : Object) (m : Marked) (same : Bool) → (i == k) ≡ same → stage_in k m ≡ Called other
    → may_answer c (object_in c m) (hand_in c k m) other act ≡ true → stage_in i (Point m k other act) ≡ Called call
    → may_answer c now (hand_in c i (Point m k other act)) call answer ≡ true → WasIn c i now m → Puts c i call answer now m
    → PutIn c (Point m k other act) i answer (keeps c now (hand_in c i (Point m k other act)) call answer)
at_point c i k call other answer act now m true e o y called may w n = let no : Answered act ≡ Called call = rw e at called in absurd (cc)
at_point c i k call other answer act now m false e o y called may w n =
    let mine : stage_in i m ≡ Called call = rw e at called in
    let hand : hand_in c i (Point m k other act) ≡ hand_in c i m = rw e refl in
    let put = n mine (subst (λ (x : Hand). may_answer c now x call answer ≡ true) hand may) w in
    subst (λ (x : Hand). PutIn c (Point m k other act) i answer (keeps c now x call answer)) (sym hand)
    (before_point c i k other answer act (keeps c now (hand_in c i m) call answer) m o y e put)

pub put_in : (c : Config) (i : ℕ) (call : Call) (answer : Answer) (now : Object) → ((x : Object) → after c x call answer ≡ x) → (m : Marked) → AreRight c m → Puts c i call answer now m
put_in c i call answer now stays Blank right called may w = absurd (cc)
put_in c i call answer now stays (Entry m k event) right called may (inl here) = last c i call answer now (Entry m k event) stays right called may here
put_in c i call answer now stays (Entry m k event) right called may (inr w) =
    at_entry c i k call answer now event m (i == k) refl right.0 called may w.0 w.1 (put_in c i call answer now stays m right.1)
put_in c i call answer now stays (Point m k other act) right called may (inl here) = last c i call answer now (Point m k other act) stays right called may here
put_in c i call answer now stays (Point m k other act) right called may (inr w) =
    at_point c i k call other answer act now m (i == k) refl right.0 right.1 called may w (put_in c i call answer now stays m right.2)
