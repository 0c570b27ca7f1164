-- Points in a record that grows by an entry.
use Rattle.std.proofs.Common.{ℕ, ◌≡◌, Bool, true, false, refl, sym, ap, ◌∙◌, subst, ◌⊎◌, inl, inr}
use Rattle.std.specs.Prelude.{◌==◌, if◌then◌else◌}
use Rattle.laws.proofs.records.defs.Facts.{number_is, same_number}
use Rattle.laws.specs.defs.declared.call.Answer.{Answer}
use Rattle.laws.specs.defs.declared.call.Call.{Call}
use Rattle.laws.specs.defs.declared.event.Event.TheVariants as events
use Rattle.laws.specs.defs.declared.event.Event.{Event}
use Rattle.laws.specs.records.Record.Past.{Start, Then}
use Rattle.laws.specs.records.Record.{Past, begins}
use Rattle.laws.specs.words.declared.config.Config.{Config}
use Rattle.law_linear.specs.Object.{Hand, Object, after, keeps, may_answer}
use Rattle.law_linear.specs.Points.Marked.{Entry, Point}
use Rattle.law_linear.specs.Points.Stage.{Answered, Called}
use Rattle.law_linear.specs.Points.{AreRight, Marked, Stage, comes_at, hand_in, object_at, object_in, stage_by, stage_in, told_in}
use Rattle.law_linear.proofs.Setting.{IsQuiet, PutIn, WasIn, put_in}

-- by the record the object was this at a position since the last Begin of seat j
abbrev pub WasAt : ℕ → Object → Past → Type 0
WasAt j now Start = now ≡ object_at Start
WasAt j now (Then p k event) = (now ≡ object_at (Then p k event)) ⊎ ((begins j p k event ≡ false) × WasAt j now p)

-- points by which the object is as the record has it, and seats are at these stages and keep this
pub record Marking (c : Config) (p : Past) (stage : ℕ → Stage) (hand : ℕ → Hand) : Type 0 where
  pub marked : Marked
  pub tells : told_in marked ≡ p
  pub right : AreRight c marked
  pub object : object_in c marked ≡ object_at p
  pub stages : (k : ℕ) → stage_in k marked ≡ stage k
  pub hands : (k : ℕ) → hand_in c k marked ≡ hand k
  pub was : (j : ℕ) (now : Object) → WasAt j now p → WasIn c j now marked

pub restated : (c : Config) (p : Past) (stage one : ℕ → Stage) (hand other : ℕ → Hand) → ((k : ℕ) → stage k ≡ one k) → ((k : ℕ) → hand k ≡ other k)
    → Marking c p stage hand → Marking c p one other
restated c p stage one hand other e f m =
    record { marked = m.marked; tells = m.tells; right = m.right; object = m.object; stages = λ k. m.stages k ∙ e k; hands = λ k. m.hands k ∙ f k; was = m.was }

abbrev pub with_event : ℕ → Event → (ℕ → Stage) → ℕ → Stage
with_event i event stage k = if k == i then stage_by event (stage k) else stage k

abbrev pub with_answer : ℕ → Answer → (ℕ → Stage) → ℕ → Stage
with_answer i answer stage k = if k == i then Answered answer else stage k

abbrev pub with_hand : ℕ → Hand → (ℕ → Hand) → ℕ → Hand
with_hand i new hand k = if k == i then new else hand k

same_begins : (j k : ℕ) (p : Past) (event : Event) → begins j p k event ≡ begins j Start k event
same_begins j k p (events.Begin call) = refl
same_begins j k p event = refl

-- an entry that leaves the object
was_told : (c : Config) (j i : ℕ) (event : Event) (p : Past) (now : Object) (m : Marked) → object_at (Then p i event) ≡ object_in c m → (WasAt j now p → WasIn c j now m)
    → WasAt j now (Then p i event) → WasIn c j now (Entry m i event)
was_told c j i event p now m same f (inl e) = inl (e ∙ same)
was_told c j i event p now m same f (inr w) = inr (sym (same_begins j i p event) ∙ w.0, f w.1)

pub told : (c : Config) (i : ℕ) (event : Event) (p : Past) (stage : ℕ → Stage) (hand : ℕ → Hand) → object_at (Then p i event) ≡ object_at p → comes_at event (stage i)
    → Marking c p stage hand → Marking c (Then p i event) (with_event i event stage) hand
told c i event p stage hand same comes m =
    record {
      marked = Entry m.marked i event;
      tells = ap (λ (x : Past). Then x i event) m.tells;
      right = (subst (λ (x : Stage). comes_at event x) (sym (m.stages i)) comes, m.right);
      object = m.object ∙ sym same;
      stages = λ k. rw (m.stages k) refl;
      hands = m.hands;
      was = λ j now w. was_told c j i event p now m.marked (same ∙ sym m.object) (m.was j now) w;
    }

-- an entry at which the call takes effect
was_changed : (c : Config) (j i : ℕ) (call : Call) (answer : Answer) (event : Event) (p : Past) (now : Object) (m : Marked) → object_at (Then p i event) ≡ after c (object_in c m) call answer
    → (WasAt j now p → WasIn c j now m) → WasAt j now (Then p i event) → WasIn c j now (Point (Entry m i event) i call answer)
was_changed c j i call answer event p now m new f (inl e) = inl (e ∙ new)
was_changed c j i call answer event p now m new f (inr w) = inr (inr (sym (same_begins j i p event) ∙ w.0, f w.1))

pub changed : (c : Config) (i : ℕ) (call : Call) (answer : Answer) (event : Event) (p : Past) (stage : ℕ → Stage) (hand : ℕ → Hand) → IsQuiet event → stage i ≡ Called call
    → may_answer c (object_at p) (hand i) call answer ≡ true → object_at (Then p i event) ≡ after c (object_at p) call answer
    → ((x : Object) (h : Hand) → keeps c x h call answer ≡ h) → Marking c p stage hand → Marking c (Then p i event) (with_answer i answer stage) hand
changed c i call answer event p stage hand quiet called may new keeping m =
    let own : (i == i) ≡ true = same_number i in
    record {
      marked = Point (Entry m.marked i event) i call answer;
      tells = ap (λ (x : Past). Then x i event) m.tells;
      right = (rw own (quiet.stays (stage_in i m.marked) ∙ m.stages i ∙ called), rw (m.object, m.hands i) may, (quiet.free (stage_in i m.marked), m.right));
      object = rw m.object (sym new);
      stages = λ k. at k (k == i) refl;
      hands = λ k. kept k (k == i) refl;
      was = λ j now w. was_changed c j i call answer event p now m.marked (new ∙ ap (λ (x : Object). after c x call answer) (sym m.object)) (m.was j now) w;
    }
  where
    at : (k : ℕ) (same : Bool) → (k == i) ≡ same → stage_in k (Point (Entry m.marked i event) i call answer) ≡ with_answer i answer stage k
    at k true e = rw e refl
    at k false e = rw e (m.stages k)

    kept : (k : ℕ) (same : Bool) → (k == i) ≡ same → hand_in c k (Point (Entry m.marked i event) i call answer) ≡ hand k
    kept k true e = rw e (keeping (object_in c m.marked) (hand_in c k m.marked) ∙ m.hands k)
    kept k false e = rw e (m.hands k)

-- a call takes effect somewhere since it began
pub reads : (c : Config) (i : ℕ) (call : Call) (answer : Answer) (now : Object) (p : Past) (stage : ℕ → Stage) (hand : ℕ → Hand) → ((x : Object) → after c x call answer ≡ x)
    → stage i ≡ Called call → may_answer c now (hand i) call answer ≡ true → WasAt i now p → Marking c p stage hand
    → Marking c p (with_answer i answer stage) (with_hand i (keeps c now (hand i) call answer) hand)
reads c i call answer now p stage hand stays called may was m =
    all (put_in c i call answer now stays m.marked m.right (m.stages i ∙ called) (rw (m.hands i) may) (m.was i now was))
  where
    at : (n : PutIn c m.marked i answer (keeps c now (hand_in c i m.marked) call answer)) (k : ℕ) (same : Bool) → (k == i) ≡ same → stage_in k n.marked ≡ with_answer i answer stage k
    at n k true e = let one : i ≡ k = sym (number_is k i e) in rw e (subst (λ (x : ℕ). stage_in x n.marked ≡ Answered answer) one n.here)
    at n k false e = rw e (n.stages k e ∙ m.stages k)

    kept : (n : PutIn c m.marked i answer (keeps c now (hand_in c i m.marked) call answer)) (k : ℕ) (same : Bool) → (k == i) ≡ same
        → hand_in c k n.marked ≡ with_hand i (keeps c now (hand i) call answer) hand k
    kept n k true e =
        let one : i ≡ k = sym (number_is k i e) in
        let mine : hand_in c i n.marked ≡ keeps c now (hand i) call answer = n.hand_is ∙ ap (λ (h : Hand). keeps c now h call answer) (m.hands i) in
        rw e (subst (λ (x : ℕ). hand_in c x n.marked ≡ keeps c now (hand i) call answer) one mine)
    kept n k false e = rw e (n.hands k e ∙ m.hands k)

    all : PutIn c m.marked i answer (keeps c now (hand_in c i m.marked) call answer) → Marking c p (with_answer i answer stage) (with_hand i (keeps c now (hand i) call answer) hand)
    all n =
        record {
          marked = n.marked;
          tells = n.tells ∙ m.tells;
          right = n.right;
          object = n.object ∙ m.object;
          stages = λ k. at n k (k == i) refl;
          hands = λ k. kept n k (k == i) refl;
          was = λ j x w. n.was j x (m.was j x w);
        }
