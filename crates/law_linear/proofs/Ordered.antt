-- The points of a record, one after another, are an order of its calls.
use Rattle.std.proofs.Common.{ℕ, ◌≡◌, ◌≤◌, ◌<◌, ◌+◌, Bool, true, false, refl, sym, ap, ◌∙◌, arith, subst, List, [], ◌∷◌, ◌++◌, append_assoc, Option, Some, inl, inr}
use Rattle.std.proofs.lemmas.Bool.Decides.{nat_tests}
use Rattle.std.proofs.lemmas.List.{append-nil}
use Rattle.std.specs.Prelude.{◌==◌, ◌&&◌, ◌||◌, if◌then◌else◌}
use Rattle.laws.proofs.records.defs.Facts.{number_is, or_false, or_more, same_number}
use Rattle.laws.specs.defs.Entry.{Entry}
use Rattle.laws.specs.defs.declared.call.Answer.{Answer}
use Rattle.laws.specs.defs.declared.call.Call.{Call}
use Rattle.laws.specs.defs.declared.event.Event.TheVariants as events
use Rattle.laws.specs.defs.declared.event.Event.{Event}
use Rattle.laws.specs.records.Record.Past.{Start, Then}
use Rattle.laws.specs.records.Record.{Past, tells}
use Rattle.laws.specs.words.declared.config.Config.{Config}
use Rattle.law_linear.specs.Object.{may_answer}
use Rattle.law_linear.specs.Order.{IsAnswered, Made, Serves, State, begins_by, begun_of, call_named, done_of, ends_by, first_state, is_in, named_by, state_after, then_state}
use Rattle.law_linear.specs.Points.Marked.{Blank, Entry as Told, Point}
use Rattle.law_linear.specs.Points.Stage.{Answered, Called, Outside}
use Rattle.law_linear.specs.Points.{AreRight, Marked, Stage, comes_at, hand_in, object_in, stage_by, stage_in, timeless, told_in}
use Rattle.law_linear.specs.Records.{PointsOrder}

abbrev pub made_at : Marked → ℕ → Call → Answer → Made
made_at m i call answer = record { seat = i; number = begun_of i (told_in m); call = call; answer = answer }

abbrev pub order_of : Marked → List Made
order_of Blank = []
order_of (Told m i event) = order_of m
order_of (Point m i call answer) = order_of m ++ made_at m i call answer ∷ []

-- The object comes to the same, and may answer so.
abbrev pub state_in : Config → Marked → State
state_in c m = record { object = object_in c m; hand = λ k. hand_in c k m }

after_more : (c : Config) (s : State) (all : List Made) (made : Made) → state_after c s (all ++ made ∷ []) ≡ then_state c (state_after c s all) made
after_more c s [] made = refl
after_more c s (x ∷ all) made = after_more c (then_state c s x) all made

pub state_comes : (c : Config) (m : Marked) → state_after c first_state (order_of m) ≡ state_in c m
state_comes c Blank = refl
state_comes c (Told m i event) = state_comes c m
state_comes c (Point m i call answer) = after_more c first_state (order_of m) (made_at m i call answer) ∙ ap (λ (s : State). then_state c s (made_at m i call answer)) (state_comes c m)

serves_more : (c : Config) (s : State) (all : List Made) (made : Made) → Serves c s all
    → may_answer c (state_after c s all).object ((state_after c s all).hand made.seat) made.call made.answer ≡ true → Serves c s (all ++ made ∷ [])
serves_more c s [] made h may = (may, tt)
serves_more c s (x ∷ all) made h may = (h.0, serves_more c (then_state c s x) all made h.1 may)

pub serves : (c : Config) (m : Marked) → AreRight c m → Serves c first_state (order_of m)
serves c Blank r = tt
serves c (Told m i event) r = serves c m r.1
serves c (Point m i call answer) r =
    serves_more c first_state (order_of m) (made_at m i call answer) (serves c m r.2)
    (subst (λ (s : State). may_answer c s.object (s.hand i) call answer ≡ true) (sym (state_comes c m)) r.1)

-- Which calls are among those of a longer list.
or_along : (a b d : Bool) → (a || (b || d)) ≡ ((a || b) || d)
or_along true b d = refl
or_along false b d = refl

in_more : (i n : ℕ) (all : List Made) (made : Made) → is_in i n (all ++ made ∷ []) ≡ (is_in i n all || (made.seat == i && made.number == n))
in_more i n [] made = or_false (made.seat == i && made.number == n)
in_more i n (x ∷ all) made =
    ap (λ (b : Bool). (x.seat == i && x.number == n) || b) (in_more i n all made) ∙ or_along (x.seat == i && x.number == n) (is_in i n all) (made.seat == i && made.number == n)

answered_more : (i n : ℕ) (answer : Answer) (all more : List Made) → IsAnswered i n answer all → IsAnswered i n answer (all ++ more)
answered_more i n answer [] more h = absurd h
answered_more i n answer (x ∷ all) more (inl h) = inl h
answered_more i n answer (x ∷ all) more (inr h) = inr (answered_more i n answer all more h)

answered_last : (i n : ℕ) (call : Call) (answer : Answer) (all : List Made) → IsAnswered i n answer (all ++ record { seat = i; number = n; call = call; answer = answer } ∷ [])
answered_last i n call answer [] = inl (refl, refl, refl)
answered_last i n call answer (x ∷ all) = inr (answered_last i n call answer all)

pub answered_in : (i n : ℕ) (answer : Answer) (all : List Made) → IsAnswered i n answer all → is_in i n all ≡ true
answered_in i n answer [] h = absurd h
answered_in i n answer (x ∷ all) (inl h) =
    let seat : (x.seat == i) ≡ true = rw h.0 (same_number i) in
    let number : (x.number == n) ≡ true = rw h.1 (same_number n) in
    rw (seat, number) refl
answered_in i n answer (x ∷ all) (inr h) = or_more (x.seat == i && x.number == n) (is_in i n all) (answered_in i n answer all h)

-- What is so of a seat: how its calls begun and ended count, and which are in the list.
abbrev Now : Stage → (i begun done : ℕ) → Option Call → List Made → Type 0
Now Outside i begun done call all = begun ≡ done
Now (Called one) i begun done call all = (begun ≡ done + 1) × (call ≡ Some one) × (is_in i begun all ≡ false)
Now (Answered answer) i begun done call all = (begun ≡ done + 1) × IsAnswered i begun answer all

record Seat (stage : Stage) (i begun done : ℕ) (call : Option Call) (all : List Made) : Type 0 where
  fresh : (n : ℕ) → begun < n → is_in i n all ≡ false
  full : (n : ℕ) → 1 ≤ n → n ≤ done → is_in i n all ≡ true
  now : Now stage i begun done call all

seat_begins : (one : Call) (i begun done : ℕ) (call other : Option Call) (all : List Made) → Seat Outside i begun done call all
    → Seat (Called one) i (begun + 1) done (if begun + 1 == begun + 1 then Some one else other) all
seat_begins one i begun done call other all s =
    let even : begun ≡ done = s.now in
    let own : (begun + 1 == begun + 1) ≡ true = same_number (begun + 1) in
    record { fresh = λ n l. s.fresh n (omega (arith, l)); full = s.full; now = (omega (arith, even), rw own refl, s.fresh (begun + 1) (omega arith)) }

seat_ends : (answer : Answer) (i begun done : ℕ) (call other : Option Call) (all : List Made) → Seat (Answered answer) i begun done call all → Seat Outside i begun (done + 1) other all
seat_ends answer i begun done call other all s = record { fresh = s.fresh; full = λ n one most. by n one most (n == begun) refl; now = s.now.0 }
  where
    next : begun ≡ done + 1
    next = s.now.0

    by : (n : ℕ) → 1 ≤ n → n ≤ done + 1 → (same : Bool) → (n == begun) ≡ same → is_in i n all ≡ true
    by n one most true e = rw (number_is n begun e) (answered_in i begun answer all s.now.1)
    by n one most false e = let even : begun ≡ done + 1 = next in s.full n one (grind (arith, nat_tests))

seat_tells : (event : Event) (stage : Stage) (i begun done : ℕ) (call : ℕ → Option Call) (all : List Made) → comes_at event stage → Seat stage i begun done (call begun) all
    → Seat (stage_by event stage) i (begins_by event begun) (ends_by event done) (named_by (begins_by event begun) begun event (call (begins_by event begun))) all
seat_tells (events.Begin one) stage i begun done call all comes s =
    seat_begins one i begun done (call begun) (call (begun + 1)) all (subst (λ (x : Stage). Seat x i begun done (call begun) all) comes s)
seat_tells (events.End steps answer) stage i begun done call all comes s =
    seat_ends (timeless answer) i begun done (call begun) (call begun) all (subst (λ (x : Stage). Seat x i begun done (call begun) all) comes s)
seat_tells event stage i begun done call all comes s = s

-- a point of another seat
apart : (i n : ℕ) (all : List Made) (made : Made) → (made.seat == i) ≡ false → is_in i n (all ++ made ∷ []) ≡ is_in i n all
apart i n all made e = in_more i n all made ∙ rw e (or_false (is_in i n all))

now_apart : (stage : Stage) (i begun done : ℕ) (call : Option Call) (all : List Made) (made : Made) → (made.seat == i) ≡ false → Now stage i begun done call all
    → Now stage i begun done call (all ++ made ∷ [])
now_apart Outside i begun done call all made e n = n
now_apart (Called one) i begun done call all made e n = (n.0, n.1, apart i begun all made e ∙ n.2)
now_apart (Answered answer) i begun done call all made e n = (n.0, answered_more i begun answer all (made ∷ []) n.1)

-- its own point
seat_acts : (one : Call) (answer : Answer) (i begun done : ℕ) (call : Option Call) (all : List Made) → Seat (Called one) i begun done call all
    → Seat (Answered answer) i begun done call (all ++ record { seat = i; number = begun; call = one; answer = answer } ∷ [])
seat_acts one answer i begun done call all s =
    record { fresh = fresh; full = λ n low most. in_more i n all made ∙ rw (s.full n low most) refl; now = (s.now.0, answered_last i begun one answer all) }
  where
    made : Made
    made = record { seat = i; number = begun; call = one; answer = answer }

    fresh : (n : ℕ) → begun < n → is_in i n (all ++ record { seat = i; number = begun; call = one; answer = answer } ∷ []) ≡ false
    fresh n l =
        let none : is_in i n all ≡ false = s.fresh n l in
        let other : (begun == n) ≡ false = grind (arith, nat_tests) in
        let own : (i == i) ≡ true = same_number i in
        in_more i n all (record { seat = i; number = begun; call = one; answer = answer }) ∙ rw (none, own, other) refl

abbrev SeatOf : ℕ → Marked → Type 0
SeatOf i m = Seat (stage_in i m) i (begun_of i (told_in m)) (done_of i (told_in m)) (call_named i (begun_of i (told_in m)) (told_in m)) (order_of m)

-- the same, read off otherwise
seat_same : (stage other : Stage) (i begun begun' done done' : ℕ) (call call' : ℕ → Option Call) (all : List Made) → other ≡ stage → begun' ≡ begun → done' ≡ done
    → ((n : ℕ) → call' n ≡ call n) → Seat stage i begun done (call begun) all → Seat other i begun' done' (call' begun') all
seat_same stage other i begun begun' done done' call call' all p b d f s =
    let x : call' begun' ≡ call begun = f begun' ∙ ap call b in
    subst (λ (y : Option Call). Seat other i begun' done' y all) (sym x)
    (subst (λ (y : ℕ). Seat other i y done' (call begun) all) (sym b)
    (subst (λ (y : ℕ). Seat other i begun y (call begun) all) (sym d) (subst (λ (y : Stage). Seat y i begun done (call begun) all) (sym p) s)))

at_entry : (i k : ℕ) (event : Event) (m : Marked) → comes_at event (stage_in k m) → SeatOf i m → (same : Bool) → (i == k) ≡ same → SeatOf i (Told m k event)
at_entry i k event m comes s true e =
    let p : Past = told_in m in
    let mine : comes_at event (stage_in i m) = subst (λ (x : ℕ). comes_at event (stage_in x m)) (sym (number_is i k e)) comes in
    seat_same (stage_by event (stage_in i m)) (stage_in i (Told m k event)) i (begins_by event (begun_of i p)) (begun_of i (Then p k event)) (ends_by event (done_of i p))
    (done_of i (Then p k event)) (λ n. named_by n (begun_of i p) event (call_named i n p)) (λ n. call_named i n (Then p k event)) (order_of m) (rw e refl) (rw e refl) (rw e refl)
    (λ n. rw e refl) (seat_tells event (stage_in i m) i (begun_of i p) (done_of i p) (λ n. call_named i n p) (order_of m) mine s)
at_entry i k event m comes s false e =
    let p : Past = told_in m in
    seat_same (stage_in i m) (stage_in i (Told m k event)) i (begun_of i p) (begun_of i (Then p k event)) (done_of i p) (done_of i (Then p k event)) (λ n. call_named i n p)
    (λ n. call_named i n (Then p k event)) (order_of m) (rw e refl) (rw e refl) (rw e refl) (λ n. rw e refl) s

at_point : (i k : ℕ) (call : Call) (answer : Answer) (m : Marked) → stage_in k m ≡ Called call → SeatOf i m → (same : Bool) → (i == k) ≡ same → SeatOf i (Point m k call answer)
at_point i k call answer m called s true e =
    let one : i ≡ k = number_is i k e in
    let p : Past = told_in m in
    let mine : stage_in i m ≡ Called call = ap (λ (x : ℕ). stage_in x m) one ∙ called in
    let own : Seat (Called call) i (begun_of i p) (done_of i p) (call_named i (begun_of i p) p) (order_of m) =
    subst (λ (x : Stage). Seat x i (begun_of i p) (done_of i p) (call_named i (begun_of i p) p) (order_of m)) mine s in
    let new = seat_acts call answer i (begun_of i p) (done_of i p) (call_named i (begun_of i p) p) (order_of m) own in
    rw e (subst (λ (x : ℕ). Seat (Answered answer) i (begun_of i p) (done_of i p) (call_named i (begun_of i p) p) (order_of m ++ made_at m x call answer ∷ [])) one new)
at_point i k call answer m called s false e =
    let p : Past = told_in m in
    let made : Made = made_at m k call answer in
    let other : (k == i) ≡ false = grind (arith, nat_tests) in
    rw e (record {
      fresh = λ n l. apart i n (order_of m) (made_at m k call answer) other ∙ s.fresh n l;
      full = λ n low most. apart i n (order_of m) (made_at m k call answer) other ∙ s.full n low most;
      now = now_apart (stage_in i m) i (begun_of i (told_in m)) (done_of i (told_in m)) (call_named i (begun_of i (told_in m)) (told_in m)) (order_of m) (made_at m k call answer) other s.now;
    })

seat_of : (c : Config) (i : ℕ) (m : Marked) → AreRight c m → SeatOf i m
seat_of c i Blank r = record { fresh = λ n l. refl; full = λ n low most. absurd (omega arith); now = refl }
seat_of c i (Told m k event) r = at_entry i k event m r.0 (seat_of c i m r.1) (i == k) refl
seat_of c i (Point m k call answer) r = at_point i k call answer m r.0 (seat_of c i m r.2) (i == k) refl

called_now : (c : Config) (m : Marked) (k : ℕ) (call : Call) → AreRight c m → stage_in k m ≡ Called call
    → Now (Called call) k (begun_of k (told_in m)) (done_of k (told_in m)) (call_named k (begun_of k (told_in m)) (told_in m)) (order_of m)
called_now c m k call r h =
    subst (λ (x : Stage). Now x k (begun_of k (told_in m)) (done_of k (told_in m)) (call_named k (begun_of k (told_in m)) (told_in m)) (order_of m)) h (seat_of c k m r).now

-- Each has begun: a call keeps its number.
named_low : (i n : ℕ) (call : Call) (p : Past) → call_named i n p ≡ Some call → n ≤ begun_of i p
named_low i n call Start h = absurd (cc)
named_low i n call (Then p k event) h = by (named_low i n call p) (i == k) refl
  where
    own : (event : Event) (before : Option Call) (begun : ℕ) → (before ≡ Some call → n ≤ begun) → named_by n begun event before ≡ Some call → n ≤ begins_by event begun
    own (events.Begin other) before begun f g = first (n == begun + 1) refl
      where
        first : (same : Bool) → (n == begun + 1) ≡ same → n ≤ begun + 1
        first true e = let is : n ≡ begun + 1 = number_is n (begun + 1) e in omega (arith, is)
        first false e = let was : before ≡ Some call = rw e at g in let low : n ≤ begun = f was in omega (arith, low)
    own event before begun f g = f g

    by : (call_named i n p ≡ Some call → n ≤ begun_of i p) → (same : Bool) → (i == k) ≡ same → n ≤ begun_of i (Then p k event)
    by f true e = rw e (own event (call_named i n p) (begun_of i p) f (rw e at h))
    by f false e = rw e (f (rw e at h))

named_stays : (i n : ℕ) (call : Call) (p : Past) (k : ℕ) (event : Event) → call_named i n p ≡ Some call → call_named i n (Then p k event) ≡ Some call
named_stays i n call p k event h = by (i == k) refl
  where
    own : (event : Event) → named_by n (begun_of i p) event (call_named i n p) ≡ Some call
    own (events.Begin other) =
        let low : n ≤ begun_of i p = named_low i n call p h in
        let before : (n == begun_of i p + 1) ≡ false = grind (arith, nat_tests) in
        rw before h
    own event = h

    by : (same : Bool) → (i == k) ≡ same → call_named i n (Then p k event) ≡ Some call
    by true e = rw e (own event)
    by false e = rw e h

abbrev Begun : Past → List Made → Type 0
Begun p [] = Unit {0}
Begun p (made ∷ later) = (call_named made.seat made.number p ≡ Some made.call) × Begun p later

begun_stays : (p : Past) (k : ℕ) (event : Event) (all : List Made) → Begun p all → Begun (Then p k event) all
begun_stays p k event [] h = tt
begun_stays p k event (made ∷ all) h = (named_stays made.seat made.number made.call p k event h.0, begun_stays p k event all h.1)

begun_more : (p : Past) (all : List Made) (made : Made) → Begun p all → call_named made.seat made.number p ≡ Some made.call → Begun p (all ++ made ∷ [])
begun_more p [] made h g = (g, tt)
begun_more p (x ∷ all) made h g = (h.0, begun_more p all made h.1 g)

begun_at : (p : Past) (before later : List Made) (made : Made) → Begun p (before ++ made ∷ later) → call_named made.seat made.number p ≡ Some made.call
begun_at p [] later made h = h.0
begun_at p (x ∷ before) later made h = begun_at p before later made h.1

all_begun : (c : Config) (m : Marked) → AreRight c m → Begun (told_in m) (order_of m)
all_begun c Blank r = tt
all_begun c (Told m k event) r = begun_stays (told_in m) k event (order_of m) (all_begun c m r.1)
all_begun c (Point m k call answer) r = begun_more (told_in m) (order_of m) (made_at m k call answer) (all_begun c m r.2) (called_now c m k call r.2 r.0).1

-- Each is there once.
abbrev Once : List Made → Type 0
Once [] = Unit {0}
Once (made ∷ later) = (is_in made.seat made.number later ≡ false) × Once later

neither : (a b : Bool) → (a || b) ≡ false → (a ≡ false) × (b ≡ false)
neither true b h = absurd (cc)
neither false b h = (refl, h)

turned : (a b d e : ℕ) → (a == b && d == e) ≡ false → (b == a && e == d) ≡ false
turned a b d e h = by (b == a) (e == d) refl refl
  where
    by : (x y : Bool) → (b == a) ≡ x → (e == d) ≡ y → (b == a && e == d) ≡ false
    by true true f g =
        let one : b ≡ a = number_is b a f in
        let two : e ≡ d = number_is e d g in
        let yes : (a == b && d == e) ≡ true = rw (one, two, same_number a, same_number d) refl in
        absurd (cc)
    by true false f g = rw (f, g) refl
    by false y f g = rw f refl

once_more : (all : List Made) (made : Made) → Once all → is_in made.seat made.number all ≡ false → Once (all ++ made ∷ [])
once_more [] made h g = (refl, tt)
once_more (x ∷ all) made h g =
    let parts = neither (x.seat == made.seat && x.number == made.number) (is_in made.seat made.number all) g in
    let last : (made.seat == x.seat && made.number == x.number) ≡ false = turned x.seat made.seat x.number made.number parts.0 in
    (in_more x.seat x.number all made ∙ rw (h.0, last) refl, once_more all made h.1 parts.1)

once_at : (before later : List Made) (made : Made) → Once (before ++ made ∷ later) → is_in made.seat made.number later ≡ false
once_at [] later made h = h.0
once_at (x ∷ before) later made h = once_at before later made h.1

all_once : (c : Config) (m : Marked) → AreRight c m → Once (order_of m)
all_once c Blank r = tt
all_once c (Told m k event) r = all_once c m r.1
all_once c (Point m k call answer) r = once_more (order_of m) (made_at m k call answer) (all_once c m r.2) (called_now c m k call r.2 r.0).2

-- The points up to a position.
record Cut (c : Config) (m : Marked) (p : Past) : Type 0 where
  front : Marked
  tells : told_in front ≡ p
  right : AreRight c front
  rest : List Made
  sum : order_of m ≡ order_of front ++ rest

-- and the entry that comes next
record Next (c : Config) (m : Marked) (p : Past) (i : ℕ) (event : Event) : Type 0 where
  front : Marked
  tells : told_in front ≡ p
  right : AreRight c front
  comes : comes_at event (stage_in i front)
  rest : List Made
  sum : order_of m ≡ order_of front ++ rest

next_cut : (c : Config) (m : Marked) (p : Past) (i : ℕ) (event : Event) → told_in m ≡ Then p i event → AreRight c m → Next c m p i event
next_cut c Blank p i event e r = absurd (cc)
next_cut c (Told m k other) p i event e r =
    let tells : told_in m ≡ p = cc in
    let seat : k ≡ i = cc in
    let same : other ≡ event = cc in
    record {
      front = m;
      tells = tells;
      right = r.1;
      comes = subst (λ (x : Event). comes_at x (stage_in i m)) same (subst (λ (x : ℕ). comes_at other (stage_in x m)) seat r.0);
      rest = [];
      sum = sym (append-nil (order_of m));
    }
next_cut c (Point m k call answer) p i event e r =
    let n : Next c m p i event = next_cut c m p i event e r.2 in
    record {
      front = n.front;
      tells = n.tells;
      right = n.right;
      comes = n.comes;
      rest = n.rest ++ made_at m k call answer ∷ [];
      sum = ap (λ (xs : List Made). xs ++ made_at m k call answer ∷ []) n.sum ∙ append_assoc (order_of n.front) n.rest (made_at m k call answer ∷ []);
    }

onto : (c : Config) (m n : Marked) (front : Marked) (rest more : List Made) → order_of m ≡ order_of n ++ rest → order_of n ≡ order_of front ++ more
    → order_of m ≡ order_of front ++ (more ++ rest)
onto c m n front rest more a b = a ∙ ap (λ (xs : List Made). xs ++ rest) b ∙ append_assoc (order_of front) more rest

cut_at : (c : Config) (m : Marked) (later : List Entry) (p : Past) → told_in m ≡ tells p later → AreRight c m → Cut c m p
cut_at c m [] p e r = record { front = m; tells = e; right = r; rest = []; sum = sym (append-nil (order_of m)) }
cut_at c m (x ∷ later) p e r =
    let n : Cut c m (Then p x.seat x.event) = cut_at c m later (Then p x.seat x.event) e r in
    let o : Next c n.front p x.seat x.event = next_cut c n.front p x.seat x.event n.tells n.right in
    record { front = o.front; tells = o.tells; right = o.right; rest = o.rest ++ n.rest; sum = onto c m n.front o.front n.rest o.rest n.sum o.sum }

ended_in : (c : Config) (m : Marked) (p : Past) (i steps : ℕ) (answer : Answer) (later : List Entry) → AreRight c m → told_in m ≡ tells (Then p i (events.End steps answer)) later
    → IsAnswered i (begun_of i p) (timeless answer) (order_of m)
ended_in c m p i steps answer later r e =
    let n : Cut c m (Then p i (events.End steps answer)) = cut_at c m later (Then p i (events.End steps answer)) e r in
    let o : Next c n.front p i (events.End steps answer) = next_cut c n.front p i (events.End steps answer) n.tells n.right in
    let g : Marked = o.front in
    let now : Now (Answered (timeless answer)) i (begun_of i (told_in g)) (done_of i (told_in g)) (call_named i (begun_of i (told_in g)) (told_in g)) (order_of g) =
    subst (λ (x : Stage). Now x i (begun_of i (told_in g)) (done_of i (told_in g)) (call_named i (begun_of i (told_in g)) (told_in g)) (order_of g)) o.comes (seat_of c i g o.right).now in
    let here : IsAnswered i (begun_of i p) (timeless answer) (order_of g) = subst (λ (x : Past). IsAnswered i (begun_of i x) (timeless answer) (order_of g)) o.tells now.1 in
    subst (λ (xs : List Made). IsAnswered i (begun_of i p) (timeless answer) xs) (sym (onto c m n.front g n.rest o.rest n.sum o.sum))
    (answered_more i (begun_of i p) (timeless answer) (order_of g) (o.rest ++ n.rest) here)

-- Real time: what is in a first part of the order comes before what is not.
in_front : (i n : ℕ) (front rest before later : List Made) (made : Made) → front ++ rest ≡ before ++ made ∷ later → is_in i n front ≡ true
    → is_in made.seat made.number front ≡ false → is_in i n before ≡ true
in_front i n [] rest before later made e h g = absurd (cc)
in_front i n (x ∷ front) rest [] later made e h g =
    let one : x ≡ made = cc in
    let seat : (x.seat == made.seat) ≡ true = rw one (same_number made.seat) in
    let number : (x.number == made.number) ≡ true = rw one (same_number made.number) in
    let no : (x.seat == made.seat && x.number == made.number) ≡ false = (neither (x.seat == made.seat && x.number == made.number) (is_in made.seat made.number front) g).0 in
    let yes : (x.seat == made.seat && x.number == made.number) ≡ true = rw (seat, number) refl in
    absurd (cc)
in_front i n (x ∷ front) rest (y ∷ before) later made e h g =
    let one : x ≡ y = cc in
    let tail : front ++ rest ≡ before ++ made ∷ later = cc in
    by (λ k. in_front i n front rest before later made tail k (neither (x.seat == made.seat && x.number == made.number) (is_in made.seat made.number front) g).1)
    (subst (λ (z : Made). ((z.seat == i && z.number == n) || is_in i n front) ≡ true) one h) (y.seat == i && y.number == n) refl
  where
    by : (is_in i n front ≡ true → is_in i n before ≡ true) → ((y.seat == i && y.number == n) || is_in i n front) ≡ true → (b : Bool) → (y.seat == i && y.number == n) ≡ b
        → ((y.seat == i && y.number == n) || is_in i n before) ≡ true
    by f k true s = rw s refl
    by f k false s = let there : is_in i n front ≡ true = rw s at k in rw s (f there)

in_time : (c : Config) (m : Marked) (p : Past) (rest : List Entry) (i number : ℕ) (before later : List Made) (made : Made) → AreRight c m → told_in m ≡ tells p rest → 1 ≤ number
    → number ≤ done_of i p → begun_of made.seat p < made.number → order_of m ≡ before ++ made ∷ later → is_in i number before ≡ true
in_time c m p rest i number before later made r cut one most early sum =
    let n : Cut c m p = cut_at c m rest p cut r in
    let g : Marked = n.front in
    let there : is_in i number (order_of g) ≡ true = (seat_of c i g n.right).full number one (subst (λ (x : Past). number ≤ done_of i x) (sym n.tells) most) in
    let fresh : is_in made.seat made.number (order_of g) ≡ false =
    (seat_of c made.seat g n.right).fresh made.number (subst (λ (x : Past). begun_of made.seat x < made.number) (sym n.tells) early) in
    in_front i number (order_of g) n.rest before later made (sym n.sum ∙ sum) there fresh

pub points_order : PointsOrder
points_order config r l =
    let m : Marked = l.marked in
    record {
      order = order_of l.marked;
      right = record {
        serves = serves config l.marked l.right;
        ended = λ p i steps answer later cut. ended_in config l.marked p i steps answer later l.right (l.tells ∙ cut);
        begun = λ before later made sum. subst (λ (x : Past). call_named made.seat made.number x ≡ Some made.call) l.tells
            (begun_at (told_in l.marked) before later made (subst (Begun (told_in l.marked)) sum (all_begun config l.marked l.right)));
        once = λ before later made sum. once_at before later made (subst Once sum (all_once config l.marked l.right));
        in_time = λ p rest i number before later made cut one most early sum. in_time config l.marked p rest i number before later made l.right (l.tells ∙ cut) one most early sum;
      };
    }
