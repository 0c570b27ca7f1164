-- The search through all orders of a record's calls finds each that serves.
use Rattle.std.proofs.Common.{ℕ, ◌≡◌, ◌≤◌, ◌<◌, ◌+◌, Bool, true, false, refl, sym, ap, ◌∙◌, arith, subst, List, [], ◌∷◌, ◌++◌, append-nil, append_assoc, Option, None, Some, inl, inr, ◌⊎◌}
use Rattle.std.proofs.lemmas.Bool.Decides.{nat_tests}
use Rattle.std.specs.Prelude.{nat_lt, suc, zero, ◌==◌, ◌&&◌, ◌||◌}
use Rattle.laws.proofs.records.defs.Facts.{both, false_by, first_of, number_is, or_left_true, or_more, rest_of, same_both, same_number}
use Rattle.laws.specs.defs.Entry.{Entry}
use Rattle.laws.specs.defs.declared.call.Answer.{Answer}
use Rattle.laws.specs.defs.declared.call.Call.{Call}
use Rattle.laws.specs.defs.declared.event.Event.TheVariants as events
use Rattle.laws.specs.defs.declared.event.Event.{Event}
use Rattle.laws.specs.records.Record.Past.{Start, Then}
use Rattle.laws.specs.records.Record.{Past, tells}
use Rattle.laws.specs.words.declared.config.Config.{Config}
use Rattle.law_linear.specs.Object.{may_answer}
use Rattle.law_linear.specs.Order.{IsAnswered, IsOrder, Made, Serves, State, begun_of, call_named, done_of, first_state, is_in, named_by, then_state}
use Rattle.law_linear.specs.Points.{timeless}
use Rattle.law_linear.specs.Search.{OrdersAreFound, are_begun, begun_by, call_ended, ended_by, ended_in, goes_before, is_over, may_serve, none_before, others_of, some_of}
use Rattle.law_linear.proofs.Ordered.{answered_in}

-- A call in a list.
abbrev Has : Made → List Made → Type 0
Has made [] = ⊥
Has made (x ∷ all) = (x ≡ made) ⊎ Has made all

record Found (i number : ℕ) (all : List Made) : Type 0 where
  one : Made
  there : Has one all
  seat : one.seat ≡ i
  numbered : one.number ≡ number

found : (i number : ℕ) (all : List Made) → is_in i number all ≡ true → Found i number all
found i number [] h = absurd (cc)
found i number (x ∷ all) h = by (found i number all) (x.seat == i && x.number == number) refl
  where
    by : (is_in i number all ≡ true → Found i number all) → (same : Bool) → (x.seat == i && x.number == number) ≡ same → Found i number (x ∷ all)
    by next true e =
        record {
          one = x;
          there = inl refl;
          seat = number_is x.seat i (first_of (x.seat == i) (x.number == number) e);
          numbered = number_is x.number number (rest_of (x.seat == i) (x.number == number) e);
        }
    by next false e =
        let f : Found i number all = next (rw e at h) in
        record { one = f.one; there = inr f.there; seat = f.seat; numbered = f.numbered }

-- it is in any list that has it in the middle
in_middle : (before later : List Made) (made : Made) → is_in made.seat made.number (before ++ made ∷ later) ≡ true
in_middle [] later made = or_left_true (made.seat == made.seat && made.number == made.number) (is_in made.seat made.number later) (same_both made.seat made.number)
in_middle (x ∷ before) later made = or_more (x.seat == made.seat && x.number == made.number) (is_in made.seat made.number (before ++ made ∷ later)) (in_middle before later made)

neither_first : (a b : Bool) → (a || b) ≡ false → a ≡ false
neither_first true b h = absurd (cc)
neither_first false b h = refl

neither_rest : (a b : Bool) → (a || b) ≡ false → b ≡ false
neither_rest true b h = absurd (cc)
neither_rest false b h = h

never : (b : Bool) → b ≡ true → b ≡ false → ⊥
never b t f = cc

-- All but one.
others_have : (made x : Made) (all : List Made) → (x.seat == made.seat && x.number == made.number) ≡ false → Has x all → Has x (others_of made all)
others_have made x [] other h = absurd h
others_have made x (y ∷ all) other h = by (others_have made x all other) (y.seat == made.seat && y.number == made.number) refl h
  where
    by : (Has x all → Has x (others_of made all)) → (same : Bool) → (y.seat == made.seat && y.number == made.number) ≡ same → Has x (y ∷ all) → Has x (others_of made (y ∷ all))
    by next true e (inl is) = absurd (never (x.seat == made.seat && x.number == made.number) (subst (λ (z : Made). (z.seat == made.seat && z.number == made.number) ≡ true) is e) other)
    by next true e (inr h) = rw e (next h)
    by next false e (inl is) = rw e (inl is)
    by next false e (inr h) = rw e (inr (next h))

of_others : (made x : Made) (all : List Made) → Has x (others_of made all) → Has x all × ((x.seat == made.seat && x.number == made.number) ≡ false)
of_others made x [] h = absurd h
of_others made x (y ∷ all) h = by (λ g. let p = of_others made x all g in (inr p.0, p.1)) (y.seat == made.seat && y.number == made.number) refl
  where
    first : (Has x (others_of made all) → Has x (y ∷ all) × ((x.seat == made.seat && x.number == made.number) ≡ false)) → (y.seat == made.seat && y.number == made.number) ≡ false
        → Has x (y ∷ others_of made all) → Has x (y ∷ all) × ((x.seat == made.seat && x.number == made.number) ≡ false)
    first next e (inl is) = (inl is, subst (λ (z : Made). (z.seat == made.seat && z.number == made.number) ≡ false) is e)
    first next e (inr g) = next g

    by : (Has x (others_of made all) → Has x (y ∷ all) × ((x.seat == made.seat && x.number == made.number) ≡ false)) → (same : Bool)
        → (y.seat == made.seat && y.number == made.number) ≡ same → Has x (y ∷ all) × ((x.seat == made.seat && x.number == made.number) ≡ false)
    by next true e = next (rw e at h)
    by next false e = first next e (rw e at h)

some_has : (ok : Made → Bool) (made : Made) (all : List Made) → Has made all → ok made ≡ true → some_of ok all ≡ true
some_has ok made [] h may = absurd h
some_has ok made (x ∷ all) (inl is) may = or_left_true (ok x) (some_of ok all) (subst (λ (z : Made). ok z ≡ true) (sym is) may)
some_has ok made (x ∷ all) (inr h) may = or_more (ok x) (some_of ok all) (some_has ok made all h may)

none_goes : (r : Past) (made : Made) (all : List Made) → ((x : Made) → Has x all → goes_before x made r ≡ false) → none_before r made all ≡ true
none_goes r made [] none = refl
none_goes r made (x ∷ all) none =
    let first : goes_before x made r ≡ false = none x (inl refl) in
    rw first (none_goes r made all (λ y h. none y (inr h)))

-- What goes before another had ended somewhere before that began.
record Over (x y : Made) (r : Past) : Type 0 where
  at : Past
  rest : List Entry
  is : r ≡ tells at rest
  one : 1 ≤ x.number
  done : x.number ≤ done_of x.seat at
  begun : begun_of y.seat at < y.number

over : (x y : Made) (r p : Past) (rest : List Entry) → r ≡ tells p rest → goes_before x y p ≡ true → Over x y r
over x y r Start rest e h = absurd (cc)
over x y r (Then p i event) rest e h = by (over x y r p (record { seat = i; event = event } ∷ rest) e) (is_over x y (Then p i event)) refl
  where
    here : is_over x y (Then p i event) ≡ true → Over x y r
    here t =
        let ended : (nat_lt 0 x.number && nat_lt x.number (done_of x.seat (Then p i event) + 1)) ≡ true =
        first_of (nat_lt 0 x.number && nat_lt x.number (done_of x.seat (Then p i event) + 1)) (nat_lt (begun_of y.seat (Then p i event)) y.number) t in
        let one : nat_lt 0 x.number ≡ true = first_of (nat_lt 0 x.number) (nat_lt x.number (done_of x.seat (Then p i event) + 1)) ended in
        let done : nat_lt x.number (done_of x.seat (Then p i event) + 1) ≡ true = rest_of (nat_lt 0 x.number) (nat_lt x.number (done_of x.seat (Then p i event) + 1)) ended in
        let begun : nat_lt (begun_of y.seat (Then p i event)) y.number ≡ true =
        rest_of (nat_lt 0 x.number && nat_lt x.number (done_of x.seat (Then p i event) + 1)) (nat_lt (begun_of y.seat (Then p i event)) y.number) t in
        record { at = Then p i event; rest = rest; is = e; one = grind (arith, nat_tests); done = grind (arith, nat_tests); begun = grind (arith, nat_tests) }

    by : (goes_before x y p ≡ true → Over x y r) → (now : Bool) → is_over x y (Then p i event) ≡ now → Over x y r
    by next true t = here t
    by next false f = next (rw f at h)

-- Where a call is named that has begun, it is among those.
named_in : (all : List Made) (i number : ℕ) (call : Call) (p : Past) → are_begun all p ≡ true → call_named i number p ≡ Some call → is_in i number all ≡ true
named_in all i number call Start b h = absurd (cc)
named_in all i number call (Then p k event) b h = by (named_in all i number call p (rest_of (begun_by all k (begun_of k p) event) (are_begun all p) b)) (i == k) refl
  where
    head : begun_by all k (begun_of k p) event ≡ true
    head = first_of (begun_by all k (begun_of k p) event) (are_begun all p) b

    own : (call_named i number p ≡ Some call → is_in i number all ≡ true) → (event : Event) → begun_by all i (begun_of i p) event ≡ true → named_by number (begun_of i p) event (call_named i number p) ≡ Some call → is_in i number all ≡ true
    own before (events.Begin other) there g = first (number == begun_of i p + 1) refl
      where
        first : (same : Bool) → (number == begun_of i p + 1) ≡ same → is_in i number all ≡ true
        first true e = subst (λ (n : ℕ). is_in i n all ≡ true) (sym (number_is number (begun_of i p + 1) e)) there
        first false e = before (rw e at g)
    own before event there g = before g

    by : (call_named i number p ≡ Some call → is_in i number all ≡ true) → (same : Bool) → (i == k) ≡ same → is_in i number all ≡ true
    by before true e = own before event (subst (λ (x : ℕ). begun_by all x (begun_of x p) event ≡ true) (sym (number_is i k e)) head) (rw e at h)
    by before false e = before (rw e at h)

-- What is told of a call that has ended.
module _ {c : Config} {r : Past} {order : List Made} (o : IsOrder c r order) where
  abbrev Told : Made → Type 0
  Told x = IsAnswered x.seat x.number x.answer order × (call_named x.seat x.number r ≡ Some x.call)

  told : (x : Made) (p : Past) (later : List Entry) → r ≡ tells p later → Has x (ended_in r p) → Told x
  told x Start later e h = absurd h
  told x (Then p i event) later e h = by (told x p (record { seat = i; event = event } ∷ later) e) event e h
    where
      by : (Has x (ended_in r p) → Told x) → (event : Event) → r ≡ tells (Then p i event) later → Has x (ended_by r i p event (ended_in r p)) → Told x
      by before (events.End steps answer) e h = named (call_named i (begun_of i p) r) refl h
        where
          named : (call : Option Call) → call_named i (begun_of i p) r ≡ call → Has x (call_ended i (begun_of i p) call (timeless answer) (ended_in r p)) → Told x
          named (Some call) n (inl is) = subst (λ (z : Made). Told z) is (o.ended p i steps answer later e, n)
          named (Some call) n (inr h) = before h
          named None n h = before h
      by before event e h = before h

  -- Each of the order is there once.
  fresh : (done before later : List Made) (made : Made) → order ≡ done ++ (before ++ made ∷ later) → is_in made.seat made.number before ≡ false
  fresh done [] later made e = refl
  fresh done (x ∷ before) later made e = by (fresh (done ++ x ∷ []) before later made (e ∙ sym (append_assoc done (x ∷ []) (before ++ made ∷ later)))) (x.seat == made.seat && x.number == made.number) refl
    where
      by : is_in made.seat made.number before ≡ false → (same : Bool) → (x.seat == made.seat && x.number == made.number) ≡ same → is_in made.seat made.number (x ∷ before) ≡ false
      by next true s =
          let none : is_in x.seat x.number (before ++ made ∷ later) ≡ false = o.once done (before ++ made ∷ later) x e in
          let seat : x.seat ≡ made.seat = number_is x.seat made.seat (first_of (x.seat == made.seat) (x.number == made.number) s) in
          let number : x.number ≡ made.number = number_is x.number made.number (rest_of (x.seat == made.seat) (x.number == made.number) s) in
          let same : is_in made.seat made.number (before ++ made ∷ later) ≡ false =
          subst (λ (n : ℕ). is_in made.seat n (before ++ made ∷ later) ≡ false) number (subst (λ (n : ℕ). is_in n x.number (before ++ made ∷ later) ≡ false) seat none) in
          absurd (never (is_in made.seat made.number (before ++ made ∷ later)) (in_middle before later made) same)
      by next false s = rw s next

  answer_is : (i number : ℕ) (answer : Answer) (before later : List Made) (made : Made) → is_in i number before ≡ false → is_in i number later ≡ false
      → IsAnswered i number answer (before ++ made ∷ later) → made.answer ≡ answer
  answer_is i number answer [] later made b l (inl h) = h.2
  answer_is i number answer [] later made b l (inr h) = absurd (never (is_in i number later) (answered_in i number answer later h) l)
  answer_is i number answer (x ∷ before) later made b l (inl h) =
      let there : (x.seat == i && x.number == number) ≡ true = rw (h.0, h.1) (same_both i number) in
      absurd (never (x.seat == i && x.number == number) there (neither_first (x.seat == i && x.number == number) (is_in i number before) b))
  answer_is i number answer (x ∷ before) later made b l (inr h) =
      answer_is i number answer before later made (neither_rest (x.seat == i && x.number == number) (is_in i number before) b) l h

  made_is : (x made : Made) → x.seat ≡ made.seat → x.number ≡ made.number → x.call ≡ made.call → x.answer ≡ made.answer → x ≡ made
  made_is x made s n k a =
      ap (λ (v : ℕ). record { seat = v; number = x.number; call = x.call; answer = x.answer }) s
      ∙ ap (λ (v : ℕ). record { seat = made.seat; number = v; call = x.call; answer = x.answer }) n
      ∙ ap (λ (v : Call). record { seat = made.seat; number = made.number; call = v; answer = x.answer }) k
      ∙ ap (λ (v : Answer). record { seat = made.seat; number = made.number; call = made.call; answer = v }) a

  call_is : (one other : Call) → Some one ≡ Some other → one ≡ other
  call_is one other h = cc

  -- It is one of those that have ended.
  is_ended : are_begun (ended_in r r) r ≡ true → (before later : List Made) (made : Made) → order ≡ before ++ made ∷ later → Has made (ended_in r r)
  is_ended b before later made e =
      let named : call_named made.seat made.number r ≡ Some made.call = o.begun before later made e in
      let f : Found made.seat made.number (ended_in r r) = found made.seat made.number (ended_in r r) (named_in (ended_in r r) made.seat made.number made.call r b named) in
      let t : Told f.one = told f.one r [] refl f.there in
      let there : IsAnswered made.seat made.number f.one.answer order =
      subst (λ (n : ℕ). IsAnswered made.seat n f.one.answer order) f.numbered (subst (λ (n : ℕ). IsAnswered n f.one.number f.one.answer order) f.seat t.0) in
      let called : call_named made.seat made.number r ≡ Some f.one.call =
      subst (λ (n : ℕ). call_named made.seat n r ≡ Some f.one.call) f.numbered (subst (λ (n : ℕ). call_named n f.one.number r ≡ Some f.one.call) f.seat t.1) in
      let answer : made.answer ≡ f.one.answer =
      answer_is made.seat made.number f.one.answer before later made (fresh [] before later made e) (o.once before later made e)
      (subst (λ (all : List Made). IsAnswered made.seat made.number f.one.answer all) e there) in
      subst (λ (z : Made). Has z (ended_in r r)) (made_is f.one made f.seat f.numbered (call_is f.one.call made.call (sym called ∙ named)) (sym answer)) f.there

  -- Those that are left after a part of the order.
  record Left (before left : List Made) : Type 0 where
    has : (x : Made) → Has x (ended_in r r) → is_in x.seat x.number before ≡ false → Has x left
    of : (x : Made) → Has x left → Has x (ended_in r r) × (is_in x.seat x.number before ≡ false)

  in_after : (i number : ℕ) (before : List Made) (made : Made) → is_in i number before ≡ false → (made.seat == i && made.number == number) ≡ false → is_in i number (before ++ made ∷ []) ≡ false
  in_after i number [] made b m = rw m refl
  in_after i number (x ∷ before) made b m =
      let first : (x.seat == i && x.number == number) ≡ false = neither_first (x.seat == i && x.number == number) (is_in i number before) b in
      rw first (in_after i number before made (neither_rest (x.seat == i && x.number == number) (is_in i number before) b) m)

  before_after : (i number : ℕ) (before : List Made) (made : Made) → is_in i number (before ++ made ∷ []) ≡ false → (is_in i number before ≡ false) × ((made.seat == i && made.number == number) ≡ false)
  before_after i number [] made h = (refl, neither_first (made.seat == i && made.number == number) false h)
  before_after i number (x ∷ before) made h =
      let first : (x.seat == i && x.number == number) ≡ false = neither_first (x.seat == i && x.number == number) (is_in i number (before ++ made ∷ [])) h in
      let rest = before_after i number before made (neither_rest (x.seat == i && x.number == number) (is_in i number (before ++ made ∷ [])) h) in
      (rw first rest.0, rest.1)

  turned : (a b d e : ℕ) → (a == b && d == e) ≡ false → (b == a && e == d) ≡ false
  turned a b d e h = false_by (b == a && e == d) (λ t. never (a == b && d == e) (both (a == b) (d == e) (swap b a (first_of (b == a) (e == d) t)) (swap e d (rest_of (b == a) (e == d) t))) h)
    where
      swap : (x y : ℕ) → (x == y) ≡ true → (y == x) ≡ true
      swap x y t = subst (λ (z : ℕ). (z == x) ≡ true) (number_is x y t) (same_number x)

  left_on : (before left : List Made) (made : Made) → Left before left → Left (before ++ made ∷ []) (others_of made left)
  left_on before left made l = record { has = has; of = of }
    where
      has : (x : Made) → Has x (ended_in r r) → is_in x.seat x.number (before ++ made ∷ []) ≡ false → Has x (others_of made left)
      has x h b =
          let p = before_after x.seat x.number before made b in
          others_have made x left (turned made.seat x.seat made.number x.number p.1) (l.has x h p.0)

      of : (x : Made) → Has x (others_of made left) → Has x (ended_in r r) × (is_in x.seat x.number (before ++ made ∷ []) ≡ false)
      of x h =
          let p = of_others made x left h in
          let q = l.of x p.0 in
          (q.0, in_after x.seat x.number before made q.1 (turned x.seat made.seat x.number made.number p.1))

  -- nobody is left who has to come before the next one
  none_left : (before later left : List Made) (made : Made) → order ≡ before ++ made ∷ later → Left before left → (x : Made) → Has x left → goes_before x made r ≡ false
  none_left before later left made e l x h = false_by (goes_before x made r) (λ t.
      let w : Over x made r = over x made r r [] refl t in
      never (is_in x.seat x.number before) (o.in_time w.at w.rest x.seat x.number before later made w.is w.one w.done w.begun e) (l.of x h).1)

  all_in : (x : Made) → Has x (ended_in r r) → is_in x.seat x.number order ≡ true
  all_in x h = answered_in x.seat x.number x.answer order (told x r [] refl h).0

  search : (b : are_begun (ended_in r r) r ≡ true) (n : ℕ) (s : State) (before later left : List Made) → order ≡ before ++ later → Serves c s later → Left before left → may_serve c r n s left ≡ true
  search b zero s before later left e h l = refl
  search b (suc n) s before later [] e h l = refl
  search b (suc n) s before [] (y ∷ left) e h l =
      let p = l.of y (inl refl) in
      let there : is_in y.seat y.number (before ++ []) ≡ true = subst (λ (all : List Made). is_in y.seat y.number all ≡ true) e (all_in y p.0) in
      absurd (never (is_in y.seat y.number before) (subst (λ (all : List Made). is_in y.seat y.number all ≡ true) (append-nil before) there) p.1)
  search b (suc n) s before (made ∷ later) (y ∷ left) e h l =
      some_has
      (λ (x : Made). may_answer c s.object (s.hand x.seat) x.call x.answer && (none_before r x (y ∷ left) && may_serve c r n (then_state c s x) (others_of x (y ∷ left))))
      made (y ∷ left) (l.has made (is_ended b before later made e) (fresh [] before later made e))
      (both (may_answer c s.object (s.hand made.seat) made.call made.answer) (none_before r made (y ∷ left) && may_serve c r n (then_state c s made) (others_of made (y ∷ left))) h.0
      (both (none_before r made (y ∷ left)) (may_serve c r n (then_state c s made) (others_of made (y ∷ left))) (none_goes r made (y ∷ left) (none_left before later (y ∷ left) made e l))
      (search b n (then_state c s made) (before ++ made ∷ []) later (others_of made (y ∷ left)) (e ∙ sym (append_assoc before (made ∷ []) later)) h.1 (left_on before (y ∷ left) made l))))

pub orders_are_found : OrdersAreFound
orders_are_found config r calls b o =
    search o.right b calls first_state [] o.order (ended_in r r) refl o.right.serves (record { has = λ x h none. h; of = λ x h. (h, refl) })
