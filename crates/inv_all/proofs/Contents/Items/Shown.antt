-- What rows of the queue show, and what seats have read of them, over the changes that steps make.
use Rattle.std.proofs.Common.{ℕ, ◌≡◌, ◌≤◌, ◌<◌, ◌+◌, ◌-◌, ◌&&◌, ◌||◌, Bool, true, false, arith, refl, ap, sym, subst, ◌∙◌, List, [], ◌∷◌, ◌++◌, length}
use Rattle.std.proofs.lemmas.Bool.Decides.{nat_tests}
use Rattle.std.proofs.lemmas.List.{length-append, get_or_append_left}
use Rattle.std.proofs.Math.Seq.{get_or-append_seam}
use Rattle.std.specs.Prelude.{◌==◌}
use Rattle.inv_ends.specs.model.words.Place.{Place}
use Rattle.inv_ends.specs.model.words.Place.Place.{Row}
use Rattle.inv_ends.specs.model.Book.{Book}
use Rattle.inv_ends.specs.model.Phases.{Base}
use Rattle.inv_ends.specs.model.Calls.{EnqueueKept, Task, Gets, Changes, Holds, Enqueues, Dequeues, Why, Opens, FollowsHead, Fills, EnqueueAt, LoadNumber, LoadNext, PassTail, ExchangeNext, ExchangeTail, DequeueAt, LoadTail, SwingTail, TakeNumber, TakeValue, ExchangeHead, Work, Getting, Changing, Enqueuing, Dequeuing, Phase, Idle, Runs, Scans, Works, Keeping}
use Rattle.inv_ends.proofs.model.Facts.{number_is, or_left_true, or_more}
use Rattle.inv_ends.specs.rows.Rows.{View}
use Rattle.inv_ends.specs.rows.Queue.{Line, moved_line, stands_on}
use Rattle.inv_ends.specs.rows.Queue.LineMove.{Joins}
use Rattle.inv_ends.specs.rows.Chain.{queue_of}
use Rattle.inv_all.specs.Contents.Stands.{nexts_in}
use Rattle.inv_all.specs.Contents.Reads.{value_under, numbers_in, values_in, Reads}
use Rattle.inv_all.specs.Contents.Items.{Shown}
use Rattle.inv_all.proofs.Contents.Items.Rows.{Lower}

-- values that were queued stay under their numbers
pub value_stays : (queued : List ℕ) (value n : ℕ) → 0 < n → n ≤ length queued → value_under (queued ++ value ∷ []) n ≡ value_under queued n
value_stays queued value n p h = get_or_append_left queued (value ∷ []) 0 (n - 1) (omega arith)

pub value_joins : (queued : List ℕ) (value : ℕ) → value_under (queued ++ value ∷ []) (length queued + 1) ≡ value
value_joins queued value =
    let at : length queued + 1 - 1 ≡ length queued = omega arith in
    rw at (get_or-append_seam queued value [] 0)

-- the words of rows that were in the queue stay, and a next link that is not null
pub record Kept (v u : View) (l : Line) (mem after : Place → ℕ) : Type 0 where
  pub words : (s place : ℕ) → (place == 0) ≡ false → l.lined s ≡ true → after (Row s place) ≡ mem (Row s place)
  pub nexts : (s : ℕ) → queue_of v s ≡ true → queue_of u s ≡ true → after (Row s 0) ≡ 0 → mem (Row s 0) ≡ 0

-- nothing joins the queue
pub mild_shown : (most : ℕ) (mem after : Place → ℕ) (a b : Book) (v u : View) (l m : Line) → Kept v u l mem after → Lower l m → ((s : ℕ) → queue_of u s ≡ true → queue_of v s ≡ true) → b.queued ≡ a.queued → ((h : ℕ) → u.head ≡ h + 1 → m.number h ≡ b.taken) → Shown most mem a v l → Shown most after b u m
mild_shown most mem after a b v u l m k o q e f h = record {
  numbers = λ s y. k.words s 1 refl (o.lined s y) ∙ h.numbers s (o.lined s y) ∙ sym (o.number s);
  values = λ s y p. k.words s 2 refl (o.lined s y) ∙ h.values s (o.lined s y) (subst (λ (n : ℕ). 0 < n) (o.number s) p) ∙ sym (ap (λ (n : ℕ). value_under a.queued n) (o.number s)) ∙ sym (ap (λ (x : List ℕ). value_under x (m.number s)) e);
  within = λ s y. rw (o.number s, e) (h.within s (o.lined s y));
  last = λ s y z. rw (o.number s, e) (h.last s (q s y) (k.nexts s (q s y) y z));
  first = f;
  room = rw e h.room;
}

-- a row joins the queue

pub record Joining (most : ℕ) (mem after : Place → ℕ) (a b : Book) (v u : View) (l : Line) (kept : EnqueueKept) (slot : ℕ) : Type 0 where
  pub tail : l.lined kept.tail ≡ true
  pub fresh : l.lined slot ≡ false
  pub queue : (s : ℕ) → queue_of u s ≡ true → (s == slot) ≡ false → queue_of v s ≡ true
  pub only : (s : ℕ) → queue_of v s ≡ true → l.number s ≡ l.number kept.tail → s ≡ kept.tail
  pub lines : (s : ℕ) → queue_of v s ≡ true → l.lined s ≡ true
  pub link : after (Row kept.tail 0) ≡ slot + 1
  pub number : l.number kept.tail ≡ length a.queued
  pub word : after (Row slot 1) ≡ length a.queued + 1
  pub value : after (Row slot 2) ≡ kept.value
  pub queued : b.queued ≡ a.queued ++ kept.value ∷ []
  pub taken : b.taken ≡ a.taken
  pub head : u.head ≡ v.head
  pub first : (h : ℕ) → v.head ≡ h + 1 → queue_of v h ≡ true
  pub room : length a.queued < most

longer : (queued : List ℕ) (value : ℕ) → length (queued ++ value ∷ []) ≡ length queued + 1
longer queued value = length-append queued (value ∷ [])

joined_number : (l : Line) (tail slot s : ℕ) → (s == slot) ≡ false → (moved_line l (Joins tail slot)).number s ≡ l.number s
joined_number l tail slot s e = rw e refl

joined_own : (l : Line) (tail slot s : ℕ) → (s == slot) ≡ true → (moved_line l (Joins tail slot)).number s ≡ l.number tail + 1
joined_own l tail slot s e = rw e refl

joined_lined : (l : Line) (tail slot s : ℕ) → (s == slot) ≡ false → (moved_line l (Joins tail slot)).lined s ≡ true → l.lined s ≡ true
joined_lined l tail slot s e y = rw e at y

apart : (l : Line) (s slot : ℕ) (same : Bool) → (s == slot) ≡ same → l.lined s ≡ true → l.lined slot ≡ false → same ≡ false
apart l s slot true e y z = let is : l.lined s ≡ l.lined slot = ap l.lined (number_is s slot e) in absurd (cc)
apart l s slot false e y z = refl

pub joined_shown : (most : ℕ) (mem after : Place → ℕ) (a b : Book) (v u : View) (l : Line) (kept : EnqueueKept) (slot : ℕ) → Kept v u l mem after → Joining most mem after a b v u l kept slot → Shown most mem a v l → Shown most after b u (moved_line l (Joins kept.tail slot))
joined_shown most mem after a b v u l kept slot k j h = record {
  numbers = λ s y. by_numbers s (s == slot) refl y;
  values = λ s y p. by_values s (s == slot) refl y p;
  within = λ s y. by_within s (s == slot) refl y;
  last = λ s y z. by_last s (s == slot) refl y z;
  first = λ x e. by_first x e;
  room = rw (j.queued, longer a.queued kept.value) (omega (arith, j.room));
}
  where
    own_number : (s : ℕ) → (s == slot) ≡ true → (moved_line l (Joins kept.tail slot)).number s ≡ length a.queued + 1
    own_number s e = joined_own l kept.tail slot s e ∙ ap (λ (n : ℕ). n + 1) j.number

    by_numbers : (s : ℕ) (same : Bool) → (s == slot) ≡ same → (moved_line l (Joins kept.tail slot)).lined s ≡ true → after (Row s 1) ≡ (moved_line l (Joins kept.tail slot)).number s
    by_numbers s true e y = ap (λ (x : ℕ). after (Row x 1)) (number_is s slot e) ∙ j.word ∙ sym (own_number s e)
    by_numbers s false e y =
        let was : l.lined s ≡ true = joined_lined l kept.tail slot s e y in
        k.words s 1 refl was ∙ h.numbers s was ∙ sym (joined_number l kept.tail slot s e)

    by_values : (s : ℕ) (same : Bool) → (s == slot) ≡ same → (moved_line l (Joins kept.tail slot)).lined s ≡ true → 0 < (moved_line l (Joins kept.tail slot)).number s → after (Row s 2) ≡ value_under b.queued ((moved_line l (Joins kept.tail slot)).number s)
    by_values s true e y p =
        ap (λ (x : ℕ). after (Row x 2)) (number_is s slot e) ∙ j.value ∙ sym (value_joins a.queued kept.value) ∙ sym (ap (λ (x : List ℕ). value_under x (length a.queued + 1)) j.queued) ∙ sym (ap (λ (n : ℕ). value_under b.queued n) (own_number s e))
    by_values s false e y p =
        let was : l.lined s ≡ true = joined_lined l kept.tail slot s e y in
        let some : 0 < l.number s = subst (λ (n : ℕ). 0 < n) (joined_number l kept.tail slot s e) p in
        k.words s 2 refl was ∙ h.values s was some ∙ sym (value_stays a.queued kept.value (l.number s) some (h.within s was)) ∙ sym (ap (λ (x : List ℕ). value_under x (l.number s)) j.queued) ∙ sym (ap (λ (n : ℕ). value_under b.queued n) (joined_number l kept.tail slot s e))

    by_within : (s : ℕ) (same : Bool) → (s == slot) ≡ same → (moved_line l (Joins kept.tail slot)).lined s ≡ true → (moved_line l (Joins kept.tail slot)).number s ≤ length b.queued
    by_within s true e y = rw (own_number s e, j.queued, longer a.queued kept.value) (omega arith)
    by_within s false e y =
        let was : l.lined s ≡ true = joined_lined l kept.tail slot s e y in
        let low : l.number s ≤ length a.queued = h.within s was in
        rw (joined_number l kept.tail slot s e, j.queued, longer a.queued kept.value) (omega arith)

    not_last : (s : ℕ) → queue_of v s ≡ true → queue_of u s ≡ true → after (Row s 0) ≡ 0 → ⊥
    not_last s y x z =
        let last : l.number s ≡ length a.queued = h.last s y (k.nexts s y x z) in
        let is : s ≡ kept.tail = j.only s y (last ∙ sym j.number) in
        let link : after (Row s 0) ≡ slot + 1 = ap (λ (r : ℕ). after (Row r 0)) is ∙ j.link in
        absurd (omega arith)

    by_last : (s : ℕ) (same : Bool) → (s == slot) ≡ same → queue_of u s ≡ true → after (Row s 0) ≡ 0 → (moved_line l (Joins kept.tail slot)).number s ≡ length b.queued
    by_last s true e y z = own_number s e ∙ sym (ap (λ (x : List ℕ). length x) j.queued ∙ longer a.queued kept.value)
    by_last s false e y z = absurd (not_last s (j.queue s y e) y z)

    by_first : (x : ℕ) → u.head ≡ x + 1 → (moved_line l (Joins kept.tail slot)).number x ≡ b.taken
    by_first x e =
        let at : v.head ≡ x + 1 = sym j.head ∙ e in
        let other : (x == slot) ≡ false = apart l x slot (x == slot) refl (j.lines x (j.first x at)) j.fresh in
        joined_number l kept.tail slot x other ∙ h.first x at ∙ sym j.taken

-- what seats have read still holds

-- a row whose number is known is one that the seat works on
kept_row : (kept : EnqueueKept) (t n : ℕ) → (kept.tail == t && (kept.number == n)) ≡ true → (kept.tail == t) ≡ true
kept_row kept t n e = grind (arith, nat_tests)

enqueue_row : (kept : EnqueueKept) (at : EnqueueAt) (t n : ℕ) → numbers_in (Works (Enqueuing kept at)) t n ≡ true → (kept.tail == t) ≡ true
enqueue_row kept LoadNumber t n e = cc
enqueue_row kept LoadNext t n e = kept_row kept t n e
enqueue_row kept (PassTail next) t n e = kept_row kept t n e
enqueue_row kept (ExchangeNext slot) t n e = kept_row kept t n e
enqueue_row kept (ExchangeTail slot) t n e = cc

left_row : (a b t n : ℕ) → (a == t && (b == n)) ≡ true → (a == t) ≡ true
left_row a b t n e = grind (arith, nat_tests)

dequeue_row : (at : DequeueAt) (t n : ℕ) → numbers_in (Works (Dequeuing at)) t n ≡ true → nexts_in (Works (Dequeuing at)) t ≡ true
dequeue_row (LoadTail head) t n e = cc
dequeue_row (SwingTail head next) t n e = absurd (cc)
dequeue_row (TakeNumber head next) t n e = absurd (cc)
dequeue_row (TakeValue head next number) t n e = left_row next number t n e
dequeue_row (ExchangeHead head next number value) t n e = left_row next number t n e

work_row : (work : Work) (t n : ℕ) → numbers_in (Works work) t n ≡ true → (stands_on (Works work) t || nexts_in (Works work) t) ≡ true
work_row (Getting key at) t n e = cc
work_row (Changing kept at) t n e = cc
work_row (Enqueuing kept at) t n e = or_left_true (kept.tail == t) false (enqueue_row kept at t n e)
work_row (Keeping at) t n e = cc
work_row (Dequeuing at) t n e = or_more (stands_on (Works (Dequeuing at)) t) (nexts_in (Works (Dequeuing at)) t) (dequeue_row at t n e)

task_row : (task : Task) (base : Base) (t n : ℕ) → numbers_in (Runs (Fills task) base) t n ≡ true → (stands_on (Runs (Fills task) base) t || false) ≡ true
task_row (Gets key) base t n e = cc
task_row (Changes kept) base t n e = cc
task_row (Holds key) base t n e = cc
task_row (Enqueues kept) base t n e = or_left_true (kept.tail == t) false (kept_row kept t n e)
task_row Dequeues base t n e = cc

run_row : (why : Why) (base : Base) (t n : ℕ) → numbers_in (Runs why base) t n ≡ true → (stands_on (Runs why base) t || false) ≡ true
run_row (Opens task) base t n e = cc
run_row (FollowsHead head tail) base t n e = absurd (cc)
run_row (Fills task) base t n e = task_row task base t n e
run_row why base t n e = cc

numbers_row : (phase : Phase) (t n : ℕ) → numbers_in phase t n ≡ true → (stands_on phase t || nexts_in phase t) ≡ true
numbers_row Idle t n e = cc
numbers_row (Runs why base) t n e = run_row why base t n e
numbers_row (Scans later at) t n e = cc
numbers_row (Works work) t n e = work_row work t n e

values_dequeue : (at : DequeueAt) (t x : ℕ) → values_in (Works (Dequeuing at)) t x ≡ true → nexts_in (Works (Dequeuing at)) t ≡ true
values_dequeue (LoadTail head) t x e = cc
values_dequeue (SwingTail head next) t x e = absurd (cc)
values_dequeue (TakeNumber head next) t x e = absurd (cc)
values_dequeue (TakeValue head next number) t x e = absurd (cc)
values_dequeue (ExchangeHead head next number value) t x e = left_row next value t x e

values_row : (phase : Phase) (t x : ℕ) → values_in phase t x ≡ true → nexts_in phase t ≡ true
values_row Idle t x e = cc
values_row (Runs why base) t x e = cc
values_row (Scans later at) t x e = cc
values_row (Works (Getting key at)) t x e = cc
values_row (Works (Changing kept at)) t x e = cc
values_row (Works (Enqueuing kept at)) t x e = cc
values_row (Works (Dequeuing at)) t x e = values_dequeue at t x e
values_row (Works (Keeping at)) t x e = cc

-- numbers and values of rows that were in the queue stay
pub record Grown (l m : Line) (before queued : List ℕ) : Type 0 where
  pub number : (t : ℕ) → l.lined t ≡ true → m.number t ≡ l.number t
  pub values : (n : ℕ) → 0 < n → n ≤ length before → value_under queued n ≡ value_under before n

pub lower_grown : (l m : Line) (before queued : List ℕ) → Lower l m → queued ≡ before → Grown l m before queued
lower_grown l m before queued o e = record { number = λ t y. o.number t; values = λ n p h. ap (λ (x : List ℕ). value_under x n) e }

pub joined_grown : (l : Line) (tail slot value : ℕ) (before queued : List ℕ) → l.lined slot ≡ false → queued ≡ before ++ value ∷ [] → Grown l (moved_line l (Joins tail slot)) before queued
joined_grown l tail slot value before queued z e = record {
  number = λ t y. joined_number l tail slot t (apart l t slot (t == slot) refl y z);
  values = λ n p h. ap (λ (x : List ℕ). value_under x n) e ∙ value_stays before value n p h;
}

either : (x y : Bool) (P : Type 0) → (x || y) ≡ true → (x ≡ true → P) → (y ≡ true → P) → P
either true y P h f g = f refl
either false y P h f g = g h

pub reads_grown : (phase : Phase) (l m : Line) (before queued : List ℕ) → Grown l m before queued → ((t : ℕ) → stands_on phase t ≡ true → l.lined t ≡ true) → ((t : ℕ) → nexts_in phase t ≡ true → l.lined t ≡ true → m.lined t ≡ true) → ((t : ℕ) → l.lined t ≡ true → l.number t ≤ length before) → Reads phase l before → Reads phase m queued
reads_grown phase l m before queued g stood stays within h = record {
  lined = λ t e. stays t e (h.lined t e);
  above = λ t e. subst (λ (n : ℕ). 0 < n) (sym (g.number t (h.lined t e))) (h.above t e);
  numbers = λ t n e. g.number t (row t n e) ∙ h.numbers t n e;
  values = λ t x e.
      let y : l.lined t ≡ true = h.lined t (values_row phase t x e) in
      ap (λ (n : ℕ). value_under queued n) (g.number t y) ∙ g.values (l.number t) (h.above t (values_row phase t x e)) (within t y) ∙ h.values t x e;
}
  where
    row : (t n : ℕ) → numbers_in phase t n ≡ true → l.lined t ≡ true
    row t n e = either (stands_on phase t) (nexts_in phase t) (l.lined t ≡ true) (numbers_row phase t n e) (λ x. stood t x) (λ x. h.lined t x)
