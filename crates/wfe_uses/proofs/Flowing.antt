-- What is queued is taken or left, however the values are weighed; and so each value as often as it was queued.
use Rattle.std.proofs.Common.{Err, List, None, Ok, OnOk, Option, Result, Some, [], ap, arith, cond, get_or, length, refl, subst, sym, take, true, ℕ, suc, zero, ◌++◌, ◌+◌, ◌-◌, ◌<◌, ◌==◌, ◌∙◌, ◌∷◌, ◌≡◌, ◌≤◌, ◌⊎◌, inl, inr}
use Rattle.std.proofs.lemmas.Bool.Decides.{nat_tests}
use Rattle.std.proofs.lemmas.List.{append-nil, append_assoc, get_or-map, length-map, length-take-le}
use Rattle.std.proofs.lemmas.List.Elements.{All-map, All-same}
use Rattle.std.proofs.lemmas.List.Sums.{sum_by-append, sum_by-cons, sum_by-take-drop}
use Rattle.std.specs.Prelude.{All, count_by, drop, map, slice_get, sum_by}
use Rattle.std.specs.declared.alloc.Global.{Global}
use Rattle.std.specs.declared.vec.Vec.{Vec}
use Rattle.laws.specs.StructuresAt.{numbered_from}
use Rattle.wfe_core.specs.Locals.{Group}
use Rattle.wfe_core.specs.defs.declared.call.Answer.TheVariants as answers
use Rattle.wfe_core.specs.defs.declared.call.Answer.{Answer}
use Rattle.wfe_core.specs.defs.declared.call.Call.TheVariants as calls
use Rattle.wfe_core.specs.defs.declared.call.Call.{Call}
use Rattle.wfe_core.specs.defs.declared.call.ClockMove.{ClockMove}
use Rattle.wfe_core.specs.words.declared.config.Config.{Config}
use Rattle.wfe_core.specs.words.declared.layout.Layout.{Layout}
use Rattle.wfe_table.specs.Calls.{IsMade, enqueue_answer, group_of}
use Rattle.wfe_table.specs.Closing.{IsLeft, closing_of, track_of}
use Rattle.wfe_table.specs.Public.{IsOf, SeatNow, TableNow}
use Rattle.wfe_table.specs.all.Logs.Versions.{number_queued, number_taken}
use Rattle.wfe_table.specs.all.RunLaw.{AtClose, IsCall, QueueLaw, QueuesRight, RunLaw, has_number, is_queued_as, is_taken_as, once_up_to, total, total_of}
use Rattle.wfe_table.specs.closed.declared.closed.Closed.{Closed}
use Rattle.wfe_table.specs.rule.Views.{seat_of}
use Rattle.wfe_table_end.specs.declared.refusals.EnqueueRefusal.TheVariants as refusals
use Rattle.wfe_table_end.specs.declared.refusals.EnqueueRefusal.{EnqueueRefusal}
use Rattle.wfe_uses.specs.Flowing.{Balances, IsHand, IsOutcome, IsParted, Moves, listed, queued_in, taken_in, times_in, times_left, value_queued, value_taken}
use Rattle.wfe_uses.specs.declared.pipeline.Hand.{Hand}
use Rattle.wfe_uses.proofs.Calls.{log_of, logs_are}
use Rattle.wfe_uses.proofs.Sums.{passes_counted, spread, spread_none, spread_one, total_same, total_spread}

-- One call more of a log.

queued_push : (log : List Group) (group : Group) → queued_in (log ++ group ∷ []) ≡ queued_in log ++ listed (value_queued group.call group.answer)
queued_push [] group = append-nil (listed (value_queued group.call group.answer))
queued_push (x ∷ log) group =
    ap (λ (xs : List ℕ). listed (value_queued x.call x.answer) ++ xs) (queued_push log group) ∙ sym (append_assoc (listed (value_queued x.call x.answer)) (queued_in log) (listed (value_queued group.call group.answer)))

taken_push : (log : List Group) (group : Group) → taken_in (log ++ group ∷ []) ≡ taken_in log ++ listed (value_taken group.call group.answer)
taken_push [] group = append-nil (listed (value_taken group.call group.answer))
taken_push (x ∷ log) group =
    ap (λ (xs : List ℕ). listed (value_taken x.call x.answer) ++ xs) (taken_push log group) ∙ sym (append_assoc (listed (value_taken x.call x.answer)) (taken_in log) (listed (value_taken group.call group.answer)))

pub moves_begun : (log : List Group) (sent taken : List ℕ) → log ≡ [] → sent ≡ [] → taken ≡ [] → Moves log sent taken
moves_begun log sent taken none s t = record { sent_is = s ∙ ap queued_in (sym none); taken_is = t ∙ ap taken_in (sym none) }

pub moves_more : (log more : List Group) (group : Group) (sent taken later_sent later_taken : List ℕ) → more ≡ log ++ group ∷ [] → later_sent ≡ sent ++ listed (value_queued group.call group.answer) → later_taken ≡ taken ++ listed (value_taken group.call group.answer)
    → Moves log sent taken → Moves more later_sent later_taken
moves_more log more group sent taken later_sent later_taken e s t moves = record {
  sent_is = s ∙ ap (λ (xs : List ℕ). xs ++ listed (value_queued group.call group.answer)) moves.sent_is ∙ sym (queued_push log group) ∙ ap queued_in (sym e);
  taken_is = t ∙ ap (λ (xs : List ℕ). xs ++ listed (value_taken group.call group.answer)) moves.taken_is ∙ sym (taken_push log group) ∙ ap taken_in (sym e);
}

-- a value was queued
pub moves_sent : (layout : Layout) (old new : SeatNow) (value number : ℕ) (sent more : List ℕ) → IsMade layout old new (calls.Enqueue value) (answers.Queued number) → more ≡ sent ++ value ∷ [] → (taken : List ℕ) → Moves (log_of old) sent taken → Moves (log_of new) more taken
moves_sent layout old new value number sent more made e taken moves =
    moves_more (log_of old) (log_of new) (group_of (calls.Enqueue value) (answers.Queued number) new) sent taken more taken made.ends.left.log e (sym (append-nil taken)) moves

-- that was refused
refused_queues : (value : ℕ) (refusal : EnqueueRefusal) → value_queued (calls.Enqueue value) (enqueue_answer refusal) ≡ None
refused_queues value (refusals.Spent number) = refl
refused_queues value refusals.Full = refl

refused_takes : (value : ℕ) (refusal : EnqueueRefusal) → value_taken (calls.Enqueue value) (enqueue_answer refusal) ≡ None
refused_takes value (refusals.Spent number) = refl
refused_takes value refusals.Full = refl

pub moves_unsent : (layout : Layout) (old new : SeatNow) (value : ℕ) (refusal : EnqueueRefusal) (sent : List ℕ) → IsMade layout old new (calls.Enqueue value) (enqueue_answer refusal) → (taken : List ℕ) → Moves (log_of old) sent taken → Moves (log_of new) sent taken
moves_unsent layout old new value refusal sent made taken moves =
    moves_more (log_of old) (log_of new) (group_of (calls.Enqueue value) (enqueue_answer refusal) new) sent taken sent taken made.ends.left.log
    (sym (append-nil sent) ∙ ap (λ (o : Option ℕ). sent ++ listed o) (sym (refused_queues value refusal))) (sym (append-nil taken) ∙ ap (λ (o : Option ℕ). taken ++ listed o) (sym (refused_takes value refusal))) moves

-- where a fact holds if a call succeeds, so does what follows from it
pub on_ok : {T E : Type 0} {P Q : Type 0} (r : Result T E) → OnOk r P → (P → Q) → OnOk r Q
on_ok (Ok x) p f = f p
on_ok (Err e) p f = tt

-- a value was taken, or none was there
pub moves_taken : (layout : Layout) (old new : SeatNow) (number value : ℕ) (clock : ClockMove) (taken more : List ℕ) → IsMade layout old new calls.Dequeue (answers.Taken number value clock) → more ≡ taken ++ value ∷ [] → (sent : List ℕ) → Moves (log_of old) sent taken
    → Moves (log_of new) sent more
moves_taken layout old new number value clock taken more made e sent moves =
    moves_more (log_of old) (log_of new) (group_of calls.Dequeue (answers.Taken number value clock) new) sent taken sent more made.ends.left.log (sym (append-nil sent)) e moves

pub moves_none : (layout : Layout) (old new : SeatNow) (taken : List ℕ) → IsMade layout old new calls.Dequeue answers.Empty → (sent : List ℕ) → Moves (log_of old) sent taken → Moves (log_of new) sent taken
moves_none layout old new taken made sent moves =
    moves_more (log_of old) (log_of new) (group_of calls.Dequeue answers.Empty new) sent taken sent taken made.ends.left.log (sym (append-nil sent)) (sym (append-nil taken)) moves

-- Weights.

abbrev weigh : (ℕ → ℕ) → Option ℕ → ℕ
weigh h None = 0
weigh h (Some value) = h value

sum_listed : (h : ℕ → ℕ) (o : Option ℕ) → sum_by h (listed o) ≡ weigh h o
sum_listed h None = refl
sum_listed h (Some value) = omega (arith, sum_by-cons h value [])

weigh_queued : (h : ℕ → ℕ) (log : List Group) → sum_by (λ group. weigh h (value_queued group.call group.answer)) log ≡ sum_by h (queued_in log)
weigh_queued h [] = refl
weigh_queued h (x ∷ log) =
    omega (arith, sum_by-cons (λ (group : Group). weigh h (value_queued group.call group.answer)) x log, sum_by-append h (listed (value_queued x.call x.answer)) (queued_in log), sum_listed h (value_queued x.call x.answer), weigh_queued h log)

weigh_taken : (h : ℕ → ℕ) (log : List Group) → sum_by (λ group. weigh h (value_taken group.call group.answer)) log ≡ sum_by h (taken_in log)
weigh_taken h [] = refl
weigh_taken h (x ∷ log) =
    omega (arith, sum_by-cons (λ (group : Group). weigh h (value_taken group.call group.answer)) x log, sum_by-append h (listed (value_taken x.call x.answer)) (taken_in log), sum_listed h (value_taken x.call x.answer), weigh_taken h log)

-- what a call tells of the queue: nothing, or a number with its value
record Tells (told value : Option ℕ) (queued : List ℕ) : Type 0 where
  number : ℕ
  told_is : told ≡ Some number
  item : ℕ
  value_is : value ≡ Some item
  there : slice_get queued (number - 1) ≡ Some item

queues : (c : Config) (queued : List ℕ) (call : Call) (answer : Answer) → QueuesRight c queued call answer
    → ((number_queued call answer ≡ None) × (value_queued call answer ≡ None)) ⊎ Tells (number_queued call answer) (value_queued call answer) queued
queues c queued (calls.Enqueue value) (answers.Queued number) right = inr (record { number = number; told_is = refl; item = value; value_is = refl; there = right })
queues c queued call answer right = inl (refl, refl)

takes : (c : Config) (queued : List ℕ) (call : Call) (answer : Answer) → QueuesRight c queued call answer
    → ((number_taken call answer ≡ None) × (value_taken call answer ≡ None)) ⊎ Tells (number_taken call answer) (value_taken call answer) queued
takes c queued calls.Dequeue (answers.Taken number value clock) right = inr (record { number = number; told_is = refl; item = value; value_is = refl; there = right })
takes c queued call answer right = inl (refl, refl)

get_taken : (n i : ℕ) (xs : List ℕ) → i < n → slice_get (take n xs) i ≡ slice_get xs i
get_taken zero i xs below = absurd (omega (arith, below))
get_taken (suc n) i [] below = refl
get_taken (suc n) zero (x ∷ xs) below = refl
get_taken (suc n) (suc i) (x ∷ xs) below = get_taken n i xs (omega (arith, below))

numbered_sum : (h : ℕ → ℕ) (before : ℕ) (xs : List ℕ) → sum_by (λ item. h item.1) (numbered_from before xs) ≡ sum_by h xs
numbered_sum h before [] = refl
numbered_sum h before (x ∷ xs) = omega (arith, sum_by-cons (λ (item : ℕ × ℕ). h item.1) (before + 1, x) (numbered_from (before + 1) xs), sum_by-cons h x xs, numbered_sum h (before + 1) xs)

-- One table.
module _ (c : Config) (logs : List (List Group)) (closed : AtClose) (law : RunLaw c logs closed) (h : ℕ → ℕ) where
  abbrev queue : QueueLaw c logs closed law.queued law.taken
  queue = law.queue

  in_range : (n number : ℕ) → 1 ≤ once_up_to n number → (1 ≤ number) × (number ≤ n)
  in_range n number some = (grind (arith, nat_tests), grind (arith, nat_tests))

  queued_once : (number : ℕ) → 0 < number → number ≤ 0 + length law.queued → total_of (is_queued_as number) logs ≡ 1
  queued_once number low high = queue.once_queued number ∙ grind (arith, nat_tests)

  taken_once : (number : ℕ) → 0 < number → number ≤ 0 + length (take law.taken law.queued) → total_of (is_taken_as number) logs ≡ 1
  taken_once number low high = let long = length-take-le law.taken law.queued queue.most in let most : number ≤ law.taken = omega (arith, high, long) in queue.once_taken number ∙ grind (arith, nat_tests)

  queued_weighs : (before : List Group) (group : Group) → IsCall logs before group → weigh h (value_queued group.call group.answer) ≡ spread is_queued_as h 0 law.queued group
  queued_weighs before group call = by (queues c law.queued group.call group.answer (queue.right before group call))
    where
      by : ((number_queued group.call group.answer ≡ None) × (value_queued group.call group.answer ≡ None)) ⊎ Tells (number_queued group.call group.answer) (value_queued group.call group.answer) law.queued
          → weigh h (value_queued group.call group.answer) ≡ spread is_queued_as h 0 law.queued group
      by (inl none) = ap (weigh h) none.1 ∙ sym (spread_none is_queued_as h 0 law.queued group (λ number low. ap (has_number number) none.0))
      by (inr t) =
          let told : is_queued_as t.number group ≡ true = ap (has_number t.number) t.told_is ∙ grind (arith, nat_tests) in
          let range : (1 ≤ t.number) × (t.number ≤ length law.queued) = in_range (length law.queued) t.number (omega (arith, passes_counted (is_queued_as t.number) logs before group call told, queue.once_queued t.number)) in
          let place : t.number ≡ 0 + 1 + (t.number - 1) = omega (arith, range.0) in
          ap (weigh h) t.value_is
          ∙ sym (spread_one is_queued_as h 0 (t.number - 1) law.queued t.item group t.there (λ number. ap (has_number number) t.told_is ∙ ap (λ (n : ℕ). n == number) place))

  taken_weighs : (before : List Group) (group : Group) → IsCall logs before group → weigh h (value_taken group.call group.answer) ≡ spread is_taken_as h 0 (take law.taken law.queued) group
  taken_weighs before group call = by (takes c law.queued group.call group.answer (queue.right before group call))
    where
      by : ((number_taken group.call group.answer ≡ None) × (value_taken group.call group.answer ≡ None)) ⊎ Tells (number_taken group.call group.answer) (value_taken group.call group.answer) law.queued
          → weigh h (value_taken group.call group.answer) ≡ spread is_taken_as h 0 (take law.taken law.queued) group
      by (inl none) = ap (weigh h) none.1 ∙ sym (spread_none is_taken_as h 0 (take law.taken law.queued) group (λ number low. ap (has_number number) none.0))
      by (inr t) =
          let told : is_taken_as t.number group ≡ true = ap (has_number t.number) t.told_is ∙ grind (arith, nat_tests) in
          let range : (1 ≤ t.number) × (t.number ≤ law.taken) = in_range law.taken t.number (omega (arith, passes_counted (is_taken_as t.number) logs before group call told, queue.once_taken t.number)) in
          let place : t.number ≡ 0 + 1 + (t.number - 1) = omega (arith, range.0) in
          ap (weigh h) t.value_is
          ∙ sym (spread_one is_taken_as h 0 (t.number - 1) (take law.taken law.queued) t.item group (get_taken law.taken (t.number - 1) law.queued (omega (arith, range.0, range.1)) ∙ t.there)
          (λ number. ap (has_number number) t.told_is ∙ ap (λ (n : ℕ). n == number) place))

  -- what was queued weighs what was taken and what is left
  pub balances : total (λ group. weigh h (value_queued group.call group.answer)) logs ≡ total (λ group. weigh h (value_taken group.call group.answer)) logs + sum_by (λ item. h item.1) closed.queue
  balances =
      let sent = total_same (λ (group : Group). weigh h (value_queued group.call group.answer)) (spread is_queued_as h 0 law.queued) logs queued_weighs ∙ total_spread is_queued_as h 0 law.queued logs queued_once in
      let taken = total_same (λ (group : Group). weigh h (value_taken group.call group.answer)) (spread is_taken_as h 0 (take law.taken law.queued)) logs taken_weighs ∙ total_spread is_taken_as h 0 (take law.taken law.queued) logs taken_once in
      let left : sum_by (λ (item : ℕ × ℕ). h item.1) closed.queue ≡ sum_by h (drop law.taken law.queued) =
      ap (sum_by (λ (item : ℕ × ℕ). h item.1)) queue.left ∙ numbered_sum h law.taken (drop law.taken law.queued) in
      omega (arith, sent, taken, left, sum_by-take-drop h law.queued law.taken)

-- What hands come to, once their table is closed.

-- each of these has worked with the seat of its number
abbrev pub EachWorked : {E : Type 0} → TableNow → List (Result Hand E) → Type 0
EachWorked {E = E} shared all = (n : ℕ) (d : Result Hand E) → n < shared.layout.config.seats → IsOutcome shared n (get_or all n d)

each_hand : {E : Type 0} (shared : TableNow) (all : List (Result Hand E)) (done : List Hand) → all ≡ map (λ hand. Ok hand) done → length done ≡ shared.layout.config.seats → EachWorked shared all
    → (n : ℕ) (d : Hand) → n < length done → IsHand shared n (get_or done n d)
each_hand {E = E} shared all done is count each n d within =
    subst (IsOutcome shared n)
    (ap (λ (xs : List (Result Hand E)). get_or xs n (Ok d)) is ∙ get_or-map (λ (hand : Hand). let o : Result Hand E = Ok hand in o) done n d (Ok d) within)
    (each n (Ok d) (omega (arith, within, count)))

map_twice : (done : List Hand) → map log_of (map (λ hand. hand.seat) done) ≡ map (λ hand. hand.seat.track.local.log) done
map_twice [] = refl
map_twice (hand ∷ done) = ap (λ (logs : List (List Group)). hand.seat.track.local.log ∷ logs) (map_twice done)

module _ (value : ℕ) where
  sent_sum : (done : List Hand) → ((n : ℕ) (d : Hand) → n < length done → Moves (log_of (get_or done n d).seat) (get_or done n d).sent.items (get_or done n d).taken.items)
      → times_in value (map (λ hand. hand.sent) done) ≡ total (λ group. weigh (λ item. cond (item == value) 1 0) (value_queued group.call group.answer)) (map (λ hand. hand.seat.track.local.log) done)
  sent_sum [] each = refl
  sent_sum (hand ∷ done) each =
      let first = each 0 hand (omega arith) in
      let here : count_by (λ item. item == value) hand.sent.items ≡ sum_by (λ (item : ℕ). cond (item == value) 1 0) (queued_in (log_of hand.seat)) = ap (sum_by (λ (item : ℕ). cond (item == value) 1 0)) first.sent_is in
      omega (
        arith,
        here,
        weigh_queued (λ (item : ℕ). cond (item == value) 1 0) (log_of hand.seat),
        sent_sum done (λ n d within. each (suc n) d (omega (arith, within))),
        sum_by-cons (λ (list : Vec ℕ Global). count_by (λ item. item == value) list.items) hand.sent (map (λ (x : Hand). x.sent) done),
        sum_by-cons (λ (log : List Group). sum_by (λ (group : Group). weigh (λ (item : ℕ). cond (item == value) 1 0) (value_queued group.call group.answer)) log) (log_of hand.seat) (map (λ (x : Hand). x.seat.track.local.log) done),
      )

  taken_sum : (done : List Hand) → ((n : ℕ) (d : Hand) → n < length done → Moves (log_of (get_or done n d).seat) (get_or done n d).sent.items (get_or done n d).taken.items)
      → times_in value (map (λ hand. hand.taken) done) ≡ total (λ group. weigh (λ item. cond (item == value) 1 0) (value_taken group.call group.answer)) (map (λ hand. hand.seat.track.local.log) done)
  taken_sum [] each = refl
  taken_sum (hand ∷ done) each =
      let first = each 0 hand (omega arith) in
      let here : count_by (λ item. item == value) hand.taken.items ≡ sum_by (λ (item : ℕ). cond (item == value) 1 0) (taken_in (log_of hand.seat)) = ap (sum_by (λ (item : ℕ). cond (item == value) 1 0)) first.taken_is in
      omega (
        arith,
        here,
        weigh_taken (λ (item : ℕ). cond (item == value) 1 0) (log_of hand.seat),
        taken_sum done (λ n d within. each (suc n) d (omega (arith, within))),
        sum_by-cons (λ (list : Vec ℕ Global). count_by (λ item. item == value) list.items) hand.taken (map (λ (x : Hand). x.taken) done),
        sum_by-cons (λ (log : List Group). sum_by (λ (group : Group). weigh (λ (item : ℕ). cond (item == value) 1 0) (value_taken group.call group.answer)) log) (log_of hand.seat) (map (λ (x : Hand). x.seat.track.local.log) done),
      )

-- the seats are the table's
pub hands_of : {E : Type 0} (shared : TableNow) (all : List (Result Hand E)) (seats : List SeatNow) (sent taken : List (Vec ℕ Global)) → length all ≡ shared.layout.config.seats → EachWorked shared all → IsParted all seats sent taken → All (λ seat. IsOf seat shared) seats
hands_of {E = E} shared all seats sent taken count each p =
    let same : length p.done ≡ shared.layout.config.seats = sym (length-map p.done (λ (hand : Hand). let o : Result Hand E = Ok hand in o)) ∙ sym (ap length p.all_done) ∙ count in
    All-same (λ seat. IsOf seat shared) seats (map (λ hand. hand.seat) p.done) p.seats_are
    (All-map (λ seat. IsOf seat shared) (λ (hand : Hand). hand.seat) p.done (λ n d within. (each_hand shared all p.done p.all_done same each n d within).of))

number_of : {E : Type 0} (shared : TableNow) (all : List (Result Hand E)) (done : List Hand) (seats : List SeatNow) (n : ℕ) (d : SeatNow) → all ≡ map (λ hand. Ok hand) done → seats ≡ map (λ hand. hand.seat) done → length done ≡ shared.layout.config.seats → EachWorked shared all → n < length done
    → seat_of (get_or seats n d).track ≡ n
number_of shared all [] seats n d is e count each within = absurd (omega (arith, within))
number_of shared all (hand ∷ done) seats n d is e count each within =
    ap (λ (xs : List SeatNow). seat_of (get_or xs n d).track) e ∙ ap (λ (seat : SeatNow). seat_of seat.track) (get_or-map (λ (k : Hand). k.seat) (hand ∷ done) n hand d within)
    ∙ (each_hand shared all (hand ∷ done) is count each n hand within).number_is

pub hands_balance : {E : Type 0} (shared : TableNow) (all : List (Result Hand E)) (seats : List SeatNow) (sent taken : List (Vec ℕ Global)) (closed : Closed) → length all ≡ shared.layout.config.seats → EachWorked shared all → IsParted all seats sent taken
    → IsLeft shared.layout (map track_of seats) closed → Balances sent taken closed
hands_balance {E = E} shared all seats sent taken closed count each p left value =
    let c = shared.layout.config in
    let same : length p.done ≡ c.seats = sym (length-map p.done (λ (hand : Hand). let o : Result Hand E = Ok hand in o)) ∙ sym (ap length p.all_done) ∙ count in
    let hands = each_hand shared all p.done p.all_done same each in
    let many : length seats ≡ length p.done = ap length p.seats_are ∙ length-map p.done (λ (hand : Hand). hand.seat) in
    let logs = logs_are shared.layout left.items seats (many ∙ same) (λ n d within. number_of shared all p.done seats n d p.all_done p.seats_are same each (omega (arith, within, many))) left.follow ∙ ap (map log_of) p.seats_are ∙ map_twice p.done in
    let law : RunLaw c (map (λ hand. hand.seat.track.local.log) p.done) (closing_of closed) = subst (λ (xs : List (List Group)). RunLaw c xs (closing_of closed)) logs left.run in
    let moves = λ (n : ℕ) (d : Hand) (within : n < length p.done). (hands n d within).moves in
    let balance = balances c (map (λ (hand : Hand). hand.seat.track.local.log) p.done) (closing_of closed) law (λ (item : ℕ). cond (item == value) 1 0) in
    ap (times_in value) p.sent_are ∙ sent_sum value p.done moves ∙ balance
    ∙ ap (λ (n : ℕ). n + times_left value closed) (sym (taken_sum value p.done moves) ∙ ap (times_in value) (sym p.taken_are))
