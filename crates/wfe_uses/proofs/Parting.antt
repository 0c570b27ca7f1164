-- What is taken apart, one after another, from the end of a list that was reversed.
use Rattle.std.proofs.Common.{List, Ok, Result, [], ap, arith, drop, length, refl, sym, take, ℕ, ◌++◌, ◌+◌, ◌∙◌, ◌∷◌, ◌≡◌, ◌≤◌}
use Rattle.std.proofs.lemmas.List.{append-nil, append_assoc, drop_all, length-reverse, map-append, reverse-append, reverse-reverse, take_all}
use Rattle.std.proofs.lemmas.List.Sums.{sum_by_push}
use Rattle.std.specs.Prelude.{map, reverse, sum_by}
use Rattle.std.specs.declared.alloc.Global.{Global}
use Rattle.std.specs.declared.vec.Vec.{Vec}
use Rattle.wfe_table.specs.Public.{SeatNow}
use Rattle.wfe_uses.specs.Counting.{IsSummed}
use Rattle.wfe_uses.specs.Flowing.{IsParted}
use Rattle.wfe_uses.specs.declared.counter.Counter.{Counter}
use Rattle.wfe_uses.specs.declared.pipeline.Hand.{Hand}

-- a list that was written back in reverse
pub written_back : {X : Type 0} (xs reversed : List X) (count : ℕ) → reversed ≡ reverse xs → length xs ≤ count → take count (reversed ++ drop (length reversed) xs) ≡ reverse xs
written_back {X = X} xs reversed count e most =
    let same : length reversed ≡ length xs = ap length e ∙ length-reverse xs in
    let none : drop (length reversed) xs ≡ [] = ap (λ (n : ℕ). drop n xs) same ∙ drop_all (length xs) xs (omega arith) in
    ap (λ (ys : List X). take count (reversed ++ ys)) none ∙ ap (take count) (append-nil reversed) ∙ take_all count reversed (omega (arith, same, most)) ∙ e

-- the first ones are taken apart, and the others are left, the last one first
pub record IsSummedOf (all left : List Counter) (seats : List SeatNow) (total : ℕ) : Type 0 where
  pub done : List Counter
  pub split : all ≡ done ++ reverse left
  pub summed : IsSummed done seats total

pub summed_none : (all left : List Counter) → left ≡ reverse all → IsSummedOf all left [] 0
summed_none all left e = record { done = []; split = sym (ap reverse e ∙ reverse-reverse all); summed = record { seats_are = refl; total_is = refl } }

pub summed_more : (all left less : List Counter) (counter : Counter) (seats more : List SeatNow) (total sum : ℕ) → IsSummedOf all left seats total → left ≡ less ++ counter ∷ [] → more ≡ seats ++ counter.seat ∷ [] → sum ≡ total + counter.counts
    → IsSummedOf all less more sum
summed_more all left less counter seats more total sum i popped s t = record {
  done = i.done ++ counter ∷ [];
  split = i.split ∙ ap (λ (xs : List Counter). i.done ++ xs) (ap reverse popped ∙ reverse-append less (counter ∷ [])) ∙ sym (append_assoc i.done (counter ∷ []) (reverse less));
  summed = record {
    seats_are = s ∙ ap (λ (xs : List SeatNow). xs ++ counter.seat ∷ []) i.summed.seats_are ∙ sym (map-append (λ (c : Counter). c.seat) i.done (counter ∷ []));
    total_is = t ∙ ap (λ (n : ℕ). n + counter.counts) i.summed.total_is ∙ sym (sum_by_push (λ (c : Counter). c.counts) i.done counter);
  };
}

pub summed_all : (all left : List Counter) (seats : List SeatNow) (total : ℕ) → IsSummedOf all left seats total → left ≡ [] → IsSummed all seats total
summed_all all left seats total i none =
    let whole : all ≡ i.done = i.split ∙ ap (λ (xs : List Counter). i.done ++ reverse xs) none ∙ append-nil i.done in
    record { seats_are = i.summed.seats_are ∙ ap (map (λ (c : Counter). c.seat)) (sym whole); total_is = i.summed.total_is ∙ ap (sum_by (λ (c : Counter). c.counts)) (sym whole) }

pub record IsPartedOf {E : Type 0} (all left : List (Result Hand E)) (seats : List SeatNow) (sent taken : List (Vec ℕ Global)) : Type 0 where
  pub done : List Hand
  pub split : all ≡ map (λ hand. Ok hand) done ++ reverse left
  pub seats_are : seats ≡ map (λ hand. hand.seat) done
  pub sent_are : sent ≡ map (λ hand. hand.sent) done
  pub taken_are : taken ≡ map (λ hand. hand.taken) done

pub parted_none : {E : Type 0} (all left : List (Result Hand E)) → left ≡ reverse all → IsPartedOf all left [] [] []
parted_none all left e = record { done = []; split = sym (ap reverse e ∙ reverse-reverse all); seats_are = refl; sent_are = refl; taken_are = refl }

pub parted_more : {E : Type 0} (all left less : List (Result Hand E)) (outcome : Result Hand E) (hand : Hand) (seats more : List SeatNow) (sent longer_sent taken longer_taken : List (Vec ℕ Global))
    → IsPartedOf all left seats sent taken → left ≡ less ++ outcome ∷ [] → outcome ≡ Ok hand → more ≡ seats ++ hand.seat ∷ [] → longer_sent ≡ sent ++ hand.sent ∷ [] → longer_taken ≡ taken ++ hand.taken ∷ [] → IsPartedOf all less more longer_sent longer_taken
parted_more {E = E} all left less outcome hand seats more sent longer_sent taken longer_taken i popped ok s x y =
    let oks : List Hand → List (Result Hand E) = map (λ h. Ok h) in
    let last : List Hand = hand ∷ [] in
    record {
      done = i.done ++ last;
      split =
          i.split ∙ ap (λ (xs : List (Result Hand E)). oks i.done ++ xs) (ap reverse popped ∙ reverse-append less (outcome ∷ []) ∙ ap (λ (o : Result Hand E). o ∷ reverse less) ok)
          ∙ sym (append_assoc (oks i.done) (Ok hand ∷ []) (reverse less)) ∙ ap (λ (xs : List (Result Hand E)). xs ++ reverse less) (sym (map-append (λ h. Ok h) i.done last));
      seats_are = s ∙ ap (λ (xs : List SeatNow). xs ++ hand.seat ∷ []) i.seats_are ∙ sym (map-append (λ (h : Hand). h.seat) i.done last);
      sent_are = x ∙ ap (λ (xs : List (Vec ℕ Global)). xs ++ hand.sent ∷ []) i.sent_are ∙ sym (map-append (λ (h : Hand). h.sent) i.done last);
      taken_are = y ∙ ap (λ (xs : List (Vec ℕ Global)). xs ++ hand.taken ∷ []) i.taken_are ∙ sym (map-append (λ (h : Hand). h.taken) i.done last);
    }

pub parted_all : {E : Type 0} (all left : List (Result Hand E)) (seats : List SeatNow) (sent taken : List (Vec ℕ Global)) → IsPartedOf all left seats sent taken → left ≡ [] → IsParted all seats sent taken
parted_all {E = E} all left seats sent taken i none = record {
  done = i.done;
  all_done = i.split ∙ ap (λ (xs : List (Result Hand E)). map (λ h. Ok h) i.done ++ reverse xs) none ∙ append-nil (map (λ h. Ok h) i.done);
  seats_are = i.seats_are;
  sent_are = i.sent_are;
  taken_are = i.taken_are;
}
