-- What watchers hear in one piece of work after another.
use Rattle.std.proofs.Common.{◌≡◌, ◌<◌, ◌≤◌, ◌+◌, ℕ, zero, suc, Bool, true, false, List, [], ◌∷◌, ◌++◌, length, take, inl, inr, Some, slice_get, get_or, refl, sym, ap, ◌∙◌, subst, append_assoc, append-nil, arith}
use Rattle.std.proofs.Math.Seq.{take-append-add, take-length}
use Rattle.std.proofs.lemmas.Bool.{cases_lt}
use Rattle.std.proofs.lemmas.Bool.Decides.{nat_tests}
use Rattle.std.proofs.lemmas.List.{take-append-le, take_all}
use Rattle.std.proofs.lemmas.Option.{slice_get_within, slice_get-get_or}
use Rattle.wfe_outside.specs.defs.Entry.{Entry}
use Rattle.wfe_server_out.specs.Heard.{Gains, Hears, HearsSome, Seen, turns_heard}
use Rattle.std.specs.Prelude.{if◌then◌else◌, nat_lt}

-- where one list has an item, another as long has one
pub item_beside : {W : Type 0} (xs ys : List W) (k : ℕ) (v : W) → length ys ≡ length xs → slice_get xs k ≡ Some v → (m : W) × (slice_get ys k ≡ Some m)
item_beside xs ys k v same at = let within : k < length xs = slice_get_within xs k v at in (get_or ys k v, slice_get-get_or ys k v (omega arith))

pub gains_none : {W : Type 0} (stands : W → List Entry → Type 0) (v w : W) → v ≡ w → Gains stands v w []
gains_none stands v w same told s = rw append-nil (subst (λ x. stands x told) same s)

pub gains_along : {W : Type 0} (stands : W → List Entry → Type 0) (v m w : W) (xs ys : List Entry) → Gains stands v m xs → Gains stands m w ys → Gains stands v w (xs ++ ys)
gains_along stands v m w xs ys one two told s = subst (stands w) (append_assoc told xs ys) (two (told ++ xs) (one told s))

pub hears_none : {W : Type 0} (seen : Seen W) (ws : List W) → Hears seen ws ws []
hears_none seen ws = record { count = refl; boxes = refl; each = λ k v w e f. let same : v ≡ w = cc in gains_none seen.stands v w same }

pub hears_along : {W : Type 0} (seen : Seen W) (a b c : List W) (xs ys : List Entry) → Hears seen a b xs → Hears seen b c ys → Hears seen a c (xs ++ ys)
hears_along seen a b c xs ys one two = record {
  count = two.count ∙ one.count;
  boxes = two.boxes ∙ one.boxes;
  each = λ k v w e f.
      let m = item_beside a b k v one.count e in
      gains_along seen.stands v m.0 w xs ys (one.each k v m.0 e m.1) (two.each k m.0 w m.1 f);
}

-- no watcher is ahead
none_ahead : (all k : ℕ) → turns_heard all 0 k ≡ all
none_ahead all k = let less : nat_lt k 0 ≡ false = grind (arith, nat_tests) in rw less refl

-- all of the entries are some
pub hears_out_some : {W : Type 0} (seen : Seen W) (a b : List W) (xs : List Entry) → Hears seen a b xs → HearsSome seen a b xs
hears_out_some seen a b xs one = record {
  count = one.count;
  boxes = one.boxes;
  all = length xs;
  ahead = 0;
  each = λ k v w e f. subst (Gains seen.stands v w) (sym (ap (λ (n : ℕ). take n xs) (none_ahead (length xs) k) ∙ take-length xs)) (one.each k v w e f);
}

pub hears_some_none : {W : Type 0} (seen : Seen W) (ws : List W) (xs : List Entry) → HearsSome seen ws ws xs
hears_some_none seen ws xs = record { count = refl; boxes = refl; all = 0; ahead = 0; each = λ k v w e f. let same : v ≡ w = cc in subst (λ (n : ℕ). Gains seen.stands v w (take n xs)) (sym (none_ahead 0 k)) (gains_none seen.stands v w same) }

turns_after : (before all ahead k : ℕ) → turns_heard (before + all) ahead k ≡ before + turns_heard all ahead k
turns_after before all ahead k = by (nat_lt k ahead)
  where
    by : (first : Bool) → (if first then before + all + 1 else before + all) ≡ before + (if first then all + 1 else all)
    by true = omega arith
    by false = refl

pub hears_then_some : {W : Type 0} (seen : Seen W) (a b c : List W) (xs ys : List Entry) → Hears seen a b xs → HearsSome seen b c ys → HearsSome seen a c (xs ++ ys)
hears_then_some seen a b c xs ys one two = record {
  count = two.count ∙ one.count;
  boxes = two.boxes ∙ one.boxes;
  all = length xs + two.all;
  ahead = two.ahead;
  each = λ k v w e f.
      let m = item_beside a b k v one.count e in
      let n : ℕ = turns_heard two.all two.ahead k in
      subst (λ (turns : ℕ). Gains seen.stands v w (take turns (xs ++ ys))) (sym (turns_after (length xs) two.all two.ahead k))
      (subst (Gains seen.stands v w) (sym (take-append-add xs ys n)) (gains_along seen.stands v m.0 w xs (take n ys) (one.each k v m.0 e m.1) (two.each k m.0 w m.1 f)));
}

few_turns : (all ahead k most : ℕ) → all < most → turns_heard all ahead k ≤ most
few_turns all ahead k most low = by (nat_lt k ahead)
  where
    by : (first : Bool) → (if first then all + 1 else all) ≤ most
    by true = omega (arith, low)
    by false = omega (arith, low)

many_turns : (all ahead k least : ℕ) → least ≤ all → least ≤ turns_heard all ahead k
many_turns all ahead k least high = by (nat_lt k ahead)
  where
    by : (first : Bool) → least ≤ (if first then all + 1 else all)
    by true = omega (arith, high)
    by false = high

pub hears_some_more : {W : Type 0} (seen : Seen W) (a b : List W) (xs ys : List Entry) → HearsSome seen a b xs → HearsSome seen a b (xs ++ ys)
hears_some_more seen a b xs ys part =
    elim (cases_lt part.all (length xs)) [
      | inl low ↦ record {
        count = part.count;
        boxes = part.boxes;
        all = part.all;
        ahead = part.ahead;
        each = λ k v w e f.
            let few : turns_heard part.all part.ahead k ≤ length xs = few_turns part.all part.ahead k (length xs) low in
            subst (Gains seen.stands v w) (sym (take-append-le (turns_heard part.all part.ahead k) xs ys few)) (part.each k v w e f);
      }
      | inr high ↦ record {
        count = part.count;
        boxes = part.boxes;
        all = length xs;
        ahead = 0;
        each = λ k v w e f.
            let whole : take (turns_heard part.all part.ahead k) xs ≡ xs = take_all (turns_heard part.all part.ahead k) xs (many_turns part.all part.ahead k (length xs) (omega (arith, high))) in
            let same : take (turns_heard (length xs) 0 k) (xs ++ ys) ≡ xs =
            ap (λ (n : ℕ). take n (xs ++ ys)) (none_ahead (length xs) k) ∙ take-append-le (length xs) xs ys (omega arith) ∙ take-length xs in
            subst (Gains seen.stands v w) (whole ∙ sym same) (part.each k v w e f);
      }
    ]

take_none : (n : ℕ) (xs : List Entry) → xs ≡ [] → take n xs ≡ []
take_none zero xs none = refl
take_none (suc n) [] none = refl
take_none (suc n) (x ∷ xs) none = absurd (cc)

-- some of no entries are all of them
pub hears_of_none : {W : Type 0} (seen : Seen W) (a b : List W) → HearsSome seen a b [] → Hears seen a b []
hears_of_none seen a b part = record {
  count = part.count;
  boxes = part.boxes;
  each = λ k v w e f. subst (Gains seen.stands v w) (take_none (turns_heard part.all part.ahead k) [] refl) (part.each k v w e f);
}
