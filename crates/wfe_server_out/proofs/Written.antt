-- What one write after another says of a sink.
use Rattle.std.proofs.Common.{ℕ, ◌≡◌, ◌++◌, ◌∙◌, [], Bool, List, Option, Result, Ok, Err, ap, append-nil, append_assoc, arith, refl, subst, sym}
use Rattle.std.proofs.KnownBytes.{Appends-nil, Appends-trans}
use Rattle.wfe_outside.proofs.Rising.{rose_earlier}
use Rattle.wfe_server_out.specs.Emits.{Writes}
use Rattle.wfe_server_out.proofs.Texts.{AppendsSome-first, AppendsSome-then}

-- nothing is written
pub writes_none : {K T E : Type 0} {written : K → Option (List ℕ)} {faults : K → ℕ} {may_stand : Bool} {x : T} {sink : K} → Writes {E = E} written faults may_stand (Ok x) sink sink []
writes_none = record { wrote = Appends-nil _; some = tt; later = omega arith; cause = tt }

-- the same by another name of the text
pub writes_of : {K T E : Type 0} {written : K → Option (List ℕ)} {faults : K → ℕ} {may_stand : Bool} {result : Result T E} {old new : K} {xs ys : List ℕ} → xs ≡ ys →
    Writes written faults may_stand result old new xs → Writes written faults may_stand result old new ys
writes_of same one = subst (Writes _ _ _ _ _ _) same one

-- with another value
pub writes_ok : {K T E U F : Type 0} {written : K → Option (List ℕ)} {faults : K → ℕ} {may_stand : Bool} {x : T} {old new : K} {text : List ℕ} (y : U) →
    Writes {E = E} written faults may_stand (Ok x) old new text → Writes {E = F} written faults may_stand (Ok y) old new text
writes_ok y one = record { wrote = one.wrote; some = tt; later = one.later; cause = tt }

-- a failure that is handed on
pub writes_fault : {K T E U F : Type 0} {written : K → Option (List ℕ)} {faults : K → ℕ} {may_stand : Bool} {result : Result U F} {failed : E} {fault : F} {old new : K} {text : List ℕ} → result ≡ Err fault →
    Writes {T = T} written faults may_stand (Err failed) old new text → Writes written faults may_stand result old new text
writes_fault came one = rw came (record { wrote = tt; some = one.some; later = one.later; cause = one.cause })

-- a write fails before more is written
pub writes_more : {K T E : Type 0} {written : K → Option (List ℕ)} {faults : K → ℕ} {may_stand : Bool} {failed : E} {old new : K} {xs : List ℕ} (ys : List ℕ) →
    Writes {T = T} written faults may_stand (Err failed) old new xs → Writes {T = T} written faults may_stand (Err failed) old new (xs ++ ys)
writes_more ys one = record { wrote = tt; some = AppendsSome-first _ _ _ ys one.some; later = one.later; cause = one.cause }

one_then : {K T E U F : Type 0} {written : K → Option (List ℕ)} {faults : K → ℕ} {may_stand : Bool} {x : T} (result : Result U F) {old mid new : K} {xs ys : List ℕ} →
    Writes {E = E} written faults may_stand (Ok x) old mid xs → Writes written faults may_stand result mid new ys → Writes written faults may_stand result old new (xs ++ ys)
one_then (Ok y) one two = record { wrote = Appends-trans _ _ _ _ _ one.wrote two.wrote; some = tt; later = omega (arith, one.later, two.later); cause = tt }
one_then (Err failed) one two = record {
  wrote = tt;
  some = AppendsSome-then _ _ _ _ _ one.wrote two.some;
  later = omega (arith, one.later, two.later);
  cause = rose_earlier _ _ _ _ one.later two.cause;
}

-- one after the other
pub writes_then : {K T E U F : Type 0} {written : K → Option (List ℕ)} {faults : K → ℕ} {may_stand : Bool} {x : T} {result : Result U F} {old mid new : K} {xs ys : List ℕ} →
    Writes {E = E} written faults may_stand (Ok x) old mid xs → Writes written faults may_stand result mid new ys → Writes written faults may_stand result old new (xs ++ ys)
writes_then one two = one_then _ one two

-- of all bytes these are left, and a front of them is written
pub record Wrote {K : Type 0} (written : K → Option (List ℕ)) (faults : K → ℕ) (may_stand : Bool) (old new : K) (all rest : List ℕ) : Type 0 where
  pub front : List ℕ
  pub split : all ≡ front ++ rest
  pub writes : Writes {T = Unit {0}} {E = Unit {0}} written faults may_stand (Ok tt) old new front

pub wrote_none : {K : Type 0} {written : K → Option (List ℕ)} {faults : K → ℕ} {may_stand : Bool} {sink : K} (all : List ℕ) → Wrote written faults may_stand sink sink all all
wrote_none all = record { front = []; split = refl; writes = writes_none }

-- the next of them are written
pub wrote_more : {K T E : Type 0} {written : K → Option (List ℕ)} {faults : K → ℕ} {may_stand : Bool} {x : T} {old mid new : K} {all rest here more : List ℕ} → rest ≡ here ++ more →
    Wrote written faults may_stand old mid all rest → Writes {E = E} written faults may_stand (Ok x) mid new here → Wrote written faults may_stand old new all more
wrote_more next so_far one = record {
  front = so_far.front ++ _;
  split = so_far.split ∙ ap (λ (bytes : List ℕ). so_far.front ++ bytes) next ∙ sym (append_assoc so_far.front _ _);
  writes = writes_ok tt (writes_then so_far.writes one);
}

-- writing the next of them fails
pub wrote_fails : {K T E U F : Type 0} {written : K → Option (List ℕ)} {faults : K → ℕ} {may_stand : Bool} {result : Result U F} {failed : E} {fault : F} {old mid new : K} {all rest here : List ℕ} (more : List ℕ) → result ≡ Err fault → rest ≡ here ++ more →
    Wrote written faults may_stand old mid all rest → Writes {T = T} written faults may_stand (Err failed) mid new here → Writes written faults may_stand result old new all
wrote_fails more came next so_far one =
    writes_fault came (writes_of (sym (so_far.split ∙ ap (λ (bytes : List ℕ). so_far.front ++ bytes) next)) (writes_then so_far.writes (writes_more more one)))

-- none are left
pub wrote_all : {K T E : Type 0} {written : K → Option (List ℕ)} {faults : K → ℕ} {may_stand : Bool} {x : T} {old new : K} {all rest : List ℕ} → rest ≡ [] →
    Wrote written faults may_stand old new all rest → Writes {E = E} written faults may_stand (Ok x) old new all
wrote_all none so_far = writes_of (sym (so_far.split ∙ ap (λ (bytes : List ℕ). so_far.front ++ bytes) none ∙ append-nil so_far.front)) (writes_ok _ so_far.writes)
