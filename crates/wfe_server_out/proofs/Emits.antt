-- What one piece of work after another says of a sink and watchers.
use Rattle.std.proofs.Common.{[], ℕ, ◌≡◌, ◌++◌, Bool, List, Option, Result, Ok, Err, arith, subst, sym}
use Rattle.wfe_outside.proofs.Rising.{rose_earlier}
use Rattle.wfe_server_out.specs.declared.fault.Fault.{Fault}
use Rattle.wfe_server_out.specs.Emits.{Emits, Writes}
use Rattle.wfe_server_out.specs.Heard.{Hears, Seen}
use Rattle.wfe_server_out.specs.Pieces.{Piece, heard_of, text_of}
use Rattle.wfe_server_out.proofs.Hearing.{hears_none}
use Rattle.wfe_server_out.proofs.Sizes.{sized_quiet}
use Rattle.wfe_server_out.proofs.Puts.{puts_along, puts_lines_some, puts_none, puts_some_more, puts_then_some}

-- nothing is done
pub emits_none : {K W T : Type 0} {seen : Seen W} {written : K → Option (List ℕ)} {faults : K → ℕ} {may_stand : Bool} {x : T} {sink : K} {watchers : List W} → Emits seen written faults may_stand (Ok x) sink sink watchers watchers []
emits_none = record { put = puts_none _ _ _; some = tt; later = omega arith; cause = tt }

-- the same by another name of the pieces
pub emits_of : {K W T : Type 0} {seen : Seen W} {written : K → Option (List ℕ)} {faults : K → ℕ} {may_stand : Bool} {result : Result T Fault} {old new : K} {before after : List W} {xs ys : List Piece} → xs ≡ ys →
    Emits seen written faults may_stand result old new before after xs → Emits seen written faults may_stand result old new before after ys
emits_of same one = subst (Emits _ _ _ _ _ _ _ _ _) same one

-- a fault that is handed on
pub emits_fault : {K W T U : Type 0} {seen : Seen W} {written : K → Option (List ℕ)} {faults : K → ℕ} {may_stand : Bool} {result : Result U Fault} {fault : Fault} {old new : K} {before after : List W} {out : List Piece} → result ≡ Err fault →
    Emits {T = T} seen written faults may_stand (Err fault) old new before after out → Emits seen written faults may_stand result old new before after out
emits_fault came one = rw came (record { put = tt; some = one.some; later = one.later; cause = one.cause })

-- a fault comes before more pieces
pub emits_more : {K W T : Type 0} {seen : Seen W} {written : K → Option (List ℕ)} {faults : K → ℕ} {may_stand : Bool} {fault : Fault} {old new : K} {before after : List W} {xs : List Piece} (ys : List Piece) →
    Emits {T = T} seen written faults may_stand (Err fault) old new before after xs → Emits {T = T} seen written faults may_stand (Err fault) old new before after (xs ++ ys)
emits_more ys one = record { put = tt; some = puts_some_more _ _ _ _ _ _ ys one.some; later = one.later; cause = one.cause }

one_then : {K W T U : Type 0} {seen : Seen W} {written : K → Option (List ℕ)} {faults : K → ℕ} {may_stand : Bool} {x : T} (result : Result U Fault) {old mid new : K} {before between after : List W} {xs ys : List Piece} →
    Emits seen written faults may_stand (Ok x) old mid before between xs → Emits seen written faults may_stand result mid new between after ys → Emits seen written faults may_stand result old new before after (xs ++ ys)
one_then (Ok y) one two = record { put = puts_along _ _ _ _ _ _ _ _ _ one.put two.put; some = tt; later = omega (arith, one.later, two.later); cause = tt }
one_then (Err fault) one two = record {
  put = tt;
  some = puts_then_some _ _ _ _ _ _ _ _ _ one.put two.some;
  later = omega (arith, one.later, two.later);
  cause = λ at_write. rose_earlier _ _ _ _ one.later (two.cause at_write);
}

-- one after the other
pub emits_then : {K W T U : Type 0} {seen : Seen W} {written : K → Option (List ℕ)} {faults : K → ℕ} {may_stand : Bool} {x : T} {result : Result U Fault} {old mid new : K} {before between after : List W} {xs ys : List Piece} →
    Emits seen written faults may_stand (Ok x) old mid before between xs → Emits seen written faults may_stand result mid new between after ys → Emits seen written faults may_stand result old new before after (xs ++ ys)
emits_then one two = one_then _ one two

-- pieces are put out, and a fault comes in the next ones, before the rest
pub emits_within : {K W T U V : Type 0} {seen : Seen W} {written : K → Option (List ℕ)} {faults : K → ℕ} {may_stand : Bool} {x : T} {fault : Fault} {result : Result V Fault} {old mid new : K} {before between after : List W} {xs ys out : List Piece} (rest : List Piece) →
    result ≡ Err fault → out ≡ (xs ++ ys) ++ rest → Emits seen written faults may_stand (Ok x) old mid before between xs → Emits {T = U} seen written faults may_stand (Err fault) mid new between after ys → Emits seen written faults may_stand result old new before after out
emits_within rest came split one two = emits_fault came (emits_of (sym split) (emits_more rest (emits_then one two)))

text_only : {K W T : Type 0} {seen : Seen W} {written : K → Option (List ℕ)} {faults : K → ℕ} {may_stand : Bool} (result : Result T Fault) {old new : K} {watchers : List W} {out : List Piece} → heard_of out ≡ [] →
    Writes written faults may_stand result old new (text_of out) → Emits seen written faults may_stand result old new watchers watchers out
text_only (Ok x) {out = out} none one = record { put = record { wrote = one.wrote; heard = subst (Hears _ _ _) (sym none) (hears_none _ _); sized = sized_quiet out none }; some = tt; later = one.later; cause = tt }
text_only (Err fault) none one = record { put = tt; some = puts_lines_some _ _ _ _ _ none one.some; later = one.later; cause = λ at_write. one.cause }

-- a text is written, and no watcher hears of it
pub emits_text : {K W T : Type 0} {seen : Seen W} {written : K → Option (List ℕ)} {faults : K → ℕ} {may_stand : Bool} {result : Result T Fault} {old new : K} {watchers : List W} {out : List Piece} → heard_of out ≡ [] →
    Writes written faults may_stand result old new (text_of out) → Emits seen written faults may_stand result old new watchers watchers out
emits_text none one = text_only _ none one
