-- What is so of a handle by its state, and of a call by what the handle has.
use Rattle.std.proofs.Common.{MatchOption, None, Option, Some, arith, refl, subst, sym, ℕ, ◌≡◌, ◌≢◌}
use Rattle.std.proofs.lemmas.Option.{none-some}
use Rattle.wfe_table_end.specs.declared.closed.Closed.{Closed}
use Rattle.wfe_c.specs.Place.{IsMarked, closed_in, seat_in}
use Rattle.wfe_c.specs.declared.handle.SeatHandle.{SeatHandle}
use Rattle.wfe_c.specs.declared.joined.Joined.{Joined}
use Rattle.wfe_c.specs.declared.kept.Kept.TheVariants as kepts

pub absent : (handle : SeatHandle) → handle.state ≢ 1 → seat_in handle.place.inside ≡ None
absent handle apart = handle.marked.absent apart

pub unclosed : (handle : SeatHandle) → handle.state ≢ 4 → closed_in handle.place.inside ≡ None
unclosed handle apart = handle.marked.unclosed apart

-- a handle that has this is marked by its state, and one that has nothing by any but these
pub marked_seat : (joined : Joined) → IsMarked 1 (Some (kepts.Seated joined))
marked_seat joined = record { there = λ _ none. none-some joined (sym none); absent = λ apart. absurd (apart refl); closed = λ is. absurd (omega (arith, is)); unclosed = λ _. refl }

pub marked_closed : (closed : Closed) → IsMarked 4 (Some (kepts.Closed closed))
marked_closed closed = record { there = λ is. absurd (omega (arith, is)); absent = λ _. refl; closed = λ _ none. none-some closed (sym none); unclosed = λ apart. absurd (apart refl) }

pub unmarked : (state : ℕ) → state ≢ 1 → state ≢ 4 → IsMarked state None
unmarked state no_seat not_ended = record { there = λ is. absurd (no_seat is); absent = λ _. refl; closed = λ is. absurd (not_ended is); unclosed = λ _. refl }

pub by_some : {X : Type 0} (P : Type 0) (Q : X → Type 0) (inside : Option X) (x : X) → inside ≡ Some x → Q x → MatchOption inside P Q
by_some {X} P Q inside x is q = subst (λ (it : Option X). MatchOption it P Q) (sym is) q
