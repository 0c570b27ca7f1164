-- Seats that are taken off the end of a list in reverse come in its order.
use Rattle.std.proofs.Common.{All, List, [], ap, arith, drop, length, subst, sym, take, ℕ, ◌++◌, ◌∙◌, ◌∷◌, ◌≡◌, ◌≤◌}
use Rattle.std.proofs.lemmas.List.{append-nil, append_assoc, drop_all, length-reverse, reverse-append, reverse-reverse, take_all}
use Rattle.std.proofs.lemmas.List.Elements.{All-append, All-cons, All-head, All-nil, All-tail}
use Rattle.std.specs.Prelude.{map, reverse}
use Rattle.wfe_drive_rule.specs.Views.{Track}
use Rattle.wfe_table.specs.Closing.{track_of}
use Rattle.wfe_table.specs.Public.{SeatNow}

pub all_reverse : (P : SeatNow → Type 0) (seats : List SeatNow) → All P seats → All P (reverse seats)
all_reverse P [] h = All-nil P
all_reverse P (seat ∷ seats) h =
    subst (All P) (sym (reverse-append (seat ∷ []) seats))
    (All-append P (reverse seats) (seat ∷ []) (all_reverse P seats (All-tail P seat seats h)) (All-cons P seat [] (All-head P seat seats h) (All-nil P)))

-- the last of a list in reverse is the first
last_first : (left : List SeatNow) (seat : SeatNow) → map track_of (reverse (left ++ seat ∷ [])) ≡ seat.track ∷ map track_of (reverse left)
last_first left seat = ap (map track_of) (reverse-append left (seat ∷ []))

pub first_taken : (seats left : List SeatNow) (seat : SeatNow) → reverse seats ≡ left ++ seat ∷ [] → seat.track ∷ map track_of (reverse left) ≡ map track_of seats
first_taken seats left seat e = sym (last_first left seat) ∙ ap (λ (xs : List SeatNow). map track_of (reverse xs)) (sym e) ∙ ap (map track_of) (reverse-reverse seats)

pub next_taken : (tracks all : List Track) (seats left : List SeatNow) (seat : SeatNow) → tracks ++ map track_of (reverse seats) ≡ all → seats ≡ left ++ seat ∷ [] → (tracks ++ seat.track ∷ []) ++ map track_of (reverse left) ≡ all
next_taken tracks all seats left seat h e =
    append_assoc tracks (seat.track ∷ []) (map track_of (reverse left)) ∙ ap (λ (xs : List Track). tracks ++ xs) (sym (last_first left seat) ∙ ap (λ (xs : List SeatNow). map track_of (reverse xs)) (sym e)) ∙ h

-- a list that was written back in reverse
pub written_back : (seats reversed : List SeatNow) (count : ℕ) → reversed ≡ reverse seats → length seats ≤ count → take count (reversed ++ drop (length reversed) seats) ≡ reverse seats
written_back seats reversed count e most =
    let same : length reversed ≡ length seats = ap length e ∙ length-reverse seats in
    let none : drop (length reversed) seats ≡ [] = ap (λ (n : ℕ). drop n seats) same ∙ drop_all (length seats) seats (omega arith) in
    ap (λ (xs : List SeatNow). take count (reversed ++ xs)) none ∙ ap (take count) (append-nil reversed) ∙ take_all count reversed (omega (arith, same, most)) ∙ e
