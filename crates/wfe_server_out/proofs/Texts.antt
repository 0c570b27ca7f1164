-- The bytes and entries of pieces in a row, and bytes of which a part is written.
use Rattle.std.proofs.Common.{◌≡◌, ◌+◌, ℕ, List, [], ◌∷◌, ◌++◌, length, take, drop, min, slice_get, Option, Some, Result, Ok, Err, OnErr, IfErr, refl, sym, ap, ◌∙◌, subst, append_assoc, arith, take-append-drop}
use Rattle.std.specs.Io.KnownBytes.{Appends, Keeps}
use Rattle.std.proofs.KnownBytes.{Appends-trans, Appends-kept}
use Rattle.std.proofs.Math.Seq.{take-append-add, take-length}
use Rattle.std.proofs.lemmas.List.{take-append-le, take_min, take_more}
use Rattle.std.proofs.lemmas.Option.{slice_get_within, get_or_from_slice_get}
use Rattle.wfe_outside.specs.defs.Entry.{entry}
use Rattle.wfe_outside.specs.defs.declared.event.Event.{Event}
use Rattle.wfe_trace.specs.Record.{event_line}
use Rattle.wfe_server_out.specs.Some.{AppendsSome}
use Rattle.wfe_server_out.specs.Pieces.{Piece, Text, Told, text_of, heard_of, told_pieces}

pub text_of-append : (xs ys : List Piece) → text_of (xs ++ ys) ≡ text_of xs ++ text_of ys
text_of-append [] ys = refl
text_of-append (Text bytes ∷ xs) ys = ap (λ (t : List ℕ). bytes ++ t) (text_of-append xs ys) ∙ sym (append_assoc bytes (text_of xs) (text_of ys))
text_of-append (Told x ∷ xs) ys =
    ap (λ (t : List ℕ). event_line x.seat x.event ++ t) (text_of-append xs ys) ∙ sym (append_assoc (event_line x.seat x.event) (text_of xs) (text_of ys))

pub heard_of-append : (xs ys : List Piece) → heard_of (xs ++ ys) ≡ heard_of xs ++ heard_of ys
heard_of-append [] ys = refl
heard_of-append (Text bytes ∷ xs) ys = heard_of-append xs ys
heard_of-append (Told x ∷ xs) ys = ap (λ t. x ∷ t) (heard_of-append xs ys)

take_at : (events : List Event) (k : ℕ) (event : Event) → slice_get events k ≡ Some event → take (k + 1) events ≡ take k events ++ event ∷ []
take_at events k event at =
    take_more events k event (slice_get_within events k event at) ∙ ap (λ x. take k events ++ x ∷ []) (get_or_from_slice_get events k event event at)

pub told_pieces-append : (seat : ℕ) (xs ys : List Event) → told_pieces seat (xs ++ ys) ≡ told_pieces seat xs ++ told_pieces seat ys
told_pieces-append seat [] ys = refl
told_pieces-append seat (x ∷ xs) ys = ap (λ t. Told (entry seat x) ∷ t) (told_pieces-append seat xs ys)

-- one event more
pub told_pieces-more : (seat : ℕ) (events : List Event) (k : ℕ) (event : Event) → slice_get events k ≡ Some event →
    told_pieces seat (take (k + 1) events) ≡ told_pieces seat (take k events) ++ Told (entry seat event) ∷ []
told_pieces-more seat events k event at =
    ap (told_pieces seat) (take_at events k event at) ∙ told_pieces-append seat (take k events) (event ∷ [])

-- the events before one, this one, and the rest
pub told_pieces-split : (seat : ℕ) (events : List Event) (k : ℕ) (event : Event) → slice_get events k ≡ Some event →
    told_pieces seat events ≡ told_pieces seat (take k events) ++ Told (entry seat event) ∷ told_pieces seat (drop (k + 1) events)
told_pieces-split seat events k event at =
    ap (told_pieces seat) (sym (take-append-drop (k + 1) events) ∙ ap (λ (t : List Event). t ++ drop (k + 1) events) (take_at events k event at) ∙ append_assoc (take k events) (event ∷ []) (drop (k + 1) events))
    ∙ told_pieces-append seat (take k events) (event ∷ drop (k + 1) events)

-- all of it is a part
pub AppendsSome-all : (old new : Option (List ℕ)) (bytes : List ℕ) → Appends old new bytes → AppendsSome old new bytes
AppendsSome-all old new bytes wrote = (length bytes, subst (Appends old new) (sym (take-length bytes)) wrote)

-- one write, and then a part of another
pub AppendsSome-then : (old mid new : Option (List ℕ)) (first second : List ℕ) → Appends old mid first → AppendsSome mid new second → AppendsSome old new (first ++ second)
AppendsSome-then old mid new first second one two =
    (length first + two.0, rw (take-append-add first second two.0) (Appends-trans old mid new first (take two.0 second) one two.1))

-- a part of the first write is a part of both
pub AppendsSome-first : (old new : Option (List ℕ)) (first second : List ℕ) → AppendsSome old new first → AppendsSome old new (first ++ second)
AppendsSome-first old new first second part =
    (min part.0 (length first), rw (take-append-le (min part.0 (length first)) first second (omega arith), take_min part.0 first) part.1)

-- a front of the piece was written, and no more
pub AppendsSome-front : (old mid new : Option (List ℕ)) (piece front rest : List ℕ) → piece ≡ front ++ rest → Appends old mid front → Keeps mid new → AppendsSome old new piece
AppendsSome-front old mid new piece front rest split wrote kept =
    (length front, subst (Appends old new) (sym (ap (take (length front)) split ∙ take-append-le (length front) front rest (omega arith) ∙ take-length front)) (Appends-kept old mid new front wrote kept))

-- a front of the piece was written, and then some of the rest
pub Appends-front : (old mid new : Option (List ℕ)) (piece front rest : List ℕ) (n : ℕ) → piece ≡ front ++ rest → Appends old mid front → Appends mid new (take n rest) →
    (longer : List ℕ) × (piece ≡ longer ++ drop n rest) × Appends old new longer
Appends-front old mid new piece front rest n split wrote more =
    (front ++ take n rest, split ∙ ap (λ (xs : List ℕ). front ++ xs) (sym (take-append-drop n rest)) ∙ sym (append_assoc front (take n rest) (drop n rest)), Appends-trans old mid new front (take n rest) wrote more)

pub on_err : {T E : Type 0} {P : Type 0} → (r : Result T E) → P → OnErr r P
on_err (Ok x) p = tt
on_err (Err e) p = p

-- what holds of the error that a call hands on
pub if_err : {T E : Type 0} (P : E → Type 0) (r : Result T E) (e : E) → r ≡ Err e → P e → IfErr r P
if_err P r e same p = rw same p
