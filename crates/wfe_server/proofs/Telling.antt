-- The events of a run, told one after another.
use Rattle.std.proofs.Common.{List, [], ap, arith, drop, get_or, length, length-take-le, sym, take, take-append-drop, ℕ, ◌++◌, ◌+◌, ◌<◌, ◌∙◌, ◌∷◌, ◌≡◌}
use Rattle.std.proofs.lemmas.List.{append-nil, append_assoc, drop_more, get_or-map, length-map, take_more}
use Rattle.std.proofs.lemmas.Option.{slice_get-get_or}
use Rattle.std.specs.declared.alloc.Global.{Global}
use Rattle.std.specs.declared.vec.Vec.{Vec}
use Rattle.wfe_core.specs.defs.declared.event.Event.{Event}
use Rattle.wfe_outside.specs.defs.Entry.{entry}
use Rattle.wfe_server_out.proofs.Stops.{split_after}
use Rattle.wfe_server_out.proofs.Texts.{told_pieces-more, told_pieces-split}
use Rattle.wfe_server_out.specs.Pieces.{Piece, Told, told_pieces}
use Rattle.wfe_server_lines.specs.Scripted.{lists_in}
use Rattle.wfe_server.specs.Text.{seat_pieces}

-- the next event of a seat
pub event_more : (seat : ℕ) (events : List Event) (k : ℕ) (d : Event) → k < length events → told_pieces seat (take (k + 1) events) ≡ told_pieces seat (take k events) ++ Told (entry seat (get_or events k d)) ∷ []
event_more seat events k d within = told_pieces-more seat events k (get_or events k d) (slice_get-get_or events k d within)

pub event_split : (seat : ℕ) (events : List Event) (k : ℕ) (d : Event) → k < length events
    → told_pieces seat events ≡ (told_pieces seat (take k events) ++ Told (entry seat (get_or events k d)) ∷ []) ++ told_pieces seat (drop (k + 1) events)
event_split seat events k d within = split_after _ _ _ _ (told_pieces-split seat events k (get_or events k d) (slice_get-get_or events k d within))

-- the events of some seats, and of those after them
seat_pieces-append : (seat count : ℕ) (xs ys : List (List Event)) → seat + length xs ≡ count → seat_pieces seat (xs ++ ys) ≡ seat_pieces seat xs ++ seat_pieces count ys
seat_pieces-append seat count [] ys e = ap (λ (n : ℕ). seat_pieces n ys) (omega (arith, e))
seat_pieces-append seat count (x ∷ xs) ys e =
    ap (λ (out : List Piece). told_pieces seat x ++ out) (seat_pieces-append (seat + 1) count xs ys (omega (arith, e)))
    ∙ sym (append_assoc (told_pieces seat x) (seat_pieces (seat + 1) xs) (seat_pieces count ys))

length_taken : (xs : List (List Event)) (k : ℕ) → k < length xs → 0 + length (take k xs) ≡ k
length_taken xs k within = omega (arith, length-take-le k xs)

-- the next seat
pub seat_more : (seats : List (List Event)) (k : ℕ) (d : List Event) → k < length seats → seat_pieces 0 (take (k + 1) seats) ≡ seat_pieces 0 (take k seats) ++ told_pieces k (get_or seats k d)
seat_more seats k d within =
    ap (seat_pieces 0) (take_more seats k d within) ∙ seat_pieces-append 0 k (take k seats) (get_or seats k d ∷ []) (length_taken seats k within)
    ∙ ap (λ (out : List Piece). seat_pieces 0 (take k seats) ++ out) (append-nil (told_pieces k (get_or seats k d)))

pub seat_split : (seats : List (List Event)) (k : ℕ) (d : List Event) → k < length seats
    → seat_pieces 0 seats ≡ (seat_pieces 0 (take k seats) ++ told_pieces k (get_or seats k d)) ++ seat_pieces (k + 1) (drop (k + 1) seats)
seat_split seats k d within =
    ap (seat_pieces 0) (sym (take-append-drop k seats) ∙ ap (λ (rest : List (List Event)). take k seats ++ rest) (drop_more seats k d within))
    ∙ seat_pieces-append 0 k (take k seats) (get_or seats k d ∷ drop (k + 1) seats) (length_taken seats k within)
    ∙ sym (append_assoc (seat_pieces 0 (take k seats)) (told_pieces k (get_or seats k d)) (seat_pieces (k + 1) (drop (k + 1) seats)))

-- the events of one of the seats
pub seat_events : (seats : List (Vec Event Global)) (k : ℕ) (events : List Event) (v : Vec Event Global) → k < length seats → v ≡ get_or seats k v → events ≡ v.items → events ≡ get_or (lists_in seats) k []
seat_events seats k events v within at is = is ∙ ap (λ (w : Vec Event Global). w.items) at ∙ sym (get_or-map (λ (w : Vec Event Global). w.items) seats k v [] within)

pub seat_within : (seats : List (Vec Event Global)) (k : ℕ) → k < length seats → k < length (lists_in seats)
seat_within seats k within = omega (arith, within, length-map seats (λ (w : Vec Event Global). w.items))
