-- What one call more makes of a log; and the logs of the seats that were handed in when a table was closed.
use Rattle.std.proofs.Common.{List, [], ap, arith, get_or, length, refl, subst, sym, ℕ, ◌<◌, ◌∙◌, ◌∷◌, ◌≡◌}
use Rattle.std.proofs.lemmas.List.{get_or-map, length-map}
use Rattle.std.proofs.lemmas.List.Elements.{All-from_get_or, All-get_or}
use Rattle.std.proofs.lemmas.List.FromFn.{fill_by_all, get_or-map-range_with_len, length-map-range_with_len}
use Rattle.std.specs.Prelude.{All, map}
use Rattle.wfe_core.specs.Locals.{Group}
use Rattle.wfe_core.specs.words.declared.layout.Layout.{Layout}
use Rattle.wfe_table.specs.Closing.{track_of}
use Rattle.wfe_table.specs.Public.{SeatNow, TableNow, new_seat, new_seats}
use Rattle.wfe_table.specs.all.Runs.{logs_of}
use Rattle.wfe_table.specs.history.History.{Item, world_of}
use Rattle.wfe_table.specs.rule.Rule.{Follows}
use Rattle.wfe_table.specs.rule.Views.{seat_of}
use Rattle.wfe_uses.specs.Counting.{IsFresh}

abbrev pub log_of : SeatNow → List Group
log_of seat = seat.track.local.log

some_seat : (seats : List SeatNow) (n : ℕ) → n < length seats → SeatNow
some_seat [] n within = absurd (omega (arith, within))
some_seat (seat ∷ seats) n within = seat

-- the logs of the World are those of these seats, in number order
pub logs_are : (layout : Layout) (items : List Item) (seats : List SeatNow) → length seats ≡ layout.config.seats → ((n : ℕ) (d : SeatNow) → n < length seats → seat_of (get_or seats n d).track ≡ n) → All (Follows layout items) (map track_of seats)
    → logs_of layout items ≡ map log_of seats
logs_are layout items seats count numbers follow =
    sym
    (fill_by_all (λ seat. ((world_of layout items).seat seat).log) (map log_of seats) layout.config.seats [] (length-map seats log_of ∙ count)
    (λ n below.
    let within : n < length seats = omega (arith, below, count) in
    let d : SeatNow = some_seat seats n within in
    let there : Follows layout items (get_or seats n d).track =
    subst (Follows layout items) (get_or-map track_of seats n d d.track within) (All-get_or (Follows layout items) (map track_of seats) n d.track (omega (arith, within, length-map seats track_of)) follow) in
    get_or-map log_of seats n d [] within ∙ sym (ap (λ l. l.log) there.stands) ∙ ap (λ (k : ℕ). ((world_of layout items).seat k).log) (numbers n d within)))

-- The seats of a new table, by number.
pub count_new : (shared : TableNow) → length (new_seats shared) ≡ shared.layout.config.seats
count_new shared = length-map-range_with_len (new_seat shared) 0 shared.layout.config.seats

pub new_at : (shared : TableNow) (n : ℕ) (d : SeatNow) → n < shared.layout.config.seats → get_or (new_seats shared) n d ≡ new_seat shared n
new_at shared n d within = get_or-map-range_with_len (new_seat shared) 0 shared.layout.config.seats n n d within (omega arith)

-- none of them has made a call
pub all_fresh : (shared : TableNow) (seats : List SeatNow) → seats ≡ new_seats shared → All (IsFresh shared) seats
all_fresh shared seats e =
    subst (All (IsFresh shared)) (sym e)
    (All-from_get_or (IsFresh shared) (new_seats shared) (new_seat shared 0) (λ i within.
    let below : i < shared.layout.config.seats = omega (arith, within, count_new shared) in
    subst (IsFresh shared) (sym (new_at shared i (new_seat shared 0) below)) (record { of = record { table = refl; layout = refl }; log = refl })))
