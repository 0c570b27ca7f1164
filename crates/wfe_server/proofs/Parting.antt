-- What workers made, taken apart one after another.
use Rattle.std.proofs.Common.{List, Ok, Result, [], ap, arith, drop, get_or, length, refl, subst, sym, take, ℕ, ◌++◌, ◌<◌, ◌∙◌, ◌∷◌, ◌≡◌, ◌≤◌}
use Rattle.std.proofs.lemmas.List.{append-nil, append_assoc, drop_all, get_or-map, length-map, length-reverse, map-append, reverse-append, reverse-reverse, take_all}
use Rattle.std.proofs.lemmas.List.Elements.{All-from_get_or, All-get_or}
use Rattle.std.proofs.lemmas.List.FromFn.{get_or-map-range_with_len, length-map-range_with_len}
use Rattle.std.specs.Prelude.{All, map, reverse}
use Rattle.std.specs.declared.alloc.Global.{Global}
use Rattle.std.specs.declared.vec.Vec.{Vec}
use Rattle.wfe_core.specs.defs.declared.call.Call.{Call}
use Rattle.wfe_core.specs.defs.declared.event.Event.{Event}
use Rattle.wfe_core.specs.words.declared.config.Config.{Config}
use Rattle.wfe_table.specs.Public.{SeatNow, TableNow, new_seat, new_seats}
use Rattle.wfe_server_lines.specs.Scripted.{lists_in}
use Rattle.wfe_server_lines.specs.Fitting.{AllBegin, MayBegin}
use Rattle.wfe_server.specs.Parted.{IsParted, IsReady}
use Rattle.wfe_server.specs.declared.worker.Worked.{Worked}

-- a list that was written back in reverse
pub written_back : {X : Type 0} (xs reversed : List X) (count : ℕ) → reversed ≡ reverse xs → length xs ≤ count → take count (reversed ++ drop (length reversed) xs) ≡ reverse xs
written_back {X = X} xs reversed count e most =
    let same : length reversed ≡ length xs = ap length e ∙ length-reverse xs in
    let none : drop (length reversed) xs ≡ [] = ap (λ (n : ℕ). drop n xs) same ∙ drop_all (length xs) xs (omega arith) in
    ap (λ (ys : List X). take count (reversed ++ ys)) none ∙ ap (take count) (append-nil reversed) ∙ take_all count reversed (omega (arith, same, most)) ∙ e

-- the first ones are taken apart, and the others are left, the last one first
pub record IsLeftOf {E : Type 0} (all left : List (Result Worked E)) (seats : List SeatNow) (events : List (Vec Event Global)) : Type 0 where
  pub done : List Worked
  pub split : all ≡ map (λ worked. Ok worked) done ++ reverse left
  pub seats_are : seats ≡ map (λ worked. worked.seat) done
  pub events_are : events ≡ map (λ worked. worked.events) done

pub parted_none : {E : Type 0} (all left : List (Result Worked E)) → left ≡ reverse all → IsLeftOf all left [] []
parted_none all left e = record { done = []; split = sym (ap reverse e ∙ reverse-reverse all); seats_are = refl; events_are = refl }

pub parted_more : {E : Type 0} (all left less : List (Result Worked E)) (outcome : Result Worked E) (worked : Worked) (seats more : List SeatNow) (events longer : List (Vec Event Global))
    → IsLeftOf all left seats events → left ≡ less ++ outcome ∷ [] → outcome ≡ Ok worked → more ≡ seats ++ worked.seat ∷ [] → longer ≡ events ++ worked.events ∷ [] → IsLeftOf all less more longer
parted_more {E = E} all left less outcome worked seats more events longer i popped ok s e =
    let oks : List Worked → List (Result Worked E) = map (λ w. Ok w) in
    let last : List Worked = worked ∷ [] in
    record {
      done = i.done ++ last;
      split =
          i.split ∙ ap (λ (xs : List (Result Worked E)). oks i.done ++ xs) (ap reverse popped ∙ reverse-append less (outcome ∷ []) ∙ ap (λ (o : Result Worked E). o ∷ reverse less) ok)
          ∙ sym (append_assoc (oks i.done) (Ok worked ∷ []) (reverse less)) ∙ ap (λ (xs : List (Result Worked E)). xs ++ reverse less) (sym (map-append (λ w. Ok w) i.done last));
      seats_are = s ∙ ap (λ (xs : List SeatNow). xs ++ worked.seat ∷ []) i.seats_are ∙ sym (map-append (λ (w : Worked). w.seat) i.done last);
      events_are = e ∙ ap (λ (xs : List (Vec Event Global)). xs ++ worked.events ∷ []) i.events_are ∙ sym (map-append (λ (w : Worked). w.events) i.done last);
    }

pub parted_all : {E : Type 0} (all left : List (Result Worked E)) (seats : List SeatNow) (events : List (Vec Event Global)) → IsLeftOf all left seats events → left ≡ [] → IsParted all seats events
parted_all {E = E} all left seats events i none = record {
  done = i.done;
  all_done = i.split ∙ ap (λ (xs : List (Result Worked E)). map (λ w. Ok w) i.done ++ reverse xs) none ∙ append-nil (map (λ w. Ok w) i.done);
  seats_are = i.seats_are;
  events_are = i.events_are;
}

-- the seats of a new table, by number
pub count_new : (shared : TableNow) → length (new_seats shared) ≡ shared.layout.config.seats
count_new shared = length-map-range_with_len (new_seat shared) 0 shared.layout.config.seats

pub new_at : (shared : TableNow) (n : ℕ) (d : SeatNow) → n < shared.layout.config.seats → get_or (new_seats shared) n d ≡ new_seat shared n
new_at shared n d within = get_or-map-range_with_len (new_seat shared) 0 shared.layout.config.seats n n d within (omega arith)

-- the calls of a seat's script may begin
pub script_fits : (config : Config) (scripts : List (Vec Call Global)) (seat : ℕ) (script : List Call) (vector : Vec Call Global) → seat < length scripts → vector ≡ get_or scripts seat vector → script ≡ vector.items
    → MayBegin config (get_or (lists_in scripts) seat []) → MayBegin config script
script_fits config scripts seat script vector within at is fits =
    let items_of : Vec Call Global → List Call = λ v. v.items in
    subst (MayBegin config) (sym (is ∙ ap items_of at ∙ sym (get_or-map items_of scripts seat vector [] within))) fits

-- each has its script
pub all_ready : (shared : TableNow) (seats : List SeatNow) (scripts : List (Vec Call Global)) → seats ≡ new_seats shared → length scripts ≡ shared.layout.config.seats → AllBegin shared.layout.config (lists_in scripts)
    → All (IsReady shared scripts) seats
all_ready shared seats scripts e n fits =
    subst (All (IsReady shared scripts)) (sym e)
    (All-from_get_or (IsReady shared scripts) (new_seats shared) (new_seat shared 0) (λ i within.
    let below : i < shared.layout.config.seats = omega (arith, within, count_new shared) in
    subst (IsReady shared scripts) (sym (new_at shared i (new_seat shared 0) below)) (record {
      of = record { table = refl; layout = refl };
      script = omega (arith, below, n);
      fits = All-get_or (MayBegin shared.layout.config) (lists_in scripts) i [] (omega (arith, below, n, length-map scripts (λ (v : Vec Call Global). v.items))) fits;
    })))
