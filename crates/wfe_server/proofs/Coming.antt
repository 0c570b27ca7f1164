-- The history to which a run comes, by what its workers made and by how its table was closed.
use Rattle.std.proofs.Common.{Bool, List, None, Ok, Result, [], false, true, ap, arith, get_or, length, refl, subst, sym, ℕ, ◌+◌, ◌-◌, ◌<◌, ◌==◌, ◌∙◌, ◌∷◌, ◌≡◌, ◌≤◌}
use Rattle.std.proofs.lemmas.Bool.Decides.{nat_tests}
use Rattle.std.proofs.lemmas.List.{get_or-map, length-map}
use Rattle.std.proofs.lemmas.List.Elements.{All-from_get_or, All-get_or, All-nil, All-same}
use Rattle.std.proofs.lemmas.List.FromFn.{fill_by_all, get_or-map-range_with_len, length-map-range_with_len}
use Rattle.std.proofs.lemmas.Simd.{map-map}
use Rattle.std.specs.List.{range_with_len}
use Rattle.std.specs.Prelude.{All, map}
use Rattle.std.specs.declared.alloc.Global.{Global}
use Rattle.std.specs.declared.vec.Vec.{Vec}
use Rattle.wfe_table.specs.all.RunLaw.{AtClose, call_made, events_of_all}
use Rattle.laws.specs.StructuresAt.{Filling}
use Rattle.wfe_table.specs.all.Runs.{logs_of}
use Rattle.wfe_core.proofs.Ranges.{bounds_of}
use Rattle.wfe_core.specs.Locals.{Group}
use Rattle.wfe_core.specs.defs.declared.call.Call.{Call}
use Rattle.wfe_core.specs.defs.declared.event.Event.{Event}
use Rattle.wfe_core.specs.words.Config.{bad_field}
use Rattle.wfe_core.specs.words.Place.{Place, layout_of}
use Rattle.wfe_core.specs.words.Place.Place.{Bucket as BucketPlace, Row}
use Rattle.wfe_core.specs.words.declared.config.Config.{Config}
use Rattle.wfe_core.specs.words.declared.layout.Layout.{Layout}
use Rattle.wfe_table.specs.closed.Contents.{IsReadable, filling_by, filling_in, filling_of, pair_in}
use Rattle.wfe_table.specs.closed.declared.closed.BucketRow.{BucketRow}
use Rattle.wfe_table.specs.closed.declared.closed.Closed.{Closed}
use Rattle.wfe_table_end.proofs.ClosedTable.{reached_readable}
use Rattle.wfe_table.specs.rule.drive_cells.Memory.{memory}
use Rattle.wfe_table.specs.rule.Rule.{Follows}
use Rattle.wfe_table.specs.rule.Views.{Track, seat_of}
use Rattle.wfe_table.specs.Closing.{IsLeft, closing_of, track_of}
use Rattle.wfe_table.proofs.LeftWords.{closing_is}
use Rattle.wfe_table.specs.Public.{IsOf, SeatNow, TableNow, new_seat}
use Rattle.wfe_server.specs.history.History.{Item, record_of, world_of}
use Rattle.wfe_server.specs.Comes.{Comes, layout_by}
use Rattle.wfe_server_lines.specs.Scripted.{lists_in}
use Rattle.wfe_server.specs.Parted.{IsDone, IsOutcome, IsParted}
use Rattle.wfe_server.specs.declared.worker.Worked.{Worked}

-- each of the workers made the script of its seat
abbrev pub EachDone : {E : Type 0} → TableNow → List (List Call) → List (Result Worked E) → Type 0
EachDone {E = E} shared scripts all = (n : ℕ) (d : Result Worked E) → n < length scripts → IsOutcome shared (new_seat shared n) (get_or scripts n []) (get_or all n d)

-- what is known of the workers once they are taken apart
pub record AreDone (shared : TableNow) (scripts : List (List Call)) (done : List Worked) : Type 0 where
  pub count : length done ≡ length scripts
  pub each : (n : ℕ) (d : Worked) → n < length done → IsDone shared (new_seat shared n) (get_or scripts n []) (get_or done n d)

pub are_done : {E : Type 0} (shared : TableNow) (scripts : List (List Call)) (all : List (Result Worked E)) (done : List Worked) → all ≡ map (λ worked. Ok worked) done → length all ≡ length scripts → EachDone shared scripts all → AreDone shared scripts done
are_done {E = E} shared scripts all done is count each =
    let same : length done ≡ length scripts = sym (length-map done (λ (worked : Worked). let o : Result Worked E = Ok worked in o)) ∙ sym (ap length is) ∙ count in
    record {
      count = same;
      each = λ n d within.
          subst (IsOutcome shared (new_seat shared n) (get_or scripts n []))
          (ap (λ (xs : List (Result Worked E)). get_or xs n (Ok d)) is ∙ get_or-map (λ (worked : Worked). let o : Result Worked E = Ok worked in o) done n d (Ok d) within)
          (each n (Ok d) (omega (arith, within, same)));
    }

all_of_in : (shared : TableNow) (scripts : List (List Call)) (done : List Worked) (d : Worked) → AreDone shared scripts done → All (λ seat. IsOf seat shared) (map (λ worked. worked.seat) done)
all_of_in shared scripts done d a =
    All-from_get_or (λ seat. IsOf seat shared) (map (λ (worked : Worked). worked.seat) done) d.seat
    (λ i within.
    let below : i < length done = omega (arith, within, length-map done (λ (worked : Worked). worked.seat)) in
    subst (λ seat. IsOf seat shared) (sym (get_or-map (λ (worked : Worked). worked.seat) done i d d.seat below)) (a.each i d below).of)

-- the seats are the table's
pub all_of : (shared : TableNow) (scripts : List (List Call)) (done : List Worked) → AreDone shared scripts done → All (λ seat. IsOf seat shared) (map (λ worked. worked.seat) done)
all_of shared scripts [] a = All-nil (λ seat. IsOf seat shared)
all_of shared scripts (worked ∷ done) a = all_of_in shared scripts (worked ∷ done) worked a

-- the log of a seat, in the World to which the history comes
abbrev log_in : Layout → List Item → ℕ → List Group
log_in layout items seat = ((world_of layout items).seat seat).log

-- what a worker has made is what its seat's log is there
record LogIs (layout : Layout) (items : List Item) (script : List Call) (n : ℕ) (worked : Worked) : Type 0 where
  events_are : worked.events.items ≡ events_of_all layout.config.buckets (log_in layout items n)
  calls_are : map call_made (log_in layout items n) ≡ script

log_is : (shared : TableNow) (items : List Item) (script : List Call) (n : ℕ) (worked : Worked) → IsDone shared (new_seat shared n) script worked → Follows shared.layout items worked.seat.track → LogIs shared.layout items script n worked
log_is shared items script n worked d f =
    let made = d.made in
    let number : seat_of worked.seat.track ≡ n = made.seat in
    let there : log_in shared.layout items n ≡ made.log = ap (log_in shared.layout items) (sym number) ∙ ap (λ l. l.log) f.stands ∙ made.grows in
    record {
      events_are = made.told ∙ ap (events_of_all shared.layout.config.buckets) (sym there);
      calls_are = ap (map call_made) there ∙ made.calls;
    }

log_at : (shared : TableNow) (items : List Item) (scripts : List (List Call)) (done : List Worked) → AreDone shared scripts done → All (Follows shared.layout items) (map track_of (map (λ worked. worked.seat) done)) → (n : ℕ) (d : Worked) → n < length done
    → LogIs shared.layout items (get_or scripts n []) n (get_or done n d)
log_at shared items scripts done a follow n d within =
    let tracks = map-map track_of (λ (worked : Worked). worked.seat) done in
    let track : Worked → Track = λ worked. worked.seat.track in
    let here : Follows shared.layout items (get_or (map track done) n d.seat.track) =
    All-get_or (Follows shared.layout items) (map track done) n d.seat.track (omega (arith, within, length-map done track)) (subst (All (Follows shared.layout items)) tracks follow) in
    log_is shared items (get_or scripts n []) n (get_or done n d) (a.each n d within) (subst (Follows shared.layout items) (get_or-map track done n d d.seat.track within) here)

-- one of a list that has some
some_of : {X : Type 0} (xs : List X) (k : ℕ) → k < length xs → X
some_of [] k within = absurd (omega arith)
some_of (x ∷ xs) k within = x

-- a table's run, where the seats that were handed in are those of the workers
comes_at : (shared : TableNow) (scripts : List (List Call)) (done : List Worked) (closed : Closed) → length scripts ≡ shared.layout.config.seats → AreDone shared scripts done → IsLeft shared.layout (map track_of (map (λ worked. worked.seat) done)) closed
    → Comes shared.layout.config scripts (map (λ worked. worked.events.items) done) (closing_of closed)
comes_at shared scripts done closed enough a left =
    let layout = shared.layout in
    let items = left.items in
    let at = log_at shared items scripts done a left.follow in
    let told : Worked → List Event = λ worked. worked.events.items in
    let logs : ℕ → List Group = log_in layout items in
    let joined = map-map (events_of_all layout.config.buckets) logs (range_with_len 0 layout.config.seats) in
    let made = map-map (λ (log : List Group). map call_made log) logs (range_with_len 0 layout.config.seats) in
    record {
      run = record {
        logs = logs_of layout items;
        texts =
            fill_by_all (λ k. events_of_all layout.config.buckets (logs k)) (map told done) layout.config.seats [] (length-map done told ∙ a.count ∙ enough)
            (λ k within. let below : k < length done = omega (arith, within, a.count, enough) in let d = some_of done k below in get_or-map told done k d [] below ∙ (at k d below).events_are)
            ∙ sym joined;
        scripts_are =
            made
            ∙ sym (fill_by_all (λ k. map call_made (logs k)) scripts layout.config.seats [] enough
            (λ k within. let below : k < length done = omega (arith, within, a.count, enough) in sym (at k (some_of done k below) below).calls_are));
        law = left.run;
      };
      order = left.order;
      items = items;
      at_rest = record { valid = left.reaches.whole.valid; idle = left.idle };
      logs_are = refl;
      closed_is = closing_is layout (record_of layout items) closed left.closed_is;
    }

-- a row that is read has no more pairs than a row has room for
filling_fits_in : (layout : Layout) (mem : Place → ℕ) (bucket link : ℕ) (null : Bool) → IsReadable layout mem → mem (BucketPlace bucket) ≡ link → (link == 0) ≡ null → length (filling_by mem link).pairs ≤ layout.config.pairs
filling_fits_in layout mem bucket link true r at is = rw is (omega arith)
filling_fits_in layout mem bucket link false r at is =
    let next : link ≡ (link - 1) + 1 = grind (arith, nat_tests) in
    rw is (omega (arith, length-map-range_with_len (pair_in mem (link - 1)) 0 (mem (Row (link - 1) 2)), r.counts bucket (link - 1) (at ∙ next)))

filling_fits : (layout : Layout) (mem : Place → ℕ) (bucket : ℕ) → IsReadable layout mem → length (filling_in mem bucket).pairs ≤ layout.config.pairs
filling_fits layout mem bucket r = filling_fits_in layout mem bucket (mem (BucketPlace bucket)) (mem (BucketPlace bucket) == 0) r refl refl

rows_fit_in : (layout : Layout) (mem : Place → ℕ) (rows : List BucketRow) (d : BucketRow) → IsReadable layout mem → map filling_of rows ≡ map (filling_in mem) (range_with_len 0 layout.config.buckets)
    → All (λ row. length row.pairs.items ≤ layout.config.pairs) rows
rows_fit_in layout mem rows d r e =
    All-from_get_or (λ row. length row.pairs.items ≤ layout.config.pairs) rows d
    (λ i within.
    let below : i < layout.config.buckets = omega (arith, within, length-map rows filling_of, ap length e, length-map-range_with_len (filling_in mem) 0 layout.config.buckets) in
    let here : filling_of (get_or rows i d) ≡ filling_in mem i =
    sym (get_or-map filling_of rows i d (filling_of d) within) ∙ ap (λ (fillings : List Filling). get_or fillings i (filling_of d)) e ∙ get_or-map-range_with_len (filling_in mem) 0 layout.config.buckets i i (filling_of d) below (omega arith) in
    subst (λ (filling : Filling). length filling.pairs ≤ layout.config.pairs) (sym here) (filling_fits layout mem i r))

rows_fit : (layout : Layout) (mem : Place → ℕ) (rows : List BucketRow) → IsReadable layout mem → map filling_of rows ≡ map (filling_in mem) (range_with_len 0 layout.config.buckets) → All (λ row. length row.pairs.items ≤ layout.config.pairs) rows
rows_fit layout mem [] r e = All-nil (λ row. length row.pairs.items ≤ layout.config.pairs)
rows_fit layout mem (row ∷ rows) r e = rows_fit_in layout mem (row ∷ rows) row r e

-- of a setting in its ranges
pub layout_made : (config : Config) (layout : Layout) → bad_field config ≡ None → layout_of config ≡ Ok layout → layout ≡ layout_by config
layout_made config layout good made =
    let is : Ok (layout_by config) ≡ Ok layout = rw good at made in
    cc

-- what a run comes to, where none of its workers wanted memory
pub run_comes : {E : Type 0} (config : Config) (shared : TableNow) (scripts : List (List Call)) (all : List (Result Worked E)) (seats : List SeatNow) (events : List (Vec Event Global)) (closed : Closed) → shared.layout ≡ layout_by config → length scripts ≡ config.seats
    → length all ≡ length scripts → EachDone shared scripts all → IsParted all seats events → IsLeft shared.layout (map track_of seats) closed → Comes config scripts (lists_in events) (closing_of closed)
run_comes config shared scripts all seats events closed e enough count each parted left =
    let setting : shared.layout.config ≡ config = ap (λ (l : Layout). l.config) e in
    let a = are_done shared scripts all parted.done parted.all_done count each in
    let at = comes_at shared scripts parted.done closed (enough ∙ sym (ap (λ (c : Config). c.seats) setting)) a (subst (λ (xs : List SeatNow). IsLeft shared.layout (map track_of xs) closed) parted.seats_are left) in
    let told : map (λ (worked : Worked). worked.events.items) parted.done ≡ lists_in events =
    sym (map-map (λ (v : Vec Event Global). v.items) (λ (worked : Worked). worked.events) parted.done) ∙ ap (map (λ (v : Vec Event Global). v.items)) (sym parted.events_are) in
    subst (λ (texts : List (List Event)). Comes config scripts texts (closing_of closed)) told
    (subst (λ (c : Config). Comes c scripts (map (λ worked. worked.events.items) parted.done) (closing_of closed)) setting at)

-- its rows fit
pub run_fits : (config : Config) (shared : TableNow) (tracks : List Track) (closed : Closed) → shared.layout ≡ layout_by config → IsLeft shared.layout tracks closed → All (λ row. length row.pairs.items ≤ config.pairs) closed.buckets.items
run_fits config shared tracks closed e left =
    let readable = reached_readable shared.layout left.list (record { items = left.items; reaches = left.reaches }) in
    subst (λ (l : Layout). All (λ row. length row.pairs.items ≤ l.config.pairs) closed.buckets.items) e (rows_fit shared.layout (memory shared.layout left.list) closed.buckets.items readable left.read.buckets)

-- the seats that were taken apart are the table's
pub run_of : {E : Type 0} (shared : TableNow) (scripts : List (List Call)) (all : List (Result Worked E)) (seats : List SeatNow) (events : List (Vec Event Global)) → length all ≡ length scripts → EachDone shared scripts all → IsParted all seats events
    → All (λ seat. IsOf seat shared) seats
run_of shared scripts all seats events count each parted =
    All-same (λ seat. IsOf seat shared) seats (map (λ worked. worked.seat) parted.done) parted.seats_are (all_of shared scripts parted.done (are_done shared scripts all parted.done parted.all_done count each))

-- the same of scripts in vectors
pub each_of : {E : Type 0} (shared : TableNow) (vectors scripts : List (Vec Call Global)) (all : List (Result Worked E)) → vectors ≡ scripts
    → ((n : ℕ) (d : Result Worked E) → n < length vectors → IsOutcome shared (new_seat shared n) (get_or (lists_in vectors) n []) (get_or all n d)) → EachDone shared (lists_in scripts) all
each_of {E = E} shared vectors scripts all e each =
    subst (λ (vs : List (Vec Call Global)). EachDone shared (lists_in vs) all) e (λ n d within. each n d (omega (arith, within, length-map vectors (λ (v : Vec Call Global). v.items))))

pub count_of_all : {E : Type 0} (vectors scripts : List (Vec Call Global)) (all : List (Result Worked E)) → vectors ≡ scripts → length all ≡ length vectors → length all ≡ length (lists_in scripts)
count_of_all vectors scripts all e count = count ∙ ap length e ∙ sym (length-map scripts (λ (v : Vec Call Global). v.items))

-- a run has as many seats as its setting, and those are few
pub run_few : (config : Config) (scripts : List (List Call)) (seats : List (List Event)) (closed : AtClose) → Comes config scripts seats closed → length seats ≤ 64
run_few config scripts seats closed comes =
    let layout = layout_by config in
    let bounds = bounds_of layout comes.at_rest.valid in
    omega (arith, ap length comes.run.texts, length-map comes.run.logs (events_of_all config.buckets), comes.run.law.answered.seats, bounds.seats.1)
