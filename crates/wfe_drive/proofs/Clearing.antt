-- What a seat that leaves lets go in one step is what calls of seats that stay let go.
use Rattle.std.proofs.Common.{Bool, List, [], ap, ap₂, arith, drop, false, get_or, get_or-set_other, get_or-set_same, length, length-set, refl, slice_set, subst, sym, true, ℕ, ◌<◌, ◌∙◌, ◌≡◌, ◌≢◌, ◌≤◌}
use Rattle.std.proofs.lemmas.Bool.Decides.{nat_tests}
use Rattle.std.proofs.lemmas.List.{set-get_or}
use Rattle.std.specs.Prelude.{None, Option, Some, if◌then◌else◌, is_some, not, nat_lt, ◌&&◌, ◌==◌}
use Rattle.wfe_core.specs.words.Place.{Place, has, is_valid, number, words}
use Rattle.wfe_core.specs.words.Place.Place.{Index, Interval, PlaceOf}
use Rattle.wfe_core.specs.words.Schemes.{has_one_interval, publishes_rows}
use Rattle.wfe_core.specs.words.declared.layout.Layout.{Layout}
use Rattle.wfe_core.specs.defs.declared.call.Call.TheVariants as names
use Rattle.wfe_core.specs.defs.declared.event.Event.{Event}
use Rattle.wfe_core.specs.defs.declared.lifetime.Interval.{Interval as Span}
use Rattle.wfe_core.specs.defs.declared.lifetime.Lifetime.{Lifetime}
use Rattle.wfe_core.specs.Calls.{CallTurn, Dropped, HideSpan, Idle, Keeping, MarkLeft, Parting, Phase, Releases, Runs, Works}
use Rattle.wfe_core.specs.Desks.{Desk, no_notes}
use Rattle.wfe_core.specs.Keep.{parting, parting_index, parting_span}
use Rattle.wfe_core.specs.Locals.{Local, begun_post, busy_in, move}
use Rattle.wfe_core.specs.Memory.{Move, Store, numbered, place_in, written}
use Rattle.wfe_core.specs.Phases.Base.{Clear}
use Rattle.wfe_core.specs.Posts.{counted, stands, standing_from, withdrawn, withdrawn_all}
use Rattle.wfe_core.specs.Rounds.{scheme_of}
use Rattle.wfe_core.specs.Steps.{phase_move, phase_turn}
use Rattle.wfe_core.specs.Valid.{Bounds, IsValid, StandsValid}
use Rattle.wfe_core.specs.World.{World, is_busy, list_in}
use Rattle.wfe_core.specs.declared.op.Op.{Op}
use Rattle.wfe_core.specs.declared.post.Post.{Post}
use Rattle.wfe_core.proofs.Facts.{both}
use Rattle.wfe_core.proofs.words.Numbers.{number_below}
use Rattle.wfe_drive_cells.specs.Memory.{memory}
use Rattle.wfe_drive_cells.specs.Operations.{answered, performed, word_in}
use Rattle.wfe_drive_cells.specs.Unit.{SeatView, Shows, TableView, asked, fresh_seat, kept_desk, seat_at, shown, shown_in, turned, with_seat}
use Rattle.wfe_drive_cells.proofs.Bridge.{length-performed, memory-performed, word_in-numbered}
use Rattle.wfe_drive_cells.proofs.Units.{busy-shown}
use Rattle.wfe_drive_seat.specs.Leaving.{is_marking, leaving, let_seat, let_turn, lets_go, seat_let, told_let, words_let}
use Rattle.law_reuse.specs.inv.Inv.{Inv}
use Rattle.law_reuse.proofs.shapes.Leaving.{next_stands}
use Rattle.wfe_drive.specs.Bare.{bare, is_of_seat, is_place}
use Rattle.wfe_drive.specs.Leaving.{after_clear}
use Rattle.wfe_drive.specs.Reached.{IsReached, StaysIn}
use Rattle.wfe_drive.proofs.Bare.{bare_answered, bare_length, bare_performed, number_place}
use Rattle.wfe_drive.proofs.Dropping.{Drops, MayDrop, drop_clear, dropped, one_step}
use Rattle.wfe_drive.proofs.Reached.{seat_is}
use Rattle.wfe_drive.proofs.Loosening.{LetAll, let_all, stood_index, valid_of}

-- a World that differs from another by what one seat let go
record Lets (w u : World) (i : ℕ) (left : Post) (m : Move) : Type 0 where
  known : Inv u
  right : (k : ℕ) → StaysIn u k
  layout : u.layout ≡ w.layout
  others : (k : ℕ) → (k == i) ≡ false → u.seat k ≡ w.seat k
  idle : (u.seat i).phase ≡ Idle
  desk : kept_desk (u.seat i).desk ≡ record (kept_desk (w.seat i).desk) { notes = one_step }
  post : (u.seat i).post ≡ left
  mem : u.mem ≡ written w.mem m

-- where no seat has left each list is where it is kept
pub shown_here : (w : World) (k : ℕ) → w.mem (PlaceOf k) ≡ 0 → shown_in w k ≡ shown (w.seat k)
shown_here w k h = ap (λ (list : List Lifetime). let v : SeatView = record { phase = (w.seat k).phase; post = (w.seat k).post; desk = record (kept_desk (w.seat k).desk) { list = list } } in v) (rw h refl)

-- the seat that let it go
abbrev let_view : SeatView → Post → SeatView
let_view v left = record { phase = Idle; post = left; desk = record v.desk { notes = one_step } }

let_shown : (table : TableView) (w u : World) (i : ℕ) (left : Post) (m : Move) → Shows table w → ((k : ℕ) → StaysIn w k) → Lets w u i left m → shown_in u i ≡ let_view (seat_at table i) left
let_shown table w u i left m s g x =
    let is : shown (w.seat i) ≡ seat_at table i = sym (shown_here w i (g i).here) ∙ s.seats i in
    shown_here u i (x.right i).here
    ∙ ap (λ (p : Phase). let v : SeatView = record { phase = p; post = (u.seat i).post; desk = kept_desk (u.seat i).desk } in v) x.idle
    ∙ ap₂ (λ (p : Post) (d : Desk). let v : SeatView = record { phase = Idle; post = p; desk = d } in v) x.post x.desk
    ∙ ap (λ (v : SeatView). let_view v left) is

lets_seat : (table : TableView) (w u : World) (i k : ℕ) (left : Post) (m : Move) (list : List ℕ) (one : Bool) → (k == i) ≡ one → Shows table w → ((k : ℕ) → StaysIn w k) → i < length table.seats → Lets w u i left m
    → shown_in u k ≡ seat_at (with_seat table list i (let_view (seat_at table i) left)) k
lets_seat table w u i k left m list true e s g h x =
    let is : k ≡ i = grind (arith, nat_tests) in
    ap (shown_in u) is ∙ let_shown table w u i left m s g x
    ∙ sym (get_or-set_same table.seats i (let_view (seat_at table i) left) (fresh_seat table.layout i) h)
    ∙ ap (seat_at (with_seat table list i (let_view (seat_at table i) left))) (sym is)
lets_seat table w u i k left m list false e s g h x =
    let apart : k ≢ i = grind (arith, nat_tests) in
    shown_here u k (x.right k).here ∙ ap shown (x.others k e) ∙ sym (shown_here w k (g k).here) ∙ s.seats k
    ∙ sym (get_or-set_other table.seats i k (let_view (seat_at table i) left) (fresh_seat table.layout k) apart)

-- the table shows it
lets_reached : (table : TableView) (u : World) (i : ℕ) (left : Post) (m : Move) (r : IsReached table) → i < table.layout.config.seats → has table.layout (place_in m) ≡ true → Lets r.world u i left m
    → IsReached (with_seat table (performed table.words (numbered table.layout m)) i (let_view (seat_at table i) left))
lets_reached table u i left m r l there x =
    let s : Shows table r.world = r.shows in
    let here : i < length table.seats = subst (λ (n : ℕ). i < n) (sym r.seats) l in
    record {
      valid = r.valid;
      seats = length-set table.seats i (let_view (seat_at table i) left) ∙ r.seats;
      world = u;
      known = x.known;
      shows = record {
        layout = x.layout ∙ s.layout;
        count = length-performed table.words (numbered table.layout m) ∙ s.count;
        mem = x.mem ∙ ap (λ (f : Place → ℕ). written f m) s.mem ∙ sym (memory-performed table.layout table.words m s.count there);
        seats = λ k. lets_seat table r.world u i k left m (performed table.words (numbered table.layout m)) (k == i) refl s r.right here x;
      };
      right = x.right;
    }

-- what the code of a seat needs that lets something go
pub record Parts (table : TableView) (v : SeatView) : Type 0 where
  pub valid : IsValid v.post
  pub there : word_in (asked (leaving v)) < length table.words

-- the move of the seat's step
abbrev let_move : SeatView → Move
let_move v = phase_move (parting (begun_post v.post)) (begun_post v.post)

-- the seat after it
let_turn_view : (v : SeatView) (list : List ℕ) (phase : Phase) (left : Post) → parting (begun_post v.post) ≡ phase
    → ((desk : Desk) (found : ℕ) → (phase_turn phase (counted (begun_post v.post)) desk found).post ≡ left) → ((desk : Desk) (found : ℕ) → (phase_turn phase (counted (begun_post v.post)) desk found).desk ≡ desk)
    → let_seat (let_turn v list) ≡ let_view v left
let_turn_view v list phase left e p d =
    let found : ℕ = answered list (asked (leaving v)) in
    let t : CallTurn = let_turn v list in
    let is : t ≡ phase_turn phase (counted (begun_post v.post)) (leaving v).desk found = ap (λ (x : Phase). phase_turn x (counted (begun_post v.post)) (leaving v).desk found) e in
    ap₂ (λ (post : Post) (desk : Desk). let s : SeatView = record { phase = Idle; post = post; desk = record desk { notes = one_step } } in s)
    (ap (λ (x : CallTurn). x.post) is ∙ p (leaving v).desk found) (ap (λ (x : CallTurn). x.desk) is ∙ d (leaving v).desk found)

cleared_by : (table : TableView) (u : World) (i : ℕ) (phase : Phase) (left : Post) (r : IsReached table) → i < table.layout.config.seats
    → (seat_at table i).post.layout ≡ table.layout → parting (begun_post (seat_at table i).post) ≡ phase → has table.layout (place_in (phase_move phase (begun_post (seat_at table i).post))) ≡ true
    → ((desk : Desk) (found : ℕ) → (phase_turn phase (counted (begun_post (seat_at table i).post)) desk found).post ≡ left)
    → ((desk : Desk) (found : ℕ) → (phase_turn phase (counted (begun_post (seat_at table i).post)) desk found).desk ≡ desk)
    → Lets r.world u i left (phase_move phase (begun_post (seat_at table i).post)) → IsReached (after_clear true table i)
cleared_by table u i phase left r l layout e there p d x =
    let v : SeatView = seat_at table i in
    let m : Move = phase_move phase (begun_post v.post) in
    let op : asked (leaving v) ≡ numbered table.layout m = ap₂ (λ (y : Layout) (q : Phase). numbered y (phase_move q (begun_post v.post))) layout e in
    subst IsReached
    (ap₂ (λ (o : Op) (s : SeatView). with_seat table (performed table.words o) i s) (sym op) (sym (let_turn_view v table.words phase left e p d)))
    (lets_reached table u i left m r l there x)

-- of an idle seat of the table
record Seated (table : TableView) (i : ℕ) (w : World) : Type 0 where
  same : (w.seat i).post ≡ (seat_at table i).post
  layout : (seat_at table i).post.layout ≡ table.layout
  valid : IsValid (seat_at table i).post
  free : is_busy w i ≡ false
  below : i < w.layout.config.seats

seated : (table : TableView) (i : ℕ) (r : IsReached table) → i < table.layout.config.seats → busy_in (seat_at table i).phase ≡ false → Seated table i r.world
seated table i r l b =
    let w : World = r.world in
    let s : Shows table w = r.shows in
    let below : i < w.layout.config.seats = subst (λ (layout : Layout). i < layout.config.seats) (sym s.layout) l in
    let same : (w.seat i).post ≡ (seat_at table i).post = ap (λ (v : SeatView). v.post) (s.seats i) in
    let k = r.known.known in
    let f = k.seats.fits i in
    record {
      same = same;
      layout = ap (λ (p : Post). p.layout) (sym same) ∙ f.post.layout ∙ s.layout;
      valid = subst IsValid same (valid_of w i r.known below);
      free = sym (busy-shown table w i s) ∙ b;
      below = below;
    }

-- what stands at the first index, where indexes publish by themselves
stood_by : (post : Post) (m : ℕ) (row : Option ℕ) → stands post m ≡ row → IsValid post → is_some row ≡ true → m < post.layout.config.indexes
stood_by post m (Some slot) e v h = stood_index post m slot (nat_lt m 8) refl v e
stood_by post m None e v h = absurd (cc)

clears_index : (table : TableView) (i next : ℕ) (r : IsReached table) → i < table.layout.config.seats → Seated table i r.world → has_one_interval (scheme_of (seat_at table i).post) ≡ false
    → standing_from 2 (drop 2 (seat_at table i).post.standing) ≡ Some next → IsReached (after_clear true table i)
clears_index table i next r l g one e =
    let w : World = r.world in
    let v : SeatView = seat_at table i in
    let p : Post = v.post in
    let n = next_stands p 2 next e in
    let high : next < p.layout.config.indexes = stood_by p next (stands p next) refl g.valid n.stood in
    let may : MayDrop w i next = record {
      known = r.known;
      right = r.right;
      below = g.below;
      free = g.free;
      low = n.from;
      high = subst (λ (layout : Layout). next < layout.config.indexes) (g.layout ∙ sym (r.shows).layout) high;
    } in
    let apart : has_one_interval (scheme_of (w.seat i).post) ≡ false = ap (λ (x : Post). has_one_interval (scheme_of x)) g.same ∙ one in
    let rows : Bool = publishes_rows (scheme_of p) in
    let d : Drops w i next (Runs (Releases (Dropped next)) (Clear rows next)) (withdrawn (counted (begun_post (w.seat i).post)) next) =
    drop_clear rows w i next may (rw apart (ap (λ (x : Post). Runs (Releases (Dropped next)) (Clear (publishes_rows (scheme_of x)) next)) g.same)) in
    let seat : p.seat < table.layout.config.seats = (let s = g.valid.seat in subst (λ (layout : Layout). p.seat < layout.config.seats) g.layout s) in
    let index : next < table.layout.config.indexes = subst (λ (layout : Layout). next < layout.config.indexes) g.layout high in
    cleared_by table (dropped w i next) i (Runs (Releases (Parting next)) (Clear rows next)) (withdrawn (counted (begun_post p)) next) r l g.layout (rw one (ap (parting_index rows) e))
    (both (nat_lt p.seat table.layout.config.seats) (nat_lt next table.layout.config.indexes) (grind (arith, nat_tests, seat)) (grind (arith, nat_tests, index)))
    (λ desk found. refl) (λ desk found. refl)
    (record {
      known = d.known;
      right = d.right;
      layout = refl;
      others = d.others;
      idle = d.idle;
      desk = d.desk;
      post = d.post ∙ ap (λ (x : Post). withdrawn (counted (begun_post x)) next) g.same;
      mem = d.mem ∙ ap (λ (x : Post). written w.mem (phase_move (Runs (Releases (Dropped next)) (Clear rows next)) (begun_post x))) g.same;
    })

-- all of it, where the seat has one interval
clears_span : (table : TableView) (i : ℕ) (span : Span) (r : IsReached table) → i < table.layout.config.seats → Seated table i r.world → has_one_interval (scheme_of (seat_at table i).post) ≡ true
    → (seat_at table i).post.span ≡ Some span → IsReached (after_clear true table i)
clears_span table i span r l g one e =
    let w : World = r.world in
    let v : SeatView = seat_at table i in
    let p : Post = v.post in
    let bounds : Bounds p.layout.config = g.valid.bounds in
    let many : 3 ≤ w.layout.config.indexes = subst (λ (layout : Layout). 3 ≤ layout.config.indexes) (g.layout ∙ sym (r.shows).layout) bounds.indexes.0 in
    let own : has_one_interval (scheme_of (w.seat i).post) ≡ true = ap (λ (x : Post). has_one_interval (scheme_of x)) g.same ∙ one in
    let all = let_all w i r.known r.right g.free g.below many own in
    let x : LetAll w all.0 i = all.1 in
    let seat : p.seat < table.layout.config.seats = (let s = g.valid.seat in subst (λ (layout : Layout). p.seat < layout.config.seats) g.layout s) in
    cleared_by table all.0 i (Works (Keeping HideSpan)) (withdrawn_all (counted (begun_post p))) r l g.layout (rw one (ap parting_span e)) (grind (arith, nat_tests, seat)) (λ desk found. refl) (λ desk found. refl)
    (record {
      known = x.known;
      right = x.right;
      layout = x.layout;
      others = x.others;
      idle = x.idle;
      desk = x.desk;
      post = x.post ∙ ap (λ (y : Post). withdrawn_all (counted (begun_post y))) g.same;
      mem = x.mem ∙ ap (λ (y : Post). written w.mem (Store (Interval y.seat) 0)) g.same;
    })

-- nothing is left to let go
marks : (v : SeatView) → parting (begun_post v.post) ≡ Works (Keeping MarkLeft) → lets_go v ≡ false
marks v e = ap (λ (phase : Phase). not (is_marking phase)) e

clears_apart : (table : TableView) (i : ℕ) (next : Option ℕ) (r : IsReached table) → i < table.layout.config.seats → Seated table i r.world → has_one_interval (scheme_of (seat_at table i).post) ≡ false
    → standing_from 2 (drop 2 (seat_at table i).post.standing) ≡ next → lets_go (seat_at table i) ≡ true → IsReached (after_clear true table i)
clears_apart table i (Some next) r l g one e h = clears_index table i next r l g one e
clears_apart table i None r l g one e h = let no : lets_go (seat_at table i) ≡ false = marks (seat_at table i) (rw one (ap (parting_index (publishes_rows (scheme_of (seat_at table i).post))) e)) in absurd (cc)

clears_one : (table : TableView) (i : ℕ) (span : Option Span) (r : IsReached table) → i < table.layout.config.seats → Seated table i r.world → has_one_interval (scheme_of (seat_at table i).post) ≡ true
    → (seat_at table i).post.span ≡ span → lets_go (seat_at table i) ≡ true → IsReached (after_clear true table i)
clears_one table i (Some span) r l g one e h = clears_span table i span r l g one e
clears_one table i None r l g one e h = let no : lets_go (seat_at table i) ≡ false = marks (seat_at table i) (rw one (ap parting_span e)) in absurd (cc)

clears_by : (table : TableView) (i : ℕ) (one : Bool) (r : IsReached table) → i < table.layout.config.seats → Seated table i r.world → has_one_interval (scheme_of (seat_at table i).post) ≡ one
    → lets_go (seat_at table i) ≡ true → IsReached (after_clear true table i)
clears_by table i true r l g e h = clears_one table i (seat_at table i).post.span r l g e refl h
clears_by table i false r l g e h = clears_apart table i (standing_from 2 (drop 2 (seat_at table i).post.standing)) r l g e refl h

pub clears : (table : TableView) (i : ℕ) → IsReached table → i < table.layout.config.seats → busy_in (seat_at table i).phase ≡ false → lets_go (seat_at table i) ≡ true → IsReached (after_clear true table i)
clears table i r l b h = clears_by table i (has_one_interval (scheme_of (seat_at table i).post)) r l (seated table i r l b) refl h

-- the word of the step is one of the table's, and no place word where something is let go
record LetPlace (layout : Layout) (phase : Phase) (post : Post) : Type 0 where
  there : has layout (place_in (phase_move phase post)) ≡ true
  off : not (is_marking phase) ≡ true → is_of_seat (place_in (phase_move phase post)) ≡ false

seat_there : (layout : Layout) (post : Post) → IsValid post → post.layout ≡ layout → nat_lt post.seat layout.config.seats ≡ true
seat_there layout post v e = let s : post.seat < layout.config.seats = (let h = v.seat in subst (λ (x : Layout). post.seat < x.config.seats) e h) in grind (arith, nat_tests, s)

place_apart : (layout : Layout) (post : Post) (rows : Bool) (next : Option ℕ) → IsValid post → post.layout ≡ layout → standing_from 2 (drop 2 post.standing) ≡ next → LetPlace layout (parting_index rows next) post
place_apart layout post rows None v e s = record { there = seat_there layout post v e; off = λ h. absurd (cc) }
place_apart layout post rows (Some next) v e s =
    let n = next_stands post 2 next s in
    let high : next < layout.config.indexes = subst (λ (x : Layout). next < x.config.indexes) e (stood_by post next (stands post next) refl v n.stood) in
    record { there = both (nat_lt post.seat layout.config.seats) (nat_lt next layout.config.indexes) (seat_there layout post v e) (grind (arith, nat_tests, high)); off = λ h. refl }

place_one : (layout : Layout) (post : Post) (span : Option Span) → IsValid post → post.layout ≡ layout → LetPlace layout (parting_span span) post
place_one layout post None v e = record { there = seat_there layout post v e; off = λ h. absurd (cc) }
place_one layout post (Some span) v e = record { there = seat_there layout post v e; off = λ h. refl }

place_by : (layout : Layout) (post : Post) (one : Bool) → has_one_interval (scheme_of post) ≡ one → IsValid post → post.layout ≡ layout → LetPlace layout (parting post) post
place_by layout post true h v e = rw h (place_one layout post post.span v e)
place_by layout post false h v e = rw h (place_apart layout post (publishes_rows (scheme_of post)) (standing_from 2 (drop 2 post.standing)) v e refl)

begun_valid : (post : Post) → IsValid post → IsValid (begun_post post)
begun_valid post v = record { layout = v.layout; bounds = v.bounds; seat = v.seat; cursor = v.cursor; tags = v.tags; standing = v.standing; span = v.span; all_tags = v.all_tags; all_standing = v.all_standing }

-- the same of a table with other place words
record Leaves (table : TableView) (v : SeatView) : Type 0 where
  parts : Parts table v
  off : lets_go v ≡ true → is_place table.layout (word_in (asked (leaving v))) ≡ false

leaves_at : (table : TableView) (seat : ℕ) → IsReached (bare table) → seat < table.layout.config.seats → busy_in (seat_at table seat).phase ≡ false → Leaves table (seat_at table seat)
leaves_at table seat r l b =
    let v : SeatView = seat_at table seat in
    let g : Seated (bare table) seat r.world = seated (bare table) seat r l b in
    let p : LetPlace table.layout (parting (begun_post v.post)) (begun_post v.post) = place_by table.layout (begun_post v.post) (has_one_interval (scheme_of v.post)) refl (begun_valid v.post g.valid) g.layout in
    let word : word_in (asked (leaving v)) ≡ number table.layout (place_in (let_move v)) = word_in-numbered v.post.layout (let_move v) ∙ ap (λ (layout : Layout). number layout (place_in (let_move v))) g.layout in
    let count : length table.words ≡ words table.layout = sym (bare_length table.layout table.words) ∙ (r.shows).count in
    record {
      parts = record { valid = g.valid; there = subst (λ (n : ℕ). n < length table.words) (sym word) (subst (λ (n : ℕ). number table.layout (place_in (let_move v)) < n) (sym count) (number_below table.layout (place_in (let_move v)) p.there)) };
      off = λ h. ap (is_place table.layout) word ∙ number_place table.layout (place_in (let_move v)) p.there ∙ p.off h;
    }

pub parts_at : (table : TableView) (seat : ℕ) → IsReached (bare table) → seat < table.layout.config.seats → busy_in (seat_at table seat).phase ≡ false → Parts table (seat_at table seat)
parts_at table seat r l b = let x : Leaves table (seat_at table seat) = leaves_at table seat r l b in x.parts

pub parts_from : (table now : TableView) (seat : ℕ) (v : SeatView) → table ≡ now → IsReached (bare table) → seat < now.layout.config.seats → busy_in (seat_at now seat).phase ≡ false → v ≡ get_or table.seats seat v → Parts table v
parts_from table now seat v n r h b e =
    let l : seat < table.layout.config.seats = subst (λ (t : TableView). seat < t.layout.config.seats) (sym n) h in
    let y : busy_in (seat_at table seat).phase ≡ false = subst (λ (t : TableView). busy_in (seat_at t seat).phase ≡ false) (sym n) b in
    let is : v ≡ seat_at table seat = seat_is table seat v r l e in
    let x : Leaves table (seat_at table seat) = leaves_at table seat r l y in
    subst (Parts table) (sym is) x.parts

-- the table afterwards
bare_clear : (table : TableView) (seat : ℕ) → Leaves table (seat_at table seat) → lets_go (seat_at table seat) ≡ true → bare (after_clear true table seat) ≡ after_clear true (bare table) seat
bare_clear table seat x h =
    let v : SeatView = seat_at table seat in
    let parts : Parts table v = x.parts in
    let off : is_place table.layout (word_in (asked (leaving v))) ≡ false = x.off h in
    ap₂ (λ (list : List ℕ) (found : ℕ). let t : TableView = record { layout = table.layout; words = list; seats = slice_set table.seats seat (let_seat (turned (leaving v) found)) } in t)
    (sym (bare_performed table.layout table.words (asked (leaving v)) off parts.there))
    (sym (bare_answered table.layout table.words (asked (leaving v)) off))

clear_reached : (table : TableView) (seat : ℕ) (more : Bool) → more ≡ lets_go (seat_at table seat) → IsReached (bare table) → seat < table.layout.config.seats → busy_in (seat_at table seat).phase ≡ false → IsReached (bare (after_clear more table seat))
clear_reached table seat true e r l b = subst IsReached (sym (bare_clear table seat (leaves_at table seat r l b) (sym e))) (clears (bare table) seat r l b (sym e))
clear_reached table seat false e r l b = r

clear_table : (table : TableView) (seat : ℕ) (more : Bool) → with_seat table (words_let more (seat_at table seat) table.words) seat (seat_let more (seat_at table seat) table.words) ≡ after_clear more table seat
clear_table table seat true = refl
clear_table table seat false = ap (λ (views : List SeatView). let t : TableView = record { layout = table.layout; words = table.words; seats = views } in t) (set-get_or table.seats seat (fresh_seat table.layout seat))

pub record Cleared (table : TableView) (seat : ℕ) (more : Bool) (told : List Event) (new : TableView) : Type 0 where
  pub more_is : more ≡ lets_go (seat_at table seat)
  pub table_is : new ≡ after_clear more table seat
  pub told_is : told ≡ told_let more (seat_at table seat) table.words
  pub reached : IsReached (bare new)

pub clear_from : (table now : TableView) (seat : ℕ) (v w : SeatView) (more : Bool) (list : List ℕ) (told : List Event) → table ≡ now → IsReached (bare table) → seat < now.layout.config.seats → busy_in (seat_at now seat).phase ≡ false → v ≡ get_or table.seats seat v
    → more ≡ lets_go v → w ≡ seat_let more v table.words → list ≡ words_let more v table.words → told ≡ told_let more v table.words
    → Cleared table seat more told (record { layout = table.layout; words = list; seats = slice_set table.seats seat w })
clear_from table now seat v w more list told n r h b e goes view words events =
    let l : seat < table.layout.config.seats = subst (λ (t : TableView). seat < t.layout.config.seats) (sym n) h in
    let y : busy_in (seat_at table seat).phase ≡ false = subst (λ (t : TableView). busy_in (seat_at t seat).phase ≡ false) (sym n) b in
    let is : v ≡ seat_at table seat = seat_is table seat v r l e in
    let m : more ≡ lets_go (seat_at table seat) = goes ∙ ap lets_go is in
    let t : record { layout = table.layout; words = list; seats = slice_set table.seats seat w } ≡ after_clear more table seat =
    ap₂ (λ (xs : List ℕ) (x : SeatView). with_seat table xs seat x) (words ∙ ap (λ (x : SeatView). words_let more x table.words) is) (view ∙ ap (λ (x : SeatView). seat_let more x table.words) is) ∙ clear_table table seat more in
    record {
      more_is = m;
      table_is = t;
      told_is = events ∙ ap (λ (x : SeatView). told_let more x table.words) is;
      reached = subst (λ (x : TableView). IsReached (bare x)) (sym t) (clear_reached table seat more m r l y);
    }
