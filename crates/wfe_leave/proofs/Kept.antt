-- What is known of a rig and the parts of its seats holds at the start, where a call begins, and after each unit.
use Rattle.std.proofs.Common.{Bool, List, [], ap, ap₂, arith, false, get_or, get_or-set_other, get_or-set_same, inl, inr, length, refl, slice_set, subst, sym, true, ℕ, zero, suc, ◌++◌, ◌+◌, ◌<◌, ◌≤◌, ◌^◌, ◌∙◌, ◌≡◌, ◌≢◌, ◌∷◌}
use Rattle.std.proofs.lemmas.Bool.Decides.{nat_tests}
use Rattle.std.proofs.lemmas.List.{get_or_past, length-append, length-set}
use Rattle.std.proofs.lemmas.List.FromFn.{get_or-map-range_with_len, length-map-range_with_len}
use Rattle.std.specs.Prelude.{Option, if◌then◌else◌, map, nat_lt, not, slice_index, ◌&&◌, ◌==◌, ◌||◌}
use Rattle.std.specs.List.{range_with_len}
use Rattle.wfe_core.specs.words.Place.{has, is_valid, number, start_at, words}
use Rattle.wfe_core.specs.declared.op.Op.{Op}
use Rattle.wfe_core.specs.declared.op.Op.TheVariants as ops
use Rattle.wfe_core.specs.Steps.{call_op}
use Rattle.wfe_drive_cells.specs.Operations.{performed}
use Rattle.wfe_drive.specs.Bare.{bare, bare_words, is_place}
use Rattle.wfe_drive.proofs.Bare.{bare_at, bare_length, number_place}
use Rattle.wfe_core.specs.words.Place.Place.{PlaceOf}
use Rattle.wfe_core.specs.words.declared.config.Config.{Config}
use Rattle.wfe_core.specs.words.declared.layout.Layout.{Layout}
use Rattle.wfe_core.specs.defs.declared.call.Answer.{Answer}
use Rattle.wfe_core.specs.defs.declared.call.Call.{Call}
use Rattle.wfe_core.specs.defs.declared.call.Call.TheVariants as names
use Rattle.wfe_core.specs.defs.declared.event.Event.{Event}
use Rattle.wfe_core.specs.Calls.{Keeping, MarkLeft, Phase, Works}
use Rattle.wfe_core.specs.Locals.{busy_in, may_begin, stays}
use Rattle.wfe_core.specs.Memory.{bump}
use Rattle.wfe_core.proofs.Facts.{no_truth, number_is}
use Rattle.wfe_core.proofs.words.Numbers.{number_below}
use Rattle.wfe_drive_cells.specs.Memory.{HoldsStart}
use Rattle.wfe_drive_cells.specs.Unit.{IsUnit, SeatView, Shows, TableView, after_start, asked, begun_seat, fresh_seat, is_gone, may_adopt, seat_at, with_seat}
use Rattle.wfe_drive_cells.proofs.Units.{first-start}
use Rattle.wfe_drive.specs.history.History.{world_of}
use Rattle.wfe_drive.specs.inv.Places.{is_leaving}
use Rattle.wfe_drive.specs.Reached.{first_table, units_left}
use Rattle.wfe_leave.specs.Comes.{Comes}
use Rattle.wfe_leave.specs.declared.part.Part.{Part}
use Rattle.wfe_leave.specs.declared.part.Part.TheVariants.{Marks, Over, Parts, Stays, Takes}
use Rattle.wfe_leave.specs.Parts.{AllStay, Leaving, MadeUnit, MayMake, MayTake, first_part, is_left, is_open, is_stays, laid, laid_seat, overlay, part_at, table_begun, taking_found}
use Rattle.wfe_leave.proofs.Comes.{Rests, gone_after, gone_shown, rests_at, start_comes, unit_comes, unit_falls}
use Rattle.wfe_leave.proofs.Goes.{Goes, adopt_goes, call_goes, clear_goes, leave_goes, mark_goes, miss_goes, over_seat, over_words, seat_other, view_at}
use Rattle.wfe_leave.proofs.Laid.{laid_gift, laid_layout, laid_number, parting_busy}

-- as many parts as seats
pub lengths : (rig : TableView) (layout : Layout) (parts : List Part) → Leaving rig layout parts → length parts ≡ length rig.seats
lengths rig layout parts l = l.count ∙ sym l.seats

pub part_there : (rig : TableView) (layout : Layout) (parts : List Part) (seat : ℕ) → Leaving rig layout parts → seat < rig.layout.config.seats → seat < length parts
part_there rig layout parts seat l h = subst (λ (n : ℕ). seat < n) (sym l.count) h

-- the parts afterwards
part_same : (parts : List Part) (seat : ℕ) (next : Part) → seat < length parts → part_at (slice_set parts seat next) seat ≡ next
part_same parts seat next h = get_or-set_same parts seat next Stays h

part_other : (parts : List Part) (seat i : ℕ) (next : Part) → (i == seat) ≡ false → part_at (slice_set parts seat next) i ≡ part_at parts i
part_other parts seat i next e = let apart : i ≢ seat = grind (arith, nat_tests) in get_or-set_other parts seat i next Stays apart

-- a seat whose call is under way has not left
open_left : (part : Part) (v : SeatView) → busy_in (laid_seat part v).phase ≡ true → is_left part ≡ false
open_left Stays v b = refl
open_left (Parts steps) v b = refl
open_left (Takes place) v b = refl
open_left (Marks place count) v b = refl
open_left (Over steps left) v b = absurd (no_truth b)

pub leaving_after : (old new : TableView) (layout : Layout) (parts : List Part) (seat : ℕ) (next : Part) (told : List Event) (answer : Option Answer) → Leaving old layout parts → seat < old.layout.config.seats → busy_in (seat_at (overlay old parts) seat).phase ≡ true → Goes old new parts seat next told answer → Leaving new layout (slice_set parts seat next)
leaving_after old new layout parts seat next told answer l h b g =
    let T : TableView = overlay old parts in
    let same : new.layout ≡ old.layout = ap (λ (t : TableView). t.layout) g.unit.table_is in
    let there : seat < length parts = part_there old layout parts seat l h in
    let view : seat_at T seat ≡ laid_seat (part_at parts seat) (seat_at old seat) = view_at old parts seat (lengths old layout parts l) in
    let off : is_left (part_at parts seat) ≡ false = open_left (part_at parts seat) (seat_at old seat) (ap (λ (v : SeatView). busy_in v.phase) (sym view) ∙ b) in
    record {
      layout_is = l.layout_is ∙ sym same;
      count = length-set parts seat next ∙ l.count ∙ ap (λ (x : Layout). x.config.seats) (sym same);
      seats = g.seats ∙ l.seats ∙ ap (λ (x : Layout). x.config.seats) (sym same);
      idle = λ i n. idle_at i (i == seat) refl there n;
      gone = λ i. gone_after T (overlay new (slice_set parts seat next)) seat told answer i l.comes g.unit h b
          ∙ ap (λ (x : Bool). x || (i == seat && is_leaving (seat_at T seat).phase)) (l.gone i) ∙ left_at i (i == seat) refl there off;
      comes = unit_comes T (overlay new (slice_set parts seat next)) seat told answer l.comes g.unit h b;
    }
  where
    idle_at : (i : ℕ) (one : Bool) → (i == seat) ≡ one → seat < length parts → is_stays (part_at (slice_set parts seat next) i) ≡ false → busy_in (seat_at new i).phase ≡ false
    idle_at i true e there n =
        let is : i ≡ seat = number_is i seat e in
        let k : is_stays next ≡ false = ap is_stays (sym (part_same parts seat next there)) ∙ ap (λ (x : ℕ). is_stays (part_at (slice_set parts seat next) x)) (sym is) ∙ n in
        ap (λ (x : ℕ). busy_in (seat_at new x).phase) is ∙ g.own k (l.idle seat (sym g.kind ∙ k))
    idle_at i false e there n =
        ap busy_in (g.others i e) ∙ l.idle i (ap is_stays (sym (part_other parts seat i next e)) ∙ n)

    left_at : (i : ℕ) (one : Bool) → (i == seat) ≡ one → seat < length parts → is_left (part_at parts seat) ≡ false → (is_left (part_at parts i) || (i == seat && is_leaving (seat_at (overlay old parts) seat).phase)) ≡ is_left (part_at (slice_set parts seat next) i)
    left_at i true e there off =
        let is : seat ≡ i = sym (number_is i seat e) in
        let P : ℕ → Type 0 = λ x. (is_left (part_at parts x) || (i == seat && is_leaving (seat_at (overlay old parts) seat).phase)) ≡ is_left (part_at (slice_set parts seat next) x) in
        subst P is (ap₂ (λ (x y : Bool). x || (y && is_leaving (seat_at (overlay old parts) seat).phase)) off e ∙ sym g.left ∙ ap is_left (sym (part_same parts seat next there)))
    left_at i false e there off =
        ap (λ (y : Bool). is_left (part_at parts i) || (y && is_leaving (seat_at (overlay old parts) seat).phase)) e ∙ or_none (is_left (part_at parts i)) ∙ ap is_left (sym (part_other parts seat i next e))
      where
        or_none : (x : Bool) → (x || false) ≡ x
        or_none true = refl
        or_none false = refl

-- what a unit needs
gone_word : (there : Bool) (word : ℕ) → there ≡ true → word ≡ 1 → not ((if there then word else 0) == 0) ≡ true
gone_word there word e f = rw (e, f) refl

taken_gone : (rig : TableView) (place : ℕ) → place < rig.layout.config.seats → taking_found rig place ≡ 1 → is_gone rig place ≡ true
taken_gone rig place h f = gone_word (nat_lt place rig.layout.config.seats) (slice_index rig.words (number rig.layout (PlaceOf place))) (grind (arith, nat_tests)) f

left_stays : (part : Part) → is_left part ≡ true → is_stays part ≡ false
left_stays Stays e = cc
left_stays (Parts steps) e = refl
left_stays (Takes place) e = refl
left_stays (Marks place count) e = refl
left_stays (Over steps left) e = refl

may_take : (rig : TableView) (layout : Layout) (parts : List Part) (seat place : ℕ) → Leaving rig layout parts → place < rig.layout.config.seats → is_left (part_at parts seat) ≡ false → MayTake rig seat place
may_take rig layout parts seat place l h o = record {
  below = h;
  apart = λ f. other (place == seat) refl (sym (l.gone place) ∙ taken_gone rig place h f);
  free = λ f. l.idle place (left_stays (part_at parts place) (sym (l.gone place) ∙ taken_gone rig place h f));
}
  where
    other : (same : Bool) → (place == seat) ≡ same → is_left (part_at parts place) ≡ true → (place == seat) ≡ false
    other true e left = let is : place ≡ seat = number_is place seat e in absurd (no_truth (sym (ap (λ (n : ℕ). is_left (part_at parts n)) is ∙ o) ∙ left))
    other false e left = e

seat_rests : (rig : TableView) (layout : Layout) (parts : List Part) (seat : ℕ) → Leaving rig layout parts → seat < rig.layout.config.seats → Rests (overlay rig parts) seat
seat_rests rig layout parts seat l h = rests_at (overlay rig parts) seat l.comes h

abbrev MayOf : (rig : TableView) (parts : List Part) (seat : ℕ) → Part → Type 0
MayOf rig parts seat part = seat_at (overlay rig parts) seat ≡ laid_seat part (seat_at rig seat) → MayMake rig seat part

pub may_make : (rig : TableView) (layout : Layout) (parts : List Part) (seat : ℕ) (part : Part) → Leaving rig layout parts → seat < rig.layout.config.seats → busy_in (seat_at (overlay rig parts) seat).phase ≡ true → part_at parts seat ≡ part → MayMake rig seat part
may_make rig layout parts seat part l h b p = by_part part p (view_at rig parts seat (lengths rig layout parts l) ∙ ap (λ (x : Part). laid_seat x (seat_at rig seat)) p)
  where
    by_part : (part : Part) → part_at parts seat ≡ part → seat_at (overlay rig parts) seat ≡ laid_seat part (seat_at rig seat) → MayMake rig seat part
    by_part Stays p v = ap (λ (x : SeatView). busy_in x.phase) (sym v) ∙ b
    by_part (Parts steps) p v =
        let r : Rests (overlay rig parts) seat = seat_rests rig layout parts seat l h in
        (l.idle seat (ap is_stays p), (subst (λ (x : SeatView). x.post.steps < 2 ^ 62) v (r.steps b), subst (λ (x : SeatView). length x.desk.list < 2 ^ 32) v (r.short b)))
    by_part (Takes place) p v =
        let r : Rests (overlay rig parts) seat = seat_rests rig layout parts seat l h in
        (l.idle seat (ap is_stays p), may_take rig layout parts seat place l (r.takes place (ap (λ (x : SeatView). x.phase) v)) (ap is_left p))
    by_part (Marks place count) p v =
        let r : Rests (overlay rig parts) seat = seat_rests rig layout parts seat l h in
        (l.idle seat (ap is_stays p), r.marks place count (ap (λ (x : SeatView). x.phase) v))
    by_part (Over steps left) p v = absurd (no_truth (ap (λ (x : SeatView). busy_in x.phase) (sym v) ∙ b))

-- a unit of the rig's writes no place word, so that its step is none by which a seat leaves
words_count : (rig : TableView) (parts : List Part) → Comes (overlay rig parts) → length rig.words ≡ words rig.layout
words_count rig parts c = let s : Shows (overlay rig parts) (world_of rig.layout c.items) = c.shows in s.count

leaves_by : (phase : Phase) → (phase ≡ Works (Keeping MarkLeft) → ⊥) → is_leaving phase ≡ false
leaves_by (Works (Keeping MarkLeft)) n = absurd (n refl)
leaves_by phase n = refl

zero_one : (word : ℕ) → word ≡ 0 → word ≡ 1 → ⊥
zero_one word e f = omega (arith, e, f)

leaves_none : (old new : TableView) (seat : ℕ) (told : List Event) (answer : Option Answer) → (seat_at old seat).post.layout ≡ old.layout → (seat_at old seat).post.seat ≡ seat → seat < old.layout.config.seats → length old.words ≡ words old.layout
    → may_adopt (seat_at old seat).phase ≡ false → IsUnit old new seat told answer → IsUnit (bare old) (bare new) seat told answer → is_leaving (seat_at old seat).phase ≡ false
leaves_none old new seat told answer y n h c a u b =
    leaves_by (seat_at old seat).phase (λ e.
    let s : SeatView = seat_at old seat in
    let word : ℕ = number old.layout (PlaceOf seat) in
    let op : asked s ≡ ops.Store word 1 = ap (λ (p : Phase). call_op p s.post) e ∙ ap₂ (λ (l : Layout) (k : ℕ). ops.Store (number l (PlaceOf k)) 1) y n in
    let there : has old.layout (PlaceOf seat) ≡ true = grind (arith, nat_tests) in
    let list : bare_words new.layout new.words ≡ performed (bare_words old.layout old.words) (ops.Store word 1) = ap (λ (t : TableView). t.words) b.table_is ∙ ap (λ (o : Op). performed (bare_words old.layout old.words) o) op in
    let layout : new.layout ≡ old.layout = ap (λ (t : TableView). t.layout) u.table_is in
    let place : is_place new.layout word ≡ true = ap (λ (l : Layout). is_place l word) layout ∙ number_place old.layout (PlaceOf seat) there in
    let none : slice_index (bare_words new.layout new.words) word ≡ 0 = bare_at new.layout new.words word ∙ ap (λ (x : Bool). if x then 0 else slice_index new.words word) place in
    let low : word < length (bare_words old.layout old.words) = subst (λ (k : ℕ). word < k) (sym (bare_length old.layout old.words ∙ c)) (number_below old.layout (PlaceOf seat) there) in
    let one : slice_index (performed (bare_words old.layout old.words) (ops.Store word 1)) word ≡ 1 = get_or-set_same (bare_words old.layout old.words) word 1 0 low in
    zero_one (slice_index (bare_words new.layout new.words) word) none (ap (λ (l : List ℕ). slice_index l word) list ∙ one))

-- what a unit makes
bump_small : (n : ℕ) → n < 2 ^ 62 → bump n ≡ n + 1
bump_small n h = by_room (nat_lt n 18446744073709551615) refl
  where
    by_room : (room : Bool) → nat_lt n 18446744073709551615 ≡ room → (if room then n + 1 else n) ≡ n + 1
    by_room true e = refl
    by_room false e = absurd (grind (arith, nat_tests))

pub made_goes : (old new : TableView) (layout : Layout) (parts : List Part) (seat : ℕ) (part next : Part) (told : List Event) (answer : Option Answer) → Leaving old layout parts → seat < old.layout.config.seats → busy_in (seat_at (overlay old parts) seat).phase ≡ true → part_at parts seat ≡ part
    → MadeUnit old new seat part next told answer → Goes old new parts seat next told answer
made_goes old new layout parts seat part next told answer l h b p u =
    let e : length parts ≡ length old.seats = lengths old layout parts l in
    let r : Rests (overlay old parts) seat = seat_rests old layout parts seat l h in
    let view : seat_at (overlay old parts) seat ≡ laid_seat (part_at parts seat) (seat_at old seat) = view_at old parts seat e in
    let layout_is : (seat_at old seat).post.layout ≡ old.layout = sym (laid_layout (part_at parts seat) (seat_at old seat)) ∙ ap (λ (v : SeatView). v.post.layout) (sym view) ∙ r.layout in
    let number_is : (seat_at old seat).post.seat ≡ seat = sym (laid_number (part_at parts seat) (seat_at old seat)) ∙ ap (λ (v : SeatView). v.post.seat) (sym view) ∙ r.number in
    let gift : (seat_at old seat).desk.gift ≡ [] = sym (laid_gift (part_at parts seat) (seat_at old seat)) ∙ ap (λ (v : SeatView). v.desk.gift) (sym view) ∙ r.gift in
    by_part part p e (part_there old layout parts seat l h) layout_is number_is gift (may_make old layout parts seat part l h b p) u
  where
    by_part : (part : Part) → part_at parts seat ≡ part → length parts ≡ length old.seats → seat < length parts → (seat_at old seat).post.layout ≡ old.layout → (seat_at old seat).post.seat ≡ seat → (seat_at old seat).desk.gift ≡ []
        → MayMake old seat part → MadeUnit old new seat part next told answer → Goes old new parts seat next told answer
    by_part Stays p e t y n g m u =
        subst (λ (x : Part). Goes old new parts seat x told answer) (sym u.next_is) (call_goes old new parts seat told answer e t p (leaves_none old new seat told answer y n h (words_count old parts l.comes) u.adopts u.unit u.bared) (record { unit = u.unit; bared = u.bared; adopts = u.adopts; next_is = refl }))
    by_part (Parts steps) p e t y n g m (inl c) = clear_goes old new parts seat steps next told answer e t p (bump_small steps m.1.0) g c
    by_part (Parts steps) p e t y n g m (inr c) = leave_goes old new parts seat steps next told answer e t p (bump_small steps m.1.0) y n g c
    by_part (Takes place) p e t y n g m (inl c) =
        let k : MayTake old seat place = m.1 in
        adopt_goes old new parts seat place next told answer e t (part_there old layout parts place l k.below) (k.apart c.found) p y g c
    by_part (Takes place) p e t y n g m (inr c) = miss_goes old new parts seat place next told answer e t p y g c
    by_part (Marks place count) p e t y n g m u = mark_goes old new parts seat place count next told answer e t p y g u
    by_part (Over steps left) p e t y n g m u = absurd (no_truth (sym (l.idle seat (ap is_stays p)) ∙ m))

-- a call begins
closed_begun : (part : Part) (s : SeatView) (call : Call) → busy_in (laid_seat part s).phase ≡ false → begun_seat (laid_seat part s) call ≡ begun_seat s call
closed_begun Stays s call b = refl
closed_begun (Parts steps) s call b = absurd (no_truth (sym b ∙ parting_busy s.post))
closed_begun (Takes place) s call b = absurd (no_truth (sym b))
closed_begun (Marks place count) s call b = absurd (no_truth (sym b))
closed_begun (Over steps left) s call b = refl

pub begins_stays : (call : Call) → is_stays (first_part call) ≡ true → stays call ≡ true
begins_stays names.Leave h = cc
begins_stays (names.Adopt place) h = cc
begins_stays call h = refl

begins_left : (call : Call) → is_left (first_part call) ≡ false
begins_left names.Leave = refl
begins_left (names.Adopt place) = refl
begins_left call = refl

begun_table : (old : TableView) (parts : List Part) (seat : ℕ) (call : Call) → length parts ≡ length old.seats → seat < length parts → overlay (table_begun old seat call) (slice_set parts seat (first_part call)) ≡ with_seat (overlay old parts) old.words seat (begun_seat (seat_at old seat) call)
begun_table old parts seat names.Leave e h = over_words old parts old.words seat (Parts 0) e h
begun_table old parts seat (names.Adopt place) e h = over_words old parts old.words seat (Takes place) e h
begun_table old parts seat call e h = over_seat old parts old.words seat Stays (begun_seat (seat_at old seat) call) e h

-- the rig's seats afterwards
begun_other : (old : TableView) (seat i : ℕ) (call : Call) → (i == seat) ≡ false → seat_at (table_begun old seat call) i ≡ seat_at old i
begun_other old seat i names.Leave e = refl
begun_other old seat i (names.Adopt place) e = refl
begun_other old seat i call e = seat_other old old.words seat i (begun_seat (seat_at old seat) call) e

begun_idle : (old : TableView) (seat : ℕ) (call : Call) → is_stays (first_part call) ≡ false → seat_at (table_begun old seat call) seat ≡ seat_at old seat
begun_idle old seat names.Leave e = refl
begun_idle old seat (names.Adopt place) e = refl
begun_idle old seat call e = absurd (cc)

begun_seats : (old : TableView) (seat : ℕ) (call : Call) → length (table_begun old seat call).seats ≡ length old.seats
begun_seats old seat names.Leave = refl
begun_seats old seat (names.Adopt place) = refl
begun_seats old seat call = length-set old.seats seat (begun_seat (seat_at old seat) call)

begun_layout : (old : TableView) (seat : ℕ) (call : Call) → (table_begun old seat call).layout ≡ old.layout
begun_layout old seat names.Leave = refl
begun_layout old seat (names.Adopt place) = refl
begun_layout old seat call = refl

begun_gone : (old : TableView) (seat i : ℕ) (call : Call) → is_gone (table_begun old seat call) i ≡ is_gone old i
begun_gone old seat i names.Leave = refl
begun_gone old seat i (names.Adopt place) = refl
begun_gone old seat i call = refl

-- the rig has no call of the seat under way
pub free_below : (rig : TableView) (layout : Layout) (parts : List Part) (seat : ℕ) → Leaving rig layout parts → busy_in (seat_at (overlay rig parts) seat).phase ≡ false → busy_in (seat_at rig seat).phase ≡ false
free_below rig layout parts seat l b = by_part (part_at parts seat) refl (ap (λ (v : SeatView). busy_in v.phase) (sym (view_at rig parts seat (lengths rig layout parts l))) ∙ b)
  where
    by_part : (part : Part) → part_at parts seat ≡ part → busy_in (laid_seat part (seat_at rig seat)).phase ≡ false → busy_in (seat_at rig seat).phase ≡ false
    by_part Stays p b = b
    by_part (Parts steps) p b = l.idle seat (ap is_stays p)
    by_part (Takes place) p b = l.idle seat (ap is_stays p)
    by_part (Marks place count) p b = l.idle seat (ap is_stays p)
    by_part (Over steps left) p b = l.idle seat (ap is_stays p)

pub record Begun (new old : TableView) (layout : Layout) (parts : List Part) (seat : ℕ) (call : Call) : Type 0 where
  pub is : overlay new (slice_set parts seat (first_part call)) ≡ after_start (overlay old parts) seat call
  pub leaving : Leaving new layout (slice_set parts seat (first_part call))

pub begun : (old : TableView) (layout : Layout) (parts : List Part) (seat : ℕ) (call : Call) → Leaving old layout parts → seat < old.layout.config.seats → busy_in (seat_at (overlay old parts) seat).phase ≡ false → may_begin old.layout.config call ≡ true → is_gone (overlay old parts) seat ≡ false
    → Begun (table_begun old seat call) old layout parts seat call
begun old layout parts seat call l h b may here =
    let T : TableView = overlay old parts in
    let e : length parts ≡ length old.seats = lengths old layout parts l in
    let there : seat < length parts = part_there old layout parts seat l h in
    let view : seat_at T seat ≡ laid_seat (part_at parts seat) (seat_at old seat) = view_at old parts seat e in
    let seat_is : begun_seat (seat_at T seat) call ≡ begun_seat (seat_at old seat) call = ap (λ (v : SeatView). begun_seat v call) view ∙ closed_begun (part_at parts seat) (seat_at old seat) call (ap (λ (v : SeatView). busy_in v.phase) (sym view) ∙ b) in
    let same : overlay (table_begun old seat call) (slice_set parts seat (first_part call)) ≡ after_start T seat call = begun_table old parts seat call e there ∙ ap (λ (v : SeatView). with_seat T old.words seat v) (sym seat_is) in
    let seats : (table_begun old seat call).layout.config.seats ≡ old.layout.config.seats = ap (λ (x : Layout). x.config.seats) (begun_layout old seat call) in
    record {
      is = same;
      leaving = record {
        layout_is = l.layout_is ∙ sym (begun_layout old seat call);
        count = length-set parts seat (first_part call) ∙ l.count ∙ sym seats;
        seats = begun_seats old seat call ∙ l.seats ∙ sym seats;
        idle = λ i n. idle_at i (i == seat) refl there n;
        gone = λ i. begun_gone old seat i call ∙ l.gone i ∙ left_at i (i == seat) refl there;
        comes = subst Comes (sym same) (start_comes T seat call l.comes h b may here);
      };
    }
  where
    idle_at : (i : ℕ) (one : Bool) → (i == seat) ≡ one → seat < length parts → is_stays (part_at (slice_set parts seat (first_part call)) i) ≡ false → busy_in (seat_at (table_begun old seat call) i).phase ≡ false
    idle_at i true e there n =
        let is : i ≡ seat = number_is i seat e in
        let k : is_stays (first_part call) ≡ false = ap is_stays (sym (part_same parts seat (first_part call) there)) ∙ ap (λ (x : ℕ). is_stays (part_at (slice_set parts seat (first_part call)) x)) (sym is) ∙ n in
        ap (λ (x : ℕ). busy_in (seat_at (table_begun old seat call) x).phase) is ∙ ap (λ (v : SeatView). busy_in v.phase) (begun_idle old seat call k) ∙ free_below old layout parts seat l b
    idle_at i false e there n =
        ap (λ (v : SeatView). busy_in v.phase) (begun_other old seat i call e) ∙ l.idle i (ap is_stays (sym (part_other parts seat i (first_part call) e)) ∙ n)

    left_at : (i : ℕ) (one : Bool) → (i == seat) ≡ one → seat < length parts → is_left (part_at parts i) ≡ is_left (part_at (slice_set parts seat (first_part call)) i)
    left_at i true e there =
        let is : i ≡ seat = number_is i seat e in
        ap (λ (x : ℕ). is_left (part_at parts x)) is ∙ sym (l.gone seat) ∙ here ∙ sym (begins_left call) ∙ ap is_left (sym (part_same parts seat (first_part call) there)) ∙ ap (λ (x : ℕ). is_left (part_at (slice_set parts seat (first_part call)) x)) (sym is)
    left_at i false e there = ap is_left (sym (part_other parts seat i (first_part call) e))

-- at the start
pub more_stays : (parts : List Part) (i : ℕ) → ((j : ℕ) → part_at parts j ≡ Stays) → part_at (parts ++ Stays ∷ []) i ≡ Stays
more_stays [] zero f = refl
more_stays [] (suc i) f = refl
more_stays (p ∷ parts) zero f = f 0
more_stays (p ∷ parts) (suc i) f = more_stays parts i (λ j. f (suc j))

all_stay : (parts : List Part) (views : List SeatView) → ((i : ℕ) → part_at parts i ≡ Stays) → length parts ≡ length views → laid parts views ≡ views
all_stay [] views f e = refl
all_stay (p ∷ parts) [] f e = absurd (omega (arith, e))
all_stay (p ∷ parts) (v ∷ views) f e = ap₂ (λ (x : SeatView) (xs : List SeatView). x ∷ xs) (ap (λ (x : Part). laid_seat x v) (f 0)) (all_stay parts views (λ i. f (suc i)) (omega (arith, e)))

first_words : (layout : Layout) → HoldsStart layout (map (start_at layout) (range_with_len 0 (words layout)))
first_words layout = record {
  count = length-map-range_with_len (start_at layout) 0 (words layout);
  starts = λ word b. get_or-map-range_with_len (start_at layout) 0 (words layout) word word 0 b (omega arith);
}

seats_first : (layout : Layout) (i : ℕ) (in_table : Bool) → nat_lt i layout.config.seats ≡ in_table → seat_at (first_table layout) i ≡ fresh_seat layout i
seats_first layout i true e = get_or-map-range_with_len (fresh_seat layout) 0 layout.config.seats i i (fresh_seat layout i) (grind (arith, nat_tests)) (omega arith)
seats_first layout i false e =
    get_or_past (map (fresh_seat layout) (range_with_len 0 layout.config.seats)) i (fresh_seat layout i)
    (let n : length (map (fresh_seat layout) (range_with_len 0 layout.config.seats)) ≡ layout.config.seats = length-map-range_with_len (fresh_seat layout) 0 layout.config.seats in grind (arith, nat_tests))

first_shows : (layout : Layout) → Shows (first_table layout) (world_of layout [])
first_shows layout = first-start (first_table layout) (first_words layout) (λ i. seats_first layout i (nat_lt i layout.config.seats) refl)

none_gone : (layout : Layout) (i : ℕ) → is_gone (first_table layout) i ≡ false
none_gone layout i = gone_shown (first_table layout) (world_of layout []) i (first_shows layout) ∙ by_there (nat_lt i layout.config.seats)
  where
    by_there : (x : Bool) → not ((if x then 0 else 0) == 0) ≡ false
    by_there true = refl
    by_there false = refl

pub none_stay : AllStay [] 0
none_stay = record { many = refl; each = λ i. refl }

pub more_stay : (parts more : List Part) (count : ℕ) → AllStay parts count → more ≡ parts ++ Stays ∷ [] → AllStay more (count + 1)
more_stay parts more count a e = subst (λ (l : List Part). AllStay l (count + 1)) (sym e) (record {
  many = length-append parts (Stays ∷ []) ∙ ap (λ (n : ℕ). n + 1) a.many;
  each = λ i. more_stays parts i a.each;
})

pub so_many : (parts : List Part) (some count : ℕ) → AllStay parts some → some ≤ count → count ≤ some → AllStay parts count
so_many parts some count a h k = let e : some ≡ count = omega (h, k, arith) in subst (AllStay parts) e a

pub record First (rig : TableView) (layout : Layout) (parts : List Part) : Type 0 where
  pub is : overlay rig parts ≡ first_table layout
  pub leaving : Leaving rig layout parts

pub first_leaving : (rig : TableView) (layout : Layout) (parts : List Part) → is_valid layout ≡ true → rig ≡ first_table layout → length parts ≡ layout.config.seats → ((i : ℕ) → part_at parts i ≡ Stays) → First rig layout parts
first_leaving rig layout parts d is n f = subst (λ (t : TableView). First t layout parts) (sym is) (record {
  is = same;
  leaving = record {
    layout_is = refl;
    count = n;
    seats = length-map-range_with_len (fresh_seat layout) 0 layout.config.seats;
    idle = λ i k. absurd (no_truth (sym k ∙ ap is_stays (f i)));
    gone = λ i. none_gone layout i ∙ sym (ap is_left (f i));
    comes = subst Comes (sym same) (record { valid = d; seats = length-map-range_with_len (fresh_seat layout) 0 layout.config.seats; items = []; shows = first_shows layout });
  };
})
  where
    same : overlay (first_table layout) parts ≡ first_table layout
    same = ap (λ (l : List SeatView). let t : TableView = record { layout = layout; words = (first_table layout).words; seats = l } in t) (all_stay parts (first_table layout).seats f (n ∙ sym (length-map-range_with_len (fresh_seat layout) 0 layout.config.seats)))

-- whether a call of the seat is under way
busy_is : (part : Part) (v : SeatView) → busy_in (laid_seat part v).phase ≡ (if is_stays part then busy_in v.phase else is_open part)
busy_is Stays v = refl
busy_is (Parts steps) v = parting_busy v.post
busy_is (Takes place) v = refl
busy_is (Marks place count) v = refl
busy_is (Over steps left) v = refl

-- the same by the names that code has: the seat's part as it was read, and the table as it was before
get_any : (parts : List Part) (i : ℕ) (p q : Part) → i < length parts → get_or parts i p ≡ get_or parts i q
get_any [] i p q h = absurd (omega (h, arith))
get_any (part ∷ parts) zero p q h = refl
get_any (part ∷ parts) (suc i) p q h = get_any parts i p q (omega (h, arith))

pub part_read : (rig now : TableView) (layout : Layout) (parts : List Part) (seat : ℕ) (part : Part) → overlay rig parts ≡ now → Leaving rig layout parts → seat < now.layout.config.seats → part ≡ get_or parts seat part → part_at parts seat ≡ part
part_read rig now layout parts seat part is l h e =
    let low : seat < rig.layout.config.seats = subst (λ (t : TableView). seat < t.layout.config.seats) (sym is) h in
    get_any parts seat Stays part (part_there rig layout parts seat l low) ∙ sym e

pub busy_from : (rig now : TableView) (layout : Layout) (parts : List Part) (seat : ℕ) (part : Part) → overlay rig parts ≡ now → Leaving rig layout parts → seat < now.layout.config.seats → part ≡ get_or parts seat part
    → busy_in (seat_at now seat).phase ≡ (if is_stays part then busy_in (seat_at rig seat).phase else is_open part)
busy_from rig now layout parts seat part is l h e =
    let p : part_at parts seat ≡ part = part_read rig now layout parts seat part is l h e in
    ap (λ (t : TableView). busy_in (seat_at t seat).phase) (sym is)
    ∙ ap (λ (v : SeatView). busy_in v.phase) (view_at rig parts seat (lengths rig layout parts l) ∙ ap (λ (x : Part). laid_seat x (seat_at rig seat)) p)
    ∙ busy_is part (seat_at rig seat)

pub free_from : (rig now : TableView) (layout : Layout) (parts : List Part) (seat : ℕ) → overlay rig parts ≡ now → Leaving rig layout parts → busy_in (seat_at now seat).phase ≡ false → busy_in (seat_at rig seat).phase ≡ false
free_from rig now layout parts seat is l b = free_below rig layout parts seat l (ap (λ (t : TableView). busy_in (seat_at t seat).phase) is ∙ b)

pub record Started (now new : TableView) (layout : Layout) (parts : List Part) (seat : ℕ) (call : Call) : Type 0 where
  pub is : overlay new parts ≡ after_start now seat call
  pub leaving : Leaving new layout parts

pub started : (rig now new : TableView) (layout : Layout) (parts : List Part) (seat : ℕ) (call : Call) (part : Part) → overlay rig parts ≡ now → Leaving rig layout parts → seat < now.layout.config.seats → busy_in (seat_at now seat).phase ≡ false → may_begin now.layout.config call ≡ true → is_gone now seat ≡ false
    → part ≡ first_part call → new ≡ table_begun rig seat call → Started now new layout (slice_set parts seat part) seat call
started rig now new layout parts seat call part is l h b may here p n =
    let low : seat < rig.layout.config.seats = subst (λ (t : TableView). seat < t.layout.config.seats) (sym is) h in
    let free : busy_in (seat_at (overlay rig parts) seat).phase ≡ false = ap (λ (t : TableView). busy_in (seat_at t seat).phase) is ∙ b in
    let right : may_begin rig.layout.config call ≡ true = ap (λ (t : TableView). may_begin t.layout.config call) is ∙ may in
    let there : is_gone (overlay rig parts) seat ≡ false = ap (λ (t : TableView). is_gone t seat) is ∙ here in
    let g : Begun (table_begun rig seat call) rig layout parts seat call = begun rig layout parts seat call l low free right there in
    subst (λ (x : Part). Started now new layout (slice_set parts seat x) seat call) (sym p)
    (subst (λ (t : TableView). Started now t layout (slice_set parts seat (first_part call)) seat call) (sym n)
    (record { is = g.is ∙ ap (λ (t : TableView). after_start t seat call) is; leaving = g.leaving }))

pub words_from : (rig : TableView) (layout : Layout) (parts : List Part) → Leaving rig layout parts → length rig.words ≡ words rig.layout
words_from rig layout parts l = words_count rig parts l.comes

pub may_from : (rig now : TableView) (layout : Layout) (parts : List Part) (seat : ℕ) (part : Part) → overlay rig parts ≡ now → Leaving rig layout parts → seat < now.layout.config.seats → busy_in (seat_at now seat).phase ≡ true → part ≡ get_or parts seat part → MayMake rig seat part
may_from rig now layout parts seat part is l h b e =
    may_make rig layout parts seat part l (subst (λ (t : TableView). seat < t.layout.config.seats) (sym is) h) (ap (λ (t : TableView). busy_in (seat_at t seat).phase) is ∙ b) (part_read rig now layout parts seat part is l h e)

pub record Made (now new : TableView) (layout : Layout) (parts : List Part) (seat : ℕ) (told : List Event) (answer : Option Answer) : Type 0 where
  pub unit : IsUnit now (overlay new parts) seat told answer
  pub falls : units_left (overlay new parts) seat < units_left now seat
  pub leaving : Leaving new layout parts

pub made_from : (rig now new : TableView) (layout : Layout) (parts : List Part) (seat : ℕ) (part next : Part) (told : List Event) (answer : Option Answer) → overlay rig parts ≡ now → Leaving rig layout parts → seat < now.layout.config.seats → busy_in (seat_at now seat).phase ≡ true → part ≡ get_or parts seat part
    → MadeUnit rig new seat part next told answer → Made now new layout (slice_set parts seat next) seat told answer
made_from rig now new layout parts seat part next told answer is l h b e u =
    let T : TableView = overlay rig parts in
    let low : seat < rig.layout.config.seats = subst (λ (t : TableView). seat < t.layout.config.seats) (sym is) h in
    let busy : busy_in (seat_at T seat).phase ≡ true = ap (λ (t : TableView). busy_in (seat_at t seat).phase) is ∙ b in
    let g : Goes rig new parts seat next told answer = made_goes rig new layout parts seat part next told answer l low busy (part_read rig now layout parts seat part is l h e) u in
    subst (λ (t : TableView). Made t new layout (slice_set parts seat next) seat told answer) is (record {
      unit = g.unit;
      falls = unit_falls T (overlay new (slice_set parts seat next)) seat told answer l.comes g.unit low busy;
      leaving = leaving_after rig new layout parts seat next told answer l low busy g;
    })

pub first_from : (rig : TableView) (layout : Layout) (parts : List Part) (config : Config) → is_valid layout ≡ true → rig ≡ first_table layout → config ≡ layout.config → AllStay parts config.seats → First rig layout parts
first_from rig layout parts config d is c a = first_leaving rig layout parts d is (a.many ∙ ap (λ (x : Config). x.seats) c) a.each
