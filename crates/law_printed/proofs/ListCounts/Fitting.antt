-- Each entry of a history's record changes lists as it may.
use Rattle.std.proofs.Common.{Bool, List, [], ap, arith, false, length, length-append, refl, subst, sym, true, ℕ, ◌+◌, ◌++◌, ◌<◌, ◌≤◌, ◌∙◌, ◌≡◌, ◌∷◌}
use Rattle.std.proofs.lemmas.Bool.Decides.{nat_tests}
use Rattle.std.proofs.lemmas.Map.Steps.{length-le_from_distinct_below}
use Rattle.std.specs.List.{filter}
use Rattle.std.specs.Prelude.{if◌then◌else◌, nat_le, nat_lt, not, ◌&&◌, ◌==◌, ◌||◌}
use Rattle.law_reuse.proofs.inv.model.Facts.{both, number_is}
use Rattle.law_reuse.proofs.inv.model.Lists.{slots_length}
use Rattle.law_reuse.proofs.inv.model.words.Bounds.{slots_few}
use Rattle.law_reuse.specs.inv.model.words.Place.Place.{PlaceOf}
use Rattle.law_reuse.specs.inv.model.words.declared.layout.Layout.{Layout}
use Rattle.law_reuse.specs.inv.model.defs.Events.{is_of_rows}
use Rattle.law_reuse.specs.inv.model.defs.declared.call.Call.{Call}
use Rattle.law_reuse.specs.inv.model.defs.declared.event.Event.{Event}
use Rattle.law_reuse.specs.inv.model.defs.declared.event.Event.TheVariants as events
use Rattle.law_reuse.specs.inv.model.defs.declared.lifetime.Lifetime.{Lifetime}
use Rattle.law_reuse.specs.inv.model.Calls.{KeepAt, Keeping, MarkLeft, Phase, TakeList, Works}
use Rattle.law_reuse.specs.inv.model.CallReady.{slots_of}
use Rattle.law_reuse.specs.inv.model.World.{World, finds, is_busy, list_in, may_start, offered, step, told_in}
use Rattle.law_reuse.specs.inv.history.History.{Begins, Made, Steps, done, first_made, made_of, record_of}
use Rattle.law_reuse.specs.inv.history.Record.{Each, Past, tells_of}
use Rattle.law_reuse.specs.inv.history.Record.Past.{Then}
use Rattle.law_reuse.proofs.inv.history.Along.{Steady, items_keep}
use Rattle.law_reuse.specs.inv.Inv.{Inv}
use Rattle.law_reuse.specs.inv.Places.{PlaceShows}
use Rattle.law_reuse.proofs.inv.Inv.Places.{inv_places}
use Rattle.law_reuse.specs.inv.ends.Lists.{is_of_lists, list_events}
use Rattle.law_reuse.proofs.inv.ends.Ends.Lists.{lists_told}
use Rattle.law_reuse.specs.inv.ends.Told.{birth_in, move_of, row_events}
use Rattle.law_reuse.proofs.inv.ends.Told.Rows.{rows_told}
use Rattle.law_reuse.specs.inv.covers.Covers.{CoversNeeds}
use Rattle.law_reuse.proofs.inv.covers.Kept.{before_at}
use Rattle.law_reuse.proofs.inv.Inv.Whole.{covers_of}
use Rattle.law_reuse.specs.inv.rows.Agree.{Agree}
use Rattle.law_reuse.specs.inv.rows.Facts.{Listing, SeatShows}
use Rattle.law_reuse.specs.inv.rows.Hands.{each_once, no_entry}
use Rattle.law_reuse.specs.inv.rows.Rows.{RowMove, View}
use Rattle.law_reuse.specs.inv.rows.Rows.RowMove.{Adopts, Appends, Bears, Claims, Drops, Links, Lists, Pops, Reads, Replaces, Returns, Seals, Stays}
use Rattle.law_reuse.proofs.inv.rows.Fits.{MoveFits}
use Rattle.law_reuse.proofs.laws.Along.{OfKind, Single, along, along_kind, list_quiet, list_tells, single_each}
use Rattle.law_reuse.specs.laws.Lists.{gained_by, handed_by, hands_none, has_slot, is_handed, list_by, list_of, without}
use Rattle.law_reuse.specs.Rows.{Shows}
use Rattle.law_reuse.proofs.Once.Desks.{takes_list}
use Rattle.law_reuse.proofs.Once.Keeps as keeping
use Rattle.law_reuse.proofs.Once.Lists.{Taker, busy_list, gift_is, step_list, told_taken, word_left}
use Rattle.law_reuse.proofs.Once.Moves.{in_has}
use Rattle.law_printed.specs.ListCounts.Counted.{RecordsCountLists, waiting_of}
use Rattle.law_printed.proofs.ListCounts.Counting.{Counts, counted, lists_fit}

-- events that change lists, and some that change none
abbrev is_listing : Event → Bool
is_listing event = is_of_rows event || is_handed event

quiet_fit : (seats slots : ℕ) (p : Past) (i : ℕ) (event : Event) → is_listing event ≡ false → lists_fit seats slots p i event ≡ true
quiet_fit seats slots p i (events.Retire slot birth retire) h = absurd (cc)
quiet_fit seats slots p i (events.Back slot) h = absurd (cc)
quiet_fit seats slots p i (events.Adopted place count) h = absurd (cc)
quiet_fit seats slots p i event h = refl

quiet_own : (event : Event) (other : ℕ → List Lifetime) (list : List Lifetime) → is_listing event ≡ false → gained_by event other list ≡ list
quiet_own (events.Retire slot birth retire) other list h = absurd (cc)
quiet_own (events.Back slot) other list h = absurd (cc)
quiet_own (events.Adopted place count) other list h = absurd (cc)
quiet_own event other list h = refl

quiet_other : (k : ℕ) (event : Event) (list : List Lifetime) → is_listing event ≡ false → handed_by k event list ≡ list
quiet_other k (events.Adopted place count) list h = absurd (cc)
quiet_other k event list h = refl

quiet_list : (p : Past) (i k : ℕ) (event : Event) (same : Bool) → (k == i) ≡ same → is_listing event ≡ false → list_of k (Then p i event) ≡ list_of k p
quiet_list p i k event true e h = rw e (quiet_own event (λ (place : ℕ). list_of place p) (list_of k p) h)
quiet_list p i k event false e h = rw e (quiet_other k event (list_of k p) h)

still_fit : (seats slots : ℕ) (p : Past) (i : ℕ) (event other : Event) → is_listing event ≡ false → lists_fit seats slots p i other ≡ true → lists_fit seats slots (Then p i event) i other ≡ true
still_fit seats slots p i event (events.Retire slot birth retire) h f =
    subst (λ (own : List Lifetime). (nat_lt i seats && nat_le (length own) slots) ≡ true) (sym (quiet_list p i i event (i == i) refl h)) f
still_fit seats slots p i event (events.Back slot) h f =
    subst (λ (own : List Lifetime). (nat_lt i seats && length (without slot own) + 1 == length own) ≡ true) (sym (quiet_list p i i event (i == i) refl h)) f
still_fit seats slots p i event (events.Adopted place count) h f =
    subst (λ (own : List Lifetime). ((nat_lt i seats && nat_lt place seats) && (not (i == place) && nat_le (length own + length (list_of place (Then p i event))) (slots + 1))) ≡ true) (sym (quiet_list p i i event (i == i) refl h))
    (subst (λ (gift : List Lifetime). ((nat_lt i seats && nat_lt place seats) && (not (i == place) && nat_le (length (list_of i p) + length gift) (slots + 1))) ≡ true) (sym (quiet_list p i place event (place == i) refl h)) f)
still_fit seats slots p i event other h f = f

of_lists : (seats slots : ℕ) → OfKind is_listing (lists_fit seats slots)
of_lists seats slots = record { quiet = quiet_fit seats slots; still = still_fit seats slots }

-- where no list is taken over only rows change lists
rows_alone : (told : List Event) → hands_none told ≡ true → filter is_listing told ≡ filter is_of_rows told
rows_alone [] h = refl
rows_alone (event ∷ told) h =
    let none : is_handed event ≡ false = grind (arith, nat_tests) in
    let rest : hands_none told ≡ true = grind (arith, nat_tests) in
    by (is_of_rows event) refl none (rows_alone told rest)
  where
    by : (of : Bool) → is_of_rows event ≡ of → is_handed event ≡ false → filter is_listing told ≡ filter is_of_rows told → filter is_listing (event ∷ told) ≡ filter is_of_rows (event ∷ told)
    by true e n f = rw e (ap (λ (es : List Event). event ∷ es) f)
    by false e n f = rw (e, n) f

-- most steps take no list over
hands_left : (told : List Event) → hands_none (filter is_of_lists told) ≡ true → hands_none told ≡ true
hands_left [] h = refl
hands_left (event ∷ told) h = by (is_of_lists event) refl (λ k. hands_left told k)
  where
    other_event : (e : Event) → is_of_lists e ≡ false → is_handed e ≡ false
    other_event (events.Adopted place count) q = absurd (cc)
    other_event e q = refl

    by : (of : Bool) → is_of_lists event ≡ of → (hands_none (filter is_of_lists told) ≡ true → hands_none told ≡ true) → hands_none (event ∷ told) ≡ true
    by true e next =
        let all : hands_none (event ∷ filter is_of_lists told) ≡ true = rw e at h in
        let none : is_handed event ≡ false = grind (arith, nat_tests) in
        let rest : hands_none (filter is_of_lists told) ≡ true = grind (arith, nat_tests) in
        rw none (next rest)
    by false e next =
        let rest : hands_none (filter is_of_lists told) ≡ true = rw e at h in
        rw (other_event event e) (next rest)

take_calm : (place found gift : ℕ) (left : Bool) → left ≡ false → hands_none (if left then events.Adopted place gift ∷ [] else []) ≡ true
take_calm place found gift true h = absurd (cc)
take_calm place found gift false h = refl

keep_calm : (at : KeepAt) (found own gift : ℕ) → takes_list (Works (Keeping at)) found ≡ false → hands_none (list_events (Works (Keeping at)) found own gift) ≡ true
keep_calm (TakeList place) found own gift h = take_calm place found gift (found == 1) h
keep_calm MarkLeft found own gift h = refl
keep_calm at found own gift h = refl

calm : (phase : Phase) (found own gift : ℕ) → takes_list phase found ≡ false → hands_none (list_events phase found own gift) ≡ true
calm (Works (Keeping at)) found own gift h = keep_calm at found own gift h
calm phase found own gift h = refl

none_handed : (w : World) (i : ℕ) → takes_list (w.seat i).phase (finds w i) ≡ false → hands_none (told_in w i) ≡ true
none_handed w i n =
    hands_left (told_in w i) (ap hands_none (lists_told w i) ∙ calm (w.seat i).phase (finds w i) (length (w.seat i).desk.list) (length (offered w i).desk.gift) n)

-- one that does has found a list left
keep_taker : (at : KeepAt) (found : ℕ) → takes_list (Works (Keeping at)) found ≡ true → Taker (Works (Keeping at)) found
keep_taker (TakeList place) found h = record { place = place; is = refl; one = h }
keep_taker at found h = absurd (cc)

taker : (phase : Phase) (found : ℕ) → takes_list phase found ≡ true → Taker phase found
taker (Works (Keeping at)) found h = keep_taker at found h
taker phase found h = absurd (cc)

-- how long a list may be
list_short : (w : World) (k : ℕ) → SeatShows w k → length (list_in w k) ≤ w.layout.config.slots + 1
list_short w k s = rw (← slots_length (list_in w k)) (length-le_from_distinct_below (slots_of (list_in w k)) (w.layout.config.slots + 1) s.apart s.below)

-- a row that is there once goes out of a list
none_without : (slot : ℕ) (list : List Lifetime) → no_entry slot list ≡ true → without slot list ≡ list
none_without slot [] h = refl
none_without slot (life ∷ lives) h =
    let k : no_entry slot lives ≡ true = grind (arith, nat_tests) in
    let o : (life.slot == slot) ≡ false = grind (arith, nat_tests) in rw o (ap (λ (x : List Lifetime). life ∷ x) (none_without slot lives k))

without_one : (slot : ℕ) (list : List Lifetime) → each_once list ≡ true → has_slot slot list ≡ true → length (without slot list) + 1 ≡ length list
without_one slot [] d h = absurd (cc)
without_one slot (life ∷ lives) d h = by (life.slot == slot) refl (λ a b. without_one slot lives a b)
  where
    by : (same : Bool) → (life.slot == slot) ≡ same → (each_once lives ≡ true → has_slot slot lives ≡ true → length (without slot lives) + 1 ≡ length lives) → length (without slot (life ∷ lives)) + 1 ≡ length (life ∷ lives)
    by true e next =
        let is : life.slot ≡ slot = number_is life.slot slot e in
        let none : no_entry life.slot lives ≡ true = grind (arith, nat_tests) in
        let same : without slot lives ≡ lives = none_without slot lives (subst (λ (s : ℕ). no_entry s lives ≡ true) is none) in
        rw e (ap (λ (xs : List Lifetime). length xs + 1) same ∙ omega arith)
    by false e next =
        let rest : each_once lives ≡ true = grind (arith, nat_tests) in
        let there : has_slot slot lives ≡ true = grind (arith, nat_tests) in
        let more : length (without slot lives) + 1 ≡ length lives = next rest there in
        rw e (omega (more, arith))

-- what is known where a seat makes its step
record At (w : World) (i : ℕ) (v : View) (p : Past) : Type 0 where
  seats : i < w.layout.config.seats
  busy : is_busy w i ≡ true
  inv : Inv w
  later : Inv (step w i)
  needs : CoversNeeds w i v
  agree : Agree w v
  shows : Shows w v p

in_range : (i seats : ℕ) → i < seats → nat_lt i seats ≡ true
in_range i seats h = grind (arith, nat_tests)

low_enough : (n most : ℕ) → n ≤ most → nat_le n most ≡ true
low_enough n most h = grind (arith, nat_tests)

-- a step that takes over no list
own_told : (w : World) (i : ℕ) (p : Past) (m : RowMove) → hands_none (told_in w i) ≡ true → move_of w i ≡ m → list_of i (tells_of p i (told_in w i)) ≡ along list_by (row_events (birth_in (w.seat i).phase) m) (list_of i p)
own_told w i p m hands e =
    list_tells i (told_in w i) p hands ∙ along_kind list_by is_of_rows list_quiet (told_in w i) (list_of i p)
    ∙ ap (λ (es : List Event). along list_by es (list_of i p)) (rows_told w i)
    ∙ ap (λ (x : RowMove). along list_by (row_events (birth_in (w.seat i).phase) x) (list_of i p)) e

retire_fits : (w : World) (i slot birth retire : ℕ) (v : View) (p : Past) → At w i v p → hands_none (told_in w i) ≡ true → move_of w i ≡ Lists slot birth retire → lists_fit w.layout.config.seats w.layout.config.slots p i (events.Retire slot birth retire) ≡ true
retire_fits w i slot birth retire v p a hands e =
    let life : Lifetime = record { slot = slot; birth = birth; retire = retire } in
    let is : list_of i p ++ life ∷ [] ≡ list_in (step w i) i = sym (own_told w i p (Lists slot birth retire) hands e) ∙ step_list w i i v p (i == i) refl a.busy a.agree a.shows in
    let longer : length (list_of i p ++ life ∷ []) ≡ length (list_of i p) + 1 = length-append (list_of i p) (life ∷ []) in
    let shown : PlaceShows (step w i) i = inv_places (step w i) i a.later in
    let short : length (list_in (step w i) i) ≤ w.layout.config.slots + 1 = list_short (step w i) i shown.lists in
    let same : length (list_of i p ++ life ∷ []) ≡ length (list_in (step w i) i) = ap length is in
    let room : length (list_of i p) ≤ w.layout.config.slots = omega (longer, short, same, arith) in
    both (nat_lt i w.layout.config.seats) (nat_le (length (list_of i p)) w.layout.config.slots) (in_range i w.layout.config.seats a.seats) (low_enough (length (list_of i p)) w.layout.config.slots room)

back_fits : (w : World) (i slot : ℕ) (v : View) (p : Past) → At w i v p → MoveFits i v (Returns slot) → lists_fit w.layout.config.seats w.layout.config.slots p i (events.Back slot) ≡ true
back_fits w i slot v p a (retire, listed) =
    let own = a.agree.plays i in
    let there : has_slot slot (list_in w i) ≡ true = in_has (list_in w i) slot (v.birth slot) retire (sym (own.lists slot (v.birth slot) retire) ∙ a.agree.good.lists i slot retire listed) in
    let once : length (without slot (list_in w i)) + 1 ≡ length (list_in w i) = without_one slot (list_in w i) own.once there in
    let is : (length (without slot (list_in w i)) + 1 == length (list_in w i)) ≡ true = grind (arith, nat_tests) in
    both (nat_lt i w.layout.config.seats) (length (without slot (list_of i p)) + 1 == length (list_of i p)) (in_range i w.layout.config.seats a.seats)
    (subst (λ (list : List Lifetime). (length (without slot list) + 1 == length list) ≡ true) (sym (a.shows.lists i)) is)

row_fits : (w : World) (i birth : ℕ) (v : View) (p : Past) (m : RowMove) → At w i v p → hands_none (told_in w i) ≡ true → move_of w i ≡ m → MoveFits i v m → Single (lists_fit w.layout.config.seats w.layout.config.slots) p i (row_events birth m)
row_fits w i birth v p Stays a hands e f = tt
row_fits w i birth v p (Claims slot) a hands e f = refl
row_fits w i birth v p (Bears slot born) a hands e f = tt
row_fits w i birth v p (Drops slot) a hands e f = refl
row_fits w i birth v p (Links bucket slot) a hands e f = tt
row_fits w i birth v p (Replaces bucket slot old) a hands e f = tt
row_fits w i birth v p (Appends slot) a hands e f = tt
row_fits w i birth v p (Pops slot next) a hands e f = tt
row_fits w i birth v p (Reads slot born) a hands e f = tt
row_fits w i birth v p (Seals slot born retire) a hands e f = tt
row_fits w i birth v p (Lists slot born retire) a hands e f = retire_fits w i slot born retire v p a hands e
row_fits w i birth v p (Returns slot) a hands e f = back_fits w i slot v p a f
row_fits w i birth v p (Adopts from) a hands e f = tt

calm_step : (w : World) (i : ℕ) (v : View) (p : Past) → At w i v p → takes_list (w.seat i).phase (finds w i) ≡ false → Each (lists_fit w.layout.config.seats w.layout.config.slots) p → Each (lists_fit w.layout.config.seats w.layout.config.slots) (tells_of p i (told_in w i))
calm_step w i v p a n g =
    let fit = lists_fit w.layout.config.seats w.layout.config.slots in
    let hands : hands_none (told_in w i) ≡ true = none_handed w i n in
    let one : Single fit p i (row_events (birth_in (w.seat i).phase) (move_of w i)) = row_fits w i (birth_in (w.seat i).phase) v p (move_of w i) a hands refl (before_at w i v a.needs) in
    single_each is_listing fit (of_lists w.layout.config.seats w.layout.config.slots) i (told_in w i) p (subst (λ (es : List Event). Single fit p i es) (sym (rows_alone (told_in w i) hands ∙ rows_told w i)) one) g

-- a step that takes one over
apart_by : (mem : ℕ → ℕ) (i place : ℕ) (same : Bool) → (i == place) ≡ same → mem i ≡ 0 → mem place ≡ 1 → same ≡ false
apart_by mem i place true e z o = absurd (let x : 0 ≡ 1 = sym z ∙ ap mem (number_is i place e) ∙ o in omega (arith, x))
apart_by mem i place false e z o = refl

adopt_fits : (w : World) (i : ℕ) (v : View) (p : Past) → At w i v p → (t : Taker (w.seat i).phase (finds w i)) → lists_fit w.layout.config.seats w.layout.config.slots p i (events.Adopted t.place (length (offered w i).desk.gift)) ≡ true
adopt_fits w i v p a t =
    let slots : ℕ = w.layout.config.slots in
    let seats : ℕ = w.layout.config.seats in
    let shown : PlaceShows w i = inv_places w i a.inv in
    let lists : SeatShows w i = shown.lists in
    let there : t.place < seats = shown.takes t.place t.is in
    let away : (i == t.place) ≡ false = apart_by (λ k. w.mem (PlaceOf k)) i t.place (i == t.place) refl (shown.here a.busy) (word_left w i t.place t.is t.one) in
    let all : Listing slots ((w.seat i).desk.list ++ (offered w i).desk.gift) = lists.gains t.place t.is (number_is (finds w i) 1 t.one) in
    let own : list_of i p ≡ (w.seat i).desk.list = a.shows.lists i ∙ busy_list w i v a.busy a.agree in
    let gift : list_of t.place p ≡ (offered w i).desk.gift = a.shows.lists t.place ∙ gift_is w i t.place t.is t.one in
    let sum : length ((w.seat i).desk.list ++ (offered w i).desk.gift) ≡ length (w.seat i).desk.list + length (offered w i).desk.gift = length-append (w.seat i).desk.list (offered w i).desk.gift in
    let first : length (list_of i p) ≡ length (w.seat i).desk.list = ap length own in
    let second : length (list_of t.place p) ≡ length (offered w i).desk.gift = ap length gift in
    let room : length (list_of i p) + length (list_of t.place p) ≤ slots + 1 = omega (first, second, sum, all.short, arith) in
    both (nat_lt i seats && nat_lt t.place seats) (not (i == t.place) && nat_le (length (list_of i p) + length (list_of t.place p)) (slots + 1))
    (both (nat_lt i seats) (nat_lt t.place seats) (in_range i seats a.seats) (in_range t.place seats there))
    (both (not (i == t.place)) (nat_le (length (list_of i p) + length (list_of t.place p)) (slots + 1)) (ap not away) (low_enough (length (list_of i p) + length (list_of t.place p)) (slots + 1) room))

any_step : (w : World) (i : ℕ) (v : View) (p : Past) (takes : Bool) → takes_list (w.seat i).phase (finds w i) ≡ takes → At w i v p → Each (lists_fit w.layout.config.seats w.layout.config.slots) p → Each (lists_fit w.layout.config.seats w.layout.config.slots) (tells_of p i (told_in w i))
any_step w i v p true n a g =
    let t : Taker (w.seat i).phase (finds w i) = taker (w.seat i).phase (finds w i) n in
    subst (λ (es : List Event). Each (lists_fit w.layout.config.seats w.layout.config.slots) (tells_of p i es)) (sym (told_taken w i t.place t.is t.one)) (adopt_fits w i v p a t, g)
any_step w i v p false n a g = calm_step w i v p a n g

-- so it is along each history
record Fits (layout : Layout) (made : Made) : Type 0 where
  rows : keeping.Keeps layout made
  fits : Each (lists_fit layout.config.seats layout.config.slots) made.past

inv_of : (layout : Layout) (made : Made) → keeping.Keeps layout made → Inv made.world
inv_of layout made g = record { rows = g.rows; line = g.line; asked = g.asked; known = g.known }

begin_fits : (layout : Layout) (made : Made) (i : ℕ) (call : Call) → is_busy made.world i ≡ false → may_start made.world i call ≡ true → Fits layout made → Fits layout (done made (Begins i call))
begin_fits layout made i call f m g = record { rows = keeping.begin_keeps layout made i call f m g.rows; fits = (refl, g.fits) }

step_fits : (layout : Layout) (made : Made) (i : ℕ) → i < made.world.layout.config.seats → is_busy made.world i ≡ true → Fits layout made → Fits layout (done made (Steps i))
step_fits layout made i b y g =
    let r : keeping.Keeps layout made = g.rows in
    let next : keeping.Keeps layout (done made (Steps i)) = keeping.step_keeps layout made i b y r in
    let w : World = made.world in
    let a : At w i r.rows made.past = record {
      seats = b;
      busy = y;
      inv = inv_of layout made r;
      later = inv_of layout (done made (Steps i)) next;
      needs = covers_of w i r.rows r.line r.asked r.known;
      agree = r.known.whole.both.rows;
      shows = r.shows;
    } in
    record {
      rows = next;
      fits = subst (λ (l : Layout). Each (lists_fit l.config.seats l.config.slots) (tells_of made.past i (told_in w i))) r.table
          (any_step w i r.rows made.past (takes_list (w.seat i).phase (finds w i)) refl a (subst (λ (l : Layout). Each (lists_fit l.config.seats l.config.slots) made.past) (sym r.table) g.fits));
    }

steady : (layout : Layout) → Steady (Fits layout)
steady layout = record { begins = λ made i call b y m g. begin_fits layout made i call y m g; steps = λ made i b y g. step_fits layout made i b y g }

pub records_count_lists : RecordsCountLists
records_count_lists layout items d k h =
    let first : Fits layout (first_made layout) = record { rows = keeping.first_keeps layout d; fits = tt } in
    let g : Fits layout (made_of layout items) = items_keep (Fits layout) (steady layout) items (first_made layout) first in
    let c : Counts layout.config.seats (waiting_of layout.config.seats (record_of layout items)) (record_of layout items) = counted layout.config.seats layout.config.slots (record_of layout items) (slots_few layout d) g.fits in
    c.right k h
