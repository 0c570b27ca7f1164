-- A history's record says of the rows what is so, and so each of its entries keeps the laws.
use Rattle.std.proofs.Common.{ℕ, ◌≡◌, ◌<◌, Bool, true, false, List, refl, sym, ap, ◌∙◌, subst, arith, [], ◌∷◌, ◌++◌}
use Rattle.std.proofs.lemmas.Bool.Decides.{nat_tests}
use Rattle.std.specs.Prelude.{◌==◌, ◌||◌, not, if◌then◌else◌, nat_lt}
use Rattle.std.specs.List.{list_any}
use Rattle.laws.specs.words.Place.{is_valid}
use Rattle.laws.specs.words.declared.layout.Layout.{Layout}
use Rattle.laws.specs.defs.declared.call.Call.{Call}
use Rattle.laws.specs.defs.declared.event.Event.{Event}
use Rattle.laws.specs.defs.declared.event.Event.TheVariants as events
use Rattle.laws.specs.defs.declared.lifetime.Lifetime.{Lifetime}
use Rattle.inv_all.specs.model.Posts.{counted}
use Rattle.inv_all.specs.model.World.{World, begin, finds, is_busy, offered, start, step, told_in, may_start, list_in}
use Rattle.inv_all.proofs.model.Facts.{both, same_number, first_of, rest_of}
use Rattle.inv_all.specs.requests.Views.{View as Asked}
use Rattle.inv_all.proofs.requests.Kept.{requests_begin, requests_start}
use Rattle.inv_all.specs.rows.Agree.{first_rows, rows_after}
use Rattle.inv_all.specs.rows.Chain.{first_line, line_after}
use Rattle.inv_all.specs.rows.Queue.{Line}
use Rattle.inv_all.specs.rows.Rows.{View, RowMove, made, is_taken}
use Rattle.inv_all.specs.rows.Rows.Status.{Free, InQueue, Listed}
use Rattle.inv_all.specs.rows.Rows.RowMove.{Stays, Claims, Bears, Drops, Links, Replaces, Appends, Pops, Reads, Seals, Lists, Returns, Adopts}
use Rattle.inv_all.proofs.rows.Fits.{MoveFits}
use Rattle.inv_all.specs.covers.Covers.{CoversNeeds}
use Rattle.inv_all.proofs.covers.Kept.{before_at}
use Rattle.laws.specs.records.Record.{Past, Each, tells_of}
use Rattle.laws.specs.records.Record.Past.{Start, Then}
use Rattle.laws.proofs.records.Entries.{entries_of_each}
use Rattle.inv_all.specs.history.History.{Item, Begins, Steps, Made, done, made_of, first_made, record_of}
use Rattle.inv_all.proofs.history.Along.{Steady, items_keep}
use Rattle.inv_all.specs.Known.{Known}
use Rattle.inv_all.proofs.Inv.Begun.{known_start, known_begin}
use Rattle.inv_all.proofs.Inv.Kept.{known_kept, asked_next}
use Rattle.laws.specs.defs.Events.{is_of_rows}
use Rattle.inv_all.specs.ends.Told.{of_rows, row_events, birth_in, move_of}
use Rattle.inv_all.proofs.ends.Told.Rows.{rows_told}
use Rattle.laws.specs.HistoryRows.{once_ok, back_ok}
use Rattle.law_reuse.specs.Records.{RecordsKeepOnce, RecordsGoBackOnce}
use Rattle.laws.specs.Lists.{list_of, has_slot, gained_by, is_handed}
use Rattle.laws.specs.StateAt.{taken_by, taken_at, retired_by, retired_at, cut_by, cut_at}
use Rattle.law_reuse.specs.Rows.{is_listed, is_cut, Shows, RecordShows}
use Rattle.laws.proofs.Along.{along, along_kind, taken_tells, retired_tells, cut_tells, cut_stays, taken_quiet, retired_quiet, list_quiet, Single, OfKind, single_each}
use Rattle.law_reuse.proofs.Once.Moves.{taken_made, retired_made, cuts, CutBefore, cut_made, in_has}
use Rattle.law_reuse.proofs.Once.Steps.{phase_cuts, told_retires, cut_of, cut_along}
use Rattle.inv_all.proofs.Inv.Whole.{covers_of}
use Rattle.law_reuse.proofs.Holding.Holds.{first_taken}
use Rattle.laws.specs.words.Place.Place.{PlaceOf}
use Rattle.inv_all.proofs.rows.Kept.{own_list}
use Rattle.law_reuse.proofs.Once.Lists.{step_list}
use Rattle.law_reuse.proofs.Leaving.Words.{first_placed, step_placed}

start_listed : (slots s : ℕ) (same : Bool) → (s == slots) ≡ same → false ≡ is_listed (if s == slots then InQueue else Free)
start_listed slots s true e = rw e refl
start_listed slots s false e = rw e refl

start_cut : (k slots s : ℕ) (same : Bool) → (s == slots) ≡ same → is_cut k (if s == slots then InQueue else Free) ≡ false
start_cut k slots s true e = rw e refl
start_cut k slots s false e = rw e refl

same_list : (left : Bool) (list : List Lifetime) → (if left then list else list) ≡ list
same_list true list = refl
same_list false list = refl

shows_start : (layout : Layout) → Shows (start layout) (first_rows layout) Start
shows_start layout = record {
  taken = λ s. first_taken layout.config.slots s (s == layout.config.slots) refl;
  retired = λ s. start_listed layout.config.slots s (s == layout.config.slots) refl;
  lists = λ k. sym (same_list (nat_lt 1 ((start layout).mem (PlaceOf k))) []);
  places = first_placed layout;
  cuts = λ k s h. let n = start_cut k layout.config.slots s (s == layout.config.slots) refl in absurd (cc);
}

-- a beginning of a call changes nothing of it
begin_list : (w : World) (i k : ℕ) (call : Call) (p : Past) (same : Bool) → (k == i) ≡ same → list_of k p ≡ list_in w k → list_of k (Then p i (events.Begin call)) ≡ list_in (begin w i call) k
begin_list w i k call p true e h = let q : k ≡ i = grind (arith, nat_tests) in rw e (h ∙ ap (λ (j : ℕ). own_list (w.mem (PlaceOf k)) (w.seat j).desk.list) q)
begin_list w i k call p false e h = rw e h

begin_cut : (k i s : ℕ) (call : Call) (p : Past) (same : Bool) → (k == i) ≡ same → cut_at k s (Then p i (events.Begin call)) ≡ cut_at k s p
begin_cut k i s call p true e = rw e refl
begin_cut k i s call p false e = rw e refl

shows_begin : (w : World) (i : ℕ) (call : Call) (v : View) (p : Past) → Shows w v p → Shows (begin w i call) v (Then p i (events.Begin call))
shows_begin w i call v p h = record {
  taken = h.taken;
  retired = h.retired;
  lists = λ k. begin_list w i k call p (k == i) refl (h.lists k);
  places = record { left = h.places.left; adopted = h.places.adopted };
  cuts = λ k s c. begin_cut k i s call p (k == i) refl ∙ h.cuts k s c;
}

-- a step: what was cut before, or is now
cut_own : (w : World) (i s : ℕ) (v : View) (p : Past) (now : Bool) → cuts (move_of w i) s ≡ now → CutBefore i i v (move_of w i) s → Shows w v p → cut_at i s (tells_of p i (told_in w i)) ≡ true
cut_own w i s v p now e c h =
    let r = told_retires s (birth_in (w.seat i).phase) (move_of w i) (told_in w i) (rows_told w i) ∙ c.stays in
    cut_tells i s (told_in w i) p ∙ cut_along s (told_in w i) (cut_at i s p) r (by now e)
  where
    either : (a b : Bool) → a ≡ true → (a || b) ≡ true
    either true b x = refl
    either false b x = absurd (cc)

    later : (a b : Bool) → b ≡ true → (a || b) ≡ true
    later true b x = refl
    later false b x = x

    by : (now : Bool) → cuts (move_of w i) s ≡ now → (list_any (cut_of s) (told_in w i) || cut_at i s p) ≡ true
    by true e = either (list_any (cut_of s) (told_in w i)) (cut_at i s p) (phase_cuts s (w.seat i).phase (w.seat i).post (counted (w.seat i).post) (offered w i).desk (finds w i) e)
    by false e = later (list_any (cut_of s) (told_in w i)) (cut_at i s p) (h.cuts i s (c.before e))

not_now : (i k s : ℕ) (v : View) (m : RowMove) (now : Bool) → cuts m s ≡ now → (k == i) ≡ false → CutBefore i k v m s → is_cut k (v.status s) ≡ true
not_now i k s v m true e n c = let q : k ≡ i = c.now e in absurd (grind (arith, nat_tests))
not_now i k s v m false e n c = c.before e

step_cut : (w : World) (i k s : ℕ) (v : View) (p : Past) (same : Bool) → (k == i) ≡ same → MoveFits i v (move_of w i) → Shows w v p → is_cut k ((rows_after w i v).status s) ≡ true → cut_at k s (tells_of p i (told_in w i)) ≡ true
step_cut w i k s v p true e f h c =
    let q : i ≡ k = grind (arith, nat_tests) in
    subst (λ (j : ℕ). is_cut j ((rows_after w i v).status s) ≡ true → cut_at j s (tells_of p i (told_in w i)) ≡ true) q (λ x. cut_own w i s v p (cuts (move_of w i) s) refl (cut_made i i v (move_of w i) s f x) h) c
step_cut w i k s v p false e f h c =
    cut_stays k i s (told_in w i) p e ∙ h.cuts k s (not_now i k s v (move_of w i) (cuts (move_of w i) s) refl e (cut_made i k v (move_of w i) s f c))

shows_step : (w : World) (i : ℕ) (v : View) (p : Past) → is_busy w i ≡ true → CoversNeeds w i v → Shows w v p → Shows (step w i) (rows_after w i v) (tells_of p i (told_in w i))
shows_step w i v p b n h =
    let f : MoveFits i v (move_of w i) = before_at w i v n in
    let slots : ℕ = w.layout.config.slots in
    let birth : ℕ = birth_in (w.seat i).phase in
    record {
      taken = λ s.
          taken_tells slots s i (told_in w i) p ∙ along_kind (taken_by s) is_of_rows (taken_quiet s) (told_in w i) (taken_at slots s p)
          ∙ ap (λ (es : List Event). along (taken_by s) es (taken_at slots s p)) (rows_told w i)
          ∙ ap (along (taken_by s) (row_events birth (move_of w i))) (h.taken s) ∙ taken_made i v (move_of w i) birth s f;
      retired = λ s.
          retired_tells s i (told_in w i) p ∙ along_kind (retired_by s) is_of_rows (retired_quiet s) (told_in w i) (retired_at s p)
          ∙ ap (λ (es : List Event). along (retired_by s) es (retired_at s p)) (rows_told w i)
          ∙ ap (along (retired_by s) (row_events birth (move_of w i))) (h.retired s) ∙ retired_made i v (move_of w i) birth s f;
      lists = λ k. step_list w i k v p (k == i) refl b n.rows h;
      places = step_placed w i v p b n.rows h.places;
      cuts = λ k s c. step_cut w i k s v p (k == i) refl f h c;
    }

-- the laws
gained_quiet : (event : Event) (other : ℕ → List Lifetime) (list : List Lifetime) → is_handed event ≡ false → is_of_rows event ≡ false → gained_by event other list ≡ list
gained_quiet (events.Adopted place count) other list n h = absurd (cc)
gained_quiet event other list n h = list_quiet event list h

-- a list that a seat takes over makes its own only longer
has_more : (slot : ℕ) (list more : List Lifetime) → has_slot slot list ≡ true → has_slot slot (list ++ more) ≡ true
has_more slot [] more h = absurd (cc)
has_more slot (life ∷ lives) more h = by (life.slot == slot) (has_more slot lives more) h
  where
    by : (same : Bool) → (has_slot slot lives ≡ true → has_slot slot (lives ++ more) ≡ true) → (same || has_slot slot lives) ≡ true → (same || has_slot slot (lives ++ more)) ≡ true
    by true f h = refl
    by false f h = f h

gained_has : (slot : ℕ) (event : Event) (other : ℕ → List Lifetime) (list : List Lifetime) → is_of_rows event ≡ false → has_slot slot list ≡ true → has_slot slot (gained_by event other list) ≡ true
gained_has slot (events.Adopted place count) other list q h = has_more slot list (other place) h
gained_has slot event other list q h = ap (has_slot slot) (gained_quiet event other list refl q) ∙ h

list_still : (i slot : ℕ) (event : Event) (p : Past) → is_of_rows event ≡ false → has_slot slot (list_of i p) ≡ true → has_slot slot (list_of i (Then p i event)) ≡ true
list_still i slot event p q h = rw (same_number i) (gained_has slot event (λ (place : ℕ). list_of place p) (list_of i p) q h)

cut_quiet : (s : ℕ) (event : Event) (x : Bool) → is_of_rows event ≡ false → x ≡ true → cut_by s event x ≡ true
cut_quiet s (events.Retire slot birth retire) x h c = absurd (cc)
cut_quiet s (events.Cut slot) x h c = by (s == slot)
  where
    by : (same : Bool) → (if same then true else x) ≡ true
    by true = refl
    by false = c
cut_quiet s event x h c = c

cut_still : (i k s : ℕ) (event : Event) (p : Past) → is_of_rows event ≡ false → cut_at k s p ≡ true → cut_at k s (Then p i event) ≡ true
cut_still i k s event p h c = by (k == i)
  where
    by : (same : Bool) → (if same then cut_by s event (cut_at k s p) else cut_at k s p) ≡ true
    by true = cut_quiet s event (cut_at k s p) h c
    by false = c

once_quiet : (slots : ℕ) (p : Past) (i : ℕ) (event : Event) → is_of_rows event ≡ false → once_ok slots p i event ≡ true
once_quiet slots p i (events.Give slot birth) h = absurd (cc)
once_quiet slots p i (events.Unused slot) h = absurd (cc)
once_quiet slots p i (events.Back slot) h = absurd (cc)
once_quiet slots p i (events.Retire slot birth retire) h = absurd (cc)
once_quiet slots p i event h = refl

once_still : (slots : ℕ) (p : Past) (i : ℕ) (event other : Event) → is_of_rows event ≡ false → once_ok slots p i other ≡ true → once_ok slots (Then p i event) i other ≡ true
once_still slots p i event (events.Give slot birth) h c = ap not (taken_quiet slot event (taken_at slots slot p) h) ∙ c
once_still slots p i event (events.Unused slot) h c = taken_quiet slot event (taken_at slots slot p) h ∙ c
once_still slots p i event (events.Back slot) h c =
    both (taken_by slot event (taken_at slots slot p)) (has_slot slot (list_of i (Then p i event)))
    (taken_quiet slot event (taken_at slots slot p) h ∙ first_of (taken_at slots slot p) (has_slot slot (list_of i p)) c)
    (list_still i slot event p h (rest_of (taken_at slots slot p) (has_slot slot (list_of i p)) c))
once_still slots p i event (events.Retire slot birth retire) h c =
    both (taken_by slot event (taken_at slots slot p)) (cut_at i slot (Then p i event))
    (taken_quiet slot event (taken_at slots slot p) h ∙ first_of (taken_at slots slot p) (cut_at i slot p) c)
    (cut_still i i slot event p h (rest_of (taken_at slots slot p) (cut_at i slot p) c))
once_still slots p i event other h c = c

once_kind : (slots : ℕ) → OfKind is_of_rows (once_ok slots)
once_kind slots = record { quiet = once_quiet slots; still = once_still slots }

back_quiet : (p : Past) (i : ℕ) (event : Event) → is_of_rows event ≡ false → back_ok p i event ≡ true
back_quiet p i (events.Back slot) h = absurd (cc)
back_quiet p i event h = refl

back_still : (p : Past) (i : ℕ) (event other : Event) → is_of_rows event ≡ false → back_ok p i other ≡ true → back_ok (Then p i event) i other ≡ true
back_still p i event (events.Back slot) h c = retired_quiet slot event (retired_at slot p) h ∙ c
back_still p i event other h c = c

back_kind : OfKind is_of_rows back_ok
back_kind = record { quiet = back_quiet; still = back_still }

in_own : (w : World) (i slot retire : ℕ) (v : View) → CoversNeeds w i v → v.status slot ≡ Listed i retire → has_slot slot (list_in w i) ≡ true
in_own w i slot retire v n e =
    in_has (list_in w i) slot (v.birth slot) retire (sym ((n.rows.plays i).lists slot (v.birth slot) retire) ∙ n.rows.good.lists i slot retire e)

once_move : (w : World) (i birth : ℕ) (v : View) (p : Past) (m : RowMove) → CoversNeeds w i v → MoveFits i v m → Shows w v p → Single (once_ok w.layout.config.slots) p i (row_events birth m)
once_move w i birth v p Stays n f h = tt
once_move w i birth v p (Claims slot) n f h = ap not (h.taken slot ∙ ap is_taken f)
once_move w i birth v p (Bears slot born) n f h = tt
once_move w i birth v p (Drops slot) n f h = h.taken slot ∙ ap is_taken f
once_move w i birth v p (Links bucket slot) n f h = tt
once_move w i birth v p (Replaces bucket slot old) n f h = tt
once_move w i birth v p (Appends slot) n f h = tt
once_move w i birth v p (Pops slot next) n f h = tt
once_move w i birth v p (Reads slot born) n f h = tt
once_move w i birth v p (Seals slot born retire) n f h = tt
once_move w i birth v p (Lists slot born retire) n f h =
    both (taken_at w.layout.config.slots slot p) (cut_at i slot p) (h.taken slot ∙ ap is_taken f) (h.cuts i slot (ap (is_cut i) f ∙ same_number i))
once_move w i birth v p (Returns slot) n f h =
    both (taken_at w.layout.config.slots slot p) (has_slot slot (list_of i p)) (h.taken slot ∙ ap is_taken f.1) (ap (has_slot slot) (h.lists i) ∙ in_own w i slot f.0 v n f.1)
once_move w i birth v p (Adopts from) n f h = tt

back_move : (w : World) (i birth : ℕ) (v : View) (p : Past) (m : RowMove) → MoveFits i v m → Shows w v p → Single back_ok p i (row_events birth m)
back_move w i birth v p Stays f h = tt
back_move w i birth v p (Claims slot) f h = refl
back_move w i birth v p (Bears slot born) f h = tt
back_move w i birth v p (Drops slot) f h = refl
back_move w i birth v p (Links bucket slot) f h = tt
back_move w i birth v p (Replaces bucket slot old) f h = tt
back_move w i birth v p (Appends slot) f h = tt
back_move w i birth v p (Pops slot next) f h = tt
back_move w i birth v p (Reads slot born) f h = tt
back_move w i birth v p (Seals slot born retire) f h = tt
back_move w i birth v p (Lists slot born retire) f h = refl
back_move w i birth v p (Returns slot) f h = h.retired slot ∙ ap is_listed f.1
back_move w i birth v p (Adopts from) f h = tt

-- what a history keeps
pub record Keeps (layout : Layout) (made : Made) : Type 0 where
  pub table : made.world.layout ≡ layout
  pub rows : View
  pub line : Line
  pub asked : Asked
  pub known : Known made.world rows line asked
  pub shows : Shows made.world rows made.past
  pub once : Each (once_ok layout.config.slots) made.past
  pub backs : Each back_ok made.past

step_once : (w : World) (i : ℕ) (v : View) (p : Past) (layout : Layout) → w.layout ≡ layout → CoversNeeds w i v → Shows w v p → Each (once_ok layout.config.slots) p → Each (once_ok layout.config.slots) (tells_of p i (told_in w i))
step_once w i v p layout e n h t =
    let b : ℕ = birth_in (w.seat i).phase in
    let s : Single (once_ok w.layout.config.slots) p i (row_events b (move_of w i)) = once_move w i b v p (move_of w i) n (before_at w i v n) h in
    let r : Single (once_ok layout.config.slots) p i (of_rows (told_in w i)) =
    subst (λ (x : Layout). Single (once_ok x.config.slots) p i (of_rows (told_in w i))) e (subst (λ (es : List Event). Single (once_ok w.layout.config.slots) p i es) (sym (rows_told w i)) s) in
    single_each is_of_rows (once_ok layout.config.slots) (once_kind layout.config.slots) i (told_in w i) p r t

step_back : (w : World) (i : ℕ) (v : View) (p : Past) → CoversNeeds w i v → Shows w v p → Each back_ok p → Each back_ok (tells_of p i (told_in w i))
step_back w i v p n h t =
    let b : ℕ = birth_in (w.seat i).phase in
    let s : Single back_ok p i (row_events b (move_of w i)) = back_move w i b v p (move_of w i) (before_at w i v n) h in
    single_each is_of_rows back_ok back_kind i (told_in w i) p (subst (λ (es : List Event). Single back_ok p i es) (sym (rows_told w i)) s) t

pub begin_keeps : (layout : Layout) (made : Made) (i : ℕ) (call : Call) → is_busy made.world i ≡ false → may_start made.world i call ≡ true → Keeps layout made → Keeps layout (done made (Begins i call))
begin_keeps layout made i call f m g =
    let k = g.known in
    let q = requests_begin made.world i call g.asked k.valid f k.seats k.requests in
    record {
      table = g.table;
      rows = g.rows;
      line = g.line;
      asked = q.0;
      known = known_begin made.world i call g.rows g.line g.asked q.0 f m k q.1.facts q.1.deal;
      shows = shows_begin made.world i call g.rows made.past g.shows;
      once = (refl, g.once);
      backs = (refl, g.backs);
    }

pub step_keeps : (layout : Layout) (made : Made) (i : ℕ) → i < made.world.layout.config.seats → is_busy made.world i ≡ true → Keeps layout made → Keeps layout (done made (Steps i))
step_keeps layout made i b y g =
    let k = g.known in
    let q = asked_next made.world i g.rows g.line g.asked b k in
    let n = covers_of made.world i g.rows g.line g.asked k in
    record {
      table = g.table;
      rows = rows_after made.world i g.rows;
      line = line_after made.world i g.line;
      asked = q.0;
      known = known_kept made.world i g.rows g.line g.asked q.0 b k q.1.facts q.1.deal;
      shows = shows_step made.world i g.rows made.past y n g.shows;
      once = step_once made.world i g.rows made.past layout g.table n g.shows g.once;
      backs = step_back made.world i g.rows made.past n g.shows g.backs;
    }

steady : (layout : Layout) → Steady (Keeps layout)
steady layout = record { begins = λ made i call b y m g. begin_keeps layout made i call y m g; steps = λ made i b y g. step_keeps layout made i b y g }

pub first_keeps : (layout : Layout) → is_valid layout ≡ true → Keeps layout (first_made layout)
first_keeps layout d =
    let q = requests_start layout d in
    record {
      table = refl;
      rows = first_rows layout;
      line = first_line layout;
      asked = q.0;
      known = known_start layout q.0 d q.1.facts q.1.deal;
      shows = shows_start layout;
      once = tt;
      backs = tt;
    }

pub history_keeps : (layout : Layout) (items : List Item) → is_valid layout ≡ true → Keeps layout (made_of layout items)
history_keeps layout items d = items_keep (Keeps layout) (steady layout) items (first_made layout) (first_keeps layout d)

pub record_shows : RecordShows
record_shows layout items d = let g = history_keeps layout items d in record { rows = g.rows; agree = g.known.whole.both.rows; shows = g.shows }

pub records_keep_once : RecordsKeepOnce
records_keep_once layout items d = let g = history_keeps layout items d in entries_of_each (once_ok layout.config.slots) (record_of layout items) g.once

pub records_go_back_once : RecordsGoBackOnce
records_go_back_once layout items d = let g = history_keeps layout items d in entries_of_each back_ok (record_of layout items) g.backs
