-- What a history keeps of guards and of lives, and so what stands is held.
use Rattle.std.proofs.Common.{ℕ, ◌≡◌, ◌<◌, Bool, true, false, List, Some, refl, sym, ap, ◌∙◌, subst, arith}
use Rattle.std.proofs.lemmas.Bool.Decides.{nat_tests}
use Rattle.std.specs.Prelude.{◌==◌, if◌then◌else◌}
use Rattle.laws.specs.defs.declared.shown.Shown.{Shown}
use Rattle.laws.specs.defs.Shown.{keeps}
use Rattle.laws.specs.defs.declared.shown.Shown.TheVariants.{Nothing, Eras, Row}
use Rattle.laws.specs.words.Schemes.{publishes_rows}
use Rattle.laws.specs.words.Place.{is_valid}
use Rattle.laws.specs.words.Place.Place.{Clock}
use Rattle.laws.specs.words.declared.layout.Layout.{Layout}
use Rattle.laws.specs.defs.declared.call.Call.{Call}
use Rattle.laws.specs.defs.declared.event.Event.{Event}
use Rattle.laws.specs.defs.declared.event.Guard.{Guard}
use Rattle.inv_all.specs.model.Calls.{Why, Runs}
use Rattle.inv_all.specs.model.Guards.{own_guard}
use Rattle.inv_all.specs.model.Phases.{Base}
use Rattle.inv_all.specs.model.Posts.{stands}
use Rattle.inv_all.specs.model.World.{World, is_busy, start, step, told_in, may_start}
use Rattle.inv_all.proofs.model.Facts.{both}
use Rattle.inv_all.specs.requests.Views.{View as Asked}
use Rattle.inv_all.specs.rows.Agree.{first_rows, rows_after}
use Rattle.inv_all.proofs.requests.Kept.{requests_begin, requests_start}
use Rattle.inv_all.specs.rows.Chain.{first_line, line_after}
use Rattle.inv_all.specs.rows.Queue.{Line}
use Rattle.inv_all.specs.rows.Rows.{Status, View, is_settled, is_taken, retire_in}
use Rattle.inv_all.specs.rows.Rows.Status.{Free, Claimed, Born, Linked, InQueue, Cut, Sealed, Listed}
use Rattle.inv_all.specs.shapes.Slots.{PhaseIn}
use Rattle.inv_all.specs.covers.Covers.{shown, retired_at, life_of}
use Rattle.inv_all.proofs.covers.Kept.{before_at}
use Rattle.laws.specs.records.Record.{Past, tells_of}
use Rattle.laws.specs.records.Record.Past.{Start}
use Rattle.inv_all.specs.history.History.{Item, Begins, Steps, Made, done, made_of, first_made, record_of, world_of}
use Rattle.inv_all.proofs.history.Along.{Steady, items_keep}
use Rattle.inv_all.specs.ends.Births.{Given, GivenNeeds, given_after}
use Rattle.inv_all.proofs.ends.Told.Births.{given_start, given_begin, given_kept}
use Rattle.laws.specs.defs.Events.{is_of_rows}
use Rattle.inv_all.specs.ends.Told.{row_events, birth_in, move_of}
use Rattle.inv_all.proofs.ends.Told.Rows.{rows_told}
use Rattle.inv_all.specs.Known.{Known}
use Rattle.inv_all.proofs.Inv.Ready.{eras_need}
use Rattle.inv_all.proofs.Inv.Begun.{known_start, known_begin}
use Rattle.inv_all.proofs.Inv.Kept.{known_kept, asked_next}
use Rattle.inv_all.proofs.Inv.Rows.{rows_need, covers_need, settled_life}
use Rattle.inv_all.proofs.Inv.Shapes.{eras_of}
use Rattle.inv_all.proofs.Inv.Shown.{clock_small}
use Rattle.law_reuse.proofs.Reuse.Keeps.{record_stands}
use Rattle.laws.specs.StateAt.{taken_by, taken_at, published_at, birth_of, retire_of, ended_by, life_at}
use Rattle.laws.proofs.Along.{along, along_kind, taken_tells, taken_quiet}
use Rattle.law_reuse.proofs.Once.Moves.{taken_made}
use Rattle.laws.specs.HoldLaw.{is_held}
use Rattle.law_reuse.specs.Records.{RecordHazards, RecordPublishes, RecordsHold, RecordValues}
use Rattle.law_reuse.proofs.Holding.Lives.{retire_tells, retire_quiet, birth_tells, retire_made}
use Rattle.law_reuse.proofs.Holding.Values.{Ranges}
use Rattle.law_reuse.proofs.Blocks.Published.{Values, published_is, values_begin, values_start, values_step}
use Rattle.law_reuse.proofs.Blocks.Reserves.{PhaseWords, phase_words}
use Rattle.inv_all.proofs.ends.Handover.Asks.{run_of}

-- what a record says of guards and lives is so
pub record Tied (w : World) (v : View) (p : Past) (births : ℕ → ℕ) : Type 0 where
  pub values : Values w p
  pub given : Given w v births
  pub told : (s : ℕ) → birth_of s p ≡ births s
  pub retires : (s : ℕ) → is_taken (v.status s) ≡ true → retire_of s p ≡ retire_in (v.status s)
  pub taken : (s : ℕ) → taken_at w.layout.config.slots s p ≡ is_taken (v.status s)

-- at the start
first_retire : (slots s : ℕ) (same : Bool) → (s == slots) ≡ same → 0 ≡ retire_in (if s == slots then InQueue else Free)
first_retire slots s true e = rw e refl
first_retire slots s false e = rw e refl

pub first_taken : (slots s : ℕ) (same : Bool) → (s == slots) ≡ same → (s == slots) ≡ is_taken (if s == slots then InQueue else Free)
first_taken slots s true e = rw e refl
first_taken slots s false e = rw e refl

tied_start : (layout : Layout) → Tied (start layout) (first_rows layout) Start (λ s. 1)
tied_start layout = record {
  values = values_start layout;
  given = given_start layout;
  told = λ s. refl;
  retires = λ s t. first_retire layout.config.slots s (s == layout.config.slots) refl;
  taken = λ s. first_taken layout.config.slots s (s == layout.config.slots) refl;
}

-- a step
pub given_need : (w : World) (i : ℕ) (v : View) (l : Line) (z : Asked) → Known w v l z → GivenNeeds w i v
given_need w i v l z k = record { valid = k.valid; seats = k.seats; needs = rows_need w i v l k.seats k.eras k.whole.both; rows = k.whole.both.rows }

pub ranges_of : (w : World) (i : ℕ) (v : View) (l : Line) (z : Asked) (why : Why) (base : Base) → Known w v l z → (w.seat i).phase ≡ Runs why base → Ranges w.layout (w.mem Clock) (w.seat i).post base
ranges_of w i v l z why base k e = record {
  small = clock_small w k.valid k.eras;
  tags = (eras_need w i v z k.valid k.seats k.whole.both.rows k.requests).tags;
  why = why;
  run = run_of w i why base k.seats e;
  within = (subst (PhaseIn w.layout (w.seat i).desk) e (k.slots.seats i).phase).0;
  table = (k.seats.fits i).post.layout;
  span = (k.eras.seats i).post.span;
  eras = eras_of w i why base k.eras e;
}

words_of : (w : World) (i : ℕ) (v : View) (l : Line) (z : Asked) → publishes_rows w.layout.config.scheme ≡ false → Known w v l z → PhaseWords (w.seat i).phase (w.seat i).post
words_of w i v l z e k =
    phase_words w.layout (w.mem Clock) (w.seat i).phase (w.seat i).post e (eras_need w i v z k.valid k.seats k.whole.both.rows k.requests).tags (clock_small w k.valid k.eras) (k.eras.seats i).post.span (k.seats.fits i).post.layout (k.seats.fits i).phase (k.eras.seats i).phase

tied_step : (w : World) (i : ℕ) (v : View) (l : Line) (z : Asked) (p : Past) (births : ℕ → ℕ) → Known w v l z → Tied w v p births → Tied (step w i) (rows_after w i v) (tells_of p i (told_in w i)) (given_after w i births)
tied_step w i v l z p births k h = record {
  values = values_step w i p (λ e. words_of w i v l z e k) (k.seats.fits i).post.layout (k.seats.fits i).phase h.values;
  given = given_kept w i v births (given_need w i v l z k) h.given;
  told = λ s. birth_tells i (told_in w i) p births h.told s;
  retires = λ s t.
      retire_tells s i (told_in w i) p ∙ along_kind (ended_by s) is_of_rows (retire_quiet s) (told_in w i) (retire_of s p)
      ∙ ap (λ (es : List Event). along (ended_by s) es (retire_of s p)) (rows_told w i)
      ∙ retire_made i v (move_of w i) (birth_in (w.seat i).phase) s (retire_of s p) (before_at w i v (covers_need w i v l k.valid k.seats k.eras k.whole.both)) (h.retires s) t;
  taken = λ s.
      taken_tells w.layout.config.slots s i (told_in w i) p ∙ along_kind (taken_by s) is_of_rows (taken_quiet s) (told_in w i) (taken_at w.layout.config.slots s p)
      ∙ ap (λ (es : List Event). along (taken_by s) es (taken_at w.layout.config.slots s p)) (rows_told w i)
      ∙ ap (along (taken_by s) (row_events (birth_in (w.seat i).phase) (move_of w i))) (h.taken s)
      ∙ taken_made i v (move_of w i) (birth_in (w.seat i).phase) s (before_at w i v (covers_need w i v l k.valid k.seats k.eras k.whole.both));
}

-- what a history keeps
pub record Held (layout : Layout) (made : Made) : Type 0 where
  pub table : made.world.layout ≡ layout
  pub rows : View
  pub line : Line
  pub asked : Asked
  pub known : Known made.world rows line asked
  pub births : ℕ → ℕ
  pub tied : Tied made.world rows made.past births

pub begin_held : (layout : Layout) (made : Made) (i : ℕ) (call : Call) → is_busy made.world i ≡ false → may_start made.world i call ≡ true → Held layout made → Held layout (done made (Begins i call))
begin_held layout made i call f m g =
    let k = g.known in
    let q = requests_begin made.world i call g.asked k.valid f k.seats k.requests in
    record {
      table = g.table;
      rows = g.rows;
      line = g.line;
      asked = q.0;
      known = known_begin made.world i call g.rows g.line g.asked q.0 f m k q.1.facts q.1.deal;
      births = g.births;
      tied = record {
        values = values_begin made.world i call made.past g.tied.values;
        given = given_begin made.world i call g.rows g.births k.valid k.seats g.tied.given;
        told = g.tied.told;
        retires = g.tied.retires;
        taken = g.tied.taken;
      };
    }

pub step_held : (layout : Layout) (made : Made) (i : ℕ) → i < made.world.layout.config.seats → Held layout made → Held layout (done made (Steps i))
step_held layout made i b g =
    let k = g.known in
    let q = asked_next made.world i g.rows g.line g.asked b k in
    record {
      table = g.table;
      rows = rows_after made.world i g.rows;
      line = line_after made.world i g.line;
      asked = q.0;
      known = known_kept made.world i g.rows g.line g.asked q.0 b k q.1.facts q.1.deal;
      births = given_after made.world i g.births;
      tied = tied_step made.world i g.rows g.line g.asked made.past g.births k g.tied;
    }

steady : (layout : Layout) → Steady (Held layout)
steady layout = record { begins = λ made i call b y m g. begin_held layout made i call y m g; steps = λ made i b y g. step_held layout made i b g }

pub first_held : (layout : Layout) → is_valid layout ≡ true → Held layout (first_made layout)
first_held layout d =
    let q = requests_start layout d in
    record {
      table = refl;
      rows = first_rows layout;
      line = first_line layout;
      asked = q.0;
      known = known_start layout q.0 d q.1.facts q.1.deal;
      births = λ s. 1;
      tied = tied_start layout;
    }

pub history_held : (layout : Layout) (items : List Item) → is_valid layout ≡ true → Held layout (made_of layout items)
history_held layout items d = items_keep (Held layout) (steady layout) items (first_made layout) (first_held layout d)

pub record_values : RecordValues
record_values layout items guard d e =
    let g = history_held layout items d in
    g.tied.values.eras (ap (λ (table : Layout). publishes_rows table.config.scheme) g.table ∙ e) guard

pub record_hazards : RecordHazards
record_hazards layout items guard d e =
    let g = history_held layout items d in
    g.tied.values.rows (ap (λ (table : Layout). publishes_rows table.config.scheme) g.table ∙ e) guard

pub record_publishes : RecordPublishes
record_publishes layout items guard d =
    let g = history_held layout items d in
    subst (λ (table : Layout). published_at table.config.scheme guard (record_of layout items) ≡ shown (world_of layout items) guard) g.table (published_is (world_of layout items) (record_of layout items) guard g.tied.values)

-- what the guard of a row that stands covers meets its life
pub settled_taken : (x : Status) → is_settled x ≡ true → is_taken x ≡ true
settled_taken Free h = absurd (cc)
settled_taken (Claimed by) h = absurd (cc)
settled_taken (Born by) h = absurd (cc)
settled_taken (Linked bucket) h = refl
settled_taken InQueue h = refl
settled_taken (Cut by) h = refl
settled_taken (Sealed by retire) h = refl
settled_taken (Listed by retire) h = refl

-- the retire era that is stored is 0, or the one that the cover goes by
still_keeps : (s birth retire : ℕ) (value : Shown) → keeps (life_of s birth retire) value ≡ true → keeps (life_of s birth 0) value ≡ true
still_keeps s birth retire Nothing h = h
still_keeps s birth retire (Eras span) h = grind (arith, nat_tests)
still_keeps s birth retire (Row slot) h = h

pub stored_keeps : (s birth : ℕ) (x : Status) (value : Shown) → keeps (life_of s birth (retired_at x)) value ≡ true → keeps (life_of s birth (retire_in x)) value ≡ true
stored_keeps s birth (Sealed by retire) value h = still_keeps s birth retire value h
stored_keeps s birth x value h = h

same_life : (s : ℕ) (p : Past) (birth retire : ℕ) (value other : Shown) → birth_of s p ≡ birth → retire_of s p ≡ retire → value ≡ other → keeps (life_of s birth retire) other ≡ true → keeps (life_at s p) value ≡ true
same_life s p birth retire value other a b c h = rw (a, b, c) h

pub records_hold : RecordsHold
records_hold layout items k j s d e =
    let g = history_held layout items d in
    let w : World = world_of layout items in
    let p : Past = record_of layout items in
    let v : View = g.rows in
    let t : stands (w.seat k).post j ≡ Some s = sym (record_stands layout items k j d) ∙ e in
    let h = g.known.held.stood k j s t in
    let c = h.covers.settled in
    let b : birth_of s p ≡ v.birth s = g.tied.told s ∙ sym (g.tied.given.born s (settled_life (v.status s) c)) in
    let r : retire_of s p ≡ retire_in (v.status s) = g.tied.retires s (settled_taken (v.status s) c) in
    let guard : Guard = own_guard w.layout.config.scheme k j in
    let x : published_at w.layout.config.scheme guard p ≡ shown w guard = published_is w p guard g.tied.values in
    let m = same_life s p (v.birth s) (retire_in (v.status s)) (published_at w.layout.config.scheme guard p) (shown w guard) b r x (stored_keeps s (v.birth s) (v.status s) (shown w guard) h.covers.kept) in
    let n : taken_at w.layout.config.slots s p ≡ true = g.tied.taken s ∙ settled_taken (v.status s) c in
    subst (λ (table : Layout). is_held table.config k j s p ≡ true) g.table
    (both (taken_at w.layout.config.slots s p) (keeps (life_at s p) (published_at w.layout.config.scheme guard p)) n m)
