-- A row is retired with the birth era with which it was given, by the record.
use Rattle.std.proofs.Common.{ℕ, ◌≡◌, ◌<◌, Bool, true, false, List, [], ◌∷◌, refl, sym, ap, ◌∙◌, subst, arith}
use Rattle.std.proofs.lemmas.Bool.Decides.{nat_tests}
use Rattle.std.specs.Prelude.{◌==◌, if◌then◌else◌}
use mathlib.Core.Path.{fun_ext}
use Rattle.laws.specs.words.Place.{is_valid}
use Rattle.laws.specs.words.declared.layout.Layout.{Layout}
use Rattle.laws.specs.defs.declared.call.Call.{Call}
use Rattle.laws.specs.defs.declared.event.Event.{Event}
use Rattle.laws.specs.defs.declared.event.Event.TheVariants as events
use Rattle.inv_all.specs.model.World.{World, step, is_busy, told_in, may_start}
use Rattle.inv_all.specs.requests.Views.{View as Asked}
use Rattle.inv_all.proofs.requests.Kept.{requests_begin, requests_start}
use Rattle.inv_all.specs.rows.Chain.{first_line, line_after}
use Rattle.inv_all.specs.rows.Queue.{Line}
use Rattle.inv_all.specs.Known.{Known}
use Rattle.inv_all.proofs.Inv.Begun.{known_start, known_begin}
use Rattle.inv_all.proofs.Inv.Kept.{known_kept, asked_next}
use Rattle.inv_all.specs.rows.Agree.{first_rows, rows_after}
use Rattle.inv_all.specs.rows.Rows.{View, RowMove}
use Rattle.inv_all.specs.rows.Rows.RowMove.{Stays, Claims, Bears, Drops, Links, Replaces, Appends, Pops, Reads, Seals, Lists, Returns, Adopts}
use Rattle.laws.specs.records.Record.{Past, Each, tells_of}
use Rattle.laws.specs.records.Record.Past.{Then}
use Rattle.laws.proofs.records.Entries.{entries_of_each}
use Rattle.inv_all.specs.history.History.{Begins, Steps, Made, done, first_made, record_of}
use Rattle.inv_all.proofs.history.Along.{Steady, items_keep}
use Rattle.inv_all.specs.ends.Births.{Given, given_by, given_all}
use Rattle.laws.specs.defs.Events.{is_of_rows}
use Rattle.inv_all.specs.ends.Told.{row_events, birth_in, move_of}
use Rattle.inv_all.proofs.ends.Told.Births.{given_start, given_begin, given_kept, retires_given}
use Rattle.inv_all.proofs.ends.Told.Rows.{rows_told}
use Rattle.laws.specs.StateAt.{born_by, birth_of}
use Rattle.laws.specs.HistoryEras.{birth_ok}
use Rattle.law_reuse.specs.Records.{RecordsKeepBirths}
use Rattle.laws.proofs.Along.{Single, OfKind, single_each}
use Rattle.law_reuse.proofs.Holding.Holds.{given_need}

-- what is told of births
one_born : (event : Event) (given : ℕ → ℕ) (s : ℕ) (x : ℕ) → x ≡ given s → born_by s event x ≡ given_by event given s
one_born (events.Give slot birth) given s x e = by (s == slot)
  where
    by : (same : Bool) → (if same then birth else x) ≡ (if same then birth else given s)
    by true = refl
    by false = e
one_born event given s x e = e

told_born : (i s : ℕ) (told : List Event) (p : Past) (given : ℕ → ℕ) → ((k : ℕ) → birth_of k p ≡ given k) → birth_of s (tells_of p i told) ≡ given_all told given s
told_born i s [] p given h = h s
told_born i s (event ∷ told) p given h = told_born i s told (Then p i event) (given_by event given) (λ k. one_born event given k (birth_of k p) (h k))

born_after : (i : ℕ) (told : List Event) (p : Past) → given_all told (λ s. birth_of s p) ≡ (λ s. birth_of s (tells_of p i told))
born_after i told p = fun_ext (λ s. sym (told_born i s told p (λ k. birth_of k p) (λ k. refl)))

-- the law
birth_quiet : (p : Past) (i : ℕ) (event : Event) → is_of_rows event ≡ false → birth_ok p i event ≡ true
birth_quiet p i (events.Retire slot birth retire) h = absurd (cc)
birth_quiet p i event h = refl

born_quiet : (s : ℕ) (event : Event) (x : ℕ) → is_of_rows event ≡ false → born_by s event x ≡ x
born_quiet s (events.Give slot birth) x h = absurd (cc)
born_quiet s event x h = refl

birth_still : (p : Past) (i : ℕ) (event other : Event) → is_of_rows event ≡ false → birth_ok p i other ≡ true → birth_ok (Then p i event) i other ≡ true
birth_still p i event (events.Retire slot birth retire) h c = ap (λ (x : ℕ). birth == x) (born_quiet slot event (birth_of slot p) h) ∙ c
birth_still p i event other h c = c

birth_kind : OfKind is_of_rows birth_ok
birth_kind = record { quiet = birth_quiet; still = birth_still }

same_birth : (birth born : ℕ) → born ≡ birth → (birth == born) ≡ true
same_birth birth born e = grind (arith, nat_tests)

birth_move : (i birth : ℕ) (p : Past) (m : RowMove) → ((slot born retire : ℕ) → m ≡ Lists slot born retire → birth_of slot p ≡ born) → Single birth_ok p i (row_events birth m)
birth_move i birth p Stays h = tt
birth_move i birth p (Claims slot) h = refl
birth_move i birth p (Bears slot born) h = tt
birth_move i birth p (Drops slot) h = refl
birth_move i birth p (Links bucket slot) h = tt
birth_move i birth p (Replaces bucket slot old) h = tt
birth_move i birth p (Appends slot) h = tt
birth_move i birth p (Pops slot next) h = tt
birth_move i birth p (Reads slot born) h = tt
birth_move i birth p (Seals slot born retire) h = tt
birth_move i birth p (Lists slot born retire) h = same_birth born (birth_of slot p) (h slot born retire refl)
birth_move i birth p (Returns slot) h = refl
birth_move i birth p (Adopts from) h = tt

-- what a history keeps
record BirthsKept (layout : Layout) (made : Made) : Type 0 where
  rows : View
  line : Line
  asked : Asked
  known : Known made.world rows line asked
  given : Given made.world rows (λ s. birth_of s made.past)
  law : Each birth_ok made.past

begin_births : (layout : Layout) (made : Made) (i : ℕ) (call : Call) → is_busy made.world i ≡ false → may_start made.world i call ≡ true → BirthsKept layout made → BirthsKept layout (done made (Begins i call))
begin_births layout made i call f m g =
    let k = g.known in
    let q = requests_begin made.world i call g.asked k.valid f k.seats k.requests in
    record {
      rows = g.rows;
      line = g.line;
      asked = q.0;
      known = known_begin made.world i call g.rows g.line g.asked q.0 f m k q.1.facts q.1.deal;
      given = given_begin made.world i call g.rows (λ s. birth_of s made.past) k.valid k.seats g.given;
      law = (refl, g.law);
    }

step_births : (layout : Layout) (made : Made) (i : ℕ) → i < made.world.layout.config.seats → BirthsKept layout made → BirthsKept layout (done made (Steps i))
step_births layout made i b g =
    let w : World = made.world in
    let p : Past = made.past in
    let k = g.known in
    let q = asked_next w i g.rows g.line g.asked b k in
    let n = given_need w i g.rows g.line g.asked k in
    let given : ℕ → ℕ = λ s. birth_of s p in
    let s : Single birth_ok p i (row_events (birth_in (w.seat i).phase) (move_of w i)) =
    birth_move i (birth_in (w.seat i).phase) p (move_of w i) (λ slot born retire e. retires_given w i slot born retire g.rows given n k.eras g.given e) in
    record {
      rows = rows_after w i g.rows;
      line = line_after w i g.line;
      asked = q.0;
      known = known_kept w i g.rows g.line g.asked q.0 b k q.1.facts q.1.deal;
      given = subst (λ (x : ℕ → ℕ). Given (step w i) (rows_after w i g.rows) x) (born_after i (told_in w i) p) (given_kept w i g.rows given n g.given);
      law = single_each is_of_rows birth_ok birth_kind i (told_in w i) p (subst (λ (es : List Event). Single birth_ok p i es) (sym (rows_told w i)) s) g.law;
    }

steady : (layout : Layout) → Steady (BirthsKept layout)
steady layout = record { begins = λ made i call b y m g. begin_births layout made i call y m g; steps = λ made i b y g. step_births layout made i b g }

first_births : (layout : Layout) → is_valid layout ≡ true → BirthsKept layout (first_made layout)
first_births layout d =
    let q = requests_start layout d in
    record { rows = first_rows layout; line = first_line layout; asked = q.0; known = known_start layout q.0 d q.1.facts q.1.deal; given = given_start layout; law = tt }

pub records_keep_births : RecordsKeepBirths
records_keep_births layout items d = let g = items_keep (BirthsKept layout) (steady layout) items (first_made layout) (first_births layout d) in entries_of_each birth_ok (record_of layout items) g.law
