-- The record of each history names what is in the table.
use Rattle.std.proofs.Common.{ℕ, ◌≡◌, ◌<◌, ◌≤◌, ◌%◌, Bool, true, false, List, [], ◌∷◌, Option, Some, None, refl, sym, subst, arith}
use Rattle.std.proofs.Math.Nat.{mod-lt}
use Rattle.std.proofs.lemmas.Bool.Decides.{nat_tests}
use Rattle.std.specs.Prelude.{◌==◌, ◌&&◌, nat_le, nat_lt, if◌then◌else◌}
use Rattle.law_scans.specs.inv.model.words.Place.{is_valid}
use Rattle.law_scans.specs.inv.model.words.declared.config.Config.{Config}
use Rattle.law_scans.specs.inv.model.words.declared.layout.Layout.{Layout}
use Rattle.law_scans.specs.inv.model.defs.Entry.{Entry}
use Rattle.law_scans.specs.inv.model.defs.declared.call.Answer.{Answer}
use Rattle.law_scans.specs.inv.model.defs.declared.call.Answer.TheVariants as answers
use Rattle.law_scans.specs.inv.model.defs.declared.call.Call.{Call}
use Rattle.law_scans.specs.inv.model.defs.declared.call.Call.TheVariants as calls
use Rattle.law_scans.specs.inv.model.defs.declared.event.Event.{Event}
use Rattle.law_scans.specs.inv.model.defs.declared.event.Event.TheVariants as events
use Rattle.law_scans.specs.inv.model.declared.post.Post.{Post}
use Rattle.law_scans.specs.inv.model.Calls.{CallTurn, CallOutcome, GoesOn, Answers}
use Rattle.law_scans.specs.inv.model.Locals.{told_end, turn}
use Rattle.law_scans.specs.inv.model.World.{World, finds, is_busy, offered, told_in, may_start}
use Rattle.law_scans.proofs.inv.model.Facts.{both, first_of, lt_test, number_is, rest_of}
use Rattle.law_scans.proofs.inv.model.Ranges.{bounds_of}
use Rattle.law_scans.proofs.inv.history.AllOf.{all_of, of_along, of_both}
use Rattle.law_scans.proofs.inv.history.Along.{Steady, items_keep}
use Rattle.law_scans.proofs.inv.history.Entries.{each_before}
use Rattle.law_scans.specs.inv.history.History.{Item, Begins, Made, done, first_made, record_of}
use Rattle.law_scans.specs.inv.history.Record.{Past, Each, tells, tells_of}
use Rattle.law_scans.specs.inv.history.Record.Past.{Start, Then}
use Rattle.law_scans.proofs.reuse.Holding.Holds.{Held, begin_held, step_held, first_held}
use Rattle.law_scans.proofs.reuse.AnswersTold.Answering.{records_keep_answers}
use Rattle.law_scans.proofs.reuse.Lawful.Maps.{records_keep_map}
use Rattle.law_scans.proofs.Placing.Marks.{tells as step_tells}
use Rattle.law_scans.specs.laws.HistoryAnswers.{answer_right, reason}
use Rattle.law_scans.specs.laws.MapLaw.{map_ok}
use Rattle.law_scans.specs.laws.StateAt.{began_of, told_of, stood_by, stood_at, is_row}
use Rattle.law_scans.specs.laws.StructuresAt.{bucket_of}
use Rattle.law_scans.specs.laws.HistoryTable.{is_in_range, ranges_ok}
use Rattle.law_reasons.specs.Records.{RecordsStayInRange}
use Rattle.law_reasons.proofs.Ranges.Finds.{finds_in, step_finds}
use Rattle.law_reasons.proofs.Ranges.Hazards.{hazards_in, step_hazards}
use Rattle.law_reasons.proofs.Ranges.Lists.{EachLow, adopted_answer, left_answer, lists_in, step_lists}
use Rattle.law_reasons.proofs.Ranges.Rows.{rows_in, step_rows}
use Rattle.law_reasons.proofs.Reasons.Keeps.{records_keep_reasons}

-- what steps show by themselves
abbrev shows_in : Config → Event → Bool
shows_in c event = lists_in c event && hazards_in c event

abbrev names_in : Config → Event → Bool
names_in c event = finds_in c event && shows_in c event

abbrev step_in : Config → ℕ → Event → Bool
step_in c i event = nat_lt i c.seats && (rows_in c event && names_in c event)

seated : (c : Config) (i : ℕ) (told : List Event) (p : Past) → nat_lt i c.seats ≡ true → all_of (λ event. rows_in c event && names_in c event) told ≡ true → Each (λ q k event. step_in c k event) p → Each (λ q k event. step_in c k event) (tells_of p i told)
seated c i [] p s h g = g
seated c i (event ∷ told) p s h g =
    seated c i told (Then p i event) s (rest_of (rows_in c event && names_in c event) (all_of (λ e. rows_in c e && names_in c e) told) h)
    (both (nat_lt i c.seats) (rows_in c event && names_in c event) s (first_of (rows_in c event && names_in c event) (all_of (λ e. rows_in c e && names_in c e) told) h), g)

end_rows : (c : Config) (post : Post) (outcome : CallOutcome) → all_of (rows_in c) (told_end post outcome) ≡ true
end_rows c post (GoesOn phase) = refl
end_rows c post (Answers answer) = refl

-- along a history
record Ranged (layout : Layout) (made : Made) : Type 0 where
  held : Held layout made
  law : Each (λ q k event. step_in layout.config k event) made.past

begin_ranged : (layout : Layout) (made : Made) (i : ℕ) (call : Call) → i < made.world.layout.config.seats → is_busy made.world i ≡ false → may_start made.world i call ≡ true → Ranged layout made → Ranged layout (done made (Begins i call))
begin_ranged layout made i call b y m g = record {
  held = begin_held layout made i call y m g.held;
  law = (both (nat_lt i layout.config.seats) true (subst (λ (table : Layout). nat_lt i table.config.seats ≡ true) g.held.table (lt_test i made.world.layout.config.seats b)) refl, g.law);
}

step_ranges : (layout : Layout) (made : Made) (i : ℕ) → Held layout made → all_of (λ event. rows_in layout.config event && names_in layout.config event) (told_in made.world i) ≡ true
step_ranges layout made i h =
    let w : World = made.world in
    let k = h.known in
    let f = k.seats.fits i in
    let t : CallTurn = turn (offered w i) (finds w i) in
    subst (λ (table : Layout). all_of (λ event. rows_in table.config event && names_in table.config event) (told_in w i) ≡ true) h.table
    (of_both (rows_in w.layout.config) (names_in w.layout.config) (λ event. rows_in w.layout.config event && names_in w.layout.config event) (told_in w i) (λ event a b. both (rows_in w.layout.config event) (names_in w.layout.config event) a b)
    (of_along (rows_in w.layout.config) (step_tells w i) (told_end t.post t.outcome) (step_rows w i k.valid f.post.layout f.phase (k.slots.seats i).phase) (end_rows w.layout.config t.post t.outcome))
    (of_both (finds_in w.layout.config) (shows_in w.layout.config) (names_in w.layout.config) (told_in w i) (λ event a b. both (finds_in w.layout.config event) (shows_in w.layout.config event) a b) (step_finds w i k.valid k.seats k.eras k.slots)
    (of_both (lists_in w.layout.config) (hazards_in w.layout.config) (shows_in w.layout.config) (told_in w i) (λ event a b. both (lists_in w.layout.config event) (hazards_in w.layout.config event) a b) (step_lists w i h.rows k.whole.both.rows k.slots) (step_hazards w i k.seats k.eras k.slots))))

steady : (layout : Layout) → Steady (Ranged layout)
steady layout = record {
  begins = λ made i call b y m g. begin_ranged layout made i call b y m g;
  steps = λ made i b y g. record {
    held = step_held layout made i b g.held;
    law = seated layout.config i (told_in made.world i) made.past (subst (λ (table : Layout). nat_lt i table.config.seats ≡ true) g.held.table (lt_test i made.world.layout.config.seats b)) (step_ranges layout made i g.held) g.law;
  };
}

each_ranged : (layout : Layout) (items : List Item) → is_valid layout ≡ true → Each (λ q k event. step_in layout.config k event) (record_of layout items)
each_ranged layout items d =
    let g = items_keep (Ranged layout) (steady layout) items (first_made layout) (record { held = first_held layout d; law = tt }) in g.law

-- what stands is a row of the table
abbrev stands_low : Config → Option ℕ → Bool
stands_low c None = true
stands_low c (Some slot) = nat_le slot c.slots

low_if : (c : Config) (same : Bool) (x y : Option ℕ) → stands_low c x ≡ true → stands_low c y ≡ true → stands_low c (if same then x else y) ≡ true
low_if c true x y a b = a
low_if c false x y a b = b

low_by : (c : Config) (j : ℕ) (event : Event) (x : Option ℕ) → finds_in c event ≡ true → stands_low c x ≡ true → stands_low c (stood_by j event x) ≡ true
low_by c j (events.Held index slot steps) x f h = low_if c (j == index) (Some slot) x (rest_of (nat_lt index c.indexes) (nat_le slot c.slots) f) h
low_by c j (events.Copied from index slot) x f h = low_if c (j == index) (Some slot) x (rest_of (nat_lt index c.indexes) (nat_le slot c.slots) (rest_of (nat_lt from c.indexes) (nat_lt index c.indexes && nat_le slot c.slots) f)) h
low_by c j (events.Clear index slot) x f h = low_if c (j == index) None x refl h
low_by c j event x f h = h

stood_low : (c : Config) (k j : ℕ) (p : Past) → Each (λ q i event. step_in c i event) p → stands_low c (stood_at k j p) ≡ true
stood_low c k j Start g = refl
stood_low c k j (Then p i event) g =
    low_if c (k == i) (stood_by j event (stood_at k j p)) (stood_at k j p)
    (low_by c j event (stood_at k j p) (first_of (finds_in c event) (shows_in c event) (rest_of (rows_in c event) (names_in c event) (rest_of (nat_lt i c.seats) (rows_in c event && names_in c event) g.0))) (stood_low c k j p g.1))
    (stood_low c k j p g.1)

row_low : (c : Config) (slot : ℕ) (x : Option ℕ) → is_row slot x ≡ true → stands_low c x ≡ true → nat_le slot c.slots ≡ true
row_low c slot None h l = absurd (cc)
row_low c slot (Some other) h l = subst (λ (s : ℕ). nat_le s c.slots ≡ true) (sym (number_is slot other h)) l

-- an answer that tells of a row tells of the one that stands
held_low : (c : Config) (i : ℕ) (p : Past) (call : Option Call) (told : List Event) (slot : ℕ) → answer_right c.buckets call told (answers.Holding slot) ≡ true → reason c i p call (answers.Holding slot) ≡ true → stands_low c (stood_at i 2 p) ≡ true → nat_le slot c.slots ≡ true
held_low c i p (Some (calls.Hold key)) told slot a r l = row_low c slot (stood_at i 2 p) (rest_of _ (is_row slot (stood_at i 2 p)) r) l
held_low c i p (Some call) told slot a r l = absurd (cc)
held_low c i p None told slot a r l = absurd (cc)

copied_low : (c : Config) (i : ℕ) (p : Past) (call : Option Call) (told : List Event) (slot : ℕ) → answer_right c.buckets call told (answers.Copied slot) ≡ true → reason c i p call (answers.Copied slot) ≡ true → ((j : ℕ) → stands_low c (stood_at i j p) ≡ true) → nat_le slot c.slots ≡ true
copied_low c i p (Some (calls.Copy from index)) told slot a r l = row_low c slot (stood_at i from p) (first_of (is_row slot (stood_at i from p)) (is_row slot (stood_at i index p)) r) (l from)
copied_low c i p (Some call) told slot a r l = absurd (cc)
copied_low c i p None told slot a r l = absurd (cc)

looked_low : (c : Config) (i : ℕ) (p : Past) (call : Option Call) (told : List Event) (slot version : ℕ) (value : Option ℕ) → answer_right c.buckets call told (answers.Looked slot version value) ≡ true → reason c i p call (answers.Looked slot version value) ≡ true
    → ((j : ℕ) → stands_low c (stood_at i j p) ≡ true) → nat_le slot c.slots ≡ true
looked_low c i p (Some (calls.Look index key)) told slot version value a r l = row_low c slot (stood_at i index p) (first_of (is_row slot (stood_at i index p)) _ r) (l index)
looked_low c i p (Some call) told slot version value a r l = absurd (cc)
looked_low c i p None told slot version value a r l = absurd (cc)

-- and the buckets of changes are those of their keys
own_bucket : (c : Config) (bucket key : ℕ) → 1 ≤ c.buckets → (bucket == bucket_of c.buckets key) ≡ true → nat_lt bucket c.buckets ≡ true
own_bucket c bucket key b h = let m : key % c.buckets < c.buckets = mod-lt key b in grind (arith, nat_tests)

each_low : (c : Config) (p : Past) → Each (λ q i event. step_in c i event) p → EachLow c p
each_low c Start g = tt
each_low c (Then p i event) g =
    (first_of (lists_in c event) (hazards_in c event) (rest_of (finds_in c event) (shows_in c event) (rest_of (rows_in c event) (names_in c event) (rest_of (nat_lt i c.seats) (rows_in c event && names_in c event) g.0))), each_low c p g.1)

in_range : (c : Config) (p : Past) (i : ℕ) (event : Event) → 1 ≤ c.buckets → Each (λ q k e. step_in c k e) p → step_in c i event ≡ true → map_ok c.buckets p i event ≡ true
    → ((steps : ℕ) (answer : Answer) → event ≡ events.End steps answer → (answer_right c.buckets (began_of i p) (told_of i p) answer ≡ true) × (reason c i p (began_of i p) answer ≡ true)) → ranges_ok c p i event ≡ true
in_range c p i event b g s m a = both (nat_lt i c.seats) (is_in_range c event) (first_of (nat_lt i c.seats) (rows_in c event && names_in c event) s) (by event m a (first_of (rows_in c event) (names_in c event) t) (first_of (finds_in c event) (shows_in c event) (rest_of (rows_in c event) (names_in c event) t)) (first_of (lists_in c event) (hazards_in c event) u) (rest_of (lists_in c event) (hazards_in c event) u))
  where
    t : (rows_in c event && names_in c event) ≡ true
    t = rest_of (nat_lt i c.seats) (rows_in c event && names_in c event) s

    u : shows_in c event ≡ true
    u = rest_of (finds_in c event) (shows_in c event) (rest_of (rows_in c event) (names_in c event) t)

    by : (event : Event) → map_ok c.buckets p i event ≡ true → ((steps : ℕ) (answer : Answer) → event ≡ events.End steps answer → (answer_right c.buckets (began_of i p) (told_of i p) answer ≡ true) × (reason c i p (began_of i p) answer ≡ true)) → rows_in c event ≡ true → finds_in c event ≡ true → lists_in c event ≡ true → hazards_in c event ≡ true → is_in_range c event ≡ true
    by (events.End steps (answers.Holding slot)) m a r f l z = let q = a steps (answers.Holding slot) refl in held_low c i p (began_of i p) (told_of i p) slot q.0 q.1 (stood_low c i 2 p g)
    by (events.End steps (answers.Copied slot)) m a r f l z = let q = a steps (answers.Copied slot) refl in copied_low c i p (began_of i p) (told_of i p) slot q.0 q.1 (λ j. stood_low c i j p g)
    by (events.End steps (answers.Looked slot version value)) m a r f l z =
        let q = a steps (answers.Looked slot version value) refl in looked_low c i p (began_of i p) (told_of i p) slot version value q.0 q.1 (λ j. stood_low c i j p g)
    by (events.End steps (answers.Left count)) m a r f l z = let q = a steps (answers.Left count) refl in left_answer c i p (began_of i p) count q.0 (each_low c p g)
    by (events.End steps (answers.Adopted count)) m a r f l z = let q = a steps (answers.Adopted count) refl in adopted_answer c i p (began_of i p) count q.0 (each_low c p g)
    by (events.End steps answer) m a r f l z = refl
    by (events.Left count) m a r f l z = l
    by (events.Adopted place count) m a r f l z = l
    by (events.Hazard guard slot) m a r f l z = z
    by (events.Saw guard slot) m a r f l z = z
    by (events.Give slot birth) m a r f l z = r
    by (events.Unused slot) m a r f l z = r
    by (events.Link root slot) m a r f l z = r
    by (events.Cut slot) m a r f l z = r
    by (events.Retire slot birth retire) m a r f l z = r
    by (events.Back slot) m a r f l z = r
    by (events.Held index slot steps) m a r f l z = f
    by (events.Null index steps) m a r f l z = f
    by (events.Clear index slot) m a r f l z = f
    by (events.Copied from index slot) m a r f l z = f
    by (events.Put bucket version key value) m a r f l z = own_bucket c bucket key b (rest_of _ (bucket == bucket_of c.buckets key) m)
    by (events.Removed bucket version key) m a r f l z = own_bucket c bucket key b (rest_of _ (bucket == bucket_of c.buckets key) m)
    by (events.Got bucket version key value) m a r f l z = own_bucket c bucket key b (first_of (bucket == bucket_of c.buckets key) _ m)
    by event m a r f l z = refl

pub records_stay_in_range : RecordsStayInRange
records_stay_in_range layout items d before i event later cut =
    let c : Config = layout.config in
    let one : Entry = record { seat = i; event = event } in
    let g : Each (λ q k e. step_in c k e) (Then before i event) = each_before (λ q k e. step_in c k e) (Then before i event) later (subst (λ (r : Past). Each (λ q k e. step_in c k e) r) cut (each_ranged layout items d)) in
    in_range c before i event (let b = (bounds_of layout d).buckets in b.0) g.1 g.0 (records_keep_map layout items d before i event later cut)
    (λ steps answer e. (
      records_keep_answers layout items d before i (events.End steps answer) later (subst (λ (x : Event). record_of layout items ≡ tells (Then before i x) later) e cut),
      records_keep_reasons layout items d before i (events.End steps answer) later (subst (λ (x : Event). record_of layout items ≡ tells (Then before i x) later) e cut),
    ))
