-- The record of each history keeps the law on reuse.
use Rattle.std.proofs.Common.{ℕ, zero, suc, ◌≡◌, ◌<◌, Bool, true, false, List, [], ◌∷◌, length, Option, None, refl, sym, ap, ◌∙◌, subst, arith}
use Rattle.std.proofs.lemmas.Bool.Decides.{nat_tests}
use Rattle.std.specs.Prelude.{◌==◌, ◌&&◌, not, if◌then◌else◌}
use Rattle.laws.specs.words.Place.{is_valid}
use Rattle.laws.specs.words.declared.layout.Layout.{Layout}
use Rattle.laws.specs.defs.declared.call.Call.{Call}
use Rattle.laws.specs.defs.declared.event.Event.{Event}
use Rattle.laws.specs.defs.declared.event.Event.TheVariants as events
use Rattle.inv_all.specs.model.declared.post.Post.{Post}
use Rattle.inv_all.specs.model.Guards.{guard_at}
use Rattle.inv_all.specs.model.Locals.{Local}
use Rattle.laws.specs.words.Schemes.{publishes_rows}
use Rattle.law_reuse.proofs.ReadGuards.{reads_are}
use Rattle.inv_all.specs.model.Posts.{stands, counted}
use Rattle.inv_all.specs.model.Phases.{Base}
use Rattle.inv_all.specs.model.Phases.Base.{Begin, Protect, Reload, Clear, Finish, Release, Allocate, Write, GiveUp, Retire, Move}
use Rattle.inv_all.specs.model.Calls.{Why, ScanAt, ReadGuard, GiveBack, Phase, Idle, Runs, Scans, Works, Work, Getting, Changing, Enqueuing, Dequeuing, Keeping, LoadHeld, StoreHeld, KeepAt, TakeList, HideSpan}
use Rattle.inv_all.proofs.model.Ranges.{bounds_of}
use Rattle.inv_all.specs.model.World.{World, begin, finds, is_busy, offered, start, step, told_in, may_start}
use Rattle.inv_all.proofs.model.Facts.{first_of, rest_of, and_false, not_of_false, below_length}
use Rattle.inv_all.specs.shapes.Seats.{Seats}
use Rattle.inv_all.proofs.shapes.Frame.{seat_stays, begin_stays, begin_begins}
use Rattle.laws.specs.records.Record.{Past, Each, tells_of}
use Rattle.laws.specs.records.Record.Past.{Then}
use Rattle.inv_all.specs.history.History.{Item, Begins, Steps, Made, done, first_made, made_of, record_of}
use Rattle.inv_all.proofs.history.Along.{Steady, items_keep}
use Rattle.laws.proofs.records.Entries.{entries_of_each}
use Rattle.inv_all.specs.rows.Hands.{row_move, keep_row}
use Rattle.inv_all.specs.covers.Covers.{takes_or_frees}
use Rattle.inv_all.specs.covers.Held.{index_base}
use Rattle.inv_all.specs.Inv.{Inv}
use Rattle.inv_all.proofs.Inv.Begun.{inv_start, inv_begin}
use Rattle.inv_all.proofs.Inv.Kept.{inv_kept}
use Rattle.inv_all.proofs.Inv.Shapes.{index_in}
use Rattle.laws.specs.HistoryHolds.{reuse_ok}
use Rattle.laws.specs.NoReuse.{is_reuse}
use Rattle.laws.proofs.Along.{row_of}
use Rattle.law_reuse.specs.Reuse.{reuses}
use Rattle.laws.specs.StateAt.{stood_by, stood_at, is_row}
use Rattle.law_reuse.specs.Records.{RecordsKeepReuse, RecordStands}
use Rattle.law_reuse.proofs.Reuse.Follows.{stood, Follow, base_follows, follow_closed, copy_index, work_follows}
use Rattle.law_reuse.proofs.Reuse.Never.{no_reuse}
use Rattle.inv_all.proofs.history.Passes.{First, scan_told, step_goes}
use Rattle.law_reuse.proofs.Reuse.Told.{told_free}
use Rattle.law_reuse.proofs.Reuse.Unheld.{is_unheld, unheld, phase_holds_none, told_unheld}
use Rattle.inv_all.proofs.ends.Handover.Asks.{run_of}
use Rattle.inv_all.proofs.covers.Held.{stepped_post}
use Rattle.inv_all.proofs.model.Lists.{or_left, or_right}
use Rattle.inv_all.specs.shapes.Slots.{Slots, PhaseIn, WorkIn}
use Rattle.inv_all.specs.rows.Rows.RowMove.{Stays, Adopts}
use Rattle.inv_all.specs.covers.Rests.{Rests, Vacant, spare, vacant}

-- a step leaves of what stands what it tells
scan_follows : (post : Post) (at : ScanAt) (found : ℕ) → Follow post post (scan_told at post found)
scan_follows post (ReadGuard number) found = reads_are (λ (event : Event). Follow post post (event ∷ [])) (publishes_rows post.layout.config.scheme) (guard_at post.layout.config number) found (λ span j. refl) (λ slot j. refl)
scan_follows post (GiveBack place slot) found = λ j. refl

first_follows : (phase : Phase) (post : Post) (found : ℕ) → ((why : Why) (base : Base) → phase ≡ Runs why base → index_base base < length post.standing) → ((work : Work) → phase ≡ Works work → copy_index work < length post.standing) → (phase ≡ Works (Keeping HideSpan) → Vacant spare post) → First (Follow post) phase post found
first_follows Idle post found h c n = λ j. refl
first_follows (Runs why base) post found h c n = base_follows post base found (h why base refl)
first_follows (Scans later at) post found h c n = scan_follows post at found
first_follows (Works work) post found h c n = work_follows post work (c work refl) (λ e. n (ap Works e))

pub room_of : (w : World) (i : ℕ) (why : Why) (base : Base) → is_valid w.layout ≡ true → Seats w → Slots w → (w.seat i).phase ≡ Runs why base → index_base base < length (w.seat i).post.standing
room_of w i why base d s t e =
    let m = (bounds_of w.layout d).indexes in
    below_length (index_base base) w.layout.config.indexes (length (w.seat i).post.standing) (index_in w.layout why base (w.seat i).post d (subst (PhaseIn w.layout (w.seat i).desk) e (t.seats i).phase).0 (run_of w i why base s e)) m.1 (s.fits i).post.standing

copy_in : (layout : Layout) (work : Work) → is_valid layout ≡ true → WorkIn layout.config work → copy_index work < layout.config.indexes
copy_in layout (Keeping (LoadHeld from index)) d h = h.below
copy_in layout (Keeping (StoreHeld from index era)) d h = h.below
copy_in layout work d h = let m = (bounds_of layout d).indexes in omega (arith, m.0)

copy_room : (w : World) (i : ℕ) (work : Work) → is_valid w.layout ≡ true → Seats w → Slots w → (w.seat i).phase ≡ Works work → copy_index work < length (w.seat i).post.standing
copy_room w i work d s t e =
    let m = (bounds_of w.layout d).indexes in
    below_length (copy_index work) w.layout.config.indexes (length (w.seat i).post.standing)
    (copy_in w.layout work d (subst (PhaseIn w.layout (w.seat i).desk) e (t.seats i).phase)) m.1 (s.fits i).post.standing

hides_bare : (w : World) (i : ℕ) → Rests w → (w.seat i).phase ≡ Works (Keeping HideSpan) → Vacant spare (counted (w.seat i).post)
hides_bare w i r e = subst (λ (f : Phase). Vacant (vacant f) (w.seat i).post) e (r.vacant i)

-- what stands in a seat's post after its step is what it told
own_follows : (w : World) (i j : ℕ) → is_valid w.layout ≡ true → Seats w → Slots w → Rests w → stood j (told_in w i) (stands (w.seat i).post j) ≡ stands ((step w i).seat i).post j
own_follows w i j d s t r =
    step_goes (Follow (counted (w.seat i).post)) (follow_closed (counted (w.seat i).post)) (w.seat i).phase (counted (w.seat i).post) (offered w i).desk (finds w i)
    (first_follows (w.seat i).phase (counted (w.seat i).post) (finds w i) (λ why base e. room_of w i why base d s t e) (λ work e. copy_room w i work d s t e) (λ e. hides_bare w i r e)) j
    ∙ sym (ap (λ (post : Post). stands post j) (stepped_post w i))

-- the same of the record
told_stands : (k i j : ℕ) (same : Bool) → (k == i) ≡ same → (p : Past) (told : List Event) → stood_at k j (tells_of p i told) ≡ (if same then stood j told (stood_at k j p) else stood_at k j p)
told_stands k i j true e p [] = refl
told_stands k i j false e p [] = refl
told_stands k i j true e p (event ∷ told) = told_stands k i j true e (Then p i event) told ∙ ap (stood j told) (own_one k i j e p event)
  where
    own_one : (k i j : ℕ) → (k == i) ≡ true → (p : Past) (event : Event) → stood_at k j (Then p i event) ≡ stood_by j event (stood_at k j p)
    own_one k i j e p event = rw e refl
told_stands k i j false e p (event ∷ told) = told_stands k i j false e (Then p i event) told ∙ other_one k i j e p event
  where
    other_one : (k i j : ℕ) → (k == i) ≡ false → (p : Past) (event : Event) → stood_at k j (Then p i event) ≡ stood_at k j p
    other_one k i j e p event = rw e refl

step_stands : (w : World) (i k j : ℕ) (p : Past) (same : Bool) → (k == i) ≡ same → is_valid w.layout ≡ true → Seats w → Slots w → Rests w → stood_at k j p ≡ stands (w.seat k).post j → stood_at k j (tells_of p i (told_in w i)) ≡ stands ((step w i).seat k).post j
step_stands w i k j p true e d s t r h =
    let one : k ≡ i = grind (arith, nat_tests) in
    let here : stands (w.seat k).post j ≡ stands (w.seat i).post j = ap (λ (m : ℕ). stands (w.seat m).post j) one in
    let there : stands ((step w i).seat i).post j ≡ stands ((step w i).seat k).post j = ap (λ (m : ℕ). stands ((step w i).seat m).post j) (sym one) in
    told_stands k i j true e p (told_in w i) ∙ ap (stood j (told_in w i)) (h ∙ here) ∙ own_follows w i j d s t r ∙ there
step_stands w i k j p false e d s t r h = told_stands k i j false e p (told_in w i) ∙ h ∙ sym (ap (λ (l : Local). stands l.post j) (seat_stays w i k e))

begin_same : (w : World) (i k j : ℕ) (call : Call) (same : Bool) → (k == i) ≡ same → stands ((begin w i call).seat k).post j ≡ stands (w.seat k).post j
begin_same w i k j call true e =
    let one : k ≡ i = grind (arith, nat_tests) in
    subst (λ (m : ℕ). stands ((begin w i call).seat m).post j ≡ stands (w.seat m).post j) (sym one) (ap (λ (l : Local). stands l.post j) (begin_begins w i call))
begin_same w i k j call false e = ap (λ (l : Local). stands l.post j) (begin_stays w i k call e)

same_either : (same : Bool) (x : Option ℕ) → (if same then x else x) ≡ x
same_either true x = refl
same_either false x = refl

free_each : (k j s i : ℕ) (told : List Event) (p : Past) → reuses s told ≡ false → Each (reuse_ok k j s) p → Each (reuse_ok k j s) (tells_of p i told)
free_each k j s i [] p h g = g
free_each k j s i (event ∷ told) p h g =
    let a : (is_row s (stood_at k j p) && is_reuse s event) ≡ false = rw (or_left (is_reuse s event) (reuses s told) h) (and_false (is_row s (stood_at k j p))) in
    free_each k j s i told (Then p i event) (or_right (is_reuse s event) (reuses s told) h) (not_of_false (is_row s (stood_at k j p) && is_reuse s event) a, g)

-- what stands after an event that holds no row stood before it
if_row : (s : ℕ) (same : Bool) (x : Option ℕ) → is_row s (if same then None else x) ≡ true → is_row s x ≡ true
if_row s true x h = absurd (cc)
if_row s false x h = h

stood_back : (s j : ℕ) (event : Event) (x : Option ℕ) → is_unheld event ≡ true → is_row s (stood_by j event x) ≡ true → is_row s x ≡ true
stood_back s j (events.Held index slot steps) x u h = absurd (cc)
stood_back s j (events.Copied from index slot) x u h = absurd (cc)
stood_back s j (events.Clear index slot) x u h = if_row s (j == index) x h
stood_back s j event x u h = h

by_seat : (s : ℕ) (same : Bool) (x y : Option ℕ) → (is_row s x ≡ true → is_row s y ≡ true) → is_row s (if same then x else y) ≡ true → is_row s y ≡ true
by_seat s true x y f h = f h
by_seat s false x y f h = h

unheld_each : (k j s i : ℕ) (told : List Event) (p : Past) → unheld told ≡ true → (is_row s (stood_at k j p) ≡ true → reuses s told ≡ false) → Each (reuse_ok k j s) p → Each (reuse_ok k j s) (tells_of p i told)
unheld_each k j s i [] p u h g = g
unheld_each k j s i (event ∷ told) p u h g =
    unheld_each k j s i told (Then p i event) (rest_of (is_unheld event) (unheld told) u)
    (λ y. or_right (is_reuse s event) (reuses s told) (h (by_seat s (k == i) (stood_by j event (stood_at k j p)) (stood_at k j p) (λ x. stood_back s j event (stood_at k j p) (first_of (is_unheld event) (unheld told) u) x) y)))
    (by_row (is_row s (stood_at k j p)) (is_reuse s event) (λ y. or_left (is_reuse s event) (reuses s told) (h y)), g)
  where
    by_row : (a b : Bool) → (a ≡ true → b ≡ false) → not (a && b) ≡ true
    by_row true b f = not_of_false b (f refl)
    by_row false b f = refl

adopt_free : (s place : ℕ) (same : Bool) → takes_or_frees (if same then Adopts place else Stays) s ≡ false
adopt_free s place true = refl
adopt_free s place false = refl

keep_free : (s : ℕ) (at : KeepAt) (found : ℕ) → takes_or_frees (keep_row at found) s ≡ false
keep_free s (TakeList place) found = adopt_free s place (found == 1)
keep_free s at found = refl

-- a protection, a reload and a step on what is kept neither give nor free a row
protects_free : (s : ℕ) (phase : Phase) (post : Post) (found : ℕ) → phase_holds_none phase ≡ false → takes_or_frees (row_move phase post found) s ≡ false
protects_free s Idle post found h = absurd (cc)
protects_free s (Runs why (Begin at)) post found h = absurd (cc)
protects_free s (Runs why (Protect aim index root steps at)) post found h = refl
protects_free s (Runs why (Reload parent index slot era steps)) post found h = refl
protects_free s (Runs why (Clear rows index)) post found h = absurd (cc)
protects_free s (Runs why Finish) post found h = absurd (cc)
protects_free s (Runs why (Release index)) post found h = absurd (cc)
protects_free s (Runs why (Allocate at)) post found h = absurd (cc)
protects_free s (Runs why (Write slot row place)) post found h = absurd (cc)
protects_free s (Runs why (GiveUp slot)) post found h = absurd (cc)
protects_free s (Runs why (Retire at)) post found h = absurd (cc)
protects_free s (Runs why (Move at)) post found h = absurd (cc)
protects_free s (Scans later at) post found h = absurd (cc)
protects_free s (Works (Keeping at)) post found h = keep_free s at found
protects_free s (Works (Getting key at)) post found h = absurd (cc)
protects_free s (Works (Changing kept at)) post found h = absurd (cc)
protects_free s (Works (Enqueuing kept at)) post found h = absurd (cc)
protects_free s (Works (Dequeuing at)) post found h = absurd (cc)

step_each : (w : World) (i k j s : ℕ) (p : Past) (none : Bool) → phase_holds_none (w.seat i).phase ≡ none → Inv w → stood_at k j p ≡ stands (w.seat k).post j → Each (reuse_ok k j s) p → Each (reuse_ok k j s) (tells_of p i (told_in w i))
step_each w i k j s p true e a h g =
    unheld_each k j s i (told_in w i) p (told_unheld (w.seat i).phase (counted (w.seat i).post) (offered w i).desk (finds w i) e)
    (λ y. no_reuse w i k j s a (sym h ∙ row_of s (stood_at k j p) y)) g
step_each w i k j s p false e a h g =
    free_each k j s i (told_in w i) p (told_free s (w.seat i).phase (w.seat i).post (counted (w.seat i).post) (offered w i).desk (finds w i) (protects_free s (w.seat i).phase (w.seat i).post (finds w i) e)) g

-- what a history keeps
record Keeps (layout : Layout) (made : Made) : Type 0 where
  pub table : made.world.layout ≡ layout
  pub known : Inv made.world
  pub stands : (k j : ℕ) → stood_at k j made.past ≡ stands (made.world.seat k).post j
  pub law : (k j s : ℕ) → Each (reuse_ok k j s) made.past

begin_stood : (k i j : ℕ) (call : Call) (p : Past) → stood_at k j (Then p i (events.Begin call)) ≡ stood_at k j p
begin_stood k i j call p = same_either (k == i) (stood_at k j p)

begin_keeps : (layout : Layout) (made : Made) (i : ℕ) (call : Call) → is_busy made.world i ≡ false → may_start made.world i call ≡ true → Keeps layout made → Keeps layout (done made (Begins i call))
begin_keeps layout made i call f m g = record {
  table = g.table;
  known = inv_begin made.world i call f m g.known;
  stands = λ k j. begin_stood k i j call made.past ∙ g.stands k j ∙ sym (begin_same made.world i k j call (k == i) refl);
  law = λ k j s. (not_of_false (is_row s (stood_at k j made.past) && false) (and_false (is_row s (stood_at k j made.past))), g.law k j s);
}

step_keeps : (layout : Layout) (made : Made) (i : ℕ) → i < made.world.layout.config.seats → Keeps layout made → Keeps layout (done made (Steps i))
step_keeps layout made i b g =
    let a = g.known in
    let t = a.known in
    record {
      table = g.table;
      known = inv_kept made.world i b a;
      stands = λ k j. step_stands made.world i k j made.past (k == i) refl t.valid t.seats t.slots t.rests (g.stands k j);
      law = λ k j s. step_each made.world i k j s made.past (phase_holds_none (made.world.seat i).phase) refl a (g.stands k j) (g.law k j s);
    }

steady : (layout : Layout) → Steady (Keeps layout)
steady layout = record { begins = λ made i call b y m g. begin_keeps layout made i call y m g; steps = λ made i b y g. step_keeps layout made i b g }

none_stands : (layout : Layout) (k j : ℕ) → None ≡ stands ((start layout).seat k).post j
none_stands layout k zero = refl
none_stands layout k (suc zero) = refl
none_stands layout k (suc (suc zero)) = refl
none_stands layout k (suc (suc (suc zero))) = refl
none_stands layout k (suc (suc (suc (suc zero)))) = refl
none_stands layout k (suc (suc (suc (suc (suc zero))))) = refl
none_stands layout k (suc (suc (suc (suc (suc (suc zero)))))) = refl
none_stands layout k (suc (suc (suc (suc (suc (suc (suc zero))))))) = refl
none_stands layout k (suc (suc (suc (suc (suc (suc (suc (suc j)))))))) = refl

history_keeps : (layout : Layout) (items : List Item) → is_valid layout ≡ true → Keeps layout (made_of layout items)
history_keeps layout items d = items_keep (Keeps layout) (steady layout) items (first_made layout) (record { table = refl; known = inv_start layout d; stands = λ k j. none_stands layout k j; law = λ k j s. tt })

pub record_stands : RecordStands
record_stands layout items k j d = let g = history_keeps layout items d in g.stands k j

pub records_keep_reuse : RecordsKeepReuse
records_keep_reuse layout items d k j s = let g = history_keeps layout items d in entries_of_each (reuse_ok k j s) (record_of layout items) (g.law k j s)
