-- A history's record says of each guard what it publishes, and so scans read just that.
use Rattle.std.proofs.Common.{ℕ, ◌≡◌, ◌<◌, Bool, true, false, List, [], ◌∷◌, ◌++◌, Option, Some, None, refl, sym, ap, ◌∙◌, subst, arith}
use Rattle.std.proofs.lemmas.Bool.Decides.{nat_tests}
use Rattle.laws.specs.words.Place.{Place}
use Rattle.laws.specs.words.declared.layout.Layout.{Layout}
use Rattle.laws.specs.defs.declared.call.Call.{Call}
use Rattle.laws.specs.defs.declared.event.Event.{Event}
use Rattle.laws.specs.defs.declared.event.Event.TheVariants as events
use Rattle.laws.specs.defs.declared.event.Guard.{Guard}
use Rattle.laws.specs.defs.declared.lifetime.Interval.{Interval}
use Rattle.inv_all.specs.model.declared.post.Post.{Post}
use Rattle.inv_all.specs.model.Calls.{AfterScan, ScanAt, ReadGuard, GiveBack, Phase, Idle, Runs, Scans, Works, CallTurn, CallOutcome, GoesOn, Answers}
use Rattle.inv_all.specs.model.Desks.{Desk}
use Rattle.inv_all.specs.model.Guards.{guard_at, guard_place, eras_in, linked_row}
use Rattle.inv_all.specs.model.Locals.{told_by, told_end}
use Rattle.inv_all.specs.model.Memory.{found, place_in}
use Rattle.inv_all.specs.model.Posts.{counted}
use Rattle.inv_all.specs.model.Scan.{reads_guard, scan_turn}
use Rattle.inv_all.specs.model.Steps.{phase_move, phase_turn}
use Rattle.inv_all.specs.model.World.{World, is_busy, may_start, offered}
use Rattle.inv_all.proofs.model.Facts.{first_of, rest_of}
use Rattle.inv_all.specs.covers.Covers.{eras_shown}
use Rattle.inv_all.specs.shapes.Eras.{ErasNeeds}
use Rattle.laws.specs.records.Record.{Past, Each, tells_of}
use Rattle.laws.specs.records.Record.Past.{Then}
use Rattle.laws.proofs.records.Entries.{entries_of_each}
use Rattle.inv_all.specs.history.History.{Begins, Steps, Made, done, first_made, record_of}
use Rattle.inv_all.proofs.history.Along.{Steady, items_keep}
use Rattle.inv_all.proofs.Inv.Ready.{eras_need}
use Rattle.inv_all.proofs.Inv.Shown.{clock_small}
use Rattle.law_reuse.proofs.Once.Calm.{is_unread, run_unread, work_unread}
use Rattle.law_reuse.proofs.Once.Keeps.{Keeps, first_keeps, begin_keeps, step_keeps}
use Rattle.laws.specs.StateAt.{hazard_of, same_span, value_of}
use Rattle.laws.specs.StructuresAt.{same_value}
use Rattle.laws.specs.words.Schemes.{publishes_rows}
use Rattle.laws.specs.ScanLaw.{read_ok}
use Rattle.law_reuse.specs.Records.{RecordsReadGuards}
use Rattle.law_reuse.proofs.Blocks.Placed.{scan_event, scan_tells}
use Rattle.law_reuse.proofs.Blocks.Published.{Values, values_begin, values_start, values_step}
use Rattle.law_reuse.proofs.Blocks.Reserves.{PhaseWords, phase_words}
use Rattle.inv_all.proofs.history.AllOf.{all_of}

-- the law
span_self : (span : Option Interval) → same_span span span ≡ true
span_self None = refl
span_self (Some span) = grind (arith, nat_tests)

unread_ok : (p : Past) (i : ℕ) (event : Event) → is_unread event ≡ true → read_ok p i event ≡ true
unread_ok p i (events.Read guard span) h = absurd (cc)
unread_ok p i (events.Saw guard slot) h = absurd (cc)
unread_ok p i event h = refl

unread_each : (i : ℕ) (told : List Event) (p : Past) → all_of is_unread told ≡ true → Each read_ok p → Each read_ok (tells_of p i told)
unread_each i [] p u t = t
unread_each i (event ∷ told) p u t = unread_each i told (Then p i event) (rest_of (is_unread event) (all_of is_unread told) u) (unread_ok p i event (first_of (is_unread event) (all_of is_unread told) u), t)

end_each : (i : ℕ) (event : Event) (p : Past) (post : Post) (outcome : CallOutcome) → read_ok p i event ≡ true → Each read_ok p → Each read_ok (tells_of p i (event ∷ told_end post outcome))
end_each i event p post (GoesOn phase) o t = (o, t)
end_each i event p post (Answers answer) o t = (refl, (o, t))

row_self : (slot : Option ℕ) → same_value slot slot ≡ true
row_self None = refl
row_self (Some slot) = grind (arith, nat_tests)

-- the words show what the record says, by whether they publish rows
abbrev Shows : (rows : Bool) → (Place → ℕ) → Past → Type 0
Shows false mem p = (guard : Guard) → eras_in guard (mem (guard_place guard)) ≡ value_of guard p
Shows true mem p = (guard : Guard) → linked_row (mem (guard_place guard)) ≡ hazard_of guard p

reads_ok : (rows : Bool) (guard : Guard) (mem : Place → ℕ) (p : Past) (i x : ℕ) → x ≡ mem (guard_place guard) → Shows rows mem p → read_ok p i (reads_guard rows guard x) ≡ true
reads_ok false guard mem p i x f h =
    let e : eras_in guard x ≡ value_of guard p = ap (eras_in guard) f ∙ h guard in
    subst (λ (y : Option Interval). same_span (eras_in guard x) y ≡ true) e (span_self (eras_in guard x))
reads_ok true guard mem p i x f h =
    let e : linked_row x ≡ hazard_of guard p = ap linked_row f ∙ h guard in
    subst (λ (y : Option ℕ). same_value (linked_row x) y ≡ true) e (row_self (linked_row x))

event_ok : (at : ScanAt) (post : Post) (mem : Place → ℕ) (p : Past) (i x : ℕ) → ((number : ℕ) → at ≡ ReadGuard number → x ≡ mem (guard_place (guard_at post.layout.config number))) → Shows (publishes_rows post.layout.config.scheme) mem p → read_ok p i (scan_event at post x) ≡ true
event_ok (ReadGuard number) post mem p i x f h = reads_ok (publishes_rows post.layout.config.scheme) (guard_at post.layout.config number) mem p i x (f number refl) h
event_ok (GiveBack place slot) post mem p i x f h = refl

scan_each : (i : ℕ) (later : AfterScan) (at : ScanAt) (post : Post) (desk : Desk) (x : ℕ) (p : Past) → read_ok p i (scan_event at post x) ≡ true → Each read_ok p → Each read_ok (tells_of p i (told_by (scan_turn later at post desk x)))
scan_each i later at post desk x p o t =
    let turn : CallTurn = scan_turn later at post desk x in
    let e : told_by turn ≡ scan_event at post x ∷ told_end turn.post turn.outcome = ap (λ (told : List Event). told ++ told_end turn.post turn.outcome) (scan_tells later at post desk x) in
    subst (λ (told : List Event). Each read_ok (tells_of p i told)) (sym e) (end_each i (scan_event at post x) p turn.post turn.outcome o t)

found_guard : (later : AfterScan) (at : ScanAt) (post : Post) (mem : Place → ℕ) (number : ℕ) → at ≡ ReadGuard number → found (phase_move (Scans later at) post) (mem (place_in (phase_move (Scans later at) post))) ≡ mem (guard_place (guard_at post.layout.config number))
found_guard later at post mem number e = subst (λ (x : ScanAt). found (phase_move (Scans later x) post) (mem (place_in (phase_move (Scans later x) post))) ≡ mem (guard_place (guard_at post.layout.config number))) (sym e) refl

phase_each : (i : ℕ) (phase : Phase) (post : Post) (desk : Desk) (mem : Place → ℕ) (p : Past) → Shows (publishes_rows post.layout.config.scheme) mem p → Each read_ok p
    → Each read_ok (tells_of p i (told_by (phase_turn phase (counted post) desk (found (phase_move phase post) (mem (place_in (phase_move phase post)))))))
phase_each i Idle post desk mem p h t = t
phase_each i (Runs why base) post desk mem p h t =
    let x : ℕ = found (phase_move (Runs why base) post) (mem (place_in (phase_move (Runs why base) post))) in unread_each i (told_by (phase_turn (Runs why base) (counted post) desk x)) p (run_unread why base (counted post) desk x) t
phase_each i (Scans later at) post desk mem p h t =
    let x : ℕ = found (phase_move (Scans later at) post) (mem (place_in (phase_move (Scans later at) post))) in
    scan_each i later at (counted post) desk x p (event_ok at (counted post) mem p i x (found_guard later at post mem) h) t
phase_each i (Works work) post desk mem p h t =
    let x : ℕ = found (phase_move (Works work) post) (mem (place_in (phase_move (Works work) post))) in unread_each i (told_by (phase_turn (Works work) (counted post) desk x)) p (work_unread work (counted post) desk x) t

values_show : (w : World) (p : Past) → Values w p → Shows (publishes_rows w.layout.config.scheme) w.mem p
values_show w p h = by (publishes_rows w.layout.config.scheme) h.eras h.rows
  where
    by : (rows : Bool) → (rows ≡ false → (guard : Guard) → value_of guard p ≡ eras_shown w guard) → (rows ≡ true → (guard : Guard) → hazard_of guard p ≡ linked_row (w.mem (guard_place guard))) → Shows rows w.mem p
    by false e r = λ guard. sym (e refl guard)
    by true e r = λ guard. sym (r refl guard)

-- what a history keeps
record Read (layout : Layout) (made : Made) : Type 0 where
  base : Keeps layout made
  shows : Values made.world made.past
  law : Each read_ok made.past

words_of : (layout : Layout) (made : Made) (i : ℕ) → publishes_rows made.world.layout.config.scheme ≡ false → Keeps layout made → PhaseWords (made.world.seat i).phase (made.world.seat i).post
words_of layout made i e b =
    let w : World = made.world in
    let k = b.known in
    let n : ErasNeeds w i = eras_need w i b.rows b.asked k.valid k.seats k.whole.both.rows k.requests in
    phase_words w.layout (w.mem Place.Clock) (w.seat i).phase (w.seat i).post e n.tags (clock_small w k.valid k.eras) (k.eras.seats i).post.span (k.seats.fits i).post.layout (k.seats.fits i).phase (k.eras.seats i).phase

begin_read : (layout : Layout) (made : Made) (i : ℕ) (call : Call) → is_busy made.world i ≡ false → may_start made.world i call ≡ true → Read layout made → Read layout (done made (Begins i call))
begin_read layout made i call f m g = record { base = begin_keeps layout made i call f m g.base; shows = values_begin made.world i call made.past g.shows; law = (refl, g.law) }

own_shows : (w : World) (i : ℕ) (p : Past) → (w.seat i).post.layout ≡ w.layout → Values w p → Shows (publishes_rows (w.seat i).post.layout.config.scheme) w.mem p
own_shows w i p l h = subst (λ (table : Layout). Shows (publishes_rows table.config.scheme) w.mem p) (sym l) (values_show w p h)

step_read : (layout : Layout) (made : Made) (i : ℕ) → i < made.world.layout.config.seats → is_busy made.world i ≡ true → Read layout made → Read layout (done made (Steps i))
step_read layout made i b y g = record {
  base = step_keeps layout made i b y g.base;
  shows = values_step made.world i made.past (λ e. words_of layout made i e g.base) (g.base.known.seats.fits i).post.layout (g.base.known.seats.fits i).phase g.shows;
  law = phase_each i (made.world.seat i).phase (made.world.seat i).post (offered made.world i).desk made.world.mem made.past (own_shows made.world i made.past (g.base.known.seats.fits i).post.layout g.shows) g.law;
}

steady : (layout : Layout) → Steady (Read layout)
steady layout = record { begins = λ made i call b y m g. begin_read layout made i call y m g; steps = λ made i b y g. step_read layout made i b y g }

pub records_read_guards : RecordsReadGuards
records_read_guards layout items d =
    let g = items_keep (Read layout) (steady layout) items (first_made layout) (record { base = first_keeps layout d; shows = values_start layout; law = tt }) in entries_of_each read_ok (record_of layout items) g.law
