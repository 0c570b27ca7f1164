-- Where index words publish rows, what a step tells of them is what it makes them publish.
use Rattle.std.proofs.Common.{ℕ, ◌≡◌, Bool, true, false, List, [], ◌∷◌, Option, None, refl, sym, ap, ◌∙◌}
use Rattle.std.specs.Prelude.{◌==◌, ◌&&◌, if◌then◌else◌, not, is_some}
use Rattle.std.specs.List.{filter}
use Rattle.laws.specs.words.Place.{Place, has}
use Rattle.laws.specs.words.Schemes.{has_one_interval, helps, publishes_rows}
use Rattle.laws.specs.words.declared.config.Config.{Config}
use Rattle.laws.specs.words.declared.config.SchemeKind.{SchemeKind}
use Rattle.laws.specs.words.declared.layout.Layout.{Layout}
use Rattle.laws.specs.defs.declared.event.Event.{Event}
use Rattle.laws.specs.defs.declared.event.Event.TheVariants as events
use Rattle.laws.specs.defs.declared.event.Guard.{Guard}
use Rattle.laws.specs.defs.declared.event.Guard.TheVariants.{Helper, Index, Whole}
use Rattle.laws.specs.defs.declared.event.Root.{Root}
use Rattle.laws.specs.records.Record.{Past, tells_of}
use Rattle.laws.specs.records.Record.Past.{Then}
use Rattle.laws.specs.StateAt.{hazard_by, hazard_of}
use Rattle.laws.proofs.Along.{along, along_kind}
use Rattle.inv_all.specs.model.declared.post.Post.{Post}
use Rattle.inv_all.specs.model.Calls.{ReadGuard, GiveBack, Phase, Idle, Runs, Scans, Works, Work, Getting, Changing, Enqueuing, Dequeuing, Keeping, StoreHeld, HideSpan}
use Rattle.inv_all.specs.model.Guards.{guard_at, guard_place, linked_row}
use Rattle.inv_all.specs.model.Machine as machine
use Rattle.inv_all.specs.model.Memory as memory
use Rattle.inv_all.specs.model.Memory.{Move, Store, put, place_in, written}
use Rattle.inv_all.specs.model.Phases.{Aim, HazardAt, ProtectAt, MoveAt, Base}
use Rattle.inv_all.specs.model.Phases.ProtectAt.{ByHazard}
use Rattle.inv_all.specs.model.Phases.HazardAt.{FirstLink, PublishLink, CheckLink}
use Rattle.inv_all.specs.model.Phases.AllocateAt.{LoadBirth}
use Rattle.inv_all.specs.model.Phases.RetireAt.{LoadLife}
use Rattle.inv_all.specs.model.Phases.MoveAt.{LoadEra, ExchangeClock}
use Rattle.inv_all.specs.model.Phases.Base.{Begin, Protect, Clear, Finish, Release, Allocate, Retire}
use Rattle.inv_all.specs.model.Posts.{stands, counted, publishes_index, shown_word}
use Rattle.inv_all.specs.model.Rounds.{scheme_of}
use Rattle.inv_all.specs.model.Scan.{reads_guard}
use Rattle.inv_all.specs.model.Steps.{phase_move, work_move}
use Rattle.inv_all.specs.model.World.{World, start, step, finds, told_in}
use Rattle.inv_all.specs.shapes.Frame.{WorkFits}
use Rattle.inv_all.specs.shapes.Seats.{PhaseFits, agree, base_fits, move_fits}
use Rattle.inv_all.proofs.ends.Told.Rows.{own_told, step_filter}
use Rattle.inv_all.proofs.ends.Told.Turns.{is_later}
use Rattle.inv_all.proofs.history.MayTell.{hazards, is_hazard, no_hazard}
use Rattle.inv_all.proofs.history.Passes.{copied_told, work_told}
use Rattle.inv_all.proofs.model.Facts.{first_of, rest_of}
use Rattle.inv_all.proofs.model.words.Schemes.{rows_not_help, rows_not_interval}
use Rattle.inv_all.proofs.requests.Hazards.{only_hazards}
use Rattle.law_reuse.proofs.Blocks.Kinds.{Kind, none_of, cleared_one, copied_one, shows_guard, work_leaves, work_quiet}
use Rattle.law_reuse.proofs.Blocks.Words.{leaves, written_plain}

abbrev of_rows : List Event → List Event
of_rows told = filter is_hazard told

of_kind : Kind is_hazard
of_kind = record { clears = λ index slot. refl; copies = λ from index slot. refl }

-- what is told of rows after an operation is what the words publish
abbrev pub PublishesRow : Guard → (Place → ℕ) → Move → List Event → Type 0
PublishesRow guard mem m told = linked_row (written mem m (guard_place guard)) ≡ along (hazard_by guard) told (linked_row (mem (guard_place guard)))

none_published : (guard : Guard) (mem : Place → ℕ) (m : Move) (told : List Event) → leaves m ≡ true → told ≡ [] → PublishesRow guard mem m told
none_published guard mem m told h e = ap linked_row (written_plain guard mem m h) ∙ ap (λ (es : List Event). along (hazard_by guard) es (linked_row (mem (guard_place guard)))) (sym e)

put_linked : (guard other : Guard) (mem : Place → ℕ) (word : ℕ) → linked_row (put mem (guard_place other) word (guard_place guard)) ≡ hazard_by guard (events.Hazard other (linked_row word)) (linked_row (mem (guard_place guard)))
put_linked (Helper a) (Helper b) mem word = by (a == b)
  where
    by : (same : Bool) → linked_row (if same then word else mem (Place.Helper a)) ≡ (if same then linked_row word else linked_row (mem (Place.Helper a)))
    by true = refl
    by false = refl
put_linked (Helper a) (Index b j) mem word = refl
put_linked (Helper a) (Whole b) mem word = refl
put_linked (Index a i) (Helper b) mem word = refl
put_linked (Index a i) (Index b j) mem word = by (a == b && i == j)
  where
    by : (same : Bool) → linked_row (if same then word else mem (Place.Index a i)) ≡ (if same then linked_row word else linked_row (mem (Place.Index a i)))
    by true = refl
    by false = refl
put_linked (Index a i) (Whole b) mem word = refl
put_linked (Whole a) (Helper b) mem word = refl
put_linked (Whole a) (Index b j) mem word = refl
put_linked (Whole a) (Whole b) mem word = by (a == b)
  where
    by : (same : Bool) → linked_row (if same then word else mem (Place.Interval a)) ≡ (if same then linked_row word else linked_row (mem (Place.Interval a)))
    by true = refl
    by false = refl

put_row : (guard other : Guard) (mem : Place → ℕ) (word : ℕ) (told : List Event) → told ≡ events.Hazard other (linked_row word) ∷ [] → linked_row (put mem (guard_place other) word (guard_place guard)) ≡ along (hazard_by guard) told (linked_row (mem (guard_place guard)))
put_row guard other mem word told q = put_linked guard other mem word ∙ ap (λ (es : List Event). along (hazard_by guard) es (linked_row (mem (guard_place guard)))) (sym q)

-- a machine
abbrev Shows : Guard → (Place → ℕ) → Base → Post → Type 0
Shows guard mem base post = PublishesRow guard mem (machine.base_move base post) (of_rows (machine.after base (counted post) (memory.found (machine.base_move base post) (mem (place_in (machine.base_move base post))))).told)

bare_shows : (guard : Guard) (mem : Place → ℕ) (base : Base) (post : Post) → hazards base ≡ false → leaves (machine.base_move base post) ≡ true → Shows guard mem base post
bare_shows guard mem base post p l =
    let x : ℕ = memory.found (machine.base_move base post) (mem (place_in (machine.base_move base post))) in
    none_published guard mem (machine.base_move base post) _ l (none_of is_hazard (machine.after base (counted post) x).told (no_hazard base (counted post) x p))

hazard_shows : (guard : Guard) (mem : Place → ℕ) (aim : Aim) (index : ℕ) (root : Root) (n : ℕ) (at : HazardAt) (post : Post) → Shows guard mem (Protect aim index root n (ByHazard at)) post
hazard_shows guard mem aim index root n FirstLink post = bare_shows guard mem (Protect aim index root n (ByHazard FirstLink)) post refl refl
hazard_shows guard mem aim index root n (PublishLink link) post = put_row guard (Index post.seat index) mem link _ refl
hazard_shows guard mem aim index root n (CheckLink link) post = bare_shows guard mem (Protect aim index root n (ByHazard (CheckLink link))) post refl refl

clear_shows : (guard : Guard) (mem : Place → ℕ) (rows : Bool) (index : ℕ) (post : Post) → rows ≡ true → Shows guard mem (Clear rows index) post
clear_shows guard mem false index post e = absurd (cc)
clear_shows guard mem true index post e = put_row guard (Index post.seat index) mem 0 _ (cleared_one is_hazard of_kind index (stands post index) (events.Hazard (Index post.seat index) None) refl)

clears_rows : (rows : Bool) (scheme : SchemeKind) → publishes_rows scheme ≡ true → (not (has_one_interval scheme) && agree rows (publishes_rows scheme)) ≡ true → rows ≡ true
clears_rows true scheme p f = refl
clears_rows false scheme p f = let e : not (publishes_rows scheme) ≡ true = rest_of (not (has_one_interval scheme)) (not (publishes_rows scheme)) f in absurd (cc)

move_shows : (guard : Guard) (mem : Place → ℕ) (scheme : SchemeKind) (seats : ℕ) (at : MoveAt) (post : Post) → helps scheme ≡ false → move_fits scheme seats at ≡ true → Shows guard mem (Base.Move at) post
move_shows guard mem scheme seats (LoadEra helping) post n f = bare_shows guard mem (Base.Move (LoadEra helping)) post refl refl
move_shows guard mem scheme seats (ExchangeClock era) post n f = bare_shows guard mem (Base.Move (ExchangeClock era)) post refl refl
move_shows guard mem scheme seats (MoveAt.HideEra era) post n f = absurd (cc)
move_shows guard mem scheme seats (MoveAt.HideLate seen) post n f = absurd (cc)
move_shows guard mem scheme seats at post n f = absurd (let h : helps scheme ≡ true = first_of (helps scheme) _ f in cc)

base_shows : (guard : Guard) (mem : Place → ℕ) (config : Config) (base : Base) (post : Post) → publishes_rows config.scheme ≡ true → base_fits config base ≡ true → Shows guard mem base post
base_shows guard mem config (Begin at) post p f = absurd (let e = rows_not_interval config.scheme p in cc)
base_shows guard mem config (Protect aim index root steps at) post p f =
    only_hazards config.scheme config.tries at (λ (x : ProtectAt). Shows guard mem (Protect aim index root steps x) post) p f (λ x. hazard_shows guard mem aim index root steps x post)
base_shows guard mem config (Clear rows index) post p f = clear_shows guard mem rows index post (clears_rows rows config.scheme p f)
base_shows guard mem config Finish post p f = absurd (let e = rows_not_interval config.scheme p in cc)
base_shows guard mem config (Release index) post p f = absurd (let e = rows_not_interval config.scheme p in cc)
base_shows guard mem config (Allocate LoadBirth) post p f = refl
base_shows guard mem config (Allocate at) post p f = bare_shows guard mem (Allocate at) post refl refl
base_shows guard mem config (Retire (LoadLife slot)) post p f = refl
base_shows guard mem config (Retire at) post p f = bare_shows guard mem (Retire at) post refl refl
base_shows guard mem config (Base.Move at) post p f = move_shows guard mem config.scheme config.seats at post (rows_not_help config.scheme p) f
base_shows guard mem config base post p f = bare_shows guard mem base post refl refl

-- a call's own step
abbrev WorkShows : Guard → (Place → ℕ) → Work → Post → Type 0
WorkShows guard mem work post = PublishesRow guard mem (work_move work post) (of_rows (work_told work (counted post)))

plain_shows : (guard : Guard) (mem : Place → ℕ) (work : Work) (post : Post) → shows_guard work ≡ false → WorkShows guard mem work post
plain_shows guard mem work post n = none_published guard mem (work_move work post) (of_rows (work_told work (counted post))) (work_leaves work post n) (work_quiet is_hazard of_kind work (counted post) n)

stores_shown : (guard : Guard) (mem : Place → ℕ) (from index link : ℕ) (post : Post) (rows : Bool) → rows ≡ true → is_some (stands post from) ≡ true
    → PublishesRow guard mem (Store (Place.Index post.seat index) (shown_word rows post index link)) (of_rows (copied_told from index (counted post) (publishes_index rows (counted post) index link) (stands post from)))
stores_shown guard mem from index link post false e h = absurd (cc)
stores_shown guard mem from index link post true e h =
    put_row guard (Index post.seat index) mem link _ (copied_one is_hazard of_kind from index (counted post) (stands post from) (events.Hazard (Index post.seat index) (linked_row link)) h refl)

work_shows : (guard : Guard) (mem : Place → ℕ) (work : Work) (post : Post) → publishes_rows (scheme_of post) ≡ true → WorkFits post work → WorkShows guard mem work post
work_shows guard mem (Keeping (StoreHeld from index link)) post p h = stores_shown guard mem from index link post (publishes_rows (scheme_of post)) p h.kept
work_shows guard mem (Keeping HideSpan) post p h = absurd (let e = rows_not_interval (scheme_of post) p in let i : has_one_interval (scheme_of post) ≡ true = h.interval in cc)
work_shows guard mem (Keeping at) post p h = plain_shows guard mem (Keeping at) post refl
work_shows guard mem (Getting key at) post p h = plain_shows guard mem (Getting key at) post refl
work_shows guard mem (Changing kept at) post p h = plain_shows guard mem (Changing kept at) post refl
work_shows guard mem (Enqueuing kept at) post p h = plain_shows guard mem (Enqueuing kept at) post refl
work_shows guard mem (Dequeuing at) post p h = plain_shows guard mem (Dequeuing at) post refl

-- what is read is published before and after
reads_kept : (guard : Guard) (rows : Bool) (other : Guard) (word : ℕ) (x : Option ℕ) → x ≡ along (hazard_by guard) (of_rows (reads_guard rows other word ∷ [])) x
reads_kept guard false other word x = refl
reads_kept guard true other word x = refl

phase_shows : (guard : Guard) (mem : Place → ℕ) (layout : Layout) (phase : Phase) (post : Post) → publishes_rows layout.config.scheme ≡ true → post.layout ≡ layout → PhaseFits layout post phase
    → PublishesRow guard mem (phase_move phase post) (of_rows (own_told phase (counted post) (memory.found (phase_move phase post) (mem (place_in (phase_move phase post))))))
phase_shows guard mem layout Idle post p l h = refl
phase_shows guard mem layout (Runs why base) post p l h = base_shows guard mem layout.config base post p h.fits
phase_shows guard mem layout (Scans later (ReadGuard number)) post p l h =
    let config : Config = post.layout.config in
    reads_kept guard (publishes_rows config.scheme) (guard_at config number) (mem (guard_place (guard_at config number))) (linked_row (mem (guard_place guard)))
phase_shows guard mem layout (Scans later (GiveBack place slot)) post p l h = none_published guard mem (machine.free_move slot) _ refl refl
phase_shows guard mem layout (Works work) post p l h = work_shows guard mem work post (ap (λ (x : Layout). publishes_rows x.config.scheme) l ∙ p) h

-- what the record says after a step
later_rows : (event : Event) → is_later event ≡ true → is_hazard event ≡ false
later_rows (events.Hazard guard slot) h = absurd (cc)
later_rows event h = refl

hazard_quiet : (guard : Guard) (event : Event) (x : Option ℕ) → is_hazard event ≡ false → hazard_by guard event x ≡ x
hazard_quiet guard (events.Hazard other slot) x h = absurd (cc)
hazard_quiet guard event x h = refl

hazard_tells : (guard : Guard) (i : ℕ) (told : List Event) (p : Past) → hazard_of guard (tells_of p i told) ≡ along (hazard_by guard) told (hazard_of guard p)
hazard_tells guard i [] p = refl
hazard_tells guard i (event ∷ told) p = hazard_tells guard i told (Then p i event)

pub step_linked : (w : World) (i : ℕ) (p : Past) (guard : Guard) → publishes_rows w.layout.config.scheme ≡ true → (w.seat i).post.layout ≡ w.layout → PhaseFits w.layout (w.seat i).post (w.seat i).phase → linked_row (w.mem (guard_place guard)) ≡ hazard_of guard p
    → linked_row ((step w i).mem (guard_place guard)) ≡ hazard_of guard (tells_of p i (told_in w i))
step_linked w i p guard r l h t =
    let own : List Event = own_told (w.seat i).phase (counted (w.seat i).post) (finds w i) in
    let a : linked_row ((step w i).mem (guard_place guard)) ≡ along (hazard_by guard) (of_rows own) (linked_row (w.mem (guard_place guard))) = phase_shows guard w.mem w.layout (w.seat i).phase (w.seat i).post r l h in
    let b : of_rows (told_in w i) ≡ of_rows own = step_filter is_hazard w i later_rows in
    let c : hazard_of guard (tells_of p i (told_in w i)) ≡ along (hazard_by guard) (of_rows (told_in w i)) (hazard_of guard p) =
    hazard_tells guard i (told_in w i) p ∙ along_kind (hazard_by guard) is_hazard (hazard_quiet guard) (told_in w i) (hazard_of guard p) in
    a ∙ ap (along (hazard_by guard) (of_rows own)) t ∙ ap (λ (es : List Event). along (hazard_by guard) es (hazard_of guard p)) (sym b) ∙ sym c

-- at the start no word publishes a row
start_if : (there : Bool) → linked_row (if there then 0 else 0) ≡ None
start_if true = refl
start_if false = refl

pub start_linked : (layout : Layout) (guard : Guard) → linked_row ((start layout).mem (guard_place guard)) ≡ None
start_linked layout (Helper seat) = start_if (has layout (Place.Helper seat))
start_linked layout (Index seat index) = start_if (has layout (Place.Index seat index))
start_linked layout (Whole seat) = start_if (has layout (Place.Interval seat))
