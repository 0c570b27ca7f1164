-- Along a history the numbers that protections tell count the turns of their seats.
use Rattle.std.proofs.Common.{ℕ, ◌≡◌, ◌≤◌, ◌<◌, ◌+◌, ◌^◌, Bool, true, false, List, [], ◌∷◌, Option, refl, sym, ap, ◌∙◌, subst, arith}
use Rattle.std.proofs.lemmas.Bool.Decides.{nat_tests}
use Rattle.std.specs.Prelude.{◌==◌, ◌&&◌, ◌||◌, ◌*◌, nat_le, not, if◌then◌else◌}
use Rattle.law_reuse.specs.laws.words.Place.{is_valid, Place as places}
use Rattle.law_reuse.specs.laws.words.Place.Place.{Clock}
use Rattle.law_reuse.specs.laws.words.Packed.{reservation_word}
use Rattle.law_reuse.specs.laws.words.declared.layout.Layout.{Layout}
use Rattle.law_reuse.specs.laws.defs.declared.call.Call.{Call}
use Rattle.law_reuse.specs.laws.defs.declared.event.Event.{Event}
use Rattle.law_reuse.specs.laws.defs.declared.event.Event.TheVariants as events
use Rattle.law_reuse.specs.laws.defs.declared.event.Root.{Root}
use Rattle.law_reuse.specs.inv.model.declared.post.Post.{Post}
use Rattle.law_reuse.specs.inv.model.Links.{link_number}
use Rattle.law_reuse.specs.inv.model.Locals.{Local, busy_in, begun_post, turn}
use Rattle.law_reuse.specs.inv.model.Posts.{counted}
use Rattle.law_reuse.specs.inv.model.Rest.{rest}
use Rattle.law_reuse.specs.inv.model.Steps as steps
use Rattle.law_reuse.specs.inv.model.World.{World, begin, finds, is_busy, offered, step, told_in}
use Rattle.law_reuse.specs.inv.model.Phases.{Aim, ProtectAt, MoveAt, Base}
use Rattle.law_reuse.specs.inv.model.Phases.ProtectAt.{PublishEra, TakeAnswer, ByHazard}
use Rattle.law_reuse.specs.inv.model.Phases.HazardAt.{FirstLink, PublishLink, CheckLink}
use Rattle.law_reuse.proofs.inv.ends.Rest.Told.{by_rows}
use Rattle.law_reuse.specs.inv.model.Phases.MoveAt.{HandOver}
use Rattle.law_reuse.specs.inv.model.Phases.Base.{Protect, Reload, Move}
use Rattle.law_reuse.specs.inv.model.Calls.{Why, KeepAt, StoreHeld, Work, Keeping, Phase, Idle, Runs, Scans, Works, ReadGuard, GiveBack, CallTurn}
use Rattle.law_reuse.proofs.laws.records.defs.Facts.{same_number, both, first_of, rest_of}
use Rattle.law_reuse.proofs.inv.model.Ranges.{bounds_of}
use Rattle.law_reuse.specs.laws.records.Turns as schedule
use Rattle.law_reuse.specs.laws.records.Turns.{record_of, turns_of, EachTurn}
use Rattle.law_reuse.specs.laws.records.Turns.History.{Blank, Starts, Turns}
use Rattle.law_reuse.specs.history.History.{Begins, Steps, Made, done, first_made}
use Rattle.law_reuse.specs.inv.shapes.Eras.{EraIn}
use Rattle.law_reuse.specs.laws.words.Schemes.{is_ibr, publishes_rows}
use Rattle.law_reuse.proofs.inv.model.words.Schemes.{eras_not_interval, eras_not_rows, rows_not_interval}
use Rattle.law_reuse.specs.laws.defs.declared.event.Guard.{Guard}
use Rattle.law_reuse.specs.laws.defs.declared.lifetime.Interval.{Interval}
use Rattle.law_reuse.specs.inv.model.Guards.{guard_at}
use Rattle.law_reuse.specs.inv.model.Rounds.{scheme_of}
use Rattle.law_reuse.specs.history.Heard.{heard_of}
use Rattle.law_reuse.proofs.ReadGuards.{reads_are}
use Rattle.law_reuse.specs.inv.shapes.Frame.{phase_left}
use Rattle.law_reuse.specs.inv.shapes.Seats.{PostFits, PhaseFits}
use Rattle.law_reuse.specs.inv.shapes.Slots.{KeepIn, WorkIn, PhaseIn}
use Rattle.law_reuse.proofs.shapes.Kept.{work_counted}
use Rattle.law_reuse.proofs.shapes.Frame.{seat_stays, begin_stays, begin_begins}
use Rattle.law_reuse.specs.inv.requests.Deals.{answered_with, in_time}
use Rattle.law_reuse.specs.inv.requests.Standing.{Requests}
use Rattle.law_reuse.specs.inv.requests.Views.{Deal}
use Rattle.law_reuse.specs.inv.requests.Views.Deal.{Quiet, Open, Answered, Passed, Taken}
use Rattle.law_reuse.specs.inv.covers.Rests.{spare}
use Rattle.law_reuse.proofs.inv.covers.Held.{stepped_post, stepped_phase, finds_at}
use Rattle.law_reuse.proofs.inv.ends.Handover.Asks.{Asker, asker, fits_at}
use Rattle.law_reuse.proofs.inv.ends.Handover.Deals.{handed_deal}
use Rattle.law_reuse.proofs.inv.ends.Handover.Words.{Handed}
use Rattle.law_reuse.specs.inv.Inv.{Inv}
use Rattle.law_reuse.proofs.inv.Inv.Shapes.{eras_of}
use Rattle.law_reuse.proofs.inv.Inv.Guards.{rests_need}
use Rattle.law_reuse.proofs.inv.Inv.Whole.{handover_need}
use Rattle.law_reuse.proofs.history.Passes.{First, step_goes}
use Rattle.law_reuse.specs.laws.StateAt.{hazards_of, reserves_of}
use Rattle.law_reuse.specs.laws.HistoryTurns.{turns_hazarded, turns_since, event_loaded, event_right, events_loaded, events_right, loads_right, numbers_right, number_right}
use Rattle.law_scans.specs.Turns.Records.{LoadsCount, ProtectionsCount}
use Rattle.law_reuse.proofs.OneStep.Along.{Around, Kept, history_keeps}
use Rattle.law_scans.proofs.Turns.Counting.Fits.{own, base_own, hazard_paced, unused, Clean, Fits, Left, WorkRight, first_fits}
use Rattle.law_scans.proofs.Turns.Counting.Passing.{SomeEra, Kinded, Apart, turned, base_kinded, base_comes}
use Rattle.law_scans.proofs.Turns.Counting.Runs.{phase_x, PhaseRight, Seat, turn_fits, turn_rights}
use Rattle.law_scans.proofs.Turns.Counting.Told.{counted_by, counted_of, event_numbered, events_numbered, work_comes, reserved_along, reserved_tells, reserved_stays, comes_closed, rights_closed}
use Rattle.law_scans.proofs.Turns.Counting.Protects.{u_next}

-- the same counts
base_own_same : (x u y v : ℕ → ℕ) (post : Post) (base : Base) → ((j : ℕ) → y j ≡ x j) → ((j : ℕ) → v j ≡ u j) → base_own x u post base ≡ true → base_own y v post base ≡ true
base_own_same x u y v post (Protect aim index root made at) p q h = rw (p index) (rw (q index) h)
base_own_same x u y v post (Reload parent index slot era made) p q h = rw (p index) (rw (q index) h)
base_own_same x u y v post base p q h = refl

own_same : (x u y v : ℕ → ℕ) (post : Post) (phase : Phase) → ((j : ℕ) → y j ≡ x j) → ((j : ℕ) → v j ≡ u j) → own x u post phase ≡ true → own y v post phase ≡ true
own_same x u y v post Idle p q h = refl
own_same x u y v post (Runs why base) p q h = base_own_same x u y v post base p q h
own_same x u y v post (Scans later at) p q h = refl
own_same x u y v post (Works work) p q h = refl

fits_same : (x u y v : ℕ → ℕ) (post : Post) (phase : Phase) → ((j : ℕ) → y j ≡ x j) → ((j : ℕ) → v j ≡ u j) → Fits x u post phase → Fits y v post phase
fits_same x u y v post phase p q f =
    let c = f.clean in
    record { clean = record { free = λ j e. p j ∙ c.free j e; kept = λ j low e m. p j ∙ c.kept j low e m; plain = c.plain }; own = own_same x u y v post phase p q f.own }

event_same : (rows : Bool) (x u y v : ℕ → ℕ) (call : ℕ) (event : Event) → ((j : ℕ) → y j ≡ x j) → ((j : ℕ) → v j ≡ u j) → event_numbered rows x u call event ≡ true → event_numbered rows y v call event ≡ true
event_same rows x u y v call (events.Held index slot n) p q h = rw (p index) (rw (q index) h)
event_same rows x u y v call (events.Null index n) p q h = rw (p index) (rw (q index) h)
event_same rows x u y v call event p q h = refl

events_same : (rows : Bool) (x u y v : ℕ → ℕ) (call : ℕ) (told : List Event) → ((j : ℕ) → y j ≡ x j) → ((j : ℕ) → v j ≡ u j) → events_numbered rows x u call told ≡ true → events_numbered rows y v call told ≡ true
events_same rows x u y v call [] p q h = refl
events_same rows x u y v call (event ∷ told) p q h =
    both (event_numbered rows y v call event) (events_numbered rows y v call told) (event_same rows x u y v call event p q (first_of (event_numbered rows x u call event) (events_numbered rows x u call told) h)) (events_same rows x u y v call told p q (rest_of (event_numbered rows x u call event) (events_numbered rows x u call told) h))

-- the era of an answer that is taken is one
answer_some : (j word link era clock most : ℕ) (d : Deal) → answered_with j word link era d ≡ true → in_time d clock most ≡ true → 1 ≤ era
answer_some j word link era clock most Quiet h t = absurd (cc)
answer_some j word link era clock most (Open t' j' w') h t = absurd (cc)
answer_some j word link era clock most (Answered t' j' w' l' e' m') h t = grind (arith, nat_tests)
answer_some j word link era clock most (Passed t' j' w' l' e') h t = grind (arith, nat_tests)
answer_some j word link era clock most (Taken t' j' w' l' e') h t = absurd (cc)

protect_era : (w : World) (i : ℕ) (a : Inv w) (why : Why) (aim : Aim) (index : ℕ) (root : Root) (made : ℕ) (at : ProtectAt) → by_rows at ≡ false → (w.seat i).phase ≡ Runs why (Protect aim index root made at) → SomeEra (Protect aim index root made at)
protect_era w i a why aim index root made (PublishEra era tries) b e = let k = a.known in let r : EraIn (w.mem Clock) era = eras_of w i why (Protect aim index root made (PublishEra era tries)) k.eras e in r.some
protect_era w i a why aim index root made (TakeAnswer link era) b e =
    let k = a.known in
    let q : Requests w a.asked = k.requests in
    answer_some index (link_number w.layout root) link era a.asked.clock (w.layout.config.slots + 1) (a.asked.deal i) (fits_at w a.asked i (Runs why (Protect aim index root made (TakeAnswer link era))) q e) (q.parts.timely i)
protect_era w i a why aim index root made (ByHazard at) b e = absurd (cc)
protect_era w i a why aim index root made at b e = tt

-- the link that is published is not null
link_some : (x u : ℕ → ℕ) (post : Post) (aim : Aim) (index : ℕ) (root : Root) (made link : ℕ) → base_own x u post (Protect aim index root made (ByHazard (PublishLink link))) ≡ true → (link == 0) ≡ false
link_some x u post aim index root made link h =
    let c : hazard_paced (PublishLink link) made (x index) (u index) ≡ true = first_of (hazard_paced (PublishLink link) made (x index) (u index)) (nat_le made post.steps && true) h in
    is_no (link == 0) (rest_of (made == 2 * x index + 1) (not (link == 0)) (rest_of (if x index == 0 then made == 1 else made == u index + 1) (made == 2 * x index + 1 && not (link == 0)) c))
  where
    is_no : (b : Bool) → not b ≡ true → b ≡ false
    is_no true n = absurd (cc)
    is_no false n = refl

base_era : (w : World) (i : ℕ) (a : Inv w) (x u : ℕ → ℕ) (why : Why) (base : Base) → (w.seat i).phase ≡ Runs why base → base_own x u (w.seat i).post base ≡ true → SomeEra base
base_era w i a x u why (Protect aim index root made (ByHazard (PublishLink link))) e h = link_some x u (w.seat i).post aim index root made link h
base_era w i a x u why (Protect aim index root made (ByHazard FirstLink)) e h = tt
base_era w i a x u why (Protect aim index root made (ByHazard (CheckLink link))) e h = tt
base_era w i a x u why (Protect aim index root made at) e h = protect_era w i a why aim index root made at refl e
base_era w i a x u why base e h = tt

-- no seat hands over to itself
pub no_own : (why why2 : Why) (base : MoveAt) (aim : Aim) (index : ℕ) (root : Root) (made : ℕ) (at : ProtectAt) → Runs why (Move base) ≡ Runs why2 (Protect aim index root made at) → ⊥
no_own why why2 base aim index root made at h = cc

pub hands_apart : (w : World) (i : ℕ) (a : Inv w) (why : Why) (era seat tag index : ℕ) (root : Root) (link old : ℕ) → i < w.layout.config.seats → (w.seat i).phase ≡ Runs why (Move (HandOver era seat tag index root link old)) → (finds w i == reservation_word (record { era = old; tag = tag })) ≡ true → (seat == i) ≡ false
hands_apart w i a why era seat tag index root link old b e h = by (seat == i) refl
  where
    own_hand : seat ≡ i → ⊥
    own_hand q =
        let f : finds w i ≡ w.mem (places.Index seat index) = finds_at w i (Runs why (Move (HandOver era seat tag index root link old))) e in
        let t : Handed w i seat index = record { why = why; era = era; tag = tag; root = root; link = link; old = old; is = e; same = subst (λ (n : ℕ). (n == reservation_word (record { era = old; tag = tag })) ≡ true) f h } in
        let n = handover_need w i a.rows a.line a.asked b a.known in
        let d = handed_deal w i a.rows a.asked seat index n t in
        let s : Asker w seat index (link_number w.layout root) = asker w a.asked seat index (link_number w.layout root) n.requests (rw d (grind (arith, nat_tests))) in
        no_own why s.why (HandOver era seat tag index root link old) s.aim index s.root s.steps s.at (sym e ∙ ap (λ (k : ℕ). (w.seat k).phase) (sym q) ∙ s.is)

    by : (same : Bool) → (seat == i) ≡ same → same ≡ false
    by true q = absurd (own_hand (grind (arith, nat_tests)))
    by false q = refl

phase_comes : (rows : Bool) (w : World) (i j n : ℕ) (a : Inv w) (x u : ℕ → ℕ) (phase : Phase) → publishes_rows w.layout.config.scheme ≡ rows → i < w.layout.config.seats → (w.seat i).phase ≡ phase → own x u (w.seat i).post phase ≡ true → First (λ p told. reserved_along rows i j told n ≡ phase_x phase j n) phase (counted (w.seat i).post) (finds w i)
phase_comes rows w i j n a x u Idle q b e h = refl
phase_comes rows w i j n a x u (Runs why base) q b e h =
    let k = a.known in
    let f = k.seats.fits i in
    let p = f.post in
    let t : PhaseFits w.layout (w.seat i).post (Runs why base) = subst (PhaseFits w.layout (w.seat i).post) e f.phase in
    base_comes rows i j n base (counted (w.seat i).post) (finds w i) p.seat (subst (λ (r : Bool). Kinded r base) q (base_kinded w.layout.config base t.fits)) (base_era w i a x u why base e h) (base_apart base e)
  where
    base_apart : (base : Base) → (w.seat i).phase ≡ Runs why base → Apart i (finds w i) base
    base_apart (Move (HandOver era seat tag index root link old)) e = λ h. hands_apart w i a why era seat tag index root link old b e h
    base_apart base e = tt
phase_comes rows w i j n a x u (Scans later (ReadGuard number)) q b e h =
    reads_are (λ event. reserved_along rows i j (event ∷ []) n ≡ n) (publishes_rows (w.seat i).post.layout.config.scheme) (guard_at (w.seat i).post.layout.config number) (finds w i) (λ span. read_comes rows (guard_at (w.seat i).post.layout.config number) span) (λ slot. saw_comes rows (guard_at (w.seat i).post.layout.config number) slot)
  where
    read_comes : (rows : Bool) (guard : Guard) (span : Option Interval) → counted_by rows i j (events.Read guard span) n ≡ n
    read_comes false guard span = refl
    read_comes true guard span = refl

    saw_comes : (rows : Bool) (guard : Guard) (slot : Option ℕ) → counted_by rows i j (events.Saw guard slot) n ≡ n
    saw_comes false guard slot = refl
    saw_comes true guard slot = refl
phase_comes rows w i j n a x u (Scans later (GiveBack place slot)) q b e h = back_comes rows
  where
    back_comes : (rows : Bool) → counted_by rows i j (events.Back slot) n ≡ n
    back_comes false = refl
    back_comes true = refl
phase_comes rows w i j n a x u (Works work) q b e h =
    let k = a.known in
    let f = k.seats.fits i in
    let t : publishes_rows (scheme_of (w.seat i).post) ≡ rows = ap (λ (table : Layout). publishes_rows table.config.scheme) f.post.layout ∙ q in
    work_comes rows i j n work (counted (w.seat i).post) t f.post.seat (work_counted work (w.seat i).post (subst (PhaseFits w.layout (w.seat i).post) e f.phase))

-- what a step makes of what its seat has published
told_comes : (rows : Bool) (w : World) (i j n : ℕ) (a : Inv w) (x u : ℕ → ℕ) → publishes_rows w.layout.config.scheme ≡ rows → i < w.layout.config.seats → own x u (w.seat i).post (w.seat i).phase ≡ true → reserved_along rows i j (told_in w i) n ≡ phase_x (w.seat i).phase j n
told_comes rows w i j n a x u q b h = step_goes (λ p told. reserved_along rows i j told n ≡ phase_x (w.seat i).phase j n) (comes_closed rows i j n (phase_x (w.seat i).phase j n)) (w.seat i).phase (counted (w.seat i).post) (offered w i).desk (finds w i) (phase_comes rows w i j n a x u (w.seat i).phase q b refl h)

keep_right : (layout : Layout) → is_valid layout ≡ true → (at : KeepAt) → KeepIn layout.config at → WorkRight (Keeping at)
keep_right layout v (StoreHeld from index era) k = let b = bounds_of layout v in (omega (k.kept, k.rises, arith), omega (k.below, b.indexes.1, arith))
keep_right layout v at k = tt

work_right : (layout : Layout) → is_valid layout ≡ true → (work : Work) → WorkIn layout.config work → WorkRight work
work_right layout v (Keeping at) k = keep_right layout v at k
work_right layout v work k = tt

phase_right : (w : World) (i : ℕ) (a : Inv w) (phase : Phase) → (w.seat i).phase ≡ phase → PhaseRight phase
phase_right w i a Idle e = tt
phase_right w i a (Runs why base) e = let k = a.known in let n = rests_need w i a.rows k.seats k.slots k.whole.both.rows in n.right why base e
phase_right w i a (Scans later at) e = tt
phase_right w i a (Works work) e = let k = a.known in let q = k.slots.seats i in work_right w.layout k.valid work (subst (PhaseIn w.layout (w.seat i).desk) e q.phase)

-- what a history keeps of each seat
abbrev pub published : (rows : Bool) → schedule.History → ℕ → ℕ → ℕ
published rows h k j = counted_of rows k j (record_of h)

abbrev pub since_of : (rows : Bool) → schedule.History → ℕ → ℕ → ℕ
since_of false h k j = turns_since k j h
since_of true h k j = turns_hazarded k j h

abbrev pub SeatFits : (rows : Bool) → World → schedule.History → ℕ → Type 0
SeatFits rows w h k = Fits (published rows h k) (since_of rows h k) (w.seat k).post (w.seat k).phase

-- the numbers that a turn tells are right after it
abbrev pub numbered : (rows : Bool) → schedule.History → ℕ → List Event → Bool
numbered rows h i told = events_numbered rows (published rows (Turns h i told) i) (since_of rows (Turns h i told) i) (turns_of i (Turns h i told)) told

pub record Keeps (rows : Bool) (layout : Layout) (made : Made) (h : schedule.History) : Type 0 where
  pub table : made.world.layout ≡ layout
  pub shows : publishes_rows layout.config.scheme ≡ rows
  pub seats : (k : ℕ) → SeatFits rows made.world h k
  pub turns : (k : ℕ) → is_busy made.world k ≡ true → turns_of k h ≡ (made.world.seat k).post.steps
  pub law : EachTurn (numbered rows) h

pub seat_of : (rows : Bool) (layout : Layout) (made : Made) (h : schedule.History) (i : ℕ) → is_ibr layout.config.scheme ≡ false → Around made h → is_busy made.world i ≡ true → Keeps rows layout made h → Seat (published rows h i) (since_of rows h i) layout i (made.world.seat i).phase (made.world.seat i).post
seat_of rows layout made h i n a y g =
    let w : World = made.world in
    let v : Inv w = a.known in
    let k = v.known in
    let f = k.seats.fits i in
    record {
      valid = subst (λ (table : Layout). is_valid table ≡ true) g.table k.valid;
      scheme = n;
      owned = subst (λ (table : Layout). PostFits table i (w.seat i).post) g.table f.post;
      shaped = subst (λ (table : Layout). PhaseFits table (w.seat i).post (w.seat i).phase) g.table f.phase;
      right = phase_right w i v (w.seat i).phase refl;
      low = low_of (w.seat i).post.steps (rest w i) (a.few i y);
      fits = g.seats i;
    }
  where
    low_of : (n m : ℕ) → n + m < 2 ^ 62 → n < 2 ^ 62
    low_of n m h = omega (h, arith)

-- the turn of a seat
pub turned_here : (rows : Bool) (i j : ℕ) (h : schedule.History) (told : List Event) → since_of rows (Turns h i told) i j ≡ turned (published rows h i j) (since_of rows h i j)
turned_here false i j h told = rw (same_number i) refl
turned_here true i j h told = rw (same_number i) refl

turns_here : (i : ℕ) (h : schedule.History) (told : List Event) → turns_of i (Turns h i told) ≡ turns_of i h + 1
turns_here i h told = by (i == i) (same_number i)
  where
    by : (same : Bool) → same ≡ true → (if same then turns_of i h + 1 else turns_of i h) ≡ turns_of i h + 1
    by true e = refl
    by false e = absurd (cc)

pub published_here : (rows : Bool) (layout : Layout) (made : Made) (i j : ℕ) (h : schedule.History) → Inv made.world → i < made.world.layout.config.seats → Keeps rows layout made h → published rows (Turns h i (told_in made.world i)) i j ≡ phase_x (made.world.seat i).phase j (published rows h i j)
published_here rows layout made i j h a b g =
    let w : World = made.world in
    let f : SeatFits rows w h i = g.seats i in
    let q : publishes_rows w.layout.config.scheme ≡ rows = ap (λ (table : Layout). publishes_rows table.config.scheme) g.table ∙ g.shows in
    reserved_tells rows i j (told_in w i) (record_of h) ∙ told_comes rows w i j (published rows h i j) a (published rows h i) (since_of rows h i) q b f.own

step_own : (rows : Bool) (layout : Layout) (made : Made) (h : schedule.History) (i : ℕ) → is_ibr layout.config.scheme ≡ false → Around made h → i < made.world.layout.config.seats → is_busy made.world i ≡ true → Keeps rows layout made h → SeatFits rows (step made.world i) (Turns h i (told_in made.world i)) i
step_own rows layout made h i n a b y g =
    let w : World = made.world in
    let s = seat_of rows layout made h i n a y g in
    let t : CallTurn = turn (offered w i) (finds w i) in
    let f : Left (λ j. phase_x (w.seat i).phase j (published rows h i j)) (u_next (published rows h i) (since_of rows h i)) t = turn_fits (published rows h i) (since_of rows h i) layout i (w.seat i).phase (w.seat i).post (offered w i).desk (finds w i) s in
    let later : schedule.History = Turns h i (told_in w i) in
    let q : Fits (published rows later i) (since_of rows later i) t.post (phase_left t.outcome) =
    fits_same (λ j. phase_x (w.seat i).phase j (published rows h i j)) (u_next (published rows h i) (since_of rows h i)) (published rows later i) (since_of rows later i) t.post (phase_left t.outcome)
    (λ j. published_here rows layout made i j h a.known b g) (λ j. turned_here rows i j h (told_in w i)) f in
    subst (λ (p : Post). Fits (published rows later i) (since_of rows later i) p ((step w i).seat i).phase) (sym (stepped_post w i))
    (subst (λ (p : Phase). Fits (published rows later i) (since_of rows later i) t.post p) (sym (stepped_phase w i)) q)

step_other : (rows : Bool) (w : World) (h : schedule.History) (i k : ℕ) (told : List Event) → (k == i) ≡ false → SeatFits rows w h k → SeatFits rows (step w i) (Turns h i told) k
step_other rows w h i k told e f =
    let later : schedule.History = Turns h i told in
    let q : Fits (published rows later k) (since_of rows later k) (w.seat k).post (w.seat k).phase =
    fits_same (published rows h k) (since_of rows h k) (published rows later k) (since_of rows later k) (w.seat k).post (w.seat k).phase (λ j. reserved_stays rows k i j told (record_of h) e) (λ j. other_turn rows j) f in
    subst (λ (l : Local). Fits (published rows later k) (since_of rows later k) l.post l.phase) (sym (seat_stays w i k e)) q
  where
    other_turn : (rows : Bool) (j : ℕ) → since_of rows (Turns h i told) k j ≡ since_of rows h k j
    other_turn false j = rw e refl
    other_turn true j = rw e refl

step_seats : (rows : Bool) (layout : Layout) (made : Made) (h : schedule.History) (i k : ℕ) (same : Bool) → (k == i) ≡ same → is_ibr layout.config.scheme ≡ false → Around made h → i < made.world.layout.config.seats → is_busy made.world i ≡ true → Keeps rows layout made h → SeatFits rows (step made.world i) (Turns h i (told_in made.world i)) k
step_seats rows layout made h i k true e n a b y g =
    let one : k ≡ i = grind (arith, nat_tests) in
    subst (λ (m : ℕ). SeatFits rows (step made.world i) (Turns h i (told_in made.world i)) m) (sym one) (step_own rows layout made h i n a b y g)
step_seats rows layout made h i k false e n a b y g = step_other rows made.world h i k (told_in made.world i) e (g.seats k)

step_turns : (w : World) (h : schedule.History) (i k : ℕ) (told : List Event) (same : Bool) → (k == i) ≡ same → is_busy w i ≡ true → ((step w i).seat i).post.steps ≡ (w.seat i).post.steps + 1 → ((m : ℕ) → is_busy w m ≡ true → turns_of m h ≡ (w.seat m).post.steps) → is_busy (step w i) k ≡ true → turns_of k (Turns h i told) ≡ ((step w i).seat k).post.steps
step_turns w h i k told true e y m t z =
    let one : k ≡ i = grind (arith, nat_tests) in
    subst (λ (j : ℕ). turns_of j (Turns h i told) ≡ ((step w i).seat j).post.steps) (sym one) (turns_here i h told ∙ ap (λ (c : ℕ). c + 1) (t i y) ∙ sym m)
step_turns w h i k told false e y m t z =
    let s : (step w i).seat k ≡ w.seat k = seat_stays w i k e in
    let before : is_busy w k ≡ true = sym (ap (λ (l : Local). busy_in l.phase) s) ∙ z in
    rw e (t k before) ∙ sym (ap (λ (l : Local). l.post.steps) s)

step_law : (rows : Bool) (layout : Layout) (made : Made) (h : schedule.History) (i : ℕ) → is_ibr layout.config.scheme ≡ false → Around made h → i < made.world.layout.config.seats → is_busy made.world i ≡ true → Keeps rows layout made h → numbered rows h i (told_in made.world i) ≡ true
step_law rows layout made h i n a b y g =
    let w : World = made.world in
    let later : schedule.History = Turns h i (told_in w i) in
    let s = seat_of rows layout made h i n a y g in
    let x : ℕ → ℕ = λ j. phase_x (w.seat i).phase j (published rows h i j) in
    let u : ℕ → ℕ = u_next (published rows h i) (since_of rows h i) in
    let call : ℕ = (w.seat i).post.steps + 1 in
    let r : events_numbered rows x u call (told_in w i) ≡ true =
    step_goes (λ p told. events_numbered rows x u call told ≡ true) (rights_closed rows x u call) (w.seat i).phase (counted (w.seat i).post) (offered w i).desk (finds w i) (turn_rights rows (published rows h i) (since_of rows h i) layout i (w.seat i).phase (w.seat i).post (finds w i) (ap (λ (table : Layout). publishes_rows table.config.scheme) s.owned.layout ∙ g.shows) s) in
    let c : turns_of i later ≡ call = turns_here i h (told_in w i) ∙ ap (λ (m : ℕ). m + 1) (g.turns i y) in
    subst (λ (m : ℕ). events_numbered rows (published rows later i) (since_of rows later i) m (told_in w i) ≡ true) (sym c)
    (events_same rows x u (published rows later i) (since_of rows later i) call (told_in w i) (λ j. published_here rows layout made i j h a.known b g) (λ j. turned_here rows i j h (told_in w i)) r)

pub step_kept : (rows : Bool) (layout : Layout) (made : Made) (h : schedule.History) (i : ℕ) → is_ibr layout.config.scheme ≡ false → Around made h → i < made.world.layout.config.seats → is_busy made.world i ≡ true → Keeps rows layout made h → Keeps rows layout (done made (Steps i)) (Turns h i (told_in made.world i))
step_kept rows layout made h i n a b y g = record {
  table = g.table;
  shows = g.shows;
  seats = λ k. step_seats rows layout made h i k (k == i) refl n a b y g;
  turns = λ k z. step_turns made.world h i k (told_in made.world i) (k == i) refl y (a.more i y) g.turns z;
  law = (step_law rows layout made h i n a b y g, g.law);
}

-- a call begins
idle_clean : (x u : ℕ → ℕ) (post : Post) (phase : Phase) → busy_in phase ≡ false → Fits x u post phase → Clean x (begun_post post) spare unused
idle_clean x u post Idle b f = let c = f.clean in record { free = c.free; kept = c.kept; plain = c.plain }
idle_clean x u post (Runs why base) b f = absurd (cc)
idle_clean x u post (Scans later at) b f = absurd (cc)
idle_clean x u post (Works work) b f = absurd (cc)

begin_other : (rows : Bool) (h : schedule.History) (i k j : ℕ) (call : Call) → published rows (Starts h i call) k j ≡ published rows h k j
begin_other false h i k j call = by (k == i)
  where
    by : (same : Bool) → (if same then reserves_of k j (record_of h) else reserves_of k j (record_of h)) ≡ reserves_of k j (record_of h)
    by true = refl
    by false = refl
begin_other true h i k j call = by (k == i)
  where
    by : (same : Bool) → (if same then hazards_of k j (record_of h) else hazards_of k j (record_of h)) ≡ hazards_of k j (record_of h)
    by true = refl
    by false = refl

begin_since : (rows : Bool) (h : schedule.History) (i k j : ℕ) (call : Call) → since_of rows (Starts h i call) k j ≡ since_of rows h k j
begin_since false h i k j call = refl
begin_since true h i k j call = refl

begin_seats : (rows : Bool) (w : World) (h : schedule.History) (i k : ℕ) (call : Call) (same : Bool) → (k == i) ≡ same → is_busy w i ≡ false → ((m : ℕ) → SeatFits rows w h m) → SeatFits rows (begin w i call) (Starts h i call) k
begin_seats rows w h i k call true e y g =
    let one : k ≡ i = grind (arith, nat_tests) in
    let later : schedule.History = Starts h i call in
    let f : Fits (published rows h i) (since_of rows h i) (begun_post (w.seat i).post) (steps.first_phase call (begun_post (w.seat i).post)) = first_fits call (begun_post (w.seat i).post) (idle_clean (published rows h i) (since_of rows h i) (w.seat i).post (w.seat i).phase y (g i)) in
    let q : Fits (published rows later i) (since_of rows later i) (begun_post (w.seat i).post) (steps.first_phase call (begun_post (w.seat i).post)) =
    fits_same (published rows h i) (since_of rows h i) (published rows later i) (since_of rows later i) (begun_post (w.seat i).post) (steps.first_phase call (begun_post (w.seat i).post)) (λ j. begin_other rows h i i j call) (λ j. begin_since rows h i i j call) f in
    subst (λ (m : ℕ). SeatFits rows (begin w i call) later m) (sym one)
    (subst (λ (l : Local). Fits (published rows later i) (since_of rows later i) l.post l.phase) (sym (begin_begins w i call)) q)
begin_seats rows w h i k call false e y g =
    let later : schedule.History = Starts h i call in
    subst (λ (l : Local). Fits (published rows later k) (since_of rows later k) l.post l.phase) (sym (begin_stays w i k call e))
    (fits_same (published rows h k) (since_of rows h k) (published rows later k) (since_of rows later k) (w.seat k).post (w.seat k).phase (λ j. begin_other rows h i k j call) (λ j. begin_since rows h i k j call) (g k))

begin_turns : (w : World) (h : schedule.History) (i k : ℕ) (call : Call) (same : Bool) → (k == i) ≡ same → ((m : ℕ) → is_busy w m ≡ true → turns_of m h ≡ (w.seat m).post.steps) → is_busy (begin w i call) k ≡ true → turns_of k (Starts h i call) ≡ ((begin w i call).seat k).post.steps
begin_turns w h i k call true e t z = rw e refl
begin_turns w h i k call false e t z =
    let s : (begin w i call).seat k ≡ w.seat k = begin_stays w i k call e in
    let before : is_busy w k ≡ true = sym (ap (λ (l : Local). busy_in l.phase) s) ∙ z in
    rw e (t k before) ∙ sym (ap (λ (l : Local). l.post.steps) s)

pub begin_kept : (rows : Bool) (layout : Layout) (made : Made) (h : schedule.History) (i : ℕ) (call : Call) → is_busy made.world i ≡ false → Keeps rows layout made h → Keeps rows layout (done made (Begins i call)) (Starts h i call)
begin_kept rows layout made h i call y g = record {
  table = g.table;
  shows = g.shows;
  seats = λ k. begin_seats rows made.world h i k call (k == i) refl y g.seats;
  turns = λ k z. begin_turns made.world h i k call (k == i) refl g.turns z;
  law = g.law;
}

pub kept : (rows : Bool) (layout : Layout) → is_ibr layout.config.scheme ≡ false → Kept (Keeps rows layout)
kept rows layout n = record { begins = λ made h i call a b f m g. begin_kept rows layout made h i call f g; steps = λ made h i a b y g. step_kept rows layout made h i n a b y g }

-- nothing is published
blank_none : (rows : Bool) (k j : ℕ) → published rows Blank k j ≡ 0
blank_none false k j = refl
blank_none true k j = refl

pub first_kept : (rows : Bool) (layout : Layout) → is_ibr layout.config.scheme ≡ false → publishes_rows layout.config.scheme ≡ rows → Keeps rows layout (first_made layout) Blank
first_kept rows layout n q = record {
  table = refl;
  shows = q;
  seats = λ k. record { clean = record { free = λ j e. blank_none rows k j; kept = λ j low e m. blank_none rows k j; plain = n }; own = refl };
  turns = λ k z. absurd (cc);
  law = tt;
}

-- where eras are published
event_eras : (x u : ℕ → ℕ) (call : ℕ) (event : Event) → event_numbered false x u call event ≡ true → event_right x u call event ≡ true
event_eras x u call (events.Held index slot steps) h = h
event_eras x u call (events.Null index steps) h = h
event_eras x u call event h = refl

events_eras : (x u : ℕ → ℕ) (call : ℕ) (told : List Event) → events_numbered false x u call told ≡ true → events_right x u call told ≡ true
events_eras x u call [] h = refl
events_eras x u call (event ∷ told) h =
    both (event_right x u call event) (events_right x u call told) (event_eras x u call event (first_of (event_numbered false x u call event) (events_numbered false x u call told) h)) (events_eras x u call told (rest_of (event_numbered false x u call event) (events_numbered false x u call told) h))

turns_eras : (h : schedule.History) → EachTurn (numbered false) h → EachTurn numbers_right h
turns_eras Blank g = tt
turns_eras (Starts h i call) g = turns_eras h g
turns_eras (Turns h i told) g = (events_eras (published false (Turns h i told) i) (since_of false (Turns h i told) i) (turns_of i (Turns h i told)) told g.0, turns_eras h g.1)

pub protections_count : ProtectionsCount
protections_count layout items d n =
    let i : is_ibr layout.config.scheme ≡ false = eras_not_interval layout.config.scheme n in
    let g = history_keeps layout (Keeps false layout) (kept false layout i) d items (first_kept false layout i (eras_not_rows layout.config.scheme n)) in
    turns_eras (heard_of layout items) g.law

-- where rows are published
null_loaded : (x u call steps : ℕ) → ((x == 0 && steps == 1) || number_right x u call steps) ≡ true → (if x == 0 then steps == 1 else number_right x u call steps) ≡ true
null_loaded x u call steps h = grind (arith, nat_tests)

event_rows : (x u : ℕ → ℕ) (call : ℕ) (event : Event) → event_numbered true x u call event ≡ true → event_loaded x u call event ≡ true
event_rows x u call (events.Held index slot steps) h = h
event_rows x u call (events.Null index steps) h = null_loaded (x index) (u index) call steps h
event_rows x u call event h = refl

events_rows : (x u : ℕ → ℕ) (call : ℕ) (told : List Event) → events_numbered true x u call told ≡ true → events_loaded x u call told ≡ true
events_rows x u call [] h = refl
events_rows x u call (event ∷ told) h =
    both (event_loaded x u call event) (events_loaded x u call told) (event_rows x u call event (first_of (event_numbered true x u call event) (events_numbered true x u call told) h)) (events_rows x u call told (rest_of (event_numbered true x u call event) (events_numbered true x u call told) h))

turns_rows : (h : schedule.History) → EachTurn (numbered true) h → EachTurn loads_right h
turns_rows Blank g = tt
turns_rows (Starts h i call) g = turns_rows h g
turns_rows (Turns h i told) g = (events_rows (published true (Turns h i told) i) (since_of true (Turns h i told) i) (turns_of i (Turns h i told)) told g.0, turns_rows h g.1)

pub loads_count : LoadsCount
loads_count layout items d n =
    let i : is_ibr layout.config.scheme ≡ false = rows_not_interval layout.config.scheme n in
    let g = history_keeps layout (Keeps true layout) (kept true layout i) d items (first_kept true layout i n) in
    turns_rows (heard_of layout items) g.law
