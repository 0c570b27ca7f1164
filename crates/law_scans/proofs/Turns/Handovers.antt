-- A hand-over is to a seat that waits in its slow path, and so publishes.
use Rattle.std.proofs.Common.{ℕ, ◌≡◌, ◌<◌, ◌+◌, Bool, true, false, List, [], ◌∷◌, ◌++◌, Option, Some, None, refl, arith, subst, ap, ◌∙◌}
use Rattle.std.proofs.lemmas.Bool.Decides.{nat_tests}
use Rattle.std.specs.Prelude.{◌==◌, ◌&&◌, ◌||◌, nat_le, if◌then◌else◌, nat_lt}
use Rattle.law_reuse.specs.laws.words.Packed.{reservation_word}
use Rattle.law_reuse.specs.laws.words.declared.layout.Layout.{Layout}
use Rattle.law_reuse.specs.laws.defs.declared.event.Event.{Event}
use Rattle.law_reuse.specs.inv.model.declared.post.Post.{Post}
use Rattle.law_reuse.specs.inv.model.Posts.{cleared, publishes_index, stands, counted}
use Rattle.law_reuse.specs.inv.model.Rounds.{scheme_of, clear_told, let_index}
use Rattle.law_reuse.specs.inv.model.World.{World, finds, offered, told_in}
use Rattle.law_reuse.specs.inv.model.Phases.{ProtectAt, Base}
use Rattle.law_reuse.specs.inv.model.Phases.ProtectAt.{LoadOwnClock, PublishHelper, LoadOwnLink, CheckOwnClock, AnswerOwn, LoadAnswer, TakeAnswer}
use Rattle.law_reuse.specs.inv.model.Phases.MoveAt.{HandOver}
use Rattle.law_reuse.specs.inv.model.Phases.Base.{Protect, Move}
use Rattle.law_reuse.specs.inv.model.Calls.{Why, ReadGuard, GiveBack, KeepAt, Loosens, LoadHeld, StoreHeld, Looks, Misses, HideSpan, MarkLeft, TakeList, MarkTaken, Work, Keeping, Phase, Idle, Runs, Scans, Works}
use Rattle.law_reuse.specs.laws.words.Schemes.{has_one_interval, helps, is_ibr, publishes_rows}
use Rattle.law_reuse.proofs.inv.model.words.Schemes.{rows_not_help}
use Rattle.law_reuse.proofs.ReadGuards.{reads_are}
use Rattle.law_reuse.specs.inv.model.Guards.{guard_at}
use Rattle.law_reuse.specs.inv.shapes.Seats.{PhaseFits}
use Rattle.law_reuse.specs.history.Heard.{heard_of}
use Rattle.law_reuse.proofs.history.Passes.{Closed, First, copied_told, keep_told, work_told, step_goes}
use Rattle.law_reuse.specs.history.History.{Made}
use Rattle.law_reuse.specs.laws.records.Turns.{EachTurn}
use Rattle.law_reuse.proofs.OneStep.Along.{Kept, history_keeps}
use Rattle.law_scans.proofs.Turns.Counting.Counting.{Keeps, published, since_of, begin_kept, step_kept, first_kept}
use Rattle.law_scans.proofs.Turns.Counting.Fits.{Fits, own, base_own, paced, taken}
use Rattle.law_reuse.proofs.history.MayTell.{Tells, may_store, base_index, hands, same_span, base_shows, base_all}
use Rattle.law_scans.proofs.Turns.Counting.Told.{is_dull, all_dull, quiet_dull, clear_dull, cleared_dull, hide_dull}
use Rattle.law_reuse.specs.laws.defs.declared.event.Guard.TheVariants.{Helper, Index, Whole}
use Rattle.law_reuse.specs.inv.model.Links.{link_number}
use Rattle.law_reuse.specs.inv.Inv.{Inv}
use Rattle.law_reuse.proofs.inv.Inv.Whole.{handover_need}
use Rattle.law_reuse.proofs.inv.covers.Held.{finds_at}
use Rattle.law_reuse.proofs.inv.ends.Handover.Asks.{Asker, asker, in_slow}
use Rattle.law_reuse.proofs.inv.ends.Handover.Deals.{handed_deal}
use Rattle.law_reuse.proofs.inv.ends.Handover.Words.{Handed}
use Rattle.law_reuse.specs.laws.HistoryTurns.{event_handed, events_handed, handed_right}
use Rattle.law_scans.specs.Turns.Records.{HandoversMeet}
use Rattle.law_reuse.specs.laws.defs.declared.event.Event.TheVariants as events
use Rattle.law_reuse.specs.inv.model.Machine as machine
use Rattle.law_reuse.proofs.laws.records.defs.Facts.{both, false_not_true, first_of, rest_of, number_is, or_more}
use Rattle.law_reuse.specs.laws.records.Turns as schedule
use Rattle.law_reuse.specs.laws.words.Place.{Place as places}
use Rattle.law_reuse.proofs.history.AllOf.{all_of, of_weaker}

handed_all : (i : ℕ) (x : ℕ → ℕ → ℕ) (told : List Event) → all_of (event_handed i x) told ≡ true → events_handed i x told ≡ true
handed_all i x [] h = refl
handed_all i x (event ∷ told) h = both (event_handed i x event) (events_handed i x told) (first_of (event_handed i x event) (all_of (event_handed i x) told) h) (handed_all i x told (rest_of (event_handed i x event) (all_of (event_handed i x) told) h))

dull_one : (i : ℕ) (x : ℕ → ℕ → ℕ) (event : Event) → is_dull event ≡ true → event_handed i x event ≡ true
dull_one i x (events.Reserve (Helper seat) span) h = refl
dull_one i x (events.Reserve (Index seat index) span) h = absurd (cc)
dull_one i x (events.Reserve (Whole seat) span) h = refl
dull_one i x event h = refl

dull_handed : (i : ℕ) (x : ℕ → ℕ → ℕ) (told : List Event) → all_dull told ≡ true → events_handed i x told ≡ true
dull_handed i x told h = handed_all i x told (of_weaker is_dull (event_handed i x) told (dull_one i x) h)

handed_along : (i : ℕ) (x : ℕ → ℕ → ℕ) (xs ys : List Event) → events_handed i x xs ≡ true → events_handed i x ys ≡ true → events_handed i x (xs ++ ys) ≡ true
handed_along i x [] ys h k = k
handed_along i x (e ∷ xs) ys h k = both (event_handed i x e) (events_handed i x (xs ++ ys)) (first_of (event_handed i x e) (events_handed i x xs) h) (handed_along i x xs ys (rest_of (event_handed i x e) (events_handed i x xs) h) k)

handed_closed : (i : ℕ) (x : ℕ → ℕ → ℕ) → Closed (λ post told. events_handed i x told ≡ true)
handed_closed i x = record {
  calm = λ post told more q h. handed_along i x told more h (dull_handed i x more (quiet_dull more q));
  clears = λ post told index h. handed_along i x told (clear_told (scheme_of post) post index) h (dull_handed i x (clear_told (scheme_of post) post index) (clear_dull (scheme_of post) post index));
}

-- a hand-over is to an index word that publishes
abbrev Meets : (x : ℕ → ℕ → ℕ) (found : ℕ) → Base → Type 0
Meets x found (Move (HandOver era seat tag index root link old)) = (found == reservation_word (record { era = old; tag = tag })) ≡ true → nat_lt 0 (x seat index) ≡ true
Meets x found base = Unit {0}

own_handed : (i seat own : ℕ) (b : Bool) → own ≡ i → (seat == own) ≡ true → (seat == i || b) ≡ true
own_handed i seat own b e h = grind (arith, nat_tests)

over_handed : (i seat index asker own : ℕ) (x : ℕ → ℕ → ℕ) → (seat == asker && index == own) ≡ true → nat_lt 0 (x asker own) ≡ true → (seat == i || nat_lt 0 (x seat index)) ≡ true
over_handed i seat index asker own x e h =
    let a : seat ≡ asker = number_is seat asker (first_of (seat == asker) (index == own) e) in
    let b : index ≡ own = number_is index own (rest_of (seat == asker) (index == own) e) in
    or_more (seat == i) (nat_lt 0 (x seat index)) (rw (a, b) h)

-- the index word is the seat's, or that of a hand-over
index_handed : (i : ℕ) (x : ℕ → ℕ → ℕ) (base : Base) (post : Post) (found seat index : ℕ) → post.seat ≡ i → (hands base found seat index ≡ true → (seat == i || nat_lt 0 (x seat index)) ≡ true) → may_store base post found (Index seat index) ≡ true → (seat == i || nat_lt 0 (x seat index)) ≡ true
index_handed i x base post found seat index s m h = by (base_index base index) h
  where
    by : (own : Bool) → (if own then seat == post.seat else hands base found seat index) ≡ true → (seat == i || nat_lt 0 (x seat index)) ≡ true
    by true h = own_handed i seat post.seat (nat_lt 0 (x seat index)) s h
    by false h = m h

one_handed : (i : ℕ) (x : ℕ → ℕ → ℕ) (base : Base) (post : Post) (found : ℕ) (event : Event) → post.seat ≡ i → Meets x found base → Tells base post found event → event_handed i x event ≡ true
one_handed i x (Move (HandOver era asker tag own root link old)) post found (events.Reserve (Index seat index) span) s m t =
    let base : Base = Move (HandOver era asker tag own root link old) in
    let same : Bool = found == reservation_word (record { era = old; tag = tag }) in
    index_handed i x base post found seat index s (λ h. over_handed i seat index asker own x (rest_of same (seat == asker && index == own) h) (m (first_of same (seat == asker && index == own) h)))
    (first_of (may_store base post found (Index seat index)) (same_span span (base_shows base post)) t)
one_handed i x (Move at) post found (events.Reserve (Index seat index) span) s m t =
    index_handed i x (Move at) post found seat index s (λ h. absurd (cc)) (first_of (may_store (Move at) post found (Index seat index)) (same_span span (base_shows (Move at) post)) t)
one_handed i x base post found (events.Reserve (Index seat index) span) s m t =
    index_handed i x base post found seat index s (λ h. absurd (cc)) (first_of (may_store base post found (Index seat index)) (same_span span (base_shows base post)) t)
one_handed i x base post found (events.Reserve (Helper seat) span) s m t = refl
one_handed i x base post found (events.Reserve (Whole seat) span) s m t = refl
one_handed i x base post found event s m t = refl

base_handed : (i : ℕ) (x : ℕ → ℕ → ℕ) (base : Base) (post : Post) (found : ℕ) → post.seat ≡ i → Meets x found base → events_handed i x (machine.after base post found).told ≡ true
base_handed i x base post found s m = handed_all i x (machine.after base post found).told (base_all (event_handed i x) base post found (λ event. one_handed i x base post found event s m))

-- a seat in its slow path publishes
slow_published : (at : ProtectAt) (made x u : ℕ) → in_slow at ≡ true → paced at made x u ≡ true → nat_lt 0 x ≡ true
slow_published LoadOwnClock made x u q h = first_of (nat_lt 0 x) (made == u + 1) h
slow_published (PublishHelper first era last) made x u q h = first_of (nat_lt 0 x) (made == u + 1) h
slow_published (LoadOwnLink first era last) made x u q h = first_of (nat_lt 0 x) (made == u + 1) h
slow_published (CheckOwnClock first era last link) made x u q h = first_of (nat_lt 0 x) (made == u + 1) h
slow_published (AnswerOwn first era link) made x u q h = first_of (nat_lt 0 x) (made == u + 1) h
slow_published (LoadAnswer first) made x u q h = first_of (nat_lt 0 x) (made == u + 1) h
slow_published (TakeAnswer link era) made x u q h = first_of (nat_lt 0 x) (made == u + 1) h
slow_published at made x u q h = absurd (cc)

base_meets : (layout : Layout) (made : Made) (h : schedule.History) (i : ℕ) (why : Why) (base : Base) → Inv made.world → i < made.world.layout.config.seats → (made.world.seat i).phase ≡ Runs why base → Keeps false layout made h → Meets (published false h) (finds made.world i) base
base_meets layout made h i why (Move (HandOver era seat tag index root link old)) a b e g = λ m.
    let w : World = made.world in
    let f : finds w i ≡ w.mem (places.Index seat index) = finds_at w i (Runs why (Move (HandOver era seat tag index root link old))) e in
    let t : Handed w i seat index = record { why = why; era = era; tag = tag; root = root; link = link; old = old; is = e; same = subst (λ (n : ℕ). (n == reservation_word (record { era = old; tag = tag })) ≡ true) f m } in
    let n = handover_need w i a.rows a.line a.asked b a.known in
    let d = handed_deal w i a.rows a.asked seat index n t in
    let s : Asker w seat index (link_number w.layout root) = asker w a.asked seat index (link_number w.layout root) n.requests (rw d (grind (arith, nat_tests))) in
    let q : Fits (published false h seat) (since_of false h seat) (w.seat seat).post (w.seat seat).phase = g.seats seat in
    let o : base_own (published false h seat) (since_of false h seat) (w.seat seat).post (Protect s.aim index s.root s.steps s.at) ≡ true = subst (λ (p : Phase). own (published false h seat) (since_of false h seat) (w.seat seat).post p ≡ true) s.is q.own in
    slow_published s.at s.steps (published false h seat index) (since_of false h seat index) s.slow (first_of (paced s.at s.steps (published false h seat index) (since_of false h seat index)) (nat_le s.steps (w.seat seat).post.steps && taken index s.at (stands (w.seat seat).post 2)) o)
base_meets layout made h i why base a b e g = tt

-- where rows are published no seat hands over
rows_meets : (made : Made) (x : ℕ → ℕ → ℕ) (i : ℕ) (why : Why) (base : Base) → Inv made.world → publishes_rows made.world.layout.config.scheme ≡ true → (made.world.seat i).phase ≡ Runs why base → Meets x (finds made.world i) base
rows_meets made x i why (Move (HandOver era seat tag index root link old)) a r e =
    let k = a.known in
    let f : PhaseFits made.world.layout (made.world.seat i).post (Runs why (Move (HandOver era seat tag index root link old))) = subst (PhaseFits made.world.layout (made.world.seat i).post) e (k.seats.fits i).phase in
    absurd (false_not_true (helps made.world.layout.config.scheme) (rows_not_help made.world.layout.config.scheme r) (first_of (helps made.world.layout.config.scheme) (nat_lt seat made.world.layout.config.seats) f.fits))
rows_meets made x i why base a r e = tt

-- a copy stores a word of the seat's own
copied_handed : (i : ℕ) (x : ℕ → ℕ → ℕ) (from index : ℕ) (post : Post) (reserved : List Event) (o : Option ℕ) → events_handed i x reserved ≡ true → events_handed i x (copied_told from index post reserved o) ≡ true
copied_handed i x from index post reserved None r = refl
copied_handed i x from index post reserved (Some slot) r =
    handed_along i x (cleared index (stands post index) ++ reserved) (events.Copied from index slot ∷ []) (handed_along i x (cleared index (stands post index)) reserved (dull_handed i x (cleared index (stands post index)) (cleared_dull index (stands post index))) r) refl

keep_handed : (i : ℕ) (x : ℕ → ℕ → ℕ) (at : KeepAt) (post : Post) → post.seat ≡ i → events_handed i x (keep_told at post) ≡ true
keep_handed i x (Loosens let_go) post s = dull_handed i x (cleared (let_index let_go) (stands post (let_index let_go))) (cleared_dull (let_index let_go) (stands post (let_index let_go)))
keep_handed i x (LoadHeld from index) post s = by (has_one_interval (scheme_of post))
  where
    by : (one : Bool) → events_handed i x (if one then copied_told from index post [] (stands post from) else []) ≡ true
    by true = copied_handed i x from index post [] (stands post from) refl
    by false = refl
keep_handed i x (StoreHeld from index number) post s = copied_handed i x from index post (publishes_index (publishes_rows (scheme_of post)) post index number) (stands post from) (by (publishes_rows (scheme_of post)))
  where
    by : (rows : Bool) → events_handed i x (publishes_index rows post index number) ≡ true
    by false = let e : (post.seat == i) ≡ true = grind (arith, nat_tests) in rw e refl
    by true = refl
keep_handed i x (Looks index key at) post s = refl
keep_handed i x (Misses index) post s = refl
keep_handed i x HideSpan post s = dull_handed i x (keep_told HideSpan post) (hide_dull post)
keep_handed i x MarkLeft post s = refl
keep_handed i x (TakeList place) post s = refl
keep_handed i x (MarkTaken place count) post s = refl

work_handed : (i : ℕ) (x : ℕ → ℕ → ℕ) (work : Work) (post : Post) → post.seat ≡ i → events_handed i x (work_told work post) ≡ true
work_handed i x (Keeping at) post s = keep_handed i x at post s
work_handed i x work post s = refl

phase_handed : (made : Made) (x : ℕ → ℕ → ℕ) (i : ℕ) (phase : Phase) → Inv made.world → (made.world.seat i).phase ≡ phase → ((why : Why) (base : Base) → (made.world.seat i).phase ≡ Runs why base → Meets x (finds made.world i) base) → First (λ post told. events_handed i x told ≡ true) phase (counted (made.world.seat i).post) (finds made.world i)
phase_handed made x i Idle a e m = refl
phase_handed made x i (Runs why base) a e m =
    let k = a.known in
    let f = k.seats.fits i in
    let p = f.post in
    base_handed i x base (counted (made.world.seat i).post) (finds made.world i) p.seat (m why base e)
phase_handed made x i (Scans later (ReadGuard number)) a e m =
    reads_are (λ event. events_handed i x (event ∷ []) ≡ true) (publishes_rows (made.world.seat i).post.layout.config.scheme) (guard_at (made.world.seat i).post.layout.config number) (finds made.world i) (λ span. refl) (λ slot. refl)
phase_handed made x i (Scans later (GiveBack place slot)) a e m = refl
phase_handed made x i (Works work) a e m = let k = a.known in let f = k.seats.fits i in work_handed i x work (counted (made.world.seat i).post) f.post.seat

told_handed : (made : Made) (x : ℕ → ℕ → ℕ) (i : ℕ) → Inv made.world → ((why : Why) (base : Base) → (made.world.seat i).phase ≡ Runs why base → Meets x (finds made.world i) base) → events_handed i x (told_in made.world i) ≡ true
told_handed made x i a m = step_goes (λ post told. events_handed i x told ≡ true) (handed_closed i x) (made.world.seat i).phase (counted (made.world.seat i).post) (offered made.world i).desk (finds made.world i) (phase_handed made x i (made.world.seat i).phase a refl m)

step_handed : (layout : Layout) (made : Made) (h : schedule.History) (i : ℕ) → Inv made.world → i < made.world.layout.config.seats → Keeps false layout made h → handed_right h i (told_in made.world i) ≡ true
step_handed layout made h i a b g = told_handed made (published false h) i a (λ why base e. base_meets layout made h i why base a b e g)

-- along a history
record Handovers (layout : Layout) (made : Made) (h : schedule.History) : Type 0 where
  pub keeps : Keeps false layout made h
  pub law : EachTurn handed_right h

kept : (layout : Layout) → is_ibr layout.config.scheme ≡ false → Kept (Handovers layout)
kept layout n = record {
  begins = λ made h i call a b f m g. record { keeps = begin_kept false layout made h i call f g.keeps; law = g.law };
  steps = λ made h i a b y g. record { keeps = step_kept false layout made h i n a b y g.keeps; law = (step_handed layout made h i a.known b g.keeps, g.law) };
}

-- where rows are published
record Unhanded (layout : Layout) (made : Made) (h : schedule.History) : Type 0 where
  pub table : made.world.layout ≡ layout
  pub law : EachTurn handed_right h

rows_kept : (layout : Layout) → publishes_rows layout.config.scheme ≡ true → Kept (Unhanded layout)
rows_kept layout r = record {
  begins = λ made h i call a b f m g. record { table = g.table; law = g.law };
  steps = λ made h i a b y g. record {
    table = g.table;
    law = (told_handed made (published false h) i a.known (λ why base e. rows_meets made (published false h) i why base a.known (ap (λ (table : Layout). publishes_rows table.config.scheme) g.table ∙ r) e), g.law);
  };
}

pub handovers_meet : HandoversMeet
handovers_meet layout items d n = by (publishes_rows layout.config.scheme) refl
  where
    by : (rows : Bool) → publishes_rows layout.config.scheme ≡ rows → EachTurn handed_right (heard_of layout items)
    by false r = let g = history_keeps layout (Handovers layout) (kept layout n) d items (record { keeps = first_kept false layout n r; law = tt }) in g.law
    by true r = let g = history_keeps layout (Unhanded layout) (rows_kept layout r) d items (record { table = refl; law = tt }) in g.law
