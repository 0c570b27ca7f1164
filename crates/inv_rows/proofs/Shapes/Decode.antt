-- Each word decodes and no era is above the clock, at the start and over each step and each call that begins.
use Rattle.std.proofs.Common.{ℕ, ◌≡◌, ◌≤◌, Bool, true, false, refl, sym, subst, arith}
use Rattle.std.proofs.lemmas.Bool.Decides.{nat_tests}
use Rattle.std.specs.Prelude.{◌==◌, if◌then◌else◌}
use Rattle.wfe_core.specs.words.Place.{Place, has, is_valid}
use Rattle.wfe_core.specs.words.Place.Place.{Clock, Helper, Index, Interval, Bucket, Head, Tail, Claim, Life, Row, PlaceOf, Request as RequestOf}
use Rattle.wfe_core.specs.words.Packed.{halves}
use Rattle.wfe_core.specs.words.Schemes.{has_one_interval, publishes_rows}
use Rattle.wfe_core.specs.defs.declared.event.Guard.TheVariants.{Whole}
use Rattle.wfe_core.specs.defs.declared.event.Guard.TheVariants as guards
use Rattle.wfe_core.specs.Guards.{guard_place, own_guard}
use Rattle.wfe_core.specs.Keep.{keep_move, held_number}
use Rattle.wfe_core.specs.words.declared.config.SchemeKind.{SchemeKind}
use Rattle.wfe_core.specs.words.declared.config.SchemeKind.TheVariants.{He, Hp, Ibr, Wfe}
use Rattle.wfe_core.specs.words.declared.layout.Layout.{Layout}
use Rattle.wfe_core.specs.defs.declared.call.Call.{Call}
use Rattle.wfe_core.specs.defs.declared.event.Root.{Root}
use Rattle.wfe_core.specs.declared.post.Post.{Post}
use Rattle.wfe_core.specs.Desks.{Desk}
use Rattle.wfe_core.specs.Memory.{Move, place_in, found, written}
use Rattle.wfe_core.specs.Posts.{counted, withdrawn_all}
use Rattle.wfe_core.proofs.Ranges.{bounds_of}
use Rattle.wfe_core.specs.Rounds.{scheme_of, protect_at}
use Rattle.wfe_core.specs.Steps.{phase_move, work_move}
use Rattle.wfe_core.specs.Locals.{Local, move, after, begun_post}
use Rattle.wfe_core.specs.Phases.{HazardAt, ProtectAt, MoveAt, Base}
use Rattle.wfe_core.specs.Phases.ProtectAt.{PublishRequest, AnswerOwn, RaiseUpper, ByHazard}
use Rattle.wfe_core.specs.Phases.HazardAt.{PublishLink}
use Rattle.wfe_core.specs.Phases.MoveAt.{AnswerAsked}
use Rattle.wfe_core.specs.Phases.Base.{Begin, Protect, Reload, Clear, Finish, Release, Allocate, Write, GiveUp, Retire, Move as Moves}
use Rattle.wfe_core.specs.Calls.{KeepAt, LoadHeld, StoreHeld, Work, Getting, Changing, Enqueuing, Dequeuing, Keeping, Phase, Idle, Runs, Scans, Works}
use Rattle.wfe_core.specs.World.{World, first_word, start, begin, step, offered}
use Rattle.inv_rows.specs.Shapes.Frame.{Grows, Seated, Owes, Stores, stores_held}
use Rattle.inv_rows.specs.Shapes.Seats.{PhaseFits, Seats}
use Rattle.inv_rows.specs.Shapes.Slots.{HazardIn, ProtectsIn, MovesIn, BaseIn, PhaseIn, Slots}
use Rattle.inv_rows.specs.Shapes.Eras.{HelperIn, HeldIn, ShownIn, hazard_needs, RequestIn, LifeIn, NoLife, Lives, WordIn, ClockIn, protect_eras, base_eras, work_eras, PhaseEras, protect_needs, move_needs, base_needs, phase_needs, base_life, life_needs, PostEras, Eras, ErasNeeds}
use Rattle.inv_rows.proofs.Shapes.Frame.{seat_stays, seat_steps, begin_stays, begin_begins, after_seated, begun_seated, moves_with, move_counted, finds_counted}
use Rattle.inv_rows.proofs.Shapes.Shapes.{shape_grows}
use Rattle.inv_rows.proofs.Shapes.Inside.{shape_moves}
use Rattle.inv_rows.proofs.Shapes.Indexes.{held_shown}
use Rattle.inv_rows.proofs.Shapes.Kept.{counted_fits, begun_fits, run_counted, work_counted, one_moves}
use Rattle.inv_rows.proofs.Shapes.Monotone.{word_later, phase_later, post_later}
use Rattle.inv_rows.proofs.Shapes.Written.{words_written, phase_in, phase_clock, nothing_shown, nothing_asked, index_in}
use Rattle.inv_rows.proofs.Shapes.Spans.{work_left, scan_span, phase_span}
use Rattle.inv_rows.proofs.Shapes.Steps.{Told, era_steps, row_keeps, withdrawn_keeps}
use Rattle.wfe_core.proofs.Facts.{zero_either}

-- first phases hold no eras
protect_at_eras : (s : SchemeKind) (c : ℕ) (post : Post) → protect_eras c post (protect_at s)
protect_at_eras He c post = tt
protect_at_eras Ibr c post = tt
protect_at_eras Wfe c post = tt
protect_at_eras Hp c post = tt

-- nor do steps of a call's own but for the second of a copy
no_era : (layout : Layout) (c : ℕ) (work : Work) → stores_held work ≡ false → work_eras layout c work
no_era layout c (Getting key at) n = tt
no_era layout c (Changing kept at) n = tt
no_era layout c (Enqueuing kept at) n = tt
no_era layout c (Dequeuing at) n = tt
no_era layout c (Keeping (StoreHeld from index era)) n = absurd (cc)
no_era layout c (Keeping at) n = tt

era_grows : (layout : Layout) (k c word : ℕ) → is_valid layout ≡ true → Grows (PostEras layout k c word) (PhaseEras layout c)
era_grows layout k c word v = record {
  guarded = λ post q. (shape_grows layout k v).guarded post q.fits;
  withdraws = λ post index i q. withdrawn_keeps layout k c word post index q;
  copies = λ post index slot q. row_keeps layout k c word post index slot q;
  idle = λ post q. tt;
  begins = λ post task i e q. tt;
  opens = λ post task s q. protect_at_eras (scheme_of post) c post;
  follows = λ post head tail s q. protect_at_eras (scheme_of post) c post;
  allocates = λ post task s q. tt;
  writes = λ post task slot row s q. tt;
  clears = λ post task next i q. tt;
  clears_next = λ post next i q. tt;
  finishes = λ post task next i e q. tt;
  gives_up = λ post answer slot q. tt;
  retires = λ post answer slot q. tt;
  tidies = λ post later m q. tt;
  advances = λ post q. tt;
  clears_kept = λ post let_go i q. tt;
  releases = λ post let_go i e q. tt;
  scans = λ post later number b q. tt;
  gives_back = λ post later place slot q. tt;
  works = λ post work n f q. no_era layout c work n;
}

counted_post : (layout : Layout) (k c word : ℕ) (post : Post) → PostEras layout k c word post → PostEras layout k c word (counted post)
counted_post layout k c word post q = record { fits = counted_fits layout k post q.fits; span = q.span; shown = q.shown }

begun_eras : (layout : Layout) (k c word : ℕ) (post : Post) → PostEras layout k c word post → PostEras layout k c word (begun_post post)
begun_eras layout k c word post q = record { fits = begun_fits layout k post q.fits; span = q.span; shown = q.shown }

protect_counted : (c : ℕ) (post : Post) (at : ProtectAt) → protect_eras c post at → protect_eras c (counted post) at
protect_counted c post (RaiseUpper era) e = record { rises = e.rises; most = e.most }
protect_counted c post at e = e

base_counted : (layout : Layout) (c : ℕ) (post : Post) (base : Base) → base_eras layout c post base → base_eras layout c (counted post) base
base_counted layout c post (Protect aim index root steps at) e = protect_counted c post at e
base_counted layout c post base e = e

-- an index word that is copied has an era of the clock's, or a link
held_era : (layout : Layout) (mem : Place → ℕ) → Told layout mem → (post : Post) (from : ℕ) (one : Bool) → one ≡ false
    → HeldIn (publishes_rows layout.config.scheme) layout (mem Clock) (held_number (publishes_rows layout.config.scheme) (mem (guard_place (if one then Whole post.seat else guards.Index post.seat from))))
held_era layout mem w post from true i = absurd (cc)
held_era layout mem w post from false i = held_shown (publishes_rows layout.config.scheme) layout (mem Clock) (mem (Index post.seat from)) (w.words (Index post.seat from))

keep_stores : (layout : Layout) (mem : Place → ℕ) → Told layout mem → (at : KeepAt) (post : Post) → post.layout ≡ layout → Stores (PhaseEras layout (mem Clock)) post (found (keep_move at post) (mem (place_in (keep_move at post)))) (Keeping at)
keep_stores layout mem w (LoadHeld from index) post l = λ i.
    let word = mem (guard_place (own_guard (scheme_of post) post.seat from)) in
    subst (λ (t : Layout). HeldIn (publishes_rows layout.config.scheme) layout (mem Clock) (held_number (publishes_rows t.config.scheme) word)) (sym l) (held_era layout mem w post from (has_one_interval (scheme_of post)) i)
keep_stores layout mem w at post l = tt

stores_eras : (layout : Layout) (mem : Place → ℕ) → Told layout mem → (work : Work) (post : Post) → post.layout ≡ layout → Stores (PhaseEras layout (mem Clock)) post (found (work_move work post) (mem (place_in (work_move work post)))) work
stores_eras layout mem w (Keeping at) post l = keep_stores layout mem w at post l
stores_eras layout mem w work post l = tt

hidden_eras : (layout : Layout) (k c word : ℕ) (post : Post) → PostEras layout k c word post → PostEras layout k c 0 (withdrawn_all post)
hidden_eras layout k c word post q = record { fits = record { seat = q.fits.seat; layout = q.fits.layout; cursor = q.fits.cursor; tags = q.fits.tags; standing = refl }; span = tt; shown = refl }

owed_at : (layout : Layout) (k : ℕ) (mem : Place → ℕ) → Told layout mem → (phase : Phase) (post : Post) → PostEras layout k (mem Clock) (mem (Interval k)) (counted post)
    → PhaseFits layout post phase → PhaseEras layout (mem Clock) post phase → phase_needs phase layout mem
    → Owes (PostEras layout k (mem Clock) (written mem (phase_move phase (counted post)) (Interval k))) (PhaseEras layout (mem Clock)) (counted post) (found (phase_move phase (counted post)) (mem (place_in (phase_move phase (counted post))))) phase
owed_at layout k mem w Idle post q p e d = q
owed_at layout k mem w (Runs why base) post q p e d = let r = run_counted layout why base post p in
    moves_with why _ (shape_moves layout k w.valid why base (counted post) _ q.fits r) (era_steps layout k mem w why base (counted post) q r (base_counted layout (mem Clock) post base e) d)
owed_at layout k mem w (Scans later at) post q p e d = subst (λ (word : ℕ). PostEras layout k (mem Clock) word (counted post)) (sym (scan_span mem k at (counted post))) q
owed_at layout k mem w (Works work) post q p e d =
    record { post = work_left (λ word left. PostEras layout k (mem Clock) word left) mem k work (counted post) q.fits.seat q (hidden_eras layout k (mem Clock) (mem (Interval k)) (counted post) q); fits = work_counted work post p; stores = stores_eras layout mem w work (counted post) q.fits.layout }

pub told_of : (w : World) → is_valid w.layout ≡ true → Eras w → Told w.layout w.mem
told_of w v e = record { valid = v; some = e.some; most = e.most; words = e.words }

-- the seat that steps, by the clock before the step
own_eras : (w : World) (i : ℕ) → is_valid w.layout ≡ true → Seats w → Eras w → phase_needs (w.seat i).phase w.layout w.mem
    → Seated (PostEras w.layout i (w.mem Clock) ((step w i).mem (Interval i))) (PhaseEras w.layout (w.mem Clock)) ((step w i).seat i)
own_eras w i v s e d = let l = offered w i in let m = phase_move l.phase (counted l.post) in
    let o = owed_at w.layout i w.mem (told_of w v e) l.phase l.post (counted_post w.layout i (w.mem Clock) (w.mem (Interval i)) l.post (e.seats i).post) (s.fits i).phase (e.seats i).phase d in
    subst (Seated (PostEras w.layout i (w.mem Clock) ((step w i).mem (Interval i))) (PhaseEras w.layout (w.mem Clock))) (sym (seat_steps w i))
    (subst (λ (f : ℕ). Seated (PostEras w.layout i (w.mem Clock) ((step w i).mem (Interval i))) (PhaseEras w.layout (w.mem Clock)) (after l f)) (finds_counted w i)
    (subst (λ (x : Move). Seated (PostEras w.layout i (w.mem Clock) (written w.mem x (Interval i))) (PhaseEras w.layout (w.mem Clock)) (after l (found m (w.mem (place_in m))))) (move_counted l.phase l.post)
    (after_seated (era_grows w.layout i (w.mem Clock) (written w.mem m (Interval i)) v) l (found m (w.mem (place_in m))) o)))

-- another seat
other_eras : (w : World) (i k : ℕ) → Seats w → Eras w → (k == i) ≡ false → Seated (PostEras w.layout k (w.mem Clock) ((step w i).mem (Interval k))) (PhaseEras w.layout (w.mem Clock)) ((step w i).seat k)
other_eras w i k s e h = let a = (s.fits i).post.seat in let t : (k == (w.seat i).post.seat) ≡ false = subst (λ (j : ℕ). (k == j) ≡ false) (sym a) h in
    subst (Seated (PostEras w.layout k (w.mem Clock) ((step w i).mem (Interval k))) (PhaseEras w.layout (w.mem Clock))) (sym (seat_stays w i k h))
    (subst (λ (word : ℕ). Seated (PostEras w.layout k (w.mem Clock) word) (PhaseEras w.layout (w.mem Clock)) (w.seat k)) (sym (phase_span w.mem k (w.seat i).phase (w.seat i).post t)) (e.seats k))

seated_later : (layout : Layout) (k c d word : ℕ) (l : Local) → c ≤ d → Seated (PostEras layout k c word) (PhaseEras layout c) l → Seated (PostEras layout k d word) (PhaseEras layout d) l
seated_later layout k c d word l h s = record { post = post_later layout k c d word l.post h s.post; phase = phase_later layout c d l.post l.phase h s.phase }

-- the clock after a step
pub clock_next : (w : World) (i : ℕ) → Eras w → ClockIn w.layout.config.last_era (w.mem Clock) ((step w i).mem Clock)
clock_next w i e = phase_clock w.layout w.mem (w.seat i).phase (w.seat i).post e.most (e.seats i).phase

hazard_given : (layout : Layout) (at : HazardAt) → HazardIn layout.config.slots at → hazard_needs at layout
hazard_given layout (PublishLink link) h = h.1
hazard_given layout at h = tt

protect_given : (layout : Layout) (root : Root) (at : ProtectAt) → ProtectsIn layout root at → protect_needs at layout root
protect_given layout root PublishRequest h = h.root_in
protect_given layout root (AnswerOwn first era link) h = h.at_in
protect_given layout root (ByHazard at) h = hazard_given layout at h.at_in
protect_given layout root at h = tt

move_given : (layout : Layout) (at : MoveAt) → MovesIn layout.config.slots at → move_needs at layout
move_given layout (AnswerAsked era seat tag index root link) h = h
move_given layout at h = tt

base_given : (layout : Layout) (mem : Place → ℕ) (base : Base) → BaseIn layout base → base_life base mem → base_needs base layout mem
base_given layout mem (Begin at) h l = tt
base_given layout mem (Protect aim index root steps at) h l = protect_given layout root at h
base_given layout mem (Reload parent index slot era steps) h l = tt
base_given layout mem (Clear rows index) h l = tt
base_given layout mem Finish h l = tt
base_given layout mem (Release index) h l = tt
base_given layout mem (Allocate at) h l = tt
base_given layout mem (Write slot row place) h l = tt
base_given layout mem (GiveUp slot) h l = tt
base_given layout mem (Retire at) h l = l
base_given layout mem (Moves at) h l = move_given layout at h

-- what a step takes of the slots
phase_given : (layout : Layout) (mem : Place → ℕ) (desk : Desk) (phase : Phase) → PhaseIn layout desk phase → life_needs phase mem → phase_needs phase layout mem
phase_given layout mem desk Idle h l = tt
phase_given layout mem desk (Runs why base) h l = base_given layout mem base h.1 l
phase_given layout mem desk (Scans later at) h l = tt
phase_given layout mem desk (Works work) h l = tt

pub eras_step : (w : World) (i : ℕ) → is_valid w.layout ≡ true → Seats w → Slots w → Eras w → ErasNeeds w i → Eras (step w i)
eras_step w i v s o e n = let d = phase_given w.layout w.mem (w.seat i).desk (w.seat i).phase (o.seats i).phase n.life in let c = clock_next w i e in let a = e.some in let b = c.rises in
    record {
      some = omega arith;
      most = c.most;
      words = λ place. word_later w.layout (w.mem Clock) ((step w i).mem Clock) place ((step w i).mem place) c.rises
          (words_written w.layout (w.mem Clock) w.mem (move (w.seat i)) (phase_in w.layout (w.mem Clock) v w.mem (w.seat i).phase (w.seat i).post (s.fits i).post.layout n.tags (s.fits i).phase (e.seats i).phase d) e.words place);
      seats = λ k. seated_later w.layout k (w.mem Clock) ((step w i).mem Clock) ((step w i).mem (Interval k)) ((step w i).seat k) c.rises (at k (k == i) refl);
    }
  where
    at : (k : ℕ) (x : Bool) → (k == i) ≡ x → Seated (PostEras w.layout k (w.mem Clock) ((step w i).mem (Interval k))) (PhaseEras w.layout (w.mem Clock)) ((step w i).seat k)
    at k true h = let same : i ≡ k = grind (arith, nat_tests) in
        subst (λ (j : ℕ). Seated (PostEras w.layout j (w.mem Clock) ((step w i).mem (Interval j))) (PhaseEras w.layout (w.mem Clock)) ((step w i).seat j)) same (own_eras w i v s e (phase_given w.layout w.mem (w.seat i).desk (w.seat i).phase (o.seats i).phase n.life))
    at k false h = other_eras w i k s e h

pub eras_begin : (w : World) (i : ℕ) (call : Call) → is_valid w.layout ≡ true → Eras w → Eras (begin w i call)
eras_begin w i call v e = record {
  some = e.some;
  most = e.most;
  words = e.words;
  seats = one_moves (λ k l. Seated (PostEras w.layout k (w.mem Clock) (w.mem (Interval k))) (PhaseEras w.layout (w.mem Clock)) l) w.seat (begin w i call).seat i e.seats (λ k. begin_stays w i k call)
      (subst (Seated (PostEras w.layout i (w.mem Clock) (w.mem (Interval i))) (PhaseEras w.layout (w.mem Clock))) (sym (begin_begins w i call))
      (begun_seated (era_grows w.layout i (w.mem Clock) (w.mem (Interval i)) v) (w.seat i) call (begun_eras w.layout i (w.mem Clock) (w.mem (Interval i)) (w.seat i).post (e.seats i).post)));
}

pub no_index : 0 ≡ halves 0 0
unfolding halves
no_index = refl

start_life : (b d : Bool) → LifeIn 1 (if b then (if d then halves 1 0 else 0) else 0)
start_life true true = Lives 1 0 refl (record { born = record { some = omega arith; most = omega arith }; over = omega arith; later = λ h. absurd (omega arith) })
start_life true false = NoLife refl
start_life false d = NoLife refl

start_index : (rows : Bool) (layout : Layout) → ShownIn rows layout 1 0
start_index true layout = omega arith
start_index false layout = index_in 1 0 0 0 no_index (omega arith) (omega arith)

start_words : (layout : Layout) (place : Place) → WordIn layout 1 place (first_word layout place)
start_words layout Clock = tt
start_words layout (Helper seat) = subst (HelperIn 1) (sym (zero_either (has layout (Helper seat)))) (nothing_shown 1)
start_words layout (Index seat index) = subst (ShownIn (publishes_rows layout.config.scheme) layout 1) (sym (zero_either (has layout (Index seat index)))) (start_index (publishes_rows layout.config.scheme) layout)
start_words layout (Interval seat) = tt
start_words layout (RequestOf seat) = subst (RequestIn layout 1) (sym (zero_either (has layout (RequestOf seat)))) (nothing_asked layout 1)
start_words layout (Bucket bucket) = tt
start_words layout Head = tt
start_words layout Tail = tt
start_words layout (Claim number) = tt
start_words layout (Life slot) = start_life (has layout (Life slot)) (slot == layout.config.slots)
start_words layout (Row slot place) = tt
start_words layout (PlaceOf seat) = tt

pub eras_start : (layout : Layout) → is_valid layout ≡ true → Eras (start layout)
eras_start layout v = record {
  some = omega arith;
  most = let b = bounds_of layout v in b.eras.0;
  words = start_words layout;
  seats = λ k. record { post = record { fits = record { seat = refl; layout = refl; cursor = omega arith; tags = refl; standing = refl }; span = tt; shown = zero_either (has layout (Interval k)) }; phase = tt };
}
