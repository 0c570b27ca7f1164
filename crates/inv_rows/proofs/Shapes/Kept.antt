-- The static shape of every seat, at the start and over each step and each call that begins.
use Rattle.std.proofs.Common.{ℕ, ◌≡◌, Bool, true, false, refl, sym, subst, arith}
use Rattle.std.proofs.lemmas.Bool.Decides.{nat_tests}
use Rattle.std.specs.Prelude.{◌==◌}
use Rattle.wfe_core.specs.words.Place.{is_valid}
use Rattle.wfe_core.specs.words.declared.layout.Layout.{Layout}
use Rattle.wfe_core.specs.defs.declared.call.Call.{Call}
use Rattle.wfe_core.specs.declared.post.Post.{Post}
use Rattle.wfe_core.specs.Posts.{counted}
use Rattle.wfe_core.specs.Locals.{Local, after, begun_post}
use Rattle.wfe_core.specs.Phases.{Base}
use Rattle.wfe_core.specs.Phases.Base.{Begin, Protect, Reload, Clear, Finish, Release, Allocate, Write, GiveUp, Retire, Move}
use Rattle.wfe_core.specs.Calls.{KeepAt, Loosens, LoadHeld, StoreHeld, Looks, Misses, HideSpan, MarkLeft, TakeList, MarkTaken, Work, Getting, Changing, Enqueuing, Dequeuing, Keeping, Why, Phase, Idle, Runs, Scans, Works}
use Rattle.wfe_core.specs.World.{World, start, begin, step, finds, offered}
use Rattle.inv_rows.specs.Shapes.Frame.{KeepFits, WorkFits, Seated, Stores, Owes, bared}
use Rattle.inv_rows.specs.Shapes.Seats.{Posted, Run, PostFits, PhaseFits, Seats}
use Rattle.inv_rows.proofs.Shapes.Frame.{seat_stays, seat_steps, begin_stays, begin_begins, after_seated, begun_seated}
use Rattle.inv_rows.proofs.Shapes.Shapes.{shape_grows}
use Rattle.inv_rows.proofs.Shapes.Inside.{shape_moves}

pub counted_fits : (layout : Layout) (k : ℕ) (post : Post) → PostFits layout k post → PostFits layout k (counted post)
counted_fits layout k post q = record { seat = q.seat; layout = q.layout; cursor = q.cursor; tags = q.tags; standing = q.standing }

pub begun_fits : (layout : Layout) (k : ℕ) (post : Post) → PostFits layout k post → PostFits layout k (begun_post post)
begun_fits layout k post q = record { seat = q.seat; layout = q.layout; cursor = q.cursor; tags = q.tags; standing = q.standing }

posted_counted : (base : Base) (post : Post) → Posted base post → Posted base (counted post)
posted_counted (Begin at) post h = h
posted_counted (Protect aim index root steps at) post h = h
posted_counted (Reload parent index slot era steps) post h = h
posted_counted (Clear rows index) post h = h
posted_counted Finish post h = h
posted_counted (Release index) post h = h
posted_counted (Allocate at) post h = h
posted_counted (Write slot row place) post h = h
posted_counted (GiveUp slot) post h = h
posted_counted (Retire at) post h = h
posted_counted (Move at) post h = h

pub run_counted : (layout : Layout) (why : Why) (base : Base) (post : Post) → Run layout why base post → Run layout why base (counted post)
run_counted layout why base post p = record { suited = p.suited; fits = p.fits; shape = p.shape; posted = posted_counted base post p.posted; parted = p.parted }

keep_counted : (at : KeepAt) (post : Post) → KeepFits post at → KeepFits (counted post) at
keep_counted (Loosens let_go) post h = record { interval = h.interval; kept = h.kept; apart = h.apart }
keep_counted (LoadHeld from index) post h = h
keep_counted (StoreHeld from index era) post h = record { plain = h.plain; kept = h.kept }
keep_counted (Looks index key at) post h = h
keep_counted (Misses index) post h = h
keep_counted HideSpan post h = record { interval = h.interval; stood = h.stood }
keep_counted MarkLeft post h = h
keep_counted (TakeList place) post h = h
keep_counted (MarkTaken place count) post h = h

pub work_counted : (work : Work) (post : Post) → WorkFits post work → WorkFits (counted post) work
work_counted (Getting key at) post h = h
work_counted (Changing kept at) post h = h
work_counted (Enqueuing kept at) post h = h
work_counted (Dequeuing at) post h = h
work_counted (Keeping at) post h = keep_counted at post h

keep_bared : (layout : Layout) (k : ℕ) (at : KeepAt) (post : Post) → PostFits layout k post → PostFits layout k (bared (Keeping at) post)
keep_bared layout k HideSpan post q = record { seat = q.seat; layout = q.layout; cursor = q.cursor; tags = q.tags; standing = refl }
keep_bared layout k at post q = q

pub bared_fits : (layout : Layout) (k : ℕ) (work : Work) (post : Post) → PostFits layout k post → PostFits layout k (bared work post)
bared_fits layout k (Keeping at) post q = keep_bared layout k at post q
bared_fits layout k work post q = q

-- the second step of a copy
keep_stores : (layout : Layout) (at : KeepAt) (post : Post) (found : ℕ) → KeepFits post at → Stores (PhaseFits layout) (counted post) found (Keeping at)
keep_stores layout (Loosens let_go) post found h = tt
keep_stores layout (LoadHeld from index) post found h = λ i. record { plain = i; kept = h }
keep_stores layout (StoreHeld from index era) post found h = tt
keep_stores layout (Looks index key at) post found h = tt
keep_stores layout (Misses index) post found h = tt
keep_stores layout HideSpan post found h = tt
keep_stores layout MarkLeft post found h = tt
keep_stores layout (TakeList place) post found h = tt
keep_stores layout (MarkTaken place count) post found h = tt

stores_fit : (layout : Layout) (work : Work) (post : Post) (found : ℕ) → WorkFits post work → Stores (PhaseFits layout) (counted post) found work
stores_fit layout (Getting key at) post found h = tt
stores_fit layout (Changing kept at) post found h = tt
stores_fit layout (Enqueuing kept at) post found h = tt
stores_fit layout (Dequeuing at) post found h = tt
stores_fit layout (Keeping at) post found h = keep_stores layout at post found h

owed : (layout : Layout) (k : ℕ) → is_valid layout ≡ true → (phase : Phase) (post : Post) (found : ℕ) → PostFits layout k post → PhaseFits layout post phase → Owes (PostFits layout k) (PhaseFits layout) (counted post) found phase
owed layout k v Idle post found q p = counted_fits layout k post q
owed layout k v (Runs why base) post found q p = shape_moves layout k v why base (counted post) found (counted_fits layout k post q) (run_counted layout why base post p)
owed layout k v (Scans later at) post found q p = counted_fits layout k post q
owed layout k v (Works work) post found q p = record { post = bared_fits layout k work (counted post) (counted_fits layout k post q); fits = work_counted work post p; stores = stores_fit layout work post found p }

after_fits : (layout : Layout) (k : ℕ) → is_valid layout ≡ true → (l : Local) (found : ℕ) → Seated (PostFits layout k) (PhaseFits layout) l → Seated (PostFits layout k) (PhaseFits layout) (after l found)
after_fits layout k v l found s = after_seated (shape_grows layout k v) l found (owed layout k v l.phase l.post found s.post s.phase)

-- the seat that moved, or another
pub one_moves : (S : ℕ → Local → Type 0) (now then : ℕ → Local) (i : ℕ) → ((k : ℕ) → S k (now k)) → ((k : ℕ) → (k == i) ≡ false → then k ≡ now k) → S i (then i) → (k : ℕ) → S k (then k)
one_moves S now then i all other own k = at (k == i) refl
  where
    at : (b : Bool) → (k == i) ≡ b → S k (then k)
    at true e = let same : i ≡ k = grind (arith, nat_tests) in subst (λ (j : ℕ). S j (then j)) same own
    at false e = subst (S k) (sym (other k e)) (all k)

-- the seat as it makes its step is as before but for its desk
pub offered_fits : {Q : Post → Type 0} {P : Post → Phase → Type 0} (w : World) (i : ℕ) → Seated Q P (w.seat i) → Seated Q P (offered w i)
offered_fits w i s = record { post = s.post; phase = s.phase }

pub seats_step : (w : World) (i : ℕ) → is_valid w.layout ≡ true → Seats w → Seats (step w i)
seats_step w i v s = record {
  fits = one_moves (λ k l. Seated (PostFits w.layout k) (PhaseFits w.layout) l) w.seat (step w i).seat i s.fits (seat_stays w i)
      (subst (Seated (PostFits w.layout i) (PhaseFits w.layout)) (sym (seat_steps w i)) (after_fits w.layout i v (offered w i) (finds w i) (offered_fits w i (s.fits i))));
}

pub seats_begin : (w : World) (i : ℕ) (call : Call) → is_valid w.layout ≡ true → Seats w → Seats (begin w i call)
seats_begin w i call v s = record {
  fits = one_moves (λ k l. Seated (PostFits w.layout k) (PhaseFits w.layout) l) w.seat (begin w i call).seat i s.fits (λ k. begin_stays w i k call)
      (subst (Seated (PostFits w.layout i) (PhaseFits w.layout)) (sym (begin_begins w i call)) (begun_seated (shape_grows w.layout i v) (w.seat i) call (begun_fits w.layout i (w.seat i).post (s.fits i).post)));
}

pub seats_start : (layout : Layout) → is_valid layout ≡ true → Seats (start layout)
seats_start layout v = record { fits = λ k. record { post = record { seat = refl; layout = refl; cursor = omega arith; tags = refl; standing = refl }; phase = tt } }
