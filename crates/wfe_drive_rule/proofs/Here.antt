-- A seat whose last call is no leave is there, whatever calls began and whichever seats made their steps.
use Rattle.std.proofs.Common.{Bool, List, false, refl, true, ℕ, ◌∙◌, ◌≡◌, ◌≢◌, ap, sym}
use Rattle.std.specs.Prelude.{if◌then◌else◌, nat_lt, not, ◌&&◌, ◌==◌}
use Rattle.wfe_core.proofs.Facts.{number_is, rest_of}
use Rattle.wfe_core.specs.words.Place.{is_valid}
use Rattle.wfe_core.specs.words.Place.Place.{PlaceOf}
use Rattle.wfe_core.specs.words.declared.layout.Layout.{Layout}
use Rattle.wfe_core.specs.defs.declared.call.Call.{Call}
use Rattle.wfe_core.specs.defs.declared.call.Call.TheVariants as names
use Rattle.wfe_core.specs.Calls.{Answers, CallOutcome, CallTurn, GoesOn, Keeping, MarkLeft, Phase, Works}
use Rattle.wfe_core.specs.Desks.{Desk}
use Rattle.wfe_core.specs.Locals.{Local, busy_in, settled, settled_by, turn}
use Rattle.wfe_core.specs.World.{World, begin, finds, is_busy, is_here, offered, step}
use Rattle.wfe_core.specs.declared.post.Post.{Post}
use Rattle.law_reuse.specs.history.History.{Begins, Item, Made, Steps, done_if, first_made, fits, made_of, world_of}
use Rattle.law_reuse.specs.inv.Inv.{Inv}
use Rattle.law_reuse.specs.inv.Places.{PlaceMoves, is_leaving}
use Rattle.law_reuse.proofs.history.Along.{paths_keep}
use Rattle.law_reuse.proofs.inv.Inv.Places.{inv_place_moves, inv_places}
use Rattle.law_reuse.proofs.AnswersTold.Answering.{Keeps, answers_kept}
use Rattle.law_reuse.proofs.AnswersTold.Owed.{Serves}
use Rattle.law_reuse.proofs.Turns.Counted.{first_busy}

-- between calls, a seat whose last call is no leave
abbrev pub IsThere : World → ℕ → Type 0
IsThere w k = busy_in (w.seat k).phase ≡ false → (w.seat k).call ≢ names.Leave → is_here w k ≡ true

-- a step keeps its seat's call
settled_by_call : (l : Local) (post : Post) (desk : Desk) (rounds : ℕ) (outcome : CallOutcome) → (settled_by l post desk rounds outcome).call ≡ l.call
settled_by_call l post desk rounds (GoesOn phase) = refl
settled_by_call l post desk rounds (Answers answer) = refl

pub settled_call : (l : Local) (t : CallTurn) → (settled l t).call ≡ l.call
settled_call l t = settled_by_call l t.post _ _ t.outcome

-- the step that marks a seat as left is one of a leave
pub leaving_call : (call : Call) (phase : Phase) → is_leaving phase ≡ true → Serves call phase → call ≡ names.Leave
leaving_call call (Works (Keeping MarkLeft)) h s = s
leaving_call call phase h s = absurd (cc)

-- where its seat is busy
here_by : (w : World) (i : ℕ) → Inv w → is_busy w i ≡ true → is_here w i ≡ true
here_by w i a busy = ap (λ (word : ℕ). word == 0) ((inv_places w i a).here busy)

stays_by : (here leaving : Bool) → here ≡ true → leaving ≡ false → (here && not leaving) ≡ true
stays_by here leaving h l = rw (h, l) refl

begun_there : (w : World) (i k : ℕ) (call : Call) (same : Bool) → (k == i) ≡ same → IsThere w k → IsThere (begin w i call) k
begun_there w i k call true e g = rw e (λ idle ne. absurd (cc (first_busy call (w.seat i))))
begun_there w i k call false e g = rw e g

own_there : (w : World) (i : ℕ) (leaving : Bool) → is_leaving (w.seat i).phase ≡ leaving → is_busy w i ≡ true → Inv w → Serves (w.seat i).call (w.seat i).phase → (w.seat i).call ≢ names.Leave → (is_here w i && not leaving) ≡ true
own_there w i true l busy a s ne = absurd (ne (leaving_call (w.seat i).call (w.seat i).phase l s))
own_there w i false l busy a s ne = stays_by (is_here w i) false (here_by w i a busy) refl

stepped_there : (w : World) (i k : ℕ) (same : Bool) → (k == i) ≡ same → is_busy w i ≡ true → Inv w → Serves (w.seat i).call (w.seat i).phase → IsThere w k → IsThere (step w i) k
stepped_there w i k true e busy a s g =
    let m : PlaceMoves w i k = inv_place_moves w i k busy a in
    let is : k ≡ i = number_is k i e in
    rw e (λ idle ne. m.here ∙ rw (e, is) (own_there w i (is_leaving (w.seat i).phase) refl busy a s (λ c. ne (settled_call (offered w i) (turn (offered w i) (finds w i)) ∙ c))))
stepped_there w i k false e busy a s g =
    let m : PlaceMoves w i k = inv_place_moves w i k busy a in
    rw e (λ idle ne. m.here ∙ rw e (stays_by (is_here w k) false (g idle ne) refl))

item_there : (layout : Layout) → is_valid layout ≡ true → (path : List Item) (item : Item) (fit : Bool) → fits (world_of layout path) item ≡ fit
    → ((k : ℕ) → IsThere (made_of layout path).world k) → (k : ℕ) → IsThere (done_if (made_of layout path) item fit).world k
item_there layout valid path item false f g = g
item_there layout valid path (Begins i call) true f g = λ k. begun_there (world_of layout path) i k call (k == i) refl (g k)
item_there layout valid path (Steps i) true f g = λ k.
    let w : World = world_of layout path in
    let kept : Keeps layout.config.buckets (made_of layout path) = answers_kept layout path valid in
    let busy : is_busy w i ≡ true = rest_of (nat_lt i w.layout.config.seats) (is_busy w i) f in
    let right = kept.seats i in
    stepped_there w i k (k == i) refl busy kept.known (right.serves busy) (g k)

same_word : (b : Bool) → ((if b then 0 else 0) == 0) ≡ true
same_word true = refl
same_word false = refl

pub seats_there : (layout : Layout) (items : List Item) → is_valid layout ≡ true → (k : ℕ) → IsThere (world_of layout items) k
seats_there layout items valid =
    paths_keep layout (λ (made : Made). (k : ℕ) → IsThere made.world k) (item_there layout valid) (λ k idle ne. same_word (nat_lt k layout.config.seats)) items
