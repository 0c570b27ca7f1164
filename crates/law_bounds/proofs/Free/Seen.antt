-- A step leaves what its seat has seen of the clock as it was, or shows it the clock.
use Rattle.std.proofs.Common.{ℕ, ◌≡◌, ◌≤◌, ◌+◌, ◌-◌, Bool, true, false, [], ◌∷◌, Option, Some, None, ◌⊎◌, inl, inr, refl, sym, subst, arith}
use Rattle.std.specs.Prelude.{List, ◌==◌, ◌||◌, nat_le}
use Rattle.law_held.specs.inv.Known.{Known}
use Rattle.law_held.specs.inv.model.declared.ends.FollowEnd.TheVariants as follow_ends
use Rattle.law_held.specs.inv.model.Allocate.{is_claimed, next_slot, walk_past, walking}
use Rattle.law_held.specs.inv.model.WriteRow.{last_written}
use Rattle.law_held.specs.inv.model.SlowPath.{answer_in, lost_turn, own_request}
use Rattle.law_held.specs.inv.model.Scan as scan
use Rattle.law_held.specs.inv.model.declared.post.Post.{Post}
use Rattle.law_held.specs.inv.model.defs.declared.event.Event.{Event}
use Rattle.law_held.specs.inv.model.defs.declared.event.Event.TheVariants as events
use Rattle.law_held.specs.inv.model.defs.declared.event.Root.{Root}
use Rattle.law_held.specs.inv.model.defs.declared.lifetime.Interval.{Interval}
use Rattle.law_held.specs.inv.model.Calls.{CallTurn, Phase, Idle, Runs, Scans, Works, Why, Work, Keeping, HideSpan}
use Rattle.law_held.specs.inv.model.Locals.{busy_in}
use Rattle.law_held.specs.inv.model.Desks.{Desk}
use Rattle.law_held.specs.inv.model.Links.{parent_of}
use Rattle.law_held.specs.inv.model.Machine as machine
use Rattle.law_held.specs.inv.model.Memory.{bump}
use Rattle.law_held.specs.inv.model.Phases.{Aim, Alone, Follows, Tries, Endless, Failed, HazardAt, ProtectAt, AllocateAt, RetireAt, Walk, Base, Turn, Outcome, Goes, Ends, goes, ends}
use Rattle.law_held.specs.inv.model.Phases.AllocateAt.{LoadBirth, ClaimSlot, StoreLife}
use Rattle.law_held.specs.inv.model.Phases.RetireAt.{LoadLife, LoadRetire, StoreRetired}
use Rattle.law_held.specs.inv.model.Phases.BeginAt.{LoadLower, PublishSpan}
use Rattle.law_held.specs.inv.model.Phases.HazardAt.{FirstLink, PublishLink, CheckLink}
use Rattle.law_held.specs.inv.model.Phases.ProtectAt.{LoadClock, PublishEra, LoadLink, CheckClock, PublishRequest, LoadOwnClock, PublishHelper, LoadOwnLink, CheckOwnClock, AnswerOwn, LoadAnswer, TakeAnswer, WithdrawRequest, WithdrawHelper, LoadWithin, CheckUpper, RaiseUpper, ByHazard}
use Rattle.law_held.specs.inv.model.Phases.Base.{Begin, Protect, Reload, Clear, Finish, Release, Allocate, Write, GiveUp, Retire, Move}
use Rattle.law_held.specs.inv.model.Phases.Ending.{Done, Followed}
use Rattle.law_held.specs.inv.model.Posts.{counted, reserves_helper, tag_of, upper, with_row, with_tag}
use Rattle.law_held.specs.inv.model.Protect.{concluded, failed_once, held_post, protected, told_held, trying}
use Rattle.law_held.specs.inv.model.Rest.{base_seen, phase_seen, protect_seen, span_seen}
use Rattle.law_held.specs.inv.model.Steps as steps
use Rattle.law_held.specs.inv.model.World.{World, finds, is_busy, offered, step}
use Rattle.law_held.specs.inv.model.words.Packed.{read_request}
use Rattle.law_held.specs.inv.model.words.Place.Place.{Clock}
use Rattle.law_held.specs.inv.model.words.Schemes.{has_one_interval}
use Rattle.law_held.specs.inv.model.words.declared.config.Config.{Config}
use Rattle.law_held.specs.inv.model.words.declared.config.SchemeKind.{SchemeKind}
use Rattle.law_held.specs.inv.model.words.declared.layout.Layout.{Layout}
use Rattle.law_held.specs.inv.model.words.declared.packed.Request.{Request}
use Rattle.law_held.specs.inv.model.words.declared.packed.Request.TheVariants as requests
use Rattle.law_held.specs.inv.requests.Views.{View as Asked}
use Rattle.law_held.specs.inv.rows.Queue.{Line}
use Rattle.law_held.specs.inv.rows.Rows.{View}
use Rattle.law_held.specs.inv.shapes.Frame.{Left, Passed, bared, phase_left as stands_at}
use Rattle.law_held.specs.inv.shapes.Seats.{PhaseFits, PostFits, Run, base_fits, protect_fits}
use Rattle.law_held.proofs.inv.covers.Held.{stepped_phase, stepped_post}
use Rattle.law_held.proofs.inv.ends.Origins.Plain.{moves_on, out_moves}
use Rattle.law_held.proofs.inv.ends.Rest.Falling.{fit_clock}
use Rattle.law_held.proofs.inv.ends.Rest.Kept.{post_is}
use Rattle.law_held.proofs.inv.ends.Rest.Moves.{move_post}
use Rattle.law_held.proofs.inv.ends.Rest.Seen.{PostIs, ShowsSame, seen_grows, stores_same}
use Rattle.law_held.proofs.inv.model.words.Schemes.{eras_not_interval}
use Rattle.law_held.proofs.inv.shapes.Decode.{clock_next}
use Rattle.law_held.proofs.inv.shapes.Frame.{finds_at}
use Rattle.law_held.proofs.inv.shapes.Inside.{shape_moves}
use Rattle.law_held.proofs.inv.shapes.Kept.{bared_fits, counted_fits, run_counted, work_counted}
use Rattle.law_held.proofs.inv.shapes.Tries.{tries_eras, try_eras}
use Rattle.law_held.proofs.inv.shapes.Works.{resume_left, scan_left, work_left}
use Rattle.law_held.proofs.inv.ends.Rest.Machines.{at_clock, held_span}
use Rattle.law_held.proofs.inv.model.Facts.{if_by}

-- what is seen after a step, where `old` was seen before it and the clock was `clock`
abbrev pub Sees : (old clock : ℕ) → ℕ → Type 0
Sees old clock seen = (seen ≡ old) ⊎ (clock ≤ seen)

-- of a machine's step
abbrev pub out_sees : (old clock next : ℕ) → Option Interval → Outcome → Type 0
out_sees old clock next span (Goes base) = Sees old clock (base_seen base (span_seen next span))
out_sees old clock next span (Ends ending) = Sees old clock (span_seen next span)

abbrev pub TurnSees : (old clock next : ℕ) → Turn → Type 0
TurnSees old clock next t = out_sees old clock next t.post.span t.outcome

-- the interval stays
pub span_sees : (clock next : ℕ) (span : Option Interval) → clock ≤ next → Sees (span_seen clock span) clock (span_seen next span)
span_sees clock next None h = inr h
span_sees clock next (Some span) h = inl refl

-- none stands
none_sees : (old clock next : ℕ) (span : Option Interval) → span ≡ None → clock ≤ next → clock ≤ span_seen next span
none_sees old clock next None e h = h
none_sees old clock next (Some span) e h = absurd (cc)

concluded_sees : (old clock next : ℕ) (aim : Aim) (index : ℕ) (root : Root) (n link era : ℕ) (post : Post) (told : List Event) → Sees old clock (span_seen next post.span) → TurnSees old clock next (concluded aim index root n link era post told)
concluded_sees old clock next Alone index root n link era post told h = h
concluded_sees old clock next Follows index root n link era post told h =
    if_by (link == 0) (ends post told (Followed follow_ends.NoNext)) (goes post told (Reload (parent_of root) index (link - 1) era n)) (TurnSees old clock next) (λ e. h) (λ e. h)

protected_sees : (old clock next : ℕ) (aim : Aim) (index : ℕ) (root : Root) (n link era : ℕ) (post : Post) → Sees old clock (span_seen next post.span) → TurnSees old clock next (protected aim index root n link era post)
protected_sees old clock next aim index root n link era post h =
    concluded_sees old clock next aim index root n link era (held_post post index root link) (told_held index root link n) (rw (held_span post index root link) h)

-- where an era is shown in an index word no interval stands
abbrev at_plain : ProtectAt → Option Interval → Type 0
at_plain (PublishEra era tries) span = span ≡ None
at_plain (CheckClock era tries link) span = span ≡ None
at_plain at span = Unit {0}

trying_sees : (c : Config) (old clock next era : ℕ) (tries : Tries) (span : Option Interval) → span ≡ None → clock ≤ next → old ≡ era → Sees old clock (protect_seen (trying c era tries) (span_seen next span))
trying_sees c old clock next era Endless span e r o = inl (sym o)
trying_sees c old clock next era (Failed count) span e r o =
    if_by (nat_le c.tries count) PublishRequest (LoadLink era (Failed count)) (λ (at : ProtectAt). Sees old clock (protect_seen at (span_seen next span))) (λ h. inr (none_sees old clock next span e r)) (λ h. inl (sym o))

-- the answer that a request finds shows no era of its own
answer_sees : (old clock next : ℕ) (span : Option Interval) (r : Option Request) → Sees old clock (span_seen next span) → Sees old clock (protect_seen (answer_in r) (span_seen next span))
answer_sees old clock next span (Some (requests.Answered link era)) h = h
answer_sees old clock next span (Some (requests.Pending tag index word)) h = h
answer_sees old clock next span (Some requests.Idle) h = h
answer_sees old clock next span None h = h

lost_sees : (old clock next : ℕ) (span : Option Interval) (first found : ℕ) (last : Bool) → Sees old clock (span_seen next span) → Sees old clock (protect_seen (lost_turn first last found) (span_seen next span))
lost_sees old clock next span first found false h = h
lost_sees old clock next span first found true h = h

hazard_sees : (clock next : ℕ) (aim : Aim) (index : ℕ) (root : Root) (n : ℕ) (at : HazardAt) (post : Post) (found : ℕ) → clock ≤ next → TurnSees (span_seen clock post.span) clock next (machine.hazard_turn aim index root n at post found)
hazard_sees clock next aim index root n FirstLink post found r =
    let s = span_sees clock next post.span r in
    if_by (found == 0) (protected aim index root n found 0 post) (goes post [] (Protect aim index root n (ByHazard (PublishLink found)))) (TurnSees (span_seen clock post.span) clock next)
    (λ e. protected_sees (span_seen clock post.span) clock next aim index root n found 0 post s) (λ e. s)
hazard_sees clock next aim index root n (PublishLink link) post found r = span_sees clock next post.span r
hazard_sees clock next aim index root n (CheckLink link) post found r =
    let s = span_sees clock next post.span r in
    if_by (found == link || found == 0) (protected aim index root n found 0 post) (goes post [] (Protect aim index root n (ByHazard (PublishLink found)))) (TurnSees (span_seen clock post.span) clock next)
    (λ e. protected_sees (span_seen clock post.span) clock next aim index root n found 0 post s) (λ e. s)

protect_sees : (clock next : ℕ) (aim : Aim) (index : ℕ) (root : Root) (n : ℕ) (at : ProtectAt) (post : Post) (found : ℕ) → clock ≤ next → at_plain at post.span → at_clock at found clock → TurnSees (protect_seen at (span_seen clock post.span)) clock next (machine.protect_turn aim index root n at post found)
protect_sees clock next aim index root n (LoadClock tries) post found r p l = inr (rw l (omega arith))
protect_sees clock next aim index root n (PublishEra era tries) post found r p l = trying_sees post.layout.config era clock next era tries post.span p r refl
protect_sees clock next aim index root n (LoadLink era tries) post found r p l = inl refl
protect_sees clock next aim index root n (CheckClock era tries link) post found r p l =
    if_by (found == era) (protected aim index root n link era post) (goes post [] (Protect aim index root n (PublishEra found (failed_once tries)))) (TurnSees era clock next)
    (λ e. protected_sees era clock next aim index root n link era post (inr (none_sees era clock next post.span p r))) (λ e. inr (rw l (omega arith)))
protect_sees clock next aim index root n PublishRequest post found r p l = span_sees clock next post.span r
protect_sees clock next aim index root n LoadOwnClock post found r p l = span_sees clock next post.span r
protect_sees clock next aim index root n (PublishHelper first era last) post found r p l = span_sees clock next post.span r
protect_sees clock next aim index root n (LoadOwnLink first era last) post found r p l = span_sees clock next post.span r
protect_sees clock next aim index root n (CheckOwnClock first era last link) post found r p l =
    let s = span_sees clock next post.span r in
    if_by (found == era) (goes post [] (Protect aim index root n (AnswerOwn first era link))) (goes post [] (Protect aim index root n (lost_turn first last found))) (TurnSees (span_seen clock post.span) clock next)
    (λ e. s) (λ e. lost_sees (span_seen clock post.span) clock next post.span first found last s)
protect_sees clock next aim index root n (AnswerOwn first era link) post found r p l =
    let s = span_sees clock next post.span r in
    if_by (found == own_request post index root) (goes post [] (Protect aim index root n (TakeAnswer link era))) (goes post [] (Protect aim index root n (answer_in (read_request found)))) (TurnSees (span_seen clock post.span) clock next)
    (λ e. s) (λ e. answer_sees (span_seen clock post.span) clock next post.span (read_request found) s)
protect_sees clock next aim index root n (LoadAnswer first) post found r p l = answer_sees (span_seen clock post.span) clock next post.span (read_request found) (span_sees clock next post.span r)
protect_sees clock next aim index root n (TakeAnswer link era) post found r p l = rw (held_span (with_tag post index (tag_of post index + 1)) index root link) (span_sees clock next post.span r)
protect_sees clock next aim index root n (WithdrawRequest link era) post found r p l = span_sees clock next post.span r
protect_sees clock next aim index root n (WithdrawHelper link era) post found r p l = concluded_sees (span_seen clock post.span) clock next aim index root n link era post (reserves_helper post 0) (span_sees clock next post.span r)
protect_sees clock next aim index root n LoadWithin post found r p l = span_sees clock next post.span r
protect_sees clock next aim index root n (CheckUpper link) post found r p l =
    let s = span_sees clock next post.span r in
    if_by (found == upper post.span) (protected aim index root n link found post) (goes post [] (Protect aim index root n (RaiseUpper found))) (TurnSees (span_seen clock post.span) clock next)
    (λ e. protected_sees (span_seen clock post.span) clock next aim index root n link found post s) (λ e. inr (rw l (omega arith)))
protect_sees clock next aim index root n (RaiseUpper era) post found r p l = inl refl
protect_sees clock next aim index root n (ByHazard at) post found r p l = hazard_sees clock next aim index root n at post found r

-- a walk, and a move of the clock
walking_sees : (clock next birth : ℕ) (post : Post) (walk : Option Walk) → clock ≤ next → TurnSees (span_seen clock post.span) clock next (walking birth post walk)
walking_sees clock next birth post None r = span_sees clock next post.span r
walking_sees clock next birth post (Some walk) r = span_sees clock next post.span r

allocate_sees : (clock next : ℕ) (at : AllocateAt) (post : Post) (found : ℕ) → clock ≤ next → TurnSees (span_seen clock post.span) clock next (machine.allocate_turn at post found)
allocate_sees clock next LoadBirth post found r = span_sees clock next post.span r
allocate_sees clock next (ClaimSlot birth walk) post found r =
    if_by (is_claimed found walk.slot) (walking birth post (walk_past post.layout.config.slots walk found)) (goes (record post { cursor = next_slot post.layout.config.slots walk.slot }) (events.Give walk.slot birth ∷ []) (Allocate (StoreLife birth walk.slot)))
    (TurnSees (span_seen clock post.span) clock next) (λ e. walking_sees clock next birth post (walk_past post.layout.config.slots walk found) r) (λ e. span_sees clock next post.span r)
allocate_sees clock next (StoreLife birth slot) post found r = span_sees clock next post.span r

retire_sees : (clock next : ℕ) (at : RetireAt) (post : Post) (found : ℕ) → clock ≤ next → TurnSees (span_seen clock post.span) clock next (machine.retire_turn at post found)
retire_sees clock next (LoadLife slot) post found r = span_sees clock next post.span r
retire_sees clock next (LoadRetire slot birth) post found r = span_sees clock next post.span r
retire_sees clock next (StoreRetired slot birth retire) post found r = span_sees clock next post.span r

moved_sees : (old clock next : ℕ) (span : Option Interval) (outcome : Outcome) → out_moves outcome ≡ true → Sees old clock (span_seen next span) → out_sees old clock next span outcome
moved_sees old clock next span (Goes (Move at)) h s = s
moved_sees old clock next span (Goes base) h s = absurd (cc)
moved_sees old clock next span (Ends ending) h s = s

-- what a machine's step has found of the clock
abbrev base_plain : Base → Option Interval → Type 0
base_plain (Protect aim index root made at) span = at_plain at span
base_plain base span = Unit {0}

abbrev base_clock : Base → (found clock : ℕ) → Type 0
base_clock (Begin LoadLower) found clock = found ≡ clock
base_clock (Protect aim index root made at) found clock = at_clock at found clock
base_clock base found clock = Unit {0}

base_sees : (clock next : ℕ) (base : Base) (post : Post) (found : ℕ) → clock ≤ next → base_plain base post.span → base_clock base found clock → TurnSees (base_seen base (span_seen clock post.span)) clock next (machine.after base post found)
base_sees clock next (Begin LoadLower) post found r p l = inr (rw l (omega arith))
base_sees clock next (Begin (PublishSpan era)) post found r p l = inl refl
base_sees clock next (Protect aim index root made at) post found r p l = protect_sees clock next aim index root (bump made) at post found r p l
base_sees clock next (Reload parent index slot era made) post found r p l =
    if_by (found == parent + 1) (ends (with_row post index slot) (events.Held index slot (bump made) ∷ []) (Followed (follow_ends.Followed slot))) (ends post [] (Followed (follow_ends.RootMoved found)))
    (TurnSees (span_seen clock post.span) clock next) (λ e. span_sees clock next post.span r) (λ e. span_sees clock next post.span r)
base_sees clock next (Clear rows index) post found r p l = span_sees clock next post.span r
base_sees clock next Finish post found r p l = inr r
base_sees clock next (Release index) post found r p l = inr r
base_sees clock next (Allocate at) post found r p l = allocate_sees clock next at post found r
base_sees clock next (Write slot row place) post found r p l =
    if_by (place == last_written row) (ends post [] Done) (goes post [] (Write slot row (place + 1))) (TurnSees (span_seen clock post.span) clock next) (λ e. span_sees clock next post.span r) (λ e. span_sees clock next post.span r)
base_sees clock next (GiveUp slot) post found r p l = span_sees clock next post.span r
base_sees clock next (Retire at) post found r p l = retire_sees clock next at post found r
base_sees clock next (Move at) post found r p l =
    moved_sees (span_seen clock post.span) clock next (machine.move_turn at post found).post.span (machine.move_turn at post found).outcome (moves_on at post found) (rw (move_post at post found) (span_sees clock next post.span r))

-- what a seat has seen of the clock
abbrev pub seen_at : World → ℕ → ℕ
seen_at w k = phase_seen (w.seat k).phase (span_seen (w.mem Clock) (w.seat k).post.span)

-- of a call's turn
abbrev CallSees : (old clock next : ℕ) → CallTurn → Type 0
CallSees old clock next t = Sees old clock (phase_seen (stands_at t.outcome) (span_seen next t.post.span))

left_sees : (layout : Layout) (k old clock next : ℕ) (span : Option Interval) (t : CallTurn) → Left (PostIs layout k span) ShowsSame t → Sees old clock (span_seen next span) → CallSees old clock next t
left_sees layout k old clock next span t l h = rw (l.phase (span_seen next t.post.span), l.post.same) h

run_sees : (w : World) (i : ℕ) (v : View) (l : Line) (z : Asked) (old clock next : ℕ) (why : Why) (desk : Desk) (post : Post) (told : List Event) (outcome : Outcome) → Known w v l z → PostFits w.layout i post → Passed (PhaseFits w.layout) why post outcome → out_sees old clock next post.span outcome
    → CallSees old clock next (steps.resumed why desk post told outcome)
run_sees w i v l z old clock next why desk post told (Goes base) k f p h = h
run_sees w i v l z old clock next why desk post told (Ends ending) k f p h =
    left_sees w.layout i old clock next post.span (steps.resume why ending post desk told) (resume_left (seen_grows w.layout i post.span k.valid) why ending post desk told p (record { fits = f; same = refl })) h

plain_of : (scheme : SchemeKind) (most : ℕ) (at : ProtectAt) (span : Option Interval) → protect_fits scheme most at ≡ true → (has_one_interval scheme ≡ false → span ≡ None) → at_plain at span
plain_of scheme most (PublishEra era tries) span f n = n (eras_not_interval scheme (tries_eras scheme most tries f))
plain_of scheme most (CheckClock era tries link) span f n = n (eras_not_interval scheme (try_eras scheme most tries f))
plain_of scheme most at span f n = tt

base_plain_of : (c : Config) (base : Base) (span : Option Interval) → base_fits c base ≡ true → (has_one_interval c.scheme ≡ false → span ≡ None) → base_plain base span
base_plain_of c (Protect aim index root made at) span f n = plain_of c.scheme c.tries at span f n
base_plain_of c base span f n = tt

clock_of_step : (w : World) (i : ℕ) (why : Why) (base : Base) → (w.seat i).phase ≡ Runs why base → base_clock base (finds w i) (w.mem Clock)
clock_of_step w i why (Begin LoadLower) e = finds_at w i (Runs why (Begin LoadLower)) e
clock_of_step w i why (Protect aim index root made at) e = fit_clock w i why aim index root made at e
clock_of_step w i why base e = tt

bared_sees : (clock next : ℕ) (work : Work) (post : Post) → clock ≤ next → Sees (span_seen clock post.span) clock (span_seen next (bared work post).span)
bared_sees clock next (Keeping HideSpan) post r = inr r
bared_sees clock next work post r = span_sees clock next post.span r

phase_sees : (w : World) (i : ℕ) (v : View) (l : Line) (z : Asked) → Known w v l z → (phase : Phase) → (w.seat i).phase ≡ phase → busy_in phase ≡ true → CallSees (phase_seen phase (span_seen (w.mem Clock) (w.seat i).post.span)) (w.mem Clock) ((step w i).mem Clock) (steps.phase_turn phase (counted (w.seat i).post) (offered w i).desk (finds w i))
phase_sees w i v l z k Idle e b = absurd (cc)
phase_sees w i v l z k (Runs why base) e b =
    let post : Post = counted (w.seat i).post in
    let t : Turn = machine.after base post (finds w i) in
    let r : Run w.layout why base post = run_counted w.layout why base (w.seat i).post (subst (λ (p : Phase). PhaseFits w.layout (w.seat i).post p) e (k.seats.fits i).phase) in
    let m = shape_moves w.layout i k.valid why base post (finds w i) (counted_fits w.layout i (w.seat i).post (k.seats.fits i).post) r in
    let s = base_sees (w.mem Clock) ((step w i).mem Clock) base post (finds w i) (clock_next w i k.eras).rises (base_plain_of w.layout.config base (w.seat i).post.span r.fits (k.losses.spans i)) (clock_of_step w i why base e) in
    run_sees w i v l z (base_seen base (span_seen (w.mem Clock) (w.seat i).post.span)) (w.mem Clock) ((step w i).mem Clock) why (offered w i).desk t.post t.told t.outcome k m.post m.phase s
phase_sees w i v l z k (Scans later at) e b =
    let span : Option Interval = (w.seat i).post.span in
    left_sees w.layout i (span_seen (w.mem Clock) span) (w.mem Clock) ((step w i).mem Clock) span (scan.scan_turn later at (counted (w.seat i).post) (offered w i).desk (finds w i))
    (scan_left (seen_grows w.layout i span k.valid) later at (counted (w.seat i).post) (offered w i).desk (finds w i) (post_is w i k.seats)) (span_sees (w.mem Clock) ((step w i).mem Clock) span (clock_next w i k.eras).rises)
phase_sees w i v l z k (Works work) e b =
    let post : Post = counted (w.seat i).post in
    let span : Option Interval = (bared work post).span in
    let f = work_counted work (w.seat i).post (subst (λ (p : Phase). PhaseFits w.layout (w.seat i).post p) e (k.seats.fits i).phase) in
    let q : PostIs w.layout i span (bared work post) = record { fits = bared_fits w.layout i work post (counted_fits w.layout i (w.seat i).post (k.seats.fits i).post); same = refl } in
    left_sees w.layout i (span_seen (w.mem Clock) (w.seat i).post.span) (w.mem Clock) ((step w i).mem Clock) span (steps.work_turn work post (offered w i).desk (finds w i))
    (work_left (seen_grows w.layout i span k.valid) work post (offered w i).desk (finds w i) f (stores_same post (finds w i) work) q) (bared_sees (w.mem Clock) ((step w i).mem Clock) work post (clock_next w i k.eras).rises)

-- so it is with each step
pub step_sees : (w : World) (i : ℕ) (v : View) (l : Line) (z : Asked) → Known w v l z → is_busy w i ≡ true → Sees (seen_at w i) (w.mem Clock) (seen_at (step w i) i)
step_sees w i v l z k b =
    let t : CallTurn = steps.phase_turn (w.seat i).phase (counted (w.seat i).post) (offered w i).desk (finds w i) in
    let s = phase_sees w i v l z k (w.seat i).phase refl b in
    subst (λ (p : Phase). Sees (seen_at w i) (w.mem Clock) (phase_seen p (span_seen ((step w i).mem Clock) ((step w i).seat i).post.span))) (sym (stepped_phase w i))
    (subst (λ (p : Post). Sees (seen_at w i) (w.mem Clock) (phase_seen (stands_at t.outcome) (span_seen ((step w i).mem Clock) p.span))) (sym (stepped_post w i)) s)
