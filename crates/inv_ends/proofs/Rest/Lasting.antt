-- No call loses more rounds than its task may: from the start on, where a call begins, and over each step.
use Rattle.inv_rows.specs.model.Keep as keeps
use Rattle.std.proofs.Common.{ℕ, ◌∙◌, ◌≡◌, ◌+◌, ◌-◌, true, false, [], ◌∷◌, arith, refl, sym, ap, subst}
use Rattle.inv_rows.specs.model.Steps as steps
use Rattle.inv_rows.specs.model.Machine as machine
use Rattle.inv_rows.specs.words.Place.{is_valid}
use Rattle.inv_rows.specs.model.Phases.Base.{Move, Allocate, Begin, Clear, Finish, GiveUp, Protect, Release, Reload, Retire, Write}
use Rattle.inv_rows.proofs.Shapes.Works.{scan_left as scan_grows, work_left as work_grows, resume_left}
use Rattle.inv_rows.specs.defs.declared.event.Event.TheVariants as events
use Rattle.inv_rows.specs.defs.declared.fold.Change.TheVariants as changes
use Rattle.inv_rows.specs.defs.declared.call.Call.TheVariants as names
use Rattle.inv_rows.specs.model.declared.ends.FollowEnd.TheVariants as follow_ends
use Rattle.inv_rows.specs.model.Allocate.{is_claimed, next_slot, walk_past, walking}
use Rattle.inv_rows.specs.model.Calls.{CallOutcome, CallTurn, LetGo, Phase, Why, Work}
use Rattle.inv_rows.specs.model.Calls.CallOutcome.{Answers, GoesOn}
use Rattle.inv_rows.specs.model.Calls.ChangeAt.{ExchangeRoot, LoadCount, LoadKey, LoadValue, LoadVersion}
use Rattle.inv_rows.specs.model.Calls.DequeueAt.{ExchangeHead, LoadTail, SwingTail, TakeNumber, TakeValue}
use Rattle.inv_rows.specs.model.Calls.EnqueueAt.{ExchangeNext, ExchangeTail, LoadNext, LoadNumber, PassTail}
use Rattle.inv_rows.specs.model.Calls.LetGo.{Dropped, Rehold, Released}
use Rattle.inv_rows.specs.model.Calls.Phase.{Idle, Runs, Scans, Works}
use Rattle.inv_rows.specs.model.Calls.Task.{Dequeues, Enqueues, Gets, Holds}
use Rattle.inv_rows.specs.model.Calls.Work.{Changing, Dequeuing, Enqueuing, Getting, Keeping}
use Rattle.inv_rows.specs.model.Desks.{Desk}
use Rattle.inv_rows.specs.model.Links.{parent_of}
use Rattle.inv_rows.specs.model.Locals.{Local, begun_post, settled, turn}
use Rattle.inv_rows.specs.model.Machine.{protect_turn}
use Rattle.inv_rows.specs.model.Memory.{bump}
use Rattle.inv_rows.specs.model.Phases.{Aim, Base, Outcome, ProtectAt, Turn, Walk, ends, goes}
use Rattle.inv_rows.specs.model.Phases.Aim.{Alone, Follows}
use Rattle.inv_rows.specs.model.Phases.AllocateAt.{ClaimSlot, LoadBirth, StoreLife}
use Rattle.inv_rows.specs.model.Phases.Ending.{Done, Followed}
use Rattle.inv_rows.specs.model.Phases.Outcome.{Ends, Goes}
use Rattle.inv_rows.specs.model.Phases.ProtectAt.{AnswerOwn, ByHazard, CheckClock, CheckOwnClock, CheckUpper, LoadAnswer, LoadClock, LoadLink, LoadOwnClock, LoadOwnLink, LoadWithin, PublishEra, PublishHelper, PublishRequest, RaiseUpper, TakeAnswer, WithdrawHelper, WithdrawRequest}
use Rattle.inv_rows.specs.model.Phases.HazardAt.{CheckLink, FirstLink, PublishLink}
use Rattle.inv_rows.specs.model.Phases.RetireAt.{LoadLife, LoadRetire, StoreRetired}
use Rattle.inv_rows.specs.model.Posts.{counted, reserves_helper, stands, tag_of, with_row, with_tag}
use Rattle.inv_rows.specs.model.Protect.{concluded, failed_once, held_post, protected, told_held}
use Rattle.inv_rows.specs.model.SlowPath.{answer_in, lost_turn, own_request}
use Rattle.inv_rows.specs.model.Rounds.{let_index, letting, letting_by, release_base, scheme_of}
use Rattle.inv_rows.specs.model.Steps.{resumed}
use Rattle.inv_rows.specs.model.World.{World, begin, finds, offered, step}
use Rattle.inv_rows.specs.model.WriteRow.{last_written}
use Rattle.inv_rows.specs.model.declared.post.Post.{Post}
use Rattle.inv_rows.specs.defs.declared.call.Call.{Call}
use Rattle.inv_rows.specs.defs.declared.event.Event.{Event}
use Rattle.inv_rows.specs.defs.declared.event.Root.{Root}
use Rattle.inv_rows.proofs.Shapes.Frame.{begin_begins, begin_stays, seat_stays, seat_steps}
use Rattle.inv_rows.proofs.Shapes.Inside.{shape_moves}
use Rattle.inv_rows.proofs.Shapes.Kept.{counted_fits, run_counted, work_counted, one_moves, bared_fits}
use Rattle.inv_rows.specs.Shapes.Frame.{Passed, WorkFits, bared}
use Rattle.inv_rows.specs.words.Schemes.{has_one_interval, publishes_rows}
use Rattle.inv_rows.specs.Shapes.Seats.{PhaseFits, PostFits, Run, Seats, base_fits, protect_fits}
use Rattle.inv_ends.proofs.Rest.Closings.{rounds_join}
use Rattle.inv_ends.proofs.Rest.Fits.{TurnFit, hold_opens, round_fit, scan_fit, parts_fit}
use Rattle.inv_ends.proofs.Rest.Kept.{post_is, seat_of, turn_rows}
use Rattle.inv_ends.proofs.Rest.Loses.{run_fits}
use Rattle.inv_ends.proofs.Rest.Machines.{held_span}
use Rattle.inv_ends.proofs.Rest.Moves.{move_post}
use Rattle.inv_ends.proofs.Rest.Own.{WorkFew, work_turn_fit}
use Rattle.inv_ends.proofs.Rest.Seen.{seen_grows, stores_same, PostIs}
use Rattle.inv_ends.specs.Falls.{LossesBegin, LossesKept, LossesStart, RestNeeds}
use Rattle.inv_ends.specs.Losses.{LossNeeds, Losses, phase_fit}
use Rattle.inv_rows.specs.words.Packed.{read_request}
use Rattle.inv_rows.specs.words.declared.config.Config.{Config}
use Rattle.inv_rows.specs.words.declared.config.SchemeKind.{SchemeKind}
use Rattle.inv_rows.specs.words.declared.layout.Layout.{Layout}
use Rattle.std.specs.Prelude.{List, Option, Some, None, ◌==◌, ◌||◌}
use Rattle.inv_rows.proofs.model.Facts.{if_by, no_truth}
use Rattle.inv_rows.specs.defs.declared.lifetime.Interval.{Interval}
use Rattle.inv_rows.specs.model.Calls.KeepAt.{HideSpan}

-- a step but of 2GE keeps the seat's interval

concluded_span : (aim : Aim) (index : ℕ) (root : Root) (n link era : ℕ) (post : Post) (told : List Event) → (concluded aim index root n link era post told).post.span ≡ post.span
concluded_span Alone index root n link era post told = refl
concluded_span Follows index root n link era post told = if_by (link == 0) (ends post told (Followed follow_ends.NoNext)) (goes post told (Reload (parent_of root) index (link - 1) era n)) (λ (t : Turn). t.post.span ≡ post.span) (λ e. refl) (λ e. refl)

protected_span : (aim : Aim) (index : ℕ) (root : Root) (n link era : ℕ) (post : Post) → (protected aim index root n link era post).post.span ≡ post.span
protected_span aim index root n link era post = concluded_span aim index root n link era (held_post post index root link) (told_held index root link n) ∙ held_span post index root link

protect_span : (scheme : SchemeKind) (most : ℕ) (aim : Aim) (index : ℕ) (root : Root) (n : ℕ) (at : ProtectAt) (post : Post) (found : ℕ) → has_one_interval scheme ≡ false → protect_fits scheme most at ≡ true → (protect_turn aim index root n at post found).post.span ≡ post.span
protect_span scheme most aim index root n (LoadClock tries) post found b f = refl
protect_span scheme most aim index root n (PublishEra era tries) post found b f = refl
protect_span scheme most aim index root n (LoadLink era tries) post found b f = refl
protect_span scheme most aim index root n (CheckClock era tries link) post found b f =
    if_by (found == era) (protected aim index root n link era post) (goes post [] (Protect aim index root n (PublishEra found (failed_once tries)))) (λ (t : Turn). t.post.span ≡ post.span) (λ e. protected_span aim index root n link era post) (λ e. refl)
protect_span scheme most aim index root n PublishRequest post found b f = refl
protect_span scheme most aim index root n LoadOwnClock post found b f = refl
protect_span scheme most aim index root n (PublishHelper first era last) post found b f = refl
protect_span scheme most aim index root n (LoadOwnLink first era last) post found b f = refl
protect_span scheme most aim index root n (CheckOwnClock first era last link) post found b f =
    if_by (found == era) (goes post [] (Protect aim index root n (AnswerOwn first era link))) (goes post [] (Protect aim index root n (lost_turn first last found))) (λ (t : Turn). t.post.span ≡ post.span) (λ e. refl) (λ e. refl)
protect_span scheme most aim index root n (AnswerOwn first era link) post found b f =
    if_by (found == own_request post index root) (goes post [] (Protect aim index root n (TakeAnswer link era))) (goes post [] (Protect aim index root n (answer_in (read_request found)))) (λ (t : Turn). t.post.span ≡ post.span) (λ e. refl) (λ e. refl)
protect_span scheme most aim index root n (LoadAnswer first) post found b f = refl
protect_span scheme most aim index root n (TakeAnswer link era) post found b f = held_span (with_tag post index (tag_of post index + 1)) index root link
protect_span scheme most aim index root n (WithdrawRequest link era) post found b f = refl
protect_span scheme most aim index root n (WithdrawHelper link era) post found b f = concluded_span aim index root n link era post (reserves_helper post 0)
protect_span scheme most aim index root n LoadWithin post found b f = refl
protect_span scheme most aim index root n (CheckUpper link) post found b f = absurd (no_truth (sym b ∙ f))
protect_span scheme most aim index root n (RaiseUpper era) post found b f = absurd (no_truth (sym b ∙ f))
protect_span scheme most aim index root n (ByHazard FirstLink) post found b f =
    if_by (found == 0) (protected aim index root n found 0 post) (goes post [] (Protect aim index root n (ByHazard (PublishLink found)))) (λ (t : Turn). t.post.span ≡ post.span) (λ e. protected_span aim index root n found 0 post) (λ e. refl)
protect_span scheme most aim index root n (ByHazard (PublishLink link)) post found b f = refl
protect_span scheme most aim index root n (ByHazard (CheckLink link)) post found b f =
    if_by (found == link || found == 0) (protected aim index root n found 0 post) (goes post [] (Protect aim index root n (ByHazard (PublishLink found)))) (λ (t : Turn). t.post.span ≡ post.span) (λ e. protected_span aim index root n found 0 post) (λ e. refl)

walking_span : (birth : ℕ) (post : Post) (walk : Option Walk) → (walking birth post walk).post.span ≡ post.span
walking_span birth post None = refl
walking_span birth post (Some walk) = refl

base_span : (c : Config) (base : Base) (post : Post) (found : ℕ) → has_one_interval c.scheme ≡ false → base_fits c base ≡ true → (machine.after base post found).post.span ≡ post.span
base_span c (Begin at) post found b f = absurd (no_truth (sym b ∙ f))
base_span c (Protect aim index root steps at) post found b f = protect_span c.scheme c.tries aim index root (bump steps) at post found b f
base_span c (Reload parent index slot era steps) post found b f =
    if_by (found == parent + 1) (ends (with_row post index slot) (events.Held index slot (bump steps) ∷ []) (Followed (follow_ends.Followed slot))) (ends post [] (Followed (follow_ends.RootMoved found))) (λ (t : Turn). t.post.span ≡ post.span) (λ e. refl) (λ e. refl)
base_span c (Clear rows index) post found b f = refl
base_span c Finish post found b f = absurd (no_truth (sym b ∙ f))
base_span c (Release index) post found b f = absurd (no_truth (sym b ∙ f))
base_span c (Allocate LoadBirth) post found b f = refl
base_span c (Allocate (ClaimSlot birth walk)) post found b f =
    if_by (is_claimed found walk.slot) (walking birth post (walk_past post.layout.config.slots walk found)) (goes (record post { cursor = next_slot post.layout.config.slots walk.slot }) (events.Give walk.slot birth ∷ []) (Allocate (StoreLife birth walk.slot)))
    (λ (t : Turn). t.post.span ≡ post.span) (λ e. walking_span birth post (walk_past post.layout.config.slots walk found)) (λ e. refl)
base_span c (Allocate (StoreLife birth slot)) post found b f = refl
base_span c (Write slot row place) post found b f = if_by (place == last_written row) (ends post [] Done) (goes post [] (Write slot row (place + 1))) (λ (t : Turn). t.post.span ≡ post.span) (λ e. refl) (λ e. refl)
base_span c (GiveUp slot) post found b f = refl
base_span c (Retire (LoadLife slot)) post found b f = refl
base_span c (Retire (LoadRetire slot birth)) post found b f = refl
base_span c (Retire (StoreRetired slot birth retire)) post found b f = refl
base_span c (Move at) post found b f = ap (λ (p : Post). p.span) (move_post at post found)

resumed_span : (layout : Layout) (k : ℕ) → is_valid layout ≡ true → (why : Why) (desk : Desk) (post : Post) (told : List Event) (outcome : Outcome) → PostFits layout k post → Passed (PhaseFits layout) why post outcome → (resumed why desk post told outcome).post.span ≡ post.span
resumed_span layout k v why desk post told (Goes base) q p = refl
resumed_span layout k v why desk post told (Ends ending) q p = (resume_left (seen_grows layout k post.span v) why ending post desk told p (record { fits = q; same = refl })).post.same

bared_span : (work : Work) (post : Post) → has_one_interval (scheme_of post) ≡ false → WorkFits post work → (bared work post).span ≡ post.span
bared_span (Keeping HideSpan) post b f = absurd (no_truth (sym b ∙ f.interval))
bared_span work post b f = refl

turn_span : (w : World) (i : ℕ) → is_valid w.layout ≡ true → Seats w → has_one_interval w.layout.config.scheme ≡ false → (phase : Phase) → (w.seat i).phase ≡ phase → (steps.phase_turn phase (counted (w.seat i).post) (offered w i).desk (finds w i)).post.span ≡ (w.seat i).post.span
turn_span w i v s b Idle e = refl
turn_span w i v s b (Runs why base) e =
    let f = s.fits i in
    let r : Run w.layout why base (w.seat i).post = subst (λ (p : Phase). PhaseFits w.layout (w.seat i).post p) e f.phase in
    let m = shape_moves w.layout i v why base (counted (w.seat i).post) (finds w i) (counted_fits w.layout i (w.seat i).post f.post) (run_counted w.layout why base (w.seat i).post r) in
    let t : Turn = machine.after base (counted (w.seat i).post) (finds w i) in
    resumed_span w.layout i v why (offered w i).desk t.post t.told t.outcome m.post m.phase ∙ base_span w.layout.config base (counted (w.seat i).post) (finds w i) b r.fits
turn_span w i v s b (Scans later at) e = (scan_grows (seen_grows w.layout i (w.seat i).post.span v) later at (counted (w.seat i).post) (offered w i).desk (finds w i) (post_is w i s)).post.same
turn_span w i v s b (Works work) e =
    let f = work_counted work (w.seat i).post (subst (λ (q : Phase). PhaseFits w.layout (w.seat i).post q) e (s.fits i).phase) in
    let post : Post = counted (w.seat i).post in
    let p = counted_fits w.layout i (w.seat i).post (s.fits i).post in
    let span : Option Interval = (bared work post).span in
    let q : PostIs w.layout i span (bared work post) = record { fits = bared_fits w.layout i work post p; same = refl } in
    (work_grows (seen_grows w.layout i span v) work post (offered w i).desk (finds w i) f (stores_same post (finds w i) work) q).post.same ∙ bared_span work post (ap (λ (l : Layout). has_one_interval l.config.scheme) p.layout ∙ b) f

settled_span : (l : Local) (post : Post) (desk : Desk) (told : List Event) (outcome : CallOutcome) → (settled l (record { post = post; desk = desk; told = told; outcome = outcome })).post.span ≡ post.span
settled_span l post desk told (GoesOn phase) = refl
settled_span l post desk told (Answers answer) = refl

settled_fit : (c : Config) (l : Local) (post : Post) (desk : Desk) (told : List Event) (outcome : CallOutcome) → TurnFit c l.rounds (record { post = post; desk = desk; told = told; outcome = outcome })
    → publishes_rows (scheme_of post) ≡ publishes_rows c.scheme → phase_fit c (settled l (record { post = post; desk = desk; told = told; outcome = outcome })).rounds (settled l (record { post = post; desk = desk; told = told; outcome = outcome })).phase
settled_fit c l post desk told (GoesOn phase) f t = rw (t, rounds_join (publishes_rows c.scheme) l.rounds told []) f
settled_fit c l post desk told (Answers answer) f t = tt

-- what a step of a call's own needs where its round is lost
work_few : (w : World) (i : ℕ) (work : Work) → LossNeeds w i → (w.seat i).phase ≡ Works work → WorkFew w.layout.config (w.seat i).rounds work (finds w i)
work_few w i (Getting key at) n e = tt
work_few w i (Changing kept (LoadVersion slot)) n e = tt
work_few w i (Changing kept (LoadCount slot)) n e = tt
work_few w i (Changing kept (LoadKey slot count)) n e = tt
work_few w i (Changing kept (LoadValue slot count key)) n e = tt
work_few w i (Changing kept (ExchangeRoot slot)) n e = n.changes kept slot e
work_few w i (Enqueuing kept LoadNumber) n e = tt
work_few w i (Enqueuing kept LoadNext) n e = tt
work_few w i (Enqueuing kept (PassTail next)) n e = n.passes kept next e
work_few w i (Enqueuing kept (ExchangeNext slot)) n e = n.enqueues kept slot e
work_few w i (Enqueuing kept (ExchangeTail slot)) n e = tt
work_few w i (Dequeuing (LoadTail head)) n e = tt
work_few w i (Dequeuing (SwingTail head next)) n e = n.swings head next e
work_few w i (Dequeuing (TakeNumber head next)) n e = tt
work_few w i (Dequeuing (TakeValue head next number)) n e = tt
work_few w i (Dequeuing (ExchangeHead head next number value)) n e = n.dequeues head next number value e
work_few w i (Keeping at) n e = tt

turn_fits : (w : World) (i : ℕ) → is_valid w.layout ≡ true → RestNeeds w i → LossNeeds w i → (phase : Phase) → (w.seat i).phase ≡ phase → TurnFit w.layout.config (w.seat i).rounds (steps.phase_turn phase (counted (w.seat i).post) (offered w i).desk (finds w i))
turn_fits w i v n l Idle e = tt
turn_fits w i v n l (Runs why base) e = run_fits w i why base (seat_of w i v n why base e) l
turn_fits w i v n l (Scans later at) e = scan_fit w.layout.config (w.seat i).rounds later at (counted (w.seat i).post) (offered w i).desk (finds w i) (subst (λ (q : Phase). phase_fit w.layout.config (w.seat i).rounds q) e (n.losses.few i))
turn_fits w i v n l (Works work) e = work_turn_fit w.layout.config (w.seat i).rounds work (counted (w.seat i).post) (offered w i).desk (finds w i) (subst (λ (q : Phase). phase_fit w.layout.config (w.seat i).rounds q) e (n.losses.few i)) (work_few w i work l e)

own_few : (w : World) (i : ℕ) → is_valid w.layout ≡ true → RestNeeds w i → LossNeeds w i → phase_fit w.layout.config ((step w i).seat i).rounds ((step w i).seat i).phase
own_few w i v n l =
    let t : CallTurn = turn (offered w i) (finds w i) in
    let f = settled_fit w.layout.config (offered w i) t.post t.desk t.told t.outcome (turn_fits w i v n l (w.seat i).phase refl) (turn_rows w i v n.seats) in
    subst (λ (s : Local). phase_fit w.layout.config s.rounds s.phase) (sym (seat_steps w i)) f

own_span : (w : World) (i : ℕ) → is_valid w.layout ≡ true → Seats w → Losses w → has_one_interval w.layout.config.scheme ≡ false → ((step w i).seat i).post.span ≡ None
own_span w i v s l b =
    let t : CallTurn = turn (offered w i) (finds w i) in
    ap (λ (s : Local). s.post.span) (seat_steps w i) ∙ settled_span (offered w i) t.post t.desk t.told t.outcome ∙ turn_span w i v s b (w.seat i).phase refl ∙ l.spans i b

pub losses_kept : LossesKept
losses_kept w i v n l = record {
  few = λ k. one_moves (λ (m : ℕ) (s : Local). phase_fit w.layout.config s.rounds s.phase) w.seat (step w i).seat i n.losses.few (seat_stays w i) (own_few w i v n l) k;
  spans = λ k b. one_moves (λ (m : ℕ) (s : Local). s.post.span ≡ None) w.seat (step w i).seat i (λ m. n.losses.spans m b) (seat_stays w i) (own_span w i v n.seats n.losses b) k;
}

-- a call begins

letting_by_fit : (c : Config) (let_go : LetGo) (base : Option Base) → phase_fit c 0 (letting_by let_go base)
letting_by_fit c let_go (Some base) = refl
letting_by_fit c let_go None = refl

letting_fit : (c : Config) (let_go : LetGo) (post : Post) → phase_fit c 0 (letting let_go post)
letting_fit c let_go post = letting_by_fit c let_go (release_base (scheme_of post) post (let_index let_go))

holding_fit : (c : Config) (key : ℕ) (post : Post) (stood : Option ℕ) → phase_fit c 0 (steps.holding key post stood)
holding_fit c key post None = round_fit c 0 (Holds key) post (hold_opens c 0 key refl)
holding_fit c key post (Some slot) = letting_fit c (Rehold key) post

copying_fit : (c : Config) (from index : ℕ) (stood : Option ℕ) → phase_fit c 0 (steps.copying from index stood)
copying_fit c from index None = refl
copying_fit c from index (Some slot) = refl

looking_fit : (c : Config) (index key : ℕ) (stood : Option ℕ) → phase_fit c 0 (steps.looking_at index key stood)
looking_fit c index key None = refl
looking_fit c index key (Some slot) = refl

leaves_span : (c : Config) (span : Option Interval) → phase_fit c 0 (keeps.parting_span span)
leaves_span c None = refl
leaves_span c (Some span) = refl

leaving_fit : (c : Config) (post : Post) → phase_fit c 0 (keeps.parting post)
leaving_fit c post = if_by (has_one_interval (scheme_of post)) (keeps.parting_span post.span) (keeps.parting_from 2 post) (λ (p : Phase). phase_fit c 0 p) (λ e. leaves_span c post.span) (λ e. parts_fit c 0 2 post refl)

first_fit : (c : Config) (call : Call) (post : Post) → phase_fit c 0 (steps.first_phase call post)
first_fit c (names.Get key) post = round_fit c 0 (Gets key) post (omega arith)
first_fit c (names.Put key value) post = round_fit c 0 (steps.changing (changes.Put key value) None) post (omega arith)
first_fit c (names.Remove key) post = round_fit c 0 (steps.changing (changes.Removed key) None) post (omega arith)
first_fit c (names.Enqueue value) post = round_fit c 0 (Enqueues (record { value = value; taken = None; walked = false; tail = 0; number = 0 })) post (omega arith)
first_fit c names.Dequeue post = round_fit c 0 Dequeues post (omega arith)
first_fit c (names.Hold key) post = holding_fit c key post (stands post 2)
first_fit c names.Release post = letting_fit c Released post
first_fit c names.Advance post = tt
first_fit c names.Scan post = tt
first_fit c (names.Copy from index) post = copying_fit c from index (stands post from)
first_fit c (names.DropIndex index) post = letting_fit c (Dropped index) post
first_fit c (names.Look index key) post = looking_fit c index key (stands post index)
first_fit c names.Leave post = leaving_fit c post
first_fit c (names.Adopt place) post = refl
first_fit c (names.PutIf key value version) post = round_fit c 0 (steps.changing (changes.Put key value) (Some version)) post (omega arith)

pub losses_begin : LossesBegin
losses_begin w i call l = record {
  few = λ k. one_moves (λ (m : ℕ) (s : Local). phase_fit w.layout.config s.rounds s.phase) w.seat (begin w i call).seat i l.few (λ m e. begin_stays w i m call e) (subst (λ (s : Local). phase_fit w.layout.config s.rounds s.phase) (sym (begin_begins w i call)) (first_fit w.layout.config call (begun_post (w.seat i).post))) k;
  spans = λ k b. one_moves (λ (m : ℕ) (s : Local). s.post.span ≡ None) w.seat (begin w i call).seat i (λ m. l.spans m b) (λ m e. begin_stays w i m call e) (ap (λ (s : Local). s.post.span) (begin_begins w i call) ∙ l.spans i b) k;
}

pub losses_start : LossesStart
losses_start layout = record { few = λ k. tt; spans = λ k b. refl }
