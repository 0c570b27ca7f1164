-- The count of a protection's steps, from the start on and over every step.
use Rattle.std.proofs.Common.{ℕ, ◌≡◌, ◌≤◌, ◌+◌, ◌*◌, Bool, true, false, [], ◌∷◌, arith, refl, sym, ap, subst, ◌∙◌}
use Rattle.std.proofs.lemmas.Bool.Decides.{nat_tests}
use Rattle.std.specs.Prelude.{◌==◌, Option, Some, None}
use Rattle.inv_rows.specs.words.Place.{is_valid}
use Rattle.inv_rows.specs.words.Packed.{read_reservation, reservation_word}
use Rattle.inv_rows.specs.words.declared.config.Config.{Config}
use Rattle.inv_rows.specs.words.declared.config.SchemeKind.{SchemeKind}
use Rattle.inv_rows.specs.words.declared.config.SchemeKind.TheVariants.{He, Hp, Ibr, Wfe}
use Rattle.inv_rows.specs.words.declared.layout.Layout.{Layout}
use Rattle.inv_rows.specs.defs.declared.call.Call.{Call}
use Rattle.inv_rows.specs.defs.declared.call.ClockMove.TheVariants as moves
use Rattle.inv_rows.specs.defs.declared.event.Event.TheVariants as events
use Rattle.inv_rows.specs.model.declared.ends.FollowEnd.TheVariants as follow_ends
use Rattle.inv_rows.specs.model.declared.post.Post.{Post}
use Rattle.inv_rows.specs.model.Allocate.{is_claimed, walking, walk_past, next_slot}
use Rattle.inv_rows.specs.model.Memory.{bump}
use Rattle.inv_rows.specs.model.MoveClock.{moving, next_request, after_hand_over}
use Rattle.inv_rows.specs.model.Posts.{counted, with_row}
use Rattle.inv_rows.specs.model.Phases.{Tries, Endless, Failed, ProtectAt, BeginAt, AllocateAt, RetireAt, MoveAt, Walk, Base, goes, ends}
use Rattle.inv_rows.specs.model.Phases.BeginAt.{LoadLower, PublishSpan}
use Rattle.inv_rows.specs.model.Phases.AllocateAt.{LoadBirth, ClaimSlot, StoreLife}
use Rattle.inv_rows.specs.model.Phases.RetireAt.{LoadLife, LoadRetire, StoreRetired}
use Rattle.inv_rows.specs.model.Phases.MoveAt.{LoadEra, LoadRequest, ShowEra, LoadAsked, CheckEra, AnswerAsked, LoadReserved, HandOver, HideEra, HideLate, ExchangeClock}
use Rattle.inv_rows.specs.model.Phases.Base.{Begin, Protect, Reload, Clear, Finish, Release, Allocate, Write, GiveUp, Retire, Move}
use Rattle.inv_rows.specs.model.Phases.ProtectAt.{LoadClock, PublishEra, LoadLink, CheckClock, PublishRequest, LoadOwnClock, PublishHelper, LoadOwnLink, CheckOwnClock, AnswerOwn, LoadAnswer, TakeAnswer, WithdrawRequest, WithdrawHelper, LoadWithin, CheckUpper, RaiseUpper, ByHazard}
use Rattle.inv_rows.specs.model.Phases.Ending.{Done, Followed, Clocked}
use Rattle.inv_rows.specs.model.Machine.{after}
use Rattle.inv_rows.specs.model.Rest.{protect_most}
use Rattle.inv_rows.specs.model.Rounds.{scheme_of, protect_at}
use Rattle.inv_rows.specs.model.SlowPath.{asking}
use Rattle.inv_rows.specs.model.WriteRow.{last_written}
use Rattle.inv_rows.specs.model.Calls.{LoadHeld, Work, Keeping, Why, Phase, Idle, Runs, Scans, Works}
use Rattle.inv_rows.specs.model.Locals.{Local}
use Rattle.inv_rows.specs.model.World.{World, start, begin, step, finds, offered}
use Rattle.inv_rows.specs.Shapes.Frame.{StepsOn, Stores, Grows, Owes, Moves}
use Rattle.inv_rows.specs.words.Schemes.{counts_tries, publishes_rows}
use Rattle.inv_rows.proofs.words.Schemes.{counts_eras, eras_not_rows, no_counts_by_clock, no_counts_in_interval}
pub use Rattle.inv_rows.proofs.words.Schemes.{no_counts_by_clock as wfe_not_he, no_counts_in_interval as wfe_not_ibr}
use Rattle.inv_rows.specs.Shapes.Seats.{PostFits, PhaseFits, Run, Seats, protect_fits}
use Rattle.inv_rows.proofs.Shapes.Frame.{seat_stays, seat_steps, begin_stays, begin_begins, after_seated, begun_seated, moves_with}
use Rattle.inv_rows.proofs.Shapes.Shapes.{shape_grows}
use Rattle.inv_rows.proofs.Shapes.Inside.{shape_moves}
use Rattle.inv_rows.proofs.Shapes.Kept.{counted_fits, run_counted, work_counted, one_moves, begun_fits, bared_fits}
use Rattle.inv_rows.specs.Covering.Requests.Paces.{paced, reload_paced, base_paced, phase_paced, Paces, InTime}
use Rattle.inv_rows.proofs.Covering.Requests.Paces.{Any, InPace, bump_near, protect_pace}
use Rattle.inv_rows.proofs.model.Facts.{if_by}

protect_starts : (c : Config) (scheme : SchemeKind) → paced c 0 (protect_at scheme) ≡ true
protect_starts c He = refl
protect_starts c Ibr = refl
protect_starts c Wfe = refl
protect_starts c Hp = refl

-- each phase that a call comes to by anything but a step inside a machine
pace_grows : (layout : Layout) (k : ℕ) → is_valid layout ≡ true → Grows (PostFits layout k) (InPace layout.config)
pace_grows layout k v =
    let g = shape_grows layout k v in
    record {
      guarded = g.guarded;
      withdraws = g.withdraws;
      copies = g.copies;
      idle = λ post q. refl;
      begins = λ post task ibr none q. refl;
      opens = λ post task s q. protect_starts layout.config (scheme_of post);
      follows = λ post head tail s q. protect_starts layout.config (scheme_of post);
      allocates = λ post task s q. refl;
      writes = λ post task slot row s q. refl;
      clears = λ post task next n q. refl;
      clears_next = λ post next n q. refl;
      finishes = λ post task next a b q. refl;
      gives_up = λ post answer slot q. refl;
      retires = λ post answer slot q. refl;
      tidies = λ post later m q. refl;
      advances = λ post q. refl;
      clears_kept = λ post let_go n q. refl;
      releases = λ post let_go ibr none q. refl;
      scans = λ post later number b q. refl;
      gives_back = λ post later place slot q. refl;
      works = λ post work n f q. refl;
    }

begin_pace : (c : Config) (why : Why) (at : BeginAt) (post : Post) (found : ℕ) → StepsOn Any (InPace c) why (after (Begin at) post found)
begin_pace c why LoadLower post found = record { post = tt; phase = refl }
begin_pace c why (PublishSpan era) post found = record { post = tt; phase = tt }

walking_pace : (c : Config) (why : Why) (birth : ℕ) (post : Post) (walk : Option Walk) → StepsOn Any (InPace c) why (walking birth post walk)
walking_pace c why birth post None = record { post = tt; phase = tt }
walking_pace c why birth post (Some walk) = record { post = tt; phase = refl }

allocate_pace : (c : Config) (why : Why) (at : AllocateAt) (post : Post) (found : ℕ) → StepsOn Any (InPace c) why (after (Allocate at) post found)
allocate_pace c why LoadBirth post found = record { post = tt; phase = refl }
allocate_pace c why (ClaimSlot birth walk) post found =
    if_by (is_claimed found walk.slot) (walking birth post (walk_past post.layout.config.slots walk found)) (goes (record post { cursor = next_slot post.layout.config.slots walk.slot }) (events.Give walk.slot birth ∷ []) (Allocate (StoreLife birth walk.slot)))
    (StepsOn Any (InPace c) why) (λ e. walking_pace c why birth post (walk_past post.layout.config.slots walk found)) (λ e. record { post = tt; phase = refl })
allocate_pace c why (StoreLife birth slot) post found = record { post = tt; phase = tt }

retire_pace : (c : Config) (why : Why) (at : RetireAt) (post : Post) (found : ℕ) → StepsOn Any (InPace c) why (after (Retire at) post found)
retire_pace c why (LoadLife slot) post found = record { post = tt; phase = refl }
retire_pace c why (LoadRetire slot birth) post found = record { post = tt; phase = refl }
retire_pace c why (StoreRetired slot birth retire) post found = record { post = tt; phase = tt }

hand_pace : (c : Config) (why : Why) (e k t j old : ℕ) (post : Post) (b : Bool) → StepsOn Any (InPace c) why (after_hand_over e k t j old post b)
hand_pace c why e k t j old post true = record { post = tt; phase = refl }
hand_pace c why e k t j old post false = record { post = tt; phase = refl }

move_pace : (c : Config) (why : Why) (at : MoveAt) (post : Post) (found : ℕ) → StepsOn Any (InPace c) why (after (Move at) post found)
move_pace c why (LoadEra helps) post found =
    if_by (found == post.layout.config.last_era) (ends post [] (Clocked (moves.EraSpent found))) (goes post [] (Move (moving helps found)))
    (StepsOn Any (InPace c) why) (λ e. record { post = tt; phase = tt }) (λ e. record { post = tt; phase = refl })
move_pace c why (LoadRequest e k shown) post found = record { post = tt; phase = refl }
move_pace c why (ShowEra e k t j root) post found = record { post = tt; phase = refl }
move_pace c why (LoadAsked e k t j root) post found = record { post = tt; phase = refl }
move_pace c why (CheckEra e k t j root link) post found =
    if_by (found == e) (goes post [] (Move (AnswerAsked e k t j root link))) (goes post [] (Move (HideLate found)))
    (StepsOn Any (InPace c) why) (λ h. record { post = tt; phase = refl }) (λ h. record { post = tt; phase = refl })
move_pace c why (AnswerAsked e k t j root link) post found =
    if_by (found == asking post.layout t j root) (goes post [] (Move (LoadReserved e k t j root link))) (goes post [] (Move (next_request post e k true)))
    (StepsOn Any (InPace c) why) (λ h. record { post = tt; phase = refl }) (λ h. record { post = tt; phase = refl })
move_pace c why (LoadReserved e k t j root link) post found =
    if_by ((read_reservation found).tag == t) (goes post [] (Move (HandOver e k t j root link (read_reservation found).era))) (goes post [] (Move (next_request post e k true)))
    (StepsOn Any (InPace c) why) (λ h. record { post = tt; phase = refl }) (λ h. record { post = tt; phase = refl })
move_pace c why (HandOver e k t j root link old) post found = hand_pace c why e k t j old post (found == reservation_word (record { era = old; tag = t }))
move_pace c why (HideEra e) post found = record { post = tt; phase = refl }
move_pace c why (HideLate seen) post found = record { post = tt; phase = tt }
move_pace c why (ExchangeClock e) post found =
    if_by (found == e) (ends post (events.Era (e + 1) ∷ []) (Clocked (moves.Moved (e + 1)))) (ends post [] (Clocked (moves.Other found)))
    (StepsOn Any (InPace c) why) (λ h. record { post = tt; phase = tt }) (λ h. record { post = tt; phase = tt })

-- a step inside a machine
base_pace : (layout : Layout) (why : Why) (base : Base) (post : Post) (found : ℕ) → post.layout ≡ layout → Run layout why base post → base_paced layout.config base ≡ true → StepsOn Any (InPace layout.config) why (after base post found)
base_pace layout why (Begin at) post found t r p = begin_pace layout.config why at post found
base_pace layout why (Protect aim index root steps at) post found t r p = protect_pace layout.config why aim index root steps (bump steps) at post found (ap (λ (l : Layout). l.config) t) (bump_near steps) p r.fits
base_pace layout why (Reload parent index slot era steps) post found t r p =
    if_by (found == parent + 1) (ends (with_row post index slot) (events.Held index slot (bump steps) ∷ []) (Followed (follow_ends.Followed slot))) (ends post [] (Followed (follow_ends.RootMoved found)))
    (StepsOn Any (InPace layout.config) why) (λ h. record { post = tt; phase = tt }) (λ h. record { post = tt; phase = tt })
base_pace layout why (Clear rows index) post found t r p = record { post = tt; phase = tt }
base_pace layout why Finish post found t r p = record { post = tt; phase = tt }
base_pace layout why (Release index) post found t r p = record { post = tt; phase = tt }
base_pace layout why (Allocate at) post found t r p = allocate_pace layout.config why at post found
base_pace layout why (Write slot row place) post found t r p =
    if_by (place == last_written row) (ends post [] Done) (goes post [] (Write slot row (place + 1)))
    (StepsOn Any (InPace layout.config) why) (λ h. record { post = tt; phase = tt }) (λ h. record { post = tt; phase = refl })
base_pace layout why (GiveUp slot) post found t r p = record { post = tt; phase = tt }
base_pace layout why (Retire at) post found t r p = retire_pace layout.config why at post found
base_pace layout why (Move at) post found t r p = move_pace layout.config why at post found

run_paced : (layout : Layout) (k : ℕ) → is_valid layout ≡ true → (why : Why) (base : Base) (post : Post) (found : ℕ) → PostFits layout k post → Run layout why base post → base_paced layout.config base ≡ true → Moves (PostFits layout k) (InPace layout.config) why (after base post found)
run_paced layout k v why base post found q r p =
    let m = shape_moves layout k v why base post found q r in
    let s = base_pace layout why base post found q.layout r p in
    moves_with why (after base post found) m (record { post = m.post; phase = s.phase })

stores_pace : (c : Config) (post : Post) (found : ℕ) (work : Work) → Stores (InPace c) post found work
stores_pace c post found (Keeping (LoadHeld from index)) = λ n. refl
stores_pace c post found work = tt

owed : (layout : Layout) (k : ℕ) → is_valid layout ≡ true → (phase : Phase) (post : Post) (found : ℕ) → PostFits layout k post → PhaseFits layout post phase → phase_paced layout.config phase ≡ true → Owes (PostFits layout k) (InPace layout.config) (counted post) found phase
owed layout k v Idle post found q f p = counted_fits layout k post q
owed layout k v (Runs why base) post found q f p = run_paced layout k v why base (counted post) found (counted_fits layout k post q) (run_counted layout why base post f) p
owed layout k v (Scans later at) post found q f p = counted_fits layout k post q
owed layout k v (Works work) post found q f p =
    record { post = bared_fits layout k work (counted post) (counted_fits layout k post q); fits = work_counted work post f; stores = stores_pace layout.config (counted post) found work }

seat_paced : (w : World) (i : ℕ) → is_valid w.layout ≡ true → Seats w → Paces w → phase_paced w.layout.config ((step w i).seat i).phase ≡ true
seat_paced w i v s p =
    let a = s.fits i in
    let h = after_seated (pace_grows w.layout i v) (offered w i) (finds w i) (owed w.layout i v (w.seat i).phase (w.seat i).post (finds w i) a.post a.phase (p.paced i)) in
    subst (λ (l : Local). phase_paced w.layout.config l.phase ≡ true) (sym (seat_steps w i)) h.phase

pub paces_step : (w : World) (i : ℕ) → is_valid w.layout ≡ true → Seats w → Paces w → Paces (step w i)
paces_step w i v s p = record {
  paced = λ k. one_moves (λ (n : ℕ) (l : Local). phase_paced w.layout.config l.phase ≡ true) w.seat (step w i).seat i p.paced (seat_stays w i) (seat_paced w i v s p) k;
}

pub paces_begin : (w : World) (i : ℕ) (call : Call) → is_valid w.layout ≡ true → Seats w → Paces w → Paces (begin w i call)
paces_begin w i call v s p =
    let a = s.fits i in
    let h = begun_seated (pace_grows w.layout i v) (w.seat i) call (begun_fits w.layout i (w.seat i).post a.post) in
    record {
      paced = λ k. one_moves (λ (n : ℕ) (l : Local). phase_paced w.layout.config l.phase ≡ true) w.seat (begin w i call).seat i p.paced (λ n e. begin_stays w i n call e) (subst (λ (l : Local). phase_paced w.layout.config l.phase ≡ true) (sym (begin_begins w i call)) h.phase) k;
    }

pub paces_start : (layout : Layout) → Paces (start layout)
paces_start layout = record { paced = λ k. refl }

no_counts_in_rows : (scheme : SchemeKind) → counts_tries scheme ≡ true → publishes_rows scheme ≡ true → ⊥
no_counts_in_rows scheme h r = let e = eras_not_rows scheme (counts_eras scheme h) in cc

-- a protection's next step is no later than its last
pub protects_in_time : (c : Config) (steps : ℕ) (at : ProtectAt) → paced c steps at ≡ true → counts_tries c.scheme ≡ true → protect_fits c.scheme c.tries at ≡ true → steps + 1 ≤ protect_most c
protects_in_time c steps (LoadClock Endless) p w f = absurd (no_counts_by_clock c.scheme w f)
protects_in_time c steps (LoadClock (Failed count)) p w f = grind (arith, nat_tests)
protects_in_time c steps (PublishEra era Endless) p w f = absurd (no_counts_by_clock c.scheme w f)
protects_in_time c steps (PublishEra era (Failed count)) p w f = grind (arith, nat_tests)
protects_in_time c steps (LoadLink era Endless) p w f = absurd (no_counts_by_clock c.scheme w f)
protects_in_time c steps (LoadLink era (Failed count)) p w f = grind (arith, nat_tests)
protects_in_time c steps (CheckClock era Endless link) p w f = absurd (no_counts_by_clock c.scheme w f)
protects_in_time c steps (CheckClock era (Failed count) link) p w f = grind (arith, nat_tests)
protects_in_time c steps PublishRequest p w f = grind (arith, nat_tests)
protects_in_time c steps LoadOwnClock p w f = grind (arith, nat_tests)
protects_in_time c steps (PublishHelper first era true) p w f = grind (arith, nat_tests)
protects_in_time c steps (PublishHelper first era false) p w f = grind (arith, nat_tests)
protects_in_time c steps (LoadOwnLink first era true) p w f = grind (arith, nat_tests)
protects_in_time c steps (LoadOwnLink first era false) p w f = grind (arith, nat_tests)
protects_in_time c steps (CheckOwnClock first era true link) p w f = grind (arith, nat_tests)
protects_in_time c steps (CheckOwnClock first era false link) p w f = grind (arith, nat_tests)
protects_in_time c steps (AnswerOwn first era link) p w f = grind (arith, nat_tests)
protects_in_time c steps (LoadAnswer first) p w f = grind (arith, nat_tests)
protects_in_time c steps (TakeAnswer link era) p w f = grind (arith, nat_tests)
protects_in_time c steps (WithdrawRequest link era) p w f = grind (arith, nat_tests)
protects_in_time c steps (WithdrawHelper link era) p w f = grind (arith, nat_tests)
protects_in_time c steps LoadWithin p w f = absurd (no_counts_in_interval c.scheme w f)
protects_in_time c steps (CheckUpper link) p w f = absurd (no_counts_in_interval c.scheme w f)
protects_in_time c steps (RaiseUpper era) p w f = absurd (no_counts_in_interval c.scheme w f)
protects_in_time c steps (ByHazard at) p w f = absurd (no_counts_in_rows c.scheme w f)

pub reloads_in_time : (c : Config) (parent index slot era steps : ℕ) → base_paced c (Reload parent index slot era steps) ≡ true → counts_tries c.scheme ≡ true → steps ≤ protect_most c
reloads_in_time c parent index slot era steps p w = reload_in_time (counts_tries c.scheme) p w
  where
    reload_in_time : (b : Bool) → reload_paced c steps b ≡ true → b ≡ true → steps ≤ protect_most c
    reload_in_time true p w = grind (arith, nat_tests)
    reload_in_time false p w = absurd (cc)

tried_in_time : (c : Config) (steps era : ℕ) (tries : Tries) (link : ℕ) → paced c steps (CheckClock era tries link) ≡ true → counts_tries c.scheme ≡ true → protect_fits c.scheme c.tries (CheckClock era tries link) ≡ true → steps + 1 ≤ 3 * c.tries + 1
tried_in_time c steps era Endless link p w f = absurd (no_counts_by_clock c.scheme w f)
tried_in_time c steps era (Failed count) link p w f = grind (arith, nat_tests)

taken_in_time : (c : Config) (steps link era : ℕ) → paced c steps (TakeAnswer link era) ≡ true → steps + 1 ≤ 3 * c.tries + 12
taken_in_time c steps link era p = grind (arith, nat_tests)

pub in_time : (w : World) (k : ℕ) → Seats w → Paces w → InTime w k
in_time w k s p = record {
  protects = λ why aim index root steps at h q.
      let x : paced w.layout.config steps at ≡ true = sym (ap (phase_paced w.layout.config) q) ∙ p.paced k in
      let f = subst (PhaseFits w.layout (w.seat k).post) q (s.fits k).phase in
      protects_in_time w.layout.config steps at x h f.fits;
  tries = λ why aim index root steps era tries link h q.
      let x : paced w.layout.config steps (CheckClock era tries link) ≡ true = sym (ap (phase_paced w.layout.config) q) ∙ p.paced k in
      let f = subst (PhaseFits w.layout (w.seat k).post) q (s.fits k).phase in
      tried_in_time w.layout.config steps era tries link x h f.fits;
  takes = λ why aim index root steps link era q. taken_in_time w.layout.config steps link era (sym (ap (phase_paced w.layout.config) q) ∙ p.paced k);
  reloads = λ why parent index slot era steps h q.
      let x : base_paced w.layout.config (Reload parent index slot era steps) ≡ true = sym (ap (phase_paced w.layout.config) q) ∙ p.paced k in
      let n = reloads_in_time w.layout.config parent index slot era steps x h in omega arith;
}
