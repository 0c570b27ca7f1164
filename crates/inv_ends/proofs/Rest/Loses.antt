-- A machine's step has lost no more rounds than its call may.
use Rattle.std.proofs.Common.{ℕ, ◌∙◌, ◌≡◌, ◌≤◌, ◌+◌, ◌-◌, Bool, true, false, [], ◌∷◌, arith, refl, sym, subst}
use Rattle.inv_rows.specs.model.Steps as steps
use Rattle.inv_rows.specs.model.Phases.Base.{Move, Allocate, Begin, Clear, Finish, GiveUp, Protect, Release, Reload, Retire, Write}
use Rattle.inv_rows.specs.model.Memory.{bump}
use Rattle.inv_rows.specs.defs.declared.event.Event.TheVariants as events
use Rattle.inv_rows.specs.defs.declared.call.Answer.TheVariants as answers
use Rattle.inv_rows.specs.model.declared.ends.ProtectEnd.TheVariants as protect_ends
use Rattle.inv_rows.specs.model.declared.ends.FollowEnd.TheVariants as follow_ends
use Rattle.inv_rows.specs.model.declared.ends.AllocateEnd.TheVariants as allocate_ends
use Rattle.inv_rows.specs.model.Allocate.{is_claimed, next_slot, walk_past, walking}
use Rattle.inv_rows.specs.model.Calls.{AfterScan, LetGo, Next, Task, Why}
use Rattle.inv_rows.specs.model.Calls.Next.{Again, Answering, MakeRoom, Retiring}
use Rattle.inv_rows.specs.model.Calls.Task.{Changes, Dequeues, Enqueues, Gets, Holds}
use Rattle.inv_rows.specs.model.Calls.Why.{Advances, Clears, ClearsNext, Fills, Finishes, FollowsHead, GivesUp, Opens, Releases, Retires, Tidies}
use Rattle.inv_rows.specs.model.Desks.{Desk}
use Rattle.inv_rows.specs.model.Follow.{after_reload}
use Rattle.inv_rows.specs.model.Guards.{from_to}
use Rattle.inv_rows.specs.model.Links.{parent_of}
use Rattle.inv_rows.specs.model.Locals.{counts_at, rounds_told}
use Rattle.inv_rows.specs.model.Machine.{after, protect_turn}
use Rattle.inv_rows.specs.model.Phases.{AllocateAt, Base, Outcome, ProtectAt, RowOf, Turn, Walk, ends, goes}
use Rattle.inv_rows.specs.model.Phases.Aim.{Alone, Follows}
use Rattle.inv_rows.specs.model.Phases.AllocateAt.{ClaimSlot, LoadBirth, StoreLife}
use Rattle.inv_rows.specs.model.Phases.BeginAt.{LoadLower, PublishSpan}
use Rattle.inv_rows.specs.model.Phases.Ending.{Allocated, Clocked, Done, Followed, Protected, Retired}
use Rattle.inv_rows.specs.model.Phases.Outcome.{Ends, Goes}
use Rattle.inv_rows.specs.model.Phases.ProtectAt.{AnswerOwn, ByHazard, CheckClock, CheckOwnClock, CheckUpper, LoadAnswer, LoadClock, LoadLink, LoadOwnClock, LoadOwnLink, LoadWithin, PublishEra, PublishHelper, PublishRequest, RaiseUpper, TakeAnswer, WithdrawHelper, WithdrawRequest}
use Rattle.inv_rows.specs.model.Phases.HazardAt.{CheckLink, FirstLink, PublishLink}
use Rattle.inv_rows.specs.model.Calls.Phase.{Runs}
use Rattle.inv_rows.specs.words.Schemes.{publishes_rows}
use Rattle.inv_rows.specs.model.Posts.{counted, reserves_helper, reserves_span, upper, with_row, with_span, withdrawn}
use Rattle.inv_rows.specs.model.Protect.{concluded, failed_once, held_post, protected, told_held, trying}
use Rattle.inv_rows.specs.model.Rest.{has_walked, is_told, lost_by, rounds_most}
use Rattle.inv_rows.specs.model.SlowPath.{answer_in, lost_turn, own_request}
use Rattle.inv_rows.specs.model.Steps.{resumed, run_turn}
use Rattle.inv_rows.specs.model.World.{World, finds, offered}
use Rattle.inv_rows.specs.model.WriteRow.{after_write, last_written}
use Rattle.inv_rows.specs.model.declared.post.Post.{Post}
use Rattle.inv_rows.specs.defs.declared.call.Answer.{Answer}
use Rattle.inv_rows.specs.defs.declared.event.Event.{Event}
use Rattle.inv_rows.specs.defs.declared.event.Root.{Root}
use Rattle.inv_ends.proofs.Rest.Closes.{clear_rounds}
use Rattle.inv_ends.proofs.Rest.Falling.{Seat, fit_rows}
use Rattle.inv_ends.proofs.Rest.Fits.{TurnFit, advanced_fit, clearing_fit, closed_fit, filled_by_fit, finishing_fit, followed_fit, opened_null_fit, opened_row_fit, opening_fit, released_fit, retired_fit, tidied_fit, written_fit}
use Rattle.inv_ends.proofs.Rest.Runs.{EndsWell, ends_well}
use Rattle.inv_ends.proofs.Rest.Seats.{counts_task, follow_steady, follows_alone, hold_steady, lost_few, once_told, own_root, own_tells, task_counts}
use Rattle.inv_ends.proofs.Rest.Told.{Tells, answer_untold, at_linked, base_steady, by_rows, lost_after, lost_untold, reload_steady, root_told, row_counts, trying_untold}
use Rattle.inv_ends.specs.Losses.{InRound, LossNeeds, hold_fit, rounds_in, fills_fit, finish_fit, is_queue, later_fit, next_fit, opens_fit, tells_fit}
use Rattle.inv_rows.specs.words.Packed.{read_request}
use Rattle.inv_rows.specs.words.declared.config.Config.{Config}
use Rattle.std.specs.Prelude.{List, Option, Some, None, ◌==◌, ◌||◌}
use Rattle.inv_rows.proofs.Covering.Requests.Standings.{is_root}
use Rattle.inv_rows.proofs.model.Facts.{if_by}

-- what is left of a call once a machine has made its step
abbrev pub FitAfter : World → ℕ → Why → Base → Type 0
FitAfter w i why base = TurnFit w.layout.config (w.seat i).rounds (run_turn why (offered w i).desk (after base (counted (w.seat i).post) (finds w i)))

-- a root that is told has been told once
abbrev Once : ℕ → Outcome → Type 0
Once rounds (Goes base) = is_told base ≡ true → 1 ≤ rounds
Once rounds (Ends ending) = Unit {0}

not_told : (rounds : ℕ) (told : Bool) → told ≡ false → told ≡ true → 1 ≤ rounds
not_told rounds true e h = absurd (cc)
not_told rounds false e h = absurd (cc)

told_once : (rounds index : ℕ) (root : Root) (steps n : ℕ) (at : ProtectAt) (post : Post) (found : ℕ) → counts_at (by_rows at) index ≡ true → is_root root ≡ true → (is_told (Protect Alone index root steps at) ≡ true → 1 ≤ rounds) → at_linked at
    → Once (rounds_told (by_rows at) rounds (protect_turn Alone index root n at post found).told) (protect_turn Alone index root n at post found).outcome
told_once rounds index root steps n (LoadClock tries) post found z o h k = λ e. absurd (cc)
told_once rounds index root steps n (PublishEra era tries) post found z o h k = not_told rounds (is_told (Protect Alone index root n (trying post.layout.config era tries))) (trying_untold post.layout.config Alone index root n era tries)
told_once rounds index root steps n (LoadLink era tries) post found z o h k = λ e. absurd (cc)
told_once rounds index root steps n (CheckClock era tries link) post found z o h k =
    if_by (found == era) (protected Alone index root n link era post) (goes post [] (Protect Alone index root n (PublishEra found (failed_once tries)))) (λ (t : Turn). Once (rounds_told false rounds t.told) t.outcome)
    (λ e. tt) (λ e f. absurd (cc))
told_once rounds index root steps n PublishRequest post found z o h k = λ e. absurd (cc)
told_once rounds index root steps n LoadOwnClock post found z o h k = λ e. absurd (cc)
told_once rounds index root steps n (PublishHelper first era last) post found z o h k = λ e. absurd (cc)
told_once rounds index root steps n (LoadOwnLink first era last) post found z o h k = λ e. absurd (cc)
told_once rounds index root steps n (CheckOwnClock first era last link) post found z o h k =
    if_by (found == era) (goes post [] (Protect Alone index root n (AnswerOwn first era link))) (goes post [] (Protect Alone index root n (lost_turn first last found))) (λ (t : Turn). Once (rounds_told false rounds t.told) t.outcome)
    (λ e f. absurd (cc)) (λ e. not_told rounds (is_told (Protect Alone index root n (lost_turn first last found))) (lost_untold Alone index root n first found last))
told_once rounds index root steps n (AnswerOwn first era link) post found z o h k =
    if_by (found == own_request post index root) (goes post [] (Protect Alone index root n (TakeAnswer link era))) (goes post [] (Protect Alone index root n (answer_in (read_request found)))) (λ (t : Turn). Once (rounds_told false rounds t.told) t.outcome)
    (λ e f. absurd (cc)) (λ e. not_told rounds (is_told (Protect Alone index root n (answer_in (read_request found)))) (answer_untold Alone index root n (read_request found)))
told_once rounds index root steps n (LoadAnswer first) post found z o h k = not_told rounds (is_told (Protect Alone index root n (answer_in (read_request found)))) (answer_untold Alone index root n (read_request found))
told_once rounds index root steps n (TakeAnswer link era) post found z o h k = λ e. let x = root_told rounds index root link n z o in omega (arith, x)
told_once rounds index root steps n (WithdrawRequest link era) post found z o h k = λ e. h refl
told_once rounds index root steps n (WithdrawHelper link era) post found z o h k = tt
told_once rounds index root steps n LoadWithin post found z o h k = λ e. absurd (cc)
told_once rounds index root steps n (CheckUpper link) post found z o h k =
    if_by (found == upper post.span) (protected Alone index root n link found post) (goes post [] (Protect Alone index root n (RaiseUpper found))) (λ (t : Turn). Once (rounds_told false rounds t.told) t.outcome)
    (λ e. tt) (λ e f. absurd (cc))
told_once rounds index root steps n (RaiseUpper era) post found z o h k = λ e. absurd (cc)
told_once rounds index root steps n (ByHazard FirstLink) post found z o h k =
    if_by (found == 0) (protected Alone index root n found 0 post) (goes post [] (Protect Alone index root n (ByHazard (PublishLink found)))) (λ (t : Turn). Once (rounds_told true rounds t.told) t.outcome)
    (λ e. tt) (λ e f. absurd (cc))
told_once rounds index root steps n (ByHazard (PublishLink link)) post found z o h k = λ e. let x = row_counts rounds index link post.seat z k in omega (arith, x)
told_once rounds index root steps n (ByHazard (CheckLink link)) post found z o h k =
    if_by (found == link || found == 0) (protected Alone index root n found 0 post) (goes post [] (Protect Alone index root n (ByHazard (PublishLink found)))) (λ (t : Turn). Once (rounds_told true rounds t.told) t.outcome)
    (λ e. tt) (λ e f. absurd (cc))

tells_of : (most rounds lost : ℕ) (told : Bool) → lost_by rounds told ≡ lost → lost ≤ most → (told ≡ true → 1 ≤ rounds) → tells_fit most rounds told
tells_of most rounds lost true e h o = let k = o refl in record { told = k; few = omega (arith, e, h, k) }
tells_of most rounds lost false e h o = omega (arith, e, h)

opens_of : (c : Config) (rounds : ℕ) (task : Task) (told : Bool) → tells_fit (rounds_most c task) rounds told → counts_task (publishes_rows c.scheme) task ≡ true → opens_fit c rounds task told
opens_of c rounds (Gets key) told t h = t
opens_of c rounds (Changes kept) told t h = t
opens_of c rounds (Holds key) told t h = subst (λ (rows : Bool). hold_fit rows (rounds_most c (Holds key)) rounds told) (sym h) t
opens_of c rounds (Enqueues kept) told t h = t
opens_of c rounds Dequeues told t h = t

-- the protection of an own root, at an index that counts
own_opens : (c : Config) (rounds : ℕ) (task : Task) (desk : Desk) (post : Post) (told : List Event) (outcome : Outcome) (lost : ℕ) → counts_task (publishes_rows c.scheme) task ≡ true → lost ≤ rounds_most c task → Tells lost (rounds_in c rounds told) outcome → Once (rounds_in c rounds told) outcome → EndsWell outcome
    → (outcome ≡ Ends (Protected protect_ends.Null) → is_queue task ≡ true → false ≡ true)
    → TurnFit c rounds (resumed (Opens task) desk post told outcome)
own_opens c rounds task desk post told (Goes base) lost d h t o w n = opens_of c (rounds_in c rounds told) task (is_told base) (tells_of (rounds_most c task) (rounds_in c rounds told) lost (is_told base) t h o) d
own_opens c rounds task desk post told (Ends (Protected (protect_ends.Held slot era))) lost d h t o w n = opened_row_fit c rounds task slot post desk told lost t h
own_opens c rounds task desk post told (Ends (Protected protect_ends.Null)) lost d h t o w n = by_queue (is_queue task) refl
  where
    by_queue : (b : Bool) → is_queue task ≡ b → TurnFit c rounds (steps.opened_null task post desk told)
    by_queue true q = absurd (let x = n refl q in cc)
    by_queue false q = opened_null_fit c rounds task post desk told lost q t h
own_opens c rounds task desk post told (Ends Done) lost d h t o w n = absurd (cc)
own_opens c rounds task desk post told (Ends (Followed ending)) lost d h t o w n = absurd (cc)
own_opens c rounds task desk post told (Ends (Allocated ending)) lost d h t o w n = absurd (cc)
own_opens c rounds task desk post told (Ends (Retired life)) lost d h t o w n = absurd (cc)
own_opens c rounds task desk post told (Ends (Clocked clock)) lost d h t o w n = absurd (cc)

hold_opens : (c : Config) (rounds key : ℕ) (desk : Desk) (post : Post) (told : List Event) (outcome : Outcome) → publishes_rows c.scheme ≡ false → rounds_in c rounds told ≡ 0 → EndsWell outcome → TurnFit c rounds (resumed (Opens (Holds key)) desk post told outcome)
hold_opens c rounds key desk post told (Goes base) b e w = subst (λ (rows : Bool). hold_fit rows (rounds_most c (Holds key)) (rounds_in c rounds told) (is_told base)) (sym b) e
hold_opens c rounds key desk post told (Ends (Protected (protect_ends.Held slot era))) b e w = tt
hold_opens c rounds key desk post told (Ends (Protected protect_ends.Null)) b e w = clearing_fit c rounds (Holds key) (Answering answers.Nothing) post desk told tt
hold_opens c rounds key desk post told (Ends Done) b e w = absurd (cc)
hold_opens c rounds key desk post told (Ends (Followed ending)) b e w = absurd (cc)
hold_opens c rounds key desk post told (Ends (Allocated ending)) b e w = absurd (cc)
hold_opens c rounds key desk post told (Ends (Retired life)) b e w = absurd (cc)
hold_opens c rounds key desk post told (Ends (Clocked clock)) b e w = absurd (cc)

-- where the reload has failed the rounds are not yet used up
lost_still : (w : World) (i : ℕ) (task : Task) (index : ℕ) (root : Root) (n : ℕ) (at : ProtectAt) → (w.seat i).phase ≡ Runs (Opens task) (Protect Alone index root n at) → LossNeeds w i
    → tells_fit (rounds_most w.layout.config task) (w.seat i).rounds (is_told (Protect Alone index root n at)) → lost_after at (finds w i) (lost_by (w.seat i).rounds (is_told (Protect Alone index root n at))) ≤ rounds_most w.layout.config task
lost_still w i task index root n (ByHazard FirstLink) e l f = lost_few (rounds_most w.layout.config task) (w.seat i).rounds false f
lost_still w i task index root n (ByHazard (PublishLink link)) e l f = lost_few (rounds_most w.layout.config task) (w.seat i).rounds false f
lost_still w i task index root n (ByHazard (CheckLink link)) e l f =
    let told = f.told in
    let few = f.few in
    if_by (finds w i == link) ((w.seat i).rounds - 1) ((w.seat i).rounds - 1 + 1) (λ (lost : ℕ). lost ≤ rounds_most w.layout.config task)
    (λ g. omega (arith, few)) (λ g. let h = l.hazards task Alone index root n link e g in omega (arith, h, told))
lost_still w i task index root n at e l f = lost_few (rounds_most w.layout.config task) (w.seat i).rounds (is_told (Protect Alone index root n at)) f

own_once : (w : World) (i : ℕ) (task : Task) (index : ℕ) (root : Root) (n : ℕ) (at : ProtectAt) → Seat w i (Opens task) (Protect Alone index root n at)
    → counts_task (publishes_rows w.layout.config.scheme) task ≡ true → tells_fit (rounds_most w.layout.config task) (w.seat i).rounds (is_told (Protect Alone index root n at))
    → Once (rounds_in w.layout.config (w.seat i).rounds (protect_turn Alone index root (bump n) at (counted (w.seat i).post) (finds w i)).told) (protect_turn Alone index root (bump n) at (counted (w.seat i).post) (finds w i)).outcome
own_once w i task index root n at s z f =
    let c : Config = w.layout.config in
    let r : ℕ = (w.seat i).rounds in
    let base : Base = Protect Alone index root n at in
    let t : Turn = protect_turn Alone index root (bump n) at (counted (w.seat i).post) (finds w i) in
    let e : publishes_rows c.scheme ≡ by_rows at = fit_rows c.scheme c.tries at s.run.fits in
    let k : counts_at (by_rows at) index ≡ true = task_counts (by_rows at) task index s.run.shape.at (subst (λ (rows : Bool). counts_task rows task ≡ true) e z) in
    let h = told_once r index root n (bump n) at (counted (w.seat i).post) (finds w i) k (own_root c.buckets task root s.run.shape.of) (once_told (rounds_most c task) r (is_told base) f) s.linked in
    subst (λ (rows : Bool). Once (rounds_told rows r t.told) t.outcome) (sym e) h

own_fits : (w : World) (i : ℕ) (task : Task) (index : ℕ) (root : Root) (n : ℕ) (at : ProtectAt) → Seat w i (Opens task) (Protect Alone index root n at) → LossNeeds w i
    → counts_task (publishes_rows w.layout.config.scheme) task ≡ true → tells_fit (rounds_most w.layout.config task) (w.seat i).rounds (is_told (Protect Alone index root n at)) → FitAfter w i (Opens task) (Protect Alone index root n at)
own_fits w i task index root n at s l z f =
    let c : Config = w.layout.config in
    let r : ℕ = (w.seat i).rounds in
    let base : Base = Protect Alone index root n at in
    let t : Turn = after base (counted (w.seat i).post) (finds w i) in
    own_opens c r task (offered w i).desk t.post t.told t.outcome (lost_after at (finds w i) (lost_by r (is_told base))) z (lost_still w i task index root n at s.at l f)
    (own_tells w i task index root n at s z f) (own_once w i task index root n at s z f) (ends_well index root (bump n) at (counted (w.seat i).post) (finds w i))
    (λ e q. l.roots task base s.at q e)

hold_fits : (w : World) (i key index : ℕ) (root : Root) (n : ℕ) (at : ProtectAt) → Seat w i (Opens (Holds key)) (Protect Alone index root n at) → LossNeeds w i
    → (rows : Bool) → publishes_rows w.layout.config.scheme ≡ rows → hold_fit rows (rounds_most w.layout.config (Holds key)) (w.seat i).rounds (is_told (Protect Alone index root n at)) → FitAfter w i (Opens (Holds key)) (Protect Alone index root n at)
hold_fits w i key index root n at s l true b f = own_fits w i (Holds key) index root n at s l b f
hold_fits w i key index root n at s l false b f =
    let t : Turn = after (Protect Alone index root n at) (counted (w.seat i).post) (finds w i) in
    hold_opens w.layout.config (w.seat i).rounds key (offered w i).desk t.post t.told t.outcome b (hold_steady w i key index root n at s b ∙ f) (ends_well index root (bump n) at (counted (w.seat i).post) (finds w i))

opens_fits : (w : World) (i : ℕ) (task : Task) (index : ℕ) (root : Root) (n : ℕ) (at : ProtectAt) → Seat w i (Opens task) (Protect Alone index root n at) → LossNeeds w i → FitAfter w i (Opens task) (Protect Alone index root n at)
opens_fits w i (Gets key) index root n at s l = own_fits w i (Gets key) index root n at s l refl s.lost
opens_fits w i (Changes kept) index root n at s l = own_fits w i (Changes kept) index root n at s l refl s.lost
opens_fits w i (Holds key) index root n at s l = hold_fits w i key index root n at s l (publishes_rows w.layout.config.scheme) refl s.lost
opens_fits w i (Enqueues kept) index root n at s l = own_fits w i (Enqueues kept) index root n at s l refl s.lost
opens_fits w i Dequeues index root n at s l = own_fits w i Dequeues index root n at s l refl s.lost

opens_fit_after : (w : World) (i : ℕ) (task : Task) (base : Base) → Seat w i (Opens task) base → LossNeeds w i → FitAfter w i (Opens task) base
opens_fit_after w i task (Begin LoadLower) s l = s.lost
opens_fit_after w i task (Begin (PublishSpan era)) s l = opening_fit w.layout.config (w.seat i).rounds task (with_span (counted (w.seat i).post) (from_to era era)) s.lost
opens_fit_after w i task (Protect Alone index root n at) s l = opens_fits w i task index root n at s l
opens_fit_after w i task (Protect Follows index root n at) s l = absurd (let e = follows_alone s.run.shape.aimed in cc)
opens_fit_after w i task (Reload parent index slot era n) s l = absurd (let e = s.run.suited in cc)
opens_fit_after w i task (Clear rows index) s l = absurd (let e = s.run.suited in cc)
opens_fit_after w i task Finish s l = absurd (let e = s.run.suited in cc)
opens_fit_after w i task (Release index) s l = absurd (let e = s.run.suited in cc)
opens_fit_after w i task (Allocate at) s l = absurd (let e = s.run.suited in cc)
opens_fit_after w i task (Write slot row place) s l = absurd (let e = s.run.suited in cc)
opens_fit_after w i task (GiveUp slot) s l = absurd (let e = s.run.suited in cc)
opens_fit_after w i task (Retire at) s l = absurd (let e = s.run.suited in cc)
opens_fit_after w i task (Move at) s l = absurd (let e = s.run.suited in cc)

-- a follow

abbrev pub EndsFollow : Outcome → Type 0
EndsFollow (Goes base) = Unit {0}
EndsFollow (Ends (Followed follow_ends.NoNext)) = Unit {0}
EndsFollow (Ends (Followed (follow_ends.Followed slot))) = false ≡ true
EndsFollow (Ends (Followed (follow_ends.RootMoved seen))) = false ≡ true
EndsFollow (Ends Done) = false ≡ true
EndsFollow (Ends (Protected ending)) = false ≡ true
EndsFollow (Ends (Allocated ending)) = false ≡ true
EndsFollow (Ends (Retired life)) = false ≡ true
EndsFollow (Ends (Clocked clock)) = false ≡ true

concluded_follow : (index : ℕ) (root : Root) (n link era : ℕ) (post : Post) (told : List Event) → EndsFollow (concluded Follows index root n link era post told).outcome
concluded_follow index root n link era post told = if_by (link == 0) (ends post told (Followed follow_ends.NoNext)) (goes post told (Reload (parent_of root) index (link - 1) era n)) (λ (t : Turn). EndsFollow t.outcome) (λ e. tt) (λ e. tt)

pub ends_follow : (index : ℕ) (root : Root) (n : ℕ) (at : ProtectAt) (post : Post) (found : ℕ) → EndsFollow (protect_turn Follows index root n at post found).outcome
ends_follow index root n (LoadClock tries) post found = tt
ends_follow index root n (PublishEra era tries) post found = tt
ends_follow index root n (LoadLink era tries) post found = tt
ends_follow index root n (CheckClock era tries link) post found =
    if_by (found == era) (protected Follows index root n link era post) (goes post [] (Protect Follows index root n (PublishEra found (failed_once tries)))) (λ (t : Turn). EndsFollow t.outcome) (λ e. concluded_follow index root n link era (held_post post index root link) (told_held index root link n)) (λ e. tt)
ends_follow index root n PublishRequest post found = tt
ends_follow index root n LoadOwnClock post found = tt
ends_follow index root n (PublishHelper first era last) post found = tt
ends_follow index root n (LoadOwnLink first era last) post found = tt
ends_follow index root n (CheckOwnClock first era last link) post found =
    if_by (found == era) (goes post [] (Protect Follows index root n (AnswerOwn first era link))) (goes post [] (Protect Follows index root n (lost_turn first last found))) (λ (t : Turn). EndsFollow t.outcome) (λ e. tt) (λ e. tt)
ends_follow index root n (AnswerOwn first era link) post found =
    if_by (found == own_request post index root) (goes post [] (Protect Follows index root n (TakeAnswer link era))) (goes post [] (Protect Follows index root n (answer_in (read_request found)))) (λ (t : Turn). EndsFollow t.outcome) (λ e. tt) (λ e. tt)
ends_follow index root n (LoadAnswer first) post found = tt
ends_follow index root n (TakeAnswer link era) post found = tt
ends_follow index root n (WithdrawRequest link era) post found = tt
ends_follow index root n (WithdrawHelper link era) post found = concluded_follow index root n link era post (reserves_helper post 0)
ends_follow index root n LoadWithin post found = tt
ends_follow index root n (CheckUpper link) post found =
    if_by (found == upper post.span) (protected Follows index root n link found post) (goes post [] (Protect Follows index root n (RaiseUpper found))) (λ (t : Turn). EndsFollow t.outcome) (λ e. concluded_follow index root n link found (held_post post index root link) (told_held index root link n)) (λ e. tt)
ends_follow index root n (RaiseUpper era) post found = tt
ends_follow index root n (ByHazard FirstLink) post found =
    if_by (found == 0) (protected Follows index root n found 0 post) (goes post [] (Protect Follows index root n (ByHazard (PublishLink found)))) (λ (t : Turn). EndsFollow t.outcome) (λ e. concluded_follow index root n found 0 (held_post post index root found) (told_held index root found n)) (λ e. tt)
ends_follow index root n (ByHazard (PublishLink link)) post found = tt
ends_follow index root n (ByHazard (CheckLink link)) post found =
    if_by (found == link || found == 0) (protected Follows index root n found 0 post) (goes post [] (Protect Follows index root n (ByHazard (PublishLink found)))) (λ (t : Turn). EndsFollow t.outcome) (λ e. concluded_follow index root n found 0 (held_post post index root found) (told_held index root found n)) (λ e. tt)

follow_resumes : (c : Config) (rounds head tail : ℕ) (desk : Desk) (post : Post) (told : List Event) (outcome : Outcome) → InRound (rounds_most c Dequeues) rounds → rounds_in c rounds told ≡ rounds → EndsFollow outcome → TurnFit c rounds (resumed (FollowsHead head tail) desk post told outcome)
follow_resumes c rounds head tail desk post told (Goes base) i e w = rw e i
follow_resumes c rounds head tail desk post told (Ends (Followed follow_ends.NoNext)) i e w = followed_fit c rounds head tail follow_ends.NoNext post desk told i e tt
follow_resumes c rounds head tail desk post told (Ends (Followed (follow_ends.Followed slot))) i e w = absurd (cc)
follow_resumes c rounds head tail desk post told (Ends (Followed (follow_ends.RootMoved seen))) i e w = absurd (cc)
follow_resumes c rounds head tail desk post told (Ends Done) i e w = absurd (cc)
follow_resumes c rounds head tail desk post told (Ends (Protected ending)) i e w = absurd (cc)
follow_resumes c rounds head tail desk post told (Ends (Allocated ending)) i e w = absurd (cc)
follow_resumes c rounds head tail desk post told (Ends (Retired life)) i e w = absurd (cc)
follow_resumes c rounds head tail desk post told (Ends (Clocked clock)) i e w = absurd (cc)

reload_fits : (c : Config) (rounds head tail parent index slot n : ℕ) (post : Post) (desk : Desk) (found : ℕ) → (index == 0) ≡ false → InRound (rounds_most c Dequeues) rounds → ((found == parent + 1) ≡ false → rounds ≤ rounds_most c Dequeues) → TurnFit c rounds (run_turn (FollowsHead head tail) desk (after_reload parent index slot n post found))
reload_fits c rounds head tail parent index slot n post desk found z i l =
    if_by (found == parent + 1) (ends (with_row post index slot) (events.Held index slot n ∷ []) (Followed (follow_ends.Followed slot))) (ends post [] (Followed (follow_ends.RootMoved found))) (λ (t : Turn). TurnFit c rounds (run_turn (FollowsHead head tail) desk t))
    (λ e. followed_fit c rounds head tail (follow_ends.Followed slot) (with_row post index slot) desk (events.Held index slot n ∷ []) i (reload_steady (publishes_rows c.scheme) rounds index z) tt)
    (λ e. followed_fit c rounds head tail (follow_ends.RootMoved found) post desk [] i refl (l e))

follows_fit_after : (w : World) (i : ℕ) (head tail : ℕ) (base : Base) → Seat w i (FollowsHead head tail) base → LossNeeds w i → FitAfter w i (FollowsHead head tail) base
follows_fit_after w i head tail (Protect Follows index root n at) s l =
    let t : Turn = after (Protect Follows index root n at) (counted (w.seat i).post) (finds w i) in
    follow_resumes w.layout.config (w.seat i).rounds head tail (offered w i).desk t.post t.told t.outcome s.lost (follow_steady w i head tail Follows index root n at s) (ends_follow index root (bump n) at (counted (w.seat i).post) (finds w i))
follows_fit_after w i head tail (Protect Alone index root n at) s l = absurd (let e = follows_alone (sym s.run.shape.aimed) in cc)
follows_fit_after w i head tail (Reload parent index slot era n) s l =
    let z : (index == 0) ≡ false = (let e : index ≡ 1 = s.run.shape.at in rw e refl) in
    reload_fits w.layout.config (w.seat i).rounds head tail parent index slot (bump n) (counted (w.seat i).post) (offered w i).desk (finds w i) z s.lost (l.reloads head tail parent index slot era n s.at)
follows_fit_after w i head tail (Begin at) s l = absurd (let e = s.run.suited in cc)
follows_fit_after w i head tail (Clear rows index) s l = absurd (let e = s.run.suited in cc)
follows_fit_after w i head tail Finish s l = absurd (let e = s.run.suited in cc)
follows_fit_after w i head tail (Release index) s l = absurd (let e = s.run.suited in cc)
follows_fit_after w i head tail (Allocate at) s l = absurd (let e = s.run.suited in cc)
follows_fit_after w i head tail (Write slot row place) s l = absurd (let e = s.run.suited in cc)
follows_fit_after w i head tail (GiveUp slot) s l = absurd (let e = s.run.suited in cc)
follows_fit_after w i head tail (Retire at) s l = absurd (let e = s.run.suited in cc)
follows_fit_after w i head tail (Move at) s l = absurd (let e = s.run.suited in cc)

-- a row is filled

walking_fits : (c : Config) (rounds : ℕ) (task : Task) (birth : ℕ) (post : Post) (desk : Desk) (walk : Option Walk) → fills_fit c rounds task → (has_walked task ≡ false → rounds ≤ rounds_most c task) → TurnFit c rounds (run_turn (Fills task) desk (walking birth post walk))
walking_fits c rounds task birth post desk None f l = filled_by_fit c rounds task allocate_ends.Full post desk [] f refl (λ e w. l w)
walking_fits c rounds task birth post desk (Some walk) f l = f

given_not_full : (slot birth : ℕ) → allocate_ends.Given slot birth ≡ allocate_ends.Full → false ≡ true
given_not_full slot birth e = absurd (cc)

allocate_fits_after : (w : World) (i : ℕ) (task : Task) (at : AllocateAt) → Seat w i (Fills task) (Allocate at) → LossNeeds w i → FitAfter w i (Fills task) (Allocate at)
allocate_fits_after w i task LoadBirth s l = s.lost
allocate_fits_after w i task (ClaimSlot birth walk) s l =
    let post : Post = counted (w.seat i).post in
    if_by (is_claimed (finds w i) walk.slot) (walking birth post (walk_past post.layout.config.slots walk (finds w i))) (goes (record post { cursor = next_slot post.layout.config.slots walk.slot }) (events.Give walk.slot birth ∷ []) (Allocate (StoreLife birth walk.slot)))
    (λ (t : Turn). TurnFit w.layout.config (w.seat i).rounds (run_turn (Fills task) (offered w i).desk t))
    (λ e. walking_fits w.layout.config (w.seat i).rounds task birth post (offered w i).desk (walk_past post.layout.config.slots walk (finds w i)) s.lost (l.walks task birth walk s.at)) (λ e. s.lost)
allocate_fits_after w i task (StoreLife birth slot) s l =
    filled_by_fit w.layout.config (w.seat i).rounds task (allocate_ends.Given slot birth) (counted (w.seat i).post) (offered w i).desk [] s.lost refl (λ e w. absurd (let x = given_not_full slot birth e in cc))

write_fits : (c : Config) (rounds : ℕ) (task : Task) (slot : ℕ) (row : RowOf) (place : ℕ) (post : Post) (desk : Desk) → fills_fit c rounds task → TurnFit c rounds (run_turn (Fills task) desk (after_write slot row place post))
write_fits c rounds task slot row place post desk f =
    if_by (place == last_written row) (ends post [] Done) (goes post [] (Write slot row (place + 1))) (λ (t : Turn). TurnFit c rounds (run_turn (Fills task) desk t)) (λ e. written_fit c rounds task post desk [] f refl) (λ e. f)

fills_fit_after : (w : World) (i : ℕ) (task : Task) (base : Base) → Seat w i (Fills task) base → LossNeeds w i → FitAfter w i (Fills task) base
fills_fit_after w i task (Allocate at) s l = allocate_fits_after w i task at s l
fills_fit_after w i task (Write slot row place) s l = write_fits w.layout.config (w.seat i).rounds task slot row place (counted (w.seat i).post) (offered w i).desk s.lost
fills_fit_after w i task (Begin at) s l = absurd (let e = s.run.suited in cc)
fills_fit_after w i task (Protect aim index root n at) s l = absurd (let e = s.run.suited in cc)
fills_fit_after w i task (Reload parent index slot era n) s l = absurd (let e = s.run.suited in cc)
fills_fit_after w i task (Clear rows index) s l = absurd (let e = s.run.suited in cc)
fills_fit_after w i task Finish s l = absurd (let e = s.run.suited in cc)
fills_fit_after w i task (Release index) s l = absurd (let e = s.run.suited in cc)
fills_fit_after w i task (GiveUp slot) s l = absurd (let e = s.run.suited in cc)
fills_fit_after w i task (Retire at) s l = absurd (let e = s.run.suited in cc)
fills_fit_after w i task (Move at) s l = absurd (let e = s.run.suited in cc)

-- the machines by which a round ends, and those that come once

after_fit : (c : Config) (rounds other : ℕ) (task : Task) (next : Next) → other ≡ rounds → next_fit c rounds task next → next_fit c other task next
after_fit c rounds other task next e n = rw e n

of_finish : (c : Config) (rounds : ℕ) (task : Task) (next : Next) → finish_fit c rounds task next → next_fit c rounds task next
of_finish c rounds task Again n = absurd (cc)
of_finish c rounds task MakeRoom n = n
of_finish c rounds task (Answering answer) n = tt
of_finish c rounds task (Retiring slot answer) n = tt

retire_resumes : (c : Config) (rounds : ℕ) (answer : Answer) (desk : Desk) (t : Turn) → TurnFit c rounds (resumed (Retires answer) desk t.post t.told t.outcome)
retire_resumes c rounds answer desk t = by_outcome t.outcome
  where
    by_outcome : (outcome : Outcome) → TurnFit c rounds (resumed (Retires answer) desk t.post t.told outcome)
    by_outcome (Goes base) = tt
    by_outcome (Ends ending) = retired_fit c rounds answer ending t.post desk t.told

advance_resumes : (c : Config) (rounds : ℕ) (desk : Desk) (t : Turn) → TurnFit c rounds (resumed Advances desk t.post t.told t.outcome)
advance_resumes c rounds desk t = by_outcome t.outcome
  where
    by_outcome : (outcome : Outcome) → TurnFit c rounds (resumed Advances desk t.post t.told outcome)
    by_outcome (Goes base) = tt
    by_outcome (Ends ending) = advanced_fit c rounds ending t.post desk t.told

tidy_resumes : (c : Config) (rounds : ℕ) (later : AfterScan) (desk : Desk) (post : Post) (told : List Event) (outcome : Outcome) → rounds_in c rounds told ≡ rounds → later_fit c rounds later → TurnFit c rounds (resumed (Tidies later) desk post told outcome)
tidy_resumes c rounds later desk post told (Goes base) e l = rw e l
tidy_resumes c rounds later desk post told (Ends ending) e l = tidied_fit c rounds later ending post desk told e l

nexts_fit_after : (w : World) (i : ℕ) (next : Next) (base : Base) → Seat w i (ClearsNext next) base → LossNeeds w i → FitAfter w i (ClearsNext next) base
nexts_fit_after w i next (Clear rows index) s l =
    let told : List Event = (after (Clear rows index) (counted (w.seat i).post) (finds w i)).told in
    clearing_fit w.layout.config (w.seat i).rounds Dequeues next (withdrawn (counted (w.seat i).post) index) (offered w i).desk told (after_fit w.layout.config (w.seat i).rounds (rounds_in w.layout.config (w.seat i).rounds told) Dequeues next (clear_rounds w i rows index) s.lost)
nexts_fit_after w i next (Begin at) s l = absurd (let e = s.run.suited in cc)
nexts_fit_after w i next (Protect aim index root n at) s l = absurd (let e = s.run.suited in cc)
nexts_fit_after w i next (Reload parent index slot era n) s l = absurd (let e = s.run.suited in cc)
nexts_fit_after w i next Finish s l = absurd (let e = s.run.suited in cc)
nexts_fit_after w i next (Release index) s l = absurd (let e = s.run.suited in cc)
nexts_fit_after w i next (Allocate at) s l = absurd (let e = s.run.suited in cc)
nexts_fit_after w i next (Write slot row place) s l = absurd (let e = s.run.suited in cc)
nexts_fit_after w i next (GiveUp slot) s l = absurd (let e = s.run.suited in cc)
nexts_fit_after w i next (Retire at) s l = absurd (let e = s.run.suited in cc)
nexts_fit_after w i next (Move at) s l = absurd (let e = s.run.suited in cc)

clears_fit_after : (w : World) (i : ℕ) (task : Task) (next : Next) (base : Base) → Seat w i (Clears task next) base → LossNeeds w i → FitAfter w i (Clears task next) base
clears_fit_after w i task next (Clear rows index) s l =
    let told : List Event = (after (Clear rows index) (counted (w.seat i).post) (finds w i)).told in
    finishing_fit w.layout.config (w.seat i).rounds task next (withdrawn (counted (w.seat i).post) index) (offered w i).desk told (after_fit w.layout.config (w.seat i).rounds (rounds_in w.layout.config (w.seat i).rounds told) task next (clear_rounds w i rows index) s.lost)
clears_fit_after w i task next (Begin at) s l = absurd (let e = s.run.suited in cc)
clears_fit_after w i task next (Protect aim index root n at) s l = absurd (let e = s.run.suited in cc)
clears_fit_after w i task next (Reload parent index slot era n) s l = absurd (let e = s.run.suited in cc)
clears_fit_after w i task next Finish s l = absurd (let e = s.run.suited in cc)
clears_fit_after w i task next (Release index) s l = absurd (let e = s.run.suited in cc)
clears_fit_after w i task next (Allocate at) s l = absurd (let e = s.run.suited in cc)
clears_fit_after w i task next (Write slot row place) s l = absurd (let e = s.run.suited in cc)
clears_fit_after w i task next (GiveUp slot) s l = absurd (let e = s.run.suited in cc)
clears_fit_after w i task next (Retire at) s l = absurd (let e = s.run.suited in cc)
clears_fit_after w i task next (Move at) s l = absurd (let e = s.run.suited in cc)

finishes_fit_after : (w : World) (i : ℕ) (task : Task) (next : Next) (base : Base) → Seat w i (Finishes task next) base → LossNeeds w i → FitAfter w i (Finishes task next) base
finishes_fit_after w i task next Finish s l =
    closed_fit w.layout.config (w.seat i).rounds task next (with_span (counted (w.seat i).post) None) (offered w i).desk (reserves_span (counted (w.seat i).post) None) (of_finish w.layout.config (w.seat i).rounds task next s.lost)
finishes_fit_after w i task next (Begin at) s l = absurd (let e = s.run.suited in cc)
finishes_fit_after w i task next (Protect aim index root n at) s l = absurd (let e = s.run.suited in cc)
finishes_fit_after w i task next (Reload parent index slot era n) s l = absurd (let e = s.run.suited in cc)
finishes_fit_after w i task next (Clear rows index) s l = absurd (let e = s.run.suited in cc)
finishes_fit_after w i task next (Release index) s l = absurd (let e = s.run.suited in cc)
finishes_fit_after w i task next (Allocate at) s l = absurd (let e = s.run.suited in cc)
finishes_fit_after w i task next (Write slot row place) s l = absurd (let e = s.run.suited in cc)
finishes_fit_after w i task next (GiveUp slot) s l = absurd (let e = s.run.suited in cc)
finishes_fit_after w i task next (Retire at) s l = absurd (let e = s.run.suited in cc)
finishes_fit_after w i task next (Move at) s l = absurd (let e = s.run.suited in cc)

gives_fit_after : (w : World) (i : ℕ) (answer : Answer) (base : Base) → Seat w i (GivesUp answer) base → LossNeeds w i → FitAfter w i (GivesUp answer) base
gives_fit_after w i answer (GiveUp slot) s l = tt
gives_fit_after w i answer (Begin at) s l = absurd (let e = s.run.suited in cc)
gives_fit_after w i answer (Protect aim index root n at) s l = absurd (let e = s.run.suited in cc)
gives_fit_after w i answer (Reload parent index slot era n) s l = absurd (let e = s.run.suited in cc)
gives_fit_after w i answer (Clear rows index) s l = absurd (let e = s.run.suited in cc)
gives_fit_after w i answer Finish s l = absurd (let e = s.run.suited in cc)
gives_fit_after w i answer (Release index) s l = absurd (let e = s.run.suited in cc)
gives_fit_after w i answer (Allocate at) s l = absurd (let e = s.run.suited in cc)
gives_fit_after w i answer (Write slot row place) s l = absurd (let e = s.run.suited in cc)
gives_fit_after w i answer (Retire at) s l = absurd (let e = s.run.suited in cc)
gives_fit_after w i answer (Move at) s l = absurd (let e = s.run.suited in cc)

tidies_fit_after : (w : World) (i : ℕ) (later : AfterScan) (base : Base) → Seat w i (Tidies later) base → LossNeeds w i → FitAfter w i (Tidies later) base
tidies_fit_after w i later (Move at) s l =
    let t : Turn = after (Move at) (counted (w.seat i).post) (finds w i) in
    tidy_resumes w.layout.config (w.seat i).rounds later (offered w i).desk t.post t.told t.outcome (base_steady (publishes_rows w.layout.config.scheme) (w.seat i).rounds (Move at) (counted (w.seat i).post) (finds w i) refl) s.lost
tidies_fit_after w i later (Begin at) s l = absurd (let e = s.run.suited in cc)
tidies_fit_after w i later (Protect aim index root n at) s l = absurd (let e = s.run.suited in cc)
tidies_fit_after w i later (Reload parent index slot era n) s l = absurd (let e = s.run.suited in cc)
tidies_fit_after w i later (Clear rows index) s l = absurd (let e = s.run.suited in cc)
tidies_fit_after w i later Finish s l = absurd (let e = s.run.suited in cc)
tidies_fit_after w i later (Release index) s l = absurd (let e = s.run.suited in cc)
tidies_fit_after w i later (Allocate at) s l = absurd (let e = s.run.suited in cc)
tidies_fit_after w i later (Write slot row place) s l = absurd (let e = s.run.suited in cc)
tidies_fit_after w i later (GiveUp slot) s l = absurd (let e = s.run.suited in cc)
tidies_fit_after w i later (Retire at) s l = absurd (let e = s.run.suited in cc)

releases_fit_after : (w : World) (i : ℕ) (let_go : LetGo) (base : Base) → Seat w i (Releases let_go) base → LossNeeds w i → FitAfter w i (Releases let_go) base
releases_fit_after w i let_go (Clear rows index) s l =
    let t : Turn = after (Clear rows index) (counted (w.seat i).post) (finds w i) in
    released_fit w.layout.config (w.seat i).rounds let_go (withdrawn (counted (w.seat i).post) index) (offered w i).desk t.told (clear_rounds w i rows index ∙ s.lost)
releases_fit_after w i let_go (Release index) s l =
    let t : Turn = after (Release index) (counted (w.seat i).post) (finds w i) in
    released_fit w.layout.config (w.seat i).rounds let_go t.post (offered w i).desk t.told (base_steady (publishes_rows w.layout.config.scheme) (w.seat i).rounds (Release index) (counted (w.seat i).post) (finds w i) refl ∙ s.lost)
releases_fit_after w i let_go (Begin at) s l = absurd (let e = s.run.suited in cc)
releases_fit_after w i let_go (Protect aim index root n at) s l = absurd (let e = s.run.suited in cc)
releases_fit_after w i let_go (Reload parent index slot era n) s l = absurd (let e = s.run.suited in cc)
releases_fit_after w i let_go Finish s l = absurd (let e = s.run.suited in cc)
releases_fit_after w i let_go (Allocate at) s l = absurd (let e = s.run.suited in cc)
releases_fit_after w i let_go (Write slot row place) s l = absurd (let e = s.run.suited in cc)
releases_fit_after w i let_go (GiveUp slot) s l = absurd (let e = s.run.suited in cc)
releases_fit_after w i let_go (Retire at) s l = absurd (let e = s.run.suited in cc)
releases_fit_after w i let_go (Move at) s l = absurd (let e = s.run.suited in cc)

pub run_fits : (w : World) (i : ℕ) (why : Why) (base : Base) → Seat w i why base → LossNeeds w i → FitAfter w i why base
run_fits w i (Opens task) base s l = opens_fit_after w i task base s l
run_fits w i (FollowsHead head tail) base s l = follows_fit_after w i head tail base s l
run_fits w i (Fills task) base s l = fills_fit_after w i task base s l
run_fits w i (ClearsNext next) base s l = nexts_fit_after w i next base s l
run_fits w i (Clears task next) base s l = clears_fit_after w i task next base s l
run_fits w i (Finishes task next) base s l = finishes_fit_after w i task next base s l
run_fits w i (GivesUp answer) base s l = gives_fit_after w i answer base s l
run_fits w i (Retires answer) base s l = retire_resumes w.layout.config (w.seat i).rounds answer (offered w i).desk (after base (counted (w.seat i).post) (finds w i))
run_fits w i (Tidies later) base s l = tidies_fit_after w i later base s l
run_fits w i Advances base s l = advance_resumes w.layout.config (w.seat i).rounds (offered w i).desk (after base (counted (w.seat i).post) (finds w i))
run_fits w i (Releases let_go) base s l = releases_fit_after w i let_go base s l
