-- A machine's step has lost no more rounds than has changed.
use Rattle.std.proofs.Common.{ℕ, ◌∙◌, ◌≡◌, ◌≤◌, ◌+◌, ◌-◌, Bool, true, false, [], ◌∷◌, arith, refl, sym, ap, subst}
use Rattle.std.proofs.lemmas.Bool.Decides.{nat_tests}
use Rattle.inv_ends.specs.model.Steps as steps
use Rattle.inv_ends.specs.model.Phases.Base.{Move, Allocate, Begin, Clear, Finish, GiveUp, Protect, Release, Reload, Retire, Write}
use Rattle.inv_ends.specs.model.Memory.{bump}
use Rattle.inv_ends.proofs.Rest.Runs.{EndsWell, ends_well, none_lost}
use Rattle.inv_ends.specs.model.words.Place.Place.{Clock}
use Rattle.inv_ends.specs.model.defs.declared.event.Event.TheVariants as events
use Rattle.inv_ends.specs.model.defs.declared.call.Answer.TheVariants as answers
use Rattle.inv_ends.specs.model.declared.ends.ProtectEnd.TheVariants as protect_ends
use Rattle.inv_ends.specs.model.declared.ends.FollowEnd.TheVariants as follow_ends
use Rattle.inv_ends.specs.model.declared.ends.AllocateEnd.TheVariants as allocate_ends
use Rattle.inv_ends.proofs.Rest.Told.{Tells, base_steady, by_rows, hazard_lost, lost_after, protect_steady, protect_tells, reload_steady}
use Rattle.inv_ends.specs.model.Allocate.{is_claimed, next_slot, walk_past, walking}
use Rattle.inv_ends.specs.model.Calls.{AfterScan, LetGo, Next, Task, Why}
use Rattle.inv_ends.specs.model.Calls.Next.{Answering}
use Rattle.inv_ends.specs.model.Calls.Phase.{Runs}
use Rattle.inv_ends.specs.model.Calls.Task.{Changes, Dequeues, Enqueues, Gets, Holds}
use Rattle.inv_ends.specs.model.Calls.Why.{Advances, Clears, ClearsNext, Fills, Finishes, FollowsHead, GivesUp, Opens, Releases, Retires, Tidies}
use Rattle.inv_ends.specs.model.Desks.{Desk}
use Rattle.inv_ends.specs.model.Follow.{after_reload}
use Rattle.inv_ends.specs.model.Guards.{from_to}
use Rattle.inv_ends.specs.model.Locals.{counts_at, rounds_told}
use Rattle.inv_ends.specs.model.Machine.{after, hazard_turn, protect_turn}
use Rattle.inv_ends.specs.model.Phases.{Aim, AllocateAt, Base, HazardAt, Outcome, ProtectAt, RowOf, Turn, Walk, ends, goes}
use Rattle.inv_ends.specs.model.Phases.Aim.{Alone, Follows}
use Rattle.inv_ends.specs.model.Phases.AllocateAt.{ClaimSlot, LoadBirth, StoreLife}
use Rattle.inv_ends.specs.model.Phases.BeginAt.{LoadLower, PublishSpan}
use Rattle.inv_ends.specs.model.Phases.Ending.{Allocated, Clocked, Done, Followed, Protected, Retired}
use Rattle.inv_ends.specs.model.Phases.Outcome.{Ends, Goes}
use Rattle.inv_ends.specs.model.Phases.ProtectAt.{AnswerOwn, ByHazard, CheckClock, CheckOwnClock, CheckUpper, LoadAnswer, LoadClock, LoadLink, LoadOwnClock, LoadOwnLink, LoadWithin, PublishEra, PublishHelper, PublishRequest, RaiseUpper, TakeAnswer, WithdrawHelper, WithdrawRequest}
use Rattle.inv_ends.specs.model.Phases.HazardAt.{CheckLink, FirstLink, PublishLink}
use Rattle.inv_ends.specs.model.words.Schemes.{publishes_rows}
use Rattle.inv_ends.specs.model.words.declared.config.SchemeKind.{SchemeKind}
use Rattle.inv_ends.specs.model.words.declared.layout.Layout.{Layout}
use Rattle.inv_all.proofs.Rounds.Grows.{most_of, open_task, paced_of}
use Rattle.inv_all.proofs.Rounds.Kept.{lost_more}
use Rattle.inv_ends.specs.model.Posts.{counted, reserves_span, upper, with_row, with_span, withdrawn}
use Rattle.inv_ends.specs.model.Protect.{failed_once, protect_end, protected}
use Rattle.inv_ends.specs.model.Rest.{is_told, lost_by, rounds_most}
use Rattle.inv_ends.specs.model.Rounds.{key_of}
use Rattle.inv_ends.specs.model.SlowPath.{answer_in, lost_turn, own_request}
use Rattle.inv_ends.specs.model.Steps.{resumed, run_turn}
use Rattle.inv_ends.specs.model.World.{World, finds, offered}
use Rattle.inv_ends.specs.model.WriteRow.{after_write, last_written}
use Rattle.inv_ends.specs.model.declared.post.Post.{Post}
use Rattle.inv_ends.specs.model.defs.declared.call.Answer.{Answer}
use Rattle.inv_ends.specs.model.defs.declared.event.Event.{Event}
use Rattle.inv_ends.specs.model.defs.declared.event.Root.{Root}
use Rattle.inv_ends.specs.shapes.Seats.{PhaseFits, Run, base_fits, protect_fits, task_root}
use Rattle.inv_ends.specs.shapes.Frame.{Passed}
use Rattle.inv_ends.specs.Tracked.{carries_at, carries_in, root_base}
use Rattle.inv_ends.proofs.Rest.Falling.{base_linked, fit_clock, fit_rows}
use Rattle.inv_ends.proofs.Rest.Loses.{EndsFollow, ends_follow}
use Rattle.inv_ends.proofs.Rest.Machines.{at_clock}
use Rattle.inv_ends.proofs.Rest.Seats.{counts_task, follows_alone, once_told, one_uncounted, own_root, task_counts}
use Rattle.inv_ends.specs.Losses.{fills_fit, hold_fit, is_queue, opens_fit, tells_fit, why_fit}
use Rattle.inv_all.proofs.Rounds.Paced.{TurnPaced, advanced_paced, clearing_paced, closed_paced, filled_by_paced, fills_something, finishing_paced, followed_paced, link_since, opened_null_paced, opened_row_paced, opening_paced, released_paced, retired_paced, tidied_paced, written_paced}
use Rattle.inv_all.specs.Tallies.{Since, Tally, at_paced, changes_so_far, fills_paced, hazard_paced, open_paced, root_test, task_most, head_since, lag_since, later_paced, next_paced, passes_so_far, since_test, task_good, task_paced, why_good, why_paced}
use Rattle.inv_ends.specs.model.words.Packed.{read_request}
use Rattle.inv_ends.specs.model.words.declared.config.Config.{Config}
use Rattle.std.specs.Prelude.{List, Option, Some, None, not, if◌then◌else◌, nat_le, ◌==◌, ◌||◌, ◌%◌}
use Rattle.inv_ends.proofs.model.Facts.{rest_of, both, if_by, no_truth, number_is, or_left_true}

-- with which link a protection ends
abbrev pub EndCarries : (clock upto : ℕ) → ProtectAt → Outcome → Type 0
EndCarries clock upto at (Goes base) = Unit {0}
EndCarries clock upto at (Ends (Protected (protect_ends.Held slot era))) = carries_at clock upto at (slot + 1) ≡ true
EndCarries clock upto at (Ends (Protected protect_ends.Null)) = carries_at clock upto at 0 ≡ true
EndCarries clock upto at (Ends Done) = Unit {0}
EndCarries clock upto at (Ends (Followed ending)) = Unit {0}
EndCarries clock upto at (Ends (Allocated ending)) = Unit {0}
EndCarries clock upto at (Ends (Retired life)) = Unit {0}
EndCarries clock upto at (Ends (Clocked time)) = Unit {0}

link_carries : (clock upto : ℕ) (at : ProtectAt) (link era : ℕ) → ((x : ℕ) → (link == x) ≡ true → carries_at clock upto at x ≡ true) → EndCarries clock upto at (Ends (Protected (protect_end link era)))
link_carries clock upto at link era h = by_link (link == 0) refl
  where
    by_link : (b : Bool) → (link == 0) ≡ b → EndCarries clock upto at (Ends (Protected (if b then protect_ends.Null else protect_ends.Held (link - 1) era)))
    by_link true e = h 0 e
    by_link false e = h (link - 1 + 1) (grind (arith, nat_tests, e))

pub protect_carries : (clock : ℕ) (index : ℕ) (root : Root) (n : ℕ) (at : ProtectAt) (post : Post) (found : ℕ) → at_clock at found clock → by_rows at ≡ false → EndCarries clock (upper post.span) at (protect_turn Alone index root n at post found).outcome
protect_carries clock index root n (LoadClock tries) post found k b = tt
protect_carries clock index root n (PublishEra era tries) post found k b = tt
protect_carries clock index root n (LoadLink era tries) post found k b = tt
protect_carries clock index root n (CheckClock era tries link) post found k b =
    if_by (found == era) (protected Alone index root n link era post) (goes post [] (Protect Alone index root n (PublishEra found (failed_once tries)))) (λ (t : Turn). EndCarries clock (upper post.span) (CheckClock era tries link) t.outcome)
    (λ e. link_carries clock (upper post.span) (CheckClock era tries link) link era (λ x h. both (link == x) (clock == era) h (rw (← k) e))) (λ e. tt)
protect_carries clock index root n PublishRequest post found k b = tt
protect_carries clock index root n LoadOwnClock post found k b = tt
protect_carries clock index root n (PublishHelper first era last) post found k b = tt
protect_carries clock index root n (LoadOwnLink first era last) post found k b = tt
protect_carries clock index root n (CheckOwnClock first era last link) post found k b =
    if_by (found == era) (goes post [] (Protect Alone index root n (AnswerOwn first era link))) (goes post [] (Protect Alone index root n (lost_turn first last found))) (λ (t : Turn). EndCarries clock (upper post.span) (CheckOwnClock first era last link) t.outcome) (λ e. tt) (λ e. tt)
protect_carries clock index root n (AnswerOwn first era link) post found k b =
    if_by (found == own_request post index root) (goes post [] (Protect Alone index root n (TakeAnswer link era))) (goes post [] (Protect Alone index root n (answer_in (read_request found)))) (λ (t : Turn). EndCarries clock (upper post.span) (AnswerOwn first era link) t.outcome) (λ e. tt) (λ e. tt)
protect_carries clock index root n (LoadAnswer first) post found k b = tt
protect_carries clock index root n (TakeAnswer link era) post found k b = tt
protect_carries clock index root n (WithdrawRequest link era) post found k b = tt
protect_carries clock index root n (WithdrawHelper link era) post found k b = link_carries clock (upper post.span) (WithdrawHelper link era) link era (λ x h. h)
protect_carries clock index root n LoadWithin post found k b = tt
protect_carries clock index root n (CheckUpper link) post found k b =
    if_by (found == upper post.span) (protected Alone index root n link found post) (goes post [] (Protect Alone index root n (RaiseUpper found))) (λ (t : Turn). EndCarries clock (upper post.span) (CheckUpper link) t.outcome)
    (λ e. link_carries clock (upper post.span) (CheckUpper link) link found (λ x h. both (link == x) (clock == upper post.span) h (rw (← k) e))) (λ e. tt)
protect_carries clock index root n (RaiseUpper era) post found k b = tt
protect_carries clock index root n (ByHazard at) post found k b = absurd (cc)

-- the link with which it ends is good for its root
abbrev pub EndGood : Tally → Task → ℕ → Root → Outcome → Type 0
EndGood u task lost root (Goes base) = Unit {0}
EndGood u task lost root (Ends (Protected (protect_ends.Held slot era))) = task_good u task lost root (slot + 1) ≡ true
EndGood u task lost root (Ends (Protected protect_ends.Null)) = task_good u task lost root 0 ≡ true
EndGood u task lost root (Ends Done) = Unit {0}
EndGood u task lost root (Ends (Followed ending)) = Unit {0}
EndGood u task lost root (Ends (Allocated ending)) = Unit {0}
EndGood u task lost root (Ends (Retired life)) = Unit {0}
EndGood u task lost root (Ends (Clocked time)) = Unit {0}

pub carried_good : (clock upto : ℕ) (at : ProtectAt) (u : Tally) (task : Task) (lost : ℕ) (root : Root) (outcome : Outcome) → ((x : ℕ) → carries_at clock upto at x ≡ true → task_good u task lost root x ≡ true) → EndCarries clock upto at outcome → EndGood u task lost root outcome
carried_good clock upto at u task lost root (Goes base) h e = tt
carried_good clock upto at u task lost root (Ends (Protected (protect_ends.Held slot era))) h e = h (slot + 1) e
carried_good clock upto at u task lost root (Ends (Protected protect_ends.Null)) h e = h 0 e
carried_good clock upto at u task lost root (Ends Done) h e = tt
carried_good clock upto at u task lost root (Ends (Followed ending)) h e = tt
carried_good clock upto at u task lost root (Ends (Allocated ending)) h e = tt
carried_good clock upto at u task lost root (Ends (Retired life)) h e = tt
carried_good clock upto at u task lost root (Ends (Clocked time)) h e = tt

good_since : (u : Tally) (task : Task) (lost x : ℕ) → task_paced u task lost → task_good u task lost (task_root u.buckets task) x ≡ true → link_since u task x lost
good_since u (Gets key) lost x p g = tt
good_since u (Changes kept) lost x p g = record { lost_few = p; moved = g }
good_since u (Holds key) lost x p g = tt
good_since u (Enqueues kept) lost x p g = record { lost_few = p; moved = rest_of (not (x == 0)) (since_test (u.tail == x) lost (passes_so_far u kept)) g }
good_since u Dequeues lost x p g = record { lost_few = p; moved = rest_of (not (x == 0)) (since_test (u.head == x) lost u.takes) g }

pub never_null : (u : Tally) (task : Task) (lost : ℕ) → is_queue task ≡ true → task_good u task lost (task_root u.buckets task) 0 ≡ true → false ≡ true
never_null u (Gets key) lost q g = absurd (cc)
never_null u (Changes kept) lost q g = absurd (cc)
never_null u (Holds key) lost q g = absurd (cc)
never_null u (Enqueues kept) lost q g = absurd (cc)
never_null u Dequeues lost q g = absurd (cc)

-- where rows are published: what a step has found in its root
pub record Found (u : Tally) (task : Task) (found : ℕ) : Type 0 where
  pub test : root_test u task found ≡ true
  pub some : is_queue task ≡ true → (found == 0) ≡ false

abbrev pub hazard_finds : Tally → Task → HazardAt → ℕ → Type 0
hazard_finds u task FirstLink found = Found u task found
hazard_finds u task (PublishLink link) found = Unit {0}
hazard_finds u task (CheckLink link) found = Found u task found

abbrev pub at_finds : Tally → Task → ProtectAt → ℕ → Type 0
at_finds u task (ByHazard at) found = hazard_finds u task at found
at_finds u task at found = Unit {0}

abbrev pub why_finds : Tally → Why → Base → ℕ → Type 0
why_finds u (Opens task) (Protect aim index root steps at) found = at_finds u task at found
why_finds u why base found = Unit {0}

pub found_good : (u : Tally) (task : Task) (lost found : ℕ) → Found u task found → task_good u task lost (task_root u.buckets task) found ≡ true
found_good u (Gets key) lost found f = refl
found_good u (Changes kept) lost found f = or_left_true (root_test u (Changes kept) found) (nat_le (lost + 1) (changes_so_far u kept)) f.test
found_good u (Holds key) lost found f = refl
found_good u (Enqueues kept) lost found f =
    both (not (found == 0)) (since_test (u.tail == found) lost (passes_so_far u kept)) (rw (f.some refl) refl) (or_left_true (u.tail == found) (nat_le (lost + 1) (passes_so_far u kept)) f.test)
found_good u Dequeues lost found f =
    both (not (found == 0)) (since_test (u.head == found) lost u.takes) (rw (f.some refl) refl) (or_left_true (u.head == found) (nat_le (lost + 1) u.takes) f.test)

-- a protection that ends with a good link
link_good : (u : Tally) (task : Task) (lost : ℕ) (root : Root) (link era : ℕ) → task_good u task lost root link ≡ true → EndGood u task lost root (Ends (Protected (protect_end link era)))
link_good u task lost root link era h = by_link (link == 0) refl
  where
    by_link : (b : Bool) → (link == 0) ≡ b → EndGood u task lost root (Ends (Protected (if b then protect_ends.Null else protect_ends.Held (link - 1) era)))
    by_link true e = subst (λ (x : ℕ). task_good u task lost root x ≡ true) (number_is link 0 e) h
    by_link false e = let x : link ≡ link - 1 + 1 = grind (arith, nat_tests, e) in subst (λ (y : ℕ). task_good u task lost root y ≡ true) x h

hazard_end : (u : Tally) (task : Task) (lost index : ℕ) (root : Root) (n : ℕ) (at : HazardAt) (post : Post) (found : ℕ) → hazard_finds u task at found → EndGood u task lost (task_root u.buckets task) (hazard_turn Alone index root n at post found).outcome
hazard_end u task lost index root n FirstLink post found f =
    if_by (found == 0) (protected Alone index root n found 0 post) (goes post [] (Protect Alone index root n (ByHazard (PublishLink found)))) (λ (t : Turn). EndGood u task lost (task_root u.buckets task) t.outcome)
    (λ e. link_good u task lost (task_root u.buckets task) found 0 (found_good u task lost found f)) (λ e. tt)
hazard_end u task lost index root n (PublishLink link) post found f = tt
hazard_end u task lost index root n (CheckLink link) post found f =
    if_by (found == link || found == 0) (protected Alone index root n found 0 post) (goes post [] (Protect Alone index root n (ByHazard (PublishLink found)))) (λ (t : Turn). EndGood u task lost (task_root u.buckets task) t.outcome)
    (λ e. link_good u task lost (task_root u.buckets task) found 0 (found_good u task lost found f)) (λ e. tt)

-- what is known of rounds where a protection goes on
abbrev pub GoesPaced : Tally → Task → ℕ → Outcome → Type 0
GoesPaced u task lost (Goes base) = open_paced u task base lost
GoesPaced u task lost (Ends ending) = Unit {0}

hazard_goes : (u : Tally) (task : Task) (lost index : ℕ) (root : Root) (n : ℕ) (at : HazardAt) (post : Post) (found : ℕ) → hazard_paced u task at lost → task_paced u task (hazard_lost at found lost) → hazard_finds u task at found
    → GoesPaced u task (hazard_lost at found lost) (hazard_turn Alone index root n at post found).outcome
hazard_goes u task lost index root n FirstLink post found p q f =
    if_by (found == 0) (protected Alone index root n found 0 post) (goes post [] (Protect Alone index root n (ByHazard (PublishLink found)))) (λ (t : Turn). GoesPaced u task lost t.outcome)
    (λ e. tt) (λ e. record { lost_few = most_of u task lost q; moved = or_left_true (root_test u task found) (nat_le (lost + 1) (task_most u task)) f.test })
hazard_goes u task lost index root n (PublishLink link) post found p q f = p
hazard_goes u task lost index root n (CheckLink link) post found p q f =
    let more : ℕ = hazard_lost (CheckLink link) found lost in
    if_by (found == link || found == 0) (protected Alone index root n found 0 post) (goes post [] (Protect Alone index root n (ByHazard (PublishLink found)))) (λ (t : Turn). GoesPaced u task more t.outcome)
    (λ e. tt) (λ e. record { lost_few = most_of u task more q; moved = or_left_true (root_test u task found) (nat_le (more + 1) (task_most u task)) f.test })

-- another protection goes on with no published link
at_plain : (u : Tally) (task : Task) (scheme : SchemeKind) (most lost : ℕ) (at : ProtectAt) → protect_fits scheme most at ≡ true → publishes_rows scheme ≡ false → task_paced u task lost → at_paced u task at lost
at_plain u task scheme most lost (ByHazard at) f r p = absurd (no_truth (sym r ∙ f))
at_plain u task scheme most lost at f r p = p

open_plain : (u : Tally) (task : Task) (c : Config) (lost : ℕ) (base : Base) → base_fits c base ≡ true → publishes_rows c.scheme ≡ false → task_paced u task lost → open_paced u task base lost
open_plain u task c lost (Protect aim index root steps at) f r p = at_plain u task c.scheme c.tries lost at f r p
open_plain u task c lost base f r p = p

goes_plain : (u : Tally) (task : Task) (layout : Layout) (lost : ℕ) (post : Post) (outcome : Outcome) → Passed (PhaseFits layout) (Opens task) post outcome → publishes_rows layout.config.scheme ≡ false → task_paced u task lost → GoesPaced u task lost outcome
goes_plain u task layout lost post (Goes base) m r p = open_plain u task layout.config lost base m.fits r p
goes_plain u task layout lost post (Ends ending) m r p = tt

-- the protection of an own root, at an index that counts
own_opens : (u : Tally) (rounds : ℕ) (task : Task) (desk : Desk) (post : Post) (told : List Event) (outcome : Outcome) (lost : ℕ) → task_paced u task lost → Tells lost (rounds_told u.rows rounds told) outcome → EndsWell outcome → EndGood u task lost (task_root u.buckets task) outcome → GoesPaced u task lost outcome
    → TurnPaced u rounds (resumed (Opens task) desk post told outcome)
own_opens u rounds task desk post told (Goes base) lost p t w g q = rw t q
own_opens u rounds task desk post told (Ends (Protected (protect_ends.Held slot era))) lost p t w g q = opened_row_paced u rounds task slot post desk told lost t (good_since u task lost (slot + 1) p g)
own_opens u rounds task desk post told (Ends (Protected protect_ends.Null)) lost p t w g q = by_queue (is_queue task) refl
  where
    by_queue : (b : Bool) → is_queue task ≡ b → TurnPaced u rounds (steps.opened_null task post desk told)
    by_queue true d = absurd (let x = never_null u task lost d g in cc)
    by_queue false d = opened_null_paced u rounds task post desk told lost d t (good_since u task lost 0 p g)
own_opens u rounds task desk post told (Ends Done) lost p t w g q = absurd (cc)
own_opens u rounds task desk post told (Ends (Followed ending)) lost p t w g q = absurd (cc)
own_opens u rounds task desk post told (Ends (Allocated ending)) lost p t w g q = absurd (cc)
own_opens u rounds task desk post told (Ends (Retired life)) lost p t w g q = absurd (cc)
own_opens u rounds task desk post told (Ends (Clocked time)) lost p t w g q = absurd (cc)

-- a hold where index 2 does not count
hold_opens : (u : Tally) (rounds key : ℕ) (desk : Desk) (post : Post) (told : List Event) (outcome : Outcome) → rounds_told u.rows rounds told ≡ 0 → EndsWell outcome → GoesPaced u (Holds key) 0 outcome → TurnPaced u rounds (resumed (Opens (Holds key)) desk post told outcome)
hold_opens u rounds key desk post told (Goes base) e w q = rw (e, none_lost (is_told base)) q
hold_opens u rounds key desk post told (Ends (Protected (protect_ends.Held slot era))) e w q = tt
hold_opens u rounds key desk post told (Ends (Protected protect_ends.Null)) e w q = clearing_paced u rounds (Holds key) (Answering answers.Nothing) post desk told tt
hold_opens u rounds key desk post told (Ends Done) e w q = absurd (cc)
hold_opens u rounds key desk post told (Ends (Followed ending)) e w q = absurd (cc)
hold_opens u rounds key desk post told (Ends (Allocated ending)) e w q = absurd (cc)
hold_opens u rounds key desk post told (Ends (Retired life)) e w q = absurd (cc)
hold_opens u rounds key desk post told (Ends (Clocked time)) e w q = absurd (cc)

-- what is known of a seat whose machine makes its step, with the counts after it
pub record Steps (w : World) (i : ℕ) (u : Tally) (why : Why) (base : Base) : Type 0 where
  pub at : (w.seat i).phase ≡ Runs why base
  pub run : Run w.layout why base (w.seat i).post
  pub rows : u.rows ≡ publishes_rows w.layout.config.scheme
  pub buckets : u.buckets ≡ w.layout.config.buckets
  pub paced : why_paced u (w.seat i).rounds base why
  pub fits : why_fit w.layout.config (w.seat i).rounds base why
  pub good : (x : ℕ) → carries_in (w.mem Clock) (upper (w.seat i).post.span) (Runs why base) x ≡ true → why_good u (w.seat i).rounds base why (root_base base) x ≡ true
  pub moved : (head tail parent index slot era n : ℕ) → why ≡ FollowsHead head tail → base ≡ Reload parent index slot era n → (finds w i == parent + 1) ≡ false → (w.seat i).rounds ≤ u.takes
  pub linked : base_linked base
  pub loaded : why_finds u why base (finds w i)
  pub passed : Passed (PhaseFits w.layout) why (after base (counted (w.seat i).post) (finds w i)).post (after base (counted (w.seat i).post) (finds w i)).outcome

abbrev pub PacedAfter : World → ℕ → Tally → Why → Base → Type 0
PacedAfter w i u why base = TurnPaced u (w.seat i).rounds (run_turn why (offered w i).desk (after base (counted (w.seat i).post) (finds w i)))

pub fits_tell : (c : Config) (rounds : ℕ) (task : Task) (told : Bool) → counts_task (publishes_rows c.scheme) task ≡ true → opens_fit c rounds task told → tells_fit (rounds_most c task) rounds told
fits_tell c rounds (Gets key) told h f = f
fits_tell c rounds (Changes kept) told h f = f
fits_tell c rounds (Holds key) told h f = subst (λ (rows : Bool). hold_fit rows (rounds_most c (Holds key)) rounds told) h f
fits_tell c rounds (Enqueues kept) told h f = f
fits_tell c rounds Dequeues told h f = f

pub step_rows : (w : World) (i : ℕ) (u : Tally) (why : Why) (aim : Aim) (index : ℕ) (root : Root) (n : ℕ) (at : ProtectAt) → Steps w i u why (Protect aim index root n at) → u.rows ≡ by_rows at
step_rows w i u why aim index root n at s = s.rows ∙ fit_rows w.layout.config.scheme w.layout.config.tries at s.run.fits

-- what it tells
pub own_tells : (w : World) (i : ℕ) (u : Tally) (task : Task) (index : ℕ) (root : Root) (n : ℕ) (at : ProtectAt) → Steps w i u (Opens task) (Protect Alone index root n at) → counts_task (publishes_rows w.layout.config.scheme) task ≡ true
    → Tells (lost_after at (finds w i) (lost_by (w.seat i).rounds (is_told (Protect Alone index root n at)))) (rounds_told u.rows (w.seat i).rounds (protect_turn Alone index root (bump n) at (counted (w.seat i).post) (finds w i)).told) (protect_turn Alone index root (bump n) at (counted (w.seat i).post) (finds w i)).outcome
own_tells w i u task index root n at s z =
    let c : Config = w.layout.config in
    let r : ℕ = (w.seat i).rounds in
    let base : Base = Protect Alone index root n at in
    let t : Turn = protect_turn Alone index root (bump n) at (counted (w.seat i).post) (finds w i) in
    let k : counts_at (by_rows at) index ≡ true = task_counts (by_rows at) task index s.run.shape.at (subst (λ (rows : Bool). counts_task rows task ≡ true) (fit_rows c.scheme c.tries at s.run.fits) z) in
    let h = protect_tells r index root n (bump n) at (counted (w.seat i).post) (finds w i) k (own_root c.buckets task root s.run.shape.of) (once_told (rounds_most c task) r (is_told base) (fits_tell c r task (is_told base) z s.fits)) s.linked in
    subst (λ (rows : Bool). Tells (lost_after at (finds w i) (lost_by r (is_told base))) (rounds_told rows r t.told) t.outcome) (sym (step_rows w i u (Opens task) Alone index root n at s)) h

other_steady : (w : World) (i : ℕ) (u : Tally) (why : Why) (aim : Aim) (index : ℕ) (root : Root) (n : ℕ) (at : ProtectAt) → Steps w i u why (Protect aim index root n at) → counts_at (by_rows at) index ≡ false
    → rounds_told u.rows (w.seat i).rounds (protect_turn aim index root (bump n) at (counted (w.seat i).post) (finds w i)).told ≡ (w.seat i).rounds
other_steady w i u why aim index root n at s z =
    subst (λ (rows : Bool). rounds_told rows (w.seat i).rounds (protect_turn aim index root (bump n) at (counted (w.seat i).post) (finds w i)).told ≡ (w.seat i).rounds) (sym (step_rows w i u why aim index root n at s))
    (protect_steady (w.seat i).rounds aim index root (bump n) at (counted (w.seat i).post) (finds w i) z)

-- a link that is another than what the root leads to
apart_by : (root found link : ℕ) → (root == found) ≡ true → (found == link) ≡ false → (root == link) ≡ false
apart_by root found link t e = grind (arith, nat_tests, t, e)

other_test : (u : Tally) (task : Task) (found link : ℕ) → root_test u task found ≡ true → (found == link) ≡ false → root_test u task link ≡ false
other_test u (Gets key) found link t e = apart_by (u.root (key % u.buckets)) found link t e
other_test u (Changes kept) found link t e = apart_by (u.root (key_of kept.change % u.buckets)) found link t e
other_test u (Holds key) found link t e = apart_by (u.root (key % u.buckets)) found link t e
other_test u (Enqueues kept) found link t e = apart_by u.tail found link t e
other_test u Dequeues found link t e = apart_by u.head found link t e

hazard_few : (u : Tally) (task : Task) (lost : ℕ) (at : HazardAt) (found : ℕ) → hazard_paced u task at lost → hazard_finds u task at found → task_paced u task (hazard_lost at found lost)
hazard_few u task lost FirstLink found p f = p
hazard_few u task lost (PublishLink link) found p f = paced_of u task lost p.lost_few
hazard_few u task lost (CheckLink link) found p f =
    if_by (found == link) lost (lost + 1) (λ (more : ℕ). task_paced u task more) (λ e. paced_of u task lost p.lost_few)
    (λ e. paced_of u task (lost + 1) (lost_more (root_test u task link) lost (task_most u task) (other_test u task found link f.test e) p))

-- what is known of the step of an own protection, where its round may have been lost
pub record Opened (u : Tally) (task : Task) (lost : ℕ) (outcome : Outcome) : Type 0 where
  pub few : task_paced u task lost
  pub good : EndGood u task lost (task_root u.buckets task) outcome
  pub goes : GoesPaced u task lost outcome

pub plain_lost : (at : ProtectAt) (found lost : ℕ) → by_rows at ≡ false → lost_after at found lost ≡ lost
plain_lost (ByHazard at) found lost b = absurd (cc)
plain_lost at found lost b = refl

plain_opened : (w : World) (i : ℕ) (u : Tally) (task : Task) (index : ℕ) (root : Root) (n : ℕ) (at : ProtectAt) → Steps w i u (Opens task) (Protect Alone index root n at) → by_rows at ≡ false
    → Opened u task (lost_by (w.seat i).rounds (is_told (Protect Alone index root n at))) (protect_turn Alone index root (bump n) at (counted (w.seat i).post) (finds w i)).outcome
plain_opened w i u task index root n at s b =
    let base : Base = Protect Alone index root n at in
    let lost : ℕ = lost_by (w.seat i).rounds (is_told base) in
    let t : Turn = after base (counted (w.seat i).post) (finds w i) in
    let is : root ≡ task_root u.buckets task = s.run.shape.of ∙ ap (λ (b : ℕ). task_root b task) (sym s.buckets) in
    let c = protect_carries (w.mem Clock) index root (bump n) at (counted (w.seat i).post) (finds w i) (fit_clock w i (Opens task) Alone index root n at s.at) b in
    let g : EndGood u task lost root t.outcome = carried_good (w.mem Clock) (upper (w.seat i).post.span) at u task lost root t.outcome s.good c in
    let p : task_paced u task lost = open_task u task base lost s.paced in
    record {
      few = p;
      good = subst (λ (x : Root). EndGood u task lost x t.outcome) is g;
      goes = goes_plain u task w.layout lost t.post t.outcome s.passed (fit_rows w.layout.config.scheme w.layout.config.tries at s.run.fits ∙ b) p;
    }

-- where rows are published
hazard_opened : (w : World) (i : ℕ) (u : Tally) (task : Task) (index : ℕ) (root : Root) (n : ℕ) (at : ProtectAt) → Steps w i u (Opens task) (Protect Alone index root n at) → by_rows at ≡ true
    → Opened u task (lost_after at (finds w i) (lost_by (w.seat i).rounds (is_told (Protect Alone index root n at)))) (protect_turn Alone index root (bump n) at (counted (w.seat i).post) (finds w i)).outcome
hazard_opened w i u task index root n (ByHazard at) s b =
    let lost : ℕ = lost_by (w.seat i).rounds (is_told (Protect Alone index root n (ByHazard at))) in
    let few = hazard_few u task lost at (finds w i) s.paced s.loaded in
    record {
      few = few;
      good = hazard_end u task (hazard_lost at (finds w i) lost) index root (bump n) at (counted (w.seat i).post) (finds w i) s.loaded;
      goes = hazard_goes u task lost index root (bump n) at (counted (w.seat i).post) (finds w i) s.paced few s.loaded;
    }
hazard_opened w i u task index root n at s b = absurd (cc)

pub own_opened : (w : World) (i : ℕ) (u : Tally) (task : Task) (index : ℕ) (root : Root) (n : ℕ) (at : ProtectAt) → Steps w i u (Opens task) (Protect Alone index root n at)
    → Opened u task (lost_after at (finds w i) (lost_by (w.seat i).rounds (is_told (Protect Alone index root n at)))) (protect_turn Alone index root (bump n) at (counted (w.seat i).post) (finds w i)).outcome
own_opened w i u task index root n at s = by_hazard (by_rows at) refl
  where
    by_hazard : (b : Bool) → by_rows at ≡ b → Opened u task (lost_after at (finds w i) (lost_by (w.seat i).rounds (is_told (Protect Alone index root n at)))) (protect_turn Alone index root (bump n) at (counted (w.seat i).post) (finds w i)).outcome
    by_hazard true b = hazard_opened w i u task index root n at s b
    by_hazard false b =
        subst (λ (lost : ℕ). Opened u task lost (protect_turn Alone index root (bump n) at (counted (w.seat i).post) (finds w i)).outcome)
        (sym (plain_lost at (finds w i) (lost_by (w.seat i).rounds (is_told (Protect Alone index root n at))) b)) (plain_opened w i u task index root n at s b)

own_protects : (w : World) (i : ℕ) (u : Tally) (task : Task) (index : ℕ) (root : Root) (n : ℕ) (at : ProtectAt) → Steps w i u (Opens task) (Protect Alone index root n at) → counts_task (publishes_rows w.layout.config.scheme) task ≡ true → PacedAfter w i u (Opens task) (Protect Alone index root n at)
own_protects w i u task index root n at s z =
    let r : ℕ = (w.seat i).rounds in
    let base : Base = Protect Alone index root n at in
    let t : Turn = after base (counted (w.seat i).post) (finds w i) in
    let o = own_opened w i u task index root n at s in
    own_opens u r task (offered w i).desk t.post t.told t.outcome (lost_after at (finds w i) (lost_by r (is_told base))) o.few (own_tells w i u task index root n at s z) (ends_well index root (bump n) at (counted (w.seat i).post) (finds w i)) o.good o.goes

hold_protects : (w : World) (i : ℕ) (u : Tally) (key index : ℕ) (root : Root) (n : ℕ) (at : ProtectAt) → Steps w i u (Opens (Holds key)) (Protect Alone index root n at)
    → (rows : Bool) → publishes_rows w.layout.config.scheme ≡ rows → PacedAfter w i u (Opens (Holds key)) (Protect Alone index root n at)
hold_protects w i u key index root n at s true b = own_protects w i u (Holds key) index root n at s b
hold_protects w i u key index root n at s false b =
    let t : Turn = after (Protect Alone index root n at) (counted (w.seat i).post) (finds w i) in
    let plain : by_rows at ≡ false = sym (fit_rows w.layout.config.scheme w.layout.config.tries at s.run.fits) ∙ b in
    let e : index ≡ 2 = s.run.shape.at in
    let none : (w.seat i).rounds ≡ 0 = subst (λ (rows : Bool). hold_fit rows (rounds_most w.layout.config (Holds key)) (w.seat i).rounds (is_told (Protect Alone index root n at))) b s.fits in
    hold_opens u (w.seat i).rounds key (offered w i).desk t.post t.told t.outcome (other_steady w i u (Opens (Holds key)) Alone index root n at s (rw (plain, e) refl) ∙ none)
    (ends_well index root (bump n) at (counted (w.seat i).post) (finds w i)) (goes_plain u (Holds key) w.layout 0 t.post t.outcome s.passed b (omega arith))

opens_protects : (w : World) (i : ℕ) (u : Tally) (task : Task) (index : ℕ) (root : Root) (n : ℕ) (at : ProtectAt) → Steps w i u (Opens task) (Protect Alone index root n at) → PacedAfter w i u (Opens task) (Protect Alone index root n at)
opens_protects w i u (Gets key) index root n at s = own_protects w i u (Gets key) index root n at s refl
opens_protects w i u (Changes kept) index root n at s = own_protects w i u (Changes kept) index root n at s refl
opens_protects w i u (Holds key) index root n at s = hold_protects w i u key index root n at s (publishes_rows w.layout.config.scheme) refl
opens_protects w i u (Enqueues kept) index root n at s = own_protects w i u (Enqueues kept) index root n at s refl
opens_protects w i u Dequeues index root n at s = own_protects w i u Dequeues index root n at s refl

opens_step : (w : World) (i : ℕ) (u : Tally) (task : Task) (base : Base) → Steps w i u (Opens task) base → PacedAfter w i u (Opens task) base
opens_step w i u task (Begin LoadLower) s = s.paced
opens_step w i u task (Begin (PublishSpan era)) s = opening_paced u (w.seat i).rounds task (with_span (counted (w.seat i).post) (from_to era era)) s.paced
opens_step w i u task (Protect Alone index root n at) s = opens_protects w i u task index root n at s
opens_step w i u task (Protect Follows index root n at) s = absurd (let e = follows_alone s.run.shape.aimed in cc)
opens_step w i u task (Reload parent index slot era n) s = absurd (let e = s.run.suited in cc)
opens_step w i u task (Clear rows index) s = absurd (let e = s.run.suited in cc)
opens_step w i u task Finish s = absurd (let e = s.run.suited in cc)
opens_step w i u task (Release index) s = absurd (let e = s.run.suited in cc)
opens_step w i u task (Allocate at) s = absurd (let e = s.run.suited in cc)
opens_step w i u task (Write slot row place) s = absurd (let e = s.run.suited in cc)
opens_step w i u task (GiveUp slot) s = absurd (let e = s.run.suited in cc)
opens_step w i u task (Retire at) s = absurd (let e = s.run.suited in cc)
opens_step w i u task (Move at) s = absurd (let e = s.run.suited in cc)

-- a follow

follow_resumes : (u : Tally) (rounds head tail : ℕ) (desk : Desk) (post : Post) (told : List Event) (outcome : Outcome) → head_since u head (rounds - 1) → lag_since u head (tail == head + 1) (rounds - 1) → rounds_told u.rows rounds told ≡ rounds → EndsFollow outcome → TurnPaced u rounds (resumed (FollowsHead head tail) desk post told outcome)
follow_resumes u rounds head tail desk post told (Goes base) i l e w = rw e (i, l)
follow_resumes u rounds head tail desk post told (Ends (Followed follow_ends.NoNext)) i l e w = followed_paced u rounds head tail follow_ends.NoNext post desk told i l e tt
follow_resumes u rounds head tail desk post told (Ends (Followed (follow_ends.Followed slot))) i l e w = absurd (cc)
follow_resumes u rounds head tail desk post told (Ends (Followed (follow_ends.RootMoved seen))) i l e w = absurd (cc)
follow_resumes u rounds head tail desk post told (Ends Done) i l e w = absurd (cc)
follow_resumes u rounds head tail desk post told (Ends (Protected ending)) i l e w = absurd (cc)
follow_resumes u rounds head tail desk post told (Ends (Allocated ending)) i l e w = absurd (cc)
follow_resumes u rounds head tail desk post told (Ends (Retired life)) i l e w = absurd (cc)
follow_resumes u rounds head tail desk post told (Ends (Clocked time)) i l e w = absurd (cc)

reload_paced : (u : Tally) (rounds head tail parent index slot n : ℕ) (post : Post) (desk : Desk) (found : ℕ) → (index == 0) ≡ false → head_since u head (rounds - 1) → lag_since u head (tail == head + 1) (rounds - 1) → ((found == parent + 1) ≡ false → rounds ≤ u.takes) → TurnPaced u rounds (run_turn (FollowsHead head tail) desk (after_reload parent index slot n post found))
reload_paced u rounds head tail parent index slot n post desk found z i l m =
    if_by (found == parent + 1) (ends (with_row post index slot) (events.Held index slot n ∷ []) (Followed (follow_ends.Followed slot))) (ends post [] (Followed (follow_ends.RootMoved found))) (λ (t : Turn). TurnPaced u rounds (run_turn (FollowsHead head tail) desk t))
    (λ e. followed_paced u rounds head tail (follow_ends.Followed slot) (with_row post index slot) desk (events.Held index slot n ∷ []) i l (reload_steady u.rows rounds index z) tt)
    (λ e. followed_paced u rounds head tail (follow_ends.RootMoved found) post desk [] i l refl (m e))

follows_step : (w : World) (i : ℕ) (u : Tally) (head tail : ℕ) (base : Base) → Steps w i u (FollowsHead head tail) base → PacedAfter w i u (FollowsHead head tail) base
follows_step w i u head tail (Protect Follows index root n at) s =
    let t : Turn = after (Protect Follows index root n at) (counted (w.seat i).post) (finds w i) in
    follow_resumes u (w.seat i).rounds head tail (offered w i).desk t.post t.told t.outcome s.paced.0 s.paced.1 (other_steady w i u (FollowsHead head tail) Follows index root n at s (one_uncounted (by_rows at) index s.run.shape.at)) (ends_follow index root (bump n) at (counted (w.seat i).post) (finds w i))
follows_step w i u head tail (Protect Alone index root n at) s = absurd (let e = follows_alone (sym s.run.shape.aimed) in cc)
follows_step w i u head tail (Reload parent index slot era n) s =
    let z : (index == 0) ≡ false = (let e : index ≡ 1 = s.run.shape.at in rw e refl) in
    reload_paced u (w.seat i).rounds head tail parent index slot (bump n) (counted (w.seat i).post) (offered w i).desk (finds w i) z s.paced.0 s.paced.1 (s.moved head tail parent index slot era n refl refl)
follows_step w i u head tail (Begin at) s = absurd (let e = s.run.suited in cc)
follows_step w i u head tail (Clear rows index) s = absurd (let e = s.run.suited in cc)
follows_step w i u head tail Finish s = absurd (let e = s.run.suited in cc)
follows_step w i u head tail (Release index) s = absurd (let e = s.run.suited in cc)
follows_step w i u head tail (Allocate at) s = absurd (let e = s.run.suited in cc)
follows_step w i u head tail (Write slot row place) s = absurd (let e = s.run.suited in cc)
follows_step w i u head tail (GiveUp slot) s = absurd (let e = s.run.suited in cc)
follows_step w i u head tail (Retire at) s = absurd (let e = s.run.suited in cc)
follows_step w i u head tail (Move at) s = absurd (let e = s.run.suited in cc)

-- a row is filled

filler : (c : Config) (rounds : ℕ) (task : Task) → fills_fit c rounds task → fills_something task ≡ true
filler c rounds (Gets key) f = absurd (cc)
filler c rounds (Changes kept) f = refl
filler c rounds (Holds key) f = absurd (cc)
filler c rounds (Enqueues kept) f = refl
filler c rounds Dequeues f = absurd (cc)

walking_paced : (u : Tally) (rounds : ℕ) (task : Task) (birth : ℕ) (post : Post) (desk : Desk) (walk : Option Walk) → fills_paced u task (rounds - 1) → fills_something task ≡ true → TurnPaced u rounds (run_turn (Fills task) desk (walking birth post walk))
walking_paced u rounds task birth post desk None f h = filled_by_paced u rounds task allocate_ends.Full post desk [] f h refl
walking_paced u rounds task birth post desk (Some walk) f h = f

allocates_step : (w : World) (i : ℕ) (u : Tally) (task : Task) (at : AllocateAt) → Steps w i u (Fills task) (Allocate at) → PacedAfter w i u (Fills task) (Allocate at)
allocates_step w i u task LoadBirth s = s.paced
allocates_step w i u task (ClaimSlot birth walk) s =
    let post : Post = counted (w.seat i).post in
    if_by (is_claimed (finds w i) walk.slot) (walking birth post (walk_past post.layout.config.slots walk (finds w i))) (goes (record post { cursor = next_slot post.layout.config.slots walk.slot }) (events.Give walk.slot birth ∷ []) (Allocate (StoreLife birth walk.slot)))
    (λ (t : Turn). TurnPaced u (w.seat i).rounds (run_turn (Fills task) (offered w i).desk t))
    (λ e. walking_paced u (w.seat i).rounds task birth post (offered w i).desk (walk_past post.layout.config.slots walk (finds w i)) s.paced (filler w.layout.config (w.seat i).rounds task s.fits)) (λ e. s.paced)
allocates_step w i u task (StoreLife birth slot) s =
    filled_by_paced u (w.seat i).rounds task (allocate_ends.Given slot birth) (counted (w.seat i).post) (offered w i).desk [] s.paced (filler w.layout.config (w.seat i).rounds task s.fits) refl

writes_paced : (u : Tally) (rounds : ℕ) (task : Task) (slot : ℕ) (row : RowOf) (place : ℕ) (post : Post) (desk : Desk) → fills_paced u task (rounds - 1) → fills_something task ≡ true → TurnPaced u rounds (run_turn (Fills task) desk (after_write slot row place post))
writes_paced u rounds task slot row place post desk f h =
    if_by (place == last_written row) (ends post [] Done) (goes post [] (Write slot row (place + 1))) (λ (t : Turn). TurnPaced u rounds (run_turn (Fills task) desk t)) (λ e. written_paced u rounds task post desk [] f h refl) (λ e. f)

fills_step : (w : World) (i : ℕ) (u : Tally) (task : Task) (base : Base) → Steps w i u (Fills task) base → PacedAfter w i u (Fills task) base
fills_step w i u task (Allocate at) s = allocates_step w i u task at s
fills_step w i u task (Write slot row place) s = writes_paced u (w.seat i).rounds task slot row place (counted (w.seat i).post) (offered w i).desk s.paced (filler w.layout.config (w.seat i).rounds task s.fits)
fills_step w i u task (Begin at) s = absurd (let e = s.run.suited in cc)
fills_step w i u task (Protect aim index root n at) s = absurd (let e = s.run.suited in cc)
fills_step w i u task (Reload parent index slot era n) s = absurd (let e = s.run.suited in cc)
fills_step w i u task (Clear rows index) s = absurd (let e = s.run.suited in cc)
fills_step w i u task Finish s = absurd (let e = s.run.suited in cc)
fills_step w i u task (Release index) s = absurd (let e = s.run.suited in cc)
fills_step w i u task (GiveUp slot) s = absurd (let e = s.run.suited in cc)
fills_step w i u task (Retire at) s = absurd (let e = s.run.suited in cc)
fills_step w i u task (Move at) s = absurd (let e = s.run.suited in cc)

-- the machines by which a round ends, and those that come once

after_next : (u : Tally) (rounds other : ℕ) (task : Task) (next : Next) → other ≡ rounds → next_paced u task next rounds → next_paced u task next other
after_next u rounds other task next e n = rw e n

retire_resumes : (u : Tally) (rounds : ℕ) (answer : Answer) (desk : Desk) (post : Post) (told : List Event) (outcome : Outcome) → TurnPaced u rounds (resumed (Retires answer) desk post told outcome)
retire_resumes u rounds answer desk post told (Goes base) = tt
retire_resumes u rounds answer desk post told (Ends ending) = retired_paced u rounds answer ending post desk told

advance_resumes : (u : Tally) (rounds : ℕ) (desk : Desk) (post : Post) (told : List Event) (outcome : Outcome) → TurnPaced u rounds (resumed Advances desk post told outcome)
advance_resumes u rounds desk post told (Goes base) = tt
advance_resumes u rounds desk post told (Ends ending) = advanced_paced u rounds ending post desk told

tidy_resumes : (u : Tally) (rounds : ℕ) (later : AfterScan) (desk : Desk) (post : Post) (told : List Event) (outcome : Outcome) → rounds_told u.rows rounds told ≡ rounds → later_paced u later rounds → TurnPaced u rounds (resumed (Tidies later) desk post told outcome)
tidy_resumes u rounds later desk post told (Goes base) e l = rw e l
tidy_resumes u rounds later desk post told (Ends ending) e l = tidied_paced u rounds later ending post desk told e l

nexts_step : (w : World) (i : ℕ) (u : Tally) (next : Next) (base : Base) → Steps w i u (ClearsNext next) base → PacedAfter w i u (ClearsNext next) base
nexts_step w i u next (Clear rows index) s =
    let told : List Event = (after (Clear rows index) (counted (w.seat i).post) (finds w i)).told in
    clearing_paced u (w.seat i).rounds Dequeues next (withdrawn (counted (w.seat i).post) index) (offered w i).desk told (after_next u (w.seat i).rounds (rounds_told u.rows (w.seat i).rounds told) Dequeues next (base_steady u.rows (w.seat i).rounds (Clear rows index) (counted (w.seat i).post) (finds w i) refl) s.paced)
nexts_step w i u next (Begin at) s = absurd (let e = s.run.suited in cc)
nexts_step w i u next (Protect aim index root n at) s = absurd (let e = s.run.suited in cc)
nexts_step w i u next (Reload parent index slot era n) s = absurd (let e = s.run.suited in cc)
nexts_step w i u next Finish s = absurd (let e = s.run.suited in cc)
nexts_step w i u next (Release index) s = absurd (let e = s.run.suited in cc)
nexts_step w i u next (Allocate at) s = absurd (let e = s.run.suited in cc)
nexts_step w i u next (Write slot row place) s = absurd (let e = s.run.suited in cc)
nexts_step w i u next (GiveUp slot) s = absurd (let e = s.run.suited in cc)
nexts_step w i u next (Retire at) s = absurd (let e = s.run.suited in cc)
nexts_step w i u next (Move at) s = absurd (let e = s.run.suited in cc)

clears_step : (w : World) (i : ℕ) (u : Tally) (task : Task) (next : Next) (base : Base) → Steps w i u (Clears task next) base → PacedAfter w i u (Clears task next) base
clears_step w i u task next (Clear rows index) s =
    let told : List Event = (after (Clear rows index) (counted (w.seat i).post) (finds w i)).told in
    finishing_paced u (w.seat i).rounds task next (withdrawn (counted (w.seat i).post) index) (offered w i).desk told (after_next u (w.seat i).rounds (rounds_told u.rows (w.seat i).rounds told) task next (base_steady u.rows (w.seat i).rounds (Clear rows index) (counted (w.seat i).post) (finds w i) refl) s.paced)
clears_step w i u task next (Begin at) s = absurd (let e = s.run.suited in cc)
clears_step w i u task next (Protect aim index root n at) s = absurd (let e = s.run.suited in cc)
clears_step w i u task next (Reload parent index slot era n) s = absurd (let e = s.run.suited in cc)
clears_step w i u task next Finish s = absurd (let e = s.run.suited in cc)
clears_step w i u task next (Release index) s = absurd (let e = s.run.suited in cc)
clears_step w i u task next (Allocate at) s = absurd (let e = s.run.suited in cc)
clears_step w i u task next (Write slot row place) s = absurd (let e = s.run.suited in cc)
clears_step w i u task next (GiveUp slot) s = absurd (let e = s.run.suited in cc)
clears_step w i u task next (Retire at) s = absurd (let e = s.run.suited in cc)
clears_step w i u task next (Move at) s = absurd (let e = s.run.suited in cc)

finishes_step : (w : World) (i : ℕ) (u : Tally) (task : Task) (next : Next) (base : Base) → Steps w i u (Finishes task next) base → PacedAfter w i u (Finishes task next) base
finishes_step w i u task next Finish s = closed_paced u (w.seat i).rounds task next (with_span (counted (w.seat i).post) None) (offered w i).desk (reserves_span (counted (w.seat i).post) None) s.paced
finishes_step w i u task next (Begin at) s = absurd (let e = s.run.suited in cc)
finishes_step w i u task next (Protect aim index root n at) s = absurd (let e = s.run.suited in cc)
finishes_step w i u task next (Reload parent index slot era n) s = absurd (let e = s.run.suited in cc)
finishes_step w i u task next (Clear rows index) s = absurd (let e = s.run.suited in cc)
finishes_step w i u task next (Release index) s = absurd (let e = s.run.suited in cc)
finishes_step w i u task next (Allocate at) s = absurd (let e = s.run.suited in cc)
finishes_step w i u task next (Write slot row place) s = absurd (let e = s.run.suited in cc)
finishes_step w i u task next (GiveUp slot) s = absurd (let e = s.run.suited in cc)
finishes_step w i u task next (Retire at) s = absurd (let e = s.run.suited in cc)
finishes_step w i u task next (Move at) s = absurd (let e = s.run.suited in cc)

gives_step : (w : World) (i : ℕ) (u : Tally) (answer : Answer) (base : Base) → Steps w i u (GivesUp answer) base → PacedAfter w i u (GivesUp answer) base
gives_step w i u answer (GiveUp slot) s = tt
gives_step w i u answer (Begin at) s = absurd (let e = s.run.suited in cc)
gives_step w i u answer (Protect aim index root n at) s = absurd (let e = s.run.suited in cc)
gives_step w i u answer (Reload parent index slot era n) s = absurd (let e = s.run.suited in cc)
gives_step w i u answer (Clear rows index) s = absurd (let e = s.run.suited in cc)
gives_step w i u answer Finish s = absurd (let e = s.run.suited in cc)
gives_step w i u answer (Release index) s = absurd (let e = s.run.suited in cc)
gives_step w i u answer (Allocate at) s = absurd (let e = s.run.suited in cc)
gives_step w i u answer (Write slot row place) s = absurd (let e = s.run.suited in cc)
gives_step w i u answer (Retire at) s = absurd (let e = s.run.suited in cc)
gives_step w i u answer (Move at) s = absurd (let e = s.run.suited in cc)

tidies_step : (w : World) (i : ℕ) (u : Tally) (later : AfterScan) (base : Base) → Steps w i u (Tidies later) base → PacedAfter w i u (Tidies later) base
tidies_step w i u later (Move at) s =
    let t : Turn = after (Move at) (counted (w.seat i).post) (finds w i) in
    tidy_resumes u (w.seat i).rounds later (offered w i).desk t.post t.told t.outcome (base_steady u.rows (w.seat i).rounds (Move at) (counted (w.seat i).post) (finds w i) refl) s.paced
tidies_step w i u later (Begin at) s = absurd (let e = s.run.suited in cc)
tidies_step w i u later (Protect aim index root n at) s = absurd (let e = s.run.suited in cc)
tidies_step w i u later (Reload parent index slot era n) s = absurd (let e = s.run.suited in cc)
tidies_step w i u later (Clear rows index) s = absurd (let e = s.run.suited in cc)
tidies_step w i u later Finish s = absurd (let e = s.run.suited in cc)
tidies_step w i u later (Release index) s = absurd (let e = s.run.suited in cc)
tidies_step w i u later (Allocate at) s = absurd (let e = s.run.suited in cc)
tidies_step w i u later (Write slot row place) s = absurd (let e = s.run.suited in cc)
tidies_step w i u later (GiveUp slot) s = absurd (let e = s.run.suited in cc)
tidies_step w i u later (Retire at) s = absurd (let e = s.run.suited in cc)

releases_step : (w : World) (i : ℕ) (u : Tally) (let_go : LetGo) (base : Base) → Steps w i u (Releases let_go) base → PacedAfter w i u (Releases let_go) base
releases_step w i u let_go (Clear rows index) s =
    let t : Turn = after (Clear rows index) (counted (w.seat i).post) (finds w i) in
    released_paced u (w.seat i).rounds let_go (withdrawn (counted (w.seat i).post) index) (offered w i).desk t.told (base_steady u.rows (w.seat i).rounds (Clear rows index) (counted (w.seat i).post) (finds w i) refl ∙ s.fits)
releases_step w i u let_go (Release index) s =
    let t : Turn = after (Release index) (counted (w.seat i).post) (finds w i) in
    released_paced u (w.seat i).rounds let_go t.post (offered w i).desk t.told (base_steady u.rows (w.seat i).rounds (Release index) (counted (w.seat i).post) (finds w i) refl ∙ s.fits)
releases_step w i u let_go (Begin at) s = absurd (let e = s.run.suited in cc)
releases_step w i u let_go (Protect aim index root n at) s = absurd (let e = s.run.suited in cc)
releases_step w i u let_go (Reload parent index slot era n) s = absurd (let e = s.run.suited in cc)
releases_step w i u let_go Finish s = absurd (let e = s.run.suited in cc)
releases_step w i u let_go (Allocate at) s = absurd (let e = s.run.suited in cc)
releases_step w i u let_go (Write slot row place) s = absurd (let e = s.run.suited in cc)
releases_step w i u let_go (GiveUp slot) s = absurd (let e = s.run.suited in cc)
releases_step w i u let_go (Retire at) s = absurd (let e = s.run.suited in cc)
releases_step w i u let_go (Move at) s = absurd (let e = s.run.suited in cc)

pub run_paced : (w : World) (i : ℕ) (u : Tally) (why : Why) (base : Base) → Steps w i u why base → PacedAfter w i u why base
run_paced w i u (Opens task) base s = opens_step w i u task base s
run_paced w i u (FollowsHead head tail) base s = follows_step w i u head tail base s
run_paced w i u (Fills task) base s = fills_step w i u task base s
run_paced w i u (ClearsNext next) base s = nexts_step w i u next base s
run_paced w i u (Clears task next) base s = clears_step w i u task next base s
run_paced w i u (Finishes task next) base s = finishes_step w i u task next base s
run_paced w i u (GivesUp answer) base s = gives_step w i u answer base s
run_paced w i u (Retires answer) base s = let t : Turn = after base (counted (w.seat i).post) (finds w i) in retire_resumes u (w.seat i).rounds answer (offered w i).desk t.post t.told t.outcome
run_paced w i u (Tidies later) base s = tidies_step w i u later base s
run_paced w i u Advances base s = let t : Turn = after base (counted (w.seat i).post) (finds w i) in advance_resumes u (w.seat i).rounds (offered w i).desk t.post t.told t.outcome
run_paced w i u (Releases let_go) base s = releases_step w i u let_go base s
