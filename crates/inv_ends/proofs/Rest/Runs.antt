-- A step of a machine within a call leaves fewer steps, or a greater era is seen.
use Rattle.std.proofs.Common.{ℕ, ◌≡◌, ◌≤◌, ◌+◌, ◌-◌, Bool, true, false, [], ◌∷◌, arith, refl}
use Rattle.inv_ends.proofs.Rest.Amounts.{PhaseKnown}
use Rattle.inv_rows.specs.Shapes.Frame.{phase_left as stands_at, Left}
use Rattle.inv_rows.specs.model.Steps as steps
use Rattle.inv_rows.specs.model.Machine as machine
use Rattle.inv_rows.specs.model.Phases.Base.{Move as Moves, Protect, Allocate, Begin, Clear, Finish, GiveUp, Release, Reload, Retire, Write}
use Rattle.inv_rows.specs.defs.declared.call.Answer.TheVariants as answers
use Rattle.inv_rows.specs.model.declared.ends.ProtectEnd.TheVariants as protect_ends
use Rattle.inv_rows.specs.model.Calls.{AfterScan, CallTurn, Task, Why}
use Rattle.inv_rows.specs.model.Calls.Next.{Answering}
use Rattle.inv_rows.specs.model.Calls.Task.{Dequeues, Holds}
use Rattle.inv_rows.specs.model.Calls.Why.{Advances, FollowsHead, Opens, Retires, Tidies, Fills}
use Rattle.inv_rows.specs.model.Desks.{Desk}
use Rattle.inv_rows.specs.model.Machine.{protect_turn}
use Rattle.inv_rows.specs.model.Phases.{Base, Outcome, ProtectAt, Turn, goes, AllocateAt, Ending, RowOf, Walk, ends}
use Rattle.inv_rows.specs.model.Phases.Aim.{Alone}
use Rattle.inv_rows.specs.model.Phases.Ending.{Allocated, Clocked, Done, Followed, Protected, Retired}
use Rattle.inv_rows.specs.model.Phases.Outcome.{Ends, Goes}
use Rattle.inv_rows.specs.model.Phases.ProtectAt.{AnswerOwn, CheckClock, CheckOwnClock, CheckUpper, LoadAnswer, LoadClock, LoadLink, LoadOwnClock, LoadOwnLink, LoadWithin, PublishEra, PublishHelper, PublishRequest, RaiseUpper, TakeAnswer, WithdrawHelper, WithdrawRequest, ByHazard}
use Rattle.inv_rows.specs.model.Posts.{upper}
use Rattle.inv_rows.specs.model.Protect.{failed_once, protected}
use Rattle.inv_rows.specs.model.Rest.{eras_left, is_told, later_left, lost_by, phase_seen, room_most, round_left, rounds_most, scan_most, span_seen, task_left, ending_most, fill_left, has_walked, rounds_left, walks_after}
use Rattle.inv_rows.specs.model.SlowPath.{answer_in, lost_turn, own_request}
use Rattle.inv_rows.specs.model.Steps.{resumed, resume}
use Rattle.inv_rows.specs.model.declared.ends.ProtectEnd.{ProtectEnd}
use Rattle.inv_rows.specs.model.declared.post.Post.{Post}
use Rattle.inv_rows.specs.defs.declared.call.Answer.{Answer}
use Rattle.inv_rows.specs.defs.declared.event.Event.{Event}
use Rattle.inv_rows.specs.defs.declared.event.Root.{Root}
use Rattle.inv_rows.specs.defs.declared.lifetime.Interval.{Interval}
use Rattle.inv_ends.proofs.Rest.Closings.{clearing_left, turn_left}
use Rattle.inv_ends.proofs.Rest.Machines.{settles}
use Rattle.inv_ends.proofs.Rest.Opens.{opened_null_left, opened_row_left, lost_null_left}
use Rattle.inv_ends.proofs.Rest.Seen.{PostIs, ShowsSame}
use Rattle.inv_ends.proofs.Rest.Told.{Tells}
use Rattle.inv_ends.proofs.Rest.Ways.{advanced_left, followed_by_left, retired_by_left, tidied_left, filled_by_left, written_row_left}
use Rattle.inv_ends.specs.Losses.{InRound, fills_fit, rounds_in}
use Rattle.inv_rows.specs.words.Packed.{read_request}
use Rattle.inv_rows.specs.words.declared.config.Config.{Config}
use Rattle.inv_rows.specs.words.declared.layout.Layout.{Layout}
use Rattle.std.specs.Prelude.{List, length, Option, ◌==◌, Some, None, if◌then◌else◌, ◌||◌}
use Rattle.inv_rows.specs.defs.declared.event.Event.TheVariants as events
use Rattle.inv_rows.specs.model.Allocate.{is_claimed, next_slot, walk_past, walking}
use Rattle.inv_rows.specs.model.Phases.AllocateAt.{ClaimSlot, LoadBirth, StoreLife}
use Rattle.inv_rows.proofs.model.Facts.{if_by}
use Rattle.inv_rows.specs.model.Phases.HazardAt.{CheckLink, FirstLink, PublishLink}

-- steps and eras that a turn leaves
abbrev pub turn_total : Config → (clock rounds : ℕ) → CallTurn → ℕ
turn_total c clock rounds t = turn_left c rounds t + eras_left c (phase_seen (stands_at t.outcome) (span_seen clock t.post.span))

-- what comes after a machine shows the same era
pub total_is : (c : Config) (layout : Layout) (k clock rounds : ℕ) (span : Option Interval) (t : CallTurn) → Left (PostIs layout k span) ShowsSame t → turn_total c clock rounds t ≡ turn_left c rounds t + eras_left c (span_seen clock span)
total_is c layout k clock rounds span t l = rw (l.phase (span_seen clock t.post.span), l.post.same) refl

-- a protection of a task's own ends in no other way
abbrev pub EndsWell : Outcome → Type 0
EndsWell (Goes base) = Unit {0}
EndsWell (Ends (Protected ending)) = Unit {0}
EndsWell (Ends Done) = false ≡ true
EndsWell (Ends (Followed ending)) = false ≡ true
EndsWell (Ends (Allocated ending)) = false ≡ true
EndsWell (Ends (Retired life)) = false ≡ true
EndsWell (Ends (Clocked clock)) = false ≡ true

pub ends_well : (index : ℕ) (root : Root) (n : ℕ) (at : ProtectAt) (post : Post) (found : ℕ) → EndsWell (protect_turn Alone index root n at post found).outcome
ends_well index root n (LoadClock tries) post found = tt
ends_well index root n (PublishEra era tries) post found = tt
ends_well index root n (LoadLink era tries) post found = tt
ends_well index root n (CheckClock era tries link) post found =
    if_by (found == era) (protected Alone index root n link era post) (goes post [] (Protect Alone index root n (PublishEra found (failed_once tries)))) (λ (t : Turn). EndsWell t.outcome) (λ e. tt) (λ e. tt)
ends_well index root n PublishRequest post found = tt
ends_well index root n LoadOwnClock post found = tt
ends_well index root n (PublishHelper first era last) post found = tt
ends_well index root n (LoadOwnLink first era last) post found = tt
ends_well index root n (CheckOwnClock first era last link) post found =
    if_by (found == era) (goes post [] (Protect Alone index root n (AnswerOwn first era link))) (goes post [] (Protect Alone index root n (lost_turn first last found))) (λ (t : Turn). EndsWell t.outcome) (λ e. tt) (λ e. tt)
ends_well index root n (AnswerOwn first era link) post found =
    if_by (found == own_request post index root) (goes post [] (Protect Alone index root n (TakeAnswer link era))) (goes post [] (Protect Alone index root n (answer_in (read_request found)))) (λ (t : Turn). EndsWell t.outcome) (λ e. tt) (λ e. tt)
ends_well index root n (LoadAnswer first) post found = tt
ends_well index root n (TakeAnswer link era) post found = tt
ends_well index root n (WithdrawRequest link era) post found = tt
ends_well index root n (WithdrawHelper link era) post found = tt
ends_well index root n LoadWithin post found = tt
ends_well index root n (CheckUpper link) post found =
    if_by (found == upper post.span) (protected Alone index root n link found post) (goes post [] (Protect Alone index root n (RaiseUpper found))) (λ (t : Turn). EndsWell t.outcome) (λ e. tt) (λ e. tt)
ends_well index root n (RaiseUpper era) post found = tt
ends_well index root n (ByHazard FirstLink) post found =
    if_by (found == 0) (protected Alone index root n found 0 post) (goes post [] (Protect Alone index root n (ByHazard (PublishLink found)))) (λ (t : Turn). EndsWell t.outcome) (λ e. tt) (λ e. tt)
ends_well index root n (ByHazard (PublishLink link)) post found = tt
ends_well index root n (ByHazard (CheckLink link)) post found =
    if_by (found == link || found == 0) (protected Alone index root n found 0 post) (goes post [] (Protect Alone index root n (ByHazard (PublishLink found)))) (λ (t : Turn). EndsWell t.outcome) (λ e. tt) (λ e. tt)

-- where a machine has ended what comes after it shows the same era
abbrev pub EndLeft : Layout → ℕ → Option Interval → CallTurn → Outcome → Type 0
EndLeft layout k span t (Goes base) = Unit {0}
EndLeft layout k span t (Ends ending) = Left (PostIs layout k span) ShowsSame t

-- what is known of a call's turn once a machine has made its step
pub record After (c : Config) (layout : Layout) (k next rounds old : ℕ) (desk : Desk) (post : Post) (told : List Event) (outcome : Outcome) (t : CallTurn) : Type 0 where
  pub config : layout.config ≡ c
  pub settles : settles c old next post.span outcome
  pub left : EndLeft layout k post.span t outcome
  pub slots : PhaseKnown layout (stands_at t.outcome)

-- the protection of a task's root, at index 0

opened_left : (c : Config) (layout : Layout) (rounds : ℕ) (task : Task) (ending : ProtectEnd) (post : Post) (desk : Desk) (told : List Event) (lost : ℕ) → layout.config ≡ c → rounds_in c rounds told ≡ lost + 1 → lost ≤ rounds_most c task
    → PhaseKnown layout (stands_at (steps.opened task (Protected ending) post desk told).outcome)
    → turn_left c rounds (steps.opened task (Protected ending) post desk told) ≤ round_left c task + task_left c (length desk.list) task lost
opened_left c layout rounds task (protect_ends.Held slot era) post desk told lost t e h p = opened_row_left c rounds task slot post desk told lost e
opened_left c layout rounds task protect_ends.Null post desk told lost t e h p = opened_null_left c layout rounds task post desk told lost t e h p

pub opens_own : (c : Config) (layout : Layout) (k next rounds : ℕ) (task : Task) (base : Base) (desk : Desk) (post : Post) (told : List Event) (outcome : Outcome) (old : ℕ) (lost : ℕ)
    → lost ≤ rounds_most c task → Tells lost (rounds_in c rounds told) outcome → EndsWell outcome
    → After c layout k next rounds old desk post told outcome (resumed (Opens task) desk post told outcome)
    → turn_total c next rounds (resumed (Opens task) desk post told outcome) + 1 ≤ old + round_left c task + task_left c (length desk.list) task lost
opens_own c layout k next rounds task base desk post told (Goes other) old lost h t w a = let s = a.settles in rw t (omega (arith, s))
opens_own c layout k next rounds task base desk post told (Ends (Protected ending)) old lost h t w a =
    let s = a.settles in
    let o = opened_left c layout rounds task ending post desk told lost a.config t h a.slots in
    let i = total_is c layout k next rounds post.span (steps.opened task (Protected ending) post desk told) a.left in
    rw i (omega (arith, s, o))
opens_own c layout k next rounds task base desk post told (Ends Done) old lost h t w a = absurd (cc)
opens_own c layout k next rounds task base desk post told (Ends (Followed ending)) old lost h t w a = absurd (cc)
opens_own c layout k next rounds task base desk post told (Ends (Allocated ending)) old lost h t w a = absurd (cc)
opens_own c layout k next rounds task base desk post told (Ends (Retired life)) old lost h t w a = absurd (cc)
opens_own c layout k next rounds task base desk post told (Ends (Clocked clock)) old lost h t w a = absurd (cc)

-- where a reload finds null a round more is lost
pub opens_null : (c : Config) (layout : Layout) (k next rounds : ℕ) (task : Task) (desk : Desk) (post : Post) (told : List Event) (old lost : ℕ)
    → lost ≤ rounds_most c task → rounds_in c rounds told ≡ lost + 2
    → After c layout k next rounds old desk post told (Ends (Protected protect_ends.Null)) (resumed (Opens task) desk post told (Ends (Protected protect_ends.Null)))
    → turn_total c next rounds (resumed (Opens task) desk post told (Ends (Protected protect_ends.Null))) + 1 ≤ old + round_left c task + task_left c (length desk.list) task lost
opens_null c layout k next rounds task desk post told old lost h t a =
    let s = a.settles in
    let o = lost_null_left c layout rounds task post desk told lost a.config t h a.slots in
    let i = total_is c layout k next rounds post.span (steps.opened_null task post desk told) a.left in
    rw i (omega (arith, s, o))

-- a hold's, at index 2

hold_left : (c : Config) (rounds key : ℕ) (ending : ProtectEnd) (post : Post) (desk : Desk) (told : List Event) → turn_left c rounds (steps.opened (Holds key) (Protected ending) post desk told) ≤ 3
hold_left c rounds key (protect_ends.Held slot era) post desk told = omega arith
hold_left c rounds key protect_ends.Null post desk told = clearing_left c rounds (Holds key) (Answering answers.Nothing) post desk told

pub none_lost : (told : Bool) → lost_by 0 told ≡ 0
none_lost true = refl
none_lost false = refl

pub opens_hold : (c : Config) (layout : Layout) (k next rounds key : ℕ) (desk : Desk) (post : Post) (told : List Event) (outcome : Outcome) (old : ℕ)
    → rounds_in c rounds told ≡ 0 → EndsWell outcome
    → After c layout k next rounds old desk post told outcome (resumed (Opens (Holds key)) desk post told outcome)
    → turn_total c next rounds (resumed (Opens (Holds key)) desk post told outcome) + 1 ≤ old + round_left c (Holds key) + task_left c (length desk.list) (Holds key) 0
opens_hold c layout k next rounds key desk post told (Goes other) old t w a = let s = a.settles in rw (t, none_lost (is_told other)) (omega (arith, s))
opens_hold c layout k next rounds key desk post told (Ends (Protected ending)) old t w a =
    let s = a.settles in
    let o = hold_left c rounds key ending post desk told in
    let i = total_is c layout k next rounds post.span (steps.opened (Holds key) (Protected ending) post desk told) a.left in
    rw i (omega (arith, s, o))
opens_hold c layout k next rounds key desk post told (Ends Done) old t w a = absurd (cc)
opens_hold c layout k next rounds key desk post told (Ends (Followed ending)) old t w a = absurd (cc)
opens_hold c layout k next rounds key desk post told (Ends (Allocated ending)) old t w a = absurd (cc)
opens_hold c layout k next rounds key desk post told (Ends (Retired life)) old t w a = absurd (cc)
opens_hold c layout k next rounds key desk post told (Ends (Clocked clock)) old t w a = absurd (cc)

-- a follow
pub follows_on : (c : Config) (layout : Layout) (k next rounds head tail : ℕ) (desk : Desk) (post : Post) (told : List Event) (outcome : Outcome) (old : ℕ)
    → InRound (rounds_most c Dequeues) rounds → rounds_in c rounds told ≡ rounds
    → After c layout k next rounds old desk post told outcome (resumed (FollowsHead head tail) desk post told outcome)
    → turn_total c next rounds (resumed (FollowsHead head tail) desk post told outcome) + 1 ≤ old + 7 + task_left c (length desk.list) Dequeues (rounds - 1)
follows_on c layout k next rounds head tail desk post told (Goes other) old r e a = let s = a.settles in rw e (omega (arith, s))
follows_on c layout k next rounds head tail desk post told (Ends ending) old r e a =
    let s = a.settles in
    let o = followed_by_left c rounds head tail ending post desk told r e in
    let i = total_is c layout k next rounds post.span (steps.followed_by head tail ending post desk told) a.left in
    rw i (omega (arith, s, o))

-- a retirement
pub retires_on : (c : Config) (layout : Layout) (k next rounds : ℕ) (answer : Answer) (desk : Desk) (post : Post) (told : List Event) (outcome : Outcome) (old : ℕ)
    → After c layout k next rounds old desk post told outcome (resumed (Retires answer) desk post told outcome)
    → turn_total c next rounds (resumed (Retires answer) desk post told outcome) + 1 ≤ old + room_most c (length desk.list + 1)
retires_on c layout k next rounds answer desk post told (Goes other) old a = let s = a.settles in omega (arith, s)
retires_on c layout k next rounds answer desk post told (Ends ending) old a =
    let s = a.settles in
    let o = retired_by_left c rounds answer ending post desk told in
    let i = total_is c layout k next rounds post.span (steps.retired_by answer ending post desk told) a.left in
    rw i (omega (arith, s, o))

-- a move of the clock before a scan, and alone
pub tidies_on : (c : Config) (layout : Layout) (k next rounds : ℕ) (later : AfterScan) (desk : Desk) (post : Post) (told : List Event) (outcome : Outcome) (old : ℕ)
    → rounds_in c rounds told ≡ rounds
    → After c layout k next rounds old desk post told outcome (resumed (Tidies later) desk post told outcome)
    → turn_total c next rounds (resumed (Tidies later) desk post told outcome) + 1 ≤ old + scan_most c (length desk.list) + later_left c (length desk.list) rounds later
tidies_on c layout k next rounds later desk post told (Goes other) old e a = let s = a.settles in rw e (omega (arith, s))
tidies_on c layout k next rounds later desk post told (Ends ending) old e a =
    let s = a.settles in
    let o = tidied_left c rounds later ending post desk told e in
    let i = total_is c layout k next rounds post.span (steps.tidied later ending post desk told) a.left in
    rw i (omega (arith, s, o))

pub advances_on : (c : Config) (layout : Layout) (k next rounds : ℕ) (desk : Desk) (post : Post) (told : List Event) (outcome : Outcome) (old : ℕ)
    → After c layout k next rounds old desk post told outcome (resumed Advances desk post told outcome)
    → turn_total c next rounds (resumed Advances desk post told outcome) + 1 ≤ old
advances_on c layout k next rounds desk post told (Goes other) old a = let s = a.settles in omega (arith, s)
advances_on c layout k next rounds desk post told (Ends ending) old a =
    let s = a.settles in
    let o = advanced_left c rounds ending post desk told in
    let i = total_is c layout k next rounds post.span (steps.advanced ending post desk told) a.left in
    rw i (omega (arith, s, o))

-- a walk goes on as one, and ends with a row or none
abbrev pub Walks : Outcome → Type 0
Walks (Goes (Allocate at)) = Unit {0}
Walks (Goes (Begin at)) = false ≡ true
Walks (Goes (Protect aim index root n at)) = false ≡ true
Walks (Goes (Reload parent index slot era n)) = false ≡ true
Walks (Goes (Clear rows index)) = false ≡ true
Walks (Goes Finish) = false ≡ true
Walks (Goes (Release index)) = false ≡ true
Walks (Goes (Write slot row place)) = false ≡ true
Walks (Goes (GiveUp slot)) = false ≡ true
Walks (Goes (Retire at)) = false ≡ true
Walks (Goes (Moves at)) = false ≡ true
Walks (Ends (Allocated ending)) = Unit {0}
Walks (Ends Done) = false ≡ true
Walks (Ends (Protected ending)) = false ≡ true
Walks (Ends (Followed ending)) = false ≡ true
Walks (Ends (Retired life)) = false ≡ true
Walks (Ends (Clocked clock)) = false ≡ true

walks_walking : (birth : ℕ) (post : Post) (walk : Option Walk) → Walks (walking birth post walk).outcome
walks_walking birth post None = tt
walks_walking birth post (Some walk) = tt

pub walks_on : (at : AllocateAt) (post : Post) (found : ℕ) → Walks (machine.after (Allocate at) post found).outcome
walks_on LoadBirth post found = tt
walks_on (ClaimSlot birth walk) post found =
    if_by (is_claimed found walk.slot) (walking birth post (walk_past post.layout.config.slots walk found)) (goes (record post { cursor = next_slot post.layout.config.slots walk.slot }) (events.Give walk.slot birth ∷ []) (Allocate (StoreLife birth walk.slot)))
    (λ (t : Turn). Walks t.outcome) (λ e. walks_walking birth post (walk_past post.layout.config.slots walk found)) (λ e. tt)
walks_on (StoreLife birth slot) post found = tt

pub allocates_on : (c : Config) (layout : Layout) (k next rounds : ℕ) (task : Task) (desk : Desk) (post : Post) (told : List Event) (outcome : Outcome) (old : ℕ)
    → fills_fit c rounds task → rounds_in c rounds told ≡ rounds → Walks outcome
    → After c layout k next rounds old desk post told outcome (resumed (Fills task) desk post told outcome)
    → turn_total c next rounds (resumed (Fills task) desk post told outcome) + 1 ≤ old + fill_left c task + rounds_left c task (rounds - 1) + walks_after c (length desk.list) (has_walked task) + ending_most c (length desk.list)
allocates_on c layout k next rounds task desk post told (Goes (Allocate at)) old f e w a = let s = a.settles in rw e (omega (arith, s))
allocates_on c layout k next rounds task desk post told (Goes (Begin at)) old f e w a = absurd (cc)
allocates_on c layout k next rounds task desk post told (Goes (Protect aim index root n at)) old f e w a = absurd (cc)
allocates_on c layout k next rounds task desk post told (Goes (Reload parent index slot era n)) old f e w a = absurd (cc)
allocates_on c layout k next rounds task desk post told (Goes (Clear rows index)) old f e w a = absurd (cc)
allocates_on c layout k next rounds task desk post told (Goes Finish) old f e w a = absurd (cc)
allocates_on c layout k next rounds task desk post told (Goes (Release index)) old f e w a = absurd (cc)
allocates_on c layout k next rounds task desk post told (Goes (Write slot row place)) old f e w a = absurd (cc)
allocates_on c layout k next rounds task desk post told (Goes (GiveUp slot)) old f e w a = absurd (cc)
allocates_on c layout k next rounds task desk post told (Goes (Retire at)) old f e w a = absurd (cc)
allocates_on c layout k next rounds task desk post told (Goes (Moves at)) old f e w a = absurd (cc)
allocates_on c layout k next rounds task desk post told (Ends (Allocated ending)) old f e w a =
    let s = a.settles in
    let o = filled_by_left c layout rounds task ending post desk told a.config f e a.slots in
    let i = total_is c layout k next rounds post.span (steps.filled task (Allocated ending) post desk told) a.left in
    rw i (omega (arith, s, o))
allocates_on c layout k next rounds task desk post told (Ends Done) old f e w a = absurd (cc)
allocates_on c layout k next rounds task desk post told (Ends (Protected ending)) old f e w a = absurd (cc)
allocates_on c layout k next rounds task desk post told (Ends (Followed ending)) old f e w a = absurd (cc)
allocates_on c layout k next rounds task desk post told (Ends (Retired life)) old f e w a = absurd (cc)
allocates_on c layout k next rounds task desk post told (Ends (Clocked clock)) old f e w a = absurd (cc)

-- a row is written word by word
pub writes_on : (c : Config) (layout : Layout) (k next rounds : ℕ) (task : Task) (slot : ℕ) (row : RowOf) (place : ℕ) (desk : Desk) (post : Post) (last : Bool) (old : ℕ)
    → fills_fit c rounds task
    → After c layout k next rounds old desk post [] (if last then ends post [] Done else goes post [] (Write slot row (place + 1))).outcome (resumed (Fills task) desk post [] (if last then ends post [] Done else goes post [] (Write slot row (place + 1))).outcome)
    → turn_total c next rounds (resumed (Fills task) desk post [] (if last then ends post [] Done else goes post [] (Write slot row (place + 1))).outcome) + 1 ≤ old + 5 + task_left c (length desk.list) task (rounds - 1)
writes_on c layout k next rounds task slot row place desk post true old f a =
    let s = a.settles in
    let o = written_row_left c rounds task post desk [] f refl in
    let i = total_is c layout k next rounds post.span (steps.filled task Done post desk []) a.left in
    rw i (omega (arith, s, o))
writes_on c layout k next rounds task slot row place desk post false old f a = let s = a.settles in omega (arith, s)

-- a machine of one step
pub ends_on : (c : Config) (layout : Layout) (k next rounds : ℕ) (why : Why) (ending : Ending) (desk : Desk) (post : Post) (told : List Event) (old most : ℕ)
    → turn_left c rounds (resume why ending post desk told) + 1 ≤ most
    → After c layout k next rounds (1 + old) desk post told (Ends ending) (resume why ending post desk told)
    → turn_total c next rounds (resume why ending post desk told) + 1 ≤ most + old
ends_on c layout k next rounds why ending desk post told old most h a =
    let s = a.settles in
    let i = total_is c layout k next rounds post.span (resume why ending post desk told) a.left in
    rw i (omega (arith, s, h))
