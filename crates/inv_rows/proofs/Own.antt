-- What a step of a machine leaves of what its seat has found of the queue.
use Rattle.std.proofs.Common.{ℕ, ◌+◌, ◌≡◌, Bool, true, false, arith, refl, ap, ◌&&◌, sym, subst, List, [], ◌∷◌}
use Rattle.std.proofs.lemmas.Bool.Decides.{nat_tests}
use Rattle.std.specs.Prelude.{◌==◌, not, if◌then◌else◌, Option, Some, None, bit_or, bit_and}
use Rattle.wfe_core.specs.defs.declared.call.Answer.TheVariants as the_answers
use Rattle.wfe_core.specs.defs.declared.event.Event.TheVariants as events
use Rattle.wfe_core.specs.defs.declared.event.Event.{Event}
use Rattle.wfe_core.specs.declared.ends.FollowEnd.{FollowEnd}
use Rattle.wfe_core.specs.declared.ends.FollowEnd.TheVariants as follow_ends
use Rattle.wfe_core.specs.declared.ends.ProtectEnd.TheVariants as protect_ends
use Rattle.wfe_core.specs.declared.post.Post.{Post}
use Rattle.wfe_core.specs.Desks.{Desk}
use Rattle.wfe_core.specs.Phases.{Base, Ending, Ending as endings, goes, ends, AllocateAt, RetireAt, RowOf, Walk, Outcome, Goes, Ends, Turn, BeginAt, ProtectAt, MoveAt, MapRow, QueueRow}
use Rattle.wfe_core.specs.Phases.Ending.{Done, Protected, Followed, Allocated, Clocked}
use Rattle.wfe_core.specs.Change as alters
use Rattle.wfe_core.specs.Enqueue as enqueues
use Rattle.wfe_core.specs.Dequeue as dequeues
use Rattle.wfe_core.specs.Steps as steps
use Rattle.wfe_core.specs.Calls.{EnqueueKept, Task, Gets, Changes, Holds, Enqueues, Dequeues, Again, Answering, Why, Opens, FollowsHead, Fills, ClearsNext, Clears, Finishes, GivesUp, Retires, Tidies, Advances, Releases, Idle, Runs, CallTurn}
use Rattle.inv_rows.specs.Hands.{holds_slot, task_fills}
use Rattle.wfe_core.specs.words.Place.{Place, same}
use Rattle.wfe_core.specs.words.Place.Place.{Clock, Bucket, Head, Tail, Claim, Life, Row, Helper, Index, Interval, Request, PlaceOf}
use Rattle.wfe_core.specs.Memory as memory
use Rattle.wfe_core.specs.Memory.{written, Load, Store, Cas, Or, And, change}
use Rattle.wfe_core.specs.Phases.AllocateAt.{LoadBirth, ClaimSlot, StoreLife}
use Rattle.wfe_core.specs.Phases.RetireAt.{LoadLife, LoadRetire, StoreRetired}
use Rattle.wfe_core.specs.Phases.Base.{Begin, Protect, Reload, Clear, Finish, Release, Allocate, Write, GiveUp, Retire, Move}
use Rattle.wfe_core.specs.Machine as machine
use Rattle.wfe_core.specs.Machine.{base_move}
use Rattle.wfe_core.specs.Allocate.{is_claimed, walking, walk_past, walk_from, next_slot}
use Rattle.wfe_core.specs.WriteRow.{row_word}
use Rattle.wfe_core.specs.Steps.{run_turn}
use Rattle.wfe_core.specs.defs.declared.event.Root.{Root}
use Rattle.wfe_core.specs.Phases.BeginAt.{LoadLower, PublishSpan}
use Rattle.wfe_core.specs.Phases.ProtectAt.{LoadClock, PublishEra, LoadLink, CheckClock, PublishRequest, LoadOwnClock, PublishHelper, LoadOwnLink, CheckOwnClock, AnswerOwn, LoadAnswer, TakeAnswer, WithdrawRequest, WithdrawHelper, LoadWithin, CheckUpper, RaiseUpper, ByHazard}
use Rattle.wfe_core.specs.Phases.HazardAt.{FirstLink, PublishLink, CheckLink}
use Rattle.wfe_core.specs.Phases.MoveAt.{LoadEra, LoadRequest, ShowEra, LoadAsked, CheckEra, AnswerAsked, LoadReserved, HandOver, HideEra, HideLate, ExchangeClock}
use Rattle.inv_rows.specs.Queue.{Line, Walks, leads_in}
use Rattle.inv_rows.proofs.Words.{put_other}
use Rattle.inv_rows.specs.Chain.{next_of}
use Rattle.inv_rows.specs.Follow.{LoadsBase}
use Rattle.inv_rows.proofs.Quiet.{opening_quiet, phase_of, is_quiet, quiet_task, quiet_walks, clearing_quiet, clearing_next_quiet, closed_quiet, finishing_quiet, opened_null_quiet, tidied_quiet, advanced_quiet, released_quiet, retired_quiet, filled_quiet}
use Rattle.wfe_core.proofs.Facts.{no_truth}

-- an operation that may change a next link or the tail
abbrev pub is_link_place : Place → Bool
is_link_place Clock = false
is_link_place (Helper seat) = false
is_link_place (Index seat index) = false
is_link_place (Interval seat) = false
is_link_place (Request seat) = false
is_link_place (Bucket bucket) = false
is_link_place Head = false
is_link_place Tail = true
is_link_place (Claim word) = false
is_link_place (Life slot) = false
is_link_place (Row slot place) = true
is_link_place (PlaceOf seat) = false

abbrev pub is_linking : memory.Move → Bool
is_linking (Load place) = false
is_linking (Store place value) = is_link_place place
is_linking (Cas place old new) = is_link_place place
is_linking (Or place bits) = is_link_place place
is_linking (And place bits) = is_link_place place

row_apart : (s : ℕ) (p : Place) → is_link_place p ≡ false → same (Row s 0) p ≡ false
row_apart s Clock h = refl
row_apart s (Helper i) h = refl
row_apart s (Index i j) h = refl
row_apart s (Interval i) h = refl
row_apart s (Request i) h = refl
row_apart s (Bucket c) h = refl
row_apart s Head h = refl
row_apart s Tail h = absurd (no_truth (sym h))
row_apart s (Claim v) h = refl
row_apart s (Life t) h = refl
row_apart s (Row t r) h = absurd (no_truth (sym h))
row_apart s (PlaceOf i) h = refl

tail_apart : (p : Place) → is_link_place p ≡ false → same Tail p ≡ false
tail_apart Clock h = refl
tail_apart (Helper i) h = refl
tail_apart (Index i j) h = refl
tail_apart (Interval i) h = refl
tail_apart (Request i) h = refl
tail_apart (Bucket c) h = refl
tail_apart Head h = refl
tail_apart Tail h = absurd (no_truth (sym h))
tail_apart (Claim v) h = refl
tail_apart (Life t) h = refl
tail_apart (Row t r) h = absurd (no_truth (sym h))
tail_apart (PlaceOf i) h = refl

unlinked : (mem : Place → ℕ) (m : memory.Move) (q : Place) → ((p : Place) → is_link_place p ≡ false → same q p ≡ false) → is_linking m ≡ false → written mem m q ≡ mem q
unlinked mem (Load place) q f h = refl
unlinked mem (Store place value) q f h = put_other mem place q value (f place h)
unlinked mem (Cas place old new) q f h = put_other mem place q (change (Cas place old new) (mem place)) (f place h)
unlinked mem (Or place bits) q f h = put_other mem place q (bit_or (mem place) bits) (f place h)
unlinked mem (And place bits) q f h = put_other mem place q (bit_and (mem place) bits) (f place h)

pub unlinked_row : (mem : Place → ℕ) (m : memory.Move) (s : ℕ) → is_linking m ≡ false → written mem m (Row s 0) ≡ mem (Row s 0)
unlinked_row mem m s h = unlinked mem m (Row s 0) (row_apart s) h

pub unlinked_tail : (mem : Place → ℕ) (m : memory.Move) → is_linking m ≡ false → written mem m Tail ≡ mem Tail
unlinked_tail mem m h = unlinked mem m Tail tail_apart h

-- only a write does so among the machines
abbrev pub is_write : Base → Bool
is_write (Begin at) = false
is_write (Protect aim index root steps at) = false
is_write (Reload parent index slot era steps) = false
is_write (Clear rows index) = false
is_write Finish = false
is_write (Release index) = false
is_write (Allocate at) = false
is_write (Write slot row place) = true
is_write base = false

protect_links : (index : ℕ) (root : Root) (at : ProtectAt) (post : Post) → is_linking (machine.protect_move index root at post) ≡ false
protect_links index root (LoadClock tries) post = refl
protect_links index root (PublishEra era tries) post = refl
protect_links index root (LoadLink era tries) post = refl
protect_links index root (CheckClock era tries link) post = refl
protect_links index root PublishRequest post = refl
protect_links index root LoadOwnClock post = refl
protect_links index root (PublishHelper first era last) post = refl
protect_links index root (LoadOwnLink first era last) post = refl
protect_links index root (CheckOwnClock first era last link) post = refl
protect_links index root (AnswerOwn first era link) post = refl
protect_links index root (LoadAnswer first) post = refl
protect_links index root (TakeAnswer link era) post = refl
protect_links index root (WithdrawRequest link era) post = refl
protect_links index root (WithdrawHelper link era) post = refl
protect_links index root LoadWithin post = refl
protect_links index root (CheckUpper link) post = refl
protect_links index root (RaiseUpper era) post = refl
protect_links index root (ByHazard FirstLink) post = refl
protect_links index root (ByHazard (PublishLink link)) post = refl
protect_links index root (ByHazard (CheckLink link)) post = refl

move_links : (at : MoveAt) (post : Post) → is_linking (machine.move_move at post) ≡ false
move_links (LoadEra helps) post = refl
move_links (LoadRequest era seat shows) post = refl
move_links (ShowEra era seat tag index root) post = refl
move_links (LoadAsked era seat tag index root) post = refl
move_links (CheckEra era seat tag index root link) post = refl
move_links (AnswerAsked era seat tag index root link) post = refl
move_links (LoadReserved era seat tag index root link) post = refl
move_links (HandOver era seat tag index root link old) post = refl
move_links (HideEra era) post = refl
move_links (HideLate seen) post = refl
move_links (ExchangeClock era) post = refl

begin_links : (at : BeginAt) (post : Post) → is_linking (machine.begin_move at post) ≡ false
begin_links LoadLower post = refl
begin_links (PublishSpan era) post = refl

allocate_links : (at : AllocateAt) → is_linking (machine.allocate_move at) ≡ false
allocate_links LoadBirth = refl
allocate_links (ClaimSlot birth walk) = refl
allocate_links (StoreLife birth slot) = refl

retire_links : (at : RetireAt) → is_linking (machine.retire_move at) ≡ false
retire_links (LoadLife slot) = refl
retire_links (LoadRetire slot birth) = refl
retire_links (StoreRetired slot birth retire) = refl

pub base_links : (base : Base) (post : Post) → is_write base ≡ false → is_linking (base_move base post) ≡ false
base_links (Begin at) post h = begin_links at post
base_links (Protect aim index root steps at) post h = protect_links index root at post
base_links (Reload parent index slot era steps) post h = refl
base_links (Clear rows index) post h = refl
base_links Finish post h = refl
base_links (Release index) post h = refl
base_links (Allocate at) post h = allocate_links at
base_links (Write slot row place) post h = absurd (no_truth (sym h))
base_links (GiveUp slot) post h = refl
base_links (Retire at) post h = retire_links at
base_links (Move at) post h = move_links at post

-- what a machine gives that ends: a row from the tail or the head that was in the queue, or the row after the head
pub record Gives (why : Why) (outcome : Outcome) (q : ℕ → Bool) (l : Line) (next : ℕ → ℕ) (head : ℕ) : Type 0 where
  pub tails : (kept : EnqueueKept) (slot era : ℕ) → why ≡ Opens (Enqueues kept) → outcome ≡ Ends (Protected (protect_ends.Held slot era)) → l.lined slot ≡ true
  pub heads : (slot era : ℕ) → why ≡ Opens Dequeues → outcome ≡ Ends (Protected (protect_ends.Held slot era)) → l.lined slot ≡ true
  pub leads : (slot era : ℕ) → why ≡ Opens Dequeues → outcome ≡ Ends (Protected (protect_ends.Held slot era)) → q slot ≡ true → head ≡ slot + 1
  pub loads : (parent tail : ℕ) (more : Base) → why ≡ FollowsHead parent tail → outcome ≡ Goes more → LoadsBase parent more (next parent)
  pub follows : (parent tail slot : ℕ) → why ≡ FollowsHead parent tail → outcome ≡ Ends (Followed (follow_ends.Followed slot)) → next parent ≡ slot + 1

abbrev pub Left : CallTurn → (ℕ → Bool) → Line → (ℕ → ℕ) → ℕ → ℕ → Type 0
Left t q l next head tail = Walks (phase_of t.outcome) q l next head tail

enqueue_opens : (kept : EnqueueKept) (ending : Ending) (post : Post) (desk : Desk) (told : List Event) (q : ℕ → Bool) (l : Line) (next : ℕ → ℕ) (head tail : ℕ) → ((slot era : ℕ) → ending ≡ Protected (protect_ends.Held slot era) → l.lined slot ≡ true) → Left (steps.opened (Enqueues kept) ending post desk told) q l next head tail
enqueue_opens kept (Protected (protect_ends.Held slot era)) post desk told q l next head tail f =
    record { stood = λ h e. grind (arith, nat_tests, f slot era refl); heads = λ h e k. cc; follows = λ h link e. cc; some = λ h link e. cc; leads = λ h e k. cc; blank = λ s e. cc; items = refl; loads = tt }
enqueue_opens kept (Protected protect_ends.Null) post desk told q l next head tail f =
    quiet_walks (phase_of (steps.opened_null (Enqueues kept) post desk told).outcome) q l next head tail (opened_null_quiet (Enqueues kept) post desk told)
enqueue_opens kept Done post desk told q l next head tail f = quiet_walks (phase_of (steps.opened (Enqueues kept) Done post desk told).outcome) q l next head tail (opening_quiet (Enqueues kept) post)
enqueue_opens kept (Followed end) post desk told q l next head tail f = quiet_walks (phase_of (steps.opened (Enqueues kept) (Followed end) post desk told).outcome) q l next head tail (opening_quiet (Enqueues kept) post)
enqueue_opens kept (Allocated end) post desk told q l next head tail f = quiet_walks (phase_of (steps.opened (Enqueues kept) (Allocated end) post desk told).outcome) q l next head tail (opening_quiet (Enqueues kept) post)
enqueue_opens kept (endings.Retired life) post desk told q l next head tail f = quiet_walks (phase_of (steps.opened (Enqueues kept) (endings.Retired life) post desk told).outcome) q l next head tail (opening_quiet (Enqueues kept) post)
enqueue_opens kept (Clocked clock) post desk told q l next head tail f = quiet_walks (phase_of (steps.opened (Enqueues kept) (Clocked clock) post desk told).outcome) q l next head tail (opening_quiet (Enqueues kept) post)

dequeue_opens : (ending : Ending) (post : Post) (desk : Desk) (told : List Event) (q : ℕ → Bool) (l : Line) (next : ℕ → ℕ) (head tail : ℕ) → ((slot era : ℕ) → ending ≡ Protected (protect_ends.Held slot era) → l.lined slot ≡ true) → ((slot era : ℕ) → ending ≡ Protected (protect_ends.Held slot era) → q slot ≡ true → head ≡ slot + 1) → Left (steps.opened Dequeues ending post desk told) q l next head tail
dequeue_opens (Protected (protect_ends.Held slot era)) post desk told q l next head tail f g =
    record { stood = λ h e. grind (arith, nat_tests, f slot era refl); heads = λ h e k. head_is h e k; follows = λ h link e. cc; some = λ h link e. cc; leads = λ h e k. cc; blank = λ s e. cc; items = refl; loads = tt }
  where
    head_is : (h : ℕ) → (slot == h) ≡ true → q h ≡ true → head ≡ h + 1
    head_is h e k = let same : slot ≡ h = grind (arith, nat_tests) in subst (λ (x : ℕ). head ≡ x + 1) same (g slot era refl (subst (λ (x : ℕ). q x ≡ true) (sym same) k))
dequeue_opens (Protected protect_ends.Null) post desk told q l next head tail f g =
    quiet_walks (phase_of (steps.opened_null Dequeues post desk told).outcome) q l next head tail (opened_null_quiet Dequeues post desk told)
dequeue_opens Done post desk told q l next head tail f g = quiet_walks (phase_of (steps.opened Dequeues Done post desk told).outcome) q l next head tail (opening_quiet Dequeues post)
dequeue_opens (Followed end) post desk told q l next head tail f g = quiet_walks (phase_of (steps.opened Dequeues (Followed end) post desk told).outcome) q l next head tail (opening_quiet Dequeues post)
dequeue_opens (Allocated end) post desk told q l next head tail f g = quiet_walks (phase_of (steps.opened Dequeues (Allocated end) post desk told).outcome) q l next head tail (opening_quiet Dequeues post)
dequeue_opens (endings.Retired life) post desk told q l next head tail f g = quiet_walks (phase_of (steps.opened Dequeues (endings.Retired life) post desk told).outcome) q l next head tail (opening_quiet Dequeues post)
dequeue_opens (Clocked clock) post desk told q l next head tail f g = quiet_walks (phase_of (steps.opened Dequeues (Clocked clock) post desk told).outcome) q l next head tail (opening_quiet Dequeues post)

-- another task's root
abbrev pub opens_quiet : Task → Bool
opens_quiet (Gets key) = true
opens_quiet (Changes kept) = true
opens_quiet (Holds key) = true
opens_quiet (Enqueues kept) = false
opens_quiet Dequeues = false

opened_row_quiet : (task : Task) (slot : ℕ) (post : Post) (desk : Desk) (told : List Event) → opens_quiet task ≡ true → is_quiet (phase_of (steps.opened_row task slot post desk told).outcome) ≡ true
opened_row_quiet (Gets key) slot post desk told h = refl
opened_row_quiet (Changes kept) slot post desk told h = refl
opened_row_quiet (Holds key) slot post desk told h = refl
opened_row_quiet (Enqueues kept) slot post desk told h = absurd (no_truth h)
opened_row_quiet Dequeues slot post desk told h = absurd (no_truth h)

pub opened_quiet : (task : Task) (ending : Ending) (post : Post) (desk : Desk) (told : List Event) → opens_quiet task ≡ true → is_quiet (phase_of (steps.opened task ending post desk told).outcome) ≡ true
opened_quiet task (Protected (protect_ends.Held slot era)) post desk told h = opened_row_quiet task slot post desk told h
opened_quiet task (Protected protect_ends.Null) post desk told h = opened_null_quiet task post desk told
opened_quiet task Done post desk told h = opening_quiet task post
opened_quiet task (Followed end) post desk told h = opening_quiet task post
opened_quiet task (Allocated end) post desk told h = opening_quiet task post
opened_quiet task (endings.Retired life) post desk told h = opening_quiet task post
opened_quiet task (Clocked clock) post desk told h = opening_quiet task post

-- the head's next row was followed
followed_row_walks : (parent last slot : ℕ) (base : Base) (post : Post) (desk : Desk) (told : List Event) (lags : Bool) (q : ℕ → Bool) (l : Line) (next : ℕ → ℕ) (head tail : ℕ) → (last == parent + 1) ≡ lags → Walks (Runs (FollowsHead parent last) base) q l next head tail → next parent ≡ slot + 1 → Left (dequeues.followed_row parent slot post desk told lags) q l next head tail
followed_row_walks parent last slot base post desk told true q l next head tail e w f =
    record { stood = w.stood; heads = w.heads; follows = λ h link u. grind (arith, nat_tests, f); some = λ h link u. grind (arith, nat_tests); leads = λ h u k. cc; blank = λ s u. cc; items = refl; loads = tt }
followed_row_walks parent last slot base post desk told false q l next head tail e w f =
    record { stood = w.stood; heads = w.heads; follows = λ h link u. grind (arith, nat_tests, f); some = λ h link u. grind (arith, nat_tests); leads = λ h u k. w.leads h (lags_on h u) k; blank = λ s u. cc; items = refl; loads = tt }
  where
    lags_on : (h : ℕ) → (parent == h) ≡ true → leads_in (Runs (FollowsHead parent last) base) h ≡ true
    lags_on h u = rw (u, e) refl

followed_walks : (parent last : ℕ) (base : Base) (end : FollowEnd) (post : Post) (desk : Desk) (told : List Event) (q : ℕ → Bool) (l : Line) (next : ℕ → ℕ) (head tail : ℕ) → Walks (Runs (FollowsHead parent last) base) q l next head tail → ((slot : ℕ) → end ≡ follow_ends.Followed slot → next parent ≡ slot + 1) → Left (dequeues.followed parent last end post desk told) q l next head tail
followed_walks parent last base (follow_ends.Followed slot) post desk told q l next head tail w f = followed_row_walks parent last slot base post desk told (last == parent + 1) q l next head tail refl w (f slot refl)
followed_walks parent last base follow_ends.NoNext post desk told q l next head tail w f =
    quiet_walks (phase_of (dequeues.followed parent last follow_ends.NoNext post desk told).outcome) q l next head tail (clearing_next_quiet (Answering the_answers.Empty) post desk told)
followed_walks parent last base (follow_ends.RootMoved seen) post desk told q l next head tail w f =
    quiet_walks (phase_of (dequeues.followed parent last (follow_ends.RootMoved seen) post desk told).outcome) q l next head tail (clearing_next_quiet Again post desk told)

follow_ends_walks : (parent last : ℕ) (base : Base) (ending : Ending) (post : Post) (desk : Desk) (told : List Event) (q : ℕ → Bool) (l : Line) (next : ℕ → ℕ) (head tail : ℕ) → Walks (Runs (FollowsHead parent last) base) q l next head tail → ((slot : ℕ) → ending ≡ Followed (follow_ends.Followed slot) → next parent ≡ slot + 1) → Left (steps.followed_by parent last ending post desk told) q l next head tail
follow_ends_walks parent last base (Followed end) post desk told q l next head tail w f = followed_walks parent last base end post desk told q l next head tail w (λ slot e. f slot (ap Followed e))
follow_ends_walks parent last base Done post desk told q l next head tail w f = quiet_walks (phase_of (steps.followed_by parent last Done post desk told).outcome) q l next head tail (closed_quiet Dequeues Again post desk told)
follow_ends_walks parent last base (Protected end) post desk told q l next head tail w f = quiet_walks (phase_of (steps.followed_by parent last (Protected end) post desk told).outcome) q l next head tail (closed_quiet Dequeues Again post desk told)
follow_ends_walks parent last base (Allocated end) post desk told q l next head tail w f = quiet_walks (phase_of (steps.followed_by parent last (Allocated end) post desk told).outcome) q l next head tail (closed_quiet Dequeues Again post desk told)
follow_ends_walks parent last base (endings.Retired life) post desk told q l next head tail w f = quiet_walks (phase_of (steps.followed_by parent last (endings.Retired life) post desk told).outcome) q l next head tail (closed_quiet Dequeues Again post desk told)
follow_ends_walks parent last base (Clocked clock) post desk told q l next head tail w f = quiet_walks (phase_of (steps.followed_by parent last (Clocked clock) post desk told).outcome) q l next head tail (closed_quiet Dequeues Again post desk told)

-- a machine has made a step; where a row is filled it is another matter
abbrev pub fills_none : Why → Bool
fills_none (Opens task) = true
fills_none (FollowsHead parent last) = true
fills_none (Fills task) = false
fills_none why = true

pub resumed_walks : (why : Why) (base : Base) (desk : Desk) (post : Post) (told : List Event) (outcome : Outcome) (q : ℕ → Bool) (l : Line) (next : ℕ → ℕ) (head tail : ℕ) → fills_none why ≡ true → Walks (Runs why base) q l next head tail → Gives why outcome q l next head → Left (steps.resumed why desk post told outcome) q l next head tail
resumed_walks (Opens (Gets key)) base desk post told (Goes more) q l next head tail h w g = quiet_walks (Runs (Opens (Gets key)) more) q l next head tail refl
resumed_walks (Opens (Gets key)) base desk post told (Ends ending) q l next head tail h w g = quiet_walks (phase_of (steps.resume (Opens (Gets key)) ending post desk told).outcome) q l next head tail (opened_quiet (Gets key) ending post desk told refl)
resumed_walks (Opens (Changes kept)) base desk post told (Goes more) q l next head tail h w g = quiet_walks (Runs (Opens (Changes kept)) more) q l next head tail refl
resumed_walks (Opens (Changes kept)) base desk post told (Ends ending) q l next head tail h w g = quiet_walks (phase_of (steps.resume (Opens (Changes kept)) ending post desk told).outcome) q l next head tail (opened_quiet (Changes kept) ending post desk told refl)
resumed_walks (Opens (Holds key)) base desk post told (Goes more) q l next head tail h w g = quiet_walks (Runs (Opens (Holds key)) more) q l next head tail refl
resumed_walks (Opens (Holds key)) base desk post told (Ends ending) q l next head tail h w g = quiet_walks (phase_of (steps.resume (Opens (Holds key)) ending post desk told).outcome) q l next head tail (opened_quiet (Holds key) ending post desk told refl)
resumed_walks (ClearsNext after) base desk post told (Goes more) q l next head tail h w g = quiet_walks (Runs (ClearsNext after) more) q l next head tail refl
resumed_walks (ClearsNext after) base desk post told (Ends ending) q l next head tail h w g = quiet_walks (phase_of (steps.resume (ClearsNext after) ending post desk told).outcome) q l next head tail (clearing_quiet Dequeues after post desk told)
resumed_walks (Clears task after) base desk post told (Goes more) q l next head tail h w g = quiet_walks (Runs (Clears task after) more) q l next head tail refl
resumed_walks (Clears task after) base desk post told (Ends ending) q l next head tail h w g = quiet_walks (phase_of (steps.resume (Clears task after) ending post desk told).outcome) q l next head tail (finishing_quiet task after post desk told)
resumed_walks (Finishes task after) base desk post told (Goes more) q l next head tail h w g = quiet_walks (Runs (Finishes task after) more) q l next head tail refl
resumed_walks (Finishes task after) base desk post told (Ends ending) q l next head tail h w g = quiet_walks (phase_of (steps.resume (Finishes task after) ending post desk told).outcome) q l next head tail (closed_quiet task after post desk told)
resumed_walks (GivesUp answer) base desk post told (Goes more) q l next head tail h w g = quiet_walks (Runs (GivesUp answer) more) q l next head tail refl
resumed_walks (GivesUp answer) base desk post told (Ends ending) q l next head tail h w g = quiet_walks Idle q l next head tail refl
resumed_walks (Retires answer) base desk post told (Goes more) q l next head tail h w g = quiet_walks (Runs (Retires answer) more) q l next head tail refl
resumed_walks (Retires answer) base desk post told (Ends ending) q l next head tail h w g = quiet_walks (phase_of (steps.resume (Retires answer) ending post desk told).outcome) q l next head tail (retired_quiet answer ending post desk told)
resumed_walks (Tidies later) base desk post told (Goes more) q l next head tail h w g = quiet_walks (Runs (Tidies later) more) q l next head tail refl
resumed_walks (Tidies later) base desk post told (Ends ending) q l next head tail h w g = quiet_walks (phase_of (steps.resume (Tidies later) ending post desk told).outcome) q l next head tail (tidied_quiet later ending post desk told)
resumed_walks Advances base desk post told (Goes more) q l next head tail h w g = quiet_walks (Runs Advances more) q l next head tail refl
resumed_walks Advances base desk post told (Ends ending) q l next head tail h w g = quiet_walks (phase_of (steps.resume Advances ending post desk told).outcome) q l next head tail (advanced_quiet ending post desk told)
resumed_walks (Releases let_go) base desk post told (Goes more) q l next head tail h w g = quiet_walks (Runs (Releases let_go) more) q l next head tail refl
resumed_walks (Releases let_go) base desk post told (Ends ending) q l next head tail h w g = quiet_walks (phase_of (steps.resume (Releases let_go) ending post desk told).outcome) q l next head tail (released_quiet let_go post desk told)
resumed_walks (Opens (Enqueues kept)) base desk post told (Goes more) q l next head tail h w g = record { stood = λ h e. cc; heads = λ h e k. cc; follows = λ h link e. cc; some = λ h link e. cc; leads = λ h e k. cc; blank = λ s e. cc; items = refl; loads = tt }
resumed_walks (Opens (Enqueues kept)) base desk post told (Ends ending) q l next head tail h w g = enqueue_opens kept ending post desk told q l next head tail (λ slot era e. g.tails kept slot era refl (ap Ends e))
resumed_walks (Opens Dequeues) base desk post told (Goes more) q l next head tail h w g = record { stood = λ h e. cc; heads = λ h e k. cc; follows = λ h link e. cc; some = λ h link e. cc; leads = λ h e k. cc; blank = λ s e. cc; items = refl; loads = tt }
resumed_walks (Opens Dequeues) base desk post told (Ends ending) q l next head tail h w g = dequeue_opens ending post desk told q l next head tail (λ slot era e. g.heads slot era refl (ap Ends e)) (λ slot era e. g.leads slot era refl (ap Ends e))
resumed_walks (FollowsHead parent last) base desk post told (Goes more) q l next head tail h w g = record { stood = w.stood; heads = w.heads; follows = λ x link e. cc; some = λ x link e. cc; leads = w.leads; blank = λ s e. cc; items = refl; loads = g.loads parent last more refl refl }
resumed_walks (FollowsHead parent last) base desk post told (Ends ending) q l next head tail h w g = follow_ends_walks parent last base ending post desk told q l next head tail w (λ slot e. g.follows parent last slot refl (ap Ends e))
resumed_walks (Fills task) base desk post told outcome q l next head tail h w g = absurd (no_truth h)

-- where a row is taken or written for another task than an enqueue
pub fills_quiet : (task : Task) (desk : Desk) (post : Post) (told : List Event) (outcome : Outcome) → quiet_task task ≡ true → is_quiet (phase_of (steps.resumed (Fills task) desk post told outcome).outcome) ≡ true
fills_quiet task desk post told (Goes base) h = h
fills_quiet task desk post told (Ends ending) h = filled_quiet task ending post desk told h

-- where an enqueue takes a row
enqueue_goes : (kept : EnqueueKept) (at more : AllocateAt) (q : ℕ → Bool) (l : Line) (next : ℕ → ℕ) (head tail : ℕ) → Walks (Runs (Fills (Enqueues kept)) (Allocate at)) q l next head tail → Walks (Runs (Fills (Enqueues kept)) (Allocate more)) q l next head tail
enqueue_goes kept at more q l next head tail w = record { stood = w.stood; heads = λ h e k. cc; follows = λ h link e. cc; some = λ h link e. cc; leads = λ h e k. cc; blank = λ s e. cc; items = refl; loads = tt }

enqueue_walks : (kept : EnqueueKept) (birth : ℕ) (at : AllocateAt) (post : Post) (desk : Desk) (x : Option Walk) (q : ℕ → Bool) (l : Line) (next : ℕ → ℕ) (head tail : ℕ) → Walks (Runs (Fills (Enqueues kept)) (Allocate at)) q l next head tail → Left (run_turn (Fills (Enqueues kept)) desk (walking birth post x)) q l next head tail
enqueue_walks kept birth at post desk None q l next head tail w =
    quiet_walks (phase_of (run_turn (Fills (Enqueues kept)) desk (walking birth post None)).outcome) q l next head tail (clearing_quiet (Enqueues (enqueues.item_walked kept)) (alters.no_room kept.walked) post desk [])
enqueue_walks kept birth at post desk (Some walk) q l next head tail w = enqueue_goes kept at (ClaimSlot birth walk) q l next head tail w

enqueue_claims : (kept : EnqueueKept) (birth : ℕ) (walk : Walk) (post given : Post) (desk : Desk) (told : List Event) (x : Option Walk) (shown : Bool) (q : ℕ → Bool) (l : Line) (next : ℕ → ℕ) (head tail : ℕ) → Walks (Runs (Fills (Enqueues kept)) (Allocate (ClaimSlot birth walk))) q l next head tail → Left (run_turn (Fills (Enqueues kept)) desk (if shown then walking birth post x else goes given told (Allocate (StoreLife birth walk.slot)))) q l next head tail
enqueue_claims kept birth walk post given desk told x true q l next head tail w = enqueue_walks kept birth (ClaimSlot birth walk) post desk x q l next head tail w
enqueue_claims kept birth walk post given desk told x false q l next head tail w = enqueue_goes kept (ClaimSlot birth walk) (StoreLife birth walk.slot) q l next head tail w

enqueue_takes : (kept : EnqueueKept) (at : AllocateAt) (post : Post) (desk : Desk) (found : ℕ) (q : ℕ → Bool) (l : Line) (next : ℕ → ℕ) (head tail : ℕ) → Walks (Runs (Fills (Enqueues kept)) (Allocate at)) q l next head tail → Left (run_turn (Fills (Enqueues kept)) desk (machine.after (Allocate at) post found)) q l next head tail
enqueue_takes kept LoadBirth post desk found q l next head tail w = enqueue_goes kept LoadBirth (ClaimSlot found (walk_from post.layout.config.slots post.cursor)) q l next head tail w
enqueue_takes kept (ClaimSlot birth walk) post desk found q l next head tail w =
    enqueue_claims
    kept
    birth
    walk
    post
    (record post { cursor = next_slot post.layout.config.slots walk.slot })
    desk
    (events.Give walk.slot birth ∷ [])
    (walk_past post.layout.config.slots walk found)
    (is_claimed found walk.slot)
    q
    l
    next
    head
    tail
    w
enqueue_takes kept (StoreLife birth slot) post desk found q l next head tail w =
    record { stood = w.stood; heads = λ h e k. cc; follows = λ h link e. cc; some = λ h link e. cc; leads = λ h e k. cc; blank = λ s e. absurd (grind (arith, nat_tests)); items = refl; loads = tt }

pub takes_walks : (task : Task) (at : AllocateAt) (post : Post) (desk : Desk) (found : ℕ) (q : ℕ → Bool) (l : Line) (next : ℕ → ℕ) (head tail : ℕ) → Walks (Runs (Fills task) (Allocate at)) q l next head tail → Left (run_turn (Fills task) desk (machine.after (Allocate at) post found)) q l next head tail
takes_walks (Enqueues kept) at post desk found q l next head tail w = enqueue_takes kept at post desk found q l next head tail w
takes_walks (Gets key) at post desk found q l next head tail w = let t : Turn = machine.after (Allocate at) post found in quiet_walks (phase_of (run_turn (Fills (Gets key)) desk t).outcome) q l next head tail (fills_quiet (Gets key) desk t.post t.told t.outcome refl)
takes_walks (Changes kept) at post desk found q l next head tail w = let t : Turn = machine.after (Allocate at) post found in quiet_walks (phase_of (run_turn (Fills (Changes kept)) desk t).outcome) q l next head tail (fills_quiet (Changes kept) desk t.post t.told t.outcome refl)
takes_walks (Holds key) at post desk found q l next head tail w = let t : Turn = machine.after (Allocate at) post found in quiet_walks (phase_of (run_turn (Fills (Holds key)) desk t).outcome) q l next head tail (fills_quiet (Holds key) desk t.post t.told t.outcome refl)
takes_walks Dequeues at post desk found q l next head tail w = let t : Turn = machine.after (Allocate at) post found in quiet_walks (phase_of (run_turn (Fills Dequeues) desk t).outcome) q l next head tail (fills_quiet Dequeues desk t.post t.told t.outcome refl)

pub taken_in : (x : Option ℕ) (slot : ℕ) → holds_slot x slot ≡ true → steps.slot_in x ≡ slot
taken_in None slot h = absurd (no_truth h)
taken_in (Some taken) slot h = grind (arith, nat_tests)

blank_after : (mem : Place → ℕ) (slot number value place : ℕ) → ((slot == slot && not (place == 0)) ≡ true → mem (Row slot 0) ≡ 0) → written mem (Store (Row slot place) (row_word (QueueRow number value) place)) (Row slot 0) ≡ 0
blank_after mem slot number value place f = grind (arith, nat_tests, f)

-- where an enqueue writes its row
item_last : (kept : EnqueueKept) (slot number value place word : ℕ) (post : Post) (desk : Desk) (last : Bool) (q : ℕ → Bool) (l : Line) (next n2 : ℕ → ℕ) (head tail : ℕ) → (place == 2) ≡ last → holds_slot kept.taken slot ≡ true → n2 slot ≡ 0 → Walks (Runs (Fills (Enqueues kept)) (Write slot (QueueRow number value) place)) q l next head tail → Left (run_turn (Fills (Enqueues kept)) desk (if last then ends post [] Done else goes post [] (Write slot (QueueRow number value) (place + 1)))) q l n2 head tail
item_last kept slot number value place word post desk true q l next n2 head tail e t b w =
    record { stood = w.stood; heads = λ h u k. cc; follows = λ h link u. cc; some = λ h link u. cc; leads = λ h u k. cc; blank = λ s u. blank_at s u; items = refl; loads = tt }
  where
    blank_at : (s : ℕ) → (steps.slot_in kept.taken == s) ≡ true → n2 s ≡ 0
    blank_at s u = let own : steps.slot_in kept.taken ≡ slot = taken_in kept.taken slot t in let same : slot ≡ s = grind (arith, nat_tests) in subst (λ (x : ℕ). n2 x ≡ 0) same b
item_last kept slot number value place word post desk false q l next n2 head tail e t b w =
    record { stood = w.stood; heads = λ h u k. cc; follows = λ h link u. cc; some = λ h link u. cc; leads = λ h u k. cc; blank = λ s u. grind (arith, nat_tests, b); items = refl; loads = tt }

item_writes : (kept : EnqueueKept) (slot : ℕ) (row : RowOf) (place : ℕ) (post : Post) (desk : Desk) (q : ℕ → Bool) (l : Line) (mem : Place → ℕ) (head tail : ℕ) → holds_slot kept.taken slot ≡ true → Walks (Runs (Fills (Enqueues kept)) (Write slot row place)) q l (next_of mem) head tail → Left (run_turn (Fills (Enqueues kept)) desk (machine.after (Write slot row place) post 0)) q l (next_of (written mem (Store (Row slot place) (row_word row place)))) head tail
item_writes kept slot (MapRow version pairs) place post desk q l mem head tail t w = absurd (no_truth w.items)
item_writes kept slot (QueueRow number value) place post desk q l mem head tail t w =
    item_last kept slot number value place 0 post desk (place == 2) q l (next_of mem) (next_of (written mem (Store (Row slot place) (row_word (QueueRow number value) place)))) head tail refl t (blank_after mem slot number value place (w.blank slot)) w

pub writes_walks : (task : Task) (slot : ℕ) (row : RowOf) (place : ℕ) (post : Post) (desk : Desk) (q : ℕ → Bool) (l : Line) (mem : Place → ℕ) (head tail : ℕ) → task_fills task (Write slot row place) ≡ true → Walks (Runs (Fills task) (Write slot row place)) q l (next_of mem) head tail → Left (run_turn (Fills task) desk (machine.after (Write slot row place) post 0)) q l (next_of (written mem (Store (Row slot place) (row_word row place)))) head tail
writes_walks (Enqueues kept) slot row place post desk q l mem head tail t w = item_writes kept slot row place post desk q l mem head tail t w
writes_walks (Gets key) slot row place post desk q l mem head tail t w = let u : Turn = machine.after (Write slot row place) post 0 in quiet_walks (phase_of (run_turn (Fills (Gets key)) desk u).outcome) q l (next_of (written mem (Store (Row slot place) (row_word row place)))) head tail (fills_quiet (Gets key) desk u.post u.told u.outcome refl)
writes_walks (Changes kept) slot row place post desk q l mem head tail t w = let u : Turn = machine.after (Write slot row place) post 0 in quiet_walks (phase_of (run_turn (Fills (Changes kept)) desk u).outcome) q l (next_of (written mem (Store (Row slot place) (row_word row place)))) head tail (fills_quiet (Changes kept) desk u.post u.told u.outcome refl)
writes_walks (Holds key) slot row place post desk q l mem head tail t w = let u : Turn = machine.after (Write slot row place) post 0 in quiet_walks (phase_of (run_turn (Fills (Holds key)) desk u).outcome) q l (next_of (written mem (Store (Row slot place) (row_word row place)))) head tail (fills_quiet (Holds key) desk u.post u.told u.outcome refl)
writes_walks Dequeues slot row place post desk q l mem head tail t w = let u : Turn = machine.after (Write slot row place) post 0 in quiet_walks (phase_of (run_turn (Fills Dequeues) desk u).outcome) q l (next_of (written mem (Store (Row slot place) (row_word row place)))) head tail (fills_quiet Dequeues desk u.post u.told u.outcome refl)
