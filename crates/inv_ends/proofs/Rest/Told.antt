-- Which rounds a machine's step tells: a root at index 0 once, where it is held or null; where rows are published each attempt of a
-- protection; nothing else.
use Rattle.std.proofs.lemmas.Bool.Decides.{nat_tests}
use Rattle.std.proofs.Common.{ℕ, ◌∙◌, ◌≡◌, ◌≤◌, ◌+◌, ◌-◌, Bool, true, false, [], ◌∷◌, arith, refl, ap}
use Rattle.inv_rows.specs.model.Memory.{bump}
use Rattle.inv_rows.specs.model.Machine.{after, hazard_turn, move_turn, protect_turn}
use Rattle.inv_rows.specs.defs.declared.event.Event.TheVariants as events
use Rattle.inv_rows.specs.defs.declared.event.Root.TheVariants as roots
use Rattle.inv_rows.specs.defs.declared.call.ClockMove.TheVariants as moves
use Rattle.inv_rows.specs.model.declared.ends.FollowEnd.TheVariants as follow_ends
use Rattle.inv_rows.specs.words.declared.packed.Request.TheVariants as requests
use Rattle.inv_rows.specs.model.Allocate.{is_claimed, next_slot, walk_past, walking}
use Rattle.inv_rows.specs.model.Locals.{counts_at, held_told, rounds_told}
use Rattle.inv_rows.specs.model.MoveClock.{after_hand_over, moving, next_request}
use Rattle.inv_rows.specs.model.Guards.{linked_row}
use Rattle.inv_rows.specs.model.Phases.HazardAt.{CheckLink, FirstLink, PublishLink}
use Rattle.inv_rows.specs.model.Phases.{Aim, Base, HazardAt, MoveAt, Outcome, ProtectAt, Tries, Turn, Walk, ends, goes}
use Rattle.inv_rows.specs.model.Phases.Aim.{Alone}
use Rattle.inv_rows.specs.model.Phases.AllocateAt.{ClaimSlot, LoadBirth, StoreLife}
use Rattle.inv_rows.specs.model.Phases.Base.{Allocate, Begin, Clear, Finish, GiveUp, Move, Protect, Release, Reload, Retire, Write}
use Rattle.inv_rows.specs.model.Phases.BeginAt.{LoadLower, PublishSpan}
use Rattle.inv_rows.specs.model.Phases.Ending.{Clocked, Done, Followed}
use Rattle.inv_rows.specs.model.Phases.MoveAt.{AnswerAsked, CheckEra, ExchangeClock, HandOver, HideEra, HideLate, LoadAsked, LoadEra, LoadRequest, LoadReserved, ShowEra}
use Rattle.inv_rows.specs.model.Phases.Outcome.{Ends, Goes}
use Rattle.inv_rows.specs.model.Phases.ProtectAt.{AnswerOwn, ByHazard, CheckClock, CheckOwnClock, CheckUpper, LoadAnswer, LoadClock, LoadLink, LoadOwnClock, LoadOwnLink, LoadWithin, PublishEra, PublishHelper, PublishRequest, RaiseUpper, TakeAnswer, WithdrawHelper, WithdrawRequest}
use Rattle.inv_rows.specs.model.Phases.RetireAt.{LoadLife, LoadRetire, StoreRetired}
use Rattle.inv_rows.specs.model.Phases.Tries.{Endless, Failed}
use Rattle.inv_rows.specs.model.Posts.{cleared, hazards_index, reserves_helper, reserves_index, reserves_span, stands, upper, with_row}
use Rattle.inv_rows.specs.model.Protect.{failed_once, held_post, protected, told_held, trying}
use Rattle.inv_rows.specs.model.Rest.{is_told, lost_by}
use Rattle.inv_rows.specs.model.SlowPath.{answer_in, asking, lost_turn, own_request}
use Rattle.inv_rows.specs.model.WriteRow.{last_written}
use Rattle.inv_rows.specs.model.declared.post.Post.{Post}
use Rattle.inv_rows.specs.defs.declared.event.Event.{Event}
use Rattle.inv_rows.specs.defs.declared.event.Guard.TheVariants.{Index}
use Rattle.inv_rows.specs.defs.declared.event.Root.{Root}
use Rattle.inv_rows.specs.Covering.Requests.Roles.{shows}
use Rattle.inv_rows.specs.words.Packed.{read_request, read_reservation, reservation_word}
use Rattle.inv_rows.specs.words.declared.config.Config.{Config}
use Rattle.inv_rows.specs.words.declared.packed.Request.{Request}
use Rattle.std.specs.Prelude.{List, ◌++◌, Option, Some, None, nat_le, not, if◌then◌else◌, ◌==◌, ◌||◌}
use Rattle.inv_rows.proofs.Covering.Requests.Standings.{is_root}
use Rattle.inv_rows.proofs.model.Facts.{false_of_not, if_by}
use Rattle.inv_rows.proofs.Shapes.Frame.{concluded_told}

some_told : (rounds index link n : ℕ) → (index == 0) ≡ true → rounds_told false rounds (if link == 0 then events.Null index n ∷ [] else events.Held index (link - 1) n ∷ []) ≡ rounds + 1
some_told rounds index link n z = if_by (link == 0) (events.Null index n ∷ []) (events.Held index (link - 1) n ∷ []) (λ (told : List Event). rounds_told false rounds told ≡ rounds + 1) (λ e. rw z refl) (λ e. rw z refl)

-- a root at index 0 is told
pub root_told : (rounds index : ℕ) (root : Root) (link n : ℕ) → (index == 0) ≡ true → is_root root ≡ true → rounds_told false rounds (told_held index root link n) ≡ rounds + 1
root_told rounds index (roots.Bucket bucket) link n z h = some_told rounds index link n z
root_told rounds index roots.Head link n z h = some_told rounds index link n z
root_told rounds index roots.Tail link n z h = some_told rounds index link n z
root_told rounds index (roots.Next parent) link n z h = absurd (cc)

none_told : (rows : Bool) (rounds index link n : ℕ) → counts_at rows index ≡ false → rounds_told rows rounds (if link == 0 then events.Null index n ∷ [] else events.Held index (link - 1) n ∷ []) ≡ rounds
none_told false rounds index link n h = if_by (link == 0) (events.Null index n ∷ []) (events.Held index (link - 1) n ∷ []) (λ (told : List Event). rounds_told false rounds told ≡ rounds) (λ e. rw h refl) (λ e. rw h refl)
none_told true rounds index link n h = if_by (link == 0) (events.Null index n ∷ []) (events.Held index (link - 1) n ∷ []) (λ (told : List Event). rounds_told true rounds told ≡ rounds) (λ e. rw h refl) (λ e. refl)

next_told : (rows : Bool) (rounds index link n : ℕ) → counts_at rows index ≡ false → rounds_told rows rounds (if link == 0 then events.Null index n ∷ [] else []) ≡ rounds
next_told rows rounds index link n h = if_by (link == 0) (events.Null index n ∷ []) [] (λ (told : List Event). rounds_told rows rounds told ≡ rounds) (λ e. rw h refl) (λ e. refl)

-- at another index none is
other_told : (rows : Bool) (rounds index : ℕ) (root : Root) (link n : ℕ) → counts_at rows index ≡ false → rounds_told rows rounds (told_held index root link n) ≡ rounds
other_told rows rounds index (roots.Bucket bucket) link n h = none_told rows rounds index link n h
other_told rows rounds index roots.Head link n h = none_told rows rounds index link n h
other_told rows rounds index roots.Tail link n h = none_told rows rounds index link n h
other_told rows rounds index (roots.Next parent) link n h = next_told rows rounds index link n h

-- the phases of hazard pointers
abbrev pub by_rows : ProtectAt → Bool
by_rows (ByHazard at) = true
by_rows at = false

uncounted : (index : ℕ) (rounds : ℕ) (slot : Option ℕ) (seat : ℕ) → counts_at true index ≡ false → rounds_told true rounds (events.Hazard (Index seat index) slot ∷ []) ≡ rounds
uncounted index rounds None seat h = refl
uncounted index rounds (Some slot) seat h = rw h refl

hazard_steady : (rounds : ℕ) (aim : Aim) (index : ℕ) (root : Root) (n : ℕ) (at : HazardAt) (post : Post) (found : ℕ) → counts_at true index ≡ false → rounds_told true rounds (hazard_turn aim index root n at post found).told ≡ rounds
hazard_steady rounds aim index root n FirstLink post found h =
    if_by (found == 0) (protected aim index root n found 0 post) (goes post [] (Protect aim index root n (ByHazard (PublishLink found)))) (λ (t : Turn). rounds_told true rounds t.told ≡ rounds)
    (λ e. ap (rounds_told true rounds) (concluded_told aim index root n found 0 (held_post post index root found) (told_held index root found n)) ∙ other_told true rounds index root found n h) (λ e. refl)
hazard_steady rounds aim index root n (PublishLink link) post found h = uncounted index rounds (linked_row link) post.seat h
hazard_steady rounds aim index root n (CheckLink link) post found h =
    if_by (found == link || found == 0) (protected aim index root n found 0 post) (goes post [] (Protect aim index root n (ByHazard (PublishLink found)))) (λ (t : Turn). rounds_told true rounds t.told ≡ rounds)
    (λ e. ap (rounds_told true rounds) (concluded_told aim index root n found 0 (held_post post index root found) (told_held index root found n)) ∙ other_told true rounds index root found n h) (λ e. refl)

-- a protection at an index that does not count tells no round
pub protect_steady : (rounds : ℕ) (aim : Aim) (index : ℕ) (root : Root) (n : ℕ) (at : ProtectAt) (post : Post) (found : ℕ) → counts_at (by_rows at) index ≡ false → rounds_told (by_rows at) rounds (protect_turn aim index root n at post found).told ≡ rounds
protect_steady rounds aim index root n (LoadClock tries) post found h = refl
protect_steady rounds aim index root n (PublishEra era tries) post found h = refl
protect_steady rounds aim index root n (LoadLink era tries) post found h = refl
protect_steady rounds aim index root n (CheckClock era tries link) post found h =
    if_by (found == era) (protected aim index root n link era post) (goes post [] (Protect aim index root n (PublishEra found (failed_once tries)))) (λ (t : Turn). rounds_told false rounds t.told ≡ rounds)
    (λ e. ap (rounds_told false rounds) (concluded_told aim index root n link era (held_post post index root link) (told_held index root link n)) ∙ other_told false rounds index root link n h) (λ e. refl)
protect_steady rounds aim index root n PublishRequest post found h = refl
protect_steady rounds aim index root n LoadOwnClock post found h = refl
protect_steady rounds aim index root n (PublishHelper first era last) post found h = refl
protect_steady rounds aim index root n (LoadOwnLink first era last) post found h = refl
protect_steady rounds aim index root n (CheckOwnClock first era last link) post found h =
    if_by (found == era) (goes post [] (Protect aim index root n (AnswerOwn first era link))) (goes post [] (Protect aim index root n (lost_turn first last found))) (λ (t : Turn). rounds_told false rounds t.told ≡ rounds) (λ e. refl) (λ e. refl)
protect_steady rounds aim index root n (AnswerOwn first era link) post found h =
    if_by (found == own_request post index root) (goes post [] (Protect aim index root n (TakeAnswer link era))) (goes post [] (Protect aim index root n (answer_in (read_request found)))) (λ (t : Turn). rounds_told false rounds t.told ≡ rounds) (λ e. refl) (λ e. refl)
protect_steady rounds aim index root n (LoadAnswer first) post found h = refl
protect_steady rounds aim index root n (TakeAnswer link era) post found h = other_told false rounds index root link n h
protect_steady rounds aim index root n (WithdrawRequest link era) post found h = refl
protect_steady rounds aim index root n (WithdrawHelper link era) post found h = ap (rounds_told false rounds) (concluded_told aim index root n link era post (reserves_helper post 0))
protect_steady rounds aim index root n LoadWithin post found h = refl
protect_steady rounds aim index root n (CheckUpper link) post found h =
    if_by (found == upper post.span) (protected aim index root n link found post) (goes post [] (Protect aim index root n (RaiseUpper found))) (λ (t : Turn). rounds_told false rounds t.told ≡ rounds)
    (λ e. ap (rounds_told false rounds) (concluded_told aim index root n link found (held_post post index root link) (told_held index root link n)) ∙ other_told false rounds index root link n h) (λ e. refl)
protect_steady rounds aim index root n (RaiseUpper era) post found h = refl
protect_steady rounds aim index root n (ByHazard at) post found h = hazard_steady rounds aim index root n at post found h

-- the rounds lost before this one are the same while its protection goes on, and its end tells it
abbrev pub Tells : (lost rounds : ℕ) → Outcome → Type 0
Tells lost rounds (Goes base) = lost_by rounds (is_told base) ≡ lost
Tells lost rounds (Ends ending) = rounds ≡ lost + 1

pub trying_untold : (c : Config) (aim : Aim) (index : ℕ) (root : Root) (n era : ℕ) (tries : Tries) → is_told (Protect aim index root n (trying c era tries)) ≡ false
trying_untold c aim index root n era Endless = refl
trying_untold c aim index root n era (Failed count) = if_by (nat_le c.tries count) PublishRequest (LoadLink era (Failed count)) (λ (at : ProtectAt). is_told (Protect aim index root n at) ≡ false) (λ e. refl) (λ e. refl)

pub answer_untold : (aim : Aim) (index : ℕ) (root : Root) (n : ℕ) (r : Option Request) → is_told (Protect aim index root n (answer_in r)) ≡ false
answer_untold aim index root n (Some (requests.Answered link era)) = refl
answer_untold aim index root n (Some (requests.Pending tag at word)) = refl
answer_untold aim index root n (Some requests.Idle) = refl
answer_untold aim index root n None = refl

pub lost_untold : (aim : Aim) (index : ℕ) (root : Root) (n first found : ℕ) (last : Bool) → is_told (Protect aim index root n (lost_turn first last found)) ≡ false
lost_untold aim index root n first found false = refl
lost_untold aim index root n first found true = refl

untold : (rounds : ℕ) (told : Bool) → told ≡ false → lost_by rounds told ≡ rounds
untold rounds true h = absurd (cc)
untold rounds false h = refl

-- a reload that finds another link has lost its round
abbrev pub hazard_lost : HazardAt → (found lost : ℕ) → ℕ
hazard_lost FirstLink found lost = lost
hazard_lost (PublishLink link) found lost = lost
hazard_lost (CheckLink link) found lost = if found == link then lost else lost + 1

abbrev pub lost_after : ProtectAt → (found lost : ℕ) → ℕ
lost_after (ByHazard at) found lost = hazard_lost at found lost
lost_after at found lost = lost

-- the link that is published is not null
abbrev pub hazard_linked : HazardAt → Type 0
hazard_linked FirstLink = Unit {0}
hazard_linked (PublishLink link) = 1 ≤ link
hazard_linked (CheckLink link) = 1 ≤ link

abbrev pub at_linked : ProtectAt → Type 0
at_linked (ByHazard at) = hazard_linked at
at_linked at = Unit {0}

pub row_counts : (rounds index link seat : ℕ) → counts_at true index ≡ true → 1 ≤ link → rounds_told true rounds (events.Hazard (Index seat index) (linked_row link) ∷ []) ≡ rounds + 1
row_counts rounds index link seat z k =
    let e : (link == 0) ≡ false = grind (arith, nat_tests) in
    rw e (rw z refl)

-- a root that was found null is told, and one that leads to a row was
pub null_tells : (rounds index : ℕ) (root : Root) (found n : ℕ) → counts_at true index ≡ true → is_root root ≡ true → (found == 0) ≡ true → rounds_told true rounds (told_held index root found n) ≡ rounds + 1
null_tells rounds index (roots.Bucket bucket) found n z o e = rw e (rw z refl)
null_tells rounds index roots.Head found n z o e = rw e (rw z refl)
null_tells rounds index roots.Tail found n z o e = rw e (rw z refl)
null_tells rounds index (roots.Next parent) found n z o e = absurd (cc)

row_tells : (rounds index : ℕ) (root : Root) (found n : ℕ) → is_root root ≡ true → (found == 0) ≡ false → rounds_told true rounds (told_held index root found n) ≡ rounds
row_tells rounds index (roots.Bucket bucket) found n o e = rw e refl
row_tells rounds index roots.Head found n o e = rw e refl
row_tells rounds index roots.Tail found n o e = rw e refl
row_tells rounds index (roots.Next parent) found n o e = absurd (cc)

-- the reload
check_tells : (rounds index : ℕ) (root : Root) (n link : ℕ) (post : Post) (found : ℕ) → counts_at true index ≡ true → is_root root ≡ true → 1 ≤ rounds → 1 ≤ link
    → (same none : Bool) → (found == link) ≡ same → (found == 0) ≡ none
    → Tells (if same then rounds - 1 else rounds - 1 + 1) (rounds_told true rounds (if same || none then protected Alone index root n found 0 post else goes post [] (Protect Alone index root n (ByHazard (PublishLink found)))).told) (if same || none then protected Alone index root n found 0 post else goes post [] (Protect Alone index root n (ByHazard (PublishLink found)))).outcome
check_tells rounds index root n link post found z o h k true true e f = absurd (let x : found ≡ link = grind (arith, nat_tests) in let y : found ≡ 0 = grind (arith, nat_tests) in omega (arith, x, y, k))
check_tells rounds index root n link post found z o h k true false e f = let t = row_tells rounds index root found n o f in omega (arith, t, h)
check_tells rounds index root n link post found z o h k false true e f = let t = null_tells rounds index root found n z o f in omega (arith, t, h)
check_tells rounds index root n link post found z o h k false false e f = omega (arith, h)

hazard_tells : (rounds index : ℕ) (root : Root) (steps n : ℕ) (at : HazardAt) (post : Post) (found : ℕ) → counts_at true index ≡ true → is_root root ≡ true → (is_told (Protect Alone index root steps (ByHazard at)) ≡ true → 1 ≤ rounds) → hazard_linked at
    → Tells (hazard_lost at found (lost_by rounds (is_told (Protect Alone index root steps (ByHazard at))))) (rounds_told true rounds (hazard_turn Alone index root n at post found).told) (hazard_turn Alone index root n at post found).outcome
hazard_tells rounds index root steps n FirstLink post found z o h k =
    if_by (found == 0) (protected Alone index root n found 0 post) (goes post [] (Protect Alone index root n (ByHazard (PublishLink found)))) (λ (t : Turn). Tells rounds (rounds_told true rounds t.told) t.outcome)
    (λ e. null_tells rounds index root found n z o e) (λ e. refl)
hazard_tells rounds index root steps n (PublishLink link) post found z o h k = let e = row_counts rounds index link post.seat z k in omega (arith, e)
hazard_tells rounds index root steps n (CheckLink link) post found z o h k = check_tells rounds index root n link post found z o (h refl) k (found == link) (found == 0) refl refl

-- a protection of a task's root at an index that counts; once its root is told there is a round
pub protect_tells : (rounds index : ℕ) (root : Root) (steps n : ℕ) (at : ProtectAt) (post : Post) (found : ℕ) → counts_at (by_rows at) index ≡ true → is_root root ≡ true → (is_told (Protect Alone index root steps at) ≡ true → 1 ≤ rounds) → at_linked at
    → Tells (lost_after at found (lost_by rounds (is_told (Protect Alone index root steps at)))) (rounds_told (by_rows at) rounds (protect_turn Alone index root n at post found).told) (protect_turn Alone index root n at post found).outcome
protect_tells rounds index root steps n (LoadClock tries) post found z o h k = refl
protect_tells rounds index root steps n (PublishEra era tries) post found z o h k = untold rounds _ (trying_untold post.layout.config Alone index root n era tries)
protect_tells rounds index root steps n (LoadLink era tries) post found z o h k = refl
protect_tells rounds index root steps n (CheckClock era tries link) post found z o h k =
    if_by (found == era) (protected Alone index root n link era post) (goes post [] (Protect Alone index root n (PublishEra found (failed_once tries)))) (λ (t : Turn). Tells rounds (rounds_told false rounds t.told) t.outcome)
    (λ e. root_told rounds index root link n z o) (λ e. refl)
protect_tells rounds index root steps n PublishRequest post found z o h k = refl
protect_tells rounds index root steps n LoadOwnClock post found z o h k = refl
protect_tells rounds index root steps n (PublishHelper first era last) post found z o h k = refl
protect_tells rounds index root steps n (LoadOwnLink first era last) post found z o h k = refl
protect_tells rounds index root steps n (CheckOwnClock first era last link) post found z o h k =
    if_by (found == era) (goes post [] (Protect Alone index root n (AnswerOwn first era link))) (goes post [] (Protect Alone index root n (lost_turn first last found))) (λ (t : Turn). Tells rounds (rounds_told false rounds t.told) t.outcome)
    (λ e. refl) (λ e. untold rounds _ (lost_untold Alone index root n first found last))
protect_tells rounds index root steps n (AnswerOwn first era link) post found z o h k =
    if_by (found == own_request post index root) (goes post [] (Protect Alone index root n (TakeAnswer link era))) (goes post [] (Protect Alone index root n (answer_in (read_request found)))) (λ (t : Turn). Tells rounds (rounds_told false rounds t.told) t.outcome)
    (λ e. refl) (λ e. untold rounds _ (answer_untold Alone index root n (read_request found)))
protect_tells rounds index root steps n (LoadAnswer first) post found z o h k = untold rounds _ (answer_untold Alone index root n (read_request found))
protect_tells rounds index root steps n (TakeAnswer link era) post found z o h k = rw (root_told rounds index root link n z o) (omega arith)
protect_tells rounds index root steps n (WithdrawRequest link era) post found z o h k = refl
protect_tells rounds index root steps n (WithdrawHelper link era) post found z o h k = let x = h refl in omega (arith, x)
protect_tells rounds index root steps n LoadWithin post found z o h k = refl
protect_tells rounds index root steps n (CheckUpper link) post found z o h k =
    if_by (found == upper post.span) (protected Alone index root n link found post) (goes post [] (Protect Alone index root n (RaiseUpper found))) (λ (t : Turn). Tells rounds (rounds_told false rounds t.told) t.outcome)
    (λ e. root_told rounds index root link n z o) (λ e. refl)
protect_tells rounds index root steps n (RaiseUpper era) post found z o h k = refl
protect_tells rounds index root steps n (ByHazard at) post found z o h k = hazard_tells rounds index root steps n at post found z o h k

clear_steady : (rows : Bool) (rounds index : ℕ) (stood : Option ℕ) (more : List Event) → rounds_told rows rounds more ≡ rounds → rounds_told rows rounds (cleared index stood ++ more) ≡ rounds
clear_steady rows rounds index None more h = h
clear_steady rows rounds index (Some slot) more h = h

-- a machine that tells no root
abbrev pub is_still : Base → Bool
is_still (Begin at) = true
is_still (Protect aim index root steps at) = false
is_still (Reload parent index slot era steps) = not (index == 0)
is_still base = true

walking_still : (rows : Bool) (rounds birth : ℕ) (post : Post) (walk : Option Walk) → rounds_told rows rounds (walking birth post walk).told ≡ rounds
walking_still rows rounds birth post None = refl
walking_still rows rounds birth post (Some walk) = refl

hand_still : (rows : Bool) (rounds era seat tag index old : ℕ) (post : Post) (same : Bool) → rounds_told rows rounds (after_hand_over era seat tag index old post same).told ≡ rounds
hand_still rows rounds era seat tag index old post true = refl
hand_still rows rounds era seat tag index old post false = refl

move_still : (rows : Bool) (rounds : ℕ) (at : MoveAt) (post : Post) (found : ℕ) → rounds_told rows rounds (move_turn at post found).told ≡ rounds
move_still rows rounds (LoadEra helps) post found = if_by (found == post.layout.config.last_era) (ends post [] (Clocked (moves.EraSpent found))) (goes post [] (Move (moving helps found))) (λ (t : Turn). rounds_told rows rounds t.told ≡ rounds) (λ e. refl) (λ e. refl)
move_still rows rounds (LoadRequest era seat shows) post found = refl
move_still rows rounds (ShowEra era seat tag index root) post found = refl
move_still rows rounds (LoadAsked era seat tag index root) post found = refl
move_still rows rounds (CheckEra era seat tag index root link) post found = if_by (found == era) (goes post [] (Move (AnswerAsked era seat tag index root link))) (goes post [] (Move (HideLate found))) (λ (t : Turn). rounds_told rows rounds t.told ≡ rounds) (λ e. refl) (λ e. refl)
move_still rows rounds (AnswerAsked era seat tag index root link) post found = if_by (found == asking post.layout tag index root) (goes post [] (Move (LoadReserved era seat tag index root link))) (goes post [] (Move (next_request post era seat true))) (λ (t : Turn). rounds_told rows rounds t.told ≡ rounds) (λ e. refl) (λ e. refl)
move_still rows rounds (LoadReserved era seat tag index root link) post found = if_by ((read_reservation found).tag == tag) (goes post [] (Move (HandOver era seat tag index root link (read_reservation found).era))) (goes post [] (Move (next_request post era seat true))) (λ (t : Turn). rounds_told rows rounds t.told ≡ rounds) (λ e. refl) (λ e. refl)
move_still rows rounds (HandOver era seat tag index root link old) post found = hand_still rows rounds era seat tag index old post (found == reservation_word (record { era = old; tag = tag }))
move_still rows rounds (HideEra era) post found = refl
move_still rows rounds (HideLate seen) post found = refl
move_still rows rounds (ExchangeClock era) post found = if_by (found == era) (ends post (events.Era (era + 1) ∷ []) (Clocked (moves.Moved (era + 1)))) (ends post [] (Clocked (moves.Other found))) (λ (t : Turn). rounds_told rows rounds t.told ≡ rounds) (λ e. refl) (λ e. refl)

pub reload_steady : (rows : Bool) (rounds index : ℕ) → (index == 0) ≡ false → held_told rows rounds index ≡ rounds
reload_steady false rounds index h = rw h refl
reload_steady true rounds index h = refl

pub base_steady : (rows : Bool) (rounds : ℕ) (base : Base) (post : Post) (found : ℕ) → is_still base ≡ true → rounds_told rows rounds (after base post found).told ≡ rounds
base_steady rows rounds (Begin LoadLower) post found h = refl
base_steady rows rounds (Begin (PublishSpan era)) post found h = refl
base_steady rows rounds (Protect aim index root steps at) post found h = absurd (cc)
base_steady rows rounds (Reload parent index slot era steps) post found h =
    if_by (found == parent + 1) (ends (with_row post index slot) (events.Held index slot (bump steps) ∷ []) (Followed (follow_ends.Followed slot))) (ends post [] (Followed (follow_ends.RootMoved found))) (λ (t : Turn). rounds_told rows rounds t.told ≡ rounds)
    (λ e. reload_steady rows rounds index (false_of_not (index == 0) h)) (λ e. refl)
base_steady rows rounds (Clear false index) post found h = clear_steady rows rounds index (stands post index) (reserves_index post index 0) refl
base_steady rows rounds (Clear true index) post found h = clear_steady rows rounds index (stands post index) (hazards_index post index 0) refl
base_steady rows rounds Finish post found h = refl
base_steady rows rounds (Release index) post found h = clear_steady rows rounds index (stands post index) (reserves_span post None) refl
base_steady rows rounds (Allocate LoadBirth) post found h = refl
base_steady rows rounds (Allocate (ClaimSlot birth walk)) post found h =
    if_by (is_claimed found walk.slot) (walking birth post (walk_past post.layout.config.slots walk found)) (goes (record post { cursor = next_slot post.layout.config.slots walk.slot }) (events.Give walk.slot birth ∷ []) (Allocate (StoreLife birth walk.slot)))
    (λ (t : Turn). rounds_told rows rounds t.told ≡ rounds) (λ e. walking_still rows rounds birth post (walk_past post.layout.config.slots walk found)) (λ e. refl)
base_steady rows rounds (Allocate (StoreLife birth slot)) post found h = refl
base_steady rows rounds (Write slot row place) post found h = if_by (place == last_written row) (ends post [] Done) (goes post [] (Write slot row (place + 1))) (λ (t : Turn). rounds_told rows rounds t.told ≡ rounds) (λ e. refl) (λ e. refl)
base_steady rows rounds (GiveUp slot) post found h = refl
base_steady rows rounds (Retire (LoadLife slot)) post found h = refl
base_steady rows rounds (Retire (LoadRetire slot birth)) post found h = refl
base_steady rows rounds (Retire (StoreRetired slot birth retire)) post found h = refl
base_steady rows rounds (Move at) post found h = move_still rows rounds at post found
