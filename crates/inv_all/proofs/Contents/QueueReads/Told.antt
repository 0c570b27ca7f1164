-- No step of a machine tells of the queue, or of a change of a bucket.
use Rattle.std.proofs.Common.{ℕ, ◌≡◌, Bool, true, false, arith, refl, List}
use Rattle.std.specs.Prelude.{◌==◌, Option, Some, None}
use Rattle.inv_ends.specs.model.words.Packed.{reservation_word}
use Rattle.inv_ends.specs.model.defs.declared.event.Event.{Event}
use Rattle.inv_ends.specs.model.defs.declared.event.Root.{Root}
use Rattle.inv_ends.specs.model.defs.declared.event.Root.TheVariants as roots
use Rattle.inv_ends.specs.model.declared.post.Post.{Post}
use Rattle.inv_ends.specs.model.Allocate as allocates
use Rattle.inv_ends.specs.model.Machine as machine
use Rattle.inv_ends.specs.model.Machine.{base_move}
use Rattle.inv_ends.specs.model.Memory.{bump}
use Rattle.inv_ends.specs.model.MoveClock as movers
use Rattle.inv_ends.specs.model.Protect as protects
use Rattle.inv_ends.specs.model.Posts.{stands, cleared, reserves_index, reserves_helper, reserves_span, publishes_index}
use Rattle.inv_ends.specs.model.Phases.{Aim, Alone, Follows, BeginAt, ProtectAt, AllocateAt, RetireAt, MoveAt, Walk, Base, Turn}
use Rattle.inv_ends.specs.model.Phases.BeginAt.{LoadLower, PublishSpan}
use Rattle.inv_ends.specs.model.Phases.ProtectAt.{LoadClock, PublishEra, LoadLink, CheckClock, PublishRequest, LoadOwnClock, PublishHelper, LoadOwnLink, CheckOwnClock, AnswerOwn, LoadAnswer, TakeAnswer, WithdrawRequest, WithdrawHelper, LoadWithin, CheckUpper, RaiseUpper, ByHazard}
use Rattle.inv_ends.specs.model.Phases.HazardAt.{FirstLink, PublishLink, CheckLink}
use Rattle.inv_ends.specs.model.Phases.AllocateAt.{LoadBirth, ClaimSlot, StoreLife}
use Rattle.inv_ends.specs.model.Phases.RetireAt.{LoadLife, LoadRetire, StoreRetired}
use Rattle.inv_ends.specs.model.Phases.MoveAt.{LoadEra, LoadRequest, ShowEra, LoadAsked, CheckEra, AnswerAsked, LoadReserved, HandOver, HideEra, HideLate, ExchangeClock}
use Rattle.inv_ends.specs.model.Phases.Base.{Begin, Protect, Reload, Clear, Finish, Release, Allocate, Write, GiveUp, Retire, Move}
use Rattle.inv_all.proofs.Contents.QueueReads.Events.{mute_append}
use Rattle.inv_all.specs.Contents.Turns.{all_mute}

abbrev pub Tells : Turn → Type 0
Tells t = all_mute t.told ≡ true

held_mute : (index : ℕ) (root : Root) (link n : ℕ) → all_mute (protects.told_held index root link n) ≡ true
held_mute index (roots.Next parent) link n = grind arith
held_mute index (roots.Bucket bucket) link n = grind arith
held_mute index roots.Head link n = grind arith
held_mute index roots.Tail link n = grind arith

concluded_mute : (aim : Aim) (index : ℕ) (root : Root) (n link era : ℕ) (post : Post) (told : List Event) → all_mute told ≡ true → Tells (protects.concluded aim index root n link era post told)
concluded_mute Alone index root n link era post told h = h
concluded_mute Follows index root n link era post told h = by_link (link == 0) refl
  where
    by_link : (x : Bool) → (link == 0) ≡ x → Tells (protects.concluded Follows index root n link era post told)
    by_link true e = rw e h
    by_link false e = rw e h

protected_mute : (aim : Aim) (index : ℕ) (root : Root) (n link era : ℕ) (post : Post) → Tells (protects.protected aim index root n link era post)
protected_mute aim index root n link era post = concluded_mute aim index root n link era (protects.held_post post index root link) (protects.told_held index root link n) (held_mute index root link n)

protect_mute : (aim : Aim) (index : ℕ) (root : Root) (n : ℕ) (at : ProtectAt) (post : Post) (found : ℕ) → Tells (machine.protect_turn aim index root n at post found)
protect_mute aim index root n (LoadClock tries) post found = refl
protect_mute aim index root n (PublishEra era tries) post found = refl
protect_mute aim index root n (LoadLink era tries) post found = refl
protect_mute aim index root n (CheckClock era tries link) post found = grind (arith, protected_mute aim index root n link era post)
protect_mute aim index root n PublishRequest post found = refl
protect_mute aim index root n LoadOwnClock post found = refl
protect_mute aim index root n (PublishHelper first era last) post found = refl
protect_mute aim index root n (LoadOwnLink first era last) post found = refl
protect_mute aim index root n (CheckOwnClock first era last link) post found = grind arith
protect_mute aim index root n (AnswerOwn first era link) post found = grind arith
protect_mute aim index root n (LoadAnswer first) post found = refl
protect_mute aim index root n (TakeAnswer link era) post found = mute_append (reserves_index post index era) (protects.told_held index root link n) refl (held_mute index root link n)
protect_mute aim index root n (WithdrawRequest link era) post found = refl
protect_mute aim index root n (WithdrawHelper link era) post found = concluded_mute aim index root n link era post (reserves_helper post 0) refl
protect_mute aim index root n LoadWithin post found = refl
protect_mute aim index root n (CheckUpper link) post found = grind (arith, protected_mute aim index root n link found post)
protect_mute aim index root n (RaiseUpper era) post found = refl
protect_mute aim index root n (ByHazard FirstLink) post found = grind (arith, protected_mute aim index root n found 0 post)
protect_mute aim index root n (ByHazard (PublishLink link)) post found = refl
protect_mute aim index root n (ByHazard (CheckLink link)) post found = grind (arith, protected_mute aim index root n found 0 post)

move_mute : (at : MoveAt) (post : Post) (found : ℕ) → Tells (machine.move_turn at post found)
move_mute (LoadEra helps) post found = grind arith
move_mute (LoadRequest era seat shows) post found = refl
move_mute (ShowEra era seat tag index root) post found = refl
move_mute (LoadAsked era seat tag index root) post found = refl
move_mute (CheckEra era seat tag index root link) post found = grind arith
move_mute (AnswerAsked era seat tag index root link) post found = grind arith
move_mute (LoadReserved era seat tag index root link) post found = grind arith
move_mute (HandOver era seat tag index root link old) post found = handed (found == reservation_word (record { era = old; tag = tag }))
  where
    handed : (same : Bool) → Tells (movers.after_hand_over era seat tag index old post same)
    handed true = refl
    handed false = refl
move_mute (HideEra era) post found = refl
move_mute (HideLate seen) post found = refl
move_mute (ExchangeClock era) post found = grind arith

begin_mute : (at : BeginAt) (post : Post) (found : ℕ) → Tells (machine.begin_turn at post found)
begin_mute LoadLower post found = refl
begin_mute (PublishSpan era) post found = refl

walking_mute : (birth : ℕ) (post : Post) (x : Option Walk) → Tells (allocates.walking birth post x)
walking_mute birth post None = refl
walking_mute birth post (Some walk) = refl

allocate_mute : (at : AllocateAt) (post : Post) (found : ℕ) → Tells (machine.allocate_turn at post found)
allocate_mute LoadBirth post found = refl
allocate_mute (ClaimSlot birth walk) post found = by_shown (allocates.is_claimed found walk.slot) refl
  where
    by_shown : (x : Bool) → allocates.is_claimed found walk.slot ≡ x → Tells (machine.allocate_turn (ClaimSlot birth walk) post found)
    by_shown true e = rw e (walking_mute birth post (allocates.walk_past post.layout.config.slots walk found))
    by_shown false e = rw e refl
allocate_mute (StoreLife birth slot) post found = refl

retire_mute : (at : RetireAt) (post : Post) (found : ℕ) → Tells (machine.retire_turn at post found)
retire_mute (LoadLife slot) post found = refl
retire_mute (LoadRetire slot birth) post found = refl
retire_mute (StoreRetired slot birth retire) post found = refl

pub cleared_mute : (index : ℕ) (x : Option ℕ) → all_mute (cleared index x) ≡ true
cleared_mute index None = refl
cleared_mute index (Some slot) = refl

pub shown_mute : (rows : Bool) (post : Post) (index number : ℕ) → all_mute (publishes_index rows post index number) ≡ true
shown_mute true post index number = refl
shown_mute false post index number = refl

pub base_mute : (base : Base) (post : Post) (found : ℕ) → Tells (machine.after base post found)
base_mute (Begin at) post found = begin_mute at post found
base_mute (Protect aim index root steps at) post found = protect_mute aim index root (bump steps) at post found
base_mute (Reload parent index slot era steps) post found = grind arith
base_mute (Clear rows index) post found = mute_append (cleared index (stands post index)) (publishes_index rows post index 0) (cleared_mute index (stands post index)) (shown_mute rows post index 0)
base_mute Finish post found = refl
base_mute (Release index) post found = mute_append (cleared index (stands post index)) (reserves_span post None) (cleared_mute index (stands post index)) refl
base_mute (Allocate at) post found = allocate_mute at post found
base_mute (Write slot row place) post found = grind arith
base_mute (GiveUp slot) post found = refl
base_mute (Retire at) post found = retire_mute at post found
base_mute (Move at) post found = move_mute at post found
