-- What the steps of machines come to: only a protection comes to a protection that carries a link, and only a move of the
-- clock to one that helps.
use Rattle.std.proofs.Common.{ℕ, ◌≡◌, ◌+◌, Bool, true, false, Option, Some, None, List, [], ◌∷◌, refl}
use Rattle.std.specs.Prelude.{◌==◌, ◌||◌, if◌then◌else◌, is_none}
use Rattle.inv_rows.specs.words.Packed.{read_reservation, reservation_word}
use Rattle.inv_rows.specs.words.declared.layout.Layout.{Layout}
use Rattle.inv_rows.specs.defs.declared.event.Event.{Event}
use Rattle.inv_rows.specs.defs.declared.event.Event.TheVariants as events
use Rattle.inv_rows.specs.defs.declared.event.Root.{Root}
use Rattle.inv_rows.specs.model.declared.post.Post.{Post}
use Rattle.inv_rows.specs.model.Allocate.{walking, walk_past, is_claimed, next_slot}
use Rattle.inv_rows.specs.model.Calls.{Why, Phase, Idle, Runs, Scans, Works}
use Rattle.inv_rows.specs.model.Machine.{begin_turn, protect_turn, allocate_turn, retire_turn, move_turn, after}
use Rattle.inv_rows.specs.model.MoveClock.{after_hand_over}
use Rattle.inv_rows.specs.model.Phases.{Aim, Alone, Follows, BeginAt, ProtectAt, AllocateAt, RetireAt, MoveAt, Base, Walk, Turn, Outcome, Goes, Ends, Ending, goes}
use Rattle.inv_rows.specs.model.Phases.BeginAt.{LoadLower, PublishSpan}
use Rattle.inv_rows.specs.model.Phases.ProtectAt.{LoadClock, PublishEra, LoadLink, CheckClock, PublishRequest, LoadOwnClock, PublishHelper, LoadOwnLink, CheckOwnClock, AnswerOwn, LoadAnswer, TakeAnswer, WithdrawRequest, WithdrawHelper, LoadWithin, CheckUpper, RaiseUpper, ByHazard}
use Rattle.inv_rows.specs.model.Phases.HazardAt.{FirstLink, PublishLink, CheckLink}
use Rattle.inv_rows.specs.model.Phases.AllocateAt.{LoadBirth, ClaimSlot, StoreLife}
use Rattle.inv_rows.specs.model.Phases.RetireAt.{LoadLife, LoadRetire, StoreRetired}
use Rattle.inv_rows.specs.model.Phases.MoveAt.{LoadEra, LoadRequest, ShowEra, LoadAsked, CheckEra, AnswerAsked, LoadReserved, HandOver, HideEra, HideLate, ExchangeClock}
use Rattle.inv_rows.specs.model.Phases.Base.{Begin, Protect, Reload, Clear, Finish, Release, Allocate, Write, GiveUp, Retire, Move}
use Rattle.inv_rows.specs.model.Protect.{concluded, held_post, told_held}
use Rattle.inv_rows.specs.model.SlowPath.{asking, own_request}
use Rattle.inv_rows.specs.model.Posts.{upper, reserves_helper}
use Rattle.inv_rows.specs.model.WriteRow.{last_written}
use Rattle.inv_rows.specs.Covering.Tries.{is_start, starts_protect, starts_base}
use Rattle.inv_rows.specs.Covering.Requests.Views.{Deal}
use Rattle.inv_ends.specs.Origins.{link_of}
use Rattle.inv_ends.specs.Tracked.{carries_at, carries_base, carries_in, helps_at, helps_base, helps_in}

-- the machine ends, and not with a link
abbrev pub ends_plain : Ending → Bool
ends_plain ending = is_none (link_of ending)

-- so it ends, or no link is carried or loaded for help
abbrev pub out_plain : Outcome → Bool
out_plain (Goes base) = starts_base base
out_plain (Ends ending) = ends_plain ending

abbrev pub is_plain : Base → Bool
is_plain (Begin at) = true
is_plain (Protect aim index root steps at) = false
is_plain (Reload parent index slot era steps) = true
is_plain (Clear rows index) = true
is_plain Finish = true
is_plain (Release index) = true
is_plain (Allocate at) = true
is_plain (Write slot row place) = true
is_plain (GiveUp slot) = true
is_plain (Retire at) = true
is_plain (Move at) = false

plain_if : (one two : Turn) (same : Bool) → out_plain one.outcome ≡ true → out_plain two.outcome ≡ true → out_plain (if same then one else two).outcome ≡ true
plain_if one two true a b = a
plain_if one two false a b = b

plain_begin : (at : BeginAt) (post : Post) (found : ℕ) → out_plain (begin_turn at post found).outcome ≡ true
plain_begin LoadLower post found = refl
plain_begin (PublishSpan era) post found = refl

plain_walk : (birth : ℕ) (post : Post) (x : Option Walk) → out_plain (walking birth post x).outcome ≡ true
plain_walk birth post None = refl
plain_walk birth post (Some walk) = refl

plain_allocate : (at : AllocateAt) (post : Post) (found : ℕ) → out_plain (allocate_turn at post found).outcome ≡ true
plain_allocate LoadBirth post found = refl
plain_allocate (ClaimSlot birth walk) post found = by_shown (is_claimed found walk.slot) where
  by_shown : (shown : Bool) → out_plain (if shown then walking birth post (walk_past post.layout.config.slots walk found) else goes (record post { cursor = next_slot post.layout.config.slots walk.slot }) (events.Give walk.slot birth ∷ []) (Allocate (StoreLife birth walk.slot))).outcome ≡ true
  by_shown true = plain_walk birth post (walk_past post.layout.config.slots walk found)
  by_shown false = refl
plain_allocate (StoreLife birth slot) post found = refl

plain_retire : (at : RetireAt) (post : Post) (found : ℕ) → out_plain (retire_turn at post found).outcome ≡ true
plain_retire (LoadLife slot) post found = refl
plain_retire (LoadRetire slot birth) post found = refl
plain_retire (StoreRetired slot birth retire) post found = refl

pub plain_after : (base : Base) (post : Post) (found : ℕ) → is_plain base ≡ true → out_plain (after base post found).outcome ≡ true
plain_after (Begin at) post found p = plain_begin at post found
plain_after (Protect aim index root steps at) post found p = absurd (cc)
plain_after (Reload parent index slot era steps) post found p = plain_if _ _ (found == parent + 1) refl refl
plain_after (Clear rows index) post found p = refl
plain_after Finish post found p = refl
plain_after (Release index) post found p = refl
plain_after (Allocate at) post found p = plain_allocate at post found
plain_after (Write slot row place) post found p = plain_if _ _ (place == last_written row) refl refl
plain_after (GiveUp slot) post found p = refl
plain_after (Retire at) post found p = plain_retire at post found
plain_after (Move at) post found p = absurd (cc)

-- a move of the clock goes on as one, or ends plainly
abbrev pub is_move : Base → Bool
is_move (Begin at) = false
is_move (Protect aim index root steps at) = false
is_move (Reload parent index slot era steps) = false
is_move (Clear rows index) = false
is_move Finish = false
is_move (Release index) = false
is_move (Allocate at) = false
is_move (Write slot row place) = false
is_move (GiveUp slot) = false
is_move (Retire at) = false
is_move (Move at) = true

abbrev pub out_moves : Outcome → Bool
out_moves (Goes base) = is_move base
out_moves (Ends ending) = ends_plain ending

moves_if : (one two : Turn) (same : Bool) → out_moves one.outcome ≡ true → out_moves two.outcome ≡ true → out_moves (if same then one else two).outcome ≡ true
moves_if one two true a b = a
moves_if one two false a b = b

moves_handed : (era seat tag index old : ℕ) (post : Post) (same : Bool) → out_moves (after_hand_over era seat tag index old post same).outcome ≡ true
moves_handed era seat tag index old post true = refl
moves_handed era seat tag index old post false = refl

pub moves_on : (at : MoveAt) (post : Post) (found : ℕ) → out_moves (move_turn at post found).outcome ≡ true
moves_on (LoadEra helps) post found = moves_if _ _ (found == post.layout.config.last_era) refl refl
moves_on (LoadRequest era seat shows) post found = refl
moves_on (ShowEra era seat tag index root) post found = refl
moves_on (LoadAsked era seat tag index root) post found = refl
moves_on (CheckEra era seat tag index root link) post found = moves_if _ _ (found == era) refl refl
moves_on (AnswerAsked era seat tag index root link) post found = moves_if _ _ (found == asking post.layout tag index root) refl refl
moves_on (LoadReserved era seat tag index root link) post found = moves_if _ _ ((read_reservation found).tag == tag) refl refl
moves_on (HandOver era seat tag index root link old) post found = moves_handed era seat tag index old post (found == reservation_word (record { era = old; tag = tag }))
moves_on (HideEra era) post found = refl
moves_on (HideLate seen) post found = refl
moves_on (ExchangeClock era) post found = moves_if _ _ (found == era) refl refl

-- a protection goes on as one, or the head is loaded again, or it ends
abbrev pub protects_base : Base → Bool
protects_base (Begin at) = false
protects_base (Protect aim index root steps at) = true
protects_base (Reload parent index slot era steps) = true
protects_base base = false

abbrev pub out_protects : Outcome → Bool
out_protects (Goes base) = protects_base base
out_protects (Ends ending) = true

protects_if : (one two : Turn) (same : Bool) → out_protects one.outcome ≡ true → out_protects two.outcome ≡ true → out_protects (if same then one else two).outcome ≡ true
protects_if one two true a b = a
protects_if one two false a b = b

protects_concluded : (aim : Aim) (index : ℕ) (root : Root) (n link era : ℕ) (post : Post) (told : List Event) → out_protects (concluded aim index root n link era post told).outcome ≡ true
protects_concluded Alone index root n link era post told = refl
protects_concluded Follows index root n link era post told = protects_if _ _ (link == 0) refl refl

pub protects_on : (aim : Aim) (index : ℕ) (root : Root) (n : ℕ) (at : ProtectAt) (post : Post) (found : ℕ) → out_protects (protect_turn aim index root n at post found).outcome ≡ true
protects_on aim index root n (LoadClock tries) post found = refl
protects_on aim index root n (PublishEra era tries) post found = refl
protects_on aim index root n (LoadLink era tries) post found = refl
protects_on aim index root n (CheckClock era tries link) post found = protects_if _ _ (found == era) (protects_concluded aim index root n link era (held_post post index root link) (told_held index root link n)) refl
protects_on aim index root n PublishRequest post found = refl
protects_on aim index root n LoadOwnClock post found = refl
protects_on aim index root n (PublishHelper first era last) post found = refl
protects_on aim index root n (LoadOwnLink first era last) post found = refl
protects_on aim index root n (CheckOwnClock first era last link) post found = protects_if _ _ (found == era) refl refl
protects_on aim index root n (AnswerOwn first era link) post found = protects_if _ _ (found == own_request post index root) refl refl
protects_on aim index root n (LoadAnswer first) post found = refl
protects_on aim index root n (TakeAnswer link era) post found = refl
protects_on aim index root n (WithdrawRequest link era) post found = refl
protects_on aim index root n (WithdrawHelper link era) post found = protects_concluded aim index root n link era post (reserves_helper post 0)
protects_on aim index root n LoadWithin post found = refl
protects_on aim index root n (CheckUpper link) post found = protects_if _ _ (found == upper post.span) (protects_concluded aim index root n link found (held_post post index root link) (told_held index root link n)) refl
protects_on aim index root n (RaiseUpper era) post found = refl
protects_on aim index root n (ByHazard FirstLink) post found = protects_if _ _ (found == 0) (protects_concluded aim index root n found 0 (held_post post index root found) (told_held index root found n)) refl
protects_on aim index root n (ByHazard (PublishLink link)) post found = refl
protects_on aim index root n (ByHazard (CheckLink link)) post found = protects_if _ _ (found == link || found == 0) (protects_concluded aim index root n found 0 (held_post post index root found) (told_held index root found n)) refl

-- such phases carry nothing
start_carries_at : (clock upto : ℕ) (at : ProtectAt) (x : ℕ) → starts_protect at ≡ true → carries_at clock upto at x ≡ false
start_carries_at clock upto (LoadClock tries) x h = refl
start_carries_at clock upto (PublishEra era tries) x h = refl
start_carries_at clock upto (LoadLink era tries) x h = refl
start_carries_at clock upto (CheckClock era tries link) x h = absurd (cc)
start_carries_at clock upto PublishRequest x h = refl
start_carries_at clock upto LoadOwnClock x h = refl
start_carries_at clock upto (PublishHelper first era last) x h = refl
start_carries_at clock upto (LoadOwnLink first era last) x h = refl
start_carries_at clock upto (CheckOwnClock first era last link) x h = absurd (cc)
start_carries_at clock upto (AnswerOwn first era link) x h = absurd (cc)
start_carries_at clock upto (LoadAnswer first) x h = refl
start_carries_at clock upto (TakeAnswer link era) x h = absurd (cc)
start_carries_at clock upto (WithdrawRequest link era) x h = absurd (cc)
start_carries_at clock upto (WithdrawHelper link era) x h = absurd (cc)
start_carries_at clock upto LoadWithin x h = refl
start_carries_at clock upto (CheckUpper link) x h = absurd (cc)
start_carries_at clock upto (RaiseUpper era) x h = refl
start_carries_at clock upto (ByHazard at) x h = refl

pub start_carries_base : (clock upto : ℕ) (base : Base) (x : ℕ) → starts_base base ≡ true → carries_base clock upto base x ≡ false
start_carries_base clock upto (Begin at) x h = refl
start_carries_base clock upto (Protect aim index root steps at) x h = start_carries_at clock upto at x h
start_carries_base clock upto (Reload parent index slot era steps) x h = absurd (cc)
start_carries_base clock upto base x h = refl

pub start_carries : (clock upto : ℕ) (phase : Phase) (x : ℕ) → is_start phase ≡ true → carries_in clock upto phase x ≡ false
start_carries clock upto Idle x h = refl
start_carries clock upto (Runs why base) x h = start_carries_base clock upto base x h
start_carries clock upto (Scans later at) x h = refl
start_carries clock upto (Works work) x h = refl

-- of the phases that a call's own step comes to only the machines matter
pub works_carry : (clock upto : ℕ) (phase : Phase) (x : ℕ) → ((why : Why) (base : Base) → phase ≡ Runs why base → starts_base base ≡ true) → carries_in clock upto phase x ≡ false
works_carry clock upto Idle x g = refl
works_carry clock upto (Runs why base) x g = start_carries_base clock upto base x (g why base refl)
works_carry clock upto (Scans later at) x g = refl
works_carry clock upto (Works work) x g = refl

-- and help nobody
start_helps_at : (layout : Layout) (clock k : ℕ) (why : Why) (at : MoveAt) (d : Deal) (x : ℕ) → is_start (Runs why (Move at)) ≡ true → helps_at layout clock k at d x ≡ false
start_helps_at layout clock k why (LoadEra helps) d x h = refl
start_helps_at layout clock k why (LoadRequest era seat shows) d x h = refl
start_helps_at layout clock k why (ShowEra era seat tag index root) d x h = refl
start_helps_at layout clock k why (LoadAsked era seat tag index root) d x h = refl
start_helps_at layout clock k why (CheckEra era seat tag index root link) d x h = absurd (cc)
start_helps_at layout clock k why (AnswerAsked era seat tag index root link) d x h = absurd (cc)
start_helps_at layout clock k why at d x h = refl

pub start_helps_base : (layout : Layout) (clock k : ℕ) (why : Why) (base : Base) (d : Deal) (x : ℕ) → is_start (Runs why base) ≡ true → helps_base layout clock k base d x ≡ false
start_helps_base layout clock k why (Begin at) d x h = refl
start_helps_base layout clock k why (Protect aim index root steps at) d x h = refl
start_helps_base layout clock k why (Reload parent index slot era steps) d x h = refl
start_helps_base layout clock k why (Clear rows index) d x h = refl
start_helps_base layout clock k why Finish d x h = refl
start_helps_base layout clock k why (Release index) d x h = refl
start_helps_base layout clock k why (Allocate at) d x h = refl
start_helps_base layout clock k why (Write slot row place) d x h = refl
start_helps_base layout clock k why (GiveUp slot) d x h = refl
start_helps_base layout clock k why (Retire at) d x h = refl
start_helps_base layout clock k why (Move at) d x h = start_helps_at layout clock k why at d x h

pub start_helps : (layout : Layout) (clock k : ℕ) (phase : Phase) (d : Deal) (x : ℕ) → is_start phase ≡ true → helps_in layout clock k phase d x ≡ false
start_helps layout clock k Idle d x h = refl
start_helps layout clock k (Runs why base) d x h = start_helps_base layout clock k why base d x h
start_helps layout clock k (Scans later at) d x h = refl
start_helps layout clock k (Works work) d x h = refl

pub works_help : (layout : Layout) (clock k : ℕ) (phase : Phase) (d : Deal) (x : ℕ) → ((why : Why) (base : Base) → phase ≡ Runs why base → starts_base base ≡ true) → helps_in layout clock k phase d x ≡ false
works_help layout clock k Idle d x g = refl
works_help layout clock k (Runs why base) d x g = start_helps_base layout clock k why base d x (g why base refl)
works_help layout clock k (Scans later at) d x g = refl
works_help layout clock k (Works work) d x g = refl

-- a move carries nothing, and a protection helps nobody
pub move_carries : (clock upto : ℕ) (base : Base) (x : ℕ) → is_move base ≡ true → carries_base clock upto base x ≡ false
move_carries clock upto (Begin at) x h = absurd (cc)
move_carries clock upto (Protect aim index root steps at) x h = absurd (cc)
move_carries clock upto (Reload parent index slot era steps) x h = absurd (cc)
move_carries clock upto (Clear rows index) x h = absurd (cc)
move_carries clock upto Finish x h = absurd (cc)
move_carries clock upto (Release index) x h = absurd (cc)
move_carries clock upto (Allocate at) x h = absurd (cc)
move_carries clock upto (Write slot row place) x h = absurd (cc)
move_carries clock upto (GiveUp slot) x h = absurd (cc)
move_carries clock upto (Retire at) x h = absurd (cc)
move_carries clock upto (Move at) x h = refl

pub protect_helps : (layout : Layout) (clock k : ℕ) (base : Base) (d : Deal) (x : ℕ) → protects_base base ≡ true → helps_base layout clock k base d x ≡ false
protect_helps layout clock k (Begin at) d x h = refl
protect_helps layout clock k (Protect aim index root steps at) d x h = refl
protect_helps layout clock k (Reload parent index slot era steps) d x h = refl
protect_helps layout clock k (Clear rows index) d x h = refl
protect_helps layout clock k Finish d x h = refl
protect_helps layout clock k (Release index) d x h = refl
protect_helps layout clock k (Allocate at) d x h = refl
protect_helps layout clock k (Write slot row place) d x h = refl
protect_helps layout clock k (GiveUp slot) d x h = refl
protect_helps layout clock k (Retire at) d x h = refl
protect_helps layout clock k (Move at) d x h = absurd (cc)
