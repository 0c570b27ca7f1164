-- The machines that calls are made of: what each phase asks for, and what it does with the answer.
use Rattle.std.specs.Prelude.{ℕ, ◌==◌, ◌+◌, true}
use Rattle.wfe_words.specs.Place.{claim_word, claim_mask, claim_others, Place as places}
use Rattle.wfe_words.specs.Packed.{answered_word, life_word, reservation_word}
use Rattle.wfe_defs.specs.declared.event.Root.{Root}
use Rattle.wfe_core.specs.declared.op.Op.{Op}
use Rattle.wfe_core.specs.declared.post.Post.{Post}
use Rattle.wfe_core.specs.Memory.{Load, Store, Cas, Or, And, numbered, bump}
use Rattle.wfe_core.specs.Memory as memory
use Rattle.wfe_core.specs.Links.{link_place}
use Rattle.wfe_core.specs.Posts.{tag_of, index_word, shown_word, helper_word, lower}
use Rattle.wfe_core.specs.Phases.{Aim, BeginAt, HazardAt, ProtectAt, AllocateAt, RetireAt, MoveAt, Base, Turn}
use Rattle.wfe_core.specs.Phases.BeginAt.{LoadLower, PublishSpan}
use Rattle.wfe_core.specs.Phases.ProtectAt.{LoadClock, PublishEra, LoadLink, CheckClock, PublishRequest, LoadOwnClock, PublishHelper, LoadOwnLink, CheckOwnClock, AnswerOwn, LoadAnswer, TakeAnswer, WithdrawRequest, WithdrawHelper, LoadWithin, CheckUpper, RaiseUpper, ByHazard}
use Rattle.wfe_core.specs.Phases.HazardAt.{FirstLink, PublishLink, CheckLink}
use Rattle.wfe_core.specs.Phases.AllocateAt.{LoadBirth, ClaimSlot, StoreLife}
use Rattle.wfe_core.specs.Phases.RetireAt.{LoadLife, LoadRetire, StoreRetired}
use Rattle.wfe_core.specs.Phases.MoveAt.{LoadEra, LoadRequest, ShowEra, LoadAsked, CheckEra, AnswerAsked, LoadReserved, HandOver, HideEra, HideLate, ExchangeClock}
use Rattle.wfe_core.specs.Phases.Base.{Begin, Protect, Reload, Clear, Finish, Release, Allocate, Write, GiveUp, Retire, Move}
use Rattle.wfe_core.specs.Protect.{after_load_clock, after_publish_era, after_load_link, after_check_clock}
use Rattle.wfe_core.specs.SlowPath.{asking, own_request, after_publish_request, after_load_own_clock, after_publish_helper, after_load_own_link, after_check_own_clock, after_answer_own, after_load_answer, after_take_answer, after_withdraw_request, after_withdraw_helper}
use Rattle.wfe_core.specs.Spans.{eras_word, after_load_lower, after_publish_span, after_load_within, after_check_upper, after_raise_upper, after_finish, after_release}
use Rattle.wfe_core.specs.Follow.{after_reload}
use Rattle.wfe_core.specs.Hazards.{after_first_link, after_publish_link, after_check_link}
use Rattle.wfe_core.specs.Clear.{after_clear}
use Rattle.wfe_core.specs.Allocate.{after_load_birth, after_claim_slot, after_store_life, after_give_up}
use Rattle.wfe_core.specs.WriteRow.{row_word, after_write}
use Rattle.wfe_core.specs.Retire.{after_load_life, after_load_retire, after_store_retired}
use Rattle.wfe_core.specs.MoveClock.{after_load_era, after_load_request, after_show_era, after_load_asked, after_check_era, after_answer_asked, after_load_reserved, after_hand_over, after_hide_era, after_hide_late, after_exchange_clock}

abbrev pub begin_move : BeginAt → Post → memory.Move
begin_move LoadLower post = Load places.Clock
begin_move (PublishSpan era) post = Store (places.Interval post.seat) (eras_word era era)

abbrev pub hazard_move : ℕ → Root → HazardAt → Post → memory.Move
hazard_move index root FirstLink post = Load (link_place root)
hazard_move index root (PublishLink link) post = Store (places.Index post.seat index) (shown_word true post index link)
hazard_move index root (CheckLink link) post = Load (link_place root)

abbrev pub protect_move : ℕ → Root → ProtectAt → Post → memory.Move
protect_move index root (LoadClock tries) post = Load places.Clock
protect_move index root (PublishEra era tries) post = Store (places.Index post.seat index) (index_word post index era)
protect_move index root (LoadLink era tries) post = Load (link_place root)
protect_move index root (CheckClock era tries link) post = Load places.Clock
protect_move index root PublishRequest post = Store (places.Request post.seat) (own_request post index root)
protect_move index root LoadOwnClock post = Load places.Clock
protect_move index root (PublishHelper first era last) post = Store (places.Helper post.seat) (helper_word era)
protect_move index root (LoadOwnLink first era last) post = Load (link_place root)
protect_move index root (CheckOwnClock first era last link) post = Load places.Clock
protect_move index root (AnswerOwn first era link) post = Cas (places.Request post.seat) (own_request post index root) (answered_word link era)
protect_move index root (LoadAnswer first) post = Load (places.Request post.seat)
protect_move index root (TakeAnswer link era) post =
    Store (places.Index post.seat index) (reservation_word (record { era = era; tag = tag_of post index + 1 }))
protect_move index root (WithdrawRequest link era) post = Store (places.Request post.seat) 0
protect_move index root (WithdrawHelper link era) post = Store (places.Helper post.seat) 0
protect_move index root LoadWithin post = Load (link_place root)
protect_move index root (CheckUpper link) post = Load places.Clock
protect_move index root (RaiseUpper era) post = Store (places.Interval post.seat) (eras_word (lower post.span) era)
protect_move index root (ByHazard at) post = hazard_move index root at post

abbrev pub allocate_move : AllocateAt → memory.Move
allocate_move LoadBirth = Load places.Clock
allocate_move (ClaimSlot birth walk) = Or (places.Claim (claim_word walk.slot)) (claim_mask walk.slot)
allocate_move (StoreLife birth slot) = Store (places.Life slot) (life_word (record { birth = birth; retire = 0 }))

-- the operation that makes a row free
abbrev pub free_move : ℕ → memory.Move
free_move slot = And (places.Claim (claim_word slot)) (claim_others slot)

abbrev pub retire_move : RetireAt → memory.Move
retire_move (LoadLife slot) = Load (places.Life slot)
retire_move (LoadRetire slot birth) = Load places.Clock
retire_move (StoreRetired slot birth retire) = Store (places.Life slot) (life_word (record { birth = birth; retire = retire }))

abbrev pub move_move : MoveAt → Post → memory.Move
move_move (LoadEra helps) post = Load places.Clock
move_move (LoadRequest era seat shows) post = Load (places.Request seat)
move_move (ShowEra era seat tag index root) post = Store (places.Helper post.seat) (helper_word era)
move_move (LoadAsked era seat tag index root) post = Load (link_place root)
move_move (CheckEra era seat tag index root link) post = Load places.Clock
move_move (AnswerAsked era seat tag index root link) post =
    Cas (places.Request seat) (asking post.layout tag index root) (answered_word link era)
move_move (LoadReserved era seat tag index root link) post = Load (places.Index seat index)
move_move (HandOver era seat tag index root link old) post =
    Cas
    (places.Index seat index)
    (reservation_word (record { era = old; tag = tag }))
    (reservation_word (record { era = era; tag = tag + 1 }))
move_move (HideEra era) post = Store (places.Helper post.seat) 0
move_move (HideLate seen) post = Store (places.Helper post.seat) 0
move_move (ExchangeClock era) post = Cas places.Clock era (era + 1)

-- the operation of a phase
abbrev pub base_move : Base → Post → memory.Move
base_move (Begin at) post = begin_move at post
base_move (Protect aim index root steps at) post = protect_move index root at post
base_move (Reload parent index slot era steps) post = Load places.Head
base_move (Clear rows index) post = Store (places.Index post.seat index) (shown_word rows post index 0)
base_move Finish post = Store (places.Interval post.seat) 0
base_move (Release index) post = Store (places.Interval post.seat) 0
base_move (Allocate at) post = allocate_move at
base_move (Write slot row place) post = Store (places.Row slot place) (row_word row place)
base_move (GiveUp slot) post = free_move slot
base_move (Retire at) post = retire_move at
base_move (Move at) post = move_move at post

-- the same on the word of the place's number
abbrev pub op_of : Base → Post → Op
op_of base post = numbered post.layout (base_move base post)

abbrev pub begin_turn : BeginAt → Post → ℕ → Turn
begin_turn LoadLower post found = after_load_lower post found
begin_turn (PublishSpan era) post found = after_publish_span era post

abbrev pub hazard_turn : Aim → ℕ → Root → ℕ → HazardAt → Post → ℕ → Turn
hazard_turn aim index root n FirstLink post found = after_first_link aim index root n post found
hazard_turn aim index root n (PublishLink link) post found = after_publish_link aim index root n link post
hazard_turn aim index root n (CheckLink link) post found = after_check_link aim index root n link post found

-- one step of a protection, its n-th
abbrev pub protect_turn : Aim → ℕ → Root → ℕ → ProtectAt → Post → ℕ → Turn
protect_turn aim index root n (LoadClock tries) post found = after_load_clock aim index root n tries post found
protect_turn aim index root n (PublishEra era tries) post found = after_publish_era aim index root n era tries post
protect_turn aim index root n (LoadLink era tries) post found = after_load_link aim index root n era tries post found
protect_turn aim index root n (CheckClock era tries link) post found = after_check_clock aim index root n era tries link post found
protect_turn aim index root n PublishRequest post found = after_publish_request aim index root n post
protect_turn aim index root n LoadOwnClock post found = after_load_own_clock aim index root n post found
protect_turn aim index root n (PublishHelper first era last) post found = after_publish_helper aim index root n first era last post
protect_turn aim index root n (LoadOwnLink first era last) post found = after_load_own_link aim index root n first era last post found
protect_turn aim index root n (CheckOwnClock first era last link) post found = after_check_own_clock aim index root n first era last link post found
protect_turn aim index root n (AnswerOwn first era link) post found = after_answer_own aim index root n first era link post found
protect_turn aim index root n (LoadAnswer first) post found = after_load_answer aim index root n post found
protect_turn aim index root n (TakeAnswer link era) post found = after_take_answer aim index root n link era post
protect_turn aim index root n (WithdrawRequest link era) post found = after_withdraw_request aim index root n link era post
protect_turn aim index root n (WithdrawHelper link era) post found = after_withdraw_helper aim index root n link era post
protect_turn aim index root n LoadWithin post found = after_load_within aim index root n post found
protect_turn aim index root n (CheckUpper link) post found = after_check_upper aim index root n link post found
protect_turn aim index root n (RaiseUpper era) post found = after_raise_upper aim index root n era post
protect_turn aim index root n (ByHazard at) post found = hazard_turn aim index root n at post found

abbrev pub allocate_turn : AllocateAt → Post → ℕ → Turn
allocate_turn LoadBirth post found = after_load_birth post found
allocate_turn (ClaimSlot birth walk) post found = after_claim_slot birth walk post found
allocate_turn (StoreLife birth slot) post found = after_store_life birth slot post

abbrev pub retire_turn : RetireAt → Post → ℕ → Turn
retire_turn (LoadLife slot) post found = after_load_life slot post found
retire_turn (LoadRetire slot birth) post found = after_load_retire slot birth post found
retire_turn (StoreRetired slot birth retire) post found = after_store_retired slot birth retire post

abbrev pub move_turn : MoveAt → Post → ℕ → Turn
move_turn (LoadEra helps) post found = after_load_era helps post found
move_turn (LoadRequest era seat shows) post found = after_load_request era seat shows post found
move_turn (ShowEra era seat tag index root) post found = after_show_era era seat tag index root post
move_turn (LoadAsked era seat tag index root) post found = after_load_asked era seat tag index root post found
move_turn (CheckEra era seat tag index root link) post found = after_check_era era seat tag index root link post found
move_turn (AnswerAsked era seat tag index root link) post found = after_answer_asked era seat tag index root link post found
move_turn (LoadReserved era seat tag index root link) post found = after_load_reserved era seat tag index root link post found
move_turn (HandOver era seat tag index root link old) post found =
    after_hand_over era seat tag index old post (found == reservation_word (record { era = old; tag = tag }))
move_turn (HideEra era) post found = after_hide_era era post
move_turn (HideLate seen) post found = after_hide_late seen post
move_turn (ExchangeClock era) post found = after_exchange_clock era post found

-- one step of a machine that found this
abbrev pub after : Base → Post → ℕ → Turn
after (Begin at) post found = begin_turn at post found
after (Protect aim index root steps at) post found = protect_turn aim index root (bump steps) at post found
after (Reload parent index slot era steps) post found = after_reload parent index slot (bump steps) post found
after (Clear rows index) post found = after_clear rows index post
after Finish post found = after_finish post
after (Release index) post found = after_release index post
after (Allocate at) post found = allocate_turn at post found
after (Write slot row place) post found = after_write slot row place post
after (GiveUp slot) post found = after_give_up slot post
after (Retire at) post found = retire_turn at post found
after (Move at) post found = move_turn at post found
