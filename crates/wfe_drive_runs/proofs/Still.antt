-- A walk over the rows and a move of the clock change nothing of what stands.
use Rattle.std.proofs.Common.{Bool, None, Option, Some, false, refl, subst, true, ℕ, ◌∷◌, ◌≡◌, [], ◌==◌, if◌then◌else◌}
use Rattle.wfe_core.specs.defs.declared.event.Event.TheVariants as events
use Rattle.wfe_core.specs.words.Packed.{read_reservation, reservation_word}
use Rattle.wfe_core.specs.Allocate.{is_claimed, next_slot, walk_past, walking}
use Rattle.wfe_core.specs.Machine.{after, allocate_turn, move_turn}
use Rattle.wfe_core.specs.MoveClock.{after_hand_over}
use Rattle.wfe_core.specs.Phases.{AllocateAt, Base, Ends, Goes, MoveAt, Outcome, Turn, Walk, goes}
use Rattle.wfe_core.specs.Phases.AllocateAt.{ClaimSlot, LoadBirth, StoreLife}
use Rattle.wfe_core.specs.Phases.Base.{Allocate, Begin, Clear, Finish, GiveUp, Move, Protect, Release, Reload, Retire, Write}
use Rattle.wfe_core.specs.Phases.MoveAt.{AnswerAsked, CheckEra, ExchangeClock, HandOver, HideEra, HideLate, LoadAsked, LoadEra, LoadRequest, LoadReserved, ShowEra}
use Rattle.wfe_core.specs.SlowPath.{asking}
use Rattle.wfe_core.specs.declared.post.Post.{Post}
use Rattle.wfe_drive_runs.specs.Pieces.{IsWalk}

-- a walk goes on as a walk
abbrev pub WalksOn : Outcome → Type 0
WalksOn (Goes base) = IsWalk base
WalksOn (Ends ending) = Unit {0}

pub record Still (post : Post) (t : Turn) : Type 0 where
  pub same : t.post.standing ≡ post.standing
  pub next : WalksOn t.outcome

walking-still : (birth : ℕ) (post : Post) (past : Option Walk) → Still post (walking birth post past)
walking-still birth post None = record { same = refl; next = tt }
walking-still birth post (Some walk) = record { same = refl; next = tt }

claim-still : (birth found : ℕ) (walk : Walk) (post : Post) (claimed : Bool)
    → Still post (if claimed then walking birth post (walk_past post.layout.config.slots walk found) else goes (record post { cursor = next_slot post.layout.config.slots walk.slot }) (events.Give walk.slot birth ∷ []) (Allocate (StoreLife birth walk.slot)))
claim-still birth found walk post true = walking-still birth post (walk_past post.layout.config.slots walk found)
claim-still birth found walk post false = record { same = refl; next = tt }

allocate-still : (at : AllocateAt) (post : Post) (found : ℕ) → Still post (allocate_turn at post found)
allocate-still LoadBirth post found = record { same = refl; next = tt }
allocate-still (ClaimSlot birth walk) post found = claim-still birth found walk post (is_claimed found walk.slot)
allocate-still (StoreLife birth slot) post found = record { same = refl; next = tt }

-- so does a move of the clock
if-still : (b : Bool) (t u : Turn) (post : Post) → Still post t → Still post u → Still post (if b then t else u)
if-still true t u post e f = e
if-still false t u post e f = f

hand-still : (era seat tag index old : ℕ) (post : Post) (same : Bool) → Still post (after_hand_over era seat tag index old post same)
hand-still era seat tag index old post true = record { same = refl; next = tt }
hand-still era seat tag index old post false = record { same = refl; next = tt }

move-still : (at : MoveAt) (post : Post) (found : ℕ) → Still post (move_turn at post found)
move-still (LoadEra helps) post found = if-still (found == post.layout.config.last_era) _ _ post (record { same = refl; next = tt }) (record { same = refl; next = tt })
move-still (LoadRequest era seat shows) post found = record { same = refl; next = tt }
move-still (ShowEra era seat tag index root) post found = record { same = refl; next = tt }
move-still (LoadAsked era seat tag index root) post found = record { same = refl; next = tt }
move-still (CheckEra era seat tag index root link) post found = if-still (found == era) _ _ post (record { same = refl; next = tt }) (record { same = refl; next = tt })
move-still (AnswerAsked era seat tag index root link) post found = if-still (found == asking post.layout tag index root) _ _ post (record { same = refl; next = tt }) (record { same = refl; next = tt })
move-still (LoadReserved era seat tag index root link) post found = if-still ((read_reservation found).tag == tag) _ _ post (record { same = refl; next = tt }) (record { same = refl; next = tt })
move-still (HandOver era seat tag index root link old) post found = hand-still era seat tag index old post (found == reservation_word (record { era = old; tag = tag }))
move-still (HideEra era) post found = record { same = refl; next = tt }
move-still (HideLate seen) post found = record { same = refl; next = tt }
move-still (ExchangeClock era) post found = if-still (found == era) _ _ post (record { same = refl; next = tt }) (record { same = refl; next = tt })

pub walk_still : (base : Base) (post : Post) (found : ℕ) → IsWalk base → Still post (after base post found)
walk_still (Allocate at) post found w = allocate-still at post found
walk_still (Begin at) post found w = absurd w
walk_still (Protect aim index root steps at) post found w = absurd w
walk_still (Reload parent index slot era steps) post found w = absurd w
walk_still (Clear rows index) post found w = absurd w
walk_still Finish post found w = absurd w
walk_still (Release index) post found w = absurd w
walk_still (Write slot row place) post found w = absurd w
walk_still (GiveUp slot) post found w = absurd w
walk_still (Retire at) post found w = absurd w
walk_still (Move at) post found w = move-still at post found

pub walk_next : (outcome : Outcome) (next : Base) → outcome ≡ Goes next → WalksOn outcome → IsWalk next
walk_next outcome next e w = subst WalksOn e w
