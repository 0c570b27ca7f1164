-- Move the clock by one era. Under Wait-Free Eras each request that is seen pending is answered first.
use Rattle.std.specs.Prelude.{ℕ, ◌==◌, ◌+◌, Bool, true, false, if◌then◌else◌, nat_lt, [], ◌∷◌, Option, Some, None}
use Rattle.wfe_words.specs.Packed.{read_request, read_reservation}
use Rattle.wfe_words.specs.declared.packed.Request.{Request}
use Rattle.wfe_words.specs.declared.packed.Request.TheVariants as requests
use Rattle.wfe_defs.specs.declared.call.ClockMove.TheVariants as moves
use Rattle.wfe_defs.specs.declared.event.Event.TheVariants as events
use Rattle.wfe_defs.specs.declared.event.Guard.TheVariants as guards
use Rattle.wfe_defs.specs.declared.event.Root.{Root}
use Rattle.wfe_core.specs.declared.post.Post.{Post}
use Rattle.wfe_core.specs.Guards.{one_era}
use Rattle.wfe_core.specs.Links.{root_at}
use Rattle.wfe_core.specs.SlowPath.{asking}
use Rattle.wfe_core.specs.Phases.{MoveAt, Turn, goes, ends}
use Rattle.wfe_core.specs.Phases.MoveAt.{LoadRequest, ShowEra, LoadAsked, CheckEra, AnswerAsked, LoadReserved, HandOver, HideEra, HideLate, ExchangeClock}
use Rattle.wfe_core.specs.Phases.Base.{Move}
use Rattle.wfe_core.specs.Phases.Ending.{Clocked}
use Rattle.wfe_core.specs.Posts.{reserves_helper}

-- all requests were met: the helper word is withdrawn where it was stored
abbrev pub all_met : ℕ → Bool → MoveAt
all_met era true = HideEra era
all_met era false = ExchangeClock era

-- the request after this seat's
abbrev pub next_request : Post → ℕ → ℕ → Bool → MoveAt
next_request post era seat shows =
    if nat_lt (seat + 1) post.layout.config.seats then LoadRequest era (seat + 1) shows else all_met era shows

-- the first step on a request, by whether the helper word was stored
abbrev pub helping : ℕ → ℕ → ℕ → ℕ → Root → Bool → MoveAt
helping era seat tag index root true = LoadAsked era seat tag index root
helping era seat tag index root false = ShowEra era seat tag index root

-- whether a seat asks for help
abbrev pub met : Post → ℕ → ℕ → Bool → Option Request → MoveAt
met post era seat shows (Some (requests.Pending tag index word)) = helping era seat tag index (root_at post.layout word) shows
met post era seat shows (Some (requests.Answered link answered)) = next_request post era seat shows
met post era seat shows (Some requests.Idle) = next_request post era seat shows
met post era seat shows None = next_request post era seat shows

-- the step after the clock was loaded
abbrev pub moving : Bool → ℕ → MoveAt
moving true era = LoadRequest era 0 false
moving false era = ExchangeClock era

-- 1. Load the clock. At its last era it stays.
abbrev pub after_load_era : Bool → Post → ℕ → Turn
after_load_era helps post found =
    if found == post.layout.config.last_era
    then ends post [] (Clocked (moves.EraSpent found))
    else goes post [] (Move (moving helps found))

-- 2. Load a seat's request word.
abbrev pub after_load_request : ℕ → ℕ → Bool → Post → ℕ → Turn
after_load_request era seat shows post found = goes post [] (Move (met post era seat shows (read_request found)))

-- 3. Store the era into the own helper word.
abbrev pub after_show_era : ℕ → ℕ → ℕ → ℕ → Root → Post → Turn
after_show_era era seat tag index root post = goes post (reserves_helper post era) (Move (LoadAsked era seat tag index root))

-- 4. Load the link that is asked for.
abbrev pub after_load_asked : ℕ → ℕ → ℕ → ℕ → Root → Post → ℕ → Turn
after_load_asked era seat tag index root post found = goes post [] (Move (CheckEra era seat tag index root found))

-- 5. Load the clock again: where it has moved, this move is late.
abbrev pub after_check_era : ℕ → ℕ → ℕ → ℕ → Root → ℕ → Post → ℕ → Turn
after_check_era era seat tag index root link post found =
    if found == era
    then goes post [] (Move (AnswerAsked era seat tag index root link))
    else goes post [] (Move (HideLate found))

-- 6. Exchange the seat's request from pending to answered.
abbrev pub after_answer_asked : ℕ → ℕ → ℕ → ℕ → Root → ℕ → Post → ℕ → Turn
after_answer_asked era seat tag index root link post found =
    if found == asking post.layout tag index root
    then goes post [] (Move (LoadReserved era seat tag index root link))
    else goes post [] (Move (next_request post era seat true))

-- 7. Load the seat's index word; with another tag its owner has taken the answer.
abbrev pub after_load_reserved : ℕ → ℕ → ℕ → ℕ → Root → ℕ → Post → ℕ → Turn
after_load_reserved era seat tag index root link post found =
    if (read_reservation found).tag == tag
    then goes post [] (Move (HandOver era seat tag index root link (read_reservation found).era))
    else goes post [] (Move (next_request post era seat true))

-- 8. Exchange the seat's index word for the era, with the tag raised by one: the hand-over.
abbrev pub after_hand_over : ℕ → ℕ → ℕ → ℕ → ℕ → Post → (same : Bool) → Turn
after_hand_over era seat tag index old post true =
    goes post (events.Reserve (guards.Index seat index) (one_era era) ∷ []) (Move (next_request post era seat true))
after_hand_over era seat tag index old post false = goes post [] (Move (next_request post era seat true))

-- 9. Store 0 into the own helper word.
abbrev pub after_hide_era : ℕ → Post → Turn
after_hide_era era post = goes post (reserves_helper post 0) (Move (ExchangeClock era))

abbrev pub after_hide_late : ℕ → Post → Turn
after_hide_late seen post = ends post (reserves_helper post 0) (Clocked (moves.Other seen))

-- 10. Exchange the clock from the era to the next one.
abbrev pub after_exchange_clock : ℕ → Post → ℕ → Turn
after_exchange_clock era post found =
    if found == era
    then ends post (events.Era (era + 1) ∷ []) (Clocked (moves.Moved (era + 1)))
    else ends post [] (Clocked (moves.Other found))
