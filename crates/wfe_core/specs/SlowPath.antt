-- The slow path of Wait-Free Eras: the reader publishes a request, makes two turns of its own under its helper word, and
-- takes the answer, its own or that of a mover of the clock.
use Rattle.std.specs.Prelude.{ℕ, ◌==◌, ◌+◌, Bool, true, false, if◌then◌else◌, [], ◌++◌, Option, Some, None}
use Rattle.wfe_words.specs.Packed.{pending_word, read_request}
use Rattle.wfe_words.specs.declared.packed.Request.{Request}
use Rattle.wfe_words.specs.declared.packed.Request.TheVariants as requests
use Rattle.wfe_words.specs.declared.layout.Layout.{Layout}
use Rattle.wfe_defs.specs.declared.event.Root.{Root}
use Rattle.wfe_core.specs.declared.post.Post.{Post}
use Rattle.wfe_core.specs.Links.{link_number}
use Rattle.wfe_core.specs.Phases.{Aim, ProtectAt, Turn, goes}
use Rattle.wfe_core.specs.Phases.ProtectAt.{LoadOwnClock, PublishHelper, LoadOwnLink, CheckOwnClock, AnswerOwn, LoadAnswer, TakeAnswer, WithdrawRequest, WithdrawHelper}
use Rattle.wfe_core.specs.Phases.Base.{Protect}
use Rattle.wfe_core.specs.Posts.{tag_of, with_tag, reserves_index, reserves_helper}
use Rattle.wfe_core.specs.Protect.{held_post, told_held, concluded}

-- the pending request for the link at an index
abbrev pub asking : Layout → ℕ → ℕ → Root → ℕ
asking layout tag index root = pending_word tag index (link_number layout root)

-- the seat's own request
abbrev pub own_request : Post → ℕ → Root → ℕ
own_request post index root = asking post.layout (tag_of post index) index root

-- the answer that a request word has
abbrev pub answer_in : Option Request → ProtectAt
answer_in (Some (requests.Answered link era)) = TakeAnswer link era
answer_in (Some (requests.Pending tag index word)) = TakeAnswer 0 0
answer_in (Some requests.Idle) = TakeAnswer 0 0
answer_in None = TakeAnswer 0 0

-- 1. Store the pending request into the own request word.
abbrev pub after_publish_request : Aim → ℕ → Root → ℕ → Post → Turn
after_publish_request aim index root n post = goes post [] (Protect aim index root n LoadOwnClock)

-- 2. Load the clock.
abbrev pub after_load_own_clock : Aim → ℕ → Root → ℕ → Post → ℕ → Turn
after_load_own_clock aim index root n post found = goes post [] (Protect aim index root n (PublishHelper found found false))

-- 3. Store the era into the own helper word.
abbrev pub after_publish_helper : Aim → ℕ → Root → ℕ → ℕ → ℕ → Bool → Post → Turn
after_publish_helper aim index root n first era last post =
    goes post (reserves_helper post era) (Protect aim index root n (LoadOwnLink first era last))

-- 4. Load the link.
abbrev pub after_load_own_link : Aim → ℕ → Root → ℕ → ℕ → ℕ → Bool → Post → ℕ → Turn
after_load_own_link aim index root n first era last post found =
    goes post [] (Protect aim index root n (CheckOwnClock first era last found))

-- a turn is lost: the second, or the last
abbrev pub lost_turn : ℕ → Bool → ℕ → ProtectAt
lost_turn first false found = PublishHelper first found true
lost_turn first true found = LoadAnswer first

-- 5. Load the clock again.
abbrev pub after_check_own_clock : Aim → ℕ → Root → ℕ → ℕ → ℕ → Bool → ℕ → Post → ℕ → Turn
after_check_own_clock aim index root n first era last link post found =
    if found == era
    then goes post [] (Protect aim index root n (AnswerOwn first era link))
    else goes post [] (Protect aim index root n (lost_turn first last found))

-- 6. Exchange the own request from pending to answered; where that fails the word has a mover's answer.
abbrev pub after_answer_own : Aim → ℕ → Root → ℕ → ℕ → ℕ → ℕ → Post → ℕ → Turn
after_answer_own aim index root n first era link post found =
    if found == own_request post index root
    then goes post [] (Protect aim index root n (TakeAnswer link era))
    else goes post [] (Protect aim index root n (answer_in (read_request found)))

-- 7. Load the own request: it has a mover's answer.
abbrev pub after_load_answer : Aim → ℕ → Root → ℕ → Post → ℕ → Turn
after_load_answer aim index root n post found = goes post [] (Protect aim index root n (answer_in (read_request found)))

-- 8. Store the answer's era, with the tag raised by one, into the index word.
abbrev pub after_take_answer : Aim → ℕ → Root → ℕ → ℕ → ℕ → Post → Turn
after_take_answer aim index root n link era post =
    goes
    (held_post (with_tag post index (tag_of post index + 1)) index root link)
    (reserves_index post index era ++ told_held index root link n)
    (Protect aim index root n (WithdrawRequest link era))

-- 9. Store 0 into the own request word.
abbrev pub after_withdraw_request : Aim → ℕ → Root → ℕ → ℕ → ℕ → Post → Turn
after_withdraw_request aim index root n link era post = goes post [] (Protect aim index root n (WithdrawHelper link era))

-- 10. Store 0 into the own helper word; the protection is over.
abbrev pub after_withdraw_helper : Aim → ℕ → Root → ℕ → ℕ → ℕ → Post → Turn
after_withdraw_helper aim index root n link era post = concluded aim index root n link era post (reserves_helper post 0)
