-- What helper words hold after a step of their own seat: the turn or the mover has loaded it before, or loads it.
use Rattle.std.proofs.Common.{ℕ, ◌≡◌, ◌+◌, ◌∙◌, Bool, true, false, List, [], ◌∷◌, Option, Some, None, refl, sym, subst, arith, ◌&&◌}
use Rattle.std.proofs.lemmas.Bool.Decides.{nat_tests}
use Rattle.std.specs.Prelude.{◌==◌, if◌then◌else◌, nat_le, nat_lt, ◌||◌}
use Rattle.inv_rows.specs.words.Packed.{read_request, read_reservation, reservation_word}
use Rattle.inv_rows.specs.words.declared.packed.Request.{Request}
use Rattle.inv_rows.specs.words.declared.config.Config.{Config}
use Rattle.inv_rows.specs.words.declared.layout.Layout.{Layout}
use Rattle.inv_rows.specs.defs.declared.event.Event.{Event}
use Rattle.inv_rows.specs.defs.declared.event.Root.{Root}
use Rattle.inv_rows.specs.model.declared.post.Post.{Post}
use Rattle.inv_rows.specs.model.Links.{link_number, root_at}
use Rattle.inv_rows.specs.model.Memory.{found}
use Rattle.inv_rows.specs.model.Phases.{Aim, Alone, Follows, Walk, Tries, Endless, Failed, BeginAt, ProtectAt, AllocateAt, RetireAt, MoveAt, Base, Outcome, Goes, Ends, Turn, goes, ends}
use Rattle.inv_rows.specs.model.Phases.BeginAt.{LoadLower, PublishSpan}
use Rattle.inv_rows.specs.model.Phases.ProtectAt.{LoadClock, PublishEra, LoadLink, CheckClock, PublishRequest, LoadOwnClock, PublishHelper, LoadOwnLink, CheckOwnClock, AnswerOwn, LoadAnswer, TakeAnswer, WithdrawRequest, WithdrawHelper, LoadWithin, CheckUpper, RaiseUpper, ByHazard}
use Rattle.inv_rows.specs.model.Phases.HazardAt.{FirstLink, PublishLink, CheckLink}
use Rattle.inv_rows.specs.model.Phases.AllocateAt.{LoadBirth, ClaimSlot, StoreLife}
use Rattle.inv_rows.specs.model.Phases.RetireAt.{LoadLife, LoadRetire, StoreRetired}
use Rattle.inv_rows.specs.model.Phases.MoveAt.{LoadEra, LoadRequest, ShowEra, LoadAsked, CheckEra, AnswerAsked, LoadReserved, HandOver, HideEra, HideLate, ExchangeClock}
use Rattle.inv_rows.specs.model.Phases.Base.{Begin, Protect, Reload, Clear, Finish, Release, Allocate, Write, GiveUp, Retire, Move}
use Rattle.inv_rows.specs.model.Protect.{held_post, told_held, failed_once, trying, concluded, protected}
use Rattle.inv_rows.specs.model.SlowPath.{asking, own_request, answer_in, lost_turn}
use Rattle.inv_rows.specs.model.Machine.{begin_turn, protect_turn, allocate_turn, retire_turn, move_turn, after}
use Rattle.inv_rows.specs.model.Calls.{Why, Phase, Runs}
use Rattle.inv_rows.specs.Covering.Requests.Roles.{shows}
use Rattle.inv_rows.specs.Covering.Requests.Views.{Deal}
use Rattle.inv_rows.specs.Rows.{Status}
use Rattle.inv_rows.specs.Covering.Held.{leads, under}
use Rattle.inv_rows.specs.Covering.Tries.{starts_protect, starts_move, starts_base, is_start}
use Rattle.inv_ends.specs.Helped.{open_by, turn_holds, move_holds, helper_holds}
use Rattle.inv_rows.specs.words.declared.packed.Request.TheVariants as requests
use Rattle.inv_rows.specs.defs.declared.call.ClockMove.TheVariants as moves
use Rattle.inv_rows.specs.defs.declared.event.Event.TheVariants as events
use Rattle.inv_rows.specs.model.Posts.{reserves_helper, upper}
use Rattle.inv_rows.specs.model.MoveClock.{all_met, next_request, helping, met, moving, after_hand_over}
use Rattle.inv_rows.specs.model.Allocate.{walking, walk_past, is_claimed}
use Rattle.inv_rows.specs.model.WriteRow.{last_written}
use Rattle.inv_rows.specs.model.Phases.Ending.{Clocked}
use Rattle.inv_rows.proofs.model.Facts.{rest_of, no_truth}

-- what an outcome leaves held
abbrev pub out_holds : Layout → ℕ → (ℕ → Status) → (ℕ → Deal) → Outcome → ℕ → Bool
out_holds layout clock status deal (Goes base) s = helper_holds layout clock status deal base s
out_holds layout clock status deal (Ends ending) s = false

-- where it comes from: a link that is loaded, or one that was and is checked
abbrev pub turn_from_link : ℕ → (ℕ → Status) → Root → ProtectAt → ℕ → ℕ → Bool
turn_from_link clock status root (LoadOwnLink first era last) found s = leads found s && (clock == era && under status root)
turn_from_link clock status root (CheckOwnClock first era last link) found s = found == era && (leads link s && under status root)
turn_from_link clock status root at found s = false

abbrev pub move_from_link : Layout → ℕ → (ℕ → Status) → (ℕ → Deal) → MoveAt → ℕ → ℕ → Bool
move_from_link layout clock status deal (LoadAsked e k t j root) found s = leads found s && (clock == e && under status root)
move_from_link layout clock status deal (CheckEra e k t j root link) found s =
    found == e && (open_by t j (link_number layout root) (deal k) && (leads link s && under status root))
move_from_link layout clock status deal at found s = false

-- nothing is loaded at a start
start_turn : (clock : ℕ) (status : ℕ → Status) (root : Root) (at : ProtectAt) (s : ℕ) → starts_protect at ≡ true → turn_holds clock status root at s ≡ false
start_turn clock status root (CheckOwnClock first era last link) s h = absurd (cc)
start_turn clock status root (AnswerOwn first era link) s h = absurd (cc)
start_turn clock status root at s h = refl

start_move : (layout : Layout) (clock : ℕ) (status : ℕ → Status) (deal : ℕ → Deal) (at : MoveAt) (s : ℕ) → starts_move at ≡ true → move_holds layout clock status deal at s ≡ false
start_move layout clock status deal (CheckEra e k t j root link) s h = absurd (cc)
start_move layout clock status deal (AnswerAsked e k t j root link) s h = absurd (cc)
start_move layout clock status deal at s h = refl

pub start_unheld : (layout : Layout) (clock : ℕ) (status : ℕ → Status) (deal : ℕ → Deal) (base : Base) (s : ℕ) → starts_base base ≡ true → helper_holds layout clock status deal base s ≡ false
start_unheld layout clock status deal (Protect aim index root steps at) s h = start_turn clock status root at s h
start_unheld layout clock status deal (Move at) s h = start_move layout clock status deal at s h
start_unheld layout clock status deal base s h = refl

-- a phase that a call comes to by no step of a machine's own
pub starts_unheld : (layout : Layout) (clock : ℕ) (status : ℕ → Status) (deal : ℕ → Deal) (phase : Phase) (why : Why) (base : Base) (s : ℕ) → is_start phase ≡ true → phase ≡ Runs why base → helper_holds layout clock status deal base s ≡ true → false ≡ true
starts_unheld layout clock status deal phase why base s st e h =
    let b : starts_base base ≡ true = subst (λ (p : Phase). is_start p ≡ true) e st in
    sym (start_unheld layout clock status deal base s b) ∙ h

-- own turns
either_unheld : (layout : Layout) (clock : ℕ) (status : ℕ → Status) (deal : ℕ → Deal) (one two : Turn) (s : ℕ) (same : Bool) → out_holds layout clock status deal one.outcome s ≡ false → out_holds layout clock status deal two.outcome s ≡ false → out_holds layout clock status deal (if same then one else two).outcome s ≡ false
either_unheld layout clock status deal one two s true a b = a
either_unheld layout clock status deal one two s false a b = b

over_unheld : (layout : Layout) (clock : ℕ) (status : ℕ → Status) (deal : ℕ → Deal) (aim : Aim) (index : ℕ) (root : Root) (n link era : ℕ) (post : Post) (told : List Event) (s : ℕ) → out_holds layout clock status deal (concluded aim index root n link era post told).outcome s ≡ false
over_unheld layout clock status deal Alone index root n link era post told s = refl
over_unheld layout clock status deal Follows index root n link era post told s = either_unheld layout clock status deal _ _ s (link == 0) refl refl

trying_unheld : (clock : ℕ) (status : ℕ → Status) (config : Config) (root : Root) (era : ℕ) (tries : Tries) (s : ℕ) → turn_holds clock status root (trying config era tries) s ≡ false
trying_unheld clock status config root era Endless s = refl
trying_unheld clock status config root era (Failed count) s = by_more (nat_le config.tries count) where
  by_more : (over : Bool) → turn_holds clock status root (if over then PublishRequest else LoadLink era (Failed count)) s ≡ false
  by_more true = refl
  by_more false = refl

lost_unheld : (clock : ℕ) (status : ℕ → Status) (root : Root) (first found : ℕ) (last : Bool) (s : ℕ) → turn_holds clock status root (lost_turn first last found) s ≡ false
lost_unheld clock status root first found true s = refl
lost_unheld clock status root first found false s = refl

answer_unheld : (clock : ℕ) (status : ℕ → Status) (root : Root) (x : Option Request) (s : ℕ) → turn_holds clock status root (answer_in x) s ≡ false
answer_unheld clock status root None s = refl
answer_unheld clock status root (Some requests.Idle) s = refl
answer_unheld clock status root (Some (requests.Pending tag index word)) s = refl
answer_unheld clock status root (Some (requests.Answered link era)) s = refl

own_check : (layout : Layout) (clock : ℕ) (status : ℕ → Status) (deal : ℕ → Deal) (aim : Aim) (index : ℕ) (root : Root) (n first era : ℕ) (last : Bool) (link found : ℕ) (post : Post) (s : ℕ) (same : Bool) → (found == era) ≡ same
    → out_holds layout clock status deal (if same then goes post [] (Protect aim index root n (AnswerOwn first era link)) else goes post [] (Protect aim index root n (lost_turn first last found))).outcome s ≡ true → (found == era && (leads link s && under status root)) ≡ true
own_check layout clock status deal aim index root n first era last link found post s true e h = grind (arith, nat_tests)
own_check layout clock status deal aim index root n first era last link found post s false e h = absurd (no_truth (sym (lost_unheld clock status root first found last s) ∙ h))

pub protect_loads : (layout : Layout) (clock : ℕ) (status : ℕ → Status) (deal : ℕ → Deal) (aim : Aim) (index : ℕ) (root : Root) (n : ℕ) (at : ProtectAt) (post : Post) (found s : ℕ) → out_holds layout clock status deal (protect_turn aim index root n at post found).outcome s ≡ true → turn_from_link clock status root at found s ≡ true
protect_loads layout clock status deal aim index root n (LoadClock tries) post found s h = absurd (cc)
protect_loads layout clock status deal aim index root n (PublishEra era tries) post found s h = absurd (no_truth (sym (trying_unheld clock status post.layout.config root era tries s) ∙ h))
protect_loads layout clock status deal aim index root n (LoadLink era tries) post found s h = absurd (cc)
protect_loads layout clock status deal aim index root n (CheckClock era tries link) post found s h =
    absurd (no_truth (sym (either_unheld layout clock status deal (protected aim index root n link era post) (goes post [] (Protect aim index root n (PublishEra found (failed_once tries)))) s (found == era) (over_unheld layout clock status deal aim index root n link era (held_post post index root link) (told_held index root link n) s) refl) ∙ h))
protect_loads layout clock status deal aim index root n PublishRequest post found s h = absurd (cc)
protect_loads layout clock status deal aim index root n LoadOwnClock post found s h = absurd (cc)
protect_loads layout clock status deal aim index root n (PublishHelper first era last) post found s h = absurd (cc)
protect_loads layout clock status deal aim index root n (LoadOwnLink first era last) post found s h = h
protect_loads layout clock status deal aim index root n (CheckOwnClock first era last link) post found s h = own_check layout clock status deal aim index root n first era last link found post s (found == era) refl h
protect_loads layout clock status deal aim index root n (AnswerOwn first era link) post found s h =
    absurd (no_truth (sym (either_unheld layout clock status deal (goes post [] (Protect aim index root n (TakeAnswer link era))) (goes post [] (Protect aim index root n (answer_in (read_request found)))) s (found == own_request post index root) refl (answer_unheld clock status root (read_request found) s)) ∙ h))
protect_loads layout clock status deal aim index root n (LoadAnswer first) post found s h = absurd (no_truth (sym (answer_unheld clock status root (read_request found) s) ∙ h))
protect_loads layout clock status deal aim index root n (TakeAnswer link era) post found s h = absurd (cc)
protect_loads layout clock status deal aim index root n (WithdrawRequest link era) post found s h = absurd (cc)
protect_loads layout clock status deal aim index root n (WithdrawHelper link era) post found s h = absurd (no_truth (sym (over_unheld layout clock status deal aim index root n link era post (reserves_helper post 0) s) ∙ h))
protect_loads layout clock status deal aim index root n LoadWithin post found s h = absurd (cc)
protect_loads layout clock status deal aim index root n (CheckUpper link) post found s h =
    absurd (no_truth (sym (either_unheld layout clock status deal (protected aim index root n link found post) (goes post [] (Protect aim index root n (RaiseUpper found))) s (found == upper post.span) (over_unheld layout clock status deal aim index root n link found (held_post post index root link) (told_held index root link n) s) refl) ∙ h))
protect_loads layout clock status deal aim index root n (RaiseUpper era) post found s h = absurd (cc)
protect_loads layout clock status deal aim index root n (ByHazard FirstLink) post found s h =
    absurd (no_truth (sym (either_unheld layout clock status deal (protected aim index root n found 0 post) (goes post [] (Protect aim index root n (ByHazard (PublishLink found)))) s (found == 0) (over_unheld layout clock status deal aim index root n found 0 (held_post post index root found) (told_held index root found n) s) refl) ∙ h))
protect_loads layout clock status deal aim index root n (ByHazard (PublishLink link)) post found s h = absurd (cc)
protect_loads layout clock status deal aim index root n (ByHazard (CheckLink link)) post found s h =
    absurd (no_truth (sym (either_unheld layout clock status deal (protected aim index root n found 0 post) (goes post [] (Protect aim index root n (ByHazard (PublishLink found)))) s (found == link || found == 0) (over_unheld layout clock status deal aim index root n found 0 (held_post post index root found) (told_held index root found n) s) refl) ∙ h))

-- movers
met_all_unheld : (layout : Layout) (clock : ℕ) (status : ℕ → Status) (deal : ℕ → Deal) (era s : ℕ) (shows : Bool) → move_holds layout clock status deal (all_met era shows) s ≡ false
met_all_unheld layout clock status deal era s true = refl
met_all_unheld layout clock status deal era s false = refl

next_unheld : (layout : Layout) (clock : ℕ) (status : ℕ → Status) (deal : ℕ → Deal) (post : Post) (era k s : ℕ) (shows : Bool) → move_holds layout clock status deal (next_request post era k shows) s ≡ false
next_unheld layout clock status deal post era k s shows = by_more (nat_lt (k + 1) post.layout.config.seats) where
  by_more : (more : Bool) → move_holds layout clock status deal (if more then LoadRequest era (k + 1) shows else all_met era shows) s ≡ false
  by_more true = refl
  by_more false = met_all_unheld layout clock status deal era s shows

helping_unheld : (layout : Layout) (clock : ℕ) (status : ℕ → Status) (deal : ℕ → Deal) (era k t j : ℕ) (root : Root) (s : ℕ) (shows : Bool) → move_holds layout clock status deal (helping era k t j root shows) s ≡ false
helping_unheld layout clock status deal era k t j root s true = refl
helping_unheld layout clock status deal era k t j root s false = refl

met_unheld : (layout : Layout) (clock : ℕ) (status : ℕ → Status) (deal : ℕ → Deal) (post : Post) (era k s : ℕ) (shows : Bool) (x : Option Request) → move_holds layout clock status deal (met post era k shows x) s ≡ false
met_unheld layout clock status deal post era k s shows None = next_unheld layout clock status deal post era k s shows
met_unheld layout clock status deal post era k s shows (Some requests.Idle) = next_unheld layout clock status deal post era k s shows
met_unheld layout clock status deal post era k s shows (Some (requests.Pending tag index word)) = helping_unheld layout clock status deal era k tag index (root_at post.layout word) s shows
met_unheld layout clock status deal post era k s shows (Some (requests.Answered link answered)) = next_unheld layout clock status deal post era k s shows

moving_unheld : (layout : Layout) (clock : ℕ) (status : ℕ → Status) (deal : ℕ → Deal) (helps : Bool) (era s : ℕ) → move_holds layout clock status deal (moving helps era) s ≡ false
moving_unheld layout clock status deal true era s = refl
moving_unheld layout clock status deal false era s = refl

handed_unheld : (layout : Layout) (clock : ℕ) (status : ℕ → Status) (deal : ℕ → Deal) (era k tag index old : ℕ) (post : Post) (s : ℕ) (same : Bool) → out_holds layout clock status deal (after_hand_over era k tag index old post same).outcome s ≡ false
handed_unheld layout clock status deal era k tag index old post s true = next_unheld layout clock status deal post era k s true
handed_unheld layout clock status deal era k tag index old post s false = next_unheld layout clock status deal post era k s true

era_check : (layout : Layout) (clock : ℕ) (status : ℕ → Status) (deal : ℕ → Deal) (e k t j : ℕ) (root : Root) (link found : ℕ) (post : Post) (s : ℕ) (same : Bool) → (found == e) ≡ same
    → out_holds layout clock status deal (if same then goes post [] (Move (AnswerAsked e k t j root link)) else goes post [] (Move (HideLate found))).outcome s ≡ true → (found == e && (open_by t j (link_number layout root) (deal k) && (leads link s && under status root))) ≡ true
era_check layout clock status deal e k t j root link found post s true q h = rw q h
era_check layout clock status deal e k t j root link found post s false q h = absurd (cc)

pub move_loads : (layout : Layout) (clock : ℕ) (status : ℕ → Status) (deal : ℕ → Deal) (at : MoveAt) (post : Post) (found s : ℕ) → out_holds layout clock status deal (move_turn at post found).outcome s ≡ true → move_from_link layout clock status deal at found s ≡ true
move_loads layout clock status deal (LoadEra helps) post found s h = absurd (no_truth (sym (either_unheld layout clock status deal (ends post [] (Clocked (moves.EraSpent found))) (goes post [] (Move (moving helps found))) s (found == post.layout.config.last_era) refl (moving_unheld layout clock status deal helps found s)) ∙ h))
move_loads layout clock status deal (LoadRequest e k shown) post found s h = absurd (no_truth (sym (met_unheld layout clock status deal post e k s shown (read_request found)) ∙ h))
move_loads layout clock status deal (ShowEra e k t j root) post found s h = absurd (cc)
move_loads layout clock status deal (LoadAsked e k t j root) post found s h = rest_of (open_by t j (link_number layout root) (deal k)) (leads found s && (clock == e && under status root)) h
move_loads layout clock status deal (CheckEra e k t j root link) post found s h = era_check layout clock status deal e k t j root link found post s (found == e) refl h
move_loads layout clock status deal (AnswerAsked e k t j root link) post found s h =
    absurd (no_truth (sym (either_unheld layout clock status deal (goes post [] (Move (LoadReserved e k t j root link))) (goes post [] (Move (next_request post e k true))) s (found == asking post.layout t j root) refl (next_unheld layout clock status deal post e k s true)) ∙ h))
move_loads layout clock status deal (LoadReserved e k t j root link) post found s h =
    absurd (no_truth (sym (either_unheld layout clock status deal (goes post [] (Move (HandOver e k t j root link (read_reservation found).era))) (goes post [] (Move (next_request post e k true))) s ((read_reservation found).tag == t) refl (next_unheld layout clock status deal post e k s true)) ∙ h))
move_loads layout clock status deal (HandOver e k t j root link old) post found s h = absurd (no_truth (sym (handed_unheld layout clock status deal e k t j old post s (found == reservation_word (record { era = old; tag = t }))) ∙ h))
move_loads layout clock status deal (HideEra e) post found s h = absurd (cc)
move_loads layout clock status deal (HideLate seen) post found s h = absurd (cc)
move_loads layout clock status deal (ExchangeClock e) post found s h =
    absurd (no_truth (sym (either_unheld layout clock status deal (ends post (events.Era (e + 1) ∷ []) (Clocked (moves.Moved (e + 1)))) (ends post [] (Clocked (moves.Other found))) s (found == e) refl refl) ∙ h))

-- the other machines load nothing
walk_unheld : (layout : Layout) (clock : ℕ) (status : ℕ → Status) (deal : ℕ → Deal) (birth : ℕ) (post : Post) (x : Option Walk) (s : ℕ) → out_holds layout clock status deal (walking birth post x).outcome s ≡ false
walk_unheld layout clock status deal birth post None s = refl
walk_unheld layout clock status deal birth post (Some walk) s = refl

allocate_unheld : (layout : Layout) (clock : ℕ) (status : ℕ → Status) (deal : ℕ → Deal) (at : AllocateAt) (post : Post) (found s : ℕ) → out_holds layout clock status deal (allocate_turn at post found).outcome s ≡ false
allocate_unheld layout clock status deal LoadBirth post found s = refl
allocate_unheld layout clock status deal (ClaimSlot birth walk) post found s = either_unheld layout clock status deal (walking birth post (walk_past post.layout.config.slots walk found)) _ s (is_claimed found walk.slot) (walk_unheld layout clock status deal birth post (walk_past post.layout.config.slots walk found) s) refl
allocate_unheld layout clock status deal (StoreLife birth slot) post found s = refl

retire_unheld : (layout : Layout) (clock : ℕ) (status : ℕ → Status) (deal : ℕ → Deal) (at : RetireAt) (post : Post) (found s : ℕ) → out_holds layout clock status deal (retire_turn at post found).outcome s ≡ false
retire_unheld layout clock status deal (LoadLife slot) post found s = refl
retire_unheld layout clock status deal (LoadRetire slot birth) post found s = refl
retire_unheld layout clock status deal (StoreRetired slot birth retire) post found s = refl

begin_unheld : (layout : Layout) (clock : ℕ) (status : ℕ → Status) (deal : ℕ → Deal) (at : BeginAt) (post : Post) (found s : ℕ) → out_holds layout clock status deal (begin_turn at post found).outcome s ≡ false
begin_unheld layout clock status deal LoadLower post found s = refl
begin_unheld layout clock status deal (PublishSpan era) post found s = refl

-- the machines that may load a link for a helper word
abbrev pub may_load : Base → Bool
may_load (Protect aim index root steps at) = true
may_load (Move at) = true
may_load base = false

pub other_unheld : (layout : Layout) (clock : ℕ) (status : ℕ → Status) (deal : ℕ → Deal) (base : Base) (post : Post) (found s : ℕ) → may_load base ≡ false → out_holds layout clock status deal (after base post found).outcome s ≡ false
other_unheld layout clock status deal (Begin at) post found s p = begin_unheld layout clock status deal at post found s
other_unheld layout clock status deal (Protect aim index root steps at) post found s p = absurd (cc)
other_unheld layout clock status deal (Reload parent index slot era steps) post found s p = either_unheld layout clock status deal _ _ s (found == parent + 1) refl refl
other_unheld layout clock status deal (Clear rows index) post found s p = refl
other_unheld layout clock status deal Finish post found s p = refl
other_unheld layout clock status deal (Release index) post found s p = refl
other_unheld layout clock status deal (Allocate at) post found s p = allocate_unheld layout clock status deal at post found s
other_unheld layout clock status deal (Write slot row place) post found s p = either_unheld layout clock status deal _ _ s (place == last_written row) refl refl
other_unheld layout clock status deal (GiveUp slot) post found s p = refl
other_unheld layout clock status deal (Retire at) post found s p = retire_unheld layout clock status deal at post found s
other_unheld layout clock status deal (Move at) post found s p = absurd (cc)
