-- Which steps change what may come in a call: those that give or retire a row, move the clock or read a guard. All else that a step
-- tells changes nothing of it, and only a retirement raises the post's count.
use Rattle.std.proofs.Common.{ℕ, ◌≡◌, ◌+◌, Bool, true, false, List, [], ◌∷◌, ◌++◌, Option, Some, None, refl, ap, ◌∙◌}
use Rattle.std.proofs.lemmas.List.{append_assoc}
use Rattle.std.specs.Prelude.{◌==◌, ◌||◌, if◌then◌else◌}
use Rattle.law_reuse.specs.laws.words.declared.config.SchemeKind.{SchemeKind}
use Rattle.law_reuse.specs.laws.words.declared.config.SchemeKind.TheVariants.{He, Hp, Ibr, Wfe}
use Rattle.law_reuse.specs.laws.words.Packed.{reservation_word, read_reservation}
use Rattle.law_reuse.specs.laws.defs.declared.event.Event.{Event}
use Rattle.law_reuse.specs.laws.defs.declared.event.Event.TheVariants as events
use Rattle.law_reuse.specs.laws.defs.declared.event.Root.{Root}
use Rattle.law_reuse.specs.laws.defs.declared.event.Root.TheVariants as roots
use Rattle.law_reuse.specs.inv.model.declared.post.Post.{Post}
use Rattle.law_reuse.specs.inv.model.Allocate as allocates
use Rattle.law_reuse.specs.inv.model.Desks.{Desk}
use Rattle.law_reuse.specs.inv.model.Locals.{told_by}
use Rattle.law_reuse.specs.inv.model.Machine as machine
use Rattle.law_reuse.specs.inv.model.Memory.{bump}
use Rattle.law_reuse.specs.inv.model.MoveClock as movers
use Rattle.law_reuse.specs.inv.model.Posts.{reserves_helper, stands, upper, with_tag}
use Rattle.law_reuse.specs.laws.words.Schemes.{has_one_interval}
use Rattle.law_reuse.specs.inv.model.Protect as protects
use Rattle.law_reuse.specs.inv.model.Rounds.{scheme_of, clear_post, clear_told}
use Rattle.law_reuse.specs.inv.model.Steps as steps
use Rattle.law_reuse.specs.inv.model.SlowPath.{asking, own_request}
use Rattle.law_reuse.specs.inv.model.WriteRow.{last_written}
use Rattle.law_reuse.specs.inv.model.Phases.{Aim, Alone, Follows, ProtectAt, AllocateAt, RetireAt, MoveAt, Walk, Base, Turn}
use Rattle.law_reuse.specs.inv.model.Phases.BeginAt.{LoadLower, PublishSpan}
use Rattle.law_reuse.specs.inv.model.Phases.ProtectAt.{CheckClock, CheckOwnClock, AnswerOwn, TakeAnswer, WithdrawHelper, CheckUpper, ByHazard}
use Rattle.law_reuse.specs.inv.model.Phases.HazardAt.{FirstLink, PublishLink, CheckLink}
use Rattle.law_reuse.specs.inv.model.Phases.AllocateAt.{LoadBirth, ClaimSlot, StoreLife}
use Rattle.law_reuse.specs.inv.model.Phases.RetireAt.{LoadLife, LoadRetire, StoreRetired}
use Rattle.law_reuse.specs.inv.model.Phases.MoveAt.{LoadEra, CheckEra, AnswerAsked, LoadReserved, HandOver, ExchangeClock}
use Rattle.law_reuse.specs.inv.model.Phases.Base.{Begin, Protect, Reload, Allocate, Write, Retire, Move}
use Rattle.law_reuse.specs.inv.model.Calls.{Loosens, LoadHeld, StoreHeld, Looks, Misses, HideSpan, MarkLeft, TakeList, MarkTaken, Work, Getting, Changing, Enqueuing, Dequeuing, Keeping, Phase, Idle, Runs, Scans, Works}
use Rattle.law_reuse.proofs.history.Passes.{is_quiet, Closed, First, scan_told, step_goes, copied_post, work_post, work_told}
use Rattle.law_reuse.proofs.history.AllOf.{all_of, of_along, of_weaker}
use Rattle.law_reuse.proofs.history.MayTell.{Tells, base_all, clear_all, work_all}

-- an event that leaves a tally as it is
abbrev pub is_still : Event → Bool
is_still (events.Begin call) = false
is_still (events.Era era) = false
is_still (events.Read guard span) = false
is_still (events.Saw guard slot) = false
is_still (events.Give slot birth) = false
is_still (events.Retire slot birth retire) = false
is_still event = true

abbrev pub Still : List Event → Type 0
Still told = all_of is_still told ≡ true

same_count : (b : Bool) (post : Post) (t u : Turn) → t.post.retired ≡ post.retired → u.post.retired ≡ post.retired → (if b then t else u).post.retired ≡ post.retired
same_count true post t u h k = h
same_count false post t u h k = k

count_if : (b : Bool) (post p q : Post) → p.retired ≡ post.retired → q.retired ≡ post.retired → (if b then p else q).retired ≡ post.retired
count_if true post p q h k = h
count_if false post p q h k = k

held_count : (post : Post) (index : ℕ) (root : Root) (link : ℕ) → (protects.held_post post index root link).retired ≡ post.retired
held_count post index (roots.Next parent) link = refl
held_count post index (roots.Bucket bucket) link = count_if (link == 0) post _ _ refl refl
held_count post index roots.Head link = count_if (link == 0) post _ _ refl refl
held_count post index roots.Tail link = count_if (link == 0) post _ _ refl refl

concluded_count : (aim : Aim) (index : ℕ) (root : Root) (n link era : ℕ) (post other : Post) (told : List Event) → post.retired ≡ other.retired → (protects.concluded aim index root n link era post told).post.retired ≡ other.retired
concluded_count Alone index root n link era post other told c = c
concluded_count Follows index root n link era post other told c = same_count (link == 0) other _ _ c c

protect_count : (aim : Aim) (index : ℕ) (root : Root) (n : ℕ) (at : ProtectAt) (post : Post) (found : ℕ) → (machine.protect_turn aim index root n at post found).post.retired ≡ post.retired
protect_count aim index root n (CheckClock era tries link) post found = same_count (found == era) post _ _ (concluded_count aim index root n link era (protects.held_post post index root link) post (protects.told_held index root link n) (held_count post index root link)) refl
protect_count aim index root n (CheckOwnClock first era last link) post found = same_count (found == era) post _ _ refl refl
protect_count aim index root n (AnswerOwn first era link) post found = same_count (found == own_request post index root) post _ _ refl refl
protect_count aim index root n (TakeAnswer link era) post found = held_count (with_tag post index _) index root link
protect_count aim index root n (WithdrawHelper link era) post found = concluded_count aim index root n link era post post (reserves_helper post 0) refl
protect_count aim index root n (CheckUpper link) post found = same_count (found == upper post.span) post _ _ (concluded_count aim index root n link found (protects.held_post post index root link) post (protects.told_held index root link n) (held_count post index root link)) refl
protect_count aim index root n (ByHazard FirstLink) post found = same_count (found == 0) post _ _ (concluded_count aim index root n found 0 (protects.held_post post index root found) post (protects.told_held index root found n) (held_count post index root found)) refl
protect_count aim index root n (ByHazard (PublishLink link)) post found = refl
protect_count aim index root n (ByHazard (CheckLink link)) post found = same_count (found == link || found == 0) post _ _ (concluded_count aim index root n found 0 (protects.held_post post index root found) post (protects.told_held index root found n) (held_count post index root found)) refl
protect_count aim index root n at post found = refl

handed_count : (era seat tag index old : ℕ) (post : Post) (same : Bool) → (movers.after_hand_over era seat tag index old post same).post.retired ≡ post.retired
handed_count era seat tag index old post true = refl
handed_count era seat tag index old post false = refl

move_count : (at : MoveAt) (post : Post) (found : ℕ) → (machine.move_turn at post found).post.retired ≡ post.retired
move_count (LoadEra helps) post found = same_count (found == post.layout.config.last_era) post _ _ refl refl
move_count (CheckEra era seat tag index root link) post found = same_count (found == era) post _ _ refl refl
move_count (AnswerAsked era seat tag index root link) post found = same_count (found == asking post.layout tag index root) post _ _ refl refl
move_count (LoadReserved era seat tag index root link) post found = same_count ((read_reservation found).tag == tag) post _ _ refl refl
move_count (HandOver era seat tag index root link old) post found = handed_count era seat tag index old post (found == reservation_word (record { era = old; tag = tag }))
move_count (ExchangeClock era) post found = same_count (found == era) post _ _ refl refl
move_count at post found = refl

-- what a machine tells first that counts: a row that is given or retired, an era
abbrev pub claim_front : (birth slot : ℕ) → (claimed : Bool) → List Event
claim_front birth slot true = []
claim_front birth slot false = events.Give slot birth ∷ []

abbrev pub allocate_front : AllocateAt → ℕ → List Event
allocate_front LoadBirth found = []
allocate_front (ClaimSlot birth walk) found = claim_front birth walk.slot (allocates.is_claimed found walk.slot)
allocate_front (StoreLife birth slot) found = []

abbrev pub retire_front : RetireAt → List Event
retire_front (LoadLife slot) = []
retire_front (LoadRetire slot birth) = []
retire_front (StoreRetired slot birth retire) = events.Retire slot birth retire ∷ []

abbrev pub tick_front : (era : ℕ) → (same : Bool) → List Event
tick_front era true = events.Era (era + 1) ∷ []
tick_front era false = []

abbrev pub move_front : MoveAt → ℕ → List Event
move_front (ExchangeClock era) found = tick_front era (found == era)
move_front at found = []

abbrev pub base_front : Base → ℕ → List Event
base_front (Allocate at) found = allocate_front at found
base_front (Retire at) found = retire_front at
base_front (Move at) found = move_front at found
base_front base found = []

abbrev pub front : Phase → Post → ℕ → List Event
front Idle post found = []
front (Runs why base) post found = base_front base found
front (Scans later at) post found = scan_told at post found
front (Works work) post found = []

-- the count after it
abbrev pub counts_retire : RetireAt → ℕ → ℕ
counts_retire (LoadLife slot) n = n
counts_retire (LoadRetire slot birth) n = n
counts_retire (StoreRetired slot birth retire) n = bump n

abbrev pub counts_base : Base → ℕ → ℕ
counts_base (Retire at) n = counts_retire at n
counts_base base n = n

abbrev pub counts : Phase → ℕ → ℕ
counts (Runs why base) n = counts_base base n
counts phase n = n

-- what a turn tells starts so, and the rest counts for nothing
pub record Begins (first : List Event) (n : ℕ) (post : Post) (told : List Event) : Type 0 where
  pub rest : List Event
  pub is : told ≡ first ++ rest
  pub still : Still rest
  pub count : post.retired ≡ n

-- a machine that gives and retires no row, and does not move the clock
abbrev counts_none : Base → Bool
counts_none (Allocate at) = false
counts_none (Retire at) = false
counts_none (Move (ExchangeClock era)) = false
counts_none base = true

one_still : (base : Base) (post : Post) (found : ℕ) (event : Event) → counts_none base ≡ true → Tells base post found event → is_still event ≡ true
one_still (Move (ExchangeClock last)) post found event c t = absurd (cc)
one_still (Move at) post found (events.Era era) c t = absurd (cc)
one_still base post found (events.Begin call) c t = absurd (cc)
one_still base post found (events.Era era) c t = absurd (cc)
one_still base post found (events.Read guard span) c t = absurd (cc)
one_still base post found (events.Saw guard slot) c t = absurd (cc)
one_still base post found (events.Give slot birth) c t = absurd (cc)
one_still base post found (events.Retire slot birth retire) c t = absurd (cc)
one_still base post found event c t = refl

begins_none : (base : Base) (post : Post) (found : ℕ) → counts_none base ≡ true → (machine.after base post found).post.retired ≡ post.retired → Begins [] post.retired (machine.after base post found).post (machine.after base post found).told
begins_none base post found c n = record { rest = (machine.after base post found).told; is = refl; still = base_all is_still base post found (λ event. one_still base post found event c); count = n }

begins_all : (first : List Event) (post : Post) → Begins first post.retired post first
begins_all first post = record { rest = []; is = append_one first; still = refl; count = refl }
  where
    append_one : (first : List Event) → first ≡ first ++ []
    append_one [] = refl
    append_one (event ∷ first) = ap (λ (rest : List Event). event ∷ rest) (append_one first)

tick_begins : (era : ℕ) (post : Post) (found : ℕ) → Begins (move_front (ExchangeClock era) found) post.retired (machine.move_turn (ExchangeClock era) post found).post (machine.move_turn (ExchangeClock era) post found).told
tick_begins era post found = ticked (found == era) refl
  where
    ticked : (x : Bool) → (found == era) ≡ x → Begins (tick_front era x) post.retired (machine.move_turn (ExchangeClock era) post found).post (machine.move_turn (ExchangeClock era) post found).told
    ticked true e = rw e (begins_all (events.Era (era + 1) ∷ []) post)
    ticked false e = rw e (begins_all [] post)

walking_begins : (birth : ℕ) (post : Post) (x : Option Walk) → Begins [] post.retired (allocates.walking birth post x).post (allocates.walking birth post x).told
walking_begins birth post None = begins_all [] post
walking_begins birth post (Some walk) = begins_all [] post

allocate_begins : (at : AllocateAt) (post : Post) (found : ℕ) → Begins (allocate_front at found) post.retired (machine.allocate_turn at post found).post (machine.allocate_turn at post found).told
allocate_begins LoadBirth post found = begins_all [] post
allocate_begins (ClaimSlot birth walk) post found = claimed (allocates.is_claimed found walk.slot) refl
  where
    claimed : (x : Bool) → allocates.is_claimed found walk.slot ≡ x → Begins (claim_front birth walk.slot x) post.retired (machine.allocate_turn (ClaimSlot birth walk) post found).post (machine.allocate_turn (ClaimSlot birth walk) post found).told
    claimed true e = rw e (walking_begins birth post (allocates.walk_past post.layout.config.slots walk found))
    claimed false e = rw e (record { rest = []; is = refl; still = refl; count = refl })
allocate_begins (StoreLife birth slot) post found = begins_all [] post

retire_begins : (at : RetireAt) (post : Post) (found : ℕ) → Begins (retire_front at) (counts_retire at post.retired) (machine.retire_turn at post found).post (machine.retire_turn at post found).told
retire_begins (LoadLife slot) post found = begins_all [] post
retire_begins (LoadRetire slot birth) post found = begins_all [] post
retire_begins (StoreRetired slot birth retire) post found = record { rest = []; is = refl; still = refl; count = refl }

base_begins : (base : Base) (post : Post) (found : ℕ) → Begins (base_front base found) (counts_base base post.retired) (machine.after base post found).post (machine.after base post found).told
base_begins (Protect aim index root steps at) post found = begins_none (Protect aim index root steps at) post found refl (protect_count aim index root (bump steps) at post found)
base_begins (Reload parent index slot era steps) post found = begins_none (Reload parent index slot era steps) post found refl (same_count (found == parent + 1) post _ _ refl refl)
base_begins (Begin LoadLower) post found = begins_all [] post
base_begins (Begin (PublishSpan era)) post found = begins_none (Begin (PublishSpan era)) post found refl refl
base_begins (Allocate at) post found = allocate_begins at post found
base_begins (Write slot row place) post found = begins_none (Write slot row place) post found refl (same_count (place == last_written row) post _ _ refl refl)
base_begins (Retire at) post found = retire_begins at post found
base_begins (Move (ExchangeClock era)) post found = tick_begins era post found
base_begins (Move at) post found = begins_none (Move at) post found refl (move_count at post found)
base_begins base post found = begins_none base post found refl refl

quiet_still : (event : Event) → is_quiet event ≡ true → is_still event ≡ true
quiet_still (events.Begin call) h = absurd (cc)
quiet_still (events.Era era) h = absurd (cc)
quiet_still (events.Read guard span) h = absurd (cc)
quiet_still (events.Saw guard slot) h = absurd (cc)
quiet_still (events.Give slot birth) h = absurd (cc)
quiet_still (events.Retire slot birth retire) h = absurd (cc)
quiet_still event h = refl

clear_count : (scheme : SchemeKind) (post : Post) (index : ℕ) → (clear_post scheme post index).retired ≡ post.retired
clear_count He post index = refl
clear_count Ibr post index = refl
clear_count Wfe post index = refl
clear_count Hp post index = refl

begins_closed : (first : List Event) (n : ℕ) → Closed (Begins first n)
begins_closed first n = record {
  calm = λ post told more q h. record { rest = h.rest ++ more; is = ap (λ (all : List Event). all ++ more) h.is ∙ append_assoc first h.rest more; still = of_along is_still h.rest more h.still (of_weaker is_quiet is_still more quiet_still q); count = h.count };
  clears = λ post told index h.
      let more : List Event = clear_told (scheme_of post) post index in
      record { rest = h.rest ++ more; is = ap (λ (all : List Event). all ++ more) h.is ∙ append_assoc first h.rest more; still = of_along is_still h.rest more h.still (clear_all is_still (scheme_of post) post index (λ index slot. refl)); count = clear_count (scheme_of post) post index ∙ h.count };
}

copied_count : (index : ℕ) (post : Post) (x : Option ℕ) → (copied_post index post x).retired ≡ post.retired
copied_count index post None = refl
copied_count index post (Some slot) = refl

load_count : (from index : ℕ) (post : Post) (one : Bool) → (if one then copied_post index post (stands post from) else post).retired ≡ post.retired
load_count from index post true = copied_count index post (stands post from)
load_count from index post false = refl

work_count : (work : Work) (post : Post) → (work_post work post).retired ≡ post.retired
work_count (Keeping (Loosens let_go)) post = refl
work_count (Keeping (LoadHeld from index)) post = load_count from index post (has_one_interval (scheme_of post))
work_count (Keeping (StoreHeld from index era)) post = copied_count index post (stands post from)
work_count (Keeping (Looks index key at)) post = refl
work_count (Keeping (Misses index)) post = refl
work_count (Keeping HideSpan) post = refl
work_count (Keeping MarkLeft) post = refl
work_count (Keeping (TakeList place)) post = refl
work_count (Keeping (MarkTaken place count)) post = refl
work_count (Getting key at) post = refl
work_count (Changing kept at) post = refl
work_count (Enqueuing kept at) post = refl
work_count (Dequeuing at) post = refl

first_begins : (phase : Phase) (post : Post) (found : ℕ) → First (Begins (front phase post found) (counts phase post.retired)) phase post found
first_begins Idle post found = begins_all [] post
first_begins (Runs why base) post found = base_begins base post found
first_begins (Scans later at) post found = begins_all (scan_told at post found) post
first_begins (Works work) post found = record { rest = work_told work post; is = refl; still = work_all is_still (λ index slot. refl) (λ from index slot. refl) (λ seat index era. refl) (λ seat. refl) (λ seat index link. refl) work post; count = work_count work post }

pub told_begins : (phase : Phase) (post : Post) (desk : Desk) (found : ℕ) → Begins (front phase post found) (counts phase post.retired) (steps.phase_turn phase post desk found).post (told_by (steps.phase_turn phase post desk found))
told_begins phase post desk found = step_goes (Begins (front phase post found) (counts phase post.retired)) (begins_closed (front phase post found) (counts phase post.retired)) phase post desk found (first_begins phase post found)
