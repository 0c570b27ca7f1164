-- The same of the other machines.
use Rattle.std.proofs.Common.{ℕ, zero, suc, ◌≡◌, ◌≤◌, ◌<◌, ◌+◌, ◌-◌, Bool, true, false, [], ◌∷◌, arith, refl}
use Rattle.std.proofs.lemmas.Bool.Decides.{nat_tests}
use Rattle.inv_rows.specs.model.Memory.{bump}
use Rattle.inv_rows.specs.model.Machine.{after, move_turn}
use Rattle.inv_rows.specs.defs.declared.event.Event.TheVariants as events
use Rattle.inv_rows.specs.defs.declared.call.ClockMove.TheVariants as moves
use Rattle.inv_rows.specs.model.declared.ends.FollowEnd.TheVariants as follow_ends
use Rattle.inv_rows.specs.model.Allocate.{is_claimed, next_slot, shown_of, shown_word, walk_at, walk_on, walk_past, walking}
use Rattle.inv_rows.specs.model.MoveClock.{after_hand_over, moving, next_request}
use Rattle.inv_rows.specs.model.Phases.{Base, MoveAt, Outcome, Turn, Walk, ends, goes}
use Rattle.inv_rows.specs.model.Phases.AllocateAt.{ClaimSlot, LoadBirth, StoreLife}
use Rattle.inv_rows.specs.model.Phases.Base.{Allocate, Begin, Clear, Finish, GiveUp, Move, Protect, Release, Reload, Retire, Write}
use Rattle.inv_rows.specs.model.Phases.Ending.{Clocked, Done, Followed}
use Rattle.inv_rows.specs.model.Phases.MoveAt.{AnswerAsked, CheckEra, ExchangeClock, HandOver, HideEra, HideLate, LoadAsked, LoadEra, LoadRequest, LoadReserved, ShowEra}
use Rattle.inv_rows.specs.model.Phases.Outcome.{Ends, Goes}
use Rattle.inv_rows.specs.model.Phases.RetireAt.{LoadLife, LoadRetire, StoreRetired}
use Rattle.inv_rows.specs.model.Posts.{with_row}
use Rattle.inv_rows.specs.model.Rest.{eras_left, move_left, span_seen}
use Rattle.inv_rows.specs.model.SlowPath.{asking}
use Rattle.inv_rows.specs.model.WriteRow.{last_written}
use Rattle.inv_rows.specs.model.declared.post.Post.{Post}
use Rattle.inv_rows.specs.defs.declared.event.Event.{Event}
use Rattle.inv_rows.specs.Covering.Requests.Paces.{Falls}
use Rattle.inv_rows.specs.Covering.Requests.Roles.{shows}
use Rattle.inv_ends.proofs.Rest.Machines.{Settles, seen_rises, settles, start_of}
use Rattle.inv_rows.specs.words.Packed.{read_reservation, reservation_word}
use Rattle.inv_rows.specs.words.declared.config.Config.{Config}
use Rattle.std.specs.Prelude.{List, Option, Some, None, ◌==◌}
use Rattle.inv_rows.proofs.model.Facts.{if_by}

-- a walk that goes on has fewer rows before it
abbrev Shortens : ℕ → Option Walk → Type 0
Shortens most None = Unit {0}
Shortens most (Some walk) = walk.left < most

shorter : (most more : ℕ) (x : Option Walk) → most ≤ more → Shortens most x → Shortens more x
shorter most more None h k = tt
shorter most more (Some walk) h k = omega (arith, h, k)

walk_shortens : (slots : ℕ) (walk : Walk) (left slot : ℕ) → Shortens left (walk_on slots walk left slot)
walk_shortens slots walk zero slot = tt
walk_shortens slots walk (suc left) slot =
    elim (is_claimed (shown_of walk (next_slot slots slot)) (next_slot slots slot)) as (λ x. Shortens (suc left) (elim x [
      | true ↦ walk_on slots walk left (next_slot slots slot)
      | false ↦ Some (walk_at walk (next_slot slots slot) left)
    ])) [
      | true ↦ shorter left (suc left) (walk_on slots walk left (next_slot slots slot)) (omega arith) (walk_shortens slots walk left (next_slot slots slot))
      | false ↦ omega arith
    ]

walking_settles : (c : Config) (old clock birth : ℕ) (post : Post) (most : ℕ) (walk : Option Walk) → Shortens most walk → most + 2 + eras_left c (span_seen clock post.span) ≤ old → Settles c old clock (walking birth post walk)
walking_settles c old clock birth post most None h k = omega (arith, k)
walking_settles c old clock birth post most (Some walk) h k = omega (arith, h, k)

-- what holds where another machine makes its step
abbrev pub base_owes : Config → Base → Post → (found : ℕ) → Type 0
base_owes c (Begin at) post found = false ≡ true
base_owes c (Protect aim index root steps at) post found = false ≡ true
base_owes c (Reload parent index slot era steps) post found = Unit {0}
base_owes c (Clear rows index) post found = Unit {0}
base_owes c Finish post found = Unit {0}
base_owes c (Release index) post found = Unit {0}
base_owes c (Allocate at) post found = Unit {0}
base_owes c (Write slot row place) post found = place ≤ last_written row
base_owes c (GiveUp slot) post found = Unit {0}
base_owes c (Retire at) post found = Unit {0}
base_owes c (Move at) post found = Falls c (move_left at c) (move_turn at post found).outcome

-- of a mover
falls_settles : (c : Config) (left old clock : ℕ) (post : Post) (told : List Event) (outcome : Outcome) → Falls c left outcome → left + eras_left c (span_seen clock post.span) ≤ old → settles c old clock post.span outcome
falls_settles c left old clock post told (Goes (Move at)) f h = omega (arith, f, h)
falls_settles c left old clock post told (Goes (Begin at)) f h = absurd f
falls_settles c left old clock post told (Goes (Protect aim index root steps at)) f h = absurd f
falls_settles c left old clock post told (Goes (Reload parent index slot era steps)) f h = absurd f
falls_settles c left old clock post told (Goes (Clear rows index)) f h = absurd f
falls_settles c left old clock post told (Goes Finish) f h = absurd f
falls_settles c left old clock post told (Goes (Release index)) f h = absurd f
falls_settles c left old clock post told (Goes (Allocate at)) f h = absurd f
falls_settles c left old clock post told (Goes (Write slot row place)) f h = absurd f
falls_settles c left old clock post told (Goes (GiveUp slot)) f h = absurd f
falls_settles c left old clock post told (Goes (Retire at)) f h = absurd f
falls_settles c left old clock post told (Ends ending) f h = omega (arith, f, h)

hand_post : (era seat tag index old : ℕ) (post : Post) (same : Bool) → (after_hand_over era seat tag index old post same).post ≡ post
hand_post era seat tag index old post true = refl
hand_post era seat tag index old post false = refl

-- a mover leaves its post
pub move_post : (at : MoveAt) (post : Post) (found : ℕ) → (move_turn at post found).post ≡ post
move_post (LoadEra helps) post found = if_by (found == post.layout.config.last_era) (ends post [] (Clocked (moves.EraSpent found))) (goes post [] (Move (moving helps found))) (λ (t : Turn). t.post ≡ post) (λ e. refl) (λ e. refl)
move_post (LoadRequest era seat shows) post found = refl
move_post (ShowEra era seat tag index root) post found = refl
move_post (LoadAsked era seat tag index root) post found = refl
move_post (CheckEra era seat tag index root link) post found = if_by (found == era) (goes post [] (Move (AnswerAsked era seat tag index root link))) (goes post [] (Move (HideLate found))) (λ (t : Turn). t.post ≡ post) (λ e. refl) (λ e. refl)
move_post (AnswerAsked era seat tag index root link) post found = if_by (found == asking post.layout tag index root) (goes post [] (Move (LoadReserved era seat tag index root link))) (goes post [] (Move (next_request post era seat true))) (λ (t : Turn). t.post ≡ post) (λ e. refl) (λ e. refl)
move_post (LoadReserved era seat tag index root link) post found = if_by ((read_reservation found).tag == tag) (goes post [] (Move (HandOver era seat tag index root link (read_reservation found).era))) (goes post [] (Move (next_request post era seat true))) (λ (t : Turn). t.post ≡ post) (λ e. refl) (λ e. refl)
move_post (HandOver era seat tag index root link old) post found = hand_post era seat tag index old post (found == reservation_word (record { era = old; tag = tag }))
move_post (HideEra era) post found = refl
move_post (HideLate seen) post found = refl
move_post (ExchangeClock era) post found = if_by (found == era) (ends post (events.Era (era + 1) ∷ []) (Clocked (moves.Moved (era + 1)))) (ends post [] (Clocked (moves.Other found))) (λ (t : Turn). t.post ≡ post) (λ e. refl) (λ e. refl)

-- every machine but a protection, and the beginning of an interval
pub base_settles : (c : Config) (clock next : ℕ) (base : Base) (post : Post) (found : ℕ) → post.layout.config ≡ c → clock ≤ next → span_seen clock post.span ≤ clock → base_owes c base post found → Settles c (start_of c clock post.span base) next (after base post found)
base_settles c clock next (Begin at) post found t r s o = absurd (cc)
base_settles c clock next (Protect aim index root steps at) post found t r s o = absurd (cc)
base_settles c clock next (Reload parent index slot era steps) post found t r s o =
    let k = seen_rises clock next post.span r in
    if_by (found == parent + 1) (ends (with_row post index slot) (events.Held index slot (bump steps) ∷ []) (Followed (follow_ends.Followed slot))) (ends post [] (Followed (follow_ends.RootMoved found)))
    (Settles c (start_of c clock post.span (Reload parent index slot era steps)) next) (λ e. omega (arith, k)) (λ e. omega (arith, k))
base_settles c clock next (Clear rows index) post found t r s o = let k = seen_rises clock next post.span r in omega (arith, k)
base_settles c clock next Finish post found t r s o = omega (arith, r, s)
base_settles c clock next (Release index) post found t r s o = omega (arith, r, s)
base_settles c clock next (Allocate LoadBirth) post found t r s o = let k = seen_rises clock next post.span r in rw t (omega (arith, k))
base_settles c clock next (Allocate (ClaimSlot birth walk)) post found t r s o =
    let k = seen_rises clock next post.span r in
    if_by (is_claimed found walk.slot) (walking birth post (walk_past post.layout.config.slots walk found)) (goes (record post { cursor = next_slot post.layout.config.slots walk.slot }) (events.Give walk.slot birth ∷ []) (Allocate (StoreLife birth walk.slot)))
    (Settles c (start_of c clock post.span (Allocate (ClaimSlot birth walk))) next)
    (λ e. walking_settles c (start_of c clock post.span (Allocate (ClaimSlot birth walk))) next birth post walk.left (walk_past post.layout.config.slots walk found) (walk_shortens post.layout.config.slots (shown_word walk found) walk.left walk.slot) (omega (arith, k)))
    (λ e. omega (arith, k))
base_settles c clock next (Allocate (StoreLife birth slot)) post found t r s o = let k = seen_rises clock next post.span r in omega (arith, k)
base_settles c clock next (Write slot row place) post found t r s o =
    let k = seen_rises clock next post.span r in
    if_by (place == last_written row) (ends post [] Done) (goes post [] (Write slot row (place + 1)))
    (Settles c (start_of c clock post.span (Write slot row place)) next)
    (λ e. let x : 1 ≤ last_written row + 1 - place = omega (arith, o) in omega (arith, k, x))
    (λ e. let x : place < last_written row = grind (arith, nat_tests, e, o) in omega (arith, k, x))
base_settles c clock next (GiveUp slot) post found t r s o = let k = seen_rises clock next post.span r in omega (arith, k)
base_settles c clock next (Retire (LoadLife slot)) post found t r s o = let k = seen_rises clock next post.span r in omega (arith, k)
base_settles c clock next (Retire (LoadRetire slot birth)) post found t r s o = let k = seen_rises clock next post.span r in omega (arith, k)
base_settles c clock next (Retire (StoreRetired slot birth retire)) post found t r s o = let k = seen_rises clock next post.span r in omega (arith, k)
base_settles c clock next (Move at) post found t r s o =
    let k = seen_rises clock next post.span r in
    rw (move_post at post found) (falls_settles c (move_left at c) (start_of c clock post.span (Move at)) next post (move_turn at post found).told (move_turn at post found).outcome o (omega (arith, k)))
