-- A step of a protection that is followed is a step of the protection by itself, and what follows.
use Rattle.std.proofs.Common.{Bool, List, [], ap, false, refl, subst, sym, true, ℕ, ◌==◌, ◌||◌, ◌≡◌, ◌∙◌, if◌then◌else◌}
use Rattle.wfe_core.specs.words.declared.layout.Layout.{Layout}
use Rattle.wfe_core.specs.defs.declared.event.Event.{Event}
use Rattle.wfe_core.specs.defs.declared.event.Root.TheVariants.{Next}
use Rattle.wfe_core.specs.declared.desk.Desk.{Desk as HeldDesk}
use Rattle.wfe_core.specs.declared.ends.FollowEnd.TheVariants as follow_ends
use Rattle.wfe_core.specs.declared.ends.ProtectEnd.{ProtectEnd}
use Rattle.wfe_core.specs.declared.ends.ProtectEnd.TheVariants as protect_ends
use Rattle.wfe_core.specs.declared.op.Op.{Op}
use Rattle.wfe_core.specs.declared.post.Post.{Post}
use Rattle.wfe_core.specs.Calls.{Runs, Why}
use Rattle.wfe_core.specs.DeskHeld.{HasRoom, desk_of}
use Rattle.wfe_core.specs.Desks.{Desk, noting}
use Rattle.wfe_core.specs.Follow.{follow_by, follow_turn, following}
use Rattle.wfe_core.specs.Locals.{Local}
use Rattle.wfe_core.specs.Machine.{after, op_of, protect_turn}
use Rattle.wfe_core.specs.Memory.{bump}
use Rattle.wfe_core.specs.Phases.{Alone, Base, Ending, Ends, Goes, Outcome, ProtectAt, Turn, ends, goes}
use Rattle.wfe_core.specs.Phases.Base.{Protect, Reload}
use Rattle.wfe_core.specs.Phases.Ending.{Followed, Protected}
use Rattle.wfe_core.specs.Phases.HazardAt.{CheckLink, FirstLink, PublishLink}
use Rattle.wfe_core.specs.Phases.ProtectAt.{AnswerOwn, ByHazard, CheckClock, CheckOwnClock, CheckUpper, LoadAnswer, LoadClock, LoadLink, LoadOwnClock, LoadOwnLink, LoadWithin, PublishEra, PublishHelper, PublishRequest, RaiseUpper, TakeAnswer, WithdrawHelper, WithdrawRequest}
use Rattle.wfe_core.specs.Posts.{upper}
use Rattle.wfe_core.specs.Protect.{concluded, told_held}
use Rattle.wfe_core.specs.SlowPath.{own_request}
use Rattle.wfe_core.specs.Ready.{IsReady, Plausible}
use Rattle.wfe_core.specs.Steps.{run_turn}
use Rattle.wfe_core.proofs.Following.{protect_follows}
use Rattle.wfe_drive_words.specs.drive_cells.Unit.{SeatView, seat_after}
use Rattle.wfe_drive_words.specs.Called.{at_phase}
use Rattle.wfe_drive_runs.specs.Following.{FollowsSo, IsNextAlone}
use Rattle.wfe_drive_words.specs.Path.{Leads}
use Rattle.wfe_drive_runs.specs.Pieces.{LeadsSo}
use Rattle.wfe_drive_words.proofs.Leading.{leads_as}
use Rattle.wfe_drive_runs.proofs.Turning.{run_ended, run_went}

-- the turn
pub turn_follows : (parent : ℕ) (base : Base) (post : Post) (found : ℕ) → (a : IsNextAlone parent base) → after (following base) post found ≡ follow_turn 1 (Next parent) (bump a.0) (after base post found)
turn_follows parent base post found (n, at, e) =
    subst (λ (b : Base). after (following b) post found ≡ follow_turn 1 (Next parent) (bump n) (after b post found)) (sym e) (protect_follows 1 (Next parent) (bump n) at post found)

-- it goes on
pub turn_goes : (parent : ℕ) (base next : Base) (post : Post) (found : ℕ) → IsNextAlone parent base → (after base post found).outcome ≡ Goes next → after (following base) post found ≡ goes (after base post found).post (after base post found).told (following next)
turn_goes parent base next post found a o =
    let t : Turn = after base post found in
    turn_follows parent base post found a ∙ ap (λ (outcome : Outcome). follow_by 1 (Next parent) (bump a.0) t.post t.told outcome) o

-- the link leads to a row: the head is to be loaded again
pub turn_reloads : (parent slot era : ℕ) (base : Base) (post : Post) (found : ℕ) → (a : IsNextAlone parent base) → (after base post found).outcome ≡ Ends (Protected (protect_ends.Held slot era)) → after (following base) post found ≡ goes (after base post found).post (after base post found).told (Reload parent 1 slot era (bump a.0))
turn_reloads parent slot era base post found a o =
    let t : Turn = after base post found in
    turn_follows parent base post found a ∙ ap (λ (outcome : Outcome). follow_by 1 (Next parent) (bump a.0) t.post t.told outcome) o

-- it is null
pub turn_null : (parent : ℕ) (base : Base) (post : Post) (found : ℕ) → IsNextAlone parent base → (after base post found).outcome ≡ Ends (Protected protect_ends.Null) → after (following base) post found ≡ ends (after base post found).post (after base post found).told (Followed follow_ends.NoNext)
turn_null parent base post found a o =
    let t : Turn = after base post found in
    turn_follows parent base post found a ∙ ap (λ (outcome : Outcome). follow_by 1 (Next parent) (bump a.0) t.post t.told outcome) o

-- the protection stays that of the same link
abbrev StaysNext : ℕ → Outcome → Type 0
StaysNext parent (Goes base) = IsNextAlone parent base
StaysNext parent (Ends ending) = Unit {0}

stays-if : (b : Bool) (parent : ℕ) (u v : Turn) → StaysNext parent u.outcome → StaysNext parent v.outcome → StaysNext parent (if b then u else v).outcome
stays-if true parent u v h k = h
stays-if false parent u v h k = k

stays-turn : (parent n : ℕ) (at : ProtectAt) (post : Post) (found : ℕ) → StaysNext parent (protect_turn Alone 1 (Next parent) n at post found).outcome
stays-turn parent n (LoadClock tries) post found = (n, _, refl)
stays-turn parent n (PublishEra era tries) post found = (n, _, refl)
stays-turn parent n (LoadLink era tries) post found = (n, _, refl)
stays-turn parent n (CheckClock era tries link) post found = stays-if (found == era) parent _ _ tt (n, _, refl)
stays-turn parent n PublishRequest post found = (n, _, refl)
stays-turn parent n LoadOwnClock post found = (n, _, refl)
stays-turn parent n (PublishHelper first era last) post found = (n, _, refl)
stays-turn parent n (LoadOwnLink first era last) post found = (n, _, refl)
stays-turn parent n (CheckOwnClock first era last link) post found = stays-if (found == era) parent _ _ (n, _, refl) (n, _, refl)
stays-turn parent n (AnswerOwn first era link) post found = stays-if (found == own_request post 1 (Next parent)) parent _ _ (n, _, refl) (n, _, refl)
stays-turn parent n (LoadAnswer first) post found = (n, _, refl)
stays-turn parent n (TakeAnswer link era) post found = (n, _, refl)
stays-turn parent n (WithdrawRequest link era) post found = (n, _, refl)
stays-turn parent n (WithdrawHelper link era) post found = tt
stays-turn parent n LoadWithin post found = (n, _, refl)
stays-turn parent n (CheckUpper link) post found =
    stays-if (found == upper post.span) parent (concluded Alone 1 (Next parent) n link found post (told_held 1 (Next parent) link n)) (goes post [] (Protect Alone 1 (Next parent) n (RaiseUpper found))) tt (n, _, refl)
stays-turn parent n (RaiseUpper era) post found = (n, _, refl)
stays-turn parent n (ByHazard FirstLink) post found =
    stays-if (found == 0) parent (concluded Alone 1 (Next parent) n found 0 post (told_held 1 (Next parent) found n)) (goes post [] (Protect Alone 1 (Next parent) n (ByHazard (PublishLink found)))) tt (n, _, refl)
stays-turn parent n (ByHazard (PublishLink link)) post found = (n, _, refl)
stays-turn parent n (ByHazard (CheckLink link)) post found =
    stays-if (found == link || found == 0) parent (concluded Alone 1 (Next parent) n found 0 post (told_held 1 (Next parent) found n)) (goes post [] (Protect Alone 1 (Next parent) n (ByHazard (PublishLink found)))) tt (n, _, refl)

stays-goes : (parent : ℕ) (outcome : Outcome) (next : Base) → outcome ≡ Goes next → StaysNext parent outcome → IsNextAlone parent next
stays-goes parent outcome next e h = subst (StaysNext parent) e h

pub stays_next : (parent : ℕ) (base next : Base) (post : Post) (found : ℕ) → IsNextAlone parent base → (after base post found).outcome ≡ Goes next → IsNextAlone parent next
stays_next parent base next post found (n, at, e) o =
    stays-goes parent _ next (ap (λ (b : Base). (after b post found).outcome) (sym e) ∙ o) (stays-turn parent (bump n) at post found)

-- it asks for the same, and rests on the same
pub op_follows : {op : Op} {parent : ℕ} (base : Base) (post : Post) → IsNextAlone parent base → op ≡ op_of base post → op ≡ op_of (following base) post
op_follows {op = op} base post (n, at, e) o = subst (λ (b : Base). op ≡ op_of b post → op ≡ op_of (following b) post) (sym e) (λ same. same) o

pub ready_follows : {parent : ℕ} (base : Base) (post : Post) → IsNextAlone parent base → IsReady (following base) post → IsReady base post
ready_follows base post (n, at, e) = subst (λ (b : Base). IsReady (following b) post → IsReady b post) (sym e) (λ ready. ready)

pub plausible_follows : {parent : ℕ} (base : Base) (post : Post) (found : ℕ) → IsNextAlone parent base → Plausible (following base) post found → Plausible base post found
plausible_follows base post found (n, at, e) = subst (λ (b : Base). Plausible (following b) post found → Plausible b post found) (sym e) (λ plausible. plausible)

-- the seat after a step that goes on
pub follow_went : (why : Why) (parent : ℕ) (base next : Base) (post last : Post) (found : ℕ) (desk : Desk) (told : List Event) (held : HeldDesk) → IsNextAlone parent base → (after base post found).outcome ≡ Goes next → last ≡ (after base post found).post → told ≡ (after base post found).told → desk_of held ≡ noting desk told
    → seat_after (run_turn why desk (after (following base) post found)) ≡ at_phase (Runs why (following next)) last held
follow_went why parent base next post last found desk told held a o p e d =
    let is = turn_goes parent base next post found a o in
    run_went why (following next) (after (following base) post found) last desk told held (p ∙ sym (ap (λ (u : Turn). u.post) is)) (e ∙ sym (ap (λ (u : Turn). u.told) is)) (ap (λ (u : Turn). u.outcome) is) d

module _ {at0 at1 : Local → Type 0} {stands0 stands1 : List (Op × ℕ) → Type 0} {first : SeatView} where
  -- and after one that ends
  pub follow_ended : (why : Why) (parent : ℕ) (ending : ProtectEnd) (base : Base) (post last : Post) (found : ℕ) (desk : Desk) (told : List Event) (held : HeldDesk) → IsNextAlone parent base → (after base post found).outcome ≡ Ends (Protected ending) → last ≡ (after base post found).post → told ≡ (after base post found).told → desk_of held ≡ noting desk told
      → Leads at0 at1 stands0 stands1 first (seat_after (run_turn why desk (after (following base) post found)))
      → FollowsSo at0 at1 stands0 stands1 first why parent ending last held
  follow_ended why parent (protect_ends.Held slot era) base post last found desk told held a o p e d x =
      let is = turn_reloads parent slot era base post found a o in
      let went = run_went why (Reload parent 1 slot era (bump a.0)) (after (following base) post found) last desk told held (p ∙ sym (ap (λ (u : Turn). u.post) is)) (e ∙ sym (ap (λ (u : Turn). u.told) is)) (ap (λ (u : Turn). u.outcome) is) d in
      (bump a.0, leads_as _ _ went x)
  follow_ended why parent protect_ends.Null base post last found desk told held a o p e d x =
      let is = turn_null parent base post found a o in
      let ended = run_ended why (Followed follow_ends.NoNext) (after (following base) post found) last desk told (p ∙ sym (ap (λ (u : Turn). u.post) is)) (e ∙ sym (ap (λ (u : Turn). u.told) is)) (ap (λ (u : Turn). u.outcome) is) in
      record { before = desk; told = told; noted = d; leads = leads_as _ _ (ap seat_after ended) x }

-- steps from a seat that is as another
pub so_from : {at0 at1 : Local → Type 0} {stands0 stands1 : List (Op × ℕ) → Type 0} {why : Why} {ending : Ending} {post : Post} {held : HeldDesk} (old as_old : SeatView) → old ≡ as_old → LeadsSo at0 at1 stands0 stands1 old why ending post held → LeadsSo at0 at1 stands0 stands1 as_old why ending post held
so_from {at0 = at0} {at1 = at1} {stands0 = stands0} {stands1 = stands1} {why = why} {ending = ending} {post = post} {held = held} old as_old e x = subst (λ (v : SeatView). LeadsSo at0 at1 stands0 stands1 v why ending post held) e x

-- the room of a desk under the same layout
pub room_as : {held : HeldDesk} {old new : Layout} → new ≡ old → HasRoom held old → HasRoom held new
room_as {held = held} e room = subst (λ (layout : Layout). HasRoom held layout) (sym e) room
