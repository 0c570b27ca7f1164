-- An allocation without a walk: its three steps, where its first row is found free, and the turn from which it walks on.
use Rattle.std.proofs.Common.{Bool, List, [], ap, arith, false, inl, inr, refl, subst, sym, ℕ, ◌+◌, ◌∷◌, ◌≡◌, ◌⊎◌, if◌then◌else◌}
use Rattle.wfe_core.specs.Allocate.{after_claim_slot, is_claimed, next_slot, walk_from, walk_past, walking}
use Rattle.wfe_core.specs.defs.declared.event.Event.TheVariants as events
use Rattle.wfe_core.specs.Calls.{CallTurn, Runs, Why}
use Rattle.wfe_core.specs.DeskHeld.{desk_of}
use Rattle.wfe_core.specs.Desks.{Desk, noting}
use Rattle.wfe_core.specs.Locals.{Local}
use Rattle.wfe_core.specs.Phases.{Ending, Walk, ends, goes}
use Rattle.wfe_core.specs.Phases.AllocateAt.{ClaimSlot, LoadBirth, StoreLife}
use Rattle.wfe_core.specs.Phases.Base.{Allocate}
use Rattle.wfe_core.specs.Steps.{run_turn}
use Rattle.wfe_core.specs.Valid.{IsValid}
use Rattle.wfe_core.specs.declared.desk.Desk.{Desk as HeldDesk}
use Rattle.wfe_core.specs.declared.op.Op.{Op}
use Rattle.wfe_core.specs.declared.post.Post.{Post}
use Rattle.wfe_drive_words.specs.drive_cells.Unit.{SeatView, kept_desk, seat_after}
use Rattle.wfe_drive_words.specs.Path.{Leads, StepsOn, stepped}
use Rattle.wfe_drive_runs.specs.Pieces.{EndsSo, TurnsTo, claimed_at, claimed_by, seat_of}
use Rattle.wfe_drive_words.proofs.Leading.{leads_as}
use Rattle.wfe_drive_runs.proofs.Turning.{then_turns, turns_as, turns_once}

-- a count of steps changes nothing that is valid
pub valid_counted : (post : Post) (steps : ℕ) → IsValid post → IsValid (record post { steps = steps })
valid_counted post steps v = record { layout = v.layout; bounds = v.bounds; seat = v.seat; cursor = v.cursor; tags = v.tags; standing = v.standing; span = v.span; all_tags = v.all_tags; all_standing = v.all_standing }

-- before its first step, its second, and its third, where the row at the cursor was found free
module _ (why : Why) (post : Post) (desk : Desk) where
  abbrev pub births : SeatView
  births = seat_of (Runs why (Allocate LoadBirth)) post desk

  abbrev pub claims : (birth : ℕ) → SeatView
  claims birth = seat_of (Runs why (Allocate (ClaimSlot birth (walk_from post.layout.config.slots post.cursor)))) (stepped post) desk

  abbrev pub claimed : (birth found : ℕ) → CallTurn
  claimed birth found = run_turn why (kept_desk desk) (after_claim_slot birth (walk_from post.layout.config.slots post.cursor) (record post { steps = post.steps + 2 }) found)

  abbrev pub given_post : Post
  given_post = record post { steps = post.steps + 2; cursor = next_slot post.layout.config.slots post.cursor }

  abbrev pub given_desk : (birth : ℕ) → Desk
  given_desk birth = noting desk (events.Give post.cursor birth ∷ [])

  abbrev pub gives : (birth : ℕ) → SeatView
  gives birth = seat_of (Runs why (Allocate (StoreLife birth post.cursor))) given_post (given_desk birth)

-- the turn of the second step
pub claim_turns : {at0 at1 at2 : Local → Type 0} {stands0 stands1 stands2 : List (Op × ℕ) → Type 0} (why : Why) (post : Post) (desk : Desk) (birth found : ℕ) → Leads at0 at1 stands0 stands1 (births why post desk) (claims why post desk birth)
    → StepsOn at1 at2 stands1 stands2 (claims why post desk birth) found → TurnsTo at0 at2 stands0 stands2 (births why post desk) (claimed why post desk birth found)
claim_turns why post desk birth found x y =
    let e : post.steps + 1 + 1 ≡ post.steps + 2 = omega arith in
    let turn : ℕ → CallTurn = λ steps. run_turn why (kept_desk desk) (after_claim_slot birth (walk_from post.layout.config.slots post.cursor) (record post { steps = steps }) found) in
    then_turns x (turns_as _ _ (ap turn e) (turns_once (claims why post desk birth) y))

-- the row was free: it is given
pub claim_gives : {at0 at2 : Local → Type 0} {stands0 stands2 : List (Op × ℕ) → Type 0} (why : Why) (post : Post) (desk : Desk) (birth found : ℕ) → is_claimed found post.cursor ≡ false
    → TurnsTo at0 at2 stands0 stands2 (births why post desk) (claimed why post desk birth found) → Leads at0 at2 stands0 stands2 (births why post desk) (gives why post desk birth)
claim_gives why post desk birth found e x =
    let p : Post = record post { steps = post.steps + 2 } in
    let walk : Walk = walk_from post.layout.config.slots post.cursor in
    let left : Bool → SeatView = λ b. seat_after (run_turn why (kept_desk desk) (if b then walking birth p (walk_past post.layout.config.slots walk found) else goes (given_post why post desk) (events.Give post.cursor birth ∷ []) (Allocate (StoreLife birth post.cursor)))) in
    leads_as _ _ (ap left e) x.leads

-- the row was taken: the walk was over in that step, or ended after steps of its own
pub walk_ends : {V : Type 0} {at0 : Local → Type 0} {stands0 : List (Op × ℕ) → Type 0} {a : SeatView} (at : V → Local → Type 0) (stands : V → List (Op × ℕ) → Type 0) (why : Why) (birth found : ℕ) (ending : Ending) (old new : V) (post last : Post) (desk left : HeldDesk)
    → TurnsTo at0 (at old) stands0 (stands old) a (run_turn why (desk_of desk) (claimed_by birth found post))
    → ((new ≡ old) × (last ≡ post) × (left ≡ desk) × (claimed_by birth found post ≡ ends post [] ending)) ⊎ EndsSo (at old) (at new) (stands old) (stands new) (claimed_at why birth found post (desk_of desk)) why ending last left
    → EndsSo at0 (at new) stands0 (stands new) a why ending last left
walk_ends {at0 = at0} {stands0 = stands0} {a = a} at stands why birth found ending old new post last desk left t (inl (w, p, d, e)) =
    let over : EndsSo at0 (at old) stands0 (stands old) a why ending post desk = record { before = desk_of desk; told = []; noted = refl; turns = turns_as _ _ (ap (run_turn why (desk_of desk)) e) t } in
    subst (λ v. EndsSo at0 (at v) stands0 (stands v) a why ending last left) (sym w)
    (subst (λ (q : Post). EndsSo at0 (at old) stands0 (stands old) a why ending q left) (sym p)
    (subst (λ (h : HeldDesk). EndsSo at0 (at old) stands0 (stands old) a why ending post h) (sym d) over))
walk_ends at stands why birth found ending old new post last desk left t (inr z) = record { before = z.before; told = z.told; noted = z.noted; turns = then_turns t.leads z.turns }
