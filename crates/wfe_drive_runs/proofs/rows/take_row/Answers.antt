-- The first two steps, and then the third, or the walk.
use Rattle.std.proofs.Common.{[], ap, arith, refl, sym, ◌+◌, ◌<◌, ◌^◌, ◌∙◌, ◌≡◌, ℕ}
use Rattle.wfe_core.specs.DeskHeld.{desk_of}
use Rattle.wfe_core.specs.Desks.{Desk}
use Rattle.wfe_core.specs.words.declared.config.Config.{Config}
use Rattle.wfe_core.specs.Allocate.{next_slot}
use Rattle.wfe_core.specs.Phases.{Ending}
use Rattle.wfe_core.specs.Phases.Ending.{Allocated}
use Rattle.wfe_core.specs.Ready.{EraFits}
use Rattle.wfe_core.specs.Steps.{resume}
use Rattle.wfe_core.specs.declared.ends.AllocateEnd.TheVariants as allocate_ends
use Rattle.wfe_core.specs.declared.post.Post.{Post}
use Rattle.wfe_drive_words.proofs.Leading.{few_here, here_on}
use Rattle.wfe_drive_runs.proofs.Claiming.{births, claim_gives, claim_turns, claims, given_desk, gives, valid_counted, walk_ends}
use Rattle.wfe_drive_runs.proofs.Turning.{asks_seat, may_here, then_turns, turns_as, turns_once}
use Rattle.wfe_drive_runs.proofs.rows.take_row.Goals as goal

pub overflow_cast-birth : goal.overflow_cast-birth
overflow_cast-birth g c =
    let (why, h) = c.requires.here in
    let x0 = c.step-birth.ensures.steps _ (asks_seat (births why c.args.post.now (desk_of c.args.desk.now)) h refl c.load_clock.ensures) in
    let fits : EraFits c.step-birth.result = x0.take.plausible in
    omega (arith, fits.1)

pub set_claim-requires-clause-valid : goal.set_claim-requires-clause-valid
set_claim-requires-clause-valid g c =
    let (why, h) = c.requires.here in
    (may_here (g.W.Words.comes c.args.words.now) c.requires.valid h).valid

pub set_claim-requires-clause-slot : goal.set_claim-requires-clause-slot
set_claim-requires-clause-slot g c =
    let (why, h) = c.requires.here in
    (may_here (g.W.Words.comes c.args.words.now) c.requires.valid h).valid.cursor

pub step-found-requires-clause-asks : goal.step-found-requires-clause-asks
step-found-requires-clause-asks g c =
    let (why, h) = c.requires.here in
    let desk : Desk = desk_of c.args.desk.now in
    let x0 = c.step-birth.ensures.steps _ (asks_seat (births why c.args.post.now desk) h refl c.load_clock.ensures) in
    (_, asks_seat (claims why c.args.post.now desk c.step-birth.result) (here_on h x0.leads) refl c.set_claim.ensures)

pub overflow_add-post : goal.overflow_add-post
overflow_add-post g c =
    let (why, h) = c.requires.here in
    let few : c.args.post.now.steps < 2 ^ 62 = few_here (g.W.Words.comes c.args.words.now) c.requires.valid h refl in
    omega (arith, few)

pub walk_on-requires-clause-own : goal.walk_on-requires-clause-own
walk_on-requires-clause-own g c =
    let (why, h) = c.requires.here in
    valid_counted c.args.post.now _ (may_here (g.W.Words.comes c.args.words.now) c.requires.valid h).valid

pub walk_on-requires-clause-era : goal.walk_on-requires-clause-era
walk_on-requires-clause-era g c =
    let (why, h) = c.requires.here in
    let x0 = c.step-birth.ensures.steps _ (asks_seat (births why c.args.post.now (desk_of c.args.desk.now)) h refl c.load_clock.ensures) in
    x0.take.plausible

pub walk_on-requires-clause-here : goal.walk_on-requires-clause-here
walk_on-requires-clause-here g c =
    let (why, h) = c.requires.here in
    let post : Post = c.args.post.now in
    let desk : Desk = desk_of c.args.desk.now in
    let x0 = c.step-birth.ensures.steps _ (asks_seat (births why post desk) h refl c.load_clock.ensures) in
    let x1 = c.step-found.ensures.steps _ (asks_seat (claims why post desk c.step-birth.result) (here_on h x0.leads) refl c.set_claim.ensures) in
    (why, here_on h (claim_turns why post desk c.step-birth.result c.step-found.result x0.leads x1).leads)

pub returns-then-is_taken-clause-same : goal.returns-then-is_taken-clause-same
returns-then-is_taken-clause-same g c = g.W.Words.same_on _ _ _ (g.W.Words.same_on _ _ _ c.step-birth.ensures.same c.step-found.ensures.same) c.walk_on.ensures.same

pub returns-then-is_taken-clause-ends : goal.returns-then-is_taken-clause-ends
returns-then-is_taken-clause-ends g c = λ why h.
    let post : Post = c.args.post.now in
    let desk : Desk = desk_of c.args.desk.now in
    let x0 = c.step-birth.ensures.steps _ (asks_seat (births why post desk) h refl c.load_clock.ensures) in
    let x1 = c.step-found.ensures.steps _ (asks_seat (claims why post desk c.step-birth.result) (here_on h x0.leads) refl c.set_claim.ensures) in
    let t = claim_turns why post desk c.step-birth.result c.step-found.result x0.leads x1 in
    let counted : Post = record post { steps = post.steps + 2 } in
    walk_ends g.W.Words.at g.W.Words.stands why c.step-birth.result c.step-found.result (Allocated c.walk_on.result) c.step-found.new.words c.walk_on.new.words counted c.walk_on.new.post c.args.desk.now c.walk_on.new.desk t (c.walk_on.ensures.ends why (here_on h t.leads))

pub store_birth-requires-clause-valid : goal.store_birth-requires-clause-valid
store_birth-requires-clause-valid g c =
    let (why, h) = c.requires.here in
    valid_counted c.args.post.now _ (may_here (g.W.Words.comes c.args.words.now) c.requires.valid h).valid

pub store_birth-requires-clause-slot : goal.store_birth-requires-clause-slot
store_birth-requires-clause-slot g c =
    let (why, h) = c.requires.here in
    (may_here (g.W.Words.comes c.args.words.now) c.requires.valid h).valid.cursor

pub step-post-requires-clause-asks : goal.step-post-requires-clause-asks
step-post-requires-clause-asks g c =
    let (why, h) = c.requires.here in
    let post : Post = c.args.post.now in
    let desk : Desk = desk_of c.args.desk.now in
    let x0 = c.step-birth.ensures.steps _ (asks_seat (births why post desk) h refl c.load_clock.ensures) in
    let x1 = c.step-found.ensures.steps _ (asks_seat (claims why post desk c.step-birth.result) (here_on h x0.leads) refl c.set_claim.ensures) in
    let y = claim_gives why post desk c.step-birth.result c.step-found.result (sym c.is_taken.ensures ∙ c.if-is_taken.false) (claim_turns why post desk c.step-birth.result c.step-found.result x0.leads x1) in
    (_, asks_seat (gives why post desk c.step-birth.result) (here_on h y) refl c.store_birth.ensures)

pub overflow_add-post-2 : goal.overflow_add-post-2
overflow_add-post-2 g c =
    let (why, h) = c.requires.here in
    let few : c.args.post.now.steps < 2 ^ 62 = few_here (g.W.Words.comes c.args.words.now) c.requires.valid h refl in
    omega (arith, few)

pub slot_after-post-requires : goal.slot_after-post-requires
slot_after-post-requires g c =
    let (why, h) = c.requires.here in
    let most : c.config.result.slots ≡ c.args.post.now.layout.config.slots = ap (λ (config : Config). config.slots) c.config.ensures in
    omega (arith, most, (may_here (g.W.Words.comes c.args.words.now) c.requires.valid h).valid.cursor)

pub note_given-requires : goal.note_given-requires
note_given-requires g c =
    let (why, h) = c.requires.here in
    let may = may_here (g.W.Words.comes c.args.words.now) c.requires.valid h in
    omega (arith, may.noted, may.valid.bounds.slots)

pub returns-clause-same : goal.returns-clause-same
returns-clause-same g c = g.W.Words.same_on _ _ _ (g.W.Words.same_on _ _ _ c.step-birth.ensures.same c.step-found.ensures.same) c.step-post.ensures.same

pub returns-clause-within : goal.returns-clause-within
returns-clause-within g c =
    let (why, h) = c.requires.here in
    (may_here (g.W.Words.comes c.args.words.now) c.requires.valid h).valid.cursor

pub returns-clause-ends : goal.returns-clause-ends
returns-clause-ends g c = λ why h.
    let post : Post = c.args.post.now in
    let desk : Desk = desk_of c.args.desk.now in
    let x0 = c.step-birth.ensures.steps _ (asks_seat (births why post desk) h refl c.load_clock.ensures) in
    let x1 = c.step-found.ensures.steps _ (asks_seat (claims why post desk c.step-birth.result) (here_on h x0.leads) refl c.set_claim.ensures) in
    let y = claim_gives why post desk c.step-birth.result c.step-found.result (sym c.is_taken.ensures ∙ c.if-is_taken.false) (claim_turns why post desk c.step-birth.result c.step-found.result x0.leads x1) in
    let last = gives why post desk c.step-birth.result in
    let x2 = c.step-post.ensures.steps _ (asks_seat last (here_on h y) refl c.store_birth.ensures) in
    let ending : Ending = Allocated (allocate_ends.Given post.cursor c.step-birth.result) in
    let left : ℕ → Post = λ cursor. record post { steps = post.steps + 2 + 1; cursor = cursor } in
    let cursor : c.slot_after-post.result ≡ next_slot post.layout.config.slots post.cursor = c.slot_after-post.ensures.next ∙ ap (λ (config : Config). next_slot config.slots post.cursor) c.config.ensures in
    let noted : desk_of c.note_given.new.desk ≡ given_desk why post desk c.step-birth.result = ap desk_of c.note_given.ensures in
    let is = ap (λ (n : ℕ). resume why ending (left n) (given_desk why post desk c.step-birth.result) []) (sym cursor) ∙ ap (λ (d : Desk). resume why ending (left c.slot_after-post.result) d []) (sym noted) in
    record { before = desk_of c.note_given.new.desk; told = []; noted = refl; turns = then_turns y (turns_as _ _ is (turns_once last x2)) }
