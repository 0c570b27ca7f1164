-- What comes before and after a round, whatever its task.
use Rattle.std.proofs.Common.{Bool, List, None, Option, Some, [], ap, false, refl, ℕ, ◌%◌, ◌∙◌, ◌≡◌}
use Rattle.wfe_core.specs.words.Schemes.{has_one_interval}
use Rattle.wfe_core.specs.words.declared.config.SchemeKind.{SchemeKind}
use Rattle.wfe_core.specs.words.declared.layout.Layout.{Layout}
use Rattle.wfe_core.specs.defs.declared.call.Answer.{Answer}
use Rattle.wfe_core.specs.defs.declared.call.ClockMove.{ClockMove}
use Rattle.wfe_core.specs.defs.declared.event.Root.{Root}
use Rattle.wfe_core.specs.defs.declared.event.Root.TheVariants as roots
use Rattle.wfe_core.specs.Calls.{Answering, Changes, Dequeues, Enqueues, Gets, GivesUp, Holds, Idle, Opens, Repeated, Runs, Task}
use Rattle.wfe_core.specs.DeskHeld.{desk_of}
use Rattle.wfe_core.specs.Locals.{Local}
use Rattle.wfe_core.specs.Phases.Base.{GiveUp}
use Rattle.wfe_core.specs.Rounds.{begin_where, closed, given_up, index_of, key_of, opening, protect_base, root_of, round, round_by, scheme_of, taken_of}
use Rattle.wfe_core.specs.declared.desk.Desk.{Desk as HeldDesk}
use Rattle.wfe_core.specs.declared.op.Op.{Op}
use Rattle.wfe_core.specs.declared.post.Post.{Post}
use Rattle.wfe_drive_words.specs.drive_cells.Unit.{SeatView}
use Rattle.wfe_drive_words.specs.Called.{at_phase}
use Rattle.wfe_drive_words.specs.Path.{Closes, Leads}
use Rattle.wfe_drive_runs.specs.Pieces.{Protects, ScansSo, TurnsTo}
use Rattle.wfe_drive_words.proofs.Leading.{closes_as, leads_as}
use Rattle.wfe_drive_runs.proofs.Turning.{answered_so, turns_as, went_on, with_steps}

-- a task's root is that of the table
root-stays : (task : Task) (old post : Post) → post.layout ≡ old.layout → root_of task post ≡ root_of task old
root-stays (Gets key) old post l = ap (λ (layout : Layout). roots.Bucket (key % layout.config.buckets)) l
root-stays (Changes kept) old post l = ap (λ (layout : Layout). roots.Bucket (key_of kept.change % layout.config.buckets)) l
root-stays (Holds key) old post l = ap (λ (layout : Layout). roots.Bucket (key % layout.config.buckets)) l
root-stays (Enqueues kept) old post l = refl
root-stays Dequeues old post l = refl

pub protects_still : (task : Task) (root : Root) (old post : Post) → post.layout ≡ old.layout → Protects task root old → Protects task root post
protects_still task root old post l p = (p.0, root-stays task old post l ∙ p.1)

-- its protection, under a scheme
pub opens_as : (kind : SchemeKind) (task : Task) (root : Root) (post : Post) (held : HeldDesk) → scheme_of post ≡ kind → Protects task root post → at_phase (opening task post) post held ≡ at_phase (Runs (Opens task) (protect_base kind 0 root)) post held
opens_as kind task root post held is p =
    ap (λ (scheme : SchemeKind). at_phase (Runs (Opens task) (protect_base scheme (index_of task) (root_of task post))) post held) is
    ∙ ap (λ (index : ℕ). at_phase (Runs (Opens task) (protect_base kind index (root_of task post))) post held) p.0
    ∙ ap (λ (at : Root). at_phase (Runs (Opens task) (protect_base kind 0 at)) post held) p.1

-- a round begins with it, where the scheme has no interval
pub round_as : (task : Task) (root : Root) (post : Post) (held : HeldDesk) → has_one_interval (scheme_of post) ≡ false → Protects task root post → at_phase (round task post) post held ≡ at_phase (Runs (Opens task) (protect_base (scheme_of post) 0 root)) post held
round_as task root post held one p =
    let opens : Bool → SeatView = λ b. at_phase (round_by task post (begin_where b post)) post held in
    ap opens one ∙ opens_as (scheme_of post) task root post held refl p

module _ {at0 at1 : Local → Type 0} {stands0 stands1 : List (Op × ℕ) → Type 0} {first : SeatView} where
  -- another round begins once room was made
  pub room_made : (task : Task) (clock : ClockMove) (post : Post) (held : HeldDesk) → ScansSo at0 at1 stands0 stands1 first (Repeated task) clock post held
      → Leads at0 at1 stands0 stands1 first (at_phase (round task post) post held)
  room_made task clock post held x = leads_as _ _ (went_on (round task post) post x.before x.told held x.noted) x.turns.leads

  -- the call is answered
  given-by : (task : Task) (taken : Option ℕ) (answer : Answer) (post : Post) (held : HeldDesk) → taken_of task ≡ taken → TurnsTo at0 at1 stands0 stands1 first (closed task (Answering answer) post (desk_of held) []) → TurnsTo at0 at1 stands0 stands1 first (given_up answer post (desk_of held) [] taken)
  given-by task taken answer post held e x = turns_as _ _ (ap (given_up answer post (desk_of held) []) e) x

  pub answer_given : (task : Task) (answer : Answer) (post : Post) (held new : HeldDesk) → taken_of task ≡ None → desk_of new ≡ with_steps (desk_of held) post.steps → TurnsTo at0 at1 stands0 stands1 first (closed task (Answering answer) post (desk_of held) [])
      → Closes answer at0 at1 stands0 stands1 first (at_phase Idle post new)
  answer_given task answer post held new t d x = closes_as _ _ (answered_so answer post (desk_of held) [] held new refl d) ((given-by task None answer post held t x).closes answer refl)

  -- or a row that was not linked is given up first
  pub answer_gives_up : (task : Task) (answer : Answer) (slot : ℕ) (post : Post) (held : HeldDesk) → taken_of task ≡ Some slot → TurnsTo at0 at1 stands0 stands1 first (closed task (Answering answer) post (desk_of held) [])
      → Leads at0 at1 stands0 stands1 first (at_phase (Runs (GivesUp answer) (GiveUp slot)) post held)
  answer_gives_up task answer slot post held t x = (given-by task (Some slot) answer post held t x).leads
