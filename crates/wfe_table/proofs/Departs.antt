-- A leave from its beginning to its last step.
use Rattle.std.proofs.Common.{Bool, List, [], ap, false, length, refl, subst, sym, true, ℕ, ◌++◌, ◌∙◌, ◌∷◌, ◌≡◌}
use Rattle.std.proofs.lemmas.List.{append-nil, append_assoc}
use Rattle.std.specs.Prelude.{None, Option, Some}
use Rattle.wfe_core.specs.defs.declared.call.Answer.TheVariants as answers
use Rattle.wfe_core.specs.defs.declared.call.Call.{Call}
use Rattle.wfe_core.specs.defs.declared.call.Call.TheVariants as names
use Rattle.wfe_core.specs.defs.declared.lifetime.Lifetime.{Lifetime}
use Rattle.wfe_core.specs.declared.post.Post.{Post}
use Rattle.wfe_core.specs.words.declared.layout.Layout.{Layout}
use Rattle.wfe_core.specs.Calls.{Answers, Keeping, MarkLeft, Phase, Works}
use Rattle.wfe_core.specs.Keep.{parting}
use Rattle.wfe_core.specs.Locals.{Local, asks, begun, begun_post, busy_in, turn}
use Rattle.wfe_drive_call.specs.drive_words.Comes.{lent}
use Rattle.wfe_drive_call.specs.drive_words.Ran.{Ran}
use Rattle.wfe_drive_call.proofs.machines.Starting.{first_busy}
use Rattle.wfe_drive_rule.specs.history.History.{Item}
use Rattle.wfe_drive_rule.specs.Handles.{IsResting, IsSeated}
use Rattle.wfe_drive_rule.specs.Moves.{Told, slotted}
use Rattle.wfe_drive_rule.specs.Views.{Handle, View, call_in, entered, own, standing}
use Rattle.wfe_table.specs.Parting.{Departed, Parted}
use Rattle.wfe_table.proofs.Made.{stands_at}
use Rattle.wfe_table.proofs.TableWords.{StepMade, step_made}
use Rattle.wfe_table.proofs.Walked.{ends_by}

-- the slot holds the leave that has begun
leave_in : (l : Local) (call : Option Call) → busy_in l.phase ≡ false → entered l call ≡ begun l names.Leave → call ≡ Some names.Leave
leave_in l None idle e = absurd (cc (first_busy names.Leave (begun_post l.post)))
leave_in l (Some call) idle e = ap (λ (k : Local). let entry : Option Call = Some k.call in entry) e

-- the handle before the leave began, and as it has
pub record Begins (old now : Handle) (post : Post) : Type 0 where
  pub resting : IsResting old
  pub view : now.0 ≡ old.0
  pub begun_is : standing now ≡ begun (standing old) names.Leave
  pub post_is : (own old.0).local.post ≡ post

begun_at : (old now : Handle) (post : Post) → Begins old now post → standing now ≡ begun (own old.0).local names.Leave
begun_at old now post b = b.begun_is ∙ ap (λ (l : Local). begun l names.Leave) (stands_at old b.resting)

pub begun_there : (old now : Handle) (post : Post) → Begins old now post → (standing now).post ≡ begun_post post
begun_there old now post b = ap (λ (l : Local). l.post) (begun_at old now post b) ∙ ap begun_post b.post_is

pub parted_first : (layout : Layout) (slot : ℕ) (post : Post) (old now : Handle) → Begins old now post → IsSeated layout slot now → Parted layout slot post now (parting (begun_post post)) true now
parted_first layout slot post old now b seated =
    let at : standing now ≡ begun (own old.0).local names.Leave = begun_at old now post b in
    let there : (standing now).post ≡ begun_post post = begun_there old now post b in
    let own_is : (own now.0).local ≡ (own old.0).local = ap (λ (v : View). (own v).local) b.view in
    let idle : busy_in (own now.0).local.phase ≡ false = ap (λ (l : Local). busy_in l.phase) (own_is ∙ sym (stands_at old b.resting)) ∙ b.resting in
    record {
      seated = seated;
      ops = [];
      ran = refl;
      at = ap (λ (l : Local). l.phase) at ∙ ap (λ (p : Post). parting (begun_post p)) b.post_is;
      place = record { layout = ap (λ (p : Post). p.layout) there; seat = ap (λ (p : Post). p.seat) there };
      tags = ap (λ (p : Post). p.tags) there;
      list = refl;
      call = ap (λ (l : Local). l.call) at;
      begun_is = leave_in (own now.0).local (call_in now.1) idle (at ∙ ap (λ (l : Local). begun l names.Leave) (sym own_is));
      more = [];
      grows = sym (append-nil (own now.0).past);
    }

-- the list that is left is the one that the seat had
pub list_kept : (layout : Layout) (slot : ℕ) (post : Post) (old now later : Handle) (phase : Phase) (first : Bool) → Begins old now post → Parted layout slot post now phase first later → (standing later).desk.list ≡ (own old.0).local.desk.list
list_kept layout slot post old now later phase first b p = p.list ∙ ap (λ (l : Local). l.desk.list) (begun_at old now post b)

last_answers : (o : Local) (found : ℕ) → o.phase ≡ Works (Keeping MarkLeft) → (turn o found).outcome ≡ Answers (answers.Left (length o.desk.list))
last_answers o found e = rw e refl

-- the seat has left
pub departed : (layout : Layout) (slot : ℕ) (post : Post) (old now later gone : Handle) (first : Bool) → Begins old now post → Parted layout slot post now (Works (Keeping MarkLeft)) first later → Told layout later 0 (slotted gone.0) → Departed (own old.0) gone
departed layout slot post old now later gone first b p told =
    let l : Local = (own old.0).local in
    let bare : Handle = (slotted gone.0, []) in
    let busy : busy_in (standing later).phase ≡ true = ap busy_in p.at in
    let s : StepMade later bare 0 = step_made layout slot 0 later bare p.seated busy told refl in
    let o : Local = lent s.given in
    let o_at : o.phase ≡ Works (Keeping MarkLeft) = ap (λ (k : Local). k.phase) s.given.comes.stands ∙ p.at in
    let list : o.desk.list ≡ l.desk.list = ap (λ (k : Local). k.desk.list) s.given.comes.stands ∙ list_kept layout slot post old now later (Works (Keeping MarkLeft)) first b p in
    let answer : (turn o 0).outcome ≡ Answers (answers.Left (length l.desk.list)) = last_answers o 0 o_at ∙ ap (λ (lives : List Lifetime). Answers (answers.Left (length lives))) list in
    let ran : Ran (begun l names.Leave) p.ops (standing later) = subst (λ (k : Local). Ran k p.ops (standing later)) (begun_at old now post b) p.ran in
    record {
      ops = p.ops ++ (asks (standing later), 0) ∷ [];
      ends = ends_by l names.Leave (answers.Left (length l.desk.list)) p.ops later bare (asks (standing later)) 0 ran busy refl s answer refl;
      more = p.more ++ s.more;
      grows = s.grows ∙ ap (λ (past : List Item). past ++ s.more) (p.grows ∙ ap (λ (v : View). (own v).past ++ p.more) b.view) ∙ append_assoc (own old.0).past p.more s.more;
    }
