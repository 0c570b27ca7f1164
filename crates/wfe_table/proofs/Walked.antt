-- The steps of a handle, one after another, to the end of a call.
use Rattle.std.proofs.Common.{List, [], refl, subst, sym, true, ℕ, ◌++◌, ◌∙◌, ◌∷◌, ◌≡◌}
use Rattle.wfe_core.specs.defs.declared.call.Answer.{Answer}
use Rattle.wfe_core.specs.defs.declared.call.Call.{Call}
use Rattle.wfe_core.specs.declared.op.Op.{Op}
use Rattle.wfe_core.specs.Calls.{Answers}
use Rattle.wfe_core.specs.Locals.{Local, after, asks, begun, busy_in, turn}
use Rattle.wfe_drive_call.specs.drive_words.Called.{Ends}
use Rattle.wfe_drive_call.specs.drive_words.Comes.{lent}
use Rattle.wfe_drive_call.specs.drive_words.Ran.{Answered, Performs, Ran}
use Rattle.wfe_drive_call.proofs.drive_words.Groups.{left_by}
use Rattle.wfe_drive_rule.specs.Views.{Handle, own, standing}
use Rattle.wfe_table.proofs.TableWords.{StepMade}

abbrev pub performed : (me later : Handle) (op : Op) (found : ℕ) → busy_in (standing me).phase ≡ true → op ≡ asks (standing me) → StepMade me later found → Performs (standing me) (op, found)
performed me later op found busy asked s = record { busy = busy; asked = asked; given = s.given }

-- one step more
pub ran_more : (l : Local) (ops : List (Op × ℕ)) (me later : Handle) (op : Op) (found : ℕ) → Ran l ops (standing me) → busy_in (standing me).phase ≡ true → op ≡ asks (standing me) → StepMade me later found → Ran l (ops ++ (op, found) ∷ []) (standing later)
ran_more l [] me later op found ran busy asked s = subst (λ (k : Local). Ran k ((op, found) ∷ []) (standing later)) (sym ran) (performed me later op found busy asked s, sym s.next)
ran_more l (x ∷ xs) me later op found ran busy asked s = (ran.0, ran_more (after (lent ran.0.given) x.1) xs me later op found ran.1 busy asked s)

-- the step that answers
pub ends_by : (l : Local) (call : Call) (answer : Answer) (ops : List (Op × ℕ)) (me later : Handle) (op : Op) (found : ℕ) → Ran (begun l call) ops (standing me) → busy_in (standing me).phase ≡ true → op ≡ asks (standing me) → (s : StepMade me later found)
    → (turn (lent s.given) found).outcome ≡ Answers answer → standing later ≡ (own later.0).local → Ends call answer (ops ++ (op, found) ∷ []) l (own later.0).local
ends_by l call answer ops me later op found ran busy asked s answers rests =
    let a : Answered (begun l call) (ops ++ (op, found) ∷ []) answer (own later.0).local = record {
      before = ops;
      last = standing me;
      operation = (op, found);
      ops_are = refl;
      ran = ran;
      performs = performed me later op found busy asked s;
      answers = answers;
      left = sym rests ∙ s.next;
    } in
    record { answered = a; left = left_by l call (ops ++ (op, found) ∷ []) answer (own later.0).local a }
