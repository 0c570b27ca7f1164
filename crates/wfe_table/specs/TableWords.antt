-- What holds of a seat's words on the shared table between their steps, and what the steps of a call leave.
use Rattle.std.proofs.Common.{ap, refl, subst, sym, ◌∙◌}
use Rattle.std.proofs.lemmas.List.{append-nil, append_assoc}
use Rattle.std.specs.Prelude.{List, None, [], false, ◌++◌, ◌≡◌}
use Rattle.wfe_core.specs.Locals.{Local}
use Rattle.wfe_drive_rule.specs.history.History.{Item}
use Rattle.wfe_drive_call.specs.drive_words.Comes.{Comes}
use Rattle.wfe_drive_rule.specs.Handles.{IsSeated, IsSized}
use Rattle.wfe_drive_rule.specs.Views.{call_in, own, standing}
use Rattle.wfe_table.specs.declared.words.TableWords.{TableWords}

-- the handle is one of the table, and has its own seat with its slot
pub record IsFit (w : TableWords) : Type 0 where
  pub ids : w.handle.now.table_id ≡ w.ledger.now.table_id
  pub sized : IsSized w.ledger.now.table_id w.ledger.now.key
  pub seated : IsSeated w.ledger.now.key w.seat w.handle.now.me
  -- a history comes to the state at which its seat stands
  pub comes : Comes (standing w.handle.now.me)
  -- its slot holds a call at most until the call's first step
  pub later : w.first ≡ false → call_in w.handle.now.me.1 ≡ None

-- the second is the first some steps later: the same handle on the same table, and the seat's past has only grown
pub record IsLater (v w : TableWords) : Type 0 where
  pub handle : w.handle.ghost_name ≡ v.handle.ghost_name
  pub ids : w.handle.now.table_id ≡ v.handle.now.table_id
  pub ledger : w.ledger ≡ v.ledger
  pub seat : w.seat ≡ v.seat
  pub more : List Item
  pub grows : (own w.handle.now.me.0).past ≡ (own v.handle.now.me.0).past ++ more

pub later_self : (w : TableWords) → IsLater w w
later_self w = record { handle = refl; ids = refl; ledger = refl; seat = refl; more = []; grows = sym (append-nil (own w.handle.now.me.0).past) }

pub later_on : (u v w : TableWords) → IsLater u v → IsLater v w → IsLater u w
later_on u v w a b =
    record {
      handle = b.handle ∙ a.handle;
      ids = b.ids ∙ a.ids;
      ledger = b.ledger ∙ a.ledger;
      seat = b.seat ∙ a.seat;
      more = a.more ++ b.more;
      grows = b.grows ∙ ap (λ (p : List Item). p ++ b.more) a.grows ∙ append_assoc (own u.handle.now.me.0).past a.more b.more;
    }

pub comes_by : (w : TableWords) (l : Local) → IsFit w → standing w.handle.now.me ≡ l → Comes l
comes_by w l f e = subst Comes e f.comes
