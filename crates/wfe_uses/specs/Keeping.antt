-- What a reader's log has that keeps a row and looks at it twice.
use Rattle.std.specs.Prelude.{List, [], ℕ, ◌++◌, ◌∷◌, ◌≡◌}
use Rattle.wfe_core.specs.Desks.{Notes}
use Rattle.wfe_core.specs.Locals.{Group}
use Rattle.wfe_core.specs.defs.declared.call.Answer.TheVariants as answers
use Rattle.wfe_core.specs.defs.declared.call.Answer.{Answer}
use Rattle.wfe_core.specs.defs.declared.call.Call.TheVariants as calls
use Rattle.wfe_core.specs.defs.declared.call.Call.{Call}
use Rattle.wfe_table_end.specs.declared.answers.Looked.{Looked}
use Rattle.wfe_uses.specs.declared.snapshot.Views.{Views}

abbrev pub group_by : Call → Answer → Notes → Group
group_by call answer notes = record { call = call; answer = answer; notes = notes }

-- a look at an index that found a row
abbrev pub looking : (index key : ℕ) → Looked → Notes → Group
looking index key looked notes = group_by (calls.Look index key) (answers.Looked looked.slot looked.version looked.value) notes

-- the row that the first hold found is copied to index 3, and looked at there
pub record KeepsRow (key : ℕ) (log : List Group) (first : Looked) : Type 0 where
  pub held : ℕ
  pub copied : ℕ
  pub a : Notes
  pub b : Notes
  pub c : Notes
  pub log_is :
      log ≡ group_by (calls.Hold key) (answers.Holding held) a ∷ (group_by (calls.Copy 2 3) (answers.Copied copied) b ∷ (looking 3 key first c ∷ []))

-- then the row is looked at that the next hold found, and the one at index 3 again
pub record Keeps (key : ℕ) (log : List Group) (views : Views) : Type 0 where
  pub before : List Group
  pub kept : KeepsRow key before views.first
  pub next : ℕ
  pub d : Notes
  pub e : Notes
  pub f : Notes
  pub log_is :
      log
      ≡ before
      ++ group_by (calls.Hold key) (answers.Holding next) d
      ∷ (looking 2 key views.moved e ∷ (looking 3 key views.again f ∷ []))

-- both looks at the row that is kept answer the same
pub record ReadsTheSame (views : Views) : Type 0 where
  pub version : views.again.version ≡ views.first.version
  pub value : views.again.value ≡ views.first.value
