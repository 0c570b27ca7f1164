-- What is said of a refusal that nothing was asked for.
use Rattle.wfe_shared_cells.specs.Calls.{IsRefusedFor, PartNow}
use Rattle.wfe_shared_cells.specs.declared.cells.SwapRefusal.{SwapRefusal}
use Rattle.wfe_shared_cells.specs.declared.cells.SwapRefusal.TheVariants as refusals
use Rattle.wfe_cells.specs.table.closed.declared.refusals.PutIfRefusal.{PutIfRefusal}

pub not_laid : (old new : PartNow) (IsNotPut : PutIfRefusal → Type 0) (why : SwapRefusal) → IsRefusedFor old new (λ _. ⊥) why → IsRefusedFor old new IsNotPut why
not_laid old new IsNotPut refusals.NoPlace so = so
not_laid old new IsNotPut refusals.NoNumber so = so
not_laid old new IsNotPut (refusals.NotPut refusal) so = absurd so.1
