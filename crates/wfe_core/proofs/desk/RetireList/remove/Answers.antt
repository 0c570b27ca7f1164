use Rattle.std.proofs.Common.{Some, ap, sym, ◌∙◌, ◌≡◌, ◌-◌, take}
use Rattle.std.specs.List.{remove}
use Rattle.std.proofs.lemmas.Option.{slice_get-get_or}
use Rattle.wfe_core.proofs.Lists.{fits_remove, last_out}
use Rattle.wfe_core.proofs.desk.RetireList.remove.Goals as goal

pub invariant_of-self : goal.invariant_of-self
invariant_of-self c =
    let h = fits_remove _ c.args.place _ _ c.self.invariant in
    let lent = c.deref_mut.ensures in
    let moved : take (c.self.inside.entries.len - 1) c.close_gap.new.lives ≡ remove c.self.inside.entries.items c.args.place = rw (← lent.len, ← lent.value) c.close_gap.ensures.moved in
    let taken : c.pop.new.self.items ≡ remove c.self.inside.entries.items c.args.place = c.pop.ensures.rest ∙ last_out _ c.close_gap.new.lives _ (c.close_gap.ensures.long ∙ lent.len) ∙ moved in
    rw (taken, c.pop.ensures.capacity) h

pub returns-clause-life : goal.returns-clause-life
returns-clause-life c =
    let below = rw (← c.self.view_is) at c.requires in
    rw (← c.self.view_is) (slice_get-get_or _ _ c.index-life.result.now below ∙ ap Some (sym c.index-life.ensures))
