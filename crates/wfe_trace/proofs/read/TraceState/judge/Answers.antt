use Rattle.std.proofs.Common.{◌≡◌, ◌∙◌, ap, sym, false}
use Rattle.wfe_trace.specs.declared.item.Stage.TheVariants as stages
use Rattle.wfe_trace.specs.Reading.{gives_pairs}
use Rattle.wfe_trace.proofs.Settings.{bad_field-with_number, versioned-with_number}
use Rattle.wfe_trace.proofs.read.TraceState.judge.Goals as goal

pub invariant_of-self-in-Number : goal.invariant_of-self-in-Number
invariant_of-self-in-Number c =
    let number = c.in_ok-number-in-Number in
    let invariant = c.self.invariant in
    let other : gives_pairs (stages.Number c.in-Number.field) ≡ false = sym (ap gives_pairs c.in-Number.is) ∙ invariant.2 in
    rw c.with_number-self-inside-in-Number.ensures
    (bad_field-with_number c.self.inside.config c.in-Number.field number.number invariant.0 number.ensures.within, versioned-with_number c.self.inside.version c.self.inside.config c.in-Number.field number.number other invariant.1, invariant.2)
