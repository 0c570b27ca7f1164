use Rattle.std.proofs.lemmas.List.{length-map}
use Rattle.wfe_check_map.proofs.ValuesLemmas.{value_numbered, last_reached}
use Rattle.wfe_check_map.proofs.bucket.Bucket.value.Goals as goal

pub returns : goal.returns
returns c =
    rw (← c.self.view_is)
    (λ h. let steps = c.self.inside.steps.items in
    let within = rw length-map at h in
    rw (c.step_at.ensures, c.deref-2.ensures.value) (value_numbered steps c.args.version c.args.key c.loop-number.number within (last_reached steps c.args.version c.args.key c.loop-number.number within c.loop-number-test.false c.loop-number.invariant)))
