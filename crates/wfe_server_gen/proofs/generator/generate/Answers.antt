use Rattle.std.proofs.Common.{rules}
use Rattle.wfe_server_gen.proofs.HandedBack.{generates_done, generates_fault, generates_nothing}
use Rattle.wfe_server_gen.proofs.generator.generate.Goals as goal

pub returns-in_default-clause-generates : goal.returns-in_default-clause-generates
returns-in_default-clause-generates g c =
    generates_nothing _ _ c.args.seed c.args.turns _ c.deref_mut.result.now c.args.watchers.now.items c.summarize.new.watchers c.args.watchers.now.len c.deref_mut.ensures.value (search rules) (search rules)
    c.in_default.ensures.taken (search rules)

pub returns-in-Ok-put_report-clause-generates : goal.returns-in-Ok-put_report-clause-generates
returns-in-Ok-put_report-clause-generates g c =
    generates_done _ _ _ c.args.seed c.args.turns _ _ c.deref_mut.result.now c.args.watchers.now.items c.summarize.new.watchers c.deref.result.now c.args.watchers.now.len c.in-Ok.summary c.deref_mut.ensures.value (search rules) (search rules)
    c.deref.ensures.value c.in-Ok.ensures.counted c.in-Ok.ensures.taken c.in-Ok.ensures.heard c.in-Ok-put_report.ensures.wrote

pub returns-in-Err-clause-generates : goal.returns-in-Err-clause-generates
returns-in-Err-clause-generates g c =
    generates_fault _ _ _ c.args.seed c.args.turns _ _ c.deref_mut.result.now c.args.watchers.now.items c.summarize.new.watchers c.deref.result.now c.args.watchers.now.len c.in-Ok.summary c.deref_mut.ensures.value (search rules) (search rules)
    c.deref.ensures.value c.in-Ok.ensures.counted c.in-Ok.ensures.taken c.in-Ok.ensures.heard c.in-Err.ensures.some
