use Rattle.wfe_check_lines.proofs.kind.read_kind.Goals as goal

pub returns-clause-within : goal.returns-clause-within
returns-clause-within c = c.named.ensures.within c.args.config.now
