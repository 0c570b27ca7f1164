use Rattle.wfe_check_lines.proofs.kind.row_line.Goals as goal

pub returns-clause-within : goal.returns-clause-within
returns-clause-within c = λ config. c.whole.ensures.within config (c.in_ok-kind.ensures.within config)
