use Rattle.std.proofs.Common.{◌∙◌}
use Rattle.wfe_record.proofs.Entries.{entry_known, read_if}
use Rattle.wfe_record.proofs.event.read_event.Goals as goal

pub returns-clause-read : goal.returns-clause-read
returns-clause-read c = read_if c.args.version c.args.config.now c.setting_is_small.ensures c.args.bytes.now c.entry_in.result c.entry_in.ensures

pub returns-clause-known : goal.returns-clause-known
returns-clause-known c = λ seat event is. c.entry_in.ensures ∙ entry_known c.args.version c.args.config.now c.setting_is_small.ensures c.args.bytes.now seat event is
