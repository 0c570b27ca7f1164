use Rattle.std.proofs.Common.{◌∙◌}
use Rattle.wfe_record_words.proofs.Headers.{header_known, read_if}
use Rattle.wfe_record_words.proofs.header.read_header.Goals as goal

pub returns-clause-read : goal.returns-clause-read
returns-clause-read c = read_if c.args.bytes.now c.header_in.result c.header_in.ensures

pub returns-clause-known : goal.returns-clause-known
returns-clause-known c = λ version config is. c.header_in.ensures ∙ header_known c.args.bytes.now version config is
