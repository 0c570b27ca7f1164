use Rattle.wfe_record_words.proofs.Headers.{header_known, header_read}
use Rattle.wfe_check_lines.proofs.law.headers_are_texts.Goals as goal

pub returns : goal.returns
returns c = λ bytes version config. (header_read bytes (version, config), header_known bytes version config)
