use Rattle.std.proofs.Common.{arith}
use Rattle.wfe_words.proofs.Codecs.{life_codec, link_codec, request_codec, reservation_codec, span_codec}
use Rattle.wfe_words.proofs.laws.words_hold_values.Goals as goal

pub returns : goal.returns
returns c = record { link = link_codec c.args.slots (omega arith); life = life_codec; reservation = reservation_codec; span = span_codec; request = request_codec }
