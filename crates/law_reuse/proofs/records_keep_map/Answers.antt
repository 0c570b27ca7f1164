use Rattle.law_reuse.proofs.Lawful.Maps as maps
use Rattle.law_reuse.proofs.records_keep_map.Goals as goal

pub returns : goal.returns
returns c = maps.records_keep_map
