use Rattle.law_reasons.proofs.Full.Keeps as keeps
use Rattle.law_reasons.proofs.records_scan_for_room.Goals as goal

pub returns : goal.returns
returns c = keeps.records_scan_for_room
