use Rattle.law_all.proofs.Logs.LastScans as scans
use Rattle.law_all.proofs.answered.record_reads.Goals as goal

pub returns : goal.returns
returns c = scans.record_reads
