use Rattle.wfe_trace.proofs.Versions.{begins-version, begins-workers, good-later}
use Rattle.wfe_trace.proofs.law.versions_have_their_lines.Goals as goal

pub returns : goal.returns
returns c = record { calls = begins-version; later = good-later; workers = begins-workers }
