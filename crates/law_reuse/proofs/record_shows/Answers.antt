use Rattle.law_reuse.proofs.Once.Keeps as keeps
use Rattle.law_reuse.proofs.record_shows.Goals as goal

pub returns : goal.returns
returns c = keeps.record_shows
