use Rattle.law_reuse.proofs.Letter.Letters as letters
use Rattle.law_reuse.proofs.letters.laws_follow.Goals as goal

pub returns : goal.returns
returns c = letters.laws_follow
