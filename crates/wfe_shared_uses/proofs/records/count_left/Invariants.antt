-- Each object that comes leaves fewer places to be looked at.
use Rattle.wfe_shared_uses.proofs.records.count_left.Given as goal

abbrev pub decreases-loop-number : goal.decreases-loop-number
decreases-loop-number l = l.objects
