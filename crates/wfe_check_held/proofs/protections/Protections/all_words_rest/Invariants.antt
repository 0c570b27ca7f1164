use Rattle.std.proofs.Common.{◌≡◌}
use Rattle.wfe_check_held.specs.All.{all_below}
use Rattle.wfe_check_held.specs.Shown.{word_rests}
use Rattle.wfe_check_held.proofs.protections.Protections.all_words_rest.Given as goal

abbrev pub invariant-loop-index : goal.invariant-loop-index
invariant-loop-index l = l.all ≡ all_below (word_rests l.self l.seat) l.index
