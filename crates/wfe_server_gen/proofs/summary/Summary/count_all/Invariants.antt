use Rattle.std.proofs.Common.{take}
use Rattle.wfe_server_gen.specs.Summary.{Counts}
use Rattle.wfe_server_out.specs.Heard.{Gains}
use Rattle.wfe_server_out.specs.Pieces.{heard_of, told_pieces}
use Rattle.wfe_server_gen.proofs.summary.Summary.count_all.Given as goal

-- the events before this one are counted
abbrev pub invariant-loop-place : goal.invariant-loop-place
invariant-loop-place l = Gains Counts l.fn.self l.self (heard_of (told_pieces l.seat (take l.place l.told)))
