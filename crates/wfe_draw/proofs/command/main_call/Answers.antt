use Rattle.std.proofs.Common.{refl}
use Rattle.wfe_draw.proofs.command.main_call.Goals as goal

pub returns-in_default-clause-does : goal.returns-in_default-clause-does
returns-in_default-clause-does g c = record { last = 18446744073709551615; whole = λ none. refl; does = refl }

pub returns-clause-does : goal.returns-clause-does
returns-clause-does g c = record { last = c.in-Some.part.last; whole = c.in-Some.ensures; does = c.draw_part.ensures.does }
