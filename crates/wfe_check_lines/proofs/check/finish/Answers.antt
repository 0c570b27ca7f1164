use Rattle.wfe_check_lines.proofs.Standing.{stands_good}
use Rattle.wfe_check_lines.proofs.check.finish.Goals as goal

pub returns-in-Ok : goal.returns-in-Ok
returns-in-Ok g c r is =
    let (whole, e, stands) = c.in-Ok.ensures r is in
    (whole, e, stands_good g.J.Judge.judges g.J.Judge.good c.finish.new.self whole stands, c.entries.ensures whole stands)
