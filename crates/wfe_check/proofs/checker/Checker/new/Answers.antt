use Rattle.std.proofs.Common.{refl}
use Rattle.laws.proofs.Grows.{blank_good}
use Rattle.wfe_check.proofs.checker.Checker.new.Goals as goal

pub returns : goal.returns
returns c = record {
  version_is = refl;
  shows = record {
    setting = refl;
    rows = c.in_ok-rows.ensures.rows;
    protections = c.in_ok-rows.ensures.protections;
    calls = c.in_ok-calls.ensures.calls;
    steps = c.in_ok-calls.ensures.steps;
    contents = c.in_ok-calls.ensures.contents;
    lists = c.in_ok-calls.ensures.lists;
    times = c.in_ok-rows.ensures.times;
    linked = λ bucket slot h. absurd (cc);
    copies = λ i from index h. absurd (cc);
  };
  good = blank_good c.args.version c.args.config;
}
