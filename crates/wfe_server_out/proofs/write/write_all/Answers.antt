use Rattle.std.proofs.Common.{rules}
use Rattle.std.proofs.lemmas.List.{take_rest}
use Rattle.wfe_server_out.proofs.Texts.{AppendsSome-front, Appends-front, on_err}
use Rattle.wfe_server_out.proofs.write.write_all.Goals as goal

pub returns-in_err-count : goal.returns-in_err-count
returns-in_err-count g c =
    let front = c.loop-rest.invariant.written in
    record {
      wrote = search rules;
      some = on_err c.from_residual.result (AppendsSome-front _ _ _ _ front.0 _ front.1 front.2 c.in_err-count.ensures.bytes);
      later = search rules;
      cause = search rules;
    }

pub loop-rest-preserved : goal.loop-rest-preserved
loop-rest-preserved g c =
    let front = c.loop-rest.invariant.written in
    let longer = Appends-front _ _ _ _ front.0 c.loop-rest.rest.now c.in_ok-count.count front.1 front.2 c.in_ok-count.ensures.bytes in
    record {
      written = (longer.0, rw (take_rest c.loop-rest.rest.now c.in_ok-count.count) longer.1, longer.2);
      later = search rules;
    }
