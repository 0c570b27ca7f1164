use Rattle.std.proofs.Common.{rules}
use Rattle.wfe_server_replay.proofs.Outs.{line_done, line_is, part_of, puts_of}
use Rattle.wfe_server_replay.proofs.progress.Work.take_line.Goals as goal

pub returns-in-Err-take_item : goal.returns-in-Err-take_item
returns-in-Err-take_item g c = record {
  took = part_of _ _ _ _ _ _ _ (line_is g.E.Engine.taken c.args.self.now c.read.new.self c.in-Ok.item c.read.result c.read.ensures.item c.in-Ok.is c.in-Ok.ensures.after) c.in-Err-take_item.ensures.emits.some;
  later = search rules;
  cause = search rules;
}

pub returns-in-Ok-take_item : goal.returns-in-Ok-take_item
returns-in-Ok-take_item g c = record {
  took = (
    line_done g.E.Engine.taken c.args.self.now c.read.new.self c.take_item.new.self c.in-Ok.item c.read.result c.read.ensures.item c.in-Ok.is c.in-Ok.ensures.after c.in-Ok-take_item.ensures.after,
    puts_of _ _ _ _ _ _ _ (line_is g.E.Engine.taken c.args.self.now c.read.new.self c.in-Ok.item c.read.result c.read.ensures.item c.in-Ok.is c.in-Ok.ensures.after) c.in-Ok-take_item.ensures.emits.put,
  );
  later = search rules;
  cause = search rules;
}
