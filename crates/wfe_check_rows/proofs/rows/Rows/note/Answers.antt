use Rattle.wfe_check_rows.proofs.Steps.{step}
use Rattle.wfe_check_rows.proofs.rows.Rows.note.Goals as goal

pub returns-clause-noted : goal.returns-clause-noted
returns-clause-noted c = step c.args.self.now (record c.change.new.self { clock = c.in_ok-clock.clock }) c.args.seat c.args.event.now (record {
  config = c.change.ensures.config;
  clock = c.in_ok-clock.ensures.told;
  rows = c.change.ensures.rows;
  roots = c.change.ensures.roots;
  head = c.change.ensures.head;
  tail = c.change.ensures.tail;
  due = c.change.ensures.due;
  last = c.change.ensures.last;
})
