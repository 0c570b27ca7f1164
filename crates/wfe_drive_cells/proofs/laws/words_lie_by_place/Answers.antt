use Rattle.wfe_drive_cells.proofs.Bridge.{answered-numbered, length-performed, memory-performed, memory-place_at, memory-start, place_at-numbered, word_within}
use Rattle.wfe_drive_cells.proofs.Narrow.{answered-narrow, found-narrow, memory-narrow, performed-narrow, start_list-narrow, written-narrow}
use Rattle.wfe_drive_cells.proofs.laws.words_lie_by_place.Goals as goal

pub returns-clause-bridge : goal.returns-clause-bridge
returns-clause-bridge c = record {
  shows = memory-place_at c.args.layout.now;
  starts = memory-start c.args.layout.now;
  within = word_within c.args.layout.now;
  placed = place_at-numbered c.args.layout.now;
  answers = answered-numbered c.args.layout.now;
  performs = memory-performed c.args.layout.now;
  stays = length-performed;
}

pub returns-clause-narrow : goal.returns-clause-narrow
returns-clause-narrow c = record {
  starts = λ list s. start_list-narrow c.args.layout.now list c.requires s;
  answers = answered-narrow;
  performs = performed-narrow;
  shows = memory-narrow c.args.layout.now;
  finds = found-narrow;
  writes = written-narrow c.args.layout.now;
}
