-- What the record of each history keeps, as far as sums over its seats need it.
use Rattle.std.proofs.Common.{ℕ, ◌≡◌, true, List}
use Rattle.law_all.specs.inv.model.defs.declared.event.Event.{Event}
use Rattle.law_all.specs.inv.model.words.Place.{is_valid}
use Rattle.law_all.specs.inv.model.words.declared.config.Config.{Config}
use Rattle.law_all.specs.inv.model.words.declared.layout.Layout.{Layout}
use Rattle.law_all.proofs.laws.records.Entries.{each_of_entries}
use Rattle.law_all.specs.laws.HistoryAnswers.{answers_ok, plain_clocks_ok}
use Rattle.law_all.specs.laws.HistoryEras as eras
use Rattle.law_all.specs.laws.HistoryRows.{once_ok, placing_ok}
use Rattle.law_all.specs.laws.HistoryTable.{ranges_ok}
use Rattle.law_all.specs.laws.MapLaw.{map_ok}
use Rattle.law_all.specs.laws.QueueLaw.{queue_ok}
use Rattle.law_all.specs.laws.Standing.{open_ok}
use Rattle.law_held.proofs.scans.Placing.Keeps.{records_place_rows}
use Rattle.law_reasons.proofs.reuse.AnswersTold.Answering.{records_keep_answers}
use Rattle.law_reasons.proofs.reuse.Lawful.Maps.{records_keep_map}
use Rattle.law_reasons.proofs.reuse.Lawful.Queues.{records_keep_queue}
use Rattle.law_reasons.proofs.reuse.OpenCalls.{records_open_calls}
use Rattle.law_reasons.proofs.reuse.Once.Keeps.{records_keep_once}
use Rattle.law_reasons.proofs.Ranges.Records.{records_stay_in_range}
use Rattle.law_held.proofs.scans.FewRetired.Plain.{records_answer_plainly}
use Rattle.law_reasons.proofs.Eras.EraLaw.Keeps.{records_keep_eras}
use Rattle.law_all.specs.inv.history.History.{Item, record_of}
use Rattle.law_all.specs.inv.history.Record.{Each, Past}
use Rattle.law_all.specs.inv.history.Record.Past.{Then}

-- by recursion
pub record Kept (c : Config) (r : Past) : Type 0 where
  pub open_calls : Each open_ok r
  pub ranges : Each (ranges_ok c) r
  pub told : Each (answers_ok c.buckets) r
  pub map : Each (map_ok c.buckets) r
  pub queue : Each queue_ok r
  pub once : Each (once_ok c.slots) r
  pub placing : Each placing_ok r
  pub eras : Each (eras.era_ok c) r
  pub clocks : Each (plain_clocks_ok c) r

pub kept_before : (c : Config) (p : Past) (i : ℕ) (event : Event) → Kept c (Then p i event) → Kept c p
kept_before c p i event l = record {
  open_calls = l.open_calls.1;
  ranges = l.ranges.1;
  told = l.told.1;
  map = l.map.1;
  queue = l.queue.1;
  once = l.once.1;
  placing = l.placing.1;
  eras = l.eras.1;
  clocks = l.clocks.1;
}

pub histories_keep : (layout : Layout) (items : List Item) → is_valid layout ≡ true → Kept layout.config (record_of layout items)
histories_keep layout items d = record {
  open_calls = each_of_entries _ (record_of layout items) (records_open_calls layout items d);
  ranges = each_of_entries _ (record_of layout items) (records_stay_in_range layout items d);
  told = each_of_entries _ (record_of layout items) (records_keep_answers layout items d);
  map = each_of_entries _ (record_of layout items) (records_keep_map layout items d);
  queue = each_of_entries _ (record_of layout items) (records_keep_queue layout items d);
  once = each_of_entries _ (record_of layout items) (records_keep_once layout items d);
  placing = each_of_entries _ (record_of layout items) (records_place_rows layout items d);
  eras = each_of_entries _ (record_of layout items) (records_keep_eras layout items d);
  clocks = each_of_entries _ (record_of layout items) (records_answer_plainly layout items d);
}
