-- The laws follow from what each history keeps.
use Rattle.laws.proofs.records.Entries.{each_of_entries, entries_of_each}
use Rattle.laws.specs.AnswerLaw as answers
use Rattle.laws.specs.AnswerLaw.{AnswerLaw}
use Rattle.laws.specs.HistoryAnswers as told
use Rattle.laws.specs.HistoryAnswers.{HistoryAnswers}
use Rattle.laws.specs.HistoryEras.{plain_moves_ok}
use Rattle.laws.specs.HistoryHolds.{clears_ok}
use Rattle.laws.specs.HistoryRows.{single_ok}
use Rattle.laws.specs.HistoryScans as scans
use Rattle.laws.specs.HistoryScans.{HistoryScans, plain_scans_ok, count_ok}
use Rattle.laws.specs.HistorySteps as steps
use Rattle.laws.specs.Standing.{open_ok}
use Rattle.laws.specs.HistoryHolds.{lone_ok}
use Rattle.laws.specs.QueueLaw.{empty_ok}
use Rattle.laws.specs.ScanLaw.{ScanLaw, blocks_ok, room_ok}
use Rattle.laws.specs.StepLaw as counts
use Rattle.laws.specs.records.Record.{Past}
use Rattle.laws.specs.records.Turns.{History}
use Rattle.laws.specs.words.declared.config.Config.{Config}
use Rattle.law_reuse.proofs.Letter.Answers.{answers_kept, reasons_kept, empty_kept, retires_kept, refuses_kept}
use Rattle.law_reuse.proofs.Letter.Clocks.{clocks_kept, full_kept, repeats_kept}
use Rattle.law_reuse.proofs.Letter.Eras.{eras}
use Rattle.law_reuse.proofs.Letter.Held.{no_reuse, standing_kept, holding}
use Rattle.law_reuse.proofs.Letter.Rows.{once}
use Rattle.law_reuse.proofs.Letter.Scans.{Courses, blocks_kept, rooms_kept}
use Rattle.law_reuse.proofs.Letter.Steps.{asks_kept, ends_kept}
use Rattle.law_reuse.specs.Letter.Letters.{Kept, LawsFollow}

courses : (config : Config) (history : History) (r : Past) → Kept config history r → Courses config r
courses config history r k =
    record {
      calls = each_of_entries open_ok r k.calls;
      scans = each_of_entries (plain_scans_ok config) r k.histories.scans.due;
      moves = each_of_entries (plain_moves_ok config) r k.histories.eras.moves;
      single = each_of_entries single_ok r k.histories.rows.single;
    }

scanned : (config : Config) (history : History) (r : Past) → Kept config history r → ScanLaw config r
scanned config history r k =
    record {
      blocks = k.histories.scans.blocks;
      reads = k.histories.scans.reads;
      due = entries_of_each (blocks_ok config) r (blocks_kept config r k.guarded (courses config history r k));
      room = λ s low. entries_of_each (room_ok config s) r (rooms_kept config s r k.guarded (courses config history r k) (each_of_entries (scans.room_ok config.slots s) r (k.histories.scans.room s low)));
    }

answered : (config : Config) (history : History) (r : Past) → Kept config history r → AnswerLaw config r
answered config history r k =
    let h : HistoryAnswers config r = k.histories.answers in
    record {
      told = entries_of_each (answers.answers_ok config.buckets) r (answers_kept config.buckets r (each_of_entries (told.answers_ok config.buckets) r h.told));
      reasons = entries_of_each (answers.reasons_ok config) r (reasons_kept config r (each_of_entries lone_ok r k.histories.alone) (each_of_entries clears_ok r k.histories.stands.clears) (each_of_entries open_ok r k.calls) (each_of_entries (count_ok config) r k.histories.scans.counts) (each_of_entries (told.reasons_ok config) r h.reasons));
      full = λ s low. entries_of_each (answers.full_ok config s) r (full_kept config s r (each_of_entries (told.full_ok config s) r (h.full s low)));
      lacks = h.lacks;
      retires = entries_of_each answers.retires_ok r (retires_kept r (each_of_entries told.retires_ok r h.retires));
      refusals = entries_of_each answers.refuses_ok r (refuses_kept r (each_of_entries told.refusing_ok r h.refusals));
      clock = entries_of_each (answers.clocks_ok config) r (clocks_kept config r (each_of_entries (plain_moves_ok config) r k.histories.eras.moves) (each_of_entries (told.plain_clocks_ok config) r h.clock) (each_of_entries told.times_ok r h.times));
      repeats = entries_of_each (answers.repeats_ok config) r (repeats_kept config r k.guarded (courses config history r k) (each_of_entries (told.repeats_ok config) r h.repeats));
    }

pub laws_follow : LawsFollow
laws_follow config history r k =
    record {
      calls = k.calls;
      standing = standing_kept r k.histories.alone k.histories.stands;
      no_reuse = no_reuse r k.histories.alone k.histories.stands;
      once = once config.slots r k.histories.rows;
      scans = scanned config history r k;
      eras = eras config r k.guarded (courses config history r k) k.histories.rows.free k.histories.guards k.histories.eras;
      holding = holding config r k.histories.alone k.histories.stands k.histories.holds;
      map = k.map;
      queue = record { values = k.values; empty = entries_of_each empty_ok r (empty_kept config r (each_of_entries (told.reasons_ok config) r k.histories.answers.reasons)) };
      steps = record {
        numbers = λ w. k.histories.steps.numbers w;
        withdrawals = λ w. k.withdrawals;
        tries = k.tries;
        raises = k.histories.steps.raises;
        hazards = k.histories.steps.hazards;
        asks = λ w j. entries_of_each (counts.ask_ok config.tries j) r (asks_kept config.tries j r (each_of_entries (steps.asks_ok config.tries j) r (k.histories.steps.asks w j)));
        calls = entries_of_each (counts.end_ok config) r (ends_kept config r (each_of_entries (steps.end_ok config) r k.histories.steps.calls));
      };
      answers = answered config history r k;
    }
