-- Whatever comes after the scan, the first row from this place on that may go back is to, or the scan is over.
use Rattle.std.proofs.Common.{◌<◌, ◌≡◌}
use Rattle.wfe_core.specs.Calls.{AfterScan, ReadGuard, Scans}
use Rattle.wfe_core.specs.DeskHeld.{HasRoom, desk_of}
use Rattle.wfe_drive_words.specs.Called.{Here, at_phase}
use Rattle.wfe_drive_runs.specs.Pieces.{TurnsTo, giving_at}
use Rattle.wfe_drive_runs.proofs.scan_run.scan.Given as goal

abbrev pub invariant-rows : goal.invariant-rows
invariant-rows g l =
    let words = g.W.Words in
    record {
      valid : words.valid l.words;
      later : words.later l.words;
      same : words.same l.fn.words l.words;
      rest : words.rest l.words < words.rest l.fn.words;
      room : HasRoom l.desk l.post.layout;
      layout : l.post.layout ≡ l.fn.post.layout;
      standing : l.post.standing ≡ l.fn.post.standing;
      turns : (later : AfterScan) → Here (words.at l.fn.words) (at_phase (Scans later (ReadGuard 0)) l.fn.post l.fn.desk)
          → TurnsTo (words.at l.fn.words) (words.at l.words) (words.stands l.fn.words) (words.stands l.words) (at_phase (Scans later (ReadGuard 0)) l.fn.post l.fn.desk) (giving_at later l.from l.post (desk_of l.desk));
    }

abbrev pub decreases-rows : goal.decreases-rows
decreases-rows g l = g.W.Words.rest l.words
