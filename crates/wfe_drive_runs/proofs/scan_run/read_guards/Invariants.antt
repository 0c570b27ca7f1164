-- Whatever comes after the scan, its next guard is to be read.
use Rattle.std.proofs.Common.{◌≡◌, ◌≤◌}
use Rattle.wfe_core.specs.Calls.{AfterScan, ReadGuard, Scans}
use Rattle.wfe_core.specs.DeskHeld.{HasRoom}
use Rattle.wfe_drive_words.specs.Called.{Here, at_phase}
use Rattle.wfe_drive_words.specs.Path.{Leads}
use Rattle.wfe_drive_runs.proofs.scan_run.read_guards.Given as goal

abbrev pub invariant-guards : goal.invariant-guards
invariant-guards g l =
    let words = g.W.Words in
    record {
      valid : words.valid l.words;
      later : words.later l.words;
      same : words.same l.fn.words l.words;
      rest : words.rest l.words ≤ words.rest l.fn.words;
      room : HasRoom l.desk l.post.layout;
      layout : l.post.layout ≡ l.fn.post.layout;
      standing : l.post.standing ≡ l.fn.post.standing;
      leads : (later : AfterScan) → Here (words.at l.fn.words) (at_phase (Scans later (ReadGuard 0)) l.fn.post l.fn.desk)
          → Leads (words.at l.fn.words) (words.at l.words) (words.stands l.fn.words) (words.stands l.words) (at_phase (Scans later (ReadGuard 0)) l.fn.post l.fn.desk) (at_phase (Scans later (ReadGuard l.number)) l.post l.desk);
    }

abbrev pub decreases-guards : goal.decreases-guards
decreases-guards g l = g.W.Words.rest l.words
