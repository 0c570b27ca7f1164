-- Whatever comes after the protection, its steps so far were made, and its next one may be.
use Rattle.std.proofs.Common.{◌≡◌, ◌≤◌}
use Rattle.wfe_core.specs.CallReady.{NotesFit}
use Rattle.wfe_core.specs.Calls.{Runs, Why}
use Rattle.wfe_core.specs.DeskHeld.{HasRoom, desk_of}
use Rattle.wfe_core.specs.Follow.{following}
use Rattle.wfe_core.specs.Ready.{IsReady}
use Rattle.wfe_core.specs.Valid.{IsValid}
use Rattle.wfe_drive_words.specs.fast.Phases.{protect_phase}
use Rattle.wfe_drive_words.specs.Called.{Here, at_phase}
use Rattle.wfe_drive_runs.specs.Following.{IsNextAlone}
use Rattle.wfe_drive_words.specs.Path.{Leads}
use Rattle.wfe_drive_runs.proofs.followed_run.run_followed.Given as goal

abbrev pub invariant-loop-end : goal.invariant-loop-end
invariant-loop-end g l =
    let words = g.W.Words in
    record {
      valid : words.valid l.words;
      later : words.later l.words;
      same : words.same l.fn.words l.words;
      rest : words.rest l.words ≤ words.rest l.fn.words;
      room : HasRoom l.desk l.post.layout;
      layout : l.post.layout ≡ l.fn.post.layout;
      alone : IsNextAlone l._parent (protect_phase l.machine);
      here : (why : Why) × Here (words.at l.words) (at_phase (Runs why (following (protect_phase l.machine))) l.post l.desk);
      own : IsValid l.post;
      ready : IsReady (protect_phase l.machine) l.post;
      noted : NotesFit l.post (desk_of l.desk);
      leads : (why : Why) → Here (words.at l.fn.words) (at_phase (Runs why (following (protect_phase l.fn.machine))) l.fn.post l.fn.desk)
          → Leads (words.at l.fn.words) (words.at l.words) (words.stands l.fn.words) (words.stands l.words) (at_phase (Runs why (following (protect_phase l.fn.machine))) l.fn.post l.fn.desk) (at_phase (Runs why (following (protect_phase l.machine))) l.post l.desk);
    }

abbrev pub decreases-loop-end : goal.decreases-loop-end
decreases-loop-end g l = g.W.Words.rest l.words
