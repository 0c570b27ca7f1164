-- So many pairs were written.
use Rattle.std.proofs.Common.{◌*◌, ◌+◌, ◌≤◌}
use Rattle.wfe_core.specs.DeskHeld.{desk_of}
use Rattle.wfe_drive_runs.specs.drive_words.Path.{Leads}
use Rattle.wfe_drive_call.specs.Changing.{kept_of, step_post, wrote_at}
use Rattle.wfe_drive_call.proofs.write.write_pairs.Given as goal

abbrev pub invariant-loop-pair : goal.invariant-loop-pair
invariant-loop-pair g l =
    let words = g.W.Words in
    record {
      valid : words.valid l.words;
      later : words.later l.words;
      same : words.same l.fn.words l.words;
      rest : words.rest l.words ≤ words.rest l.fn.words;
      below : l.pair ≤ l.count;
      leads : Leads (words.at l.fn.words) (words.at l.words) (words.stands l.fn.words) (words.stands l.words)
          (wrote_at (kept_of l.kept) l.slot 2 (step_post l.post l.before) (desk_of l._desk)) (wrote_at (kept_of l.kept) l.slot (2 + 2 * l.pair) (step_post l.post l.steps) (desk_of l._desk));
    }

abbrev pub decreases-loop-pair : goal.decreases-loop-pair
decreases-loop-pair g l = g.W.Words.rest l.words
