-- The keys before this pair were read, and are others.
use Rattle.std.proofs.Common.{◌+◌, ◌≤◌, ◌≡◌}
use Rattle.wfe_drive_words.specs.Called.{Here}
use Rattle.wfe_drive_words.specs.Path.{Leads, Reader, next_pair}
use Rattle.wfe_drive_words.proofs.found.find_key.Given as goal

abbrev pub invariant-loop-pair : goal.invariant-loop-pair
invariant-loop-pair g l =
    let words = g.W.Words in
    record {
      valid : words.valid l.words;
      later : words.later l.words;
      same : words.same l.fn.words l.words;
      below : l.pair ≤ l.count;
      leads : (r : Reader) → r.post.layout ≡ l.post.layout → Here (words.at l.fn.words) (next_pair l.key r 2 l.slot l.version l.count 0)
          → Leads (words.at l.fn.words) (words.at l.words) (words.stands l.fn.words) (words.stands l.words) (next_pair l.key r 2 l.slot l.version l.count 0) (next_pair l.key r (2 + l.pair) l.slot l.version l.count l.pair);
    }

abbrev pub decreases-loop-pair : goal.decreases-loop-pair
decreases-loop-pair g l = g.W.Words.rest l.words
