-- The book has of the map and of the queue what the record says.
use Rattle.std.proofs.Common.{refl}
use Rattle.inv_all.specs.model.World.{told_in}
use Rattle.inv_all.specs.history.History.{Made, first_made}
use Rattle.inv_all.proofs.history.Along.{Steady, items_keep}
use Rattle.law_reuse.proofs.Lawful.Maps.{told_changes}
use Rattle.law_reuse.proofs.Lawful.Queues.{Agrees, told_agrees}
use Rattle.law_reuse.specs.Answers.{IsBooked, RecordBooks}

abbrev Keeps : Made → Type 0
Keeps made = IsBooked made.world made.past

agrees : (made : Made) → Keeps made → Agrees made.world.book made.past
agrees made g = record { queued = g.queued; taken = g.taken }

steady : Steady Keeps
steady = record {
  begins = λ made i call b y m g. record { changes = g.changes; queued = g.queued; taken = g.taken };
  steps = λ made i b y g.
      let t = told_agrees i (told_in made.world i) made.past made.world.book (agrees made g) in
      record {
        changes = λ bucket. told_changes bucket i (told_in made.world i) made.past made.world.book (g.changes bucket);
        queued = t.queued;
        taken = t.taken;
      };
}

pub record_books : RecordBooks
record_books layout items d = items_keep Keeps steady items (first_made layout) (record { changes = λ b. refl; queued = refl; taken = refl })
