-- A call that was made on a seat, with its events.
use Rattle.std.proofs.Common.{List, ap, refl, ℕ, ◌++◌, ◌∙◌, ◌≡◌}
use Rattle.wfe_table.specs.all.RunLaw.{events_of}
use Rattle.wfe_core.specs.Desks.{Notes}
use Rattle.wfe_core.specs.defs.declared.call.Answer.{Answer}
use Rattle.wfe_core.specs.defs.declared.call.Call.{Call}
use Rattle.wfe_core.specs.defs.declared.event.Event.{Event}
use Rattle.wfe_core.specs.words.declared.layout.Layout.{Layout}
use Rattle.wfe_table.specs.Calls.{IsMade, group_of}
use Rattle.wfe_table.specs.Public.{SeatNow}
use Rattle.wfe_server.specs.Working.{IsCalled}

-- the seat made the call, and its events were added
pub called : (layout : Layout) (old new : SeatNow) (call : Call) (answer : Answer) (buckets : ℕ) (notes : Notes) (before after : List Event) → buckets ≡ layout.config.buckets → notes ≡ new.track.local.desk.notes → IsMade layout old new call answer
    → after ≡ before ++ events_of buckets (record { call = call; answer = answer; notes = notes }) → IsCalled layout.config.buckets old.track call new.track before after
called layout old new call answer buckets notes before after b n made told = record {
  group = group_of call answer new;
  grows = made.ends.left.log;
  call_is = refl;
  told =
      told ∙ ap (λ (k : ℕ). before ++ events_of k (record { call = call; answer = answer; notes = notes })) b
      ∙ ap (λ (m : Notes). before ++ events_of layout.config.buckets (record { call = call; answer = answer; notes = m })) n;
  seat = made.ends.left.place.seat;
}
