use Rattle.std.proofs.Common.{◌≡◌, ◌≤◌, ◌+◌, length, take}
use Rattle.wfe_core.specs.Desks.{noted_all}
use Rattle.wfe_core.specs.Held.{notes_of}
use Rattle.wfe_core.proofs.desk.Notes.note_all.Given as goal

abbrev pub invariant-loop-place : goal.invariant-loop-place
invariant-loop-place l =
    record {
      notes : notes_of l.self ≡ noted_all (notes_of l.initial.self) (take l.place l.told);
      room : l.initial.self.room ≤ l.self.room;
      back : length l.self.back ≤ length l.initial.self.back + l.place;
    }
