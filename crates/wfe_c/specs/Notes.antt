-- What C is told of a seat's last call.
use Rattle.std.specs.Prelude.{List, MatchOption, None, Option, Some, if◌then◌else◌, length, min, nat_le, take, ℕ, ◌≡◌}
use Rattle.wfe_core.specs.Desks.{Notes}
use Rattle.wfe_core.specs.defs.declared.lifetime.Lifetime.{Lifetime}
use Rattle.wfe_c.specs.Called.{Lacks}
use Rattle.wfe_c.specs.Handle.{lack}
use Rattle.wfe_c.specs.Place.{seat_in}
use Rattle.wfe_c.specs.Told.{says_at}
use Rattle.wfe_c.specs.declared.answer.CAnswer.{CAnswer}
use Rattle.wfe_c.specs.declared.handle.SeatHandle.{SeatHandle}
use Rattle.wfe_c.specs.declared.joined.Joined.{Joined}
use Rattle.wfe_c.specs.declared.notes.CNotes.{CNotes}

-- a slot, or the greatest number of 32 bits where there is none
abbrev pub given_slot : Option (ℕ × ℕ) → ℕ
given_slot None = 4294967295
given_slot (Some given) = given.0

abbrev pub retired_slot : Option Lifetime → ℕ
retired_slot None = 4294967295
retired_slot (Some life) = life.slot

abbrev pub last_notes : Joined → Notes
last_notes joined = joined.seat.track.local.desk.notes

abbrev pub noted : Notes → CNotes
noted notes =
    record {
      code = 0;
      given = given_slot notes.given;
      retired = retired_slot notes.retired;
      unused = (if notes.unused then 1 else 0);
      early = notes.early;
      backs = length notes.back;
      steps = notes.steps;
    }

abbrev pub no_notes_for : ℕ → CNotes
no_notes_for code = record { code = code; given = 4294967295; retired = 4294967295; unused = 0; early = 0; backs = 0; steps = 0 }

pub record LacksNotes (before after : SeatHandle) (told : CNotes) : Type 0 where
  pub same : after ≡ before
  pub tells : told ≡ no_notes_for (lack before.state)

-- the seat stays there, and its notes are told
pub record HasNotes (old : Joined) (after : SeatHandle) (told : CNotes) : Type 0 where
  pub is : seat_in after.place.inside ≡ Some old
  pub tells : told ≡ noted (last_notes old)

abbrev pub IsNoted : SeatHandle → SeatHandle → CNotes → Type 0
IsNoted before after told = MatchOption (seat_in before.place.inside) (LacksNotes before after told) (λ old. HasNotes old after told)

-- how many there were, and whether there was room
abbrev pub backs_told : ℕ → ℕ → CAnswer
backs_told count room = says_at (if nat_le count room then 0 else 14) count

-- as many as there was room for are written, the first of them
abbrev pub IsWritten : List ℕ → List ℕ → List ℕ → Type 0
IsWritten backs slots written = take (min (length backs) (length slots)) written ≡ take (min (length backs) (length slots)) backs

-- the slots that went back are written, as many as there is room for, and how many there were is told; the code says where there
-- was too little room
pub record HasBacks (old : Joined) (after : SeatHandle) (slots written : List ℕ) (told : CAnswer) : Type 0 where
  pub is : seat_in after.place.inside ≡ Some old
  pub tells : told ≡ backs_told (length (last_notes old).back) (length slots)
  pub room : length written ≡ length slots
  pub first : IsWritten (last_notes old).back slots written

abbrev pub TellsBacks : SeatHandle → SeatHandle → List ℕ → List ℕ → CAnswer → Type 0
TellsBacks before after slots written told = MatchOption (seat_in before.place.inside) (Lacks before after told) (λ old. HasBacks old after slots written told)
