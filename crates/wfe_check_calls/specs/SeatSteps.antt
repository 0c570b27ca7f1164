-- What a record says of the steps of a seat.
use Rattle.std.specs.Prelude.{ℕ, Bool, false, ◌&&◌}
use Rattle.laws.specs.defs.declared.event.Event.{Event}
use Rattle.laws.specs.records.Record.{Past}
use Rattle.laws.specs.StateAt.{backs_by, backs_of, is_found, raised_by, raised_of, spanned_by, spanned_of}
use Rattle.laws.specs.StepLaw.{withdrawal_due}
use Rattle.wfe_check_calls.specs.declared.seat_steps.Seat.{Seat}

-- seat i
abbrev pub seat_of : (i : ℕ) → Past → Seat
seat_of i p = record { raised = raised_of i p; spanned = spanned_of i p; due = withdrawal_due i p; backs = backs_of i p }

-- one that has told nothing
abbrev pub new_seat : Seat
new_seat = record { raised = 0; spanned = false; due = false; backs = 0 }

-- after an event of it, where its helper word publishes or not
abbrev pub seat_by : (i : ℕ) → (helps : Bool) → Event → Seat → Seat
seat_by i helps event before = record {
  raised = raised_by i event before.spanned before.raised;
  spanned = spanned_by i event before.spanned;
  due = is_found event && helps;
  backs = backs_by event before.backs;
}
