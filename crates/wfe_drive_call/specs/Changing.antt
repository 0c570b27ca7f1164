-- The states of a seat whose call is a change, and what its code keeps, as in the model.
use Rattle.std.specs.Prelude.{[], None, Option, false, length, nat_lt, ℕ}
use Rattle.wfe_core.specs.defs.declared.fold.Change.{Change}
use Rattle.wfe_core.specs.Calls.{ChangeAt, ChangeKept, Changes, Changing, Fills, Next, Runs, Works}
use Rattle.wfe_core.specs.Change.{deciding, new_row, reading}
use Rattle.wfe_core.specs.Desks.{Desk}
use Rattle.wfe_core.specs.Phases.{Base}
use Rattle.wfe_core.specs.Phases.Base.{Write}
use Rattle.wfe_core.specs.Steps.{run_turn}
use Rattle.wfe_core.specs.WriteRow.{after_write}
use Rattle.wfe_core.specs.declared.post.Post.{Post}
use Rattle.wfe_drive_runs.specs.drive_words.drive_cells.Unit.{SeatView, kept_desk, seat_after}
use Rattle.wfe_drive_runs.specs.Pieces.{clearing_at}
use Rattle.wfe_drive_call.specs.declared.kept.Kept.{Kept}

abbrev pub kept_of : Kept → ChangeKept
kept_of kept = record { change = kept.change; wanted = kept.wanted; taken = kept.taken; walked = kept.walked; link = kept.link; version = kept.version; pairs = kept.pairs }

-- what a change keeps before its first round
abbrev pub first_kept : Change → (wanted : Option ℕ) → ChangeKept
first_kept change wanted = record { change = change; wanted = wanted; taken = None; walked = false; link = 0; version = 0; pairs = [] }

-- the post after so many steps of the call
abbrev pub step_post : Post → ℕ → Post
step_post post steps = record post { steps = steps }

-- a step of the change's own is to come
abbrev pub works_at : ChangeKept → ChangeAt → Post → Desk → SeatView
works_at kept at post desk = record { phase = Works (Changing kept at); post = post; desk = kept_desk desk }

-- the next pair is to be read, if there is one
abbrev pub pairs_at : ChangeKept → (slot count : ℕ) → Post → Desk → SeatView
pairs_at kept slot count post desk = seat_after (reading kept slot count post (kept_desk desk) (nat_lt (length kept.pairs) count))

-- the row is read, and the change is decided
abbrev pub read_at : ChangeKept → Post → Desk → SeatView
read_at kept post desk = seat_after (deciding kept post (kept_desk desk) [])

-- a row is to be taken, or written
abbrev pub fills_at : ChangeKept → Base → Post → Desk → SeatView
fills_at kept base post desk = record { phase = Runs (Fills (Changes kept)) base; post = post; desk = kept_desk desk }

-- the word at a place is to be written
abbrev pub writes_at : ChangeKept → (slot place : ℕ) → Post → Desk → SeatView
writes_at kept slot place post desk = fills_at kept (Write slot (new_row kept) place) post desk

-- and was
abbrev pub wrote_at : ChangeKept → (slot place : ℕ) → Post → Desk → SeatView
wrote_at kept slot place post desk = seat_after (run_turn (Fills (Changes kept)) (kept_desk desk) (after_write slot (new_row kept) place post))

-- the root's index is to be cleared
abbrev pub clears_at : ChangeKept → Next → Post → Desk → SeatView
clears_at kept next post desk = clearing_at (Changes kept) next post desk
