-- A seat's lists as contracts see them: what they hold, and the room that was reserved for more.
use Rattle.std.specs.Prelude.{ℕ, ◌≡◌, ◌≤◌, ◌<◌, ◌+◌, ◌==◌, Bool, true, List, Option}
use Rattle.std.specs.List.{IsDistinct, list_any}
use Rattle.wfe_defs.specs.declared.lifetime.Lifetime.{Lifetime}
use Rattle.wfe_defs.specs.Shown.{Seen}
use Rattle.wfe_core.specs.CallReady.{slots_of}
use Rattle.wfe_core.specs.Desks.{Report, Notes}

-- a retire list of a table with so many slots besides the dummy's
pub record ListHeld : Type 0 where
  pub lives : List Lifetime
  pub slots : ℕ

-- no row is twice in the list, each is one of the table's, and there is room for all of them
pub record ListFits (lives : List Lifetime) (slots capacity : ℕ) : Type 0 where
  pub apart : IsDistinct ◌==◌ (slots_of lives)
  pub below : (slot : ℕ) → list_any (◌==◌ slot) (slots_of lives) ≡ true → slot < slots + 1
  pub room : slots + 1 ≤ capacity

-- a scan's report, with room for so many guards
pub record ReportHeld : Type 0 where
  pub read : List Seen
  pub kept : ℕ
  pub back : ℕ
  pub room : ℕ

-- a call's notes, with room for so many slots that go back
pub record NotesHeld : Type 0 where
  pub steps : ℕ
  pub given : Option (ℕ × ℕ)
  pub unused : Bool
  pub retired : Option Lifetime
  pub back : List ℕ
  pub early : ℕ
  pub room : ℕ

-- the report and the notes without their room
abbrev pub report_of : ReportHeld → Report
report_of held = record { read = held.read; kept = held.kept; back = held.back }

abbrev pub notes_of : NotesHeld → Notes
notes_of held =
    record {
      steps = held.steps;
      given = held.given;
      unused = held.unused;
      retired = held.retired;
      back = held.back;
      early = held.early;
    }
