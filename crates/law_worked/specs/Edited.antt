-- Records that are other than a worked one at a few lines, and the laws that refuse them.
use Rattle.std.specs.Prelude.{ℕ, ◌+◌, ◌==◌, Bool, true, false, if◌then◌else◌, List, [], ◌∷◌, ◌++◌}
use Rattle.wfe_core.specs.words.declared.config.Config.{Config}
use Rattle.wfe_core.specs.defs.Entry.{Entry}
use Rattle.law_worked.specs.Changed.{reads}
use Rattle.law_worked.specs.Judges.{Law, test_of}
use Rattle.law_worked.specs.Refusals.{laws}

-- a change of a record at a line, whose place is counted from 0 in the record before any change. `Before`: an entry is told before it;
-- `Instead`: in its place; `Without`: the line is not told; `Until`: the record ends before it
pub data Edit : Type 0 where
  Before : (place : ℕ) → Entry → Edit
  Instead : (place : ℕ) → Entry → Edit
  Without : (place : ℕ) → Edit
  Until : (place : ℕ) → Edit

-- what is told before the line
abbrev added_one : ℕ → Edit → List Entry → List Entry
added_one place (Edit.Before at entry) later = if at == place then entry ∷ later else later
added_one place edit later = later

abbrev added : ℕ → List Edit → List Entry
added place [] = []
added place (edit ∷ edits) = added_one place edit (added place edits)

-- the record ends before the line
abbrev ends_one : ℕ → Edit → Bool → Bool
ends_one place (Edit.Until at) ends = if at == place then true else ends
ends_one place edit ends = ends

abbrev ends : ℕ → List Edit → Bool
ends place [] = false
ends place (edit ∷ edits) = ends_one place edit (ends place edits)

-- the line, or what is told in its place
abbrev line_one : ℕ → Edit → List Entry → List Entry
line_one place (Edit.Instead at entry) line = if at == place then entry ∷ [] else line
line_one place (Edit.Without at) line = if at == place then [] else line
line_one place edit line = line

abbrev line_by : ℕ → List Edit → Entry → List Entry
line_by place [] entry = entry ∷ []
line_by place (edit ∷ edits) entry = line_one place edit (line_by place edits entry)

abbrev edited_from : List Edit → ℕ → List Entry → List Entry
edited_from edits place [] = added place edits
edited_from edits place (entry ∷ entries) = added place edits ++ (if ends place edits then [] else line_by place edits entry ++ edited_from edits (place + 1) entries)

abbrev pub edited : List Edit → List Entry → List Entry
edited edits lines = edited_from edits 0 lines

abbrev refuses_if : (taken : Bool) → Law → List Law → List Law
refuses_if true law others = others
refuses_if false law others = law ∷ others

-- of these laws those that refuse the record
abbrev pub refusing : Config → List Entry → List Law → List Law
refusing config lines [] = []
refusing config lines (law ∷ others) = refuses_if (reads (test_of config law) lines) law (refusing config lines others)

-- a record with its changes, and the laws that refuse what they make of it
pub record Wrong : Type 0 where
  pub config : Config
  pub lines : List Entry
  pub edits : List Edit
  pub laws : List Law

abbrev pub wrong : Config → List Entry → List Edit → List Law → Wrong
wrong config lines edits laws = record { config = config; lines = lines; edits = edits; laws = laws }

abbrev pub refused_by : Wrong → List Law
refused_by it = refusing it.config (edited it.edits it.lines) laws

abbrev pub named_by : Wrong → List Law
named_by it = it.laws
