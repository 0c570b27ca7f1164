-- What a seat keeps beside its post: its retire list, and what its last scan and its last call told.
use Rattle.std.specs.Prelude.{ℕ, Bool, true, false, List, [], ◌∷◌, ◌++◌, length, Option, Some, None}
use Rattle.wfe_defs.specs.declared.event.Event.{Event}
use Rattle.wfe_defs.specs.declared.event.Event.TheVariants as events
use Rattle.wfe_defs.specs.declared.lifetime.Lifetime.{Lifetime}
use Rattle.wfe_defs.specs.Shown.{Seen}

-- a scan: the guards read so far, how many lives stay, and how many went back
pub record Report : Type 0 where
  pub read : List Seen
  pub kept : ℕ
  pub back : ℕ

-- a call: its steps, the row given with its birth era, whether it was given up, the life retired, the slots that went
-- back, and how many of them before the row was given
pub record Notes : Type 0 where
  pub steps : ℕ
  pub given : Option (ℕ × ℕ)
  pub unused : Bool
  pub retired : Option Lifetime
  pub back : List ℕ
  pub early : ℕ

-- `gift` is the list that the seat takes over in its next step, if that step takes one: a World lays it here before the
-- step, and nothing else reads it
pub record Desk : Type 0 where
  pub list : List Lifetime
  pub report : Report
  pub notes : Notes
  pub gift : List Lifetime

abbrev pub no_report : Report
no_report = record { read = []; kept = 0; back = 0 }

abbrev pub no_notes : Notes
no_notes = record { steps = 0; given = None; unused = false; retired = None; back = []; early = 0 }

abbrev pub new_desk : Desk
new_desk = record { list = []; report = no_report; notes = no_notes; gift = [] }

-- the notes with one event more
abbrev pub noted : Notes → Event → Notes
noted notes (events.Give slot birth) = record notes { given = Some (slot, birth); early = length notes.back }
noted notes (events.Unused slot) = record notes { unused = true }
noted notes (events.Retire slot birth retire) = record notes { retired = Some (record { slot = slot; birth = birth; retire = retire }) }
noted notes (events.Back slot) = record notes { back = notes.back ++ slot ∷ [] }
noted notes (events.End steps answer) = record notes { steps = steps }
noted notes event = notes

-- the notes with these events more
abbrev pub noted_all : Notes → List Event → Notes
noted_all notes [] = notes
noted_all notes (event ∷ told) = noted_all (noted notes event) told

-- a life goes on the list
abbrev pub with_life : Desk → Lifetime → Desk
with_life desk life = record desk { list = desk.list ++ life ∷ [] }

-- a list that was left goes to the end of the seat's own
abbrev pub with_gift : Desk → Desk
with_gift desk = record desk { list = desk.list ++ desk.gift; gift = [] }

-- the desk with these events noted
abbrev pub noting : Desk → List Event → Desk
noting desk told = record desk { notes = noted_all desk.notes told }
