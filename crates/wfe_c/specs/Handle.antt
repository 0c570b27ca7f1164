-- The code of a handle that lacks what a call wants.
use Rattle.std.specs.Prelude.{if◌then◌else◌, ℕ, ◌==◌}

-- a seat, by the handle's state: it has left, there is no handle, its table is closed, or none was there
abbrev pub lack : ℕ → ℕ
lack state = if state == 2 then 2 else if state == 3 then 3 else if state == 4 then 29 else 1

-- a closed table: a seat is there, whose table is not closed, or no seat either
abbrev pub unclosed : ℕ → ℕ
unclosed state = if state == 1 then 30 else lack state
