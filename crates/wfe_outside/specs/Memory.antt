-- What sources and sinks in memory are seen as.
use Rattle.std.specs.Prelude.{ℕ, ◌+◌, ◌==◌, nat_lt, ◌&&◌, not, Bool, List, length}
use Rattle.std.specs.List.{list_any}

-- a source: the bytes left, the numbers of the calls that fail, how many calls there were, and how many failed
pub record Reader : Type 0 where
  pub left : List ℕ
  pub fails : List ℕ
  pub calls : ℕ
  pub faults : ℕ

-- a sink: the bytes written, room in bytes for all of them, and the rest as for a source
pub record Writer : Type 0 where
  pub written : List ℕ
  pub room : ℕ
  pub fails : List ℕ
  pub calls : ℕ
  pub faults : ℕ

-- the call's number is among those that fail
abbrev pub is_named : List ℕ → ℕ → Bool
is_named fails call = list_any (λ n. n == call) fails

-- the next call after so many is among those that fail; the count of calls stands still at the greatest number of 64 bits
abbrev pub is_next_named : List ℕ → ℕ → Bool
is_next_named fails calls = nat_lt calls 18446744073709551615 && is_named fails (calls + 1)

-- there is a byte to write, and no room for it
abbrev pub has_no_room : Writer → List ℕ → Bool
has_no_room sink piece = sink.room == length sink.written && not (length piece == 0)
