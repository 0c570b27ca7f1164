-- How calls are read, word by word.
use Rattle.std.specs.Prelude.{List, [], ◌∷◌, ℕ, codes}
use Rattle.wfe_words.specs.declared.config.Config.{Config}
use Rattle.wfe_defs.specs.declared.call.Call.{Call}
use Rattle.wfe_defs.specs.declared.call.Call.TheVariants as calls
use Rattle.wfe_record_words.specs.Reader.{Read, ◌>>=◌, done, one, two, three, first, long, seat, index, Named, by, unknown, since}

-- the calls that each version has
abbrev pub call_table : List (Named Call)
call_table =
    (codes "get", one long calls.Get) ∷ (codes "put", two long long calls.Put) ∷ (codes "remove", one long calls.Remove)
    ∷ (codes "enq", one long calls.Enqueue) ∷ (codes "deq", done calls.Dequeue) ∷ (codes "hold", one long calls.Hold)
    ∷ (codes "release", done calls.Release) ∷ (codes "advance", done calls.Advance) ∷ (codes "scan", done calls.Scan) ∷ []

-- the calls that came later
abbrev pub later_call_table : ℕ → Config → List (Named Call)
later_call_table version config =
    (codes "copy", since 2 version (two (index config) (index config) calls.Copy))
    ∷ (codes "drop", since 2 version (one (index config) calls.DropIndex))
    ∷ (codes "look", since 2 version (two (index config) long calls.Look))
    ∷ (codes "put_if", since 3 version (three long long long calls.PutIf)) ∷ []

abbrev pub leaving_call_table : ℕ → Config → List (Named Call)
leaving_call_table version config =
    (codes "leave", since 4 version (done calls.Leave)) ∷ (codes "adopt", since 4 version (one (seat config) calls.Adopt)) ∷ []

unfoldable pub leaving_call_by : ℕ → Config → List ℕ → Read Call
leaving_call_by version config w = by (leaving_call_table version config) unknown w

unfoldable pub later_call_by : ℕ → Config → List ℕ → Read Call
later_call_by version config w = by (later_call_table version config) (leaving_call_by version config) w

unfoldable pub call_by : ℕ → Config → List ℕ → Read Call
call_by version config w = by call_table (later_call_by version config) w

abbrev pub call : ℕ → Config → Read Call
call version config = do
  w ← first
  call_by version config w
