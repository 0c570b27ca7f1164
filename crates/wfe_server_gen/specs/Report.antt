-- The lines of a summary.
use Rattle.std.specs.Prelude.{List, [], codes, ℕ, ◌++◌, ◌∷◌}
use Rattle.wfe_trace.specs.Record.{count_line}
use Rattle.wfe_server_gen.specs.declared.summary.Summary.{Summary}

-- the names and the numbers
abbrev pub named : Summary → List (List ℕ × ℕ)
named s =
    (codes "units", s.units) ∷ (codes "calls", s.calls) ∷ (codes "puts", s.puts) ∷ (codes "removed", s.removed) ∷ (codes "gots", s.gots)
    ∷ (codes "queued", s.queued) ∷ (codes "taken", s.taken) ∷ (codes "retired", s.retired) ∷ (codes "back", s.back) ∷ (codes "clock", s.clock) ∷ []

-- a line for each
abbrev pub count_lines : List (List ℕ × ℕ) → List ℕ
count_lines [] = []
count_lines (x ∷ xs) = count_line x.0 x.1 ++ count_lines xs

-- the lines of the numbers
unfoldable pub summary_lines : Summary → List ℕ
summary_lines s = count_lines (named s)

-- the numbers, then the watchers' lines, and then the last line
abbrev pub report : Summary → (watched : List ℕ) → List ℕ
report s watched = summary_lines s ++ (watched ++ codes "done\n")
