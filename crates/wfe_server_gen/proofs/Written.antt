-- Lines one after the other: what is written so far, and what is left.
use Rattle.std.proofs.Common.{List, [], ap, drop, get_or, sym, ℕ, ◌+◌, ◌++◌, ◌<◌, ◌∙◌, ◌≡◌}
use Rattle.std.proofs.lemmas.List.{drop_more}
use Rattle.wfe_trace.specs.Record.{count_line}
use Rattle.wfe_server_gen.specs.declared.summary.Summary.{Summary}
use Rattle.wfe_server_gen.specs.Report.{count_lines, named}

-- the next line of the numbers, and those after it
pub counts_more : (s : Summary) (place : ℕ) (name : List ℕ) (number : ℕ) → place < 10 → (name, number) ≡ get_or (named s) place ([], 0) → count_lines (drop place (named s)) ≡ count_line name number ++ count_lines (drop (place + 1) (named s))
counts_more s place name number within e =
    ap count_lines (drop_more (named s) place ([], 0) within) ∙ ap (λ (x : List ℕ × ℕ). count_line x.0 x.1 ++ count_lines (drop (place + 1) (named s))) (sym e)

pub counts_over : (s : Summary) (place : ℕ) → place ≡ 10 → count_lines (drop place (named s)) ≡ []
counts_over s place e = ap (λ (n : ℕ). count_lines (drop n (named s))) e
