use Rattle.std.proofs.Common.{◌≡◌, ◌∙◌, ap, sym, true, false, List, map, Global, String, Bool}
use Rattle.std.specs.List.{list_any}
use Rattle.std.specs.Prelude.{string_bytes}
use Rattle.clap.proofs.WalkLemmas.{list_any-map}
use Rattle.wfe_job.specs.Words.{begins_with_hyphen, job_of_rows}
use Rattle.wfe_job.proofs.Asked.{hyphen_asks, refused, taken}
use Rattle.wfe_job.proofs.job.job_of.Goals as goal

-- the test of the words is that of their texts
as_texts : (words : List (String Global)) (flag test : Bool) → flag ≡ list_any (λ word. begins_with_hyphen (string_bytes word)) words → flag ≡ test
    → list_any begins_with_hyphen (map string_bytes words) ≡ test
as_texts words flag test is answer = sym (list_any-map begins_with_hyphen string_bytes words) ∙ sym is ∙ answer

pub returns-then-has_hyphen : goal.returns-then-has_hyphen
returns-then-has_hyphen c =
    record { job = sym (hyphen_asks (map string_bytes c.args.words.now) (as_texts c.args.words.now _ true c.has_hyphen.ensures c.if-has_hyphen.true)) }

pub returns-in-Some : goal.returns-in-Some
returns-in-Some c =
    let found = rw c.in-Some.is at c.in_ok-matches.ensures.matches in
    let plain = as_texts c.args.words.now _ false c.has_hyphen.ensures c.if-has_hyphen.false in
    record { job = c.job_in.ensures ∙ ap job_of_rows found.1 ∙ taken (map string_bytes c.args.words.now) plain found.0 }

pub returns-in-None : goal.returns-in-None
returns-in-None c =
    let found = rw c.in-None.is at c.in_ok-matches.ensures.matches in
    let plain = as_texts c.args.words.now _ false c.has_hyphen.ensures c.if-has_hyphen.false in
    record { job = sym (refused (map string_bytes c.args.words.now) plain found) }
