use Rattle.std.proofs.Common.{◌≡◌, ◌∙◌, ap, ap₂, sym, refl, codes, List, Option, Some, None}
use Rattle.std.specs.Borrow.{Bor}
use Rattle.std.specs.Option.{option_map}
use Rattle.clap.specs.Words.{Row, Text, first_of, first_value, found_of, rows_of}
use Rattle.clap.specs.declared.parser.matches.ArgMatches.{ArgMatches}
use Rattle.clap.proofs.WalkLemmas.{first_value-rows}
use Rattle.wfe_job.specs.Jobs.{generate_of}
use Rattle.wfe_job.specs.Words.{generate_of_rows}
use Rattle.wfe_trace.specs.Words.{number_in}
use Rattle.wfe_job.proofs.job.generate_in.Goals as goal

-- what a getter gave is what the rows have
got : (m : ArgMatches) (id : Text) (r : Option (Bor Text)) (text : Option Text) → option_map (λ s. s.now) r ≡ first_value (found_of m) id
    → option_map (λ s. s.now) r ≡ text → first_of id (rows_of (found_of m)) ≡ text
got m id r text is answer = sym (first_value-rows (found_of m) id) ∙ sym is ∙ answer

no_seed : (rows : List Row) → first_of (codes "SEED") rows ≡ None → generate_of_rows rows ≡ None
no_seed rows seed = rw seed refl

no_turns : (rows : List Row) (s : Text) → first_of (codes "SEED") rows ≡ Some s → first_of (codes "N") rows ≡ None → generate_of_rows rows ≡ None
no_turns rows s seed turns = rw (seed, turns) refl

both : (rows : List Row) (s t : Text) → first_of (codes "SEED") rows ≡ Some s → first_of (codes "N") rows ≡ Some t
    → generate_of_rows rows ≡ generate_of (number_in s) (number_in t)
both rows s t seed turns = rw (seed, turns) refl

pub returns-in_err-seed : goal.returns-in_err-seed
returns-in_err-seed c =
    let m = c.args.matches.now in
    let none = got m (codes "SEED") c.get_str.result None c.get_str.ensures (ap (option_map (λ s. s.now)) c.in_err-seed.was) in
    c.from_residual.ensures ∙ sym (no_seed (rows_of (found_of m)) none)

pub returns-in_err-turns : goal.returns-in_err-turns
returns-in_err-turns c =
    let m = c.args.matches.now in
    let s = c.in_ok-seed.seed.now in
    let seed = got m (codes "SEED") c.get_str.result (Some s) c.get_str.ensures (ap (option_map (λ s. s.now)) c.in_ok-seed.was) in
    let none = got m (codes "N") c.get_str-2.result None c.get_str-2.ensures (ap (option_map (λ s. s.now)) c.in_err-turns.was) in
    c.from_residual-in_err-turns.ensures ∙ sym (no_turns (rows_of (found_of m)) s seed none)

pub returns : goal.returns
returns c =
    let m = c.args.matches.now in
    let s = c.in_ok-seed.seed.now in
    let t = c.in_ok-turns.turns.now in
    let seed = got m (codes "SEED") c.get_str.result (Some s) c.get_str.ensures (ap (option_map (λ s. s.now)) c.in_ok-seed.was) in
    let turns = got m (codes "N") c.get_str-2.result (Some t) c.get_str-2.ensures (ap (option_map (λ s. s.now)) c.in_ok-turns.was) in
    c.generate_job.ensures ∙ ap₂ (λ (a b : Text). generate_of (number_in a) (number_in b)) c.as_bytes.ensures.value c.as_bytes-2.ensures.value
    ∙ sym (both (rows_of (found_of m)) s t seed turns)
