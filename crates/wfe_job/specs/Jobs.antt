-- The job that words ask for.
use Rattle.std.specs.Prelude.{ℕ, List, [], ◌∷◌, Option, None, Some, if◌then◌else◌, nat_le, codes}
use Rattle.std.specs.Str.{bytes_eq}
use Rattle.wfe_job.specs.declared.job.Job.{Job}
use Rattle.wfe_job.specs.declared.job.Job.TheVariants as jobs
use Rattle.wfe_trace.specs.Words.{number_in}

-- turns that a generated trace has at most
abbrev pub most_turns : ℕ
most_turns = 100000

-- a generated trace, where there are not too many turns
abbrev pub with_turns : ℕ → Option ℕ → Option Job
with_turns seed None = None
with_turns seed (Some turns) = if nat_le turns most_turns then Some (jobs.Generate seed turns) else None

-- a generated trace, where the seed and the turns are numbers
abbrev pub generate_of : Option ℕ → Option ℕ → Option Job
generate_of None turns = None
generate_of (Some seed) turns = with_turns seed turns

-- the job of one word
abbrev pub named : List ℕ → Option Job
named word =
    if bytes_eq word (codes "replay") then Some jobs.Replay
    else if bytes_eq word (codes "run") then Some jobs.Run
    else if bytes_eq word (codes "check") then Some jobs.Check
    else None

-- the words are `replay`, `run` or `check` alone, or `gen` with a seed and a number of turns
abbrev pub asked : List (List ℕ) → Option Job
asked [] = None
asked (word ∷ []) = named word
asked (word ∷ seed ∷ []) = None
asked (word ∷ seed ∷ turns ∷ []) = if bytes_eq word (codes "gen") then generate_of (number_in seed) (number_in turns) else None
asked (word ∷ seed ∷ turns ∷ more ∷ words) = None
