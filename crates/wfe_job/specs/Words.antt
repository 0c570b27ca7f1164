-- The command of the words as `clap` is told of it, and what its matches ask for.
use Rattle.std.specs.Prelude.{Bool, true, false, ◌==◌, List, [], ◌∷◌, Option, None, Some, if◌then◌else◌, codes}
use Rattle.std.specs.Str.{bytes_eq}
use Rattle.clap.specs.Words.{App, Row, Rule, Text, first_of, new_app, new_rule, with_rule, with_subcommand}
use Rattle.wfe_job.specs.Jobs.{generate_of}
use Rattle.wfe_job.specs.declared.job.Job.{Job}
use Rattle.wfe_job.specs.declared.job.Job.TheVariants as jobs
use Rattle.wfe_trace.specs.Words.{number_in}

-- the word begins with a hyphen
abbrev pub begins_with_hyphen : Text → Bool
begins_with_hyphen [] = false
begins_with_hyphen (c ∷ cs) = c == 45

-- an argument that has to be there
abbrev pub needed : Text → Rule
needed id = record (new_rule id) { required = true }

-- `gen`, with a seed and a number of turns
abbrev pub gen_app : App
gen_app = with_rule (with_rule (new_app (codes "gen")) (needed (codes "SEED"))) (needed (codes "N"))

-- the program's name, before it has commands: it needs one, and has no help
abbrev pub bare_app : App
bare_app =
    let a = new_app (codes "wfe") in
    record a {
      top = record a.top {
        no_binary_name = true;
        disable_help_flag = true;
        disable_help_subcommand = true;
        subcommand_required = true;
      };
    }

-- the program with its commands
abbrev pub wfe_app : App
wfe_app =
    with_subcommand (with_subcommand (with_subcommand (with_subcommand bare_app (new_app (codes "replay")).top) (new_app (codes "run")).top) (new_app (codes "check")).top) gen_app.top

-- a generated trace, where both words are there
abbrev pub generate_from : Option Text → Option Text → Option Job
generate_from None turns = None
generate_from (Some seed) None = None
generate_from (Some seed) (Some turns) = generate_of (number_in seed) (number_in turns)

-- the job of the words of `gen`
abbrev pub generate_of_rows : List Row → Option Job
generate_of_rows rows = generate_from (first_of (codes "SEED") rows) (first_of (codes "N") rows)

-- the job of a command and its words
abbrev pub job_of_rows : Option (Text × List Row) → Option Job
job_of_rows None = None
job_of_rows (Some p) =
    if bytes_eq p.0 (codes "replay") then Some jobs.Replay
    else if bytes_eq p.0 (codes "run") then Some jobs.Run
    else if bytes_eq p.0 (codes "check") then Some jobs.Check
    else if bytes_eq p.0 (codes "gen") then generate_of_rows p.1 else None
