-- Which words the command takes, and which job its matches ask for.
use Rattle.std.proofs.Common.{◌≡◌, ◌∙◌, false, refl, ap, ap₂, sym, List, [], ◌∷◌, ◌++◌, fold, None, Some, codes, is_some}
use Rattle.std.specs.Str.{bytes_eq}
use Rattle.clap.specs.Words.{App, Kinds, Shape, Text, built, fault_of, new_app, subcommand_of}
use Rattle.clap.specs.Walk.{Walk, finished, idle, nothing_held, settled, subcommand_met, walk, walk_from, walked}
use Rattle.clap.specs.Simple.{built_leaf, entered, inherited, marked_built, names_of, with_leaf_noted}
use Rattle.clap.specs.Kinds.{or_else}
use Rattle.clap.specs.Faults.{check_fault, defaults_fault, entered_fault, level_fault, settle_fault, walk_fault}
use Rattle.clap.specs.declared.error.kind.ErrorKind.TheVariants.{UnknownArgument, InvalidSubcommand}
use Rattle.clap.proofs.OnLiterals.{clap_on_literals}
use Rattle.clap.proofs.WalkLemmas.{walk_stopped}
use Rattle.wfe_job.proofs.Plain.{IsPlain, fault_next, walk_at, walk_next, walk_past}
use Rattle.wfe_job.specs.Words.{gen_app, job_of_rows, wfe_app}
use Rattle.wfe_job.specs.Jobs.{generate_of}
use Rattle.wfe_job.specs.declared.job.Job.TheVariants as jobs
use Rattle.wfe_trace.specs.Words.{number_in}

-- the program as it is built, and its four commands
abbrev app : App
app = built wfe_app

abbrev leaf : Shape → Shape
leaf s = built_leaf (inherited (with_leaf_noted (marked_built wfe_app.top)) s)

abbrev replay : Shape
replay = leaf (new_app (codes "replay")).top

abbrev run : Shape
run = leaf (new_app (codes "run")).top

abbrev check : Shape
check = leaf (new_app (codes "check")).top

abbrev gen : Shape
gen = leaf gen_app.top

-- the walk once it met a command, with the words that are left to it
abbrev left : Text → List Text → Walk
left name words = record (walk_at nothing_held 1) { stopped = Some (name, words) }

met_gen : (rest : List Text) → walk app.top.rules (names_of app) nothing_held (codes "gen" ∷ rest) ≡ left (codes "gen") rest
unfolding clap_on_literals
met_gen rest = sym (walk_stopped app.top.rules (names_of app) (walk_at nothing_held 1) (codes "gen") [] rest)

met_replay : (rest : List Text) → walk app.top.rules (names_of app) nothing_held (codes "replay" ∷ rest) ≡ left (codes "replay") rest
unfolding clap_on_literals
met_replay rest = sym (walk_stopped app.top.rules (names_of app) (walk_at nothing_held 1) (codes "replay") [] rest)

met_run : (rest : List Text) → walk app.top.rules (names_of app) nothing_held (codes "run" ∷ rest) ≡ left (codes "run") rest
unfolding clap_on_literals
met_run rest = sym (walk_stopped app.top.rules (names_of app) (walk_at nothing_held 1) (codes "run") [] rest)

met_check : (rest : List Text) → walk app.top.rules (names_of app) nothing_held (codes "check" ∷ rest) ≡ left (codes "check") rest
unfolding clap_on_literals
met_check rest = sym (walk_stopped app.top.rules (names_of app) (walk_at nothing_held 1) (codes "check") [] rest)

-- the words left to a command are no fault of the program's own
left_pass : (name : Text) (seen words : List Text) → walk_fault app.top (names_of app) (left name seen) words ≡ []
unfolding clap_on_literals
left_pass name seen [] = refl
left_pass name seen (w ∷ ws) = left_pass name (seen ++ w ∷ []) ws

or_else-nil : (ks : Kinds) → or_else ks [] ≡ ks
or_else-nil [] = refl
or_else-nil (k ∷ ks) = refl

-- the kinds of the program's own level, by those of its walk and where it ends
abbrev own : Kinds → Walk → Kinds
own f w =
    or_else f (or_else (entered_fault app w.stopped) (or_else (settle_fault app.top.rules app.top.args_override_self w.held)
    (or_else (defaults_fault (settled app.top.rules w.held).rows app.top.rules)
    (check_fault app.top (finished app.top.rules w.held) (is_some (entered app w.stopped))))))

gen_fault : (rest : List Text) → fault_of wfe_app (codes "gen" ∷ rest) ≡ level_fault gen [] nothing_held rest false []
unfolding clap_on_literals
gen_fault rest =
    ap₂ own (left_pass (codes "gen") [] rest) (met_gen rest) ∙ or_else-nil (level_fault gen [] nothing_held rest false [])

replay_fault : (rest : List Text) → fault_of wfe_app (codes "replay" ∷ rest) ≡ level_fault replay [] nothing_held rest false []
unfolding clap_on_literals
replay_fault rest =
    ap₂ own (left_pass (codes "replay") [] rest) (met_replay rest) ∙ or_else-nil (level_fault replay [] nothing_held rest false [])

run_fault : (rest : List Text) → fault_of wfe_app (codes "run" ∷ rest) ≡ level_fault run [] nothing_held rest false []
unfolding clap_on_literals
run_fault rest =
    ap₂ own (left_pass (codes "run") [] rest) (met_run rest) ∙ or_else-nil (level_fault run [] nothing_held rest false [])

check_fault_of : (rest : List Text) → fault_of wfe_app (codes "check" ∷ rest) ≡ level_fault check [] nothing_held rest false []
unfolding clap_on_literals
check_fault_of rest =
    ap₂ own (left_pass (codes "check") [] rest) (met_check rest) ∙ or_else-nil (level_fault check [] nothing_held rest false [])

-- ---- a command's own words

-- the kinds of a command's level, by those of its walk and where it ends
abbrev own_of : Shape → Kinds → Walk → Kinds
own_of s f w =
    or_else f (or_else (settle_fault s.rules s.args_override_self w.held)
    (or_else (defaults_fault (settled s.rules w.held).rows s.rules) (check_fault s (finished s.rules w.held) false)))

-- a list of kinds that has one
abbrev pub IsFault : Kinds → Type 0
IsFault ks = ks ≡ [] → ⊥

-- `replay` takes no word
pub replay_word : (word : Text) (rest : List Text) → IsPlain word → IsFault (fault_of wfe_app (codes "replay" ∷ word ∷ rest))
replay_word word rest p e =
    let all : Kinds = own_of replay (or_else (UnknownArgument ∷ []) (walk_fault replay [] (walk_past replay.rules nothing_held 1 word) rest))
    (walk replay.rules [] nothing_held (word ∷ rest)) in
    let is : all ≡ [] =
    sym (ap (λ f. own_of replay f (walk replay.rules [] nothing_held (word ∷ rest))) (fault_next word p [] refl replay nothing_held 1 rest))
    ∙ sym (replay_fault (word ∷ rest)) ∙ e in
    cc

pub replay_alone : fault_of wfe_app (codes "replay" ∷ []) ≡ []
unfolding clap_on_literals
replay_alone = refl

pub replay_job : job_of_rows (subcommand_of wfe_app (codes "replay" ∷ [])) ≡ Some jobs.Replay
unfolding clap_on_literals
replay_job = refl

-- nor does `run`
pub run_word : (word : Text) (rest : List Text) → IsPlain word → IsFault (fault_of wfe_app (codes "run" ∷ word ∷ rest))
run_word word rest p e =
    let all : Kinds = own_of run (or_else (UnknownArgument ∷ []) (walk_fault run [] (walk_past run.rules nothing_held 1 word) rest))
    (walk run.rules [] nothing_held (word ∷ rest)) in
    let is : all ≡ [] =
    sym (ap (λ f. own_of run f (walk run.rules [] nothing_held (word ∷ rest))) (fault_next word p [] refl run nothing_held 1 rest))
    ∙ sym (run_fault (word ∷ rest)) ∙ e in
    cc

pub run_alone : fault_of wfe_app (codes "run" ∷ []) ≡ []
unfolding clap_on_literals
run_alone = refl

pub run_job : job_of_rows (subcommand_of wfe_app (codes "run" ∷ [])) ≡ Some jobs.Run
unfolding clap_on_literals
run_job = refl

-- nor does `check`
pub check_word : (word : Text) (rest : List Text) → IsPlain word → IsFault (fault_of wfe_app (codes "check" ∷ word ∷ rest))
check_word word rest p e =
    let all : Kinds = own_of check (or_else (UnknownArgument ∷ []) (walk_fault check [] (walk_past check.rules nothing_held 1 word) rest))
    (walk check.rules [] nothing_held (word ∷ rest)) in
    let is : all ≡ [] =
    sym (ap (λ f. own_of check f (walk check.rules [] nothing_held (word ∷ rest))) (fault_next word p [] refl check nothing_held 1 rest))
    ∙ sym (check_fault_of (word ∷ rest)) ∙ e in
    cc

pub check_alone : fault_of wfe_app (codes "check" ∷ []) ≡ []
unfolding clap_on_literals
check_alone = refl

pub check_job : job_of_rows (subcommand_of wfe_app (codes "check" ∷ [])) ≡ Some jobs.Check
unfolding clap_on_literals
check_job = refl

-- `gen` wants both words
pub gen_alone : IsFault (fault_of wfe_app (codes "gen" ∷ []))
unfolding clap_on_literals
gen_alone e = cc

-- after the seed, and after the number of turns
abbrev seeded : Text → Walk
seeded seed = walk_past gen.rules nothing_held 1 seed

abbrev turned : Text → Text → Walk
turned seed turns = walk_past gen.rules (seeded seed).held 2 turns

module _ (seed : Text) (plain : IsPlain seed) where
  seed_fault : (rest : List Text) → walk_fault gen [] (walk_from nothing_held) (seed ∷ rest) ≡ walk_fault gen [] (seeded seed) rest
  seed_fault rest = fault_next seed plain [] refl gen nothing_held 1 rest

  seed_walk : (rest : List Text) → walk gen.rules [] nothing_held (seed ∷ rest) ≡ fold (walked gen.rules []) (seeded seed) rest
  seed_walk rest = ap (λ (w : Walk). fold (walked gen.rules []) w rest) (walk_next seed plain [] refl gen.rules nothing_held 1)

  pub gen_seed : IsFault (fault_of wfe_app (codes "gen" ∷ seed ∷ []))
  unfolding clap_on_literals
  gen_seed e =
      let is : own_of gen [] (seeded seed) ≡ [] = sym (gen_fault (seed ∷ []) ∙ ap₂ (own_of gen) (seed_fault []) (seed_walk [])) ∙ e in
      cc

  module _ (turns : Text) (plain_turns : IsPlain turns) where
    turns_fault : (rest : List Text) → walk_fault gen [] (walk_from nothing_held) (seed ∷ turns ∷ rest) ≡ walk_fault gen [] (turned seed turns) rest
    turns_fault rest = seed_fault (turns ∷ rest) ∙ fault_next turns plain_turns [] refl gen (seeded seed).held 2 rest

    turns_walk : (rest : List Text) → walk gen.rules [] nothing_held (seed ∷ turns ∷ rest) ≡ fold (walked gen.rules []) (turned seed turns) rest
    turns_walk rest =
        seed_walk (turns ∷ rest) ∙ ap (λ (w : Walk). fold (walked gen.rules []) w rest) (walk_next turns plain_turns [] refl gen.rules (seeded seed).held 2)

    pub gen_both : fault_of wfe_app (codes "gen" ∷ seed ∷ turns ∷ []) ≡ []
    unfolding clap_on_literals
    gen_both = gen_fault (seed ∷ turns ∷ []) ∙ ap₂ (own_of gen) (turns_fault []) (turns_walk [])

    pub gen_job : job_of_rows (subcommand_of wfe_app (codes "gen" ∷ seed ∷ turns ∷ [])) ≡ generate_of (number_in seed) (number_in turns)
    unfolding clap_on_literals
    gen_job =
        ap (λ (w : Walk). job_of_rows (entered app w.stopped)) (met_gen (seed ∷ turns ∷ []))
        ∙ ap (λ (w : Walk). job_of_rows (Some (codes "gen", finished gen.rules w.held))) (turns_walk [])

    pub gen_word : (word : Text) (rest : List Text) → IsPlain word → IsFault (fault_of wfe_app (codes "gen" ∷ seed ∷ turns ∷ word ∷ rest))
    gen_word word rest p e =
        let all = walk gen.rules [] nothing_held (seed ∷ turns ∷ word ∷ rest) in
        let last : Kinds = walk_fault gen [] (walk_past gen.rules (turned seed turns).held 3 word) rest in
        let is : own_of gen (or_else (UnknownArgument ∷ []) last) all ≡ [] =
        sym (ap (λ f. own_of gen f all) (turns_fault (word ∷ rest) ∙ fault_next word p [] refl gen (turned seed turns).held 3 rest))
        ∙ sym (gen_fault (seed ∷ turns ∷ word ∷ rest)) ∙ e in
        cc

-- ---- other words

pub other_word : (word : Text) (rest : List Text) → IsPlain word → bytes_eq (codes "replay") word ≡ false → bytes_eq (codes "run") word ≡ false → bytes_eq (codes "check") word ≡ false → bytes_eq (codes "gen") word ≡ false
    → IsFault (fault_of wfe_app (word ∷ rest))
other_word word rest p no_replay no_run no_check no_gen e =
    let all : Walk = walk app.top.rules (names_of app) nothing_held (word ∷ rest) in
    let other : subcommand_met (names_of app) idle word ≡ None = rw (no_replay, no_run, no_check, no_gen) refl in
    let last : Kinds = walk_fault app.top (names_of app) (walk_past app.top.rules nothing_held 1 word) rest in
    let is : own (or_else (UnknownArgument ∷ InvalidSubcommand ∷ []) last) all ≡ [] =
    sym (ap (λ f. own f all) (fault_next word p (names_of app) other app.top nothing_held 1 rest)) ∙ e in
    cc

pub no_word : IsFault (fault_of wfe_app [])
unfolding clap_on_literals
no_word e = cc
