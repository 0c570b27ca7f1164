-- Which calls the traces of a version have, and that later versions have the lines of the earlier ones.
use Rattle.std.proofs.Common.{ℕ, ◌≡◌, ◌≤◌, ◌==◌, ◌&&◌, ◌∙◌, if◌then◌else◌, nat_le, Bool, true, false, List, Option, Some, None, Result, Ok, Err, refl, sym, ap, subst, arith}
use Rattle.std.specs.Prelude.{codes, length}
use Rattle.std.specs.Str.{bytes_eq}
use Rattle.std.proofs.lemmas.Bool.Decides.{nat_tests}
use Rattle.wfe_words.specs.declared.config.Config.{Config}
use Rattle.wfe_defs.specs.declared.call.Call.{Call}
use Rattle.wfe_defs.specs.declared.command.Command.{Command}
use Rattle.wfe_defs.specs.declared.command.Command.TheVariants as commands
use Rattle.wfe_trace.specs.declared.body.Numbers.{Numbers}
use Rattle.wfe_trace.specs.declared.body.Places.{Places}
use Rattle.wfe_trace.specs.declared.item.Item.TheVariants as items
use Rattle.wfe_trace.specs.declared.item.Mode.{Mode}
use Rattle.wfe_trace.specs.declared.item.Mode.TheVariants as modes
use Rattle.wfe_trace.specs.declared.item.Stage.{Stage}
use Rattle.wfe_trace.specs.declared.item.Stage.TheVariants as stages
use Rattle.wfe_trace.specs.declared.reason.Reason.{Reason}
use Rattle.wfe_trace.specs.declared.reason.Reason.TheVariants as reasons
use Rattle.wfe_trace.specs.declared.verb.CallVerb.{CallVerb}
use Rattle.wfe_trace.specs.declared.verb.CallVerb.TheVariants as call_verbs
use Rattle.wfe_trace.specs.declared.verb.Verb.{Verb}
use Rattle.wfe_trace.specs.declared.verb.Verb.TheVariants as verbs
use Rattle.wfe_trace.specs.Body.{call_verb_in, first_version, known_in, verb_in, count_of, count_in, in_form, numbers_in, is_for, is_placed, seat_of, fits_indexes, call_within, call_of, command_of, judged_line, places_in, command_at, command_in}
use Rattle.wfe_trace.specs.Good.{is_for_workers, version_of}
use Rattle.wfe_trace.specs.Reading.{Reading, judged, judged_at}
use Rattle.wfe_trace.specs.Setting.{number_line, scheme_known, version_line}
use Rattle.wfe_trace.specs.Words.{need, words}
use Rattle.wfe_trace.proofs.Judged.{both_good}

-- a call that is named is one of the version
known-by : (version : ℕ) (call name : CallVerb) (fits : Bool) → nat_le (first_version call) version ≡ fits → (if fits then Some (verbs.Call call) else None) ≡ Some (verbs.Call name) → nat_le (first_version name) version ≡ true
known-by version call name true e h = let same : call ≡ name = cc in subst (λ c. nat_le (first_version c) version ≡ true) same e
known-by version call name false e h = absurd (cc)

known : (version : ℕ) (o : Option CallVerb) (name : CallVerb) → known_in version o ≡ Some (verbs.Call name) → nat_le (first_version name) version ≡ true
known version None name h = absurd (cc)
known version (Some call) name h = known-by version call name (nat_le (first_version call) version) refl h

abbrev is_call : Verb → Bool
is_call (verbs.Call call) = true
is_call _ = false

-- a word that names another verb names no call
no_call : (test : Bool) (verb : Verb) (later : Option Verb) (name : CallVerb) → is_call verb ≡ false → (if test then Some verb else later) ≡ Some (verbs.Call name) → later ≡ Some (verbs.Call name)
no_call true verb later name other h =
    let same : verb ≡ verbs.Call name = cc in
    let never : false ≡ true = sym other ∙ ap is_call same in
    absurd (cc)
no_call false verb later name other h = h

named-call : (version : ℕ) (w : List ℕ) (name : CallVerb) → verb_in version w ≡ Some (verbs.Call name) → nat_le (first_version name) version ≡ true
named-call version w name h =
    known version (call_verb_in w) name
    (no_call (bytes_eq w (codes "end")) verbs.End _ name refl
    (no_call (bytes_eq w (codes "table")) verbs.Table _ name refl
    (no_call (bytes_eq w (codes "run")) verbs.Run _ name refl
    (no_call (bytes_eq w (codes "step")) verbs.Step _ name refl h))))

version-call : (name : CallVerb) (n : Numbers) → version_of (call_of name n) ≡ first_version name
version-call call_verbs.Get n = refl
version-call call_verbs.Put n = refl
version-call call_verbs.Remove n = refl
version-call call_verbs.Enqueue n = refl
version-call call_verbs.Dequeue n = refl
version-call call_verbs.Hold n = refl
version-call call_verbs.Release n = refl
version-call call_verbs.Advance n = refl
version-call call_verbs.Scan n = refl
version-call call_verbs.Copy n = refl
version-call call_verbs.DropIndex n = refl
version-call call_verbs.Look n = refl
version-call call_verbs.PutIf n = refl
version-call call_verbs.Leave n = refl
version-call call_verbs.Adopt n = refl

form-by : (v verb : Verb) (fits : Bool) → (if fits then Ok v else Err reasons.Form) ≡ Ok verb → Some v ≡ Some verb
form-by v verb true h = cc
form-by v verb false h = absurd (cc)

in-form : (named : Option Verb) (line : Places) (verb : Verb) → in_form named line ≡ Ok verb → named ≡ Some verb
in-form None line verb h = absurd (cc)
in-form (Some v) line verb h = form-by v verb (count_of v == count_in line) h

same_call : (seat other : ℕ) (call asked : Call) (r : Result Command Reason) → r ≡ Ok (commands.Call seat call) → r ≡ Ok (commands.Call other asked) → call ≡ asked
same_call seat other call asked r a b = cc

-- a line that begins a call names that call
asked : (verb : Verb) (indexes s : ℕ) (n : Numbers) (seat : ℕ) (call : Call) → command_of indexes verb s n ≡ Ok (commands.Call seat call) → (name : CallVerb) × (verb ≡ verbs.Call name) × (call_of name n ≡ call)
asked (verbs.Call name) indexes s n seat call h =
    let (found, e, h1) = both_good (call_within indexes (call_of name n)) _ _ h in
    let (u, _, h2) = both_good (need (fits_indexes indexes (call_of name n)) reasons.Range) _ found e in
    let first : call_of name n ≡ found = cc in
    (name, refl, first ∙ same_call s seat found call _ refl h1)
asked verbs.Step indexes s n seat call h =
    let (u, _, h1) = both_good (need (nat_le 1 n.first && nat_le n.first 100000) reasons.Range) _ _ h in
    absurd (cc)
asked verbs.Run indexes s n seat call h = absurd (cc)
asked verbs.Table indexes s n seat call h = absurd (cc)
asked verbs.End indexes s n seat call h = absurd (cc)

called_as : (named : Option Verb) (verb other : Verb) → named ≡ Some verb → verb ≡ other → named ≡ Some other
called_as named verb other is same = cc

version_as : (call other : Call) (first version : ℕ) → other ≡ call → version_of other ≡ first → nat_le first version ≡ true → version_of call ≤ version
version_as call other first version same is fits = let at : version_of call ≡ first = sym (ap version_of same) ∙ is in grind (arith, nat_tests)

line-call : (mode : Mode) (version : ℕ) (config : Config) (named : Option Verb) (line : Places) (seat : ℕ) (call : Call)
    → ((name : CallVerb) → named ≡ Some (verbs.Call name) → nat_le (first_version name) version ≡ true) → judged_line mode config named line ≡ Ok (commands.Call seat call) → version_of call ≤ version
line-call mode version config named line seat call f h =
    let (verb, form, h1) = both_good (in_form named line) _ _ h in
    let (n, _, h2) = both_good (numbers_in line) _ _ h1 in
    let (u, _, h3) = both_good (need (is_for mode verb) reasons.RunLine) _ _ h2 in
    let (s, _, h4) = both_good (seat_of config.seats verb n.seat) _ _ h3 in
    let (w, _, h5) = both_good (need (is_placed config.seats verb n.first) reasons.Seat) _ _ h4 in
    let (name, is, same) = asked verb config.indexes s n seat call h5 in
    version_as call (call_of name n) (first_version name) version same (version-call name n) (f name (called_as named verb (verbs.Call name) (in-form named line verb form) is))

at-call : (mode : Mode) (version : ℕ) (config : Config) (placed : Option (List ℕ × Places)) (seat : ℕ) (call : Call) → command_at mode version config placed ≡ Ok (commands.Call seat call) → version_of call ≤ version
at-call mode version config None seat call h = absurd (cc)
at-call mode version config (Some placed) seat call h = line-call mode version config (verb_in version placed.0) placed.1 seat call (named-call version placed.0) h

-- the traces of a version begin calls of that version and of earlier ones alone
pub begins-version : (mode : Mode) (version : ℕ) (config : Config) (ws : List (List ℕ)) (seat : ℕ) (call : Call) → command_in mode version config ws ≡ Ok (commands.Call seat call) → version_of call ≤ version
begins-version mode version config ws seat call h = at-call mode version config (places_in ws) seat call h

-- a line that begins a call for workers names one of theirs
workers-call : (name : CallVerb) (n : Numbers) → is_for modes.Run (verbs.Call name) ≡ true → is_for_workers (call_of name n) ≡ true
workers-call call_verbs.Leave n h = absurd (cc)
workers-call call_verbs.Adopt n h = absurd (cc)
workers-call call_verbs.Get n h = refl
workers-call call_verbs.Put n h = refl
workers-call call_verbs.Remove n h = refl
workers-call call_verbs.Enqueue n h = refl
workers-call call_verbs.Dequeue n h = refl
workers-call call_verbs.Hold n h = refl
workers-call call_verbs.Release n h = refl
workers-call call_verbs.Advance n h = refl
workers-call call_verbs.Scan n h = refl
workers-call call_verbs.Copy n h = refl
workers-call call_verbs.DropIndex n h = refl
workers-call call_verbs.Look n h = refl
workers-call call_verbs.PutIf n h = refl

needed : (fits : Bool) (reason : Reason) (u : Unit {0}) → need fits reason ≡ Ok u → fits ≡ true
needed true reason u h = refl
needed false reason u h = absurd (cc)

workers-line : (config : Config) (named : Option Verb) (line : Places) (seat : ℕ) (call : Call) → judged_line modes.Run config named line ≡ Ok (commands.Call seat call) → is_for_workers call ≡ true
workers-line config named line seat call h =
    let (verb, form, h1) = both_good (in_form named line) _ _ h in
    let (n, _, h2) = both_good (numbers_in line) _ _ h1 in
    let (u, fit, h3) = both_good (need (is_for modes.Run verb) reasons.RunLine) _ _ h2 in
    let (s, _, h4) = both_good (seat_of config.seats verb n.seat) _ _ h3 in
    let (w, _, h5) = both_good (need (is_placed config.seats verb n.first) reasons.Seat) _ _ h4 in
    let (name, is, same) = asked verb config.indexes s n seat call h5 in
    sym (ap is_for_workers same) ∙ workers-call name n (ap (is_for modes.Run) (sym is) ∙ needed (is_for modes.Run verb) reasons.RunLine u fit)

workers-at : (version : ℕ) (config : Config) (placed : Option (List ℕ × Places)) (seat : ℕ) (call : Call) → command_at modes.Run version config placed ≡ Ok (commands.Call seat call) → is_for_workers call ≡ true
workers-at version config None seat call h = absurd (cc)
workers-at version config (Some placed) seat call h = workers-line config (verb_in version placed.0) placed.1 seat call h

pub begins-workers : (version : ℕ) (config : Config) (ws : List (List ℕ)) (seat : ℕ) (call : Call) → command_in modes.Run version config ws ≡ Ok (commands.Call seat call) → is_for_workers call ≡ true
begins-workers version config ws seat call h = workers-at version config (places_in ws) seat call h

-- so does a trace for workers
at-stage : (stage : Stage) (r : Reading) (bytes : List ℕ) (seat : ℕ) (call : Call) → r.mode ≡ modes.Run → judged_at stage r bytes ≡ Ok (items.Command (commands.Call seat call)) → is_for_workers call ≡ true
at-stage stages.First r bytes seat call m h = let (version, _, h1) = both_good (version_line bytes) _ _ h in absurd (cc)
at-stage stages.Scheme r bytes seat call m h = let (scheme, _, h1) = both_good (scheme_known r.version (words bytes)) _ _ h in absurd (cc)
at-stage (stages.Number field) r bytes seat call m h = let (number, _, h1) = both_good (number_line field (words bytes)) _ _ h in absurd (cc)
at-stage stages.Begin r bytes seat call m h = let (u, _, h1) = both_good (need (bytes_eq bytes (codes "begin")) reasons.Config) _ _ h in absurd (cc)
at-stage stages.Body r bytes seat call m h =
    let (command, good, h1) = both_good (command_in r.mode r.version r.config (words bytes)) _ _ h in
    let same : command ≡ commands.Call seat call = cc in
    begins-workers r.version r.config (words bytes) seat call (subst (λ (mode : Mode). command_in mode r.version r.config (words bytes) ≡ Ok (commands.Call seat call)) m (good ∙ ap Ok same))

pub judged-workers : (r : Reading) (bytes : List ℕ) (seat : ℕ) (call : Call) → r.mode ≡ modes.Run → judged r bytes ≡ Ok (items.Command (commands.Call seat call)) → is_for_workers call ≡ true
judged-workers r bytes seat call m h =
    let (u, _, h1) = both_good (need (nat_le (length bytes) 200) reasons.LongLine) _ _ h in
    at-stage r.stage r bytes seat call m h1

later-known-by : (v w : ℕ) (call : CallVerb) (verb : Verb) (fits : Bool) → v ≤ w → nat_le (first_version call) v ≡ fits → (if fits then Some (verbs.Call call) else None) ≡ Some verb → known_in w (Some call) ≡ Some verb
later-known-by v w call verb true l e h = let fits : nat_le (first_version call) w ≡ true = grind (arith, nat_tests) in rw fits h
later-known-by v w call verb false l e h = absurd (cc)

later-known : (v w : ℕ) (o : Option CallVerb) (verb : Verb) → v ≤ w → known_in v o ≡ Some verb → known_in w o ≡ Some verb
later-known v w None verb l h = absurd (cc)
later-known v w (Some call) verb l h = later-known-by v w call verb (nat_le (first_version call) v) l refl h

later-if : (test : Bool) (a : Verb) (b c : Option Verb) (verb : Verb) → (b ≡ Some verb → c ≡ Some verb) → (if test then Some a else b) ≡ Some verb → (if test then Some a else c) ≡ Some verb
later-if true a b c verb f h = h
later-if false a b c verb f h = f h

-- a word names the same verb in later versions
later-verb : (v w : ℕ) (word : List ℕ) (verb : Verb) → v ≤ w → verb_in v word ≡ Some verb → verb_in w word ≡ Some verb
later-verb v w word verb l h =
    later-if (bytes_eq word (codes "step")) verbs.Step _ _ verb
    (later-if (bytes_eq word (codes "run")) verbs.Run _ _ verb
    (later-if (bytes_eq word (codes "table")) verbs.Table _ _ verb
    (later-if (bytes_eq word (codes "end")) verbs.End _ _ verb (later-known v w (call_verb_in word) verb l)))) h

later-line : (mode : Mode) (config : Config) (a b : Option Verb) (line : Places) (c : Command) → ((verb : Verb) → a ≡ Some verb → b ≡ Some verb) → judged_line mode config a line ≡ Ok c → judged_line mode config b line ≡ Ok c
later-line mode config None b line c f h = absurd (cc)
later-line mode config (Some verb) b line c f h = rw (f verb refl) h

later-at : (mode : Mode) (v w : ℕ) (config : Config) (placed : Option (List ℕ × Places)) (c : Command) → v ≤ w → command_at mode v config placed ≡ Ok c → command_at mode w config placed ≡ Ok c
later-at mode v w config None c l h = h
later-at mode v w config (Some placed) c l h = later-line mode config (verb_in v placed.0) (verb_in w placed.0) placed.1 c (λ verb. later-verb v w placed.0 verb l) h

-- a line that is good in a version is good in later ones, and asks for the same
pub good-later : (mode : Mode) (v w : ℕ) (config : Config) (ws : List (List ℕ)) (c : Command) → v ≤ w → command_in mode v config ws ≡ Ok c → command_in mode w config ws ≡ Ok c
good-later mode v w config ws c l h = later-at mode v w config (places_in ws) c l h
