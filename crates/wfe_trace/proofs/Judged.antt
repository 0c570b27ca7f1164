-- What holds of a trace's line that is not bad.
use Rattle.std.proofs.Common.{ℕ, ◌≡◌, ◌<◌, ◌≤◌, ◌&&◌, if◌then◌else◌, nat_lt, nat_le, Bool, true, false, List, length, Option, Some, None, Result, Ok, Err, refl, sym, ap, subst, arith, ◌∙◌}
use Rattle.std.specs.Prelude.{codes}
use Rattle.std.specs.Result.{result_unwrap_or}
use Rattle.std.specs.Str.{bytes_eq}
use Rattle.std.proofs.lemmas.Bool.Decides.{nat_tests}
use Rattle.wfe_words.specs.declared.config.Config.{Config}
use Rattle.wfe_words.specs.declared.config.Field.{Field}
use Rattle.wfe_words.specs.declared.config.Field.TheVariants as fields
use Rattle.wfe_words.specs.declared.config.SchemeKind.{SchemeKind}
use Rattle.wfe_words.specs.Config.{allows, bad_field, number_of}
use Rattle.wfe_defs.specs.declared.command.Command.{Command}
use Rattle.wfe_defs.specs.declared.call.Call.{Call}
use Rattle.wfe_trace.specs.declared.body.Numbers.{Numbers}
use Rattle.wfe_trace.specs.declared.body.Places.{Places}
use Rattle.wfe_trace.specs.declared.item.Item.{Item}
use Rattle.wfe_trace.specs.declared.item.Item.TheVariants as items
use Rattle.wfe_trace.specs.declared.item.Mode.{Mode}
use Rattle.wfe_trace.specs.declared.item.Stage.{Stage}
use Rattle.wfe_trace.specs.declared.item.Stage.TheVariants as stages
use Rattle.wfe_trace.specs.declared.reason.Reason.{Reason}
use Rattle.wfe_trace.specs.declared.reason.Reason.TheVariants as reasons
use Rattle.wfe_trace.specs.declared.verb.CallVerb.{CallVerb}
use Rattle.wfe_trace.specs.declared.verb.CallVerb.TheVariants as call_verbs
use Rattle.wfe_trace.specs.declared.verb.Verb.{Verb}
use Rattle.wfe_trace.specs.declared.verb.Verb.TheVariants as verbs
use Rattle.wfe_trace.specs.Body.{verb_in, in_form, numbers_in, is_for, is_placed, seat_of, fits_indexes, fits_seats, call_within, call_of, command_of, judged_line, places_in, command_at, command_in, IsCommandWithin}
use Rattle.wfe_trace.specs.Good.{is_body, IsRead}
use Rattle.wfe_trace.specs.Reading.{Reading, judged_at, judged, stage_after, version_after, config_after, gives_pairs, unread_config, IsVersioned, IsItemWithin, IsItemVersioned}
use Rattle.wfe_trace.specs.Setting.{version_line, pairs_in, word_after, field_name, scheme_line, scheme_version, scheme_known, number_line, with_number}
use Rattle.wfe_trace.specs.Words.{words, number_in, need, or_number, ◌>>=◌}
use Rattle.wfe_trace.proofs.Settings.{bad_field-with_number, versioned-with_number, versioned_first, allows-pairs_in, after-gives_pairs}

-- what follows is good only after a good start
pub both_good : {A B : Type 0} (r : Result A Reason) (f : A → Result B Reason) (y : B) → (r >>= f) ≡ Ok y → (x : A) × (r ≡ Ok x) × (f x ≡ Ok y)
both_good (Ok x) f y h = (x, refl, h)
both_good (Err e) f y h = absurd (cc)

needed : (holds : Bool) (reason : Reason) (u : Unit {0}) → need holds reason ≡ Ok u → holds ≡ true
needed true reason u h = refl
needed false reason u h = absurd (cc)

-- the number of a field's line lies in its range
number-line : (field : Field) (ws : List (List ℕ)) (n : ℕ) → number_line field ws ≡ Ok n → allows field n ≡ true
number-line field ws n h =
    let (word, _, h1) = both_good (word_after (field_name field) ws) _ n h in
    let (number, _, h2) = both_good (or_number (number_in word)) _ n h1 in
    let (u, is_allowed, h3) = both_good (need (allows field number) reasons.Range) _ n h2 in
    let same : number ≡ n = cc in
    subst (λ k. allows field k ≡ true) same (needed (allows field number) reasons.Range u is_allowed)

seat-of : (seats number : ℕ) (fits : Bool) (seat : ℕ) → nat_lt number seats ≡ fits → (if fits then Ok number else Err reasons.Seat) ≡ Ok seat → seat < seats
seat-of seats number true seat e h = let same : number ≡ seat = cc in grind (arith, nat_tests)
seat-of seats number false seat e h = absurd (cc)

-- the indexes of a call are in their ranges
call-within : (indexes : ℕ) (call found : Call) → call_within indexes call ≡ Ok found → fits_indexes indexes found ≡ true
call-within indexes call found h =
    let (u, fit, h1) = both_good (need (fits_indexes indexes call) reasons.Range) _ found h in
    let same : call ≡ found = cc in
    subst (λ c. fits_indexes indexes c ≡ true) same (needed _ reasons.Range u fit)

same_command : (config : Config) (a c : Command) (r : Result Command Reason) → r ≡ Ok a → r ≡ Ok c → IsCommandWithin config a → IsCommandWithin config c
same_command config a c r is_a is_c = let same : a ≡ c = cc in subst (IsCommandWithin config) same

-- the units of a step are in their range
in_range : (seats seat units : ℕ) → seat < seats → nat_le 1 units && nat_le units 100000 ≡ true → (seat < seats) × (1 ≤ units) × (units ≤ 100000)
in_range seats seat units seated fits = (seated, grind (arith, nat_tests), grind (arith, nat_tests))

-- and its place is a seat
placed-call : (seats : ℕ) (name : CallVerb) (n : Numbers) → is_placed seats (verbs.Call name) n.first ≡ true → fits_seats seats (call_of name n) ≡ true
placed-call seats call_verbs.Adopt n h = h
placed-call seats call_verbs.Get n h = refl
placed-call seats call_verbs.Put n h = refl
placed-call seats call_verbs.Remove n h = refl
placed-call seats call_verbs.Enqueue n h = refl
placed-call seats call_verbs.Dequeue n h = refl
placed-call seats call_verbs.Hold n h = refl
placed-call seats call_verbs.Release n h = refl
placed-call seats call_verbs.Advance n h = refl
placed-call seats call_verbs.Scan n h = refl
placed-call seats call_verbs.Copy n h = refl
placed-call seats call_verbs.DropIndex n h = refl
placed-call seats call_verbs.Look n h = refl
placed-call seats call_verbs.PutIf n h = refl
placed-call seats call_verbs.Leave n h = refl

seats-within : (indexes seats : ℕ) (call found : Call) → call_within indexes call ≡ Ok found → fits_seats seats call ≡ true → fits_seats seats found ≡ true
seats-within indexes seats call found h fits =
    let (u, fit, h1) = both_good (need (fits_indexes indexes call) reasons.Range) _ found h in
    let same : call ≡ found = cc in
    subst (λ c. fits_seats seats c ≡ true) same fits

command-of : (verb : Verb) (config : Config) (seat : ℕ) (n : Numbers) (c : Command) → seat_of config.seats verb n.seat ≡ Ok seat → is_placed config.seats verb n.first ≡ true → command_of config.indexes verb seat n ≡ Ok c → IsCommandWithin config c
command-of (verbs.Call name) config seat n c named placed h =
    let (call, found, h1) = both_good (call_within config.indexes (call_of name n)) _ c h in
    same_command config _ c _ refl h1 (seat-of config.seats n.seat (nat_lt n.seat config.seats) seat refl named, call-within config.indexes (call_of name n) call found, seats-within config.indexes config.seats (call_of name n) call found (placed-call config.seats name n placed))
command-of verbs.Step config seat n c named placed h =
    let (u, fit, h1) = both_good (need (nat_le 1 n.first && nat_le n.first 100000) reasons.Range) _ c h in
    same_command config _ c _ refl h1 (in_range config.seats seat n.first (seat-of config.seats n.seat (nat_lt n.seat config.seats) seat refl named) (needed _ reasons.Range u fit))
command-of verbs.Run config seat n c named placed h = same_command config _ c _ refl h (seat-of config.seats n.seat (nat_lt n.seat config.seats) seat refl named)
command-of verbs.Table config seat n c named placed h = same_command config _ c _ refl h tt
command-of verbs.End config seat n c named placed h = same_command config _ c _ refl h tt

judged-line : (mode : Mode) (config : Config) (named : Option Verb) (line : Places) (c : Command) → judged_line mode config named line ≡ Ok c → IsCommandWithin config c
judged-line mode config named line c h =
    let (verb, _, h1) = both_good (in_form named line) _ c h in
    let (numbers, _, h2) = both_good (numbers_in line) _ c h1 in
    let (u, _, h3) = both_good (need (is_for mode verb) reasons.RunLine) _ c h2 in
    let (seat, seated, h4) = both_good (seat_of config.seats verb numbers.seat) _ c h3 in
    let (v, placed, h5) = both_good (need (is_placed config.seats verb numbers.first) reasons.Seat) _ c h4 in
    command-of verb config seat numbers c seated (needed _ reasons.Seat v placed) h5

command-at : (mode : Mode) (version : ℕ) (config : Config) (placed : Option (List ℕ × Places)) (c : Command) → command_at mode version config placed ≡ Ok c → IsCommandWithin config c
command-at mode version config None c h = absurd (cc)
command-at mode version config (Some placed) c h = judged-line mode config (verb_in version placed.0) placed.1 c h

-- what a line of the body asks for keeps to the setting
command_within : (mode : Mode) (version : ℕ) (config : Config) (ws : List (List ℕ)) (c : Command) → command_in mode version config ws ≡ Ok c → IsCommandWithin config c
command_within mode version config ws c h = command-at mode version config (places_in ws) c h

number-field : (field : Field) → (is_body (stages.Number field) ≡ false) × (is_body (stage_after (stages.Number field)) ≡ false)
number-field fields.Seats = (refl, refl)
number-field fields.Indexes = (refl, refl)
number-field fields.Slots = (refl, refl)
number-field fields.Buckets = (refl, refl)
number-field fields.Tries = (refl, refl)
number-field fields.Every = (refl, refl)
number-field fields.LastEra = (refl, refl)
number-field fields.LastVersion = (refl, refl)
number-field fields.Pairs = (refl, refl)

same_item : (r : Reading) (stage : Stage) (bytes : List ℕ) (a item : Item) (found : Result Item Reason) → found ≡ Ok a → found ≡ Ok item → IsRead r stage bytes a → IsRead r stage bytes item
same_item r stage bytes a item found is_a is_item = let same : a ≡ item = cc in subst (IsRead r stage bytes) same

bad_field-number : (config : Config) (field : Field) (bytes : List ℕ) (n : ℕ) → number_line field (words bytes) ≡ Ok n → bad_field config ≡ None → bad_field (config_after (stages.Number field) config bytes) ≡ None
bad_field-number config field bytes n h good =
    subst (λ k. bad_field (with_number config field (result_unwrap_or k (number_of config field))) ≡ None) (sym h) (bad_field-with_number config field n good (number-line field (words bytes) n h))

versioned-number : (version : ℕ) (config : Config) (field : Field) (bytes : List ℕ) → gives_pairs (stages.Number field) ≡ false → IsVersioned version config → IsVersioned version (config_after (stages.Number field) config bytes)
versioned-number version config field bytes other v = versioned-with_number version config field _ other v

-- the first line gives a version, and the pairs of that version
bad_field-first : (config : Config) (bytes : List ℕ) → bad_field (config_after stages.First config bytes) ≡ None
bad_field-first config bytes = bad_field-with_number unread_config fields.Pairs (pairs_in (result_unwrap_or (version_line bytes) 1)) refl (allows-pairs_in (result_unwrap_or (version_line bytes) 1))

versioned-first : (config : Config) (old : ℕ) (bytes : List ℕ) (version : ℕ) → version_line bytes ≡ Ok version → IsVersioned (version_after stages.First old bytes) (config_after stages.First config bytes)
versioned-first config old bytes version h =
    subst (λ k. IsVersioned (result_unwrap_or k old) (with_number unread_config fields.Pairs (pairs_in (result_unwrap_or k 1)))) (sym h) (versioned_first bytes version h)

-- the second line gives a scheme that the version has
known-scheme : (version : ℕ) (ws : List (List ℕ)) (scheme : SchemeKind) → scheme_known version ws ≡ Ok scheme → (scheme_line ws ≡ Ok scheme) × (scheme_version scheme ≤ version)
known-scheme version ws scheme h =
    let (named, is, h1) = both_good (scheme_line ws) _ scheme h in
    let (u, fit, h2) = both_good (need (nat_le (scheme_version named) version) reasons.Config) _ scheme h1 in
    let same : named ≡ scheme = cc in
    let most : nat_le (scheme_version named) version ≡ true = needed _ reasons.Config u fit in
    (is ∙ ap Ok same, subst (λ s. scheme_version s ≤ version) same (grind (arith, nat_tests)))

versioned-scheme : (version : ℕ) (config : Config) (bytes : List ℕ) (scheme : SchemeKind) → scheme_known version (words bytes) ≡ Ok scheme → IsVersioned version config → IsVersioned version (config_after stages.Scheme config bytes)
versioned-scheme version config bytes scheme h v =
    let (named, most) = known-scheme version (words bytes) scheme h in
    (v.0, v.1, v.2, subst (λ k. scheme_version (result_unwrap_or k config.scheme) ≤ version) (sym named) most)

read-at : (stage : Stage) (r : Reading) (bytes : List ℕ) (item : Item) → judged_at stage r bytes ≡ Ok item → IsRead r stage bytes item
read-at stages.First r bytes item h =
    let (version, named, h1) = both_good (version_line bytes) _ item h in
    same_item r stages.First bytes items.Setting item _ refl h1 (record { placed = (refl, refl); within = λ good. bad_field-first r.config bytes; versioned = λ other v. versioned-first r.config r.version bytes version named; next = refl })
read-at stages.Scheme r bytes item h =
    let (scheme, known, h1) = both_good (scheme_known r.version (words bytes)) _ item h in
    same_item r stages.Scheme bytes items.Setting item _ refl h1 (record { placed = (refl, refl); within = λ good. good; versioned = λ other. versioned-scheme r.version r.config bytes scheme known; next = refl })
read-at (stages.Number field) r bytes item h =
    let (number, numbered, h1) = both_good (number_line field (words bytes)) _ item h in
    same_item r (stages.Number field) bytes items.Setting item _ refl h1 (record { placed = number-field field; within = bad_field-number r.config field bytes number numbered; versioned = versioned-number r.version r.config field bytes; next = after-gives_pairs (stages.Number field) })
read-at stages.Begin r bytes item h =
    let (u, _, h1) = both_good (need (bytes_eq bytes (codes "begin")) reasons.Config) _ item h in
    same_item r stages.Begin bytes (items.Ready r.version r.config) item _ refl h1 (record { placed = (refl, refl, refl); within = λ good. good; versioned = λ other v. v; next = refl })
read-at stages.Body r bytes item h =
    let (c, said, h1) = both_good (command_in r.mode r.version r.config (words bytes)) _ item h in
    same_item r stages.Body bytes (items.Command c) item _ refl h1 (record { placed = (refl, refl, command_within r.mode r.version r.config (words bytes) c said); within = λ good. good; versioned = λ other v. v; next = refl })

-- a line that is not bad stands where its item says, and the setting's numbers stay in their ranges
pub judged-read : (r : Reading) (bytes : List ℕ) (item : Item) → judged r bytes ≡ Ok item → IsRead r r.stage bytes item
judged-read r bytes item h =
    let (u, _, h1) = both_good (need (nat_le (length bytes) 200) reasons.LongLine) _ item h in
    read-at r.stage r bytes item h1

abbrev Said : Reading → Item → Type 0
Said r item = IsItemWithin r item × IsItemVersioned item

same_said : (r : Reading) (a item : Item) (found : Result Item Reason) → found ≡ Ok a → found ≡ Ok item → Said r a → Said r item
same_said r a item found is_a is_item = let same : a ≡ item = cc in subst (Said r) same

said-at : (stage : Stage) (r : Reading) (bytes : List ℕ) (item : Item) → bad_field r.config ≡ None → IsVersioned r.version r.config → judged_at stage r bytes ≡ Ok item → Said r item
said-at stages.First r bytes item good v h =
    let (version, _, h1) = both_good (version_line bytes) _ item h in
    same_said r items.Setting item _ refl h1 (tt, tt)
said-at stages.Scheme r bytes item good v h =
    let (scheme, _, h1) = both_good (scheme_known r.version (words bytes)) _ item h in
    same_said r items.Setting item _ refl h1 (tt, tt)
said-at (stages.Number field) r bytes item good v h =
    let (number, _, h1) = both_good (number_line field (words bytes)) _ item h in
    same_said r items.Setting item _ refl h1 (tt, tt)
said-at stages.Begin r bytes item good v h =
    let (u, _, h1) = both_good (need (bytes_eq bytes (codes "begin")) reasons.Config) _ item h in
    same_said r (items.Ready r.version r.config) item _ refl h1 (good, v)
said-at stages.Body r bytes item good v h =
    let (c, said, h1) = both_good (command_in r.mode r.version r.config (words bytes)) _ item h in
    same_said r (items.Command c) item _ refl h1 (command_within r.mode r.version r.config (words bytes) c said, tt)

-- the item of a line keeps to a setting in its ranges, and a setting that is whole has its version
pub said_of : (seen r : Reading) (bytes : List ℕ) (item : Item) → seen ≡ r → bad_field seen.config ≡ None → IsVersioned seen.version seen.config → judged_at r.stage r bytes ≡ Ok item → IsItemWithin r item × IsItemVersioned item
said_of seen r bytes item same good v h =
    said-at r.stage r bytes item (subst (λ (k : Reading). bad_field k.config ≡ None) same good) (subst (λ (k : Reading). IsVersioned k.version k.config) same v) h
