-- For which reasons a line is bad.
use Rattle.std.proofs.Common.{ℕ, ◌≡◌, ◌==◌, ◌&&◌, if◌then◌else◌, nat_lt, nat_le, Bool, true, false, List, [], ◌∷◌, length, Option, Some, None, Result, Ok, Err, refl, sym, ap, ◌∙◌}
use Rattle.std.specs.Prelude.{codes}
use Rattle.std.specs.Str.{bytes_eq}
use Rattle.wfe_words.specs.declared.config.Config.{Config}
use Rattle.wfe_words.specs.declared.config.Field.{Field}
use Rattle.wfe_words.specs.Config.{allows}
use Rattle.wfe_defs.specs.declared.call.Call.{Call}
use Rattle.wfe_trace.specs.declared.body.Numbers.{Numbers}
use Rattle.wfe_trace.specs.declared.body.Places.{Places}
use Rattle.wfe_trace.specs.declared.body.Places.TheVariants as places
use Rattle.wfe_trace.specs.declared.item.Mode.{Mode}
use Rattle.wfe_trace.specs.declared.item.Stage.{Stage}
use Rattle.wfe_trace.specs.declared.item.Stage.TheVariants as stages
use Rattle.wfe_trace.specs.declared.reason.Reason.{Reason}
use Rattle.wfe_trace.specs.declared.reason.Reason.TheVariants as reasons
use Rattle.wfe_trace.specs.declared.verb.Verb.{Verb}
use Rattle.wfe_trace.specs.declared.verb.Verb.TheVariants as verbs
use Rattle.wfe_trace.specs.Body.{verb_in, count_of, count_in, in_form, numbers_in, is_for, is_placed, names_seat, seat_of, fits_indexes, call_within, call_of, command_of, judged_line, places_in, command_at, command_in}
use Rattle.wfe_trace.specs.Good.{is_of_line}
use Rattle.wfe_trace.specs.Reading.{Reading, judged_at, judged}
use Rattle.wfe_trace.specs.Setting.{version_line, word_after, field_name, scheme_in, scheme_line, scheme_version, scheme_known, number_line}
use Rattle.wfe_trace.specs.Words.{words, number_in, need, or_number, ◌>>=◌}

-- good, or bad for a reason of a line
abbrev pub is_line_result : {A : Type 0} → Result A Reason → Bool
is_line_result (Ok x) = true
is_line_result (Err reason) = is_of_line reason

both : {A B : Type 0} (r : Result A Reason) (f : A → Result B Reason) → is_line_result r ≡ true → ((x : A) → is_line_result (f x) ≡ true) → is_line_result (r >>= f) ≡ true
both (Ok x) f first next = next x
both (Err e) f first next = first

choice : {A : Type 0} (test : Bool) (a b : Result A Reason) → is_line_result a ≡ true → is_line_result b ≡ true → is_line_result (if test then a else b) ≡ true
choice true a b first second = first
choice false a b first second = second

needed : (test : Bool) (reason : Reason) → is_of_line reason ≡ true → is_line_result (need test reason) ≡ true
needed test reason known = choice test (Ok tt) (Err reason) refl known

number : (n : Option ℕ) → is_line_result (or_number n) ≡ true
number None = refl
number (Some n) = refl

version-line : (bytes : List ℕ) → is_line_result (version_line bytes) ≡ true
version-line bytes = choice (bytes_eq bytes (codes "wfe 1")) _ _ refl (choice (bytes_eq bytes (codes "wfe 2")) _ _ refl (choice (bytes_eq bytes (codes "wfe 3")) _ _ refl (choice (bytes_eq bytes (codes "wfe 4")) _ _ refl (choice (bytes_eq bytes (codes "wfe 5")) _ _ refl refl))))

word-after : (name : List ℕ) (ws : List (List ℕ)) → is_line_result (word_after name ws) ≡ true
word-after name [] = refl
word-after name (first ∷ []) = refl
word-after name (first ∷ word ∷ []) = choice (bytes_eq first name) (Ok word) (Err reasons.Config) refl refl
word-after name (first ∷ word ∷ more ∷ ws) = refl

scheme-in : (w : List ℕ) → is_line_result (scheme_in w) ≡ true
scheme-in w = choice (bytes_eq w (codes "he")) _ _ refl (choice (bytes_eq w (codes "ibr")) _ _ refl (choice (bytes_eq w (codes "wfe")) _ _ refl (choice (bytes_eq w (codes "hp")) _ _ refl refl)))

scheme-line : (ws : List (List ℕ)) → is_line_result (scheme_line ws) ≡ true
scheme-line ws = both (word_after (codes "scheme") ws) _ (word-after (codes "scheme") ws) scheme-in

scheme-known : (version : ℕ) (ws : List (List ℕ)) → is_line_result (scheme_known version ws) ≡ true
scheme-known version ws = both (scheme_line ws) _ (scheme-line ws) (λ scheme. both (need (nat_le (scheme_version scheme) version) reasons.Config) _ (needed _ reasons.Config refl) (λ u. refl))

number-line : (field : Field) (ws : List (List ℕ)) → is_line_result (number_line field ws) ≡ true
number-line field ws =
    both (word_after (field_name field) ws) _ (word-after (field_name field) ws) (λ word.
    both (or_number (number_in word)) _ (number (number_in word)) (λ n.
    both (need (allows field n) reasons.Range) _ (needed (allows field n) reasons.Range refl) (λ u. refl)))

in-form : (named : Option Verb) (line : Places) → is_line_result (in_form named line) ≡ true
in-form None line = refl
in-form (Some verb) line = choice (count_of verb == count_in line) (Ok verb) (Err reasons.Form) refl refl

numbers-in : (line : Places) → is_line_result (numbers_in line) ≡ true
numbers-in places.Nothing = refl
numbers-in (places.Seat s) = both (or_number s) _ (number s) (λ seat. refl)
numbers-in (places.SeatOne s a) = both (or_number s) _ (number s) (λ seat. both (or_number a) _ (number a) (λ first. refl))
numbers-in (places.SeatTwo s a b) =
    both (or_number s) _ (number s) (λ seat. both (or_number a) _ (number a) (λ first. both (or_number b) _ (number b) (λ second. refl)))
numbers-in (places.SeatThree s a b c) =
    both (or_number s) _ (number s) (λ seat. both (or_number a) _ (number a) (λ first. both (or_number b) _ (number b) (λ second. both (or_number c) _ (number c) (λ third. refl))))

seat-of : (seats : ℕ) (verb : Verb) (seat : ℕ) → is_line_result (seat_of seats verb seat) ≡ true
seat-of seats verb seat = choice (names_seat verb) _ _ (choice (nat_lt seat seats) (Ok seat) (Err reasons.Seat) refl refl) refl

call-within : (indexes : ℕ) (call : Call) → is_line_result (call_within indexes call) ≡ true
call-within indexes call = both (need (fits_indexes indexes call) reasons.Range) _ (needed _ reasons.Range refl) (λ u. refl)

command-of : (indexes : ℕ) (verb : Verb) (seat : ℕ) (n : Numbers) → is_line_result (command_of indexes verb seat n) ≡ true
command-of indexes (verbs.Call named) seat n = both (call_within indexes (call_of named n)) _ (call-within indexes (call_of named n)) (λ call. refl)
command-of indexes verbs.Step seat n = both (need (nat_le 1 n.first && nat_le n.first 100000) reasons.Range) _ (needed _ reasons.Range refl) (λ u. refl)
command-of indexes verbs.Run seat n = refl
command-of indexes verbs.Table seat n = refl
command-of indexes verbs.End seat n = refl

judged-line : (mode : Mode) (config : Config) (named : Option Verb) (line : Places) → is_line_result (judged_line mode config named line) ≡ true
judged-line mode config named line =
    both (in_form named line) _ (in-form named line) (λ verb.
    both (numbers_in line) _ (numbers-in line) (λ numbers.
    both (need (is_for mode verb) reasons.RunLine) _ (needed (is_for mode verb) reasons.RunLine refl) (λ u.
    both (seat_of config.seats verb numbers.seat) _ (seat-of config.seats verb numbers.seat) (λ seat.
    both (need (is_placed config.seats verb numbers.first) reasons.Seat) _ (needed _ reasons.Seat refl) (λ v. command-of config.indexes verb seat numbers)))))

command-at : (mode : Mode) (version : ℕ) (config : Config) (placed : Option (List ℕ × Places)) → is_line_result (command_at mode version config placed) ≡ true
command-at mode version config None = refl
command-at mode version config (Some placed) = judged-line mode config (verb_in version placed.0) placed.1

command-in : (mode : Mode) (version : ℕ) (config : Config) (ws : List (List ℕ)) → is_line_result (command_in mode version config ws) ≡ true
command-in mode version config ws = command-at mode version config (places_in ws)

judged-at : (stage : Stage) (r : Reading) (bytes : List ℕ) → is_line_result (judged_at stage r bytes) ≡ true
judged-at stages.First r bytes = both (version_line bytes) _ (version-line bytes) (λ version. refl)
judged-at stages.Scheme r bytes = both (scheme_known r.version (words bytes)) _ (scheme-known r.version (words bytes)) (λ scheme. refl)
judged-at (stages.Number field) r bytes = both (number_line field (words bytes)) _ (number-line field (words bytes)) (λ n. refl)
judged-at stages.Begin r bytes = both (need (bytes_eq bytes (codes "begin")) reasons.Config) _ (needed _ reasons.Config refl) (λ u. refl)
judged-at stages.Body r bytes = both (command_in r.mode r.version r.config (words bytes)) _ (command-in r.mode r.version r.config (words bytes)) (λ c. refl)

-- a line at its place in the trace is bad for a reason of a line
pub reason_at : (stage : Stage) (r : Reading) (bytes : List ℕ) (reason : Reason) → judged_at stage r bytes ≡ Err reason → is_of_line reason ≡ true
reason_at stage r bytes reason h = sym (ap is_line_result h) ∙ judged-at stage r bytes

-- the next line is bad for a reason of a line
pub reason_of : (r : Reading) (bytes : List ℕ) (reason : Reason) → judged r bytes ≡ Err reason → is_of_line reason ≡ true
reason_of r bytes reason h =
    sym (ap is_line_result h) ∙ both (need (nat_le (length bytes) 200) reasons.LongLine) _ (needed _ reasons.LongLine refl) (λ u. judged-at r.stage r bytes)
