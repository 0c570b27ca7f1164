-- The lines of any run pass the reader of lines.
use Rattle.std.proofs.Common.{Bool, List, None, Option, Some, [], ap, arith, false, refl, subst, sym, true, ℕ, ◌++◌, ◌∙◌, ◌∷◌, ◌≡◌}
use Rattle.std.specs.List.{AllByRecursion, list_all}
use Rattle.std.specs.Prelude.{if◌then◌else◌, map, nat_le, not, ◌%◌, ◌&&◌, ◌==◌, ◌||◌}
use Rattle.std.proofs.lemmas.Bool.Decides.{nat_tests}
use Rattle.law_all.proofs.inv.model.Facts.{both, by_cases, false_of_not, first_of, rest_of, same_number}
use Rattle.law_all.specs.inv.model.Desks.{Notes}
use Rattle.law_all.specs.inv.model.Locals.{Group}
use Rattle.law_all.specs.inv.model.defs.declared.call.Answer.{Answer}
use Rattle.law_all.specs.inv.model.defs.declared.call.Answer.TheVariants as answers
use Rattle.law_all.specs.inv.model.defs.declared.call.Call.{Call}
use Rattle.law_all.specs.inv.model.defs.declared.call.Call.TheVariants as calls
use Rattle.law_all.specs.inv.model.defs.declared.event.Event.{Event}
use Rattle.law_all.specs.inv.model.defs.declared.event.Event.TheVariants as events
use Rattle.law_all.specs.inv.model.defs.declared.lifetime.Lifetime.{Lifetime}
use Rattle.law_all.specs.inv.model.words.declared.config.Config.{Config}
use Rattle.law_all.specs.laws.StructuresAt.{same_value}
use Rattle.law_all.specs.RunLaw.{AtClose, IsRun, backs, call_made, change_told, early_backs, events_of, events_of_all, give_told, late_backs, one_told, retire_told, unused_told}
use Rattle.law_worked.specs.RunRecords.WrongTexts.{IsNoRun, Text, WrongTextsRefused, wrong_texts}
use Rattle.law_worked.specs.RunRecords.Texts.{Stand, after_lines, between, is_done, lines_ok, lost, next, same_call, same_told, stand, told_next}

-- What is the same.

two : (a b : ℕ) → (a == a && b == b) ≡ true
two a b = both (a == a) (b == b) (same_number a) (same_number b)

same_own_call : (call : Call) → same_call call call ≡ true
same_own_call (calls.Get key) = same_number key
same_own_call (calls.Put key value) = both (key == key) (value == value) (same_number key) (same_number value)
same_own_call (calls.Remove key) = same_number key
same_own_call (calls.Enqueue value) = same_number value
same_own_call calls.Dequeue = refl
same_own_call (calls.Hold key) = same_number key
same_own_call calls.Release = refl
same_own_call calls.Advance = refl
same_own_call calls.Scan = refl
same_own_call (calls.Copy from index) = two from index
same_own_call (calls.DropIndex index) = same_number index
same_own_call (calls.Look index key) = two index key
same_own_call calls.Leave = refl
same_own_call (calls.Adopt place) = same_number place
same_own_call (calls.PutIf key value version) = both (key == key) (value == value && version == version) (same_number key) (two value version)

same_own_value : (value : Option ℕ) → same_value value value ≡ true
same_own_value None = refl
same_own_value (Some value) = same_number value

same_owed : (n : ℕ) (call : Call) (answer : Answer) → same_told (change_told n call answer) (change_told n call answer) ≡ true
same_owed n (calls.Get key) (answers.Got version value) =
    both (key % n == key % n && version == version) (key == key && same_value value value) (two (key % n) version)
    (both (key == key) (same_value value value) (same_number key) (same_own_value value))
same_owed n (calls.Put key value) (answers.Done version clock) =
    both (key % n == key % n && version == version) (key == key && value == value) (two (key % n) version) (two key value)
same_owed n (calls.PutIf key value wanted) (answers.Done version clock) =
    both (key % n == key % n && version == version) (key == key && value == value) (two (key % n) version) (two key value)
same_owed n (calls.Remove key) (answers.Done version clock) =
    both (key % n == key % n && version == version) (key == key) (two (key % n) version) (same_number key)
same_owed n (calls.Enqueue value) (answers.Queued number) = two number value
same_owed n calls.Dequeue (answers.Taken number value clock) = two number value
same_owed n calls.Leave (answers.Left count) = same_number count
same_owed n (calls.Adopt place) (answers.Adopted count) = two place count
same_owed n call answer = refl

-- what a call has done of the map, of the queue or of lists is read as that
owed_next : (n : ℕ) (s : Stand) (call : Call) (answer : Answer) (event : Event) → change_told n call answer ≡ Some event → next n s event ≡ told_next s event
owed_next n s (calls.Get key) (answers.Got version value) event e =
    let same : events.Got (key % n) version key value ≡ event = cc in subst (λ x. next n s x ≡ told_next s x) same refl
owed_next n s (calls.Put key value) (answers.Done version clock) event e =
    let same : events.Put (key % n) version key value ≡ event = cc in subst (λ x. next n s x ≡ told_next s x) same refl
owed_next n s (calls.PutIf key value wanted) (answers.Done version clock) event e =
    let same : events.Put (key % n) version key value ≡ event = cc in subst (λ x. next n s x ≡ told_next s x) same refl
owed_next n s (calls.Remove key) (answers.Done version clock) event e =
    let same : events.Removed (key % n) version key ≡ event = cc in subst (λ x. next n s x ≡ told_next s x) same refl
owed_next n s (calls.Enqueue value) (answers.Queued number) event e =
    let same : events.Queued number value ≡ event = cc in subst (λ x. next n s x ≡ told_next s x) same refl
owed_next n s calls.Dequeue (answers.Taken number value clock) event e =
    let same : events.Taken number value ≡ event = cc in subst (λ x. next n s x ≡ told_next s x) same refl
owed_next n s calls.Leave (answers.Left count) event e =
    let same : events.Left count ≡ event = cc in subst (λ x. next n s x ≡ told_next s x) same refl
owed_next n s (calls.Adopt place) (answers.Adopted count) event e =
    let same : events.Adopted place count ≡ event = cc in subst (λ x. next n s x ≡ told_next s x) same refl
owed_next n s call answer event e = absurd (cc)

-- One part of a call's lines after another.

joined : (n : ℕ) (s : Stand) (lines more : List Event) → after_lines n s (lines ++ more) ≡ after_lines n (after_lines n s lines) more
joined n s [] more = refl
joined n s (event ∷ lines) more = joined n (next n s event) lines more

early_read : (n : ℕ) (script : List Call) (call : Option Call) (slots : List ℕ)
    → after_lines n (stand 1 script call None None) (backs slots) ≡ stand 1 script call None None
early_read n script call [] = refl
early_read n script call (slot ∷ slots) = early_read n script call slots

-- late backs and the end, from any stage of a call
late_read : (n : ℕ) (stage : ℕ) (script : List Call) (call : Call) (given : Option ℕ) (slots : List ℕ) (steps : ℕ) (answer : Answer)
    → (nat_le 1 stage && nat_le stage 6) ≡ true
    → after_lines n (stand stage script (Some call) given (change_told n call answer)) (backs slots ++ events.End steps answer ∷ []) ≡ between script
late_read n stage script call given [] steps answer live =
    ap (λ b. if b then between script else lost)
    (both (nat_le 1 stage && nat_le stage 6) (same_told (change_told n call answer) (change_told n call answer)) live (same_owed n call answer))
late_read n stage script call given (slot ∷ slots) steps answer live =
    let told : Option Event = change_told n call answer in
    by_cases (stage == 1)
    (after_lines n (stand stage script (Some call) given told) (backs (slot ∷ slots) ++ events.End steps answer ∷ []) ≡ between script)
    (λ t.
    ap (λ b.
    after_lines n
    (if b then stand stage script (Some call) given told else (if nat_le 2 stage && nat_le stage 6 then stand 6 script (Some call) given told else lost))
    (backs slots ++ events.End steps answer ∷ [])) t
    ∙ late_read n stage script call given slots steps answer live)
    (λ t.
    let high : (nat_le 2 stage && nat_le stage 6) ≡ true = grind (arith, nat_tests) in
    ap (λ b.
    after_lines n
    (if b then stand stage script (Some call) given told else (if nat_le 2 stage && nat_le stage 6 then stand 6 script (Some call) given told else lost))
    (backs slots ++ events.End steps answer ∷ [])) t
    ∙ ap (λ b. after_lines n (if b then stand 6 script (Some call) given told else lost) (backs slots ++ events.End steps answer ∷ [])) high
    ∙ late_read n 6 script call given slots steps answer refl)

-- a row retired before
retire_read : (n : ℕ) (stage : ℕ) (script : List Call) (call : Call) (given : Option ℕ) (retired : Option Lifetime) (slots : List ℕ) (steps : ℕ)
    (answer : Answer)
    → (nat_le 1 stage && nat_le stage 4) ≡ true
    → after_lines n (stand stage script (Some call) given (change_told n call answer)) (retire_told retired ++ (backs slots ++ events.End steps answer ∷ []))
    ≡ between script
retire_read n stage script call given None slots steps answer live = late_read n stage script call given slots steps answer (grind (arith, nat_tests))
retire_read n stage script call given (Some life) slots steps answer live =
    ap (λ b.
    after_lines n (if b then stand 5 script (Some call) given (change_told n call answer) else lost) (backs slots ++ events.End steps answer ∷ [])) live
    ∙ late_read n 5 script call given slots steps answer refl

-- a row given up before that
abbrev slot_given : Option (ℕ × ℕ) → Option ℕ
slot_given None = None
slot_given (Some row) = Some row.0

unused_read : (n : ℕ) (stage : ℕ) (script : List Call) (call : Call) (given : Option (ℕ × ℕ)) (unused : Bool) (retired : Option Lifetime) (slots : List ℕ)
    (steps : ℕ) (answer : Answer)
    → (nat_le 1 stage && nat_le stage 3) ≡ true
    → ((row : ℕ × ℕ) → given ≡ Some row → (stage == 2 || stage == 3) ≡ true)
    → after_lines n (stand stage script (Some call) (slot_given given) (change_told n call answer))
    (unused_told unused given ++ (retire_told retired ++ (backs slots ++ events.End steps answer ∷ [])))
    ≡ between script
unused_read n stage script call given false retired slots steps answer live some =
    retire_read n stage script call (slot_given given) retired slots steps answer (grind (arith, nat_tests))
unused_read n stage script call None true retired slots steps answer live some =
    retire_read n stage script call None retired slots steps answer (grind (arith, nat_tests))
unused_read n stage script call (Some row) true retired slots steps answer live some =
    ap (λ b.
    after_lines n (if b then stand 4 script (Some call) (Some row.0) (change_told n call answer) else lost)
    (retire_told retired ++ (backs slots ++ events.End steps answer ∷ [])))
    (both (stage == 2 || stage == 3) (row.0 == row.0) (some row refl) (same_number row.0))
    ∙ retire_read n 4 script call (Some row.0) retired slots steps answer refl

-- what was done of the map or of the queue before that
told_read : (n : ℕ) (stage : ℕ) (script : List Call) (call : Call) (given : Option (ℕ × ℕ)) (unused : Bool) (retired : Option Lifetime) (slots : List ℕ)
    (steps : ℕ) (answer : Answer) (owed : Option Event)
    → change_told n call answer ≡ owed
    → (stage == 1 || stage == 2) ≡ true
    → ((row : ℕ × ℕ) → given ≡ Some row → (stage == 2 || stage == 3) ≡ true)
    → after_lines n (stand stage script (Some call) (slot_given given) None)
    (one_told owed ++ (unused_told unused given ++ (retire_told retired ++ (backs slots ++ events.End steps answer ∷ []))))
    ≡ between script
told_read n stage script call given unused retired slots steps answer None is live some =
    subst
    (λ told.
    after_lines n (stand stage script (Some call) (slot_given given) told)
    (unused_told unused given ++ (retire_told retired ++ (backs slots ++ events.End steps answer ∷ [])))
    ≡ between script) is
    (unused_read n stage script call given unused retired slots steps answer (grind (arith, nat_tests)) some)
told_read n stage script call given unused retired slots steps answer (Some event) is live some =
    let more : List Event = unused_told unused given ++ (retire_told retired ++ (backs slots ++ events.End steps answer ∷ [])) in
    let s : Stand = stand stage script (Some call) (slot_given given) None in
    ap (λ x. after_lines n x more) (owed_next n s call answer event is)
    ∙ ap (λ b. after_lines n (if b then stand 3 script (Some call) (slot_given given) (Some event) else lost) more) live
    ∙ subst (λ told. after_lines n (stand 3 script (Some call) (slot_given given) told) more ≡ between script) is
    (unused_read n 3 script call given unused retired slots steps answer refl (λ row e. refl))

-- the row given before that
give_read : (n : ℕ) (script : List Call) (call : Call) (given : Option (ℕ × ℕ)) (unused : Bool) (retired : Option Lifetime) (slots : List ℕ) (steps : ℕ)
    (answer : Answer)
    → after_lines n (stand 1 script (Some call) None None)
    (give_told given
    ++ (one_told (change_told n call answer) ++ (unused_told unused given ++ (retire_told retired ++ (backs slots ++ events.End steps answer ∷ [])))))
    ≡ between script
give_read n script call None unused retired slots steps answer =
    told_read n 1 script call None unused retired slots steps answer (change_told n call answer) refl refl (λ row e. absurd (cc))
give_read n script call (Some row) unused retired slots steps answer =
    told_read n 2 script call (Some row) unused retired slots steps answer (change_told n call answer) refl refl (λ other e. refl)

-- all lines of a call
call_read : (n : ℕ) (script : List Call) (group : Group) → after_lines n (between (group.call ∷ script)) (events_of n group) ≡ between script
call_read n script group =
    let call : Call = group.call in
    let notes : Notes = group.notes in
    let more : List Event =
    give_told notes.given
    ++ (one_told (change_told n call group.answer)
    ++ (unused_told notes.unused notes.given ++ (retire_told notes.retired ++ (backs (late_backs notes) ++ events.End notes.steps group.answer ∷ [])))) in
    ap (λ b. after_lines n (if b then stand 1 script (Some call) None None else lost) (backs (early_backs notes) ++ more)) (same_own_call call)
    ∙ joined n (stand 1 script (Some call) None None) (backs (early_backs notes)) more
    ∙ ap (λ s. after_lines n s more) (early_read n script (Some call) (early_backs notes))
    ∙ give_read n script call notes.given notes.unused notes.retired (late_backs notes) notes.steps group.answer

-- all lines of a seat
log_read : (n : ℕ) (log : List Group) → after_lines n (between (map call_made log)) (events_of_all n log) ≡ between []
log_read n [] = refl
log_read n (group ∷ log) =
    joined n (between (group.call ∷ map call_made log)) (events_of n group) (events_of_all n log)
    ∙ ap (λ s. after_lines n s (events_of_all n log)) (call_read n (map call_made log) group)
    ∙ log_read n log

logs_read : (n : ℕ) (logs : List (List Group)) → lines_ok n (map (λ log. map call_made log) logs) (map (events_of_all n) logs) ≡ true
logs_read n [] = refl
logs_read n (log ∷ logs) =
    both (is_done (after_lines n (between (map call_made log)) (events_of_all n log)))
    (lines_ok n (map (λ other. map call_made other) logs) (map (events_of_all n) logs)) (ap is_done (log_read n log)) (logs_read n logs)

pub run_read : (c : Config) (scripts : List (List Call)) (seats : List (List Event)) (closed : AtClose) → IsRun c scripts seats closed
    → lines_ok c.buckets scripts seats ≡ true
run_read c scripts seats closed run =
    subst (λ x. lines_ok c.buckets x seats ≡ true) run.scripts_are
    (subst (λ x. lines_ok c.buckets (map (λ log. map call_made log) run.logs) x ≡ true) (sym run.texts) (logs_read c.buckets run.logs))

-- What the reader turns down is of no run.

abbrev is_wrong : Text → Bool
is_wrong text = not (lines_ok text.config.buckets text.scripts text.seats)

no_run : (text : Text) → is_wrong text ≡ true → IsNoRun text
no_run text e closed run =
    let none : lines_ok text.config.buckets text.scripts text.seats ≡ false = false_of_not (lines_ok text.config.buckets text.scripts text.seats) e in
    let one : lines_ok text.config.buckets text.scripts text.seats ≡ true = run_read text.config text.scripts text.seats closed run in
    cc

no_runs : (texts : List Text) → list_all is_wrong texts ≡ true → AllByRecursion IsNoRun texts
no_runs [] e = tt
no_runs (text ∷ texts) e = (no_run text (first_of (is_wrong text) (list_all is_wrong texts) e), no_runs texts (rest_of (is_wrong text) (list_all is_wrong texts) e))

pub wrong_texts_refused : WrongTextsRefused
wrong_texts_refused = no_runs wrong_texts refl
