-- The record of each history keeps the law of answers.
use Rattle.std.proofs.Common.{ℕ, ◌≡◌, ◌<◌, ◌%◌, Bool, true, false, List, [], ◌∷◌, ◌++◌, Option, Some, None, refl, sym, ap, ◌∙◌, subst, arith}
use Rattle.inv_all.specs.model.words.Schemes.{publishes_rows}
use Rattle.inv_all.specs.model.Rounds.{scheme_of}
use Rattle.std.proofs.lemmas.Bool.Decides.{nat_tests}
use Rattle.std.specs.Prelude.{◌==◌, ◌&&◌}
use Rattle.inv_all.specs.model.words.Place.{is_valid}
use Rattle.inv_all.specs.model.words.declared.layout.Layout.{Layout}
use Rattle.inv_all.specs.model.defs.declared.call.Answer.{Answer}
use Rattle.inv_all.specs.model.defs.declared.call.Answer.TheVariants as the_answers
use Rattle.inv_all.specs.model.defs.declared.call.Call.{Call}
use Rattle.inv_all.specs.model.defs.declared.call.Call.TheVariants as names
use Rattle.inv_all.specs.model.defs.declared.event.Event.{Event}
use Rattle.inv_all.specs.model.defs.declared.event.Event.TheVariants as events
use Rattle.inv_all.specs.model.declared.post.Post.{Post}
use Rattle.inv_all.specs.model.Desks.{Desk, noting}
use Rattle.inv_all.specs.model.Locals.{Local, begun_post, busy_in, settled_by, turn, told_by, told_end, rounds_told}
use Rattle.inv_all.specs.model.Posts.{counted}
use Rattle.inv_all.specs.model.Steps.{first_phase}
use Rattle.inv_all.specs.model.Calls.{CallTurn, CallOutcome, GoesOn, Answers}
use Rattle.inv_all.specs.model.World.{World, begin, finds, is_busy, offered, step, told_in, may_start}
use Rattle.inv_all.proofs.model.Facts.{both, first_of, rest_of, same_number}
use Rattle.inv_all.proofs.shapes.Frame.{seat_stays, seat_steps, begin_stays, begin_begins}
use Rattle.laws.specs.StateAt.{began_by, began_of, with_told, told_of}
use Rattle.laws.specs.StructuresAt.{same_value}
use Rattle.inv_all.specs.history.Record.{Past, Each, tells_of}
use Rattle.inv_all.specs.history.Record.Past.{Then}
use Rattle.inv_all.proofs.history.Entries.{entries_of_each}
use Rattle.inv_all.specs.history.History.{Begins, Steps, Made, done, first_made, record_of, Item, made_of}
use Rattle.inv_all.proofs.history.Along.{Steady, items_keep}
use Rattle.inv_all.specs.Inv.{Inv}
use Rattle.inv_all.proofs.Inv.Begun.{inv_start, inv_begin}
use Rattle.inv_all.proofs.Inv.Kept.{inv_kept}
use Rattle.laws.specs.AnswerLaw.{suits}
use Rattle.laws.specs.HistoryAnswers.{owes, same_told, answer_right, answers_ok}
use Rattle.law_reuse.specs.Answers.{RecordsKeepAnswers}
use Rattle.inv_all.proofs.history.AllOf.{all_of}
use Rattle.inv_all.proofs.Machines.{is_within, within_of}
use Rattle.law_reuse.proofs.AnswersTold.Owed.{loud_one, loud, loud_along, is_open, Serves, owed, out_owed, OutServes, Told, Owes, append_none}
use Rattle.law_reuse.proofs.AnswersTold.Moves.{phase_ends}
use Rattle.law_reuse.proofs.AnswersTold.Owing.{turn_owes, first_serves, first_owes}
use Rattle.laws.proofs.Tells.{tells_both}
use Rattle.inv_all.proofs.history.MayTell.{own_two}

-- what a seat told, after more entries
pub append_one : (xs ys : List Event) (x : Event) → (xs ++ x ∷ []) ++ ys ≡ xs ++ x ∷ ys
append_one [] ys x = refl
append_one (first ∷ xs) ys x = ap (λ (rest : List Event). first ∷ rest) (append_one xs ys x)

one_told : (event : Event) (before later : List Event) → is_within event ≡ true → with_told event before ++ later ≡ before ++ loud_one event later
one_told (events.Begin call) before later h = absurd (cc)
one_told (events.Got bucket version key value) before later h = append_one before later (events.Got bucket version key value)
one_told (events.Put bucket version key value) before later h = append_one before later (events.Put bucket version key value)
one_told (events.Removed bucket version key) before later h = append_one before later (events.Removed bucket version key)
one_told (events.Queued number value) before later h = append_one before later (events.Queued number value)
one_told (events.Taken number value) before later h = append_one before later (events.Taken number value)
one_told (events.Copied from index slot) before later h = append_one before later (events.Copied from index slot)
one_told (events.Left count) before later h = append_one before later (events.Left count)
one_told (events.Adopted place count) before later h = append_one before later (events.Adopted place count)
one_told event before later h = refl

own_entry : (i : ℕ) (p : Past) (event : Event) → told_of i (Then p i event) ≡ with_told event (told_of i p)
own_entry i p event = let same : (i == i) ≡ true = grind (arith, nat_tests) in rw same refl

pub own_began : (i : ℕ) (p : Past) (event : Event) → began_of i (Then p i event) ≡ began_by event (began_of i p)
own_began i p event = let same : (i == i) ≡ true = grind (arith, nat_tests) in rw same refl

told_along : (i : ℕ) (told : List Event) (p : Past) → all_of is_within told ≡ true → told_of i (tells_of p i told) ≡ told_of i p ++ loud told
told_along i [] p h = sym (append_none (told_of i p))
told_along i (event ∷ told) p h =
    told_along i told (Then p i event) (rest_of (is_within event) (all_of is_within told) h)
    ∙ ap (λ (before : List Event). before ++ loud told) (own_entry i p event)
    ∙ one_told event (told_of i p) (loud told) (first_of (is_within event) (all_of is_within told) h)

pub one_began : (event : Event) (x : Option Call) → is_within event ≡ true → began_by event x ≡ x
one_began (events.Begin call) x h = absurd (cc)
one_began event x h = refl

pub began_along : (i : ℕ) (told : List Event) (p : Past) → all_of is_within told ≡ true → began_of i (tells_of p i told) ≡ began_of i p
began_along i [] p h = refl
began_along i (event ∷ told) p h =
    began_along i told (Then p i event) (rest_of (is_within event) (all_of is_within told) h)
    ∙ own_began i p event
    ∙ one_began event (began_of i p) (first_of (is_within event) (all_of is_within told) h)

-- of another seat nothing changes
other_entry : (k i : ℕ) (p : Past) (event : Event) → (k == i) ≡ false → told_of k (Then p i event) ≡ told_of k p
other_entry k i p event e = rw e refl

other_began : (k i : ℕ) (p : Past) (event : Event) → (k == i) ≡ false → began_of k (Then p i event) ≡ began_of k p
other_began k i p event e = rw e refl

others_told : (k i : ℕ) (told : List Event) (p : Past) → (k == i) ≡ false → told_of k (tells_of p i told) ≡ told_of k p
others_told k i [] p e = refl
others_told k i (event ∷ told) p e = others_told k i told (Then p i event) e ∙ other_entry k i p event e

pub others_began : (k i : ℕ) (told : List Event) (p : Past) → (k == i) ≡ false → began_of k (tells_of p i told) ≡ began_of k p
others_began k i [] p e = refl
others_began k i (event ∷ told) p e = others_began k i told (Then p i event) e ∙ other_began k i p event e

-- a seat has told what it owes
pub record Right (n : ℕ) (l : Local) (call : Option Call) (all : List Event) : Type 0 where
  pub began : busy_in l.phase ≡ true → call ≡ Some l.call
  pub told : busy_in l.phase ≡ true → all ≡ owed n l.call l.phase
  pub serves : busy_in l.phase ≡ true → Serves l.call l.phase

settled_right : (n : ℕ) (l : Local) (post : Post) (desk : Desk) (rounds : ℕ) (outcome : CallOutcome) (began : Option Call) (told : List Event) → began ≡ Some l.call → told ≡ out_owed n l.call outcome → OutServes l.call outcome → Right n (settled_by l post desk rounds outcome) began told
settled_right n l post desk rounds (GoesOn phase) began told e t s = record { began = λ b. e; told = λ b. t; serves = λ b. s }
settled_right n l post desk rounds (Answers answer) began told e t s = record { began = λ b. absurd (cc); told = λ b. absurd (cc); serves = λ b. absurd (cc) }

-- where the call ends
pub value_same : (x : Option ℕ) → same_value x x ≡ true
value_same None = refl
value_same (Some n) = grind (arith, nat_tests)

owed_same : (n : ℕ) (call : Call) (answer : Answer) → same_told (owes n call answer) (owes n call answer) ≡ true
owed_same n (names.Get key) (the_answers.Got version value) = both ((key % n == key % n && version == version) && (key == key && same_value value value)) true (both (key % n == key % n && version == version) (key == key && same_value value value) (own_two (key % n) version) (both (key == key) (same_value value value) (same_number key) (value_same value))) refl
owed_same n (names.Put key value) (the_answers.Done version clock) = both ((key % n == key % n && version == version) && (key == key && value == value)) true (both (key % n == key % n && version == version) (key == key && value == value) (own_two (key % n) version) (own_two key value)) refl
owed_same n (names.Remove key) (the_answers.Done version clock) = both ((key % n == key % n && version == version) && key == key) true (both (key % n == key % n && version == version) (key == key) (own_two (key % n) version) (same_number key)) refl
owed_same n (names.Enqueue value) (the_answers.Queued number) = both (number == number && value == value) true (own_two number value) refl
owed_same n names.Dequeue (the_answers.Taken number value clock) = both (number == number && value == value) true (own_two number value) refl
owed_same n (names.Copy from index) (the_answers.Copied slot) = both (from == from && (index == index && slot == slot)) true (both (from == from) (index == index && slot == slot) (same_number from) (own_two index slot)) refl
owed_same n (names.PutIf key value wanted) (the_answers.Done version clock) = both ((key % n == key % n && version == version) && (key == key && value == value)) true (both (key % n == key % n && version == version) (key == key && value == value) (own_two (key % n) version) (own_two key value)) refl
owed_same n names.Leave (the_answers.Left count) = both (count == count) true (same_number count) refl
owed_same n (names.Adopt place) (the_answers.Adopted count) = both (place == place && count == count) true (own_two place count) refl
owed_same n call answer = refl

answer_is : (n : ℕ) (call : Call) (answer : Answer) (began : Option Call) (told : List Event) → began ≡ Some call → told ≡ owes n call answer → suits call answer ≡ true → answer_right n began told answer ≡ true
answer_is n call answer began told e t s = rw e (both (suits call answer) (same_told told (owes n call answer)) s (subst (λ (x : List Event). same_told x (owes n call answer) ≡ true) (sym t) (owed_same n call answer)))

-- the entries of a step
open_one : (n i : ℕ) (p : Past) (event : Event) → is_open event ≡ true → answers_ok n p i event ≡ true
open_one n i p (events.End steps answer) h = absurd (cc)
open_one n i p event h = refl

open_each : (n i : ℕ) (told : List Event) (p : Past) → all_of is_open told ≡ true → Each (answers_ok n) p → Each (answers_ok n) (tells_of p i told)
open_each n i [] p h g = g
open_each n i (event ∷ told) p h g = open_each n i told (Then p i event) (rest_of (is_open event) (all_of is_open told) h) (open_one n i p event (first_of (is_open event) (all_of is_open told) h), g)

pub first_all : (f : Event → Bool) (xs ys : List Event) → all_of f (xs ++ ys) ≡ true → all_of f xs ≡ true
first_all f [] ys h = refl
first_all f (x ∷ xs) ys h = both (f x) (all_of f xs) (first_of (f x) (all_of f (xs ++ ys)) h) (first_all f xs ys (rest_of (f x) (all_of f (xs ++ ys)) h))

end_each : (n i : ℕ) (call : Call) (p : Past) (post : Post) (outcome : CallOutcome) → began_of i p ≡ Some call → told_of i p ≡ out_owed n call outcome → OutServes call outcome → Each (answers_ok n) p → Each (answers_ok n) (tells_of p i (told_end post outcome))
end_each n i call p post (GoesOn phase) e t s g = g
end_each n i call p post (Answers answer) e t s g = (answer_is n call answer (began_of i p) (told_of i p) e t s, g)

step_each : (n i : ℕ) (call : Call) (p : Past) (t : CallTurn) (before : List Event) → all_of is_within (told_by t) ≡ true → began_of i p ≡ Some call → told_of i p ≡ before → Owes n call before t → Each (answers_ok n) p → Each (answers_ok n) (tells_of p i (told_by t))
step_each n i call p t before y e b o g =
    let within = first_all is_within t.told (told_end t.post t.outcome) y in
    let there : Told before t.told (out_owed n call t.outcome) = o.told in
    let sum : told_of i (tells_of p i t.told) ≡ out_owed n call t.outcome = told_along i t.told p within ∙ ap (λ (all : List Event). all ++ loud t.told) b ∙ there.sum in
    subst (λ (r : Past). Each (answers_ok n) r) (sym (tells_both i t.told (told_end t.post t.outcome) p))
    (end_each n i call (tells_of p i t.told) t.post t.outcome (began_along i t.told p within ∙ e) sum o.serves (open_each n i t.told p there.goes g))

end_none : (post : Post) (outcome : CallOutcome) → loud (told_end post outcome) ≡ []
end_none post (GoesOn phase) = refl
end_none post (Answers answer) = refl

step_told : (n i : ℕ) (call : Call) (p : Past) (t : CallTurn) (before : List Event) → all_of is_within (told_by t) ≡ true → told_of i p ≡ before → Owes n call before t → told_of i (tells_of p i (told_by t)) ≡ out_owed n call t.outcome
step_told n i call p t before y b o =
    let there : Told before t.told (out_owed n call t.outcome) = o.told in
    told_along i (told_by t) p y
    ∙ ap (λ (all : List Event). told_of i p ++ all) (loud_along t.told (told_end t.post t.outcome) ∙ ap (λ (rest : List Event). loud t.told ++ rest) (end_none t.post t.outcome) ∙ append_none (loud t.told))
    ∙ ap (λ (all : List Event). all ++ loud t.told) b
    ∙ there.sum

-- what a history keeps
pub record Keeps (n : ℕ) (made : Made) : Type 0 where
  pub table : made.world.layout.config.buckets ≡ n
  pub known : Inv made.world
  pub seats : (k : ℕ) → Right n (made.world.seat k) (began_of k made.past) (told_of k made.past)
  pub law : Each (answers_ok n) made.past

pub owes_of : (n : ℕ) (w : World) (i : ℕ) → w.layout.config.buckets ≡ n → Inv w → Serves (w.seat i).call (w.seat i).phase → Owes n (w.seat i).call (owed n (w.seat i).call (w.seat i).phase) (turn (offered w i) (finds w i))
owes_of n w i e a s =
    let k = a.known in
    turn_owes n (w.seat i).call (w.seat i).phase (counted (w.seat i).post) (offered w i).desk (finds w i) (phase_ends w i k.seats) (ap (λ (table : Layout). table.config.buckets) (k.seats.fits i).post.layout ∙ e) s

step_right : (n : ℕ) (w : World) (i k : ℕ) (p : Past) (same : Bool) → (k == i) ≡ same → is_busy w i ≡ true → Inv w → w.layout.config.buckets ≡ n → ((m : ℕ) → Right n (w.seat m) (began_of m p) (told_of m p)) → Right n ((step w i).seat k) (began_of k (tells_of p i (told_in w i))) (told_of k (tells_of p i (told_in w i)))
step_right n w i k p true e b a d g =
    let one : k ≡ i = grind (arith, nat_tests) in
    let r = g i in
    let t : CallTurn = turn (offered w i) (finds w i) in
    let o = owes_of n w i d a (r.serves b) in
    let s = settled_right n (w.seat i) t.post (noting t.desk (told_by t)) (rounds_told (publishes_rows (scheme_of t.post)) (w.seat i).rounds (told_by t)) t.outcome (began_of i (tells_of p i (told_in w i))) (told_of i (tells_of p i (told_in w i)))
    (began_along i (told_in w i) p (within_of w i) ∙ r.began b) (step_told n i (w.seat i).call p t (owed n (w.seat i).call (w.seat i).phase) (within_of w i) (r.told b) o) o.serves in
    subst (λ (m : ℕ). Right n ((step w i).seat m) (began_of m (tells_of p i (told_in w i))) (told_of m (tells_of p i (told_in w i)))) (sym one)
    (subst (λ (l : Local). Right n l (began_of i (tells_of p i (told_in w i))) (told_of i (tells_of p i (told_in w i)))) (sym (seat_steps w i)) s)
step_right n w i k p false e b a d g =
    subst (λ (l : Local). Right n l (began_of k (tells_of p i (told_in w i))) (told_of k (tells_of p i (told_in w i)))) (sym (seat_stays w i k e))
    (subst (λ (x : Option Call). Right n (w.seat k) x (told_of k (tells_of p i (told_in w i)))) (sym (others_began k i (told_in w i) p e))
    (subst (λ (x : List Event). Right n (w.seat k) (began_of k p) x) (sym (others_told k i (told_in w i) p e)) (g k)))

begin_right : (n : ℕ) (w : World) (i k : ℕ) (call : Call) (p : Past) (same : Bool) → (k == i) ≡ same → ((m : ℕ) → Right n (w.seat m) (began_of m p) (told_of m p)) → Right n ((begin w i call).seat k) (began_of k (Then p i (events.Begin call))) (told_of k (Then p i (events.Begin call)))
begin_right n w i k call p true e g =
    let one : k ≡ i = grind (arith, nat_tests) in
    let b : began_of i (Then p i (events.Begin call)) ≡ Some call = own_began i p (events.Begin call) in
    let t : told_of i (Then p i (events.Begin call)) ≡ owed n call (first_phase call (begun_post (w.seat i).post)) = own_entry i p (events.Begin call) ∙ sym (first_owes n call (begun_post (w.seat i).post)) in
    subst (λ (m : ℕ). Right n ((begin w i call).seat m) (began_of m (Then p i (events.Begin call))) (told_of m (Then p i (events.Begin call)))) (sym one)
    (subst (λ (l : Local). Right n l (began_of i (Then p i (events.Begin call))) (told_of i (Then p i (events.Begin call)))) (sym (begin_begins w i call))
    (record { began = λ y. b; told = λ y. t; serves = λ y. first_serves call (begun_post (w.seat i).post) }))
begin_right n w i k call p false e g =
    subst (λ (l : Local). Right n l (began_of k (Then p i (events.Begin call))) (told_of k (Then p i (events.Begin call)))) (sym (begin_stays w i k call e))
    (subst (λ (x : Option Call). Right n (w.seat k) x (told_of k (Then p i (events.Begin call)))) (sym (other_began k i p (events.Begin call) e))
    (subst (λ (x : List Event). Right n (w.seat k) (began_of k p) x) (sym (other_entry k i p (events.Begin call) e)) (g k)))

pub begin_keeps : (n : ℕ) (made : Made) (i : ℕ) (call : Call) → is_busy made.world i ≡ false → may_start made.world i call ≡ true → Keeps n made → Keeps n (done made (Begins i call))
begin_keeps n made i call f m g = record { table = g.table; known = inv_begin made.world i call f m g.known; seats = λ k. begin_right n made.world i k call made.past (k == i) refl g.seats; law = (refl, g.law) }

pub step_keeps : (n : ℕ) (made : Made) (i : ℕ) → i < made.world.layout.config.seats → is_busy made.world i ≡ true → Keeps n made → Keeps n (done made (Steps i))
step_keeps n made i b y g =
    let r = g.seats i in
    record {
      table = g.table;
      known = inv_kept made.world i b g.known;
      seats = λ k. step_right n made.world i k made.past (k == i) refl y g.known g.table g.seats;
      law = step_each n i (made.world.seat i).call made.past (turn (offered made.world i) (finds made.world i)) (owed n (made.world.seat i).call (made.world.seat i).phase) (within_of made.world i) (r.began y) (r.told y) (owes_of n made.world i g.table g.known (r.serves y)) g.law;
    }

steady : (n : ℕ) → Steady (Keeps n)
steady n = record { begins = λ made i call b y m g. begin_keeps n made i call y m g; steps = λ made i b y g. step_keeps n made i b y g }

pub first_keeps : (layout : Layout) → is_valid layout ≡ true → Keeps layout.config.buckets (first_made layout)
first_keeps layout d = record { table = refl; known = inv_start layout d; seats = λ k. record { began = λ b. absurd (cc); told = λ b. absurd (cc); serves = λ b. absurd (cc) }; law = tt }

pub answers_kept : (layout : Layout) (items : List Item) → is_valid layout ≡ true → Keeps layout.config.buckets (made_of layout items)
answers_kept layout items d = items_keep (Keeps layout.config.buckets) (steady layout.config.buckets) items (first_made layout) (first_keeps layout d)

pub records_keep_answers : RecordsKeepAnswers
records_keep_answers layout items d = let g = answers_kept layout items d in entries_of_each (answers_ok layout.config.buckets) (record_of layout items) g.law
