-- How many steps a call takes by which a seat takes over a list, whatever the other seats do meanwhile.
use Rattle.std.proofs.Common.{Bool, List, [], ap, arith, false, length, length-append, refl, sym, true, ℕ, ◌+◌, ◌∙◌, ◌∷◌, ◌≡◌}
use Rattle.std.specs.Prelude.{Err, MatchResult, Ok, Result, if◌then◌else◌, ◌==◌}
use Rattle.wfe_core.proofs.Facts.{false_by, number_is}
use Rattle.wfe_core.specs.defs.declared.call.Answer.{Answer}
use Rattle.wfe_core.specs.defs.declared.call.Answer.TheVariants as answers
use Rattle.wfe_core.specs.defs.declared.call.Call.TheVariants as names
use Rattle.wfe_core.specs.declared.op.Op.{Op}
use Rattle.wfe_core.specs.words.declared.layout.Layout.{Layout}
use Rattle.wfe_core.specs.Calls.{Answers, CallOutcome, GoesOn, Idle, Keeping, MarkTaken, TakeList, Works}
use Rattle.wfe_core.specs.Keep.{not_taken}
use Rattle.wfe_core.specs.Locals.{Local, after, begun, busy_in, turn}
use Rattle.wfe_drive_call.specs.drive_words.Comes.{lent}
use Rattle.wfe_drive_call.specs.drive_words.Ran.{Performs, Ran}
use Rattle.wfe_table.specs.Calls.{IsMade, IsMissed}
use Rattle.wfe_table.specs.Public.{SeatNow, steps_of}

-- a seat without a call performs nothing
idle_rests : (l last : Local) (xs : List (Op × ℕ)) (operation : Op × ℕ) → l.phase ≡ Idle → Ran l xs last → Performs last operation → ⊥
idle_rests l last [] operation e ran p =
    let no : busy_in last.phase ≡ false = ap (λ (k : Local). busy_in k.phase) (sym ran) ∙ ap busy_in e in
    absurd (cc)
idle_rests l last (x ∷ xs) operation e ran p =
    let no : busy_in l.phase ≡ false = ap busy_in e in
    let yes : busy_in l.phase ≡ true = ran.0.busy in
    absurd (cc)

-- the steps that an answer tells of
abbrev steps_by : Answer → ℕ
steps_by (answers.Adopted count) = 2
steps_by answer = 1

missed_by : (found : ℕ) → steps_by (not_taken found) ≡ 1
missed_by found = by (found == 0) where
  by : (none : Bool) → steps_by (if none then answers.NotLeft else answers.AdoptedBefore) ≡ 1
  by true = refl
  by false = refl

abbrev answer_of : CallOutcome → Answer
answer_of (Answers answer) = answer
answer_of (GoesOn phase) = answers.NotLeft

-- the exchange answers where it finds no list, and goes on where it finds one
exchange_answers : (o : Local) (place found : ℕ) (answer : Answer) → o.phase ≡ Works (Keeping (TakeList place)) → (turn o found).outcome ≡ Answers answer → steps_by answer ≡ 1
exchange_answers o place found answer e a = by (found == 1) refl where
  by : (left : Bool) → (found == 1) ≡ left → steps_by answer ≡ 1
  by true f = absurd (let goes : (turn o found).outcome ≡ GoesOn (Works (Keeping (MarkTaken place (length o.desk.gift)))) = rw (e, f) refl in cc)
  by false f =
      let missed : (turn o found).outcome ≡ Answers (not_taken found) = rw (e, f) refl in
      ap (λ (t : CallOutcome). steps_by (answer_of t)) (sym a ∙ missed) ∙ missed_by found

store_answers : (o : Local) (place count found : ℕ) (answer : Answer) → o.phase ≡ Works (Keeping (MarkTaken place count)) → (turn o found).outcome ≡ Answers answer → steps_by answer ≡ 2
store_answers o place count found answer e a =
    let marked : (turn o found).outcome ≡ Answers (answers.Adopted count) = rw e refl in
    ap (λ (t : CallOutcome). steps_by (answer_of t)) (sym a ∙ marked)

store_ends : (o : Local) (place count found : ℕ) → o.phase ≡ Works (Keeping (MarkTaken place count)) → (after o found).phase ≡ Idle
store_ends o place count found e = rw e refl

exchange_ends : (o : Local) (place found : ℕ) → o.phase ≡ Works (Keeping (TakeList place)) → (found == 1) ≡ false → (after o found).phase ≡ Idle
exchange_ends o place found e f = rw (e, f) refl

exchange_goes : (o : Local) (place found : ℕ) → o.phase ≡ Works (Keeping (TakeList place)) → (found == 1) ≡ true → (after o found).phase ≡ Works (Keeping (MarkTaken place (length o.desk.gift)))
exchange_goes o place found e f = rw (e, f) refl

-- from the store on
stores : (l last : Local) (place count : ℕ) (before : List (Op × ℕ)) (operation : Op × ℕ) (answer : Answer) → l.phase ≡ Works (Keeping (MarkTaken place count)) → Ran l before last → (p : Performs last operation) → (turn (lent p.given) operation.1).outcome ≡ Answers answer
    → length before + 2 ≡ steps_by answer
stores l last place count [] operation answer e ran p a =
    let at : (lent p.given).phase ≡ Works (Keeping (MarkTaken place count)) = ap (λ (k : Local). k.phase) (p.given.comes.stands ∙ sym ran) ∙ e in
    sym (store_answers (lent p.given) place count operation.1 answer at a)
stores l last place count (x ∷ before) operation answer e ran p a =
    let at : (lent ran.0.given).phase ≡ Works (Keeping (MarkTaken place count)) = ap (λ (k : Local). k.phase) ran.0.given.comes.stands ∙ e in
    absurd (idle_rests (after (lent ran.0.given) x.1) last before operation (store_ends (lent ran.0.given) place count x.1 at) ran.1 p)

-- from the exchange on
exchanges : (l last : Local) (place : ℕ) (before : List (Op × ℕ)) (operation : Op × ℕ) (answer : Answer) → l.phase ≡ Works (Keeping (TakeList place)) → Ran l before last → (p : Performs last operation) → (turn (lent p.given) operation.1).outcome ≡ Answers answer
    → length before + 1 ≡ steps_by answer
exchanges l last place [] operation answer e ran p a =
    let at : (lent p.given).phase ≡ Works (Keeping (TakeList place)) = ap (λ (k : Local). k.phase) (p.given.comes.stands ∙ sym ran) ∙ e in
    sym (exchange_answers (lent p.given) place operation.1 answer at a)
exchanges l last place (x ∷ before) operation answer e ran p a = by (x.1 == 1) refl where
  at : (lent ran.0.given).phase ≡ Works (Keeping (TakeList place))
  at = ap (λ (k : Local). k.phase) ran.0.given.comes.stands ∙ e

  by : (left : Bool) → (x.1 == 1) ≡ left → length (x ∷ before) + 1 ≡ steps_by answer
  by true f =
      let next = exchange_goes (lent ran.0.given) place x.1 at f in
      let rest = stores (after (lent ran.0.given) x.1) last place (length (lent ran.0.given).desk.gift) before operation answer next ran.1 p a in
      omega (rest, arith)
  by false f = absurd (idle_rests (after (lent ran.0.given) x.1) last before operation (exchange_ends (lent ran.0.given) place x.1 at f) ran.1 p)

adopt_steps : (layout : Layout) (old new : SeatNow) (place : ℕ) (answer : Answer) → IsMade layout old new (names.Adopt place) answer → steps_of new ≡ steps_by answer
adopt_steps layout old new place answer m =
    let a = m.ends.answered in
    let counted = exchanges (begun old.track.local (names.Adopt place)) a.last place a.before a.operation answer refl a.ran a.performs a.answers in
    let ops : length m.ops ≡ length a.before + 1 = ap length a.ops_are ∙ length-append a.before (a.operation ∷ []) in
    m.ends.left.noted ∙ ops ∙ counted

adopted_bounded : (layout : Layout) (old new : SeatNow) (place count : ℕ) → IsMade layout old new (names.Adopt place) (answers.Adopted count) → steps_of new ≡ 2
adopted_bounded layout old new place count m = adopt_steps layout old new place (answers.Adopted count) m

unadopted_bounded : (layout : Layout) (old new : SeatNow) (place found : ℕ) → IsMade layout old new (names.Adopt place) (not_taken found) → steps_of new ≡ 1
unadopted_bounded layout old new place found m = adopt_steps layout old new place (not_taken found) m ∙ missed_by found

-- so it is with what came of it
pub adopt_bound : (layout : Layout) (old new : SeatNow) (place : ℕ) (r : Result ℕ ℕ) → MatchResult r (λ count. IsMade layout old new (names.Adopt place) (answers.Adopted count)) (λ found. IsMissed layout old new place found)
    → MatchResult r (λ count. steps_of new ≡ 2) (λ found. steps_of new ≡ 1)
adopt_bound layout old new place (Ok count) m = adopted_bounded layout old new place count m
adopt_bound layout old new place (Err found) m = unadopted_bounded layout old new place found m.made

-- a word that is not 0, where no list was taken over, is that of a list that had been before
pub adopted_before : (found : ℕ) → (found ≡ 0 → ⊥) → not_taken found ≡ answers.AdoptedBefore
adopted_before found other = let apart : (found == 0) ≡ false = false_by (found == 0) (λ e. other (number_is found 0 e)) in rw apart refl
