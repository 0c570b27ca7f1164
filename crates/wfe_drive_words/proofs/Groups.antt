-- What a call that was answered leaves of its seat.
use Rattle.std.proofs.Common.{List, [], ap, arith, length, length-append, refl, suc, subst, sym, true, ℕ, ◌+◌, ◌++◌, ◌∙◌, ◌∷◌, ◌≡◌}
use Rattle.wfe_core.specs.defs.declared.call.Answer.{Answer}
use Rattle.wfe_core.specs.defs.declared.call.Call.{Call}
use Rattle.wfe_core.specs.defs.declared.event.Event.{Event}
use Rattle.wfe_core.specs.defs.declared.event.Event.TheVariants as events
use Rattle.wfe_core.specs.Calls.{Answers, CallOutcome, CallTurn, GoesOn}
use Rattle.wfe_core.specs.Desks.{Desk, Notes, noted, noted_all, noting}
use Rattle.wfe_core.specs.Frames.{SamePlace}
use Rattle.wfe_core.specs.words.Schemes.{publishes_rows}
use Rattle.wfe_core.specs.Locals.{Group, Local, after, begun, busy_in, rounds_told, settled_by, stays, told_by, told_end, turn}
use Rattle.wfe_core.specs.Rounds.{scheme_of}
use Rattle.wfe_core.specs.declared.op.Op.{Op}
use Rattle.wfe_core.specs.declared.post.Post.{Post}
use Rattle.wfe_core.proofs.CallFrames.{stays_in_place}
use Rattle.wfe_core.proofs.Facts.{no_truth_2}
use Rattle.wfe_core.proofs.Frames.{same, same_along}
use Rattle.laws.specs.AnswerLaw.{suits}
use Rattle.wfe_drive_words.specs.Comes.{lent}
use Rattle.wfe_drive_words.specs.Ran.{Answered, Left, Performs, Ran}
use Rattle.wfe_drive_words.specs.Readiness.{Settles}
use Rattle.wfe_drive_words.proofs.Histories.{settles}
use Rattle.wfe_drive_words.proofs.Lending.{lent_call, lent_post}

-- a step that leaves the call under way puts nothing into the log, and none changes which call it is
goes_log : (l : Local) (post : Post) (desk : Desk) (rounds : ℕ) (outcome : CallOutcome) → busy_in (settled_by l post desk rounds outcome).phase ≡ true → (settled_by l post desk rounds outcome).log ≡ l.log
goes_log l post desk rounds (GoesOn phase) b = refl
goes_log l post desk rounds (Answers answer) b = no_truth_2 b

keeps_call : (l : Local) (post : Post) (desk : Desk) (rounds : ℕ) (outcome : CallOutcome) → (settled_by l post desk rounds outcome).call ≡ l.call
keeps_call l post desk rounds (GoesOn phase) = refl
keeps_call l post desk rounds (Answers answer) = refl

after_log : (l : Local) (n : ℕ) → busy_in (after l n).phase ≡ true → (after l n).log ≡ l.log
after_log l n b =
    let t : CallTurn = turn l n in
    goes_log l t.post (noting t.desk (told_by t)) (rounds_told (publishes_rows (scheme_of t.post)) l.rounds (told_by t)) t.outcome b

pub after_call : (l : Local) (n : ℕ) → (after l n).call ≡ l.call
after_call l n =
    let t : CallTurn = turn l n in
    keeps_call l t.post (noting t.desk (told_by t)) (rounds_told (publishes_rows (scheme_of t.post)) l.rounds (told_by t)) t.outcome

-- along the steps before the last
record Along (l : Local) (count : ℕ) (m : Local) : Type 0 where
  log : m.log ≡ l.log
  call : m.call ≡ l.call
  steps : m.post.steps ≡ l.post.steps + count
  place : SamePlace l.post m.post

busy_first : (l : Local) (xs : List (Op × ℕ)) (m : Local) → Ran l xs m → busy_in m.phase ≡ true → busy_in l.phase ≡ true
busy_first l [] m r b = ap (λ (k : Local). busy_in k.phase) r ∙ b
busy_first l (x ∷ xs) m r b = let p : Performs l x = r.0 in p.busy

-- steps change not which call it is
pub ran_call : (l : Local) (xs : List (Op × ℕ)) (m : Local) → Ran l xs m → m.call ≡ l.call
ran_call l [] m r = ap (λ (k : Local). k.call) (sym r)
ran_call l (x ∷ xs) m r =
    let p : Performs l x = r.0 in
    ran_call (after (lent p.given) x.1) xs m r.1 ∙ after_call (lent p.given) x.1 ∙ lent_call p.given

-- a call of a seat that stays goes on as one
pub ran_stays : (l : Local) (xs : List (Op × ℕ)) (m : Local) → Ran l xs m → (busy_in l.phase ≡ true → stays l.call ≡ true) → busy_in m.phase ≡ true → stays m.call ≡ true
ran_stays l xs m r s b = ap stays (ran_call l xs m r) ∙ s (busy_first l xs m r b)

pub answered_call : (l : Local) (ops : List (Op × ℕ)) (answer : Answer) (m : Local) → Answered l ops answer m → m.call ≡ l.call
answered_call l ops answer m a =
    let p : Performs a.last a.operation = a.performs in
    ap (λ (k : Local). k.call) a.left ∙ after_call (lent p.given) a.operation.1 ∙ lent_call p.given ∙ ran_call l a.before a.last a.ran

none_made : (n : ℕ) → n ≡ n + 0
none_made n = omega arith

one_made : (first next last count : ℕ) → next ≡ first + 1 → last ≡ next + count → last ≡ first + suc count
one_made first next last count e f = omega (e, f, arith)

along : (l : Local) (xs : List (Op × ℕ)) (m : Local) → Ran l xs m → busy_in m.phase ≡ true → Along l (length xs) m
along l [] m r b = subst (λ (k : Local). Along l 0 k) r (record { log = refl; call = refl; steps = none_made l.post.steps; place = same l.post })
along l (x ∷ xs) m r b =
    let p : Performs l x = r.0 in
    let to : Local = lent p.given in
    let next : Local = after to x.1 in
    let a : Along next (length xs) m = along next xs m r.1 b in
    let s : Settles l x.1 p.given = settles l x.1 p.given p.busy in
    record {
      log = a.log ∙ after_log to x.1 (busy_first next xs m r.1 b) ∙ ap (λ (k : Local). k.log) p.given.comes.stands;
      call = a.call ∙ after_call to x.1 ∙ lent_call p.given;
      steps = one_made l.post.steps next.post.steps m.post.steps (length xs) s.counts a.steps;
      place = same_along l.post next.post m.post (subst (λ (post : Post). SamePlace post next.post) (lent_post p.given) (stays_in_place.steps to x.1)) a.place;
    }

-- End is noted last, with the steps that it tells
end_noted : (notes : Notes) (told : List Event) (steps : ℕ) (answer : Answer) → (noted_all notes (told ++ events.End steps answer ∷ [])).steps ≡ steps
end_noted notes [] steps answer = refl
end_noted notes (event ∷ told) steps answer = end_noted (noted notes event) told steps answer

-- the count of the operations is that of the steps
all_made : (before : List (Op × ℕ)) (operation : Op × ℕ) (start last after : ℕ) → start ≡ 0 → last ≡ start + length before → after ≡ last + 1 → after ≡ length (before ++ operation ∷ [])
all_made before operation start last after z e f = rw length-append (omega (z, e, f, arith))

pub left_by : (l : Local) (call : Call) (ops : List (Op × ℕ)) (answer : Answer) (m : Local) → Answered (begun l call) ops answer m → Left l call ops answer m
left_by l call ops answer m a =
    let last : Local = a.last in
    let n : ℕ = a.operation.1 in
    let p : Performs last a.operation = a.performs in
    let before : Along (begun l call) (length a.before) last = along (begun l call) a.before last a.ran p.busy in
    let s : Settles last n p.given = settles last n p.given p.busy in
    let from : Local = lent p.given in
    let t : CallTurn = turn from n in
    let desk : Desk = noting t.desk (told_by t) in
    let to : Local = settled_by from t.post desk (rounds_told (publishes_rows (scheme_of t.post)) from.rounds (told_by t)) (Answers answer) in
    let is : m ≡ to = a.left ∙ ap (settled_by from t.post desk (rounds_told (publishes_rows (scheme_of t.post)) from.rounds (told_by t))) a.answers in
    let notes : m.desk.notes ≡ desk.notes = ap (λ (k : Local). k.desk.notes) is in
    let call_is : last.call ≡ call = before.call in
    let place : SamePlace l.post last.post = same_along l.post (begun l call).post last.post (stays_in_place.begins l call) before.place in
    let made : m.post.steps ≡ length ops = all_made a.before a.operation 0 last.post.steps m.post.steps refl before.steps (ap (λ (k : Local). k.post.steps) a.left ∙ s.counts) ∙ ap length (sym a.ops_are) in
    let told : told_by t ≡ t.told ++ events.End t.post.steps answer ∷ [] = ap (λ (o : CallOutcome). t.told ++ told_end t.post o) a.answers in
    let ended : desk.notes.steps ≡ t.post.steps = ap (λ (events : List Event). (noted_all t.desk.notes events).steps) told ∙ end_noted t.desk.notes t.told t.post.steps answer in
    record {
      idle = ap (λ (k : Local). k.phase) is;
      place = same_along l.post last.post m.post place (subst (λ (post : Post). SamePlace post m.post) (lent_post p.given) (subst (λ (k : Local). SamePlace from.post k.post) (sym a.left) (stays_in_place.steps from n)));
      log = ap (λ (k : Local). k.log) is
          ∙ ap (λ (k : Local). k.log ++ record { call = k.call; answer = answer; notes = desk.notes } ∷ []) p.given.comes.stands
          ∙ ap (λ (log : List Group). log ++ record { call = last.call; answer = answer; notes = desk.notes } ∷ []) before.log
          ∙ ap (λ (c : Call). l.log ++ record { call = c; answer = answer; notes = desk.notes } ∷ []) call_is
          ∙ ap (λ (x : Notes). l.log ++ record { call = call; answer = answer; notes = x } ∷ []) (sym notes);
      steps = made;
      noted = ap (λ (x : Notes). x.steps) notes ∙ ended ∙ sym (ap (λ (k : Local). k.post.steps) is) ∙ made;
      may = subst (λ (c : Call). suits c answer ≡ true) call_is (s.answers answer a.answers);
    }
