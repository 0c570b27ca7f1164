-- Steps that code makes without a machine, at every state at which the seat may be.
use Rattle.std.proofs.Common.{List, [], ap, append-nil, append_assoc, false, refl, subst, sym, true, ℕ, ◌+◌, ◌++◌, ◌<◌, ◌^◌, ◌∙◌, ◌∷◌, ◌≡◌, arith}
use Rattle.std.proofs.lemmas.Bool.Decides.{nat_tests}
use Rattle.wfe_core.specs.defs.declared.call.Answer.{Answer}
use Rattle.wfe_core.specs.Calls.{CallTurn}
use Rattle.wfe_core.specs.Desks.{noting}
use Rattle.wfe_core.specs.words.Schemes.{publishes_rows}
use Rattle.wfe_core.specs.Locals.{Local, after, asks, busy_in, rounds_told, told_by, turn}
use Rattle.wfe_core.specs.Memory.{bump}
use Rattle.wfe_core.specs.Posts.{counted}
use Rattle.wfe_core.specs.Rounds.{scheme_of}
use Rattle.wfe_core.specs.Steps.{phase_turn}
use Rattle.wfe_core.specs.declared.op.Op.{Op}
use Rattle.wfe_core.specs.declared.post.Post.{Post}
use Rattle.wfe_drive_cells.specs.Unit.{SeatView, seat_after, shown, may_adopt}
use Rattle.wfe_drive_words.specs.Called.{Here, LeadsTo, Makes}
use Rattle.wfe_drive_words.specs.Comes.{Comes, departs, lent}
use Rattle.wfe_drive_words.specs.Path.{AsksFor, Closes, Leads, StepsOn, left_by, placed, stepped, taken}
use Rattle.wfe_drive_words.specs.Ran.{Answered, Performs, Ran}
use Rattle.wfe_drive_words.specs.Readiness.{MayTake}
use Rattle.wfe_drive_words.proofs.Groups.{ran_call, ran_stays}
use Rattle.wfe_drive_words.proofs.Histories.{few_steps}
use Rattle.wfe_drive_words.proofs.Makes.{Steps, busy_shown, may_ask_at, shown_settled, takes_at, turned_lent}
use Rattle.wfe_drive_cells.specs.declared.located.Located.{Located}
use Rattle.wfe_drive_cells.specs.Spots.{located}

-- a call has few steps, so one more is counted
bump-is : (n : ℕ) → n < 2 ^ 62 → bump n ≡ n + 1
bump-is n h = grind (arith, nat_tests)

counted-is : (post : Post) → post.steps < 2 ^ 62 → counted post ≡ stepped post
counted-is post h = ap (λ (n : ℕ). let p : Post = record post { steps = n } in p) (bump-is post.steps h)

-- the seat after its step
after-is : (l : Local) (n : ℕ) → shown (after l n) ≡ seat_after (turn l n)
after-is l n =
    let t : CallTurn = turn l n in
    shown_settled l t.post (noting t.desk (told_by t)) (rounds_told (publishes_rows (scheme_of t.post)) l.rounds (told_by t)) t.outcome

-- the state after a step, and that step
record Stepped (at : Local → Type 0) (op : Located) (n : ℕ) (seat : SeatView) (l : Local) : Type 0 where
  performs : Performs l (op.op, n)
  there : at (after (lent performs.given) n)
  is : shown (after (lent performs.given) n) ≡ left_by seat n
  same : turn (lent performs.given) n ≡ taken seat n

stepped-at : (at_old at_new : Local → Type 0) (seat : SeatView) (op : Located) (n : ℕ) → busy_in seat.phase ≡ true → may_adopt seat.phase ≡ false → op ≡ placed seat → seat.post.steps < 2 ^ 62 → Steps at_old at_new op n → (l : Local) → at_old l → shown l ≡ seat → Stepped at_new op n seat l
stepped-at at_old at_new seat op n b alone o few s l a e =
    let busy : busy_in l.phase ≡ true = busy_shown l seat true e b in
    let asked_is : op ≡ located l.post.layout (asks l) = o ∙ ap placed (sym e) in
    let g = s l a busy asked_is in
    let same : turn (lent g.0) n ≡ taken seat n = sym (turned_lent l n g.0 seat e alone) ∙ ap (λ (p : Post). phase_turn seat.phase p seat.desk n) (counted-is seat.post few) in
    record { performs = record { busy = busy; asked = ap (λ (at : Located). at.op) asked_is; given = g.0 }; there = g.1; is = after-is (lent g.0) n ∙ ap seat_after same; same = same }

-- what is known of a step that was made
pub steps_on : (at_old at_new : Local → Type 0) (stands_old stands_new : List (Op × ℕ) → Type 0) (seat : SeatView) (op : Located) (n : ℕ) → AsksFor at_old seat op → ((l : Local) → at_old l → Comes l) → Steps at_old at_new op n
    → ((xs : List (Op × ℕ)) → stands_old xs → stands_new (xs ++ (op.op, n) ∷ [])) → StepsOn at_old at_new stands_old stands_new seat n
steps_on at_old at_new stands_old stands_new seat op n a comes s more =
    let h : Here at_old seat = a.here in
    let c : Comes h.local = comes h.local h.there in
    let few : seat.post.steps < 2 ^ 62 = subst (λ (v : SeatView). v.post.steps < 2 ^ 62) h.is (few_steps h.local c (busy_shown h.local seat true h.is a.busy)) in
    let may : MayTake seat n = takes_at at_old at_new seat op n h a.busy a.is s in
    record {
      ask = may_ask_at h.local seat c h.is;
      take = may;
      few = few;
      leads = record {
        ops = (op.op, n) ∷ [];
        each = λ l there e.
            let x : Stepped at_new op n seat l = stepped-at at_old at_new seat op n a.busy may.alone a.is few s l there e in
            let p : Performs l (op.op, n) = x.performs in
            record { left = after (lent p.given) n; by = (p, refl); there = x.there; is = x.is };
        stands = more;
      };
      closes = λ answer ends. record {
        ops = (op.op, n) ∷ [];
        each = λ l there e.
            let x : Stepped at_new op n seat l = stepped-at at_old at_new seat op n a.busy may.alone a.is few s l there e in
            let p : Performs l (op.op, n) = x.performs in
            record {
              left = after (lent p.given) n;
              by = record {
                before = [];
                last = l;
                operation = (op.op, n);
                ops_are = refl;
                ran = refl;
                performs = x.performs;
                answers = ap (λ (t : CallTurn). t.outcome) x.same ∙ ends;
                left = refl;
              };
              there = x.there;
              is = x.is;
            };
        stands = more;
      };
    }

-- where the seat is after steps
pub here_on : {at_old at_new : Local → Type 0} {stands_old stands_new : List (Op × ℕ) → Type 0} {old new : SeatView} → Here at_old old → Leads at_old at_new stands_old stands_new old new → Here at_new new
here_on {at_new = at_new} {new = new} h m =
    let to : LeadsTo (λ ops l k. Ran l ops k) at_new new m.ops h.local = m.each h.local h.there h.is in
    record { local = to.left; there = to.there; is = to.is; staying = ran_stays h.local m.ops to.left to.by h.staying; here = ap departs (ran_call h.local m.ops to.left to.by) ∙ h.here }

-- no steps
pub leads_none : (at : Local → Type 0) (stands : List (Op × ℕ) → Type 0) (seat : SeatView) → Leads at at stands stands seat seat
leads_none at stands seat = record {
  ops = [];
  each = λ l a e. record { left = l; by = refl; there = a; is = e };
  stands = λ xs s. subst stands (sym (append-nil xs)) s;
}

-- steps after steps
ran-append : (l m k : Local) (xs ys : List (Op × ℕ)) → Ran l xs m → Ran m ys k → Ran l (xs ++ ys) k
ran-append l m k [] ys r s = subst (λ (i : Local). Ran i ys k) (sym r) s
ran-append l m k (x ∷ xs) ys r s =
    let p : Performs l x = r.0 in
    (p, ran-append (after (lent p.given) x.1) m k xs ys r.1 s)

answered-append : (answer : Answer) (l m k : Local) (xs ys : List (Op × ℕ)) → Ran l xs m → Answered m ys answer k → Answered l (xs ++ ys) answer k
answered-append answer l m k xs ys r a = record {
  before = xs ++ a.before;
  last = a.last;
  operation = a.operation;
  ops_are = ap (λ (zs : List (Op × ℕ)). xs ++ zs) a.ops_are ∙ sym (append_assoc xs a.before (a.operation ∷ []));
  ran = ran-append l m a.last xs a.before r a.ran;
  performs = a.performs;
  answers = a.answers;
  left = a.left;
}

joined : (path : List (Op × ℕ) → Local → Local → Type 0) → ((l m k : Local) (xs ys : List (Op × ℕ)) → Ran l xs m → path ys m k → path (xs ++ ys) l k)
    → (at0 at1 at2 : Local → Type 0) (stands0 stands1 stands2 : List (Op × ℕ) → Type 0) (a b c : SeatView) → Leads at0 at1 stands0 stands1 a b → Makes path at1 at2 stands1 stands2 b c → Makes path at0 at2 stands0 stands2 a c
joined path join at0 at1 at2 stands0 stands1 stands2 a b c x y = record {
  ops = x.ops ++ y.ops;
  each = λ l there e.
      let first : LeadsTo (λ ops l m. Ran l ops m) at1 b x.ops l = x.each l there e in
      let second : LeadsTo path at2 c y.ops first.left = y.each first.left first.there first.is in
      record { left = second.left; by = join l first.left second.left x.ops y.ops first.by second.by; there = second.there; is = second.is };
  stands = λ xs s. subst stands2 (append_assoc xs x.ops y.ops) (y.stands (xs ++ x.ops) (x.stands xs s));
}

pub then_leads : {at0 at1 at2 : Local → Type 0} {stands0 stands1 stands2 : List (Op × ℕ) → Type 0} {a b c : SeatView} → Leads at0 at1 stands0 stands1 a b → Leads at1 at2 stands1 stands2 b c → Leads at0 at2 stands0 stands2 a c
then_leads x y = joined (λ ops l m. Ran l ops m) ran-append _ _ _ _ _ _ _ _ _ x y

pub then_closes : {answer : Answer} {at0 at1 at2 : Local → Type 0} {stands0 stands1 stands2 : List (Op × ℕ) → Type 0} {a b c : SeatView} → Leads at0 at1 stands0 stands1 a b → Closes answer at1 at2 stands1 stands2 b c → Closes answer at0 at2 stands0 stands2 a c
then_closes x y = joined (λ ops l m. Answered l ops _ m) (answered-append _) _ _ _ _ _ _ _ _ _ x y

-- a seat that is as another
pub leads_as : {at_old at_new : Local → Type 0} {stands_old stands_new : List (Op × ℕ) → Type 0} {old : SeatView} (new as_new : SeatView) → new ≡ as_new → Leads at_old at_new stands_old stands_new old new → Leads at_old at_new stands_old stands_new old as_new
leads_as {at_old = at_old} {at_new = at_new} {stands_old = stands_old} {stands_new = stands_new} {old = old} new as_new e x = subst (λ (v : SeatView). Leads at_old at_new stands_old stands_new old v) e x

pub closes_as : {answer : Answer} {at_old at_new : Local → Type 0} {stands_old stands_new : List (Op × ℕ) → Type 0} {old : SeatView} (new as_new : SeatView) → new ≡ as_new → Closes answer at_old at_new stands_old stands_new old new → Closes answer at_old at_new stands_old stands_new old as_new
closes_as {answer = answer} {at_old = at_old} {at_new = at_new} {stands_old = stands_old} {stands_new = stands_new} {old = old} new as_new e x = subst (λ (v : SeatView). Closes answer at_old at_new stands_old stands_new old v) e x

-- an answer that is as another
pub closes_with : {answer as_answer : Answer} {at_old at_new : Local → Type 0} {stands_old stands_new : List (Op × ℕ) → Type 0} {old new : SeatView} → answer ≡ as_answer → Closes answer at_old at_new stands_old stands_new old new → Closes as_answer at_old at_new stands_old stands_new old new
closes_with {at_old = at_old} {at_new = at_new} {stands_old = stands_old} {stands_new = stands_new} {old = old} {new = new} e x = subst (λ (a : Answer). Closes a at_old at_new stands_old stands_new old new) e x

pub here_as : {at : Local → Type 0} (old as_old : SeatView) → old ≡ as_old → Here at old → Here at as_old
here_as {at = at} old as_old e h = subst (λ (v : SeatView). Here at v) e h

pub leads_from : {at_old at_new : Local → Type 0} {stands_old stands_new : List (Op × ℕ) → Type 0} {new : SeatView} (old as_old : SeatView) → old ≡ as_old → Leads at_old at_new stands_old stands_new old new → Leads at_old at_new stands_old stands_new as_old new
leads_from {at_old = at_old} {at_new = at_new} {stands_old = stands_old} {stands_new = stands_new} {new = new} old as_old e x = subst (λ (v : SeatView). Leads at_old at_new stands_old stands_new v new) e x

pub closes_from : {answer : Answer} {at_old at_new : Local → Type 0} {stands_old stands_new : List (Op × ℕ) → Type 0} {new : SeatView} (old as_old : SeatView) → old ≡ as_old → Closes answer at_old at_new stands_old stands_new old new → Closes answer at_old at_new stands_old stands_new as_old new
closes_from {answer = answer} {at_old = at_old} {at_new = at_new} {stands_old = stands_old} {stands_new = stands_new} {new = new} old as_old e x = subst (λ (v : SeatView). Closes answer at_old at_new stands_old stands_new v new) e x

-- a call under way has few steps
pub few_here : {A : Type 0} {at : Local → Type 0} {seat : SeatView} → ((l : Local) → A → at l → Comes l) → A → Here at seat → busy_in seat.phase ≡ true → seat.post.steps < 2 ^ 62
few_here {seat = seat} comes valid h b = subst (λ (v : SeatView). v.post.steps < 2 ^ 62) h.is (few_steps h.local (comes h.local valid h.there) (busy_shown h.local seat true h.is b))
