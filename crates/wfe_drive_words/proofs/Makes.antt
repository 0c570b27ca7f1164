-- The code's steps on its words, at every state at which the seat may be.
use Rattle.std.proofs.Common.{Bool, List, [], ap, append-nil, append_assoc, false, refl, subst, sym, true, ℕ, ◌++◌, ◌∙◌, ◌∷◌, ◌≡◌}
use Rattle.std.specs.Prelude.{None, Option, Some}
use Rattle.wfe_core.specs.defs.declared.call.Answer.{Answer}
use Rattle.wfe_core.specs.defs.declared.call.Call.{Call}
use Rattle.wfe_core.specs.defs.declared.call.Call.TheVariants as names
use Rattle.wfe_core.specs.defs.declared.event.Event.{Event}
use Rattle.wfe_core.specs.Calls.{Answers, CallOutcome, CallTurn, GoesOn, Idle, Phase}
use Rattle.wfe_core.specs.DeskHeld.{Took, desk_of}
use Rattle.wfe_core.specs.Desks.{Desk, no_notes, noting}
use Rattle.wfe_core.specs.Frames.{SamePlace}
use Rattle.wfe_core.specs.words.Schemes.{publishes_rows}
use Rattle.wfe_core.specs.Locals.{Local, after, asks, begun, begun_post, busy_in, may_begin, rounds_told, settled_by, stays, told_by, turn}
use Rattle.wfe_core.specs.Rounds.{scheme_of}
use Rattle.wfe_core.specs.Steps.{first_phase}
use Rattle.wfe_core.specs.declared.desk.Desk.{Desk as HeldDesk}
use Rattle.wfe_core.specs.declared.op.Op.{Op}
use Rattle.wfe_core.specs.declared.post.Post.{Post}
use Rattle.laws.specs.AnswerLaw.{suits}
use Rattle.wfe_drive_cells.specs.Unit.{Leaves, SeatView, begun_seat, kept_desk, phase_after, seat_left, shown, turned, may_adopt}
use Rattle.wfe_drive_cells.proofs.Turns.{leaves}
use Rattle.wfe_drive_words.specs.Called.{Called, Ends, Here, LeadsTo, Makes, at_phase}
use Rattle.wfe_drive_words.specs.Comes.{Comes, Given, departs, lent}
use Rattle.wfe_drive_words.specs.Ran.{Answered, Left, Performs, Ran}
use Rattle.wfe_drive_words.specs.Readiness.{MayAsk, MayTake}
use Rattle.wfe_drive_words.proofs.Groups.{answered_call, left_by, ran_call, ran_stays}
use Rattle.wfe_drive_words.proofs.Histories.{may_ask, may_take}
use Rattle.wfe_drive_words.proofs.Lending.{lent_lone}
use Rattle.wfe_drive_cells.specs.declared.located.Located.{Located}
use Rattle.wfe_drive_words.specs.Path.{placed}
use Rattle.wfe_drive_cells.specs.Spots.{located}

-- the seat is as its code has it
pub busy_shown : (l : Local) (seat : SeatView) (b : Bool) → shown l ≡ seat → busy_in seat.phase ≡ b → busy_in l.phase ≡ b
busy_shown l seat b e h = ap (λ (v : SeatView). busy_in v.phase) e ∙ h

asks_shown : (l : Local) (seat : SeatView) (op : Located) → shown l ≡ seat → op ≡ placed seat → op ≡ located l.post.layout (asks l)
asks_shown l seat op e o = o ∙ ap placed (sym e)

pub may_ask_at : (l : Local) (seat : SeatView) → Comes l → shown l ≡ seat → MayAsk seat
may_ask_at l seat c e = subst MayAsk e (may_ask l c)

-- what the words' clauses say of one step, at each state
abbrev pub Steps : (at_old at_new : Local → Type 0) (op : Located) (n : ℕ) → Type 0
Steps at_old at_new op n = (l : Local) → at_old l → busy_in l.phase ≡ true → op ≡ located l.post.layout (asks l) → (g : Given l n) × at_new (after (lent g) n)

-- the code may make its step
pub asks_at : (at : Local → Type 0) (seat : SeatView) (op : Located) → Here at seat → busy_in seat.phase ≡ true → op ≡ placed seat → (l : Local) × at l × (busy_in l.phase ≡ true) × (op ≡ located l.post.layout (asks l)) × (stays l.call ≡ true)
asks_at at seat op h b o =
    let busy : busy_in h.local.phase ≡ true = busy_shown h.local seat true h.is b in (h.local, h.there, busy, asks_shown h.local seat op h.is o, h.staying busy)

pub takes_at : (at_old at_new : Local → Type 0) (seat : SeatView) (op : Located) (n : ℕ) → Here at_old seat → busy_in seat.phase ≡ true → op ≡ placed seat → Steps at_old at_new op n → MayTake seat n
takes_at at_old at_new seat op n h b o s =
    let busy : busy_in h.local.phase ≡ true = busy_shown h.local seat true h.is b in
    let g = s h.local h.there busy (asks_shown h.local seat op h.is o) in
    subst (λ (v : SeatView). MayTake v n) h.is (may_take h.local n g.0 busy (h.staying busy))

-- where no list is taken over the step makes of the seat what the code makes of it
pub turned_lent : (l : Local) (n : ℕ) (g : Given l n) (seat : SeatView) → shown l ≡ seat → may_adopt seat.phase ≡ false → turned seat n ≡ turn (lent g) n
turned_lent l n g seat e alone = ap (λ (v : SeatView). turned v n) (sym e) ∙ ap (λ (k : Local). turn k n) (sym (lent_lone g (ap (λ (v : SeatView). may_adopt v.phase) e ∙ alone)))

pub shown_settled : (l : Local) (post : Post) (desk : Desk) (rounds : ℕ) (outcome : CallOutcome) → shown (settled_by l post desk rounds outcome) ≡ record { phase = phase_after outcome; post = post; desk = kept_desk desk }
shown_settled l post desk rounds (GoesOn next) = refl
shown_settled l post desk rounds (Answers given) = refl

-- what the code took is what the step leaves of the seat
after_shown : (l : Local) (n : ℕ) (g : Given l n) (seat : SeatView) (post : Post) (held : HeldDesk) (told : List Event) (answer : Option Answer) (phase : Phase) → shown l ≡ seat → may_adopt seat.phase ≡ false → Took (turned seat n) post held told answer phase → shown (after (lent g) n) ≡ seat_left answer phase post held
after_shown l n g seat post held told answer phase e alone k =
    let from : Local = lent g in
    let same : turned seat n ≡ turn from n = turned_lent l n g seat e alone in
    let t : CallTurn = turn from n in
    let left : Leaves t post held told answer phase = leaves t post held told answer phase (subst (λ (x : CallTurn). Took x post held told answer phase) same k) in
    shown_settled from t.post (noting t.desk (told_by t)) (rounds_told (publishes_rows (scheme_of t.post)) from.rounds (told_by t)) t.outcome ∙ sym left.seat_is

pub took_busy : (seat : SeatView) (n : ℕ) (post : Post) (held : HeldDesk) (told : List Event) (phase : Phase) → MayTake seat n → Took (turned seat n) post held told None phase → busy_in phase ≡ true
took_busy seat n post held told phase m k = m.goes phase k.outcome_is

-- one step at one state
record Stepped (at : Local → Type 0) (op : Located) (n : ℕ) (seat : SeatView) (l : Local) : Type 0 where
  performs : Performs l (op.op, n)
  there : at (after (lent performs.given) n)
  is : shown (after (lent performs.given) n) ≡ seat

step_at : (at_old at_new : Local → Type 0) (seat : SeatView) (op : Located) (n : ℕ) (post : Post) (held : HeldDesk) (told : List Event) (answer : Option Answer) (phase : Phase) → busy_in seat.phase ≡ true → may_adopt seat.phase ≡ false → op ≡ placed seat → Steps at_old at_new op n
    → Took (turned seat n) post held told answer phase → (l : Local) → at_old l → shown l ≡ seat → Stepped at_new op n (seat_left answer phase post held) l
step_at at_old at_new seat op n post held told answer phase b alone o s k l a e =
    let busy : busy_in l.phase ≡ true = busy_shown l seat true e b in
    let asked_is : op ≡ located l.post.layout (asks l) = asks_shown l seat op e o in
    let g = s l a busy asked_is in
    record { performs = record { busy = busy; asked = ap (λ (at : Located). at.op) asked_is; given = g.0 }; there = g.1; is = after_shown l n g.0 seat post held told answer phase e alone k }

-- a state at which the seat may be after it
pub here_after : (at_old at_new : Local → Type 0) (seat : SeatView) (op : Located) (n : ℕ) (post : Post) (held : HeldDesk) (told : List Event) (phase : Phase) → Here at_old seat → busy_in seat.phase ≡ true → may_adopt seat.phase ≡ false → op ≡ placed seat → Steps at_old at_new op n
    → Took (turned seat n) post held told None phase → Here at_new (at_phase phase post held)
here_after at_old at_new seat op n post held told phase h b alone o s k =
    let x : Stepped at_new op n (at_phase phase post held) h.local = step_at at_old at_new seat op n post held told None phase b alone o s k h.local h.there h.is in
    let p : Performs h.local (op.op, n) = x.performs in
    record { local = after (lent p.given) n; there = x.there; is = x.is; staying = ran_stays h.local ((op.op, n) ∷ []) (after (lent p.given) n) (p, refl) h.staying; here = ap departs (ran_call h.local ((op.op, n) ∷ []) (after (lent p.given) n) (p, refl)) ∙ h.here }

-- the operations so far: none yet
pub makes_none : (at : Local → Type 0) (stands : List (Op × ℕ) → Type 0) (seat : SeatView) → Makes (λ ops l m. Ran l ops m) at at stands stands seat seat
makes_none at stands seat = record {
  ops = [];
  each = λ l a e. record { left = l; by = refl; there = a; is = e };
  stands = λ xs s. subst stands (sym (append-nil xs)) s;
}

-- and one more
ran_on : (l : Local) (xs : List (Op × ℕ)) (m : Local) (x : Op × ℕ) → Ran l xs m → (p : Performs m x) → Ran l (xs ++ x ∷ []) (after (lent p.given) x.1)
ran_on l [] m x r p = subst (λ (k : Local). (q : Performs k x) → Ran l (x ∷ []) (after (lent q.given) x.1)) r (λ q. (q, refl)) p
ran_on l (y ∷ ys) m x r p =
    let first : Performs l y = r.0 in
    (first, ran_on (after (lent first.given) y.1) ys m x r.1 p)

stands_more : (stands0 stands1 stands2 : List (Op × ℕ) → Type 0) (ops : List (Op × ℕ)) (x : Op × ℕ) → ((xs : List (Op × ℕ)) → stands0 xs → stands1 (xs ++ ops)) → ((xs : List (Op × ℕ)) → stands1 xs → stands2 (xs ++ x ∷ []))
    → (xs : List (Op × ℕ)) → stands0 xs → stands2 (xs ++ (ops ++ x ∷ []))
stands_more stands0 stands1 stands2 ops x f g xs s = subst stands2 (append_assoc xs ops (x ∷ [])) (g (xs ++ ops) (f xs s))

pub makes_more : (at0 at1 at2 : Local → Type 0) (stands0 stands1 stands2 : List (Op × ℕ) → Type 0) (first seat : SeatView) (op : Located) (n : ℕ) (post : Post) (held : HeldDesk) (told : List Event) (phase : Phase)
    → Makes (λ ops l m. Ran l ops m) at0 at1 stands0 stands1 first seat → busy_in seat.phase ≡ true → may_adopt seat.phase ≡ false → op ≡ placed seat → Steps at1 at2 op n → ((xs : List (Op × ℕ)) → stands1 xs → stands2 (xs ++ (op.op, n) ∷ []))
    → Took (turned seat n) post held told None phase → Makes (λ ops l m. Ran l ops m) at0 at2 stands0 stands2 first (at_phase phase post held)
makes_more at0 at1 at2 stands0 stands1 stands2 first seat op n post held told phase d b alone o s more k = record {
  ops = d.ops ++ (op.op, n) ∷ [];
  each = λ l a e.
      let to : LeadsTo (λ ops l m. Ran l ops m) at1 seat d.ops l = d.each l a e in
      let x : Stepped at2 op n (at_phase phase post held) to.left = step_at at1 at2 seat op n post held told None phase b alone o s k to.left to.there to.is in
      let p : Performs to.left (op.op, n) = x.performs in
      record { left = after (lent p.given) n; by = ran_on l d.ops to.left (op.op, n) to.by x.performs; there = x.there; is = x.is };
  stands = stands_more stands0 stands1 stands2 d.ops (op.op, n) d.stands more;
}

-- the last one answers
pub makes_answer : (at0 at1 at2 : Local → Type 0) (stands0 stands1 stands2 : List (Op × ℕ) → Type 0) (first seat : SeatView) (op : Located) (n : ℕ) (post : Post) (held : HeldDesk) (told : List Event) (answer : Answer) (phase : Phase)
    → Makes (λ ops l m. Ran l ops m) at0 at1 stands0 stands1 first seat → busy_in seat.phase ≡ true → may_adopt seat.phase ≡ false → op ≡ placed seat → Steps at1 at2 op n → ((xs : List (Op × ℕ)) → stands1 xs → stands2 (xs ++ (op.op, n) ∷ []))
    → Took (turned seat n) post held told (Some answer) phase → Makes (λ ops l m. Answered l ops answer m) at0 at2 stands0 stands2 first (at_phase Idle post held)
makes_answer at0 at1 at2 stands0 stands1 stands2 first seat op n post held told answer phase d b alone o s more k = record {
  ops = d.ops ++ (op.op, n) ∷ [];
  each = λ l a e.
      let to : LeadsTo (λ ops l m. Ran l ops m) at1 seat d.ops l = d.each l a e in
      let x : Stepped at2 op n (at_phase Idle post held) to.left = step_at at1 at2 seat op n post held told (Some answer) phase b alone o s k to.left to.there to.is in
      let p : Performs to.left (op.op, n) = x.performs in
      let same : turned seat n ≡ turn (lent p.given) n = turned_lent to.left n p.given seat to.is alone in
      record {
        left = after (lent p.given) n;
        by = record {
          before = d.ops;
          last = to.left;
          operation = (op.op, n);
          ops_are = refl;
          ran = to.by;
          performs = x.performs;
          answers = subst (λ (t : CallTurn). t.outcome ≡ Answers answer) same k.outcome_is;
          left = refl;
        };
        there = x.there;
        is = x.is;
      };
  stands = stands_more stands0 stands1 stands2 d.ops (op.op, n) d.stands more;
}

-- what the words' clauses say of a call that begins, at each state
abbrev pub Starts : (at_old at_new : Local → Type 0) → Call → Type 0
Starts at_old at_new call = (l : Local) → at_old l → busy_in l.phase ≡ false → may_begin l.post.layout.config call ≡ true → at_new (begun l call)

pub may_shown : (l : Local) (seat : SeatView) (call : Call) → shown l ≡ seat → may_begin seat.post.layout.config call ≡ true → may_begin l.post.layout.config call ≡ true
may_shown l seat call e m = ap (λ (v : SeatView). may_begin v.post.layout.config call) e ∙ m

-- the code may begin it
pub starts_at : (at : Local → Type 0) (post : Post) (held : HeldDesk) (call : Call) → Here at (at_phase Idle post held) → may_begin post.layout.config call ≡ true
    → (l : Local) × at l × (busy_in l.phase ≡ false) × (departs l.call ≡ false) × (may_begin l.post.layout.config call ≡ true)
starts_at at post held call h m = (h.local, h.there, busy_shown h.local (at_phase Idle post held) false h.is refl, h.here, may_shown h.local (at_phase Idle post held) call h.is m)

-- one who stays has not left
stays_here : (call : Call) → stays call ≡ true → departs call ≡ false
stays_here names.Leave s = absurd (cc)
stays_here call s = refl

-- a call begins
begun_shown : (l : Local) (call : Call) (post : Post) (old new : HeldDesk) (phase : Phase) → shown l ≡ at_phase Idle post old → phase ≡ first_phase call (begun_post post) → desk_of new ≡ record (desk_of old) { notes = no_notes }
    → shown (begun l call) ≡ at_phase phase (begun_post post) new
begun_shown l call post old new phase e p d =
    let begins : SeatView = begun_seat (at_phase Idle post old) call in
    ap (λ (v : SeatView). begun_seat v call) e
    ∙ ap (λ (desk : Desk). let v : SeatView = record { phase = begins.phase; post = begins.post; desk = desk } in v) (sym d)
    ∙ ap (λ (x : Phase). let v : SeatView = record { phase = x; post = begins.post; desk = desk_of new } in v) (sym p)

pub here_begun : (at_old at_new : Local → Type 0) (call : Call) (post : Post) (old new : HeldDesk) (phase : Phase) → Here at_old (at_phase Idle post old) → Starts at_old at_new call → may_begin post.layout.config call ≡ true → stays call ≡ true
    → phase ≡ first_phase call (begun_post post) → desk_of new ≡ record (desk_of old) { notes = no_notes } → Here at_new (at_phase phase (begun_post post) new)
here_begun at_old at_new call post old new phase h begins m s p d = record {
  local = begun h.local call;
  there = begins h.local h.there (busy_shown h.local (at_phase Idle post old) false h.is refl) (may_shown h.local (at_phase Idle post old) call h.is m);
  is = begun_shown h.local call post old new phase h.is p d;
  staying = λ b. s;
  here = stays_here call s;
}

-- and what it has made once it is answered
pub called_by : (at0 at1 at2 : Local → Type 0) (stands0 stands1 stands2 : List (Op × ℕ) → Type 0) (call : Call) (answer : Answer) (post : Post) (old new : HeldDesk) (phase : Phase) (seat : SeatView)
    → Starts at0 at1 call → may_begin post.layout.config call ≡ true → ((xs : List (Op × ℕ)) → stands0 xs → stands1 xs) → phase ≡ first_phase call (begun_post post) → desk_of new ≡ record (desk_of old) { notes = no_notes }
    → Makes (λ ops l m. Answered l ops answer m) at1 at2 stands1 stands2 (at_phase phase (begun_post post) new) seat → Called call answer at0 at2 stands0 stands2 (at_phase Idle post old) seat
called_by at0 at1 at2 stands0 stands1 stands2 call answer post old new phase seat begins may stays p d m = record {
  ops = m.ops;
  each = λ l a e.
      let first : at1 (begun l call) = begins l a (busy_shown l (at_phase Idle post old) false e refl) (may_shown l (at_phase Idle post old) call e may) in
      let to : LeadsTo (λ ops l m. Answered l ops answer m) at2 seat m.ops (begun l call) = m.each (begun l call) first (begun_shown l call post old new phase e p d) in
      record { left = to.left; by = record { answered = to.by; left = left_by l call m.ops answer to.left to.by }; there = to.there; is = to.is };
  stands = λ xs s. m.stands xs (stays xs s);
}

-- what follows for the code alone
pub record Over (at : Local → Type 0) (call : Call) (answer : Answer) (old : Post) (post : Post) (held : HeldDesk) : Type 0 where
  pub here : Here at (at_phase Idle post held)
  pub place : SamePlace old post
  pub suits : suits call answer ≡ true

pub over_by : (at0 at1 : Local → Type 0) (stands0 stands1 : List (Op × ℕ) → Type 0) (call : Call) (answer : Answer) (old : Post) (held0 : HeldDesk) (post : Post) (held : HeldDesk) → stays call ≡ true → Here at0 (at_phase Idle old held0)
    → Called call answer at0 at1 stands0 stands1 (at_phase Idle old held0) (at_phase Idle post held) → Over at1 call answer old post held
over_by at0 at1 stands0 stands1 call answer old held0 post held s h c =
    let to : LeadsTo (Ends call answer) at1 (at_phase Idle post held) c.ops h.local = c.each h.local h.there h.is in
    let e : Ends call answer c.ops h.local to.left = to.by in
    let left : Left h.local call c.ops answer to.left = e.left in
    let first : h.local.post ≡ old = ap (λ (v : SeatView). v.post) h.is in
    let last : to.left.post ≡ post = ap (λ (v : SeatView). v.post) to.is in
    record {
      here = record { local = to.left; there = to.there; is = to.is; staying = λ b. let no : busy_in to.left.phase ≡ false = ap busy_in left.idle in absurd (cc); here = ap departs (answered_call (begun h.local call) c.ops answer to.left e.answered) ∙ stays_here call s };
      place = subst (λ (p : Post). SamePlace p post) first (subst (λ (p : Post). SamePlace h.local.post p) last left.place);
      suits = left.may;
    }
