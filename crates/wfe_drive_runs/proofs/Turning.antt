-- Steps that end in a turn of the model, and what follows them.
use Rattle.wfe_core.specs.Memory.{bump}
use Rattle.std.proofs.lemmas.Bool.Decides.{nat_tests}
use Rattle.wfe_core.specs.Rounds.{first_tidy, with_clock}
use Rattle.wfe_core.specs.defs.declared.lifetime.Lifetime.{Lifetime}
use Rattle.wfe_core.specs.defs.declared.call.ClockMove.{ClockMove}
use Rattle.std.proofs.lemmas.Bool.{eq-eqb, ne_eqb}
use Rattle.std.proofs.Common.{List, [], ap, append-nil, refl, sym, true, ℕ, ◌++◌, ◌∙◌, ◌∷◌, ◌≡◌, ◌%◌, ◌==◌, subst, arith, min, ◌+◌, ◌<◌}
use Rattle.wfe_core.specs.defs.declared.call.Answer.{Answer}
use Rattle.wfe_core.specs.defs.declared.event.Event.{Event}
use Rattle.wfe_core.specs.defs.declared.event.Event.TheVariants as events
use Rattle.wfe_core.specs.Calls.{CallTurn, Idle, Phase, Runs, Why, goes_on, Answered}
use Rattle.wfe_core.specs.Calls as calls
use Rattle.wfe_core.specs.DeskHeld.{desk_of}
use Rattle.wfe_core.specs.Desks.{Desk, Notes, noted_all, noting, with_life}
use Rattle.wfe_core.specs.Locals.{Local, busy_in}
use Rattle.wfe_core.specs.Phases.{Base, Ending, Ends, Goes, Outcome, Turn}
use Rattle.wfe_core.specs.Steps.{resume, resumed, run_turn, tidying}
use Rattle.wfe_core.specs.declared.desk.Desk.{Desk as HeldDesk}
use Rattle.wfe_core.specs.declared.op.Op.{Op}
use Rattle.wfe_core.specs.declared.post.Post.{Post}
use Rattle.wfe_drive_words.specs.drive_cells.Unit.{SeatView, seat_after}
use Rattle.wfe_drive_words.specs.Called.{Here, at_phase}
use Rattle.wfe_drive_words.specs.Path.{AsksFor, Closes, Leads, StepsOn, placed, taken}
use Rattle.wfe_drive_runs.specs.Pieces.{EndsSo, LeadsSo, TurnsTo, seat_of, ScansSo, retire_told}
use Rattle.wfe_drive_words.specs.Comes.{Comes}
use Rattle.wfe_drive_words.specs.Readiness.{MayAsk}
use Rattle.wfe_drive_words.proofs.Makes.{may_ask_at}
use Rattle.wfe_drive_words.proofs.Leading.{closes_as, closes_from, leads_as, leads_from, then_closes, then_leads}
use Rattle.wfe_drive_words.specs.drive_cells.declared.located.Located.{Located}

-- the seat asks for its operation
pub asks_seat : {at : Local → Type 0} {op : Located} (seat : SeatView) → Here at seat → busy_in seat.phase ≡ true → op ≡ placed seat → AsksFor at seat op
asks_seat seat h b o = record { here = h; busy = b; is = o }

-- one step takes its turn
pub turns_once : {at0 at1 : Local → Type 0} {stands0 stands1 : List (Op × ℕ) → Type 0} {found : ℕ} (seat : SeatView) → StepsOn at0 at1 stands0 stands1 seat found → TurnsTo at0 at1 stands0 stands1 seat (taken seat found)
turns_once seat s = record { leads = s.leads; closes = s.closes }

-- and after other steps
pub then_turns : {at0 at1 at2 : Local → Type 0} {stands0 stands1 stands2 : List (Op × ℕ) → Type 0} {a b : SeatView} {t : CallTurn} → Leads at0 at1 stands0 stands1 a b → TurnsTo at1 at2 stands1 stands2 b t → TurnsTo at0 at2 stands0 stands2 a t
then_turns x y = record { leads = then_leads x y.leads; closes = λ answer e. then_closes x (y.closes answer e) }

-- a turn that leaves the same
pub turns_same : {at0 at1 : Local → Type 0} {stands0 stands1 : List (Op × ℕ) → Type 0} {a : SeatView} (t u : CallTurn) → seat_after t ≡ seat_after u → t.outcome ≡ u.outcome → TurnsTo at0 at1 stands0 stands1 a t → TurnsTo at0 at1 stands0 stands1 a u
turns_same t u s o x = record { leads = leads_as _ _ s x.leads; closes = λ answer e. closes_as _ _ s (x.closes answer (o ∙ e)) }

pub turns_as : {at0 at1 : Local → Type 0} {stands0 stands1 : List (Op × ℕ) → Type 0} {a : SeatView} (t u : CallTurn) → t ≡ u → TurnsTo at0 at1 stands0 stands1 a t → TurnsTo at0 at1 stands0 stands1 a u
turns_as t u e x = turns_same t u (ap seat_after e) (ap (λ (v : CallTurn). v.outcome) e) x

-- a turn that goes on, of which the desk has noted what was told
pub went_on : (phase : Phase) (post : Post) (before : Desk) (told : List Event) (held : HeldDesk) → desk_of held ≡ noting before told → seat_after (goes_on post before told phase) ≡ at_phase phase post held
went_on phase post before told held d =
    ap (λ (events : List Event). seat_of phase post (noting before events)) (append-nil told) ∙ ap (seat_of phase post) (sym d)

-- and one that answers
noted-more : (notes : Notes) (told : List Event) (steps : ℕ) (answer : Answer) → noted_all notes (told ++ events.End steps answer ∷ []) ≡ record (noted_all notes told) { steps = steps }
noted-more notes [] steps answer = refl
noted-more notes (event ∷ told) steps answer = noted-more _ told steps answer

-- the desk with the steps of a call that has ended
abbrev pub with_steps : Desk → ℕ → Desk
with_steps desk steps = record desk { notes = record desk.notes { steps = steps } }

pub answered_so : (answer : Answer) (post : Post) (before : Desk) (told : List Event) (held new : HeldDesk) → desk_of held ≡ noting before told → desk_of new ≡ with_steps (desk_of held) post.steps → seat_after (calls.answers post before told answer) ≡ at_phase Idle post new
answered_so answer post before told held new d e =
    ap (λ (notes : Notes). seat_of Idle post (record before { notes = notes })) (noted-more before.notes told post.steps answer)
    ∙ ap (λ (desk : Desk). seat_of Idle post (with_steps desk post.steps)) (sym d)
    ∙ ap (seat_of Idle post) (sym e)

-- a machine's step goes on
pub run_went : (why : Why) (next : Base) (t : Turn) (last : Post) (desk : Desk) (told : List Event) (held : HeldDesk) → last ≡ t.post → told ≡ t.told → t.outcome ≡ Goes next → desk_of held ≡ noting desk told → seat_after (run_turn why desk t) ≡ at_phase (Runs why next) last held
run_went why next t last desk told held p e o d =
    ap (λ (outcome : Outcome). seat_after (resumed why desk t.post t.told outcome)) o
    ∙ ap (λ (post : Post). seat_after (goes_on post desk t.told (Runs why next))) (sym p)
    ∙ ap (λ (events : List Event). seat_after (goes_on last desk events (Runs why next))) (sym e)
    ∙ went_on (Runs why next) last desk told held d

-- or ends
pub run_ended : (why : Why) (ending : Ending) (t : Turn) (last : Post) (desk : Desk) (told : List Event) → last ≡ t.post → told ≡ t.told → t.outcome ≡ Ends ending → run_turn why desk t ≡ resume why ending last desk told
run_ended why ending t last desk told p e o =
    ap (resumed why desk t.post t.told) o
    ∙ ap (λ (post : Post). resume why ending post desk t.told) (sym p)
    ∙ ap (resume why ending last desk) (sym e)

-- what a seat that is there knows of itself
pub may_here : {A : Type 0} {at : Local → Type 0} {seat : SeatView} → ((l : Local) → A → at l → Comes l) → A → Here at seat → MayAsk seat
may_here {seat = seat} comes valid h = may_ask_at h.local seat (comes h.local valid h.there) h.is

-- events are noted before those that follow them
pub noted_append : (notes : Notes) (first second : List Event) → noted_all notes (first ++ second) ≡ noted_all (noted_all notes first) second
noted_append notes [] second = refl
noted_append notes (event ∷ first) second = noted_append _ first second

-- a turn from a seat that is as another
pub turns_from : {at0 at1 : Local → Type 0} {stands0 stands1 : List (Op × ℕ) → Type 0} {t : CallTurn} (a b : SeatView) → a ≡ b → TurnsTo at0 at1 stands0 stands1 a t → TurnsTo at0 at1 stands0 stands1 b t
turns_from a b e x = record { leads = leads_from _ _ e x.leads; closes = λ answer o. closes_from _ _ e (x.closes answer o) }

-- a machine that ended, from a seat that is as another
pub ends_from : {at0 at1 : Local → Type 0} {stands0 stands1 : List (Op × ℕ) → Type 0} {why : Why} {ending : Ending} {post : Post} {held : HeldDesk} (a b : SeatView) → a ≡ b → EndsSo at0 at1 stands0 stands1 a why ending post held → EndsSo at0 at1 stands0 stands1 b why ending post held
ends_from a b e x = record { before = x.before; told = x.told; noted = x.noted; turns = turns_from a b e x.turns }

-- and its call went on
pub leads_so : {at0 at1 : Local → Type 0} {stands0 stands1 : List (Op × ℕ) → Type 0} {why : Why} {ending : Ending} {post : Post} {held : HeldDesk} {a : SeatView} → EndsSo at0 at1 stands0 stands1 a why ending post held → LeadsSo at0 at1 stands0 stands1 a why ending post held
leads_so x = record { before = x.before; told = x.told; noted = x.noted; leads = x.turns.leads }

pub leads_so_after : {at0 at1 at2 : Local → Type 0} {stands0 stands1 stands2 : List (Op × ℕ) → Type 0} {why : Why} {ending : Ending} {post : Post} {held : HeldDesk} {a b : SeatView} → Leads at0 at1 stands0 stands1 a b → LeadsSo at1 at2 stands1 stands2 b why ending post held → LeadsSo at0 at2 stands0 stands2 a why ending post held
leads_so_after x y = record { before = y.before; told = y.told; noted = y.noted; leads = then_leads x y.leads }

-- a row was retired: no tidying is due
pub tidies_not : {at0 at1 : Local → Type 0} {stands0 stands1 : List (Op × ℕ) → Type 0} {a : SeatView} (answer : Answer) (post : Post) (held0 held new : HeldDesk) (life : Lifetime) → desk_of held ≡ noting (with_life (desk_of held0) life) (retire_told life) → desk_of new ≡ with_steps (desk_of held) post.steps
    → (post.retired % post.layout.config.every ≡ 0 → ⊥) → TurnsTo at0 at1 stands0 stands1 a (tidying answer post (with_life (desk_of held0) life) (retire_told life) (post.retired % post.layout.config.every == 0)) → Closes answer at0 at1 stands0 stands1 a (at_phase Idle post new)
tidies_not answer post held0 held new life d e due x =
    let y = turns_as _ _ (ap (tidying answer post (with_life (desk_of held0) life) (retire_told life)) (ne_eqb (post.retired % post.layout.config.every) 0 due)) x in
    closes_as _ _ (answered_so answer post (with_life (desk_of held0) life) (retire_told life) held new d e) (y.closes answer refl)

-- or it is
pub tidies_now : {at0 at1 : Local → Type 0} {stands0 stands1 : List (Op × ℕ) → Type 0} {a : SeatView} (answer : Answer) (post : Post) (held0 held : HeldDesk) (life : Lifetime) → desk_of held ≡ noting (with_life (desk_of held0) life) (retire_told life)
    → post.retired % post.layout.config.every ≡ 0 → TurnsTo at0 at1 stands0 stands1 a (tidying answer post (with_life (desk_of held0) life) (retire_told life) (post.retired % post.layout.config.every == 0)) → Leads at0 at1 stands0 stands1 a (at_phase (first_tidy (Answered answer) post) post held)
tidies_now answer post held0 held life d due x =
    let y = turns_as _ _ (ap (tidying answer post (with_life (desk_of held0) life) (retire_told life)) (eq-eqb (post.retired % post.layout.config.every) 0 due)) x in
    leads_as _ _ (went_on (first_tidy (Answered answer) post) post (with_life (desk_of held0) life) (retire_told life) held d) y.leads

-- and is over
pub tidied_so : {at0 at1 : Local → Type 0} {stands0 stands1 : List (Op × ℕ) → Type 0} {a : SeatView} (answer : Answer) (clock : ClockMove) (post : Post) (held new : HeldDesk) → ScansSo at0 at1 stands0 stands1 a (Answered answer) clock post held → desk_of new ≡ with_steps (desk_of held) post.steps
    → Closes (with_clock answer clock) at0 at1 stands0 stands1 a (at_phase Idle post new)
tidied_so answer clock post held new x e = closes_as _ _ (answered_so (with_clock answer clock) post x.before x.told held new x.noted e) (x.turns.closes (with_clock answer clock) refl)

-- an ending that is as another
pub ends_as : {at0 at1 : Local → Type 0} {stands0 stands1 : List (Op × ℕ) → Type 0} {why : Why} {post : Post} {held : HeldDesk} {a : SeatView} (first second : Ending) → first ≡ second → EndsSo at0 at1 stands0 stands1 a why first post held → EndsSo at0 at1 stands0 stands1 a why second post held
ends_as {at0 = at0} {at1 = at1} {stands0 = stands0} {stands1 = stands1} {why = why} {post = post} {held = held} {a = a} first second e x = subst (λ (ending : Ending). EndsSo at0 at1 stands0 stands1 a why ending post held) e x

-- both eras were stored
abbrev retired_by : Answer → Post → Desk → Lifetime → (steps retired : ℕ) → CallTurn
retired_by answer post desk life steps retired =
    let left : Post = record post { steps = steps; retired = retired } in
    tidying answer left (with_life desk life) (retire_told life) (retired % post.layout.config.every == 0)

pub stored : (answer : Answer) (post : Post) (desk : Desk) (life : Lifetime) (retired : ℕ) → retired ≡ bump post.retired
    → retired_by answer post desk life (post.steps + 1 + 1 + 1) (bump post.retired) ≡ retired_by answer post desk life (post.steps + 3) retired
stored answer post desk life retired e =
    let n : post.steps + 1 + 1 + 1 ≡ post.steps + 3 = omega arith in
    ap (λ (steps : ℕ). retired_by answer post desk life steps (bump post.retired)) n ∙ ap (retired_by answer post desk life (post.steps + 3)) (sym e)

pub bumped : (count more : ℕ) → count < 18446744073709551616 → more ≡ min (count + 1) 18446744073709551615 → more ≡ bump count
bumped count more h e = grind (arith, nat_tests)
