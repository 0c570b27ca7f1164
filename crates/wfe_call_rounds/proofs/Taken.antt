-- Steps of a call from the steps of the machines of its rounds.
use Rattle.std.proofs.Common.{ℕ, ◌≡◌, Bool, true, false, List, ◌++◌, Option, Some, None, refl, sym, ap, subst, ◌∙◌}
use Rattle.wfe_core.specs.words.Schemes.{publishes_rows}
use Rattle.wfe_core.specs.words.declared.layout.Layout.{Layout}
use Rattle.wfe_core.specs.words.declared.config.SchemeKind.{SchemeKind}
use Rattle.wfe_core.specs.words.declared.config.SchemeKind.TheVariants.{He, Hp, Ibr, Wfe}
use Rattle.wfe_core.specs.defs.declared.call.Answer.{Answer}
use Rattle.wfe_core.specs.defs.declared.event.Event.{Event}
use Rattle.wfe_core.specs.defs.declared.event.Root.{Root}
use Rattle.wfe_core.specs.defs.declared.event.Root.TheVariants as roots
use Rattle.wfe_core.specs.declared.desk.Desk.{Desk as HeldDesk}
use Rattle.wfe_core.specs.declared.post.Post.{Post}
use Rattle.wfe_core.specs.CallReady.{scan_plausible}
use Rattle.wfe_core.specs.Calls.{Task, Gets, Changes, Holds, Enqueues, Dequeues, Next, ScanAt, ReadGuard, GiveBack, Phase, Why, Runs, Opens, CallTurn, GoesOn, goes_on}
use Rattle.wfe_core.specs.DeskHeld.{Took, desk_of, told_answer}
use Rattle.wfe_core.specs.Desks.{Desk, noting}
use Rattle.wfe_core.specs.Machine.{after}
use Rattle.wfe_core.specs.Phases.{Base, Ending, Outcome, Goes, Ends}
use Rattle.wfe_core.specs.Posts.{counted}
use Rattle.wfe_core.specs.Ready.{ShownFits}
use Rattle.wfe_core.specs.Rounds.{scheme_of, key_of, bucket_of, index_of, root_of, begin_base, protect_base, round, round_by, closed}
use Rattle.wfe_core.specs.Steps.{resume, resumed, phase_turn}
use Rattle.wfe_core.proofs.Frames.{after_same}
use Rattle.wfe_call_rounds.specs.Rounds.{OpensOn, open_base, opens_on, CloseAt, ClearsAt, FinishesAt, close_phase, CloseTurn, close_step, is_again, then_at, then_close}
use Rattle.wfe_call_rounds.specs.Steps.{Steps}
use Rattle.wfe_call_rounds.proofs.Model.{round_open, opens_goes, clears_at, finishes_at}

-- the events of a step are noted, and End is told
pub took_from : (t : CallTurn) (post : Post) (desk : Desk) (told all : List Event) (answer : Option Answer) (phase : Phase) (held : HeldDesk) → Steps t post desk told answer phase → all ≡ told ++ told_answer post answer → desk_of held ≡ noting desk all → Took t post held all answer phase
took_from t post desk told all answer phase held s a d = record {
  post_is = s.post_is;
  told_is = rw (← s.told_is) a;
  desk_is = rw (← s.desk_is) d;
  outcome_is = s.outcome_is;
}

-- a call that has made no step stands where its round opens
pub starts_at : (task : Task) (kind : SchemeKind) (post : Post) (root : Root) (base : Base) → scheme_of post ≡ kind → root ≡ root_of task post → base ≡ open_base kind post (index_of task) root → round task post ≡ Runs (Opens task) base
starts_at task kind post root base s r b =
    round_open task post
    ∙ ap (λ (base : Base). Runs (Opens task) base) (
    ap (λ (k : SchemeKind). open_base k post (index_of task) (root_of task post)) s
    ∙ (ap (λ (way : Root). open_base kind post (index_of task) way) (sym r) ∙ sym b)
    )

root_along : (task : Task) (a b : Post) → a.layout ≡ b.layout → root_of task a ≡ root_of task b
root_along (Gets key) a b e = ap (λ (layout : Layout). roots.Bucket (bucket_of (record a { layout = layout }) key)) e
root_along (Changes kept) a b e = ap (λ (layout : Layout). roots.Bucket (bucket_of (record a { layout = layout }) (key_of kept.change))) e
root_along (Holds key) a b e = ap (λ (layout : Layout). roots.Bucket (bucket_of (record a { layout = layout }) key)) e
root_along (Enqueues kept) a b e = refl
root_along Dequeues a b e = refl

scheme_along : (a b : Post) → a.layout ≡ b.layout → scheme_of a ≡ scheme_of b
scheme_along a b e = ap (λ (layout : Layout). layout.config.scheme) e

opens_by : (task : Task) (kind : SchemeKind) (root : Root) (next : Base) (post mid : Post) (desk : Desk) (told : List Event) (outcome : Outcome) → scheme_of post ≡ kind → root ≡ root_of task post → mid.layout ≡ post.layout → OpensOn (protect_base kind (index_of task) root) outcome None next → Steps (resumed (Opens task) desk mid told outcome) mid desk told None (Runs (Opens task) next)
opens_by task kind root next post mid desk told outcome s r l o =
    let way : opens_on (protect_base (scheme_of mid) (index_of task) (root_of task mid)) outcome ≡ next =
    ap (λ (k : SchemeKind). opens_on (protect_base k (index_of task) (root_of task mid)) outcome) (scheme_along mid post l ∙ s)
    ∙ (ap (λ (way : Root). opens_on (protect_base kind (index_of task) way) outcome) (root_along task mid post l ∙ sym r) ∙ sym o.1)
    in
    subst (λ (t : CallTurn). Steps t mid desk told None (Runs (Opens task) next)) (sym (opens_goes task mid desk told outcome o.0)) (record {
      post_is = refl;
      told_is = refl;
      desk_is = refl;
      outcome_is = ap (λ (base : Base). GoesOn (Runs (Opens task) base)) way;
    })

-- the round's first machines go on
pub opens_step : (task : Task) (kind : SchemeKind) (root : Root) (base next : Base) (post last : Post) (desk : Desk) (told : List Event) (found : ℕ) → scheme_of post ≡ kind → root ≡ root_of task post → last ≡ (after base post found).post → told ≡ (after base post found).told → OpensOn (protect_base kind (index_of task) root) (after base post found).outcome None next → Steps (phase_turn (Runs (Opens task) base) post desk found) last desk told None (Runs (Opens task) next)
opens_step task kind root base next post last desk told found s r p t o =
    let mid = (after base post found).post in
    let turn = phase_turn (Runs (Opens task) base) post desk found in
    subst (λ (x : Post). Steps turn x desk told None (Runs (Opens task) next)) (sym p) (
    subst (λ (events : List Event). Steps turn mid desk events None (Runs (Opens task) next)) (sym t) (
    opens_by task kind root next post mid desk (after base post found).told (after base post found).outcome s r (after_same base post found).layout o
    )
    )

-- a step of the round's last machines
pub close_turn : (task : Task) (next : Next) (kind : SchemeKind) (at : CloseAt) (post : Post) (desk : Desk) (found : ℕ) → scheme_of post ≡ kind → phase_turn (close_phase task next at) post desk found ≡ then_close task next desk (close_step kind (is_again next) at post found)
close_turn task next kind (ClearsAt base) post desk found s =
    clears_at task next kind (after base post found).post desk (after base post found).told (after base post found).outcome (scheme_along (after base post found).post post (after_same base post found).layout ∙ s)
close_turn task next kind (FinishesAt base) post desk found s =
    finishes_at task next (after base post found).post desk (after base post found).told (after base post found).outcome

then_by : (task : Task) (next : Next) (stop : CloseAt) (desk : Desk) (post : Post) (told : List Event) (at : Option CloseAt) → at ≡ Some stop → Steps (then_at task next desk post told at) post desk told None (close_phase task next stop)
then_by task next stop desk post told None o = absurd (cc)
then_by task next (ClearsAt base) desk post told (Some (ClearsAt other)) o = record { post_is = refl; told_is = refl; desk_is = refl; outcome_is = cc }
then_by task next (FinishesAt base) desk post told (Some (ClearsAt other)) o = absurd (cc)
then_by task next (ClearsAt base) desk post told (Some (FinishesAt other)) o = absurd (cc)
then_by task next (FinishesAt base) desk post told (Some (FinishesAt other)) o = record { post_is = refl; told_is = refl; desk_is = refl; outcome_is = cc }

then_step : (task : Task) (next : Next) (stop : CloseAt) (desk : Desk) (last : Post) (told : List Event) (turn : CloseTurn) → last ≡ turn.post → told ≡ turn.told → turn.at ≡ Some stop → Steps (then_close task next desk turn) last desk told None (close_phase task next stop)
then_step task next stop desk last told turn p t o =
    subst (λ (x : Post). Steps (then_close task next desk turn) x desk told None (close_phase task next stop)) (sym p) (
    subst (λ (events : List Event). Steps (then_close task next desk turn) turn.post desk events None (close_phase task next stop)) (sym t) (
    then_by task next stop desk turn.post turn.told turn.at o
    )
    )

pub then_over : (task : Task) (next : Next) (desk : Desk) (mid last : Post) (early told : List Event) (answer : Option Answer) (phase : Phase) (turn : CloseTurn) → mid ≡ turn.post → early ≡ turn.told → turn.at ≡ None → Steps (closed task next mid desk early) last desk told answer phase → Steps (then_close task next desk turn) last desk told answer phase
then_over task next desk mid last early told answer phase turn p t o h =
    let same : then_close task next desk turn ≡ closed task next mid desk early =
    ap (λ (at : Option CloseAt). then_at task next desk turn.post turn.told at) o
    ∙ (ap (λ (x : Post). closed task next x desk turn.told) (sym p) ∙ ap (λ (events : List Event). closed task next mid desk events) (sym t))
    in
    subst (λ (t : CallTurn). Steps t last desk told answer phase) (sym same) h

-- the round's last machines go on
pub closes_step : (task : Task) (next : Next) (kind : SchemeKind) (at stop : CloseAt) (post last : Post) (desk : Desk) (told : List Event) (found : ℕ) → scheme_of post ≡ kind → last ≡ (close_step kind (is_again next) at post found).post → told ≡ (close_step kind (is_again next) at post found).told → (close_step kind (is_again next) at post found).at ≡ Some stop → Steps (phase_turn (close_phase task next at) post desk found) last desk told None (close_phase task next stop)
closes_step task next kind at stop post last desk told found s p t o =
    subst (λ (turn : CallTurn). Steps turn last desk told None (close_phase task next stop)) (sym (close_turn task next kind at post desk found s)) (then_step task next stop desk last told (close_step kind (is_again next) at post found) p t o)

-- the round is over, and the call closes
pub closed_step : (task : Task) (next : Next) (kind : SchemeKind) (at : CloseAt) (post mid last : Post) (desk : Desk) (early told : List Event) (found : ℕ) (answer : Option Answer) (phase : Phase) → scheme_of post ≡ kind → mid ≡ (close_step kind (is_again next) at post found).post → early ≡ (close_step kind (is_again next) at post found).told → (close_step kind (is_again next) at post found).at ≡ None → Steps (closed task next mid desk early) last desk told answer phase → Steps (phase_turn (close_phase task next at) post desk found) last desk told answer phase
closed_step task next kind at post mid last desk early told found answer phase s p t o h =
    subst (λ (turn : CallTurn). Steps turn last desk told answer phase) (sym (close_turn task next kind at post desk found s)) (then_over task next desk mid last early told answer phase (close_step kind (is_again next) at post found) p t o h)

-- a step at a phase that has two names
pub steps_along : (phase other : Phase) (post last : Post) (desk : Desk) (told : List Event) (found : ℕ) (answer : Option Answer) (next : Phase) → phase ≡ other → Steps (phase_turn other post desk found) last desk told answer next → Steps (phase_turn phase post desk found) last desk told answer next
steps_along phase other post last desk told found answer next e h =
    subst (λ (at : Phase). Steps (phase_turn at post desk found) last desk told answer next) (sym e) h

begin_counted : (kind : SchemeKind) (post : Post) → begin_base kind post ≡ begin_base kind (counted post)
begin_counted He post = refl
begin_counted Ibr post = refl
begin_counted Wfe post = refl
begin_counted Hp post = refl

round_by_counted : (task : Task) (post : Post) (base : Option Base) → round_by task post base ≡ round_by task (counted post) base
round_by_counted task post None = ap (λ (root : Root). Runs (Opens task) (protect_base (scheme_of post) (index_of task) root)) (root_along task post (counted post) refl)
round_by_counted task post (Some base) = refl

-- how a round begins does not depend on how many steps the call has made
pub round_counted : (task : Task) (post : Post) → round task post ≡ round task (counted post)
round_counted task post =
    ap (λ (base : Option Base). round_by task post base) (begin_counted (scheme_of post) post) ∙ round_by_counted task post (begin_base (scheme_of post) (counted post))

-- nor does it change what an index word may hold
pub shown_counted : (rows : Bool) (post : Post) (steps word : ℕ) → ShownFits rows post word → ShownFits rows (record post { steps = steps }) word
shown_counted false post steps word h = h
shown_counted true post steps word h = h

-- and what a scan may read
pub scan_counted : (at : ScanAt) (post : Post) (steps found : ℕ) → scan_plausible at post found → scan_plausible at (record post { steps = steps }) found
scan_counted (ReadGuard number) post steps found h = shown_counted (publishes_rows (scheme_of post)) post steps found h
scan_counted (GiveBack place slot) post steps found h = h

-- a machine of a call goes on
pub run_goes : (why : Why) (base next : Base) (post last : Post) (desk : Desk) (told : List Event) (found : ℕ) → last ≡ (after base post found).post → told ≡ (after base post found).told → (after base post found).outcome ≡ Goes next → Steps (phase_turn (Runs why base) post desk found) last desk told None (Runs why next)
run_goes why base next post last desk told found p t o =
    let turn : phase_turn (Runs why base) post desk found ≡ goes_on last desk told (Runs why next) =
    ap (λ (outcome : Outcome). resumed why desk (after base post found).post (after base post found).told outcome) o
    ∙ (
    ap (λ (x : Post). goes_on x desk (after base post found).told (Runs why next)) (sym p)
    ∙ ap (λ (events : List Event). goes_on last desk events (Runs why next)) (sym t)
    )
    in
    subst (λ (t : CallTurn). Steps t last desk told None (Runs why next)) (sym turn) (record { post_is = refl; told_is = refl; desk_is = refl; outcome_is = refl })

-- a machine of a call has ended, and the call has gone on from there
pub run_ends : (why : Why) (base : Base) (ending : Ending) (post mid last : Post) (desk : Desk) (early told : List Event) (found : ℕ) (answer : Option Answer) (phase : Phase) → mid ≡ (after base post found).post → early ≡ (after base post found).told → (after base post found).outcome ≡ Ends ending → Steps (resume why ending mid desk early) last desk told answer phase → Steps (phase_turn (Runs why base) post desk found) last desk told answer phase
run_ends why base ending post mid last desk early told found answer phase p t o h =
    let turn : phase_turn (Runs why base) post desk found ≡ resume why ending mid desk early =
    ap (λ (outcome : Outcome). resumed why desk (after base post found).post (after base post found).told outcome) o
    ∙ (
    ap (λ (x : Post). resume why ending x desk (after base post found).told) (sym p)
    ∙ ap (λ (events : List Event). resume why ending mid desk events) (sym t)
    )
    in
    subst (λ (t : CallTurn). Steps t last desk told answer phase) (sym turn) h
