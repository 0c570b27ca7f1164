-- Steps of the machines of a call's rounds, as turns of the call.
use Rattle.std.proofs.Common.{ℕ, ◌≡◌, Bool, true, false, List, Option, Some, None, refl, sym, ap, subst, ◌∙◌}
use Rattle.std.specs.Prelude.{MatchOption}
use Rattle.wfe_core.specs.words.declared.config.SchemeKind.{SchemeKind}
use Rattle.wfe_core.specs.defs.declared.call.Answer.{Answer}
use Rattle.wfe_core.specs.defs.declared.event.Event.{Event}
use Rattle.wfe_core.specs.defs.declared.event.Root.{Root}
use Rattle.wfe_core.specs.declared.ends.ProtectEnd.{ProtectEnd}
use Rattle.wfe_core.specs.declared.post.Post.{Post}
use Rattle.wfe_core.specs.Calls.{Task, Next, Phase, Why, Runs, Opens, CallTurn, CallOutcome, goes_on, answers}
use Rattle.wfe_core.specs.Desks.{Desk}
use Rattle.wfe_core.specs.Machine.{after}
use Rattle.wfe_core.specs.Phases.{Base, Ending, Outcome, Goes, Ends}
use Rattle.wfe_core.specs.Phases.Ending.{Protected}
use Rattle.wfe_core.specs.Rounds.{scheme_of, index_of, root_of, protect_base, clearing, closed}
use Rattle.wfe_core.specs.Steps.{resume, resumed, phase_turn}
use Rattle.wfe_call_rounds.specs.Rounds.{OpensOn, CloseAt, ClearsAt, FinishesAt, Closes, close_from, close_phase, close_step, is_again, then_at, then_close}
use Rattle.wfe_call_rounds.specs.Steps.{Steps, came}
use Rattle.wfe_call_rounds.proofs.Model.{clearing_at}
use Rattle.wfe_call_rounds.proofs.Taken.{close_turn, opens_step}

-- a step that is known by its parts
pub turn_of : (t : CallTurn) (post : Post) (desk : Desk) (told : List Event) (phase : Phase) → Steps t post desk told None phase → t ≡ goes_on post desk told phase
turn_of t post desk told phase h =
    ap (λ (x : Post). record { post = x; desk = t.desk; told = t.told; outcome = t.outcome }) (sym h.post_is)
    ∙ (
    ap (λ (x : Desk). record { post = post; desk = x; told = t.told; outcome = t.outcome }) (sym h.desk_is)
    ∙ (
    ap (λ (x : List Event). record { post = post; desk = desk; told = x; outcome = t.outcome }) (sym h.told_is)
    ∙ ap (λ (x : CallOutcome). record { post = post; desk = desk; told = told; outcome = x }) h.outcome_is
    )
    )

-- and its parts from the step
pub goes_steps : (t : CallTurn) (post : Post) (desk : Desk) (told : List Event) (phase : Phase) → t ≡ goes_on post desk told phase → Steps t post desk told None phase
goes_steps t post desk told phase e = rw e (record { post_is = refl; told_is = refl; desk_is = refl; outcome_is = refl })

pub answers_steps : (t : CallTurn) (post : Post) (desk : Desk) (told : List Event) (answer : Answer) (phase : Phase) → t ≡ answers post desk told answer → Steps t post desk told (Some answer) phase
answers_steps t post desk told answer phase e = rw e (record { post_is = refl; told_is = refl; desk_is = refl; outcome_is = refl })

resumed_at : (why : Why) (base : Base) (post last : Post) (desk : Desk) (told : List Event) (found : ℕ) (outcome : Outcome) → last ≡ (after base post found).post → told ≡ (after base post found).told → (after base post found).outcome ≡ outcome → phase_turn (Runs why base) post desk found ≡ resumed why desk last told outcome
resumed_at why base post last desk told found outcome p t o =
    ap (λ (x : Outcome). resumed why desk (after base post found).post (after base post found).told x) o
    ∙ (
    ap (λ (x : Post). resumed why desk x (after base post found).told outcome) (sym p)
    ∙ ap (λ (events : List Event). resumed why desk last events outcome) (sym t)
    )

-- a machine of a call goes on
pub goes_at : (why : Why) (base next : Base) (post last : Post) (desk : Desk) (told : List Event) (found : ℕ) → last ≡ (after base post found).post → told ≡ (after base post found).told → (after base post found).outcome ≡ Goes next → phase_turn (Runs why base) post desk found ≡ goes_on last desk told (Runs why next)
goes_at why base next post last desk told found p t o = resumed_at why base post last desk told found (Goes next) p t o

-- it has ended
pub ends_at : (why : Why) (base : Base) (ending : Ending) (post last : Post) (desk : Desk) (told : List Event) (found : ℕ) → last ≡ (after base post found).post → told ≡ (after base post found).told → (after base post found).outcome ≡ Ends ending → phase_turn (Runs why base) post desk found ≡ resume why ending last desk told
ends_at why base ending post last desk told found p t o = resumed_at why base post last desk told found (Ends ending) p t o

-- either, by what it answered
pub machine_came : {E : Type 0} (ending : E → Ending) (why : Why) (base next : Base) (post last : Post) (desk : Desk) (told : List Event) (found : ℕ) (result : Option E) → last ≡ (after base post found).post → told ≡ (after base post found).told → MatchOption result ((after base post found).outcome ≡ Goes next) (λ (e : E). (after base post found).outcome ≡ Ends (ending e)) → phase_turn (Runs why base) post desk found ≡ came ending why next result last desk told
machine_came ending why base next post last desk told found None p t o = resumed_at why base post last desk told found (Goes next) p t o
machine_came ending why base next post last desk told found (Some e) p t o = resumed_at why base post last desk told found (Ends (ending e)) p t o

-- the round's first machines have made a step
pub open_came : (task : Task) (kind : SchemeKind) (index : ℕ) (root : Root) (base next : Base) (post last : Post) (desk : Desk) (told : List Event) (found : ℕ) (result : Option ProtectEnd) → index ≡ index_of task → root ≡ root_of task post → scheme_of post ≡ kind → last ≡ (after base post found).post → told ≡ (after base post found).told → OpensOn (protect_base kind index root) (after base post found).outcome result next → phase_turn (Runs (Opens task) base) post desk found ≡ came Protected (Opens task) next result last desk told
open_came task kind index root base next post last desk told found None i r s p t o =
    turn_of (phase_turn (Runs (Opens task) base) post desk found) last desk told (Runs (Opens task) next) (
    opens_step task kind root base next post last desk told found s r p t (
    subst (λ (n : ℕ). OpensOn (protect_base kind n root) (after base post found).outcome None next) i o
    )
    )
open_came task kind index root base next post last desk told found (Some ending) i r s p t o =
    resumed_at (Opens task) base post last desk told found (Ends (Protected ending)) p t o

-- a round's last machine waits
pub then_goes : (task : Task) (next : Next) (at : CloseAt) (post : Post) (desk : Desk) (told : List Event) → then_at task next desk post told (Some at) ≡ goes_on post desk told (close_phase task next at)
then_goes task next (ClearsAt base) post desk told = refl
then_goes task next (FinishesAt base) post desk told = refl

-- the end of a round begins
pub close_came : (task : Task) (next : Next) (kind : SchemeKind) (index : ℕ) (again : Bool) (post last : Post) (desk : Desk) (told early : List Event) (at : Option CloseAt) → scheme_of post ≡ kind → index ≡ index_of task → again ≡ is_again next → last ≡ (close_from kind index again post told).post → early ≡ (close_from kind index again post told).told → at ≡ (close_from kind index again post told).at → clearing task next post desk told ≡ then_at task next desk last early at
close_came task next kind index again post last desk told early at s i e p t o =
    clearing_at task next post desk told
    ∙ (
    ap (λ (k : SchemeKind). then_close task next desk (close_from k (index_of task) (is_again next) post told)) s
    ∙ (
    ap (λ (n : ℕ). then_close task next desk (close_from kind n (is_again next) post told)) (sym i)
    ∙ (
    ap (λ (b : Bool). then_close task next desk (close_from kind index b post told)) (sym e)
    ∙ (
    ap (λ (x : Post). then_at task next desk x (close_from kind index again post told).told (close_from kind index again post told).at) (sym p)
    ∙ (
    ap (λ (events : List Event). then_at task next desk last events (close_from kind index again post told).at) (sym t)
    ∙ ap (λ (x : Option CloseAt). then_at task next desk last early x) (sym o)
    )
    )
    )
    )
    )

closing_came : (task : Task) (next : Next) (kind : SchemeKind) (again : Bool) (at : CloseAt) (post last : Post) (desk : Desk) (told : List Event) (found : ℕ) (stop : Option CloseAt) → scheme_of post ≡ kind → again ≡ is_again next → last ≡ (close_step kind again at post found).post → told ≡ (close_step kind again at post found).told → (close_step kind again at post found).at ≡ stop → phase_turn (close_phase task next at) post desk found ≡ then_at task next desk last told stop
closing_came task next kind again at post last desk told found stop s e p t o =
    close_turn task next kind at post desk found s
    ∙ (
    ap (λ (b : Bool). then_close task next desk (close_step kind b at post found)) (sym e)
    ∙ (
    ap (λ (x : Post). then_at task next desk x (close_step kind again at post found).told (close_step kind again at post found).at) (sym p)
    ∙ (
    ap (λ (events : List Event). then_at task next desk last events (close_step kind again at post found).at) (sym t)
    ∙ ap (λ (x : Option CloseAt). then_at task next desk last told x) o
    )
    )
    )

-- the round's last machines go on
pub closes_at : (task : Task) (next : Next) (kind : SchemeKind) (again : Bool) (at stop : CloseAt) (post last : Post) (desk : Desk) (told : List Event) (found : ℕ) → scheme_of post ≡ kind → again ≡ is_again next → last ≡ (close_step kind again at post found).post → told ≡ (close_step kind again at post found).told → Closes (close_step kind again at post found).at false stop → phase_turn (close_phase task next at) post desk found ≡ goes_on last desk told (close_phase task next stop)
closes_at task next kind again at stop post last desk told found s e p t o =
    closing_came task next kind again at post last desk told found (Some stop) s e p t o ∙ then_goes task next stop last desk told

-- they are over
pub closed_at : (task : Task) (next : Next) (kind : SchemeKind) (again : Bool) (at stop : CloseAt) (post last : Post) (desk : Desk) (told : List Event) (found : ℕ) → scheme_of post ≡ kind → again ≡ is_again next → last ≡ (close_step kind again at post found).post → told ≡ (close_step kind again at post found).told → Closes (close_step kind again at post found).at true stop → phase_turn (close_phase task next at) post desk found ≡ closed task next last desk told
closed_at task next kind again at stop post last desk told found s e p t o =
    closing_came task next kind again at post last desk told found None s e p t o
