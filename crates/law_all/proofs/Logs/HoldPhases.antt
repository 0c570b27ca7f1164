-- The phases that a hold comes to, and that its step which answers Nothing leaves nothing at index 2.
use Rattle.std.proofs.Common.{ℕ, ◌≡◌, Bool, true, false, List, ◌++◌, Option, Some, None, refl}
use Rattle.std.specs.Prelude.{if◌then◌else◌}
use Rattle.law_scans.specs.inv.model.Calls.{Holds, Next, Answering, Rehold, Keeping, Loosens, Why, Opens, Clears, Finishes, Releases, Phase, Idle, Runs, Works, CallOutcome, Answers}
use Rattle.law_scans.specs.inv.model.Desks.{Desk}
use Rattle.law_scans.specs.inv.model.Machine as machine
use Rattle.law_scans.specs.inv.model.Phases.{Base, Ending, Outcome, Goes, Ends}
use Rattle.law_scans.specs.inv.model.Phases.Ending.{Protected}
use Rattle.law_scans.specs.inv.model.Rounds as rounds
use Rattle.law_scans.specs.inv.model.Rounds.{scheme_of}
use Rattle.law_scans.specs.inv.model.Steps as steps
use Rattle.law_scans.specs.inv.model.declared.ends.ProtectEnd.TheVariants as protect_ends
use Rattle.law_scans.specs.inv.model.declared.post.Post.{Post}
use Rattle.law_scans.specs.laws.defs.declared.event.Event.{Event}
use Rattle.law_scans.specs.laws.defs.declared.call.Answer.{Answer}
use Rattle.law_scans.specs.laws.defs.declared.call.Answer.TheVariants as answers
use Rattle.law_scans.specs.inv.model.Phases.Base.{Clear, Finish}
use Rattle.law_scans.specs.inv.model.Posts.{stands, withdrawn}
use Rattle.law_scans.specs.laws.words.Schemes.{has_one_interval, publishes_rows}
use Rattle.law_scans.specs.laws.words.declared.layout.Layout.{Layout}
use Rattle.law_scans.proofs.inv.model.Standing.{stands-withdrawn_same}
use Rattle.law_scans.specs.inv.covers.Rests.{Vacant, vacant, vacant_why}
use Rattle.law_scans.specs.inv.shapes.Frame.{phase_left}
use Rattle.law_scans.specs.inv.shapes.Seats.{Run, kind_of, suits}

abbrev next_answers : Next → Bool
next_answers (Answering answer) = true
next_answers next = false

abbrev hold_why : Why → Bool
hold_why (Opens (Holds key)) = true
hold_why (Clears (Holds key) next) = next_answers next
hold_why (Finishes (Holds key) next) = next_answers next
hold_why (Releases (Rehold key)) = true
hold_why why = false

abbrev pub hold_phase : Phase → Bool
hold_phase Idle = true
hold_phase (Runs why base) = hold_why why
hold_phase (Works (Keeping (Loosens (Rehold key)))) = true
hold_phase phase = false

round_by_hold : (key : ℕ) (post : Post) (x : Option Base) → hold_phase (rounds.round_by (Holds key) post x) ≡ true
round_by_hold key post None = refl
round_by_hold key post (Some base) = refl

round_hold : (key : ℕ) (post : Post) → hold_phase (rounds.round (Holds key) post) ≡ true
round_hold key post = round_by_hold key post (rounds.begin_base (scheme_of post) post)

finishing_by_hold : (key : ℕ) (answer : Answer) (post : Post) (desk : Desk) (told : List Event) (x : Option Base) → hold_phase (phase_left (rounds.finishing_by (Holds key) (Answering answer) post desk told x).outcome) ≡ true
finishing_by_hold key answer post desk told None = refl
finishing_by_hold key answer post desk told (Some base) = refl

clearing_by_hold : (key : ℕ) (answer : Answer) (post : Post) (desk : Desk) (told : List Event) (x : Option Base) → hold_phase (phase_left (rounds.clearing_by (Holds key) (Answering answer) post desk told x).outcome) ≡ true
clearing_by_hold key answer post desk told None = finishing_by_hold key answer _ desk _ _
clearing_by_hold key answer post desk told (Some base) = refl

opened_hold : (key : ℕ) (ending : Ending) (post : Post) (desk : Desk) (told : List Event) → hold_phase (phase_left (steps.opened (Holds key) ending post desk told).outcome) ≡ true
opened_hold key (Protected (protect_ends.Held slot era)) post desk told = refl
opened_hold key (Protected protect_ends.Null) post desk told = clearing_by_hold key _ post desk told _
opened_hold key ending post desk told = refl

finishing_hold : (key : ℕ) (next : Next) (post : Post) (desk : Desk) (told : List Event) → next_answers next ≡ true → hold_phase (phase_left (rounds.finishing (Holds key) next post desk told).outcome) ≡ true
finishing_hold key (Answering answer) post desk told h = finishing_by_hold key answer post desk told _
finishing_hold key next post desk told h = absurd (cc)

closed_hold : (key : ℕ) (next : Next) (post : Post) (desk : Desk) (told : List Event) → next_answers next ≡ true → hold_phase (phase_left (rounds.closed (Holds key) next post desk told).outcome) ≡ true
closed_hold key (Answering answer) post desk told h = refl
closed_hold key next post desk told h = absurd (cc)

resume_hold : (why : Why) (ending : Ending) (post : Post) (desk : Desk) (told : List Event) → hold_why why ≡ true → hold_phase (phase_left (steps.resume why ending post desk told).outcome) ≡ true
resume_hold (Opens (Holds key)) ending post desk told h = opened_hold key ending post desk told
resume_hold (Clears (Holds key) next) ending post desk told h = finishing_hold key next post desk told h
resume_hold (Finishes (Holds key) next) ending post desk told h = closed_hold key next post desk told h
resume_hold (Releases (Rehold key)) ending post desk told h = round_hold key post
resume_hold why ending post desk told h = absurd (cc)

resumed_hold : (why : Why) (desk : Desk) (post : Post) (told : List Event) (outcome : Outcome) → hold_why why ≡ true → hold_phase (phase_left (steps.resumed why desk post told outcome).outcome) ≡ true
resumed_hold why desk post told (Goes base) h = h
resumed_hold why desk post told (Ends ending) h = resume_hold why ending post desk told h

-- a step of a hold
pub hold_goes : (phase : Phase) (post : Post) (desk : Desk) (found : ℕ) → hold_phase phase ≡ true → hold_phase (phase_left (steps.phase_turn phase post desk found).outcome) ≡ true
hold_goes Idle post desk found h = refl
hold_goes (Runs why base) post desk found h = resumed_hold why desk (machine.after base post found).post (machine.after base post found).told (machine.after base post found).outcome h
hold_goes (Works (Keeping (Loosens (Rehold key)))) post desk found h = round_hold key _
hold_goes phase post desk found h = absurd (cc)

-- its first phase
pub hold_begins : (key : ℕ) (post : Post) (x : Option ℕ) → hold_phase (steps.holding key post x) ≡ true
hold_begins key post None = round_hold key post
hold_begins key post (Some slot) = by (rounds.release_base (scheme_of post) post 2)
  where
    by : (x : Option Base) → hold_phase (rounds.letting_by (Rehold key) x) ≡ true
    by None = refl
    by (Some base) = refl

-- where a hold has found nothing, nothing stands at its index
abbrev pub Missed : Post → CallOutcome → Type 0
Missed post (Answers answers.Nothing) = stands post 2 ≡ None
Missed post outcome = Unit {0}

answer_missed : (post : Post) (answer : Answer) → stands post 2 ≡ None → Missed post (Answers answer)
answer_missed post answers.Nothing h = h
answer_missed post answer h = tt

finishing_by_missed : (key : ℕ) (answer : Answer) (post : Post) (desk : Desk) (told : List Event) (x : Option Base) → stands post 2 ≡ None
    → Missed (rounds.finishing_by (Holds key) (Answering answer) post desk told x).post (rounds.finishing_by (Holds key) (Answering answer) post desk told x).outcome
finishing_by_missed key answer post desk told None h = answer_missed post answer h
finishing_by_missed key answer post desk told (Some base) h = tt

pub finishing_missed : (key : ℕ) (next : Next) (post : Post) (desk : Desk) (told : List Event) → next_answers next ≡ true → stands post 2 ≡ None
    → Missed (rounds.finishing (Holds key) next post desk told).post (rounds.finishing (Holds key) next post desk told).outcome
finishing_missed key (Answering answer) post desk told e h = finishing_by_missed key answer post desk told (rounds.finish_base (scheme_of post) post) h
finishing_missed key next post desk told e h = absurd (cc)

pub closed_missed : (key : ℕ) (next : Next) (post : Post) (desk : Desk) (told : List Event) → next_answers next ≡ true → stands post 2 ≡ None
    → Missed (rounds.closed (Holds key) next post desk told).post (rounds.closed (Holds key) next post desk told).outcome
closed_missed key (Answering answer) post desk told e h = answer_missed post answer h
closed_missed key next post desk told e h = absurd (cc)

clearing_by_missed : (key : ℕ) (answer : Answer) (post : Post) (desk : Desk) (told : List Event) (x : Option Base) → (x ≡ None → stands (rounds.clear_post (scheme_of post) post 2) 2 ≡ None)
    → Missed (rounds.clearing_by (Holds key) (Answering answer) post desk told x).post (rounds.clearing_by (Holds key) (Answering answer) post desk told x).outcome
clearing_by_missed key answer post desk told None h =
    finishing_missed key (Answering answer) (rounds.clear_post (scheme_of post) post 2) desk (told ++ rounds.clear_told (scheme_of post) post 2) refl (h refl)
clearing_by_missed key answer post desk told (Some base) h = tt

cleared_none : (post : Post) (one rows : Bool) → (if one then None else Some (Clear rows 2)) ≡ None → stands (if one then withdrawn post 2 else post) 2 ≡ None
cleared_none post true rows h = stands-withdrawn_same post 2
cleared_none post false rows h = absurd (cc)

pub opened_missed : (key : ℕ) (ending : Ending) (post : Post) (desk : Desk) (told : List Event)
    → Missed (steps.opened (Holds key) ending post desk told).post (steps.opened (Holds key) ending post desk told).outcome
opened_missed key (Protected (protect_ends.Held slot era)) post desk told = tt
opened_missed key (Protected protect_ends.Null) post desk told =
    clearing_by_missed key answers.Nothing post desk told (rounds.clear_base (scheme_of post) 2) (λ h. cleared_none post (has_one_interval (scheme_of post)) (publishes_rows (scheme_of post)) h)
opened_missed key ending post desk told = tt

abbrev MissedAfter : Why → Base → Post → Desk → (found : ℕ) → Type 0
MissedAfter why base post desk found = Missed (steps.run_turn why desk (machine.after base post found)).post (steps.run_turn why desk (machine.after base post found)).outcome

opens_missed : (key : ℕ) (post : Post) (desk : Desk) (told : List Event) (outcome : Outcome)
    → Missed (steps.resumed (Opens (Holds key)) desk post told outcome).post (steps.resumed (Opens (Holds key)) desk post told outcome).outcome
opens_missed key post desk told (Goes base) = tt
opens_missed key post desk told (Ends ending) = opened_missed key ending post desk told

releases_missed : (key : ℕ) (post : Post) (desk : Desk) (told : List Event) (outcome : Outcome)
    → Missed (steps.resumed (Releases (Rehold key)) desk post told outcome).post (steps.resumed (Releases (Rehold key)) desk post told outcome).outcome
releases_missed key post desk told (Goes base) = tt
releases_missed key post desk told (Ends ending) = tt

clears_missed : (layout : Layout) (key : ℕ) (next : Next) (base : Base) (last post : Post) (desk : Desk) (found : ℕ) → next_answers next ≡ true → suits base (kind_of (Clears (Holds key) next)) ≡ true
    → Run layout (Clears (Holds key) next) base last → MissedAfter (Clears (Holds key) next) base post desk found
clears_missed layout key next (Clear rows index) last post desk found h u r = rw r.shape (finishing_missed key next (withdrawn post 2) desk _ h (stands-withdrawn_same post 2))
clears_missed layout key next base last post desk found h u r = absurd (cc)

finishes_missed : (key : ℕ) (next : Next) (base : Base) (post : Post) (desk : Desk) (found : ℕ) → next_answers next ≡ true → suits base (kind_of (Finishes (Holds key) next)) ≡ true → stands post 2 ≡ None
    → MissedAfter (Finishes (Holds key) next) base post desk found
finishes_missed key next Finish post desk found h u n = closed_missed key next _ desk _ h n
finishes_missed key next base post desk found h u n = absurd (cc)

run_missed : (layout : Layout) (why : Why) (base : Base) (last post : Post) (desk : Desk) (found : ℕ) → hold_why why ≡ true → Run layout why base last → Vacant (vacant_why why base) post → MissedAfter why base post desk found
run_missed layout (Opens (Holds key)) base last post desk found h r v = opens_missed key (machine.after base post found).post desk (machine.after base post found).told (machine.after base post found).outcome
run_missed layout (Clears (Holds key) next) base last post desk found h r v = clears_missed layout key next base last post desk found h r.suited r
run_missed layout (Finishes (Holds key) next) base last post desk found h r v = finishes_missed key next base post desk found h r.suited (v 2 refl)
run_missed layout (Releases (Rehold key)) base last post desk found h r v = releases_missed key (machine.after base post found).post desk (machine.after base post found).told (machine.after base post found).outcome
run_missed layout why base last post desk found h r v = absurd (cc)

-- a step of a hold that answers Nothing leaves nothing there
pub phase_missed : (layout : Layout) (phase : Phase) (last post : Post) (desk : Desk) (found : ℕ) → hold_phase phase ≡ true → ((why : Why) (base : Base) → phase ≡ Runs why base → Run layout why base last) → Vacant (vacant phase) post
    → Missed (steps.phase_turn phase post desk found).post (steps.phase_turn phase post desk found).outcome
phase_missed layout Idle last post desk found h r v = tt
phase_missed layout (Runs why base) last post desk found h r v = run_missed layout why base last post desk found h (r why base refl) v
phase_missed layout (Works (Keeping (Loosens (Rehold key)))) last post desk found h r v = tt
phase_missed layout phase last post desk found h r v = absurd (cc)
