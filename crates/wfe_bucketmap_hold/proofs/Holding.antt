-- Where a hold stands does not depend on how many steps it has made.
use Rattle.std.proofs.Common.{ℕ, ◌≡◌, Option, Some, None, refl}
use Rattle.wfe_core.specs.declared.post.Post.{Post}
use Rattle.wfe_core.specs.CallReady.{IsCallPlausible, IsCallReady}
use Rattle.wfe_core.specs.defs.declared.call.Answer.TheVariants.{Nothing}
use Rattle.wfe_call_rounds.specs.Rounds.{opening_of, CloseAt, ClearsAt, FinishesAt, closing_of, close_phase}
use Rattle.wfe_core.specs.Calls.{Answering, Holds, Opens, Rehold, Runs}
use Rattle.wfe_core.specs.Rounds.{scheme_of, root_of, protect_base, round_by, begin_base, begin_span, release_base}
use Rattle.wfe_core.specs.words.declared.config.SchemeKind.{SchemeKind}
use Rattle.wfe_core.specs.words.declared.config.SchemeKind.TheVariants.{He, Hp, Ibr, Wfe}
use Rattle.wfe_core.specs.Desks.{Desk}
use Rattle.wfe_core.specs.Phases.{Base}
use Rattle.wfe_core.specs.Posts.{stands, counted}
use Rattle.wfe_core.specs.Steps.{holding}
use Rattle.wfe_call_rounds.specs.iface.Schemes.{RoundPhases}
use Rattle.wfe_call_rounds.proofs.Taken.{round_counted}
use Rattle.wfe_bucketmap_hold.specs.declared.hold_at.HoldAt.{HoldAt}
use Rattle.wfe_bucketmap_hold.specs.declared.hold_at.HoldAt.TheVariants as ats
use Rattle.wfe_bucketmap_hold.specs.Holds.{hold_phase}
use Rattle.wfe_bucketmap_hold.proofs.Counting.{base_plausible, base_ready, letting_by_plausible, letting_by_ready}

holding_counted : (key : ℕ) (post : Post) (held : Option ℕ) → holding key post held ≡ holding key (counted post) held
holding_counted key post None = round_counted (Holds key) post
holding_counted key post (Some slot) = refl

pub hold_phase_counted : {B P C F R : Type 0} (phases : RoundPhases B P C F) (release : R → Base) (key : ℕ) (at : HoldAt B P C F R) (post : Post) → hold_phase phases release key at post ≡ hold_phase phases release key at (counted post)
hold_phase_counted phases release key ats.Starts post = holding_counted key post (stands post 2)
hold_phase_counted phases release key (ats.Releases machine) post = refl
hold_phase_counted phases release key ats.Rounds post = round_counted (Holds key) post
hold_phase_counted phases release key (ats.Opens opening) post = refl
hold_phase_counted phases release key (ats.Closes closing) post = refl

-- what is ready at one count of steps is ready at another
opening_ready : (key : ℕ) (post : Post) (desk : Desk) (steps : ℕ) (kind : SchemeKind) → IsCallReady (Runs (Opens (Holds key)) (protect_base kind 2 (root_of (Holds key) post))) post desk → IsCallReady (Runs (Opens (Holds key)) (protect_base kind 2 (root_of (Holds key) post))) (record post { steps = steps }) desk
opening_ready key post desk steps He h = h
opening_ready key post desk steps Ibr h = h
opening_ready key post desk steps Wfe h = h
opening_ready key post desk steps Hp h = h

round_by_ready : (key : ℕ) (post : Post) (desk : Desk) (steps : ℕ) (base : Option Base) → IsCallReady (round_by (Holds key) post base) post desk → IsCallReady (round_by (Holds key) (record post { steps = steps }) base) (record post { steps = steps }) desk
round_by_ready key post desk steps None h = opening_ready key post desk steps (scheme_of post) h
round_by_ready key post desk steps (Some base) h = (base_ready post steps base h.0, h.1)

round_ready : (key : ℕ) (post : Post) (desk : Desk) (steps : ℕ) (kind : SchemeKind) → IsCallReady (round_by (Holds key) post (begin_base kind post)) post desk → IsCallReady (round_by (Holds key) (record post { steps = steps }) (begin_base kind (record post { steps = steps }))) (record post { steps = steps }) desk
round_ready key post desk steps He h = round_by_ready key post desk steps None h
round_ready key post desk steps Ibr h = round_by_ready key post desk steps (begin_span post.span) h
round_ready key post desk steps Wfe h = round_by_ready key post desk steps None h
round_ready key post desk steps Hp h = round_by_ready key post desk steps None h

holding_ready : (key : ℕ) (post : Post) (desk : Desk) (steps : ℕ) (held : Option ℕ) → IsCallReady (holding key post held) post desk → IsCallReady (holding key (record post { steps = steps }) held) (record post { steps = steps }) desk
holding_ready key post desk steps None h = round_ready key post desk steps (scheme_of post) h
holding_ready key post desk steps (Some slot) h = letting_by_ready (Rehold key) post desk steps (release_base (scheme_of post) post 2) h

closing_ready : (key : ℕ) (post : Post) (desk : Desk) (steps : ℕ) (at : CloseAt) → IsCallReady (close_phase (Holds key) (Answering Nothing) at) post desk → IsCallReady (close_phase (Holds key) (Answering Nothing) at) (record post { steps = steps }) desk
closing_ready key post desk steps (ClearsAt base) h = (base_ready post steps base h.0, h.1)
closing_ready key post desk steps (FinishesAt base) h = (base_ready post steps base h.0, h.1)

pub hold_ready : {B P C F R : Type 0} (phases : RoundPhases B P C F) (release : R → Base) (key : ℕ) (at : HoldAt B P C F R) (post : Post) (desk : Desk) (steps : ℕ) → IsCallReady (hold_phase phases release key at post) post desk → IsCallReady (hold_phase phases release key at (record post { steps = steps })) (record post { steps = steps }) desk
hold_ready phases release key ats.Starts post desk steps h = holding_ready key post desk steps (stands post 2) h
hold_ready phases release key (ats.Releases machine) post desk steps h = (base_ready post steps (release machine) h.0, h.1)
hold_ready phases release key ats.Rounds post desk steps h = round_ready key post desk steps (scheme_of post) h
hold_ready phases release key (ats.Opens opening) post desk steps h = (base_ready post steps (opening_of phases opening) h.0, h.1)
hold_ready phases release key (ats.Closes closing) post desk steps h = closing_ready key post desk steps (closing_of phases closing) h

opening_plausible : (key : ℕ) (post : Post) (steps found : ℕ) (kind : SchemeKind) → IsCallPlausible (Runs (Opens (Holds key)) (protect_base kind 2 (root_of (Holds key) post))) post found → IsCallPlausible (Runs (Opens (Holds key)) (protect_base kind 2 (root_of (Holds key) post))) (record post { steps = steps }) found
opening_plausible key post steps found He h = h
opening_plausible key post steps found Ibr h = h
opening_plausible key post steps found Wfe h = h
opening_plausible key post steps found Hp h = h

round_by_plausible : (key : ℕ) (post : Post) (steps found : ℕ) (base : Option Base) → IsCallPlausible (round_by (Holds key) post base) post found → IsCallPlausible (round_by (Holds key) (record post { steps = steps }) base) (record post { steps = steps }) found
round_by_plausible key post steps found None h = opening_plausible key post steps found (scheme_of post) h
round_by_plausible key post steps found (Some base) h = base_plausible post steps found base h

round_plausible : (key : ℕ) (post : Post) (steps found : ℕ) (kind : SchemeKind) → IsCallPlausible (round_by (Holds key) post (begin_base kind post)) post found → IsCallPlausible (round_by (Holds key) (record post { steps = steps }) (begin_base kind (record post { steps = steps }))) (record post { steps = steps }) found
round_plausible key post steps found He h = round_by_plausible key post steps found None h
round_plausible key post steps found Ibr h = round_by_plausible key post steps found (begin_span post.span) h
round_plausible key post steps found Wfe h = round_by_plausible key post steps found None h
round_plausible key post steps found Hp h = round_by_plausible key post steps found None h

holding_plausible : (key : ℕ) (post : Post) (steps found : ℕ) (held : Option ℕ) → IsCallPlausible (holding key post held) post found → IsCallPlausible (holding key (record post { steps = steps }) held) (record post { steps = steps }) found
holding_plausible key post steps found None h = round_plausible key post steps found (scheme_of post) h
holding_plausible key post steps found (Some slot) h = letting_by_plausible (Rehold key) post steps found (release_base (scheme_of post) post 2) h

closing_plausible : (key : ℕ) (post : Post) (steps found : ℕ) (at : CloseAt) → IsCallPlausible (close_phase (Holds key) (Answering Nothing) at) post found → IsCallPlausible (close_phase (Holds key) (Answering Nothing) at) (record post { steps = steps }) found
closing_plausible key post steps found (ClearsAt base) h = base_plausible post steps found base h
closing_plausible key post steps found (FinishesAt base) h = base_plausible post steps found base h

-- and what it may find is the same
pub hold_plausible : {B P C F R : Type 0} (phases : RoundPhases B P C F) (release : R → Base) (key : ℕ) (at : HoldAt B P C F R) (post : Post) (steps found : ℕ) → IsCallPlausible (hold_phase phases release key at post) post found → IsCallPlausible (hold_phase phases release key at (record post { steps = steps })) (record post { steps = steps }) found
hold_plausible phases release key ats.Starts post steps found h = holding_plausible key post steps found (stands post 2) h
hold_plausible phases release key (ats.Releases machine) post steps found h = base_plausible post steps found (release machine) h
hold_plausible phases release key ats.Rounds post steps found h = round_plausible key post steps found (scheme_of post) h
hold_plausible phases release key (ats.Opens opening) post steps found h = base_plausible post steps found (opening_of phases opening) h
hold_plausible phases release key (ats.Closes closing) post steps found h = closing_plausible key post steps found (closing_of phases closing) h
