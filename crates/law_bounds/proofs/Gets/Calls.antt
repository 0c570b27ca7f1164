-- A get and a hold: the steps that are made and those that are to come where nothing else is moved are no more than they may be; each
-- own step keeps this.
use Rattle.std.proofs.Common.{ℕ, ◌≡◌, ◌≤◌, ◌<◌, ◌+◌, ◌-◌, Bool, true, false, List, [], ◌∷◌, ◌++◌, Option, Some, None, ◌⊎◌, inl, inr, refl, ap, ◌∙◌, arith}
use Rattle.std.specs.Prelude.{◌==◌, ◌&&◌, not, nat_lt, if◌then◌else◌}
use Rattle.law_held.specs.inv.model.defs.declared.call.Answer.{Answer}
use Rattle.law_held.specs.inv.model.defs.declared.call.Answer.TheVariants as the_answers
use Rattle.law_held.specs.inv.model.defs.declared.call.Call.{Call}
use Rattle.law_held.specs.inv.model.defs.declared.call.Call.TheVariants as calls
use Rattle.law_held.specs.inv.model.defs.declared.event.Event.{Event}
use Rattle.law_held.specs.inv.model.defs.declared.event.Event.TheVariants as events
use Rattle.law_held.specs.inv.model.defs.declared.event.Root.{Root}
use Rattle.law_held.specs.inv.model.defs.declared.lifetime.Interval.{Interval}
use Rattle.law_held.specs.inv.model.declared.ends.ProtectEnd.TheVariants as protect_ends
use Rattle.law_held.specs.inv.model.declared.post.Post.{Post}
use Rattle.law_held.specs.inv.model.Desks.{Desk}
use Rattle.law_held.specs.inv.model.Get as gets
use Rattle.law_held.specs.inv.model.Guards.{from_to}
use Rattle.law_held.specs.inv.model.Machine as machine
use Rattle.law_held.specs.inv.model.Memory.{bump}
use Rattle.law_held.specs.inv.model.Rounds.{begin_base, begin_span, begin_where, bucket_of, clear_base, clear_post, clear_told, clearing_by, finish_base, finishing_by, letting_by, protect_at, release_base, round, round_by, scheme_of}
use Rattle.law_held.specs.inv.model.Steps as steps
use Rattle.law_held.specs.inv.model.Phases.{Aim, Alone, Follows, BeginAt, ProtectAt, Base, Turn, Outcome, Goes, Ends}
use Rattle.law_held.specs.inv.model.Phases.BeginAt.{LoadLower, PublishSpan}
use Rattle.law_held.specs.inv.model.Phases.ProtectAt.{LoadWithin}
use Rattle.law_held.specs.inv.model.Phases.Base.{Begin, Protect, Clear, Finish, Release}
use Rattle.law_held.specs.inv.model.Phases.Ending.{Protected}
use Rattle.law_held.specs.inv.model.Posts.{upper, withdrawn}
use Rattle.law_held.specs.inv.model.Calls.{Task, Gets, Holds, Answering, Why, Opens, Clears, Finishes, Releases, Rehold, Loosens, GetAt, FindVersion, FindCount, FindKey, FindValue, Getting, Keeping, Phase, Runs, Works, CallTurn, CallOutcome, GoesOn, Answers}
use Rattle.law_held.specs.inv.model.words.Schemes.{has_one_interval, is_wfe, publishes_rows}
use Rattle.law_held.specs.inv.model.words.declared.config.Config.{Config}
use Rattle.law_held.specs.inv.model.words.declared.config.SchemeKind.{SchemeKind}
use Rattle.law_held.specs.inv.model.words.declared.config.SchemeKind.TheVariants.{He, Hp, Ibr, Wfe}
use Rattle.law_held.specs.inv.shapes.Seats.{agree, kind_of, suits, base_fits}
use Rattle.law_held.specs.inv.shapes.Slots.{GetIn}
use Rattle.law_bounds.proofs.Gets.Ahead.{Costs, LeavesFewer, TurnFewer, at_loads, base_ahead, costs_of, no_costs, protect_ahead, protect_fewer}

-- what a get reads is still to come, and its last step
abbrev pub getting_ahead : Config → GetAt → ℕ
getting_ahead c (FindVersion slot) = c.pairs + 4
getting_ahead c (FindCount slot version) = c.pairs + 3
getting_ahead c (FindKey slot version count pair) = (c.pairs - pair) + 2
getting_ahead c (FindValue slot version pair) = 2

abbrev pub get_at : Config → Costs → (key : ℕ) → Option Interval → (steps most : ℕ) → Phase → Type 0
get_at c x k span n most (Runs (Opens (Gets key)) base) = (key ≡ k) × (n + base_ahead x span base + (c.pairs + 4) ≤ most)
get_at c x k span n most (Runs (Clears (Gets key) (Answering answer)) base) = n + 1 ≤ most
get_at c x k span n most (Runs (Finishes (Gets key) (Answering answer)) base) = n + 1 ≤ most
get_at c x k span n most (Works (Getting key at)) = n + getting_ahead c at ≤ most
get_at c x k span n most phase = ⊥

-- what a protection takes from its start
abbrev pub first_most : (rows : Bool) → ℕ
first_most true = 3
first_most false = 5

abbrev pub hold_at : Config → Costs → (key : ℕ) → Option Interval → (steps most : ℕ) → Phase → Type 0
hold_at c x k span n most (Runs (Releases (Rehold key)) base) = (key ≡ k) × (n + 2 + first_most (publishes_rows c.scheme) ≤ most)
hold_at c x k span n most (Works (Keeping (Loosens (Rehold key)))) = (key ≡ k) × (n + 2 + first_most (publishes_rows c.scheme) ≤ most)
hold_at c x k span n most (Runs (Opens (Holds key)) base) = (key ≡ k) × (n + base_ahead x span base + 1 ≤ most)
hold_at c x k span n most (Runs (Clears (Holds key) (Answering answer)) base) = n + 1 ≤ most
hold_at c x k span n most (Runs (Finishes (Holds key) (Answering answer)) base) = n + 1 ≤ most
hold_at c x k span n most phase = ⊥

abbrev pub call_at : Config → Costs → Option Interval → (steps most : ℕ) → Call → Phase → Type 0
call_at c x span n most (calls.Get key) phase = get_at c x key span n most phase
call_at c x span n most (calls.Hold key) phase = hold_at c x key span n most phase
call_at c x span n most call phase = Unit {0}

abbrev pub ended_at : (steps most : ℕ) → Call → Type 0
ended_at n most (calls.Get key) = n ≤ most
ended_at n most (calls.Hold key) = n ≤ most
ended_at n most call = Unit {0}

-- what a step leaves, so many steps being made
abbrev pub Out : Config → Costs → Call → Option Interval → (steps most : ℕ) → CallOutcome → Type 0
Out c x call span n most (GoesOn phase) = call_at c x span n most call phase
Out c x call span n most (Answers answer) = ended_at n most call

pub free_out : (c : Config) (x : Costs) (call : Call) (span : Option Interval) (n most : ℕ) → ((phase : Phase) → call_at c x span n most call phase) → ended_at n most call → (outcome : CallOutcome) → Out c x call span n most outcome
free_out c x call span n most f e (GoesOn phase) = f phase
free_out c x call span n most f e (Answers answer) = e

-- the same by what the phases keep
abbrev pub OutBy : (Phase → Type 0) → (steps most : ℕ) → CallOutcome → Type 0
OutBy P n most (GoesOn phase) = P phase
OutBy P n most (Answers answer) = n ≤ most

out_get : (c : Config) (x : Costs) (k n most : ℕ) (span : Option Interval) (outcome : CallOutcome) → OutBy (get_at c x k span n most) n most outcome → Out c x (calls.Get k) span n most outcome
out_get c x k n most span (GoesOn phase) h = h
out_get c x k n most span (Answers answer) h = h

out_hold : (c : Config) (x : Costs) (k n most : ℕ) (span : Option Interval) (outcome : CallOutcome) → OutBy (hold_at c x k span n most) n most outcome → Out c x (calls.Hold k) span n most outcome
out_hold c x k n most span (GoesOn phase) h = h
out_hold c x k n most span (Answers answer) h = h

-- what is known of a phase that makes a step, and of what its machine finds and leaves
pub record Facts (c : Config) (clock root k : ℕ) (phase : Phase) (post : Post) (found : ℕ) : Type 0 where
  pub scheme : scheme_of post ≡ c.scheme
  pub left : (why : Why) (base : Base) → phase ≡ Runs why base → scheme_of (machine.after base post found).post ≡ c.scheme
  pub suited : (why : Why) (base : Base) → phase ≡ Runs why base → suits base (kind_of why) ≡ true
  pub fits : (why : Why) (base : Base) → phase ≡ Runs why base → base_fits c base ≡ true
  pub alone : (task : Task) (aim : Aim) (index : ℕ) (link : Root) (made : ℕ) (at : ProtectAt) → phase ≡ Runs (Opens task) (Protect aim index link made at) → aim ≡ Alone
  pub loads : (task : Task) (aim : Aim) (index : ℕ) (link : Root) (made : ℕ) (at : ProtectAt) → phase ≡ Runs (Opens task) (Protect aim index link made at) → (task ≡ Gets k) ⊎ (task ≡ Holds k) → at_loads at found clock root
  pub begins : (task : Task) → phase ≡ Runs (Opens task) (Begin LoadLower) → found ≡ clock
  pub reads : (key : ℕ) (at : GetAt) → phase ≡ Works (Getting key at) → GetIn c at

-- how a round ends: in one step more, or in none
finishing_gets : (P : Phase → Type 0) (key : ℕ) (answer : Answer) (post : Post) (desk : Desk) (told : List Event) (n most : ℕ) → ((base : Base) → P (Runs (Finishes (Gets key) (Answering answer)) base)) → n ≤ most → (some : Option Base) → OutBy P n most (finishing_by (Gets key) (Answering answer) post desk told some).outcome
finishing_gets P key answer post desk told n most f l None = l
finishing_gets P key answer post desk told n most f l (Some base) = f base

clearing_gets : (P : Phase → Type 0) (key : ℕ) (answer : Answer) (post : Post) (desk : Desk) (told : List Event) (n most : ℕ) → ((base : Base) → P (Runs (Clears (Gets key) (Answering answer)) base)) → ((base : Base) → P (Runs (Finishes (Gets key) (Answering answer)) base)) → n ≤ most → (some : Option Base)
    → OutBy P n most (clearing_by (Gets key) (Answering answer) post desk told some).outcome
clearing_gets P key answer post desk told n most g f l None =
    let bare : Post = clear_post (scheme_of post) post 0 in finishing_gets P key answer bare desk (told ++ clear_told (scheme_of post) post 0) n most f l (finish_base (scheme_of bare) bare)
clearing_gets P key answer post desk told n most g f l (Some base) = g base

finishing_holds : (P : Phase → Type 0) (key : ℕ) (answer : Answer) (post : Post) (desk : Desk) (told : List Event) (n most : ℕ) → ((base : Base) → P (Runs (Finishes (Holds key) (Answering answer)) base)) → n ≤ most → (some : Option Base) → OutBy P n most (finishing_by (Holds key) (Answering answer) post desk told some).outcome
finishing_holds P key answer post desk told n most f l None = l
finishing_holds P key answer post desk told n most f l (Some base) = f base

clearing_holds : (P : Phase → Type 0) (key : ℕ) (answer : Answer) (post : Post) (desk : Desk) (told : List Event) (n most : ℕ) → ((base : Base) → P (Runs (Clears (Holds key) (Answering answer)) base)) → ((base : Base) → P (Runs (Finishes (Holds key) (Answering answer)) base)) → n ≤ most → (some : Option Base)
    → OutBy P n most (clearing_by (Holds key) (Answering answer) post desk told some).outcome
clearing_holds P key answer post desk told n most g f l None =
    let bare : Post = clear_post (scheme_of post) post 2 in finishing_holds P key answer bare desk (told ++ clear_told (scheme_of post) post 2) n most f l (finish_base (scheme_of bare) bare)
clearing_holds P key answer post desk told n most g f l (Some base) = g base

-- a cleared index is the last
cleared_get : (c : Config) (x : Costs) (k key : ℕ) (answer : Answer) (post : Post) (desk : Desk) (told : List Event) (m most : ℕ) (some : Option Base) → some ≡ None → m ≤ most → Out c x (calls.Get k) (finishing_by (Gets key) (Answering answer) post desk told some).post.span m most (finishing_by (Gets key) (Answering answer) post desk told some).outcome
cleared_get c x k key answer post desk told m most None e l = l
cleared_get c x k key answer post desk told m most (Some base) e l = absurd (cc)

cleared_hold : (c : Config) (x : Costs) (k key : ℕ) (answer : Answer) (post : Post) (desk : Desk) (told : List Event) (m most : ℕ) (some : Option Base) → some ≡ None → m ≤ most → Out c x (calls.Hold k) (finishing_by (Holds key) (Answering answer) post desk told some).post.span m most (finishing_by (Holds key) (Answering answer) post desk told some).outcome
cleared_hold c x k key answer post desk told m most None e l = l
cleared_hold c x k key answer post desk told m most (Some base) e l = absurd (cc)

-- where an index word is cleared by a step there is no interval to be withdrawn
none_finishes : (scheme : SchemeKind) (post : Post) → has_one_interval scheme ≡ false → finish_base scheme post ≡ None
none_finishes scheme post h = rw h refl

cleared_fits : (c : Config) (rows : Bool) (index : ℕ) → base_fits c (Clear rows index) ≡ true → has_one_interval c.scheme ≡ false
cleared_fits c rows index h = by (has_one_interval c.scheme) refl h
  where
    by : (b : Bool) → has_one_interval c.scheme ≡ b → (not b && agree rows (publishes_rows c.scheme)) ≡ true → b ≡ false
    by true e h = absurd (cc)
    by false e h = refl

-- a get
got_out : (c : Config) (x : Costs) (k key version : ℕ) (value : Option ℕ) (post : Post) (desk : Desk) (told : List Event) (span : Option Interval) (n most : ℕ) → n + 1 ≤ most → OutBy (get_at c x k span n most) n most (gets.got key version value post desk told).outcome
got_out c x k key version value post desk told span n most h =
    clearing_gets (get_at c x k span n most) key (the_answers.Got version value) post desk (told ++ events.Got (bucket_of post key) version key value ∷ []) n most (λ base. h) (λ base. h) (omega (arith, h)) (clear_base (scheme_of post) 0)

finding_out : (c : Config) (x : Costs) (k key slot version count : ℕ) (post : Post) (desk : Desk) (more : Bool) (pair : ℕ) (span : Option Interval) (n most : ℕ) → n + (c.pairs - pair) + 2 ≤ most → OutBy (get_at c x k span n most) n most (gets.finding key slot version count post desk more pair).outcome
finding_out c x k key slot version count post desk true pair span n most h = omega (arith, h)
finding_out c x k key slot version count post desk false pair span n most h = got_out c x k key version None post desk [] span n most (omega (arith, h))

key_out : (c : Config) (x : Costs) (k key slot version count pair : ℕ) (post : Post) (desk : Desk) (own : Bool) (span : Option Interval) (n most : ℕ) → pair < c.pairs → n + (c.pairs - pair) + 1 ≤ most → OutBy (get_at c x k span n most) n most (gets.found_key key slot version count pair post desk own).outcome
key_out c x k key slot version count pair post desk true span n most p h = omega (arith, p, h)
key_out c x k key slot version count pair post desk false span n most p h = finding_out c x k key slot version count post desk (nat_lt (pair + 1) count) (pair + 1) span n most (omega (arith, p, h))

get_work : (c : Config) (x : Costs) (k key : ℕ) (at : GetAt) (post : Post) (desk : Desk) (found : ℕ) (span : Option Interval) (n m most : ℕ) → GetIn c at → n + getting_ahead c at ≤ most → m ≡ n + 1 → OutBy (get_at c x k span m most) m most (gets.get_turn key at post desk found).outcome
get_work c x k key (FindVersion slot) post desk found span n m most g h e = omega (arith, h, e)
get_work c x k key (FindCount slot version) post desk found span n m most g h e = finding_out c x k key slot version found post desk (nat_lt 0 found) 0 span m most (omega (arith, h, e))
get_work c x k key (FindKey slot version count pair) post desk found span n m most g h e =
    let p : pair < c.pairs = omega (g.1, g.2, arith) in key_out c x k key slot version count pair post desk (found == key) span m most p (omega (arith, h, e))
get_work c x k key (FindValue slot version pair) post desk found span n m most g h e = got_out c x k key version (Some found) post desk [] span m most (omega (arith, h, e))

get_open : (c : Config) (x : Costs) (k key : ℕ) (desk : Desk) (post : Post) (told : List Event) (outcome : Outcome) (old n m most : ℕ) → key ≡ k → LeavesFewer x post.span old outcome → n + old + (c.pairs + 4) ≤ most → m ≡ n + 1
    → Out c x (calls.Get k) (steps.resumed (Opens (Gets key)) desk post told outcome).post.span m most (steps.resumed (Opens (Gets key)) desk post told outcome).outcome
get_open c x k key desk post told (Goes (Protect Alone index link made at)) old n m most s l h e = (s, omega (arith, l, h, e))
get_open c x k key desk post told (Goes base) old n m most s l h e = absurd l
get_open c x k key desk post told (Ends (Protected (protect_ends.Held slot era))) old n m most s l h e = omega (arith, l, h, e)
get_open c x k key desk post told (Ends (Protected protect_ends.Null)) old n m most s l h e =
    let span : Option Interval = (steps.resumed (Opens (Gets key)) desk post told (Ends (Protected protect_ends.Null))).post.span in
    out_get c x k m most span (gets.got key 0 None post desk told).outcome (got_out c x k key 0 None post desk told span m most (omega (arith, l, h, e)))
get_open c x k key desk post told (Ends ending) old n m most s l h e = absurd l

-- where a round begins
late_three : (rows : Bool) (clock root seen : ℕ) → (costs_of rows clock root).era seen ≤ 3
late_three true clock root seen = omega arith
late_three false clock root seen = by (seen == clock)
  where
    by : (same : Bool) → (if same then 0 else 3) ≤ 3
    by true = omega arith
    by false = omega arith

opens_at : (c : Config) (x : Costs) (scheme : SchemeKind) (span : Option Interval) → is_wfe scheme ≡ false → (has_one_interval scheme ≡ true → x.era (upper span) ≤ 3) → protect_ahead x span (protect_at scheme) ≤ first_most (publishes_rows scheme)
opens_at c x He span f h = omega arith
opens_at c x Ibr span f h = let a = h refl in omega (arith, a)
opens_at c x Wfe span f h = absurd (cc)
opens_at c x Hp span f h = omega arith

begins_at : (scheme : SchemeKind) → has_one_interval scheme ≡ true → first_most (publishes_rows scheme) ≡ 5
begins_at He h = absurd (cc)
begins_at Ibr h = refl
begins_at Wfe h = absurd (cc)
begins_at Hp h = absurd (cc)

-- a round's first phase
abbrev first_ahead : Costs → Option Interval → Phase → ℕ
first_ahead x span (Runs why base) = base_ahead x span base
first_ahead x span phase = 0

round_ahead : (c : Config) (x : Costs) (task : Task) (post : Post) → is_wfe (scheme_of post) ≡ false → ((seen : ℕ) → x.era seen ≤ 3) → (some : Option Base) → begin_base (scheme_of post) post ≡ some → first_ahead x post.span (round_by task post some) ≤ first_most (publishes_rows (scheme_of post))
round_ahead c x task post f h None e = opens_at c x (scheme_of post) post.span f (λ i. h (upper post.span))
round_ahead c x task post f h (Some base) e = by (has_one_interval (scheme_of post)) refl e
  where
    one : (span : Option Interval) → begin_span span ≡ Some base → base ≡ Begin LoadLower
    one None e = cc
    one (Some span) e = absurd (cc)

    by : (b : Bool) → has_one_interval (scheme_of post) ≡ b → begin_where b post ≡ Some base → base_ahead x post.span base ≤ first_most (publishes_rows (scheme_of post))
    by true i e = rw (one post.span e, begins_at (scheme_of post) i) (omega arith)
    by false i e = absurd (cc)

rehold_out : (c : Config) (x : Costs) (k key : ℕ) (post : Post) (n m most : ℕ) → scheme_of post ≡ c.scheme → is_wfe c.scheme ≡ false → ((seen : ℕ) → x.era seen ≤ 3) → key ≡ k → n + 2 + first_most (publishes_rows c.scheme) ≤ most → m ≡ n + 1 → hold_at c x k post.span m most (round (Holds key) post)
rehold_out c x k key post n m most e f h s l q = by (begin_base (scheme_of post) post) refl
  where
    plain : is_wfe (scheme_of post) ≡ false
    plain = ap is_wfe e ∙ f

    first : first_most (publishes_rows (scheme_of post)) ≡ first_most (publishes_rows c.scheme)
    first = ap (λ (scheme : SchemeKind). first_most (publishes_rows scheme)) e

    by : (some : Option Base) → begin_base (scheme_of post) post ≡ some → hold_at c x k post.span m most (round_by (Holds key) post some)
    by None g = let a = round_ahead c x (Holds key) post plain h None g in (s, omega (arith, a, first, l, q))
    by (Some base) g = let a = round_ahead c x (Holds key) post plain h (Some base) g in (s, omega (arith, a, first, l, q))

-- an interval begins
within_at : (scheme : SchemeKind) → has_one_interval scheme ≡ true → protect_at scheme ≡ LoadWithin
within_at He h = absurd (cc)
within_at Ibr h = refl
within_at Wfe h = absurd (cc)
within_at Hp h = absurd (cc)

begin_left : (c : Config) (x : Costs) (scheme : SchemeKind) (span : Option Interval) (era : ℕ) → scheme ≡ c.scheme → has_one_interval c.scheme ≡ true → upper span ≡ era → protect_ahead x span (protect_at scheme) ≡ 2 + x.era era
begin_left c x scheme span era e i u = rw (within_at scheme (ap has_one_interval e ∙ i), u) refl

get_begins : (c : Config) (x : Costs) (k key : ℕ) (at : BeginAt) (post : Post) (desk : Desk) (found n m most : ℕ) → scheme_of (machine.begin_turn at post found).post ≡ c.scheme → has_one_interval c.scheme ≡ true → (at ≡ LoadLower → x.era found ≡ 0) → key ≡ k → n + base_ahead x post.span (Begin at) + (c.pairs + 4) ≤ most → m ≡ n + 1
    → Out c x (calls.Get k) (steps.phase_turn (Runs (Opens (Gets key)) (Begin at)) post desk found).post.span m most (steps.phase_turn (Runs (Opens (Gets key)) (Begin at)) post desk found).outcome
get_begins c x k key LoadLower post desk found n m most e i z s l q = let a = z refl in (s, omega (arith, a, l, q))
get_begins c x k key (PublishSpan era) post desk found n m most e i z s l q = let a = begin_left c x (scheme_of post) (from_to era era) era e i refl in (s, omega (arith, a, l, q))

hold_begins : (c : Config) (x : Costs) (k key : ℕ) (at : BeginAt) (post : Post) (desk : Desk) (found n m most : ℕ) → scheme_of (machine.begin_turn at post found).post ≡ c.scheme → has_one_interval c.scheme ≡ true → (at ≡ LoadLower → x.era found ≡ 0) → key ≡ k → n + base_ahead x post.span (Begin at) + 1 ≤ most → m ≡ n + 1
    → Out c x (calls.Hold k) (steps.phase_turn (Runs (Opens (Holds key)) (Begin at)) post desk found).post.span m most (steps.phase_turn (Runs (Opens (Holds key)) (Begin at)) post desk found).outcome
hold_begins c x k key LoadLower post desk found n m most e i z s l q = let a = z refl in (s, omega (arith, a, l, q))
hold_begins c x k key (PublishSpan era) post desk found n m most e i z s l q = let a = begin_left c x (scheme_of post) (from_to era era) era e i refl in (s, omega (arith, a, l, q))

-- a hold
hold_open : (c : Config) (x : Costs) (k key : ℕ) (desk : Desk) (post : Post) (told : List Event) (outcome : Outcome) (old n m most : ℕ) → key ≡ k → LeavesFewer x post.span old outcome → n + old + 1 ≤ most → m ≡ n + 1
    → Out c x (calls.Hold k) (steps.resumed (Opens (Holds key)) desk post told outcome).post.span m most (steps.resumed (Opens (Holds key)) desk post told outcome).outcome
hold_open c x k key desk post told (Goes (Protect Alone index link made at)) old n m most s l h e = (s, omega (arith, l, h, e))
hold_open c x k key desk post told (Goes base) old n m most s l h e = absurd l
hold_open c x k key desk post told (Ends (Protected (protect_ends.Held slot era))) old n m most s l h e = omega (arith, l, h, e)
hold_open c x k key desk post told (Ends (Protected protect_ends.Null)) old n m most s l h e =
    let f : m + 1 ≤ most = omega (arith, l, h, e) in
    let t : CallTurn = steps.resumed (Opens (Holds key)) desk post told (Ends (Protected protect_ends.Null)) in
    out_hold c x k m most t.post.span t.outcome (clearing_holds (hold_at c x k t.post.span m most) key the_answers.Nothing post desk told m most (λ base. f) (λ base. f) (omega (arith, f)) (clear_base (scheme_of post) 2))
hold_open c x k key desk post told (Ends ending) old n m most s l h e = absurd l

-- the task's protection
get_protects : (c : Config) (clock root k key : ℕ) (aim : Aim) (index : ℕ) (link : Root) (made : ℕ) (at : ProtectAt) (post : Post) (desk : Desk) (found n m most : ℕ) → Facts c clock root k (Runs (Opens (Gets key)) (Protect aim index link made at)) post found → is_wfe c.scheme ≡ false → key ≡ k
    → n + protect_ahead (costs_of (publishes_rows c.scheme) clock root) post.span at + (c.pairs + 4) ≤ most → m ≡ n + 1
    → Out c (costs_of (publishes_rows c.scheme) clock root) (calls.Get k) (steps.phase_turn (Runs (Opens (Gets key)) (Protect aim index link made at)) post desk found).post.span m most (steps.phase_turn (Runs (Opens (Gets key)) (Protect aim index link made at)) post desk found).outcome
get_protects c clock root k key Follows index link made at post desk found n m most x f s l e = absurd (let a : Follows ≡ Alone = x.alone (Gets key) Follows index link made at refl in cc)
get_protects c clock root k key Alone index link made at post desk found n m most x f s l e =
    let t : Turn = machine.protect_turn Alone index link (bump made) at post found in
    let costs : Costs = costs_of (publishes_rows c.scheme) clock root in
    let a : TurnFewer costs (protect_ahead costs post.span at) t = protect_fewer (publishes_rows c.scheme) clock root c.scheme c.tries index link (bump made) at post found refl f (x.fits (Opens (Gets key)) (Protect Alone index link made at) refl) (x.loads (Gets key) Alone index link made at refl (inl (ap Gets s))) in
    get_open c costs k key desk t.post t.told t.outcome (protect_ahead costs post.span at) n m most s a l e

hold_protects : (c : Config) (clock root k key : ℕ) (aim : Aim) (index : ℕ) (link : Root) (made : ℕ) (at : ProtectAt) (post : Post) (desk : Desk) (found n m most : ℕ) → Facts c clock root k (Runs (Opens (Holds key)) (Protect aim index link made at)) post found → is_wfe c.scheme ≡ false → key ≡ k
    → n + protect_ahead (costs_of (publishes_rows c.scheme) clock root) post.span at + 1 ≤ most → m ≡ n + 1
    → Out c (costs_of (publishes_rows c.scheme) clock root) (calls.Hold k) (steps.phase_turn (Runs (Opens (Holds key)) (Protect aim index link made at)) post desk found).post.span m most (steps.phase_turn (Runs (Opens (Holds key)) (Protect aim index link made at)) post desk found).outcome
hold_protects c clock root k key Follows index link made at post desk found n m most x f s l e = absurd (let a : Follows ≡ Alone = x.alone (Holds key) Follows index link made at refl in cc)
hold_protects c clock root k key Alone index link made at post desk found n m most x f s l e =
    let t : Turn = machine.protect_turn Alone index link (bump made) at post found in
    let costs : Costs = costs_of (publishes_rows c.scheme) clock root in
    let a : TurnFewer costs (protect_ahead costs post.span at) t = protect_fewer (publishes_rows c.scheme) clock root c.scheme c.tries index link (bump made) at post found refl f (x.fits (Opens (Holds key)) (Protect Alone index link made at) refl) (x.loads (Holds key) Alone index link made at refl (inr (ap Holds s))) in
    hold_open c costs k key desk t.post t.told t.outcome (protect_ahead costs post.span at) n m most s a l e

-- a step of a call
pub get_out : (c : Config) (clock root k : ℕ) (phase : Phase) (post : Post) (desk : Desk) (found n m most : ℕ) → Facts c clock root k phase post found → is_wfe c.scheme ≡ false → get_at c (costs_of (publishes_rows c.scheme) clock root) k post.span n most phase → m ≡ n + 1
    → Out c (costs_of (publishes_rows c.scheme) clock root) (calls.Get k) (steps.phase_turn phase post desk found).post.span m most (steps.phase_turn phase post desk found).outcome
get_out c clock root k (Runs (Opens (Gets key)) (Protect aim index link made at)) post desk found n m most x f h e = get_protects c clock root k key aim index link made at post desk found n m most x f h.0 h.1 e
get_out c clock root k (Runs (Opens (Gets key)) (Begin at)) post desk found n m most x f h e =
    get_begins c (costs_of (publishes_rows c.scheme) clock root) k key at post desk found n m most (x.left (Opens (Gets key)) (Begin at) refl) (x.fits (Opens (Gets key)) (Begin at) refl)
    (λ a. no_costs (publishes_rows c.scheme) clock root found (x.begins (Gets key) (ap (λ (y : BeginAt). Runs (Opens (Gets key)) (Begin y)) a))) h.0 h.1 e
get_out c clock root k (Runs (Opens (Gets key)) base) post desk found n m most x f h e = absurd (let s = x.suited (Opens (Gets key)) base refl in cc)
get_out c clock root k (Runs (Clears (Gets key) (Answering answer)) (Clear rows index)) post desk found n m most x f h e =
    let t : Turn = machine.after (Clear rows index) post found in
    let i : has_one_interval c.scheme ≡ false = cleared_fits c rows index (x.fits (Clears (Gets key) (Answering answer)) (Clear rows index) refl) in
    let z : finish_base (scheme_of t.post) t.post ≡ None = none_finishes (scheme_of t.post) t.post (ap has_one_interval (x.left (Clears (Gets key) (Answering answer)) (Clear rows index) refl) ∙ i) in
    cleared_get c (costs_of (publishes_rows c.scheme) clock root) k key answer t.post desk t.told m most (finish_base (scheme_of t.post) t.post) z (omega (arith, h, e))
get_out c clock root k (Runs (Clears (Gets key) (Answering answer)) base) post desk found n m most x f h e = absurd (let s = x.suited (Clears (Gets key) (Answering answer)) base refl in cc)
get_out c clock root k (Runs (Finishes (Gets key) (Answering answer)) Finish) post desk found n m most x f h e = omega (arith, h, e)
get_out c clock root k (Runs (Finishes (Gets key) (Answering answer)) base) post desk found n m most x f h e = absurd (let s = x.suited (Finishes (Gets key) (Answering answer)) base refl in cc)
get_out c clock root k (Works (Getting key at)) post desk found n m most x f h e =
    let t : CallTurn = gets.get_turn key at post desk found in
    out_get c (costs_of (publishes_rows c.scheme) clock root) k m most t.post.span t.outcome (get_work c (costs_of (publishes_rows c.scheme) clock root) k key at post desk found t.post.span n m most (x.reads key at refl) h e)
get_out c clock root k phase post desk found n m most x f h e = absurd h

pub hold_out : (c : Config) (clock root k : ℕ) (phase : Phase) (post : Post) (desk : Desk) (found n m most : ℕ) → Facts c clock root k phase post found → is_wfe c.scheme ≡ false → hold_at c (costs_of (publishes_rows c.scheme) clock root) k post.span n most phase → m ≡ n + 1
    → Out c (costs_of (publishes_rows c.scheme) clock root) (calls.Hold k) (steps.phase_turn phase post desk found).post.span m most (steps.phase_turn phase post desk found).outcome
hold_out c clock root k (Runs (Releases (Rehold key)) (Clear rows index)) post desk found n m most x f h e =
    rehold_out c (costs_of (publishes_rows c.scheme) clock root) k key (machine.after (Clear rows index) post found).post n m most (x.left (Releases (Rehold key)) (Clear rows index) refl) f (late_three (publishes_rows c.scheme) clock root) h.0 h.1 e
hold_out c clock root k (Runs (Releases (Rehold key)) (Release index)) post desk found n m most x f h e =
    rehold_out c (costs_of (publishes_rows c.scheme) clock root) k key (machine.after (Release index) post found).post n m most (x.left (Releases (Rehold key)) (Release index) refl) f (late_three (publishes_rows c.scheme) clock root) h.0 h.1 e
hold_out c clock root k (Runs (Releases (Rehold key)) base) post desk found n m most x f h e = absurd (let s = x.suited (Releases (Rehold key)) base refl in cc)
hold_out c clock root k (Works (Keeping (Loosens (Rehold key)))) post desk found n m most x f h e =
    rehold_out c (costs_of (publishes_rows c.scheme) clock root) k key (withdrawn post 2) n m most x.scheme f (late_three (publishes_rows c.scheme) clock root) h.0 h.1 e
hold_out c clock root k (Runs (Opens (Holds key)) (Protect aim index link made at)) post desk found n m most x f h e = hold_protects c clock root k key aim index link made at post desk found n m most x f h.0 h.1 e
hold_out c clock root k (Runs (Opens (Holds key)) (Begin at)) post desk found n m most x f h e =
    hold_begins c (costs_of (publishes_rows c.scheme) clock root) k key at post desk found n m most (x.left (Opens (Holds key)) (Begin at) refl) (x.fits (Opens (Holds key)) (Begin at) refl)
    (λ a. no_costs (publishes_rows c.scheme) clock root found (x.begins (Holds key) (ap (λ (y : BeginAt). Runs (Opens (Holds key)) (Begin y)) a))) h.0 h.1 e
hold_out c clock root k (Runs (Opens (Holds key)) base) post desk found n m most x f h e = absurd (let s = x.suited (Opens (Holds key)) base refl in cc)
hold_out c clock root k (Runs (Clears (Holds key) (Answering answer)) (Clear rows index)) post desk found n m most x f h e =
    let t : Turn = machine.after (Clear rows index) post found in
    let i : has_one_interval c.scheme ≡ false = cleared_fits c rows index (x.fits (Clears (Holds key) (Answering answer)) (Clear rows index) refl) in
    let z : finish_base (scheme_of t.post) t.post ≡ None = none_finishes (scheme_of t.post) t.post (ap has_one_interval (x.left (Clears (Holds key) (Answering answer)) (Clear rows index) refl) ∙ i) in
    cleared_hold c (costs_of (publishes_rows c.scheme) clock root) k key answer t.post desk t.told m most (finish_base (scheme_of t.post) t.post) z (omega (arith, h, e))
hold_out c clock root k (Runs (Clears (Holds key) (Answering answer)) base) post desk found n m most x f h e = absurd (let s = x.suited (Clears (Holds key) (Answering answer)) base refl in cc)
hold_out c clock root k (Runs (Finishes (Holds key) (Answering answer)) Finish) post desk found n m most x f h e = omega (arith, h, e)
hold_out c clock root k (Runs (Finishes (Holds key) (Answering answer)) base) post desk found n m most x f h e = absurd (let s = x.suited (Finishes (Holds key) (Answering answer)) base refl in cc)
hold_out c clock root k phase post desk found n m most x f h e = absurd h

-- a call's first phase
pub get_first : (c : Config) (clock root k : ℕ) (post : Post) (most : ℕ) → scheme_of post ≡ c.scheme → is_wfe c.scheme ≡ false → first_most (publishes_rows c.scheme) + (c.pairs + 4) ≤ most → get_at c (costs_of (publishes_rows c.scheme) clock root) k post.span 0 most (round (Gets k) post)
get_first c clock root k post most e f l = by (begin_base (scheme_of post) post) refl
  where
    costs : Costs
    costs = costs_of (publishes_rows c.scheme) clock root

    plain : is_wfe (scheme_of post) ≡ false
    plain = ap is_wfe e ∙ f

    first : first_most (publishes_rows (scheme_of post)) ≡ first_most (publishes_rows c.scheme)
    first = ap (λ (scheme : SchemeKind). first_most (publishes_rows scheme)) e

    by : (some : Option Base) → begin_base (scheme_of post) post ≡ some → get_at c costs k post.span 0 most (round_by (Gets k) post some)
    by None g = let a = round_ahead c costs (Gets k) post plain (late_three (publishes_rows c.scheme) clock root) None g in (refl, omega (arith, a, first, l))
    by (Some base) g = let a = round_ahead c costs (Gets k) post plain (late_three (publishes_rows c.scheme) clock root) (Some base) g in (refl, omega (arith, a, first, l))

plain_first : (c : Config) (clock root k : ℕ) (post : Post) (most : ℕ) → scheme_of post ≡ c.scheme → is_wfe c.scheme ≡ false → first_most (publishes_rows c.scheme) + 1 ≤ most → hold_at c (costs_of (publishes_rows c.scheme) clock root) k post.span 0 most (round (Holds k) post)
plain_first c clock root k post most e f l = by (begin_base (scheme_of post) post) refl
  where
    costs : Costs
    costs = costs_of (publishes_rows c.scheme) clock root

    plain : is_wfe (scheme_of post) ≡ false
    plain = ap is_wfe e ∙ f

    first : first_most (publishes_rows (scheme_of post)) ≡ first_most (publishes_rows c.scheme)
    first = ap (λ (scheme : SchemeKind). first_most (publishes_rows scheme)) e

    by : (some : Option Base) → begin_base (scheme_of post) post ≡ some → hold_at c costs k post.span 0 most (round_by (Holds k) post some)
    by None g = let a = round_ahead c costs (Holds k) post plain (late_three (publishes_rows c.scheme) clock root) None g in (refl, omega (arith, a, first, l))
    by (Some base) g = let a = round_ahead c costs (Holds k) post plain (late_three (publishes_rows c.scheme) clock root) (Some base) g in (refl, omega (arith, a, first, l))

letting_first : (c : Config) (x : Costs) (k : ℕ) (span : Option Interval) (most : ℕ) → 2 + first_most (publishes_rows c.scheme) ≤ most → (some : Option Base) → hold_at c x k span 0 most (letting_by (Rehold k) some)
letting_first c x k span most l None = (refl, l)
letting_first c x k span most l (Some base) = (refl, l)

pub hold_first : (c : Config) (clock root k : ℕ) (post : Post) (most : ℕ) → scheme_of post ≡ c.scheme → is_wfe c.scheme ≡ false → 2 + first_most (publishes_rows c.scheme) ≤ most → (stood : Option ℕ) → hold_at c (costs_of (publishes_rows c.scheme) clock root) k post.span 0 most (steps.holding k post stood)
hold_first c clock root k post most e f l None = plain_first c clock root k post most e f (omega (arith, l))
hold_first c clock root k post most e f l (Some slot) = letting_first c (costs_of (publishes_rows c.scheme) clock root) k post.span most l (release_base (scheme_of post) post 2)
