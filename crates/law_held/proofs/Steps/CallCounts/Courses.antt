-- The calls of Wait-Free Eras whose steps are bounded, and moves of the clock: each step keeps what is known of their number.
use Rattle.std.proofs.Common.{ℕ, ◌≡◌, ◌≤◌, ◌<◌, ◌+◌, ◌^◌, Bool, true, false, List, [], ◌∷◌, ◌++◌, Option, Some, None, refl, sym, ◌∙◌, subst, arith}
use Rattle.std.proofs.lemmas.Bool.Decides.{nat_tests}
use Rattle.std.specs.Prelude.{◌==◌, ◌||◌, ◌*◌, not, nat_le, nat_lt, if◌then◌else◌}
use Rattle.law_scans.specs.inv.model.words.declared.config.Config.{Config}
use Rattle.law_scans.specs.inv.model.words.declared.config.SchemeKind.{SchemeKind}
use Rattle.law_scans.specs.inv.model.words.declared.config.SchemeKind.TheVariants.{He, Ibr, Wfe, Hp}
use Rattle.law_scans.specs.inv.model.defs.declared.call.Answer.{Answer}
use Rattle.law_scans.specs.inv.model.defs.declared.call.Answer.TheVariants as the_answers
use Rattle.law_scans.specs.inv.model.defs.declared.call.Call.TheVariants as calls
use Rattle.law_scans.specs.inv.model.defs.declared.event.Event.{Event}
use Rattle.law_scans.specs.inv.model.defs.declared.event.Event.TheVariants as events
use Rattle.law_scans.specs.inv.model.defs.declared.event.Root.{Root}
use Rattle.law_scans.specs.inv.model.declared.ends.ProtectEnd.TheVariants as protect_ends
use Rattle.law_scans.specs.inv.model.declared.post.Post.{Post}
use Rattle.law_scans.specs.inv.model.Desks.{Desk}
use Rattle.law_scans.specs.inv.model.Get as gets
use Rattle.law_scans.specs.inv.model.Machine as machine
use Rattle.law_scans.specs.inv.model.Memory.{bump}
use Rattle.law_scans.specs.inv.model.Posts.{upper}
use Rattle.law_scans.specs.inv.model.Rest.{move_left}
use Rattle.law_scans.specs.inv.model.Rounds.{scheme_of, bucket_of, index_of, root_of, clearing, finishing, round}
use Rattle.law_scans.specs.inv.model.SlowPath as slow
use Rattle.law_scans.specs.inv.model.Steps as steps
use Rattle.law_scans.specs.inv.model.Phases.{Aim, Alone, Follows, Failed, ProtectAt, MoveAt, Base, Turn, Outcome, Goes, Ends}
use Rattle.law_scans.specs.inv.model.Phases.ProtectAt.{LoadClock, CheckClock, CheckOwnClock, AnswerOwn, WithdrawHelper, CheckUpper, ByHazard}
use Rattle.law_scans.specs.inv.model.Phases.HazardAt.{FirstLink, PublishLink, CheckLink}
use Rattle.law_scans.specs.inv.model.Phases.MoveAt.{LoadEra, ExchangeClock}
use Rattle.law_scans.specs.inv.model.Phases.Base.{Protect, Clear, Release, Move}
use Rattle.law_scans.specs.inv.model.Phases.Ending.{Protected, Clocked}
use Rattle.law_scans.specs.inv.model.Calls.{Task, Gets, Holds, Next, Answering, Why, Opens, Clears, Advances, Releases, Rehold, GetAt, FindVersion, FindCount, FindKey, FindValue, Getting, Phase, Runs, Works, CallOutcome, GoesOn, Answers}
use Rattle.law_scans.specs.inv.model.words.Schemes.{is_wfe}
use Rattle.law_scans.specs.inv.shapes.Seats.{Kind, kind_of, suits, move_fits}
use Rattle.law_scans.specs.inv.shapes.Slots.{GetIn}
use Rattle.law_scans.specs.inv.requests.Paces.{Falls}
use Rattle.law_scans.proofs.reuse.AnswersTold.Owed.{out_clocked}
use Rattle.law_held.proofs.Steps.CallCounts.Counting.{short_move, at_advance, alone_steps, at_hold, getting_steps, at_get, Out}
use Rattle.law_scans.proofs.inv.model.Facts.{le_of_test, le_test}

-- a move of the clock under Wait-Free Eras
fewer : (n left m most : ℕ) → nat_le (n + left) most ≡ true → 1 ≤ left → m ≡ n + 1 → nat_le m most ≡ true
fewer n left m most h l e = grind (arith, nat_tests)

fewer_left : (n left next m most : ℕ) → nat_le (n + left) most ≡ true → next + 1 ≤ left → m ≡ n + 1 → nat_le (m + next) most ≡ true
fewer_left n left next m most h l e = grind (arith, nat_tests)

advance_helped : (c : Config) (desk : Desk) (post : Post) (told : List Event) (outcome : Outcome) (left backs n m : ℕ) → is_wfe c.scheme ≡ true → out_clocked outcome ≡ true → Falls c left outcome → nat_le (n + left) (7 * c.seats + 3) ≡ true → m ≡ n + 1 → Out c calls.Advance backs m (steps.resumed Advances desk post told outcome).outcome
advance_helped c desk post told (Goes (Move at)) left backs n m f o l h e = rw f (fewer_left n left (move_left at c) m (7 * c.seats + 3) h l e)
advance_helped c desk post told (Goes base) left backs n m f o l h e = absurd (l)
advance_helped c desk post told (Ends (Clocked clock)) left backs n m f o l h e = rw f (fewer n left m (7 * c.seats + 3) h l e)
advance_helped c desk post told (Ends ending) left backs n m f o l h e = absurd (cc)

one_next : (n m k : ℕ) → (n == k) ≡ true → m ≡ n + 1 → (m == k + 1) ≡ true
one_next n m k h e = grind (arith, nat_tests)

out_if : (c : Config) (desk : Desk) (backs m : ℕ) (same : Bool) (t u : Turn) → Out c calls.Advance backs m (steps.run_turn Advances desk t).outcome → Out c calls.Advance backs m (steps.run_turn Advances desk u).outcome → Out c calls.Advance backs m (steps.run_turn Advances desk (if same then t else u)).outcome
out_if c desk backs m true t u h k = h
out_if c desk backs m false t u h k = k

-- and under the other schemes
advance_short : (c : Config) (at : MoveAt) (post : Post) (desk : Desk) (found backs n m : ℕ) → is_wfe c.scheme ≡ false → move_fits c.scheme c.seats at ≡ true → short_move at n ≡ true → m ≡ n + 1 → Out c calls.Advance backs m (steps.phase_turn (Runs Advances (Move at)) post desk found).outcome
advance_short c (LoadEra true) post desk found backs n m f g h e = absurd (no_help (is_wfe c.scheme) f g)
  where
    no_help : (b : Bool) → b ≡ false → b ≡ true → ⊥
    no_help b p q = cc
advance_short c (LoadEra false) post desk found backs n m f g h e = out_if c desk backs m (found == post.layout.config.last_era) _ _ (rw f (one_next n m 0 h e)) (rw f (one_next n m 0 h e))
advance_short c (ExchangeClock era) post desk found backs n m f g h e = out_if c desk backs m (found == era) _ _ (rw f (one_next n m 1 h e)) (rw f (one_next n m 1 h e))
advance_short c at post desk found backs n m f g h e = absurd (cc)

advance_cases : (c : Config) (at : MoveAt) (post : Post) (desk : Desk) (found backs n m : ℕ) (helped : Bool) → is_wfe c.scheme ≡ helped → move_fits c.scheme c.seats at ≡ true → out_clocked (machine.move_turn at post found).outcome ≡ true → Falls c (move_left at c) (machine.move_turn at post found).outcome
    → (if helped then nat_le (n + move_left at c) (7 * c.seats + 3) else short_move at n) ≡ true → m ≡ n + 1 → Out c calls.Advance backs m (steps.phase_turn (Runs Advances (Move at)) post desk found).outcome
advance_cases c at post desk found backs n m true f g o l h e =
    let t : Turn = machine.move_turn at post found in advance_helped c desk t.post t.told t.outcome (move_left at c) backs n m f o l h e
advance_cases c at post desk found backs n m false f g o l h e = advance_short c at post desk found backs n m f g h e

pub advance_out : (c : Config) (at : MoveAt) (post : Post) (desk : Desk) (found backs n m : ℕ) → move_fits c.scheme c.seats at ≡ true → out_clocked (machine.move_turn at post found).outcome ≡ true → Falls c (move_left at c) (machine.move_turn at post found).outcome → at_advance c (Runs Advances (Move at)) n ≡ true → m ≡ n + 1
    → Out c calls.Advance backs m (steps.phase_turn (Runs Advances (Move at)) post desk found).outcome
advance_out c at post desk found backs n m g o l h e = advance_cases c at post desk found backs n m (is_wfe c.scheme) refl g o l h e

-- a protection that is all goes on as one, with its steps counted, or ends with a row or null
abbrev OutAlone : (made : ℕ) → Outcome → Type 0
OutAlone n (Goes (Protect Alone index root made at)) = made ≡ n
OutAlone n (Goes base) = ⊥
OutAlone n (Ends (Protected ending)) = Unit {0}
OutAlone n (Ends ending) = ⊥

alone_if : (n : ℕ) (same : Bool) (t u : Turn) → OutAlone n t.outcome → OutAlone n u.outcome → OutAlone n (if same then t else u).outcome
alone_if n true t u h k = h
alone_if n false t u h k = k

pub protect_alone : (index : ℕ) (root : Root) (n : ℕ) (at : ProtectAt) (post : Post) (found : ℕ) → OutAlone n (machine.protect_turn Alone index root n at post found).outcome
protect_alone index root n (CheckClock era tries link) post found = alone_if n (found == era) _ _ tt refl
protect_alone index root n (CheckOwnClock first era last link) post found = alone_if n (found == era) _ _ refl refl
protect_alone index root n (AnswerOwn first era link) post found = alone_if n (found == slow.own_request post index root) _ _ refl refl
protect_alone index root n (WithdrawHelper link era) post found = tt
protect_alone index root n (CheckUpper link) post found = alone_if n (found == upper post.span) _ _ tt refl
protect_alone index root n (ByHazard FirstLink) post found = alone_if n (found == 0) _ _ tt refl
protect_alone index root n (ByHazard (PublishLink link)) post found = refl
protect_alone index root n (ByHazard (CheckLink link)) post found = alone_if n (found == link || found == 0) _ _ tt refl
protect_alone index root n at post found = refl

-- how a round goes on under Wait-Free Eras
clearing_next : (task : Task) (next : Next) (post : Post) (desk : Desk) (told : List Event) → scheme_of post ≡ Wfe → (clearing task next post desk told).outcome ≡ GoesOn (Runs (Clears task next) (Clear false (index_of task)))
clearing_next task next post desk told h = rw h refl

hold_answers : (key : ℕ) (answer : Answer) (post : Post) (desk : Desk) (told : List Event) → scheme_of post ≡ Wfe → (finishing (Holds key) (Answering answer) post desk told).outcome ≡ Answers answer
hold_answers key answer post desk told h = rw h refl

get_answers : (key : ℕ) (answer : Answer) (post : Post) (desk : Desk) (told : List Event) → scheme_of post ≡ Wfe → (finishing (Gets key) (Answering answer) post desk told).outcome ≡ Answers answer
get_answers key answer post desk told h = rw h refl

round_next : (task : Task) (post : Post) → scheme_of post ≡ Wfe → round task post ≡ Runs (Opens task) (Protect Alone (index_of task) (root_of task post) 0 (LoadClock (Failed 0)))
round_next task post h = rw h refl

-- a hold
hold_open : (c : Config) (k key : ℕ) (desk : Desk) (post : Post) (told : List Event) (outcome : Outcome) (backs made m : ℕ) → is_wfe c.scheme ≡ true → scheme_of post ≡ Wfe → OutAlone (bump made) outcome → m ≤ bump made + 1 → m ≤ made + 2 → made + 1 ≤ 3 * c.tries + 14 → Out c (calls.Hold k) backs m (steps.resumed (Opens (Holds key)) desk post told outcome).outcome
hold_open c k key desk post told (Goes (Protect Alone index root made' at)) backs made m f s o b l t = rw f (subst (λ (x : ℕ). nat_le m (x + 1) ≡ true) (sym o) (le_test m (bump made + 1) b))
hold_open c k key desk post told (Goes base) backs made m f s o b l t = absurd (o)
hold_open c k key desk post told (Ends (Protected (protect_ends.Held slot era))) backs made m f s o b l t = rw f (le_test m (3 * c.tries + 16) (omega (l, t, arith)))
hold_open c k key desk post told (Ends (Protected protect_ends.Null)) backs made m f s o b l t =
    subst (λ (x : CallOutcome). Out c (calls.Hold k) backs m x) (sym (clearing_next (Holds key) (Answering the_answers.Nothing) post desk told s)) (rw f (le_test m (3 * c.tries + 15) (omega (l, t, arith))))
hold_open c k key desk post told (Ends ending) backs made m f s o b l t = absurd (o)

pub bumped : (n m made more : ℕ) → n ≤ made + more → m ≡ n + 1 → n < 2 ^ 62 → more ≤ 1 → m ≤ bump made + more
bumped n m made more h e l k = by (nat_lt made 18446744073709551615) refl
  where
    by : (room : Bool) → nat_lt made 18446744073709551615 ≡ room → m ≤ (if room then made + 1 else made) + more
    by true q = omega (h, e, arith)
    by false q = grind (arith, nat_tests)

-- what is known of a phase that makes a step, and of what its machine leaves
pub record Facts (c : Config) (phase : Phase) (post : Post) (found : ℕ) : Type 0 where
  pub scheme : scheme_of post ≡ c.scheme
  pub suited : (why : Why) (base : Base) → phase ≡ Runs why base → suits base (kind_of why) ≡ true
  pub left : (why : Why) (base : Base) → phase ≡ Runs why base → scheme_of (machine.after base post found).post ≡ c.scheme
  pub paced : (why : Why) (aim : Aim) (index : ℕ) (root : Root) (made : ℕ) (at : ProtectAt) → is_wfe c.scheme ≡ true → phase ≡ Runs why (Protect aim index root made at) → made + 1 ≤ 3 * c.tries + 14
  pub reads : (key : ℕ) (at : GetAt) → phase ≡ Works (Getting key at) → GetIn c at

pub wfe_scheme : (scheme : SchemeKind) → is_wfe scheme ≡ true → scheme ≡ Wfe
wfe_scheme He h = absurd (cc)
wfe_scheme Ibr h = absurd (cc)
wfe_scheme Wfe h = refl
wfe_scheme Hp h = absurd (cc)

held_by : (c : Config) (p : Bool) → is_wfe c.scheme ≡ true → (not (is_wfe c.scheme) || p) ≡ true → p ≡ true
held_by c p f h = by (is_wfe c.scheme) f h
  where
    by : (b : Bool) → b ≡ true → (not b || p) ≡ true → p ≡ true
    by true f h = h
    by false f h = absurd (cc)

-- of no other scheme anything is said
free_hold : (c : Config) (k backs m : ℕ) (outcome : CallOutcome) → is_wfe c.scheme ≡ false → Out c (calls.Hold k) backs m outcome
free_hold c k backs m (GoesOn phase) f = rw f refl
free_hold c k backs m (Answers answer) f = rw f refl

free_get : (c : Config) (k backs m : ℕ) (outcome : CallOutcome) → is_wfe c.scheme ≡ false → Out c (calls.Get k) backs m outcome
free_get c k backs m (GoesOn phase) f = rw f refl
free_get c k backs m (Answers answer) f = rw f refl

hold_released : (c : Config) (k key : ℕ) (base : Base) (post : Post) (desk : Desk) (found backs n m : ℕ) → is_wfe c.scheme ≡ true → scheme_of post ≡ Wfe → suits base Kind.ToRelease ≡ true → (n == 0) ≡ true → m ≡ n + 1 → Out c (calls.Hold k) backs m (steps.phase_turn (Runs (Releases (Rehold key)) base) post desk found).outcome
hold_released c k key (Clear rows index) post desk found backs n m f s u h e = rw f (subst (λ (x : Phase). at_hold c x m ≡ true) (sym (round_next (Holds key) _ s)) (grind (arith, nat_tests)))
hold_released c k key (Release index) post desk found backs n m f s u h e = rw f (subst (λ (x : Phase). at_hold c x m ≡ true) (sym (round_next (Holds key) _ s)) (grind (arith, nat_tests)))
hold_released c k key base post desk found backs n m f s u h e = absurd (cc)

hold_cleared : (c : Config) (k key : ℕ) (answer : Answer) (base : Base) (post : Post) (desk : Desk) (found backs n m : ℕ) → is_wfe c.scheme ≡ true → scheme_of post ≡ Wfe → suits base Kind.ToClear ≡ true → nat_le n (3 * c.tries + 15) ≡ true → m ≡ n + 1
    → Out c (calls.Hold k) backs m (steps.phase_turn (Runs (Clears (Holds key) (Answering answer)) base) post desk found).outcome
hold_cleared c k key answer (Clear rows index) post desk found backs n m f s u h e =
    let t : Turn = machine.after (Clear rows index) post found in
    subst (λ (x : CallOutcome). Out c (calls.Hold k) backs m x) (sym (hold_answers key answer t.post desk t.told s)) (rw f (grind (arith, nat_tests)))
hold_cleared c k key answer base post desk found backs n m f s u h e = absurd (cc)

hold_protects : (c : Config) (k key : ℕ) (aim : Aim) (index : ℕ) (root : Root) (made : ℕ) (at : ProtectAt) (post : Post) (desk : Desk) (found backs n m : ℕ) → is_wfe c.scheme ≡ true → scheme_of (machine.after (Protect aim index root made at) post found).post ≡ Wfe → made + 1 ≤ 3 * c.tries + 14 → n < 2 ^ 62
    → alone_steps (Protect aim index root made at) 1 n ≡ true → m ≡ n + 1 → Out c (calls.Hold k) backs m (steps.phase_turn (Runs (Opens (Holds key)) (Protect aim index root made at)) post desk found).outcome
hold_protects c k key Alone index root made at post desk found backs n m f s t l h e =
    let u : Turn = machine.protect_turn Alone index root (bump made) at post found in
    let q : n ≤ made + 1 = le_of_test n (made + 1) h in
    hold_open c k key desk u.post u.told u.outcome backs made m f s (protect_alone index root (bump made) at post found) (bumped n m made 1 q e l (omega arith)) (omega (q, e, arith)) t
hold_protects c k key Follows index root made at post desk found backs n m f s t l h e = absurd (cc)

hold_by : (c : Config) (k : ℕ) (phase : Phase) (post : Post) (desk : Desk) (found backs n m : ℕ) → is_wfe c.scheme ≡ true → Facts c phase post found → n < 2 ^ 62 → at_hold c phase n ≡ true → m ≡ n + 1 → Out c (calls.Hold k) backs m (steps.phase_turn phase post desk found).outcome
hold_by c k (Runs (Releases (Rehold key)) base) post desk found backs n m f x l h e = hold_released c k key base post desk found backs n m f (x.scheme ∙ wfe_scheme c.scheme f) (x.suited (Releases (Rehold key)) base refl) h e
hold_by c k (Runs (Opens (Holds key)) (Protect aim index root made at)) post desk found backs n m f x l h e =
    hold_protects c k key aim index root made at post desk found backs n m f (x.left (Opens (Holds key)) (Protect aim index root made at) refl ∙ wfe_scheme c.scheme f) (x.paced (Opens (Holds key)) aim index root made at f refl) l h e
hold_by c k (Runs (Clears (Holds key) (Answering answer)) base) post desk found backs n m f x l h e =
    hold_cleared c k key answer base post desk found backs n m f (x.scheme ∙ wfe_scheme c.scheme f) (x.suited (Clears (Holds key) (Answering answer)) base refl) h e
hold_by c k phase post desk found backs n m f x l h e = absurd (cc)

pub hold_out : (c : Config) (k : ℕ) (phase : Phase) (post : Post) (desk : Desk) (found backs n m : ℕ) → Facts c phase post found → n < 2 ^ 62 → (not (is_wfe c.scheme) || at_hold c phase n) ≡ true → m ≡ n + 1 → Out c (calls.Hold k) backs m (steps.phase_turn phase post desk found).outcome
hold_out c k phase post desk found backs n m x l h e = by (is_wfe c.scheme) refl
  where
    by : (helped : Bool) → is_wfe c.scheme ≡ helped → Out c (calls.Hold k) backs m (steps.phase_turn phase post desk found).outcome
    by true f = hold_by c k phase post desk found backs n m f x l (held_by c (at_hold c phase n) f h) e
    by false f = free_hold c k backs m (steps.phase_turn phase post desk found).outcome f

-- a get
got_out : (c : Config) (k key version : ℕ) (value : Option ℕ) (post : Post) (desk : Desk) (told : List Event) (backs m : ℕ) → is_wfe c.scheme ≡ true → scheme_of post ≡ Wfe → m ≤ 3 * c.tries + 17 + c.pairs → Out c (calls.Get k) backs m (gets.got key version value post desk told).outcome
got_out c k key version value post desk told backs m f s h =
    subst (λ (x : CallOutcome). Out c (calls.Get k) backs m x) (sym (clearing_next (Gets key) (Answering (the_answers.Got version value)) post desk (told ++ events.Got (bucket_of post key) version key value ∷ []) s)) (rw f (le_test m (3 * c.tries + 17 + c.pairs) h))

get_open : (c : Config) (k key : ℕ) (desk : Desk) (post : Post) (told : List Event) (outcome : Outcome) (backs made m : ℕ) → is_wfe c.scheme ≡ true → scheme_of post ≡ Wfe → OutAlone (bump made) outcome → m ≤ bump made + 0 → m ≤ made + 1 → made + 1 ≤ 3 * c.tries + 14 → Out c (calls.Get k) backs m (steps.resumed (Opens (Gets key)) desk post told outcome).outcome
get_open c k key desk post told (Goes (Protect Alone index root made' at)) backs made m f s o b l t = rw f (subst (λ (x : ℕ). nat_le m (x + 0) ≡ true) (sym o) (le_test m (bump made + 0) b))
get_open c k key desk post told (Goes base) backs made m f s o b l t = absurd (o)
get_open c k key desk post told (Ends (Protected (protect_ends.Held slot era))) backs made m f s o b l t = rw f (le_test m (3 * c.tries + 14) (omega (l, t, arith)))
get_open c k key desk post told (Ends (Protected protect_ends.Null)) backs made m f s o b l t = got_out c k key 0 None post desk told backs m f s (omega (l, t, arith))
get_open c k key desk post told (Ends ending) backs made m f s o b l t = absurd (o)

get_protects : (c : Config) (k key : ℕ) (aim : Aim) (index : ℕ) (root : Root) (made : ℕ) (at : ProtectAt) (post : Post) (desk : Desk) (found backs n m : ℕ) → is_wfe c.scheme ≡ true → scheme_of (machine.after (Protect aim index root made at) post found).post ≡ Wfe → made + 1 ≤ 3 * c.tries + 14 → n < 2 ^ 62
    → alone_steps (Protect aim index root made at) 0 n ≡ true → m ≡ n + 1 → Out c (calls.Get k) backs m (steps.phase_turn (Runs (Opens (Gets key)) (Protect aim index root made at)) post desk found).outcome
get_protects c k key Alone index root made at post desk found backs n m f s t l h e =
    let u : Turn = machine.protect_turn Alone index root (bump made) at post found in
    let q : n ≤ made + 0 = le_of_test n (made + 0) h in
    get_open c k key desk u.post u.told u.outcome backs made m f s (protect_alone index root (bump made) at post found) (bumped n m made 0 q e l (omega arith)) (omega (q, e, arith)) t
get_protects c k key Follows index root made at post desk found backs n m f s t l h e = absurd (cc)

get_cleared : (c : Config) (k key : ℕ) (answer : Answer) (base : Base) (post : Post) (desk : Desk) (found backs n m : ℕ) → is_wfe c.scheme ≡ true → scheme_of post ≡ Wfe → suits base Kind.ToClear ≡ true → nat_le n (3 * c.tries + 17 + c.pairs) ≡ true → m ≡ n + 1
    → Out c (calls.Get k) backs m (steps.phase_turn (Runs (Clears (Gets key) (Answering answer)) base) post desk found).outcome
get_cleared c k key answer (Clear rows index) post desk found backs n m f s u h e =
    let t : Turn = machine.after (Clear rows index) post found in
    subst (λ (x : CallOutcome). Out c (calls.Get k) backs m x) (sym (get_answers key answer t.post desk t.told s)) (rw f (grind (arith, nat_tests)))
get_cleared c k key answer base post desk found backs n m f s u h e = absurd (cc)

finding_out : (c : Config) (k key slot version count : ℕ) (post : Post) (desk : Desk) (more : Bool) (pair backs m : ℕ) → is_wfe c.scheme ≡ true → scheme_of post ≡ Wfe → m ≤ 3 * c.tries + 16 + pair → m ≤ 3 * c.tries + 17 + c.pairs → Out c (calls.Get k) backs m (gets.finding key slot version count post desk more pair).outcome
finding_out c k key slot version count post desk true pair backs m f s h t = rw f (le_test m (3 * c.tries + 16 + pair) h)
finding_out c k key slot version count post desk false pair backs m f s h t = got_out c k key version None post desk [] backs m f s t

key_out : (c : Config) (k key slot version count pair : ℕ) (post : Post) (desk : Desk) (own : Bool) (backs m : ℕ) → is_wfe c.scheme ≡ true → scheme_of post ≡ Wfe → pair < c.pairs → m ≤ 3 * c.tries + 17 + pair → Out c (calls.Get k) backs m (gets.found_key key slot version count pair post desk own).outcome
key_out c k key slot version count pair post desk true backs m f s p h = rw f (le_test m (3 * c.tries + 17 + pair) h)
key_out c k key slot version count pair post desk false backs m f s p h = finding_out c k key slot version count post desk (nat_lt (pair + 1) count) (pair + 1) backs m f s (omega (h, arith)) (omega (h, p, arith))

get_work : (c : Config) (k key : ℕ) (at : GetAt) (post : Post) (desk : Desk) (found backs n m : ℕ) → is_wfe c.scheme ≡ true → scheme_of post ≡ Wfe → GetIn c at → getting_steps c at n ≡ true → m ≡ n + 1 → Out c (calls.Get k) backs m (gets.get_turn key at post desk found).outcome
get_work c k key (FindVersion slot) post desk found backs n m f s g h e = rw f (grind (arith, nat_tests))
get_work c k key (FindCount slot version) post desk found backs n m f s g h e =
    let q : n ≤ 3 * c.tries + 15 = le_of_test n (3 * c.tries + 15) h in finding_out c k key slot version found post desk (nat_lt 0 found) 0 backs m f s (omega (q, e, arith)) (omega (q, e, arith))
get_work c k key (FindKey slot version count pair) post desk found backs n m f s g h e =
    let q : n ≤ 3 * c.tries + 16 + pair = le_of_test n (3 * c.tries + 16 + pair) h in
    let p : pair < c.pairs = omega (g.1, g.2, arith) in
    key_out c k key slot version count pair post desk (found == key) backs m f s p (omega (q, e, arith))
get_work c k key (FindValue slot version pair) post desk found backs n m f s g h e =
    let q : n ≤ 3 * c.tries + 17 + pair = le_of_test n (3 * c.tries + 17 + pair) h in got_out c k key version (Some found) post desk [] backs m f s (omega (q, e, g.1, arith))

get_by : (c : Config) (k : ℕ) (phase : Phase) (post : Post) (desk : Desk) (found backs n m : ℕ) → is_wfe c.scheme ≡ true → Facts c phase post found → n < 2 ^ 62 → at_get c phase n ≡ true → m ≡ n + 1 → Out c (calls.Get k) backs m (steps.phase_turn phase post desk found).outcome
get_by c k (Runs (Opens (Gets key)) (Protect aim index root made at)) post desk found backs n m f x l h e =
    get_protects c k key aim index root made at post desk found backs n m f (x.left (Opens (Gets key)) (Protect aim index root made at) refl ∙ wfe_scheme c.scheme f) (x.paced (Opens (Gets key)) aim index root made at f refl) l h e
get_by c k (Runs (Clears (Gets key) (Answering answer)) base) post desk found backs n m f x l h e =
    get_cleared c k key answer base post desk found backs n m f (x.scheme ∙ wfe_scheme c.scheme f) (x.suited (Clears (Gets key) (Answering answer)) base refl) h e
get_by c k (Works (Getting key at)) post desk found backs n m f x l h e = get_work c k key at post desk found backs n m f (x.scheme ∙ wfe_scheme c.scheme f) (x.reads key at refl) h e
get_by c k phase post desk found backs n m f x l h e = absurd (cc)

pub get_out : (c : Config) (k : ℕ) (phase : Phase) (post : Post) (desk : Desk) (found backs n m : ℕ) → Facts c phase post found → n < 2 ^ 62 → (not (is_wfe c.scheme) || at_get c phase n) ≡ true → m ≡ n + 1 → Out c (calls.Get k) backs m (steps.phase_turn phase post desk found).outcome
get_out c k phase post desk found backs n m x l h e = by (is_wfe c.scheme) refl
  where
    by : (helped : Bool) → is_wfe c.scheme ≡ helped → Out c (calls.Get k) backs m (steps.phase_turn phase post desk found).outcome
    by true f = get_by c k phase post desk found backs n m f x l (held_by c (at_get c phase n) f h) e
    by false f = free_get c k backs m (steps.phase_turn phase post desk found).outcome f
