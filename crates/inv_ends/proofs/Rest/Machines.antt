-- A machine's step leaves fewer steps of it, or a greater era is seen.
use Rattle.std.proofs.Common.{ℕ, ◌≡◌, ◌≤◌, ◌<◌, ◌+◌, ◌-◌, Bool, true, false, [], arith, refl}
use Rattle.std.proofs.lemmas.Bool.Decides.{nat_tests}
use Rattle.inv_rows.specs.defs.declared.event.Root.TheVariants as roots
use Rattle.inv_rows.specs.model.declared.ends.FollowEnd.TheVariants as follow_ends
use Rattle.inv_rows.specs.words.declared.packed.Request.TheVariants as requests
use Rattle.inv_rows.specs.words.Packed.{read_request}
use Rattle.inv_rows.specs.model.Links.{parent_of}
use Rattle.inv_rows.specs.model.Machine.{hazard_turn, protect_turn}
use Rattle.inv_rows.specs.model.Phases.{Aim, Base, HazardAt, Outcome, ProtectAt, Tries, Turn, ends, goes}
use Rattle.inv_rows.specs.model.Phases.Aim.{Alone, Follows}
use Rattle.inv_rows.specs.model.Phases.Base.{Protect, Reload}
use Rattle.inv_rows.specs.model.Phases.Ending.{Followed}
use Rattle.inv_rows.specs.model.Phases.Outcome.{Ends, Goes}
use Rattle.inv_rows.specs.model.Phases.ProtectAt.{AnswerOwn, ByHazard, CheckClock, CheckOwnClock, CheckUpper, LoadAnswer, LoadClock, LoadLink, LoadOwnClock, LoadOwnLink, LoadWithin, PublishEra, PublishHelper, PublishRequest, RaiseUpper, TakeAnswer, WithdrawHelper, WithdrawRequest}
use Rattle.inv_rows.specs.model.Phases.HazardAt.{CheckLink, FirstLink, PublishLink}
use Rattle.inv_rows.specs.model.Phases.Tries.{Endless, Failed}
use Rattle.inv_rows.specs.model.Posts.{reserves_helper, tag_of, upper, with_row, with_tag}
use Rattle.inv_rows.specs.model.Protect.{concluded, failed_once, held_post, protected, told_held, trying}
use Rattle.inv_rows.specs.model.Rest.{aim_left, base_left, base_seen, eras_left, protect_left, protect_seen, span_seen, tries_left}
use Rattle.inv_rows.specs.model.SlowPath.{answer_in, lost_turn, own_request}
use Rattle.inv_rows.specs.model.declared.post.Post.{Post}
use Rattle.inv_rows.specs.defs.declared.event.Event.{Event}
use Rattle.inv_rows.specs.defs.declared.event.Root.{Root}
use Rattle.inv_rows.specs.defs.declared.lifetime.Interval.{Interval}
use Rattle.inv_rows.specs.words.declared.config.Config.{Config}
use Rattle.inv_rows.specs.words.declared.packed.Request.{Request}
use Rattle.std.specs.Prelude.{List, Option, Some, None, is_some, nat_le, if◌then◌else◌, ◌==◌, ◌||◌}
use Rattle.inv_rows.proofs.model.Facts.{if_by}

-- the steps and eras that a machine's phase leaves
abbrev pub start_of : Config → ℕ → Option Interval → Base → ℕ
start_of c clock span base = base_left c base + eras_left c (base_seen base (span_seen clock span))

-- what its step leaves is less
abbrev pub settles : Config → (old clock : ℕ) → Option Interval → Outcome → Type 0
settles c old clock span (Goes base) = base_left c base + 1 + eras_left c (base_seen base (span_seen clock span)) ≤ old
settles c old clock span (Ends ending) = 1 + eras_left c (span_seen clock span) ≤ old

abbrev pub Settles : Config → (old clock : ℕ) → Turn → Type 0
Settles c old clock t = settles c old clock t.post.span t.outcome

pub seen_rises : (clock next : ℕ) (span : Option Interval) → clock ≤ next → span_seen clock span ≤ span_seen next span
seen_rises clock next None h = h
seen_rises clock next (Some span) h = omega arith

-- under 2GE an interval stands in a protection, else none does
abbrev pub at_span : ProtectAt → Option Interval → Type 0
at_span (LoadClock tries) span = span ≡ None
at_span (PublishEra era tries) span = span ≡ None
at_span (LoadLink era tries) span = span ≡ None
at_span (CheckClock era tries link) span = span ≡ None
at_span PublishRequest span = span ≡ None
at_span LoadOwnClock span = span ≡ None
at_span (PublishHelper first era last) span = span ≡ None
at_span (LoadOwnLink first era last) span = span ≡ None
at_span (CheckOwnClock first era last link) span = span ≡ None
at_span (AnswerOwn first era link) span = span ≡ None
at_span (LoadAnswer first) span = span ≡ None
at_span (TakeAnswer link era) span = span ≡ None
at_span (WithdrawRequest link era) span = span ≡ None
at_span (WithdrawHelper link era) span = span ≡ None
at_span LoadWithin span = is_some span ≡ true
at_span (CheckUpper link) span = is_some span ≡ true
at_span (RaiseUpper era) span = is_some span ≡ true
at_span (ByHazard at) span = span ≡ None

-- what a protection's step has found of the clock
abbrev pub at_clock : ProtectAt → (found clock : ℕ) → Type 0
at_clock (LoadClock tries) found clock = found ≡ clock
at_clock (PublishEra era tries) found clock = Unit {0}
at_clock (LoadLink era tries) found clock = Unit {0}
at_clock (CheckClock era tries link) found clock = found ≡ clock
at_clock PublishRequest found clock = Unit {0}
at_clock LoadOwnClock found clock = Unit {0}
at_clock (PublishHelper first era last) found clock = Unit {0}
at_clock (LoadOwnLink first era last) found clock = Unit {0}
at_clock (CheckOwnClock first era last link) found clock = Unit {0}
at_clock (AnswerOwn first era link) found clock = Unit {0}
at_clock (LoadAnswer first) found clock = Unit {0}
at_clock (TakeAnswer link era) found clock = Unit {0}
at_clock (WithdrawRequest link era) found clock = Unit {0}
at_clock (WithdrawHelper link era) found clock = Unit {0}
at_clock LoadWithin found clock = Unit {0}
at_clock (CheckUpper link) found clock = found ≡ clock
at_clock (RaiseUpper era) found clock = Unit {0}
at_clock (ByHazard at) found clock = Unit {0}

-- a reload finds the link that was published
abbrev pub hazard_agrees : HazardAt → (found : ℕ) → Bool
hazard_agrees FirstLink found = true
hazard_agrees (PublishLink link) found = true
hazard_agrees (CheckLink link) found = found == link

abbrev pub at_agrees : ProtectAt → (found : ℕ) → Bool
at_agrees (ByHazard at) found = hazard_agrees at found
at_agrees at found = true

-- or null
abbrev pub hazard_ends : HazardAt → (found : ℕ) → Bool
hazard_ends FirstLink found = true
hazard_ends (PublishLink link) found = true
hazard_ends (CheckLink link) found = found == link || found == 0

abbrev pub at_ends : ProtectAt → (found : ℕ) → Bool
at_ends (ByHazard at) found = hazard_ends at found
at_ends at found = true

pub agrees_ends : (at : ProtectAt) (found : ℕ) → at_agrees at found ≡ true → at_ends at found ≡ true
agrees_ends (ByHazard FirstLink) found a = refl
agrees_ends (ByHazard (PublishLink link)) found a = refl
agrees_ends (ByHazard (CheckLink link)) found a = rw a refl
agrees_ends at found a = refl

concluded_settles : (c : Config) (old clock : ℕ) (aim : Aim) (index : ℕ) (root : Root) (n link era : ℕ) (post : Post) (told : List Event) → 1 + aim_left aim + eras_left c (span_seen clock post.span) ≤ old → Settles c old clock (concluded aim index root n link era post told)
concluded_settles c old clock Alone index root n link era post told h = omega (arith, h)
concluded_settles c old clock Follows index root n link era post told h =
    if_by (link == 0) (ends post told (Followed follow_ends.NoNext)) (goes post told (Reload (parent_of root) index (link - 1) era n))
    (Settles c old clock) (λ e. omega (arith, h)) (λ e. omega (arith, h))

standing_span : (link index : ℕ) (post : Post) → (if link == 0 then post else with_row post index (link - 1)).span ≡ post.span
standing_span link index post = if_by (link == 0) post (with_row post index (link - 1)) (λ (p : Post). p.span ≡ post.span) (λ e. refl) (λ e. refl)

pub held_span : (post : Post) (index : ℕ) (root : Root) (link : ℕ) → (held_post post index root link).span ≡ post.span
held_span post index (roots.Bucket bucket) link = standing_span link index post
held_span post index roots.Head link = standing_span link index post
held_span post index roots.Tail link = standing_span link index post
held_span post index (roots.Next parent) link = refl

protected_settles : (c : Config) (old clock : ℕ) (aim : Aim) (index : ℕ) (root : Root) (n link era : ℕ) (post : Post) → 1 + aim_left aim + eras_left c (span_seen clock post.span) ≤ old → Settles c old clock (protected aim index root n link era post)
protected_settles c old clock aim index root n link era post h =
    concluded_settles c old clock aim index root n link era (held_post post index root link) (told_held index root link n) (rw (held_span post index root link) h)

trying_left : (c : Config) (era n : ℕ) (tries : Tries) → protect_left c (trying c era tries) + 1 ≤ tries_left c tries 3
trying_left c era n Endless = omega arith
trying_left c era n (Failed count) = if_by (nat_le c.tries count) PublishRequest (LoadLink era (Failed count)) (λ (at : ProtectAt). protect_left c at + 1 ≤ tries_left c (Failed count) 3) (λ e. omega arith) (λ e. omega arith)

trying_seen : (c : Config) (era seen : ℕ) (tries : Tries) → era ≤ seen → era ≤ protect_seen (trying c era tries) seen
trying_seen c era seen Endless h = omega arith
trying_seen c era seen (Failed count) h = if_by (nat_le c.tries count) PublishRequest (LoadLink era (Failed count)) (λ (at : ProtectAt). era ≤ protect_seen at seen) (λ e. h) (λ e. omega arith)

-- a try is left
abbrev pub TryLeft : Config → Tries → Type 0
TryLeft c Endless = Unit {0}
TryLeft c (Failed count) = count < c.tries

failed_left : (c : Config) (tries : Tries) → TryLeft c tries → tries_left c (failed_once tries) 3 ≤ tries_left c tries 1 + 2
failed_left c Endless h = omega arith
failed_left c (Failed count) h = omega (arith, h)

-- at the check of the clock a try is left
abbrev pub at_try : Config → ProtectAt → Type 0
at_try c (CheckClock era tries link) = TryLeft c tries
at_try c at = Unit {0}

-- no era is after the clock
abbrev pub at_era : ProtectAt → Option Interval → (clock : ℕ) → Type 0
at_era (PublishEra era tries) span clock = era ≤ clock
at_era (LoadLink era tries) span clock = era ≤ clock
at_era (CheckClock era tries link) span clock = era ≤ clock
at_era (RaiseUpper era) span clock = upper span ≤ era
at_era at span clock = Unit {0}

eras_fall : (c : Config) (old new : ℕ) → old < new → new ≤ c.last_era → eras_left c new + 3 ≤ eras_left c old
eras_fall c old new h k = omega (arith, h, k)

answered_left : (c : Config) (aim : Aim) (index : ℕ) (root : Root) (n : ℕ) (r : Option Request) → base_left c (Protect aim index root n (answer_in r)) ≡ 3 + aim_left aim
answered_left c aim index root n (Some (requests.Answered link era)) = refl
answered_left c aim index root n (Some (requests.Pending tag index' word)) = refl
answered_left c aim index root n (Some requests.Idle) = refl
answered_left c aim index root n None = refl

answered_seen : (seen : ℕ) (r : Option Request) → protect_seen (answer_in r) seen ≡ seen
answered_seen seen (Some (requests.Answered link era)) = refl
answered_seen seen (Some (requests.Pending tag index' word)) = refl
answered_seen seen (Some requests.Idle) = refl
answered_seen seen None = refl

answers_settle : (c : Config) (old clock : ℕ) (aim : Aim) (index : ℕ) (root : Root) (n : ℕ) (post : Post) (r : Option Request) → 4 + aim_left aim + eras_left c (span_seen clock post.span) ≤ old → Settles c old clock (goes post [] (Protect aim index root n (answer_in r)))
answers_settle c old clock aim index root n post r h = rw (answered_left c aim index root n r, answered_seen (span_seen clock post.span) r) (omega (arith, h))

-- what holds where a protection makes its step
pub record Protects (c : Config) (clock next : ℕ) (at : ProtectAt) (post : Post) (found : ℕ) : Type 0 where
  pub config : post.layout.config ≡ c
  pub rises : clock ≤ next
  pub most : next ≤ c.last_era
  pub span : at_span at post.span
  pub seen : span_seen clock post.span ≤ clock
  pub era : at_era at post.span clock
  pub try : at_try c at
  pub loads : at_clock at found clock
  pub ends : at_ends at found ≡ true

pub none_seen : (clock : ℕ) (span : Option Interval) → span ≡ None → span_seen clock span ≡ clock
none_seen clock span e = rw e refl

some_seen : (clock : ℕ) (span : Option Interval) → is_some span ≡ true → span_seen clock span ≡ upper span
some_seen clock None h = absurd (cc)
some_seen clock (Some span) h = refl

checks_left : (c : Config) (first era link : ℕ) (last : Bool) → (protect_left c (CheckOwnClock first era last link) ≡ protect_left c (CheckOwnClock first 0 last 0)) × (5 ≤ protect_left c (CheckOwnClock first era last link))
checks_left c first era link false = (refl, omega arith)
checks_left c first era link true = (refl, omega arith)

lost_clock : (c : Config) (old clock : ℕ) (aim : Aim) (index : ℕ) (root : Root) (n first found : ℕ) (last : Bool) (post : Post) → protect_left c (CheckOwnClock first 0 last 0) + aim_left aim + eras_left c (span_seen clock post.span) ≤ old → Settles c old clock (goes post [] (Protect aim index root n (lost_turn first last found)))
lost_clock c old clock aim index root n first found false post h = omega (arith, h)
lost_clock c old clock aim index root n first found true post h = omega (arith, h)

hazard_settles : (c : Config) (clock next : ℕ) (aim : Aim) (index : ℕ) (root : Root) (steps n : ℕ) (at : HazardAt) (post : Post) (found : ℕ) → clock ≤ next → hazard_ends at found ≡ true → Settles c (start_of c clock post.span (Protect aim index root steps (ByHazard at))) next (hazard_turn aim index root n at post found)
hazard_settles c clock next aim index root steps n FirstLink post found r a =
    let s = seen_rises clock next post.span r in
    if_by (found == 0) (protected aim index root n found 0 post) (goes post [] (Protect aim index root n (ByHazard (PublishLink found))))
    (Settles c (start_of c clock post.span (Protect aim index root steps (ByHazard FirstLink))) next)
    (λ e. protected_settles c (start_of c clock post.span (Protect aim index root steps (ByHazard FirstLink))) next aim index root n found 0 post (omega (arith, s)))
    (λ e. omega (arith, s))
hazard_settles c clock next aim index root steps n (PublishLink link) post found r a = let s = seen_rises clock next post.span r in omega (arith, s)
hazard_settles c clock next aim index root steps n (CheckLink link) post found r a =
    let s = seen_rises clock next post.span r in
    rw a (protected_settles c (start_of c clock post.span (Protect aim index root steps (ByHazard (CheckLink link)))) next aim index root n found 0 post (omega (arith, s)))

pub protect_settles : (c : Config) (clock next : ℕ) (aim : Aim) (index : ℕ) (root : Root) (steps n : ℕ) (at : ProtectAt) (post : Post) (found : ℕ) → Protects c clock next at post found → Settles c (start_of c clock post.span (Protect aim index root steps at)) next (protect_turn aim index root n at post found)
protect_settles c clock next aim index root steps n (LoadClock Endless) post found p = let a = p.loads in let b = p.seen in let d = p.span in omega (arith, a, b)
protect_settles c clock next aim index root steps n (LoadClock (Failed count)) post found p = let a = p.loads in let b = p.seen in omega (arith, a, b)
protect_settles c clock next aim index root steps n (PublishEra era tries) post found p =
    let a = trying_left c era n tries in
    let s = none_seen next post.span p.span in
    let b = trying_seen c era next tries (let x = p.rises in let y = p.era in omega (arith, x, y)) in
    rw (p.config, s) (omega (arith, a, b))
protect_settles c clock next aim index root steps n (LoadLink era Endless) post found p = omega arith
protect_settles c clock next aim index root steps n (LoadLink era (Failed count)) post found p = omega arith
protect_settles c clock next aim index root steps n (CheckClock era tries link) post found p =
    if_by (found == era) (protected aim index root n link era post) (goes post [] (Protect aim index root n (PublishEra found (failed_once tries))))
    (Settles c (start_of c clock post.span (Protect aim index root steps (CheckClock era tries link))) next)
    (λ e. protected_settles c (start_of c clock post.span (Protect aim index root steps (CheckClock era tries link))) next aim index root n link era post (let s = none_seen next post.span p.span in let x = p.rises in let y = p.era in let z = tries_some c tries in rw s (omega (arith, x, y, z))))
    (λ e. let x = failed_left c tries p.try in let l = p.loads in let y = p.era in let d = eras_fall c era clock (grind (arith, nat_tests, e, l, y)) (let r = p.rises in let m = p.most in omega (arith, r, m)) in rw l (omega (arith, x, d)))
  where
    tries_some : (c : Config) (tries : Tries) → 1 ≤ tries_left c tries 1
    tries_some c Endless = omega arith
    tries_some c (Failed count) = omega arith
protect_settles c clock next aim index root steps n PublishRequest post found p = let s = seen_rises clock next post.span p.rises in omega (arith, s)
protect_settles c clock next aim index root steps n LoadOwnClock post found p = let s = seen_rises clock next post.span p.rises in omega (arith, s)
protect_settles c clock next aim index root steps n (PublishHelper first era false) post found p = let s = seen_rises clock next post.span p.rises in omega (arith, s)
protect_settles c clock next aim index root steps n (PublishHelper first era true) post found p = let s = seen_rises clock next post.span p.rises in omega (arith, s)
protect_settles c clock next aim index root steps n (LoadOwnLink first era false) post found p = let s = seen_rises clock next post.span p.rises in omega (arith, s)
protect_settles c clock next aim index root steps n (LoadOwnLink first era true) post found p = let s = seen_rises clock next post.span p.rises in omega (arith, s)
protect_settles c clock next aim index root steps n (CheckOwnClock first era last link) post found p =
    let s = seen_rises clock next post.span p.rises in
    let k = checks_left c first era link last in
    let k0 = k.0 in let k1 = k.1 in
    if_by (found == era) (goes post [] (Protect aim index root n (AnswerOwn first era link))) (goes post [] (Protect aim index root n (lost_turn first last found)))
    (Settles c (start_of c clock post.span (Protect aim index root steps (CheckOwnClock first era last link))) next)
    (λ e. omega (arith, s, k1))
    (λ e. lost_clock c (start_of c clock post.span (Protect aim index root steps (CheckOwnClock first era last link))) next aim index root n first found last post (omega (arith, s, k0)))
protect_settles c clock next aim index root steps n (AnswerOwn first era link) post found p =
    let s = seen_rises clock next post.span p.rises in
    if_by (found == own_request post index root) (goes post [] (Protect aim index root n (TakeAnswer link era))) (goes post [] (Protect aim index root n (answer_in (read_request found))))
    (Settles c (start_of c clock post.span (Protect aim index root steps (AnswerOwn first era link))) next)
    (λ e. omega (arith, s))
    (λ e. answers_settle c (start_of c clock post.span (Protect aim index root steps (AnswerOwn first era link))) next aim index root n post (read_request found) (omega (arith, s)))
protect_settles c clock next aim index root steps n (LoadAnswer first) post found p =
    let s = seen_rises clock next post.span p.rises in
    answers_settle c (start_of c clock post.span (Protect aim index root steps (LoadAnswer first))) next aim index root n post (read_request found) (omega (arith, s))
protect_settles c clock next aim index root steps n (TakeAnswer link era) post found p =
    let s = seen_rises clock next post.span p.rises in
    rw (held_span (with_tag post index (tag_of post index + 1)) index root link) (omega (arith, s))
protect_settles c clock next aim index root steps n (WithdrawRequest link era) post found p = let s = seen_rises clock next post.span p.rises in omega (arith, s)
protect_settles c clock next aim index root steps n (WithdrawHelper link era) post found p =
    let s = seen_rises clock next post.span p.rises in
    concluded_settles c (start_of c clock post.span (Protect aim index root steps (WithdrawHelper link era))) next aim index root n link era post (reserves_helper post 0) (omega (arith, s))
protect_settles c clock next aim index root steps n LoadWithin post found p = let s = seen_rises clock next post.span p.rises in omega (arith, s)
protect_settles c clock next aim index root steps n (CheckUpper link) post found p =
    let s = seen_rises clock next post.span p.rises in
    if_by (found == upper post.span) (protected aim index root n link found post) (goes post [] (Protect aim index root n (RaiseUpper found)))
    (Settles c (start_of c clock post.span (Protect aim index root steps (CheckUpper link))) next)
    (λ e. protected_settles c (start_of c clock post.span (Protect aim index root steps (CheckUpper link))) next aim index root n link found post (omega (arith, s)))
    (λ e. let u = some_seen clock post.span p.span in let b = p.seen in let l = p.loads in
    let d = eras_fall c (upper post.span) clock (grind (arith, nat_tests, e, l, b, u)) (let r = p.rises in let m = p.most in omega (arith, r, m)) in
    rw (u, l) (omega (arith, d)))
protect_settles c clock next aim index root steps n (RaiseUpper era) post found p = let s = seen_rises clock next post.span p.rises in omega (arith, s)
protect_settles c clock next aim index root steps n (ByHazard at) post found p = hazard_settles c clock next aim index root steps n at post found p.rises p.ends
