-- What a seat itself has told of the index word of its protection, by where the protection stands, over each step of a machine.
use Rattle.std.proofs.Common.{ℕ, ◌≡◌, ◌≤◌, ◌+◌, Bool, true, false, List, [], ◌∷◌, ◌++◌, Option, Some, None, refl, sym, ◌∙◌, subst, arith}
use Rattle.std.proofs.lemmas.Bool.Decides.{nat_tests}
use Rattle.std.specs.Prelude.{◌||◌, ◌==◌, ◌&&◌, nat_le, nat_lt, if◌then◌else◌}
use Rattle.law_scans.specs.inv.model.words.Packed.{read_request, read_reservation, reservation_word}
use Rattle.law_scans.specs.inv.model.words.declared.config.Config.{Config}
use Rattle.law_scans.specs.inv.model.words.declared.packed.Request.{Request}
use Rattle.law_scans.specs.inv.model.words.declared.packed.Request.TheVariants as requests
use Rattle.law_scans.specs.inv.model.defs.declared.event.Event.{Event}
use Rattle.law_scans.specs.inv.model.defs.declared.event.Event.TheVariants as events
use Rattle.law_scans.specs.inv.model.defs.declared.event.Guard.TheVariants.{Index}
use Rattle.law_scans.specs.inv.model.defs.declared.event.Root.{Root}
use Rattle.law_scans.specs.inv.model.defs.declared.lifetime.Interval.{Interval}
use Rattle.law_scans.specs.inv.model.declared.post.Post.{Post}
use Rattle.law_scans.specs.inv.model.Allocate as allocates
use Rattle.law_scans.specs.inv.model.Calls.{Phase, Idle, Runs, Scans, Works}
use Rattle.law_scans.specs.inv.model.Guards.{one_era}
use Rattle.law_scans.specs.inv.model.Machine as machine
use Rattle.law_scans.specs.inv.model.Memory.{bump}
use Rattle.law_scans.specs.inv.model.MoveClock as movers
use Rattle.law_scans.specs.inv.model.Phases.{Aim, Alone, Follows, Tries, Endless, Failed, ProtectAt, MoveAt, Walk, Base, Turn, Outcome, Goes, Ends}
use Rattle.law_scans.specs.inv.model.Phases.BeginAt.{LoadLower}
use Rattle.law_scans.specs.inv.model.Phases.HazardAt.{FirstLink, PublishLink, CheckLink}
use Rattle.law_scans.specs.inv.model.Phases.ProtectAt.{ByHazard, LoadClock, PublishEra, LoadLink, CheckClock, PublishRequest, LoadOwnClock, PublishHelper, LoadOwnLink, CheckOwnClock, AnswerOwn, LoadAnswer, TakeAnswer, WithdrawRequest, WithdrawHelper, LoadWithin, CheckUpper, RaiseUpper}
use Rattle.law_scans.specs.inv.model.Phases.AllocateAt.{ClaimSlot}
use Rattle.law_scans.specs.inv.model.Phases.RetireAt.{LoadLife}
use Rattle.law_scans.specs.inv.model.Phases.MoveAt.{LoadEra, CheckEra, AnswerAsked, LoadReserved, HandOver, ExchangeClock}
use Rattle.law_scans.specs.inv.model.Phases.Base.{Begin, Protect, Reload, Allocate, Write, Retire, Move}
use Rattle.law_scans.specs.inv.model.Posts.{upper, reserves_helper, reserves_index}
use Rattle.law_scans.specs.inv.model.Protect as protects
use Rattle.law_scans.specs.inv.model.SlowPath as slow
use Rattle.law_scans.specs.inv.model.WriteRow.{last_written}
use Rattle.law_scans.proofs.inv.model.Facts.{both, first_of, rest_of, same_number}
use Rattle.law_scans.specs.laws.records.Record.{Past}
use Rattle.law_scans.specs.laws.records.Record.Past.{Start, Then}
use Rattle.law_scans.proofs.Turns.Withdrawals.Leaving.{is_first, is_new}
use Rattle.law_scans.proofs.Turns.Withdrawals.Withdrawing.{is_mute, all_mute}
use Rattle.law_scans.specs.laws.StateAt.{own_last_by, own_last_of, own_rising_by, own_rising_of}
use Rattle.law_scans.specs.laws.StateAt.{is_index_word, one_more, tried_by, tried_of}
use Rattle.law_scans.specs.laws.StateAt.{era_grows}
use Rattle.law_scans.specs.laws.StateAt.{rises_on}

-- along what a step tells
abbrev pub last_told : (seat index : ℕ) → List Event → Option Interval → Option Interval
last_told i j [] last = last
last_told i j (event ∷ told) last = last_told i j told (own_last_by i j event last)

abbrev pub rise_told : (seat index : ℕ) → List Event → Option Interval → Bool → Bool
rise_told i j [] last rising = rising
rise_told i j (event ∷ told) last rising = rise_told i j told (own_last_by i j event last) (own_rising_by i j last event rising)

last_both : (i j : ℕ) (xs ys : List Event) (x : Option Interval) → last_told i j (xs ++ ys) x ≡ last_told i j ys (last_told i j xs x)
last_both i j [] ys x = refl
last_both i j (e ∷ xs) ys x = last_both i j xs ys (own_last_by i j e x)

rise_both : (i j : ℕ) (xs ys : List Event) (x : Option Interval) (r : Bool) → rise_told i j (xs ++ ys) x r ≡ rise_told i j ys (last_told i j xs x) (rise_told i j xs x r)
rise_both i j [] ys x r = refl
rise_both i j (e ∷ xs) ys x r = rise_both i j xs ys (own_last_by i j e x) (own_rising_by i j x e r)

-- events that tell nothing of guards, and end no protection, change neither
mute_last : (i j : ℕ) (event : Event) (x : Option Interval) → is_mute event ≡ true → own_last_by i j event x ≡ x
mute_last i j (events.Reserve guard span) x h = absurd (cc)
mute_last i j (events.Held index slot steps) x h = absurd (cc)
mute_last i j (events.Copied from index slot) x h = absurd (cc)
mute_last i j (events.Null index steps) x h = absurd (cc)
mute_last i j event x h = refl

mute_rise : (i j : ℕ) (event : Event) (x : Option Interval) (r : Bool) → is_mute event ≡ true → own_rising_by i j x event r ≡ r
mute_rise i j (events.Reserve guard span) x r h = absurd (cc)
mute_rise i j (events.Held index slot steps) x r h = absurd (cc)
mute_rise i j (events.Copied from index slot) x r h = absurd (cc)
mute_rise i j (events.Null index steps) x r h = absurd (cc)
mute_rise i j event x r h = refl

-- what is told comes to these two
pub record Comes (i j : ℕ) (x : Option Interval) (r : Bool) (y : Option Interval) (s : Bool) (told : List Event) : Type 0 where
  pub last : last_told i j told x ≡ y
  pub rising : rise_told i j told x r ≡ s

mutes : (i j : ℕ) (told : List Event) (x : Option Interval) (r : Bool) → all_mute told ≡ true → Comes i j x r x r told
mutes i j [] x r h = record { last = refl; rising = refl }
mutes i j (event ∷ told) x r h =
    let m : is_mute event ≡ true = first_of (is_mute event) (all_mute told) h in
    let c = mutes i j told x r (rest_of (is_mute event) (all_mute told) h) in
    record { last = rw (mute_last i j event x m) c.last; rising = rw (mute_last i j event x m, mute_rise i j event x r m) c.rising }

pub comes_along : (i j : ℕ) (x : Option Interval) (r : Bool) (y : Option Interval) (s : Bool) (told more : List Event) → all_mute more ≡ true → Comes i j x r y s told → Comes i j x r y s (told ++ more)
comes_along i j x r y s told more h c =
    let m = mutes i j more (last_told i j told x) (rise_told i j told x r) h in
    record { last = last_both i j told more x ∙ m.last ∙ c.last; rising = rise_both i j told more x r ∙ m.rising ∙ c.rising }

-- where nothing was published nothing was told last, and nothing fell
pub record Fresh (x : Option Interval) (r : Bool) : Type 0 where
  pub last : x ≡ None
  pub rising : r ≡ true

fresh_by : (i j n : ℕ) (x : Option Interval) (r : Bool) (event : Event) → ((n == 0) ≡ true → Fresh x r) → (tried_by i j event n == 0) ≡ true → Fresh (own_last_by i j event x) (own_rising_by i j x event r)
fresh_by i j n x r (events.Reserve guard span) f h = by (is_index_word i j guard) span h
  where
    by : (own : Bool) (span : Option Interval) → ((if own then one_more span n else n) == 0) ≡ true → Fresh (if own then span else x) (if own then rises_on x span r else r)
    by true None h = record { last = refl; rising = refl }
    by true (Some span) h = absurd (grind (arith, nat_tests))
    by false span h = f h
fresh_by i j n x r (events.Held index slot steps) f h = by (index == j) h
  where
    by : (own : Bool) → ((if own then 0 else n) == 0) ≡ true → Fresh (if own then None else x) (if own then true else r)
    by true h = record { last = refl; rising = refl }
    by false h = f h
fresh_by i j n x r (events.Null index steps) f h = by (index == j) h
  where
    by : (own : Bool) → ((if own then 0 else n) == 0) ≡ true → Fresh (if own then None else x) (if own then true else r)
    by true h = record { last = refl; rising = refl }
    by false h = f h
fresh_by i j n x r (events.Copied from index slot) f h = by (index == j) h
  where
    by : (own : Bool) → ((if own then 0 else n) == 0) ≡ true → Fresh (if own then None else x) (if own then true else r)
    by true h = record { last = refl; rising = refl }
    by false h = f h
fresh_by i j n x r event f h = f h

pub fresh_of : (i j : ℕ) (p : Past) → (tried_of i j p == 0) ≡ true → Fresh (own_last_of i j p) (own_rising_of i j p)
fresh_of i j Start h = record { last = refl; rising = refl }
fresh_of i j (Then p k event) h = by (i == k) (fresh_of i j p) h
  where
    by : (own : Bool) → ((tried_of i j p == 0) ≡ true → Fresh (own_last_of i j p) (own_rising_of i j p)) → ((if own then tried_by i j event (tried_of i j p) else tried_of i j p) == 0) ≡ true
        → Fresh (if own then own_last_by i j event (own_last_of i j p) else own_last_of i j p) (if own then own_rising_by i j (own_last_of i j p) event (own_rising_of i j p) else own_rising_of i j p)
    by true f h = fresh_by i j (tried_of i j p) (own_last_of i j p) (own_rising_of i j p) event f h
    by false f h = f h

-- the era that is to be published is later, or the one that was told last is this
abbrev under : Option Interval → ℕ → Bool
under None era = true
under (Some span) era = nat_lt span.hi era

abbrev is_at : Option Interval → ℕ → Bool
is_at None era = false
is_at (Some span) era = span.hi == era

-- by where a protection stands
abbrev pub at_own : ProtectAt → Option Interval → Bool → Bool
at_own (PublishEra era tries) x r = r && under x era
at_own (LoadLink era tries) x r = r && is_at x era
at_own (CheckClock era tries link) x r = r && is_at x era
at_own PublishRequest x r = r
at_own LoadOwnClock x r = r
at_own (PublishHelper first era last) x r = r
at_own (LoadOwnLink first era last) x r = r
at_own (CheckOwnClock first era last link) x r = r
at_own (AnswerOwn first era link) x r = r
at_own (LoadAnswer first) x r = r
at_own at x r = true

abbrev pub base_own : Base → (index : ℕ) → Option Interval → Bool → Bool
base_own (Protect aim index root steps at) j x r = if index == j then at_own at x r else true
base_own base j x r = true

abbrev pub phase_own : Phase → (index : ℕ) → Option Interval → Bool → Bool
phase_own (Runs why base) j x r = base_own base j x r
phase_own phase j x r = true

new_base : (base : Base) (j : ℕ) (x : Option Interval) (r : Bool) → is_first base ≡ true → base_own base j x r ≡ true
new_base (Protect aim index root steps (LoadClock tries)) j x r h = by (index == j)
  where
    by : (own : Bool) → (if own then true else true) ≡ true
    by true = refl
    by false = refl
new_base (Protect aim index root steps LoadWithin) j x r h = by (index == j)
  where
    by : (own : Bool) → (if own then true else true) ≡ true
    by true = refl
    by false = refl
new_base (Protect aim index root steps (ByHazard at)) j x r h = by (index == j)
  where
    by : (own : Bool) → (if own then true else true) ≡ true
    by true = refl
    by false = refl
new_base (Protect aim index root steps at) j x r h = absurd (cc)
new_base base j x r h = refl

pub new_own : (phase : Phase) (j : ℕ) (x : Option Interval) (r : Bool) → is_new phase ≡ true → phase_own phase j x r ≡ true
new_own Idle j x r h = refl
new_own (Runs why base) j x r h = new_base base j x r h
new_own (Scans later at) j x r h = refl
new_own (Works work) j x r h = refl

-- what a step needs besides: the era that it publishes is one, and the clock that it loads is not before the era that it published
abbrev pub OwnEra : Base → (found : ℕ) → Type 0
OwnEra (Protect aim index root steps (PublishEra era tries)) found = 1 ≤ era
OwnEra (Protect aim index root steps (CheckClock era tries link)) found = era ≤ found
OwnEra base found = Unit {0}

-- where a protection begins nothing was told
abbrev pub Begun : Base → (index : ℕ) → Option Interval → Bool → Type 0
Begun (Protect aim index root steps (LoadClock tries)) j x r = (index == j) ≡ true → Fresh x r
Begun base j x r = Unit {0}

-- after the step
abbrev pub Out : (index : ℕ) → Option Interval → Bool → Outcome → Type 0
Out j x r (Goes base) = base_own base j x r ≡ true
Out j x r (Ends ending) = true ≡ true

abbrev pub Leaves : (seat index : ℕ) → Option Interval → Bool → Turn → Type 0
Leaves i j x r t = Out j (last_told i j t.told x) (rise_told i j t.told x r) t.outcome

leaves_if : (i j : ℕ) (x : Option Interval) (r : Bool) (c : Bool) (t u : Turn) → (c ≡ true → Leaves i j x r t) → (c ≡ false → Leaves i j x r u) → Leaves i j x r (if c then t else u)
leaves_if i j x r true t u h k = h refl
leaves_if i j x r false t u h k = k refl

-- a protection is over
concluded_leaves : (i j : ℕ) (x : Option Interval) (r : Bool) (aim : Aim) (index : ℕ) (root : Root) (n link era : ℕ) (post : Post) (told : List Event) → Leaves i j x r (protects.concluded aim index root n link era post told)
concluded_leaves i j x r Alone index root n link era post told = refl
concluded_leaves i j x r Follows index root n link era post told = leaves_if i j x r (link == 0) _ _ (λ e. refl) (λ e. refl)

-- at its index alone something is known
own_only : (own : Bool) (b : Bool) → (own ≡ true → b ≡ true) → (if own then b else true) ≡ true
own_only true b h = h refl
own_only false b h = refl

own_of : (own : Bool) (b : Bool) → own ≡ true → (if own then b else true) ≡ true → b ≡ true
own_of true b e h = h
own_of false b e h = absurd (cc)

-- an own step that tells nothing of index words
same_own : (index j : ℕ) (at next : ProtectAt) (x : Option Interval) (r : Bool) → (at_own at x r ≡ true → at_own next x r ≡ true) → (if index == j then at_own at x r else true) ≡ true → (if index == j then at_own next x r else true) ≡ true
same_own index j at next x r f h = own_only (index == j) (at_own next x r) (λ e. f (own_of (index == j) (at_own at x r) e h))

start_own : (found : ℕ) (tries : Tries) (x : Option Interval) (r : Bool) → Fresh x r → (r && under x found) ≡ true
start_own found tries x r f = rw (f.last, f.rising) refl

-- an era is published
era_some : (era : ℕ) → 1 ≤ era → one_era era ≡ Some (record { lo = era; hi = era })
era_some era h = let z : (era == 0) ≡ false = grind (arith, nat_tests) in rw z refl

grows_under : (x : Option Interval) (era : ℕ) → under x era ≡ true → era_grows x (Some (record { lo = era; hi = era })) ≡ true
grows_under None era h = refl
grows_under (Some span) era h = h

trying_own : (config : Config) (era : ℕ) (tries : Tries) (x : Option Interval) (r : Bool) → r ≡ true → is_at x era ≡ true → at_own (protects.trying config era tries) x r ≡ true
trying_own config era Endless x r h a = both r (is_at x era) h a
trying_own config era (Failed count) x r h a = by (nat_le config.tries count)
  where
    by : (b : Bool) → at_own (if b then PublishRequest else LoadLink era (Failed count)) x r ≡ true
    by true = h
    by false = both r (is_at x era) h a

publish_own : (i j index : ℕ) (config : Config) (era : ℕ) (tries : Tries) (post : Post) (x : Option Interval) (r : Bool) → post.seat ≡ i → 1 ≤ era → (index == j) ≡ true → (r && under x era) ≡ true
    → at_own (protects.trying config era tries) (last_told i j (reserves_index post index era) x) (rise_told i j (reserves_index post index era) x r) ≡ true
publish_own i j index config era tries post x r s e o h =
    let a : (post.seat == i) ≡ true = grind (arith, nat_tests) in
    let w : is_index_word i j (Index post.seat index) ≡ true = both (post.seat == i) (index == j) a o in
    let q : one_era era ≡ Some (record { lo = era; hi = era }) = era_some era e in
    let rises : (era_grows x (Some (record { lo = era; hi = era })) && r) ≡ true = both (era_grows x (Some (record { lo = era; hi = era }))) r (grows_under x era (rest_of r (under x era) h)) (first_of r (under x era) h) in
    let here : at_own (protects.trying config era tries) (Some (record { lo = era; hi = era })) (era_grows x (Some (record { lo = era; hi = era })) && r) ≡ true = trying_own config era tries (Some (record { lo = era; hi = era })) (era_grows x (Some (record { lo = era; hi = era })) && r) rises (same_number era) in
    subst (λ (own : Bool). at_own (protects.trying config era tries) (if own then one_era era else x) (if own then rises_on x (one_era era) r else r) ≡ true) (sym w)
    (subst (λ (span : Option Interval). at_own (protects.trying config era tries) span (rises_on x span r) ≡ true) (sym q) here)

-- a try has failed
later_own : (era found : ℕ) (x : Option Interval) → is_at x era ≡ true → era ≤ found → (found == era) ≡ false → under x found ≡ true
later_own era found None a m e = absurd (cc)
later_own era found (Some span) a m e = grind (arith, nat_tests)

failed_own : (era found : ℕ) (x : Option Interval) (r : Bool) → era ≤ found → (found == era) ≡ false → (r && is_at x era) ≡ true → (r && under x found) ≡ true
failed_own era found x r m e h = both r (under x found) (first_of r (is_at x era) h) (later_own era found x (rest_of r (is_at x era) h) m e)

answer_own : (q : Option Request) (x : Option Interval) (r : Bool) → at_own (slow.answer_in q) x r ≡ true
answer_own (Some (requests.Answered link era)) x r = refl
answer_own (Some (requests.Pending tag index word)) x r = refl
answer_own (Some requests.Idle) x r = refl
answer_own None x r = refl

lost_own : (first : ℕ) (last : Bool) (found : ℕ) (x : Option Interval) (r : Bool) → r ≡ true → at_own (slow.lost_turn first last found) x r ≡ true
lost_own first true found x r h = h
lost_own first false found x r h = h

any_own : (index j : ℕ) (at : ProtectAt) (x : Option Interval) (r : Bool) → at_own at x r ≡ true → (if index == j then at_own at x r else true) ≡ true
any_own index j at x r h = own_only (index == j) (at_own at x r) (λ e. h)

protect_leaves : (i j : ℕ) (x : Option Interval) (r : Bool) (aim : Aim) (index : ℕ) (root : Root) (steps : ℕ) (at : ProtectAt) (post : Post) (found : ℕ) → post.seat ≡ i → OwnEra (Protect aim index root steps at) found → Begun (Protect aim index root steps at) j x r → (if index == j then at_own at x r else true) ≡ true
    → Leaves i j x r (machine.protect_turn aim index root (bump steps) at post found)
protect_leaves i j x r aim index root steps (LoadClock tries) post found s e b h = own_only (index == j) (r && under x found) (λ o. start_own found tries x r (b o))
protect_leaves i j x r aim index root steps (PublishEra era tries) post found s e b h =
    own_only (index == j) (at_own (protects.trying post.layout.config era tries) (last_told i j (reserves_index post index era) x) (rise_told i j (reserves_index post index era) x r))
    (λ o. publish_own i j index post.layout.config era tries post x r s e o (own_of (index == j) (r && under x era) o h))
protect_leaves i j x r aim index root steps (LoadLink era tries) post found s e b h = h
protect_leaves i j x r aim index root steps (CheckClock era tries link) post found s e b h =
    leaves_if i j x r (found == era) _ _ (λ q. concluded_leaves i j x r aim index root (bump steps) link era _ _)
    (λ q. own_only (index == j) (r && under x found) (λ o. failed_own era found x r e q (own_of (index == j) (r && is_at x era) o h)))
protect_leaves i j x r aim index root steps PublishRequest post found s e b h = h
protect_leaves i j x r aim index root steps LoadOwnClock post found s e b h = h
protect_leaves i j x r aim index root steps (PublishHelper first era last) post found s e b h = h
protect_leaves i j x r aim index root steps (LoadOwnLink first era last) post found s e b h = h
protect_leaves i j x r aim index root steps (CheckOwnClock first era last link) post found s e b h =
    leaves_if i j x r (found == era) _ _ (λ q. h) (λ q. own_only (index == j) (at_own (slow.lost_turn first last found) x r) (λ o. lost_own first last found x r (own_of (index == j) r o h)))
protect_leaves i j x r aim index root steps (AnswerOwn first era link) post found s e b h =
    leaves_if i j x r (found == slow.own_request post index root) _ _ (λ q. any_own index j (TakeAnswer link era) x r refl) (λ q. any_own index j (slow.answer_in (read_request found)) x r (answer_own (read_request found) x r))
protect_leaves i j x r aim index root steps (LoadAnswer first) post found s e b h = any_own index j (slow.answer_in (read_request found)) x r (answer_own (read_request found) x r)
protect_leaves i j x r aim index root steps (TakeAnswer link era) post found s e b h = any_own index j (WithdrawRequest link era) x r refl
protect_leaves i j x r aim index root steps (WithdrawRequest link era) post found s e b h = any_own index j (WithdrawHelper link era) x r refl
protect_leaves i j x r aim index root steps (WithdrawHelper link era) post found s e b h = concluded_leaves i j x r aim index root (bump steps) link era post (reserves_helper post 0)
protect_leaves i j x r aim index root steps LoadWithin post found s e b h = any_own index j (CheckUpper found) x r refl
protect_leaves i j x r aim index root steps (CheckUpper link) post found s e b h =
    leaves_if i j x r (found == upper post.span) _ _ (λ q. concluded_leaves i j x r aim index root (bump steps) link found _ _) (λ q. any_own index j (RaiseUpper found) x r refl)
protect_leaves i j x r aim index root steps (RaiseUpper era) post found s e b h = any_own index j LoadWithin x r refl
protect_leaves i j x r aim index root steps (ByHazard FirstLink) post found s e b h =
    leaves_if i j x r (found == 0) _ _ (λ q. concluded_leaves i j x r aim index root (bump steps) found 0 _ _) (λ q. any_own index j (ByHazard (PublishLink found)) x r refl)
protect_leaves i j x r aim index root steps (ByHazard (PublishLink link)) post found s e b h = any_own index j (ByHazard (CheckLink link)) x r refl
protect_leaves i j x r aim index root steps (ByHazard (CheckLink link)) post found s e b h =
    leaves_if i j x r (found == link || found == 0) _ _ (λ q. concluded_leaves i j x r aim index root (bump steps) found 0 _ _) (λ q. any_own index j (ByHazard (PublishLink found)) x r refl)

-- the other machines go on to no protection
handed_leaves : (i j : ℕ) (x : Option Interval) (r : Bool) (era seat tag index old : ℕ) (post : Post) (same : Bool) → Leaves i j x r (movers.after_hand_over era seat tag index old post same)
handed_leaves i j x r era seat tag index old post true = refl
handed_leaves i j x r era seat tag index old post false = refl

move_leaves : (i j : ℕ) (x : Option Interval) (r : Bool) (at : MoveAt) (post : Post) (found : ℕ) → Leaves i j x r (machine.move_turn at post found)
move_leaves i j x r (LoadEra helps) post found = leaves_if i j x r (found == post.layout.config.last_era) _ _ (λ e. refl) (λ e. refl)
move_leaves i j x r (CheckEra era seat tag index root link) post found = leaves_if i j x r (found == era) _ _ (λ e. refl) (λ e. refl)
move_leaves i j x r (AnswerAsked era seat tag index root link) post found = leaves_if i j x r (found == slow.asking post.layout tag index root) _ _ (λ e. refl) (λ e. refl)
move_leaves i j x r (LoadReserved era seat tag index root link) post found = leaves_if i j x r ((read_reservation found).tag == tag) _ _ (λ e. refl) (λ e. refl)
move_leaves i j x r (HandOver era seat tag index root link old) post found = handed_leaves i j x r era seat tag index old post (found == reservation_word (record { era = old; tag = tag }))
move_leaves i j x r (ExchangeClock era) post found = leaves_if i j x r (found == era) _ _ (λ e. refl) (λ e. refl)
move_leaves i j x r at post found = refl

walking_leaves : (i j : ℕ) (x : Option Interval) (r : Bool) (birth : ℕ) (post : Post) (walk : Option Walk) → Leaves i j x r (allocates.walking birth post walk)
walking_leaves i j x r birth post None = refl
walking_leaves i j x r birth post (Some walk) = refl

pub base_leaves : (i j : ℕ) (x : Option Interval) (r : Bool) (base : Base) (post : Post) (found : ℕ) → post.seat ≡ i → OwnEra base found → Begun base j x r → base_own base j x r ≡ true → Leaves i j x r (machine.after base post found)
base_leaves i j x r (Begin LoadLower) post found s e b h = refl
base_leaves i j x r (Protect aim index root steps at) post found s e b h = protect_leaves i j x r aim index root steps at post found s e b h
base_leaves i j x r (Reload parent index slot era steps) post found s e b h = leaves_if i j x r (found == parent + 1) _ _ (λ q. refl) (λ q. refl)
base_leaves i j x r (Allocate (ClaimSlot birth walk)) post found s e b h = leaves_if i j x r (allocates.is_claimed found walk.slot) _ _ (λ q. walking_leaves i j x r birth post (allocates.walk_past post.layout.config.slots walk found)) (λ q. refl)
base_leaves i j x r (Write slot row place) post found s e b h = leaves_if i j x r (place == last_written row) _ _ (λ q. refl) (λ q. refl)
base_leaves i j x r (Retire (LoadLife slot)) post found s e b h = refl
base_leaves i j x r (Move at) post found s e b h = move_leaves i j x r at post found
base_leaves i j x r base post found s e b h = refl
