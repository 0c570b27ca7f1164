-- How many steps a call has made, by where it stands; and each step of its seat keeps that.
use Rattle.std.proofs.Common.{ℕ, ◌≡◌, ◌≤◌, ◌<◌, ap, ◌+◌, Bool, true, false, List, [], ◌∷◌, Option, Some, None, refl, sym, ◌∙◌, subst, arith}
use Rattle.std.proofs.lemmas.Bool.Decides.{nat_tests}
use Rattle.std.specs.Prelude.{◌==◌, ◌&&◌, ◌||◌, ◌*◌, not, is_some, nat_le, nat_lt, if◌then◌else◌}
use Rattle.law_scans.specs.inv.model.words.declared.config.Config.{Config}
use Rattle.law_scans.specs.inv.model.defs.declared.call.Call.{Call}
use Rattle.law_scans.specs.inv.model.defs.declared.call.Call.TheVariants as calls
use Rattle.law_scans.specs.inv.model.defs.declared.event.Event.{Event}
use Rattle.law_scans.specs.inv.model.defs.declared.event.Event.TheVariants as events
use Rattle.law_scans.specs.inv.model.defs.declared.event.Guard.{Guard}
use Rattle.law_scans.specs.inv.model.declared.post.Post.{Post}
use Rattle.law_scans.specs.inv.model.Desks.{Desk}
use Rattle.law_scans.specs.inv.model.Guards.{guards, guard_at, published}
use Rattle.law_scans.specs.inv.model.Rest.{move_left}
use Rattle.law_scans.specs.inv.model.Rounds.{helps, scheme_of}
use Rattle.law_scans.specs.inv.model.Keep as keeps
use Rattle.law_scans.specs.inv.model.Posts.{publishes_index, stands}
use Rattle.law_scans.specs.inv.model.Scan as scans
use Rattle.law_scans.specs.inv.model.Steps as steps
use Rattle.law_scans.specs.inv.model.Phases.{Alone, MoveAt, Base}
use Rattle.law_scans.specs.inv.model.Phases.MoveAt.{LoadEra, ExchangeClock}
use Rattle.law_scans.specs.inv.model.Phases.Base.{Protect, Clear, Release, Move}
use Rattle.law_scans.specs.inv.model.Calls.{Gets, Holds, Answering, Counted, Opens, Clears, Advances, Releases, Released, Rehold, Dropped, KeepAt, Loosens, LoadHeld, StoreHeld, Looks, Misses, HideSpan, MarkLeft, TakeList, MarkTaken, Keeping, ScanAt, ReadGuard, GiveBack, GetAt, FindVersion, FindCount, FindKey, FindValue, Getting, Phase, Runs, Scans, Works, CallOutcome, GoesOn, Answers}
use Rattle.law_scans.proofs.inv.model.Facts.{both}
use Rattle.law_scans.specs.inv.model.words.Schemes.{has_one_interval, is_wfe, publishes_rows}
use Rattle.law_scans.specs.inv.shapes.Frame.{KeepFits}
use Rattle.law_scans.specs.inv.shapes.Slots.{GetIn, KeepIn}
use Rattle.law_scans.specs.inv.shapes.Seats.{Kind, suits}
use Rattle.law_scans.specs.laws.HistorySteps.{steps_right}

-- the only phase of a release
abbrev pub at_release : Phase → Bool
at_release (Runs (Releases Released) base) = true
at_release (Works (Keeping (Loosens Released))) = true
at_release phase = false

-- and of a drop
abbrev pub at_drop : Phase → Bool
at_drop (Runs (Releases (Dropped index)) base) = true
at_drop (Works (Keeping (Loosens (Dropped index)))) = true
at_drop phase = false

-- a copy has found what is published, or nothing yet
abbrev pub at_copy : Phase → (steps : ℕ) → Bool
at_copy (Works (Keeping (LoadHeld from index))) steps = steps == 0
at_copy (Works (Keeping (StoreHeld from index era))) steps = steps == 1
at_copy (Works (Keeping (Misses index))) steps = steps == 0
at_copy phase steps = false

-- a look has read so much
abbrev pub looking_steps : GetAt → (steps : ℕ) → Bool
looking_steps (FindVersion slot) steps = steps == 0
looking_steps (FindCount slot version) steps = steps == 1
looking_steps (FindKey slot version count pair) steps = steps == 2 + pair
looking_steps (FindValue slot version pair) steps = steps == 3 + pair

abbrev pub at_look : Phase → (steps : ℕ) → Bool
at_look (Works (Keeping (Looks index key at))) steps = looking_steps at steps
at_look (Works (Keeping (Misses index))) steps = steps == 0
at_look phase steps = false

-- a scan has read so many guards, and given so many rows back
abbrev pub at_scan : Config → Phase → (backs steps : ℕ) → Bool
at_scan c (Scans Counted (ReadGuard number)) backs steps = steps == number && backs == 0
at_scan c (Scans Counted (GiveBack place slot)) backs steps = steps == guards c + backs
at_scan c phase backs steps = false

-- a move of the clock alone: under Wait-Free Eras by the steps that are left
abbrev pub short_move : MoveAt → (steps : ℕ) → Bool
short_move (LoadEra helps) steps = steps == 0
short_move (ExchangeClock era) steps = steps == 1
short_move at steps = false

abbrev pub at_advance : Config → Phase → (steps : ℕ) → Bool
at_advance c (Runs Advances (Move at)) steps = if is_wfe c.scheme then nat_le (steps + move_left at c) (7 * c.seats + 3) else short_move at steps
at_advance c phase steps = false

-- a protection that is all
abbrev pub alone_steps : Base → (more steps : ℕ) → Bool
alone_steps (Protect Alone index root made at) more steps = nat_le steps (made + more)
alone_steps base more steps = false

abbrev pub at_hold : Config → Phase → (steps : ℕ) → Bool
at_hold c (Runs (Releases (Rehold key)) base) steps = steps == 0
at_hold c (Runs (Opens (Holds key)) base) steps = alone_steps base 1 steps
at_hold c (Runs (Clears (Holds key) (Answering answer)) base) steps = nat_le steps (3 * c.tries + 15)
at_hold c phase steps = false

abbrev pub getting_steps : Config → GetAt → (steps : ℕ) → Bool
getting_steps c (FindVersion slot) steps = nat_le steps (3 * c.tries + 14)
getting_steps c (FindCount slot version) steps = nat_le steps (3 * c.tries + 15)
getting_steps c (FindKey slot version count pair) steps = nat_le steps (3 * c.tries + 16 + pair)
getting_steps c (FindValue slot version pair) steps = nat_le steps (3 * c.tries + 17 + pair)

abbrev pub at_get : Config → Phase → (steps : ℕ) → Bool
at_get c (Runs (Opens (Gets key)) base) steps = alone_steps base 0 steps
at_get c (Runs (Clears (Gets key) (Answering answer)) base) steps = nat_le steps (3 * c.tries + 17 + c.pairs)
at_get c (Works (Getting key at)) steps = getting_steps c at steps
at_get c phase steps = false

-- the steps that a call has made
abbrev pub call_steps : Config → Call → Phase → (backs steps : ℕ) → Bool
call_steps c calls.Release phase backs steps = at_release phase && steps == 0
call_steps c (calls.DropIndex index) phase backs steps = at_drop phase && steps == 0
call_steps c (calls.Copy from index) phase backs steps = at_copy phase steps
call_steps c (calls.Look index key) phase backs steps = at_look phase steps
call_steps c calls.Scan phase backs steps = at_scan c phase backs steps
call_steps c calls.Advance phase backs steps = at_advance c phase steps
call_steps c (calls.Hold key) phase backs steps = not (is_wfe c.scheme) || at_hold c phase steps
call_steps c (calls.Get key) phase backs steps = not (is_wfe c.scheme) || at_get c phase steps
call_steps c call phase backs steps = true

-- what a step leaves: so many steps made
abbrev pub Out : Config → Call → (backs steps : ℕ) → CallOutcome → Type 0
Out c call backs steps (GoesOn phase) = call_steps c call phase backs steps ≡ true
Out c call backs steps (Answers answer) = steps_right c call backs answer steps ≡ true

-- a release and a drop
pub release_out : (c : Config) (base : Base) (post : Post) (desk : Desk) (found backs n m : ℕ) → suits base Kind.ToRelease ≡ true → (n == 0) ≡ true → m ≡ n + 1 → Out c calls.Release backs m (steps.phase_turn (Runs (Releases Released) base) post desk found).outcome
release_out c (Clear rows index) post desk found backs n m s h e = grind (arith, nat_tests)
release_out c (Release index) post desk found backs n m s h e = grind (arith, nat_tests)
release_out c base post desk found backs n m s h e = absurd (cc)

pub drop_out : (c : Config) (index own : ℕ) (base : Base) (post : Post) (desk : Desk) (found backs n m : ℕ) → suits base Kind.ToRelease ≡ true → (n == 0) ≡ true → m ≡ n + 1 → Out c (calls.DropIndex index) backs m (steps.phase_turn (Runs (Releases (Dropped own)) base) post desk found).outcome
drop_out c index own (Clear rows at) post desk found backs n m s h e = grind (arith, nat_tests)
drop_out c index own (Release at) post desk found backs n m s h e = grind (arith, nat_tests)
drop_out c index own base post desk found backs n m s h e = absurd (cc)

-- a copy
none_made : (m : ℕ) (plain : Bool) → m ≡ 1 → (m == (if plain && false then 2 else 1)) ≡ true
none_made m true e = grind (arith, nat_tests)
none_made m false e = grind (arith, nat_tests)

one_made : (m : ℕ) (one : Bool) → one ≡ true → m ≡ 1 → (m == (if not one && true then 2 else 1)) ≡ true
one_made m true o e = grind (arith, nat_tests)
one_made m false o e = absurd (cc)

two_made : (m : ℕ) (one : Bool) → one ≡ false → m ≡ 2 → (m == (if not one && true then 2 else 1)) ≡ true
two_made m true o e = absurd (cc)
two_made m false o e = grind (arith, nat_tests)

load_made : (c : Config) (a b from index : ℕ) (post : Post) (desk : Desk) (x : Option ℕ) (backs m : ℕ) → has_one_interval c.scheme ≡ true → m ≡ 1 → Out c (calls.Copy a b) backs m (keeps.copied from index post desk [] x).outcome
load_made c a b from index post desk None backs m o e = none_made m (not (has_one_interval c.scheme)) e
load_made c a b from index post desk (Some slot) backs m o e = one_made m (has_one_interval c.scheme) o e

load_out : (c : Config) (a b from index : ℕ) (post : Post) (desk : Desk) (found backs m : ℕ) (one : Bool) → has_one_interval c.scheme ≡ one → m ≡ 1 → Out c (calls.Copy a b) backs m (keeps.load_held from index post desk found one).outcome
load_out c a b from index post desk found backs m true o e = load_made c a b from index post desk (stands post from) backs m o e
load_out c a b from index post desk found backs m false o e = grind (arith, nat_tests)

store_out : (c : Config) (a b from index : ℕ) (post : Post) (desk : Desk) (reserved : List Event) (x : Option ℕ) (backs m : ℕ) → is_some x ≡ true → has_one_interval c.scheme ≡ false → m ≡ 2 → Out c (calls.Copy a b) backs m (keeps.copied from index post desk reserved x).outcome
store_out c a b from index post desk reserved None backs m s o e = absurd (cc)
store_out c a b from index post desk reserved (Some slot) backs m s o e = two_made m (has_one_interval c.scheme) o e

pub copy_out : (c : Config) (a b : ℕ) (at : KeepAt) (post : Post) (desk : Desk) (found backs n m : ℕ) → scheme_of post ≡ c.scheme → KeepFits post at → at_copy (Works (Keeping at)) n ≡ true → m ≡ n + 1 → Out c (calls.Copy a b) backs m (steps.phase_turn (Works (Keeping at)) post desk found).outcome
copy_out c a b (LoadHeld from index) post desk found backs n m s f h e = load_out c a b from index post desk found backs m (has_one_interval (scheme_of post)) (ap has_one_interval (sym s)) (grind (arith, nat_tests))
copy_out c a b (StoreHeld from index era) post desk found backs n m s f h e =
    store_out c a b from index post desk (publishes_index (publishes_rows (scheme_of post)) post index era) (stands post from) backs m f.kept (ap has_one_interval (sym s) ∙ f.plain) (grind (arith, nat_tests))
copy_out c a b (Misses index) post desk found backs n m s f h e = none_made m (not (has_one_interval c.scheme)) (grind (arith, nat_tests))
copy_out c a b HideSpan post desk found backs n m s f h e = absurd (cc)
copy_out c a b MarkLeft post desk found backs n m s f h e = absurd (cc)
copy_out c a b (TakeList place) post desk found backs n m s f h e = absurd (cc)
copy_out c a b (MarkTaken place count) post desk found backs n m s f h e = absurd (cc)
copy_out c a b (Loosens let_go) post desk found backs n m s f h e = absurd (cc)
copy_out c a b (Looks index key at) post desk found backs n m s f h e = absurd (cc)

-- a look
looking_out : (c : Config) (a b index key slot version count : ℕ) (post : Post) (desk : Desk) (more : Bool) (pair backs m : ℕ) → m ≡ 2 + pair → pair ≤ c.pairs → Out c (calls.Look a b) backs m (keeps.looking index key slot version count post desk more pair).outcome
looking_out c a b index key slot version count post desk true pair backs m e l = grind (arith, nat_tests)
looking_out c a b index key slot version count post desk false pair backs m e l = grind (arith, nat_tests)

looked_out : (c : Config) (a b index key slot version count pair : ℕ) (post : Post) (desk : Desk) (own : Bool) (backs m : ℕ) → m ≡ 3 + pair → pair < c.pairs → Out c (calls.Look a b) backs m (keeps.looked_key index key slot version count pair post desk own).outcome
looked_out c a b index key slot version count pair post desk true backs m e l = grind (arith, nat_tests)
looked_out c a b index key slot version count pair post desk false backs m e l = looking_out c a b index key slot version count post desk (nat_lt (pair + 1) count) (pair + 1) backs m (omega (e, arith)) (omega (l, arith))

look_at_out : (c : Config) (a b index key : ℕ) (at : GetAt) (post : Post) (desk : Desk) (found backs n m : ℕ) → GetIn c at → looking_steps at n ≡ true → m ≡ n + 1 → Out c (calls.Look a b) backs m (keeps.look_turn index key at post desk found).outcome
look_at_out c a b index key (FindVersion slot) post desk found backs n m g h e = grind (arith, nat_tests)
look_at_out c a b index key (FindCount slot version) post desk found backs n m g h e =
    let q : m ≡ 2 + 0 = grind (arith, nat_tests) in looking_out c a b index key slot version found post desk (nat_lt 0 found) 0 backs m q (omega arith)
look_at_out c a b index key (FindKey slot version count pair) post desk found backs n m g h e =
    let q : m ≡ 3 + pair = grind (arith, nat_tests) in looked_out c a b index key slot version count pair post desk (found == key) backs m q (omega (g.1, g.2, arith))
look_at_out c a b index key (FindValue slot version pair) post desk found backs n m g h e =
    let q : m ≡ 4 + pair = grind (arith, nat_tests) in
    let l : pair < c.pairs = omega (g.1, arith) in grind (arith, nat_tests)

pub look_out : (c : Config) (a b : ℕ) (at : KeepAt) (post : Post) (desk : Desk) (found backs n m : ℕ) → KeepIn c at → at_look (Works (Keeping at)) n ≡ true → m ≡ n + 1 → Out c (calls.Look a b) backs m (steps.phase_turn (Works (Keeping at)) post desk found).outcome
look_out c a b (Looks index key at) post desk found backs n m g h e = look_at_out c a b index key at post desk found backs n m g.1 h e
look_out c a b (Misses index) post desk found backs n m g h e = grind (arith, nat_tests)
look_out c a b HideSpan post desk found backs n m g h e = absurd (cc)
look_out c a b MarkLeft post desk found backs n m g h e = absurd (cc)
look_out c a b (TakeList place) post desk found backs n m g h e = absurd (cc)
look_out c a b (MarkTaken place count) post desk found backs n m g h e = absurd (cc)
look_out c a b (Loosens let_go) post desk found backs n m g h e = absurd (cc)
look_out c a b (LoadHeld from index) post desk found backs n m g h e = absurd (cc)
look_out c a b (StoreHeld from index era) post desk found backs n m g h e = absurd (cc)

-- a scan
given_out : (c : Config) (post : Post) (desk : Desk) (told : List Event) (x : Option scans.Entry) (backs m : ℕ) → m ≡ guards c + backs → Out c calls.Scan backs m (scans.giving_back Counted post desk told x).outcome
given_out c post desk told None backs m e = grind (arith, nat_tests)
given_out c post desk told (Some entry) backs m e = grind (arith, nat_tests)

read_out : (c : Config) (number : ℕ) (post : Post) (desk : Desk) (told : List Event) (more : Bool) (backs m : ℕ) → nat_lt (number + 1) (guards c) ≡ more → number < guards c → m ≡ number + 1 → backs ≡ 0 → Out c calls.Scan backs m (scans.reading Counted number post desk told more).outcome
read_out c number post desk told true backs m h l e z = both (m == number + 1) (backs == 0) (grind (arith, nat_tests)) (rw z refl)
read_out c number post desk told false backs m h l e z = let q : m ≡ guards c + backs = grind (arith, nat_tests) in given_out c post desk told (scans.unmet_from desk 0) backs m q

abbrev pub scan_small : Config → ScanAt → Bool
scan_small c (ReadGuard number) = nat_lt number (guards c)
scan_small c (GiveBack place slot) = true

abbrev pub backs_at : ScanAt → ℕ → ℕ
backs_at (ReadGuard number) before = before
backs_at (GiveBack place slot) before = before + 1

pub scan_out : (c : Config) (at : ScanAt) (post : Post) (desk : Desk) (found before backs n m : ℕ) → post.layout.config ≡ c → scan_small c at ≡ true → at_scan c (Scans Counted at) before n ≡ true → m ≡ n + 1 → backs ≡ backs_at at before → Out c calls.Scan backs m (scans.scan_turn Counted at post desk found).outcome
scan_out c (ReadGuard number) post desk found before backs n m e s h k b =
    let z : before ≡ 0 = grind (arith, nat_tests) in
    let q : m ≡ number + 1 = grind (arith, nat_tests) in
    let l : number < guards c = grind (arith, nat_tests) in
    let rows : Bool = publishes_rows post.layout.config.scheme in
    let guard : Guard = guard_at post.layout.config number in
    let read : Desk = scans.with_read desk number (guard, published rows guard found) in
    let told : List Event = scans.reads_guard rows guard found ∷ [] in
    subst (λ (d : Config). Out c calls.Scan backs m (scans.reading Counted number post read told (nat_lt (number + 1) (guards d))).outcome) (sym e) (read_out c number post read told (nat_lt (number + 1) (guards c)) backs m refl l q (b ∙ z))
scan_out c (GiveBack place slot) post desk found before backs n m e s h k b =
    let q : m ≡ guards c + backs = grind (arith, nat_tests) in given_out c post (scans.with_back desk place) (events.Back slot ∷ []) (scans.unmet_from (scans.with_back desk place) place) backs m q
