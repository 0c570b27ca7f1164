-- Along a history it is known how often each protection under way has published, and how long it has been under way.
use Rattle.std.proofs.Common.{ℕ, ◌≡◌, ◌≤◌, ◌<◌, ◌+◌, Bool, true, false, List, [], ◌∷◌, refl, sym, ap, ◌∙◌, subst, arith}
use Rattle.std.proofs.lemmas.Bool.Decides.{nat_tests}
use Rattle.std.specs.Prelude.{◌==◌, ◌&&◌, ◌||◌, ◌*◌, not, nat_le, nat_lt, if◌then◌else◌}
use Rattle.law_reuse.specs.laws.words.declared.config.Config.{Config}
use Rattle.law_reuse.specs.laws.words.declared.config.SchemeKind.{SchemeKind}
use Rattle.law_reuse.specs.laws.words.declared.layout.Layout.{Layout}
use Rattle.law_reuse.specs.laws.defs.declared.event.Event.{Event}
use Rattle.law_reuse.specs.laws.defs.declared.event.Root.{Root}
use Rattle.law_reuse.specs.inv.model.declared.ends.FollowEnd.{FollowEnd}
use Rattle.law_reuse.specs.inv.model.declared.ends.FollowEnd.TheVariants as follow_ends
use Rattle.law_reuse.specs.inv.model.declared.post.Post.{Post}
use Rattle.law_reuse.specs.inv.model.Machine as machine
use Rattle.law_reuse.specs.inv.model.Posts.{counted, stands}
use Rattle.law_reuse.specs.inv.model.World.{World, finds, offered, told_in}
use Rattle.law_reuse.specs.inv.model.Phases.{Aim, ProtectAt, Base, Ending, Outcome, Goes, Ends}
use Rattle.law_reuse.specs.inv.model.Phases.ProtectAt.{LoadClock, PublishEra, LoadLink, CheckClock, WithdrawRequest, WithdrawHelper, LoadWithin, CheckUpper, RaiseUpper, ByHazard}
use Rattle.law_reuse.specs.inv.model.Phases.HazardAt.{FirstLink}
use Rattle.law_reuse.specs.inv.model.Phases.MoveAt.{HandOver}
use Rattle.law_reuse.specs.inv.model.Phases.Base.{Protect, Reload, Clear, Move}
use Rattle.law_reuse.specs.inv.model.Phases.Ending.{Done, Protected, Followed, Allocated, Retired, Clocked}
use Rattle.law_reuse.specs.inv.model.Calls.{Again, Why, FollowsHead, ClearsNext, ReadGuard, GiveBack, Phase, Idle, Runs, Scans, Works}
use Rattle.law_reuse.proofs.laws.records.defs.Facts.{same_number, both, first_of, rest_of, false_not_true, zero_test, or_left_true}
use Rattle.law_reuse.specs.inv.shapes.Eras.{Eras}
use Rattle.law_reuse.specs.laws.words.Schemes.{is_ibr, is_wfe, publishes_rows}
use Rattle.law_reuse.proofs.inv.model.words.Schemes.{helps_not_rows}
use Rattle.law_reuse.proofs.ReadGuards.{reads_are}
use Rattle.law_reuse.specs.inv.model.Guards.{guard_at}
use Rattle.law_reuse.specs.inv.shapes.Frame.{Passed}
use Rattle.law_reuse.specs.inv.shapes.Seats.{PhaseFits, Run, protect_fits, Kind, kind_of, suits, protects, reloads}
use Rattle.law_reuse.specs.laws.records.Record.{Past, tells_of}
use Rattle.law_reuse.specs.laws.records.Record.Past.{Then}
use Rattle.law_reuse.proofs.inv.requests.Paced.{in_time}
use Rattle.law_reuse.specs.inv.Inv.{Inv}
use Rattle.law_reuse.proofs.inv.Inv.Shapes.{eras_of}
use Rattle.law_reuse.proofs.history.Passes.{First, step_goes, work_told}
use Rattle.law_reuse.specs.laws.StateAt.{tried_by, tried_of, last_by, last_of}
use Rattle.law_scans.proofs.Turns.Counting.Fits.{own, base_own, paced, taken, since}
use Rattle.law_scans.proofs.Turns.Counting.Passing.{Apart, turned}
use Rattle.law_scans.proofs.Turns.Withdrawals.Due as due
use Rattle.law_scans.proofs.Turns.Withdrawals.Leaving.{tries_none, protects_at, is_first, is_new, Moved, Leads}
use Rattle.law_scans.proofs.Turns.Withdrawals.Withdrawing.{tells_link}
use Rattle.law_scans.proofs.Turns.TurnCounts.Trying.{tried_along, last_along, at_tried, at_last, base_tried, Out, other_of, Comes, comes_closed}
use Rattle.law_scans.proofs.Turns.TurnCounts.Machines.{TriedEra}
use Rattle.law_scans.proofs.Turns.TurnCounts.Tried.{is_other, other_tried, why_tried, phase_tried, is_follow, reload_one}
use Rattle.law_scans.proofs.Turns.Counting.Counting.{hands_apart}

-- what a machine or a call on what is kept tells itself
abbrev pub own_told : Phase → Post → ℕ → List Event
own_told (Runs why base) post found = (machine.after base post found).told
own_told (Works work) post found = work_told work post
own_told phase post found = []

first_comes : (i j n last : ℕ) (phase : Phase) (post : Post) (found : ℕ) → First (λ p told. Comes i j n last (tried_along i j (own_told phase post found) n) (last_along (own_told phase post found) last) told) phase post found
first_comes i j n last Idle post found = record { tried = refl; found = refl }
first_comes i j n last (Runs why base) post found = record { tried = refl; found = refl }
first_comes i j n last (Scans later (ReadGuard number)) post found = reads_are (λ event. Comes i j n last n last (event ∷ [])) (publishes_rows post.layout.config.scheme) (guard_at post.layout.config number) found (λ span. record { tried = refl; found = refl }) (λ slot. record { tried = refl; found = refl })
first_comes i j n last (Scans later (GiveBack place slot)) post found = record { tried = refl; found = refl }
first_comes i j n last (Works work) post found = record { tried = refl; found = refl }

pub told_comes : (w : World) (i j n last : ℕ) → Comes i j n last (tried_along i j (own_told (w.seat i).phase (counted (w.seat i).post) (finds w i)) n) (last_along (own_told (w.seat i).phase (counted (w.seat i).post) (finds w i)) last) (told_in w i)
told_comes w i j n last =
    let own : List Event = own_told (w.seat i).phase (counted (w.seat i).post) (finds w i) in
    step_goes (λ p told. Comes i j n last (tried_along i j own n) (last_along own last) told) (comes_closed i j n last (tried_along i j own n) (last_along own last)) (w.seat i).phase (counted (w.seat i).post) (offered w i).desk (finds w i)
    (first_comes i j n last (w.seat i).phase (counted (w.seat i).post) (finds w i))

-- what seat i tells is told by it alone
pub tried_tells : (i j : ℕ) (told : List Event) (p : Past) → tried_of i j (tells_of p i told) ≡ tried_along i j told (tried_of i j p)
tried_tells i j [] p = refl
tried_tells i j (event ∷ told) p = tried_tells i j told (Then p i event) ∙ ap (tried_along i j told) (here (i == i) (same_number i))
  where
    here : (same : Bool) → same ≡ true → (if same then tried_by i j event (tried_of i j p) else tried_of i j p) ≡ tried_by i j event (tried_of i j p)
    here true e = refl
    here false e = absurd (cc)

pub last_tells : (i : ℕ) (told : List Event) (p : Past) → last_of i (tells_of p i told) ≡ last_along told (last_of i p)
last_tells i [] p = refl
last_tells i (event ∷ told) p = last_tells i told (Then p i event) ∙ ap (last_along told) (here (i == i) (same_number i))
  where
    here : (same : Bool) → same ≡ true → (if same then last_by event (last_of i p) else last_of i p) ≡ last_by event (last_of i p)
    here true e = refl
    here false e = absurd (cc)

pub tried_stays : (k i j : ℕ) (told : List Event) (p : Past) → (k == i) ≡ false → tried_of k j (tells_of p i told) ≡ tried_of k j p
tried_stays k i j [] p e = refl
tried_stays k i j (event ∷ told) p e = tried_stays k i j told (Then p i event) e ∙ rw e refl

pub last_stays : (k i : ℕ) (told : List Event) (p : Past) → (k == i) ≡ false → last_of k (tells_of p i told) ≡ last_of k p
last_stays k i [] p e = refl
last_stays k i (event ∷ told) p e = last_stays k i told (Then p i event) e ∙ rw e refl

pub base_apart : (w : World) (i : ℕ) (a : Inv w) (why : Why) (base : Base) → i < w.layout.config.seats → (w.seat i).phase ≡ Runs why base → Apart i (finds w i) base
base_apart w i a why (Move (HandOver era seat tag index root link old)) b e = λ h. hands_apart w i a why era seat tag index root link old b e h
base_apart w i a why base b e = tt

pub base_era : (w : World) (i : ℕ) (why : Why) (base : Base) → Eras w → (w.seat i).phase ≡ Runs why base → TriedEra base
base_era w i why (Protect aim index root made (PublishEra era tries)) a e = let r = eras_of w i why (Protect aim index root made (PublishEra era tries)) a e in r.some
base_era w i why (Protect aim index root made at) a e = tt
base_era w i why base a e = tt

-- how long a protection has been under way
pub turned_small : (x u : ℕ) → turned x u ≤ u + 1
turned_small x u = by (x == 0)
  where
    by : (none : Bool) → (if none then 1 else u + 1) ≤ u + 1
    by true = omega arith
    by false = omega arith

since_turns : (tries made x u : ℕ) → since made x u ≡ true → made + 1 ≤ 3 * tries + 14 → turned x u + 1 ≤ 3 * tries + 14
since_turns tries made x u h k = grind (arith, nat_tests)

publish_turns : (tries made x u : ℕ) (b : Bool) → ((if x == 0 then made == 1 else made == u + 1) && b) ≡ true → made + 1 ≤ 3 * tries + 14 → turned x u + 1 ≤ 3 * tries + 14
publish_turns tries made x u b h k = by (x == 0) refl (first_of (if x == 0 then made == 1 else made == u + 1) b h)
  where
    by : (none : Bool) → (x == 0) ≡ none → (if none then made == 1 else made == u + 1) ≡ true → (if none then 1 else u + 1) + 1 ≤ 3 * tries + 14
    by true e q = omega arith
    by false e q = grind (arith, nat_tests)

clock_turns : (tries made x u : ℕ) → (x == 0 && made == 0) ≡ true → turned x u + 1 ≤ 3 * tries + 14
clock_turns tries made x u h = let z : (x == 0) ≡ true = first_of (x == 0) (made == 0) h in rw z (omega arith)

at_turns : (tries : ℕ) (scheme : SchemeKind) (at : ProtectAt) (made x u : ℕ) → is_ibr scheme ≡ false → publishes_rows scheme ≡ false → protect_fits scheme tries at ≡ true → paced at made x u ≡ true → made + 1 ≤ 3 * tries + 14 → turned x u + 1 ≤ 3 * tries + 14
at_turns tries scheme (LoadClock count) made x u n q f h k = clock_turns tries made x u h
at_turns tries scheme (PublishEra era count) made x u n q f h k = publish_turns tries made x u _ h k
at_turns tries scheme (LoadLink era count) made x u n q f h k = since_turns tries made x u (first_of (since made x u) _ h) k
at_turns tries scheme (CheckClock era count link) made x u n q f h k = since_turns tries made x u (first_of (since made x u) _ h) k
at_turns tries scheme LoadWithin made x u n q f h k = absurd (false_not_true (is_ibr scheme) n f)
at_turns tries scheme (CheckUpper link) made x u n q f h k = absurd (false_not_true (is_ibr scheme) n f)
at_turns tries scheme (RaiseUpper era) made x u n q f h k = absurd (false_not_true (is_ibr scheme) n f)
at_turns tries scheme (ByHazard at) made x u n q f h k = absurd (false_not_true (publishes_rows scheme) q f)
at_turns tries scheme at made x u n q f h k = since_turns tries made x u h k

pub protect_turns : (w : World) (i : ℕ) (x u : ℕ → ℕ) (why : Why) (aim : Aim) (index : ℕ) (root : Root) (made : ℕ) (at : ProtectAt) → Inv w → is_wfe w.layout.config.scheme ≡ true → is_ibr w.layout.config.scheme ≡ false → (w.seat i).phase ≡ Runs why (Protect aim index root made at) → base_own x u (w.seat i).post (Protect aim index root made at) ≡ true → turned (x index) (u index) + 1 ≤ 3 * w.layout.config.tries + 14
protect_turns w i x u why aim index root made at a f n e o =
    let k = a.known in
    let t = in_time w i k.seats k.paces in
    let r : Run w.layout why (Protect aim index root made at) (w.seat i).post = subst (PhaseFits w.layout (w.seat i).post) e (k.seats.fits i).phase in
    at_turns w.layout.config.tries w.layout.config.scheme at made (x index) (u index) n (helps_not_rows w.layout.config.scheme f) r.fits (first_of (paced at made (x index) (u index)) (nat_le made (w.seat i).post.steps && taken index at (stands (w.seat i).post 2)) o) (t.protects why aim index root made at f e)

pub reload_turns : (w : World) (i : ℕ) (x u : ℕ → ℕ) (why : Why) (parent index slot era made : ℕ) → Inv w → is_wfe w.layout.config.scheme ≡ true → (w.seat i).phase ≡ Runs why (Reload parent index slot era made) → base_own x u (w.seat i).post (Reload parent index slot era made) ≡ true → turned (x index) (u index) + 1 ≤ 3 * w.layout.config.tries + 15
reload_turns w i x u why parent index slot era made a f e o =
    let k = a.known in
    let t = in_time w i k.seats k.paces in
    let b : made + 1 ≤ 3 * w.layout.config.tries + 15 = t.reloads why parent index slot era made f e in
    by (first_of (since made (x index) (u index)) _ o) b
  where
    by : since made (x index) (u index) ≡ true → made + 1 ≤ 3 * w.layout.config.tries + 15 → turned (x index) (u index) + 1 ≤ 3 * w.layout.config.tries + 15
    by h k = grind (arith, nat_tests)

-- the law at a turn
abbrev pub bound : (tries index : ℕ) → ℕ
bound tries j = if j == 1 then 3 * tries + 16 else 3 * tries + 14

abbrev pub ways : (times owed last index : ℕ) → Bool
ways times owed last j = nat_lt 0 times || (nat_lt 0 owed && last == j)

no_way : (times owed last j : ℕ) → (times == 0) ≡ true → owed ≡ 0 → ways times owed last j ≡ true → ⊥
no_way times owed last j h k w = grind (arith, nat_tests)

small_bound : (tries j n : ℕ) → n ≤ 3 * tries + 14 → n ≤ bound tries j
small_bound tries j n h = by (j == 1)
  where
    by : (one : Bool) → n ≤ (if one then 3 * tries + 16 else 3 * tries + 14)
    by true = omega (h, arith)
    by false = h

one_bound : (tries j n : ℕ) → (j == 1) ≡ true → n ≤ 3 * tries + 16 → n ≤ bound tries j
one_bound tries j n e h = rw e h

why_base : (c : Config) (u : ℕ) (why : Why) (base : Base) (j times last : ℕ) → protects (kind_of why) ≡ true → why_tried c u why base j times last ≡ base_tried c base j times last
why_base c u (ClearsNext next) base j times last h = absurd (cc)
why_base c u why base j times last h = refl

follow_base : (c : Config) (u : ℕ) (why : Why) (base : Base) (j times last : ℕ) → reloads (kind_of why) ≡ true → why_tried c u why base j times last ≡ base_tried c base j times last
follow_base c u (ClearsNext next) base j times last h = absurd (cc)
follow_base c u why base j times last h = refl

due_told : (index : ℕ) (root : Root) (at : ProtectAt) (last : ℕ) → at_last index root at last ≡ true → nat_lt 0 (due.at_due root at) ≡ true → (last == index) ≡ true
due_told index root (WithdrawRequest link era) last h k = by (tells_link root link) h k
  where
    by : (tells : Bool) → (not tells || last == index) ≡ true → nat_lt 0 (if tells then 2 else 0) ≡ true → (last == index) ≡ true
    by true h k = h
    by false h k = absurd (cc)
due_told index root (WithdrawHelper link era) last h k = by (tells_link root link) h k
  where
    by : (tells : Bool) → (not tells || last == index) ≡ true → nat_lt 0 (if tells then 1 else 0) ≡ true → (last == index) ≡ true
    by true h k = h
    by false h k = absurd (cc)
due_told index root at last h k = absurd (cc)

other_way : (index j times owed last : ℕ) → (index == j) ≡ false → (times == 0) ≡ true → (nat_lt 0 owed ≡ true → (last == index) ≡ true) → ways times owed last j ≡ true → ⊥
other_way index j times owed last o z f w =
    let t : (nat_lt 0 owed && last == j) ≡ true = grind (arith, nat_tests) in
    let l : (last == index) ≡ true = f (first_of (nat_lt 0 owed) (last == j) t) in
    let r : (last == j) ≡ true = rest_of (nat_lt 0 owed) (last == j) t in
    no_truth (grind (arith, nat_tests))
  where
    no_truth : false ≡ true → ⊥
    no_truth h = cc

-- the seat's own counts, the turn that comes included
abbrev pub InBound : (w : World) (i j : ℕ) (x u : ℕ → ℕ) → Type 0
InBound w i j x u = turned (x j) (u j) + 1 ≤ bound w.layout.config.tries j

same_index : (w : World) (i index j : ℕ) (x u : ℕ → ℕ) → (index == j) ≡ true → turned (x index) (u index) + 1 ≤ 3 * w.layout.config.tries + 14 → InBound w i j x u
same_index w i index j x u e h = small_bound w.layout.config.tries j (turned (x j) (u j) + 1) (let q : index ≡ j = grind (arith, nat_tests) in subst (λ (n : ℕ). turned (x n) (u n) + 1 ≤ 3 * w.layout.config.tries + 14) q h)

other_due : (base : Base) → is_other base ≡ true → due.base_due base ≡ 0
other_due (Protect aim index root steps at) h = absurd (cc)
other_due base h = refl

other_right : (c : Config) (u : ℕ) (why : Why) (base : Base) (j times last : ℕ) → is_other base ≡ true → why_tried c u why base j times last ≡ true → (times == 0 || (j == 1 && nat_le (u + 1) (3 * c.tries + 15))) ≡ true
other_right c u (ClearsNext next) base j times last b h = h
other_right c u why base j times last b h = or_left_true (times == 0) _ (sym (other_tried c base j times last b) ∙ h)

moved_way : (tries j times owed last u n : ℕ) → owed ≡ 0 → (times == 0 || (j == 1 && nat_le (u + 1) (3 * tries + 15))) ≡ true → n ≤ u + 1 → ways times owed last j ≡ true → n + 1 ≤ bound tries j
moved_way tries j times owed last u n z h k w = one_bound tries j (n + 1) (grind (arith, nat_tests)) (grind (arith, nat_tests))

zero_way : (times owed last j : ℕ) (b : Bool) → owed ≡ 0 → (times == 0 || b) ≡ true → ways times owed last j ≡ true → b ≡ true
zero_way times owed last j b z h w = grind (arith, nat_tests)

run_turns : (w : World) (i j : ℕ) (x u : ℕ → ℕ) (times owed last : ℕ) (why : Why) (base : Base) → Inv w → is_wfe w.layout.config.scheme ≡ true → is_ibr w.layout.config.scheme ≡ false → (w.seat i).phase ≡ Runs why base → base_own x u (w.seat i).post base ≡ true
    → Run w.layout why base (w.seat i).post → why_tried w.layout.config (u j) why base j times last ≡ true → owed ≡ due.base_due base → ways times owed last j ≡ true → InBound w i j x u
run_turns w i j x u times owed last why (Protect aim index root made at) a f n e o r t d y = by (index == j) refl
  where
    right : base_tried w.layout.config (Protect aim index root made at) j times last ≡ true
    right = sym (why_base w.layout.config (u j) why (Protect aim index root made at) j times last r.suited) ∙ t

    by : (own : Bool) → (index == j) ≡ own → InBound w i j x u
    by true q = same_index w i index j x u q (protect_turns w i x u why aim index root made at a f n e o)
    by false q =
        let l : at_last index root at last ≡ true = first_of (at_last index root at last) _ right in
        let z : (times == 0) ≡ true = other_of (index == j) (at_tried w.layout.config root at times) (times == 0) q (rest_of (at_last index root at last) _ right) in
        absurd (other_way index j times owed last q z (λ k. due_told index root at last l (subst (λ (m : ℕ). nat_lt 0 m ≡ true) d k)) y)
run_turns w i j x u times owed last why (Reload parent index slot era made) a f n e o r t d y =
    let h : (times == 0 || j == 1) ≡ true = sym (follow_base w.layout.config (u j) why (Reload parent index slot era made) j times last r.suited) ∙ t in
    let one : (j == 1) ≡ true = zero_way times owed last j (j == 1) d h y in
    let b = reload_turns w i x u why parent index slot era made a f e o in
    let s = r.shape in
    let q : index ≡ 1 = s.at ∙ reload_one why r.suited in
    let same : index ≡ j = grind (arith, nat_tests) in
    one_bound w.layout.config.tries j (turned (x j) (u j) + 1) one (omega (arith, subst (λ (m : ℕ). turned (x m) (u m) + 1 ≤ 3 * w.layout.config.tries + 15) same b))
run_turns w i j x u times owed last why base a f n e o r t d y =
    moved_way w.layout.config.tries j times owed last (u j) (turned (x j) (u j)) (d ∙ other_due base refl) (other_right w.layout.config (u j) why base j times last refl t) (turned_small (x j) (u j)) y

pub phase_turns : (w : World) (i j : ℕ) (x u : ℕ → ℕ) (times owed last : ℕ) (phase : Phase) → Inv w → is_wfe w.layout.config.scheme ≡ true → is_ibr w.layout.config.scheme ≡ false → (w.seat i).phase ≡ phase → own x u (w.seat i).post phase ≡ true
    → phase_tried w.layout.config (u j) phase j times last ≡ true → owed ≡ due.phase_due phase → ways times owed last j ≡ true → InBound w i j x u
phase_turns w i j x u times owed last Idle a f n e o t d y = absurd (no_way times owed last j t d y)
phase_turns w i j x u times owed last (Runs why base) a f n e o t d y =
    let k = a.known in run_turns w i j x u times owed last why base a f n e o (subst (PhaseFits w.layout (w.seat i).post) e (k.seats.fits i).phase) t d y
phase_turns w i j x u times owed last (Scans later at) a f n e o t d y = absurd (no_way times owed last j t d y)
phase_turns w i j x u times owed last (Works work) a f n e o t d y = absurd (no_way times owed last j t d y)

goes_right : (c : Config) (u : ℕ) (why : Why) (base : Base) (j times last : ℕ) → suits base (kind_of why) ≡ true → base_tried c base j times last ≡ true → why_tried c u why base j times last ≡ true
goes_right c u (ClearsNext next) base j times last s h = or_left_true (times == 0) _ (sym (other_tried c base j times last (clear_other base s)) ∙ h)
  where
    clear_other : (base : Base) → suits base Kind.ToClear ≡ true → is_other base ≡ true
    clear_other (Protect aim index root steps at) h = absurd (cc)
    clear_other (Reload parent index slot era steps) h = absurd (cc)
    clear_other base h = refl
goes_right c u why base j times last s h = h

-- nothing is under way at a new phase
no_moved : (times : ℕ) → (times == 0 || false) ≡ true → times ≡ 0
no_moved times h = grind (arith, nat_tests)

new_protect : (c : Config) (index : ℕ) (root : Root) (at : ProtectAt) (steps j last : ℕ) → (protects_at at && steps == 0) ≡ true → (at_last index root at last && (if index == j then at_tried c root at 0 else true)) ≡ true
new_protect c index root (LoadClock tries) steps j last h = by (index == j)
  where
    by : (own : Bool) → (if own then tries_none tries else true) ≡ true
    by true = first_of (tries_none tries) (steps == 0) h
    by false = refl
new_protect c index root LoadWithin steps j last h = by (index == j)
  where
    by : (own : Bool) → (if own then true else true) ≡ true
    by true = refl
    by false = refl
new_protect c index root (ByHazard FirstLink) steps j last h = by (index == j)
  where
    by : (own : Bool) → (if own then true else true) ≡ true
    by true = refl
    by false = refl
new_protect c index root at steps j last h = absurd (cc)

new_base : (c : Config) (base : Base) (j last : ℕ) → is_first base ≡ true → base_tried c base j 0 last ≡ true
new_base c (Protect aim index root steps at) j last h = new_protect c index root at steps j last h
new_base c (Reload parent index slot era steps) j last h = refl
new_base c base j last h = refl

pub new_why : (c : Config) (u : ℕ) (why : Why) (base : Base) (j last : ℕ) → is_first base ≡ true → why_tried c u why base j 0 last ≡ true
new_why c u (ClearsNext next) base j last h = refl
new_why c u why base j last h = new_base c base j last h

pub new_tried : (c : Config) (u : ℕ) (phase : Phase) (j times last : ℕ) → is_new phase ≡ true → times ≡ 0 → phase_tried c u phase j times last ≡ true
new_tried c u Idle j times last h z = zero_test times z
new_tried c u (Runs why base) j times last h z = rw z (new_why c u why base j last h)
new_tried c u (Scans later at) j times last h z = zero_test times z
new_tried c u (Works work) j times last h z = zero_test times z

-- the head has moved
moved_tried : (c : Config) (u : ℕ) (why : Why) (seen : ℕ) (next : Phase) (j times last : ℕ) → (times == 0 || (is_follow why && j == 1)) ≡ true → (is_new next ≡ true) × Moved false why (Followed (follow_ends.RootMoved seen)) next → (is_follow why ≡ true → j ≡ 1 → u + 1 ≤ 3 * c.tries + 15) → phase_tried c u next j times last ≡ true
moved_tried c u (FollowsHead head tail) seen next j times last h l b =
    let m = l.1 refl in
    let q : next ≡ Runs (ClearsNext Again) (Clear m.0 1) = m.1 in
    subst (λ (phase : Phase). phase_tried c u phase j times last ≡ true) (sym q) (by (times == 0) h)
  where
    by : (none : Bool) → (none || j == 1) ≡ true → (none || (j == 1 && nat_le (u + 1) (3 * c.tries + 15))) ≡ true
    by true h = refl
    by false h = let one : j ≡ 1 = grind (arith, nat_tests) in let m = b refl one in both (j == 1) (nat_le (u + 1) (3 * c.tries + 15)) h (grind (arith, nat_tests))
moved_tried c u why seen next j times last h l b = new_tried c u next j times last l.0 (no_moved times h)

follow_tried : (c : Config) (u : ℕ) (why : Why) (end : FollowEnd) (next : Phase) (j times last : ℕ) → Out (is_follow why) c j times last (Ends (Followed end)) → (is_new next ≡ true) × Moved false why (Followed end) next → (is_follow why ≡ true → j ≡ 1 → u + 1 ≤ 3 * c.tries + 15) → phase_tried c u next j times last ≡ true
follow_tried c u why (follow_ends.RootMoved seen) next j times last o l b = moved_tried c u why seen next j times last o l b
follow_tried c u why (follow_ends.Followed slot) next j times last o l b = new_tried c u next j times last l.0 o
follow_tried c u why follow_ends.NoNext next j times last o l b = new_tried c u next j times last l.0 o

end_tried : (c : Config) (u : ℕ) (why : Why) (ending : Ending) (next : Phase) (j times last : ℕ) → Out (is_follow why) c j times last (Ends ending) → (is_new next ≡ true) × Moved false why ending next → (is_follow why ≡ true → j ≡ 1 → u + 1 ≤ 3 * c.tries + 15) → phase_tried c u next j times last ≡ true
end_tried c u why (Followed end) next j times last o l b = follow_tried c u why end next j times last o l b
end_tried c u why Done next j times last o l b = new_tried c u next j times last l.0 o
end_tried c u why (Protected end) next j times last o l b = new_tried c u next j times last l.0 o
end_tried c u why (Allocated end) next j times last o l b = new_tried c u next j times last l.0 o
end_tried c u why (Retired life) next j times last o l b = new_tried c u next j times last l.0 o
end_tried c u why (Clocked clock) next j times last o l b = new_tried c u next j times last l.0 o

pub out_tried : (c : Config) (layout : Layout) (u : ℕ) (why : Why) (post : Post) (outcome : Outcome) (next : Phase) (j times last : ℕ) → Out (is_follow why) c j times last outcome → Leads false why outcome next → Passed (PhaseFits layout) why post outcome → (is_follow why ≡ true → j ≡ 1 → u + 1 ≤ 3 * c.tries + 15) → phase_tried c u next j times last ≡ true
out_tried c layout u why post (Goes base) next j times last o l p b = subst (λ (phase : Phase). phase_tried c u phase j times last ≡ true) (sym l) (goes_right c u why base j times last p.suited o)
out_tried c layout u why post (Ends ending) next j times last o l p b = end_tried c u why ending next j times last o l b
