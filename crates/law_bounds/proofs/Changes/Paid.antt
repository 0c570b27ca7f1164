-- What a call has paid: its steps, and those that are left where no more rounds are lost than the changes leave, are no more than they may
-- be.
use Rattle.std.proofs.Common.{ℕ, ◌≡◌, ◌≤◌, ◌<◌, ◌+◌, ◌-◌, ◌*◌, ◌%◌, Bool, true, false, List, length, Option, Some, None, refl, sym, ap, subst, arith, mul-le-mul_right}
use Rattle.std.proofs.lemmas.Bool.Decides.{nat_tests}
use Rattle.std.specs.Prelude.{◌==◌, is_some, if◌then◌else◌}
use Rattle.law_held.specs.inv.Tallies.{Tally, once}
use Rattle.law_held.specs.inv.model.Calls.{AfterScan, Answered, Repeated, Counted, Why, Opens, FollowsHead, Fills, ClearsNext, Clears, Finishes, GivesUp, Retires, Tidies, Advances, Releases, LetGo, Released, Rehold, Dropped, Parting, KeepAt, Loosens, LoadHeld, StoreHeld, Looks, Misses, HideSpan, MarkLeft, TakeList, MarkTaken, Task, Gets, Changes, Holds, Enqueues, Dequeues, Work, Getting, Changing, Enqueuing, Dequeuing, Keeping, Phase, Idle, Runs, Scans, Works}
use Rattle.law_held.specs.inv.model.Locals.{Local}
use Rattle.law_held.specs.inv.model.Phases.{Aim, Alone, Follows, Base, ProtectAt}
use Rattle.law_held.specs.inv.model.Phases.Base.{Begin, Protect}
use Rattle.law_held.specs.inv.model.Phases.BeginAt.{LoadLower, PublishSpan}
use Rattle.law_held.specs.inv.model.Phases.ProtectAt.{PublishEra, LoadLink, CheckClock, LoadWithin, CheckUpper, RaiseUpper}
use Rattle.law_held.specs.inv.model.Posts.{upper}
use Rattle.law_held.specs.inv.model.Rest.{aim_left, base_left, base_seen, ending_most, eras_left, has_walked, open_left, phase_left, phase_seen, protect_seen, rest_of, round_left, round_worth, rounds_left, rounds_most, span_seen, task_left, walks_by}
use Rattle.law_held.specs.inv.model.Rounds.{begin_base, begin_span, begin_where, key_of, protect_at, round, round_by, scheme_of, taken_of}
use Rattle.law_held.specs.inv.model.defs.declared.call.Call.{Call}
use Rattle.law_held.specs.inv.model.defs.declared.call.Call.TheVariants as calls
use Rattle.law_held.specs.inv.model.defs.declared.fold.Change.{Change}
use Rattle.law_held.specs.inv.model.defs.declared.fold.Change.TheVariants as changes
use Rattle.law_held.specs.inv.model.defs.declared.lifetime.Interval.{Interval}
use Rattle.law_held.specs.inv.model.defs.declared.lifetime.Lifetime.{Lifetime}
use Rattle.law_held.specs.inv.model.declared.post.Post.{Post}
use Rattle.law_held.specs.inv.model.defs.declared.event.Root.{Root}
use Rattle.law_held.specs.inv.model.words.Schemes.{has_one_interval}
use Rattle.law_held.specs.inv.model.words.declared.config.Config.{Config}
use Rattle.law_held.specs.inv.model.words.declared.config.SchemeKind.{SchemeKind}
use Rattle.law_held.specs.inv.model.words.declared.config.SchemeKind.TheVariants.{He, Hp, Ibr, Wfe}
use Rattle.law_held.specs.inv.model.words.declared.layout.Layout.{Layout}
use Rattle.law_held.specs.inv.shapes.Eras.{PhaseEras, base_eras, protect_eras}
use Rattle.law_held.proofs.inv.ends.Rest.Closings.{round_begins}
use Rattle.law_held.proofs.inv.ends.Rest.Seen.{protect_same}
use Rattle.law_reasons.proofs.Repeats.Shift.{more_rounds}
use Rattle.law_held.proofs.inv.ends.Rest.Amounts.{opens_worth}
use Rattle.law_reasons.proofs.Repeats.Records.{is_counted}
use Rattle.law_reuse.proofs.AnswersTold.Owed.{ChangeServes, FreeServes, KeepServes, LaterServes, MissServes, Serves, TaskServes, WhyServes, WorkServes}
use Rattle.law_bounds.specs.Changes.{once_most, round_most}
use Rattle.law_bounds.proofs.Changes.Fits.{Known, counted_more, later_known, phase_known, why_known, work_known}
use Rattle.law_bounds.proofs.Changes.Worth.{is_last, last_left, phase_worth}

-- how many rounds the task of a call may lose at most
abbrev pub most_rounds : Config → Call → ℕ
most_rounds c (calls.Put key value) = c.last_version + 1
most_rounds c (calls.Remove key) = c.last_version + 1
most_rounds c (calls.PutIf key value version) = c.last_version + 1
most_rounds c (calls.Enqueue value) = 2 * c.last_version + 1
most_rounds c calls.Dequeue = 2 * c.last_version + 1
most_rounds c call = 0

-- what is counted for a call, by the World
abbrev pub world_moves : Tally → Call → ℕ
world_moves t (calls.Put key value) = t.count (key % t.buckets)
world_moves t (calls.Remove key) = t.count (key % t.buckets)
world_moves t (calls.PutIf key value version) = t.count (key % t.buckets)
world_moves t (calls.Enqueue value) = t.passes
world_moves t calls.Dequeue = t.takes
world_moves t call = 0

-- so many rounds are counted more, where so many changes were counted before the call and by now
abbrev pub spare_of : (most before now : ℕ) → ℕ
spare_of most before now = most + before - (now + 1)

-- a task of such a call
pub change_moves : (t : Tally) (call : Call) (change : Change) (wanted : Option ℕ) → ChangeServes call change wanted → world_moves t call ≡ t.count (key_of change % t.buckets)
change_moves t call (changes.Put key value) None s = ap (world_moves t) s.is
change_moves t call (changes.Put key value) (Some version) s = ap (world_moves t) s.is
change_moves t call (changes.Removed key) None s = ap (world_moves t) s.is
change_moves t call (changes.Removed key) (Some version) s = let m = s.may in absurd (cc)

change_rounds : (c : Config) (call : Call) (change : Change) (wanted : Option ℕ) → ChangeServes call change wanted → most_rounds c call ≡ c.last_version + 1
change_rounds c call (changes.Put key value) None s = ap (most_rounds c) s.is
change_rounds c call (changes.Put key value) (Some version) s = ap (most_rounds c) s.is
change_rounds c call (changes.Removed key) None s = ap (most_rounds c) s.is
change_rounds c call (changes.Removed key) (Some version) s = let m = s.may in absurd (cc)

walked_one : (walked : Bool) → once walked ≤ 1
walked_one true = omega arith
walked_one false = omega arith

not_counted : (call other : Call) → is_counted call ≡ true → call ≡ other → is_counted other ≡ false → ⊥
not_counted call other h e f = let a : is_counted other ≡ true = subst (λ (x : Call). is_counted x ≡ true) e h in cc

pub known_task : (c : Config) (t : Tally) (call : Call) (task : Task) → is_counted call ≡ true → TaskServes call task → Known c t (most_rounds c call) (world_moves t call) task
known_task c t call (Gets key) h s = absurd (not_counted call (calls.Get key) h s refl)
known_task c t call (Changes kept) h s =
    let a = change_moves t call kept.change kept.wanted s in
    let b = walked_one kept.walked in
    record { most_is = sym (change_rounds c call kept.change kept.wanted s); now_is = omega (arith, a, b); not_got = λ key e. absurd (cc); not_held = λ key e. absurd (cc) }
known_task c t call (Holds key) h s = absurd (not_counted call (calls.Hold key) h s refl)
known_task c t call (Enqueues kept) h s =
    let a : world_moves t call ≡ t.passes = ap (world_moves t) s in
    let b = walked_one kept.walked in
    record { most_is = sym (ap (most_rounds c) s); now_is = omega (arith, a, b); not_got = λ key e. absurd (cc); not_held = λ key e. absurd (cc) }
known_task c t call Dequeues h s =
    let a : world_moves t call ≡ t.takes = ap (world_moves t) s in
    record { most_is = sym (ap (most_rounds c) s); now_is = omega (arith, a); not_got = λ key e. absurd (cc); not_held = λ key e. absurd (cc) }

not_freed : (call : Call) (let_go : LetGo) → is_counted call ≡ true → FreeServes call let_go → ⊥
not_freed call Released h s = not_counted call calls.Release h s refl
not_freed call (Rehold key) h s = not_counted call (calls.Hold key) h s refl
not_freed call (Dropped index) h s = not_counted call (calls.DropIndex index) h s refl
not_freed call (Parting index) h s = not_counted call calls.Leave h s refl

not_missed : (call : Call) (index : ℕ) → is_counted call ≡ true → MissServes call index → ⊥
not_missed (calls.Copy from other) index h s = absurd (cc)
not_missed (calls.Look own key) index h s = absurd (cc)
not_missed call index h s = s

not_kept : (call : Call) (at : KeepAt) → is_counted call ≡ true → KeepServes call at → ⊥
not_kept call (Loosens let_go) h s = not_freed call let_go h s
not_kept call (LoadHeld from index) h s = not_counted call (calls.Copy from index) h s refl
not_kept call (StoreHeld from index era) h s = not_counted call (calls.Copy from index) h s refl
not_kept call (Looks index key at) h s = not_counted call (calls.Look index key) h s refl
not_kept call (Misses index) h s = not_missed call index h s
not_kept call HideSpan h s = not_counted call calls.Leave h s refl
not_kept call MarkLeft h s = not_counted call calls.Leave h s refl
not_kept call (TakeList place) h s = not_counted call (calls.Adopt place) h s refl
not_kept call (MarkTaken place count) h s = not_counted call (calls.Adopt place) h s refl

later_is : (P : Task → Type 0) (call : Call) → ((task : Task) → TaskServes call task → P task) → (later : AfterScan) → LaterServes call later → later_known P later
later_is P call f (Answered answer) s = tt
later_is P call f (Repeated task) s = f task s
later_is P call f Counted s = tt

why_is : (P : Task → Type 0) (call : Call) → is_counted call ≡ true → ((task : Task) → TaskServes call task → P task) → (why : Why) → WhyServes call why → why_known P why
why_is P call h f (Opens task) s = f task s
why_is P call h f (FollowsHead head tail) s = f Dequeues s
why_is P call h f (Fills task) s = f task s
why_is P call h f (ClearsNext next) s = f Dequeues s.0
why_is P call h f (Clears task next) s = f task s.0
why_is P call h f (Finishes task next) s = f task s.0
why_is P call h f (GivesUp answer) s = tt
why_is P call h f (Retires answer) s = tt
why_is P call h f (Tidies later) s = later_is P call f later s
why_is P call h f Advances s = tt
why_is P call h f (Releases let_go) s = not_freed call let_go h s

work_is : (P : Task → Type 0) (call : Call) → is_counted call ≡ true → ((task : Task) → TaskServes call task → P task) → (work : Work) → WorkServes call work → work_known P work
work_is P call h f (Getting key at) s = f (Gets key) s
work_is P call h f (Changing kept at) s = f (Changes kept) s
work_is P call h f (Enqueuing kept at) s = f (Enqueues kept) s
work_is P call h f (Dequeuing at) s = f Dequeues s
work_is P call h f (Keeping at) s = not_kept call at h s

pub serves_each : (P : Task → Type 0) (call : Call) → is_counted call ≡ true → ((task : Task) → TaskServes call task → P task) → (phase : Phase) → Serves call phase → phase_known P phase
serves_each P call h f Idle s = tt
serves_each P call h f (Runs why base) s = why_is P call h f why s
serves_each P call h f (Scans later at) s = later_is P call f later s
serves_each P call h f (Works work) s = work_is P call h f work s

-- so of each phase of such a call
pub serves_known : (c : Config) (t : Tally) (call : Call) (phase : Phase) → is_counted call ≡ true → Serves call phase → phase_known (Known c t (most_rounds c call) (world_moves t call)) phase
serves_known c t call phase h s = serves_each (Known c t (most_rounds c call) (world_moves t call)) call h (λ task. known_task c t call task h) phase s

-- where more was changed fewer rounds are counted more, each worth a round
pub spare_falls : (c : Config) (rounds most before now next : ℕ) (lives : List Lifetime) (old phase : Phase) → now ≤ next
    → phase_left c (rounds + counted_more phase (spare_of most before next)) lives phase ≤ phase_left c (rounds + counted_more old (spare_of most before now)) lives phase + (next - now) * round_worth c
spare_falls c rounds most before now next lives old phase h = by (is_last phase) (is_last old) refl
  where
    less : (most before now next : ℕ) → now ≤ next → spare_of most before now ≤ spare_of most before next + (next - now)
    less most before now next h = omega (arith, h)

    by : (last first : Bool) → is_last phase ≡ last
        → phase_left c (rounds + (if last then 0 else spare_of most before next)) lives phase ≤ phase_left c (rounds + (if first then 0 else spare_of most before now)) lives phase + (next - now) * round_worth c
    by true first e = let a = last_left c (rounds + 0) (rounds + (if first then 0 else spare_of most before now)) lives phase e in omega (arith, a)
    by false true e = phase_worth c (rounds + spare_of most before next) (rounds + 0) (next - now) lives phase (omega arith)
    by false false e = let a = less most before now next h in phase_worth c (rounds + spare_of most before next) (rounds + spare_of most before now) (next - now) lives phase (omega (arith, a))

-- The most that a call takes where so much was changed since it began, with the eras that it may still see from the one at which it began.
abbrev pub paid_most : Config → (changes first : ℕ) → ℕ
paid_most c changes first = round_worth c * (changes + 2) + once_most c + eras_left c first

pub most_grows : (c : Config) (changes more first : ℕ) → paid_most c (changes + more) first ≡ paid_most c changes first + more * round_worth c
most_grows c changes more first = let a = apart (round_worth c) changes more in omega (arith, a)
  where
    apart : (w a b : ℕ) → w * (a + b + 2) ≡ w * (a + 2) + b * w
    apart w a b = grind arith

-- what a round costs from its beginning
pub walks_few : (c : Config) (lives : ℕ) (walked : Bool) (taken : Option ℕ) → lives ≤ c.slots + 1 → walks_by c lives walked taken + ending_most c lives + round_most c ≤ once_most c
walks_few c lives walked (Some slot) h = omega (arith, h)
walks_few c lives true None h = omega (arith, h)
walks_few c lives false None h = omega (arith, h)

rounds_few : (most before now w : ℕ) → before ≤ now → (most + 1 - spare_of most before now) * w ≤ w * (now - before + 2)
rounds_few most before now w h =
    let m : (most + 1 - spare_of most before now) * w ≤ (now - before + 2) * w = mul-le-mul_right w (omega (arith, h)) in
    let e = swap (now - before + 2) w in
    omega (arith, m, e)
  where
    swap : (a w : ℕ) → a * w ≡ w * a
    swap a w = grind arith

pub first_few : (c : Config) (task : Task) (lives most before now : ℕ) → rounds_most c task ≡ most → before ≤ now → lives ≤ c.slots + 1 → open_left c task + task_left c lives task (spare_of most before now) + 3 ≤ round_worth c * (now - before + 2) + once_most c
first_few c task lives most before now e h l =
    let a = opens_worth c task in
    let b = walks_few c lives (has_walked task) (taken_of task) l in
    let r = rounds_few most before now (round_worth c) h in
    let d : rounds_left c task (spare_of most before now) ≡ (most + 1 - spare_of most before now) * round_worth c = ap (λ (n : ℕ). (n + 1 - spare_of most before now) * round_worth c) e in
    omega (arith, a, b, r, d)

-- A seat has paid: its steps, one more, and those that are left are no more than they may be.
abbrev pub PaidBy : Config → (most before now first clock : ℕ) → Local → Type 0
PaidBy c most before now first clock l = l.post.steps + 1 + rest_of c clock (more_rounds l (counted_more l.phase (spare_of most before now))) ≤ paid_most c (now - before) first

-- where neither its steps nor what is left rise, it has paid
pub paid_moves : (c : Config) (most before now next first clock later : ℕ) (old new : Local) → before ≤ now → now ≤ next
    → new.post.steps + rest_of c later (more_rounds new (counted_more old.phase (spare_of most before now))) ≤ old.post.steps + rest_of c clock (more_rounds old (counted_more old.phase (spare_of most before now)))
    → PaidBy c most before now first clock old → PaidBy c most before next first later new
paid_moves c most before now next first clock later old new b h s p =
    let a = spare_falls c new.rounds most before now next new.desk.list old.phase new.phase h in
    let g = most_grows c (now - before) (next - now) first in
    let e : paid_most c (now - before + (next - now)) first ≡ paid_most c (next - before) first = ap (λ (n : ℕ). paid_most c n first) (parts before now next b h) in
    omega (arith, a, g, e, s, p)
  where
    parts : (before now next : ℕ) → before ≤ now → now ≤ next → now - before + (next - now) ≡ next - before
    parts before now next b h = omega (arith, b, h)

-- Under 2GE an interval that stood before the call may end long before the clock at which it began: then the call's second step raises it.
abbrev pub is_early : Phase → (steps : ℕ) → Bool
is_early (Runs (Opens task) (Protect aim index root made LoadWithin)) steps = steps == 0
is_early (Runs (Opens task) (Protect aim index root made (CheckUpper link))) steps = steps == 1
is_early phase steps = false

pub record EarlyBy (first : ℕ) (l : Local) : Type 0 where
  pub early : is_early l.phase l.post.steps ≡ true
  pub none : l.rounds ≡ 0
  pub stands : is_some l.post.span ≡ true
  pub stale : upper l.post.span < first

pub early_few : (phase : Phase) (steps : ℕ) → is_early phase steps ≡ true → steps ≤ 1
early_few (Runs (Opens task) (Protect aim index root made LoadWithin)) steps h = grind (arith, nat_tests)
early_few (Runs (Opens task) (Protect aim index root made (CheckUpper link))) steps h = grind (arith, nat_tests)
early_few phase steps h = absurd (cc)

none_more : (c : Config) (task : Task) (lives n : ℕ) → task_left c lives task (0 + n) ≡ task_left c lives task n
none_more c task lives n = ap (λ (x : ℕ). task_left c lives task x) (omega arith)

-- once it is raised
aim_few : (aim : Aim) → aim_left aim ≤ 1
aim_few Alone = omega arith
aim_few Follows = omega arith

pub raised_paid : (c : Config) (task : Task) (aim : Aim) (index : ℕ) (root : Root) (made era lives most before now first : ℕ) → rounds_most c task ≡ most → before ≤ now → lives ≤ c.slots + 1 → first ≤ era
    → 3 + (base_left c (Protect aim index root made (RaiseUpper era)) + round_left c task + task_left c lives task (0 + spare_of most before now)) + eras_left c era ≤ paid_most c (now - before) first
raised_paid c task aim index root made era lives most before now first e h l f =
    let a = first_few c task lives most before now e h l in
    let b = aim_few aim in
    let z = none_more c task lives (spare_of most before now) in
    omega (arith, a, b, f, z)

-- where a call begins
round_last : (task : Task) (post : Post) → is_last (round task post) ≡ false
round_last task post = by (begin_base (scheme_of post) post)
  where
    by : (some : Option Base) → is_last (round_by task post some) ≡ false
    by None = refl
    by (Some base) = refl

begin_seen : (span : Option Interval) (base : Base) (seen : ℕ) → begin_span span ≡ Some base → base_seen base seen ≡ seen
begin_seen None base seen e = rw (sym (is e)) refl
  where
    is : {a : Base} → Some (Begin LoadLower) ≡ Some a → Begin LoadLower ≡ a
    is e = cc
begin_seen (Some span) base seen e = absurd (cc)

where_seen : (one : Bool) (post : Post) (base : Base) (seen : ℕ) → begin_where one post ≡ Some base → base_seen base seen ≡ seen
where_seen true post base seen e = begin_seen post.span base seen e
where_seen false post base seen e = absurd (cc)

round_seen : (task : Task) (post : Post) (seen : ℕ) → phase_seen (round task post) seen ≡ seen
round_seen task post seen = by (begin_base (scheme_of post) post) refl
  where
    by : (some : Option Base) → begin_base (scheme_of post) post ≡ some → phase_seen (round_by task post some) seen ≡ seen
    by None e = protect_same (scheme_of post) seen
    by (Some base) e = where_seen (has_one_interval (scheme_of post)) post base seen e

pub round_paid : (c : Config) (task : Task) (post : Post) (lives : List Lifetime) (most before now first clock : ℕ) → rounds_most c task ≡ most → before ≤ now → length lives ≤ c.slots + 1 → first ≤ span_seen clock post.span
    → 1 + (phase_left c (0 + counted_more (round task post) (spare_of most before now)) lives (round task post) + eras_left c (phase_seen (round task post) (span_seen clock post.span))) ≤ paid_most c (now - before) first
round_paid c task post lives most before now first clock e h l f =
    let n : ℕ = spare_of most before now in
    let z : counted_more (round task post) n ≡ n = rw (round_last task post) refl in
    let a = first_few c task (length lives) most before now e h l in
    let b = round_begins c (0 + n) lives task post in
    let d : phase_left c (0 + counted_more (round task post) n) lives (round task post) ≡ phase_left c (0 + n) lives (round task post) = ap (λ (x : ℕ). phase_left c (0 + x) lives (round task post)) z in
    let s = round_seen task post (span_seen clock post.span) in
    let u : eras_left c (phase_seen (round task post) (span_seen clock post.span)) ≡ eras_left c (span_seen clock post.span) = ap (eras_left c) s in
    let q = none_more c task (length lives) n in
    omega (arith, a, b, d, u, f, q)

-- under 2GE, where an interval stands
within_first : (scheme : SchemeKind) → has_one_interval scheme ≡ true → protect_at scheme ≡ LoadWithin
within_first He h = absurd (cc)
within_first Ibr h = refl
within_first Wfe h = absurd (cc)
within_first Hp h = absurd (cc)

stands_first : (one : Bool) (post : Post) → is_some post.span ≡ true → begin_where one post ≡ None
stands_first false post h = refl
stands_first true post h = by post.span h
  where
    by : (span : Option Interval) → is_some span ≡ true → begin_span span ≡ None
    by None h = absurd (cc)
    by (Some span) h = refl

pub round_early : (task : Task) (post : Post) → has_one_interval (scheme_of post) ≡ true → is_some post.span ≡ true → is_early (round task post) 0 ≡ true
round_early task post i s = rw (stands_first (has_one_interval (scheme_of post)) post s, within_first (scheme_of post) i) refl

-- no seat has seen an era that is after the clock
protect_low : (clock : ℕ) (post : Post) (at : ProtectAt) (seen : ℕ) → protect_eras clock post at → seen ≤ clock → protect_seen at seen ≤ clock
protect_low clock post (PublishEra era tries) seen h s = h.most
protect_low clock post (LoadLink era tries) seen h s = h.most
protect_low clock post (CheckClock era tries link) seen h s = h.most
protect_low clock post (RaiseUpper era) seen h s = h.most
protect_low clock post at seen h s = s

base_low : (layout : Layout) (clock : ℕ) (post : Post) (base : Base) (seen : ℕ) → base_eras layout clock post base → seen ≤ clock → base_seen base seen ≤ clock
base_low layout clock post (Begin LoadLower) seen h s = s
base_low layout clock post (Begin (PublishSpan era)) seen h s = h.most
base_low layout clock post (Protect aim index root made at) seen h s = protect_low clock post at seen h s
base_low layout clock post base seen h s = s

pub phase_low : (layout : Layout) (clock : ℕ) (post : Post) (phase : Phase) (seen : ℕ) → PhaseEras layout clock post phase → seen ≤ clock → phase_seen phase seen ≤ clock
phase_low layout clock post Idle seen h s = s
phase_low layout clock post (Runs why base) seen h s = base_low layout clock post base seen h s
phase_low layout clock post (Scans later at) seen h s = s
phase_low layout clock post (Works work) seen h s = s
