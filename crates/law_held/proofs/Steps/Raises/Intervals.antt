-- Each step of a machine of 2GE keeps how often the interval was raised.
use Rattle.std.proofs.Common.{ℕ, ◌≡◌, ◌<◌, ◌-◌, ◌+◌, ◌^◌, Bool, true, false, List, [], ◌∷◌, ◌++◌, Option, Some, None, refl, sym, ap, ◌∙◌, subst, arith}
use Rattle.std.proofs.lemmas.Bool.Decides.{nat_tests}
use Rattle.std.specs.Prelude.{◌==◌, ◌&&◌, ◌||◌, ◌*◌, not, nat_le, is_some, if◌then◌else◌}
use Rattle.law_scans.specs.inv.model.words.declared.config.SchemeKind.{SchemeKind}
use Rattle.law_scans.specs.inv.model.words.declared.config.SchemeKind.TheVariants.{Ibr}
use Rattle.law_scans.specs.inv.model.words.declared.layout.Layout.{Layout}
use Rattle.law_scans.specs.inv.model.defs.declared.event.Event.{Event}
use Rattle.law_scans.specs.inv.model.defs.declared.event.Event.TheVariants as events
use Rattle.law_scans.specs.inv.model.defs.declared.event.Guard.TheVariants.{Whole}
use Rattle.law_scans.specs.inv.model.defs.declared.event.Root.{Root}
use Rattle.law_scans.specs.inv.model.defs.declared.event.Root.TheVariants as roots
use Rattle.law_scans.specs.inv.model.defs.declared.lifetime.Interval.{Interval}
use Rattle.law_scans.specs.inv.model.declared.ends.FollowEnd.TheVariants as follow_ends
use Rattle.law_scans.specs.inv.model.declared.post.Post.{Post}
use Rattle.law_scans.specs.inv.model.Guards.{from_to}
use Rattle.law_scans.specs.inv.model.Links.{parent_of}
use Rattle.law_scans.specs.inv.model.Machine as machine
use Rattle.law_scans.specs.inv.model.Memory.{bump}
use Rattle.law_scans.specs.inv.model.Posts.{stands, cleared, upper, lower, withdrawn, with_span, reserves_span}
use Rattle.law_scans.proofs.Turns.Counting.Runs.{bump_low, calm_kind, is_calm, calm_of}
use Rattle.law_scans.specs.inv.model.Protect as protects
use Rattle.law_scans.specs.inv.model.Rounds.{scheme_of}
use Rattle.law_scans.specs.inv.model.Phases.{Aim, Alone, Follows, Tries, BeginAt, ProtectAt, Base, Turn, Ending, Outcome, Goes, Ends, goes, ends}
use Rattle.law_scans.specs.inv.model.Phases.BeginAt.{LoadLower, PublishSpan}
use Rattle.law_scans.specs.inv.model.Phases.ProtectAt.{LoadClock, PublishEra, LoadLink, CheckClock, LoadWithin, CheckUpper, RaiseUpper}
use Rattle.law_scans.specs.inv.model.Phases.Base.{Begin, Protect, Reload, Clear, Finish, Release}
use Rattle.law_scans.specs.inv.model.Phases.Ending.{Done, Protected, Followed, Allocated, Retired, Clocked}
use Rattle.law_scans.specs.inv.model.Calls.{Task, Gets, Changes, Holds, Enqueues, Dequeues, Why, Opens, FollowsHead, Fills, ClearsNext, Clears, Finishes, GivesUp, Retires, Tidies, Advances, Releases}
use Rattle.law_scans.proofs.inv.model.Facts.{both, first_of, rest_of, and_true, zero_of_test, le_of_test, le_one_more, no_truth}
use Rattle.law_scans.specs.inv.model.words.Schemes.{has_one_interval, is_ibr, publishes_rows}
use Rattle.law_scans.specs.inv.shapes.Frame.{Moves, Passed}
use Rattle.law_scans.specs.inv.shapes.Seats.{PostFits, PhaseFits, Run, agree, protect_fits, kind_of, protects as protecting, index_by, root_by, aim_by}
use Rattle.law_scans.specs.laws.StateAt.{is_whole, spanned_by, raised_by}
use Rattle.law_scans.specs.laws.StepLaw.{number_raised}
use Rattle.law_held.proofs.Steps.Raises.Raising.{spanned_along, raised_along, counts_along, still_spans, still_raises, still_counts, at_raised, base_raised, Out, Made, made_if, calm_still, calm_span}
use Rattle.law_scans.proofs.Turns.TurnCounts.Tried.{is_follow, other_kind, is_other, calm_other, other_of_kind}
use Rattle.law_scans.proofs.Turns.Withdrawals.Withdrawing.{tells_link}
use Rattle.law_scans.proofs.Turns.TryCounts.{task_index}
use Rattle.law_scans.proofs.reuse.history.MayTell.{concluded_told}

-- what is known of a machine that makes a step; `count` are the steps of its call before it
pub record Stage (i : ℕ) (s : Bool) (r : ℕ) (layout : Layout) (why : Why) (base : Base) (post : Post) (found count : ℕ) : Type 0 where
  pub seat : post.seat ≡ i
  pub scheme : scheme_of post ≡ Ibr
  pub interval : layout.config.scheme ≡ Ibr
  pub run : Run layout why base post
  pub next : Moves (PostFits layout post.seat) (PhaseFits layout) why (machine.after base post found)
  pub call : post.steps ≡ count + 1
  pub low : count < 2 ^ 62
  pub spans : s ≡ is_some post.span
  pub right : base_raised base count r ≡ true

-- the phases of 2GE
abbrev is_within : ProtectAt → Bool
is_within LoadWithin = true
is_within (CheckUpper link) = true
is_within (RaiseUpper era) = true
is_within at = false

within_ibr : (most : ℕ) (at : ProtectAt) → protect_fits Ibr most at ≡ true → is_within at ≡ true
within_ibr most (LoadClock Tries.Endless) h = absurd (cc)
within_ibr most (PublishEra era Tries.Endless) h = absurd (cc)
within_ibr most (LoadLink era Tries.Endless) h = absurd (cc)
within_ibr most (CheckClock era Tries.Endless link) h = absurd (cc)
within_ibr most LoadWithin h = refl
within_ibr most (CheckUpper link) h = refl
within_ibr most (RaiseUpper era) h = refl
within_ibr most at h = absurd (cc)

-- what a link that was found tells
told_none : (i index : ℕ) (root : Root) (link n : ℕ) (s : Bool) (r : ℕ) → tells_link root link ≡ true → raised_along i (protects.told_held index root link n) s r ≡ 0
told_none i index (roots.Next parent) link n s r h = rw h refl
told_none i index (roots.Bucket bucket) link n s r h = by (link == 0)
  where
    by : (none : Bool) → raised_along i (if none then events.Null index n ∷ [] else events.Held index (link - 1) n ∷ []) s r ≡ 0
    by true = refl
    by false = refl
told_none i index roots.Head link n s r h = by (link == 0)
  where
    by : (none : Bool) → raised_along i (if none then events.Null index n ∷ [] else events.Held index (link - 1) n ∷ []) s r ≡ 0
    by true = refl
    by false = refl
told_none i index roots.Tail link n s r h = by (link == 0)
  where
    by : (none : Bool) → raised_along i (if none then events.Null index n ∷ [] else events.Held index (link - 1) n ∷ []) s r ≡ 0
    by true = refl
    by false = refl

told_span : (i index : ℕ) (root : Root) (link n : ℕ) (s : Bool) → spanned_along i (protects.told_held index root link n) s ≡ s
told_span i index (roots.Next parent) link n s = by (link == 0)
  where
    by : (none : Bool) → spanned_along i (if none then events.Null index n ∷ [] else []) s ≡ s
    by true = refl
    by false = refl
told_span i index (roots.Bucket bucket) link n s = by (link == 0)
  where
    by : (none : Bool) → spanned_along i (if none then events.Null index n ∷ [] else events.Held index (link - 1) n ∷ []) s ≡ s
    by true = refl
    by false = refl
told_span i index roots.Head link n s = by (link == 0)
  where
    by : (none : Bool) → spanned_along i (if none then events.Null index n ∷ [] else events.Held index (link - 1) n ∷ []) s ≡ s
    by true = refl
    by false = refl
told_span i index roots.Tail link n s = by (link == 0)
  where
    by : (none : Bool) → spanned_along i (if none then events.Null index n ∷ [] else events.Held index (link - 1) n ∷ []) s ≡ s
    by true = refl
    by false = refl

two_ways : (i index slot n : ℕ) (s : Bool) (r : ℕ) (none : Bool) → (index == 1) ≡ false → (n == 3 * r + 2) ≡ true → counts_along i (if none then events.Null index n ∷ [] else events.Held index slot n ∷ []) s r ≡ true
two_ways i index slot n s r true e h = and_true (n == 3 * r + 2) h
two_ways i index slot n s r false e h = and_true (number_raised (events.Held index slot n) r) (rw e h)

one_way : (i index n : ℕ) (s : Bool) (r : ℕ) (none : Bool) → (n == 3 * r + 2) ≡ true → counts_along i (if none then events.Null index n ∷ [] else []) s r ≡ true
one_way i index n s r true h = and_true (n == 3 * r + 2) h
one_way i index n s r false h = refl

held_counts : (i index : ℕ) (root : Root) (link n : ℕ) (s : Bool) (r : ℕ) → (index == 1) ≡ false → (n == 3 * r + 2) ≡ true → counts_along i (protects.told_held index root link n) s r ≡ true
held_counts i index (roots.Next parent) link n s r e h = one_way i index n s r (link == 0) h
held_counts i index (roots.Bucket bucket) link n s r e h = two_ways i index (link - 1) n s r (link == 0) e h
held_counts i index roots.Head link n s r e h = two_ways i index (link - 1) n s r (link == 0) e h
held_counts i index roots.Tail link n s r e h = two_ways i index (link - 1) n s r (link == 0) e h

found_counts : (i buckets : ℕ) (why : Why) (index : ℕ) (root : Root) (link n : ℕ) (s : Bool) (r : ℕ) → protecting (kind_of why) ≡ true → index ≡ index_by why → root ≡ root_by buckets why → (n == 3 * r + 2) ≡ true → counts_along i (protects.told_held index root link n) s r ≡ true
found_counts i buckets (Opens task) index root link n s r p a e h = held_counts i index root link n s r (rw a (task_index task)) h
found_counts i buckets (FollowsHead head tail) index root link n s r p a e h = rw e (one_way i index n s r (link == 0) h)
found_counts i buckets why index root link n s r p a e h = absurd (cc)

-- a protection is over
task_tells : (buckets : ℕ) (task : Task) (root : Root) (link : ℕ) → root ≡ root_by buckets (Opens task) → tells_link root link ≡ true
task_tells buckets (Gets key) root link r = rw r refl
task_tells buckets (Changes kept) root link r = rw r refl
task_tells buckets (Holds key) root link r = rw r refl
task_tells buckets (Enqueues kept) root link r = rw r refl
task_tells buckets Dequeues root link r = rw r refl

alone_out : (moved : Bool) (i most : ℕ) (index : ℕ) (root : Root) (n link era : ℕ) (post : Post) (s : Bool) (r : ℕ) → tells_link root link ≡ true → Out moved most (raised_along i (protects.told_held index root link n) s r) (protects.concluded Alone index root n link era post (protects.told_held index root link n)).outcome
alone_out moved i most index root n link era post s r t = by (link == 0)
  where
    by : (none : Bool) → raised_along i (protects.told_held index root link n) s r ≡ 0
    by none = told_none i index root link n s r t

follow_out : (moved : Bool) (i most : ℕ) (index head : ℕ) (n link era : ℕ) (post : Post) (s : Bool) (r : ℕ) (none : Bool) → (nat_le n most && n == 3 * r + 2) ≡ true
    → Out moved most (raised_along i (if none then events.Null index n ∷ [] else []) s r) (if none then ends post (if none then events.Null index n ∷ [] else []) (Followed follow_ends.NoNext) else goes post (if none then events.Null index n ∷ [] else []) (Reload (parent_of (roots.Next head)) index (link - 1) era n)).outcome
follow_out moved i most index head n link era post s r true h = refl
follow_out moved i most index head n link era post s r false h = h

held_span : (post : Post) (index : ℕ) (root : Root) (link : ℕ) → (protects.held_post post index root link).span ≡ post.span
held_span post index root link = grind arith

held_steps : (post : Post) (index : ℕ) (root : Root) (link : ℕ) → (protects.held_post post index root link).steps ≡ post.steps
held_steps post index root link = grind arith

concluded_post : (aim : Aim) (index : ℕ) (root : Root) (n link era : ℕ) (post : Post) (told : List Event) → (protects.concluded aim index root n link era post told).post ≡ post
concluded_post Alone index root n link era post told = refl
concluded_post Follows index root n link era post told = by (link == 0)
  where
    by : (none : Bool) → (if none then ends post told (Followed follow_ends.NoNext) else goes post told (Reload (parent_of root) index (link - 1) era n)).post ≡ post
    by true = refl
    by false = refl

concluded_out : (layout : Layout) (why : Why) (i most : ℕ) (aim : Aim) (index : ℕ) (root : Root) (n link era : ℕ) (post : Post) (s : Bool) (r : ℕ) → protecting (kind_of why) ≡ true → aim ≡ aim_by why → root ≡ root_by layout.config.buckets why → (nat_le n most && n == 3 * r + 2) ≡ true
    → Out (is_follow why) most (raised_along i (protects.told_held index root link n) s r) (protects.concluded aim index root n link era post (protects.told_held index root link n)).outcome
concluded_out layout (Opens task) i most Alone index root n link era post s r p a e h = alone_out false i most index root n link era post s r (task_tells layout.config.buckets task root link e)
concluded_out layout (Opens task) i most Follows index root n link era post s r p a e h = absurd (cc)
concluded_out layout (FollowsHead head tail) i most Alone index root n link era post s r p a e h = absurd (cc)
concluded_out layout (FollowsHead head tail) i most Follows index root n link era post s r p a e h = rw e (follow_out true i most index head n link era post s r (link == 0) h)
concluded_out layout (Fills task) i most aim index root n link era post s r p a e h = absurd (cc)
concluded_out layout (ClearsNext next) i most aim index root n link era post s r p a e h = absurd (cc)
concluded_out layout (Clears task next) i most aim index root n link era post s r p a e h = absurd (cc)
concluded_out layout (Finishes task next) i most aim index root n link era post s r p a e h = absurd (cc)
concluded_out layout (GivesUp answer) i most aim index root n link era post s r p a e h = absurd (cc)
concluded_out layout (Retires answer) i most aim index root n link era post s r p a e h = absurd (cc)
concluded_out layout (Tidies later) i most aim index root n link era post s r p a e h = absurd (cc)
concluded_out layout Advances i most aim index root n link era post s r p a e h = absurd (cc)
concluded_out layout (Releases key) i most aim index root n link era post s r p a e h = absurd (cc)

-- what is known of a protection that makes a step, its n-th
record Site (i : ℕ) (s : Bool) (r : ℕ) (layout : Layout) (why : Why) (aim : Aim) (index : ℕ) (root : Root) (made n : ℕ) (at : ProtectAt) (post : Post) (count : ℕ) : Type 0 where
  seat : post.seat ≡ i
  protects : protecting (kind_of why) ≡ true
  aimed : aim ≡ aim_by why
  place : index ≡ index_by why
  of : root ≡ root_by layout.config.buckets why
  within : is_within at ≡ true
  next : n ≡ made + 1
  call : post.steps ≡ count + 1
  stands : is_some post.span ≡ true
  spans : s ≡ is_some post.span
  few : nat_le made count ≡ true
  raised : at_raised at made r ≡ true

number_next : (n made more : ℕ) → n ≡ made + 1 → (made == more) ≡ true → (n == more + 1) ≡ true
number_next n made more e h = rw e (grind (arith, nat_tests))

two_more : (n r : ℕ) → (n == 3 * r + 1 + 1) ≡ true → (n == 3 * r + 2) ≡ true
two_more n r h = grind (arith, nat_tests)

three_more : (n r : ℕ) → (n == 3 * r + 2 + 1) ≡ true → (n == 3 * (r + 1)) ≡ true
three_more n r h = grind (arith, nat_tests)

next_more : (n r : ℕ) → (n == 3 * r + 2 + 1) ≡ true → (n == 3 * r + 3) ≡ true
next_more n r h = grind (arith, nat_tests)

ended_made : (i : ℕ) (s : Bool) (r : ℕ) (layout : Layout) (why : Why) (aim : Aim) (index : ℕ) (root : Root) (made n : ℕ) (link era : ℕ) (post : Post) (count : ℕ) → Site i s r layout why aim index root made n (CheckUpper link) post count
    → Made (is_follow why) i s r (protects.concluded aim index root n link era (protects.held_post post index root link) (protects.told_held index root link n))
ended_made i s r layout why aim index root made n link era post count x =
    let held : Post = protects.held_post post index root link in
    let told : List Event = protects.told_held index root link n in
    let t : Turn = protects.concluded aim index root n link era held told in
    let e : t.told ≡ told = concluded_told aim index root n link era held told in
    let p : t.post ≡ held = concluded_post aim index root n link era held told in
    let m : t.post.steps ≡ post.steps = ap (λ (q : Post). q.steps) p ∙ held_steps post index root link in
    let o : t.post.span ≡ post.span = ap (λ (q : Post). q.span) p ∙ held_span post index root link in
    let q : (n == 3 * r + 2) ≡ true = two_more n r (number_next n made (3 * r + 1) x.next x.raised) in
    let f : (nat_le n post.steps && n == 3 * r + 2) ≡ true = both (nat_le n post.steps) (n == 3 * r + 2) (le_one_more n made count post.steps x.next x.call x.few) q in
    record {
      spans = ap (λ (es : List Event). spanned_along i es s) e ∙ told_span i index root link n s ∙ x.spans ∙ sym (ap (λ (y : Option Interval). is_some y) o);
      counts = ap (λ (es : List Event). counts_along i es s r) e ∙ found_counts i layout.config.buckets why index root link n s r x.protects x.place x.of q;
      out = subst (λ (most : ℕ). Out (is_follow why) most (raised_along i t.told s r) t.outcome) (sym m) (subst (λ (es : List Event). Out (is_follow why) post.steps (raised_along i es s r) t.outcome) (sym e)
          (concluded_out layout why i post.steps aim index root n link era held s r x.protects x.aimed x.of f));
    }

raised_more : (i seat : ℕ) (s : Bool) (r lo hi : ℕ) → seat ≡ i → s ≡ true → raised_by i (events.Reserve (Whole seat) (from_to lo hi)) s r ≡ r + 1
raised_more i seat s r lo hi e h = let q : (seat == i) ≡ true = grind (arith, nat_tests) in rw q (rw h refl)

spanned_now : (i seat : ℕ) (s : Bool) (lo hi : ℕ) → seat ≡ i → spanned_by i (events.Reserve (Whole seat) (from_to lo hi)) s ≡ true
spanned_now i seat s lo hi e = let q : (seat == i) ≡ true = grind (arith, nat_tests) in rw q refl

spanned_none : (i seat : ℕ) (s : Bool) → seat ≡ i → spanned_by i (events.Reserve (Whole seat) None) s ≡ false
spanned_none i seat s e = let q : (seat == i) ≡ true = grind (arith, nat_tests) in rw q refl

protect_made : (i : ℕ) (s : Bool) (r : ℕ) (layout : Layout) (why : Why) (aim : Aim) (index : ℕ) (root : Root) (made n : ℕ) (at : ProtectAt) (post : Post) (found count : ℕ) → Site i s r layout why aim index root made n at post count → Made (is_follow why) i s r (machine.protect_turn aim index root n at post found)
protect_made i s r layout why aim index root made n LoadWithin post found count x =
    record { spans = x.spans; counts = refl; out = both (nat_le n post.steps) (n == 3 * r + 1) (le_one_more n made count post.steps x.next x.call x.few) (number_next n made (3 * r) x.next x.raised) }
protect_made i s r layout why aim index root made n (CheckUpper link) post found count x =
    made_if (is_follow why) i s r (found == upper post.span) _ _ (λ e. ended_made i s r layout why aim index root made n link found post count x)
    (λ e. record { spans = x.spans; counts = refl; out = both (nat_le n post.steps) (n == 3 * r + 2) (le_one_more n made count post.steps x.next x.call x.few) (two_more n r (number_next n made (3 * r + 1) x.next x.raised)) })
protect_made i s r layout why aim index root made n (RaiseUpper era) post found count x =
    let q : raised_by i (events.Reserve (Whole post.seat) (from_to (lower post.span) era)) s r ≡ r + 1 = raised_more i post.seat s r (lower post.span) era x.seat (x.spans ∙ x.stands) in
    record {
      spans = spanned_now i post.seat s (lower post.span) era x.seat;
      counts = refl;
      out = both (nat_le n post.steps) (n == 3 * raised_by i (events.Reserve (Whole post.seat) (from_to (lower post.span) era)) s r) (le_one_more n made count post.steps x.next x.call x.few) (rw q (three_more n r (number_next n made (3 * r + 2) x.next x.raised)));
    }
protect_made i s r layout why aim index root made n at post found count x = absurd (let h = x.within in cc)

other_raised : (base : Base) (most r : ℕ) → is_other base ≡ true → base_raised base most r ≡ (r == 0)
other_raised (Protect aim index root steps at) most r h = absurd (cc)
other_raised (Reload parent index slot era steps) most r h = absurd (cc)
other_raised base most r h = refl

end_out : (moved : Bool) (most r : ℕ) (ending : Ending) → r ≡ 0 → Out moved most r (Ends ending)
end_out moved most r (Followed (follow_ends.RootMoved seen)) h = by moved
  where
    by : (b : Bool) → (b || r == 0) ≡ true
    by true = refl
    by false = rw h refl
end_out moved most r (Followed (follow_ends.Followed slot)) h = h
end_out moved most r (Followed follow_ends.NoNext) h = h
end_out moved most r Done h = h
end_out moved most r (Protected end) h = h
end_out moved most r (Allocated end) h = h
end_out moved most r (Retired life) h = h
end_out moved most r (Clocked clock) h = h

rest_out : (moved : Bool) (most r : ℕ) (layout : Layout) (why : Why) (post : Post) (outcome : Outcome) → other_kind (kind_of why) ≡ true → Passed (PhaseFits layout) why post outcome → r ≡ 0 → Out moved most r outcome
rest_out moved most r layout why post (Goes base) k p h = other_raised base most r (other_of_kind base (kind_of why) k p.suited) ∙ rw h refl
rest_out moved most r layout why post (Ends ending) k p h = end_out moved most r ending h

calm_made : (moved : Bool) (i : ℕ) (s : Bool) (r : ℕ) (layout : Layout) (why : Why) (base : Base) (post : Post) (found count : ℕ) → calm_kind (kind_of why) ≡ true → Stage i s r layout why base post found count → Made moved i s r (machine.after base post found)
calm_made moved i s r layout why base post found count k x =
    let t : Turn = machine.after base post found in
    let run = x.run in
    let b : is_calm base ≡ true = calm_of base (kind_of why) k run.suited in
    let z : r ≡ 0 = zero_of_test r (sym (other_raised base count r (other_of_kind base (kind_of why) (calm_other (kind_of why) k) run.suited)) ∙ x.right) in
    let n = x.next in
    let y : raised_along i t.told s r ≡ 0 = ap (raised_along i t.told s) z ∙ still_raises i t.told s (calm_still base post found b) in
    record {
      spans = still_spans i t.told s (calm_still base post found b) ∙ x.spans ∙ sym (ap (λ (o : Option Interval). is_some o) (calm_span base post found b));
      counts = still_counts i t.told s r (calm_still base post found b);
      out = rest_out moved t.post.steps (raised_along i t.told s r) layout why t.post t.outcome (calm_other (kind_of why) k) n.phase y;
    }

-- an interval begins, and ends
begin_made : (i : ℕ) (s : Bool) (r : ℕ) (at : BeginAt) (post : Post) (found : ℕ) → post.seat ≡ i → s ≡ is_some post.span → post.span ≡ None → r ≡ 0 → Made false i s r (machine.after (Begin at) post found)
begin_made i s r LoadLower post found e h n z = record { spans = h; counts = refl; out = rw z refl }
begin_made i s r (PublishSpan era) post found e h n z =
    let q : s ≡ false = h ∙ ap (λ (o : Option Interval). is_some o) n in record { spans = spanned_now i post.seat s era era e; counts = refl; out = first_span (is_whole i (Whole post.seat)) q }
  where
    first_span : (own : Bool) → s ≡ false → (if own && (s && true) then r + 1 else r) ≡ 0
    first_span true q = rw q z
    first_span false q = z

finish_made : (i : ℕ) (s : Bool) (r : ℕ) (post : Post) (found : ℕ) → post.seat ≡ i → r ≡ 0 → Made false i s r (machine.after Finish post found)
finish_made i s r post found e z = record { spans = spanned_none i post.seat s e; counts = refl; out = last_span (is_whole i (Whole post.seat)) s }
  where
    last_span : (own t : Bool) → (if own && (t && false) then r + 1 else r) ≡ 0
    last_span true true = z
    last_span true false = z
    last_span false t = z

release_made : (i : ℕ) (s : Bool) (r index : ℕ) (post : Post) (found : ℕ) → post.seat ≡ i → r ≡ 0 → Made false i s r (machine.after (Release index) post found)
release_made i s r index post found e z = by (stands post index)
  where
    last_span : (own t : Bool) (m : ℕ) → m ≡ 0 → (if own && (t && false) then m + 1 else m) ≡ 0
    last_span true true m h = h
    last_span true false m h = h
    last_span false t m h = h

    by : (o : Option ℕ) → Made false i s r (ends (with_span (withdrawn post index) None) (cleared index o ++ reserves_span post None) Done)
    by None = record { spans = spanned_none i post.seat s e; counts = refl; out = last_span (is_whole i (Whole post.seat)) s r z }
    by (Some slot) = record { spans = spanned_none i post.seat s e; counts = refl; out = last_span (is_whole i (Whole post.seat)) s 0 refl }

reload_made : (i : ℕ) (s : Bool) (r : ℕ) (parent index slot era made n : ℕ) (post : Post) (found : ℕ) → index ≡ 1 → s ≡ is_some post.span → (n == 3 * r + 3) ≡ true → n ≡ bump made → Made true i s r (machine.after (Reload parent index slot era made) post found)
reload_made i s r parent index slot era made n post found e h q b =
    made_if true i s r (found == parent + 1) _ _
    (λ x. record { spans = h; counts = and_true (number_raised (events.Held index slot (bump made)) r) (rw e (subst (λ (m : ℕ). (m == 3 * r + 3) ≡ true) b q)); out = refl })
    (λ x. record { spans = h; counts = refl; out = refl })

-- no index is cleared by itself
not_cleared : (scheme : SchemeKind) (rows : Bool) → scheme ≡ Ibr → (not (has_one_interval scheme) && agree rows (publishes_rows scheme)) ≡ true → ⊥
not_cleared scheme rows e h = no_truth (subst (λ (x : SchemeKind). (not (has_one_interval x) && agree rows (publishes_rows x)) ≡ true) e h)

is_interval : (scheme : SchemeKind) → scheme ≡ Ibr → is_ibr scheme ≡ true
is_interval scheme e = rw e refl

site_of : (i : ℕ) (s : Bool) (r : ℕ) (layout : Layout) (why : Why) (aim : Aim) (index : ℕ) (root : Root) (made : ℕ) (at : ProtectAt) (post : Post) (found count : ℕ) → Stage i s r layout why (Protect aim index root made at) post found count → Site i s r layout why aim index root made (bump made) at post count
site_of i s r layout why aim index root made at post found count x =
    let run = x.run in
    let a = run.shape in
    let few : nat_le made count ≡ true = first_of (nat_le made count) (at_raised at made r) x.right in
    record {
      seat = x.seat;
      protects = run.suited;
      aimed = a.aimed;
      place = a.at;
      of = a.of;
      within = within_ibr layout.config.tries at (subst (λ (scheme : SchemeKind). protect_fits scheme layout.config.tries at ≡ true) x.interval run.fits);
      next = bump_low made count (le_of_test made count few) x.low;
      call = x.call;
      stands = run.posted (is_interval (scheme_of post) x.scheme);
      spans = x.spans;
      few = few;
      raised = rest_of (nat_le made count) (at_raised at made r) x.right;
    }

pub run_made : (i : ℕ) (s : Bool) (r : ℕ) (layout : Layout) (why : Why) (base : Base) (post : Post) (found count : ℕ) → Stage i s r layout why base post found count → Made (is_follow why) i s r (machine.after base post found)
run_made i s r layout (Opens task) (Protect aim index root made at) post found count x = protect_made i s r layout (Opens task) aim index root made (bump made) at post found count (site_of i s r layout (Opens task) aim index root made at post found count x)
run_made i s r layout (FollowsHead head tail) (Protect aim index root made at) post found count x =
    protect_made i s r layout (FollowsHead head tail) aim index root made (bump made) at post found count (site_of i s r layout (FollowsHead head tail) aim index root made at post found count x)
run_made i s r layout (FollowsHead head tail) (Reload parent index slot era made) post found count x =
    let run = x.run in
    let a = run.shape in
    let few : nat_le made count ≡ true = first_of (nat_le made count) (made == 3 * r + 2) x.right in
    let b : bump made ≡ made + 1 = bump_low made count (le_of_test made count few) x.low in
    reload_made i s r parent index slot era made (bump made) post found a.at x.spans (next_more (bump made) r (number_next (bump made) made (3 * r + 2) b (rest_of (nat_le made count) (made == 3 * r + 2) x.right))) refl
run_made i s r layout (Opens task) (Begin at) post found count x = begin_made i s r at post found x.seat x.spans x.run.posted (zero_of_test r x.right)
run_made i s r layout (Fills task) base post found count x = calm_made false i s r layout (Fills task) base post found count refl x
run_made i s r layout (ClearsNext next) (Clear rows index) post found count x = absurd (not_cleared layout.config.scheme rows x.interval x.run.fits)
run_made i s r layout (Clears task next) (Clear rows index) post found count x = absurd (not_cleared layout.config.scheme rows x.interval x.run.fits)
run_made i s r layout (Releases key) (Clear rows index) post found count x = absurd (not_cleared layout.config.scheme rows x.interval x.run.fits)
run_made i s r layout (Releases key) (Release index) post found count x = release_made i s r index post found x.seat (zero_of_test r x.right)
run_made i s r layout (Finishes task next) Finish post found count x = finish_made i s r post found x.seat (zero_of_test r x.right)
run_made i s r layout (GivesUp answer) base post found count x = calm_made false i s r layout (GivesUp answer) base post found count refl x
run_made i s r layout (Retires answer) base post found count x = calm_made false i s r layout (Retires answer) base post found count refl x
run_made i s r layout (Tidies later) base post found count x = calm_made false i s r layout (Tidies later) base post found count refl x
run_made i s r layout Advances base post found count x = calm_made false i s r layout Advances base post found count refl x
run_made i s r layout (Opens task) base post found count x = absurd (no_truth x.run.suited)
run_made i s r layout (FollowsHead head tail) base post found count x = absurd (no_truth x.run.suited)
run_made i s r layout (ClearsNext next) base post found count x = absurd (no_truth x.run.suited)
run_made i s r layout (Clears task next) base post found count x = absurd (no_truth x.run.suited)
run_made i s r layout (Releases key) base post found count x = absurd (no_truth x.run.suited)
run_made i s r layout (Finishes task next) base post found count x = absurd (no_truth x.run.suited)
