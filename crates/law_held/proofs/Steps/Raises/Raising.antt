-- How often an interval was raised, by where its seat stands, over each step of a machine of 2GE.
use Rattle.std.proofs.Common.{ℕ, ◌≡◌, ◌+◌, Bool, true, false, List, [], ◌∷◌, ◌++◌, Option, Some, None, refl, sym, ap, ◌∙◌}
use Rattle.std.specs.Prelude.{◌==◌, ◌&&◌, ◌||◌, ◌*◌, drop, nat_le, is_some, if◌then◌else◌}
use Rattle.law_scans.specs.inv.model.words.Packed.{reservation_word, read_reservation}
use Rattle.law_scans.specs.inv.model.words.declared.config.SchemeKind.{SchemeKind}
use Rattle.law_scans.specs.inv.model.words.declared.config.SchemeKind.TheVariants.{He, Ibr, Wfe, Hp}
use Rattle.law_scans.specs.inv.model.defs.declared.event.Event.{Event}
use Rattle.law_scans.specs.inv.model.defs.declared.event.Event.TheVariants as events
use Rattle.law_scans.specs.inv.model.defs.declared.event.Guard.TheVariants.{Helper, Index, Whole}
use Rattle.law_scans.specs.inv.model.defs.declared.lifetime.Interval.{Interval}
use Rattle.law_scans.specs.inv.model.declared.ends.FollowEnd.TheVariants as follow_ends
use Rattle.law_scans.specs.inv.model.declared.post.Post.{Post}
use Rattle.law_scans.specs.inv.model.Allocate as allocates
use Rattle.law_scans.specs.inv.model.Machine as machine
use Rattle.law_scans.specs.inv.model.MoveClock as movers
use Rattle.law_scans.specs.inv.model.Calls.{Work, Getting, Changing, Enqueuing, Dequeuing, Keeping, Loosens, LoadHeld, StoreHeld, Looks, Misses, HideSpan, MarkLeft, TakeList, MarkTaken}
use Rattle.law_scans.specs.inv.model.Posts.{cleared, cleared_from, publishes_index, reserves_span, stands}
use Rattle.law_scans.specs.inv.model.words.Schemes.{has_one_interval, publishes_rows}
use Rattle.law_scans.specs.inv.model.Rounds.{scheme_of, clear_told, clear_post, let_index}
use Rattle.law_scans.specs.inv.model.SlowPath as slow
use Rattle.law_scans.specs.inv.model.WriteRow.{last_written}
use Rattle.law_scans.specs.inv.model.Phases.{ProtectAt, MoveAt, Walk, Base, Turn, Outcome, Goes, Ends}
use Rattle.law_scans.specs.inv.model.Phases.ProtectAt.{LoadWithin, CheckUpper, RaiseUpper}
use Rattle.law_scans.specs.inv.model.Phases.AllocateAt.{ClaimSlot}
use Rattle.law_scans.specs.inv.model.Phases.RetireAt.{LoadLife}
use Rattle.law_scans.specs.inv.model.Phases.MoveAt.{LoadEra, CheckEra, AnswerAsked, LoadReserved, HandOver, ExchangeClock}
use Rattle.law_scans.specs.inv.model.Phases.Base.{Begin, Protect, Reload, Clear, Finish, Release, Allocate, Write, Retire, Move}
use Rattle.law_scans.specs.inv.model.Phases.Ending.{Followed}
use Rattle.law_scans.proofs.inv.model.Facts.{both, first_of, rest_of, same_number}
use Rattle.law_scans.proofs.reuse.history.Passes.{is_quiet, all_quiet, Closed, copied_post, copied_told, keep_told, work_post, work_told}
use Rattle.law_scans.specs.laws.StateAt.{spanned_by, raised_by}
use Rattle.law_scans.specs.laws.StepLaw.{number_raised}
use Rattle.law_scans.proofs.Turns.Counting.Runs.{is_calm}
use Rattle.law_scans.proofs.reuse.history.MayTell.{Tells, base_all, cleared_all, clear_all, work_all}
use Rattle.law_scans.proofs.reuse.history.AllOf.{all_of, of_weaker}

-- along what a step tells
abbrev pub spanned_along : (seat : ℕ) → List Event → Bool → Bool
spanned_along i [] s = s
spanned_along i (event ∷ told) s = spanned_along i told (spanned_by i event s)

abbrev pub raised_along : (seat : ℕ) → List Event → Bool → ℕ → ℕ
raised_along i [] s r = r
raised_along i (event ∷ told) s r = raised_along i told (spanned_by i event s) (raised_by i event s r)

abbrev pub counts_along : (seat : ℕ) → List Event → Bool → ℕ → Bool
counts_along i [] s r = true
counts_along i (event ∷ told) s r = number_raised event r && counts_along i told (spanned_by i event s) (raised_by i event s r)

pub spanned_both : (i : ℕ) (xs ys : List Event) (s : Bool) → spanned_along i (xs ++ ys) s ≡ spanned_along i ys (spanned_along i xs s)
spanned_both i [] ys s = refl
spanned_both i (x ∷ xs) ys s = spanned_both i xs ys (spanned_by i x s)

pub raised_both : (i : ℕ) (xs ys : List Event) (s : Bool) (r : ℕ) → raised_along i (xs ++ ys) s r ≡ raised_along i ys (spanned_along i xs s) (raised_along i xs s r)
raised_both i [] ys s r = refl
raised_both i (x ∷ xs) ys s r = raised_both i xs ys (spanned_by i x s) (raised_by i x s r)

counts_both : (i : ℕ) (xs ys : List Event) (s : Bool) (r : ℕ) → counts_along i xs s r ≡ true → counts_along i ys (spanned_along i xs s) (raised_along i xs s r) ≡ true → counts_along i (xs ++ ys) s r ≡ true
counts_both i [] ys s r h k = k
counts_both i (x ∷ xs) ys s r h k =
    both (number_raised x r) (counts_along i (xs ++ ys) (spanned_by i x s) (raised_by i x s r)) (first_of (number_raised x r) (counts_along i xs (spanned_by i x s) (raised_by i x s r)) h)
    (counts_both i xs ys (spanned_by i x s) (raised_by i x s r) (rest_of (number_raised x r) (counts_along i xs (spanned_by i x s) (raised_by i x s r)) h) k)

-- events that tell nothing of interval words, and no numbers
abbrev pub is_still : Event → Bool
is_still (events.Reserve (Whole seat) span) = false
is_still (events.Held index slot steps) = false
is_still (events.Null index steps) = false
is_still event = true

abbrev pub all_still : List Event → Bool
all_still told = all_of is_still told

still_span : (i : ℕ) (event : Event) (s : Bool) → is_still event ≡ true → spanned_by i event s ≡ s
still_span i (events.Reserve (Whole seat) span) s h = absurd (cc)
still_span i (events.Reserve (Helper seat) span) s h = refl
still_span i (events.Reserve (Index seat index) span) s h = refl
still_span i event s h = refl

-- events that tell no interval of an interval word, and no numbers
abbrev is_low : Event → Bool
is_low (events.Reserve (Whole seat) (Some span)) = false
is_low (events.Held index slot steps) = false
is_low (events.Null index steps) = false
is_low event = true

abbrev all_low : List Event → Bool
all_low told = all_of is_low told

none_raise : (own spanned : Bool) (more none : ℕ) → (if own && (spanned && false) then more else none) ≡ none
none_raise true true more none = refl
none_raise true false more none = refl
none_raise false spanned more none = refl

low_raise : (i : ℕ) (event : Event) (s : Bool) → is_low event ≡ true → raised_by i event s 0 ≡ 0
low_raise i (events.Reserve (Whole seat) None) s h = none_raise (seat == i) s (0 + 1) 0
low_raise i (events.Reserve (Whole seat) (Some span)) s h = absurd (cc)
low_raise i (events.Reserve (Helper seat) span) s h = refl
low_raise i (events.Reserve (Index seat index) span) s h = refl
low_raise i event s h = refl

low_count : (event : Event) (r : ℕ) → is_low event ≡ true → number_raised event r ≡ true
low_count (events.Held index slot steps) r h = absurd (cc)
low_count (events.Null index steps) r h = absurd (cc)
low_count event r h = refl

still_low : (event : Event) → is_still event ≡ true → is_low event ≡ true
still_low (events.Reserve (Whole seat) span) h = absurd (cc)
still_low (events.Reserve (Helper seat) span) h = refl
still_low (events.Reserve (Index seat index) span) h = refl
still_low (events.Held index slot steps) h = absurd (cc)
still_low (events.Null index steps) h = absurd (cc)
still_low event h = refl

pub still_spans : (i : ℕ) (told : List Event) (s : Bool) → all_still told ≡ true → spanned_along i told s ≡ s
still_spans i [] s h = refl
still_spans i (event ∷ told) s h = ap (spanned_along i told) (still_span i event s (first_of (is_still event) (all_still told) h)) ∙ still_spans i told s (rest_of (is_still event) (all_still told) h)

pub low_raises : (i : ℕ) (told : List Event) (s : Bool) → all_low told ≡ true → raised_along i told s 0 ≡ 0
low_raises i [] s h = refl
low_raises i (event ∷ told) s h =
    ap (λ (r : ℕ). raised_along i told (spanned_by i event s) r) (low_raise i event s (first_of (is_low event) (all_low told) h)) ∙ low_raises i told (spanned_by i event s) (rest_of (is_low event) (all_low told) h)

pub low_counts : (i : ℕ) (told : List Event) (s : Bool) (r : ℕ) → all_low told ≡ true → counts_along i told s r ≡ true
low_counts i [] s r h = refl
low_counts i (event ∷ told) s r h =
    both (number_raised event r) (counts_along i told (spanned_by i event s) (raised_by i event s r)) (low_count event r (first_of (is_low event) (all_low told) h)) (low_counts i told (spanned_by i event s) (raised_by i event s r) (rest_of (is_low event) (all_low told) h))

pub still_raises : (i : ℕ) (told : List Event) (s : Bool) → all_still told ≡ true → raised_along i told s 0 ≡ 0
still_raises i told s h = low_raises i told s (of_weaker is_still is_low told still_low h)

pub still_counts : (i : ℕ) (told : List Event) (s : Bool) (r : ℕ) → all_still told ≡ true → counts_along i told s r ≡ true
still_counts i told s r h = low_counts i told s r (of_weaker is_still is_low told still_low h)

quiet_one : (event : Event) → is_quiet event ≡ true → is_still event ≡ true
quiet_one (events.Reserve guard span) h = absurd (cc)
quiet_one (events.Held index slot steps) h = absurd (cc)
quiet_one (events.Null index steps) h = absurd (cc)
quiet_one event h = refl

pub quiet_still : (told : List Event) → all_quiet told ≡ true → all_still told ≡ true
quiet_still told h = of_weaker is_quiet is_still told quiet_one h

pub clear_still : (scheme : SchemeKind) (post : Post) (index : ℕ) → all_still (clear_told scheme post index) ≡ true
clear_still scheme post index = clear_all is_still scheme post index (λ index slot. refl)

pub clear_span : (scheme : SchemeKind) (post : Post) (index : ℕ) → (clear_post scheme post index).span ≡ post.span
clear_span He post index = refl
clear_span Ibr post index = refl
clear_span Wfe post index = refl
clear_span Hp post index = refl

-- whether the interval word publishes, and whether the numbers told are right
pub spans_closed : (i : ℕ) (s : Bool) → Closed (λ post told. spanned_along i told s ≡ is_some post.span)
spans_closed i s = record {
  calm = λ post told more q h. spanned_both i told more s ∙ still_spans i more (spanned_along i told s) (quiet_still more q) ∙ h;
  clears = λ post told index h. spanned_both i told (clear_told (scheme_of post) post index) s ∙ still_spans i (clear_told (scheme_of post) post index) (spanned_along i told s) (clear_still (scheme_of post) post index) ∙ h
      ∙ sym (ap (λ (o : Option Interval). is_some o) (clear_span (scheme_of post) post index));
}

pub counts_closed : (i : ℕ) (s : Bool) (r : ℕ) → Closed (λ post told. counts_along i told s r ≡ true)
counts_closed i s r = record {
  calm = λ post told more q h. counts_both i told more s r h (still_counts i more (spanned_along i told s) (raised_along i told s r) (quiet_still more q));
  clears = λ post told index h. counts_both i told (clear_told (scheme_of post) post index) s r h (still_counts i (clear_told (scheme_of post) post index) (spanned_along i told s) (raised_along i told s r) (clear_still (scheme_of post) post index));
}

pub none_closed : (i : ℕ) (s : Bool) (r : ℕ) → Closed (λ post told. raised_along i told s r ≡ 0)
none_closed i s r = record {
  calm = λ post told more q h. raised_both i told more s r ∙ ap (raised_along i more (spanned_along i told s)) h ∙ still_raises i more (spanned_along i told s) (quiet_still more q);
  clears = λ post told index h. raised_both i told (clear_told (scheme_of post) post index) s r ∙ ap (raised_along i (clear_told (scheme_of post) post index) (spanned_along i told s)) h
      ∙ still_raises i (clear_told (scheme_of post) post index) (spanned_along i told s) (clear_still (scheme_of post) post index);
}

-- how often an interval was raised, by the steps of the protection
abbrev pub at_raised : ProtectAt → (steps raised : ℕ) → Bool
at_raised LoadWithin steps raised = steps == 3 * raised
at_raised (CheckUpper link) steps raised = steps == 3 * raised + 1
at_raised (RaiseUpper era) steps raised = steps == 3 * raised + 2
at_raised at steps raised = true

abbrev pub base_raised : Base → (most raised : ℕ) → Bool
base_raised (Protect aim index root steps at) most raised = nat_le steps most && at_raised at steps raised
base_raised (Reload parent index slot era steps) most raised = nat_le steps most && steps == 3 * raised + 2
base_raised base most raised = raised == 0

abbrev pub Out : (follows : Bool) → (most raised : ℕ) → Outcome → Type 0
Out moved most raised (Goes base) = base_raised base most raised ≡ true
Out moved most raised (Ends (Followed (follow_ends.RootMoved seen))) = (moved || raised == 0) ≡ true
Out moved most raised (Ends ending) = raised ≡ 0

pub record Made (moved : Bool) (i : ℕ) (s : Bool) (r : ℕ) (t : Turn) : Type 0 where
  pub spans : spanned_along i t.told s ≡ is_some t.post.span
  pub counts : counts_along i t.told s r ≡ true
  pub out : Out moved t.post.steps (raised_along i t.told s r) t.outcome

pub made_if : (moved : Bool) (i : ℕ) (s : Bool) (r : ℕ) (same : Bool) (t u : Turn) → (same ≡ true → Made moved i s r t) → (same ≡ false → Made moved i s r u) → Made moved i s r (if same then t else u)
made_if moved i s r true t u h k = h refl
made_if moved i s r false t u h k = k refl

-- the machines that tell nothing of intervals
one_still : (base : Base) (post : Post) (found : ℕ) (event : Event) → is_calm base ≡ true → Tells base post found event → is_still event ≡ true
one_still (Protect aim own root made at) post found event h t = absurd (cc)
one_still base post found (events.Reserve (Whole seat) span) h t = cc
one_still base post found (events.Held index slot steps) h t = cc
one_still base post found (events.Null index steps) h t = absurd (cc)
one_still base post found (events.Reserve (Helper seat) span) h t = refl
one_still base post found (events.Reserve (Index seat index) span) h t = refl
one_still base post found event h t = refl

pub calm_still : (base : Base) (post : Post) (found : ℕ) → is_calm base ≡ true → all_still (machine.after base post found).told ≡ true
calm_still base post found h = base_all is_still base post found (λ event. one_still base post found event h)

-- and leave the interval as it is
span_if : (post : Post) (c : Bool) (t u : Turn) → t.post.span ≡ post.span → u.post.span ≡ post.span → (if c then t else u).post.span ≡ post.span
span_if post true t u h k = h
span_if post false t u h k = k

walking_span : (birth : ℕ) (post : Post) (x : Option Walk) → (allocates.walking birth post x).post.span ≡ post.span
walking_span birth post None = refl
walking_span birth post (Some walk) = refl

handed_span : (era seat tag index old : ℕ) (post : Post) (same : Bool) → (movers.after_hand_over era seat tag index old post same).post.span ≡ post.span
handed_span era seat tag index old post true = refl
handed_span era seat tag index old post false = refl

move_span : (at : MoveAt) (post : Post) (found : ℕ) → (machine.move_turn at post found).post.span ≡ post.span
move_span (LoadEra helps) post found = span_if post (found == post.layout.config.last_era) _ _ refl refl
move_span (CheckEra era seat tag index root link) post found = span_if post (found == era) _ _ refl refl
move_span (AnswerAsked era seat tag index root link) post found = span_if post (found == slow.asking post.layout tag index root) _ _ refl refl
move_span (LoadReserved era seat tag index root link) post found = span_if post ((read_reservation found).tag == tag) _ _ refl refl
move_span (HandOver era seat tag index root link old) post found = handed_span era seat tag index old post (found == reservation_word (record { era = old; tag = tag }))
move_span (ExchangeClock era) post found = span_if post (found == era) _ _ refl refl
move_span at post found = refl

pub calm_span : (base : Base) (post : Post) (found : ℕ) → is_calm base ≡ true → (machine.after base post found).post.span ≡ post.span
calm_span (Allocate (ClaimSlot birth walk)) post found h = span_if post (allocates.is_claimed found walk.slot) _ _ (walking_span birth post (allocates.walk_past post.layout.config.slots walk found)) refl
calm_span (Write slot row place) post found h = span_if post (place == last_written row) _ _ refl refl
calm_span (Retire (LoadLife slot)) post found h = refl
calm_span (Move at) post found h = move_span at post found
calm_span (Begin at) post found h = absurd (cc)
calm_span (Protect aim index root steps at) post found h = absurd (cc)
calm_span (Reload parent index slot era steps) post found h = absurd (cc)
calm_span (Clear rows index) post found h = absurd (cc)
calm_span Finish post found h = absurd (cc)
calm_span (Release index) post found h = absurd (cc)
calm_span base post found h = refl

-- a call's own step raises no interval
pub work_low : (work : Work) (post : Post) → all_low (work_told work post) ≡ true
work_low work post = work_all is_low (λ index slot. refl) (λ from index slot. refl) (λ seat index era. refl) (λ seat. refl) (λ seat index link. refl) work post

-- and leaves it as it is, but where a seat that leaves withdraws it
copied_span : (index : ℕ) (post : Post) (x : Option ℕ) → (copied_post index post x).span ≡ post.span
copied_span index post None = refl
copied_span index post (Some slot) = refl

load_span : (index : ℕ) (post : Post) (x : Option ℕ) (one : Bool) → (if one then copied_post index post x else post).span ≡ post.span
load_span index post x true = copied_span index post x
load_span index post x false = refl

cleared_spans : (i index : ℕ) (x : Option ℕ) (s : Bool) → spanned_along i (cleared index x) s ≡ s
cleared_spans i index x s = still_spans i (cleared index x) s (cleared_all is_still index x (λ index slot. refl))

copied_spans : (i from index : ℕ) (post : Post) (reserved : List Event) (x : Option ℕ) (s : Bool) → all_still reserved ≡ true → spanned_along i (copied_told from index post reserved x) s ≡ s
copied_spans i from index post reserved None s h = refl
copied_spans i from index post reserved (Some slot) s h =
    spanned_both i (cleared index (stands post index) ++ reserved) (events.Copied from index slot ∷ []) s ∙ spanned_both i (cleared index (stands post index)) reserved s
    ∙ still_spans i reserved (spanned_along i (cleared index (stands post index)) s) h ∙ cleared_spans i index (stands post index) s

publishes_still : (rows : Bool) (post : Post) (index number : ℕ) → all_still (publishes_index rows post index number) ≡ true
publishes_still true post index number = refl
publishes_still false post index number = refl

load_spans : (i from index : ℕ) (post : Post) (s one : Bool) → spanned_along i (if one then copied_told from index post [] (stands post from) else []) s ≡ s
load_spans i from index post s true = copied_spans i from index post [] (stands post from) s refl
load_spans i from index post s false = refl

hidden_spans : (i : ℕ) (post : Post) (s : Bool) → post.seat ≡ i → spanned_along i (keep_told HideSpan post) s ≡ false
hidden_spans i post s e =
    spanned_both i (cleared_from 2 (drop 2 post.standing)) (reserves_span post None) s ∙ own (post.seat == i) (ap (λ (k : ℕ). k == i) e ∙ same_number i)
  where
    own : (b : Bool) → b ≡ true → (if b then false else spanned_along i (cleared_from 2 (drop 2 post.standing)) s) ≡ false
    own true q = refl
    own false q = absurd (cc)

pub work_spans : (i : ℕ) (work : Work) (post : Post) (s : Bool) → post.seat ≡ i → s ≡ is_some post.span → spanned_along i (work_told work post) s ≡ is_some (work_post work post).span
work_spans i (Keeping (LoadHeld from index)) post s e h =
    load_spans i from index post s (has_one_interval (scheme_of post)) ∙ h ∙ sym (ap (λ (x : Option Interval). is_some x) (load_span index post (stands post from) (has_one_interval (scheme_of post))))
work_spans i (Keeping (StoreHeld from index era)) post s e h =
    copied_spans i from index post (publishes_index (publishes_rows (scheme_of post)) post index era) (stands post from) s (publishes_still (publishes_rows (scheme_of post)) post index era) ∙ h ∙ sym (ap (λ (x : Option Interval). is_some x) (copied_span index post (stands post from)))
work_spans i (Keeping (Loosens let_go)) post s e h = cleared_spans i (let_index let_go) (stands post (let_index let_go)) s ∙ h
work_spans i (Keeping (Looks index key at)) post s e h = h
work_spans i (Keeping (Misses index)) post s e h = h
work_spans i (Keeping HideSpan) post s e h = hidden_spans i post s e
work_spans i (Keeping MarkLeft) post s e h = h
work_spans i (Keeping (TakeList place)) post s e h = h
work_spans i (Keeping (MarkTaken place count)) post s e h = h
work_spans i (Getting key at) post s e h = h
work_spans i (Changing kept at) post s e h = h
work_spans i (Enqueuing kept at) post s e h = h
work_spans i (Dequeuing at) post s e h = h
