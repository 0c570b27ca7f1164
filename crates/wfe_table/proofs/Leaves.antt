-- How many steps a leave takes: one for each row that stands, or for the interval, and one.
use Rattle.std.proofs.Common.{length-append, Bool, List, [], ap, arith, drop, false, length, slice_set, subst, sym, true, refl, ℕ, ◌+◌, ◌∙◌, ◌∷◌, ◌≡◌, ◌⊎◌, inl, inr}
use Rattle.std.proofs.lemmas.List.{drop-drop, drop-set-lt}
use Rattle.std.specs.Prelude.{None, Option, Some, filter, if◌then◌else◌, is_some}
use Rattle.wfe_core.specs.declared.op.Op.{Op}
use Rattle.wfe_core.specs.defs.declared.call.Answer.{Answer}
use Rattle.wfe_core.specs.defs.declared.call.Call.TheVariants as names
use Rattle.wfe_core.specs.defs.declared.lifetime.Interval.{Interval}
use Rattle.wfe_core.specs.words.Schemes.{has_one_interval, publishes_rows}
use Rattle.wfe_core.specs.words.declared.layout.Layout.{Layout}
use Rattle.wfe_core.specs.Calls.{Answers, CallOutcome, GoesOn, HideSpan, Idle, Keeping, MarkLeft, Parting, Releases, Runs, Works}
use Rattle.wfe_core.specs.Keep.{parting_from, parting_index, parting_span}
use Rattle.wfe_core.specs.Locals.{Local, after, begun, begun_post, busy_in, turn}
use Rattle.wfe_core.specs.Phases.Base.{Clear}
use Rattle.wfe_core.specs.Posts.{standing_from}
use Rattle.wfe_core.specs.Rounds.{scheme_of}
use Rattle.wfe_drive_call.specs.drive_words.Called.{Ends}
use Rattle.wfe_drive_call.specs.drive_words.Comes.{Given, lent}
use Rattle.wfe_drive_call.specs.drive_words.Ran.{Performs, Ran}
use Rattle.wfe_table.specs.Calls.{IsMade}
use Rattle.wfe_table.specs.Public.{SeatNow, steps_of}
use Rattle.wfe_table.specs.Steps.{leave_steps}

-- the rows that stand from an index on
abbrev rows_from : ℕ → List (Option ℕ) → ℕ
rows_from index rows = length (filter is_some (drop index rows))

-- where a leave stands, and how many steps it has to make
data ToGo (l : Local) (n : ℕ) : Type 0 where
  Clears : (rows : Bool) (index : ℕ) → l.phase ≡ Runs (Releases (Parting index)) (Clear rows index) → n ≡ rows_from (index + 1) l.post.standing + 2 → ToGo l n
  Hides : l.phase ≡ Works (Keeping HideSpan) → n ≡ 2 → ToGo l n
  Marks : l.phase ≡ Works (Keeping MarkLeft) → n ≡ 1 → ToGo l n

next_rows : (index : ℕ) (stood rows : List (Option ℕ)) (row : Option ℕ) → drop index stood ≡ row ∷ rows → drop (index + 1) stood ≡ rows
next_rows index stood rows row e = sym (drop-drop 1 index stood) ∙ ap (drop 1) e

from_rows : (l : Local) (shown : Bool) (index : ℕ) (rows : List (Option ℕ)) → drop index l.post.standing ≡ rows → l.phase ≡ parting_index shown (standing_from index rows) → ToGo l (length (filter is_some rows) + 1)
from_rows l shown index [] e p = Marks p refl
from_rows l shown index (None ∷ rows) e p = from_rows l shown (index + 1) rows (next_rows index l.post.standing rows None e) p
from_rows l shown index (Some slot ∷ rows) e p = Clears shown index p (let a = ap (λ (x : List (Option ℕ)). length (filter is_some x)) (next_rows index l.post.standing rows (Some slot) e) in omega (arith, a))

-- what comes after a step
clears_on : (o : Local) (rows : Bool) (index found : ℕ) → o.phase ≡ Runs (Releases (Parting index)) (Clear rows index) → (after o found).phase ≡ parting_from (index + 1) (after o found).post
clears_on o rows index found e = rw e refl

clears_row : (o : Local) (rows : Bool) (index found : ℕ) → o.phase ≡ Runs (Releases (Parting index)) (Clear rows index) → (after o found).post.standing ≡ slice_set o.post.standing index None
clears_row o rows index found e = rw e refl

hides_on : (o : Local) (found : ℕ) → o.phase ≡ Works (Keeping HideSpan) → (after o found).phase ≡ Works (Keeping MarkLeft)
hides_on o found e = rw e refl

marks_on : (o : Local) (found : ℕ) → o.phase ≡ Works (Keeping MarkLeft) → (after o found).phase ≡ Idle
marks_on o found e = rw e refl

-- it is one step less, or none is left
record Less (l : Local) (n : ℕ) : Type 0 where
  count : ℕ
  there : ToGo l count
  less : n ≡ count + 1

record Over (l : Local) (n : ℕ) : Type 0 where
  idle : l.phase ≡ Idle
  last : n ≡ 1

step_less : (l : Local) (found n : ℕ) (g : Given l found) → ToGo l n → Less (after (lent g) found) n ⊎ Over (after (lent g) found) n
step_less l found n g (Clears rows index p e) =
    let o : Local = lent g in
    let at : o.phase ≡ Runs (Releases (Parting index)) (Clear rows index) = ap (λ (k : Local). k.phase) g.comes.stands ∙ p in
    let stood : o.post.standing ≡ l.post.standing = ap (λ (k : Local). k.post.standing) g.comes.stands in
    let gone : drop (index + 1) (after o found).post.standing ≡ drop (index + 1) l.post.standing =
    ap (drop (index + 1)) (clears_row o rows index found at) ∙ drop-set-lt (index + 1) o.post.standing index None (omega arith) ∙ ap (drop (index + 1)) stood in
    let a = ap (λ (x : List (Option ℕ)). length (filter is_some x)) gone in
    inl (record {
      count = rows_from (index + 1) (after o found).post.standing + 1;
      there = from_rows (after o found) (publishes_rows (scheme_of (after o found).post)) (index + 1) (drop (index + 1) (after o found).post.standing) refl (clears_on o rows index found at);
      less = omega (arith, a, e);
    })
step_less l found n g (Hides p e) =
    let o : Local = lent g in
    inl (record { count = 1; there = Marks (hides_on o found (ap (λ (k : Local). k.phase) g.comes.stands ∙ p)) refl; less = omega (arith, e) })
step_less l found n g (Marks p e) =
    let o : Local = lent g in
    inr (record { idle = marks_on o found (ap (λ (k : Local). k.phase) g.comes.stands ∙ p); last = e })

-- the step that answers is the last
abbrev goes_on : CallOutcome → Bool
goes_on (GoesOn phase) = true
goes_on (Answers answer) = false

clears_goes : (o : Local) (rows : Bool) (index found : ℕ) → o.phase ≡ Runs (Releases (Parting index)) (Clear rows index) → goes_on (turn o found).outcome ≡ true
clears_goes o rows index found e = rw e refl

hides_goes : (o : Local) (found : ℕ) → o.phase ≡ Works (Keeping HideSpan) → goes_on (turn o found).outcome ≡ true
hides_goes o found e = rw e refl

not_both : (b : Bool) → b ≡ true → b ≡ false → ⊥
not_both true e f = cc
not_both false e f = cc

last_one : (l : Local) (found n : ℕ) (answer : Answer) (g : Given l found) → ToGo l n → (turn (lent g) found).outcome ≡ Answers answer → n ≡ 1
last_one l found n answer g (Clears rows index p e) a = absurd (not_both (goes_on (turn (lent g) found).outcome) (clears_goes (lent g) rows index found (ap (λ (k : Local). k.phase) g.comes.stands ∙ p)) (ap goes_on a))
last_one l found n answer g (Hides p e) a = absurd (not_both (goes_on (turn (lent g) found).outcome) (hides_goes (lent g) found (ap (λ (k : Local). k.phase) g.comes.stands ∙ p)) (ap goes_on a))
last_one l found n answer g (Marks p e) a = e

-- no step follows one that answers
idle_none : (l : Local) → l.phase ≡ Idle → busy_in l.phase ≡ true → ⊥
idle_none l i b = not_both (busy_in l.phase) b (ap busy_in i)

idle_stays : (l : Local) (xs : List (Op × ℕ)) (m : Local) (x : Op × ℕ) → l.phase ≡ Idle → Ran l xs m → Performs m x → ⊥
idle_stays l [] m x i ran q = idle_none l i (ap (λ (k : Local). busy_in k.phase) ran ∙ q.busy)
idle_stays l (y ∷ ys) m x i ran q = let p = ran.0 in idle_none l i p.busy

one_by : (l : Local) (xs : List (Op × ℕ)) (m : Local) (x : Op × ℕ) (n : ℕ) → Ran l xs m → Performs m x → ((count : ℕ) → ToGo l count → count ≡ length xs + 1) → Less l n ⊎ Over l n → n ≡ length xs + 2
one_by l xs m x n ran q f (inl s) = let e = f s.count s.there in let d = s.less in omega (arith, e, d)
one_by l xs m x n ran q f (inr s) = absurd (idle_stays l xs m x s.idle ran q)

all_steps : (l : Local) (xs : List (Op × ℕ)) (m : Local) (x : Op × ℕ) (answer : Answer) (n : ℕ) → ToGo l n → Ran l xs m → (q : Performs m x) → (turn (lent q.given) x.1).outcome ≡ Answers answer → n ≡ length xs + 1
all_steps l [] m x answer n h ran q a = last_one m x.1 n answer q.given (subst (λ (k : Local). ToGo k n) ran h) a
all_steps l (y ∷ ys) m x answer n h ran q a =
    let e = one_by (after (lent ran.0.given) y.1) ys m x n ran.1 q (λ count there. all_steps (after (lent ran.0.given) y.1) ys m x answer count there ran.1 q a) (step_less l y.1 n ran.0.given h) in
    omega (arith, e)

-- where a leave begins
spans_first : (l : Local) (span : Option Interval) → l.phase ≡ parting_span span → ToGo l ((if is_some span then 1 else 0) + 1)
spans_first l None p = Marks p refl
spans_first l (Some span) p = Hides p refl

leave_first : (l : Local) (one : Bool) → has_one_interval (scheme_of l.post) ≡ one → ToGo (begun l names.Leave) ((if one then (if is_some l.post.span then 1 else 0) else length (filter is_some (drop 2 l.post.standing))) + 1)
leave_first l true e = spans_first (begun l names.Leave) l.post.span (ap (λ (b : Bool). if b then parting_span (begun_post l.post).span else parting_from 2 (begun_post l.post)) e)
leave_first l false e =
    from_rows (begun l names.Leave) (publishes_rows (scheme_of (begun_post l.post))) 2 (drop 2 l.post.standing) refl (ap (λ (b : Bool). if b then parting_span (begun_post l.post).span else parting_from 2 (begun_post l.post)) e)

leave_length : (l m : Local) (ops : List (Op × ℕ)) (answer : Answer) → Ends names.Leave answer ops l m → length ops ≡ (if has_one_interval (scheme_of l.post) then (if is_some l.post.span then 1 else 0) else length (filter is_some (drop 2 l.post.standing))) + 1
leave_length l m ops answer ends =
    let a = ends.answered in
    let n = all_steps (begun l names.Leave) a.before a.last a.operation answer _ (leave_first l (has_one_interval (scheme_of l.post)) refl) a.ran a.performs a.answers in
    let e = ap length a.ops_are in
    let f = length-append a.before (a.operation ∷ []) in
    omega (arith, n, e, f)

pub leave_bounded : (layout : Layout) (old new : SeatNow) (answer : Answer) → IsMade layout old new names.Leave answer → steps_of new ≡ leave_steps old
leave_bounded layout old new answer m = m.ends.left.noted ∙ leave_length old.track.local new.track.local m.ops answer m.ends
