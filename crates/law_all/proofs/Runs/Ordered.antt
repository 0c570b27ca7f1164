-- The calls of all seats have the order of the points of their record.
use Rattle.std.proofs.Common.{ℕ, ◌≡◌, ◌<◌, Bool, true, false, List, [], ◌∷◌, ◌++◌, Option, Some, refl, sym, ap, ◌∙◌, subst}
use Rattle.std.proofs.lemmas.List.{append-nil, map-append}
use Rattle.std.specs.Prelude.{map, ◌==◌, if◌then◌else◌}
use Rattle.law_all.proofs.inv.model.Facts.{number_is, same_number}
use Rattle.law_all.specs.inv.model.Desks.{noted}
use Rattle.law_all.specs.inv.model.Locals.{Group}
use Rattle.law_all.specs.inv.model.defs.Pairs.{Pair}
use Rattle.law_all.specs.inv.model.defs.declared.call.Answer.{Answer}
use Rattle.law_all.specs.inv.model.defs.declared.call.Call.{Call}
use Rattle.law_all.specs.inv.model.defs.declared.event.Event.{Event}
use Rattle.law_all.specs.inv.model.defs.declared.event.Event.TheVariants as events
use Rattle.law_all.specs.inv.model.words.declared.config.Config.{Config}
use Rattle.law_all.specs.inv.model.words.declared.layout.Layout.{Layout}
use Rattle.law_all.specs.inv.history.History.{Item, record_of}
use Rattle.law_all.specs.inv.history.Record.Past.{Then}
use Rattle.law_all.specs.inv.history.Record.{Past}
use Rattle.law_all.specs.laws.StateAt.{is_open, opened_by}
use Rattle.law_all.specs.laws.StructuresAt.{Filling, changes_of, count_of, filling_at}
use Rattle.law_all.specs.Logs.Ledgers.{Ledger, ledger_by, ledger_of, left_by, log_of}
use Rattle.law_all.specs.RunLaw.{bucket_in, log_in}
use Rattle.law_all.specs.RunOrder.{Answering, RunOrder, Shows, answer_of, made_by}
use Rattle.law_all.specs.Runs.{AtRest, at_close, logs_of}
use Rattle.law_all.proofs.Logs.Ledgers.{records_keep_logs}
use Rattle.law_all.proofs.Runs.Lawful.{all_changes, bucket_closed}
use Rattle.law_all.proofs.Runs.Lists.{log_is}
use Rattle.law_linear.proofs.Ordered.{made_at, order_of, serves, state_comes, state_in}
use Rattle.law_linear.specs.LinearLaw.{LinearLaw}
use Rattle.law_linear.specs.Object.{Object}
use Rattle.law_linear.specs.Order.{Made, State, first_state, state_after}
use Rattle.law_linear.specs.Points.Marked.{Blank, Entry as Told, Point}
use Rattle.law_linear.specs.Points.Stage.{Answered, Called, Outside}
use Rattle.law_linear.specs.Points.{AreRight, Marked, Stage, comes_at, object_at, object_in, stage_by, stage_in, timeless, told_in}

-- One call more in an order.

by_more : (k : ℕ) (all : List Made) (made : Made) → made_by k (all ++ made ∷ []) ≡ made_by k all ++ made_by k (made ∷ [])
by_more k [] made = refl
by_more k (x ∷ all) made = by (by_more k all made) (k == x.seat) refl
  where
    by : made_by k (all ++ made ∷ []) ≡ made_by k all ++ made_by k (made ∷ []) → (same : Bool) → (k == x.seat) ≡ same
        → made_by k ((x ∷ all) ++ made ∷ []) ≡ made_by k (x ∷ all) ++ made_by k (made ∷ [])
    by more true e = rw e (ap (λ (rest : List Answering). (x.call, x.answer) ∷ rest) more)
    by more false e = rw e more

own_more : (k : ℕ) (all : List Made) (made : Made) → (k == made.seat) ≡ true → made_by k (all ++ made ∷ []) ≡ made_by k all ++ (made.call, made.answer) ∷ []
own_more k all made e = by_more k all made ∙ rw e refl

other_more : (k : ℕ) (all : List Made) (made : Made) → (k == made.seat) ≡ false → made_by k (all ++ made ∷ []) ≡ made_by k all
other_more k all made e = by_more k all made ∙ rw e (append-nil (made_by k all))

-- What a seat's calls in the order are: those of its log, and the one under way where it has had its point.

abbrev Fit : Stage → (opened : Bool) → Option Call → List Group → List Answering → Type 0
Fit Outside opened call log made = made ≡ map answer_of log
Fit (Called one) opened call log made = (opened ≡ true) × (call ≡ Some one) × (made ≡ map answer_of log)
Fit (Answered answer) opened call log made = (opened ≡ true) × (one : Call) × (call ≡ Some one) × (made ≡ map answer_of log ++ (one, answer) ∷ [])

same_fit : (stage other : Stage) (opened opened' : Bool) (call call' : Option Call) (log log' : List Group) (made made' : List Answering) → other ≡ stage → opened' ≡ opened → call' ≡ call
    → log' ≡ log → made' ≡ made → Fit stage opened call log made → Fit other opened' call' log' made'
same_fit stage other opened opened' call call' log log' made made' s o c l m f =
    subst (λ (x : List Answering). Fit other opened' call' log' x) (sym m)
    (subst (λ (x : List Group). Fit other opened' call' x made) (sym l)
    (subst (λ (x : Option Call). Fit other opened' x log made) (sym c)
    (subst (λ (x : Bool). Fit other x call log made) (sym o) (subst (λ (x : Stage). Fit x opened call log made) (sym s) f))))

ended : (ledger : Ledger) (one : Call) (steps : ℕ) (answer : Answer) (made : List Answering) → ledger.call ≡ Some one → made ≡ map answer_of ledger.log ++ (one, timeless answer) ∷ []
    → made ≡ map answer_of (ledger_by (events.End steps answer) ledger).log
ended ledger one steps answer made e m =
    let group : Group = record { call = one; answer = answer; notes = noted ledger.notes (events.End steps answer) } in
    m ∙ sym (map-append answer_of ledger.log (group ∷ [])) ∙ ap (λ (call : Option Call). map answer_of (ledger.log ++ left_by call answer (noted ledger.notes (events.End steps answer)))) (sym e)

fit_tells : (event : Event) (stage : Stage) (opened : Bool) (ledger : Ledger) (made : List Answering) → comes_at event stage → Fit stage opened ledger.call ledger.log made
    → Fit (stage_by event stage) (opened_by event opened) (ledger_by event ledger).call (ledger_by event ledger).log made
fit_tells (events.Begin call) stage opened ledger made comes f =
    let before : made ≡ map answer_of ledger.log = subst (λ (x : Stage). Fit x opened ledger.call ledger.log made) comes f in
    (refl, refl, before)
fit_tells (events.End steps answer) stage opened ledger made comes f =
    let before : Fit (Answered (timeless answer)) opened ledger.call ledger.log made = subst (λ (x : Stage). Fit x opened ledger.call ledger.log made) comes f in
    ended ledger before.1 steps answer made before.2 before.3
fit_tells event stage opened ledger made comes f = f

abbrev FitOf : ℕ → Marked → Type 0
FitOf k m = Fit (stage_in k m) (is_open k (told_in m)) (ledger_of k (told_in m)).call (ledger_of k (told_in m)).log (made_by k (order_of m))

at_entry : (k i : ℕ) (event : Event) (m : Marked) → comes_at event (stage_in i m) → FitOf k m → (same : Bool) → (k == i) ≡ same → FitOf k (Told m i event)
at_entry k i event m comes f true e =
    let p : Past = told_in m in
    let mine : comes_at event (stage_in k m) = subst (λ (x : ℕ). comes_at event (stage_in x m)) (sym (number_is k i e)) comes in
    same_fit (stage_by event (stage_in k m)) (stage_in k (Told m i event)) (opened_by event (is_open k p)) (is_open k (Then p i event))
    (ledger_by event (ledger_of k p)).call (ledger_of k (Then p i event)).call (ledger_by event (ledger_of k p)).log (ledger_of k (Then p i event)).log (made_by k (order_of m)) (made_by k (order_of m))
    (rw e refl) (rw e refl) (rw e refl) (rw e refl) refl
    (fit_tells event (stage_in k m) (is_open k p) (ledger_of k p) (made_by k (order_of m)) mine f)
at_entry k i event m comes f false e =
    let p : Past = told_in m in
    same_fit (stage_in k m) (stage_in k (Told m i event)) (is_open k p) (is_open k (Then p i event)) (ledger_of k p).call (ledger_of k (Then p i event)).call (ledger_of k p).log
    (ledger_of k (Then p i event)).log (made_by k (order_of m)) (made_by k (order_of m)) (rw e refl) (rw e refl) (rw e refl) (rw e refl) refl f

at_point : (k i : ℕ) (call : Call) (answer : Answer) (m : Marked) → stage_in i m ≡ Called call → FitOf k m → (same : Bool) → (k == i) ≡ same → FitOf k (Point m i call answer)
at_point k i call answer m called f true e =
    let p : Past = told_in m in
    let mine : stage_in k m ≡ Called call = subst (λ (x : ℕ). stage_in x m ≡ Called call) (sym (number_is k i e)) called in
    let before : Fit (Called call) (is_open k p) (ledger_of k p).call (ledger_of k p).log (made_by k (order_of m)) =
    subst (λ (x : Stage). Fit x (is_open k p) (ledger_of k p).call (ledger_of k p).log (made_by k (order_of m))) mine f in
    let more : made_by k (order_of (Point m i call answer)) ≡ map answer_of (ledger_of k p).log ++ (call, answer) ∷ [] =
    own_more k (order_of m) (made_at m i call answer) e ∙ ap (λ (xs : List Answering). xs ++ (call, answer) ∷ []) before.2 in
    same_fit (Answered answer) (stage_in k (Point m i call answer)) (is_open k p) (is_open k p) (ledger_of k p).call (ledger_of k p).call (ledger_of k p).log (ledger_of k p).log
    (made_by k (order_of (Point m i call answer))) (made_by k (order_of (Point m i call answer))) (rw e refl) refl refl refl refl (before.0, call, before.1, more)
at_point k i call answer m called f false e =
    let p : Past = told_in m in
    same_fit (stage_in k m) (stage_in k (Point m i call answer)) (is_open k p) (is_open k p) (ledger_of k p).call (ledger_of k p).call (ledger_of k p).log (ledger_of k p).log (made_by k (order_of m))
    (made_by k (order_of (Point m i call answer))) (rw e refl) refl refl refl (other_more k (order_of m) (made_at m i call answer) e) f

fits : (c : Config) (k : ℕ) (m : Marked) → AreRight c m → FitOf k m
fits c k Blank r = refl
fits c k (Told m i event) r = at_entry k i event m r.0 (fits c k m r.1) (k == i) refl
fits c k (Point m i call answer) r = at_point k i call answer m r.0 (fits c k m r.2) (k == i) refl

-- a seat that is in no call
rested : (stage : Stage) (opened : Bool) (call : Option Call) (log : List Group) (made : List Answering) → opened ≡ false → Fit stage opened call log made → made ≡ map answer_of log
rested Outside opened call log made e f = f
rested (Called one) opened call log made e f = absurd (cc)
rested (Answered answer) opened call log made e f = let yes : opened ≡ true = f.0 in absurd (cc)

-- What the object comes to.

shown : (layout : Layout) (p : Past) → Shows layout.config (object_at p) (at_close layout p)
shown layout p =
    record {
      buckets = λ b low. bucket_closed layout p b low ∙ ap (λ (pairs : List Pair). let filling : Filling = record { version = count_of b p; pairs = pairs } in filling) (all_changes (changes_of b p));
      queue = refl;
    }

pub runs_have_order : (layout : Layout) (items : List Item) → AtRest layout items → LinearLaw layout.config (record_of layout items)
    → RunOrder layout.config (logs_of layout items) (at_close layout (record_of layout items))
runs_have_order layout items rest linear =
    let c : Config = layout.config in
    let r : Past = record_of layout items in
    let m : Marked = linear.points.marked in
    let here : (state_after c first_state (order_of linear.points.marked)).object ≡ object_at (record_of layout items) =
    ap (λ (s : State). s.object) (state_comes layout.config linear.points.marked) ∙ linear.points.leaves in
    record {
      order = order_of linear.points.marked;
      serves = serves layout.config linear.points.marked linear.points.right;
      calls = λ k.
          let idle : is_open k (told_in m) ≡ false = ap (is_open k) linear.points.tells ∙ (records_keep_logs layout items k rest.valid).busy ∙ rest.idle k in
          rested (stage_in k m) (is_open k (told_in m)) (ledger_of k (told_in m)).call (ledger_of k (told_in m)).log (made_by k (order_of m)) idle (fits c k m linear.points.right)
          ∙ ap (λ (p : Past). map answer_of (log_of k p)) linear.points.tells ∙ ap (map answer_of) (sym (log_is layout items rest k));
      shows = subst (λ (now : Object). Shows layout.config now (at_close layout (record_of layout items))) (sym here) (shown layout (record_of layout items));
    }
