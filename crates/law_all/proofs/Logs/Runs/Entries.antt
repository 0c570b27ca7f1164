-- What each history keeps of a call's entries beside its laws: a row that is retired is not on the seat's list yet, only a put, a
-- remove or an enqueue is given a row, and only a dequeue links the head.
use Rattle.std.proofs.Common.{ℕ, ◌≡◌, ◌<◌, inl, inr, Bool, true, false, List, [], ◌∷◌, ◌++◌, None, Option, Some, refl, sym, ap, ◌∙◌, subst}
use Rattle.std.specs.List.{filter}
use Rattle.std.specs.Prelude.{◌==◌, ◌||◌, not, if◌then◌else◌}
use Rattle.law_all.proofs.inv.model.Facts.{both, false_of_not, first_of, rest_of}
use Rattle.law_all.proofs.inv.model.Lists.{or_left, or_right}
use Rattle.law_all.specs.inv.model.Allocate.{is_claimed}
use Rattle.law_all.specs.inv.model.Calls.{Task, Gets, Changes, Holds, Enqueues, Dequeues, ChangeKept, EnqueueKept, LoadVersion, LoadCount, LoadKey, LoadValue, ExchangeRoot, LoadNumber, LoadNext, PassTail, ExchangeNext, ExchangeTail, LoadTail, SwingTail, TakeNumber, TakeValue, ExchangeHead, Getting, Keeping, Changing, Enqueuing, Dequeuing, ReadGuard, GiveBack, Why, Fills, Phase, Idle, Runs, Scans, Works, CallTurn, CallOutcome, GoesOn, Answers}
use Rattle.law_all.specs.inv.model.Change.{told_change}
use Rattle.law_all.specs.inv.model.Enqueue.{told_link}
use Rattle.law_all.specs.inv.model.Locals.{told_end, turn}
use Rattle.law_all.specs.inv.model.Phases.{Base, Walk}
use Rattle.law_all.specs.inv.model.Phases.AllocateAt.{ClaimSlot}
use Rattle.law_all.specs.inv.model.Phases.Base.{Allocate, Retire}
use Rattle.law_all.specs.inv.model.Phases.RetireAt.{LoadLife, LoadRetire, StoreRetired}
use Rattle.law_all.specs.inv.model.Posts.{counted}
use Rattle.law_all.specs.inv.model.World.{World, finds, is_busy, list_in, may_start, offered, told_in}
use Rattle.law_all.specs.inv.model.declared.post.Post.{Post}
use Rattle.law_all.specs.inv.model.defs.Events.{is_of_rows}
use Rattle.law_all.specs.inv.model.defs.declared.call.Call.{Call}
use Rattle.law_all.specs.inv.model.defs.declared.event.Event.{Event}
use Rattle.law_all.specs.inv.model.defs.declared.event.Event.TheVariants as events
use Rattle.law_all.specs.inv.model.defs.declared.event.Root.TheVariants as roots
use Rattle.law_all.specs.inv.model.defs.declared.fold.Change.{Change}
use Rattle.law_all.specs.inv.model.defs.declared.fold.Change.TheVariants as changes
use Rattle.law_all.specs.inv.model.defs.declared.lifetime.Lifetime.{Lifetime}
use Rattle.law_all.specs.inv.model.words.Place.{is_valid}
use Rattle.law_all.specs.inv.model.words.declared.layout.Layout.{Layout}
use Rattle.law_all.proofs.laws.Along.{OfKind, Single, list_own, list_quiet, single_each}
use Rattle.law_all.specs.laws.ScanLaw.{is_given_one}
use Rattle.law_all.specs.laws.Lists.{hands_none, is_handed, list_of}
use Rattle.law_all.specs.laws.StateAt.{began_of, is_dequeue}
use Rattle.law_all.proofs.inv.Inv.Whole.{covers_of}
use Rattle.law_all.proofs.inv.Machines.{is_within, within_of}
use Rattle.law_all.proofs.inv.covers.Kept.{before_at}
use Rattle.law_all.proofs.inv.ends.Told.Rows.{rows_told}
use Rattle.law_all.proofs.inv.history.AllOf.{all_of, of_along}
use Rattle.law_all.proofs.inv.history.Along.{Steady, items_keep}
use Rattle.law_all.proofs.inv.rows.Fits.{MoveFits}
use Rattle.law_all.proofs.inv.rows.Lists.{no_entry_from}
use Rattle.law_all.specs.inv.covers.Covers.{CoversNeeds}
use Rattle.law_all.specs.inv.ends.Told.{birth_in, move_of, row_events}
use Rattle.law_all.specs.inv.history.History.{Begins, Item, Made, Steps, done, first_made, made_of, record_of}
use Rattle.law_all.specs.inv.history.Record.{Each, Past, Test, tells_of}
use Rattle.law_all.specs.inv.history.Record.Past.{Then}
use Rattle.law_all.specs.inv.rows.Agree.{Agree}
use Rattle.law_all.specs.inv.rows.Hands.{is_right, no_entry, runs_right}
use Rattle.law_all.specs.inv.rows.Rows.{RowMove, Status, View}
use Rattle.law_all.specs.inv.rows.Rows.RowMove.{Stays, Claims, Drops, Lists, Returns}
use Rattle.law_all.specs.inv.rows.Rows.Status.{Listed, Sealed}
use Rattle.law_scans.proofs.Placing.Fronts.{linked_front, queued_front, taken_front}
use Rattle.law_scans.proofs.Placing.Marks.{is_marked, marks, marks_told}
use Rattle.law_scans.proofs.reuse.AnswersTold.Answering as answering
use Rattle.law_scans.proofs.reuse.AnswersTold.Answering.{one_began, own_began}
use Rattle.law_scans.proofs.reuse.AnswersTold.Owed.{Serves, TaskServes, WhyServes, call_for}
use Rattle.law_scans.proofs.reuse.Once.Keeps as once
use Rattle.law_all.proofs.Logs.Runs.Taking.{Handing, step_hands}

-- A row that is retired is not on the seat's list.
abbrev pub fresh_ok : Test
fresh_ok p i (events.Retire slot birth retire) = no_entry slot (list_of i p)
fresh_ok p i event = true

-- events that change a list
abbrev moves_list : Event → Bool
moves_list event = is_of_rows event || is_handed event

fresh_quiet : (p : Past) (i : ℕ) (event : Event) → moves_list event ≡ false → fresh_ok p i event ≡ true
fresh_quiet p i (events.Retire slot birth retire) h = absurd (cc)
fresh_quiet p i event h = refl

fresh_still : (p : Past) (i : ℕ) (event other : Event) → moves_list event ≡ false → fresh_ok p i other ≡ true → fresh_ok (Then p i event) i other ≡ true
fresh_still p i event (events.Retire slot birth retire) h c =
    ap (no_entry slot) (list_own i event p (or_right (is_of_rows event) (is_handed event) h)
    ∙ list_quiet event (list_of i p) (or_left (is_of_rows event) (is_handed event) h)) ∙ c
fresh_still p i event other h c = c

fresh_kind : OfKind moves_list fresh_ok
fresh_kind = record { quiet = fresh_quiet; still = fresh_still }

same_moves : (told : List Event) → hands_none told ≡ true → filter moves_list told ≡ filter is_of_rows told
same_moves [] h = refl
same_moves (event ∷ told) h =
    let none : is_handed event ≡ false = false_of_not (is_handed event) (first_of (not (is_handed event)) (hands_none told) h) in
    by (is_of_rows event) (is_handed event) none (same_moves told (rest_of (not (is_handed event)) (hands_none told) h))
  where
    by : (rows handed : Bool) → handed ≡ false → filter moves_list told ≡ filter is_of_rows told
        → (if rows || handed then event ∷ filter moves_list told else filter moves_list told) ≡ (if rows then event ∷ filter is_of_rows told else filter is_of_rows told)
    by rows true n e = absurd (cc)
    by true false n e = ap (λ (xs : List Event). event ∷ xs) e
    by false false n e = e

fresh_told : (i : ℕ) (told : List Event) (p : Past) → Handing told → Single fresh_ok p i (filter is_of_rows told) → Each fresh_ok p → Each fresh_ok (tells_of p i told)
fresh_told i told p (inl n) s g =
    single_each moves_list fresh_ok fresh_kind i told p (subst (λ (xs : List Event). Single fresh_ok p i xs) (sym (same_moves told n)) s) g
fresh_told i told p (inr t) s g = subst (λ (xs : List Event). Each fresh_ok (tells_of p i xs)) (sym t.is) (refl, g)

-- a row in hand is on no list
not_listed : (x : Status) (i retire r : ℕ) (lists : Bool) → x ≡ Sealed i retire → (lists ≡ true → x ≡ Listed i r) → lists ≡ false
not_listed x i retire r true e f = let listed = f refl in absurd (cc)
not_listed x i retire r false e f = refl

fresh_move : (w : World) (i birth : ℕ) (v : View) (p : Past) (m : RowMove) → Agree w v → MoveFits i v m → list_of i p ≡ list_in w i
    → Single fresh_ok p i (row_events birth m)
fresh_move w i birth v p (Lists slot born retire) a f e =
    let list : List Lifetime = list_in w i in
    ap (no_entry slot) e
    ∙ no_entry_from list slot (λ b r. sym ((a.plays i).lists slot b r) ∙ not_listed (v.status slot) i retire r (v.lists i slot b r) f
    (λ l. a.good.listed i slot b r l))
fresh_move w i birth v p (Claims slot) a f e = refl
fresh_move w i birth v p (Drops slot) a f e = refl
fresh_move w i birth v p (Returns slot) a f e = refl
fresh_move w i birth v p m a f e = tt

-- Only a put, a remove or an enqueue is given a row, and only a dequeue links the head.
abbrev pub kind_right : Option Call → Event → Bool
kind_right call (events.Give slot birth) = is_given_one call
kind_right call (events.Link roots.Head slot) = is_dequeue call
kind_right call event = true

abbrev pub kinds_ok : Test
kinds_ok p i event = kind_right (began_of i p) event

-- what a phase's step tells of rows, links and changes
fill_kind : (task : Task) (birth slot : ℕ) (walk : Walk) (call : Call) → runs_right (Fills task) (Allocate (ClaimSlot birth walk)) ≡ true
    → TaskServes call task → all_of (kind_right (Some call)) (events.Give slot birth ∷ []) ≡ true
fill_kind (Gets key) birth slot walk call r s = absurd (cc)
fill_kind (Changes kept) birth slot walk call r s = rw s.is (by kept.change kept.wanted)
  where
    by : (change : Change) (wanted : Option ℕ) → all_of (kind_right (Some (call_for change wanted))) (events.Give slot birth ∷ []) ≡ true
    by (changes.Put key value) None = refl
    by (changes.Put key value) (Some version) = refl
    by (changes.Removed key) wanted = refl
fill_kind (Holds key) birth slot walk call r s = absurd (cc)
fill_kind (Enqueues kept) birth slot walk call r s = rw s refl
fill_kind Dequeues birth slot walk call r s = absurd (cc)

claim_kind : (why : Why) (birth : ℕ) (walk : Walk) (call : Call) (taken : Bool) → runs_right why (Allocate (ClaimSlot birth walk)) ≡ true → WhyServes call why
    → all_of (kind_right (Some call)) (row_events birth (if taken then Stays else Claims walk.slot)) ≡ true
claim_kind why birth walk call true r s = refl
claim_kind (Fills task) birth walk call false r s = fill_kind task birth walk.slot walk call r s
claim_kind why birth walk call false r s = absurd (cc)

run_kind : (why : Why) (base : Base) (post : Post) (found : ℕ) (call : Call) → runs_right why base ≡ true → WhyServes call why
    → all_of (kind_right (Some call)) (marks (Runs why base) post found) ≡ true
run_kind why (Allocate (ClaimSlot birth walk)) post found call r s = claim_kind why birth walk call (is_claimed found walk.slot) r s
run_kind why (Retire (LoadLife slot)) post found call r s = refl
run_kind why (Retire (LoadRetire slot birth)) post found call r s = refl
run_kind why (Retire (StoreRetired slot birth retire)) post found call r s = refl
run_kind why base post found call r s = refl

tail_kind : (call : Call) (slot : ℕ) (same : Bool) → all_of (kind_right (Some call)) (told_link roots.Tail slot same) ≡ true
tail_kind call slot true = refl
tail_kind call slot false = refl

change_kind : (call : Call) (bucket version : ℕ) (change : Change) → all_of (kind_right (Some call)) (told_change bucket version change ∷ []) ≡ true
change_kind call bucket version (changes.Put key value) = refl
change_kind call bucket version (changes.Removed key) = refl

linked_kind : (call : Call) (slot : ℕ) (null : Bool) (told : List Event) → all_of (kind_right (Some call)) told ≡ true
    → all_of (kind_right (Some call)) ((if null then [] else events.Cut slot ∷ []) ++ told) ≡ true
linked_kind call slot true told h = h
linked_kind call slot false told h = h

exchange_kind : (call : Call) (kept : ChangeKept) (slot : ℕ) (post : Post) (same : Bool)
    → all_of (kind_right (Some call)) (linked_front kept slot post same) ≡ true
exchange_kind call kept slot post true = linked_kind call _ (kept.link == 0) _ (change_kind call _ _ kept.change)
exchange_kind call kept slot post false = refl

append_kind : (call : Call) (kept : EnqueueKept) (slot : ℕ) (same : Bool) → all_of (kind_right (Some call)) (queued_front kept slot same) ≡ true
append_kind call kept slot true = refl
append_kind call kept slot false = refl

pop_kind : (call : Call) (head next number value : ℕ) (same : Bool) → Serves call (Works (Dequeuing (ExchangeHead head next number value)))
    → all_of (kind_right (Some call)) (taken_front head next number value same) ≡ true
pop_kind call head next number value true s = rw s refl
pop_kind call head next number value false s = refl

marks_kind : (phase : Phase) (post : Post) (found : ℕ) (list : List Lifetime) (call : Call) → is_right phase list ≡ true → Serves call phase
    → all_of (kind_right (Some call)) (marks phase post found) ≡ true
marks_kind Idle post found list call r s = refl
marks_kind (Runs why base) post found list call r s = run_kind why base post found call r s
marks_kind (Scans later (ReadGuard number)) post found list call r s = refl
marks_kind (Scans later (GiveBack place slot)) post found list call r s = refl
marks_kind (Works (Getting key at)) post found list call r s = refl
marks_kind (Works (Keeping at)) post found list call r s = refl
marks_kind (Works (Changing kept (LoadVersion slot))) post found list call r s = refl
marks_kind (Works (Changing kept (LoadCount slot))) post found list call r s = refl
marks_kind (Works (Changing kept (LoadKey slot count))) post found list call r s = refl
marks_kind (Works (Changing kept (LoadValue slot count key))) post found list call r s = refl
marks_kind (Works (Changing kept (ExchangeRoot slot))) post found list call r s = exchange_kind call kept slot (counted post) (found == kept.link)
marks_kind (Works (Enqueuing kept LoadNumber)) post found list call r s = refl
marks_kind (Works (Enqueuing kept LoadNext)) post found list call r s = refl
marks_kind (Works (Enqueuing kept (PassTail next))) post found list call r s = tail_kind call _ _
marks_kind (Works (Enqueuing kept (ExchangeNext slot))) post found list call r s = append_kind call kept slot (found == 0)
marks_kind (Works (Enqueuing kept (ExchangeTail slot))) post found list call r s = tail_kind call _ _
marks_kind (Works (Dequeuing (LoadTail head))) post found list call r s = refl
marks_kind (Works (Dequeuing (SwingTail head next))) post found list call r s = tail_kind call _ _
marks_kind (Works (Dequeuing (TakeNumber head next))) post found list call r s = refl
marks_kind (Works (Dequeuing (TakeValue head next number))) post found list call r s = refl
marks_kind (Works (Dequeuing (ExchangeHead head next number value))) post found list call r s = pop_kind call head next number value _ s

-- all that it tells
kind_other : (call : Option Call) (event : Event) → is_marked event ≡ false → kind_right call event ≡ true
kind_other call (events.Give slot birth) h = absurd (cc)
kind_other call (events.Link root slot) h = absurd (cc)
kind_other call event h = refl

filter_one : (call : Option Call) (event : Event) (told : List Event) (loud : Bool) → is_marked event ≡ loud
    → (all_of (kind_right call) (filter is_marked told) ≡ true → all_of (kind_right call) told ≡ true)
    → all_of (kind_right call) (filter is_marked (event ∷ told)) ≡ true → all_of (kind_right call) (event ∷ told) ≡ true
filter_one call event told true e f h =
    let g : all_of (kind_right call) (event ∷ filter is_marked told) ≡ true = rw e at h in
    both (kind_right call event) (all_of (kind_right call) told) (first_of (kind_right call event) (all_of (kind_right call) (filter is_marked told)) g)
    (f (rest_of (kind_right call event) (all_of (kind_right call) (filter is_marked told)) g))
filter_one call event told false e f h =
    let g : all_of (kind_right call) (filter is_marked told) ≡ true = rw e at h in
    both (kind_right call event) (all_of (kind_right call) told) (kind_other call event e) (f g)

of_filter : (call : Option Call) (told : List Event) → all_of (kind_right call) (filter is_marked told) ≡ true → all_of (kind_right call) told ≡ true
of_filter call [] h = refl
of_filter call (event ∷ told) h = filter_one call event told (is_marked event) refl (of_filter call told) h

end_kind : (call : Option Call) (post : Post) (outcome : CallOutcome) → all_of (kind_right call) (told_end post outcome) ≡ true
end_kind call post (GoesOn phase) = refl
end_kind call post (Answers answer) = refl

step_kind : (w : World) (i : ℕ) → is_right (w.seat i).phase (list_in w i) ≡ true → Serves (w.seat i).call (w.seat i).phase
    → all_of (kind_right (Some (w.seat i).call)) (told_in w i) ≡ true
step_kind w i r s =
    let t : CallTurn = turn (offered w i) (finds w i) in
    let call : Option Call = Some (w.seat i).call in
    of_along (kind_right call) t.told (told_end t.post t.outcome)
    (of_filter call t.told (subst (λ (told : List Event). all_of (kind_right call) told ≡ true) (sym (marks_told w i))
    (marks_kind (w.seat i).phase (w.seat i).post (finds w i) (list_in w i) (w.seat i).call r s)))
    (end_kind call t.post t.outcome)

-- within a call
kinds_each : (i : ℕ) (told : List Event) (p : Past) → all_of is_within told ≡ true → all_of (kind_right (began_of i p)) told ≡ true → Each kinds_ok p
    → Each kinds_ok (tells_of p i told)
kinds_each i [] p w h g = g
kinds_each i (event ∷ told) p w h g =
    let same : began_of i (Then p i event) ≡ began_of i p =
    own_began i p event ∙ one_began event (began_of i p) (first_of (is_within event) (all_of is_within told) w) in
    kinds_each i told (Then p i event) (rest_of (is_within event) (all_of is_within told) w)
    (subst (λ (x : Option Call). all_of (kind_right x) told ≡ true) (sym same)
    (rest_of (kind_right (began_of i p) event) (all_of (kind_right (began_of i p)) told) h))
    (first_of (kind_right (began_of i p) event) (all_of (kind_right (began_of i p)) told) h, g)

-- what a history keeps
record Keeps (layout : Layout) (made : Made) : Type 0 where
  base : once.Keeps layout made
  answers : answering.Keeps layout.config.buckets made
  fresh : Each fresh_ok made.past
  kinds : Each kinds_ok made.past

begin_keeps : (layout : Layout) (made : Made) (i : ℕ) (call : Call) → is_busy made.world i ≡ false → may_start made.world i call ≡ true
    → Keeps layout made → Keeps layout (done made (Begins i call))
begin_keeps layout made i call f m g = record {
  base = once.begin_keeps layout made i call f m g.base;
  answers = answering.begin_keeps layout.config.buckets made i call f m g.answers;
  fresh = (refl, g.fresh);
  kinds = (refl, g.kinds);
}

step_keeps : (layout : Layout) (made : Made) (i : ℕ) → i < made.world.layout.config.seats → is_busy made.world i ≡ true → Keeps layout made
    → Keeps layout (done made (Steps i))
step_keeps layout made i b y g =
    let w : World = made.world in
    let p : Past = made.past in
    let v : View = g.base.rows in
    let n : CoversNeeds w i v = covers_of w i v g.base.line g.base.asked g.base.known in
    let s = g.answers.seats i in
    let fresh : Single fresh_ok p i (row_events (birth_in (w.seat i).phase) (move_of w i)) =
    fresh_move w i (birth_in (w.seat i).phase) v p (move_of w i) n.rows (before_at w i v n) (g.base.shows.lists i) in
    record {
      base = once.step_keeps layout made i b y g.base;
      answers = answering.step_keeps layout.config.buckets made i b y g.answers;
      fresh = fresh_told i (told_in w i) p (step_hands w i)
          (subst (λ (told : List Event). Single fresh_ok p i told) (sym (rows_told w i)) fresh) g.fresh;
      kinds = kinds_each i (told_in w i) p (within_of w i)
          (subst (λ (x : Option Call). all_of (kind_right x) (told_in w i) ≡ true) (sym (s.began y)) (step_kind w i (n.rows.plays i).right (s.serves y)))
          g.kinds;
    }

steady : (layout : Layout) → Steady (Keeps layout)
steady layout = record { begins = λ made i call b y m g. begin_keeps layout made i call y m g; steps = λ made i b y g. step_keeps layout made i b y g }

keeps_all : (layout : Layout) (items : List Item) → is_valid layout ≡ true → Keeps layout (made_of layout items)
keeps_all layout items d =
    items_keep (Keeps layout) (steady layout) items (first_made layout)
    (record { base = once.first_keeps layout d; answers = answering.first_keeps layout d; fresh = tt; kinds = tt })

pub records_keep_fresh : (layout : Layout) (items : List Item) → is_valid layout ≡ true → Each fresh_ok (record_of layout items)
records_keep_fresh layout items d = (keeps_all layout items d).fresh

pub records_keep_kinds : (layout : Layout) (items : List Item) → is_valid layout ≡ true → Each kinds_ok (record_of layout items)
records_keep_kinds layout items d = (keeps_all layout items d).kinds
