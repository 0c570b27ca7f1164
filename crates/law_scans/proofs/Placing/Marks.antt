-- What a step tells of rows, links and changes, in order; and that what the other phases tell is none of links and changes.
use Rattle.std.proofs.Common.{ℕ, ◌≡◌, ◌-◌, Bool, true, false, List, [], ◌∷◌, ◌++◌, refl, sym, ap, ◌∙◌, subst}
use Rattle.std.proofs.lemmas.List.Elements.{filter-append}
use Rattle.std.specs.List.{filter}
use Rattle.std.specs.Prelude.{◌==◌, if◌then◌else◌}
use Rattle.law_reuse.specs.inv.model.defs.declared.event.Event.{Event}
use Rattle.law_reuse.specs.inv.model.defs.declared.event.Event.TheVariants as events
use Rattle.law_reuse.specs.inv.model.defs.declared.event.Root.{Root}
use Rattle.law_reuse.specs.inv.model.defs.declared.event.Root.TheVariants as roots
use Rattle.law_reuse.specs.inv.model.defs.declared.fold.Change.{Change}
use Rattle.law_reuse.specs.inv.model.defs.declared.fold.Change.TheVariants as changes
use Rattle.law_reuse.specs.inv.model.declared.post.Post.{Post}
use Rattle.law_reuse.specs.inv.model.Change.{told_change, changed_bucket}
use Rattle.law_reuse.specs.inv.model.Enqueue.{told_link}
use Rattle.law_reuse.specs.inv.model.Desks.{Desk}
use Rattle.law_reuse.specs.inv.model.Locals.{told_end, turn}
use Rattle.law_reuse.specs.inv.model.Posts.{counted}
use Rattle.law_reuse.specs.inv.model.Steps.{phase_turn}
use Rattle.law_reuse.specs.inv.model.Calls.{ChangeKept, EnqueueKept, LoadVersion, LoadCount, LoadKey, LoadValue, ExchangeRoot, LoadNumber, LoadNext, PassTail, ExchangeNext, ExchangeTail, LoadTail, SwingTail, TakeNumber, TakeValue, ExchangeHead, Work, Getting, Changing, Enqueuing, Dequeuing, Keeping, Phase, Idle, Runs, Scans, Works, CallTurn, CallOutcome, GoesOn, Answers}
use Rattle.law_reuse.specs.inv.model.World.{World, finds, offered}
use Rattle.law_reuse.proofs.inv.model.Facts.{first_of, rest_of}
use Rattle.law_reuse.specs.inv.rows.Hands.{row_move}
use Rattle.law_reuse.specs.inv.model.defs.Events.{is_of_rows}
use Rattle.law_reuse.specs.inv.ends.Told.{row_events, birth_in, move_of}
use Rattle.law_reuse.proofs.inv.ends.Told.Rows.{rows_told}
use Rattle.law_reuse.proofs.AnswersTold.Owed.{append_none}
use Rattle.law_reuse.proofs.inv.history.AllOf.{all_of, of_along, of_weaker}
use Rattle.law_reuse.proofs.inv.Machines.{is_machine, base_machine, scan_machine}
use Rattle.law_scans.proofs.Placing.Fronts.{is_after, Starts, linked_front, queued_front, taken_front, work_front, front, turn_starts}

-- of rows, links and changes, or the beginning or the end of a call
abbrev pub is_marked : Event → Bool
is_marked (events.Begin call) = true
is_marked (events.End steps answer) = true
is_marked (events.Give slot birth) = true
is_marked (events.Unused slot) = true
is_marked (events.Link root slot) = true
is_marked (events.Cut slot) = true
is_marked (events.Retire slot birth retire) = true
is_marked (events.Back slot) = true
is_marked (events.Put bucket version key value) = true
is_marked (events.Removed bucket version key) = true
is_marked (events.Queued number value) = true
is_marked (events.Taken number value) = true
is_marked event = false

-- of links and changes, beginnings and ends none
abbrev pub is_common : Event → Bool
is_common (events.Begin call) = false
is_common (events.End steps answer) = false
is_common (events.Link root slot) = false
is_common (events.Cut slot) = false
is_common (events.Put bucket version key value) = false
is_common (events.Removed bucket version key) = false
is_common (events.Queued number value) = false
is_common (events.Taken number value) = false
is_common event = true

machine_common : (event : Event) → is_machine event ≡ true → is_common event ≡ true
machine_common (events.Begin call) h = absurd (cc)
machine_common (events.End steps answer) h = absurd (cc)
machine_common (events.Link root slot) h = absurd (cc)
machine_common (events.Cut slot) h = absurd (cc)
machine_common (events.Put bucket version key value) h = absurd (cc)
machine_common (events.Removed bucket version key) h = absurd (cc)
machine_common (events.Queued number value) h = absurd (cc)
machine_common (events.Taken number value) h = absurd (cc)
machine_common event h = refl

after_common : (event : Event) → is_after event ≡ true → is_common event ≡ true
after_common (events.Begin call) h = absurd (cc)
after_common (events.End steps answer) h = absurd (cc)
after_common (events.Link root slot) h = absurd (cc)
after_common (events.Cut slot) h = absurd (cc)
after_common (events.Put bucket version key value) h = absurd (cc)
after_common (events.Removed bucket version key) h = absurd (cc)
after_common (events.Queued number value) h = absurd (cc)
after_common (events.Taken number value) h = absurd (cc)
after_common event h = refl

after_other : (event : Event) → is_after event ≡ true → is_marked event ≡ false
after_other (events.Got bucket version key value) h = refl
after_other (events.Clear index slot) h = refl
after_other (events.Begin call) h = absurd (cc)
after_other (events.End steps answer) h = absurd (cc)
after_other (events.Give slot birth) h = absurd (cc)
after_other (events.Unused slot) h = absurd (cc)
after_other (events.Link root slot) h = absurd (cc)
after_other (events.Cut slot) h = absurd (cc)
after_other (events.Retire slot birth retire) h = absurd (cc)
after_other (events.Back slot) h = absurd (cc)
after_other (events.Put bucket version key value) h = absurd (cc)
after_other (events.Removed bucket version key) h = absurd (cc)
after_other (events.Queued number value) h = absurd (cc)
after_other (events.Taken number value) h = absurd (cc)
after_other event h = refl

common_marked : (event : Event) → is_common event ≡ true → is_marked event ≡ is_of_rows event
common_marked (events.Begin call) h = absurd (cc)
common_marked (events.End steps answer) h = absurd (cc)
common_marked (events.Link root slot) h = absurd (cc)
common_marked (events.Cut slot) h = absurd (cc)
common_marked (events.Put bucket version key value) h = absurd (cc)
common_marked (events.Removed bucket version key) h = absurd (cc)
common_marked (events.Queued number value) h = absurd (cc)
common_marked (events.Taken number value) h = absurd (cc)
common_marked event h = refl

end_rows : (post : Post) (outcome : CallOutcome) → filter is_of_rows (told_end post outcome) ≡ []
end_rows post (GoesOn phase) = refl
end_rows post (Answers answer) = refl

after_none : (told : List Event) → all_of is_after told ≡ true → filter is_marked told ≡ []
after_none [] h = refl
after_none (event ∷ told) h =
    let e : is_marked event ≡ false = after_other event (first_of (is_after event) (all_of is_after told) h) in
    rw e (after_none told (rest_of (is_after event) (all_of is_after told) h))

common_rows : (told : List Event) → all_of is_common told ≡ true → filter is_marked told ≡ filter is_of_rows told
common_rows [] h = refl
common_rows (event ∷ told) h =
    let e : is_marked event ≡ is_of_rows event = common_marked event (first_of (is_common event) (all_of is_common told) h) in
    rw (e, common_rows told (rest_of (is_common event) (all_of is_common told) h)) refl

-- a call's own step tells nothing else first
altered_marked : (bucket version : ℕ) (change : Change) → filter is_marked (told_change bucket version change ∷ []) ≡ told_change bucket version change ∷ []
altered_marked bucket version (changes.Put key value) = refl
altered_marked bucket version (changes.Removed key) = refl

cut_marked : (link : ℕ) (none : Bool) (told : List Event) → filter is_marked told ≡ told → filter is_marked ((if none then [] else events.Cut (link - 1) ∷ []) ++ told) ≡ (if none then [] else events.Cut (link - 1) ∷ []) ++ told
cut_marked link true told h = h
cut_marked link false told h = ap (λ (rest : List Event). events.Cut (link - 1) ∷ rest) h

linked_marked : (kept : ChangeKept) (slot : ℕ) (post : Post) (same : Bool) → filter is_marked (linked_front kept slot post same) ≡ linked_front kept slot post same
linked_marked kept slot post true =
    ap (λ (rest : List Event). events.Link (roots.Bucket (changed_bucket kept post)) slot ∷ rest)
    (cut_marked kept.link (kept.link == 0) _ (altered_marked (changed_bucket kept post) _ kept.change))
linked_marked kept slot post false = refl

link_marked : (root : Root) (slot : ℕ) (same : Bool) → filter is_marked (told_link root slot same) ≡ told_link root slot same
link_marked root slot true = refl
link_marked root slot false = refl

queued_marked : (kept : EnqueueKept) (slot : ℕ) (same : Bool) → filter is_marked (queued_front kept slot same) ≡ queued_front kept slot same
queued_marked kept slot true = refl
queued_marked kept slot false = refl

taken_marked : (head next number value : ℕ) (same : Bool) → filter is_marked (taken_front head next number value same) ≡ taken_front head next number value same
taken_marked head next number value true = refl
taken_marked head next number value false = refl

work_marked : (work : Work) (post : Post) (found : ℕ) → filter is_marked (work_front work post found) ≡ work_front work post found
work_marked (Getting key at) post found = refl
work_marked (Changing kept (LoadVersion slot)) post found = refl
work_marked (Changing kept (LoadCount slot)) post found = refl
work_marked (Changing kept (LoadKey slot count)) post found = refl
work_marked (Changing kept (LoadValue slot count key)) post found = refl
work_marked (Changing kept (ExchangeRoot slot)) post found = linked_marked kept slot post (found == kept.link)
work_marked (Enqueuing kept LoadNumber) post found = refl
work_marked (Enqueuing kept LoadNext) post found = refl
work_marked (Enqueuing kept (PassTail next)) post found = link_marked roots.Tail (next - 1) _
work_marked (Enqueuing kept (ExchangeNext slot)) post found = queued_marked kept slot (found == 0)
work_marked (Enqueuing kept (ExchangeTail slot)) post found = link_marked roots.Tail slot _
work_marked (Keeping at) post found = refl
work_marked (Dequeuing (LoadTail head)) post found = refl
work_marked (Dequeuing (SwingTail head next)) post found = link_marked roots.Tail next _
work_marked (Dequeuing (TakeNumber head next)) post found = refl
work_marked (Dequeuing (TakeValue head next number)) post found = refl
work_marked (Dequeuing (ExchangeHead head next number value)) post found = taken_marked head next number value _

-- what a phase's step tells of rows, links and changes
abbrev pub marks : Phase → Post → ℕ → List Event
marks Idle post found = []
marks (Runs why base) post found = row_events (birth_in (Runs why base)) (row_move (Runs why base) post found)
marks (Scans later at) post found = row_events (birth_in (Scans later at)) (row_move (Scans later at) post found)
marks (Works work) post found = work_front work (counted post) found

-- what a call's own step tells first; of the other phases nothing has to come first
abbrev pub ordered : Phase → Post → ℕ → List Event
ordered Idle post found = []
ordered (Runs why base) post found = []
ordered (Scans later at) post found = []
ordered (Works work) post found = work_front work (counted post) found

-- what a step tells: these first, and then no links and changes
pub record InOrder (first told : List Event) : Type 0 where
  pub rest : List Event
  pub is : told ≡ first ++ rest
  pub calm : all_of is_common rest ≡ true

machine_order : (front : List Event) (t : CallTurn) → Starts front t → all_of is_machine front ≡ true → InOrder [] t.told
machine_order front t s h = record {
  rest = t.told;
  is = refl;
  calm = rw s.is (of_along is_common front s.more (of_weaker is_machine is_common front machine_common h) (of_weaker is_after is_common s.more after_common s.calm));
}

front_order : (front : List Event) (t : CallTurn) → Starts front t → InOrder front t.told
front_order front t s = record { rest = s.more; is = s.is; calm = of_weaker is_after is_common s.more after_common s.calm }

told_order : (phase : Phase) (post : Post) (desk : Desk) (found : ℕ) → InOrder (ordered phase post found) (phase_turn phase (counted post) desk found).told
told_order Idle post desk found = front_order [] (phase_turn Idle (counted post) desk found) (turn_starts Idle (counted post) desk found)
told_order (Runs why base) post desk found = machine_order (front (Runs why base) (counted post) found) _ (turn_starts (Runs why base) (counted post) desk found) (base_machine base (counted post) found)
told_order (Scans later at) post desk found = machine_order (front (Scans later at) (counted post) found) _ (turn_starts (Scans later at) (counted post) desk found) (scan_machine at (counted post) found)
told_order (Works work) post desk found = front_order (work_front work (counted post) found) _ (turn_starts (Works work) (counted post) desk found)

-- what the step of a seat tells, but for the end of its call
abbrev pub tells : World → ℕ → List Event
tells w i = (turn (offered w i) (finds w i)).told

pub step_order : (w : World) (i : ℕ) → InOrder (ordered (w.seat i).phase (w.seat i).post (finds w i)) (tells w i)
step_order w i = told_order (w.seat i).phase (w.seat i).post (offered w i).desk (finds w i)

work_marks : (work : Work) (post : Post) (t : CallTurn) (found : ℕ) → Starts (work_front work post found) t → filter is_marked t.told ≡ work_front work post found
work_marks work post t found s =
    ap (filter is_marked) s.is
    ∙ filter-append is_marked (work_front work post found) s.more
    ∙ ap (λ (told : List Event). told ++ filter is_marked s.more) (work_marked work post found)
    ∙ ap (λ (told : List Event). work_front work post found ++ told) (after_none s.more s.calm)
    ∙ append_none (work_front work post found)

told_rows : (w : World) (i : ℕ) → filter is_of_rows (tells w i) ≡ row_events (birth_in (w.seat i).phase) (move_of w i)
told_rows w i =
    let t : CallTurn = turn (offered w i) (finds w i) in
    sym (filter-append is_of_rows t.told (told_end t.post t.outcome)
    ∙ ap (λ (told : List Event). filter is_of_rows t.told ++ told) (end_rows t.post t.outcome)
    ∙ append_none (filter is_of_rows t.told))
    ∙ rows_told w i

row_marks : (w : World) (i : ℕ) → ordered (w.seat i).phase (w.seat i).post (finds w i) ≡ [] → filter is_marked (tells w i) ≡ row_events (birth_in (w.seat i).phase) (move_of w i)
row_marks w i z =
    let o : InOrder (ordered (w.seat i).phase (w.seat i).post (finds w i)) (tells w i) = step_order w i in
    let s : tells w i ≡ o.rest = o.is ∙ ap (λ (told : List Event). told ++ o.rest) z in
    common_rows (tells w i) (subst (λ (told : List Event). all_of is_common told ≡ true) (sym s) o.calm) ∙ told_rows w i

plain_marks : (w : World) (i : ℕ) (phase : Phase) → (w.seat i).phase ≡ phase → ordered phase (w.seat i).post (finds w i) ≡ [] → filter is_marked (tells w i) ≡ row_events (birth_in phase) (row_move phase (w.seat i).post (finds w i))
plain_marks w i phase e z =
    row_marks w i (ap (λ (x : Phase). ordered x (w.seat i).post (finds w i)) e ∙ z)
    ∙ ap (λ (x : Phase). row_events (birth_in x) (row_move x (w.seat i).post (finds w i))) e

marks_by : (w : World) (i : ℕ) (phase : Phase) → (w.seat i).phase ≡ phase → filter is_marked (tells w i) ≡ marks phase (w.seat i).post (finds w i)
marks_by w i Idle e = plain_marks w i Idle e refl
marks_by w i (Runs why base) e = plain_marks w i (Runs why base) e refl
marks_by w i (Scans later at) e = plain_marks w i (Scans later at) e refl
marks_by w i (Works work) e =
    ap (λ (x : Phase). filter is_marked (phase_turn x (counted (w.seat i).post) (offered w i).desk (finds w i)).told) e
    ∙ work_marks work (counted (w.seat i).post) (phase_turn (Works work) (counted (w.seat i).post) (offered w i).desk (finds w i)) (finds w i) (turn_starts (Works work) (counted (w.seat i).post) (offered w i).desk (finds w i))

pub marks_told : (w : World) (i : ℕ) → filter is_marked (tells w i) ≡ marks (w.seat i).phase (w.seat i).post (finds w i)
marks_told w i = marks_by w i (w.seat i).phase refl
