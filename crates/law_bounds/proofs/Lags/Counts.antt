-- A step queues no value, but for the exchange of a null next link, which queues one.
use Rattle.std.proofs.Common.{length-append, ℕ, ◌≡◌, ◌+◌, ◌-◌, Bool, true, false, List, [], ◌∷◌, ◌++◌, length, refl, sym, subst}
use Rattle.std.specs.Prelude.{◌==◌, if◌then◌else◌}
use Rattle.law_held.specs.inv.history.Record.{Past, tells_of}
use Rattle.law_held.specs.inv.history.Record.Past.{Then}
use Rattle.law_held.specs.inv.model.Calls.{ChangeKept, EnqueueKept, LoadVersion, LoadCount, LoadKey, LoadValue, ExchangeRoot, LoadNumber, LoadNext, PassTail, ExchangeNext, ExchangeTail, LoadTail, SwingTail, TakeNumber, TakeValue, ExchangeHead, Getting, Changing, Enqueuing, Dequeuing, Keeping, Phase, Idle, Runs, Scans, Works, CallOutcome, GoesOn, Answers}
use Rattle.law_held.specs.inv.model.Change.{changed_bucket, told_change}
use Rattle.law_held.specs.inv.model.Enqueue.{told_link}
use Rattle.law_held.specs.inv.model.Locals.{told_end}
use Rattle.law_held.specs.inv.model.Posts.{counted}
use Rattle.law_held.specs.inv.model.World.{World, finds, told_in}
use Rattle.law_held.specs.inv.model.declared.post.Post.{Post}
use Rattle.law_held.specs.inv.model.defs.declared.event.Event.{Event}
use Rattle.law_held.specs.inv.model.defs.declared.event.Event.TheVariants as events
use Rattle.law_held.specs.inv.model.defs.declared.event.Root.{Root}
use Rattle.law_held.specs.inv.model.defs.declared.event.Root.TheVariants as roots
use Rattle.law_held.specs.inv.model.defs.declared.fold.Change.{Change}
use Rattle.law_held.specs.inv.model.defs.declared.fold.Change.TheVariants as changes
use Rattle.law_held.specs.inv.ends.Told.{birth_in, row_events}
use Rattle.law_held.specs.inv.rows.Hands.{row_move}
use Rattle.law_held.specs.inv.rows.Rows.{RowMove}
use Rattle.law_held.specs.inv.rows.Rows.RowMove.{Stays, Claims, Bears, Drops, Links, Replaces, Appends, Pops, Reads, Seals, Lists, Returns, Adopts}
use Rattle.law_held.specs.laws.StructuresAt.{queued_of}
use Rattle.law_held.proofs.laws.Along.{along}
use Rattle.law_held.proofs.scans.Ordering.Ordered.{whole_comes}
use Rattle.law_held.proofs.scans.Placing.Fronts.{linked_front, queued_front, taken_front}
use Rattle.law_held.proofs.scans.Placing.Marks.{is_marked, marks}

-- how many values were queued
abbrev queued_by : Event → ℕ → ℕ
queued_by (events.Queued number value) n = n + 1
queued_by event n = n

one_queued : (p : Past) (i : ℕ) (event : Event) → length (queued_of (Then p i event)) ≡ queued_by event (length (queued_of p))
one_queued p i (events.Queued number value) = length-append (queued_of p) (value ∷ [])
one_queued p i event = refl

unmarked_still : (event : Event) (n : ℕ) → is_marked event ≡ false → queued_by event n ≡ n
unmarked_still (events.Queued number value) n h = absurd (cc)
unmarked_still event n h = refl

end_still : (post : Post) (outcome : CallOutcome) (n : ℕ) → along queued_by (told_end post outcome) n ≡ n
end_still post (GoesOn phase) n = refl
end_still post (Answers answer) n = refl

rows_still : (b : ℕ) (m : RowMove) (n : ℕ) → along queued_by (row_events b m) n ≡ n
rows_still b Stays n = refl
rows_still b (Claims slot) n = refl
rows_still b (Bears slot birth) n = refl
rows_still b (Drops slot) n = refl
rows_still b (Links bucket slot) n = refl
rows_still b (Replaces bucket slot old) n = refl
rows_still b (Appends slot) n = refl
rows_still b (Pops slot next) n = refl
rows_still b (Reads slot birth) n = refl
rows_still b (Seals slot birth retire) n = refl
rows_still b (Lists slot birth retire) n = refl
rows_still b (Returns slot) n = refl
rows_still b (Adopts from) n = refl

link_still : (root : Root) (slot : ℕ) (same : Bool) (n : ℕ) → along queued_by (told_link root slot same) n ≡ n
link_still root slot true n = refl
link_still root slot false n = refl

taken_still : (head next number value n : ℕ) (same : Bool) → along queued_by (taken_front head next number value same) n ≡ n
taken_still head next number value n true = refl
taken_still head next number value n false = refl

change_still : (bucket version : ℕ) (change : Change) (n : ℕ) → along queued_by (told_change bucket version change ∷ []) n ≡ n
change_still bucket version (changes.Put key value) n = refl
change_still bucket version (changes.Removed key) n = refl

cut_still : (link : ℕ) (none : Bool) (told : List Event) (n : ℕ) → along queued_by told n ≡ n → along queued_by ((if none then [] else events.Cut (link - 1) ∷ []) ++ told) n ≡ n
cut_still link true told n h = h
cut_still link false told n h = h

linked_still : (kept : ChangeKept) (slot : ℕ) (post : Post) (n : ℕ) (same : Bool) → along queued_by (linked_front kept slot post same) n ≡ n
linked_still kept slot post n true = cut_still kept.link (kept.link == 0) _ n (change_still (changed_bucket kept post) (kept.version + 1) kept.change n)
linked_still kept slot post n false = refl

-- how many are queued after a step
pub data Counted (phase : Phase) (found n m : ℕ) : Type 0 where
  Same : m ≡ n → Counted phase found n m
  More : (kept : EnqueueKept) (slot : ℕ) → phase ≡ Works (Enqueuing kept (ExchangeNext slot)) → (found == 0) ≡ true → m ≡ n + 1 → Counted phase found n m

appended : (kept : EnqueueKept) (slot found n : ℕ) (null : Bool) → (found == 0) ≡ null → Counted (Works (Enqueuing kept (ExchangeNext slot))) found n (along queued_by (queued_front kept slot null) n)
appended kept slot found n true e = More kept slot refl e refl
appended kept slot found n false e = Same refl

counted_marks : (phase : Phase) (post : Post) (found n : ℕ) → Counted phase found n (along queued_by (marks phase post found) n)
counted_marks Idle post found n = Same refl
counted_marks (Runs why base) post found n = Same (rows_still (birth_in (Runs why base)) (row_move (Runs why base) post found) n)
counted_marks (Scans later at) post found n = Same (rows_still (birth_in (Scans later at)) (row_move (Scans later at) post found) n)
counted_marks (Works (Getting key at)) post found n = Same refl
counted_marks (Works (Changing kept (LoadVersion slot))) post found n = Same refl
counted_marks (Works (Changing kept (LoadCount slot))) post found n = Same refl
counted_marks (Works (Changing kept (LoadKey slot count))) post found n = Same refl
counted_marks (Works (Changing kept (LoadValue slot count key))) post found n = Same refl
counted_marks (Works (Changing kept (ExchangeRoot slot))) post found n = Same (linked_still kept slot (counted post) n (found == kept.link))
counted_marks (Works (Enqueuing kept LoadNumber)) post found n = Same refl
counted_marks (Works (Enqueuing kept LoadNext)) post found n = Same refl
counted_marks (Works (Enqueuing kept (PassTail next))) post found n = Same (link_still roots.Tail (next - 1) (found == kept.tail + 1) n)
counted_marks (Works (Enqueuing kept (ExchangeNext slot))) post found n = appended kept slot found n (found == 0) refl
counted_marks (Works (Enqueuing kept (ExchangeTail slot))) post found n = Same (link_still roots.Tail slot (found == kept.tail + 1) n)
counted_marks (Works (Keeping at)) post found n = Same refl
counted_marks (Works (Dequeuing (LoadTail head))) post found n = Same refl
counted_marks (Works (Dequeuing (SwingTail head next))) post found n = Same (link_still roots.Tail next (found == head + 1) n)
counted_marks (Works (Dequeuing (TakeNumber head next))) post found n = Same refl
counted_marks (Works (Dequeuing (TakeValue head next number))) post found n = Same refl
counted_marks (Works (Dequeuing (ExchangeHead head next number value))) post found n = Same (taken_still head next number value n (found == head + 1))

pub counted_step : (w : World) (i : ℕ) (p : Past) → Counted (w.seat i).phase (finds w i) (length (queued_of p)) (length (queued_of (tells_of p i (told_in w i))))
counted_step w i p =
    subst (λ (m : ℕ). Counted (w.seat i).phase (finds w i) (length (queued_of p)) m)
    (sym (whole_comes queued_by (λ q. length (queued_of q)) w i p (λ q event. one_queued q i event) unmarked_still end_still))
    (counted_marks (w.seat i).phase (w.seat i).post (finds w i) (length (queued_of p)))
