-- The rows that a step links away from stand, as its call knows.
use Rattle.std.proofs.Common.{ℕ, ◌≡◌, ◌+◌, ◌-◌, Bool, true, false, List, [], ◌∷◌, ◌++◌, Option, Some, None, refl, sym, ap, ◌∙◌, subst, arith}
use Rattle.std.proofs.lemmas.Bool.Decides.{nat_tests}
use Rattle.std.specs.Prelude.{◌==◌, ◌||◌, not, if◌then◌else◌}
use Rattle.law_scans.specs.inv.model.words.Place.{Place, is_valid}
use Rattle.law_scans.specs.inv.model.words.Place.Place.{Head, Tail, Bucket, Row}
use Rattle.law_scans.specs.inv.model.words.declared.layout.Layout.{Layout}
use Rattle.law_scans.specs.inv.model.defs.declared.call.Call.{Call}
use Rattle.law_scans.specs.inv.model.defs.declared.call.Call.TheVariants as names
use Rattle.law_scans.specs.inv.model.defs.declared.event.Event.{Event}
use Rattle.law_scans.specs.inv.model.defs.declared.event.Event.TheVariants as events
use Rattle.law_scans.specs.inv.model.defs.declared.event.Root.TheVariants as roots
use Rattle.law_scans.specs.inv.model.defs.declared.fold.Change.{Change}
use Rattle.law_scans.specs.inv.model.defs.declared.fold.Change.TheVariants as changes
use Rattle.law_scans.specs.inv.model.declared.post.Post.{Post}
use Rattle.law_scans.specs.inv.model.Change.{told_change, changed_bucket}
use Rattle.law_scans.specs.inv.model.Enqueue.{told_link}
use Rattle.law_scans.specs.inv.model.Locals.{told_end, turn}
use Rattle.law_scans.specs.inv.model.Posts.{stands, counted}
use Rattle.law_scans.specs.inv.model.World.{World, finds, offered, told_in}
use Rattle.law_scans.specs.inv.model.Calls.{ChangeKept, EnqueueKept, LoadVersion, LoadCount, LoadKey, LoadValue, ExchangeRoot, LoadNumber, LoadNext, PassTail, ExchangeNext, ExchangeTail, LoadTail, SwingTail, TakeNumber, TakeValue, ExchangeHead, Getting, Changing, Enqueuing, Dequeuing, Keeping, Phase, Idle, Runs, Scans, Works, CallTurn, CallOutcome, GoesOn, Answers}
use Rattle.law_scans.proofs.inv.model.Facts.{same_number, both, first_of, rest_of, number_is, or_more}
use Rattle.law_scans.specs.laws.records.Record.{Past, Each, tells_of}
use Rattle.law_scans.specs.laws.records.Record.Past.{Then}
use Rattle.law_scans.specs.inv.history.History.{Item, record_of, world_of}
use Rattle.law_scans.specs.laws.StateAt.{stood_at, is_dequeue, is_row, began_of, tail_at, bucket_at, head_at}
use Rattle.law_scans.proofs.reuse.Reuse.Keeps.{record_stands}
use Rattle.law_scans.specs.inv.Contents.Stands.{Stood}
use Rattle.law_scans.proofs.reuse.history.AllOf.{all_of, of_weaker}
use Rattle.law_scans.proofs.reuse.AnswersTold.Owed.{Serves}
use Rattle.law_scans.proofs.Placing.Fronts.{linked_front, queued_front, taken_front}
use Rattle.law_scans.proofs.Placing.Marks.{is_common, ordered, InOrder, tells, step_order}
use Rattle.law_scans.proofs.Ordering.Ordered.{word_of, head_is}
use Rattle.law_scans.proofs.laws.Tells.{tells_both}
use Rattle.law_scans.specs.laws.HistoryHolds.{stands_for, links_ok}
use Rattle.law_held.specs.Records.{RecordsLinkHeld}
use Rattle.law_held.proofs.Roots.Leads.{Leads, leads_of}
use Rattle.law_held.proofs.Roots.Ways.{Turning, record_each, answers_of}
use Rattle.law_scans.proofs.inv.rows.Queued.{finds_phase}
use Rattle.law_held.proofs.Indexes.Clears.{row_there}

-- an event that is no link
abbrev is_unlinked : Event → Bool
is_unlinked (events.Link root slot) = false
is_unlinked event = true

unlinked_ok : (slots : ℕ) (p : Past) (i : ℕ) (event : Event) → is_unlinked event ≡ true → links_ok slots p i event ≡ true
unlinked_ok slots p i (events.Link root slot) h = absurd (cc)
unlinked_ok slots p i event h = refl

common_unlinked : (event : Event) → is_common event ≡ true → is_unlinked event ≡ true
common_unlinked (events.Link root slot) h = absurd (cc)
common_unlinked event h = refl

unlinked_each : (slots i : ℕ) (told : List Event) (p : Past) → all_of is_unlinked told ≡ true → Each (links_ok slots) p → Each (links_ok slots) (tells_of p i told)
unlinked_each slots i [] p h g = g
unlinked_each slots i (event ∷ told) p h g = unlinked_each slots i told (Then p i event) (rest_of (is_unlinked event) (all_of is_unlinked told) h) (unlinked_ok slots p i event (first_of (is_unlinked event) (all_of is_unlinked told) h), g)

change_unlinked : (bucket version : ℕ) (change : Change) → all_of is_unlinked (told_change bucket version change ∷ []) ≡ true
change_unlinked bucket version (changes.Put key value) = refl
change_unlinked bucket version (changes.Removed key) = refl

cut_unlinked : (link : ℕ) (none : Bool) (told : List Event) → all_of is_unlinked told ≡ true → all_of is_unlinked ((if none then [] else events.Cut (link - 1) ∷ []) ++ told) ≡ true
cut_unlinked link true told h = h
cut_unlinked link false told h = h

-- what a seat knows before its step
record Before (slots i : ℕ) (mem : Place → ℕ) (phase : Phase) (post : Post) (call : Call) (p : Past) : Type 0 where
  leads : Leads slots mem p
  first : stood_at i 0 p ≡ stands post 0
  second : stood_at i 1 p ≡ stands post 1
  stood : Stood phase post
  began : began_of i p ≡ Some call
  serves : Serves call phase

stands_by : (had stood : Option ℕ) (link : ℕ) → word_of had ≡ link → ((s : ℕ) → (link == s + 1) ≡ true → stood ≡ Some s) → stands_for had stood ≡ true
stands_by None stood link e h = refl
stands_by (Some slot) stood link e h = let q : (link == slot + 1) ≡ true = grind (arith, nat_tests) in row_there slot stood (h slot q)

-- the row that the head or the tail had
at_row : (slots i root slot x : ℕ) (stood : Option ℕ) → x + 1 ≡ root → (root == slot + 1) ≡ true → stood ≡ Some slot → is_row x stood ≡ true
at_row slots i root slot x stood a q s = let e : x ≡ slot = head_is root slot root x a refl (number_is root (slot + 1) q) in row_there x stood (s ∙ sym (ap Some e))

exchanged_each : (slots i : ℕ) (mem : Place → ℕ) (post : Post) (call : Call) (p : Past) (kept : ChangeKept) (slot : ℕ) (same : Bool) → (mem (Bucket (changed_bucket kept post)) == kept.link) ≡ same → Before slots i mem (Works (Changing kept (ExchangeRoot slot))) post call p → Each (links_ok slots) p → Each (links_ok slots) (tells_of p i (linked_front kept slot (counted post) same))
exchanged_each slots i mem post call p kept slot false q b g = g
exchanged_each slots i mem post call p kept slot true q b g =
    let bucket : ℕ = changed_bucket kept post in
    let link : mem (Bucket bucket) ≡ kept.link = number_is (mem (Bucket bucket)) kept.link q in
    let here : stands_for (bucket_at bucket p) (stood_at i 0 p) ≡ true = stands_by (bucket_at bucket p) (stood_at i 0 p) kept.link (b.leads.buckets bucket ∙ link) (λ s e. b.first ∙ b.stood.reads s e) in
    unlinked_each slots i ((if kept.link == 0 then [] else events.Cut (kept.link - 1) ∷ []) ++ told_change bucket (kept.version + 1) kept.change ∷ []) (Then p i (events.Link (roots.Bucket bucket) slot))
    (cut_unlinked kept.link (kept.link == 0) (told_change bucket (kept.version + 1) kept.change ∷ []) (change_unlinked bucket (kept.version + 1) kept.change)) (here, g)

appended_each : (slots i : ℕ) (p : Past) (kept : EnqueueKept) (slot : ℕ) (same : Bool) → stood_at i 0 p ≡ Some kept.tail → Each (links_ok slots) p → Each (links_ok slots) (tells_of p i (queued_front kept slot same))
appended_each slots i p kept slot false s g = g
appended_each slots i p kept slot true s g = (refl, (row_there kept.tail (stood_at i 0 p) s, g))

-- the tail goes on
no_dequeue : (value : ℕ) (call : Call) (began : Option Call) (x : Bool) → began ≡ Some call → call ≡ names.Enqueue value → (not (is_dequeue began) || x) ≡ true
no_dequeue value call began x e c = rw (e, c) refl

swung_each : (slots i : ℕ) (mem : Place → ℕ) (p : Past) (slot next : ℕ) (same : Bool) → (mem Tail == slot + 1) ≡ same → tail_at slots p + 1 ≡ mem Tail → stood_at i 0 p ≡ Some slot → (not (is_dequeue (began_of i p)) || is_row next (stood_at i 1 p)) ≡ true → Each (links_ok slots) p → Each (links_ok slots) (tells_of p i (told_link roots.Tail next same))
swung_each slots i mem p slot next false q t s n g = g
swung_each slots i mem p slot next true q t s n g =
    (both (is_row (tail_at slots p) (stood_at i 0 p)) (not (is_dequeue (began_of i p)) || is_row next (stood_at i 1 p)) (at_row slots i (mem Tail) slot (tail_at slots p) (stood_at i 0 p) t q s) n, g)

popped_each : (slots i : ℕ) (mem : Place → ℕ) (p : Past) (head next number value : ℕ) (same : Bool) → (mem Head == head + 1) ≡ same → head_at slots p + 1 ≡ mem Head → stood_at i 0 p ≡ Some head → stood_at i 1 p ≡ Some next → Each (links_ok slots) p → Each (links_ok slots) (tells_of p i (taken_front head next number value same))
popped_each slots i mem p head next number value false q t s n g = g
popped_each slots i mem p head next number value true q t s n g =
    (refl, (refl, (both (is_row (head_at slots p) (stood_at i 0 p)) (is_row next (stood_at i 1 p)) (at_row slots i (mem Head) head (head_at slots p) (stood_at i 0 p) t q s) (row_there next (stood_at i 1 p) n), g)))

ordered_each : (slots i : ℕ) (mem : Place → ℕ) (phase : Phase) (post : Post) (call : Call) (p : Past) → Before slots i mem phase post call p → Each (links_ok slots) p → Each (links_ok slots) (tells_of p i (ordered phase post (finds_phase mem phase post)))
ordered_each slots i mem Idle post call p b g = g
ordered_each slots i mem (Runs why base) post call p b g = g
ordered_each slots i mem (Scans later at) post call p b g = g
ordered_each slots i mem (Works (Getting key at)) post call p b g = g
ordered_each slots i mem (Works (Changing kept (LoadVersion slot))) post call p b g = g
ordered_each slots i mem (Works (Changing kept (LoadCount slot))) post call p b g = g
ordered_each slots i mem (Works (Changing kept (LoadKey slot count))) post call p b g = g
ordered_each slots i mem (Works (Changing kept (LoadValue slot count key))) post call p b g = g
ordered_each slots i mem (Works (Changing kept (ExchangeRoot slot))) post call p b g = exchanged_each slots i mem post call p kept slot (mem (Bucket (changed_bucket kept post)) == kept.link) refl b g
ordered_each slots i mem (Works (Enqueuing kept LoadNumber)) post call p b g = g
ordered_each slots i mem (Works (Enqueuing kept LoadNext)) post call p b g = g
ordered_each slots i mem (Works (Enqueuing kept (PassTail next))) post call p b g =
    swung_each slots i mem p kept.tail (next - 1) (mem Tail == kept.tail + 1) refl b.leads.tail (b.first ∙ b.stood.queue kept.tail (same_number kept.tail)) (no_dequeue kept.value call (began_of i p) (is_row (next - 1) (stood_at i 1 p)) b.began b.serves) g
ordered_each slots i mem (Works (Enqueuing kept (ExchangeNext slot))) post call p b g = appended_each slots i p kept slot (mem (Row kept.tail 0) == 0) (b.first ∙ b.stood.queue kept.tail (same_number kept.tail)) g
ordered_each slots i mem (Works (Enqueuing kept (ExchangeTail slot))) post call p b g =
    swung_each slots i mem p kept.tail slot (mem Tail == kept.tail + 1) refl b.leads.tail (b.first ∙ b.stood.queue kept.tail (same_number kept.tail)) (no_dequeue kept.value call (began_of i p) (is_row slot (stood_at i 1 p)) b.began b.serves) g
ordered_each slots i mem (Works (Keeping at)) post call p b g = g
ordered_each slots i mem (Works (Dequeuing (LoadTail head))) post call p b g = g
ordered_each slots i mem (Works (Dequeuing (SwingTail head next))) post call p b g =
    swung_each slots i mem p head next (mem Tail == head + 1) refl b.leads.tail (b.first ∙ b.stood.queue head (same_number head))
    (or_more (not (is_dequeue (began_of i p))) (is_row next (stood_at i 1 p)) (row_there next (stood_at i 1 p) (b.second ∙ b.stood.nexts next (same_number next)))) g
ordered_each slots i mem (Works (Dequeuing (TakeNumber head next))) post call p b g = g
ordered_each slots i mem (Works (Dequeuing (TakeValue head next number))) post call p b g = g
ordered_each slots i mem (Works (Dequeuing (ExchangeHead head next number value))) post call p b g =
    popped_each slots i mem p head next number value (mem Head == head + 1) refl b.leads.head (b.first ∙ b.stood.queue head (same_number head)) (b.second ∙ b.stood.nexts next (same_number next)) g

end_unlinked : (post : Post) (outcome : CallOutcome) → all_of is_unlinked (told_end post outcome) ≡ true
end_unlinked post (GoesOn phase) = refl
end_unlinked post (Answers answer) = refl

step_links : (slots : ℕ) (w : World) (i : ℕ) (p : Past) → Before slots i w.mem (w.seat i).phase (w.seat i).post (w.seat i).call p → Each (links_ok slots) p → Each (links_ok slots) (tells_of p i (told_in w i))
step_links slots w i p b g =
    let t : CallTurn = turn (offered w i) (finds w i) in
    let first : List Event = ordered (w.seat i).phase (w.seat i).post (finds w i) in
    let o : InOrder first (tells w i) = step_order w i in
    let one : Each (links_ok slots) (tells_of p i first) = ordered_each slots i w.mem (w.seat i).phase (w.seat i).post (w.seat i).call p b g in
    let two : Each (links_ok slots) (tells_of (tells_of p i first) i o.rest) = unlinked_each slots i o.rest (tells_of p i first) (of_weaker is_common is_unlinked o.rest common_unlinked o.calm) one in
    let three : Each (links_ok slots) (tells_of p i t.told) = subst (λ (q : Past). Each (links_ok slots) q) (sym (ap (tells_of p i) o.is ∙ tells_both i first o.rest p)) two in
    subst (λ (q : Past). Each (links_ok slots) q) (sym (tells_both i t.told (told_end t.post t.outcome) p)) (unlinked_each slots i (told_end t.post t.outcome) (tells_of p i t.told) (end_unlinked t.post t.outcome) three)

before_of : (layout : Layout) (path : List Item) (i : ℕ) → is_valid layout ≡ true → Turning layout path i → Before layout.config.slots i (world_of layout path).mem ((world_of layout path).seat i).phase ((world_of layout path).seat i).post ((world_of layout path).seat i).call (record_of layout path)
before_of layout path i d t =
    let a = answers_of layout path d in
    record {
      leads = leads_of layout path d;
      first = record_stands layout path i 0 d;
      second = record_stands layout path i 1 d;
      stood = a.known.known.stands.stood i;
      began = (a.seats i).began t.busy;
      serves = (a.seats i).serves t.busy;
    }

pub records_link_held : RecordsLinkHeld
records_link_held layout items d =
    record_each layout (links_ok layout.config.slots) items
    (record { begins = λ p i call. refl; steps = λ path i t g. step_links layout.config.slots (world_of layout path) i (record_of layout path) (before_of layout path i d t) g })
