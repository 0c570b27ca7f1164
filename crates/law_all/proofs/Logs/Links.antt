-- A row that stands at an index of a seat is linked at no bucket's root; and each call that has begun may begin.
use Rattle.std.proofs.Common.{ℕ, ◌≡◌, Bool, true, false, List, [], ◌∷◌, ◌++◌, ◌+◌, ◌-◌, append_assoc, Some, refl, sym, ap, ◌∙◌, subst}
use Rattle.std.specs.Prelude.{◌==◌, ◌&&◌, if◌then◌else◌, not}
use Rattle.law_scans.proofs.laws.records.defs.Facts.{first_of, rest_of}
use Rattle.law_scans.specs.inv.model.Calls.{ChangeKept, EnqueueKept, LoadVersion, LoadCount, LoadKey, LoadValue, ExchangeRoot, LoadNumber, LoadNext, PassTail, ExchangeNext, ExchangeTail, LoadTail, SwingTail, TakeNumber, TakeValue, ExchangeHead, Getting, Keeping, Changing, Enqueuing, Dequeuing, Phase, Idle, Runs, Scans, Works, CallTurn, CallOutcome, GoesOn, Answers}
use Rattle.law_scans.specs.inv.model.Change.{changed_bucket, told_change, told_cut}
use Rattle.law_scans.specs.inv.model.Enqueue.{told_link}
use Rattle.law_scans.specs.inv.model.Locals.{may_begin, told_end, turn}
use Rattle.law_scans.specs.inv.model.Posts.{counted, stands}
use Rattle.law_scans.specs.inv.model.World.{World, finds, is_here, offered, told_in}
use Rattle.law_scans.specs.inv.model.declared.post.Post.{Post}
use Rattle.law_scans.specs.laws.defs.declared.event.Event.TheVariants as events
use Rattle.law_scans.specs.laws.defs.declared.event.Event.{Event}
use Rattle.law_scans.specs.laws.defs.declared.event.Root.TheVariants as roots
use Rattle.law_scans.specs.laws.defs.declared.fold.Change.TheVariants as changes
use Rattle.law_scans.specs.laws.defs.declared.fold.Change.{Change}
use Rattle.law_scans.specs.laws.words.declared.config.Config.{Config}
use Rattle.law_scans.specs.laws.words.declared.layout.Layout.{Layout}
use Rattle.law_scans.proofs.laws.Along.{row_of}
use Rattle.law_scans.specs.laws.StateAt.{is_row, stood_at}
use Rattle.law_scans.specs.inv.Inv.{Inv}
use Rattle.law_scans.specs.inv.covers.Covers.{takes_or_frees}
use Rattle.law_scans.specs.inv.history.History.{Item, Made, first_made, record_of}
use Rattle.law_scans.specs.laws.records.Record.Past.{Then}
use Rattle.law_scans.specs.laws.records.Record.{Each, Past, tells_of}
use Rattle.law_scans.specs.inv.rows.Hands.{linked_row, row_move}
use Rattle.law_scans.specs.inv.rows.Rows.RowMove.{Links, Replaces, Stays}
use Rattle.law_scans.proofs.inv.Inv.Tells.{inv_stays}
use Rattle.law_scans.proofs.inv.Machines.{is_within, within_of}
use Rattle.law_scans.proofs.reuse.history.Along.{Steady, items_keep}
use Rattle.law_scans.proofs.reuse.history.AllOf.{all_of, of_along, of_weaker}
use Rattle.law_scans.proofs.Placing.Fronts.{linked_front, queued_front, taken_front}
use Rattle.law_scans.proofs.Placing.Marks.{InOrder, is_common, ordered, step_order}
use Rattle.law_all.specs.Logs.Shown.{is_bucket_link, links_ok, starts_ok}

abbrev is_apart : ℕ → Event → Bool
is_apart s event = not (is_bucket_link s event)

-- events that link no row at a bucket's root
abbrev is_plain : Event → Bool
is_plain (events.Link (roots.Bucket bucket) slot) = false
is_plain event = true

common_plain : (event : Event) → is_common event ≡ true → is_plain event ≡ true
common_plain (events.Link (roots.Bucket bucket) slot) h = absurd (cc)
common_plain event h = refl

plain_apart : (s : ℕ) (event : Event) → is_plain event ≡ true → is_apart s event ≡ true
plain_apart s (events.Link (roots.Bucket bucket) slot) h = absurd (cc)
plain_apart s event h = refl

apart_each : (k j s i : ℕ) (told : List Event) (p : Past) → all_of (is_apart s) told ≡ true → Each (links_ok k j s) p → Each (links_ok k j s) (tells_of p i told)
apart_each k j s i [] p h g = g
apart_each k j s i (event ∷ told) p h g =
    apart_each k j s i told (Then p i event) (rest_of (is_apart s event) (all_of (is_apart s) told) h)
    (by (is_row s (stood_at k j p)) (is_bucket_link s event) (first_of (is_apart s event) (all_of (is_apart s) told) h), g)
  where
    by : (a b : Bool) → not b ≡ true → not (a && b) ≡ true
    by true b f = f
    by false b f = refl

-- what a step tells first, and of which rows
linked_apart : (s bucket slot link : ℕ) (null : Bool) → takes_or_frees (if null then Links bucket slot else Replaces bucket slot link) s ≡ false → (s == slot) ≡ false
linked_apart s bucket slot link true h = h
linked_apart s bucket slot link false h = h

-- the events after the first
abbrev later_of : List Event → List Event
later_of [] = []
later_of (event ∷ told) = told

change_plain : (link bucket version : ℕ) (change : Change) → all_of is_plain (told_cut link ++ told_change bucket version change ∷ []) ≡ true
change_plain link bucket version change = of_along is_plain (told_cut link) (told_change bucket version change ∷ []) (cut_plain (link == 0)) (one change)
  where
    cut_plain : (null : Bool) → all_of is_plain (if null then [] else events.Cut (link - 1) ∷ []) ≡ true
    cut_plain true = refl
    cut_plain false = refl

    one : (change : Change) → all_of is_plain (told_change bucket version change ∷ []) ≡ true
    one (changes.Put key value) = refl
    one (changes.Removed key) = refl

root_apart : (s bucket slot : ℕ) (kept : ChangeKept) (post : Post) (same : Bool)
    → takes_or_frees (if same then linked_row bucket slot kept.link else Stays) s ≡ false → all_of (is_apart s) (linked_front kept slot post same) ≡ true
root_apart s bucket slot kept post true h =
    let e : (s == slot) ≡ false = linked_apart s bucket slot (kept.link - 1) (kept.link == 0) h in
    let more = of_weaker is_plain (is_apart s) (told_cut kept.link ++ told_change (changed_bucket kept post) (kept.version + 1) kept.change ∷ [])
    (λ event. plain_apart s event) (change_plain kept.link (changed_bucket kept post) (kept.version + 1) kept.change) in
    rw e more
root_apart s bucket slot kept post false h = refl

root_later : (slot : ℕ) (kept : ChangeKept) (post : Post) (same : Bool) → all_of is_plain (later_of (linked_front kept slot post same)) ≡ true
root_later slot kept post true = change_plain kept.link (changed_bucket kept post) (kept.version + 1) kept.change
root_later slot kept post false = refl

tail_plain : (slot : ℕ) (same : Bool) → all_of is_plain (told_link roots.Tail slot same) ≡ true
tail_plain slot true = refl
tail_plain slot false = refl

next_plain : (kept : EnqueueKept) (slot : ℕ) (same : Bool) → all_of is_plain (queued_front kept slot same) ≡ true
next_plain kept slot true = refl
next_plain kept slot false = refl

head_plain : (head next number value : ℕ) (same : Bool) → all_of is_plain (taken_front head next number value same) ≡ true
head_plain head next number value true = refl
head_plain head next number value false = refl

later_plain : (told : List Event) → all_of is_plain told ≡ true → all_of is_plain (later_of told) ≡ true
later_plain [] h = refl
later_plain (event ∷ told) h = rest_of (is_plain event) (all_of is_plain told) h

-- all but the exchange of a root
abbrev is_root_step : Phase → Bool
is_root_step (Works (Changing kept (ExchangeRoot slot))) = true
is_root_step phase = false

front_plain : (phase : Phase) (post : Post) (found : ℕ) → is_root_step phase ≡ false → all_of is_plain (ordered phase post found) ≡ true
front_plain Idle post found e = refl
front_plain (Runs why base) post found e = refl
front_plain (Scans later at) post found e = refl
front_plain (Works (Getting key at)) post found e = refl
front_plain (Works (Keeping at)) post found e = refl
front_plain (Works (Changing kept (LoadVersion slot))) post found e = refl
front_plain (Works (Changing kept (LoadCount slot))) post found e = refl
front_plain (Works (Changing kept (LoadKey slot count))) post found e = refl
front_plain (Works (Changing kept (LoadValue slot count key))) post found e = refl
front_plain (Works (Changing kept (ExchangeRoot slot))) post found e = absurd (cc)
front_plain (Works (Enqueuing kept LoadNumber)) post found e = refl
front_plain (Works (Enqueuing kept LoadNext)) post found e = refl
front_plain (Works (Enqueuing kept (PassTail next))) post found e = tail_plain _ _
front_plain (Works (Enqueuing kept (ExchangeNext slot))) post found e = next_plain kept slot _
front_plain (Works (Enqueuing kept (ExchangeTail slot))) post found e = tail_plain _ _
front_plain (Works (Dequeuing (LoadTail head))) post found e = refl
front_plain (Works (Dequeuing (SwingTail head next))) post found e = tail_plain _ _
front_plain (Works (Dequeuing (TakeNumber head next))) post found e = refl
front_plain (Works (Dequeuing (TakeValue head next number))) post found e = refl
front_plain (Works (Dequeuing (ExchangeHead head next number value))) post found e = head_plain head next number value _

front_apart : (s : ℕ) (phase : Phase) (post : Post) (found : ℕ) → takes_or_frees (row_move phase post found) s ≡ false
    → all_of (is_apart s) (ordered phase post found) ≡ true
front_apart s (Works (Changing kept (ExchangeRoot slot))) post found h = root_apart s (changed_bucket kept post) slot kept (counted post) (found == kept.link) h
front_apart s phase post found h = of_weaker is_plain (is_apart s) (ordered phase post found) (λ event. plain_apart s event) (front_plain phase post found refl)

front_later : (phase : Phase) (post : Post) (found : ℕ) → all_of is_plain (later_of (ordered phase post found)) ≡ true
front_later (Works (Changing kept (ExchangeRoot slot))) post found = root_later slot kept (counted post) (found == kept.link)
front_later phase post found = later_plain (ordered phase post found) (front_plain phase post found refl)

-- of a row that does not stand where the step begins
front_each : (k j s i : ℕ) (front more : List Event) (p : Past) → is_row s (stood_at k j p) ≡ false → all_of is_plain (later_of front) ≡ true
    → all_of is_plain more ≡ true → Each (links_ok k j s) p → Each (links_ok k j s) (tells_of p i (front ++ more))
front_each k j s i [] more p n h m g = apart_each k j s i more p (of_weaker is_plain (is_apart s) more (λ event. plain_apart s event) m) g
front_each k j s i (event ∷ front) more p n h m g =
    apart_each k j s i (front ++ more) (Then p i event)
    (of_weaker is_plain (is_apart s) (front ++ more) (λ other. plain_apart s other) (of_along is_plain front more h m)) (rw n refl, g)

end_plain : (post : Post) (outcome : CallOutcome) → all_of is_plain (told_end post outcome) ≡ true
end_plain post (GoesOn phase) = refl
end_plain post (Answers answer) = refl

-- each step
pub links_step : (w : World) (i k j s : ℕ) (p : Past) → Inv w → stood_at k j p ≡ stands (w.seat k).post j → Each (links_ok k j s) p
    → Each (links_ok k j s) (tells_of p i (told_in w i))
links_step w i k j s p a e g =
    let phase : Phase = (w.seat i).phase in
    let post : Post = (w.seat i).post in
    let front : List Event = ordered phase post (finds w i) in
    let t : CallTurn = turn (offered w i) (finds w i) in
    let o : InOrder front t.told = step_order w i in
    let more : List Event = o.rest ++ told_end t.post t.outcome in
    let m : all_of is_plain more ≡ true =
    of_along is_plain o.rest (told_end t.post t.outcome) (of_weaker is_common is_plain o.rest common_plain o.calm) (end_plain t.post t.outcome) in
    let is : told_in w i ≡ front ++ more =
    ap (λ (told : List Event). told ++ told_end t.post t.outcome) o.is ∙ append_assoc front o.rest (told_end t.post t.outcome) in
    subst (λ (told : List Event). Each (links_ok k j s) (tells_of p i told)) (sym is) (by front more m (is_row s (stood_at k j p)) refl)
  where
    by : (front more : List Event) → all_of is_plain more ≡ true → (here : Bool) → is_row s (stood_at k j p) ≡ here
        → Each (links_ok k j s) (tells_of p i (ordered (w.seat i).phase (w.seat i).post (finds w i) ++ more))
    by front more m true n =
        let stood : stands (w.seat k).post j ≡ Some s = sym e ∙ row_of s (stood_at k j p) n in
        let q = (inv_stays w i k j s a stood).stays in
        apart_each k j s i (ordered (w.seat i).phase (w.seat i).post (finds w i) ++ more) p
        (of_along (is_apart s) (ordered (w.seat i).phase (w.seat i).post (finds w i)) more (front_apart s (w.seat i).phase (w.seat i).post (finds w i) q)
        (of_weaker is_plain (is_apart s) more (λ event. plain_apart s event) m)) g
    by front more m false n =
        front_each k j s i (ordered (w.seat i).phase (w.seat i).post (finds w i)) more p n (front_later (w.seat i).phase (w.seat i).post (finds w i)) m g

-- What a history keeps: each call that has begun may begin.
record Begun (layout : Layout) (made : Made) : Type 0 where
  table : made.world.layout ≡ layout
  starts : Each (starts_ok layout.config) made.past

within_starts : (c : Config) (i : ℕ) (p : Past) (event : Event) → is_within event ≡ true → starts_ok c p i event ≡ true
within_starts c i p (events.Begin call) h = absurd (cc)
within_starts c i p event h = refl

starts_each : (c : Config) (i : ℕ) (told : List Event) (p : Past) → all_of is_within told ≡ true → Each (starts_ok c) p → Each (starts_ok c) (tells_of p i told)
starts_each c i [] p h g = g
starts_each c i (event ∷ told) p h g =
    starts_each c i told (Then p i event) (rest_of (is_within event) (all_of is_within told) h)
    (within_starts c i p event (first_of (is_within event) (all_of is_within told) h), g)

begun_steady : (layout : Layout) → Steady (Begun layout)
begun_steady layout = record {
  begins = λ made i call b y m g. record { table = g.table; starts = (subst (λ (x : Layout). may_begin x.config call ≡ true) g.table (rest_of (is_here made.world i) (may_begin made.world.layout.config call) m), g.starts) };
  steps = λ made i b y g. record { table = g.table; starts = starts_each layout.config i (told_in made.world i) made.past (within_of made.world i) g.starts };
}

pub records_start_right : (layout : Layout) (items : List Item) → Each (starts_ok layout.config) (record_of layout items)
records_start_right layout items =
    (items_keep (Begun layout) (begun_steady layout) items (first_made layout) (record { table = refl; starts = tt })).starts
