-- Along each history a get tells a version whose row stands, or version 0 where it has found none.
use Rattle.std.proofs.Common.{ℕ, ◌≡◌, ◌-◌, ◌+◌, ◌%◌, Bool, true, false, List, [], ◌∷◌, ◌++◌, Option, Some, None, refl, sym, ap, ◌∙◌, subst, arith}
use Rattle.std.proofs.lemmas.Bool.Decides.{nat_tests}
use Rattle.std.specs.Prelude.{◌==◌, ◌||◌, not, if◌then◌else◌}
use Rattle.law_scans.specs.inv.model.words.Place.{is_valid}
use Rattle.law_scans.specs.inv.model.words.declared.layout.Layout.{Layout}
use Rattle.law_scans.specs.inv.model.defs.declared.event.Event.{Event}
use Rattle.law_scans.specs.inv.model.defs.declared.event.Event.TheVariants as events
use Rattle.law_scans.specs.inv.model.defs.declared.event.Root.{Root}
use Rattle.law_scans.specs.inv.model.defs.declared.event.Root.TheVariants as roots
use Rattle.law_scans.specs.inv.model.defs.declared.fold.Change.{Change}
use Rattle.law_scans.specs.inv.model.defs.declared.fold.Change.TheVariants as the_changes
use Rattle.law_scans.specs.inv.model.declared.ends.ProtectEnd.TheVariants as protect_ends
use Rattle.law_scans.specs.inv.model.declared.post.Post.{Post}
use Rattle.law_scans.specs.inv.model.Change as alters
use Rattle.law_scans.specs.inv.model.Enqueue as enqueues
use Rattle.law_scans.specs.inv.model.Locals.{told_end}
use Rattle.law_scans.specs.inv.model.Machine as machine
use Rattle.law_scans.specs.inv.model.Memory.{bump}
use Rattle.law_scans.specs.inv.model.Posts.{counted}
use Rattle.law_scans.specs.inv.model.Rounds.{scheme_of, bucket_of, clear_told}
use Rattle.law_scans.specs.inv.model.World.{World, finds, offered, told_in}
use Rattle.law_scans.specs.inv.model.Phases.{Base, Ending, Outcome, Goes, Ends}
use Rattle.law_scans.specs.inv.model.Phases.Base.{Protect}
use Rattle.law_scans.specs.inv.model.Phases.Ending.{Done, Protected, Followed, Allocated, Retired, Clocked}
use Rattle.law_scans.specs.inv.model.Calls.{Task, Gets, Changes, Holds, Enqueues, Dequeues, Why, Opens, GetAt, FindVersion, FindCount, FindKey, FindValue, Work, Getting, Changing, Enqueuing, Dequeuing, Keeping, ReadGuard, GiveBack, Phase, Idle, Runs, Scans, Works, CallOutcome, GoesOn, Answers}
use Rattle.law_scans.proofs.inv.model.Frames.{after_same}
use Rattle.law_scans.proofs.inv.model.Facts.{same_number, first_of, rest_of, zero_test}
use Rattle.law_scans.specs.inv.Contents.Contents.{ground_of}
use Rattle.law_scans.specs.inv.Contents.Knows.{Knows, GetKnows, FoundRow, get_reads, reads_in}
use Rattle.law_scans.specs.inv.Contents.Stands.{read_index}
use Rattle.law_scans.proofs.reuse.OneStep.Along.{Kept, history_keeps}
use Rattle.law_scans.proofs.inv.ends.Origins.Ends.{ends_with}
use Rattle.law_scans.specs.inv.ends.Origins.{ends_base}
use Rattle.law_scans.specs.inv.shapes.Seats.{Seats}
use Rattle.law_scans.specs.inv.history.History.{Item, Made, made_of, record_of, world_of}
use Rattle.law_scans.specs.inv.Inv.{Inv}
use Rattle.law_scans.proofs.inv.Inv.Reached.{inv_reached}
use Rattle.law_scans.specs.laws.records.Record.{Past, Each, tells_of}
use Rattle.law_scans.specs.laws.records.Record.Past.{Start, Then}
use Rattle.law_scans.specs.laws.records.Turns as schedule
use Rattle.law_scans.specs.laws.StateAt.{bucket_at, stood_at, null_by, null_of}
use Rattle.law_scans.specs.laws.StructuresAt.{count_of, row_at}
use Rattle.law_scans.proofs.reuse.history.AllOf.{all_of, of_weaker}
use Rattle.law_scans.proofs.inv.Machines.{is_machine, base_machine, clear_machine}
use Rattle.law_scans.proofs.laws.Tells.{seen_tells, tells_both}
use Rattle.law_scans.proofs.reuse.Reuse.Keeps.{record_stands}
use Rattle.law_scans.proofs.reuse.history.Passes.{Closing, First, get_allows, ending_allows, why_allows, outcome_allows, work_allows, work_told, phase_allows, step_closes}
use Rattle.law_held.proofs.Roots.Ways.{record_each}
use Rattle.law_scans.proofs.inv.ends.Told.Rows.{own_told}
use Rattle.law_scans.specs.inv.history.Heard.{heard_of}
use Rattle.law_scans.specs.laws.HistoryHolds.{stands_as, got_right, gots_ok}
use Rattle.law_held.specs.Records.{RecordsTellRows}
use Rattle.law_held.proofs.GotRows.Nulled.{nulled, nulled_at, NulledIn, step_nulled, begin_nulled, ended_null}
use Rattle.law_held.proofs.GotRows.Rowed.{Rowed, step_rowed, begin_rowed, first_book_rowed}
use Rattle.law_scans.proofs.inv.ends.Handover.Asks.{run_of}
use Rattle.law_scans.proofs.reuse.Lawful.Gots.{cleared_table, work_table}
use Rattle.law_scans.proofs.reuse.history.MayTell.{work_all}
use Rattle.law_scans.proofs.reuse.ReadGuards.{reads_are}
use Rattle.law_scans.specs.inv.model.Guards.{guard_at}
use Rattle.law_scans.specs.inv.model.words.Schemes.{publishes_rows}

-- what is told but what a get tells
abbrev is_gotless : Event → Bool
is_gotless (events.Got bucket version key value) = false
is_gotless event = true

gotless_ok : (p : Past) (i : ℕ) (event : Event) → is_gotless event ≡ true → gots_ok p i event ≡ true
gotless_ok p i (events.Got bucket version key value) h = absurd (cc)
gotless_ok p i event h = refl

gotless_each : (i : ℕ) (told : List Event) (p : Past) → all_of is_gotless told ≡ true → Each gots_ok p → Each gots_ok (tells_of p i told)
gotless_each i [] p h g = g
gotless_each i (event ∷ told) p h g = gotless_each i told (Then p i event) (rest_of (is_gotless event) (all_of is_gotless told) h) (gotless_ok p i event (first_of (is_gotless event) (all_of is_gotless told) h), g)

more_each : (i : ℕ) (told more : List Event) (p : Past) → all_of is_gotless more ≡ true → Each gots_ok (tells_of p i told) → Each gots_ok (tells_of p i (told ++ more))
more_each i told more p h g = subst (Each gots_ok) (sym (tells_both i told more p)) (gotless_each i more (tells_of p i told) h g)

machine_gotless : (event : Event) → is_machine event ≡ true → is_gotless event ≡ true
machine_gotless (events.Got bucket version key value) h = absurd (cc)
machine_gotless event h = refl

machines_gotless : (told : List Event) → all_of is_machine told ≡ true → all_of is_gotless told ≡ true
machines_gotless told h = of_weaker is_machine is_gotless told machine_gotless h

cut_gotless : (link : ℕ) (null : Bool) (told : List Event) → all_of is_gotless told ≡ true → all_of is_gotless ((if null then [] else events.Cut link ∷ []) ++ told) ≡ true
cut_gotless link true told h = h
cut_gotless link false told h = h

change_gotless : (bucket version : ℕ) (change : Change) → all_of is_gotless (alters.told_change bucket version change ∷ []) ≡ true
change_gotless bucket version (the_changes.Put key value) = refl
change_gotless bucket version (the_changes.Removed key) = refl

link_gotless : (root : Root) (slot : ℕ) (same : Bool) → all_of is_gotless (enqueues.told_link root slot same) ≡ true
link_gotless root slot true = refl
link_gotless root slot false = refl

end_gotless : (post : Post) (outcome : CallOutcome) → all_of is_gotless (told_end post outcome) ≡ true
end_gotless post (GoesOn phase) = refl
end_gotless post (Answers answer) = refl

-- a step of this table has told just what its machine tells; and it has told what is right
abbrev Before : Layout → List Event → Post → List Event → Type 0
Before layout front post told = (post.layout ≡ layout) × (told ≡ front)

abbrev After : Layout → ℕ → Past → Post → List Event → Type 0
After layout i p post told = (post.layout ≡ layout) × Each gots_ok (tells_of p i told)

-- what a get may tell after that
abbrev Allowed : ℕ → ℕ → Past → ℕ → ℕ → Type 0
Allowed n i q key version = got_right (key % n) version i q ≡ true

got_closes : (layout : Layout) (i : ℕ) (p : Past) (front : List Event) (post : Post) (told : List Event) (key version : ℕ) (value : Option ℕ) → Each gots_ok (tells_of p i front) → Allowed layout.config.buckets i (tells_of p i front) key version → Before layout front post told → After layout i p post (told ++ events.Got (bucket_of post key) version key value ∷ [])
got_closes layout i p front post told key version value g a h =
    let got : List Event = events.Got (bucket_of post key) version key value ∷ [] in
    let here : got_right (bucket_of post key) version i (tells_of p i front) ≡ true = subst (λ (x : Layout). got_right (key % x.config.buckets) version i (tells_of p i front) ≡ true) (sym h.0) a in
    let one : Each gots_ok (tells_of (tells_of p i front) i got) = (here, g) in
    (h.0, subst (Each gots_ok) (sym (tells_both i told got p)) (subst (λ (es : List Event). Each gots_ok (tells_of (tells_of p i es) i got)) (sym h.1) one))

got_closing : (layout : Layout) (i : ℕ) (p : Past) (front : List Event) → all_of is_gotless front ≡ true → Each gots_ok p → Closing (Before layout front) (After layout i p) (Allowed layout.config.buckets i (tells_of p i front))
got_closing layout i p front s g =
    let f : Each gots_ok (tells_of p i front) = gotless_each i front p s g in
    record {
      weak = λ post told h. (h.0, subst (λ (es : List Event). Each gots_ok (tells_of p i es)) (sym h.1) f);
      gets = λ post told key version value a h. got_closes layout i p front post told key version value f a h;
      changes = λ post kept slot h. (h.0, gotless_each i (alters.told_linked kept slot post) p (cut_gotless (kept.link - 1) (kept.link == 0) (alters.told_change (alters.changed_bucket kept post) (kept.version + 1) kept.change ∷ []) (change_gotless (alters.changed_bucket kept post) (kept.version + 1) kept.change)) g);
      links = λ post root slot same h. (h.0, gotless_each i (enqueues.told_link root slot same) p (link_gotless root slot same) g);
      queues = λ post tail slot number value h. (h.0, gotless_each i (events.Link (roots.Next tail) slot ∷ events.Queued number value ∷ []) p refl g);
      takes = λ post head next number value h. (h.0, gotless_each i (events.Link roots.Head next ∷ events.Cut head ∷ events.Taken number value ∷ []) p refl g);
      leaves = λ post count h. (h.0, gotless_each i (events.Left count ∷ []) p refl g);
      adopts = λ post place count h. (h.0, gotless_each i (events.Adopted place count ∷ []) p refl g);
      clears = λ post told index h. (cleared_table (scheme_of post) post index ∙ h.0, more_each i told (clear_told (scheme_of post) post index) p (machines_gotless (clear_told (scheme_of post) post index) (clear_machine (scheme_of post) post index)) h.1);
      ends = λ post told outcome h. (h.0, more_each i told (told_end post outcome) p (end_gotless post outcome) h.1);
    }

own_gotless : (phase : Phase) (post : Post) (found : ℕ) → all_of is_gotless (own_told phase post found) ≡ true
own_gotless Idle post found = refl
own_gotless (Runs why base) post found = machines_gotless (machine.after base post found).told (base_machine base post found)
own_gotless (Scans later (ReadGuard number)) post found = reads_are (λ event. all_of is_gotless (event ∷ []) ≡ true) (publishes_rows (scheme_of post)) (guard_at post.layout.config number) found (λ span. refl) (λ slot. refl)
own_gotless (Scans later (GiveBack place slot)) post found = refl
own_gotless (Works work) post found = work_all is_gotless (λ index slot. refl) (λ from index slot. refl) (λ seat index era. refl) (λ seat. refl) (λ seat index link. refl) work post

first_before : (layout : Layout) (phase : Phase) (post : Post) (found : ℕ) → post.layout ≡ layout → First (Before layout (own_told phase post found)) phase post found
first_before layout Idle post found e = (e, refl)
first_before layout (Runs why base) post found e = ((after_same base post found).layout ∙ e, refl)
first_before layout (Scans later (ReadGuard number)) post found e = (e, refl)
first_before layout (Scans later (GiveBack place slot)) post found e = (e, refl)
first_before layout (Works work) post found e = (work_table work post ∙ e, refl)

-- no row is that of version 0
zero_changed : (b : ℕ) (p : Past) (x y : Option ℕ) (same : Bool) → y ≡ None → (if same then (if count_of b p + 1 == 0 then x else y) else y) ≡ None
zero_changed b p x y true h = let e : (count_of b p + 1 == 0) ≡ false = grind (arith, nat_tests) in rw e h
zero_changed b p x y false h = h

zero_row : (b : ℕ) (p : Past) → row_at b 0 p ≡ None
zero_row b Start = refl
zero_row b (Then p i (events.Put bucket version key value)) = zero_changed b p (bucket_at b p) (row_at b 0 p) (b == bucket) (zero_row b p)
zero_row b (Then p i (events.Removed bucket version key)) = zero_changed b p (bucket_at b p) (row_at b 0 p) (b == bucket) (zero_row b p)
zero_row b (Then p i event) = zero_row b p

version_right : (b version i s : ℕ) (p : Past) (zero : Bool) → (version == 0) ≡ zero → row_at b version p ≡ Some s → stood_at i 0 p ≡ Some s → (if zero then null_of i p else stands_as (row_at b version p) (stood_at i 0 p)) ≡ true
version_right b version i s p true e r t =
    let z : version ≡ 0 = grind (arith, nat_tests) in
    let n : row_at b version p ≡ None = ap (λ (v : ℕ). row_at b v p) z ∙ zero_row b p in absurd (cc)
version_right b version i s p false e r t = rw (r, t) (same_number s)

row_right : (w : World) (i key slot version : ℕ) (p : Past) → FoundRow (ground_of w) (key % w.layout.config.buckets) slot version → stood_at i 0 p ≡ Some slot → Rowed w.book p → got_right (key % w.layout.config.buckets) version i p ≡ true
row_right w i key slot version p h t g =
    let r = g.rows slot (key % w.layout.config.buckets) h.root in
    let at : row_at (key % w.layout.config.buckets) version p ≡ Some slot = subst (λ (n : ℕ). row_at (key % w.layout.config.buckets) n p ≡ Some slot) (sym h.shown) r.1 in
    version_right (key % w.layout.config.buckets) version i slot p (version == 0) refl at t

-- what is known of a seat that makes a step
record Sees (w : World) (i : ℕ) (p : Past) : Type 0 where
  seats : Seats w
  knows : Knows (ground_of w) (w.seat i).phase
  stood : (s : ℕ) → reads_in (w.seat i).phase s ≡ true → stood_at i (read_index (w.seat i).phase) p ≡ Some s
  rowed : Rowed w.book p
  nulls : NulledIn w p i

get_right : (w : World) (i key : ℕ) (at : GetAt) (p : Past) → GetKnows (ground_of w) (key % w.layout.config.buckets) key at → ((s : ℕ) → get_reads at s ≡ true → stood_at i 0 p ≡ Some s) → Rowed w.book p → get_allows (Allowed w.layout.config.buckets i p) key at
get_right w i key (FindVersion slot) p k t g = tt
get_right w i key (FindCount slot version) p k t g = row_right w i key slot version p k (t slot (same_number slot)) g
get_right w i key (FindKey slot version count pair) p k t g = row_right w i key slot version p k.row (t slot (same_number slot)) g
get_right w i key (FindValue slot version pair) p k t g = row_right w i key slot version p k.row (t slot (same_number slot)) g

work_right : (w : World) (i : ℕ) (work : Work) (p : Past) → (w.seat i).phase ≡ Works work → Sees w i p → work_allows (Allowed w.layout.config.buckets i (tells_of p i (work_told work (counted (w.seat i).post)))) work
work_right w i (Getting key at) p e s =
    get_right w i key at p (subst (Knows (ground_of w)) e s.knows) (λ slot h. subst (λ (x : Phase). stood_at i (read_index x) p ≡ Some slot) e (s.stood slot (ap (λ (x : Phase). reads_in x slot) e ∙ h))) s.rowed
work_right w i (Changing kept at) p e s = tt
work_right w i (Enqueuing kept at) p e s = tt
work_right w i (Dequeuing at) p e s = tt
work_right w i (Keeping at) p e s = tt

null_right : (w : World) (i key : ℕ) (base : Base) (p : Past) → (w.seat i).phase ≡ Runs (Opens (Gets key)) base → ends_base (counted (w.seat i).post) base (finds w i) 0 ≡ true → Sees w i p → null_of i (tells_of p i (machine.after base (counted (w.seat i).post) (finds w i)).told) ≡ true
null_right w i key (Protect aim index root made at) p e d s =
    let r = run_of w i (Opens (Gets key)) (Protect aim index root made at) s.seats e in
    let zero : (index == 0) ≡ true = zero_test index r.shape.at in
    let n : (not (index == 0) || nulled_at at (null_of i p)) ≡ true = subst (λ (x : Phase). nulled x (null_of i p) ≡ true) e s.nulls in
    seen_tells null_by false i (machine.protect_turn aim index root (bump made) at (counted (w.seat i).post) (finds w i)).told p ∙ ended_null aim index root (bump made) at (counted (w.seat i).post) (finds w i) (null_of i p) d zero n
null_right w i key base p e d s = absurd (cc)

ending_right : (w : World) (i : ℕ) (task : Task) (base : Base) (ending : Ending) (p : Past) → (w.seat i).phase ≡ Runs (Opens task) base → (machine.after base (counted (w.seat i).post) (finds w i)).outcome ≡ Ends ending → Sees w i p → ending_allows (Allowed w.layout.config.buckets i (tells_of p i (machine.after base (counted (w.seat i).post) (finds w i)).told)) task ending
ending_right w i (Gets key) base (Protected protect_ends.Null) p e o s = null_right w i key base p e (ends_with base (counted (w.seat i).post) (finds w i) (Protected protect_ends.Null) 0 o refl) s
ending_right w i (Changes kept) base (Protected protect_ends.Null) p e o s = tt
ending_right w i (Holds key) base (Protected protect_ends.Null) p e o s = tt
ending_right w i (Enqueues kept) base (Protected protect_ends.Null) p e o s = tt
ending_right w i Dequeues base (Protected protect_ends.Null) p e o s = tt
ending_right w i task base (Protected (protect_ends.Held slot era)) p e o s = tt
ending_right w i task base Done p e o s = tt
ending_right w i task base (Followed end) p e o s = tt
ending_right w i task base (Allocated end) p e o s = tt
ending_right w i task base (Retired life) p e o s = tt
ending_right w i task base (Clocked clock) p e o s = tt

why_right : (w : World) (i : ℕ) (why : Why) (base : Base) (ending : Ending) (p : Past) → (w.seat i).phase ≡ Runs why base → (machine.after base (counted (w.seat i).post) (finds w i)).outcome ≡ Ends ending → Sees w i p → why_allows (Allowed w.layout.config.buckets i (tells_of p i (machine.after base (counted (w.seat i).post) (finds w i)).told)) why ending
why_right w i (Opens task) base ending p e o s = ending_right w i task base ending p e o s
why_right w i why base ending p e o s = tt

outcome_right : (w : World) (i : ℕ) (why : Why) (base : Base) (outcome : Outcome) (p : Past) → (w.seat i).phase ≡ Runs why base → (machine.after base (counted (w.seat i).post) (finds w i)).outcome ≡ outcome → Sees w i p → outcome_allows (Allowed w.layout.config.buckets i (tells_of p i (machine.after base (counted (w.seat i).post) (finds w i)).told)) why outcome
outcome_right w i why base (Goes next) p e o s = tt
outcome_right w i why base (Ends ending) p e o s = why_right w i why base ending p e o s

phase_right : (w : World) (i : ℕ) (phase : Phase) (p : Past) → (w.seat i).phase ≡ phase → Sees w i p → phase_allows (Allowed w.layout.config.buckets i (tells_of p i (own_told phase (counted (w.seat i).post) (finds w i)))) phase (counted (w.seat i).post) (finds w i)
phase_right w i Idle p e s = tt
phase_right w i (Runs why base) p e s = outcome_right w i why base (machine.after base (counted (w.seat i).post) (finds w i)).outcome p e refl s
phase_right w i (Scans later at) p e s = tt
phase_right w i (Works work) p e s = work_right w i work p e s

step_gots : (w : World) (i : ℕ) (p : Past) → Sees w i p → Each gots_ok p → Each gots_ok (tells_of p i (told_in w i))
step_gots w i p s g =
    let phase : Phase = (w.seat i).phase in
    let post : Post = counted (w.seat i).post in
    let front : List Event = own_told phase post (finds w i) in
    let h = step_closes (Before w.layout front) (After w.layout i p) (Allowed w.layout.config.buckets i (tells_of p i front)) (got_closing w.layout i p front (own_gotless phase post (finds w i)) g) phase post (offered w i).desk (finds w i)
    (phase_right w i phase p refl s) (first_before w.layout phase post (finds w i) (s.seats.fits i).post.layout) in
    h.1

-- along a history
record GotsKept (made : Made) (h : schedule.History) : Type 0 where
  rowed : Rowed made.world.book made.past
  nulls : (k : ℕ) → NulledIn made.world made.past k

kept : Kept GotsKept
kept = record {
  begins = λ made h i call a b f m g. record {
    rowed = begin_rowed made.world.book made.past i call g.rowed;
    nulls = λ k. begin_nulled made.world i k call made.past (k == i) refl a.known.known.valid a.known.known.seats g.nulls;
  };
  steps = λ made h i a b y g. record {
    rowed = step_rowed made.world i made.past g.rowed;
    nulls = λ k. step_nulled made.world i k made.past (k == i) refl a.known.known.valid a.known.known.seats g.nulls;
  };
}

gots_of : (layout : Layout) (path : List Item) → is_valid layout ≡ true → GotsKept (made_of layout path) (heard_of layout path)
gots_of layout path d = history_keeps layout GotsKept kept d path (record { rowed = first_book_rowed; nulls = λ k. refl })

pub records_tell_rows : RecordsTellRows
records_tell_rows layout items d = record_each layout gots_ok items (record {
  begins = λ p i call. refl;
  steps = λ path i t g.
      let w : World = world_of layout path in
      let a : Inv w = inv_reached layout path d in
      let m = gots_of layout path d in
      step_gots w i (record_of layout path)
      (record { seats = a.known.seats; knows = a.known.contents.seats i; stood = λ s e. record_stands layout path i (read_index (w.seat i).phase) d ∙ (a.known.stands.stood i).reads s e; rowed = m.rowed; nulls = m.nulls i }) g;
})
