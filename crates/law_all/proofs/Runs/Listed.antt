-- A seat's list at each position of a record: its own entries make it, with the lists that they take over. What a call that ends says of it.
use Rattle.std.proofs.Common.{ℕ, ◌≡◌, ◌⊎◌, inl, inr, Bool, true, false, List, [], ◌∷◌, ◌++◌, length, Option, None, Some, refl, sym, ap, ◌∙◌, subst, arith}
use Rattle.std.proofs.lemmas.Bool.Decides.{nat_tests}
use Rattle.std.proofs.lemmas.List.{append-nil, length-map}
use Rattle.std.specs.Prelude.{◌==◌, ◌&&◌, ◌||◌, if◌then◌else◌, not}
use Rattle.law_all.proofs.inv.model.Facts.{false_of_not, first_of, number_is, rest_of, same_number}
use Rattle.law_all.specs.inv.model.Desks.{Notes, noted}
use Rattle.law_all.specs.inv.model.Locals.{Group}
use Rattle.law_all.specs.inv.model.defs.Entry.{Entry}
use Rattle.law_all.specs.inv.model.defs.Shown.{Seen}
use Rattle.law_all.specs.inv.model.defs.declared.call.Answer.{Answer}
use Rattle.law_all.specs.inv.model.defs.declared.call.Answer.TheVariants as answers
use Rattle.law_all.specs.inv.model.defs.declared.call.Call.{Call}
use Rattle.law_all.specs.inv.model.defs.declared.call.Call.TheVariants as calls
use Rattle.law_all.specs.inv.model.defs.declared.event.Event.{Event}
use Rattle.law_all.specs.inv.model.defs.declared.event.Event.TheVariants as events
use Rattle.law_all.specs.inv.model.defs.declared.event.Root.TheVariants as roots
use Rattle.law_all.specs.inv.model.defs.declared.lifetime.Lifetime.{Lifetime}
use Rattle.law_all.specs.inv.model.words.Place.{is_valid}
use Rattle.law_all.specs.inv.model.words.declared.config.Config.{Config}
use Rattle.law_all.specs.inv.model.words.declared.layout.Layout.{Layout}
use Rattle.law_all.specs.laws.AnswerLaw.{reason, reasons_ok, suits}
use Rattle.law_all.specs.laws.HistoryAnswers.{answer_right, answers_ok, owes, same_told}
use Rattle.law_all.specs.laws.HistoryRows.{cuts_one, placing_ok, single_ok}
use Rattle.law_all.specs.laws.HistoryScans.{Course, may_read, plain_scans_ok, plain_tally, scan_right}
use Rattle.law_all.specs.laws.HistoryScans.Course.{Plain}
use Rattle.law_all.specs.laws.Once.{due_at, due_cut, due_linked, is_adopt, lists_ok, meets_due, order_ok, retiring_ok}
use Rattle.law_all.specs.laws.ScanLaw.{guards, is_life_of, is_over, next_back, scan_by, scan_ok}
use Rattle.law_all.specs.laws.Standing.{is_leave, open_ok}
use Rattle.law_all.specs.laws.Lists.{adopts, gained_by, handed_by, has_left, is_adopted, list_of}
use Rattle.law_all.specs.laws.StateAt.{Given, began_of, bucket_at, cuts_of, given_of, is_among, is_back, is_dequeue, is_empty, is_open, read_of, retires_of, scans_of, times, told_of}
use Rattle.law_all.proofs.inv.history.Entries.{each_before, each_of_entries}
use Rattle.law_all.specs.inv.rows.Hands.{each_once, no_entry}
use Rattle.law_all.specs.inv.history.History.{Item, record_of}
use Rattle.law_all.specs.inv.history.Record.{Each, Past, tells}
use Rattle.law_all.specs.inv.history.Record.Past.{Start, Then}
use Rattle.law_all.proofs.Whole.{histories_are_lawful}
use Rattle.law_all.proofs.Logs.Ledgers.{ledger_began}
use Rattle.law_all.proofs.Logs.Lists.{leaves_open}
use Rattle.law_all.specs.Logs.Ledgers.{ledger_of, log_of, notes_of}
use Rattle.law_all.specs.Logs.Records.{IsEnded}
use Rattle.law_all.proofs.Logs.Runs.Entries.{fresh_ok, kind_right, kinds_ok, records_keep_fresh, records_keep_kinds}
use Rattle.law_all.proofs.Logs.Runs.Hands.{hands_ok, records_keep_hands}
use Rattle.law_all.proofs.Logs.Runs.Owned.{AllTaken, IsTaken, adopted_left, first_taken, left_first, own_is, own_of}
use Rattle.law_all.proofs.Runs.Seats.{Allowed, Deed, Seat, gains, hands_on, is_out, is_reading, open_right, parts, seat_by, slots_in, takes_list}
use Rattle.law_all.proofs.Runs.Stages.{Backs, Sound, Stage, all_are, sound_step, stage_backs}
use Rattle.law_all.proofs.Runs.Tellings.{told_owed}
use Rattle.law_all.specs.RunLaw.{early_backs, is_part_of, late_backs, list_after, list_between, list_from, slots_gained, taken_over}

-- what each entry keeps
pub record Kept (c : Config) (r : Past) : Type 0 where
  pub calls : Each open_ok r
  pub told : Each (answers_ok c.buckets) r
  pub reasons : Each (reasons_ok c) r
  pub scans : Each (scan_ok c) r
  pub courses : Each (plain_scans_ok c) r
  pub placing : Each placing_ok r
  pub order : Each (order_ok c.slots) r
  pub retiring : Each retiring_ok r
  pub single : Each single_ok r
  pub fresh : Each fresh_ok r
  pub kinds : Each kinds_ok r
  pub lists : Each lists_ok r
  pub hands : Each hands_ok r

pub before_last : (c : Config) (p : Past) (i : ℕ) (event : Event) → Kept c (Then p i event) → Kept c p
before_last c p i event l = record {
  calls = l.calls.1;
  told = l.told.1;
  reasons = l.reasons.1;
  scans = l.scans.1;
  courses = l.courses.1;
  placing = l.placing.1;
  order = l.order.1;
  retiring = l.retiring.1;
  single = l.single.1;
  fresh = l.fresh.1;
  kinds = l.kinds.1;
  lists = l.lists.1;
  hands = l.hands.1;
}

pub record_keeps : (layout : Layout) (items : List Item) → is_valid layout ≡ true → Kept layout.config (record_of layout items)
record_keeps layout items d =
    let r : Past = record_of layout items in
    let h = histories_are_lawful layout items d in
    record {
      calls = each_of_entries open_ok r h.laws.calls;
      told = each_of_entries _ r h.beyond.answers.told;
      reasons = each_of_entries _ r h.laws.answers.reasons;
      scans = each_of_entries _ r h.laws.scans.blocks;
      courses = each_of_entries _ r h.beyond.scans.due;
      placing = each_of_entries placing_ok r h.beyond.rows.placing;
      order = each_of_entries _ r h.laws.once.order;
      retiring = each_of_entries retiring_ok r h.laws.once.retiring;
      single = each_of_entries single_ok r h.beyond.rows.single;
      fresh = records_keep_fresh layout items d;
      kinds = records_keep_kinds layout items d;
      lists = each_of_entries lists_ok r h.laws.once.lists;
      hands = records_keep_hands layout items d;
    }

-- what the entries of seat k come to, where the lists that it takes over are these
abbrev pub seat_at : Config → (left : ℕ → List Lifetime) → ℕ → Past → Seat
seat_at c left k p =
    record {
      read = read_of (guards c) k p;
      lives = own_of left k p;
      scans = scans_of k p;
      tally = plain_tally c.every k p;
      given = given_of k p;
      cuts = cuts_of k p;
      retires = retires_of k p;
      opened = is_open k p;
      told = told_of k p;
      ledger = ledger_of k p;
    }

seat_own : (c : Config) (left : ℕ → List Lifetime) (k : ℕ) (p : Past) (event : Event) → seat_at c left k (Then p k event) ≡ seat_by c left event (seat_at c left k p)
seat_own c left k p event = let e : (k == k) ≡ true = same_number k in rw e refl

seat_other : (c : Config) (left : ℕ → List Lifetime) (k i : ℕ) (p : Past) (event : Event) → (k == i) ≡ false → seat_at c left k (Then p i event) ≡ seat_at c left k p
seat_other c left k i p event e = rw e refl

-- A cut comes after a link of the same seat: to a bucket's root, where the row is placed, or to the head, in a dequeue.
no_more : (j : ℕ) (q : Past) (k slot : ℕ) → meets_due (due_cut j q) k (events.Cut slot) ≡ true → ⊥
no_more j Start k slot h = cc
no_more j (Then p i (events.Link (roots.Bucket bucket) row)) k slot h = cc
no_more j (Then p i (events.Link (roots.Next parent) row)) k slot h = cc
no_more j (Then p i (events.Link roots.Head row)) k slot h = cc
no_more j (Then p i (events.Link roots.Tail row)) k slot h = cc
no_more j (Then p i event) k slot h = cc

linked_seat : (j bucket k slot : ℕ) (old : Option ℕ) → meets_due (due_linked j bucket old) k (events.Cut slot) ≡ true → (k == j) ≡ true
linked_seat j bucket k slot None h = absurd (cc)
linked_seat j bucket k slot (Some old) h = first_of (k == j) (slot == old) h

bucket_out : (k j bucket row : ℕ) (q : Past) → (k == j) ≡ true
    → is_out (began_of k (Then q j (events.Link (roots.Bucket bucket) row))) (given_of k (Then q j (events.Link (roots.Bucket bucket) row))) ≡ true
bucket_out k j bucket row q e = rw e refl

head_by : (call : Option Call) (given : Given) → is_dequeue call ≡ true → is_out call given ≡ true
head_by call Given.Without h = h
head_by call (Given.InHand slot) h = h
head_by call Given.Placed h = refl

head_out : (k j row : ℕ) (q : Past) → (k == j) ≡ true → kinds_ok q j (events.Link roots.Head row) ≡ true
    → is_out (began_of k (Then q j (events.Link roots.Head row))) (given_of k (Then q j (events.Link roots.Head row))) ≡ true
head_out k j row q e h =
    let one : k ≡ j = number_is k j e in
    let t : is_dequeue (began_of k q) ≡ true = rw one h in
    rw e (head_by (began_of k q) (given_of k q) t)

cut_out : (slots k slot : ℕ) (p : Past) → Each kinds_ok p → meets_due (due_at slots p) k (events.Cut slot) ≡ true
    → is_out (began_of k p) (given_of k p) ≡ true
cut_out slots k slot Start l h = absurd (cc)
cut_out slots k slot (Then q j (events.Link (roots.Bucket bucket) row)) l h = bucket_out k j bucket row q (linked_seat j bucket k slot (bucket_at bucket q) h)
cut_out slots k slot (Then q j (events.Link (roots.Next parent) row)) l h = absurd (cc)
cut_out slots k slot (Then q j (events.Link roots.Head row)) l h = head_out k j row q (first_of (k == j) (slot == _) h) l.0
cut_out slots k slot (Then q j (events.Link roots.Tail row)) l h = absurd (cc)
cut_out slots k slot (Then q j (events.Cut other)) l h = absurd (no_more j q k slot h)
cut_out slots k slot (Then q j event) l h = absurd (cc)

-- the seat may tell each of its entries
opens_right : (p : Past) (k : ℕ) (event : Event) → open_ok p k event ≡ true → open_right event (is_open k p) ≡ true
opens_right p k (events.Begin call) h = first_of (not (is_open k p)) (not (has_left k p)) h
opens_right p k event h = h

some_cut : (slot : ℕ) (cuts : List ℕ) → is_among slot cuts ≡ true → is_empty cuts ≡ false
some_cut slot [] h = absurd (cc)
some_cut slot (other ∷ cuts) h = refl

began_some : (n : ℕ) (began : Option Call) (told : List Event) (answer : Answer) → answer_right n began told answer ≡ true
    → (call : Call) × (began ≡ Some call)
began_some n None told answer h = absurd (cc)
began_some n (Some call) told answer h = (call, refl)

-- what a call has told to take over is what its answer says
owed_gains : (n : ℕ) (left : ℕ → List ℕ) (call : Call) (answer : Answer) → gains left (owes n call answer) ≡ slots_gained left (taken_over call answer)
owed_gains n left (calls.Adopt place) (answers.Adopted count) = append-nil (left place)
owed_gains n left (calls.Get key) (answers.Got version value) = refl
owed_gains n left (calls.Put key value) (answers.Done version clock) = refl
owed_gains n left (calls.Remove key) (answers.Done version clock) = refl
owed_gains n left (calls.PutIf key value wanted) (answers.Done version clock) = refl
owed_gains n left (calls.Enqueue value) (answers.Queued number) = refl
owed_gains n left calls.Dequeue (answers.Taken number value clock) = refl
owed_gains n left (calls.Copy from index) (answers.Copied slot) = refl
owed_gains n left calls.Leave (answers.Left count) = refl
owed_gains n left call answer = refl

adopts_list : (place : ℕ) (call : Option Call) → is_adopt place call ≡ true → takes_list call ≡ true
adopts_list place (Some (calls.Adopt other)) h = refl
adopts_list place call h = absurd (cc)

leave_cuts : (call : Option Call) → is_leave call ≡ true → cuts_one call ≡ true → ⊥
leave_cuts (Some calls.Leave) h k = absurd (cc)
leave_cuts call h k = absurd (cc)

leave_takes : (call : Option Call) → is_leave call ≡ true → takes_list call ≡ true → ⊥
leave_takes (Some calls.Leave) h k = absurd (cc)
leave_takes call h k = absurd (cc)

-- Another seat has not taken the seat's list over; or the seat is in the call by which it leaves.
pub record Parted (k : ℕ) (p : Past) : Type 0 where
  pub left : has_left k p ≡ true
  pub leave : is_leave (began_of k p) ≡ true

abbrev pub Owns : (left : ℕ → List Lifetime) → ℕ → Past → Type 0
Owns left k p = (list_of k p ≡ own_of left k p) ⊎ Parted k p

event_open : (p : Past) (k : ℕ) (event : Event) → open_ok p k event ≡ true → has_left k p ≡ true → is_open k p ≡ true
event_open p k (events.Begin call) o h =
    let none : has_left k p ≡ false = false_of_not (has_left k p) (rest_of (not (is_open k p)) (not (has_left k p)) o) in
    absurd (let both : true ≡ false = sym h ∙ none in cc)
event_open p k event o h = o

owns : (c : Config) (left : ℕ → List Lifetime) (k : ℕ) (p : Past) (event : Event) → Kept c (Then p k event) → AllTaken left p → Owns left k p
owns c left k p event l t = by (is_adopted k p) refl
  where
    by : (adopted : Bool) → is_adopted k p ≡ adopted → Owns left k p
    by true e =
        let h : has_left k p ≡ true = adopted_left k p l.lists.1 e in
        inr (record { left = h; leave = leaves_open k p l.calls.1 l.lists.1 (event_open p k event l.calls.0 h) h })
    by false e = inl (own_is left k p t e)

retire_deed : (left : ℕ → List Lifetime) (k slot : ℕ) (p : Past) → Owns left k p → cuts_one (began_of k p) ≡ true → no_entry slot (list_of k p) ≡ true
    → no_entry slot (own_of left k p) ≡ true
retire_deed left k slot p (inl o) k1 h = subst (λ (xs : List Lifetime). no_entry slot xs ≡ true) o h
retire_deed left k slot p (inr o) k1 h = absurd (leave_cuts (began_of k p) o.leave k1)

left_deed : (left : ℕ → List Lifetime) (k count : ℕ) (p : Past) → Owns left k p → not (has_left k p) ≡ true → (count == length (list_of k p)) ≡ true
    → (count == length (own_of left k p)) ≡ true
left_deed left k count p (inl o) n h = subst (λ (xs : List Lifetime). (count == length xs) ≡ true) o h
left_deed left k count p (inr o) n h = let y : has_left k p ≡ true = o.left in absurd (grind (arith, nat_tests))

joined_at : (k place count : ℕ) (p : Past) → hands_ok p k (events.Adopted place count) ≡ true → each_once (list_of k p ++ list_of place p) ≡ true
joined_at k place count p h =
    subst (λ (b : Bool). each_once (if b then list_of k p ++ list_of place p else handed_by k (events.Adopted place count) (list_of k p)) ≡ true) (same_number k) h

adopt_deed : (left : ℕ → List Lifetime) (k place count : ℕ) (p : Past) → Owns left k p → takes_list (began_of k p) ≡ true → list_of place p ≡ left place
    → each_once (list_of k p ++ list_of place p) ≡ true → each_once (own_of left k p ++ left place) ≡ true
adopt_deed left k place count p (inl o) y t h =
    subst (λ (xs : List Lifetime). each_once (xs ++ left place) ≡ true) o (subst (λ (xs : List Lifetime). each_once (list_of k p ++ xs) ≡ true) t h)
adopt_deed left k place count p (inr o) y t h = absurd (leave_takes (began_of k p) o.leave y)

deed_at : (c : Config) (left : ℕ → List Lifetime) (k : ℕ) (p : Past) (event : Event) → Kept c (Then p k event) → AllTaken left (Then p k event)
    → Owns left k p → Deed left event (seat_at c left k p)
deed_at c left k p (events.Cut slot) l t o =
    subst (λ (x : Option Call). is_out x (given_of k p) ≡ true) (sym (ledger_began k p)) (cut_out c.slots k slot p l.kinds.1 l.order.0)
deed_at c left k p (events.Retire slot birth retire) l t o =
    let one : cuts_one (began_of k p) ≡ true = first_of (cuts_one (began_of k p)) (retires_of k p == 0) l.single.0 in (
      rest_of (cuts_one (began_of k p)) (retires_of k p == 0) l.single.0,
      retire_deed left k slot p o one l.fresh.0,
      some_cut slot (cuts_of k p) l.retiring.0,
      ap cuts_one (ledger_began k p) ∙ one,
    )
deed_at c left k p (events.Left count) l t o = (
  ap is_leave (ledger_began k p) ∙ first_of (is_leave (began_of k p)) (count == length (list_of k p)) l.lists.0,
  left_deed left k count p o l.hands.0 (rest_of (is_leave (began_of k p)) (count == length (list_of k p)) l.lists.0),
)
deed_at c left k p (events.Adopted place count) l t o =
    let rest : Bool = has_left place p && (not (is_adopted place p) && count == length (list_of place p)) in
    let one : takes_list (began_of k p) ≡ true = adopts_list place (began_of k p) (first_of (is_adopt place (began_of k p)) rest l.lists.0) in
    (ap takes_list (ledger_began k p) ∙ one, adopt_deed left k place count p o one t.0 (joined_at k place count p l.hands.0))
deed_at c left k p (events.End steps answer) l t o =
    let b = began_some c.buckets (began_of k p) (told_of k p) answer l.told.0 in
    let told : told_of k p ≡ owes c.buckets b.0 answer = told_owed c.buckets b.0 answer (told_of k p) (began_of k p) b.1 l.told.0 in
    (b.0, ledger_began k p ∙ b.1, ap (gains (slots_in left)) told ∙ owed_gains c.buckets (slots_in left) b.0 answer)
deed_at c left k p event l t o = tt

-- a seat in the call by which it leaves scans nothing
rests_by : (scans : Bool) (course : Course) → course ≡ Plain → (scans ≡ true → is_reading course ≡ true) → scans ≡ false
rests_by true course e f = let r : is_reading Plain ≡ true = subst (λ (y : Course). is_reading y ≡ true) e (f refl) in absurd (cc)
rests_by false course e f = refl

leave_hands : (call : Option Call) → is_leave call ≡ true → hands_on call ≡ true
leave_hands (Some calls.Leave) h = refl
leave_hands call h = absurd (cc)

parted_plain : (c : Config) (left : ℕ → List Lifetime) (k : ℕ) (p : Past) → Sound c left (seat_at c left k p) → Parted k p → (plain_tally c.every k p).course ≡ Plain
parted_plain c left k p s o = s.path.quiet (leave_hands (ledger_of k p).call (ap is_leave (ledger_began k p) ∙ o.leave))

parted_rests : (c : Config) (left : ℕ → List Lifetime) (k : ℕ) (p : Past) → Sound c left (seat_at c left k p) → Parted k p → scans_of k p ≡ false
parted_rests c left k p s o = rests_by (scans_of k p) (plain_tally c.every k p).course (parted_plain c left k p s o) s.scan.under

never_reads : (all : ℕ) (course : Course) → course ≡ Plain → may_read all course ≡ true → ⊥
never_reads all course e h = let t : may_read all Plain ≡ true = subst (λ (y : Course). may_read all y ≡ true) e h in cc

any_scan : (c : Config) (read : List Seen) (list other : List Lifetime) (scans : Bool) (course : Course) (event : Event) → scans ≡ false → course ≡ Plain
    → scan_right (guards c) event course ≡ true → scan_by c read list scans event ≡ true → scan_by c read other scans event ≡ true
any_scan c read list other scans course (events.Read guard span) n e r h = absurd (never_reads (guards c) course e r)
any_scan c read list other scans course (events.Saw guard slot) n e r h = absurd (never_reads (guards c) course e r)
any_scan c read list other scans course (events.Back slot) n e r h =
    let y : scans ≡ true = first_of scans (length read == guards c && is_life_of slot (next_back read list)) h in
    absurd (let both : true ≡ false = sym y ∙ n in cc)
any_scan c read list other scans course event n e r h = ap (λ (b : Bool). not b || is_over (guards c) read other) n

scans_by : (c : Config) (left : ℕ → List Lifetime) (k : ℕ) (p : Past) (event : Event) → Sound c left (seat_at c left k p) → Owns left k p
    → scan_right (guards c) event (plain_tally c.every k p).course ≡ true → scan_ok c p k event ≡ true
    → scan_by c (read_of (guards c) k p) (own_of left k p) (scans_of k p) event ≡ true
scans_by c left k p event s (inl o) r h =
    subst (λ (xs : List Lifetime). scan_by c (read_of (guards c) k p) xs (scans_of k p) event ≡ true) o h
scans_by c left k p event s (inr o) r h =
    any_scan c (read_of (guards c) k p) (list_of k p) (own_of left k p) (scans_of k p) (plain_tally c.every k p).course event
    (parted_rests c left k p s o) (parted_plain c left k p s o) r h

allowed_at : (c : Config) (left : ℕ → List Lifetime) (k : ℕ) (p : Past) (event : Event) → Kept c (Then p k event) → AllTaken left (Then p k event)
    → Sound c left (seat_at c left k p) → Allowed c left event (seat_at c left k p)
allowed_at c left k p event l t s =
    let o : Owns left k p = owns c left k p event l t.1 in
    record {
      opens = opens_right p k event l.calls.0;
      scans = scans_by c left k p event s o l.courses.0 l.scans.0;
      course = l.courses.0;
      places = l.placing.0;
      kinds = subst (λ (x : Option Call). kind_right x event ≡ true) (sym (ledger_began k p)) l.kinds.0;
      deed = deed_at c left k p event l t o;
    }

-- at each position
sound_entry : (c : Config) (left : ℕ → List Lifetime) (k i : ℕ) (p : Past) (event : Event) (same : Bool) → (k == i) ≡ same → Kept c (Then p i event)
    → AllTaken left (Then p i event) → Sound c left (seat_at c left k p) → Sound c left (seat_at c left k (Then p i event))
sound_entry c left k i p event true e l t g =
    let one : k ≡ i = number_is k i e in
    let own : Kept c (Then p k event) = subst (λ (j : ℕ). Kept c (Then p j event)) (sym one) l in
    subst (λ (j : ℕ). Sound c left (seat_at c left k (Then p j event))) one
    (subst (Sound c left) (sym (seat_own c left k p event)) (sound_step c left event (seat_at c left k p) (allowed_at c left k p event own t g) g))
sound_entry c left k i p event false e l t g = subst (Sound c left) (sym (seat_other c left k i p event e)) g

pub sound_at : (c : Config) (left : ℕ → List Lifetime) (k : ℕ) (p : Past) → Kept c p → AllTaken left p → Sound c left (seat_at c left k p)
sound_at c left k Start l t = record {
  once = refl;
  scan = record { whole = λ e. refl; under = λ e. absurd (cc); counts = tt };
  path = record { cut = λ e. absurd (cc); retired = λ e. absurd (cc); plain = λ z o. refl; quiet = λ q. absurd (cc) };
  stage = λ o. absurd (cc);
  rest = λ o. refl;
}
sound_at c left k (Then p i event) l t = sound_entry c left k i p event (k == i) refl l t (sound_at c left k p (before_last c p i event l) t.1)

-- Once a seat's list is taken over, the seat's own entries leave it as it is.
parted_still : (c : Config) (left : ℕ → List Lifetime) (k : ℕ) (p : Past) (event : Event) → Kept c (Then p k event) → Sound c left (seat_at c left k p)
    → Parted k p → gained_by event left (own_of left k p) ≡ own_of left k p
parted_still c left k p (events.Retire slot birth retire) l s o =
    absurd (leave_cuts (began_of k p) o.leave (first_of (cuts_one (began_of k p)) (retires_of k p == 0) l.single.0))
parted_still c left k p (events.Back slot) l s o =
    let read : List Seen = read_of (guards c) k p in
    let y : scans_of k p ≡ true = first_of (scans_of k p) (length read == guards c && is_life_of slot (next_back read (list_of k p))) l.scans.0 in
    absurd (let both : true ≡ false = sym y ∙ parted_rests c left k p s o in cc)
parted_still c left k p (events.Adopted place count) l s o =
    let rest : Bool = has_left place p && (not (is_adopted place p) && count == length (list_of place p)) in
    absurd (leave_takes (began_of k p) o.leave (adopts_list place (began_of k p) (first_of (is_adopt place (began_of k p)) rest l.lists.0)))
parted_still c left k p event l s o = refl

parted_at : (c : Config) (k : ℕ) (p : Past) (event : Event) → Kept c (Then p k event) → has_left k p ≡ true → Parted k p
parted_at c k p event l h = record { left = h; leave = leaves_open k p l.calls.1 l.lists.1 (event_open p k event l.calls.0 h) h }

own_still : (c : Config) (left : ℕ → List Lifetime) (k i : ℕ) (p : Past) (event : Event) (same : Bool) → (k == i) ≡ same → Kept c (Then p i event)
    → Sound c left (seat_at c left k p) → has_left k p ≡ true → own_of left k (Then p i event) ≡ own_of left k p
own_still c left k i p event true e l s h =
    let one : k ≡ i = number_is k i e in
    let own : Kept c (Then p k event) = subst (λ (j : ℕ). Kept c (Then p j event)) (sym one) l in
    rw e (parted_still c left k p event own s (parted_at c k p event own h))
own_still c left k i p event false e l s h = rw e refl

-- the list that was taken over from a seat is what its own entries make
pub whole_at : (c : Config) (left : ℕ → List Lifetime) (k : ℕ) (p : Past) → Kept c p → AllTaken left p → is_adopted k p ≡ true → left k ≡ own_of left k p
whole_at c left k Start l t a = absurd (cc)
whole_at c left k (Then p i event) l t a =
    by event (adopts k event) refl l.lists.0 t.0 a (λ b. whole_at c left k p (before_last c p i event l) t.1 b)
  where
    sound : Sound c left (seat_at c left k p)
    sound = sound_at c left k p (before_last c p i event l) t.1

    still : has_left k p ≡ true → own_of left k (Then p i event) ≡ own_of left k p
    still h = own_still c left k i p event (k == i) refl l sound h

    by : (told : Event) (here : Bool) → adopts k told ≡ here → lists_ok p i told ≡ true → IsTaken left p told → (here || is_adopted k p) ≡ true
        → (is_adopted k p ≡ true → left k ≡ own_of left k p) → left k ≡ own_of left k (Then p i event)
    by (events.Adopted place count) true e h u b f =
        let one : place ≡ k = sym (number_is k place e) in
        let first : is_adopted k p ≡ false = ap (λ (x : ℕ). is_adopted x p) (sym one) ∙ first_taken p i place count h in
        let gone : has_left k p ≡ true = ap (λ (x : ℕ). has_left x p) (sym one) ∙ left_first p i place count h in
        let was : list_of k p ≡ left k = subst (λ (x : ℕ). list_of x p ≡ left x) one u in
        sym was ∙ own_is left k p t.1 first ∙ sym (still gone)
    by told true e h u b f = absurd (cc)
    by told false e h u b f = f b ∙ sym (still (adopted_left k p l.lists.1 b))

-- where a call ends
pub kept_before : (c : Config) (p : Past) (xs : List Entry) → Kept c (tells p xs) → Kept c p
kept_before c p xs l = record {
  calls = each_before _ p xs l.calls;
  told = each_before _ p xs l.told;
  reasons = each_before _ p xs l.reasons;
  scans = each_before _ p xs l.scans;
  courses = each_before _ p xs l.courses;
  placing = each_before _ p xs l.placing;
  order = each_before _ p xs l.order;
  retiring = each_before _ p xs l.retiring;
  single = each_before _ p xs l.single;
  fresh = each_before _ p xs l.fresh;
  kinds = each_before _ p xs l.kinds;
  lists = each_before _ p xs l.lists;
  hands = each_before _ p xs l.hands;
}

noted_backs : (gained first : List ℕ) (notes : Notes) (lives : List Lifetime) (steps : ℕ) (answer : Answer) → Backs gained first notes lives
    → Backs gained first (noted notes (events.End steps answer)) lives
noted_backs gained first notes lives steps answer p = record { early = p.early; late = p.late; left = p.left }

scan_kept : (c : Config) (k : ℕ) (p : Past) (call : Call) (kept back : ℕ) → suits call (answers.Scanned kept back) ≡ true
    → reason c k p (Some call) (answers.Scanned kept back) ≡ true → kept ≡ length (list_of k p)
scan_kept c k p calls.Scan kept back s h = number_is kept (length (list_of k p)) (first_of (kept == length (list_of k p)) (back == times k is_back p) h)
scan_kept c k p call kept back s h = absurd (cc)

call_suits : (n : ℕ) (began : Option Call) (call : Call) (told : List Event) (answer : Answer) → began ≡ Some call → answer_right n began told answer ≡ true
    → suits call answer ≡ true
call_suits n began call told answer e h =
    let t : answer_right n (Some call) told answer ≡ true = subst (λ (x : Option Call). answer_right n x told answer ≡ true) e h in
    first_of (suits call answer) (same_told told (owes n call answer)) t

-- where a call of the record ends
pub taken_before : (left : ℕ → List Lifetime) (p : Past) (xs : List Entry) → AllTaken left (tells p xs) → AllTaken left p
taken_before left p [] t = t
taken_before left p (x ∷ xs) t = (taken_before left (Then p x.seat x.event) xs t).1

-- what such a call says of its seat's list, where the lists that are taken over have these slots
pub record Right (left : ℕ → List ℕ) (before : List Group) (group : Group) : Type 0 where
  pub early : is_part_of (early_backs group.notes) (list_from left [] before) ≡ true
  pub late : is_part_of (late_backs group.notes) (list_between left (list_from left [] before) group) ≡ true
  pub kept : (kept back : ℕ) → group.answer ≡ answers.Scanned kept back → kept ≡ length (list_after left (list_from left [] before) group)
  pub parted : (count : ℕ) → group.answer ≡ answers.Left count → count ≡ length (list_after left (list_from left [] before) group)

scan_not : (call : Option Call) → call ≡ Some calls.Scan → is_leave call ≡ true → ⊥
scan_not (Some calls.Scan) e h = absurd (cc)
scan_not call e h = absurd (cc)

scan_owns : (left : ℕ → List Lifetime) (k : ℕ) (p : Past) → began_of k p ≡ Some calls.Scan → Owns left k p → list_of k p ≡ own_of left k p
scan_owns left k p b (inl o) = o
scan_owns left k p b (inr o) = absurd (scan_not (began_of k p) b o.leave)

is_scanned : (call : Call) (kept back : ℕ) → suits call (answers.Scanned kept back) ≡ true → call ≡ calls.Scan
is_scanned calls.Scan kept back s = refl
is_scanned call kept back s = absurd (cc)

is_parted : (call : Call) (count : ℕ) → suits call (answers.Left count) ≡ true → call ≡ calls.Leave
is_parted calls.Leave count s = refl
is_parted call count s = absurd (cc)

parted_long : (n count : ℕ) (told : List Event) → told ≡ events.Left count ∷ [] → all_are n (parts told) ≡ true → count ≡ n
parted_long n count told e h =
    let one : all_are n (count ∷ []) ≡ true = subst (λ (xs : List Event). all_are n (parts xs) ≡ true) e h in
    number_is count n (first_of (count == n) true one)

pub ended_right : (c : Config) (left : ℕ → List Lifetime) (k : ℕ) (r : Past) (before : List Group) (group : Group) → Kept c r → AllTaken left r
    → IsEnded k r before group → Right (slots_in left) before group
ended_right c left k r before group l t e =
    let steps : ℕ = group.notes.steps in
    let event : Event = events.End steps group.answer in
    let f : ℕ → List ℕ = slots_in left in
    let m : Kept c (Then e.at k event) = kept_before c (Then e.at k event) e.later (subst (Kept c) e.cut l) in
    let u : AllTaken left e.at = (taken_before left (Then e.at k event) e.later (subst (AllTaken left) e.cut t)).1 in
    let s : Sound c left (seat_at c left k e.at) = sound_at c left k e.at (before_last c e.at k event m) u in
    let stage : Stage (guards c) f (list_from f [] (log_of k e.at)) (seat_at c left k e.at) = s.stage m.calls.0 in
    let lives : List Lifetime = own_of left k e.at in
    let suit : suits group.call group.answer ≡ true = call_suits c.buckets (began_of k e.at) group.call (told_of k e.at) group.answer e.call m.told.0 in
    let told : told_of k e.at ≡ owes c.buckets group.call group.answer =
    told_owed c.buckets group.call group.answer (told_of k e.at) (began_of k e.at) e.call m.told.0 in
    let gained : gains f (told_of k e.at) ≡ slots_gained f (taken_over group.call group.answer) =
    ap (gains f) told ∙ owed_gains c.buckets f group.call group.answer in
    let p : Backs (gains f (told_of k e.at)) (list_from f [] (log_of k e.at)) (notes_of k e.at) lives =
    stage_backs (guards c) f (list_from f [] (log_of k e.at)) (seat_at c left k e.at) stage in
    let q : Backs (slots_gained f (taken_over group.call group.answer)) (list_from f [] before) group.notes lives =
    subst (λ (xs : List ℕ). Backs xs (list_from f [] before) group.notes lives) gained
    (subst (λ (log : List Group). Backs (gains f (told_of k e.at)) (list_from f [] log) group.notes lives) e.log
    (subst (λ (notes : Notes). Backs (gains f (told_of k e.at)) (list_from f [] (log_of k e.at)) notes lives) (sym e.notes)
    (noted_backs (gains f (told_of k e.at)) (list_from f [] (log_of k e.at)) (notes_of k e.at) lives steps group.answer p))) in
    let long : length lives ≡ length (list_after f (list_from f [] before) group) =
    sym (length-map lives (λ (life : Lifetime). life.slot)) ∙ ap length q.left in
    let why : reason c k e.at (Some group.call) group.answer ≡ true = subst (λ (x : Option Call). reason c k e.at x group.answer ≡ true) e.call m.reasons.0 in
    record {
      early = q.early;
      late = q.late;
      kept = λ kept back a.
          let suited : suits group.call (answers.Scanned kept back) ≡ true = subst (λ (x : Answer). suits group.call x ≡ true) a suit in
          let scan : began_of k e.at ≡ Some calls.Scan = e.call ∙ ap (λ (x : Call). Some x) (is_scanned group.call kept back suited) in
          scan_kept c k e.at group.call kept back suited (subst (λ (x : Answer). reason c k e.at (Some group.call) x ≡ true) a why)
          ∙ ap length (scan_owns left k e.at scan (owns c left k e.at event m u)) ∙ long;
      parted = λ count a.
          let suited : suits group.call (answers.Left count) ≡ true = subst (λ (x : Answer). suits group.call x ≡ true) a suit in
          let one : told_of k e.at ≡ events.Left count ∷ [] =
          told ∙ ap (λ (x : Answer). owes c.buckets group.call x) a ∙ ap (λ (x : Call). owes c.buckets x (answers.Left count)) (is_parted group.call count suited) in
          parted_long (length lives) count (told_of k e.at) one stage.parted ∙ long;
    }
