-- What logs say of lists: of each history whose seats are between calls, from what its record keeps.
use Rattle.std.proofs.Common.{ℕ, zero, suc, ◌≡◌, ◌≤◌, ◌<◌, ◌+◌, Bool, true, false, List, [], ◌∷◌, ◌++◌, length, Option, None, Some, refl, sym, ap, ◌∙◌, subst, arith, append_assoc}
use Rattle.std.proofs.lemmas.Bool.Decides.{nat_tests}
use Rattle.std.proofs.lemmas.List.{get_or_past, length-map}
use Rattle.std.proofs.lemmas.List.FromFn.{get_or-map-range_with_len, length-map-range_with_len}
use Rattle.std.specs.Prelude.{◌==◌, ◌&&◌, ◌||◌, count_by, if◌then◌else◌, nat_lt, not}
use Rattle.law_all.proofs.inv.model.Facts.{false_of_not, first_of, number_is, or_more, rest_of, same_number}
use Rattle.law_all.specs.inv.model.CallReady.{slots_of}
use Rattle.law_all.specs.inv.model.Desks.{Notes}
use Rattle.law_all.specs.inv.model.Locals.{Group}
use Rattle.law_all.specs.inv.model.defs.Entry.{Entry}
use Rattle.law_all.specs.inv.model.defs.declared.call.Answer.{Answer}
use Rattle.law_all.specs.inv.model.defs.declared.call.Answer.TheVariants as answers
use Rattle.law_all.specs.inv.model.defs.declared.call.Call.{Call}
use Rattle.law_all.specs.inv.model.defs.declared.call.Call.TheVariants as calls
use Rattle.law_all.specs.inv.model.defs.declared.event.Event.{Event}
use Rattle.law_all.specs.inv.model.defs.declared.event.Event.TheVariants as events
use Rattle.law_all.specs.inv.model.defs.declared.lifetime.Lifetime.{Lifetime}
use Rattle.law_all.specs.inv.model.words.declared.config.Config.{Config}
use Rattle.law_all.specs.inv.model.words.declared.layout.Layout.{Layout}
use Rattle.law_all.specs.laws.AnswerLaw.{adopted_else}
use Rattle.law_all.specs.laws.HistoryAnswers.{owes}
use Rattle.law_all.specs.laws.Once.{is_adopt, lists_ok}
use Rattle.law_all.specs.laws.Standing.{is_leave, open_ok}
use Rattle.law_all.specs.laws.Lists.{adopts, has_left, is_adopted, is_left, list_of}
use Rattle.law_all.specs.laws.StateAt.{began_of, is_open, one, told, told_of}
use Rattle.law_all.specs.inv.history.History.{Item, record_of}
use Rattle.law_all.specs.inv.history.Record.{Each, Past, begins, tells}
use Rattle.law_all.specs.inv.history.Record.Past.{Start, Then}
use Rattle.law_all.proofs.Logs.Answered.{adopted_on, adopted_tells, left_tells}
use Rattle.law_all.proofs.Logs.Cuts.{logs_are_cut}
use Rattle.law_all.proofs.Logs.Knows.{other_inner}
use Rattle.law_all.proofs.Logs.Ledgers.{records_keep_logs}
use Rattle.law_all.proofs.Logs.Lists.{AllTold, Told, all_told, leaves_open}
use Rattle.law_all.proofs.Records.{logs_answer}
use Rattle.law_all.specs.Logs.Answered.{IsTakenOver, SaysOfRows}
use Rattle.law_all.specs.Logs.Ledgers.{log_of}
use Rattle.law_all.specs.Logs.Records.{IsAnswered, IsEnded}
use Rattle.law_all.proofs.Runs.Calls.{Called, Follow, called, follow, log_at, log_of_seat}
use Rattle.law_all.proofs.Runs.Closes.{Closes, closes}
use Rattle.law_all.proofs.Runs.Early.{ended_early}
use Rattle.law_all.proofs.Runs.Kept.{histories_keep}
use Rattle.law_all.proofs.Runs.Listed.{Kept, Right, before_last, ended_right, kept_before, record_keeps, sound_at, taken_before, whole_at}
use Rattle.law_all.proofs.Logs.Runs.Owned.{AllTaken, adopted_left, all_taken, first_taken, handed_of, own_of}
use Rattle.law_all.proofs.Runs.Ranks.{lefts, left_counts, rank, rank_along, rank_here, rank_left, rank_low, rank_stays}
use Rattle.law_all.proofs.Runs.Rests.{seats_of}
use Rattle.law_all.proofs.Runs.Seats.{slots_in}
use Rattle.law_all.proofs.Runs.Tellings.{OfAnswers, OfHeard, answers_add_up, answers_weigh, by_answers, is_heard, told_owed}
use Rattle.law_all.proofs.Runs.Totals.{of_seats, own_count}
use Rattle.law_all.proofs.Runs.Weights.{log_fits}
use Rattle.law_all.specs.RunLaw.{InOrder, IsCall, ListsRight, early_backs, found_taken, is_part_of, is_parting, late_backs, leaves, left_after, left_in, list_after, list_between, list_from, list_in, log_in, slot_retired, slots_gained, taken_over, takes_over, total_of, without_all}
use Rattle.law_all.specs.Runs.{AtRest, RunsList, logs_of}

-- the lists that were taken over, by the record
abbrev left_by : Past → (place : ℕ) → List Lifetime
left_by r place = handed_of place r

-- What the record of such a history keeps.
record Facts (layout : Layout) (items : List Item) : Type 0 where
  kept : Kept layout.config (record_of layout items)
  taken : AllTaken (left_by (record_of layout items)) (record_of layout items)
  rest : AtRest layout items

facts : (layout : Layout) (items : List Item) → AtRest layout items → Facts layout items
facts layout items rest =
    let k : Kept layout.config (record_of layout items) = record_keeps layout items rest.valid in
    record { kept = k; taken = all_taken (record_of layout items) [] k.lists; rest = rest }

-- The logs are those of the record.
none_logged : (n k : ℕ) (p : Past) → Each (of_seats n) p → n ≤ k → log_of k p ≡ []
none_logged n k Start h low = refl
none_logged n k (Then p i event) h low =
    let below : nat_lt i n ≡ true = h.0 in
    let other : (k == i) ≡ false = grind (arith, nat_tests) in
    (other_inner k i p event other).log ∙ none_logged n k p h.1 low

pub log_is : (layout : Layout) (items : List Item) → AtRest layout items → (k : ℕ) → log_in (logs_of layout items) k ≡ log_of k (record_of layout items)
log_is layout items rest k = by (nat_lt k layout.config.seats) refl
  where
    by : (within : Bool) → nat_lt k layout.config.seats ≡ within → log_in (logs_of layout items) k ≡ log_of k (record_of layout items)
    by true e =
        let low : k < layout.config.seats = grind (arith, nat_tests) in
        get_or-map-range_with_len (log_at layout items) 0 layout.config.seats k k [] low (omega arith) ∙ sym (records_keep_logs layout items k rest.valid).log
    by false e =
        let high : layout.config.seats ≤ k = grind (arith, nat_tests) in
        let size = length-map-range_with_len (log_at layout items) 0 layout.config.seats in
        get_or_past (logs_of layout items) k [] (omega (arith, size, high))
        ∙ sym (none_logged layout.config.seats k (record_of layout items)
        (seats_of layout.config (record_of layout items) (histories_keep layout items rest.valid).ranges) high)

-- a seat's list by its log
own_listed : (layout : Layout) (items : List Item) → Facts layout items → (k : ℕ)
    → slots_of (own_of (left_by (record_of layout items)) k (record_of layout items))
    ≡ list_from (slots_in (left_by (record_of layout items))) [] (log_in (logs_of layout items) k)
own_listed layout items g k =
    let r : Past = record_of layout items in
    let closed : is_open k r ≡ false = (records_keep_logs layout items k g.rest.valid).busy ∙ g.rest.idle k in
    (sound_at layout.config (left_by r) k r g.kept g.taken).rest closed
    ∙ ap (list_from (slots_in (left_by r)) []) (sym (log_is layout items g.rest k))

-- a list that was taken over is that of its seat's own entries
whole_listed : (layout : Layout) (items : List Item) → Facts layout items → (k : ℕ) → is_adopted k (record_of layout items) ≡ true
    → slots_of (own_of (left_by (record_of layout items)) k (record_of layout items)) ≡ slots_in (left_by (record_of layout items)) k
whole_listed layout items g k a =
    let r : Past = record_of layout items in ap slots_of (sym (whole_at layout.config (left_by r) k r g.kept g.taken a))

-- What a call says that has taken a list over.
record Took (k place : ℕ) (at : Past) (answer : Answer) : Type 0 where
  count : ℕ
  is : answer ≡ answers.Adopted count
  over : IsTakenOver k place at count

took_rows : (c : Config) (k place : ℕ) (at : Past) (call : Call) (answer : Answer) → taken_over call answer ≡ Some place → SaysOfRows c k at call answer
    → Took k place at answer
took_rows c k place at (calls.Adopt other) (answers.Adopted count) e s =
    let same : other ≡ place = cc in
    record { count = count; is = refl; over = subst (λ (x : ℕ). IsTakenOver k x at count) same s }
took_rows c k place at call answer e s = absurd (cc)

-- by the record: the list was taken over, with the length told, from a seat that had left before, and the seat that took it over had not
record Taken (k place : ℕ) (r : Past) (answer : Answer) : Type 0 where
  count : ℕ
  is : answer ≡ answers.Adopted count
  adopted : is_adopted place r ≡ true
  later : rank place r < rank k r
  long : count ≡ length (handed_of place r)

adopt_not : (place : ℕ) (call : Option Call) → is_adopt place call ≡ true → is_leave call ≡ true → ⊥
adopt_not place (Some calls.Leave) a h = absurd (cc)
adopt_not place call a h = absurd (cc)

never_left : (c : Config) (k place count : ℕ) (q : Past) → Kept c (Then q k (events.Adopted place count)) → has_left k q ≡ false
never_left c k place count q l = by (has_left k q) refl
  where
    by : (left : Bool) → has_left k q ≡ left → left ≡ false
    by true e =
        let rest : Bool = has_left place q && (not (is_adopted place q) && count == length (list_of place q)) in
        absurd (adopt_not place (began_of k q) (first_of (is_adopt place (began_of k q)) rest l.lists.0) (leaves_open k q l.calls.1 l.lists.1 l.calls.0 e))
    by false e = refl

taken_at : (layout : Layout) (items : List Item) → Facts layout items → (k : ℕ) (before later : List Group) (group : Group) (place : ℕ)
    → log_of k (record_of layout items) ≡ before ++ group ∷ later → taken_over group.call group.answer ≡ Some place
    → Taken k place (record_of layout items) group.answer
taken_at layout items g k before later group place h e =
    let c : Config = layout.config in
    let r : Past = record_of layout items in
    let a : IsAnswered c k r before group =
    logs_answer layout items k before later group g.rest.valid (sym (records_keep_logs layout items k g.rest.valid).log ∙ h) in
    let at : Past = a.end.at in
    let z : Closes c k at r group.call group.answer = closes layout items k before group g.rest.valid a.end in
    let t : Took k place at group.answer = took_rows c k place at group.call group.answer e a.rows in
    let o : IsTakenOver k place at t.count = t.over in
    let q : Past = o.before in
    let event : Event = events.Adopted place t.count in
    let ends : Event = events.End group.notes.steps group.answer in
    let first : Entry = record { seat = k; event = event } in
    let last : Entry = record { seat = k; event = ends } in
    let m : Kept c at = before_last c at k ends (kept_before c (Then at k ends) a.end.later (subst (Kept c) a.end.cut g.kept)) in
    let n : Kept c (Then q k event) = kept_before c (Then q k event) o.later (subst (Kept c) o.cut m) in
    let u : AllTaken (left_by r) at = taken_before (left_by r) at (last ∷ a.end.later) (subst (AllTaken (left_by r)) a.end.cut g.taken) in
    let v : AllTaken (left_by r) (Then q k event) = taken_before (left_by r) (Then q k event) o.later (subst (AllTaken (left_by r)) o.cut u) in
    let left : has_left place at ≡ true = ap (has_left place) o.cut ∙ left_tells place (first ∷ o.later) q o.left in
    let one : rank place r ≡ rank place q =
    ap (rank place) a.end.cut ∙ rank_stays place (last ∷ a.end.later) at left ∙ ap (rank place) o.cut ∙ rank_stays place (first ∷ o.later) q o.left in
    let two : rank k q ≤ rank k at = subst (λ (x : Past). rank k q ≤ rank k x) (sym o.cut) (rank_along k (first ∷ o.later) q) in
    let three : rank k at ≤ rank k r = subst (λ (x : Past). rank k at ≤ rank k x) (sym a.end.cut) (rank_along k (last ∷ a.end.later) at) in
    let four : rank k q ≡ lefts q = rank_here k q (never_left c k place t.count q n) in
    let five : rank place q < lefts q = rank_left place q o.left in
    let there : is_adopted place (Then q k event) ≡ true = adopted_there k place t.count q in
    record {
      count = t.count;
      is = t.is;
      adopted = adopted_on place at r z.grows (ap (is_adopted place) o.cut ∙ adopted_along place o.later (Then q k event) there);
      later = omega (arith, one, two, three, four, five);
      long = o.long ∙ ap length v.0;
    }
  where
    adopted_there : (k place count : ℕ) (q : Past) → is_adopted place (Then q k (events.Adopted place count)) ≡ true
    adopted_there k place count q = ap (λ (b : Bool). b || is_adopted place q) (same_number place)

    adopted_along : (place : ℕ) (xs : List Entry) (p : Past) → is_adopted place p ≡ true → is_adopted place (tells p xs) ≡ true
    adopted_along place xs p h = adopted_tells place xs p h

-- two ways to read the lists that are taken over come to the same where they agree of those that the log has taken over
list_same : (f g : ℕ → List ℕ) (list : List ℕ) (log : List Group)
    → ((before later : List Group) (group : Group) (place : ℕ) → log ≡ before ++ group ∷ later → taken_over group.call group.answer ≡ Some place → f place ≡ g place)
    → list_from f list log ≡ list_from g list log
list_same f g list [] h = refl
list_same f g list (group ∷ log) h =
    ap (λ (xs : List ℕ). list_from f xs log) (after_same f g list group (λ place e. h [] log group place refl e))
    ∙ list_same f g (list_after g list group) log (λ before later other place e t. h (group ∷ before) later other place (ap (λ (xs : List Group). group ∷ xs) e) t)
  where
    gained_same : (f g : ℕ → List ℕ) (x : Option ℕ) → ((place : ℕ) → x ≡ Some place → f place ≡ g place) → slots_gained f x ≡ slots_gained g x
    gained_same f g None h = refl
    gained_same f g (Some place) h = h place refl

    after_same : (f g : ℕ → List ℕ) (list : List ℕ) (group : Group)
        → ((place : ℕ) → taken_over group.call group.answer ≡ Some place → f place ≡ g place) → list_after f list group ≡ list_after g list group
    after_same f g list group h =
        ap (λ (xs : List ℕ). without_all (late_backs group.notes) ((without_all (early_backs group.notes) list ++ slot_retired group.notes.retired) ++ xs))
        (gained_same f g (taken_over group.call group.answer) h)

-- the lists that seats have left, by their logs, however often they may have been handed on
reach : (layout : Layout) (items : List Item) → Facts layout items → (times k : ℕ) → rank k (record_of layout items) ≤ times
    → left_after times (logs_of layout items) k ≡ slots_of (own_of (left_by (record_of layout items)) k (record_of layout items))
reach layout items g zero k low =
    list_same (λ (place : ℕ). []) (slots_in (left_by (record_of layout items))) [] (log_in (logs_of layout items) k)
    (λ before later group place h t.
    let x = taken_at layout items g k before later group place (sym (log_is layout items g.rest k) ∙ h) t in
    let y = x.later in absurd (omega (arith, y, low)))
    ∙ sym (own_listed layout items g k)
reach layout items g (suc times) k low =
    list_same (left_after times (logs_of layout items)) (slots_in (left_by (record_of layout items))) [] (log_in (logs_of layout items) k)
    (λ before later group place h t.
    let x = taken_at layout items g k before later group place (sym (log_is layout items g.rest k) ∙ h) t in
    let y = x.later in
    reach layout items g times place (omega (arith, y, low)) ∙ whole_listed layout items g place x.adopted)
    ∙ sym (own_listed layout items g k)

-- Calls and entries of leaving are as many.
leaves_heard : OfHeard is_left
leaves_heard = record { quiet = quiet }
  where
    quiet : (event : Event) → is_heard event ≡ false → is_left event ≡ false
    quiet (events.Left count) h = absurd (cc)
    quiet event h = refl

leaves_owed : (n : ℕ) → OfAnswers n leaves is_left
leaves_owed n = record { owed = owed }
  where
    owed : (call : Call) (answer : Answer) (notes : Notes)
        → (if leaves (record { call = call; answer = answer; notes = notes }) then 1 else 0) ≡ count_by is_left (owes n call answer)
    owed (calls.Get key) (answers.Got version value) notes = refl
    owed (calls.Put key value) (answers.Done version clock) notes = refl
    owed (calls.Remove key) (answers.Done version clock) notes = refl
    owed (calls.PutIf key value wanted) (answers.Done version clock) notes = refl
    owed (calls.Copy from index) (answers.Copied slot) notes = refl
    owed (calls.Enqueue value) (answers.Queued other) notes = refl
    owed calls.Dequeue (answers.Taken other value clock) notes = refl
    owed calls.Leave (answers.Left count) notes = refl
    owed (calls.Adopt place) (answers.Adopted count) notes = refl
    owed call answer notes = refl

takes_heard : (place : ℕ) → OfHeard (adopts place)
takes_heard place = record { quiet = quiet }
  where
    quiet : (event : Event) → is_heard event ≡ false → adopts place event ≡ false
    quiet (events.Adopted other count) h = absurd (cc)
    quiet event h = refl

takes_owed : (n place : ℕ) → OfAnswers n (takes_over place) (adopts place)
takes_owed n place = record { owed = owed }
  where
    one_way : (other : ℕ) → (if other == place then 1 else 0) ≡ 0 + (if place == other then 1 else 0)
    one_way other = grind (arith, nat_tests)

    owed : (call : Call) (answer : Answer) (notes : Notes)
        → (if takes_over place (record { call = call; answer = answer; notes = notes }) then 1 else 0) ≡ count_by (adopts place) (owes n call answer)
    owed (calls.Get key) (answers.Got version value) notes = refl
    owed (calls.Put key value) (answers.Done version clock) notes = refl
    owed (calls.Remove key) (answers.Done version clock) notes = refl
    owed (calls.PutIf key value wanted) (answers.Done version clock) notes = refl
    owed (calls.Copy from index) (answers.Copied slot) notes = refl
    owed (calls.Enqueue value) (answers.Queued other) notes = refl
    owed calls.Dequeue (answers.Taken other value clock) notes = refl
    owed calls.Leave (answers.Left count) notes = refl
    owed (calls.Adopt other) (answers.Adopted count) notes = one_way other
    owed call answer notes = refl

all_left : (layout : Layout) (items : List Item) → AtRest layout items → total_of leaves (logs_of layout items) ≡ lefts (record_of layout items)
all_left layout items rest = answers_add_up layout items leaves is_left leaves_heard (leaves_owed layout.config.buckets) rest

all_took : (layout : Layout) (items : List Item) (place : ℕ) → AtRest layout items
    → total_of (takes_over place) (logs_of layout items) ≡ told (adopts place) (record_of layout items)
all_took layout items place rest = answers_add_up layout items (takes_over place) (adopts place) (takes_heard place) (takes_owed layout.config.buckets place) rest

-- a list is taken over once at most
took_once : (place : ℕ) (p : Past) → Each lists_ok p → told (adopts place) p ≡ one (is_adopted place p)
took_once place Start l = refl
took_once place (Then p i event) l = by event (adopts place event) refl l.0 (took_once place p l.1)
  where
    by : (said : Event) (here : Bool) → adopts place said ≡ here → lists_ok p i said ≡ true → told (adopts place) p ≡ one (is_adopted place p)
        → told (adopts place) p + one here ≡ one (here || is_adopted place p)
    by (events.Adopted other count) true e h f =
        let none : is_adopted place p ≡ false = ap (λ (x : ℕ). is_adopted x p) (number_is place other e) ∙ first_taken p i other count h in
        let zero_before : one (is_adopted place p) ≡ 0 = ap one none in
        omega (arith, f, zero_before)
    by said true e h f = absurd (cc)
    by said false e h f = omega (arith, f)

-- the lists that seats have left, by their logs
full : (layout : Layout) (items : List Item) → Facts layout items → (place : ℕ) → is_adopted place (record_of layout items) ≡ true
    → left_in (logs_of layout items) place ≡ slots_in (left_by (record_of layout items)) place
full layout items g place a =
    let r : Past = record_of layout items in
    let low = rank_low place r in
    let all = all_left layout items g.rest in
    reach layout items g (total_of leaves (logs_of layout items)) place (omega (arith, low, all)) ∙ whole_listed layout items g place a

whole : (layout : Layout) (items : List Item) → Facts layout items → (seat : ℕ)
    → list_in (logs_of layout items) (log_in (logs_of layout items) seat) ≡ left_in (logs_of layout items) seat
whole layout items g seat =
    let r : Past = record_of layout items in
    let n : ℕ = total_of leaves (logs_of layout items) in
    let low = rank_low seat r in
    let all = all_left layout items g.rest in
    reach layout items g (suc n) seat (omega (arith, low, all)) ∙ sym (reach layout items g n seat (omega (arith, low, all)))

-- a call of a log
right : (layout : Layout) (items : List Item) → Facts layout items → (before : List Group) (group : Group) → IsCall (logs_of layout items) before group
    → ListsRight (logs_of layout items) before group
right layout items g before group call =
    let c : Config = layout.config in
    let r : Past = record_of layout items in
    let logs : List (List Group) = logs_of layout items in
    let f : ℕ → List ℕ = slots_in (left_by r) in
    let s = log_of_seat layout items call.log.seat (before ++ group ∷ call.later) call.log.at in
    let k : ℕ = s.0 in
    let log : log_of k r ≡ before ++ group ∷ call.later = (records_keep_logs layout items k g.rest.valid).log ∙ s.1 in
    let e : IsEnded k r before group = logs_are_cut k r before call.later group log in
    let z : Closes c k e.at r group.call group.answer = closes layout items k before group g.rest.valid e in
    let q : Right f before group = ended_right c (left_by r) k r before group g.kept g.taken e in
    let one : list_in logs before ≡ list_from f [] before =
    list_same (left_in logs) f [] before (λ first later other place h t.
    full layout items g place (taken_at layout items g k first (later ++ group ∷ call.later) other place
    (log ∙ ap (λ (xs : List Group). xs ++ group ∷ call.later) h ∙ append_assoc first (other ∷ later) (group ∷ call.later)) t).adopted) in
    let two : slots_gained (left_in logs) (taken_over group.call group.answer) ≡ slots_gained f (taken_over group.call group.answer) =
    gained_same (left_in logs) f (taken_over group.call group.answer)
    (λ place t. full layout items g place (taken_at layout items g k before call.later group place log t).adopted) in
    let three : list_between (left_in logs) (list_in logs before) group ≡ list_between f (list_from f [] before) group =
    ap (λ (xs : List ℕ). (without_all (early_backs group.notes) xs ++ slot_retired group.notes.retired) ++ slots_gained (left_in logs) (taken_over group.call group.answer)) one
    ∙ ap (λ (xs : List ℕ). (without_all (early_backs group.notes) (list_from f [] before) ++ slot_retired group.notes.retired) ++ xs) two in
    let four : length (list_after f (list_from f [] before) group) ≡ length (list_after (left_in logs) (list_in logs before) group) =
    ap (λ (xs : List ℕ). length (without_all (late_backs group.notes) xs)) (sym three) in
    record {
      plain = ended_early k r before group e;
      early = ap (is_part_of (early_backs group.notes)) one ∙ q.early;
      late = ap (is_part_of (late_backs group.notes)) three ∙ q.late;
      kept = λ kept back a. q.kept kept back a ∙ four;
      left = λ count a. q.parted count a ∙ four;
      taken = λ place count t a.
          let x : Taken k place r group.answer = taken_at layout items g k before call.later group place log t in
          let same : answers.Adopted count ≡ answers.Adopted x.count = sym a ∙ x.is in
          let number : count ≡ x.count = cc in
          number ∙ x.long ∙ sym (length-map (handed_of place r) (λ (life : Lifetime). life.slot)) ∙ ap length (sym (full layout items g place x.adopted));
    }
  where
    gained_same : (f g : ℕ → List ℕ) (x : Option ℕ) → ((place : ℕ) → x ≡ Some place → f place ≡ g place) → slots_gained f x ≡ slots_gained g x
    gained_same f g None h = refl
    gained_same f g (Some place) h = h place refl

-- only a list that was left is taken over
gone : (layout : Layout) (items : List Item) → Facts layout items → (before : List Group) (group : Group) (place : ℕ)
    → IsCall (logs_of layout items) before group → taken_over group.call group.answer ≡ Some place → 1 ≤ count_by leaves (log_in (logs_of layout items) place)
gone layout items g before group place call t =
    let c : Config = layout.config in
    let r : Past = record_of layout items in
    let s = log_of_seat layout items call.log.seat (before ++ group ∷ call.later) call.log.at in
    let k : ℕ = s.0 in
    let log : log_of k r ≡ before ++ group ∷ call.later = (records_keep_logs layout items k g.rest.valid).log ∙ s.1 in
    let x : Taken k place r group.answer = taken_at layout items g k before call.later group place log t in
    let left : has_left place r ≡ true = adopted_left place r g.kept.lists x.adopted in
    let closed : is_open place r ≡ false = (records_keep_logs layout items place g.rest.valid).busy ∙ g.rest.idle place in
    let same : count_by leaves (log_of place r) ≡ own_count place is_left r =
    log_fits c (by_answers leaves is_left) place r (answers_weigh c leaves is_left leaves_heard (leaves_owed c.buckets)) (histories_keep layout items g.rest.valid) closed in
    let here : count_by leaves (log_in (logs_of layout items) place) ≡ count_by leaves (log_of place r) = ap (count_by leaves) (log_is layout items g.rest place) in
    let most = left_counts place r left in
    omega (arith, here, same, most)

-- a seat that has left makes no call
told_left : (k count : ℕ) (p : Past) → Each open_ok p → Each lists_ok p → told_of k p ≡ events.Left count ∷ [] → has_left k p ≡ true
told_left k count p o l e = by (told_of k p) e (all_told k p o l)
  where
    by : (told : List Event) → told ≡ events.Left count ∷ [] → AllTold k p told → has_left k p ≡ true
    by told h a =
        let t : AllTold k p (events.Left count ∷ []) = subst (AllTold k p) h a in
        let x : Told k p (events.Left count) = t.0 in
        ap (has_left k) x.cut ∙ left_tells k x.later (Then x.before k (events.Left count)) (ap (λ (b : Bool). b || has_left k x.before) (same_number k))

leave_owes : (n : ℕ) (call : Call) (answer : Answer) → is_parting call answer ≡ true → (count : ℕ) × (owes n call answer ≡ events.Left count ∷ [])
leave_owes n calls.Leave (answers.Left count) h = (count, refl)
leave_owes n call answer h = absurd (cc)

last_by : (layout : Layout) (items : List Item) → Facts layout items → (one two : Group) → InOrder (logs_of layout items) one two → leaves one ≡ true → ⊥
last_by layout items g one two h y =
    let c : Config = layout.config in
    let r : Past = record_of layout items in
    let f : Follow layout items one two = follow layout items one two g.rest.valid h in
    let k : ℕ = f.seat in
    let from : Past = f.second.begun.from in
    let at : Past = f.second.end.at in
    let begins_there : Event = events.Begin two.call in
    let ends : Event = events.End two.notes.steps two.answer in
    let m : Kept c at = before_last c at k ends (kept_before c (Then at k ends) f.second.end.later (subst (Kept c) f.second.end.cut g.kept)) in
    let n : Kept c (Then from k begins_there) = kept_before c (Then from k begins_there) f.second.begun.until (subst (Kept c) f.second.begun.cut m) in
    let e : IsEnded k from f.before one = logs_are_cut k from f.before f.between one (f.second.begun.log ∙ f.second.end.log) in
    let end : Event = events.End one.notes.steps one.answer in
    let w : Kept c (Then e.at k end) = kept_before c (Then e.at k end) e.later (subst (Kept c) e.cut (before_last c from k begins_there n)) in
    let told : told_of k e.at ≡ owes c.buckets one.call one.answer =
    told_owed c.buckets one.call one.answer (told_of k e.at) (began_of k e.at) e.call w.told.0 in
    let x = leave_owes c.buckets one.call one.answer y in
    let left : has_left k e.at ≡ true = told_left k x.0 e.at w.calls.1 w.lists.1 (told ∙ x.1) in
    let last : Entry = record { seat = k; event = end } in
    let there : has_left k from ≡ true = ap (has_left k) e.cut ∙ left_tells k (last ∷ e.later) e.at left in
    let none : has_left k from ≡ false = false_of_not (has_left k from) (rest_of (not (is_open k from)) (not (has_left k from)) n.calls.0) in
    let both : true ≡ false = sym there ∙ none in
    cc

last : (layout : Layout) (items : List Item) → Facts layout items → (one two : Group) → InOrder (logs_of layout items) one two → leaves one ≡ false
last layout items g one two h = by (leaves one) refl
  where
    by : (b : Bool) → leaves one ≡ b → b ≡ false
    by true e = absurd (last_by layout items g one two h e)
    by false e = refl

-- a list that was taken over before
else_adopted : (i place : ℕ) (p : Past) → adopted_else i place p ≡ true → is_adopted place p ≡ true
else_adopted i place Start h = absurd (cc)
else_adopted i place (Then p k event) h = by (begins i p k event) (not (i == k)) (adopts place event) (adopted_else i place p) h (else_adopted i place p)
  where
    by : (begun other here before : Bool) → (if begun then is_adopted place p else (other && here) || before) ≡ true
        → (before ≡ true → is_adopted place p ≡ true) → (here || is_adopted place p) ≡ true
    by true other here before g f = or_more here (is_adopted place p) g
    by false true true before g f = refl
    by false true false before g f = f g
    by false false here before g f = or_more here (is_adopted place p) (f g)

before_rows : (c : Config) (k place : ℕ) (at : Past) (call : Call) (answer : Answer) → found_taken call answer ≡ Some place
    → SaysOfRows c k at call answer → adopted_else k place at ≡ true
before_rows c k place at (calls.Adopt other) answers.AdoptedBefore e s =
    let same : other ≡ place = cc in subst (λ (x : ℕ). adopted_else k x at ≡ true) same s
before_rows c k place at call answer e s = absurd (cc)

taken_before_it : (layout : Layout) (items : List Item) → Facts layout items → (before : List Group) (group : Group) (place : ℕ)
    → IsCall (logs_of layout items) before group → found_taken group.call group.answer ≡ Some place → 1 ≤ total_of (takes_over place) (logs_of layout items)
taken_before_it layout items g before group place call e =
    let r : Past = record_of layout items in
    let x : Called layout items before group = called layout items before group g.rest.valid call in
    let z : Closes layout.config x.seat x.is.end.at r group.call group.answer = closes layout items x.seat before group g.rest.valid x.is.end in
    let here : is_adopted place x.is.end.at ≡ true =
    else_adopted x.seat place x.is.end.at (before_rows layout.config x.seat place x.is.end.at group.call group.answer e x.is.rows) in
    let there : is_adopted place r ≡ true = adopted_on place x.is.end.at r z.grows here in
    let all = all_took layout items place g.rest in
    let once = took_once place r g.kept.lists in
    let some : one (is_adopted place r) ≡ 1 = ap one there in
    omega (arith, all, once, some)

most_once : (b : Bool) → one b ≤ 1
most_once true = omega arith
most_once false = omega arith

pub runs_list : RunsList
runs_list layout items rest =
    let g : Facts layout items = facts layout items rest in
    let r : Past = record_of layout items in
    record {
      right = right layout items g;
      whole = whole layout items g;
      last = last layout items g;
      gone = λ before group place call t. gone layout items g before group place call t;
      once = λ place.
          let all = all_took layout items place rest in
          let each = took_once place r g.kept.lists in
          let most = most_once (is_adopted place r) in
          omega (arith, all, each, most);
      found = taken_before_it layout items g;
    }
