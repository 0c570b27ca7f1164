-- Each history goes on, by steps alone, to one at whose end no seat is in a call; so each is linearizable.
use Rattle.std.proofs.Common.{ℕ, zero, suc, ◌≡◌, ◌≤◌, ◌<◌, ◌+◌, Bool, true, false, List, [], ◌∷◌, ◌++◌, refl, sym, ap, ◌∙◌, subst, arith, append_assoc}
use Rattle.std.proofs.lemmas.Bool.Decides.{nat_tests}
use Rattle.std.specs.Prelude.{◌==◌, nat_lt}
use Rattle.law_all.proofs.inv.Finish.{calls_finish, made_along}
use Rattle.law_all.proofs.inv.history.Along.{Steady, items_keep}
use Rattle.law_all.proofs.inv.history.Entries.{each_of_entries, entries_of_each}
use Rattle.law_all.proofs.inv.model.Facts.{number_is, rest_of, same_number}
use Rattle.law_all.proofs.inv.shapes.Frame.{begin_stays, seat_stays}
use Rattle.law_all.proofs.Logs.Grows.{records_grow}
use Rattle.law_all.proofs.Logs.Ledgers.{records_keep_logs}
use Rattle.law_all.proofs.Records.{lawful}
use Rattle.law_all.proofs.Runs.Keeps.{Laws as RowLaws}
use Rattle.law_all.proofs.Shown.{records_keep_shown}
use Rattle.law_all.specs.Logs.Shown.{KeepsShown}
use Rattle.law_all.specs.inv.Finish.{CallFinishes, EndsAmong, steps_in}
use Rattle.law_all.specs.inv.history.Heard.{heard_of}
use Rattle.law_all.specs.inv.history.History.{Begins, Item, Made, Steps, did, done_if, first_made, fits, made_from, made_of, record_of, times, world_of}
use Rattle.law_all.specs.inv.history.Record.{Past}
use Rattle.law_all.specs.inv.model.Locals.{Local, busy_in}
use Rattle.law_all.specs.inv.model.Rest.{rest}
use Rattle.law_all.specs.inv.model.World.{World, is_busy}
use Rattle.law_all.specs.inv.model.words.Place.{is_valid}
use Rattle.law_all.specs.inv.model.words.declared.layout.Layout.{Layout}
use Rattle.law_all.specs.laws.Histories.{Histories}
use Rattle.law_all.specs.laws.HistoryHolds.{copies_ok, indexes_ok}
use Rattle.law_all.specs.laws.HistoryTable.{ranges_ok}
use Rattle.law_all.specs.laws.Laws.{Laws}
use Rattle.law_all.specs.laws.StateAt.{is_open}
use Rattle.law_linear.specs.Hands.{hands_ok}
use Rattle.law_linear.specs.LinearLaw.{LinearLaw}
use Rattle.law_linear.specs.Records.{Reasons}
use Rattle.law_linear.proofs.Rested.{reasons_linearize}
use Rattle.law_all.proofs.Linear.Hands.{hands_right}

-- steps, and no call that begins
abbrev only_steps : List Item → Bool
only_steps [] = true
only_steps (Begins i call ∷ items) = false
only_steps (Steps i ∷ items) = only_steps items

only_both : (xs ys : List Item) → only_steps xs ≡ true → only_steps ys ≡ true → only_steps (xs ++ ys) ≡ true
only_both [] ys a b = b
only_both (Begins i call ∷ xs) ys a b = absurd (cc)
only_both (Steps i ∷ xs) ys a b = only_both xs ys a b

only_first : (xs ys : List Item) → only_steps (xs ++ ys) ≡ true → only_steps xs ≡ true
only_first [] ys h = refl
only_first (Begins i call ∷ xs) ys h = absurd (cc)
only_first (Steps i ∷ xs) ys h = only_first xs ys h

only_times : (n i : ℕ) → only_steps (times n i) ≡ true
only_times zero i = refl
only_times (suc n) i = only_times n i

many_times : (n i : ℕ) → steps_in i (times n i) ≡ n
many_times zero i = refl
many_times (suc n) i =
    let same : (i == i) ≡ true = same_number i in
    let more : steps_in i (times n i) ≡ n = many_times n i in
    rw (same, more) (omega arith)

-- a seat that is in no call stays so
apart : (w : World) (i k : ℕ) (same : Bool) → (i == k) ≡ same → is_busy w k ≡ true → is_busy w i ≡ false → (i == k) ≡ false
apart w i k true e b f = let same : is_busy w i ≡ is_busy w k = ap (is_busy w) (number_is i k e) in absurd (cc)
apart w i k false e b f = e

step_idle : (made : Made) (i k : ℕ) (fit : Bool) → fits made.world (Steps k) ≡ fit → is_busy made.world i ≡ false → is_busy (done_if made (Steps k) fit).world i ≡ false
step_idle made i k false f h = h
step_idle made i k true f h =
    let busy : is_busy made.world k ≡ true = rest_of (nat_lt k made.world.layout.config.seats) (is_busy made.world k) f in
    let e : (i == k) ≡ false = apart made.world i k (i == k) refl busy h in
    ap (λ (l : Local). busy_in l.phase) (seat_stays made.world k i e) ∙ h

idle_on : (i : ℕ) (items : List Item) → only_steps items ≡ true → (made : Made) → is_busy made.world i ≡ false → is_busy (made_from made items).world i ≡ false
idle_on i [] o made h = h
idle_on i (Begins k call ∷ items) o made h = absurd (cc)
idle_on i (Steps k ∷ items) o made h = idle_on i items o (did made (Steps k)) (step_idle made i k (fits made.world (Steps k)) refl h)

-- and so is one that the table does not have
record High (layout : Layout) (i : ℕ) (made : Made) : Type 0 where
  table : made.world.layout ≡ layout
  idle : is_busy made.world i ≡ false

low_apart : (i k : ℕ) (layout : Layout) (w : World) → w.layout ≡ layout → k < w.layout.config.seats → layout.config.seats ≤ i → (i == k) ≡ false
low_apart i k layout w e l h =
    let seats : w.layout.config.seats ≡ layout.config.seats = ap (λ (t : Layout). t.config.seats) e in
    grind (arith, nat_tests)

high_steady : (layout : Layout) (i : ℕ) → layout.config.seats ≤ i → Steady (High layout i)
high_steady layout i h =
    record {
      begins = λ made k call l b m g.
          record { table = g.table; idle = ap (λ (l : Local). busy_in l.phase) (begin_stays made.world k i call (low_apart i k layout made.world g.table l h)) ∙ g.idle };
      steps = λ made k l b g. record { table = g.table; idle = ap (λ (l : Local). busy_in l.phase) (seat_stays made.world k i (low_apart i k layout made.world g.table l h)) ∙ g.idle };
    }

high_idle : (layout : Layout) (items : List Item) (i : ℕ) → layout.config.seats ≤ i → is_busy (world_of layout items) i ≡ false
high_idle layout items i h = (items_keep (High layout i) (high_steady layout i h) items (first_made layout) (record { table = refl; idle = refl })).idle

-- the seats below this one end their calls
record Resting (layout : Layout) (items : List Item) (n : ℕ) : Type 0 where
  more : List Item
  only : only_steps more ≡ true
  idle : (i : ℕ) → i < n → is_busy (world_of layout (items ++ more)) i ≡ false

one_more : (layout : Layout) (items : List Item) (n : ℕ) → is_valid layout ≡ true → n < layout.config.seats → Resting layout items n → Resting layout items (suc n)
one_more layout items n valid l r = all (finish.ends (times (suc (rest (world_of layout (items ++ r.more)) n)) n) enough)
  where
    finish : CallFinishes layout (items ++ r.more) n
    finish = calls_finish layout (items ++ r.more) n valid l

    enough : rest (world_of layout (items ++ r.more)) n < steps_in n (times (suc (rest (world_of layout (items ++ r.more)) n)) n)
    enough = rw (many_times (suc (rest (world_of layout (items ++ r.more)) n)) n) (omega arith)

    by : (f : EndsAmong layout (items ++ r.more) (times (suc (rest (world_of layout (items ++ r.more)) n)) n) n) → only_steps f.first ≡ true → (i : ℕ) → i < suc n → (same : Bool)
        → (i == n) ≡ same → is_busy (world_of layout (items ++ (r.more ++ f.first))) i ≡ false
    by f o i low true e =
        let sum : (items ++ r.more) ++ f.first ≡ items ++ (r.more ++ f.first) = append_assoc items r.more f.first in
        subst (λ (x : ℕ). is_busy (world_of layout (items ++ (r.more ++ f.first))) x ≡ false) (sym (number_is i n e))
        (subst (λ (x : List Item). is_busy (world_of layout x) n ≡ false) sum f.ends)
    by f o i low false e =
        let below : i < n = grind (arith, nat_tests) in
        let sum : (items ++ r.more) ++ f.first ≡ items ++ (r.more ++ f.first) = append_assoc items r.more f.first in
        let along : made_of layout ((items ++ r.more) ++ f.first) ≡ made_from (made_of layout (items ++ r.more)) f.first = made_along (items ++ r.more) f.first (first_made layout) in
        let idle : is_busy (made_from (made_of layout (items ++ r.more)) f.first).world i ≡ false = idle_on i f.first o (made_of layout (items ++ r.more)) (r.idle i below) in
        subst (λ (x : List Item). is_busy (world_of layout x) i ≡ false) sum (subst (λ (x : Made). is_busy x.world i ≡ false) (sym along) idle)

    all : EndsAmong layout (items ++ r.more) (times (suc (rest (world_of layout (items ++ r.more)) n)) n) n → Resting layout items (suc n)
    all f =
        let o : only_steps f.first ≡ true = only_first f.first f.last (rw f.cut (only_times (suc (rest (world_of layout (items ++ r.more)) n)) n)) in
        record { more = r.more ++ f.first; only = only_both r.more f.first r.only o; idle = λ i low. by f o i low (i == n) refl }

rests_below : (layout : Layout) (items : List Item) → is_valid layout ≡ true → (n : ℕ) → n ≤ layout.config.seats → Resting layout items n
rests_below layout items valid zero l = record { more = []; only = refl; idle = λ i low. absurd (omega arith) }
rests_below layout items valid (suc n) l = one_more layout items n valid (omega arith) (rests_below layout items valid n (omega arith))

all_idle : (layout : Layout) (items : List Item) → ((i : ℕ) → i < layout.config.seats → is_busy (world_of layout items) i ≡ false) → (i : ℕ) (low : Bool) → nat_lt i layout.config.seats ≡ low
    → is_busy (world_of layout items) i ≡ false
all_idle layout items h i true e = h i (grind (arith, nat_tests))
all_idle layout items h i false e = high_idle layout items i (grind (arith, nat_tests))

-- what else is known of each history
pub record Known (layout : Layout) (items : List Item) : Type 0 where
  pub laws : Laws layout.config (record_of layout items)
  pub beyond : Histories layout.config (heard_of layout items) (record_of layout items)

-- what linearizability rests on
why : (layout : Layout) (items : List Item) → is_valid layout ≡ true → Known layout items → Reasons layout.config (record_of layout items)
why layout items valid l =
    let r : Past = record_of layout items in
    let s : KeepsShown layout items = records_keep_shown layout items valid in
    let h = l.beyond in
    let rows : RowLaws layout.config (record_of layout items) = record {
      lawful = lawful layout items valid;
      indexes = each_of_entries indexes_ok (record_of layout items) h.stands.indexes;
      copies = each_of_entries copies_ok (record_of layout items) h.stands.copies;
      links = s.links;
      shows = s.shows;
      misses = s.misses;
      starts = s.starts;
      ranges = each_of_entries (ranges_ok layout.config) (record_of layout items) h.ranges;
    } in
    record {
      calls = l.laws.calls;
      map = l.laws.map;
      values = l.laws.queue.values;
      empty = l.laws.queue.empty;
      told = h.answers.told;
      reasons = h.answers.reasons;
      lacks = h.answers.lacks;
      hands = entries_of_each (hands_ok layout.config) (record_of layout items) (hands_right layout.config (record_of layout items) rows);
    }

pub linear : (layout : Layout) (items : List Item) → is_valid layout ≡ true → ((more : List Item) → Known layout more) → LinearLaw layout.config (record_of layout items)
linear layout items valid known =
    let r : Resting layout items layout.config.seats = rests_below layout items valid layout.config.seats (omega arith) in
    let idle : (i : ℕ) → is_open i (record_of layout (items ++ r.more)) ≡ false =
    λ i. (records_keep_logs layout (items ++ r.more) i valid).busy ∙ all_idle layout (items ++ r.more) r.idle i (nat_lt i layout.config.seats) refl in
    let grows = records_grow layout items r.more in
    reasons_linearize layout.config (record_of layout (items ++ r.more)) (record_of layout items) grows.later (why layout (items ++ r.more) valid (known (items ++ r.more))) idle grows.cut
