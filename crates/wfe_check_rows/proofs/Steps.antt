-- Rows and roots after one more entry.
use Rattle.std.proofs.Common.{ℕ, ◌≡◌, ◌≢◌, ◌≤◌, ◌<◌, ◌+◌, true, false, List, length, Option, None, Some, refl, ap, sym, ◌∙◌, arith, get_or, slice_set, subst, get_or-set_same, get_or-set_other, length-set, replicate}
use Rattle.std.proofs.lemmas.List.{get_or-replicate, length-replicate}
use Rattle.std.proofs.lemmas.Bool.Decides.{nat_tests}
use Rattle.std.specs.Prelude.{◌==◌, if◌then◌else◌}
use Rattle.wfe_defs.proofs.Facts.{same_number, number_is, by_cases}
use Rattle.laws.specs.words.declared.config.Config.{Config}
use Rattle.laws.specs.defs.declared.event.Event.{Event}
use Rattle.laws.specs.defs.declared.event.Event.TheVariants as events
use Rattle.laws.specs.defs.declared.event.Root.TheVariants as roots
use Rattle.laws.specs.records.Record.{Past}
use Rattle.laws.specs.records.Record.Past.{Start, Then}
use Rattle.laws.specs.StateAt.{bucket_at, ticked_by, head_by, tail_by}
use Rattle.laws.specs.Once.{due_by, due_cut, due_linked, CutDue}
use Rattle.laws.specs.Ranges.{EntryIn}
use Rattle.wfe_check_rows.specs.declared.row.Row.{Row}
use Rattle.wfe_check_rows.specs.declared.rows.Rows.{Rows}
use Rattle.wfe_check_rows.specs.Due.{due_of, due_left, link_after}
use Rattle.wfe_check_rows.specs.Row.{IsRow, changed_row, free_row, row_after, rows_after, rows_at_start, with_row}
use Rattle.wfe_check_rows.specs.Rows.{IsRows}
use Rattle.wfe_check_rows.specs.Shown.{due_after, roots_after}

other_number : (s slot : ℕ) → (Some slot ≡ Some s → ⊥) → (s == slot) ≡ false
other_number s slot h = let n : s ≢ slot = λ e. h (ap Some (sym e)) in grind (arith, nat_tests)

this_number : (s slot : ℕ) → Some slot ≡ Some s → (s == slot) ≡ true
this_number s slot h = let e : slot ≡ s = cc in grind (arith, nat_tests)

-- an event that changes another row
row_stays : (slots s : ℕ) (row : Row) (p : Past) (i : ℕ) (event : Event) → (changed_row event ≡ Some s → ⊥) → IsRow slots s row p → IsRow slots s row (Then p i event)
row_stays slots s row p i (events.Give slot birth) h r = let e : (s == slot) ≡ false = other_number s slot h in
    record { taken = rw e r.taken; birth = rw e r.birth; retire = rw e r.retire; next = rw e r.next }
row_stays slots s row p i (events.Unused slot) h r = let e : (s == slot) ≡ false = other_number s slot h in
    record { taken = rw e r.taken; birth = r.birth; retire = r.retire; next = r.next }
row_stays slots s row p i (events.Back slot) h r = let e : (s == slot) ≡ false = other_number s slot h in
    record { taken = rw e r.taken; birth = r.birth; retire = r.retire; next = r.next }
row_stays slots s row p i (events.Retire slot birth retire) h r = let e : (s == slot) ≡ false = other_number s slot h in
    record { taken = r.taken; birth = r.birth; retire = rw e r.retire; next = r.next }
row_stays slots s row p i (events.Link (roots.Next parent) slot) h r = let e : (s == parent) ≡ false = other_number s parent h in
    record { taken = r.taken; birth = r.birth; retire = r.retire; next = rw e r.next }
row_stays slots s row p i event h r = record { taken = r.taken; birth = r.birth; retire = r.retire; next = r.next }

-- one that changes this row
row_changes : (slots s : ℕ) (row : Row) (p : Past) (i : ℕ) (event : Event) → changed_row event ≡ Some s → IsRow slots s row p → IsRow slots s (row_after event row) (Then p i event)
row_changes slots s row p i (events.Give slot birth) h r = let e : (s == slot) ≡ true = this_number s slot h in
    record { taken = rw e refl; birth = rw e refl; retire = rw e refl; next = rw e refl }
row_changes slots s row p i (events.Unused slot) h r = let e : (s == slot) ≡ true = this_number s slot h in
    record { taken = rw e refl; birth = r.birth; retire = r.retire; next = r.next }
row_changes slots s row p i (events.Back slot) h r = let e : (s == slot) ≡ true = this_number s slot h in
    record { taken = rw e refl; birth = r.birth; retire = r.retire; next = r.next }
row_changes slots s row p i (events.Retire slot birth retire) h r = let e : (s == slot) ≡ true = this_number s slot h in
    record { taken = r.taken; birth = r.birth; retire = rw e refl; next = r.next }
row_changes slots s row p i (events.Link (roots.Next parent) slot) h r = let e : (s == parent) ≡ true = this_number s parent h in
    record { taken = r.taken; birth = r.birth; retire = r.retire; next = rw e refl }
row_changes slots s row p i event h r = absurd (cc)

row_step : (slots s : ℕ) (rows : List Row) (p : Past) (i : ℕ) (event : Event) (changed : Option ℕ) → s < length rows → changed_row event ≡ changed
    → IsRow slots s (get_or rows s free_row) p → IsRow slots s (get_or (with_row changed event rows) s free_row) (Then p i event)
row_step slots s rows p i event None l e r = row_stays slots s (get_or rows s free_row) p i event (λ h. absurd (cc)) r
row_step slots s rows p i event (Some slot) l e r = by_cases (s == slot) (IsRow slots s (get_or (slice_set rows slot (row_after event (get_or rows slot free_row))) s free_row) (Then p i event))
    (λ t. let same : s ≡ slot = number_is s slot t in
    let changes : IsRow slots s (row_after event (get_or rows s free_row)) (Then p i event) = row_changes slots s (get_or rows s free_row) p i event (e ∙ ap Some (sym same)) r in
    let there : get_or (slice_set rows s (row_after event (get_or rows s free_row))) s free_row ≡ row_after event (get_or rows s free_row) = get_or-set_same rows s (row_after event (get_or rows s free_row)) free_row l in
    subst (λ (n : ℕ). IsRow slots s (get_or (slice_set rows n (row_after event (get_or rows n free_row))) s free_row) (Then p i event)) same
    (subst (λ (row : Row). IsRow slots s row (Then p i event)) (sym there) changes))
    (λ t. let other : s ≢ slot = grind (arith, nat_tests) in
    let stays : IsRow slots s (get_or rows s free_row) (Then p i event) = row_stays slots s (get_or rows s free_row) p i event (λ h. other (let k : slot ≡ s = cc in sym k)) r in
    subst (λ (row : Row). IsRow slots s row (Then p i event)) (sym (get_or-set_other rows slot s (row_after event (get_or rows slot free_row)) free_row other)) stays)

rows_length : (event : Event) (changed : Option ℕ) (rows : List Row) → length (with_row changed event rows) ≡ length rows
rows_length event None rows = refl
rows_length event (Some slot) rows = length-set rows slot (row_after event (get_or rows slot free_row))

root_step : (bucket : ℕ) (kept : List (Option ℕ)) (p : Past) (i : ℕ) (event : Event) → bucket < length kept → get_or kept bucket None ≡ bucket_at bucket p
    → get_or (roots_after event kept) bucket None ≡ bucket_at bucket (Then p i event)
root_step bucket kept p i (events.Link (roots.Bucket other) slot) l r = by_cases (bucket == other) (get_or (slice_set kept other (Some slot)) bucket None ≡ (if bucket == other then Some slot else bucket_at bucket p))
    (λ t. let same : bucket ≡ other = number_is bucket other t in
    rw t (subst (λ (n : ℕ). get_or (slice_set kept n (Some slot)) bucket None ≡ Some slot) same (get_or-set_same kept bucket (Some slot) None l)))
    (λ t. let other_one : bucket ≢ other = grind (arith, nat_tests) in rw t (get_or-set_other kept other bucket (Some slot) None other_one ∙ r))
root_step bucket kept p i event l r = r

roots_length : (event : Event) (kept : List (Option ℕ)) → length (roots_after event kept) ≡ length kept
roots_length (events.Link (roots.Bucket bucket) slot) kept = length-set kept bucket (Some slot)
roots_length event kept = refl

left_step : (p : Past) (i seat : ℕ) (event : Event) → due_left (link_after event) seat ≡ due_cut seat (Then p i event)
left_step p i seat (events.Link (roots.Bucket bucket) slot) = refl
left_step p i seat (events.Link roots.Head slot) = refl
left_step p i seat event = refl

due_step : (config : Config) (rows : Rows) (p : Past) (i : ℕ) (event : Event) → IsRows config rows p → EntryIn config i event → due_after rows i event ≡ due_by config.slots p i event
due_step config rows p i (events.Link (roots.Bucket bucket) slot) r w = ap (due_linked i bucket) (r.roots bucket w.within.0)
due_step config rows p i (events.Link (roots.Next parent) slot) r w = refl
due_step config rows p i (events.Link roots.Head slot) r w = ap (CutDue i) r.head
due_step config rows p i (events.Link roots.Tail slot) r w = refl
due_step config rows p i (events.Cut slot) r w = r.left i
due_step config rows p i event r w = refl

head_within : (config : Config) (i : ℕ) (event : Event) (head : ℕ) → EntryIn config i event → head ≤ config.slots → head_by event head ≤ config.slots
head_within config i (events.Link roots.Head slot) head w l = w.within.1
head_within config i event head w l = l

tail_within : (config : Config) (i : ℕ) (event : Event) (tail : ℕ) → EntryIn config i event → tail ≤ config.slots → tail_by event tail ≤ config.slots
tail_within config i (events.Link roots.Tail slot) tail w l = w.within.1
tail_within config i event tail w l = l

-- what is kept is, after one more entry, what it was, changed by the entry
pub record IsChanged (seat : ℕ) (event : Event) (old new : Rows) : Type 0 where
  pub config : new.config ≡ old.config
  pub clock : new.clock ≡ ticked_by event old.clock
  pub rows : new.rows.items ≡ rows_after event old.rows.items
  pub roots : new.roots.items ≡ roots_after event old.roots.items
  pub head : new.head ≡ head_by event old.head
  pub tail : new.tail ≡ tail_by event old.tail
  pub due : due_of new.due ≡ due_after old seat event
  pub last : new.last ≡ link_after event

pub step : (old new : Rows) (seat : ℕ) (event : Event) → IsChanged seat event old new → (config : Config) (p : Past) → IsRows config old p → EntryIn config seat event → IsRows config new (Then p seat event)
step old new seat event c config p r w = record {
  setting = c.config ∙ r.setting;
  rows_count = ap length c.rows ∙ rows_length event (changed_row event) old.rows.items ∙ r.rows_count;
  roots_count = ap length c.roots ∙ roots_length event old.roots.items ∙ r.roots_count;
  clock = c.clock ∙ ap (ticked_by event) r.clock;
  each = λ s l. let within : s < length old.rows.items = omega (arith, r.rows_count) in
      subst (λ (kept : List Row). IsRow config.slots s (get_or kept s free_row) (Then p seat event)) (sym c.rows)
      (row_step config.slots s old.rows.items p seat event (changed_row event) within refl (r.each s l));
  roots = λ bucket l. let within : bucket < length old.roots.items = omega (arith, r.roots_count) in
      ap (λ (kept : List (Option ℕ)). get_or kept bucket None) c.roots ∙ root_step bucket old.roots.items p seat event within (r.roots bucket l);
  head = c.head ∙ ap (head_by event) r.head;
  head_in = subst (λ (n : ℕ). n ≤ config.slots) (sym c.head) (head_within config seat event old.head w r.head_in);
  tail = c.tail ∙ ap (tail_by event) r.tail;
  tail_in = subst (λ (n : ℕ). n ≤ config.slots) (sym c.tail) (tail_within config seat event old.tail w r.tail_in);
  due = c.due ∙ due_step config old p seat event r w;
  left = λ later. ap (λ l. due_left l later) c.last ∙ left_step p seat later event;
}

-- before the first entry
pub row_at_start : (slots s : ℕ) → s ≤ slots → IsRow slots s (get_or (rows_at_start slots) s free_row) Start
row_at_start slots s l = by_cases (s == slots) (IsRow slots s (get_or (rows_at_start slots) s free_row) Start)
    (λ t. let same : s ≡ slots = number_is s slots t in
    let many : s < length (replicate (s + 1) free_row) = omega (arith, length-replicate (s + 1) free_row) in
    let there : get_or (slice_set (replicate (s + 1) free_row) s (record free_row { taken = true })) s free_row ≡ record free_row { taken = true } = get_or-set_same (replicate (s + 1) free_row) s (record free_row { taken = true }) free_row many in
    subst (λ (n : ℕ). IsRow n s (get_or (slice_set (replicate (n + 1) free_row) n (record free_row { taken = true })) s free_row) Start) same
    (subst (λ (row : Row). IsRow s s row Start) (sym there) (record { taken = sym (same_number s); birth = refl; retire = refl; next = refl })))
    (λ t. let other : s ≢ slots = grind (arith, nat_tests) in
    let within : s < slots + 1 = omega arith in
    let there : get_or (rows_at_start slots) s free_row ≡ free_row = get_or-set_other (replicate (slots + 1) free_row) slots s (record free_row { taken = true }) free_row other ∙ get_or-replicate (slots + 1) s free_row free_row within in
    subst (λ (row : Row). IsRow slots s row Start) (sym there) (record { taken = sym t; birth = refl; retire = refl; next = refl }))

pub rows_at_start_count : (slots : ℕ) → length (rows_at_start slots) ≡ slots + 1
rows_at_start_count slots = length-set (replicate (slots + 1) free_row) slots (record free_row { taken = true }) ∙ length-replicate (slots + 1) free_row
