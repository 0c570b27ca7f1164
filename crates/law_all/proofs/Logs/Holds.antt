-- What a hold has told to stand is the bucket's row at a version that was there since the call began: the root had it at a position of
-- the call, and there it was that of the bucket's version, or became that of the next one.
use Rattle.std.proofs.Common.{ℕ, ◌≡◌, ◌+◌, ◌⊎◌, inl, inr, Bool, true, false, Option, Some, refl, sym, ◌∙◌, subst, arith}
use Rattle.std.specs.Prelude.{◌==◌, ◌&&◌, ◌||◌, if◌then◌else◌, nat_lt, not}
use Rattle.law_scans.proofs.laws.records.defs.Facts.{either_true, false_of_not, first_of, if_false, number_is, rest_of}
use Rattle.law_scans.specs.laws.defs.Events.{is_held}
use Rattle.law_scans.specs.laws.defs.declared.call.Call.{Call}
use Rattle.law_scans.specs.laws.defs.declared.call.Call.TheVariants as calls
use Rattle.law_scans.specs.laws.defs.declared.event.Event.{Event}
use Rattle.law_scans.specs.laws.defs.declared.event.Event.TheVariants as events
use Rattle.law_scans.specs.laws.defs.declared.event.Root.TheVariants as roots
use Rattle.law_scans.specs.laws.words.declared.config.Config.{Config}
use Rattle.law_scans.specs.laws.HistoryHolds.{sources_ok}
use Rattle.law_scans.specs.laws.HoldLaw.{has_had}
use Rattle.law_scans.specs.laws.Once.{order_ok}
use Rattle.law_scans.specs.laws.StateAt.{began_of, bucket_at, has_told}
use Rattle.law_scans.specs.laws.StructuresAt.{bucket_of, count_of, row_at, same_value}
use Rattle.law_scans.specs.laws.records.Record.{Past, Each, begins, held_since, own, told_since}
use Rattle.law_scans.specs.laws.records.Record.Past.{Start, Then}
use Rattle.law_all.specs.Logs.Answered.{IsRow}
use Rattle.law_all.specs.Logs.Versions.{Counts}
use Rattle.law_all.proofs.Logs.Answered.{row_on}
use Rattle.law_all.proofs.Logs.Counts.{begun_counts, begun_most, begun_unless, most_same}
use Rattle.law_all.proofs.Logs.Grows.{grows_entry}
use Rattle.law_all.proofs.Logs.Heard.{value_of}
use Rattle.law_all.proofs.Logs.Roots.{rested}

-- one entry later
row_later : (k i : ℕ) (p : Past) (event : Event) (b slot : ℕ) → begins k p i event ≡ false → IsRow (begun_counts k p) p b slot → IsRow (begun_counts k (Then p i event)) (Then p i event) b slot
row_later k i p event b slot e s =
    subst (λ (x : Counts). IsRow x (Then p i event) b slot) (sym (begun_unless k i p event e))
    (row_on (begun_counts k p) (begun_counts k p) p (Then p i event) b slot (most_same (begun_counts k p)) (grows_entry p i event) s)

-- of the version at the position
row_here : (k : ℕ) (p : Past) (b slot : ℕ) → bucket_at b p ≡ row_at b (count_of b p) p → bucket_at b p ≡ Some slot → IsRow (begun_counts k p) p b slot
row_here k p b slot r h = record { version = count_of b p; met = record { since = (begun_most k p).versions b; until = omega arith }; row_is = sym r ∙ h }

-- the root had the row at a position of the call: at a version then, or it has it still
abbrev Had : (k b slot : ℕ) → Past → Type 0
Had k b slot p = IsRow (begun_counts k p) p b slot ⊎ (bucket_at b p ≡ Some slot)

had_later : (slots k i : ℕ) (p : Past) (event : Event) (b slot : ℕ) → Each (order_ok slots) (Then p i event) → begins k p i event ≡ false → Had k b slot p → Had k b slot (Then p i event)
had_later slots k i p event b slot o e (inl s) = inl (row_later k i p event b slot e s)
had_later slots k i p (events.Link (roots.Bucket bucket) other) b slot o e (inr h) =
    let event : Event = events.Link (roots.Bucket bucket) other in
    inl (row_later k i p event b slot e (row_here k p b slot (rested b slots p i event o refl refl) h))
had_later slots k i p event b slot o e (inr h) = inr h

abbrev has_row : (b slot : ℕ) → Past → Bool
has_row b slot p = same_value (Some slot) (bucket_at b p)

had_entry : (slots k i : ℕ) (p : Past) (event : Event) (b slot : ℕ) → Each (order_ok slots) (Then p i event) → (has_row b slot (Then p i event) ≡ true) ⊎ ((not (begins k p i event) && held_since (begins k) (has_row b slot) p) ≡ true) → (held_since (begins k) (has_row b slot) p ≡ true → Had k b slot p) → Had k b slot (Then p i event)
had_entry slots k i p event b slot o (inl h) f = inr (sym (value_of (Some slot) (bucket_at b (Then p i event)) h))
had_entry slots k i p event b slot o (inr h) f =
    let e : begins k p i event ≡ false = false_of_not (begins k p i event) (first_of (not (begins k p i event)) (held_since (begins k) (has_row b slot) p) h) in
    had_later slots k i p event b slot o e (f (rest_of (not (begins k p i event)) (held_since (begins k) (has_row b slot) p) h))

had : (slots k b slot : ℕ) (p : Past) → Each (order_ok slots) p → held_since (begins k) (has_row b slot) p ≡ true → Had k b slot p
had slots k b slot Start o h = inr (sym (value_of (Some slot) (bucket_at b Start) h))
had slots k b slot (Then p i event) o h =
    had_entry slots k i p event b slot o (either_true (has_row b slot (Then p i event)) (not (begins k p i event) && held_since (begins k) (has_row b slot) p) h) (had slots k b slot p o.1)

-- where it is told to stand no change is due
row_had : (slots k i : ℕ) (p : Past) (index other steps b slot : ℕ) → Each (order_ok slots) (Then p i (events.Held index other steps)) → Had k b slot p → IsRow (begun_counts k p) p b slot
row_had slots k i p index other steps b slot o (inl s) = s
row_had slots k i p index other steps b slot o (inr h) = row_here k p b slot (rested b slots p i (events.Held index other steps) o refl refl) h

row_held : (c : Config) (k i : ℕ) (p : Past) (event : Event) (key slot : ℕ) → Each (order_ok c.slots) (Then p i event) → sources_ok c p i event ≡ true → began_of k p ≡ Some (calls.Hold key) → own k (is_held 2 slot) p i event ≡ true → IsRow (begun_counts k p) p (bucket_of c.buckets key) slot
row_held c k i p (events.Held index other steps) key slot o s b h =
    let x : (index == 2 && other == slot) ≡ true = first_of (index == 2 && other == slot) (k == i) h in
    let two : index ≡ 2 = number_is index 2 (first_of (index == 2) (other == slot) x) in
    let row : other ≡ slot = number_is other slot (rest_of (index == 2) (other == slot) x) in
    let seat : k ≡ i = number_is k i (rest_of (index == 2 && other == slot) (k == i) h) in
    let at_two : has_had c i p (began_of i p) (Some other) ≡ true = subst (λ (n : ℕ). (n == 1 || has_had c i p (began_of i p) (Some other)) ≡ true) two s in
    let own_had : has_had c k p (began_of k p) (Some other) ≡ true = subst (λ (n : ℕ). has_had c n p (began_of n p) (Some other) ≡ true) (sym seat) at_two in
    let row_is : has_had c k p (began_of k p) (Some slot) ≡ true = subst (λ (n : ℕ). has_had c k p (began_of k p) (Some n) ≡ true) row own_had in
    let held : has_had c k p (Some (calls.Hold key)) (Some slot) ≡ true = subst (λ (y : Option Call). has_had c k p y (Some slot) ≡ true) b row_is in
    row_had c.slots k i p index other steps (bucket_of c.buckets key) slot o (had c.slots k (bucket_of c.buckets key) slot p o.1 held)
row_held c k i p event key slot o s b h = absurd (cc)

-- the call that is under way is the same until the seat begins another
either_same : (same : Bool) (call : Option Call) → (if same then call else call) ≡ call
either_same true call = refl
either_same false call = refl

pub same_call : (k i : ℕ) (p : Past) (event : Event) → begins k p i event ≡ false → began_of k (Then p i event) ≡ began_of k p
same_call k i p (events.Begin call) e = if_false (k == i) (Some call) (began_of k p) e
same_call k i p event e = either_same (k == i) (began_of k p)

told_entry : (c : Config) (k i : ℕ) (p : Past) (event : Event) (key slot count : ℕ) (begun told : Bool) → begins k p i event ≡ begun → own k (is_held 2 slot) p i event ≡ told → Each (order_ok c.slots) (Then p i event) → sources_ok c p i event ≡ true → began_of k (Then p i event) ≡ Some (calls.Hold key) → nat_lt 0 (if begun then 0 else if told then count + 1 else count) ≡ true
    → (began_of k p ≡ Some (calls.Hold key) → nat_lt 0 count ≡ true → IsRow (begun_counts k p) p (bucket_of c.buckets key) slot) → IsRow (begun_counts k (Then p i event)) (Then p i event) (bucket_of c.buckets key) slot
told_entry c k i p event key slot count true told e t o s b h f = absurd (cc)
told_entry c k i p event key slot count false true e t o s b h f =
    row_later k i p event (bucket_of c.buckets key) slot e (row_held c k i p event key slot o s (sym (same_call k i p event e) ∙ b) t)
told_entry c k i p event key slot count false false e t o s b h f =
    row_later k i p event (bucket_of c.buckets key) slot e (f (sym (same_call k i p event e) ∙ b) h)

pub told_row : (c : Config) (k : ℕ) (p : Past) (key slot : ℕ) → Each (order_ok c.slots) p → Each (sources_ok c) p → began_of k p ≡ Some (calls.Hold key) → has_told k (is_held 2 slot) p ≡ true → IsRow (begun_counts k p) p (bucket_of c.buckets key) slot
told_row c k Start key slot o s b h = absurd (cc)
told_row c k (Then p i event) key slot o s b h =
    told_entry c k i p event key slot (told_since (begins k) (own k (is_held 2 slot)) p) (begins k p i event) (own k (is_held 2 slot) p i event) refl refl o s.0 b h
    (told_row c k p key slot o.1 s.1)
