-- Guards, and the rows that stand, after one more entry.
use Rattle.std.proofs.Common.{ℕ, ◌≡◌, ◌≢◌, ◌≤◌, ◌<◌, ◌+◌, ◌*◌, Bool, true, false, List, [], ◌∷◌, length, Option, None, Some, refl, ap, sym, ◌∙◌, arith, get_or, slice_set, subst, get_or-set_same, get_or-set_other, length-set, replicate, ◌⊎◌, inl, inr}
use Rattle.std.proofs.lemmas.Bool.Decides.{nat_tests}
use Rattle.std.proofs.lemmas.List.{get_or-replicate, length-replicate}
use Rattle.std.proofs.lemmas.Nat.{same_from_place, mul-add-lt}
use Rattle.std.specs.Prelude.{◌==◌, ◌&&◌, ◌||◌, not, if◌then◌else◌, is_none}
use Rattle.wfe_words.specs.Config.{bad_field}
use Rattle.wfe_defs.proofs.Facts.{same_number, number_is, by_cases, first_of, rest_of, either_true}
use Rattle.laws.specs.words.declared.config.Config.{Config}
use Rattle.laws.specs.defs.declared.event.Event.{Event}
use Rattle.laws.specs.defs.declared.event.Event.TheVariants as events
use Rattle.laws.specs.defs.declared.event.Guard.{Guard}
use Rattle.laws.specs.defs.declared.event.Guard.TheVariants.{Helper, Index, Whole}
use Rattle.laws.specs.defs.declared.lifetime.Interval.{Interval}
use Rattle.laws.specs.records.Record.{Past}
use Rattle.laws.specs.records.Record.Past.{Start, Then}
use Rattle.laws.specs.StateAt.{hazard_of, hazard_by, is_one_of, reserved_by, same_guard, standing_by, standing_of, stands, value_of, without_row}
use Rattle.laws.specs.Ranges.{EntryIn, GuardIn}
use Rattle.wfe_check_held.specs.declared.protections.Protections.{Protections}
use Rattle.wfe_check_held.specs.Protections.{IsPlace, IsProtections}
use Rattle.wfe_check_held.specs.Shown.{hazard_in, hazards_after, helpers_after, place_of, rows_in, set_after, sets_after, sets_at, told_index, told_row, value_in, wholes_after, words_after}
use Rattle.wfe_check_held.proofs.Sets.{in_with, in_without}

-- one value written, and another read
written : {X : Type 0} (values : List (Option X)) (place other : ℕ) (span : Option X) → other < length values
    → get_or (slice_set values place span) other None ≡ (if other == place then span else get_or values other None)
written values place other span l = by_cases (other == place) (get_or (slice_set values place span) other None ≡ (if other == place then span else get_or values other None))
    (λ t. let same : other ≡ place = number_is other place t in
    rw t (subst (λ (n : ℕ). get_or (slice_set values n span) other None ≡ span) same (get_or-set_same values other span None l)))
    (λ t. let apart : other ≢ place = grind (arith, nat_tests) in rw t (get_or-set_other values place other span None apart))

same_place : (a b c d w : ℕ) → b < w → d < w → (a * w + b == c * w + d) ≡ (a == c && b == d)
same_place a b c d w l m = by_cases (a * w + b == c * w + d) ((a * w + b == c * w + d) ≡ (a == c && b == d))
    (λ t. let e : (a ≡ c) × (b ≡ d) = same_from_place a b c d w l m (number_is (a * w + b) (c * w + d) t) in
    let first : (a == c) ≡ true = ap (λ (n : ℕ). n == c) e.0 ∙ same_number c in
    let second : (b == d) ≡ true = ap (λ (n : ℕ). n == d) e.1 ∙ same_number d in
    rw (t, first, second) refl)
    (λ t. by_cases (a == c && b == d) ((a * w + b == c * w + d) ≡ (a == c && b == d))
    (λ u. let first : a ≡ c = number_is a c (first_of (a == c) (b == d) u) in
    let second : b ≡ d = number_is b d (rest_of (a == c) (b == d) u) in
    let whole : (a * w + b == c * w + d) ≡ true = ap (λ (n : ℕ). n * w + b == c * w + d) first ∙ ap (λ (n : ℕ). c * w + n == c * w + d) second ∙ same_number (c * w + d) in
    absurd (let no : true ≡ false = sym whole ∙ t in (cc)))
    (λ u. t ∙ sym u))

-- the guards
abbrev value_at : (width : ℕ) (helpers wholes words : List (Option Interval)) → Guard → Option Interval
value_at width helpers wholes words (Helper seat) = get_or helpers seat None
value_at width helpers wholes words (Index seat index) = get_or words (seat * width + index) None
value_at width helpers wholes words (Whole seat) = get_or wholes seat None

value_shown : (kept : Protections) (guard : Guard) → value_in kept guard ≡ value_at kept.config.indexes kept.helpers.items kept.wholes.items kept.words.items guard
value_shown kept (Helper seat) = refl
value_shown kept (Index seat index) = refl
value_shown kept (Whole seat) = refl

-- lists of so many seats and indexes
record Sized (config : Config) (hs ws vs : List (Option Interval)) : Type 0 where
  helpers : length hs ≡ config.seats
  wholes : length ws ≡ config.seats
  words : length vs ≡ config.indexes * config.seats

reserved : (config : Config) (hs ws vs : List (Option Interval)) (other : Guard) (span : Option Interval) (guard : Guard)
    → Sized config hs ws vs → GuardIn config other → GuardIn config guard
    → value_at config.indexes (helpers_after (events.Reserve other span) hs) (wholes_after (events.Reserve other span) ws) (words_after config.indexes (events.Reserve other span) vs) guard
    ≡ (if same_guard guard other then span else value_at config.indexes hs ws vs guard)
reserved config hs ws vs (Helper a) span (Helper b) z r q = written hs a b span (subst (λ (n : ℕ). b < n) (sym z.helpers) q)
reserved config hs ws vs (Helper a) span (Index b j) z r q = refl
reserved config hs ws vs (Helper a) span (Whole b) z r q = refl
reserved config hs ws vs (Index a i) span (Helper b) z r q = refl
reserved config hs ws vs (Index a i) span (Index b j) z r q =
    let within : b * config.indexes + j < length vs = subst (λ (n : ℕ). b * config.indexes + j < n) (sym z.words) (mul-add-lt b config.indexes j config.seats q.0 q.1) in
    written vs (a * config.indexes + i) (b * config.indexes + j) span within
    ∙ ap (λ (same : Bool). if same then span else get_or vs (b * config.indexes + j) None) (same_place b j a i config.indexes q.1 r.1)
reserved config hs ws vs (Index a i) span (Whole b) z r q = refl
reserved config hs ws vs (Whole a) span (Helper b) z r q = refl
reserved config hs ws vs (Whole a) span (Index b j) z r q = refl
reserved config hs ws vs (Whole a) span (Whole b) z r q = written ws a b span (subst (λ (n : ℕ). b < n) (sym z.wholes) q)

value_step : (config : Config) (hs ws vs : List (Option Interval)) (event : Event) (seat : ℕ) (guard : Guard)
    → Sized config hs ws vs → EntryIn config seat event → GuardIn config guard
    → value_at config.indexes (helpers_after event hs) (wholes_after event ws) (words_after config.indexes event vs) guard
    ≡ reserved_by guard event (value_at config.indexes hs ws vs guard)
value_step config hs ws vs (events.Reserve other span) seat guard z w q = reserved config hs ws vs other span guard z w.within q
value_step config hs ws vs event seat guard z w q = refl

-- the rows that guards publish
told_hazard : (config : Config) (slots : List (Option ℕ)) (p : Past) (other : Guard) (slot : Option ℕ) (i seat index : ℕ) → length slots ≡ config.indexes * config.seats → GuardIn config other → seat < config.seats → index < config.indexes
    → get_or (hazards_after config.indexes (events.Hazard other slot) slots) (seat * config.indexes + index) None ≡ (if same_guard (Index seat index) other then slot else get_or slots (seat * config.indexes + index) None)
told_hazard config slots p (Helper a) slot i seat index z r l m = refl
told_hazard config slots p (Index a b) slot i seat index z r l m =
    let within : seat * config.indexes + index < length slots = subst (λ (n : ℕ). seat * config.indexes + index < n) (sym z) (mul-add-lt seat config.indexes index config.seats l m) in
    written slots (a * config.indexes + b) (seat * config.indexes + index) slot within
    ∙ ap (λ (same : Bool). if same then slot else get_or slots (seat * config.indexes + index) None) (same_place seat index a b config.indexes m r.1)
told_hazard config slots p (Whole a) slot i seat index z r l m = refl

index_hazard : (config : Config) (slots : List (Option ℕ)) (p : Past) (event : Event) (i seat index : ℕ) → length slots ≡ config.indexes * config.seats → EntryIn config i event → seat < config.seats → index < config.indexes
    → get_or (hazards_after config.indexes event slots) (seat * config.indexes + index) None ≡ hazard_by (Index seat index) event (get_or slots (seat * config.indexes + index) None)
index_hazard config slots p (events.Hazard other slot) i seat index z w l m = told_hazard config slots p other slot i seat index z w.within.0 l m
index_hazard config slots p event i seat index z w l m = refl

hazards_length : (width : ℕ) (event : Event) (values : List (Option ℕ)) → length (hazards_after width event values) ≡ length values
hazards_length width (events.Hazard (Index seat index) slot) values = length-set values (seat * width + index) slot
hazards_length width event values = refl

helpers_length : (event : Event) (values : List (Option Interval)) → length (helpers_after event values) ≡ length values
helpers_length (events.Reserve (Helper seat) span) values = length-set values seat span
helpers_length event values = refl

wholes_length : (event : Event) (values : List (Option Interval)) → length (wholes_after event values) ≡ length values
wholes_length (events.Reserve (Whole seat) span) values = length-set values seat span
wholes_length event values = refl

words_length : (width : ℕ) (event : Event) (values : List (Option Interval)) → length (words_after width event values) ≡ length values
words_length width (events.Reserve (Index seat index) span) values = length-set values (seat * width + index) span
words_length width event values = refl

-- the rows at an index of the seat that tells
set_step : (s j : ℕ) (event : Event) (kept rows : List ℕ) → told_index event ≡ Some j → ((t : ℕ) → is_one_of t kept ≡ is_one_of t rows)
    → is_one_of s (set_after event kept) ≡ is_one_of s (standing_by j event rows)
set_step s j (events.Held index slot steps) kept rows e h = let here : (j == index) ≡ true = (let k : index ≡ j = cc in grind (arith, nat_tests)) in
    rw here (in_with s slot kept ∙ ap (λ (b : Bool). (s == slot) || b) (h s))
set_step s j (events.Copied from index slot) kept rows e h = let here : (j == index) ≡ true = (let k : index ≡ j = cc in grind (arith, nat_tests)) in
    rw here (in_with s slot kept ∙ ap (λ (b : Bool). (s == slot) || b) (h s))
set_step s j (events.Clear index slot) kept rows e h = let here : (j == index) ≡ true = (let k : index ≡ j = cc in grind (arith, nat_tests)) in
    rw here (in_without s slot kept ∙ ap (λ (b : Bool). not (s == slot) && b) (h s) ∙ sym (in_without s slot rows))
set_step s j event kept rows e h = absurd (cc)

-- at another index nothing changes
set_stays : (j : ℕ) (event : Event) (rows : List ℕ) → (told_index event ≡ Some j → ⊥) → standing_by j event rows ≡ rows
set_stays j (events.Held index slot steps) rows h = let other : (j == index) ≡ false = (let n : j ≢ index = λ e. h (ap Some (sym e)) in grind (arith, nat_tests)) in rw other refl
set_stays j (events.Copied from index slot) rows h = let other : (j == index) ≡ false = (let n : j ≢ index = λ e. h (ap Some (sym e)) in grind (arith, nat_tests)) in rw other refl
set_stays j (events.Clear index slot) rows h = let other : (j == index) ≡ false = (let n : j ≢ index = λ e. h (ap Some (sym e)) in grind (arith, nat_tests)) in rw other refl
set_stays j event rows h = refl

index_of_in : (config : Config) (seat index : ℕ) (event : Event) → EntryIn config seat event → told_index event ≡ Some index → index < config.indexes
index_of_in config seat index (events.Held other slot steps) w e = let k : other ≡ index = cc in subst (λ (n : ℕ). n < config.indexes) k w.within.0
index_of_in config seat index (events.Copied from other slot) w e = let k : other ≡ index = cc in subst (λ (n : ℕ). n < config.indexes) k w.within.1
index_of_in config seat index (events.Clear other slot) w e = let k : other ≡ index = cc in subst (λ (n : ℕ). n < config.indexes) k w.within.0
index_of_in config seat index event w e = absurd (cc)

-- an event that says nothing of what stands
pub stands_same : (k j s : ℕ) (p : Past) (i : ℕ) (event : Event) → told_index event ≡ None → stands k j s (Then p i event) ≡ stands k j s p
stands_same k j s p i event e = by_cases (k == i) (stands k j s (Then p i event) ≡ stands k j s p)
    (λ t. rw t (ap (is_one_of s) (set_stays j event (standing_of k j p) (λ h. let no : None ≡ Some j = sym e ∙ h in absurd (cc)))))
    (λ t. rw t refl)

standing_step : (config : Config) (sets : List (List ℕ)) (p : Past) (i : ℕ) (event : Event) (told : Option ℕ) (k j s : ℕ)
    → length sets ≡ config.indexes * config.seats → EntryIn config i event → told_index event ≡ told → k < config.seats → j < config.indexes
    → ((t : ℕ) → is_one_of t (get_or sets (k * config.indexes + j) []) ≡ stands k j t p)
    → is_one_of s (get_or (sets_at (place_of config.indexes i told) event sets) (k * config.indexes + j) []) ≡ stands k j s (Then p i event)
standing_step config sets p i event None k j s z w e l m h = h s ∙ sym (stands_same k j s p i event e)
standing_step config sets p i event (Some index) k j s z w e l m h =
    let here : ℕ = k * config.indexes + j in
    let there : ℕ = i * config.indexes + index in
    let index_in : index < config.indexes = index_of_in config i index event w e in
    let within : k * config.indexes + j < length sets = subst (λ (n : ℕ). k * config.indexes + j < n) (sym z) (mul-add-lt k config.indexes j config.seats l m) in
    let changed : List ℕ = set_after event (get_or sets (i * config.indexes + index) []) in
    by_cases (k == i) (is_one_of s (get_or (slice_set sets (i * config.indexes + index) (set_after event (get_or sets (i * config.indexes + index) []))) (k * config.indexes + j) []) ≡ stands k j s (Then p i event))
    (λ t. by_cases (j == index) (is_one_of s (get_or (slice_set sets (i * config.indexes + index) (set_after event (get_or sets (i * config.indexes + index) []))) (k * config.indexes + j) []) ≡ stands k j s (Then p i event))
    (λ u. let seat_is : k ≡ i = number_is k i t in
    let index_is : j ≡ index = number_is j index u in
    let at : k * config.indexes + j ≡ i * config.indexes + index = ap (λ (n : ℕ). n * config.indexes + j) seat_is ∙ ap (λ (n : ℕ). i * config.indexes + n) index_is in
    let read : get_or (slice_set sets (k * config.indexes + j) (set_after event (get_or sets (k * config.indexes + j) []))) (k * config.indexes + j) [] ≡ set_after event (get_or sets (k * config.indexes + j) [])
    = get_or-set_same sets (k * config.indexes + j) (set_after event (get_or sets (k * config.indexes + j) [])) [] within in
    rw t (subst (λ (n : ℕ). is_one_of s (get_or (slice_set sets n (set_after event (get_or sets n []))) (k * config.indexes + j) []) ≡ is_one_of s (standing_by j event (standing_of k j p))) at
    (ap (is_one_of s) read ∙ set_step s j event (get_or sets (k * config.indexes + j) []) (standing_of k j p) (e ∙ ap Some (sym index_is)) h)))
    (λ u. let apart : (k * config.indexes + j == i * config.indexes + index) ≡ false = same_place k j i index config.indexes m index_in ∙ (rw (t, u) refl) in
    let other : k * config.indexes + j ≢ i * config.indexes + index = grind (arith, nat_tests) in
    let stays : standing_by j event (standing_of k j p) ≡ standing_of k j p = set_stays j event (standing_of k j p) (λ f. let same : index ≡ j = (let g : Some index ≡ Some j = sym e ∙ f in cc) in let no : (j == index) ≡ true = grind (arith, nat_tests) in absurd (let z : true ≡ false = sym no ∙ u in (cc))) in
    rw t (ap (is_one_of s) (get_or-set_other sets (i * config.indexes + index) (k * config.indexes + j) (set_after event (get_or sets (i * config.indexes + index) [])) [] other) ∙ h s ∙ ap (is_one_of s) (sym stays))))
    (λ t. let apart : (k * config.indexes + j == i * config.indexes + index) ≡ false = same_place k j i index config.indexes m index_in ∙ (rw t refl) in
    let other : k * config.indexes + j ≢ i * config.indexes + index = grind (arith, nat_tests) in
    rw t (ap (is_one_of s) (get_or-set_other sets (i * config.indexes + index) (k * config.indexes + j) (set_after event (get_or sets (i * config.indexes + index) [])) [] other) ∙ h s))

sets_length : (event : Event) (place : Option ℕ) (sets : List (List ℕ)) → length (sets_at place event sets) ≡ length sets
sets_length event None sets = refl
sets_length event (Some place) sets = length-set sets place (set_after event (get_or sets place []))

-- an event of seat i tells that this row stands at this index
pub record IsTold (i : ℕ) (event : Event) (k j s : ℕ) : Type 0 where
  pub seat : k ≡ i
  pub index : told_index event ≡ Some j
  pub slot : told_row event ≡ Some s

added : (i j s index slot : ℕ) (event : Event) (rows : List ℕ) → told_index event ≡ Some index → told_row event ≡ Some slot
    → is_one_of s (if j == index then slot ∷ rows else rows) ≡ true → (is_one_of s rows ≡ true) ⊎ IsTold i event i j s
added i j s index slot event rows e f h = by_cases (j == index) ((is_one_of s rows ≡ true) ⊎ IsTold i event i j s)
    (λ t. let more : ((s == slot) || is_one_of s rows) ≡ true = rw t at h in
    elim (either_true (s == slot) (is_one_of s rows) more) as (λ _. (is_one_of s rows ≡ true) ⊎ IsTold i event i j s) [
      | inl u ↦ inr (record { seat = refl; index = e ∙ ap Some (sym (number_is j index t)); slot = f ∙ ap Some (sym (number_is s slot u)) })
      | inr u ↦ inl u
    ])
    (λ t. inl (rw t at h))

told_by : (i j s : ℕ) (event : Event) (rows : List ℕ) → is_one_of s (standing_by j event rows) ≡ true → (is_one_of s rows ≡ true) ⊎ IsTold i event i j s
told_by i j s (events.Held index slot steps) rows h = added i j s index slot (events.Held index slot steps) rows refl refl h
told_by i j s (events.Copied from index slot) rows h = added i j s index slot (events.Copied from index slot) rows refl refl h
told_by i j s (events.Clear index slot) rows h = by_cases (j == index) ((is_one_of s rows ≡ true) ⊎ IsTold i (events.Clear index slot) i j s)
    (λ t. let left : is_one_of s (without_row slot rows) ≡ true = rw t at h in inl (rest_of (not (s == slot)) (is_one_of s rows) (sym (in_without s slot rows) ∙ left)))
    (λ t. inl (rw t at h))
told_by i j s event rows h = inl h

-- what stands stood before, or is told now
pub told_or_before : (k j s : ℕ) (p : Past) (i : ℕ) (event : Event) → stands k j s (Then p i event) ≡ true → (stands k j s p ≡ true) ⊎ IsTold i event k j s
told_or_before k j s p i event h = by_cases (k == i) ((stands k j s p ≡ true) ⊎ IsTold i event k j s)
    (λ t. let now : is_one_of s (standing_by j event (standing_of k j p)) ≡ true = rw t at h in
    subst (λ (n : ℕ). (is_one_of s (standing_of k j p) ≡ true) ⊎ IsTold i event n j s) (sym (number_is k i t)) (told_by i j s event (standing_of k j p) now))
    (λ t. inl (rw t at h))

row_of_in : (config : Config) (seat slot : ℕ) (event : Event) → EntryIn config seat event → told_row event ≡ Some slot → slot ≤ config.slots
row_of_in config seat slot (events.Held index other steps) w e = let k : other ≡ slot = cc in subst (λ (n : ℕ). n ≤ config.slots) k w.within.1
row_of_in config seat slot (events.Copied from index other) w e = let k : other ≡ slot = cc in subst (λ (n : ℕ). n ≤ config.slots) k w.within.2
row_of_in config seat slot event w e = absurd (cc)

told_place : (config : Config) (i : ℕ) (event : Event) (k j s : ℕ) → EntryIn config i event → IsTold i event k j s → IsPlace config k j s
told_place config i event k j s w t = record {
  seat_in = subst (λ (n : ℕ). n < config.seats) (sym t.seat) w.seated;
  index_in = index_of_in config i j event w t.index;
  slot_in = row_of_in config i s event w t.slot;
}

within_step : (config : Config) (p : Past) (i : ℕ) (event : Event) → EntryIn config i event → ((k j s : ℕ) → stands k j s p ≡ true → IsPlace config k j s)
    → (k j s : ℕ) → stands k j s (Then p i event) ≡ true → IsPlace config k j s
within_step config p i event w h k j s t = elim (told_or_before k j s p i event t) as (λ _. IsPlace config k j s) [
  | inl b ↦ h k j s b
  | inr n ↦ told_place config i event k j s w n
]

-- what is kept is, after one more entry, what it was, changed by the entry
pub record IsChanged (seat : ℕ) (event : Event) (old new : Protections) : Type 0 where
  pub config : new.config ≡ old.config
  pub helpers : new.helpers.items ≡ helpers_after event old.helpers.items
  pub wholes : new.wholes.items ≡ wholes_after event old.wholes.items
  pub words : new.words.items ≡ words_after old.config.indexes event old.words.items
  pub hazards : new.hazards.items ≡ hazards_after old.config.indexes event old.hazards.items
  pub standing : new.standing.items ≡ sets_after old.config.indexes seat event old.standing.items

same_values : (width : ℕ) (hs hs' ws ws' vs vs' : List (Option Interval)) (guard : Guard) → hs ≡ hs' → ws ≡ ws' → vs ≡ vs' → value_at width hs ws vs guard ≡ value_at width hs' ws' vs' guard
same_values width hs hs' ws ws' vs vs' guard e f g = ap (λ l. value_at width l ws vs guard) e ∙ ap (λ l. value_at width hs' l vs guard) f ∙ ap (λ l. value_at width hs' ws' l guard) g

values_step : (old new : Protections) (seat : ℕ) (event : Event) → IsChanged seat event old new → (config : Config) (p : Past) → IsProtections config old p → EntryIn config seat event
    → (guard : Guard) → GuardIn config guard → value_in new guard ≡ value_of guard (Then p seat event)
values_step old new seat event c config p r w guard q =
    let setting : new.config ≡ config = c.config ∙ r.setting in
    let words : new.words.items ≡ words_after config.indexes event old.words.items = c.words ∙ ap (λ (n : Config). words_after n.indexes event old.words.items) r.setting in
    let before : value_at config.indexes old.helpers.items old.wholes.items old.words.items guard ≡ value_of guard p =
    ap (λ (n : Config). value_at n.indexes old.helpers.items old.wholes.items old.words.items guard) (sym r.setting) ∙ sym (value_shown old guard) ∙ r.values guard q in
    value_shown new guard
    ∙ ap (λ (n : Config). value_at n.indexes new.helpers.items new.wholes.items new.words.items guard) setting
    ∙ same_values config.indexes new.helpers.items (helpers_after event old.helpers.items) new.wholes.items (wholes_after event old.wholes.items) new.words.items (words_after config.indexes event old.words.items) guard c.helpers c.wholes words
    ∙ value_step config old.helpers.items old.wholes.items old.words.items event seat guard (record { helpers = r.helpers; wholes = r.wholes; words = r.words }) w q
    ∙ ap (reserved_by guard event) before

hazards_step : (old new : Protections) (seat : ℕ) (event : Event) → IsChanged seat event old new → (config : Config) (p : Past) → IsProtections config old p → EntryIn config seat event
    → (k j : ℕ) → k < config.seats → j < config.indexes → hazard_in new (Index k j) ≡ hazard_of (Index k j) (Then p seat event)
hazards_step old new seat event c config p r w k j l m =
    let setting : new.config ≡ config = c.config ∙ r.setting in
    let slots : new.hazards.items ≡ hazards_after config.indexes event old.hazards.items = c.hazards ∙ ap (λ (n : Config). hazards_after n.indexes event old.hazards.items) r.setting in
    let before : get_or old.hazards.items (k * config.indexes + j) None ≡ hazard_of (Index k j) p =
    ap (λ (n : Config). get_or old.hazards.items (k * n.indexes + j) None) (sym r.setting) ∙ r.hazards k j l m in
    ap (λ (n : Config). get_or new.hazards.items (k * n.indexes + j) None) setting
    ∙ ap (λ (values : List (Option ℕ)). get_or values (k * config.indexes + j) None) slots
    ∙ index_hazard config old.hazards.items p event seat k j r.slots w l m
    ∙ ap (hazard_by (Index k j) event) before

rows_step : (old new : Protections) (seat : ℕ) (event : Event) → IsChanged seat event old new → (config : Config) (p : Past) → IsProtections config old p → EntryIn config seat event
    → (k j s : ℕ) → k < config.seats → j < config.indexes → is_one_of s (rows_in new k j) ≡ stands k j s (Then p seat event)
rows_step old new seat event c config p r w k j s l m =
    let setting : new.config ≡ config = c.config ∙ r.setting in
    let sets : new.standing.items ≡ sets_after config.indexes seat event old.standing.items = c.standing ∙ ap (λ (n : Config). sets_after n.indexes seat event old.standing.items) r.setting in
    ap (λ (n : Config). is_one_of s (get_or new.standing.items (k * n.indexes + j) [])) setting
    ∙ ap (λ (kept : List (List ℕ)). is_one_of s (get_or kept (k * config.indexes + j) [])) sets
    ∙ standing_step config old.standing.items p seat event (told_index event) k j s r.sets w refl l m
    (λ t. ap (λ (n : Config). is_one_of t (get_or old.standing.items (k * n.indexes + j) [])) (sym r.setting) ∙ r.standing k j t l m)

pub step : (old new : Protections) (seat : ℕ) (event : Event) → IsChanged seat event old new → (config : Config) (p : Past) → IsProtections config old p → EntryIn config seat event → IsProtections config new (Then p seat event)
step old new seat event c config p r w = record {
  setting = c.config ∙ r.setting;
  helpers = ap length c.helpers ∙ helpers_length event old.helpers.items ∙ r.helpers;
  wholes = ap length c.wholes ∙ wholes_length event old.wholes.items ∙ r.wholes;
  words = ap length c.words ∙ words_length old.config.indexes event old.words.items ∙ r.words;
  slots = ap length c.hazards ∙ hazards_length old.config.indexes event old.hazards.items ∙ r.slots;
  sets = ap length c.standing ∙ sets_length event (place_of old.config.indexes seat (told_index event)) old.standing.items ∙ r.sets;
  indexes = r.indexes;
  values = values_step old new seat event c config p r w;
  hazards = hazards_step old new seat event c config p r w;
  standing = rows_step old new seat event c config p r w;
  within = within_step config p seat event w r.within;
}

-- before the first entry
none_there : (width seats : ℕ) (guard : Guard) (config : Config) → config.indexes ≡ width → config.seats ≡ seats → GuardIn config guard
    → value_at width (replicate seats None) (replicate seats None) (replicate (width * seats) None) guard ≡ None
none_there width seats (Helper seat) config e f q = get_or-replicate seats seat None None (subst (λ (n : ℕ). seat < n) f q)
none_there width seats (Index seat index) config e f q =
    get_or-replicate (width * seats) (seat * width + index) None None (mul-add-lt seat width index seats (subst (λ (n : ℕ). seat < n) f q.0) (subst (λ (n : ℕ). index < n) e q.1))
none_there width seats (Whole seat) config e f q = get_or-replicate seats seat None None (subst (λ (n : ℕ). seat < n) f q)

three_indexes : (config : Config) → is_none (bad_field config) ≡ true → 3 ≤ config.indexes
three_indexes config h = grind (arith, nat_tests)

-- what is kept before the first entry
pub record IsFirst (config : Config) (kept : Protections) : Type 0 where
  pub setting : kept.config ≡ config
  pub helpers : kept.helpers.items ≡ replicate config.seats None
  pub wholes : kept.wholes.items ≡ replicate config.seats None
  pub words : kept.words.items ≡ replicate (config.indexes * config.seats) None
  pub hazards : kept.hazards.items ≡ replicate (config.indexes * config.seats) None
  pub standing : kept.standing.items ≡ replicate (config.indexes * config.seats) []

pub start : (config : Config) (kept : Protections) → is_none (bad_field config) ≡ true → IsFirst config kept → IsProtections config kept Start
start config kept h f = record {
  setting = f.setting;
  helpers = ap length f.helpers ∙ length-replicate config.seats None;
  wholes = ap length f.wholes ∙ length-replicate config.seats None;
  words = ap length f.words ∙ length-replicate (config.indexes * config.seats) None;
  slots = ap length f.hazards ∙ length-replicate (config.indexes * config.seats) None;
  sets = ap length f.standing ∙ length-replicate (config.indexes * config.seats) [];
  indexes = three_indexes config h;
  values = λ guard q. value_shown kept guard
      ∙ ap (λ (n : Config). value_at n.indexes kept.helpers.items kept.wholes.items kept.words.items guard) f.setting
      ∙ same_values config.indexes kept.helpers.items (replicate config.seats None) kept.wholes.items (replicate config.seats None) kept.words.items (replicate (config.indexes * config.seats) None) guard f.helpers f.wholes f.words
      ∙ none_there config.indexes config.seats guard config refl refl q;
  hazards = λ k j l m. ap (λ (n : Config). get_or kept.hazards.items (k * n.indexes + j) None) f.setting
      ∙ ap (λ (values : List (Option ℕ)). get_or values (k * config.indexes + j) None) f.hazards
      ∙ get_or-replicate (config.indexes * config.seats) (k * config.indexes + j) None None (mul-add-lt k config.indexes j config.seats l m);
  standing = λ k j s l m. ap (λ (n : Config). is_one_of s (get_or kept.standing.items (k * n.indexes + j) [])) f.setting
      ∙ ap (λ (sets : List (List ℕ)). is_one_of s (get_or sets (k * config.indexes + j) [])) f.standing
      ∙ ap (is_one_of s) (get_or-replicate (config.indexes * config.seats) (k * config.indexes + j) [] [] (mul-add-lt k config.indexes j config.seats l m));
  within = λ k j s t. absurd (let no : false ≡ true = t in (cc));
}
