-- The row at a bucket's root is that of the bucket's version, but between its link and the change that it makes.
use Rattle.std.proofs.Common.{ℕ, ◌≡◌, ◌+◌, Bool, true, false, [], ◌∷◌, ◌++◌, length, Option, Some, None, refl, sym, subst, length-append}
use Rattle.std.specs.Prelude.{◌==◌, ◌&&◌, if◌then◌else◌}
use Rattle.law_scans.proofs.laws.records.defs.Facts.{number_is, rest_of, same_test}
use Rattle.law_scans.specs.laws.defs.declared.event.Event.{Event}
use Rattle.law_scans.specs.laws.defs.declared.event.Event.TheVariants as events
use Rattle.law_scans.specs.laws.defs.declared.event.Root.TheVariants as roots
use Rattle.law_scans.specs.laws.defs.declared.fold.Change.{Change}
use Rattle.law_scans.specs.laws.defs.declared.fold.Change.TheVariants as changes
use Rattle.law_scans.specs.laws.Once.{Due, due_at, due_cut, due_linked, meets_due, order_ok}
use Rattle.law_scans.specs.laws.Once.Due.{ChangeDue, CutDue}
use Rattle.law_scans.specs.laws.StateAt.{bucket_at}
use Rattle.law_scans.specs.laws.StructuresAt.{changes_of, count_of, row_at}
use Rattle.law_scans.specs.laws.records.Record.{Past, Each}
use Rattle.law_scans.specs.laws.records.Record.Past.{Start, Then}

-- the last entry links a row at the bucket's root
abbrev pub is_linking : ℕ → Past → Bool
is_linking b Start = false
is_linking b (Then p i (events.Link (roots.Bucket bucket) slot)) = b == bucket
is_linking b (Then p i event) = false

-- what is due is a cut, or a change of the bucket
abbrev is_cut_due : Due → Bool
is_cut_due (CutDue seat slot) = true
is_cut_due due = false

abbrev is_change_due : ℕ → Due → Bool
is_change_due b (ChangeDue seat bucket) = b == bucket
is_change_due b due = false

abbrev pub is_cut : Event → Bool
is_cut (events.Cut slot) = true
is_cut event = false

abbrev pub is_change : ℕ → Event → Bool
is_change b (events.Put bucket version key value) = b == bucket
is_change b (events.Removed bucket version key) = b == bucket
is_change b event = false

-- before another event none is due
no_cut : (due : Due) (i : ℕ) (event : Event) → is_cut event ≡ false → meets_due due i event ≡ true → is_cut_due due ≡ false
no_cut (CutDue seat slot) i (events.Cut other) h m = absurd (cc)
no_cut (CutDue seat slot) i event h m = absurd (cc)
no_cut due i event h m = refl

other_bucket : (b bucket other : ℕ) (seat : Bool) → (b == other) ≡ false → (seat && other == bucket) ≡ true → (b == bucket) ≡ false
other_bucket b bucket other seat h m = subst (λ (x : ℕ). (b == x) ≡ false) (number_is other bucket (rest_of seat (other == bucket) m)) h

no_change : (b : ℕ) (due : Due) (i : ℕ) (event : Event) → is_change b event ≡ false → meets_due due i event ≡ true → is_change_due b due ≡ false
no_change b (ChangeDue seat bucket) i (events.Put other version key value) h m = other_bucket b bucket other (i == seat) h m
no_change b (ChangeDue seat bucket) i (events.Removed other version key) h m = other_bucket b bucket other (i == seat) h m
no_change b (ChangeDue seat bucket) i event h m = absurd (cc)
no_change b due i event h m = refl

-- and no row was linked at the root last
linked_due : (b i bucket : ℕ) (old : Option ℕ) → is_cut_due (due_linked i bucket old) ≡ false → is_change_due b (due_linked i bucket old) ≡ false → (b == bucket) ≡ false
linked_due b i bucket None c d = d
linked_due b i bucket (Some old) c d = absurd (cc)

no_link : (b slots : ℕ) (p : Past) → is_cut_due (due_at slots p) ≡ false → is_change_due b (due_at slots p) ≡ false → is_linking b p ≡ false
no_link b slots Start c d = refl
no_link b slots (Then p i (events.Link (roots.Bucket bucket) slot)) c d = linked_due b i bucket (bucket_at bucket p) c d
no_link b slots (Then p i event) c d = refl

-- a cut leaves a change due just where it was due after the link
cut_link : (b seat : ℕ) (p : Past) → is_change_due b (due_cut seat p) ≡ false → is_linking b p ≡ false
cut_link b seat Start d = refl
cut_link b seat (Then p i (events.Link (roots.Bucket bucket) slot)) d = d
cut_link b seat (Then p i event) d = refl

-- where no change is due, and none will be after a cut
abbrev Rests : (b slots : ℕ) → Past → Type 0
Rests b slots p = is_linking b p ≡ false → is_change_due b (due_at slots p) ≡ false → bucket_at b p ≡ row_at b (count_of b p) p

rests_now : (b slots : ℕ) (p : Past) (i : ℕ) (event : Event) → Rests b slots p → order_ok slots p i event ≡ true → is_cut event ≡ false → is_change b event ≡ false → bucket_at b p ≡ row_at b (count_of b p) p
rests_now b slots p i event r o c d =
    let change : is_change_due b (due_at slots p) ≡ false = no_change b (due_at slots p) i event d o in
    r (no_link b slots p (no_cut (due_at slots p) i event c o) change) change

-- a change makes the row at the root that of the new version
change_rests : (b : ℕ) (p : Past) (change : Change) (same : Bool) → (same ≡ false → bucket_at b p ≡ row_at b (count_of b p) p)
    → bucket_at b p ≡ (if same then (if count_of b p + 1 == length (if same then changes_of b p ++ change ∷ [] else changes_of b p) then bucket_at b p else row_at b (length (if same then changes_of b p ++ change ∷ [] else changes_of b p)) p) else row_at b (length (if same then changes_of b p ++ change ∷ [] else changes_of b p)) p)
change_rests b p change true f =
    let here : (count_of b p + 1 == length (changes_of b p ++ change ∷ [])) ≡ true = same_test (count_of b p + 1) (length (changes_of b p ++ change ∷ [])) (sym (length-append (changes_of b p) (change ∷ []))) in
    rw here refl
change_rests b p change false f = f refl

rests_entry : (b slots : ℕ) (p : Past) (i : ℕ) (event : Event) → Rests b slots p → order_ok slots p i event ≡ true → Rests b slots (Then p i event)
rests_entry b slots p i (events.Put bucket version key value) r o l d = change_rests b p (changes.Put key value) (b == bucket) (λ h. rests_now b slots p i (events.Put bucket version key value) r o refl h)
rests_entry b slots p i (events.Removed bucket version key) r o l d = change_rests b p (changes.Removed key) (b == bucket) (λ h. rests_now b slots p i (events.Removed bucket version key) r o refl h)
rests_entry b slots p i (events.Cut slot) r o l d = r (cut_link b i p d) (no_change b (due_at slots p) i (events.Cut slot) refl o)
rests_entry b slots p i (events.Link (roots.Bucket bucket) slot) r o l d = rw l (rests_now b slots p i (events.Link (roots.Bucket bucket) slot) r o refl refl)
rests_entry b slots p i event r o l d = rests_now b slots p i event r o refl refl

rests : (b slots : ℕ) (p : Past) → Each (order_ok slots) p → Rests b slots p
rests b slots Start o l d = refl
rests b slots (Then p i event) o l d = rests_entry b slots p i event (rests b slots p o.1) o.0 l d

-- before an entry that is no cut and no change of the bucket
pub rested : (b slots : ℕ) (p : Past) (i : ℕ) (event : Event) → Each (order_ok slots) (Then p i event) → is_cut event ≡ false → is_change b event ≡ false → bucket_at b p ≡ row_at b (count_of b p) p
rested b slots p i event o c d = rests_now b slots p i event (rests b slots p o.1) o.0 c d
