-- Positions of a call: where the object was as a law says that it was.
use Rattle.std.proofs.Common.{ℕ, ◌≡◌, ◌≤◌, ◌≢◌, ◌+◌, Bool, true, false, refl, sym, ap, ◌∙◌, arith, subst, List, [], ◌∷◌, ◌++◌, length, take, append_assoc, ◌⊎◌, inl, inr}
use Rattle.std.proofs.Math.Seq.{take-append_seam}
use Rattle.std.proofs.lemmas.Bool.Decides.{nat_tests}
use Rattle.std.proofs.lemmas.List.{append-nil, length-append}
use Rattle.std.specs.Prelude.{◌==◌, if◌then◌else◌, ◌&&◌, not, nat_le}
use Rattle.laws.proofs.records.defs.Facts.{either_true, false_of_not, first_of, number_is, rest_of}
use Rattle.laws.specs.StructuresAt.{Filling, changes_of, count_of, was_current, with_change}
use Rattle.laws.specs.defs.Pairs.{pairs_after}
use Rattle.laws.specs.defs.declared.event.Event.TheVariants as events
use Rattle.laws.specs.defs.declared.event.Event.{Event}
use Rattle.laws.specs.defs.declared.fold.Change.TheVariants as the_changes
use Rattle.laws.specs.defs.declared.fold.Change.{Change}
use Rattle.laws.specs.records.Record.Past.{Start, Then}
use Rattle.laws.specs.records.Record.{Past, begins, held_since, value_since}
use Rattle.law_linear.specs.Object.{Object}
use Rattle.law_linear.specs.Points.{object_at}
use Rattle.law_linear.proofs.Marking.{WasAt}

pub was_now : (i : ℕ) (p : Past) → WasAt i (object_at p) p
was_now i Start = refl
was_now i (Then p k event) = inl refl

-- a position of the call of seat i that passes a test
pub record Held (i : ℕ) (f : Past → Bool) (p : Past) : Type 0 where
  pub at : Past
  pub holds : f at ≡ true
  pub was : WasAt i (object_at at) p

pub held : (i : ℕ) (f : Past → Bool) (p : Past) → held_since (begins i) f p ≡ true → Held i f p
held i f Start h = record { at = Start; holds = h; was = refl }
held i f (Then p k event) h = by (either_true (f (Then p k event)) (not (begins i p k event) && held_since (begins i) f p) h) (held i f p)
  where
    by : (f (Then p k event) ≡ true) ⊎ ((not (begins i p k event) && held_since (begins i) f p) ≡ true) → (held_since (begins i) f p ≡ true → Held i f p) → Held i f (Then p k event)
    by (inl here) g = record { at = Then p k event; holds = here; was = inl refl }
    by (inr before) g =
        let x = g (rest_of (not (begins i p k event)) (held_since (begins i) f p) before) in
        record { at = x.at; holds = x.holds; was = inr (false_of_not (begins i p k event) (first_of (not (begins i p k event)) (held_since (begins i) f p) before), x.was) }

-- an entry adds one change of a bucket at most
pub record Adds (before now : List Change) : Type 0 where
  pub more : List Change
  pub sum : now ≡ before ++ more
  pub few : length more ≤ 1

one_or_none : (before : List Change) (change : Change) (same : Bool) → Adds before (if same then before ++ change ∷ [] else before)
one_or_none before change true = record { more = change ∷ []; sum = refl; few = omega arith }
one_or_none before change false = record { more = []; sum = sym (append-nil before); few = omega arith }

pub adds : (b : ℕ) (before : List Change) (event : Event) → Adds before (with_change b before event)
adds b before (events.Put bucket version key value) = one_or_none before (the_changes.Put key value) (b == bucket)
adds b before (events.Removed bucket version key) = one_or_none before (the_changes.Removed key) (b == bucket)
adds b before event = record { more = []; sum = sym (append-nil before); few = omega arith }

-- At a position of the call the bucket had the version, with these of all changes.
pub record Current (i b version : ℕ) (all : List Change) (p : Past) : Type 0 where
  pub now : Object
  pub was : WasAt i now p
  pub is : ◌≡◌ {A = Filling} (now.bucket b) (record { version = version; pairs = pairs_after (take version all) })

here : (i b version : ℕ) (all more : List Change) (p : Past) → all ≡ changes_of b p ++ more → count_of b p ≡ version → Current i b version all p
here i b version all more p e n =
    let cut : take version all ≡ changes_of b p = subst (λ (x : ℕ). take x all ≡ changes_of b p) n (rw e (take-append_seam (changes_of b p) more)) in
    record { now = object_at p; was = was_now i p; is = λ j. record { version = n j; pairs = pairs_after (sym cut j) } }

later : (i b version k : ℕ) (all : List Change) (p : Past) (event : Event) → begins i p k event ≡ false → Current i b version all p → Current i b version all (Then p k event)
later i b version k all p event e x = record { now = x.now; was = inr (e, x.was); is = x.is }

record Before (begun : Bool) (count version : ℕ) : Type 0 where
  none : begun ≡ false
  low : count ≤ version

before : (begun : Bool) (now count version : ℕ) → now ≢ version → version ≤ now → (if begun then now else count) ≤ version → Before begun count version
before true now count version n high low = absurd (omega arith)
before false now count version n high low = record { none = refl; low = low }

decide : (a b : ℕ) (P : Type 0) → (a ≡ b → P) → (a ≢ b → P) → P
decide a b P f g = by (a == b) refl
  where
    by : (t : Bool) → (a == b) ≡ t → P
    by true e = f (number_is a b e)
    by false e = g (λ same. grind (arith, nat_tests))

pub current : (i b version : ℕ) (all : List Change) (p : Past) (more : List Change) → all ≡ changes_of b p ++ more → value_since (begins i) (count_of b) p ≤ version → version ≤ count_of b p → Current i b version all p
current i b version all Start more e low high = here i b version all more Start e (omega (arith, high))
current i b version all (Then p k event) more e low high =
    let one : Adds (changes_of b p) (changes_of b (Then p k event)) = adds b (changes_of b p) event in
    decide (count_of b (Then p k event)) version (Current i b version all (Then p k event)) (λ n. here i b version all more (Then p k event) e n) (λ n.
    let x = before (begins i p k event) (count_of b (Then p k event)) (value_since (begins i) (count_of b) p) version n high low in
    let sum : length (changes_of b (Then p k event)) ≡ length (changes_of b p) + length one.more = ap length one.sum ∙ length-append (changes_of b p) one.more in
    let few : length one.more ≤ 1 = one.few in
    later i b version k all p event x.none
    (current i b version all p (one.more ++ more) (e ∙ ap (λ (xs : List Change). xs ++ more) one.sum ∙ append_assoc (changes_of b p) one.more more) x.low (omega arith)))

le_is : (a b : ℕ) → nat_le a b ≡ true → a ≤ b
le_is a b h = grind (arith, nat_tests)

-- so a bucket was as the record has it at a version that was current
pub was_there : (i b version : ℕ) (p : Past) → was_current i b version p ≡ true → Current i b version (changes_of b p) p
was_there i b version p h =
    current i b version (changes_of b p) p [] (sym (append-nil (changes_of b p)))
    (le_is (value_since (begins i) (count_of b) p) version (first_of (nat_le (value_since (begins i) (count_of b) p) version) (nat_le version (count_of b p)) h))
    (le_is version (count_of b p) (rest_of (nat_le (value_since (begins i) (count_of b) p) version) (nat_le version (count_of b p)) h))
