-- What the roots of calls have had, after an entry.
use Rattle.std.proofs.Common.{◌≡◌, ◌≤◌, ℕ, Bool, true, false, not, ◌&&◌, ◌||◌, ◌+◌, ◌%◌, ◌==◌, Option, Some, None, if◌then◌else◌, refl, ap, sym, subst, ◌∙◌, arith}
use Rattle.std.proofs.lemmas.Bool.Decides.{nat_tests}
use Rattle.laws.specs.records.Record.{Past, Test, begins, held_since}
use Rattle.laws.specs.records.Record.Past.{Start, Then}
use Rattle.wfe_words.specs.declared.config.Config.{Config}
use Rattle.wfe_defs.specs.declared.call.Call.{Call}
use Rattle.wfe_defs.specs.declared.call.Call.TheVariants as calls
use Rattle.wfe_defs.specs.declared.event.Event.{Event}
use Rattle.wfe_defs.specs.declared.event.Event.TheVariants as events
use Rattle.wfe_defs.specs.declared.event.Root.{Root}
use Rattle.wfe_defs.specs.declared.event.Root.TheVariants as roots
use Rattle.laws.specs.HoldLaw.{has_had}
use Rattle.laws.specs.StateAt.{began_of, bucket_at, bucket_by, head_by, tail_by, head_at, tail_at}
use Rattle.laws.specs.StructuresAt.{same_value}
use Rattle.wfe_check_rows.specs.Positions.{entries, since}
use Rattle.wfe_check_held.specs.Roots.{looks, looks_at, place_of, root_row}
use Rattle.wfe_check_held.specs.Steps.{IsFound, had_after}
use Rattle.wfe_check_held.specs.Times.{IsHad, IsSeat}
use Rattle.wfe_check_held.specs.declared.seats.Seat.{Seat}
use Rattle.wfe_check_rows.proofs.Positions.{since-at_most}

pub same_either : {A : Type 0} (b : Bool) (x : A) → (if b then x else x) ≡ x
same_either true x = refl
same_either false x = refl

-- what a call has had is told of the rows of its root
had_held : (c : Config) (i : ℕ) (p : Past) (call : Option Call) (v : Option ℕ) →
    has_had c i p call v ≡ (looks call && held_since (begins i) (λ (q : Past). same_value v (root_row c call q)) p)
had_held c i p (Some (calls.Get key)) v = refl
had_held c i p (Some (calls.Put key value)) v = refl
had_held c i p (Some (calls.Remove key)) v = refl
had_held c i p (Some (calls.PutIf key value version)) v = refl
had_held c i p (Some (calls.Hold key)) v = refl
had_held c i p (Some (calls.Enqueue value)) v = refl
had_held c i p (Some calls.Dequeue) v = refl
had_held c i p call v = refl

-- a link gives its root a row
root_linked : (c : Config) (call : Option Call) (p : Past) (k : ℕ) (root : Root) (slot : ℕ) →
    root_row c call (Then p k (events.Link root slot)) ≡ (if looks_at c.buckets call root then Some slot else root_row c call p)
root_linked c (Some (calls.Get key)) p k (roots.Bucket bucket) slot = refl
root_linked c (Some (calls.Get key)) p k root slot = refl
root_linked c (Some (calls.Put key value)) p k (roots.Bucket bucket) slot = refl
root_linked c (Some (calls.Put key value)) p k root slot = refl
root_linked c (Some (calls.Remove key)) p k (roots.Bucket bucket) slot = refl
root_linked c (Some (calls.Remove key)) p k root slot = refl
root_linked c (Some (calls.PutIf key value version)) p k (roots.Bucket bucket) slot = refl
root_linked c (Some (calls.PutIf key value version)) p k root slot = refl
root_linked c (Some (calls.Hold key)) p k (roots.Bucket bucket) slot = refl
root_linked c (Some (calls.Hold key)) p k root slot = refl
root_linked c (Some (calls.Enqueue value)) p k roots.Tail slot = refl
root_linked c (Some (calls.Enqueue value)) p k root slot = refl
root_linked c (Some calls.Dequeue) p k roots.Head slot = refl
root_linked c (Some calls.Dequeue) p k root slot = refl
root_linked c call p k root slot = refl

-- other events leave all roots as they are
abbrev is_link : Event → Bool
is_link (events.Link root slot) = true
is_link event = false

bucket_same : (b : ℕ) (event : Event) (row : Option ℕ) → is_link event ≡ false → bucket_by b event row ≡ row
bucket_same b (events.Link root slot) row h = absurd (cc)
bucket_same b event row h = refl

head_same : (event : Event) (row : ℕ) → is_link event ≡ false → head_by event row ≡ row
head_same (events.Link root slot) row h = absurd (cc)
head_same event row h = refl

tail_same : (event : Event) (row : ℕ) → is_link event ≡ false → tail_by event row ≡ row
tail_same (events.Link root slot) row h = absurd (cc)
tail_same event row h = refl

root_same : (c : Config) (call : Option Call) (p : Past) (k : ℕ) (event : Event) → is_link event ≡ false →
    root_row c call (Then p k event) ≡ root_row c call p
root_same c (Some (calls.Get key)) p k event h = bucket_same (key % c.buckets) event (bucket_at (key % c.buckets) p) h
root_same c (Some (calls.Put key value)) p k event h = bucket_same (key % c.buckets) event (bucket_at (key % c.buckets) p) h
root_same c (Some (calls.Remove key)) p k event h = bucket_same (key % c.buckets) event (bucket_at (key % c.buckets) p) h
root_same c (Some (calls.PutIf key value version)) p k event h = bucket_same (key % c.buckets) event (bucket_at (key % c.buckets) p) h
root_same c (Some (calls.Hold key)) p k event h = bucket_same (key % c.buckets) event (bucket_at (key % c.buckets) p) h
root_same c (Some (calls.Enqueue value)) p k event h = ap Some (tail_same event (tail_at c.slots p) h)
root_same c (Some calls.Dequeue) p k event h = ap Some (head_same event (head_at c.slots p) h)
root_same c call p k event h = refl

-- what holds is held
held-now : (test : Test) (f : Past → Bool) (p : Past) → f p ≡ true → held_since test f p ≡ true
held-now test f Start h = h
held-now test f (Then p k event) h = ap (λ b. b || (not (test p k event) && held_since test f p)) h

-- what a root may have is told apart by its place
same-place : (v found : Option ℕ) → same_value v found ≡ (place_of v == place_of found)
same-place None None = refl
same-place None (Some row) = grind (arith, nat_tests)
same-place (Some row) None = grind (arith, nat_tests)
same-place (Some row) (Some other) = grind (arith, nat_tests)

-- an entry at which the call stays the same: `now`: whether the root has this after it
kept : (c : Config) (i k : ℕ) (p : Past) (event : Event) (call : Option Call) (v : Option ℕ) (cell new begun : ℕ) →
    begins i p k event ≡ false →
    has_had c i p call v ≡ (looks call && cell == begun) →
    ((looks call ≡ true) → held_since (begins i) (λ (q : Past). same_value v (root_row c call q)) p ≡ (cell == begun) →
    (same_value v (root_row c call (Then p k event)) || cell == begun) ≡ (new == begun)) →
    has_had c i (Then p k event) call v ≡ (looks call && new == begun)
kept c i k p event call v cell new begun quiet was step =
    had_held c i (Then p k event) call v ∙ by (looks call) refl
  where
    by : (b : Bool) → looks call ≡ b →
        (b && held_since (begins i) (λ (q : Past). same_value v (root_row c call q)) (Then p k event)) ≡ (b && new == begun)
    by true look =
        let before : held_since (begins i) (λ (q : Past). same_value v (root_row c call q)) p ≡ (cell == begun) =
        ap (λ b. b && held_since (begins i) (λ (q : Past). same_value v (root_row c call q)) p) (sym look)
        ∙ sym (had_held c i p call v) ∙ was ∙ ap (λ b. b && cell == begun) look in
        ap (λ b. same_value v (root_row c call (Then p k event)) || (not b && held_since (begins i) (λ (q : Past). same_value v (root_row c call q)) p)) quiet
        ∙ ap (λ b. same_value v (root_row c call (Then p k event)) || b) before
        ∙ step look before
    by false look = refl

-- what the root has had at an entry that does not change it
unmoved : (now : Bool) (held : Bool) (x : Bool) → (now ≡ true → held ≡ true) → held ≡ x → (now || x) ≡ x
unmoved true held x h e = sym (sym e ∙ h refl)
unmoved false held x h e = refl

either-at_most : (b : Bool) (x y n : ℕ) → x ≤ n → y ≤ n → (if b then x else y) ≤ n
either-at_most true x y n h k = h
either-at_most false x y n h k = k

same-refl : (n : ℕ) → true ≡ (n == n)
same-refl n = grind (arith, nat_tests)

-- a call begins: of all that a root may have it has had what it has
begun : (c : Config) (i k : ℕ) (p : Past) (call : Call) (found v : Option ℕ) (cell : ℕ) → (i == k) ≡ true → found ≡ root_row c (Some call) p → cell ≤ entries p →
    has_had c i (Then p k (events.Begin call)) (Some call) v
    ≡ (looks (Some call) && (if place_of v == place_of found then entries p + 1 else cell) == entries p + 1)
begun c i k p call found v cell own is low =
    had_held c i (Then p k (events.Begin call)) (Some call) v
    ∙ ap (λ b. looks (Some call) && (same_value v (root_row c (Some call) (Then p k (events.Begin call)))
    || (not b && held_since (begins i) (λ (q : Past). same_value v (root_row c (Some call) q)) p))) own
    ∙ ap (λ b. looks (Some call) && b) (alone _)
    ∙ ap (λ o. looks (Some call) && same_value v o) (root_same c (Some call) p k (events.Begin call) refl ∙ sym is)
    ∙ ap (λ b. looks (Some call) && b) (same-place v found ∙ stamped (place_of v == place_of found))
  where
    alone : (b : Bool) → (b || false) ≡ b
    alone true = refl
    alone false = refl

    stamped : (b : Bool) → b ≡ ((if b then entries p + 1 else cell) == entries p + 1)
    stamped true = same-refl (entries p + 1)
    stamped false = grind (arith, nat_tests)

-- a root has a new row
linked : (v row : Option ℕ) (slot cell begun : ℕ) (at held : Bool) → (same_value v row ≡ true → held ≡ true) → held ≡ (cell == begun) →
    (same_value v (if at then Some slot else row) || cell == begun) ≡ ((if at && place_of v == slot + 1 then begun else cell) == begun)
linked v row slot cell begun true held now before =
    ap (λ b. b || cell == begun) (same-place v (Some slot)) ∙ stamped (place_of v == slot + 1)
  where
    stamped : (b : Bool) → (b || cell == begun) ≡ ((if b then begun else cell) == begun)
    stamped true = same-refl begun
    stamped false = refl
linked v row slot cell begun false held now before = unmoved (same_value v row) held (cell == begun) now before

-- the roots stay as they are, and so do the cells
same_roots : (c : Config) (i k : ℕ) (p : Past) (event : Event) (call : Option Call) (v : Option ℕ) (cell : ℕ) →
    begins i p k event ≡ false → is_link event ≡ false → has_had c i p call v ≡ (looks call && cell == since (begins i) p) →
    has_had c i (Then p k event) call v ≡ (looks call && cell == since (begins i) p)
same_roots c i k p event call v cell quiet h was =
    kept c i k p event call v cell cell (since (begins i) p) quiet was (λ look before.
    ap (λ o. same_value v o || cell == since (begins i) p) (root_same c call p k event h)
    ∙ unmoved (same_value v (root_row c call p)) _ (cell == since (begins i) p) (λ now. held-now (begins i) (λ (q : Past). same_value v (root_row c call q)) p now) before)

later : (cell n : ℕ) → cell ≤ n → cell ≤ n + 1
later cell n h = omega arith

pub had_told : (c : Config) (i k : ℕ) (p : Past) (event : Event) (found : Option ℕ) (of : Seat) (v : Option ℕ) (cell : ℕ) →
    IsSeat i p of → IsFound c event found p → IsHad c i v p cell →
    IsHad c i v (Then p k event) (had_after c.buckets i of (place_of v) k event found (entries p + 1) cell)
had_told c i k p (events.Begin call) found of v cell seat is had = record {
  before = either-at_most (i == k && place_of v == place_of found) (entries p + 1) cell (entries p + 1) (omega arith) (later cell (entries p) had.before);
  had = elim (i == k) as (λ b. (i == k) ≡ b → has_had c i (Then p k (events.Begin call)) (if b then Some call else began_of i p) v
      ≡ (looks (if b then Some call else began_of i p) && (if b && place_of v == place_of found then entries p + 1 else cell) == (if b then entries p + 1 else since (begins i) p))) [
        | true ↦ λ t. begun c i k p call found v cell t is had.before
        | false ↦ λ t. same_roots c i k p (events.Begin call) (began_of i p) v cell t refl had.had
      ] refl;
}
had_told c i k p (events.Link root slot) found of v cell seat is had = record {
  before = either-at_most (looks_at c.buckets of.call root && place_of v == slot + 1) of.begun cell (entries p + 1)
      (later of.begun (entries p) (subst (λ n. n ≤ entries p) (sym seat.begun) (since-at_most (begins i) p))) (later cell (entries p) had.before);
  had = subst (λ (call : Option Call). has_had c i (Then p k (events.Link root slot)) call v
      ≡ (looks call && (if looks_at c.buckets of.call root && place_of v == slot + 1 then of.begun else cell) == since (begins i) p))
      (sym (same_either (i == k) (began_of i p)))
      (subst (λ (call : Option Call). has_had c i (Then p k (events.Link root slot)) (began_of i p) v
      ≡ (looks (began_of i p) && (if looks_at c.buckets call root && place_of v == slot + 1 then of.begun else cell) == since (begins i) p))
      (sym seat.call)
      (subst (λ n. has_had c i (Then p k (events.Link root slot)) (began_of i p) v
      ≡ (looks (began_of i p) && (if looks_at c.buckets (began_of i p) root && place_of v == slot + 1 then n else cell) == since (begins i) p))
      (sym seat.begun)
      (kept c i k p (events.Link root slot) (began_of i p) v cell _ (since (begins i) p) refl had.had (λ look before.
      ap (λ o. same_value v o || cell == since (begins i) p) (root_linked c (began_of i p) p k root slot)
      ∙ linked v (root_row c (began_of i p) p) slot cell (since (begins i) p) (looks_at c.buckets (began_of i p) root) _
      (λ now. held-now (begins i) (λ (q : Past). same_value v (root_row c (began_of i p) q)) p now) before))));
}
had_told c i k p event found of v cell seat is had = record {
  before = later cell (entries p) had.before;
  had = subst (λ (call : Option Call). has_had c i (Then p k event) call v ≡ (looks call && cell == since (begins i) p))
      (sym (same_either (i == k) (began_of i p)))
      (same_roots c i k p event (began_of i p) v cell refl refl had.had);
}
