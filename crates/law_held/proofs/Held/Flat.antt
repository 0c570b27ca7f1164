-- What stands is held at the positions within a step, by the order of what it tells.
use Rattle.std.proofs.Common.{ℕ, ◌≡◌, Bool, true, false, List, [], ◌∷◌, ◌++◌, Option, Some, None, refl, sym, ap, ◌∙◌, subst, arith}
use Rattle.std.proofs.lemmas.Bool.Decides.{nat_tests}
use Rattle.std.specs.List.{list_any}
use Rattle.std.specs.Prelude.{◌==◌, ◌&&◌, ◌||◌, not, if◌then◌else◌}
use Rattle.law_scans.specs.inv.model.words.declared.config.Config.{Config}
use Rattle.law_scans.specs.inv.model.defs.declared.event.Event.{Event}
use Rattle.law_scans.specs.inv.model.defs.declared.event.Event.TheVariants as events
use Rattle.law_scans.proofs.inv.model.Facts.{first_of, rest_of, implies_or, or_left_true, or_more}
use Rattle.law_scans.specs.laws.HoldLaw.{is_held}
use Rattle.law_scans.specs.laws.records.Record.{Past, Test, Each, tells_of}
use Rattle.law_scans.specs.laws.records.Record.Past.{Then}
use Rattle.law_scans.proofs.reuse.history.AllOf.{all_of}
use Rattle.law_scans.proofs.laws.Tells.{tells_both}
use Rattle.law_scans.specs.laws.StateAt.{stood_at, is_row}
use Rattle.law_scans.proofs.inv.Contents.Stands.Rounds.{is_clear}

-- an event that changes nothing of guards, lives and taken rows
abbrev pub is_flat : Event → Bool
is_flat (events.Reserve guard span) = false
is_flat (events.Hazard guard slot) = false
is_flat (events.Give slot birth) = false
is_flat (events.Unused slot) = false
is_flat (events.Retire slot birth retire) = false
is_flat (events.Back slot) = false
is_flat event = true

-- nor of what stands
abbrev pub is_settled : Event → Bool
is_settled (events.Held index slot steps) = false
is_settled (events.Copied from index slot) = false
is_settled (events.Clear index slot) = false
is_settled event = is_flat event

-- a row stands only at this index
abbrev pub is_at : ℕ → Event → Bool
is_at at (events.Held index slot steps) = index == at
is_at at (events.Copied from index slot) = index == at
is_at at event = is_settled event

-- the row comes to stand at the index
abbrev pub comes : (j s : ℕ) → Event → Bool
comes j s (events.Held index slot steps) = (index == j) && (slot == s)
comes j s (events.Copied from index slot) = (index == j) && (slot == s)
comes j s event = false

-- what stands is held
abbrev pub holds_ok : Config → (k j s : ℕ) → Test
holds_ok c k j s p i event = not (is_row s (stood_at k j p)) || is_held c k j s p

abbrev pub Good : Config → (k j s : ℕ) → Past → Type 0
Good c k j s p = is_row s (stood_at k j p) ≡ true → is_held c k j s p ≡ true

pub settled_flat : (event : Event) → is_settled event ≡ true → is_flat event ≡ true
settled_flat (events.Held index slot steps) h = refl
settled_flat (events.Copied from index slot) h = refl
settled_flat (events.Clear index slot) h = refl
settled_flat event h = h

at_flat : (at : ℕ) (event : Event) → is_at at event ≡ true → is_flat event ≡ true
at_flat at (events.Held index slot steps) h = refl
at_flat at (events.Copied from index slot) h = refl
at_flat at (events.Clear index slot) h = refl
at_flat at event h = h

clearing_flat : (event : Event) → is_clear event ≡ true → is_flat event ≡ true
clearing_flat (events.Clear index slot) h = refl
clearing_flat event h = absurd (cc)

flat_held : (c : Config) (k j s : ℕ) (q : Past) (i : ℕ) (event : Event) → is_flat event ≡ true → is_held c k j s (Then q i event) ≡ is_held c k j s q
flat_held c k j s q i (events.Reserve guard span) h = absurd (cc)
flat_held c k j s q i (events.Hazard guard slot) h = absurd (cc)
flat_held c k j s q i (events.Give slot birth) h = absurd (cc)
flat_held c k j s q i (events.Unused slot) h = absurd (cc)
flat_held c k j s q i (events.Retire slot birth retire) h = absurd (cc)
flat_held c k j s q i (events.Back slot) h = absurd (cc)
flat_held c k j s q i event h = refl

flat_helds : (c : Config) (k j s i : ℕ) (es : List Event) (q : Past) → all_of is_flat es ≡ true → is_held c k j s (tells_of q i es) ≡ is_held c k j s q
flat_helds c k j s i [] q h = refl
flat_helds c k j s i (event ∷ es) q h = flat_helds c k j s i es (Then q i event) (rest_of (is_flat event) (all_of is_flat es) h) ∙ flat_held c k j s q i event (first_of (is_flat event) (all_of is_flat es) h)

-- one event more
told_by : (j s index slot : ℕ) → (j == index) ≡ true → (s == slot) ≡ true → ((index == j) && (slot == s)) ≡ true
told_by j s index slot a b = grind (arith, nat_tests)

held_row : (j s index slot : ℕ) (x : Option ℕ) (own same : Bool) (y : Bool) → (j == index) ≡ same → (is_row s x ≡ true → y ≡ true) → (((index == j) && (slot == s)) ≡ true → own ≡ true → y ≡ true) → is_row s (if own then (if same then Some slot else x) else x) ≡ true → y ≡ true
held_row j s index slot x true true y e g t h = t (told_by j s index slot e h) refl
held_row j s index slot x true false y e g t h = g h
held_row j s index slot x false same y e g t h = g h

clear_row : (s : ℕ) (x : Option ℕ) (own same : Bool) (y : Bool) → (is_row s x ≡ true → y ≡ true) → is_row s (if own then (if same then None else x) else x) ≡ true → y ≡ true
clear_row s x true true y g h = absurd (cc)
clear_row s x true false y g h = g h
clear_row s x false same y g h = g h

same_row : (s : ℕ) (x : Option ℕ) (own : Bool) (y : Bool) → (is_row s x ≡ true → y ≡ true) → is_row s (if own then x else x) ≡ true → y ≡ true
same_row s x true y g h = g h
same_row s x false y g h = g h

one_row : (k j s i : ℕ) (event : Event) (q : Past) (y : Bool) → (is_row s (stood_at k j q) ≡ true → y ≡ true) → (comes j s event ≡ true → (k == i) ≡ true → y ≡ true) → is_row s (stood_at k j (Then q i event)) ≡ true → y ≡ true
one_row k j s i (events.Held index slot steps) q y g t h = held_row j s index slot (stood_at k j q) (k == i) (j == index) y refl g t h
one_row k j s i (events.Copied from index slot) q y g t h = held_row j s index slot (stood_at k j q) (k == i) (j == index) y refl g t h
one_row k j s i (events.Clear index slot) q y g t h = clear_row s (stood_at k j q) (k == i) (j == index) y g h
one_row k j s i event q y g t h = same_row s (stood_at k j q) (k == i) y g h

-- while guards and lives stay, what stands is held if it was, and what is told to stand is held
pub flat_each : (c : Config) (k j s i : ℕ) (es : List Event) (q : Past) → all_of is_flat es ≡ true → Good c k j s q → (list_any (comes j s) es ≡ true → (k == i) ≡ true → is_held c k j s q ≡ true) → Each (holds_ok c k j s) q → Each (holds_ok c k j s) (tells_of q i es) × Good c k j s (tells_of q i es)
flat_each c k j s i [] q f g t h = (h, g)
flat_each c k j s i (event ∷ es) q f g t h =
    let same : is_held c k j s (Then q i event) ≡ is_held c k j s q = flat_held c k j s q i event (first_of (is_flat event) (all_of is_flat es) f) in
    let next : Good c k j s (Then q i event) = λ r. same ∙ one_row k j s i event q (is_held c k j s q) g (λ e o. t (or_left_true (comes j s event) (list_any (comes j s) es) e) o) r in
    flat_each c k j s i es (Then q i event) (rest_of (is_flat event) (all_of is_flat es) f) next (λ e o. same ∙ t (or_more (comes j s event) (list_any (comes j s) es) e) o)
    (implies_or (is_row s (stood_at k j q)) (is_held c k j s q) g, h)

pub all_flat : (f : Event → Bool) (es : List Event) → ((event : Event) → f event ≡ true → is_flat event ≡ true) → all_of f es ≡ true → all_of is_flat es ≡ true
all_flat f [] w h = refl
all_flat f (event ∷ es) w h =
    let a : is_flat event ≡ true = w event (first_of (f event) (all_of f es) h) in
    let b : all_of is_flat es ≡ true = all_flat f es w (rest_of (f event) (all_of f es) h) in rw (a, b) refl

abbrev NoneOne : (j s : ℕ) (f : Event → Bool) → Type 0
NoneOne j s f = (event : Event) → f event ≡ true → comes j s event ≡ false

none_any : (j s : ℕ) (f : Event → Bool) (es : List Event) → NoneOne j s f → all_of f es ≡ true → list_any (comes j s) es ≡ false
none_any j s f [] w h = refl
none_any j s f (event ∷ es) w h =
    let a : comes j s event ≡ false = w event (first_of (f event) (all_of f es) h) in
    let b : list_any (comes j s) es ≡ false = none_any j s f es w (rest_of (f event) (all_of f es) h) in rw (a, b) refl

settled_none : (j s : ℕ) → NoneOne j s is_settled
settled_none j s (events.Held index slot steps) h = absurd (cc)
settled_none j s (events.Copied from index slot) h = absurd (cc)
settled_none j s event h = refl

clearing_none : (j s : ℕ) → NoneOne j s is_clear
clearing_none j s (events.Held index slot steps) h = absurd (cc)
clearing_none j s (events.Copied from index slot) h = absurd (cc)
clearing_none j s event h = refl

never : (x y : Bool) → x ≡ false → x ≡ true → y ≡ true
never x y e h = absurd (cc)

either_same : (x : Option ℕ) (own : Bool) → (if own then x else x) ≡ x
either_same x true = refl
either_same x false = refl

-- what stands stays
settled_stood : (k j i : ℕ) (event : Event) (q : Past) → is_settled event ≡ true → stood_at k j (Then q i event) ≡ stood_at k j q
settled_stood k j i (events.Held index slot steps) q h = absurd (cc)
settled_stood k j i (events.Copied from index slot) q h = absurd (cc)
settled_stood k j i (events.Clear index slot) q h = absurd (cc)
settled_stood k j i event q h = either_same (stood_at k j q) (k == i)

apart_by : (x y : Option ℕ) (own same : Bool) → (own && same) ≡ false → (if own then (if same then y else x) else x) ≡ x
apart_by x y true true e = absurd (cc)
apart_by x y true false e = refl
apart_by x y false same e = refl

same_index : (j index at : ℕ) (own : Bool) → (index == at) ≡ true → (own && (j == at)) ≡ false → (own && (j == index)) ≡ false
same_index j index at own h e = let q : index ≡ at = grind (arith, nat_tests) in subst (λ (n : ℕ). (own && (j == n)) ≡ false) (sym q) e

at_stood : (k j i at : ℕ) (event : Event) (q : Past) → is_at at event ≡ true → ((k == i) && (j == at)) ≡ false → stood_at k j (Then q i event) ≡ stood_at k j q
at_stood k j i at (events.Held index slot steps) q h e = apart_by (stood_at k j q) (Some slot) (k == i) (j == index) (same_index j index at (k == i) h e)
at_stood k j i at (events.Copied from index slot) q h e = apart_by (stood_at k j q) (Some slot) (k == i) (j == index) (same_index j index at (k == i) h e)
at_stood k j i at (events.Clear index slot) q h e = absurd (cc)
at_stood k j i at event q h e = either_same (stood_at k j q) (k == i)

settled_stoods : (k j i : ℕ) (es : List Event) (q : Past) → all_of is_settled es ≡ true → stood_at k j (tells_of q i es) ≡ stood_at k j q
settled_stoods k j i [] q h = refl
settled_stoods k j i (event ∷ es) q h = settled_stoods k j i es (Then q i event) (rest_of (is_settled event) (all_of is_settled es) h) ∙ settled_stood k j i event q (first_of (is_settled event) (all_of is_settled es) h)

at_stoods : (k j i at : ℕ) (es : List Event) (q : Past) → all_of (is_at at) es ≡ true → ((k == i) && (j == at)) ≡ false → stood_at k j (tells_of q i es) ≡ stood_at k j q
at_stoods k j i at [] q h e = refl
at_stoods k j i at (event ∷ es) q h e = at_stoods k j i at es (Then q i event) (rest_of (is_at at event) (all_of (is_at at) es) h) e ∙ at_stood k j i at event q (first_of (is_at at event) (all_of (is_at at) es) h) e

-- what is held at the end, while guards, lives and what stands stay, is held now
back_good : (c : Config) (k j s i : ℕ) (es : List Event) (q : Past) → all_of is_flat es ≡ true → stood_at k j (tells_of q i es) ≡ stood_at k j q → Good c k j s (tells_of q i es) → Good c k j s q
back_good c k j s i es q f e g r = sym (flat_helds c k j s i es q f) ∙ g (ap (is_row s) e ∙ r)

-- rows are cleared, a guard or a life changes, and then nothing that stands
pub late_each : (c : Config) (k j s i : ℕ) (first more : List Event) (x : Event) (q : Past) → all_of is_clear first ≡ true → all_of is_settled more ≡ true → Good c k j s q → Good c k j s (tells_of q i (first ++ x ∷ more)) → Each (holds_ok c k j s) q → Each (holds_ok c k j s) (tells_of q i (first ++ x ∷ more))
late_each c k j s i first more x q f m g e h =
    let a = flat_each c k j s i first q (all_flat is_clear first clearing_flat f) g (λ t o. never (list_any (comes j s) first) (is_held c k j s q) (none_any j s is_clear first (clearing_none j s) f) t) h in
    let mid : Past = tells_of q i first in
    let next : Past = Then mid i x in
    let flat : all_of is_flat more ≡ true = all_flat is_settled more settled_flat m in
    let two : tells_of q i (first ++ x ∷ more) ≡ tells_of next i more = tells_both i first (x ∷ more) q in
    let end : Good c k j s (tells_of next i more) = subst (Good c k j s) two e in
    let good : Good c k j s next = back_good c k j s i more next flat (settled_stoods k j i more next m) end in
    let b = flat_each c k j s i more next flat good (λ t o. never (list_any (comes j s) more) (is_held c k j s next) (none_any j s is_settled more (settled_none j s) m) t)
    (implies_or (is_row s (stood_at k j mid)) (is_held c k j s mid) a.1, a.0) in
    subst (Each (holds_ok c k j s)) (sym two) b.0

-- an event that changes nothing of what stands
abbrev pub is_still : Event → Bool
is_still (events.Held index slot steps) = false
is_still (events.Copied from index slot) = false
is_still (events.Clear index slot) = false
is_still event = true

still_stood : (k j i : ℕ) (event : Event) (q : Past) → is_still event ≡ true → stood_at k j (Then q i event) ≡ stood_at k j q
still_stood k j i (events.Held index slot steps) q h = absurd (cc)
still_stood k j i (events.Copied from index slot) q h = absurd (cc)
still_stood k j i (events.Clear index slot) q h = absurd (cc)
still_stood k j i event q h = either_same (stood_at k j q) (k == i)

-- an index publishes at which nothing stands, and then a row stands there
taken_good : (c : Config) (k j s i at : ℕ) (x : Event) (more : List Event) (q : Past) (here : Bool) → ((k == i) && (j == at)) ≡ here → is_still x ≡ true → all_of (is_at at) more ≡ true → (here ≡ true → stood_at k j q ≡ None) → Good c k j s (tells_of (Then q i x) i more) → Good c k j s (Then q i x)
taken_good c k j s i at x more q true e z m n g r =
    let t : is_row s None ≡ true = ap (is_row s) (sym (still_stood k j i x q z ∙ n refl)) ∙ r in absurd (cc)
taken_good c k j s i at x more q false e z m n g r =
    back_good c k j s i more (Then q i x) (all_flat (is_at at) more (at_flat at) m) (at_stoods k j i at more (Then q i x) m e) g r

pub take_each : (c : Config) (k j s i at : ℕ) (x : Event) (more : List Event) (q : Past) → is_still x ≡ true → all_of (is_at at) more ≡ true → (((k == i) && (j == at)) ≡ true → stood_at k j q ≡ None) → Good c k j s q → Good c k j s (tells_of (Then q i x) i more)
    → (list_any (comes j s) more ≡ true → (k == i) ≡ true → is_row s (stood_at k j (tells_of (Then q i x) i more)) ≡ true) → Each (holds_ok c k j s) q → Each (holds_ok c k j s) (tells_of (Then q i x) i more)
take_each c k j s i at x more q z m n g e t h =
    let next : Past = Then q i x in
    let flat : all_of is_flat more ≡ true = all_flat (is_at at) more (at_flat at) m in
    let b = flat_each c k j s i more next flat (taken_good c k j s i at x more q ((k == i) && (j == at)) refl z m n e) (λ a o. sym (flat_helds c k j s i more next flat) ∙ e (t a o))
    (implies_or (is_row s (stood_at k j q)) (is_held c k j s q) g, h) in
    b.0

-- rows are cleared, then an index publishes at which nothing stands any more, and then a row stands there
pub copy_each : (c : Config) (k j s i at : ℕ) (x : Event) (first more : List Event) (q : Past) → is_still x ≡ true → all_of is_clear first ≡ true → all_of (is_at at) more ≡ true → (((k == i) && (j == at)) ≡ true → stood_at k j (tells_of q i first) ≡ None) → Good c k j s q → Good c k j s (tells_of q i (first ++ x ∷ more))
    → (list_any (comes j s) more ≡ true → (k == i) ≡ true → is_row s (stood_at k j (tells_of q i (first ++ x ∷ more))) ≡ true) → Each (holds_ok c k j s) q → Each (holds_ok c k j s) (tells_of q i (first ++ x ∷ more))
copy_each c k j s i at x first more q z f m n g e t h =
    let a = flat_each c k j s i first q (all_flat is_clear first clearing_flat f) g (λ b o. never (list_any (comes j s) first) (is_held c k j s q) (none_any j s is_clear first (clearing_none j s) f) b) h in
    let mid : Past = tells_of q i first in
    let two : tells_of q i (first ++ x ∷ more) ≡ tells_of (Then mid i x) i more = tells_both i first (x ∷ more) q in
    subst (Each (holds_ok c k j s)) (sym two)
    (take_each c k j s i at x more mid z m n a.1 (subst (Good c k j s) two e) (λ b o. subst (λ (p : Past). is_row s (stood_at k j p) ≡ true) two (t b o)) a.0)

-- guards and lives stay throughout
pub plain_each : (c : Config) (k j s i : ℕ) (es : List Event) (q : Past) → all_of is_flat es ≡ true → Good c k j s q → Good c k j s (tells_of q i es) → (list_any (comes j s) es ≡ true → (k == i) ≡ true → is_row s (stood_at k j (tells_of q i es)) ≡ true) → Each (holds_ok c k j s) q → Each (holds_ok c k j s) (tells_of q i es)
plain_each c k j s i es q f g e t h =
    let b = flat_each c k j s i es q f g (λ a o. sym (flat_helds c k j s i es q f) ∙ e (t a o)) h in b.0
