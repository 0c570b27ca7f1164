-- A move of rows changes the rows as what it tells changes the record's.
use Rattle.std.proofs.Common.{ℕ, zero, suc, ◌≡◌, Bool, true, false, List, [], ◌∷◌, ◌++◌, refl, sym, ap, subst, ◌∙◌, arith}
use Rattle.std.proofs.lemmas.Bool.Decides.{nat_tests}
use Rattle.std.specs.Prelude.{◌==◌, if◌then◌else◌}
use Rattle.std.specs.List.{remove}
use Rattle.laws.specs.defs.declared.lifetime.Lifetime.{Lifetime}
use Rattle.inv_all.specs.rows.Hands.{no_entry, each_once, in_list, stands_at}
use Rattle.inv_all.specs.rows.Rows.{Status, View, RowMove, made, is_taken, passed}
use Rattle.inv_all.specs.rows.Rows.Status.{Free, Claimed, Born, Linked, InQueue, Cut, Sealed, Listed}
use Rattle.inv_all.specs.rows.Rows.RowMove.{Stays, Claims, Bears, Drops, Links, Replaces, Appends, Pops, Reads, Seals, Lists, Returns, Adopts}
use Rattle.inv_all.proofs.rows.Fits.{MoveFits}
use Rattle.inv_all.proofs.rows.Made.{passed_taken}
use Rattle.inv_all.specs.ends.Told.{row_events}
use Rattle.laws.specs.Lists.{list_by, without, has_slot}
use Rattle.laws.specs.StateAt.{taken_by, retired_by}
use Rattle.law_reuse.specs.Rows.{is_listed, is_cut}
use Rattle.laws.proofs.Along.{along}

-- a row in a list that is taken over stays one
passed_listed : (from to : ℕ) (x : Status) → is_listed (passed from to x) ≡ is_listed x
passed_listed from to Free = refl
passed_listed from to (Claimed by) = refl
passed_listed from to (Born by) = refl
passed_listed from to (Linked bucket) = refl
passed_listed from to InQueue = refl
passed_listed from to (Cut by) = refl
passed_listed from to (Sealed by retire) = refl
passed_listed from to (Listed by retire) = refl

passed_cut : (k from to : ℕ) (x : Status) → is_cut k (passed from to x) ≡ is_cut k x
passed_cut k from to Free = refl
passed_cut k from to (Claimed by) = refl
passed_cut k from to (Born by) = refl
passed_cut k from to (Linked bucket) = refl
passed_cut k from to InQueue = refl
passed_cut k from to (Cut by) = refl
passed_cut k from to (Sealed by retire) = refl
passed_cut k from to (Listed by retire) = refl

-- where a move changes one row
here : (s slot : ℕ) → (s == slot) ≡ true → slot ≡ s
here s slot h = grind (arith, nat_tests)

at_here : (v : View) (s slot : ℕ) (x : Status) → (s == slot) ≡ true → v.status slot ≡ x → v.status s ≡ x
at_here v s slot x h e = subst (λ (k : ℕ). v.status k ≡ x) (here s slot h) e

-- a row that keeps being taken, or not
keeps_by : (f : Status → Bool) (v : View) (s slot : ℕ) (x y : Status) (same : Bool) → (s == slot) ≡ same → v.status slot ≡ x → f x ≡ f y → f (v.status s) ≡ f (if s == slot then y else v.status s)
keeps_by f v s slot x y true e h k = rw e (ap f (at_here v s slot x e h) ∙ k)
keeps_by f v s slot x y false e h k = rw e refl

turns_by : (f : Status → Bool) (v : View) (s slot : ℕ) (y : Status) (b : Bool) (same : Bool) → (s == slot) ≡ same → f y ≡ b → (if s == slot then b else f (v.status s)) ≡ f (if s == slot then y else v.status s)
turns_by f v s slot y b true e k = rw e (sym k)
turns_by f v s slot y b false e k = rw e refl

both_by : (f : Status → Bool) (v : View) (s slot old : ℕ) (x y a b : Status) (same : Bool) → (s == old) ≡ same → v.status slot ≡ x → f x ≡ f y → v.status old ≡ a → f a ≡ f b → f (v.status s) ≡ f (if s == old then b else if s == slot then y else v.status s)
both_by f v s slot old x y a b true e h k g q = rw e (ap f (at_here v s old a e g) ∙ q)
both_by f v s slot old x y a b false e h k g q = rw e (keeps_by f v s slot x y (s == slot) refl h k)

pub taken_made : (i : ℕ) (v : View) (m : RowMove) (birth s : ℕ) → MoveFits i v m → along (taken_by s) (row_events birth m) (is_taken (v.status s)) ≡ is_taken ((made i v m).status s)
taken_made i v Stays birth s f = refl
taken_made i v (Claims slot) birth s f = turns_by is_taken v s slot (Claimed i) true (s == slot) refl refl
taken_made i v (Bears slot born) birth s f = keeps_by is_taken v s slot (Claimed i) (Born i) (s == slot) refl f refl
taken_made i v (Drops slot) birth s f = turns_by is_taken v s slot Free false (s == slot) refl refl
taken_made i v (Links bucket slot) birth s f = keeps_by is_taken v s slot (Born i) (Linked bucket) (s == slot) refl f refl
taken_made i v (Replaces bucket slot old) birth s f = both_by is_taken v s slot old (Born i) (Linked bucket) (Linked bucket) (Cut i) (s == old) refl f.0 refl f.1 refl
taken_made i v (Appends slot) birth s f = keeps_by is_taken v s slot (Born i) InQueue (s == slot) refl f refl
taken_made i v (Pops slot next) birth s f = keeps_by is_taken v s slot InQueue (Cut i) (s == slot) refl f refl
taken_made i v (Reads slot born) birth s f = refl
taken_made i v (Seals slot born retire) birth s f = keeps_by is_taken v s slot (Cut i) (Sealed i retire) (s == slot) refl f refl
taken_made i v (Lists slot born retire) birth s f = keeps_by is_taken v s slot (Sealed i retire) (Listed i retire) (s == slot) refl f refl
taken_made i v (Returns slot) birth s f = turns_by is_taken v s slot Free false (s == slot) refl refl
taken_made i v (Adopts from) birth s f = sym (passed_taken from i (v.status s))

pub retired_made : (i : ℕ) (v : View) (m : RowMove) (birth s : ℕ) → MoveFits i v m → along (retired_by s) (row_events birth m) (is_listed (v.status s)) ≡ is_listed ((made i v m).status s)
retired_made i v Stays birth s f = refl
retired_made i v (Claims slot) birth s f = keeps_by is_listed v s slot Free (Claimed i) (s == slot) refl f refl
retired_made i v (Bears slot born) birth s f = keeps_by is_listed v s slot (Claimed i) (Born i) (s == slot) refl f refl
retired_made i v (Drops slot) birth s f = keeps_by is_listed v s slot (Born i) Free (s == slot) refl f refl
retired_made i v (Links bucket slot) birth s f = keeps_by is_listed v s slot (Born i) (Linked bucket) (s == slot) refl f refl
retired_made i v (Replaces bucket slot old) birth s f = both_by is_listed v s slot old (Born i) (Linked bucket) (Linked bucket) (Cut i) (s == old) refl f.0 refl f.1 refl
retired_made i v (Appends slot) birth s f = keeps_by is_listed v s slot (Born i) InQueue (s == slot) refl f refl
retired_made i v (Pops slot next) birth s f = keeps_by is_listed v s slot InQueue (Cut i) (s == slot) refl f refl
retired_made i v (Reads slot born) birth s f = refl
retired_made i v (Seals slot born retire) birth s f = keeps_by is_listed v s slot (Cut i) (Sealed i retire) (s == slot) refl f refl
retired_made i v (Lists slot born retire) birth s f = turns_by is_listed v s slot (Listed i retire) true (s == slot) refl refl
retired_made i v (Returns slot) birth s f = turns_by is_listed v s slot Free false (s == slot) refl refl
retired_made i v (Adopts from) birth s f = sym (passed_listed from i (v.status s))

-- the row that a move cuts, and the one that it puts on the list
abbrev pub cuts : RowMove → ℕ → Bool
cuts Stays s = false
cuts (Claims slot) s = false
cuts (Bears slot birth) s = false
cuts (Drops slot) s = false
cuts (Links bucket slot) s = false
cuts (Replaces bucket slot old) s = s == old
cuts (Appends slot) s = false
cuts (Pops slot next) s = s == slot
cuts (Reads slot birth) s = false
cuts (Seals slot birth retire) s = false
cuts (Lists slot birth retire) s = false
cuts (Returns slot) s = false
cuts (Adopts from) s = false

abbrev pub retires : RowMove → ℕ → Bool
retires Stays s = false
retires (Claims slot) s = false
retires (Bears slot birth) s = false
retires (Drops slot) s = false
retires (Links bucket slot) s = false
retires (Replaces bucket slot old) s = false
retires (Appends slot) s = false
retires (Pops slot next) s = false
retires (Reads slot birth) s = false
retires (Seals slot birth retire) s = false
retires (Lists slot birth retire) s = s == slot
retires (Returns slot) s = false
retires (Adopts from) s = false

-- a row that a seat has cut and not retired was so before, or is cut just now by this seat, and none is retired just now
pub record CutBefore (i k : ℕ) (v : View) (m : RowMove) (s : ℕ) : Type 0 where
  pub before : cuts m s ≡ false → is_cut k (v.status s) ≡ true
  pub now : cuts m s ≡ true → k ≡ i
  pub stays : retires m s ≡ false

cut_same : (i k : ℕ) (v : View) (m : RowMove) (s : ℕ) → cuts m s ≡ false → retires m s ≡ false → is_cut k (v.status s) ≡ true → CutBefore i k v m s
cut_same i k v m s c r h = record { before = λ f. h; now = λ t. absurd (cc); stays = r }

-- where the move leaves the row in no seat's hand to be retired
cut_no : (k : ℕ) (v : View) (s slot : ℕ) (y : Status) (same : Bool) → (s == slot) ≡ same → is_cut k y ≡ false → is_cut k (if s == slot then y else v.status s) ≡ true → ((s == slot) ≡ false) × (is_cut k (v.status s) ≡ true)
cut_no k v s slot y true e n h = let q : is_cut k y ≡ true = rw e at h in absurd (cc)
cut_no k v s slot y false e n h = let q : is_cut k (v.status s) ≡ true = rw e at h in (e, q)

cut_pop : (i k : ℕ) (v : View) (s slot next : ℕ) (same : Bool) → (s == slot) ≡ same → is_cut k (if s == slot then Cut i else v.status s) ≡ true → CutBefore i k v (Pops slot next) s
cut_pop i k v s slot next true e h = let q : (k == i) ≡ true = rw e at h in record { before = λ f. absurd (cc); now = λ t. grind (arith, nat_tests); stays = refl }
cut_pop i k v s slot next false e h = let q : is_cut k (v.status s) ≡ true = rw e at h in record { before = λ f. q; now = λ t. absurd (cc); stays = refl }

cut_replace : (i k : ℕ) (v : View) (s bucket slot old : ℕ) (same : Bool) → (s == old) ≡ same → is_cut k (if s == old then Cut i else if s == slot then Linked bucket else v.status s) ≡ true → CutBefore i k v (Replaces bucket slot old) s
cut_replace i k v s bucket slot old true e h = let q : (k == i) ≡ true = rw e at h in record { before = λ f. absurd (cc); now = λ t. grind (arith, nat_tests); stays = refl }
cut_replace i k v s bucket slot old false e h =
    let q : is_cut k (if s == slot then Linked bucket else v.status s) ≡ true = rw e at h in
    let r = cut_no k v s slot (Linked bucket) (s == slot) refl refl q in record { before = λ f. r.1; now = λ t. absurd (cc); stays = refl }

cut_seal : (i k : ℕ) (v : View) (s slot birth retire : ℕ) (same : Bool) → (s == slot) ≡ same → v.status slot ≡ Cut i → is_cut k (if s == slot then Sealed i retire else v.status s) ≡ true → CutBefore i k v (Seals slot birth retire) s
cut_seal i k v s slot birth retire true e f h =
    let q : (k == i) ≡ true = rw e at h in
    let x : is_cut k (v.status s) ≡ true = ap (is_cut k) (at_here v s slot (Cut i) e f) ∙ q in
    cut_same i k v (Seals slot birth retire) s refl refl x
cut_seal i k v s slot birth retire false e f h = let q : is_cut k (v.status s) ≡ true = rw e at h in cut_same i k v (Seals slot birth retire) s refl refl q

pub cut_made : (i k : ℕ) (v : View) (m : RowMove) (s : ℕ) → MoveFits i v m → is_cut k ((made i v m).status s) ≡ true → CutBefore i k v m s
cut_made i k v Stays s f h = cut_same i k v Stays s refl refl h
cut_made i k v (Claims slot) s f h = cut_same i k v (Claims slot) s refl refl (cut_no k v s slot (Claimed i) (s == slot) refl refl h).1
cut_made i k v (Bears slot birth) s f h = cut_same i k v (Bears slot birth) s refl refl (cut_no k v s slot (Born i) (s == slot) refl refl h).1
cut_made i k v (Drops slot) s f h = cut_same i k v (Drops slot) s refl refl (cut_no k v s slot Free (s == slot) refl refl h).1
cut_made i k v (Links bucket slot) s f h = cut_same i k v (Links bucket slot) s refl refl (cut_no k v s slot (Linked bucket) (s == slot) refl refl h).1
cut_made i k v (Replaces bucket slot old) s f h = cut_replace i k v s bucket slot old (s == old) refl h
cut_made i k v (Appends slot) s f h = cut_same i k v (Appends slot) s refl refl (cut_no k v s slot InQueue (s == slot) refl refl h).1
cut_made i k v (Pops slot next) s f h = cut_pop i k v s slot next (s == slot) refl h
cut_made i k v (Reads slot birth) s f h = cut_same i k v (Reads slot birth) s refl refl h
cut_made i k v (Seals slot birth retire) s f h = cut_seal i k v s slot birth retire (s == slot) refl f h
cut_made i k v (Lists slot birth retire) s f h = let r = cut_no k v s slot (Listed i retire) (s == slot) refl refl h in cut_same i k v (Lists slot birth retire) s refl r.0 r.1
cut_made i k v (Returns slot) s f h = cut_same i k v (Returns slot) s refl refl (cut_no k v s slot Free (s == slot) refl refl h).1
cut_made i k v (Adopts from) s f h = cut_same i k v (Adopts from) s refl refl (sym (passed_cut k from i (v.status s)) ∙ h)

-- a seat's list after a move of the seat, but for a list that it takes over
abbrev pub moved_list : RowMove → List Lifetime → List Lifetime
moved_list Stays list = list
moved_list (Claims slot) list = list
moved_list (Bears slot birth) list = list
moved_list (Drops slot) list = list
moved_list (Links bucket slot) list = list
moved_list (Replaces bucket slot old) list = list
moved_list (Appends slot) list = list
moved_list (Pops slot next) list = list
moved_list (Reads slot birth) list = list
moved_list (Seals slot birth retire) list = list
moved_list (Lists slot birth retire) list = list ++ record { slot = slot; birth = birth; retire = retire } ∷ []
moved_list (Returns slot) list = without slot list
moved_list (Adopts from) list = list

pub list_moved : (birth : ℕ) (m : RowMove) (list : List Lifetime) → along list_by (row_events birth m) list ≡ moved_list m list
list_moved birth Stays list = refl
list_moved birth (Claims slot) list = refl
list_moved birth (Bears slot born) list = refl
list_moved birth (Drops slot) list = refl
list_moved birth (Links bucket slot) list = refl
list_moved birth (Replaces bucket slot old) list = refl
list_moved birth (Appends slot) list = refl
list_moved birth (Pops slot next) list = refl
list_moved birth (Reads slot born) list = refl
list_moved birth (Seals slot born retire) list = refl
list_moved birth (Lists slot born retire) list = refl
list_moved birth (Returns slot) list = refl
list_moved birth (Adopts from) list = refl

-- the entry at a place is the only one of its slot
none_without : (slot : ℕ) (list : List Lifetime) → no_entry slot list ≡ true → without slot list ≡ list
none_without slot [] h = refl
none_without slot (life ∷ lives) h =
    let k : no_entry slot lives ≡ true = grind (arith, nat_tests) in
    let o : (life.slot == slot) ≡ false = grind (arith, nat_tests) in rw o (ap (λ (x : List Lifetime). life ∷ x) (none_without slot lives k))

other_slot : (life : Lifetime) (lives : List Lifetime) (place slot : ℕ) → no_entry life.slot lives ≡ true → stands_at lives place slot ≡ true → (life.slot == slot) ≡ false
other_slot life [] zero slot h e = absurd (cc)
other_slot life [] (suc place) slot h e = absurd (cc)
other_slot life (x ∷ lives) zero slot h e = grind (arith, nat_tests)
other_slot life (x ∷ lives) (suc place) slot h e = let k : no_entry life.slot lives ≡ true = grind (arith, nat_tests) in other_slot life lives place slot k e

pub removed : (list : List Lifetime) (place slot : ℕ) → each_once list ≡ true → stands_at list place slot ≡ true → remove list place ≡ without slot list
removed [] zero slot d e = absurd (cc)
removed [] (suc place) slot d e = absurd (cc)
removed (life ∷ lives) zero slot d e =
    let q : life.slot ≡ slot = grind (arith, nat_tests) in
    let o : (life.slot == slot) ≡ true = e in
    let n : no_entry life.slot lives ≡ true = grind (arith, nat_tests) in
    let m : no_entry slot lives ≡ true = subst (λ (s : ℕ). no_entry s lives ≡ true) q n in rw o (sym (none_without slot lives m))
removed (life ∷ lives) (suc place) slot d e =
    let k : each_once lives ≡ true = grind (arith, nat_tests) in
    let n : no_entry life.slot lives ≡ true = grind (arith, nat_tests) in
    let o : (life.slot == slot) ≡ false = other_slot life lives place slot n e in rw o (ap (λ (x : List Lifetime). life ∷ x) (removed lives place slot k e))

in_one : (slot birth retire : ℕ) (life : Lifetime) (lives : List Lifetime) (same : Bool) → (slot == life.slot) ≡ same → in_list (life ∷ lives) slot birth retire ≡ true → (in_list lives slot birth retire ≡ true → has_slot slot lives ≡ true) → has_slot slot (life ∷ lives) ≡ true
in_one slot birth retire life lives true e h f = let o : (life.slot == slot) ≡ true = grind (arith, nat_tests) in rw o refl
in_one slot birth retire life lives false e h f =
    let k : in_list lives slot birth retire ≡ true = rw e at h in
    let q = f k in grind (arith, nat_tests, q)

pub in_has : (list : List Lifetime) (slot birth retire : ℕ) → in_list list slot birth retire ≡ true → has_slot slot list ≡ true
in_has [] slot birth retire h = absurd (cc)
in_has (life ∷ lives) slot birth retire h = in_one slot birth retire life lives (slot == life.slot) refl h (in_has lives slot birth retire)
